-- Document 02, A1: a tree as it is written again: each path by `Writer.written-path`, all else as it was. `inner` is the place of what is written in a frame that is
-- this expression. And the form of a word. Assumes nothing.
use Rattle.std.specs.Prelude.{List, [], ◌∷◌}
use Rattle.framed.specs.Tokens.{Token, Fixed}
use Rattle.framed.specs.Tree.{Written, Base, Expression, Slots, Instruction, Code, ◌then◌}
use Rattle.framed.specs.Paths.{Place, within_slot, within_code, resolve_path}
use Rattle.framed.specs.Writer.{Word, written_path}

abbrev pub rewritten_path : Place → Written → Written
rewritten_path place w = written_path place (resolve_path place w)

unfoldable mutual
  pub rewritten_base : Place → Base Written → Base Written
  rewritten_base place (Base.integer z) = Base.integer z
  rewritten_base place (Base.string k) = Base.string k
  rewritten_base place (Base.path w) = Base.path (rewritten_path place w)
  rewritten_base place (Base.code k is) = Base.code k (rewritten_code (within_code place) is)

  pub rewritten_expression : Place → Place → Expression Written → Expression Written
  rewritten_expression place inner (Expression.base b) = Expression.base (rewritten_base place b)
  rewritten_expression place inner (Expression.not b) = Expression.not (rewritten_base place b)
  rewritten_expression place inner (Expression.operation o a b) = Expression.operation o (rewritten_base place a) (rewritten_base place b)
  rewritten_expression place inner (Expression.frame ss) = Expression.frame (rewritten_slots inner ss)

  pub rewritten_slots : Place → Slots Written → Slots Written
  rewritten_slots place Slots.no_slots = Slots.no_slots
  rewritten_slots place (Slots.slot n e ss) = Slots.slot n (rewritten_expression place (within_slot n place) e) (rewritten_slots place ss)

  pub rewritten_instruction : Place → Instruction Written → Instruction Written
  rewritten_instruction place (Instruction.assign w e) = Instruction.assign (rewritten_path place w) (rewritten_expression place place e)
  rewritten_instruction place (Instruction.show a) = Instruction.show (rewritten_base place a)
  rewritten_instruction place (Instruction.jump a b) = Instruction.jump (rewritten_base place a) (rewritten_base place b)
  rewritten_instruction place (Instruction.ifeq a b c) =
      Instruction.ifeq (rewritten_base place a) (rewritten_base place b) (rewritten_base place c)

  pub rewritten_code : Place → Code Written → Code Written
  rewritten_code place Code.finished = Code.finished
  rewritten_code place (i then is) = rewritten_instruction place i then rewritten_code place is

-- a word: one token, or tokens with a dot between each two
pub data WordFormed : Word → Type 0 where
  single : {t : Token} → WordFormed (t ∷ [])
  dotted : {t u : Token} {w : Word} → WordFormed (u ∷ w) → WordFormed (t ∷ Token.fixed Fixed.dot ∷ u ∷ w)

pub data WordsFormed : List Word → Type 0 where
  none : WordsFormed []
  more : {w : Word} {ws : List Word} → WordFormed w → WordsFormed ws → WordsFormed (w ∷ ws)
