-- Document 01, "Tokens and grammar": the symbols of a tree in the order of the grammar, a comma between each two slots and none behind the last;
-- and the token that a symbol is spelled as. Assumes nothing.
use Rattle.std.specs.Prelude.{List, [], ◌∷◌, ◌++◌, map, ℕ, zero, suc, get_or}
use Rattle.framed.specs.Tokens.{Token, Fixed}
use Rattle.framed.specs.Symbols.{Symbol}
use Rattle.framed.specs.Tree.{Written, Base, Expression, Slots, Instruction, Code, ◌then◌}

abbrev pub mark : Fixed → Symbol
mark f = Symbol.fixed f

-- dot and name, for each name
unfoldable pub dotted_symbols : List ℕ → List Symbol
dotted_symbols [] = []
dotted_symbols (n ∷ ns) = mark Fixed.dot ∷ Symbol.name n ∷ dotted_symbols ns

-- dot and `^`, k times
unfoldable pub climb_symbols : ℕ → List Symbol
climb_symbols zero = []
climb_symbols (suc k) = mark Fixed.dot ∷ mark Fixed.up ∷ climb_symbols k

unfoldable pub path_symbols : Written → List Symbol
path_symbols (Written.self ns) = mark Fixed.self ∷ dotted_symbols ns
path_symbols (Written.up k ns) = mark Fixed.up ∷ climb_symbols k ++ dotted_symbols ns

unfoldable mutual
  pub base_symbols : Base Written → List Symbol
  base_symbols (Base.integer z) = Symbol.integer z ∷ []
  base_symbols (Base.string k) = Symbol.string k ∷ []
  base_symbols (Base.path w) = path_symbols w
  base_symbols (Base.code k is) = Symbol.code k ∷ mark Fixed.open_curly ∷ code_symbols is ++ (mark Fixed.close_curly ∷ [])

  pub expression_symbols : Expression Written → List Symbol
  expression_symbols (Expression.base b) = base_symbols b
  expression_symbols (Expression.not b) = mark Fixed.bang ∷ base_symbols b
  expression_symbols (Expression.operation o a b) = base_symbols a ++ (mark (Fixed.operator o) ∷ base_symbols b)
  expression_symbols (Expression.frame ss) =
      mark Fixed.frame ∷ mark Fixed.colon ∷ mark Fixed.open_square ∷ slots_symbols ss ++ (mark Fixed.close_square ∷ [])

  pub slots_symbols : Slots Written → List Symbol
  slots_symbols Slots.no_slots = []
  slots_symbols (Slots.slot n e ss) = Symbol.name n ∷ mark Fixed.assign ∷ expression_symbols e ++ further_symbols ss

  pub further_symbols : Slots Written → List Symbol
  further_symbols Slots.no_slots = []
  further_symbols (Slots.slot n e ss) = mark Fixed.comma ∷ Symbol.name n ∷ mark Fixed.assign ∷ expression_symbols e ++ further_symbols ss

  pub instruction_symbols : Instruction Written → List Symbol
  instruction_symbols (Instruction.assign w e) = path_symbols w ++ (mark Fixed.assign ∷ expression_symbols e)
  instruction_symbols (Instruction.show a) = mark Fixed.show ∷ base_symbols a
  instruction_symbols (Instruction.jump a b) = mark Fixed.jump ∷ base_symbols a ++ base_symbols b
  instruction_symbols (Instruction.ifeq a b c) = mark Fixed.ifeq ∷ base_symbols a ++ base_symbols b ++ base_symbols c

  pub code_symbols : Code Written → List Symbol
  code_symbols Code.finished = []
  code_symbols (i then is) = instruction_symbols i ++ (mark Fixed.semicolon ∷ code_symbols is)

-- of a source
unfoldable pub frame_symbols : Slots Written → List Symbol
frame_symbols ss = mark Fixed.frame ∷ mark Fixed.colon ∷ mark Fixed.open_square ∷ slots_symbols ss ++ (mark Fixed.close_square ∷ [])

-- the token of a symbol, with the names and the string literals that have the numbers
unfoldable pub spelled : List (List ℕ) → List (List ℕ) → Symbol → Token
spelled names literals (Symbol.name n) = Token.name (get_or names n [])
spelled names literals (Symbol.integer z) = Token.integer z
spelled names literals (Symbol.string k) = Token.string (get_or literals k [])
spelled names literals (Symbol.code k) = Token.code
spelled names literals (Symbol.fixed f) = Token.fixed f

abbrev pub spelled_all : List (List ℕ) → List (List ℕ) → List Symbol → List Token
spelled_all names literals ts = map (spelled names literals) ts
