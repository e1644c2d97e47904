-- The symbols of a tree, with anything behind them, derive the tree. By induction over the tree. Assumes nothing.
use mathlib.Core.List.{List, [], ◌∷◌, ◌++◌, append_assoc}
use Prim.Native.Nat.{ℕ, zero, suc}
use Rattle.framed.specs.Tokens.{Fixed}
use Rattle.framed.specs.Symbols.{Symbol}
use Rattle.framed.specs.Tree.{Written, Base, Expression, Slots, Instruction, Code, ◌then◌}
use Rattle.framed.specs.Grammar.{Names⊢, Ups⊢, Path⊢, Base⊢, Expression⊢, Frame⊢, Slots⊢, Instruction⊢, Code⊢}
use Rattle.write_symbols.specs.Symbols.{mark, dotted_symbols, climb_symbols, path_symbols, base_symbols, expression_symbols, slots_symbols, further_symbols, instruction_symbols, code_symbols, frame_symbols}
use Rattle.write_symbols.specs.Theorems.{SymbolsDerive}

names_derive : (ns : List ℕ) (rest : List Symbol) → Names⊢ (dotted_symbols ns ++ rest) ns rest
unfolding dotted_symbols
names_derive [] rest = Names⊢.none
names_derive (n ∷ ns) rest = Names⊢.more (names_derive ns rest)

ups_derive : (k : ℕ) (rest : List Symbol) → Ups⊢ (climb_symbols k ++ rest) k rest
unfolding climb_symbols
ups_derive zero rest = Ups⊢.none
ups_derive (suc k) rest = Ups⊢.more (ups_derive k rest)

path_derives : (w : Written) (rest : List Symbol) → Path⊢ (path_symbols w ++ rest) w rest
unfolding path_symbols
path_derives (Written.self ns) rest = Path⊢.self (names_derive ns rest)
path_derives (Written.up k ns) rest =
    rw (append_assoc (climb_symbols k) (dotted_symbols ns) rest) (Path⊢.up (ups_derive k (dotted_symbols ns ++ rest)) (names_derive ns rest))

-- a slot and what follows it
slot_derives : (n : ℕ) (e : Expression Written) (ss : Slots Written) (rest : List Symbol) → ((us : List Symbol) → Expression⊢ (expression_symbols e ++ us) e us) →
    Slots⊢ (slots_symbols ss ++ rest) ss rest → Slots⊢ (Symbol.name n ∷ mark Fixed.assign ∷ expression_symbols e ++ (further_symbols ss ++ rest)) (Slots.slot n e ss) rest
unfolding slots_symbols
slot_derives n e Slots.no_slots rest f h = Slots⊢.last_slot (f rest)
slot_derives n e (Slots.slot m g ss) rest f h = Slots⊢.more_slots (f _) h

mutual
  unfolding base_symbols

  base_derives : (b : Base Written) (rest : List Symbol) → Base⊢ (base_symbols b ++ rest) b rest
  base_derives (Base.integer z) rest = Base⊢.integer
  base_derives (Base.string k) rest = Base⊢.string
  base_derives (Base.path w) rest = Base⊢.path (path_derives w rest)
  base_derives (Base.code k is) rest =
      rw (append_assoc (code_symbols is) (mark Fixed.close_curly ∷ []) rest) (Base⊢.code (code_derives is (mark Fixed.close_curly ∷ rest)))

  expression_derives : (e : Expression Written) (rest : List Symbol) → Expression⊢ (expression_symbols e ++ rest) e rest
  expression_derives (Expression.base b) rest = Expression⊢.base (base_derives b rest)
  expression_derives (Expression.not b) rest = Expression⊢.not (base_derives b rest)
  expression_derives (Expression.operation o a b) rest =
      rw (append_assoc (base_symbols a) (mark (Fixed.operator o) ∷ base_symbols b) rest)
      (Expression⊢.operation (base_derives a (mark (Fixed.operator o) ∷ base_symbols b ++ rest)) (base_derives b rest))
  expression_derives (Expression.frame ss) rest =
      rw (append_assoc (slots_symbols ss) (mark Fixed.close_square ∷ []) rest) (Expression⊢.frame (Frame⊢.brackets (slots_derive ss (mark Fixed.close_square ∷ rest))))

  slots_derive : (ss : Slots Written) (rest : List Symbol) → Slots⊢ (slots_symbols ss ++ rest) ss rest
  slots_derive Slots.no_slots rest = Slots⊢.no_slots
  slots_derive (Slots.slot n e ss) rest =
      rw (append_assoc (expression_symbols e) (further_symbols ss) rest)
      (slot_derives n e ss rest (λ us. expression_derives e us) (slots_derive ss rest))

  instruction_derives : (i : Instruction Written) (rest : List Symbol) → Instruction⊢ (instruction_symbols i ++ rest) i rest
  instruction_derives (Instruction.assign w e) rest =
      rw (append_assoc (path_symbols w) (mark Fixed.assign ∷ expression_symbols e) rest)
      (Instruction⊢.assign (path_derives w (mark Fixed.assign ∷ expression_symbols e ++ rest)) (expression_derives e rest))
  instruction_derives (Instruction.show a) rest = Instruction⊢.show (base_derives a rest)
  instruction_derives (Instruction.jump a b) rest =
      rw (append_assoc (base_symbols a) (base_symbols b) rest) (Instruction⊢.jump (base_derives a (base_symbols b ++ rest)) (base_derives b rest))
  instruction_derives (Instruction.ifeq a b c) rest =
      rw (append_assoc (base_symbols a ++ base_symbols b) (base_symbols c) rest, append_assoc (base_symbols a) (base_symbols b) (base_symbols c ++ rest))
      (Instruction⊢.ifeq (base_derives a (base_symbols b ++ (base_symbols c ++ rest))) (base_derives b (base_symbols c ++ rest)) (base_derives c rest))

  code_derives : (is : Code Written) (rest : List Symbol) → Code⊢ (code_symbols is ++ rest) is rest
  code_derives Code.finished rest = Code⊢.no_instructions
  code_derives (i then is) rest =
      rw (append_assoc (instruction_symbols i) (mark Fixed.semicolon ∷ code_symbols is) rest)
      (Code⊢.more_instructions (instruction_derives i (mark Fixed.semicolon ∷ code_symbols is ++ rest)) (code_derives is rest))

pub symbols_derive : SymbolsDerive
unfolding frame_symbols
symbols_derive ss = Frame⊢.brackets (slots_derive ss (mark Fixed.close_square ∷ []))
