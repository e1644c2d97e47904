-- Document 01, "Limits and paths" and the table's numbers 1 to 12: what load refuses.
-- A tree is laid out as the list of its pieces, in the order of the source. Numbers 7 to 10 and 12 are tests and counts over that list.
-- Assumes nothing.
use Rattle.std.specs.Prelude.{Bool, true, false, not, ◌||◌, ◌&&◌, List, [], ◌∷◌, ◌++◌, ℕ, zero, suc, length, eqb, leb, ltb}
use Rattle.std.proofs.Math.Option.{Option, none, some}
use Rattle.framed.specs.Common.{when◌then◌else◌, bytes, between, any, count, total, has_twice}
use Rattle.framed.specs.Bytes.{class}
use Rattle.framed.specs.Tokens.{Token, tokens, highest_nesting}
use Rattle.framed.specs.Symbols.{name_table, number_in, symbols}
use Rattle.framed.specs.Tree.{Written, Base, Expression, Slots, Instruction, Code, ◌then◌}
use Rattle.framed.specs.Parse.{parse}
use Rattle.framed.specs.Paths.{Place, outside_code, in_code, within_slot, within_code, above_program, names_of, resolve_path, program_place}

-- ---- The pieces of a tree

-- what is counted besides names: a right side of `:=` and an operand of an operator, `!`, `show`, `jump` or `ifeq` are expressions
pub data Kind : Type 0 where
  expression instruction string code : Kind

pub data Piece : Type 0 where
  -- a frame, with the place of what is written in it and the names of its slots
  frame : Place → List ℕ → Piece
  path : Place → Written → Piece
  -- an operator or `!`
  operator : Place → Piece
  one : Kind → Piece

unfoldable pub slot_names : {P : Type 0} → Slots P → List ℕ
slot_names Slots.no_slots = []
slot_names (Slots.slot n e ss) = n ∷ slot_names ss

-- `inner` is the place of what is written in a frame that is this expression
unfoldable mutual
  pub base_pieces : Place → Base Written → List Piece
  base_pieces place (Base.integer z) = []
  base_pieces place (Base.string k) = one string ∷ []
  base_pieces place (Base.path p) = path place p ∷ []
  base_pieces place (Base.code k is) = one code ∷ code_pieces (within_code place) is

  pub expression_pieces : Place → Place → Expression Written → List Piece
  expression_pieces place inner (Expression.base b) = base_pieces place b
  expression_pieces place inner (Expression.not b) = operator place ∷ one expression ∷ base_pieces place b
  expression_pieces place inner (Expression.operation o a b) =
      operator place ∷ one expression ∷ base_pieces place a ++ (one expression ∷ base_pieces place b)
  expression_pieces place inner (Expression.frame ss) = frame inner (slot_names ss) ∷ slots_pieces inner ss

  pub slots_pieces : Place → Slots Written → List Piece
  slots_pieces place Slots.no_slots = []
  slots_pieces place (Slots.slot n e ss) =
      one expression ∷ expression_pieces place (within_slot n place) e ++ slots_pieces place ss

  pub instruction_pieces : Place → Instruction Written → List Piece
  instruction_pieces place (Instruction.assign p e) = path place p ∷ one expression ∷ expression_pieces place place e
  instruction_pieces place (Instruction.show a) = one expression ∷ base_pieces place a
  instruction_pieces place (Instruction.jump a b) = one expression ∷ base_pieces place a ++ (one expression ∷ base_pieces place b)
  instruction_pieces place (Instruction.ifeq a b c) =
      one expression ∷ base_pieces place a ++ (one expression ∷ base_pieces place b) ++ (one expression ∷ base_pieces place c)

  pub code_pieces : Place → Code Written → List Piece
  code_pieces place Code.finished = []
  code_pieces place (i then is) = one instruction ∷ instruction_pieces place i ++ code_pieces place is

-- the pieces of a source
unfoldable pub pieces : Slots Written → List Piece
pieces ss = frame program_place (slot_names ss) ∷ slots_pieces program_place ss

-- ---- Numbers 7 to 12

unfoldable pub outside : Place → Bool
outside (outside_code ns) = true
outside (in_code ns) = false

-- 7: path, operator or `!` outside code
unfoldable pub misplaced : Piece → Bool
misplaced (frame place ns) = false
misplaced (path place p) = outside place
misplaced (operator place) = outside place
misplaced (one kind) = false

-- 8: a frame, in code or outside, has a name twice or more than 16 slots
unfoldable pub bad_frame : Piece → Bool
bad_frame (frame place ns) = has_twice ns || ltb 16 (length ns)
bad_frame (path place p) = false
bad_frame (operator place) = false
bad_frame (one kind) = false

-- 9: a count above its limit
unfoldable pub kind_number : Kind → ℕ
kind_number expression = 0
kind_number instruction = 1
kind_number string = 2
kind_number code = 3

unfoldable pub is_one : Kind → Piece → Bool
is_one k (frame place ns) = false
is_one k (path place p) = false
is_one k (operator place) = false
is_one k (one kind) = eqb (kind_number k) (kind_number kind)

-- the names in a resolved path; a path that 10 refuses counts its own
unfoldable pub path_names : Piece → ℕ
path_names (frame place ns) = 0
path_names (path place p) = length (names_of (resolve_path place p))
path_names (operator place) = 0
path_names (one kind) = 0

unfoldable pub above_limit : List (List ℕ) → List Piece → Bool
above_limit names ps =
    ltb 128 (length names)
    || ltb 512 (count (is_one instruction) ps)
    || ltb 128 (count (is_one string) ps)
    || ltb 128 (count (is_one code) ps)
    || ltb 1024 (count (is_one expression) ps)
    || ltb 2048 (total path_names ps)

-- 10: `^` above the program frame
unfoldable pub too_far_up : Piece → Bool
too_far_up (frame place ns) = false
too_far_up (path place p) = above_program place p
too_far_up (operator place) = false
too_far_up (one kind) = false

-- 11: no written Main frame with a code in start. `main-start` is that code's number
unfoldable pub slot_of : {P : Type 0} → ℕ → Slots P → Option (Expression P)
slot_of n Slots.no_slots = none
slot_of n (Slots.slot m e ss) = elim (eqb n m) [ true ↦ some e | false ↦ slot_of n ss ]

unfoldable pub frame_in : {P : Type 0} → Option (Expression P) → Slots P
frame_in none = Slots.no_slots
frame_in (some (Expression.base b)) = Slots.no_slots
frame_in (some (Expression.not b)) = Slots.no_slots
frame_in (some (Expression.operation o a b)) = Slots.no_slots
frame_in (some (Expression.frame ss)) = ss

unfoldable pub code_in : {P : Type 0} → Option (Expression P) → Option ℕ
code_in none = none
code_in (some (Expression.base (Base.integer z))) = none
code_in (some (Expression.base (Base.string k))) = none
code_in (some (Expression.base (Base.path p))) = none
code_in (some (Expression.base (Base.code k is))) = some k
code_in (some (Expression.not b)) = none
code_in (some (Expression.operation o a b)) = none
code_in (some (Expression.frame ss)) = none

unfoldable pub main_start : {P : Type 0} → List (List ℕ) → Slots P → Option ℕ
main_start names ss =
    code_in (slot_of (number_in names (bytes "start")) (frame_in (slot_of (number_in names (bytes "Main")) ss)))

unfoldable pub is_none : {A : Type 0} → Option A → Bool
is_none none = true
is_none (some a) = false

-- 12: F or more frames are written outside code
unfoldable pub frame_outside : Piece → Bool
frame_outside (frame place ns) = outside place
frame_outside (path place p) = false
frame_outside (operator place) = false
frame_outside (one kind) = false

-- ---- The lowest number that holds

-- the number of the first test that holds, where the first test has the number n; 0 where none holds
unfoldable pub lowest : ℕ → List Bool → ℕ
lowest n [] = 0
lowest n (test ∷ tests) = elim test [ true ↦ n | false ↦ lowest (suc n) tests ]

-- the lengths of the four memories
pub record Lengths : Type 0 where
  pub program : ℕ
  pub heap : ℕ
  pub literal : ℕ
  pub text : ℕ

unfoldable pub right_lengths : Lengths → Bool
right_lengths m = eqb m.program 16384 && eqb m.heap 16384 && eqb m.literal 8192 && eqb m.text 16384

-- 1 to 3
unfoldable pub arguments_refusal : Lengths → List ℕ → ℕ → ℕ → ℕ
arguments_refusal m source F T =
    lowest 1
    (not (right_lengths m)
    ∷ not (between 3 256 F && leb T 256)
    ∷ ltb 16384 (length source)
    ∷ [])

-- 7 to 12
unfoldable pub meaning_refusal : List (List ℕ) → Slots Written → ℕ → ℕ
meaning_refusal names ss F =
    let ps = pieces ss in
    lowest 7
    (any misplaced ps
    ∷ any bad_frame ps
    ∷ above_limit names ps
    ∷ any too_far_up ps
    ∷ is_none (main_start names ss)
    ∷ leb F (count frame_outside ps)
    ∷ [])

-- 4 to 12
unfoldable pub tree_refusal : List (List ℕ) → Option (Slots Written) → ℕ → ℕ
tree_refusal names none F = 6
tree_refusal names (some ss) F = meaning_refusal names ss F

unfoldable pub source_refusal : Option (List Token) → ℕ → ℕ
source_refusal none F = 4
source_refusal (some ts) F =
    when ltb 16 (highest_nesting 0 ts) then 5 else tree_refusal (name_table ts) (parse (symbols ts)) F

-- What load gives: the lowest number that holds over the whole source, or 0
unfoldable pub refusal : Lengths → List ℕ → ℕ → ℕ → ℕ
refusal m source F T =
    elim (arguments_refusal m source F T) [ zero ↦ source_refusal (tokens class source) F | suc n ↦ suc n ]

unfoldable pub Meaning : Type 0
unfolding slot_names base_pieces pieces outside misplaced bad_frame kind_number is_one path_names above_limit too_far_up slot_of frame_in code_in main_start is_none frame_outside lowest right_lengths arguments_refusal meaning_refusal tree_refusal source_refusal refusal
Meaning = ℕ
