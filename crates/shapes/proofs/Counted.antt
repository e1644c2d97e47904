-- Sizes of a resolved tree are counts over the pieces of the tree as written. Assumes nothing.
use mathlib.Core.Path.{refl}
use mathlib.Core.List.{List, [], ◌∷◌, ◌++◌}
use Prim.Native.Nat.{ℕ}
use native.Mathlib.Omega.{arith}
use lib.ListN.{length}
use Rattle.framed.specs.Common.{count, total}
use Rattle.framed.specs.Tree.{Written, Base, Expression, Slots, Instruction, Code, ◌then◌}
use Rattle.framed.specs.Paths.{Place, within_slot, within_code, names_of, resolve_path, resolve_base, resolve_expression, resolve_slots, resolve_instruction, resolve_code, program_place}
use Rattle.framed.specs.Meaning.{Kind, Piece, pieces, slot_names, base_pieces, expression_pieces, slots_pieces, instruction_pieces, code_pieces, kind_number, is_one, path_names}
use Rattle.framed.proofs.Lists.{count_append}
use Rattle.shapes.specs.Numbers.{Numbers, zeros, ◌⊕◌, one_expression, one_instruction, one_code, more_names, base_size, expression_size, slots_size, instruction_size, code_size}
use Rattle.shapes.proofs.Lists.{total_append}
use Rattle.shapes.specs.Counted.{Counted, SizesCounted}

counted_none : Counted zeros []
unfolding count total
counted_none = record { expressions_are = refl; instructions_are = refl; path_names_are = refl; codes_are = refl }

counted_append : (s t : Numbers) (ps qs : List Piece) → Counted s ps → Counted t qs → Counted (s ⊕ t) (ps ++ qs)
counted_append s t ps qs a b =
    record {
      expressions_are = omega (arith, count_append (is_one Kind.expression) ps qs, a.expressions_are, b.expressions_are);
      instructions_are = omega (arith, count_append (is_one Kind.instruction) ps qs, a.instructions_are, b.instructions_are);
      path_names_are = omega (arith, total_append path_names ps qs, a.path_names_are, b.path_names_are);
      codes_are = omega (arith, count_append (is_one Kind.code) ps qs, a.codes_are, b.codes_are);
    }

module _ (s : Numbers) (ps : List Piece) (a : Counted s ps) where
  counted_expression : Counted (one_expression s) (Piece.one Kind.expression ∷ ps)
  unfolding count total is_one kind_number path_names
  counted_expression =
      record { expressions_are = omega (arith, a.expressions_are); instructions_are = a.instructions_are; path_names_are = omega (arith, a.path_names_are); codes_are = a.codes_are }

  counted_instruction : Counted (one_instruction s) (Piece.one Kind.instruction ∷ ps)
  unfolding count total is_one kind_number path_names
  counted_instruction =
      record { expressions_are = a.expressions_are; instructions_are = omega (arith, a.instructions_are); path_names_are = omega (arith, a.path_names_are); codes_are = a.codes_are }

  counted_code : Counted (one_code s) (Piece.one Kind.code ∷ ps)
  unfolding count total is_one kind_number path_names
  counted_code =
      record { expressions_are = a.expressions_are; instructions_are = a.instructions_are; path_names_are = omega (arith, a.path_names_are); codes_are = omega (arith, a.codes_are) }

  counted_string : Counted s (Piece.one Kind.string ∷ ps)
  unfolding count total is_one kind_number path_names
  counted_string =
      record { expressions_are = a.expressions_are; instructions_are = a.instructions_are; path_names_are = omega (arith, a.path_names_are); codes_are = a.codes_are }

  counted_frame : (place : Place) (ns : List ℕ) → Counted s (Piece.frame place ns ∷ ps)
  unfolding count total is_one path_names
  counted_frame place ns =
      record { expressions_are = a.expressions_are; instructions_are = a.instructions_are; path_names_are = omega (arith, a.path_names_are); codes_are = a.codes_are }

  counted_operator : (place : Place) → Counted s (Piece.operator place ∷ ps)
  unfolding count total is_one path_names
  counted_operator place =
      record { expressions_are = a.expressions_are; instructions_are = a.instructions_are; path_names_are = omega (arith, a.path_names_are); codes_are = a.codes_are }

  counted_path : (place : Place) (p : Written) → Counted (more_names (length (names_of (resolve_path place p))) s) (Piece.path place p ∷ ps)
  unfolding count total is_one path_names
  counted_path place p =
      record { expressions_are = a.expressions_are; instructions_are = a.instructions_are; path_names_are = omega (arith, a.path_names_are); codes_are = a.codes_are }

mutual
  unfolding resolve_base base_pieces base_size

  base_counted : (b : Base Written) (place : Place) → Counted (base_size (resolve_base place b)) (base_pieces place b)
  base_counted (Base.integer z) place = counted_none
  base_counted (Base.string k) place = counted_string _ _ counted_none
  base_counted (Base.path p) place = counted_path _ _ counted_none place p
  base_counted (Base.code k is) place = counted_code _ _ (code_counted is (within_code place))

  expression_counted : (b : Expression Written) (place inner : Place) → Counted (expression_size (resolve_expression place inner b)) (expression_pieces place inner b)
  expression_counted (Expression.base b) place inner = base_counted b place
  expression_counted (Expression.not b) place inner = counted_operator _ _ (counted_expression _ _ (base_counted b place)) place
  expression_counted (Expression.operation o a b) place inner =
      counted_operator _ _ (counted_append _ _ (Piece.one Kind.expression ∷ base_pieces place a) _ (counted_expression _ _ (base_counted a place)) (counted_expression _ _ (base_counted b place))) place
  expression_counted (Expression.frame ss) place inner = counted_frame _ _ (slots_counted ss inner) inner (slot_names ss)

  slots_counted : (ss : Slots Written) (place : Place) → Counted (slots_size (resolve_slots place ss)) (slots_pieces place ss)
  slots_counted Slots.no_slots place = counted_none
  slots_counted (Slots.slot n e ss) place =
      counted_append _ _ (Piece.one Kind.expression ∷ expression_pieces place (within_slot n place) e) _
      (counted_expression _ _ (expression_counted e place (within_slot n place))) (slots_counted ss place)

  instruction_counted : (b : Instruction Written) (place : Place) → Counted (instruction_size (resolve_instruction place b)) (instruction_pieces place b)
  instruction_counted (Instruction.assign p e) place = counted_path _ _ (counted_expression _ _ (expression_counted e place place)) place p
  instruction_counted (Instruction.show a) place = counted_expression _ _ (base_counted a place)
  instruction_counted (Instruction.jump a b) place =
      counted_append _ _ (Piece.one Kind.expression ∷ base_pieces place a) _ (counted_expression _ _ (base_counted a place)) (counted_expression _ _ (base_counted b place))
  instruction_counted (Instruction.ifeq a b c) place =
      counted_append _ _ (Piece.one Kind.expression ∷ base_pieces place a ++ (Piece.one Kind.expression ∷ base_pieces place b)) _
      (counted_append _ _ (Piece.one Kind.expression ∷ base_pieces place a) _ (counted_expression _ _ (base_counted a place)) (counted_expression _ _ (base_counted b place)))
      (counted_expression _ _ (base_counted c place))

  code_counted : (is : Code Written) (place : Place) → Counted (code_size (resolve_code place is)) (code_pieces place is)
  code_counted Code.finished place = counted_none
  code_counted (o then is) place =
      counted_append _ _ (Piece.one Kind.instruction ∷ instruction_pieces place o) _ (counted_instruction _ _ (instruction_counted o place)) (code_counted is place)

pub sizes_counted : SizesCounted
unfolding pieces
sizes_counted ss = counted_frame _ _ (slots_counted ss program_place) program_place (slot_names ss)
