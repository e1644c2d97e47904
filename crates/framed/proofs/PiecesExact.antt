-- The list `Meaning.pieces` has each occurrence of `Occurrences` exactly once. Assumes nothing.
use mathlib.Core.Path.{◌≡◌, refl, ap, ◌∙◌}
use mathlib.Core.List.{List, ◌∷◌, ◌++◌}
use Rattle.framed.specs.Common.{◌∈◌, here, later}
use Rattle.framed.specs.Tree.{Written, Base, Expression, Slots, Instruction, Code, ◌then◌}
use Rattle.framed.specs.Paths.{Place, within_slot, within_code, program_place}
use Rattle.framed.specs.Meaning.{Kind, Piece, base_pieces, expression_pieces, slots_pieces, instruction_pieces, code_pieces, pieces}
use Rattle.framed.specs.Occurrences.{InBase, string, path, code, in_code, InOperand, operand, in_operand}
use Rattle.framed.specs.Occurrences.{InExpression, in_base, not, in_not, operator, in_left, in_right, frame, in_frame, InRightSide, right_side, in_right_side}
use Rattle.framed.specs.Occurrences.{InSlots, in_slot, later_slot, InInstruction, assign, in_assign, in_show, in_jump₁, in_jump₂, in_ifeq₁, in_ifeq₂, in_ifeq₃}
use Rattle.framed.specs.Occurrences.{InCode, instruction, in_instruction, later_instruction, Occurs, program_frame, in_program_frame}
use Rattle.framed.specs.Theorems.{PiecesExact}
use Rattle.framed.proofs.Lists.{none, in_front, behind, cases, cases_front, cases_behind, cases_back}

-- ---- An operand and a right side, given what is inside

abbrev one : Piece
one = Piece.one Kind.expression

module _ {place : Place} {b : Base Written} {xs : List Piece} where
  operand_to : {x : Piece} → (InBase place b x → x ∈ xs) → InOperand place b x → x ∈ (one ∷ xs)
  operand_to f operand = here
  operand_to f (in_operand d) = later (f d)

  operand_from : {x : Piece} → (x ∈ xs → InBase place b x) → x ∈ (one ∷ xs) → InOperand place b x
  operand_from g here = operand
  operand_from g (later m) = in_operand (g m)

  operand_from_to : {x : Piece} (f : InBase place b x → x ∈ xs) (g : x ∈ xs → InBase place b x) →
      ((d : InBase place b x) → g (f d) ≡ d) → (d : InOperand place b x) → operand_from g (operand_to f d) ≡ d
  unfolding operand_to operand_from
  operand_from_to f g h operand = refl
  operand_from_to f g h (in_operand d) = ap in_operand (h d)

  operand_to_from : {x : Piece} (f : InBase place b x → x ∈ xs) (g : x ∈ xs → InBase place b x) →
      ((m : x ∈ xs) → f (g m) ≡ m) → (m : x ∈ (one ∷ xs)) → operand_to f (operand_from g m) ≡ m
  unfolding operand_to operand_from
  operand_to_from f g h here = refl
  operand_to_from f g h (later m) = ap later (h m)

module _ {place inner : Place} {e : Expression Written} {xs : List Piece} where
  right_side_to : {x : Piece} → (InExpression place inner e x → x ∈ xs) → InRightSide place inner e x → x ∈ (one ∷ xs)
  right_side_to f right_side = here
  right_side_to f (in_right_side d) = later (f d)

  right_side_from : {x : Piece} → (x ∈ xs → InExpression place inner e x) → x ∈ (one ∷ xs) → InRightSide place inner e x
  right_side_from g here = right_side
  right_side_from g (later m) = in_right_side (g m)

  right_side_from_to : {x : Piece} (f : InExpression place inner e x → x ∈ xs) (g : x ∈ xs → InExpression place inner e x) →
      ((d : InExpression place inner e x) → g (f d) ≡ d) → (d : InRightSide place inner e x) → right_side_from g (right_side_to f d) ≡ d
  unfolding right_side_to right_side_from
  right_side_from_to f g h right_side = refl
  right_side_from_to f g h (in_right_side d) = ap in_right_side (h d)

  right_side_to_from : {x : Piece} (f : InExpression place inner e x → x ∈ xs) (g : x ∈ xs → InExpression place inner e x) →
      ((m : x ∈ xs) → f (g m) ≡ m) → (m : x ∈ (one ∷ xs)) → right_side_to f (right_side_from g m) ≡ m
  unfolding right_side_to right_side_from
  right_side_to_from f g h here = refl
  right_side_to_from f g h (later m) = ap later (h m)

-- ---- The maps

mutual
  unfolding base_pieces

  base_to : (place : Place) (b : Base Written) {x : Piece} → InBase place b x → x ∈ base_pieces place b
  base_to place (Base.integer z) d = elim d [ ]
  base_to place (Base.string k) string = here
  base_to place (Base.path p) path = here
  base_to place (Base.code k is) code = here
  base_to place (Base.code k is) (in_code d) = later (code_to (within_code place) is d)

  expression_to : (place inner : Place) (e : Expression Written) {x : Piece} → InExpression place inner e x → x ∈ expression_pieces place inner e
  expression_to place inner (Expression.base b) (in_base d) = base_to place b d
  expression_to place inner (Expression.not b) not = here
  expression_to place inner (Expression.not b) (in_not d) = later (operand_to (λ c. base_to place b c) d)
  expression_to place inner (Expression.operation o a b) operator = here
  expression_to place inner (Expression.operation o a b) (in_left d) = later (in_front _ (operand_to (λ c. base_to place a c) d))
  expression_to place inner (Expression.operation o a b) (in_right d) = later (behind (one ∷ base_pieces place a) (operand_to (λ c. base_to place b c) d))
  expression_to place inner (Expression.frame ss) frame = here
  expression_to place inner (Expression.frame ss) (in_frame d) = later (slots_to inner ss d)

  slots_to : (place : Place) (ss : Slots Written) {x : Piece} → InSlots place ss x → x ∈ slots_pieces place ss
  slots_to place Slots.no_slots d = elim d [ ]
  slots_to place (Slots.slot n e ss) (in_slot d) = in_front _ (right_side_to (λ c. expression_to place (within_slot n place) e c) d)
  slots_to place (Slots.slot n e ss) (later_slot d) = behind (one ∷ expression_pieces place (within_slot n place) e) (slots_to place ss d)

  instruction_to : (place : Place) (i : Instruction Written) {x : Piece} → InInstruction place i x → x ∈ instruction_pieces place i
  instruction_to place (Instruction.assign p e) assign = here
  instruction_to place (Instruction.assign p e) (in_assign d) = later (right_side_to (λ c. expression_to place place e c) d)
  instruction_to place (Instruction.show a) (in_show d) = operand_to (λ c. base_to place a c) d
  instruction_to place (Instruction.jump a b) (in_jump₁ d) = in_front _ (operand_to (λ c. base_to place a c) d)
  instruction_to place (Instruction.jump a b) (in_jump₂ d) = behind (one ∷ base_pieces place a) (operand_to (λ c. base_to place b c) d)
  instruction_to place (Instruction.ifeq a b c) (in_ifeq₁ d) = in_front _ (in_front _ (operand_to (λ c. base_to place a c) d))
  instruction_to place (Instruction.ifeq a b c) (in_ifeq₂ d) = in_front _ (behind (one ∷ base_pieces place a) (operand_to (λ c. base_to place b c) d))
  instruction_to place (Instruction.ifeq a b c) (in_ifeq₃ d) = behind (one ∷ base_pieces place a ++ (one ∷ base_pieces place b)) (operand_to (λ m. base_to place c m) d)

  code_to : (place : Place) (is : Code Written) {x : Piece} → InCode place is x → x ∈ code_pieces place is
  code_to place Code.finished d = elim d [ ]
  code_to place (i then is) instruction = here
  code_to place (i then is) (in_instruction d) = later (in_front _ (instruction_to place i d))
  code_to place (i then is) (later_instruction d) = later (behind (instruction_pieces place i) (code_to place is d))

mutual
  unfolding base_pieces

  base_from : (place : Place) (b : Base Written) {x : Piece} → x ∈ base_pieces place b → InBase place b x
  base_from place (Base.integer z) m = none m
  base_from place (Base.string k) here = string
  base_from place (Base.string k) (later m) = none m
  base_from place (Base.path p) here = path
  base_from place (Base.path p) (later m) = none m
  base_from place (Base.code k is) here = code
  base_from place (Base.code k is) (later m) = in_code (code_from (within_code place) is m)

  expression_from : (place inner : Place) (e : Expression Written) {x : Piece} → x ∈ expression_pieces place inner e → InExpression place inner e x
  expression_from place inner (Expression.base b) m = in_base (base_from place b m)
  expression_from place inner (Expression.not b) here = not
  expression_from place inner (Expression.not b) (later m) = in_not (operand_from (λ m. base_from place b m) m)
  expression_from place inner (Expression.operation o a b) here = operator
  expression_from place inner (Expression.operation o a b) (later m) =
      cases (one ∷ base_pieces place a) (λ n. in_left (operand_from (λ m. base_from place a m) n)) (λ n. in_right (operand_from (λ m. base_from place b m) n)) m
  expression_from place inner (Expression.frame ss) here = frame
  expression_from place inner (Expression.frame ss) (later m) = in_frame (slots_from inner ss m)

  slots_from : (place : Place) (ss : Slots Written) {x : Piece} → x ∈ slots_pieces place ss → InSlots place ss x
  slots_from place Slots.no_slots m = none m
  slots_from place (Slots.slot n e ss) m =
      cases (one ∷ expression_pieces place (within_slot n place) e) (λ n. in_slot (right_side_from (λ m. expression_from place _ e m) n)) (λ n. later_slot (slots_from place ss n)) m

  instruction_from : (place : Place) (i : Instruction Written) {x : Piece} → x ∈ instruction_pieces place i → InInstruction place i x
  instruction_from place (Instruction.assign p e) here = assign
  instruction_from place (Instruction.assign p e) (later m) = in_assign (right_side_from (λ m. expression_from place place e m) m)
  instruction_from place (Instruction.show a) m = in_show (operand_from (λ m. base_from place a m) m)
  instruction_from place (Instruction.jump a b) m =
      cases (one ∷ base_pieces place a) (λ n. in_jump₁ (operand_from (λ m. base_from place a m) n)) (λ n. in_jump₂ (operand_from (λ m. base_from place b m) n)) m
  instruction_from place (Instruction.ifeq a b c) m =
      cases (one ∷ base_pieces place a ++ (one ∷ base_pieces place b))
      (cases (one ∷ base_pieces place a) (λ n. in_ifeq₁ (operand_from (λ m. base_from place a m) n)) (λ n. in_ifeq₂ (operand_from (λ m. base_from place b m) n)))
      (λ n. in_ifeq₃ (operand_from (λ m. base_from place c m) n)) m

  code_from : (place : Place) (is : Code Written) {x : Piece} → x ∈ code_pieces place is → InCode place is x
  code_from place Code.finished m = none m
  code_from place (i then is) here = instruction
  code_from place (i then is) (later m) =
      cases (instruction_pieces place i) (λ n. in_instruction (instruction_from place i n)) (λ n. later_instruction (code_from place is n)) m

-- ---- Back

mutual
  unfolding base_pieces base_to base_from

  base_from_to : (place : Place) (b : Base Written) {x : Piece} (d : InBase place b x) → base_from place b (base_to place b d) ≡ d
  base_from_to place (Base.integer z) d = elim d [ ]
  base_from_to place (Base.string k) string = refl
  base_from_to place (Base.path p) path = refl
  base_from_to place (Base.code k is) code = refl
  base_from_to place (Base.code k is) (in_code d) = ap in_code (code_from_to (within_code place) is d)

  expression_from_to : (place inner : Place) (e : Expression Written) {x : Piece} (d : InExpression place inner e x) →
      expression_from place inner e (expression_to place inner e d) ≡ d
  expression_from_to place inner (Expression.base b) (in_base d) = ap in_base (base_from_to place b d)
  expression_from_to place inner (Expression.not b) not = refl
  expression_from_to place inner (Expression.not b) (in_not d) = ap in_not (operand_from_to _ _ (λ d. base_from_to place b d) d)
  expression_from_to place inner (Expression.operation o a b) operator = refl
  expression_from_to place inner (Expression.operation o a b) (in_left d) = cases_front _ _ _ _ ∙ ap in_left (operand_from_to _ _ (λ d. base_from_to place a d) d)
  expression_from_to place inner (Expression.operation o a b) (in_right d) =
      cases_behind (one ∷ base_pieces place a) _ _ _ ∙ ap in_right (operand_from_to _ _ (λ d. base_from_to place b d) d)
  expression_from_to place inner (Expression.frame ss) frame = refl
  expression_from_to place inner (Expression.frame ss) (in_frame d) = ap in_frame (slots_from_to inner ss d)

  slots_from_to : (place : Place) (ss : Slots Written) {x : Piece} (d : InSlots place ss x) → slots_from place ss (slots_to place ss d) ≡ d
  slots_from_to place Slots.no_slots d = elim d [ ]
  slots_from_to place (Slots.slot n e ss) (in_slot d) = cases_front _ _ _ _ ∙ ap in_slot (right_side_from_to _ _ (λ d. expression_from_to place (within_slot n place) e d) d)
  slots_from_to place (Slots.slot n e ss) (later_slot d) =
      cases_behind (one ∷ expression_pieces place (within_slot n place) e) _ _ _ ∙ ap later_slot (slots_from_to place ss d)

  instruction_from_to : (place : Place) (i : Instruction Written) {x : Piece} (d : InInstruction place i x) →
      instruction_from place i (instruction_to place i d) ≡ d
  instruction_from_to place (Instruction.assign p e) assign = refl
  instruction_from_to place (Instruction.assign p e) (in_assign d) = ap in_assign (right_side_from_to _ _ (λ d. expression_from_to place place e d) d)
  instruction_from_to place (Instruction.show a) (in_show d) = ap in_show (operand_from_to _ _ (λ d. base_from_to place a d) d)
  instruction_from_to place (Instruction.jump a b) (in_jump₁ d) = cases_front _ _ _ _ ∙ ap in_jump₁ (operand_from_to _ _ (λ d. base_from_to place a d) d)
  instruction_from_to place (Instruction.jump a b) (in_jump₂ d) =
      cases_behind (one ∷ base_pieces place a) _ _ _ ∙ ap in_jump₂ (operand_from_to _ _ (λ d. base_from_to place b d) d)
  instruction_from_to place (Instruction.ifeq a b c) (in_ifeq₁ d) =
      cases_front _ _ _ _ ∙ cases_front _ _ _ _ ∙ ap in_ifeq₁ (operand_from_to _ _ (λ d. base_from_to place a d) d)
  instruction_from_to place (Instruction.ifeq a b c) (in_ifeq₂ d) =
      cases_front _ _ _ _ ∙ cases_behind (one ∷ base_pieces place a) _ _ _ ∙ ap in_ifeq₂ (operand_from_to _ _ (λ d. base_from_to place b d) d)
  instruction_from_to place (Instruction.ifeq a b c) (in_ifeq₃ d) =
      cases_behind (one ∷ base_pieces place a ++ (one ∷ base_pieces place b)) _ _ _ ∙ ap in_ifeq₃ (operand_from_to _ _ (λ d. base_from_to place c d) d)

  code_from_to : (place : Place) (is : Code Written) {x : Piece} (d : InCode place is x) → code_from place is (code_to place is d) ≡ d
  code_from_to place Code.finished d = elim d [ ]
  code_from_to place (i then is) instruction = refl
  code_from_to place (i then is) (in_instruction d) = cases_front _ _ _ _ ∙ ap in_instruction (instruction_from_to place i d)
  code_from_to place (i then is) (later_instruction d) = cases_behind (instruction_pieces place i) _ _ _ ∙ ap later_instruction (code_from_to place is d)

mutual
  unfolding base_pieces base_to base_from

  base_to_from : (place : Place) (b : Base Written) {x : Piece} (m : x ∈ base_pieces place b) → base_to place b (base_from place b m) ≡ m
  base_to_from place (Base.integer z) m = none m
  base_to_from place (Base.string k) here = refl
  base_to_from place (Base.string k) (later m) = none m
  base_to_from place (Base.path p) here = refl
  base_to_from place (Base.path p) (later m) = none m
  base_to_from place (Base.code k is) here = refl
  base_to_from place (Base.code k is) (later m) = ap later (code_to_from (within_code place) is m)

  expression_to_from : (place inner : Place) (e : Expression Written) {x : Piece} (m : x ∈ expression_pieces place inner e) →
      expression_to place inner e (expression_from place inner e m) ≡ m
  expression_to_from place inner (Expression.base b) m = base_to_from place b m
  expression_to_from place inner (Expression.not b) here = refl
  expression_to_from place inner (Expression.not b) (later m) = ap later (operand_to_from (base_to place b) (base_from place b) (λ m. base_to_from place b m) m)
  expression_to_from place inner (Expression.operation o a b) here = refl
  expression_to_from place inner (Expression.operation o a b) (later m) =
      cases_back (one ∷ base_pieces place a) _ _ (λ d. expression_to place inner (Expression.operation o a b) d) later
      (λ m. ap (λ n. later (in_front _ n)) (operand_to_from (base_to place a) (base_from place a) (λ m. base_to_from place a m) m))
      (λ m. ap (λ n. later (behind (one ∷ base_pieces place a) n)) (operand_to_from (base_to place b) (base_from place b) (λ m. base_to_from place b m) m)) m
  expression_to_from place inner (Expression.frame ss) here = refl
  expression_to_from place inner (Expression.frame ss) (later m) = ap later (slots_to_from inner ss m)

  slots_to_from : (place : Place) (ss : Slots Written) {x : Piece} (m : x ∈ slots_pieces place ss) → slots_to place ss (slots_from place ss m) ≡ m
  slots_to_from place Slots.no_slots m = none m
  slots_to_from place (Slots.slot n e ss) m =
      cases_back (one ∷ expression_pieces place (within_slot n place) e) _ _ (λ d. slots_to place (Slots.slot n e ss) d) (λ m. m)
      (λ m. ap (λ n. in_front _ n) (right_side_to_from (expression_to place (within_slot n place) e) (expression_from place (within_slot n place) e) (λ m. expression_to_from place (within_slot n place) e m) m))
      (λ m. ap (λ k. behind (one ∷ expression_pieces place (within_slot n place) e) k) (slots_to_from place ss m)) m

  instruction_to_from : (place : Place) (i : Instruction Written) {x : Piece} (m : x ∈ instruction_pieces place i) →
      instruction_to place i (instruction_from place i m) ≡ m
  instruction_to_from place (Instruction.assign p e) here = refl
  instruction_to_from place (Instruction.assign p e) (later m) = ap later (right_side_to_from (expression_to place place e) (expression_from place place e) (λ m. expression_to_from place place e m) m)
  instruction_to_from place (Instruction.show a) m = operand_to_from (base_to place a) (base_from place a) (λ m. base_to_from place a m) m
  instruction_to_from place (Instruction.jump a b) m =
      cases_back (one ∷ base_pieces place a) _ _ (λ d. instruction_to place (Instruction.jump a b) d) (λ m. m)
      (λ m. ap (λ n. in_front _ n) (operand_to_from (base_to place a) (base_from place a) (λ m. base_to_from place a m) m))
      (λ m. ap (λ n. behind (one ∷ base_pieces place a) n) (operand_to_from (base_to place b) (base_from place b) (λ m. base_to_from place b m) m)) m
  instruction_to_from place (Instruction.ifeq a b c) m =
      cases_back (one ∷ base_pieces place a ++ (one ∷ base_pieces place b)) _ _ (λ d. instruction_to place (Instruction.ifeq a b c) d) (λ m. m)
      (cases_back (one ∷ base_pieces place a) _ _ (λ d. instruction_to place (Instruction.ifeq a b c) d) (λ m. in_front _ m)
      (λ m. ap (λ n. in_front _ (in_front _ n)) (operand_to_from (base_to place a) (base_from place a) (λ m. base_to_from place a m) m))
      (λ m. ap (λ n. in_front _ (behind (one ∷ base_pieces place a) n)) (operand_to_from (base_to place b) (base_from place b) (λ m. base_to_from place b m) m)))
      (λ m. ap (λ n. behind (one ∷ base_pieces place a ++ (one ∷ base_pieces place b)) n) (operand_to_from (base_to place c) (base_from place c) (λ m. base_to_from place c m) m)) m

  code_to_from : (place : Place) (is : Code Written) {x : Piece} (m : x ∈ code_pieces place is) → code_to place is (code_from place is m) ≡ m
  code_to_from place Code.finished m = none m
  code_to_from place (i then is) here = refl
  code_to_from place (i then is) (later m) =
      cases_back (instruction_pieces place i) _ _ (λ d. code_to place (i then is) d) later
      (λ m. ap (λ n. later (in_front _ n)) (instruction_to_from place i m))
      (λ m. ap (λ n. later (behind (instruction_pieces place i) n)) (code_to_from place is m)) m

-- ---- A source

pub occurrence_to : {ss : Slots Written} {x : Piece} → Occurs ss x → x ∈ pieces ss
unfolding pieces
occurrence_to program_frame = here
occurrence_to {ss} (in_program_frame d) = later (slots_to program_place ss d)

pub occurrence_from : {ss : Slots Written} {x : Piece} → x ∈ pieces ss → Occurs ss x
unfolding pieces
occurrence_from here = program_frame
occurrence_from {ss} (later m) = in_program_frame (slots_from program_place ss m)

occurrence_from_to : {ss : Slots Written} {x : Piece} (d : Occurs ss x) → occurrence_from (occurrence_to d) ≡ d
unfolding pieces occurrence_to occurrence_from
occurrence_from_to program_frame = refl
occurrence_from_to {ss} (in_program_frame d) = ap in_program_frame (slots_from_to program_place ss d)

occurrence_to_from : (ss : Slots Written) {x : Piece} (m : x ∈ pieces ss) → occurrence_to (occurrence_from {ss = ss} m) ≡ m
unfolding pieces occurrence_to occurrence_from
occurrence_to_from ss here = refl
occurrence_to_from ss (later m) = ap later (slots_to_from program_place ss m)

pub pieces_exact : PiecesExact
unfolding PiecesExact
pieces_exact ss x = record { to = occurrence_to; from = occurrence_from; from_to = occurrence_from_to; to_from = occurrence_to_from ss }
