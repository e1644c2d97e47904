-- Each test of `Meaning.refusal` holds exactly where the relation of its number in `Refusals` does. Number 11 is in `MainStart`. Assumes nothing.
use mathlib.Core.Path.{◌≡◌, refl, ap}
use mathlib.Core.Bool.{Bool, true, false, ◌&&◌, and-false, or-true, false≢true}
use mathlib.Core.List.{List, [], ◌∷◌, ◌++◌}
use Prim.Native.Nat.{ℕ, suc}
use native.Mathlib.Omega.{arith}
use lib.ListN.{length}
use lib.Dec.{leb, ltb}
use borrow.Author.Tests.{ltb-true, leb-false, eqb-false, lt-ltb, lt-leb, ne_eqb}
use Rattle.framed.specs.Common.{between, count, total, has_twice}
use Rattle.framed.specs.Tree.{Written, Base, Expression, Slots, Instruction, Code, ◌then◌}
use Rattle.framed.specs.Paths.{Place, outside_code, in_code, within_slot, within_code}
use Rattle.framed.specs.Meaning.{Lengths, right_lengths, Kind, Piece, base_pieces, expression_pieces, slots_pieces, instruction_pieces, code_pieces, pieces, outside, misplaced, bad_frame, is_one, path_names, above_limit, frame_outside}
use Rattle.framed.specs.Refusals.{OtherLength, OutOfRange, Misplaced, BadSlots, AboveLimit, FramesInExpression, FramesInSlots}
use Rattle.framed.proofs.Lists.{or_either, count_append, twice_true, has_twice_in}

-- ---- 1 and 2

and_either : {C : Type 0} (a b : Bool) → (a && b) ≡ false → (a ≡ false → C) → (b ≡ false → C) → C
and_either true b e f g = g e
and_either false b e f g = f refl

module _ (m : Lengths) where
  pub is_other : right_lengths m ≡ false → OtherLength m
  unfolding right_lengths
  is_other e =
      and_either _ _ e (λ e. and_either _ _ e (λ e. and_either _ _ e
      (λ e. OtherLength.program (eqb-false _ _ e)) (λ e. OtherLength.heap (eqb-false _ _ e)))
      (λ e. OtherLength.literal (eqb-false _ _ e)))
      (λ e. OtherLength.text (eqb-false _ _ e))

  pub other_false : OtherLength m → right_lengths m ≡ false
  unfolding right_lengths
  other_false (OtherLength.program n) = rw (right_lengths, ne_eqb m.program 16384 n)
  other_false (OtherLength.heap n) = rw (right_lengths, ne_eqb m.heap 16384 n, and-false)
  other_false (OtherLength.literal n) = rw (right_lengths, ne_eqb m.literal 8192 n, and-false)
  other_false (OtherLength.text n) = rw (right_lengths, ne_eqb m.text 16384 n, and-false)

module _ (F T : ℕ) where
  pub is_out : (between 3 256 F && leb T 256) ≡ false → OutOfRange F T
  is_out e =
      and_either (between 3 256 F) (leb T 256) e (λ e. and_either (leb 3 F) (leb F 256) e
      (λ e. OutOfRange.few_frames (leb-false 3 F e)) (λ e. OutOfRange.many_frames (leb-false F 256 e)))
      (λ e. OutOfRange.many_texts (leb-false T 256 e))

  pub out_false : OutOfRange F T → (between 3 256 F && leb T 256) ≡ false
  out_false (OutOfRange.few_frames l) = rw (lt-leb 3 F l)
  out_false (OutOfRange.many_frames l) = rw (lt-leb F 256 l, and-false)
  out_false (OutOfRange.many_texts l) = rw (lt-leb T 256 l, and-false)

-- ---- 7

pub is_misplaced : (x : Piece) → misplaced x ≡ true → Misplaced x
unfolding misplaced outside
is_misplaced (Piece.frame place ns) e = absurd (false≢true e)
is_misplaced (Piece.path (outside_code ns) p) e = Misplaced.path
is_misplaced (Piece.path (in_code ns) p) e = absurd (false≢true e)
is_misplaced (Piece.operator (outside_code ns)) e = Misplaced.operator
is_misplaced (Piece.operator (in_code ns)) e = absurd (false≢true e)
is_misplaced (Piece.one k) e = absurd (false≢true e)

pub misplaced_true : {x : Piece} → Misplaced x → misplaced x ≡ true
unfolding misplaced outside
misplaced_true Misplaced.path = refl
misplaced_true Misplaced.operator = refl

-- ---- 8

module _ (place : Place) (ns : List ℕ) where
  pub is_bad : bad_frame (Piece.frame place ns) ≡ true → BadSlots ns
  unfolding bad_frame
  is_bad e = or_either (has_twice ns) (ltb 16 (length ns)) e (λ e. BadSlots.twice (has_twice_in ns e)) (λ e. BadSlots.too_many (ltb-true 16 (length ns) e))

  pub bad_true : BadSlots ns → bad_frame (Piece.frame place ns) ≡ true
  unfolding bad_frame
  bad_true (BadSlots.twice t) = rw (bad_frame, twice_true t)
  bad_true (BadSlots.too_many l) = rw (bad_frame, lt-ltb 16 (length ns) l, or-true)

-- ---- 9

module _ (table : List (List ℕ)) (ps : List Piece) where
  abbrev number : Kind → ℕ
  number k = count (is_one k) ps

  pub is_above : above_limit table ps ≡ true → AboveLimit table ps
  unfolding above_limit
  is_above e =
      or_either _ _ e (λ e. or_either _ _ e (λ e. or_either _ _ e (λ e. or_either _ _ e (λ e. or_either _ _ e
      (λ e. AboveLimit.names (ltb-true 128 (length table) e))
      (λ e. AboveLimit.instructions (ltb-true 512 (number Kind.instruction) e)))
      (λ e. AboveLimit.strings (ltb-true 128 (number Kind.string) e)))
      (λ e. AboveLimit.codes (ltb-true 128 (number Kind.code) e)))
      (λ e. AboveLimit.expressions (ltb-true 1024 (number Kind.expression) e)))
      (λ e. AboveLimit.names_in_paths (ltb-true 2048 (total path_names ps) e))

  pub above_true : AboveLimit table ps → above_limit table ps ≡ true
  unfolding above_limit
  above_true (AboveLimit.names l) = rw (above_limit, lt-ltb 128 (length table) l)
  above_true (AboveLimit.instructions l) = rw (above_limit, lt-ltb 512 (number Kind.instruction) l, or-true)
  above_true (AboveLimit.strings l) = rw (above_limit, lt-ltb 128 (number Kind.string) l, or-true)
  above_true (AboveLimit.codes l) = rw (above_limit, lt-ltb 128 (number Kind.code) l, or-true)
  above_true (AboveLimit.expressions l) = rw (above_limit, lt-ltb 1024 (number Kind.expression) l, or-true)
  above_true (AboveLimit.names_in_paths l) = rw (above_limit, lt-ltb 2048 (total path_names ps) l, or-true)

-- ---- 12

no_frames : (xs ys : List Piece) → count frame_outside xs ≡ 0 → count frame_outside ys ≡ 0 → count frame_outside (xs ++ ys) ≡ 0
no_frames xs ys p q = omega (arith, count_append frame_outside xs ys)

-- in code there is no frame outside code
within_none : (place : Place) (is : Code Written) → ((ns : List ℕ) → count frame_outside (code_pieces (in_code ns) is) ≡ 0) →
    count frame_outside (code_pieces (within_code place) is) ≡ 0
unfolding within_code
within_none (outside_code ns) is h = h ns
within_none (in_code ns) is h = h ns

mutual
  unfolding base_pieces within_slot count frame_outside outside

  base_none : (place : Place) (b : Base Written) → count frame_outside (base_pieces place b) ≡ 0
  base_none place (Base.integer z) = refl
  base_none place (Base.string k) = refl
  base_none place (Base.path p) = refl
  base_none place (Base.code k is) = within_none place is (λ ns. code_none ns is)

  expression_none : (ns : List ℕ) (e : Expression Written) → count frame_outside (expression_pieces (in_code ns) (in_code ns) e) ≡ 0
  expression_none ns (Expression.base b) = base_none (in_code ns) b
  expression_none ns (Expression.not b) = base_none (in_code ns) b
  expression_none ns (Expression.operation o a b) = no_frames (base_pieces (in_code ns) a) _ (base_none (in_code ns) a) (base_none (in_code ns) b)
  expression_none ns (Expression.frame ss) = slots_none ns ss

  slots_none : (ns : List ℕ) (ss : Slots Written) → count frame_outside (slots_pieces (in_code ns) ss) ≡ 0
  slots_none ns Slots.no_slots = refl
  slots_none ns (Slots.slot n e ss) = no_frames (expression_pieces (in_code ns) (in_code ns) e) _ (expression_none ns e) (slots_none ns ss)

  instruction_none : (ns : List ℕ) (i : Instruction Written) → count frame_outside (instruction_pieces (in_code ns) i) ≡ 0
  instruction_none ns (Instruction.assign p e) = expression_none ns e
  instruction_none ns (Instruction.show a) = base_none (in_code ns) a
  instruction_none ns (Instruction.jump a b) = no_frames (base_pieces (in_code ns) a) _ (base_none (in_code ns) a) (base_none (in_code ns) b)
  instruction_none ns (Instruction.ifeq a b c) =
      no_frames (base_pieces (in_code ns) a ++ (Piece.one Kind.expression ∷ base_pieces (in_code ns) b)) _
      (no_frames (base_pieces (in_code ns) a) _ (base_none (in_code ns) a) (base_none (in_code ns) b)) (base_none (in_code ns) c)

  code_none : (ns : List ℕ) (is : Code Written) → count frame_outside (code_pieces (in_code ns) is) ≡ 0
  code_none ns Code.finished = refl
  code_none ns (i then is) = no_frames (instruction_pieces (in_code ns) i) _ (instruction_none ns i) (code_none ns is)

operation_none : (place : Place) (a b : Base Written) → count frame_outside (base_pieces place a ++ (Piece.one Kind.expression ∷ base_pieces place b)) ≡ 0
unfolding count frame_outside
operation_none place a b = no_frames (base_pieces place a) _ (base_none place a) (base_none place b)

-- the list counts what the relation counts
mutual
  unfolding base_pieces within_slot count frame_outside outside

  expression_frames : (e : Expression Written) (ns ms : List ℕ) → FramesInExpression e (count frame_outside (expression_pieces (outside_code ns) (outside_code ms) e))
  expression_frames (Expression.base b) ns ms = rw (base_none (outside_code ns) b) FramesInExpression.base
  expression_frames (Expression.not b) ns ms = rw (base_none (outside_code ns) b) FramesInExpression.not
  expression_frames (Expression.operation o a b) ns ms = rw (operation_none (outside_code ns) a b) FramesInExpression.operation
  expression_frames (Expression.frame ss) ns ms = FramesInExpression.frame (slots_frames ss ms)

  slots_frames : (ss : Slots Written) (ns : List ℕ) → FramesInSlots ss (count frame_outside (slots_pieces (outside_code ns) ss))
  slots_frames Slots.no_slots ns = FramesInSlots.no_slots
  slots_frames (Slots.slot n e ss) ns =
      rw (count_append frame_outside (expression_pieces (outside_code ns) (outside_code (ns ++ (n ∷ []))) e) (slots_pieces (outside_code ns) ss))
      (FramesInSlots.slot (expression_frames e ns (ns ++ (n ∷ []))) (slots_frames ss ns))

-- and the relation gives one number
mutual
  expression_one : (e : Expression Written) {j k : ℕ} → FramesInExpression e j → FramesInExpression e k → j ≡ k
  expression_one (Expression.base b) FramesInExpression.base FramesInExpression.base = refl
  expression_one (Expression.not b) FramesInExpression.not FramesInExpression.not = refl
  expression_one (Expression.operation o a b) FramesInExpression.operation FramesInExpression.operation = refl
  expression_one (Expression.frame ss) (FramesInExpression.frame d) (FramesInExpression.frame e) = ap suc (slots_one ss d e)

  slots_one : (ss : Slots Written) {j k : ℕ} → FramesInSlots ss j → FramesInSlots ss k → j ≡ k
  slots_one Slots.no_slots FramesInSlots.no_slots FramesInSlots.no_slots = refl
  slots_one (Slots.slot n e ss) (FramesInSlots.slot a b) (FramesInSlots.slot c d) = let p = expression_one e a c in let q = slots_one ss b d in cc

pub frames_counted : {ss : Slots Written} {k : ℕ} → FramesInSlots ss k → count frame_outside (pieces ss) ≡ suc k
unfolding pieces count frame_outside outside
frames_counted {ss} d = ap suc (slots_one ss (slots_frames ss []) d)

pub frames_in : (ss : Slots Written) → (k : ℕ) × FramesInSlots ss k
frames_in ss = (_, slots_frames ss [])
