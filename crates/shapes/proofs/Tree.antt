-- The tree of symbols in order, with its paths resolved, is shaped. By induction over the grammar. Assumes nothing.
use mathlib.Core.Path.{◌≡◌, refl, ap}
use mathlib.Core.Bool.{false}
use mathlib.Core.List.{List, [], ◌∷◌, ◌++◌}
use Prim.Native.Nat.{ℕ, zero, suc, ◌+◌, ◌-◌, ◌<◌}
use native.Mathlib.Omega.{arith}
use lib.ListN.{length, take}
use lib.Dec.{ltb}
use borrow.Author.Tests.{ltb-false}
use Rattle.framed.specs.Common.{any, count, has_twice}
use Rattle.framed.specs.Tokens.{Fixed}
use Rattle.framed.specs.Symbols.{Symbol}
use Rattle.framed.specs.Tree.{Written, Base, Expression, Slots, Instruction, Code}
use Rattle.framed.specs.Grammar.{Names⊢, Ups⊢, Path⊢, Base⊢, Expression⊢, Frame⊢, Slots⊢, Instruction⊢, Code⊢}
use Rattle.framed.specs.Paths.{Place, outside_code, in_code, holder, within_slot, within_code, names_up, names_of, resolve_path, resolve_base, resolve_expression, resolve_slots, resolve_instruction, resolve_code}
use Rattle.framed.specs.Meaning.{Kind, Piece, slot_names, base_pieces, expression_pieces, slots_pieces, instruction_pieces, code_pieces, bad_frame, kind_number, is_one}
use Rattle.framed.proofs.General.{or_none, none_append}
use Rattle.framed.proofs.Lists.{count_append}
use Rattle.shapes.specs.Numbers.{base_size, expression_size, slots_size, instruction_size, code_size}
use Rattle.shapes.specs.Shape.{AllBelow, FrameShaped, BaseShaped, ExpressionShaped, SlotsShaped, InstructionShaped, CodeShaped}
use Rattle.shapes.proofs.Names.{Ordered, ordered_at}

-- ---- Names below N

below_append : (N : ℕ) (l m : List ℕ) → AllBelow N l → AllBelow N m → AllBelow N (l ++ m)
below_append N [] m a b = b
below_append N (n ∷ l) m (AllBelow.more lt a) b = AllBelow.more lt (below_append N l m a b)

below_take : (N k : ℕ) (l : List ℕ) → AllBelow N l → AllBelow N (take k l)
below_take N zero l a = AllBelow.none
below_take N (suc k) [] a = AllBelow.none
below_take N (suc k) (n ∷ l) (AllBelow.more lt a) = AllBelow.more lt (below_take N k l a)

code_holder : (N : ℕ) (place : Place) → AllBelow N (holder place) → AllBelow N (holder (within_code place))
unfolding holder within_code
code_holder N (outside_code ns) a = a
code_holder N (in_code ns) a = a

slot_holder : (N n : ℕ) (place : Place) → n < N → AllBelow N (holder place) → AllBelow N (holder (within_slot n place))
unfolding holder within_slot
slot_holder N n (outside_code ns) lt a = below_append N ns (n ∷ []) a (AllBelow.more lt AllBelow.none)
slot_holder N n (in_code ns) lt a = a

-- ---- Frames

slot_names_kept : (place : Place) (ss : Slots Written) → slot_names (resolve_slots place ss) ≡ slot_names ss
unfolding slot_names resolve_slots
slot_names_kept place Slots.no_slots = refl
slot_names_kept place (Slots.slot n e ss) = ap {B = List ℕ} (λ l. n ∷ l) (slot_names_kept place ss)

frame_shaped : (place : Place) (ss : Slots Written) → bad_frame (Piece.frame place (slot_names ss)) ≡ false → FrameShaped (resolve_slots place ss)
unfolding bad_frame
frame_shaped place ss e =
    let h = or_none (has_twice (slot_names ss)) (ltb 16 (length (slot_names ss))) e in
    let n = slot_names_kept place ss in
    record { few = rw n (ltb-false 16 (length (slot_names ss)) h.1); distinct = rw n h.0 }

-- ---- Steps through the symbols

abbrev pub strings : List Piece → ℕ
strings ps = count (is_one Kind.string) ps

-- what is read has A; ps are its pieces, and it has so many codes
pub record Step (N L s c : ℕ) (A : Type 0) (ps : List Piece) (codes : ℕ) (rest : List Symbol) : Type 0 where
  pub shaped : A
  pub rest_ordered : Ordered N L (s + strings ps) (c + codes) rest

module _ (N L : ℕ) where
  ordered_fixed : (s c : ℕ) (f : Fixed) (ts : List Symbol) → Ordered N L s c (Symbol.fixed f ∷ ts) → Ordered N L s c ts
  ordered_fixed s c f ts (Ordered.fixed h) = h

  -- paths
  record Named (s c : ℕ) (ns : List ℕ) (rest : List Symbol) : Type 0 where
    below : AllBelow N ns
    after : Ordered N L s c rest

  names_step : {ts rest : List Symbol} {ns : List ℕ} → Names⊢ ts ns rest → (s c : ℕ) → Ordered N L s c ts → Named s c ns rest
  names_step Names⊢.none s c h = record { below = AllBelow.none; after = h }
  names_step (Names⊢.more d) s c (Ordered.fixed (Ordered.name lt h)) =
      let r = names_step d s c h in
      record { below = AllBelow.more lt r.below; after = r.after }

  ups_step : {ts rest : List Symbol} {k : ℕ} → Ups⊢ ts k rest → (s c : ℕ) → Ordered N L s c ts → Ordered N L s c rest
  ups_step Ups⊢.none s c h = h
  ups_step (Ups⊢.more d) s c (Ordered.fixed (Ordered.fixed h)) = ups_step d s c h

  path_step : {ts rest : List Symbol} {p : Written} → Path⊢ ts p rest → (place : Place) → AllBelow N (holder place) → (s c : ℕ) → Ordered N L s c ts →
      Named s c (names_of (resolve_path place p)) rest
  unfolding resolve_path names_of names_up
  path_step (Path⊢.self d) place a s c (Ordered.fixed h) = names_step d s c h
  path_step (Path⊢.up {k = k} {ns = ns} u d) place a s c (Ordered.fixed h) =
      let r = names_step d s c (ups_step u s c h) in
      record { below = below_append N (take (length (holder place) - k) (holder place)) ns (below_take N (length (holder place) - k) (holder place) a) r.below; after = r.after }

  mutual
    unfolding resolve_base base_pieces base_size bad_frame any count is_one kind_number

    pub base_step : {ts rest : List Symbol} {b : Base Written} → Base⊢ ts b rest → (place : Place) → AllBelow N (holder place) → (s c : ℕ) →
        any bad_frame (base_pieces place b) ≡ false → Ordered N L s c ts →
        Step N L s c (BaseShaped N L c (resolve_base place b)) (base_pieces place b) (base_size (resolve_base place b)).codes rest
    base_step Base⊢.integer place a s c e (Ordered.integer r h) =
        record { shaped = BaseShaped.integer r; rest_ordered = ordered_at N L _ _ _ _ _ (omega arith) (omega arith) h }
    base_step Base⊢.string place a s c e (Ordered.string lt h) =
        record { shaped = BaseShaped.string lt; rest_ordered = ordered_at N L _ _ _ _ _ (omega arith) (omega arith) h }
    base_step (Base⊢.path d) place a s c e h =
        let r = path_step d place a s c h in
        record { shaped = BaseShaped.path r.below; rest_ordered = ordered_at N L _ _ _ _ _ (omega arith) (omega arith) r.after }
    base_step (Base⊢.code d) place a s c e (Ordered.code (Ordered.fixed h)) =
        let r = code_step d (within_code place) (code_holder N place a) s (c + 1) e h in
        record { shaped = BaseShaped.code r.shaped; rest_ordered = ordered_at N L _ _ _ _ _ (omega arith) (omega arith) (ordered_fixed _ _ _ _ r.rest_ordered) }

    pub expression_step : {ts rest : List Symbol} {b : Expression Written} → Expression⊢ ts b rest → (place inner : Place) → AllBelow N (holder place) →
        AllBelow N (holder inner) → (s c : ℕ) → any bad_frame (expression_pieces place inner b) ≡ false → Ordered N L s c ts →
        Step N L s c (ExpressionShaped N L c (resolve_expression place inner b)) (expression_pieces place inner b)
        (expression_size (resolve_expression place inner b)).codes rest
    expression_step (Expression⊢.base d) place inner a i s c e h =
        let r = base_step d place a s c e h in record { shaped = ExpressionShaped.base r.shaped; rest_ordered = r.rest_ordered }
    expression_step (Expression⊢.not d) place inner a i s c e (Ordered.fixed h) =
        let r = base_step d place a s c e h in record { shaped = ExpressionShaped.not r.shaped; rest_ordered = r.rest_ordered }
    expression_step (Expression⊢.operation {a = x} {b = y} d f) place inner a i s c e h =
        let g = none_append bad_frame (base_pieces place x) (Piece.one Kind.expression ∷ base_pieces place y) e in
        let r = base_step d place a s c g.0 h in
        let t = base_step f place a _ _ g.1 (ordered_fixed _ _ _ _ r.rest_ordered) in
        record {
          shaped = ExpressionShaped.operation r.shaped t.shaped;
          rest_ordered =
              ordered_at N L _ _ _ _ _
              (omega (arith, count_append (is_one Kind.string) (base_pieces place x) (Piece.one Kind.expression ∷ base_pieces place y)))
              (omega arith) t.rest_ordered;
        }
    expression_step (Expression⊢.frame d) place inner a i s c e h =
        let r = frame_step d inner i s c e h in
        record { shaped = ExpressionShaped.frame r.shaped.0 r.shaped.1; rest_ordered = r.rest_ordered }

    pub frame_step : {ts rest : List Symbol} {ss : Slots Written} → Frame⊢ ts ss rest → (place : Place) → AllBelow N (holder place) → (s c : ℕ) →
        any bad_frame (Piece.frame place (slot_names ss) ∷ slots_pieces place ss) ≡ false → Ordered N L s c ts →
        Step N L s c (FrameShaped (resolve_slots place ss) × SlotsShaped N L c (resolve_slots place ss)) (Piece.frame place (slot_names ss) ∷ slots_pieces place ss)
        (slots_size (resolve_slots place ss)).codes rest
    frame_step (Frame⊢.brackets {ss = ss} d) place a s c e (Ordered.fixed (Ordered.fixed (Ordered.fixed h))) =
        let g = or_none (bad_frame (Piece.frame place (slot_names ss))) (any bad_frame (slots_pieces place ss)) e in
        let r = slots_step d place a s c g.1 h in
        record { shaped = (frame_shaped place ss g.0, r.shaped); rest_ordered = ordered_fixed _ _ _ _ r.rest_ordered }

    pub slots_step : {ts rest : List Symbol} {ss : Slots Written} → Slots⊢ ts ss rest → (place : Place) → AllBelow N (holder place) → (s c : ℕ) →
        any bad_frame (slots_pieces place ss) ≡ false → Ordered N L s c ts →
        Step N L s c (SlotsShaped N L c (resolve_slots place ss)) (slots_pieces place ss) (slots_size (resolve_slots place ss)).codes rest
    slots_step Slots⊢.no_slots place a s c e h =
        record { shaped = SlotsShaped.no_slots; rest_ordered = ordered_at N L _ _ _ _ _ (omega arith) (omega arith) h }
    slots_step (Slots⊢.last_slot {n = n} {e = b} d) place a s c e (Ordered.name lt (Ordered.fixed h)) =
        let ps = expression_pieces place (within_slot n place) b in
        let g = none_append bad_frame ps [] e in
        let r = expression_step d place (within_slot n place) a (slot_holder N n place lt a) s c g.0 h in
        record {
          shaped = SlotsShaped.slot lt r.shaped SlotsShaped.no_slots;
          rest_ordered = ordered_at N L _ _ _ _ _ (omega (arith, count_append (is_one Kind.string) ps [])) (omega arith) r.rest_ordered;
        }
    slots_step (Slots⊢.more_slots {n = n} {e = b} {ss = ss} d f) place a s c e (Ordered.name lt (Ordered.fixed h)) =
        let ps = expression_pieces place (within_slot n place) b in
        let g = none_append bad_frame ps (slots_pieces place ss) e in
        let r = expression_step d place (within_slot n place) a (slot_holder N n place lt a) s c g.0 h in
        let t = slots_step f place a _ _ g.1 (ordered_fixed _ _ _ _ r.rest_ordered) in
        record {
          shaped = SlotsShaped.slot lt r.shaped t.shaped;
          rest_ordered = ordered_at N L _ _ _ _ _ (omega (arith, count_append (is_one Kind.string) ps (slots_pieces place ss))) (omega arith) t.rest_ordered;
        }

    pub instruction_step : {ts rest : List Symbol} {b : Instruction Written} → Instruction⊢ ts b rest → (place : Place) → AllBelow N (holder place) → (s c : ℕ) →
        any bad_frame (instruction_pieces place b) ≡ false → Ordered N L s c ts →
        Step N L s c (InstructionShaped N L c (resolve_instruction place b)) (instruction_pieces place b) (instruction_size (resolve_instruction place b)).codes rest
    instruction_step (Instruction⊢.assign d f) place a s c e h =
        let r = path_step d place a s c h in
        let t = expression_step f place place a a s c e (ordered_fixed _ _ _ _ r.after) in
        record { shaped = InstructionShaped.assign r.below t.shaped; rest_ordered = t.rest_ordered }
    instruction_step (Instruction⊢.show d) place a s c e (Ordered.fixed h) =
        let r = base_step d place a s c e h in record { shaped = InstructionShaped.show r.shaped; rest_ordered = r.rest_ordered }
    instruction_step (Instruction⊢.jump {a = x} {b = y} d f) place a s c e (Ordered.fixed h) =
        let g = none_append bad_frame (base_pieces place x) (Piece.one Kind.expression ∷ base_pieces place y) e in
        let r = base_step d place a s c g.0 h in
        let t = base_step f place a _ _ g.1 r.rest_ordered in
        record {
          shaped = InstructionShaped.jump r.shaped t.shaped;
          rest_ordered =
              ordered_at N L _ _ _ _ _
              (omega (arith, count_append (is_one Kind.string) (base_pieces place x) (Piece.one Kind.expression ∷ base_pieces place y)))
              (omega arith) t.rest_ordered;
        }
    instruction_step (Instruction⊢.ifeq {a = x} {b = y} {c = z} d f k) place a s c e (Ordered.fixed h) =
        let px = base_pieces place x in
        let py = Piece.one Kind.expression ∷ base_pieces place y in
        let pz = Piece.one Kind.expression ∷ base_pieces place z in
        let g = none_append bad_frame (px ++ py) pz e in
        let j = none_append bad_frame px py g.0 in
        let r = base_step d place a s c j.0 h in
        let t = base_step f place a _ _ j.1 r.rest_ordered in
        let u = base_step k place a _ _ g.1 t.rest_ordered in
        record {
          shaped = InstructionShaped.ifeq r.shaped t.shaped u.shaped;
          rest_ordered =
              ordered_at N L _ _ _ _ _
              (omega (arith, count_append (is_one Kind.string) (px ++ py) pz, count_append (is_one Kind.string) px py))
              (omega arith) u.rest_ordered;
        }

    pub code_step : {ts rest : List Symbol} {is : Code Written} → Code⊢ ts is rest → (place : Place) → AllBelow N (holder place) → (s c : ℕ) →
        any bad_frame (code_pieces place is) ≡ false → Ordered N L s c ts →
        Step N L s c (CodeShaped N L c (resolve_code place is)) (code_pieces place is) (code_size (resolve_code place is)).codes rest
    code_step Code⊢.no_instructions place a s c e h =
        record { shaped = CodeShaped.finished; rest_ordered = ordered_at N L _ _ _ _ _ (omega arith) (omega arith) h }
    code_step (Code⊢.more_instructions {i = o} {is = is} d f) place a s c e h =
        let g = none_append bad_frame (instruction_pieces place o) (code_pieces place is) e in
        let r = instruction_step d place a s c g.0 h in
        let t = code_step f place a _ _ g.1 (ordered_fixed _ _ _ _ r.rest_ordered) in
        record {
          shaped = CodeShaped.next r.shaped t.shaped;
          rest_ordered = ordered_at N L _ _ _ _ _ (omega (arith, count_append (is_one Kind.string) (instruction_pieces place o) (code_pieces place is))) (omega arith) t.rest_ordered;
        }
