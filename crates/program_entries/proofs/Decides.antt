-- The tests of `Tests` decide `Form`: a test is true exactly when what it tests holds. Assumes nothing.
use mathlib.Core.Path.{◌≡◌, refl, ◌∙◌, ap, sym}
use mathlib.Core.Logic.{◌≢◌}
use mathlib.Core.Bool.{true, not, ◌&&◌, ◌||◌, false≢true}
use mathlib.Core.List.{List}
use Prim.Native.Nat.{ℕ, zero, suc, ◌+◌, ◌-◌, ◌≤◌, ◌<◌}
use native.Mathlib.Omega.{arith}
use native.Mathlib.Decide.{ℕ_discrete}
use lib.Dec.{eqb, ltb, leb, eqb-suc-zero}
use borrow.Author.Tests.{eq-eqb, eqb-true, ltb-true, leb-true, le-leb, lt-ltb}
use Rattle.words.specs.Words.{all_below}
use Rattle.words.proofs.Laws.{all_means, all_if}
use Rattle.tables.proofs.Bools.{split2, split3, split4, or_rest, or_where, not_eq, eq_not}
use Rattle.tables.proofs.Walks.{walk_from, walk_add, walk_few}
use Rattle.tables.specs.declared.ExpressionEntry.{ExpressionEntry}
use Rattle.tables.specs.declared.InstructionEntry.{InstructionEntry}
use Rattle.tables.specs.Entries.{expression_at, instruction_at}
use Rattle.tables.specs.Fields.{names, literals, expressions, instructions, codes, path_names, program_slots, code_first, instruction_link}
use Rattle.tables.specs.Fields.{expression_kind, slot_name, slot_link, link, follow_slot, slot_walk}
use Rattle.program_names.specs.Tests.{limits_ok, texts_ok}
use Rattle.program_names.proofs.Decides.{limits_mean, limits_back, texts_mean, texts_back}
use Rattle.program_entries.specs.Form.{Base, Slot, SlotList, ExpressionForm, InstructionForm, Entries}
use Rattle.program_entries.specs.Tests.{path_ok, link_ok, base_ok, other_name, other_name_at, other_names, slot_ok, slot_at_ok, slots_ok, frame_ok, operate_ok}
use Rattle.program_entries.specs.Tests.{expression_entry_ok, expression_ok, expressions_ok, assign_ok, ifeq_ok, instruction_entry_ok, instruction_ok, instructions_ok}
use Rattle.program_entries.specs.Tests.{code_ok, codes_ok, tables_ok, entries_ok}

-- ---- Bases and links

base_means : (p : List ℕ) (e : ℕ) → base_ok p e ≡ true → Base p e
unfolding base_ok
base_means p e t =
    let s = split2 (ltb e (expressions p)) (ltb (expression_kind p e) 5) t in
    record { there = ltb-true _ _ s.0; base = ltb-true _ _ s.1 }

base_back : (p : List ℕ) (e : ℕ) → Base p e → base_ok p e ≡ true
unfolding base_ok
base_back p e b = rw (lt-ltb _ _ b.there, lt-ltb _ _ b.base)

operate_means : (p : List ℕ) (e g : ℕ) → operate_ok p e g ≡ true → Base p e × Base p g
unfolding operate_ok
operate_means p e g t = let s = split2 (base_ok p e) (base_ok p g) t in (base_means p e s.0, base_means p g s.1)

operate_back : (p : List ℕ) (e g : ℕ) → Base p e → Base p g → operate_ok p e g ≡ true
unfolding operate_ok
operate_back p e g a b = rw (base_back p e a, base_back p g b)

link_means : (n x d : ℕ) → link_ok n x d ≡ true → d ≢ 0 → x + d < n
unfolding link_ok
link_means n x d e ne = ltb-true _ _ (or_rest (eqb d 0) (ltb (x + d) n) e (λ t. ne (eqb-true _ _ t)))

link_back : (n x d : ℕ) → (d ≢ 0 → x + d < n) → link_ok n x d ≡ true
unfolding link_ok
link_back n x d f = or_where (eqb d 0) (ltb (x + d) n) (λ ne. lt-ltb _ _ (f (λ e. ne (eq-eqb _ _ e))))

path_means : (p : List ℕ) (j n : ℕ) → path_ok p j n ≡ true → j + n ≤ path_names p
unfolding path_ok
path_means p j n e = leb-true _ _ e

path_back : (p : List ℕ) (j n : ℕ) → j + n ≤ path_names p → path_ok p j n ≡ true
unfolding path_ok
path_back p j n le = le-leb _ _ le

-- ---- Slots

others_mean : (p : List ℕ) (n z : ℕ) → other_names p n z ≡ true → (j y : ℕ) → j < 16 → slot_walk p z j ≡ suc y → slot_name p y ≢ n
unfolding other_names other_name_at other_name
others_mean p n z e j y lt w =
    let t : (eqb (slot_walk p z j) 0 || not (eqb (slot_name p (slot_walk p z j - 1)) n)) ≡ true = all_means (other_name_at p n z) 16 e j lt in
    let u : not (eqb (slot_name p (slot_walk p z j - 1)) n) ≡ true = or_rest (eqb (slot_walk p z j) 0) _ t (λ q. let v : slot_walk p z j ≡ 0 = eqb-true _ _ q in omega arith) in
    let v : slot_walk p z j - 1 ≡ y = omega arith in
    let r = not_eq (slot_name p (slot_walk p z j - 1)) n u in
    λ q. r (ap (slot_name p) v ∙ q)

others_back : (p : List ℕ) (n z : ℕ) → ((j y : ℕ) → j < 16 → slot_walk p z j ≡ suc y → slot_name p y ≢ n) → other_names p n z ≡ true
unfolding other_names other_name_at other_name
others_back p n z f =
    all_if (other_name_at p n z) 16
    (λ j lt. or_where (eqb (slot_walk p z j) 0) (not (eqb (slot_name p (slot_walk p z j - 1)) n)) (λ ne. eq_not _ n (f j (slot_walk p z j - 1) lt (some j ne))))
  where
    some : (j : ℕ) → (eqb (slot_walk p z j) 0 ≡ true → ⊥) → slot_walk p z j ≡ suc (slot_walk p z j - 1)
    some j ne = go (ℕ_discrete (slot_walk p z j) 0)
      where
        go : Dec (slot_walk p z j ≡ 0) → slot_walk p z j ≡ suc (slot_walk p z j - 1)
        go (yes q) = absurd (ne (eq-eqb _ _ q))
        go (no q) = omega arith

-- what the test of one slot says: the slot, and that no later slot has its name
record SlotAlone (p : List ℕ) (y : ℕ) : Type 0 where
  slot : Slot p y
  alone : (j w : ℕ) → j < 16 → slot_walk p (suc y) (suc j) ≡ suc w → slot_name p w ≢ slot_name p y

slot_means : (p : List ℕ) (y : ℕ) → slot_ok p (suc y) ≡ true → SlotAlone p y
unfolding slot_ok
slot_means p y e =
    let d : suc y - 1 ≡ y = omega arith in
    let e' : (leb (suc y) (expressions p) && ltb (slot_name p y) (names p) && link_ok (expressions p) y (slot_link p y) && other_names p (slot_name p y) (follow_slot p (suc y))) ≡ true = rw (eqb-suc-zero y, d) at e in
    let s = split4 (leb (suc y) (expressions p)) (ltb (slot_name p y) (names p)) (link_ok (expressions p) y (slot_link p y)) (other_names p (slot_name p y) (follow_slot p (suc y))) e' in
    record {
      slot = record { there = leb-true _ _ s.0; named = ltb-true _ _ s.1; link_there = link_means _ _ _ s.2 };
      alone = λ j w lt q. others_mean p (slot_name p y) (follow_slot p (suc y)) s.3 j w lt (walk_from p (suc y) j ∙ q);
    }

slot_back : (p : List ℕ) (y : ℕ) → SlotAlone p y → slot_ok p (suc y) ≡ true
unfolding slot_ok
slot_back p y a =
    let d : suc y - 1 ≡ y = omega arith in
    let o : other_names p (slot_name p y) (follow_slot p (suc y)) ≡ true = others_back p (slot_name p y) (follow_slot p (suc y)) (λ j w lt q. a.alone j w lt (sym (walk_from p (suc y) j) ∙ q)) in
    rw (eqb-suc-zero y, d, le-leb (suc y) (expressions p) a.slot.there, lt-ltb _ _ a.slot.named, link_back _ _ _ a.slot.link_there, o)

pub slots_mean : (p : List ℕ) (z : ℕ) → slots_ok p z ≡ true → SlotList p z
unfolding slots_ok slot_at_ok
slots_mean p z e =
    record { each = λ j y q. (at j y q).slot; most = most; distinct = apart }
  where
    s : (all_below (slot_at_ok p z) 16 ≡ true) × (eqb (slot_walk p z 16) 0 ≡ true)
    s = split2 (all_below (slot_at_ok p z) 16) (eqb (slot_walk p z 16) 0) e

    most : slot_walk p z 16 ≡ 0
    most = eqb-true _ _ s.1

    at : (j y : ℕ) → slot_walk p z j ≡ suc y → SlotAlone p y
    at j y q = slot_means p y (ap (slot_ok p) (sym q) ∙ all_means (slot_at_ok p z) 16 s.0 j (walk_few p z j y most q))

    apart : (i j x y : ℕ) → i < j → slot_walk p z i ≡ suc x → slot_walk p z j ≡ suc y → slot_name p x ≢ slot_name p y
    apart i j x y lt qx qy ne =
        let few : j < 16 = walk_few p z j y most qy in
        let q : slot_walk p (suc x) (suc (j - suc i)) ≡ suc y = ap (λ (w : ℕ). slot_walk p w (suc (j - suc i))) (sym qx) ∙ walk_add p z i (suc (j - suc i)) ∙ ap (slot_walk p z) (omega arith) ∙ qy in
        (at i x qx).alone (j - suc i) y (omega arith) q (sym ne)

none_ok : (p : List ℕ) → slot_ok p 0 ≡ true
unfolding slot_ok
none_ok p = refl

pub slots_back : (p : List ℕ) (z : ℕ) → SlotList p z → slots_ok p z ≡ true
unfolding slots_ok slot_at_ok
slots_back p z l = rw (all_if (slot_at_ok p z) 16 (λ j lt. at j (slot_walk p z j) refl), eq-eqb _ _ l.most)
  where
    at : (j w : ℕ) → slot_walk p z j ≡ w → slot_ok p (slot_walk p z j) ≡ true
    at j zero q = ap (slot_ok p) q ∙ none_ok p
    at j (suc y) q =
        ap (slot_ok p) q
        ∙ slot_back p y (record {
          slot = l.each j y q;
          alone = λ i w lt r e. l.distinct j (j + suc i) y w (omega arith) q (sym (walk_add p z j (suc i)) ∙ ap (λ (v : ℕ). slot_walk p v (suc i)) q ∙ r) (sym e);
        })

-- ---- Expressions

frame_means : (p : List ℕ) (x d : ℕ) → frame_ok p x d ≡ true → (link_ok (expressions p) x d ≡ true) × (slots_ok p (link 1024 x d) ≡ true)
unfolding frame_ok
frame_means p x d e = split2 (link_ok (expressions p) x d) (slots_ok p (link 1024 x d)) e

frame_back : (p : List ℕ) (x d : ℕ) → (d ≢ 0 → x + d < expressions p) → SlotList p (link 1024 x d) → frame_ok p x d ≡ true
unfolding frame_ok
frame_back p x d f l = rw (link_back (expressions p) x d f, slots_back p (link 1024 x d) l)

module _ (p : List ℕ) (x : ℕ) (v : ExpressionEntry) (e : expression_entry_ok p x v ≡ true) where
  is_literal : (k : ℕ) → v ≡ ExpressionEntry.Literal k → ltb k (literals p) ≡ true
  unfolding expression_entry_ok
  is_literal k w = rw w at e

  is_from_self : (j n : ℕ) → v ≡ ExpressionEntry.FromSelf j n → path_ok p j n ≡ true
  unfolding expression_entry_ok
  is_from_self j n w = rw w at e

  is_from_program : (j n : ℕ) → v ≡ ExpressionEntry.FromProgram j n → path_ok p j n ≡ true
  unfolding expression_entry_ok
  is_from_program j n w = rw w at e

  is_code : (k : ℕ) → v ≡ ExpressionEntry.Code k → ltb k (codes p) ≡ true
  unfolding expression_entry_ok
  is_code k w = rw w at e

  is_frame : (d : ℕ) → v ≡ ExpressionEntry.Frame d → frame_ok p x d ≡ true
  unfolding expression_entry_ok
  is_frame d w = rw w at e

  is_not : (a : ℕ) → v ≡ ExpressionEntry.Not a → base_ok p a ≡ true
  unfolding expression_entry_ok
  is_not a w = rw w at e

  is_operate : (o a b : ℕ) → v ≡ ExpressionEntry.Operate o a b → operate_ok p a b ≡ true
  unfolding expression_entry_ok
  is_operate o a b w = rw w at e

  is_bad : v ≡ ExpressionEntry.Bad → ⊥
  unfolding expression_entry_ok
  is_bad w = false≢true (rw w at e)

expression_means : (p : List ℕ) (x : ℕ) → expression_ok p x ≡ true → ExpressionForm p x
unfolding expression_ok
expression_means p x e =
    let v = expression_at p x in
    record {
      literal = λ k w. ltb-true _ _ (is_literal p x v e k w);
      from_self = λ j n w. path_means p j n (is_from_self p x v e j n w);
      from_program = λ j n w. path_means p j n (is_from_program p x v e j n w);
      code = λ k w. ltb-true _ _ (is_code p x v e k w);
      frame_link = λ d w. link_means _ _ _ (frame_means p x d (is_frame p x v e d w)).0;
      frame = λ d w. slots_mean p (link 1024 x d) (frame_means p x d (is_frame p x v e d w)).1;
      negated = λ a w. base_means p a (is_not p x v e a w);
      left = λ o a b w. (operate_means p a b (is_operate p x v e o a b w)).0;
      right = λ o a b w. (operate_means p a b (is_operate p x v e o a b w)).1;
      formed = is_bad p x v e;
    }

expression_back_by : (p : List ℕ) (x : ℕ) → ExpressionForm p x → (v : ExpressionEntry) → expression_at p x ≡ v → expression_entry_ok p x v ≡ true
unfolding expression_entry_ok
expression_back_by p x f (ExpressionEntry.Integer w) e = refl
expression_back_by p x f (ExpressionEntry.Literal k) e = lt-ltb _ _ (f.literal k e)
expression_back_by p x f (ExpressionEntry.FromSelf j n) e = path_back p j n (f.from_self j n e)
expression_back_by p x f (ExpressionEntry.FromProgram j n) e = path_back p j n (f.from_program j n e)
expression_back_by p x f (ExpressionEntry.Code k) e = lt-ltb _ _ (f.code k e)
expression_back_by p x f (ExpressionEntry.Frame d) e = frame_back p x d (f.frame_link d e) (f.frame d e)
expression_back_by p x f (ExpressionEntry.Not a) e = base_back p a (f.negated a e)
expression_back_by p x f (ExpressionEntry.Operate o a b) e = operate_back p a b (f.left o a b e) (f.right o a b e)
expression_back_by p x f ExpressionEntry.Bad e = absurd (f.formed e)

expression_back : (p : List ℕ) (x : ℕ) → ExpressionForm p x → expression_ok p x ≡ true
unfolding expression_ok
expression_back p x f = expression_back_by p x f (expression_at p x) refl

-- ---- Instructions

assign_means : (p : List ℕ) (j n e : ℕ) → assign_ok p j n e ≡ true → (path_ok p j n ≡ true) × (ltb e (expressions p) ≡ true)
unfolding assign_ok
assign_means p j n e t = split2 (path_ok p j n) (ltb e (expressions p)) t

assign_back : (p : List ℕ) (j n e : ℕ) → j + n ≤ path_names p → e < expressions p → assign_ok p j n e ≡ true
unfolding assign_ok
assign_back p j n e le lt = rw (path_back p j n le, lt-ltb _ _ lt)

ifeq_means : (p : List ℕ) (e g u : ℕ) → ifeq_ok p e g u ≡ true → Base p e × Base p g × Base p u
unfolding ifeq_ok
ifeq_means p e g u t =
    let s = split3 (base_ok p e) (base_ok p g) (base_ok p u) t in
    (base_means p e s.0, base_means p g s.1, base_means p u s.2)

ifeq_back : (p : List ℕ) (e g u : ℕ) → Base p e → Base p g → Base p u → ifeq_ok p e g u ≡ true
unfolding ifeq_ok
ifeq_back p e g u a b c = rw (base_back p e a, base_back p g b, base_back p u c)

module _ (p : List ℕ) (v : InstructionEntry) (e : instruction_entry_ok p v ≡ true) where
  is_assign_self : (j n a : ℕ) → v ≡ InstructionEntry.AssignSelf j n a → assign_ok p j n a ≡ true
  unfolding instruction_entry_ok
  is_assign_self j n a w = rw w at e

  is_assign_program : (j n a : ℕ) → v ≡ InstructionEntry.AssignProgram j n a → assign_ok p j n a ≡ true
  unfolding instruction_entry_ok
  is_assign_program j n a w = rw w at e

  is_show : (a : ℕ) → v ≡ InstructionEntry.Show a → base_ok p a ≡ true
  unfolding instruction_entry_ok
  is_show a w = rw w at e

  is_jump : (a b : ℕ) → v ≡ InstructionEntry.Jump a b → operate_ok p a b ≡ true
  unfolding instruction_entry_ok
  is_jump a b w = rw w at e

  is_ifeq : (a b u : ℕ) → v ≡ InstructionEntry.Ifeq a b u → ifeq_ok p a b u ≡ true
  unfolding instruction_entry_ok
  is_ifeq a b u w = rw w at e

  is_bad_instruction : v ≡ InstructionEntry.Bad → ⊥
  unfolding instruction_entry_ok
  is_bad_instruction w = false≢true (rw w at e)

instruction_means : (p : List ℕ) (i : ℕ) → instruction_ok p i ≡ true → InstructionForm p i
unfolding instruction_ok
instruction_means p i t =
    let v = instruction_at p i in
    let s = split2 (instruction_entry_ok p v) (link_ok (instructions p) i (instruction_link p i)) t in
    let e = s.0 in
    record {
      self_path = λ j n a w. path_means p j n (assign_means p j n a (is_assign_self p v e j n a w)).0;
      self_there = λ j n a w. ltb-true _ _ (assign_means p j n a (is_assign_self p v e j n a w)).1;
      program_path = λ j n a w. path_means p j n (assign_means p j n a (is_assign_program p v e j n a w)).0;
      program_there = λ j n a w. ltb-true _ _ (assign_means p j n a (is_assign_program p v e j n a w)).1;
      shown = λ a w. base_means p a (is_show p v e a w);
      jump_to = λ a b w. (operate_means p a b (is_jump p v e a b w)).0;
      jump_with = λ a b w. (operate_means p a b (is_jump p v e a b w)).1;
      ifeq_test = λ a b u w. (ifeq_means p a b u (is_ifeq p v e a b u w)).0;
      ifeq_to = λ a b u w. (ifeq_means p a b u (is_ifeq p v e a b u w)).1;
      ifeq_with = λ a b u w. (ifeq_means p a b u (is_ifeq p v e a b u w)).2;
      formed = is_bad_instruction p v e;
      link_there = link_means _ _ _ s.1;
    }

instruction_back_by : (p : List ℕ) (i : ℕ) → InstructionForm p i → (v : InstructionEntry) → instruction_at p i ≡ v → instruction_entry_ok p v ≡ true
unfolding instruction_entry_ok
instruction_back_by p i f (InstructionEntry.AssignSelf j n a) e = assign_back p j n a (f.self_path j n a e) (f.self_there j n a e)
instruction_back_by p i f (InstructionEntry.AssignProgram j n a) e = assign_back p j n a (f.program_path j n a e) (f.program_there j n a e)
instruction_back_by p i f (InstructionEntry.Show a) e = base_back p a (f.shown a e)
instruction_back_by p i f (InstructionEntry.Jump a b) e = operate_back p a b (f.jump_to a b e) (f.jump_with a b e)
instruction_back_by p i f (InstructionEntry.Ifeq a b u) e = ifeq_back p a b u (f.ifeq_test a b u e) (f.ifeq_to a b u e) (f.ifeq_with a b u e)
instruction_back_by p i f InstructionEntry.Bad e = absurd (f.formed e)

instruction_back : (p : List ℕ) (i : ℕ) → InstructionForm p i → instruction_ok p i ≡ true
unfolding instruction_ok
instruction_back p i f = rw (instruction_back_by p i f (instruction_at p i) refl, link_back _ _ _ f.link_there)

-- ---- Codes

code_means : (p : List ℕ) (k i : ℕ) → code_ok p k ≡ true → code_first p k ≡ suc i → i < instructions p
unfolding code_ok
code_means p k i e q = let le : code_first p k ≤ instructions p = leb-true _ _ e in omega arith

code_back : (p : List ℕ) (k : ℕ) → ((i : ℕ) → code_first p k ≡ suc i → i < instructions p) → code_ok p k ≡ true
unfolding code_ok
code_back p k f = le-leb _ _ (go (code_first p k) refl)
  where
    go : (z : ℕ) → code_first p k ≡ z → code_first p k ≤ instructions p
    go zero e = omega arith
    go (suc i) e = let lt = f i e in omega arith

-- ---- All of it

pub entries_mean : (p l : List ℕ) → entries_ok p l ≡ true → Entries p l
unfolding entries_ok tables_ok expressions_ok instructions_ok codes_ok
entries_mean p l e =
    let s = split2 (limits_ok p) (tables_ok p l) e in
    let t = split4 (texts_ok p l && expressions_ok p) (instructions_ok p) (codes_ok p) (slots_ok p (program_slots p)) s.1 in
    let u = split2 (texts_ok p l) (expressions_ok p) t.0 in
    record {
      limits = limits_mean p s.0;
      texts = texts_mean p l u.0;
      expression = λ x lt. expression_means p x (all_means (expression_ok p) (expressions p) u.1 x lt);
      instruction = λ i lt. instruction_means p i (all_means (instruction_ok p) (instructions p) t.1 i lt);
      code_first_there = λ k i lt q. code_means p k i (all_means (code_ok p) (codes p) t.2 k lt) q;
      program_frame = slots_mean p (program_slots p) t.3;
    }

pub entries_back : (p l : List ℕ) → Entries p l → entries_ok p l ≡ true
unfolding entries_ok tables_ok expressions_ok instructions_ok codes_ok
entries_back p l w =
    let x : expressions_ok p ≡ true = all_if (expression_ok p) (expressions p) (λ x lt. expression_back p x (w.expression x lt)) in
    let i : instructions_ok p ≡ true = all_if (instruction_ok p) (instructions p) (λ i lt. instruction_back p i (w.instruction i lt)) in
    let k : codes_ok p ≡ true = all_if (code_ok p) (codes p) (λ k lt. code_back p k (λ i. w.code_first_there k i lt)) in
    rw (limits_back p w.limits, texts_back p l w.texts, x, i, k, slots_back p (program_slots p) w.program_frame)
