-- One law for each way through the functions: loops along slots, the tests of an entry by its form. Assumes nothing.
use mathlib.Core.Path.{◌≡◌, sym, ap, ◌∙◌}
use mathlib.Core.Logic.{◌⊎◌, inl, inr}
use mathlib.Core.Bool.{Bool, true, false, ◌&&◌, ◌||◌}
use mathlib.Core.List.{List}
use Prim.Native.Nat.{ℕ, ◌+◌, ◌-◌, ◌≤◌, ◌<◌}
use native.Mathlib.Omega.{arith}
use lib.Dec.{eqb, ltb, leb}
use Rattle.words.specs.Words.{all_below}
use Rattle.program_names.proofs.Laws.{and_true, upto_rest}
use Rattle.tables.proofs.Walks.{Along, along_more, along_all, along_place, walk_past}
use Rattle.tables.specs.Fields.{slot_walk}
use Rattle.tables.specs.declared.ExpressionEntry.{ExpressionEntry}
use Rattle.tables.specs.declared.InstructionEntry.{InstructionEntry}
use Rattle.tables.specs.Fields.{literals, codes, path_names, follow_slot}
use Rattle.program_entries.specs.Tests.{other_name, other_name_at, other_names, slot_ok, slot_at_ok, slots_ok, path_ok, link_ok}
use Rattle.program_entries.specs.Tests.{frame_ok, base_ok, operate_ok, expression_entry_ok, assign_ok, ifeq_ok, instruction_entry_ok}
use Rattle.program_names.specs.Tests.{limits_ok}
use Rattle.program_entries.specs.Tests.{tables_ok, entries_ok}

-- ---- The loops along slots. Where the slots end, the place is 0 from there on, and the test of what is not there holds.

ended : (p : List ℕ) (z i j : ℕ) → slot_walk p z i ≡ 0 → i ≤ j → slot_walk p z j ≡ 0
ended p z i j e le = let q : j ≡ i + (j - i) = omega arith in ap (slot_walk p z) q ∙ walk_past p z i (j - i) e

module _ (p : List ℕ) (z : ℕ) (t : ℕ → Bool) (i y : ℕ) (ok : Bool) (u : Along p z t i y ok) (none : y ≡ 0) where
  pub along_ended : ((j : ℕ) → slot_walk p z j ≡ 0 → t j ≡ true) → ok ≡ all_below t 16
  along_ended f = upto_rest t 16 i ok (record { inside = u.inside; so_far = u.so_far }) (λ j le. f j (ended p z i j (sym u.here ∙ none) le))

  along_last : slot_walk p z 16 ≡ 0
  along_last = ended p z i 16 (sym u.here ∙ none) u.inside

module _ (p : List ℕ) (n z i y w : ℕ) (ok b : Bool) (u : Along p z (other_name_at p n z) i y ok) where
  pub other_again : i < 16 → b ≡ other_name p n y → w ≡ follow_slot p y → Along p z (other_name_at p n z) (i + 1) w (ok && b)
  unfolding other_name_at
  other_again lt e f = along_more p z (other_name_at p n z) i y ok u b w lt (rw (← u.here) e) f

  pub other_done : 16 ≤ i → ok ≡ other_names p n z
  unfolding other_names
  other_done le = along_all p z (other_name_at p n z) i y ok u le

pub other_ended : (p : List ℕ) (n z i y : ℕ) (ok : Bool) → Along p z (other_name_at p n z) i y ok → y ≡ 0 → ok ≡ other_names p n z
unfolding other_names other_name_at other_name
other_ended p n z i y ok u e = along_ended p z (other_name_at p n z) i y ok u e (λ j q. rw q)

module _ (p : List ℕ) (z i y w : ℕ) (ok b : Bool) (u : Along p z (slot_at_ok p z) i y ok) where
  pub slot_again : i < 16 → b ≡ slot_ok p y → w ≡ follow_slot p y → Along p z (slot_at_ok p z) (i + 1) w (ok && b)
  unfolding slot_at_ok
  slot_again lt e f = along_more p z (slot_at_ok p z) i y ok u b w lt (rw (← u.here) e) f

module _ (p : List ℕ) (z i y : ℕ) (ok : Bool) (u : Along p z (slot_at_ok p z) i y ok) where
  pub slots_done : 16 ≤ i → ok && eqb y 0 ≡ slots_ok p z
  unfolding slots_ok
  slots_done le = rw (along_place p z (slot_at_ok p z) i y ok u le, along_all p z (slot_at_ok p z) i y ok u le)

pub slots_ended : (p : List ℕ) (z i y : ℕ) (ok : Bool) → Along p z (slot_at_ok p z) i y ok → y ≡ 0 → ok ≡ slots_ok p z
unfolding slots_ok slot_at_ok slot_ok
slots_ended p z i y ok u e =
    rw (along_last p z (slot_at_ok p z) i y ok u e, ← along_ended p z (slot_at_ok p z) i y ok u e (λ j q. rw q)) (sym (and_true ok))

-- ---- Sums that are widened first

pub path_sum : (p : List ℕ) (j n a b m c : ℕ) → a ≡ j → b ≡ n → m ≡ path_names p → c ≡ m → leb (a + b) c ≡ path_ok p j n
unfolding path_ok
path_sum p j n a b m c ea eb em ec = rw (ea, eb, ec, em)

pub link_sum : (n x d a b c : ℕ) → a ≡ x → b ≡ d → c ≡ n → eqb d 0 || ltb (a + b) c ≡ link_ok n x d
unfolding link_ok
link_sum n x d a b c ea eb ec = rw (ea, eb, ec)

-- ---- An expression by its form

module _ (p : List ℕ) (x : ℕ) (e : ExpressionEntry) where
  pub entry_integer : (w : ℕ) → e ≡ ExpressionEntry.Integer w → true ≡ expression_entry_ok p x e
  unfolding expression_entry_ok
  entry_integer w q = rw q

  pub entry_literal : (n k : ℕ) → e ≡ ExpressionEntry.Literal k → n ≡ literals p → ltb k n ≡ expression_entry_ok p x e
  unfolding expression_entry_ok
  entry_literal n k q u = rw (q, u)

  pub entry_path : (r : Bool) (j n : ℕ) → (e ≡ ExpressionEntry.FromSelf j n) ⊎ (e ≡ ExpressionEntry.FromProgram j n) → r ≡ path_ok p j n → r ≡ expression_entry_ok p x e
  unfolding expression_entry_ok
  entry_path r j n (inl q) u = rw q u
  entry_path r j n (inr q) u = rw q u

  pub entry_code : (n k : ℕ) → e ≡ ExpressionEntry.Code k → n ≡ codes p → ltb k n ≡ expression_entry_ok p x e
  unfolding expression_entry_ok
  entry_code n k q u = rw (q, u)

  pub entry_frame : (r : Bool) (d : ℕ) → e ≡ ExpressionEntry.Frame d → r ≡ frame_ok p x d → r ≡ expression_entry_ok p x e
  unfolding expression_entry_ok
  entry_frame r d q u = rw q u

  pub entry_not : (r : Bool) (a : ℕ) → e ≡ ExpressionEntry.Not a → r ≡ base_ok p a → r ≡ expression_entry_ok p x e
  unfolding expression_entry_ok
  entry_not r a q u = rw q u

  pub entry_operate : (r : Bool) (o a b : ℕ) → e ≡ ExpressionEntry.Operate o a b → r ≡ operate_ok p a b → r ≡ expression_entry_ok p x e
  unfolding expression_entry_ok
  entry_operate r o a b q u = rw q u

  pub entry_bad : e ≡ ExpressionEntry.Bad → false ≡ expression_entry_ok p x e
  unfolding expression_entry_ok
  entry_bad q = rw q

-- ---- An instruction by its form

module _ (p : List ℕ) (e : InstructionEntry) where
  pub assign_form : (r : Bool) (j n a : ℕ) → (e ≡ InstructionEntry.AssignSelf j n a) ⊎ (e ≡ InstructionEntry.AssignProgram j n a) → r ≡ assign_ok p j n a
      → r ≡ instruction_entry_ok p e
  unfolding instruction_entry_ok
  assign_form r j n a (inl q) u = rw q u
  assign_form r j n a (inr q) u = rw q u

  pub show_form : (r : Bool) (a : ℕ) → e ≡ InstructionEntry.Show a → r ≡ base_ok p a → r ≡ instruction_entry_ok p e
  unfolding instruction_entry_ok
  show_form r a q u = rw q u

  pub jump_form : (r : Bool) (a b : ℕ) → e ≡ InstructionEntry.Jump a b → r ≡ operate_ok p a b → r ≡ instruction_entry_ok p e
  unfolding instruction_entry_ok
  jump_form r a b q u = rw q u

  pub ifeq_form : (r : Bool) (a b u : ℕ) → e ≡ InstructionEntry.Ifeq a b u → r ≡ ifeq_ok p a b u → r ≡ instruction_entry_ok p e
  unfolding instruction_entry_ok
  ifeq_form r a b u q w = rw q w

  pub bad_form : e ≡ InstructionEntry.Bad → false ≡ instruction_entry_ok p e
  unfolding instruction_entry_ok
  bad_form q = rw q

-- ---- All of it: counts that are too large are not counted up to

module _ (p l : List ℕ) (a : Bool) (ea : a ≡ limits_ok p) where
  pub limits_bad : a ≡ false → a ≡ entries_ok p l
  unfolding entries_ok
  limits_bad e =
      let f : false ≡ entries_ok p l = rw (← ea, e) in
      e ∙ f

  pub tables_tell : (r : Bool) → a ≡ true → r ≡ tables_ok p l → r ≡ entries_ok p l
  unfolding entries_ok
  tables_tell r e er = rw (← ea, e, er)
