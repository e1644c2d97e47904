-- What each way through the functions gives. Assumes nothing.
use mathlib.Core.Path.{◌≡◌, refl, sym, ap, ◌∙◌}
use mathlib.Core.List.{List}
use Prim.Native.Nat.{ℕ, zero, suc, ◌+◌, ◌-◌, ◌≤◌, ◌<◌}
use native.Mathlib.Omega.{arith}
use lib.Dec.{eqb}
use borrow.Author.Tests.{eq-eqb, ne_eqb}
use Rattle.words.specs.Words.{pick}
use Rattle.tables.specs.declared.ExpressionEntry.{ExpressionEntry}
use Rattle.tables.specs.Entries.{expression_at}
use Rattle.tables.specs.Fields.{program_slots, slot_name, slot_after, link}
use Rattle.start_code.specs.StartCode.{find_slot, entry_slots, frame_slots, entry_code, code_number, start_code}

-- ---- find_slot: what is left gives the answer

find_step : (p : List ℕ) (x n z : ℕ) → (z ≡ 0 → ⊥) → find_slot p x (suc n) z ≡ pick (eqb x (slot_name p (z - 1))) z (find_slot p x n (slot_after p (z - 1)))
unfolding find_slot
find_step p x n zero ne = absurd (ne refl)
find_step p x n (suc y) ne = let e : suc y - 1 ≡ y = omega arith in rw e

pub record Finding (p : List ℕ) (x from z i : ℕ) : Type 0 where
  pub inside : i ≤ 16
  pub rest : find_slot p x (16 - i) z ≡ find_slot p x 16 from

pub find_start : (p : List ℕ) (x from : ℕ) → Finding p x from from 0
find_start p x from = record { inside = omega arith; rest = refl }

module _ (p : List ℕ) (x from z i : ℕ) (c : Finding p x from z i) where
  left_more : i < 16 → 16 - i ≡ suc (16 - (i + 1))
  left_more lt = omega arith

  pub find_end : 16 ≤ i → 0 ≡ find_slot p x 16 from
  unfolding find_slot
  find_end le = let e : 16 - i ≡ 0 = omega arith in sym (ap (λ (n : ℕ). find_slot p x n z) e) ∙ c.rest

  pub find_none : i < 16 → z ≡ 0 → 0 ≡ find_slot p x 16 from
  unfolding find_slot
  find_none lt e = rw (left_more lt, e) at c.rest

  module _ (lt : i < 16) (ne : z ≡ 0 → ⊥) (m : ℕ) (em : m ≡ slot_name p (z - 1)) where
    turn : pick (eqb x m) z (find_slot p x (16 - (i + 1)) (slot_after p (z - 1))) ≡ find_slot p x 16 from
    turn = rw em (sym (find_step p x (16 - (i + 1)) z ne) ∙ (rw (left_more lt) at c.rest))

    pub find_here : x ≡ m → z ≡ find_slot p x 16 from
    find_here e = rw (eq-eqb x m e) at turn

    pub find_again : (x ≡ m → ⊥) → (z' : ℕ) → z' ≡ slot_after p (z - 1) → Finding p x from z' (i + 1)
    find_again n z' ez = record { inside = omega arith; rest = rw ez (rw (ne_eqb x m n) at turn) }

-- ---- frame_slots and code_number

pub slots_none : (p : List ℕ) (z : ℕ) → z ≡ 0 → 0 ≡ frame_slots p z
unfolding frame_slots
slots_none p z e = rw e

pub number_none : (p : List ℕ) (z : ℕ) → z ≡ 0 → 0 ≡ code_number p z
unfolding code_number
number_none p z e = rw e

module _ (p : List ℕ) (z : ℕ) (ne : z ≡ 0 → ⊥) (e : ExpressionEntry) (ee : e ≡ expression_at p (z - 1)) where
  slots_by_entry : entry_slots (z - 1) e ≡ frame_slots p z
  unfolding frame_slots
  slots_by_entry = let q : z ≡ suc (z - 1) = omega arith in rw ee (sym (ap (frame_slots p) q))

  number_by_entry : entry_code e ≡ code_number p z
  unfolding code_number
  number_by_entry = let q : z ≡ suc (z - 1) = omega arith in rw ee (sym (ap (code_number p) q))

  pub slots_here : (d r : ℕ) → e ≡ ExpressionEntry.Frame d → r ≡ link 1024 (z - 1) d → r ≡ frame_slots p z
  unfolding entry_slots
  slots_here d r is er = er ∙ (rw is at slots_by_entry)

  pub number_here : (k : ℕ) → e ≡ ExpressionEntry.Code k → k ≡ code_number p z
  unfolding entry_code
  number_here k is = rw is at number_by_entry

  pub slots_other : ((k : ℕ) → e ≡ ExpressionEntry.Frame k → ⊥) → 0 ≡ frame_slots p z
  unfolding entry_slots
  slots_other o = go e o ∙ slots_by_entry
    where
      go : (x : ExpressionEntry) → ((k : ℕ) → x ≡ ExpressionEntry.Frame k → ⊥) → 0 ≡ entry_slots (z - 1) x
      go (ExpressionEntry.Integer w) o = refl
      go (ExpressionEntry.Literal k) o = refl
      go (ExpressionEntry.FromSelf j n) o = refl
      go (ExpressionEntry.FromProgram j n) o = refl
      go (ExpressionEntry.Code k) o = refl
      go (ExpressionEntry.Frame d) o = absurd (o d refl)
      go (ExpressionEntry.Not a) o = refl
      go (ExpressionEntry.Operate k a b) o = refl
      go ExpressionEntry.Bad o = refl

  pub number_other : ((k : ℕ) → e ≡ ExpressionEntry.Code k → ⊥) → 0 ≡ code_number p z
  unfolding entry_code
  number_other o = go e o ∙ number_by_entry
    where
      go : (x : ExpressionEntry) → ((k : ℕ) → x ≡ ExpressionEntry.Code k → ⊥) → 0 ≡ entry_code x
      go (ExpressionEntry.Integer w) o = refl
      go (ExpressionEntry.Literal k) o = refl
      go (ExpressionEntry.FromSelf j n) o = refl
      go (ExpressionEntry.FromProgram j n) o = refl
      go (ExpressionEntry.Code k) o = absurd (o k refl)
      go (ExpressionEntry.Frame d) o = refl
      go (ExpressionEntry.Not a) o = refl
      go (ExpressionEntry.Operate k a b) o = refl
      go ExpressionEntry.Bad o = refl

pub start_done : (p : List ℕ) (main start z a b c k : ℕ) → z ≡ program_slots p → a ≡ find_slot p main 16 z → b ≡ frame_slots p a → c ≡ find_slot p start 16 b → k ≡ code_number p c → k ≡ start_code p main start
unfolding start_code
start_done p main start z a b c k ez ea eb ec ek = rw (ek, ec, eb, ea, ez)
