-- The test decides; what well-formed words give. Assumes nothing.
use mathlib.Core.Path.{◌≡◌, refl, ◌∙◌, ap, sym}
use mathlib.Core.Bool.{◌&&◌}
use mathlib.Core.List.{List}
use Prim.Native.Nat.{ℕ, zero, suc, ◌+◌, ◌-◌, ◌≤◌, ◌<◌}
use native.Mathlib.Omega.{arith}
use native.Mathlib.Decide.{ℕ_discrete, dec_lt}
use lib.Dec.{eqb}
use lib.ListN.{length}
use borrow.Author.Tests.{eq-eqb, eqb-true}
use Rattle.tables.proofs.Bools.{split2}
use Rattle.tables.proofs.Walks.{slot_reaches, instruction_reaches, instruction_before, instruction_walk_suc}
use Rattle.tables.specs.Fields.{instructions, codes, program_slots, code_first, link, slot_after, follow_slot, slot_walk, instruction_after, follow_instruction, instruction_walk}
use Rattle.program_entries.specs.Form.{Slot, SlotList, Entries}
use Rattle.program_entries.specs.Tests.{entries_ok}
use Rattle.program_entries.proofs.Decides.{entries_mean, entries_back}
use Rattle.program_parts.specs.Parts.{StandsIn}
use Rattle.program_parts.specs.Tests.{parts_ok}
use Rattle.program_parts.proofs.Sound.{parts_mean, part_there, operand_there}
use Rattle.program_parts.proofs.Complete.{parts_back, after_there}
use Rattle.program_form.specs.WellFormed.{WellFormed, program_well_formed, Decides}
use Rattle.program_form.specs.Sound.{SlotPlace, Sound}

pub decides : (p l : List ℕ) → Decides p l
unfolding program_well_formed
decides p l =
    record {
      means = λ e. let s = split2 (eqb (length p) 16384) (eqb (length l) 8192 && (entries_ok p l && parts_ok p)) e in
          let t = split2 (eqb (length l) 8192) (entries_ok p l && parts_ok p) s.1 in
          let u = split2 (entries_ok p l) (parts_ok p) t.1 in
          let E = entries_mean p l u.0 in
          record { size = eqb-true _ _ s.0; literal_size = eqb-true _ _ t.0; entries = E; parts = parts_mean p l E u.1 };
      never_refused = λ w. rw (eq-eqb _ _ w.size, eq-eqb _ _ w.literal_size, entries_back p l w.entries, parts_back p l w.entries w.parts);
    }

-- ---- Places among slots

module _ (p l : List ℕ) (E : Entries p l) where
  -- a place among slots lies on a walk along a list of slots
  record OnList (z : ℕ) : Type 0 where
    start : ℕ
    slots : SlotList p start
    turns : ℕ
    here : slot_walk p start turns ≡ z

  on_list : (z : ℕ) → SlotPlace p z → OnList z
  unfolding slot_walk follow_slot
  on_list _ SlotPlace.of_program = record { start = program_slots p; slots = E.program_frame; turns = 0; here = refl }
  on_list _ (SlotPlace.of_frame x d lt e) = record { start = link 1024 x d; slots = (E.expression x lt).frame d e; turns = 0; here = refl }
  on_list _ (SlotPlace.after y s) = further (on_list (suc y) s)
    where
      followed : (z : ℕ) → z ≡ suc y → follow_slot p z ≡ slot_after p y
      followed z e = rw e

      further : OnList (suc y) → OnList (slot_after p y)
      further o = record { start = o.start; slots = o.slots; turns = suc o.turns; here = followed _ o.here }

  pub slot_at : (y : ℕ) → SlotPlace p (suc y) → Slot p y
  slot_at y s = let o = on_list (suc y) s in o.slots.each o.turns y o.here

-- ---- Walks along a code

code_rises : (p : List ℕ) (z t i : ℕ) → instruction_walk p z t ≡ suc i → t ≤ i
unfolding instruction_walk
code_rises p z zero i e = omega arith
code_rises p z (suc t) i e =
    let b = instruction_before p (instruction_walk p z t) i e in
    let r = instruction_reaches p b.number i b.next in
    let ih : t ≤ b.number = code_rises p z t b.number b.here in
    omega (arith, r.some, r.there)

-- a later place has a larger number
code_apart : (p : List ℕ) (z n m i j : ℕ) → instruction_walk p z n ≡ suc i → instruction_walk p z (n + suc m) ≡ suc j → i < j
code_apart p z n m i j ei ej = go m j ej
  where
    back : (m j : ℕ) → instruction_walk p z (n + suc m) ≡ suc j → follow_instruction p (instruction_walk p z (n + m)) ≡ suc j
    back m j e = let q : suc (n + m) ≡ n + suc m = omega arith in sym (instruction_walk_suc p z (n + m)) ∙ ap (instruction_walk p z) q ∙ e

    go : (m j : ℕ) → instruction_walk p z (n + suc m) ≡ suc j → i < j
    go zero j e =
        let b = instruction_before p (instruction_walk p z (n + 0)) j (back 0 j e) in
        let r = instruction_reaches p b.number j b.next in
        let q : n + 0 ≡ n = omega arith in
        let s : suc b.number ≡ suc i = sym b.here ∙ ap (instruction_walk p z) q ∙ ei in
        omega (arith, r.some, r.there)
    go (suc m) j e =
        let b = instruction_before p (instruction_walk p z (n + suc m)) j (back (suc m) j e) in
        let r = instruction_reaches p b.number j b.next in
        let ih : i < b.number = go m b.number b.here in
        omega (arith, r.some, r.there)

-- ---- What well-formed words give

module _ (p l : List ℕ) (w : WellFormed p l) where
  E : Entries p l
  E = w.entries

  next_exists : (i j : ℕ) → i < instructions p → instruction_after p i ≡ suc j → j < instructions p
  next_exists i j lt e = (after_there p l E i j lt e).0

  on_code : (k : ℕ) → k < codes p → (t i : ℕ) → instruction_walk p (code_first p k) t ≡ suc i → i < instructions p
  unfolding instruction_walk
  on_code k lt zero i e = E.code_first_there k i lt e
  on_code k lt (suc t) i e =
      let b = instruction_before p (instruction_walk p (code_first p k) t) i e in
      next_exists b.number i (on_code k lt t b.number b.here) b.next

  code_end : (k : ℕ) → k < codes p → instruction_walk p (code_first p k) (instructions p) ≡ 0
  code_end k lt = go (instruction_walk p (code_first p k) (instructions p)) refl
    where
      go : (z : ℕ) → instruction_walk p (code_first p k) (instructions p) ≡ z → z ≡ 0
      go zero e = refl
      go (suc i) e = absurd (let a = on_code k lt (instructions p) i e in let b = code_rises p (code_first p k) (instructions p) i e in omega arith)

  same_place : (k i : ℕ) (s t : StandsIn p k i) → s.turns ≡ t.turns
  same_place k i s t = go (ℕ_discrete s.turns t.turns) (dec_lt s.turns t.turns)
    where
      z : ℕ
      z = code_first p k

      apart : (n m : ℕ) → n < m → instruction_walk p z n ≡ suc i → instruction_walk p z m ≡ suc i → ⊥
      apart n m lt a b =
          let q : n + suc (m - suc n) ≡ m = omega arith in
          let c = code_apart p z n (m - suc n) i i a (ap (instruction_walk p z) q ∙ b) in
          omega arith

      go : Dec (s.turns ≡ t.turns) → Dec (s.turns < t.turns) → s.turns ≡ t.turns
      go (yes q) d = q
      go (no q) (yes lt) = absurd (apart s.turns t.turns lt s.here t.here)
      go (no q) (no ge) = absurd (apart t.turns s.turns (omega arith) t.here s.here)

  pub sound : Sound p
  sound =
      record {
        part_there = part_there p l E;
        operand_there = operand_there p l E;
        slot_there = λ y s. (slot_at p l E y s).there;
        slot_named = λ y s. (slot_at p l E y s).named;
        code_there = λ k x a. (E.expression x a.there).code k a.is_code;
        first_there = E.code_first_there;
        next_there = next_exists;
        stands_there = λ k i s. on_code k s.code_there s.turns i s.here;
        part_larger = w.parts.larger;
        slot_larger = λ y v e. let r = slot_reaches p y v e in omega (arith, r.some, r.there);
        next_larger = λ i j e. let r = instruction_reaches p i j e in omega (arith, r.some, r.there);
        code_larger = w.parts.larger_codes;
        program_slots_end = E.program_frame.most;
        slots_end = λ x d lt e. ((E.expression x lt).frame d e).most;
        code_ends = code_end;
        one_place = same_place;
      }
