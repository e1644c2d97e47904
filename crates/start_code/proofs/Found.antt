-- In well-formed words the code found is the Main.start of the slots that they hold; the word that says which code is the start does not matter. Assumes nothing.
use mathlib.Core.Path.{◌≡◌, refl, ap, ◌∙◌}
use mathlib.Core.Logic.{◌≢◌}
use mathlib.Core.Bool.{Bool, true, false}
use mathlib.Core.List.{List}
use mathlib.Core.Option.{Option, none, some}
use Prim.Native.Nat.{ℕ, zero, suc, ◌<◌}
use native.Mathlib.Decide.{ℕ_discrete}
use native.Mathlib.Omega.{arith}
use lib.Dec.{eqb}
use Rattle.words.specs.Words.{pick}
use Rattle.framed.specs.Common.{bytes}
use Rattle.framed.specs.Symbols.{number_in}
use Rattle.framed.specs.Tree.{Expression, Slots}
use Rattle.framed.specs.Paths.{Path}
use Rattle.framed.specs.Meaning.{slot_of, frame_in, code_in, main_start}
use Rattle.framed.proofs.General.{none≢some, some_inj}
use Rattle.tables.specs.declared.ExpressionEntry.{ExpressionEntry}
use Rattle.tables.specs.Entries.{expression_at}
use Rattle.tables.specs.Fields.{expressions, program_slots, slot_name, slot_after, follow_slot, slot_walk}
use Rattle.tables.proofs.Walks.{walk_from}
use Rattle.table_updates.specs.Updates.{set_start}
use Rattle.table_updates.proofs.Laws.{Region, set_start_region, program_slots_kept, slot_name_kept, slot_after_kept, expression_at_kept}
use Rattle.program_form.specs.WellFormed.{WellFormed}
use Rattle.program_form.specs.Sound.{SlotPlace}
use Rattle.program_form.proofs.Decides.{sound}
use Rattle.trees.specs.Trees.{expression_tree}
use Rattle.trees.specs.Held.{expression_held, slots_held, held, OneLevel}
use Rattle.trees.proofs.Held.{one_level_held}
use Rattle.start_code.specs.StartCode.{find_slot, entry_slots, frame_slots, entry_code, code_number, start_code, StartFound}

module _ (p l : List ℕ) (w : WellFormed p l) where
  one : OneLevel p l
  one = one_level_held p l w

  -- the expression in the slot at a place
  abbrev slot_at : ℕ → Option (Expression Path)
  slot_at zero = none
  slot_at (suc y) = some (expression_held p y)

  -- a place that is none, or of an expression
  abbrev There : ℕ → Type 0
  There zero = Unit
  There (suc y) = y < expressions p

  record Finds (x z r : ℕ) : Type 0 where
    there : There r
    is : slot_at r ≡ slot_of x (slots_held p z)

  finds : (x n z : ℕ) → SlotPlace p z → slot_walk p z n ≡ 0 → Finds x z (find_slot p x n z)
  unfolding find_slot slot_of slot_walk follow_slot
  finds x zero z at e = record { there = tt; is = rw (e, one.no_slots) }
  finds x (suc n) zero at e = record { there = tt; is = rw one.no_slots }
  finds x (suc n) (suc y) at e = go (eqb x (slot_name p y)) refl (finds x n (slot_after p y) (SlotPlace.after y at) (walk_from p (suc y) n ∙ e))
    where
      go : (t : Bool) → eqb x (slot_name p y) ≡ t → Finds x (slot_after p y) (find_slot p x n (slot_after p y)) → Finds x (suc y) (pick t (suc y) (find_slot p x n (slot_after p y)))
      go true q rest = record { there = (sound p l w).slot_there y at; is = rw (one.slot y at, q, slot_of) }
      go false q rest = record { there = rest.there; is = rw (one.slot y at, q, slot_of) rest.is }

  -- the slots of a frame in a slot: none where it is no frame
  slots_are : (z : ℕ) → There z → slots_held p (frame_slots p z) ≡ frame_in (slot_at z)
  unfolding frame_slots frame_in entry_slots expression_tree
  slots_are zero t = one.no_slots
  slots_are (suc y) t = rw (one.expression y t) (go (expression_at p y))
    where
      go : (e : ExpressionEntry) → slots_held p (entry_slots y e) ≡ frame_in (some (expression_tree (held p) p y e))
      go (ExpressionEntry.Integer v) = one.no_slots
      go (ExpressionEntry.Literal k) = one.no_slots
      go (ExpressionEntry.FromSelf j n) = one.no_slots
      go (ExpressionEntry.FromProgram j n) = one.no_slots
      go (ExpressionEntry.Code k) = one.no_slots
      go (ExpressionEntry.Frame d) = refl
      go (ExpressionEntry.Not a) = one.no_slots
      go (ExpressionEntry.Operate k a b) = one.no_slots
      go ExpressionEntry.Bad = one.no_slots

  -- and they end after at most 16
  record Walked (z : ℕ) : Type 0 where
    place : SlotPlace p z
    ends : slot_walk p z 16 ≡ 0

  finds_in : (x : ℕ) (z : ℕ) → Dec (z ≡ 0) → (z ≢ 0 → Walked z) → Finds x z (find_slot p x 16 z)
  unfolding find_slot slot_of
  finds_in x z (yes e) k = rw e (record { there = tt; is = rw one.no_slots })
  finds_in x z (no ne) k = finds x 16 z (k ne).place (k ne).ends

  frame_walked : (z : ℕ) → There z → frame_slots p z ≢ 0 → Walked (frame_slots p z)
  unfolding frame_slots entry_slots
  frame_walked zero t ne = absurd (ne refl)
  frame_walked (suc y) t ne = go (expression_at p y) refl ne
    where
      go : (e : ExpressionEntry) → expression_at p y ≡ e → entry_slots y e ≢ 0 → Walked (entry_slots y e)
      go (ExpressionEntry.Integer v) q ne = absurd (ne refl)
      go (ExpressionEntry.Literal k) q ne = absurd (ne refl)
      go (ExpressionEntry.FromSelf j n) q ne = absurd (ne refl)
      go (ExpressionEntry.FromProgram j n) q ne = absurd (ne refl)
      go (ExpressionEntry.Code k) q ne = absurd (ne refl)
      go (ExpressionEntry.Frame d) q ne = record { place = SlotPlace.of_frame y d t q; ends = (sound p l w).slots_end y d t q }
      go (ExpressionEntry.Not a) q ne = absurd (ne refl)
      go (ExpressionEntry.Operate k a b) q ne = absurd (ne refl)
      go ExpressionEntry.Bad q ne = absurd (ne refl)

  -- the number of a code in a slot, where there is one
  number_is : (z k : ℕ) → There z → code_in (slot_at z) ≡ some k → code_number p z ≡ k
  unfolding code_number entry_code code_in expression_tree
  number_is zero k t e = absurd (none≢some e)
  number_is (suc y) k t e = go (expression_at p y) (rw (one.expression y t) at e)
    where
      go : (x : ExpressionEntry) → code_in (some (expression_tree (held p) p y x)) ≡ some k → entry_code x ≡ k
      go (ExpressionEntry.Integer v) q = absurd (none≢some q)
      go (ExpressionEntry.Literal j) q = absurd (none≢some q)
      go (ExpressionEntry.FromSelf j n) q = absurd (none≢some q)
      go (ExpressionEntry.FromProgram j n) q = absurd (none≢some q)
      go (ExpressionEntry.Code j) q = some_inj q
      go (ExpressionEntry.Frame d) q = absurd (none≢some q)
      go (ExpressionEntry.Not a) q = absurd (none≢some q)
      go (ExpressionEntry.Operate o a b) q = absurd (none≢some q)
      go ExpressionEntry.Bad q = absurd (none≢some q)

pub start_found : StartFound
unfolding main_start start_code
start_found p l names k w e =
    let m = number_in names (bytes "Main") in
    let s = number_in names (bytes "start") in
    let a = finds p l w m 16 (program_slots p) SlotPlace.of_program (sound p l w).program_slots_end in
    let z = find_slot p m 16 (program_slots p) in
    let b = finds_in p l w s (frame_slots p z) (ℕ_discrete (frame_slots p z) 0) (frame_walked p l w z a.there) in
    number_is p l w (find_slot p s 16 (frame_slots p z)) k b.there
    (ap code_in b.is ∙ ap (λ (ss : Slots Path). code_in (slot_of s ss)) (slots_are p l w z a.there) ∙ ap (λ (o : Option (Expression Path)). code_in (slot_of s (frame_in o))) a.is ∙ e)

-- ---- The start's own word

module _ (p : List ℕ) (v : ℕ) where
  abbrev q : List ℕ
  q = set_start p v

  r : Region p q 9 10
  r = set_start_region p v

  find_kept : (x n z : ℕ) → find_slot q x n z ≡ find_slot p x n z
  unfolding find_slot
  find_kept x zero z = refl
  find_kept x (suc n) zero = refl
  find_kept x (suc n) (suc y) =
      rw (slot_name_kept p q 9 10 r y (λ lo hi. omega arith), slot_after_kept p q 9 10 r y (λ lo hi. omega arith), find_kept x n (slot_after p y))

  slots_kept : (z : ℕ) → frame_slots q z ≡ frame_slots p z
  unfolding frame_slots
  slots_kept zero = refl
  slots_kept (suc y) = ap (entry_slots y) (expression_at_kept p q 9 10 r y (λ lo hi. omega arith))

  number_kept : (z : ℕ) → code_number q z ≡ code_number p z
  unfolding code_number
  number_kept zero = refl
  number_kept (suc y) = ap entry_code (expression_at_kept p q 9 10 r y (λ lo hi. omega arith))

  pub start_code_kept : (main start : ℕ) → start_code (set_start p v) main start ≡ start_code p main start
  unfolding start_code
  start_code_kept main start =
      rw (program_slots_kept p q 9 10 r (λ lo hi. omega arith), find_kept main 16 (program_slots p), slots_kept (find_slot p main 16 (program_slots p)), find_kept start 16 (frame_slots p (find_slot p main 16 (program_slots p))))
      (number_kept _)
