-- The slots of a frame that words hold: at most 16, with distinct names, each part of that frame. Assumes nothing.
use mathlib.Core.Path.{◌≡◌, refl, ◌∙◌, sym, ap, subst}
use mathlib.Core.Logic.{◌≢◌}
use mathlib.Core.Bool.{false}
use mathlib.Core.List.{List, [], ◌∷◌}
use Prim.Native.Nat.{ℕ, zero, suc, ◌+◌, ◌≤◌, ◌<◌}
use native.Mathlib.Omega.{arith}
use lib.ListN.{length, get_or}
use lib.Dec.{eqb}
use borrow.Author.Tests.{eqb-false}
use Rattle.framed.specs.Common.{member, has_twice}
use Rattle.framed.specs.Tree.{Slots}
use Rattle.framed.specs.Paths.{Path}
use Rattle.framed.specs.Meaning.{slot_names}
use Rattle.framed.proofs.General.{or_none}
use Rattle.tables.specs.Fields.{names, literals, expressions, instructions, codes, path_names, slot_name, slot_after, follow_slot, slot_walk}
use Rattle.tables.proofs.Walks.{walk_from, walk_past}
use Rattle.program_entries.specs.Form.{Slot, SlotList}
use Rattle.shapes.specs.Numbers.{Numbers, ◌⊕◌, slots_size}
use Rattle.shapes.specs.Shape.{FrameShaped}
use Rattle.shapes.proofs.Lists.{none_of}
use Rattle.emission.specs.Emit.{link_to_slots, first_slot_place}
use Rattle.emission.specs.Frame.{AtMost}
use Rattle.emission.specs.Writes.{past_expression}
use Rattle.emission_tree.specs.Standing.{Owner, tag, Standing}
use Rattle.emission_tree.specs.Entry.{SlotsAt}
use Rattle.emission.proofs.Links.{slots_reached, after_slot}

-- ---- Lists without repeats

pub never_twice : (l : List ℕ) → has_twice l ≡ false → (i j : ℕ) → i < j → j < length l → get_or l i 0 ≢ get_or l j 0
unfolding has_twice member
never_twice [] e i j l m = absurd (omega arith)
never_twice (x ∷ xs) e i zero l m = absurd (omega arith)
never_twice (x ∷ xs) e zero (suc j) l m = eqb-false _ _ (none_of (eqb x) 0 xs (or_none (member x xs) (has_twice xs) e).0 j (omega arith))
never_twice (x ∷ xs) e (suc i) (suc j) l m = never_twice xs (or_none (member x xs) (has_twice xs) e).1 i j (omega arith) (omega arith)

-- ---- Counts as the header has them

pub record Counts (p : List ℕ) (N S : ℕ) (T : Numbers) : Type 0 where
  pub names_are : names p ≡ N
  pub literals_are : literals p ≡ S
  pub expressions_are : expressions p ≡ T.expressions
  pub instructions_are : instructions p ≡ T.instructions
  pub path_names_are : path_names p ≡ T.path_names
  pub codes_are : codes p ≡ T.codes
  pub expressions_most : T.expressions ≤ 1024
  pub instructions_most : T.instructions ≤ 512

-- ---- Along the slots

-- the slots from the place z on have these names, and are part of o
pub data Walked (p : List ℕ) (γ : Standing) (o : Owner) (c : ℕ) : ℕ → List ℕ → Type 0 where
  end : Walked p γ o c 0 []
  more : {y n : ℕ} {ns : List ℕ} → Slot p y → slot_name p y ≡ n → γ.tags y ≡ tag o c → Walked p γ o c (slot_after p y) ns → Walked p γ o c (suc y) (n ∷ ns)

pub record Met (p : List ℕ) (γ : Standing) (o : Owner) (c : ℕ) (ns : List ℕ) (j y : ℕ) : Type 0 where
  pub short : j < length ns
  pub named : slot_name p y ≡ get_or ns j 0
  pub slot : Slot p y
  pub tagged : γ.tags y ≡ tag o c

module _ (p : List ℕ) (γ : Standing) (o : Owner) (c : ℕ) where
  walk_nowhere : (j : ℕ) → slot_walk p 0 j ≡ 0
  unfolding slot_walk
  walk_nowhere j = let e : j ≡ 0 + j = omega arith in ap (slot_walk p 0) e ∙ walk_past p 0 0 j refl

  walk_zero : (z : ℕ) → slot_walk p z 0 ≡ z
  unfolding slot_walk
  walk_zero z = refl

  walk_next : (y j : ℕ) → slot_walk p (suc y) (suc j) ≡ slot_walk p (slot_after p y) j
  unfolding follow_slot
  walk_next y j = sym (walk_from p (suc y) j)

  pub met : (z : ℕ) (ns : List ℕ) → Walked p γ o c z ns → (j y : ℕ) → slot_walk p z j ≡ suc y → Met p γ o c ns j y
  met z [] Walked.end j y e = let d = walk_nowhere j in absurd (omega arith)
  met z (n ∷ ns) (Walked.more {y = x} s f t w) zero y e =
      let d : x ≡ y = omega (arith, walk_zero (suc x)) in
      subst (λ (k : ℕ). Met p γ o c (n ∷ ns) 0 k) d (record { short = omega arith; named = f; slot = s; tagged = t })
  met z (n ∷ ns) (Walked.more {y = x} s f t w) (suc j) y e =
      let m = met (slot_after p x) ns w j y (sym (walk_next x j) ∙ e) in
      record { short = omega (arith, m.short); named = m.named; slot = m.slot; tagged = m.tagged }

  pub slot_list : (z : ℕ) (ns : List ℕ) → Walked p γ o c z ns → length ns ≤ 16 → has_twice ns ≡ false → SlotList p z
  slot_list z ns w few d =
      record {
        each = λ j y e. (met z ns w j y e).slot;
        most = ends (slot_walk p z 16) refl;
        distinct = λ i j x y lt e f q.
            never_twice ns d i j lt (met z ns w j y f).short (sym (met z ns w i x e).named ∙ q ∙ (met z ns w j y f).named);
      }
    where
      ends : (v : ℕ) → slot_walk p z 16 ≡ v → slot_walk p z 16 ≡ 0
      ends zero e = e
      ends (suc y) e = let m = (met z ns w 16 y e).short in absurd (omega arith)

-- ---- The slots that words hold

pub link_inside_table : (ss : Slots Path) (y z t d : ℕ) → d ≡ link_to_slots ss y z → y < z → z + (slots_size ss).expressions ≤ t → d ≢ 0 → y + d < t
unfolding link_to_slots slots_size
link_inside_table Slots.no_slots y z t d e lt m n = absurd (n e)
link_inside_table (Slots.slot k b ss) y z t d e lt m n = omega arith

module _ (p : List ℕ) (γ : Standing) (N S : ℕ) (T : Numbers) (C : Counts p N S T) where
  pub slots_walked : (ss : Slots Path) (o : Owner) (c : ℕ) (s : Numbers) → AtMost (s ⊕ slots_size ss) T → SlotsAt p γ N S ss o c s →
      Walked p γ o c (first_slot_place ss s.expressions) (slot_names ss)
  unfolding first_slot_place slot_names slots_size
  slots_walked Slots.no_slots o c s m h = Walked.end
  slots_walked (Slots.slot n b ss) o c s m (SlotsAt.slot r e d t h k) =
      let i : suc s.expressions ≡ 1 + s.expressions = omega arith in
      let u : first_slot_place ss (past_expression b s).expressions ≡ slot_after p s.expressions =
      sym
      (after_slot p s.expressions _ d
      ∙ slots_reached ss s.expressions (past_expression b s).expressions (omega arith) (omega (arith, C.expressions_most)))
      in
      subst (λ (z : ℕ). Walked p γ o c z (n ∷ slot_names ss)) i
      (Walked.more
      (record {
        there = omega (arith, C.expressions_are);
        named = omega (arith, C.names_are);
        link_there = link_inside_table ss s.expressions (past_expression b s).expressions (expressions p) _ d (omega arith) (omega (arith, C.expressions_are));
      })
      e t (subst (λ (z : ℕ). Walked p γ o c z (slot_names ss)) u (slots_walked ss o c (past_expression b s) (omega arith) k)))

  pub frame_list : (ss : Slots Path) (o : Owner) (c : ℕ) (s : Numbers) → AtMost (s ⊕ slots_size ss) T → FrameShaped ss → SlotsAt p γ N S ss o c s →
      SlotList p (first_slot_place ss s.expressions)
  frame_list ss o c s m f h = slot_list p γ o c _ (slot_names ss) (slots_walked ss o c s m h) f.few f.distinct
