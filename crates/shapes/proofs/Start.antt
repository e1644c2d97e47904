-- The code in Main.start is one of the codes of the tree. Assumes nothing.
use mathlib.Core.Path.{◌≡◌}
use mathlib.Core.Bool.{Bool, true, false}
use mathlib.Core.List.{List}
use mathlib.Core.Option.{Option, none, some}
use Prim.Native.Nat.{ℕ, ◌+◌, ◌≤◌, ◌<◌}
use native.Mathlib.Omega.{arith}
use lib.Dec.{eqb}
use Rattle.framed.specs.Common.{bytes}
use Rattle.framed.specs.Symbols.{number_in}
use Rattle.framed.specs.Tree.{Written, Base, Expression, Slots, Code}
use Rattle.framed.specs.Paths.{Place, within_slot, resolve_base, resolve_expression, resolve_slots}
use Rattle.framed.specs.Meaning.{slot_of, frame_in, code_in, main_start}
use Rattle.framed.proofs.General.{none≢some, some_inj}
use Rattle.shapes.specs.Numbers.{expression_size, slots_size}
use Rattle.shapes.specs.Shape.{BaseShaped, ExpressionShaped, SlotsShaped}

-- an expression written in a tree with its codes below K
record Inside (N S K : ℕ) (e : Expression Written) : Type 0 where
  place : Place
  inner : Place
  first : ℕ
  shaped : ExpressionShaped N S first (resolve_expression place inner e)
  below : first + (expression_size (resolve_expression place inner e)).codes ≤ K

-- a slot that is found is inside; nothing needs to be found
data Found (N S K : ℕ) : Option (Expression Written) → Type 0 where
  nothing : Found N S K none
  something : {e : Expression Written} → Inside N S K e → Found N S K (some e)

module _ (N S K : ℕ) where
  slot_found : (ss : Slots Written) (place : Place) (k n : ℕ) → SlotsShaped N S k (resolve_slots place ss) → k + (slots_size (resolve_slots place ss)).codes ≤ K →
      Found N S K (slot_of n ss)
  unfolding slot_of resolve_slots slots_size
  slot_found Slots.no_slots place k n h m = Found.nothing
  slot_found (Slots.slot x e ss) place k n (SlotsShaped.slot lt h g) m =
      go (eqb n x)
      (record { place = place; inner = within_slot x place; first = k; shaped = h; below = omega arith })
      (slot_found ss place (k + (expression_size (resolve_expression place (within_slot x place) e)).codes) n g (omega arith))
    where
      go : (t : Bool) → Inside N S K e → Found N S K (slot_of n ss) → Found N S K (elim t [ true ↦ some e | false ↦ slot_of n ss ])
      go true a b = Found.something a
      go false a b = b

  frame_found : (o : Option (Expression Written)) (n : ℕ) → Found N S K o → Found N S K (slot_of n (frame_in o))
  unfolding slot_of frame_in resolve_expression expression_size
  frame_found none n h = Found.nothing
  frame_found (some (Expression.base b)) n h = Found.nothing
  frame_found (some (Expression.not b)) n h = Found.nothing
  frame_found (some (Expression.operation o a b)) n h = Found.nothing
  frame_found (some (Expression.frame ss)) n (Found.something h) = go h.shaped
    where
      go : ExpressionShaped N S h.first (Expression.frame (resolve_slots h.inner ss)) → Found N S K (slot_of n ss)
      go (ExpressionShaped.frame f g) = slot_found ss h.inner h.first n g h.below

  code_below : (place : Place) (first j k : ℕ) (is : Code Written) → ExpressionShaped N S first (Expression.base (resolve_base place (Base.code j is))) →
      first + (expression_size (Expression.base (resolve_base place (Base.code j is)))).codes ≤ K → j ≡ k → k < K
  unfolding resolve_base expression_size
  code_below place first j k is (ExpressionShaped.base (BaseShaped.code h)) m e = omega arith

  code_found : (o : Option (Expression Written)) (k : ℕ) → Found N S K o → code_in o ≡ some k → k < K
  unfolding code_in resolve_expression expression_size
  code_found none k h e = absurd (none≢some e)
  code_found (some (Expression.base (Base.integer z))) k h e = absurd (none≢some e)
  code_found (some (Expression.base (Base.string j))) k h e = absurd (none≢some e)
  code_found (some (Expression.base (Base.path p))) k h e = absurd (none≢some e)
  code_found (some (Expression.base (Base.code j is))) k (Found.something h) e = go h.shaped
    where
      go : ExpressionShaped N S h.first (Expression.base (resolve_base h.place (Base.code j is))) → k < K
      go s = code_below h.place h.first j k is s h.below (some_inj e)
  code_found (some (Expression.not b)) k h e = absurd (none≢some e)
  code_found (some (Expression.operation o a b)) k h e = absurd (none≢some e)
  code_found (some (Expression.frame ss)) k h e = absurd (none≢some e)

  pub start_below : (names : List (List ℕ)) (ss : Slots Written) (place : Place) (k : ℕ) → SlotsShaped N S 0 (resolve_slots place ss) →
      (slots_size (resolve_slots place ss)).codes ≤ K → main_start names ss ≡ some k → k < K
  unfolding main_start
  start_below names ss place k h m e = code_found _ k (frame_found _ _ (slot_found ss place 0 (number_in names (bytes "Main")) h (omega arith))) e
