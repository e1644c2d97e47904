-- Document 01, "The endless machine", step 2: Fetch. An empty path gives the value itself, else the value must be a frame holding the name.
-- `none` is "undefined", as of 001's getH and getF. Assumes nothing.
use Rattle.std.specs.Prelude.{true, false, List, [], ◌∷◌, ℕ, eqb}
use Rattle.std.proofs.Math.Option.{Option, none, some}
use Rattle.std.proofs.Math.ListN.{get_elem?}
use Rattle.framed.specs.declared.Value.{Value}
use Rattle.framed.specs.Values.{Slot, Frame}

unfoldable pub ◌>>=◌ : {A B : Type 0} → Option A → (A → Option B) → Option B
◌>>=◌ none f = none
◌>>=◌ (some a) f = f a

-- getF: the value in the slot n of a frame
unfoldable pub in_slots : List Slot → ℕ → Option Value
in_slots [] n = none
in_slots (s ∷ ss) n = elim (eqb s.name n) [ true ↦ some s.value | false ↦ in_slots ss n ]

unfoldable pub in_frame : Frame → ℕ → Option Value
in_frame f n = in_slots f.slots n

-- getH: the frame that a value names
unfoldable pub frame_of : List Frame → Value → Option Frame
frame_of frames (Value.Int z) = none
frame_of frames (Value.Text t) = none
frame_of frames (Value.Code k) = none
frame_of frames (Value.Frame n) = get_elem? frames n

-- one name of a path
unfoldable pub get : List Frame → Value → ℕ → Option Value
get frames v n = do
  f ← frame_of frames v
  in_frame f n

unfoldable pub fetch : List Frame → Value → List ℕ → Option Value
fetch frames v [] = some v
fetch frames v (n ∷ ns) = do
  w ← get frames v n
  fetch frames w ns

unfoldable pub Fetch : Type 0
unfolding ◌>>=◌ in_slots in_frame frame_of get fetch
Fetch = ℕ
