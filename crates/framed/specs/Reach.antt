-- Document 01: reachable are Σ, Π and every value in a slot of a reachable frame.
-- As a relation, `Reachable`; and as lists, the reachable frames and made texts, each once. That the two agree is `Theorems.ReachCounts`.
-- Assumes nothing.
use mathlib.Core.List.{List, [], ◌∷◌, ◌++◌, map, Memᴰ}
use Rattle.std.proofs.Math.Option.{Option, none, some}
use Rattle.std.specs.Prelude.{ℕ, zero, suc, ◌+◌, length, get_or}
use Rattle.framed.specs.declared.Value.{Value}
use Rattle.framed.specs.declared.Text.{Text}
use Rattle.framed.specs.Common.{when◌then◌else◌, member, distinct, total}
use Rattle.framed.specs.Values.{Slot, Frame, new_frame}

-- the values in the slots of a frame number
unfoldable pub slot_value : Slot → Value
slot_value s = s.value

unfoldable pub values_in : List Frame → ℕ → List Value
values_in frames n = map slot_value (get_or frames n (new_frame 0 [])).slots

pub data Reachable (frames : List Frame) (Σ Π : Value) : Value → Type 0 where
  self : Reachable frames Σ Π Σ
  program : Reachable frames Σ Π Π
  in_slot : {n : ℕ} {v : Value} →
      Reachable frames Σ Π (Value.Frame n) → Memᴰ v (values_in frames n) → Reachable frames Σ Π v

-- the frame number of a value, if it is a frame that is not in the list
unfoldable pub unseen_frame : List ℕ → Value → Option ℕ
unseen_frame seen (Value.Int z) = none
unseen_frame seen (Value.Text t) = none
unseen_frame seen (Value.Code k) = none
unseen_frame seen (Value.Frame n) = when member n seen then none else some n

-- From the values still to visit and the frames seen, all the frames seen in the end. The number bounds the visits
unfoldable pub visit : ℕ → List Frame → List Value → List ℕ → List ℕ
visit zero frames vs seen = seen
visit (suc bound) frames [] seen = seen
visit (suc bound) frames (v ∷ vs) seen =
    elim (unseen_frame seen v) [
      | none ↦ visit bound frames vs seen
      | some n ↦ visit bound frames (values_in frames n ++ vs) (n ∷ seen)
    ]

unfoldable pub slot_count : Frame → ℕ
slot_count f = length f.slots

-- where reach begins
unfoldable pub roots : Value → Value → List Value
roots Σ Π = Σ ∷ Π ∷ []

-- the slots of each frame come up once, besides the roots
unfoldable pub reached_frames : List Frame → List Value → List ℕ
reached_frames frames rs = visit (total slot_count frames + length rs) frames rs []

unfoldable pub made_in : List Value → List ℕ
made_in [] = []
made_in (Value.Int z ∷ vs) = made_in vs
made_in (Value.Text (Text.Literal k) ∷ vs) = made_in vs
made_in (Value.Text (Text.Made k) ∷ vs) = k ∷ made_in vs
made_in (Value.Code k ∷ vs) = made_in vs
made_in (Value.Frame n ∷ vs) = made_in vs

unfoldable pub values_of_all : List Frame → List ℕ → List Value
values_of_all frames [] = []
values_of_all frames (n ∷ ns) = values_in frames n ++ values_of_all frames ns

-- the made texts among the roots and in the slots of these frames
unfoldable pub texts_from : List Frame → List Value → List ℕ → List ℕ
texts_from frames rs ns = distinct (made_in (rs ++ values_of_all frames ns))

unfoldable pub reached_texts : List Frame → List Value → List ℕ
reached_texts frames rs = texts_from frames rs (reached_frames frames rs)

unfoldable pub Reach : Type 0
unfolding slot_value values_in unseen_frame visit slot_count roots reached_frames made_in values_of_all texts_from reached_texts
Reach = ℕ
