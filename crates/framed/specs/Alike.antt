-- Document 01, "The endless machine", last paragraph: when two states are alike, under a one-to-one renaming of the reachable frames
-- (the same slot names, values alike; document 02, A5: the same maker) and made texts (the same bytes). Assumes nothing.
use Rattle.std.specs.Prelude.{◌≡◌, map, ℕ}
use Rattle.std.proofs.Math.Option.{Option, none, some}
use Rattle.std.proofs.Math.ListN.{get_elem?}
use Rattle.framed.specs.declared.Value.{Value}
use Rattle.framed.specs.declared.Text.{Text}
use Rattle.framed.specs.Values.{Slot, Frame, with_slots}
use Rattle.framed.specs.Reach.{Reachable}
use Rattle.framed.specs.Machine.{State}

-- a renaming of frame numbers and of made texts' numbers
pub record Renaming : Type 0 where
  pub frame : ℕ → ℕ
  pub text : ℕ → ℕ

-- integers, literals and codes are alike where they are equal
unfoldable pub renamed : Renaming → Value → Value
renamed ρ (Value.Int z) = Value.Int z
renamed ρ (Value.Text (Text.Literal k)) = Value.Text (Text.Literal k)
renamed ρ (Value.Text (Text.Made k)) = Value.Text (Text.Made (ρ.text k))
renamed ρ (Value.Code k) = Value.Code k
renamed ρ (Value.Frame n) = Value.Frame (ρ.frame n)

unfoldable pub renamed_slot : Renaming → Slot → Slot
renamed_slot ρ s = record { name = s.name; value = renamed ρ s.value }

unfoldable pub renamed_frame : Renaming → Option Frame → Option Frame
renamed_frame ρ none = none
renamed_frame ρ (some f) = some (with_slots f (map (renamed_slot ρ) f.slots))

-- what Σ and Π reach in a state
abbrev pub InReach : State → Value → Type 0
InReach s v = Reachable s.heap.frames s.self s.program v

-- s is the unbounded machine's state, t the other one's
pub record Alike (s t : State) : Type 0 where
  pub renaming : Renaming
  pub frames_one_to_one : (m n : ℕ) → InReach s (Value.Frame m) → InReach s (Value.Frame n) → renaming.frame m ≡ renaming.frame n → m ≡ n
  pub texts_one_to_one : (j k : ℕ) → InReach s (Value.Text (Text.Made j)) → InReach s (Value.Text (Text.Made k)) →
      renaming.text j ≡ renaming.text k → j ≡ k
  pub same_end : s.end_mark ≡ t.end_mark
  pub same_remaining : s.remaining ≡ t.remaining
  pub same_next : s.next ≡ t.next
  pub self_alike : renamed renaming s.self ≡ t.self
  pub program_alike : renamed renaming s.program ≡ t.program
  pub frames_alike : (n : ℕ) → InReach s (Value.Frame n) →
      renamed_frame renaming (get_elem? s.heap.frames n) ≡ get_elem? t.heap.frames (renaming.frame n)
  -- everything reached in t is what something reached in s is renamed to
  pub frames_onto : (n : ℕ) → InReach t (Value.Frame n) → (m : ℕ) × InReach s (Value.Frame m) × (renaming.frame m ≡ n)
  pub texts_onto : (k : ℕ) → InReach t (Value.Text (Text.Made k)) → (j : ℕ) × InReach s (Value.Text (Text.Made j)) × (renaming.text j ≡ k)
  pub texts_alike : (k : ℕ) → InReach s (Value.Text (Text.Made k)) →
      get_elem? s.heap.texts k ≡ get_elem? t.heap.texts (renaming.text k)
