-- Document 01, "The calls": a store of at most 256 frames and 256 made texts, as a record of operations, and what each does, in terms of what the store shows.
-- The collector is specified by what it keeps and frees. Assumes nothing.
use Rattle.std.specs.Prelude.{◌≡◌, true, ◌||◌, ℕ, ◌≤◌, ◌<◌, length, ltb}
use mathlib.Core.List.{List, [], ◌∷◌, ◌++◌, map, Memᴰ}
use Rattle.std.proofs.Math.Option.{none, some}
use Rattle.framed.specs.declared.Value.{Value}
use Rattle.framed.specs.declared.Text.{Text}
use Rattle.framed.specs.Program.{Program}
use Rattle.framed.specs.Values.{Frame, new_frame, with_slots}
use Rattle.framed.specs.Fetch.{in_frame}
use Rattle.framed.specs.Reach.{slot_value, Reachable}
use Rattle.framed.specs.Machine.{set_slot, holds}
use Rattle.bounded.specs.Views.{View, frame_at, text_at, entries, frames_used, texts_used, FrameWritten, TextWritten}
use Rattle.bounded.specs.Fits.{Valid, StringBytes}

pub record Store (S : Type 0) : Type 0 where
  pub view : S → View
  -- the number that the next new frame takes (the lowest that is not in use; the laws ask only that it is not), and the store with that frame in use, of this
  -- maker, without slots
  pub next_frame : S → ℕ
  pub claim_frame : S → ℕ → S
  -- one slot more, behind the others: frame number, name, value
  pub push : S → (n x : ℕ) → Value → S
  -- the slot is set, or added behind the others: frame number, name, value
  pub assign : S → (n x : ℕ) → Value → S
  -- the number that the next new text takes, and the store with that text in use, with these bytes
  pub next_text : S → ℕ
  pub claim_text : S → List ℕ → S
  -- afterwards exactly what Σ and Π reach is in use
  pub collect : (Σ Π : Value) → S → S
  -- how many frames, and how many made texts, are in use
  pub frame_count : S → ℕ
  pub text_count : S → ℕ

-- what Σ and Π reach in a store
abbrev pub ReachedIn : View → Value → Value → Value → Type 0
ReachedIn H Σ Π v = Reachable H.heap.frames Σ Π v

-- a frame of number n that was not in use is now, of the maker m, without slots
pub record FrameClaimed (H K : View) (n m : ℕ) : Type 0 where
  pub below : n < entries
  pub free : frame_at H n ≡ none
  pub written : FrameWritten H K n (new_frame m [])

pub record TextClaimed (H K : View) (k : ℕ) (bs : List ℕ) : Type 0 where
  pub below : k < entries
  pub free : text_at H k ≡ none
  pub written : TextWritten H K k bs

-- what is reached is as it was, and nothing else is in use
pub record CollectedTo (H K : View) (Σ Π : Value) : Type 0 where
  pub keeps_frame : (n : ℕ) → ReachedIn H Σ Π (Value.Frame n) → frame_at K n ≡ frame_at H n
  pub frees_frame : (n : ℕ) → ¬ ReachedIn H Σ Π (Value.Frame n) → frame_at K n ≡ none
  pub keeps_text : (k : ℕ) → ReachedIn H Σ Π (Value.Text (Text.Made k)) → text_at K k ≡ text_at H k
  pub frees_text : (k : ℕ) → ¬ ReachedIn H Σ Π (Value.Text (Text.Made k)) → text_at K k ≡ none

-- What the operations of a store do where it is well-formed (document 01: whole), for a program p; and they leave it so
pub record Laws {S : Type 0} (𝓞 : Store S) (p : Program) : Type 1 where
  pub WellFormed : S → Type 0
  -- the numbers in use are below 256
  pub frame_below : (s : S) → WellFormed s → (n : ℕ) (f : Frame) → frame_at (𝓞.view s) n ≡ some f → n < entries
  pub text_below : (s : S) → WellFormed s → (k : ℕ) (bs : List ℕ) → text_at (𝓞.view s) k ≡ some bs → k < entries
  -- the values in a frame in use name what is there, and a text in use keeps the string rule
  pub values_valid : (s : S) → WellFormed s → (n : ℕ) (f : Frame) → frame_at (𝓞.view s) n ≡ some f →
      (v : Value) → Memᴰ v (map slot_value f.slots) → Valid p (𝓞.view s) v
  pub bytes_valid : (s : S) → WellFormed s → (k : ℕ) (bs : List ℕ) → text_at (𝓞.view s) k ≡ some bs → StringBytes bs
  -- the counts
  pub frame_count_is : (s : S) → WellFormed s → 𝓞.frame_count s ≡ frames_used (𝓞.view s)
  pub text_count_is : (s : S) → WellFormed s → 𝓞.text_count s ≡ texts_used (𝓞.view s)
  -- where not all 256 are in use, one that is not is claimed; its maker is 0 or an instruction of the program
  pub claim_frame_is : (s : S) → WellFormed s → frames_used (𝓞.view s) < entries → (m : ℕ) → m ≤ length p.instructions →
      WellFormed (𝓞.claim_frame s m) × FrameClaimed (𝓞.view s) (𝓞.view (𝓞.claim_frame s m)) (𝓞.next_frame s) m
  pub claim_text_is : (s : S) → WellFormed s → texts_used (𝓞.view s) < entries → (bs : List ℕ) → length bs ≤ 64 → StringBytes bs →
      WellFormed (𝓞.claim_text s bs) × TextClaimed (𝓞.view s) (𝓞.view (𝓞.claim_text s bs)) (𝓞.next_text s) bs
  -- a name that the program has and the frame has not, on a frame of less than 16 slots
  pub push_is : (s : S) → WellFormed s → (n x : ℕ) (v : Value) (f : Frame) → frame_at (𝓞.view s) n ≡ some f → length f.slots < 16 →
      x < length p.names → in_frame f x ≡ none → Valid p (𝓞.view s) v →
      WellFormed (𝓞.push s n x v)
      × FrameWritten (𝓞.view s) (𝓞.view (𝓞.push s n x v)) n (with_slots f (f.slots ++ (record { name = x; value = v } ∷ [])))
  -- a name that the frame has, or one more on less than 16 slots
  pub assign_is : (s : S) → WellFormed s → (n x : ℕ) (v : Value) (f : Frame) → frame_at (𝓞.view s) n ≡ some f → x < length p.names →
      (holds f x || ltb (length f.slots) 16) ≡ true → Valid p (𝓞.view s) v →
      WellFormed (𝓞.assign s n x v)
      × FrameWritten (𝓞.view s) (𝓞.view (𝓞.assign s n x v)) n (with_slots f (set_slot f.slots x v))
  pub collect_is : (s : S) → WellFormed s → (Σ Π : Value) → Valid p (𝓞.view s) Σ → Valid p (𝓞.view s) Π →
      WellFormed (𝓞.collect Σ Π s) × CollectedTo (𝓞.view s) (𝓞.view (𝓞.collect Σ Π s)) Σ Π
