-- Document 01: reachable are Σ, Π and every value in a slot of a reachable frame; here over what the heap words hold, by `framed`'s predicate. Assumes nothing.
use Rattle.std.specs.Prelude.{ℕ, ◌+◌, ◌<◌, ◌≡◌, List, get_or}
use Rattle.framed.specs.declared.Text.{Text}
use Rattle.framed.specs.declared.Value.{Value}
use Rattle.framed.specs.Reach.{Reachable}
use Rattle.heap.specs.Words.{self_held, program_held}
use Rattle.heap.specs.Held.{frames_held}

abbrev pub Reached : List ℕ → Value → Type 0
Reached h v = Reachable (frames_held h) (self_held h) (program_held h) v

-- mark j is not 0
abbrev pub Marked : List ℕ → ℕ → Type 0
Marked m j = get_or m j 0 ≡ 0 → ⊥

-- the marks are exactly those of the reachable frames and made texts
pub record Exactly (h m : List ℕ) : Type 0 where
  pub frame_sound : (f : ℕ) → f < 256 → Marked m f → Reached h (Value.Frame f)
  pub frame_all : (f : ℕ) → Reached h (Value.Frame f) → Marked m f
  pub text_sound : (k : ℕ) → k < 256 → Marked m (256 + k) → Reached h (Value.Text (Text.Made k))
  pub text_all : (k : ℕ) → Reached h (Value.Text (Text.Made k)) → Marked m (256 + k)
