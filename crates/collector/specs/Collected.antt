-- Document 01, the call collect: its totals, what is in use afterwards, and what stays as it was. Assumes nothing.
use Rattle.std.specs.Prelude.{ℕ, ◌≡◌, ◌↔◌, List, length}
use Rattle.framed.specs.declared.Text.{Text}
use Rattle.framed.specs.declared.Totals.{Totals}
use Rattle.framed.specs.declared.Value.{Value}
use Rattle.framed.specs.Reach.{roots, reached_frames, reached_texts}
use Rattle.heap.specs.Words.{self_held, program_held, position, end_mark}
use Rattle.heap.specs.Held.{frame_held, text_held, frames_held}
use Rattle.heap.specs.Closed.{FrameInUse, TextInUse, Closed}
use Rattle.mark.specs.Reached.{Reached}
use Rattle.frame_form.specs.declared.Limits.{Limits}
use Rattle.state_form.specs.Form.{StateWellFormed}
use Rattle.collector.specs.Collect.{collect_heap}

-- h' is h after a collection that answered r
pub record Collected (h h' : List ℕ) (r : Totals) : Type 0 where
  pub frames_total : r.frames ≡ length (reached_frames (frames_held h) (roots (self_held h) (program_held h)))
  pub texts_total : r.texts ≡ length (reached_texts (frames_held h) (roots (self_held h) (program_held h)))
  pub frame_in_use : (f : ℕ) → FrameInUse h' f ↔ Reached h (Value.Frame f)
  pub text_in_use : (k : ℕ) → TextInUse h' k ↔ Reached h (Value.Text (Text.Made k))
  pub frame_same : (f : ℕ) → Reached h (Value.Frame f) → frame_held h' f ≡ frame_held h f
  pub text_same : (t : List ℕ) (k : ℕ) → Reached h (Value.Text (Text.Made k)) → text_held h' t k ≡ text_held h t k
  pub self_same : self_held h' ≡ self_held h
  pub program_same : program_held h' ≡ program_held h
  pub position_same : position h' ≡ position h
  pub end_mark_same : end_mark h' ≡ end_mark h
  pub reach_same : (v : Value) → Reached h' v ↔ Reached h v
  pub closed : Closed h'

-- collecting twice changes nothing the second time
abbrev pub CollectTwice : Type 0
CollectTwice = (h : List ℕ) → Closed h → collect_heap (collect_heap h).words ≡ collect_heap h

-- a well-formed state (document 01: whole) stays so, and a collection that answers means what it says
abbrev pub CollectWellFormed : Type 0
CollectWellFormed = (h t : List ℕ) (l : Limits) → StateWellFormed h t l → StateWellFormed (collect_heap h).words t l

abbrev pub CollectMeans : Type 0
CollectMeans = (h : List ℕ) → Closed h → Collected h (collect_heap h).words (collect_heap h).totals
