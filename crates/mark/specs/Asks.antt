-- Document 01, Collect: what the functions that mark ask of the marks, the queue and the heap words. Closed heap words meet it. Assumes nothing.
use Rattle.std.specs.Prelude.{ℕ, ◌<◌, ◌≡◌, List, Bool, not, length, get_or, eqb}
use Rattle.framed.specs.declared.Text.{Text}
use Rattle.framed.specs.declared.Value.{Value}
use Rattle.heap.specs.Lists.{passing}
use Rattle.heap.specs.Closed.{Closed, FrameInUse}
use Rattle.mark.specs.declared.Work.{Work}

-- the mark is set
unfoldable pub marked : List ℕ → ℕ → Bool
marked m j = not (eqb (get_or m j 0) 0)

pub record AtText (t : Text) : Type 0 where
  pub small : (k : ℕ) → t ≡ Text.Made k → k < 256

-- the queue is as long as there are marked frames
pub record AtFrame (w : Work) (f : ℕ) : Type 0 where
  pub marks_long : length w.marks ≡ 512
  pub counted : w.tail ≡ length (passing (marked w.marks) 256)
  pub small : f < 256

pub record Visitable (w : Work) (v : Value) : Type 0 where
  pub marks_long : length w.marks ≡ 512
  pub counted : w.tail ≡ length (passing (marked w.marks) 256)
  pub frame : (f : ℕ) → v ≡ Value.Frame f → f < 256
  pub made : (k : ℕ) → v ≡ Value.Text (Text.Made k) → k < 256

-- and holds frames in use
pub record Scannable (h : List ℕ) (w : Work) : Type 0 where
  pub marks_long : length w.marks ≡ 512
  pub order_long : length w.order ≡ 256
  pub counted : w.tail ≡ length (passing (marked w.marks) 256)
  pub queued : (k : ℕ) → k < w.tail → FrameInUse h (get_or w.order k 0)

pub record Starts (h : List ℕ) (w : Work) : Type 0 where
  pub closed : Closed h
  pub ok : Scannable h w

pub record Scans (h : List ℕ) (g : ℕ) (w : Work) : Type 0 where
  pub closed : Closed h
  pub in_use : FrameInUse h g
  pub ok : Scannable h w
