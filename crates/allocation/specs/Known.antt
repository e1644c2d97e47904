-- What a run knows of the numbers in use, from step to step: fewer have to be looked at. Assumes nothing.
use Rattle.std.specs.Prelude.{ℕ, ◌+◌, ◌≤◌, ◌<◌, List, length}
use Rattle.heap.specs.Held.{frames_in_use, texts_in_use}
use Rattle.heap.specs.Closed.{FrameInUse, TextInUse}
use Rattle.allocation.specs.declared.Known.{Known}

-- every frame below low is in use
pub record FullBelow (h : List ℕ) (low : ℕ) : Type 0 where
  pub in_use : (g : ℕ) → g < low → FrameInUse h g

-- every made text below low is in use
pub record TextsFull (h : List ℕ) (low : ℕ) : Type 0 where
  pub in_use : (k : ℕ) → k < low → TextInUse h k

-- both
pub record Full (h : List ℕ) (low least : ℕ) : Type 0 where
  pub frames : FullBelow h low
  pub texts : TextsFull h least

-- with f more frames and n more made texts there are still at most so many
pub record Knows (h : List ℕ) (f n : ℕ) (k : Known) : Type 0 where
  pub frames : length (frames_in_use h) + f ≤ k.frames
  pub texts : length (texts_in_use h) + n ≤ k.texts
  pub full : Full h k.low k.least
