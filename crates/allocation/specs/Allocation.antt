-- docs/LAYOUT.md, "Heap words": frames and made texts take the lowest number that is not in use; the words as a view of the bounded machine. Assumes nothing.
use Rattle.std.specs.Prelude.{ℕ, zero, suc, ◌+◌, List, Bool}
use Rattle.words.specs.Words.{pick}
use Rattle.bounded.specs.Views.{View}
use Rattle.heap.specs.Words.{frame_used, text_used}
use Rattle.heap.specs.Held.{heap_held}

-- the first of the n numbers from i on that does not pass the test, i + n where all do
unfoldable pub lowest_from : (ℕ → Bool) → ℕ → ℕ → ℕ
lowest_from t zero i = i
lowest_from t (suc n) i = let r = lowest_from t n (i + 1) in pick (t i) r i

unfoldable pub next_frame : List ℕ → ℕ
next_frame h = lowest_from (frame_used h) 256 0

unfoldable pub next_text : List ℕ → ℕ
next_text h = lowest_from (text_used h) 256 0

-- what heap words and text bytes hold, and which of it is in use
unfoldable pub view_held : List ℕ → List ℕ → View
view_held h t = record { heap = heap_held h t; uses_frame = frame_used h; uses_text = text_used h }
