-- Document 01, Collect, over heap words: every frame and made text that is not marked is taken out of use; the totals are what is in use then.
-- What this means is in Collected. Assumes nothing.
use Rattle.std.specs.Prelude.{ℕ, zero, suc, ◌+◌, List, Bool, not, length, get_or, eqb}
use Rattle.words.specs.Words.{pick}
use Rattle.framed.specs.declared.Totals.{Totals}
use Rattle.heap.specs.Words.{free_frame, free_text}
use Rattle.heap.specs.Held.{frames_in_use, texts_in_use}
use Rattle.mark.specs.Mark.{mark_all}

-- the mark of a frame, of a made text, is not set
unfoldable pub frame_unmarked : List ℕ → ℕ → Bool
frame_unmarked m f = eqb (get_or m f 0) 0

unfoldable pub text_unmarked : List ℕ → ℕ → Bool
text_unmarked m k = eqb (get_or m (256 + k) 0) 0

-- the mark k after a place is set
unfoldable pub marked_from : List ℕ → ℕ → ℕ → Bool
marked_from m from k = not (eqb (get_or m (from + k) 0) 0)

-- of the n numbers from i on, those that pass the test are taken out of use
unfoldable pub sweep_from : (List ℕ → ℕ → List ℕ) → (ℕ → Bool) → ℕ → ℕ → List ℕ → List ℕ
sweep_from free off zero i h = h
sweep_from free off (suc n) i h = sweep_from free off n (i + 1) (pick (off i) (free h i) h)

unfoldable pub sweep_frames : List ℕ → List ℕ → List ℕ
sweep_frames m h = sweep_from free_frame (frame_unmarked m) 256 0 h

unfoldable pub sweep_texts : List ℕ → List ℕ → List ℕ
sweep_texts m h = sweep_from free_text (text_unmarked m) 256 0 h

unfoldable pub swept : List ℕ → List ℕ → List ℕ
swept m h = sweep_texts m (sweep_frames m h)

unfoldable pub in_use_totals : List ℕ → Totals
in_use_totals h = record { frames = length (frames_in_use h); texts = length (texts_in_use h) }

-- what a collection answers and leaves
pub record Collection : Type 0 where
  pub totals : Totals
  pub words : List ℕ

abbrev pub collection : Totals → List ℕ → Collection
collection r h = record { totals = r; words = h }

unfoldable pub collect_heap : List ℕ → Collection
collect_heap h = collection (in_use_totals (swept (mark_all h) h)) (swept (mark_all h) h)
