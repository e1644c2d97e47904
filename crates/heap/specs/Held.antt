-- docs/LAYOUT.md, "Heap words" and text bytes: what they hold, as `framed`'s heap. Frames and made texts keep their numbers; one that is not in use is empty.
-- Self, program, position and end mark are in Words. Assumes nothing.
use Rattle.std.specs.Prelude.{ℕ, List, []}
use Rattle.words.specs.Words.{pick}
use Rattle.framed.specs.Values.{Slot, Frame, Heap, new_frame}
use Rattle.heap.specs.Words.{frame_used, maker_at, slot_count_at, slot_name_at, slot_value_at, text_used, text_length, text_byte}
use Rattle.heap.specs.Lists.{listed, passing}

unfoldable pub slot_held : List ℕ → ℕ → ℕ → Slot
slot_held h f i = record { name = slot_name_at h f i; value = slot_value_at h f i }

-- the slots of frame f, in use or not
unfoldable pub slots_held : List ℕ → ℕ → List Slot
slots_held h f = listed (slot_held h f) (slot_count_at h f)

unfoldable pub frame_held : List ℕ → ℕ → Frame
frame_held h f = new_frame (pick (frame_used h f) (maker_at h f) 0) (pick (frame_used h f) (slots_held h f) [])

-- the bytes of made text k: none where it is not in use
unfoldable pub text_held : List ℕ → List ℕ → ℕ → List ℕ
text_held h t k = listed (text_byte t k) (text_length h k)

unfoldable pub frames_held : List ℕ → List Frame
frames_held h = listed (frame_held h) 256

unfoldable pub texts_held : List ℕ → List ℕ → List (List ℕ)
texts_held h t = listed (text_held h t) 256

unfoldable pub heap_held : List ℕ → List ℕ → Heap
heap_held h t = record { frames = frames_held h; texts = texts_held h t }

-- the numbers of the frames and made texts in use
unfoldable pub frames_in_use : List ℕ → List ℕ
frames_in_use h = passing (frame_used h) 256

unfoldable pub texts_in_use : List ℕ → List ℕ
texts_in_use h = passing (text_used h) 256
