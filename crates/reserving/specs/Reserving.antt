-- Document 01, "The calls", room (here: reserve), over the words: the end, and the words after it. What this is of the bounded machine's state is in proofs/Meaning.
-- Assumes nothing.
use Rattle.std.specs.Prelude.{ℕ, ◌+◌, ◌≤◌, ◌≡◌, Ok, Err, List, eqb, ltb, length}
use Rattle.framed.specs.declared.End.{End}
use Rattle.framed.specs.Answers.{end_met}
use Rattle.words.specs.Words.{pick}
use Rattle.tables.specs.Fields.{frame_limit, text_limit}
use Rattle.heap.specs.Held.{frames_in_use, texts_in_use}
use Rattle.collector.specs.Collect.{collect_heap}
use Rattle.allocation.specs.declared.Known.{Known}
use Rattle.allocation.specs.Allocation.{next_frame, next_text}
use Rattle.allocation.specs.Known.{Knows}
use Rattle.reserving.specs.declared.Reserved.{Reserved}

-- the end that f more frames and n more made texts meet: 36, 37, or 0 where they fit
unfoldable pub room_end_held : List ℕ → List ℕ → ℕ → ℕ → ℕ
room_end_held p h f n =
    pick (ltb (frame_limit p) (length (frames_in_use h) + f)) 36 (pick (ltb (text_limit p) (length (texts_in_use h) + n)) 37 0)

-- the words after it: collected only where there was no room
unfoldable pub reserved_words : List ℕ → List ℕ → ℕ → ℕ → List ℕ
reserved_words p h f n = pick (eqb (room_end_held p h f n) 0) h (collect_heap h).words

-- the answer and the words at exit
pub record Reserves (p h : List ℕ) (f n r : ℕ) (h' : List ℕ) : Type 0 where
  pub words : h' ≡ reserved_words p h f n
  pub end : r ≡ room_end_held p h' f n

-- ---- What is known

-- the end, if so many frames and made texts are in use; where there is room, f and n are counted in
unfoldable pub added : List ℕ → ℕ → ℕ → Known → Reserved
added p f n k =
    pick (ltb (frame_limit p) (k.frames + f)) (record { end = Err End.FramesFull; known = k })
    (pick (ltb (text_limit p) (k.texts + n)) (record { end = Err End.TextsFull; known = k })
    (record { end = Ok tt; known = record { frames = k.frames + f; texts = k.texts + n; low = k.low; least = k.least } }))

-- the number below which every frame is in use: where f are to be made the lowest that is free, else the one given
unfoldable pub lowest_frame_for : List ℕ → ℕ → ℕ → ℕ
lowest_frame_for h f low = pick (eqb f 0) low (next_frame h)

-- the same of made texts
unfoldable pub lowest_text_for : List ℕ → ℕ → ℕ → ℕ
lowest_text_for h n low = pick (eqb n 0) low (next_text h)

-- both, in what is known
unfoldable pub sought : List ℕ → ℕ → ℕ → Reserved → Reserved
sought h f n r = record {
  end = r.end;
  known = record {
    frames = r.known.frames;
    texts = r.known.texts;
    low = lowest_frame_for h f r.known.low;
    least = lowest_text_for h n r.known.least;
  };
}

-- how many frames are in use, all counted where f more fit below the limit
pub record CountedTo (h : List ℕ) (limit f r : ℕ) : Type 0 where
  pub some : r ≤ length (frames_in_use h)
  pub all : r + f ≤ limit → r ≡ length (frames_in_use h)

-- how many made texts are in use, where f more than so many frames fit below the limit
pub record TextsCounted (h : List ℕ) (limit f frames r : ℕ) : Type 0 where
  pub all : frames + f ≤ limit → r ≡ length (texts_in_use h)

-- what is known after reserve; where there is room, with f and n counted in
pub record Reckons (h : List ℕ) (f n : ℕ) (r : Reserved) : Type 0 where
  pub now : Knows h 0 0 r.known
  pub then : end_met r.end ≡ 0 → Knows h f n r.known
