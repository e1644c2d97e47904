-- docs/LAYOUT.md, "Heap words" and text bytes, as a store of the bounded machine (document 01, "The calls"). Self, program, position and end mark are not the
-- store's: where heap words are taken as a store, these words of the header are cleared. Assumes nothing.
use Rattle.std.specs.Prelude.{ℕ, ◌+◌, List, [], ◌∷◌, length}
use Rattle.framed.specs.declared.Value.{Value}
use Rattle.words.specs.Words.{set_word}
use Rattle.heap.specs.Words.{set_self, set_program, add_slot, take_frame, take_text, set_text_byte}
use Rattle.heap.specs.Held.{frames_in_use, texts_in_use}
use Rattle.allocation.specs.Allocation as allocation
use Rattle.puts.specs.Puts.{put_slot}
use Rattle.collector.specs.Collect.{collect_heap}
use Rattle.bounded.specs.Store.{Store}

-- heap words and text bytes
pub record Memories : Type 0 where
  pub heap : List ℕ
  pub text : List ℕ

abbrev pub memories : List ℕ → List ℕ → Memories
memories h t = record { heap = h; text = t }

-- ---- The header

-- 0 in the words of self, program, position and end mark
unfoldable pub clear_header : List ℕ → List ℕ
clear_header h = set_word (set_word (set_word (set_word (set_word (set_word h 0 0) 1 0) 2 0) 3 0) 4 0) 5 0

-- a header that has this self and program alone
unfoldable pub rooted : List ℕ → Value → Value → List ℕ
rooted h Σ Π = set_program (set_self (clear_header h) Σ) Π

-- ---- The operations

-- a frame of the maker m
unfoldable pub claim_frame : List ℕ → ℕ → List ℕ
claim_frame h m = take_frame h (allocation.next_frame h) m

-- the bytes bs, one by one, as the bytes of text k from byte i on
unfoldable pub write_text : List ℕ → ℕ → ℕ → List ℕ → List ℕ
write_text t k i [] = t
write_text t k i (b ∷ bs) = write_text (set_text_byte t k i b) k (i + 1) bs

unfoldable pub claim_text : List ℕ → List ℕ → List ℕ → Memories
claim_text h t bs = let k = allocation.next_text h in memories (take_text h k (length bs)) (write_text t k 0 bs)

-- collecting reads self and program from the header
unfoldable pub collect_rooted : List ℕ → Value → Value → List ℕ
collect_rooted h Σ Π = clear_header (collect_heap (rooted h Σ Π)).words

abbrev pub word_store : Store Memories
word_store =
    record {
      view = λ s. allocation.view_held s.heap s.text;
      next_frame = λ s. allocation.next_frame s.heap;
      claim_frame = λ s m. memories (claim_frame s.heap m) s.text;
      push = λ s n x v. memories (add_slot s.heap n x v) s.text;
      assign = λ s n x v. memories (put_slot s.heap n x v) s.text;
      next_text = λ s. allocation.next_text s.heap;
      claim_text = λ s bs. claim_text s.heap s.text bs;
      collect = λ Σ Π s. memories (collect_rooted s.heap Σ Π) s.text;
      frame_count = λ s. length (frames_in_use s.heap);
      text_count = λ s. length (texts_in_use s.heap);
    }
