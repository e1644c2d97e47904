-- A frame claimed and a slot pushed over the words; what the store shows. Assumes nothing.
use Prim.Native.Nat.{ℕ, ◌≤◌, ◌<◌}
use mathlib.Core.Path.{◌≡◌, ◌∙◌, ap, sym}
use mathlib.Core.List.{List}
use mathlib.Core.Bool.{true≢false}
use native.Mathlib.Omega.{arith}
use native.Mathlib.Decide.{dec_lt}
use lib.ListN.{length}
use borrow.Author.Tests.{le-leb}
use Rattle.framed.specs.declared.Value.{Value}
use Rattle.framed.specs.Tree.{Code}
use Rattle.framed.specs.Values.{Heap}
use Rattle.heap.specs.Words.{self_held, program_held, position, frame_used, slot_count_at, take_frame, add_slot}
use Rattle.heap.specs.Held.{frames_held, heap_held, frames_in_use}
use Rattle.heap.specs.Closed.{Sized, FrameInUse}
use Rattle.heap.proofs.Laws.{Same, same_part, same_self, same_program, same_position, take_frame_used}
use Rattle.heap.proofs.Held.{take_frame_sized, take_frame_others, take_frame_count_one, take_frame_texts, add_slot_sized, add_slot_in_use, add_slot_texts}
use Rattle.allocation.specs.Allocation.{next_frame, view_held}
use Rattle.allocation.proofs.Laws.{next_frame_below, next_frame_free}
use Rattle.bounded.specs.Views.{View}
use Rattle.bounded.specs.Bounded.{Bounded, heap_in}
use Rattle.word_store.specs.Store.{Memories, word_store, claim_frame}
use Rattle.word_store.specs.State.{store_held, state_held}
use Rattle.word_store.proofs.Updates.{keeps_claim, keeps_add, held_read, held_after}
use Rattle.producing.specs.Producing.{HeaderKept, Leaves}
use Rattle.producing.proofs.Leaves.{header_kept, leaves_none, in_use_stay, texts_stay}

-- ---- What the store shows

module _ (h t : List ℕ) where
  pub heap_is : heap_in word_store (store_held h t) ≡ heap_held h t
  unfolding state_held view_held
  heap_is = ap (λ (view : View). view.heap) (held_read (λ i. Code.finished) h t).view

  pub frames_are : (heap_in word_store (store_held h t)).frames ≡ frames_held h
  unfolding heap_held
  frames_are = ap (λ (H : Heap). H.frames) heap_is

  pub next_is : word_store.next_frame (store_held h t) ≡ next_frame h
  unfolding state_held
  next_is = (held_read (λ i. Code.finished) h t).next_frame

  module _ (size : length h ≡ 16384) where
    pub claim_store : (m : ℕ) → store_held (claim_frame h m) t ≡ word_store.claim_frame (store_held h t) m
    unfolding state_held
    claim_store m = ap (λ (b : Bounded Memories). b.store) ((held_after (λ i. Code.finished) h t size).frame m)

    pub push_store : (f x : ℕ) (v : Value) → store_held (add_slot h f x v) t ≡ word_store.push (store_held h t) f x v
    unfolding state_held
    push_store f x v = ap (λ (b : Bounded Memories). b.store) ((held_after (λ i. Code.finished) h t size).push f x v)

-- ---- The header

pub as_same : {h h' : List ℕ} → HeaderKept h h' → Same 0 6 h h'
as_same k = record { agree = λ j lo hi. k.agree j hi }

pub self_kept : {h h' : List ℕ} → HeaderKept h h' → self_held h' ≡ self_held h
self_kept k = same_self (same_part (as_same k) 0 2 (omega arith) (omega arith))

pub program_kept : {h h' : List ℕ} → HeaderKept h h' → program_held h' ≡ program_held h
program_kept k = same_program (same_part (as_same k) 2 4 (omega arith) (omega arith))

pub position_kept : {h h' : List ℕ} → HeaderKept h h' → position h' ≡ position h
position_kept k = same_position (same_part (as_same k) 4 5 (omega arith) (omega arith))

-- ---- What is left

pub full_frame : (h : List ℕ) (f x : ℕ) (v : Value) → 16 ≤ slot_count_at h f → add_slot h f x v ≡ h
unfolding add_slot
full_frame h f x v le = rw (le-leb 16 (slot_count_at h f) le)

module _ (h t : List ℕ) (s : Sized h) (size : length t ≡ 16384) where
  module _ (few : length (frames_in_use h) < 256) (m : ℕ) where
    pub claim_in_use : FrameInUse (claim_frame h m) (next_frame h)
    unfolding claim_frame
    claim_in_use = record { small = next_frame_below h few; used = take_frame_used h (next_frame h) m s.size (next_frame_below h few) }

    pub claim_leaves : Leaves h t 1 0 (claim_frame h m) t
    unfolding claim_frame
    claim_leaves =
        let below = next_frame_below h few in
        record {
          header = header_kept (keeps_claim h m);
          stay = stays below;
          stay_text = texts_stay (take_frame_texts h s (next_frame h) m below).in_use;
          sized = take_frame_sized h s (next_frame h) m below;
          text_size = size;
          frames = let e = take_frame_count_one h s (next_frame h) m below (next_frame_free h few) in omega arith;
          texts = let e = ap length (take_frame_texts h s (next_frame h) m below).in_use in omega arith;
        }
      where
        stays : next_frame h < 256 → (g : ℕ) → FrameInUse h g → FrameInUse (take_frame h (next_frame h) m) g
        stays below g u = record {
          small = u.small;
          used =
              take_frame_others h s (next_frame h) m below g
              (λ e. absurd (true≢false (sym u.used ∙ ap (frame_used h) e ∙ next_frame_free h few)))
              ∙ u.used;
        }

  -- a slot on a frame in use; one that has 16 stays as it is
  pub push_leaves : (f x : ℕ) (v : Value) → FrameInUse h f → Leaves h t 0 0 (add_slot h f x v) t
  push_leaves f x v u = go (dec_lt (slot_count_at h f) 16)
    where
      go : Dec (slot_count_at h f < 16) → Leaves h t 0 0 (add_slot h f x v) t
      go (yes lt) =
          let e = add_slot_in_use h s f u.small u.used x v lt in
          let c = add_slot_texts h s f u.small u.used x v lt in
          record {
            header = header_kept (keeps_add h f x v);
            stay = in_use_stay e;
            stay_text = texts_stay c.in_use;
            sized = add_slot_sized h s f u.small u.used x v lt;
            text_size = size;
            frames = let q = ap length e in omega arith;
            texts = let q = ap length c.in_use in omega arith;
          }
      go (no ge) = rw (full_frame h f x v (omega arith)) (leaves_none 0 0 s size)
