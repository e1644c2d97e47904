-- Reserve over the words is that of the bounded machine on the state that they hold, and the header stays. Assumes nothing.
use Prim.Native.Nat.{ℕ, ◌+◌, ◌≤◌}
use mathlib.Core.Path.{◌≡◌, refl, ◌∙◌, ap}
use mathlib.Core.Bool.{Bool, true, false, ◌&&◌}
use mathlib.Core.List.{List}
use native.Mathlib.Omega.{arith}
use native.Mathlib.Decide.{dec_le}
use lib.Dec.{leb, ltb, eqb}
use lib.ListN.{length}
use borrow.Author.Tests.{lt-ltb, le-ltb, le-leb, lt-leb}
use Rattle.words.specs.Words.{pick}
use Rattle.framed.specs.Common.{when◌then◌else◌}
use Rattle.framed.specs.Tree.{Instruction, Code}
use Rattle.framed.specs.Paths.{Path}
use Rattle.framed.specs.Machine.{frame_literals, join_signs, right_side}
use Rattle.tables.specs.Fields.{frame_limit, text_limit}
use Rattle.heap.specs.Words.{self_held, program_held}
use Rattle.heap.specs.Held.{frames_in_use, texts_in_use}
use Rattle.heap.specs.Closed.{Closed}
use Rattle.collector.specs.Collect.{collect_heap}
use Rattle.collector.proofs.Means.{collect_meant}
use Rattle.bounded.specs.Bounded.{Bounded, over_store, room_end, make_room, reserved, reserve, ready, collected}
use Rattle.word_store.specs.Store.{Memories, word_store}
use Rattle.word_store.specs.State.{store_held, state_held}
use Rattle.word_store.proofs.Updates.{KeepsHeader, keeps_all, keeps_pick, keeps_collect, held_read, held_after}
use Rattle.reserving.specs.Reserving.{room_end_held, reserved_words, Reserves}

if_pick : {A : Type 0} (b : Bool) (x y : A) → pick b x y ≡ (when b then x else y)
if_pick true x y = refl
if_pick false x y = refl

module _ (remaining_from : ℕ → Code Path) (p h t : List ℕ) (f n : ℕ) where
  abbrev now : Bounded Memories
  now = state_held remaining_from h t

  frame_count_is : word_store.frame_count (store_held h t) ≡ length (frames_in_use h)
  unfolding state_held
  frame_count_is = (held_read remaining_from h t).frame_count

  text_count_is : word_store.text_count (store_held h t) ≡ length (texts_in_use h)
  unfolding state_held
  text_count_is = (held_read remaining_from h t).text_count

  -- the end is that of the store
  pub room_end_is : room_end_held p h f n ≡ room_end word_store (frame_limit p) (text_limit p) f n (store_held h t)
  unfolding room_end_held room_end
  room_end_is =
      rw (frame_count_is, text_count_is)
      (if_pick (ltb (frame_limit p) (length (frames_in_use h) + f)) 36 (pick (ltb (text_limit p) (length (texts_in_use h) + n)) 37 0)
      ∙ ap (λ (x : ℕ). when ltb (frame_limit p) (length (frames_in_use h) + f) then 36 else x) (if_pick (ltb (text_limit p) (length (texts_in_use h) + n)) 37 0))

  -- there is room exactly where the end is 0
  room_test : eqb (room_end_held p h f n) 0 ≡ (leb (length (frames_in_use h) + f) (frame_limit p) && leb (length (texts_in_use h) + n) (text_limit p))
  unfolding room_end_held
  room_test = go (dec_le (length (frames_in_use h) + f) (frame_limit p)) (dec_le (length (texts_in_use h) + n) (text_limit p))
    where
      go : Dec (length (frames_in_use h) + f ≤ frame_limit p) → Dec (length (texts_in_use h) + n ≤ text_limit p) →
          eqb (pick (ltb (frame_limit p) (length (frames_in_use h) + f)) 36 (pick (ltb (text_limit p) (length (texts_in_use h) + n)) 37 0)) 0
          ≡ (leb (length (frames_in_use h) + f) (frame_limit p) && leb (length (texts_in_use h) + n) (text_limit p))
      go (yes a) (yes b) = rw (le-ltb _ _ a, le-ltb _ _ b, le-leb _ _ a, le-leb _ _ b)
      go (yes a) (no b) = rw (le-ltb _ _ a, lt-ltb (text_limit p) (length (texts_in_use h) + n) (omega arith), le-leb _ _ a, lt-leb (length (texts_in_use h) + n) (text_limit p) (omega arith))
      go (no a) b = rw (lt-ltb (frame_limit p) (length (frames_in_use h) + f) (omega arith), lt-leb (length (frames_in_use h) + f) (frame_limit p) (omega arith))

  -- the store is that with room made, and nothing else of the state differs
  pub reserved_state : length h ≡ 16384 →
      state_held remaining_from (reserved_words p h f n) t
      ≡ over_store now (make_room word_store (frame_limit p) (text_limit p) f n (self_held h) (program_held h) (store_held h t))
  unfolding reserved_words make_room state_held collected
  reserved_state size = rw (frame_count_is, text_count_is, room_test) (go (leb (length (frames_in_use h) + f) (frame_limit p) && leb (length (texts_in_use h) + n) (text_limit p)))
    where
      go : (b : Bool) → state_held remaining_from (pick b h (collect_heap h).words) t
          ≡ over_store (state_held remaining_from h t) (when b then store_held h t else word_store.collect (self_held h) (program_held h) (store_held h t))
      go true = refl
      go false = (held_after remaining_from h t size).collect

  pub reserved_header : KeepsHeader h (reserved_words p h f n)
  unfolding reserved_words
  reserved_header = keeps_pick (eqb (room_end_held p h f n) 0) (keeps_all h) (keeps_collect h)

  pub reserved_closed : Closed h → Closed (reserved_words p h f n)
  unfolding reserved_words
  reserved_closed c = go (eqb (room_end_held p h f n) 0)
    where
      go : (b : Bool) → Closed (pick b h (collect_heap h).words)
      go true = c
      go false = (collect_meant h c).closed

-- as the code's contract says it: the state after it is `ready`, the answer `reserve`
module _ (remaining_from : ℕ → Code Path) (p h t : List ℕ) (i : Instruction Path) (r : ℕ) (h' : List ℕ)
    (k : Reserves p h (frame_literals (right_side i)) (join_signs (right_side i)) r h') (size : length h ≡ 16384) where
  pub reserve_ready : state_held remaining_from h' t ≡ ready word_store (frame_limit p) (text_limit p) (state_held remaining_from h t) i
  unfolding ready reserved state_held
  reserve_ready = rw k.words (reserved_state remaining_from p h t (frame_literals (right_side i)) (join_signs (right_side i)) size)

  pub reserve_end : r ≡ reserve word_store (frame_limit p) (text_limit p) (state_held remaining_from h t) i
  unfolding reserve reserved state_held make_room ready
  reserve_end =
      k.end ∙ room_end_is remaining_from p h' t (frame_literals (right_side i)) (join_signs (right_side i))
      ∙ ap (room_end word_store (frame_limit p) (text_limit p) (frame_literals (right_side i)) (join_signs (right_side i))) (ap (λ (b : Bounded Memories). b.store) reserve_ready)
