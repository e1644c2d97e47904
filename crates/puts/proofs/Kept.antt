-- What the words hold after put_slot: the frame's slots are those that `framed` sets, and all else is as it was. Assumes nothing.
use Prim.Native.Nat.{ℕ, ◌<◌}
use mathlib.Core.Path.{◌≡◌, refl, ◌∙◌, ap, sym}
use mathlib.Core.List.{List}
use mathlib.Core.Bool.{true, true≢false}
use native.Mathlib.Omega.{arith}
use native.Mathlib.Decide.{dec_lt}
use lib.ListN.{length, set}
use borrow.Author.Tests.{le-ltb}
use Rattle.std.specs.Prelude.{Option, Some, None}
use Rattle.framed.specs.declared.Value.{Value}
use Rattle.framed.specs.Values.{Slot, new_frame}
use Rattle.framed.specs.Machine.{set_slot}
use Rattle.bounded.specs.Check.{has_place}
use Rattle.heap.specs.Words.{frame_used, slot_count_at, maker_at, slot_name_at, set_slot_value, add_slot}
use Rattle.heap.specs.Held.{slot_held, slots_held, frames_held, frames_in_use}
use Rattle.heap.specs.Closed.{Sized, ValueFits}
use Rattle.heap.proofs.Held.{SameTexts, SameHeader, set_slot_frames, set_slot_in_use, set_slot_texts, set_slot_header}
use Rattle.heap.proofs.Held.{add_slot_frames, add_slot_in_use, add_slot_texts, add_slot_header}
use Rattle.paths.specs.Paths.{slot_from}
use Rattle.puts.specs.Puts.{put_slot}
use Rattle.paths.proofs.Slots.{Hit, Miss, slot_hit, slot_miss}
use Rattle.paths.proofs.Laws.{slots_length, slot_at}
use Rattle.puts.proofs.Laws.{place_none, put_adds, put_sets}

module _ (h : List ℕ) (f x : ℕ) (v : Value) where
  by_found : (P : List ℕ → Type 0) (r : Option ℕ) → r ≡ slot_from (slots_held h f) x 0
      → ((i : ℕ) → Hit (slots_held h f) x i → P (set_slot_value h f i v)) → (Miss (slots_held h f) x → P (add_slot h f x v)) → P (put_slot h f x v)
  by_found P (Some i) e a b =
      rw (← put_sets h f x v (Some i) e _ i refl refl) (a i (slot_hit (slots_held h f) x (Some i) e i refl))
  by_found P None e a b =
      rw (← put_adds h f x v None e _ refl refl) (b (slot_miss (slots_held h f) x None e refl))

  -- the two ways of Put: the slot is there, or one is added
  put_case : (P : List ℕ → Type 0) → ((i : ℕ) → Hit (slots_held h f) x i → P (set_slot_value h f i v)) → (Miss (slots_held h f) x → P (add_slot h f x v)) → P (put_slot h f x v)
  put_case P a b = by_found P (slot_from (slots_held h f) x 0) refl a b

  has_room : has_place (new_frame (maker_at h f) (slots_held h f)) x ≡ true → Miss (slots_held h f) x → slot_count_at h f < 16
  has_room ok m = go (dec_lt (slot_count_at h f) 16)
    where
      go : Dec (slot_count_at h f < 16) → slot_count_at h f < 16
      go (yes l) = l
      go (no n) = absurd (true≢false (sym ok ∙ place_none (maker_at h f) (slots_held h f) x m.value ∙ le-ltb (length (slots_held h f)) 16 (let l = slots_length h f in omega arith)))

  module _ (s : Sized h) (hf : f < 256) (u : frame_used h f ≡ true) (ok : has_place (new_frame (maker_at h f) (slots_held h f)) x ≡ true) where
    inside : (i : ℕ) → Hit (slots_held h f) x i → i < slot_count_at h f
    inside i a = let b = a.below in let l = slots_length h f in omega arith

    named : (i : ℕ) → Hit (slots_held h f) x i → slot_name_at h f i ≡ x
    unfolding slot_held
    named i a = sym (ap (λ (q : Slot). q.name) (slot_at h f i (slot_held h f i) (inside i a))) ∙ a.name (slot_held h f i)

    pub put_frames : ValueFits v → frames_held (put_slot h f x v) ≡ set (frames_held h) f (new_frame (maker_at h f) (set_slot (slots_held h f) x v))
    put_frames vf =
        put_case (λ k. frames_held k ≡ set (frames_held h) f (new_frame (maker_at h f) (set_slot (slots_held h f) x v)))
        (λ i a. rw (a.put v) (rw (named i a) at (set_slot_frames h s f hf u i v (inside i a) vf)))
        (λ m. rw (m.put v) (add_slot_frames h s f hf u x v (has_room ok m) vf))

    pub put_in_use : frames_in_use (put_slot h f x v) ≡ frames_in_use h
    put_in_use =
        put_case (λ k. frames_in_use k ≡ frames_in_use h)
        (λ i a. set_slot_in_use h s f hf u i v (inside i a)) (λ m. add_slot_in_use h s f hf u x v (has_room ok m))

    pub put_texts : SameTexts h (put_slot h f x v)
    put_texts =
        put_case (λ k. SameTexts h k)
        (λ i a. set_slot_texts h s f hf u i v (inside i a)) (λ m. add_slot_texts h s f hf u x v (has_room ok m))

    pub put_header : SameHeader h (put_slot h f x v)
    put_header =
        put_case (λ k. SameHeader h k)
        (λ i a. set_slot_header h s f hf u i v (inside i a)) (λ m. add_slot_header h s f hf u x v (has_room ok m))
