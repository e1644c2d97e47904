-- What a collection means: exactly what is reached is in use, the totals are `framed`'s, what is reached stays as it was, and a second collection changes nothing. Assumes nothing.
use Prim.Native.Nat.{ℕ, ◌+◌, ◌≤◌, ◌<◌}
use mathlib.Core.Path.{◌≡◌, refl, ◌∙◌, ap, ap₂, sym}
use mathlib.Core.List.{List}
use mathlib.Core.Bool.{not, true≢false}
use native.Mathlib.Omega.{arith}
use native.Mathlib.Decide.{ℕ_discrete}
use lib.ListN.{length, get_or}
use lib.Dec.{eqb}
use borrow.Author.Tests.{eq-eqb, ne_eqb}
use Rattle.heap.specs.Lists.{passing}
use Rattle.framed.specs.declared.Text.{Text}
use Rattle.framed.specs.declared.Totals.{Totals}
use Rattle.framed.specs.declared.Value.{Value}
use Rattle.framed.specs.Values.{new_frame}
use Rattle.framed.specs.Reach.{Reachable, roots, reached_frames, reached_texts}
use Rattle.framed.proofs.ReachCounts.{reach_agrees, reached_once, texts_agree, texts_once as reached-texts-once}
use Rattle.heap.specs.Words.{self_held, program_held, position, end_mark, frame_used, slot_count_at, slot_value_at, text_used, text_word, text_length}
use Rattle.heap.specs.Held.{frame_held, text_held, frames_held, frames_in_use, texts_in_use}
use Rattle.heap.specs.Closed.{Sized, FrameInUse, TextInUse, NamesInUse, Closed}
use Rattle.heap.proofs.Lists.{same_length}
use Rattle.heap.proofs.Laws.{same_part, same_self, same_program, same_position, same_end_mark, same_count, same_maker, same_value, frame_used_word, frame_word_free, text_used_word, text_word_free, text_length_word}
use Rattle.heap.proofs.Held.{InSlot, in_slot_held, in_slot_from, frame_of_used, slots_same, text_same, frame_counted, text_counted, frames_once, texts_once}
use Rattle.mark.specs.Mark.{mark_all}
use Rattle.mark.specs.Reached.{Reached, Marked, Exactly}
use Rattle.mark.proofs.ReachLaws.{mark_exact, reached_in_use}
use Rattle.collector.specs.Collect.{marked_from, sweep_frames, sweep_texts, swept, in_use_totals, collection, collect_heap}
use Rattle.collector.specs.Collected.{Collected, CollectTwice, CollectMeans}
use Rattle.collector.proofs.Count.{passing_same}
use Rattle.collector.proofs.Sweep.{Swept, swept_words, swept_still}

module _ (h : List ℕ) (closed : Closed h) where
  abbrev after : List ℕ
  after = swept (mark_all h) h

  pub words : Swept (mark_all h) h after
  words = swept_words (mark_all h) h closed.sized.size

  exact : Exactly h (mark_all h)
  exact = mark_exact h closed

  -- ---- In use afterwards

  pub frame_stays : (f : ℕ) → Reached h (Value.Frame f) → FrameInUse after f
  frame_stays f r =
      let u = (reached_in_use h closed r).frame f refl in
      record { small = u.small; used = frame_used_word h after f (words.frame_kept f u.small (exact.frame_all f r)) ∙ u.used }

  pub frame_reached : (f : ℕ) → FrameInUse after f → Reached h (Value.Frame f)
  frame_reached f u = go (ℕ_discrete (get_or (mark_all h) f 0) 0)
    where
      go : Dec (get_or (mark_all h) f 0 ≡ 0) → Reached h (Value.Frame f)
      go (yes z) = absurd (true≢false (sym u.used ∙ frame_word_free after f (words.frame_freed f u.small z)))
      go (no m) = exact.frame_sound f u.small m

  pub text_stays : (k : ℕ) → Reached h (Value.Text (Text.Made k)) → TextInUse after k
  text_stays k r =
      let u = (reached_in_use h closed r).made k refl in
      record { small = u.small; used = text_used_word h after k (words.text_kept k u.small (exact.text_all k r)) ∙ u.used }

  pub text_reached : (k : ℕ) → TextInUse after k → Reached h (Value.Text (Text.Made k))
  text_reached k u = go (ℕ_discrete (get_or (mark_all h) (256 + k) 0) 0)
    where
      go : Dec (get_or (mark_all h) (256 + k) 0 ≡ 0) → Reached h (Value.Text (Text.Made k))
      go (yes z) = absurd (true≢false (sym u.used ∙ text_word_free after k (words.text_freed k u.small z)))
      go (no m) = exact.text_sound k u.small m

  -- ---- What stays as it was

  self_same : self_held after ≡ self_held h
  self_same = same_self (same_part words.header _ _ (omega arith) (omega arith))

  program_same : program_held after ≡ program_held h
  program_same = same_program (same_part words.header _ _ (omega arith) (omega arith))

  pub position_same : position after ≡ position h
  position_same = same_position (same_part words.header _ _ (omega arith) (omega arith))

  pub end_mark_same : end_mark after ≡ end_mark h
  end_mark_same = same_end_mark (same_part words.header _ _ (omega arith) (omega arith))

  few : (f : ℕ) → Reached h (Value.Frame f) → slot_count_at h f ≤ 16
  few f r = let u = (reached_in_use h closed r).frame f refl in closed.sized.slots f u.small u.used

  frame_same : (f : ℕ) → Reached h (Value.Frame f) → frame_held after f ≡ frame_held h f
  frame_same f r =
      let u = (reached_in_use h closed r).frame f refl in
      let b = words.body f u.small in
      frame_of_used after f (frame_stays f r).used ∙ ap₂ new_frame (same_maker f b) (slots_same f b (few f r)) ∙ sym (frame_of_used h f u.used)

  text_word_same : (k : ℕ) → Reached h (Value.Text (Text.Made k)) → text_word after k ≡ text_word h k
  text_word_same k r = words.text_kept k ((reached_in_use h closed r).made k refl).small (exact.text_all k r)

  pub text_length_same : (k : ℕ) → Reached h (Value.Text (Text.Made k)) → text_length after k ≡ text_length h k
  text_length_same k r = text_length_word h after k (text_word_same k r)

  text_held_same : (t : List ℕ) (k : ℕ) → Reached h (Value.Text (Text.Made k)) → text_held after t k ≡ text_held h t k
  text_held_same t k r = text_same h after t k (text_length_same k r)

  -- ---- Reach is the same

  slot_forth : (g : ℕ) (v : Value) → Reached h (Value.Frame g) → InSlot h g v → InSlot after g v
  slot_forth g v r s =
      let le : slot_count_at h g ≤ 16 = few g r in
      let c : slot_count_at after g ≡ slot_count_at h g = same_count g (words.body g s.small) in
      let i : s.slot < slot_count_at h g = s.inside in
      record {
        small = s.small;
        used = (frame_stays g r).used;
        slot = s.slot;
        inside = omega arith;
        value = same_value g (words.body g s.small) s.slot (omega arith) ∙ s.value;
      }

  slot_back : (g : ℕ) (v : Value) → Reached h (Value.Frame g) → InSlot after g v → InSlot h g v
  slot_back g v r s =
      let le : slot_count_at h g ≤ 16 = few g r in
      let c : slot_count_at after g ≡ slot_count_at h g = same_count g (words.body g s.small) in
      let i : s.slot < slot_count_at after g = s.inside in
      record {
        small = s.small;
        used = ((reached_in_use h closed r).frame g refl).used;
        slot = s.slot;
        inside = omega arith;
        value = sym (same_value g (words.body g s.small) s.slot (omega arith)) ∙ s.value;
      }

  reach_forth : {v : Value} → Reached h v → Reached after v
  reach_forth Reachable.self = rw (← self_same) Reachable.self
  reach_forth Reachable.program = rw (← program_same) Reachable.program
  reach_forth (Reachable.in_slot {n = g} {v} r m) = Reachable.in_slot (reach_forth r) (in_slot_held after g (slot_forth g v r (in_slot_from h g v m)))

  reach_back : {v : Value} → Reached after v → Reached h v
  reach_back Reachable.self = rw self_same Reachable.self
  reach_back Reachable.program = rw program_same Reachable.program
  reach_back (Reachable.in_slot {n = g} {v} r m) =
      let b = reach_back r in Reachable.in_slot b (in_slot_held h g (slot_back g v b (in_slot_from after g v m)))

  -- ---- Closed again

  named : (v : Value) → Reached h v → NamesInUse after v
  named v r = record { frame = λ f e. frame_stays f (rw e at r); made = λ k e. text_stays k (rw e at r) }

  after_sized : Sized after
  after_sized = record {
    size = words.size ∙ closed.sized.size;
    slots = λ f lt u. rw (same_count f (words.body f lt)) (few f (frame_reached f (record { small = lt; used = u })));
    texts = λ k lt. go k lt (ℕ_discrete (get_or (mark_all h) (256 + k) 0) 0);
  }
    where
      go : (k : ℕ) → k < 256 → Dec (get_or (mark_all h) (256 + k) 0 ≡ 0) → text_word after k ≤ 65
      go k lt (yes z) = rw (words.text_freed k lt z) (omega arith)
      go k lt (no m) = rw (words.text_kept k lt m) (closed.sized.texts k lt)

  pub slot_reached : (f i : ℕ) → Reached h (Value.Frame f) → i < slot_count_at h f → Reached h (slot_value_at h f i)
  slot_reached f i r lt =
      let u = (reached_in_use h closed r).frame f refl in
      Reachable.in_slot r (in_slot_held h f (record { small = u.small; used = u.used; slot = i; inside = lt; value = refl }))

  after_slot : (f i : ℕ) → FrameInUse after f → i < slot_count_at after f → NamesInUse after (slot_value_at after f i)
  after_slot f i u lt =
      let r = frame_reached f u in
      let le : slot_count_at h f ≤ 16 = few f r in
      let c : slot_count_at after f ≡ slot_count_at h f = same_count f (words.body f u.small) in
      rw (same_value f (words.body f u.small) i (omega arith)) (named (slot_value_at h f i) (slot_reached f i r (omega arith)))

  after_closed : Closed after
  after_closed = record {
    sized = after_sized;
    self = rw self_same (named (self_held h) Reachable.self);
    program = rw program_same (named (program_held h) Reachable.program);
    slot = after_slot;
  }

  -- ---- The totals

  frames_total : length (frames_in_use after) ≡ length (reached_frames (frames_held h) (roots (self_held h) (program_held h)))
  frames_total =
      let a = reach_agrees (frames_held h) (self_held h) (program_held h) in
      same_length _ _ (frames_once after) (reached_once (frames_held h) (self_held h) (program_held h))
      (λ f i. (a f).1 (frame_reached f ((frame_counted after f).0 i))) (λ f i. (frame_counted after f).1 (frame_stays f ((a f).0 i)))

  texts_total : length (texts_in_use after) ≡ length (reached_texts (frames_held h) (roots (self_held h) (program_held h)))
  texts_total =
      let a = texts_agree (frames_held h) (self_held h) (program_held h) in
      same_length _ _ (texts_once after) (reached-texts-once (frames_held h) (self_held h) (program_held h))
      (λ k i. (a k).1 (text_reached k ((text_counted after k).0 i))) (λ k i. (text_counted after k).1 (text_stays k ((a k).0 i)))

  -- What collect-heap means
  pub collected : Collected h after (in_use_totals after)
  unfolding in_use_totals
  collected = record {
    frames_total = frames_total;
    texts_total = texts_total;
    frame_in_use = λ f. (frame_reached f, frame_stays f);
    text_in_use = λ k. (text_reached k, text_stays k);
    frame_same = frame_same;
    text_same = text_held_same;
    self_same = self_same;
    program_same = program_same;
    position_same = position_same;
    end_mark_same = end_mark_same;
    reach_same = λ v. (reach_back, reach_forth);
    closed = after_closed;
  }

  -- what is not reached has words 0 afterwards, so that a second collection writes what stands there
  still : swept (mark_all after) after ≡ after
  still =
      swept_still (mark_all after) after (words.size ∙ closed.sized.size)
      (λ f lt z. words.frame_freed f lt (unmarked f z (ℕ_discrete (get_or (mark_all h) f 0) 0) (λ m. again.frame_all f (reach_forth (exact.frame_sound f lt m)) z)))
      (λ k lt z. words.text_freed k lt (unmarked (256 + k) z (ℕ_discrete (get_or (mark_all h) (256 + k) 0) 0) (λ m. again.text_all k (reach_forth (exact.text_sound k lt m)) z)))
    where
      again : Exactly after (mark_all after)
      again = mark_exact after after_closed

      unmarked : (j : ℕ) → get_or (mark_all after) j 0 ≡ 0 → Dec (get_or (mark_all h) j 0 ≡ 0) → (Marked (mark_all h) j → ⊥) → get_or (mark_all h) j 0 ≡ 0
      unmarked j z (yes e) n = e
      unmarked j z (no m) n = absurd (n m)

pub collect_meant : CollectMeans
unfolding collect_heap
collect_meant h closed = collected h closed

pub collect_twice : CollectTwice
unfolding collect_heap
collect_twice h closed = ap (λ (x : List ℕ). collection (in_use_totals x) x) (still h closed)

-- ---- What is marked is in use afterwards

module _ (h : List ℕ) (closed : Closed h) where
  frame_marked : (f : ℕ) → f < 256 → marked_from (mark_all h) 0 f ≡ frame_used (after h closed) f
  unfolding marked_from
  frame_marked f lt = let z : 0 + f ≡ f = omega arith in rw z (go (ℕ_discrete (get_or (mark_all h) f 0) 0))
    where
      go : Dec (get_or (mark_all h) f 0 ≡ 0) → not (eqb (get_or (mark_all h) f 0) 0) ≡ frame_used (after h closed) f
      go (yes e) = rw (eq-eqb _ _ e) (sym (frame_word_free (after h closed) f ((words h closed).frame_freed f lt e)))
      go (no ne) = rw (ne_eqb _ _ ne) (sym (frame_stays h closed f ((exact h closed).frame_sound f lt ne)).used)

  text_marked : (k : ℕ) → k < 256 → marked_from (mark_all h) 256 k ≡ text_used (after h closed) k
  unfolding marked_from
  text_marked k lt = go (ℕ_discrete (get_or (mark_all h) (256 + k) 0) 0)
    where
      go : Dec (get_or (mark_all h) (256 + k) 0 ≡ 0) → not (eqb (get_or (mark_all h) (256 + k) 0) 0) ≡ text_used (after h closed) k
      go (yes e) = rw (eq-eqb _ _ e) (sym (text_word_free (after h closed) k ((words h closed).text_freed k lt e)))
      go (no ne) = rw (ne_eqb _ _ ne) (sym (text_stays h closed k ((exact h closed).text_sound k lt ne)).used)

-- as the code's contract says it
module _ (h : List ℕ) (closed : Closed h) (m h₁ h₂ : List ℕ) (em : m ≡ mark_all h) (e₁ : h₁ ≡ sweep_frames m h) (e₂ : h₂ ≡ sweep_texts m h₁)
    (a b : ℕ) (ea : a ≡ length (passing (marked_from m 0) 256)) (eb : b ≡ length (passing (marked_from m 256) 256)) where
  collect_end : h₂ ≡ swept (mark_all h) h
  unfolding swept
  collect_end = rw (e₂, e₁, em)

  totals_are : ◌≡◌ {A = Totals} (record { frames = a; texts = b }) (in_use_totals h₂)
  unfolding in_use_totals frames_in_use texts_in_use
  totals_are =
      rw (
        ea,
        eb,
        em,
        collect_end,
        passing_same (marked_from (mark_all h) 0) (frame_used (after h closed)) 256 (frame_marked h closed),
        passing_same (marked_from (mark_all h) 256) (text_used (after h closed)) 256 (text_marked h closed),
      )

  pub collect_is : collect_heap h ≡ collection (record { frames = a; texts = b }) h₂
  unfolding collect_heap
  collect_is = rw (totals_are, collect_end)

  pub collect_means : Collected h h₂ (record { frames = a; texts = b })
  collect_means = rw (totals_are, collect_end) (collected h closed)
