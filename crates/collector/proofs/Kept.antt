-- A collection leaves a well-formed state well-formed. Assumes nothing.
use Prim.Native.Nat.{ℕ, ◌≤◌, ◌<◌}
use mathlib.Core.Path.{◌≡◌, refl, ◌∙◌}
use mathlib.Core.Logic.{◌⊎◌, inl}
use mathlib.Core.List.{List}
use native.Mathlib.Omega.{arith}
use native.Mathlib.Decide.{ℕ_discrete}
use lib.ListN.{length, get_or}
use Rattle.words.specs.Words.{word}
use Rattle.framed.specs.declared.Text.{Text}
use Rattle.framed.specs.declared.Value.{Value}
use Rattle.framed.specs.Reach.{Reachable}
use Rattle.heap.specs.Words.{value_of, self_held, program_held, frame_word, slot_count_at, slot_tag_at, slot_number_at, slot_value_at}
use Rattle.heap.specs.Held.{frames_in_use, texts_in_use}
use Rattle.heap.specs.Closed.{FrameInUse, TextInUse, Closed}
use Rattle.heap.proofs.Lists.{subset_length}
use Rattle.heap.proofs.Held.{frame_counted, text_counted, frames_once, texts_once}
use Rattle.mark.specs.Mark.{mark_all}
use Rattle.mark.specs.Reached.{Reached}
use Rattle.mark.proofs.ReachLaws.{reached_in_use}
use Rattle.frame_form.specs.declared.Limits.{Limits}
use Rattle.state_form.specs.Form.{ValueFormed, FrameFormed, TextFormed, StateWellFormed}
use Rattle.state_form.proofs.Facts.{well_formed_closed}
use Rattle.state_form.proofs.Kept.{frame_stays as formed-frame-stays, text_stays as formed-text-stays}
use Rattle.collector.specs.Collect.{swept, collect_heap}
use Rattle.collector.specs.Collected.{CollectWellFormed}
use Rattle.collector.proofs.Sweep.{Swept}
use Rattle.collector.proofs.Means.{words, text_length_same, frame_stays, frame_reached, text_stays, text_reached, slot_reached, position_same, end_mark_same}

made_value : (n : ℕ) → value_of 2 n ≡ Value.Text (Text.Made n)
unfolding value_of
made_value n = refl

frame_value : (n : ℕ) → value_of 4 n ≡ Value.Frame n
unfolding value_of
frame_value n = refl

module _ (h t : List ℕ) (l : Limits) (w : StateWellFormed h t l) where
  closed : Closed h
  closed = well_formed_closed w

  abbrev after : List ℕ
  after = swept (mark_all h) h

  left : Swept (mark_all h) h after
  left = words h closed

  value_kept : (tag n : ℕ) → ValueFormed h l tag n → Reached h (value_of tag n) → ValueFormed after l tag n
  value_kept tag n v r = record {
    formed = v.formed;
    literal = v.literal;
    made = λ e. text_stays h closed n (rw (e, made_value n) at r);
    code = v.code;
    frame = λ e. frame_stays h closed n (rw (e, frame_value n) at r);
  }

  slot_kept : (f i : ℕ) → Reached h (Value.Frame f) → i < slot_count_at h f → ValueFormed h l (slot_tag_at h f i) (slot_number_at h f i)
      → ValueFormed after l (slot_tag_at h f i) (slot_number_at h f i)
  unfolding slot_value_at
  slot_kept f i r lt v = value_kept (slot_tag_at h f i) (slot_number_at h f i) v (slot_reached h closed f i r lt)

  frame_kept : (f : ℕ) → FrameInUse after f → FrameFormed after l f
  frame_kept f u =
      let r = frame_reached h closed f u in
      let o = w.frame f ((reached_in_use h closed r).frame f refl) in
      formed-frame-stays h after l f (left.body f u.small) o (λ i lt. slot_kept f i r lt (o.slot i lt).value)

  text_kept : (k : ℕ) → TextInUse after k → TextFormed after t k
  text_kept k u =
      let r = text_reached h closed k u in
      formed-text-stays h after t k (text_length_same h closed k r) (w.text k ((reached_in_use h closed r).made k refl))

  flag_kept : (f : ℕ) → f < 256 → (frame_word after f ≡ 0) ⊎ (frame_word after f ≡ 1)
  flag_kept f lt = go (ℕ_discrete (get_or (mark_all h) f 0) 0)
    where
      go : Dec (get_or (mark_all h) f 0 ≡ 0) → (frame_word after f ≡ 0) ⊎ (frame_word after f ≡ 1)
      go (yes z) = inl (left.frame_freed f lt z)
      go (no m) = rw (left.frame_kept f lt m) (w.flag f lt)

  frames_fewer : length (frames_in_use after) ≤ length (frames_in_use h)
  frames_fewer = subset_length _ _ (frames_once after) (λ f i.
      (frame_counted h f).1 ((reached_in_use h closed (frame_reached h closed f ((frame_counted after f).0 i))).frame f refl))

  texts_fewer : length (texts_in_use after) ≤ length (texts_in_use h)
  texts_fewer = subset_length _ _ (texts_once after) (λ k i.
      (text_counted h k).1 ((reached_in_use h closed (text_reached h closed k ((text_counted after k).0 i))).made k refl))

  self_kept : ValueFormed after l (word after 0) (word after 1)
  unfolding self_held
  self_kept =
      rw (left.header.agree 0 (omega arith) (omega arith), left.header.agree 1 (omega arith) (omega arith))
      (value_kept (word h 0) (word h 1) w.self Reachable.self)

  program_kept : ValueFormed after l (word after 2) (word after 3)
  unfolding program_held
  program_kept =
      rw (left.header.agree 2 (omega arith) (omega arith), left.header.agree 3 (omega arith) (omega arith))
      (value_kept (word h 2) (word h 3) w.program Reachable.program)

  kept : StateWellFormed after t l
  kept = record {
    heap_size = left.size ∙ w.heap_size;
    text_size = w.text_size;
    self = self_kept;
    program = program_kept;
    flag = flag_kept;
    frame = frame_kept;
    text = text_kept;
    frames_few = let a = frames_fewer in let b = w.frames_few in omega arith;
    texts_few = let a = texts_fewer in let b = w.texts_few in omega arith;
    position_there = rw (position_same h closed) w.position_there;
    end = rw (end_mark_same h closed) w.end;
  }

pub collect_well_formed : CollectWellFormed
unfolding collect_heap
collect_well_formed h t l w = kept h t l w
