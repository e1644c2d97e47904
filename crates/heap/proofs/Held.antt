-- What the words hold after an updater: the frames, the made texts and the header.
-- Assumes nothing.
use Prim.Native.Nat.{ℕ, suc, ◌+◌, ◌-◌, ◌*◌, ◌≤◌, ◌<◌}
use mathlib.Core.Path.{◌≡◌, refl, ◌∙◌, ap, ap₂, sym}
use mathlib.Core.Logic.{◌≢◌, ◌↔◌}
use mathlib.Core.List.Memᴰ
use mathlib.Core.List.{List, [], ◌∷◌, ◌++◌, Memᴰ}
use mathlib.Core.Bool.{Bool, true, false}
use mathlib.Core.Option.{some}
use native.Mathlib.Omega.{arith}
use native.Mathlib.Decide.{ℕ_discrete, dec_lt}
use native.Mathlib.Numerals.{add-one}
use lib.ListN.{length, get_or, set, get_elem?}
use borrow.Author.Tests.{ne_eqb}
use Rattle.framed.specs.declared.Value.{Value}
use Rattle.framed.specs.Values.{Slot, Frame, new_frame}
use Rattle.framed.specs.Common.{has_twice}
use Rattle.framed.specs.Reach.{slot_value, values_in}
use Rattle.framed.specs.Calls.{maker_in}
use Rattle.heap.specs.Closed.{Sized, ValueFits, FrameInUse, TextInUse}
use Rattle.heap.specs.Words.{self_held, program_held, position, end_mark, frame_used, slot_count_at, maker_at, slot_name_at, slot_value_at, text_word, text_used, text_length, text_byte}
use Rattle.heap.specs.Words.{set_end_mark, set_slot_value, add_slot_at, add_slot, take_frame, take_text, set_text_byte}
use Rattle.heap.specs.Lists.{listed}
use Rattle.heap.specs.Held.{slot_held, slots_held, frame_held, text_held, frames_held, texts_held, frames_in_use, texts_in_use}
use Rattle.heap.proofs.Lists.{listed_length, listed_at, listed_past, listed_same, listed_set, listed_has, listed_from, elem_at, passing_same, passing_more, passing_means, passing_has, passing_once, ◌∈◌}
use Rattle.heap.proofs.Laws.{Local, Same, local_same, same_part, same_self, same_program, same_position, same_end_mark}
use Rattle.heap.proofs.Laws.{same_frame_used, same_count, same_maker, same_name, same_value, same_text_word, same_text_used, same_text_length}
use Rattle.heap.proofs.Laws.{set_end_local}
use Rattle.heap.proofs.Laws.{set_slot_local, set_slot_is, set_slot_count, set_slot_maker, set_slot_name, set_slot_other}
use Rattle.heap.proofs.Laws.{add_slot_is, add_slot_local, add_slot_count, add_slot_maker, add_slot_name, add_slot_value, add_slot_old_name, add_slot_old_value}
use Rattle.heap.proofs.Laws.{take_frame_local, take_frame_used, take_frame_count, take_frame_maker}
use Rattle.heap.proofs.Laws.{take_text_local, take_text_word, set_byte_other}

-- ---- Reading

module _ (h : List ℕ) where
  pub frames_length : length (frames_held h) ≡ 256
  unfolding frames_held
  frames_length = listed_length (frame_held h) 256

  pub frame_at : (f : ℕ) (d : Frame) → f < 256 → get_or (frames_held h) f d ≡ frame_held h f
  unfolding frames_held
  frame_at f d lt = listed_at (frame_held h) 256 f d lt

  pub frame_past : (f : ℕ) (d : Frame) → 256 ≤ f → get_or (frames_held h) f d ≡ d
  unfolding frames_held
  frame_past f d le = listed_past (frame_held h) 256 f d le

  pub frame_found : (f : ℕ) → f < 256 → get_elem? (frames_held h) f ≡ some (frame_held h f)
  frame_found f lt = elem_at (frames_held h) f (new_frame 0 []) (let l = frames_length in omega arith) ∙ ap some (frame_at f (new_frame 0 []) lt)

  pub frame_of_used : (f : ℕ) → frame_used h f ≡ true → frame_held h f ≡ new_frame (maker_at h f) (slots_held h f)
  unfolding frame_held
  frame_of_used f e = rw e

  pub maker_of_used : (f : ℕ) → f < 256 → frame_used h f ≡ true → maker_in (frames_held h) f ≡ maker_at h f
  unfolding maker_in
  maker_of_used f lt e = ap (λ (g : Frame). g.maker) (frame_at f (new_frame 0 []) lt ∙ frame_of_used f e)

  pub frame_of_free : (f : ℕ) → frame_used h f ≡ false → frame_held h f ≡ new_frame 0 []
  unfolding frame_held
  frame_of_free f e = rw e

  -- the slots of a frame, the bytes of a text
  pub slots_length : (f : ℕ) → length (slots_held h f) ≡ slot_count_at h f
  unfolding slots_held
  slots_length f = listed_length (slot_held h f) (slot_count_at h f)

  pub slot_at : (f i : ℕ) (d : Slot) → i < slot_count_at h f → get_or (slots_held h f) i d ≡ record { name = slot_name_at h f i; value = slot_value_at h f i }
  unfolding slots_held slot_held
  slot_at f i d lt = listed_at (slot_held h f) (slot_count_at h f) i d lt

  -- the numbers in use
  pub frame_counted : (f : ℕ) → (f ∈ frames_in_use h) ↔ FrameInUse h f
  unfolding frames_in_use
  frame_counted f = (
    λ i. let p = passing_means (frame_used h) 256 f i in record { small = p.0; used = p.1 },
    λ u. passing_has (frame_used h) 256 f u.small u.used,
  )

  pub text_counted : (k : ℕ) → (k ∈ texts_in_use h) ↔ TextInUse h k
  unfolding texts_in_use
  text_counted k = (
    λ i. let p = passing_means (text_used h) 256 k i in record { small = p.0; used = p.1 },
    λ u. passing_has (text_used h) 256 k u.small u.used,
  )

  pub frames_once : has_twice (frames_in_use h) ≡ false
  unfolding frames_in_use
  frames_once = passing_once (frame_used h) 256

  pub texts_once : has_twice (texts_in_use h) ≡ false
  unfolding texts_in_use
  texts_once = passing_once (text_used h) 256

  module _ (t : List ℕ) where
    pub texts_length : length (texts_held h t) ≡ 256
    unfolding texts_held
    texts_length = listed_length (text_held h t) 256

    pub text_at : (k : ℕ) (d : List ℕ) → k < 256 → get_or (texts_held h t) k d ≡ text_held h t k
    unfolding texts_held
    text_at k d lt = listed_at (text_held h t) 256 k d lt

    pub text_found : (k : ℕ) → k < 256 → get_elem? (texts_held h t) k ≡ some (text_held h t k)
    text_found k lt = elem_at (texts_held h t) k [] (let l = texts_length in omega arith) ∙ ap some (text_at k [] lt)

-- A value in a slot of a frame in use
pub record InSlot (h : List ℕ) (f : ℕ) (v : Value) : Type 0 where
  pub small : f < 256
  pub used : frame_used h f ≡ true
  pub slot : ℕ
  pub inside : slot < slot_count_at h f
  pub value : slot_value_at h f slot ≡ v

module _ (h : List ℕ) (f : ℕ) where
  pub in_slot_held : {v : Value} → InSlot h f v → Memᴰ v (values_in (frames_held h) f)
  unfolding values_in slot_value slots_held slot_held
  in_slot_held s =
      rw (frame_at h f (new_frame 0 []) s.small, frame_of_used h f s.used, ← s.value)
      (Memᴰ.map slot_value (listed_has (slot_held h f) (slot_count_at h f) s.slot s.inside))

  held_in_slot : (v : Value) (u : Bool) → f < 256 → frame_used h f ≡ u → Memᴰ v (values_in (frames_held h) f) → InSlot h f v
  unfolding values_in slot_value slots_held slot_held
  held_in_slot v true lt e m =
      let a = Memᴰ.of_map slot_value (slots_held h f) (rw (frame_at h f (new_frame 0 []) lt, frame_of_used h f e) at m) in
      let b = listed_from (slot_held h f) (slot_count_at h f) a.1 in
      record { small = lt; used = e; slot = b.0; inside = b.1; value = sym (ap slot_value b.2) ∙ a.2 }
  held_in_slot v false lt e m = absurd (Memᴰ.not-nil (rw (frame_at h f (new_frame 0 []) lt, frame_of_free h f e) at m))

  pub in_slot_from : (v : Value) → Memᴰ v (values_in (frames_held h) f) → InSlot h f v
  unfolding values_in
  in_slot_from v m = go (dec_lt f 256)
    where
      go : Dec (f < 256) → InSlot h f v
      go (yes lt) = held_in_slot v (frame_used h f) lt refl m
      go (no ge) = absurd (Memᴰ.not-nil (rw (frame_past h f (new_frame 0 []) (omega arith)) at m))

-- ---- What is left alone

pub record HeaderIs (h : List ℕ) (s p : Value) (i e : ℕ) : Type 0 where
  pub self_is : self_held h ≡ s
  pub program_is : program_held h ≡ p
  pub position_is : position h ≡ i
  pub end_mark_is : end_mark h ≡ e

abbrev pub SameHeader : List ℕ → List ℕ → Type 0
SameHeader h h' = HeaderIs h' (self_held h) (program_held h) (position h) (end_mark h)

pub record SameFrames (h h' : List ℕ) : Type 0 where
  pub frames : frames_held h' ≡ frames_held h
  pub in_use : frames_in_use h' ≡ frames_in_use h

pub record SameTexts (h h' : List ℕ) : Type 0 where
  pub texts : (t : List ℕ) → texts_held h' t ≡ texts_held h t
  pub in_use : texts_in_use h' ≡ texts_in_use h

slot_same : (h h' : List ℕ) (f i : ℕ) → slot_name_at h' f i ≡ slot_name_at h f i → slot_value_at h' f i ≡ slot_value_at h f i → slot_held h' f i ≡ slot_held h f i
unfolding slot_held
slot_same h h' f i p q = λ t. record { name = p t; value = q t }

pub text_same : (h h' t : List ℕ) (k : ℕ) → text_length h' k ≡ text_length h k → text_held h' t k ≡ text_held h t k
unfolding text_held
text_same h h' t k e = ap (λ (n : ℕ). listed (text_byte t k) n) e

pub used_same : (h h' : List ℕ) → ((g : ℕ) → g < 256 → frame_used h' g ≡ frame_used h g) → frames_in_use h' ≡ frames_in_use h
unfolding frames_in_use
used_same h h' p = passing_same (frame_used h) (frame_used h') 256 p

module _ {h h' : List ℕ} where
  pub slots_same : (g : ℕ) → Same (129 + 51 * g) (179 + 51 * g) h h' → slot_count_at h g ≤ 16 → slots_held h' g ≡ slots_held h g
  unfolding slots_held
  slots_same g s le =
      ap (λ (n : ℕ). listed (slot_held h' g) n) (same_count g s)
      ∙ listed_same (slot_held h g) (slot_held h' g) (slot_count_at h g) (λ i lt. slot_same h h' g i (same_name g s i (omega arith)) (same_value g s i (omega arith)))

  pub frame_same : (g : ℕ) → Same (128 + 51 * g) (179 + 51 * g) h h' → (frame_used h g ≡ true → slot_count_at h g ≤ 16) → frame_held h' g ≡ frame_held h g
  frame_same g s le = go (frame_used h g) refl
    where
      used : frame_used h' g ≡ frame_used h g
      used = same_frame_used g (same_part s _ _ (omega arith) (omega arith))

      go : (b : Bool) → frame_used h g ≡ b → frame_held h' g ≡ frame_held h g
      go true e =
          let b : Same (129 + 51 * g) (179 + 51 * g) h h' = same_part s _ _ (omega arith) (omega arith) in
          frame_of_used h' g (used ∙ e) ∙ ap₂ new_frame (same_maker g b) (slots_same g b (le e)) ∙ sym (frame_of_used h g e)
      go false e = frame_of_free h' g (used ∙ e) ∙ sym (frame_of_free h g e)

  frames_by : Sized h → ((g : ℕ) → g < 256 → Same (128 + 51 * g) (179 + 51 * g) h h') → SameFrames h h'
  unfolding frames_held
  frames_by s p = record {
    frames = listed_same (frame_held h) (frame_held h') 256 (λ g lt. frame_same g (p g lt) (s.slots g lt));
    in_use = used_same h h' (λ g lt. same_frame_used g (same_part (p g lt) _ _ (omega arith) (omega arith)));
  }

  texts_by : ((k : ℕ) → k < 256 → Same (13184 + k) (13185 + k) h h') → SameTexts h h'
  unfolding texts_held texts_in_use
  texts_by p = record {
    texts = λ t. listed_same (text_held h t) (text_held h' t) 256 (λ k lt. text_same h h' t k (same_text_length k (p k lt)));
    in_use = passing_same (text_used h) (text_used h') 256 (λ k lt. same_text_used k (p k lt));
  }

  module _ {a b : ℕ} (l : Local a b h h') where
    -- a change below the frames, or above them
    pub low_frames : Sized h → b ≤ 128 → SameFrames h h'
    low_frames s le = frames_by s (λ g lt. local_same l _ _ (λ k lo hi lo' hi'. omega arith))

    pub high_frames : Sized h → 13184 ≤ a → SameFrames h h'
    high_frames s le = frames_by s (λ g lt. local_same l _ _ (λ k lo hi lo' hi'. omega arith))

    -- a change below the made texts
    pub low_texts : b ≤ 13184 → SameTexts h h'
    low_texts le = texts_by (λ k lt. local_same l _ _ (λ j lo hi lo' hi'. omega arith))

    -- a change above the header
    pub high_header : 6 ≤ a → SameHeader h h'
    high_header le = record {
      self_is = same_self (local_same l 0 2 (λ k lo hi lo' hi'. omega arith));
      program_is = same_program (local_same l 2 4 (λ k lo hi lo' hi'. omega arith));
      position_is = same_position (local_same l 4 5 (λ k lo hi lo' hi'. omega arith));
      end_mark_is = same_end_mark (local_same l 5 6 (λ k lo hi lo' hi'. omega arith));
    }

    -- lengths stay in bounds where no frame and no text changes
    pub low_sized : Sized h → b ≤ 128 → Sized h'
    low_sized s le = record {
      size = l.size ∙ s.size;
      slots = λ f lt u.
          let e = same_count {h = h} {h' = h'} f (local_same l _ _ (λ k lo hi lo' hi'. omega arith)) in
          let q = same_frame_used {h = h} {h' = h'} f (local_same l _ _ (λ k lo hi lo' hi'. omega arith)) in
          rw e (s.slots f lt (sym q ∙ u));
      texts = λ k lt. rw (same_text_word {h = h} {h' = h'} k (local_same l _ _ (λ j lo hi lo' hi'. omega arith))) (s.texts k lt);
    }

-- ---- The header's updaters

module _ (h : List ℕ) (s : Sized h) (p : ℕ) where
  pub set_end_frames : SameFrames h (set_end_mark h p)
  set_end_frames = low_frames (set_end_local h s.size p) s (omega arith)

  pub set_end_texts : SameTexts h (set_end_mark h p)
  set_end_texts = low_texts (set_end_local h s.size p) (omega arith)

-- ---- The updaters of frames

-- h' differs from h inside frame f alone, where it has the frame x
module _ (h h' : List ℕ) (s : Sized h) (f : ℕ) (hf : f < 256) (l : Local (128 + 51 * f) (179 + 51 * f) h h') where
  apart : (g : ℕ) → g ≢ f → Same (128 + 51 * g) (179 + 51 * g) h h'
  apart g ne = local_same l _ _ (λ k lo hi lo' hi'. omega arith)

  pub others_used : (g : ℕ) → g ≢ f → frame_used h' g ≡ frame_used h g
  others_used g ne = same_frame_used g (same_part (apart g ne) _ _ (omega arith) (omega arith))

  frames_with : (x : Frame) → frame_held h' f ≡ x → frames_held h' ≡ set (frames_held h) f x
  unfolding frames_held
  frames_with x e = listed_set (frame_held h) (frame_held h') 256 f x hf e (λ g lt ne. frame_same g (apart g ne) (s.slots g lt))

  frame_sized : (frame_used h' f ≡ true → slot_count_at h' f ≤ 16) → Sized h'
  frame_sized p = record {
    size = l.size ∙ s.size;
    slots = λ g lt. go g lt (ℕ_discrete g f);
    texts = λ k lt. rw (same_text_word {h = h} {h' = h'} k (local_same l _ _ (λ j lo hi lo' hi'. omega arith))) (s.texts k lt);
  }
    where
      go : (g : ℕ) → g < 256 → Dec (g ≡ f) → frame_used h' g ≡ true → slot_count_at h' g ≤ 16
      go g lt (yes e) u = rw e (p (rw e at u))
      go g lt (no ne) u = rw (same_count {h = h} {h' = h'} g (same_part (apart g ne) _ _ (omega arith) (omega arith))) (s.slots g lt (sym (others_used g ne) ∙ u))

  pub kept_texts : SameTexts h h'
  kept_texts = low_texts l (omega arith)

  kept_header : SameHeader h h'
  kept_header = high_header l (omega arith)

-- the frame's own words, its first aside
pub widen : {h h' : List ℕ} (f : ℕ) → Local (129 + 51 * f) (179 + 51 * f) h h' → Local (128 + 51 * f) (179 + 51 * f) h h'
widen f l = record { size = l.size; away = λ k n. l.away k (λ lo hi. n (omega arith) (omega arith)) }

module _ (h h' : List ℕ) (s : Sized h) (f : ℕ) (hf : f < 256) (l : Local (129 + 51 * f) (179 + 51 * f) h h') where
  pub body_used : (g : ℕ) → frame_used h' g ≡ frame_used h g
  body_used g = go (ℕ_discrete g f)
    where
      go : Dec (g ≡ f) → frame_used h' g ≡ frame_used h g
      go (yes e) = same_frame_used g (local_same l _ _ (λ k lo hi lo' hi'. omega arith))
      go (no ne) = others_used h h' s f hf (widen f l) g ne

module _ (h : List ℕ) (s : Sized h) (f : ℕ) (hf : f < 256) (u : frame_used h f ≡ true) where
  few : slot_count_at h f ≤ 16
  few = s.slots f hf u

  -- set_slot_value
  module _ (i : ℕ) (v : Value) (lt : i < slot_count_at h f) where
    set_slot_within : Local (129 + 51 * f) (179 + 51 * f) h (set_slot_value h f i v)
    set_slot_within = set_slot_local h f i v s.size hf (let m = few in omega arith)

    pub set_slot_slots : ValueFits v → slots_held (set_slot_value h f i v) f ≡ set (slots_held h f) i (record { name = slot_name_at h f i; value = v })
    unfolding slots_held slot_held
    set_slot_slots vf =
        let m = few in
        ap (λ (n : ℕ). listed (slot_held (set_slot_value h f i v) f) n) (set_slot_count h f i v s.size hf (omega arith))
        ∙ listed_set (slot_held h f) (slot_held (set_slot_value h f i v) f) (slot_count_at h f) i (record { name = slot_name_at h f i; value = v }) lt
        (at i (set_slot_name h f i v s.size hf (omega arith) i (omega arith)) (set_slot_is h f i v s.size hf (omega arith) vf))
        (λ j jl ne. slot_same h (set_slot_value h f i v) f j (set_slot_name h f i v s.size hf (omega arith) j (omega arith))
        (set_slot_other h f i v s.size hf (omega arith) j (omega arith) ne))
      where
        at : (j : ℕ) → slot_name_at (set_slot_value h f i v) f j ≡ slot_name_at h f i → slot_value_at (set_slot_value h f i v) f j ≡ v
            → slot_held (set_slot_value h f i v) f j ≡ record { name = slot_name_at h f i; value = v }
        at j p q = λ t. record { name = p t; value = q t }

    pub set_slot_frames : ValueFits v → frames_held (set_slot_value h f i v) ≡ set (frames_held h) f (new_frame (maker_at h f) (set (slots_held h f) i (record { name = slot_name_at h f i; value = v })))
    set_slot_frames vf =
        frames_with h _ s f hf (widen f set_slot_within) _
        (let m = few in
        frame_of_used _ f (body_used h _ s f hf set_slot_within f ∙ u)
        ∙ ap₂ new_frame (set_slot_maker h f i v s.size hf (omega arith)) (set_slot_slots vf))

    pub set_slot_in_use : frames_in_use (set_slot_value h f i v) ≡ frames_in_use h
    set_slot_in_use = used_same h _ (λ g lt. body_used h _ s f hf set_slot_within g)

    pub set_slot_texts : SameTexts h (set_slot_value h f i v)
    set_slot_texts = kept_texts h _ s f hf (widen f set_slot_within)

    pub set_slot_header : SameHeader h (set_slot_value h f i v)
    set_slot_header = kept_header h _ s f hf (widen f set_slot_within)

  -- add_slot
  module _ (x : ℕ) (v : Value) (room : slot_count_at h f < 16) where
    abbrev added : List ℕ
    added = add_slot_at h f (slot_count_at h f) x v

    add_within : Local (129 + 51 * f) (179 + 51 * f) h added
    add_within = add_slot_local h f (slot_count_at h f) x v s.size hf room

    pub add_slot_slots : ValueFits v → slots_held (add_slot h f x v) f ≡ slots_held h f ++ (record { name = x; value = v } ∷ [])
    unfolding slots_held listed slot_held
    add_slot_slots vf =
        rw (add_slot_is h f x v room)
        (ap (λ (n : ℕ). listed (slot_held added f) n) (add_slot_count h f (slot_count_at h f) x v s.size hf room ∙ add-one (slot_count_at h f))
        ∙ ap₂ (λ (l : List Slot) (a : Slot). l ++ (a ∷ []))
        (listed_same (slot_held h f) (slot_held added f) (slot_count_at h f) (λ j jl. slot_same h added f j
        (add_slot_old_name h f (slot_count_at h f) x v s.size hf room j jl) (add_slot_old_value h f (slot_count_at h f) x v s.size hf room j jl)))
        (at (add_slot_name h f (slot_count_at h f) x v s.size hf room) (add_slot_value h f (slot_count_at h f) x v s.size hf room vf)))
      where
        at : slot_name_at added f (slot_count_at h f) ≡ x → slot_value_at added f (slot_count_at h f) ≡ v → slot_held added f (slot_count_at h f) ≡ record { name = x; value = v }
        at p q = λ t. record { name = p t; value = q t }

    pub add_slot_frames : ValueFits v → frames_held (add_slot h f x v) ≡ set (frames_held h) f (new_frame (maker_at h f) (slots_held h f ++ (record { name = x; value = v } ∷ [])))
    add_slot_frames vf =
        rw (add_slot_is h f x v room)
        (frames_with h added s f hf (widen f add_within) _
        (frame_of_used added f (body_used h added s f hf add_within f ∙ u)
        ∙ ap₂ new_frame (add_slot_maker h f (slot_count_at h f) x v s.size hf room) (rw (add_slot_is h f x v room) at (add_slot_slots vf))))

    pub add_slot_in_use : frames_in_use (add_slot h f x v) ≡ frames_in_use h
    add_slot_in_use = rw (add_slot_is h f x v room) (used_same h added (λ g lt. body_used h added s f hf add_within g))

    pub add_slot_texts : SameTexts h (add_slot h f x v)
    add_slot_texts = rw (add_slot_is h f x v room) (kept_texts h added s f hf (widen f add_within))

    pub add_slot_header : SameHeader h (add_slot h f x v)
    add_slot_header = rw (add_slot_is h f x v room) (kept_header h added s f hf (widen f add_within))

    pub add_slot_sized : Sized (add_slot h f x v)
    add_slot_sized =
        rw (add_slot_is h f x v room)
        (frame_sized h added s f hf (widen f add_within) (λ q. rw (add_slot_count h f (slot_count_at h f) x v s.size hf room) (omega arith)))

-- take_frame
no_slots : (h : List ℕ) (f : ℕ) → slot_count_at h f ≡ 0 → slots_held h f ≡ []
unfolding slots_held listed
no_slots h f e = rw e

module _ (h : List ℕ) (s : Sized h) (f m : ℕ) (hf : f < 256) where
  take_within : Local (128 + 51 * f) (179 + 51 * f) h (take_frame h f m)
  take_within = take_frame_local h f m s.size hf

  pub take_frame_slots : slots_held (take_frame h f m) f ≡ []
  take_frame_slots = no_slots _ f (take_frame_count h f m s.size hf)

  pub take_frame_frames : frames_held (take_frame h f m) ≡ set (frames_held h) f (new_frame m [])
  take_frame_frames =
      frames_with h _ s f hf take_within (new_frame m []) (frame_of_used _ f (take_frame_used h f m s.size hf) ∙ ap₂ new_frame (take_frame_maker h f m s.size hf) take_frame_slots)

  pub take_frame_others : (g : ℕ) → g ≢ f → frame_used (take_frame h f m) g ≡ frame_used h g
  take_frame_others = others_used h _ s f hf take_within

  pub take_frame_count_one : frame_used h f ≡ false → length (frames_in_use (take_frame h f m)) ≡ suc (length (frames_in_use h))
  unfolding frames_in_use
  take_frame_count_one e = passing_more (frame_used h) (frame_used (take_frame h f m)) 256 f hf e (take_frame_used h f m s.size hf) (λ g lt ne. take_frame_others g ne)

  pub take_frame_texts : SameTexts h (take_frame h f m)
  take_frame_texts = kept_texts h _ s f hf take_within

  pub take_frame_sized : Sized (take_frame h f m)
  take_frame_sized = frame_sized h _ s f hf take_within (λ q. rw (take_frame_count h f m s.size hf) (omega arith))

-- ---- The updaters of made texts

-- h' differs from h in the word of text k alone, which it has w
module _ (h h' : List ℕ) (s : Sized h) (k : ℕ) (hk : k < 256) (l : Local (13184 + k) (13185 + k) h h') where
  text_apart : (j : ℕ) → j ≢ k → Same (13184 + j) (13185 + j) h h'
  text_apart j ne = local_same l _ _ (λ i lo hi lo' hi'. omega arith)

  others_texts : (j : ℕ) → j ≢ k → text_used h' j ≡ text_used h j
  others_texts j ne = same_text_used j (text_apart j ne)

  texts_with : (t x : List ℕ) → text_held h' t k ≡ x → texts_held h' t ≡ set (texts_held h t) k x
  unfolding texts_held
  texts_with t x e = listed_set (text_held h t) (text_held h' t) 256 k x hk e (λ j lt ne. text_same h h' t j (same_text_length j (text_apart j ne)))

  text_sized : text_word h' k ≤ 65 → Sized h'
  text_sized p = record {
    size = l.size ∙ s.size;
    slots = λ f lt u.
        let e = same_count {h = h} {h' = h'} f (local_same l _ _ (λ j lo hi lo' hi'. omega arith)) in
        let q = same_frame_used {h = h} {h' = h'} f (local_same l _ _ (λ j lo hi lo' hi'. omega arith)) in
        rw e (s.slots f lt (sym q ∙ u));
    texts = λ j lt. go j lt (ℕ_discrete j k);
  }
    where
      go : (j : ℕ) → j < 256 → Dec (j ≡ k) → text_word h' j ≤ 65
      go j lt (yes e) = rw e p
      go j lt (no ne) = rw (same_text_word j (text_apart j ne)) (s.texts j lt)

used_word : (h : List ℕ) (k w : ℕ) → text_word h k ≡ w → w ≢ 0 → text_used h k ≡ true
unfolding text_used
used_word h k w e ne = rw (e, ne_eqb w 0 ne)

held_word : (h t : List ℕ) (k n w : ℕ) → text_word h k ≡ w → w - 1 ≡ n → text_held h t k ≡ listed (text_byte t k) n
unfolding text_held text_length
held_word h t k n w e q = rw (e, q)

module _ (h : List ℕ) (s : Sized h) (k : ℕ) (hk : k < 256) where
  module _ (n : ℕ) (hn : n ≤ 64) where
    take_text_within : Local (13184 + k) (13185 + k) h (take_text h k n)
    take_text_within = take_text_local h k s.size hk n hn

    -- the made text k is then the first n of its bytes
    pub take_text_texts : (t : List ℕ) → texts_held (take_text h k n) t ≡ set (texts_held h t) k (listed (text_byte t k) n)
    take_text_texts t = texts_with h _ s k hk take_text_within t _ (held_word _ t k n (n + 1) (take_text_word h k s.size hk n hn) (omega arith))

    pub take_text_used : text_used (take_text h k n) k ≡ true
    take_text_used = used_word _ k (n + 1) (take_text_word h k s.size hk n hn) (omega arith)

    pub take_text_others : (j : ℕ) → j ≢ k → text_used (take_text h k n) j ≡ text_used h j
    take_text_others = others_texts h _ s k hk take_text_within

    pub take_text_count_one : text_used h k ≡ false → length (texts_in_use (take_text h k n)) ≡ suc (length (texts_in_use h))
    unfolding texts_in_use
    take_text_count_one e = passing_more (text_used h) (text_used (take_text h k n)) 256 k hk e take_text_used (λ j lt ne. take_text_others j ne)

    pub take_text_frames : SameFrames h (take_text h k n)
    take_text_frames = high_frames take_text_within s (omega arith)

    pub take_text_sized : Sized (take_text h k n)
    take_text_sized = text_sized h _ s k hk take_text_within (rw (take_text_word h k s.size hk n hn) (omega arith))

-- a byte of a text past its length changes nothing of what is held
module _ (h t : List ℕ) (s : Sized h) (k i b : ℕ) (hk : k < 256) (hi : i < 64) where
  text_at_most : (j : ℕ) → j < 256 → text_length h j ≤ 64
  unfolding text_length
  text_at_most j lt = let m = s.texts j lt in omega arith

  byte_others : (j : ℕ) → j < 256 → j ≢ k → text_held h (set_text_byte t k i b) j ≡ text_held h t j
  unfolding text_held
  byte_others j lt ne =
      listed_same (text_byte t j) (text_byte (set_text_byte t k i b) j) (text_length h j)
      (λ n nl. set_byte_other t k i b j n hi (let m = text_at_most j lt in omega arith) (λ e e'. ne e))

  pub set_byte_past : text_length h k ≤ i → texts_held h (set_text_byte t k i b) ≡ texts_held h t
  unfolding texts_held text_held
  set_byte_past le = listed_same (text_held h t) (text_held h (set_text_byte t k i b)) 256 (λ j lt. go j lt (ℕ_discrete j k))
    where
      here : text_held h (set_text_byte t k i b) k ≡ text_held h t k
      here =
          listed_same (text_byte t k) (text_byte (set_text_byte t k i b) k) (text_length h k)
          (λ n nl. set_byte_other t k i b k n hi (omega arith) (λ e e'. omega arith))

      go : (j : ℕ) → j < 256 → Dec (j ≡ k) → text_held h (set_text_byte t k i b) j ≡ text_held h t j
      go j lt (yes e) = rw e here
      go j lt (no ne) = byte_others j lt ne
