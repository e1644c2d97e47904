-- The updaters keep a state well-formed, each under what it asks of its arguments. Assumes nothing.
use Prim.Native.Nat.{ℕ, suc, ◌+◌, ◌*◌, ◌≤◌, ◌<◌}
use mathlib.Core.Path.{◌≡◌, ◌∙◌, sym}
use mathlib.Core.Logic.{◌≢◌, ◌⊎◌, inl, inr}
use mathlib.Core.List.{List}
use mathlib.Core.Bool.{true, false, true≢false}
use native.Mathlib.Omega.{arith}
use native.Mathlib.Decide.{ℕ_discrete}
use lib.ListN.{length, replicate, length-replicate}
use borrow.Author.Tests.{eqb-true}
use Rattle.words.specs.Words.{word, set_word}
use Rattle.words.proofs.Laws.{set_size, word_other, word_same}
use Rattle.framed.specs.declared.Value.{Value}
use Rattle.framed.specs.Bytes.{string_byte}
use Rattle.heap.specs.Words.{tag_of, number_of, position, end_mark, frame_word, frame_used, slot_count_at, slot_name_at, slot_tag_at, slot_number_at, text_word, text_used, text_length, text_byte}
use Rattle.heap.specs.Words.{set_self, set_program, set_position, set_slot_value, add_slot_at, add_slot, take_frame, take_text, set_text_byte}
use Rattle.heap.specs.Held.{frames_in_use, texts_in_use}
use Rattle.heap.specs.Closed.{FrameInUse, TextInUse, NamesInUse}
use Rattle.heap.proofs.Lists.{zeros_at, passing_none}
use Rattle.heap.proofs.Laws.{frame_word_free, text_word_free}
use Rattle.heap.proofs.Laws.{Local, Same, local_same, same_part, same_position, same_end_mark, same_frame_word, same_frame_used, same_count, same_maker, same_name, same_tag, same_number, same_text_used, same_text_length}
use Rattle.heap.proofs.Laws.{set_self_local, set_program_local, set_position_local, set_position_position}
use Rattle.heap.proofs.Laws.{set_slot_local, set_slot_tag, set_slot_number, set_slot_count, set_slot_maker, set_slot_name, set_slot_other_tag, set_slot_other_number}
use Rattle.heap.proofs.Laws.{add_slot_is, add_slot_local, add_slot_count, add_slot_maker, add_slot_name, add_slot_tag, add_slot_number, add_slot_old_name, add_slot_old_tag, add_slot_old_number}
use Rattle.heap.proofs.Laws.{take_frame_local, take_frame_word, take_frame_used, take_frame_count, take_frame_maker, take_text_local, take_text_word, set_byte_other}
use Rattle.heap.proofs.Held.{low_frames, low_texts, high_frames, used_same, widen, body_used, take_frame_count_one, take_text_used, take_text_count_one}
use Rattle.frame_form.specs.declared.Limits.{Limits}
use Rattle.state_form.specs.Form.{ValueFormed, SlotFormed, FrameFormed, TextFormed, StateWellFormed}
use Rattle.state_form.proofs.Facts.{NamesThere, write_formed, well_formed_sized}

-- ---- Cleared memories: self and program are the integer 0, nothing is in use

zero_word : (k : ℕ) → word (replicate 16384 0) k ≡ 0
unfolding word
zero_word k = zeros_at 16384 k

zero_formed : (h : List ℕ) (l : Limits) (n : ℕ) → ValueFormed h l 0 n
zero_formed h l n = record {
  formed = omega arith;
  literal = λ e. absurd (omega arith);
  made = λ e. absurd (omega arith);
  code = λ e. absurd (omega arith);
  frame = λ e. absurd (omega arith);
}

pub blank_formed : (l : Limits) → StateWellFormed (replicate 16384 0) (replicate 16384 0) l
unfolding frame_word text_word position end_mark frames_in_use texts_in_use
blank_formed l = record {
  heap_size = length-replicate {A = ℕ} 16384 0;
  text_size = length-replicate {A = ℕ} 16384 0;
  self = rw (zero_word 0) (zero_formed (replicate 16384 0) l _);
  program = rw (zero_word 2) (zero_formed (replicate 16384 0) l _);
  flag = λ f lt. inl (zero_word (128 + 51 * f));
  frame = λ f u. absurd (true≢false (sym u.used ∙ no_frame f));
  text = λ k u. absurd (true≢false (sym u.used ∙ no_text k));
  frames_few = omega (arith, passing_none (frame_used (replicate 16384 0)) 256 (λ f lt. no_frame f));
  texts_few = omega (arith, passing_none (text_used (replicate 16384 0)) 256 (λ k lt. no_text k));
  position_there = rw (zero_word 4) (omega arith);
  end = inl (zero_word 5);
}
  where
    no_frame : (f : ℕ) → frame_used (replicate 16384 0) f ≡ false
    no_frame f = frame_word_free (replicate 16384 0) f (zero_word (128 + 51 * f))

    no_text : (k : ℕ) → text_used (replicate 16384 0) k ≡ false
    no_text k = text_word_free (replicate 16384 0) k (zero_word (13184 + k))

-- ---- What stays where everything in use stays in use

record Stays (h h' : List ℕ) : Type 0 where
  frame : (f : ℕ) → FrameInUse h f → FrameInUse h' f
  text : (k : ℕ) → TextInUse h k → TextInUse h' k

value_stays : (h h' : List ℕ) (l : Limits) (tag n : ℕ) → Stays h h' → ValueFormed h l tag n → ValueFormed h' l tag n
value_stays h h' l tag n s v = record {
  formed = v.formed;
  literal = v.literal;
  made = λ e. s.text n (v.made e);
  code = v.code;
  frame = λ e. s.frame n (v.frame e);
}

-- a frame whose slots and maker did not change, where what they name is still there
pub frame_stays : (h h' : List ℕ) (l : Limits) (f : ℕ) → Same (129 + 51 * f) (179 + 51 * f) h h' → FrameFormed h l f
    → ((i : ℕ) → i < slot_count_at h f → ValueFormed h' l (slot_tag_at h f i) (slot_number_at h f i)) → FrameFormed h' l f
frame_stays h h' l f a o v =
    let c : slot_count_at h' f ≡ slot_count_at h f = same_count f a in
    let le : slot_count_at h f ≤ 16 = o.few in
    record {
      few = omega arith;
      maker = rw (same_maker f a) o.maker;
      slot = λ i lt. record {
        named = rw (same_name f a i (omega arith)) (o.slot i (omega arith)).named;
        value = rw (same_tag f a i (omega arith), same_number f a i (omega arith)) (v i (omega arith));
        new = λ j jl. rw (same_name f a i (omega arith), same_name f a j (omega arith)) ((o.slot i (omega arith)).new j jl);
      };
    }

frame_keeps : (h h' : List ℕ) (l : Limits) (f : ℕ) → Stays h h' → Same (129 + 51 * f) (179 + 51 * f) h h' → FrameFormed h l f → FrameFormed h' l f
frame_keeps h h' l f s a o = frame_stays h h' l f a o (λ i lt. value_stays h h' l _ _ s (o.slot i lt).value)

pub text_stays : (h h' t : List ℕ) (k : ℕ) → text_length h' k ≡ text_length h k → TextFormed h t k → TextFormed h' t k
text_stays h h' t k e o =
    let s : text_length h k ≤ 64 = o.short in
    record { short = omega arith; bytes = λ i lt. o.bytes i (omega arith) }

-- ---- A change of the header

module _ (h h' t : List ℕ) (l : Limits) (a b : ℕ) (c : Local a b h h') (low : b ≤ 128) (w : StateWellFormed h t l) where
  header_frame : (f : ℕ) → Same (128 + 51 * f) (179 + 51 * f) h h'
  header_frame f = local_same c _ _ (λ k lo hi lo' hi'. omega arith)

  header_used : (f : ℕ) → frame_used h' f ≡ frame_used h f
  header_used f = same_frame_used f (same_part (header_frame f) _ _ (omega arith) (omega arith))

  header_text : (k : ℕ) → Same (13184 + k) (13185 + k) h h'
  header_text k = local_same c _ _ (λ j lo hi lo' hi'. omega arith)

  header_stays : Stays h h'
  header_stays = record {
    frame = λ f u. record { small = u.small; used = header_used f ∙ u.used };
    text = λ k u. record { small = u.small; used = same_text_used k (header_text k) ∙ u.used };
  }

  header_kept : ValueFormed h l (word h' 0) (word h' 1) → ValueFormed h l (word h' 2) (word h' 3) → position h' ≤ l.instructions
      → (end_mark h' ≡ 0) ⊎ ((31 ≤ end_mark h') × (end_mark h' ≤ 37)) → StateWellFormed h' t l
  header_kept s p i e = record {
    heap_size = c.size ∙ w.heap_size;
    text_size = w.text_size;
    self = value_stays h h' l _ _ header_stays s;
    program = value_stays h h' l _ _ header_stays p;
    flag = λ f lt. rw (same_frame_word f (same_part (header_frame f) _ _ (omega arith) (omega arith))) (w.flag f lt);
    frame = λ f u. frame_keeps h h' l f header_stays (same_part (header_frame f) _ _ (omega arith) (omega arith))
        (w.frame f (record { small = u.small; used = sym (header_used f) ∙ u.used }));
    text = λ k u. text_stays h h' t k (same_text_length k (header_text k)) (w.text k (record { small = u.small; used = sym (same_text_used k (header_text k)) ∙ u.used }));
    frames_few = rw (low_frames c (well_formed_sized w) low).in_use w.frames_few;
    texts_few = rw (low_texts c (omega arith)).in_use w.texts_few;
    position_there = i;
    end = e;
  }

module _ (h t : List ℕ) (l : Limits) (w : StateWellFormed h t l) where
  size : length h ≡ 16384
  size = w.heap_size

  module _ (v : Value) (u : NamesInUse h v) (o : NamesThere l v) where
    tag_first : (k : ℕ) → k + 1 < 16384 → word (set_word (set_word h k (tag_of v)) (k + 1) (number_of v)) k ≡ tag_of v
    tag_first k lt = word_other _ _ _ _ _ (omega arith) (word_same _ _ _ (let s = size in omega arith))

    number_second : (k : ℕ) → k + 1 < 16384 → word (set_word (set_word h k (tag_of v)) (k + 1) (number_of v)) (k + 1) ≡ number_of v
    number_second k lt = word_same _ _ _ (simp set_size (let s = size in omega arith))

    pub set_self_formed : StateWellFormed (set_self h v) t l
    unfolding set_self
    set_self_formed =
        let c = set_self_local h size v in
        header_kept h (set_self h v) t l 0 2 c (omega arith) w
        (rw (tag_first 0 (omega arith), number_second 0 (omega arith)) (write_formed h l v u o))
        (rw (c.away 2 (λ p q. omega arith), c.away 3 (λ p q. omega arith)) w.program)
        (rw (same_position (local_same c 4 5 (λ k lo hi lo' hi'. omega arith))) w.position_there)
        (rw (same_end_mark (local_same c 5 6 (λ k lo hi lo' hi'. omega arith))) w.end)

    pub set_program_formed : StateWellFormed (set_program h v) t l
    unfolding set_program
    set_program_formed =
        let c = set_program_local h size v in
        header_kept h (set_program h v) t l 2 4 c (omega arith) w
        (rw (c.away 0 (λ p q. omega arith), c.away 1 (λ p q. omega arith)) w.self)
        (rw (tag_first 2 (omega arith), number_second 2 (omega arith)) (write_formed h l v u o))
        (rw (same_position (local_same c 4 5 (λ k lo hi lo' hi'. omega arith))) w.position_there)
        (rw (same_end_mark (local_same c 5 6 (λ k lo hi lo' hi'. omega arith))) w.end)

  pub set_position_formed : (p : ℕ) → p ≤ l.instructions → StateWellFormed (set_position h p) t l
  set_position_formed p le =
      let c = set_position_local h size p in
      header_kept h (set_position h p) t l 4 5 c (omega arith) w
      (rw (c.away 0 (λ p q. omega arith), c.away 1 (λ p q. omega arith)) w.self)
      (rw (c.away 2 (λ p q. omega arith), c.away 3 (λ p q. omega arith)) w.program)
      (rw (set_position_position h size p) le)
      (rw (same_end_mark (local_same c 5 6 (λ k lo hi lo' hi'. omega arith))) w.end)

-- ---- A change of one frame, in use afterwards

module _ (h h' t : List ℕ) (l : Limits) (f : ℕ) (hf : f < 256) (c : Local (128 + 51 * f) (179 + 51 * f) h h') (w : StateWellFormed h t l) (one : frame_word h' f ≡ 1)
    (used : frame_used h' f ≡ true) where
  apart : (g : ℕ) → g ≢ f → Same (128 + 51 * g) (179 + 51 * g) h h'
  apart g ne = local_same c _ _ (λ k lo hi lo' hi'. omega arith)

  others : (g : ℕ) → g ≢ f → frame_used h' g ≡ frame_used h g
  others g ne = same_frame_used g (same_part (apart g ne) _ _ (omega arith) (omega arith))

  other_text : (k : ℕ) → Same (13184 + k) (13185 + k) h h'
  other_text k = local_same c _ _ (λ j lo hi lo' hi'. omega arith)

  frames_stay : Stays h h'
  frames_stay = record {
    frame = λ g u. record { small = u.small; used = go g u (ℕ_discrete g f) };
    text = λ k u. record { small = u.small; used = same_text_used k (other_text k) ∙ u.used };
  }
    where
      go : (g : ℕ) → FrameInUse h g → Dec (g ≡ f) → frame_used h' g ≡ true
      go g u (yes e) = rw e used
      go g u (no ne) = others g ne ∙ u.used

  header_word : (k : ℕ) → k < 128 → word h' k ≡ word h k
  header_word k lt = c.away k (λ lo hi. omega arith)

  one_frame_kept : FrameFormed h' l f → length (frames_in_use h') ≤ l.frames → StateWellFormed h' t l
  one_frame_kept form few = record {
    heap_size = c.size ∙ w.heap_size;
    text_size = w.text_size;
    self = rw (header_word 0 (omega arith), header_word 1 (omega arith)) (value_stays h h' l _ _ frames_stay w.self);
    program = rw (header_word 2 (omega arith), header_word 3 (omega arith)) (value_stays h h' l _ _ frames_stay w.program);
    flag = λ g lt. flags g lt (ℕ_discrete g f);
    frame = λ g u. forms g u (ℕ_discrete g f);
    text = λ k u. text_stays h h' t k (same_text_length k (other_text k)) (w.text k (record { small = u.small; used = sym (same_text_used k (other_text k)) ∙ u.used }));
    frames_few = few;
    texts_few = rw (low_texts c (omega arith)).in_use w.texts_few;
    position_there = rw (same_position (local_same c 4 5 (λ k lo hi lo' hi'. omega arith))) w.position_there;
    end = rw (same_end_mark (local_same c 5 6 (λ k lo hi lo' hi'. omega arith))) w.end;
  }
    where
      flags : (g : ℕ) → g < 256 → Dec (g ≡ f) → (frame_word h' g ≡ 0) ⊎ (frame_word h' g ≡ 1)
      flags g lt (yes e) = inr (rw e one)
      flags g lt (no ne) = rw (same_frame_word g (same_part (apart g ne) _ _ (omega arith) (omega arith))) (w.flag g lt)

      forms : (g : ℕ) → FrameInUse h' g → Dec (g ≡ f) → FrameFormed h' l g
      forms g u (yes e) = rw e form
      forms g u (no ne) =
          frame_keeps h h' l g frames_stay (same_part (apart g ne) _ _ (omega arith) (omega arith))
          (w.frame g (record { small = u.small; used = sym (others g ne) ∙ u.used }))

module _ (h t : List ℕ) (l : Limits) (w : StateWellFormed h t l) (f : ℕ) (u : FrameInUse h f) where
  form : FrameFormed h l f
  form = w.frame f u

  -- a frame in use has the word 1
  one_word : frame_word h f ≡ 1
  unfolding frame_used
  one_word = eqb-true _ _ u.used

  module _ (h' : List ℕ) (c : Local (129 + 51 * f) (179 + 51 * f) h h') where
    body_word : frame_word h' f ≡ 1
    body_word = same_frame_word f (local_same c _ _ (λ k lo hi lo' hi'. omega arith)) ∙ one_word

    body_in_use : frame_used h' f ≡ true
    body_in_use = body_used h h' (well_formed_sized w) f u.small c f ∙ u.used

    body_kept : (Stays h h' → FrameFormed h' l f) → StateWellFormed h' t l
    body_kept p =
        one_frame_kept h h' t l f u.small (widen f c) w body_word body_in_use
        (p (frames_stay h h' t l f u.small (widen f c) w body_word body_in_use))
        (rw (used_same h h' (λ g lt. body_used h h' (well_formed_sized w) f u.small c g)) w.frames_few)

  pub set_slot_formed : (i : ℕ) (v : Value) → i < slot_count_at h f → NamesInUse h v → NamesThere l v → StateWellFormed (set_slot_value h f i v) t l
  set_slot_formed i v lt n o = body_kept (set_slot_value h f i v) (set_slot_local h f i v w.heap_size u.small (let m = form.few in omega arith)) made
    where
      made : Stays h (set_slot_value h f i v) → FrameFormed (set_slot_value h f i v) l f
      made s =
          let m : slot_count_at h f ≤ 16 = form.few in
          let c : slot_count_at (set_slot_value h f i v) f ≡ slot_count_at h f = set_slot_count h f i v w.heap_size u.small (omega arith) in
          let nm = set_slot_name h f i v w.heap_size u.small (omega arith) in
          record {
            few = omega arith;
            maker = rw (set_slot_maker h f i v w.heap_size u.small (omega arith)) form.maker;
            slot = λ j jl. record {
              named = rw (nm j (omega arith)) (form.slot j (omega arith)).named;
              value = value_stays h (set_slot_value h f i v) l _ _ s (at j (omega arith) (ℕ_discrete j i));
              new = λ k kl. rw (nm j (omega arith), nm k (omega arith)) ((form.slot j (omega arith)).new k kl);
            };
          }
        where
          at : (j : ℕ) → j < slot_count_at h f → Dec (j ≡ i) → ValueFormed h l (slot_tag_at (set_slot_value h f i v) f j) (slot_number_at (set_slot_value h f i v) f j)
          at j jl (yes e) =
              let m : slot_count_at h f ≤ 16 = form.few in
              rw (e, set_slot_tag h f i v w.heap_size u.small (omega arith), set_slot_number h f i v w.heap_size u.small (omega arith)) (write_formed h l v n o)
          at j jl (no ne) =
              let m : slot_count_at h f ≤ 16 = form.few in
              rw (set_slot_other_tag h f i v w.heap_size u.small (omega arith) j (omega arith) ne, set_slot_other_number h f i v w.heap_size u.small (omega arith) j (omega arith) ne)
              (form.slot j jl).value

  pub add_slot_formed : (x : ℕ) (v : Value) → slot_count_at h f < 16 → x < l.names → ((j : ℕ) → j < slot_count_at h f → slot_name_at h f j ≢ x)
      → NamesInUse h v → NamesThere l v → StateWellFormed (add_slot h f x v) t l
  add_slot_formed x v room named fresh n o =
      rw (add_slot_is h f x v room) (body_kept added (add_slot_local h f (slot_count_at h f) x v w.heap_size u.small room) made)
    where
      added : List ℕ
      added = add_slot_at h f (slot_count_at h f) x v

      old : (j : ℕ) → j < slot_count_at h f → slot_name_at added f j ≡ slot_name_at h f j
      old = add_slot_old_name h f (slot_count_at h f) x v w.heap_size u.small room

      last : slot_name_at added f (slot_count_at h f) ≡ x
      last = add_slot_name h f (slot_count_at h f) x v w.heap_size u.small room

      at : Stays h added → (j : ℕ) → j < slot_count_at h f + 1 → Dec (j ≡ slot_count_at h f) → SlotFormed added l f j
      at s j jl (yes e) = rw e (record {
        named = rw last named;
        value = value_stays h added l _ _ s (rw (add_slot_tag h f (slot_count_at h f) x v w.heap_size u.small room, add_slot_number h f (slot_count_at h f) x v w.heap_size u.small room) (write_formed h l v n o));
        new = λ k kl. rw (last, old k kl) (fresh k kl);
      })
      at s j jl (no ne) =
          let b = form.slot j (omega arith) in
          record {
            named = rw (old j (omega arith)) b.named;
            value = value_stays h added l _ _ s (rw (add_slot_old_tag h f (slot_count_at h f) x v w.heap_size u.small room j (omega arith), add_slot_old_number h f (slot_count_at h f) x v w.heap_size u.small room j (omega arith)) b.value);
            new = λ k kl. rw (old j (omega arith), old k (omega arith)) (b.new k kl);
          }

      made : Stays h added → FrameFormed added l f
      made s =
          let c : slot_count_at added f ≡ slot_count_at h f + 1 = add_slot_count h f (slot_count_at h f) x v w.heap_size u.small room in
          record {
            few = omega arith;
            maker = rw (add_slot_maker h f (slot_count_at h f) x v w.heap_size u.small room) form.maker;
            slot = λ j jl. at s j (omega arith) (ℕ_discrete j (slot_count_at h f));
          }

pub take_frame_formed : (h t : List ℕ) (l : Limits) → StateWellFormed h t l → (f m : ℕ) → f < 256 → m ≤ l.instructions → frame_used h f ≡ false
    → length (frames_in_use h) < l.frames → StateWellFormed (take_frame h f m) t l
take_frame_formed h t l w f m hf made free room =
    one_frame_kept h (take_frame h f m) t l f hf (take_frame_local h f m w.heap_size hf) w (take_frame_word h f m w.heap_size hf) (take_frame_used h f m w.heap_size hf)
    (let c : slot_count_at (take_frame h f m) f ≡ 0 = take_frame_count h f m w.heap_size hf in
    record { few = omega arith; maker = rw (take_frame_maker h f m w.heap_size hf) made; slot = λ i lt. absurd (omega arith) })
    (let c : length (frames_in_use (take_frame h f m)) ≡ suc (length (frames_in_use h)) = take_frame_count_one h (well_formed_sized w) f m hf free in omega arith)

-- ---- A change of one made text

-- bytes past the length of a text are not looked at
pub set_byte_formed : (h t : List ℕ) (l : Limits) → StateWellFormed h t l → (k i b : ℕ) → i < 64 → text_length h k ≤ i → StateWellFormed h (set_text_byte t k i b) l
unfolding set_text_byte
set_byte_formed h t l w k i b hi le = record {
  heap_size = w.heap_size;
  text_size = set_size t _ _ ∙ w.text_size;
  self = w.self;
  program = w.program;
  flag = w.flag;
  frame = w.frame;
  text = λ j u.
      let o = w.text j u in
      record {
        short = o.short;
        bytes = λ n nl.
            let s : text_length h j ≤ 64 = o.short in
            rw (set_byte_other t k i b j n hi (omega arith) (λ e e'. past j n e e' nl)) (o.bytes n nl);
      };
  frames_few = w.frames_few;
  texts_few = w.texts_few;
  position_there = w.position_there;
  end = w.end;
}
  where
    past : (j n : ℕ) → j ≡ k → n ≡ i → n < text_length h j → ⊥
    past j n e e' nl = let q : n < text_length h k = rw e at nl in omega arith

pub take_text_formed : (h t : List ℕ) (l : Limits) → StateWellFormed h t l → (k n : ℕ) → k < 256 → n ≤ 64 → text_used h k ≡ false → length (texts_in_use h) < l.texts
    → ((i : ℕ) → i < n → string_byte (text_byte t k i) ≡ true) → StateWellFormed (take_text h k n) t l
unfolding text_length
take_text_formed h t l w k n hk hn free room bytes = record {
  heap_size = c.size ∙ w.heap_size;
  text_size = w.text_size;
  self = rw (c.away 0 (λ lo hi. omega arith), c.away 1 (λ lo hi. omega arith)) (value_stays h after l _ _ stays w.self);
  program = rw (c.away 2 (λ lo hi. omega arith), c.away 3 (λ lo hi. omega arith)) (value_stays h after l _ _ stays w.program);
  flag = λ f lt. rw (same_frame_word f (same_part (frame f lt) _ _ (omega arith) (omega arith))) (w.flag f lt);
  frame = λ f u. frame_keeps h after l f stays (same_part (frame f u.small) _ _ (omega arith) (omega arith)) (w.frame f (record { small = u.small; used = sym (used f u.small) ∙ u.used }));
  text = λ j u. at j u (ℕ_discrete j k);
  frames_few = rw (high_frames c (well_formed_sized w) (omega arith)).in_use w.frames_few;
  texts_few = let e : length (texts_in_use after) ≡ suc (length (texts_in_use h)) = take_text_count_one h (well_formed_sized w) k hk n hn free in omega arith;
  position_there = rw (same_position (local_same c 4 5 (λ k lo hi lo' hi'. omega arith))) w.position_there;
  end = rw (same_end_mark (local_same c 5 6 (λ k lo hi lo' hi'. omega arith))) w.end;
}
  where
    after : List ℕ
    after = take_text h k n

    c : Local (13184 + k) (13185 + k) h after
    c = take_text_local h k w.heap_size hk n hn

    frame : (f : ℕ) → f < 256 → Same (128 + 51 * f) (179 + 51 * f) h after
    frame f lt = local_same c _ _ (λ j lo hi lo' hi'. omega arith)

    used : (f : ℕ) → f < 256 → frame_used after f ≡ frame_used h f
    used f lt = same_frame_used f (same_part (frame f lt) _ _ (omega arith) (omega arith))

    other : (j : ℕ) → j ≢ k → Same (13184 + j) (13185 + j) h after
    other j ne = local_same c _ _ (λ i lo hi lo' hi'. omega arith)

    still : (j : ℕ) → TextInUse h j → Dec (j ≡ k) → text_used after j ≡ true
    still j u (yes e) = rw e (take_text_used h (well_formed_sized w) k hk n hn)
    still j u (no ne) = same_text_used j (other j ne) ∙ u.used

    stays : Stays h after
    stays = record {
      frame = λ f u. record { small = u.small; used = used f u.small ∙ u.used };
      text = λ j u. record { small = u.small; used = still j u (ℕ_discrete j k) };
    }

    word_is : text_word after k ≡ n + 1
    word_is = take_text_word h k w.heap_size hk n hn

    at : (j : ℕ) → TextInUse after j → Dec (j ≡ k) → TextFormed after t j
    at j u (yes e) = rw e (let q = word_is in record { short = omega arith; bytes = λ i lt. bytes i (omega arith) })
    at j u (no ne) = text_stays h after t j (same_text_length j (other j ne)) (w.text j (record { small = u.small; used = sym (same_text_used j (other j ne)) ∙ u.used }))
