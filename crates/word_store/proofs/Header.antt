-- The header aside: what heap words hold does not depend on it, and every updater of frames and texts, and a collection, leaves it aside. Assumes nothing.
use Prim.Native.Nat.{ℕ, zero, suc, ◌+◌, ◌*◌, ◌≤◌, ◌<◌}
use mathlib.Core.Path.{◌≡◌, refl, ◌∙◌, ap, ap₂, sym}
use mathlib.Core.Logic.{◌≢◌}
use mathlib.Core.List.{List, []}
use mathlib.Core.Bool.{Bool, true, false}
use native.Mathlib.Omega.{arith}
use native.Mathlib.Decide.{ℕ_discrete, dec_lt}
use lib.ListN.{length, get_or}
use lib.Seq.{set_comm, ext_get_or}
use lib.Dec.{leb, ltb}
use Rattle.std.specs.Prelude.{Option, Some, None}
use Rattle.words.specs.Words.{pick, word, set_word}
use Rattle.words.proofs.Laws.{set_size, word_other, word_same}
use Rattle.framed.specs.declared.Value.{Value}
use Rattle.framed.specs.Values.{new_frame}
use Rattle.heap.specs.Words.{value_of, number_of, self_held, program_held, frame_word, frame_used, slot_count_at, maker_at, slot_name_at, slot_tag_at, slot_number_at, slot_value_at, text_word, text_used}
use Rattle.heap.specs.Words.{set_self, set_program, set_slot_value, add_slot_at, add_slot, take_frame, free_frame, take_text, free_text}
use Rattle.heap.specs.Lists.{listed}
use Rattle.heap.specs.Held.{slot_held, slots_held, frame_held, text_held, frames_held, texts_held, heap_held}
use Rattle.heap.specs.Closed.{ValueFits}
use Rattle.heap.proofs.Lists.{listed_same}
use Rattle.heap.proofs.Laws.{Local, local_trans, local_set, local_same, frame_used_word, text_used_word, text_length_word, same_self}
use Rattle.heap.proofs.Laws.{set_self_local, set_self_self, set_program_local, set_program_program, self_fits, program_fits}
use Rattle.heap.proofs.Held.{text_same}
use Rattle.allocation.specs.Allocation.{lowest_from, next_frame, next_text, view_held}
use Rattle.mark.specs.declared.Work.{Work}
use Rattle.mark.specs.Mark.{visit_value, visit_from, visit_all, mark_queue, mark_roots, blank, mark_all}
use Rattle.collector.specs.Collect.{frame_unmarked, text_unmarked, sweep_from, sweep_frames, sweep_texts, swept, collect_heap}
use Rattle.paths.specs.Paths.{slot_from}
use Rattle.puts.specs.Puts.{put_found, put_slot}
use Rattle.word_store.specs.Store.{clear_header, rooted, claim_frame, collect_rooted}

-- ---- A change below the frames: what the words hold stays

module _ {a b : ℕ} {h h' : List ℕ} (c : Local a b h h') (low : b ≤ 128) where
  low_word : (k : ℕ) → 128 ≤ k → word h' k ≡ word h k
  low_word k le = c.away k (λ lo hi. omega arith)

  pub low_frame_word : (f : ℕ) → frame_word h' f ≡ frame_word h f
  unfolding frame_word
  low_frame_word f = low_word (128 + 51 * f) (omega arith)

  pub low_frame_used : (f : ℕ) → frame_used h' f ≡ frame_used h f
  low_frame_used f = frame_used_word h h' f (low_frame_word f)

  pub low_count : (f : ℕ) → slot_count_at h' f ≡ slot_count_at h f
  unfolding slot_count_at
  low_count f = low_word (129 + 51 * f) (omega arith)

  pub low_maker : (f : ℕ) → maker_at h' f ≡ maker_at h f
  unfolding maker_at
  low_maker f = low_word (130 + 51 * f) (omega arith)

  pub low_name : (f i : ℕ) → slot_name_at h' f i ≡ slot_name_at h f i
  unfolding slot_name_at
  low_name f i = low_word (131 + 51 * f + 3 * i) (omega arith)

  pub low_tag : (f i : ℕ) → slot_tag_at h' f i ≡ slot_tag_at h f i
  unfolding slot_tag_at
  low_tag f i = low_word (132 + 51 * f + 3 * i) (omega arith)

  pub low_number : (f i : ℕ) → slot_number_at h' f i ≡ slot_number_at h f i
  unfolding slot_number_at
  low_number f i = low_word (133 + 51 * f + 3 * i) (omega arith)

  low_value : (f i : ℕ) → slot_value_at h' f i ≡ slot_value_at h f i
  unfolding slot_value_at
  low_value f i = ap₂ value_of (low_tag f i) (low_number f i)

  pub low_text_word : (k : ℕ) → text_word h' k ≡ text_word h k
  unfolding text_word
  low_text_word k = low_word (13184 + k) (omega arith)

  pub low_text_used : (k : ℕ) → text_used h' k ≡ text_used h k
  low_text_used k = text_used_word h h' k (low_text_word k)

  pub low_slots : (f : ℕ) → slots_held h' f ≡ slots_held h f
  unfolding slots_held slot_held
  low_slots f =
      ap (λ (n : ℕ). listed (slot_held h' f) n) (low_count f)
      ∙ listed_same (slot_held h f) (slot_held h' f) (slot_count_at h f) (λ i lt t. record { name = low_name f i t; value = low_value f i t })

  pub low_view : (t : List ℕ) → view_held h' t ≡ view_held h t
  unfolding view_held heap_held frames_held texts_held frame_held
  low_view t =
      λ i. record {
        heap = record { frames = frames i; texts = texts i };
        uses_frame = λ f. low_frame_used f i;
        uses_text = λ k. low_text_used k i;
      }
    where
      frames : frames_held h' ≡ frames_held h
      frames = listed_same (frame_held h) (frame_held h') 256 (λ f lt i. new_frame (pick (low_frame_used f i) (low_maker f i) 0) (pick (low_frame_used f i) (low_slots f i) []))

      texts : texts_held h' t ≡ texts_held h t
      texts = listed_same (text_held h t) (text_held h' t) 256 (λ k lt. text_same h h' t k (text_length_word h h' k (low_text_word k)))

  pub low_next_frame : next_frame h' ≡ next_frame h
  unfolding next_frame
  low_next_frame = λ i. lowest_from (λ f. low_frame_used f i) 256 0

  pub low_next_text : next_text h' ≡ next_text h
  unfolding next_text
  low_next_text = λ i. lowest_from (λ k. low_text_used k i) 256 0

-- ---- The cleared header

pub clear_local : (h : List ℕ) → Local 0 6 h (clear_header h)
unfolding clear_header
clear_local h = clears h 0 (omega arith) (clears _ 1 (omega arith) (clears _ 2 (omega arith) (clears _ 3 (omega arith) (clears _ 4 (omega arith) (local_set 0 6 _ 5 0 (omega arith) (omega arith))))))
  where
    clears : (l : List ℕ) (k : ℕ) {l' : List ℕ} → k < 6 → Local 0 6 (set_word l k 0) l' → Local 0 6 l l'
    clears l k lt r = local_trans (local_set 0 6 l k 0 (omega arith) lt) r

within : {a b : ℕ} {h h' : List ℕ} → Local a b h h' → b ≤ 6 → Local 0 6 h h'
within c le = record { size = c.size; away = λ k n. c.away k (λ lo hi. n (omega arith) (omega arith)) }

pub clear_size : (h : List ℕ) → length (clear_header h) ≡ length h
clear_size h = (clear_local h).size

pub clear_word : (h : List ℕ) (k : ℕ) → length h ≡ 16384 → k < 6 → word (clear_header h) k ≡ 0
unfolding clear_header
clear_word h k size lt = at (set_word (set_word (set_word (set_word (set_word h 0 0) 1 0) 2 0) 3 0) 4 0) 5 (simp set_size (omega arith)) (λ n5.
    at (set_word (set_word (set_word (set_word h 0 0) 1 0) 2 0) 3 0) 4 (simp set_size (omega arith)) (λ n4.
    at (set_word (set_word (set_word h 0 0) 1 0) 2 0) 3 (simp set_size (omega arith)) (λ n3.
    at (set_word (set_word h 0 0) 1 0) 2 (simp set_size (omega arith)) (λ n2.
    at (set_word h 0 0) 1 (simp set_size (omega arith)) (λ n1.
    at h 0 (omega arith) (λ n0. absurd (omega arith)))))))
  where
    at : (l : List ℕ) (j : ℕ) → j < length l → (k ≢ j → word l k ≡ 0) → word (set_word l j 0) k ≡ 0
    at l j jl r = go (ℕ_discrete k j)
      where
        go : Dec (k ≡ j) → word (set_word l j 0) k ≡ 0
        go (yes e) = rw e (word_same l j 0 jl)
        go (no ne) = word_other l j k 0 0 ne (r ne)

words_same : (h h' : List ℕ) → length h' ≡ length h → ((k : ℕ) → word h' k ≡ word h k) → h' ≡ h
unfolding word
words_same h h' e p = ext_get_or 0 h' h e (λ k lt. p k)

-- a change of the header alone
pub clear_low : {a b : ℕ} {h h' : List ℕ} → Local a b h h' → b ≤ 6 → length h ≡ 16384 → clear_header h' ≡ clear_header h
clear_low {h = h} {h' = h'} c low size =
    words_same (clear_header h) (clear_header h') (clear_size h' ∙ c.size ∙ sym (clear_size h)) (λ k. go k (dec_lt k 6))
  where
    go : (k : ℕ) → Dec (k < 6) → word (clear_header h') k ≡ word (clear_header h) k
    go k (yes lt) = clear_word h' k (c.size ∙ size) lt ∙ sym (clear_word h k size lt)
    go k (no ge) = (clear_local h').away k (λ lo hi. ge hi) ∙ c.away k (λ lo hi. omega arith) ∙ sym ((clear_local h).away k (λ lo hi. ge hi))

pub clear_twice : (h : List ℕ) → length h ≡ 16384 → clear_header (clear_header h) ≡ clear_header h
clear_twice h size = clear_low (clear_local h) (omega arith) size

-- a word past the header
set_apart : (l : List ℕ) (k i x y : ℕ) → k ≢ i → set_word (set_word l k x) i y ≡ set_word (set_word l i y) k x
unfolding set_word
set_apart l k i x y ne = set_comm l k i x y ne

clear_set : (h : List ℕ) (k x : ℕ) → 6 ≤ k → clear_header (set_word h k x) ≡ set_word (clear_header h) k x
unfolding clear_header
clear_set h k x le =
    past _ _ 5 (omega arith) (past _ _ 4 (omega arith) (past _ _ 3 (omega arith) (past _ _ 2 (omega arith) (past _ _ 1 (omega arith) (past _ _ 0 (omega arith) refl)))))
  where
    past : (l l' : List ℕ) (i : ℕ) → i < 6 → l ≡ set_word l' k x → set_word l i 0 ≡ set_word (set_word l' i 0) k x
    past l l' i lt e = ap (λ (m : List ℕ). set_word m i 0) e ∙ set_apart l' k i x 0 (omega arith)

-- ---- The updaters of frames and texts

module _ (h : List ℕ) where
  pub clear_take_frame : (f m : ℕ) → clear_header (take_frame h f m) ≡ take_frame (clear_header h) f m
  unfolding take_frame
  clear_take_frame f m =
      clear_set _ _ _ (omega arith)
      ∙ ap (λ (l : List ℕ). set_word l (130 + 51 * f) m) (clear_set _ _ _ (omega arith) ∙ ap (λ (l : List ℕ). set_word l (129 + 51 * f) 0) (clear_set h _ _ (omega arith)))

  pub clear_claim_frame : (m : ℕ) → clear_header (claim_frame h m) ≡ claim_frame (clear_header h) m
  unfolding claim_frame
  clear_claim_frame m = clear_take_frame (next_frame h) m ∙ ap (λ (f : ℕ). take_frame (clear_header h) f m) (sym (low_next_frame (clear_local h) (omega arith)))

  pub clear_set_slot : (f i : ℕ) (v : Value) → clear_header (set_slot_value h f i v) ≡ set_slot_value (clear_header h) f i v
  unfolding set_slot_value
  clear_set_slot f i v = clear_set _ _ _ (omega arith) ∙ ap (λ (l : List ℕ). set_word l (133 + 51 * f + 3 * i) (number_of v)) (clear_set h _ _ (omega arith))

  pub clear_take_text : (k n : ℕ) → clear_header (take_text h k n) ≡ take_text (clear_header h) k n
  unfolding take_text
  clear_take_text k n = go (ltb 64 n)
    where
      go : (b : Bool) → clear_header (pick b h (set_word h (13184 + k) (n + 1))) ≡ pick b (clear_header h) (set_word (clear_header h) (13184 + k) (n + 1))
      go true = refl
      go false = clear_set h (13184 + k) (n + 1) (omega arith)

  pub clear_free_frame : (f : ℕ) → clear_header (free_frame h f) ≡ free_frame (clear_header h) f
  unfolding free_frame
  clear_free_frame f = clear_set h _ _ (omega arith)

  pub clear_free_text : (k : ℕ) → clear_header (free_text h k) ≡ free_text (clear_header h) k
  unfolding free_text
  clear_free_text k = clear_set h _ _ (omega arith)

module _ (h : List ℕ) (f x : ℕ) (v : Value) where
  clear_add_at : (n : ℕ) → clear_header (add_slot_at h f n x v) ≡ add_slot_at (clear_header h) f n x v
  unfolding add_slot_at
  clear_add_at n =
      clear_set _ _ _ (omega arith)
      ∙ ap (λ (l : List ℕ). set_word l (129 + 51 * f) (n + 1)) (clear_set_slot _ f n v ∙ ap (λ (l : List ℕ). set_slot_value l f n v) (clear_set h _ _ (omega arith)))

  pub clear_add_slot : clear_header (add_slot h f x v) ≡ add_slot (clear_header h) f x v
  unfolding add_slot
  clear_add_slot = rw (low_count (clear_local h) (omega arith) f) (go (leb 16 (slot_count_at h f)))
    where
      go : (b : Bool) → clear_header (pick b h (add_slot_at h f (slot_count_at h f) x v)) ≡ pick b (clear_header h) (add_slot_at (clear_header h) f (slot_count_at h f) x v)
      go true = refl
      go false = clear_add_at (slot_count_at h f)

  pub clear_put_slot : clear_header (put_slot h f x v) ≡ put_slot (clear_header h) f x v
  unfolding put_slot
  clear_put_slot = rw (low_slots (clear_local h) (omega arith) f) (go (slot_from (slots_held h f) x 0))
    where
      go : (r : Option ℕ) → clear_header (put_found h f x v r) ≡ put_found (clear_header h) f x v r
      go (Some i) = clear_set_slot h f i v
      go None = clear_add_slot

-- ---- A collection

module _ (free : List ℕ → ℕ → List ℕ) (off : ℕ → Bool) (clear_free : (h : List ℕ) (i : ℕ) → clear_header (free h i) ≡ free (clear_header h) i) where
  clear_sweep : (n i : ℕ) (h : List ℕ) → clear_header (sweep_from free off n i h) ≡ sweep_from free off n i (clear_header h)
  unfolding sweep_from
  clear_sweep zero i h = refl
  clear_sweep (suc n) i h = clear_sweep n (i + 1) _ ∙ ap (sweep_from free off n (i + 1)) (go (off i))
    where
      go : (b : Bool) → clear_header (pick b (free h i) h) ≡ pick b (free (clear_header h) i) (clear_header h)
      go true = clear_free h i
      go false = refl

clear_swept : (m h : List ℕ) → clear_header (swept m h) ≡ swept m (clear_header h)
unfolding swept sweep_texts sweep_frames
clear_swept m h =
    clear_sweep free_text (text_unmarked m) clear_free_text 256 0 _
    ∙ ap (sweep_from free_text (text_unmarked m) 256 0) (clear_sweep free_frame (frame_unmarked m) clear_free_frame 256 0 h)

-- marking reads self, program and the slots
module _ (h h' : List ℕ) (count : (g : ℕ) → slot_count_at h' g ≡ slot_count_at h g) (value : (g i : ℕ) → slot_value_at h' g i ≡ slot_value_at h g i) where
  visit_same : (g n i : ℕ) (w : Work) → visit_from h' g n i w ≡ visit_from h g n i w
  unfolding visit_from
  visit_same g zero i w = refl
  visit_same g (suc n) i w = rw (value g i) (visit_same g n (i + 1) (visit_value (slot_value_at h g i) w))

  visit_all_same : (g : ℕ) (w : Work) → visit_all h' g w ≡ visit_all h g w
  unfolding visit_all
  visit_all_same g w = rw (count g) (visit_same g (slot_count_at h g) 0 w)

  queue_same : (n k : ℕ) (w : Work) → mark_queue h' n k w ≡ mark_queue h n k w
  unfolding mark_queue
  queue_same zero k w = refl
  queue_same (suc n) k w =
      ap (λ (r : Work). pick (ltb k w.tail) r w)
      (ap (mark_queue h' n (k + 1)) (visit_all_same (get_or w.order k 0) w) ∙ queue_same n (k + 1) (visit_all h (get_or w.order k 0) w))

  mark_same : self_held h' ≡ self_held h → program_held h' ≡ program_held h → mark_all h' ≡ mark_all h
  unfolding mark_all mark_roots
  mark_same s p =
      ap₂ (λ (v u : Value). (mark_queue h' 256 0 (visit_value u (visit_value v blank))).marks) s p
      ∙ ap (λ (w : Work). w.marks) (queue_same 256 0 (mark_roots h blank))

module _ (h : List ℕ) (size : length h ≡ 16384) where
  module _ (Σ Π : Value) where
    pub self_in : Local 0 6 h (set_self (clear_header h) Σ)
    self_in = local_trans (clear_local h) (within (set_self_local (clear_header h) (clear_size h ∙ size) Σ) (omega arith))

    self_size : length (set_self (clear_header h) Σ) ≡ 16384
    self_size = self_in.size ∙ size

    pub rooted_local : Local 0 6 h (rooted h Σ Π)
    unfolding rooted
    rooted_local = local_trans self_in (within (set_program_local (set_self (clear_header h) Σ) self_size Π) (omega arith))

    pub rooted_self : ValueFits Σ → self_held (rooted h Σ Π) ≡ Σ
    unfolding rooted
    rooted_self f =
        same_self (local_same (set_program_local (set_self (clear_header h) Σ) self_size Π) 0 2 (λ k lo hi lo' hi'. omega arith))
        ∙ set_self_self (clear_header h) (clear_size h ∙ size) Σ f

    pub rooted_program : ValueFits Π → program_held (rooted h Σ Π) ≡ Π
    unfolding rooted
    rooted_program f = set_program_program (set_self (clear_header h) Σ) self_size Π f

    -- whatever the header was
    pub rooted_clear : rooted (clear_header h) Σ Π ≡ rooted h Σ Π
    unfolding rooted
    rooted_clear = ap (λ (l : List ℕ). set_program (set_self l Σ) Π) (clear_twice h size)

  -- a collection of the words is one of the store
  pub clear_collect : clear_header (collect_heap h).words ≡ collect_rooted (clear_header h) (self_held h) (program_held h)
  unfolding collect_rooted collect_heap
  clear_collect =
      let c = rooted_local (self_held h) (program_held h) in
      clear_swept (mark_all h) h
      ∙ ap₂ swept
      (sym (mark_same h (rooted h (self_held h) (program_held h)) (low_count c (omega arith)) (low_value c (omega arith))
      (rooted_self (self_held h) (program_held h) (self_fits h)) (rooted_program (self_held h) (program_held h) (program_fits h))))
      (sym (clear_low c (omega arith) size))
      ∙ sym (clear_swept (mark_all (rooted h (self_held h) (program_held h))) (rooted h (self_held h) (program_held h)))
      ∙ ap (λ (l : List ℕ). clear_header (swept (mark_all l) l)) (sym (rooted_clear (self_held h) (program_held h)))
