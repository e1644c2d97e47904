-- The state that the words hold after each updater. Assumes nothing.
use Prim.Native.Nat.{ℕ, zero, suc, ◌+◌, ◌≤◌}
use mathlib.Core.Path.{◌≡◌, refl, ◌∙◌, ap, sym}
use mathlib.Core.List.{List}
use mathlib.Core.Bool.{Bool, true, false}
use native.Mathlib.Omega.{arith}
use lib.ListN.{length}
use lib.Dec.{leb, ltb}
use Rattle.std.specs.Prelude.{Option, Some, None}
use Rattle.words.specs.Words.{pick, set_word}
use Rattle.words.proofs.Laws.{word_other, word_same}
use Rattle.framed.specs.declared.Value.{Value}
use Rattle.framed.specs.declared.Text.{Text}
use Rattle.framed.specs.Tree.{Code}
use Rattle.framed.specs.Paths.{Path}
use Rattle.heap.specs.Words.{tag_of, number_of, self_held, program_held, position, end_mark, slot_count_at, set_self, set_program, set_position, set_end_mark, set_slot_value, add_slot_at, add_slot, take_frame, free_frame, take_text, free_text}
use Rattle.heap.specs.Held.{slots_held}
use Rattle.heap.specs.Closed.{ValueFits}
use Rattle.heap.proofs.Laws.{Local, Same, local_same, same_part, same_self, same_program, same_position, same_end_mark}
use Rattle.heap.proofs.Laws.{set_self_local, set_self_self, set_program_local, set_program_program, set_position_local, set_position_position, set_end_local, set_end_end}
use Rattle.heap.proofs.Held.{used_same, low_texts}
use Rattle.allocation.specs.Allocation.{next_frame, next_text}
use Rattle.paths.specs.Paths.{slot_from}
use Rattle.puts.specs.Puts.{put_found, put_slot}
use Rattle.mark.specs.Mark.{mark_all}
use Rattle.collector.specs.Collect.{frame_unmarked, text_unmarked, sweep_from, sweep_frames, sweep_texts, swept, collect_heap}
use Rattle.frame_form.specs.declared.Limits.{Limits}
use Rattle.bounded.specs.Bounded.{Bounded, over_store, with_mark, collected}
use Rattle.word_store.specs.Store.{Memories, memories, clear_header, claim_frame, write_text, claim_text, word_store}
use Rattle.word_store.specs.State.{store_held, state_held, with_self, with_program, with_remaining, HeldRead, HeldAfter, HeaderFormed, HeaderAfter}
use Rattle.word_store.proofs.Header.{low_frame_used, low_view, low_next_frame, low_next_text, clear_local, clear_low, clear_claim_frame, clear_add_slot, clear_put_slot, clear_take_text, clear_collect}

-- ---- The header after the updaters of frames and texts

abbrev pub KeepsHeader : List ℕ → List ℕ → Type 0
KeepsHeader h h' = Same 0 6 h h'

pub keeps_all : (h : List ℕ) → KeepsHeader h h
keeps_all h = record { agree = λ k lo hi. refl }

keeps_set : {h h' : List ℕ} → KeepsHeader h h' → (k x : ℕ) → 6 ≤ k → KeepsHeader h (set_word h' k x)
keeps_set s k x le = record { agree = λ j lo hi. word_other _ _ _ _ _ (omega arith) (s.agree j lo hi) }

pub keeps_claim : (h : List ℕ) (m : ℕ) → KeepsHeader h (claim_frame h m)
unfolding claim_frame take_frame
keeps_claim h m = keeps_set (keeps_set (keeps_set (keeps_all h) _ _ (omega arith)) _ _ (omega arith)) _ _ (omega arith)

module _ {h h' : List ℕ} (s : KeepsHeader h h') where
  keeps_slot : (f i : ℕ) (v : Value) → KeepsHeader h (set_slot_value h' f i v)
  unfolding set_slot_value
  keeps_slot f i v = keeps_set (keeps_set s _ _ (omega arith)) _ _ (omega arith)

  keeps_free_frame : (f : ℕ) → KeepsHeader h (free_frame h' f)
  unfolding free_frame
  keeps_free_frame f = keeps_set s _ _ (omega arith)

  keeps_free_text : (k : ℕ) → KeepsHeader h (free_text h' k)
  unfolding free_text
  keeps_free_text k = keeps_set s _ _ (omega arith)

pub keeps_pick : {h a b : List ℕ} (c : Bool) → KeepsHeader h a → KeepsHeader h b → KeepsHeader h (pick c a b)
keeps_pick true p q = p
keeps_pick false p q = q

module _ (h : List ℕ) where
  pub keeps_add : (f x : ℕ) (v : Value) → KeepsHeader h (add_slot h f x v)
  unfolding add_slot add_slot_at
  keeps_add f x v =
      keeps_pick (leb 16 (slot_count_at h f)) (keeps_all h)
      (keeps_set (keeps_slot (keeps_set (keeps_all h) _ _ (omega arith)) f (slot_count_at h f) v) _ _ (omega arith))

  pub keeps_put : (f x : ℕ) (v : Value) → KeepsHeader h (put_slot h f x v)
  unfolding put_slot
  keeps_put f x v = go (slot_from (slots_held h f) x 0)
    where
      go : (r : Option ℕ) → KeepsHeader h (put_found h f x v r)
      go (Some i) = keeps_slot (keeps_all h) f i v
      go None = keeps_add f x v

  pub keeps_text : (k n : ℕ) → KeepsHeader h (take_text h k n)
  unfolding take_text
  keeps_text k n = keeps_pick (ltb 64 n) (keeps_all h) (keeps_set (keeps_all h) _ _ (omega arith))

  keeps_sweep : (free : List ℕ → ℕ → List ℕ) (off : ℕ → Bool) → ((h' : List ℕ) (i : ℕ) → KeepsHeader h h' → KeepsHeader h (free h' i)) →
      (n i : ℕ) (h' : List ℕ) → KeepsHeader h h' → KeepsHeader h (sweep_from free off n i h')
  unfolding sweep_from
  keeps_sweep free off p zero i h' s = s
  keeps_sweep free off p (suc n) i h' s = keeps_sweep free off p n (i + 1) _ (keeps_pick (off i) (p h' i s) s)

  pub keeps_collect : KeepsHeader h (collect_heap h).words
  unfolding collect_heap swept sweep_texts sweep_frames
  keeps_collect =
      keeps_sweep free_text (text_unmarked (mark_all h)) (λ h' i s. keeps_free_text s i) 256 0 _
      (keeps_sweep free_frame (frame_unmarked (mark_all h)) (λ h' i s. keeps_free_frame s i) 256 0 h (keeps_all h))

-- ---- The state held

module _ (remaining_from : ℕ → Code Path) (h t : List ℕ) where
  pub held_read : HeldRead remaining_from h t
  unfolding state_held store_held
  held_read = record {
    view = low_view (clear_local h) (omega arith) t;
    next_frame = low_next_frame (clear_local h) (omega arith);
    next_text = low_next_text (clear_local h) (omega arith);
    frame_count = ap length (used_same h (clear_header h) (λ g lt. low_frame_used (clear_local h) (omega arith) g));
    text_count = ap length (low_texts (clear_local h) (omega arith)).in_use;
  }

  -- the parts of the state, one by one
  state_is : (h' t' : List ℕ) {s : Memories} {v u : Value} {n e : ℕ} → store_held h' t' ≡ s → self_held h' ≡ v → program_held h' ≡ u →
      position h' ≡ n → end_mark h' ≡ e →
      ◌≡◌ {A = Bounded Memories} (state_held remaining_from h' t') (record { store = s; self = v; program = u; remaining = remaining_from n; next = n; end_mark = e })
  unfolding state_held
  state_is h' t' a b c d f = λ i. record { store = a i; self = b i; program = c i; remaining = remaining_from (d i); next = d i; end_mark = f i }

  -- another store under the same header
  over : (h' t' : List ℕ) → KeepsHeader h h' → {s : Memories} → store_held h' t' ≡ s → state_held remaining_from h' t' ≡ over_store (state_held remaining_from h t) s
  unfolding state_held
  over h' t' k e =
      state_is h' t' e (same_self (same_part k 0 2 (omega arith) (omega arith))) (same_program (same_part k 2 4 (omega arith) (omega arith)))
      (same_position (same_part k 4 5 (omega arith) (omega arith))) (same_end_mark (same_part k 5 6 (omega arith) (omega arith)))

  module _ (size : length h ≡ 16384) where
    same_store : {a b : ℕ} {h' : List ℕ} → Local a b h h' → b ≤ 6 → store_held h' t ≡ store_held h t
    unfolding store_held
    same_store c le = ap (λ (x : List ℕ). memories x t) (clear_low c le size)

    after_self : (v : Value) → ValueFits v → state_held remaining_from (set_self h v) t ≡ with_self v (state_held remaining_from h t)
    unfolding state_held
    after_self v f =
        let c = set_self_local h size v in
        state_is (set_self h v) t (same_store c (omega arith)) (set_self_self h size v f) (same_program (local_same c 2 4 (λ k lo hi lo' hi'. omega arith)))
        (same_position (local_same c 4 5 (λ k lo hi lo' hi'. omega arith))) (same_end_mark (local_same c 5 6 (λ k lo hi lo' hi'. omega arith)))

    after_program : (v : Value) → ValueFits v → state_held remaining_from (set_program h v) t ≡ with_program v (state_held remaining_from h t)
    unfolding state_held
    after_program v f =
        let c = set_program_local h size v in
        state_is (set_program h v) t (same_store c (omega arith)) (same_self (local_same c 0 2 (λ k lo hi lo' hi'. omega arith))) (set_program_program h size v f)
        (same_position (local_same c 4 5 (λ k lo hi lo' hi'. omega arith))) (same_end_mark (local_same c 5 6 (λ k lo hi lo' hi'. omega arith)))

    after_position : (i : ℕ) → state_held remaining_from (set_position h i) t ≡ with_remaining (remaining_from i) i (state_held remaining_from h t)
    unfolding state_held
    after_position i =
        let c = set_position_local h size i in
        state_is (set_position h i) t (same_store c (omega arith)) (same_self (local_same c 0 2 (λ k lo hi lo' hi'. omega arith))) (same_program (local_same c 2 4 (λ k lo hi lo' hi'. omega arith)))
        (set_position_position h size i) (same_end_mark (local_same c 5 6 (λ k lo hi lo' hi'. omega arith)))

    after_end : (e : ℕ) → state_held remaining_from (set_end_mark h e) t ≡ with_mark e (state_held remaining_from h t)
    unfolding state_held with_mark
    after_end e =
        let c = set_end_local h size e in
        state_is (set_end_mark h e) t (same_store c (omega arith)) (same_self (local_same c 0 2 (λ k lo hi lo' hi'. omega arith))) (same_program (local_same c 2 4 (λ k lo hi lo' hi'. omega arith)))
        (same_position (local_same c 4 5 (λ k lo hi lo' hi'. omega arith))) (set_end_end h size e)

    after_collect : state_held remaining_from (collect_heap h).words t ≡ collected word_store (state_held remaining_from h t)
    unfolding state_held store_held collected
    after_collect = over (collect_heap h).words t (keeps_collect h) (ap (λ (x : List ℕ). memories x t) (clear_collect h size))

  after_frame : (m : ℕ) → state_held remaining_from (claim_frame h m) t ≡ over_store (state_held remaining_from h t) (word_store.claim_frame (state_held remaining_from h t).store m)
  unfolding state_held store_held
  after_frame m = over (claim_frame h m) t (keeps_claim h m) (ap (λ (x : List ℕ). memories x t) (clear_claim_frame h m))

  after_push : (n x : ℕ) (v : Value) → state_held remaining_from (add_slot h n x v) t ≡ over_store (state_held remaining_from h t) (word_store.push (state_held remaining_from h t).store n x v)
  unfolding state_held store_held
  after_push n x v = over (add_slot h n x v) t (keeps_add h n x v) (ap (λ (y : List ℕ). memories y t) (clear_add_slot h n x v))

  after_assign : (n x : ℕ) (v : Value) → state_held remaining_from (put_slot h n x v) t ≡ over_store (state_held remaining_from h t) (word_store.assign (state_held remaining_from h t).store n x v)
  unfolding state_held store_held
  after_assign n x v = over (put_slot h n x v) t (keeps_put h n x v) (ap (λ (y : List ℕ). memories y t) (clear_put_slot h n x v))

  after_text : (bs : List ℕ) →
      state_held remaining_from (take_text h (next_text h) (length bs)) (write_text t (next_text h) 0 bs)
      ≡ over_store (state_held remaining_from h t) (word_store.claim_text (state_held remaining_from h t).store bs)
  unfolding state_held store_held claim_text
  after_text bs =
      over (take_text h (next_text h) (length bs)) (write_text t (next_text h) 0 bs) (keeps_text h (next_text h) (length bs))
      (ap (λ (x : List ℕ). memories x (write_text t (next_text h) 0 bs)) (clear_take_text h (next_text h) (length bs))
      ∙ ap (λ (k : ℕ). memories (take_text (clear_header h) k (length bs)) (write_text t k 0 bs)) (sym (low_next_text (clear_local h) (omega arith))))

  pub held_after : length h ≡ 16384 → HeldAfter remaining_from h t
  held_after size = record {
    self = after_self size;
    program = after_program size;
    position = after_position size;
    end_mark = after_end size;
    frame = after_frame;
    push = after_push;
    assign = after_assign;
    text = after_text;
    collect = after_collect size;
  }

-- ---- The header

tag_small : (v : Value) → tag_of v ≤ 4
tag_small (Value.Int z) = omega arith
tag_small (Value.Text (Text.Literal k)) = omega arith
tag_small (Value.Text (Text.Made k)) = omega arith
tag_small (Value.Code k) = omega arith
tag_small (Value.Frame n) = omega arith

module _ (h : List ℕ) (l : Limits) (size : length h ≡ 16384) (o : HeaderFormed h l) where
  header_kept : {h' : List ℕ} → KeepsHeader h h' → HeaderFormed h' l
  header_kept k = record {
    self_tag = rw (k.agree 0 (omega arith) (omega arith)) o.self_tag;
    program_tag = rw (k.agree 2 (omega arith) (omega arith)) o.program_tag;
    position_there = rw (same_position (same_part k 4 5 (omega arith) (omega arith))) o.position_there;
  }

  header_self : (v : Value) → HeaderFormed (set_self h v) l
  unfolding set_self
  header_self v =
      let c = set_self_local h size v in
      record {
        self_tag = rw (word_other _ 1 0 (number_of v) _ (omega arith) (word_same h 0 (tag_of v) (omega arith))) (tag_small v);
        program_tag = rw (c.away 2 (λ lo hi. omega arith)) o.program_tag;
        position_there = rw (same_position (local_same c 4 5 (λ k lo hi lo' hi'. omega arith))) o.position_there;
      }

  header_program : (v : Value) → HeaderFormed (set_program h v) l
  unfolding set_program
  header_program v =
      let c = set_program_local h size v in
      record {
        self_tag = rw (c.away 0 (λ lo hi. omega arith)) o.self_tag;
        program_tag = rw (word_other _ 3 2 (number_of v) _ (omega arith) (word_same h 2 (tag_of v) (omega arith))) (tag_small v);
        position_there = rw (same_position (local_same c 4 5 (λ k lo hi lo' hi'. omega arith))) o.position_there;
      }

  header_position : (i : ℕ) → i ≤ l.instructions → HeaderFormed (set_position h i) l
  header_position i le =
      let c = set_position_local h size i in
      record {
        self_tag = rw (c.away 0 (λ lo hi. omega arith)) o.self_tag;
        program_tag = rw (c.away 2 (λ lo hi. omega arith)) o.program_tag;
        position_there = rw (set_position_position h size i) le;
      }

  header_end : (e : ℕ) → HeaderFormed (set_end_mark h e) l
  header_end e =
      let c = set_end_local h size e in
      record {
        self_tag = rw (c.away 0 (λ lo hi. omega arith)) o.self_tag;
        program_tag = rw (c.away 2 (λ lo hi. omega arith)) o.program_tag;
        position_there = rw (same_position (local_same c 4 5 (λ k lo hi lo' hi'. omega arith))) o.position_there;
      }

  pub header_after : HeaderAfter h l
  header_after = record {
    self = header_self;
    program = header_program;
    position = header_position;
    end_mark = header_end;
    frame = λ m. header_kept (keeps_claim h m);
    push = λ n x v. header_kept (keeps_add h n x v);
    assign = λ n x v. header_kept (keeps_put h n x v);
    text = λ k n. header_kept (keeps_text h k n);
    collect = header_kept (keeps_collect h);
  }
