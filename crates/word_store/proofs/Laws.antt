-- Heap words and text bytes meet the laws of the bounded machine's store. Assumes nothing.
use Prim.Native.Nat.{ℕ, ◌≤◌, ◌<◌}
use mathlib.Core.Path.{◌≡◌, refl, ◌∙◌, ap, sym, subst}
use mathlib.Core.List.{List, [], ◌∷◌, ◌++◌, map, Memᴰ}
use mathlib.Core.Bool.{true, ◌||◌}
use mathlib.Core.Option.{Option, none, some}
use native.Mathlib.Omega.{arith}
use lib.ListN.{length}
use lib.Dec.{ltb}
use Rattle.framed.specs.declared.Value.{Value}
use Rattle.framed.specs.declared.Text.{Text}
use Rattle.framed.specs.Program.{Program}
use Rattle.framed.specs.Values.{Frame, new_frame, with_slots}
use Rattle.framed.specs.Fetch.{in_frame}
use Rattle.framed.specs.Reach.{slot_value, values_in}
use Rattle.framed.specs.Machine.{set_slot, holds}
use Rattle.heap.specs.Words.{self_held, program_held, slot_count_at, maker_at, slot_tag_at, slot_number_at, slot_value_at, text_length, text_byte, set_self, add_slot, take_frame}
use Rattle.heap.specs.Held.{slots_held, text_held, heap_held, frames_held, frames_in_use, texts_in_use}
use Rattle.heap.specs.Closed.{FrameInUse}
use Rattle.heap.proofs.Lists.{listed_from}
use Rattle.heap.proofs.Laws.{Local, take_frame_used}
use Rattle.heap.proofs.Held.{in_slot_from, frame_of_used, slots_length, used_same, low_texts, take_frame_frames, take_frame_others, take_frame_texts, add_slot_frames, add_slot_in_use, add_slot_texts}
use Rattle.heap.proofs.Held as held
use Rattle.mark.specs.Reached.{Reached}
use Rattle.mark.proofs.ReachLaws.{reached_in_use}
use Rattle.collector.specs.Collect.{collect_heap}
use Rattle.collector.specs.Collected.{Collected}
use Rattle.collector.proofs.Means.{collect_meant}
use Rattle.collector.proofs.Kept.{collect_well_formed}
use Rattle.bounded.specs.Views.{View, frame_at, text_at, entries, frames_used, texts_used, FrameWritten}
use Rattle.bounded.specs.Fits.{Valid, StringBytes}
use Rattle.bounded.specs.Check.{has_place}
use Rattle.bounded.specs.Store.{Laws, ReachedIn, FrameClaimed, TextClaimed, CollectedTo}
use Rattle.allocation.specs.Allocation.{next_frame, next_text, view_held}
use Rattle.allocation.proofs.Laws.{next_frame_below, next_frame_free, next_text_below, next_text_free}
use Rattle.allocation.proofs.Views.{shows_frame, shows_no_frame, shows_text, shows_no_text, frames_counted, texts_counted}
use Rattle.puts.specs.Puts.{put_slot}
use Rattle.puts.proofs.Kept.{put_frames, put_in_use, put_texts}
use Rattle.frame_form.specs.declared.Limits.{Limits}
use Rattle.state_form.specs.Form.{StateWellFormed}
use Rattle.state_form.proofs.Facts.{well_formed_closed}
use Rattle.state_form.proofs.Kept.{set_self_formed, set_program_formed, take_frame_formed, add_slot_formed}
use Rattle.word_store.specs.Store.{clear_header, rooted, claim_frame, write_text, claim_text, collect_rooted, word_store}
use Rattle.word_store.specs.Form.{StoreFormed, LimitsOf}
use Rattle.word_store.proofs.Header.{low_frame_used, low_count, low_maker, low_slots, low_text_used, low_view, clear_local, clear_take_frame, clear_add_slot, clear_put_slot, clear_take_text, self_in, rooted_local, rooted_self, rooted_program}
use Rattle.word_store.proofs.Form.{wide, store_cleared, cleared_store, wide_cleared, store_sized}
use Rattle.word_store.proofs.Values.{FrameShown, frame_shown, text_shown, Named, valid_named, formed_valid}
use Rattle.word_store.proofs.Written.{frame_written, frame_rewritten}
use Rattle.word_store.proofs.Texts.{text_formed, text_written}
use Rattle.word_store.proofs.Put.{absent_name, put_formed}

module _ (l : Limits) (q : Program) (limits : LimitsOf l q) where
  wide_limits : LimitsOf (wide l) q
  wide_limits = record { names = limits.names; literals = limits.literals; codes = limits.codes; instructions = limits.instructions }

  module _ (h t : List ℕ) (w : StoreFormed h t l) where
    -- ---- What is there

    pub frame_below : (n : ℕ) (f : Frame) → frame_at (view_held h t) n ≡ some f → n < entries
    unfolding entries
    frame_below n f e = (frame_shown h t n f e).in_use.small

    pub text_below : (k : ℕ) (bs : List ℕ) → text_at (view_held h t) k ≡ some bs → k < entries
    unfolding entries
    text_below k bs e = (text_shown h t k bs e).in_use.small

    pub values_valid : (n : ℕ) (f : Frame) → frame_at (view_held h t) n ≡ some f → (v : Value) → Memᴰ v (map slot_value f.slots) → Valid q (view_held h t) v
    unfolding values_in slot_value_at
    values_valid n f e v m =
        let s = frame_shown h t n f e in
        let i = in_slot_from h n v (rw (held.frame_at h n (new_frame 0 []) s.in_use.small, frame_of_used h n s.in_use.used) (rw s.is at m)) in
        subst (λ (x : Value). Valid q (view_held h t) x) i.value
        (formed_valid h t l q limits (slot_tag_at h n i.slot) (slot_number_at h n i.slot) ((w.frame n s.in_use).slot i.slot i.inside).value)

    pub bytes_valid : (k : ℕ) (bs : List ℕ) → text_at (view_held h t) k ≡ some bs → StringBytes bs
    unfolding StringBytes text_held
    bytes_valid k bs e b m =
        let s = text_shown h t k bs e in
        let i = listed_from (text_byte t k) (text_length h k) (rw s.is at m) in
        rw i.2 ((w.text k s.in_use).bytes i.0 i.1)

    -- ---- A new frame

    free_frames : frames_used (view_held h t) < entries → length (frames_in_use h) < 256
    unfolding entries
    free_frames room = let c = frames_counted h t in omega arith

    free_texts : texts_used (view_held h t) < entries → length (texts_in_use h) < 256
    unfolding entries
    free_texts room = let c = texts_counted h t in omega arith

    -- the same with the header cleared
    clear_frames : frames_in_use (clear_header h) ≡ frames_in_use h
    clear_frames = used_same h (clear_header h) (λ g lt. low_frame_used (clear_local h) (omega arith) g)

    clear_texts : texts_in_use (clear_header h) ≡ texts_in_use h
    clear_texts = (low_texts (clear_local h) (omega arith)).in_use

    clear_in_use : (f : ℕ) → FrameInUse h f → FrameInUse (clear_header h) f
    clear_in_use f u = record { small = u.small; used = low_frame_used (clear_local h) (omega arith) f ∙ u.used }

    -- a value that is valid, in words that differ in the header alone
    low_named : {a b : ℕ} {h' : List ℕ} → Local a b h h' → b ≤ 128 → {v : Value} → Valid q (view_held h t) v → Named h' (wide l) v
    low_named {h' = h'} c low {v} ok = valid_named h' t (wide l) q wide_limits (subst (λ (H : View). Valid q H v) (sym (low_view c low t)) ok)

    module _ (room : frames_used (view_held h t) < entries) (m : ℕ) where
      pub claim_frame_formed : m ≤ length q.instructions → StoreFormed (claim_frame h m) t l
      unfolding claim_frame
      claim_frame_formed made =
          let few = free_frames room in
          cleared_store (subst (λ (x : List ℕ). StateWellFormed x t (wide l)) (sym (clear_take_frame h (next_frame h) m))
          (take_frame_formed (clear_header h) t (wide l) (store_cleared w) (next_frame h) m (next_frame_below h few) (rw limits.instructions made)
          (low_frame_used (clear_local h) (omega arith) (next_frame h) ∙ next_frame_free h few) (rw clear_frames few)))

      pub claim_frame_claims : FrameClaimed (view_held h t) (view_held (claim_frame h m) t) (next_frame h) m
      unfolding claim_frame entries
      claim_frame_claims =
          let few = free_frames room in
          let s = store_sized w in
          let hf = next_frame_below h few in
          record {
            below = hf;
            free = shows_no_frame h t (next_frame h) (next_frame_free h few);
            written = frame_written h (take_frame h (next_frame h) m) t (next_frame h) (new_frame m []) hf
                (take_frame_frames h s (next_frame h) m hf) (take_frame_texts h s (next_frame h) m hf)
                (take_frame_used h (next_frame h) m w.heap_size hf) (λ g ne lt. take_frame_others h s (next_frame h) m hf g ne);
          }

    -- ---- A new text

    module _ (room : texts_used (view_held h t) < entries) (bs : List ℕ) (short : length bs ≤ 64) where
      pub claim_text_formed : StringBytes bs → StoreFormed (claim_text h t bs).heap (claim_text h t bs).text l
      unfolding claim_text
      claim_text_formed string =
          let few = free_texts room in
          let k = next_text h in
          cleared_store (subst (λ (x : List ℕ). StateWellFormed x (write_text t k 0 bs) (wide l)) (sym (clear_take_text h k (length bs)))
          (text_formed (clear_header h) k (low_text_used (clear_local h) (omega arith) k ∙ next_text_free h few) (next_text_below h few) t bs short (wide l)
          (store_cleared w) (rw clear_texts few) string))

      pub claim_text_claims : TextClaimed (view_held h t) (view_held (claim_text h t bs).heap (claim_text h t bs).text) (next_text h) bs
      unfolding claim_text entries
      claim_text_claims =
          let few = free_texts room in
          record {
            below = next_text_below h few;
            free = shows_no_text h t (next_text h) (next_text_free h few);
            written = text_written h (next_text h) (next_text_free h few) (next_text_below h few) t bs short (store_sized w) w.text_size;
          }

    -- ---- A slot

    module _ (n x : ℕ) (v : Value) (f : Frame) (there : frame_at (view_held h t) n ≡ some f) (name : x < length q.names) (ok : Valid q (view_held h t) v) where
      at_frame : FrameShown h n f
      at_frame = frame_shown h t n f there

      abbrev cleared_named : Named (clear_header h) (wide l) v
      cleared_named = low_named (clear_local h) (omega arith) ok

      module _ (few : length f.slots < 16) where
        room_there : slot_count_at h n < 16
        room_there =
            let c = slots_length h n in
            let r : length (slots_held h n) < 16 = rw at_frame.is at few in
            omega arith

        pub push_formed : in_frame f x ≡ none → StoreFormed (add_slot h n x v) t l
        unfolding in_frame
        push_formed new =
            let c : slot_count_at (clear_header h) n ≡ slot_count_at h n = low_count (clear_local h) (omega arith) n in
            let r = room_there in
            cleared_store (subst (λ (y : List ℕ). StateWellFormed y t (wide l)) (sym (clear_add_slot h n x v))
            (add_slot_formed (clear_header h) t (wide l) (store_cleared w) n (clear_in_use n at_frame.in_use) x v (omega arith) (rw limits.names name)
            (absent_name (clear_header h) n x (rw (low_slots (clear_local h) (omega arith) n) (rw at_frame.is at new))) cleared_named.in_use cleared_named.there))

        pub push_written : FrameWritten (view_held h t) (view_held (add_slot h n x v) t) n (with_slots f (f.slots ++ (record { name = x; value = v } ∷ [])))
        push_written =
            let s = store_sized w in
            let u = at_frame.in_use in
            rw at_frame.is (frame_rewritten h (add_slot h n x v) t n _ u.small
            (add_slot_frames h s n u.small u.used x v room_there (valid_named h t l q limits ok).fits)
            (add_slot_texts h s n u.small u.used x v room_there) u.used (add_slot_in_use h s n u.small u.used x v room_there))

      module _ (place : (holds f x || ltb (length f.slots) 16) ≡ true) where
        place_there : has_place (new_frame (maker_at h n) (slots_held h n)) x ≡ true
        unfolding has_place
        place_there = rw at_frame.is at place

        pub assign_formed : StoreFormed (put_slot h n x v) t l
        assign_formed =
            cleared_store (subst (λ (y : List ℕ). StateWellFormed y t (wide l)) (sym (clear_put_slot h n x v))
            (put_formed (clear_header h) n x t (wide l) (store_cleared w) (clear_in_use n at_frame.in_use) v (rw limits.names name) cleared_named.in_use cleared_named.there
            (rw (low_maker (clear_local h) (omega arith) n, low_slots (clear_local h) (omega arith) n) place_there)))

        pub assign_written : FrameWritten (view_held h t) (view_held (put_slot h n x v) t) n (with_slots f (set_slot f.slots x v))
        assign_written =
            let s = store_sized w in
            let u = at_frame.in_use in
            rw at_frame.is (frame_rewritten h (put_slot h n x v) t n _ u.small
            (put_frames h n x v s u.small u.used place_there (valid_named h t l q limits ok).fits)
            (put_texts h n x v s u.small u.used place_there) u.used (put_in_use h n x v s u.small u.used place_there))

    -- ---- A collection

    module _ (Σ Π : Value) (self : Valid q (view_held h t) Σ) (program : Valid q (view_held h t) Π) where
      pub rooted_formed : StateWellFormed (rooted h Σ Π) t (wide l)
      unfolding rooted
      rooted_formed =
          let a = low_named (clear_local h) (omega arith) self in
          let b = low_named (self_in h w.heap_size Σ Π) (omega arith) program in
          set_program_formed (set_self (clear_header h) Σ) t (wide l) (set_self_formed (clear_header h) t (wide l) (store_cleared w) Σ a.in_use a.there)
          Π b.in_use b.there

      pub collect_formed : StoreFormed (collect_rooted h Σ Π) t l
      unfolding collect_rooted
      collect_formed = wide_cleared (collect_well_formed (rooted h Σ Π) t (wide l) rooted_formed)

      abbrev roots_in : List ℕ
      roots_in = rooted h Σ Π

      abbrev left : List ℕ
      left = (collect_heap (rooted h Σ Π)).words

      means : Collected roots_in left (collect_heap roots_in).totals
      means = collect_meant roots_in (well_formed_closed rooted_formed)

      roots_view : view_held roots_in t ≡ view_held h t
      roots_view = low_view (rooted_local h w.heap_size Σ Π) (omega arith) t

      -- reached in the words with these roots, as in the view
      roots_frames : frames_held roots_in ≡ frames_held h
      unfolding view_held heap_held
      roots_frames = ap (λ (H : View). H.heap.frames) roots_view

      roots_self : self_held roots_in ≡ Σ
      roots_self = rooted_self h w.heap_size Σ Π (valid_named h t l q limits self).fits

      roots_program : program_held roots_in ≡ Π
      roots_program = rooted_program h w.heap_size Σ Π (valid_named h t l q limits program).fits

      reach_there : {v : Value} → ReachedIn (view_held h t) Σ Π v → Reached roots_in v
      unfolding view_held heap_held
      reach_there r = rw (roots_frames, roots_self, roots_program) r

      reach_back : {v : Value} → Reached roots_in v → ReachedIn (view_held h t) Σ Π v
      unfolding view_held heap_held
      reach_back r = rw (roots_frames, roots_self, roots_program) at r

      keeps_frame : (n : ℕ) → ReachedIn (view_held h t) Σ Π (Value.Frame n) → frame_at (view_held left t) n ≡ frame_at (view_held h t) n
      keeps_frame n r =
          let r' = reach_there r in
          let a = (means.frame_in_use n).1 r' in
          let b = (reached_in_use roots_in (well_formed_closed rooted_formed) r').frame n refl in
          shows_frame left t n a.small a.used
          ∙ ap some (sym (frame_of_used left n a.used) ∙ means.frame_same n r' ∙ frame_of_used roots_in n b.used)
          ∙ sym (shows_frame roots_in t n b.small b.used) ∙ ap (λ (H : View). frame_at H n) roots_view

      frees_frame : (n : ℕ) → ¬ ReachedIn (view_held h t) Σ Π (Value.Frame n) → frame_at (view_held left t) n ≡ none
      frees_frame n no_way = go (frame_at (view_held left t) n) refl
        where
          go : (o : Option Frame) → frame_at (view_held left t) n ≡ o → frame_at (view_held left t) n ≡ none
          go none e = e
          go (some f) e = absurd (no_way (reach_back ((means.frame_in_use n).0 (frame_shown left t n f e).in_use)))

      keeps_text : (k : ℕ) → ReachedIn (view_held h t) Σ Π (Value.Text (Text.Made k)) → text_at (view_held left t) k ≡ text_at (view_held h t) k
      keeps_text k r =
          let r' = reach_there r in
          let a = (means.text_in_use k).1 r' in
          let b = (reached_in_use roots_in (well_formed_closed rooted_formed) r').made k refl in
          shows_text left t k a.small a.used ∙ ap some (means.text_same t k r')
          ∙ sym (shows_text roots_in t k b.small b.used) ∙ ap (λ (H : View). text_at H k) roots_view

      frees_text : (k : ℕ) → ¬ ReachedIn (view_held h t) Σ Π (Value.Text (Text.Made k)) → text_at (view_held left t) k ≡ none
      frees_text k no_way = go (text_at (view_held left t) k) refl
        where
          go : (o : Option (List ℕ)) → text_at (view_held left t) k ≡ o → text_at (view_held left t) k ≡ none
          go none e = e
          go (some bs) e = absurd (no_way (reach_back ((means.text_in_use k).0 (text_shown left t k bs e).in_use)))

      pub collect_collects : CollectedTo (view_held h t) (view_held (collect_rooted h Σ Π) t) Σ Π
      unfolding collect_rooted
      collect_collects =
          subst (λ (H : View). CollectedTo (view_held h t) H Σ Π) (sym (low_view (clear_local left) (omega arith) t))
          (record { keeps_frame = keeps_frame; frees_frame = frees_frame; keeps_text = keeps_text; frees_text = frees_text })

  -- the laws
  abbrev pub word_laws : Laws word_store q
  word_laws =
      record {
        WellFormed = λ s. StoreFormed s.heap s.text l;
        frame_below = λ s w. frame_below s.heap s.text w;
        text_below = λ s w. text_below s.heap s.text w;
        values_valid = λ s w. values_valid s.heap s.text w;
        bytes_valid = λ s w. bytes_valid s.heap s.text w;
        frame_count_is = λ s w. frames_counted s.heap s.text;
        text_count_is = λ s w. texts_counted s.heap s.text;
        claim_frame_is = λ s w room m made. (claim_frame_formed s.heap s.text w room m made, claim_frame_claims s.heap s.text w room m);
        claim_text_is = λ s w room bs short string. (claim_text_formed s.heap s.text w room bs short string, claim_text_claims s.heap s.text w room bs short);
        push_is = λ s w n x v f there few name new ok.
            (push_formed s.heap s.text w n x v f there name ok few new, push_written s.heap s.text w n x v f there name ok few);
        assign_is = λ s w n x v f there name place ok.
            (assign_formed s.heap s.text w n x v f there name ok place, assign_written s.heap s.text w n x v f there name ok place);
        collect_is = λ s w Σ Π self program.
            (collect_formed s.heap s.text w Σ Π self program, collect_collects s.heap s.text w Σ Π self program);
      }
