-- Constants and frames of them, evaluated with maker 0 on a store and on the unbounded heap, where both have the same frames under the same numbers: they have so
-- afterwards. A store takes the lowest number that is not in use, which is the number after the last. Assumes nothing.
use mathlib.Core.Path.{◌≡◌, refl, sym, ap, ◌∙◌}
use mathlib.Core.Logic.{◌↔◌, ◌≢◌}
use mathlib.Core.Bool.{Bool, true, false, ◌||◌, true≢false}
use mathlib.Core.List.{List, [], ◌∷◌, ◌++◌, append_assoc, append-nil}
use mathlib.Core.Option.{Option, none, some}
use Prim.Native.Nat.{ℕ, suc, ◌+◌, ◌≤◌, ◌<◌}
use native.Mathlib.Decide.{ℕ_discrete, dec_lt}
use native.Mathlib.Omega.{arith}
use lib.Dec.{eqb}
use borrow.Author.Tests.{eq-eqb, ne_eqb}
use lib.ListN.{length, set, length-append}
use Rattle.framed.specs.declared.Value.{Value}
use Rattle.framed.specs.Common.{member}
use Rattle.framed.specs.Tree.{Base, Expression, Slots}
use Rattle.framed.specs.Paths.{Path}
use Rattle.framed.specs.Meaning.{slot_names}
use Rattle.framed.specs.Program.{Program}
use Rattle.framed.specs.Values.{Slot, Frame, Heap, new_frame, with_slots}
use Rattle.framed.specs.Equality.{Constants, constants}
use Rattle.framed.specs.Fetch.{in_slots, in_frame}
use Rattle.framed.specs.Machine.{Result, gives, base_value, with_frame, with_frames, frame_literals, frame_literals_in}
use Rattle.framed.specs.Machine as M
use Rattle.framed.proofs.General.{none≢some}
use Rattle.framed.proofs.ReachCounts.{here, there}
use Rattle.bounded.specs.Views.{View, frame_at, text_at, all_used, entries, frames_used, FrameWritten}
use Rattle.bounded.specs.Fits.{Valid, valid_integer, valid_literal, valid_code, valid_frame, BaseFits, ExpressionFits, SlotsFit}
use Rattle.bounded.specs.Store.{Store, Laws, FrameClaimed}
use Rattle.bounded.specs.Bounded.{Produced, value_given}
use Rattle.bounded.specs.Bounded as B
use Rattle.bounded.proofs.Lists.{Defined, or_false}
use Rattle.bounded.proofs.Views.{Extends, same_view, extends_trans, not_new_frame, written_extends, claimed_frames, written_frames, frame_end, heap_frame, set_written, new_written}
use Rattle.heap.proofs.Lists.{elem_at}
use Rattle.accepted.specs.Constant.{Constant, ConstantExpression, ConstantSlots}

-- ---- The same frames under the same numbers

-- the same numbers are in use, and the frames are the same but for those that E marks, which are being filled
pub record Same (E : ℕ → Bool) (H : View) (h : Heap) : Type 0 where
  pub both : (n : ℕ) → Defined (frame_at H) n ↔ Defined (frame_at (all_used h)) n
  pub equal : (n : ℕ) → E n ≡ false → frame_at H n ≡ frame_at (all_used h) n

abbrev marking : ℕ → (ℕ → Bool) → ℕ → Bool
marking k E n = E n || eqb n k

marked : (k : ℕ) (E : ℕ → Bool) → marking k E k ≡ true
marked k E = rw (eq-eqb k k refl) (or_true (E k))
  where
    or_true : (b : Bool) → b || true ≡ true
    or_true true = refl
    or_true false = refl

module _ {E : ℕ → Bool} {H : View} {h : Heap} (c : Same E H h) (k : ℕ) (f : Frame) where
  -- a frame written in both
  pub same_written : {H' : View} {h' : Heap} → FrameWritten H H' k f → FrameWritten (all_used h) (all_used h') k f → Same E H' h'
  same_written {H'} {h'} w v = record { both = λ n. go n (ℕ_discrete n k); equal = λ n e. at n e (ℕ_discrete n k) }
    where
      go : (n : ℕ) → Dec (n ≡ k) → Defined (frame_at H') n ↔ Defined (frame_at (all_used h')) n
      go n (yes q) = ((λ d. (f, ap (frame_at (all_used h')) q ∙ v.here)), (λ d. (f, ap (frame_at H') q ∙ w.here)))
      go n (no ne) = (
        (λ d. let r = (c.both n).0 (d.0, sym (w.there n ne) ∙ d.1) in (r.0, v.there n ne ∙ r.1)),
        (λ d. let r = (c.both n).1 (d.0, sym (v.there n ne) ∙ d.1) in (r.0, w.there n ne ∙ r.1)),
      )

      at : (n : ℕ) → E n ≡ false → Dec (n ≡ k) → frame_at H' n ≡ frame_at (all_used h') n
      at n e (yes q) = ap (frame_at H') q ∙ w.here ∙ sym (ap (frame_at (all_used h')) q ∙ v.here)
      at n e (no ne) = w.there n ne ∙ c.equal n e ∙ sym (v.there n ne)

  -- a frame that is being filled, written in the store alone
  pub same_filling : {H' : View} (g : Frame) → frame_at H k ≡ some g → E k ≡ true → FrameWritten H H' k f → Same E H' h
  same_filling {H'} g holds m w = record { both = λ n. go n (ℕ_discrete n k); equal = λ n e. at n e (ℕ_discrete n k) }
    where
      go : (n : ℕ) → Dec (n ≡ k) → Defined (frame_at H') n ↔ Defined (frame_at (all_used h)) n
      go n (yes q) = ((λ d. (c.both n).0 (g, ap (frame_at H) q ∙ holds)), (λ d. (f, ap (frame_at H') q ∙ w.here)))
      go n (no ne) = (
        (λ d. (c.both n).0 (d.0, sym (w.there n ne) ∙ d.1)),
        (λ d. let r = (c.both n).1 d in (r.0, w.there n ne ∙ r.1)),
      )

      at : (n : ℕ) → E n ≡ false → Dec (n ≡ k) → frame_at H' n ≡ frame_at (all_used h) n
      at n e (yes q) = absurd (true≢false (sym (ap E q ∙ m) ∙ e))
      at n e (no ne) = w.there n ne ∙ c.equal n e

-- one more is being filled
same_opened : {E : ℕ → Bool} {H : View} {h : Heap} (k : ℕ) → Same E H h → Same (marking k E) H h
same_opened {E} k c = record { both = c.both; equal = λ n e. c.equal n (or_false (E n) (eqb n k) e).0 }

-- it is filled: the unbounded heap stores the slots
same_closed : {E : ℕ → Bool} {H : View} {h h' : Heap} (k : ℕ) (f : Frame) → Same (marking k E) H h → frame_at H k ≡ some f → FrameWritten (all_used h) (all_used h') k f → Same E H h'
same_closed {E} {H} {h} {h'} k f c holds v = record { both = λ n. go n (ℕ_discrete n k); equal = λ n e. at n e (ℕ_discrete n k) }
  where
    go : (n : ℕ) → Dec (n ≡ k) → Defined (frame_at H) n ↔ Defined (frame_at (all_used h')) n
    go n (yes q) = ((λ d. (f, ap (frame_at (all_used h')) q ∙ v.here)), (λ d. (f, ap (frame_at H) q ∙ holds)))
    go n (no ne) = (
      (λ d. let r = (c.both n).0 d in (r.0, v.there n ne ∙ r.1)),
      (λ d. (c.both n).1 (d.0, sym (v.there n ne) ∙ d.1)),
    )

    at : (n : ℕ) → E n ≡ false → Dec (n ≡ k) → frame_at H n ≡ frame_at (all_used h') n
    at n e (yes q) = ap (frame_at H) q ∙ holds ∙ sym (ap (frame_at (all_used h')) q ∙ v.here)
    at n e (no ne) = c.equal n (rw (e, ne_eqb n k ne)) ∙ sym (v.there n ne)

-- a name that the slots so far do not have, and that is not the next one
absent_still : (xs : List Slot) (s : Slot) (y : ℕ) → in_slots xs y ≡ none → s.name ≢ y → in_slots (xs ++ (s ∷ [])) y ≡ none
unfolding in_slots
absent_still [] s y e ne = rw (ne_eqb s.name y ne, in_slots)
absent_still (x ∷ xs) s y e ne = go (eqb x.name y) e (λ q. absent_still xs s y q ne)
  where
    go : (t : Bool) → ◌≡◌ {A = Option Value} (elim t [ true ↦ some x.value | false ↦ in_slots xs y ]) none → (in_slots xs y ≡ none → in_slots (xs ++ (s ∷ [])) y ≡ none)
        → ◌≡◌ {A = Option Value} (elim t [ true ↦ some x.value | false ↦ in_slots (xs ++ (s ∷ [])) y ]) none
    go true e k = absurd (none≢some (sym e))
    go false e k = k e

module _ {S : Type 0} (𝓞 : Store S) (p : Program) (𝓛 : Laws 𝓞 p) (lowest : (s : S) (n : ℕ) → n < 𝓞.next_frame s → Defined (frame_at (𝓞.view s)) n)
    (Σ Π : Value) where
  open 𝓞 use {view, next_frame, claim_frame, push}

  abbrev fixed : Constants
  fixed = constants p

  -- the number after the last
  pub next_is : {E : ℕ → Bool} (s : S) (h : Heap) → Same E (view s) h → frame_at (view s) (next_frame s) ≡ none → next_frame s ≡ length h.frames
  next_is s h c free = go (dec_lt (next_frame s) (length h.frames)) (dec_lt (length h.frames) (next_frame s))
    where
      go : Dec (next_frame s < length h.frames) → Dec (length h.frames < next_frame s) → next_frame s ≡ length h.frames
      go (yes lt) b =
          let d = (c.both (next_frame s)).1 (_, sym (heap_frame h (next_frame s)) ∙ elem_at h.frames (next_frame s) (new_frame 0 []) lt) in
          absurd (none≢some (sym free ∙ d.1))
      go (no a) (yes lt) = let d = (c.both (length h.frames)).0 (lowest s (length h.frames) lt) in absurd (none≢some (sym (frame_end h) ∙ d.1))
      go (no a) (no b) = omega arith

  -- where the evaluation stands, with n frames to come
  pub record Here (E : ℕ → Bool) (s : S) (h : Heap) (n : ℕ) : Type 0 where
    pub well_formed : 𝓛.WellFormed s
    pub same : Same E (view s) h
    pub room : frames_used (view s) + n ≤ entries

  -- what it gives: q in the store, o in the unbounded heap
  pub record Evaluated (E : ℕ → Bool) (s : S) (h : Heap) (n : ℕ) (q : Produced S) (o : Result M.Evaluated) : Type 0 where
    pub heap : Heap
    pub result_is : o ≡ gives (record { value = q.value; heap = heap })
    pub well_formed : 𝓛.WellFormed q.store
    pub same : Same E (view q.store) heap
    pub valid : Valid p (view q.store) q.value
    pub ext : Extends (view s) (view q.store)
    pub ext' : Extends (all_used h) (all_used heap)
    pub texts : (k : ℕ) → text_at (view q.store) k ≡ text_at (view s) k
    pub texts' : heap.texts ≡ h.texts
    pub taken : frames_used (view q.store) ≤ frames_used (view s) + n

  -- the frame k, with the slots of f so far, and ss to come
  record Open (E : ℕ → Bool) (k : ℕ) (f : Frame) (s : S) (ss : Slots Path) : Type 0 where
    mark : E k ≡ true
    holds : frame_at (view s) k ≡ some f
    few : length f.slots + length (slot_names ss) ≤ 16
    new : (y : ℕ) → member y (slot_names ss) ≡ true → in_slots f.slots y ≡ none

  record Filled (E : ℕ → Bool) (k : ℕ) (f : Frame) (s : S) (h : Heap) (n : ℕ) (s' : S) (o : Result M.Filled) : Type 0 where
    added : List Slot
    heap : Heap
    result_is : o ≡ gives (record { slots = added; heap = heap })
    well_formed : 𝓛.WellFormed s'
    same : Same E (view s') heap
    holds : frame_at (view s') k ≡ some (with_slots f (f.slots ++ added))
    ext : (m : ℕ) (g : Frame) → m ≢ k → frame_at (view s) m ≡ some g → frame_at (view s') m ≡ some g
    ext' : Extends (all_used h) (all_used heap)
    texts : (j : ℕ) → text_at (view s') j ≡ text_at (view s) j
    texts' : heap.texts ≡ h.texts
    taken : frames_used (view s') ≤ frames_used (view s) + n

  -- ---- Constants

  unchanged : {E : ℕ → Bool} (s : S) (h : Heap) (v : Value) → Here E s h 0 → Valid p (view s) v → Evaluated E s h 0 (record { value = v; store = s }) (gives (record { value = v; heap = h }))
  unchanged s h v H a = record {
    heap = h;
    result_is = refl;
    well_formed = H.well_formed;
    same = H.same;
    valid = a;
    ext = same_view (view s);
    ext' = same_view (all_used h);
    texts = λ k. refl;
    texts' = refl;
    taken = omega arith;
  }

  constant_same : (E : ℕ → Bool) (b : Base Path) → Constant b → BaseFits p b → (s : S) (h : Heap) → Here E s h 0 →
      Evaluated E s h 0 (B.evaluate 𝓞 fixed 0 Σ Π (Expression.base b) s) (M.evaluate fixed 0 Σ Π (Expression.base b) h)
  unfolding B.evaluate M.evaluate M.◌>>=◌ base_value value_given
  constant_same E _ Constant.integer f s h H = unchanged s h _ H (valid_integer f)
  constant_same E _ Constant.string f s h H = unchanged s h _ H (valid_literal f)
  constant_same E _ Constant.code f s h H = unchanged s h _ H (valid_code f)

  -- ---- One slot more

  module _ (E : ℕ → Bool) (x n m k : ℕ) (f : Frame) (e : Expression Path) (ss : Slots Path) (s : S) (h : Heap) (named : x < length p.names) (once : member x (slot_names ss) ≡ false)
      (H : Here E s h (n + m)) (P : Open E k f s (Slots.slot x e ss)) (q : Produced S) (o : Result M.Evaluated) (D : Evaluated E s h n q o) where
    abbrev slot : Slot
    slot = record { name = x; value = q.value }

    abbrev f₁ : Frame
    f₁ = with_slots f (f.slots ++ (slot ∷ []))

    abbrev s₁ : S
    s₁ = push q.store k x q.value

    at_k : frame_at (view q.store) k ≡ some f
    at_k = D.ext.old_frame k f P.holds

    pushed : 𝓛.WellFormed s₁ × FrameWritten (view q.store) (view s₁) k f₁
    unfolding slot_names in_frame
    pushed = 𝓛.push_is q.store D.well_formed k x q.value f at_k (omega (arith, P.few)) named (P.new x (here x x (slot_names ss) refl)) D.valid

    frames₁ : frames_used (view s₁) ≡ frames_used (view q.store)
    frames₁ = written_frames (view q.store) (view s₁) k f₁ f at_k pushed.1

    slot_here : Here E s₁ D.heap m
    slot_here = record {
      well_formed = pushed.0;
      same = same_filling D.same k f₁ f at_k P.mark pushed.1;
      room = omega (arith, frames₁, D.taken, H.room);
    }

    slot_open : Open E k f₁ s₁ ss
    unfolding slot_names
    slot_open = record {
      mark = P.mark;
      holds = pushed.1.here;
      few = omega (arith, P.few, length-append f.slots (slot ∷ []));
      new = λ y i. absent_still f.slots slot y (P.new y (there y x (slot_names ss) i))
          (λ z. true≢false (sym i ∙ ap (λ (a : ℕ). member a (slot_names ss)) (sym z) ∙ once));
    }

    slot_filled : (s' : S) (o' : Heap → Result M.Filled) → Filled E k f₁ s₁ D.heap m s' (o' D.heap) →
        Filled E k f s h (n + m) s'
        (M.◌>>=◌ o (λ r. M.◌>>=◌ (o' r.heap) (λ t. gives (record { slots = record { name = x; value = r.value } ∷ t.slots; heap = t.heap }))))
    unfolding M.◌>>=◌
    slot_filled s' o' R = record {
      added = slot ∷ R.added;
      heap = R.heap;
      result_is = rw (D.result_is, R.result_is);
      well_formed = R.well_formed;
      same = R.same;
      holds = R.holds ∙ ap (λ (l : List Slot). some (with_slots f l)) (append_assoc f.slots (slot ∷ []) R.added);
      ext = λ a g i z. R.ext a g i (pushed.1.there a i ∙ D.ext.old_frame a g z);
      ext' = extends_trans D.ext' R.ext';
      texts = λ j. R.texts j ∙ pushed.1.texts j ∙ D.texts j;
      texts' = R.texts' ∙ D.texts';
      taken = omega (arith, R.taken, frames₁, D.taken);
    }

  -- ---- A frame: the next one is claimed in both, and filled

  module _ (E : ℕ → Bool) (n : ℕ) (s : S) (h : Heap) (H : Here E s h (suc n)) where
    abbrev k : ℕ
    k = next_frame s

    pub claimed : 𝓛.WellFormed (claim_frame s 0) × FrameClaimed (view s) (view (claim_frame s 0)) k 0
    claimed = 𝓛.claim_frame_is s H.well_formed (omega (arith, H.room)) 0 (omega arith)

    pub number_is : k ≡ length h.frames
    number_is = next_is s h H.same claimed.1.free

    new' : FrameWritten (all_used h) (all_used (with_frame 0 h)) k (new_frame 0 [])
    new' = rw number_is (new_written 0 h)

    grown : Extends (all_used h) (all_used (with_frame 0 h))
    grown = written_extends (frame_end h) (new_written 0 h)

    pub frames_claim : frames_used (view (claim_frame s 0)) ≡ suc (frames_used (view s))
    frames_claim = claimed_frames (view s) (view (claim_frame s 0)) k 0 claimed.1

    pub claimed_same : Same E (view (claim_frame s 0)) (with_frame 0 h)
    claimed_same = same_written H.same k (new_frame 0 []) claimed.1.written new'

    claim_here : Here (marking k E) (claim_frame s 0) (with_frame 0 h) n
    claim_here = record { well_formed = claimed.0; same = same_opened k claimed_same; room = omega (arith, frames_claim, H.room) }

    claim_open : (ss : Slots Path) → length (slot_names ss) ≤ 16 → Open (marking k E) k (new_frame 0 []) (claim_frame s 0) ss
    unfolding in_slots
    claim_open ss small = record { mark = marked k E; holds = claimed.1.written.here; few = omega arith; new = λ y i. refl }

    frame_same : (s' : S) (o : Result M.Filled) → Filled (marking k E) k (new_frame 0 []) (claim_frame s 0) (with_frame 0 h) n s' o →
        Evaluated E s h (suc n) (record { value = Value.Frame k; store = s' })
        (M.◌>>=◌ o (λ r. gives (record { value = Value.Frame (length h.frames); heap = with_frames (set r.heap.frames (length h.frames) (new_frame 0 r.slots)) r.heap })))
    unfolding M.◌>>=◌ with_frames with_frame
    frame_same s' o R = record {
      heap = with_frames (set R.heap.frames k (new_frame 0 R.added)) R.heap;
      result_is = rw (R.result_is, number_is);
      well_formed = R.well_formed;
      same = same_closed k (new_frame 0 R.added) R.same R.holds stored;
      valid = valid_frame R.holds;
      ext = record {
        old_frame = λ a g z. R.ext a g (not_new_frame (view s) k claimed.1.free a g z) (claimed.1.written.there a (not_new_frame (view s) k claimed.1.free a g z) ∙ z);
        old_text = λ a bs z. R.texts a ∙ claimed.1.written.texts a ∙ z;
      };
      ext' = record {
        old_frame = λ a g z. stored.there a (not_new_frame (all_used h) k (rw number_is (frame_end h)) a g z) ∙ R.ext'.old_frame a g (grown.old_frame a g z);
        old_text = λ a bs z. stored.texts a ∙ R.ext'.old_text a bs (grown.old_text a bs z);
      };
      texts = λ j. R.texts j ∙ claimed.1.written.texts j;
      texts' = R.texts';
      taken = omega (arith, R.taken, frames_claim);
    }
      where
        stored : FrameWritten (all_used R.heap) (all_used (with_frames (set R.heap.frames k (new_frame 0 R.added)) R.heap)) k (new_frame 0 R.added)
        stored = set_written R.heap k (new_frame 0 R.added) (new_frame 0 []) (R.ext'.old_frame k (new_frame 0 []) new'.here)

  -- ---- Expressions and slots

  mutual
    unfolding B.evaluate M.evaluate frame_literals

    pub evaluate_same : (E : ℕ → Bool) (e : Expression Path) → ConstantExpression e → ExpressionFits p e → (s : S) (h : Heap) → Here E s h (frame_literals e) →
        Evaluated E s h (frame_literals e) (B.evaluate 𝓞 fixed 0 Σ Π e s) (M.evaluate fixed 0 Σ Π e h)
    evaluate_same E _ (ConstantExpression.base {b = b} c) t s h H = constant_same E b c t s h H
    evaluate_same E _ (ConstantExpression.frame {ss = ss} c) t s h H =
        frame_same E (frame_literals_in ss) s h H _ _
        (fill_same (marking (next_frame s) E) ss c t.1 (next_frame s) (new_frame 0 []) (claim_frame s 0) (with_frame 0 h)
        (claim_here E (frame_literals_in ss) s h H) (claim_open E (frame_literals_in ss) s h H ss t.0))

    fill_same : (E : ℕ → Bool) (ss : Slots Path) → ConstantSlots ss → SlotsFit p ss → (k : ℕ) (f : Frame) (s : S) (h : Heap) → Here E s h (frame_literals_in ss) → Open E k f s ss →
        Filled E k f s h (frame_literals_in ss) (B.fill 𝓞 fixed 0 Σ Π k ss s) (M.fill fixed 0 Σ Π ss h)
    fill_same E _ ConstantSlots.no_slots t k f s h H P = record {
      added = [];
      heap = h;
      result_is = refl;
      well_formed = H.well_formed;
      same = H.same;
      holds = P.holds ∙ ap (λ (l : List Slot). some (with_slots f l)) (sym (append-nil f.slots));
      ext = λ a g i z. z;
      ext' = same_view (all_used h);
      texts = λ j. refl;
      texts' = refl;
      taken = omega arith;
    }
    fill_same E _ (ConstantSlots.slot {n = x} {e = e} {ss = ss} c cs) t k f s h H P =
        let a = frame_literals e in
        let b = frame_literals_in ss in
        let D = evaluate_same E e c t.2 s h (record { well_formed = H.well_formed; same = H.same; room = omega (arith, H.room) }) in
        slot_filled E x a b k f e ss s h t.0 t.1 H P _ _ D _ (λ g. M.fill fixed 0 Σ Π ss g)
        (fill_same E ss cs t.3 k _ _ D.heap (slot_here E x a b k f e ss s h t.0 t.1 H P _ _ D) (slot_open E x a b k f e ss s h t.0 t.1 H P _ _ D))
