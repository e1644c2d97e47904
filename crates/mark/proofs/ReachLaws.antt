-- mark-all marks exactly what is reachable. No code here: only the definitions. Assumes nothing.
use Prim.Native.Nat.{ℕ, zero, suc, ◌+◌, ◌≤◌, ◌<◌}
use mathlib.Core.Path.{◌≡◌, refl, ◌∙◌, sym}
use mathlib.Core.List.{List}
use mathlib.Core.Bool.{Bool, true, false}
use native.Mathlib.Omega.{arith}
use native.Mathlib.Nat.{le_refl, le_trans}
use native.Mathlib.Decide.{ℕ_discrete}
use lib.ListN.{length, get_or, set, replicate}
use lib.Seq.{get_or-set_same, get_or-set_other}
use lib.Dec.{eqb, ltb}
use borrow.Author.Tests.{eqb-true, eqb-false, ltb-true, ltb-false}
use borrow.Author.Count.{below_more}
use Rattle.framed.specs.declared.Text.{Text}
use Rattle.framed.specs.declared.Value.{Value}
use Rattle.framed.specs.Reach.{Reachable}
use Rattle.words.specs.Words.{pick}
use Rattle.heap.specs.Words.{slot_count_at, slot_value_at, self_held, program_held}
use Rattle.heap.specs.Closed.{FrameInUse, NamesInUse, Closed}
use Rattle.heap.proofs.Lists.{zeros_at}
use Rattle.heap.proofs.Held.{InSlot, in_slot_held, in_slot_from}
use Rattle.mark.specs.declared.Work.{Work}
use Rattle.mark.specs.Mark.{work, mark_text, visit_frame, visit_value, visit_from, visit_all, mark_queue, mark_roots, blank, mark_all}
use Rattle.mark.specs.Asks.{Scannable}
use Rattle.mark.specs.Reached.{Reached, Marked, Exactly}
use Rattle.mark.proofs.MarkLaws.{count_room, visit_keeps, tail_small, blank_ok, mark_done}

-- ---- A mark that is set

module _ (m : List ℕ) (j : ℕ) (lt : j < length m) where
  marked_same : Marked (set m j 1) j
  marked_same e = let z : ◌≡◌ {A = ℕ} 1 0 = sym (get_or-set_same m j 1 0 lt) ∙ e in omega arith

  marked_kept : (i : ℕ) → Marked m i → Marked (set m j 1) i
  marked_kept i mi = go (ℕ_discrete i j)
    where
      go : Dec (i ≡ j) → Marked (set m j 1) i
      go (yes e) = rw e marked_same
      go (no n) = λ z. mi (sym (get_or-set_other m j i 1 0 n) ∙ z)

marked_back : (m : List ℕ) (j i : ℕ) → (i ≡ j → ⊥) → Marked (set m j 1) i → Marked m i
marked_back m j i n mi = λ z. mi (get_or-set_other m j i 1 0 n ∙ z)

-- the two ways of a visit of a frame
visit_case : (f : ℕ) (w : Work) (P : Work → Type 0) → (Marked w.marks f → P w)
    → (get_or w.marks f 0 ≡ 0 → P (work (set w.marks f 1) (set w.order w.tail f) (w.tail + 1))) → P (visit_frame f w)
unfolding visit_frame
visit_case f w P old new = go (eqb (get_or w.marks f 0) 0) refl
  where
    go : (b : Bool) → eqb (get_or w.marks f 0) 0 ≡ b → P (pick b (work (set w.marks f 1) (set w.order w.tail f) (w.tail + 1)) w)
    go true e = new (eqb-true _ _ e)
    go false e = old (eqb-false _ _ e)

-- w' has every mark of w, and w's queue at its front
record Grows (w w' : Work) : Type 0 where
  keeps : (j : ℕ) → Marked w.marks j → Marked w'.marks j
  longer : w.tail ≤ w'.tail
  front : (j : ℕ) → j < w.tail → get_or w'.order j 0 ≡ get_or w.order j 0

grows_refl : (w : Work) → Grows w w
grows_refl w = record { keeps = λ f m. m; longer = le_refl _; front = λ j lt. refl }

grows_trans : {u v w : Work} → Grows u v → Grows v w → Grows u w
grows_trans p q = record {
  keeps = λ f m. q.keeps f (p.keeps f m);
  longer = le_trans p.longer q.longer;
  front = λ j lt. q.front j (le_trans lt p.longer) ∙ p.front j lt;
}

-- what the value names is marked
record Noted (w : Work) (v : Value) : Type 0 where
  frame : (f : ℕ) → v ≡ Value.Frame f → Marked w.marks f
  made : (k : ℕ) → v ≡ Value.Text (Text.Made k) → Marked w.marks (256 + k)

noted_grows : (w w' : Work) (v : Value) → Grows w w' → Noted w v → Noted w' v
noted_grows w w' v g n = record { frame = λ f e. g.keeps f (n.frame f e); made = λ k e. g.keeps (256 + k) (n.made k e) }

-- a queue in order: what is marked is reachable, and a marked frame stands in the queue
record Fine (h : List ℕ) (w : Work) : Type 0 where
  ok : Scannable h w
  frames : (f : ℕ) → f < 256 → Marked w.marks f → Reached h (Value.Frame f)
  texts : (k : ℕ) → k < 256 → Marked w.marks (256 + k) → Reached h (Value.Text (Text.Made k))
  listed : (f : ℕ) → f < 256 → Marked w.marks f → (j : ℕ) × (j < w.tail) × (get_or w.order j 0 ≡ f)
  entered : (j : ℕ) → j < w.tail → Marked w.marks (get_or w.order j 0)

-- ---- A visit of a frame

module _ (h : List ℕ) (w : Work) (s : Scannable h w) (f : ℕ) (small : f < 256) where
  in_marks : f < length w.marks
  in_marks = let l = s.marks_long in omega arith

  in_order : get_or w.marks f 0 ≡ 0 → w.tail < length w.order
  in_order z = omega (arith, count_room w.marks f small z, s.counted, s.order_long)

  frame_grows : Grows w (visit_frame f w)
  frame_grows = visit_case f w (λ w'. Grows w w') (λ m. grows_refl w) (λ z. record {
    keeps = λ g. marked_kept w.marks f in_marks g;
    longer = omega arith;
    front = λ j lt. get_or-set_other w.order w.tail j f 0 (omega arith);
  })

  frame_hits : Marked (visit_frame f w).marks f
  frame_hits = visit_case f w (λ w'. Marked w'.marks f) (λ m. m) (λ z. marked_same w.marks f in_marks)

module _ (h : List ℕ) (w : Work) (f : ℕ) (n : Fine h w) (small : f < 256) where
  frame_frames : Reached h (Value.Frame f) → (g : ℕ) → g < 256 → Marked (visit_frame f w).marks g → Reached h (Value.Frame g)
  frame_frames r g gl = visit_case f w (λ w'. Marked w'.marks g → Reached h (Value.Frame g)) (λ _. n.frames g gl) (λ z. go (ℕ_discrete g f))
    where
      go : Dec (g ≡ f) → Marked (set w.marks f 1) g → Reached h (Value.Frame g)
      go (yes e) m = rw e r
      go (no ne) m = n.frames g gl (marked_back w.marks f g ne m)

  frame_texts : (k : ℕ) → k < 256 → Marked (visit_frame f w).marks (256 + k) → Reached h (Value.Text (Text.Made k))
  frame_texts k kl =
      visit_case f w (λ w'. Marked w'.marks (256 + k) → Reached h (Value.Text (Text.Made k))) (λ _. n.texts k kl)
      (λ z m. n.texts k kl (marked_back w.marks f (256 + k) (omega arith) m))

  frame_listed : (g : ℕ) → g < 256 → Marked (visit_frame f w).marks g → (j : ℕ) × (j < (visit_frame f w).tail) × (get_or (visit_frame f w).order j 0 ≡ g)
  frame_listed g gl =
      visit_case f w (λ w'. Marked w'.marks g → (j : ℕ) × (j < w'.tail) × (get_or w'.order j 0 ≡ g)) (λ _. n.listed g gl) (λ z. go z (ℕ_discrete g f))
    where
      go : get_or w.marks f 0 ≡ 0 → Dec (g ≡ f) → Marked (set w.marks f 1) g → (j : ℕ) × (j < w.tail + 1) × (get_or (set w.order w.tail f) j 0 ≡ g)
      go z (yes e) m = (w.tail, omega arith, get_or-set_same w.order w.tail f 0 (in_order h w n.ok f small z) ∙ sym e)
      go z (no ne) m =
          let l = n.listed g gl (marked_back w.marks f g ne m) in
          let lt : l.0 < w.tail = l.1 in
          (l.0, omega arith, get_or-set_other w.order w.tail l.0 f 0 (omega arith) ∙ l.2)

  frame_entered : (j : ℕ) → j < (visit_frame f w).tail → Marked (visit_frame f w).marks (get_or (visit_frame f w).order j 0)
  frame_entered =
      visit_case f w (λ w'. (j : ℕ) → j < w'.tail → Marked w'.marks (get_or w'.order j 0)) (λ _. n.entered)
      (λ z. below_more (λ j. Marked (set w.marks f 1) (get_or (set w.order w.tail f) j 0)) w.tail
      (λ j lt. rw (get_or-set_other w.order w.tail j f 0 (omega arith))
      (marked_kept w.marks f (in_marks h w n.ok f small) (get_or w.order j 0) (n.entered j lt)))
      (rw (get_or-set_same w.order w.tail f 0 (in_order h w n.ok f small z)) (marked_same w.marks f (in_marks h w n.ok f small))))

-- ---- A visit of a text

module _ (h : List ℕ) (w : Work) (s : Scannable h w) (k : ℕ) (small : k < 256) where
  in_marks_text : 256 + k < length w.marks
  in_marks_text = let l = s.marks_long in omega arith

  abbrev texted : Work
  texted = work (set w.marks (256 + k) 1) w.order w.tail

  text_grows : Grows w texted
  text_grows = record { keeps = λ j m. marked_kept w.marks (256 + k) in_marks_text j m; longer = le_refl _; front = λ j lt. refl }

  text_fine : Fine h w → Scannable h texted → Reached h (Value.Text (Text.Made k)) → Fine h texted
  text_fine n ok r = record {
    ok = ok;
    frames = λ f fl m. n.frames f fl (marked_back w.marks (256 + k) f (omega arith) m);
    texts = λ j jl m. go j jl m (ℕ_discrete j k);
    listed = λ f fl m. n.listed f fl (marked_back w.marks (256 + k) f (omega arith) m);
    entered = λ j lt. text_grows.keeps (get_or w.order j 0) (n.entered j lt);
  }
    where
      go : (j : ℕ) → j < 256 → Marked (set w.marks (256 + k) 1) (256 + j) → Dec (j ≡ k) → Reached h (Value.Text (Text.Made j))
      go j jl m (yes e) = rw e r
      go j jl m (no ne) = n.texts j jl (marked_back w.marks (256 + k) (256 + j) (omega arith) m)

-- ---- A visit of a value

module _ (h : List ℕ) (w : Work) where
  visit_grows : (v : Value) → Scannable h w → NamesInUse h v → Grows w (visit_value v w)
  unfolding visit_value mark_text
  visit_grows (Value.Int n) s u = grows_refl w
  visit_grows (Value.Text (Text.Literal k)) s u = grows_refl w
  visit_grows (Value.Text (Text.Made k)) s u = text_grows h w s k (u.made k refl).small
  visit_grows (Value.Code n) s u = grows_refl w
  visit_grows (Value.Frame f) s u = frame_grows h w s f (u.frame f refl).small

  visit_notes : (v : Value) → Scannable h w → NamesInUse h v → Noted (visit_value v w) v
  unfolding visit_value mark_text
  visit_notes v s u = record {
    frame = λ f e. rw e (frame_hits h w s f (u.frame f e).small);
    made = λ k e. rw e (marked_same w.marks (256 + k) (in_marks_text h w s k (u.made k e).small));
  }

  visit_fine : (v : Value) → Fine h w → NamesInUse h v → Reached h v → Fine h (visit_value v w)
  unfolding visit_value mark_text
  visit_fine (Value.Int x) n u r = n
  visit_fine (Value.Text (Text.Literal k)) n u r = n
  visit_fine (Value.Text (Text.Made k)) n u r = text_fine h w n.ok k (u.made k refl).small n (visit_keeps h w n.ok (Value.Text (Text.Made k)) u) r
  visit_fine (Value.Code x) n u r = n
  visit_fine (Value.Frame f) n u r = record {
    ok = visit_keeps h w n.ok (Value.Frame f) u;
    frames = frame_frames h w f n (u.frame f refl).small r;
    texts = frame_texts h w f n (u.frame f refl).small;
    listed = frame_listed h w f n (u.frame f refl).small;
    entered = frame_entered h w f n (u.frame f refl).small;
  }

-- ---- A visit of every value of a frame

reach_slot : (h : List ℕ) (g i : ℕ) → FrameInUse h g → i < slot_count_at h g → Reached h (Value.Frame g) → Reached h (slot_value_at h g i)
reach_slot h g i u lt r =
    Reachable.in_slot r (in_slot_held h g (record { small = u.small; used = u.used; slot = i; inside = lt; value = refl }))

module _ (h : List ℕ) (closed : Closed h) (g : ℕ) (u : FrameInUse h g) where
  slots_grow : (n i : ℕ) (w : Work) → i + n ≤ slot_count_at h g → Scannable h w → Grows w (visit_from h g n i w)
  unfolding visit_from
  slots_grow zero i w le s = grows_refl w
  slots_grow (suc n) i w le s =
      let d : NamesInUse h (slot_value_at h g i) = closed.slot g i u (omega arith) in
      grows_trans (visit_grows h w (slot_value_at h g i) s d)
      (slots_grow n (i + 1) (visit_value (slot_value_at h g i) w) (omega arith) (visit_keeps h w s (slot_value_at h g i) d))

  slots_fine : (n i : ℕ) (w : Work) → i + n ≤ slot_count_at h g → Reached h (Value.Frame g) → Fine h w → Fine h (visit_from h g n i w)
  unfolding visit_from
  slots_fine zero i w le r s = s
  slots_fine (suc n) i w le r s =
      slots_fine n (i + 1) (visit_value (slot_value_at h g i) w) (omega arith) r
      (visit_fine h w (slot_value_at h g i) s (closed.slot g i u (omega arith)) (reach_slot h g i u (omega arith) r))

  slots_note : (n i : ℕ) (w : Work) → i + n ≤ slot_count_at h g → Scannable h w → (j : ℕ) → i ≤ j → j < i + n → Noted (visit_from h g n i w) (slot_value_at h g j)
  unfolding visit_from
  slots_note zero i w le s j lo hi = absurd (omega arith)
  slots_note (suc n) i w le s j lo hi = go (ℕ_discrete j i) (slots_note n (i + 1) (visit_value (slot_value_at h g i) w) (omega arith) s' j)
    where
      d : NamesInUse h (slot_value_at h g i)
      d = closed.slot g i u (omega arith)

      s' : Scannable h (visit_value (slot_value_at h g i) w)
      s' = visit_keeps h w s (slot_value_at h g i) d

      go : Dec (j ≡ i) → (i + 1 ≤ j → j < i + 1 + n → Noted (visit_from h g n (i + 1) (visit_value (slot_value_at h g i) w)) (slot_value_at h g j))
          → Noted (visit_from h g n (i + 1) (visit_value (slot_value_at h g i) w)) (slot_value_at h g j)
      go (yes q) ih =
          rw q (noted_grows (visit_value (slot_value_at h g i) w) _ (slot_value_at h g i)
          (slots_grow n (i + 1) (visit_value (slot_value_at h g i) w) (omega arith) s') (visit_notes h w (slot_value_at h g i) s d))
      go (no q) ih = ih (omega arith) (omega arith)

-- ---- The queue

-- the frames before place k of the queue have every value of theirs noted
Done : List ℕ → Work → ℕ → Type 0
Done h w k = (j : ℕ) → j < k → (i : ℕ) → i < slot_count_at h (get_or w.order j 0) → Noted w (slot_value_at h (get_or w.order j 0) i)

record Final (h : List ℕ) (w : Work) : Type 0 where
  fine : Fine h w
  self_noted : Noted w (self_held h)
  program_noted : Noted w (program_held h)
  done : Done h w w.tail

-- one frame of the queue
module _ (h : List ℕ) (closed : Closed h) (w : Work) (k : ℕ) (n : Fine h w) (lt : k < w.tail) where
  head_use : FrameInUse h (get_or w.order k 0)
  head_use = n.ok.queued k lt

  turn_grows : Grows w (visit_all h (get_or w.order k 0) w)
  unfolding visit_all
  turn_grows = slots_grow h closed _ head_use (slot_count_at h (get_or w.order k 0)) 0 w (omega arith) n.ok

  turn_notes : (i : ℕ) → i < slot_count_at h (get_or w.order k 0) → Noted (visit_all h (get_or w.order k 0) w) (slot_value_at h (get_or w.order k 0) i)
  unfolding visit_all
  turn_notes i il = slots_note h closed _ head_use (slot_count_at h (get_or w.order k 0)) 0 w (omega arith) n.ok i (omega arith) (omega arith)

  turn_fine : Fine h (visit_all h (get_or w.order k 0) w)
  unfolding visit_all
  turn_fine = slots_fine h closed _ head_use (slot_count_at h (get_or w.order k 0)) 0 w (omega arith) (n.frames _ head_use.small (n.entered k lt)) n

  turn_done : Done h w k → Done h (visit_all h (get_or w.order k 0) w) (k + 1)
  unfolding Done
  turn_done d =
      below_more
      (λ j. (i : ℕ) → i < slot_count_at h (get_or (visit_all h (get_or w.order k 0) w).order j 0)
      → Noted (visit_all h (get_or w.order k 0) w) (slot_value_at h (get_or (visit_all h (get_or w.order k 0) w).order j 0) i))
      k
      (λ j jk i il.
      let q : get_or (visit_all h (get_or w.order k 0) w).order j 0 ≡ get_or w.order j 0 = turn_grows.front j (omega arith) in
      rw q (noted_grows w _ (slot_value_at h (get_or w.order j 0) i) turn_grows (d j jk i (rw q at il))))
      (λ i il.
      let q : get_or (visit_all h (get_or w.order k 0) w).order k 0 ≡ get_or w.order k 0 = turn_grows.front k lt in
      rw q (turn_notes i (rw q at il)))

queue_final : (h : List ℕ) → Closed h → (n k : ℕ) (w : Work) → 256 ≤ k + n → Fine h w → Noted w (self_held h) → Noted w (program_held h) → Done h w k → Final h (mark_queue h n k w)
unfolding mark_queue Done
queue_final h closed zero k w le n a b d =
    record { fine = n; self_noted = a; program_noted = b; done = λ j lt. d j (omega (arith, tail_small h w n.ok)) }
queue_final h closed (suc m) k w le n a b d =
    go (ltb k w.tail) refl (queue_final h closed m (k + 1) (visit_all h (get_or w.order k 0) w) (omega arith))
  where
    go : (t : Bool) → ltb k w.tail ≡ t
        → (Fine h (visit_all h (get_or w.order k 0) w) → Noted (visit_all h (get_or w.order k 0) w) (self_held h) → Noted (visit_all h (get_or w.order k 0) w) (program_held h)
        → Done h (visit_all h (get_or w.order k 0) w) (k + 1) → Final h (mark_queue h m (k + 1) (visit_all h (get_or w.order k 0) w)))
        → Final h (pick t (mark_queue h m (k + 1) (visit_all h (get_or w.order k 0) w)) w)
    go true e ih =
        let lt : k < w.tail = ltb-true _ _ e in
        let g = turn_grows h closed w k n lt in
        ih (turn_fine h closed w k n lt) (noted_grows w _ (self_held h) g a) (noted_grows w _ (program_held h) g b) (turn_done h closed w k n lt d)
    go false e ih =
        let ge : w.tail ≤ k = ltb-false _ _ e in
        record { fine = n; self_noted = a; program_noted = b; done = λ j lt. d j (omega arith) }

blank_fine : (h : List ℕ) → Closed h → Fine h blank
unfolding blank
blank_fine h closed = record {
  ok = (blank_ok h closed).ok;
  frames = λ f fl m. absurd (m (zeros_at 512 f));
  texts = λ k kl m. absurd (m (zeros_at 512 (256 + k)));
  listed = λ f fl m. absurd (m (zeros_at 512 f));
  entered = λ j lt. absurd (omega arith);
}

all_final : (h : List ℕ) → Closed h → Final h (mark_queue h 256 0 (mark_roots h blank))
unfolding mark_roots Done
all_final h closed =
    queue_final h closed 256 0 _ (omega arith)
    (visit_fine h _ (program_held h) f₁ closed.program Reachable.program)
    (noted_grows _ _ (self_held h) (visit_grows h _ (program_held h) f₁.ok closed.program) (visit_notes h blank (self_held h) (blank_fine h closed).ok closed.self))
    (visit_notes h _ (program_held h) f₁.ok closed.program)
    (λ j lt. absurd (omega arith))
  where
    f₁ : Fine h (visit_value (self_held h) blank)
    f₁ = visit_fine h blank (self_held h) (blank_fine h closed) closed.self Reachable.self

-- what is reachable is noted
final_whole : (h : List ℕ) (w : Work) → Final h w → {v : Value} → Reached h v → Noted w v
unfolding Done
final_whole h w n Reachable.self = n.self_noted
final_whole h w n Reachable.program = n.program_noted
final_whole h w n (Reachable.in_slot {n = g} {v} r m) = at (in_slot_from h g v m) (final_whole h w n r)
  where
    at : InSlot h g v → Noted w (Value.Frame g) → Noted w v
    at s a =
        let l = n.fine.listed g s.small (a.frame g refl) in
        let q : get_or w.order l.0 0 ≡ g = l.2 in
        rw (← s.value) (rw q at (n.done l.0 l.1 s.slot (rw q s.inside)))

-- The marks are exactly those of the reachable frames and made texts
pub mark_exact : (h : List ℕ) → Closed h → Exactly h (mark_all h)
unfolding mark_all
mark_exact h closed =
    let n = all_final h closed in
    record {
      frame_sound = n.fine.frames;
      frame_all = λ f r. (final_whole h _ n r).frame f refl;
      text_sound = n.fine.texts;
      text_all = λ k r. (final_whole h _ n r).made k refl;
    }

-- as the code's contract says it
pub mark_means : (h : List ℕ) (w : Work) → w ≡ mark_roots h (work (replicate 512 0) (replicate 256 0) 0) → Closed h
    → (w' : Work) → w' ≡ mark_queue h 256 0 w → Exactly h w'.marks
mark_means h w e closed w' e' = rw (mark_done h w e w' e') (mark_exact h closed)

-- what is reachable is in use
pub reached_in_use : (h : List ℕ) → Closed h → {v : Value} → Reached h v → NamesInUse h v
reached_in_use h closed Reachable.self = closed.self
reached_in_use h closed Reachable.program = closed.program
reached_in_use h closed (Reachable.in_slot {n = g} {v} r m) =
    let s = in_slot_from h g v m in
    rw (← s.value) (closed.slot g s.slot (record { small = s.small; used = s.used }) s.inside)
