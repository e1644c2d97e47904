-- Marking: how many frames are marked, and one law for each way through the functions that mark. Assumes nothing.
use Prim.Native.Nat.{ℕ, zero, suc, ◌+◌, ◌-◌, ◌*◌, ◌≤◌, ◌<◌}
use mathlib.Core.Path.{◌≡◌, refl, ◌∙◌, ap, sym}
use mathlib.Core.Logic.{◌≢◌}
use mathlib.Core.List.{List}
use mathlib.Core.Bool.{Bool, true, false}
use native.Mathlib.Omega.{arith}
use lib.ListN.{length, get_or, set, replicate, length-set, length-replicate}
use lib.Seq.{get_or-set_same, get_or-set_other}
use lib.Dec.{eqb}
use borrow.Author.Count.{below_more}
use borrow.Author.Tests.{eqb-true, lt-ltb, le-ltb}
use mir.Val.{Fits}
use mir.Syntax.{w64}
use Rattle.framed.specs.declared.Text.{Text}
use Rattle.framed.specs.declared.Value.{Value}
use Rattle.words.specs.Words.{pick}
use Rattle.heap.specs.Words.{slot_count_at, slot_value_at, self_held, program_held}
use Rattle.heap.specs.Lists.{passing}
use Rattle.heap.specs.Closed.{FrameInUse, NamesInUse, Closed}
use Rattle.heap.proofs.Lists.{passing_room, passing_more, passing_same, passing_below, passing_none, zeros_at, left_more, left_none}
use Rattle.mark.specs.declared.Work.{Work}
use Rattle.mark.specs.Mark.{work, mark_text, visit_frame, visit_value, visit_from, visit_all, mark_queue, mark_roots, blank, mark_all}
use Rattle.mark.specs.Asks.{marked, AtFrame, Visitable, Scannable, Starts, Scans}

-- ---- How many frames are marked

module _ (m : List ℕ) where
  marked_no : (j : ℕ) → get_or m j 0 ≡ 0 → marked m j ≡ false
  unfolding marked
  marked_no j e = rw e

  marked_here : (j : ℕ) → j < length m → marked (set m j 1) j ≡ true
  unfolding marked
  marked_here j lt = rw (get_or-set_same m j 1 0 lt)

  marked_other : (j i : ℕ) → i ≢ j → marked (set m j 1) i ≡ marked m i
  unfolding marked
  marked_other j i ne = rw (get_or-set_other m j i 1 0 ne)

  pub count_room : (f : ℕ) → f < 256 → get_or m f 0 ≡ 0 → length (passing (marked m) 256) < 256
  count_room f lt e = passing_room (marked m) 256 f lt (marked_no f e)

  pub count_more : (f : ℕ) → f < 256 → length m ≡ 512 → get_or m f 0 ≡ 0 → length (passing (marked (set m f 1)) 256) ≡ suc (length (passing (marked m) 256))
  count_more f lt l e =
      passing_more (marked m) (marked (set m f 1)) 256 f lt (marked_no f e) (marked_here f (omega arith)) (λ j jl ne. marked_other f j ne)

  pub count_text : (k : ℕ) → passing (marked (set m (256 + k) 1)) 256 ≡ passing (marked m) 256
  count_text k = passing_same (marked m) (marked (set m (256 + k) 1)) 256 (λ j lt. marked_other (256 + k) j (omega arith))

-- ---- visit_frame

module _ (w : Work) (f g : ℕ) (ef : f ≡ g) (a : AtFrame w g) (e : get_or w.marks f 0 ≡ 0) where
  pub frame_room : w.tail < 256
  frame_room = omega (arith, count_room w.marks f (rw ef a.small) e, a.counted)

  pub frame_scaled : Fits w64 (w.tail * 4)
  frame_scaled = omega (arith, frame_room)

  pub frame_one_more : Fits w64 (w.tail + 1)
  frame_one_more = omega (arith, frame_room)

-- ---- What a visit keeps

module _ (h : List ℕ) (w : Work) (s : Scannable h w) where
  frame_keeps : (f : ℕ) → FrameInUse h f → Scannable h (visit_frame f w)
  unfolding visit_frame
  frame_keeps f u = go (eqb (get_or w.marks f 0) 0) refl
    where
      go : (b : Bool) → eqb (get_or w.marks f 0) 0 ≡ b → Scannable h (pick b (work (set w.marks f 1) (set w.order w.tail f) (w.tail + 1)) w)
      go false e = s
      go true e =
          let z : get_or w.marks f 0 ≡ 0 = eqb-true _ _ e in
          let lo = s.order_long in
          let lt : w.tail < length w.order = omega (arith, count_room w.marks f u.small z, s.counted) in
          record {
            marks_long = length-set w.marks f 1 ∙ s.marks_long;
            order_long = length-set w.order w.tail f ∙ lo;
            counted = omega (arith, count_more w.marks f u.small s.marks_long z, s.counted);
            queued = below_more (λ k. FrameInUse h (get_or (set w.order w.tail f) k 0)) w.tail
                (λ k kt. rw (get_or-set_other w.order w.tail k f 0 (omega arith)) (s.queued k kt))
                (rw (get_or-set_same w.order w.tail f 0 lt) u);
          }

  text_keeps : (x : Text) → Scannable h (mark_text x w)
  unfolding mark_text
  text_keeps (Text.Literal k) = s
  text_keeps (Text.Made k) = record {
    marks_long = length-set w.marks (256 + k) 1 ∙ s.marks_long;
    order_long = s.order_long;
    counted = s.counted ∙ ap length (sym (count_text w.marks k));
    queued = s.queued;
  }

  pub visit_keeps : (v : Value) → NamesInUse h v → Scannable h (visit_value v w)
  unfolding visit_value
  visit_keeps (Value.Int n) u = s
  visit_keeps (Value.Text x) u = text_keeps x
  visit_keeps (Value.Code n) u = s
  visit_keeps (Value.Frame f) u = frame_keeps f (u.frame f refl)

visitable : (h : List ℕ) (w : Work) (v : Value) → Scannable h w → NamesInUse h v → Visitable w v
visitable h w v s u =
    record { marks_long = s.marks_long; counted = s.counted; frame = λ f e. (u.frame f e).small; made = λ k e. (u.made k e).small }

-- ---- visit_slots

pub record Scan (h : List ℕ) (g : ℕ) (w₀ : Work) (n : ℕ) (w : Work) (i : ℕ) : Type 0 where
  pub inside : i ≤ n
  pub ok : Scannable h w
  pub rest : visit_from h g (n - i) i w ≡ visit_all h g w₀

module _ (h : List ℕ) (g n : ℕ) (en : n ≡ slot_count_at h g) where
  pub scan_start : (w : Work) → Scans h g w → Scan h g w n w 0
  unfolding visit_all
  scan_start w s = record { inside = omega arith; ok = s.ok; rest = ap (λ (k : ℕ). visit_from h g k 0 w) (omega arith) }

  module _ (w w₀ : Work) (i : ℕ) (s : Scan h g w₀ n w i) where
    pub scan_done : n ≤ i → w ≡ visit_all h g w₀
    unfolding visit_from
    scan_done le = rw (left_none n i le) at s.rest

    module _ (w₁ : Work) (a : Scans h g w₁) (lt : i < n) (v : Value) (ev : v ≡ slot_value_at h g i) where
      scan_names : NamesInUse h (slot_value_at h g i)
      scan_names = a.closed.slot g i a.in_use (omega arith)

      pub scan_visitable : Visitable w v
      scan_visitable = visitable h w v s.ok (rw ev scan_names)

      pub scan_again : (w' : Work) → w' ≡ visit_value v w → Scan h g w₀ n w' (i + 1)
      unfolding visit_from
      scan_again w' e =
          let q : w' ≡ visit_value (slot_value_at h g i) w = rw ev at e in
          record {
            inside = omega arith;
            ok = rw q (visit_keeps h w s.ok (slot_value_at h g i) scan_names);
            rest = rw q (rw (left_more n i lt) at s.rest);
          }

-- what visiting a whole frame keeps
from_keeps : (h : List ℕ) (g n i : ℕ) (w : Work) → Closed h → FrameInUse h g → i + n ≤ slot_count_at h g → Scannable h w → Scannable h (visit_from h g n i w)
unfolding visit_from
from_keeps h g zero i w closed u le s = s
from_keeps h g (suc n) i w closed u le s =
    from_keeps h g n (i + 1) (visit_value (slot_value_at h g i) w) closed u (omega arith)
    (visit_keeps h w s (slot_value_at h g i) (closed.slot g i u (omega arith)))

pub all_keeps : (h : List ℕ) (g : ℕ) (w : Work) → Closed h → FrameInUse h g → Scannable h w → Scannable h (visit_all h g w)
unfolding visit_all
all_keeps h g w closed u s = from_keeps h g (slot_count_at h g) 0 w closed u (omega arith) s

-- ---- mark_roots

module _ (h : List ℕ) (w₀ : Work) (a : Starts h w₀) (v : Value) (ev : v ≡ self_held h) where
  pub first_visitable : Visitable w₀ v
  first_visitable = visitable h w₀ v a.ok (rw ev a.closed.self)

  module _ (w : Work) (e : w ≡ visit_value v w₀) (v' : Value) (ev' : v' ≡ program_held h) where
    pub second_visitable : Visitable w v'
    second_visitable = visitable h w v' (rw (e, ev) (visit_keeps h w₀ a.ok (self_held h) a.closed.self)) (rw ev' a.closed.program)

    pub roots_done : (w' : Work) → w' ≡ visit_value v' w → w' ≡ mark_roots h w₀
    unfolding mark_roots
    roots_done w' e' = rw (e', e, ev, ev')

pub roots_keep : (h : List ℕ) (w : Work) → Closed h → Scannable h w → Scannable h (mark_roots h w)
unfolding mark_roots
roots_keep h w closed s =
    visit_keeps h _ (visit_keeps h w s (self_held h) closed.self) (program_held h) closed.program

-- ---- mark_queue

pub record Queue (h : List ℕ) (w₀ w : Work) (k : ℕ) : Type 0 where
  pub inside : k ≤ 256
  pub ok : Scannable h w
  pub rest : mark_queue h (256 - k) k w ≡ mark_queue h 256 0 w₀

pub queue_start : (h : List ℕ) (w : Work) → Starts h w → Queue h w w 0
queue_start h w s = record { inside = omega arith; ok = s.ok; rest = refl }

queue_stop : (h : List ℕ) (n k : ℕ) (w : Work) → w.tail ≤ k → mark_queue h n k w ≡ w
unfolding mark_queue
queue_stop h zero k w le = refl
queue_stop h (suc n) k w le = rw (le-ltb k w.tail le)

pub tail_small : (h : List ℕ) (w : Work) → Scannable h w → w.tail ≤ 256
tail_small h w s = omega (arith, passing_below (marked w.marks) 256, s.counted)

module _ (h : List ℕ) (w₀ w : Work) (k : ℕ) (q : Queue h w₀ w k) where
  pub queue_done : w.tail ≤ k → w ≡ mark_queue h 256 0 w₀
  queue_done le = sym (queue_stop h (256 - k) k w le) ∙ q.rest

  module _ (lt : k < w.tail) where
    pub queue_below : k < 256
    queue_below = omega (arith, tail_small h w q.ok)

    pub queue_scaled : Fits w64 (k * 4)
    queue_scaled = omega (arith, queue_below)

    pub queue_one_more : Fits w64 (k + 1)
    queue_one_more = omega (arith, queue_below)

    pub queue_falls : 256 - (k + 1) < 256 - k
    queue_falls = omega (arith, queue_below)

    module _ (w₁ : Work) (a : Starts h w₁) (g : ℕ) (eg : g ≡ get_or w.order k 0) where
      pub queue_scans : Scans h g w
      queue_scans = record { closed = a.closed; in_use = rw eg (q.ok.queued k lt); ok = q.ok }

      pub queue_again : (w' : Work) → w' ≡ visit_all h g w → Queue h w₀ w' (k + 1)
      unfolding mark_queue
      queue_again w' e' =
          let e : w' ≡ visit_all h (get_or w.order k 0) w = rw eg at e' in
          let b = queue_below in
          record {
            inside = omega arith;
            ok = rw e (all_keeps h (get_or w.order k 0) w a.closed (q.ok.queued k lt) q.ok);
            rest = rw e (rw (left_more 256 k b, lt-ltb k w.tail lt) at q.rest);
          }

-- ---- mark

pub blank_ok : (h : List ℕ) → Closed h → Starts h (work (replicate 512 0) (replicate 256 0) 0)
blank_ok h closed = record {
  closed = closed;
  ok = record {
    marks_long = length-replicate {A = ℕ} 512 0;
    order_long = length-replicate {A = ℕ} 256 0;
    counted = sym (passing_none (marked (replicate 512 0)) 256 (λ j lt. marked_no (replicate 512 0) j (zeros_at 512 j)));
    queued = λ k lt. absurd (omega arith);
  };
}

module _ (h : List ℕ) (w : Work) (e : w ≡ mark_roots h (work (replicate 512 0) (replicate 256 0) 0)) where
  pub started_ok : Closed h → Starts h w
  started_ok closed = record { closed = closed; ok = rw e (roots_keep h _ closed (blank_ok h closed).ok) }

  pub mark_done : (w' : Work) → w' ≡ mark_queue h 256 0 w → w'.marks ≡ mark_all h
  unfolding mark_all blank
  mark_done w' e' = rw (e', e)
