-- What makers means, and one law for each way through its code. The counts are those of `made_by`: the marked frames of a maker, and the reachable ones
-- of that maker, are two lists of the same frames, each once. Assumes nothing.
use mathlib.Core.Path.{◌≡◌, refl, sym, ◌∙◌, ap, subst}
use mathlib.Core.Bool.{Bool, true, false, not, true≢false}
use mathlib.Core.List.{List, [], ◌∷◌}
use Prim.Native.Nat.{ℕ, ◌≤◌, ◌<◌}
use native.Mathlib.Omega.{arith}
use lib.ListN.{length, get_or}
use lib.Dec.{eqb}
use borrow.Author.Tests.{not-true, not-false, eqb-true, eq-eqb, ne_eqb}
use Rattle.framed.specs.declared.MakersAnswer.{MakersAnswer}
use Rattle.framed.specs.declared.Value.{Value}
use Rattle.framed.specs.Common.{member}
use Rattle.framed.specs.Calls.{maker_in, made_by}
use Rattle.framed.specs.Theorems.{Counts}
use Rattle.framed.specs.Demands.{Counting}
use Rattle.framed.proofs.Lists.{both}
use Rattle.framed.proofs.ReachCounts.{here}
use Rattle.framed.proofs.MakersCounted.{makers_counted}
use Rattle.words.specs.Words.{pick}
use Rattle.tables.specs.Fields.{instructions}
use Rattle.trees.proofs.Held.{instructions_are}
use Rattle.heap.specs.Words.{maker_at}
use Rattle.heap.specs.Held.{frames_held, heap_held}
use Rattle.heap.specs.Closed.{FrameInUse, Closed}
use Rattle.heap.specs.Lists.{passing}
use Rattle.heap.proofs.Held.{maker_of_used}
use Rattle.heap.proofs.Lists.{listed_length, listed_at, same_length, passing_means, passing_has, passing_once}
use Rattle.mark.specs.Mark.{mark_all}
use Rattle.mark.specs.Reached.{Reached}
use Rattle.mark.proofs.ReachLaws.{mark_exact, reached_in_use}
use Rattle.state_form.proofs.Facts.{well_formed_closed}
use Rattle.wellformed.specs.WellFormed.{limits, WellFormed, well_formed}
use Rattle.wellformed.specs.Held.{state_held}
use Rattle.wellformed.proofs.Decides.{well_formed_decides}
use Rattle.makers.specs.Makers.{marked_made, counts_below, MakersFit, counting, makers_call, MakersMeans, MakersIsCount, MakersThere}

-- ---- What is reachable is in use, and has a maker that is there

module _ (p h l t : List ℕ) (w : WellFormed p h l t) where
  closed : Closed h
  closed = well_formed_closed w.state

  in_use : (f : ℕ) → Reached h (Value.Frame f) → FrameInUse h f
  in_use f r = (reached_in_use h closed r).frame f refl

  maker_there : (f : ℕ) → Reached h (Value.Frame f) → maker_at h f ≤ instructions p
  unfolding limits
  maker_there f r = (w.state.frame f (in_use f r)).maker

  maker_held : (f : ℕ) → Reached h (Value.Frame f) → maker_in (frames_held h) f ≡ maker_at h f
  maker_held f r = let u = in_use f r in maker_of_used h f u.small u.used

  -- ---- The marked frames of a maker

  module _ (n : ℕ) where
    counted_by : Counts (λ f. Reached h (Value.Frame f) × (maker_in (frames_held h) f ≡ n)) (made_by (state_held p h t) n)
    unfolding state_held heap_held
    counted_by = makers_counted (state_held p h t) n

    marked_reached : (f : ℕ) → f < 256 → marked_made h (mark_all h) n f ≡ true → Reached h (Value.Frame f) × (maker_in (frames_held h) f ≡ n)
    unfolding marked_made
    marked_reached f lt e =
        let q = both (not (eqb (get_or (mark_all h) f 0) 0)) (eqb (maker_at h f) n) e in
        let r = (mark_exact h closed).frame_sound f lt (λ z. true≢false (sym (eq-eqb (get_or (mark_all h) f 0) 0 z) ∙ not-true _ q.0)) in
        (r, maker_held f r ∙ eqb-true (maker_at h f) n q.1)

    reached_marked : (f : ℕ) → Reached h (Value.Frame f) → maker_in (frames_held h) f ≡ n → marked_made h (mark_all h) n f ≡ true
    unfolding marked_made
    reached_marked f r e =
        rw (ne_eqb (get_or (mark_all h) f 0) 0 ((mark_exact h closed).frame_all f r)) (eq-eqb (maker_at h f) n (sym (maker_held f r) ∙ e))

    marked_count : length (passing (marked_made h (mark_all h) n) 256) ≡ made_by (state_held p h t) n
    marked_count =
        same_length (passing (marked_made h (mark_all h) n) 256) counted_by.list (passing_once (marked_made h (mark_all h) n) 256) counted_by.each_once
        (λ f i. let q = passing_means (marked_made h (mark_all h) n) 256 f i in (counted_by.exactly f).1 (marked_reached f q.0 q.1))
        (λ f i. let q = (counted_by.exactly f).0 i in passing_has (marked_made h (mark_all h) n) 256 f (in_use f q.0).small (reached_marked f q.0 q.1))
        ∙ sym counted_by.counted

pub makers_there : MakersThere
makers_there p h l t w n above = none_listed c.list refl
  where
    c : Counts (λ f. Reached h (Value.Frame f) × (maker_in (frames_held h) f ≡ n)) (made_by (state_held p h t) n)
    c = counted_by p h l t w n

    none_listed : (ns : List ℕ) → c.list ≡ ns → made_by (state_held p h t) n ≡ 0
    none_listed [] e = c.counted ∙ ap {B = ℕ} length e
    none_listed (f ∷ fs) e =
        let q = (c.exactly f).0 (ap (member f) e ∙ here f f fs refl) in
        absurd (let m = maker_there p h l t w f q.0 in let k : maker_at h f ≡ n = sym (maker_held p h l t w f q.0) ∙ q.1 in let z : ⊥ = omega (arith, instructions_are p l) in z)

-- ---- The call

pub call_counts : (p h l t counts : List ℕ) → WellFormed p h l t → makers_call p h l t counts ≡ counting MakersAnswer.Counted (counts_below h (mark_all h) 256)
unfolding makers_call
call_counts p h l t counts w = rw ((well_formed_decides p h l t).1 w)

pub call_refuses : (p h l t counts : List ℕ) → ¬ WellFormed p h l t → makers_call p h l t counts ≡ counting MakersAnswer.NotWellFormed counts
unfolding makers_call
call_refuses p h l t counts n = go (well_formed p h l t) refl
  where
    go : (b : Bool) → well_formed p h l t ≡ b →
        pick b (counting MakersAnswer.Counted (counts_below h (mark_all h) 256)) (counting MakersAnswer.NotWellFormed counts) ≡ counting MakersAnswer.NotWellFormed counts
    go true e = absurd (n ((well_formed_decides p h l t).0 e))
    go false e = refl

pub makers_is_count : MakersIsCount
unfolding counts_below
makers_is_count p h l t counts = record {
  refused = λ n. let e = call_refuses p h l t counts n in (ap (λ (c : Counting). c.answer) e, ap (λ (c : Counting). c.counts) e);
  counted = λ w.
      let e = call_counts p h l t counts w in
      let made : ℕ → ℕ = λ n. length (passing (marked_made h (mark_all h) n) 256) in (
        ap (λ (c : Counting). c.answer) e,
        ap (λ (c : Counting). length c.counts) e ∙ listed_length made 513,
        λ n lt. ap (λ (c : Counting). get_or c.counts n 0) e ∙ listed_at made 513 n 0 lt ∙ marked_count p h l t w n,
      );
}

-- ---- The ways through the code

pub makers_means : (p h l t counts : List ℕ) (r : MakersAnswer) (counts' : List ℕ) → makers_call p h l t counts ≡ counting r counts' → MakersMeans p h l t counts r counts'
makers_means p h l t counts r counts' e = subst (λ (c : Counting). MakersMeans p h l t counts c.answer c.counts) e (makers_is_count p h l t counts)

module _ (p h l t counts : List ℕ) (b : Bool) (eb : b ≡ well_formed p h l t) where
  formed_here : not b ≡ false → WellFormed p h l t
  formed_here e = (well_formed_decides p h l t).0 (sym eb ∙ not-false b e)

  -- what mark requires
  pub closed_here : not b ≡ false → Closed h
  closed_here e = well_formed_closed (formed_here e).state

  pub refused_exact : not b ≡ true → makers_call p h l t counts ≡ counting MakersAnswer.NotWellFormed counts
  unfolding makers_call
  refused_exact e = rw (← eb, not-true b e)

  module _ (e : not b ≡ false) where
    -- what count_reached requires
    pub makers_fit : MakersFit h (mark_all h)
    makers_fit =
        let w = formed_here e in
        record {
          fits = λ f lt m.
              let r = (mark_exact h (closed p h l t w)).frame_sound f lt m in
              let most = w.program.entries.limits.instructions_most in
              let there = maker_there p h l t w f r in
              omega arith;
        }

    pub counted_exact : (counts' : List ℕ) → counts' ≡ counts_below h (mark_all h) 256 → makers_call p h l t counts ≡ counting MakersAnswer.Counted counts'
    counted_exact counts' ec = call_counts p h l t counts (formed_here e) ∙ ap (counting MakersAnswer.Counted) (sym ec)
