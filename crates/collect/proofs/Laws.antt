-- One law for each way through `collect`, exactly and in its meaning; collecting twice. Assumes nothing.
use mathlib.Core.Path.{◌≡◌, refl, sym, ap, ◌∙◌, subst}
use mathlib.Core.Bool.{Bool, true, false, not, true≢false}
use mathlib.Core.List.{List}
use Prim.Native.Nat.{ℕ}
use borrow.Author.Tests.{not-true, not-false}
use Rattle.framed.specs.declared.CollectAnswer.{CollectAnswer}
use Rattle.framed.specs.declared.Totals.{Totals}
use Rattle.framed.specs.Answers.{Report}
use Rattle.framed.specs.Calls.{frame_total, text_total}
use Rattle.heap.specs.Closed.{Closed}
use Rattle.heap.specs.Held.{heap_held}
use Rattle.state_form.specs.Form.{StateWellFormed}
use Rattle.state_form.proofs.Facts.{well_formed_closed}
use Rattle.wellformed.specs.WellFormed.{limits, WellFormed, well_formed}
use Rattle.wellformed.specs.Held.{state_held}
use Rattle.wellformed.proofs.Decides.{well_formed_decides}
use Rattle.collector.specs.Collect.{Collection, collection, collect_heap}
use Rattle.collector.specs.Collected.{Collected}
use Rattle.collector.proofs.Kept.{collect_well_formed}
use Rattle.collector.proofs.Means as collector
use Rattle.collect.specs.Collect.{Collecting, collecting, collect_call, Reached, CollectMeans, CollectTwice}

module _ (p h l t : List ℕ) (b : Bool) (eb : b ≡ well_formed p h l t) where
  is_formed : b ≡ true → WellFormed p h l t
  is_formed e = (well_formed_decides p h l t).0 (sym eb ∙ e)

  -- what collect_heap requires
  pub closed_here : not b ≡ false → Closed h
  closed_here e = well_formed_closed (is_formed (not-false b e)).state

  pub refused_exact : not b ≡ true → collect_call p h l t ≡ collecting CollectAnswer.NotWellFormed h
  unfolding collect_call
  refused_exact e = rw (← eb, not-true b e)

  pub refused_means : not b ≡ true → CollectMeans p h l t CollectAnswer.NotWellFormed h
  refused_means e = record {
    refused = λ n. (refl, refl);
    collected = λ w. absurd (true≢false (sym ((well_formed_decides p h l t).1 w) ∙ (sym eb ∙ not-true b e)));
  }

  module _ (r : Totals) (h' : List ℕ) (e : not b ≡ false) where
    pub collected_exact : collect_heap h ≡ collection r h' → collect_call p h l t ≡ collecting (CollectAnswer.Collected r) h'
    unfolding collect_call
    collected_exact q = rw (← eb, not-false b e, q)

    reach_means : Collected h h' r → WellFormed p h' l t → Reached p h l t (CollectAnswer.Collected r) h'
    unfolding state_held heap_held frame_total text_total
    reach_means c w = record {
      reported = λ i. Report.collected (c.frames_total i) (c.texts_total i);
      frames = c.frame_in_use;
      texts = c.text_in_use;
      frame_same = c.frame_same;
      text_same = c.text_same t;
      self_same = c.self_same;
      program_same = c.program_same;
      position_same = c.position_same;
      end_mark_same = c.end_mark_same;
      well_formed = w;
    }

    pub collected_means : collect_heap h ≡ collection r h' → Collected h h' r → CollectMeans p h l t (CollectAnswer.Collected r) h'
    collected_means q c =
        let w = is_formed (not-false b e) in
        record {
          refused = λ n. absurd (n w);
          collected = λ v. reach_means c (record { program = w.program; state = subst (λ (x : Collection). StateWellFormed x.words t (limits p)) q (collect_well_formed h t (limits p) w.state) });
        }

-- ---- Collecting twice

call_collects : (p h l t : List ℕ) → WellFormed p h l t →
    collect_call p h l t ≡ collecting (CollectAnswer.Collected (collect_heap h).totals) (collect_heap h).words
unfolding collect_call
call_collects p h l t w = rw ((well_formed_decides p h l t).1 w)

pub collect_twice : CollectTwice
collect_twice p h l t w =
    let c : StateWellFormed (collect_heap h).words t (limits p) = collect_well_formed h t (limits p) w.state in
    let v : WellFormed p (collect_heap h).words l t = record { program = w.program; state = c } in
    let e = collector.collect_twice h (well_formed_closed w.state) in
    ap (λ (x : Collecting). collect_call p x.heap l t) (call_collects p h l t w)
    ∙ (call_collects p (collect_heap h).words l t v
    ∙ (ap (λ (x : Collection). collecting (CollectAnswer.Collected x.totals) x.words) e ∙ sym (call_collects p h l t w)))
