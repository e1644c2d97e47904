-- What the run's exact part means. Assumes nothing.
use Prim.Native.Nat.{ℕ, ◌+◌, ◌-◌, ◌≤◌}
use mathlib.Core.Path.{◌≡◌, refl, ◌∙◌, ap, sym, subst}
use mathlib.Core.Bool.{Bool, true, false, true≢false}
use mathlib.Core.List.{List, ◌++◌}
use native.Mathlib.Omega.{arith}
use lib.ListN.{length, take, drop}
use lib.Seq.{take-append_seam, drop-append_seam}
use Rattle.words.specs.Words.{pick}
use Rattle.framed.specs.declared.RunReport.{RunReport}
use Rattle.framed.specs.declared.RunAnswer.{RunAnswer}
use Rattle.framed.specs.Answers.{Stopped, stop_word, Report, run_report}
use Rattle.tables.specs.Fields.{frame_limit, text_limit}
use Rattle.trees.specs.Held.{program_held}
use Rattle.splice.proofs.Laws.{splice_length, splice_fits}
use Rattle.wellformed.specs.WellFormed.{WellFormed, well_formed}
use Rattle.wellformed.proofs.Decides.{well_formed_decides}
use Rattle.bounded.specs.Bounded as bounded
use Rattle.bounded.proofs.Theorems.{bounded_calls}
use Rattle.word_store.specs.Store.{word_store}
use Rattle.running.specs.Running.{bounded_held, bounded_run, Follows}
use Rattle.running.proofs.Laws.{bounded_form, follows_leaves, follows_alongside}
use Rattle.run.specs.Run.{Finished, run_from, running, report_of, run_call, Ran, RunMeans, RunCallMeans}
use Rattle.run.specs.Loop.{FollowsRun}
use Rattle.run.proofs.Follows.{run_follows}

module _ (p h l t : List ℕ) (fuel : ℕ) (out : List ℕ) (w : WellFormed p h l t) where
  abbrev pub r : Finished
  r = run_from p l fuel h t out 0

  abbrev pub y : bounded.Ran word_store
  y = bounded_run p l fuel (length out) (bounded_held p h t)

  f : FollowsRun p l fuel h t out 0 r
  f = run_follows p l fuel h t out 0 w (omega arith)

  whole : length out - 0 ≡ length out
  whole = omega arith

  pub follows_here : Follows p h l t fuel (length out) (stop_word r.stop) r.steps y.bytes r.heap r.text
  follows_here = record {
    stop = rw whole at f.stop;
    steps_made = rw whole at f.steps;
    shown = refl;
    state = rw whole at f.state;
    header = f.header;
  }

  used_is : r.used ≡ length y.bytes
  used_is = let e : r.used ≡ 0 + length y.bytes = rw whole at f.used_is in omega arith

  pub few : (y.steps ≤ fuel) × (length y.bytes ≤ length out)
  unfolding bounded_run
  few =
      let B = bounded_form p l w.program in
      (bounded_calls word_store (program_held p l) B.laws (frame_limit p) (text_limit p) B.admitted).run_within fuel (length out) (bounded_held p h t) (B.forth h t w)

  output_is : r.output ≡ y.bytes ++ drop (length y.bytes) out
  output_is =
      let n : 0 + length y.bytes ≤ length out = let m = few.1 in omega arith in
      (rw whole at f.output) ∙ splice_fits out 0 y.bytes n ∙ (let z : 0 + length y.bytes ≡ length y.bytes = omega arith in rw z)

  shown_is : take r.used r.output ≡ y.bytes
  shown_is = rw (used_is, output_is) (take-append_seam y.bytes (drop (length y.bytes) out))

  rest_is : drop r.used r.output ≡ drop r.used out
  rest_is = rw (used_is, output_is) (drop-append_seam y.bytes (drop (length y.bytes) out))

  pub report_is : run_report (RunAnswer.Stopped (report_of r)) r.output ≡ Report.ran y.stop y.steps (length y.bytes) y.bytes
  report_is = λ i. Report.ran (follows_here.stop i) (follows_here.steps_made i) (used_is i) (shown_is i)

  abbrev Within : RunReport → Type 0
  Within x = (x.steps ≤ fuel) × (x.bytes ≤ length out) × (drop x.bytes r.output ≡ drop x.bytes out)

  report_in : RunAnswer → RunReport
  report_in (RunAnswer.Stopped x) = x
  report_in RunAnswer.NotWellFormed = report_of r

  pub here : Ran p h l t fuel out (RunAnswer.Stopped (report_of r)) r.heap r.text r.output
  unfolding report_in
  here = record {
    reported = λ u a.
        let z = follows_alongside p h l t fuel (length out) _ _ _ _ _ w follows_here u a in
        report_is ∙ (λ i. Report.ran ((sym follows_here.stop ∙ z.stop) i) ((sym follows_here.steps_made ∙ z.steps_made) i) (length (z.shown i)) (z.shown i));
    alike = λ u a. (follows_alongside p h l t fuel (length out) _ _ _ _ _ w follows_here u a).states;
    within = λ x e. subst Within (ap report_in e) (rw follows_here.steps_made few.0, rw used_is few.1, rest_is);
    output_size = ap length f.output ∙ splice_length out 0 _;
    well_formed = follows_leaves p h l t fuel (length out) _ _ _ _ _ w follows_here;
  }

-- by the test of the memories
abbrev MeansBy : List ℕ → List ℕ → List ℕ → List ℕ → ℕ → List ℕ → Bool → Type 0
MeansBy p h l t fuel out b =
    let f = run_from p l fuel h t out 0 in
    let x = pick b (running (RunAnswer.Stopped (report_of f)) f.heap f.text f.output) (running RunAnswer.NotWellFormed h t out) in
    RunMeans p h l t fuel out x.answer x.heap x.text x.output

pub run_call_means : RunCallMeans
unfolding run_call
run_call_means p h l t fuel out = go (well_formed p h l t) refl
  where
    go : (b : Bool) → well_formed p h l t ≡ b → MeansBy p h l t fuel out (well_formed p h l t)
    go true e = subst (MeansBy p h l t fuel out) (sym e) (record { refused = λ n. absurd (n ((well_formed_decides p h l t).0 e)); ran = λ w. here p h l t fuel out w })
    go false e =
        subst (MeansBy p h l t fuel out) (sym e)
        (record { refused = λ n. (refl, refl, refl, refl); ran = λ w. absurd (true≢false (sym ((well_formed_decides p h l t).1 w) ∙ e)) })
