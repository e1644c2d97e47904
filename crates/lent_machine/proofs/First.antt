-- Demand 1, what concerns run and collect. For any load and look. Assumes nothing.
use Prim.Native.Nat.{ℕ, ◌≤◌}
use mathlib.Core.Path.{◌≡◌, refl, ◌∙◌, ap, sym, subst}
use mathlib.Core.Logic.{◌≢◌, ◌⊎◌, inl, inr}
use mathlib.Core.Bool.{Bool, true, false, true≢false}
use mathlib.Core.List.{List}
use native.Mathlib.Omega.{arith}
use lib.ListN.{length, drop}
use Rattle.framed.specs.declared.RunReport.{RunReport}
use Rattle.framed.specs.declared.RunAnswer.{RunAnswer}
use Rattle.framed.specs.declared.CollectAnswer.{CollectAnswer}
use Rattle.framed.specs.Answers.{Stopped, Report, run_report, collect_report}
use Rattle.framed.specs.Demands.{Memories, Running}
use Rattle.wellformed.specs.WellFormed.{well_formed}
use Rattle.wellformed.proofs.Decides.{well_formed_decides}
use Rattle.collect.specs.Collect.{collect_call}
use Rattle.running.specs.Running.{bounded_run}
use Rattle.run.specs.Run.{run_call}
use Rattle.run.proofs.Means.{run_call_means}
use Rattle.lent_machine.specs.Machine.{Formed, run_lent, collect_lent}
use Rattle.lent_machine.proofs.Reports.{report_kind, stop_in, steps_of}
use Rattle.lent_machine.proofs.Runs.{bounded_of, run_reports}
use Rattle.lent_machine.proofs.Collects.{collect_reports}
use Rattle.lent_machine.proofs.Calls.{bounded_in, B, of_bounded}

-- ---- Kinds of answers, by a number

run_kind : RunAnswer → ℕ
run_kind (RunAnswer.Stopped r) = 0
run_kind RunAnswer.NotWellFormed = 1

with_stop : Stopped → Report → Report
with_stop s (Report.ran why steps count bytes) = Report.ran s steps count bytes
with_stop s (Report.collected f t) = Report.collected f t
with_stop s (Report.refused n) = Report.refused n

-- ---- Well-formed or not

module _ (m : Memories) where
  false_here : ¬ Formed m → well_formed m.program m.heap m.literal m.text ≡ false
  false_here n = go (well_formed m.program m.heap m.literal m.text) refl
    where
      go : (b : Bool) → well_formed m.program m.heap m.literal m.text ≡ b → b ≡ false
      go true e = absurd (n ((well_formed_decides m.program m.heap m.literal m.text).0 e))
      go false e = refl

  formed_or_not : Formed m ⊎ (¬ Formed m)
  formed_or_not = go (well_formed m.program m.heap m.literal m.text) refl
    where
      go : (b : Bool) → well_formed m.program m.heap m.literal m.text ≡ b → Formed m ⊎ (¬ Formed m)
      go true e = inl ((well_formed_decides m.program m.heap m.literal m.text).0 e)
      go false e = inr (λ w. true≢false (sym ((well_formed_decides m.program m.heap m.literal m.text).1 w) ∙ e))

  -- ---- Refused

  pub collect_refused : ¬ Formed m → collect_lent m ≡ record { answer = CollectAnswer.NotWellFormed; memories = m }
  unfolding collect_lent collect_call
  collect_refused n = rw (false_here n)

  pub collect_answers : Formed m → (collect_lent m).answer ≢ CollectAnswer.NotWellFormed
  unfolding report_kind
  collect_answers w e =
      let z : ◌≡◌ {A = ℕ} 2 1 = sym (ap (λ (a : CollectAnswer). report_kind (collect_report a)) e) ∙ ap report_kind (collect_reports m w) in
      absurd (omega arith)

  module _ (fuel : ℕ) (out : List ℕ) where
    pub run_refused : ¬ Formed m → run_lent m fuel out ≡ record { answer = RunAnswer.NotWellFormed; buffer = out; memories = m }
    unfolding run_lent run_call
    run_refused n = rw (false_here n)

    pub run_answers : Formed m → (run_lent m fuel out).answer ≢ RunAnswer.NotWellFormed
    unfolding report_kind
    run_answers w e =
        let z : ◌≡◌ {A = ℕ} 2 0 = sym (ap (λ (a : RunAnswer). report_kind (run_report a (run_lent m fuel out).buffer)) e) ∙ ap report_kind (run_reports m fuel out w) in
        absurd (omega arith)

    -- ---- Within the fuel and the buffer

    module _ (r : RunReport) (e : (run_lent m fuel out).answer ≡ RunAnswer.Stopped r) where
      was_formed : Formed m
      unfolding run_kind
      was_formed = go formed_or_not
        where
          go : Formed m ⊎ (¬ Formed m) → Formed m
          go (inl w) = w
          go (inr n) =
              let z : ◌≡◌ {A = ℕ} 1 0 = sym (ap (λ (x : Running). run_kind x.answer) (run_refused n)) ∙ ap run_kind e in
              absurd (omega arith)

      pub run_within : (r.steps ≤ fuel) × (r.bytes ≤ length out)
      unfolding run_lent
      run_within = let x = ((run_call_means m.program m.heap m.literal m.text fuel out).ran was_formed).within r e in (x.0, x.1)

      pub run_writes : drop r.bytes (run_lent m fuel out).buffer ≡ drop r.bytes out
      unfolding run_lent
      run_writes = (((run_call_means m.program m.heap m.literal m.text fuel out).ran was_formed).within r e).2

    -- ---- What was shown is kept

    abbrev reported : ℕ → Report
    reported k = run_report (run_lent m k out).answer (run_lent m k out).buffer

    pub run_keeps_shows : (e steps count : ℕ) (bytes : List ℕ) → reported fuel ≡ Report.ran (Stopped.end e) steps count bytes →
        (why : Stopped) × (reported steps ≡ Report.ran why steps count bytes)
    unfolding report_kind stop_in steps_of with_stop bounded_run
    run_keeps_shows e steps count bytes is = go formed_or_not
      where
        go : Formed m ⊎ (¬ Formed m) → (why : Stopped) × (reported steps ≡ Report.ran why steps count bytes)
        go (inr n) =
            let z : ◌≡◌ {A = ℕ} 2 0 = sym (ap (λ (x : Running). report_kind (run_report x.answer x.buffer)) (run_refused n)) ∙ ap report_kind is in
            absurd (omega arith)
        go (inl w) =
            let y = bounded_of m fuel out w in
            let Y = bounded_of m y.steps out w in
            let same = sym (run_reports m fuel out w) ∙ is in
            let kept = (of_bounded m w).keeps_shows fuel (length out) e (bounded_in m) ((B m w).forth m.heap m.text w) (ap stop_in same) in (
              Y.stop,
              subst (λ (k : ℕ). reported k ≡ Report.ran Y.stop steps count bytes) (ap steps_of same)
                  (run_reports m y.steps out w ∙ (λ i. Report.ran Y.stop (kept.0 i) (length (kept.1 i)) (kept.1 i)) ∙ ap (with_stop Y.stop) same),
            )
