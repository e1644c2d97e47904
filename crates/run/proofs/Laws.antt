-- One law for each way through the functions of this crate. Assumes nothing.
use Prim.Native.Nat.{ℕ, zero, suc, ◌+◌, ◌-◌, ◌^◌, ◌≤◌, ◌<◌}
use mathlib.Core.Path.{◌≡◌, refl, ◌∙◌, ap, sym, subst}
use mathlib.Core.Bool.{Bool, true, false, not}
use mathlib.Core.List.{List, []}
use native.Mathlib.Omega.{arith}
use lib.ListN.{length}
use borrow.Author.Tests.{not-true, not-false}
use mir.Syntax.{w64}
use mir.Val.{Fits}
use Rattle.framed.specs.declared.Stop.{Stop}
use Rattle.framed.specs.declared.RunReport.{RunReport}
use Rattle.framed.specs.declared.RunAnswer.{RunAnswer}
use Rattle.heap.specs.Words.{position, end_mark}
use Rattle.tables.specs.Fields.{instructions}
use Rattle.allocation.specs.declared.Known.{Known}
use Rattle.allocation.specs.Known.{Knows}
use Rattle.allocation.proofs.Laws.{always_known}
use Rattle.stops.specs.Stops.{stop_of, stop_here}
use Rattle.stops.proofs.Laws.{here_marked, here_done, here_fuel}
use Rattle.splice.specs.Splice.{splice}
use Rattle.splice.proofs.Laws.{splice_length}
use Rattle.wellformed.specs.WellFormed.{limits, WellFormed, well_formed, Formed}
use Rattle.wellformed.proofs.Decides.{well_formed_decides}
use Rattle.step_parts.specs.declared.Outcome.{Outcome}
use Rattle.step_parts.specs.Step.{CanAttempt, Attempted, Attempts}
use Rattle.step_held.specs.StepHeld.{AttemptHeld, ends, lacks_space, makes}
use Rattle.step_held.proofs.Attempt.{step_held}
use Rattle.run.specs.Run.{Finished, finished, more_steps, by_outcome, after_attempt, run_from, Running, running, run_call, RunMeans}
use Rattle.run.specs.Loop.{stop_after, Runs, Going}
use Rattle.run.proofs.Ways.{run_marked, run_done, run_unfuelled, run_attempts}
use Rattle.run.proofs.Means.{run_call_means}

-- ---- stop_after

module _ (o : Outcome) where
  pub after_ended : (e : ℕ) (r : Stop) → o ≡ Outcome.Ended e → r ≡ stop_of e → r ≡ stop_after o
  unfolding stop_after
  after_ended e r eo er = rw eo er

  pub after_space : o ≡ Outcome.NoSpace → Stop.Output ≡ stop_after o
  unfolding stop_after
  after_space eo = rw eo

  pub after_made : (n : ℕ) → o ≡ Outcome.Made n → Stop.Fuel ≡ stop_after o
  unfolding stop_after
  after_made n eo = rw eo

-- ---- run_steps

abbrev reported : Stop → ℕ → ℕ → RunReport
reported why steps used = record { stop = why; steps = steps; bytes = used }

steps_again : (r : Finished) (k n : ℕ) → k ≡ n →
    ◌≡◌ {A = Finished} (record { stop = r.stop; steps = k; used = r.used; heap = r.heap; text = r.text; output = r.output })
    (record { stop = r.stop; steps = n; used = r.used; heap = r.heap; text = r.text; output = r.output })
steps_again r k n e = λ i. record { stop = r.stop; steps = e i; used = r.used; heap = r.heap; text = r.text; output = r.output }

-- the outcome of a step, by a number, and the size of a line
outcome_kind : Outcome → ℕ
outcome_kind (Outcome.Ended e) = 0
outcome_kind Outcome.NoSpace = 1
outcome_kind (Outcome.Made n) = 2

line_size : Outcome → ℕ
line_size (Outcome.Ended e) = 0
line_size Outcome.NoSpace = 0
line_size (Outcome.Made n) = n

-- after a step that was made
pub record StepMade (p l h t out : List ℕ) (used n : ℕ) (h' t' out' : List ℕ) : Type 0 where
  pub memories : Formed p l h' t'
  pub heap_size : length h' ≡ length h
  pub text_size : length t' ≡ length t
  pub output_size : length out' ≡ length out
  pub inside : used + n ≤ length out'

module _ (p l h t : List ℕ) (i : ℕ) (out : List ℕ) (used : ℕ) (can : CanAttempt p l h t i out used) (o : Outcome) (h' t' out' : List ℕ)
    (a : Attempts p l h t i out used o h' t' out') where
  step_made : (n : ℕ) → o ≡ Outcome.Made n → StepMade p l h t out used n h' t' out'
  unfolding Formed outcome_kind line_size
  step_made n eo = go (step_held p l h t i out used can.step)
    where
      go : AttemptHeld p l h t i out used → StepMade p l h t out used n h' t' out'
      go (ends e k x) = let z : ◌≡◌ {A = ℕ} 0 2 = ap (λ (y : Attempted). outcome_kind y.answer) (sym x.is ∙ a.exact) ∙ ap outcome_kind eo in absurd (omega arith)
      go (lacks_space k x) = let z : ◌≡◌ {A = ℕ} 1 2 = ap (λ (y : Attempted). outcome_kind y.answer) (sym x.is ∙ a.exact) ∙ ap outcome_kind eo in absurd (omega arith)
      go (makes bs k u x) =
          let same = sym x.is ∙ a.exact in
          let size : length bs ≡ n = ap (λ (y : Attempted). line_size y.answer) same ∙ ap line_size eo in
          let out_size : length (splice out used bs) ≡ length out' = ap (λ (y : Attempted). length y.output) same in
          let kept = splice_length out used bs in
          let fits = x.fits in
          let room = can.inside in
          let then : WellFormed p h' l t' = rw (← ap (λ (y : Attempted). y.heap) same, ← ap (λ (y : Attempted). y.text) same) x.well_formed in
          let now : WellFormed p h l t = can.step.memories in
          record {
            memories = then;
            heap_size = then.state.heap_size ∙ sym now.state.heap_size;
            text_size = then.state.text_size ∙ sym now.state.text_size;
            output_size = omega arith;
            inside = omega arith;
          }

module _ (p l : List ℕ) (fuel : ℕ) (h₀ t₀ out₀ : List ℕ) where
  pub run_starts : Formed p l h₀ t₀ → Going p l fuel h₀ t₀ out₀ h₀ t₀ out₀ 0 0
  unfolding more_steps
  run_starts w = record {
    memories = w;
    heap_size = refl;
    text_size = refl;
    output_size = refl;
    within = omega arith;
    inside = omega arith;
    same =
        let n : fuel ≡ fuel - 0 = omega arith in
        ap (λ (k : ℕ). run_from p l k h₀ t₀ out₀ 0) n ∙ steps_again (run_from p l (fuel - 0) h₀ t₀ out₀ 0) _ (0 + (run_from p l (fuel - 0) h₀ t₀ out₀ 0).steps) (omega arith);
  }

  module _ (h t out : List ℕ) (steps used : ℕ) (g : Going p l fuel h₀ t₀ out₀ h t out steps used) where
    -- what is left stops without a step made
    stops_then : (why : Stop) (h' t' out' : List ℕ) → run_from p l (fuel - steps) h t out used ≡ finished why used h' t' out' → Runs p l fuel h₀ t₀ out₀ (reported why steps used) h' t' out'
    unfolding more_steps
    stops_then why h' t' out' e = record { exact = g.same ∙ ap (more_steps steps) e ∙ steps_again (finished why used h' t' out') (steps + 0) steps (omega arith) }

    marked_stop : (e : ℕ) → end_mark h ≡ suc e → stop_here h ≡ stop_of (suc e)
    marked_stop e m = sym (here_marked h (suc e) (sym m) (stop_of (suc e)) (λ z. absurd (omega arith)) refl)

    done_stop : end_mark h ≡ 0 → position h ≡ 0 → stop_here h ≡ stop_of 0
    unfolding stop_of
    done_stop m k = sym (here_done h 0 (sym m) refl 0 (sym k) refl)

    fuel_stop : (i : ℕ) → end_mark h ≡ 0 → position h ≡ suc i → stop_here h ≡ Stop.Fuel
    fuel_stop i m k = sym (here_fuel h 0 (sym m) refl (suc i) (sym k) (λ z. absurd (omega arith)))

    pub returns_spent : (why : Stop) → fuel ≤ steps → why ≡ stop_here h → Runs p l fuel h₀ t₀ out₀ (reported why steps used) h t out
    returns_spent why le ew =
        let n : fuel - steps ≡ 0 = omega arith in
        stops_then why h t out (ap (λ (k : ℕ). run_from p l k h t out used) n ∙ go (end_mark h) refl (position h) refl)
      where
        go : (e : ℕ) → end_mark h ≡ e → (z : ℕ) → position h ≡ z → run_from p l 0 h t out used ≡ finished why used h t out
        go (suc e) m z k = run_marked p l h t out used 0 e m ∙ ap (λ (x : Stop). finished x used h t out) (sym (ew ∙ marked_stop e m))
        go zero m zero k = run_done p l h t out used m 0 k ∙ ap (λ (x : Stop). finished x used h t out) (sym (ew ∙ done_stop m k))
        go zero m (suc i) k = run_unfuelled p l h t out used m i k ∙ ap (λ (x : Stop). finished x used h t out) (sym (ew ∙ fuel_stop i m k))

    module _ (left : steps < fuel) (e : ℕ) (ee : e ≡ end_mark h) where
      pub returns_marked : (why : Stop) → (e ≡ 0 → ⊥) → why ≡ stop_of e → Runs p l fuel h₀ t₀ out₀ (reported why steps used) h t out
      returns_marked why ne ew = go e ee ne ew
        where
          go : (k : ℕ) → k ≡ end_mark h → (k ≡ 0 → ⊥) → why ≡ stop_of k → Runs p l fuel h₀ t₀ out₀ (reported why steps used) h t out
          go zero m n w = absurd (n refl)
          go (suc k) m n w = stops_then why h t out (rw w (run_marked p l h t out used (fuel - steps) k (sym m)))

      module _ (unmarked : e ≡ 0) (z : ℕ) (ez : z ≡ position h) where
        pub returns_done : z ≡ 0 → Runs p l fuel h₀ t₀ out₀ (reported Stop.Done steps used) h t out
        unfolding stop_of
        returns_done zz = stops_then Stop.Done h t out (run_done p l h t out used (sym ee ∙ unmarked) (fuel - steps) (sym ez ∙ zz))

        module _ (nz : z ≡ 0 → ⊥) where
          at : position h ≡ suc (z - 1)
          at = omega arith

          pub can_attempt : CanAttempt p l h t (z - 1) out used
          unfolding Formed limits
          can_attempt =
              let w : WellFormed p h l t = g.memories in
              let there : position h ≤ instructions p = w.state.position_there in
              record { step = record { memories = w; there = omega arith; next = at; unmarked = sym ee ∙ unmarked }; inside = g.inside }

          module _ (o : Outcome) (h' t' out' : List ℕ) (a : Attempts p l h t (z - 1) out used o h' t' out') where
            tried : run_from p l (fuel - steps) h t out used ≡ by_outcome (λ h t out used. run_from p l (fuel - (steps + 1)) h t out used) used o h' t' out'
            unfolding after_attempt
            tried =
                let n : fuel - steps ≡ suc (fuel - (steps + 1)) = omega arith in
                ap (λ (k : ℕ). run_from p l k h t out used) n
                ∙ run_attempts p l h t out used (sym ee ∙ unmarked) (z - 1) at (fuel - (steps + 1))
                ∙ ap (after_attempt (λ h t out used. run_from p l (fuel - (steps + 1)) h t out used) used) a.exact

            pub returns_stopped : (why : Stop) → ((k : ℕ) → o ≡ Outcome.Made k → ⊥) → why ≡ stop_after o → Runs p l fuel h₀ t₀ out₀ (reported why steps used) h' t' out'
            unfolding by_outcome stop_after
            returns_stopped why other ew = stops_then why h' t' out' (tried ∙ go o other ew)
              where
                go : (x : Outcome) → ((k : ℕ) → x ≡ Outcome.Made k → ⊥) → why ≡ stop_after x →
                    by_outcome (λ h t out used. run_from p l (fuel - (steps + 1)) h t out used) used x h' t' out' ≡ finished why used h' t' out'
                go (Outcome.Ended k) x w = rw w
                go Outcome.NoSpace x w = rw w
                go (Outcome.Made k) x w = absurd (x k refl)

            module _ (n : ℕ) (eo : o ≡ Outcome.Made n) where
              made : StepMade p l h t out used n h' t' out'
              made = step_made p l h t (z - 1) out used can_attempt o h' t' out' a n eo

              pub used_fits : length out₀ < 2 ^ 64 → Fits w64 (used + n)
              used_fits lt =
                  let a = made.inside in
                  let b = made.output_size in
                  let c = g.output_size in
                  omega arith

              pub goes_on : Going p l fuel h₀ t₀ out₀ h' t' out' (steps + 1) (used + n)
              unfolding by_outcome more_steps
              goes_on = record {
                memories = made.memories;
                heap_size = made.heap_size ∙ g.heap_size;
                text_size = made.text_size ∙ g.text_size;
                output_size = made.output_size ∙ g.output_size;
                within = omega arith;
                inside = made.inside;
                same =
                    let later = run_from p l (fuel - (steps + 1)) h' t' out' (used + n) in
                    let tried_on : run_from p l (fuel - steps) h t out used ≡ more_steps 1 later =
                    tried ∙ ap (λ (x : Outcome). by_outcome (λ h t out used. run_from p l (fuel - (steps + 1)) h t out used) used x h' t' out') eo in
                    g.same ∙ ap (more_steps steps) tried_on ∙ steps_again later (steps + (1 + later.steps)) (steps + 1 + later.steps) (omega arith);
              }

-- what is known at first
pub starts_knowing : (h : List ℕ) (k : Known) → k ≡ record { frames = 256; texts = 256; low = 0; least = 0 } → Knows h 0 0 k
starts_knowing h k e = rw e (always_known h)

-- ---- run

module _ (p h l t : List ℕ) (b : Bool) (eb : b ≡ well_formed p h l t) where
  pub formed_here : not b ≡ false → Formed p l h t
  unfolding Formed
  formed_here e = (well_formed_decides p h l t).0 (sym eb ∙ not-false b e)

  module _ (fuel : ℕ) (out : List ℕ) where
    means : (r : RunAnswer) (h' t' out' : List ℕ) → run_call p h l t fuel out ≡ running r h' t' out' → RunMeans p h l t fuel out r h' t' out'
    means r h' t' out' e = subst (λ (x : Running). RunMeans p h l t fuel out x.answer x.heap x.text x.output) e (run_call_means p h l t fuel out)

    pub refused_exact : not b ≡ true → run_call p h l t fuel out ≡ running RunAnswer.NotWellFormed h t out
    unfolding run_call
    refused_exact e = rw (← eb, not-true b e)

    pub refused_means : not b ≡ true → RunMeans p h l t fuel out RunAnswer.NotWellFormed h t out
    refused_means e = means RunAnswer.NotWellFormed h t out (refused_exact e)

    module _ (e : not b ≡ false) (r : RunReport) (h' t' out' : List ℕ) (x : Runs p l fuel h t out r h' t' out') where
      pub ran_exact : run_call p h l t fuel out ≡ running (RunAnswer.Stopped r) h' t' out'
      unfolding run_call
      ran_exact = rw (← eb, not-false b e, x.exact)

      pub ran_means : RunMeans p h l t fuel out (RunAnswer.Stopped r) h' t' out'
      ran_means = means (RunAnswer.Stopped r) h' t' out' ran_exact
