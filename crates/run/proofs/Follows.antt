-- The run's definition follows the bounded machine's run. Assumes nothing.
use Prim.Native.Nat.{ℕ, zero, suc, ◌+◌, ◌-◌, ◌≤◌, ◌<◌}
use mathlib.Core.Path.{◌≡◌, refl, ◌∙◌, ap, sym, subst}
use mathlib.Core.Logic.{inr}
use mathlib.Core.List.{List}
use native.Mathlib.Omega.{arith}
use lib.ListN.{length, length-append}
use Rattle.framed.specs.declared.Stop.{Stop}
use Rattle.framed.specs.Answers.{Stopped, stop_word}
use Rattle.framed.specs.Calls.{position_in}
use Rattle.tables.specs.Fields.{frame_limit, text_limit, instructions, instruction_after}
use Rattle.trees.specs.Held.{program_held, remaining, instruction_held}
use Rattle.trees.proofs.Held.{one_level_held}
use Rattle.heap.specs.Words.{position, end_mark}
use Rattle.splice.specs.Splice.{splice}
use Rattle.splice.proofs.Laws.{splice_length, splice_append}
use Rattle.wellformed.specs.WellFormed.{limits, WellFormed, Formed}
use Rattle.bounded.specs.Bounded.{stopped, one_more}
use Rattle.bounded.specs.Bounded as bounded
use Rattle.bounded.specs.Theorems.{RunWays}
use Rattle.bounded.proofs.Runs.{run_ways}
use Rattle.word_store.specs.Store.{word_store}
use Rattle.word_store.specs.State.{state_held, HeaderFormed}
use Rattle.running.specs.Running.{bounded_held, bounded_run}
use Rattle.running.proofs.Laws.{bounded_form}
use Rattle.step_parts.specs.Step.{CanStep}
use Rattle.step_held.specs.StepHeld.{AttemptHeld, ends, lacks_space, makes}
use Rattle.step_held.proofs.Attempt.{step_held}
use Rattle.stops.specs.Stops.{stop_of}
use Rattle.run.specs.Run.{Finished, finished, more_steps, by_outcome, after_attempt, run_from}
use Rattle.run.specs.Loop.{FollowsRun, RunFollows}
use Rattle.run.proofs.Ways.{stop_number, run_marked, run_done, run_unfuelled, run_attempts}

-- ---- A run that stops without a step made

module _ (p l h t out : List ℕ) (fuel used : ℕ) (why : Stop) (h' : List ℕ) (r : Finished) where
  stops_so : r ≡ finished why used h' t out → HeaderFormed h' (limits p) →
      bounded_run p l fuel (length out - used) (bounded_held p h t) ≡ stopped word_store (stop_word why) (bounded_held p h' t) → FollowsRun p l fuel h t out used r
  unfolding splice
  stops_so e header b = rw e (record { stop = rw b; steps = rw b; used_is = rw b (omega arith); output = rw b; state = rw b; header = header })

-- ---- A step made, and then the rest

module _ (p l h t out : List ℕ) (fuel used : ℕ) (bs h' t' : List ℕ) (m : (fuel : ℕ) →
    bounded_run p l (suc fuel) (length out - used) (bounded_held p h t)
    ≡ one_more word_store bs (bounded_run p l fuel (length out - used - length bs) (bounded_held p h' t'))) (r : Finished)
    (f : FollowsRun p l fuel h' t' (splice out used bs) (used + length bs) r) where
  abbrev later : bounded.Ran word_store
  later = bounded_run p l fuel (length out - used - length bs) (bounded_held p h' t')

  space_is : length (splice out used bs) - (used + length bs) ≡ length out - used - length bs
  space_is = let n = splice_length out used bs in omega arith

  goes_so : FollowsRun p l (suc fuel) h t out used (more_steps 1 r)
  unfolding one_more more_steps
  goes_so = record {
    stop = rw (m fuel) (rw space_is at f.stop);
    steps = rw (m fuel) (let e : r.steps ≡ later.steps = rw space_is at f.steps in omega arith);
    used_is =
        rw (m fuel)
        (let e : r.used ≡ used + length bs + length later.bytes = rw space_is at f.used_is in
        let n = length-append bs later.bytes in
        omega arith);
    output = rw (m fuel) ((rw space_is at f.output) ∙ sym (splice_append out used bs later.bytes));
    state = rw (m fuel) (rw space_is at f.state);
    header = f.header;
  }

-- ---- The run

module _ (p l : List ℕ) where
  module _ (h t out : List ℕ) (used : ℕ) (w : WellFormed p h l t) where
    W : RunWays word_store (program_held p l) (frame_limit p) (text_limit p)
    W = run_ways word_store (program_held p l) (frame_limit p) (text_limit p)

    header : HeaderFormed h (limits p)
    header = (bounded_form p l w.program).header h t w

    marked_so : (fuel e : ℕ) → end_mark h ≡ suc e → FollowsRun p l fuel h t out used (run_from p l fuel h t out used)
    unfolding bounded_run state_held position_in
    marked_so fuel e m =
        stops_so p l h t out fuel used (stop_of (suc e)) h _ (run_marked p l h t out used fuel e m) header
        (rw (stop_number (suc e) (rw m at w.state.end)) (W.marked_or_done fuel (length out - used) (bounded_held p h t) (suc e) (rw m)))

    module _ (unmarked : end_mark h ≡ 0) where
      done_so : (fuel : ℕ) → position h ≡ 0 → FollowsRun p l fuel h t out used (run_from p l fuel h t out used)
      unfolding bounded_run state_held position_in stop_of
      done_so fuel z =
          stops_so p l h t out fuel used (stop_of 0) h _ (run_done p l h t out used unmarked fuel z) header
          (W.marked_or_done fuel (length out - used) (bounded_held p h t) 0 (rw (unmarked, z, (one_level_held p l w.program).finished)))

      module _ (i : ℕ) (here : position h ≡ suc i) where
        there : i < instructions p
        unfolding limits
        there = let q : position h ≤ instructions p = w.state.position_there in omega arith

        unfuelled_so : FollowsRun p l 0 h t out used (run_from p l 0 h t out used)
        unfolding bounded_run state_held position_in
        unfuelled_so =
            stops_so p l h t out 0 used Stop.Fuel h _ (run_unfuelled p l h t out used unmarked i here) header
            (W.out_of_fuel (length out - used) (bounded_held p h t) (instruction_held p i) (remaining p (instruction_after p i))
            (rw (unmarked, here, (one_level_held p l w.program).next i there)))

        can : CanStep p l h t i
        unfolding Formed
        can = record { memories = w; there = there; next = here; unmarked = unmarked }

        attempted_so : (fuel : ℕ) → ((h' t' out' : List ℕ) (used' : ℕ) → WellFormed p h' l t' → used' ≤ length out' →
            FollowsRun p l fuel h' t' out' used' (run_from p l fuel h' t' out' used')) → used ≤ length out → AttemptHeld p l h t i out used →
            FollowsRun p l (suc fuel) h t out used (run_from p l (suc fuel) h t out used)
        unfolding after_attempt by_outcome
        attempted_so fuel on inside (ends e h' x) =
            stops_so p l h t out (suc fuel) used (stop_of e) h' _ (run_attempts p l h t out used unmarked i here fuel ∙ rw x.is) x.header
            (x.runs fuel (length out - used) ∙ ap (λ (y : Stopped). stopped word_store y (bounded_held p h' t)) (sym (stop_number e (inr x.number))))
        attempted_so fuel on inside (lacks_space h' x) =
            stops_so p l h t out (suc fuel) used Stop.Output h' _ (run_attempts p l h t out used unmarked i here fuel ∙ rw x.is) x.header (x.runs fuel)
        attempted_so fuel on inside (makes bs h' t' x) =
            let n = splice_length out used bs in
            let fits = x.fits in
            subst (FollowsRun p l (suc fuel) h t out used) (sym (run_attempts p l h t out used unmarked i here fuel ∙ rw x.is))
            (goes_so p l h t out fuel used bs h' t' x.runs _ (on h' t' (splice out used bs) (used + length bs) x.well_formed (omega arith)))

pub run_follows : RunFollows
run_follows p l zero h t out used w inside = go (end_mark h) refl (position h) refl
  where
    go : (e : ℕ) → end_mark h ≡ e → (z : ℕ) → position h ≡ z → FollowsRun p l 0 h t out used (run_from p l 0 h t out used)
    go (suc e) m z k = marked_so p l h t out used w 0 e m
    go zero m zero k = done_so p l h t out used w m 0 k
    go zero m (suc i) k = unfuelled_so p l h t out used w m i k
run_follows p l (suc fuel) h t out used w inside =
    go (λ h' t' out' used' x y. run_follows p l fuel h' t' out' used' x y) (end_mark h) refl (position h) refl
  where
    go : ((h' t' out' : List ℕ) (used' : ℕ) → WellFormed p h' l t' → used' ≤ length out' → FollowsRun p l fuel h' t' out' used' (run_from p l fuel h' t' out' used')) →
        (e : ℕ) → end_mark h ≡ e → (z : ℕ) → position h ≡ z → FollowsRun p l (suc fuel) h t out used (run_from p l (suc fuel) h t out used)
    go on (suc e) m z k = marked_so p l h t out used w (suc fuel) e m
    go on zero m zero k = done_so p l h t out used w m (suc fuel) k
    go on zero m (suc i) k = attempted_so p l h t out used w m i k fuel on inside (step_held p l h t i out used (can p l h t out used w m i k))
