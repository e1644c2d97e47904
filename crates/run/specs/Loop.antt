-- The run's loop, and what its definition follows: the bounded machine's run on the state that the memories hold. Assumes nothing.
use Rattle.std.specs.Prelude.{ℕ, ◌+◌, ◌-◌, ◌≤◌, ◌≡◌, List, length}
use Rattle.framed.specs.declared.Stop.{Stop}
use Rattle.framed.specs.declared.RunReport.{RunReport}
use Rattle.framed.specs.Answers.{stop_word}
use Rattle.stops.specs.Stops.{stop_of}
use Rattle.splice.specs.Splice.{splice}
use Rattle.wellformed.specs.WellFormed.{limits, WellFormed, Formed}
use Rattle.word_store.specs.State.{HeaderFormed}
use Rattle.running.specs.Running.{bounded_held, bounded_run}
use Rattle.step_parts.specs.declared.Outcome.{Outcome}
use Rattle.run.specs.Run.{Finished, more_steps, run_from}

-- the definition against the bounded machine
pub record FollowsRun (p l : List ℕ) (fuel : ℕ) (h t out : List ℕ) (used : ℕ) (r : Finished) : Type 0 where
  pub stop : stop_word r.stop ≡ (bounded_run p l fuel (length out - used) (bounded_held p h t)).stop
  pub steps : r.steps ≡ (bounded_run p l fuel (length out - used) (bounded_held p h t)).steps
  pub used_is : r.used ≡ used + length (bounded_run p l fuel (length out - used) (bounded_held p h t)).bytes
  pub output : r.output ≡ splice out used (bounded_run p l fuel (length out - used) (bounded_held p h t)).bytes
  pub state : bounded_held p r.heap r.text ≡ (bounded_run p l fuel (length out - used) (bounded_held p h t)).state
  pub header : HeaderFormed r.heap (limits p)

abbrev pub RunFollows : Type 0
RunFollows = (p l : List ℕ) (fuel : ℕ) (h t out : List ℕ) (used : ℕ) → WellFormed p h l t → used ≤ length out →
    FollowsRun p l fuel h t out used (run_from p l fuel h t out used)

-- ---- The code's loop

-- the stop after a step that was not made
unfoldable pub stop_after : Outcome → Stop
stop_after (Outcome.Ended e) = stop_of e
stop_after Outcome.NoSpace = Stop.Output
stop_after (Outcome.Made n) = Stop.Fuel

-- the report and what is lent to be written at exit
pub record Runs (p l : List ℕ) (fuel : ℕ) (h t out : List ℕ) (r : RunReport) (h' t' out' : List ℕ) : Type 0 where
  pub exact : run_from p l fuel h t out 0 ≡ record { stop = r.stop; steps = r.steps; used = r.bytes; heap = h'; text = t'; output = out' }

-- after some steps: what is left gives the same as the whole
pub record Going (p l : List ℕ) (fuel : ℕ) (h₀ t₀ out₀ : List ℕ) (h t out : List ℕ) (steps used : ℕ) : Type 0 where
  pub memories : Formed p l h t
  pub heap_size : length h ≡ length h₀
  pub text_size : length t ≡ length t₀
  pub output_size : length out ≡ length out₀
  pub within : steps ≤ fuel
  pub inside : used ≤ length out
  pub same : run_from p l fuel h₀ t₀ out₀ 0 ≡ more_steps steps (run_from p l (fuel - steps) h t out used)
