-- Document 01, "The calls", run, as C sees it: the stop as a number, and two cells that take steps and bytes. Assumes nothing.
use Rattle.std.specs.Prelude.{◌≡◌, List, ℕ}
use Rattle.framed.specs.declared.RunAnswer.{RunAnswer}
use Rattle.answers.specs.Numbers.{run_number}
use Rattle.run.specs.Run.{running, run_call, RunMeans}

-- what the two cells hold afterwards: a refused call leaves them as they were
unfoldable pub steps_cell : RunAnswer → ℕ → ℕ
steps_cell (RunAnswer.Stopped r) before = r.steps
steps_cell RunAnswer.NotWellFormed before = before

unfoldable pub bytes_cell : RunAnswer → ℕ → ℕ
bytes_cell (RunAnswer.Stopped r) before = r.bytes
bytes_cell RunAnswer.NotWellFormed before = before

-- the call of the crate `run`, its answer as a number and two cells
pub record RunsInC (p h l t : List ℕ) (fuel : ℕ) (out : List ℕ) (steps bytes : ℕ) (r : ℕ) (h' t' out' : List ℕ) (steps' bytes' : ℕ) : Type 0 where
  pub answer : RunAnswer
  pub exact : run_call p h l t fuel out ≡ running answer h' t' out'
  pub meaning : RunMeans p h l t fuel out answer h' t' out'
  pub number : r ≡ run_number answer
  pub steps_after : steps' ≡ steps_cell answer steps
  pub bytes_after : bytes' ≡ bytes_cell answer bytes
