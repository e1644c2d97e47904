-- Run for C: one law for each answer. Assumes nothing.
use mathlib.Core.Path.{◌≡◌}
use mathlib.Core.List.{List}
use Prim.Native.Nat.{ℕ}
use Rattle.framed.specs.declared.RunAnswer.{RunAnswer}
use Rattle.framed.specs.declared.RunReport.{RunReport}
use Rattle.answers.specs.Numbers.{run_number}
use Rattle.run.specs.Run.{running, run_call, RunMeans}
use Rattle.framed_c.specs.Run.{steps_cell, bytes_cell, RunsInC}

module _ (p h l t out h' t' out' : List ℕ) (fuel : ℕ) (a : RunAnswer) (exact : run_call p h l t fuel out ≡ running a h' t' out') (meaning : RunMeans p h l t fuel out a h' t' out') where
  pub stopped : (x : RunReport) (steps bytes r : ℕ) → a ≡ RunAnswer.Stopped x → r ≡ run_number (RunAnswer.Stopped x)
      → RunsInC p h l t fuel out steps bytes r h' t' out' x.steps x.bytes
  unfolding steps_cell bytes_cell
  stopped x steps bytes r e n =
      record {
        answer = a;
        exact = exact;
        meaning = meaning;
        number = rw e n;
        steps_after = rw e;
        bytes_after = rw e;
      }

  pub refused : (steps bytes r : ℕ) → a ≡ RunAnswer.NotWellFormed → r ≡ run_number a → RunsInC p h l t fuel out steps bytes r h' t' out' steps bytes
  unfolding steps_cell bytes_cell
  refused steps bytes r e n =
      record {
        answer = a;
        exact = exact;
        meaning = meaning;
        number = n;
        steps_after = rw e;
        bytes_after = rw e;
      }
