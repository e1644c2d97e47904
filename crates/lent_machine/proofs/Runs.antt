-- Run and collect over well-formed memories, in the terms of the bounded machine. Assumes nothing.
use Prim.Native.Nat.{ℕ}
use mathlib.Core.Path.{◌≡◌}
use mathlib.Core.Bool.{true}
use mathlib.Core.List.{List}
use lib.ListN.{length}
use Rattle.framed.specs.declared.RunAnswer.{RunAnswer}
use Rattle.framed.specs.Answers.{Report, run_report}
use Rattle.framed.specs.Demands.{Memories}
use Rattle.wellformed.specs.WellFormed.{well_formed}
use Rattle.wellformed.proofs.Decides.{well_formed_decides}
use Rattle.bounded.specs.Bounded as bounded
use Rattle.word_store.specs.Store.{word_store}
use Rattle.running.specs.Running.{bounded_held, bounded_run}
use Rattle.run.specs.Run as run
use Rattle.run.specs.Run.{run_call, report_of, run_from}
use Rattle.run.proofs.Means.{follows_here, report_is, run_call_means}
use Rattle.lent_machine.specs.Machine.{Formed, run_lent}

-- ---- Run

module _ (m : Memories) (fuel : ℕ) (out : List ℕ) (w : Formed m) where
  abbrev pub bounded_of : bounded.Ran word_store
  bounded_of = bounded_run m.program m.literal fuel (length out) (bounded_held m.program m.heap m.text)

  true_here : well_formed m.program m.heap m.literal m.text ≡ true
  true_here = (well_formed_decides m.program m.heap m.literal m.text).1 w

  abbrev r : run.Finished
  r = run_from m.program m.literal fuel m.heap m.text out 0

  call_is : run_call m.program m.heap m.literal m.text fuel out ≡ run.running (RunAnswer.Stopped (report_of r)) r.heap r.text r.output
  unfolding run_call
  call_is = rw true_here

  pub run_reports : run_report (run_lent m fuel out).answer (run_lent m fuel out).buffer ≡ Report.ran bounded_of.stop bounded_of.steps (length bounded_of.bytes) bounded_of.bytes
  unfolding run_lent
  run_reports = rw call_is (report_is m.program m.heap m.literal m.text fuel out w)

  pub run_state : bounded_held m.program (run_lent m fuel out).memories.heap (run_lent m fuel out).memories.text ≡ bounded_of.state
  unfolding run_lent
  run_state = rw call_is (follows_here m.program m.heap m.literal m.text fuel out w).state

  pub run_formed : Formed (run_lent m fuel out).memories
  unfolding run_lent
  run_formed = ((run_call_means m.program m.heap m.literal m.text fuel out).ran w).well_formed
