-- Document 01, "The calls", run: what it answers and leaves, for every four memories (program words p, heap words h, literal bytes l, text bytes t), fuel and
-- output buffer, and what that means. Assumes nothing.
use Rattle.std.specs.Prelude.{ℕ, zero, suc, ◌+◌, ◌≤◌, ◌≡◌, List, length, drop}
use Rattle.words.specs.Words.{pick}
use Rattle.framed.specs.declared.Stop.{Stop}
use Rattle.framed.specs.declared.RunReport.{RunReport}
use Rattle.framed.specs.declared.RunAnswer.{RunAnswer}
use Rattle.framed.specs.Answers.{Report, run_report}
use Rattle.framed.specs.Calls.{Unbounded, run}
use Rattle.framed.specs.Alike.{Alike}
use Rattle.tables.specs.Fields.{frame_limit, text_limit}
use Rattle.trees.specs.Held.{program_held}
use Rattle.heap.specs.Words.{position, end_mark}
use Rattle.stops.specs.Stops.{stop_of}
use Rattle.wellformed.specs.WellFormed.{WellFormed, well_formed}
use Rattle.wellformed.specs.Held.{state_held}
use Rattle.step_parts.specs.declared.Outcome.{Outcome}
use Rattle.step_parts.specs.Step.{Attempted, attempt_step}

-- ---- The run, step by step

-- the stop, the steps made, the bytes of the buffer that are written, and what is lent
pub record Finished : Type 0 where
  pub stop : Stop
  pub steps : ℕ
  pub used : ℕ
  pub heap : List ℕ
  pub text : List ℕ
  pub output : List ℕ

abbrev pub finished : Stop → ℕ → List ℕ → List ℕ → List ℕ → Finished
finished why used h t out = record { stop = why; steps = 0; used = used; heap = h; text = t; output = out }

-- k steps were made before
unfoldable pub more_steps : ℕ → Finished → Finished
more_steps k r = record { stop = r.stop; steps = k + r.steps; used = r.used; heap = r.heap; text = r.text; output = r.output }

unfoldable pub by_outcome : (List ℕ → List ℕ → List ℕ → ℕ → Finished) → ℕ → Outcome → List ℕ → List ℕ → List ℕ → Finished
by_outcome on used (Outcome.Ended e) h t out = finished (stop_of e) used h t out
by_outcome on used Outcome.NoSpace h t out = finished Stop.Output used h t out
by_outcome on used (Outcome.Made n) h t out = more_steps 1 (on h t out (used + n))

-- after an attempt at the next instruction, where `on` goes on from the memories, the buffer and how much of it is written
unfoldable pub after_attempt : (List ℕ → List ℕ → List ℕ → ℕ → Finished) → ℕ → Attempted → Finished
after_attempt on used a = by_outcome on used a.answer a.heap a.text a.output

-- with the end, when marked or done; at an instruction, `go` by its number. Here: the end mark and the position word
unfoldable pub unless_ended : ℕ → ℕ → (ℕ → Finished) → (ℕ → Finished) → Finished
unless_ended (suc e) z stop go = stop (suc e)
unless_ended zero zero stop go = stop 0
unless_ended zero (suc i) stop go = go i

-- Before each instruction it stops, in this order: with the end, when marked or done; with 'fuel'; with the end that the step gives; with 'output'
unfoldable pub run_from : (p l : List ℕ) → (fuel : ℕ) → (h t out : List ℕ) → (used : ℕ) → Finished
run_from p l zero h t out used =
    unless_ended (end_mark h) (position h) (λ e. finished (stop_of e) used h t out) (λ i. finished Stop.Fuel used h t out)
run_from p l (suc fuel) h t out used =
    unless_ended (end_mark h) (position h) (λ e. finished (stop_of e) used h t out)
    (λ i. after_attempt (λ h t out used. run_from p l fuel h t out used) used (attempt_step p l h t i out used))

-- ---- The call

-- the answer, and what is lent to be written at exit
pub record Running : Type 0 where
  pub answer : RunAnswer
  pub heap : List ℕ
  pub text : List ℕ
  pub output : List ℕ

abbrev pub running : RunAnswer → List ℕ → List ℕ → List ℕ → Running
running r h t out = record { answer = r; heap = h; text = t; output = out }

abbrev pub report_of : Finished → RunReport
report_of r = record { stop = r.stop; steps = r.steps; bytes = r.used }

unfoldable pub run_call : List ℕ → List ℕ → List ℕ → List ℕ → ℕ → List ℕ → Running
run_call p h l t fuel out =
    let r = run_from p l fuel h t out 0 in
    pick (well_formed p h l t) (running (RunAnswer.Stopped (report_of r)) r.heap r.text r.output) (running RunAnswer.NotWellFormed h t out)

-- ---- What it means

-- where the memories are well-formed: from every unbounded machine that is alike to what they hold, the same stop, steps, byte count and bytes, and alike states
pub record Ran (p h l t : List ℕ) (fuel : ℕ) (out : List ℕ) (r : RunAnswer) (h' t' out' : List ℕ) : Type 0 where
  pub reported : (u : Unbounded) → Alike u.state (state_held p h t) →
      let y = run (program_held p l) (frame_limit p) (text_limit p) fuel (length out) u in
      run_report r out' ≡ Report.ran y.stop y.steps (length y.bytes) y.bytes
  pub alike : (u : Unbounded) → Alike u.state (state_held p h t) →
      Alike (run (program_held p l) (frame_limit p) (text_limit p) fuel (length out) u).machine.state (state_held p h' t')
  -- within the fuel and the buffer; only the bytes reported are written
  pub within : (x : RunReport) → r ≡ RunAnswer.Stopped x → (x.steps ≤ fuel) × (x.bytes ≤ length out) × (drop x.bytes out' ≡ drop x.bytes out)
  pub output_size : length out' ≡ length out
  pub well_formed : WellFormed p h' l t'

-- 20, with nothing changed, exactly where they are not well-formed
pub record RunMeans (p h l t : List ℕ) (fuel : ℕ) (out : List ℕ) (r : RunAnswer) (h' t' out' : List ℕ) : Type 0 where
  pub refused : ¬ WellFormed p h l t → (r ≡ RunAnswer.NotWellFormed) × (h' ≡ h) × (t' ≡ t) × (out' ≡ out)
  pub ran : WellFormed p h l t → Ran p h l t fuel out r h' t' out'

-- what the exact part says means this
abbrev pub RunCallMeans : Type 0
RunCallMeans = (p h l t : List ℕ) (fuel : ℕ) (out : List ℕ) →
    let x = run_call p h l t fuel out in
    RunMeans p h l t fuel out x.answer x.heap x.text x.output
