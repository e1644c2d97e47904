-- How many bytes a print has at most. Assumes nothing.
use Prim.Native.Nat.{ℕ, zero, suc, ◌+◌, ◌-◌, ◌^◌, ◌≤◌, ◌<◌}
use mathlib.Core.Path.{◌≡◌, refl, ◌∙◌, ap, sym, subst}
use mathlib.Core.Logic.{◌⊎◌, inl, inr}
use mathlib.Core.Bool.{Bool, true, false}
use mathlib.Core.List.{List, [], ◌∷◌, ◌++◌}
use mathlib.Core.Option.{Option, none, some}
use native.Mathlib.Omega.{arith}
use lib.Dec.{leb}
use lib.ListN.{length, replicate, length-append}
use Rattle.framed.specs.declared.LoadAnswer.{LoadAnswer}
use Rattle.framed.specs.declared.RunAnswer.{RunAnswer}
use Rattle.framed.specs.declared.Stop.{Stop}
use Rattle.framed.specs.Common.{bytes}
use Rattle.framed.specs.Meaning.{Lengths, refusal}
use Rattle.framed.specs.Program.{Program, program}
use Rattle.framed.specs.Values.{digits_within, decimal}
use Rattle.framed.specs.Machine.{Effect, Result, gives, ends, step}
use Rattle.framed.specs.Answers.{load_number, Stopped, stop_word, run_report}
use Rattle.framed.specs.Calls.{Unbounded, at_start, advanced, ended, attempted, Position, at_end, before, position, Ran, stopped, one_more, run, frame_total, text_total}
use Rattle.framed.specs.Framerun.{right_memories, number, stop_bytes, last_line, printed, framerun}
use Rattle.framed.proofs.Digits.{digits_few}
use Rattle.heap.specs.Held.{frames_in_use, texts_in_use}
use Rattle.heap.proofs.Lists.{passing_few}
use Rattle.bounded.proofs.UnboundedRuns.{unbounded_runs}
use Rattle.load.specs.Load.{memories, loaded, load_call, HoldsStart}
use Rattle.load.proofs.Theorems.{load_exact}
use Rattle.load.proofs.Laws.{holds_start}
use Rattle.run.specs.Run.{Running, run_call}
use Rattle.run.proofs.Means.{run_call_means}
use Rattle.lent_machine.proofs.Reports.{report_kind, stop_in, frames_of, texts_of}
use Rattle.lent_machine.proofs.Collects.{collect_reports, collect_alongside}
use Rattle.printed_run.specs.Longest.{longest, LongestPrint}
use Rattle.printed_run.proofs.Reports.{zeros, right, run_of, ran_report, RanFromStart, ran_from_start}

-- ---- The digits of a number

number_few : (k n : ℕ) → n < 10 ^ suc k → length (number n) ≤ suc k
unfolding number decimal
number_few k n lt = digits_few (suc n) n k lt

-- ---- How a run stops, and after how many steps

module _ (p : Program) (F T : ℕ) where
  abbrev Early : ℕ → Ran → Type 0
  Early fuel r = r.stop ≡ Stopped.output → r.steps < fuel

  early_end : (fuel e : ℕ) (u : Unbounded) → Early fuel (stopped (Stopped.end e) u)
  early_end fuel e u is = let z : ◌≡◌ {A = ℕ} 0 1 = cc in absurd (omega arith)

  early_fuel : (fuel : ℕ) (u : Unbounded) → Early fuel (stopped Stopped.fuel u)
  early_fuel fuel u is = let z : ◌≡◌ {A = ℕ} 0 1 = cc in absurd (omega arith)

  -- by what the step gives
  abbrev tried : ℕ → ℕ → Unbounded → Result Effect → Ran
  tried fuel space u o =
      elim o [
        | ends e ↦ stopped (Stopped.end e) (ended e u)
        | gives x ↦
            elim (leb (length x.line) space) [
              | false ↦ stopped Stopped.output (attempted u)
              | true ↦ one_more x.line (run p F T fuel (space - length x.line) (advanced u x))
            ]
      ]

  -- where it stops for want of space, it has fuel for the instruction
  output_early : (fuel space : ℕ) (u : Unbounded) → Early fuel (run p F T fuel space u)
  unfolding run one_more
  output_early zero space u = go (position u.state)
    where
      go : (q : Position) → Early 0 (elim q [ at_end e ↦ stopped (Stopped.end e) u | before i rest ↦ stopped Stopped.fuel u ])
      go (at_end e) = early_end 0 e u
      go (before i rest) = early_fuel 0 u
  output_early (suc fuel) space u = go (position u.state) (output_early fuel)
    where
      lined : (x : Effect) (t : Bool) → ((n : ℕ) (v : Unbounded) → Early fuel (run p F T fuel n v)) →
          Early (suc fuel) (elim t [ false ↦ stopped Stopped.output (attempted u) | true ↦ one_more x.line (run p F T fuel (space - length x.line) (advanced u x)) ])
      lined x false ih is = omega arith
      lined x true ih is = let less = ih (space - length x.line) (advanced u x) is in omega arith

      given : (o : Result Effect) → ((n : ℕ) (v : Unbounded) → Early fuel (run p F T fuel n v)) → Early (suc fuel) (tried fuel space u o)
      given (ends e) ih = early_end (suc fuel) e (ended e u)
      given (gives x) ih = lined x (leb (length x.line) space) ih

      go : (q : Position) → ((n : ℕ) (v : Unbounded) → Early fuel (run p F T fuel n v)) →
          Early (suc fuel) (elim q [ at_end e ↦ stopped (Stopped.end e) u | before i rest ↦ tried fuel space u (step p F T u.state i rest) ])
      go (at_end e) ih = early_end (suc fuel) e u
      go (before i rest) ih = given (step p F T u.state i rest) ih

-- 'output' has six bytes, any other stop four at most
stop_few : (s : Stop) → ((stop_word s ≡ Stopped.output) × (length (stop_bytes (stop_word s)) ≤ 6)) ⊎ (length (stop_bytes (stop_word s)) ≤ 4)
unfolding stop_bytes bytes number decimal digits_within
stop_few Stop.Done = inr (omega arith)
stop_few Stop.NoRule = inr (omega arith)
stop_few Stop.DivisorZero = inr (omega arith)
stop_few Stop.IntegerRange = inr (omega arith)
stop_few Stop.TextLength = inr (omega arith)
stop_few Stop.SlotLimit = inr (omega arith)
stop_few Stop.FramesFull = inr (omega arith)
stop_few Stop.TextsFull = inr (omega arith)
stop_few Stop.Fuel = inr (omega arith)
stop_few Stop.Output = inl (refl, omega arith)

-- with the number of steps: eleven
stop_steps_few : (r : Ran) (s : Stop) → r.stop ≡ stop_word s → r.steps ≤ 100000 → (r.stop ≡ Stopped.output → r.steps < 100000) →
    length (stop_bytes r.stop) + length (number r.steps) ≤ 11
stop_steps_few r s is most early = go (stop_few s)
  where
    go : ((stop_word s ≡ Stopped.output) × (length (stop_bytes (stop_word s)) ≤ 6)) ⊎ (length (stop_bytes (stop_word s)) ≤ 4) → length (stop_bytes r.stop) + length (number r.steps) ≤ 11
    go (inl (o, six)) = let n = number_few 4 r.steps (early (is ∙ o)) in rw is (omega arith)
    go (inr four) = let n = number_few 5 r.steps (omega arith) in rw is (omega arith)

-- ---- The last line

frames_few : (h : List ℕ) → length (frames_in_use h) ≤ 256
unfolding frames_in_use
frames_few h = passing_few _ 256

texts_few : (h : List ℕ) → length (texts_in_use h) ≤ 256
unfolding texts_in_use
texts_few h = passing_few _ 256

print_few : (r : Ran) → length r.bytes ≤ 4096 → length (stop_bytes r.stop) + length (number r.steps) ≤ 11 →
    frame_total r.machine.state ≤ 256 → text_total r.machine.state ≤ 256 → length (r.bytes ++ last_line r) ≤ longest
unfolding last_line bytes
print_few r b s f t =
    let m = number_few 2 (frame_total r.machine.state) (omega arith) in
    let n = number_few 2 (text_total r.machine.state) (omega arith) in
    simp length-append (omega arith)

-- ---- From the start of a program

module _ (q : Program) (p h l t : List ℕ) (held : HoldsStart q 256 256 (memories p h l t)) where
  -- a run over memories that hold the start
  abbrev ran : Running
  ran = run_call p h l t 100000 (replicate 4096 0)

  follows : RanFromStart q p l ran.answer ran.heap ran.text ran.output
  follows = ran_from_start q p h l t held _ _ _ _ (run_call_means p h l t 100000 (replicate 4096 0))

  its_stop : (s : Stop) × ((run_of q).stop ≡ stop_word s)
  unfolding report_kind stop_in
  its_stop = go ran.answer follows.reported
    where
      go : (a : RunAnswer) → run_report a ran.output ≡ ran_report q → (s : Stop) × ((run_of q).stop ≡ stop_word s)
      go (RunAnswer.Stopped r) e = (r.stop, sym (ap stop_in e))
      go RunAnswer.NotWellFormed e = let z : ◌≡◌ {A = ℕ} 2 0 = ap report_kind e in absurd (omega arith)

  -- a collect over what the run leaves counts frames and texts of the memories
  totals_few : (frame_total (run_of q).machine.state ≤ 256) × (text_total (run_of q).machine.state ≤ 256)
  unfolding frames_of texts_of
  totals_few =
      let m = memories p ran.heap l ran.text in
      let e = sym (collect_reports m follows.formed) ∙ collect_alongside m follows.formed (run_of q).machine follows.alike in
      (subst (λ (n : ℕ). n ≤ 256) (ap frames_of e) (frames_few _), subst (λ (n : ℕ). n ≤ 256) (ap texts_of e) (texts_few _))

  ran_few : length ((run_of q).bytes ++ last_line (run_of q)) ≤ longest
  ran_few =
      let w = unbounded_runs.within q 256 256 100000 4096 (at_start q) in
      print_few (run_of q) w.1 (stop_steps_few (run_of q) its_stop.0 its_stop.1 w.0 (output_early q 256 256 100000 4096 (at_start q)))
      totals_few.0 totals_few.1

-- ---- Every source

refusal_few : (a : LoadAnswer) → load_number a ≤ 12
refusal_few LoadAnswer.Loaded = omega arith
refusal_few LoadAnswer.MemoryLength = omega arith
refusal_few LoadAnswer.LimitRange = omega arith
refusal_few LoadAnswer.SourceLength = omega arith
refusal_few LoadAnswer.NoToken = omega arith
refusal_few LoadAnswer.Nesting = omega arith
refusal_few LoadAnswer.NotOneFrame = omega arith
refusal_few LoadAnswer.OutsideCode = omega arith
refusal_few LoadAnswer.BadFrame = omega arith
refusal_few LoadAnswer.CountLimit = omega arith
refusal_few LoadAnswer.AboveProgram = omega arith
refusal_few LoadAnswer.NoStart = omega arith
refusal_few LoadAnswer.WrittenFrames = omega arith

pub longest_print : LongestPrint
unfolding framerun printed bytes loaded
longest_print source = go (refusal right_memories source 256 256) refl (program source) refl
  where
    go : (n : ℕ) → refusal right_memories source 256 256 ≡ n → (o : Option Program) → program source ≡ o →
        length {A = ℕ} (elim n [ zero ↦ printed o | suc n ↦ bytes "refused " ++ (number (suc n) ++ (10 ∷ [])) ]) ≤ longest
    go zero e none g = omega arith
    go zero e (some q) g = ran_few q _ _ _ _ (holds_start zeros source 256 256 q (ap (λ (m : Lengths). refusal m source 256 256) right ∙ e) g)
    go (suc n) e o g =
        let a = (load_exact zeros source 256 256).number ∙ ap (λ (m : Lengths). refusal m source 256 256) right ∙ e in
        let few = refusal_few (load_call zeros source 256 256).answer in
        let d = number_few 1 (suc n) (omega arith) in
        simp length-append (omega arith)
