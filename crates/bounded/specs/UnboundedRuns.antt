-- Document 01, "The calls" and the last paragraph of "The endless machine": what runs and lists of calls of the unbounded machine keep. Assumes nothing.
use Rattle.std.specs.Prelude.{◌≡◌, ◌↔◌, true, List, ◌++◌, ℕ, suc, ◌+◌, ◌-◌, ◌≤◌, ◌<◌, length}
use Rattle.framed.specs.Tree.{Instruction, Code, ◌then◌}
use Rattle.framed.specs.Paths.{Path}
use Rattle.framed.specs.Program.{Program}
use Rattle.framed.specs.Machine.{State, Effect, gives, ends, perform, step, start, right_side, frame_literals}
use Rattle.framed.specs.Answers.{Stopped}
use Rattle.framed.specs.Calls.{Unbounded, at_start, advanced, Ran, run, frame_total, Call, calls}
use Rattle.framed.specs.Demands.{NextEnds, steps_in, bytes_in}

-- one run's report, with what a second run does after it
unfoldable pub followed_by : Ran → Ran → Ran
followed_by r q = record { stop = q.stop; steps = r.steps + q.steps; bytes = r.bytes ++ q.bytes; machine = q.machine }

pub record UnboundedRuns : Type 0 where
  -- within the fuel and the space
  pub within : (p : Program) (F T fuel space : ℕ) (u : Unbounded) →
      ((run p F T fuel space u).steps ≤ fuel) × (length (run p F T fuel space u).bytes ≤ space)
  -- a run that stops for want of fuel has made all its steps, and a run with more fuel goes on from the machine that it leaves
  pub fuel_spent : (p : Program) (F T fuel space : ℕ) (u : Unbounded) → (run p F T fuel space u).stop ≡ Stopped.fuel → (run p F T fuel space u).steps ≡ fuel
  pub goes_on : (p : Program) (F T k j space : ℕ) (u : Unbounded) → (run p F T k space u).stop ≡ Stopped.fuel →
      let r = run p F T k space u in
      run p F T (k + j) space u ≡ followed_by r (run p F T j (space - length r.bytes) r.machine)
  -- a run that ends by number keeps its earlier shows: those of the run with just the fuel for the steps before that end
  pub keeps_shows : (p : Program) (F T fuel space e : ℕ) (u : Unbounded) → (run p F T fuel space u).stop ≡ Stopped.end e →
      let r = run p F T fuel space u in
      ((run p F T r.steps space u).steps ≡ r.steps) × ((run p F T r.steps space u).bytes ≡ r.bytes)
  -- it ends with 36 after k steps exactly when the frames reached plus f exceed F at the instruction that it comes to then
  pub frames_full : (p : Program) (F T fuel k space : ℕ) (u : Unbounded) (i : Instruction Path) (rest : Code Path) → k < fuel →
      (run p F T k space u).stop ≡ Stopped.fuel → (run p F T k space u).machine.state.remaining ≡ (i then rest) →
      (((run p F T fuel space u).stop ≡ Stopped.end 36) × ((run p F T fuel space u).steps ≡ k)) ↔
      (F < frame_total (run p F T k space u).machine.state + frame_literals (right_side i))
  -- at an instruction, with fuel and no end mark: it ends at once with e exactly when the step gives that end, and a step whose line has space is made
  pub ends_at_once : (p : Program) (F T fuel space : ℕ) (u : Unbounded) (i : Instruction Path) (rest : Code Path) (e : ℕ) →
      u.state.end_mark ≡ 0 → u.state.remaining ≡ (i then rest) →
      (((run p F T (suc fuel) space u).stop ≡ Stopped.end e) × ((run p F T (suc fuel) space u).steps ≡ 0)) ↔ (step p F T u.state i rest ≡ ends e)
  pub makes_step : (p : Program) (F T space : ℕ) (u : Unbounded) (i : Instruction Path) (rest : Code Path) (x : Effect) →
      u.state.end_mark ≡ 0 → u.state.remaining ≡ (i then rest) → step p F T u.state i rest ≡ gives x → length x.line ≤ space →
      ((run p F T 1 space u).steps ≡ 1) × ((run p F T 1 space u).bytes ≡ x.line) × ((run p F T 1 space u).machine ≡ advanced u x)
  -- the numbers of the ends
  pub rule_ends : (p : Program) (s : State) (i : Instruction Path) (rest : Code Path) (e : ℕ) →
      perform p s.next s.self s.program s.heap rest i ≡ ends e → (31 ≤ e) × (e ≤ 35)
  pub step_ends : (p : Program) (F T : ℕ) (s : State) (i : Instruction Path) (rest : Code Path) (e : ℕ) → step p F T s i rest ≡ ends e → (31 ≤ e) × (e ≤ 37)

pub record UnboundedCalls : Type 0 where
  -- the steps and the bytes that all runs report are the instructions made and the bytes shown
  pub steps : (p : Program) (F T : ℕ) (cs : List Call) → steps_in (calls p F T cs (at_start p)).reports ≡ (calls p F T cs (at_start p)).machine.made
  pub bytes : (p : Program) (F T : ℕ) (cs : List Call) → bytes_in (calls p F T cs (at_start p)).reports ≡ (calls p F T cs (at_start p)).machine.shown
  -- an end stands exactly when a run tried the next instruction and it gives that end
  pub ends_stand : (p : Program) (F T : ℕ) (cs : List Call) → (start p).end_mark ≡ 0 → (e : ℕ) → 31 ≤ e → e ≤ 37 →
      let u = (calls p F T cs (at_start p)).machine in
      (u.state.end_mark ≡ e) ↔ ((u.tried ≡ true) × NextEnds p F T u.state e)
