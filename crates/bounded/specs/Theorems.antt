-- What is proved about the bounded machine over a store that meets the laws. Each type is a theorem's statement; its proof is in proofs/. Assumes nothing.
use Rattle.std.specs.Prelude.{◌≡◌, ◌↔◌, true, false, List, ℕ, suc, ◌+◌, ◌-◌, ◌≤◌, ◌<◌, length, leb}
use Rattle.std.proofs.Math.Option.{some}
use Rattle.framed.specs.declared.Value.{Value}
use Rattle.framed.specs.declared.Text.{Text}
use Rattle.framed.specs.Tree.{Instruction, Code, ◌then◌}
use Rattle.framed.specs.Paths.{Path}
use Rattle.framed.specs.Program.{Program}
use Rattle.framed.specs.Values.{Frame}
use Rattle.framed.specs.Machine.{State, Effect, gives, ends, step, after_step, right_side, frame_literals, join_signs, start}
use Rattle.framed.specs.Machine as M
use Rattle.framed.specs.Answers.{Stopped}
use Rattle.framed.specs.Calls.{Unbounded, Position, at_end, before, position_in, Call, at_start, frame_total, text_total}
use Rattle.framed.specs.Calls as C
use Rattle.framed.specs.Alike.{Alike, InReach}
use Rattle.framed.specs.Demands.{NextEnds, steps_in, bytes_in}
use Rattle.bounded.specs.Views.{frame_at, text_at, entries, Takes}
use Rattle.bounded.specs.Fits.{ProgramFits}
use Rattle.bounded.specs.Store.{Store, Laws}
use Rattle.bounded.specs.Check.{end_of}
use Rattle.bounded.specs.Bounded.{Bounded, over_store, with_mark, state_of, reserve, commit, line, ready, step_end, collected, run, calls}
use Rattle.bounded.specs.Bounded as B
use Rattle.bounded.specs.Relation.{WellFormed, Related}

-- ---- The ways of a run, for any store: what code that runs is held to

module _ {S : Type 0} (𝓞 : Store S) (p : Program) (F T : ℕ) where
  -- where a state stands: marked or done, or at an instruction
  abbrev pub place : Bounded S → Position
  place b = position_in b.end_mark b.remaining

  pub record RunWays : Type 0 where
    pub marked_or_done : (fuel space : ℕ) (b : Bounded S) (e : ℕ) → place b ≡ at_end e → run 𝓞 p F T fuel space b ≡ B.stopped 𝓞 (Stopped.end e) b
    pub out_of_fuel : (space : ℕ) (b : Bounded S) (i : Instruction Path) (rest : Code Path) → place b ≡ before i rest → run 𝓞 p F T 0 space b ≡ B.stopped 𝓞 Stopped.fuel b
    pub step_gives_end : (fuel space : ℕ) (b : Bounded S) (i : Instruction Path) (rest : Code Path) (e : ℕ) → place b ≡ before i rest → step_end 𝓞 p F T b i ≡ suc e →
        run 𝓞 p F T (suc fuel) space b ≡ B.stopped 𝓞 (Stopped.end (suc e)) (with_mark (suc e) (ready 𝓞 F T b i))
    pub line_too_long : (fuel space : ℕ) (b : Bounded S) (i : Instruction Path) (rest : Code Path) → place b ≡ before i rest → step_end 𝓞 p F T b i ≡ 0 →
        leb (length (line 𝓞 p (ready 𝓞 F T b i) i)) space ≡ false → run 𝓞 p F T (suc fuel) space b ≡ B.stopped 𝓞 Stopped.output (ready 𝓞 F T b i)
    pub step_made : (fuel space : ℕ) (b : Bounded S) (i : Instruction Path) (rest : Code Path) → place b ≡ before i rest → step_end 𝓞 p F T b i ≡ 0 →
        leb (length (line 𝓞 p (ready 𝓞 F T b i) i)) space ≡ true →
        run 𝓞 p F T (suc fuel) space b
        ≡ B.one_more 𝓞 (line 𝓞 p (ready 𝓞 F T b i) i)
        (run 𝓞 p F T fuel (space - length (line 𝓞 p (ready 𝓞 F T b i) i)) (commit 𝓞 p (ready 𝓞 F T b i) rest i))

-- ---- The simulation

module _ {S : Type 0} (𝓞 : Store S) (p : Program) (𝓛 : Laws 𝓞 p) (F T : ℕ) where
  -- the program is one of a well-formed memory, and the limits are within the store
  pub record Admitted : Type 0 where
    pub fits : ProgramFits p
    pub F_within : F ≤ entries
    pub T_within : T ≤ entries

  -- one step of both machines, from related states
  pub record StepSimulation : Type 1 where
    -- reserve gives the same answer, and the state after it is related still
    pub reserves : (b : Bounded S) (s : State) → Related 𝓞 p 𝓛 F T b s → (i : Instruction Path) → reserve 𝓞 F T b i ≡ M.reserve F T s.heap.frames s.self s.program i
    pub ready_related : (b : Bounded S) (s : State) → Related 𝓞 p 𝓛 F T b s → (i : Instruction Path) → Related 𝓞 p 𝓛 F T (ready 𝓞 F T b i) s
    -- reserve and check give the end that the unbounded machine's step gives, 0 where it goes on
    pub ends_same : (b : Bounded S) (s : State) → Related 𝓞 p 𝓛 F T b s → (i : Instruction Path) (rest : Code Path) → b.remaining ≡ (i then rest) →
        step_end 𝓞 p F T b i ≡ end_of (step p F T s i rest)
    -- where it goes on, the same line is shown, and the commit leaves a related state
    pub goes_on : (b : Bounded S) (s : State) → Related 𝓞 p 𝓛 F T b s → (i : Instruction Path) (rest : Code Path) → b.remaining ≡ (i then rest) →
        (x : Effect) → step p F T s i rest ≡ gives x →
        (line 𝓞 p (ready 𝓞 F T b i) i ≡ x.line) × Related 𝓞 p 𝓛 F T (commit 𝓞 p (ready 𝓞 F T b i) rest i) (after_step s x)

  -- a step that goes on takes at most its f and t
  abbrev pub StepTakes : Type 0
  StepTakes = (b : Bounded S) → WellFormed 𝓞 p 𝓛 F T b → (i : Instruction Path) (rest : Code Path) → b.remaining ≡ (i then rest) → step_end 𝓞 p F T b i ≡ 0 →
      Takes (𝓞.view (ready 𝓞 F T b i).store) (𝓞.view (commit 𝓞 p (ready 𝓞 F T b i) rest i).store) (frame_literals (right_side i)) (join_signs (right_side i))

  -- a run of both machines: the same stop, steps and bytes, and related states after it
  pub record SameRun (x : B.Ran 𝓞) (y : C.Ran) : Type 1 where
    pub stop : x.stop ≡ y.stop
    pub steps : x.steps ≡ y.steps
    pub bytes : x.bytes ≡ y.bytes
    pub related : Related 𝓞 p 𝓛 F T x.state y.machine.state

  -- a list of calls of both machines: the same reports, and related states after it
  pub record SameSession (x : B.Session 𝓞) (y : C.Session) : Type 1 where
    pub reports : x.reports ≡ y.reports
    pub related : Related 𝓞 p 𝓛 F T x.state y.machine.state

  pub record Simulation : Type 1 where
    pub runs : (fuel space : ℕ) (b : Bounded S) (u : Unbounded) → Related 𝓞 p 𝓛 F T b u.state → SameRun (run 𝓞 p F T fuel space b) (C.run p F T fuel space u)
    pub sessions : (cs : List Call) (b : Bounded S) (u : Unbounded) → Related 𝓞 p 𝓛 F T b u.state → SameSession (calls 𝓞 p F T cs b) (C.calls p F T cs u)
    -- related states are alike, and alike states are related
    pub alike : (b : Bounded S) (s : State) → Related 𝓞 p 𝓛 F T b s → Alike s (state_of 𝓞 b)
    pub related : (b : Bounded S) (s : State) → WellFormed 𝓞 p 𝓛 F T b → Alike s (state_of 𝓞 b) → Related 𝓞 p 𝓛 F T b s
    -- another store that shows the same may stand in its place
    pub same_view : (b : Bounded S) (s : State) (r : S) → 𝓞.view r ≡ 𝓞.view b.store → 𝓛.WellFormed r → Related 𝓞 p 𝓛 F T b s →
        Related 𝓞 p 𝓛 F T (over_store b r) s
    -- every well-formed state is related to itself, taken as a state of the unbounded machine
    pub itself : (b : Bounded S) → WellFormed 𝓞 p 𝓛 F T b → Related 𝓞 p 𝓛 F T b (state_of 𝓞 b)

  -- ---- What follows for the bounded machine alone, from any well-formed state

  pub record BoundedCalls : Type 0 where
    -- run and collect leave well-formed states
    pub run_leaves : (fuel space : ℕ) (b : Bounded S) → WellFormed 𝓞 p 𝓛 F T b → WellFormed 𝓞 p 𝓛 F T (run 𝓞 p F T fuel space b).state
    pub collect_leaves : (b : Bounded S) → WellFormed 𝓞 p 𝓛 F T b → WellFormed 𝓞 p 𝓛 F T (collected 𝓞 b)
    -- within the fuel and the space
    pub run_within : (fuel space : ℕ) (b : Bounded S) → WellFormed 𝓞 p 𝓛 F T b → ((run 𝓞 p F T fuel space b).steps ≤ fuel) × (length (run 𝓞 p F T fuel space b).bytes ≤ space)
    -- a run that ends by number keeps its earlier shows
    pub keeps_shows : (fuel space e : ℕ) (b : Bounded S) → WellFormed 𝓞 p 𝓛 F T b → (run 𝓞 p F T fuel space b).stop ≡ Stopped.end e →
        let r = run 𝓞 p F T fuel space b in
        ((run 𝓞 p F T r.steps space b).steps ≡ r.steps) × ((run 𝓞 p F T r.steps space b).bytes ≡ r.bytes)
    -- 36 exactly where the frames reached plus f exceed F at the instruction that it comes to
    pub frames_full : (fuel k space : ℕ) (b : Bounded S) (i : Instruction Path) (rest : Code Path) → WellFormed 𝓞 p 𝓛 F T b → k < fuel →
        (run 𝓞 p F T k space b).stop ≡ Stopped.fuel → (run 𝓞 p F T k space b).state.remaining ≡ (i then rest) →
        (((run 𝓞 p F T fuel space b).stop ≡ Stopped.end 36) × ((run 𝓞 p F T fuel space b).steps ≡ k)) ↔
        (F < frame_total (state_of 𝓞 (run 𝓞 p F T k space b).state) + frame_literals (right_side i))
    -- at an instruction, with fuel and no end mark: it ends at once with e exactly when the unbounded machine's step from what the store holds gives that end;
    -- and a step whose line has space is made, as that machine makes it
    pub ends_at_once : (fuel space : ℕ) (b : Bounded S) (i : Instruction Path) (rest : Code Path) (e : ℕ) → WellFormed 𝓞 p 𝓛 F T b →
        b.end_mark ≡ 0 → b.remaining ≡ (i then rest) →
        (((run 𝓞 p F T (suc fuel) space b).stop ≡ Stopped.end e) × ((run 𝓞 p F T (suc fuel) space b).steps ≡ 0)) ↔ (step p F T (state_of 𝓞 b) i rest ≡ ends e)
    pub makes_step : (space : ℕ) (b : Bounded S) (i : Instruction Path) (rest : Code Path) (x : Effect) → WellFormed 𝓞 p 𝓛 F T b →
        b.end_mark ≡ 0 → b.remaining ≡ (i then rest) → step p F T (state_of 𝓞 b) i rest ≡ gives x → length x.line ≤ space →
        ((run 𝓞 p F T 1 space b).steps ≡ 1) × ((run 𝓞 p F T 1 space b).bytes ≡ x.line) × Alike (after_step (state_of 𝓞 b) x) (state_of 𝓞 (run 𝓞 p F T 1 space b).state)
    -- collect counts what is reached, and afterwards exactly that is in use
    pub collect_frames : (b : Bounded S) → WellFormed 𝓞 p 𝓛 F T b → 𝓞.frame_count (collected 𝓞 b).store ≡ frame_total (state_of 𝓞 b)
    pub collect_texts : (b : Bounded S) → WellFormed 𝓞 p 𝓛 F T b → 𝓞.text_count (collected 𝓞 b).store ≡ text_total (state_of 𝓞 b)
    pub frames_left : (b : Bounded S) → WellFormed 𝓞 p 𝓛 F T b → (n : ℕ) →
        ((f : Frame) × (frame_at (𝓞.view (collected 𝓞 b).store) n ≡ some f)) ↔ InReach (state_of 𝓞 b) (Value.Frame n)
    pub texts_left : (b : Bounded S) → WellFormed 𝓞 p 𝓛 F T b → (k : ℕ) →
        ((bs : List ℕ) × (text_at (𝓞.view (collected 𝓞 b).store) k ≡ some bs)) ↔ InReach (state_of 𝓞 b) (Value.Text (Text.Made k))

  -- ---- Demand 3, for any store: one claim about the whole list of calls, from a state that is alike to the unbounded machine's start

  pub record AlikeAfter (x : B.Session 𝓞) (y : C.Session) : Type 0 where
    -- each run's stop, steps, byte count and bytes, each collect's totals
    pub reports : x.reports ≡ y.reports
    -- the steps and the bytes reported are the instructions made and the bytes shown
    pub steps : steps_in x.reports ≡ y.machine.made
    pub bytes : bytes_in x.reports ≡ y.machine.shown
    -- end mark, remaining instructions, self and program
    pub states : Alike y.machine.state (state_of 𝓞 x.state)
    pub well_formed : WellFormed 𝓞 p 𝓛 F T x.state
    -- an end stands exactly when a run tried the next instruction and it gives that end
    pub ends_stand : (e : ℕ) → 31 ≤ e → e ≤ 37 → (x.state.end_mark ≡ e) ↔ ((y.machine.tried ≡ true) × NextEnds p F T y.machine.state e)

  pub record AlikeAfterCalls : Type 0 where
    pub alike : (b : Bounded S) → WellFormed 𝓞 p 𝓛 F T b → b.end_mark ≡ 0 → Alike (start p) (state_of 𝓞 b) →
        (cs : List Call) → AlikeAfter (calls 𝓞 p F T cs b) (C.calls p F T cs (at_start p))
