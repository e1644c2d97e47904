-- The three demands, and document 02's promise on a written text (A1), as statements about a machine over lent memories, whatever its layout.
-- `LentMachine` is what a machine's definitions provide: each call as a function of everything lent, and what the memories hold.
-- The statements are proved where the layout is defined; here they are only stated. Assumes nothing.
use Rattle.std.specs.Prelude.{◌≡◌, ◌↔◌, ◌≢◌, true, ℕ, suc, ◌+◌, ◌≤◌, ◌<◌, length, take, drop, get_or}
use mathlib.Core.List.{List, [], ◌∷◌, ◌++◌, Memᴰ}
use Rattle.std.proofs.Math.Option.{some}
use Rattle.framed.specs.declared.Value.{Value}
use Rattle.framed.specs.declared.Text.{Text}
use Rattle.framed.specs.declared.LoadAnswer.{LoadAnswer}
use Rattle.framed.specs.declared.RunReport.{RunReport}
use Rattle.framed.specs.declared.RunAnswer.{RunAnswer}
use Rattle.framed.specs.declared.CollectAnswer.{CollectAnswer}
use Rattle.framed.specs.declared.LookAnswer.{LookAnswer}
use Rattle.framed.specs.declared.WriteAnswer.{WriteAnswer}
use Rattle.framed.specs.declared.MakersAnswer.{MakersAnswer}
use Rattle.framed.specs.Bytes.{class}
use Rattle.framed.specs.Tokens.{tokens}
use Rattle.framed.specs.Tree.{Written, Instruction, Code, ◌then◌}
use Rattle.framed.specs.Paths.{Path}
use Rattle.framed.specs.Meaning.{Lengths, refusal, right_lengths}
use Rattle.framed.specs.Refusals.{Holds}
use Rattle.framed.specs.Program.{Program, program}
use Rattle.framed.specs.Machine.{State, Effect, ends, Ready, step, after_step, start, right_side, frame_literals}
use Rattle.framed.specs.Judgments.{Rule, FirstMet}
use Rattle.framed.specs.Answers.{load_number, Stopped, Report, run_report, collect_report, look_word, Look, write_word}
use Rattle.framed.specs.Calls.{Unbounded, at_start, Call, run_call, collect_call, Session, calls, run, frame_total, text_total, made_by, read_path, look, look_text, LooksAs, LooksTextAs, write, buffer_after}
use Rattle.framed.specs.Alike.{Alike, InReach}

-- the four memories
pub record Memories : Type 0 where
  pub program : List ℕ
  pub heap : List ℕ
  pub literal : List ℕ
  pub text : List ℕ

unfoldable pub lengths : Memories → Lengths
lengths m = record { program = length m.program; heap = length m.heap; literal = length m.literal; text = length m.text }

-- what each call leaves: its answer and everything lent
pub record Loading : Type 0 where
  pub answer : LoadAnswer
  pub memories : Memories

pub record Running : Type 0 where
  pub answer : RunAnswer
  pub buffer : List ℕ
  pub memories : Memories

pub record Collecting : Type 0 where
  pub answer : CollectAnswer
  pub memories : Memories

-- write only reads the memories
pub record Writing : Type 0 where
  pub answer : WriteAnswer
  pub buffer : List ℕ

-- makers (document 02, A5) only reads them, and is lent 513 counts
pub record Counting : Type 0 where
  pub answer : MakersAnswer
  pub counts : List ℕ

pub record LentMachine : Type 1 where
  -- document 01: the memories are whole
  pub WellFormed : Memories → Type 0
  pub load : Memories → (source : List ℕ) → (F T : ℕ) → Loading
  pub run : Memories → (fuel : ℕ) → (buffer : List ℕ) → Running
  pub collect : Memories → Collecting
  pub look : Memories → (path : List ℕ) → LookAnswer
  pub look_text : Memories → (path : List ℕ) → List ℕ
  pub write : Memories → (buffer : List ℕ) → Writing
  pub makers : Memories → (counts : List ℕ) → Counting
  -- the layout: what well-formed memories hold
  pub program_in : Memories → Program
  pub F_in : Memories → ℕ
  pub T_in : Memories → ℕ
  pub state_in : Memories → State
  pub frames_in_use : Memories → List ℕ
  pub texts_in_use : Memories → List ℕ

-- the next instruction, if there is one, gives the end e
pub data NextEnds (p : Program) (F T : ℕ) (s : State) (e : ℕ) : Type 0 where
  gives_end : (i : Instruction Path) (rest : Code Path) → s.remaining ≡ (i then rest) → step p F T s i rest ≡ ends e → NextEnds p F T s e

-- a run that stops so after so many steps, whatever it shows
pub data StopsAfter (why : Stopped) (steps : ℕ) : Report → Type 0 where
  stops : {count : ℕ} {bytes : List ℕ} → StopsAfter why steps (Report.ran why steps count bytes)

-- what all runs of a list report together: steps and bytes
unfoldable pub steps_in : List Report → ℕ
steps_in [] = 0
steps_in (Report.ran why steps count bytes ∷ rs) = steps + steps_in rs
steps_in (Report.collected f t ∷ rs) = steps_in rs
steps_in (Report.refused n ∷ rs) = steps_in rs

unfoldable pub bytes_in : List Report → List ℕ
bytes_in [] = []
bytes_in (Report.ran why steps count bytes ∷ rs) = bytes ++ bytes_in rs
bytes_in (Report.collected f t ∷ rs) = bytes_in rs
bytes_in (Report.refused n ∷ rs) = bytes_in rs

-- a run with the buffer that is lent to it, or a collect
pub data LentCall : Type 0 where
  lent_run : (fuel : ℕ) → (buffer : List ℕ) → LentCall
  lent_collect : LentCall

-- what the unbounded machine is fed: the call's kind, and a run's fuel and buffer length
unfoldable pub fed : List LentCall → List Call
fed [] = []
fed (lent_run fuel buffer ∷ cs) = run_call fuel (length buffer) ∷ fed cs
fed (lent_collect ∷ cs) = collect_call ∷ fed cs

module _ (M : LentMachine) where
  -- a run's report with the bytes that it left in the buffer
  abbrev pub reported : Memories → ℕ → List ℕ → Report
  reported m fuel buffer = run_report (M.run m fuel buffer).answer (M.run m fuel buffer).buffer

  -- the state that a run leaves
  abbrev pub left : Memories → ℕ → List ℕ → State
  left m fuel buffer = M.state_in (M.run m fuel buffer).memories

  -- ---- Demand 1: every call answers (each is a function), within its fuel; a refused call changes nothing lent

  pub record Demand1 : Type 0 where
    pub load_refused : (m : Memories) (source : List ℕ) (F T : ℕ) → refusal (lengths m) source F T ≢ 0 → (M.load m source F T).memories ≡ m
    pub run_refused : (m : Memories) (fuel : ℕ) (buffer : List ℕ) → ¬ M.WellFormed m →
        M.run m fuel buffer ≡ record { answer = RunAnswer.NotWellFormed; buffer = buffer; memories = m }
    pub collect_refused : (m : Memories) → ¬ M.WellFormed m → M.collect m ≡ record { answer = CollectAnswer.NotWellFormed; memories = m }
    pub look_refused : (m : Memories) (path : List ℕ) → ¬ M.WellFormed m → (M.look m path ≡ LookAnswer.NotWellFormed) × (M.look_text m path ≡ [])
    pub write_refused : (m : Memories) (buffer : List ℕ) → ¬ M.WellFormed m →
        M.write m buffer ≡ record { answer = WriteAnswer.NotWellFormed; buffer = buffer }
    pub makers_refused : (m : Memories) (counts : List ℕ) → ¬ M.WellFormed m →
        M.makers m counts ≡ record { answer = MakersAnswer.NotWellFormed; counts = counts }
    -- a buffer that is too short stays as it was
    pub write_short : (m : Memories) (buffer : List ℕ) → (M.write m buffer).answer ≡ WriteAnswer.ShortBuffer → (M.write m buffer).buffer ≡ buffer
    -- no other run or collect is refused
    pub run_answers : (m : Memories) (fuel : ℕ) (buffer : List ℕ) → M.WellFormed m → (M.run m fuel buffer).answer ≢ RunAnswer.NotWellFormed
    pub collect_answers : (m : Memories) → M.WellFormed m → (M.collect m).answer ≢ CollectAnswer.NotWellFormed
    -- within the fuel and the buffer, and only the bytes reported are written
    pub run_within : (m : Memories) (fuel : ℕ) (buffer : List ℕ) (r : RunReport) → (M.run m fuel buffer).answer ≡ RunAnswer.Stopped r →
        (r.steps ≤ fuel) × (r.bytes ≤ length buffer)
    pub run_writes : (m : Memories) (fuel : ℕ) (buffer : List ℕ) (r : RunReport) → (M.run m fuel buffer).answer ≡ RunAnswer.Stopped r →
        drop r.bytes (M.run m fuel buffer).buffer ≡ drop r.bytes buffer
    pub write_within : (m : Memories) (buffer : List ℕ) (n : ℕ) → (M.write m buffer).answer ≡ WriteAnswer.Written n →
        (n ≤ length buffer) × (length (M.write m buffer).buffer ≡ length buffer) × (drop n (M.write m buffer).buffer ≡ drop n buffer)
    -- a run that ends by number keeps its earlier shows: those of the run with just the fuel for the steps before that end
    pub run_keeps_shows : (m : Memories) (fuel : ℕ) (buffer : List ℕ) (e steps count : ℕ) (bytes : List ℕ) →
        reported m fuel buffer ≡ Report.ran (Stopped.end e) steps count bytes →
        (why : Stopped) × (reported m steps buffer ≡ Report.ran why steps count bytes)
    -- load, run and collect leave well-formed memories; run and collect write no program word and no literal byte
    pub load_leaves : (m : Memories) (source : List ℕ) (F T : ℕ) → refusal (lengths m) source F T ≡ 0 → M.WellFormed (M.load m source F T).memories
    pub run_leaves : (m : Memories) (fuel : ℕ) (buffer : List ℕ) → M.WellFormed m → M.WellFormed (M.run m fuel buffer).memories
    pub collect_leaves : (m : Memories) → M.WellFormed m → M.WellFormed (M.collect m).memories
    pub run_keeps : (m : Memories) (fuel : ℕ) (buffer : List ℕ) →
        ((M.run m fuel buffer).memories.program ≡ m.program) × ((M.run m fuel buffer).memories.literal ≡ m.literal)
    pub collect_keeps : (m : Memories) → ((M.collect m).memories.program ≡ m.program) × ((M.collect m).memories.literal ≡ m.literal)

  -- ---- Demand 2: the published rules decide

  pub record Demand2 : Type 0 where
    -- load answers the lowest number that holds, and loads exactly when none holds
    pub load_answers : (m : Memories) (source : List ℕ) (F T : ℕ) → load_number (M.load m source F T).answer ≡ refusal (lengths m) source F T
    pub loads : (m : Memories) (source : List ℕ) (F T : ℕ) →
        ((M.load m source F T).answer ≡ LoadAnswer.Loaded) ↔ ((k : ℕ) → ¬ Holds (lengths m) source F T k)
    -- the memories then hold the source's program and its start
    pub loaded : (m : Memories) (source : List ℕ) (F T : ℕ) → refusal (lengths m) source F T ≡ 0 →
        (program source ≡ some (M.program_in (M.load m source F T).memories))
        × (M.F_in (M.load m source F T).memories ≡ F)
        × (M.T_in (M.load m source F T).memories ≡ T)
        × Alike (start (M.program_in (M.load m source F T).memories)) (M.state_in (M.load m source F T).memories)
    -- at an instruction with fuel, room and no end mark: a step as the judgments say, 31 exactly when none applies and none of 32 to 35 is met
    -- first, and each of these exactly when it is the first met
    pub goes_on : (m : Memories) (buffer : List ℕ) (i : Instruction Path) (rest : Code Path) (x : Effect) → M.WellFormed m →
        let p = M.program_in m in
        let s = M.state_in m in
        Ready (M.F_in m) (M.T_in m) s i rest →
        Rule p s rest i x →
        length x.line ≤ length buffer →
        ((why : Stopped) × (reported m 1 buffer ≡ Report.ran why 1 (length x.line) x.line)) × Alike (after_step s x) (left m 1 buffer)
    pub no_rule : (m : Memories) (fuel : ℕ) (buffer : List ℕ) (i : Instruction Path) (rest : Code Path) → M.WellFormed m →
        let p = M.program_in m in
        let s = M.state_in m in
        Ready (M.F_in m) (M.T_in m) s i rest →
        StopsAfter (Stopped.end 31) 0 (reported m (suc fuel) buffer) ↔
        (((x : Effect) → ¬ Rule p s rest i x)
        × ((e : ℕ) → ¬ FirstMet p s i e))
    pub first_met : (m : Memories) (fuel : ℕ) (buffer : List ℕ) (i : Instruction Path) (rest : Code Path) (e : ℕ) → M.WellFormed m →
        let p = M.program_in m in
        let s = M.state_in m in
        Ready (M.F_in m) (M.T_in m) s i rest → 31 < e →
        StopsAfter (Stopped.end e) 0 (reported m (suc fuel) buffer) ↔ FirstMet p s i e
    -- the stop order: from every unbounded machine that is alike to what the memories hold, the same report and alike states
    pub runs : (m : Memories) (fuel : ℕ) (buffer : List ℕ) (u : Unbounded) → M.WellFormed m → Alike u.state (M.state_in m) →
        let r = run (M.program_in m) (M.F_in m) (M.T_in m) fuel (length buffer) u in
        (reported m fuel buffer ≡ Report.ran r.stop r.steps (length r.bytes) r.bytes) × Alike r.machine.state (left m fuel buffer)
    -- collect reports what is reached, and afterwards exactly that is in use
    pub collects : (m : Memories) → M.WellFormed m →
        collect_report (M.collect m).answer ≡ Report.collected (frame_total (M.state_in m)) (text_total (M.state_in m))
    pub collects_frames : (m : Memories) (n : ℕ) → M.WellFormed m →
        Memᴰ n (M.frames_in_use (M.collect m).memories) ↔ InReach (M.state_in m) (Value.Frame n)
    pub collects_texts : (m : Memories) (k : ℕ) → M.WellFormed m →
        Memᴰ k (M.texts_in_use (M.collect m).memories) ↔ InReach (M.state_in m) (Value.Text (Text.Made k))
    pub collects_alike : (m : Memories) → M.WellFormed m → Alike (M.state_in m) (M.state_in (M.collect m).memories)
    -- look is Fetch over what the memories hold
    pub looks : (m : Memories) (path : List ℕ) → M.WellFormed m → look_word (M.look m path) ≡ look (M.program_in m) (M.state_in m) path
    pub looks_text : (m : Memories) (path : List ℕ) → M.WellFormed m → M.look_text m path ≡ look_text (M.program_in m) (M.state_in m) path
    -- which for a path text is the judgment Fetch: the kind of the value that it gives, or 22 where it gives none
    pub looks_fetch : (m : Memories) (path : List ℕ) (w : Written) (l : Look) → M.WellFormed m → read_path (M.program_in m) (tokens class path) ≡ some w →
        (look_word (M.look m path) ≡ l) ↔ LooksAs (M.state_in m) w l
    pub looks_text_fetch : (m : Memories) (path : List ℕ) (w : Written) (bs : List ℕ) → M.WellFormed m → read_path (M.program_in m) (tokens class path) ≡ some w →
        (M.look_text m path ≡ bs) ↔ LooksTextAs (M.program_in m) (M.state_in m) w bs
    -- makers gives for each instruction the number of the reachable frames that it made, and first of those made at loading
    pub counts_makers : (m : Memories) (counts : List ℕ) → M.WellFormed m → length counts ≡ 513 →
        ((M.makers m counts).answer ≡ MakersAnswer.Counted)
        × (length (M.makers m counts).counts ≡ 513)
        × ((n : ℕ) → n < 513 → get_or (M.makers m counts).counts n 0 ≡ made_by (M.state_in m) n)
    -- which are all of them: no reachable frame has another maker
    pub makers_there : (m : Memories) (n : ℕ) → M.WellFormed m → length (M.program_in m).instructions < n → made_by (M.state_in m) n ≡ 0
    -- write gives the text of the program that the memories hold, whether load made them or not; 23 where the buffer is shorter
    pub writes : (m : Memories) (buffer : List ℕ) → M.WellFormed m →
        (write_word (M.write m buffer).answer ≡ write (M.program_in m) (length buffer))
        × ((M.write m buffer).buffer ≡ buffer_after (M.program_in m) buffer)

  -- ---- Demand 3: one claim about the whole list of calls

  -- the reports of our calls, each call over the memories that the one before left
  unfoldable pub lent_reports : Memories → List LentCall → List Report
  lent_reports m [] = []
  lent_reports m (lent_run fuel buffer ∷ cs) = reported m fuel buffer ∷ lent_reports (M.run m fuel buffer).memories cs
  lent_reports m (lent_collect ∷ cs) = collect_report (M.collect m).answer ∷ lent_reports (M.collect m).memories cs

  unfoldable pub memories_after : Memories → List LentCall → Memories
  memories_after m [] = m
  memories_after m (lent_run fuel buffer ∷ cs) = memories_after (M.run m fuel buffer).memories cs
  memories_after m (lent_collect ∷ cs) = memories_after (M.collect m).memories cs

  -- a run comes to the instruction i, with `rest` behind it, after k steps with fuel left
  pub record ComesTo (m : Memories) (fuel k : ℕ) (buffer : List ℕ) (i : Instruction Path) (rest : Code Path) : Type 0 where
    pub fuel_left : k < fuel
    -- the run with just k units of fuel makes k steps, and leaves the state at that instruction
    pub steps : StopsAfter Stopped.fuel k (reported m k buffer)
    pub next : (left m k buffer).remaining ≡ (i then rest)

  -- the memories after the list of calls, against the unbounded machine that was fed the same list
  pub record AlikeAfter (p : Program) (F T : ℕ) (rs : List Report) (m : Memories) (s : Session) : Type 0 where
    -- each run's stop, steps, byte count and bytes, each collect's totals; none is refused, since that machine refuses none
    pub reports : rs ≡ s.reports
    -- it has made exactly as many instructions, and shown the same bytes, as the runs reported together
    pub steps : steps_in rs ≡ s.machine.made
    pub bytes : bytes_in rs ≡ s.machine.shown
    -- end mark, remaining instructions, self and program
    pub states : Alike s.machine.state (M.state_in m)
    -- each instruction made as many of the frames reached
    pub makers : (n : ℕ) → made_by s.machine.state n ≡ made_by (M.state_in m) n
    -- an end stands exactly when a run tried the next instruction and it gives that end
    pub ends_stand : (e : ℕ) → 31 ≤ e → e ≤ 37 →
        ((M.state_in m).end_mark ≡ e) ↔ ((s.machine.tried ≡ true) × NextEnds p F T s.machine.state e)
    -- a run ends with 36 at an instruction that it comes to exactly when the frames reached plus f exceed F
    pub frames_full : (fuel k : ℕ) (buffer : List ℕ) (i : Instruction Path) (rest : Code Path) → ComesTo m fuel k buffer i rest →
        StopsAfter (Stopped.end 36) k (reported m fuel buffer) ↔ (F < frame_total (left m k buffer) + frame_literals (right_side i))

  pub record Demand3 : Type 0 where
    pub alike : (m : Memories) (source : List ℕ) (F T : ℕ) (p : Program) (cs : List LentCall) →
        refusal (lengths m) source F T ≡ 0 → program source ≡ some p →
        let m₀ = (M.load m source F T).memories in
        AlikeAfter p F T (lent_reports m₀ cs) (memories_after m₀ cs) (calls p F T (fed cs) (at_start p))

  -- ---- Document 02, A1: a written text loads again, and gives the same program

  -- m₁ are memories that load made, with any runs and collects since; w is what write wrote of them, at most 16,384 bytes; k are any four memories of the right
  -- lengths to load it into
  pub record WrittenLoads : Type 0 where
    pub again : (m : Memories) (source : List ℕ) (F T : ℕ) (cs : List LentCall) (buffer : List ℕ) (n : ℕ) (k : Memories) →
        refusal (lengths m) source F T ≡ 0 →
        let m₀ = (M.load m source F T).memories in
        let m₁ = memories_after m₀ cs in
        let w = take n (M.write m₁ buffer).buffer in
        let k₀ = (M.load k w F T).memories in
        (M.write m₁ buffer).answer ≡ WriteAnswer.Written n → n ≤ 16384 → right_lengths (lengths k) ≡ true →
        -- it loads, with the same tree of slots, resolved instructions, literals, names and start, and the same limits
        ((M.load k w F T).answer ≡ LoadAnswer.Loaded)
        × (M.program_in k₀ ≡ M.program_in m₁)
        × (M.F_in k₀ ≡ M.F_in m₁)
        × (M.T_in k₀ ≡ M.T_in m₁)
        -- the four memories are word for word those that the first load left
        × (k₀ ≡ m₀)
        -- and writing that again, after any runs and collects, gives equal bytes
        × ((ds : List LentCall) (other : List ℕ) → n ≤ length other →
        M.write (memories_after k₀ ds) other ≡ record { answer = WriteAnswer.Written n; buffer = w ++ drop n other })
    -- a buffer of 32,767 bytes is never too short for such memories
    pub always_fits : (m : Memories) (source : List ℕ) (F T : ℕ) (cs : List LentCall) (buffer : List ℕ) →
        refusal (lengths m) source F T ≡ 0 → 32767 ≤ length buffer →
        (n : ℕ) × ((M.write (memories_after (M.load m source F T).memories cs) buffer).answer ≡ WriteAnswer.Written n)
    -- and a write of them is refused for a short buffer alone
    pub never_not_well_formed : (m : Memories) (source : List ℕ) (F T : ℕ) (cs : List LentCall) (buffer : List ℕ) → refusal (lengths m) source F T ≡ 0 →
        (M.write (memories_after (M.load m source F T).memories cs) buffer).answer ≢ WriteAnswer.NotWellFormed
