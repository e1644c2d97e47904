-- Document 01, "The calls" and the last paragraph of "The endless machine", on the unbounded machine: run, collect and look; document 02, A1: write,
-- A5: makers; and the list of calls that demand 3 speaks of. Assumes nothing.
use Rattle.std.specs.Prelude.{Bool, true, false, List, [], ◌∷◌, ◌++◌, ℕ, zero, suc, ◌-◌, length, drop, get_or, eqb, leb}
use Rattle.std.proofs.Math.Option.{Option, none, some}
use Rattle.framed.specs.declared.Value.{Value}
use Rattle.framed.specs.Common.{count}
use Rattle.framed.specs.Bytes.{class}
use Rattle.framed.specs.Tokens.{Token, tokens}
use Rattle.framed.specs.Symbols.{numbered}
use Rattle.framed.specs.Tree.{Written, Instruction, Code, ◌then◌}
use Rattle.framed.specs.Parse.{Parsed, fails, parsed, a_path}
use Rattle.framed.specs.Paths.{Path}
use Rattle.framed.specs.Program.{Program}
use Rattle.framed.specs.Values.{Frame, text_bytes, new_frame}
use Rattle.framed.specs.Fetch.{fetch}
use Rattle.framed.specs.Reach.{roots, reached_frames, reached_texts}
use Rattle.framed.specs.Machine.{State, Effect, gives, ends, step, after_step, marked, start}
use Rattle.framed.specs.Judgments.{Fetch⇒}
use Rattle.framed.specs.Writer.{text}
use Rattle.framed.specs.Answers.{Stopped, Report, Look, Wrote}

-- ---- The unbounded machine between two calls (document 01: the endless machine)

pub record Unbounded : Type 0 where
  pub state : State
  -- the bytes shown since the start
  pub shown : List ℕ
  -- the instructions made since the start
  pub made : ℕ
  -- a run came to the next instruction with fuel left and no end mark
  pub tried : Bool

unfoldable pub at_start : Program → Unbounded
at_start p = record { state = start p; shown = []; made = 0; tried = false }

-- a step was made: the next instruction is untried
unfoldable pub advanced : Unbounded → Effect → Unbounded
advanced u x = record { state = after_step u.state x; shown = u.shown ++ x.line; made = suc u.made; tried = false }

-- the next instruction was tried; it gave the end e, or its line was too long
unfoldable pub ended : ℕ → Unbounded → Unbounded
ended e u = record { state = marked e u.state; shown = u.shown; made = u.made; tried = true }

unfoldable pub attempted : Unbounded → Unbounded
attempted u = record { state = u.state; shown = u.shown; made = u.made; tried = true }

-- ---- Run

-- marked or done, with the end (0 done); or at an instruction
pub data Position : Type 0 where
  at_end : ℕ → Position
  before : Instruction Path → Code Path → Position

unfoldable pub position_in : ℕ → Code Path → Position
position_in zero Code.finished = at_end 0
position_in zero (i then rest) = before i rest
position_in (suc e) is = at_end (suc e)

unfoldable pub position : State → Position
position s = position_in s.end_mark s.remaining

-- what a run reports, and the machine after it
pub record Ran : Type 0 where
  pub stop : Stopped
  pub steps : ℕ
  pub bytes : List ℕ
  pub machine : Unbounded

abbrev pub stopped : Stopped → Unbounded → Ran
stopped why u = record { stop = why; steps = 0; bytes = []; machine = u }

-- one step more at the front, with the line that it showed
unfoldable pub one_more : List ℕ → Ran → Ran
one_more line r = record { stop = r.stop; steps = suc r.steps; bytes = line ++ r.bytes; machine = r.machine }

-- Before each instruction the run stops, in this order: with the end, when marked or done; with 'fuel'; with the end that the step gives,
-- which is marked; with 'output', when the line is longer than the space left
unfoldable pub run : Program → (F T : ℕ) → (fuel space : ℕ) → Unbounded → Ran
run p F T zero space u =
    elim (position u.state) [ at_end e ↦ stopped (Stopped.end e) u | before i rest ↦ stopped Stopped.fuel u ]
run p F T (suc fuel) space u =
    elim (position u.state) [
      | at_end e ↦ stopped (Stopped.end e) u
      | before i rest ↦
          elim (step p F T u.state i rest) [
            | ends e ↦ stopped (Stopped.end e) (ended e u)
            | gives x ↦
                elim (leb (length x.line) space) [
                  | false ↦ stopped Stopped.output (attempted u)
                  | true ↦ one_more x.line (run p F T fuel (space - length x.line) (advanced u x))
                ]
          ]
    ]

-- ---- Collect: nothing changes; the totals are the reachable frames and the reachable made texts

unfoldable pub frame_total : State → ℕ
frame_total s = length (reached_frames s.heap.frames (roots s.self s.program))

unfoldable pub text_total : State → ℕ
text_total s = length (reached_texts s.heap.frames (roots s.self s.program))

-- ---- Makers (document 02, A5): how many of the reachable frames each instruction made

-- the maker of frame n
unfoldable pub maker_in : List Frame → ℕ → ℕ
maker_in frames n = (get_or frames n (new_frame 0 [])).maker

-- the reachable frames whose maker is n
unfoldable pub made_by : State → ℕ → ℕ
made_by s n = count (λ f. eqb (maker_in s.heap.frames f) n) (reached_frames s.heap.frames (roots s.self s.program))

-- ---- Look

-- A path text: `self` or one `^` (the program frame) with names, and nothing behind it. A name that the program lacks has the
-- number after the last
unfoldable pub look_path : Parsed Written → Option Written
look_path fails = none
look_path (parsed (Written.self ns) []) = some (Written.self ns)
look_path (parsed (Written.self ns) (t ∷ ts)) = none
look_path (parsed (Written.up zero ns) []) = some (Written.up zero ns)
look_path (parsed (Written.up zero ns) (t ∷ ts)) = none
look_path (parsed (Written.up (suc k) ns) ts) = none

unfoldable pub read_path : Program → Option (List Token) → Option Written
read_path p none = none
read_path p (some ts) = look_path (a_path (numbered p.names 0 0 ts))

unfoldable pub look_from : State → Written → Option Value
look_from s (Written.self ns) = fetch s.heap.frames s.self ns
look_from s (Written.up k ns) = fetch s.heap.frames s.program ns

unfoldable pub kind : List Frame → Value → Look
kind frames (Value.Int z) = Look.integer z
kind frames (Value.Text t) = Look.text
kind frames (Value.Code k) = Look.code
kind frames (Value.Frame n) = Look.frame (maker_in frames n)

-- 21 where the text is not such a path, 22 where Fetch is undefined
unfoldable pub look : Program → State → List ℕ → Look
look p s text =
    elim (read_path p (tokens class text)) [
      | none ↦ Look.refused 21
      | some w ↦ elim (look_from s w) [ none ↦ Look.refused 22 | some v ↦ kind s.heap.frames v ]
    ]

-- its companion: the bytes of a text, for another kind or a refusal none
unfoldable pub text_in : Program → State → Value → List ℕ
text_in p s (Value.Int z) = []
text_in p s (Value.Text t) = text_bytes p.literals s.heap.texts t
text_in p s (Value.Code k) = []
text_in p s (Value.Frame n) = []

unfoldable pub look_text : Program → State → List ℕ → List ℕ
look_text p s text =
    elim (read_path p (tokens class text)) [
      | none ↦ []
      | some w ↦ elim (look_from s w) [ none ↦ [] | some v ↦ text_in p s v ]
    ]

-- By the judgment Fetch: from this value, along these names
unfoldable pub look_root : State → Written → Value
look_root s (Written.self ns) = s.self
look_root s (Written.up k ns) = s.program

unfoldable pub look_names : Written → List ℕ
look_names (Written.self ns) = ns
look_names (Written.up k ns) = ns

abbrev pub LookFinds : State → Written → Value → Type 0
LookFinds s w v = Fetch⇒ s.heap.frames (look_root s w) (look_names w) v

-- what look answers for the path w, and its companion
pub data LooksAs (s : State) (w : Written) : Look → Type 0 where
  found : {v : Value} → LookFinds s w v → LooksAs s w (kind s.heap.frames v)
  undefined : ((v : Value) → ¬ LookFinds s w v) → LooksAs s w (Look.refused 22)

pub data LooksTextAs (p : Program) (s : State) (w : Written) : List ℕ → Type 0 where
  text_found : {v : Value} → LookFinds s w v → LooksTextAs p s w (text_in p s v)
  text_undefined : ((v : Value) → ¬ LookFinds s w v) → LooksTextAs p s w []

-- ---- Write (document 02, A1)

-- 23 where the buffer has less space than the text is long
unfoldable pub write : Program → (space : ℕ) → Wrote
write p space = elim (leb (length (text p)) space) [ true ↦ Wrote.wrote (length (text p)) | false ↦ Wrote.refused 23 ]

-- what the buffer holds then: the text, and behind it the bytes that were there; where it is refused, those alone
unfoldable pub buffer_after : Program → List ℕ → List ℕ
buffer_after p buffer =
    elim (leb (length (text p)) (length buffer)) [ true ↦ text p ++ drop (length (text p)) buffer | false ↦ buffer ]

-- ---- The list of calls after an accepted load

pub data Call : Type 0 where
  run_call : (fuel space : ℕ) → Call
  collect_call : Call

pub record Session : Type 0 where
  pub reports : List Report
  pub machine : Unbounded

unfoldable pub first_report : Report → Session → Session
first_report r s = record { reports = r ∷ s.reports; machine = s.machine }

unfoldable pub calls : Program → (F T : ℕ) → List Call → Unbounded → Session
calls p F T [] u = record { reports = []; machine = u }
calls p F T (run_call fuel space ∷ cs) u =
    let r = run p F T fuel space u in
    first_report (Report.ran r.stop r.steps (length r.bytes) r.bytes) (calls p F T cs r.machine)
calls p F T (collect_call ∷ cs) u =
    first_report (Report.collected (frame_total u.state) (text_total u.state)) (calls p F T cs u)

unfoldable pub Calls : Type 0
unfolding at_start advanced ended attempted position_in position one_more run frame_total text_total maker_in made_by look_path read_path look_from kind look text_in look_text look_root look_names write buffer_after first_report calls
Calls = ℕ
