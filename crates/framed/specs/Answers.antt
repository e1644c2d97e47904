-- Documents 01 and 02: what the calls answer, in the document's numbers and words, and the number or word of each case of the crate's answer enums.
-- Promises about an answer go through these definitions. Assumes nothing.
use Rattle.std.specs.Prelude.{List, ℕ, ℤ, take, Result, Ok, Err}
use Rattle.framed.specs.declared.End.{End}
use Rattle.framed.specs.declared.LoadRefusal.{LoadRefusal}
use Rattle.framed.specs.declared.LoadAnswer.{LoadAnswer}
use Rattle.framed.specs.declared.Stop.{Stop}
use Rattle.framed.specs.declared.RunAnswer.{RunAnswer}
use Rattle.framed.specs.declared.CollectAnswer.{CollectAnswer}
use Rattle.framed.specs.declared.LookAnswer.{LookAnswer}
use Rattle.framed.specs.declared.WriteAnswer.{WriteAnswer}
use Rattle.framed.specs.declared.MakersAnswer.{MakersAnswer}

-- load: 0 is loaded, 1 to 12 are the table's
abbrev pub load_number : LoadAnswer → ℕ
load_number LoadAnswer.Loaded = 0
load_number LoadAnswer.MemoryLength = 1
load_number LoadAnswer.LimitRange = 2
load_number LoadAnswer.SourceLength = 3
load_number LoadAnswer.NoToken = 4
load_number LoadAnswer.Nesting = 5
load_number LoadAnswer.NotOneFrame = 6
load_number LoadAnswer.OutsideCode = 7
load_number LoadAnswer.BadFrame = 8
load_number LoadAnswer.CountLimit = 9
load_number LoadAnswer.AboveProgram = 10
load_number LoadAnswer.NoStart = 11
load_number LoadAnswer.WrittenFrames = 12

-- the ends of a step, 31 to 37
abbrev pub end_number : End → ℕ
end_number End.NoRule = 31
end_number End.DivisorZero = 32
end_number End.IntegerRange = 33
end_number End.TextLength = 34
end_number End.SlotLimit = 35
end_number End.FramesFull = 36
end_number End.TextsFull = 37

-- the end that a test meets, 0 where it meets none
abbrev pub end_met : {A : Type 0} → Result A End → ℕ
end_met (Ok _) = 0
end_met (Err e) = end_number e

-- the refusals of load, 1 to 12
abbrev pub load_refusal_number : LoadRefusal → ℕ
load_refusal_number LoadRefusal.MemoryLength = 1
load_refusal_number LoadRefusal.LimitRange = 2
load_refusal_number LoadRefusal.SourceLength = 3
load_refusal_number LoadRefusal.NoToken = 4
load_refusal_number LoadRefusal.Nesting = 5
load_refusal_number LoadRefusal.NotOneFrame = 6
load_refusal_number LoadRefusal.OutsideCode = 7
load_refusal_number LoadRefusal.BadFrame = 8
load_refusal_number LoadRefusal.CountLimit = 9
load_refusal_number LoadRefusal.AboveProgram = 10
load_refusal_number LoadRefusal.NoStart = 11
load_refusal_number LoadRefusal.WrittenFrames = 12

-- the number that refuses, 0 where none does
abbrev pub load_refused : {A : Type 0} → Result A LoadRefusal → ℕ
load_refused (Ok _) = 0
load_refused (Err r) = load_refusal_number r

-- how a run stops: with an end (0 done, 31 to 37), with 'fuel' or with 'output'
pub data Stopped : Type 0 where
  end : ℕ → Stopped
  fuel output : Stopped

abbrev pub stop_word : Stop → Stopped
stop_word Stop.Done = Stopped.end 0
stop_word Stop.NoRule = Stopped.end 31
stop_word Stop.DivisorZero = Stopped.end 32
stop_word Stop.IntegerRange = Stopped.end 33
stop_word Stop.TextLength = Stopped.end 34
stop_word Stop.SlotLimit = Stopped.end 35
stop_word Stop.FramesFull = Stopped.end 36
stop_word Stop.TextsFull = Stopped.end 37
stop_word Stop.Fuel = Stopped.fuel
stop_word Stop.Output = Stopped.output

-- what a call of a list reports: a run its stop, steps, byte count and bytes, a collect its totals, a refused call its number
pub data Report : Type 0 where
  ran : Stopped → (steps count : ℕ) → (bytes : List ℕ) → Report
  collected : (frames texts : ℕ) → Report
  refused : ℕ → Report

-- a run's answer, with the buffer that it leaves
abbrev pub run_report : RunAnswer → List ℕ → Report
run_report (RunAnswer.Stopped r) buffer = ran (stop_word r.stop) r.steps r.bytes (take r.bytes buffer)
run_report RunAnswer.NotWellFormed buffer = refused 20

abbrev pub collect_report : CollectAnswer → Report
collect_report (CollectAnswer.Collected t) = collected t.frames t.texts
collect_report CollectAnswer.NotWellFormed = refused 20

-- what look gives: the kind, for an integer with the number, for a frame with its maker; or the number of a refusal
pub data Look : Type 0 where
  integer : ℤ → Look
  text code : Look
  frame : (maker : ℕ) → Look
  refused : ℕ → Look

abbrev pub look_word : LookAnswer → Look
look_word (LookAnswer.Integer z) = Look.integer z
look_word LookAnswer.Text = Look.text
look_word LookAnswer.Code = Look.code
look_word (LookAnswer.Frame n) = Look.frame n
look_word LookAnswer.NotWellFormed = Look.refused 20
look_word LookAnswer.NotPath = Look.refused 21
look_word LookAnswer.Undefined = Look.refused 22

-- document 02, A1, write: the length of the text, or the number of a refusal
pub data Wrote : Type 0 where
  wrote : ℕ → Wrote
  refused : ℕ → Wrote

abbrev pub write_word : WriteAnswer → Wrote
write_word (WriteAnswer.Written n) = wrote n
write_word WriteAnswer.NotWellFormed = Wrote.refused 20
write_word WriteAnswer.ShortBuffer = Wrote.refused 23

-- makers (document 02, A5): 0 is counted
abbrev pub makers_number : MakersAnswer → ℕ
makers_number MakersAnswer.Counted = 0
makers_number MakersAnswer.NotWellFormed = 20
