-- Document 01's and 02's numbers of answers, for programs and for C. What the document numbers keeps its number, that of `framed`'s Answers. What it has a word for gets one
-- here: 'fuel' is 1 and 'output' 2; a collect or a write that is not refused is 0; the kinds that look gives are 1 to 4, in the document's order. Load's numbers are
-- `framed`'s `load-number`, those of makers its `makers-number`. Assumes nothing.
use Rattle.std.specs.Prelude.{[], ℕ}
use Rattle.framed.specs.declared.CollectAnswer.{CollectAnswer}
use Rattle.framed.specs.declared.LookAnswer.{LookAnswer}
use Rattle.framed.specs.declared.RunAnswer.{RunAnswer}
use Rattle.framed.specs.declared.WriteAnswer.{WriteAnswer}
use Rattle.framed.specs.Answers.{Stopped, Report, run_report, collect_report, Look, look_word, Wrote, write_word}

abbrev pub stopped_number : Stopped → ℕ
stopped_number (Stopped.end e) = e
stopped_number Stopped.fuel = 1
stopped_number Stopped.output = 2

-- a run's by how it stopped, a refused call's its own
abbrev pub report_number : Report → ℕ
report_number (Report.ran why steps count bytes) = stopped_number why
report_number (Report.collected frames texts) = 0
report_number (Report.refused n) = n

-- whatever the buffer holds
abbrev pub run_number : RunAnswer → ℕ
run_number a = report_number (run_report a [])

abbrev pub collect_number : CollectAnswer → ℕ
collect_number a = report_number (collect_report a)

abbrev pub kind_number : Look → ℕ
kind_number (Look.integer z) = 1
kind_number Look.text = 2
kind_number Look.code = 3
kind_number (Look.frame n) = 4
kind_number (Look.refused n) = n

abbrev pub look_number : LookAnswer → ℕ
look_number a = kind_number (look_word a)

abbrev pub wrote_number : Wrote → ℕ
wrote_number (Wrote.wrote n) = 0
wrote_number (Wrote.refused n) = n

abbrev pub write_number : WriteAnswer → ℕ
write_number a = wrote_number (write_word a)
