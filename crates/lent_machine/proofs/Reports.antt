-- The kind of a report, by a number, and its parts. Assumes nothing.
use Prim.Native.Nat.{ℕ}
use mathlib.Core.List.{List, []}
use Rattle.framed.specs.Answers.{Stopped, Report}

unfoldable pub report_kind : Report → ℕ
report_kind (Report.ran why steps count bytes) = 0
report_kind (Report.collected f t) = 1
report_kind (Report.refused n) = 2

unfoldable pub stop_in : Report → Stopped
stop_in (Report.ran why steps count bytes) = why
stop_in (Report.collected f t) = Stopped.fuel
stop_in (Report.refused n) = Stopped.fuel

unfoldable pub steps_of : Report → ℕ
steps_of (Report.ran why steps count bytes) = steps
steps_of (Report.collected f t) = 0
steps_of (Report.refused n) = 0

unfoldable pub bytes_of : Report → List ℕ
bytes_of (Report.ran why steps count bytes) = bytes
bytes_of (Report.collected f t) = []
bytes_of (Report.refused n) = []

unfoldable pub frames_of : Report → ℕ
frames_of (Report.ran why steps count bytes) = 0
frames_of (Report.collected f t) = f
frames_of (Report.refused n) = 0

unfoldable pub texts_of : Report → ℕ
texts_of (Report.ran why steps count bytes) = 0
texts_of (Report.collected f t) = t
texts_of (Report.refused n) = 0
