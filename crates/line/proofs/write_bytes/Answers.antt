use Rattle.line.proofs.Laws.{bytes_too_long, bytes_written}
use native.Mathlib.Omega.{arith}
use Rattle.line.proofs.write_bytes.Goals as goal

pub returns-then-m-at : goal.returns-then-m-at
returns-then-m-at c = bytes_too_long c.args.s.now _ _ (omega arith)

pub returns : goal.returns
returns c = search bytes_written
