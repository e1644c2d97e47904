use borrow.Author.Rules.{rules}
use Rattle.framed_c.proofs.Look.{integer_written, integer_stays}
use Rattle.framed_c.proofs.write_integer.Goals as goal

pub returns-in_default : goal.returns-in_default
returns-in_default c = search (integer_stays, c.in_default.not-Integer)

pub returns : goal.returns
returns c = search (integer_written, rules)
