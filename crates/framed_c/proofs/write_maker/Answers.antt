use borrow.Author.Rules.{rules}
use Rattle.framed_c.proofs.Look.{maker_written, maker_stays}
use Rattle.framed_c.proofs.write_maker.Goals as goal

pub returns-in_default : goal.returns-in_default
returns-in_default c = search (maker_stays, c.in_default.not-Frame)

pub returns : goal.returns
returns c = search (maker_written, rules)
