use Rattle.std.proofs.Common.{rules}
use Rattle.collector.specs.Collect.{marked_from}
use Rattle.collector.proofs.count_marks.Goals as goal

pub returns : goal.returns
unfolding marked_from
returns c = c.count.ensures (marked_from c.args.marks.now c.args.from) (record { answer = λ i r lt p. search rules })
