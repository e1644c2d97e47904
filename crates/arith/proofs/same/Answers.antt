use Rattle.arith.proofs.Laws.{same_bits}
use Rattle.arith.proofs.same.Goals as goal

pub returns : goal.returns
returns c = same_bits c.args.a c.args.b c.ranges.a c.ranges.b
