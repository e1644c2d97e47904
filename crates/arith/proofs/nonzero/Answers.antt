use Rattle.arith.proofs.Laws.{nonzero_bits}
use Rattle.arith.proofs.nonzero.Goals as goal

pub returns : goal.returns
returns c = nonzero_bits c.args.a c.ranges.a
