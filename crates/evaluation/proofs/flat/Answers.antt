use Rattle.evaluation.proofs.Simple.{flat_read, flat_can, flat_operation}
use borrow.Author.Rules.{rules}
use Rattle.evaluation.proofs.flat.Goals as goal

pub returns-in_default : goal.returns-in_default
returns-in_default c = search flat_read

pub operation-requires : goal.operation-requires
operation-requires c = record { can_produce = search flat_can; texts_full = search rules }

pub returns : goal.returns
returns c = search flat_operation
