use Rattle.checking.proofs.Laws.{single_operand, single_operation}
use Rattle.checking.proofs.check_single.Goals as goal

pub returns-in_default : goal.returns-in_default
returns-in_default c = search single_operand

pub returns : goal.returns
returns c = search single_operation
