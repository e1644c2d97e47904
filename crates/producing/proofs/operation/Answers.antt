use Rattle.producing.proofs.Laws.{operation_first, operation_second, operation_both}
use Rattle.producing.proofs.operation.Goals as goal

pub returns-in_default : goal.returns-in_default
returns-in_default c = search operation_first

pub returns-in_default-operand : goal.returns-in_default-operand
returns-in_default-operand c = search operation_second

pub returns : goal.returns
returns c = search operation_both
