use Rattle.operand_checks.proofs.Laws.{number_undefined, number_found}
use Rattle.operand_checks.proofs.check_operand.Goals as goal

pub returns-then-operand_number-eq5 : goal.returns-then-operand_number-eq5
returns-then-operand_number-eq5 c = search number_undefined

pub returns : goal.returns
returns c = search number_found
