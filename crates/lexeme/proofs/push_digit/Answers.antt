use Rattle.lexeme.proofs.Laws.{push_low, push_high}
use Rattle.lexeme.proofs.push_digit.Goals as goal

pub returns-then-n-gt2147483648 : goal.returns-then-n-gt2147483648
returns-then-n-gt2147483648 c = search push_high

pub returns : goal.returns
returns c = search push_low
