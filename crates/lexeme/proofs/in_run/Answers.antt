use Rattle.lexeme.proofs.Laws.{run_low, run_high, run_string, run_digit, run_letter, run_other}
use Rattle.lexeme.proofs.in_run.Goals as goal

pub returns-then-b-lt32 : goal.returns-then-b-lt32
returns-then-b-lt32 c = search run_low

pub returns-then-b-gt126 : goal.returns-then-b-gt126
returns-then-b-gt126 c = search run_high

pub returns-then-m-eq0 : goal.returns-then-m-eq0
returns-then-m-eq0 c = search run_string

pub returns-then-m-eq1 : goal.returns-then-m-eq1
returns-then-m-eq1 c = search run_digit

pub returns-then-k-eq2 : goal.returns-then-k-eq2
returns-then-k-eq2 c = search run_letter

pub returns : goal.returns
returns c = search run_other
