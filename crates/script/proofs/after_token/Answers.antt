use Rattle.script.proofs.Laws.{token_name, token_integer, token_string, token_other}
use Rattle.script.proofs.after_token.Goals as goal

pub returns-in-25 : goal.returns-in-25
returns-in-25 c = search token_name

pub returns-in-26 : goal.returns-in-26
returns-in-26 c = search token_integer

pub returns-in-27 : goal.returns-in-27
returns-in-27 c = search token_string

pub returns-in_default : goal.returns-in_default
returns-in_default c = search token_other
