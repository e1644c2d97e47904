use Rattle.step_parts.proofs.Line.{show_none, show_too_long, show_written}
use Rattle.step_parts.proofs.show.Goals as goal

pub returns-in_default : goal.returns-in_default
returns-in_default c = search show_none

pub returns-then-size-eq0 : goal.returns-then-size-eq0
returns-then-size-eq0 c = search show_too_long

pub returns : goal.returns
returns c = search show_written
