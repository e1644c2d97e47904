use Rattle.check_source.proofs.Laws.{not_bad}
use Rattle.check_source.proofs.bad_frame.Goals as goal

pub returns-then-clean : goal.returns-then-clean
returns-then-clean c = search not_bad
