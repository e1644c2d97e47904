use Rattle.mark.proofs.MarkLaws.{first_visitable, second_visitable, roots_done}
use Rattle.mark.proofs.Work.mark_roots.Goals as goal

pub visit-requires : goal.visit-requires
visit-requires c = search first_visitable

pub visit-requires-2 : goal.visit-requires-2
visit-requires-2 c = search second_visitable

pub returns : goal.returns
returns c = search roots_done
