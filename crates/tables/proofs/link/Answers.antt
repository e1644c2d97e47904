use Rattle.tables.proofs.Laws.{no_link, link_past, link_inside}
use Rattle.tables.proofs.link.Goals as goal

pub returns-then-d-eq0 : goal.returns-then-d-eq0
returns-then-d-eq0 c = search no_link

pub returns-then-wide : goal.returns-then-wide
returns-then-wide c = search link_past

pub returns : goal.returns
returns c = search link_inside
