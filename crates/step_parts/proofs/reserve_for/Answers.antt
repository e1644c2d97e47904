use Rattle.step_parts.proofs.Reserve.{reserve_counted, reserve_nothing, reckons_counted, reckons_nothing}
use Rattle.step_parts.proofs.reserve_for.Goals as goal

pub returns-then-n-eq0 : goal.returns-then-n-eq0
returns-then-n-eq0 c = record {
  exact = reserve_nothing _ _ _ c.requires.can_reserve _ c.needed-n.ensures c.if-n-eq0.true;
  knows = reckons_nothing _ _ _ c.requires.can_reserve _ c.needed-n.ensures c.if-n-eq0.true _ c.requires.knows_2;
}

pub returns : goal.returns
returns c = record { exact = search reserve_counted; knows = search reckons_counted }
