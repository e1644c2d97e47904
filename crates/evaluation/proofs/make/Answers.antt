use Rattle.evaluation.proofs.Laws.{make_can_fill, make_full, make_bases, make_rest}
use Rattle.evaluation.proofs.make.Goals as goal

pub returns-then-z-eq0 : goal.returns-then-z-eq0
returns-then-z-eq0 c = make_bases _ _ _ _ _ c.requires.can_evaluate _ _ c.claim-f.ensures _ _ _ c.fill_bases-z.ensures _ c.expression_a.ensures c.link.ensures _ c.expression_kind.ensures c.if-expression_kind-ne5.false c.if-z-eq0.true

pub fill-requires : goal.fill-requires
fill-requires c = record { can_fill = make_can_fill _ _ _ _ _ c.requires.can_evaluate _ _ c.claim-f.ensures _ _ _ c.fill_bases-z.ensures _ c.expression_a.ensures c.link.ensures _ c.expression_kind.ensures c.if-expression_kind-ne5.false; full = make_full _ _ _ _ _ c.requires.can_evaluate _ _ c.claim-f.ensures _ _ _ c.fill_bases-z.ensures _ c.expression_a.ensures c.link.ensures _ c.expression_kind.ensures c.if-expression_kind-ne5.false _ _ c.requires.full }

pub returns : goal.returns
returns c = make_rest _ _ _ _ _ c.requires.can_evaluate _ _ c.claim-f.ensures _ _ _ c.fill_bases-z.ensures _ c.expression_a.ensures c.link.ensures _ c.expression_kind.ensures c.if-expression_kind-ne5.false _ _ c.fill.ensures
