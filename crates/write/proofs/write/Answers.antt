use Rattle.write.proofs.Laws.{refused, can_write_through, answered}
use Rattle.write.proofs.write.Goals as goal

pub returns-then-not-well_formed : goal.returns-then-not-well_formed
returns-then-not-well_formed c =
    let e = refused c.args.p.now c.args.h.now c.args.l.now c.args.t.now c.args.out.now _ c.well_formed-2.ensures c.if-not-well_formed.true in record { exact = e.0; meaning = e.1 }

pub write_through-requires : goal.write_through-requires
write_through-requires c =
    can_write_through _ _ _ _ _ _ c.well_formed-2.ensures c.if-not-well_formed.false (search c.well_formed)

pub returns : goal.returns
returns c =
    let e = answered c.args.p.now c.args.h.now c.args.l.now c.args.t.now c.args.out.now _ c.well_formed-2.ensures c.if-not-well_formed.false c.write_through.ensures in record { exact = e.0; meaning = e.1 }
