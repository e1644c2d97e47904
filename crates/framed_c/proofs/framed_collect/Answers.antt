use Rattle.framed_c.proofs.Collect.{collected, refused}
use Rattle.framed_c.proofs.framed_collect.Goals as goal

pub returns-in-Collected : goal.returns-in-Collected
returns-in-Collected c =
    let called = c.collect-a.ensures in
    collected _ _ _ _ _ _ called.exact called.meaning _ _ _ _ c.in-Collected.is c.collect_number.ensures

pub returns-in-NotWellFormed : goal.returns-in-NotWellFormed
returns-in-NotWellFormed c =
    let called = c.collect-a.ensures in
    refused _ _ _ _ _ _ called.exact called.meaning _ _ _ c.in-NotWellFormed.is c.collect_number-in-NotWellFormed.ensures
