use Rattle.framed_c.proofs.Run.{stopped, refused}
use Rattle.framed_c.proofs.framed_run.Goals as goal

pub returns-in-Stopped : goal.returns-in-Stopped
returns-in-Stopped c =
    let called = c.run-a.ensures in
    stopped _ _ _ _ _ _ _ _ _ _ called.exact called.meaning _ _ _ _ c.in-Stopped.is c.run_number.ensures

pub returns-in-NotWellFormed : goal.returns-in-NotWellFormed
returns-in-NotWellFormed c =
    let called = c.run-a.ensures in
    refused _ _ _ _ _ _ _ _ _ _ called.exact called.meaning _ _ _ c.in-NotWellFormed.is c.run_number-in-NotWellFormed.ensures
