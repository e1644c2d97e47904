use Rattle.framed_c.proofs.framed_load.Goals as goal

pub returns : goal.returns
returns c =
    let called = c.load-a.ensures in
    record { answer = _; exact = called.exact; meaning = called.meaning; number = c.load_number.ensures }
