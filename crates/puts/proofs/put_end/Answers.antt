use Rattle.paths.proofs.Exits.{none_left, some_left}
use Rattle.puts.proofs.Laws.{put_end_none, put_end_at}
use Rattle.puts.proofs.put_end.Goals as goal

pub returns-in_err-at : goal.returns-in_err-at
returns-in_err-at c =
    let x = none_left _ _ c.from_residual.ensures.1 _ _ _ c.ok_or.ensures.value c.in_err-at.was in
    rw x.1 (search (put_end_none, x.0))

pub returns : goal.returns
returns c = search (put_end_at, some_left _ _ _ _ c.ok_or.ensures.value c.in_ok-at.was)
