use Rattle.source.proofs.Positions.{byte_is}
use Rattle.lexeme.proofs.Laws.{running_start, running_stop, running_again, running_done}
use Rattle.lexeme.proofs.run_end.Goals as goal

pub loop-i-init : goal.loop-i-init
loop-i-init c = search running_start

pub returns-then-not-in_run : goal.returns-then-not-in_run
returns-then-not-in_run c = running_stop _ _ _ _ _ _ _ c.loop-i.invariant c.loop-i-test.true (byte_is _ _) c.in_run.ensures c.if-not-in_run.true

pub loop-i-preserved : goal.loop-i-preserved
loop-i-preserved c = running_again _ _ _ _ _ _ _ c.loop-i.invariant c.loop-i-test.true (byte_is _ _) c.in_run.ensures c.if-not-in_run.false

pub returns : goal.returns
returns c = search running_done
