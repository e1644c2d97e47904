use native.Mathlib.Omega.{arith}
use Rattle.source.proofs.Positions.{byte_is}
use Rattle.spaces.proofs.Laws.{comment_start, comment_here, comment_again, comment_done}
use Rattle.spaces.proofs.comment_end.Goals as goal

pub loop-i-init : goal.loop-i-init
loop-i-init c = search comment_start

pub returns-then-s-i-eq10 : goal.returns-then-s-i-eq10
returns-then-s-i-eq10 c = comment_here _ _ _ _ _ c.loop-i.invariant c.loop-i-test.true (byte_is _ _) c.if-s-i-eq10.true

pub loop-i-preserved : goal.loop-i-preserved
loop-i-preserved c = comment_again _ _ _ _ _ c.loop-i.invariant c.loop-i-test.true (byte_is _ _) (λ (e : _). omega arith)

pub returns : goal.returns
returns c = search comment_done
