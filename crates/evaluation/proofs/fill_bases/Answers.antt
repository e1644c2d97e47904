use Rattle.evaluation.proofs.Laws.{slots_fall, bases_start, bases_size, bases_end, bases_done, bases_again}
use Rattle.evaluation.proofs.fill_bases.Goals as goal

pub loop-z-init : goal.loop-z-init
loop-z-init c = search bases_start

pub shape_of-h-then-expression_kind-ge5 : goal.shape_of-h-then-expression_kind-ge5
shape_of-h-then-expression_kind-ge5 c = search bases_size

pub returns-then-expression_kind-ge5 : goal.returns-then-expression_kind-ge5
returns-then-expression_kind-ge5 c = search bases_end

pub loop-z-smaller : goal.loop-z-smaller
loop-z-smaller c = search slots_fall

pub loop-z-preserved : goal.loop-z-preserved
loop-z-preserved c = search bases_again

pub shape_of-h : goal.shape_of-h
shape_of-h c = search bases_size

pub returns : goal.returns
returns c = search bases_done
