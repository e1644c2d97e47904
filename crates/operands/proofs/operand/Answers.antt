use Rattle.operands.proofs.Numbers.{quick_says, number_none, number_some}
use Rattle.words.specs.Words.{word}
use Rattle.operands.proofs.operand.Goals as goal

pub returns-then-r-eq5 : goal.returns-then-r-eq5
unfolding word
returns-then-r-eq5 c =
    number_none _ _ _ _ (quick_says _ _ _ c.type_inv.h c.type_inv.p _ c.quick-r.ensures c.if-r-eq6.false) c.if-r-eq5.true

pub returns : goal.returns
unfolding word
returns c =
    number_some _ _ _ _ (quick_says _ _ _ c.type_inv.h c.type_inv.p _ c.quick-r.ensures c.if-r-eq6.false)
    c.if-r-eq5.false _ c.value.ensures
