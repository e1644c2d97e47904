use Rattle.operands.proofs.Numbers.{quick_says, number_tested}
use Rattle.words.specs.Words.{word}
use Rattle.operands.proofs.operand_number.Goals as goal

pub returns-then-r-eq6 : goal.returns-then-r-eq6
returns-then-r-eq6 c = search number_tested

pub returns : goal.returns
unfolding word
returns c =
    quick_says _ _ _ c.type_inv.h c.type_inv.p _ c.quick-r.ensures c.if-r-eq6.false
