use native.Mathlib.Omega.{arith}
use Rattle.needs.proofs.Cap.{most, plus_sum}
use Rattle.needs.proofs.plus.Goals as goal

pub overflow_mul-result : goal.overflow_mul-result
overflow_mul-result c = omega (arith, most _ _ c.capped-t.ensures)

pub overflow_add-result : goal.overflow_add-result
overflow_add-result c = omega (arith, most _ _ c.capped-t.ensures, most _ _ c.capped-f.ensures)

pub returns : goal.returns
returns c = search plus_sum
