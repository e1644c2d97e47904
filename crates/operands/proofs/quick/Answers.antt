use Prim.Native.Nat.{◌+◌, ◌*◌}
use native.Mathlib.Omega.{arith}
use Rattle.words.specs.Words.{word}
use Rattle.operands.proofs.Numbers.{quick_program, quick_heap, quick_past, quick_literal, quick_outside, quick_path, quick_code, quick_other}
use Rattle.operands.proofs.quick.Goals as goal

pub returns-then-p-ne16384 : goal.returns-then-p-ne16384
returns-then-p-ne16384 c = search quick_program

pub returns-then-h-ne16384 : goal.returns-then-h-ne16384
returns-then-h-ne16384 c = search quick_heap

pub returns-then-x-ge1024 : goal.returns-then-x-ge1024
returns-then-x-ge1024 c = search quick_past

pub overflow_cast-result : goal.overflow_cast-result
overflow_cast-result c = omega (arith, c.type_inv.p (7104 + 5 * c.wide.result + 1))

pub overflow_mul-result : goal.overflow_mul-result
overflow_mul-result c = omega (arith, c.type_inv.p (7104 + 5 * c.wide.result + 1))

pub overflow_add-result : goal.overflow_add-result
overflow_add-result c = omega (arith, c.type_inv.p (7104 + 5 * c.wide.result + 1))

pub returns-then-kind-lt2 : goal.returns-then-kind-lt2
unfolding word
returns-then-kind-lt2 c = search quick_literal

pub overflow_add-j : goal.overflow_add-j
overflow_add-j c =
    let at = 7104 + 5 * c.wide.result in
    omega (arith, c.type_inv.p (at + 1), c.type_inv.p (at + 2))

pub returns-then-j-n-gt2048 : goal.returns-then-j-n-gt2048
unfolding word
returns-then-j-n-gt2048 c = search quick_outside

pub returns-then-kind-lt4 : goal.returns-then-kind-lt4
unfolding word
returns-then-kind-lt4 c = search quick_path

pub overflow_cast-result-then-kind-eq4 : goal.overflow_cast-result-then-kind-eq4
overflow_cast-result-then-kind-eq4 c = omega (arith, c.type_inv.p (7104 + 5 * c.wide.result + 1))

pub overflow_mul-result-then-kind-eq4 : goal.overflow_mul-result-then-kind-eq4
overflow_mul-result-then-kind-eq4 c = omega (arith, c.type_inv.p (7104 + 5 * c.wide.result + 1))

pub overflow_add-result-then-kind-eq4 : goal.overflow_add-result-then-kind-eq4
overflow_add-result-then-kind-eq4 c = omega (arith, c.type_inv.p (7104 + 5 * c.wide.result + 1))

pub returns-then-kind-eq4 : goal.returns-then-kind-eq4
unfolding word
returns-then-kind-eq4 c = search quick_code

pub returns : goal.returns
unfolding word
returns c = search quick_other
