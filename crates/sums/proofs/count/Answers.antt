use native.Mathlib.Omega.{arith}
use Rattle.sums.proofs.Laws.{outside_fits, count_self, count_show, count_jump, count_ifeq, count_assign, count_up, count_bang, count_semicolon, count_open, count_close, count_open_curly, count_close_curly, count_name, count_slot, count_string, count_code, count_operators, count_low, count_high}
use Rattle.sums.proofs.count.Goals as goal

pub overflow_add-r : goal.overflow_add-r
overflow_add-r c = search outside_fits

pub overflow_add-r-in-8 : goal.overflow_add-r-in-8
overflow_add-r-in-8 c = search outside_fits

pub overflow_add-r-in-9-2 : goal.overflow_add-r-in-9-2
overflow_add-r-in-9-2 c = search outside_fits

pub overflow_add-r-in-12 : goal.overflow_add-r-in-12
overflow_add-r-in-12 c = search outside_fits

pub overflow_add-r-in-12-2 : goal.overflow_add-r-in-12-2
overflow_add-r-in-12-2 c = search outside_fits

pub overflow_add-r-in-16-to-24-2 : goal.overflow_add-r-in-16-to-24-2
overflow_add-r-in-16-to-24-2 c = search outside_fits

pub returns-in-1 : goal.returns-in-1
returns-in-1 c = search count_self

pub returns-in-2 : goal.returns-in-2
returns-in-2 c = search count_show

pub returns-in-3 : goal.returns-in-3
returns-in-3 c = search count_jump

pub returns-in-4 : goal.returns-in-4
returns-in-4 c = search count_ifeq

pub returns-in-6 : goal.returns-in-6
returns-in-6 c = search count_assign

pub returns-in-8 : goal.returns-in-8
returns-in-8 c = search count_up

pub returns-in-9 : goal.returns-in-9
returns-in-9 c = search count_bang

pub returns-in-10 : goal.returns-in-10
returns-in-10 c = search count_semicolon

pub returns-in-12 : goal.returns-in-12
returns-in-12 c = search count_open

pub returns-in-13 : goal.returns-in-13
returns-in-13 c = search count_close

pub returns-in-14 : goal.returns-in-14
returns-in-14 c = search count_open_curly

pub returns-in-15 : goal.returns-in-15
returns-in-15 c = search count_close_curly

pub returns-then-last-eq7 : goal.returns-then-last-eq7
returns-then-last-eq7 c = search count_name

pub returns-else-last-eq7 : goal.returns-else-last-eq7
returns-else-last-eq7 c = search count_slot

pub returns-in-27 : goal.returns-in-27
returns-in-27 c = search count_string

pub returns-in-28 : goal.returns-in-28
returns-in-28 c = search count_code

pub returns-in-16-to-24 : goal.returns-in-16-to-24
returns-in-16-to-24 c = count_operators _ _ _ (omega (arith, c.in-16-to-24)) (omega (arith, c.in-16-to-24)) _ c.outside-in-16-to-24.ensures

pub returns-in_default : goal.returns-in_default
returns-in_default c = search count_low

pub returns-in_default-2 : goal.returns-in_default-2
returns-in_default-2 c = search count_high
