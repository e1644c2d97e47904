use Rattle.printed_run.proofs.Laws.{prints_refused, never_refused, never_uncollected, prints_ran}
use Rattle.printed_run.proofs.write_print.Goals as goal

pub returns-then-n-ne0 : goal.returns-then-n-ne0
returns-then-n-ne0 c =
    prints_refused c.load-a.ensures.meaning c.load_number-n.ensures c.if-n-ne0.true c.print_refused.ensures

pub returns-in_default : goal.returns-in_default
returns-in_default c =
    absurd (never_refused c.load-a.ensures.meaning c.load_number-n.ensures c.if-n-ne0.false c.run.ensures.meaning c.in_default.not-Stopped)

pub returns-in_default-collect : goal.returns-in_default-collect
returns-in_default-collect c =
    absurd
    (never_uncollected
    c.load-a.ensures.meaning c.load_number-n.ensures c.if-n-ne0.false c.run.ensures.meaning
    c.collect.ensures.exact c.in_default-collect.not-Collected)

pub returns : goal.returns
returns c =
    prints_ran
    c.load-a.ensures.meaning c.load_number-n.ensures c.if-n-ne0.false c.run.ensures.meaning c.collect.ensures.exact
    c.in-Stopped.is c.in-Collected.is c.print_ran.ensures
