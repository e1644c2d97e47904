use Rattle.write_words.proofs.Paths.{path_fits, comparing_start, comparing_past, comparing_apart, comparing_again, comparing_done}
use borrow.Author.Rules.{rules}
use Rattle.write_words.proofs.common_prefix.Goals as goal

pub loop-i-init : goal.loop-i-init
loop-i-init c = search comparing_start

pub returns-then-holding-k : goal.returns-then-holding-k
returns-then-holding-k c = search comparing_past

pub overflow_add-j : goal.overflow_add-j
overflow_add-j c = search (path_fits, rules)

pub returns-then-holding-k-2 : goal.returns-then-holding-k-2
returns-then-holding-k-2 c =
    search (comparing_apart, c.loop-i.invariant, c.loop-i-test.true, c.wide-k.ensures, c.if-holding-k.false, c.path_name.ensures, c.if-holding-k-2.true)

pub loop-i-preserved : goal.loop-i-preserved
loop-i-preserved c =
    search (comparing_again, c.loop-i.invariant, c.loop-i-test.true, c.wide-k.ensures, c.if-holding-k.false, c.path_name.ensures, c.if-holding-k-2.false)

pub returns : goal.returns
returns c = search comparing_done
