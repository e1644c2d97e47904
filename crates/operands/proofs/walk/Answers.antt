use Prim.Native.Nat.{◌+◌}
use Rattle.words.specs.Words.{word}
use Rattle.operands.proofs.Numbers.{along_start, walked_low, walked_past, walked_free, walked_many, walked_missing, along_again, walked_high, walked_value}
use Rattle.operands.proofs.walk.Goals as goal

pub loop-i-init : goal.loop-i-init
unfolding word
loop-i-init c = search (along_start, c.type_inv.h (c.args.root + 1))

pub returns-then-tag-lt4 : goal.returns-then-tag-lt4
returns-then-tag-lt4 c = search walked_low

pub returns-then-f-ge256 : goal.returns-then-f-ge256
returns-then-f-ge256 c = search walked_past

pub returns-then-h-a-ne1 : goal.returns-then-h-a-ne1
unfolding word
returns-then-h-a-ne1 c = search walked_free

pub returns-then-c-gt16 : goal.returns-then-c-gt16
unfolding word
returns-then-c-gt16 c =
    walked_many _ _ _ _ _ _ _ _ c.loop-i.invariant c.loop-i-test.true c.if-tag-lt4.false c.if-f-ge256.false _ c.wide.ensures
    c.if-h-a-ne1.false c.if-c-gt16.true

pub returns-then-k-eq0 : goal.returns-then-k-eq0
unfolding word
returns-then-k-eq0 c =
    walked_missing _ _ _ _ _ _ _ _ c.loop-i.invariant c.loop-i-test.true c.if-tag-lt4.false c.if-f-ge256.false _ c.wide.ensures
    c.if-h-a-ne1.false c.if-c-gt16.false c.requires.names_start _ _ c.wide-in-loop-i.ensures c.slot_place-k.ensures c.if-k-eq0.true

pub loop-i-preserved : goal.loop-i-preserved
unfolding word
loop-i-preserved c =
    along_again _ _ _ _ _ _ _ _ c.loop-i.invariant c.loop-i-test.true c.if-tag-lt4.false c.if-f-ge256.false _ c.wide.ensures
    c.if-h-a-ne1.false c.if-c-gt16.false c.requires.names_start _ _ c.wide-in-loop-i.ensures c.slot_place-k.ensures c.if-k-eq0.false
    (c.type_inv.h (c.slot_place-k.result + 2))

pub returns-then-tag-gt4 : goal.returns-then-tag-gt4
returns-then-tag-gt4 c = search walked_high

pub returns : goal.returns
returns c = search walked_value
