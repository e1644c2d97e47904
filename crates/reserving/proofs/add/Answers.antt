use Rattle.reserving.proofs.Laws.{add_no_frames, add_no_texts, add_both}
use Rattle.reserving.proofs.add.Goals as goal

pub returns-then-wide : goal.returns-then-wide
returns-then-wide c = search add_no_frames

pub returns-then-wide-2 : goal.returns-then-wide-2
returns-then-wide-2 c = add_no_texts _ _ _ _ _ _ _ _ c.frame_limit.ensures c.wide.ensures c.wide-2.ensures c.wide-3.ensures c.if-wide.false _ _ _ _ c.text_limit.ensures c.wide-4.ensures c.wide-5.ensures c.wide-6.ensures c.if-wide-2.true

pub returns : goal.returns
returns c = add_both _ _ _ _ _ _ _ _ c.frame_limit.ensures c.wide.ensures c.wide-2.ensures c.wide-3.ensures c.if-wide.false _ _ _ _ c.text_limit.ensures c.wide-4.ensures c.wide-5.ensures c.wide-6.ensures c.if-wide-2.false
