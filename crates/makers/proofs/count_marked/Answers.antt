use mathlib.Core.Path.{◌∙◌}
use Rattle.makers.proofs.Counts.{none_counted, can_count, not_marked, one_more, all_counted}
use Rattle.makers.proofs.count_marked.Goals as goal
use Rattle.makers.proofs.count_marked.Goals.{else-marks-wide-ne0, then-marks-wide-ne0}

pub loop-f-init : goal.loop-f-init
loop-f-init c = search none_counted

pub count_frame-requires : goal.count_frame-requires
count_frame-requires c = search can_count

pub loop-f-preserved : goal.loop-f-preserved
loop-f-preserved c = elim c.if-marks-wide-ne0.branch [ then-marks-wide-ne0 w ↦ search (one_more, w.counts-is ∙ w.count_frame.ensures) | else-marks-wide-ne0 w ↦ search not_marked ]

pub returns : goal.returns
returns c = search all_counted
