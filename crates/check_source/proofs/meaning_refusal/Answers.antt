use Rattle.check_source.proofs.Laws.{means_7, means_8, means_9, means_10, means_11, means_12, means_0}
use Rattle.check_source.proofs.meaning_refusal.Goals as goal

pub returns-then-outside_code : goal.returns-then-outside_code
returns-then-outside_code c = search means_7

pub returns-then-bad_frame : goal.returns-then-bad_frame
returns-then-bad_frame c = search means_8

pub returns-then-above_limit : goal.returns-then-above_limit
returns-then-above_limit c = search means_9

pub returns-then-far_up : goal.returns-then-far_up
returns-then-far_up c = search means_10

pub returns-then-not-has_start : goal.returns-then-not-has_start
returns-then-not-has_start c = search means_11

pub returns-then-many_frames : goal.returns-then-many_frames
returns-then-many_frames c = search means_12

pub returns : goal.returns
returns c = search means_0
