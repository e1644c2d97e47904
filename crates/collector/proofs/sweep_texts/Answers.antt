use Rattle.collector.proofs.Sweep.{sweep_start, sweep_size, sweep_keep, texts_clear, text_off, text_on, texts_done}
use Rattle.collector.proofs.sweep_texts.Goals as goal
use Rattle.collector.proofs.sweep_texts.Goals.{else-marks-wide-eq0, then-marks-wide-eq0}

pub loop-k-init : goal.loop-k-init
loop-k-init c = search sweep_start

pub loop-k-preserved : goal.loop-k-preserved
loop-k-preserved c = elim c.if-marks-wide-eq0.branch [ then-marks-wide-eq0 w ↦ search (texts_clear, text_off) | else-marks-wide-eq0 w ↦ search (sweep_keep, text_on) ]

pub shape_of-h : goal.shape_of-h
shape_of-h c = search sweep_size

pub returns : goal.returns
returns c = search texts_done
