use Rattle.splice.proofs.Laws.{writing_start, writing_done, writing_again}
use Rattle.write_words.proofs.Words.{word_fits}
use Rattle.write_words.proofs.copy_words.Goals as goal

pub loop-j-init : goal.loop-j-init
loop-j-init c = search writing_start

pub overflow_cast-m : goal.overflow_cast-m
overflow_cast-m c = search word_fits

pub loop-j-preserved : goal.loop-j-preserved
loop-j-preserved c = search writing_again

pub returns : goal.returns
returns c = search writing_done
