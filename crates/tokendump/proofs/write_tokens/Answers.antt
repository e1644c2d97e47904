use Rattle.reader.proofs.Laws.{read_less}
use Rattle.tokendump.proofs.write_tokens.Goals as goal

pub loop-at-init : goal.loop-at-init
loop-at-init g c = tt

pub loop-at-smaller : goal.loop-at-smaller
loop-at-smaller g c = search read_less

pub loop-at-preserved : goal.loop-at-preserved
loop-at-preserved g c = tt
