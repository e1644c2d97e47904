use Rattle.heap.specs.Words.{text_used}
use Rattle.heap.specs.Held.{texts_in_use}
use Rattle.std.proofs.Common.{rules}
use Rattle.heap.proofs.count_texts.Goals as goal

pub returns : goal.returns
unfolding texts_in_use
returns c = c.count.ensures (text_used c.args.h.now) (record { answer = λ i r lt p. search rules })
