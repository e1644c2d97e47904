use Rattle.heap.specs.Words.{free_text}
use Rattle.collector.specs.Collect.{text_unmarked}
use Rattle.collector.proofs.Sweep.{Sweep}
use Rattle.collector.proofs.sweep_texts.Given as goal

abbrev pub invariant-loop-k : goal.invariant-loop-k
invariant-loop-k l = Sweep free_text (text_unmarked l.marks) l.initial.h l.h l.k
