use lib.ListN.{length}
use Prim.Native.Nat.{◌+◌, ◌*◌, ◌-◌}
use Rattle.framed.specs.Parse as R
use Rattle.grammar.proofs.Laws.{Continues}
use Rattle.grammar.proofs.+grammar.Given as goal

abbrev pub decreases-assigning : goal.decreases-assigning
decreases-assigning l = 8 * (length l.tokens.now.source.now - l.at) + 0

abbrev pub decreases-base : goal.decreases-base
decreases-base l = 8 * (length l.tokens.now.source.now - l.at) + 2

abbrev pub decreases-base_from : goal.decreases-base_from
decreases-base_from l = 8 * (length l.tokens.now.source.now - l.at) + 1

abbrev pub decreases-binary : goal.decreases-binary
decreases-binary l = 8 * (length l.tokens.now.source.now - l.at) + 3

abbrev pub decreases-block : goal.decreases-block
decreases-block l = 8 * (length l.tokens.now.source.now - l.at) + 0

abbrev pub decreases-branching : goal.decreases-branching
decreases-branching l = 8 * (length l.tokens.now.source.now - l.at) + 0

abbrev pub decreases-expression : goal.decreases-expression
decreases-expression l = 8 * (length l.tokens.now.source.now - l.at) + 4

abbrev pub decreases-frame : goal.decreases-frame
decreases-frame l = 8 * (length l.tokens.now.source.now - l.at) + 0

abbrev pub decreases-instruction : goal.decreases-instruction
decreases-instruction l = 8 * (length l.tokens.now.source.now - l.at) + 1

abbrev pub decreases-instructions : goal.decreases-instructions
decreases-instructions l = 8 * (length l.tokens.now.source.now - l.at) + 2

abbrev pub decreases-jumping : goal.decreases-jumping
decreases-jumping l = 8 * (length l.tokens.now.source.now - l.at) + 0

abbrev pub decreases-negation : goal.decreases-negation
decreases-negation l = 8 * (length l.tokens.now.source.now - l.at) + 0

abbrev pub decreases-operation : goal.decreases-operation
decreases-operation l = 8 * (length l.tokens.now.source.now - l.at) + 0

abbrev pub decreases-showing : goal.decreases-showing
decreases-showing l = 8 * (length l.tokens.now.source.now - l.at) + 0

abbrev pub decreases-slots : goal.decreases-slots
decreases-slots l = 8 * (length l.tokens.now.source.now - l.at) + 0

abbrev pub invariant-instructions-loop-p : goal.invariant-instructions-loop-p
invariant-instructions-loop-p l = Continues R.instructions 2 l.tokens.source.now l.at l.i

abbrev pub decreases-instructions-loop-p : goal.decreases-instructions-loop-p
decreases-instructions-loop-p l = length l.tokens.source.now - l.i

abbrev pub invariant-slots-loop-p : goal.invariant-slots-loop-p
invariant-slots-loop-p l = Continues R.slots 0 l.tokens.source.now l.at l.i

abbrev pub decreases-slots-loop-p : goal.decreases-slots-loop-p
decreases-slots-loop-p l = length l.tokens.source.now - l.i
