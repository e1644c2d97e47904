use lib.ListN.{length}
use Prim.Native.Nat.{◌+◌, ◌*◌, ◌-◌}
use Rattle.emit_names.specs.Lent.{table_in}
use Rattle.emit_tree.specs.Members.{slots_emitted, code_emitted, SlotsHere, CodeHere}
use Rattle.emit_tree.proofs.Lists.{Going}
use Rattle.emit_tree.proofs.+tree.Given as goal

abbrev pub decreases-assigning : goal.decreases-assigning
decreases-assigning l = 16 * (length l.e.now.tokens.source.now - l.n.at) + 6

abbrev pub decreases-base : goal.decreases-base
decreases-base l = 16 * (length l.e.now.tokens.source.now - l.n.at) + 1

abbrev pub decreases-binary : goal.decreases-binary
decreases-binary l = 16 * (length l.e.now.tokens.source.now - l.n.at) + 3

abbrev pub decreases-block : goal.decreases-block
decreases-block l = 16 * (length l.e.now.tokens.source.now - l.n.at) + 0

abbrev pub decreases-branching : goal.decreases-branching
decreases-branching l = 16 * (length l.e.now.tokens.source.now - l.n.at) + 3

abbrev pub decreases-expression : goal.decreases-expression
decreases-expression l = 16 * (length l.e.now.tokens.source.now - l.n.at) + 4

abbrev pub decreases-frame : goal.decreases-frame
decreases-frame l = 16 * (length l.e.now.tokens.source.now - l.n.at) + 0

abbrev pub decreases-instruction : goal.decreases-instruction
decreases-instruction l = 16 * (length l.e.now.tokens.source.now - l.n.at) + 7

abbrev pub decreases-instructions : goal.decreases-instructions
decreases-instructions l = 16 * (length l.e.now.tokens.source.now - l.n.at) + 9

abbrev pub decreases-jumping : goal.decreases-jumping
decreases-jumping l = 16 * (length l.e.now.tokens.source.now - l.n.at) + 3

abbrev pub decreases-line : goal.decreases-line
decreases-line l = 16 * (length l.e.now.tokens.source.now - l.n.at) + 8

abbrev pub decreases-negation : goal.decreases-negation
decreases-negation l = 16 * (length l.e.now.tokens.source.now - l.n.at) + 3

abbrev pub decreases-operand : goal.decreases-operand
decreases-operand l = 16 * (length l.e.now.tokens.source.now - l.n.at) + 2

abbrev pub decreases-right : goal.decreases-right
decreases-right l = 16 * (length l.e.now.tokens.source.now - l.n.at) + 5

abbrev pub decreases-showing : goal.decreases-showing
decreases-showing l = 16 * (length l.e.now.tokens.source.now - l.n.at) + 3

abbrev pub decreases-slot : goal.decreases-slot
decreases-slot l = 16 * (length l.e.now.tokens.source.now - l.q) + 6

abbrev pub decreases-slots : goal.decreases-slots
decreases-slots l = 16 * (length l.e.now.tokens.source.now - l.n.at) + 7

abbrev pub invariant-instructions-loop-m : goal.invariant-instructions-loop-m
invariant-instructions-loop-m l = Going (CodeHere l.place) (code_emitted l.place) l.e.tokens.source.now (table_in l.e) l.initial.m l.initial.p l.m l.p l.t

abbrev pub decreases-instructions-loop-m : goal.decreases-instructions-loop-m
decreases-instructions-loop-m l = length l.e.tokens.source.now - l.m.at

abbrev pub invariant-slots-loop-m : goal.invariant-slots-loop-m
invariant-slots-loop-m l = Going (SlotsHere l.place) (slots_emitted l.place) l.e.tokens.source.now (table_in l.e) l.initial.m l.initial.p l.m l.p l.t

abbrev pub decreases-slots-loop-m : goal.decreases-slots-loop-m
decreases-slots-loop-m l = length l.e.tokens.source.now - l.m.at
