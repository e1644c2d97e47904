use mathlib.Core.Path.{ap, ◌∙◌}
use mir.Syntax.{w32}
use mir.ValLaws.{to_z-of_z}
use native.Mathlib.Omega.{arith}
use borrow.Author.Tests.{ne_eqb}
use Rattle.framed.specs.declared.Value.{Value}
use Rattle.heap.specs.Words.{value_of}
use Rattle.heap.proofs.value_of.Goals as goal

pub returns-in-0 : goal.returns-in-0
unfolding value_of
returns-in-0 c = rw c.in-0.is (ap Value.Int (to_z-of_z w32 c.int_of.result (record { sfits = c.int_of.type_inv }) ∙ c.int_of.ensures))

pub returns-in-1 : goal.returns-in-1
unfolding value_of
returns-in-1 c = rw c.in-1.is

pub returns-in-2 : goal.returns-in-2
unfolding value_of
returns-in-2 c = rw c.in-2.is

pub returns-in-3 : goal.returns-in-3
unfolding value_of
returns-in-3 c = rw c.in-3.is

pub returns-in_default : goal.returns-in_default
unfolding value_of
returns-in_default c = rw (ne_eqb c.args.tag 0 (omega arith), ne_eqb c.args.tag 1 (omega arith), ne_eqb c.args.tag 2 (omega arith), ne_eqb c.args.tag 3 (omega arith))
