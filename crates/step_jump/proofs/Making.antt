-- No jump and no `ifeq` makes a frame or a text. Assumes nothing.
use Prim.Native.Nat.{ℕ, ◌<◌}
use mathlib.Core.Path.{◌≡◌, sym}
use mathlib.Core.List.{List}
use Rattle.framed.specs.Tree.{Instruction}
use Rattle.framed.specs.Machine.{frame_literals, join_signs, right_side}
use Rattle.tables.specs.declared.InstructionEntry.{InstructionEntry}
use Rattle.tables.specs.Entries.{instruction_at}
use Rattle.tables.specs.Fields.{instructions}
use Rattle.program_form.specs.WellFormed.{WellFormed}
use Rattle.trees.specs.Held as trees
use Rattle.trees.proofs.Held.{jump_held, ifeq_held}
use Rattle.commit.specs.Direct.{MakesNothing}

module _ (p l : List ℕ) (w : WellFormed p l) (i : ℕ) (there : i < instructions p) where
  pub jump_nothing : (a c : ℕ) → InstructionEntry.Jump a c ≡ instruction_at p i → MakesNothing p i
  unfolding right_side frame_literals join_signs
  jump_nothing a c at = record { frames = rw tree; texts = rw tree }
    where
      tree : trees.instruction_held p i ≡ Instruction.jump (trees.base_held p a) (trees.base_held p c)
      tree = jump_held p l w i there a c (sym at)

  pub ifeq_nothing : (a c d : ℕ) → InstructionEntry.Ifeq a c d ≡ instruction_at p i → MakesNothing p i
  unfolding right_side frame_literals join_signs
  ifeq_nothing a c d at = record { frames = rw tree; texts = rw tree }
    where
      tree : trees.instruction_held p i ≡ Instruction.ifeq (trees.base_held p a) (trees.base_held p c) (trees.base_held p d)
      tree = ifeq_held p l w i there a c d (sym at)
