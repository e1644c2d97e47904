-- What each way through an instruction gives, by its entry. Assumes nothing.
use Prim.Native.Nat.{ℕ, ◌≤◌, ◌<◌}
use mathlib.Core.Path.{◌≡◌, ◌∙◌, sym}
use mathlib.Core.Bool.{true, false}
use mathlib.Core.List.{List}
use lib.Dec.{eqb}
use Rattle.std.specs.Prelude.{Ok}
use Rattle.tables.specs.declared.InstructionEntry.{InstructionEntry}
use Rattle.tables.specs.Entries.{instruction_at}
use Rattle.tables.specs.Fields.{instruction_kind, instruction_a, instruction_b, instruction_c}
use Rattle.commit.specs.declared.Done.{Done}
use Rattle.commit.specs.Commit.{assignment}
use Rattle.commit.specs.Direct.{CanDo, CanDoEntry, shows, Does}
use Rattle.commit.proofs.Assignment.{assignment_entry, no_assignment}
use Rattle.commit.proofs.Direct.{left, formed}

module _ (p l h t : List ℕ) (i : ℕ) (can : CanDo p l h t i) where
  pub at_assignment : (k : ℕ) → k ≡ instruction_kind p i → k < 2 → CanDoEntry p l h t i (assignment (eqb k 0) (instruction_a p i) (instruction_b p i) (instruction_c p i))
  at_assignment k ek lt = record { can = can; entry = assignment_entry p i k ek lt }

  module _ (e : InstructionEntry) (ee : e ≡ instruction_at p i) where
    pub at_ifeq : (a c d : ℕ) → e ≡ InstructionEntry.Ifeq a c d → CanDoEntry p l h t i (InstructionEntry.Ifeq a c d)
    at_ifeq a c d is = record { can = can; entry = sym is ∙ ee }

    pub show_left : (a : ℕ) → e ≡ InstructionEntry.Show a → Does p l h t i (Ok Done.Left) h
    show_left a is = left p l h t i (shows a (sym ee ∙ is))

    -- no assignment is met here, and no entry without a form
    module _ (k : ℕ) (ek : k ≡ instruction_kind p i) (ge : 2 ≤ k) (j n x : ℕ) where
      pub self_left : e ≡ InstructionEntry.AssignSelf j n x → Does p l h t i (Ok Done.Left) h
      unfolding assignment
      self_left is = absurd (no_assignment p i k ek ge true j n x (sym is ∙ ee))

      pub program_left : e ≡ InstructionEntry.AssignProgram j n x → Does p l h t i (Ok Done.Left) h
      unfolding assignment
      program_left is = absurd (no_assignment p i k ek ge false j n x (sym is ∙ ee))

    pub bad_left : e ≡ InstructionEntry.Bad → Does p l h t i (Ok Done.Left) h
    bad_left is = absurd (((formed p l h t i can).program.entries.instruction i can.there).formed (sym ee ∙ is))
