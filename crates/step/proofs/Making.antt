-- An instruction that makes something or shows is an assignment or a show. Assumes nothing.
use Prim.Native.Nat.{ℕ, ◌≤◌, ◌<◌}
use mathlib.Core.Path.{◌≡◌, refl, sym}
use mathlib.Core.List.{List}
use native.Mathlib.Omega.{arith}
use native.Mathlib.Decide.{dec_lt}
use Rattle.tables.specs.declared.InstructionEntry.{InstructionEntry}
use Rattle.tables.specs.Entries.{instruction_at}
use Rattle.tables.specs.Fields.{instructions, instruction_kind}
use Rattle.program_form.specs.WellFormed.{WellFormed}
use Rattle.checking.specs.Checking.{AssignsOrShows}
use Rattle.commit.specs.Direct.{MakesNothing, MakesOrShows, makes_frame, makes_text, shows}
use Rattle.commit.proofs.Assignment.{kind_of, kind_least}
use Rattle.step_jump.proofs.Making.{jump_nothing, ifeq_nothing}

module _ (p l : List ℕ) (w : WellFormed p l) (i : ℕ) (there : i < instructions p) where
  nothing_left : MakesNothing p i → ((a : ℕ) → instruction_at p i ≡ InstructionEntry.Show a → ⊥) → MakesOrShows p i → ⊥
  nothing_left n quiet (makes_frame f) = omega (arith, n.frames, f)
  nothing_left n quiet (makes_text f) = omega (arith, n.texts, f)
  nothing_left n quiet (shows a s) = quiet a s

  other_left : (e : InstructionEntry) → e ≡ instruction_at p i → 3 ≤ kind_of e → MakesOrShows p i → ⊥
  other_left (InstructionEntry.AssignSelf j n x) at ge m = omega arith
  other_left (InstructionEntry.AssignProgram j n x) at ge m = omega arith
  other_left (InstructionEntry.Show a) at ge m = omega arith
  other_left (InstructionEntry.Jump a c) at ge m = nothing_left (jump_nothing p l w i there a c at) (λ b s. let y : ◌≡◌ {A = ℕ} 0 1 = cc in omega arith) m
  other_left (InstructionEntry.Ifeq a c d) at ge m = nothing_left (ifeq_nothing p l w i there a c d at) (λ b s. let y : ◌≡◌ {A = ℕ} 0 1 = cc in omega arith) m
  other_left InstructionEntry.Bad at ge m = (w.entries.instruction i there).formed (sym at)

  pub left_form : MakesOrShows p i → AssignsOrShows p i
  left_form m = record { kind = go (dec_lt (instruction_kind p i) 3) }
    where
      go : Dec (instruction_kind p i < 3) → instruction_kind p i < 3
      go (yes lt) = lt
      go (no ge) = absurd (other_left (instruction_at p i) refl (kind_least p i 3 (omega arith) (omega arith)) m)
