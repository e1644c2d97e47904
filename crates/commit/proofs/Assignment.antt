-- `:=` from self or from the program: its entry by its kind, and what that says. Assumes nothing.
use Prim.Native.Nat.{ℕ, zero, suc, ◌≤◌, ◌<◌}
use mathlib.Core.Path.{◌≡◌, sym}
use mathlib.Core.Bool.{Bool, true, false}
use mathlib.Core.List.{List}
use native.Mathlib.Omega.{arith}
use lib.Dec.{eqb}
use borrow.Author.Tests.{ne_eqb}
use Rattle.framed.specs.Tree.{Instruction}
use Rattle.tables.specs.declared.InstructionEntry.{InstructionEntry}
use Rattle.tables.specs.Entries.{instruction_of, instruction_at}
use Rattle.tables.specs.Fields.{expressions, instructions, instruction_kind, instruction_a, instruction_b, instruction_c}
use Rattle.program_entries.specs.Form.{InstructionForm}
use Rattle.program_form.specs.WellFormed.{WellFormed}
use Rattle.trees.specs.Trees.{path_list}
use Rattle.trees.specs.Held as trees
use Rattle.trees.proofs.Held.{assign_self_held, assign_program_held}
use Rattle.commit.specs.Commit.{path_of, assignment}

-- of kinds 0 and 1
pub assignment_entry : (p : List ℕ) (i k : ℕ) → k ≡ instruction_kind p i → k < 2
    → assignment (eqb k 0) (instruction_a p i) (instruction_b p i) (instruction_c p i) ≡ instruction_at p i
unfolding assignment instruction_at instruction_of
assignment_entry p i zero ek lt = rw (← ek)
assignment_entry p i (suc zero) ek lt = rw (← ek)
assignment_entry p i (suc (suc k)) ek lt = absurd (omega arith)

-- the kind of an entry, 5 where it has no form
abbrev pub kind_of : InstructionEntry → ℕ
kind_of (InstructionEntry.AssignSelf j n x) = 0
kind_of (InstructionEntry.AssignProgram j n x) = 1
kind_of (InstructionEntry.Show a) = 2
kind_of (InstructionEntry.Jump a c) = 3
kind_of (InstructionEntry.Ifeq a c d) = 4
kind_of InstructionEntry.Bad = 5

least : (m k a b c : ℕ) → m ≤ 5 → m ≤ k → m ≤ kind_of (instruction_of k a b c)
unfolding instruction_of
least m zero a b c few le = le
least m (suc zero) a b c few le = le
least m (suc (suc zero)) a b c few le = le
least m (suc (suc (suc zero))) a b c few le = le
least m (suc (suc (suc (suc zero)))) a b c few le = le
least m (suc (suc (suc (suc (suc k))))) a b c few le = high (suc (suc (suc (suc (suc k))))) (omega arith)
  where
    high : (n : ℕ) → 5 ≤ n → m ≤ kind_of (instruction_of n a b c)
    high n ge = rw (ne_eqb n 0 (λ q. omega arith), ne_eqb n 1 (λ q. omega arith), ne_eqb n 2 (λ q. omega arith), ne_eqb n 3 (λ q. omega arith), ne_eqb n 4 (λ q. omega arith)) few

pub kind_least : (p : List ℕ) (i m : ℕ) → m ≤ 5 → m ≤ instruction_kind p i → m ≤ kind_of (instruction_at p i)
unfolding instruction_at
kind_least p i m few le = least m (instruction_kind p i) (instruction_a p i) (instruction_b p i) (instruction_c p i) few le

-- an assignment has no other kind
assignment_kind : (own : Bool) (j n x : ℕ) → kind_of (assignment own j n x) ≤ 1
unfolding assignment
assignment_kind true j n x = omega arith
assignment_kind false j n x = omega arith

pub no_assignment : (p : List ℕ) (i k : ℕ) → k ≡ instruction_kind p i → 2 ≤ k → (own : Bool) (j n x : ℕ) → assignment own j n x ≡ instruction_at p i → ⊥
no_assignment p i k ek ge own j n x at =
    let a = assignment_kind own j n x in let b : 2 ≤ kind_of (assignment own j n x) = rw at (kind_least p i 2 (omega arith) (omega arith)) in omega arith

-- ---- What it says

module _ (p l : List ℕ) (w : WellFormed p l) (i : ℕ) (there : i < instructions p) where
  form : InstructionForm p i
  form = w.entries.instruction i there

  pub assignment_tree : (own : Bool) (j n x : ℕ) → assignment own j n x ≡ instruction_at p i → trees.instruction_held p i ≡ Instruction.assign (path_of own (path_list p n j)) (trees.expression_held p x)
  unfolding assignment path_of
  assignment_tree true j n x at = assign_self_held p l w i there j n x (sym at)
  assignment_tree false j n x at = assign_program_held p l w i there j n x (sym at)

  pub assignment_there : (own : Bool) (j n x : ℕ) → assignment own j n x ≡ instruction_at p i → x < expressions p
  unfolding assignment
  assignment_there true j n x at = form.self_there j n x (sym at)
  assignment_there false j n x at = form.program_there j n x (sym at)
