-- What an instruction that is `:=` along a path means, by the expression and the path. Assumes nothing.
use Prim.Native.Nat.{ℕ, suc, ◌<◌}
use mathlib.Core.Path.{◌≡◌, ◌∙◌}
use mathlib.Core.Bool.{Bool, true, false}
use mathlib.Core.List.{List}
use native.Mathlib.Omega.{arith}
use Rattle.framed.specs.declared.Value.{Value}
use Rattle.framed.specs.Tree.{Instruction}
use Rattle.framed.specs.Paths.{Path}
use Rattle.tables.specs.declared.InstructionEntry.{InstructionEntry}
use Rattle.tables.specs.Entries.{instruction_at}
use Rattle.tables.specs.Fields.{expressions, instructions, instruction_after}
use Rattle.trees.specs.Trees.{path_list}
use Rattle.trees.specs.Held as trees
use Rattle.heap.specs.Words.{position, set_position}
use Rattle.checking.specs.Checking.{Checks, assign_end}
use Rattle.checking.proofs.Laws.{check_self, check_program}
use Rattle.producing.specs.Producing.{Writable}
use Rattle.commit.specs.Commit.{root_of, path_of, Assigns, assignment, Commits}
use Rattle.commit.specs.Direct.{end_met}
use Rattle.commit.proofs.Assignment.{assignment_tree, assignment_there}
use Rattle.commit.proofs.Laws.{commit_assigns}

module _ (p l h t : List ℕ) (i j n x : ℕ) where
  -- instruction i is `:=` of expression x along a path, which Put walks from the root
  pub record Assignment (root : Value) (path : Path) : Type 0 where
    pub tree : trees.instruction_held p i ≡ Instruction.assign path (trees.expression_held p x)
    pub there : x < expressions p
    pub quiet : (a : ℕ) → instruction_at p i ≡ InstructionEntry.Show a → ⊥
    pub checked : (r : ℕ) → r ≡ assign_end p l h t root j n x → r ≡ end_met p l h t i
    pub done : Writable p l h t → (h₁ t₁ h₂ : List ℕ) → Assigns p l h t path x h₁ t₁ → h₂ ≡ set_position h₁ (instruction_after p i) → Commits p l h t i h₂ t₁

  no_show : (own : Bool) (a : ℕ) → assignment own j n x ≡ InstructionEntry.Show a → ⊥
  unfolding assignment
  no_show true a q = let z : ◌≡◌ {A = ℕ} 0 1 = cc in omega arith
  no_show false a q = let z : ◌≡◌ {A = ℕ} 0 1 = cc in omega arith

  module _ (k : Checks p l h t) (here : i < instructions p) (next : position h ≡ suc i) where
    checked_by : (own : Bool) → assignment own j n x ≡ instruction_at p i → (r : ℕ) → r ≡ assign_end p l h t (root_of own h) j n x → r ≡ end_met p l h t i
    unfolding assignment root_of
    checked_by true at r er = check_self p l h t i k here j n x r at er
    checked_by false at r er = check_program p l h t i k here j n x r at er

    pub root_path : (own : Bool) → assignment own j n x ≡ instruction_at p i → Assignment (root_of own h) (path_of own (path_list p n j))
    root_path own at = record {
      tree = assignment_tree p l k.program i here own j n x at;
      there = assignment_there p l k.program i here own j n x at;
      quiet = λ a q. no_show own a (at ∙ q);
      checked = checked_by own at;
      done = λ c h₁ t₁ h₂ a eh. commit_assigns p l h t i c here next own j n x at h₁ t₁ h₂ a eh;
    }
