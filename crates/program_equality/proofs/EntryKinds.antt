-- The kind of an entry (docs/LAYOUT.md) as a number of the tree that it holds: trees of different kinds do not agree. Assumes nothing.
use mathlib.Core.Path.{◌≡◌, refl, ◌∙◌, ap, sym}
use mathlib.Core.Bool.{Bool, true, false}
use mathlib.Core.List.{List}
use Prim.Native.Nat.{ℕ, zero, suc, ◌+◌, ◌-◌, ◌≤◌, ◌<◌}
use native.Mathlib.Omega.{arith}
use native.Mathlib.Decide.{dec_lt, ℕ_discrete}
use borrow.Author.Tests.{ne_eqb, lt-ltb, le-ltb}
use lib.Dec.{ltb}
use Rattle.framed.specs.Paths.{from_self, from_program}
use Rattle.framed.specs.Equality.{operator_number, same_base, same_expression, same_instruction}
use Rattle.framed.specs.Equality.{PlainBase, PlainExpression, PlainInstruction, plain_base, plain_expression, plain_instruction}
use Rattle.framed.proofs.SameCodeExact.{base_same, expression_same, instruction_same}
use Rattle.words.specs.Words.{pick}
use Rattle.tables.specs.declared.ExpressionEntry.{ExpressionEntry}
use Rattle.tables.specs.declared.InstructionEntry.{InstructionEntry}
use Rattle.tables.specs.Entries.{expression_of, expression_at, instruction_of, instruction_at}
use Rattle.tables.specs.Fields.{expressions, instructions, expression_kind, expression_a, expression_b, instruction_kind, instruction_a, instruction_b, instruction_c}
use Rattle.program_entries.specs.Form.{Base}
use Rattle.program_form.specs.WellFormed.{WellFormed}
use Rattle.trees.specs.Trees.{operator_of}
use Rattle.trees.specs.Held.{base_held, expression_held, instruction_held}
use Rattle.trees.proofs.Held as tree

-- ---- Entries by their kind

module _ (p : List ℕ) (x : ℕ) where
  pub at_integer : expression_kind p x ≡ 0 → expression_at p x ≡ ExpressionEntry.Integer (expression_a p x)
  unfolding expression_at expression_of
  at_integer e = rw e

  pub at_literal : expression_kind p x ≡ 1 → expression_at p x ≡ ExpressionEntry.Literal (expression_a p x)
  unfolding expression_at expression_of
  at_literal e = rw e

  pub at_self : expression_kind p x ≡ 2 → expression_at p x ≡ ExpressionEntry.FromSelf (expression_a p x) (expression_b p x)
  unfolding expression_at expression_of
  at_self e = rw e

  pub at_program : expression_kind p x ≡ 3 → expression_at p x ≡ ExpressionEntry.FromProgram (expression_a p x) (expression_b p x)
  unfolding expression_at expression_of
  at_program e = rw e

  pub at_code : expression_kind p x ≡ 4 → expression_at p x ≡ ExpressionEntry.Code (expression_a p x)
  unfolding expression_at expression_of
  at_code e = rw e

  pub at_frame : expression_kind p x ≡ 5 → expression_at p x ≡ ExpressionEntry.Frame (expression_a p x)
  unfolding expression_at expression_of
  at_frame e = rw e

  pub at_not : expression_kind p x ≡ 6 → expression_at p x ≡ ExpressionEntry.Not (expression_a p x)
  unfolding expression_at expression_of
  at_not e = rw e

  module _ (ge : 7 ≤ expression_kind p x) where
    high : expression_at p x ≡ pick (ltb (expression_kind p x) 16) (ExpressionEntry.Operate (expression_kind p x) (expression_a p x) (expression_b p x)) ExpressionEntry.Bad
    unfolding expression_at expression_of
    high =
        let k = expression_kind p x in
        rw (ne_eqb k 0 (λ q. omega arith), ne_eqb k 1 (λ q. omega arith), ne_eqb k 2 (λ q. omega arith), ne_eqb k 3 (λ q. omega arith), ne_eqb k 4 (λ q. omega arith), ne_eqb k 5 (λ q. omega arith), ne_eqb k 6 (λ q. omega arith))

    at_operate : expression_kind p x < 16 → expression_at p x ≡ ExpressionEntry.Operate (expression_kind p x) (expression_a p x) (expression_b p x)
    at_operate lt = high ∙ rw (lt-ltb (expression_kind p x) 16 lt)

    at_bad : 16 ≤ expression_kind p x → expression_at p x ≡ ExpressionEntry.Bad
    at_bad le = high ∙ rw (le-ltb (expression_kind p x) 16 le)

module _ (p : List ℕ) (i : ℕ) where
  pub at_assign_self : instruction_kind p i ≡ 0 → instruction_at p i ≡ InstructionEntry.AssignSelf (instruction_a p i) (instruction_b p i) (instruction_c p i)
  unfolding instruction_at instruction_of
  at_assign_self e = rw e

  pub at_assign_program : instruction_kind p i ≡ 1 → instruction_at p i ≡ InstructionEntry.AssignProgram (instruction_a p i) (instruction_b p i) (instruction_c p i)
  unfolding instruction_at instruction_of
  at_assign_program e = rw e

  pub at_show : instruction_kind p i ≡ 2 → instruction_at p i ≡ InstructionEntry.Show (instruction_a p i)
  unfolding instruction_at instruction_of
  at_show e = rw e

  pub at_jump : instruction_kind p i ≡ 3 → instruction_at p i ≡ InstructionEntry.Jump (instruction_a p i) (instruction_b p i)
  unfolding instruction_at instruction_of
  at_jump e = rw e

  pub at_ifeq : instruction_kind p i ≡ 4 → instruction_at p i ≡ InstructionEntry.Ifeq (instruction_a p i) (instruction_b p i) (instruction_c p i)
  unfolding instruction_at instruction_of
  at_ifeq e = rw e

  at_nothing : 5 ≤ instruction_kind p i → instruction_at p i ≡ InstructionEntry.Bad
  unfolding instruction_at instruction_of
  at_nothing le =
      let k = instruction_kind p i in
      rw (ne_eqb k 0 (λ q. omega arith), ne_eqb k 1 (λ q. omega arith), ne_eqb k 2 (λ q. omega arith), ne_eqb k 3 (λ q. omega arith), ne_eqb k 4 (λ q. omega arith))

-- ---- The kind of a tree, numbers of codes and literals left out

unfoldable base_kind : PlainBase → ℕ
base_kind (PlainBase.integer z) = 0
base_kind (PlainBase.string w) = 1
base_kind (PlainBase.path (from_self ns)) = 2
base_kind (PlainBase.path (from_program ns)) = 3
base_kind (PlainBase.code is) = 4

unfoldable kind : PlainExpression → ℕ
kind (PlainExpression.base b) = base_kind b
kind (PlainExpression.frame ss) = 5
kind (PlainExpression.not b) = 6
kind (PlainExpression.operation o a b) = 7 + operator_number o

unfoldable rule_kind : PlainInstruction → ℕ
rule_kind (PlainInstruction.assign (from_self ns) e) = 0
rule_kind (PlainInstruction.assign (from_program ns) e) = 1
rule_kind (PlainInstruction.show a) = 2
rule_kind (PlainInstruction.jump a b) = 3
rule_kind (PlainInstruction.ifeq a b c) = 4

-- what is not true is false
not_true : (t : Bool) → (t ≡ true → ⊥) → false ≡ t
not_true true n = absurd (n refl)
not_true false n = refl

-- ---- The kind of the tree is that of the entry

operator_back : (n : ℕ) → n < 9 → operator_number (operator_of (7 + n)) ≡ n
unfolding operator_of operator_number
operator_back zero lt = refl
operator_back (suc zero) lt = refl
operator_back (suc (suc zero)) lt = refl
operator_back (suc (suc (suc zero))) lt = refl
operator_back (suc (suc (suc (suc zero)))) lt = refl
operator_back (suc (suc (suc (suc (suc zero))))) lt = refl
operator_back (suc (suc (suc (suc (suc (suc zero)))))) lt = refl
operator_back (suc (suc (suc (suc (suc (suc (suc zero))))))) lt = refl
operator_back (suc (suc (suc (suc (suc (suc (suc (suc zero)))))))) lt = refl
operator_back (suc (suc (suc (suc (suc (suc (suc (suc (suc n))))))))) lt = absurd (omega arith)

-- from kind 7 on an expression is an operation
pub operation_at : (p l : List ℕ) (w : WellFormed p l) (x : ℕ) → x < expressions p → 7 ≤ expression_kind p x
    → (expression_kind p x < 16) × (expression_at p x ≡ ExpressionEntry.Operate (expression_kind p x) (expression_a p x) (expression_b p x))
operation_at p l w x there ge = go (dec_lt (expression_kind p x) 16)
  where
    go : Dec (expression_kind p x < 16)
        → (expression_kind p x < 16) × (expression_at p x ≡ ExpressionEntry.Operate (expression_kind p x) (expression_a p x) (expression_b p x))
    go (yes lt) = (lt, at_operate p x ge lt)
    go (no n) = absurd ((w.entries.expression x there).formed (at_bad p x ge (omega arith)))

-- an instruction is of one of five kinds
pub instruction_kinds : (p l : List ℕ) (w : WellFormed p l) (i : ℕ) → i < instructions p → instruction_kind p i < 5
instruction_kinds p l w i there = go (dec_lt (instruction_kind p i) 5)
  where
    go : Dec (instruction_kind p i < 5) → instruction_kind p i < 5
    go (yes lt) = lt
    go (no n) = absurd ((w.entries.instruction i there).formed (at_nothing p i (omega arith)))

module _ (p l : List ℕ) (w : WellFormed p l) (lits : List (List ℕ)) where
  module _ (x : ℕ) (there : x < expressions p) where
    base_kind_held : (k : ℕ) → expression_kind p x ≡ k → k < 5 → base_kind (plain_base lits (base_held p x)) ≡ k
    unfolding plain_base base_kind
    base_kind_held zero e lt = rw (tree.integer_held p l w x there _ (at_integer p x e))
    base_kind_held (suc zero) e lt = rw (tree.string_held p l w x there _ (at_literal p x e))
    base_kind_held (suc (suc zero)) e lt = rw (tree.self_path_held p l w x there _ _ (at_self p x e))
    base_kind_held (suc (suc (suc zero))) e lt = rw (tree.program_path_held p l w x there _ _ (at_program p x e))
    base_kind_held (suc (suc (suc (suc zero)))) e lt = rw (tree.code_held p l w x there _ (at_code p x e))
    base_kind_held (suc (suc (suc (suc (suc k))))) e lt = absurd (omega arith)

    kind_held : (k : ℕ) → expression_kind p x ≡ k → kind (plain_expression lits (expression_held p x)) ≡ k
    unfolding plain_base kind
    kind_held k e = by (dec_lt k 5) (ℕ_discrete k 5) (ℕ_discrete k 6)
      where
        by : Dec (k < 5) → Dec (k ≡ 5) → Dec (k ≡ 6) → kind (plain_expression lits (expression_held p x)) ≡ k
        by (yes lt) a b = rw ((tree.one_level_held p l w).as_base x there (rw e lt)) (base_kind_held k e lt)
        by (no n) (yes q) b = rw (tree.frame_held p l w x there _ (at_frame p x (e ∙ q))) (sym q)
        by (no n) (no a) (yes q) = rw (tree.not_held p l w x there _ (at_not p x (e ∙ q))) (sym q)
        by (no n) (no a) (no b) =
            let o = operation_at p l w x there (omega arith) in
            let lt = o.0 in
            let z : expression_kind p x ≡ 7 + (k - 7) = omega arith in
            let q : 7 + (k - 7) ≡ k = omega arith in
            rw (tree.operation_held p l w x there _ _ _ o.1, z) (ap (λ (n : ℕ). 7 + n) (operator_back (k - 7) (omega arith)) ∙ q)

  module _ (i : ℕ) (there : i < instructions p) where
    rule_kind_held : (k : ℕ) → instruction_kind p i ≡ k → rule_kind (plain_instruction lits (instruction_held p i)) ≡ k
    unfolding plain_base rule_kind
    rule_kind_held zero e = rw (tree.assign_self_held p l w i there _ _ _ (at_assign_self p i e))
    rule_kind_held (suc zero) e = rw (tree.assign_program_held p l w i there _ _ _ (at_assign_program p i e))
    rule_kind_held (suc (suc zero)) e = rw (tree.show_held p l w i there _ (at_show p i e))
    rule_kind_held (suc (suc (suc zero))) e = rw (tree.jump_held p l w i there _ _ (at_jump p i e))
    rule_kind_held (suc (suc (suc (suc zero)))) e = rw (tree.ifeq_held p l w i there _ _ _ (at_ifeq p i e))
    rule_kind_held (suc (suc (suc (suc (suc k))))) e = absurd (let lt = instruction_kinds p l w i there in omega arith)

  -- ---- Entries of different kinds hold trees that do not agree

  pub bases_of_kinds : (x y : ℕ) → Base p x → Base p y → (expression_kind p y ≡ expression_kind p x → ⊥) → false ≡ same_base lits (base_held p x) (base_held p y)
  bases_of_kinds x y a b n =
      not_true _ λ e.
      n (sym (base_kind_held y b.there _ refl b.base) ∙ ap base_kind (sym (base_same lits (base_held p x) (base_held p y) e)) ∙ base_kind_held x a.there _ refl a.base)

  pub expressions_of_kinds : (x y : ℕ) → x < expressions p → y < expressions p → (expression_kind p y ≡ expression_kind p x → ⊥)
      → false ≡ same_expression lits (expression_held p x) (expression_held p y)
  expressions_of_kinds x y a b n =
      not_true _ λ e. n (sym (kind_held y b _ refl) ∙ ap kind (sym (expression_same lits (expression_held p x) (expression_held p y) e)) ∙ kind_held x a _ refl)

  pub instructions_of_kinds : (i j : ℕ) → i < instructions p → j < instructions p → (instruction_kind p j ≡ instruction_kind p i → ⊥)
      → false ≡ same_instruction lits (instruction_held p i) (instruction_held p j)
  instructions_of_kinds i j a b n =
      not_true _ λ e. n (sym (rule_kind_held j b _ refl) ∙ ap rule_kind (sym (instruction_same lits (instruction_held p i) (instruction_held p j) e)) ∙ rule_kind_held i a _ refl)
