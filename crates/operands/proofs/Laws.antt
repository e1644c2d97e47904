-- One law for each way through `operand_tested`, by the form of an entry. Assumes nothing.
use Prim.Native.Nat.{ℕ}
use mathlib.Core.Path.{◌≡◌, ap}
use mathlib.Core.List.{List}
use lib.IntN.{ℤ, pos}
use mir.Syntax.{w32}
use mir.Val.{to_z, of_z}
use mir.ValLaws.{to_z-of_z}
use Rattle.std.specs.Prelude.{Option, Some}
use Rattle.framed.specs.declared.Text.{Text}
use Rattle.framed.specs.declared.Value.{Value}
use Rattle.framed.specs.Fetch.{fetch}
use Rattle.framed.specs.Machine.{gives, defined, base_value}
use Rattle.ints.specs.Ints.{int_of}
use Rattle.ints.proofs.Laws.{int_fits}
use Rattle.tables.specs.declared.ExpressionEntry.{ExpressionEntry}
use Rattle.tables.specs.Entries.{expression_at}
use Rattle.heap.specs.Words.{self_held, program_held}
use Rattle.heap.specs.Held.{frames_held}
use Rattle.paths.specs.Paths.{fetched, path_held}
use Rattle.trees.specs.Trees.{Readers, levels, one_level, base_tree}
use Rattle.trees.specs.Held.{base_held}
use Rattle.trees.proofs.Held.{trees_one}
use Rattle.operands.specs.Operands.{operand_value}
use Rattle.operands.proofs.Lists.{same_path}

base_open : (p : List ℕ) (x : ℕ) → base_held p x ≡ base_tree (levels 599999 p) p (expression_at p x)
unfolding base_held one_level
base_open p x = ap (λ (r : Readers). r.base x) (trees_one p)

module _ (p h : List ℕ) (x : ℕ) (e : ExpressionEntry) (at : e ≡ expression_at p x) where
  -- by the form of the entry; the instructions inside a code are not looked at
  open_value : (v : ExpressionEntry) → e ≡ v → operand_value p h x ≡ base_value (self_held h) (program_held h) (frames_held h) (base_tree (levels 599999 p) p v)
  unfolding operand_value
  open_value v is = rw (base_open p x, ← at, is)

  pub is_integer : (w : ℕ) → e ≡ ExpressionEntry.Integer w → operand_value p h x ≡ gives (Value.Int (int_of w))
  unfolding base_value base_tree int_of
  is_integer w is = rw (open_value (ExpressionEntry.Integer w) is)

  pub operand_integer : (w : ℕ) (z : ℤ) → e ≡ ExpressionEntry.Integer w → z ≡ int_of w
      → defined (fetched (Some (Value.Int (to_z w32 (of_z w32 z))))) ≡ operand_value p h x
  unfolding defined
  operand_integer w z is ez = rw (is_integer w is, ez, to_z-of_z w32 (int_of w) (int_fits w))

  pub operand_literal : (k : ℕ) → e ≡ ExpressionEntry.Literal k → defined (fetched (Some (Value.Text (Text.Literal k)))) ≡ operand_value p h x
  unfolding base_value base_tree defined
  operand_literal k is = rw (open_value (ExpressionEntry.Literal k) is)

  pub operand_code : (k : ℕ) → e ≡ ExpressionEntry.Code k → defined (fetched (Some (Value.Code k))) ≡ operand_value p h x
  unfolding base_value base_tree defined
  operand_code k is = rw (open_value (ExpressionEntry.Code k) is)

  pub operand_self : (j n : ℕ) (r : Option Value) → e ≡ ExpressionEntry.FromSelf j n
      → fetched r ≡ fetch (frames_held h) (self_held h) (path_held p j n) → defined (fetched r) ≡ operand_value p h x
  unfolding base_value base_tree
  operand_self j n r is er = rw (open_value (ExpressionEntry.FromSelf j n) is, same_path p j n, er)

  pub operand_program : (j n : ℕ) (r : Option Value) → e ≡ ExpressionEntry.FromProgram j n
      → fetched r ≡ fetch (frames_held h) (program_held h) (path_held p j n) → defined (fetched r) ≡ operand_value p h x
  unfolding base_value base_tree
  operand_program j n r is er = rw (open_value (ExpressionEntry.FromProgram j n) is, same_path p j n, er)

  -- a path fetched from a value
  module _ (j n : ℕ) (v : Value) (r : Option Value) (er : fetched r ≡ fetch (frames_held h) v (path_held p j n)) where
    pub fetched_self : e ≡ ExpressionEntry.FromSelf j n → v ≡ self_held h → defined (fetched r) ≡ operand_value p h x
    fetched_self is ev = operand_self j n r is (rw ev at er)

    pub fetched_program : e ≡ ExpressionEntry.FromProgram j n → v ≡ program_held h → defined (fetched r) ≡ operand_value p h x
    fetched_program is ev = operand_program j n r is (rw ev at er)

  -- an entry that is no base
  pub operand_frame : (d : ℕ) → e ≡ ExpressionEntry.Frame d → defined (fetched (Some (Value.Int (pos 0)))) ≡ operand_value p h x
  unfolding base_value base_tree defined
  operand_frame d is = rw (open_value (ExpressionEntry.Frame d) is)

  pub operand_not : (a : ℕ) → e ≡ ExpressionEntry.Not a → defined (fetched (Some (Value.Int (pos 0)))) ≡ operand_value p h x
  unfolding base_value base_tree defined
  operand_not a is = rw (open_value (ExpressionEntry.Not a) is)

  pub operand_operate : (o a b : ℕ) → e ≡ ExpressionEntry.Operate o a b → defined (fetched (Some (Value.Int (pos 0)))) ≡ operand_value p h x
  unfolding base_value base_tree defined
  operand_operate o a b is = rw (open_value (ExpressionEntry.Operate o a b) is)

  pub operand_bad : e ≡ ExpressionEntry.Bad → defined (fetched (Some (Value.Int (pos 0)))) ≡ operand_value p h x
  unfolding base_value base_tree defined
  operand_bad is = rw (open_value ExpressionEntry.Bad is)
