-- docs/LAYOUT.md, the tables of expressions and instructions: the words of an entry. Assumes nothing.
use Rattle.std.specs.Prelude.{ℕ, ◌≤◌, ◌<◌}
use Rattle.tables.specs.declared.ExpressionEntry.{ExpressionEntry}
use Rattle.tables.specs.declared.InstructionEntry.{InstructionEntry}

-- the words kind, a and b of an expression entry; words that its kind does not look at are 0
unfoldable pub expression_kind_of : ExpressionEntry → ℕ
expression_kind_of (ExpressionEntry.Integer a) = 0
expression_kind_of (ExpressionEntry.Literal a) = 1
expression_kind_of (ExpressionEntry.FromSelf a b) = 2
expression_kind_of (ExpressionEntry.FromProgram a b) = 3
expression_kind_of (ExpressionEntry.Code a) = 4
expression_kind_of (ExpressionEntry.Frame a) = 5
expression_kind_of (ExpressionEntry.Not a) = 6
expression_kind_of (ExpressionEntry.Operate k a b) = k
expression_kind_of ExpressionEntry.Bad = 16

-- its word a
unfoldable pub expression_a_of : ExpressionEntry → ℕ
expression_a_of (ExpressionEntry.Integer a) = a
expression_a_of (ExpressionEntry.Literal a) = a
expression_a_of (ExpressionEntry.FromSelf a b) = a
expression_a_of (ExpressionEntry.FromProgram a b) = a
expression_a_of (ExpressionEntry.Code a) = a
expression_a_of (ExpressionEntry.Frame a) = a
expression_a_of (ExpressionEntry.Not a) = a
expression_a_of (ExpressionEntry.Operate k a b) = a
expression_a_of ExpressionEntry.Bad = 0

-- its word b
unfoldable pub expression_b_of : ExpressionEntry → ℕ
expression_b_of (ExpressionEntry.Integer a) = 0
expression_b_of (ExpressionEntry.Literal a) = 0
expression_b_of (ExpressionEntry.FromSelf a b) = b
expression_b_of (ExpressionEntry.FromProgram a b) = b
expression_b_of (ExpressionEntry.Code a) = 0
expression_b_of (ExpressionEntry.Frame a) = 0
expression_b_of (ExpressionEntry.Not a) = 0
expression_b_of (ExpressionEntry.Operate k a b) = b
expression_b_of ExpressionEntry.Bad = 0

-- the words kind, a, b and c of an instruction entry; words that its kind does not look at are 0
unfoldable pub instruction_kind_of : InstructionEntry → ℕ
instruction_kind_of (InstructionEntry.AssignSelf a b c) = 0
instruction_kind_of (InstructionEntry.AssignProgram a b c) = 1
instruction_kind_of (InstructionEntry.Show a) = 2
instruction_kind_of (InstructionEntry.Jump a b) = 3
instruction_kind_of (InstructionEntry.Ifeq a b c) = 4
instruction_kind_of InstructionEntry.Bad = 5

-- its word a
unfoldable pub instruction_a_of : InstructionEntry → ℕ
instruction_a_of (InstructionEntry.AssignSelf a b c) = a
instruction_a_of (InstructionEntry.AssignProgram a b c) = a
instruction_a_of (InstructionEntry.Show a) = a
instruction_a_of (InstructionEntry.Jump a b) = a
instruction_a_of (InstructionEntry.Ifeq a b c) = a
instruction_a_of InstructionEntry.Bad = 0

-- its word b
unfoldable pub instruction_b_of : InstructionEntry → ℕ
instruction_b_of (InstructionEntry.AssignSelf a b c) = b
instruction_b_of (InstructionEntry.AssignProgram a b c) = b
instruction_b_of (InstructionEntry.Show a) = 0
instruction_b_of (InstructionEntry.Jump a b) = b
instruction_b_of (InstructionEntry.Ifeq a b c) = b
instruction_b_of InstructionEntry.Bad = 0

-- its word c
unfoldable pub instruction_c_of : InstructionEntry → ℕ
instruction_c_of (InstructionEntry.AssignSelf a b c) = c
instruction_c_of (InstructionEntry.AssignProgram a b c) = c
instruction_c_of (InstructionEntry.Show a) = 0
instruction_c_of (InstructionEntry.Jump a b) = 0
instruction_c_of (InstructionEntry.Ifeq a b c) = c
instruction_c_of InstructionEntry.Bad = 0

-- an entry that its words give back: the kind of an operator is 7 to 15
pub data Encodable : ExpressionEntry → Type 0 where
  integer : (a : ℕ) → Encodable (ExpressionEntry.Integer a)
  literal : (a : ℕ) → Encodable (ExpressionEntry.Literal a)
  from_self : (a b : ℕ) → Encodable (ExpressionEntry.FromSelf a b)
  from_program : (a b : ℕ) → Encodable (ExpressionEntry.FromProgram a b)
  code : (a : ℕ) → Encodable (ExpressionEntry.Code a)
  frame : (a : ℕ) → Encodable (ExpressionEntry.Frame a)
  not : (a : ℕ) → Encodable (ExpressionEntry.Not a)
  operate : (k a b : ℕ) → 7 ≤ k → k < 16 → Encodable (ExpressionEntry.Operate k a b)
