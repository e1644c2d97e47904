-- docs/LAYOUT.md, the tables of expressions and instructions: an entry as data. Assumes nothing.
use Rattle.std.specs.Prelude.{List, ℕ, eqb, ltb}
use Rattle.words.specs.Words.{pick}
use Rattle.tables.specs.declared.ExpressionEntry.{ExpressionEntry}
use Rattle.tables.specs.declared.InstructionEntry.{InstructionEntry}
use Rattle.tables.specs.Fields.{expression_kind, expression_a, expression_b, instruction_kind, instruction_a, instruction_b, instruction_c}

-- kinds 7 to 15 are the operators + - * / < # == && ||, in this order
unfoldable pub expression_of : ℕ → ℕ → ℕ → ExpressionEntry
expression_of k a b =
    pick (eqb k 0) (ExpressionEntry.Integer a)
    (pick (eqb k 1) (ExpressionEntry.Literal a)
    (pick (eqb k 2) (ExpressionEntry.FromSelf a b)
    (pick (eqb k 3) (ExpressionEntry.FromProgram a b)
    (pick (eqb k 4) (ExpressionEntry.Code a)
    (pick (eqb k 5) (ExpressionEntry.Frame a)
    (pick (eqb k 6) (ExpressionEntry.Not a)
    (pick (ltb k 16) (ExpressionEntry.Operate k a b) ExpressionEntry.Bad)))))))

unfoldable pub instruction_of : ℕ → ℕ → ℕ → ℕ → InstructionEntry
instruction_of k a b c =
    pick (eqb k 0) (InstructionEntry.AssignSelf a b c)
    (pick (eqb k 1) (InstructionEntry.AssignProgram a b c)
    (pick (eqb k 2) (InstructionEntry.Show a)
    (pick (eqb k 3) (InstructionEntry.Jump a b)
    (pick (eqb k 4) (InstructionEntry.Ifeq a b c) InstructionEntry.Bad))))

unfoldable pub expression_at : List ℕ → ℕ → ExpressionEntry
expression_at p x = expression_of (expression_kind p x) (expression_a p x) (expression_b p x)

unfoldable pub instruction_at : List ℕ → ℕ → InstructionEntry
instruction_at p i = instruction_of (instruction_kind p i) (instruction_a p i) (instruction_b p i) (instruction_c p i)
