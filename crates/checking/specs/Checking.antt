-- Document 01, "The endless machine", step 2, and "What stops a call": the end that an expression, or an instruction that assigns or shows, meets first, over
-- program words p, literal bytes l, heap words h and text bytes t. What it means is `bounded`'s check. Assumes nothing.
use Rattle.std.specs.Prelude.{ℕ, ◌<◌, List}
use Rattle.framed.specs.declared.Value.{Value}
use Rattle.bounded.specs.Check.{end_of, first_end, operation_result, check_expression, check_slots}
use Rattle.tables.specs.declared.ExpressionEntry.{ExpressionEntry}
use Rattle.tables.specs.Fields.{expressions, instructions, instruction_kind}
use Rattle.program_form.specs.WellFormed.{WellFormed}
use Rattle.program_form.specs.Sound.{SlotPlace}
use Rattle.heap.specs.Words.{self_held, program_held}
use Rattle.heap.specs.Held.{heap_held}
use Rattle.texts.specs.Texts.{Readable}
use Rattle.trees.specs.Held.{base_held, expression_held, slots_held}
use Rattle.program_equality.specs.Agreement.{constants_held}
use Rattle.operators.specs.Operators.{operator_of}
use Rattle.operands.specs.Operands.{operand_value}
use Rattle.operand_checks.specs.OperandChecks.{put_end}

-- what is asked of the memories: well-formed ones have it
pub record Checks (p l h t : List ℕ) : Type 0 where
  pub program : WellFormed p l
  pub readable : Readable p l h t

pub record ChecksExpression (p l h t : List ℕ) (x : ℕ) : Type 0 where
  pub memories : Checks p l h t
  pub there : x < expressions p

pub record ChecksSlots (p l h t : List ℕ) (z : ℕ) : Type 0 where
  pub memories : Checks p l h t
  pub place : SlotPlace p z

-- instruction i is `:=` or `show`: kinds 0 to 2
pub record AssignsOrShows (p : List ℕ) (i : ℕ) : Type 0 where
  pub kind : instruction_kind p i < 3

pub record ChecksInstruction (p l h t : List ℕ) (i : ℕ) : Type 0 where
  pub memories : Checks p l h t
  pub there : i < instructions p
  pub form : AssignsOrShows p i

module _ (p l h t : List ℕ) where
  -- of the operator of kind o between the expressions a and b
  unfoldable pub operation_end : ℕ → ℕ → ℕ → ℕ
  operation_end o a b =
      end_of (operation_result (constants_held p l) (self_held h) (program_held h) (heap_held h t) (operator_of o) (base_held p a) (base_held p b))

  -- of expression x, and of the slots from the place z on
  unfoldable pub expression_end : ℕ → ℕ
  expression_end x = check_expression (constants_held p l) (self_held h) (program_held h) (heap_held h t) (expression_held p x)

  unfoldable pub slots_end : ℕ → ℕ
  slots_end z = check_slots (constants_held p l) (self_held h) (program_held h) (heap_held h t) (slots_held p z)

  -- of `:=` of expression x along the n path names from j on
  unfoldable pub assign_end : Value → ℕ → ℕ → ℕ → ℕ
  assign_end v j n x = first_end (expression_end x) (put_end p h v j n)

-- the expression whose value the entry e of expression x starts from, where e is no operation
unfoldable pub base_in : ℕ → ExpressionEntry → ℕ
base_in x (ExpressionEntry.Integer w) = x
base_in x (ExpressionEntry.Literal k) = x
base_in x (ExpressionEntry.FromSelf j n) = x
base_in x (ExpressionEntry.FromProgram j n) = x
base_in x (ExpressionEntry.Code k) = x
base_in x (ExpressionEntry.Frame d) = x
base_in x (ExpressionEntry.Not a) = a
base_in x (ExpressionEntry.Operate o a b) = x
base_in x ExpressionEntry.Bad = x

-- of the entry e of expression x, where it is no frame literal
unfoldable pub single_end : (p l h t : List ℕ) → ℕ → ExpressionEntry → ℕ
single_end p l h t x (ExpressionEntry.Integer w) = end_of (operand_value p h x)
single_end p l h t x (ExpressionEntry.Literal k) = end_of (operand_value p h x)
single_end p l h t x (ExpressionEntry.FromSelf j n) = end_of (operand_value p h x)
single_end p l h t x (ExpressionEntry.FromProgram j n) = end_of (operand_value p h x)
single_end p l h t x (ExpressionEntry.Code k) = end_of (operand_value p h x)
single_end p l h t x (ExpressionEntry.Frame d) = end_of (operand_value p h x)
single_end p l h t x (ExpressionEntry.Not a) = end_of (operand_value p h a)
single_end p l h t x (ExpressionEntry.Operate o a b) = operation_end p l h t o a b
single_end p l h t x ExpressionEntry.Bad = end_of (operand_value p h x)
