-- What well-formed program words hold, as the trees of document 01's grammar (crate `framed`). The trees are read by levels: what is inside an entry
-- is read by the readers of the level below. In well-formed words `enough` levels are enough, and each tree is one level over the same trees:
-- `Held` states that, and nothing above needs the levels. Assumes nothing.
use Rattle.std.specs.Prelude.{List, [], ◌∷◌, ℕ, zero, suc, ◌+◌, eqb, pos}
use Rattle.std.specs.Int.{w32}
use Rattle.std.proofs.Common.{to_z}
use Rattle.framed.specs.Tokens.{Operator}
use Rattle.framed.specs.Tree.{Base, Expression, Slots, Instruction, Code, ◌then◌}
use Rattle.framed.specs.Paths.{Path, from_self, from_program}
use Rattle.words.specs.Words.{pick}
use Rattle.tables.specs.declared.ExpressionEntry.{ExpressionEntry}
use Rattle.tables.specs.declared.InstructionEntry.{InstructionEntry}
use Rattle.tables.specs.Entries.{expression_at, instruction_at}
use Rattle.tables.specs.Fields.{path_name, code_first, link, slot_name, slot_after, instruction_after}

-- the n path names from j on
unfoldable pub path_list : List ℕ → ℕ → ℕ → List ℕ
path_list p zero j = []
path_list p (suc n) j = path_name p j ∷ path_list p n (j + 1)

-- kinds 7 to 15, in this order
unfoldable pub operator_of : ℕ → Operator
operator_of k =
    pick (eqb k 7) Operator.plus
    (pick (eqb k 8) Operator.minus
    (pick (eqb k 9) Operator.times
    (pick (eqb k 10) Operator.over
    (pick (eqb k 11) Operator.less
    (pick (eqb k 12) Operator.join
    (pick (eqb k 13) Operator.equal
    (pick (eqb k 14) Operator.and Operator.or)))))))

-- what stands for an entry without a form
abbrev pub no_base : Base Path
no_base = Base.integer (pos 0)

-- an expression as a base, an expression, the slots from a place on, an instruction, the instructions from a place on
pub record Readers : Type 0 where
  pub base : ℕ → Base Path
  pub expression : ℕ → Expression Path
  pub slots : ℕ → Slots Path
  pub instruction : ℕ → Instruction Path
  pub code : ℕ → Code Path

-- ---- One level; what is inside is read by r

unfoldable pub base_tree : Readers → List ℕ → ExpressionEntry → Base Path
base_tree r p (ExpressionEntry.Integer w) = Base.integer (to_z w32 w)
base_tree r p (ExpressionEntry.Literal k) = Base.string k
base_tree r p (ExpressionEntry.FromSelf j n) = Base.path (from_self (path_list p n j))
base_tree r p (ExpressionEntry.FromProgram j n) = Base.path (from_program (path_list p n j))
base_tree r p (ExpressionEntry.Code k) = Base.code k (r.code (code_first p k))
base_tree r p (ExpressionEntry.Frame d) = no_base
base_tree r p (ExpressionEntry.Not e) = no_base
base_tree r p (ExpressionEntry.Operate o e g) = no_base
base_tree r p ExpressionEntry.Bad = no_base

unfoldable pub expression_tree : Readers → List ℕ → ℕ → ExpressionEntry → Expression Path
expression_tree r p x (ExpressionEntry.Integer w) = Expression.base (Base.integer (to_z w32 w))
expression_tree r p x (ExpressionEntry.Literal k) = Expression.base (Base.string k)
expression_tree r p x (ExpressionEntry.FromSelf j n) = Expression.base (Base.path (from_self (path_list p n j)))
expression_tree r p x (ExpressionEntry.FromProgram j n) = Expression.base (Base.path (from_program (path_list p n j)))
expression_tree r p x (ExpressionEntry.Code k) = Expression.base (Base.code k (r.code (code_first p k)))
expression_tree r p x (ExpressionEntry.Frame d) = Expression.frame (r.slots (link 1024 x d))
expression_tree r p x (ExpressionEntry.Not e) = Expression.not (r.base e)
expression_tree r p x (ExpressionEntry.Operate o e g) = Expression.operation (operator_of o) (r.base e) (r.base g)
expression_tree r p x ExpressionEntry.Bad = Expression.base no_base

unfoldable pub slots_tree : Readers → List ℕ → ℕ → Slots Path
slots_tree r p zero = Slots.no_slots
slots_tree r p (suc y) = Slots.slot (slot_name p y) (r.expression y) (r.slots (slot_after p y))

unfoldable pub instruction_tree : Readers → List ℕ → InstructionEntry → Instruction Path
instruction_tree r p (InstructionEntry.AssignSelf j n e) = Instruction.assign (from_self (path_list p n j)) (r.expression e)
instruction_tree r p (InstructionEntry.AssignProgram j n e) = Instruction.assign (from_program (path_list p n j)) (r.expression e)
instruction_tree r p (InstructionEntry.Show e) = Instruction.show (r.base e)
instruction_tree r p (InstructionEntry.Jump e g) = Instruction.jump (r.base e) (r.base g)
instruction_tree r p (InstructionEntry.Ifeq e g u) = Instruction.ifeq (r.base e) (r.base g) (r.base u)
instruction_tree r p InstructionEntry.Bad = Instruction.show no_base

unfoldable pub code_tree : Readers → List ℕ → ℕ → Code Path
code_tree r p zero = Code.finished
code_tree r p (suc i) = r.instruction i then r.code (instruction_after p i)

unfoldable pub one_level : List ℕ → Readers → Readers
one_level p r =
    record {
      base = λ x. base_tree r p (expression_at p x);
      expression = λ x. expression_tree r p x (expression_at p x);
      slots = λ z. slots_tree r p z;
      instruction = λ i. instruction_tree r p (instruction_at p i);
      code = λ z. code_tree r p z;
    }

unfoldable pub no_level : Readers
no_level =
    record {
      base = λ x. no_base;
      expression = λ x. Expression.base no_base;
      slots = λ z. Slots.no_slots;
      instruction = λ i. Instruction.show no_base;
      code = λ z. Code.finished;
    }

unfoldable pub levels : ℕ → List ℕ → Readers
levels zero p = no_level
levels (suc n) p = one_level p (levels n p)

abbrev pub enough : ℕ
enough = 600000

unfoldable pub trees : List ℕ → Readers
trees p = levels enough p
