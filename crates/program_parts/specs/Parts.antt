-- Document 01, "The calls", whole memories (here: well-formed): what the paragraph says of parts and wholes in program words p:
-- which expression is part of which, where an instruction stands, which codes an instruction holds. Assumes nothing.
use Rattle.std.specs.Prelude.{◌≡◌, List, ℕ, suc, ◌<◌}
use Rattle.tables.specs.declared.ExpressionEntry.{ExpressionEntry}
use Rattle.tables.specs.declared.InstructionEntry.{InstructionEntry}
use Rattle.tables.specs.Entries.{expression_at, instruction_at}
use Rattle.tables.specs.Fields.{expressions, instructions, codes, code_first, link, slot_walk, instruction_walk}

-- expression a is part of expression x: an operand, or a slot of the frame literal x. (A slot of the program frame is part of no expression)
pub data PartOf (p : List ℕ) (x a : ℕ) : Type 0 where
  negated : x < expressions p → expression_at p x ≡ ExpressionEntry.Not a → PartOf p x a
  left : (o g : ℕ) → x < expressions p → expression_at p x ≡ ExpressionEntry.Operate o a g → PartOf p x a
  right : (o e : ℕ) → x < expressions p → expression_at p x ≡ ExpressionEntry.Operate o e a → PartOf p x a
  slot : (d j : ℕ) → x < expressions p → expression_at p x ≡ ExpressionEntry.Frame d → slot_walk p (link 1024 x d) j ≡ suc a → PartOf p x a

-- expression a is part of instruction i
pub data PartOfInstruction (p : List ℕ) (i a : ℕ) : Type 0 where
  assigned_self : (j n : ℕ) → i < instructions p → instruction_at p i ≡ InstructionEntry.AssignSelf j n a → PartOfInstruction p i a
  assigned_program : (j n : ℕ) → i < instructions p → instruction_at p i ≡ InstructionEntry.AssignProgram j n a → PartOfInstruction p i a
  shown : i < instructions p → instruction_at p i ≡ InstructionEntry.Show a → PartOfInstruction p i a
  jump_to : (g : ℕ) → i < instructions p → instruction_at p i ≡ InstructionEntry.Jump a g → PartOfInstruction p i a
  jump_with : (e : ℕ) → i < instructions p → instruction_at p i ≡ InstructionEntry.Jump e a → PartOfInstruction p i a
  ifeq_test : (g u : ℕ) → i < instructions p → instruction_at p i ≡ InstructionEntry.Ifeq a g u → PartOfInstruction p i a
  ifeq_to : (e u : ℕ) → i < instructions p → instruction_at p i ≡ InstructionEntry.Ifeq e a u → PartOfInstruction p i a
  ifeq_with : (e g : ℕ) → i < instructions p → instruction_at p i ≡ InstructionEntry.Ifeq e g a → PartOfInstruction p i a

-- x is a, a part of a, a part of a part of it, and so on
pub data Within (p : List ℕ) (a : ℕ) : ℕ → Type 0 where
  itself : Within p a a
  deeper : (x y : ℕ) → Within p a x → PartOf p x y → Within p a y

-- expression x is written in instruction i, outside any code inside it
pub record WrittenIn (p : List ℕ) (i x : ℕ) : Type 0 where
  pub part : ℕ
  pub of_instruction : PartOfInstruction p i part
  pub within : Within p part x

-- expression x is the code literal k
pub record Names (p : List ℕ) (k x : ℕ) : Type 0 where
  pub there : x < expressions p
  pub is_code : expression_at p x ≡ ExpressionEntry.Code k

-- instruction i holds code m
pub record Holds (p : List ℕ) (i m : ℕ) : Type 0 where
  pub expression : ℕ
  pub written : WrittenIn p i expression
  pub names : Names p m expression

-- instruction i stands in code k, `turns` instructions after its first
pub record StandsIn (p : List ℕ) (k i : ℕ) : Type 0 where
  pub code_there : k < codes p
  pub turns : ℕ
  pub here : instruction_walk p (code_first p k) turns ≡ suc i

pub record StandsSomewhere (p : List ℕ) (i : ℕ) : Type 0 where
  pub code : ℕ
  pub stands : StandsIn p code i

pub record NamedSomewhere (p : List ℕ) (k : ℕ) : Type 0 where
  pub expression : ℕ
  pub names : Names p k expression

pub record Parts (p : List ℕ) : Type 0 where
  -- an expression is part of at most one other, which has a smaller number,
  pub larger : (x a : ℕ) → PartOf p x a → x < a
  pub one_expression : (x y a : ℕ) → PartOf p x a → PartOf p y a → x ≡ y
  -- or of at most one instruction, never both
  pub one_instruction : (i j a : ℕ) → PartOfInstruction p i a → PartOfInstruction p j a → i ≡ j
  pub never_both : (x i a : ℕ) → PartOf p x a → PartOfInstruction p i a → ⊥
  -- an instruction stands in one code. (In one place of it, as lists rise: `one_place` in program_form/specs/Sound)
  pub stands : (i : ℕ) → i < instructions p → StandsSomewhere p i
  pub one_code : (k m i : ℕ) → StandsIn p k i → StandsIn p m i → k ≡ m
  -- a code literal stands in one expression,
  pub named : (k : ℕ) → k < codes p → NamedSomewhere p k
  pub one_name : (k x y : ℕ) → Names p k x → Names p k y → x ≡ y
  -- and its instructions hold only codes of larger number
  pub larger_codes : (k i m : ℕ) → StandsIn p k i → Holds p i m → k < m
