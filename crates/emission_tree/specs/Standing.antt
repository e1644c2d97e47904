-- docs/LAYOUT.md, program words: where each entry of an emitted program stands. The words do not keep this; proofs do. Assumes nothing.
use Rattle.std.specs.Prelude.{List, [], ◌∷◌, ◌++◌, ℕ, ◌+◌, length}
use Rattle.framed.specs.Tree.{Base, Expression, Slots, Instruction, Code, ◌then◌}
use Rattle.framed.specs.Paths.{Path, names_of}
use Rattle.shapes.specs.Numbers.{Numbers, one_expression, one_instruction, one_code, more_names}
use Rattle.emission.specs.Texts.{Listed}
use Rattle.emission.specs.Writes.{past_base, past_expression, past_instruction}

-- what an expression is part of
pub data Owner : Type 0 where
  program : Owner
  expression : ℕ → Owner
  instruction : ℕ → Owner

-- what an expression is part of, and the code that it is written in: 0 outside code, 1 + k in code k
pub record Tag : Type 0 where
  pub owner : Owner
  pub inside : ℕ

abbrev pub tag : Owner → ℕ → Tag
tag o c = record { owner = o; inside = c }

-- where each expression stands, the code of each instruction, the expression of each code
pub record Standing : Type 0 where
  pub tags : ℕ → Tag
  pub homes : ℕ → ℕ
  pub names : ℕ → ℕ

-- ---- The same as lists, for the numbers that a part takes, in order

pub record Marks : Type 0 where
  pub tags : List Tag
  pub homes : List ℕ
  pub names : List ℕ

abbrev pub no_marks : Marks
no_marks = record { tags = []; homes = []; names = [] }

infixl 30 ◌⊞◌
abbrev pub ◌⊞◌ : Marks → Marks → Marks
m ⊞ n = record { tags = m.tags ++ n.tags; homes = m.homes ++ n.homes; names = m.names ++ n.names }

-- an expression, an instruction, a code, and then m
abbrev pub tagged : Owner → ℕ → Marks → Marks
tagged o c m = record { tags = tag o c ∷ m.tags; homes = m.homes; names = m.names }

abbrev pub housed : ℕ → Marks → Marks
housed k m = record { tags = m.tags; homes = k ∷ m.homes; names = m.names }

abbrev pub named : ℕ → Marks → Marks
named x m = record { tags = m.tags; homes = m.homes; names = x ∷ m.names }

unfoldable mutual
  pub base_marks : Base Path → (x c : ℕ) → Numbers → Marks
  base_marks (Base.integer z) x c s = no_marks
  base_marks (Base.string k) x c s = no_marks
  base_marks (Base.path q) x c s = no_marks
  base_marks (Base.code k is) x c s = named x (code_marks is k (one_code s))

  pub expression_marks : Expression Path → (x c : ℕ) → Numbers → Marks
  expression_marks (Expression.base b) x c s = base_marks b x c s
  expression_marks (Expression.not b) x c s = tagged (Owner.expression x) c (base_marks b s.expressions c (one_expression s))
  expression_marks (Expression.operation o a b) x c s =
      tagged (Owner.expression x) c (base_marks a s.expressions c (one_expression s))
      ⊞ tagged (Owner.expression x) c (base_marks b (past_base a s).expressions c (one_expression (past_base a s)))
  expression_marks (Expression.frame ss) x c s = slots_marks ss (Owner.expression x) c s

  pub slots_marks : Slots Path → Owner → ℕ → Numbers → Marks
  slots_marks Slots.no_slots o c s = no_marks
  slots_marks (Slots.slot n e ss) o c s =
      tagged o c (expression_marks e s.expressions c (one_expression s)) ⊞ slots_marks ss o c (past_expression e s)

  pub instruction_marks : Instruction Path → (i k : ℕ) → Numbers → Marks
  instruction_marks (Instruction.assign q e) i k s =
      tagged (Owner.instruction i) (1 + k) (expression_marks e s.expressions (1 + k) (one_expression (more_names (length (names_of q)) s)))
  instruction_marks (Instruction.show a) i k s = tagged (Owner.instruction i) (1 + k) (base_marks a s.expressions (1 + k) (one_expression s))
  instruction_marks (Instruction.jump a b) i k s =
      tagged (Owner.instruction i) (1 + k) (base_marks a s.expressions (1 + k) (one_expression s))
      ⊞ tagged (Owner.instruction i) (1 + k) (base_marks b (past_base a s).expressions (1 + k) (one_expression (past_base a s)))
  instruction_marks (Instruction.ifeq a b c) i k s =
      tagged (Owner.instruction i) (1 + k) (base_marks a s.expressions (1 + k) (one_expression s))
      ⊞ tagged (Owner.instruction i) (1 + k) (base_marks b (past_base a s).expressions (1 + k) (one_expression (past_base a s)))
      ⊞ tagged (Owner.instruction i) (1 + k)
      (base_marks c (past_base b (past_base a s)).expressions (1 + k) (one_expression (past_base b (past_base a s))))

  pub code_marks : Code Path → ℕ → Numbers → Marks
  code_marks Code.finished k s = no_marks
  code_marks (o then is) k s = housed k (instruction_marks o s.instructions k (one_instruction s)) ⊞ code_marks is k (past_instruction o s)

-- the lists from the numbers s on
pub record Marked (γ : Standing) (s : Numbers) (m : Marks) : Type 0 where
  pub tags : Listed γ.tags s.expressions m.tags
  pub homes : Listed γ.homes s.instructions m.homes
  pub names : Listed γ.names s.codes m.names
