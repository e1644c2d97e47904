-- docs/LAYOUT.md, program words: how many expressions, instructions, path names and codes a part of a resolved program takes. Assumes nothing.
use Rattle.std.specs.Prelude.{ℕ, ◌+◌, length}
use Rattle.framed.specs.Tree.{Base, Expression, Slots, Instruction, Code, ◌then◌}
use Rattle.framed.specs.Paths.{Path, names_of}

-- the numbers of the next expression, instruction, path name and code; or how many of each
pub record Numbers : Type 0 where
  pub expressions : ℕ
  pub instructions : ℕ
  pub path_names : ℕ
  pub codes : ℕ

abbrev pub zeros : Numbers
zeros = record { expressions = 0; instructions = 0; path_names = 0; codes = 0 }

infixl 30 ◌⊕◌
abbrev pub ◌⊕◌ : Numbers → Numbers → Numbers
s ⊕ t =
    record {
      expressions = s.expressions + t.expressions;
      instructions = s.instructions + t.instructions;
      path_names = s.path_names + t.path_names;
      codes = s.codes + t.codes;
    }

-- the next number is taken
abbrev pub one_expression : Numbers → Numbers
one_expression s = record { expressions = s.expressions + 1; instructions = s.instructions; path_names = s.path_names; codes = s.codes }

abbrev pub one_instruction : Numbers → Numbers
one_instruction s = record { expressions = s.expressions; instructions = s.instructions + 1; path_names = s.path_names; codes = s.codes }

abbrev pub one_code : Numbers → Numbers
one_code s = record { expressions = s.expressions; instructions = s.instructions; path_names = s.path_names; codes = s.codes + 1 }

-- the next n path names are taken
abbrev pub more_names : ℕ → Numbers → Numbers
more_names n s = record { expressions = s.expressions; instructions = s.instructions; path_names = s.path_names + n; codes = s.codes }

-- how many of each are inside a part, without the entry of the part itself
unfoldable mutual
  pub base_size : Base Path → Numbers
  base_size (Base.integer z) = zeros
  base_size (Base.string k) = zeros
  base_size (Base.path q) = more_names (length (names_of q)) zeros
  base_size (Base.code k is) = one_code (code_size is)

  pub expression_size : Expression Path → Numbers
  expression_size (Expression.base b) = base_size b
  expression_size (Expression.not b) = one_expression (base_size b)
  expression_size (Expression.operation o a b) = one_expression (base_size a) ⊕ one_expression (base_size b)
  expression_size (Expression.frame ss) = slots_size ss

  pub slots_size : Slots Path → Numbers
  slots_size Slots.no_slots = zeros
  slots_size (Slots.slot n e ss) = one_expression (expression_size e) ⊕ slots_size ss

  pub instruction_size : Instruction Path → Numbers
  instruction_size (Instruction.assign q e) = more_names (length (names_of q)) (one_expression (expression_size e))
  instruction_size (Instruction.show a) = one_expression (base_size a)
  instruction_size (Instruction.jump a b) = one_expression (base_size a) ⊕ one_expression (base_size b)
  instruction_size (Instruction.ifeq a b c) = one_expression (base_size a) ⊕ one_expression (base_size b) ⊕ one_expression (base_size c)

  pub code_size : Code Path → Numbers
  code_size Code.finished = zeros
  code_size (o then is) = one_instruction (instruction_size o) ⊕ code_size is
