-- docs/LAYOUT.md, program words: what emission writes, with every number known beforehand: a part that begins at the numbers s ends at s ⊕ its size.
-- Assumes nothing.
use Rattle.std.specs.Prelude.{List, ℕ, length}
use Rattle.framed.specs.Tree.{Base, Expression, Slots, Instruction, Code, ◌then◌}
use Rattle.framed.specs.Paths.{Path, names_of}
use Rattle.ints.specs.Ints.{word_of}
use Rattle.tables.specs.declared.ExpressionEntry.{ExpressionEntry}
use Rattle.tables.specs.declared.InstructionEntry.{InstructionEntry}
use Rattle.table_updates.specs.Updates.{set_code_first, set_instruction_link, set_slot_name, set_slot_link, set_expression, set_instruction}
use Rattle.shapes.specs.Numbers.{Numbers, ◌⊕◌, one_expression, one_instruction, one_code, more_names, base_size, expression_size, instruction_size}
use Rattle.emission.specs.Emit.{write_path, operator_kind, link_to_slots, link_to_code, first_place, path_entry, assign_entry}

-- the numbers after a base, an expression or an instruction whose own entry has just taken a number
abbrev pub past_base : Base Path → Numbers → Numbers
past_base b s = one_expression s ⊕ base_size b

abbrev pub past_expression : Expression Path → Numbers → Numbers
past_expression e s = one_expression s ⊕ expression_size e

abbrev pub past_instruction : Instruction Path → Numbers → Numbers
past_instruction o s = one_instruction s ⊕ instruction_size o

unfoldable mutual
  pub write_base : Base Path → ℕ → Numbers → List ℕ → List ℕ
  write_base (Base.integer z) x s p = set_expression p x (ExpressionEntry.Integer (word_of z))
  write_base (Base.string k) x s p = set_expression p x (ExpressionEntry.Literal k)
  write_base (Base.path q) x s p = set_expression (write_path (names_of q) s.path_names p) x (path_entry q s.path_names)
  write_base (Base.code k is) x s p =
      write_code is (one_code s) (set_expression (set_code_first p k (first_place is s.instructions)) x (ExpressionEntry.Code k))

  pub write_expression : Expression Path → ℕ → Numbers → List ℕ → List ℕ
  write_expression (Expression.base b) x s p = write_base b x s p
  write_expression (Expression.not b) x s p =
      write_base b s.expressions (one_expression s) (set_expression p x (ExpressionEntry.Not s.expressions))
  write_expression (Expression.operation o a b) x s p =
      write_base b (past_base a s).expressions (one_expression (past_base a s))
      (set_expression (write_base a s.expressions (one_expression s) p) x (ExpressionEntry.Operate (operator_kind o) s.expressions (past_base a s).expressions))
  write_expression (Expression.frame ss) x s p = write_slots ss s (set_expression p x (ExpressionEntry.Frame (link_to_slots ss x s.expressions)))

  pub write_slots : Slots Path → Numbers → List ℕ → List ℕ
  write_slots Slots.no_slots s p = p
  write_slots (Slots.slot n e ss) s p =
      write_slots ss (past_expression e s)
      (set_slot_link (write_expression e s.expressions (one_expression s) (set_slot_name p s.expressions n)) s.expressions
      (link_to_slots ss s.expressions (past_expression e s).expressions))

  pub write_instruction : Instruction Path → ℕ → Numbers → List ℕ → List ℕ
  write_instruction (Instruction.assign q e) i s p =
      write_expression e s.expressions (one_expression (more_names (length (names_of q)) s))
      (set_instruction (write_path (names_of q) s.path_names p) i (assign_entry q s.path_names s.expressions))
  write_instruction (Instruction.show a) i s p =
      write_base a s.expressions (one_expression s) (set_instruction p i (InstructionEntry.Show s.expressions))
  write_instruction (Instruction.jump a b) i s p =
      write_base b (past_base a s).expressions (one_expression (past_base a s))
      (set_instruction (write_base a s.expressions (one_expression s) p) i (InstructionEntry.Jump s.expressions (past_base a s).expressions))
  write_instruction (Instruction.ifeq a b c) i s p =
      write_base c (past_base b (past_base a s)).expressions (one_expression (past_base b (past_base a s)))
      (set_instruction
      (write_base b (past_base a s).expressions (one_expression (past_base a s)) (write_base a s.expressions (one_expression s) p))
      i
      (InstructionEntry.Ifeq s.expressions (past_base a s).expressions (past_base b (past_base a s)).expressions))

  pub write_code : Code Path → Numbers → List ℕ → List ℕ
  write_code Code.finished s p = p
  write_code (o then is) s p =
      write_code is (past_instruction o s)
      (set_instruction_link (write_instruction o s.instructions (one_instruction s) p) s.instructions
      (link_to_code is s.instructions (past_instruction o s).instructions))
