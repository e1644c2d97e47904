-- Emission takes as many numbers as the sizes say, and writes what `Writes` says. Assumes nothing.
use mathlib.Core.Path.{◌≡◌, ◌∙◌}
use mathlib.Core.List.{List}
use Prim.Native.Nat.{ℕ}
use native.Mathlib.Omega.{arith}
use Rattle.framed.specs.Tree.{Base, Expression, Slots, Instruction, Code, ◌then◌}
use Rattle.framed.specs.Paths.{Path}
use Rattle.shapes.specs.Numbers.{Numbers, ◌⊕◌, one_expression, one_instruction, base_size, expression_size, slots_size, instruction_size, code_size}
use Rattle.emission.specs.Emit.{emitting, emit_path, emit_base, emit_expression, emit_slots, emit_instruction, emit_code}
use Rattle.emission.specs.Writes.{write_base, write_expression, write_slots, write_instruction, write_code}

-- equal numbers
pub record SameNumbers (s t : Numbers) : Type 0 where
  pub expressions : s.expressions ≡ t.expressions
  pub instructions : s.instructions ≡ t.instructions
  pub path_names : s.path_names ≡ t.path_names
  pub codes : s.codes ≡ t.codes

pub same_emitting : (p : List ℕ) (s t : Numbers) → SameNumbers s t → emitting p s ≡ emitting p t
same_emitting p s t e =
    λ i. record {
      words = p;
      next = record { expressions = e.expressions i; instructions = e.instructions i; path_names = e.path_names i; codes = e.codes i };
    }

mutual
  unfolding emit_base write_base base_size emit_path

  pub base_emitted : (b : Base Path) (x : ℕ) (s : Numbers) (p : List ℕ) → emit_base b x (emitting p s) ≡ emitting (write_base b x s p) (s ⊕ base_size b)
  base_emitted (Base.integer z) x s p =
      same_emitting _ _ _ (omega arith)
  base_emitted (Base.string k) x s p =
      same_emitting _ _ _ (omega arith)
  base_emitted (Base.path q) x s p =
      same_emitting _ _ _ (omega arith)
  base_emitted (Base.code k is) x s p =
      code_emitted is _ _ ∙ same_emitting _ _ _ (omega arith)

  pub expression_emitted : (e : Expression Path) (x : ℕ) (s : Numbers) (p : List ℕ) → emit_expression e x (emitting p s) ≡ emitting (write_expression e x s p) (s ⊕ expression_size e)
  expression_emitted (Expression.base b) x s p = base_emitted b x s p
  expression_emitted (Expression.not b) x s p =
      base_emitted b _ _ _ ∙ same_emitting _ _ _ (omega arith)
  expression_emitted (Expression.operation o a b) x s p =
      rw (base_emitted a s.expressions (one_expression s) p)
      (base_emitted b _ _ _ ∙ same_emitting _ _ _ (omega arith))
  expression_emitted (Expression.frame ss) x s p = slots_emitted ss s _

  pub slots_emitted : (ss : Slots Path) (s : Numbers) (p : List ℕ) → emit_slots ss (emitting p s) ≡ emitting (write_slots ss s p) (s ⊕ slots_size ss)
  slots_emitted Slots.no_slots s p =
      same_emitting _ _ _ (omega arith)
  slots_emitted (Slots.slot n e ss) s p =
      rw (expression_emitted e s.expressions (one_expression s) _)
      (slots_emitted ss _ _ ∙ same_emitting _ _ _ (omega arith))

  pub instruction_emitted : (o : Instruction Path) (i : ℕ) (s : Numbers) (p : List ℕ) → emit_instruction o i (emitting p s) ≡ emitting (write_instruction o i s p) (s ⊕ instruction_size o)
  instruction_emitted (Instruction.assign q e) i s p =
      expression_emitted e _ _ _ ∙ same_emitting _ _ _ (omega arith)
  instruction_emitted (Instruction.show a) i s p =
      base_emitted a _ _ _ ∙ same_emitting _ _ _ (omega arith)
  instruction_emitted (Instruction.jump a b) i s p =
      rw (base_emitted a s.expressions (one_expression s) p)
      (base_emitted b _ _ _ ∙ same_emitting _ _ _ (omega arith))
  instruction_emitted (Instruction.ifeq a b c) i s p =
      rw (base_emitted a s.expressions (one_expression s) p)
      (rw (base_emitted b _ _ _)
      (base_emitted c _ _ _ ∙ same_emitting _ _ _ (omega arith)))

  pub code_emitted : (is : Code Path) (s : Numbers) (p : List ℕ) → emit_code is (emitting p s) ≡ emitting (write_code is s p) (s ⊕ code_size is)
  code_emitted Code.finished s p =
      same_emitting _ _ _ (omega arith)
  code_emitted (o then is) s p =
      rw (instruction_emitted o s.instructions (one_instruction s) p)
      (code_emitted is _ _ ∙ same_emitting _ _ _ (omega arith))
