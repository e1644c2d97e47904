-- The numbers after a part are not below those before it, so where they are words, the next number is exact. Assumes nothing.
use mathlib.Core.Path.{◌≡◌, sym, ap}
use Prim.Native.Nat.{ℕ, ◌+◌, ◌<◌}
use native.Mathlib.Omega.{arith}
use Rattle.framed.specs.Tree.{Base, Expression, Slots, Instruction, Code}
use Rattle.framed.specs.Paths.{Path}
use Rattle.shapes.specs.Numbers.{Numbers, ◌⊕◌, one_expression, one_instruction, base_size, expression_size, slots_size, instruction_size, code_size}
use Rattle.emission.specs.Emit.{Emitting, emit_base, emit_expression, emit_slots, emit_instruction, emit_code}
use Rattle.emission.proofs.Counted as Counted
use Rattle.emit_steps.specs.Steps.{numbers, one_more, take_expression, take_instruction}
use Rattle.emit_steps.specs.declared.Next.{Next}
use Rattle.emit_steps.proofs.Laws.{more_one}
use Rattle.emit_paths.specs.Emits.{Small}

abbrev next_of : Emitting → Numbers
next_of t = t.next

small_less : (s d : Numbers) → Small (s ⊕ d) → Small s
small_less s d h = record {
  expressions_small = less s.expressions d.expressions h.expressions_small;
  instructions_small = less s.instructions d.instructions h.instructions_small;
  path_names_small = less s.path_names d.path_names h.path_names_small;
  codes_small = less s.codes d.codes h.codes_small;
}
  where
    less : (m n : ℕ) → m + n < 4294967296 → m < 4294967296
    less m n l = omega arith

pub base_sizes : (b : Base Path) (x : ℕ) (t : Emitting) → (emit_base b x t).next ≡ t.next ⊕ base_size b
base_sizes b x t = ap next_of (Counted.base_emitted b x t.next t.words)

pub base_before : (b : Base Path) (x : ℕ) (t : Emitting) → Small (emit_base b x t).next → Small t.next
base_before b x t h = small_less t.next (base_size b) (rw (base_sizes b x t) at h)

pub expression_before : (e : Expression Path) (x : ℕ) (t : Emitting) → Small (emit_expression e x t).next → Small t.next
expression_before e x t h = small_less t.next (expression_size e) (rw (ap next_of (Counted.expression_emitted e x t.next t.words)) at h)

pub slots_before : (ss : Slots Path) (t : Emitting) → Small (emit_slots ss t).next → Small t.next
slots_before ss t h = small_less t.next (slots_size ss) (rw (ap next_of (Counted.slots_emitted ss t.next t.words)) at h)

pub instruction_before : (o : Instruction Path) (i : ℕ) (t : Emitting) → Small (emit_instruction o i t).next → Small t.next
instruction_before o i t h = small_less t.next (instruction_size o) (rw (ap next_of (Counted.instruction_emitted o i t.next t.words)) at h)

pub code_before : (is : Code Path) (t : Emitting) → Small (emit_code is t).next → Small t.next
code_before is t h = small_less t.next (code_size is) (rw (ap next_of (Counted.code_emitted is t.next t.words)) at h)

-- one more is exact
pub more_is : (n : ℕ) → n + 1 < 4294967296 → one_more n ≡ n + 1
more_is n l = sym (more_one n (omega arith))

pub expression_next : (n : Next) (at : ℕ) → Small (one_expression (numbers n)) → numbers (take_expression n at) ≡ one_expression (numbers n)
expression_next n at h = rw (more_is n.expressions h.expressions_small)

pub instruction_next : (n : Next) → Small (one_instruction (numbers n)) → numbers (take_instruction n) ≡ one_instruction (numbers n)
instruction_next n h = rw (more_is n.instructions h.instructions_small)

-- what is small with one more is small
pub one_expression_small : (s : Numbers) → Small (one_expression s) → Small s
one_expression_small s h = record { expressions_small = less s.expressions h.expressions_small; instructions_small = h.instructions_small; path_names_small = h.path_names_small; codes_small = h.codes_small }
  where
    less : (m : ℕ) → m + 1 < 4294967296 → m < 4294967296
    less m l = omega arith
