-- docs/LAYOUT.md, program words: the rules of emission. A part takes as many numbers as its size says, keeps the length, and touches only the entry that it was
-- given and entries with the numbers that it takes: never the header, a name or the length of a literal. Assumes nothing.
use Rattle.std.specs.Prelude.{◌≡◌, ℕ, ◌<◌}
use Rattle.words.specs.Words.{word}
use Rattle.framed.specs.Tree.{Base, Expression, Slots, Instruction, Code}
use Rattle.framed.specs.Paths.{Path}
use Rattle.shapes.specs.Numbers.{Numbers, ◌⊕◌, base_size, expression_size, slots_size, instruction_size, code_size}
use Rattle.shapes.specs.Shape.{BaseShaped, ExpressionShaped, SlotsShaped, InstructionShaped, CodeShaped}
use Rattle.emission.specs.Emit.{Emitting, emit_base, emit_expression, emit_slots, emit_instruction, emit_code}
use Rattle.emission.specs.Frame.{AtMost, Range, Part, InstructionPart, Writes}

-- u is where emission stands after a part of this size, from t on; P are the words that it may touch
pub record Emitted (t u : Emitting) (size : Numbers) (P : Numbers → Numbers → ℕ → Type 0) : Type 0 where
  pub numbers : u.next ≡ t.next ⊕ size
  pub grows : AtMost t.next u.next
  pub touches : Writes (P t.next u.next) t.words u.words
  -- the header, the names and the lengths of literals are below word 2,368
  pub keeps : (k : ℕ) → k < 2368 → word u.words k ≡ word t.words k

pub record Rules : Type 0 where
  pub base : (N S : ℕ) (b : Base Path) (x : ℕ) (t : Emitting) → BaseShaped N S t.next.codes b → Emitted t (emit_base b x t) (base_size b) (Part x)
  pub expression : (N S : ℕ) (e : Expression Path) (x : ℕ) (t : Emitting) → ExpressionShaped N S t.next.codes e →
      Emitted t (emit_expression e x t) (expression_size e) (Part x)
  pub slots : (N S : ℕ) (ss : Slots Path) (t : Emitting) → SlotsShaped N S t.next.codes ss → Emitted t (emit_slots ss t) (slots_size ss) Range
  pub instruction : (N S : ℕ) (o : Instruction Path) (i : ℕ) (t : Emitting) → InstructionShaped N S t.next.codes o →
      Emitted t (emit_instruction o i t) (instruction_size o) (InstructionPart i)
  pub code : (N S : ℕ) (is : Code Path) (t : Emitting) → CodeShaped N S t.next.codes is → Emitted t (emit_code is t) (code_size is) Range
