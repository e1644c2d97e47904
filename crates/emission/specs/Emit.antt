-- docs/LAYOUT.md, program words and literal bytes as load writes them for a resolved program: one recursion over its tree. Expressions, instructions, path
-- names and codes take the next number where each begins, so that parts have larger numbers than their wholes. Assumes nothing.
use Rattle.std.specs.Prelude.{List, [], ◌∷◌, ℕ, ◌+◌, ◌-◌, length, replicate}
use Rattle.framed.specs.Tokens.{Operator}
use Rattle.framed.specs.Tree.{Base, Expression, Slots, Instruction, Code, ◌then◌}
use Rattle.framed.specs.Paths.{Path, from_self, from_program, names_of}
use Rattle.framed.specs.Program.{Program}
use Rattle.ints.specs.Ints.{word_of}
use Rattle.tables.specs.declared.ExpressionEntry.{ExpressionEntry}
use Rattle.tables.specs.declared.InstructionEntry.{InstructionEntry}
use Rattle.table_updates.specs.Updates.{set_frame_limit, set_text_limit, set_names, set_literals, set_expressions, set_instructions, set_codes, set_path_names, set_program_slots, set_start}
use Rattle.table_updates.specs.Updates.{set_name_length, set_name_byte, set_literal_length, set_literal_byte, set_code_first, set_path_name, set_instruction_link, set_slot_name, set_slot_link, set_expression, set_instruction}
use Rattle.shapes.specs.Numbers.{Numbers, zeros, one_expression, one_instruction, one_code, more_names}

-- Where emission stands: the program words so far, and the numbers of the next expression, instruction, path name and code
pub record Emitting : Type 0 where
  pub words : List ℕ
  pub next : Numbers

abbrev pub emitting : List ℕ → Numbers → Emitting
emitting p s = record { words = p; next = s }

-- the names of a path, from path name j on
unfoldable pub write_path : List ℕ → ℕ → List ℕ → List ℕ
write_path [] j p = p
write_path (n ∷ ns) j p = write_path ns (j + 1) (set_path_name p j n)

unfoldable pub emit_path : List ℕ → Emitting → Emitting
emit_path ns t = emitting (write_path ns t.next.path_names t.words) (more_names (length ns) t.next)

-- the kind of an operator
unfoldable pub operator_kind : Operator → ℕ
operator_kind Operator.plus = 7
operator_kind Operator.minus = 8
operator_kind Operator.times = 9
operator_kind Operator.over = 10
operator_kind Operator.less = 11
operator_kind Operator.join = 12
operator_kind Operator.equal = 13
operator_kind Operator.and = 14
operator_kind Operator.or = 15

-- links: from entry y to the next member at z, 0 where there is none
unfoldable pub link_to_slots : Slots Path → ℕ → ℕ → ℕ
link_to_slots Slots.no_slots y z = 0
link_to_slots (Slots.slot n e ss) y z = z - y

unfoldable pub link_to_code : Code Path → ℕ → ℕ → ℕ
link_to_code Code.finished i z = 0
link_to_code (o then is) i z = z - i

-- the place of the first instruction of a code, where the next one is i; of the first slot of a frame, where the next expression is y
unfoldable pub first_place : Code Path → ℕ → ℕ
first_place Code.finished i = 0
first_place (o then is) i = 1 + i

unfoldable pub first_slot_place : Slots Path → ℕ → ℕ
first_slot_place Slots.no_slots y = 0
first_slot_place (Slots.slot n e ss) y = 1 + y

unfoldable pub path_entry : Path → ℕ → ExpressionEntry
path_entry (from_self ns) j = ExpressionEntry.FromSelf j (length ns)
path_entry (from_program ns) j = ExpressionEntry.FromProgram j (length ns)

unfoldable pub assign_entry : Path → ℕ → ℕ → InstructionEntry
assign_entry (from_self ns) j e = InstructionEntry.AssignSelf j (length ns) e
assign_entry (from_program ns) j e = InstructionEntry.AssignProgram j (length ns) e

-- Each part is written as the entry that its caller took the number for; what is inside it takes further numbers
unfoldable mutual
  pub emit_base : Base Path → ℕ → Emitting → Emitting
  emit_base (Base.integer z) x t = emitting (set_expression t.words x (ExpressionEntry.Integer (word_of z))) t.next
  emit_base (Base.string k) x t = emitting (set_expression t.words x (ExpressionEntry.Literal k)) t.next
  emit_base (Base.path q) x t =
      let u = emit_path (names_of q) t in
      emitting (set_expression u.words x (path_entry q t.next.path_names)) u.next
  emit_base (Base.code k is) x t =
      emit_code is
      (emitting (set_expression (set_code_first t.words k (first_place is t.next.instructions)) x (ExpressionEntry.Code k)) (one_code t.next))

  pub emit_expression : Expression Path → ℕ → Emitting → Emitting
  emit_expression (Expression.base b) x t = emit_base b x t
  emit_expression (Expression.not b) x t =
      emit_base b t.next.expressions
      (emitting (set_expression t.words x (ExpressionEntry.Not t.next.expressions)) (one_expression t.next))
  emit_expression (Expression.operation o a b) x t =
      let u = emit_base a t.next.expressions (emitting t.words (one_expression t.next)) in
      emit_base b u.next.expressions
      (emitting (set_expression u.words x (ExpressionEntry.Operate (operator_kind o) t.next.expressions u.next.expressions)) (one_expression u.next))
  emit_expression (Expression.frame ss) x t =
      emit_slots ss (emitting (set_expression t.words x (ExpressionEntry.Frame (link_to_slots ss x t.next.expressions))) t.next)

  pub emit_slots : Slots Path → Emitting → Emitting
  emit_slots Slots.no_slots t = t
  emit_slots (Slots.slot n e ss) t =
      let u = emit_expression e t.next.expressions (emitting (set_slot_name t.words t.next.expressions n) (one_expression t.next)) in
      emit_slots ss
      (emitting (set_slot_link u.words t.next.expressions (link_to_slots ss t.next.expressions u.next.expressions)) u.next)

  pub emit_instruction : Instruction Path → ℕ → Emitting → Emitting
  emit_instruction (Instruction.assign q e) i t =
      let u = emit_path (names_of q) t in
      emit_expression e u.next.expressions
      (emitting (set_instruction u.words i (assign_entry q t.next.path_names u.next.expressions)) (one_expression u.next))
  emit_instruction (Instruction.show a) i t =
      emit_base a t.next.expressions
      (emitting (set_instruction t.words i (InstructionEntry.Show t.next.expressions)) (one_expression t.next))
  emit_instruction (Instruction.jump a b) i t =
      let u = emit_base a t.next.expressions (emitting t.words (one_expression t.next)) in
      emit_base b u.next.expressions
      (emitting (set_instruction u.words i (InstructionEntry.Jump t.next.expressions u.next.expressions)) (one_expression u.next))
  emit_instruction (Instruction.ifeq a b c) i t =
      let u = emit_base a t.next.expressions (emitting t.words (one_expression t.next)) in
      let v = emit_base b u.next.expressions (emitting u.words (one_expression u.next)) in
      emit_base c v.next.expressions
      (emitting
      (set_instruction v.words i (InstructionEntry.Ifeq t.next.expressions u.next.expressions v.next.expressions))
      (one_expression v.next))

  pub emit_code : Code Path → Emitting → Emitting
  emit_code Code.finished t = t
  emit_code (o then is) t =
      let u = emit_instruction o t.next.instructions (emitting t.words (one_instruction t.next)) in
      emit_code is
      (emitting (set_instruction_link u.words t.next.instructions (link_to_code is t.next.instructions u.next.instructions)) u.next)

-- ---- Names and literals

unfoldable pub write_name_bytes : List ℕ → ℕ → ℕ → List ℕ → List ℕ
write_name_bytes [] k i p = p
write_name_bytes (b ∷ bs) k i p = write_name_bytes bs k (i + 1) (set_name_byte p k i b)

unfoldable pub write_names : List (List ℕ) → ℕ → List ℕ → List ℕ
write_names [] k p = p
write_names (w ∷ ws) k p = write_names ws (k + 1) (set_name_length (write_name_bytes w k 0 p) k (length w))

unfoldable pub write_literal_lengths : List (List ℕ) → ℕ → List ℕ → List ℕ
write_literal_lengths [] k p = p
write_literal_lengths (w ∷ ws) k p = write_literal_lengths ws (k + 1) (set_literal_length p k (length w))

unfoldable pub write_literal_bytes : List ℕ → ℕ → ℕ → List ℕ → List ℕ
write_literal_bytes [] k i l = l
write_literal_bytes (b ∷ bs) k i l = write_literal_bytes bs k (i + 1) (set_literal_byte l k i b)

unfoldable pub write_literals : List (List ℕ) → ℕ → List ℕ → List ℕ
write_literals [] k l = l
write_literals (w ∷ ws) k l = write_literals ws (k + 1) (write_literal_bytes w k 0 l)

-- ---- The two memories of a program, with its limits

-- a memory of n words or bytes that is cleared
unfoldable pub cleared : ℕ → List ℕ
cleared n = replicate n 0

unfoldable pub emit_tree : Program → Emitting
emit_tree q = emit_slots q.slots (emitting (cleared 16384) zeros)

-- the header, where s are the numbers after the tree
unfoldable pub write_header : Program → (F T : ℕ) → Numbers → List ℕ → List ℕ
write_header q F T s p =
    set_start
    (set_program_slots
    (set_path_names
    (set_codes
    (set_instructions
    (set_expressions
    (set_literals
    (set_names (set_text_limit (set_frame_limit p F) T) (length q.names))
    (length q.literals))
    s.expressions)
    s.instructions)
    s.codes)
    s.path_names)
    (first_slot_place q.slots 0))
    q.start

unfoldable pub program_words : Program → (F T : ℕ) → List ℕ
program_words q F T = write_header q F T (emit_tree q).next (write_literal_lengths q.literals 0 (write_names q.names 0 (emit_tree q).words))

unfoldable pub literal_bytes : Program → List ℕ
literal_bytes q = write_literals q.literals 0 (cleared 8192)
