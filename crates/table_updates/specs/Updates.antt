-- docs/LAYOUT.md, program words and literal bytes: the memory with one field written. Assumes nothing.
use Rattle.std.specs.Prelude.{List, ℕ, ◌+◌, ◌*◌}
use Rattle.words.specs.Words.{set_word}
use Rattle.tables.specs.declared.ExpressionEntry.{ExpressionEntry}
use Rattle.tables.specs.declared.InstructionEntry.{InstructionEntry}
use Rattle.table_updates.specs.Encode.{expression_kind_of, expression_a_of, expression_b_of, instruction_kind_of, instruction_a_of, instruction_b_of, instruction_c_of}

unfoldable pub set_frame_limit : List ℕ → ℕ → List ℕ
set_frame_limit p v = set_word p 0 v

unfoldable pub set_text_limit : List ℕ → ℕ → List ℕ
set_text_limit p v = set_word p 1 v

unfoldable pub set_names : List ℕ → ℕ → List ℕ
set_names p v = set_word p 2 v

unfoldable pub set_literals : List ℕ → ℕ → List ℕ
set_literals p v = set_word p 3 v

unfoldable pub set_expressions : List ℕ → ℕ → List ℕ
set_expressions p v = set_word p 4 v

unfoldable pub set_instructions : List ℕ → ℕ → List ℕ
set_instructions p v = set_word p 5 v

unfoldable pub set_codes : List ℕ → ℕ → List ℕ
set_codes p v = set_word p 6 v

unfoldable pub set_path_names : List ℕ → ℕ → List ℕ
set_path_names p v = set_word p 7 v

unfoldable pub set_program_slots : List ℕ → ℕ → List ℕ
set_program_slots p v = set_word p 8 v

unfoldable pub set_start : List ℕ → ℕ → List ℕ
set_start p v = set_word p 9 v

unfoldable pub set_name_length : List ℕ → ℕ → ℕ → List ℕ
set_name_length p k v = set_word p (64 + 17 * k) v

unfoldable pub set_literal_length : List ℕ → ℕ → ℕ → List ℕ
set_literal_length p k v = set_word p (2240 + k) v

unfoldable pub set_code_first : List ℕ → ℕ → ℕ → List ℕ
set_code_first p k v = set_word p (2368 + k) v

unfoldable pub set_path_name : List ℕ → ℕ → ℕ → List ℕ
set_path_name p j v = set_word p (2496 + j) v

unfoldable pub set_instruction_link : List ℕ → ℕ → ℕ → List ℕ
set_instruction_link p i v = set_word p (4548 + 5 * i) v

unfoldable pub set_slot_name : List ℕ → ℕ → ℕ → List ℕ
set_slot_name p x v = set_word p (7107 + 5 * x) v

unfoldable pub set_slot_link : List ℕ → ℕ → ℕ → List ℕ
set_slot_link p x v = set_word p (7108 + 5 * x) v

unfoldable pub set_name_byte : List ℕ → ℕ → ℕ → ℕ → List ℕ
set_name_byte p k i v = set_word p (65 + 17 * k + i) v

unfoldable pub set_literal_byte : List ℕ → ℕ → ℕ → ℕ → List ℕ
set_literal_byte l k i v = set_word l (64 * k + i) v

-- kind, a and b of expression x; its slot name and slot link stay
unfoldable pub set_expression : List ℕ → ℕ → ExpressionEntry → List ℕ
set_expression p x e =
    set_word (set_word (set_word p (7104 + 5 * x) (expression_kind_of e)) (7105 + 5 * x) (expression_a_of e)) (7106 + 5 * x) (expression_b_of e)

-- kind, a, b and c of instruction i; its link stays
unfoldable pub set_instruction : List ℕ → ℕ → InstructionEntry → List ℕ
set_instruction p i e =
    set_word
    (set_word (set_word (set_word p (4544 + 5 * i) (instruction_kind_of e)) (4545 + 5 * i) (instruction_a_of e)) (4546 + 5 * i) (instruction_b_of e))
    (4547 + 5 * i) (instruction_c_of e)
