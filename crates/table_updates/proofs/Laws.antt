-- Laws of the updates: what a reader gives after an update of its own field, and what an update leaves alone.
-- Each update changes one region of words; each reader is kept by a change of a region that does not hold its word. Assumes nothing.
use mathlib.Core.Path.{◌≡◌, refl, ◌∙◌}
use mathlib.Core.List.{List}
use Prim.Native.Nat.{ℕ, ◌+◌, ◌*◌, ◌≤◌, ◌<◌}
use native.Mathlib.Omega.{arith}
use lib.ListN.{length}
use borrow.Author.Tests.{ne_eqb, lt-ltb}
use Rattle.words.specs.Words.{word, set_word}
use Rattle.words.proofs.Laws.{set_size, word_other, word_same}
use Rattle.tables.specs.declared.ExpressionEntry.{ExpressionEntry}
use Rattle.tables.specs.declared.InstructionEntry.{InstructionEntry}
use Rattle.tables.specs.Fields.{frame_limit, text_limit, names, literals, expressions, instructions, codes, path_names}
use Rattle.tables.specs.Fields.{program_slots, start, name_length, literal_length, code_first, path_name, instruction_kind, instruction_a}
use Rattle.tables.specs.Fields.{instruction_b, instruction_c, instruction_link, expression_kind, expression_a, expression_b, slot_name, slot_link}
use Rattle.tables.specs.Fields.{name_byte, literal_byte, slot_after}
use Rattle.tables.specs.Entries.{expression_of, expression_at, instruction_of, instruction_at}
use Rattle.table_updates.specs.Encode.{Encodable, expression_kind_of, expression_a_of, expression_b_of, instruction_kind_of, instruction_a_of, instruction_b_of, instruction_c_of}
use Rattle.table_updates.specs.Updates.{set_frame_limit, set_text_limit, set_names, set_literals, set_expressions, set_instructions, set_codes, set_path_names}
use Rattle.table_updates.specs.Updates.{set_program_slots, set_start, set_name_length, set_literal_length, set_code_first, set_path_name, set_instruction_link, set_slot_name}
use Rattle.table_updates.specs.Updates.{set_slot_link, set_name_byte, set_literal_byte, set_expression, set_instruction}

-- ---- Regions

-- q has the words of p but for those from lo on and below hi
pub record Region (p q : List ℕ) (lo hi : ℕ) : Type 0 where
  pub size : length q ≡ length p
  pub away : (k : ℕ) → (lo ≤ k → k < hi → ⊥) → word q k ≡ word p k

pub region_at : (p : List ℕ) (lo hi v : ℕ) → lo < hi → Region p (set_word p lo v) lo hi
region_at p lo hi v lt =
    record { size = set_size p lo v; away = λ k out. word_other p lo k v (word p k) (λ e. out (omega arith) (omega arith)) refl }

region_set : (p : List ℕ) (k v : ℕ) → Region p (set_word p k v) k (k + 1)
region_set p k v = region_at p k (k + 1) v (omega arith)

pub region_wider : (p q : List ℕ) (lo hi a b : ℕ) → Region p q lo hi → a ≤ lo → hi ≤ b → Region p q a b
region_wider p q lo hi a b u l h = record { size = u.size; away = λ k out. u.away k (λ x y. out (omega arith) (omega arith)) }

pub region_then : (p q r : List ℕ) (lo hi : ℕ) → Region p q lo hi → Region q r lo hi → Region p r lo hi
region_then p q r lo hi u w = record { size = w.size ∙ u.size; away = λ k out. w.away k out ∙ u.away k out }

-- ---- The region of each update

pub set_frame_limit_region : (p : List ℕ) (v : ℕ) → Region p (set_frame_limit p v) 0 1
unfolding set_frame_limit
set_frame_limit_region p v = region_set p 0 v

pub set_text_limit_region : (p : List ℕ) (v : ℕ) → Region p (set_text_limit p v) 1 2
unfolding set_text_limit
set_text_limit_region p v = region_set p 1 v

pub set_names_region : (p : List ℕ) (v : ℕ) → Region p (set_names p v) 2 3
unfolding set_names
set_names_region p v = region_set p 2 v

pub set_literals_region : (p : List ℕ) (v : ℕ) → Region p (set_literals p v) 3 4
unfolding set_literals
set_literals_region p v = region_set p 3 v

pub set_expressions_region : (p : List ℕ) (v : ℕ) → Region p (set_expressions p v) 4 5
unfolding set_expressions
set_expressions_region p v = region_set p 4 v

pub set_instructions_region : (p : List ℕ) (v : ℕ) → Region p (set_instructions p v) 5 6
unfolding set_instructions
set_instructions_region p v = region_set p 5 v

pub set_codes_region : (p : List ℕ) (v : ℕ) → Region p (set_codes p v) 6 7
unfolding set_codes
set_codes_region p v = region_set p 6 v

pub set_path_names_region : (p : List ℕ) (v : ℕ) → Region p (set_path_names p v) 7 8
unfolding set_path_names
set_path_names_region p v = region_set p 7 v

pub set_program_slots_region : (p : List ℕ) (v : ℕ) → Region p (set_program_slots p v) 8 9
unfolding set_program_slots
set_program_slots_region p v = region_set p 8 v

pub set_start_region : (p : List ℕ) (v : ℕ) → Region p (set_start p v) 9 10
unfolding set_start
set_start_region p v = region_set p 9 v

pub set_name_length_region : (p : List ℕ) (k v : ℕ) → Region p (set_name_length p k v) (64 + 17 * k) (65 + 17 * k)
unfolding set_name_length
set_name_length_region p k v = region_at p (64 + 17 * k) (65 + 17 * k) v (omega arith)

pub set_literal_length_region : (p : List ℕ) (k v : ℕ) → Region p (set_literal_length p k v) (2240 + k) (2241 + k)
unfolding set_literal_length
set_literal_length_region p k v = region_at p (2240 + k) (2241 + k) v (omega arith)

pub set_code_first_region : (p : List ℕ) (k v : ℕ) → Region p (set_code_first p k v) (2368 + k) (2369 + k)
unfolding set_code_first
set_code_first_region p k v = region_at p (2368 + k) (2369 + k) v (omega arith)

pub set_path_name_region : (p : List ℕ) (j v : ℕ) → Region p (set_path_name p j v) (2496 + j) (2497 + j)
unfolding set_path_name
set_path_name_region p j v = region_at p (2496 + j) (2497 + j) v (omega arith)

pub set_instruction_link_region : (p : List ℕ) (i v : ℕ) → Region p (set_instruction_link p i v) (4548 + 5 * i) (4549 + 5 * i)
unfolding set_instruction_link
set_instruction_link_region p i v = region_at p (4548 + 5 * i) (4549 + 5 * i) v (omega arith)

pub set_slot_name_region : (p : List ℕ) (x v : ℕ) → Region p (set_slot_name p x v) (7107 + 5 * x) (7108 + 5 * x)
unfolding set_slot_name
set_slot_name_region p x v = region_at p (7107 + 5 * x) (7108 + 5 * x) v (omega arith)

pub set_slot_link_region : (p : List ℕ) (x v : ℕ) → Region p (set_slot_link p x v) (7108 + 5 * x) (7109 + 5 * x)
unfolding set_slot_link
set_slot_link_region p x v = region_at p (7108 + 5 * x) (7109 + 5 * x) v (omega arith)

pub set_name_byte_region : (p : List ℕ) (k i v : ℕ) → Region p (set_name_byte p k i v) (65 + 17 * k + i) (66 + 17 * k + i)
unfolding set_name_byte
set_name_byte_region p k i v = region_at p (65 + 17 * k + i) (66 + 17 * k + i) v (omega arith)

pub set_literal_byte_region : (l : List ℕ) (k i v : ℕ) → Region l (set_literal_byte l k i v) (64 * k + i) (1 + 64 * k + i)
unfolding set_literal_byte
set_literal_byte_region l k i v = region_at l (64 * k + i) (1 + 64 * k + i) v (omega arith)

one_inside : (p : List ℕ) (lo hi k v : ℕ) → lo ≤ k → k < hi → Region p (set_word p k v) lo hi
one_inside p lo hi k v l h = region_wider p (set_word p k v) k (k + 1) lo hi (region_set p k v) l (omega arith)

pub set_expression_region : (p : List ℕ) (x : ℕ) (e : ExpressionEntry) → Region p (set_expression p x e) (7104 + 5 * x) (7107 + 5 * x)
unfolding set_expression
set_expression_region p x e =
    region_then _ _ _ _ _ (one_inside p _ _ _ _ (omega arith) (omega arith))
    (region_then _ _ _ _ _ (one_inside _ _ _ _ _ (omega arith) (omega arith)) (one_inside _ _ _ _ _ (omega arith) (omega arith)))

pub set_instruction_region : (p : List ℕ) (i : ℕ) (e : InstructionEntry) → Region p (set_instruction p i e) (4544 + 5 * i) (4548 + 5 * i)
unfolding set_instruction
set_instruction_region p i e =
    region_then _ _ _ _ _ (one_inside p _ _ _ _ (omega arith) (omega arith))
    (region_then _ _ _ _ _ (one_inside _ _ _ _ _ (omega arith) (omega arith))
    (region_then _ _ _ _ _ (one_inside _ _ _ _ _ (omega arith) (omega arith)) (one_inside _ _ _ _ _ (omega arith) (omega arith))))

-- ---- What is kept: `names-kept p q lo hi u (λ a b. omega arith)`

module _ (p q : List ℕ) (lo hi : ℕ) (u : Region p q lo hi) where
  pub frame_limit_kept : (lo ≤ 0 → 0 < hi → ⊥) → frame_limit q ≡ frame_limit p
  unfolding frame_limit
  frame_limit_kept out = u.away _ out

  pub text_limit_kept : (lo ≤ 1 → 1 < hi → ⊥) → text_limit q ≡ text_limit p
  unfolding text_limit
  text_limit_kept out = u.away _ out

  pub names_kept : (lo ≤ 2 → 2 < hi → ⊥) → names q ≡ names p
  unfolding names
  names_kept out = u.away _ out

  pub literals_kept : (lo ≤ 3 → 3 < hi → ⊥) → literals q ≡ literals p
  unfolding literals
  literals_kept out = u.away _ out

  pub expressions_kept : (lo ≤ 4 → 4 < hi → ⊥) → expressions q ≡ expressions p
  unfolding expressions
  expressions_kept out = u.away _ out

  pub instructions_kept : (lo ≤ 5 → 5 < hi → ⊥) → instructions q ≡ instructions p
  unfolding instructions
  instructions_kept out = u.away _ out

  pub codes_kept : (lo ≤ 6 → 6 < hi → ⊥) → codes q ≡ codes p
  unfolding codes
  codes_kept out = u.away _ out

  pub path_names_kept : (lo ≤ 7 → 7 < hi → ⊥) → path_names q ≡ path_names p
  unfolding path_names
  path_names_kept out = u.away _ out

  pub program_slots_kept : (lo ≤ 8 → 8 < hi → ⊥) → program_slots q ≡ program_slots p
  unfolding program_slots
  program_slots_kept out = u.away _ out

  pub code_first_kept : (k : ℕ) → (lo ≤ 2368 + k → 2368 + k < hi → ⊥) → code_first q k ≡ code_first p k
  unfolding code_first
  code_first_kept k out = u.away _ out

  pub expression_kind_kept : (x : ℕ) → (lo ≤ 7104 + 5 * x → 7104 + 5 * x < hi → ⊥) → expression_kind q x ≡ expression_kind p x
  unfolding expression_kind
  expression_kind_kept x out = u.away _ out

  pub expression_a_kept : (x : ℕ) → (lo ≤ 7105 + 5 * x → 7105 + 5 * x < hi → ⊥) → expression_a q x ≡ expression_a p x
  unfolding expression_a
  expression_a_kept x out = u.away _ out

  pub expression_b_kept : (x : ℕ) → (lo ≤ 7106 + 5 * x → 7106 + 5 * x < hi → ⊥) → expression_b q x ≡ expression_b p x
  unfolding expression_b
  expression_b_kept x out = u.away _ out

  pub slot_name_kept : (x : ℕ) → (lo ≤ 7107 + 5 * x → 7107 + 5 * x < hi → ⊥) → slot_name q x ≡ slot_name p x
  unfolding slot_name
  slot_name_kept x out = u.away _ out

  pub slot_link_kept : (x : ℕ) → (lo ≤ 7108 + 5 * x → 7108 + 5 * x < hi → ⊥) → slot_link q x ≡ slot_link p x
  unfolding slot_link
  slot_link_kept x out = u.away _ out

  pub slot_after_kept : (x : ℕ) → (lo ≤ 7108 + 5 * x → 7108 + 5 * x < hi → ⊥) → slot_after q x ≡ slot_after p x
  unfolding slot_after
  slot_after_kept x out = rw (slot_link_kept x out)

  -- an entry is kept where its first words are outside the region
  pub expression_at_kept : (x : ℕ) → (lo < 7107 + 5 * x → 7104 + 5 * x < hi → ⊥) → expression_at q x ≡ expression_at p x
  unfolding expression_at
  expression_at_kept x out =
      rw (expression_kind_kept x (λ a b. out (omega arith) (omega arith)), expression_a_kept x (λ a b. out (omega arith) (omega arith)), expression_b_kept x (λ a b. out (omega arith) (omega arith)))

-- ---- What is read after an update of the same field

pub frame_limit_set : (p : List ℕ) (v : ℕ) → length p ≡ 16384 → frame_limit (set_frame_limit p v) ≡ v
unfolding frame_limit set_frame_limit
frame_limit_set p v s = word_same _ _ _ (omega arith)

pub text_limit_set : (p : List ℕ) (v : ℕ) → length p ≡ 16384 → text_limit (set_text_limit p v) ≡ v
unfolding text_limit set_text_limit
text_limit_set p v s = word_same _ _ _ (omega arith)

pub names_set : (p : List ℕ) (v : ℕ) → length p ≡ 16384 → names (set_names p v) ≡ v
unfolding names set_names
names_set p v s = word_same _ _ _ (omega arith)

pub literals_set : (p : List ℕ) (v : ℕ) → length p ≡ 16384 → literals (set_literals p v) ≡ v
unfolding literals set_literals
literals_set p v s = word_same _ _ _ (omega arith)

pub expressions_set : (p : List ℕ) (v : ℕ) → length p ≡ 16384 → expressions (set_expressions p v) ≡ v
unfolding expressions set_expressions
expressions_set p v s = word_same _ _ _ (omega arith)

pub instructions_set : (p : List ℕ) (v : ℕ) → length p ≡ 16384 → instructions (set_instructions p v) ≡ v
unfolding instructions set_instructions
instructions_set p v s = word_same _ _ _ (omega arith)

pub codes_set : (p : List ℕ) (v : ℕ) → length p ≡ 16384 → codes (set_codes p v) ≡ v
unfolding codes set_codes
codes_set p v s = word_same _ _ _ (omega arith)

pub path_names_set : (p : List ℕ) (v : ℕ) → length p ≡ 16384 → path_names (set_path_names p v) ≡ v
unfolding path_names set_path_names
path_names_set p v s = word_same _ _ _ (omega arith)

pub program_slots_set : (p : List ℕ) (v : ℕ) → length p ≡ 16384 → program_slots (set_program_slots p v) ≡ v
unfolding program_slots set_program_slots
program_slots_set p v s = word_same _ _ _ (omega arith)

pub start_set : (p : List ℕ) (v : ℕ) → length p ≡ 16384 → start (set_start p v) ≡ v
unfolding start set_start
start_set p v s = word_same _ _ _ (omega arith)

pub name_length_set : (p : List ℕ) (k v : ℕ) → length p ≡ 16384 → k < 128 → name_length (set_name_length p k v) k ≡ v
unfolding name_length set_name_length
name_length_set p k v s lt = word_same _ _ _ (omega arith)

pub literal_length_set : (p : List ℕ) (k v : ℕ) → length p ≡ 16384 → k < 128 → literal_length (set_literal_length p k v) k ≡ v
unfolding literal_length set_literal_length
literal_length_set p k v s lt = word_same _ _ _ (omega arith)

pub code_first_set : (p : List ℕ) (k v : ℕ) → length p ≡ 16384 → k < 128 → code_first (set_code_first p k v) k ≡ v
unfolding code_first set_code_first
code_first_set p k v s lt = word_same _ _ _ (omega arith)

pub path_name_set : (p : List ℕ) (j v : ℕ) → length p ≡ 16384 → j < 2048 → path_name (set_path_name p j v) j ≡ v
unfolding path_name set_path_name
path_name_set p j v s lt = word_same _ _ _ (omega arith)

pub instruction_link_set : (p : List ℕ) (i v : ℕ) → length p ≡ 16384 → i < 512 → instruction_link (set_instruction_link p i v) i ≡ v
unfolding instruction_link set_instruction_link
instruction_link_set p i v s lt = word_same _ _ _ (omega arith)

pub slot_name_set : (p : List ℕ) (x v : ℕ) → length p ≡ 16384 → x < 1024 → slot_name (set_slot_name p x v) x ≡ v
unfolding slot_name set_slot_name
slot_name_set p x v s lt = word_same _ _ _ (omega arith)

pub slot_link_set : (p : List ℕ) (x v : ℕ) → length p ≡ 16384 → x < 1024 → slot_link (set_slot_link p x v) x ≡ v
unfolding slot_link set_slot_link
slot_link_set p x v s lt = word_same _ _ _ (omega arith)

pub name_byte_set : (p : List ℕ) (k i v : ℕ) → length p ≡ 16384 → k < 128 → i < 16 → name_byte (set_name_byte p k i v) k i ≡ v
unfolding name_byte set_name_byte
name_byte_set p k i v s lt li = word_same _ _ _ (omega arith)

pub literal_byte_set : (l : List ℕ) (k i v : ℕ) → length l ≡ 8192 → k < 128 → i < 64 → literal_byte (set_literal_byte l k i v) k i ≡ v
unfolding literal_byte set_literal_byte
literal_byte_set l k i v s lt li = word_same _ _ _ (omega arith)

-- ---- Decoding after encoding

pub expression_decoded : (e : ExpressionEntry) → Encodable e → expression_of (expression_kind_of e) (expression_a_of e) (expression_b_of e) ≡ e
unfolding expression_of expression_kind_of expression_a_of expression_b_of
expression_decoded _ (Encodable.integer a) = refl
expression_decoded _ (Encodable.literal a) = refl
expression_decoded _ (Encodable.from_self a b) = refl
expression_decoded _ (Encodable.from_program a b) = refl
expression_decoded _ (Encodable.code a) = refl
expression_decoded _ (Encodable.frame a) = refl
expression_decoded _ (Encodable.not a) = refl
expression_decoded _ (Encodable.operate k a b l h) =
    rw (ne_eqb k 0 (omega arith), ne_eqb k 1 (omega arith), ne_eqb k 2 (omega arith), ne_eqb k 3 (omega arith), ne_eqb k 4 (omega arith), ne_eqb k 5 (omega arith), ne_eqb k 6 (omega arith), lt-ltb k 16 h)

pub instruction_decoded : (e : InstructionEntry) → instruction_of (instruction_kind_of e) (instruction_a_of e) (instruction_b_of e) (instruction_c_of e) ≡ e
unfolding instruction_of instruction_kind_of instruction_a_of instruction_b_of instruction_c_of
instruction_decoded (InstructionEntry.AssignSelf a b c) = refl
instruction_decoded (InstructionEntry.AssignProgram a b c) = refl
instruction_decoded (InstructionEntry.Show a) = refl
instruction_decoded (InstructionEntry.Jump a b) = refl
instruction_decoded (InstructionEntry.Ifeq a b c) = refl
instruction_decoded InstructionEntry.Bad = refl

module _ (p : List ℕ) (x : ℕ) (e : ExpressionEntry) (s : length p ≡ 16384) (lt : x < 1024) where
  kind_set : expression_kind (set_expression p x e) x ≡ expression_kind_of e
  unfolding expression_kind set_expression
  kind_set = word_other _ _ _ _ _ (omega arith) (word_other _ _ _ _ _ (omega arith) (word_same _ _ _ (omega arith)))

  a_set : expression_a (set_expression p x e) x ≡ expression_a_of e
  unfolding expression_a set_expression
  a_set = word_other _ _ _ _ _ (omega arith) (word_same _ _ _ (omega (arith, set_size p (7104 + 5 * x) (expression_kind_of e))))

  b_set : expression_b (set_expression p x e) x ≡ expression_b_of e
  unfolding expression_b set_expression
  b_set = word_same _ _ _ (omega (arith, set_size p (7104 + 5 * x) (expression_kind_of e), set_size (set_word p (7104 + 5 * x) (expression_kind_of e)) (7105 + 5 * x) (expression_a_of e)))

  pub expression_set : Encodable e → expression_at (set_expression p x e) x ≡ e
  unfolding expression_at
  expression_set f = rw (kind_set, a_set, b_set) (expression_decoded e f)

module _ (p : List ℕ) (i : ℕ) (e : InstructionEntry) (s : length p ≡ 16384) (lt : i < 512) where
  w0 : List ℕ
  w0 = set_word p (4544 + 5 * i) (instruction_kind_of e)

  w1 : List ℕ
  w1 = set_word w0 (4545 + 5 * i) (instruction_a_of e)

  w2 : List ℕ
  w2 = set_word w1 (4546 + 5 * i) (instruction_b_of e)

  kind_set_i : instruction_kind (set_instruction p i e) i ≡ instruction_kind_of e
  unfolding instruction_kind set_instruction
  kind_set_i = word_other _ _ _ _ _ (omega arith) (word_other _ _ _ _ _ (omega arith) (word_other _ _ _ _ _ (omega arith) (word_same _ _ _ (omega arith))))

  a_set_i : instruction_a (set_instruction p i e) i ≡ instruction_a_of e
  unfolding instruction_a set_instruction w0
  a_set_i = word_other _ _ _ _ _ (omega arith) (word_other _ _ _ _ _ (omega arith) (word_same w0 _ _ (omega (arith, set_size p (4544 + 5 * i) (instruction_kind_of e)))))

  b_set_i : instruction_b (set_instruction p i e) i ≡ instruction_b_of e
  unfolding instruction_b set_instruction w0 w1
  b_set_i = word_other _ _ _ _ _ (omega arith) (word_same w1 _ _ (omega (arith, set_size p (4544 + 5 * i) (instruction_kind_of e), set_size w0 (4545 + 5 * i) (instruction_a_of e))))

  c_set_i : instruction_c (set_instruction p i e) i ≡ instruction_c_of e
  unfolding instruction_c set_instruction w0 w1 w2
  c_set_i = word_same w2 _ _ (omega (arith, set_size p (4544 + 5 * i) (instruction_kind_of e), set_size w0 (4545 + 5 * i) (instruction_a_of e), set_size w1 (4546 + 5 * i) (instruction_b_of e)))

  pub instruction_set : instruction_at (set_instruction p i e) i ≡ e
  unfolding instruction_at
  instruction_set = rw (kind_set_i, a_set_i, b_set_i, c_set_i) (instruction_decoded e)
