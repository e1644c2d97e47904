-- Document 01, "The calls", whole memories (here: well-formed): what the paragraph says of single entries of the program words p and literal bytes l.
-- Entries are those of docs/LAYOUT.md. Which entry is part of which is in the crate `program_parts`. Assumes nothing.
use Rattle.std.specs.Prelude.{◌≡◌, ◌≢◌, List, ℕ, suc, ◌+◌, ◌≤◌, ◌<◌}
use Rattle.tables.specs.declared.ExpressionEntry.{ExpressionEntry}
use Rattle.tables.specs.declared.InstructionEntry.{InstructionEntry}
use Rattle.tables.specs.Entries.{expression_at, instruction_at}
use Rattle.tables.specs.Fields.{names, literals, expressions, instructions, codes, path_names, program_slots, code_first, instruction_link}
use Rattle.tables.specs.Fields.{expression_kind, slot_name, slot_link, link, slot_walk}
use Rattle.program_names.specs.Form.{Limits, Texts}

-- ---- Every entry has a form of the grammar, and every number kept in it names an existing entry

-- e is a base: integer, string, path or code
pub record Base (p : List ℕ) (e : ℕ) : Type 0 where
  pub there : e < expressions p
  pub base : expression_kind p e < 5

-- what is kept of expression y where it is a slot: its name and the link to the next slot
pub record Slot (p : List ℕ) (y : ℕ) : Type 0 where
  pub there : y < expressions p
  pub named : slot_name p y < names p
  pub link_there : slot_link p y ≢ 0 → y + slot_link p y < expressions p

-- the slots from the place z on: at most 16, with distinct names
pub record SlotList (p : List ℕ) (z : ℕ) : Type 0 where
  pub each : (j y : ℕ) → slot_walk p z j ≡ suc y → Slot p y
  pub most : slot_walk p z 16 ≡ 0
  pub distinct : (i j x y : ℕ) → i < j → slot_walk p z i ≡ suc x → slot_walk p z j ≡ suc y → slot_name p x ≢ slot_name p y

pub record ExpressionForm (p : List ℕ) (x : ℕ) : Type 0 where
  pub literal : (k : ℕ) → expression_at p x ≡ ExpressionEntry.Literal k → k < literals p
  pub from_self : (j n : ℕ) → expression_at p x ≡ ExpressionEntry.FromSelf j n → j + n ≤ path_names p
  pub from_program : (j n : ℕ) → expression_at p x ≡ ExpressionEntry.FromProgram j n → j + n ≤ path_names p
  pub code : (k : ℕ) → expression_at p x ≡ ExpressionEntry.Code k → k < codes p
  pub frame_link : (d : ℕ) → expression_at p x ≡ ExpressionEntry.Frame d → d ≢ 0 → x + d < expressions p
  pub frame : (d : ℕ) → expression_at p x ≡ ExpressionEntry.Frame d → SlotList p (link 1024 x d)
  pub negated : (e : ℕ) → expression_at p x ≡ ExpressionEntry.Not e → Base p e
  pub left : (o e g : ℕ) → expression_at p x ≡ ExpressionEntry.Operate o e g → Base p e
  pub right : (o e g : ℕ) → expression_at p x ≡ ExpressionEntry.Operate o e g → Base p g
  pub formed : expression_at p x ≢ ExpressionEntry.Bad

pub record InstructionForm (p : List ℕ) (i : ℕ) : Type 0 where
  pub self_path : (j n e : ℕ) → instruction_at p i ≡ InstructionEntry.AssignSelf j n e → j + n ≤ path_names p
  pub self_there : (j n e : ℕ) → instruction_at p i ≡ InstructionEntry.AssignSelf j n e → e < expressions p
  pub program_path : (j n e : ℕ) → instruction_at p i ≡ InstructionEntry.AssignProgram j n e → j + n ≤ path_names p
  pub program_there : (j n e : ℕ) → instruction_at p i ≡ InstructionEntry.AssignProgram j n e → e < expressions p
  pub shown : (e : ℕ) → instruction_at p i ≡ InstructionEntry.Show e → Base p e
  pub jump_to : (e g : ℕ) → instruction_at p i ≡ InstructionEntry.Jump e g → Base p e
  pub jump_with : (e g : ℕ) → instruction_at p i ≡ InstructionEntry.Jump e g → Base p g
  pub ifeq_test : (e g u : ℕ) → instruction_at p i ≡ InstructionEntry.Ifeq e g u → Base p e
  pub ifeq_to : (e g u : ℕ) → instruction_at p i ≡ InstructionEntry.Ifeq e g u → Base p g
  pub ifeq_with : (e g u : ℕ) → instruction_at p i ≡ InstructionEntry.Ifeq e g u → Base p u
  pub formed : instruction_at p i ≢ InstructionEntry.Bad
  pub link_there : instruction_link p i ≢ 0 → i + instruction_link p i < instructions p

pub record Entries (p l : List ℕ) : Type 0 where
  pub limits : Limits p
  pub texts : Texts p l
  pub expression : (x : ℕ) → x < expressions p → ExpressionForm p x
  pub instruction : (i : ℕ) → i < instructions p → InstructionForm p i
  pub code_first_there : (k i : ℕ) → k < codes p → code_first p k ≡ suc i → i < instructions p
  pub program_frame : SlotList p (program_slots p)
