-- What well-formed program words give: every number kept names an existing entry, parts come after wholes, walks end. Assumes nothing.
use Rattle.std.specs.Prelude.{◌≡◌, List, ℕ, suc, ◌<◌}
use Rattle.tables.specs.declared.ExpressionEntry.{ExpressionEntry}
use Rattle.tables.specs.Entries.{expression_at}
use Rattle.tables.specs.Fields.{names, expressions, instructions, codes, program_slots, code_first, link, slot_name, slot_after, slot_walk, instruction_after, instruction_walk}
use Rattle.program_parts.specs.Parts.{PartOf, PartOfInstruction, Names, Holds, StandsIn}

-- a place among the slots of the program frame or of a frame literal: a slot, or the end
pub data SlotPlace (p : List ℕ) : ℕ → Type 0 where
  of_program : SlotPlace p (program_slots p)
  of_frame : (x d : ℕ) → x < expressions p → expression_at p x ≡ ExpressionEntry.Frame d → SlotPlace p (link 1024 x d)
  after : (y : ℕ) → SlotPlace p (suc y) → SlotPlace p (slot_after p y)

pub record Sound (p : List ℕ) : Type 0 where
  -- every number kept names an existing entry (the forms of single entries: `Entries`)
  pub part_there : (x a : ℕ) → PartOf p x a → a < expressions p
  pub operand_there : (i a : ℕ) → PartOfInstruction p i a → a < expressions p
  pub slot_there : (y : ℕ) → SlotPlace p (suc y) → y < expressions p
  pub slot_named : (y : ℕ) → SlotPlace p (suc y) → slot_name p y < names p
  pub code_there : (k x : ℕ) → Names p k x → k < codes p
  pub first_there : (k i : ℕ) → k < codes p → code_first p k ≡ suc i → i < instructions p
  pub next_there : (i j : ℕ) → i < instructions p → instruction_after p i ≡ suc j → j < instructions p
  pub stands_there : (k i : ℕ) → StandsIn p k i → i < instructions p
  -- parts come after wholes, and later members of a list after earlier ones
  pub part_larger : (x a : ℕ) → PartOf p x a → x < a
  pub slot_larger : (y w : ℕ) → slot_after p y ≡ suc w → y < w
  pub next_larger : (i j : ℕ) → instruction_after p i ≡ suc j → i < j
  pub code_larger : (k i m : ℕ) → StandsIn p k i → Holds p i m → k < m
  -- walks end: along slots after at most 16, along a code after at most as many instructions as there are
  pub program_slots_end : slot_walk p (program_slots p) 16 ≡ 0
  pub slots_end : (x d : ℕ) → x < expressions p → expression_at p x ≡ ExpressionEntry.Frame d → slot_walk p (link 1024 x d) 16 ≡ 0
  pub code_ends : (k : ℕ) → k < codes p → instruction_walk p (code_first p k) (instructions p) ≡ 0
  -- an instruction stands in one place of its code
  pub one_place : (k i : ℕ) (s t : StandsIn p k i) → s.turns ≡ t.turns
