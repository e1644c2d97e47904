-- Document 01, whole memories (well-formed): the tests of single entries that the code computes. `proofs/Decides.antt` ties them to `Form`. Assumes nothing.
use Rattle.std.specs.Prelude.{Bool, true, false, not, ◌&&◌, ◌||◌, List, ℕ, ◌+◌, ◌-◌, eqb, leb, ltb}
use Rattle.words.specs.Words.{all_below}
use Rattle.tables.specs.declared.ExpressionEntry.{ExpressionEntry}
use Rattle.tables.specs.declared.InstructionEntry.{InstructionEntry}
use Rattle.tables.specs.Entries.{expression_at, instruction_at}
use Rattle.tables.specs.Fields.{names, literals, expressions, instructions, codes, path_names, program_slots, code_first, instruction_link}
use Rattle.tables.specs.Fields.{expression_kind, slot_name, slot_link, link, follow_slot, slot_walk}
use Rattle.program_names.specs.Tests.{limits_ok, texts_ok}

-- ---- Paths
unfoldable pub path_ok : List ℕ → ℕ → ℕ → Bool
path_ok p j n = leb (j + n) (path_names p)

-- ---- Expressions
-- the link d of entry x reaches one of n entries, or there is none
unfoldable pub link_ok : ℕ → ℕ → ℕ → Bool
link_ok n x d = eqb d 0 || ltb (x + d) n

unfoldable pub base_ok : List ℕ → ℕ → Bool
base_ok p e = ltb e (expressions p) && ltb (expression_kind p e) 5

-- the slot at the place z, where there is one, has another name than n
unfoldable pub other_name : List ℕ → ℕ → ℕ → Bool
other_name p n z = eqb z 0 || not (eqb (slot_name p (z - 1)) n)

unfoldable pub other_name_at : List ℕ → ℕ → ℕ → ℕ → Bool
other_name_at p n z j = other_name p n (slot_walk p z j)

-- none of the 16 slots from the place z on has the name n
unfoldable pub other_names : List ℕ → ℕ → ℕ → Bool
other_names p n z = all_below (other_name_at p n z) 16

-- the slot at the place z, where there is one: it exists, its name exists, its link reaches an entry, later slots have other names
unfoldable pub slot_ok : List ℕ → ℕ → Bool
slot_ok p z =
    eqb z 0
    || (leb z (expressions p) && ltb (slot_name p (z - 1)) (names p) && link_ok (expressions p) (z - 1) (slot_link p (z - 1))
    && other_names p (slot_name p (z - 1)) (follow_slot p z))

unfoldable pub slot_at_ok : List ℕ → ℕ → ℕ → Bool
slot_at_ok p z j = slot_ok p (slot_walk p z j)

unfoldable pub slots_ok : List ℕ → ℕ → Bool
slots_ok p z = all_below (slot_at_ok p z) 16 && eqb (slot_walk p z 16) 0

unfoldable pub frame_ok : List ℕ → ℕ → ℕ → Bool
frame_ok p x d = link_ok (expressions p) x d && slots_ok p (link 1024 x d)

unfoldable pub operate_ok : List ℕ → ℕ → ℕ → Bool
operate_ok p e g = base_ok p e && base_ok p g

unfoldable pub expression_entry_ok : List ℕ → ℕ → ExpressionEntry → Bool
expression_entry_ok p x (ExpressionEntry.Integer w) = true
expression_entry_ok p x (ExpressionEntry.Literal k) = ltb k (literals p)
expression_entry_ok p x (ExpressionEntry.FromSelf j n) = path_ok p j n
expression_entry_ok p x (ExpressionEntry.FromProgram j n) = path_ok p j n
expression_entry_ok p x (ExpressionEntry.Code k) = ltb k (codes p)
expression_entry_ok p x (ExpressionEntry.Frame d) = frame_ok p x d
expression_entry_ok p x (ExpressionEntry.Not e) = base_ok p e
expression_entry_ok p x (ExpressionEntry.Operate o e g) = operate_ok p e g
expression_entry_ok p x ExpressionEntry.Bad = false

unfoldable pub expression_ok : List ℕ → ℕ → Bool
expression_ok p x = expression_entry_ok p x (expression_at p x)

unfoldable pub expressions_ok : List ℕ → Bool
expressions_ok p = all_below (expression_ok p) (expressions p)

-- ---- Instructions
unfoldable pub assign_ok : List ℕ → ℕ → ℕ → ℕ → Bool
assign_ok p j n e = path_ok p j n && ltb e (expressions p)

unfoldable pub ifeq_ok : List ℕ → ℕ → ℕ → ℕ → Bool
ifeq_ok p e g u = base_ok p e && base_ok p g && base_ok p u

unfoldable pub instruction_entry_ok : List ℕ → InstructionEntry → Bool
instruction_entry_ok p (InstructionEntry.AssignSelf j n e) = assign_ok p j n e
instruction_entry_ok p (InstructionEntry.AssignProgram j n e) = assign_ok p j n e
instruction_entry_ok p (InstructionEntry.Show e) = base_ok p e
instruction_entry_ok p (InstructionEntry.Jump e g) = operate_ok p e g
instruction_entry_ok p (InstructionEntry.Ifeq e g u) = ifeq_ok p e g u
instruction_entry_ok p InstructionEntry.Bad = false

unfoldable pub instruction_ok : List ℕ → ℕ → Bool
instruction_ok p i = instruction_entry_ok p (instruction_at p i) && link_ok (instructions p) i (instruction_link p i)

unfoldable pub instructions_ok : List ℕ → Bool
instructions_ok p = all_below (instruction_ok p) (instructions p)

-- ---- Codes
unfoldable pub code_ok : List ℕ → ℕ → Bool
code_ok p k = leb (code_first p k) (instructions p)

unfoldable pub codes_ok : List ℕ → Bool
codes_ok p = all_below (code_ok p) (codes p)

-- ---- All of it
unfoldable pub tables_ok : List ℕ → List ℕ → Bool
tables_ok p l = texts_ok p l && expressions_ok p && instructions_ok p && codes_ok p && slots_ok p (program_slots p)

unfoldable pub entries_ok : List ℕ → List ℕ → Bool
entries_ok p l = limits_ok p && tables_ok p l
