-- Document 01, whole memories (well-formed): the tests that decide `Parts`. Every entry is held to the marks of `program_marks`:
-- o, the expression of which an expression is part; q, the instruction of which it is part; c, the code in which an instruction stands;
-- n, the expression that names a code; h, the code in which an expression is written. `proofs/` ties the tests to `Parts`. Assumes nothing.
use Rattle.std.specs.Prelude.{Bool, true, not, ◌&&◌, ◌||◌, List, ℕ, ◌+◌, eqb, leb, ltb}
use Rattle.words.specs.Words.{word, all_below}
use Rattle.tables.specs.declared.ExpressionEntry.{ExpressionEntry}
use Rattle.tables.specs.declared.InstructionEntry.{InstructionEntry}
use Rattle.tables.specs.Entries.{expression_at, instruction_at}
use Rattle.tables.specs.Fields.{expressions, instructions, codes, code_first, link, slot_walk, instruction_after}
use Rattle.program_marks.specs.Marks.{expression_wholes, instruction_wholes, instruction_codes, code_names, homes}

-- a, a part of expression x, has the mark w = 1 + x and no other
unfoldable pub part_ok : List ℕ → List ℕ → ℕ → ℕ → ℕ → Bool
part_ok o q x w a = ltb x a && eqb (word o (1 + a)) w && eqb (word q (1 + a)) 0

unfoldable pub slot_marked : List ℕ → List ℕ → ℕ → ℕ → Bool
slot_marked o q w z = eqb z 0 || (eqb (word o z) w && eqb (word q z) 0)

unfoldable pub slot_marked_at : List ℕ → List ℕ → List ℕ → ℕ → ℕ → ℕ → Bool
slot_marked_at p o q w z j = slot_marked o q w (slot_walk p z j)

unfoldable pub slots_marked : List ℕ → List ℕ → List ℕ → ℕ → ℕ → Bool
slots_marked p o q w z = all_below (slot_marked_at p o q w z) 16

-- a code literal in expression x (mark w = 1 + x): it is named there, and is larger than the code in which x is written
unfoldable pub code_ok : List ℕ → List ℕ → ℕ → ℕ → Bool
code_ok n h w k = eqb (word n (1 + k)) w && leb (word h w) k

unfoldable pub both_parts_ok : List ℕ → List ℕ → ℕ → ℕ → ℕ → ℕ → Bool
both_parts_ok o q x w a b = part_ok o q x w a && part_ok o q x w b

unfoldable pub parts_marked : List ℕ → List ℕ → List ℕ → List ℕ → List ℕ → ℕ → ℕ → ExpressionEntry → Bool
parts_marked p o q n h x w (ExpressionEntry.Integer v) = true
parts_marked p o q n h x w (ExpressionEntry.Literal k) = true
parts_marked p o q n h x w (ExpressionEntry.FromSelf j m) = true
parts_marked p o q n h x w (ExpressionEntry.FromProgram j m) = true
parts_marked p o q n h x w (ExpressionEntry.Code k) = code_ok n h w k
parts_marked p o q n h x w (ExpressionEntry.Frame d) = slots_marked p o q w (link 1024 x d)
parts_marked p o q n h x w (ExpressionEntry.Not a) = part_ok o q x w a
parts_marked p o q n h x w (ExpressionEntry.Operate k a b) = both_parts_ok o q x w a b
parts_marked p o q n h x w ExpressionEntry.Bad = true

unfoldable pub expression_marked_as : List ℕ → List ℕ → List ℕ → List ℕ → List ℕ → ℕ → ℕ → Bool
expression_marked_as p o q n h x w = parts_marked p o q n h x w (expression_at p x)

unfoldable pub expression_marked : List ℕ → List ℕ → List ℕ → List ℕ → List ℕ → ℕ → Bool
expression_marked p o q n h x = expression_marked_as p o q n h x (1 + x)

unfoldable pub expressions_marked : List ℕ → List ℕ → List ℕ → List ℕ → List ℕ → Bool
expressions_marked p o q n h = all_below (expression_marked p o q n h) (expressions p)

-- a, a part of an instruction, has its mark w and no other
unfoldable pub operand_ok : List ℕ → List ℕ → ℕ → ℕ → Bool
operand_ok o q w a = eqb (word q (1 + a)) w && eqb (word o (1 + a)) 0

unfoldable pub operands_marked : List ℕ → List ℕ → ℕ → InstructionEntry → Bool
operands_marked o q w (InstructionEntry.AssignSelf j n a) = operand_ok o q w a
operands_marked o q w (InstructionEntry.AssignProgram j n a) = operand_ok o q w a
operands_marked o q w (InstructionEntry.Show a) = operand_ok o q w a
operands_marked o q w (InstructionEntry.Jump a b) = operand_ok o q w a && operand_ok o q w b
operands_marked o q w (InstructionEntry.Ifeq a b u) = operand_ok o q w a && operand_ok o q w b && operand_ok o q w u
operands_marked o q w InstructionEntry.Bad = true

-- instruction i stands in a code, and the next one in the same
unfoldable pub stands_ok : List ℕ → List ℕ → ℕ → Bool
stands_ok p c i =
    not (eqb (word c (1 + i)) 0) && (eqb (instruction_after p i) 0 || eqb (word c (instruction_after p i)) (word c (1 + i)))

unfoldable pub instruction_marked_as : List ℕ → List ℕ → List ℕ → List ℕ → ℕ → ℕ → Bool
instruction_marked_as p o q c i w = operands_marked o q w (instruction_at p i) && stands_ok p c i

unfoldable pub instruction_marked : List ℕ → List ℕ → List ℕ → List ℕ → ℕ → Bool
instruction_marked p o q c i = instruction_marked_as p o q c i (1 + i)

unfoldable pub instructions_marked : List ℕ → List ℕ → List ℕ → List ℕ → Bool
instructions_marked p o q c = all_below (instruction_marked p o q c) (instructions p)

-- the first instruction of code k (w = 1 + k) stands in code k, and code k is named
unfoldable pub code_marked_as : List ℕ → List ℕ → List ℕ → ℕ → ℕ → Bool
code_marked_as p c n k w = (eqb (code_first p k) 0 || eqb (word c (code_first p k)) w) && not (eqb (word n (1 + k)) 0)

unfoldable pub code_marked : List ℕ → List ℕ → List ℕ → ℕ → Bool
code_marked p c n k = code_marked_as p c n k (1 + k)

unfoldable pub codes_marked : List ℕ → List ℕ → List ℕ → Bool
codes_marked p c n = all_below (code_marked p c n) (codes p)

-- ---- All of it

unfoldable pub marks_ok : List ℕ → List ℕ → List ℕ → List ℕ → List ℕ → List ℕ → Bool
marks_ok p o q c n h = expressions_marked p o q n h && instructions_marked p o q c && codes_marked p c n

unfoldable pub parts_ok : List ℕ → Bool
parts_ok p = marks_ok p (expression_wholes p) (instruction_wholes p) (instruction_codes p) (code_names p) (homes p)
