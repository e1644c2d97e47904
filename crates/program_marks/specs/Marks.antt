-- Document 01, whole memories (well-formed): the marks by which it is decided what is part of what. Arrays of marks are filled in one pass each.
-- Cell 1 + a of an array is about entry a; cell 0 is about nothing. A mark is 0 for none, or 1 + a number. Assumes nothing.
use Rattle.std.specs.Prelude.{List, ℕ, zero, suc, ◌+◌, eqb, replicate}
use Rattle.words.specs.Words.{pick, word, set_word}
use Rattle.tables.specs.declared.ExpressionEntry.{ExpressionEntry}
use Rattle.tables.specs.declared.InstructionEntry.{InstructionEntry}
use Rattle.tables.specs.Entries.{expression_at, instruction_at}
use Rattle.tables.specs.Fields.{expressions, instructions, codes, code_first, link, slot_walk, instruction_after}

-- f 0, then f 1, .. then f (n - 1)
unfoldable pub each_below : (ℕ → List ℕ → List ℕ) → ℕ → List ℕ → List ℕ
each_below f zero m = m
each_below f (suc n) m = f n (each_below f n m)

-- ---- Wholes: of which expression (array o), of which instruction (array q) is an expression part?

unfoldable pub mark_slot : List ℕ → ℕ → ℕ → ℕ → List ℕ → List ℕ
mark_slot p z w j m = set_word m (slot_walk p z j) w

-- the 16 slots from the place z on get the mark w
unfoldable pub mark_slots : List ℕ → ℕ → ℕ → List ℕ → List ℕ
mark_slots p z w m = each_below (mark_slot p z w) 16 m

-- the parts of expression x get the mark w
unfoldable pub mark_parts : List ℕ → ℕ → ℕ → ExpressionEntry → List ℕ → List ℕ
mark_parts p x w (ExpressionEntry.Integer v) m = m
mark_parts p x w (ExpressionEntry.Literal k) m = m
mark_parts p x w (ExpressionEntry.FromSelf j n) m = m
mark_parts p x w (ExpressionEntry.FromProgram j n) m = m
mark_parts p x w (ExpressionEntry.Code k) m = m
mark_parts p x w (ExpressionEntry.Frame d) m = mark_slots p (link 1024 x d) w m
mark_parts p x w (ExpressionEntry.Not a) m = set_word m (1 + a) w
mark_parts p x w (ExpressionEntry.Operate o a b) m = set_word (set_word m (1 + a) w) (1 + b) w
mark_parts p x w ExpressionEntry.Bad m = m

unfoldable pub mark_expression : List ℕ → ℕ → List ℕ → List ℕ
mark_expression p x m = mark_parts p x (1 + x) (expression_at p x) m

unfoldable pub mark_expressions : List ℕ → List ℕ → List ℕ
mark_expressions p m = each_below (mark_expression p) (expressions p) m

-- the parts of an instruction get the mark w
unfoldable pub mark_operands : ℕ → InstructionEntry → List ℕ → List ℕ
mark_operands w (InstructionEntry.AssignSelf j n a) m = set_word m (1 + a) w
mark_operands w (InstructionEntry.AssignProgram j n a) m = set_word m (1 + a) w
mark_operands w (InstructionEntry.Show a) m = set_word m (1 + a) w
mark_operands w (InstructionEntry.Jump a b) m = set_word (set_word m (1 + a) w) (1 + b) w
mark_operands w (InstructionEntry.Ifeq a b u) m = set_word (set_word (set_word m (1 + a) w) (1 + b) w) (1 + u) w
mark_operands w InstructionEntry.Bad m = m

unfoldable pub mark_instruction : List ℕ → ℕ → List ℕ → List ℕ
mark_instruction p i m = mark_operands (1 + i) (instruction_at p i) m

unfoldable pub mark_instructions : List ℕ → List ℕ → List ℕ
mark_instructions p m = each_below (mark_instruction p) (instructions p) m

-- ---- Codes: in which expression is a code named (array n), in which code does an instruction stand (array c)?

unfoldable pub mark_named : ℕ → ExpressionEntry → List ℕ → List ℕ
mark_named w (ExpressionEntry.Integer v) m = m
mark_named w (ExpressionEntry.Literal k) m = m
mark_named w (ExpressionEntry.FromSelf j n) m = m
mark_named w (ExpressionEntry.FromProgram j n) m = m
mark_named w (ExpressionEntry.Code k) m = set_word m (1 + k) w
mark_named w (ExpressionEntry.Frame d) m = m
mark_named w (ExpressionEntry.Not a) m = m
mark_named w (ExpressionEntry.Operate o a b) m = m
mark_named w ExpressionEntry.Bad m = m

unfoldable pub mark_name : List ℕ → ℕ → List ℕ → List ℕ
mark_name p x m = mark_named (1 + x) (expression_at p x) m

unfoldable pub mark_names : List ℕ → List ℕ → List ℕ
mark_names p m = each_below (mark_name p) (expressions p) m

-- the first instruction of each code, then each next one, from its predecessor: lists rise, so this is one pass
unfoldable pub mark_first : List ℕ → ℕ → List ℕ → List ℕ
mark_first p k m = set_word m (code_first p k) (1 + k)

unfoldable pub mark_firsts : List ℕ → List ℕ → List ℕ
mark_firsts p m = each_below (mark_first p) (codes p) m

unfoldable pub mark_next : List ℕ → ℕ → List ℕ → List ℕ
mark_next p i m = set_word m (instruction_after p i) (word m (1 + i))

unfoldable pub mark_nexts : List ℕ → List ℕ → List ℕ
mark_nexts p m = each_below (mark_next p) (instructions p) m

-- ---- Homes: in which code is an expression written (array h)? As its whole, which comes before it

unfoldable pub home_of : List ℕ → List ℕ → List ℕ → ℕ → List ℕ → ℕ
home_of o q c x h =
    pick (eqb (word o (1 + x)) 0) (pick (eqb (word q (1 + x)) 0) 0 (word c (word q (1 + x)))) (word h (word o (1 + x)))

unfoldable pub mark_home : List ℕ → List ℕ → List ℕ → ℕ → List ℕ → List ℕ
mark_home o q c x h = set_word h (1 + x) (home_of o q c x h)

unfoldable pub mark_homes : List ℕ → List ℕ → List ℕ → List ℕ → List ℕ → List ℕ
mark_homes p o q c h = each_below (mark_home o q c) (expressions p) h

-- ---- The arrays of program words

unfoldable pub expression_wholes : List ℕ → List ℕ
expression_wholes p = mark_expressions p (replicate 1025 0)

unfoldable pub instruction_wholes : List ℕ → List ℕ
instruction_wholes p = mark_instructions p (replicate 1025 0)

unfoldable pub code_names : List ℕ → List ℕ
code_names p = mark_names p (replicate 129 0)

unfoldable pub instruction_codes : List ℕ → List ℕ
instruction_codes p = mark_nexts p (mark_firsts p (replicate 513 0))

unfoldable pub homes : List ℕ → List ℕ
homes p = mark_homes p (expression_wholes p) (instruction_wholes p) (instruction_codes p) (replicate 1025 0)
