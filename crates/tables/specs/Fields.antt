-- docs/LAYOUT.md, program words and literal bytes: what each field is. `word` is 0 past the end, so every reader is total.
-- A place is 0 for none, or 1 + a number. Assumes nothing.
use Rattle.std.specs.Prelude.{List, ℕ, zero, suc, ◌+◌, ◌*◌, eqb, leb}
use Rattle.words.specs.Words.{pick, word}

-- F, the frame limit
unfoldable pub frame_limit : List ℕ → ℕ
frame_limit p = word p 0

-- T, the made text limit
unfoldable pub text_limit : List ℕ → ℕ
text_limit p = word p 1

-- how many names
unfoldable pub names : List ℕ → ℕ
names p = word p 2

-- how many string literals
unfoldable pub literals : List ℕ → ℕ
literals p = word p 3

-- how many expressions
unfoldable pub expressions : List ℕ → ℕ
expressions p = word p 4

-- how many instructions
unfoldable pub instructions : List ℕ → ℕ
instructions p = word p 5

-- how many code literals
unfoldable pub codes : List ℕ → ℕ
codes p = word p 6

-- how many names in resolved paths
unfoldable pub path_names : List ℕ → ℕ
path_names p = word p 7

-- the place of the first slot of the program frame
unfoldable pub program_slots : List ℕ → ℕ
program_slots p = word p 8

-- the code of Main.start
unfoldable pub start : List ℕ → ℕ
start p = word p 9

-- the length of name k
unfoldable pub name_length : List ℕ → ℕ → ℕ
name_length p k = word p (64 + 17 * k)

-- the length of literal k
unfoldable pub literal_length : List ℕ → ℕ → ℕ
literal_length p k = word p (2240 + k)

-- the place of the first instruction of code k
unfoldable pub code_first : List ℕ → ℕ → ℕ
code_first p k = word p (2368 + k)

-- path name j
unfoldable pub path_name : List ℕ → ℕ → ℕ
path_name p j = word p (2496 + j)

-- instruction i: its kind, its words a, b, c and the link to the next instruction of its code
unfoldable pub instruction_kind : List ℕ → ℕ → ℕ
instruction_kind p i = word p (4544 + 5 * i)

unfoldable pub instruction_a : List ℕ → ℕ → ℕ
instruction_a p i = word p (4545 + 5 * i)

unfoldable pub instruction_b : List ℕ → ℕ → ℕ
instruction_b p i = word p (4546 + 5 * i)

unfoldable pub instruction_c : List ℕ → ℕ → ℕ
instruction_c p i = word p (4547 + 5 * i)

unfoldable pub instruction_link : List ℕ → ℕ → ℕ
instruction_link p i = word p (4548 + 5 * i)

-- expression x: its kind, its words a and b; where it is a slot, its name and the link to the next slot of its frame
unfoldable pub expression_kind : List ℕ → ℕ → ℕ
expression_kind p x = word p (7104 + 5 * x)

unfoldable pub expression_a : List ℕ → ℕ → ℕ
expression_a p x = word p (7105 + 5 * x)

unfoldable pub expression_b : List ℕ → ℕ → ℕ
expression_b p x = word p (7106 + 5 * x)

unfoldable pub slot_name : List ℕ → ℕ → ℕ
slot_name p x = word p (7107 + 5 * x)

unfoldable pub slot_link : List ℕ → ℕ → ℕ
slot_link p x = word p (7108 + 5 * x)

-- byte i of name k
unfoldable pub name_byte : List ℕ → ℕ → ℕ → ℕ
name_byte p k i = word p (65 + 17 * k + i)

-- byte i of literal k
unfoldable pub literal_byte : List ℕ → ℕ → ℕ → ℕ
literal_byte l k i = word l (64 * k + i)

-- the place that the link d of entry x reaches in a table of n entries. A link past the table counts as none: well-formed words have no such link
unfoldable pub link : ℕ → ℕ → ℕ → ℕ
link n x d = pick (eqb d 0) 0 (pick (leb n (x + d)) 0 (1 + x + d))

-- the place of the slot after slot y
unfoldable pub slot_after : List ℕ → ℕ → ℕ
slot_after p y = link 1024 y (slot_link p y)

-- the place after a place along the slots of a frame; the end stays the end
unfoldable pub follow_slot : List ℕ → ℕ → ℕ
follow_slot p zero = 0
follow_slot p (suc y) = slot_after p y

-- the place j slots after the place z
unfoldable pub slot_walk : List ℕ → ℕ → ℕ → ℕ
slot_walk p z zero = z
slot_walk p z (suc j) = follow_slot p (slot_walk p z j)

-- the place of the instruction after instruction i in its code
unfoldable pub instruction_after : List ℕ → ℕ → ℕ
instruction_after p i = link 512 i (instruction_link p i)

-- the place after a place along the instructions of a code; the end stays the end
unfoldable pub follow_instruction : List ℕ → ℕ → ℕ
follow_instruction p zero = 0
follow_instruction p (suc i) = instruction_after p i

-- the place j instructions after the place z
unfoldable pub instruction_walk : List ℕ → ℕ → ℕ → ℕ
instruction_walk p z zero = z
instruction_walk p z (suc j) = follow_instruction p (instruction_walk p z j)
