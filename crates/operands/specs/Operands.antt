-- Document 01, "The endless machine", step 2: the value of a base, over program words p and heap words h. Assumes nothing.
use Rattle.std.specs.Prelude.{ℕ, ◌+◌, ◌-◌, ◌*◌, ◌/◌, ◌%◌, ◌≤◌, ◌≡◌, List, [], ◌∷◌, length, eqb, ltb, leb, Option, Some, None}
use Rattle.words.specs.Words.{pick, word}
use Rattle.framed.specs.declared.Value.{Value}
use Rattle.framed.specs.Machine.{Result, base_value}
use Rattle.tables.specs.Fields.{expression_kind, expression_a, expression_b}
use Rattle.heap.specs.Words.{value_of, frame_used, slot_count_at, self_held, program_held}
use Rattle.heap.specs.Held.{slots_held, frames_held}
use Rattle.paths.specs.Paths.{slot_from, path_held}
use Rattle.trees.specs.Held.{base_held}

-- of expression x, read as a base
unfoldable pub operand_value : List ℕ → List ℕ → ℕ → Result Value
operand_value p h x = base_value (self_held h) (program_held h) (frames_held h) (base_held p x)

-- what a number stands for: the value whose tag is the number modulo 8 and whose number is the rest; 5 is undefined
unfoldable pub unpacked : ℕ → Option Value
unpacked n = pick (eqb n 5) None (Some (value_of (n % 8) (n / 8 % 4294967296)))

-- the place of a slot of a frame whose slots stand from place a on, 0 where there is none
unfoldable pub place_of : ℕ → Option ℕ → ℕ
place_of a (Some i) = a + 3 * i
place_of a None = 0

-- r is the place of the slot with the name x, where the n slots from place a on are those of a frame
pub record Placed (h : List ℕ) (a n x r : ℕ) : Type 0 where
  pub inside : r ≤ a + 3 * n
  pub place : (f : ℕ) → a ≡ 131 + 51 * f → n ≡ slot_count_at h f → r ≡ place_of a (slot_from (slots_held h f) x 0)

-- ---- Read with one test for many. 6 says that it was not read so, and then every word is tested

-- the place of the slot with the name x of frame f, 0 where there is none
unfoldable pub place_in : List ℕ → ℕ → ℕ → ℕ
place_in h f x = place_of (131 + 51 * f) (slot_from (slots_held h f) x 0)

-- Fetch along the names from the value with the tag and the number f: the value as a number, 5 where it is undefined; 6 where a frame on the way has more than 16 slots or the value a tag above 4
unfoldable pub walk_number : List ℕ → ℕ → ℕ → List ℕ → ℕ
walk_number h tag f [] = pick (leb tag 4) (f * 8 + tag) 6
walk_number h tag f (x ∷ xs) =
    let k = place_in h f x in
    let r = walk_number h (word h (k + 1)) (word h (k + 2)) xs in
    pick (ltb tag 4) 5 (pick (leb 256 f) 5 (pick (frame_used h f) (pick (leb (slot_count_at h f) 16) (pick (eqb k 0) 5 r) 6) 5))

-- from the value at place root along the n path names from j on
unfoldable pub path_number : List ℕ → List ℕ → ℕ → ℕ → ℕ → ℕ
path_number p h root j n = walk_number h (word h root) (word h (root + 1)) (path_held p j n)

-- of an entry with this kind and these words
unfoldable pub entry_number : List ℕ → List ℕ → ℕ → ℕ → ℕ → ℕ
entry_number p h kind a b =
    pick (ltb kind 2) (a * 8 + kind)
    (pick (ltb kind 4) (pick (leb (a + b) 2048) (path_number p h (2 * kind - 4) a b) 6)
    (pick (eqb kind 4) (a * 8 + 3) 0))

-- of expression x: 6 also where a memory has not its length, x is no number of an entry, or its path does not lie among the path names
unfoldable pub quick_number : List ℕ → List ℕ → ℕ → ℕ
quick_number p h x =
    pick (eqb (length p) 16384)
    (pick (eqb (length h) 16384) (pick (ltb x 1024) (entry_number p h (expression_kind p x) (expression_a p x) (expression_b p x)) 6) 6)
    6

-- the n words of p from place j on are path names, and there is a value at place root of h
pub record AtPath (p h : List ℕ) (root j n : ℕ) : Type 0 where
  pub heap_size : length h ≡ 16384
  pub root_inside : root ≤ 2
  pub names_start : 2496 ≤ j
  pub names_inside : j + n ≤ length p
