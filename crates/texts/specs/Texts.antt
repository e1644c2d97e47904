-- Document 01, "Whole memories" (here: well-formed): the part that reading a text asks for, which well-formed memories have; equal bytes of texts. Assumes nothing.
use Rattle.std.specs.Prelude.{ℕ, ◌+◌, ◌*◌, ◌≤◌, ◌<◌, List, [], Bool, ltb, length, get_or, take, drop}
use Rattle.words.specs.Words.{pick}
use Rattle.framed.specs.Common.{same}
use Rattle.framed.specs.declared.Text.{Text}
use Rattle.framed.specs.Values.{text_bytes}
use Rattle.tables.specs.Fields.{literals, literal_length}
use Rattle.heap.specs.Words.{text_length}

-- the n elements from `from` on, where that is a part
unfoldable pub part_of : List ℕ → ℕ → ℕ → List ℕ
part_of m from n = take n (drop from m)

pub record Inside (m : List ℕ) (from n : ℕ) : Type 0 where
  pub inside : from + n ≤ length m

-- the bytes of every literal lie inside the literal bytes, those of every made text inside the text bytes
pub record LiteralsInside (p l : List ℕ) : Type 0 where
  pub inside : (k : ℕ) → k < literals p → 64 * k + literal_length p k ≤ length l

pub record TextsInside (h t : List ℕ) : Type 0 where
  pub inside : (k : ℕ) → k < 256 → 64 * k + text_length h k ≤ length t

pub record Readable (p l h t : List ℕ) : Type 0 where
  pub literals : LiteralsInside p l
  pub made : TextsInside h t

-- how many bytes a text has: none where there is no such text
unfoldable pub text_size : List ℕ → List ℕ → Text → ℕ
text_size p h (Text.Literal k) = pick (ltb k (literals p)) (literal_length p k) 0
text_size p h (Text.Made k) = pick (ltb k 256) (text_length h k) 0

-- literals k and m have equal bytes
unfoldable pub same_literal_bytes : List (List ℕ) → ℕ → ℕ → Bool
same_literal_bytes lits k m = same (get_or lits k []) (get_or lits m [])

-- two texts of equal bytes
unfoldable pub same_texts : List (List ℕ) → List (List ℕ) → Text → Text → Bool
same_texts lits made x y = same (text_bytes lits made x) (text_bytes lits made y)
