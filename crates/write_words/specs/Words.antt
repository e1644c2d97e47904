-- Document 02, A1: the words of a text that hold no other words, over program words p and literal bytes l. What they are is `framed`'s Writer. Assumes nothing.
use Rattle.std.specs.Prelude.{List, [], ◌∷◌, ℕ, ◌+◌, ◌≤◌, ◌<◌, ℤ, length, get_or}
use Rattle.framed.specs.Tokens.{Token, Fixed}
use Rattle.framed.specs.Tree.{Written}
use Rattle.framed.specs.Paths.{in_code, from_program}
use Rattle.framed.specs.Writer.{word_bytes, led, path_word, written_path, dotted, climbs, one, mark}
use Rattle.tables.specs.Fields.{names, literals, path_names}
use Rattle.program_form.specs.WellFormed.{WellFormed}
use Rattle.trees.specs.Trees.{path_list, operator_of}
use Rattle.trees.specs.Held.{list_from, name_bytes, program_held}

-- the names of the program that p and any literal bytes hold
unfoldable pub name_table : List ℕ → List (List ℕ)
name_table p = list_from (name_bytes p) (names p) 0

-- ---- One word with its space

unfoldable pub integer_text : ℤ → List ℕ
integer_text z = led (one (Token.integer z) ∷ [])

unfoldable pub string_text : List ℕ → List ℕ → ℕ → List ℕ
string_text p l k = led (one (Token.string (get_or (program_held p l).literals k [])) ∷ [])

unfoldable pub operator_text : ℕ → List ℕ
operator_text k = led (mark (Fixed.operator (operator_of k)) ∷ [])

-- a path of the n path names from j on: from the frame itself, and from the program in a place that the frame ns holds
unfoldable pub self_path_text : List ℕ → ℕ → ℕ → List ℕ
self_path_text p j n = led (path_word (name_table p) (Written.self (path_list p n j)) ∷ [])

unfoldable pub program_path_text : List ℕ → List ℕ → ℕ → ℕ → List ℕ
program_path_text p ns j n = led (path_word (name_table p) (written_path (in_code ns) (from_program (path_list p n j))) ∷ [])

-- ---- Parts of a path, without spaces

-- dot and name for the n path names from j on
unfoldable pub names_text : List ℕ → ℕ → ℕ → List ℕ
names_text p j n = word_bytes (dotted (name_table p) (path_list p n j))

-- dot and `^`, k times
unfoldable pub climbs_text : ℕ → List ℕ
climbs_text k = word_bytes (climbs k)

-- ---- What is asked where a name, a literal, a path is read: well-formed program words have it

pub record AtName (p : List ℕ) (k : ℕ) : Type 0 where
  pub literal_bytes : List ℕ
  pub program : WellFormed p literal_bytes
  pub there : k < names p

pub record AtLiteral (p l : List ℕ) (k : ℕ) : Type 0 where
  pub program : WellFormed p l
  pub there : k < literals p

pub record AtPath (p : List ℕ) (j n : ℕ) : Type 0 where
  pub literal_bytes : List ℕ
  pub program : WellFormed p literal_bytes
  pub there : j + n ≤ path_names p

-- words that are bytes, and fit into the buffer from a position on
pub record FitsBytes (m : List ℕ) (at : ℕ) (w : List ℕ) : Type 0 where
  pub fits : at + length w ≤ length m
  pub bytes : (i : ℕ) → i < length w → get_or w i 0 < 256
