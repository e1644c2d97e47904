-- docs/LAYOUT.md, program words and literal bytes: the string literals that they hold. Assumes nothing.
use Rattle.std.specs.Prelude.{ℕ, List}
use Rattle.tables.specs.Fields.{literals, literal_length, literal_byte}
use Rattle.heap.specs.Lists.{listed}

-- the bytes of literal k
unfoldable pub literal_held : List ℕ → List ℕ → ℕ → List ℕ
literal_held p l k = listed (literal_byte l k) (literal_length p k)

unfoldable pub literals_held : List ℕ → List ℕ → List (List ℕ)
literals_held p l = listed (literal_held p l) (literals p)
