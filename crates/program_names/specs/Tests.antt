-- Document 01, whole memories (well-formed): the tests of limits, names and literals that the code computes. `proofs/Decides.antt` ties them to `Form`.
-- Assumes nothing.
use Rattle.std.specs.Prelude.{Bool, not, ◌&&◌, ◌||◌, List, ℕ, eqb, leb, ltb}
use Rattle.words.specs.Words.{all_below}
use Rattle.framed.specs.Bytes.{string_byte}
use Rattle.tables.specs.Fields.{frame_limit, text_limit, names, literals, expressions, instructions, codes, path_names, start}
use Rattle.tables.specs.Fields.{name_length, name_byte, literal_length, literal_byte, path_name}

unfoldable pub limits_ok : List ℕ → Bool
limits_ok p =
    leb 3 (frame_limit p) && leb (frame_limit p) 256 && leb (text_limit p) 256 && leb (names p) 128 && leb (literals p) 128
    && leb (expressions p) 1024 && leb (instructions p) 512 && leb (codes p) 128 && leb (path_names p) 2048 && ltb (start p) (codes p)

-- ---- Names
unfoldable pub name_byte_ok : List ℕ → ℕ → ℕ → Bool
name_byte_ok p k i = ltb (name_byte p k i) 256 || leb (name_length p k) i

unfoldable pub name_bytes_ok : List ℕ → ℕ → Bool
name_bytes_ok p k = all_below (name_byte_ok p k) 16

unfoldable pub same_byte : List ℕ → ℕ → ℕ → ℕ → Bool
same_byte p k j i = eqb (name_byte p k i) (name_byte p j i) || leb (name_length p k) i

unfoldable pub same_bytes : List ℕ → ℕ → ℕ → Bool
same_bytes p k j = all_below (same_byte p k j) 16

unfoldable pub names_differ : List ℕ → ℕ → ℕ → Bool
names_differ p k j = not (eqb (name_length p k) (name_length p j) && same_bytes p k j)

-- no name before k is name k
unfoldable pub new_name : List ℕ → ℕ → Bool
new_name p k = all_below (names_differ p k) k

unfoldable pub name_ok : List ℕ → ℕ → Bool
name_ok p k = leb 1 (name_length p k) && leb (name_length p k) 16 && name_bytes_ok p k && new_name p k

unfoldable pub names_ok : List ℕ → Bool
names_ok p = all_below (name_ok p) (names p)

-- ---- Literals
unfoldable pub literal_byte_ok : List ℕ → List ℕ → ℕ → ℕ → Bool
literal_byte_ok p l k i = string_byte (literal_byte l k i) || leb (literal_length p k) i

unfoldable pub literal_bytes_ok : List ℕ → List ℕ → ℕ → Bool
literal_bytes_ok p l k = all_below (literal_byte_ok p l k) 64

unfoldable pub literal_ok : List ℕ → List ℕ → ℕ → Bool
literal_ok p l k = leb (literal_length p k) 64 && literal_bytes_ok p l k

unfoldable pub literals_ok : List ℕ → List ℕ → Bool
literals_ok p l = all_below (literal_ok p l) (literals p)

-- ---- Paths
unfoldable pub path_name_ok : List ℕ → ℕ → Bool
path_name_ok p j = ltb (path_name p j) (names p)

unfoldable pub path_names_ok : List ℕ → Bool
path_names_ok p = all_below (path_name_ok p) (path_names p)

-- ---- All of it
unfoldable pub texts_ok : List ℕ → List ℕ → Bool
texts_ok p l = names_ok p && literals_ok p l && path_names_ok p
