-- Document 01, whole memories (well-formed): how the code finds out that names are distinct. Each name has a key, a number made of its length and bytes;
-- names are compared only where keys are the same. `proofs/Keys.antt` ties the tests to those of `Tests`. Assumes nothing.
use Rattle.std.specs.Prelude.{Bool, not, ◌&&◌, ◌||◌, List, ℕ, zero, suc, ◌+◌, ◌*◌, ◌%◌, eqb, leb, ltb}
use Rattle.words.specs.Words.{pick, word, all_below}
use Rattle.tables.specs.Fields.{name_length, name_byte}
use Rattle.program_names.specs.Tests.{new_name}

-- the key of name k after i of its bytes
unfoldable pub key_upto : List ℕ → ℕ → ℕ → ℕ
key_upto p k zero = name_length p k % 65536
key_upto p k (suc i) = key_upto p k i % 16777216 * 37 + name_byte p k i % 65536

-- how many bytes of name k are read
unfoldable pub key_bytes : List ℕ → ℕ → ℕ
key_bytes p k = pick (ltb (name_length p k) 16) (name_length p k) 16

unfoldable pub name_key : List ℕ → ℕ → ℕ
name_key p k = key_upto p k (key_bytes p k)

unfoldable pub other_key : List ℕ → ℕ → ℕ → Bool
other_key keys x j = not (eqb (word keys j) x)

-- none of the first n keys is x
unfoldable pub other_keys : List ℕ → ℕ → ℕ → Bool
other_keys keys n x = all_below (other_key keys x) n

unfoldable pub is_new : List ℕ → List ℕ → ℕ → ℕ → Bool
is_new p keys k x = (leb k 128 && other_keys keys k x) || new_name p k

-- `plain`: the bytes of name k are bytes
unfoldable pub name_ok_by : List ℕ → List ℕ → ℕ → Bool → ℕ → Bool
name_ok_by p keys k plain x = leb 1 (name_length p k) && leb (name_length p k) 16 && plain && is_new p keys k x
