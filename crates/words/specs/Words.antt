-- A lent memory as a list of numbers: the word or byte at a place, the memory with another one there, and a test of every number below a bound.
-- Nothing here is about Framed; the layout of the memories is in the crates above. Assumes nothing.
use Rattle.std.specs.Prelude.{Bool, true, false, ◌&&◌, List, ℕ, zero, suc, get_or, set}

-- the first where the test holds, else the second
abbrev pub pick : {A : Type 0} → Bool → A → A → A
pick true a b = a
pick false a b = b

-- what stands at k, 0 past the end
unfoldable pub word : List ℕ → ℕ → ℕ
word m k = get_or m k 0

-- the memory with v at k, the same memory where k is past the end
unfoldable pub set_word : {A : Type 0} → List A → ℕ → A → List A
set_word m k v = set m k v

-- every number below n passes the test
unfoldable pub all_below : (ℕ → Bool) → ℕ → Bool
all_below t zero = true
all_below t (suc n) = all_below t n && t n
