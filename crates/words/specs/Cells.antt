-- Reading a memory is the library's reading with 0 past the end.
use Rattle.std.specs.Prelude.{List, ℕ, get_or, ◌≡◌, refl}
use Rattle.words.specs.Words.{word}

pub read_is : (m : List ℕ) (k : ℕ) → word m k ≡ get_or m k 0
unfolding word
read_is m k = refl
