-- Document 01, "Tokens and grammar", what tokens are made of: runs of bytes of a class, reserved words, and the number that digits write.
-- For every class of bytes `c`. Assumes nothing.
use Rattle.std.specs.Prelude.{◌≡◌, Bool, true, List, [], ◌∷◌, ℕ, zero, suc, ◌+◌, ◌*◌, ◌-◌, ◌<◌, ◌≤◌, max, leb, length}
use Rattle.framed.specs.Common.{when◌then◌else◌, bytes, same, after}
use Rattle.framed.specs.Bytes.{Classes, digit, name_byte, string_byte}
use Rattle.source.specs.Positions.{rest, byte}

-- the runs of bytes: 0 string bytes, 1 digits, else letters and digits
unfoldable pub run_test : Classes → ℕ → ℕ → Bool
run_test c zero b = string_byte b
run_test c (suc zero) b = digit c b
run_test c (suc (suc m)) b = name_byte c b

-- a place where a run begins
pub record RunBegins (c : Classes) (s : List ℕ) (m i : ℕ) : Type 0 where
  pub inside : i < length s
  pub begins : run_test c m (byte s i) ≡ true

-- from i on the run ends at j
pub record RunEnds (c : Classes) (s : List ℕ) (m i j : ℕ) : Type 0 where
  pub begins : i ≤ j
  pub inside : j ≤ max i (length s)
  pub rest_is : after (run_test c m) (rest s i) ≡ rest s j

-- the kind of a word: a reserved word's, or 25, a name's
unfoldable pub word_kind : List ℕ → ℕ
word_kind w =
    when same w (bytes "frame") then 0
    else when same w (bytes "code") then 28
    else when same w (bytes "self") then 1
    else when same w (bytes "show") then 2
    else when same w (bytes "jump") then 3
    else when same w (bytes "ifeq") then 4
    else 25

-- `number` of Tokens, which stays as it is once it is above 2147483648: so no sum grows without bound
unfoldable pub pushed : ℕ → ℕ → ℕ
pushed n b = when leb n 2147483648 then n * 10 + (b - 48) else n

unfoldable pub capped : ℕ → List ℕ → ℕ
capped n [] = n
capped n (b ∷ bs) = capped (pushed n b) bs
