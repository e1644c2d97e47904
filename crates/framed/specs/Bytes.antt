-- Document 01, "Tokens and grammar", first paragraph: every byte has one class.
-- The code has the classes as a constant table of 256 entries; here they are by rule. What reads tokens takes the classes as a parameter.
-- Assumes nothing.
use Rattle.std.specs.Prelude.{Bool, ◌||◌, ◌&&◌, not, List, [], ◌∷◌, ℕ, eqb}
use Rattle.framed.specs.Common.{when◌then◌else◌, bytes, is, between, member}

-- the rule of each class
abbrev pub space_bytes : List ℕ
space_bytes = 9 ∷ 10 ∷ 13 ∷ 32 ∷ []

unfoldable pub mark_bytes : List ℕ
mark_bytes = bytes ":=.^!+-*/<#&|;,[]{}\""

abbrev pub in_letters : ℕ → Bool
in_letters b = between 65 90 b || between 97 122 b || is "_" b

abbrev pub in_digits : ℕ → Bool
in_digits b = between 48 57 b

-- 1 space, 2 letter, 3 digit, 4 mark, 0 the rest
unfoldable pub class : ℕ → ℕ
class b =
    when member b space_bytes then 1
    else when in_letters b then 2
    else when in_digits b then 3
    else when member b mark_bytes then 4
    else 0

-- a class for each byte, and the tests that reading tokens makes by it
abbrev pub Classes : Type 0
Classes = ℕ → ℕ

abbrev pub space : Classes → ℕ → Bool
space c b = eqb (c b) 1

abbrev pub letter : Classes → ℕ → Bool
letter c b = eqb (c b) 2

abbrev pub digit : Classes → ℕ → Bool
digit c b = eqb (c b) 3

-- a byte that goes on with a name
abbrev pub name_byte : Classes → ℕ → Bool
name_byte c b = letter c b || digit c b

-- a byte that may stand in a string: 32 to 126, without `"`
abbrev pub string_byte : ℕ → Bool
string_byte b = between 32 126 b && not (is "\"" b)

unfoldable pub Bytes : Type 0
unfolding mark_bytes class
Bytes = ℕ
