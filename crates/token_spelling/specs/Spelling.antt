-- Document 01, "Tokens and grammar", and document 02, A1: a token that is spelled is read again where a space, a dot or nothing follows, and words with a space
-- between neighbours are read in their tokens; by any classes that are `Lawful`. Assumes nothing.
use Rattle.std.specs.Prelude.{◌≡◌, Bool, true, ◌||◌, List, [], ◌∷◌, ◌++◌, ℕ, ◌≤◌, ◌+◌, ℤ, eqb, length}
use Rattle.framed.specs.Common.{bytes, member}
use Rattle.framed.specs.Bytes.{Classes, class, digit}
use Rattle.framed.specs.Tokens.{Token, Fixed, Read, next, in_range, Tokens⊢}
use Rattle.framed.specs.Writer.{Word, token_bytes, parted, joined_words}

-- ---- Classes

-- the letters of the reserved words
abbrev pub reserved_letters : List ℕ
reserved_letters = bytes "framecodselfshowjumpifeq"

-- bytes whose class is the constant one: spaces, digits, marks, and these letters
unfoldable pub has_constant_class : ℕ → Bool
has_constant_class b = eqb (class b) 1 || eqb (class b) 3 || eqb (class b) 4 || member b reserved_letters

-- classes that are the constant ones there; and no other byte is a digit, since it would stand for a number above 9
pub record Lawful (c : Classes) : Type 0 where
  pub constant : (b : ℕ) → has_constant_class b ≡ true → c b ≡ class b
  pub digits : (b : ℕ) → digit c b ≡ true → digit class b ≡ true

-- the constant classes are
abbrev pub ConstantLawful : Type 0
ConstantLawful = Lawful class

-- ---- Tokens

-- a token ends where a space, a dot or nothing follows
pub data Stops : List ℕ → Type 0 where
  at_end : Stops []
  at_space : {bs : List ℕ} → Stops (32 ∷ bs)
  at_dot : {bs : List ℕ} → Stops (46 ∷ bs)

module _ (c : Classes) where
  -- spelled, then read again
  abbrev pub Back : Token → Type 0
  Back t = (more : List ℕ) → Stops more → next c (token_bytes t ++ more) ≡ Read.token t more

  -- words: one token, or tokens with a dot between each two
  pub data WordBack : Word → Type 0 where
    last : {t : Token} → Back t → WordBack (t ∷ [])
    dotted : {t u : Token} {w : Word} → Back t → Back u → WordBack (u ∷ w) → WordBack (t ∷ Token.fixed Fixed.dot ∷ u ∷ w)

  pub data WordsBack : List Word → Type 0 where
    none : WordsBack []
    more : {w : Word} {ws : List Word} → WordBack w → WordsBack ws → WordsBack (w ∷ ws)

-- ---- What is proved, for every lawful classes

abbrev pub FixedBack : Type 0
FixedBack = (c : Classes) → Lawful c → (f : Fixed) → Back c (Token.fixed f)

abbrev pub CodeBack : Type 0
CodeBack = (c : Classes) → Lawful c → Back c Token.code

abbrev pub IntegerBack : Type 0
IntegerBack = (c : Classes) → Lawful c → (z : ℤ) → in_range z ≡ true → Back c (Token.integer z)

-- every token that reading gave, and with no more bytes than it was read from
abbrev pub ReadBack : Type 0
ReadBack = (c : Classes) → Lawful c → (bs rest : List ℕ) (t : Token) → next c bs ≡ Read.token t rest → Back c t

abbrev pub ReadShort : Type 0
ReadShort = (c : Classes) → Lawful c → (bs rest : List ℕ) (t : Token) → next c bs ≡ Read.token t rest →
    length (token_bytes t) + length rest ≤ length bs

abbrev pub WordsRead : Type 0
WordsRead = (c : Classes) → Lawful c → (ws : List Word) → WordsBack c ws → Tokens⊢ c (parted ws) (joined_words ws)
