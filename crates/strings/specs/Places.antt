-- Document 01, "Tokens and grammar": the string literals of a source, by the positions at which they were read. Assumes nothing.
use Rattle.std.specs.Prelude.{◌≡◌, List, [], ℕ, ◌+◌, ◌<◌, eqb, length, get_or}
use Rattle.std.proofs.Math.Option.{some}
use Rattle.framed.specs.Common.{when◌then◌else◌}
use Rattle.framed.specs.Bytes.{class}
use Rattle.framed.specs.Tokens.{Token, token, next, tokens}
use Rattle.framed.specs.Symbols.{literals}
use Rattle.source.specs.Positions.{rest}
use Rattle.words.specs.Words.{word, set_word}

pub record Counted (m : ℕ) : Type 0 where
  pub few : m < 16384

-- a token of kind k, read at `at`; where it is a string, it is number m
pub record Stored (places : List ℕ) (m at k : ℕ) (places' : List ℕ) (r : ℕ) : Type 0 where
  pub places_are : places' ≡ (when eqb k 27 then set_word places m at else places)
  pub count_is : r ≡ (when eqb k 27 then m + 1 else m)

-- the token at a position is a string of the bytes w
pub record StringAt (s : List ℕ) (at : ℕ) (w : List ℕ) : Type 0 where
  pub left : List ℕ
  pub is : next class (rest s at) ≡ token (Token.string w) left

-- where the source is tokens: m is how many literals it has, and literal k was read at place k, for the first 129
pub record Placed (s places : List ℕ) (m : ℕ) : Type 0 where
  pub count : (ts : List Token) → tokens class s ≡ some ts → m ≡ length (literals ts)
  pub strings : (ts : List Token) → tokens class s ≡ some ts → (k : ℕ) → k < m → k < 129 → StringAt s (word places k) (get_or (literals ts) k [])
