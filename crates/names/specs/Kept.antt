-- Document 01, "Limits and paths": distinct names. Names are kept by where each begins and ends in the source. Assumes nothing.
use Rattle.std.specs.Prelude.{◌≡◌, List, [], ◌∷◌, ◌++◌, ℕ, zero, suc, ◌+◌, ◌*◌, ◌%◌, ◌<◌, ◌≤◌, eqb, ltb, length}
use Rattle.std.proofs.Math.Option.{some}
use Rattle.framed.specs.Common.{when◌then◌else◌}
use Rattle.framed.specs.Bytes.{class}
use Rattle.framed.specs.Tokens.{Token, tokens}
use Rattle.framed.specs.Symbols.{name_table, number_in}
use Rattle.source.specs.Positions.{part}
use Rattle.words.specs.Words.{word, set_word}
use Rattle.token.specs.Reading.{TokenAt}
use Rattle.token.specs.declared.TokenRead.{TokenRead}
use Rattle.token_cache.specs.Cache.{note_at}

-- the first n names kept
unfoldable pub table_of : List ℕ → List ℕ → List ℕ → ℕ → List (List ℕ)
table_of s begins ends zero = []
table_of s begins ends (suc n) = table_of s begins ends n ++ (part s (word begins n) (word ends n) ∷ [])

-- the hash of bytes
unfoldable pub hash_from : ℕ → List ℕ → ℕ
hash_from h [] = h % 4096
hash_from h (b ∷ w) = hash_from ((h * 37 + b) % 65536) w

unfoldable pub hash_of : List ℕ → ℕ
hash_of w = hash_from 0 w

-- the part from a up to p is name r; where it was none of the first n, it is kept as name n, with a hint
pub record KeptAs (s begins ends hints : List ℕ) (n a p : ℕ) (begins' ends' hints' : List ℕ) (r : ℕ) : Type 0 where
  pub number_is : r ≡ number_in (table_of s begins ends n) (part s a p)
  pub begins_is : begins' ≡ (when eqb r n then set_word begins n a else begins)
  pub ends_is : ends' ≡ (when eqb r n then set_word ends n p else ends)
  pub hints_are : hints' ≡ (when eqb r n then set_word hints (hash_of (part s a p)) (n + 1) else hints)

-- each of the first n names kept has a hint by its hash
pub record Marked (s begins ends hints : List ℕ) (n : ℕ) : Type 0 where
  pub size : length hints ≡ 4096
  pub set : (k : ℕ) → k < n → (word hints (hash_of (part s (word begins k) (word ends k))) ≡ 0 → ⊥)

pub record Few (n : ℕ) : Type 0 where
  pub few : n ≤ 128

-- room for 129 names and their hints
pub record Sized (begins ends hints : List ℕ) : Type 0 where
  pub begins_size : length begins ≡ 129
  pub ends_size : length ends ≡ 129
  pub hints_size : length hints ≡ 4096

-- each of the first n names kept is found at its own number, since no name is kept twice
pub record Numbered (s begins ends : List ℕ) (n : ℕ) : Type 0 where
  pub own : (k : ℕ) → k < n → number_in (table_of s begins ends n) (part s (word begins k) (word ends k)) ≡ k

-- where the source is tokens: the names kept are its name table if it has at most 128 distinct names, and else more than 128 are kept
pub record Kept (s begins ends : List ℕ) (n : ℕ) : Type 0 where
  pub numbered : Numbered s begins ends n
  pub is : (ts : List Token) → tokens class s ≡ some ts → length (name_table ts) ≤ 128 → table_of s begins ends n ≡ name_table ts
  pub many : (ts : List Token) → tokens class s ≡ some ts → ltb 128 n ≡ ltb 128 (length (name_table ts))

-- each note of the cache is 1 and the number of the name that stands there, one of the first n
pub record Leads (c s begins ends : List ℕ) (n : ℕ) : Type 0 where
  pub leads : (at h a p w : ℕ) → note_at c at ≡ suc h → TokenAt class s at (TokenRead.Token 25 a p w) → (h < n) × (part s (word begins h) (word ends h) ≡ part s a p)
