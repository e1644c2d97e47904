-- docs/LAYOUT.md, program words, names: the names kept of a source, and the number of a name. Assumes nothing.
use Rattle.std.specs.Prelude.{◌≡◌, List, ◌∷◌, ℕ, length}
use Rattle.std.proofs.Props.{props}
use Rattle.framed.specs.Bytes.{class}
use Rattle.framed.specs.Tokens.{Token, Tokens⊢}
use Rattle.framed.specs.Symbols.{number_in}
use Rattle.source.specs.Positions.{rest, part}
use Rattle.words.specs.Words.{word}
use Rattle.token.specs.Reading.{TokenAt}
use Rattle.token.specs.declared.TokenRead.{TokenRead}
use Rattle.token_cache.specs.Cache.{Cached}
use Rattle.token_cache.specs.Single.{Cached-prop}
use Rattle.table_updates.specs.Updates.{set_name_length}
use Rattle.emission.specs.Emit.{write_name_bytes}
use Rattle.names.specs.Kept.{table_of, Numbered, Leads}

-- where a name stands at the position, the answer is its number among the first n names kept
pub record NumberAt (s begins ends : List ℕ) (n at r : ℕ) : Type 0 where
  pub is : (w : List ℕ) (ts : List Token) → Tokens⊢ class (rest s at) (Token.name w ∷ ts) → r ≡ number_in (table_of s begins ends n) w

-- tokens can be read from the cache, and names looked up by a note or a hint
pub record Ready (c s begins ends : List ℕ) (n : ℕ) : Type 0 where
  pub cached : Cached c s
  pub numbered : Numbered s begins ends n
  pub led : Leads c s begins ends n

pub Ready-prop : (c s begins ends : List ℕ) (n : ℕ) → IsProp (Ready c s begins ends n)
Ready-prop c s begins ends n = Prim.hlevel (props, Cached-prop)

-- a name stands at the position, from a up to p
pub record NameAt (s : List ℕ) (at a p : ℕ) : Type 0 where
  pub value : ℕ
  pub read : TokenAt class s at (TokenRead.Token 25 a p value)

-- name k of the names kept, written as name k of the program words
unfoldable pub write_kept : List ℕ → List ℕ → List ℕ → ℕ → List ℕ → List ℕ
write_kept s begins ends k p =
    let w = part s (word begins k) (word ends k) in
    set_name_length (write_name_bytes w k 0 p) k (length w)
