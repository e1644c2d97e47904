-- docs/LAYOUT.md, literal bytes and the lengths of literals: what one string of the source adds to them, and what all strings add. Assumes nothing.
use Rattle.std.specs.Prelude.{◌≡◌, List, ℕ, ◌+◌, ◌-◌, ◌≤◌, length}
use Rattle.std.proofs.Math.Option.{some}
use Rattle.framed.specs.Bytes.{class}
use Rattle.framed.specs.Tokens.{Token, tokens}
use Rattle.framed.specs.Symbols.{literals}
use Rattle.source.specs.Positions.{part}
use Rattle.token.specs.Reading.{TokenAt}
use Rattle.token.specs.declared.TokenRead.{TokenRead}
use Rattle.table_updates.specs.Updates.{set_literal_length}
use Rattle.emission.specs.Emit.{write_literal_lengths, write_literal_bytes, write_literals}

-- words and bytes with a token as literal k, by what stands between its first and its last byte; the same where none was read
unfoldable pub token_length : List ℕ → ℕ → TokenRead → List ℕ → List ℕ
token_length s k TokenRead.End p = p
token_length s k TokenRead.NoToken p = p
token_length s k (TokenRead.Token j a q v) p = set_literal_length p k (length (part s (a + 1) (q - 1)))

unfoldable pub token_bytes : List ℕ → ℕ → TokenRead → List ℕ → List ℕ
token_bytes s k TokenRead.End l = l
token_bytes s k TokenRead.NoToken l = l
token_bytes s k (TokenRead.Token j a q v) l = write_literal_bytes (part s (a + 1) (q - 1)) k 0 l

-- the token at a position is written as literal k
pub record Written (s : List ℕ) (at k : ℕ) (p l p' l' : List ℕ) : Type 0 where
  pub read : TokenRead
  pub found : TokenAt class s at read
  pub words_are : p' ≡ token_length s k read p
  pub bytes_are : l' ≡ token_bytes s k read l

-- where the source is tokens, with at most 128 literals, these are written from 0 on
pub record AllWritten (s p l p' l' : List ℕ) : Type 0 where
  pub words_are : (ts : List Token) → tokens class s ≡ some ts → length (literals ts) ≤ 128 → p' ≡ write_literal_lengths (literals ts) 0 p
  pub bytes_are : (ts : List Token) → tokens class s ≡ some ts → length (literals ts) ≤ 128 → l' ≡ write_literals (literals ts) 0 l
