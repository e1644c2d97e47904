-- Document 01, "The calls" and "Language forms by place": the position of the token reader behind what was read. Assumes nothing.
use Rattle.std.specs.Prelude.{◌≡◌, List, ℕ}
use Rattle.framed.specs.Bytes.{class}
use Rattle.token.specs.Reading.{TokenAt}
use Rattle.token.specs.declared.TokenRead.{TokenRead}
use Rattle.reader.specs.declared.NextToken.{NextToken}

-- the position behind what was read at a position: a token's end, else the same position
unfoldable pub position_after : TokenRead → ℕ → ℕ
position_after TokenRead.End at = at
position_after TokenRead.NoToken at = at
position_after (TokenRead.Token k a p w) at = p

abbrev pub next_token : TokenRead → ℕ → NextToken
next_token k at = record { token = k; at = at }

-- the token at a position, and the position behind it
pub record ReadFrom (s : List ℕ) (at : ℕ) (r : NextToken) : Type 0 where
  pub read : TokenAt class s at r.token
  pub moved : r.at ≡ position_after r.token at
