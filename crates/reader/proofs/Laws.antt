-- What was read goes with a position part by part. What `ReadFrom` says to a caller where a token was read: the position is its end, and less is left after it.
-- Assumes nothing.
use mathlib.Core.Path.{◌≡◌, ap, subst, sym, ◌∙◌}
use mathlib.Core.List.{List}
use Prim.Native.Nat.{ℕ, ◌-◌, ◌<◌}
use lib.ListN.{length}
use Rattle.framed.specs.Bytes.{class}
use Rattle.token.specs.declared.TokenRead.{TokenRead}
use Rattle.token.proofs.Answers.{token_less}
use Rattle.reader.specs.Position.{position_after, next_token, ReadFrom}
use Rattle.reader.specs.declared.NextToken.{NextToken}

pub as_next : (k x : TokenRead) (at : ℕ) → k ≡ x → ◌≡◌ {A = NextToken} (record { token = x; at = at }) (next_token k at)
as_next k x at h = ap (λ y. next_token y at) (sym h)

module _ (s : List ℕ) (at : ℕ) (r : NextToken) (found : ReadFrom s at r) (k a p w : ℕ) (h : r.token ≡ TokenRead.Token k a p w) where
  pub behind_token : r.at ≡ p
  unfolding position_after
  behind_token = found.moved ∙ ap (λ x. position_after x at) h

  pub read_less : at < length s → length s - r.at < length s - at
  read_less l = subst (λ x. length s - x < length s - at) (sym behind_token) (token_less class s at r.token found.read k a p w h l)
