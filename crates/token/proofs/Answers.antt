-- What `TokenAt` says to a caller: the tokens from the position on, where a token stands, and that less is left after it.
-- For every class of bytes `c`. Assumes nothing.
use mathlib.Core.Path.{◌≡◌, ap, ◌∙◌}
use mathlib.Core.List.{List, []}
use mathlib.Core.Option.{none, some}
use Prim.Native.Nat.{ℕ, ◌-◌, ◌<◌}
use native.Mathlib.Omega.{arith}
use lib.ListN.{length}
use Rattle.framed.specs.Bytes.{Classes}
use Rattle.framed.specs.Tokens.{tokens, prepend}
use Rattle.framed.proofs.TokensExact.{tokens_step, tokens_end, tokens_none}
use Rattle.source.specs.Positions.{rest}
use Rattle.token.specs.Reading.{token_of, meant, Spot, Within, within, TokenAt}
use Rattle.token.specs.declared.TokenRead.{TokenRead}

-- an answer without a token is none with one
pub end≢token_read : {k a p w : ℕ} → TokenRead.End ≡ TokenRead.Token k a p w → ⊥
end≢token_read e = let z : ◌≡◌ {A = ℕ} 0 1 = cc in omega arith

pub no_token≢token_read : {k a p w : ℕ} → TokenRead.NoToken ≡ TokenRead.Token k a p w → ⊥
no_token≢token_read e = let z : ◌≡◌ {A = ℕ} 0 1 = cc in omega arith

-- the tokens from the position on

module _ (c : Classes) (s : List ℕ) (at : ℕ) (r : TokenRead) (found : TokenAt c s at r) where
  pub tokens_at_end : r ≡ TokenRead.End → tokens c (rest s at) ≡ some []
  unfolding meant
  tokens_at_end e = tokens_end c (rest s at) (found.says ∙ ap (meant s) e)

  pub tokens_at_none : r ≡ TokenRead.NoToken → tokens c (rest s at) ≡ none
  unfolding meant
  tokens_at_none e = tokens_none c (rest s at) (found.says ∙ ap (meant s) e)

  pub tokens_at_token : (k a p w : ℕ) → r ≡ TokenRead.Token k a p w → tokens c (rest s at) ≡ prepend (token_of s k a p w) (tokens c (rest s p))
  unfolding meant
  tokens_at_token k a p w e = tokens_step c (rest s at) (rest s p) (token_of s k a p w) (found.says ∙ ap (meant s) e)

-- where a token that was read stands
pub spot_of : {at len k a p w : ℕ} (r : TokenRead) → Within at len r → r ≡ TokenRead.Token k a p w → Spot at len k a p
spot_of TokenRead.End x e = absurd (end≢token_read e)
spot_of TokenRead.NoToken x e = absurd (no_token≢token_read e)
spot_of {k = k} {a = a} {p = p} (TokenRead.Token k' a' p' w') (within h) e =
    let ek : k' ≡ k = cc in
    let ea : a' ≡ a = cc in
    let ep : p' ≡ p = cc in
    rw (← ek, ← ea, ← ep) h

-- less is left after a token
pub token_less : (c : Classes) (s : List ℕ) (at : ℕ) (r : TokenRead) → TokenAt c s at r → (k a p w : ℕ) → r ≡ TokenRead.Token k a p w → at < length s → length s - p < length s - at
token_less c s at r found k a p w e l = let h = spot_of r found.on e in omega (arith, h.begins, h.more)
