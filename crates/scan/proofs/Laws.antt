-- Laws of the scan of tokens. For every class of bytes `c`. Assumes nothing.
use mathlib.Core.Path.{◌≡◌, refl, sym, ap, ◌∙◌, subst}
use mathlib.Core.Bool.{Bool, true, false}
use mathlib.Core.List.{List, []}
use mathlib.Core.Option.{Option, none, some}
use Prim.Native.Nat.{ℕ, zero, suc, pred, max, ◌+◌, ◌-◌, ◌<◌, ◌≤◌}
use native.Mathlib.Omega.{arith}
use lib.Dec.{eqb}
use lib.ListN.{length}
use borrow.Author.Tests.{ne_eqb, lt-ltb, le-ltb}
use Rattle.framed.specs.Common.{when◌then◌else◌}
use Rattle.framed.specs.Tokens.{Token, Fixed, Operator, tokens, highest_nesting, open_after, next, read, skip, prepend, end}
use Rattle.framed.specs.Bytes.{Classes, class}
use Rattle.framed.proofs.TokensExact.{tokens_end}
use Rattle.source.specs.Positions.{rest}
use Rattle.source.proofs.Positions.{rest_end}
use Rattle.token.specs.Reading.{operator_kind, fixed_kind, token_kind, token_of, TokenAt, Spot}
use Rattle.token.specs.declared.TokenRead.{TokenRead}
use Rattle.token.proofs.KindNumbers.{kind_is}
use Rattle.token.proofs.Answers.{spot_of, tokens_at_end, tokens_at_none, tokens_at_token}
use Rattle.token_cache.specs.Cache.{Cached, CanEnd}
use Rattle.scan.specs.Scan.{nesting_refusal, tokens_refusal, depth_after, last_refusal, NotHuge}

less_one : (n : ℕ) → pred n ≡ n - 1
less_one zero = refl
less_one (suc n) = omega arith

-- a token opens or closes as its kind says
opens : (n : ℕ) (t : Token) → open_after n t ≡ depth_after n (token_kind t)
unfolding open_after depth_after token_kind fixed_kind operator_kind
opens n (Token.name w) = refl
opens n (Token.integer z) = refl
opens n (Token.string w) = refl
opens n Token.code = refl
opens n (Token.fixed Fixed.frame) = refl
opens n (Token.fixed Fixed.self) = refl
opens n (Token.fixed Fixed.show) = refl
opens n (Token.fixed Fixed.jump) = refl
opens n (Token.fixed Fixed.ifeq) = refl
opens n (Token.fixed Fixed.colon) = refl
opens n (Token.fixed Fixed.assign) = refl
opens n (Token.fixed Fixed.dot) = refl
opens n (Token.fixed Fixed.up) = refl
opens n (Token.fixed Fixed.bang) = refl
opens n (Token.fixed Fixed.semicolon) = refl
opens n (Token.fixed Fixed.comma) = refl
opens n (Token.fixed Fixed.open_square) = omega arith
opens n (Token.fixed Fixed.close_square) = less_one n
opens n (Token.fixed Fixed.open_curly) = omega arith
opens n (Token.fixed Fixed.close_curly) = less_one n
opens n (Token.fixed (Fixed.operator Operator.plus)) = refl
opens n (Token.fixed (Fixed.operator Operator.minus)) = refl
opens n (Token.fixed (Fixed.operator Operator.times)) = refl
opens n (Token.fixed (Fixed.operator Operator.over)) = refl
opens n (Token.fixed (Fixed.operator Operator.less)) = refl
opens n (Token.fixed (Fixed.operator Operator.join)) = refl
opens n (Token.fixed (Fixed.operator Operator.equal)) = refl
opens n (Token.fixed (Fixed.operator Operator.and)) = refl
opens n (Token.fixed (Fixed.operator Operator.or)) = refl

module _ (n k : ℕ) where
  pub open_square : k ≡ 12 → n + 1 ≡ depth_after n k
  unfolding depth_after
  open_square e = rw e

  pub open_curly : (k ≡ 12 → ⊥) → k ≡ 14 → n + 1 ≡ depth_after n k
  unfolding depth_after
  open_curly f e = rw e

  pub close_square : (r : ℕ) → r ≡ n - 1 → (k ≡ 12 → ⊥) → (k ≡ 14 → ⊥) → k ≡ 13 → r ≡ depth_after n k
  unfolding depth_after
  close_square r h f g e = rw e h

  pub close_curly : (r : ℕ) → r ≡ n - 1 → (k ≡ 12 → ⊥) → (k ≡ 14 → ⊥) → (k ≡ 13 → ⊥) → k ≡ 15 → r ≡ depth_after n k
  unfolding depth_after
  close_curly r h f g i e = rw e h

  pub no_bracket : (k ≡ 12 → ⊥) → (k ≡ 14 → ⊥) → (k ≡ 13 → ⊥) → (k ≡ 15 → ⊥) → n ≡ depth_after n k
  unfolding depth_after
  no_bracket f g i e = rw (ne_eqb k 12 f, ne_eqb k 14 g, ne_eqb k 13 i, ne_eqb k 15 e)

pub verdict_five : (high n m : ℕ) → m ≡ max high n → 16 < m → 5 ≡ last_refusal high n
unfolding last_refusal
verdict_five high n m e l = rw (← e, lt-ltb 16 m l)

pub verdict_fine : (high n m : ℕ) → m ≡ max high n → m ≤ 16 → 0 ≡ last_refusal high n
unfolding last_refusal
verdict_fine high n m e l = rw (← e, le-ltb 16 m l)

-- what is left gives the refusal of the whole
pub record Scanning (c : Classes) (s : List ℕ) (at n high : ℕ) : Type 0 where
  pub few : n ≤ at
  pub rest_is : nesting_refusal high n (tokens c (rest s at)) ≡ tokens_refusal (tokens c s)

start_is : (o : Option (List Token)) → nesting_refusal 0 0 o ≡ tokens_refusal o
unfolding nesting_refusal tokens_refusal
start_is none = refl
start_is (some ts) = rw (zero_max (highest_nesting 0 ts))
  where
    zero_max : (n : ℕ) → max 0 n ≡ n
    zero_max n = omega arith

pub scan_start : (c : Classes) (s : List ℕ) → Scanning c s 0 0 0
unfolding rest
scan_start c s = record { few = omega arith; rest_is = start_is (tokens c s) }

step_is : (high n : ℕ) (t : Token) (o : Option (List Token)) → nesting_refusal high n (prepend t o) ≡ nesting_refusal (max high n) (open_after n t) o
unfolding nesting_refusal prepend highest_nesting
step_is high n t none = refl
step_is high n t (some ts) = rw (max_three high n (highest_nesting (open_after n t) ts))
  where
    max_three : (a b c : ℕ) → max a (max b c) ≡ max (max a b) c
    max_three a b c = omega arith

pub depth_small : (n k : ℕ) → depth_after n k ≤ n + 1
unfolding depth_after
depth_small n k = go (eqb k 12) (eqb k 14) (eqb k 13) (eqb k 15)
  where
    go : (t u v w : Bool) → (when t then n + 1 else when u then n + 1 else when v then n - 1 else when w then n - 1 else n) ≤ n + 1
    go true u v w = omega arith
    go false true v w = omega arith
    go false false true w = omega arith
    go false false false true = omega arith
    go false false false false = omega arith

module _ (c : Classes) (s : List ℕ) (at n high : ℕ) (i : Scanning c s at n high) (r : TokenRead) (found : TokenAt c s at r) where
  pub scan_end : (x : ℕ) → x ≡ last_refusal high n → r ≡ TokenRead.End → x ≡ tokens_refusal (tokens c s)
  unfolding nesting_refusal highest_nesting last_refusal
  scan_end x e f = e ∙ ap (nesting_refusal high n) (sym (tokens_at_end c s at r found f)) ∙ i.rest_is

  pub scan_four : r ≡ TokenRead.NoToken → 4 ≡ tokens_refusal (tokens c s)
  unfolding nesting_refusal
  scan_four f = ap (nesting_refusal high n) (sym (tokens_at_none c s at r found f)) ∙ i.rest_is

  module _ (k a p w : ℕ) (f : r ≡ TokenRead.Token k a p w) where
    spot : Spot at (length s) k a p
    spot = spot_of r found.on f

    depth_is : open_after n (token_of s k a p w) ≡ depth_after n k
    depth_is = opens n (token_of s k a p w) ∙ ap (depth_after n) (kind_is s a p w k spot.known)

    pub scan_again : (n' high' : ℕ) → n' ≡ depth_after n k → high' ≡ max high n → Scanning c s p n' high'
    scan_again n' high' e h = record {
      few = rw e (omega (arith, depth_small n k, i.few, spot.begins, spot.more));
      rest_is = rw (e, h, ← depth_is) (sym (step_is high n (token_of s k a p w) (tokens c (rest s p)))
          ∙ ap (nesting_refusal high n) (sym (tokens_at_token c s at r found k a p w f)) ∙ i.rest_is);
    }

module _ (c : Classes) (s : List ℕ) (at n high : ℕ) (i : Scanning c s at n high) where
  pub scan_small : at < 18446744073709551615 → NotHuge n
  scan_small l = record { small = omega (arith, i.few) }

  pub scan_done : (x : ℕ) → length s ≤ at → x ≡ last_refusal high n → x ≡ tokens_refusal (tokens c s)
  unfolding next read skip nesting_refusal highest_nesting last_refusal
  scan_done x l e = e ∙ ap (nesting_refusal high n) (sym (tokens_end c (rest s at) (ends (rest s at) (rest_end s at l)))) ∙ i.rest_is
    where
      ends : (bs : List ℕ) → bs ≡ [] → next c bs ≡ end
      ends bs e = rw e

-- the end that was read can be stored
pub scan_store_end : (c s : List ℕ) (at : ℕ) (r : TokenRead) → Cached c s → TokenAt class s at r → r ≡ TokenRead.End → CanEnd c s at
scan_store_end c s at r cached found is = record { cached = cached; read = subst (TokenAt class s at) is found }
