-- A loop over the tokens of a source from a position on: what F gives of the tokens that are left is what F₀ gives of all of them.
-- Assumes nothing.
use mathlib.Core.Path.{◌≡◌, refl, sym, ap, ◌∙◌}
use mathlib.Core.List.{List, [], ◌∷◌}
use mathlib.Core.Option.{Option, none, some}
use Prim.Native.Nat.{ℕ, ◌≤◌}
use lib.ListN.{length}
use Rattle.framed.specs.Bytes.{class}
use Rattle.framed.specs.Tokens.{Token, tokens, prepend, next, read, skip, end}
use Rattle.framed.proofs.General.{none≢some, some_inj}
use Rattle.framed.proofs.TokensExact.{tokens_end}
use Rattle.source.specs.Positions.{rest}
use Rattle.source.proofs.Positions.{rest_end}
use Rattle.token.specs.Reading.{token_of, TokenAt}
use Rattle.token.specs.declared.TokenRead.{TokenRead}
use Rattle.token.proofs.Answers.{tokens_at_end, tokens_at_none, tokens_at_token}

unfoldable pub over : {X : Type 0} → (List Token → X) → Option (List Token) → Option X
over F none = none
over F (some ts) = some (F ts)

pub record Going {X : Type 0} (F₀ : List Token → X) (s : List ℕ) (from : ℕ) (F : List Token → X) (at : ℕ) : Type 0 where
  pub same : over F (tokens class (rest s at)) ≡ over F₀ (tokens class (rest s from))

-- where there are tokens from `from` on, F₀ gives x
pub record Gives {X : Type 0} (F₀ : List Token → X) (s : List ℕ) (from : ℕ) (x : X) : Type 0 where
  pub gives : (ts : List Token) → tokens class (rest s from) ≡ some ts → F₀ ts ≡ x

pub go_start : {X : Type 0} (F : List Token → X) (s : List ℕ) (from : ℕ) → Going F s from F from
go_start F s from = record { same = refl }

module _ {X : Type 0} (F₀ : List Token → X) (s : List ℕ) (from : ℕ) (F : List Token → X) (at : ℕ) (i : Going F₀ s from F at) where
  stop : tokens class (rest s at) ≡ some [] → Gives F₀ s from (F [])
  unfolding over
  stop e = record { gives = λ ts f. some_inj (sym (ap (over F₀) f) ∙ sym i.same ∙ ap (over F) e) }

  pub go_done : length s ≤ at → Gives F₀ s from (F [])
  unfolding next read skip
  go_done l = stop (tokens_end class (rest s at) (ends (rest s at) (rest_end s at l)))
    where
      ends : (bs : List ℕ) → bs ≡ [] → next class bs ≡ end
      ends bs e = rw e

  module _ (r : TokenRead) (found : TokenAt class s at r) where
    pub go_end : r ≡ TokenRead.End → Gives F₀ s from (F [])
    go_end e = stop (tokens_at_end class s at r found e)

    pub go_none : r ≡ TokenRead.NoToken → (x : X) → Gives F₀ s from x
    unfolding over
    go_none e x = record { gives = λ ts f. absurd (none≢some (ap (over F) (sym (tokens_at_none class s at r found e)) ∙ i.same ∙ ap (over F₀) f)) }

    module _ (k a p w : ℕ) (e : r ≡ TokenRead.Token k a p w) where
      -- the tokens after this one
      pub go_token : (ts : List Token) → tokens class (rest s from) ≡ some ts → (us : List Token) × (tokens class (rest s p) ≡ some us) × (F₀ ts ≡ F (token_of s k a p w ∷ us))
      unfolding over prepend
      go_token ts f = one (tokens class (rest s p)) refl (ap (over F) (sym (tokens_at_token class s at r found k a p w e)) ∙ i.same ∙ ap (over F₀) f)
        where
          one : (o : Option (List Token)) → tokens class (rest s p) ≡ o → over F (prepend (token_of s k a p w) o) ≡ some (F₀ ts) →
              (us : List Token) × (tokens class (rest s p) ≡ some us) × (F₀ ts ≡ F (token_of s k a p w ∷ us))
          one none h g = absurd (none≢some g)
          one (some us) h g = (us, h, some_inj (sym g))

      step_is : (F' : List Token → X) (o : Option (List Token)) → ((us : List Token) → o ≡ some us → F (token_of s k a p w ∷ us) ≡ F' us) → over F' o ≡ over F (prepend (token_of s k a p w) o)
      unfolding over prepend
      step_is F' none h = refl
      step_is F' (some us) h = ap some (sym (h us refl))

      pub go_again : (F' : List Token → X) → ((us : List Token) → tokens class (rest s p) ≡ some us → F (token_of s k a p w ∷ us) ≡ F' us) → Going F₀ s from F' p
      go_again F' h = record { same = step_is F' (tokens class (rest s p)) h ∙ ap (over F) (sym (tokens_at_token class s at r found k a p w e)) ∙ i.same }

      pub go_early : (x : X) → ((us : List Token) → tokens class (rest s p) ≡ some us → F (token_of s k a p w ∷ us) ≡ x) → Gives F₀ s from x
      go_early x h = record { gives = λ ts f. let u = go_token ts f in u.2 ∙ h u.0 u.1 }
