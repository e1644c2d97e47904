-- The symbols of a source, spelled with its names and literals, are its tokens. Assumes nothing.
use mathlib.Core.Path.{◌≡◌, refl, sym, ◌∙◌, ap, ap₂}
use mathlib.Core.Bool.{Bool, true, false, false≢true}
use mathlib.Core.List.{List, [], ◌∷◌, ◌++◌, append_assoc}
use Prim.Native.Nat.{ℕ, suc}
use native.Mathlib.Omega.{arith}
use lib.ListN.{length, get_or, length-append}
use lib.Seq.{get_or-append_seam}
use Rattle.framed.specs.Common.{same, ◌∈◌, here, later}
use Rattle.framed.specs.Tokens.{Token}
use Rattle.framed.specs.Symbols.{number_in, literals, numbered, symbols}
use Rattle.framed.proofs.Lists.{same_self, same_equal}
use Rattle.framed.proofs.NamesExact.{names_exact}
use Rattle.write_symbols.specs.Symbols.{spelled, spelled_all}
use Rattle.write_symbols.specs.Theorems.{SourceSpelled}

-- a name of the table stands at its number
name_there : {table : List (List ℕ)} {w : List ℕ} → w ∈ table → get_or table (number_in table w) [] ≡ w
unfolding number_in
name_there (here {x = w} {xs = vs}) = go (same w w) (same_self w)
  where
    go : (t : Bool) → t ≡ true → get_or (w ∷ vs) (elim t [ true ↦ 0 | false ↦ suc (number_in vs w) ]) [] ≡ w
    go true e = refl
    go false e = absurd (false≢true e)
name_there {w = w} (later {y = v} {xs = vs} m) = go (same v w) refl (name_there m)
  where
    go : (t : Bool) → same v w ≡ t → get_or vs (number_in vs w) [] ≡ w → get_or (v ∷ vs) (elim t [ true ↦ 0 | false ↦ suc (number_in vs w) ]) [] ≡ w
    go true e h = same_equal v w e
    go false e h = h

module _ (table : List (List ℕ)) where
  -- the literals `before` were begun
  again : (before : List (List ℕ)) (c : ℕ) (ts : List Token) → ((w : List ℕ) → Token.name w ∈ ts → w ∈ table) →
      spelled_all table (before ++ literals ts) (numbered table (length before) c ts) ≡ ts
  unfolding numbered literals spelled
  again before c [] known = refl
  again before c (Token.name w ∷ ts) known =
      ap₂ (λ (v : List ℕ) (us : List Token). Token.name v ∷ us) (name_there (known w here)) (again before c ts (λ v m. known v (later m)))
  again before c (Token.integer z ∷ ts) known = ap (λ (us : List Token). Token.integer z ∷ us) (again before c ts (λ v m. known v (later m)))
  again before c (Token.string w ∷ ts) known =
      ap₂ (λ (v : List ℕ) (us : List Token). Token.string v ∷ us) (get_or-append_seam before w (literals ts) [])
      (ap₂ (λ (l : List (List ℕ)) (n : ℕ). spelled_all table l (numbered table n c ts)) (sym (append_assoc before (w ∷ []) (literals ts))) (one_more (length before) refl)
      ∙ again (before ++ (w ∷ [])) c ts (λ v m. known v (later m)))
    where
      one_more : (n : ℕ) → n ≡ length before → suc n ≡ length (before ++ (w ∷ []))
      one_more n e = omega (arith, e, length-append before (w ∷ []))
  again before c (Token.code ∷ ts) known = ap (λ (us : List Token). Token.code ∷ us) (again before (suc c) ts (λ v m. known v (later m)))
  again before c (Token.fixed f ∷ ts) known = ap (λ (us : List Token). Token.fixed f ∷ us) (again before c ts (λ v m. known v (later m)))

pub source_spelled : SourceSpelled
unfolding symbols
source_spelled ts = again _ [] 0 ts (λ w m. (names_exact.exactly ts w).1 m)
