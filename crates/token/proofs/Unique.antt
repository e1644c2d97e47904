-- `TokenAt` leaves one answer at each position. Assumes nothing.
use mathlib.Core.Path.{◌≡◌, refl, sym, ap, ◌∙◌}
use mathlib.Core.Bool.{Bool, true, false}
use mathlib.Core.List.{List}
use Prim.Native.Nat.{ℕ, ◌-◌, ◌<◌, ◌≤◌}
use native.Mathlib.Omega.{arith}
use lib.Dec.{eqb, ltb}
use lib.IntN.{ℤ, pos, negsuc}
use lib.ListN.{length}
use borrow.Author.Tests.{eqb-true, eqb-false}
use Rattle.framed.specs.Common.{when◌then◌else◌}
use Rattle.framed.specs.Tokens.{Token, end, no_token, token}
use Rattle.framed.proofs.TokensExact.{end≢token, no_token≢token, rest_inj}
use Rattle.source.specs.Positions.{rest}
use Rattle.source.proofs.Positions.{length_rest}
use Rattle.token.specs.Reading.{signed, token_kind, token_of, meant, OneAnswer}
use Rattle.token.specs.declared.TokenRead.{TokenRead}
use Rattle.token.proofs.Answers.{spot_of}
use Rattle.token.proofs.KindNumbers.{kind_is}

end≢no_token : end ≡ no_token → ⊥
end≢no_token e = let z : ◌≡◌ {A = ℕ} 0 1 = cc in omega arith

pub token_inj : {t u : Token} {r s : List ℕ} → token t r ≡ token u s → t ≡ u
token_inj e = cc

integer_inj : {x y : ℤ} → Token.integer x ≡ Token.integer y → x ≡ y
integer_inj e = cc

-- the rest says where it begins
rest_same : (s : List ℕ) (i j : ℕ) → i ≤ length s → j ≤ length s → rest s i ≡ rest s j → i ≡ j
rest_same s i j l k e =
    let h : length (rest s i) ≡ length (rest s j) = ap length e in
    omega (arith, length_rest s i, length_rest s j)

-- a word of 32 bits is one of an integer
signed_inj : (x y : ℕ) → x < 4294967296 → y < 4294967296 → signed x ≡ signed y → x ≡ y
unfolding signed
signed_inj x y l k = go (ltb x 2147483648) refl (ltb y 2147483648) refl
  where
    minus : (x y : ℕ) → x < 4294967296 → y < 4294967296 → 4294967295 - x ≡ 4294967295 - y → x ≡ y
    minus x y l k e = omega arith

    go : (t : Bool) → ltb x 2147483648 ≡ t → (u : Bool) → ltb y 2147483648 ≡ u
        → ◌≡◌ {A = ℤ} (when t then pos x else negsuc (4294967295 - x)) (when u then pos y else negsuc (4294967295 - y)) → x ≡ y
    go true e true f g = cc
    go true e false f g = absurd (let z : ◌≡◌ {A = ℕ} 0 1 = cc in omega arith)
    go false e true f g = absurd (let z : ◌≡◌ {A = ℕ} 0 1 = cc in omega arith)
    go false e false f g = minus x y l k (let h : 4294967295 - x ≡ 4294967295 - y = cc in h)

integer_of : (s : List ℕ) (a p w : ℕ) → token_of s 26 a p w ≡ Token.integer (signed w)
unfolding token_of
integer_of s a p w = refl

-- the word of an answer, where kind and place are known
same_word : (s : List ℕ) (k a p w x : ℕ) → w < 4294967296 → x < 4294967296 → ((k ≡ 26 → ⊥) → w ≡ 0) → ((k ≡ 26 → ⊥) → x ≡ 0)
    → token_of s k a p w ≡ token_of s k a p x → w ≡ x
same_word s k a p w x l m f g e = go (eqb k 26) refl
  where
    go : (t : Bool) → eqb k 26 ≡ t → w ≡ x
    go true h = let i = eqb-true k 26 h in signed_inj w x l m (integer_inj (sym (integer_of s a p w) ∙ (rw i at e) ∙ integer_of s a p x))
    go false h = f (eqb-false k 26 h) ∙ sym (g (eqb-false k 26 h))

pub one_answer : OneAnswer
unfolding meant
one_answer c s at TokenRead.End TokenRead.End a b m n = refl
one_answer c s at TokenRead.End TokenRead.NoToken a b m n = absurd (end≢no_token (sym m.says ∙ n.says))
one_answer c s at TokenRead.End (TokenRead.Token k i p w) a b m n = absurd (end≢token (sym m.says ∙ n.says))
one_answer c s at TokenRead.NoToken TokenRead.End a b m n = absurd (end≢no_token (sym n.says ∙ m.says))
one_answer c s at TokenRead.NoToken TokenRead.NoToken a b m n = refl
one_answer c s at TokenRead.NoToken (TokenRead.Token k i p w) a b m n = absurd (no_token≢token (sym m.says ∙ n.says))
one_answer c s at (TokenRead.Token k i p w) TokenRead.End a b m n = absurd (end≢token (sym n.says ∙ m.says))
one_answer c s at (TokenRead.Token k i p w) TokenRead.NoToken a b m n = absurd (no_token≢token (sym n.says ∙ m.says))
one_answer c s at (TokenRead.Token k i p w) (TokenRead.Token k' i' p' w') l l' m n =
    let h = spot_of (TokenRead.Token k i p w) m.on refl in
    let h' = spot_of (TokenRead.Token k' i' p' w') n.on refl in
    let both : token (token_of s k i p w) (rest s p) ≡ token (token_of s k' i' p' w') (rest s p') = sym m.says ∙ n.says in
    let ep : p ≡ p' = rest_same s p p' h.inside h'.inside (rest_inj both) in
    let ei : i ≡ i' = rest_same s i i' (omega (arith, h.more, h.inside)) (omega (arith, h'.more, h'.inside)) (sym (m.first refl) ∙ n.first refl) in
    let ek : k ≡ k' = sym (kind_is s i p w k h.known) ∙ ap token_kind (token_inj both) ∙ kind_is s i' p' w' k' h'.known in
    let ew : w ≡ w' = same_word s k i p w w' l l' (m.plain refl) (λ g. n.plain refl (λ y. g (ek ∙ y))) (rw (← ep, ← ei, ← ek) at (token_inj both)) in
    rw (ep, ei, ek, ew)
