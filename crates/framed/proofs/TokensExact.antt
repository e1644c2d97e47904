-- `tokens` gives exactly the tokens that `next` reads, one after the other (`Tokens⊢`), with one law for each answer of `next` and no bound
-- in sight. For every class of bytes. Assumes nothing.
use mathlib.Core.Path.{◌≡◌, refl, sym, ◌∙◌, ap}
use mathlib.Core.Logic.{◌↔◌}
use mathlib.Core.Bool.{Bool, true, false, ◌&&◌}
use mathlib.Core.List.{List, [], ◌∷◌}
use mathlib.Core.Option.{Option, none, some}
use Prim.Native.Nat.{ℕ, zero, suc, ◌≤◌, ◌<◌}
use native.Mathlib.Omega.{arith}
use lib.ListN.{length}
use lib.IntN.{ℤ}
use lib.Dec.{leb}
use Rattle.framed.specs.Common.{when◌then◌else◌, is, after, starts, past_first}
use Rattle.framed.specs.Bytes.{Classes, space, letter, digit}
use Rattle.framed.specs.Tokens.{Token, tokens, in_range, Read, end, no_token, token, skip, skip_comment, read_name, read_integer, read_string, two_bytes, read_mark, read, next, prepend, tokens_within, Tokens⊢}
use Rattle.framed.specs.Theorems.{TokensExact}
use Rattle.framed.proofs.General.{none≢some, some_inj}

-- a token leaves at most n bytes
pub data Leaves (n : ℕ) : Read → Type 0 where
  nothing : Leaves n end
  refused : Leaves n no_token
  leaves : {t : Token} {rest : List ℕ} → length rest ≤ n → Leaves n (token t rest)

pub either : (n : ℕ) (t : Bool) (x y : Read) → Leaves n x → Leaves n y → Leaves n (when t then x else y)
either n true x y a b = a
either n false x y a b = b

pub after_shorter : (test : ℕ → Bool) (bs : List ℕ) → length (after test bs) ≤ length bs
unfolding after
after_shorter test [] = omega arith
after_shorter test (b ∷ bs) = go (test b) (after_shorter test bs)
  where
    go : (t : Bool) → length (after test bs) ≤ length bs → length {A = ℕ} (elim t [ true ↦ after test bs | false ↦ b ∷ bs ]) ≤ suc (length bs)
    go true l = omega arith
    go false l = omega arith

pub past_shorter : (bs : List ℕ) → length (past_first bs) ≤ length bs
unfolding past_first
past_shorter [] = omega arith
past_shorter (b ∷ bs) = omega arith

pub read_mark_leaves : (b : ℕ) (bs : List ℕ) → Leaves (length bs) (read_mark b bs)
unfolding read_mark two_bytes
read_mark_leaves b bs =
    e (is ":" b) _ _ (e (starts (is "=") bs) _ _ p s)
    (e (is "=" b) _ _ (e (starts (is "=") bs) _ _ p refused)
    (e (is "&" b) _ _ (e (starts (is "&") bs) _ _ p refused)
    (e (is "|" b) _ _ (e (starts (is "|") bs) _ _ p refused)
    (e (is "." b) _ _ s (e (is "^" b) _ _ s (e (is "!" b) _ _ s (e (is "+" b) _ _ s (e (is "-" b) _ _ s (e (is "*" b) _ _ s
    (e (is "/" b) _ _ s (e (is "<" b) _ _ s (e (is "#" b) _ _ s (e (is ";" b) _ _ s (e (is "," b) _ _ s (e (is "[" b) _ _ s
    (e (is "]" b) _ _ s (e (is "{" b) _ _ s (e (is "}" b) _ _ s refused))))))))))))))))))
  where
    e : (t : Bool) (x y : Read) → Leaves (length bs) x → Leaves (length bs) y → Leaves (length bs) (when t then x else y)
    e = either (length bs)

    p : {t : Token} → Leaves (length bs) (token t (past_first bs))
    p = leaves (past_shorter bs)

    s : {t : Token} → Leaves (length bs) (token t bs)
    s = leaves {rest = bs} (omega arith)

-- a test that picks one of two lists, both short enough
pub short : (n : ℕ) (t : Bool) (x y : List ℕ) → length x ≤ n → length y ≤ n → length {A = ℕ} (elim t [ true ↦ x | false ↦ y ]) ≤ n
short n true x y a b = a
short n false x y a b = b

pub end≢token : {t : Token} {rest : List ℕ} → end ≡ token t rest → ⊥
end≢token e = let z : ◌≡◌ {A = ℕ} 0 1 = cc in omega arith

pub no_token≢token : {t : Token} {rest : List ℕ} → no_token ≡ token t rest → ⊥
no_token≢token e = let z : ◌≡◌ {A = ℕ} 0 1 = cc in omega arith

pub rest_inj : {t u : Token} {r s : List ℕ} → token t r ≡ token u s → r ≡ s
rest_inj e = cc

pub name_leaves : (n : ℕ) (w rest : List ℕ) → length rest ≤ n → Leaves n (read_name w rest)
unfolding read_name
name_leaves n w rest l = either n (leb (length w) 16) _ _ (leaves l) refused

pub integer_leaves : (n : ℕ) (z : ℤ) (rest : List ℕ) → length rest ≤ n → Leaves n (read_integer z rest)
unfolding read_integer
integer_leaves n z rest l = either n (in_range z) _ _ (leaves l) refused

pub string_leaves : (n : ℕ) (w rest : List ℕ) → length rest ≤ n → Leaves n (read_string w rest)
unfolding read_string
string_leaves n w rest l =
    either n (leb (length w) 64 && starts (is "\"") rest) _ _ (leaves (omega (arith, past_shorter rest))) refused

pub bytes_left : {n : ℕ} {t : Token} {rest : List ℕ} {x : Read} → Leaves n x → x ≡ token t rest → length rest ≤ n
bytes_left nothing e = absurd (end≢token e)
bytes_left refused e = absurd (no_token≢token e)
bytes_left (leaves l) e = rw (← rest_inj e) l

pub prepended : {t : Token} (o : Option (List Token)) {ts : List Token} → prepend t o ≡ some ts → (us : List Token) × (o ≡ some us) × (ts ≡ t ∷ us)
unfolding prepend
prepended none e = absurd (none≢some e)
prepended (some us) e = (us, refl, sym (some_inj e))

module _ (c : Classes) where
  mutual
    unfolding skip

    pub skip_shorter : (bs : List ℕ) → length (skip c bs) ≤ length bs
    skip_shorter [] = omega arith
    skip_shorter (b ∷ bs) =
        let a = skip_shorter bs in
        let d = comment_shorter bs in
        short (suc (length bs)) (space c b) _ _ (omega arith) (short (suc (length bs)) (is "/" b && starts (is "/") bs) _ _ (omega arith) (omega arith))

    pub comment_shorter : (bs : List ℕ) → length (skip_comment c bs) ≤ length bs
    comment_shorter [] = omega arith
    comment_shorter (b ∷ bs) =
        let a = skip_shorter bs in
        let d = comment_shorter bs in
        short (suc (length bs)) (is "\n" b) _ _ (omega arith) (omega arith)

  pub read_leaves : (b : ℕ) (bs : List ℕ) → Leaves (length bs) (read c (b ∷ bs))
  unfolding read
  read_leaves b bs =
      either _ (letter c b) _ _ (name_leaves _ _ _ (after_shorter _ bs))
      (either _ (digit c b) _ _ (integer_leaves _ _ _ (after_shorter _ bs))
      (either _ (is "-" b && starts (digit c) bs) _ _ (integer_leaves _ _ _ (after_shorter _ bs))
      (either _ (is "\"" b) _ _ (string_leaves _ _ _ (after_shorter _ bs))
      (read_mark_leaves b bs))))

  -- the bytes after a token are fewer
  pub read_shorter : (bs : List ℕ) {t : Token} {rest : List ℕ} → read c bs ≡ token t rest → length rest < length bs
  unfolding read
  read_shorter [] e = absurd (end≢token e)
  read_shorter (b ∷ bs) {t} {rest} e =
      let l : length rest ≤ length bs = bytes_left (read_leaves b bs) e in
      omega arith

  pub next_shorter : (bs : List ℕ) {t : Token} {rest : List ℕ} → next c bs ≡ token t rest → length rest < length bs
  unfolding next
  next_shorter bs e = omega (arith, read_shorter (skip c bs) e, skip_shorter bs)

  pub tokens_within_sound : (n : ℕ) (bs : List ℕ) {ts : List Token} → tokens_within c n bs ≡ some ts → Tokens⊢ c bs ts
  unfolding tokens_within
  tokens_within_sound zero bs e = absurd (none≢some e)
  tokens_within_sound (suc n) bs {ts} e = go (next c bs) refl (λ rest us e. tokens_within_sound n rest e) e
    where
      go : (x : Read) → next c bs ≡ x → ((rest : List ℕ) (us : List Token) → tokens_within c n rest ≡ some us → Tokens⊢ c rest us) →
          ◌≡◌ {A = Option (List Token)} (elim x [ end ↦ some [] | no_token ↦ none | token t rest ↦ prepend t (tokens_within c n rest) ]) (some ts) → Tokens⊢ c bs ts
      go end p k e = rw (← some_inj e) (Tokens⊢.at_end p)
      go no_token p k e = absurd (none≢some e)
      go (token t rest) p k e =
          let u = prepended (tokens_within c n rest) e in
          rw u.2 (Tokens⊢.more p (k rest u.0 u.1))

  pub tokens_within_complete : {bs : List ℕ} {ts : List Token} → Tokens⊢ c bs ts → (n : ℕ) → length bs < n → tokens_within c n bs ≡ some ts
  unfolding tokens_within prepend
  tokens_within_complete (Tokens⊢.at_end p) zero l = absurd (omega arith)
  tokens_within_complete (Tokens⊢.at_end p) (suc n) l = rw (p, tokens_within)
  tokens_within_complete (Tokens⊢.more p d) zero l = absurd (omega arith)
  tokens_within_complete (Tokens⊢.more {bs} {t} p d) (suc n) l =
      rw (p, tokens_within) (ap (λ (o : Option (List Token)). prepend t o) (tokens_within_complete d n (omega (arith, next_shorter bs p))))

  pub tokens_agree : (bs : List ℕ) (ts : List Token) → (tokens c bs ≡ some ts) ↔ Tokens⊢ c bs ts
  unfolding tokens
  tokens_agree bs ts = (λ e. tokens_within_sound (suc (length bs)) bs e, λ d. tokens_within_complete d (suc (length bs)) (omega arith))

  within_step : (n : ℕ) (bs rest : List ℕ) (t : Token) → next c bs ≡ token t rest → tokens_within c (suc n) bs ≡ prepend t (tokens_within c n rest)
  unfolding tokens_within
  within_step n bs rest t e = rw (e, tokens_within)

  within_end : (n : ℕ) (bs : List ℕ) → next c bs ≡ end → tokens_within c (suc n) bs ≡ some []
  unfolding tokens_within
  within_end n bs e = rw (e, tokens_within)

  within_none : (n : ℕ) (bs : List ℕ) → next c bs ≡ no_token → tokens_within c (suc n) bs ≡ none
  unfolding tokens_within
  within_none n bs e = rw (e, tokens_within)

  -- every bound that is enough gives the same
  pub within_same : (n m : ℕ) (bs : List ℕ) → length bs < n → length bs < m → tokens_within c n bs ≡ tokens_within c m bs
  within_same zero m bs l k = absurd (none_below l)
    where
      none_below : {i : ℕ} → i < 0 → ⊥
      none_below l = omega arith
  within_same (suc n) zero bs l k = absurd (none_below k)
    where
      none_below : {i : ℕ} → i < 0 → ⊥
      none_below l = omega arith
  within_same (suc n) (suc m) bs l k = go (next c bs) refl (λ rest h i. within_same n m rest h i)
    where
      go : (x : Read) → next c bs ≡ x → ((rest : List ℕ) → length rest < n → length rest < m → tokens_within c n rest ≡ tokens_within c m rest) → tokens_within c (suc n) bs ≡ tokens_within c (suc m) bs
      go end e f = within_end n bs e ∙ sym (within_end m bs e)
      go no_token e f = within_none n bs e ∙ sym (within_none m bs e)
      go (token t rest) e f =
          let s = next_shorter bs e in
          within_step n bs rest t e ∙ ap (prepend t) (f rest (omega arith) (omega arith)) ∙ sym (within_step m bs rest t e)

  pub tokens_step : (bs rest : List ℕ) (t : Token) → next c bs ≡ token t rest → tokens c bs ≡ prepend t (tokens c rest)
  unfolding tokens
  tokens_step bs rest t e =
      let s = next_shorter bs e in
      within_step (length bs) bs rest t e ∙ ap (prepend t) (within_same (length bs) (suc (length rest)) rest (omega arith) (omega arith))

  pub tokens_end : (bs : List ℕ) → next c bs ≡ end → tokens c bs ≡ some []
  unfolding tokens
  tokens_end bs e = within_end (length bs) bs e

  pub tokens_none : (bs : List ℕ) → next c bs ≡ no_token → tokens c bs ≡ none
  unfolding tokens
  tokens_none bs e = within_none (length bs) bs e

  -- there are no more tokens than bytes
  pub tokens_fewer : {bs : List ℕ} {ts : List Token} → Tokens⊢ c bs ts → length ts ≤ length bs
  tokens_fewer (Tokens⊢.at_end e) = omega arith
  tokens_fewer (Tokens⊢.more {bs} e d) = omega (arith, next_shorter bs e, tokens_fewer d)

pub tokens_exact : TokensExact
unfolding TokensExact
tokens_exact c bs ts = tokens_agree c bs ts
