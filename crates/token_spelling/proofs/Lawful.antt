-- Lawful classes: at a byte that has a constant class they compute, so what is read from given bytes is proved by computation. Assumes nothing.
use mathlib.Core.Path.{◌≡◌, refl, sym, ◌∙◌, ap, subst, fun_ext}
use mathlib.Core.Bool.{Bool, true, false}
use mathlib.Core.List.{List, [], ◌∷◌}
use Prim.Native.Nat.{ℕ}
use native.Mathlib.Omega.{arith}
use lib.Dec.{eqb}
use borrow.Author.Tests.{eqb-true, ne_eqb}
use Rattle.framed.specs.Common.{when◌then◌else◌, starts, Common}
use Rattle.framed.specs.Bytes.{Classes, class, letter, digit, name_byte, Bytes}
use Rattle.framed.specs.Tokens.{read, next, skip}
use Rattle.framed.proofs.Lists.{or_either}
use Rattle.token_spelling.specs.Spelling.{has_constant_class, Lawful, ConstantLawful, Stops}

pub constant_lawful : ConstantLawful
constant_lawful = record { constant = λ b e. refl; digits = λ b e. e }

-- the classes c, with the constant class where a byte has one
unfoldable pub anchored : Classes → Classes
unfolding has_constant_class Common Bytes
anchored c b = when has_constant_class b then class b else c b

anchored_same : (c : Classes) → Lawful c → anchored c ≡ c
unfolding anchored
anchored_same c l = fun_ext (λ b. go b (has_constant_class b) (l.constant b))
  where
    go : (b : ℕ) (t : Bool) → (t ≡ true → c b ≡ class b) → (when t then class b else c b) ≡ c b
    go b true f = sym (f refl)
    go b false f = refl

-- what holds of all anchored classes holds of all lawful ones
pub by_anchor : (P : Classes → Type 0) → ((c : Classes) → P (anchored c)) → (c : Classes) → Lawful c → P c
by_anchor P f c l = subst P (anchored_same c l) (f c)

-- what follows a token: nothing, a space or a dot
pub by_stop : (P : List ℕ → Type 0) → P [] → ((bs : List ℕ) → P (32 ∷ bs)) → ((bs : List ℕ) → P (46 ∷ bs)) → (more : List ℕ) → Stops more → P more
by_stop P a b d _ Stops.at_end = a
by_stop P a b d _ (Stops.at_space {bs}) = b bs
by_stop P a b d _ (Stops.at_dot {bs}) = d bs

-- it begins with no byte of a name
pub name_ends : (c : Classes) → Lawful c → (more : List ℕ) → Stops more → starts (name_byte c) more ≡ false
unfolding anchored
name_ends = by_anchor (λ c. (more : List ℕ) → Stops more → starts (name_byte c) more ≡ false) (λ c. by_stop _ refl (λ bs. refl) (λ bs. refl))

-- a letter or a digit is not skipped
pub next_first : (c : Classes) → Lawful c → (b : ℕ) (bs : List ℕ) → name_byte c b ≡ true → next c (b ∷ bs) ≡ read c (b ∷ bs)
unfolding next skip Common Bytes has_constant_class
next_first c l b bs e =
    or_either (letter c b) (digit c b) e (λ f. go 2 (eqb-true (c b) 2 f) refl (λ q. omega arith)) (λ f. go 3 (eqb-true (c b) 3 f) refl (λ q. omega arith))
  where
    go : (k : ℕ) → c b ≡ k → eqb k 1 ≡ false → (k ≡ 4 → ⊥) → next c (b ∷ bs) ≡ read c (b ∷ bs)
    go k h s m = ap (read c) (rw (h, s, skip) (rw (ne_eqb b 47 (λ q. m (sym h ∙ ap c q ∙ l.constant 47 refl)))))
