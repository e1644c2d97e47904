-- Loops that stop before their bound: the tests from there on hold, or one has failed. Assumes nothing.
use mathlib.Core.Path.{◌≡◌, refl, sym, ap, ◌∙◌}
use mathlib.Core.Bool.{Bool, true, false, not, ◌&&◌, false≢true}
use mathlib.Core.List.{List}
use Prim.Native.Nat.{ℕ, zero, suc, ◌+◌, ◌-◌, ◌≤◌, ◌<◌}
use native.Mathlib.Omega.{arith}
use lib.Dec.{eqb, ltb, leb}
use borrow.Author.Tests.{eq-eqb, ne_eqb, le-leb, lt-leb}
use Rattle.words.specs.Words.{all_below}
use Rattle.words.proofs.Laws.{Upto, upto_again, upto_done, all_means}
use Rattle.tables.proofs.Bools.{or_right}
use Rattle.tables.specs.Fields.{name_length, name_byte, literal_length, literal_byte}
use Rattle.framed.specs.Bytes.{string_byte}
use Rattle.program_names.specs.Tests.{name_byte_ok, name_bytes_ok, same_byte, same_bytes, names_differ, literal_byte_ok, literal_bytes_ok}

-- ---- Any test

pub and_true : (b : Bool) → b && true ≡ b
and_true true = refl
and_true false = refl

rest_holds : (t : ℕ → Bool) (i d : ℕ) → ((j : ℕ) → i ≤ j → t j ≡ true) → all_below t (i + d) ≡ all_below t i
unfolding all_below
rest_holds t i zero f = let e : i + 0 ≡ i = omega arith in ap (all_below t) e
rest_holds t i (suc d) f =
    let e : i + suc d ≡ suc (i + d) = omega arith in
    ap (all_below t) e ∙ rw (f (i + d) (omega arith)) (and_true (all_below t (i + d)) ∙ rest_holds t i d f)

-- the tests from i on hold
pub upto_rest : (t : ℕ → Bool) (n i : ℕ) (ok : Bool) → Upto t n i ok → ((j : ℕ) → i ≤ j → t j ≡ true) → ok ≡ all_below t n
upto_rest t n i ok u f =
    let l = u.inside in
    let e : i + (n - i) ≡ n = omega arith in
    u.so_far ∙ sym (rest_holds t i (n - i) f) ∙ ap (all_below t) e

-- the test fails at i
pub one_fails : (t : ℕ → Bool) (n i : ℕ) → i < n → t i ≡ false → false ≡ all_below t n
one_fails t n i lt e = go (all_below t n) refl
  where
    go : (b : Bool) → all_below t n ≡ b → false ≡ all_below t n
    go true q = absurd (false≢true (sym e ∙ all_means t n q i lt))
    go false q = sym q

-- ---- Bytes of a name and of a literal: past the length the test holds

pub name_bytes_end : (p : List ℕ) (k n i : ℕ) (ok : Bool) → Upto (name_byte_ok p k) 16 i ok → n ≡ name_length p k → n ≤ i → ok ≡ name_bytes_ok p k
unfolding name_bytes_ok name_byte_ok
name_bytes_end p k n i ok u e le = upto_rest (name_byte_ok p k) 16 i ok u (λ j l. or_right (ltb (name_byte p k j) 256) (leb (name_length p k) j) (le-leb (name_length p k) j (omega (arith, e))))

pub literal_bytes_end : (p l : List ℕ) (k n i : ℕ) (ok : Bool) → Upto (literal_byte_ok p l k) 64 i ok → n ≡ literal_length p k → n ≤ i → ok ≡ literal_bytes_ok p l k
unfolding literal_bytes_ok literal_byte_ok
literal_bytes_end p l k n i ok u e le = upto_rest (literal_byte_ok p l k) 64 i ok u (λ j m. or_right (string_byte (literal_byte l k j)) (leb (literal_length p k) j) (le-leb (literal_length p k) j (omega (arith, e))))

-- ---- Two names

module _ (p : List ℕ) (k j n i : ℕ) (u : Upto (same_byte p k j) 16 i true) (en : n ≡ name_length p k) where
  pub same_end : n ≤ i → true ≡ same_bytes p k j
  unfolding same_bytes same_byte
  same_end le = upto_rest (same_byte p k j) 16 i true u (λ m l. or_right (eqb (name_byte p k m) (name_byte p j m)) (leb (name_length p k) m) (le-leb (name_length p k) m (omega (arith, en))))

  module _ (a b : ℕ) (lt : i < 16) (below : i < n) (ea : a ≡ name_byte p k i) (eb : b ≡ name_byte p j i) where
    pub same_differ : (a ≡ b → ⊥) → false ≡ same_bytes p k j
    unfolding same_bytes same_byte
    same_differ ne = one_fails (same_byte p k j) 16 i lt (rw (← ea, ← eb, ← en, ne_eqb a b ne, lt-leb n i below))

pub same_again : (p : List ℕ) (k j i a b : ℕ) → a ≡ name_byte p k i → b ≡ name_byte p j i → a ≡ b → i < 16 → Upto (same_byte p k j) 16 i true → Upto (same_byte p k j) 16 (i + 1) true
unfolding same_byte
same_again p k j i a b ea eb e lt u = upto_again (same_byte p k j) 16 i true true u lt (rw (← ea, ← eb, eq-eqb a b e))

pub same_done : (p : List ℕ) (k j i : ℕ) → Upto (same_byte p k j) 16 i true → 16 ≤ i → true ≡ same_bytes p k j
unfolding same_bytes
same_done p k j i u le = upto_done (same_byte p k j) 16 i true u le

module _ (p : List ℕ) (k j a b : ℕ) (ea : a ≡ name_length p k) (eb : b ≡ name_length p j) where
  pub lengths_differ : (a ≡ b → ⊥) → true ≡ names_differ p k j
  unfolding names_differ
  lengths_differ ne = rw (← ea, ← eb, ne_eqb a b ne)

  pub bytes_tell : a ≡ b → (r : Bool) → r ≡ same_bytes p k j → not r ≡ names_differ p k j
  unfolding names_differ
  bytes_tell e r er = rw (← ea, ← eb, eq-eqb a b e, er)
