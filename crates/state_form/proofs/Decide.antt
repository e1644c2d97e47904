-- How tests that decide facts are put together. Nothing here is about Framed. Assumes nothing.
use Prim.Native.Nat.{ℕ, ◌≤◌, ◌<◌}
use mathlib.Core.Path.{◌≡◌, refl}
use mathlib.Core.Logic.{◌≢◌, ◌⊎◌, inl, inr, ⊎_elim}
use mathlib.Core.Bool.{Bool, true, false, not, ◌&&◌, ◌||◌, true≢false}
use lib.Dec.{eqb, ltb, leb}
use borrow.Author.Tests.{eq-eqb, ne_eqb, eqb-true, eqb-false, lt-ltb, ltb-true, le-leb, leb-true, not-true}
use Rattle.words.specs.Words.{all_below}
use Rattle.state_form.specs.Tests.{Decides}
use Rattle.words.proofs.Laws.{all_means, all_if}

pub record Both (P Q : Type 0) : Type 0 where
  pub first : P
  pub second : Q

pub decides_lt : (a b : ℕ) → Decides (ltb a b) (a < b)
decides_lt a b = record { if_true = ltb-true a b; only_if = lt-ltb a b }

pub decides_le : (a b : ℕ) → Decides (leb a b) (a ≤ b)
decides_le a b = record { if_true = leb-true a b; only_if = le-leb a b }

pub decides_eq : (a b : ℕ) → Decides (eqb a b) (a ≡ b)
decides_eq a b = record { if_true = eqb-true a b; only_if = eq-eqb a b }

pub decides_ne : (a b : ℕ) → Decides (not (eqb a b)) (a ≢ b)
decides_ne a b = record { if_true = λ e. eqb-false a b (not-true (eqb a b) e); only_if = λ n. rw (ne_eqb a b n) }

pub decides_itself : (b : Bool) → Decides b (b ≡ true)
decides_itself b = record { if_true = λ e. e; only_if = λ e. e }

module _ {P Q : Type 0} where
  pub decides_and : (a b : Bool) → Decides a P → Decides b Q → Decides (a && b) (Both P Q)
  decides_and true b p q = record { if_true = λ e. record { first = p.if_true refl; second = q.if_true e }; only_if = λ d. q.only_if d.second }
  decides_and false b p q = record { if_true = λ e. absurd (true≢false (sym_of e)); only_if = λ d. p.only_if d.first }
    where
      sym_of : false ≡ true → true ≡ false
      sym_of e = cc

  pub decides_or : (a b : Bool) → Decides a P → Decides b Q → Decides (a || b) (P ⊎ Q)
  decides_or true b p q = record { if_true = λ e. inl (p.if_true refl); only_if = λ d. refl }
  decides_or false b p q = record { if_true = λ e. inr (q.if_true e); only_if = ⊎_elim (λ x. absurd (true≢false (other (p.only_if x)))) (λ y. q.only_if y) }
    where
      other : false ≡ true → true ≡ false
      other e = cc

  -- the same fact in other words
  pub decides_as : {b : Bool} → Decides b P → (P → Q) → (Q → P) → Decides b Q
  decides_as d f g = record { if_true = λ e. f (d.if_true e); only_if = λ q. d.only_if (g q) }

pub record Every (P : ℕ → Type 0) (n : ℕ) : Type 0 where
  pub each : (i : ℕ) → i < n → P i

pub decides_all : (t : ℕ → Bool) (P : ℕ → Type 0) (n : ℕ) → ((i : ℕ) → i < n → Decides (t i) (P i)) → Decides (all_below t n) (Every P n)
decides_all t P n d = record {
  if_true = λ e. record { each = λ i lt. (d i lt).if_true (all_means t n e i lt) };
  only_if = λ p. all_if t n (λ i lt. (d i lt).only_if (p.each i lt));
}
