-- A line is followed byte by byte. Assumes nothing.
use mathlib.Core.Path.{◌≡◌, refl, ap, ◌∙◌}
use mathlib.Core.Bool.{Bool, true, false}
use mathlib.Core.List.{List}
use Prim.Native.Nat.{ℕ, ◌+◌, ◌<◌, ◌≤◌, ◌-◌, max}
use native.Mathlib.Omega.{arith}
use lib.Dec.{ltb}
use lib.ListN.{length, get_or, take, drop}
use borrow.Author.Tests.{ltb-true, ltb-false}
use Rattle.lines.specs.Lines.{LineEnds, LineBegins, EachLine}

-- no byte 10 from `at` up to i
pub record Unbroken (s : List ℕ) (at i : ℕ) : Type 0 where
  pub after : at ≤ i
  pub inside : i ≤ max at (length s)
  pub unbroken : (j : ℕ) → at ≤ j → j < i → get_or s j 0 ≡ 10 → ⊥

pub line_start : (s : List ℕ) (at : ℕ) → Unbroken s at at
line_start s at = record { after = omega arith; inside = omega arith; unbroken = λ j l h e. omega (arith, l, h) }

module _ (s : List ℕ) (at i : ℕ) (u : Unbroken s at i) (n : get_or s i 0 ≡ 10 → ⊥) where
  still : (j : ℕ) → at ≤ j → j < i + 1 → get_or s j 0 ≡ 10 → (t : Bool) → ltb j i ≡ t → ⊥
  still j a h e true q = u.unbroken j a (ltb-true j i q) e
  still j a h e false q = let g = ltb-false j i q in let k : i ≡ j = omega (arith, h, g) in n (ap (λ (m : ℕ). get_or s m 0) k ∙ e)

  pub line_on : i < length s → Unbroken s at (i + 1)
  line_on l = record { after = omega (arith, u.after); inside = omega (arith, l); unbroken = λ j a h e. still j a h e (ltb j i) refl }

pub line_broken : (s : List ℕ) (at i : ℕ) → Unbroken s at i → get_or s i 0 ≡ 10 → LineEnds s at i
line_broken s at i u e = record { after = u.after; inside = u.inside; unbroken = u.unbroken; broken = λ l. e }

pub line_done : (s : List ℕ) (at i : ℕ) → Unbroken s at i → length s ≤ i → LineEnds s at i
line_done s at i u h = record { after = u.after; inside = u.inside; unbroken = u.unbroken; broken = λ l. omega (arith, l, h) }

-- ---- for_each_line: P holds of each line that begins before `at`, where the next line begins

pub record Visited (P : List ℕ → Type 0) (s : List ℕ) (at : ℕ) : Type 0 where
  pub behind : (k : ℕ) → at ≡ k + 1 → k < length s → get_or s k 0 ≡ 10
  pub before : (i end : ℕ) → i < at → LineBegins s i → LineEnds s i end → P (take (end - i) (drop i s))

one_end : (s : List ℕ) (at e₁ e₂ : ℕ) → at < length s → LineEnds s at e₁ → LineEnds s at e₂ → e₁ < e₂ → ⊥
one_end s at e₁ e₂ lt a b l = let i = b.inside in b.unbroken e₁ a.after l (a.broken (omega arith))

-- two ends of a line are one
same_end : (s : List ℕ) (at e₁ e₂ : ℕ) → at < length s → LineEnds s at e₁ → LineEnds s at e₂ → e₁ ≡ e₂
same_end s at e₁ e₂ lt a b = go (ltb e₁ e₂) (ltb e₂ e₁) refl refl
  where
    go : (t u : Bool) → ltb e₁ e₂ ≡ t → ltb e₂ e₁ ≡ u → e₁ ≡ e₂
    go true u p q = absurd (one_end s at e₁ e₂ lt a b (ltb-true _ _ p))
    go false true p q = absurd (one_end s at e₂ e₁ lt b a (ltb-true _ _ q))
    go false false p q = let le = ltb-false _ _ p in let ge = ltb-false _ _ q in omega arith

module _ {P : List ℕ → Type 0} {s : List ℕ} where
  pub visited_start : Visited P s 0
  visited_start = record { behind = λ k e l. omega arith; before = λ i end l b e. absurd (omega arith) }

  pub visited_on : {at end : ℕ} → Visited P s at → at < length s → LineEnds s at end → P (take (end - at) (drop at s)) → Visited P s (end + 1)
  visited_on {at} {end} v lt e p = record {
    behind = λ k q l. let h : end ≡ k = omega arith in rw h at (e.broken (omega arith));
    before = λ i j h b f. go i j h b f (ltb i at) (ltb at i) refl refl;
  }
    where
      go : (i j : ℕ) → i < end + 1 → LineBegins s i → LineEnds s i j → (t u : Bool) → ltb i at ≡ t → ltb at i ≡ u → P (take (j - i) (drop i s))
      go i j h b f true u q w = v.before i j (ltb-true _ _ q) b f
      go i j h b f false true q w = let l = ltb-true _ _ w in absurd (e.unbroken (i - 1) (omega arith) (omega arith) (b.behind (i - 1) (omega arith)))
      go i j h b f false false q w =
          let le = ltb-false _ _ q in
          let ge = ltb-false _ _ w in
          let k : at ≡ i = omega arith in
          let n : end ≡ j = same_end s i end j (omega arith) (rw k at e) f in
          rw (k, n) at p

  pub visited_all : {at : ℕ} → Visited P s at → length s ≤ at → EachLine P s
  visited_all {at} v le = record { line = λ i end b e. v.before i end (let l = b.inside in omega arith) b e }
