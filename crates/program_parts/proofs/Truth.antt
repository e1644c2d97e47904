-- Arrays of marks: that each mark is true, that a cell is marked, and how passes keep both. Assumes nothing.
use mathlib.Core.Path.{◌≡◌, refl, ◌∙◌, ap, sym}
use mathlib.Core.List.{List}
use Prim.Native.Nat.{ℕ, zero, suc, ◌+◌, ◌-◌, ◌<◌}
use native.Mathlib.Omega.{arith}
use native.Mathlib.Decide.{ℕ_discrete, dec_lt}
use lib.ListN.{length, replicate, length-replicate, get_or-replicate, get_or-eq_default}
use Rattle.words.specs.Words.{word, set_word}
use Rattle.words.proofs.Laws.{word_same, word_other, set_past}
use Rattle.program_marks.specs.Marks.{each_below}

pub clash : (w y : ℕ) → w ≡ 1 + y → w ≡ 0 → ⊥
clash w y e z = omega arith

-- a mark 1 + w in cell 1 + a is true: T a w
pub record True (T : ℕ → ℕ → Type 0) (m : List ℕ) : Type 0 where
  pub tells : (a w : ℕ) → word m (1 + a) ≡ 1 + w → T a w

-- cell 1 + a is marked
pub record Marked (m : List ℕ) (a : ℕ) : Type 0 where
  pub some : 0 < word m (1 + a)

pub mark : (m : List ℕ) (a : ℕ) → Marked m a → word m (1 + a) ≡ 1 + (word m (1 + a) - 1)
mark m a h = let s = h.some in omega arith

-- ---- One write

module _ (m : List ℕ) (c v : ℕ) where
  -- a cell that a write changes is the one written
  written : (k : ℕ) → (word (set_word m c v) k ≡ word m k → ⊥) → (k ≡ c) × (word (set_word m c v) k ≡ v)
  written k ne = go (ℕ_discrete k c) (dec_lt c (length m))
    where
      go : Dec (k ≡ c) → Dec (c < length m) → (k ≡ c) × (word (set_word m c v) k ≡ v)
      go (no q) w = absurd (ne (word_other m c k v (word m k) q refl))
      go (yes q) (no ge) = absurd (ne (ap (λ (l : List ℕ). word l k) (sym (set_past m c v (omega arith)))))
      go (yes q) (yes lt) = (q, ap (word (set_word m c v)) q ∙ word_same m c v lt)

  pub true_set : (T : ℕ → ℕ → Type 0) → True T m → ((a w : ℕ) → c ≡ 1 + a → v ≡ 1 + w → T a w) → True T (set_word m c v)
  true_set T u f = record { tells = tells }
    where
      tells : (a w : ℕ) → word (set_word m c v) (1 + a) ≡ 1 + w → T a w
      tells a w e = go (ℕ_discrete (word (set_word m c v) (1 + a)) (word m (1 + a)))
        where
          go : Dec (word (set_word m c v) (1 + a) ≡ word m (1 + a)) → T a w
          go (yes q) = u.tells a w (sym q ∙ e)
          go (no q) = let x = written (1 + a) q in f a w (sym x.0) (sym x.1 ∙ e)

  pub marked_set : (a : ℕ) → 0 < v → Marked m a → Marked (set_word m c v) a
  marked_set a pv h = go (ℕ_discrete (word (set_word m c v) (1 + a)) (word m (1 + a)))
    where
      go : Dec (word (set_word m c v) (1 + a) ≡ word m (1 + a)) → Marked (set_word m c v) a
      go (yes q) = record { some = omega (arith, h.some) }
      go (no q) = let x = (written (1 + a) q).1 in record { some = omega arith }

pub marked_here : (m : List ℕ) (c v a : ℕ) → c ≡ 1 + a → 1 + a < length m → 0 < v → Marked (set_word m c v) a
marked_here m c v a e lt pv =
    let s : word (set_word m c v) c ≡ v = word_same m c v (omega arith) in
    let q : word (set_word m c v) (1 + a) ≡ v = ap (word (set_word m c v)) (sym e) ∙ s in
    record { some = omega arith }

-- ---- Passes

pub each_true : (T : ℕ → ℕ → Type 0) (f : ℕ → List ℕ → List ℕ) (n : ℕ) (m : List ℕ)
    → ((i : ℕ) (l : List ℕ) → i < n → True T l → True T (f i l)) → True T m → True T (each_below f n m)
unfolding each_below
each_true T f zero m s u = u
each_true T f (suc n) m s u = s n (each_below f n m) (omega arith) (each_true T f n m (λ i l lt w. s i l (omega arith) w) u)

pub each_size : (f : ℕ → List ℕ → List ℕ) (n : ℕ) (m : List ℕ) → ((i : ℕ) (l : List ℕ) → length (f i l) ≡ length l) → length (each_below f n m) ≡ length m
unfolding each_below
each_size f zero m s = refl
each_size f (suc n) m s = s n (each_below f n m) ∙ each_size f n m s

-- what keeps a cell marked, and keeps the array's length
pub record Keeps (f : ℕ → List ℕ → List ℕ) (a : ℕ) : Type 0 where
  pub size : (i : ℕ) (l : List ℕ) → length (f i l) ≡ length l
  pub keeps : (i : ℕ) (l : List ℕ) → Marked l a → Marked (f i l) a

pub each_keeps : (f : ℕ → List ℕ → List ℕ) (n : ℕ) (m : List ℕ) (a : ℕ) → Keeps f a → Marked m a → Marked (each_below f n m) a
unfolding each_below
each_keeps f zero m a k h = h
each_keeps f (suc n) m a k h = k.keeps n (each_below f n m) (each_keeps f n m a k h)

-- a cell that turn i marks is marked at the end
pub each_marks : (f : ℕ → List ℕ → List ℕ) (n : ℕ) (m : List ℕ) (a i : ℕ) → Keeps f a → i < n
    → ((l : List ℕ) → length l ≡ length m → Marked (f i l) a) → Marked (each_below f n m) a
unfolding each_below
each_marks f zero m a i k lt h = absurd (omega arith)
each_marks f (suc n) m a i k lt h = go (ℕ_discrete i n) (λ l. each_marks f n m a i k l h)
  where
    go : Dec (i ≡ n) → (i < n → Marked (each_below f n m) a) → Marked (f n (each_below f n m)) a
    go (yes q) r = rw (← q) (h (each_below f i m) (each_size f i m k.size))
    go (no q) r = k.keeps n (each_below f n m) (r (omega arith))

-- ---- An array without marks

pub no_mark : (n k : ℕ) → word (replicate n 0) k ≡ 0
unfolding word
no_mark n k = go (dec_lt k n)
  where
    go : Dec (k < n) → word (replicate n 0) k ≡ 0
    go (yes lt) = get_or-replicate {A = ℕ} n k 0 0 lt
    go (no ge) = get_or-eq_default (replicate n 0) 0 {n = k} (omega (arith, length-replicate {A = ℕ} n 0))

pub none_true : (T : ℕ → ℕ → Type 0) (n : ℕ) → True T (replicate n 0)
none_true T n = record { tells = λ a w e. absurd (omega (arith, no_mark n (1 + a))) }
