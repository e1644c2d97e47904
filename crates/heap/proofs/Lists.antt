-- Lists made from the numbers below a bound, and lists of numbers without repeats. Nothing here is about Framed. Assumes nothing.
use Prim.Native.Nat.{ℕ, zero, suc, ◌+◌, ◌-◌, ◌≤◌, ◌<◌}
use mathlib.Core.Path.{◌≡◌, refl, ◌∙◌, ap, ap₂, sym, subst}
use mathlib.Core.Logic.{◌≢◌, ◌⊎◌, inl, inr, ⊎_elim}
use mathlib.Core.List.Memᴰ
use mathlib.Core.List.{List, [], ◌∷◌, ◌++◌, Memᴰ}
use mathlib.Core.Bool.{Bool, true, false, ◌||◌, true≢false}
use mathlib.Core.Option.{some, none}
use native.Mathlib.Omega.{arith}
use native.Mathlib.Decide.{ℕ_discrete, dec_lt}
use lib.ListN.{length, get_or, set, get_elem?, length-append, length-set, get_or-append, get_or-eq_default, replicate, length-replicate, get_or-replicate}
use lib.Seq.{get_or-append_seam, get_or-set_same, get_or-set_other, ext_get_or}
use lib.Dec.{eqb}
use borrow.Author.Tests.{eq-eqb, eqb-true}
use Rattle.words.specs.Words.{pick}
use Rattle.framed.specs.Common.{member, has_twice}
use Rattle.framed.proofs.ReachCounts.{cons_cases, here, there, nothing_in}
use Rattle.heap.specs.Lists.{listed, passing}

-- ---- What is left of a count

pub left_more : (n i : ℕ) → i < n → n - i ≡ suc (n - (i + 1))
left_more n i lt = omega arith

pub left_none : (n i : ℕ) → n ≤ i → n - i ≡ 0
left_none n i le = omega arith

-- ---- A list of zeros

pub zeros_at : (n j : ℕ) → ◌≡◌ {A = ℕ} (get_or (replicate n 0) j 0) 0
zeros_at n j = go (dec_lt j n)
  where
    go : Dec (j < n) → ◌≡◌ {A = ℕ} (get_or (replicate n 0) j 0) 0
    go (yes lt) = get_or-replicate n j 0 0 lt
    go (no ge) = get_or-eq_default (replicate n 0) 0 {n = j} (omega (arith, length-replicate {A = ℕ} n 0))

-- ---- What a function gives at each number below n

module _ {A : Type 0} where
  pub listed_length : (g : ℕ → A) (n : ℕ) → length (listed g n) ≡ n
  unfolding listed
  listed_length g zero = refl
  listed_length g (suc n) = let e : length (listed g n) ≡ n = listed_length g n in length-append (listed g n) (g n ∷ []) ∙ (let q : length (listed g n) + 1 ≡ suc n = omega arith in q)

  pub listed_at : (g : ℕ → A) (n k : ℕ) (d : A) → k < n → get_or (listed g n) k d ≡ g k
  unfolding listed
  listed_at g zero k d lt = absurd (omega arith)
  listed_at g (suc n) k d lt = go (ℕ_discrete k n) (listed_at g n k d)
    where
      go : Dec (k ≡ n) → (k < n → get_or (listed g n) k d ≡ g k) → get_or (listed g n ++ (g n ∷ [])) k d ≡ g k
      go (yes e) ih =
          let q : k ≡ length (listed g n) = e ∙ sym (listed_length g n) in
          rw q (get_or-append_seam (listed g n) (g n) [] d) ∙ ap g (sym e)
      go (no ne) ih =
          let l = listed_length g n in
          get_or-append (listed g n) (g n ∷ []) d k (omega arith) ∙ ih (omega arith)

  pub listed_past : (g : ℕ → A) (n k : ℕ) (d : A) → n ≤ k → get_or (listed g n) k d ≡ d
  listed_past g n k d le = get_or-eq_default (listed g n) d {n = k} (let l = listed_length g n in omega arith)

  -- the same where the functions agree
  pub listed_same : (g g' : ℕ → A) (n : ℕ) → ((k : ℕ) → k < n → g' k ≡ g k) → listed g' n ≡ listed g n
  unfolding listed
  listed_same g g' zero p = refl
  listed_same g g' (suc n) p =
      ap₂ (λ (l : List A) (a : A). l ++ (a ∷ [])) (listed_same g g' n (λ k lt. p k (omega arith))) (p n (omega arith))

  -- one place changed
  pub listed_set : (g g' : ℕ → A) (n k : ℕ) (a : A) → k < n → g' k ≡ a → ((j : ℕ) → j < n → j ≢ k → g' j ≡ g j) → listed g' n ≡ set (listed g n) k a
  listed_set g g' n k a lt e p =
      ext_get_or a (listed g' n) (set (listed g n) k a) (listed_length g' n ∙ sym (length-set (listed g n) k a ∙ listed_length g n)) (λ j jl. at j (let l = listed_length g' n in omega arith) (ℕ_discrete j k))
    where
      at : (j : ℕ) → j < n → Dec (j ≡ k) → get_or (listed g' n) j a ≡ get_or (set (listed g n) k a) j a
      at j jl (yes q) =
          listed_at g' n j a jl ∙ ap g' q ∙ e ∙ sym (rw q (get_or-set_same (listed g n) k a a (let l = listed_length g n in omega arith)))
      at j jl (no q) =
          listed_at g' n j a jl ∙ p j jl q ∙ sym (get_or-set_other (listed g n) k j a a q ∙ listed_at g n j a jl)

  -- membership
  pub listed_has : (g : ℕ → A) (n k : ℕ) → k < n → Memᴰ (g k) (listed g n)
  unfolding listed
  listed_has g zero k lt = absurd (omega arith)
  listed_has g (suc n) k lt = go (ℕ_discrete k n) (listed_has g n k)
    where
      go : Dec (k ≡ n) → (k < n → Memᴰ (g k) (listed g n)) → Memᴰ (g k) (listed g n ++ (g n ∷ []))
      go (yes e) ih = Memᴰ.append_right (listed g n) (Memᴰ.head (ap g e))
      go (no ne) ih = Memᴰ.append_left (g n ∷ []) (ih (omega arith))

  pub listed_from : (g : ℕ → A) (n : ℕ) {a : A} → Memᴰ a (listed g n) → (k : ℕ) × (k < n) × (a ≡ g k)
  unfolding listed
  listed_from g zero m = absurd (Memᴰ.not-nil m)
  listed_from g (suc n) {a} m =
      ⊎_elim (λ i. let r = listed_from g n i in let lt : r.0 < n = r.1 in (r.0, omega arith, r.2))
      (λ i. (n, omega arith, ⊎_elim (λ e. e) (λ j. absurd (Memᴰ.not-nil j)) (Memᴰ.cases_cons i)))
      (Memᴰ.append_cases (listed g n) m)

  -- reading by `get_elem?`
  pub elem_at : (l : List A) (k : ℕ) (d : A) → k < length l → get_elem? l k ≡ some (get_or l k d)
  elem_at [] k d lt = absurd (omega arith)
  elem_at (x ∷ l) zero d lt = refl
  elem_at (x ∷ l) (suc k) d lt = elem_at l k d (omega arith)

  pub elem_past : (l : List A) (k : ℕ) → length l ≤ k → get_elem? l k ≡ none
  elem_past [] k le = refl
  elem_past (x ∷ l) zero le = absurd (omega arith)
  elem_past (x ∷ l) (suc k) le = elem_past l k (omega arith)

  pub elem_set_same : (l : List A) (k : ℕ) (a : A) → k < length l → get_elem? (set l k a) k ≡ some a
  elem_set_same [] k a lt = absurd (omega arith)
  elem_set_same (x ∷ l) zero a lt = refl
  elem_set_same (x ∷ l) (suc k) a lt = elem_set_same l k a (omega arith)

  pub elem_set_other : (l : List A) (k j : ℕ) (a : A) → j ≢ k → get_elem? (set l k a) j ≡ get_elem? l j
  elem_set_other [] k j a ne = refl
  elem_set_other (x ∷ l) zero zero a ne = absurd (ne refl)
  elem_set_other (x ∷ l) zero (suc j) a ne = refl
  elem_set_other (x ∷ l) (suc k) zero a ne = refl
  elem_set_other (x ∷ l) (suc k) (suc j) a ne = elem_set_other l k j a (omega arith)

-- ---- Numbers in a list

infix 40 ◌∈◌
abbrev pub ◌∈◌ : ℕ → List ℕ → Type 0
n ∈ ns = member n ns ≡ true

-- the first x taken out
without : ℕ → List ℕ → List ℕ
without x [] = []
without x (y ∷ ys) = let r = without x ys in pick (eqb x y) ys (y ∷ r)

without_length : (x : ℕ) (ys : List ℕ) → x ∈ ys → length ys ≡ suc (length (without x ys))
unfolding without
without_length x [] h = absurd (nothing_in x h)
without_length x (y ∷ ys) h = go (eqb x y) refl (without_length x ys)
  where
    go : (b : Bool) → eqb x y ≡ b → (x ∈ ys → length ys ≡ suc (length (without x ys))) → suc (length ys) ≡ suc (length (pick b ys (y ∷ without x ys)))
    go true e ih = refl
    go false e ih = ⊎_elim (λ q. absurd (true≢false (sym (eq-eqb x y q) ∙ e))) (λ i. ap suc (ih i)) (cons_cases x y ys h)

without_has : (x k : ℕ) (ys : List ℕ) → k ≢ x → k ∈ ys → k ∈ without x ys
unfolding without
without_has x k [] ne h = h
without_has x k (y ∷ ys) ne h = go (eqb x y) refl (without_has x k ys ne) (cons_cases k y ys h)
  where
    go : (b : Bool) → eqb x y ≡ b → (k ∈ ys → k ∈ without x ys) → (k ≡ y) ⊎ (k ∈ ys) → k ∈ pick b ys (y ∷ without x ys)
    go true e ih (inl q) = absurd (ne (q ∙ sym (eqb-true x y e)))
    go true e ih (inr i) = i
    go false e ih (inl q) = here k y (without x ys) q
    go false e ih (inr i) = there k y (without x ys) (ih i)

or_parts : (a b : Bool) → a || b ≡ false → (a ≡ false) × (b ≡ false)
or_parts true b e = absurd (true≢false e)
or_parts false b e = (refl, e)

-- a list without repeats is no longer than one that has all its numbers
pub subset_length : (xs ys : List ℕ) → has_twice xs ≡ false → ((k : ℕ) → k ∈ xs → k ∈ ys) → length xs ≤ length ys
unfolding has_twice
subset_length [] ys o p = omega arith
subset_length (x ∷ xs) ys o p =
    let s = or_parts (member x xs) (has_twice xs) o in
    let l : length ys ≡ suc (length (without x ys)) = without_length x ys (p x (here x x xs refl)) in
    let r : length xs ≤ length (without x ys) = subset_length xs (without x ys) s.1
    (λ k i. without_has x k ys (λ q. true≢false (sym (subst (λ (j : ℕ). j ∈ xs) q i) ∙ s.0)) (p k (there k x xs i))) in
    omega arith

pub same_length : (xs ys : List ℕ) → has_twice xs ≡ false → has_twice ys ≡ false → ((k : ℕ) → k ∈ xs → k ∈ ys) → ((k : ℕ) → k ∈ ys → k ∈ xs) → length xs ≡ length ys
same_length xs ys o o' p q =
    let a : length xs ≤ length ys = subset_length xs ys o p in
    let b : length ys ≤ length xs = subset_length ys xs o' q in
    omega arith

-- ---- The numbers below n that pass a test

module _ (t : ℕ → Bool) where
  pub passing_yes : (n : ℕ) → t n ≡ true → length (passing t (suc n)) ≡ suc (length (passing t n))
  unfolding passing
  passing_yes n e = rw e

  pub passing_no : (n : ℕ) → t n ≡ false → length (passing t (suc n)) ≡ length (passing t n)
  unfolding passing
  passing_no n e = rw e

  pub passing_few : (n : ℕ) → length (passing t n) ≤ n
  unfolding passing
  passing_few zero = omega arith
  passing_few (suc n) = go (t n) (passing_few n)
    where
      go : (b : Bool) → length (passing t n) ≤ n → length (pick b (n ∷ passing t n) (passing t n)) ≤ suc n
      go true few = omega arith
      go false few = omega arith

  pub passing_means : (n k : ℕ) → k ∈ passing t n → (k < n) × (t k ≡ true)
  unfolding passing
  passing_means zero k h = absurd (nothing_in k h)
  passing_means (suc n) k h = go (t n) refl h (passing_means n k)
    where
      go : (b : Bool) → t n ≡ b → k ∈ pick b (n ∷ passing t n) (passing t n) → (k ∈ passing t n → (k < n) × (t k ≡ true)) → (k < suc n) × (t k ≡ true)
      go true e i ih =
          ⊎_elim (λ q. (omega arith, ap t q ∙ e)) (λ j. let r = ih j in let lt : k < n = r.0 in (omega arith, r.1)) (cons_cases k n (passing t n) i)
      go false e i ih = let r = ih i in let lt : k < n = r.0 in (omega arith, r.1)

  pub passing_has : (n k : ℕ) → k < n → t k ≡ true → k ∈ passing t n
  unfolding passing
  passing_has zero k lt e = absurd (omega arith)
  passing_has (suc n) k lt e = go (t n) refl (ℕ_discrete k n) (passing_has n k)
    where
      go : (b : Bool) → t n ≡ b → Dec (k ≡ n) → (k < n → t k ≡ true → k ∈ passing t n) → k ∈ pick b (n ∷ passing t n) (passing t n)
      go true f (yes q) ih = here k n (passing t n) q
      go true f (no q) ih = there k n (passing t n) (ih (omega arith) e)
      go false f (yes q) ih = absurd (true≢false (sym e ∙ ap t q ∙ f))
      go false f (no q) ih = ih (omega arith) e

  pub passing_once : (n : ℕ) → has_twice (passing t n) ≡ false
  unfolding passing has_twice
  passing_once zero = refl
  passing_once (suc n) = go (t n) (passing_once n)
    where
      new : (b : Bool) → member n (passing t n) ≡ b → b ≡ false
      new true e = absurd (let r = passing_means n n e in let lt : n < n = r.0 in omega arith)
      new false e = refl

      go : (b : Bool) → has_twice (passing t n) ≡ false → has_twice (pick b (n ∷ passing t n) (passing t n)) ≡ false
      go true o = rw (new (member n (passing t n)) refl, o)
      go false o = o

  -- one that does not pass leaves room
  pub passing_below : (n : ℕ) → length (passing t n) ≤ n
  unfolding passing
  passing_below zero = omega arith
  passing_below (suc n) = go (t n) (passing_below n)
    where
      go : (b : Bool) → length (passing t n) ≤ n → length (pick b (n ∷ passing t n) (passing t n)) ≤ suc n
      go true l = omega arith
      go false l = omega arith

  pub passing_room : (n k : ℕ) → k < n → t k ≡ false → length (passing t n) < n
  unfolding passing
  passing_room zero k lt e = absurd (omega arith)
  passing_room (suc n) k lt e = go (t n) refl (ℕ_discrete k n) (passing_room n k)
    where
      go : (b : Bool) → t n ≡ b → Dec (k ≡ n) → (k < n → t k ≡ false → length (passing t n) < n) → length (pick b (n ∷ passing t n) (passing t n)) < suc n
      go true f (yes q) ih = absurd (true≢false (sym f ∙ ap t (sym q) ∙ e))
      go true f (no q) ih = let r : length (passing t n) < n = ih (omega arith) e in omega arith
      go false f d ih = let r = passing_below n in omega arith

pub passing_none : (t : ℕ → Bool) (n : ℕ) → ((k : ℕ) → k < n → t k ≡ false) → length (passing t n) ≡ 0
unfolding passing
passing_none t zero p = refl
passing_none t (suc n) p = passing_no t n (p n (omega arith)) ∙ passing_none t n (λ k lt. p k (omega arith))

-- two tests that agree, or that agree but for one number
pub passing_same : (t t' : ℕ → Bool) (n : ℕ) → ((k : ℕ) → k < n → t' k ≡ t k) → passing t' n ≡ passing t n
unfolding passing
passing_same t t' zero p = refl
passing_same t t' (suc n) p = rw (p n (omega arith), passing_same t t' n (λ k lt. p k (omega arith)))

pub passing_more : (t t' : ℕ → Bool) (n k : ℕ) → k < n → t k ≡ false → t' k ≡ true → ((j : ℕ) → j < n → j ≢ k → t' j ≡ t j) → length (passing t' n) ≡ suc (length (passing t n))
passing_more t t' zero k lt e e' p = absurd (omega arith)
passing_more t t' (suc n) k lt e e' p = go (ℕ_discrete k n) (passing_more t t' n k)
  where
    step : (b : Bool) → t n ≡ b → t' n ≡ b → length (passing t' n) ≡ suc (length (passing t n)) → length (passing t' (suc n)) ≡ suc (length (passing t (suc n)))
    step true f f' i = let a = passing_yes t n f in let a' = passing_yes t' n f' in omega arith
    step false f f' i = let a = passing_no t n f in let a' = passing_no t' n f' in omega arith

    go : Dec (k ≡ n) → (k < n → t k ≡ false → t' k ≡ true → ((j : ℕ) → j < n → j ≢ k → t' j ≡ t j) → length (passing t' n) ≡ suc (length (passing t n)))
        → length (passing t' (suc n)) ≡ suc (length (passing t (suc n)))
    go (yes q) ih =
        let a : length (passing t (suc n)) ≡ length (passing t n) = passing_no t n (ap t (sym q) ∙ e) in
        let a' : length (passing t' (suc n)) ≡ suc (length (passing t' n)) = passing_yes t' n (ap t' (sym q) ∙ e') in
        let l : length (passing t' n) ≡ length (passing t n) = ap length (passing_same t t' n (λ j jl. p j (omega arith) (omega arith))) in
        omega arith
    go (no ne) ih =
        step (t n) refl (p n (omega arith) (λ q. ne (sym q))) (ih (omega arith) e e' (λ j jl jn. p j (omega arith) jn))
