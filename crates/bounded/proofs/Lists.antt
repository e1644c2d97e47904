-- Lists and numbers: membership as a computed type, lists without duplicates, the pigeonhole over a one-to-one relation, the numbers below n at which a
-- partial function is defined, a list read after a write and after an append. Nothing here is about Framed. Assumes nothing.
use mathlib.Core.Path.{◌≡◌, refl, sym, ap, ◌∙◌, subst, fun_ext}
use mathlib.Core.Logic.{◌⊎◌, inl, inr, ⊎_elim, ◌≢◌}
use mathlib.Core.Bool.{Bool, true, false, ◌||◌, true≢false}
use mathlib.Core.Option.{Option, none, some}
use mathlib.Core.List.{List, [], ◌∷◌, ◌++◌}
use Prim.Native.Nat.{ℕ, zero, suc, ◌≤◌, ◌<◌, zero-le, suc-le-suc}
use native.Mathlib.Nat.{le_of_suc-le-suc, not-suc-le-zero}
use native.Mathlib.Decide.{ℕ_discrete}
use native.Mathlib.Omega.{arith}
use lib.ListN.{length, get_elem?, set}
use Rattle.framed.specs.Common.{member, has_twice}
use Rattle.framed.proofs.General.{none≢some}
use Rattle.framed.proofs.ReachCounts.{cons_cases, here, there, nothing_in}
use Rattle.bounded.specs.Views.{add_if, defined_below, used}

-- `x` stands in the list
abbrev pub In : {A : Type 0} → A → List A → Type 0
In x [] = ⊥
In x (y ∷ ys) = (x ≡ y) ⊎ In x ys

abbrev pub NoDup : {A : Type 0} → List A → Type 0
NoDup [] = Unit {0}
NoDup (x ∷ xs) = (In x xs → ⊥) × NoDup xs

-- the same by the tests
pub member_in : (n : ℕ) (ns : List ℕ) → member n ns ≡ true → In n ns
member_in n [] h = nothing_in n h
member_in n (m ∷ ns) h = ⊎_elim (λ e. inl e) (λ i. inr (member_in n ns i)) (cons_cases n m ns h)

pub in_member : (n : ℕ) (ns : List ℕ) → In n ns → member n ns ≡ true
in_member n [] i = absurd i
in_member n (m ∷ ns) (inl e) = here n m ns e
in_member n (m ∷ ns) (inr i) = there n m ns (in_member n ns i)

pub or_false : (a b : Bool) → (a || b) ≡ false → (a ≡ false) × (b ≡ false)
or_false true b e = absurd (true≢false e)
or_false false b e = (refl, e)

pub once_no_dup : (ns : List ℕ) → has_twice ns ≡ false → NoDup ns
unfolding has_twice
once_no_dup [] h = tt
once_no_dup (n ∷ ns) h =
    let o = or_false (member n ns) (has_twice ns) h in
    ((λ i. true≢false (sym (in_member n ns i) ∙ o.0)), once_no_dup ns o.1)

-- ---- The pigeonhole

-- the list without the one member
drop_one : {A : Type 0} (y : A) (ys : List A) → In y ys → List A
drop_one y [] m = []
drop_one y (z ∷ zs) (inl e) = zs
drop_one y (z ∷ zs) (inr m) = z ∷ drop_one y zs m

drop_one_length : {A : Type 0} (y : A) (ys : List A) (m : In y ys) → length ys ≡ suc (length (drop_one y ys m))
unfolding drop_one
drop_one_length y [] m = absurd m
drop_one_length y (z ∷ zs) (inl e) = refl
drop_one_length y (z ∷ zs) (inr m) = ap suc (drop_one_length y zs m)

drop_one_in : {A : Type 0} (y : A) (ys : List A) (m : In y ys) (x : A) → In x ys → (x ≡ y) ⊎ In x (drop_one y ys m)
unfolding drop_one
drop_one_in y [] m x i = absurd m
drop_one_in y (z ∷ zs) (inl e) x (inl f) = inl (f ∙ sym e)
drop_one_in y (z ∷ zs) (inl e) x (inr i) = inr i
drop_one_in y (z ∷ zs) (inr m) x (inl f) = inr (inl f)
drop_one_in y (z ∷ zs) (inr m) x (inr i) = ⊎_elim (λ e. inl e) (λ j. inr (inr j)) (drop_one_in y zs m x i)

-- a list without duplicates each of whose members has a partner in the other list, partners of two being two, is not longer
module _ {A B : Type 0} (Q : A → B → Type 0) (one : (a a' : A) (b : B) → Q a b → Q a' b → a ≡ a') where
  pub pigeon : (xs : List A) (ys : List B) → NoDup xs → ((x : A) → In x xs → (y : B) × Q x y × In y ys) → length xs ≤ length ys
  pigeon [] ys nd h = zero-le
  pigeon (x ∷ xs) ys nd h = rw (drop_one_length y ys m) (suc-le-suc (pigeon xs (drop_one y ys m) nd.1 partner))
    where
      y : B
      y = (h x (inl refl)).0

      m : In y ys
      m = (h x (inl refl)).2

      partner : (x' : A) → In x' xs → (y' : B) × Q x' y' × In y' (drop_one y ys m)
      partner x' i = step (h x' (inr i))
        where
          step : ((y' : B) × Q x' y' × In y' ys) → (y' : B) × Q x' y' × In y' (drop_one y ys m)
          step p = ⊎_elim (λ e. absurd (nd.0 (subst (λ z. In z xs) (one x' x y (subst (Q x') e p.1) (h x (inl refl)).1) i)))
              (λ j. (p.0, p.1, j)) (drop_one_in y ys m p.0 p.2)

-- the same over equality
subset_length : {A : Type 0} (xs ys : List A) → NoDup xs → ((x : A) → In x xs → In x ys) → length xs ≤ length ys
subset_length {A} xs ys nd h = pigeon (λ (x y : A). x ≡ y) (λ a a' b p q. p ∙ sym q) xs ys nd (λ x i. (x, refl, h x i))

-- ---- How many are defined

module _ {A : Type 0} where
  abbrev pub Defined : (ℕ → Option A) → ℕ → Type 0
  Defined H k = (f : A) × (H k ≡ some f)

  used_sound : (H : ℕ → Option A) (n k : ℕ) → In k (defined_below H n) → (k < n) × Defined H k
  used_sound H zero k i = absurd i
  used_sound H (suc n) k i = step (H n) refl i (λ j. used_sound H n k j)
    where
      up : (k < n) × Defined H k → (k < suc n) × Defined H k
      up p = let h = p.0 in (omega arith, p.1)

      step : (o : Option A) → H n ≡ o → In k (add_if o n (defined_below H n)) → (In k (defined_below H n) → (k < n) × Defined H k) → (k < suc n) × Defined H k
      step none e j r = up (r j)
      step (some f) e (inl q) r = (omega arith, (f, ap H q ∙ e))
      step (some f) e (inr j) r = up (r j)

  add_if_in : (o : Option A) (n k : ℕ) (l : List ℕ) → In k l → In k (add_if o n l)
  add_if_in none n k l i = i
  add_if_in (some f) n k l i = inr i

  used_complete : (H : ℕ → Option A) (n k : ℕ) → k < n → Defined H k → In k (defined_below H n)
  used_complete H zero k h d = absurd (not-suc-le-zero h)
  used_complete H (suc n) k h d = step (ℕ_discrete k n) (λ g. used_complete H n k g d)
    where
      step : Dec (k ≡ n) → (k < n → In k (defined_below H n)) → In k (add_if (H n) n (defined_below H n))
      step (yes e) r = rw (sym (ap H e) ∙ d.1) (inl e)
      step (no e) r = add_if_in (H n) n k (defined_below H n) (r (omega arith))

  used_no_dup : (H : ℕ → Option A) (n : ℕ) → NoDup (defined_below H n)
  used_no_dup H zero = tt
  used_no_dup H (suc n) = step (H n) (used_no_dup H n)
    where
      step : (o : Option A) → NoDup (defined_below H n) → NoDup (add_if o n (defined_below H n))
      step none nd = nd
      step (some f) nd = ((λ i. let h = (used_sound H n n i).0 in omega arith), nd)

  -- the length of any list without duplicates of exactly these
  pub used_is : (H : ℕ → Option A) (n : ℕ) (l : List ℕ) → NoDup l → ((k : ℕ) → In k l → (k < n) × Defined H k) → ((k : ℕ) → k < n → Defined H k → In k l) → used H n ≡ length l
  unfolding used
  used_is H n l nd s c =
      let p = subset_length (defined_below H n) l (used_no_dup H n) (λ k i. let q = used_sound H n k i in c k q.0 q.1) in
      let q = subset_length l (defined_below H n) nd (λ k i. used_complete H n k (s k i).0 (s k i).1) in
      omega arith

  pub used_at_least : (H : ℕ → Option A) (n : ℕ) (l : List ℕ) → NoDup l → ((k : ℕ) → In k l → (k < n) × Defined H k) → length l ≤ used H n
  unfolding used
  used_at_least H n l nd s = subset_length l (defined_below H n) nd (λ k i. used_complete H n k (s k i).0 (s k i).1)

  -- how many after a write at one number
  pub used_new : (H H' : ℕ → Option A) (n k : ℕ) (f : A) → k < n → H k ≡ none → H' k ≡ some f → ((m : ℕ) → m ≢ k → H' m ≡ H m) → used H' n ≡ suc (used H n)
  unfolding used
  used_new H H' n k f b hk here there = used_is H' n (k ∷ defined_below H n) ((λ i. fresh (used_sound H n k i).1), used_no_dup H n) sound complete
    where
      fresh : Defined H k → ⊥
      fresh d = none≢some (sym hk ∙ d.1)

      sound : (m : ℕ) → In m (k ∷ defined_below H n) → (m < n) × Defined H' m
      sound m (inl e) = (rw e b, (f, ap H' e ∙ here))
      sound m (inr i) = let q = used_sound H n m i in (q.0, (q.1.0, there m (λ e. fresh (q.1.0, sym (ap H e) ∙ q.1.1)) ∙ q.1.1))

      complete : (m : ℕ) → m < n → Defined H' m → In m (k ∷ defined_below H n)
      complete m l d = step (ℕ_discrete m k)
        where
          step : Dec (m ≡ k) → In m (k ∷ defined_below H n)
          step (yes e) = inl e
          step (no e) = inr (used_complete H n m l (d.0, sym (there m e) ∙ d.1))

  pub used_old : (H H' : ℕ → Option A) (n k : ℕ) (f g : A) → H k ≡ some g → H' k ≡ some f → ((m : ℕ) → m ≢ k → H' m ≡ H m) → used H' n ≡ used H n
  unfolding used
  used_old H H' n k f g hk here there = used_is H' n (defined_below H n) (used_no_dup H n) sound complete
    where
      to : (m : ℕ) → Dec (m ≡ k) → Defined H m → Defined H' m
      to m (yes e) d = (f, ap H' e ∙ here)
      to m (no e) d = (d.0, there m e ∙ d.1)

      back : (m : ℕ) → Dec (m ≡ k) → Defined H' m → Defined H m
      back m (yes e) d = (g, ap H e ∙ hk)
      back m (no e) d = (d.0, sym (there m e) ∙ d.1)

      sound : (m : ℕ) → In m (defined_below H n) → (m < n) × Defined H' m
      sound m i = let q = used_sound H n m i in (q.0, to m (ℕ_discrete m k) q.1)

      complete : (m : ℕ) → m < n → Defined H' m → In m (defined_below H n)
      complete m l d = used_complete H n m l (back m (ℕ_discrete m k) d)

  pub used_same : (H H' : ℕ → Option A) (n : ℕ) → ((m : ℕ) → H' m ≡ H m) → used H' n ≡ used H n
  used_same H H' n e = ap (λ h. used h n) (fun_ext e)

-- ---- A list, read after a write and after an append

module _ {A : Type 0} where
  pub get_below : (l : List A) (n : ℕ) (a : A) → get_elem? l n ≡ some a → n < length l
  get_below [] n a e = absurd (none≢some e)
  get_below (x ∷ l) zero a e = suc-le-suc zero-le
  get_below (x ∷ l) (suc n) a e = suc-le-suc (get_below l n a e)

  pub set_here : (l : List A) (n : ℕ) (a : A) → n < length l → get_elem? (set l n a) n ≡ some a
  set_here [] n a b = absurd (not-suc-le-zero b)
  set_here (x ∷ l) zero a b = refl
  set_here (x ∷ l) (suc n) a b = set_here l n a (le_of_suc-le-suc b)

  pub set_there : (l : List A) (n : ℕ) (a : A) (m : ℕ) → m ≢ n → get_elem? (set l n a) m ≡ get_elem? l m
  set_there [] n a m b = refl
  set_there (x ∷ l) zero a zero b = absurd (b refl)
  set_there (x ∷ l) zero a (suc m) b = refl
  set_there (x ∷ l) (suc n) a zero b = refl
  set_there (x ∷ l) (suc n) a (suc m) b = set_there l n a m (λ e. b (ap suc e))

  pub get_end : (l : List A) → get_elem? l (length l) ≡ none
  get_end [] = refl
  get_end (x ∷ l) = get_end l

  pub new_here : (l : List A) (a : A) → get_elem? (l ++ a ∷ []) (length l) ≡ some a
  new_here [] a = refl
  new_here (x ∷ l) a = new_here l a

  pub new_there : (l : List A) (a : A) (m : ℕ) → m ≢ length l → get_elem? (l ++ a ∷ []) m ≡ get_elem? l m
  new_there [] a zero b = absurd (b refl)
  new_there [] a (suc m) b = refl
  new_there (x ∷ l) a zero b = refl
  new_there (x ∷ l) a (suc m) b = new_there l a m (λ e. b (ap suc e))
