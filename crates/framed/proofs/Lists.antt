-- Facts about places in lists, and about tests and counts over them. Nothing here is about Framed. Assumes nothing.
use mathlib.Core.Path.{◌≡◌, refl, sym, ◌∙◌, ap, subst}
use mathlib.Core.Bool.{Bool, true, false, ◌&&◌, ◌||◌, or-true, false≢true}
use mathlib.Core.List.{List, [], ◌∷◌, ◌++◌}
use mathlib.Core.Option.{Option, none as nothing, some}
use Prim.Native.Nat.{ℕ, zero, suc, ◌+◌}
use native.Mathlib.Omega.{arith}
use lib.ListN.{length, get_or, get_elem?}
use lib.Dec.{eqb}
use borrow.Author.Tests.{eqb-true, eq-eqb}
use Rattle.framed.specs.Common.{any, count, member, same, has_twice, ◌∈◌, here, later, Twice}
use Rattle.framed.proofs.General.{none≢some, some_inj}

-- ---- Tests

pub both : (a b : Bool) → a && b ≡ true → (a ≡ true) × (b ≡ true)
both true b e = (refl, e)
both false b e = absurd (false≢true e)

pub or_either : {C : Type 0} (a b : Bool) → (a || b) ≡ true → (a ≡ true → C) → (b ≡ true → C) → C
or_either true b e f g = f refl
or_either false b e f g = g e

or_left : {a : Bool} (b : Bool) → a ≡ true → (a || b) ≡ true
or_left b e = rw e

or_right : (a : Bool) {b : Bool} → b ≡ true → (a || b) ≡ true
or_right a e = rw e (or-true a)

-- ---- Places

abbrev pub or_else : {A : Type 0} → A → Option A → A
or_else d nothing = d
or_else d (some a) = a

pub none : {A C : Type 0} {x : A} → x ∈ [] → C
none = elim [ ]

module _ {A : Type 0} where
  pub in_front : {x : A} {xs : List A} (ys : List A) → x ∈ xs → x ∈ (xs ++ ys)
  in_front ys here = here
  in_front ys (later m) = later (in_front ys m)

  pub behind : {x : A} (xs : List A) {ys : List A} → x ∈ ys → x ∈ (xs ++ ys)
  behind [] m = m
  behind (y ∷ xs) m = later (behind xs m)

  pub place_in : (xs : List A) (i : ℕ) {x : A} → get_elem? xs i ≡ some x → x ∈ xs
  place_in [] i e = absurd (none≢some e)
  place_in (y ∷ xs) zero e = subst (λ (z : A). z ∈ (y ∷ xs)) (some_inj e) here
  place_in (y ∷ xs) (suc i) e = later (place_in xs i e)

  -- what stands at a place, or else d
  pub get_or_lem : (xs : List A) (n : ℕ) (d : A) → get_or xs n d ≡ or_else d (get_elem? xs n)
  get_or_lem [] n d = refl
  get_or_lem (x ∷ xs) zero d = refl
  get_or_lem (x ∷ xs) (suc n) d = get_or_lem xs n d

  pub get_default : (xs : List A) (n : ℕ) (d x : A) → get_elem? xs n ≡ some x → get_or xs n d ≡ x
  get_default xs n d x e = get_or_lem xs n d ∙ ap (or_else d) e

  pub get_seam : (xs : List A) (y : A) (ys : List A) → get_elem? (xs ++ y ∷ ys) (length xs) ≡ some y
  get_seam [] y ys = refl
  get_seam (x ∷ xs) y ys = get_seam xs y ys

-- a place in a list of two parts is in one of them
module _ {A C : Type 0} where
  pub cases : {x : A} (xs : List A) {ys : List A} → (x ∈ xs → C) → (x ∈ ys → C) → x ∈ (xs ++ ys) → C
  cases [] f g m = g m
  cases (y ∷ xs) f g here = f here
  cases (y ∷ xs) f g (later m) = cases xs (λ n. f (later n)) g m

  pub cases_front : {x : A} {xs : List A} (ys : List A) (f : x ∈ xs → C) (g : x ∈ ys → C) (m : x ∈ xs) → cases xs f g (in_front ys m) ≡ f m
  unfolding cases in_front
  cases_front ys f g here = refl
  cases_front ys f g (later m) = cases_front ys (λ n. f (later n)) g m

  pub cases_behind : {x : A} (xs : List A) {ys : List A} (f : x ∈ xs → C) (g : x ∈ ys → C) (m : x ∈ ys) → cases xs f g (behind xs m) ≡ g m
  unfolding cases behind
  cases_behind [] f g m = refl
  cases_behind (y ∷ xs) f g m = cases_behind xs (λ n. f (later n)) g m

  -- a map that agrees with another on both parts agrees with it on the whole
  pub cases_back : {B : Type 0} {x : A} (xs : List A) {ys : List A} (f : x ∈ xs → C) (g : x ∈ ys → C) (h : C → B) (k : x ∈ (xs ++ ys) → B) →
      ((m : x ∈ xs) → h (f m) ≡ k (in_front ys m)) → ((m : x ∈ ys) → h (g m) ≡ k (behind xs m)) → (m : x ∈ (xs ++ ys)) → h (cases xs f g m) ≡ k m
  unfolding cases in_front behind
  cases_back [] f g h k p q m = q m
  cases_back (y ∷ xs) f g h k p q here = p here
  cases_back (y ∷ xs) f g h k p q (later m) = cases_back xs (λ n. f (later n)) g h (λ n. k (later n)) (λ n. p (later n)) q m

-- ---- Tests that hold somewhere

module _ {A : Type 0} where
  pub any_found : (test : A → Bool) {x : A} {xs : List A} → x ∈ xs → test x ≡ true → any test xs ≡ true
  unfolding any
  any_found test here e = or_left _ e
  any_found test (later {y = y} m) e = or_right (test y) (any_found test m e)

  pub any_finds : (test : A → Bool) (xs : List A) → any test xs ≡ true → (x : A) × (x ∈ xs) × (test x ≡ true)
  unfolding any
  any_finds test [] e = absurd (false≢true e)
  any_finds test (x ∷ xs) e = or_either (test x) (any test xs) e (λ f. (x, here, f)) (λ f. let r = any_finds test xs f in (r.0, later r.1, r.2))

  pub count_append : (test : A → Bool) (xs ys : List A) → count test (xs ++ ys) ≡ count test xs + count test ys
  unfolding count
  count_append test [] ys = omega arith
  count_append test (x ∷ xs) ys = go (test x) (count_append test xs ys)
    where
      go : (t : Bool) → count test (xs ++ ys) ≡ count test xs + count test ys →
          ◌≡◌ {A = ℕ} (elim t [ true ↦ suc (count test (xs ++ ys)) | false ↦ count test (xs ++ ys) ]) ((elim t [ true ↦ suc (count test xs) | false ↦ count test xs ]) + count test ys)
      go true e = omega arith
      go false e = e

-- ---- Numbers in a list

member_true : {n : ℕ} {ns : List ℕ} → n ∈ ns → member n ns ≡ true
unfolding member
member_true {n} m = any_found (eqb n) m (eq-eqb n n refl)

member_in : (n : ℕ) (ns : List ℕ) → member n ns ≡ true → n ∈ ns
unfolding member
member_in n ns e = let r = any_finds (eqb n) ns e in subst (λ (k : ℕ). k ∈ ns) (sym (eqb-true n r.0 r.2)) r.1

pub twice_true : {ns : List ℕ} → Twice ns → has_twice ns ≡ true
unfolding has_twice
twice_true (Twice.first m) = or_left _ (member_true m)
twice_true (Twice.rest {x = n} {xs = ns} t) = or_right (member n ns) (twice_true t)

pub has_twice_in : (ns : List ℕ) → has_twice ns ≡ true → Twice ns
unfolding has_twice
has_twice_in [] e = absurd (false≢true e)
has_twice_in (n ∷ ns) e = or_either (member n ns) (has_twice ns) e (λ f. Twice.first (member_in n ns f)) (λ f. Twice.rest (has_twice_in ns f))

-- ---- Equal lists of numbers

pub same_self : (w : List ℕ) → same w w ≡ true
unfolding same
same_self [] = refl
same_self (x ∷ w) = rw (eq-eqb x x refl, same_self w)

pub same_equal : (v w : List ℕ) → same v w ≡ true → v ≡ w
unfolding same
same_equal [] [] e = refl
same_equal [] (y ∷ w) e = absurd (false≢true e)
same_equal (x ∷ v) [] e = absurd (false≢true e)
same_equal (x ∷ v) (y ∷ w) e = go (eqb x y) refl e (λ f. same_equal v w f)
  where
    go : (t : Bool) → eqb x y ≡ t → (t && same v w) ≡ true → (same v w ≡ true → v ≡ w) → (x ∷ v) ≡ (y ∷ w)
    go true p q k = let h = eqb-true x y p in let i = k q in cc
    go false p q k = absurd (false≢true q)

-- compared the other way round
pub same_turned : (v w : List ℕ) → same v w ≡ true → same w v ≡ true
same_turned v w e = subst (λ (u : List ℕ). same u v ≡ true) (same_equal v w e) (same_self v)

pub not_turned : (v w : List ℕ) → same v w ≡ false → same w v ≡ false
not_turned v w e = go (same w v) refl
  where
    go : (t : Bool) → same w v ≡ t → t ≡ false
    go true q = sym (same_turned w v q) ∙ e
    go false q = refl
