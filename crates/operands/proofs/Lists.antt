-- The two ways of listing what a function gives, from a number on (crate `trees`) and below a bound (crate `heap`), are the same. Assumes nothing.
use Prim.Native.Nat.{ℕ, zero, suc, ◌+◌}
use mathlib.Core.Path.{◌≡◌, refl, ◌∙◌, ap}
use mathlib.Core.List.{List, [], ◌∷◌, ◌++◌}
use native.Mathlib.Omega.{arith}
use Rattle.tables.specs.Fields.{path_name}
use Rattle.heap.specs.Lists.{listed}
use Rattle.paths.specs.Paths.{path_held}
use Rattle.trees.specs.Trees.{path_list}
use Rattle.trees.specs.Held.{list_from}

module _ {A : Type 0} where
  -- the last of them stands behind the others
  last_from : (f : ℕ → A) (n i : ℕ) → list_from f (suc n) i ≡ list_from f n i ++ (f (i + n) ∷ [])
  unfolding list_from
  last_from f zero i = let e : i ≡ i + 0 = omega arith in ap (λ (k : ℕ). f k ∷ []) e
  last_from f (suc n) i =
      let e : (i + 1) + n ≡ i + suc n = omega arith in
      ap (λ (l : List A). f i ∷ l) (last_from f n (i + 1) ∙ ap (λ (k : ℕ). list_from f n (i + 1) ++ (f k ∷ [])) e)

  pub from_listed : (f g : ℕ → A) (i : ℕ) → ((k : ℕ) → f (i + k) ≡ g k) → (n : ℕ) → list_from f n i ≡ listed g n
  unfolding list_from listed
  from_listed f g i same zero = refl
  from_listed f g i same (suc n) = last_from f n i ∙ rw (from_listed f g i same n, same n)

paths_from : (p : List ℕ) (n j : ℕ) → path_list p n j ≡ list_from (path_name p) n j
unfolding path_list list_from
paths_from p zero j = refl
paths_from p (suc n) j = ap (λ (l : List ℕ). path_name p j ∷ l) (paths_from p n (j + 1))

-- the names of a path
pub same_path : (p : List ℕ) (j n : ℕ) → path_list p n j ≡ path_held p j n
unfolding path_held
same_path p j n = paths_from p n j ∙ from_listed (path_name p) (λ i. path_name p (j + i)) j (λ k. refl) n
