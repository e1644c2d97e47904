-- Laws of the search for a name: a name's bytes compared from the front, and names tried in order. Assumes nothing.
use mathlib.Core.Path.{◌≡◌, refl, sym, ap, ◌∙◌}
use mathlib.Core.Bool.{Bool, true, false, ◌&&◌}
use mathlib.Core.List.{List, [], ◌∷◌}
use Prim.Native.Nat.{ℕ, zero, suc, ◌+◌, ◌-◌, ◌≤◌, ◌<◌}
use native.Mathlib.Numerals.{add-one}
use native.Mathlib.Omega.{arith}
use lib.Dec.{eqb}
use lib.ListN.{length, drop}
use lib.Seq.{drop-cons, drop-length}
use borrow.Author.Tests.{eq-eqb, ne_eqb}
use Rattle.words.specs.Words.{word}
use Rattle.framed.specs.Common.{same}
use Rattle.framed.specs.Symbols.{number_in}
use Rattle.lexeme.proofs.Same.{unequal}
use Rattle.tables.specs.Fields.{names, name_length, name_byte}
use Rattle.trees.specs.Held.{list_from, name_bytes, program_held}
use Rattle.look_names.specs.Names.{names_held}

-- ---- What a function gives from a number on

module _ {A : Type 0} (f : ℕ → A) where
  list_length : (n i : ℕ) → length (list_from f n i) ≡ n
  unfolding list_from
  list_length zero i = refl
  list_length (suc n) i = ap suc (list_length n (i + 1))

  -- of n the i-th on
  list_more : (n i : ℕ) → i < n → list_from f (n - i) i ≡ f i ∷ list_from f (n - (i + 1)) (i + 1)
  unfolding list_from
  list_more n i lt = let e : n - i ≡ suc (n - (i + 1)) = omega arith in ap (λ (m : ℕ). list_from f m i) e

  list_done : (n i : ℕ) → n ≤ i → list_from f (n - i) i ≡ []
  unfolding list_from
  list_done n i le = let e : n - i ≡ 0 = omega arith in ap (λ (m : ℕ). list_from f m i) e

-- the program's names
pub names_of_program : (p l : List ℕ) → (program_held p l).names ≡ names_held p
unfolding program_held names_held
names_of_program p l = refl

-- ---- is_name: what is left of the two decides

pub record Comparing (p : List ℕ) (k : ℕ) (w : List ℕ) (n i : ℕ) : Type 0 where
  pub inside : i ≤ n
  pub size : n ≡ length w
  pub rest : same (list_from (name_byte p k) (n - i) i) (drop i w) ≡ same (name_bytes p k) w

module _ (p : List ℕ) (k : ℕ) (w : List ℕ) (n m : ℕ) (en : n ≡ name_length p k) (em : m ≡ n) where
  pub lengths_apart : (m ≡ length w → ⊥) → false ≡ same (name_bytes p k) w
  unfolding name_bytes
  lengths_apart ne = sym (unequal (name_bytes p k) w (λ e. ne (em ∙ en ∙ sym (list_length (name_byte p k) (name_length p k) 0) ∙ e)))

  pub comparing_start : m ≡ length w → Comparing p k w n 0
  unfolding name_bytes
  comparing_start e =
      let z : n - 0 ≡ name_length p k = omega arith in
      record { inside = omega arith; size = sym em ∙ e; rest = rw z }

module _ (p : List ℕ) (k : ℕ) (w : List ℕ) (n i : ℕ) (c : Comparing p k w n i) where
  pub comparing_done : n ≤ i → true ≡ same (name_bytes p k) w
  unfolding same
  comparing_done le =
      let q = c.inside in
      let s = c.size in
      let e : i ≡ length w = omega arith in
      rw (list_done (name_byte p k) n i le, ap (λ (j : ℕ). drop j w) e ∙ drop-length w) at c.rest

  module _ (lt : i < n) (j b x : ℕ) (ej : j ≡ i) (eb : b ≡ word w j) (ex : x ≡ name_byte p k i) where
    turn : eqb x b && same (list_from (name_byte p k) (n - (i + 1)) (i + 1)) (drop (i + 1) w) ≡ same (name_bytes p k) w
    unfolding same word
    turn =
        let s = c.size in
        rw (add-one i, ex, eb, ej)
        (rw (list_more (name_byte p k) n i lt, drop-cons w i 0 (omega arith), add-one i) at c.rest)

    pub comparing_apart : (x ≡ b → ⊥) → false ≡ same (name_bytes p k) w
    comparing_apart ne = rw (ne_eqb x b ne) at turn

    pub comparing_again : x ≡ b → Comparing p k w n (i + 1)
    comparing_again e = record { inside = omega arith; size = c.size; rest = rw (eq-eqb x b e) at turn }

-- ---- name_number: none of the first k is the name

pub record Seeking (p w : List ℕ) (n k : ℕ) : Type 0 where
  pub inside : k ≤ n
  pub rest : k + number_in (list_from (name_bytes p) (n - k) k) w ≡ number_in (names_held p) w

pub seeking_start : (p w : List ℕ) (n : ℕ) → n ≡ names p → Seeking p w n 0
unfolding names_held
seeking_start p w n e =
    let z : n - 0 ≡ names p = omega arith in
    let u : 0 + number_in (names_held p) w ≡ number_in (names_held p) w = omega arith in
    record { inside = omega arith; rest = rw z u }

module _ (p w : List ℕ) (n k : ℕ) (c : Seeking p w n k) where
  pub seeking_done : n ≤ k → n ≡ number_in (names_held p) w
  unfolding number_in
  seeking_done le = let q = c.inside in let r = rw (list_done (name_bytes p) n k le) at c.rest in omega arith

  module _ (lt : k < n) (b : Bool) (eb : b ≡ same (name_bytes p k) w) where
    pub seeking_found : b ≡ true → k ≡ number_in (names_held p) w
    unfolding number_in
    seeking_found e = let r = rw (list_more (name_bytes p) n k lt, number_in, ← eb, e) at c.rest in omega arith

    pub seeking_again : b ≡ false → Seeking p w n (k + 1)
    unfolding number_in
    seeking_again e =
        let r = rw (list_more (name_bytes p) n k lt, number_in, ← eb, e) at c.rest in
        record { inside = omega arith; rest = omega arith }
