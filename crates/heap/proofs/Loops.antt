-- One law for each way through the functions of this crate that branch or loop. Assumes nothing.
use Prim.Native.Nat.{ℕ, suc, ◌+◌, ◌*◌, ◌≤◌, ◌<◌}
use mathlib.Core.Path.{◌≡◌, refl, ◌∙◌, ap, sym}
use mathlib.Core.List.{List}
use mathlib.Core.Bool.{Bool, true, false}
use native.Mathlib.Omega.{arith}
use native.Mathlib.Numerals.{add-one}
use lib.ListN.{length}
use borrow.Author.Tests.{le-leb, lt-leb, lt-ltb, le-ltb}
use Rattle.words.specs.Words.{set_word}
use Rattle.framed.specs.declared.Value.{Value}
use Rattle.heap.specs.Words.{slot_count_at, set_slot_value, add_slot_at, add_slot, take_text}
use Rattle.heap.specs.Lists.{passing}
use Rattle.heap.specs.Count.{Answers, Counted}
use Rattle.heap.proofs.Lists.{passing_yes, passing_no}

-- add_slot
module _ (h : List ℕ) (f x n : ℕ) (v : Value) (en : n ≡ slot_count_at h f) where
  pub add_full : 16 ≤ n → h ≡ add_slot h f x v
  unfolding add_slot
  add_full le = rw (← en, le-leb 16 n le)

  pub add_here : n < 16 → (a b c : List ℕ) (i j k : ℕ) → i ≡ f → j ≡ n → k ≡ f → a ≡ set_word h (131 + 51 * i + 3 * j) x → b ≡ set_slot_value a f n v
      → c ≡ set_word b (129 + 51 * k) (n + 1) → c ≡ add_slot h f x v
  unfolding add_slot add_slot_at
  add_here lt a b c i j k ei ej ek ea eb ec = rw (← en, lt-leb 16 n lt, ec, eb, ea, ei, ej, ek)

-- take_text
pub take_long : (h : List ℕ) (k n : ℕ) → 64 < n → h ≡ take_text h k n
unfolding take_text
take_long h k n lt = rw (lt-ltb 64 n lt)

pub take_short : (h h' : List ℕ) (k n i : ℕ) → n ≤ 64 → i ≡ k → h' ≡ set_word h (13184 + i) (n + 1) → h' ≡ take_text h k n
unfolding take_text
take_short h h' k n i le ei e = rw (le-ltb 64 n le, e, ei)

-- A loop that counts the numbers below 256 for which a closure answers yes: how many below i
pub record Tally (post : ℕ → Bool → Type 0) (i n : ℕ) : Type 0 where
  pub small : n ≤ i
  pub so_far : (t : ℕ → Bool) → Answers post 256 t → n ≡ length (passing t i)

pub tally_start : (post : ℕ → Bool → Type 0) → Tally post 0 0
unfolding passing
tally_start post = record { small = omega arith; so_far = λ t a. refl }

module _ (post : ℕ → Bool → Type 0) (i n : ℕ) (y : Tally post i n) where
  module _ (lt : i < 256) (b : Bool) (eb : post i b) where
    pub tally_yes : b ≡ true → Tally post (i + 1) (n + 1)
    tally_yes e = record {
      small = let s = y.small in omega arith;
      so_far = λ t a.
          let l : length (passing t (i + 1)) ≡ suc (length (passing t i)) = ap (λ (j : ℕ). length (passing t j)) (add-one i) ∙ passing_yes t i (sym (a.answer i b lt eb) ∙ e) in
          omega (arith, y.so_far t a);
    }

    pub tally_no : b ≡ false → Tally post (i + 1) n
    tally_no e = record {
      small = let s = y.small in omega arith;
      so_far = λ t a.
          let l : length (passing t (i + 1)) ≡ length (passing t i) = ap (λ (j : ℕ). length (passing t j)) (add-one i) ∙ passing_no t i (sym (a.answer i b lt eb) ∙ e) in
          omega (arith, y.so_far t a);
    }

  pub tally_done : 256 ≤ i → i ≤ 256 → Counted post n
  tally_done le ge t a = y.so_far t a ∙ ap (λ (j : ℕ). length (passing t j)) (omega arith)
