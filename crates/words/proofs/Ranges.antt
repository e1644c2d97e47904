-- A test of every number below n, made by `all` over a range: `below_all` takes what the library says of the call. Assumes nothing.
use Prim.Native.Nat.{ℕ, ◌<◌}
use mathlib.Core.Path.{◌≡◌, refl, sym, ◌∙◌}
use mathlib.Core.Bool.{Bool, true, false, false≢true}
use native.Mathlib.Omega.{arith}
use lib.ListN.{length, get_or}
use denote.Param.Members.{Mut}
use Rattle.std.specs.Bool.{MatchBool}
use Rattle.std.specs.Fn.{Called}
use Rattle.std.specs.Iterator.{YieldsThen}
use Rattle.std.specs.List.{range_with_len, AllWithin, HoldsAt, FoldsTo}
use Rattle.std.specs.Option.{MatchOption}
use Rattle.std.specs.Prelude.{Option, List}
use Rattle.std.specs.declared.ops.Range.{Range}
use Rattle.std.proofs.iter.Yields.{nat_range_steps}
use Rattle.std.proofs.lemmas.Iterator.{cases_from_all, YieldsList-from_range}
use Rattle.std.proofs.lemmas.List.FromFn.{length-range_with_len, get_or-range_with_len}
use Rattle.words.specs.Words.{all_below}
use Rattle.words.proofs.Laws.{all_if, all_means}

here : (n i : ℕ) → i < n → get_or (range_with_len 0 n) i 0 ≡ i
here n i lt = get_or-range_with_len 0 n i 0 lt ∙ omega arith

below_from_all : (t : ℕ → Bool) (n : ℕ) (r : Bool)
    → MatchBool r (AllWithin (λ x. t x ≡ true) (range_with_len 0 n) 0 (length (range_with_len 0 n)))
    ((k : ℕ) × (k < length (range_with_len 0 n)) × HoldsAt (λ x. t x ≡ false) (range_with_len 0 n) k)
    → r ≡ all_below t n
below_from_all t n true m =
    sym (all_if t n (λ i lt. rw (here n i lt) at (m i 0 (omega arith) (rw (length-range_with_len 0 n) lt))))
below_from_all t n false (k, lt, f) = go (all_below t n) refl
  where
    small : k < n
    small = rw (length-range_with_len 0 n) at lt

    go : (b : Bool) → all_below t n ≡ b → false ≡ b
    go true e = absurd (false≢true (sym (rw (here n k small) at (f 0)) ∙ all_means t n e k small))
    go false e = refl

-- the test t, the bound n, two `_`, the call's clause `ran`, and what a call of the closure says where it answers true and where false
pub below_all : {F : Type 0} {g : Mut F (ℕ × Unit {0}) Bool} (t : ℕ → Bool) (n : ℕ) (u : Range ℕ) (f : F) {r : Bool}
    → (xs : List ℕ) × (o : Option ℕ) × (j : F) × YieldsThen nat_range_steps (record { start = 0; end = n }) xs o u × FoldsTo (λ p x q. Called g p (x, tt) true q) f xs j
    × MatchOption o (r ≡ true) (λ x. (r ≡ false) × ((h : F) × Called g j (x, tt) false h))
    → ((x : ℕ) (q : F) → Called g f (x, tt) true q → (q ≡ f) × (t x ≡ true))
    → ((x : ℕ) (q : F) → Called g f (x, tt) false q → t x ≡ false)
    → r ≡ all_below t n
below_all t n u f ran a b =
    below_from_all t n _ (cases_from_all u f _ (λ x. t x ≡ true) (λ x. t x ≡ false) ran (YieldsList-from_range 0 n n refl (omega arith)) a b)
