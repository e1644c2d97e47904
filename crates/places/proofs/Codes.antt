-- The place of a code's first instruction, and of the instruction after one. Assumes nothing.
use Prim.Native.Nat.{ℕ, zero, suc, ◌≤◌, ◌<◌}
use mathlib.Core.Path.{◌≡◌, refl, ◌∙◌, sym}
use mathlib.Core.List.{List}
use native.Mathlib.Omega.{arith}
use native.Mathlib.Decide.{dec_le}
use lib.ListN.{get_or}
use borrow.Author.Tests.{le-leb, lt-leb}
use Rattle.framed.specs.Tree.{Code}
use Rattle.framed.specs.Machine.{first_of}
use Rattle.tables.specs.Fields.{codes, code_first, instructions, instruction_after}
use Rattle.program_form.specs.WellFormed.{WellFormed}
use Rattle.program_form.specs.Sound.{Sound}
use Rattle.program_form.proofs.Decides.{sound}
use Rattle.trees.specs.Held as trees
use Rattle.trees.specs.Held.{remaining, list_from, OneLevel}
use Rattle.trees.proofs.Held.{one_level_held}
use Rattle.places.specs.Places.{first_place}

pub place_none : (p : List ℕ) (k c : ℕ) → c ≡ codes p → c ≤ k → 0 ≡ first_place p k
unfolding first_place
place_none p k c ec le = rw (← ec, le-leb c k le)

pub place_there : (p : List ℕ) (k c r : ℕ) → c ≡ codes p → k < c → r ≡ code_first p k → r ≡ first_place p k
unfolding first_place
place_there p k c r ec lt er = rw (← ec, lt-leb c k lt) er

list_past : {A : Type 0} (f : ℕ → A) (d : A) (n i k : ℕ) → n ≤ k → get_or (list_from f n i) k d ≡ d
unfolding list_from
list_past f d zero i k le = refl
list_past f d (suc n) i zero le = absurd (omega arith)
list_past f d (suc n) i (suc k) le = list_past f d n _ k (omega arith)

module _ (p l : List ℕ) (w : WellFormed p l) where
  one : OneLevel p l
  one = one_level_held p l w

  G : Sound p
  G = sound p l w

  pub code_at : (k : ℕ) → remaining p (first_place p k) ≡ get_or (trees.program_held p l).codes k Code.finished
  unfolding first_place trees.program_held
  code_at k = go (dec_le (codes p) k)
    where
      go : Dec (codes p ≤ k) → remaining p (first_place p k) ≡ get_or (trees.program_held p l).codes k Code.finished
      go (yes le) = rw (le-leb (codes p) k le) (one.finished ∙ sym (list_past (λ k. remaining p (code_first p k)) Code.finished (codes p) 0 k le))
      go (no lt) = rw (lt-leb (codes p) k (omega arith)) (sym (one.code k (omega arith)))

  -- it is the number of the code's first instruction
  pub place_begins : (k : ℕ) → first_place p k ≡ first_of (trees.program_held p l) k
  unfolding first_place trees.program_held first_of
  place_begins k = go (dec_le (codes p) k)
    where
      go : Dec (codes p ≤ k) → first_place p k ≡ first_of (trees.program_held p l) k
      go (yes le) = rw (le-leb (codes p) k le) (sym (list_past (code_first p) 0 (codes p) 0 k le))
      go (no lt) = rw (lt-leb (codes p) k (omega arith)) (sym (one.code_begins k (omega arith)))

  pub place_small : (k : ℕ) → first_place p k ≤ instructions p
  unfolding first_place
  place_small k = go (dec_le (codes p) k)
    where
      first : k < codes p → (z : ℕ) → code_first p k ≡ z → z ≤ instructions p
      first lt zero e = omega arith
      first lt (suc i) e = let q = G.first_there k i lt e in omega arith

      go : Dec (codes p ≤ k) → first_place p k ≤ instructions p
      go (yes le) = rw (le-leb (codes p) k le) (omega arith)
      go (no lt) = rw (lt-leb (codes p) k (omega arith)) (first (omega arith) (code_first p k) refl)

  pub after_small : (i : ℕ) → i < instructions p → instruction_after p i ≤ instructions p
  after_small i there = go (instruction_after p i) refl
    where
      go : (z : ℕ) → instruction_after p i ≡ z → z ≤ instructions p
      go zero e = omega arith
      go (suc k) e = let q = G.next_there i k there e in omega arith
