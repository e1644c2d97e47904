-- Each marked frame counted for its maker: the counts after one frame more. Assumes nothing.
use Prim.Native.Nat.{ℕ, suc, ◌+◌, ◌≤◌, ◌<◌}
use mathlib.Core.Path.{◌≡◌, refl, sym, ◌∙◌, ap, subst}
use mathlib.Core.List.{List}
use native.Mathlib.Omega.{arith}
use native.Mathlib.Numerals.{add-one}
use lib.ListN.{length, get_or, set, replicate, length-replicate}
use lib.Seq.{ext_get_or}
use mir.Val.{Fits}
use mir.Syntax.{w32}
use borrow.Author.Tests.{eq-eqb, ne_eqb}
use Rattle.heap.specs.Words.{maker_at}
use Rattle.heap.specs.Lists.{passing}
use Rattle.heap.proofs.Lists.{zeros_at, listed_length, listed_at, listed_same, listed_set, passing_yes, passing_no, passing_few}
use Rattle.mark.specs.Reached.{Marked}
use Rattle.makers.specs.Makers.{marked_made, counts_below, count_for, CanCount, MakersFit}

-- ---- One count

pub counted_for : (h : List ℕ) (f m n : ℕ) (counts : List ℕ) → m ≡ maker_at h f → n ≡ m → set counts n (get_or counts n 0 + 1) ≡ count_for (maker_at h f) counts
unfolding count_for
counted_for h f m n counts e d = ap (λ (k : ℕ). set counts k (get_or counts k 0 + 1)) (d ∙ e)

pub count_there : (h : List ℕ) (f m n : ℕ) (counts : List ℕ) → CanCount h f counts → m ≡ maker_at h f → n ≡ m → n < 513
count_there h f m n counts a e d = let l = a.there in omega arith

pub count_fits : (h : List ℕ) (f m n : ℕ) (counts : List ℕ) → CanCount h f counts → m ≡ maker_at h f → n ≡ m → Fits w32 (get_or counts n 0 + 1)
count_fits h f m n counts a e d = let l = a.few in let q : get_or counts n 0 ≡ get_or counts (maker_at h f) 0 = ap (λ (k : ℕ). get_or counts k 0) (d ∙ e) in omega arith

-- ---- All of them

-- the first f frames are counted
pub record Tallied (h marks : List ℕ) (f : ℕ) (counts : List ℕ) : Type 0 where
  pub inside : f ≤ 256
  pub so_far : counts ≡ counts_below h marks f

pub none_counted : (h marks : List ℕ) → Tallied h marks 0 (replicate 513 0)
unfolding counts_below passing
none_counted h marks = record {
  inside = omega arith;
  so_far =
      ext_get_or 0 (replicate 513 0) (counts_below h marks 0) (length-replicate {A = ℕ} 513 0 ∙ sym (listed_length (λ n. length (passing (marked_made h marks n) 0)) 513))
      (λ n lt. zeros_at 513 n ∙ sym (listed_at (λ n. length (passing (marked_made h marks n) 0)) 513 n 0 (omega (arith, length-replicate {A = ℕ} 513 0))));
}

module _ (h marks : List ℕ) (f : ℕ) (counts : List ℕ) (a : Tallied h marks f counts) where
  abbrev made_below : ℕ → ℕ → ℕ
  made_below k n = length (passing (marked_made h marks n) k)

  count_at : (n : ℕ) → n < 513 → get_or counts n 0 ≡ made_below f n
  unfolding counts_below
  count_at n lt = ap (λ (l : List ℕ). get_or l n 0) a.so_far ∙ listed_at (made_below f) 513 n 0 lt

  module _ (lt : f < 256) where
    pub not_marked : (i : ℕ) (counts' : List ℕ) → i ≡ f → get_or marks i 0 ≡ 0 → counts' ≡ counts → Tallied h marks (f + 1) counts'
    unfolding counts_below marked_made
    not_marked i counts' q z₀ w = let z : get_or marks f 0 ≡ 0 = subst (λ (k : ℕ). get_or marks k 0 ≡ 0) q z₀ in record {
      inside = omega arith;
      so_far =
          w ∙ a.so_far ∙ sym (listed_same (made_below f) (made_below (f + 1)) 513 (λ n l. rw (add-one f) (passing_no (marked_made h marks n) f (rw (eq-eqb (get_or marks f 0) 0 z)))));
    }

    module _ (i : ℕ) (e : i ≡ f) (marked : get_or marks i 0 ≡ 0 → ⊥) (fit : MakersFit h marks) where
      marked_here : Marked marks f
      marked_here = subst (λ (k : ℕ). Marked marks k) e marked

      abbrev n : ℕ
      n = maker_at h f

      n_fits : n < 513
      n_fits = fit.fits f lt marked_here

      -- what count_frame requires
      pub can_count : CanCount h f counts
      can_count =
          let l = a.inside in
          record { there = n_fits; few = omega (arith, count_at n n_fits, passing_few (marked_made h marks n) f) }

      pub one_more : (counts' : List ℕ) → counts' ≡ count_for (maker_at h f) counts → Tallied h marks (f + 1) counts'
      unfolding counts_below marked_made count_for
      one_more counts' w = record {
        inside = omega arith;
        so_far =
            w
            ∙ ap (λ (k : List ℕ). set k n (get_or counts n 0 + 1)) a.so_far
            ∙ sym (listed_set (made_below f) (made_below (f + 1)) 513 n (get_or counts n 0 + 1) n_fits
            (rw (add-one f) (passing_yes (marked_made h marks n) f (rw (ne_eqb (get_or marks f 0) 0 marked_here) (eq-eqb (maker_at h f) n refl))) ∙ here)
            (λ k lk ne. rw (add-one f) (passing_no (marked_made h marks k) f (rw (ne_eqb (get_or marks f 0) 0 marked_here) (ne_eqb (maker_at h f) k (λ d. ne (sym d)))))));
      }
        where
          here : suc (made_below f n) ≡ get_or counts n 0 + 1
          here = omega (arith, count_at n n_fits)

  pub all_counted : 256 ≤ f → counts ≡ counts_below h marks 256
  all_counted le = let i = a.inside in let e : f ≡ 256 = omega arith in a.so_far ∙ ap (counts_below h marks) e

-- ---- The marks are those of what is reached

pub fit_marks : (h marks m : List ℕ) → marks ≡ m → MakersFit h m → MakersFit h marks
fit_marks h marks m e f = subst (λ (k : List ℕ). MakersFit h k) (sym e) f

pub below_marks : (h marks m counts : List ℕ) → marks ≡ m → counts ≡ counts_below h marks 256 → counts ≡ counts_below h m 256
below_marks h marks m counts e c = c ∙ ap (λ (k : List ℕ). counts_below h k 256) e
