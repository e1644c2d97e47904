-- The run's definition, way by way, and the number of each stop. Assumes nothing.
use Prim.Native.Nat.{ℕ, zero, suc, ◌≤◌}
use mathlib.Core.Path.{◌≡◌, ap, ap₂}
use mathlib.Core.Logic.{◌⊎◌, inl, inr}
use mathlib.Core.List.{List}
use native.Mathlib.Omega.{arith}
use native.Mathlib.Decide.{ℕ_discrete}
use Rattle.framed.specs.declared.Stop.{Stop}
use Rattle.framed.specs.Answers.{Stopped, stop_word}
use Rattle.heap.specs.Words.{position, end_mark}
use Rattle.step_parts.specs.Step.{attempt_step}
use Rattle.stops.specs.Stops.{stop_of}
use Rattle.run.specs.Run.{Finished, finished, unless_ended, after_attempt, run_from}

-- ---- Stops

pub stop_number : (e : ℕ) → (e ≡ 0) ⊎ ((31 ≤ e) × (e ≤ 37)) → stop_word (stop_of e) ≡ Stopped.end e
unfolding stop_of
stop_number e (inl z) = rw z
stop_number e (inr m) = go (ℕ_discrete e 31) (ℕ_discrete e 32) (ℕ_discrete e 33) (ℕ_discrete e 34) (ℕ_discrete e 35) (ℕ_discrete e 36)
  where
    lo : 31 ≤ e
    lo = m.0

    hi : e ≤ 37
    hi = m.1

    go : Dec (e ≡ 31) → Dec (e ≡ 32) → Dec (e ≡ 33) → Dec (e ≡ 34) → Dec (e ≡ 35) → Dec (e ≡ 36) → stop_word (stop_of e) ≡ Stopped.end e
    go (yes a) b c d f g = rw a
    go (no a) (yes b) c d f g = rw b
    go (no a) (no b) (yes c) d f g = rw c
    go (no a) (no b) (no c) (yes d) f g = rw d
    go (no a) (no b) (no c) (no d) (yes f) g = rw f
    go (no a) (no b) (no c) (no d) (no f) (yes g) = rw g
    go (no a) (no b) (no c) (no d) (no f) (no g) = let z : e ≡ 37 = omega arith in rw z

-- ---- Ways

module _ (m z : ℕ) (stop go : ℕ → Finished) where
  by_mark : (e : ℕ) → m ≡ suc e → unless_ended m z stop go ≡ stop (suc e)
  unfolding unless_ended
  by_mark e is = ap (λ (x : ℕ). unless_ended x z stop go) is

  by_done : m ≡ 0 → z ≡ 0 → unless_ended m z stop go ≡ stop 0
  unfolding unless_ended
  by_done em ez = ap₂ (λ (x y : ℕ). unless_ended x y stop go) em ez

  by_place : (i : ℕ) → m ≡ 0 → z ≡ suc i → unless_ended m z stop go ≡ go i
  unfolding unless_ended
  by_place i em ez = ap₂ (λ (x y : ℕ). unless_ended x y stop go) em ez

module _ (p l h t out : List ℕ) (used : ℕ) where
  pub run_marked : (fuel e : ℕ) → end_mark h ≡ suc e → run_from p l fuel h t out used ≡ finished (stop_of (suc e)) used h t out
  unfolding run_from
  run_marked zero e m = by_mark _ _ _ _ e m
  run_marked (suc fuel) e m = by_mark _ _ _ _ e m

  module _ (unmarked : end_mark h ≡ 0) where
    pub run_done : (fuel : ℕ) → position h ≡ 0 → run_from p l fuel h t out used ≡ finished (stop_of 0) used h t out
    unfolding run_from
    run_done zero z = by_done _ _ _ _ unmarked z
    run_done (suc fuel) z = by_done _ _ _ _ unmarked z

    module _ (i : ℕ) (here : position h ≡ suc i) where
      pub run_unfuelled : run_from p l 0 h t out used ≡ finished Stop.Fuel used h t out
      unfolding run_from
      run_unfuelled = by_place _ _ _ _ i unmarked here

      pub run_attempts : (fuel : ℕ) →
          run_from p l (suc fuel) h t out used ≡ after_attempt (λ h t out used. run_from p l fuel h t out used) used (attempt_step p l h t i out used)
      unfolding run_from
      run_attempts fuel = by_place _ _ _ _ i unmarked here
