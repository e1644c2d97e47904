-- One law for each way through the functions of this crate. Assumes nothing.
use Prim.Native.Nat.{ℕ}
use mathlib.Core.Path.{◌≡◌}
use mathlib.Core.List.{List}
use borrow.Author.Tests.{eq-eqb, ne_eqb}
use Rattle.framed.specs.declared.Stop.{Stop}
use Rattle.heap.specs.Words.{position, end_mark}
use Rattle.stops.specs.Stops.{stop_of, stop_here}

-- ---- stop_of

module _ (e : ℕ) where
  pub stop_done : e ≡ 0 → Stop.Done ≡ stop_of e
  unfolding stop_of
  stop_done a = rw a

  module _ (n0 : e ≡ 0 → ⊥) where
    pub stop_31 : e ≡ 31 → Stop.NoRule ≡ stop_of e
    unfolding stop_of
    stop_31 a = rw a

    module _ (n1 : e ≡ 31 → ⊥) where
      pub stop_32 : e ≡ 32 → Stop.DivisorZero ≡ stop_of e
      unfolding stop_of
      stop_32 a = rw a

      module _ (n2 : e ≡ 32 → ⊥) where
        pub stop_33 : e ≡ 33 → Stop.IntegerRange ≡ stop_of e
        unfolding stop_of
        stop_33 a = rw a

        module _ (n3 : e ≡ 33 → ⊥) where
          pub stop_34 : e ≡ 34 → Stop.TextLength ≡ stop_of e
          unfolding stop_of
          stop_34 a = rw a

          module _ (n4 : e ≡ 34 → ⊥) where
            pub stop_35 : e ≡ 35 → Stop.SlotLimit ≡ stop_of e
            unfolding stop_of
            stop_35 a = rw a

            module _ (n5 : e ≡ 35 → ⊥) where
              pub stop_36 : e ≡ 36 → Stop.FramesFull ≡ stop_of e
              unfolding stop_of
              stop_36 a = rw a

              pub stop_37 : (e ≡ 36 → ⊥) → Stop.TextsFull ≡ stop_of e
              unfolding stop_of
              stop_37 n6 = rw (ne_eqb e 0 n0, ne_eqb e 31 n1, ne_eqb e 32 n2, ne_eqb e 33 n3, ne_eqb e 34 n4, ne_eqb e 35 n5, ne_eqb e 36 n6)

-- ---- stop_here

module _ (h : List ℕ) (e : ℕ) (ee : e ≡ end_mark h) where
  pub here_marked : (r : Stop) → (e ≡ 0 → ⊥) → r ≡ stop_of e → r ≡ stop_here h
  unfolding stop_here
  here_marked r ne er = rw (← ee, ne_eqb e 0 ne) er

  module _ (unmarked : e ≡ 0) (z : ℕ) (ez : z ≡ position h) where
    pub here_done : z ≡ 0 → Stop.Done ≡ stop_here h
    unfolding stop_here
    here_done zz = rw (← ee, eq-eqb e 0 unmarked, ← ez, eq-eqb z 0 zz)

    pub here_fuel : (z ≡ 0 → ⊥) → Stop.Fuel ≡ stop_here h
    unfolding stop_here
    here_fuel nz = rw (← ee, eq-eqb e 0 unmarked, ← ez, ne_eqb z 0 nz)
