-- One law for each way through the test. Assumes nothing.
use mathlib.Core.Path.{◌≡◌, ◌∙◌}
use mathlib.Core.Bool.{Bool, true, false}
use mathlib.Core.List.{List}
use Prim.Native.Nat.{ℕ}
use lib.ListN.{length}
use borrow.Author.Tests.{eq-eqb, ne_eqb}
use Rattle.program_entries.specs.Tests.{entries_ok}
use Rattle.program_parts.specs.Tests.{parts_ok}
use Rattle.program_form.specs.WellFormed.{program_well_formed}

pub words_short : (p l : List ℕ) → (length p ≡ 16384 → ⊥) → false ≡ program_well_formed p l
unfolding program_well_formed
words_short p l ne = rw (ne_eqb _ _ ne)

module _ (p l : List ℕ) (lp : length p ≡ 16384) where
  pub bytes_short : (length l ≡ 8192 → ⊥) → false ≡ program_well_formed p l
  unfolding program_well_formed
  bytes_short ne = rw (eq-eqb _ _ lp, ne_eqb _ _ ne)

  module _ (ll : length l ≡ 8192) (a : Bool) (ea : a ≡ entries_ok p l) where
    pub entries_bad : a ≡ false → a ≡ program_well_formed p l
    unfolding program_well_formed
    entries_bad e =
        let f : false ≡ program_well_formed p l = rw (eq-eqb _ _ lp, eq-eqb _ _ ll, ← ea, e) in
        e ∙ f

    pub parts_tell : (r : Bool) → a ≡ true → r ≡ parts_ok p → r ≡ program_well_formed p l
    unfolding program_well_formed
    parts_tell r e er = rw (eq-eqb _ _ lp, eq-eqb _ _ ll, ← ea, e, er)
