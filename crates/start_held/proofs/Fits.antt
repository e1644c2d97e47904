-- Constant slots of a shaped program fit the program (crate `bounded`). Assumes nothing.
use mathlib.Core.Path.{◌≡◌}
use mathlib.Core.Bool.{false}
use Prim.Native.Nat.{ℕ, ◌+◌, ◌≤◌}
use native.Mathlib.Omega.{arith}
use lib.ListN.{length}
use Rattle.framed.specs.Common.{member, has_twice}
use Rattle.framed.specs.Tree.{Base, Expression, Slots}
use Rattle.framed.specs.Paths.{Path}
use Rattle.framed.specs.Meaning.{slot_names}
use Rattle.framed.specs.Program.{Program}
use Rattle.framed.proofs.General.{or_none}
use Rattle.bounded.specs.Fits.{BaseFits, ExpressionFits, SlotsFit}
use Rattle.shapes.specs.Numbers.{base_size, expression_size, slots_size}
use Rattle.shapes.specs.Shape.{BaseShaped, ExpressionShaped, SlotsShaped}
use Rattle.accepted.specs.Constant.{Constant, ConstantExpression, ConstantSlots}

-- q has C codes
module _ (q : Program) (C : ℕ) (codes : C ≤ length q.codes) where
  abbrev N : ℕ
  N = length q.names

  abbrev S : ℕ
  S = length q.literals

  base_fits : (b : Base Path) (K : ℕ) → Constant b → BaseShaped N S K b → K + (base_size b).codes ≤ C → BaseFits q b
  unfolding base_size
  base_fits _ K Constant.integer (BaseShaped.integer r) le = r
  base_fits _ K Constant.string (BaseShaped.string lt) le = lt
  base_fits _ _ Constant.code (BaseShaped.code h) le = omega arith

  mutual
    unfolding base_size slot_names has_twice

    expression_fits : (e : Expression Path) (K : ℕ) → ConstantExpression e → ExpressionShaped N S K e → K + (expression_size e).codes ≤ C → ExpressionFits q e
    expression_fits _ K (ConstantExpression.base c) (ExpressionShaped.base h) le = base_fits _ K c h le
    expression_fits _ K (ConstantExpression.frame c) (ExpressionShaped.frame f h) le = (f.few, slots_fit _ K c h f.distinct le)

    pub slots_fit : (ss : Slots Path) (K : ℕ) → ConstantSlots ss → SlotsShaped N S K ss → has_twice (slot_names ss) ≡ false → K + (slots_size ss).codes ≤ C → SlotsFit q ss
    slots_fit _ K ConstantSlots.no_slots SlotsShaped.no_slots d le = tt
    slots_fit _ K (ConstantSlots.slot {n = n} {e = e} {ss = ss} c cs) (SlotsShaped.slot lt h hs) d le =
        let o = or_none (member n (slot_names ss)) (has_twice (slot_names ss)) d in
        (lt, o.0, expression_fits e K c h (omega arith), slots_fit ss _ cs hs o.1 (omega arith))
