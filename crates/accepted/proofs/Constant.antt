-- Outside code there are only constants and frames of them, and each such frame is counted. Assumes nothing.
use mathlib.Core.Path.{◌≡◌, sym, ap}
use mathlib.Core.Bool.{false, true≢false}
use mathlib.Core.List.{List, [], ◌∷◌, ◌++◌}
use Prim.Native.Nat.{ℕ, ◌≤◌, ◌<◌}
use native.Mathlib.Omega.{arith}
use Rattle.framed.specs.Common.{any, count}
use Rattle.framed.specs.Tree.{Written, Base, Expression, Slots}
use Rattle.framed.specs.Paths.{outside_code, within_slot, resolve_base, resolve_expression, resolve_slots, program_place}
use Rattle.framed.specs.Meaning.{base_pieces, expression_pieces, slots_pieces, pieces, outside, misplaced, frame_outside}
use Rattle.framed.specs.Machine.{frame_literals, frame_literals_in}
use Rattle.framed.specs.Program.{Program, program_of}
use Rattle.framed.proofs.General.{none_append}
use Rattle.framed.proofs.Lists.{count_append}
use Rattle.accepted.specs.Constant.{Constant, ConstantExpression, ConstantSlots, WrittenFits, AcceptedWritten}

base_constant : (b : Base Written) (ns : List ℕ) → any misplaced (base_pieces (outside_code ns) b) ≡ false → Constant (resolve_base (outside_code ns) b)
unfolding base_pieces misplaced outside resolve_base any
base_constant (Base.integer z) ns e = Constant.integer
base_constant (Base.string k) ns e = Constant.string
base_constant (Base.path p) ns e = absurd (true≢false e)
base_constant (Base.code k is) ns e = Constant.code

mutual
  unfolding base_pieces misplaced outside within_slot resolve_base any

  expression_constant : (e : Expression Written) (ns ms : List ℕ) → any misplaced (expression_pieces (outside_code ns) (outside_code ms) e) ≡ false →
      ConstantExpression (resolve_expression (outside_code ns) (outside_code ms) e)
  expression_constant (Expression.base b) ns ms c = ConstantExpression.base (base_constant b ns c)
  expression_constant (Expression.not b) ns ms c = absurd (true≢false c)
  expression_constant (Expression.operation o a b) ns ms c = absurd (true≢false c)
  expression_constant (Expression.frame ss) ns ms c = ConstantExpression.frame (slots_constant ss ms c)

  slots_constant : (ss : Slots Written) (ns : List ℕ) → any misplaced (slots_pieces (outside_code ns) ss) ≡ false → ConstantSlots (resolve_slots (outside_code ns) ss)
  slots_constant Slots.no_slots ns c = ConstantSlots.no_slots
  slots_constant (Slots.slot n e ss) ns c =
      let h = none_append misplaced (expression_pieces (outside_code ns) (outside_code (ns ++ (n ∷ []))) e) (slots_pieces (outside_code ns) ss) c in
      ConstantSlots.slot (expression_constant e ns (ns ++ (n ∷ [])) h.0) (slots_constant ss ns h.1)

mutual
  unfolding base_pieces frame_outside outside within_slot resolve_base count frame_literals

  expression_frames : (e : Expression Written) (ns ms : List ℕ) →
      frame_literals (resolve_expression (outside_code ns) (outside_code ms) e) ≤ count frame_outside (expression_pieces (outside_code ns) (outside_code ms) e)
  expression_frames (Expression.base b) ns ms = omega arith
  expression_frames (Expression.not b) ns ms = omega arith
  expression_frames (Expression.operation o a b) ns ms = omega arith
  expression_frames (Expression.frame ss) ns ms = omega (arith, slots_frames ss ms)

  slots_frames : (ss : Slots Written) (ns : List ℕ) → frame_literals_in (resolve_slots (outside_code ns) ss) ≤ count frame_outside (slots_pieces (outside_code ns) ss)
  slots_frames Slots.no_slots ns = omega arith
  slots_frames (Slots.slot n e ss) ns =
      omega (
        arith,
        count_append frame_outside (expression_pieces (outside_code ns) (outside_code (ns ++ (n ∷ []))) e) (slots_pieces (outside_code ns) ss),
        expression_frames e ns (ns ++ (n ∷ [])),
        slots_frames ss ns,
      )

written_fits : (ss : Slots Written) (F : ℕ) → any misplaced (pieces ss) ≡ false → count frame_outside (pieces ss) < F → (q : Program) → q.slots ≡ resolve_slots program_place ss → WrittenFits q F
unfolding pieces misplaced frame_outside outside any count
written_fits ss F c f q e = record { constant = rw e (slots_constant ss [] c); few = rw e (omega (arith, slots_frames ss [])) }

pub accepted_written : AcceptedWritten
unfolding program_of
accepted_written m source F T q a =
    let s = a.source_fits in
    written_fits s.tree F s.in_place s.few_frames q (ap (λ (r : Program). r.slots) (sym s.program_is))
