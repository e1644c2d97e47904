-- Where number 7 does not hold, there is no operation outside code. Assumes nothing.
use mathlib.Core.Path.{◌≡◌}
use mathlib.Core.Bool.{false, true≢false}
use mathlib.Core.List.{List, [], ◌∷◌, ◌++◌}
use Prim.Native.Nat.{ℕ}
use Rattle.framed.specs.Common.{any}
use Rattle.framed.specs.Tree.{Written, Expression, Slots}
use Rattle.framed.specs.Paths.{outside_code, within_slot}
use Rattle.framed.specs.Meaning.{expression_pieces, slots_pieces, pieces, outside, misplaced}
use Rattle.framed.proofs.General.{none_append}
use Rattle.emit_tree.specs.Members.{NoOperation, NoOperationIn}

mutual
  unfolding expression_pieces misplaced outside within_slot any NoOperation

  expression_plain : (e : Expression Written) (ns ms : List ℕ) → any misplaced (expression_pieces (outside_code ns) (outside_code ms) e) ≡ false → NoOperation e
  expression_plain (Expression.base b) ns ms c = tt
  expression_plain (Expression.not b) ns ms c = tt
  expression_plain (Expression.operation o a b) ns ms c = true≢false c
  expression_plain (Expression.frame ss) ns ms c = slots_plain ss ms c

  slots_plain : (ss : Slots Written) (ns : List ℕ) → any misplaced (slots_pieces (outside_code ns) ss) ≡ false → NoOperationIn ss
  slots_plain Slots.no_slots ns c = tt
  slots_plain (Slots.slot n e ss) ns c =
      let h = none_append misplaced (expression_pieces (outside_code ns) (outside_code (ns ++ (n ∷ []))) e) (slots_pieces (outside_code ns) ss) c in
      (expression_plain e ns (ns ++ (n ∷ [])) h.0, slots_plain ss ns h.1)

pub no_operation : (ss : Slots Written) → any misplaced (pieces ss) ≡ false → NoOperationIn ss
unfolding pieces misplaced any
no_operation ss c = slots_plain ss [] c
