-- Document 01, number 7: outside code there are only constants and frames of them; and number 12, so that their number is below F. Assumes nothing.
use Rattle.std.specs.Prelude.{List, ℕ, suc, ◌<◌, ℤ}
use Rattle.framed.specs.Tree.{Base, Expression, Slots, Code}
use Rattle.framed.specs.Paths.{Path}
use Rattle.framed.specs.Meaning.{Lengths}
use Rattle.framed.specs.Machine.{frame_literals_in}
use Rattle.framed.specs.Program.{Program}
use Rattle.accepted.specs.Accepted.{Accepted}

-- an integer, a string or a code
pub data Constant : Base Path → Type 0 where
  integer : {z : ℤ} → Constant (Base.integer z)
  string : {k : ℕ} → Constant (Base.string k)
  code : {k : ℕ} {is : Code Path} → Constant (Base.code k is)

mutual
  pub data ConstantExpression : Expression Path → Type 0 where
    base : {b : Base Path} → Constant b → ConstantExpression (Expression.base b)
    frame : {ss : Slots Path} → ConstantSlots ss → ConstantExpression (Expression.frame ss)

  pub data ConstantSlots : Slots Path → Type 0 where
    no_slots : ConstantSlots Slots.no_slots
    slot : {n : ℕ} {e : Expression Path} {ss : Slots Path} → ConstantExpression e → ConstantSlots ss → ConstantSlots (Slots.slot n e ss)

-- the program frame, the frames written in it, and one more are at most F
pub record WrittenFits (q : Program) (F : ℕ) : Type 0 where
  pub constant : ConstantSlots q.slots
  pub few : suc (frame_literals_in q.slots) < F

abbrev pub AcceptedWritten : Type 0
AcceptedWritten = (m : Lengths) (source : List ℕ) (F T : ℕ) (q : Program) → Accepted m source F T q → WrittenFits q F
