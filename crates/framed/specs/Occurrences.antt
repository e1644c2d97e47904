-- Document 01, "Tokens and grammar" and "Limits and paths": which pieces occur in a tree, as relations, one constructor for each way in which a tree contains a piece.
-- `InBase place b x` says: the piece x occurs in the base b, which is written at this place. So for the others. A derivation is one occurrence:
-- `proofs/PiecesExact` shows that the list `Meaning.pieces` has each of them exactly once. Assumes nothing.
use Rattle.std.specs.Prelude.{ℕ}
use Rattle.framed.specs.Tokens.{Operator}
use Rattle.framed.specs.Tree.{Written, Base, Expression, Slots, Instruction, Code, ◌then◌}
use Rattle.framed.specs.Paths.{Place, within_slot, within_code, program_place}
use Rattle.framed.specs.Meaning.{Kind, Piece, slot_names}

mutual
  pub data InBase : Place → Base Written → Piece → Type 0 where
    string : {place : Place} {k : ℕ} → InBase place (Base.string k) (Piece.one Kind.string)
    path : {place : Place} {p : Written} → InBase place (Base.path p) (Piece.path place p)
    code : {place : Place} {k : ℕ} {is : Code Written} → InBase place (Base.code k is) (Piece.one Kind.code)
    in_code : {place : Place} {k : ℕ} {is : Code Written} {x : Piece} → InCode (within_code place) is x → InBase place (Base.code k is) x

  -- an operand is one expression, and contains what its base contains
  pub data InOperand : Place → Base Written → Piece → Type 0 where
    operand : {place : Place} {b : Base Written} → InOperand place b (Piece.one Kind.expression)
    in_operand : {place : Place} {b : Base Written} {x : Piece} → InBase place b x → InOperand place b x

  -- `inner` is the place of what is written in a frame that is this expression
  pub data InExpression : Place → Place → Expression Written → Piece → Type 0 where
    in_base : {place inner : Place} {b : Base Written} {x : Piece} → InBase place b x → InExpression place inner (Expression.base b) x
    not : {place inner : Place} {b : Base Written} → InExpression place inner (Expression.not b) (Piece.operator place)
    in_not : {place inner : Place} {b : Base Written} {x : Piece} → InOperand place b x → InExpression place inner (Expression.not b) x
    operator : {place inner : Place} {o : Operator} {a b : Base Written} →
        InExpression place inner (Expression.operation o a b) (Piece.operator place)
    in_left : {place inner : Place} {o : Operator} {a b : Base Written} {x : Piece} →
        InOperand place a x → InExpression place inner (Expression.operation o a b) x
    in_right : {place inner : Place} {o : Operator} {a b : Base Written} {x : Piece} →
        InOperand place b x → InExpression place inner (Expression.operation o a b) x
    frame : {place inner : Place} {ss : Slots Written} → InExpression place inner (Expression.frame ss) (Piece.frame inner (slot_names ss))
    in_frame : {place inner : Place} {ss : Slots Written} {x : Piece} → InSlots inner ss x → InExpression place inner (Expression.frame ss) x

  -- a right side of `:=` is one expression, and contains what is written in it
  pub data InRightSide : Place → Place → Expression Written → Piece → Type 0 where
    right_side : {place inner : Place} {e : Expression Written} → InRightSide place inner e (Piece.one Kind.expression)
    in_right_side : {place inner : Place} {e : Expression Written} {x : Piece} → InExpression place inner e x → InRightSide place inner e x

  pub data InSlots : Place → Slots Written → Piece → Type 0 where
    in_slot : {place : Place} {n : ℕ} {e : Expression Written} {ss : Slots Written} {x : Piece} →
        InRightSide place (within_slot n place) e x → InSlots place (Slots.slot n e ss) x
    later_slot : {place : Place} {n : ℕ} {e : Expression Written} {ss : Slots Written} {x : Piece} →
        InSlots place ss x → InSlots place (Slots.slot n e ss) x

  pub data InInstruction : Place → Instruction Written → Piece → Type 0 where
    assign : {place : Place} {p : Written} {e : Expression Written} → InInstruction place (Instruction.assign p e) (Piece.path place p)
    in_assign : {place : Place} {p : Written} {e : Expression Written} {x : Piece} →
        InRightSide place place e x → InInstruction place (Instruction.assign p e) x
    in_show : {place : Place} {a : Base Written} {x : Piece} → InOperand place a x → InInstruction place (Instruction.show a) x
    in_jump₁ : {place : Place} {a b : Base Written} {x : Piece} → InOperand place a x → InInstruction place (Instruction.jump a b) x
    in_jump₂ : {place : Place} {a b : Base Written} {x : Piece} → InOperand place b x → InInstruction place (Instruction.jump a b) x
    in_ifeq₁ : {place : Place} {a b c : Base Written} {x : Piece} → InOperand place a x → InInstruction place (Instruction.ifeq a b c) x
    in_ifeq₂ : {place : Place} {a b c : Base Written} {x : Piece} → InOperand place b x → InInstruction place (Instruction.ifeq a b c) x
    in_ifeq₃ : {place : Place} {a b c : Base Written} {x : Piece} → InOperand place c x → InInstruction place (Instruction.ifeq a b c) x

  pub data InCode : Place → Code Written → Piece → Type 0 where
    instruction : {place : Place} {i : Instruction Written} {is : Code Written} → InCode place (i then is) (Piece.one Kind.instruction)
    in_instruction : {place : Place} {i : Instruction Written} {is : Code Written} {x : Piece} →
        InInstruction place i x → InCode place (i then is) x
    later_instruction : {place : Place} {i : Instruction Written} {is : Code Written} {x : Piece} →
        InCode place is x → InCode place (i then is) x

-- in a source: its frame, the program frame, or a piece in the slots of that
pub data Occurs (ss : Slots Written) : Piece → Type 0 where
  program_frame : Occurs ss (Piece.frame program_place (slot_names ss))
  in_program_frame : {x : Piece} → InSlots program_place ss x → Occurs ss x
