-- Document 01, "The endless machine", `==`, with document 02's A4: two codes are equal exactly when their instruction lists agree after paths are resolved, nested
-- codes by the same rule, frame literals slot by slot in order, string literals by their bytes, integers by their value. The numbers of code literals and of string
-- literals do not matter. The recursion is on the first tree, so it ends. Assumes nothing.
use Rattle.std.specs.Prelude.{Bool, true, false, ◌&&◌, List, [], ℕ, ℤ, get_or, eqb}
use Rattle.framed.specs.declared.Value.{Value}
use Rattle.framed.specs.Common.{same}
use Rattle.framed.specs.Tokens.{Operator}
use Rattle.framed.specs.Tree.{Base, Expression, Slots, Instruction, Code, ◌then◌}
use Rattle.framed.specs.Paths.{Path, from_self, from_program}
use Rattle.framed.specs.Program.{Program}
use Rattle.framed.specs.Values.{text_bytes, same_integer}

-- what a program fixes of values: the bytes of its string literals, and the instructions of its code literals
pub record Constants : Type 0 where
  pub literals : List (List ℕ)
  pub codes : List (Code Path)

abbrev pub constants : Program → Constants
constants p = record { literals = p.literals; codes = p.codes }

-- ---- Equal codes

-- both from self or both from the program, with the same resolved list
unfoldable pub same_path : Path → Path → Bool
same_path (from_self ns) q = elim q [ from_self ms ↦ same ns ms | from_program ms ↦ false ]
same_path (from_program ns) q = elim q [ from_self ms ↦ false | from_program ms ↦ same ns ms ]

-- operators are told apart by a number
unfoldable pub operator_number : Operator → ℕ
operator_number Operator.plus = 0
operator_number Operator.minus = 1
operator_number Operator.times = 2
operator_number Operator.over = 3
operator_number Operator.less = 4
operator_number Operator.join = 5
operator_number Operator.equal = 6
operator_number Operator.and = 7
operator_number Operator.or = 8

unfoldable mutual
  pub same_base : List (List ℕ) → Base Path → Base Path → Bool
  same_base literals (Base.integer y) b =
      elim b [ Base.integer z ↦ same_integer y z | Base.string l ↦ false | Base.path q ↦ false | Base.code l js ↦ false ]
  same_base literals (Base.string k) b =
      elim b [ Base.integer z ↦ false | Base.string l ↦ same (get_or literals k []) (get_or literals l []) | Base.path q ↦ false | Base.code l js ↦ false ]
  same_base literals (Base.path p) b =
      elim b [ Base.integer z ↦ false | Base.string l ↦ false | Base.path q ↦ same_path p q | Base.code l js ↦ false ]
  same_base literals (Base.code k is) b =
      elim b [ Base.integer z ↦ false | Base.string l ↦ false | Base.path q ↦ false | Base.code l js ↦ same_code literals is js ]

  pub same_expression : List (List ℕ) → Expression Path → Expression Path → Bool
  same_expression literals (Expression.base a) e =
      elim e [ Expression.base b ↦ same_base literals a b | Expression.not b ↦ false | Expression.operation o b c ↦ false | Expression.frame ts ↦ false ]
  same_expression literals (Expression.not a) e =
      elim e [ Expression.base b ↦ false | Expression.not b ↦ same_base literals a b | Expression.operation o b c ↦ false | Expression.frame ts ↦ false ]
  same_expression literals (Expression.operation o a b) e =
      elim e [
        | Expression.base c ↦ false
        | Expression.not c ↦ false
        | Expression.operation q c d ↦ eqb (operator_number o) (operator_number q) && (same_base literals a c && same_base literals b d)
        | Expression.frame ts ↦ false
      ]
  same_expression literals (Expression.frame ss) e =
      elim e [ Expression.base b ↦ false | Expression.not b ↦ false | Expression.operation o b c ↦ false | Expression.frame ts ↦ same_slots literals ss ts ]

  -- slot by slot in order: the name and the expression
  pub same_slots : List (List ℕ) → Slots Path → Slots Path → Bool
  same_slots literals Slots.no_slots ts = elim ts [ Slots.no_slots ↦ true | Slots.slot m f us ↦ false ]
  same_slots literals (Slots.slot n e ss) ts =
      elim ts [ Slots.no_slots ↦ false | Slots.slot m f us ↦ eqb n m && (same_expression literals e f && same_slots literals ss us) ]

  pub same_instruction : List (List ℕ) → Instruction Path → Instruction Path → Bool
  same_instruction literals (Instruction.assign p e) i =
      elim i [
        | Instruction.assign q f ↦ same_path p q && same_expression literals e f
        | Instruction.show a ↦ false
        | Instruction.jump a b ↦ false
        | Instruction.ifeq a b c ↦ false
      ]
  same_instruction literals (Instruction.show a) i =
      elim i [
        | Instruction.assign q f ↦ false
        | Instruction.show d ↦ same_base literals a d
        | Instruction.jump d e ↦ false
        | Instruction.ifeq d e f ↦ false
      ]
  same_instruction literals (Instruction.jump a b) i =
      elim i [
        | Instruction.assign q f ↦ false
        | Instruction.show d ↦ false
        | Instruction.jump d e ↦ same_base literals a d && same_base literals b e
        | Instruction.ifeq d e f ↦ false
      ]
  same_instruction literals (Instruction.ifeq a b c) i =
      elim i [
        | Instruction.assign q f ↦ false
        | Instruction.show d ↦ false
        | Instruction.jump d e ↦ false
        | Instruction.ifeq d e f ↦ same_base literals a d && (same_base literals b e && same_base literals c f)
      ]

  pub same_code : List (List ℕ) → Code Path → Code Path → Bool
  same_code literals Code.finished js = elim js [ Code.finished ↦ true | j then ks ↦ false ]
  same_code literals (i then is) js = elim js [ Code.finished ↦ false | j then ks ↦ same_instruction literals i j && same_code literals is ks ]

-- ---- `==`: equal integers, equal bytes of texts, equal codes, or the same frame

unfoldable pub equal_values : Constants → List (List ℕ) → Value → Value → Bool
equal_values c made (Value.Int y) w =
    elim w [ Value.Int z ↦ same_integer y z | Value.Text u ↦ false | Value.Code l ↦ false | Value.Frame m ↦ false ]
equal_values c made (Value.Text t) w =
    elim w [
      | Value.Int z ↦ false
      | Value.Text u ↦ same (text_bytes c.literals made t) (text_bytes c.literals made u)
      | Value.Code l ↦ false
      | Value.Frame m ↦ false
    ]
equal_values c made (Value.Code k) w =
    elim w [
      | Value.Int z ↦ false
      | Value.Text u ↦ false
      | Value.Code l ↦ same_code c.literals (get_or c.codes k Code.finished) (get_or c.codes l Code.finished)
      | Value.Frame m ↦ false
    ]
equal_values c made (Value.Frame n) w =
    elim w [ Value.Int z ↦ false | Value.Text u ↦ false | Value.Code l ↦ false | Value.Frame m ↦ eqb n m ]

-- ---- What agrees: the same tree, without the numbers of codes and with the bytes of literals in place of their numbers

mutual
  pub data PlainBase : Type 0 where
    integer : ℤ → PlainBase
    string : List ℕ → PlainBase
    path : Path → PlainBase
    code : PlainCode → PlainBase

  pub data PlainExpression : Type 0 where
    base : PlainBase → PlainExpression
    not : PlainBase → PlainExpression
    operation : Operator → PlainBase → PlainBase → PlainExpression
    frame : PlainSlots → PlainExpression

  pub data PlainSlots : Type 0 where
    no_slots : PlainSlots
    slot : ℕ → PlainExpression → PlainSlots → PlainSlots

  pub data PlainInstruction : Type 0 where
    assign : Path → PlainExpression → PlainInstruction
    show : PlainBase → PlainInstruction
    jump : PlainBase → PlainBase → PlainInstruction
    ifeq : PlainBase → PlainBase → PlainBase → PlainInstruction

  pub data PlainCode : Type 0 where
    finished : PlainCode
    next : PlainInstruction → PlainCode → PlainCode

unfoldable mutual
  pub plain_base : List (List ℕ) → Base Path → PlainBase
  plain_base literals (Base.integer z) = PlainBase.integer z
  plain_base literals (Base.string k) = PlainBase.string (get_or literals k [])
  plain_base literals (Base.path q) = PlainBase.path q
  plain_base literals (Base.code k is) = PlainBase.code (plain_code literals is)

  pub plain_expression : List (List ℕ) → Expression Path → PlainExpression
  plain_expression literals (Expression.base b) = PlainExpression.base (plain_base literals b)
  plain_expression literals (Expression.not b) = PlainExpression.not (plain_base literals b)
  plain_expression literals (Expression.operation o a b) = PlainExpression.operation o (plain_base literals a) (plain_base literals b)
  plain_expression literals (Expression.frame ss) = PlainExpression.frame (plain_slots literals ss)

  pub plain_slots : List (List ℕ) → Slots Path → PlainSlots
  plain_slots literals Slots.no_slots = PlainSlots.no_slots
  plain_slots literals (Slots.slot n e ss) = PlainSlots.slot n (plain_expression literals e) (plain_slots literals ss)

  pub plain_instruction : List (List ℕ) → Instruction Path → PlainInstruction
  plain_instruction literals (Instruction.assign q e) = PlainInstruction.assign q (plain_expression literals e)
  plain_instruction literals (Instruction.show a) = PlainInstruction.show (plain_base literals a)
  plain_instruction literals (Instruction.jump a b) = PlainInstruction.jump (plain_base literals a) (plain_base literals b)
  plain_instruction literals (Instruction.ifeq a b c) =
      PlainInstruction.ifeq (plain_base literals a) (plain_base literals b) (plain_base literals c)

  pub plain_code : List (List ℕ) → Code Path → PlainCode
  plain_code literals Code.finished = PlainCode.finished
  plain_code literals (i then is) = PlainCode.next (plain_instruction literals i) (plain_code literals is)

unfoldable pub Equality : Type 0
unfolding same_path operator_number same_base equal_values plain_base
Equality = ℕ
