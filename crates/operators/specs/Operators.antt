-- docs/LAYOUT.md, expressions of kinds 7 to 15: the operator of a kind, and what the code's answer says. What the operator gives is `bounded`'s `operated`. Assumes nothing.
use Rattle.std.specs.Prelude.{ℕ, ◌≡◌, Bool, ◌&&◌, ◌||◌, List, [], eqb, ltb, ℤ, Ok, Err, Result as Checked}
use Rattle.words.specs.Words.{pick}
use Rattle.framed.specs.declared.End.{End}
use Rattle.framed.specs.declared.Value.{Value}
use Rattle.framed.specs.Answers.{end_number}
use Rattle.framed.specs.Values.{join_bytes, truth}
use Rattle.framed.specs.Equality.{Constants, equal_values}
use Rattle.framed.specs.Tokens.{Operator}
use Rattle.framed.specs.Machine.{Result, gives, ends}
use Rattle.bounded.specs.Operations.{Product, number, text, operated}
use Rattle.heap.specs.Held.{texts_held}
use Rattle.program_form.specs.WellFormed.{WellFormed}
use Rattle.texts.specs.Literals.{literals_held}
use Rattle.texts.specs.Texts.{Readable}
use Rattle.program_equality.specs.Agreement.{constants_held}
use Rattle.operators.specs.declared.Operated.{Operated}

-- the kinds below 12 want two integers
unfoldable pub arithmetic_of : ℕ → Operator
arithmetic_of k =
    pick (eqb k 7) Operator.plus
    (pick (eqb k 8) Operator.minus
    (pick (eqb k 9) Operator.times
    (pick (eqb k 10) Operator.over Operator.less)))

-- 7 to 15, in the order `+ - * / < # == && ||`; other kinds are no operator
unfoldable pub operator_of : ℕ → Operator
operator_of k =
    pick (ltb k 12) (arithmetic_of k)
    (pick (eqb k 12) Operator.join
    (pick (eqb k 13) Operator.equal
    (pick (eqb k 14) Operator.and Operator.or)))

-- the answer of `operate`, where these are the bytes of the two values joined
abbrev pub operation : Checked Operated End → List ℕ → Result Product
operation (Ok (Operated.Integer z)) bs = gives (number z)
operation (Ok Operated.Joined) bs = gives (text bs)
operation (Err e) bs = ends (end_number e)

-- the kinds below 12 look at no text and at no code
abbrev pub no_constants : Constants
no_constants = record { literals = []; codes = [] }

-- what they give
unfoldable pub arithmetic_operated : ℕ → Value → Value → Result Product
arithmetic_operated k v w = operated no_constants [] (arithmetic_of k) v w

unfoldable pub integer_operated : ℕ → ℤ → ℤ → Result Product
integer_operated k y z = arithmetic_operated k (Value.Int y) (Value.Int z)

-- what comparing two values asks; well-formed memories have it
pub record Comparable (p l h t : List ℕ) : Type 0 where
  pub program : WellFormed p l
  pub readable : Readable p l h t

-- `== && ||`, and every other kind counts as `||`
unfoldable pub compared : Constants → List (List ℕ) → ℕ → Value → Value → Bool
compared c made k v w =
    pick (eqb k 13) (equal_values c made v w) (pick (eqb k 14) (truth v && truth w) (truth v || truth w))

-- the operator of the kind gives what the answer says
pub record Operates (p l h t : List ℕ) (k : ℕ) (v w : Value) (r : Checked Operated End) : Type 0 where
  pub is :
      operation r (join_bytes (literals_held p l) (texts_held h t) v w) ≡ operated (constants_held p l) (texts_held h t) (operator_of k) v w
