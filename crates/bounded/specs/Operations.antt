-- Document 01, "The endless machine", the operators, `#` with document 02's A3: what each gives without regard to where a new text is kept. Assumes nothing.
use Rattle.std.specs.Prelude.{Bool, true, false, ◌||◌, ◌&&◌, List, ℕ, ℤ, pos, ◌+ℤ◌, ◌-ℤ◌, ◌*ℤ◌, length, leb}
use Rattle.std.specs.Int.Signed.{lt_z}
use Rattle.framed.specs.declared.Value.{Value}
use Rattle.framed.specs.Common.{when◌then◌else◌}
use Rattle.framed.specs.Tokens.{Operator, in_range}
use Rattle.framed.specs.Values.{join_bytes, truth}
use Rattle.framed.specs.Equality.{Constants, equal_values}
use Rattle.framed.specs.Machine.{Result, gives, ends, ◌>>=◌, integer_in, quotient}

-- an integer, or the bytes of a new made text
pub data Product : Type 0 where
  number : ℤ → Product
  text : List ℕ → Product

-- 33 where the exact result is out of range
unfoldable pub ranged : ℤ → Result Product
ranged z = when in_range z then gives (number z) else ends 33

-- 34 above 64 bytes
unfoldable pub measured : List ℕ → Result Product
measured bs = when leb (length bs) 64 then gives (text bs) else ends 34

-- 1 or 0
unfoldable pub flag : Bool → Product
flag true = number (pos 1)
flag false = number (pos 0)

-- the operator between two values, where these are the program's constants and the made texts
unfoldable pub operated : Constants → List (List ℕ) → Operator → Value → Value → Result Product
operated c made Operator.plus v w = do y ← integer_in v; z ← integer_in w; ranged (y +ℤ z)
operated c made Operator.minus v w = do y ← integer_in v; z ← integer_in w; ranged (y -ℤ z)
operated c made Operator.times v w = do y ← integer_in v; z ← integer_in w; ranged (y *ℤ z)
operated c made Operator.over v w = do y ← integer_in v; z ← integer_in w; q ← quotient y z; ranged q
operated c made Operator.less v w = do y ← integer_in v; z ← integer_in w; gives (flag (lt_z y z))
operated c made Operator.join v w = measured (join_bytes c.literals made v w)
operated c made Operator.equal v w = gives (flag (equal_values c made v w))
operated c made Operator.and v w = gives (flag (truth v && truth w))
operated c made Operator.or v w = gives (flag (truth v || truth w))
