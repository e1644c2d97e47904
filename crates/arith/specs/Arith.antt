-- Document 01, "The endless machine": `+ - * /` with exact results. What they give is `bounded`'s `ranged` and `framed`'s `quotient`; here is what the code's answer says.
-- Assumes nothing.
use Rattle.std.specs.Prelude.{Bool, ℤ, Ok, Err, Result as Checked}
use Rattle.framed.specs.declared.End.{End}
use Rattle.framed.specs.declared.Value.{Value}
use Rattle.framed.specs.Answers.{end_number}
use Rattle.framed.specs.Values.{truth}
use Rattle.framed.specs.Machine.{◌>>=◌, Result, gives, ends, quotient}
use Rattle.bounded.specs.Operations.{Product, number, ranged}

-- an integer, or an end
abbrev pub outcome : Checked ℤ End → Result Product
outcome (Ok z) = gives (number z)
outcome (Err e) = ends (end_number e)

-- `/`: 32 where the divisor is 0, else the quotient, rounded towards zero, where it is in range
unfoldable pub divided : ℤ → ℤ → Result Product
divided y z = do
  q ← quotient y z
  ranged q

-- an integer as a truth value
unfoldable pub nonzero : ℤ → Bool
nonzero z = truth (Value.Int z)
