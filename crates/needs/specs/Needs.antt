-- Document 01, "The endless machine", room (here: reserve): f and t of an instruction over program words p. Assumes nothing.
use Rattle.std.specs.Prelude.{◌≡◌, List, ℕ, ◌+◌, ◌*◌, ◌/◌, ◌%◌, ◌≤◌, ltb}
use Rattle.words.specs.Words.{pick}
use Rattle.framed.specs.Machine.{is_join, right_side}
use Rattle.tables.specs.declared.ExpressionEntry.{ExpressionEntry}
use Rattle.trees.specs.Trees.{operator_of}
use Rattle.trees.specs.Held.{expression_held, instruction_held}
use Rattle.places.specs.Places.{AtExpression}

-- f and t are counted up to 257
unfoldable pub cap : ℕ → ℕ
cap n = pick (ltb n 257) n 257

-- f and t in one number
unfoldable pub both : ℕ → ℕ → ℕ
both f n = cap f + 512 * cap n

-- the sum of two such numbers
unfoldable pub summed : ℕ → ℕ → ℕ
summed a b = cap (a % 512 + b % 512) + 512 * cap (a / 512 + b / 512)

-- F and T are at most 256, so the comparison with them says the same
abbrev pub CapCompares : Type 0
CapCompares = (limit in_use n : ℕ) → limit ≤ 256 → ltb limit (in_use + cap n) ≡ ltb limit (in_use + n)

-- the `#` of an expression that is no frame literal
unfoldable pub join_sign : ExpressionEntry → ℕ
join_sign (ExpressionEntry.Integer w) = 0
join_sign (ExpressionEntry.Literal k) = 0
join_sign (ExpressionEntry.FromSelf j n) = 0
join_sign (ExpressionEntry.FromProgram j n) = 0
join_sign (ExpressionEntry.Code k) = 0
join_sign (ExpressionEntry.Frame d) = 0
join_sign (ExpressionEntry.Not a) = 0
join_sign (ExpressionEntry.Operate o a b) = is_join (operator_of o)
join_sign ExpressionEntry.Bad = 0

-- expression x is that of instruction i
pub record RightSide (p : List ℕ) (i x : ℕ) : Type 0 where
  pub at : AtExpression p x
  pub is : expression_held p x ≡ right_side (instruction_held p i)
