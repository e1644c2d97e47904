-- The integer of a payload word is two's complement, which the logic has: `to_z w32` and back `of_z w32`, with the laws `to_z-of_z`, `of_z-to_z`.
use Rattle.std.specs.Prelude.{ℕ, ℤ}
use Rattle.std.specs.Int.{w32}
use Rattle.std.proofs.Common.{to_z, of_z}

unfoldable pub int_of : ℕ → ℤ
int_of w = to_z w32 w

unfoldable pub word_of : ℤ → ℕ
word_of z = of_z w32 z
