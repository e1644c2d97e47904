use Prim.Native.Nat.{ℕ}
use mathlib.Core.Path.{◌≡◌}
use lib.IntN.{ℤ}
use borrow.Author.Gap.{read_sfits}
use mir.Syntax.{w32}
use mir.Val.{Fits, SFits}
use mir.ValLaws.{to_z-of_z, of_z-to_z}
use Rattle.ints.specs.Ints.{int_of, word_of}

-- the pair of laws that callers cite
pub int_word : (z : ℤ) → SFits w32 z → int_of (word_of z) ≡ z
unfolding int_of word_of
int_word z f = to_z-of_z w32 z f

pub word_int : (w : ℕ) → Fits w32 w → word_of (int_of w) ≡ w
unfolding int_of word_of
word_int w f = of_z-to_z w32 w f

-- whatever the word, its integer is one of 32 bits
pub int_fits : (w : ℕ) → SFits w32 (int_of w)
unfolding int_of
int_fits w = read_sfits w32 w
