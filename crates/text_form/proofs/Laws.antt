-- One law for each way through the functions of this crate that branch. Assumes nothing.
use Prim.Native.Nat.{ℕ, ◌≤◌, ◌<◌}
use mathlib.Core.Path.{◌≡◌}
use mathlib.Core.List.{List}
use mathlib.Core.Bool.{Bool, false}
use borrow.Author.Tests.{le-leb, lt-leb}
use Rattle.heap.specs.Words.{text_length}
use Rattle.text_form.specs.Tests.{text_bytes_formed, text_formed}

-- text_formed
module _ (h t : List ℕ) (k n : ℕ) (en : n ≡ text_length h k) where
  pub text_long : 64 < n → false ≡ text_formed h t k
  unfolding text_formed
  text_long lt = rw (← en, lt-leb n 64 lt)

  pub text_short : n ≤ 64 → (b : Bool) → b ≡ text_bytes_formed t k n → b ≡ text_formed h t k
  unfolding text_formed
  text_short le b eb = rw (← en, le-leb n 64 le, eb)
