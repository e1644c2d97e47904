-- How many numbers pass a test that a function is given as a closure. Assumes nothing.
use Rattle.std.specs.Prelude.{ℕ, ◌<◌, ◌≡◌, Bool, length}
use Rattle.heap.specs.Lists.{passing}

-- what the closure answers below n is what t says
pub record Answers (post : ℕ → Bool → Type 0) (n : ℕ) (t : ℕ → Bool) : Type 0 where
  pub answer : (i : ℕ) (r : Bool) → i < n → post i r → r ≡ t i

-- m of the numbers below 256 pass, by any t that the closure answers by
abbrev pub Counted : (ℕ → Bool → Type 0) → ℕ → Type 0
Counted post m = (t : ℕ → Bool) → Answers post 256 t → m ≡ length (passing t 256)
