-- Lists made from the numbers below a bound: what a function gives at each, and those that pass a test. Nothing here is about Framed.
-- Assumes nothing.
use Rattle.std.specs.Prelude.{ℕ, zero, suc, List, [], ◌∷◌, ◌++◌, Bool}
use Rattle.words.specs.Words.{pick}

-- what g gives at 0, 1, .., n - 1
unfoldable pub listed : {A : Type 0} → (ℕ → A) → ℕ → List A
listed g zero = []
listed g (suc n) = listed g n ++ (g n ∷ [])

-- the numbers below n that pass the test, each once, the largest first
unfoldable pub passing : (ℕ → Bool) → ℕ → List ℕ
passing t zero = []
passing t (suc n) = let r = passing t n in pick (t n) (n ∷ r) r
