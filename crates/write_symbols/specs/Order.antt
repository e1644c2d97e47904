-- Document 01: names have the numbers of their first appearance. The same said of a list of symbols. And symbols that may be left out of it, so that everything
-- that a load counts in order stays as it is. Assumes nothing.
use Rattle.std.specs.Prelude.{◌≡◌, ◌⊎◌, List, [], ◌∷◌, ℕ, suc, ◌<◌}
use Rattle.framed.specs.Common.{◌∈◌}
use Rattle.framed.specs.Tokens.{Fixed}
use Rattle.framed.specs.Symbols.{Symbol}

-- With k names known, each name of the list is known or is the next one; k' are known after it
unfoldable pub InOrder : ℕ → List ℕ → ℕ → Type 0
InOrder k [] k' = k ≡ k'
InOrder k (n ∷ ns) k' = ((n < k) × InOrder k ns k') ⊎ ((n ≡ k) × InOrder (suc k) ns k')

-- the names of some symbols, by number
unfoldable pub names_in : List Symbol → List ℕ
names_in [] = []
names_in (Symbol.name n ∷ ts) = n ∷ names_in ts
names_in (Symbol.integer z ∷ ts) = names_in ts
names_in (Symbol.string k ∷ ts) = names_in ts
names_in (Symbol.code k ∷ ts) = names_in ts
names_in (Symbol.fixed f ∷ ts) = names_in ts

-- a comma, a dot or a `^`; or a name that has appeared
pub data MayGo (seen : List ℕ) : Symbol → Type 0 where
  comma : MayGo seen (Symbol.fixed Fixed.comma)
  dot : MayGo seen (Symbol.fixed Fixed.dot)
  up : MayGo seen (Symbol.fixed Fixed.up)
  name : {n : ℕ} → n ∈ seen → MayGo seen (Symbol.name n)

-- the names that have appeared when a symbol is past
unfoldable pub seen_after : List ℕ → Symbol → List ℕ
seen_after seen (Symbol.name n) = n ∷ seen
seen_after seen (Symbol.integer z) = seen
seen_after seen (Symbol.string k) = seen
seen_after seen (Symbol.code k) = seen
seen_after seen (Symbol.fixed f) = seen

-- the second list is the first without some that may go, where the names `seen` have appeared before
pub data Without : List ℕ → List Symbol → List Symbol → Type 0 where
  end : {seen : List ℕ} → Without seen [] []
  kept : {seen : List ℕ} {t : Symbol} {ts us : List Symbol} → Without (seen_after seen t) ts us → Without seen (t ∷ ts) (t ∷ us)
  gone : {seen : List ℕ} {t : Symbol} {ts us : List Symbol} → MayGo seen t → Without seen ts us → Without seen (t ∷ ts) us
