-- Document 01, "Tokens and grammar": the kind numbers of tokens, for the symbols that the grammar reads. Assumes nothing.
use Rattle.std.specs.Prelude.{List, [], ◌∷◌, ℕ}
use Rattle.framed.specs.Tokens.{Token}
use Rattle.framed.specs.Symbols.{Symbol}
use Rattle.token.specs.Reading.{fixed_kind, token_kind}

-- the kind of a symbol: 0 to 15 fixed, 16 to 24 operators, 25 name, 26 integer, 27 string, 28 code
unfoldable pub kind_of : Symbol → ℕ
kind_of (Symbol.name n) = 25
kind_of (Symbol.integer z) = 26
kind_of (Symbol.string k) = 27
kind_of (Symbol.code k) = 28
kind_of (Symbol.fixed f) = fixed_kind f

-- the kind of the first symbol, 29 where there is none
unfoldable pub front_kind : List Symbol → ℕ
front_kind [] = 29
front_kind (x ∷ us) = kind_of x

-- the kinds of all
unfoldable pub kinds : List Token → List ℕ
kinds [] = []
kinds (t ∷ ts) = token_kind t ∷ kinds ts

unfoldable pub symbol_kinds : List Symbol → List ℕ
symbol_kinds [] = []
symbol_kinds (x ∷ us) = kind_of x ∷ symbol_kinds us
