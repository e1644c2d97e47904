-- What is proved of the symbols of a tree. Assumes nothing.
use Rattle.std.specs.Prelude.{◌≡◌, ◌≢◌, List, [], ℕ, ◌≤◌, ◌<◌, length, get_or}
use Rattle.framed.specs.Common.{total}
use Rattle.framed.specs.Tokens.{Token, highest_nesting}
use Rattle.framed.specs.Symbols.{Symbol, name_table, literals, symbols}
use Rattle.framed.specs.Tree.{Written, Slots}
use Rattle.framed.specs.Grammar.{Source}
use Rattle.shapes.proofs.Names.{Ordered}
use Rattle.write_symbols.specs.Order.{InOrder, names_in, Without}
use Rattle.write_symbols.specs.Symbols.{frame_symbols, spelled_all}

-- the grammar derives a tree from its symbols; and from others only where they have commas more
abbrev pub SymbolsDerive : Type 0
SymbolsDerive = (ss : Slots Written) → Source (frame_symbols ss) ss

abbrev pub SourceWithout : Type 0
SourceWithout = (ts : List Symbol) (ss : Slots Written) → Source ts ss → Without [] ts (frame_symbols ss)

-- what stays of symbols when some go that may: numbers in order, names in order of appearance, the nesting; and they do not weigh more
pub record WithoutKeeps : Type 0 where
  pub ordered : (N L : ℕ) (ts us : List Symbol) → Without [] ts us → Ordered N L 0 0 ts → Ordered N L 0 0 us
  pub in_order : (ts us : List Symbol) (K : ℕ) → Without [] ts us → InOrder 0 (names_in ts) K → InOrder 0 (names_in us) K
  pub nesting : (names lits : List (List ℕ)) (ts us : List Symbol) → Without [] ts us →
      highest_nesting 0 (spelled_all names lits us) ≡ highest_nesting 0 (spelled_all names lits ts)
  pub weight : (weigh : Symbol → ℕ) (ts us : List Symbol) → Without [] ts us → total weigh us ≤ total weigh ts

-- the symbols of a source have the names of its table in order of appearance; spelled again they are its tokens
abbrev pub SourceInOrder : Type 0
SourceInOrder = (ts : List Token) → InOrder 0 (names_in (symbols ts)) (length (name_table ts))

abbrev pub SourceSpelled : Type 0
SourceSpelled = (ts : List Token) → spelled_all (name_table ts) (literals ts) (symbols ts) ≡ ts

-- Symbols in order, spelled with a table of distinct names and with literals: reading gives the same table, the same literals and the same symbols
pub record SpelledBack (names lits : List (List ℕ)) (us : List Symbol) : Type 0 where
  pub same_names : name_table (spelled_all names lits us) ≡ names
  pub same_literals : literals (spelled_all names lits us) ≡ lits
  pub same_symbols : symbols (spelled_all names lits us) ≡ us

abbrev pub SymbolsBack : Type 0
SymbolsBack = (names lits : List (List ℕ)) (us : List Symbol) →
    ((j k : ℕ) → j < k → k < length names → get_or names j [] ≢ get_or names k []) →
    Ordered (length names) (length lits) 0 0 us → InOrder 0 (names_in us) (length names) → SpelledBack names lits us
