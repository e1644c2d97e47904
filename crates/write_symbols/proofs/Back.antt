-- Symbols in order, spelled with distinct names and with literals, are read as the same names, literals and symbols. Assumes nothing.
use mathlib.Core.Path.{◌≡◌, refl, sym, ◌∙◌, ap}
use mathlib.Core.Logic.{◌≢◌}
use mathlib.Core.Bool.{Bool, true, false}
use mathlib.Core.List.{List, [], ◌∷◌}
use Prim.Native.Nat.{ℕ, zero, suc, ◌<◌}
use native.Mathlib.Numerals.{add-one}
use native.Mathlib.Omega.{arith}
use lib.ListN.{length, get_or, drop}
use lib.Seq.{drop-cons, drop-length}
use Rattle.framed.specs.Common.{same}
use Rattle.framed.specs.Symbols.{Symbol, number_in, literals, numbered, symbols}
use Rattle.framed.proofs.Lists.{same_self, same_equal}
use Rattle.shapes.proofs.Names.{Ordered}
use Rattle.write_symbols.specs.Symbols.{spelled, spelled_all}
use Rattle.write_symbols.specs.Theorems.{SymbolsBack}
use Rattle.write_symbols.proofs.Appearance.{table_back}

abbrev Distinct : List (List ℕ) → Type 0
Distinct names = (j k : ℕ) → j < k → k < length names → get_or names j [] ≢ get_or names k []

-- a name's place is its number
number_back : (names : List (List ℕ)) → Distinct names → (n : ℕ) → n < length names → number_in names (get_or names n []) ≡ n
unfolding number_in
number_back [] d n lt = absurd (omega arith)
number_back (v ∷ vs) d zero lt = rw (number_in, same_self v)
number_back (v ∷ vs) d (suc n) lt =
    go (same v (get_or vs n [])) refl (number_back vs (λ j k l m. d (suc j) (suc k) (omega arith) (omega arith)) n (omega arith))
  where
    go : (t : Bool) → same v (get_or vs n []) ≡ t → number_in vs (get_or vs n []) ≡ n →
        ◌≡◌ {A = ℕ} (elim t [ true ↦ 0 | false ↦ suc (number_in vs (get_or vs n [])) ]) (suc n)
    go true e h = absurd (d 0 (suc n) (omega arith) lt (same_equal v (get_or vs n []) e))
    go false e h = ap suc h

module _ (names lits : List (List ℕ)) where
  symbols_same : (L : ℕ) → Distinct names → {s c : ℕ} {us : List Symbol} → Ordered (length names) L s c us → numbered names s c (spelled_all names lits us) ≡ us
  unfolding numbered spelled
  symbols_same L d (Ordered.done e) = refl
  symbols_same L d (Ordered.name {n = n} lt o) = let i = symbols_same L d o in let e = number_back names d n lt in cc
  symbols_same L d (Ordered.integer r o) = let i = symbols_same L d o in cc
  symbols_same L d (Ordered.string {s = s} lt o) = let i = symbols_same L d o in rw (← add-one s) (ap (λ (us : List Symbol). Symbol.string s ∷ us) i)
  symbols_same L d (Ordered.code {c = c} o) = let i = symbols_same L d o in rw (← add-one c) (ap (λ (us : List Symbol). Symbol.code c ∷ us) i)
  symbols_same L d (Ordered.fixed o) = let i = symbols_same L d o in cc

  -- the literals from the next one on
  literals_same : (N : ℕ) {s c : ℕ} {us : List Symbol} → Ordered N (length lits) s c us → literals (spelled_all names lits us) ≡ drop s lits
  unfolding literals spelled
  literals_same N (Ordered.done e) = sym (ap (λ (n : ℕ). drop n lits) e ∙ drop-length lits)
  literals_same N (Ordered.name lt o) = literals_same N o
  literals_same N (Ordered.integer r o) = literals_same N o
  literals_same N (Ordered.string {s = s} lt o) = rw (drop-cons lits s [] lt, ← add-one s) (ap (λ (l : List (List ℕ)). get_or lits s [] ∷ l) (literals_same N o))
  literals_same N (Ordered.code o) = literals_same N o
  literals_same N (Ordered.fixed o) = literals_same N o

pub symbols_back : SymbolsBack
unfolding symbols
symbols_back names lits us d o i =
    let e = symbols_same names lits (length lits) d o in
    let t = table_back names (spelled_all names lits us) (rw e i) in
    record { same_names = t; same_literals = literals_same names lits (length names) o; same_symbols = rw t e }
