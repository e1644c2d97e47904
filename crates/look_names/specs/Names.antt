-- docs/LAYOUT.md, program words: the names that they hold, which are those of the program that they hold (`program-held` of crate `trees`). Assumes nothing.
use Rattle.std.specs.Prelude.{List, ℕ}
use Rattle.tables.specs.Fields.{names}
use Rattle.trees.specs.Held.{list_from, name_bytes}

unfoldable pub names_held : List ℕ → List (List ℕ)
names_held p = list_from (name_bytes p) (names p) 0
