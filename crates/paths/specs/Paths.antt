-- Document 01, "The endless machine", step 2: Fetch over the words. What it means is `framed`'s Fetch; here are the answers of the code, and the names of a path
-- that program words hold. Assumes nothing.
use Rattle.std.specs.Prelude.{ℕ, ◌+◌, List, [], ◌∷◌, eqb, Option, Some, None}
use Rattle.std.proofs.Math.Option.{Option as Optional, none, some}
use Rattle.words.specs.Words.{pick}
use Rattle.framed.specs.declared.Value.{Value}
use Rattle.framed.specs.Values.{Slot}
use Rattle.tables.specs.Fields.{path_name}
use Rattle.heap.specs.Lists.{listed}

-- of slots that are numbered from i on, the first with the name x
unfoldable pub slot_from : List Slot → ℕ → ℕ → Option ℕ
slot_from [] x i = None
slot_from (s ∷ ss) x i = let r = slot_from ss x (i + 1) in pick (eqb s.name x) (Some i) r

-- the answer of fetch: `none` is undefined
abbrev pub fetched : Option Value → Optional Value
fetched (Some v) = some v
fetched None = none

-- the n path names from j on, as program words hold them
unfoldable pub path_held : List ℕ → ℕ → ℕ → List ℕ
path_held p j n = listed (λ i. path_name p (j + i)) n
