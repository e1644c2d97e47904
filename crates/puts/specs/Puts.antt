-- Document 01, "The endless machine", step 2: Put over the words. What its walk means is `bounded`'s `target`; here are the answers of the code, and the words after it.
-- Assumes nothing.
use Rattle.std.specs.Prelude.{ℕ, List, [], ◌∷◌, Option, Some, None}
use Rattle.framed.specs.declared.Value.{Value}
use Rattle.framed.specs.Values.{Frame}
use Rattle.framed.specs.Machine.{Result, gives, ends}
use Rattle.bounded.specs.Check.{Target, target}
use Rattle.heap.specs.Words.{set_slot_value, add_slot}
use Rattle.heap.specs.Held.{slots_held}
use Rattle.puts.specs.declared.PutTarget.{PutTarget}
use Rattle.paths.specs.Paths.{slot_from}

-- the answer of put_target
abbrev pub targeted : Option PutTarget → Result Target
targeted (Some t) = gives (record { frame = t.frame; name = t.name })
targeted None = ends 31

-- Put's walk along a list of names. An instruction with an empty path has no walk
unfoldable pub target_along : List Frame → Value → List ℕ → Result Target
target_along frames v [] = ends 31
target_along frames v (n ∷ ns) = target frames v n ns

-- the words after Put at a frame: the slot that was found is set, else one is added
abbrev pub put_found : List ℕ → ℕ → ℕ → Value → Option ℕ → List ℕ
put_found h f x v (Some i) = set_slot_value h f i v
put_found h f x v None = add_slot h f x v

unfoldable pub put_slot : List ℕ → ℕ → ℕ → Value → List ℕ
put_slot h f x v = put_found h f x v (slot_from (slots_held h f) x 0)
