-- Document 01, "The endless machine", step 2, and "What stops a call": the end of `:=` at its path, over program words p and heap words h.
-- What it means is `bounded`'s check. Assumes nothing.
use Rattle.std.specs.Prelude.{ℕ, List, [], ◌∷◌}
use Rattle.framed.specs.declared.Value.{Value}
use Rattle.framed.specs.Values.{Frame}
use Rattle.bounded.specs.Check.{target, target_end}
use Rattle.heap.specs.Held.{frames_held}
use Rattle.trees.specs.Trees.{path_list}

-- of Put along a list of names
unfoldable pub names_end : List Frame → Value → List ℕ → ℕ
names_end frames v [] = 0
names_end frames v (n ∷ ns) = target_end frames (target frames v n ns)

-- of Put along the n path names from j on
unfoldable pub put_end : List ℕ → List ℕ → Value → ℕ → ℕ → ℕ
put_end p h v j n = names_end (frames_held h) v (path_list p n j)
