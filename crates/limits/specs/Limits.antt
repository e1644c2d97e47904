-- Document 01, the table, numbers 7, 9, 10 and 12, of the tokens and the tree of a source. Assumes nothing.
use Rattle.std.specs.Prelude.{◌≡◌, Bool, List, ℕ, leb, ltb, length}
use Rattle.std.proofs.Math.Option.{some}
use Rattle.framed.specs.Common.{any, count, total}
use Rattle.framed.specs.Bytes.{class}
use Rattle.framed.specs.Tokens.{Token, tokens}
use Rattle.framed.specs.Symbols.{name_table}
use Rattle.framed.specs.Tree.{Written, Slots}
use Rattle.framed.specs.Meaning.{pieces, misplaced, path_names, above_limit, too_far_up, frame_outside}

unfoldable pub misplaced_tree : List Token → Slots Written → Bool
misplaced_tree ts ss = any misplaced (pieces ss)

unfoldable pub path_names_tree : List Token → Slots Written → Bool
path_names_tree ts ss = ltb 2048 (total path_names (pieces ss))

unfoldable pub limit_tree : List Token → Slots Written → Bool
limit_tree ts ss = above_limit (name_table ts) (pieces ss)

unfoldable pub far_tree : List Token → Slots Written → Bool
far_tree ts ss = any too_far_up (pieces ss)

unfoldable pub frames_tree : ℕ → List Token → Slots Written → Bool
frames_tree F ts ss = leb F (count frame_outside (pieces ss))

-- where the source is tokens, n is above 128 where they have more than 128 distinct names
pub record CountsNames (s : List ℕ) (n : ℕ) : Type 0 where
  pub is : (ts : List Token) → tokens class s ≡ some ts → ltb 128 n ≡ ltb 128 (length (name_table ts))
