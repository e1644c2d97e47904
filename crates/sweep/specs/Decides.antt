-- Document 01, the table, numbers 3 to 12: sources that number 3 does not refuse, and functions that decide something of every source that is one frame.
-- Assumes nothing.
use Rattle.std.specs.Prelude.{◌≡◌, Bool, List, ℕ, ◌≤◌, length}
use Rattle.std.proofs.Math.Option.{some}
use Rattle.framed.specs.Bytes.{class}
use Rattle.framed.specs.Tokens.{Token, tokens}
use Rattle.framed.specs.Symbols.{symbols}
use Rattle.framed.specs.Tree.{Written, Slots}
use Rattle.framed.specs.Parse.{parse}

pub record Short (s : List ℕ) : Type 0 where
  pub short : length s ≤ 16384

-- where the source has tokens and they are one frame, the answer is the test of its tokens and its tree
pub record Decides (test : List Token → Slots Written → Bool) (s : List ℕ) (r : Bool) : Type 0 where
  pub is : (ts : List Token) (ss : Slots Written) → tokens class s ≡ some ts → parse (symbols ts) ≡ some ss → r ≡ test ts ss
