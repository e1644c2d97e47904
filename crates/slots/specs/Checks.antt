-- Document 01, the table, number 8: one frame, and how far no further frame begins in it. Assumes nothing.
use Rattle.std.specs.Prelude.{◌≡◌, Bool, List, ℕ, ◌≤◌, eqb}
use Rattle.std.proofs.Math.Option.{Option, none, some}
use Rattle.framed.specs.Common.{when◌then◌else◌}
use Rattle.framed.specs.Bytes.{class}
use Rattle.framed.specs.Tokens.{Token, tokens}
use Rattle.source.specs.Positions.{rest}
use Rattle.slots.specs.Own.{bad_frames, BadSlots, OpensBad}
use Rattle.slots.specs.declared.Checked.{Checked}

unfoldable pub frames_bad : Option (List Token) → Option Bool
frames_bad none = none
frames_bad (some ts) = some (bad_frames ts)

-- the same frames begin from p on as from `from` on
pub record Clear (s : List ℕ) (from p : ℕ) : Type 0 where
  pub begins : from ≤ p
  pub rest_is : frames_bad (tokens class (rest s p)) ≡ frames_bad (tokens class (rest s from))

unfoldable pub clear_after : ℕ → ℕ → ℕ → ℕ → ℕ
clear_after p at k end = when eqb p at then (when eqb k 12 then p else end) else p

pub record Checks (s : List ℕ) (from : ℕ) (r : Checked) : Type 0 where
  pub bad_is : BadSlots s from r.bad
  pub clear_is : Clear s from r.clear

pub record Opens (s : List ℕ) (k end : ℕ) (r : Checked) : Type 0 where
  pub bad_is : OpensBad s k end r.bad
  pub clear_is : Clear s end r.clear
