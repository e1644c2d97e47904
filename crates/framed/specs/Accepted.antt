-- Document 01, the table, numbers 4 to 12: what holds of a source that load accepts, its tokens and its tree, and the program that they have. Assumes nothing.
use Rattle.std.specs.Prelude.{◌≡◌, false, List, ℕ, ◌≤◌, ◌<◌}
use Rattle.std.proofs.Math.Option.{some}
use Rattle.framed.specs.Common.{any, count}
use Rattle.framed.specs.Bytes.{class}
use Rattle.framed.specs.Tokens.{Token, tokens, highest_nesting}
use Rattle.framed.specs.Symbols.{symbols, name_table}
use Rattle.framed.specs.Tree.{Written, Slots}
use Rattle.framed.specs.Parse.{parse}
use Rattle.framed.specs.Paths.{resolve_slots, program_place}
use Rattle.framed.specs.Meaning.{Lengths, refusal, pieces, misplaced, main_start, frame_outside}
use Rattle.framed.specs.Program.{Program, program, program_of}

-- 4 to 7, 11 and 12 do not hold
pub record SourceFits (source : List ℕ) (F : ℕ) (q : Program) : Type 0 where
  pub list : List Token
  pub tree : Slots Written
  pub list_is : tokens class source ≡ some list
  pub tree_is : parse (symbols list) ≡ some tree
  pub nesting : highest_nesting 0 list ≤ 16
  pub in_place : any misplaced (pieces tree) ≡ false
  pub start_is : main_start (name_table list) tree ≡ some q.start
  pub few_frames : count frame_outside (pieces tree) < F
  pub program_is : program_of list (resolve_slots program_place tree) q.start ≡ q

-- a source that load accepts has a program, and it fits
abbrev pub AcceptedFits : Type 0
AcceptedFits = (m : Lengths) (source : List ℕ) (F T : ℕ) → refusal m source F T ≡ 0 → (p : Program) × (program source ≡ some p) × SourceFits source F p

-- the start is the Main.start of the program's own slots
abbrev pub AcceptedStart : Type 0
AcceptedStart = (source : List ℕ) (F : ℕ) (q : Program) → SourceFits source F q → main_start q.names q.slots ≡ some q.start
