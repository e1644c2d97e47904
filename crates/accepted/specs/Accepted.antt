-- Document 01, the table, numbers 1 to 12: what holds of the arguments and of the source where no number does. Assumes nothing.
use Rattle.std.specs.Prelude.{◌≡◌, List, ℕ, ◌≤◌, length}
use Rattle.std.proofs.Math.Option.{some}
use Rattle.framed.specs.Meaning.{Lengths, refusal}
use Rattle.framed.specs.Program.{Program, program}
use Rattle.framed.specs.Accepted.{SourceFits}

-- 1 to 3
pub record ArgumentsFit (m : Lengths) (source : List ℕ) (F T : ℕ) : Type 0 where
  pub program_size : m.program ≡ 16384
  pub heap_size : m.heap ≡ 16384
  pub literal_size : m.literal ≡ 8192
  pub text_size : m.text ≡ 16384
  pub F_least : 3 ≤ F
  pub F_most : F ≤ 256
  pub T_most : T ≤ 256
  pub short : length source ≤ 16384

-- and 4 to 7, 11 and 12; the other numbers are in `shapes`
pub record Accepted (m : Lengths) (source : List ℕ) (F T : ℕ) (q : Program) : Type 0 where
  pub arguments : ArgumentsFit m source F T
  pub source_fits : SourceFits source F q

abbrev pub AcceptedSources : Type 0
AcceptedSources = (m : Lengths) (source : List ℕ) (F T : ℕ) (q : Program) → refusal m source F T ≡ 0 → program source ≡ some q → Accepted m source F T q
