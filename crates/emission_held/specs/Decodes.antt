-- Document 01, "Limits and paths": the program that load keeps is the program of the source. Assumes nothing.
use Rattle.std.specs.Prelude.{◌≡◌, ℕ}
use Rattle.framed.specs.Program.{Program}
use Rattle.tables.specs.Fields.{frame_limit, text_limit}
use Rattle.trees.specs.Held.{OneLevel, program_held}
use Rattle.shapes.specs.Shape.{Shaped}
use Rattle.emission.specs.Emit.{program_words, literal_bytes}

-- what was emitted is read back
pub record Decodes (q : Program) (F T : ℕ) : Type 0 where
  pub program : program_held (program_words q F T) (literal_bytes q) ≡ q
  pub F_limit : frame_limit (program_words q F T) ≡ F
  pub T_limit : text_limit (program_words q F T) ≡ T

-- `OneLevel` holds of well-formed words
abbrev pub LoadDecodes : Type 0
LoadDecodes = (q : Program) (F T : ℕ) → Shaped q → OneLevel (program_words q F T) (literal_bytes q) → Decodes q F T
