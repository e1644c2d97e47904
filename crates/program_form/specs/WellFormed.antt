-- Document 01, "The calls", whole memories (here: well-formed): the paragraph's part on program words p and literal bytes l, and the test that decides it.
-- `Entries` (crate `program_entries`) is about single entries, `Parts` (crate `program_parts`) about what is part of what. Assumes nothing.
use Rattle.std.specs.Prelude.{◌≡◌, Bool, true, ◌&&◌, List, ℕ, eqb, length}
use Rattle.program_entries.specs.Form.{Entries}
use Rattle.program_entries.specs.Tests.{entries_ok}
use Rattle.program_parts.specs.Parts.{Parts}
use Rattle.program_parts.specs.Tests.{parts_ok}

pub record WellFormed (p l : List ℕ) : Type 0 where
  pub size : length p ≡ 16384
  pub literal_size : length l ≡ 8192
  pub entries : Entries p l
  pub parts : Parts p

unfoldable pub program_well_formed : List ℕ → List ℕ → Bool
program_well_formed p l = eqb (length p) 16384 && (eqb (length l) 8192 && (entries_ok p l && parts_ok p))

-- the test decides: it is true exactly for well-formed words and bytes
pub record Decides (p l : List ℕ) : Type 0 where
  pub means : program_well_formed p l ≡ true → WellFormed p l
  pub never_refused : WellFormed p l → program_well_formed p l ≡ true
