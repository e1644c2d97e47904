-- docs/LAYOUT.md, program words and literal bytes: what p and l hold of a resolved program q with its limits F and T, entry by entry. Assumes nothing.
use Rattle.std.specs.Prelude.{◌≡◌, List, ℕ, length}
use Rattle.framed.specs.Program.{Program}
use Rattle.tables.specs.Fields.{name_length, name_byte, literal_length, literal_byte}
use Rattle.shapes.specs.Numbers.{zeros}
use Rattle.emission.specs.Texts.{TextsAt, HeaderAt}
use Rattle.emission_tree.specs.Standing.{Owner, Standing}
use Rattle.emission_tree.specs.Entry.{SlotsAt}

pub record ProgramAt (p l : List ℕ) (γ : Standing) (q : Program) (F T : ℕ) : Type 0 where
  pub size : length p ≡ 16384
  pub literal_size : length l ≡ 8192
  pub header : HeaderAt p q F T
  pub names : TextsAt (name_length p) (name_byte p) 0 q.names
  pub literals : TextsAt (literal_length p) (literal_byte l) 0 q.literals
  pub slots : SlotsAt p γ (length q.names) (length q.literals) q.slots Owner.program 0 zeros
