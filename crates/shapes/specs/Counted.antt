-- Document 01, "Limits and paths", the counts: the numbers that a part takes in the program words are those that load counts in its pieces.
-- Assumes nothing.
use Rattle.std.specs.Prelude.{◌≡◌, List}
use Rattle.framed.specs.Common.{count, total}
use Rattle.framed.specs.Tree.{Written, Slots}
use Rattle.framed.specs.Paths.{resolve_slots, program_place}
use Rattle.framed.specs.Meaning.{Kind, Piece, pieces, is_one, path_names}
use Rattle.shapes.specs.Numbers.{Numbers, slots_size}

pub record Counted (s : Numbers) (ps : List Piece) : Type 0 where
  pub expressions_are : s.expressions ≡ count (is_one Kind.expression) ps
  pub instructions_are : s.instructions ≡ count (is_one Kind.instruction) ps
  pub path_names_are : s.path_names ≡ total path_names ps
  pub codes_are : s.codes ≡ count (is_one Kind.code) ps

abbrev pub SizesCounted : Type 0
SizesCounted = (ss : Slots Written) → Counted (slots_size (resolve_slots program_place ss)) (pieces ss)
