-- What is proved of a tree as it is written again. Assumes nothing.
use Rattle.std.specs.Prelude.{◌≡◌, List, [], ℕ}
use Rattle.framed.specs.Tree.{Written, Slots}
use Rattle.framed.specs.Paths.{resolve_slots, program_place}
use Rattle.framed.specs.Meaning.{main_start, meaning_refusal}
use Rattle.framed.specs.Program.{Program}
use Rattle.framed.specs.Writer.{program_words, joined_words}
use Rattle.write_symbols.specs.Order.{Without}
use Rattle.write_symbols.specs.Symbols.{frame_symbols, spelled_all}
use Rattle.write_paths.specs.Rewriting.{rewritten_slots, WordsFormed}

-- the tree has the same resolved paths
abbrev pub SameResolved : Type 0
SameResolved = (ss : Slots Written) → resolve_slots program_place (rewritten_slots program_place ss) ≡ resolve_slots program_place ss

-- and the same Main.start; none of 7 to 12 holds of it where none holds of the tree
abbrev pub SameStart : Type 0
SameStart = (names : List (List ℕ)) (ss : Slots Written) → main_start names (rewritten_slots program_place ss) ≡ main_start names ss

abbrev pub SameMeaning : Type 0
SameMeaning = (names : List (List ℕ)) (ss : Slots Written) (F : ℕ) → meaning_refusal names ss F ≡ 0 →
    meaning_refusal names (rewritten_slots program_place ss) F ≡ 0

-- its symbols are those of the tree without some: a path climbs no further than it did, and leaves out only names of frames that stand around it
abbrev pub FewerSymbols : Type 0
FewerSymbols = (ss : Slots Written) → Without [] (frame_symbols ss) (frame_symbols (rewritten_slots program_place ss))

-- spelled, they are the tokens of the program's text, whose words are in form
abbrev pub WordsSpelled : Type 0
WordsSpelled = (p : Program) (ss : Slots Written) → p.slots ≡ resolve_slots program_place ss →
    joined_words (program_words p) ≡ spelled_all p.names p.literals (frame_symbols (rewritten_slots program_place ss))

abbrev pub ProgramFormed : Type 0
ProgramFormed = (p : Program) → WordsFormed (program_words p)
