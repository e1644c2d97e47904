-- Document 01, number 11: the code in slot start of the frame in slot Main, read from program words p. A place is 0 for none, or 1 + the number of a slot.
-- Assumes nothing.
use Rattle.std.specs.Prelude.{◌≡◌, List, ℕ, zero, suc, eqb}
use Rattle.std.proofs.Math.Option.{some}
use Rattle.words.specs.Words.{pick}
use Rattle.framed.specs.Common.{bytes}
use Rattle.framed.specs.Symbols.{number_in}
use Rattle.framed.specs.Meaning.{main_start}
use Rattle.tables.specs.declared.ExpressionEntry.{ExpressionEntry}
use Rattle.tables.specs.Entries.{expression_at}
use Rattle.tables.specs.Fields.{program_slots, slot_name, slot_after, link}
use Rattle.program_form.specs.WellFormed.{WellFormed}
use Rattle.trees.specs.Held.{slots_held}

-- the place of the first slot with name x, among n slots from a place on
unfoldable pub find_slot : List ℕ → ℕ → ℕ → ℕ → ℕ
find_slot p x zero z = 0
find_slot p x (suc n) zero = 0
find_slot p x (suc n) (suc y) =
    let r = find_slot p x n (slot_after p y) in
    pick (eqb x (slot_name p y)) (suc y) r

-- the place of the first slot of a frame literal, by the entry of expression y
unfoldable pub entry_slots : ℕ → ExpressionEntry → ℕ
entry_slots y (ExpressionEntry.Integer w) = 0
entry_slots y (ExpressionEntry.Literal k) = 0
entry_slots y (ExpressionEntry.FromSelf j n) = 0
entry_slots y (ExpressionEntry.FromProgram j n) = 0
entry_slots y (ExpressionEntry.Code k) = 0
entry_slots y (ExpressionEntry.Frame d) = link 1024 y d
entry_slots y (ExpressionEntry.Not e) = 0
entry_slots y (ExpressionEntry.Operate o e g) = 0
entry_slots y ExpressionEntry.Bad = 0

unfoldable pub frame_slots : List ℕ → ℕ → ℕ
frame_slots p zero = 0
frame_slots p (suc y) = entry_slots y (expression_at p y)

-- the number of a code literal
unfoldable pub entry_code : ExpressionEntry → ℕ
entry_code (ExpressionEntry.Integer w) = 0
entry_code (ExpressionEntry.Literal k) = 0
entry_code (ExpressionEntry.FromSelf j n) = 0
entry_code (ExpressionEntry.FromProgram j n) = 0
entry_code (ExpressionEntry.Code k) = k
entry_code (ExpressionEntry.Frame d) = 0
entry_code (ExpressionEntry.Not e) = 0
entry_code (ExpressionEntry.Operate o e g) = 0
entry_code ExpressionEntry.Bad = 0

unfoldable pub code_number : List ℕ → ℕ → ℕ
code_number p zero = 0
code_number p (suc y) = entry_code (expression_at p y)

-- the code in slot `start` of the frame in slot `main` of the program frame, where these are the numbers of names
unfoldable pub start_code : List ℕ → ℕ → ℕ → ℕ
start_code p main start = code_number p (find_slot p start 16 (frame_slots p (find_slot p main 16 (program_slots p))))

-- in well-formed words it is the Main.start of the slots that they hold
abbrev pub StartFound : Type 0
StartFound = (p l : List ℕ) (names : List (List ℕ)) (k : ℕ) → WellFormed p l → main_start names (slots_held p (program_slots p)) ≡ some k →
    start_code p (number_in names (bytes "Main")) (number_in names (bytes "start")) ≡ k
