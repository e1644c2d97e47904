-- Document 01, "The endless machine", "At the start": where the program words p and literal bytes l hold the program q, the heap words `start-heap p l` and cleared
-- text bytes hold its start. Frames have the numbers in which they are made, so that no renaming is needed. Assumes nothing.
use Rattle.std.specs.Prelude.{◌≡◌, List, ℕ}
use Rattle.framed.specs.Machine.{start}
use Rattle.framed.specs.Program.{Program}
use Rattle.framed.specs.Alike.{Renaming, Alike}
use Rattle.tables.specs.Fields.{frame_limit, codes}
use Rattle.heap.specs.Words.{end_mark}
use Rattle.program_form.specs.WellFormed.{WellFormed}
use Rattle.trees.specs.Held.{program_held}
use Rattle.shapes.specs.Numbers.{slots_size}
use Rattle.shapes.specs.Shape.{Shaped}
use Rattle.accepted.specs.Constant.{WrittenFits}
use Rattle.state_form.specs.Form.{StateWellFormed}
use Rattle.wellformed.specs.WellFormed.{limits}
use Rattle.wellformed.specs.Held.{state_held}
use Rattle.emission.specs.Emit.{cleared}
use Rattle.start_state.specs.Start.{CanStart, start_heap}

-- every number as it is
abbrev pub same_numbers : Renaming
same_numbers = record { frame = λ n. n; text = λ k. k }

-- p and l hold the program q, which has room for its written frames and self
pub record Holds (p l : List ℕ) (q : Program) : Type 0 where
  pub program : WellFormed p l
  pub decodes : program_held p l ≡ q
  pub shaped : Shaped q
  pub codes_are : codes p ≡ (slots_size q.slots).codes
  pub written : WrittenFits q (frame_limit p)

pub record StartHeld (p l : List ℕ) (q : Program) : Type 0 where
  -- what the code that makes the start requires of cleared memories
  pub can_start : CanStart p l (cleared 16384) (cleared 16384)
  -- the state is well-formed (document 01: whole)
  pub formed : StateWellFormed (start_heap p l) (cleared 16384) (limits p)
  pub unmarked : end_mark (start_heap p l) ≡ 0
  pub alike : Alike (start q) (state_held p (start_heap p l) (cleared 16384))
  pub no_renaming : alike.renaming ≡ same_numbers

abbrev pub StartsHeld : Type 0
StartsHeld = (p l : List ℕ) (q : Program) → Holds p l q → StartHeld p l q
