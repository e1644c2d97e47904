-- Document 01, "The endless machine", one step on an instruction that makes no frame and no text and shows nothing, over program words p,
-- literal bytes l, heap words h and text bytes t: its end is that of `bounded`'s check, and what it does is the bounded machine's commit. Assumes nothing.
use Rattle.std.specs.Prelude.{ℕ, suc, ◌<◌, ◌≡◌, List, Result, Ok, Err}
use Rattle.framed.specs.declared.End.{End}
use Rattle.framed.specs.Answers.{end_number}
use Rattle.framed.specs.Machine.{frame_literals, join_signs, right_side}
use Rattle.tables.specs.declared.InstructionEntry.{InstructionEntry}
use Rattle.tables.specs.Entries.{instruction_at}
use Rattle.tables.specs.Fields.{instructions}
use Rattle.trees.specs.Held as trees
use Rattle.heap.specs.Words.{self_held, program_held, position}
use Rattle.heap.specs.Held.{heap_held}
use Rattle.wellformed.specs.WellFormed.{Formed}
use Rattle.bounded.specs.Check.{check}
use Rattle.commit.specs.declared.Done.{Done}
use Rattle.commit.specs.Commit.{Commits}

-- the memories are well-formed and instruction i is the next
pub record CanDo (p l h t : List ℕ) (i : ℕ) : Type 0 where
  pub memories : Formed p l h t
  pub there : i < instructions p
  pub next : position h ≡ suc i

-- and has this entry
pub record CanDoEntry (p l h t : List ℕ) (i : ℕ) (e : InstructionEntry) : Type 0 where
  pub can : CanDo p l h t i
  pub entry : e ≡ instruction_at p i

-- it makes no frame and no text
pub record MakesNothing (p : List ℕ) (i : ℕ) : Type 0 where
  pub frames : frame_literals (right_side (trees.instruction_held p i)) ≡ 0
  pub texts : join_signs (right_side (trees.instruction_held p i)) ≡ 0

-- it makes a frame or a text, or shows
pub data MakesOrShows (p : List ℕ) (i : ℕ) : Type 0 where
  makes_frame : 0 < frame_literals (right_side (trees.instruction_held p i)) → MakesOrShows p i
  makes_text : 0 < join_signs (right_side (trees.instruction_held p i)) → MakesOrShows p i
  shows : (a : ℕ) → instruction_at p i ≡ InstructionEntry.Show a → MakesOrShows p i

module _ (p l h t : List ℕ) (i : ℕ) where
  -- the end of 31 to 35 that it meets first, 0 where it meets none
  abbrev pub end_met : ℕ
  end_met = check (trees.program_held p l) (self_held h) (program_held h) (heap_held h t) (trees.instruction_held p i)

  -- it has been made
  pub record IsMade (h' : List ℕ) : Type 0 where
    pub nothing : MakesNothing p i
    pub end : 0 ≡ end_met
    pub no_show : (a : ℕ) → instruction_at p i ≡ InstructionEntry.Show a → ⊥
    pub commits : Commits p l h t i h' t

  -- it ends, and nothing is written
  pub record IsEnded (e : ℕ) (h' : List ℕ) : Type 0 where
    pub nothing : MakesNothing p i
    pub end : e ≡ end_met
    pub some : e ≡ 0 → ⊥
    pub words : h' ≡ h

  -- it is left, as it makes something or shows, and nothing is written
  pub record IsLeft (h' : List ℕ) : Type 0 where
    pub why : MakesOrShows p i
    pub words : h' ≡ h

  -- by the answer
  pub record Does (r : Result Done End) (h' : List ℕ) : Type 0 where
    pub made : r ≡ Ok Done.Made → IsMade h'
    pub ended : (e : End) → r ≡ Err e → IsEnded (end_number e) h'
    pub left : r ≡ Ok Done.Left → IsLeft h'
