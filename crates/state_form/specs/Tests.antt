-- Document 01, "Whole memories" (here: well-formed), the clauses on heap words h and text bytes t, as the tests that the code makes: those on values and frames
-- are in frame_form, that on made texts in text_form. Form says what they mean; that they decide it is `StateDecides`. Assumes nothing.
use Rattle.std.specs.Prelude.{ℕ, ◌≡◌, List, Bool, true, ◌&&◌, ◌||◌, length, eqb, leb}
use Rattle.words.specs.Words.{word}
use Rattle.heap.specs.Words.{position, end_mark}
use Rattle.heap.specs.Held.{frames_in_use, texts_in_use}
use Rattle.frame_form.specs.declared.Limits.{Limits}
use Rattle.frame_form.specs.Tests.{value_formed, frames_formed}
use Rattle.text_form.specs.Tests.{texts_formed}
use Rattle.state_form.specs.Form.{StateWellFormed}

unfoldable pub roots_formed : List ℕ → Limits → Bool
roots_formed h l = value_formed h l (word h 0) (word h 1) && value_formed h l (word h 2) (word h 3)

unfoldable pub counts_formed : List ℕ → Limits → Bool
counts_formed h l = leb (length (frames_in_use h)) l.frames && leb (length (texts_in_use h)) l.texts

unfoldable pub position_formed : List ℕ → Limits → Bool
position_formed h l = leb (position h) l.instructions

unfoldable pub end_formed : List ℕ → Bool
end_formed h = eqb (end_mark h) 0 || (leb 31 (end_mark h) && leb (end_mark h) 37)

unfoldable pub parts_formed : List ℕ → List ℕ → Limits → Bool
parts_formed h t l = roots_formed h l && frames_formed h l && texts_formed h t && counts_formed h l && position_formed h l && end_formed h

unfoldable pub state_well_formed : List ℕ → List ℕ → Limits → Bool
state_well_formed h t l = eqb (length h) 16384 && (eqb (length t) 16384 && parts_formed h t l)

-- A test decides a fact: it is true exactly where the fact holds. The test of the state decides what Form states
pub record Decides (b : Bool) (P : Type 0) : Type 0 where
  pub if_true : b ≡ true → P
  pub only_if : P → b ≡ true

abbrev pub StateDecides : Type 0
StateDecides = (h t : List ℕ) (l : Limits) → Decides (state_well_formed h t l) (StateWellFormed h t l)
