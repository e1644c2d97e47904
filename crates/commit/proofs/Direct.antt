-- What every instruction that is done in one go shares: the cases of the answer, and what well-formed memories have. Assumes nothing.
use Prim.Native.Nat.{ℕ}
use mathlib.Core.Path.{◌≡◌, refl}
use mathlib.Core.List.{List}
use Rattle.std.specs.Prelude.{Ok, Err}
use Rattle.framed.specs.declared.End.{End}
use Rattle.framed.specs.Answers.{end_number}
use Rattle.state_form.proofs.Facts.{well_formed_sized}
use Rattle.wellformed.specs.WellFormed.{WellFormed, Formed}
use Rattle.checking.specs.Checking.{Checks}
use Rattle.checking.proofs.Memories.{well_formed_checks}
use Rattle.producing.specs.Producing.{Writable}
use Rattle.commit.specs.declared.Done.{Done}
use Rattle.commit.specs.Direct.{CanDo, MakesOrShows, IsMade, IsEnded, Does}

-- ---- By the answer

module _ (p l h t : List ℕ) (i : ℕ) where
  pub made : (h' : List ℕ) → IsMade p l h t i h' → Does p l h t i (Ok Done.Made) h'
  made h' k = record { made = λ q. k; ended = λ d q. absurd (cc); left = λ q. absurd (cc) }

  pub ended : (e : End) (h' : List ℕ) → IsEnded p l h t i (end_number e) h' → Does p l h t i (Err e) h'
  ended e h' k = record { made = λ q. absurd (cc); ended = λ d q. let z : e ≡ d = cc in rw z at k; left = λ q. absurd (cc) }

  pub left : MakesOrShows p i → Does p l h t i (Ok Done.Left) h
  left m = record { made = λ q. absurd (cc); ended = λ d q. absurd (cc); left = λ q. record { why = m; words = refl } }

-- ---- What well-formed memories have

module _ (p l h t : List ℕ) (i : ℕ) (can : CanDo p l h t i) where
  pub formed : WellFormed p h l t
  unfolding Formed
  formed = can.memories

  pub writable : Writable p l h t
  writable = record { program = formed.program; sized = well_formed_sized formed.state; text_size = formed.state.text_size }

  pub checks : Checks p l h t
  checks = well_formed_checks p h l t formed
