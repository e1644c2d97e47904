-- A step from words with room for what its instruction makes: check, the line and commit. Assumes nothing.
use Prim.Native.Nat.{ℕ}
use mathlib.Core.Path.{◌≡◌, refl}
use mathlib.Core.List.{List, []}
use Rattle.tables.specs.declared.InstructionEntry.{InstructionEntry}
use Rattle.tables.specs.Entries.{instruction_at}
use Rattle.heap.specs.Words.{set_end_mark}
use Rattle.state_form.proofs.Facts.{well_formed_sized}
use Rattle.allocation.specs.declared.Known.{Known}
use Rattle.allocation.specs.Known.{TextsFull, Full, Knows}
use Rattle.checking.specs.Checking.{AssignsOrShows, ChecksInstruction}
use Rattle.reserving.specs.Reserving.{room_end_held, reserved_words, Reserves}
use Rattle.commit.specs.Commit.{CanCommit, Commits}
use Rattle.commit.specs.Direct.{end_met}
use Rattle.commit.specs.Words.{WordsFit}
use Rattle.commit.proofs.Ready.{can_commit}
use Rattle.step_parts.specs.declared.Shown.{Shown}
use Rattle.step_parts.specs.declared.Outcome.{Outcome}
use Rattle.step_parts.specs.Step.{frames_for, texts_for, RoomFor, CanStep, Shows, CanAttempt, Attempts, AttemptsQuietly}
use Rattle.step_parts.proofs.Ends.{StepEnds, formed_now, ready_checks, end_of_check}
use Rattle.step_parts.proofs.Line.{show_none}
use Rattle.step_parts.proofs.Known.{knows_now, ended_knows, made_knows}
use Rattle.step_parts.proofs.Laws.{attempt_shows, attempt_ended, attempt_no_space, attempt_made}

-- reserve leaves them as they are
pub reserves_none : (p h : List ℕ) (i : ℕ) → 0 ≡ room_end_held p h (frames_for p i) (texts_for p i) → Reserves p h (frames_for p i) (texts_for p i) 0 h
unfolding reserved_words
reserves_none p h i room = record { words = rw (← room); end = room }

module _ (p h : List ℕ) (i : ℕ) (k : Known) (w : RoomFor p h i k) where
  pub room_knows : Knows h 0 0 k
  room_knows = knows_now h (frames_for p i) (texts_for p i) k w.knows

  pub room_full : Full h k.low k.least
  room_full = w.knows.full

  pub room_texts : TextsFull h k.least
  room_texts = room_full.texts

module _ (p l h t : List ℕ) (i : ℕ) (can : CanStep p l h t i) (k : Known) (w : RoomFor p h i k) where
  reserves : Reserves p h (frames_for p i) (texts_for p i) 0 h
  reserves = reserves_none p h i w.room

  module _ (form : AssignsOrShows p i) where
    pub room_checks : ChecksInstruction p l h t i
    room_checks = ready_checks p l h t i can 0 h reserves form

    pub room_commits : CanCommit p l h t i
    room_commits =
        let f = formed_now p l h t i can in
        can_commit p l h h t i f.program (well_formed_sized f.state) f.state.text_size can.there can.next form reserves

  module _ (e : ℕ) (ee : e ≡ end_met p l h t i) where
    pub room_ends : StepEnds p l h t i e h
    room_ends = end_of_check p l h t i can 0 h reserves refl e ee

    -- an end, whatever the buffer
    module _ (ne : e ≡ 0 → ⊥) (h' : List ℕ) (eh : h' ≡ set_end_mark h e) where
      pub ended_quietly : WordsFit h' → AttemptsQuietly p l h t i (Outcome.Ended e) h' t
      ended_quietly fit = record { with_output = λ out used le. attempt_ended p l h t i out used (record { step = can; inside = le }) e h room_ends ne h' eh fit }

      pub ended_then_knows : Knows h' 0 0 k
      ended_then_knows = ended_knows p l h t i can e h room_ends k (room_knows p h i k w) h' eh

    -- none
    module _ (z : e ≡ 0) (h' t' : List ℕ) (c : Commits p l h t i h' t') where
      pub made_then_knows : Knows h' 0 0 k
      made_then_knows = made_knows p l h t i can e h room_ends k z h' t' c w.knows

      -- without a line
      pub made_quietly : ((a : ℕ) → instruction_at p i ≡ InstructionEntry.Show a → ⊥) → WordsFit h' → AttemptsQuietly p l h t i (Outcome.Made 0) h' t'
      made_quietly ns fit = record {
        with_output = λ out used le.
            attempt_made p l h t i out used (record { step = can; inside = le }) e h room_ends z (Shown.Written 0) out
            (show_none p l h t i out used (attempt_shows p l h t i out used (record { step = can; inside = le })) (instruction_at p i) refl ns) 0 refl h' t' c fit;
      }

-- ---- Part by part

module _ (p l h t : List ℕ) (i : ℕ) (out : List ℕ) (used : ℕ) (can : CanAttempt p l h t i out used) (k : Known) (w : RoomFor p h i k) (e : ℕ) (ee : e ≡ end_met p l h t i) where
  abbrev ends : StepEnds p l h t i e h
  ends = room_ends p l h t i can.step k w e ee

  pub parts_ended : (e ≡ 0 → ⊥) → (h' : List ℕ) → h' ≡ set_end_mark h e → WordsFit h' → Attempts p l h t i out used (Outcome.Ended e) h' t out
  parts_ended = attempt_ended p l h t i out used can e h ends

  module _ (z : e ≡ 0) (r : Shown) (out' : List ℕ) (s : Shows p l h t i out used r out') where
    pub parts_no_space : r ≡ Shown.TooLong → WordsFit h → Attempts p l h t i out used Outcome.NoSpace h t out'
    parts_no_space = attempt_no_space p l h t i out used can e h ends z r out' s

    pub parts_made : (n : ℕ) → r ≡ Shown.Written n → (h' t' : List ℕ) → Commits p l h t i h' t' → WordsFit h' → Attempts p l h t i out used (Outcome.Made n) h' t' out'
    parts_made = attempt_made p l h t i out used can e h ends z r out' s
