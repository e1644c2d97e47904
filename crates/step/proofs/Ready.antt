-- What reserve leaves: an end, or words with room, from which the step is the same. Assumes nothing.
use Prim.Native.Nat.{ℕ, zero, suc, ◌-◌}
use mathlib.Core.Path.{◌≡◌, refl, ◌∙◌, ap, sym}
use mathlib.Core.Bool.{Bool, true, false}
use mathlib.Core.List.{List}
use native.Mathlib.Omega.{arith}
use lib.Dec.{leb}
use lib.ListN.{length}
use Rattle.std.specs.Prelude.{Result, Ok, Err}
use Rattle.framed.specs.declared.End.{End}
use Rattle.framed.specs.Answers.{end_number, end_met as met_by}
use Rattle.reserving.proofs.Laws.{end_some}
use Rattle.framed.specs.Answers.{Stopped}
use Rattle.trees.specs.Held.{remaining}
use Rattle.heap.specs.Words.{position, end_mark, set_end_mark}
use Rattle.wellformed.specs.WellFormed.{WellFormed, Formed}
use Rattle.allocation.specs.Known.{Knows}
use Rattle.bounded.specs.Bounded.{Bounded, with_mark, stopped}
use Rattle.word_store.specs.Store.{Memories, word_store}
use Rattle.word_store.proofs.Updates.{KeepsHeader}
use Rattle.reserving.specs.declared.Reserved.{Reserved}
use Rattle.reserving.specs.Reserving.{Reserves, Reckons}
use Rattle.reserving.proofs.Meaning.{reserved_header}
use Rattle.commit.specs.Commit.{state_of}
use Rattle.commit.specs.Direct.{MakesOrShows, end_met}
use Rattle.commit.specs.Words.{WordsFit}
use Rattle.checking.specs.Checking.{AssignsOrShows}
use Rattle.step.proofs.Making.{left_form}
use Rattle.step_parts.specs.declared.Outcome.{Outcome}
use Rattle.step_parts.specs.Step.{frames_for, texts_for, ready_words, RoomFor, CanStep, step_end_held, line_held, attempt_step, CanAttempt, Attempts, AttemptsQuietly, ready_state, machine_run}
use Rattle.step_parts.proofs.Ends.{formed_now, ready_formed, end_of_reserve, end_of_check}
use Rattle.step_parts.proofs.Runs.{ready_is, run_ended, run_no_space, run_made}
use Rattle.step_parts.proofs.Known.{ended_knows}
use Rattle.step_parts.proofs.Laws.{attempt_ended}
use Rattle.step_parts.proofs.Room.{reserves_none}

module _ (p l h t : List ℕ) (i : ℕ) (can : CanStep p l h t i) (r : ℕ) (h₁ : List ℕ) (k : Reserves p h (frames_for p i) (texts_for p i) r h₁) where
  formed : WellFormed p h₁ l t
  unfolding ready_words
  formed = rw k.words (ready_formed p l h t i can)

  keeps : KeepsHeader h h₁
  keeps = rw k.words (reserved_header (remaining p) p h t (frames_for p i) (texts_for p i))

  pub ready_step : CanStep p l h₁ t i
  unfolding Formed position end_mark
  ready_step = record { memories = formed; there = can.there; next = keeps.agree 4 (omega arith) (omega arith) ∙ can.next; unmarked = keeps.agree 5 (omega arith) (omega arith) ∙ can.unmarked }

  module _ (z : r ≡ 0) where
    abbrev here : Reserves p h₁ (frames_for p i) (texts_for p i) 0 h₁
    here = reserves_none p h₁ i (rw z at k.end)

    same_words : ready_words p h i ≡ ready_words p h₁ i
    unfolding ready_words
    same_words = sym k.words ∙ here.words

    same_end : step_end_held p l h t i ≡ step_end_held p l h₁ t i
    same_end =
        sym (end_of_check p l h t i can r h₁ k z (end_met p l h₁ t i) refl).end
        ∙ (end_of_check p l h₁ t i ready_step 0 h₁ here refl (end_met p l h₁ t i) refl).end

    same_ready : ready_state p l h t i ≡ ready_state p l h₁ t i
    same_ready = sym (ready_is p l h t i can) ∙ rw same_words (ready_is p l h₁ t i ready_step)

    same_run : (space : ℕ) → machine_run p l h t i 1 space (state_of p h t) ≡ machine_run p l h₁ t i 1 space (state_of p h₁ t)
    same_run space = go (step_end_held p l h t i) refl (leb (length (line_held p l (ready_words p h i) t i)) space) refl
      where
        go : (e : ℕ) → step_end_held p l h t i ≡ e → (b : Bool) → leb (length (line_held p l (ready_words p h i) t i)) space ≡ b →
            machine_run p l h t i 1 space (state_of p h t) ≡ machine_run p l h₁ t i 1 space (state_of p h₁ t)
        go (suc e) q b s =
            run_ended p l h t i can (suc e) (sym q) (λ x. omega arith) 0 space
            ∙ ap (λ (x : Bounded Memories). stopped word_store (Stopped.end (suc e)) (with_mark (suc e) x)) same_ready
            ∙ sym (run_ended p l h₁ t i ready_step (suc e) (sym q ∙ same_end) (λ x. omega arith) 0 space)
        go zero q false s =
            run_no_space p l h t i can q space s 0
            ∙ ap (stopped word_store Stopped.output) same_ready
            ∙ sym (run_no_space p l h₁ t i ready_step (sym same_end ∙ q) space (rw (← same_words) s) 0)
        go zero q true s =
            run_made p l h t i can q space s 0
            ∙ rw same_words (sym (run_made p l h₁ t i ready_step (sym same_end ∙ q) space (rw (← same_words) s) 0))

    module _ (out : List ℕ) (used : ℕ) (o : Outcome) (h' t' out' : List ℕ) where
      pub from_ready : Attempts p l h₁ t i out used o h' t' out' → Attempts p l h t i out used o h' t' out'
      unfolding attempt_step
      from_ready a = record {
        exact = rw (same_end, same_words) a.exact;
        state = rw (same_run (length out - used)) a.state;
        header = a.header;
        fit = a.fit;
      }

no_err : {A : Type 0} (r : Result A End) → ((e : End) → r ≡ Err e → ⊥) → met_by r ≡ 0
no_err (Ok u) n = refl
no_err (Err e) n = absurd (n e refl)

-- as the code meets it
module _ (p l h t : List ℕ) (i : ℕ) (out : List ℕ) (used : ℕ) (can : CanAttempt p l h t i out used) (s : Reserved) (h₁ : List ℕ)
    (k : Reserves p h (frames_for p i) (texts_for p i) (met_by s.end) h₁) where
  -- no room
  module _ (e : End) (is : s.end ≡ Err e) (full : ℕ) (en : full ≡ end_number e) (h' : List ℕ) (eh : h' ≡ set_end_mark h₁ full) where
    met : full ≡ met_by s.end
    met = rw (en, is)

    none : full ≡ 0 → ⊥
    none z = end_some e (sym en ∙ z)

    meets : Reserves p h (frames_for p i) (texts_for p i) full h₁
    meets = rw met k

    pub full_ended : WordsFit h' → Attempts p l h t i out used (Outcome.Ended full) h' t out
    full_ended = attempt_ended p l h t i out used can full h₁ (end_of_reserve p l h t i can.step full h₁ meets none) none h' eh

    pub full_knows : Reckons h₁ (frames_for p i) (texts_for p i) s → Knows h' 0 0 s.known
    full_knows q = ended_knows p l h t i can.step full h₁ (end_of_reserve p l h t i can.step full h₁ meets none) s.known q.now h' eh

  pub ready_can : CanAttempt p l h₁ t i out used
  ready_can = record { step = ready_step p l h t i can.step (met_by s.end) h₁ k; inside = can.inside }

  pub ready_form : MakesOrShows p i → AssignsOrShows p i
  ready_form = left_form p l (formed_now p l h t i can.step).program i can.step.there

  module _ (n : (e : End) → s.end ≡ Err e → ⊥) where
    z : met_by s.end ≡ 0
    z = no_err s.end n

    pub ready_room : Reckons h₁ (frames_for p i) (texts_for p i) s → RoomFor p h₁ i s.known
    ready_room q = record { room = rw z at k.end; knows = q.then z }

    pub ready_attempts : (o : Outcome) (h' t' out' : List ℕ) → Attempts p l h₁ t i out used o h' t' out' → Attempts p l h t i out used o h' t' out'
    ready_attempts = from_ready p l h t i can.step (met_by s.end) h₁ k z out used

    pub ready_quietly : (o : Outcome) (h' t' : List ℕ) → AttemptsQuietly p l h₁ t i o h' t' → Attempts p l h t i out used o h' t' out
    ready_quietly o h' t' a = ready_attempts o h' t' out (a.with_output out used can.inside)
