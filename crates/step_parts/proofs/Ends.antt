-- The end that a step gives: reserve, then check. Assumes nothing.
use Prim.Native.Nat.{ℕ, zero, suc}
use mathlib.Core.Path.{◌≡◌, refl, ◌∙◌, ap, sym}
use mathlib.Core.List.{List}
use mathlib.Core.Bool.{Bool, true, false}
use lib.Dec.{eqb}
use Rattle.words.specs.Words.{pick}
use Rattle.framed.specs.Tree.{Instruction}
use Rattle.framed.specs.Paths.{Path}
use Rattle.framed.specs.Program.{Program}
use Rattle.tables.specs.Fields.{frame_limit, text_limit}
use Rattle.trees.specs.Held as trees
use Rattle.trees.specs.Held.{remaining, instruction_held}
use Rattle.heap.specs.Words.{self_held, program_held}
use Rattle.heap.specs.Held.{heap_held}
use Rattle.state_form.specs.Form.{StateWellFormed}
use Rattle.state_form.proofs.Facts.{well_formed_closed}
use Rattle.collector.specs.Collect.{collect_heap}
use Rattle.collector.proofs.Kept.{collect_well_formed}
use Rattle.wellformed.specs.WellFormed.{limits, WellFormed, Formed}
use Rattle.bounded.specs.Check.{check}
use Rattle.bounded.specs.Bounded.{Bounded, heap_in, reserved, reserve, ready, step_end}
use Rattle.word_store.specs.Store.{Memories, word_store}
use Rattle.word_store.specs.State.{state_held}
use Rattle.evaluation.proofs.Stores.{heap_is}
use Rattle.checking.specs.Checking.{AssignsOrShows, ChecksInstruction}
use Rattle.checking.proofs.Memories.{instruction_checks}
use Rattle.reserving.specs.Reserving.{room_end_held, reserved_words, Reserves}
use Rattle.reserving.proofs.Meaning.{reserve_ready, reserve_end}
use Rattle.commit.specs.Commit.{state_of}
use Rattle.step_parts.specs.Step.{frames_for, texts_for, CanReserve, ready_words, CanStep, step_end_held}

-- ---- The bounded machine's step, by what reserve gives

module _ (q : Program) (F T : ℕ) (b : Bounded Memories) (i : Instruction Path) where
  ended : ℕ → ℕ
  ended n = elim n [ zero ↦ check q b.self b.program (heap_in word_store (reserved word_store F T b i)) i | suc e ↦ suc e ]

  by_reserve : (n : ℕ) → reserve word_store F T b i ≡ n → step_end word_store q F T b i ≡ ended n
  unfolding step_end ended
  by_reserve n e = ap ended e

  full : (n : ℕ) → (n ≡ 0 → ⊥) → reserve word_store F T b i ≡ n → step_end word_store q F T b i ≡ n
  unfolding ended
  full zero ne e = absurd (ne refl)
  full (suc n) ne e = by_reserve (suc n) e

  roomy : reserve word_store F T b i ≡ 0 → step_end word_store q F T b i ≡ check q b.self b.program (heap_in word_store (reserved word_store F T b i)) i
  unfolding ended
  roomy e = by_reserve 0 e

-- ---- Over the words

-- the words after reserve, and the end that the step gives
pub record StepEnds (p l h t : List ℕ) (i r : ℕ) (h' : List ℕ) : Type 0 where
  pub words : h' ≡ ready_words p h i
  pub end : r ≡ step_end_held p l h t i

module _ (p l h t : List ℕ) (i : ℕ) (can : CanStep p l h t i) where
  pub formed_now : WellFormed p h l t
  unfolding Formed
  formed_now = can.memories

  pub can_reserve : CanReserve p h i
  unfolding limits
  can_reserve = record {
    at = record { literal_bytes = l; program = formed_now.program; there = can.there };
    closed = well_formed_closed formed_now.state;
    frames_few = formed_now.state.frames_few;
    texts_few = formed_now.state.texts_few;
  }

  pub ready_formed : WellFormed p (ready_words p h i) l t
  unfolding ready_words reserved_words
  ready_formed = record { program = formed_now.program; state = go (eqb (room_end_held p h (frames_for p i) (texts_for p i)) 0) }
    where
      go : (b : Bool) → StateWellFormed (pick b h (collect_heap h).words) t (limits p)
      go true = formed_now.state
      go false = collect_well_formed h t (limits p) formed_now.state

  abbrev now : Bounded Memories
  now = state_of p h t

  module _ (r : ℕ) (h₁ : List ℕ) (k : Reserves p h (frames_for p i) (texts_for p i) r h₁) where
    is_ready : h₁ ≡ ready_words p h i
    unfolding ready_words
    is_ready = k.words

    pub ready_checks : AssignsOrShows p i → ChecksInstruction p l h₁ t i
    ready_checks f = rw is_ready (instruction_checks p (ready_words p h i) l t ready_formed i can.there f)

    reserved_end : reserve word_store (frame_limit p) (text_limit p) now (instruction_held p i) ≡ r
    reserved_end = sym (reserve_end (remaining p) p h t (instruction_held p i) r h₁ k formed_now.state.heap_size)

    after : state_of p h₁ t ≡ ready word_store (frame_limit p) (text_limit p) now (instruction_held p i)
    after = reserve_ready (remaining p) p h t (instruction_held p i) r h₁ k formed_now.state.heap_size

    pub end_of_reserve : (r ≡ 0 → ⊥) → StepEnds p l h t i r h₁
    unfolding step_end_held
    end_of_reserve ne = record { words = is_ready; end = sym (full (trees.program_held p l) (frame_limit p) (text_limit p) now (instruction_held p i) r ne reserved_end) }

    -- what check reads
    self_same : self_held h₁ ≡ now.self
    unfolding state_held ready
    self_same = ap (λ (b : Bounded Memories). b.self) after

    program_same : program_held h₁ ≡ now.program
    unfolding state_held ready
    program_same = ap (λ (b : Bounded Memories). b.program) after

    heap_same : heap_held h₁ t ≡ heap_in word_store (reserved word_store (frame_limit p) (text_limit p) now (instruction_held p i))
    unfolding state_held ready
    heap_same = sym (heap_is h₁ t) ∙ ap (λ (b : Bounded Memories). heap_in word_store b.store) after

    pub end_of_check : r ≡ 0 → (e : ℕ) → e ≡ check (trees.program_held p l) (self_held h₁) (program_held h₁) (heap_held h₁ t) (instruction_held p i) → StepEnds p l h t i e h₁
    unfolding step_end_held
    end_of_check z e ee = record {
      words = is_ready;
      end = rw (self_same, program_same, heap_same) at ee ∙ sym (roomy (trees.program_held p l) (frame_limit p) (text_limit p) now (instruction_held p i) (reserved_end ∙ z));
    }
