-- What each way through the functions of the start gives. Assumes nothing.
use mathlib.Core.Path.{◌≡◌, sym, ap, ◌∙◌}
use mathlib.Core.List.{List}
use Prim.Native.Nat.{ℕ, ◌<◌}
use native.Mathlib.Omega.{arith}
use Rattle.words.specs.Words.{word}
use Rattle.framed.specs.declared.Value.{Value}
use Rattle.framed.specs.Tree.{Expression}
use Rattle.framed.specs.Machine.{join_signs}
use Rattle.tables.specs.Fields.{program_slots, start, code_first}
use Rattle.program_form.specs.Sound.{SlotPlace}
use Rattle.heap.specs.Words.{set_self, set_program, set_position}
use Rattle.allocation.specs.Allocation.{next_frame}
use Rattle.bounded.specs.Bounded.{evaluate}
use Rattle.word_store.specs.Store.{Memories, memories, claim_frame}
use Rattle.word_store.specs.State.{store_held}
use Rattle.producing.specs.Producing.{Leaves}
use Rattle.evaluation.specs.Evaluation.{program_constants, Claims, CanFill, Fills}
use Rattle.evaluation.proofs.Stores.{claim_in_use, claim_leaves}
use Rattle.emission.specs.Emit.{cleared}
use Rattle.start_state.specs.Start.{written_slots, written, new_self, rooted, start_heap, CanStart, Makes, Starts}
use Rattle.start_state.proofs.Blank.{blank_word, blank_size, blank_sized, blank_frames, blank_texts, self_zero, program_zero, position_zero, clear_zero}
use Rattle.start_state.proofs.Texts.{evaluate_text}

-- ---- The written frames

-- a frame claimed on the cleared words, whose position is 0
abbrev claimed : List ℕ
claimed = claim_frame (cleared 16384) 0

claimed_leaves : Leaves (cleared 16384) (cleared 16384) 1 0 claimed (cleared 16384)
claimed_leaves = claim_leaves (cleared 16384) (cleared 16384) blank_sized (blank_size 16384) (omega (arith, blank_frames)) 0

claimed_zero : (k : ℕ) → k < 6 → word claimed k ≡ 0
claimed_zero k lt = claimed_leaves.header.agree k lt ∙ blank_word 16384 k

-- the store that the claimed words are
claimed_store : store_held claimed (cleared 16384) ≡ memories claimed (cleared 16384)
unfolding store_held
claimed_store = ap (λ (h : List ℕ). memories h (cleared 16384)) (clear_zero claimed claimed_leaves.sized.size claimed_zero)

module _ (p l h t : List ℕ) (can : CanStart p l h t) (f : ℕ) (h₁ : List ℕ) (c : Claims h f h₁) (z : ℕ) (ez : z ≡ program_slots p) where
  words_are : h₁ ≡ claimed
  words_are = c.words ∙ rw (can.heap_cleared, position_zero (cleared 16384) (λ k lt. blank_word 16384 k))

  number_is : f ≡ next_frame (cleared 16384)
  number_is = c.answer ∙ ap next_frame can.heap_cleared

  pub written_can_fill : CanFill p l h₁ t f z
  written_can_fill =
      rw (words_are, number_is, can.text_cleared, ez)
      (record {
        writable = record { program = can.program; sized = claimed_leaves.sized; text_size = blank_size 16384 };
        place = SlotPlace.of_program;
        frame = claim_in_use (cleared 16384) (cleared 16384) blank_sized (blank_size 16384) (omega (arith, blank_frames)) 0;
        room = record {
          frames = omega (arith, claimed_leaves.frames, blank_frames, can.room);
          texts = omega (arith, claimed_leaves.texts, blank_texts, can.no_joins);
        };
      })

  module _ (h₂ t₂ : List ℕ) (done : Fills p l h₁ t f z h₂ t₂) where
    filled : Fills p l claimed (cleared 16384) (next_frame (cleared 16384)) (program_slots p) h₂ t₂
    filled = rw (words_are, number_is, can.text_cleared, ez) at done

    stored : (written p l).store ≡ store_held h₂ t₂
    unfolding written evaluate
    stored = rw (position_zero claimed claimed_zero, self_zero claimed claimed_zero, program_zero claimed claimed_zero, claimed_store) at filled.stored

    header_zero : (k : ℕ) → k < 6 → word h₂ k ≡ 0
    header_zero k lt = filled.leaves.header.agree k lt ∙ claimed_zero k lt

    store_is : store_held h₂ t₂ ≡ memories h₂ t₂
    unfolding store_held
    store_is = ap (λ (x : List ℕ). memories x t₂) (clear_zero h₂ filled.leaves.sized.size header_zero)

    text_stays : (written p l).store.text ≡ cleared 16384
    unfolding written join_signs
    text_stays = evaluate_text (program_constants p l) _ _ _ (Expression.frame (written_slots p)) (memories (cleared 16384) (cleared 16384)) can.no_joins

    value_is : Value.Frame f ≡ (written p l).value
    unfolding written evaluate
    value_is = ap Value.Frame number_is

    pub written_makes : Makes p l f h₂ t₂
    written_makes = record {
      value_is = value_is;
      heap_is = ap (λ (s : Memories). s.heap) (sym (stored ∙ store_is));
      text_cleared = ap (λ (s : Memories). s.text) (sym (stored ∙ store_is)) ∙ text_stays;
    }

-- ---- Self, program and position

pub self_done : (h : List ℕ) (g : ℕ) (h₁ h₂ : List ℕ) → Claims h g h₁ → h₂ ≡ set_self h₁ (Value.Frame g) → h₂ ≡ new_self h
unfolding new_self
self_done h g h₁ h₂ c e = rw (e, c.answer, c.words)

pub rooted_done : (p h : List ℕ) (v : Value) (h₁ h₂ h₃ : List ℕ) (k z : ℕ) → h₁ ≡ new_self h → h₂ ≡ set_program h₁ v → k ≡ start p → z ≡ code_first p k → h₃ ≡ set_position h₂ z → h₃ ≡ rooted p h v
unfolding rooted
rooted_done p h v h₁ h₂ h₃ k z e₁ e₂ ek ez e₃ = rw (e₃, ez, ek, e₂, e₁)

pub starts_done : (p l : List ℕ) (f : ℕ) (h t h' : List ℕ) → Makes p l f h t → h' ≡ rooted p h (Value.Frame f) → Starts p l h' t
unfolding start_heap
starts_done p l f h t h' m e = record { heap_is = rw (e, m.value_is, m.heap_is); text_cleared = m.text_cleared }
