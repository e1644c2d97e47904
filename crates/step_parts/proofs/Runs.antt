-- A run of the bounded machine from the state that the words hold, at an instruction: one equation for each way of its first step. Assumes nothing.
use Prim.Native.Nat.{ℕ, zero, suc, ◌-◌}
use mathlib.Core.Path.{◌≡◌, refl, ap, sym}
use mathlib.Core.List.{List}
use mathlib.Core.Bool.{true, false}
use lib.Dec.{leb}
use lib.ListN.{length}
use Rattle.framed.specs.Answers.{Stopped}
use Rattle.framed.specs.Calls.{Position, at_end, before, position_in}
use Rattle.tables.specs.Fields.{frame_limit, text_limit, instruction_after}
use Rattle.trees.specs.Held.{program_held, instruction_held, remaining}
use Rattle.trees.proofs.Held.{one_level_held}
use Rattle.heap.specs.Words.{position, end_mark}
use Rattle.bounded.specs.Bounded.{Bounded, with_mark, line, commit, Ran, stopped, one_more}
use Rattle.bounded.specs.Theorems.{RunWays}
use Rattle.bounded.proofs.Runs.{run_ways}
use Rattle.word_store.specs.Store.{Memories, word_store}
use Rattle.word_store.specs.State.{state_held}
use Rattle.reserving.specs.Reserving.{room_end_held}
use Rattle.reserving.proofs.Meaning.{reserve_ready}
use Rattle.commit.specs.Commit.{state_of}
use Rattle.step_parts.specs.Step.{frames_for, texts_for, ready_words, CanStep, step_end_held, line_held, committed, ready_state, machine_run}
use Rattle.step_parts.proofs.Ends.{formed_now}

module _ (p l h t : List ℕ) (i : ℕ) (can : CanStep p l h t i) where
  abbrev now : Bounded Memories
  now = state_of p h t

  abbrev ways : RunWays word_store (program_held p l) (frame_limit p) (text_limit p)
  ways = run_ways word_store (program_held p l) (frame_limit p) (text_limit p)

  -- where it stands
  pub place_next : position_in (end_mark h) (remaining p (position h)) ≡ before (instruction_held p i) (remaining p (instruction_after p i))
  unfolding position_in
  place_next = rw (can.unmarked, can.next, (one_level_held p l (formed_now p l h t i can).program).next i can.there)

  place_now : position_in now.end_mark now.remaining ≡ before (instruction_held p i) (remaining p (instruction_after p i))
  unfolding state_held
  place_now = place_next

  -- the state after reserve
  pub ready_is : state_of p (ready_words p h i) t ≡ ready_state p l h t i
  unfolding ready_words
  ready_is =
      reserve_ready (remaining p) p h t (instruction_held p i) (room_end_held p (ready_words p h i) (frames_for p i) (texts_for p i)) (ready_words p h i)
      (record { words = refl; end = refl }) (formed_now p l h t i can).state.heap_size

  line_is : line word_store (program_held p l) (ready_state p l h t i) (instruction_held p i) ≡ line_held p l (ready_words p h i) t i
  unfolding line_held
  line_is = ap (λ (b : Bounded Memories). line word_store (program_held p l) b (instruction_held p i)) (sym ready_is)

  pub commit_is : committed p l (ready_words p h i) t i ≡ commit word_store (program_held p l) (ready_state p l h t i) (remaining p (instruction_after p i)) (instruction_held p i)
  commit_is = ap (λ (b : Bounded Memories). commit word_store (program_held p l) b (remaining p (instruction_after p i)) (instruction_held p i)) ready_is

  -- the ways
  pub run_ended : (e : ℕ) → e ≡ step_end_held p l h t i → (e ≡ 0 → ⊥) → (fuel space : ℕ) →
      machine_run p l h t i (suc fuel) space now ≡ stopped word_store (Stopped.end e) (with_mark e (ready_state p l h t i))
  unfolding step_end_held
  run_ended zero q ne fuel space = absurd (ne refl)
  run_ended (suc e) q ne fuel space = ways.step_gives_end fuel space now (instruction_held p i) (remaining p (instruction_after p i)) e place_now (sym q)

  module _ (z : step_end_held p l h t i ≡ 0) (space : ℕ) where
    pub run_no_space : leb (length (line_held p l (ready_words p h i) t i)) space ≡ false → (fuel : ℕ) →
        machine_run p l h t i (suc fuel) space now ≡ stopped word_store Stopped.output (ready_state p l h t i)
    unfolding step_end_held
    run_no_space q fuel = ways.line_too_long fuel space now (instruction_held p i) (remaining p (instruction_after p i)) place_now z (rw line_is q)

    pub run_made : leb (length (line_held p l (ready_words p h i) t i)) space ≡ true → (fuel : ℕ) →
        machine_run p l h t i (suc fuel) space now
        ≡ one_more word_store (line_held p l (ready_words p h i) t i)
        (machine_run p l h t i fuel (space - length (line_held p l (ready_words p h i) t i)) (committed p l (ready_words p h i) t i))
    unfolding step_end_held
    run_made q fuel = rw (commit_is, ← line_is) (ways.step_made fuel space now (instruction_held p i) (remaining p (instruction_after p i)) place_now z (rw line_is q))

  -- without fuel nothing changes
  pub run_zero : (space : ℕ) (b : Bounded Memories) → (machine_run p l h t i 0 space b).state ≡ b
  run_zero space b = go (position_in b.end_mark b.remaining) refl
    where
      go : (q : Position) → position_in b.end_mark b.remaining ≡ q → (machine_run p l h t i 0 space b).state ≡ b
      go (at_end e) q = ap (λ (r : Ran word_store). r.state) (ways.marked_or_done 0 space b e q)
      go (before j rest) q = ap (λ (r : Ran word_store). r.state) (ways.out_of_fuel space b j rest q)
