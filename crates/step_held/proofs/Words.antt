-- The words of a state hold that state, where the store's header is cleared and its values are of 32 bits. Assumes nothing.
use Prim.Native.Nat.{ℕ, ◌≤◌, ◌<◌}
use mathlib.Core.Path.{◌≡◌, ◌∙◌, ap, sym}
use mathlib.Core.List.{List, []}
use native.Mathlib.Omega.{arith}
use lib.ListN.{length}
use Rattle.words.specs.Words.{word}
use Rattle.framed.specs.Tree.{Code}
use Rattle.framed.specs.Paths.{Path}
use Rattle.heap.specs.Words.{position, end_mark, set_self, set_program, set_position}
use Rattle.heap.specs.Closed.{ValueFits}
use Rattle.bounded.specs.Bounded.{Bounded, with_mark}
use Rattle.word_store.specs.Store.{Memories, memories}
use Rattle.word_store.specs.State.{store_held, state_held, with_program, with_remaining, HeaderFormed}
use Rattle.word_store.proofs.Header.{clear_word}
use Rattle.word_store.proofs.Updates.{held_after, header_after}
use Rattle.frame_form.specs.declared.Limits.{Limits}
use Rattle.commit.specs.Words.{heap_of}
use Rattle.commit.proofs.Headers.{self_size, program_size, position_size}
use Rattle.running.specs.Cleared.{Cleared}

module _ (remaining_from : ℕ → Code Path) (b : Bounded Memories) (size : length b.store.heap ≡ 16384) (clear : Cleared b.store) where
  abbrev h₀ : List ℕ
  h₀ = b.store.heap

  abbrev h₁ : List ℕ
  h₁ = set_self h₀ b.self

  abbrev h₂ : List ℕ
  h₂ = set_program h₁ b.program

  abbrev h₃ : List ℕ
  h₃ = set_position h₂ b.next

  size₁ : length h₁ ≡ 16384
  size₁ = self_size [] h₀ size b.self

  size₂ : length h₂ ≡ 16384
  size₂ = program_size [] h₁ size₁ b.program

  size₃ : length h₃ ≡ 16384
  size₃ = position_size [] h₂ size₂ b.next

  pub words_hold : ValueFits b.self → ValueFits b.program → remaining_from b.next ≡ b.remaining → state_held remaining_from (heap_of b) b.store.text ≡ b
  unfolding heap_of with_mark state_held store_held Cleared
  words_hold fs fp er =
      (held_after remaining_from h₃ b.store.text size₃).end_mark b.end_mark
      ∙ ap (with_mark b.end_mark)
      ((held_after remaining_from h₂ b.store.text size₂).position b.next
      ∙ ap (with_remaining (remaining_from b.next) b.next)
      ((held_after remaining_from h₁ b.store.text size₁).program b.program fp
      ∙ ap (with_program b.program) ((held_after remaining_from h₀ b.store.text size).self b.self fs)))
      ∙ (λ i. record { store = memories (clear i) b.store.text; self = b.self; program = b.program; remaining = er i; next = b.next; end_mark = b.end_mark })

  -- 0 in the words of self and program
  no_word : (k : ℕ) → k < 6 → word h₀ k ≡ 0
  unfolding Cleared
  no_word k lt = ap (λ (g : List ℕ). word g k) (sym clear) ∙ clear_word h₀ k size lt

  pub words_header : (m : Limits) → b.next ≤ m.instructions → HeaderFormed (heap_of b) m
  unfolding heap_of position
  words_header m le =
      let o₀ : HeaderFormed h₀ m = record { self_tag = rw (no_word 0 (omega arith)) (omega arith); program_tag = rw (no_word 2 (omega arith)) (omega arith); position_there = rw (no_word 4 (omega arith)) (omega arith) } in
      let o₁ = (header_after h₀ m size o₀).self b.self in
      let o₂ = (header_after h₁ m size₁ o₁).program b.program in
      let o₃ = (header_after h₂ m size₂ o₂).position b.next le in
      (header_after h₃ m size₃ o₃).end_mark b.end_mark
