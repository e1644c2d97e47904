-- What each way through `attempt` gives. Assumes nothing.
use Prim.Native.Nat.{ℕ, ◌-◌}
use mathlib.Core.Path.{◌≡◌, refl, ◌∙◌, ap, sym}
use mathlib.Core.List.{List}
use lib.ListN.{length, get_or}
use mir.Syntax.{w32}
use mir.Val.{Fits}
use borrow.Author.Tests.{ne_eqb}
use Rattle.words.specs.Words.{word}
use Rattle.trees.specs.Held.{remaining}
use Rattle.heap.specs.Words.{set_end_mark}
use Rattle.frame_form.specs.declared.Limits.{Limits}
use Rattle.state_form.specs.Form.{StateWellFormed}
use Rattle.wellformed.specs.WellFormed.{limits, WellFormed}
use Rattle.checking.proofs.Memories.{well_formed_checks}
use Rattle.bounded.specs.Bounded.{Bounded, with_mark, Ran, one_more}
use Rattle.word_store.specs.Store.{Memories, word_store}
use Rattle.word_store.specs.State.{store_held, state_held, HeaderFormed}
use Rattle.word_store.proofs.Updates.{held_after, header_after}
use Rattle.commit.specs.Commit.{state_of, Commits}
use Rattle.commit.specs.Words.{heap_of, WordsFit}
use Rattle.commit.proofs.Exact.{words_exact}
use Rattle.step_parts.specs.declared.Shown.{Shown}
use Rattle.step_parts.specs.declared.Outcome.{Outcome}
use Rattle.step_parts.specs.Step.{ready_words, CanStep, step_end_held, line_held, CanShow, Shows, committed, committed_heap, committed_text}
use Rattle.step_parts.specs.Step.{attempt_step, CanAttempt, Attempts, ready_state, machine_run}
use Rattle.step_parts.proofs.Ends.{StepEnds, formed_now, ready_formed}
use Rattle.step_parts.proofs.Line.{Written, too_long, written}
use Rattle.step_parts.proofs.Runs.{ready_is, run_ended, run_no_space, run_made, run_zero}

-- the elements of a lent memory
pub words_fit : {h : List ℕ} → ((k : ℕ) → Fits w32 (get_or h k 0)) → WordsFit h
unfolding word
words_fit f = record { fits = f }

formed_header : {h t : List ℕ} {l : Limits} → StateWellFormed h t l → HeaderFormed h l
formed_header w = record { self_tag = w.self.formed; program_tag = w.program.formed; position_there = w.position_there }

pub attempt_shows : (p l h t : List ℕ) (i : ℕ) (out : List ℕ) (used : ℕ) → CanAttempt p l h t i out used → CanShow p l h t i out used
attempt_shows p l h t i out used can =
    let f = formed_now p l h t i can.step in
    record { program = f.program; there = can.step.there; readable = (well_formed_checks p h l t f).readable; inside = can.inside }

-- after reserve and check
module _ (p l h t : List ℕ) (i e : ℕ) (h₁ : List ℕ) (s : StepEnds p l h t i e h₁) (can : CanStep p l h t i) where
  formed : WellFormed p h₁ l t
  formed = rw s.words (ready_formed p l h t i can)

  ready_now : state_of p h₁ t ≡ ready_state p l h t i
  ready_now = rw s.words (ready_is p l h t i can)

module _ (p l h t : List ℕ) (i : ℕ) (out : List ℕ) (used : ℕ) (can : CanAttempt p l h t i out used) (e : ℕ) (h₁ : List ℕ) (s : StepEnds p l h t i e h₁) where
  abbrev formed_then : WellFormed p h₁ l t
  formed_then = formed p l h t i e h₁ s can.step

  abbrev ran : ℕ → Ran word_store
  ran space = machine_run p l h t i 1 space (state_of p h t)

  abbrev space : ℕ
  space = length out - used

  -- an end: it is marked
  pub attempt_ended : (e ≡ 0 → ⊥) → (h' : List ℕ) → h' ≡ set_end_mark h₁ e → WordsFit h' → Attempts p l h t i out used (Outcome.Ended e) h' t out
  unfolding attempt_step
  attempt_ended ne h' eh fit = record {
    exact = rw (← s.end, ne_eqb e 0 ne, ← s.words, ← eh);
    state =
        rw eh ((held_after (remaining p) h₁ t formed_then.state.heap_size).end_mark e ∙ ap (with_mark e) (ready_now p l h t i e h₁ s can.step))
        ∙ sym (ap (λ (r : Ran word_store). r.state) (run_ended p l h t i can.step e s.end ne 0 space));
    header = rw eh ((header_after h₁ (limits p) formed_then.state.heap_size (formed_header formed_then.state)).end_mark e);
    fit = fit;
  }

  module _ (z : e ≡ 0) where
    ends_none : step_end_held p l h t i ≡ 0
    ends_none = sym s.end ∙ z

    module _ (r : Shown) (out' : List ℕ) (w : Shows p l h₁ t i out used r out') where
      pub attempt_no_space : r ≡ Shown.TooLong → WordsFit h₁ → Attempts p l h t i out used Outcome.NoSpace h₁ t out'
      unfolding attempt_step
      attempt_no_space er fit =
          let q = too_long (line_held p l h₁ t i) out used out' (rw er at w.exact) in
          record {
            exact = rw (ends_none, ← s.words, q.test, q.output);
            state = ready_now p l h t i e h₁ s can.step ∙ sym (ap (λ (r : Ran word_store). r.state) (run_no_space p l h t i can.step ends_none space (rw (← s.words) q.test) 0));
            header = formed_header formed_then.state;
            fit = fit;
          }

      module _ (n : ℕ) (er : r ≡ Shown.Written n) (h' t' : List ℕ) (c : Commits p l h₁ t i h' t') (fit : WordsFit h') where
        shown : Written (line_held p l h₁ t i) out used out' n
        shown = written (line_held p l h₁ t i) out used out' n (rw er at w.exact)

        header : HeaderFormed h' (limits p)
        unfolding limits
        header = c.header.formed (limits p) refl (formed_header formed_then.state)

        heap_is : committed_heap p l h₁ t i ≡ h'
        unfolding committed_heap
        heap_is =
            sym (words_exact (remaining p) h' t' c.size fit (record { self = header.self_tag; program = header.program_tag }) ∙ ap heap_of c.state)

        text_is : committed_text p l h₁ t i ≡ t'
        unfolding committed_text state_held store_held
        text_is = sym (ap (λ (b : Bounded Memories). b.store.text) c.state)

        after : committed p l h₁ t i ≡ (ran space).state
        unfolding one_more
        after = sym (rw (← s.words) at (
            ap (λ (r : Ran word_store). r.state) (run_made p l h t i can.step ends_none space (rw (← s.words) shown.test) 0)
            ∙ run_zero p l h t i can.step (space - length (line_held p l (ready_words p h i) t i)) (committed p l (ready_words p h i) t i)))

        pub attempt_made : Attempts p l h t i out used (Outcome.Made n) h' t' out'
        unfolding attempt_step
        attempt_made = record {
          exact = rw (ends_none, ← s.words, shown.test, shown.size, shown.output, heap_is, text_is);
          state = c.state ∙ after;
          header = header;
          fit = fit;
        }
