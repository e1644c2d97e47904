-- The ways of a step over well-formed memories. Assumes nothing.
use Prim.Native.Nat.{ℕ, zero, suc, ◌-◌, ◌≤◌}
use mathlib.Core.Path.{◌≡◌, refl, ◌∙◌, ap, sym, subst}
use mathlib.Core.Bool.{Bool, true, false}
use mathlib.Core.Logic.{inl, inr}
use mathlib.Core.List.{List}
use native.Mathlib.Omega.{arith}
use lib.Dec.{leb}
use lib.ListN.{length}
use borrow.Author.Tests.{leb-true, le-leb, ne_eqb}
use Rattle.framed.specs.declared.Value.{Value}
use Rattle.framed.specs.Program.{Program}
use Rattle.framed.specs.Answers.{Stopped}
use Rattle.tables.specs.Fields.{frame_limit, text_limit, instruction_after}
use Rattle.trees.specs.Held.{program_held, remaining, instruction_held}
use Rattle.heap.specs.Words.{end_mark, set_end_mark}
use Rattle.heap.specs.Closed.{ValueFits}
use Rattle.state_form.proofs.Facts.{well_formed_closed}
use Rattle.wellformed.specs.WellFormed.{limits, WellFormed, Formed}
use Rattle.bounded.specs.Bounded.{Bounded, with_mark, stopped, one_more}
use Rattle.bounded.specs.Bounded as bounded
use Rattle.bounded.specs.Relation as relation
use Rattle.bounded.specs.Relation.{EndMark}
use Rattle.bounded.specs.Fits.{Valid}
use Rattle.bounded.proofs.Theorems.{bounded_calls}
use Rattle.word_store.specs.Store.{Memories, word_store}
use Rattle.word_store.specs.State.{store_held, state_held, HeaderFormed}
use Rattle.word_store.proofs.Updates.{held_after, header_after}
use Rattle.word_store.proofs.Values.{valid_named}
use Rattle.reserving.proofs.Meaning.{reserved_closed, reserved_header}
use Rattle.commit.proofs.Headers.{kept_stays}
use Rattle.program_fits.proofs.Laws.{well_formed_fits}
use Rattle.running.specs.Running.{bounded_held, bounded_run, BoundedForm}
use Rattle.running.specs.Cleared.{Cleared}
use Rattle.running.proofs.Laws.{bounded_form}
use Rattle.running.proofs.Cleared.{cleared_through}
use Rattle.step_parts.specs.Step.{frames_for, texts_for, CanStep, ready_words, step_end_held, line_held, committed, committed_heap, committed_text, attempt_step, ready_state, machine_run}
use Rattle.step_parts.proofs.Runs.{ready_is, run_ended, run_no_space, run_made, run_zero}
use Rattle.step_held.specs.StepHeld.{EndHeld, SpaceHeld, MadeHeld, AttemptHeld, ends, lacks_space, makes, StepHeld}
use Rattle.step_held.proofs.Position.{next_remains}
use Rattle.step_held.proofs.Words.{words_hold, words_header}

module _ (p l h t : List ℕ) (i : ℕ) (can : CanStep p l h t i) where
  w : WellFormed p h l t
  unfolding Formed
  w = can.memories

  B : BoundedForm p l
  B = bounded_form p l w.program

  abbrev q : Program
  q = program_held p l

  abbrev F : ℕ
  F = frame_limit p

  abbrev T : ℕ
  T = text_limit p

  -- the state at entry; the words and the state after reserve
  abbrev now : Bounded Memories
  now = bounded_held p h t

  abbrev h₁ : List ℕ
  h₁ = ready_words p h i

  abbrev then_ready : Bounded Memories
  then_ready = bounded_held p h₁ t

  is_ready : then_ready ≡ ready_state p l h t i
  is_ready = ready_is p l h t i can

  size₁ : length h₁ ≡ 16384
  unfolding ready_words
  size₁ = (reserved_closed (remaining p) p h t (frames_for p i) (texts_for p i) (well_formed_closed w.state)).sized.size

  header₁ : HeaderFormed h₁ (limits p)
  unfolding ready_words limits
  header₁ =
      (kept_stays p (record { agree = λ k lt. (reserved_header (remaining p) p h t (frames_for p i) (texts_for p i)).agree k (omega arith) lt })
      ).formed (limits p) refl (B.header h t w)

  next₁ : then_ready.next ≡ suc i
  unfolding state_held bounded.ready
  next₁ = ap (λ (b : Bounded Memories). b.next) is_ready ∙ can.next

  agrees : remaining p then_ready.next ≡ then_ready.remaining
  unfolding state_held
  agrees = refl

  leaves : (fuel space : ℕ) → relation.WellFormed word_store q B.laws F T (machine_run p l h t i fuel space now).state
  leaves fuel space = (bounded_calls word_store q B.laws F T B.admitted).run_leaves fuel space now (B.forth h t w)

  -- ---- The step gives an end

  module _ (e : ℕ) (gives : step_end_held p l h t i ≡ suc e) where
    ended : (fuel space : ℕ) → machine_run p l h t i (suc fuel) space now ≡ stopped word_store (Stopped.end (suc e)) (with_mark (suc e) (ready_state p l h t i))
    ended = run_ended p l h t i can (suc e) (sym gives) (λ z. absurd (omega arith))

    end_state : bounded_held p (set_end_mark h₁ (suc e)) t ≡ with_mark (suc e) (ready_state p l h t i)
    end_state = (held_after (remaining p) h₁ t size₁).end_mark (suc e) ∙ ap (with_mark (suc e)) is_ready

    end_number : (31 ≤ suc e) × (suc e ≤ 37)
    unfolding with_mark
    end_number =
        let r : (machine_run p l h t i 1 0 now).state.end_mark ≡ suc e = ap (λ (x : bounded.Ran word_store). x.state.end_mark) (ended 0 0) in
        go (rw r at (leaves 1 0).mark)
      where
        go : EndMark (suc e) → (31 ≤ suc e) × (suc e ≤ 37)
        go (inl z) = absurd (omega arith)
        go (inr m) = m

    end_held : (out : List ℕ) (used : ℕ) → EndHeld p l h t i out used (suc e) (set_end_mark h₁ (suc e))
    unfolding attempt_step bounded_run
    end_held out used = record {
      is = rw (gives, ne_eqb (suc e) 0 (omega arith));
      runs = λ fuel space. ended fuel space ∙ ap (stopped word_store (Stopped.end (suc e))) (sym end_state);
      number = end_number;
      header = (header_after h₁ (limits p) size₁ header₁).end_mark (suc e);
    }

  -- ---- The step goes on

  abbrev L : List ℕ
  L = line_held p l h₁ t i

  module _ (goes : step_end_held p l h t i ≡ 0) where
    space_held : (out : List ℕ) (used : ℕ) → leb (length L) (length out - used) ≡ false → SpaceHeld p l h t i out used h₁
    unfolding attempt_step bounded_run
    space_held out used long = record {
      is = rw (goes, long);
      runs = λ fuel. run_no_space p l h t i can goes (length out - used) long fuel ∙ ap (stopped word_store Stopped.output) (sym is_ready);
      header = header₁;
    }

    abbrev made : Bounded Memories
    made = committed p l h₁ t i

    made_formed : relation.WellFormed word_store q B.laws F T made
    unfolding one_more
    made_formed =
        let s : leb (length L) (length L) ≡ true = le-leb (length L) (length L) (omega arith) in
        subst (relation.WellFormed word_store q B.laws F T)
        (ap (λ (r : bounded.Ran word_store). r.state) (run_made p l h t i can goes (length L) s 0) ∙ run_zero p l h t i can (length L - length L) made)
        (leaves 1 (length L))

    fit : (v : Value) → Valid q (word_store.view made.store) v → ValueFits v
    fit v x = (valid_named made.store.heap made.store.text (limits p) q (well_formed_fits p l w.program).limits x).fits

    made_size : length made.store.heap ≡ 16384
    made_size = B.sized made.store made_formed.store

    made_clear : Cleared made.store
    unfolding state_held store_held
    made_clear = cleared_through.committed q then_ready (remaining p (instruction_after p i)) (instruction_held p i) (cleared_through.held h₁ t size₁)

    made_state : bounded_held p (committed_heap p l h₁ t i) (committed_text p l h₁ t i) ≡ made
    unfolding committed_heap committed_text
    made_state =
        words_hold (remaining p) made made_size made_clear (fit made.self made_formed.self) (fit made.program made_formed.program)
        (next_remains p l w.program then_ready agrees i can.there next₁ (instruction_held p i))

    made_header : HeaderFormed (committed_heap p l h₁ t i) (limits p)
    unfolding committed_heap
    made_header = words_header (remaining p) made made_size made_clear (limits p) (rw (well_formed_fits p l w.program).limits.instructions made_formed.next)

    made_held : (out : List ℕ) (used : ℕ) → leb (length L) (length out - used) ≡ true → MadeHeld p l h t i out used L (committed_heap p l h₁ t i) (committed_text p l h₁ t i)
    unfolding attempt_step bounded_run
    made_held out used short = record {
      is = rw (goes, short);
      fits = leb-true (length L) (length out - used) short;
      runs = λ fuel.
          run_made p l h t i can goes (length out - used) short fuel
          ∙ ap (λ (b : Bounded Memories). one_more word_store L (machine_run p l h t i fuel (length out - used - length L) b)) (sym made_state);
      well_formed = B.back _ _ (subst (relation.WellFormed word_store q B.laws F T) (sym made_state) made_formed) made_header;
    }

  attempt_held : (out : List ℕ) (used : ℕ) → AttemptHeld p l h t i out used
  attempt_held out used = go (step_end_held p l h t i) refl (leb (length L) (length out - used)) refl
    where
      go : (e : ℕ) → step_end_held p l h t i ≡ e → (b : Bool) → leb (length L) (length out - used) ≡ b → AttemptHeld p l h t i out used
      go (suc e) gives b fits = ends (suc e) (set_end_mark h₁ (suc e)) (end_held e gives out used)
      go zero goes true short = makes L (committed_heap p l h₁ t i) (committed_text p l h₁ t i) (made_held goes out used short)
      go zero goes false long = lacks_space h₁ (space_held goes out used long)

pub step_held : StepHeld
step_held p l h t i out used can = attempt_held p l h t i can out used
