-- Well-formed memories are a well-formed state of the bounded machine; memories that follow its run go alongside the unbounded machine. Assumes nothing.
use mathlib.Core.Path.{◌∙◌, ap, sym, subst}
use mathlib.Core.List.{List}
use Prim.Native.Nat.{ℕ}
use Rattle.framed.specs.Answers.{Stopped}
use Rattle.framed.specs.Calls.{Unbounded}
use Rattle.framed.specs.Alike.{Alike}
use Rattle.tables.specs.Fields.{frame_limit, text_limit}
use Rattle.program_form.specs.WellFormed as program
use Rattle.trees.specs.Held.{program_held, remaining}
use Rattle.heap.specs.Words.{self_held, program_held as program_value, position, end_mark}
use Rattle.wellformed.specs.WellFormed.{WellFormed, limits}
use Rattle.wellformed.specs.Held as memories
use Rattle.allocation.specs.Allocation.{view_held}
use Rattle.bounded.specs.Views.{entries}
use Rattle.bounded.specs.Bounded as bounded
use Rattle.bounded.specs.Relation as relation
use Rattle.bounded.proofs.Theorems.{simulation, bounded_calls}
use Rattle.word_store.specs.Store.{word_store}
use Rattle.word_store.specs.State.{state_held}
use Rattle.word_store.proofs.Laws.{word_laws}
use Rattle.word_store.proofs.State.{state_agrees}
use Rattle.word_store.proofs.Updates.{held_read}
use Rattle.program_fits.proofs.Laws.{well_formed_fits}
use Rattle.running.specs.Running.{bounded_held, bounded_run, BoundedForm, SameState, Follows, Alongside, FollowsLeaves, FollowsAlongside}

module _ (p l : List ℕ) (w : program.WellFormed p l) where
  pub bounded_form : BoundedForm p l
  unfolding limits entries
  bounded_form =
      let f = well_formed_fits p l w in
      let a = state_agrees (limits p) (program_held p l) f.limits (remaining p) f.remaining in
      record {
        laws = word_laws (limits p) (program_held p l) f.limits;
        sized = λ s x. x.heap_size;
        admitted = record { fits = f.program; F_within = w.entries.limits.F_most; T_within = w.entries.limits.T_most };
        forth = λ h t x. a.forth h t x.state;
        header = λ h t x. a.header h t x.state;
        back = λ h t b e. record { program = w; state = a.back h t b e };
      }

pub same_state : SameState
unfolding state_held memories.state_held view_held
same_state p h t = λ i.
    record {
      remaining = remaining p (position h);
      next = position h;
      self = self_held h;
      program = program_value h;
      heap = ((held_read (remaining p) h t).view i).heap;
      end_mark = end_mark h;
    }

module _ (p h l t : List ℕ) (fuel space : ℕ) (why : Stopped) (steps : ℕ) (bytes h' t' : List ℕ)
    (w : WellFormed p h l t) (f : Follows p h l t fuel space why steps bytes h' t') where
  B : BoundedForm p l
  B = bounded_form p l w.program

  leaves : WellFormed p h' l t'
  unfolding bounded_run
  leaves =
      B.back h' t'
      (subst (relation.WellFormed word_store (program_held p l) B.laws (frame_limit p) (text_limit p)) (sym f.state)
      ((bounded_calls word_store (program_held p l) B.laws (frame_limit p) (text_limit p) B.admitted).run_leaves fuel space (bounded_held p h t) (B.forth h t w)))
      f.header

  alongside : (u : Unbounded) → Alike u.state (memories.state_held p h t) → Alongside p l fuel space u why steps bytes h' t'
  unfolding bounded_run
  alongside u a =
      let S = simulation word_store (program_held p l) B.laws (frame_limit p) (text_limit p) B.admitted in
      let b = bounded_held p h t in
      let r = S.runs fuel space b u (S.related b u.state (B.forth h t w) (subst (Alike u.state) (sym (same_state p h t)) a)) in
      record {
        stop = f.stop ∙ r.stop;
        steps_made = f.steps_made ∙ r.steps;
        shown = f.shown ∙ r.bytes;
        states = subst (Alike _) (ap (bounded.state_of word_store) (sym f.state) ∙ same_state p h' t') (S.alike _ _ r.related);
      }

pub follows_leaves : FollowsLeaves
follows_leaves = leaves

pub follows_alongside : FollowsAlongside
follows_alongside = alongside
