-- The state that well-formed memories hold is well-formed, and back; so run and collect leave well-formed memories. Assumes nothing.
use Prim.Native.Nat.{ℕ, ◌≤◌}
use mathlib.Core.Path.{◌≡◌, sym, subst}
use mathlib.Core.List.{List}
use native.Mathlib.Omega.{arith}
use Rattle.words.specs.Words.{word}
use Rattle.framed.specs.Tree.{Code}
use Rattle.framed.specs.Paths.{Path}
use Rattle.framed.specs.Program.{Program}
use Rattle.heap.specs.Words.{self_held, program_held, position}
use Rattle.bounded.specs.Fits.{CodeFits}
use Rattle.bounded.specs.Bounded.{Bounded}
use Rattle.bounded.specs.Relation.{WellFormed}
use Rattle.bounded.specs.Theorems.{Admitted}
use Rattle.bounded.proofs.Theorems.{bounded_calls}
use Rattle.allocation.specs.Allocation.{view_held}
use Rattle.allocation.proofs.Views.{frames_counted, texts_counted}
use Rattle.frame_form.specs.declared.Limits.{Limits}
use Rattle.state_form.specs.Form.{StateWellFormed}
use Rattle.word_store.specs.Store.{Memories, clear_header, word_store}
use Rattle.word_store.specs.Form.{LimitsOf}
use Rattle.word_store.specs.State.{store_held, state_held, HeaderFormed, StateFormed, StateAgrees, CallsLeave}
use Rattle.word_store.proofs.Header.{low_view, clear_local}
use Rattle.word_store.proofs.Form.{state_store, state_whole, clear_store, unclear_store}
use Rattle.word_store.proofs.Values.{formed_valid, valid_formed}
use Rattle.word_store.proofs.Laws.{word_laws}

module _ (l : Limits) (q : Program) (limits : LimitsOf l q) (remaining_from : ℕ → Code Path) (fits : (i : ℕ) → i ≤ l.instructions → CodeFits q (remaining_from i)) where
  module _ (h t : List ℕ) where
    clear_view : view_held (clear_header h) t ≡ view_held h t
    clear_view = low_view (clear_local h) (omega arith) t

    forth : StateWellFormed h t l → StateFormed q l (word_laws l q limits) remaining_from h t
    unfolding state_held store_held self_held program_held
    forth w = record {
      store = clear_store (state_store w);
      self = rw clear_view (formed_valid h t l q limits (word h 0) (word h 1) w.self);
      program = rw clear_view (formed_valid h t l q limits (word h 2) (word h 3) w.program);
      remaining = fits (position h) w.position_there;
      next = rw (← limits.instructions) w.position_there;
      mark = w.end;
      frames_few = rw (clear_view, ← frames_counted h t) w.frames_few;
      texts_few = rw (clear_view, ← texts_counted h t) w.texts_few;
    }

    back : StateFormed q l (word_laws l q limits) remaining_from h t → HeaderFormed h l → StateWellFormed h t l
    unfolding state_held store_held self_held program_held
    back b e = state_whole (unclear_store b.store) (record {
      self = valid_formed h t l q limits (word h 0) (word h 1) e.self_tag (rw clear_view at b.self);
      program = valid_formed h t l q limits (word h 2) (word h 3) e.program_tag (rw clear_view at b.program);
      frames_few = rw (clear_view, ← frames_counted h t) at b.frames_few;
      texts_few = rw (clear_view, ← texts_counted h t) at b.texts_few;
      position_there = e.position_there;
      end = b.mark;
    })

  pub state_agrees : StateAgrees q l (word_laws l q limits) remaining_from
  state_agrees = record {
    forth = forth;
    header = λ h t w. record { self_tag = w.self.formed; program_tag = w.program.formed; position_there = w.position_there };
    back = back;
  }

  pub calls_leave : Admitted word_store q (word_laws l q limits) l.frames l.texts → CallsLeave q l (word_laws l q limits) remaining_from
  calls_leave admitted =
      let calls = bounded_calls word_store q (word_laws l q limits) l.frames l.texts admitted in
      record {
        run_leaves = λ h t h' t' fuel space w e r. back h' t' (leaves _ (state_held remaining_from h' t') e (calls.run_leaves fuel space (state_held remaining_from h t) (forth h t w))) r;
        collect_leaves = λ h t h' t' w e r. back h' t' (leaves _ (state_held remaining_from h' t') e (calls.collect_leaves (state_held remaining_from h t) (forth h t w))) r;
      }
    where
      leaves : (a b : Bounded Memories) → b ≡ a → WellFormed word_store q (word_laws l q limits) l.frames l.texts a → WellFormed word_store q (word_laws l q limits) l.frames l.texts b
      leaves a b e w = subst (λ (x : Bounded Memories). WellFormed word_store q (word_laws l q limits) l.frames l.texts x) (sym e) w
