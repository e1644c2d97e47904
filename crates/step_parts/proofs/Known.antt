-- What is known of the numbers in use after a step. Assumes nothing.
use Prim.Native.Nat.{ℕ}
use mathlib.Core.Path.{◌≡◌, refl, ◌∙◌, sym}
use mathlib.Core.Bool.{Bool, true, false}
use mathlib.Core.List.{List}
use mathlib.Core.Option.{some}
use native.Mathlib.Omega.{arith}
use Rattle.framed.specs.Values.{Frame}
use Rattle.framed.specs.Tree.{Code, ◌then◌}
use Rattle.framed.specs.Paths.{Path}
use Rattle.framed.proofs.General.{none≢some}
use Rattle.tables.specs.Fields.{frame_limit, text_limit, instruction_after}
use Rattle.trees.specs.Held.{program_held, instruction_held, remaining}
use Rattle.trees.proofs.Held.{one_level_held}
use Rattle.heap.specs.Words.{frame_used, text_used, set_end_mark}
use Rattle.heap.specs.Held.{text_held}
use Rattle.heap.specs.Closed.{Sized, FrameInUse, TextInUse}
use Rattle.heap.proofs.Held.{set_end_frames, set_end_texts}
use Rattle.state_form.proofs.Facts.{well_formed_sized}
use Rattle.wellformed.specs.WellFormed.{WellFormed}
use Rattle.allocation.specs.declared.Known.{Known}
use Rattle.allocation.specs.Allocation.{view_held}
use Rattle.allocation.specs.Known.{Knows}
use Rattle.allocation.proofs.Views.{shows_frame, shows_no_frame, shows_text, shows_no_text, frames_counted, texts_counted}
use Rattle.bounded.specs.Views.{frame_at, text_at, Takes}
use Rattle.bounded.proofs.Theorems.{step_takes}
use Rattle.word_store.specs.Store.{word_store}
use Rattle.word_store.specs.State.{state_held}
use Rattle.word_store.proofs.Updates.{held_read}
use Rattle.producing.proofs.Leaves.{in_use_stay, texts_stay}
use Rattle.running.proofs.Laws.{bounded_form}
use Rattle.commit.specs.Commit.{state_of, Commits}
use Rattle.step_parts.specs.Step.{frames_for, texts_for, CanStep, step_end_held, ready_state}
use Rattle.step_parts.proofs.Ends.{StepEnds, formed_now, ready_formed}
use Rattle.step_parts.proofs.Runs.{ready_is}

-- ---- A mark

module _ (h : List ℕ) (k : Known) (a : Knows h 0 0 k) where
  pub mark_knows : Sized h → (e : ℕ) → Knows (set_end_mark h e) 0 0 k
  mark_knows s e =
      let f = (set_end_frames h s e).in_use in
      let t = (set_end_texts h s e).in_use in
      record {
        frames = rw f a.frames;
        texts = rw t a.texts;
        full = record {
          frames = record { in_use = λ g lt. in_use_stay f g (a.full.frames.in_use g lt) };
          texts = record { in_use = λ n lt. texts_stay t n (a.full.texts.in_use n lt) };
        };
      }

-- what is counted in may be left out
pub knows_now : (h : List ℕ) (f n : ℕ) (k : Known) → Knows h f n k → Knows h 0 0 k
knows_now h f n k a = record { frames = omega (arith, a.frames); texts = omega (arith, a.texts); full = a.full }

-- ---- What the view shows

module _ (h t h' t' : List ℕ) (f n : ℕ) (x : Takes (view_held h t) (view_held h' t') f n) where
  used_still : (g : ℕ) → FrameInUse h g → FrameInUse h' g
  used_still g u = record { small = u.small; used = go (frame_used h' g) refl (x.stays g _ (shows_frame h t g u.small u.used)) }
    where
      go : (b : Bool) → frame_used h' g ≡ b → (y : Frame) × (frame_at (view_held h' t') g ≡ some y) → frame_used h' g ≡ true
      go true e y = e
      go false e y = absurd (none≢some (sym (shows_no_frame h' t' g e) ∙ y.1))

  text_used_still : (k : ℕ) → TextInUse h k → TextInUse h' k
  text_used_still k u = record { small = u.small; used = go (text_used h' k) refl (x.stays_text k _ (shows_text h t k u.small u.used)) }
    where
      go : (b : Bool) → text_used h' k ≡ b → text_at (view_held h' t') k ≡ some (text_held h t k) → text_used h' k ≡ true
      go true e y = e
      go false e y = absurd (none≢some (sym (shows_no_text h' t' k e) ∙ y))

  taken_knows : (k : Known) → Knows h f n k → Knows h' 0 0 k
  taken_knows k a = record {
    frames = omega (arith, frames_counted h t, frames_counted h' t', x.frames, a.frames);
    texts = omega (arith, texts_counted h t, texts_counted h' t', x.texts, a.texts);
    full = record {
      frames = record { in_use = λ g lt. used_still g (a.full.frames.in_use g lt) };
      texts = record { in_use = λ m lt. text_used_still m (a.full.texts.in_use m lt) };
    };
  }

-- ---- A step that is made

module _ (p l h t : List ℕ) (i : ℕ) (can : CanStep p l h t i) (e : ℕ) (h₁ : List ℕ) (ends : StepEnds p l h t i e h₁) (k : Known) where
  formed : WellFormed p h₁ l t
  formed = rw ends.words (ready_formed p l h t i can)

  pub ended_knows : Knows h₁ 0 0 k → (h' : List ℕ) → h' ≡ set_end_mark h₁ e → Knows h' 0 0 k
  ended_knows a h' eh = rw eh (mark_knows h₁ k a (well_formed_sized formed.state) e)

  abbrev rest : Code Path
  rest = remaining p (instruction_after p i)

  at_next : (state_of p h t).remaining ≡ (instruction_held p i then rest)
  unfolding state_held
  at_next = rw can.next ((one_level_held p l (formed_now p l h t i can).program).next i can.there)

  view_is : (h t : List ℕ) → word_store.view (state_of p h t).store ≡ view_held h t
  view_is h t = (held_read (remaining p) h t).view

  module _ (z : e ≡ 0) (h' t' : List ℕ) (c : Commits p l h₁ t i h' t') where
    ready_now : state_of p h₁ t ≡ ready_state p l h t i
    ready_now = rw ends.words (ready_is p l h t i can)

    takes : Takes (view_held h₁ t) (view_held h' t') (frames_for p i) (texts_for p i)
    unfolding step_end_held
    takes =
        let B = bounded_form p l (formed_now p l h t i can).program in
        let x = step_takes word_store (program_held p l) B.laws (frame_limit p) (text_limit p) B.admitted (state_of p h t) (B.forth h t (formed_now p l h t i can))
        (instruction_held p i) rest at_next (sym ends.end ∙ z) in
        rw (← view_is h₁ t, ← view_is h' t', c.state, ready_now) x

    pub made_knows : Knows h₁ (frames_for p i) (texts_for p i) k → Knows h' 0 0 k
    made_knows = taken_knows h₁ t h' t' (frames_for p i) (texts_for p i) takes k
