-- Lists of calls over lent memories follow the bounded machine's; 36 exactly. For any other calls. Assumes nothing.
use Prim.Native.Nat.{ℕ, ◌+◌, ◌<◌}
use mathlib.Core.Path.{◌≡◌, refl, ◌∙◌, ap, ap₂, sym, subst}
use mathlib.Core.Logic.{◌↔◌}
use mathlib.Core.List.{List, [], ◌∷◌}
use lib.ListN.{length}
use Rattle.framed.specs.Tree.{Instruction, Code}
use Rattle.framed.specs.Paths.{Path}
use Rattle.framed.specs.Program.{Program}
use Rattle.framed.specs.Machine.{State, right_side, frame_literals, start}
use Rattle.framed.specs.Answers.{Stopped, Report}
use Rattle.framed.specs.Calls.{Call, run_call, collect_call, frame_total, at_start}
use Rattle.framed.specs.Calls as C
use Rattle.framed.specs.Alike.{Alike}
use Rattle.framed.specs.Demands.{Memories, LentMachine, LentCall, lent_run, lent_collect, fed, lent_reports, memories_after, StopsAfter, stops, steps_in, bytes_in, reported, left, ComesTo, AlikeAfter}
use Rattle.tables.specs.Fields.{frame_limit, text_limit}
use Rattle.trees.specs.Held.{program_held}
use Rattle.heap.specs.Words.{end_mark}
use Rattle.wellformed.specs.Held.{state_held}
use Rattle.bounded.specs.Bounded.{Bounded, Session, calls, collected, state_of, first_report}
use Rattle.bounded.specs.Bounded as bounded
use Rattle.bounded.specs.Theorems as theorems
use Rattle.bounded.proofs.Theorems.{bounded_calls, alike_after_calls}
use Rattle.bounded.proofs.Makers.{makers_alike}
use Rattle.word_store.specs.Store as store
use Rattle.word_store.specs.Store.{word_store}
use Rattle.running.specs.Running.{bounded_held, bounded_run, BoundedForm}
use Rattle.running.proofs.Laws.{bounded_form, same_state}
use Rattle.lent_machine.specs.Machine.{Formed, run_lent, collect_lent, OtherCalls, machine_with, Started}
use Rattle.lent_machine.proofs.Runs.{bounded_of, run_reports, run_state, run_formed}
use Rattle.lent_machine.proofs.Collects.{collect_reports, collect_state, collect_formed}

abbrev pub bounded_in : Memories → Bounded store.Memories
bounded_in m = bounded_held m.program m.heap m.text

abbrev pub calls_from : Memories → List Call → Bounded store.Memories → Session word_store
calls_from m cs b = calls word_store (program_held m.program m.literal) (frame_limit m.program) (text_limit m.program) cs b

pub record FollowsCalls (m : Memories) (cs : List Call) (rs : List Report) (m' : Memories) : Type 0 where
  pub reports : rs ≡ (calls_from m cs (bounded_in m)).reports
  pub state : bounded_in m' ≡ (calls_from m cs (bounded_in m)).state
  pub well_formed : Formed m'
  pub program_same : m'.program ≡ m.program
  pub literal_same : m'.literal ≡ m.literal

-- ---- What the bounded machine's theorems say of well-formed memories

module _ (m : Memories) (w : Formed m) where
  pub B : BoundedForm m.program m.literal
  B = bounded_form m.program m.literal w.program

  abbrev pub q : Program
  q = program_held m.program m.literal

  pub of_bounded : theorems.BoundedCalls word_store q B.laws (frame_limit m.program) (text_limit m.program)
  of_bounded = bounded_calls word_store q B.laws (frame_limit m.program) (text_limit m.program) B.admitted

-- ---- A report that stops so

abbrev StopsSo : Stopped → ℕ → Report → Type 0
StopsSo why steps (Report.ran s n c b) = (s ≡ why) × (n ≡ steps)
StopsSo why steps (Report.collected f t) = Unit
StopsSo why steps (Report.refused n) = Unit

so : {why : Stopped} {steps : ℕ} {r : Report} → StopsAfter why steps r → StopsSo why steps r
so stops = (refl, refl)

module _ {why s : Stopped} {steps n c : ℕ} {b : List ℕ} {r : Report} (e : r ≡ Report.ran s n c b) where
  pub stops_means : StopsAfter why steps r → (s ≡ why) × (n ≡ steps)
  stops_means x = subst (StopsSo why steps) e (so x)

  pub means_stops : s ≡ why → n ≡ steps → StopsAfter why steps r
  means_stops es en = rw (e, es, en) stops

module _ (others : OtherCalls) where
  abbrev pub M : LentMachine
  M = machine_with others

  -- after the first call, from memories with the same program
  module _ (m m₁ : Memories) (c : Call) (cs : List Call) (r : Report) (b : Bounded store.Memories) (rs : List Report) (m' : Memories)
      (one : calls_from m (c ∷ cs) (bounded_in m) ≡ first_report word_store r (calls_from m cs b))
      (ep : m₁.program ≡ m.program) (el : m₁.literal ≡ m.literal) (eb : bounded_in m₁ ≡ b) where
    next : (s : Report) → s ≡ r → FollowsCalls m₁ cs rs m' → FollowsCalls m (c ∷ cs) (s ∷ rs) m'
    unfolding first_report
    next s es f =
        let same : calls_from m₁ cs (bounded_in m₁) ≡ calls_from m cs b =
        λ i. calls word_store (program_held (ep i) (el i)) (frame_limit (ep i)) (text_limit (ep i)) cs (eb i) in
        record {
          reports = ap₂ (λ (x : Report) (xs : List Report). x ∷ xs) es (f.reports ∙ ap (λ (x : Session word_store). x.reports) same) ∙ ap (λ (x : Session word_store). x.reports) (sym one);
          state = f.state ∙ ap (λ (x : Session word_store). x.state) same ∙ ap (λ (x : Session word_store). x.state) (sym one);
          well_formed = f.well_formed;
          program_same = f.program_same ∙ ep;
          literal_same = f.literal_same ∙ el;
        }

  pub follows_calls : (cs : List LentCall) (m : Memories) → Formed m → FollowsCalls m (fed cs) (lent_reports M m cs) (memories_after M m cs)
  unfolding calls run_lent collect_lent fed lent_reports memories_after bounded_run bounded.run
  follows_calls [] m w = record { reports = refl; state = refl; well_formed = w; program_same = refl; literal_same = refl }
  follows_calls (lent_run fuel out ∷ cs) m w =
      next m (run_lent m fuel out).memories (run_call fuel (length out)) (fed cs) _ (bounded_of m fuel out w).state _ _ refl refl refl (run_state m fuel out w)
      _ (run_reports m fuel out w) (follows_calls cs (run_lent m fuel out).memories (run_formed m fuel out w))
  follows_calls (lent_collect ∷ cs) m w =
      next m (collect_lent m).memories collect_call (fed cs) _ (collected word_store (bounded_in m)) _ _ refl refl refl (collect_state m w)
      _ (collect_reports m w) (follows_calls cs (collect_lent m).memories (collect_formed m w))

  -- ---- 36

  -- the state that a run leaves
  module _ (m : Memories) (k : ℕ) (out : List ℕ) (w : Formed m) where
    pub left_is : left M m k out ≡ state_of word_store (bounded_of m k out w).state
    unfolding run_lent
    left_is = sym (ap (state_of word_store) (sym (run_state m k out w)) ∙ same_state (run_lent m k out).memories.program (run_lent m k out).memories.heap (run_lent m k out).memories.text)

  module _ (m : Memories) (w : Formed m) where
    pub frames_full : (fuel k : ℕ) (out : List ℕ) (i : Instruction Path) (rest : Code Path) → ComesTo M m fuel k out i rest →
        StopsAfter (Stopped.end 36) k (reported M m fuel out) ↔ (frame_limit m.program < frame_total (left M m k out) + frame_literals (right_side i))
    unfolding bounded_run
    frames_full fuel k out i rest c =
        let total = ap frame_total (left_is m k out w) in
        let x = (of_bounded m w).frames_full fuel k (length out) (bounded_in m) i rest ((B m w).forth m.heap m.text w) c.fuel_left
        (stops_means (run_reports m k out w) c.steps).0 (sym (ap (λ (z : State). z.remaining) (left_is m k out w)) ∙ c.next) in
        (λ y. rw total (x.0 (stops_means (run_reports m fuel out w) y)), λ y. let z = x.1 (rw total at y) in means_stops (run_reports m fuel out w) z.0 z.1)

  -- ---- Demand 3, from memories as a load leaves them

  module _ (m : Memories) (w : Formed m) (unmarked : end_mark m.heap ≡ 0) (a : Alike (start (q m w)) (state_held m.program m.heap m.text)) (cs : List LentCall) where
    f : FollowsCalls m (fed cs) (lent_reports M m cs) (memories_after M m cs)
    f = follows_calls cs m w

    A : theorems.AlikeAfter word_store (q m w) (B m w).laws (frame_limit m.program) (text_limit m.program) (calls_from m (fed cs) (bounded_in m))
        (C.calls (q m w) (frame_limit m.program) (text_limit m.program) (fed cs) (at_start (q m w)))
    unfolding state_held
    A =
        (alike_after_calls word_store (q m w) (B m w).laws (frame_limit m.program) (text_limit m.program) (B m w).admitted).alike
        (bounded_in m) ((B m w).forth m.heap m.text w) (ap (λ (z : State). z.end_mark) (same_state m.program m.heap m.text) ∙ unmarked)
        (subst (Alike (start (q m w))) (sym (same_state m.program m.heap m.text)) a) (fed cs)

    abbrev m' : Memories
    m' = memories_after M m cs

    state_is : state_of word_store (calls_from m (fed cs) (bounded_in m)).state ≡ state_held m'.program m'.heap m'.text
    state_is = ap (state_of word_store) (sym f.state) ∙ same_state m'.program m'.heap m'.text

    states_alike : Alike (C.calls (q m w) (frame_limit m.program) (text_limit m.program) (fed cs) (at_start (q m w))).machine.state (state_held m'.program m'.heap m'.text)
    states_alike = subst (Alike _) state_is A.states

    pub after_calls : AlikeAfter M (q m w) (frame_limit m.program) (text_limit m.program) (lent_reports M m cs) m'
        (C.calls (q m w) (frame_limit m.program) (text_limit m.program) (fed cs) (at_start (q m w)))
    after_calls = record {
      reports = f.reports ∙ A.reports;
      steps = ap steps_in f.reports ∙ A.steps;
      bytes = ap bytes_in f.reports ∙ A.bytes;
      states = states_alike;
      makers = makers_alike _ _ states_alike;
      ends_stand = λ e lo hi.
          let x = A.ends_stand e lo hi in
          let y = ap (λ (z : State). z.end_mark) state_is in
          (λ z. x.0 (y ∙ z), λ z. sym y ∙ x.1 z);
      frames_full = λ fuel k out i rest c.
          subst (λ (F : ℕ). StopsAfter (Stopped.end 36) k (reported M m' fuel out) ↔ (F < frame_total (left M m' k out) + frame_literals (right_side i)))
          (ap frame_limit f.program_same) (frames_full m' f.well_formed fuel k out i rest c);
    }

  -- with the program and the limits that were loaded
  pub started_calls : (p : Program) (F T : ℕ) (m : Memories) → Started p F T m → (cs : List LentCall) →
      AlikeAfter M p F T (lent_reports M m cs) (memories_after M m cs) (C.calls p F T (fed cs) (at_start p))
  started_calls p F T m s cs =
      subst (λ (x : Program). AlikeAfter M x F T (lent_reports M m cs) (memories_after M m cs) (C.calls x F T (fed cs) (at_start x))) s.program_is
      (subst (λ (x : ℕ). AlikeAfter M (q m s.well_formed) x T (lent_reports M m cs) (memories_after M m cs) (C.calls (q m s.well_formed) x T (fed cs) (at_start (q m s.well_formed)))) s.F_is
      (subst (λ (x : ℕ). AlikeAfter M (q m s.well_formed) (frame_limit m.program) x (lent_reports M m cs) (memories_after M m cs)
      (C.calls (q m s.well_formed) (frame_limit m.program) x (fed cs) (at_start (q m s.well_formed)))) s.T_is
      (after_calls m s.well_formed s.unmarked
      (subst (λ (x : Program). Alike (start x) (state_held m.program m.heap m.text)) (sym s.program_is) s.alike) cs)))
