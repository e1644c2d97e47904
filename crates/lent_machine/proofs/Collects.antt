-- Collect over lent memories: its meaning from its definition, and in the terms of the bounded machine. Assumes nothing.
use Prim.Native.Nat.{ℕ}
use mathlib.Core.Path.{◌≡◌, refl, ◌∙◌, ap, ap₂, sym, subst}
use mathlib.Core.Bool.{Bool, true, false}
use mathlib.Core.List.{List, [], ◌∷◌}
use Rattle.words.specs.Words.{pick}
use Rattle.framed.specs.declared.CollectAnswer.{CollectAnswer}
use Rattle.framed.specs.Answers.{Report, collect_report}
use Rattle.framed.specs.Machine.{State}
use Rattle.framed.specs.Calls.{Unbounded, collect_call as collect-fed, calls, first_report, frame_total, text_total}
use Rattle.framed.specs.Alike.{Alike}
use Rattle.framed.specs.Demands.{Memories}
use Rattle.tables.specs.Fields.{frame_limit, text_limit}
use Rattle.trees.specs.Held.{program_held, remaining}
use Rattle.state_form.proofs.Facts.{well_formed_closed}
use Rattle.wellformed.specs.WellFormed.{well_formed}
use Rattle.wellformed.specs.Held.{state_held}
use Rattle.wellformed.proofs.Decides.{well_formed_decides}
use Rattle.collector.specs.Collect.{collect_heap}
use Rattle.collector.proofs.Means.{collect_meant}
use Rattle.collect.specs.Collect.{collecting, collect_call, CollectMeans}
use Rattle.collect.proofs.Laws.{refused_means, collected_means}
use Rattle.bounded.specs.Bounded.{collected, state_of}
use Rattle.bounded.specs.Bounded as bounded
use Rattle.bounded.proofs.Theorems.{bounded_calls, simulation}
use Rattle.word_store.specs.Store.{word_store}
use Rattle.word_store.proofs.Updates.{held_after}
use Rattle.running.specs.Running.{bounded_held}
use Rattle.running.proofs.Laws.{bounded_form, same_state}
use Rattle.lent_machine.specs.Machine.{Formed, collect_lent}

-- by the test of the memories
abbrev MeansBy : List ℕ → List ℕ → List ℕ → List ℕ → Bool → Type 0
MeansBy p h l t b =
    let x = pick b (collecting (CollectAnswer.Collected (collect_heap h).totals) (collect_heap h).words) (collecting CollectAnswer.NotWellFormed h) in
    CollectMeans p h l t x.answer x.heap

collect_call_means : (p h l t : List ℕ) → CollectMeans p h l t (collect_call p h l t).answer (collect_call p h l t).heap
unfolding collect_call
collect_call_means p h l t = go (well_formed p h l t) refl
  where
    go : (b : Bool) → well_formed p h l t ≡ b → MeansBy p h l t (well_formed p h l t)
    go true e =
        let w = (well_formed_decides p h l t).0 e in
        subst (MeansBy p h l t) (sym e) (collected_means p h l t true (sym e) (collect_heap h).totals (collect_heap h).words refl refl (collect_meant h (well_formed_closed w.state)))
    go false e = subst (MeansBy p h l t) (sym e) (refused_means p h l t false (sym e) refl)

-- the first report of a list that has one
first_of : List Report → Report
first_of [] = Report.refused 0
first_of (r ∷ rs) = r

module _ (m : Memories) where
  pub collect_means : CollectMeans m.program m.heap m.literal m.text (collect_lent m).answer (collect_lent m).memories.heap
  unfolding collect_lent
  collect_means = collect_call_means m.program m.heap m.literal m.text

  module _ (w : Formed m) where
    pub collect_formed : Formed (collect_lent m).memories
    unfolding collect_lent
    collect_formed = (collect_means.collected w).well_formed

    pub collect_state : bounded_held m.program (collect_lent m).memories.heap (collect_lent m).memories.text ≡ collected word_store (bounded_held m.program m.heap m.text)
    unfolding collect_lent collect_call
    collect_state =
        rw ((well_formed_decides m.program m.heap m.literal m.text).1 w)
        (held_after (remaining m.program) m.heap m.text w.state.heap_size).collect

    pub collect_reports : collect_report (collect_lent m).answer
        ≡ Report.collected (word_store.frame_count (collected word_store (bounded_held m.program m.heap m.text)).store)
        (word_store.text_count (collected word_store (bounded_held m.program m.heap m.text)).store)
    collect_reports =
        let B = bounded_form m.program m.literal w.program in
        let b = bounded_held m.program m.heap m.text in
        let C = bounded_calls word_store (program_held m.program m.literal) B.laws (frame_limit m.program) (text_limit m.program) B.admitted in
        let s = same_state m.program m.heap m.text in
        (collect_means.collected w).reported
        ∙ ap₂ Report.collected
        (ap frame_total (sym s) ∙ sym (C.collect_frames b (B.forth m.heap m.text w)))
        (ap text_total (sym s) ∙ sym (C.collect_texts b (B.forth m.heap m.text w)))

    -- from every unbounded machine that is alike to what the memories hold: its totals
    pub collect_alongside : (u : Unbounded) → Alike u.state (state_held m.program m.heap m.text) →
        collect_report (collect_lent m).answer ≡ Report.collected (frame_total u.state) (text_total u.state)
    unfolding calls bounded.calls first_report bounded.first_report first_of
    collect_alongside u a =
        let B = bounded_form m.program m.literal w.program in
        let b = bounded_held m.program m.heap m.text in
        let S = simulation word_store (program_held m.program m.literal) B.laws (frame_limit m.program) (text_limit m.program) B.admitted in
        let r = S.related b u.state (B.forth m.heap m.text w) (subst (Alike u.state) (sym (same_state m.program m.heap m.text)) a) in
        collect_reports ∙ ap first_of (S.sessions (collect-fed ∷ []) b u r).reports

    -- what is held after it is alike to what was held before
    pub collect_alike : Alike (state_held m.program m.heap m.text) (state_held m.program (collect_lent m).memories.heap (collect_lent m).memories.text)
    unfolding calls bounded.calls first_report bounded.first_report
    collect_alike =
        let B = bounded_form m.program m.literal w.program in
        let b = bounded_held m.program m.heap m.text in
        let S = simulation word_store (program_held m.program m.literal) B.laws (frame_limit m.program) (text_limit m.program) B.admitted in
        let u : Unbounded = record { state = state_of word_store b; shown = []; made = 0; tried = false } in
        let a : Alike (state_of word_store b) (state_of word_store (collected word_store b)) =
        S.alike (collected word_store b) (state_of word_store b) (S.sessions (collect-fed ∷ []) b u (S.itself b (B.forth m.heap m.text w))).related in
        subst (λ (s : State). Alike s (state_held m.program (collect_lent m).memories.heap (collect_lent m).memories.text)) (same_state m.program m.heap m.text)
        (subst (Alike (state_of word_store b)) (sym (ap (state_of word_store) collect_state) ∙ same_state m.program (collect_lent m).memories.heap (collect_lent m).memories.text) a)
