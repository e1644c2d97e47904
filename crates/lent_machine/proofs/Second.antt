-- Demand 2, what concerns run and collect. For any load and look. Assumes nothing.
use Prim.Native.Nat.{ℕ, suc, ◌≤◌}
use mathlib.Core.Path.{◌≡◌, refl, ◌∙◌, ap, sym, subst}
use mathlib.Core.Logic.{◌↔◌, ⊎_elim}
use mathlib.Core.Bool.{Bool, true, false, ◌||◌, true≢false}
use mathlib.Core.List.Memᴰ
use mathlib.Core.List.{List, [], ◌∷◌, Memᴰ}
use native.Mathlib.Decide.{ℕ_discrete}
use lib.Dec.{eqb}
use borrow.Author.Tests.{eq-eqb, ne_eqb}
use Rattle.framed.specs.Common.{any, member}
use lib.ListN.{length}
use Rattle.framed.specs.declared.Value.{Value}
use Rattle.framed.specs.declared.Text.{Text}
use Rattle.framed.specs.Tree.{Instruction, Code}
use Rattle.framed.specs.Paths.{Path}
use Rattle.framed.specs.Machine.{State, Effect, gives, ends, Ready, step, after_step}
use Rattle.framed.specs.Answers.{Stopped, Report, run_report, collect_report}
use Rattle.framed.specs.Calls.{frame_total, text_total}
use Rattle.framed.specs.Alike.{Alike, InReach}
use Rattle.framed.specs.Demands.{Memories, StopsAfter}
use Rattle.tables.specs.Fields.{frame_limit, text_limit}
use Rattle.heap.specs.Held.{frames_in_use, texts_in_use}
use Rattle.heap.proofs.Held.{frame_counted, text_counted}
use Rattle.wellformed.specs.Held.{state_held}
use Rattle.bounded.specs.Bounded.{state_of}
use Rattle.word_store.specs.Store.{word_store}
use Rattle.running.specs.Running.{bounded_run}
use Rattle.running.proofs.Laws.{same_state}
use Rattle.lent_machine.specs.Machine.{Formed, run_lent, collect_lent}
use Rattle.lent_machine.proofs.Runs.{bounded_of, run_reports}
use Rattle.lent_machine.proofs.Collects.{collect_means}
use Rattle.lent_machine.proofs.Calls.{bounded_in, B, q, of_bounded, stops_means, means_stops}

-- ---- A member of a list, by the test and as a fact

member_listed : (n : ℕ) (xs : List ℕ) → member n xs ≡ true → Memᴰ n xs
unfolding member any
member_listed n [] e = absurd (true≢false (sym e))
member_listed n (x ∷ xs) e = go (ℕ_discrete n x) (λ t. member_listed n xs t)
  where
    go : Dec (n ≡ x) → (member n xs ≡ true → Memᴰ n xs) → Memᴰ n (x ∷ xs)
    go (yes is) r = Memᴰ.head is
    go (no ne) r = Memᴰ.tail (r (rw (ne_eqb n x ne) at e))

listed_member : (n : ℕ) (xs : List ℕ) → Memᴰ n xs → member n xs ≡ true
unfolding member any
listed_member n [] i = absurd (Memᴰ.not-nil i)
listed_member n (x ∷ xs) i =
    ⊎_elim (λ e. rw (eq-eqb n x e)) (λ t. or_right (eqb n x) (any (eqb n) xs) (listed_member n xs t)) (Memᴰ.cases_cons i)
  where
    or_right : (a b : Bool) → b ≡ true → (a || b) ≡ true
    or_right true b e = refl
    or_right false b e = e

module _ (m : Memories) (w : Formed m) where
  abbrev F : ℕ
  F = frame_limit m.program

  abbrev T : ℕ
  T = text_limit m.program

  abbrev s : State
  s = state_held m.program m.heap m.text

  same : state_of word_store (bounded_in m) ≡ s
  same = same_state m.program m.heap m.text

  mark_is : (bounded_in m).end_mark ≡ s.end_mark
  mark_is = ap (λ (x : State). x.end_mark) same

  remaining_is : (bounded_in m).remaining ≡ s.remaining
  remaining_is = ap (λ (x : State). x.remaining) same

  -- an end at once is the end that the step gives
  module _ (i : Instruction Path) (rest : Code Path) (ready : Ready F T s i rest) where
    pub ends_at_once : (fuel e : ℕ) (out : List ℕ) → StopsAfter (Stopped.end e) 0 (run_report (run_lent m (suc fuel) out).answer (run_lent m (suc fuel) out).buffer) ↔ (step (q m w) F T s i rest ≡ ends e)
    unfolding bounded_run
    ends_at_once fuel e out =
        let x = (of_bounded m w).ends_at_once fuel (length out) (bounded_in m) i rest e ((B m w).forth m.heap m.text w) (mark_is ∙ ready.no_mark) (remaining_is ∙ ready.next) in (
          (λ y. subst (λ (z : State). step (q m w) F T z i rest ≡ ends e) same (x.0 (stops_means (run_reports m (suc fuel) out w) y))),
          (λ y. let z = x.1 (subst (λ (z : State). step (q m w) F T z i rest ≡ ends e) (sym same) y) in means_stops (run_reports m (suc fuel) out w) z.0 z.1),
        )

    pub makes_step : (out : List ℕ) (x : Effect) → step (q m w) F T s i rest ≡ gives x → length x.line ≤ length out →
        (run_report (run_lent m 1 out).answer (run_lent m 1 out).buffer ≡ Report.ran (bounded_of m 1 out w).stop 1 (length x.line) x.line)
        × Alike (after_step s x) (state_of word_store (bounded_of m 1 out w).state)
    unfolding bounded_run
    makes_step out x g fits =
        let y = (of_bounded m w).makes_step (length out) (bounded_in m) i rest x ((B m w).forth m.heap m.text w) (mark_is ∙ ready.no_mark) (remaining_is ∙ ready.next)
        (subst (λ (z : State). step (q m w) F T z i rest ≡ gives x) (sym same) g) fits in (
          run_reports m 1 out w ∙ (λ j. Report.ran (bounded_of m 1 out w).stop (y.0 j) (length (y.1 j)) (y.1 j)),
          subst (λ (z : State). Alike (after_step z x) (state_of word_store (bounded_of m 1 out w).state)) same y.2,
        )

  -- ---- Collect

  pub collects : collect_report (collect_lent m).answer ≡ Report.collected (frame_total s) (text_total s)
  collects = ((collect_means m).collected w).reported

  pub collects_frames : (n : ℕ) → Memᴰ n (frames_in_use (collect_lent m).memories.heap) ↔ InReach s (Value.Frame n)
  collects_frames n =
      let c = frame_counted (collect_lent m).memories.heap n in
      let r = ((collect_means m).collected w).frames n in
      (λ i. r.0 (c.0 (listed_member n _ i)), λ i. member_listed n _ (c.1 (r.1 i)))

  pub collects_texts : (k : ℕ) → Memᴰ k (texts_in_use (collect_lent m).memories.heap) ↔ InReach s (Value.Text (Text.Made k))
  collects_texts k =
      let c = text_counted (collect_lent m).memories.heap k in
      let r = ((collect_means m).collected w).texts k in
      (λ i. r.0 (c.0 (listed_member k _ i)), λ i. member_listed k _ (c.1 (r.1 i)))
