-- The theorems of `specs/Theorems.antt`. Assumes nothing.
use mathlib.Core.Path.{◌≡◌, sym, ap, ◌∙◌, subst}
use mathlib.Core.Logic.{◌↔◌, inl, inr}
use mathlib.Core.Bool.{false}
use mathlib.Core.List.{List, []}
use Prim.Native.Nat.{ℕ, suc, ◌+◌, ◌≤◌, ◌<◌}
use native.Mathlib.Omega.{arith}
use lib.ListN.{length}
use Rattle.framed.specs.Tree.{Instruction, Code, ◌then◌}
use Rattle.framed.specs.Paths.{Path}
use Rattle.framed.specs.Program.{Program}
use Rattle.framed.specs.Machine.{State, Effect, Result, gives, ends, step, after_step, right_side, frame_literals, start}
use Rattle.framed.specs.Answers.{Stopped}
use Rattle.framed.specs.Calls.{Unbounded, at_start, Call, frame_total}
use Rattle.framed.specs.Calls as C
use Rattle.framed.specs.Alike.{Alike}
use Rattle.framed.specs.Demands.{steps_in, bytes_in}
use Rattle.bounded.specs.Views.{View, all_used, frames_used, texts_used, Takes}
use Rattle.bounded.specs.Fits.{Valid, CodeFits}
use Rattle.bounded.specs.Check.{end_of}
use Rattle.bounded.specs.Store.{Store, Laws}
use Rattle.bounded.specs.Bounded.{Bounded, over_store, state_of, reserve, ready, collected, run, calls}
use Rattle.bounded.specs.Relation.{Simulates, WellFormed, Related}
use Rattle.bounded.specs.Theorems.{Admitted, StepTakes, StepSimulation, SameRun, Simulation, BoundedCalls, AlikeAfter, AlikeAfterCalls}
use Rattle.bounded.proofs.UnboundedRuns.{unbounded_runs, unbounded_calls}
use Rattle.bounded.proofs.Collect.{same_frame_count, reserves, counts_frames, counts_texts, collected_well_formed, frame_in_use_reached, text_in_use_reached}
use Rattle.bounded.proofs.Step.{Performs, Steps, step_out}
use Rattle.bounded.proofs.Runs.{run_same, calls_same}
use Rattle.bounded.proofs.Alike.{related_alike, alike_related, alike_itself}

module _ {S : Type 0} (𝓞 : Store S) (p : Program) (𝓛 : Laws 𝓞 p) (F T : ℕ) (admitted : Admitted 𝓞 p 𝓛 F T) where
  itself : (b : Bounded S) → WellFormed 𝓞 p 𝓛 F T b → Related 𝓞 p 𝓛 F T b (state_of 𝓞 b)
  itself b ok = alike_related 𝓞 p 𝓛 admitted.fits F T ok (alike_itself (state_of 𝓞 b))

  -- ---- One step

  steps : (b : Bounded S) (s : State) → Related 𝓞 p 𝓛 F T b s → (i : Instruction Path) (rest : Code Path) → b.remaining ≡ (i then rest) →
      Steps 𝓞 p 𝓛 admitted.fits F T admitted.F_within admitted.T_within b s i rest
  steps b s A i rest c =
      let f : CodeFits p (i then rest) = subst (CodeFits p) c A.well_formed.remaining in
      step_out 𝓞 p 𝓛 admitted.fits F T admitted.F_within admitted.T_within A i rest f.0 f.1

  abbrev Outcome : View → (f n : ℕ) → State → ℕ → List ℕ → Bounded S → Result Effect → Type 1
  Outcome = Performs 𝓞 p 𝓛 admitted.fits F T admitted.F_within admitted.T_within

  end_same : {K : View} {f n : ℕ} {s : State} {c : ℕ} {l : List ℕ} {b' : Bounded S} {o : Result Effect} → Outcome K f n s c l b' o → c ≡ end_of o
  unfolding end_of
  end_same (inl z) = z.1 ∙ sym (ap end_of z.2)
  end_same (inr D) = D.passes ∙ sym (ap end_of D.result_is)

  commit_same : {K : View} {f n : ℕ} {s : State} {c : ℕ} {l : List ℕ} {b' : Bounded S} {o : Result Effect} → Outcome K f n s c l b' o → (x : Effect) → o ≡ gives x →
      (l ≡ x.line) × Related 𝓞 p 𝓛 F T b' (after_step s x)
  commit_same (inl z) x e = absurd (let g = sym z.2 ∙ e in let n : ◌≡◌ {A = ℕ} 0 1 = cc in omega arith)
  commit_same {s} {b' = b'} (inr D) x e =
      let q : D.effect ≡ x = given (sym D.result_is ∙ e) in
      (D.same_line ∙ ap (λ (y : Effect). y.line) q, subst (λ (y : Effect). Related 𝓞 p 𝓛 F T b' (after_step s y)) q D.related)
    where
      given : {y z : Effect} → gives y ≡ gives z → y ≡ z
      given e = cc

  taken : {K : View} {f n : ℕ} {s : State} {c : ℕ} {l : List ℕ} {b' : Bounded S} {o : Result Effect} → Outcome K f n s c l b' o → c ≡ 0 → Takes K (𝓞.view b'.store) f n
  taken (inl z) e = absurd (omega (arith, z.1))
  taken (inr D) e = D.takes

  pub step_takes : StepTakes 𝓞 p 𝓛 F T
  unfolding ready
  step_takes b ok i rest c e = taken (steps b (state_of 𝓞 b) (itself b ok) i rest c).outcome e

  pub step_simulation : StepSimulation 𝓞 p 𝓛 F T
  unfolding reserve ready
  step_simulation = record {
    reserves = λ b s A i. (reserves 𝓞 p 𝓛 admitted.fits F T A i).same;
    ready_related = λ b s A i. (reserves 𝓞 p 𝓛 admitted.fits F T A i).related;
    ends_same = λ b s A i rest c. end_same (steps b s A i rest c).outcome;
    goes_on = λ b s A i rest c x e. commit_same (steps b s A i rest c).outcome x e;
  }

  same_view : (b : Bounded S) (s : State) (r : S) → 𝓞.view r ≡ 𝓞.view b.store → 𝓛.WellFormed r → Related 𝓞 p 𝓛 F T b s → Related 𝓞 p 𝓛 F T (over_store b r) s
  same_view b s r e ok A = record {
    relation = A.relation;
    well_formed = record {
      store = ok;
      self = subst (λ (H : View). Valid p H b.self) (sym e) A.well_formed.self;
      program = subst (λ (H : View). Valid p H b.program) (sym e) A.well_formed.program;
      remaining = A.well_formed.remaining;
      next = A.well_formed.next;
      mark = A.well_formed.mark;
      frames_few = subst (λ (H : View). frames_used H ≤ F) (sym e) A.well_formed.frames_few;
      texts_few = subst (λ (H : View). texts_used H ≤ T) (sym e) A.well_formed.texts_few;
    };
    heaps = subst (λ (H : View). Simulates A.relation H (all_used s.heap)) (sym e) A.heaps;
    self = A.self;
    program = A.program;
    remaining = A.remaining;
    next = A.next;
    end_mark = A.end_mark;
  }

  pub simulation : Simulation 𝓞 p 𝓛 F T
  simulation = record {
    runs = run_same 𝓞 p F T 𝓛 admitted.fits admitted.F_within admitted.T_within;
    sessions = calls_same 𝓞 p F T 𝓛 admitted.fits admitted.F_within admitted.T_within;
    alike = λ b s A. related_alike 𝓞 p 𝓛 F T A;
    related = λ b s ok a. alike_related 𝓞 p 𝓛 admitted.fits F T ok a;
    same_view = same_view;
    itself = itself;
  }

  -- related states reach equally many frames
  pub same_total : {b : Bounded S} {s : State} → Related 𝓞 p 𝓛 F T b s → frame_total (state_of 𝓞 b) ≡ frame_total s
  unfolding frame_total
  same_total A = same_frame_count A.heaps A.self A.program

  -- a well-formed state, as the unbounded machine's
  module _ (b : Bounded S) (ok : WellFormed 𝓞 p 𝓛 F T b) where
    u : Unbounded
    u = record { state = state_of 𝓞 b; shown = []; made = 0; tried = false }

    same : (fuel space : ℕ) → SameRun 𝓞 p 𝓛 F T (run 𝓞 p F T fuel space b) (C.run p F T fuel space u)
    unfolding u
    same fuel space = run_same 𝓞 p F T 𝓛 admitted.fits admitted.F_within admitted.T_within fuel space b u (itself b ok)

    within : (fuel space : ℕ) → ((run 𝓞 p F T fuel space b).steps ≤ fuel) × (length (run 𝓞 p F T fuel space b).bytes ≤ space)
    within fuel space =
        let w = unbounded_runs.within p F T fuel space u in
        let r = same fuel space in
        (subst (λ (n : ℕ). n ≤ fuel) (sym r.steps) w.0, subst (λ (l : List ℕ). length l ≤ space) (sym r.bytes) w.1)

    keeps_shows : (fuel space e : ℕ) → (run 𝓞 p F T fuel space b).stop ≡ Stopped.end e →
        ((run 𝓞 p F T (run 𝓞 p F T fuel space b).steps space b).steps ≡ (run 𝓞 p F T fuel space b).steps)
        × ((run 𝓞 p F T (run 𝓞 p F T fuel space b).steps space b).bytes ≡ (run 𝓞 p F T fuel space b).bytes)
    keeps_shows fuel space e q =
        let r = same fuel space in
        let w = unbounded_runs.keeps_shows p F T fuel space e u (sym r.stop ∙ q) in
        let t = same (run 𝓞 p F T fuel space b).steps space in (
          t.steps ∙ ap (λ (n : ℕ). (C.run p F T n space u).steps) r.steps ∙ w.0 ∙ sym r.steps,
          t.bytes ∙ ap (λ (n : ℕ). (C.run p F T n space u).bytes) r.steps ∙ w.1 ∙ sym r.bytes,
        )

    frames_full : (fuel k space : ℕ) (i : Instruction Path) (rest : Code Path) → k < fuel →
        (run 𝓞 p F T k space b).stop ≡ Stopped.fuel → (run 𝓞 p F T k space b).state.remaining ≡ (i then rest) →
        (((run 𝓞 p F T fuel space b).stop ≡ Stopped.end 36) × ((run 𝓞 p F T fuel space b).steps ≡ k)) ↔
        (F < frame_total (state_of 𝓞 (run 𝓞 p F T k space b).state) + frame_literals (right_side i))
    frames_full fuel k space i rest l q c =
        let r = same fuel space in
        let t = same k space in
        let w = unbounded_runs.frames_full p F T fuel k space u i rest l (sym t.stop ∙ q) (sym t.related.remaining ∙ c) in
        let e = same_total t.related in (
          (λ h. subst (λ (n : ℕ). F < n + frame_literals (right_side i)) (sym e) (w.0 (sym r.stop ∙ h.0, sym r.steps ∙ h.1))),
          (λ h. let g = w.1 (subst (λ (n : ℕ). F < n + frame_literals (right_side i)) e h) in (r.stop ∙ g.0, r.steps ∙ g.1)),
        )

    ends_at_once : (fuel space : ℕ) (i : Instruction Path) (rest : Code Path) (e : ℕ) → b.end_mark ≡ 0 → b.remaining ≡ (i then rest) →
        (((run 𝓞 p F T (suc fuel) space b).stop ≡ Stopped.end e) × ((run 𝓞 p F T (suc fuel) space b).steps ≡ 0)) ↔ (step p F T (state_of 𝓞 b) i rest ≡ ends e)
    unfolding u
    ends_at_once fuel space i rest e m c =
        let r = same (suc fuel) space in
        let w = unbounded_runs.ends_at_once p F T fuel space u i rest e m c in
        ((λ h. w.0 (sym r.stop ∙ h.0, sym r.steps ∙ h.1)), (λ g. let h = w.1 g in (r.stop ∙ h.0, r.steps ∙ h.1)))

    makes_step : (space : ℕ) (i : Instruction Path) (rest : Code Path) (x : Effect) → b.end_mark ≡ 0 → b.remaining ≡ (i then rest) →
        step p F T (state_of 𝓞 b) i rest ≡ gives x → length x.line ≤ space →
        ((run 𝓞 p F T 1 space b).steps ≡ 1) × ((run 𝓞 p F T 1 space b).bytes ≡ x.line) × Alike (after_step (state_of 𝓞 b) x) (state_of 𝓞 (run 𝓞 p F T 1 space b).state)
    unfolding u C.advanced
    makes_step space i rest x m c g l =
        let r = same 1 space in
        let w = unbounded_runs.makes_step p F T space u i rest x m c g l in (
          r.steps ∙ w.0,
          r.bytes ∙ w.1,
          subst (λ (v : Unbounded). Alike v.state (state_of 𝓞 (run 𝓞 p F T 1 space b).state)) w.2 (related_alike 𝓞 p 𝓛 F T r.related),
        )

  pub bounded_calls : BoundedCalls 𝓞 p 𝓛 F T
  unfolding collected
  bounded_calls = record {
    run_leaves = λ fuel space b ok. (same b ok fuel space).related.well_formed;
    collect_leaves = λ b ok. collected_well_formed 𝓞 p 𝓛 admitted.fits F T ok;
    run_within = λ fuel space b ok. within b ok fuel space;
    keeps_shows = λ fuel space e b ok q. keeps_shows b ok fuel space e q;
    frames_full = λ fuel k space b i rest ok l q c. frames_full b ok fuel k space i rest l q c;
    ends_at_once = λ fuel space b i rest e ok m c. ends_at_once b ok fuel space i rest e m c;
    makes_step = λ space b i rest x ok m c g l. makes_step b ok space i rest x m c g l;
    collect_frames = λ b ok. counts_frames 𝓞 p 𝓛 admitted.fits F T (itself b ok);
    collect_texts = λ b ok. counts_texts 𝓞 p 𝓛 admitted.fits F T (itself b ok);
    frames_left = λ b ok n. frame_in_use_reached 𝓞 p 𝓛 admitted.fits F T ok n;
    texts_left = λ b ok k. text_in_use_reached 𝓞 p 𝓛 admitted.fits F T ok k;
  }

  pub alike_after_calls : AlikeAfterCalls 𝓞 p 𝓛 F T
  unfolding at_start
  alike_after_calls = record { alike = after }
    where
      after : (b : Bounded S) → WellFormed 𝓞 p 𝓛 F T b → b.end_mark ≡ 0 → Alike (start p) (state_of 𝓞 b) →
          (cs : List Call) → AlikeAfter 𝓞 p 𝓛 F T (calls 𝓞 p F T cs b) (C.calls p F T cs (at_start p))
      after b ok z a cs =
          let r = simulation.sessions cs b (at_start p) (simulation.related b (start p) ok a) in
          let e = r.related.end_mark in
          record {
            reports = r.reports;
            steps = ap steps_in r.reports ∙ unbounded_calls.steps p F T cs;
            bytes = ap bytes_in r.reports ∙ unbounded_calls.bytes p F T cs;
            states = related_alike 𝓞 p 𝓛 F T r.related;
            well_formed = r.related.well_formed;
            ends_stand = λ n l h. let w = unbounded_calls.ends_stand p F T cs (a.same_end ∙ z) n l h in ((λ q. w.0 (sym e ∙ q)), (λ q. e ∙ w.1 q));
          }
