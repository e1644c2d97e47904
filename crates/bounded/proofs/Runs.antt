-- A run and a list of calls: the same reports, and related states. Assumes nothing.
use mathlib.Core.Path.{◌≡◌, refl, sym, ap, ap₂, ◌∙◌, subst}
use mathlib.Core.Logic.{inl, inr}
use mathlib.Core.Bool.{Bool, true, false}
use mathlib.Core.List.{List, [], ◌∷◌, ◌++◌}
use Prim.Native.Nat.{ℕ, zero, suc, ◌-◌, ◌≤◌}
use lib.ListN.{length}
use lib.Dec.{leb}
use Rattle.framed.specs.Tree.{Instruction, Code, ◌then◌}
use Rattle.framed.specs.Paths.{Path}
use Rattle.framed.specs.Program.{Program}
use Rattle.framed.specs.Machine.{State, step, marked, frame_literals, join_signs, right_side}
use Rattle.framed.specs.Answers.{Stopped, Report}
use Rattle.framed.specs.Calls.{Unbounded, advanced, ended, attempted, Position, at_end, before, position_in, position, Call, run_call, collect_call}
use Rattle.framed.specs.Calls as C
use Rattle.framed.proofs.Runs.{run_at_end, run_unfuelled, run_ends, run_output, run_steps, before_is}
use Rattle.bounded.specs.Views.{entries}
use Rattle.bounded.specs.Fits.{CodeFits, ProgramFits}
use Rattle.bounded.specs.Store.{Store, Laws}
use Rattle.bounded.specs.Bounded.{Bounded, with_mark, state_of, reserved, line, commit, ready, step_end, Ran, stopped, one_more, run, collected, Session, first_report, calls}
use Rattle.bounded.specs.Relation.{Related}
use Rattle.bounded.specs.Theorems.{place, RunWays, SameRun, SameSession}
use Rattle.bounded.proofs.UnboundedRuns.{step_ends}
use Rattle.bounded.proofs.Collect.{counts_frames, counts_texts, collected_related}
use Rattle.bounded.proofs.Step.{Commits, Performs, Steps, step_out}

module _ {S : Type 0} (𝓞 : Store S) (p : Program) (F T : ℕ) where
  -- ---- The ways of a run

  abbrev at : Bounded S → Position
  at b = place 𝓞 p F T b

  lined : (fuel space : ℕ) → Bounded S → Instruction Path → Code Path → Bool → Ran 𝓞
  lined fuel space b i rest t =
      elim t [
        | false ↦ stopped 𝓞 Stopped.output (ready 𝓞 F T b i)
        | true ↦
            one_more 𝓞 (line 𝓞 p (ready 𝓞 F T b i) i)
            (run 𝓞 p F T fuel (space - length (line 𝓞 p (ready 𝓞 F T b i) i)) (commit 𝓞 p (ready 𝓞 F T b i) rest i))
      ]

  stepped : (fuel space : ℕ) → Bounded S → Instruction Path → Code Path → ℕ → Ran 𝓞
  stepped fuel space b i rest n =
      elim n [
        | suc e ↦ stopped 𝓞 (Stopped.end (suc e)) (with_mark (suc e) (ready 𝓞 F T b i))
        | zero ↦ lined fuel space b i rest (leb (length (line 𝓞 p (ready 𝓞 F T b i) i)) space)
      ]

  positioned : (fuel space : ℕ) → Bounded S → Position → Ran 𝓞
  positioned fuel space b q = elim q [ at_end e ↦ stopped 𝓞 (Stopped.end e) b | before i rest ↦ stepped fuel space b i rest (step_end 𝓞 p F T b i) ]

  unfuelled : Bounded S → Position → Ran 𝓞
  unfuelled b q = elim q [ at_end e ↦ stopped 𝓞 (Stopped.end e) b | before i rest ↦ stopped 𝓞 Stopped.fuel b ]

  bounded_suc : (fuel space : ℕ) (b : Bounded S) → run 𝓞 p F T (suc fuel) space b ≡ positioned fuel space b (at b)
  unfolding run positioned stepped lined
  bounded_suc fuel space b = refl

  bounded_zero : (space : ℕ) (b : Bounded S) → run 𝓞 p F T zero space b ≡ unfuelled b (at b)
  unfolding run unfuelled
  bounded_zero space b = refl

  bounded_at_end : (fuel space : ℕ) (b : Bounded S) (e : ℕ) → at b ≡ at_end e → run 𝓞 p F T fuel space b ≡ stopped 𝓞 (Stopped.end e) b
  unfolding positioned unfuelled
  bounded_at_end zero space b e q = bounded_zero space b ∙ ap (unfuelled b) q
  bounded_at_end (suc fuel) space b e q = bounded_suc fuel space b ∙ ap (positioned fuel space b) q

  bounded_unfuelled : (space : ℕ) (b : Bounded S) (i : Instruction Path) (rest : Code Path) → at b ≡ before i rest → run 𝓞 p F T zero space b ≡ stopped 𝓞 Stopped.fuel b
  unfolding unfuelled
  bounded_unfuelled space b i rest q = bounded_zero space b ∙ ap (unfuelled b) q

  bounded_ends : (fuel space : ℕ) (b : Bounded S) (i : Instruction Path) (rest : Code Path) (e : ℕ) → at b ≡ before i rest → step_end 𝓞 p F T b i ≡ suc e →
      run 𝓞 p F T (suc fuel) space b ≡ stopped 𝓞 (Stopped.end (suc e)) (with_mark (suc e) (ready 𝓞 F T b i))
  unfolding positioned stepped
  bounded_ends fuel space b i rest e q c = bounded_suc fuel space b ∙ ap (positioned fuel space b) q ∙ ap (stepped fuel space b i rest) c

  bounded_lined : (fuel space : ℕ) (b : Bounded S) (i : Instruction Path) (rest : Code Path) (t : Bool) → at b ≡ before i rest → step_end 𝓞 p F T b i ≡ 0 →
      leb (length (line 𝓞 p (ready 𝓞 F T b i) i)) space ≡ t → run 𝓞 p F T (suc fuel) space b ≡ lined fuel space b i rest t
  unfolding positioned stepped
  bounded_lined fuel space b i rest t q c l =
      bounded_suc fuel space b ∙ ap (positioned fuel space b) q ∙ ap (stepped fuel space b i rest) c ∙ ap (lined fuel space b i rest) l

  pub run_ways : RunWays 𝓞 p F T
  unfolding lined
  run_ways = record {
    marked_or_done = bounded_at_end;
    out_of_fuel = bounded_unfuelled;
    step_gives_end = bounded_ends;
    line_too_long = λ fuel space b i rest q c l. bounded_lined fuel space b i rest false q c l;
    step_made = λ fuel space b i rest q c l. bounded_lined fuel space b i rest true q c l;
  }

  module _ (𝓛 : Laws 𝓞 p) (fits : ProgramFits p) (small_F : F ≤ entries) (small_T : T ≤ entries) where
    abbrev Rel : Bounded S → State → Type 1
    Rel b s = Related 𝓞 p 𝓛 F T b s

    abbrev Same : Ran 𝓞 → C.Ran → Type 1
    Same x y = SameRun 𝓞 p 𝓛 F T x y

    stopped_same : (why : Stopped) (b : Bounded S) (u : Unbounded) → Rel b u.state → Same (stopped 𝓞 why b) (C.stopped why u)
    stopped_same why b u A = record { stop = refl; steps = refl; bytes = refl; related = A }

    marked_related : (e : ℕ) (b : Bounded S) (s : State) → (31 ≤ e) × (e ≤ 37) → Rel b s → Rel (with_mark e b) (marked e s)
    unfolding with_mark marked
    marked_related e b s l A = record {
      relation = A.relation;
      well_formed = record {
        store = A.well_formed.store;
        self = A.well_formed.self;
        program = A.well_formed.program;
        remaining = A.well_formed.remaining;
        next = A.well_formed.next;
        mark = inr l;
        frames_few = A.well_formed.frames_few;
        texts_few = A.well_formed.texts_few;
      };
      heaps = A.heaps;
      self = A.self;
      program = A.program;
      remaining = A.remaining;
      next = A.next;
      end_mark = refl;
    }

    one_more_same : (l k : List ℕ) (x : Ran 𝓞) (y : C.Ran) → l ≡ k → Same x y → Same (one_more 𝓞 l x) (C.one_more k y)
    unfolding one_more C.one_more
    one_more_same l k x y e o = record {
      stop = o.stop;
      steps = ap suc o.steps;
      bytes = ap₂ (λ (a b : List ℕ). a ++ b) e o.bytes;
      related = o.related;
    }

    same_position : (b : Bounded S) (s : State) → Rel b s → at b ≡ position s
    unfolding position
    same_position b s A = ap₂ position_in A.end_mark A.remaining

    -- what the next instruction and the rest fit
    next_fits : (b : Bounded S) (s : State) (i : Instruction Path) (rest : Code Path) → Rel b s → at b ≡ before i rest → CodeFits p (i then rest)
    unfolding position
    next_fits b s i rest A q = subst (CodeFits p) (before_is (state_of 𝓞 b) i rest q).1 A.well_formed.remaining

    pub run_same : (fuel space : ℕ) (b : Bounded S) (u : Unbounded) → Rel b u.state → Same (run 𝓞 p F T fuel space b) (C.run p F T fuel space u)
    unfolding lined advanced ended attempted
    run_same zero space b u A = go (at b) refl
      where
        go : (q : Position) → at b ≡ q → Same (run 𝓞 p F T zero space b) (C.run p F T zero space u)
        go (at_end e) q =
            subst (λ (x : Ran 𝓞). Same x (C.run p F T zero space u)) (sym (bounded_at_end zero space b e q))
            (subst (λ (y : C.Ran). Same (stopped 𝓞 (Stopped.end e) b) y) (sym (run_at_end p F T zero space u e (sym (same_position b u.state A) ∙ q)))
            (stopped_same (Stopped.end e) b u A))
        go (before i rest) q =
            subst (λ (x : Ran 𝓞). Same x (C.run p F T zero space u)) (sym (bounded_unfuelled space b i rest q))
            (subst (λ (y : C.Ran). Same (stopped 𝓞 Stopped.fuel b) y) (sym (run_unfuelled p F T space u i rest (sym (same_position b u.state A) ∙ q)))
            (stopped_same Stopped.fuel b u A))
    run_same (suc fuel) space b u A = go (at b) refl (λ space c v B. run_same fuel space c v B)
      where
        Goal : Type 1
        Goal = Same (run 𝓞 p F T (suc fuel) space b) (C.run p F T (suc fuel) space u)

        Later : Type 1
        Later = (space : ℕ) (c : Bounded S) (v : Unbounded) → Rel c v.state → Same (run 𝓞 p F T fuel space c) (C.run p F T fuel space v)

        -- both sides by an equation
        by : {x : Ran 𝓞} {y : C.Ran} → run 𝓞 p F T (suc fuel) space b ≡ x → C.run p F T (suc fuel) space u ≡ y → Same x y → Goal
        by {x} {y} d e s =
            subst (λ (z : Ran 𝓞). Same z (C.run p F T (suc fuel) space u)) (sym d) (subst (λ (z : C.Ran). Same x z) (sym e) s)

        goes : (i : Instruction Path) (rest : Code Path) → at b ≡ before i rest → (T' : Steps 𝓞 p 𝓛 fits F T small_F small_T b u.state i rest) →
            (D : Commits 𝓞 p 𝓛 fits F T small_F small_T (𝓞.view (reserved 𝓞 F T b i)) (frame_literals (right_side i)) (join_signs (right_side i)) u.state (step_end 𝓞 p F T b i) (line 𝓞 p (ready 𝓞 F T b i) i) (commit 𝓞 p (ready 𝓞 F T b i) rest i) (step p F T u.state i rest)) →
            Later → (t : Bool) → leb (length D.effect.line) space ≡ t → Goal
        goes i rest q T' D k false l =
            by (bounded_lined fuel space b i rest false q D.passes (ap (λ (m : List ℕ). leb (length m) space) D.same_line ∙ l))
            (run_output p F T fuel space u i rest D.effect (sym (same_position b u.state A) ∙ q) D.result_is l)
            (stopped_same Stopped.output (ready 𝓞 F T b i) (attempted u) T'.still)
        goes i rest q T' D k true l =
            by (bounded_lined fuel space b i rest true q D.passes (ap (λ (m : List ℕ). leb (length m) space) D.same_line ∙ l))
            (run_steps p F T fuel space u i rest D.effect (sym (same_position b u.state A) ∙ q) D.result_is l)
            (one_more_same _ _ _ _ D.same_line
            (subst (λ (m : List ℕ). Same (run 𝓞 p F T fuel (space - length (line 𝓞 p (ready 𝓞 F T b i) i)) (commit 𝓞 p (ready 𝓞 F T b i) rest i))
            (C.run p F T fuel (space - length m) (advanced u D.effect))) D.same_line
            (k (space - length (line 𝓞 p (ready 𝓞 F T b i) i)) (commit 𝓞 p (ready 𝓞 F T b i) rest i) (advanced u D.effect) D.related)))

        given : (i : Instruction Path) (rest : Code Path) → at b ≡ before i rest → Steps 𝓞 p 𝓛 fits F T small_F small_T b u.state i rest → Later → Goal
        given i rest q T' k = cases T'.outcome
          where
            cases : Performs 𝓞 p 𝓛 fits F T small_F small_T (𝓞.view (reserved 𝓞 F T b i)) (frame_literals (right_side i)) (join_signs (right_side i)) u.state (step_end 𝓞 p F T b i) (line 𝓞 p (ready 𝓞 F T b i) i) (commit 𝓞 p (ready 𝓞 F T b i) rest i) (step p F T u.state i rest) → Goal
            cases (inl z) =
                by (bounded_ends fuel space b i rest z.0 q z.1) (run_ends p F T fuel space u i rest (suc z.0) (sym (same_position b u.state A) ∙ q) z.2)
                (stopped_same (Stopped.end (suc z.0)) (with_mark (suc z.0) (ready 𝓞 F T b i)) (ended (suc z.0) u)
                (marked_related (suc z.0) (ready 𝓞 F T b i) u.state (step_ends p F T u.state i rest (suc z.0) z.2) T'.still))
            cases (inr D) = goes i rest q T' D k (leb (length D.effect.line) space) refl

        go : (q : Position) → at b ≡ q → Later → Goal
        go (at_end e) q k = by (bounded_at_end (suc fuel) space b e q) (run_at_end p F T (suc fuel) space u e (sym (same_position b u.state A) ∙ q)) (stopped_same (Stopped.end e) b u A)
        go (before i rest) q k = let f = next_fits b u.state i rest A q in given i rest q (step_out 𝓞 p 𝓛 fits F T small_F small_T A i rest f.0 f.1) k

    -- ---- A list of calls

    first_same : (r q : Report) (x : Session 𝓞) (y : C.Session) → r ≡ q → SameSession 𝓞 p 𝓛 F T x y → SameSession 𝓞 p 𝓛 F T (first_report 𝓞 r x) (C.first_report q y)
    unfolding first_report C.first_report
    first_same r q x y e o = record { reports = ap₂ (λ (a : Report) (l : List Report). a ∷ l) e o.reports; related = o.related }

    same_report : {a a' : Stopped} {n n' : ℕ} {l l' : List ℕ} → a ≡ a' → n ≡ n' → l ≡ l' → Report.ran a n (length l) l ≡ Report.ran a' n' (length l') l'
    same_report d e f = λ i. Report.ran (d i) (e i) (length (f i)) (f i)

    pub calls_same : (cs : List Call) (b : Bounded S) (u : Unbounded) → Rel b u.state → SameSession 𝓞 p 𝓛 F T (calls 𝓞 p F T cs b) (C.calls p F T cs u)
    unfolding calls C.calls collected
    calls_same [] b u A = record { reports = refl; related = A }
    calls_same (run_call fuel space ∷ cs) b u A =
        let o = run_same fuel space b u A in
        first_same _ _ _ _ (same_report o.stop o.steps o.bytes) (calls_same cs (run 𝓞 p F T fuel space b).state (C.run p F T fuel space u).machine o.related)
    calls_same (collect_call ∷ cs) b u A =
        first_same _ _ _ _ (ap₂ Report.collected (counts_frames 𝓞 p 𝓛 fits F T A) (counts_texts 𝓞 p 𝓛 fits F T A))
        (calls_same cs (collected 𝓞 b) u (collected_related 𝓞 p 𝓛 fits F T A))
