-- A step of the unbounded machine by its room, and a run by its steps. Assumes nothing.
use mathlib.Core.Path.{◌≡◌, refl, sym, ◌∙◌, ap, ap₂, subst}
use mathlib.Core.Bool.{Bool, true, false}
use mathlib.Core.List.{List}
use Prim.Native.Nat.{ℕ, zero, suc, ◌+◌, ◌-◌, ◌≤◌, ◌<◌}
use native.Mathlib.Omega.{arith}
use lib.ListN.{length}
use lib.Dec.{leb, ltb, ltb→lt, nltb→le}
use Rattle.framed.specs.declared.Value.{Value}
use Rattle.framed.specs.Tree.{Instruction, Code, ◌then◌}
use Rattle.framed.specs.Paths.{Path}
use Rattle.framed.specs.Program.{Program}
use Rattle.framed.specs.Values.{Frame}
use Rattle.framed.specs.Reach.{roots, reached_frames, texts_from, reached_texts}
use Rattle.framed.specs.Machine.{State, Effect, Result, gives, ends, perform, reserve_for, reserve, step, right_side, frame_literals, join_signs}
use Rattle.framed.specs.Answers.{Stopped}
use Rattle.framed.specs.Calls.{Unbounded, advanced, ended, attempted, Position, at_end, before, position_in, position, Ran, stopped, one_more, run, frame_total, text_total}
use Rattle.framed.proofs.General.{is_true, is_false}

-- ---- What a step with or without room gives

unfoldable pub by_reserve : ℕ → Result Effect → Result Effect
by_reserve r q = elim r [ zero ↦ q | suc n ↦ ends (suc n) ]

pub step_is : (p : Program) (F T : ℕ) (s : State) (i : Instruction Path) (rest : Code Path) →
    step p F T s i rest ≡ by_reserve (reserve F T s.heap.frames s.self s.program i) (perform p s.next s.self s.program s.heap rest i)
unfolding step by_reserve
step_is p F T s i rest = refl

-- reserve gives 0 where n frames and k made texts fit, 36 where the frames do not fit, and else 37
pub data Room (F T n k : ℕ) : ℕ → Type 0 where
  room : n ≤ F → k ≤ T → Room F T n k 0
  no_frames : F < n → Room F T n k 36
  no_texts : n ≤ F → T < k → Room F T n k 37

room_of : (F T f t : ℕ) (frames : List Frame) (rs : List Value) (ns : List ℕ) →
    Room F T (length ns + f) (length (texts_from frames rs ns) + t) (reserve_for F T f t frames rs ns)
unfolding reserve_for
room_of F T f t frames rs ns = go (ltb F n) (ltb T k) refl refl
  where
    n : ℕ
    n = length ns + f

    k : ℕ
    k = length (texts_from frames rs ns) + t

    go : (a b : Bool) → ltb F n ≡ a → ltb T k ≡ b → Room F T n k (elim a [ true ↦ 36 | false ↦ elim b [ true ↦ 37 | false ↦ 0 ] ])
    go true b e g = no_frames (ltb→lt F n (is_true e))
    go false true e g = no_texts (nltb→le F n (is_false e)) (ltb→lt T k (is_true g))
    go false false e g = room (nltb→le F n (is_false e)) (nltb→le T k (is_false g))

pub reserve_room : (F T : ℕ) (s : State) (i : Instruction Path) →
    Room F T (frame_total s + frame_literals (right_side i)) (text_total s + join_signs (right_side i)) (reserve F T s.heap.frames s.self s.program i)
unfolding reserve frame_total text_total reached_texts
reserve_room F T s i = room_of F T _ _ s.heap.frames (roots s.self s.program) (reached_frames s.heap.frames (roots s.self s.program))

-- ---- Stops are told apart

pub end≢fuel : {e : ℕ} → Stopped.end e ≡ Stopped.fuel → ⊥
end≢fuel q = let z : ◌≡◌ {A = ℕ} 0 1 = cc in omega arith

pub output≢fuel : Stopped.output ≡ Stopped.fuel → ⊥
output≢fuel q = let z : ◌≡◌ {A = ℕ} 0 1 = cc in omega arith

pub fuel≢end : {e : ℕ} → Stopped.fuel ≡ Stopped.end e → ⊥
fuel≢end q = let z : ◌≡◌ {A = ℕ} 0 1 = cc in omega arith

pub output≢end : {e : ℕ} → Stopped.output ≡ Stopped.end e → ⊥
output≢end q = let z : ◌≡◌ {A = ℕ} 0 1 = cc in omega arith

pub end_inj : {d e : ℕ} → Stopped.end d ≡ Stopped.end e → d ≡ e
end_inj e = cc

-- ---- Positions

before_inj : {i j : Instruction Path} {rest more : Code Path} → before i rest ≡ before j more → (i ≡ j) × (rest ≡ more)
before_inj e = (cc, cc)

-- an instruction comes next: there is no end mark, and it is the first of the list
pub before_is : (s : State) (i : Instruction Path) (rest : Code Path) → position s ≡ before i rest → (s.end_mark ≡ 0) × (s.remaining ≡ (i then rest))
unfolding position position_in
before_is s i rest q = go s.end_mark s.remaining refl refl q
  where
    go : (e : ℕ) (is : Code Path) → s.end_mark ≡ e → s.remaining ≡ is → position_in e is ≡ before i rest → (s.end_mark ≡ 0) × (s.remaining ≡ (i then rest))
    go zero Code.finished a b q = absurd (let z : ◌≡◌ {A = ℕ} 0 1 = cc in omega arith)
    go zero (j then more) a b q = let c = before_inj q in (a, b ∙ ap₂ (λ (j : Instruction Path) (more : Code Path). j then more) c.0 c.1)
    go (suc e) is a b q = absurd (let z : ◌≡◌ {A = ℕ} 0 1 = cc in omega arith)

pub before_at : (s : State) (i : Instruction Path) (rest : Code Path) → s.end_mark ≡ 0 → s.remaining ≡ (i then rest) → position s ≡ before i rest
unfolding position position_in
before_at s i rest m c = ap₂ position_in m c

-- ---- A run, by cases

module _ (p : Program) (F T : ℕ) where
  -- what follows a step that gives an effect; what follows a result; what a run does at a position
  goes : (fuel space : ℕ) → Unbounded → Effect → Bool → Ran
  goes fuel space u x t =
      elim t [
        | false ↦ stopped Stopped.output (attempted u)
        | true ↦ one_more x.line (run p F T fuel (space - length x.line) (advanced u x))
      ]

  results : (fuel space : ℕ) → Unbounded → Result Effect → Ran
  results fuel space u r = elim r [ ends e ↦ stopped (Stopped.end e) (ended e u) | gives x ↦ goes fuel space u x (leb (length x.line) space) ]

  positioned : (fuel space : ℕ) → Unbounded → Position → Ran
  positioned fuel space u q = elim q [ at_end e ↦ stopped (Stopped.end e) u | before i rest ↦ results fuel space u (step p F T u.state i rest) ]

  unfuelled : Unbounded → Position → Ran
  unfuelled u q = elim q [ at_end e ↦ stopped (Stopped.end e) u | before i rest ↦ stopped Stopped.fuel u ]

  run_suc : (fuel space : ℕ) (u : Unbounded) → run p F T (suc fuel) space u ≡ positioned fuel space u (position u.state)
  unfolding run positioned results goes
  run_suc fuel space u = refl

  run_zero : (space : ℕ) (u : Unbounded) → run p F T zero space u ≡ unfuelled u (position u.state)
  unfolding run unfuelled
  run_zero space u = refl

  -- the five ways of a run
  pub run_at_end : (fuel space : ℕ) (u : Unbounded) (e : ℕ) → position u.state ≡ at_end e → run p F T fuel space u ≡ stopped (Stopped.end e) u
  unfolding positioned unfuelled
  run_at_end zero space u e q = run_zero space u ∙ ap (unfuelled u) q
  run_at_end (suc fuel) space u e q = run_suc fuel space u ∙ ap (positioned fuel space u) q

  pub run_unfuelled : (space : ℕ) (u : Unbounded) (i : Instruction Path) (rest : Code Path) → position u.state ≡ before i rest →
      run p F T zero space u ≡ stopped Stopped.fuel u
  unfolding unfuelled
  run_unfuelled space u i rest q = run_zero space u ∙ ap (unfuelled u) q

  pub run_ends : (fuel space : ℕ) (u : Unbounded) (i : Instruction Path) (rest : Code Path) (e : ℕ) → position u.state ≡ before i rest →
      step p F T u.state i rest ≡ ends e → run p F T (suc fuel) space u ≡ stopped (Stopped.end e) (ended e u)
  unfolding positioned results
  run_ends fuel space u i rest e q r = run_suc fuel space u ∙ ap (positioned fuel space u) q ∙ ap (results fuel space u) r

  run_goes : (fuel space : ℕ) (u : Unbounded) (i : Instruction Path) (rest : Code Path) (x : Effect) (t : Bool) → position u.state ≡ before i rest →
      step p F T u.state i rest ≡ gives x → leb (length x.line) space ≡ t → run p F T (suc fuel) space u ≡ goes fuel space u x t
  unfolding positioned results
  run_goes fuel space u i rest x t q r l =
      run_suc fuel space u ∙ ap (positioned fuel space u) q ∙ ap (results fuel space u) r ∙ ap (goes fuel space u x) l

  pub run_output : (fuel space : ℕ) (u : Unbounded) (i : Instruction Path) (rest : Code Path) (x : Effect) → position u.state ≡ before i rest →
      step p F T u.state i rest ≡ gives x → leb (length x.line) space ≡ false → run p F T (suc fuel) space u ≡ stopped Stopped.output (attempted u)
  unfolding goes
  run_output fuel space u i rest x q r l = run_goes fuel space u i rest x false q r l

  pub run_steps : (fuel space : ℕ) (u : Unbounded) (i : Instruction Path) (rest : Code Path) (x : Effect) → position u.state ≡ before i rest →
      step p F T u.state i rest ≡ gives x → leb (length x.line) space ≡ true →
      run p F T (suc fuel) space u ≡ one_more x.line (run p F T fuel (space - length x.line) (advanced u x))
  unfolding goes
  run_steps fuel space u i rest x q r l = run_goes fuel space u i rest x true q r l

  -- induction along a run: a claim about the fuel, the space, the machine, and what the run gives
  module _ (P : ℕ → ℕ → Unbounded → Ran → Type 0)
      (ended_before : (fuel space : ℕ) (u : Unbounded) (e : ℕ) → position u.state ≡ at_end e → P fuel space u (stopped (Stopped.end e) u))
      (out_of_fuel : (space : ℕ) (u : Unbounded) (i : Instruction Path) (rest : Code Path) → position u.state ≡ before i rest → P zero space u (stopped Stopped.fuel u))
      (ends_now : (fuel space : ℕ) (u : Unbounded) (i : Instruction Path) (rest : Code Path) (e : ℕ) → position u.state ≡ before i rest →
      step p F T u.state i rest ≡ ends e → P (suc fuel) space u (stopped (Stopped.end e) (ended e u)))
      (no_space : (fuel space : ℕ) (u : Unbounded) (i : Instruction Path) (rest : Code Path) (x : Effect) → position u.state ≡ before i rest →
      step p F T u.state i rest ≡ gives x → leb (length x.line) space ≡ false → P (suc fuel) space u (stopped Stopped.output (attempted u)))
      (steps_on : (fuel space : ℕ) (u : Unbounded) (i : Instruction Path) (rest : Code Path) (x : Effect) → position u.state ≡ before i rest →
      step p F T u.state i rest ≡ gives x → leb (length x.line) space ≡ true → (r : Ran) → P fuel (space - length x.line) (advanced u x) r →
      P (suc fuel) space u (one_more x.line r)) where
    pub run_induction : (fuel space : ℕ) (u : Unbounded) → P fuel space u (run p F T fuel space u)
    run_induction zero space u = go (position u.state) refl
      where
        go : (q : Position) → position u.state ≡ q → P zero space u (run p F T zero space u)
        go (at_end e) q = subst (P zero space u) (sym (run_at_end zero space u e q)) (ended_before zero space u e q)
        go (before i rest) q = subst (P zero space u) (sym (run_unfuelled space u i rest q)) (out_of_fuel space u i rest q)
    run_induction (suc fuel) space u = go (position u.state) refl (λ space v. run_induction fuel space v)
      where
        Goal : Type 0
        Goal = P (suc fuel) space u (run p F T (suc fuel) space u)

        lined : (i : Instruction Path) (rest : Code Path) (x : Effect) (t : Bool) → position u.state ≡ before i rest → step p F T u.state i rest ≡ gives x →
            leb (length x.line) space ≡ t → ((space : ℕ) (v : Unbounded) → P fuel space v (run p F T fuel space v)) → Goal
        lined i rest x false q r l k = subst (P (suc fuel) space u) (sym (run_output fuel space u i rest x q r l)) (no_space fuel space u i rest x q r l)
        lined i rest x true q r l k = subst (P (suc fuel) space u) (sym (run_steps fuel space u i rest x q r l)) (steps_on fuel space u i rest x q r l _ (k _ _))

        given : (i : Instruction Path) (rest : Code Path) (o : Result Effect) → position u.state ≡ before i rest → step p F T u.state i rest ≡ o →
            ((space : ℕ) (v : Unbounded) → P fuel space v (run p F T fuel space v)) → Goal
        given i rest (ends e) q r k = subst (P (suc fuel) space u) (sym (run_ends fuel space u i rest e q r)) (ends_now fuel space u i rest e q r)
        given i rest (gives x) q r k = lined i rest x (leb (length x.line) space) q r refl k

        go : (q : Position) → position u.state ≡ q → ((space : ℕ) (v : Unbounded) → P fuel space v (run p F T fuel space v)) → Goal
        go (at_end e) q k = subst (P (suc fuel) space u) (sym (run_at_end (suc fuel) space u e q)) (ended_before (suc fuel) space u e q)
        go (before i rest) q k = given i rest (step p F T u.state i rest) q refl k
