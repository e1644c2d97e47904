-- The unbounded machine's runs agree with the judgment C: a run that stops with 0 has done what C says, and where C holds, runs lead there. Assumes nothing.
use mathlib.Core.Path.{◌≡◌, refl, sym, ◌∙◌, ap, subst}
use mathlib.Core.Logic.{◌⊎◌, inl, inr, ⊎_map}
use mathlib.Core.Bool.{Bool, false}
use mathlib.Core.List.{List, [], ◌++◌}
use Prim.Native.Nat.{ℕ, zero, suc, ◌+◌, ◌-◌, ◌≤◌}
use native.Mathlib.Omega.{arith}
use lib.ListN.{length, length-append}
use lib.Dec.{le→leb}
use Rattle.framed.specs.declared.Value.{Value}
use Rattle.framed.specs.Tree.{Instruction, Code, ◌then◌}
use Rattle.framed.specs.Paths.{Path}
use Rattle.framed.specs.Program.{Program}
use Rattle.framed.specs.Values.{Heap}
use Rattle.framed.specs.Machine.{State, Effect, gives, ends, reserve, perform, step, after_step, marked, right_side, frame_literals, join_signs}
use Rattle.framed.specs.Judgments.{C⇒, c_empty, c_not_empty, Rule, RunsTo}
use Rattle.framed.specs.Answers.{Stopped}
use Rattle.framed.specs.Calls.{Unbounded, advanced, ended, at_end, position_in, position, Ran, stopped, one_more, run, frame_total, text_total}
use Rattle.framed.specs.Theorems.{Done, EndsFull, frames_full, texts_full, Leads, RunJudged}
use Rattle.framed.proofs.General.{to_true}
use Rattle.framed.proofs.StepJudged.{ends_inj, ends≢gives, rule_number, step_judged}
use Rattle.framed.proofs.Runs.{by_reserve, step_is, Room, room, no_frames, no_texts, reserve_room, fuel≢end, output≢end, end_inj, before_is, run_at_end, run_ends, run_steps, run_induction}

-- ---- A step

module _ (p : Program) (F T : ℕ) (s : State) (i : Instruction Path) (rest : Code Path) where
  -- a step that gives an effect had room
  step_room : (x : Effect) → step p F T s i rest ≡ gives x → reserve F T s.heap.frames s.self s.program i ≡ 0
  unfolding by_reserve
  step_room x q = go (reserve_room F T s i) (sym (step_is p F T s i rest) ∙ q)
    where
      go : {n k r : ℕ} → Room F T n k r → by_reserve r (perform p s.next s.self s.program s.heap rest i) ≡ gives x → r ≡ 0
      go (room a b) q = refl
      go (no_frames a) q = absurd (ends≢gives q)
      go (no_texts a b) q = absurd (ends≢gives q)

  step_number : (e : ℕ) → step p F T s i rest ≡ ends e → 31 ≤ e
  unfolding by_reserve
  step_number e q = go (reserve_room F T s i) (sym (step_is p F T s i rest) ∙ q)
    where
      go : {n k r : ℕ} → Room F T n k r → by_reserve r (perform p s.next s.self s.program s.heap rest i) ≡ ends e → 31 ≤ e
      go (room a b) q = rule_number p s.next rest s.self s.program s.heap i q
      go (no_frames a) q = let d = ends_inj q in omega arith
      go (no_texts a b) q = let d = ends_inj q in omega arith

-- ---- A run that stops with 0

-- marked or done with 0: no end mark, and nothing remains
end_is : (s : State) → position s ≡ at_end 0 → (s.remaining ≡ Code.finished) × (s.end_mark ≡ 0)
unfolding position position_in
end_is s q = go s.end_mark s.remaining refl refl q
  where
    go : (e : ℕ) (is : Code Path) → s.end_mark ≡ e → s.remaining ≡ is → position_in e is ≡ at_end 0 → (s.remaining ≡ Code.finished) × (s.end_mark ≡ 0)
    go zero Code.finished a b q = (b, a)
    go zero (i then rest) a b q = absurd (let z : ◌≡◌ {A = ℕ} 0 1 = cc in omega arith)
    go (suc e) is a b q = absurd (let z : ◌≡◌ {A = ℕ} 0 1 = cc in omega arith)

module _ (p : Program) where
  abbrev Judged : Unbounded → Ran → Type 0
  Judged u r =
      let t = r.machine.state in
      RunsTo p u.state t.self t.program t.heap r.bytes × (t.remaining ≡ Code.finished) × (t.end_mark ≡ 0)

  nothing_left : (s : State) → s.remaining ≡ Code.finished → RunsTo p s s.self s.program s.heap []
  nothing_left s e = subst (λ (cs : Code Path). C⇒ p s.next cs s.self s.program s.heap s.self s.program s.heap []) (sym e) c_empty

  one_step : (s : State) (i : Instruction Path) (rest : Code Path) (x : Effect) (Σ Π : Value) (h : Heap) (bs : List ℕ) → s.remaining ≡ (i then rest) → Rule p s rest i x →
      RunsTo p (after_step s x) Σ Π h bs → RunsTo p s Σ Π h (x.line ++ bs)
  unfolding after_step
  one_step s i rest x Σ Π h bs e d c = subst (λ (cs : Code Path). C⇒ p s.next cs s.self s.program s.heap Σ Π h (x.line ++ bs)) (sym e) (c_not_empty d c)

  judged : (F T fuel space : ℕ) (u : Unbounded) → (run p F T fuel space u).stop ≡ Stopped.end 0 → Judged u (run p F T fuel space u)
  unfolding one_more advanced
  judged F T =
      run_induction p F T (λ fuel space u r. r.stop ≡ Stopped.end 0 → Judged u r)
      (λ fuel space u e q s. let d = end_is u.state (q ∙ ap at_end (end_inj s)) in (nothing_left u.state d.0, d.0, d.1))
      (λ space u i rest q s. absurd (fuel≢end s))
      (λ fuel space u i rest e q r s. let z = end_inj s in absurd (let l = step_number p F T u.state i rest e r in let f : ⊥ = omega arith in f))
      (λ fuel space u i rest x q r l s. absurd (output≢end s))
      (λ fuel space u i rest x q r l y h s.
      let b = before_is u.state i rest q in
      let d = (step_judged.goes_on p F T u.state i rest (record { no_mark = b.0; next = b.1; room = step_room p F T u.state i rest x r }) x).0 r in
      let c = h s in
      (one_step u.state i rest x _ _ _ _ b.1 d c.0, c.1, c.2))

-- ---- Where C holds

more : {r : Ran} {n : ℕ} {Σ Π : Value} {h : Heap} {bs : List ℕ} (line : List ℕ) → Done r n Σ Π h bs → Done (one_more line r) (suc n) Σ Π h (line ++ bs)
unfolding one_more
more line d = record { stop = d.stop; made = ap suc d.made; shown = ap (λ (l : List ℕ). line ++ l) d.shown; state = d.state }

-- a machine without end mark, by the parts of its state
abbrev machine : ℕ → Code Path → Value → Value → Heap → List ℕ → ℕ → Bool → Unbounded
machine n cs Σ Π h shown made tried =
    record { state = record { remaining = cs; next = n; self = Σ; program = Π; heap = h; end_mark = 0 }; shown = shown; made = made; tried = tried }

still_full : {F T : ℕ} {r : Ran} (line : List ℕ) → EndsFull F T r → EndsFull F T (one_more line r)
unfolding one_more
still_full line (frames_full i rest e n l) = frames_full i rest e n l
still_full line (texts_full i rest e n l) = texts_full i rest e n l

-- one step more at the front
module _ (p : Program) (n : ℕ) (i : Instruction Path) (cs : Code Path) (Σ Π Σ' Π' : Value) (h h' : Heap) (x : Effect) (bs shown : List ℕ) (made : ℕ) (tried : Bool) where
  abbrev u : Unbounded
  u = machine n (i then cs) Σ Π h shown made tried

  abbrev s : State
  s = u.state

  module _ (d : Rule p s cs i x) (next : Leads p (advanced u x) Σ' Π' h' bs) where
    module _ (F T space : ℕ) (fits : length (x.line ++ bs) ≤ space) where
      abbrev space_left : ℕ
      space_left = space - length x.line

      left_fits : length bs ≤ space_left
      left_fits = omega (arith, length-append x.line bs)

      -- with room the step is made
      steps_on : (fuel : ℕ) → reserve F T h.frames Σ Π i ≡ 0 → run p F T (suc fuel) space u ≡ one_more x.line (run p F T fuel space_left (advanced u x))
      unfolding position position_in
      steps_on fuel r =
          run_steps p F T fuel space u i cs x refl ((step_judged.goes_on p F T s i cs (record { no_mark = refl; next = refl; room = r }) x).1 d)
          (to_true (le→leb (length x.line) space (omega (arith, length-append x.line bs))))

      -- without, the run ends
      ends_now : (fuel e : ℕ) → reserve F T h.frames Σ Π i ≡ suc e → run p F T (suc fuel) space u ≡ stopped (Stopped.end (suc e)) (ended (suc e) u)
      unfolding position position_in by_reserve
      ends_now fuel e r = run_ends p F T fuel space u i cs (suc e) refl (step_is p F T s i cs ∙ ap (λ (r : ℕ). by_reserve r (perform p n Σ Π h cs i)) r)

      done_or_full_then : (fuel : ℕ) → suc next.steps ≤ fuel → Done (run p F T fuel space u) (suc next.steps) Σ' Π' h' (x.line ++ bs) ⊎ EndsFull F T (run p F T fuel space u)
      unfolding ended marked frame_total text_total
      done_or_full_then zero l = absurd (let z : ⊥ = omega arith in z)
      done_or_full_then (suc fuel) l = go (reserve_room F T s i) refl refl refl
        where
          go : {n k r : ℕ} → Room F T n k r → n ≡ frame_total s + frame_literals (right_side i) → k ≡ text_total s + join_signs (right_side i) →
              reserve F T h.frames Σ Π i ≡ r → Done (run p F T (suc fuel) space u) (suc next.steps) Σ' Π' h' (x.line ++ bs) ⊎ EndsFull F T (run p F T (suc fuel) space u)
          go (room a b) e f r = rw (steps_on fuel r) (⊎_map (more x.line) (still_full x.line) (next.done_or_full F T fuel space_left (omega arith) left_fits))
          go (no_frames a) e f r = inr (rw (ends_now fuel 35 r) (frames_full i cs refl refl (omega arith)))
          go (no_texts a b) e f r = inr (rw (ends_now fuel 36 r) (texts_full i cs refl refl (omega arith)))

      done_then : (fuel : ℕ) → frame_total s + frame_literals (right_side i) + next.frames ≤ F → text_total s + join_signs (right_side i) + next.texts ≤ T → suc next.steps ≤ fuel →
          Done (run p F T fuel space u) (suc next.steps) Σ' Π' h' (x.line ++ bs)
      done_then zero a b l = absurd (let z : ⊥ = omega arith in z)
      done_then (suc fuel) a b l = go (reserve_room F T s i) refl refl refl
        where
          go : {n k r : ℕ} → Room F T n k r → n ≡ frame_total s + frame_literals (right_side i) → k ≡ text_total s + join_signs (right_side i) →
              reserve F T h.frames Σ Π i ≡ r → Done (run p F T (suc fuel) space u) (suc next.steps) Σ' Π' h' (x.line ++ bs)
          go (room c d) e f r = rw (steps_on fuel r) (more x.line (next.done F T fuel space_left (omega arith) (omega arith) (omega arith) left_fits))
          go (no_frames c) e f r = absurd (let z : ⊥ = omega arith in z)
          go (no_texts c d) e f r = absurd (let z : ⊥ = omega arith in z)

    then_leads : Leads p u Σ' Π' h' (x.line ++ bs)
    then_leads = record {
      steps = suc next.steps;
      done_or_full = λ F T fuel space l fits. done_or_full_then F T space fits fuel l;
      frames = frame_total s + frame_literals (right_side i) + next.frames;
      texts = text_total s + join_signs (right_side i) + next.texts;
      done = λ F T fuel space a b l fits. done_then F T space fits fuel a b l;
    }

module _ (p : Program) where
  done_at_once : (n : ℕ) (Σ Π : Value) (h : Heap) (shown : List ℕ) (made : ℕ) (tried : Bool) (F T fuel space : ℕ) →
      Done (run p F T fuel space (machine n Code.finished Σ Π h shown made tried)) 0 Σ Π h []
  unfolding position position_in
  done_at_once n Σ Π h shown made tried F T fuel space =
      rw (run_at_end p F T fuel space (machine n Code.finished Σ Π h shown made tried) 0 refl) (record { stop = refl; made = refl; shown = refl; state = refl })

  leads_from : {n : ℕ} {cs : Code Path} {Σ Π Σ' Π' : Value} {h h' : Heap} {bs : List ℕ} → C⇒ p n cs Σ Π h Σ' Π' h' bs → (shown : List ℕ) (made : ℕ) (tried : Bool) →
      Leads p (machine n cs Σ Π h shown made tried) Σ' Π' h' bs
  unfolding advanced after_step
  leads_from (c_empty {n} {Σ} {Π} {h}) shown made tried = record {
    steps = 0;
    done_or_full = λ F T fuel space l fits. inl (done_at_once n Σ Π h shown made tried F T fuel space);
    frames = 0;
    texts = 0;
    done = λ F T fuel space a b l fits. done_at_once n Σ Π h shown made tried F T fuel space;
  }
  leads_from (c_not_empty {c} {n} {n'} {cs} {cs'} {Σ} {Π} {Σ'} {Π'} {Σ''} {Π''} {h} {h'} {h''} {line} {bs} d e) shown made tried =
      then_leads p n c cs Σ Π Σ'' Π'' h h'' (record { remaining = cs'; next = n'; self = Σ'; program = Π'; heap = h'; line = line }) bs shown made tried d (leads_from e (shown ++ line) (suc made) false)

  -- for any machine without end mark
  leads : (u : Unbounded) (Σ Π : Value) (h : Heap) (bs : List ℕ) → u.state.end_mark ≡ 0 → RunsTo p u.state Σ Π h bs → Leads p u Σ Π h bs
  leads u Σ Π h bs m c =
      let s = u.state in
      subst (λ (e : ℕ). Leads p (record { state = record { remaining = s.remaining; next = s.next; self = s.self; program = s.program; heap = s.heap; end_mark = e }; shown = u.shown; made = u.made; tried = u.tried }) Σ Π h bs)
      (sym m) (leads_from c u.shown u.made u.tried)

  -- two results are those of one run
  one_result : (s : State) (Σ Π Σ' Π' : Value) (h h' : Heap) (bs bs' : List ℕ) → RunsTo p s Σ Π h bs → RunsTo p s Σ' Π' h' bs' → (Σ ≡ Σ') × (Π ≡ Π') × (h ≡ h') × (bs ≡ bs')
  one_result s Σ Π Σ' Π' h h' bs bs' c c' =
      let a = leads_from c [] 0 false in
      let b = leads_from c' [] 0 false in
      let x = a.done (a.frames + b.frames) (a.texts + b.texts) (a.steps + b.steps) (length bs + length bs') (omega arith) (omega arith) (omega arith) (omega arith) in
      let y = b.done (a.frames + b.frames) (a.texts + b.texts) (a.steps + b.steps) (length bs + length bs') (omega arith) (omega arith) (omega arith) (omega arith) in
      let e = sym x.state ∙ y.state in
      (ap (λ (t : State). t.self) e, ap (λ (t : State). t.program) e, ap (λ (t : State). t.heap) e, sym x.shown ∙ y.shown)

pub run_judged : RunJudged
run_judged = record {
  done = λ p F T fuel space u e.
      let c = judged p F T fuel space u e in
      let t = (run p F T fuel space u).machine.state in
      (c.0, record { stop = e; made = refl; shown = refl; state = λ i. record { remaining = c.1 i; next = t.next; self = t.self; program = t.program; heap = t.heap; end_mark = c.2 i } });
  leads = leads;
  one_result = one_result;
}
