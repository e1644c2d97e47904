-- Runs and lists of calls of the unbounded machine: what they keep. Assumes nothing.
use mathlib.Core.Path.{◌≡◌, refl, sym, ◌∙◌, ap, ap₂, subst}
use mathlib.Core.Logic.{◌↔◌}
use mathlib.Core.Bool.{Bool, true, false, ◌||◌, false≢true}
use mathlib.Core.List.{List, [], ◌∷◌, ◌++◌, append_assoc, append-nil}
use mathlib.Core.Option.{Option, none, some}
use Prim.Native.Nat.{ℕ, zero, suc, ◌+◌, ◌-◌, ◌≤◌, ◌<◌}
use native.Mathlib.Omega.{arith}
use lib.IntN.{ℤ, pos, negsuc}
use lib.ListN.{length, length-append, get_elem?}
use lib.Dec.{leb, ltb}
use borrow.Author.Tests.{leb-true, le-leb}
use Rattle.framed.specs.declared.Value.{Value}
use Rattle.framed.specs.Common.{when◌then◌else◌}
use Rattle.framed.specs.Tokens.{Operator, in_range}
use Rattle.framed.specs.Tree.{Base, Expression, Slots, Instruction, Code, ◌then◌}
use Rattle.framed.specs.Paths.{Path, from_self, from_program}
use Rattle.framed.specs.Program.{Program}
use Rattle.framed.specs.Values.{Frame, Heap, truth, join_bytes}
use Rattle.framed.specs.Equality.{Constants, constants}
use Rattle.framed.specs.Fetch.{fetch, get}
use Rattle.framed.specs.Machine.{State, Effect, Result, gives, ends, defined, base_value, integer_in, integer_result, quotient, new_text, operate, evaluate, fill, frame_number, holds, put_slot, put, assign_to, code_number, jump_to, following, perform, step, after_step, marked, right_side, frame_literals}
use Rattle.framed.specs.Machine as M
use Rattle.framed.specs.Answers.{Stopped}
use Rattle.framed.specs.Calls.{Unbounded, at_start, advanced, ended, attempted, Position, at_end, before, position, Ran, stopped, one_more, run, frame_total, Call, run_call, collect_call, first_report, calls}
use Rattle.framed.specs.Demands.{NextEnds, gives_end, steps_in, bytes_in}
use Rattle.framed.proofs.StepJudged.{ends_inj}
use Rattle.framed.proofs.Runs.{by_reserve, step_is, Room, room, no_frames, no_texts, reserve_room, end≢fuel, output≢fuel, fuel≢end, output≢end, end_inj, before_is, before_at, run_at_end, run_unfuelled, run_ends, run_output, run_steps, run_induction}
use Rattle.bounded.specs.UnboundedRuns.{followed_by, UnboundedRuns, UnboundedCalls}

-- ---- Which numbers end a step

-- whatever ends it is one of 31 to 35
abbrev pub Within : {A : Type 0} → Result A → Type 0
Within (gives a) = Unit
Within (ends e) = (31 ≤ e) × (e ≤ 35)

pub within_bind : {A B : Type 0} (m : Result A) (f : A → Result B) → Within m → ((a : A) → Within (f a)) → Within (M.◌>>=◌ m f)
unfolding M.◌>>=◌
within_bind (gives a) f w k = k a
within_bind (ends e) f w k = w

within_defined : {A : Type 0} (o : Option A) → Within (defined o)
unfolding defined
within_defined none = (omega arith, omega arith)
within_defined (some a) = tt

within_if : {A : Type 0} (t : Bool) (a b : Result A) → Within a → Within b → Within (when t then a else b)
within_if true a b v w = v
within_if false a b v w = w

pub base_within : (Σ Π : Value) (frames : List Frame) (b : Base Path) → Within (base_value Σ Π frames b)
unfolding base_value
base_within Σ Π frames (Base.integer z) = tt
base_within Σ Π frames (Base.string k) = tt
base_within Σ Π frames (Base.code k is) = tt
base_within Σ Π frames (Base.path (from_self ns)) = within_defined (fetch frames Σ ns)
base_within Σ Π frames (Base.path (from_program ns)) = within_defined (fetch frames Π ns)

integer_within : (v : Value) → Within (integer_in v)
unfolding integer_in
integer_within (Value.Int z) = tt
integer_within (Value.Text t) = (omega arith, omega arith)
integer_within (Value.Code k) = (omega arith, omega arith)
integer_within (Value.Frame n) = (omega arith, omega arith)

two_integers : {A : Type 0} (v w : Value) (f : ℤ → ℤ → Result A) → ((y z : ℤ) → Within (f y z)) →
    Within (M.◌>>=◌ (integer_in v) (λ y. M.◌>>=◌ (integer_in w) (λ z. f y z)))
two_integers v w f k = within_bind (integer_in v) _ (integer_within v) (λ y. within_bind (integer_in w) _ (integer_within w) (λ z. k y z))

result_within : (z : ℤ) (h : Heap) → Within (integer_result z h)
unfolding integer_result
result_within z h = within_if (in_range z) _ _ tt (omega arith, omega arith)

quotient_within : (y z : ℤ) → Within (quotient y z)
unfolding quotient
quotient_within y (pos zero) = (omega arith, omega arith)
quotient_within y (pos (suc n)) = tt
quotient_within y (negsuc n) = tt

pub operate_within : (cs : Constants) (o : Operator) (v w : Value) (h : Heap) → Within (operate cs o v w h)
unfolding operate new_text
operate_within cs Operator.plus v w h = two_integers v w _ (λ y z. result_within _ h)
operate_within cs Operator.minus v w h = two_integers v w _ (λ y z. result_within _ h)
operate_within cs Operator.times v w h = two_integers v w _ (λ y z. result_within _ h)
operate_within cs Operator.over v w h = two_integers v w _ (λ y z. within_bind (quotient y z) _ (quotient_within y z) (λ q. result_within q h))
operate_within cs Operator.less v w h = two_integers v w _ (λ y z. tt)
operate_within cs Operator.join v w h = within_if (leb (length (join_bytes cs.literals h.texts v w)) 64) _ _ tt (omega arith, omega arith)
operate_within cs Operator.equal v w h = tt
operate_within cs Operator.and v w h = tt
operate_within cs Operator.or v w h = tt

mutual
  unfolding evaluate

  evaluate_within : (e : Expression Path) (cs : Constants) (m : ℕ) (Σ Π : Value) (h : Heap) → Within (evaluate cs m Σ Π e h)
  evaluate_within (Expression.base b) cs m Σ Π h = within_bind (base_value Σ Π h.frames b) _ (base_within Σ Π h.frames b) (λ v. tt)
  evaluate_within (Expression.not b) cs m Σ Π h = within_bind (base_value Σ Π h.frames b) _ (base_within Σ Π h.frames b) (λ v. tt)
  evaluate_within (Expression.operation o a b) cs m Σ Π h =
      within_bind (base_value Σ Π h.frames a) _ (base_within Σ Π h.frames a) (λ v.
      within_bind (base_value Σ Π h.frames b) _ (base_within Σ Π h.frames b) (λ w. operate_within cs o v w h))
  evaluate_within (Expression.frame ss) cs m Σ Π h = within_bind (fill cs m Σ Π ss (M.with_frame m h)) _ (fill_within ss cs m Σ Π (M.with_frame m h)) (λ r. tt)

  fill_within : (ss : Slots Path) (cs : Constants) (m : ℕ) (Σ Π : Value) (h : Heap) → Within (fill cs m Σ Π ss h)
  fill_within Slots.no_slots cs m Σ Π h = tt
  fill_within (Slots.slot n e ss) cs m Σ Π h =
      within_bind (evaluate cs m Σ Π e h) _ (evaluate_within e cs m Σ Π h) (λ r.
      within_bind (fill cs m Σ Π ss r.heap) _ (fill_within ss cs m Σ Π r.heap) (λ q. tt))

number_within : (v : Value) → Within (frame_number v)
unfolding frame_number
number_within (Value.Int z) = (omega arith, omega arith)
number_within (Value.Text t) = (omega arith, omega arith)
number_within (Value.Code k) = (omega arith, omega arith)
number_within (Value.Frame n) = tt

slot_within : (f : Frame) (n : ℕ) (w : Value) → Within (put_slot f n w)
unfolding put_slot
slot_within f n w = within_if (holds f n || ltb (length f.slots) 16) (gives _) (ends 35) tt (omega arith, omega arith)

put_within : (frames : List Frame) (v : Value) (n : ℕ) (ns : List ℕ) (w : Value) → Within (put frames v n ns w)
unfolding put
put_within frames v n [] w =
    within_bind (frame_number v) _ (number_within v) (λ k.
    within_bind (defined (get_elem? frames k)) _ (within_defined (get_elem? frames k)) (λ f.
    within_bind (put_slot f n w) _ (slot_within f n w) (λ g. tt)))
put_within frames v n (m ∷ ns) w = within_bind (defined (get frames v n)) _ (within_defined (get frames v n)) (λ u. put_within frames u m ns w)

assign_within : (Σ Π : Value) (rest : Code Path) (m : ℕ) (path : Path) (v : Value) (h : Heap) → Within (assign_to Σ Π rest m path v h)
unfolding assign_to
assign_within Σ Π rest m (from_self []) v h = tt
assign_within Σ Π rest m (from_self (n ∷ ns)) v h = within_bind (put h.frames Σ n ns v) _ (put_within h.frames Σ n ns v) (λ fs. tt)
assign_within Σ Π rest m (from_program []) v h = tt
assign_within Σ Π rest m (from_program (n ∷ ns)) v h = within_bind (put h.frames Π n ns v) _ (put_within h.frames Π n ns v) (λ fs. tt)

code_within : (v : Value) → Within (code_number v)
unfolding code_number
code_within (Value.Int z) = (omega arith, omega arith)
code_within (Value.Text t) = (omega arith, omega arith)
code_within (Value.Code k) = tt
code_within (Value.Frame n) = (omega arith, omega arith)

jump_within : (p : Program) (Σ Π : Value) (h : Heap) (a b : Base Path) → Within (jump_to p Σ Π h a b)
unfolding jump_to
jump_within p Σ Π h a b =
    within_bind (base_value Σ Π h.frames a) _ (base_within Σ Π h.frames a) (λ v.
    within_bind (code_number v) _ (code_within v) (λ k.
    within_bind (base_value Σ Π h.frames b) _ (base_within Σ Π h.frames b) (λ w. tt)))

perform_within : (p : Program) (m : ℕ) (Σ Π : Value) (h : Heap) (rest : Code Path) (i : Instruction Path) → Within (perform p m Σ Π h rest i)
unfolding perform
perform_within p m Σ Π h rest (Instruction.assign path e) =
    within_bind (evaluate (constants p) m Σ Π e h) _ (evaluate_within e (constants p) m Σ Π h) (λ r. assign_within Σ Π rest (following p m) path r.value r.heap)
perform_within p m Σ Π h rest (Instruction.show a) = within_bind (base_value Σ Π h.frames a) _ (base_within Σ Π h.frames a) (λ v. tt)
perform_within p m Σ Π h rest (Instruction.jump a b) = jump_within p Σ Π h a b
perform_within p m Σ Π h rest (Instruction.ifeq a b c) =
    within_bind (base_value Σ Π h.frames a) _ (base_within Σ Π h.frames a) (λ v. within_if (truth v) _ _ tt (jump_within p Σ Π h b c))

rule_ends : (p : Program) (s : State) (i : Instruction Path) (rest : Code Path) (e : ℕ) →
    perform p s.next s.self s.program s.heap rest i ≡ ends e → (31 ≤ e) × (e ≤ 35)
rule_ends p s i rest e q = subst Within q (perform_within p s.next s.self s.program s.heap rest i)

pub step_ends : (p : Program) (F T : ℕ) (s : State) (i : Instruction Path) (rest : Code Path) (e : ℕ) → step p F T s i rest ≡ ends e → (31 ≤ e) × (e ≤ 37)
unfolding by_reserve
step_ends p F T s i rest e q = go (reserve_room F T s i) (sym (step_is p F T s i rest) ∙ q)
  where
    go : {n k r : ℕ} → Room F T n k r → by_reserve r (perform p s.next s.self s.program s.heap rest i) ≡ ends e → (31 ≤ e) × (e ≤ 37)
    go (room h g) q = let w = rule_ends p s i rest e q in let a = w.0 in let b = w.1 in (omega arith, omega arith)
    go (no_frames h) q = let a = ends_inj q in (omega arith, omega arith)
    go (no_texts h g) q = let a = ends_inj q in (omega arith, omega arith)

module _ (p : Program) (F T : ℕ) where
  -- ---- Within the fuel and the space

  abbrev Fitting : ℕ → ℕ → Ran → Type 0
  Fitting fuel space r = (r.steps ≤ fuel) × (length r.bytes ≤ space)

  within : (fuel space : ℕ) (u : Unbounded) → Fitting fuel space (run p F T fuel space u)
  unfolding one_more
  within =
      run_induction p F T (λ fuel space u r. Fitting fuel space r)
      (λ fuel space u e q. (omega arith, omega arith))
      (λ space u i rest q. (omega arith, omega arith))
      (λ fuel space u i rest e q r. (omega arith, omega arith))
      (λ fuel space u i rest x q r l. (omega arith, omega arith))
      (λ fuel space u i rest x q r l y h.
      let a = h.0 in
      let b = h.1 in
      (omega arith, omega (arith, length-append x.line y.bytes, leb-true (length x.line) space l)))

  -- ---- Fuel spent

  fuel_spent : (fuel space : ℕ) (u : Unbounded) → (run p F T fuel space u).stop ≡ Stopped.fuel → (run p F T fuel space u).steps ≡ fuel
  unfolding one_more
  fuel_spent =
      run_induction p F T (λ fuel space u r. r.stop ≡ Stopped.fuel → r.steps ≡ fuel)
      (λ fuel space u e q s. absurd (end≢fuel s))
      (λ space u i rest q s. refl)
      (λ fuel space u i rest e q r s. absurd (end≢fuel s))
      (λ fuel space u i rest x q r l s. absurd (output≢fuel s))
      (λ fuel space u i rest x q r l y h s. ap suc (h s))

  -- the machine that it leaves is at an instruction
  fuel_before : (fuel space : ℕ) (u : Unbounded) → (run p F T fuel space u).stop ≡ Stopped.fuel →
      (i : Instruction Path) × (rest : Code Path) × (position (run p F T fuel space u).machine.state ≡ before i rest)
  unfolding one_more
  fuel_before =
      run_induction p F T (λ fuel space u r. r.stop ≡ Stopped.fuel → (i : Instruction Path) × (rest : Code Path) × (position r.machine.state ≡ before i rest))
      (λ fuel space u e q s. absurd (end≢fuel s))
      (λ space u i rest q s. (i, rest, q))
      (λ fuel space u i rest e q r s. absurd (end≢fuel s))
      (λ fuel space u i rest x q r l s. absurd (output≢fuel s))
      (λ fuel space u i rest x q r l y h s. h s)

  -- ---- A run with more fuel goes on from there

  followed_none : (u : Unbounded) (q : Ran) → followed_by (stopped Stopped.fuel u) q ≡ q
  unfolding followed_by
  followed_none u q = λ i. record { stop = q.stop; steps = (let e : 0 + q.steps ≡ q.steps = omega arith in e) i; bytes = q.bytes; machine = q.machine }

  followed_more : (line : List ℕ) (r q : Ran) → one_more line (followed_by r q) ≡ followed_by (one_more line r) q
  unfolding followed_by one_more
  followed_more line r q = λ i. record {
    stop = q.stop;
    steps = (let e : suc (r.steps + q.steps) ≡ suc r.steps + q.steps = omega arith in e) i;
    bytes = sym (append_assoc line r.bytes q.bytes) i;
    machine = q.machine;
  }

  goes_on : (k j space : ℕ) (u : Unbounded) → (run p F T k space u).stop ≡ Stopped.fuel →
      run p F T (k + j) space u ≡ followed_by (run p F T k space u) (run p F T j (space - length (run p F T k space u).bytes) (run p F T k space u).machine)
  unfolding one_more
  goes_on k j =
      (λ space u. run_induction p F T
      (λ k space u r. r.stop ≡ Stopped.fuel → run p F T (k + j) space u ≡ followed_by r (run p F T j (space - length r.bytes) r.machine))
      (λ fuel space u e q s. absurd (end≢fuel s))
      (λ space u i rest q s.
      ap (λ (n : ℕ). run p F T n space u) (let e : 0 + j ≡ j = omega arith in e)
      ∙ ap (λ (n : ℕ). run p F T j n u) (let e : space ≡ space - 0 = omega arith in e) ∙ sym (followed_none u _))
      (λ fuel space u i rest e q r s. absurd (end≢fuel s))
      (λ fuel space u i rest x q r l s. absurd (output≢fuel s))
      (λ fuel space u i rest x q r l y h s.
      ap (λ (n : ℕ). run p F T n space u) (let e : suc fuel + j ≡ suc (fuel + j) = omega arith in e)
      ∙ run_steps p F T (fuel + j) space u i rest x q r l
      ∙ ap (one_more x.line) (h s)
      ∙ followed_more x.line y _
      ∙ ap (λ (n : ℕ). followed_by (one_more x.line y) (run p F T j n y.machine))
      (let e : space - length x.line - length y.bytes ≡ space - length (x.line ++ y.bytes) = omega (arith, length-append x.line y.bytes) in e))
      k space u)

  -- ---- A run that ends by number keeps its earlier shows

  keeps_shows : (fuel space : ℕ) (u : Unbounded) (e : ℕ) → (run p F T fuel space u).stop ≡ Stopped.end e →
      ((run p F T (run p F T fuel space u).steps space u).steps ≡ (run p F T fuel space u).steps)
      × ((run p F T (run p F T fuel space u).steps space u).bytes ≡ (run p F T fuel space u).bytes)
  unfolding one_more
  keeps_shows fuel space u e =
      run_induction p F T
      (λ fuel space u r. r.stop ≡ Stopped.end e → ((run p F T r.steps space u).steps ≡ r.steps) × ((run p F T r.steps space u).bytes ≡ r.bytes))
      (λ fuel space u e q s. (ap (λ (r : Ran). r.steps) (run_at_end p F T zero space u e q), ap (λ (r : Ran). r.bytes) (run_at_end p F T zero space u e q)))
      (λ space u i rest q s. absurd (fuel≢end s))
      (λ fuel space u i rest e q r s. (ap (λ (r : Ran). r.steps) (run_unfuelled p F T space u i rest q), ap (λ (r : Ran). r.bytes) (run_unfuelled p F T space u i rest q)))
      (λ fuel space u i rest x q r l s. absurd (output≢end s))
      (λ fuel space u i rest x q r l y h s.
      let g = run_steps p F T y.steps space u i rest x q r l in
      (ap (λ (r : Ran). r.steps) g ∙ ap suc (h s).0, ap (λ (r : Ran). r.bytes) g ∙ ap (λ (bs : List ℕ). x.line ++ bs) (h s).1))
      fuel space u

  -- ---- 36 exactly where the frames do not fit

  then_inj : {i j : Instruction Path} {rest more : Code Path} → ◌≡◌ {A = Code Path} (i then rest) (j then more) → (i ≡ j) × (rest ≡ more)
  then_inj e = (cc, cc)

  -- it ends at once with e exactly when the step gives that end
  ends_at_once : (fuel space : ℕ) (u : Unbounded) (i : Instruction Path) (rest : Code Path) (e : ℕ) → position u.state ≡ before i rest →
      (((run p F T (suc fuel) space u).stop ≡ Stopped.end e) × ((run p F T (suc fuel) space u).steps ≡ 0)) ↔ (step p F T u.state i rest ≡ ends e)
  unfolding one_more
  ends_at_once fuel space u i rest e q = (
    (λ h. step_is_end (step p F T u.state i rest) refl h),
    (λ g. (ap (λ (r : Ran). r.stop) (run_ends p F T fuel space u i rest e q g), ap (λ (r : Ran). r.steps) (run_ends p F T fuel space u i rest e q g))),
  )
    where
      r : Ran
      r = run p F T (suc fuel) space u

      not_now : (x : Effect) (t : Bool) → step p F T u.state i rest ≡ gives x → leb (length x.line) space ≡ t → (r.stop ≡ Stopped.end e) × (r.steps ≡ 0) → ⊥
      not_now x false g l h = output≢end (sym (ap (λ (r : Ran). r.stop) (run_output p F T fuel space u i rest x q g l)) ∙ h.0)
      not_now x true g l h =
          let z : suc (run p F T fuel (space - length x.line) (advanced u x)).steps ≡ 0 = sym (ap (λ (r : Ran). r.steps) (run_steps p F T fuel space u i rest x q g l)) ∙ h.1 in
          omega arith

      step_is_end : (o : Result Effect) → step p F T u.state i rest ≡ o → (r.stop ≡ Stopped.end e) × (r.steps ≡ 0) → step p F T u.state i rest ≡ ends e
      step_is_end (ends d) g h = g ∙ ap ends (end_inj (sym (ap (λ (r : Ran). r.stop) (run_ends p F T fuel space u i rest d q g)) ∙ h.0))
      step_is_end (gives x) g h = absurd (not_now x (leb (length x.line) space) g refl h)

  no_fuel : (space : ℕ) (u : Unbounded) → ((run p F T zero space u).steps ≡ 0) × ((run p F T zero space u).bytes ≡ []) × ((run p F T zero space u).machine ≡ u)
  no_fuel space u = go (position u.state) refl
    where
      go : (q : Position) → position u.state ≡ q → ((run p F T zero space u).steps ≡ 0) × ((run p F T zero space u).bytes ≡ []) × ((run p F T zero space u).machine ≡ u)
      go (at_end e) q = rw (run_at_end p F T zero space u e q) (refl, refl, refl)
      go (before i rest) q = rw (run_unfuelled p F T space u i rest q) (refl, refl, refl)

  makes_step : (space : ℕ) (u : Unbounded) (i : Instruction Path) (rest : Code Path) (x : Effect) → position u.state ≡ before i rest →
      step p F T u.state i rest ≡ gives x → length x.line ≤ space →
      ((run p F T 1 space u).steps ≡ 1) × ((run p F T 1 space u).bytes ≡ x.line) × ((run p F T 1 space u).machine ≡ advanced u x)
  unfolding one_more
  makes_step space u i rest x q g l =
      let r = run_steps p F T 0 space u i rest x q g (le-leb (length x.line) space l) in
      let n = no_fuel (space - length x.line) (advanced u x) in
      (ap (λ (r : Ran). r.steps) r ∙ ap suc n.0, ap (λ (r : Ran). r.bytes) r ∙ ap (λ (bs : List ℕ). x.line ++ bs) n.1 ∙ append-nil x.line, ap (λ (r : Ran). r.machine) r ∙ n.2)

  -- a step ends with 36 exactly where the frames do not fit
  step_full : (s : State) (i : Instruction Path) (rest : Code Path) → (step p F T s i rest ≡ ends 36) ↔ (F < frame_total s + frame_literals (right_side i))
  unfolding by_reserve
  step_full s i rest = go (reserve_room F T s i) refl (step_is p F T s i rest)
    where
      n : ℕ
      n = frame_total s + frame_literals (right_side i)

      go : {a c b : ℕ} → Room F T a c b → a ≡ n → step p F T s i rest ≡ by_reserve b (perform p s.next s.self s.program s.heap rest i) →
          (step p F T s i rest ≡ ends 36) ↔ (F < n)
      go (room l k) e g =
          ((λ h. absurd (let w = rule_ends p s i rest 36 (sym g ∙ h) in let c = w.1 in let z : ⊥ = omega arith in z)), (λ h. absurd (let z : ⊥ = omega arith in z)))
      go (no_frames l) e g = ((λ h. omega arith), (λ h. g))
      go (no_texts l k) e g = ((λ h. absurd (let c = ends_inj (sym g ∙ h) in let z : ⊥ = omega arith in z)), (λ h. absurd (let z : ⊥ = omega arith in z)))

  frames_full : (fuel k space : ℕ) (u : Unbounded) (i : Instruction Path) (rest : Code Path) → k < fuel →
      (run p F T k space u).stop ≡ Stopped.fuel → (run p F T k space u).machine.state.remaining ≡ (i then rest) →
      (((run p F T fuel space u).stop ≡ Stopped.end 36) × ((run p F T fuel space u).steps ≡ k)) ↔
      (F < frame_total (run p F T k space u).machine.state + frame_literals (right_side i))
  unfolding followed_by
  frames_full fuel k space u i rest l s c = (
    (λ h. full.0 (sym (ap (λ (r : Ran). r.stop) same) ∙ h.0, steps_none h.1)),
    (λ h. let a = full.1 h in (ap (λ (r : Ran). r.stop) same ∙ a.0, ap (λ (r : Ran). r.steps) same ∙ (let b = a.1 in omega (arith, spent)))),
  )
    where
      r : Ran
      r = run p F T k space u

      j : ℕ
      j = fuel - suc k

      q : Ran
      q = run p F T (suc j) (space - length r.bytes) r.machine

      same : run p F T fuel space u ≡ followed_by r q
      same = ap (λ (n : ℕ). run p F T n space u) (let e : fuel ≡ k + suc (fuel - suc k) = omega arith in e) ∙ goes_on k (suc j) space u s

      spent : r.steps ≡ k
      spent = fuel_spent k space u s

      at_it : position r.machine.state ≡ before i rest
      at_it =
          let b = fuel_before k space u s in
          let d = before_is r.machine.state b.0 b.1 b.2 in
          let e = then_inj (sym d.1 ∙ c) in
          b.2 ∙ ap₂ before e.0 e.1

      full : ((q.stop ≡ Stopped.end 36) × (q.steps ≡ 0)) ↔ (F < frame_total r.machine.state + frame_literals (right_side i))
      full =
          let a = ends_at_once j (space - length r.bytes) r.machine i rest 36 at_it in
          let c = step_full r.machine.state i rest in
          ((λ h. c.0 (a.0 h)), (λ h. a.1 (c.1 h)))

      steps_none : (run p F T fuel space u).steps ≡ k → q.steps ≡ 0
      steps_none h = let e : r.steps + q.steps ≡ k = sym (ap (λ (r : Ran). r.steps) same) ∙ h in omega (arith, spent, e)

  -- ---- What a run adds

  made_more : (fuel space : ℕ) (u : Unbounded) → (run p F T fuel space u).steps + u.made ≡ (run p F T fuel space u).machine.made
  unfolding one_more advanced ended attempted
  made_more =
      run_induction p F T (λ fuel space u r. r.steps + u.made ≡ r.machine.made)
      (λ fuel space u e q. omega arith)
      (λ space u i rest q. omega arith)
      (λ fuel space u i rest e q r. omega arith)
      (λ fuel space u i rest x q r l. omega arith)
      (λ fuel space u i rest x q r l y h. let e : y.steps + suc u.made ≡ y.machine.made = h in let g : suc y.steps + u.made ≡ y.steps + suc u.made = omega arith in g ∙ e)

  shown_more : (fuel space : ℕ) (u : Unbounded) → u.shown ++ (run p F T fuel space u).bytes ≡ (run p F T fuel space u).machine.shown
  unfolding one_more advanced ended attempted
  shown_more =
      run_induction p F T (λ fuel space u r. u.shown ++ r.bytes ≡ r.machine.shown)
      (λ fuel space u e q. append-nil u.shown)
      (λ space u i rest q. append-nil u.shown)
      (λ fuel space u i rest e q r. append-nil u.shown)
      (λ fuel space u i rest x q r l. append-nil u.shown)
      (λ fuel space u i rest x q r l y h. sym (append_assoc u.shown x.line y.bytes) ∙ h)

  -- Where the machine stands: the next instruction is untried; or it was tried and gives an effect, and waits for space; or it was tried and gives the end that is marked
  data Stands (u : Unbounded) : Type 0 where
    untried : u.state.end_mark ≡ 0 → u.tried ≡ false → Stands u
    waits : (i : Instruction Path) (rest : Code Path) (x : Effect) → u.state.end_mark ≡ 0 → u.state.remaining ≡ (i then rest) →
        step p F T u.state i rest ≡ gives x → Stands u
    is_ended : (i : Instruction Path) (rest : Code Path) (e : ℕ) → u.state.end_mark ≡ e → u.tried ≡ true → u.state.remaining ≡ (i then rest) →
        step p F T u.state i rest ≡ ends e → Stands u

  -- a step does not look at the end mark
  step_marked : (s : State) (d : ℕ) (i : Instruction Path) (rest : Code Path) → step p F T (marked d s) i rest ≡ step p F T s i rest
  unfolding step marked
  step_marked s d i rest = refl

  run_stands : (fuel space : ℕ) (u : Unbounded) → Stands u → Stands (run p F T fuel space u).machine
  unfolding one_more advanced ended attempted marked after_step
  run_stands =
      run_induction p F T (λ fuel space u r. Stands u → Stands r.machine)
      (λ fuel space u e q s. s)
      (λ space u i rest q s. s)
      (λ fuel space u i rest e q r s. is_ended i rest e refl refl (before_is u.state i rest q).1 (step_marked u.state e i rest ∙ r))
      (λ fuel space u i rest x q r l s. let b = before_is u.state i rest q in waits i rest x b.0 b.1 r)
      (λ fuel space u i rest x q r l y h s. h (untried (before_is u.state i rest q).0 refl))

  -- where it stands, an end stands exactly when the next instruction was tried and gives that end
  next_is : (s : State) (i : Instruction Path) (rest : Code Path) → s.remaining ≡ (i then rest) → (e : ℕ) → NextEnds p F T s e → step p F T s i rest ≡ ends e
  next_is s i rest c e (gives_end j more d g) =
      let k = then_inj (sym c ∙ d) in
      ap₂ (λ (i : Instruction Path) (rest : Code Path). step p F T s i rest) k.0 k.1 ∙ g

  standing : (u : Unbounded) → Stands u → (e : ℕ) → 31 ≤ e → (u.state.end_mark ≡ e) ↔ ((u.tried ≡ true) × NextEnds p F T u.state e)
  standing u (untried m t) e l = ((λ q. absurd (let z : ⊥ = omega arith in z)), (λ h. absurd (false≢true (sym t ∙ h.0))))
  standing u (waits i rest x m c g) e l =
      ((λ q. absurd (let z : ⊥ = omega arith in z)), (λ h. absurd (let k = sym g ∙ next_is u.state i rest c e h.1 in let z : ◌≡◌ {A = ℕ} 0 1 = cc in omega arith)))
  standing u (is_ended i rest d m t c g) e l =
      ((λ q. (t, gives_end i rest c (g ∙ ap ends (sym m ∙ q)))), (λ h. m ∙ (let k = sym g ∙ next_is u.state i rest c e h.1 in ends_inj k)))

  -- ---- A list of calls

  calls_steps : (cs : List Call) (u : Unbounded) → steps_in (calls p F T cs u).reports + u.made ≡ (calls p F T cs u).machine.made
  unfolding calls first_report steps_in
  calls_steps [] u = omega arith
  calls_steps (run_call fuel space ∷ cs) u =
      let r = run p F T fuel space u in
      let a : (run p F T fuel space u).steps + u.made ≡ (run p F T fuel space u).machine.made = made_more fuel space u in
      let b = calls_steps cs r.machine in
      (let e : (run p F T fuel space u).steps + steps_in (calls p F T cs (run p F T fuel space u).machine).reports + u.made
      ≡ steps_in (calls p F T cs (run p F T fuel space u).machine).reports + (run p F T fuel space u).machine.made = omega arith in e) ∙ b
  calls_steps (collect_call ∷ cs) u = calls_steps cs u

  calls_bytes : (cs : List Call) (u : Unbounded) → u.shown ++ bytes_in (calls p F T cs u).reports ≡ (calls p F T cs u).machine.shown
  unfolding calls first_report bytes_in
  calls_bytes [] u = append-nil u.shown
  calls_bytes (run_call fuel space ∷ cs) u =
      let r = run p F T fuel space u in
      sym (append_assoc u.shown r.bytes (bytes_in (calls p F T cs r.machine).reports))
      ∙ ap (λ (bs : List ℕ). bs ++ bytes_in (calls p F T cs r.machine).reports) (shown_more fuel space u)
      ∙ calls_bytes cs r.machine
  calls_bytes (collect_call ∷ cs) u = calls_bytes cs u

  calls_stand : (cs : List Call) (u : Unbounded) → Stands u → Stands (calls p F T cs u).machine
  unfolding calls first_report
  calls_stand [] u s = s
  calls_stand (run_call fuel space ∷ cs) u s = calls_stand cs _ (run_stands fuel space u s)
  calls_stand (collect_call ∷ cs) u s = calls_stand cs u s

pub unbounded_runs : UnboundedRuns
unbounded_runs = record {
  within = within;
  fuel_spent = fuel_spent;
  goes_on = goes_on;
  keeps_shows = λ p F T fuel space e u s. keeps_shows p F T fuel space u e s;
  frames_full = frames_full;
  ends_at_once = λ p F T fuel space u i rest e m c. ends_at_once p F T fuel space u i rest e (before_at u.state i rest m c);
  makes_step = λ p F T space u i rest x m c g l. makes_step p F T space u i rest x (before_at u.state i rest m c) g l;
  rule_ends = rule_ends;
  step_ends = step_ends;
}

pub unbounded_calls : UnboundedCalls
unfolding at_start
unbounded_calls = record {
  steps = λ p F T cs. (let e : steps_in (calls p F T cs (at_start p)).reports ≡ steps_in (calls p F T cs (at_start p)).reports + 0 = omega arith in e) ∙ calls_steps p F T cs (at_start p);
  bytes = λ p F T cs. calls_bytes p F T cs (at_start p);
  ends_stand = λ p F T cs z e l h. standing p F T (calls p F T cs (at_start p)).machine (calls_stand p F T cs (at_start p) (untried z refl)) e l;
}
