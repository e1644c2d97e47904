-- One step: the check ends with what the unbounded machine's rule ends with, or the commit leaves a related state and shows the same line. Assumes nothing.
use mathlib.Core.Path.{◌≡◌, refl, sym, ap, subst, ◌∙◌}
use mathlib.Core.Logic.{◌⊎◌, inl, inr}
use mathlib.Core.Bool.{Bool, true, false, true≢false}
use mathlib.Core.Option.{some}
use mathlib.Core.List.Memᴰ
use mathlib.Core.List.{List, [], ◌∷◌, ◌++◌}
use Prim.Native.Nat.{ℕ, zero, suc, ◌+◌, ◌≤◌, ◌<◌}
use native.Mathlib.Omega.{arith}
use lib.ListN.{length, get_or, get_elem?, set}
use Rattle.framed.specs.declared.Value.{Value}
use Rattle.framed.specs.Common.{when◌then◌else◌}
use Rattle.framed.specs.Tree.{Base, Expression, Instruction, Code, ◌then◌}
use Rattle.framed.specs.Paths.{Path, from_self, from_program, names_of}
use Rattle.framed.specs.Program.{Program}
use Rattle.framed.specs.Values.{Frame, Heap, with_slots, shown, truth}
use Rattle.framed.specs.Equality.{constants}
use Rattle.framed.specs.Fetch.{get}
use Rattle.framed.specs.Machine.{State, Effect, Result, gives, ends, becomes, defined, base_value, frame_number, put_slot, put, set_slot, with_frames, assign_to, code_number, following, first_of, jump_to, perform, frame_literals, join_signs, right_side, step, after_step}
use Rattle.framed.specs.Machine as M
use Rattle.bounded.specs.Views.{View, frame_at, all_used, entries, frames_used, texts_used, FrameWritten, Takes}
use Rattle.bounded.specs.Fits.{Valid, NamesFit, BaseFits, ExpressionFits, InstructionFits, CodeFits, ProgramFits}
use Rattle.bounded.specs.Store.{Store, Laws}
use Rattle.bounded.specs.Check.{end_of, first_end, Target, target, has_place, slot_end, target_end, check_put, check_expression, Jump, jump_result, ifeq_end, check}
use Rattle.bounded.specs.Bounded.{Bounded, over_store, Produced, value_given, reserved, reserve, assign_at, goes_on, commit_assign, commit_jump, commit, line, ready, step_end}
use Rattle.bounded.specs.Bounded as B
use Rattle.bounded.specs.Relation.{ValueRel, FramesLinked, Simulates, WellFormed, Related}
use Rattle.bounded.proofs.Views.{frame_read, same_view, Keeps, extends_keeps, written_keeps, valid_kept, written_frames, written_texts, set_written}
use Rattle.bounded.proofs.Simulates.{same_rel, value_up, slots_up, simulates_extended, BaseRel, both_give, both_end, base_rel, truth_rel, shown_rel, TargetRel, both_lead, none_leads, target_rel, target_unique, place_rel, set_rel, JumpRel, both_jump, none_jumps, jump_rel, write_both}
use Rattle.bounded.proofs.Validity.{BaseValid, undefined, reads, base_valid}
use Rattle.bounded.proofs.Evaluate.{Done, Evaluates, evaluate_out}
use Rattle.bounded.proofs.Collect.{Reserves, reserves}

-- ---- Put and jump, in two parts as the bounded machine has them

-- what Put does where its walk has ended
put_to : List Frame → Value → Result Target → Result (List Frame)
put_to frames w (gives t) =
    M.◌>>=◌ (defined (get_elem? frames t.frame)) (λ f. M.◌>>=◌ (put_slot f t.name w) (λ g. gives (set frames t.frame g)))
put_to frames w (ends e) = ends e

put_is : (frames : List Frame) (v : Value) (n : ℕ) (ns : List ℕ) (w : Value) → put frames v n ns w ≡ put_to frames w (target frames v n ns)
unfolding put target put_to M.◌>>=◌ frame_number
put_is frames (Value.Int z) n [] w = refl
put_is frames (Value.Text t) n [] w = refl
put_is frames (Value.Code k) n [] w = refl
put_is frames (Value.Frame m) n [] w = refl
put_is frames v n (m ∷ ns) w = step (defined (get frames v n)) (λ u. put_is frames u m ns w)
  where
    step : (o : Result Value) → ((u : Value) → put frames u m ns w ≡ put_to frames w (target frames u m ns)) →
        M.◌>>=◌ o (λ u. put frames u m ns w) ≡ put_to frames w (M.◌>>=◌ o (λ u. target frames u m ns))
    step (gives u) k = k u
    step (ends e) k = refl

jumped : Program → Value → Heap → Result Jump → Result Effect
jumped p Π h (gives j) = becomes (get_or p.codes j.code Code.finished) (first_of p j.code) j.self Π h []
jumped p Π h (ends e) = ends e

jump_is : (p : Program) (Σ Π : Value) (h : Heap) (a b : Base Path) → jump_to p Σ Π h a b ≡ jumped p Π h (jump_result Σ Π h.frames a b)
unfolding jump_to jumped jump_result M.◌>>=◌
jump_is p Σ Π h a b = step (base_value Σ Π h.frames a) (base_value Σ Π h.frames b)
  where
    coded : (c : Result ℕ) (y : Result Value) →
        M.◌>>=◌ c (λ k. M.◌>>=◌ y (λ w. becomes (get_or p.codes k Code.finished) (first_of p k) w Π h []))
        ≡ jumped p Π h (M.◌>>=◌ c (λ k. M.◌>>=◌ y (λ w. gives (record { code = k; self = w }))))
    coded (gives k) (gives w) = refl
    coded (gives k) (ends e) = refl
    coded (ends e) y = refl

    step : (x y : Result Value) →
        M.◌>>=◌ x (λ v. M.◌>>=◌ (code_number v) (λ k. M.◌>>=◌ y (λ w. becomes (get_or p.codes k Code.finished) (first_of p k) w Π h [])))
        ≡ jumped p Π h (M.◌>>=◌ x (λ v. M.◌>>=◌ (code_number v) (λ k. M.◌>>=◌ y (λ w. gives (record { code = k; self = w })))))
    step (gives v) y = coded (code_number v) y
    step (ends e) y = refl

module _ {S : Type 0} (𝓞 : Store S) (p : Program) (𝓛 : Laws 𝓞 p) (fits : ProgramFits p) (F T : ℕ) (small_F : F ≤ entries) (small_T : T ≤ entries) where
  open 𝓞 use {view, assign}

  -- a jump goes to code, with a valid value
  data JumpValid (H : View) : Result Jump → Type 0 where
    stays : JumpValid H (ends 31)
    goes : {k : ℕ} {w : Value} → Valid p H w → JumpValid H (gives (record { code = k; self = w }))

  jump_valid : {s : S} → 𝓛.WellFormed s → {Σ Π : Value} → Valid p (view s) Σ → Valid p (view s) Π → (a b : Base Path) → BaseFits p a → BaseFits p b →
      JumpValid (view s) (jump_result Σ Π (view s).heap.frames a b)
  unfolding jump_result M.◌>>=◌ code_number
  jump_valid {s} ok {Σ} {Π} vΣ vΠ a b f g = step (base_valid 𝓞 p 𝓛 fits s ok Σ Π vΣ vΠ a f) (base_valid 𝓞 p 𝓛 fits s ok Σ Π vΣ vΠ b g)
    where
      at_code : (v : Value) {y : Result Value} → BaseValid p (view s) y →
          JumpValid (view s) (M.◌>>=◌ (code_number v) (λ k. M.◌>>=◌ y (λ w. gives (record { code = k; self = w }))))
      at_code (Value.Int z) y = stays
      at_code (Value.Text t) y = stays
      at_code (Value.Code k) undefined = stays
      at_code (Value.Code k) (reads w) = goes w
      at_code (Value.Frame n) y = stays

      step : {x y : Result Value} → BaseValid p (view s) x → BaseValid p (view s) y →
          JumpValid (view s) (M.◌>>=◌ x (λ v. M.◌>>=◌ (code_number v) (λ k. M.◌>>=◌ y (λ w. gives (record { code = k; self = w })))))
      step undefined y = stays
      step (reads {v = v} x) y = at_code v y

  -- what a rule that does not end gives: c is the check's answer, l and b' the line and the state of the commit, o what the unbounded machine gives; the store showed K,
  -- and there was room for f frames and n texts
  pub record Commits (K : View) (f n : ℕ) (s : State) (c : ℕ) (l : List ℕ) (b' : Bounded S) (o : Result Effect) : Type 1 where
    pub passes : c ≡ 0
    pub effect : Effect
    pub result_is : o ≡ gives effect
    pub same_line : l ≡ effect.line
    pub related : Related 𝓞 p 𝓛 F T b' (after_step s effect)
    pub takes : Takes K (view b'.store) f n

  -- it ends in both, and alike; or it does not
  abbrev pub Performs : View → (f n : ℕ) → State → ℕ → List ℕ → Bounded S → Result Effect → Type 1
  Performs K f n s c l b' o = ((n : ℕ) × (c ≡ suc n) × (o ≡ ends (suc n))) ⊎ Commits K f n s c l b' o

  module _ {b : Bounded S} {s : State} (A : Related 𝓞 p 𝓛 F T b s) (rest : Code Path) (rest_fits : CodeFits p rest) where
    abbrev H : View
    H = view b.store

    ok : WellFormed 𝓞 p 𝓛 F T b
    ok = A.well_formed

    nothing_taken : Takes H H 0 0
    nothing_taken = record { frames = omega arith; texts = omega arith; stays = λ m x e. (x, e); stays_text = λ k bs e. e }

    -- the same heap, with other remaining instructions and another self
    moved : (is : Code Path) → CodeFits p is → (m : ℕ) → m ≤ length p.instructions → {v w : Value} → ValueRel A.relation v w → Valid p H v → (l : List ℕ) →
        Related 𝓞 p 𝓛 F T (goes_on 𝓞 b is m v b.program b.store)
        (after_step s (record { remaining = is; next = m; self = w; program = s.program; heap = s.heap; line = l }))
    unfolding after_step
    moved is f m g r a l = record {
      relation = A.relation;
      well_formed = record {
        store = ok.store;
        self = a;
        program = ok.program;
        remaining = f;
        next = g;
        mark = ok.mark;
        frames_few = ok.frames_few;
        texts_few = ok.texts_few;
      };
      heaps = A.heaps;
      self = r;
      program = A.program;
      remaining = refl;
      next = refl;
      end_mark = A.end_mark;
    }

    -- ---- Show

    show_out : (a : Base Path) →
        Performs H 0 0 s (check p b.self b.program H.heap (Instruction.show a)) (line 𝓞 p b (Instruction.show a)) (commit 𝓞 p b rest (Instruction.show a))
        (perform p b.next s.self s.program s.heap rest (Instruction.show a))
    unfolding check line commit perform end_of value_given M.◌>>=◌
    show_out a = step (base_rel A.heaps A.self A.program a)
      where
        step : {x y : Result Value} → BaseRel A.relation x y →
            Performs H 0 0 s (end_of x) (shown p.literals H.heap.texts (value_given x) ++ (10 ∷ [])) (goes_on 𝓞 b rest (following p b.next) b.self b.program b.store)
            (M.◌>>=◌ y (λ v. becomes rest (following p b.next) s.self s.program s.heap (shown p.literals s.heap.texts v ++ (10 ∷ []))))
        step both_end = inl (30, refl, refl)
        step (both_give r) = inr (record {
          passes = refl;
          effect = _;
          result_is = refl;
          same_line = ap (λ (l : List ℕ). l ++ (10 ∷ [])) (shown_rel A.heaps (constants p) r);
          related = moved rest rest_fits (following p b.next) (fits.nexts b.next) A.self ok.self _;
          takes = nothing_taken;
        })

    -- ---- Jump and ifeq

    jumps : {x y : Result Jump} → JumpRel A.relation x y → JumpValid H x → Performs H 0 0 s (end_of x) [] (commit_jump 𝓞 p b x) (jumped p s.program s.heap y)
    unfolding end_of commit_jump jumped
    jumps none_jumps a = inl (30, refl, refl)
    jumps (both_jump {k = k} r) (goes a) = inr (record { passes = refl; effect = _; result_is = refl; same_line = refl; related = moved _ (fits.codes k) _ (fits.firsts k) r a []; takes = nothing_taken })

    jump_to_out : (a c : Base Path) → BaseFits p a → BaseFits p c →
        Performs H 0 0 s (end_of (jump_result b.self b.program H.heap.frames a c)) []
        (commit_jump 𝓞 p b (jump_result b.self b.program H.heap.frames a c)) (jump_to p s.self s.program s.heap a c)
    jump_to_out a c f g =
        rw (jump_is p s.self s.program s.heap a c)
        (jumps (jump_rel A.heaps A.self A.program a c) (jump_valid ok.store ok.self ok.program a c f g))

    jump_out : (a c : Base Path) → BaseFits p a → BaseFits p c →
        Performs H 0 0 s (check p b.self b.program H.heap (Instruction.jump a c)) (line 𝓞 p b (Instruction.jump a c)) (commit 𝓞 p b rest (Instruction.jump a c))
        (perform p b.next s.self s.program s.heap rest (Instruction.jump a c))
    unfolding check line commit perform
    jump_out a c f g = jump_to_out a c f g

    ifeq_out : (a c d : Base Path) → BaseFits p c → BaseFits p d →
        Performs H 0 0 s (check p b.self b.program H.heap (Instruction.ifeq a c d)) (line 𝓞 p b (Instruction.ifeq a c d)) (commit 𝓞 p b rest (Instruction.ifeq a c d))
        (perform p b.next s.self s.program s.heap rest (Instruction.ifeq a c d))
    unfolding check line commit perform ifeq_end value_given M.◌>>=◌
    ifeq_out a c d f g = step (base_rel A.heaps A.self A.program a)
      where
        j : Result Jump
        j = jump_result b.self b.program H.heap.frames c d

        choose : (t u : Bool) → t ≡ u →
            Performs H 0 0 s (when t then 0 else end_of j) [] (when t then goes_on 𝓞 b rest (following p b.next) b.self b.program b.store else commit_jump 𝓞 p b j)
            (when u then becomes rest (following p b.next) s.self s.program s.heap [] else jump_to p s.self s.program s.heap c d)
        choose t u e = subst (λ (u : Bool). Performs H 0 0 s (when t then 0 else end_of j) [] (when t then goes_on 𝓞 b rest (following p b.next) b.self b.program b.store else commit_jump 𝓞 p b j)
            (when u then becomes rest (following p b.next) s.self s.program s.heap [] else jump_to p s.self s.program s.heap c d)) e (same t)
          where
            same : (t : Bool) →
                Performs H 0 0 s (when t then 0 else end_of j) [] (when t then goes_on 𝓞 b rest (following p b.next) b.self b.program b.store else commit_jump 𝓞 p b j)
                (when t then becomes rest (following p b.next) s.self s.program s.heap [] else jump_to p s.self s.program s.heap c d)
            same true = inr (record { passes = refl; effect = _; result_is = refl; same_line = refl; related = moved rest rest_fits (following p b.next) (fits.nexts b.next) A.self ok.self []; takes = nothing_taken })
            same false = jump_to_out c d f g

        step : {x y : Result Value} → BaseRel A.relation x y →
            Performs H 0 0 s (ifeq_end x (end_of j)) [] (when truth (value_given x) then goes_on 𝓞 b rest (following p b.next) b.self b.program b.store else commit_jump 𝓞 p b j)
            (M.◌>>=◌ y (λ v. when truth v then becomes rest (following p b.next) s.self s.program s.heap [] else jump_to p s.self s.program s.heap c d))
        step both_end = inl (30, refl, refl)
        step (both_give {v = v} {w = w} r) = choose (truth v) (truth w) (truth_rel r)

    -- ---- Assign

    module _ (e : Expression Path) (e_fits : ExpressionFits p e) (frame_room : frames_used H + frame_literals e ≤ F) (text_room : texts_used H + join_signs e ≤ T) where
      r : Produced S
      r = B.evaluate 𝓞 (constants p) b.next b.self b.program e b.store

      checked : ℕ
      checked = check_expression (constants p) b.self b.program H.heap e

      given : Result M.Evaluated
      given = M.evaluate (constants p) b.next s.self s.program e s.heap

      Value? : Type 1
      Value? = Evaluates 𝓞 p 𝓛 fits (frame_literals e) (join_signs e) b.store s.heap A.relation checked r given

      value_out : Value?
      unfolding Value? checked r given
      value_out =
          evaluate_out 𝓞 p 𝓛 fits b.next ok.next A.relation H (all_used s.heap) A.heaps b.self s.self b.program s.program A.self A.program ok.self ok.program
          e e_fits b.store s.heap A.relation (record {
            well_formed = ok.store;
            heaps = A.heaps;
            up = same_rel A.relation;
            ext = same_view H;
            ext' = same_view (all_used s.heap);
            room = omega (arith, frame_room, small_F);
            text_room = omega (arith, text_room, small_T);
          })

      module _ (D : Done 𝓞 p 𝓛 fits (frame_literals e) (join_signs e) b.store s.heap A.relation checked r given) where
        -- over the heaps after the evaluation, with values that are related
        after : (x : S) (h : Heap) (l : List ℕ) → 𝓛.WellFormed x → Keeps (view r.store) (view x) → frames_used (view x) ≡ frames_used (view r.store) →
            texts_used (view x) ≡ texts_used (view r.store) → Simulates D.R' (view x) (all_used h) →
            {v w u t : Value} → ValueRel D.R' v w → Valid p (view x) v → ValueRel D.R' u t → Valid p (view x) u →
            Related 𝓞 p 𝓛 F T (goes_on 𝓞 b rest (following p b.next) v u x) (after_step s (record { remaining = rest; next = following p b.next; self = w; program = t; heap = h; line = l }))
        unfolding after_step
        after x h l 𝓦 k cf ct sim rv av ru au = record {
          relation = D.R';
          well_formed = record {
            store = 𝓦;
            self = av;
            program = au;
            remaining = rest_fits;
            next = fits.nexts b.next;
            mark = ok.mark;
            frames_few = omega (arith, cf, D.taken.frames, frame_room);
            texts_few = omega (arith, ct, D.taken.texts, text_room);
          };
          heaps = sim;
          self = rv;
          program = ru;
          remaining = refl;
          next = refl;
          end_mark = A.end_mark;
        }

        old_valid : {v : Value} → Valid p H v → Valid p (view r.store) v
        old_valid a = valid_kept (extends_keeps D.ext) a

        same_keeps : Keeps (view r.store) (view r.store)
        same_keeps = extends_keeps (same_view (view r.store))

        value_taken : Takes H (view r.store) (frame_literals e) (join_signs e)
        value_taken = record { frames = D.taken.frames; texts = D.taken.texts; stays = λ m x q. (x, D.ext.old_frame m x q); stays_text = D.ext.old_text }

        -- with an empty path: self, or program, becomes the value
        self_becomes : Related 𝓞 p 𝓛 F T (goes_on 𝓞 b rest (following p b.next) r.value b.program r.store)
            (after_step s (record { remaining = rest; next = following p b.next; self = D.value; program = s.program; heap = D.heap; line = [] }))
        self_becomes = after r.store D.heap [] D.well_formed same_keeps refl refl D.heaps D.alike D.valid (value_up D.up A.program) (old_valid ok.program)

        program_becomes : Related 𝓞 p 𝓛 F T (goes_on 𝓞 b rest (following p b.next) b.self r.value r.store)
            (after_step s (record { remaining = rest; next = following p b.next; self = s.self; program = D.value; heap = D.heap; line = [] }))
        program_becomes = after r.store D.heap [] D.well_formed same_keeps refl refl D.heaps (value_up D.up A.self) (old_valid ok.self) D.alike D.valid

        -- along a path: the walk before and after the evaluation comes to the same
        both : Simulates A.relation (view r.store) (all_used D.heap)
        both = simulates_extended A.heaps D.ext D.ext'

        check_side : Simulates A.relation H (all_used D.heap)
        check_side = simulates_extended A.heaps (same_view H) D.ext'

        -- the slot is set or added on both sides
        module _ (m n x : ℕ) (q : A.relation.frame m n) (named : x < length p.names) (l : FramesLinked A.relation H (all_used D.heap) m n) (place : has_place l.left x ≡ true) where
          abbrev slotted : S
          slotted = assign r.store m x r.value

          at_m : frame_at (view r.store) m ≡ some l.left
          at_m = D.ext.old_frame m l.left l.at_left

          done : 𝓛.WellFormed slotted × FrameWritten (view r.store) (view slotted) m (with_slots l.left (set_slot l.left.slots x r.value))
          unfolding has_place
          done = 𝓛.assign_is r.store D.well_formed m x r.value l.left at_m named place D.valid

          w : FrameWritten (view r.store) (view slotted) m (with_slots l.left (set_slot l.left.slots x r.value))
          w = done.1

          same_frames : frames_used (view slotted) ≡ frames_used (view r.store)
          same_frames = written_frames (view r.store) (view slotted) m _ l.left at_m w

          same_texts : texts_used (view slotted) ≡ texts_used (view r.store)
          same_texts = written_texts (view r.store) (view slotted) m _ w

          slot_written : Related 𝓞 p 𝓛 F T (goes_on 𝓞 b rest (following p b.next) b.self b.program slotted)
              (after_step s (record {
                remaining = rest;
                next = following p b.next;
                self = s.self;
                program = s.program;
                heap = with_frames (set D.heap.frames n (with_slots l.right (set_slot l.right.slots x D.value))) D.heap;
                line = [];
              }))
          slot_written =
              after slotted _ [] done.0 (written_keeps w) same_frames same_texts
              (write_both D.heaps (D.up.up_frame m n q) (set_rel x D.alike (slots_up D.up l.alike)) l.same_maker w
              (set_written D.heap n _ l.right l.at_right))
              (value_up D.up A.self) (valid_kept (written_keeps w) (old_valid ok.self))
              (value_up D.up A.program) (valid_kept (written_keeps w) (old_valid ok.program))

          slot_taken : Takes H (view slotted) (frame_literals e) (join_signs e)
          slot_taken = record {
            frames = omega (arith, same_frames, D.taken.frames);
            texts = omega (arith, same_texts, D.taken.texts);
            stays = λ a g z. (written_keeps w).keeps_frame a (g, D.ext.old_frame a g z);
            stays_text = λ k bs z. w.texts k ∙ D.ext.old_text k bs z;
          }

        -- the last name of the walk is one of the program's
        data Named : Result Target → Type 0 where
          named : {t : Target} → t.name < length p.names → Named (gives t)
          lost : {n : ℕ} → Named (ends n)

        target_named : (fs : List Frame) (ns : List ℕ) (n : ℕ) (v : Value) → NamesFit p (n ∷ ns) → Named (target fs v n ns)
        unfolding target NamesFit M.◌>>=◌ frame_number
        target_named fs [] n (Value.Int z) f = lost
        target_named fs [] n (Value.Text t) f = lost
        target_named fs [] n (Value.Code k) f = lost
        target_named fs [] n (Value.Frame m) f = named (f n (Memᴰ.head refl))
        target_named fs (m ∷ ns) n v f = step (defined (get fs v n)) (λ u. target_named fs ns m u (λ x i. f x (Memᴰ.tail i)))
          where
            step : (o : Result Value) → ((u : Value) → Named (target fs u m ns)) → Named (M.◌>>=◌ o (λ u. target fs u m ns))
            step (gives u) k = k u
            step (ends e) k = lost

        Puts : Result Target → Result Target → Type 1
        Puts x y =
            Performs H (frame_literals e) (join_signs e) s (first_end checked (target_end H.heap.frames x)) [] (goes_on 𝓞 b rest (following p b.next) b.self b.program (assign_at 𝓞 x r.value r.store))
            (M.◌>>=◌ (put_to D.heap.frames D.value y) (λ fs. becomes rest (following p b.next) s.self s.program (with_frames fs D.heap) []))

        puts : {x y : Result Target} → TargetRel A.relation x y → Named x → Puts x y
        unfolding Puts put_to target_end assign_at first_end M.◌>>=◌ defined slot_end put_slot has_place
        puts none_leads a = inl (30, rw D.passes refl, refl)
        puts (both_lead {m = m} {n = n} {x = x} q) (named small) =
            rw (D.passes, frame_read H m l.left l.at_left, frame_read (all_used D.heap) n l.right l.at_right)
            (step (has_place l.left x) (has_place l.right x) refl (place_rel x l.left l.right l.alike))
          where
            l : FramesLinked A.relation H (all_used D.heap) m n
            l = check_side.frame_link m n q

            step : (t u : Bool) → has_place l.left x ≡ t → t ≡ u →
                Performs H (frame_literals e) (join_signs e) s (when t then 0 else 35) [] (goes_on 𝓞 b rest (following p b.next) b.self b.program (assign r.store m x r.value))
                (M.◌>>=◌ (M.◌>>=◌ (when u then gives (with_slots l.right (set_slot l.right.slots x D.value)) else ends 35) (λ g. gives (set D.heap.frames n g)))
                (λ fs. becomes rest (following p b.next) s.self s.program (with_frames fs D.heap) []))
            step true true i z = inr (record { passes = refl; effect = _; result_is = refl; same_line = refl; related = slot_written m n x q small l i; takes = slot_taken m n x q small l i })
            step false false i z = inl (34, refl, refl)
            step true false i z = absurd (true≢false z)
            step false true i z = absurd (true≢false (sym z))

        put_out : {u u' : Value} → ValueRel A.relation u u' → (n : ℕ) (ns : List ℕ) → NamesFit p (n ∷ ns) →
            Performs H (frame_literals e) (join_signs e) s (first_end checked (target_end H.heap.frames (target H.heap.frames u n ns))) []
            (goes_on 𝓞 b rest (following p b.next) b.self b.program (assign_at 𝓞 (target (view r.store).heap.frames u n ns) r.value r.store))
            (M.◌>>=◌ (put D.heap.frames u' n ns D.value) (λ fs. becomes rest (following p b.next) s.self s.program (with_frames fs D.heap) []))
        unfolding Puts
        put_out {u} {u'} q n ns f =
            rw (put_is D.heap.frames u' n ns D.value, target_unique check_side (target_rel check_side ns n q) (target_rel both ns n q))
            (puts (target_rel both ns n q) (target_named (view r.store).heap.frames ns n u f))

      assigned : Value? → (path : Path) → NamesFit p (names_of path) →
          Performs H (frame_literals e) (join_signs e) s (first_end checked (check_put b.self b.program H.heap.frames path)) [] (commit_assign 𝓞 b rest (following p b.next) path r)
          (M.◌>>=◌ given (λ q. assign_to s.self s.program rest (following p b.next) path q.value q.heap))
      unfolding Value? check_put commit_assign assign_to first_end M.◌>>=◌ names_of
      assigned (inl z) path f = inl (z.0, rw z.1, rw z.2)
      assigned (inr D) (from_self []) f = inr (record { passes = rw D.passes; effect = record { remaining = rest; next = following p b.next; self = D.value; program = s.program; heap = D.heap; line = [] }; result_is = rw D.result_is; same_line = refl; related = self_becomes D; takes = value_taken D })
      assigned (inr D) (from_self (n ∷ ns)) f = rw D.result_is (put_out D A.self n ns f)
      assigned (inr D) (from_program []) f = inr (record { passes = rw D.passes; effect = record { remaining = rest; next = following p b.next; self = s.self; program = D.value; heap = D.heap; line = [] }; result_is = rw D.result_is; same_line = refl; related = program_becomes D; takes = value_taken D })
      assigned (inr D) (from_program (n ∷ ns)) f = rw D.result_is (put_out D A.program n ns f)

      assign_out : (path : Path) → NamesFit p (names_of path) →
          Performs H (frame_literals e) (join_signs e) s (check p b.self b.program H.heap (Instruction.assign path e)) (line 𝓞 p b (Instruction.assign path e)) (commit 𝓞 p b rest (Instruction.assign path e))
          (perform p b.next s.self s.program s.heap rest (Instruction.assign path e))
      unfolding check line commit perform checked r given
      assign_out path f = assigned value_out path f

    -- ---- The rule of an instruction

    perform_out : (i : Instruction Path) → InstructionFits p i → frames_used H + frame_literals (right_side i) ≤ F → texts_used H + join_signs (right_side i) ≤ T →
        Performs H (frame_literals (right_side i)) (join_signs (right_side i)) s (check p b.self b.program H.heap i) (line 𝓞 p b i) (commit 𝓞 p b rest i) (perform p b.next s.self s.program s.heap rest i)
    unfolding right_side frame_literals join_signs
    perform_out (Instruction.assign path e) f c d = assign_out e f.1 c d path f.0
    perform_out (Instruction.show a) f c d = show_out a
    perform_out (Instruction.jump a j) f c d = jump_out a j f.0 f.1
    perform_out (Instruction.ifeq a j k) f c d = ifeq_out a j k f.1 f.2

  -- ---- A step

  -- after reserve: the state stays related; and it ends in both, and alike, or commits
  pub record Steps (b : Bounded S) (s : State) (i : Instruction Path) (rest : Code Path) : Type 1 where
    pub still : Related 𝓞 p 𝓛 F T (ready 𝓞 F T b i) s
    pub outcome : Performs (view (reserved 𝓞 F T b i)) (frame_literals (right_side i)) (join_signs (right_side i)) s (step_end 𝓞 p F T b i) (line 𝓞 p (ready 𝓞 F T b i) i) (commit 𝓞 p (ready 𝓞 F T b i) rest i) (step p F T s i rest)

  pub step_out : {b : Bounded S} {s : State} → Related 𝓞 p 𝓛 F T b s → (i : Instruction Path) (rest : Code Path) → InstructionFits p i → CodeFits p rest → Steps b s i rest
  unfolding step_end step reserve ready
  step_out {b} {s} A i rest f g = record {
    still = R.related;
    outcome = subst (λ (n : ℕ). Performs (view (reserved 𝓞 F T b i)) (frame_literals (right_side i)) (join_signs (right_side i)) s (ended n) (line 𝓞 p b₁ i) (commit 𝓞 p b₁ rest i) (step p F T s i rest)) (sym R.same)
        (go (M.reserve F T s.heap.frames s.self s.program i) refl);
  }
    where
      R : Reserves 𝓞 p 𝓛 fits F T A i (reserved 𝓞 F T b i)
      R = reserves 𝓞 p 𝓛 fits F T A i

      b₁ : Bounded S
      b₁ = over_store b (reserved 𝓞 F T b i)

      ended : ℕ → ℕ
      ended n = elim n [ zero ↦ check p b.self b.program (view (reserved 𝓞 F T b i)).heap i | suc e ↦ suc e ]

      go : (n : ℕ) → M.reserve F T s.heap.frames s.self s.program i ≡ n →
          Performs (view (reserved 𝓞 F T b i)) (frame_literals (right_side i)) (join_signs (right_side i)) s (ended n)
          (line 𝓞 p b₁ i) (commit 𝓞 p b₁ rest i)
          (elim n [ zero ↦ perform p s.next s.self s.program s.heap rest i | suc e ↦ ends (suc e) ])
      go zero e =
          subst (λ (m : ℕ). Performs (view (reserved 𝓞 F T b i)) (frame_literals (right_side i)) (join_signs (right_side i)) s (ended zero)
          (line 𝓞 p b₁ i) (commit 𝓞 p b₁ rest i) (perform p m s.self s.program s.heap rest i)) A.next
          (perform_out R.related rest g i f (R.frame_room e) (R.text_room e))
      go (suc n) e = inl (n, refl, refl)
