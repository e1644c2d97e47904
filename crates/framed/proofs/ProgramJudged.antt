-- The unbounded machine's runs of the program of an accepted source agree with P-Run: its frame is evaluated alike with any values for Σ and Π, since no path stands
-- outside code, and Fetch along Main, start leads to the code at which the machine starts. Assumes nothing.
use mathlib.Core.Path.{◌≡◌, refl, sym, ◌∙◌, ap, subst}
use mathlib.Core.Logic.{◌↔◌}
use mathlib.Core.Bool.{Bool, true, false, true≢false}
use mathlib.Core.List.{List, [], ◌∷◌, ◌++◌, append_assoc, append-nil}
use mathlib.Core.Option.{Option, none, some}
use Prim.Native.Nat.{ℕ, zero, suc, ◌<◌}
use native.Mathlib.Omega.{arith}
use lib.IntN.{pos}
use lib.ListN.{length, get_elem?, get_or, set, length-append}
use lib.Seq.{set-append_seam}
use lib.Dec.{eqb, eqb-zero-suc, eqb-suc-zero, eqb-suc-suc}
use Rattle.framed.specs.declared.Value.{Value}
use Rattle.framed.specs.declared.Text.{Text}
use Rattle.framed.specs.Common.{any, bytes}
use Rattle.framed.specs.Tokens.{Operator}
use Rattle.framed.specs.Symbols.{number_in}
use Rattle.framed.specs.Tree.{Written, Base, Expression, Slots, Code}
use Rattle.framed.specs.Paths.{Path, outside_code, within_slot, resolve_base, resolve_expression, resolve_slots, program_place}
use Rattle.framed.specs.Meaning.{base_pieces, expression_pieces, slots_pieces, pieces, outside, misplaced, slot_of, frame_in, code_in, main_start}
use Rattle.framed.specs.Program.{Program, program_of}
use Rattle.framed.specs.Values.{Slot, Frame, Heap, new_frame, empty_heap}
use Rattle.framed.specs.Equality.{Constants, constants}
use Rattle.framed.specs.Fetch.{in_slots, in_frame, frame_of}
use Rattle.framed.specs.Machine.{Evaluated, Filled, gives, base_value, evaluate, fill, with_frame, with_frames, first_of, start_from, start, State}
use Rattle.framed.specs.Machine as M
use Rattle.framed.specs.Judgments.{Fetch⇒, fetch₁, fetch₂, b_code, Operates, o_plus, o_minus, o_times, o_over, o_less, o_join, o_equal, o_and, o_or, E⇒, e_base, e_op, e_not₁, e_not₂, e_frame, Slots⇒, s_none, s_slot, C⇒, start_path, P⇒, p_run, RunsTo}
use Rattle.framed.specs.Calls.{at_start}
use Rattle.framed.specs.Theorems.{ProgramJudged, AcceptedJudged}
use Rattle.framed.specs.Accepted.{SourceFits}
use Rattle.framed.proofs.General.{none≢some, some_inj, none_append}
use Rattle.framed.proofs.Lists.{get_seam}
use Rattle.framed.proofs.Accepted.{accepted_fits, accepted_start}
use Rattle.framed.proofs.FetchExact.{fetch_exact}
use Rattle.framed.proofs.StepJudged.{gives_inj, evaluate_sound, evaluate_complete}
use Rattle.framed.proofs.RunJudged.{run_judged}

-- ---- An expression adds frames behind those that are there

record Grows (h h' : Heap) : Type 0 where
  more : List Frame
  frames_are : h'.frames ≡ h.frames ++ more

stays : (h : Heap) → Grows h h
stays h = record { more = []; frames_are = sym (append-nil h.frames) }

grows_on : {h h' h'' : Heap} → Grows h h' → Grows h' h'' → Grows h h''
grows_on {h} a b = record {
  more = a.more ++ b.more;
  frames_are = b.frames_are ∙ ap (λ (l : List Frame). l ++ b.more) a.frames_are ∙ append_assoc h.frames a.more b.more;
}

operation_grows : {K : Constants} {h : Heap} {o : Operator} {v w u : Value} {h' : Heap} → Operates K h o v w u h' → Grows h h'
operation_grows {h} (o_plus t) = stays h
operation_grows {h} (o_minus t) = stays h
operation_grows {h} (o_times t) = stays h
operation_grows {h} (o_over n t) = stays h
operation_grows {h} o_less = stays h
operation_grows {h} (o_join l) = record { more = []; frames_are = sym (append-nil h.frames) }
operation_grows {h} o_equal = stays h
operation_grows {h} o_and = stays h
operation_grows {h} o_or = stays h

-- the frames after a frame expression whose slots were filled: the new one stands behind those before
frames_after : (n : ℕ) (h h₀ : Heap) (f : List Slot) (more : List Frame) → h₀.frames ≡ (with_frame n h).frames ++ more →
    (with_frames (set h₀.frames (length h.frames) (new_frame n f)) h₀).frames ≡ h.frames ++ new_frame n f ∷ more
unfolding with_frame with_frames
frames_after n h h₀ f more e =
    ap (λ (l : List Frame). set l (length h.frames) (new_frame n f)) (e ∙ append_assoc h.frames (new_frame n [] ∷ []) more)
    ∙ set-append_seam h.frames (new_frame n []) more (new_frame n f)

mutual
  expression_grows : {K : Constants} {ν : ℕ} {Σ Π v : Value} {e : Expression Path} {h h' : Heap} → E⇒ K ν Σ Π e h v h' → Grows h h'
  expression_grows {h} (e_base d) = stays h
  expression_grows (e_op c d o) = operation_grows o
  expression_grows {h} (e_not₁ d) = stays h
  expression_grows {h} (e_not₂ d n) = stays h
  expression_grows {ν} {h} (e_frame {h₀ = h₀} {f = f} p d q) =
      let g = slots_grow d in
      record { more = new_frame ν f ∷ g.more; frames_are = rw (q, p) (frames_after ν h h₀ f g.more g.frames_are) }

  slots_grow : {K : Constants} {ν : ℕ} {Σ Π : Value} {ss : Slots Path} {h h' : Heap} {f : List Slot} → Slots⇒ K ν Σ Π ss h f h' → Grows h h'
  slots_grow {h} s_none = stays h
  slots_grow (s_slot c p d) = grows_on (expression_grows c) (slots_grow d)

-- ---- A slot of a frame expression has the value of its own expression

get_more : {A : Type 0} (l m : List A) (n : ℕ) (a : A) → get_elem? l n ≡ some a → get_elem? (l ++ m) n ≡ some a
get_more [] m n a e = absurd (none≢some e)
get_more (x ∷ l) m zero a e = e
get_more (x ∷ l) m (suc n) a e = get_more l m n a e

-- the element at the seam is another one
get_other : {A : Type 0} (l : List A) (a b : A) (m : List A) (n : ℕ) → length l < n → get_elem? (l ++ a ∷ m) n ≡ get_elem? (l ++ b ∷ m) n
get_other [] a b m zero lt = absurd (let z : ⊥ = omega arith in z)
get_other [] a b m (suc n) lt = refl
get_other (x ∷ l) a b m zero lt = refl
get_other (x ∷ l) a b m (suc n) lt = get_other l a b m n (omega arith)

eqb_sym : (m n : ℕ) → eqb m n ≡ eqb n m
eqb_sym zero zero = refl
eqb_sym zero (suc n) = eqb-zero-suc n ∙ sym (eqb-suc-zero n)
eqb_sym (suc m) zero = eqb-suc-zero m ∙ sym (eqb-zero-suc m)
eqb_sym (suc m) (suc n) = eqb-suc-suc m n ∙ eqb_sym m n ∙ sym (eqb-suc-suc n m)

module _ (K : Constants) (ν : ℕ) (Σ Π : Value) where
  -- the slots f were filled from the heap h to the heap h', and the slot x among them from the expression e
  record Stored (x : ℕ) (e : Expression Path) (h : Heap) (f : List Slot) (h' : Heap) : Type 0 where
    before : Heap
    after : Heap
    value : Value
    earlier : Grows h before
    evaluates : E⇒ K ν Σ Π e before value after
    later : Grows after h'
    there : in_slots f x ≡ some value

  slot_stored : {ss : Slots Path} {h h' : Heap} {f : List Slot} (x : ℕ) (e : Expression Path) → Slots⇒ K ν Σ Π ss h f h' → slot_of x ss ≡ some e → Stored x e h f h'
  unfolding slot_of in_slots
  slot_stored x e s_none q = absurd (none≢some q)
  slot_stored x e (s_slot {x = n} {e = e₁} {ss = ss} {h = h} {h' = h₁} {h'' = h₂} {v = v} {s = s} {f = f} c p d) q =
      rw p (go (eqb x n) (eqb_sym n x) q (λ r. slot_stored x e d r))
    where
      go : (t : Bool) → eqb n x ≡ t → ◌≡◌ {A = Option (Expression Path)} (elim t [ true ↦ some e₁ | false ↦ slot_of x ss ]) (some e) →
          (slot_of x ss ≡ some e → Stored x e h₁ f h₂) → Stored x e h (record { name = n; value = v } ∷ f) h₂
      go true t q k = record {
        before = h;
        after = h₁;
        value = v;
        earlier = stays h;
        evaluates = subst (λ (y : Expression Path). E⇒ K ν Σ Π y h v h₁) (some_inj q) c;
        later = slots_grow d;
        there = rw (t, in_slots);
      }
      go false t q k =
          let r = k q in
          record {
            before = r.before;
            after = r.after;
            value = r.value;
            earlier = grows_on (expression_grows c) r.earlier;
            evaluates = r.evaluates;
            later = r.later;
            there = rw (t, in_slots) r.there;
          }

  -- ---- Fetch along two names

  code_value : {k : ℕ} {is : Code Path} {h h' : Heap} {v : Value} → E⇒ K ν Σ Π (Expression.base (Base.code k is)) h v h' → v ≡ Value.Code k
  code_value (e_base b_code) = refl

  -- the frame that a frame expression makes, with a code in the slot x
  record Made (x k : ℕ) (h : Heap) (v : Value) (h' : Heap) : Type 0 where
    frame : Frame
    value_is : v ≡ Value.Frame (length h.frames)
    held : get_elem? h'.frames (length h.frames) ≡ some frame
    there : in_frame frame x ≡ some (Value.Code k)

  code_made : {ss : Slots Path} {h h' : Heap} {v : Value} (x k : ℕ) (is : Code Path) → E⇒ K ν Σ Π (Expression.frame ss) h v h' →
      slot_of x ss ≡ some (Expression.base (Base.code k is)) → Made x k h v h'
  unfolding in_frame
  code_made x k is (e_frame {h = h} {h₀ = h₀} {f = f} p d q) r =
      let g = slots_grow d in
      let t = slot_stored x _ d r in
      record {
        frame = new_frame ν f;
        value_is = ap Value.Frame p;
        held = rw (q, p, frames_after ν h h₀ f g.more g.frames_are) (get_seam h.frames (new_frame ν f) g.more);
        there = t.there ∙ ap some (code_value t.evaluates);
      }

  two_names : {ss ss' : Slots Path} {h h' : Heap} {v : Value} (x y k : ℕ) (is : Code Path) → E⇒ K ν Σ Π (Expression.frame ss) h v h' →
      slot_of x ss ≡ some (Expression.frame ss') → slot_of y ss' ≡ some (Expression.base (Base.code k is)) → Fetch⇒ h'.frames v (x ∷ y ∷ []) (Value.Code k)
  unfolding frame_of in_frame with_frame
  two_names x y k is (e_frame {h = h} {h₀ = h₀} {f = f} p d e) q r =
      let g = slots_grow d in
      let t = slot_stored x _ d q in
      let m = code_made y k is t.evaluates r in
      let filled = g.frames_are ∙ append_assoc h.frames (new_frame ν [] ∷ []) g.more in
      let below : length h.frames < length t.before.frames =
      rw (t.earlier.frames_are, length-append (h.frames ++ (new_frame ν [] ∷ [])) t.earlier.more, length-append h.frames (new_frame ν [] ∷ [])) (omega arith) in
      let inner : get_elem? (h.frames ++ new_frame ν [] ∷ g.more) (length t.before.frames) ≡ some m.frame =
      ap (λ (l : List Frame). get_elem? l (length t.before.frames)) (sym filled ∙ t.later.frames_are)
      ∙ get_more t.after.frames t.later.more _ _ m.held in
      let after = frames_after ν h h₀ f g.more g.frames_are in
      rw (e, p, after)
      (fetch₂ (get_seam h.frames (new_frame ν f) g.more) (t.there ∙ ap some m.value_is)
      (fetch₂ (get_other h.frames (new_frame ν f) (new_frame ν []) g.more _ below ∙ inner) m.there fetch₁))

-- ---- Main.start

-- a written Main frame with a code in start
record MainStart (x y k : ℕ) (ss : Slots Path) : Type 0 where
  main : Slots Path
  is : Code Path
  main_is : slot_of x ss ≡ some (Expression.frame main)
  start_is : slot_of y main ≡ some (Expression.base (Base.code k is))

main_start_is : (names : List (List ℕ)) (ss : Slots Path) (k : ℕ) → main_start names ss ≡ some k → MainStart (number_in names (bytes "Main")) (number_in names (bytes "start")) k ss
unfolding main_start slot_of frame_in code_in
main_start_is names ss k e = outer (slot_of x ss) refl e
  where
    x : ℕ
    x = number_in names (bytes "Main")

    y : ℕ
    y = number_in names (bytes "start")

    inner : (main : Slots Path) (o : Option (Expression Path)) → slot_of x ss ≡ some (Expression.frame main) → slot_of y main ≡ o → code_in o ≡ some k → MainStart x y k ss
    inner main none p q e = absurd (none≢some e)
    inner main (some (Expression.base (Base.integer z))) p q e = absurd (none≢some e)
    inner main (some (Expression.base (Base.string j))) p q e = absurd (none≢some e)
    inner main (some (Expression.base (Base.path w))) p q e = absurd (none≢some e)
    inner main (some (Expression.base (Base.code j is))) p q e =
        record { main = main; is = is; main_is = p; start_is = q ∙ ap (λ (n : ℕ). some (Expression.base (Base.code n is))) (some_inj e) }
    inner main (some (Expression.not b)) p q e = absurd (none≢some e)
    inner main (some (Expression.operation o a b)) p q e = absurd (none≢some e)
    inner main (some (Expression.frame us)) p q e = absurd (none≢some e)

    outer : (o : Option (Expression Path)) → slot_of x ss ≡ o → code_in (slot_of y (frame_in o)) ≡ some k → MainStart x y k ss
    outer none p e = absurd (none≢some e)
    outer (some (Expression.base b)) p e = absurd (none≢some e)
    outer (some (Expression.not b)) p e = absurd (none≢some e)
    outer (some (Expression.operation o a b)) p e = absurd (none≢some e)
    outer (some (Expression.frame main)) p e = inner main (slot_of y main) p refl e

-- with further frames behind
frame_more : (frames more : List Frame) (v : Value) (f : Frame) → frame_of frames v ≡ some f → frame_of (frames ++ more) v ≡ some f
unfolding frame_of
frame_more frames more (Value.Int z) f e = absurd (none≢some e)
frame_more frames more (Value.Text t) f e = absurd (none≢some e)
frame_more frames more (Value.Code k) f e = absurd (none≢some e)
frame_more frames more (Value.Frame n) f e = get_more frames more n f e

fetch_more : (frames more : List Frame) {v w : Value} {ns : List ℕ} → Fetch⇒ frames v ns w → Fetch⇒ (frames ++ more) v ns w
fetch_more frames more fetch₁ = fetch₁
fetch_more frames more (fetch₂ {v = v} {f = f} p q d) = fetch₂ (frame_more frames more v f p) q (fetch_more frames more d)

-- ---- Outside code there are only constants and frames of them, which any Σ and Π give alike

module _ (K : Constants) (ν : ℕ) where
  base_given : (b : Base Written) (ns : List ℕ) → any misplaced (base_pieces (outside_code ns) b) ≡ false →
      (v : Value) × ((Σ Π : Value) (frames : List Frame) → base_value Σ Π frames (resolve_base (outside_code ns) b) ≡ gives v)
  unfolding base_pieces misplaced outside resolve_base any base_value
  base_given (Base.integer z) ns e = (Value.Int z, λ Σ Π frames. refl)
  base_given (Base.string k) ns e = (Value.Text (Text.Literal k), λ Σ Π frames. refl)
  base_given (Base.path p) ns e = absurd (true≢false e)
  base_given (Base.code k is) ns e = (Value.Code k, λ Σ Π frames. refl)

  mutual
    unfolding base_pieces misplaced outside within_slot resolve_base any evaluate M.◌>>=◌

    expression_given : (e : Expression Written) (ns ms : List ℕ) → any misplaced (expression_pieces (outside_code ns) (outside_code ms) e) ≡ false → (h : Heap) →
        (r : Evaluated) × ((Σ Π : Value) → evaluate K ν Σ Π (resolve_expression (outside_code ns) (outside_code ms) e) h ≡ gives r)
    expression_given (Expression.base b) ns ms c h =
        let g = base_given b ns c in
        (record { value = g.0; heap = h }, λ Σ Π. rw (g.1 Σ Π h.frames))
    expression_given (Expression.not b) ns ms c h = absurd (true≢false c)
    expression_given (Expression.operation o a b) ns ms c h = absurd (true≢false c)
    expression_given (Expression.frame ss) ns ms c h =
        let g = slots_given ss ms c (with_frame ν h) in (
          record {
            value = Value.Frame (length h.frames);
            heap = with_frames (set g.0.heap.frames (length h.frames) (new_frame ν g.0.slots)) g.0.heap;
          },
          λ Σ Π. rw (g.1 Σ Π),
        )

    slots_given : (ss : Slots Written) (ns : List ℕ) → any misplaced (slots_pieces (outside_code ns) ss) ≡ false → (h : Heap) →
        (r : Filled) × ((Σ Π : Value) → fill K ν Σ Π (resolve_slots (outside_code ns) ss) h ≡ gives r)
    slots_given Slots.no_slots ns c h = (record { slots = []; heap = h }, λ Σ Π. refl)
    slots_given (Slots.slot n e ss) ns c h =
        let d = none_append misplaced (expression_pieces (outside_code ns) (outside_code (ns ++ (n ∷ []))) e) (slots_pieces (outside_code ns) ss) c in
        let a = expression_given e ns (ns ++ (n ∷ [])) d.0 h in
        let b = slots_given ss ns d.1 a.0.heap in
        (record { slots = record { name = n; value = a.0.value } ∷ b.0.slots; heap = b.0.heap }, λ Σ Π. rw (a.1 Σ Π, b.1 Σ Π))

-- ---- The program of an accepted source

module _ (source : List ℕ) (F : ℕ) (p : Program) (fits : SourceFits source F p) where
  -- what its frame is evaluated to, with any values for Σ and Π
  given : (r : Evaluated) × ((Σ Π : Value) → evaluate (constants p) 0 Σ Π (Expression.frame p.slots) empty_heap ≡ gives r)
  unfolding pieces base_pieces resolve_base program_of
  given =
      let g = expression_given (constants p) 0 (Expression.frame fits.tree) [] [] fits.in_place empty_heap in
      let e : p.slots ≡ resolve_slots program_place fits.tree = ap (λ (q : Program). q.slots) (sym fits.program_is) in
      (g.0, λ Σ Π. ap (λ (ss : Slots Path). evaluate (constants p) 0 Σ Π (Expression.frame ss) empty_heap) e ∙ g.1 Σ Π)

  abbrev Π₁ : Value
  Π₁ = given.0.value

  abbrev h₁ : Heap
  h₁ = given.0.heap

  start_is : start p ≡ start_from p (gives given.0)
  unfolding start
  start_is = ap (start_from p) (given.1 (Value.Int (pos 0)) (Value.Int (pos 0)))

  evaluates : E⇒ (constants p) 0 (Value.Int (pos 0)) (Value.Int (pos 0)) (Expression.frame p.slots) empty_heap Π₁ h₁
  evaluates = evaluate_sound (constants p) 0 _ _ (Expression.frame p.slots) empty_heap given.0 (given.1 _ _)

  fetched : Fetch⇒ (with_frame 0 h₁).frames Π₁ (start_path p) (Value.Code p.start)
  unfolding start_path with_frame
  fetched =
      let m = main_start_is p.names p.slots p.start (accepted_start source F p fits) in
      fetch_more h₁.frames (new_frame 0 [] ∷ []) (two_names (constants p) 0 _ _ _ _ p.start m.is evaluates m.main_is m.start_is)

  -- ---- P-Run is C from the start

  abbrev From : ℕ → Value → Heap → Value → Value → Heap → List ℕ → Type 0
  From k Π h Σ' Π' h' bs = C⇒ p (first_of p k) (get_or p.codes k Code.finished) (Value.Frame (length h.frames)) Π (with_frame 0 h) Σ' Π' h' bs

  one_code : (k : ℕ) → Fetch⇒ (with_frame 0 h₁).frames Π₁ (start_path p) (Value.Code k) → k ≡ p.start
  one_code k d =
      let e = some_inj (sym ((fetch_exact (with_frame 0 h₁).frames Π₁ (start_path p) _).1 d) ∙ (fetch_exact (with_frame 0 h₁).frames Π₁ (start_path p) _).1 fetched) in
      cc

  at_the_start : {Σ Π : Value} {h : Heap} {bs : List ℕ} → P⇒ p Σ Π h bs → From p.start Π₁ h₁ Σ Π h bs
  at_the_start (p_run {Σ₀} {Π₀} {Σ} {Π} {Σ'} {Π'} {h} {h'} {k} {bs} d e f c) =
      let same : record { value = Π; heap = h } ≡ given.0 = gives_inj (sym (evaluate_complete (constants p) 0 Σ₀ Π₀ d) ∙ given.1 Σ₀ Π₀) in
      let code = one_code k (subst (λ (r : Evaluated). Fetch⇒ (with_frame 0 r.heap).frames r.value (start_path p) (Value.Code k)) same f) in
      subst (λ (n : ℕ). From n Π₁ h₁ Σ' Π' h' bs) code
      (subst (λ (r : Evaluated). From k r.value r.heap Σ' Π' h' bs) same
      (subst (λ (v : Value). C⇒ p (first_of p k) (get_or p.codes k Code.finished) v Π (with_frame 0 h) Σ' Π' h' bs) e c))

  from_start : (Σ Π : Value) (h : Heap) (bs : List ℕ) → P⇒ p Σ Π h bs ↔ RunsTo p (start p) Σ Π h bs
  unfolding start_from
  from_start Σ Π h bs = (
    λ d. subst (λ (s : State). RunsTo p s Σ Π h bs) (sym start_is) (at_the_start d),
    λ c. p_run evaluates refl fetched (subst (λ (s : State). RunsTo p s Σ Π h bs) start_is c),
  )

  no_mark : (start p).end_mark ≡ 0
  unfolding start_from
  no_mark = ap (λ (s : State). s.end_mark) start_is

  program_judged : ProgramJudged p
  unfolding at_start start_from
  program_judged = record {
    start_fetched = subst (λ (s : State). Fetch⇒ s.heap.frames s.program (start_path p) (Value.Code p.start)) (sym start_is) fetched;
    from_start = from_start;
    done = λ F T fuel space e. (from_start _ _ _ _).1 (run_judged.done p F T fuel space (at_start p) e).0;
    leads = λ Σ Π h bs d. run_judged.leads p (at_start p) Σ Π h bs no_mark ((from_start Σ Π h bs).0 d);
  }

pub accepted_judged : AcceptedJudged
accepted_judged m source F T p z e =
    let a = accepted_fits m source F T z in
    program_judged source F p (subst (SourceFits source F) (some_inj (sym a.1 ∙ e)) a.2)
