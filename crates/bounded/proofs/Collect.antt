-- A collection and reserve: what is reached is equally many on both sides, in use afterwards is what is reached, and 36 and 37 come in both or in none. Assumes nothing.
use mathlib.Core.Path.{◌≡◌, refl, sym, ap, ap₂, ◌∙◌}
use mathlib.Core.Logic.{◌↔◌}
use mathlib.Core.Bool.{Bool, true, false, ◌&&◌, true≢false}
use mathlib.Core.Option.{Option, none}
use mathlib.Core.List.{List}
use Prim.Native.Nat.{ℕ, ◌+◌, ◌≤◌, ◌<◌}
use native.Mathlib.Omega.{arith}
use lib.ListN.{length}
use lib.Dec.{leb, ltb}
use borrow.Author.Tests.{leb-true, ltb-false, le-ltb}
use Rattle.framed.specs.declared.Value.{Value}
use Rattle.framed.specs.declared.Text.{Text}
use Rattle.framed.specs.Common.{when◌then◌else◌, member}
use Rattle.framed.specs.Tree.{Instruction}
use Rattle.framed.specs.Paths.{Path}
use Rattle.framed.specs.Program.{Program}
use Rattle.framed.specs.Values.{Frame}
use Rattle.framed.specs.Reach.{roots, reached_frames, reached_texts, Reachable}
use Rattle.framed.specs.Machine.{State, frame_literals, join_signs, right_side, reserve_for}
use Rattle.framed.specs.Machine as M
use Rattle.framed.specs.Calls.{frame_total, text_total}
use Rattle.framed.proofs.General.{none≢some}
use Rattle.framed.proofs.ReachCounts.{reach_agrees, reached_once, texts_agree, texts_once}
use Rattle.bounded.specs.Views.{View, frame_at, text_at, used, entries, frames_used, texts_used}
use Rattle.bounded.specs.Fits.{Valid, valid_integer, valid_literal, valid_made, valid_code, valid_frame, ProgramFits}
use Rattle.bounded.specs.Store.{Store, Laws, ReachedIn, CollectedTo}
use Rattle.bounded.specs.Bounded.{Bounded, over_store, room_end, make_room, reserved}
use Rattle.bounded.specs.Relation.{Rel, ValueRel, Simulates, WellFormed, Related}
use Rattle.bounded.proofs.Lists.{In, NoDup, member_in, in_member, once_no_dup, pigeon, Defined, used_is, used_at_least}
use Rattle.bounded.proofs.Simulates.{Op, value_op, simulates_op, frame_reached, text_reached, Kept, value_kept, collect_kept}
use Rattle.bounded.proofs.Validity.{valid_defined, valid_text, reached_valid}

-- ---- The reached are as many on both sides

-- a list without repetition of exactly the numbers in question
record Lists (P : ℕ → Type 0) (ns : List ℕ) : Type 0 where
  once : NoDup ns
  sound : (n : ℕ) → In n ns → P n
  complete : (n : ℕ) → P n → In n ns

listed_frames : (fs : List Frame) (Σ Π : Value) → Lists (λ n. Reachable fs Σ Π (Value.Frame n)) (reached_frames fs (roots Σ Π))
listed_frames fs Σ Π = record {
  once = once_no_dup _ (reached_once fs Σ Π);
  sound = λ n i. (reach_agrees fs Σ Π n).0 (in_member n _ i);
  complete = λ n d. member_in n _ ((reach_agrees fs Σ Π n).1 d);
}

listed_texts : (fs : List Frame) (Σ Π : Value) → Lists (λ k. Reachable fs Σ Π (Value.Text (Text.Made k))) (reached_texts fs (roots Σ Π))
listed_texts fs Σ Π = record {
  once = once_no_dup _ (texts_once fs Σ Π);
  sound = λ n i. (texts_agree fs Σ Π n).0 (in_member n _ i);
  complete = λ n d. member_in n _ ((texts_agree fs Σ Π n).1 d);
}

-- each member of the one has a partner in the other
no_longer : {P Q : ℕ → Type 0} {ms ns : List ℕ} (R : ℕ → ℕ → Type 0) → ((a b c : ℕ) → R a c → R b c → a ≡ b) → Lists P ms → Lists Q ns →
    ((m : ℕ) → P m → (n : ℕ) × R m n × Q n) → length ms ≤ length ns
no_longer {ms = ms} {ns = ns} R one a b k =
    pigeon R one ms ns a.once (λ m i. let q = k m (a.sound m i) in (q.0, q.1, b.complete q.0 q.2))

module _ {R : Rel} {H K : View} {Σ Σ' Π Π' : Value} (S : Simulates R H K) (s : ValueRel R Σ Σ') (q : ValueRel R Π Π') where
  pub same_frame_count : length (reached_frames H.heap.frames (roots Σ Π)) ≡ length (reached_frames K.heap.frames (roots Σ' Π'))
  same_frame_count =
      let a = no_longer R.frame S.frame_left (listed_frames H.heap.frames Σ Π) (listed_frames K.heap.frames Σ' Π') (frame_reached S s q) in
      let b = no_longer (Op R).frame (simulates_op S).frame_left (listed_frames K.heap.frames Σ' Π') (listed_frames H.heap.frames Σ Π)
      (frame_reached (simulates_op S) (value_op s) (value_op q)) in
      omega arith

  pub same_text_count : length (reached_texts H.heap.frames (roots Σ Π)) ≡ length (reached_texts K.heap.frames (roots Σ' Π'))
  same_text_count =
      let a = no_longer R.text S.text_left (listed_texts H.heap.frames Σ Π) (listed_texts K.heap.frames Σ' Π') (text_reached S s q) in
      let b = no_longer (Op R).text (simulates_op S).text_left (listed_texts K.heap.frames Σ' Π') (listed_texts H.heap.frames Σ Π)
      (text_reached (simulates_op S) (value_op s) (value_op q)) in
      omega arith

-- in use at least what is listed; and just that many, where nothing else is in use
counted_exactly : {A : Type 0} (H H' : ℕ → Option A) (n : ℕ) {P : ℕ → Type 0} {ms : List ℕ} → Lists P ms → ((m : ℕ) → P m → (m < n) × Defined H m) →
    ((m : ℕ) → P m → H' m ≡ H m) → ((m : ℕ) → ¬ P m → H' m ≡ none) → used H' n ≡ length ms
counted_exactly H H' n {P} {ms} l there keeps frees =
    used_is H' n ms l.once
    (λ m i. let q = there m (l.sound m i) in (q.0, (q.1.0, keeps m (l.sound m i) ∙ q.1.1)))
    (λ m b d. step m d (member m ms) refl)
  where
    step : (m : ℕ) → Defined H' m → (t : Bool) → member m ms ≡ t → In m ms
    step m d true e = member_in m ms e
    step m d false e = absurd (none≢some (sym (frees m (λ r. true≢false (sym (in_member m ms (l.complete m r)) ∙ e))) ∙ d.1))

-- what is reached stays valid in a collection
pub valid_collected : {p : Program} {H K : View} {Σ Π v : Value} → CollectedTo H K Σ Π → ReachedIn H Σ Π v → Valid p H v → Valid p K v
valid_collected c d (valid_integer e) = valid_integer e
valid_collected c d (valid_literal e) = valid_literal e
valid_collected c d (valid_made {k = k} e) = valid_made (c.keeps_text k d ∙ e)
valid_collected c d (valid_code e) = valid_code e
valid_collected c d (valid_frame {n = n} e) = valid_frame (c.keeps_frame n d ∙ e)

module _ {S : Type 0} (𝓞 : Store S) (p : Program) (𝓛 : Laws 𝓞 p) (fits : ProgramFits p) (F T : ℕ) where
  open 𝓞 use {view, collect, frame_count, text_count}

  module _ {b : Bounded S} (ok : WellFormed 𝓞 p 𝓛 F T b) where
    abbrev H : View
    H = view b.store

    abbrev Reached : Value → Type 0
    Reached v = ReachedIn H b.self b.program v

    pub all_valid : {v : Value} → Reached v → Valid p H v
    all_valid d = reached_valid 𝓞 p 𝓛 fits b.store ok.store b.self b.program ok.self ok.program d

    frame_there : (n : ℕ) → Reached (Value.Frame n) → (n < entries) × Defined (frame_at H) n
    frame_there n d = let f = valid_defined (all_valid d) n refl in (𝓛.frame_below b.store ok.store n f.0 f.1, f)

    text_there : (k : ℕ) → Reached (Value.Text (Text.Made k)) → (k < entries) × Defined (text_at H) k
    text_there k d = let f = valid_text (all_valid d) k refl in (𝓛.text_below b.store ok.store k f.0 f.1, f)

    abbrev frames_reached : List ℕ
    frames_reached = reached_frames H.heap.frames (roots b.self b.program)

    abbrev texts_reached : List ℕ
    texts_reached = reached_texts H.heap.frames (roots b.self b.program)

    frames_at_least : length frames_reached ≤ frames_used H
    unfolding frames_used
    frames_at_least =
        let l = listed_frames H.heap.frames b.self b.program in
        used_at_least (frame_at H) entries frames_reached l.once (λ n i. frame_there n (l.sound n i))

    texts_at_least : length texts_reached ≤ texts_used H
    unfolding texts_used
    texts_at_least =
        let l = listed_texts H.heap.frames b.self b.program in
        used_at_least (text_at H) entries texts_reached l.once (λ n i. text_there n (l.sound n i))

    abbrev swept : S
    swept = collect b.self b.program b.store

    pub collecting : 𝓛.WellFormed swept × CollectedTo H (view swept) b.self b.program
    collecting = 𝓛.collect_is b.store ok.store b.self b.program ok.self ok.program

    -- afterwards exactly what is reached is in use
    pub frames_exactly : frames_used (view swept) ≡ length frames_reached
    unfolding frames_used
    frames_exactly =
        counted_exactly (frame_at H) (frame_at (view swept)) entries (listed_frames H.heap.frames b.self b.program) frame_there
        collecting.1.keeps_frame collecting.1.frees_frame

    pub texts_exactly : texts_used (view swept) ≡ length texts_reached
    unfolding texts_used
    texts_exactly =
        counted_exactly (text_at H) (text_at (view swept)) entries (listed_texts H.heap.frames b.self b.program) text_there
        collecting.1.keeps_text collecting.1.frees_text

    pub collected_well_formed : WellFormed 𝓞 p 𝓛 F T (over_store b swept)
    collected_well_formed = record {
      store = collecting.0;
      self = valid_collected collecting.1 Reachable.self ok.self;
      program = valid_collected collecting.1 Reachable.program ok.program;
      remaining = ok.remaining;
      next = ok.next;
      mark = ok.mark;
      frames_few = omega (arith, frames_exactly, frames_at_least, ok.frames_few);
      texts_few = omega (arith, texts_exactly, texts_at_least, ok.texts_few);
    }

    pub frame_in_use_reached : (n : ℕ) → Defined (frame_at (view swept)) n ↔ Reached (Value.Frame n)
    frame_in_use_reached n =
        ((λ d. step d (member n frames_reached) refl), (λ r. let q = frame_there n r in (q.1.0, collecting.1.keeps_frame n r ∙ q.1.1)))
      where
        l : Lists (λ n. Reached (Value.Frame n)) frames_reached
        l = listed_frames H.heap.frames b.self b.program

        step : Defined (frame_at (view swept)) n → (t : Bool) → member n frames_reached ≡ t → Reached (Value.Frame n)
        step d true e = l.sound n (member_in n frames_reached e)
        step d false e = absurd (none≢some (sym (collecting.1.frees_frame n (λ r. true≢false (sym (in_member n frames_reached (l.complete n r)) ∙ e))) ∙ d.1))

    pub text_in_use_reached : (k : ℕ) → Defined (text_at (view swept)) k ↔ Reached (Value.Text (Text.Made k))
    text_in_use_reached n =
        ((λ d. step d (member n texts_reached) refl), (λ r. let q = text_there n r in (q.1.0, collecting.1.keeps_text n r ∙ q.1.1)))
      where
        l : Lists (λ n. Reached (Value.Text (Text.Made n))) texts_reached
        l = listed_texts H.heap.frames b.self b.program

        step : Defined (text_at (view swept)) n → (t : Bool) → member n texts_reached ≡ t → Reached (Value.Text (Text.Made n))
        step d true e = l.sound n (member_in n texts_reached e)
        step d false e = absurd (none≢some (sym (collecting.1.frees_text n (λ r. true≢false (sym (in_member n texts_reached (l.complete n r)) ∙ e))) ∙ d.1))

  module _ {b : Bounded S} {s : State} (A : Related 𝓞 p 𝓛 F T b s) where
    abbrev ok : WellFormed 𝓞 p 𝓛 F T b
    ok = A.well_formed

    total_frames : length (frames_reached ok) ≡ frame_total s
    unfolding frame_total
    total_frames = same_frame_count A.heaps A.self A.program

    total_texts : length (texts_reached ok) ≡ text_total s
    unfolding text_total
    total_texts = same_text_count A.heaps A.self A.program

    -- what a collection counts
    pub counts_frames : frame_count (swept ok) ≡ frame_total s
    counts_frames = 𝓛.frame_count_is (swept ok) (collecting ok).0 ∙ frames_exactly ok ∙ total_frames

    pub counts_texts : text_count (swept ok) ≡ text_total s
    counts_texts = 𝓛.text_count_is (swept ok) (collecting ok).0 ∙ texts_exactly ok ∙ total_texts

    pub collected_related : Related 𝓞 p 𝓛 F T (over_store b (swept ok)) s
    collected_related = record {
      relation = Kept A.relation (view b.store) b.self b.program;
      well_formed = collected_well_formed ok;
      heaps = collect_kept A.relation (view b.store) b.self b.program A.heaps (collecting ok).1;
      self = value_kept A.relation (view b.store) b.self b.program A.self Reachable.self;
      program = value_kept A.relation (view b.store) b.self b.program A.program Reachable.program;
      remaining = A.remaining;
      next = A.next;
      end_mark = A.end_mark;
    }

    -- ---- Reserve

    -- the choice of 36, 37 or 0
    room_choice : Bool → Bool → ℕ
    room_choice t u = when t then 36 else when u then 37 else 0

    unbounded_choice : (i : Instruction Path) →
        M.reserve F T s.heap.frames s.self s.program i
        ≡ room_choice (ltb F (frame_total s + frame_literals (right_side i))) (ltb T (text_total s + join_signs (right_side i)))
    unfolding M.reserve reserve_for room_choice frame_total text_total reached_texts
    unbounded_choice i = step (ltb F (frame_total s + frame_literals (right_side i))) (ltb T (text_total s + join_signs (right_side i)))
      where
        step : (t u : Bool) → ◌≡◌ {A = ℕ} (elim t [ true ↦ 36 | false ↦ elim u [ true ↦ 37 | false ↦ 0 ] ]) (room_choice t u)
        step true u = refl
        step false true = refl
        step false false = refl

    -- over the store r that reserve leaves: it gives what the unbounded machine's reserve gives; the state stays related; and where it gives 0 there is room
    pub record Reserves (i : Instruction Path) (r : S) : Type 1 where
      pub same : room_end 𝓞 F T (frame_literals (right_side i)) (join_signs (right_side i)) r ≡ M.reserve F T s.heap.frames s.self s.program i
      pub related : Related 𝓞 p 𝓛 F T (over_store b r) s
      pub frame_room : M.reserve F T s.heap.frames s.self s.program i ≡ 0 → frames_used (view r) + frame_literals (right_side i) ≤ F
      pub text_room : M.reserve F T s.heap.frames s.self s.program i ≡ 0 → texts_used (view r) + join_signs (right_side i) ≤ T

    -- where the choice is 0, both tests failed
    choice_zero : (t u : Bool) → room_choice t u ≡ 0 → (t ≡ false) × (u ≡ false)
    unfolding room_choice
    choice_zero true u e = absurd (let z : ⊥ = omega arith in z)
    choice_zero false true e = absurd (let z : ⊥ = omega arith in z)
    choice_zero false false e = (refl, refl)

    -- the tests over the store's counts are those over the reachable
    by_tests : (i : Instruction Path) (r : S) → Related 𝓞 p 𝓛 F T (over_store b r) s →
        ltb F (frame_count r + frame_literals (right_side i)) ≡ ltb F (frame_total s + frame_literals (right_side i)) →
        ltb T (text_count r + join_signs (right_side i)) ≡ ltb T (text_total s + join_signs (right_side i)) → Reserves i r
    unfolding room_end room_choice
    by_tests i r B d e = record {
      same = ap₂ room_choice d e ∙ sym (unbounded_choice i);
      related = B;
      frame_room = λ z. omega (arith, 𝓛.frame_count_is r B.well_formed.store, ltb-false F (frame_count r + frame_literals (right_side i)) (zero_both z).0);
      text_room = λ z. omega (arith, 𝓛.text_count_is r B.well_formed.store, ltb-false T (text_count r + join_signs (right_side i)) (zero_both z).1);
    }
      where
        zero_both : M.reserve F T s.heap.frames s.self s.program i ≡ 0 →
            (ltb F (frame_count r + frame_literals (right_side i)) ≡ false) × (ltb T (text_count r + join_signs (right_side i)) ≡ false)
        zero_both z = choice_zero _ _ (ap₂ room_choice d e ∙ sym (unbounded_choice i) ∙ z)

    pub reserves : (i : Instruction Path) → Reserves i (reserved 𝓞 F T b i)
    unfolding reserved make_room
    reserves i = step (leb (frame_count b.store + f) F) (leb (text_count b.store + t) T) refl refl
      where
        f : ℕ
        f = frame_literals (right_side i)

        t : ℕ
        t = join_signs (right_side i)

        frames_fewer : frame_total s ≤ frame_count b.store
        frames_fewer = omega (arith, total_frames, frames_at_least ok, 𝓛.frame_count_is b.store ok.store)

        texts_fewer : text_total s ≤ text_count b.store
        texts_fewer = omega (arith, total_texts, texts_at_least ok, 𝓛.text_count_is b.store ok.store)

        after : Reserves i (swept ok)
        after = by_tests i (swept ok) collected_related (ap (λ (n : ℕ). ltb F (n + f)) counts_frames) (ap (λ (n : ℕ). ltb T (n + t)) counts_texts)

        step : (u v : Bool) → leb (frame_count b.store + f) F ≡ u → leb (text_count b.store + t) T ≡ v → Reserves i (when u && v then b.store else swept ok)
        step true true d e =
            let g = leb-true (frame_count b.store + f) F d in
            let h = leb-true (text_count b.store + t) T e in
            by_tests i b.store A
            (le-ltb F (frame_count b.store + f) g ∙ sym (le-ltb F (frame_total s + f) (omega (arith, frames_fewer))))
            (le-ltb T (text_count b.store + t) h ∙ sym (le-ltb T (text_total s + t) (omega (arith, texts_fewer))))
        step true false d e = after
        step false v d e = after
