-- Related states are alike under a renaming, which is made from the relation; and alike states are related. Assumes nothing.
use mathlib.Core.Path.{◌≡◌, refl, sym, ap, ap₂, ◌∙◌, subst}
use mathlib.Core.Logic.{⊎_elim}
use mathlib.Core.Bool.{Bool, true, false, true≢false}
use mathlib.Core.Option.{Option, none, some}
use mathlib.Core.List.Memᴰ
use mathlib.Core.List.{List, [], ◌∷◌, map, Memᴰ}
use Prim.Native.Nat.{ℕ}
use lib.ListN.{get_elem?}
use Rattle.framed.specs.declared.Value.{Value}
use Rattle.framed.specs.declared.Text.{Text}
use Rattle.framed.specs.Common.{member}
use Rattle.framed.specs.Program.{Program}
use Rattle.framed.specs.Values.{Slot, Frame, new_frame, with_slots}
use Rattle.framed.specs.Reach.{slot_value, values_in, roots, reached_frames, reached_texts, Reachable}
use Rattle.framed.specs.Machine.{State}
use Rattle.framed.specs.Alike.{Alike, Renaming, renamed, renamed_slot, renamed_frame, InReach}
use Rattle.framed.proofs.General.{none≢some}
use Rattle.framed.proofs.ReachCounts.{reach_agrees, texts_agree}
use Rattle.bounded.specs.Views.{View, frame_at, all_used}
use Rattle.bounded.specs.Fits.{ProgramFits}
use Rattle.bounded.specs.Store.{Store, Laws}
use Rattle.bounded.specs.Bounded.{Bounded, state_of}
use Rattle.bounded.specs.Relation.{Rel, ValueRel, integers, literals, texts, codes, frames, SlotsRel, none_left, next_slot, FramesLinked, TextsLinked, Simulates, WellFormed, Related}
use Rattle.bounded.proofs.Views.{frame_read, text_read, heap_frame, heap_text}
use Rattle.bounded.proofs.Simulates.{value_op, simulates_op, values_at, frame_reached, text_reached}
use Rattle.bounded.proofs.Validity.{valid_defined, valid_text}
use Rattle.bounded.proofs.Collect.{all_valid}

-- ---- Related states are alike

module _ {S : Type 0} (𝓞 : Store S) (p : Program) (𝓛 : Laws 𝓞 p) (F T : ℕ) {b : Bounded S} {s : State} (A : Related 𝓞 p 𝓛 F T b s) where
  abbrev R : Rel
  R = A.relation

  abbrev H : View
  H = 𝓞.view b.store

  -- the partner of a number that is reached
  abbrev frame_partner : (n : ℕ) → InReach s (Value.Frame n) → (m : ℕ) × R.frame m n × InReach (state_of 𝓞 b) (Value.Frame m)
  frame_partner n d = frame_reached (simulates_op A.heaps) (value_op A.self) (value_op A.program) n d

  abbrev text_partner : (k : ℕ) → InReach s (Value.Text (Text.Made k)) → (j : ℕ) × R.text j k × InReach (state_of 𝓞 b) (Value.Text (Text.Made j))
  text_partner k d = text_reached (simulates_op A.heaps) (value_op A.self) (value_op A.program) k d

  abbrev frames_listed : List ℕ
  frames_listed = reached_frames s.heap.frames (roots s.self s.program)

  abbrev texts_listed : List ℕ
  texts_listed = reached_texts s.heap.frames (roots s.self s.program)

  to_frame : (n : ℕ) (t : Bool) → member n frames_listed ≡ t → ℕ
  to_frame n true e = (frame_partner n ((reach_agrees s.heap.frames s.self s.program n).0 e)).0
  to_frame n false e = 0

  to_text : (k : ℕ) (t : Bool) → member k texts_listed ≡ t → ℕ
  to_text k true e = (text_partner k ((texts_agree s.heap.frames s.self s.program k).0 e)).0
  to_text k false e = 0

  ρ : Renaming
  ρ = record { frame = λ n. to_frame n (member n frames_listed) refl; text = λ k. to_text k (member k texts_listed) refl }

  frame_related : (n : ℕ) → InReach s (Value.Frame n) → R.frame (ρ.frame n) n
  unfolding ρ to_frame
  frame_related n d = step (member n frames_listed) refl
    where
      step : (t : Bool) (e : member n frames_listed ≡ t) → R.frame (to_frame n t e) n
      step true e = (frame_partner n ((reach_agrees s.heap.frames s.self s.program n).0 e)).1
      step false e = absurd (true≢false (sym ((reach_agrees s.heap.frames s.self s.program n).1 d) ∙ e))

  text_related : (k : ℕ) → InReach s (Value.Text (Text.Made k)) → R.text (ρ.text k) k
  unfolding ρ to_text
  text_related k d = step (member k texts_listed) refl
    where
      step : (t : Bool) (e : member k texts_listed ≡ t) → R.text (to_text k t e) k
      step true e = (text_partner k ((texts_agree s.heap.frames s.self s.program k).0 e)).1
      step false e = absurd (true≢false (sym ((texts_agree s.heap.frames s.self s.program k).1 d) ∙ e))

  value_renamed : {v w : Value} → ValueRel R v w → InReach s w → renamed ρ w ≡ v
  unfolding renamed
  value_renamed integers d = refl
  value_renamed literals d = refl
  value_renamed (texts {j = j} {k = k} r) d = ap (λ (n : ℕ). Value.Text (Text.Made n)) (A.heaps.text_left (ρ.text k) j k (text_related k d) r)
  value_renamed codes d = refl
  value_renamed (frames {m = m} {n = n} r) d = ap Value.Frame (A.heaps.frame_left (ρ.frame n) m n (frame_related n d) r)

  slots_renamed : {xs ys : List Slot} → SlotsRel R xs ys → ((w : Value) → Memᴰ w (map slot_value ys) → InReach s w) → map (renamed_slot ρ) ys ≡ xs
  unfolding renamed_slot slot_value
  slots_renamed none_left k = refl
  slots_renamed (next_slot {x = x} {y = y} e v h) k =
      ap₂ (λ (a : Slot) (l : List Slot). a ∷ l)
      (ap₂ (λ (n : ℕ) (u : Value). record { name = n; value = u }) (sym e) (value_renamed v (k y.value (Memᴰ.head refl))))
      (slots_renamed h (λ w i. k w (Memᴰ.tail i)))

  frame_alike : (n : ℕ) → InReach s (Value.Frame n) → renamed_frame ρ (get_elem? s.heap.frames n) ≡ get_elem? H.heap.frames (ρ.frame n)
  unfolding renamed_frame
  frame_alike n d =
      let l = A.heaps.frame_link (ρ.frame n) n (frame_related n d) in
      ap (renamed_frame ρ) (frame_read (all_used s.heap) n l.right l.at_right)
      ∙ ap₂ (λ (ss : List Slot) (m : ℕ). some (new_frame m ss)) (slots_renamed l.alike
      (λ w i. Reachable.in_slot d (subst (λ (ws : List Value). Memᴰ w ws) (sym (values_at (all_used s.heap) n l.right l.at_right)) i)))
      (sym l.same_maker)
      ∙ sym (frame_read H (ρ.frame n) l.left l.at_left)

  text_alike : (k : ℕ) → InReach s (Value.Text (Text.Made k)) → get_elem? s.heap.texts k ≡ get_elem? H.heap.texts (ρ.text k)
  text_alike k d =
      let l = A.heaps.text_link (ρ.text k) k (text_related k d) in
      text_read (all_used s.heap) k l.bytes l.at_right ∙ sym (text_read H (ρ.text k) l.bytes l.at_left)

  pub related_alike : Alike s (state_of 𝓞 b)
  related_alike = record {
    renaming = ρ;
    frames_one_to_one = λ m n c d e.
        A.heaps.frame_right (ρ.frame m) m n (frame_related m c) (subst (λ (k : ℕ). R.frame k n) (sym e) (frame_related n d));
    texts_one_to_one = λ j k c d e.
        A.heaps.text_right (ρ.text j) j k (text_related j c) (subst (λ (n : ℕ). R.text n k) (sym e) (text_related k d));
    same_end = sym A.end_mark;
    same_remaining = sym A.remaining;
    same_next = sym A.next;
    self_alike = value_renamed A.self Reachable.self;
    program_alike = value_renamed A.program Reachable.program;
    frames_alike = frame_alike;
    frames_onto = λ m d. let q = frame_reached A.heaps A.self A.program m d in
        (q.0, q.2, A.heaps.frame_left (ρ.frame q.0) m q.0 (frame_related q.0 q.2) q.1);
    texts_onto = λ j d. let q = text_reached A.heaps A.self A.program j d in
        (q.0, q.2, A.heaps.text_left (ρ.text q.0) j q.0 (text_related q.0 q.2) q.1);
    texts_alike = text_alike;
  }

-- ---- Alike states are related

-- the slots of a frame, renamed
slots_to : (ρ : Renaming) (xs : List Slot) {v : Value} → Memᴰ v (map slot_value xs) → Memᴰ (renamed ρ v) (map slot_value (map (renamed_slot ρ) xs))
unfolding slot_value renamed_slot
slots_to ρ [] i = absurd (Memᴰ.not-nil i)
slots_to ρ (x ∷ xs) i =
    let r = slots_to ρ xs in
    ⊎_elim (λ e. Memᴰ.head (ap (renamed ρ) e)) (λ j. Memᴰ.tail (r j)) (Memᴰ.cases_cons i)

module _ {S : Type 0} (𝓞 : Store S) (p : Program) (𝓛 : Laws 𝓞 p) (fits : ProgramFits p) (F T : ℕ) {b : Bounded S} {s : State}
    (ok : WellFormed 𝓞 p 𝓛 F T b) (a : Alike s (state_of 𝓞 b)) where
  abbrev K : View
  K = 𝓞.view b.store

  abbrev σ : Renaming
  σ = a.renaming

  -- a frame that is reached in s, where its number is reached in the store
  record Found (n : ℕ) : Type 0 where
    frame : Frame
    in_s : get_elem? s.heap.frames n ≡ some frame
    in_use : frame_at K (σ.frame n) ≡ some (with_slots frame (map (renamed_slot σ) frame.slots))

  found : (n : ℕ) → InReach s (Value.Frame n) → InReach (state_of 𝓞 b) (Value.Frame (σ.frame n)) → Found n
  unfolding renamed_frame
  found n d e = step (get_elem? s.heap.frames n) refl (a.frames_alike n d)
    where
      there : (f : Frame) × (frame_at K (σ.frame n) ≡ some f)
      there = valid_defined (all_valid 𝓞 p 𝓛 fits F T ok e) (σ.frame n) refl

      step : (o : Option Frame) → get_elem? s.heap.frames n ≡ o → renamed_frame σ (get_elem? s.heap.frames n) ≡ get_elem? K.heap.frames (σ.frame n) → Found n
      step none q r = absurd (none≢some (sym (ap (renamed_frame σ) q) ∙ r ∙ frame_read K (σ.frame n) there.0 there.1))
      step (some g) q r = record {
        frame = g;
        in_s = q;
        in_use = there.1 ∙ sym (sym (ap (renamed_frame σ) q) ∙ r ∙ frame_read K (σ.frame n) there.0 there.1);
      }

  values_found : {n : ℕ} (f : Found n) → values_in s.heap.frames n ≡ map slot_value f.frame.slots
  unfolding frame_at
  values_found {n} f = values_at (all_used s.heap) n f.frame f.in_s

  forward : {v : Value} → InReach s v → InReach (state_of 𝓞 b) (renamed σ v)
  unfolding renamed
  forward Reachable.self = subst (λ (w : Value). InReach (state_of 𝓞 b) w) (sym a.self_alike) Reachable.self
  forward Reachable.program = subst (λ (w : Value). InReach (state_of 𝓞 b) w) (sym a.program_alike) Reachable.program
  forward (Reachable.in_slot {n = n} {v = v} d i) =
      let e = forward d in
      let f = found n d e in
      Reachable.in_slot e
      (subst (λ (ws : List Value). Memᴰ (renamed σ v) ws) (sym (values_at K (σ.frame n) _ f.in_use))
      (slots_to σ f.frame.slots (subst (λ (vs : List Value). Memᴰ v vs) (values_found f) i)))

  Q : Rel
  Q = record {
    frame = λ m n. InReach s (Value.Frame n) × (σ.frame n ≡ m);
    text = λ j k. InReach s (Value.Text (Text.Made k)) × (σ.text k ≡ j);
  }

  value_related : (v : Value) → InReach s v → ValueRel Q (renamed σ v) v
  unfolding renamed Q
  value_related (Value.Int z) d = integers
  value_related (Value.Text (Text.Literal k)) d = literals
  value_related (Value.Text (Text.Made k)) d = texts (d, refl)
  value_related (Value.Code k) d = codes
  value_related (Value.Frame n) d = frames (d, refl)

  slots_related : (xs : List Slot) → ((v : Value) → Memᴰ v (map slot_value xs) → InReach s v) → SlotsRel Q (map (renamed_slot σ) xs) xs
  unfolding renamed_slot slot_value
  slots_related [] k = none_left
  slots_related (x ∷ xs) k = next_slot refl (value_related x.value (k x.value (Memᴰ.head refl))) (slots_related xs (λ w i. k w (Memᴰ.tail i)))

  frame_linked : (n : ℕ) → InReach s (Value.Frame n) → FramesLinked Q K (all_used s.heap) (σ.frame n) n
  unfolding renamed
  frame_linked n d =
      let f = found n d (forward d) in
      record {
        left = with_slots f.frame (map (renamed_slot σ) f.frame.slots);
        right = f.frame;
        at_left = f.in_use;
        at_right = sym (heap_frame s.heap n) ∙ f.in_s;
        alike = slots_related f.frame.slots (λ v i. Reachable.in_slot d (subst (λ (vs : List Value). Memᴰ v vs) (sym (values_found f)) i));
        same_maker = refl;
      }

  text_linked : (k : ℕ) → InReach s (Value.Text (Text.Made k)) → TextsLinked K (all_used s.heap) (σ.text k) k
  unfolding renamed
  text_linked k d =
      let t = valid_text (all_valid 𝓞 p 𝓛 fits F T ok (forward d)) (σ.text k) refl in
      record {
        bytes = t.0;
        at_left = t.1;
        at_right = sym (heap_text s.heap k) ∙ a.texts_alike k d ∙ text_read K (σ.text k) t.0 t.1;
      }

  simulates : Simulates Q K (all_used s.heap)
  unfolding Q
  simulates = record {
    frame_link = λ m n r. subst (λ (i : ℕ). FramesLinked Q K (all_used s.heap) i n) r.1 (frame_linked n r.0);
    frame_right = λ m n o r q. a.frames_one_to_one n o r.0 q.0 (r.1 ∙ sym q.1);
    frame_left = λ m n o r q. sym r.1 ∙ q.1;
    text_link = λ j k r. subst (λ (i : ℕ). TextsLinked K (all_used s.heap) i k) r.1 (text_linked k r.0);
    text_right = λ j k l r q. a.texts_one_to_one k l r.0 q.0 (r.1 ∙ sym q.1);
    text_left = λ j k l r q. sym r.1 ∙ q.1;
  }

  pub alike_related : Related 𝓞 p 𝓛 F T b s
  alike_related = record {
    relation = Q;
    well_formed = ok;
    heaps = simulates;
    self = subst (λ (v : Value). ValueRel Q v s.self) a.self_alike (value_related s.self Reachable.self);
    program = subst (λ (v : Value). ValueRel Q v s.program) a.program_alike (value_related s.program Reachable.program);
    remaining = sym a.same_remaining;
    next = sym a.same_next;
    end_mark = sym a.same_end;
  }

-- ---- Every state is alike to itself

same_renaming : Renaming
same_renaming = record { frame = λ n. n; text = λ k. k }

renamed_same : (v : Value) → renamed same_renaming v ≡ v
unfolding renamed same_renaming
renamed_same (Value.Int z) = refl
renamed_same (Value.Text (Text.Literal k)) = refl
renamed_same (Value.Text (Text.Made k)) = refl
renamed_same (Value.Code k) = refl
renamed_same (Value.Frame n) = refl

slots_same : (xs : List Slot) → map (renamed_slot same_renaming) xs ≡ xs
unfolding renamed_slot
slots_same [] = refl
slots_same (x ∷ xs) =
    ap₂ (λ (a : Slot) (l : List Slot). a ∷ l) (ap (λ (v : Value). record { name = x.name; value = v }) (renamed_same x.value)) (slots_same xs)

frame_same : (o : Option Frame) → renamed_frame same_renaming o ≡ o
unfolding renamed_frame
frame_same none = refl
frame_same (some f) = ap (λ (ss : List Slot). some (with_slots f ss)) (slots_same f.slots)

pub alike_itself : (s : State) → Alike s s
unfolding same_renaming
alike_itself s = record {
  renaming = same_renaming;
  frames_one_to_one = λ m n c d e. e;
  texts_one_to_one = λ j k c d e. e;
  same_end = refl;
  same_remaining = refl;
  same_next = refl;
  self_alike = renamed_same s.self;
  program_alike = renamed_same s.program;
  frames_alike = λ n d. frame_same (get_elem? s.heap.frames n);
  frames_onto = λ n d. (n, d, refl);
  texts_onto = λ k d. (k, d, refl);
  texts_alike = λ k d. refl;
}
