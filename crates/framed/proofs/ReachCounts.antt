-- The reachable frames, as `Reach.reached-frames` lists them, are exactly those of the relation `Reachable`, each once.
-- Assumes nothing.
use mathlib.Core.Path.{◌≡◌, refl, sym, ◌∙◌, ap, ap₂, subst}
use mathlib.Core.Logic.{◌≢◌, ◌⊎◌, inl, inr, ◌↔◌, ⊎_elim}
use mathlib.Core.Bool.{Bool, true, false, ◌||◌, true≢false, false≢true}
use mathlib.Core.List.Memᴰ
use mathlib.Core.List.{List, [], ◌∷◌, ◌++◌, Memᴰ}
use mathlib.Core.Option.{Option, none, some}
use Prim.Native.Nat.{ℕ, zero, suc, ◌+◌, ◌≤◌, ◌<◌}
use native.Mathlib.Omega.{arith}
use lib.ListN.{length, get_or, length-append, length-map}
use lib.Dec.{T, eqb, eqb→eq, eqb_refl}
use Rattle.framed.specs.declared.Value.{Value}
use Rattle.framed.specs.declared.Text.{Text}
use Rattle.framed.specs.Common.{when◌then◌else◌, any, member, total, has_twice, distinct}
use Rattle.framed.specs.Values.{Frame, new_frame}
use Rattle.framed.specs.Reach.{slot_value, values_in, Reachable, unseen_frame, visit, slot_count, roots, reached_frames, made_in, values_of_all, texts_from, reached_texts}
use Rattle.framed.specs.Calls.{frame_total, text_total}
use Rattle.framed.specs.Theorems.{ReachCounts}
use Rattle.framed.proofs.General.{none≢some, some≢none, some_inj, to_true}

-- a number in a list, by the test
infix 40 ◌∈◌
abbrev ◌∈◌ : ℕ → List ℕ → Type 0
n ∈ ns = member n ns ≡ true

-- ---- Which values are frames not yet seen

unseen_some : (seen : List ℕ) (v : Value) {n : ℕ} → unseen_frame seen v ≡ some n → (v ≡ Value.Frame n) × (member n seen ≡ false)
unfolding unseen_frame
unseen_some seen (Value.Int z) e = absurd (none≢some e)
unseen_some seen (Value.Text t) e = absurd (none≢some e)
unseen_some seen (Value.Code k) e = absurd (none≢some e)
unseen_some seen (Value.Frame m) {n} e = go (member m seen) refl e
  where
    go : (t : Bool) → member m seen ≡ t → (when t then none else some m) ≡ some n → (Value.Frame m ≡ Value.Frame n) × (member n seen ≡ false)
    go true p q = absurd (none≢some q)
    go false p q = (ap Value.Frame (some_inj q), rw (← some_inj q) p)

unseen_none : (seen : List ℕ) (v : Value) (n : ℕ) → unseen_frame seen v ≡ none → v ≡ Value.Frame n → n ∈ seen
unfolding unseen_frame
unseen_none seen v n e p = go (member n seen) refl (ap (unseen_frame seen) (sym p) ∙ e)
  where
    go : (t : Bool) → member n seen ≡ t → (when member n seen then none else some n) ≡ none → n ∈ seen
    go true p q = p
    go false p q = absurd (some≢none (rw p at q))

-- ---- Numbers in lists

pub cons_cases : (m n : ℕ) (ns : List ℕ) → m ∈ (n ∷ ns) → (m ≡ n) ⊎ (m ∈ ns)
unfolding member any
cons_cases m n ns h = go (eqb m n) refl h
  where
    go : (t : Bool) → eqb m n ≡ t → (t || member m ns) ≡ true → (m ≡ n) ⊎ (m ∈ ns)
    go true p q = inl (eqb→eq m n (rw p tt))
    go false p q = inr q

or_true : (a : Bool) → (a || true) ≡ true
or_true true = refl
or_true false = refl

pub there : (m n : ℕ) (ns : List ℕ) → m ∈ ns → m ∈ (n ∷ ns)
unfolding member any
there m n ns h = ap (λ (t : Bool). eqb m n || t) h ∙ or_true (eqb m n)

pub here : (m n : ℕ) (ns : List ℕ) → m ≡ n → m ∈ (n ∷ ns)
unfolding member any
here m n ns e = ap (λ (t : Bool). t || member m ns) (to_true {b = eqb m n} (subst (λ (k : ℕ). T (eqb m k)) e (eqb_refl m)))

pub nothing_in : (n : ℕ) → n ∈ [] → ⊥
unfolding member any
nothing_in n h = false≢true h

-- ---- Induction along `visit`: a claim about the bound, the values to visit, the frames seen and the result

module _ (frames : List Frame) (P : ℕ → List Value → List ℕ → List ℕ → Type 0)
    (out : (vs : List Value) (seen : List ℕ) → P zero vs seen seen)
    (done : (k : ℕ) (seen : List ℕ) → P (suc k) [] seen seen)
    (skip : (k : ℕ) (v : Value) (vs : List Value) (seen r : List ℕ) → unseen_frame seen v ≡ none → P k vs seen r → P (suc k) (v ∷ vs) seen r)
    (enter : (k n : ℕ) (vs : List Value) (seen r : List ℕ) → member n seen ≡ false → P k (values_in frames n ++ vs) (n ∷ seen) r →
    P (suc k) (Value.Frame n ∷ vs) seen r) where
  visit_case : (k : ℕ) (v : Value) (vs : List Value) (seen r₀ : List ℕ) (r : ℕ → List ℕ) (o : Option ℕ) → unseen_frame seen v ≡ o →
      P k vs seen r₀ → ((n : ℕ) → P k (values_in frames n ++ vs) (n ∷ seen) (r n)) →
      P (suc k) (v ∷ vs) seen (elim o [ none ↦ r₀ | some n ↦ r n ])
  visit_case k v vs seen r₀ r none e a b = skip k v vs seen r₀ e a
  visit_case k v vs seen r₀ r (some n) e a b =
      let u = unseen_some seen v e in
      subst (λ (w : Value). P (suc k) (w ∷ vs) seen (r n)) (sym u.0) (enter k n vs seen (r n) u.1 (b n))

  visit_induction : (k : ℕ) (vs : List Value) (seen : List ℕ) → P k vs seen (visit k frames vs seen)
  unfolding visit
  visit_induction zero vs seen = out vs seen
  visit_induction (suc k) [] seen = done k seen
  visit_induction (suc k) (v ∷ vs) seen =
      visit_case k v vs seen (visit k frames vs seen) (λ n. visit k frames (values_in frames n ++ vs) (n ∷ seen)) (unseen_frame seen v) refl
      (visit_induction k vs seen) (λ n. visit_induction k (values_in frames n ++ vs) (n ∷ seen))

-- ---- Each once

twice_not : (n : ℕ) (seen : List ℕ) → member n seen ≡ false → has_twice seen ≡ false → has_twice (n ∷ seen) ≡ false
unfolding has_twice
twice_not n seen e h = rw (e, h)

visit_once : (frames : List Frame) (k : ℕ) (vs : List Value) (seen : List ℕ) → has_twice seen ≡ false → has_twice (visit k frames vs seen) ≡ false
visit_once frames k vs seen =
    visit_induction frames (λ k vs seen r. has_twice seen ≡ false → has_twice r ≡ false)
    (λ vs seen h. h) (λ k seen h. h) (λ k v vs seen r e a h. a h)
    (λ k n vs seen r e a h. a (twice_not n seen e h))
    k vs seen

-- ---- Sound: what is listed is reachable

module _ (frames : List Frame) (Σ Π : Value) where
  abbrev Reached : List Value → Type 0
  Reached vs = (v : Value) → Memᴰ v vs → Reachable frames Σ Π v

  abbrev ReachedFrames : List ℕ → Type 0
  ReachedFrames ns = (n : ℕ) → n ∈ ns → Reachable frames Σ Π (Value.Frame n)

  entered : (n : ℕ) (vs : List Value) → Reached (Value.Frame n ∷ vs) → Reached (values_in frames n ++ vs)
  entered n vs a v m =
      ⊎_elim (λ i. Reachable.in_slot (a (Value.Frame n) (Memᴰ.head refl)) i) (λ i. a v (Memᴰ.tail i))
      (Memᴰ.append_cases (values_in frames n) m)

  entered_frames : (n : ℕ) (vs : List Value) (seen : List ℕ) → Reached (Value.Frame n ∷ vs) → ReachedFrames seen → ReachedFrames (n ∷ seen)
  entered_frames n vs seen a b m h =
      ⊎_elim (λ e. subst (λ (k : ℕ). Reachable frames Σ Π (Value.Frame k)) (sym e) (a (Value.Frame n) (Memᴰ.head refl))) (λ i. b m i)
      (cons_cases m n seen h)

  visit_sound : (k : ℕ) (vs : List Value) (seen : List ℕ) → Reached vs → ReachedFrames seen → ReachedFrames (visit k frames vs seen)
  visit_sound k vs seen =
      visit_induction frames (λ k vs seen r. Reached vs → ReachedFrames seen → ReachedFrames r)
      (λ vs seen a b. b) (λ k seen a b. b)
      (λ k v vs seen r e f a b. f (λ w m. a w (Memᴰ.tail m)) b)
      (λ k n vs seen r e f a b. f (entered n vs a) (entered_frames n vs seen a b))
      k vs seen

  roots_reached : Reached (roots Σ Π)
  unfolding roots
  roots_reached v m = ⊎_elim (λ e. rw e Reachable.self) (λ i. ⊎_elim (λ e. rw e Reachable.program) (λ j. absurd (Memᴰ.not-nil j)) (Memᴰ.cases_cons i)) (Memᴰ.cases_cons m)

  pub reached_sound : (n : ℕ) → n ∈ reached_frames frames (roots Σ Π) → Reachable frames Σ Π (Value.Frame n)
  unfolding reached_frames
  reached_sound n h = visit_sound _ (roots Σ Π) [] roots_reached (λ n h. absurd (nothing_in n h)) n h

-- ---- Complete: with a bound that covers the values to visit and the slots of the frames not seen

-- the slots of the frames not in `seen`, where the first frame has the number k
weight : ℕ → List Frame → List ℕ → ℕ
weight k [] seen = 0
weight k (f ∷ fs) seen = (when member k seen then 0 else slot_count f) + weight (suc k) fs seen

other_number : (k n : ℕ) (seen : List ℕ) → k ≢ n → member k (n ∷ seen) ≡ member k seen
unfolding member any
other_number k n seen d = go (eqb k n) refl
  where
    go : (t : Bool) → eqb k n ≡ t → (t || member k seen) ≡ member k seen
    go true p = absurd (d (eqb→eq k n (rw p tt)))
    go false p = refl

slots_left : (k n : ℕ) (f : Frame) (seen : List ℕ) → k ≢ n →
    (when member k (n ∷ seen) then 0 else slot_count f) ≡ (when member k seen then 0 else slot_count f)
slots_left k n f seen d = ap (λ (t : Bool). when t then 0 else slot_count f) (other_number k n seen d)

-- numbers below k do not matter
lower_number : (k n : ℕ) (fs : List Frame) (seen : List ℕ) → n < k → weight k fs (n ∷ seen) ≡ weight k fs seen
unfolding weight
lower_number k n [] seen l = refl
lower_number k n (f ∷ fs) seen l =
    ap₂ (λ (a b : ℕ). a + b) (slots_left k n f seen (omega arith)) (lower_number (suc k) n fs seen (omega arith))

-- a frame that is seen now takes its slots away
weight_seen : (k j n : ℕ) (fs : List Frame) (seen : List ℕ) → n ≡ k + j → member n seen ≡ false →
    slot_count (get_or fs j (new_frame 0 [])) + weight k fs (n ∷ seen) ≡ weight k fs seen
unfolding weight slot_count
weight_seen k j n [] seen e h = refl
weight_seen k zero n (f ∷ fs) seen e h =
    let d : n ≡ k = omega arith in
    let a : (when member k (n ∷ seen) then 0 else slot_count f) ≡ 0 = ap (λ (t : Bool). when t then 0 else slot_count f) (here k n seen (sym d)) in
    let b : (when member k seen then 0 else slot_count f) ≡ slot_count f = ap (λ (t : Bool). when t then 0 else slot_count f) (subst (λ (i : ℕ). member i seen ≡ false) d h) in
    let c : weight (suc k) fs (n ∷ seen) ≡ weight (suc k) fs seen = lower_number (suc k) n fs seen (omega arith) in
    omega arith
weight_seen k (suc j) n (f ∷ fs) seen e h =
    let a : (when member k (n ∷ seen) then 0 else slot_count f) ≡ (when member k seen then 0 else slot_count f) = slots_left k n f seen (omega arith) in
    let b : slot_count (get_or fs j (new_frame 0 [])) + weight (suc k) fs (n ∷ seen) ≡ weight (suc k) fs seen = weight_seen (suc k) j n fs seen (omega arith) h in
    omega arith

weight_all : (k : ℕ) (fs : List Frame) → weight k fs [] ≡ total slot_count fs
unfolding weight total member any
weight_all k [] = refl
weight_all k (f ∷ fs) = ap (λ (n : ℕ). slot_count f + n) (weight_all (suc k) fs)

frame_inj : {m n : ℕ} → Value.Frame m ≡ Value.Frame n → m ≡ n
frame_inj e = cc

not_empty : {A : Type 0} {a : A} {l : List A} → Memᴰ a l → 0 < length l
not_empty (Memᴰ.head e) = omega arith
not_empty (Memᴰ.tail m) = omega arith

module _ (frames : List Frame) where
  -- every frame in a slot of a frame seen is seen or still to visit
  abbrev Closed : List Value → List ℕ → Type 0
  Closed vs seen = (m : ℕ) → m ∈ seen → (n : ℕ) → Memᴰ (Value.Frame n) (values_in frames m) → (n ∈ seen) ⊎ Memᴰ (Value.Frame n) vs

  record Complete (vs : List Value) (seen r : List ℕ) : Type 0 where
    keeps : (n : ℕ) → n ∈ seen → n ∈ r
    visits : (n : ℕ) → Memᴰ (Value.Frame n) vs → n ∈ r
    closes : (m : ℕ) → m ∈ r → (n : ℕ) → Memᴰ (Value.Frame n) (values_in frames m) → n ∈ r

  nothing_left : (vs : List Value) (seen : List ℕ) → ((n : ℕ) → Memᴰ (Value.Frame n) vs → ⊥) → Closed vs seen → Complete vs seen seen
  nothing_left vs seen e c = record {
    keeps = λ n h. h;
    visits = λ n m. absurd (e n m);
    closes = λ m h n i. ⊎_elim (λ x. x) (λ y. absurd (e n y)) (c m h n i);
  }

  skipped : (v : Value) (vs : List Value) (seen : List ℕ) → unseen_frame seen v ≡ none → Closed (v ∷ vs) seen → Closed vs seen
  skipped v vs seen e c m h n i =
      ⊎_elim (λ x. inl x) (λ y. ⊎_elim (λ p. inl (unseen_none seen v n e (sym p))) (λ z. inr z) (Memᴰ.cases_cons y)) (c m h n i)

  skip_complete : (v : Value) (vs : List Value) (seen r : List ℕ) → unseen_frame seen v ≡ none → Complete vs seen r → Complete (v ∷ vs) seen r
  skip_complete v vs seen r e f = record {
    keeps = f.keeps;
    visits = λ n m. ⊎_elim (λ p. f.keeps n (unseen_none seen v n e (sym p))) (λ z. f.visits n z) (Memᴰ.cases_cons m);
    closes = f.closes;
  }

  entered_closed : (n : ℕ) (vs : List Value) (seen : List ℕ) → Closed (Value.Frame n ∷ vs) seen → Closed (values_in frames n ++ vs) (n ∷ seen)
  entered_closed n vs seen c m h j i =
      ⊎_elim
      (λ p. inr (Memᴰ.append_left vs (subst (λ (k : ℕ). Memᴰ (Value.Frame j) (values_in frames k)) p i)))
      (λ q. ⊎_elim
      (λ x. inl (there j n seen x))
      (λ y. ⊎_elim (λ p. inl (here j n seen (frame_inj p))) (λ z. inr (Memᴰ.append_right (values_in frames n) z)) (Memᴰ.cases_cons y))
      (c m q j i))
      (cons_cases m n seen h)

  enter_complete : (n : ℕ) (vs : List Value) (seen r : List ℕ) → Complete (values_in frames n ++ vs) (n ∷ seen) r → Complete (Value.Frame n ∷ vs) seen r
  enter_complete n vs seen r f = record {
    keeps = λ j h. f.keeps j (there j n seen h);
    visits = λ j m. ⊎_elim (λ p. f.keeps j (here j n seen (frame_inj p))) (λ z. f.visits j (Memᴰ.append_right (values_in frames n) z)) (Memᴰ.cases_cons m);
    closes = f.closes;
  }

  slots_of : (n : ℕ) → length (values_in frames n) ≡ slot_count (get_or frames n (new_frame 0 []))
  unfolding values_in slot_count
  slots_of n = length-map (get_or frames n (new_frame 0 [])).slots slot_value

  visit_complete : (k : ℕ) (vs : List Value) (seen : List ℕ) → length vs + weight 0 frames seen ≤ k → Closed vs seen → Complete vs seen (visit k frames vs seen)
  visit_complete k vs seen =
      visit_induction frames (λ k vs seen r. length vs + weight 0 frames seen ≤ k → Closed vs seen → Complete vs seen r)
      (λ vs seen l c. nothing_left vs seen (λ n m. omega (arith, not_empty m)) c)
      (λ k seen l c. nothing_left [] seen (λ n m. Memᴰ.not-nil m) c)
      (λ k v vs seen r e f l c. skip_complete v vs seen r e (f (omega arith) (skipped v vs seen e c)))
      (λ k n vs seen r e f l c.
      enter_complete n vs seen r (f
      (omega (arith, length-append (values_in frames n) vs, slots_of n, weight_seen 0 n n frames seen (omega arith) e))
      (entered_closed n vs seen c)))
      k vs seen

  module _ (Σ Π : Value) where
    all : Complete (roots Σ Π) [] (reached_frames frames (roots Σ Π))
    unfolding reached_frames
    all = visit_complete (total slot_count frames + length (roots Σ Π)) (roots Σ Π) [] (omega (arith, weight_all 0 frames)) (λ m h. absurd (nothing_in m h))

    pub reached_complete : {v : Value} → Reachable frames Σ Π v → (n : ℕ) → v ≡ Value.Frame n → n ∈ reached_frames frames (roots Σ Π)
    unfolding roots
    reached_complete Reachable.self n e = all.visits n (Memᴰ.head (sym e))
    reached_complete Reachable.program n e = all.visits n (Memᴰ.tail (Memᴰ.head (sym e)))
    reached_complete (Reachable.in_slot {n = m} d i) n e =
        all.closes m (reached_complete d m refl) n (Memᴰ.cast (sym e) i)

-- The list of reached frames has each reachable frame, and each once
pub reach_agrees : (frames : List Frame) (Σ Π : Value) (n : ℕ) → (n ∈ reached_frames frames (roots Σ Π)) ↔ Reachable frames Σ Π (Value.Frame n)
reach_agrees frames Σ Π n = (λ h. reached_sound frames Σ Π n h, λ d. reached_complete frames Σ Π d n refl)

pub reached_once : (frames : List Frame) (Σ Π : Value) → has_twice (reached_frames frames (roots Σ Π)) ≡ false
unfolding reached_frames has_twice
reached_once frames Σ Π = visit_once frames _ (roots Σ Π) [] refl

-- ---- The made texts

distinct_in : (k : ℕ) (xs : List ℕ) → k ∈ distinct xs → k ∈ xs
unfolding distinct
distinct_in k [] h = h
distinct_in k (x ∷ xs) h = go (member x xs) (distinct_in k xs) h
  where
    go : (t : Bool) → (k ∈ distinct xs → k ∈ xs) → k ∈ (elim t [ true ↦ distinct xs | false ↦ x ∷ distinct xs ]) → k ∈ (x ∷ xs)
    go true f h = there k x xs (f h)
    go false f h = ⊎_elim (λ e. here k x xs e) (λ i. there k x xs (f i)) (cons_cases k x (distinct xs) h)

in_distinct : (k : ℕ) (xs : List ℕ) → k ∈ xs → k ∈ distinct xs
unfolding distinct
in_distinct k [] h = h
in_distinct k (x ∷ xs) h = go (member x xs) refl (in_distinct k xs) (cons_cases k x xs h)
  where
    go : (t : Bool) → member x xs ≡ t → (k ∈ xs → k ∈ distinct xs) → (k ≡ x) ⊎ (k ∈ xs) → k ∈ (elim t [ true ↦ distinct xs | false ↦ x ∷ distinct xs ])
    go true p f (inl e) = f (subst (λ (j : ℕ). j ∈ xs) (sym e) p)
    go true p f (inr i) = f i
    go false p f (inl e) = here k x (distinct xs) e
    go false p f (inr i) = there k x (distinct xs) (f i)

not_in : (t : Bool) {P : Type 0} → (t ≡ true → P) → ¬ P → t ≡ false
not_in true f n = absurd (n (f refl))
not_in false f n = refl

distinct_once : (xs : List ℕ) → has_twice (distinct xs) ≡ false
unfolding distinct has_twice
distinct_once [] = refl
distinct_once (x ∷ xs) = go (member x xs) refl (distinct_once xs)
  where
    go : (t : Bool) → member x xs ≡ t → has_twice (distinct xs) ≡ false → has_twice (elim t [ true ↦ distinct xs | false ↦ x ∷ distinct xs ]) ≡ false
    go true p h = h
    go false p h =
        twice_not x (distinct xs) (not_in (member x (distinct xs)) (λ i. distinct_in x xs i) (λ i. true≢false (sym i ∙ p))) h

made_sound : (k : ℕ) (vs : List Value) → k ∈ made_in vs → Memᴰ (Value.Text (Text.Made k)) vs
unfolding made_in
made_sound k [] h = absurd (nothing_in k h)
made_sound k (Value.Int z ∷ vs) h = Memᴰ.tail (made_sound k vs h)
made_sound k (Value.Text (Text.Literal j) ∷ vs) h = Memᴰ.tail (made_sound k vs h)
made_sound k (Value.Text (Text.Made j) ∷ vs) h =
    let r = made_sound k vs in
    ⊎_elim (λ e. Memᴰ.head (ap (λ (i : ℕ). Value.Text (Text.Made i)) e)) (λ i. Memᴰ.tail (r i)) (cons_cases k j (made_in vs) h)
made_sound k (Value.Code j ∷ vs) h = Memᴰ.tail (made_sound k vs h)
made_sound k (Value.Frame n ∷ vs) h = Memᴰ.tail (made_sound k vs h)

made_later : (k : ℕ) (v : Value) (vs : List Value) → k ∈ made_in vs → k ∈ made_in (v ∷ vs)
unfolding made_in
made_later k (Value.Int z) vs h = h
made_later k (Value.Text (Text.Literal j)) vs h = h
made_later k (Value.Text (Text.Made j)) vs h = there k j (made_in vs) h
made_later k (Value.Code j) vs h = h
made_later k (Value.Frame n) vs h = h

made_first : (k : ℕ) (v : Value) (vs : List Value) → Value.Text (Text.Made k) ≡ v → k ∈ made_in (v ∷ vs)
unfolding made_in
made_first k v vs e = subst (λ (w : Value). k ∈ made_in (w ∷ vs)) e (here k k (made_in vs) refl)

made_complete : (k : ℕ) {vs : List Value} → Memᴰ (Value.Text (Text.Made k)) vs → k ∈ made_in vs
made_complete k (Memᴰ.head {x} {xs} e) = made_first k x xs e
made_complete k (Memᴰ.tail {x} {xs} m) = made_later k x xs (made_complete k m)

all_sound : (frames : List Frame) (ns : List ℕ) {v : Value} → Memᴰ v (values_of_all frames ns) → (n : ℕ) × (n ∈ ns) × Memᴰ v (values_in frames n)
unfolding values_of_all
all_sound frames [] m = absurd (Memᴰ.not-nil m)
all_sound frames (n ∷ ns) m =
    let r = all_sound frames ns in
    ⊎_elim (λ i. (n, here n n ns refl, i)) (λ j. let q = r j in (q.0, there q.0 n ns q.1, q.2)) (Memᴰ.append_cases (values_in frames n) m)

all_complete : (frames : List Frame) (ns : List ℕ) (n : ℕ) {v : Value} → n ∈ ns → Memᴰ v (values_in frames n) → Memᴰ v (values_of_all frames ns)
unfolding values_of_all
all_complete frames [] n h m = absurd (nothing_in n h)
all_complete frames (k ∷ ns) n {v} h m =
    let r = all_complete frames ns n in
    ⊎_elim
    (λ e. Memᴰ.append_left (values_of_all frames ns) (subst (λ (j : ℕ). Memᴰ v (values_in frames j)) e m))
    (λ i. Memᴰ.append_right (values_in frames k) (r i m))
    (cons_cases n k ns h)

module _ (frames : List Frame) (Σ Π : Value) where
  texts_sound : (k : ℕ) → k ∈ reached_texts frames (roots Σ Π) → Reachable frames Σ Π (Value.Text (Text.Made k))
  unfolding reached_texts texts_from roots
  texts_sound k h =
      ⊎_elim (λ e. rw e Reachable.self)
      (λ m. ⊎_elim (λ e. rw e Reachable.program)
      (λ i. let q = all_sound frames (reached_frames frames (roots Σ Π)) i in Reachable.in_slot (reached_sound frames Σ Π q.0 q.1) q.2)
      (Memᴰ.cases_cons m))
      (Memᴰ.cases_cons (made_sound k _ (distinct_in k _ h)))

  reached_value : {v : Value} → Reachable frames Σ Π v → Memᴰ v (roots Σ Π ++ values_of_all frames (reached_frames frames (roots Σ Π)))
  unfolding roots
  reached_value Reachable.self = Memᴰ.head refl
  reached_value Reachable.program = Memᴰ.tail (Memᴰ.head refl)
  reached_value (Reachable.in_slot {n} d i) =
      Memᴰ.tail (Memᴰ.tail (all_complete frames (reached_frames frames (roots Σ Π)) n (reached_complete frames Σ Π d n refl) i))

  pub texts_agree : (k : ℕ) → (k ∈ reached_texts frames (roots Σ Π)) ↔ Reachable frames Σ Π (Value.Text (Text.Made k))
  unfolding reached_texts texts_from
  texts_agree k = (λ h. texts_sound k h, λ d. in_distinct k _ (made_complete k (reached_value d)))

  pub texts_once : has_twice (reached_texts frames (roots Σ Π)) ≡ false
  unfolding reached_texts texts_from
  texts_once = distinct_once _

-- ---- Collect's totals

pub reach_counts : ReachCounts
unfolding frame_total text_total
reach_counts = record {
  frames = λ s. record {
    list = reached_frames s.heap.frames (roots s.self s.program);
    each_once = reached_once s.heap.frames s.self s.program;
    exactly = reach_agrees s.heap.frames s.self s.program;
    counted = refl;
  };
  texts = λ s. record {
    list = reached_texts s.heap.frames (roots s.self s.program);
    each_once = texts_once s.heap.frames s.self s.program;
    exactly = texts_agree s.heap.frames s.self s.program;
    counted = refl;
  };
}
