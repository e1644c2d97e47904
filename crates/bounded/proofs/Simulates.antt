-- Two views under a relation that is one-to-one: what is read agrees, writes keep it, what is reached has partners. Assumes nothing.
use mathlib.Core.Path.{◌≡◌, refl, sym, ap, ap₂, ◌∙◌, subst}
use mathlib.Core.Logic.{◌⊎◌, inl, inr, ⊎_elim}
use mathlib.Core.Bool.{Bool, true, false, ◌||◌, ◌&&◌}
use mathlib.Core.Option.{Option, none, some}
use mathlib.Core.List.Memᴰ
use mathlib.Core.List.{List, [], ◌∷◌, ◌++◌, map, Memᴰ}
use Prim.Native.Nat.{ℕ, suc}
use native.Mathlib.Decide.{ℕ_discrete}
use native.Mathlib.Omega.{arith}
use lib.IntN.{ℤ}
use lib.ListN.{length}
use lib.Dec.{eqb}
use borrow.Author.Tests.{eq-eqb, ne_eqb}
use Rattle.framed.specs.declared.Value.{Value}
use Rattle.framed.specs.declared.Text.{Text}
use Rattle.framed.specs.Common.{same}
use Rattle.framed.specs.Tokens.{Operator}
use Rattle.framed.specs.Tree.{Base}
use Rattle.framed.specs.Paths.{Path, from_self, from_program}
use Rattle.framed.specs.Values.{Slot, Frame, new_frame, text_bytes, shown, join_bytes, truth}
use Rattle.framed.specs.Equality.{Constants, equal_values}
use Rattle.framed.specs.Fetch.{in_slots, in_frame, frame_of, get, fetch}
use Rattle.framed.specs.Fetch as F
use Rattle.framed.specs.Reach.{slot_value, values_in, Reachable}
use Rattle.framed.specs.Machine.{Result, gives, ends, defined, set_slot, holds, frame_number, base_value, integer_in, code_number}
use Rattle.framed.specs.Machine as M
use Rattle.bounded.specs.Views.{View, frame_at, text_at, FrameWritten, TextWritten}
use Rattle.bounded.specs.Store.{ReachedIn, CollectedTo}
use Rattle.bounded.specs.Operations.{measured, flag, operated}
use Rattle.bounded.specs.Check.{operation_result, Target, target, has_place, Jump, jump_result}
use Rattle.bounded.specs.Relation.{Rel, ValueRel, integers, literals, texts, codes, frames, SlotsRel, none_left, next_slot, FramesLinked, TextsLinked, Simulates}
use Rattle.framed.proofs.Lists.{get_default}
use Rattle.bounded.proofs.Views.{frame_read, text_read, Extends}

-- ---- Relations, larger and turned round

infixl 20 ◌⊆◌
pub record ◌⊆◌ (R R' : Rel) : Type 0 where
  pub up_frame : (m n : ℕ) → R.frame m n → R'.frame m n
  pub up_text : (j k : ℕ) → R.text j k → R'.text j k

pub same_rel : (R : Rel) → R ⊆ R
same_rel R = record { up_frame = λ m n r. r; up_text = λ j k r. r }

pub up_trans : {R R' R'' : Rel} → R ⊆ R' → R' ⊆ R'' → R ⊆ R''
up_trans a b = record { up_frame = λ m n r. b.up_frame m n (a.up_frame m n r); up_text = λ j k r. b.up_text j k (a.up_text j k r) }

pub value_up : {R R' : Rel} → R ⊆ R' → {v w : Value} → ValueRel R v w → ValueRel R' v w
value_up u integers = integers
value_up u literals = literals
value_up u (texts {j = j} {k = k} r) = texts (u.up_text j k r)
value_up u codes = codes
value_up u (frames {m = m} {n = n} r) = frames (u.up_frame m n r)

pub slots_up : {R R' : Rel} → R ⊆ R' → {xs ys : List Slot} → SlotsRel R xs ys → SlotsRel R' xs ys
slots_up u none_left = none_left
slots_up u (next_slot e v h) = next_slot e (value_up u v) (slots_up u h)

abbrev pub Op : Rel → Rel
Op R = record { frame = λ n m. R.frame m n; text = λ k j. R.text j k }

pub value_op : {R : Rel} {v w : Value} → ValueRel R v w → ValueRel (Op R) w v
value_op integers = integers
value_op literals = literals
value_op (texts r) = texts r
value_op codes = codes
value_op (frames r) = frames r

slots_op : {R : Rel} {xs ys : List Slot} → SlotsRel R xs ys → SlotsRel (Op R) ys xs
slots_op none_left = none_left
slots_op (next_slot e v h) = next_slot (sym e) (value_op v) (slots_op h)

pub slots_length : {R : Rel} {xs ys : List Slot} → SlotsRel R xs ys → length xs ≡ length ys
slots_length none_left = refl
slots_length (next_slot e v h) = ap suc (slots_length h)

pub simulates_op : {R : Rel} {H K : View} → Simulates R H K → Simulates (Op R) K H
simulates_op {R} {H} {K} S = record {
  frame_link = λ n m r. let l = S.frame_link m n r in record { left = l.right; right = l.left; at_left = l.at_right; at_right = l.at_left; alike = slots_op l.alike; same_maker = sym l.same_maker };
  frame_right = λ m n o r q. S.frame_left n o m r q;
  frame_left = λ m n o r q. S.frame_right o m n r q;
  text_link = λ k j r. let l = S.text_link j k r in record { bytes = l.bytes; at_left = l.at_right; at_right = l.at_left };
  text_right = λ j k l r q. S.text_left k l j r q;
  text_left = λ j k l r q. S.text_right l j k r q;
}

-- what is related stays so where what was there is there still
pub simulates_extended : {R : Rel} {H H' K K' : View} → Simulates R H K → Extends H H' → Extends K K' → Simulates R H' K'
simulates_extended S a b = record {
  frame_link = λ m n r. let l = S.frame_link m n r in
      record { left = l.left; right = l.right; at_left = a.old_frame m l.left l.at_left; at_right = b.old_frame n l.right l.at_right; alike = l.alike; same_maker = l.same_maker };
  frame_right = S.frame_right;
  frame_left = S.frame_left;
  text_link = λ j k r. let l = S.text_link j k r in
      record { bytes = l.bytes; at_left = a.old_text j l.bytes l.at_left; at_right = b.old_text k l.bytes l.at_right };
  text_right = S.text_right;
  text_left = S.text_left;
}

-- two values that are related to one are the same
pub value_unique : {R : Rel} {H K : View} → Simulates R H K → {u v w : Value} → ValueRel R u w → ValueRel R v w → u ≡ v
value_unique S integers integers = refl
value_unique S literals literals = refl
value_unique S (texts {j = i} {k = k} r) (texts {j = j} q) = ap (λ (n : ℕ). Value.Text (Text.Made n)) (S.text_left i j k r q)
value_unique S codes codes = refl
value_unique S (frames {m = m} {n = n} r) (frames {m = o} q) = ap Value.Frame (S.frame_left m o n r q)

-- ---- Fetch

pub data OptionRel (R : Rel) : Option Value → Option Value → Type 0 where
  both_none : OptionRel R none none
  both_some : {v w : Value} → ValueRel R v w → OptionRel R (some v) (some w)

pub slot_rel : {R : Rel} (n : ℕ) {xs ys : List Slot} → SlotsRel R xs ys → OptionRel R (in_slots xs n) (in_slots ys n)
unfolding in_slots
slot_rel n none_left = both_none
slot_rel {R} n (next_slot {x = x} {y = y} {xs = xs} {ys = ys} e v h) = rw (← e) (step (eqb x.name n) (slot_rel n h))
  where
    step : (t : Bool) → OptionRel R (in_slots xs n) (in_slots ys n) →
        OptionRel R (elim t [ true ↦ some x.value | false ↦ in_slots xs n ]) (elim t [ true ↦ some y.value | false ↦ in_slots ys n ])
    step true r = both_some v
    step false r = r

module _ {R : Rel} {H K : View} (S : Simulates R H K) where
  get_rel : (n : ℕ) {v w : Value} → ValueRel R v w → OptionRel R (get H.heap.frames v n) (get K.heap.frames w n)
  unfolding get frame_of in_frame F.◌>>=◌
  get_rel n integers = both_none
  get_rel n literals = both_none
  get_rel n (texts r) = both_none
  get_rel n codes = both_none
  get_rel n (frames {m = a} {n = b} r) =
      let l = S.frame_link a b r in
      rw (frame_read H a l.left l.at_left, frame_read K b l.right l.at_right) (slot_rel n l.alike)

  pub fetch_rel : (ns : List ℕ) {v w : Value} → ValueRel R v w → OptionRel R (fetch H.heap.frames v ns) (fetch K.heap.frames w ns)
  unfolding fetch F.◌>>=◌
  fetch_rel [] r = both_some r
  fetch_rel (n ∷ ns) r = step (get_rel n r) (λ v w q. fetch_rel ns q)
    where
      step : {o q : Option Value} → OptionRel R o q → ((v w : Value) → ValueRel R v w → OptionRel R (fetch H.heap.frames v ns) (fetch K.heap.frames w ns)) →
          OptionRel R (F.◌>>=◌ o (λ v. fetch H.heap.frames v ns)) (F.◌>>=◌ q (λ w. fetch K.heap.frames w ns))
      step both_none k = both_none
      step (both_some {v = v} {w = w} r) k = k v w r

-- ---- The value of a base

pub data BaseRel (R : Rel) : Result Value → Result Value → Type 0 where
  both_give : {v w : Value} → ValueRel R v w → BaseRel R (gives v) (gives w)
  both_end : BaseRel R (ends 31) (ends 31)

defined_rel : {R : Rel} {a b : Option Value} → OptionRel R a b → BaseRel R (defined a) (defined b)
unfolding defined
defined_rel both_none = both_end
defined_rel (both_some r) = both_give r

module _ {R : Rel} {H K : View} (S : Simulates R H K) {Σ Σ' Π Π' : Value} (s : ValueRel R Σ Σ') (q : ValueRel R Π Π') where
  pub base_rel : (b : Base Path) → BaseRel R (base_value Σ Π H.heap.frames b) (base_value Σ' Π' K.heap.frames b)
  unfolding base_value
  base_rel (Base.integer z) = both_give integers
  base_rel (Base.string k) = both_give literals
  base_rel (Base.code k is) = both_give codes
  base_rel (Base.path (from_self ns)) = defined_rel (fetch_rel S ns s)
  base_rel (Base.path (from_program ns)) = defined_rel (fetch_rel S ns q)

pub base_unique : {R : Rel} {H K : View} → Simulates R H K → {a b c : Result Value} → BaseRel R a c → BaseRel R b c → a ≡ b
base_unique S (both_give r) (both_give q) = ap gives (value_unique S r q)
base_unique S both_end both_end = refl

-- ---- What a value is when it is shown, joined, compared or tested: the same on both sides

pub truth_rel : {R : Rel} {v w : Value} → ValueRel R v w → truth v ≡ truth w
unfolding truth
truth_rel integers = refl
truth_rel literals = refl
truth_rel (texts r) = refl
truth_rel codes = refl
truth_rel (frames r) = refl

integer_rel : {R : Rel} {v w : Value} → ValueRel R v w → integer_in v ≡ integer_in w
unfolding integer_in
integer_rel integers = refl
integer_rel literals = refl
integer_rel (texts r) = refl
integer_rel codes = refl
integer_rel (frames r) = refl

module _ {R : Rel} {H K : View} (S : Simulates R H K) (cs : Constants) where
  made_rel : (j k : ℕ) → R.text j k → text_bytes cs.literals H.heap.texts (Text.Made j) ≡ text_bytes cs.literals K.heap.texts (Text.Made k)
  unfolding text_bytes
  made_rel j k r =
      let l = S.text_link j k r in
      get_default H.heap.texts j [] l.bytes (text_read H j l.bytes l.at_left)
      ∙ sym (get_default K.heap.texts k [] l.bytes (text_read K k l.bytes l.at_right))

  pub shown_rel : {v w : Value} → ValueRel R v w → shown cs.literals H.heap.texts v ≡ shown cs.literals K.heap.texts w
  unfolding shown text_bytes
  shown_rel integers = refl
  shown_rel literals = refl
  shown_rel (texts {j = j} {k = k} r) = made_rel j k r
  shown_rel codes = refl
  shown_rel (frames r) = refl

  join_rel : {v v' w w' : Value} → ValueRel R v v' → ValueRel R w w' → join_bytes cs.literals H.heap.texts v w ≡ join_bytes cs.literals K.heap.texts v' w'
  unfolding join_bytes
  join_rel r q = ap₂ (λ (a b : List ℕ). a ++ b) (shown_rel r) (shown_rel q)

  number_rel : (a b c d : ℕ) → R.frame a c → R.frame b d → eqb a b ≡ eqb c d
  number_rel a b c d r q = step (ℕ_discrete a b)
    where
      step : Dec (a ≡ b) → eqb a b ≡ eqb c d
      step (yes e) = eq-eqb a b e ∙ sym (eq-eqb c d (S.frame_right a c d r (subst (λ (n : ℕ). R.frame n d) (sym e) q)))
      step (no e) = ne_eqb a b e ∙ sym (ne_eqb c d (λ i. e (S.frame_left a b d (subst (λ (n : ℕ). R.frame a n) i r) q)))

  literal_rel : (k : ℕ) → text_bytes cs.literals H.heap.texts (Text.Literal k) ≡ text_bytes cs.literals K.heap.texts (Text.Literal k)
  unfolding text_bytes
  literal_rel k = refl

  equal_rel : {v v' w w' : Value} → ValueRel R v v' → ValueRel R w w' → equal_values cs H.heap.texts v w ≡ equal_values cs K.heap.texts v' w'
  unfolding equal_values
  equal_rel integers integers = refl
  equal_rel integers literals = refl
  equal_rel integers (texts q) = refl
  equal_rel integers codes = refl
  equal_rel integers (frames q) = refl
  equal_rel literals integers = refl
  equal_rel (literals {k = i}) (literals {k = k}) = ap₂ same (literal_rel i) (literal_rel k)
  equal_rel (literals {k = i}) (texts {j = j} {k = k} q) = ap₂ same (literal_rel i) (made_rel j k q)
  equal_rel literals codes = refl
  equal_rel literals (frames q) = refl
  equal_rel (texts r) integers = refl
  equal_rel (texts {j = j} {k = k} r) (literals {k = i}) = ap₂ same (made_rel j k r) (literal_rel i)
  equal_rel (texts {j = j} {k = k} r) (texts {j = l} {k = m} q) = ap₂ same (made_rel j k r) (made_rel l m q)
  equal_rel (texts r) codes = refl
  equal_rel (texts r) (frames q) = refl
  equal_rel codes integers = refl
  equal_rel codes literals = refl
  equal_rel codes (texts q) = refl
  equal_rel codes codes = refl
  equal_rel codes (frames q) = refl
  equal_rel (frames r) integers = refl
  equal_rel (frames r) literals = refl
  equal_rel (frames r) (texts q) = refl
  equal_rel (frames r) codes = refl
  equal_rel (frames {m = a} {n = c} r) (frames {m = b} {n = d} q) = number_rel a b c d r q

  two_integers : {A : Type 0} (f : ℤ → ℤ → Result A) {v v' w w' : Value} → ValueRel R v v' → ValueRel R w w' →
      M.◌>>=◌ (integer_in v) (λ y. M.◌>>=◌ (integer_in w) (λ z. f y z)) ≡ M.◌>>=◌ (integer_in v') (λ y. M.◌>>=◌ (integer_in w') (λ z. f y z))
  two_integers f r q = ap₂ (λ a b. M.◌>>=◌ a (λ y. M.◌>>=◌ b (λ z. f y z))) (integer_rel r) (integer_rel q)

  operated_rel : (o : Operator) {v v' w w' : Value} → ValueRel R v v' → ValueRel R w w' → operated cs H.heap.texts o v w ≡ operated cs K.heap.texts o v' w'
  unfolding operated
  operated_rel Operator.plus r q = two_integers _ r q
  operated_rel Operator.minus r q = two_integers _ r q
  operated_rel Operator.times r q = two_integers _ r q
  operated_rel Operator.over r q = two_integers _ r q
  operated_rel Operator.less r q = two_integers _ r q
  operated_rel Operator.join r q = ap measured (join_rel r q)
  operated_rel Operator.equal r q = ap (λ t. gives (flag t)) (equal_rel r q)
  operated_rel Operator.and r q = ap₂ (λ a b. gives (flag (a && b))) (truth_rel r) (truth_rel q)
  operated_rel Operator.or r q = ap₂ (λ a b. gives (flag (a || b))) (truth_rel r) (truth_rel q)

  -- an operation between two bases
  pub operation_rel : {Σ Σ' Π Π' : Value} → ValueRel R Σ Σ' → ValueRel R Π Π' → (o : Operator) (a b : Base Path) →
      operation_result cs Σ Π H.heap o a b ≡ operation_result cs Σ' Π' K.heap o a b
  unfolding operation_result M.◌>>=◌
  operation_rel {Σ} {Σ'} {Π} {Π'} s q o a b = step (base_rel S s q a) (base_rel S s q b)
    where
      step : {x x' y y' : Result Value} → BaseRel R x x' → BaseRel R y y' →
          M.◌>>=◌ x (λ v. M.◌>>=◌ y (λ w. operated cs H.heap.texts o v w)) ≡ M.◌>>=◌ x' (λ v. M.◌>>=◌ y' (λ w. operated cs K.heap.texts o v w))
      step (both_give r) (both_give t) = operated_rel o r t
      step (both_give r) both_end = refl
      step both_end t = refl

-- ---- Put

pub data TargetRel (R : Rel) : Result Target → Result Target → Type 0 where
  both_lead : {m n x : ℕ} → R.frame m n → TargetRel R (gives (record { frame = m; name = x })) (gives (record { frame = n; name = x }))
  none_leads : TargetRel R (ends 31) (ends 31)

module _ {R : Rel} {H K : View} (S : Simulates R H K) where
  pub target_rel : (ns : List ℕ) (n : ℕ) {v w : Value} → ValueRel R v w → TargetRel R (target H.heap.frames v n ns) (target K.heap.frames w n ns)
  unfolding target frame_number M.◌>>=◌ defined
  target_rel [] n integers = none_leads
  target_rel [] n literals = none_leads
  target_rel [] n (texts r) = none_leads
  target_rel [] n codes = none_leads
  target_rel [] n (frames r) = both_lead r
  target_rel (m ∷ ns) n r = step (get_rel S n r) (λ v w q. target_rel ns m q)
    where
      step : {o q : Option Value} → OptionRel R o q → ((v w : Value) → ValueRel R v w → TargetRel R (target H.heap.frames v m ns) (target K.heap.frames w m ns)) →
          TargetRel R (M.◌>>=◌ (defined o) (λ v. target H.heap.frames v m ns)) (M.◌>>=◌ (defined q) (λ w. target K.heap.frames w m ns))
      step both_none k = none_leads
      step (both_some {v = v} {w = w} r) k = k v w r

pub target_unique : {R : Rel} {H K : View} → Simulates R H K → {a b c : Result Target} → TargetRel R a c → TargetRel R b c → a ≡ b
target_unique S (both_lead {m = m} {n = n} {x = x} r) (both_lead {m = o} q) = ap (λ (k : ℕ). gives (record { frame = k; name = x })) (S.frame_left m o n r q)
target_unique S none_leads none_leads = refl

holds_rel : {R : Rel} (n : ℕ) (f g : Frame) → SlotsRel R f.slots g.slots → holds f n ≡ holds g n
unfolding holds in_frame
holds_rel {R} n f g h = step (slot_rel n h)
  where
    step : {o q : Option Value} → OptionRel R o q → ◌≡◌ {A = Bool} (elim o [ none ↦ false | some v ↦ true ]) (elim q [ none ↦ false | some v ↦ true ])
    step both_none = refl
    step (both_some r) = refl

pub place_rel : {R : Rel} (n : ℕ) (f g : Frame) → SlotsRel R f.slots g.slots → has_place f n ≡ has_place g n
unfolding has_place
place_rel n f g h = rw (holds_rel n f g h, slots_length h)

pub set_rel : {R : Rel} (n : ℕ) {v w : Value} → ValueRel R v w → {xs ys : List Slot} → SlotsRel R xs ys → SlotsRel R (set_slot xs n v) (set_slot ys n w)
unfolding set_slot
set_rel n r none_left = next_slot refl r none_left
set_rel {R} n {v} {w} r (next_slot {x = x} {y = y} {xs = xs} {ys = ys} e u h) =
    subst
    (λ (m : ℕ). SlotsRel R (set_slot (x ∷ xs) n v) (elim (eqb m n) [ true ↦ record { name = n; value = w } ∷ ys | false ↦ y ∷ set_slot ys n w ]))
    e (step (eqb x.name n) (set_rel n r h))
  where
    step : (t : Bool) → SlotsRel R (set_slot xs n v) (set_slot ys n w) →
        SlotsRel R (elim t [ true ↦ record { name = n; value = v } ∷ xs | false ↦ x ∷ set_slot xs n v ]) (elim t [ true ↦ record { name = n; value = w } ∷ ys | false ↦ y ∷ set_slot ys n w ])
    step true k = next_slot refl r h
    step false k = next_slot e u k

-- ---- A jump

pub data JumpRel (R : Rel) : Result Jump → Result Jump → Type 0 where
  both_jump : {k : ℕ} {v w : Value} → ValueRel R v w → JumpRel R (gives (record { code = k; self = v })) (gives (record { code = k; self = w }))
  none_jumps : JumpRel R (ends 31) (ends 31)

pub jump_rel : {R : Rel} {H K : View} (S : Simulates R H K) {Σ Σ' Π Π' : Value} → ValueRel R Σ Σ' → ValueRel R Π Π' → (a b : Base Path) →
    JumpRel R (jump_result Σ Π H.heap.frames a b) (jump_result Σ' Π' K.heap.frames a b)
unfolding jump_result M.◌>>=◌ code_number
jump_rel {R} {H} {K} S {Σ} {Σ'} {Π} {Π'} s q a b = step (base_rel S s q a) (base_rel S s q b)
  where
    step : {x x' y y' : Result Value} → BaseRel R x x' → BaseRel R y y' →
        JumpRel R (M.◌>>=◌ x (λ v. M.◌>>=◌ (code_number v) (λ k. M.◌>>=◌ y (λ w. gives (record { code = k; self = w })))))
        (M.◌>>=◌ x' (λ v. M.◌>>=◌ (code_number v) (λ k. M.◌>>=◌ y' (λ w. gives (record { code = k; self = w })))))
    step (both_give integers) t = none_jumps
    step (both_give literals) t = none_jumps
    step (both_give (texts r)) t = none_jumps
    step (both_give codes) (both_give r) = both_jump r
    step (both_give codes) both_end = none_jumps
    step (both_give (frames r)) t = none_jumps
    step both_end t = none_jumps

-- ---- Writes

module _ {R : Rel} {H K : View} (S : Simulates R H K) where
  -- a related frame is written on both sides
  pub write_both : {H' K' : View} {m n : ℕ} {f g : Frame} → R.frame m n → SlotsRel R f.slots g.slots → f.maker ≡ g.maker → FrameWritten H H' m f →
      FrameWritten K K' n g → Simulates R H' K'
  write_both {H'} {K'} {m} {n} {f} {g} r fg made w w' =
      record { frame_link = link; frame_right = S.frame_right; frame_left = S.frame_left; text_link = text; text_right = S.text_right; text_left = S.text_left }
    where
      text : (j k : ℕ) → R.text j k → TextsLinked H' K' j k
      text j k q = let l = S.text_link j k q in record { bytes = l.bytes; at_left = w.texts j ∙ l.at_left; at_right = w'.texts k ∙ l.at_right }

      link : (c d : ℕ) → R.frame c d → FramesLinked R H' K' c d
      link c d q = step (ℕ_discrete c m)
        where
          step : Dec (c ≡ m) → FramesLinked R H' K' c d
          step (yes e) = record {
            left = f;
            right = g;
            at_left = ap (frame_at H') e ∙ w.here;
            at_right = ap (frame_at K') (S.frame_right m d n (subst (λ (z : ℕ). R.frame z d) e q) r) ∙ w'.here;
            alike = fg;
            same_maker = made;
          }
          step (no e) =
              let l = S.frame_link c d q in
              record {
                left = l.left;
                right = l.right;
                at_left = w.there c e ∙ l.at_left;
                at_right = w'.there d (λ i. e (S.frame_left c m n (subst (λ (z : ℕ). R.frame c z) i q) r)) ∙ l.at_right;
                alike = l.alike;
                same_maker = l.same_maker;
              }

  -- a frame, or a text, that nothing is related to is written
  pub write_outside : {H' : View} {m : ℕ} {f : Frame} → ((n : ℕ) → R.frame m n → ⊥) → FrameWritten H H' m f → Simulates R H' K
  write_outside out w = record {
    frame_link = λ c d q. let l = S.frame_link c d q in
        record { left = l.left; right = l.right; at_left = w.there c (λ e. out d (subst (λ (z : ℕ). R.frame z d) e q)) ∙ l.at_left; at_right = l.at_right; alike = l.alike; same_maker = l.same_maker };
    frame_right = S.frame_right;
    frame_left = S.frame_left;
    text_link = λ j k q. let l = S.text_link j k q in record { bytes = l.bytes; at_left = w.texts j ∙ l.at_left; at_right = l.at_right };
    text_right = S.text_right;
    text_left = S.text_left;
  }

  pub write_text_outside : {H' : View} {j : ℕ} {bs : List ℕ} → ((k : ℕ) → R.text j k → ⊥) → TextWritten H H' j bs → Simulates R H' K
  write_text_outside out w = record {
    frame_link = λ c d q. let l = S.frame_link c d q in
        record { left = l.left; right = l.right; at_left = w.frames c ∙ l.at_left; at_right = l.at_right; alike = l.alike; same_maker = l.same_maker };
    frame_right = S.frame_right;
    frame_left = S.frame_left;
    text_link = λ c d q. let l = S.text_link c d q in
        record { bytes = l.bytes; at_left = w.there c (λ e. out d (subst (λ (z : ℕ). R.text z d) e q)) ∙ l.at_left; at_right = l.at_right };
    text_right = S.text_right;
    text_left = S.text_left;
  }

-- a relation that is one-to-one stays so with a pair of two new numbers
abbrev pub Plus : (ℕ → ℕ → Type 0) → ℕ → ℕ → ℕ → ℕ → Type 0
Plus Q k n a b = Q a b ⊎ ((a ≡ k) × (b ≡ n))

module _ (Q : ℕ → ℕ → Type 0) (k n : ℕ) (not_k : (b : ℕ) → Q k b → ⊥) (not_n : (a : ℕ) → Q a n → ⊥) where
  plus_right : ((a b c : ℕ) → Q a b → Q a c → b ≡ c) → (a b c : ℕ) → Plus Q k n a b → Plus Q k n a c → b ≡ c
  plus_right h a b c (inl r) (inl q) = h a b c r q
  plus_right h a b c (inl r) (inr e) = absurd (not_k b (subst (λ (z : ℕ). Q z b) e.0 r))
  plus_right h a b c (inr e) (inl r) = absurd (not_k c (subst (λ (z : ℕ). Q z c) e.0 r))
  plus_right h a b c (inr e) (inr f) = e.1 ∙ sym f.1

  plus_left : ((a b c : ℕ) → Q a c → Q b c → a ≡ b) → (a b c : ℕ) → Plus Q k n a c → Plus Q k n b c → a ≡ b
  plus_left h a b c (inl r) (inl q) = h a b c r q
  plus_left h a b c (inl r) (inr e) = absurd (not_n a (subst (λ (z : ℕ). Q a z) e.1 r))
  plus_left h a b c (inr e) (inl r) = absurd (not_n b (subst (λ (z : ℕ). Q b z) e.1 r))
  plus_left h a b c (inr e) (inr f) = e.0 ∙ sym f.0

abbrev pub With : Rel → ℕ → ℕ → Rel
With R m n = record { frame = Plus R.frame m n; text = R.text }

abbrev pub WithText : Rel → ℕ → ℕ → Rel
WithText R j k = record { frame = R.frame; text = Plus R.text j k }

pub up_with : (R : Rel) (m n : ℕ) → R ⊆ With R m n
up_with R m n = record { up_frame = λ a b r. inl r; up_text = λ a b r. r }

pub up_with_text : (R : Rel) (j k : ℕ) → R ⊆ WithText R j k
up_with_text R j k = record { up_frame = λ a b r. r; up_text = λ a b r. inl r }

linked_up : {R R' : Rel} {H K : View} {m n : ℕ} → R ⊆ R' → FramesLinked R H K m n → FramesLinked R' H K m n
linked_up u l = record { left = l.left; right = l.right; at_left = l.at_left; at_right = l.at_right; alike = slots_up u l.alike; same_maker = l.same_maker }

pub add_frame : {R : Rel} {H K : View} {m n : ℕ} {f g : Frame} → Simulates R H K → ((b : ℕ) → R.frame m b → ⊥) → ((a : ℕ) → R.frame a n → ⊥) →
    frame_at H m ≡ some f → frame_at K n ≡ some g → SlotsRel R f.slots g.slots → f.maker ≡ g.maker → Simulates (With R m n) H K
add_frame {R} {H} {K} {m} {n} {f} {g} S not-m not_n hm kn fg made = record {
  frame_link = link;
  frame_right = plus_right R.frame m n not-m not_n S.frame_right;
  frame_left = plus_left R.frame m n not-m not_n S.frame_left;
  text_link = S.text_link;
  text_right = S.text_right;
  text_left = S.text_left;
}
  where
    link : (a b : ℕ) → Plus R.frame m n a b → FramesLinked (With R m n) H K a b
    link a b (inl r) = linked_up (up_with R m n) (S.frame_link a b r)
    link a b (inr e) =
        record { left = f; right = g; at_left = ap (frame_at H) e.0 ∙ hm; at_right = ap (frame_at K) e.1 ∙ kn; alike = slots_up (up_with R m n) fg; same_maker = made }

pub add_text : {R : Rel} {H K : View} {j k : ℕ} {bs : List ℕ} → Simulates R H K → ((b : ℕ) → R.text j b → ⊥) → ((a : ℕ) → R.text a k → ⊥) →
    text_at H j ≡ some bs → text_at K k ≡ some bs → Simulates (WithText R j k) H K
add_text {R} {H} {K} {j} {k} {bs} S not-j not_k hj kk = record {
  frame_link = λ a b r. linked_up (up_with_text R j k) (S.frame_link a b r);
  frame_right = S.frame_right;
  frame_left = S.frame_left;
  text_link = link;
  text_right = plus_right R.text j k not-j not_k S.text_right;
  text_left = plus_left R.text j k not-j not_k S.text_left;
}
  where
    link : (a b : ℕ) → Plus R.text j k a b → TextsLinked H K a b
    link a b (inl r) = S.text_link a b r
    link a b (inr e) = record { bytes = bs; at_left = ap (text_at H) e.0 ∙ hj; at_right = ap (text_at K) e.1 ∙ kk }

-- ---- What is reached has partners that are reached

-- the values in the slots of a frame that is in use
pub values_at : (H : View) (n : ℕ) (f : Frame) → frame_at H n ≡ some f → values_in H.heap.frames n ≡ map slot_value f.slots
unfolding values_in
values_at H n f e = ap (λ (g : Frame). map slot_value g.slots) (get_default H.heap.frames n (new_frame 0 []) f (frame_read H n f e))

slot_partner : {R : Rel} {xs ys : List Slot} → SlotsRel R xs ys → {v : Value} → Memᴰ v (map slot_value xs) →
    (w : Value) × ValueRel R v w × Memᴰ w (map slot_value ys)
unfolding slot_value
slot_partner none_left i = absurd (Memᴰ.not-nil i)
slot_partner {R} (next_slot {x = x} {y = y} e u h) {v} i =
    let r = slot_partner h in
    ⊎_elim (λ q. (y.value, subst (λ (z : Value). ValueRel R z y.value) (sym q) u, Memᴰ.head refl))
    (λ j. let q = r j in (q.0, q.1, Memᴰ.tail q.2)) (Memᴰ.cases_cons i)

-- what is related to a frame is a frame
pub frame_partner : {R : Rel} {v w : Value} → ValueRel R v w → (m : ℕ) → v ≡ Value.Frame m → (n : ℕ) × R.frame m n × (w ≡ Value.Frame n)
frame_partner integers m e = absurd (let z : ◌≡◌ {A = ℕ} 0 1 = cc in omega arith)
frame_partner literals m e = absurd (let z : ◌≡◌ {A = ℕ} 0 1 = cc in omega arith)
frame_partner (texts r) m e = absurd (let z : ◌≡◌ {A = ℕ} 0 1 = cc in omega arith)
frame_partner codes m e = absurd (let z : ◌≡◌ {A = ℕ} 0 1 = cc in omega arith)
frame_partner {R} (frames {m = a} {n = n} r) m e = (n, subst (λ (z : ℕ). R.frame z n) (let q : a ≡ m = cc in q) r, refl)

pub text_partner : {R : Rel} {v w : Value} → ValueRel R v w → (j : ℕ) → v ≡ Value.Text (Text.Made j) → (k : ℕ) × R.text j k × (w ≡ Value.Text (Text.Made k))
text_partner integers m e = absurd (let z : ◌≡◌ {A = ℕ} 0 1 = cc in omega arith)
text_partner literals m e = absurd (let z : ◌≡◌ {A = ℕ} 0 1 = cc in omega arith)
text_partner {R} (texts {j = a} {k = k} r) j e = (k, subst (λ (z : ℕ). R.text z k) (let q : a ≡ j = cc in q) r, refl)
text_partner codes m e = absurd (let z : ◌≡◌ {A = ℕ} 0 1 = cc in omega arith)
text_partner (frames r) m e = absurd (let z : ◌≡◌ {A = ℕ} 0 1 = cc in omega arith)

module _ {R : Rel} {H K : View} {Σ Σ' Π Π' : Value} (S : Simulates R H K) (s : ValueRel R Σ Σ') (q : ValueRel R Π Π') where
  pub partner : {v : Value} → ReachedIn H Σ Π v → (w : Value) × ValueRel R v w × ReachedIn K Σ' Π' w
  partner Reachable.self = (Σ', s, Reachable.self)
  partner Reachable.program = (Π', q, Reachable.program)
  partner (Reachable.in_slot {n = m} {v = v} d i) = step (partner d)
    where
      step : ((w : Value) × ValueRel R (Value.Frame m) w × ReachedIn K Σ' Π' w) → (w : Value) × ValueRel R v w × ReachedIn K Σ' Π' w
      step t =
          let n = frame_partner t.1 m refl in
          let l = S.frame_link m n.0 n.1 in
          let u = slot_partner l.alike (subst (λ (vs : List Value). Memᴰ v vs) (values_at H m l.left l.at_left) i) in (
            u.0,
            u.1,
            Reachable.in_slot (subst (ReachedIn K Σ' Π') n.2 t.2)
                (subst (λ (vs : List Value). Memᴰ u.0 vs) (sym (values_at K n.0 l.right l.at_right)) u.2),
          )

  pub frame_reached : (m : ℕ) → ReachedIn H Σ Π (Value.Frame m) → (n : ℕ) × R.frame m n × ReachedIn K Σ' Π' (Value.Frame n)
  frame_reached m d =
      let t = partner d in
      let n = frame_partner t.1 m refl in
      (n.0, n.1, subst (ReachedIn K Σ' Π') n.2 t.2)

  pub text_reached : (j : ℕ) → ReachedIn H Σ Π (Value.Text (Text.Made j)) → (k : ℕ) × R.text j k × ReachedIn K Σ' Π' (Value.Text (Text.Made k))
  text_reached j d =
      let t = partner d in
      let n = text_partner t.1 j refl in
      (n.0, n.1, subst (ReachedIn K Σ' Π') n.2 t.2)

-- ---- A collection restricts the relation to what is reached

module _ (R : Rel) (H : View) (Σ Π : Value) where
  abbrev pub Kept : Rel
  Kept = record {
    frame = λ m n. R.frame m n × ReachedIn H Σ Π (Value.Frame m);
    text = λ j k. R.text j k × ReachedIn H Σ Π (Value.Text (Text.Made j));
  }

  pub value_kept : {v w : Value} → ValueRel R v w → ReachedIn H Σ Π v → ValueRel Kept v w
  value_kept integers d = integers
  value_kept literals d = literals
  value_kept (texts r) d = texts (r, d)
  value_kept codes d = codes
  value_kept (frames r) d = frames (r, d)

  slots_kept : {xs ys : List Slot} → SlotsRel R xs ys → ((v : Value) → Memᴰ v (map slot_value xs) → ReachedIn H Σ Π v) → SlotsRel Kept xs ys
  unfolding slot_value
  slots_kept none_left k = none_left
  slots_kept (next_slot {x = x} e v h) k = next_slot e (value_kept v (k x.value (Memᴰ.head refl))) (slots_kept h (λ w i. k w (Memᴰ.tail i)))

  pub collect_kept : {K H' : View} → Simulates R H K → CollectedTo H H' Σ Π → Simulates Kept H' K
  collect_kept {K} {H'} S c = record {
    frame_link = link;
    frame_right = λ a b d r q. S.frame_right a b d r.0 q.0;
    frame_left = λ a b d r q. S.frame_left a b d r.0 q.0;
    text_link = λ j k r. let l = S.text_link j k r.0 in record { bytes = l.bytes; at_left = c.keeps_text j r.1 ∙ l.at_left; at_right = l.at_right };
    text_right = λ a b d r q. S.text_right a b d r.0 q.0;
    text_left = λ a b d r q. S.text_left a b d r.0 q.0;
  }
    where
      link : (m n : ℕ) → Kept.frame m n → FramesLinked Kept H' K m n
      link m n r =
          let l = S.frame_link m n r.0 in
          record {
            left = l.left;
            right = l.right;
            at_left = c.keeps_frame m r.1 ∙ l.at_left;
            at_right = l.at_right;
            alike = slots_kept l.alike (λ v i. Reachable.in_slot r.1 (subst (λ (vs : List Value). Memᴰ v vs) (sym (values_at H m l.left l.at_left)) i));
            same_maker = l.same_maker;
          }
