-- `Machine.perform` agrees with the judgments: it gives what `I⇒` says, ends with 32 to 35 exactly where `Meets` says so, and else with 31;
-- so does a step with room. Assumes nothing.
use mathlib.Core.Path.{◌≡◌, refl, sym, ◌∙◌, ap, subst}
use mathlib.Core.Logic.{◌≢◌, ◌⊎◌, inl, inr, ⊎_map}
use mathlib.Core.Bool.{Bool, true, false, ◌||◌, not, true≢false, false≢true}
use mathlib.Core.List.{List, [], ◌∷◌, ◌++◌}
use mathlib.Core.Option.{Option, none, some}
use Prim.Native.Nat.{ℕ, zero, suc, ◌≤◌, ◌<◌}
use native.Mathlib.Omega.{arith}
use native.Mathlib.Bridge.{le_by_compare, IsLe}
use lib.IntN.{ℤ, pos, negsuc, ◌+ℤ◌, ◌-ℤ◌, ◌*ℤ◌}
use lib.Signed.{quot_z}
use lib.ListN.{length, get_elem?, get_or, set}
use lib.Dec.{T, leb, ltb, leb→le, le→leb, nleb→lt, ltb→lt, lt→ltb, nltb→le}
use lib.Arith.{lt→nleb, le→nltb}
use Rattle.framed.specs.declared.Value.{Value}
use Rattle.framed.specs.declared.Text.{Text}
use Rattle.framed.specs.Common.{when◌then◌else◌}
use Rattle.framed.specs.Tokens.{Operator, in_range}
use Rattle.framed.specs.Tree.{Base, Expression, Slots, Instruction, Code}
use Rattle.framed.specs.Paths.{Path, from_self, from_program}
use Rattle.framed.specs.Program.{Program}
use Rattle.framed.specs.Values.{Slot, Frame, Heap, with_slots, join_bytes, truth, bit}
use Rattle.framed.specs.Equality.{Constants, constants}
use Rattle.framed.specs.Fetch.{in_frame, frame_of, get, fetch}
use Rattle.framed.specs.Machine.{Result, gives, ends, defined, base_value, Evaluated, evaluated, integer_in, integer_result, quotient, new_text, operate, evaluate, fill, Filled, with_frame, Effect, becomes, set_slot, holds, frame_number, put_slot, put, assign_to, code_number, following, first_of, jump_to, perform, State, Ready, step}
use Rattle.framed.specs.Machine as M
use Rattle.framed.specs.Theorems.{StepJudged}
use Rattle.framed.proofs.General.{is_true, is_false, to_true, to_false}
use Rattle.framed.proofs.FetchExact.{bind_some, some_bind, fetch_exact}
use Rattle.framed.specs.Judgments.{zero_value, OperationMeets, divisor_0, plus_out, minus_out, times_out, over_out, too_long, ExpressionMeets, in_operation, in_a_frame, SlotsMeet, in_first, in_later, Put⇒, put₁_set, put₁_add, put₂, PutMeets, full, further, I⇒, i_show, i_jump, i_ifeq₁, i_ifeq₂, i_assign₁, i_assign₂, i_assign₃, i_assign₄, Meets, in_expression, in_put, root, names, B⇒, b_int, b_string, b_code, b_path₁, b_path₂, Operates, o_plus, o_minus, o_times, o_over, o_less, o_join, o_equal, o_and, o_or, E⇒, e_base, e_op, e_not₁, e_not₂, e_frame, Slots⇒, s_none, s_slot}

-- ---- What a part that gives or ends says of its first part

pub gives_inj : {A : Type 0} {a b : A} → gives a ≡ gives b → a ≡ b
gives_inj e = cc

pub ends_inj : {A : Type 0} {j k : ℕ} → ◌≡◌ {A = Result A} (ends j) (ends k) → j ≡ k
ends_inj e = cc

pub ends≢gives : {A : Type 0} {k : ℕ} {a : A} → ◌≡◌ {A = Result A} (ends k) (gives a) → ⊥
ends≢gives e = let z : ◌≡◌ {A = ℕ} 0 1 = cc in omega arith

gives≢ends : {A : Type 0} {k : ℕ} {a : A} → ◌≡◌ {A = Result A} (gives a) (ends k) → ⊥
gives≢ends e = let z : ◌≡◌ {A = ℕ} 0 1 = cc in omega arith

-- the parts are handed on as variables, so that nothing is seen through them
bind_gives : {A B C : Type 0} (m : Result A) (f : A → Result B) {b : B} → M.◌>>=◌ m f ≡ gives b → ((a : A) → m ≡ gives a → f a ≡ gives b → C) → C
unfolding M.◌>>=◌
bind_gives (gives a) f e k = k a refl e
bind_gives (ends j) f e k = absurd (ends≢gives e)

pub gives_bind : {A B : Type 0} {m : Result A} (f : A → Result B) {a : A} {r : Result B} → m ≡ gives a → f a ≡ r → M.◌>>=◌ m f ≡ r
unfolding M.◌>>=◌
gives_bind f p q = rw p q

pub bind_ends : {A B C : Type 0} (m : Result A) (f : A → Result B) {k : ℕ} → M.◌>>=◌ m f ≡ ends k → (m ≡ ends k → C) → ((a : A) → m ≡ gives a → f a ≡ ends k → C) → C
unfolding M.◌>>=◌
bind_ends (gives a) f e l r = r a refl e
bind_ends (ends j) f e l r = l (ap ends (ends_inj e))

pub ends_bind : {A B : Type 0} {m : Result A} (f : A → Result B) {k : ℕ} → m ≡ ends k → M.◌>>=◌ m f ≡ ends k
unfolding M.◌>>=◌
ends_bind f p = rw p

defined_gives : {A : Type 0} (m : Option A) {a : A} → defined m ≡ gives a → m ≡ some a
unfolding defined
defined_gives none e = absurd (ends≢gives e)
defined_gives (some b) e = ap some (gives_inj e)

gives_defined : {A : Type 0} {m : Option A} {a : A} → m ≡ some a → defined m ≡ gives a
unfolding defined
gives_defined p = rw p

defined_ends : {A : Type 0} (m : Option A) {k : ℕ} → defined m ≡ ends k → k ≡ 31
unfolding defined
defined_ends none e = sym (ends_inj e)
defined_ends (some b) e = absurd (gives≢ends e)

-- ---- B

pub base_sound : (Σ Π : Value) (frames : List Frame) (b : Base Path) {v : Value} → base_value Σ Π frames b ≡ gives v → B⇒ Σ Π frames b v
unfolding base_value
base_sound Σ Π frames (Base.integer z) e = rw (← gives_inj e) b_int
base_sound Σ Π frames (Base.string k) e = rw (← gives_inj e) b_string
base_sound Σ Π frames (Base.code k is) e = rw (← gives_inj e) b_code
base_sound Σ Π frames (Base.path (from_self ns)) e = b_path₁ ((fetch_exact frames Σ ns _).0 (defined_gives (fetch frames Σ ns) e))
base_sound Σ Π frames (Base.path (from_program ns)) e = b_path₂ ((fetch_exact frames Π ns _).0 (defined_gives (fetch frames Π ns) e))

pub base_complete : {Σ Π : Value} {frames : List Frame} {b : Base Path} {v : Value} → B⇒ Σ Π frames b v → base_value Σ Π frames b ≡ gives v
unfolding base_value
base_complete b_int = refl
base_complete b_string = refl
base_complete b_code = refl
base_complete {frames} (b_path₁ d) = gives_defined ((fetch_exact frames _ _ _).1 d)
base_complete {frames} (b_path₂ d) = gives_defined ((fetch_exact frames _ _ _).1 d)

pub base_ends : (Σ Π : Value) (frames : List Frame) (b : Base Path) {k : ℕ} → base_value Σ Π frames b ≡ ends k → k ≡ 31
unfolding base_value
base_ends Σ Π frames (Base.integer z) e = absurd (gives≢ends e)
base_ends Σ Π frames (Base.string k) e = absurd (gives≢ends e)
base_ends Σ Π frames (Base.code k is) e = absurd (gives≢ends e)
base_ends Σ Π frames (Base.path (from_self ns)) e = defined_ends (fetch frames Σ ns) e
base_ends Σ Π frames (Base.path (from_program ns)) e = defined_ends (fetch frames Π ns) e

-- ---- ⊕

integer_of : (v : Value) {z : ℤ} → integer_in v ≡ gives z → v ≡ Value.Int z
unfolding integer_in
integer_of (Value.Int y) e = ap Value.Int (gives_inj e)
integer_of (Value.Text t) e = absurd (ends≢gives e)
integer_of (Value.Code k) e = absurd (ends≢gives e)
integer_of (Value.Frame n) e = absurd (ends≢gives e)

no_integer : (v : Value) {k : ℕ} → integer_in v ≡ ends k → k ≡ 31
unfolding integer_in
no_integer (Value.Int y) e = absurd (gives≢ends e)
no_integer (Value.Text t) e = sym (ends_inj e)
no_integer (Value.Code k) e = sym (ends_inj e)
no_integer (Value.Frame n) e = sym (ends_inj e)

-- a test that chooses between a result and an end
chosen : {A : Type 0} {b : A} (t : Bool) (a : A) (k : ℕ) → (when t then gives a else ends k) ≡ gives b → (t ≡ true) × (a ≡ b)
chosen true a k e = (refl, gives_inj e)
chosen false a k e = absurd (ends≢gives e)

pub refused : {A : Type 0} {k : ℕ} (t : Bool) (a : A) (j : ℕ) → (when t then gives a else ends j) ≡ ends k → (t ≡ false) × (j ≡ k)
refused true a j e = absurd (gives≢ends e)
refused false a j e = (refl, ends_inj e)

quotient_gives : (y z : ℤ) {q : ℤ} → quotient y z ≡ gives q → (z ≢ pos 0) × (quot_z y z ≡ q)
unfolding quotient
quotient_gives y (pos zero) e = absurd (ends≢gives e)
quotient_gives y (pos (suc n)) e = (λ p. let z : suc n ≡ 0 = cc in omega arith, gives_inj e)
quotient_gives y (negsuc n) e = (λ p. let z : ◌≡◌ {A = ℕ} 0 1 = cc in omega arith, gives_inj e)

chosen_true : {A : Type 0} {t : Bool} (a : A) (k : ℕ) → t ≡ true → (when t then gives a else ends k) ≡ gives a
chosen_true a k p = rw p

chosen_false : {A : Type 0} {t : Bool} (a : A) (k : ℕ) → t ≡ false → (when t then gives a else ends k) ≡ ends k
chosen_false a k p = rw p

quotient_by : (y z : ℤ) → z ≢ pos 0 → quotient y z ≡ gives (quot_z y z)
unfolding quotient
quotient_by y (pos zero) n = absurd (n refl)
quotient_by y (pos (suc k)) n = refl
quotient_by y (negsuc k) n = refl

quotient_ends : (y z : ℤ) {k : ℕ} → quotient y z ≡ ends k → (z ≡ pos 0) × (32 ≡ k)
unfolding quotient
quotient_ends y (pos zero) e = (refl, ends_inj e)
quotient_ends y (pos (suc n)) e = absurd (gives≢ends e)
quotient_ends y (negsuc n) e = absurd (gives≢ends e)

pub text_made : (bs : List ℕ) (h : Heap) → length bs ≤ 64 →
    new_text bs h ≡ evaluated (Value.Text (Text.Made (length h.texts))) (record { frames = h.frames; texts = h.texts ++ (bs ∷ []) })
unfolding new_text
text_made bs h l = chosen_true _ _ (to_true {b = leb (length bs) 64} (le→leb _ _ l))

pub text_refused : (bs : List ℕ) (h : Heap) → 64 < length bs → new_text bs h ≡ ends 34
unfolding new_text
text_refused bs h l = chosen_false _ _ (to_false {b = leb (length bs) 64} (lt→nleb _ _ l))

module _ (K : Constants) (h : Heap) where
  operate_sound : (o : Operator) (v w : Value) (r : Evaluated) → operate K o v w h ≡ gives r → Operates K h o v w r.value r.heap
  unfolding operate integer_result new_text
  operate_sound Operator.plus v w r e =
      bind_gives (integer_in v) _ e λ y p f.
      bind_gives (integer_in w) _ f λ z q g.
      let c = chosen (in_range (y +ℤ z)) _ _ g in
      rw (integer_of v p, integer_of w q, ← c.1) (o_plus c.0)
  operate_sound Operator.minus v w r e =
      bind_gives (integer_in v) _ e λ y p f.
      bind_gives (integer_in w) _ f λ z q g.
      let c = chosen (in_range (y -ℤ z)) _ _ g in
      rw (integer_of v p, integer_of w q, ← c.1) (o_minus c.0)
  operate_sound Operator.times v w r e =
      bind_gives (integer_in v) _ e λ y p f.
      bind_gives (integer_in w) _ f λ z q g.
      let c = chosen (in_range (y *ℤ z)) _ _ g in
      rw (integer_of v p, integer_of w q, ← c.1) (o_times c.0)
  operate_sound Operator.over v w r e =
      bind_gives (integer_in v) _ e λ y p f.
      bind_gives (integer_in w) _ f λ z q g.
      bind_gives (quotient y z) _ g λ x d i.
      let c = chosen (in_range x) _ _ i in
      let k = quotient_gives y z d in
      rw (integer_of v p, integer_of w q, ← c.1, ← k.1) (o_over k.0 (ap in_range k.1 ∙ c.0))
  operate_sound Operator.less v w r e =
      bind_gives (integer_in v) _ e λ y p f.
      bind_gives (integer_in w) _ f λ z q g.
      rw (integer_of v p, integer_of w q, ← gives_inj g) o_less
  operate_sound Operator.join v w r e =
      let c = chosen (leb (length (join_bytes K.literals h.texts v w)) 64) _ _ e in
      rw (← c.1) (o_join (leb→le _ _ (is_true c.0)))
  operate_sound Operator.equal v w r e = rw (← gives_inj e) o_equal
  operate_sound Operator.and v w r e = rw (← gives_inj e) o_and
  operate_sound Operator.or v w r e = rw (← gives_inj e) o_or

  operate_complete : {o : Operator} {v w u : Value} {h' : Heap} → Operates K h o v w u h' → operate K o v w h ≡ gives (record { value = u; heap = h' })
  unfolding operate integer_result new_text integer_in M.◌>>=◌
  operate_complete (o_plus t) = chosen_true _ _ t
  operate_complete (o_minus t) = chosen_true _ _ t
  operate_complete (o_times t) = chosen_true _ _ t
  operate_complete (o_over n t) = gives_bind _ (quotient_by _ _ n) (chosen_true _ _ t)
  operate_complete o_less = refl
  operate_complete (o_join {v} {w} l) = text_made (join_bytes K.literals h.texts v w) h l
  operate_complete o_equal = refl
  operate_complete o_and = refl
  operate_complete o_or = refl

  operate_ends : (o : Operator) (v w : Value) {k : ℕ} → operate K o v w h ≡ ends k → (k ≡ 31) ⊎ OperationMeets K h o v w k
  unfolding operate integer_result new_text
  operate_ends Operator.plus v w e =
      bind_ends (integer_in v) _ e (λ n. inl (no_integer v n)) λ y p f.
      bind_ends (integer_in w) _ f (λ n. inl (no_integer w n)) λ z q g.
      let c = refused (in_range (y +ℤ z)) _ _ g in
      inr (rw (integer_of v p, integer_of w q, ← c.1) (plus_out c.0))
  operate_ends Operator.minus v w e =
      bind_ends (integer_in v) _ e (λ n. inl (no_integer v n)) λ y p f.
      bind_ends (integer_in w) _ f (λ n. inl (no_integer w n)) λ z q g.
      let c = refused (in_range (y -ℤ z)) _ _ g in
      inr (rw (integer_of v p, integer_of w q, ← c.1) (minus_out c.0))
  operate_ends Operator.times v w e =
      bind_ends (integer_in v) _ e (λ n. inl (no_integer v n)) λ y p f.
      bind_ends (integer_in w) _ f (λ n. inl (no_integer w n)) λ z q g.
      let c = refused (in_range (y *ℤ z)) _ _ g in
      inr (rw (integer_of v p, integer_of w q, ← c.1) (times_out c.0))
  operate_ends Operator.over v w e =
      bind_ends (integer_in v) _ e (λ n. inl (no_integer v n)) λ y p f.
      bind_ends (integer_in w) _ f (λ n. inl (no_integer w n)) λ z q g.
      inr (bind_ends (quotient y z) _ g
      (λ n. let d = quotient_ends y z n in rw (integer_of v p, integer_of w q, d.0, ← d.1) divisor_0)
      (λ x d i.
      let c = refused (in_range x) _ _ i in
      let m = quotient_gives y z d in
      rw (integer_of v p, integer_of w q, ← c.1) (over_out m.0 (ap in_range m.1 ∙ c.0))))
  operate_ends Operator.less v w e =
      bind_ends (integer_in v) _ e (λ n. inl (no_integer v n)) λ y p f.
      bind_ends (integer_in w) _ f (λ n. inl (no_integer w n)) λ z q g.
      absurd (gives≢ends g)
  operate_ends Operator.join v w e =
      let c = refused (leb (length (join_bytes K.literals h.texts v w)) 64) _ _ e in
      inr (rw (← c.1) (too_long (nleb→lt _ _ (is_false c.0))))
  operate_ends Operator.equal v w e = absurd (gives≢ends e)
  operate_ends Operator.and v w e = absurd (gives≢ends e)
  operate_ends Operator.or v w e = absurd (gives≢ends e)

  operate_meets : {o : Operator} {v w : Value} {k : ℕ} → OperationMeets K h o v w k → operate K o v w h ≡ ends k
  unfolding operate integer_result new_text integer_in M.◌>>=◌ quotient
  operate_meets divisor_0 = refl
  operate_meets (plus_out t) = chosen_false _ _ t
  operate_meets (minus_out t) = chosen_false _ _ t
  operate_meets (times_out t) = chosen_false _ _ t
  operate_meets (over_out n t) = gives_bind _ (quotient_by _ _ n) (chosen_false _ _ t)
  operate_meets (too_long {v} {w} l) = text_refused (join_bytes K.literals h.texts v w) h l

-- ---- E

truth_false : (v : Value) → truth v ≡ false → v ≡ zero_value
unfolding truth
truth_false (Value.Int (pos zero)) e = refl
truth_false (Value.Int (pos (suc n))) e = absurd (true≢false e)
truth_false (Value.Int (negsuc n)) e = absurd (true≢false e)
truth_false (Value.Text t) e = absurd (true≢false e)
truth_false (Value.Code k) e = absurd (true≢false e)
truth_false (Value.Frame n) e = absurd (true≢false e)

truth_true : {v : Value} → truth v ≡ true → v ≢ zero_value
unfolding truth
truth_true e p = false≢true (ap truth (sym p) ∙ e)

true_of : (v : Value) → v ≢ zero_value → truth v ≡ true
unfolding truth
true_of (Value.Int (pos zero)) n = absurd (n refl)
true_of (Value.Int (pos (suc k))) n = refl
true_of (Value.Int (negsuc k)) n = refl
true_of (Value.Text t) n = refl
true_of (Value.Code k) n = refl
true_of (Value.Frame k) n = refl

not_zero : (h : Heap) → evaluated (bit (not (truth zero_value))) h ≡ evaluated (Value.Int (pos 1)) h
unfolding truth bit
not_zero h = refl

not_other : (h : Heap) (v : Value) → v ≢ zero_value → evaluated (bit (not (truth v))) h ≡ evaluated (Value.Int (pos 0)) h
unfolding bit
not_other h v n = rw (true_of v n)

module _ (K : Constants) (ν : ℕ) (Σ Π : Value) where
  not_sound : (b : Base Path) (h : Heap) (v : Value) (t : Bool) → truth v ≡ t → B⇒ Σ Π h.frames b v →
      E⇒ K ν Σ Π (Expression.not b) h (bit (not t)) h
  unfolding bit
  not_sound b h v true e d = e_not₂ d (truth_true e)
  not_sound b h v false e d = e_not₁ (subst (λ (w : Value). B⇒ Σ Π h.frames b w) (truth_false v e) d)

  mutual
    unfolding evaluate

    pub evaluate_sound : (x : Expression Path) (h : Heap) (r : Evaluated) → evaluate K ν Σ Π x h ≡ gives r → E⇒ K ν Σ Π x h r.value r.heap
    evaluate_sound (Expression.base b) h r e =
        bind_gives (base_value Σ Π h.frames b) _ e λ v p q.
        rw (← gives_inj q) (e_base (base_sound Σ Π h.frames b p))
    evaluate_sound (Expression.not b) h r e =
        bind_gives (base_value Σ Π h.frames b) _ e λ v p q.
        rw (← gives_inj q) (not_sound b h v (truth v) refl (base_sound Σ Π h.frames b p))
    evaluate_sound (Expression.operation o a b) h r e =
        bind_gives (base_value Σ Π h.frames a) _ e λ v p f.
        bind_gives (base_value Σ Π h.frames b) _ f λ w q g.
        e_op (base_sound Σ Π h.frames a p) (base_sound Σ Π h.frames b q) (operate_sound K h o v w r g)
    evaluate_sound (Expression.frame ss) h r e =
        bind_gives (fill K ν Σ Π ss (with_frame ν h)) _ e λ x p q.
        rw (← gives_inj q) (e_frame refl (fill_sound ss (with_frame ν h) x p) refl)

    fill_sound : (ss : Slots Path) (h : Heap) (r : Filled) → fill K ν Σ Π ss h ≡ gives r → Slots⇒ K ν Σ Π ss h r.slots r.heap
    fill_sound Slots.no_slots h r e = rw (← gives_inj e) s_none
    fill_sound (Slots.slot n x ss) h r e =
        bind_gives (evaluate K ν Σ Π x h) _ e λ y p f.
        bind_gives (fill K ν Σ Π ss y.heap) _ f λ z q g.
        rw (← gives_inj g) (s_slot (evaluate_sound x h y p) refl (fill_sound ss y.heap z q))

  mutual
    unfolding evaluate

    pub evaluate_complete : {x : Expression Path} {h : Heap} {v : Value} {h' : Heap} →
        E⇒ K ν Σ Π x h v h' → evaluate K ν Σ Π x h ≡ gives (record { value = v; heap = h' })
    evaluate_complete (e_base d) = gives_bind _ (base_complete d) refl
    evaluate_complete {h = h} (e_op c d o) = gives_bind _ (base_complete c) (gives_bind _ (base_complete d) (operate_complete K h o))
    evaluate_complete {h = h} (e_not₁ d) = gives_bind _ (base_complete d) (not_zero h)
    evaluate_complete {h = h} (e_not₂ {v = u} d n) = gives_bind _ (base_complete d) (not_other h u n)
    evaluate_complete (e_frame p d q) = gives_bind _ (fill_complete d) (rw (q, p))

    fill_complete : {ss : Slots Path} {h : Heap} {f : List Slot} {h' : Heap} →
        Slots⇒ K ν Σ Π ss h f h' → fill K ν Σ Π ss h ≡ gives (record { slots = f; heap = h' })
    fill_complete s_none = refl
    fill_complete (s_slot c p d) = gives_bind _ (evaluate_complete c) (gives_bind _ (fill_complete d) (rw p))

  mutual
    unfolding evaluate

    evaluate_ends : (x : Expression Path) (h : Heap) {k : ℕ} → evaluate K ν Σ Π x h ≡ ends k → (k ≡ 31) ⊎ ExpressionMeets K ν Σ Π x h k
    evaluate_ends (Expression.base b) h e =
        bind_ends (base_value Σ Π h.frames b) _ e (λ n. inl (base_ends Σ Π h.frames b n)) λ v p q. absurd (gives≢ends q)
    evaluate_ends (Expression.not b) h e =
        bind_ends (base_value Σ Π h.frames b) _ e (λ n. inl (base_ends Σ Π h.frames b n)) λ v p q. absurd (gives≢ends q)
    evaluate_ends (Expression.operation o a b) h e =
        bind_ends (base_value Σ Π h.frames a) _ e (λ n. inl (base_ends Σ Π h.frames a n)) λ v p f.
        bind_ends (base_value Σ Π h.frames b) _ f (λ n. inl (base_ends Σ Π h.frames b n)) λ w q g.
        ⊎_map (λ i. i) (in_operation (base_sound Σ Π h.frames a p) (base_sound Σ Π h.frames b q)) (operate_ends K h o v w g)
    evaluate_ends (Expression.frame ss) h e =
        bind_ends (fill K ν Σ Π ss (with_frame ν h)) _ e (λ n. ⊎_map (λ i. i) in_a_frame (fill_ends ss (with_frame ν h) n)) λ x p q. absurd (gives≢ends q)

    fill_ends : (ss : Slots Path) (h : Heap) {k : ℕ} → fill K ν Σ Π ss h ≡ ends k → (k ≡ 31) ⊎ SlotsMeet K ν Σ Π ss h k
    fill_ends Slots.no_slots h e = absurd (gives≢ends e)
    fill_ends (Slots.slot n x ss) h e =
        bind_ends (evaluate K ν Σ Π x h) _ e (λ n. ⊎_map (λ i. i) in_first (evaluate_ends x h n)) λ y p f.
        bind_ends (fill K ν Σ Π ss y.heap) _ f
        (λ n. ⊎_map (λ i. i) (in_later (evaluate_sound x h y p)) (fill_ends ss y.heap n))
        λ z q g. absurd (gives≢ends g)

  mutual
    unfolding evaluate

    evaluate_meets : {x : Expression Path} {h : Heap} {k : ℕ} → ExpressionMeets K ν Σ Π x h k → evaluate K ν Σ Π x h ≡ ends k
    evaluate_meets {h = h} (in_operation c d m) = gives_bind _ (base_complete c) (gives_bind _ (base_complete d) (operate_meets K h m))
    evaluate_meets (in_a_frame m) = ends_bind _ (fill_meets m)

    fill_meets : {ss : Slots Path} {h : Heap} {k : ℕ} → SlotsMeet K ν Σ Π ss h k → fill K ν Σ Π ss h ≡ ends k
    fill_meets (in_first m) = ends_bind _ (evaluate_meets m)
    fill_meets (in_later d m) = gives_bind _ (evaluate_complete d) (ends_bind _ (fill_meets m))

-- ---- Put

frame_number_gives : (v : Value) {n : ℕ} → frame_number v ≡ gives n → v ≡ Value.Frame n
unfolding frame_number
frame_number_gives (Value.Int z) e = absurd (ends≢gives e)
frame_number_gives (Value.Text t) e = absurd (ends≢gives e)
frame_number_gives (Value.Code k) e = absurd (ends≢gives e)
frame_number_gives (Value.Frame n) e = ap Value.Frame (gives_inj e)

frame_number_ends : (v : Value) {k : ℕ} → frame_number v ≡ ends k → k ≡ 31
unfolding frame_number
frame_number_ends (Value.Int z) e = sym (ends_inj e)
frame_number_ends (Value.Text t) e = sym (ends_inj e)
frame_number_ends (Value.Code k) e = sym (ends_inj e)
frame_number_ends (Value.Frame n) e = absurd (gives≢ends e)

holds_some : (f : Frame) (n : ℕ) {u : Value} → in_frame f n ≡ some u → holds f n ≡ true
unfolding holds
holds_some f n e = rw (e, holds)

holds_none : (f : Frame) (n : ℕ) → in_frame f n ≡ none → holds f n ≡ false
unfolding holds
holds_none f n e = rw (e, holds)

or_left : {a : Bool} (b : Bool) → a ≡ true → (a || b) ≡ true
or_left b p = rw p

or_right : {a b c : Bool} → a ≡ false → b ≡ c → (a || b) ≡ c
or_right p q = rw p q

put_slot_set : (f : Frame) (n : ℕ) (w : Value) {u : Value} → in_frame f n ≡ some u → put_slot f n w ≡ gives (with_slots f (set_slot f.slots n w))
unfolding put_slot
put_slot_set f n w e = chosen_true _ _ (or_left _ (holds_some f n e))

put_slot_add : (f : Frame) (n : ℕ) (w : Value) → in_frame f n ≡ none → length f.slots < 16 → put_slot f n w ≡ gives (with_slots f (set_slot f.slots n w))
unfolding put_slot
put_slot_add f n w e l = chosen_true _ _ (or_right (holds_none f n e) (to_true (lt→ltb (length f.slots) 16 l)))

put_slot_full : (f : Frame) (n : ℕ) (w : Value) → in_frame f n ≡ none → 16 ≤ length f.slots → put_slot f n w ≡ ends 35
unfolding put_slot
put_slot_full f n w e l = chosen_false _ _ (or_right (holds_none f n e) (to_false (le→nltb (length f.slots) 16 l)))

-- a slot is set, is added, or would be a 17th
data Putting (f : Frame) (n : ℕ) (w : Value) : Type 0 where
  sets : {u : Value} → in_frame f n ≡ some u → put_slot f n w ≡ gives (with_slots f (set_slot f.slots n w)) → Putting f n w
  adds : in_frame f n ≡ none → length f.slots < 16 → put_slot f n w ≡ gives (with_slots f (set_slot f.slots n w)) → Putting f n w
  overfills : in_frame f n ≡ none → 16 ≤ length f.slots → put_slot f n w ≡ ends 35 → Putting f n w

adding : (f : Frame) (n : ℕ) (w : Value) → in_frame f n ≡ none → (length f.slots < 16) ⊎ (16 ≤ length f.slots) → Putting f n w
adding f n w e (inl l) = adds e l (put_slot_add f n w e l)
adding f n w e (inr l) = overfills e l (put_slot_full f n w e l)

lt_or_le : (m n : ℕ) (t : Bool) → ltb m n ≡ t → (m < n) ⊎ (n ≤ m)
lt_or_le m n true e = inl (ltb→lt m n (is_true e))
lt_or_le m n false e = inr (nltb→le m n (is_false e))

putting_case : (f : Frame) (n : ℕ) (w : Value) (o : Option Value) → in_frame f n ≡ o → Putting f n w
putting_case f n w none e = adding f n w e (lt_or_le (length f.slots) 16 (ltb (length f.slots) 16) refl)
putting_case f n w (some u) e = sets e (put_slot_set f n w e)

putting : (f : Frame) (n : ℕ) (w : Value) → Putting f n w
putting f n w = putting_case f n w (in_frame f n) refl

module _ (frames : List Frame) (w : Value) where
  put_slot_sound : (k : ℕ) (f g : Frame) (n : ℕ) → get_elem? frames k ≡ some f → put_slot f n w ≡ gives g → Putting f n w →
      Put⇒ frames w (Value.Frame k) (n ∷ []) (set frames k g)
  put_slot_sound k f g n p e (sets q r) = rw (gives_inj (sym e ∙ r)) (put₁_set p q)
  put_slot_sound k f g n p e (adds q l r) = rw (gives_inj (sym e ∙ r)) (put₁_add p q l)
  put_slot_sound k f g n p e (overfills q l r) = absurd (ends≢gives (sym r ∙ e))

  put_slot_ends : (k : ℕ) (f : Frame) (n : ℕ) {j : ℕ} → get_elem? frames k ≡ some f → put_slot f n w ≡ ends j → Putting f n w →
      PutMeets frames w (Value.Frame k) (n ∷ []) j
  put_slot_ends k f n p e (sets q r) = absurd (gives≢ends (sym r ∙ e))
  put_slot_ends k f n p e (adds q l r) = absurd (gives≢ends (sym r ∙ e))
  put_slot_ends k f n p e (overfills q l r) = rw (← ends_inj (sym r ∙ e)) (full p q l)

  put_sound : (v : Value) (n : ℕ) (ns : List ℕ) {after : List Frame} → put frames v n ns w ≡ gives after → Put⇒ frames w v (n ∷ ns) after
  unfolding put get
  put_sound v n [] e =
      bind_gives (frame_number v) _ e λ k p f.
      bind_gives (defined (get_elem? frames k)) _ f λ g q r.
      bind_gives (put_slot g n w) _ r λ g' t u.
      rw (frame_number_gives v p, ← gives_inj u) (put_slot_sound k g g' n (defined_gives _ q) t (putting g n w))
  put_sound v n (m ∷ ns) e =
      bind_gives (defined (get frames v n)) _ e λ u p f.
      bind_some (frame_of frames v) _ (defined_gives _ p) λ g q r.
      put₂ q r (put_sound u m ns f)

  put_complete : {v : Value} {n : ℕ} {ns : List ℕ} {after : List Frame} → Put⇒ frames w v (n ∷ ns) after → put frames v n ns w ≡ gives after
  unfolding put get frame_number M.◌>>=◌
  put_complete (put₁_set {f} p q) = gives_bind _ (gives_defined p) (gives_bind _ (put_slot_set f _ w q) refl)
  put_complete (put₁_add {f} p q l) = gives_bind _ (gives_defined p) (gives_bind _ (put_slot_add f _ w q l) refl)
  put_complete (put₂ p q d) = gives_bind _ (gives_defined (some_bind _ p q)) (put_complete d)

  put_ends : (v : Value) (n : ℕ) (ns : List ℕ) {j : ℕ} → put frames v n ns w ≡ ends j → (j ≡ 31) ⊎ PutMeets frames w v (n ∷ ns) j
  unfolding put get
  put_ends v n [] e =
      bind_ends (frame_number v) _ e (λ t. inl (frame_number_ends v t)) λ k p f.
      bind_ends (defined (get_elem? frames k)) _ f (λ t. inl (defined_ends _ t)) λ g q r.
      bind_ends (put_slot g n w) _ r
      (λ t. inr (rw (frame_number_gives v p) (put_slot_ends k g n (defined_gives _ q) t (putting g n w))))
      λ g' t u. absurd (gives≢ends u)
  put_ends v n (m ∷ ns) e =
      bind_ends (defined (get frames v n)) _ e (λ t. inl (defined_ends _ t)) λ u p f.
      bind_some (frame_of frames v) _ (defined_gives _ p) λ g q r.
      ⊎_map (λ i. i) (further q r) (put_ends u m ns f)

  put_meets : {v : Value} {n : ℕ} {ns : List ℕ} {j : ℕ} → PutMeets frames w v (n ∷ ns) j → put frames v n ns w ≡ ends j
  unfolding put get frame_number M.◌>>=◌
  put_meets (full {f} p q l) = gives_bind _ (gives_defined p) (ends_bind _ (put_slot_full f _ w q l))
  put_meets (further p q d) = gives_bind _ (gives_defined (some_bind _ p q)) (put_meets d)

cons≢nil : {n : ℕ} {ns : List ℕ} → ◌≡◌ {A = List ℕ} (n ∷ ns) [] → ⊥
cons≢nil e = let z : ◌≡◌ {A = ℕ} 0 1 = cc in omega arith

some_names : {frames : List Frame} {w v : Value} {ns : List ℕ} {j : ℕ} → PutMeets frames w v ns j → ns ≡ [] → ⊥
some_names (full p q l) e = cons≢nil e
some_names (further p q d) e = cons≢nil e

-- ---- I

code_number_gives : (v : Value) {k : ℕ} → code_number v ≡ gives k → v ≡ Value.Code k
unfolding code_number
code_number_gives (Value.Int z) e = absurd (ends≢gives e)
code_number_gives (Value.Text t) e = absurd (ends≢gives e)
code_number_gives (Value.Code k) e = ap Value.Code (gives_inj e)
code_number_gives (Value.Frame n) e = absurd (ends≢gives e)

code_number_ends : (v : Value) {j : ℕ} → code_number v ≡ ends j → j ≡ 31
unfolding code_number
code_number_ends (Value.Int z) e = sym (ends_inj e)
code_number_ends (Value.Text t) e = sym (ends_inj e)
code_number_ends (Value.Code k) e = absurd (gives≢ends e)
code_number_ends (Value.Frame n) e = sym (ends_inj e)

module _ (p : Program) (ν : ℕ) (rest : Code Path) (Σ Π : Value) (h : Heap) where
  -- the effect of an instruction, as a judgment
  abbrev pub Gives : Instruction Path → Effect → Type 0
  Gives i x = I⇒ p ν rest Σ Π h i x.remaining x.next x.self x.program x.heap x.line

  -- the operands of a jump
  record Jumps (a b : Base Path) (x : Effect) : Type 0 where
    k : ℕ
    w : Value
    code : B⇒ Σ Π h.frames a (Value.Code k)
    self : B⇒ Σ Π h.frames b w
    effect : record { remaining = get_or p.codes k Code.finished; next = first_of p k; self = w; program = Π; heap = h; line = [] } ≡ x

  jump_sound : (a b : Base Path) (x : Effect) → jump_to p Σ Π h a b ≡ gives x → Jumps a b x
  unfolding jump_to
  jump_sound a b x e =
      bind_gives (base_value Σ Π h.frames a) _ e λ v q f.
      bind_gives (code_number v) _ f λ k c g.
      bind_gives (base_value Σ Π h.frames b) _ g λ w r u.
      record {
        k = k;
        w = w;
        code = subst (λ (y : Value). B⇒ Σ Π h.frames a y) (code_number_gives v c) (base_sound Σ Π h.frames a q);
        self = base_sound Σ Π h.frames b r;
        effect = gives_inj u;
      }

  jump_ends : (a b : Base Path) {j : ℕ} → jump_to p Σ Π h a b ≡ ends j → j ≡ 31
  unfolding jump_to
  jump_ends a b e =
      bind_ends (base_value Σ Π h.frames a) _ e (λ n. base_ends Σ Π h.frames a n) λ v q f.
      bind_ends (code_number v) _ f (λ n. code_number_ends v n) λ k c g.
      bind_ends (base_value Σ Π h.frames b) _ g (λ n. base_ends Σ Π h.frames b n) λ w r u.
      absurd (gives≢ends u)

  jump_complete : {a b : Base Path} {k : ℕ} {w : Value} → B⇒ Σ Π h.frames a (Value.Code k) → B⇒ Σ Π h.frames b w →
      jump_to p Σ Π h a b ≡ becomes (get_or p.codes k Code.finished) (first_of p k) w Π h []
  unfolding jump_to code_number M.◌>>=◌
  jump_complete c d = gives_bind _ (base_complete c) (gives_bind _ (base_complete d) refl)

  assign_sound : (path : Path) (e : Expression Path) (v : Value) (h' : Heap) (x : Effect) → E⇒ (constants p) ν Σ Π e h v h' →
      assign_to Σ Π rest (following p ν) path v h' ≡ gives x → Gives (Instruction.assign path e) x
  unfolding assign_to
  assign_sound (from_self []) e v h' x d q = rw (← gives_inj q) (i_assign₂ d)
  assign_sound (from_self (n ∷ ns)) e v h' x d q =
      bind_gives (put h'.frames Σ n ns v) _ q λ frames r t.
      rw (← gives_inj t) (i_assign₁ d (put_sound h'.frames v Σ n ns r))
  assign_sound (from_program []) e v h' x d q = rw (← gives_inj q) (i_assign₄ d)
  assign_sound (from_program (n ∷ ns)) e v h' x d q =
      bind_gives (put h'.frames Π n ns v) _ q λ frames r t.
      rw (← gives_inj t) (i_assign₃ d (put_sound h'.frames v Π n ns r))

  ifeq_sound : (a b c : Base Path) (v : Value) (x : Effect) (t : Bool) → truth v ≡ t → B⇒ Σ Π h.frames a v →
      (when t then becomes rest (following p ν) Σ Π h [] else jump_to p Σ Π h b c) ≡ gives x → Gives (Instruction.ifeq a b c) x
  ifeq_sound a b c v x true e d q = rw (← gives_inj q) (i_ifeq₂ d (truth_true e))
  ifeq_sound a b c v x false e d q =
      let m = jump_sound b c x q in
      rw (← m.effect) (i_ifeq₁ (subst (λ (y : Value). B⇒ Σ Π h.frames a y) (truth_false v e) d) m.code m.self)

  pub perform_sound : (i : Instruction Path) (x : Effect) → perform p ν Σ Π h rest i ≡ gives x → Gives i x
  unfolding perform
  perform_sound (Instruction.assign path e) x q =
      bind_gives (evaluate (constants p) ν Σ Π e h) _ q λ r s t.
      assign_sound path e r.value r.heap x (evaluate_sound (constants p) ν Σ Π e h r s) t
  perform_sound (Instruction.show a) x q =
      bind_gives (base_value Σ Π h.frames a) _ q λ v s t.
      rw (← gives_inj t) (i_show (base_sound Σ Π h.frames a s))
  perform_sound (Instruction.jump a b) x q =
      let m = jump_sound a b x q in
      rw (← m.effect) (i_jump m.code m.self)
  perform_sound (Instruction.ifeq a b c) x q =
      bind_gives (base_value Σ Π h.frames a) _ q λ v s t.
      ifeq_sound a b c v x (truth v) refl (base_sound Σ Π h.frames a s) t

  ifeq_zero : (b c : Base Path) → (when truth zero_value then becomes rest (following p ν) Σ Π h [] else jump_to p Σ Π h b c) ≡ jump_to p Σ Π h b c
  unfolding truth
  ifeq_zero b c = refl

  perform_complete : {i : Instruction Path} {cs : Code Path} {c' : ℕ} {Σ' Π' : Value} {h' : Heap} {line : List ℕ} →
      I⇒ p ν rest Σ Π h i cs c' Σ' Π' h' line → perform p ν Σ Π h rest i ≡ becomes cs c' Σ' Π' h' line
  unfolding perform assign_to
  perform_complete (i_show d) = gives_bind _ (base_complete d) refl
  perform_complete (i_jump c d) = jump_complete c d
  perform_complete (i_ifeq₁ {b} {c} d e f) = gives_bind _ (base_complete d) (ifeq_zero b c ∙ jump_complete e f)
  perform_complete (i_ifeq₂ {v} d n) = gives_bind _ (base_complete d) (rw (true_of v n))
  perform_complete (i_assign₁ {v} {h'} d q) =
      gives_bind _ (evaluate_complete (constants p) ν Σ Π d) (gives_bind _ (put_complete h'.frames v q) refl)
  perform_complete (i_assign₂ d) = gives_bind _ (evaluate_complete (constants p) ν Σ Π d) refl
  perform_complete (i_assign₃ {v} {h'} d q) =
      gives_bind _ (evaluate_complete (constants p) ν Σ Π d) (gives_bind _ (put_complete h'.frames v q) refl)
  perform_complete (i_assign₄ d) = gives_bind _ (evaluate_complete (constants p) ν Σ Π d) refl

  assign_ends : (path : Path) (v : Value) (h' : Heap) {j : ℕ} → assign_to Σ Π rest (following p ν) path v h' ≡ ends j →
      (j ≡ 31) ⊎ PutMeets h'.frames v (root Σ Π path) (names path) j
  unfolding assign_to root names
  assign_ends (from_self []) v h' q = absurd (gives≢ends q)
  assign_ends (from_self (n ∷ ns)) v h' q =
      bind_ends (put h'.frames Σ n ns v) _ q (λ e. put_ends h'.frames v Σ n ns e) λ frames r t. absurd (gives≢ends t)
  assign_ends (from_program []) v h' q = absurd (gives≢ends q)
  assign_ends (from_program (n ∷ ns)) v h' q =
      bind_ends (put h'.frames Π n ns v) _ q (λ e. put_ends h'.frames v Π n ns e) λ frames r t. absurd (gives≢ends t)

  ifeq_ends : (b c : Base Path) (t : Bool) {j : ℕ} → (when t then becomes rest (following p ν) Σ Π h [] else jump_to p Σ Π h b c) ≡ ends j → j ≡ 31
  ifeq_ends b c true q = absurd (gives≢ends q)
  ifeq_ends b c false q = jump_ends b c q

  perform_ends : (i : Instruction Path) {j : ℕ} → perform p ν Σ Π h rest i ≡ ends j → (j ≡ 31) ⊎ Meets p ν Σ Π h i j
  unfolding perform
  perform_ends (Instruction.assign path e) q =
      bind_ends (evaluate (constants p) ν Σ Π e h) _ q
      (λ n. ⊎_map (λ i. i) in_expression (evaluate_ends (constants p) ν Σ Π e h n))
      λ r s t. ⊎_map (λ i. i) (in_put (evaluate_sound (constants p) ν Σ Π e h r s)) (assign_ends path r.value r.heap t)
  perform_ends (Instruction.show a) q =
      bind_ends (base_value Σ Π h.frames a) _ q (λ n. inl (base_ends Σ Π h.frames a n)) λ v s t. absurd (gives≢ends t)
  perform_ends (Instruction.jump a b) q = inl (jump_ends a b q)
  perform_ends (Instruction.ifeq a b c) q =
      bind_ends (base_value Σ Π h.frames a) _ q (λ n. inl (base_ends Σ Π h.frames a n)) λ v s t. inl (ifeq_ends b c (truth v) t)

  assign_meets : (path : Path) (v : Value) (h' : Heap) {j : ℕ} → PutMeets h'.frames v (root Σ Π path) (names path) j →
      assign_to Σ Π rest (following p ν) path v h' ≡ ends j
  unfolding assign_to root names
  assign_meets (from_self []) v h' m = absurd (some_names m refl)
  assign_meets (from_self (n ∷ ns)) v h' m = ends_bind _ (put_meets h'.frames v m)
  assign_meets (from_program []) v h' m = absurd (some_names m refl)
  assign_meets (from_program (n ∷ ns)) v h' m = ends_bind _ (put_meets h'.frames v m)

  perform_meets : {i : Instruction Path} {j : ℕ} → Meets p ν Σ Π h i j → perform p ν Σ Π h rest i ≡ ends j
  unfolding perform
  perform_meets (in_expression m) = ends_bind _ (evaluate_meets (constants p) ν Σ Π m)
  perform_meets (in_put {path} {v} {h'} d m) = gives_bind _ (evaluate_complete (constants p) ν Σ Π d) (assign_meets path v h' m)

-- ---- Demand 2, for one instruction

-- 32 to 35, and never 31
operation_number : {K : Constants} {h : Heap} {o : Operator} {v w : Value} {j : ℕ} → OperationMeets K h o v w j → 31 < j
unfolding IsLe
operation_number divisor_0 = le_by_compare 32 32 tt
operation_number (plus_out t) = le_by_compare 32 33 tt
operation_number (minus_out t) = le_by_compare 32 33 tt
operation_number (times_out t) = le_by_compare 32 33 tt
operation_number (over_out n t) = le_by_compare 32 33 tt
operation_number (too_long l) = le_by_compare 32 34 tt

mutual
  expression_number : {K : Constants} {ν : ℕ} {Σ Π : Value} {x : Expression Path} {h : Heap} {j : ℕ} → ExpressionMeets K ν Σ Π x h j → 31 < j
  expression_number (in_operation c d m) = operation_number m
  expression_number (in_a_frame m) = slots_number m

  slots_number : {K : Constants} {ν : ℕ} {Σ Π : Value} {ss : Slots Path} {h : Heap} {j : ℕ} → SlotsMeet K ν Σ Π ss h j → 31 < j
  slots_number (in_first m) = expression_number m
  slots_number (in_later d m) = slots_number m

put_number : {frames : List Frame} {w v : Value} {ns : List ℕ} {j : ℕ} → PutMeets frames w v ns j → 31 < j
unfolding IsLe
put_number (full p q l) = le_by_compare 32 35 tt
put_number (further p q d) = put_number d

meets_number : {p : Program} {ν : ℕ} {Σ Π : Value} {h : Heap} {i : Instruction Path} {j : ℕ} → Meets p ν Σ Π h i j → 31 < j
meets_number (in_expression m) = expression_number m
meets_number (in_put d m) = put_number m

module _ (p : Program) (ν : ℕ) (rest : Code Path) (Σ Π : Value) (h : Heap) (i : Instruction Path) where
  not_31 : {j : ℕ} → 31 < j → (j ≡ 31) ⊎ Meets p ν Σ Π h i j → Meets p ν Σ Π h i j
  not_31 l (inl e) = absurd (omega arith)
  not_31 l (inr m) = m

  -- no rule and none of 32 to 35
  abbrev Nothing : Type 0
  Nothing = ((x : Effect) → ¬ I⇒ p ν rest Σ Π h i x.remaining x.next x.self x.program x.heap x.line) × ((j : ℕ) → ¬ Meets p ν Σ Π h i j)

  only_31 : (r : Result Effect) → perform p ν Σ Π h rest i ≡ r → Nothing → perform p ν Σ Π h rest i ≡ ends 31
  only_31 (gives x) e n = absurd (n.0 x (perform_sound p ν rest Σ Π h i x e))
  only_31 (ends j) e n = case (perform_ends p ν rest Σ Π h i e)
    where
      case : (j ≡ 31) ⊎ Meets p ν Σ Π h i j → perform p ν Σ Π h rest i ≡ ends 31
      case (inl q) = e ∙ ap ends q
      case (inr m) = absurd (n.1 j m)

  nothing_31 : perform p ν Σ Π h rest i ≡ ends 31 → Nothing
  nothing_31 e = (
    λ x d. ends≢gives (sym e ∙ perform_complete p ν rest Σ Π h d),
    λ j m. let l : 31 < j = meets_number m in let q : 31 ≡ j = ends_inj (sym e ∙ perform_meets p ν rest Σ Π h m) in omega arith,
  )

-- no rule ends with 0
pub rule_number : (p : Program) (ν : ℕ) (rest : Code Path) (Σ Π : Value) (h : Heap) (i : Instruction Path) {e : ℕ} → perform p ν Σ Π h rest i ≡ ends e → 31 ≤ e
rule_number p ν rest Σ Π h i {e} q = go (perform_ends p ν rest Σ Π h i q)
  where
    go : (e ≡ 31) ⊎ Meets p ν Σ Π h i e → 31 ≤ e
    go (inl z) = omega arith
    go (inr m) = let l : 31 < e = meets_number m in omega arith

-- with room the step is the rule
step_performs : (p : Program) (F T : ℕ) (s : State) (i : Instruction Path) (rest : Code Path) → Ready F T s i rest →
    step p F T s i rest ≡ perform p s.next s.self s.program s.heap rest i
unfolding step
step_performs p F T s i rest r = rw (r.room, step)

pub step_judged : StepJudged
step_judged = record {
  goes_on = λ p F T s i rest r x. (
    λ e. perform_sound p s.next rest s.self s.program s.heap i x (sym (step_performs p F T s i rest r) ∙ e),
    λ d. step_performs p F T s i rest r ∙ perform_complete p s.next rest s.self s.program s.heap d,
  );
  first_met = λ p F T s i rest r e l. (
    λ q. not_31 p s.next rest s.self s.program s.heap i l
        (perform_ends p s.next rest s.self s.program s.heap i (sym (step_performs p F T s i rest r) ∙ q)),
    λ m. step_performs p F T s i rest r ∙ perform_meets p s.next rest s.self s.program s.heap m,
  );
  no_rule = λ p F T s i rest r. (
    λ e. nothing_31 p s.next rest s.self s.program s.heap i (sym (step_performs p F T s i rest r) ∙ e),
    λ n. step_performs p F T s i rest r ∙ only_31 p s.next rest s.self s.program s.heap i _ refl n,
  );
  one_effect = λ p s i rest x y c d.
      gives_inj (sym (perform_complete p s.next rest s.self s.program s.heap c) ∙ perform_complete p s.next rest s.self s.program s.heap d);
  one_number = λ p s i e f c d.
      ends_inj (sym (perform_meets p s.next Code.finished s.self s.program s.heap c) ∙ perform_meets p s.next Code.finished s.self s.program s.heap d);
  not_both = λ p s i rest x e c d.
      ends≢gives (sym (perform_meets p s.next rest s.self s.program s.heap d) ∙ perform_complete p s.next rest s.self s.program s.heap c);
}
