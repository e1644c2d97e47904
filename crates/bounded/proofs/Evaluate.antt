-- Evaluating agrees: an expression ends alike in the check and in the unbounded machine, or the commit and that machine give related values over related heaps.
-- Assumes nothing.
use mathlib.Core.Path.{◌≡◌, refl, sym, ap, ◌∙◌, subst}
use mathlib.Core.Logic.{◌⊎◌, inl, inr, ⊎_elim, ◌≢◌}
use mathlib.Core.Bool.{Bool, true, false, not, true≢false}
use mathlib.Core.Option.{Option, none, some}
use mathlib.Core.List.{List, [], ◌∷◌, ◌++◌, append_assoc, append-nil}
use Prim.Native.Nat.{ℕ, suc, ◌+◌, ◌≤◌, ◌<◌}
use native.Mathlib.Omega.{arith}
use lib.Dec.{eqb}
use borrow.Author.Tests.{ne_eqb}
use lib.ListN.{length, set, length-append}
use Rattle.framed.specs.declared.Value.{Value}
use Rattle.framed.specs.declared.Text.{Text}
use Rattle.framed.specs.Common.{member}
use Rattle.framed.specs.Tokens.{Operator}
use Rattle.framed.specs.Tree.{Base, Expression, Slots}
use Rattle.framed.specs.Paths.{Path}
use Rattle.framed.specs.Meaning.{slot_names}
use Rattle.framed.specs.Program.{Program}
use Rattle.framed.specs.Values.{Slot, Frame, Heap, new_frame, with_slots, truth, bit}
use Rattle.framed.specs.Equality.{Constants, constants}
use Rattle.framed.specs.Fetch.{in_slots, in_frame}
use Rattle.framed.specs.Machine.{Result, gives, ends, base_value, operate, with_frame, with_frames, frame_literals, frame_literals_in, is_join, join_signs, join_signs_in}
use Rattle.framed.specs.Machine as M
use Rattle.framed.proofs.General.{none≢some}
use Rattle.framed.proofs.ReachCounts.{here, there}
use Rattle.bounded.specs.Views.{View, frame_at, text_at, all_used, entries, frames_used, texts_used, FrameWritten, TextWritten}
use Rattle.bounded.specs.Fits.{Valid, valid_integer, valid_made, valid_frame, StringBytes, BaseFits, ExpressionFits, SlotsFit, ProgramFits}
use Rattle.bounded.specs.Store.{Store, Laws, FrameClaimed, TextClaimed}
use Rattle.bounded.specs.Operations.{Product, operated}
use Rattle.bounded.specs.Check.{end_of, first_end, operation_result, check_expression, check_slots}
use Rattle.bounded.specs.Bounded.{Produced, value_given, produce}
use Rattle.bounded.specs.Bounded as B
use Rattle.bounded.specs.Relation.{Rel, ValueRel, integers, texts, frames, SlotsRel, none_left, next_slot, Simulates}
use Rattle.bounded.proofs.Views.{Extends, same_view, extends_trans, Keeps, extends_keeps, written_keeps, keeps_trans, valid_kept, not_new_frame, written_extends, text_extends, none_before, claimed_frames, written_frames, written_texts, claimed_texts, text_frames, frame_end, text_end, set_written, new_written, with_text, text_written}
use Rattle.bounded.proofs.Simulates.{◌⊆◌, same_rel, up_trans, value_up, simulates_op, simulates_extended, BaseRel, both_give, both_end, base_rel, base_unique, truth_rel, operation_rel, write_outside, write_text_outside, With, WithText, up_with, up_with_text, add_frame, add_text}
use Rattle.bounded.proofs.Operations.{kept, keep, operate_is, small_number, small_text, Outcome, fails, succeeds}
use Rattle.bounded.proofs.Validity.{BaseValid, reads, base_valid, operation_small, valid_bit}

-- ---- New pairs

-- each new pair is of frames, or texts, that were in neither heap before
abbrev FreshIn : {A : Type 0} → (ℕ → ℕ → Type 0) → (ℕ → ℕ → Type 0) → (ℕ → Option A) → (ℕ → Option A) → Type 0
FreshIn Q Q' H K = (a b : ℕ) → Q' a b → Q a b ⊎ ((H a ≡ none) × (K b ≡ none))

pub record Fresh (R R' : Rel) (H K : View) : Type 0 where
  pub new_frames : FreshIn R.frame R'.frame (frame_at H) (frame_at K)
  pub new_texts : FreshIn R.text R'.text (text_at H) (text_at K)

same_fresh : (R : Rel) (H K : View) → Fresh R R H K
same_fresh R H K = record { new_frames = λ a b r. inl r; new_texts = λ a b r. inl r }

fresh_trans : {R R' R'' : Rel} {H K H' K' : View} → Fresh R R' H K → Fresh R' R'' H' K' → Keeps H H' → Keeps K K' → Fresh R R'' H K
fresh_trans {H = H} {K = K} {H' = H'} {K' = K'} f g k l = record {
  new_frames = λ a b r. ⊎_elim (λ q. f.new_frames a b q)
      (λ e. inr (none_before (frame_at H) (frame_at H') a (k.keeps_frame a) e.0, none_before (frame_at K) (frame_at K') b (l.keeps_frame b) e.1)) (g.new_frames a b r);
  new_texts = λ a b r. ⊎_elim (λ q. f.new_texts a b q)
      (λ e. inr (none_before (text_at H) (text_at H') a (k.keeps_text a) e.0, none_before (text_at K) (text_at K') b (l.keeps_text b) e.1)) (g.new_texts a b r);
}

-- ---- Slots in a frame under construction

in_slots_append : (xs : List Slot) (x y : ℕ) (v : Value) → in_slots xs y ≡ none → x ≢ y → in_slots (xs ++ (record { name = x; value = v } ∷ [])) y ≡ none
unfolding in_slots
in_slots_append [] x y v e d = rw (ne_eqb x y d, in_slots)
in_slots_append (z ∷ xs) x y v e d = step (eqb z.name y) e (λ q. in_slots_append xs x y v q d)
  where
    step : (t : Bool) → ◌≡◌ {A = Option Value} (elim t [ true ↦ some z.value | false ↦ in_slots xs y ]) none →
        (in_slots xs y ≡ none → in_slots (xs ++ (record { name = x; value = v } ∷ [])) y ≡ none) →
        ◌≡◌ {A = Option Value} (elim t [ true ↦ some z.value | false ↦ in_slots (xs ++ (record { name = x; value = v } ∷ [])) y ]) none
    step true e k = absurd (none≢some (sym e))
    step false e k = k e

bit_rel : {R : Rel} (a b : Bool) → a ≡ b → ValueRel R (bit a) (bit b)
unfolding bit
bit_rel {R} a b e = subst (λ (c : Bool). ValueRel R (bit a) (bit c)) e (same a)
  where
    same : (a : Bool) → ValueRel R (bit a) (bit a)
    same true = integers
    same false = integers

-- the unbounded machine's operation between two bases
operation_is : (cs : Constants) (m : ℕ) (Σ Π : Value) (o : Operator) (a b : Base Path) (h : Heap) →
    M.evaluate cs m Σ Π (Expression.operation o a b) h ≡ keep (operation_result cs Σ Π h o a b) h
unfolding M.evaluate operation_result M.◌>>=◌ keep
operation_is cs m Σ Π o a b h = step (base_value Σ Π h.frames a) (base_value Σ Π h.frames b)
  where
    step : (x y : Result Value) →
        M.◌>>=◌ x (λ v. M.◌>>=◌ y (λ w. operate cs o v w h)) ≡ keep (M.◌>>=◌ x (λ v. M.◌>>=◌ y (λ w. operated cs h.texts o v w))) h
    step (gives v) (gives w) = operate_is cs o v w h
    step (gives v) (ends e) = refl
    step (ends e) y = refl

module _ {S : Type 0} (𝓞 : Store S) (p : Program) (𝓛 : Laws 𝓞 p) (fits : ProgramFits p) where
  open 𝓞 use {view, next_frame, claim_frame, push, next_text, claim_text}

  -- at most n frames and c texts were taken
  pub record Taken (n c : ℕ) (s s' : S) : Type 0 where
    pub frames : frames_used (view s') ≤ frames_used (view s) + n
    pub texts : texts_used (view s') ≤ texts_used (view s) + c

  -- what an evaluation that does not end gives: q in the store, o in the unbounded heap, where b is the check's answer
  pub record Done (n c : ℕ) (s : S) (h : Heap) (R : Rel) (b : ℕ) (q : Produced S) (o : Result M.Evaluated) : Type 1 where
    pub passes : b ≡ 0
    pub value : Value
    pub heap : Heap
    pub result_is : o ≡ gives (record { value = value; heap = heap })
    pub R' : Rel
    pub up : R ⊆ R'
    pub fresh : Fresh R R' (view s) (all_used h)
    pub well_formed : 𝓛.WellFormed q.store
    pub heaps : Simulates R' (view q.store) (all_used heap)
    pub alike : ValueRel R' q.value value
    pub valid : Valid p (view q.store) q.value
    pub ext : Extends (view s) (view q.store)
    pub ext' : Extends (all_used h) (all_used heap)
    pub taken : Taken n c s q.store

  -- it ends in both, and alike
  abbrev pub Ends : {X : Type 0} → ℕ → Result X → Type 0
  Ends b o = (n : ℕ) × (b ≡ suc n) × (o ≡ ends (suc n))

  abbrev pub Evaluates : (n c : ℕ) (s : S) (h : Heap) (R : Rel) (b : ℕ) (q : Produced S) (o : Result M.Evaluated) → Type 1
  Evaluates n c s h R b q o = Ends b o ⊎ Done n c s h R b q o

  pub record Filled (n c k : ℕ) (f : Frame) (s : S) (h : Heap) (R : Rel) (b : ℕ) (s' : S) (o : Result M.Filled) : Type 1 where
    pub passes : b ≡ 0
    pub value : List Slot
    pub heap : Heap
    pub result_is : o ≡ gives (record { slots = value; heap = heap })
    pub R' : Rel
    pub up : R ⊆ R'
    pub fresh : Fresh R R' (view s) (all_used h)
    pub well_formed : 𝓛.WellFormed s'
    pub heaps : Simulates R' (view s') (all_used heap)
    pub added : List Slot
    pub holds : frame_at (view s') k ≡ some (with_slots f (f.slots ++ added))
    pub alike : SlotsRel R' added value
    pub ext : (n : ℕ) (g : Frame) → n ≢ k → frame_at (view s) n ≡ some g → frame_at (view s') n ≡ some g
    pub ext_text : (j : ℕ) (bs : List ℕ) → text_at (view s) j ≡ some bs → text_at (view s') j ≡ some bs
    pub ext' : Extends (all_used h) (all_used heap)
    pub taken : Taken n c s s'

  abbrev pub Fills : (n c k : ℕ) (f : Frame) (s : S) (h : Heap) (R : Rel) (b : ℕ) (s' : S) (o : Result M.Filled) → Type 1
  Fills n c k f s h R b s' o = Ends b o ⊎ Filled n c k f s h R b s' o

  -- the number of the instruction, and the state before it, in which the check reads
  module _ (maker : ℕ) (maker_fits : maker ≤ length p.instructions) (R₀ : Rel) (H₀ K₀ : View) (S₀ : Simulates R₀ H₀ K₀)
      (Σ Σ' Π Π' : Value) (rΣ : ValueRel R₀ Σ Σ') (rΠ : ValueRel R₀ Π Π') (vΣ : Valid p H₀ Σ) (vΠ : Valid p H₀ Π) where
    abbrev cs : Constants
    cs = constants p

    -- where the evaluation stands, with n frames and c texts to come
    pub record Here (s : S) (h : Heap) (R : Rel) (n c : ℕ) : Type 0 where
      pub well_formed : 𝓛.WellFormed s
      pub heaps : Simulates R (view s) (all_used h)
      pub up : R₀ ⊆ R
      pub ext : Extends H₀ (view s)
      pub ext' : Extends K₀ (all_used h)
      pub room : frames_used (view s) + n ≤ entries
      pub text_room : texts_used (view s) + c ≤ entries

    -- the frame k, with the slots of f so far, and ss to come
    pub record Open (k : ℕ) (f : Frame) (s : S) (R : Rel) (ss : Slots Path) : Type 0 where
      pub holds : frame_at (view s) k ≡ some f
      pub outside : (n : ℕ) → R.frame k n → ⊥
      pub before : frame_at H₀ k ≡ none
      pub few : length f.slots + length (slot_names ss) ≤ 16
      pub new : (y : ℕ) → member y (slot_names ss) ≡ true → in_slots f.slots y ≡ none

    -- ---- Bases and operations

    module _ (s : S) (h : Heap) (R : Rel) (n c : ℕ) (H : Here s h R n c) where
      both : Simulates R₀ (view s) (all_used h)
      both = simulates_extended S₀ H.ext H.ext'

      check_side : Simulates R₀ H₀ (all_used h)
      check_side = simulates_extended S₀ (same_view H₀) H.ext'

      base_stable : (b : Base Path) → base_value Σ Π H₀.heap.frames b ≡ base_value Σ Π (view s).heap.frames b
      base_stable b = base_unique check_side (base_rel check_side rΣ rΠ b) (base_rel both rΣ rΠ b)

      base_here : (b : Base Path) → BaseRel R (base_value Σ Π (view s).heap.frames b) (base_value Σ' Π' h.frames b)
      base_here b = base_rel H.heaps (value_up H.up rΣ) (value_up H.up rΠ) b

      valid_here : (b : Base Path) → BaseFits p b → BaseValid p (view s) (base_value Σ Π (view s).heap.frames b)
      valid_here b f = base_valid 𝓞 p 𝓛 fits s H.well_formed Σ Π (valid_kept (extends_keeps H.ext) vΣ) (valid_kept (extends_keeps H.ext) vΠ) b f

      unchanged : {b : ℕ} {v w : Value} {o : Result M.Evaluated} → b ≡ 0 → o ≡ gives (record { value = w; heap = h }) → ValueRel R v w → Valid p (view s) v →
          Done n c s h R b (record { value = v; store = s }) o
      unchanged {w = w} z e r a = record {
        passes = z;
        value = w;
        heap = h;
        result_is = e;
        R' = R;
        up = same_rel R;
        fresh = same_fresh R (view s) (all_used h);
        well_formed = H.well_formed;
        heaps = H.heaps;
        alike = r;
        valid = a;
        ext = same_view (view s);
        ext' = same_view (all_used h);
        taken = record { frames = omega arith; texts = omega arith };
      }

      base_out : (b : Base Path) → BaseFits p b →
          Evaluates n c s h R (check_expression cs Σ Π H₀.heap (Expression.base b)) (B.evaluate 𝓞 cs maker Σ Π (Expression.base b) s) (M.evaluate cs maker Σ' Π' (Expression.base b) h)
      unfolding check_expression B.evaluate M.evaluate M.◌>>=◌ end_of value_given
      base_out b f = rw (base_stable b) (step (base_here b) (valid_here b f))
        where
          step : {x y : Result Value} → BaseRel R x y → BaseValid p (view s) x →
              Evaluates n c s h R (end_of x) (record { value = value_given x; store = s }) (M.◌>>=◌ y (λ v. gives (record { value = v; heap = h })))
          step both_end a = inl (30, refl, refl)
          step (both_give r) (reads a) = inr (unchanged refl refl r a)

      not_out : (b : Base Path) → BaseFits p b →
          Evaluates n c s h R (check_expression cs Σ Π H₀.heap (Expression.not b)) (B.evaluate 𝓞 cs maker Σ Π (Expression.not b) s) (M.evaluate cs maker Σ' Π' (Expression.not b) h)
      unfolding check_expression B.evaluate M.evaluate M.◌>>=◌ end_of value_given
      not_out b f = rw (base_stable b) (step (base_here b))
        where
          step : {x y : Result Value} → BaseRel R x y →
              Evaluates n c s h R (end_of x) (record { value = bit (not (truth (value_given x))); store = s })
              (M.◌>>=◌ y (λ v. gives (record { value = bit (not (truth v)); heap = h })))
          step both_end = inl (30, refl, refl)
          step (both_give {v = v} r) = inr (unchanged refl refl (bit_rel _ _ (ap not (truth_rel r))) (valid_bit (not (truth v))))

    -- a text: one that is not in use is claimed
    module _ (s : S) (h : Heap) (R : Rel) (n : ℕ) (H : Here s h R n 1) (bs : List ℕ) (short : length bs ≤ 64)
        (string : StringBytes bs) where
      claimed_text : 𝓛.WellFormed (claim_text s bs) × TextClaimed (view s) (view (claim_text s bs)) (next_text s) bs
      claimed_text = 𝓛.claim_text_is s H.well_formed (omega (arith, H.text_room)) bs short string

      abbrev tW : ℕ
      tW = next_text s

      abbrev tE : ℕ
      tE = length h.texts

      wW : TextWritten (view s) (view (claim_text s bs)) tW bs
      wW = claimed_text.1.written

      wE : TextWritten (all_used h) (all_used (with_text bs h)) tE bs
      wE = text_written h bs

      no_text_w : (k : ℕ) → R.text tW k → ⊥
      no_text_w k r = let l = H.heaps.text_link tW k r in none≢some (sym claimed_text.1.free ∙ l.at_left)

      no_text_e : (j : ℕ) → R.text j tE → ⊥
      no_text_e j r = let l = H.heaps.text_link j tE r in none≢some (sym (text_end h) ∙ l.at_right)

      text_done : Done n 1 s h R 0 (record { value = Value.Text (Text.Made tW); store = claim_text s bs }) (gives (record { value = Value.Text (Text.Made tE); heap = with_text bs h }))
      text_done = record {
        passes = refl;
        value = Value.Text (Text.Made tE);
        heap = with_text bs h;
        result_is = refl;
        R' = WithText R tW tE;
        up = up_with_text R tW tE;
        fresh = record {
          new_frames = λ a b r. inl r;
          new_texts = λ a b r. ⊎_elim (λ q. inl q) (λ i. inr (ap (text_at (view s)) i.0 ∙ claimed_text.1.free, ap (text_at (all_used h)) i.1 ∙ text_end h)) r;
        };
        well_formed = claimed_text.0;
        heaps = add_text (simulates_op (write_text_outside (simulates_op (write_text_outside H.heaps no_text_w wW)) no_text_e wE)) no_text_w no_text_e wW.here wE.here;
        alike = texts (inr (refl, refl));
        valid = valid_made wW.here;
        ext = text_extends claimed_text.1.free wW;
        ext' = text_extends (text_end h) wE;
        taken = record {
          frames = omega (arith, text_frames (view s) (view (claim_text s bs)) tW bs wW);
          texts = omega (arith, claimed_texts (view s) (view (claim_text s bs)) tW bs claimed_text.1);
        };
      }

    product_out : (s : S) (h : Heap) (R : Rel) (n c : ℕ) → Here s h R n c → {r : Result Product} → Outcome c r →
        Evaluates n c s h R (end_of r) (produce 𝓞 r s) (keep r h)
    unfolding end_of produce keep kept
    product_out s h R n c H (fails {n = e}) = inl (e, refl, refl)
    product_out s h R n c H (succeeds (small_number e)) = inr (unchanged s h R n c H refl refl integers (valid_integer e))
    product_out s h R n c H (succeeds (small_text {bs = bs} short string)) = inr (text_done s h R n H bs short string)

    operation_out : (s : S) (h : Heap) (R : Rel) (n : ℕ) (o : Operator) (a b : Base Path) → BaseFits p a → BaseFits p b → Here s h R n (is_join o) →
        Evaluates n (is_join o) s h R (check_expression cs Σ Π H₀.heap (Expression.operation o a b))
        (B.evaluate 𝓞 cs maker Σ Π (Expression.operation o a b) s) (M.evaluate cs maker Σ' Π' (Expression.operation o a b) h)
    unfolding check_expression B.evaluate
    operation_out s h R n o a b f g H =
        rw (operation_is cs maker Σ' Π' o a b h, operation_rel (check_side s h R n (is_join o) H) cs rΣ rΠ o a b, ← operation_rel (both s h R n (is_join o) H) cs rΣ rΠ o a b)
        (product_out s h R n (is_join o) H
        (operation_small 𝓞 p 𝓛 fits s H.well_formed Σ Π (valid_kept (extends_keeps H.ext) vΣ) (valid_kept (extends_keeps H.ext) vΠ) o a b f g))

    -- ---- One slot more

    slot_out : (x n m c d k : ℕ) (f : Frame) (ss : Slots Path) (e : Expression Path) (s : S) (h : Heap) (R : Rel) (b b' : ℕ) (q : Produced S) (s' : S)
        (o : Result M.Evaluated) (o' : Heap → Result M.Filled) → x < length p.names → member x (slot_names ss) ≡ false →
        Here s h R (n + m) (c + d) → Open k f s R (Slots.slot x e ss) →
        Evaluates n c s h R b q o →
        ((D : Done n c s h R b q o) → Here (push q.store k x q.value) D.heap D.R' m d →
        Open k (with_slots f (f.slots ++ (record { name = x; value = q.value } ∷ []))) (push q.store k x q.value) D.R' ss →
        Fills m d k (with_slots f (f.slots ++ (record { name = x; value = q.value } ∷ []))) (push q.store k x q.value) D.heap D.R' b' s' (o' D.heap)) →
        Fills (n + m) (c + d) k f s h R (first_end b b') s'
        (M.◌>>=◌ o (λ r. M.◌>>=◌ (o' r.heap) (λ t. gives (record { slots = record { name = x; value = r.value } ∷ t.slots; heap = t.heap }))))
    unfolding first_end M.◌>>=◌ slot_names in_frame
    slot_out x n m c d k f ss e s h R b b' q s' o o' named once H P (inl z) then = inl (z.0, rw z.1, rw z.2)
    slot_out x n m c d k f ss e s h R b b' q s' o o' named once H P (inr D) then = step (then D here' opened)
      where
        f₁ : Frame
        f₁ = with_slots f (f.slots ++ (record { name = x; value = q.value } ∷ []))

        s₁ : S
        s₁ = push q.store k x q.value

        at_k : frame_at (view q.store) k ≡ some f
        at_k = D.ext.old_frame k f P.holds

        pushed : 𝓛.WellFormed s₁ × FrameWritten (view q.store) (view s₁) k f₁
        pushed = 𝓛.push_is q.store D.well_formed k x q.value f at_k (omega (arith, P.few)) named (P.new x (here x x (slot_names ss) refl)) D.valid

        w : FrameWritten (view q.store) (view s₁) k f₁
        w = pushed.1

        out : (j : ℕ) → D.R'.frame k j → ⊥
        out j r = ⊎_elim (λ i. P.outside j i) (λ i. none≢some (sym i.0 ∙ P.holds)) (D.fresh.new_frames k j r)

        frames₁ : frames_used (view s₁) ≡ frames_used (view q.store)
        frames₁ = written_frames (view q.store) (view s₁) k f₁ f at_k w

        texts₁ : texts_used (view s₁) ≡ texts_used (view q.store)
        texts₁ = written_texts (view q.store) (view s₁) k f₁ w

        ext₁ : Extends H₀ (view s₁)
        ext₁ = record {
          old_frame = λ a g i. w.there a (not_new_frame H₀ k P.before a g i) ∙ D.ext.old_frame a g (H.ext.old_frame a g i);
          old_text = λ a bs i. w.texts a ∙ D.ext.old_text a bs (H.ext.old_text a bs i);
        }

        here' : Here s₁ D.heap D.R' m d
        here' = record {
          well_formed = pushed.0;
          heaps = write_outside D.heaps out w;
          up = up_trans H.up D.up;
          ext = ext₁;
          ext' = extends_trans H.ext' D.ext';
          room = omega (arith, frames₁, D.taken.frames, H.room);
          text_room = omega (arith, texts₁, D.taken.texts, H.text_room);
        }

        opened : Open k f₁ s₁ D.R' ss
        opened = record {
          holds = w.here;
          outside = out;
          before = P.before;
          few = omega (arith, P.few, length-append f.slots (record { name = x; value = q.value } ∷ []));
          new = λ y i. in_slots_append f.slots x y q.value (P.new y (there y x (slot_names ss) i))
              (λ z. true≢false (sym i ∙ ap (λ (a : ℕ). member a (slot_names ss)) (sym z) ∙ once));
        }

        keeps : Keeps (view s) (view s₁)
        keeps = keeps_trans (extends_keeps D.ext) (written_keeps w)

        step : Fills m d k f₁ s₁ D.heap D.R' b' s' (o' D.heap) →
            Fills (n + m) (c + d) k f s h R (first_end b b') s'
            (M.◌>>=◌ o (λ r. M.◌>>=◌ (o' r.heap) (λ t. gives (record { slots = record { name = x; value = r.value } ∷ t.slots; heap = t.heap }))))
        step (inl z) = inl (z.0, rw D.passes z.1, rw (D.result_is, z.2))
        step (inr E) = inr (record {
          passes = rw D.passes E.passes;
          value = record { name = x; value = D.value } ∷ E.value;
          heap = E.heap;
          result_is = rw (D.result_is, E.result_is);
          R' = E.R';
          up = up_trans D.up E.up;
          fresh = fresh_trans D.fresh E.fresh keeps (extends_keeps D.ext');
          well_formed = E.well_formed;
          heaps = E.heaps;
          added = record { name = x; value = q.value } ∷ E.added;
          holds = E.holds ∙ ap (λ (l : List Slot). some (with_slots f l)) (append_assoc f.slots (record { name = x; value = q.value } ∷ []) E.added);
          alike = next_slot refl (value_up E.up D.alike) E.alike;
          ext = λ a g i z. E.ext a g i (w.there a i ∙ D.ext.old_frame a g z);
          ext_text = λ a bs z. E.ext_text a bs (w.texts a ∙ D.ext.old_text a bs z);
          ext' = extends_trans D.ext' E.ext';
          taken = record { frames = omega (arith, E.taken.frames, frames₁, D.taken.frames); texts = omega (arith, E.taken.texts, texts₁, D.taken.texts) };
        })

    -- ---- A frame literal: a frame that is not in use is claimed, and filled

    module _ (n c : ℕ) (ss : Slots Path) (small : length (slot_names ss) ≤ 16) (s : S) (h : Heap) (R : Rel) (H : Here s h R (suc n) c) where
      abbrev kW : ℕ
      kW = next_frame s

      abbrev kE : ℕ
      kE = length h.frames

      claimed : 𝓛.WellFormed (claim_frame s maker) × FrameClaimed (view s) (view (claim_frame s maker)) kW maker
      claimed = 𝓛.claim_frame_is s H.well_formed (omega (arith, H.room)) maker maker_fits

      free : frame_at (view s) kW ≡ none
      free = claimed.1.free

      w : FrameWritten (view s) (view (claim_frame s maker)) kW (new_frame maker [])
      w = claimed.1.written

      out_w : (j : ℕ) → R.frame kW j → ⊥
      out_w j r = let l = H.heaps.frame_link kW j r in none≢some (sym free ∙ l.at_left)

      out_e : (j : ℕ) → R.frame j kE → ⊥
      out_e j r = let l = H.heaps.frame_link j kE r in none≢some (sym (frame_end h) ∙ l.at_right)

      frames_claim : frames_used (view (claim_frame s maker)) ≡ suc (frames_used (view s))
      frames_claim = claimed_frames (view s) (view (claim_frame s maker)) kW maker claimed.1

      texts_claim : texts_used (view (claim_frame s maker)) ≡ texts_used (view s)
      texts_claim = written_texts (view s) (view (claim_frame s maker)) kW (new_frame maker []) w

      claim_ext : Extends (view s) (view (claim_frame s maker))
      claim_ext = written_extends free w

      grown : Extends (all_used h) (all_used (with_frame maker h))
      grown = written_extends (frame_end h) (new_written maker h)

      claim_here : Here (claim_frame s maker) (with_frame maker h) R n c
      claim_here = record {
        well_formed = claimed.0;
        heaps = simulates_op (write_outside (simulates_op (write_outside H.heaps out_w w)) out_e (new_written maker h));
        up = H.up;
        ext = extends_trans H.ext claim_ext;
        ext' = extends_trans H.ext' grown;
        room = omega (arith, frames_claim, H.room);
        text_room = omega (arith, texts_claim, H.text_room);
      }

      claim_open : Open kW (new_frame maker []) (claim_frame s maker) R ss
      unfolding in_slots
      claim_open = record {
        holds = w.here;
        outside = out_w;
        before = none_before (frame_at H₀) (frame_at (view s)) kW (λ d. (d.0, H.ext.old_frame kW d.0 d.1)) free;
        few = omega arith;
        new = λ y i. refl;
      }

      frame_out : (b : ℕ) (s' : S) (o : Result M.Filled) → Fills n c kW (new_frame maker []) (claim_frame s maker) (with_frame maker h) R b s' o →
          Evaluates (suc n) c s h R b (record { value = Value.Frame kW; store = s' })
          (M.◌>>=◌ o (λ r. gives (record { value = Value.Frame kE; heap = with_frames (set r.heap.frames kE (new_frame maker r.slots)) r.heap })))
      unfolding M.◌>>=◌
      frame_out b s' o (inl z) = inl (z.0, z.1, rw z.2)
      frame_out b s' o (inr D) = inr (record {
        passes = D.passes;
        value = Value.Frame kE;
        heap = with_frames (set D.heap.frames kE (new_frame maker D.value)) D.heap;
        result_is = rw D.result_is;
        R' = With D.R' kW kE;
        up = up_trans D.up (up_with D.R' kW kE);
        fresh = record { new_frames = fresh'; new_texts = fresh_all.new_texts };
        well_formed = D.well_formed;
        heaps = add_frame (simulates_op (write_outside (simulates_op D.heaps) not_e wE)) not_w not_e D.holds wE.here D.alike refl;
        alike = frames (inr (refl, refl));
        valid = valid_frame D.holds;
        ext = record {
          old_frame = λ a g z. D.ext a g (not_new_frame (view s) kW free a g z) (claim_ext.old_frame a g z);
          old_text = λ a bs z. D.ext_text a bs (claim_ext.old_text a bs z);
        };
        ext' = record {
          old_frame = λ a g z. wE.there a (not_new_frame (all_used h) kE (frame_end h) a g z) ∙ D.ext'.old_frame a g (grown.old_frame a g z);
          old_text = λ a bs z. wE.texts a ∙ D.ext'.old_text a bs (grown.old_text a bs z);
        };
        taken = record { frames = omega (arith, D.taken.frames, frames_claim); texts = omega (arith, D.taken.texts, texts_claim) };
      })
        where
          wE : FrameWritten (all_used D.heap) (all_used (with_frames (set D.heap.frames kE (new_frame maker D.value)) D.heap)) kE (new_frame maker D.value)
          wE = set_written D.heap kE (new_frame maker D.value) (new_frame maker []) (D.ext'.old_frame kE (new_frame maker []) (new_written maker h).here)

          fresh_all : Fresh R D.R' (view s) (all_used h)
          fresh_all = fresh_trans (same_fresh R (view s) (all_used h)) D.fresh (extends_keeps claim_ext) (extends_keeps grown)

          fresh' : (a b : ℕ) → (With D.R' kW kE).frame a b → R.frame a b ⊎ ((frame_at (view s) a ≡ none) × (frame_at (all_used h) b ≡ none))
          fresh' a b (inl r) = fresh_all.new_frames a b r
          fresh' a b (inr i) = inr (ap (frame_at (view s)) i.0 ∙ free, ap (frame_at (all_used h)) i.1 ∙ frame_end h)

          not_w : (j : ℕ) → D.R'.frame kW j → ⊥
          not_w j r = ⊎_elim (λ q. out_w j q) (λ e. none≢some (sym e.0 ∙ w.here)) (D.fresh.new_frames kW j r)

          not_e : (j : ℕ) → D.R'.frame j kE → ⊥
          not_e j r = ⊎_elim (λ q. out_e j q) (λ e. none≢some (sym e.1 ∙ (new_written maker h).here)) (D.fresh.new_frames j kE r)

    -- ---- Expressions and slots

    mutual
      unfolding check_expression B.evaluate M.evaluate frame_literals join_signs

      pub evaluate_out : (e : Expression Path) → ExpressionFits p e → (s : S) (h : Heap) (R : Rel) → Here s h R (frame_literals e) (join_signs e) →
          Evaluates (frame_literals e) (join_signs e) s h R (check_expression cs Σ Π H₀.heap e) (B.evaluate 𝓞 cs maker Σ Π e s) (M.evaluate cs maker Σ' Π' e h)
      evaluate_out (Expression.base b) t s h R H = base_out s h R 0 0 H b t
      evaluate_out (Expression.not b) t s h R H = not_out s h R 0 0 H b t
      evaluate_out (Expression.operation o a b) t s h R H = operation_out s h R 0 o a b t.0 t.1 H
      evaluate_out (Expression.frame ss) t s h R H =
          frame_out (frame_literals_in ss) (join_signs_in ss) ss t.0 s h R H _ _ _
          (fill_out ss t.1 (next_frame s) (new_frame maker []) (claim_frame s maker) (with_frame maker h) R
          (claim_here (frame_literals_in ss) (join_signs_in ss) ss t.0 s h R H) (claim_open (frame_literals_in ss) (join_signs_in ss) ss t.0 s h R H))

      pub fill_out : (ss : Slots Path) → SlotsFit p ss → (k : ℕ) (f : Frame) (s : S) (h : Heap) (R : Rel) → Here s h R (frame_literals_in ss) (join_signs_in ss) →
          Open k f s R ss →
          Fills (frame_literals_in ss) (join_signs_in ss) k f s h R (check_slots cs Σ Π H₀.heap ss) (B.fill 𝓞 cs maker Σ Π k ss s) (M.fill cs maker Σ' Π' ss h)
      fill_out Slots.no_slots t k f s h R H P = inr (record {
        passes = refl;
        value = [];
        heap = h;
        result_is = refl;
        R' = R;
        up = same_rel R;
        fresh = same_fresh R (view s) (all_used h);
        well_formed = H.well_formed;
        heaps = H.heaps;
        added = [];
        holds = P.holds ∙ ap (λ (l : List Slot). some (with_slots f l)) (sym (append-nil f.slots));
        alike = none_left;
        ext = λ a g i z. z;
        ext_text = λ a bs z. z;
        ext' = same_view (all_used h);
        taken = record { frames = omega arith; texts = omega arith };
      })
      fill_out (Slots.slot x e ss) t k f s h R H P =
          slot_out x (frame_literals e) (frame_literals_in ss) (join_signs e) (join_signs_in ss) k f ss e s h R _ _ _ _ _ (λ g. M.fill cs maker Σ' Π' ss g) t.0 t.1 H P
          (evaluate_out e t.2 s h R (record { well_formed = H.well_formed; heaps = H.heaps; up = H.up; ext = H.ext; ext' = H.ext'; room = omega (arith, H.room); text_room = omega (arith, H.text_room) }))
          (λ D here' opened. fill_out ss t.3 k _ _ D.heap D.R' here' opened)
