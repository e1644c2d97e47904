-- What each way through evaluate and fill gives. Assumes nothing.
use Prim.Native.Nat.{ℕ, zero, suc, ◌+◌, ◌-◌, ◌*◌, ◌≤◌, ◌<◌}
use mathlib.Core.Path.{◌≡◌, refl, ◌∙◌, ap, sym}
use mathlib.Core.List.{List, []}
use native.Mathlib.Omega.{arith}
use native.Mathlib.Decide.{dec_le, ℕ_discrete}
use lib.ListN.{length}
use borrow.Author.Tests.{eq-eqb, ne_eqb, le-leb, lt-leb}
use Rattle.framed.specs.declared.Value.{Value}
use Rattle.framed.specs.Tree.{Expression, Slots}
use Rattle.framed.specs.Paths.{Path}
use Rattle.framed.specs.Equality.{Constants}
use Rattle.framed.specs.Machine.{frame_literals, frame_literals_in, join_signs, join_signs_in}
use Rattle.tables.specs.declared.ExpressionEntry.{ExpressionEntry}
use Rattle.tables.specs.Entries.{expression_of, expression_at}
use Rattle.tables.specs.Fields.{expressions, expression_kind, expression_a, link, slot_name, slot_link, slot_after}
use Rattle.program_form.specs.Sound.{SlotPlace, Sound}
use Rattle.program_form.proofs.Decides.{sound}
use Rattle.trees.specs.Held.{expression_held, slots_held, OneLevel}
use Rattle.trees.proofs.Held.{one_level_held, frame_held}
use Rattle.heap.specs.Words.{self_held, program_held, position, take_frame, add_slot}
use Rattle.heap.specs.Held.{frames_in_use}
use Rattle.allocation.specs.Allocation.{next_frame}
use Rattle.allocation.specs.Known.{Full}
use Rattle.bounded.specs.Bounded.{Produced, value_given, evaluate, fill}
use Rattle.operands.specs.Operands.{operand_value}
use Rattle.evaluation.proofs.Simple.{base_evaluates}
use Rattle.word_store.specs.Store.{Memories, word_store, claim_frame}
use Rattle.word_store.specs.State.{store_held}
use Rattle.producing.specs.Producing.{Leaves, made}
use Rattle.producing.proofs.Leaves.{leaves_none, leaves_both}
use Rattle.evaluation.specs.Evaluation.{Claims, program_constants, CanEvaluate, Flat, Evaluates, CanFill, Fills, FillsBases}
use Rattle.evaluation.proofs.Fits.{fits_frame}
use Rattle.evaluation.proofs.Stores.{next_is, claim_store, push_store, self_kept, program_kept, position_kept, claim_in_use, claim_leaves, push_leaves}

pub claim_done : (h : List ℕ) (f m : ℕ) (h' : List ℕ) → f ≡ next_frame h → m ≡ position h → h' ≡ take_frame h f m → Claims h f h'
unfolding claim_frame
claim_done h f m h' ef em eh = record { answer = ef; words = eh ∙ rw (ef, em) }

full_after : {h t h' t' : List ℕ} {f n low least : ℕ} → Leaves h t f n h' t' → Full h low least → Full h' low least
full_after l a = record {
  frames = record { in_use = λ g lt. l.stay g (a.frames.in_use g lt) };
  texts = record { in_use = λ k lt. l.stay_text k (a.texts.in_use k lt) };
}

-- ---- The measure: an expression is above its slots, a slot above what follows

-- of the place z of a slot; none at the end
unfoldable pub slots_left : ℕ → ℕ
slots_left zero = 0
slots_left (suc y) = 2 * (1024 - y) + 1

links_up : (x d : ℕ) → x < 1024 → slots_left (link 1024 x d) < 2 * (1024 - x)
unfolding slots_left link
links_up x d lt = go (ℕ_discrete d 0) (dec_le 1024 (x + d))
  where
    go : Dec (d ≡ 0) → Dec (1024 ≤ x + d) → slots_left (link 1024 x d) < 2 * (1024 - x)
    go (yes e) b = rw (eq-eqb d 0 e) (omega arith)
    go (no n) (yes b) = rw (ne_eqb d 0 n, le-leb 1024 (x + d) b) (omega arith)
    go (no n) (no b) = let e : 1 + x + d ≡ suc (x + d) = omega arith in rw (ne_eqb d 0 n, lt-leb 1024 (x + d) (omega arith), e) (omega arith)

-- a slot that is not there has none after it
links_out : (x d : ℕ) → 1024 ≤ x → link 1024 x d ≡ 0
unfolding link
links_out x d le = go (ℕ_discrete d 0)
  where
    go : Dec (d ≡ 0) → link 1024 x d ≡ 0
    go (yes e) = rw (eq-eqb d 0 e)
    go (no n) = rw (ne_eqb d 0 n, le-leb 1024 (x + d) (omega arith))

pub slots_fall : (p : List ℕ) (z w : ℕ) → (z ≡ 0 → ⊥) → w ≡ slot_after p (z - 1) → slots_left w < slots_left z
unfolding slots_left slot_after
slots_fall p zero w nz ew = absurd (nz refl)
slots_fall p (suc y) w nz ew = let e : suc y - 1 ≡ y = omega arith in rw (ew, e) (go (dec_le 1024 y))
  where
    go : Dec (1024 ≤ y) → slots_left (link 1024 y (slot_link p y)) < 2 * (1024 - y) + 1
    go (yes b) = rw (links_out y (slot_link p y) b) (omega arith)
    go (no b) = let q = links_up y (slot_link p y) (omega arith) in omega arith

-- ---- evaluate

module _ (p l h t : List ℕ) (x : ℕ) (can : CanEvaluate p l h t x) (e : ExpressionEntry) (ee : e ≡ expression_at p x) where
  x_small : x < 1024
  x_small = let a = can.there in let b = can.writable.program.entries.limits.expressions_most in omega arith

  pub evaluate_flat : ((k : ℕ) → e ≡ ExpressionEntry.Frame k → ⊥) → Flat p l h t x
  evaluate_flat o = record { can = can; no_frame = λ d q. o d (ee ∙ q) }

  module _ (d : ℕ) (is : e ≡ ExpressionEntry.Frame d) (f : ℕ) (h₁ : List ℕ) (c : Claims h f h₁) (z : ℕ) (ez : z ≡ link 1024 x d) where
    entry : expression_at p x ≡ ExpressionEntry.Frame d
    entry = sym ee ∙ is

    tree_is : expression_held p x ≡ Expression.frame (slots_held p z)
    tree_is = frame_held p l can.writable.program x can.there d entry ∙ rw (← ez)

    literals_are : frame_literals (expression_held p x) ≡ suc (frame_literals_in (slots_held p z))
    unfolding frame_literals
    literals_are = rw tree_is

    signs_are : join_signs (expression_held p x) ≡ join_signs_in (slots_held p z)
    unfolding join_signs
    signs_are = rw tree_is

    few : length (frames_in_use h) < 256
    few = let q = can.room.frames in let a = literals_are in omega arith

    left : Leaves h t 1 0 h₁ t
    left = rw c.words (claim_leaves h t can.writable.sized can.writable.text_size few (position h))

    pub evaluate_can_fill : CanFill p l h₁ t f z
    evaluate_can_fill = record {
      writable = record { program = can.writable.program; sized = left.sized; text_size = can.writable.text_size };
      place = rw ez (SlotPlace.of_frame x d can.there entry);
      frame = rw (c.words, c.answer) (claim_in_use h t can.writable.sized can.writable.text_size few (position h));
      room = record {
        frames = let q = can.room.frames in let a = literals_are in let b = left.frames in omega arith;
        texts = let q = can.room.texts in let a = signs_are in let b = left.texts in omega arith;
      };
    }

    pub evaluate_full : (low least : ℕ) → Full h low least → Full h₁ low least
    evaluate_full low least a = full_after left a

    pub evaluate_falls : (m : ℕ) → 2 * (1024 - x) ≡ m → slots_left z < m
    evaluate_falls m em = rw ez (let q = links_up x d x_small in omega arith)

    pub evaluate_frame : (h' t' : List ℕ) → Fills p l h₁ t f z h' t' → Evaluates p l h t x (Value.Frame f) h' t'
    unfolding evaluate
    evaluate_frame h' t' k =
        let v = leaves_both left k.leaves in
        let a = literals_are in
        let b = signs_are in
        record {
          produced = rw tree_is (make (rw (position_kept left.header, self_kept left.header, program_kept left.header) at k.stored));
          leaves = record { header = v.header; stay = v.stay; stay_text = v.stay_text; sized = v.sized; text_size = v.text_size; frames = let q = v.frames in omega arith; texts = let q = v.texts in omega arith };
          fits = fits_frame f;
        }
      where
        make : fill word_store (program_constants p l) (position h) (self_held h) (program_held h) f (slots_held p z) (store_held h₁ t) ≡ store_held h' t' →
            evaluate word_store (program_constants p l) (position h) (self_held h) (program_held h) (Expression.frame (slots_held p z)) (store_held h t) ≡ made (Value.Frame f) h' t'
        make s =
            let en : word_store.next_frame (store_held h t) ≡ f = next_is h t ∙ sym c.answer in
            let ec : word_store.claim_frame (store_held h t) (position h) ≡ store_held h₁ t = sym (claim_store h t can.writable.sized.size (position h)) ∙ rw c.words in
            rw (en, ec, s)

-- ---- fill

fill_step : (cs : Constants) (m : ℕ) (Σ Π : Value) (f n : ℕ) (e : Expression Path) (ss : Slots Path) (s : Memories) →
    fill word_store cs m Σ Π f (Slots.slot n e ss) s
    ≡ fill word_store cs m Σ Π f ss (word_store.push (evaluate word_store cs m Σ Π e s).store f n (evaluate word_store cs m Σ Π e s).value)
unfolding fill
fill_step cs m Σ Π f n e ss s = refl

module _ (p l h t : List ℕ) (f z : ℕ) (can : CanFill p l h t f z) where
  one : OneLevel p l
  one = one_level_held p l can.writable.program

  G : Sound p
  G = sound p l can.writable.program

  none_left : z ≡ 0 → Fills p l h t f z h t
  unfolding fill
  none_left e = record { stored = rw (e, one.no_slots); leaves = leaves_none _ _ can.writable.sized can.writable.text_size }

  module _ (nz : z ≡ 0 → ⊥) (y : ℕ) (ey : y ≡ z - 1) where
    z_is : z ≡ suc y
    z_is = omega arith

    place : SlotPlace p (suc y)
    place = rw (← z_is) can.place

    there : y < expressions p
    there = G.slot_there y place

    slots_are : slots_held p z ≡ Slots.slot (slot_name p y) (expression_held p y) (slots_held p (slot_after p y))
    slots_are = rw z_is (one.slot y place)

    literals_in : frame_literals_in (slots_held p z) ≡ frame_literals (expression_held p y) + frame_literals_in (slots_held p (slot_after p y))
    unfolding frame_literals_in
    literals_in = rw slots_are

    signs_in : join_signs_in (slots_held p z) ≡ join_signs (expression_held p y) + join_signs_in (slots_held p (slot_after p y))
    unfolding join_signs_in
    signs_in = rw slots_are

    slot_can : CanEvaluate p l h t y
    slot_can = record {
      writable = can.writable;
      there = there;
      room = record { frames = let q = can.room.frames in let a = literals_in in omega arith; texts = let q = can.room.texts in let a = signs_in in omega arith };
    }

    slot_below : (m : ℕ) → slots_left z ≡ m → 2 * (1024 - y) < m
    unfolding slots_left
    slot_below m em = let q : 2 * (1024 - y) + 1 ≡ m = rw z_is at em in omega arith

    module _ (v : Value) (h₁ t₁ : List ℕ) (m : Evaluates p l h t y v h₁ t₁) (x : ℕ) (ex : x ≡ slot_name p y) (h₂ : List ℕ) (eh : h₂ ≡ add_slot h₁ f x v) (w : ℕ) (ew : w ≡ slot_after p y) where
      pushed : Leaves h₁ t₁ 0 0 h₂ t₁
      pushed = rw eh (push_leaves h₁ t₁ m.leaves.sized m.leaves.text_size f x v (m.leaves.stay f can.frame))

      so_far : Leaves h t (frame_literals (expression_held p y) + 0) (join_signs (expression_held p y) + 0) h₂ t₁
      so_far = leaves_both m.leaves pushed

      next_can : CanFill p l h₂ t₁ f w
      next_can = rw ew (record {
        writable = record { program = can.writable.program; sized = so_far.sized; text_size = so_far.text_size };
        place = SlotPlace.after y place;
        frame = so_far.stay f can.frame;
        room = record {
          frames = let q = can.room.frames in let a = literals_in in let b = so_far.frames in omega arith;
          texts = let q = can.room.texts in let a = signs_in in let b = so_far.texts in omega arith;
        };
      })

      next_full : (low least : ℕ) → Full h low least → Full h₂ low least
      next_full low least a = full_after so_far a

      rest_filled : (h₃ t₃ : List ℕ) → Fills p l h₂ t₁ f w h₃ t₃ → Fills p l h t f z h₃ t₃
      rest_filled h₃ t₃ k =
          let a = literals_in in
          let b = signs_in in
          let c = leaves_both so_far (rw ew at k.leaves) in
          record {
            stored = rw slots_are (go (rw (position_kept so_far.header, self_kept so_far.header, program_kept so_far.header, ew) at k.stored));
            leaves = record { header = c.header; stay = c.stay; stay_text = c.stay_text; sized = c.sized; text_size = c.text_size; frames = let q = c.frames in omega arith; texts = let q = c.texts in omega arith };
          }
        where
          go : fill word_store (program_constants p l) (position h) (self_held h) (program_held h) f (slots_held p (slot_after p y)) (store_held h₂ t₁) ≡ store_held h₃ t₃ →
              fill word_store (program_constants p l) (position h) (self_held h) (program_held h) f (Slots.slot (slot_name p y) (expression_held p y) (slots_held p (slot_after p y))) (store_held h t) ≡ store_held h₃ t₃
          go s =
              let ep : word_store.push (store_held h₁ t₁) f (slot_name p y) v ≡ store_held h₂ t₁ = sym (push_store h₁ t₁ m.leaves.sized.size f (slot_name p y) v) ∙ rw (eh, ex) in
              fill_step (program_constants p l) (position h) (self_held h) (program_held h) f (slot_name p y) (expression_held p y) (slots_held p (slot_after p y)) (store_held h t)
              ∙ ap (λ (r : Produced Memories). fill word_store (program_constants p l) (position h) (self_held h) (program_held h) f (slots_held p (slot_after p y)) (word_store.push r.store f (slot_name p y) r.value)) m.produced
              ∙ ap (fill word_store (program_constants p l) (position h) (self_held h) (program_held h) f (slots_held p (slot_after p y))) ep
              ∙ s

-- the loop: what fills the slots from z on then fills all
module _ (p l : List ℕ) (f from low least : ℕ) (h₀ t₀ : List ℕ) where
  pub record Filling (h t : List ℕ) (z : ℕ) : Type 0 where
    can : CanFill p l h t f z
    full : Full h low least
    fewer : slots_left z ≤ slots_left from
    size : length h ≡ length h₀
    text_size : length t ≡ length t₀
    back : (h₃ t₃ : List ℕ) → Fills p l h t f z h₃ t₃ → Fills p l h₀ t₀ f from h₃ t₃

  pub fill_start : CanFill p l h₀ t₀ f from → Full h₀ low least → Filling h₀ t₀ from
  fill_start a b = record { can = a; full = b; fewer = omega arith; size = refl; text_size = refl; back = λ h₃ t₃ k. k }

  module _ (h t : List ℕ) (z : ℕ) (k : Filling h t z) where
    pub fill_size : length h ≡ length h₀
    fill_size = k.size

    pub fill_text_size : length t ≡ length t₀
    fill_text_size = k.text_size

    pub fill_done : z ≡ 0 → Fills p l h₀ t₀ f from h t
    fill_done e = k.back h t (none_left p l h t f z k.can e)

    module _ (nz : z ≡ 0 → ⊥) where
      pub fill_can_evaluate : CanEvaluate p l h t (z - 1)
      fill_can_evaluate = slot_can p l h t f z k.can nz (z - 1) refl

      pub fill_full : Full h low least
      fill_full = k.full

      pub fill_falls : (m : ℕ) → slots_left from ≡ m → 2 * (1024 - (z - 1)) < m
      fill_falls m em = let a = slot_below p l h t f z k.can nz (z - 1) refl (slots_left z) refl in let b = k.fewer in omega arith

      module _ (v : Value) (h₁ t₁ : List ℕ) (m : Evaluates p l h t (z - 1) v h₁ t₁) (x : ℕ) (ex : x ≡ slot_name p (z - 1)) (h₂ : List ℕ) (eh : h₂ ≡ add_slot h₁ f x v) (w : ℕ) (ew : w ≡ slot_after p (z - 1)) where
        pub fill_again : Filling h₂ t₁ w
        fill_again =
            let c = next_can p l h t f z k.can nz (z - 1) refl v h₁ t₁ m x ex h₂ eh w ew in
            record {
              can = c;
              full = next_full p l h t f z k.can nz (z - 1) refl v h₁ t₁ m x ex h₂ eh w ew low least k.full;
              fewer = let a = slots_fall p z w nz ew in let b = k.fewer in omega arith;
              size = c.writable.sized.size ∙ sym k.can.writable.sized.size ∙ k.size;
              text_size = c.writable.text_size ∙ sym k.can.writable.text_size ∙ k.text_size;
              back = λ h₃ t₃ q. k.back h₃ t₃ (rest_filled p l h t f z k.can nz (z - 1) refl v h₁ t₁ m x ex h₂ eh w ew h₃ t₃ q);
            }

      -- a base
      module _ (q : ℕ) (eq : q ≡ expression_kind p (z - 1)) (lt : q < 5) (v : Value) (ev : v ≡ value_given (operand_value p h (z - 1)))
          (x : ℕ) (ex : x ≡ slot_name p (z - 1)) (h₂ : List ℕ) (eh : h₂ ≡ add_slot h f x v) (w : ℕ) (ew : w ≡ slot_after p (z - 1)) where
        read : Evaluates p l h t (z - 1) v h t
        read = base_evaluates p l h t (z - 1) fill_can_evaluate q eq lt v ev

        pub base_again : Filling h₂ t w
        base_again = fill_again v h t read x ex h₂ eh w ew

-- ---- fill_bases

-- the loop: what is left gives the same as the whole
module _ (p : List ℕ) (f from : ℕ) (h₀ : List ℕ) where
  pub record FillingBases (h : List ℕ) (z : ℕ) : Type 0 where
    size : length h ≡ length h₀
    left : (r : ℕ) (h' : List ℕ) → FillsBases p f h z r h' → FillsBases p f h₀ from r h'

  pub bases_start : FillingBases h₀ from
  bases_start = record { size = refl; left = λ r h' q. q }

  module _ (h : List ℕ) (z : ℕ) (k : FillingBases h z) where
    pub bases_size : length h ≡ length h₀
    bases_size = k.size

    pub bases_done : z ≡ 0 → FillsBases p f h₀ from 0 h
    bases_done e = k.left 0 h (FillsBases.none e)

    module _ (nz : z ≡ 0 → ⊥) (q : ℕ) (eq : q ≡ expression_kind p (z - 1)) where
      pub bases_end : 5 ≤ q → FillsBases p f h₀ from z h
      bases_end le = k.left z h (FillsBases.other nz (omega (arith, eq)))

      pub bases_again : q < 5 → (v : Value) → v ≡ value_given (operand_value p h (z - 1)) → (x : ℕ) → x ≡ slot_name p (z - 1) → (h₂ : List ℕ) → h₂ ≡ add_slot h f x v → (w : ℕ) → w ≡ slot_after p (z - 1) →
          length h₂ ≡ length h → FillingBases h₂ w
      bases_again lt v ev x ex h₂ eh w ew e = record {
        size = e ∙ k.size;
        left = λ r h' b. k.left r h' (FillsBases.base nz (omega (arith, eq)) (rw (eh, ex, ev, ew) at b));
      }

-- the bases from z on are pushed up to the place r, and nothing is made: what fills the slots from r on then fills all
record FilledUpTo (p l h t : List ℕ) (f z r : ℕ) (h' : List ℕ) : Type 0 where
  can : CanFill p l h' t f r
  leaves : Leaves h t 0 0 h' t
  rest : (h'' t'' : List ℕ) → Fills p l h' t f r h'' t'' → Fills p l h t f z h'' t''

module _ (p l t : List ℕ) (f : ℕ) (h₀ : List ℕ) (from : ℕ) where
  one_more : (h : List ℕ) (z : ℕ) → (z ≡ 0 → ⊥) → expression_kind p (z - 1) < 5 → FilledUpTo p l h₀ t f from z h →
      FilledUpTo p l h₀ t f from (slot_after p (z - 1)) (add_slot h f (slot_name p (z - 1)) (value_given (operand_value p h (z - 1))))
  one_more h z nz lt b =
      let c = b.can in
      let v = value_given (operand_value p h (z - 1)) in
      let m = base_evaluates p l h t (z - 1) (slot_can p l h t f z c nz (z - 1) refl) (expression_kind p (z - 1)) refl lt v refl in
      record {
        can = next_can p l h t f z c nz (z - 1) refl v h t m (slot_name p (z - 1)) refl (add_slot h f (slot_name p (z - 1)) v) refl (slot_after p (z - 1)) refl;
        leaves = leaves_both b.leaves (pushed p l h t f z c nz (z - 1) refl v h t m (slot_name p (z - 1)) refl (add_slot h f (slot_name p (z - 1)) v) refl (slot_after p (z - 1)) refl);
        rest = λ h'' t'' r. b.rest h'' t'' (rest_filled p l h t f z c nz (z - 1) refl v h t m (slot_name p (z - 1)) refl (add_slot h f (slot_name p (z - 1)) v) refl (slot_after p (z - 1)) refl h'' t'' r);
      }

  filled_on : {h h' : List ℕ} {z r : ℕ} → FillsBases p f h z r h' → FilledUpTo p l h₀ t f from z h → FilledUpTo p l h₀ t f from r h'
  filled_on (FillsBases.none e) b = rw e at b
  filled_on (FillsBases.other nz le) b = b
  filled_on (FillsBases.base {h = h} {z = z} nz lt q) b = filled_on q (one_more h z nz lt b)

-- ---- make

module _ (p l h t : List ℕ) (x : ℕ) (can : CanEvaluate p l h t x) (f : ℕ) (h₁ : List ℕ) (c : Claims h f h₁) (z r : ℕ) (h₂ : List ℕ) (b : FillsBases p f h₁ z r h₂)
    (d : ℕ) (ed : d ≡ expression_a p x) (ez : z ≡ link 1024 x d) (k : ℕ) (ek : k ≡ expression_kind p x) (is : k ≡ 5) where
  frame_entry : ExpressionEntry.Frame d ≡ expression_at p x
  unfolding expression_at expression_of
  frame_entry = rw (← ek, is, ed)

  up_to : FilledUpTo p l h₁ t f z r h₂
  up_to =
      let k = evaluate_can_fill p l h t x can (ExpressionEntry.Frame d) frame_entry d refl f h₁ c z ez in
      filled_on p l t f h₁ z b (record { can = k; leaves = leaves_none 0 0 k.writable.sized k.writable.text_size; rest = λ h'' t'' q. q })

  pub make_can_fill : CanFill p l h₂ t f r
  make_can_fill = up_to.can

  pub make_full : (low least : ℕ) → Full h low least → Full h₂ low least
  make_full low least a = full_after up_to.leaves (evaluate_full p l h t x can (ExpressionEntry.Frame d) frame_entry d refl f h₁ c z ez low least a)

  pub make_rest : (h' t' : List ℕ) → Fills p l h₂ t f r h' t' → Evaluates p l h t x (Value.Frame f) h' t'
  make_rest h' t' k = evaluate_frame p l h t x can (ExpressionEntry.Frame d) frame_entry d refl f h₁ c z ez h' t' (up_to.rest h' t' k)

  pub make_bases : r ≡ 0 → Evaluates p l h t x (Value.Frame f) h₂ t
  make_bases e = make_rest h₂ t (none_left p l h₂ t f r up_to.can e)
