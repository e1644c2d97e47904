-- Expressions that are no frame literals: what the words hold of them, and each way through `flat`. Assumes nothing.
use Prim.Native.Nat.{ℕ, zero, suc, ◌≤◌, ◌<◌}
use mathlib.Core.Path.{◌≡◌, refl, ◌∙◌, ap, sym, subst}
use mathlib.Core.List.{List, []}
use mathlib.Core.Bool.{Bool, true, false, not}
use native.Mathlib.Omega.{arith}
use native.Mathlib.Decide.{dec_le, ℕ_discrete}
use borrow.Author.Tests.{ne_eqb, le-ltb}
use lib.Dec.{ltb}
use Rattle.words.specs.Words.{pick}
use Rattle.framed.specs.declared.Value.{Value}
use Rattle.framed.specs.Values.{truth, bit}
use Rattle.framed.specs.Tree.{Expression}
use Rattle.framed.specs.Paths.{Path}
use Rattle.framed.specs.Machine as M
use Rattle.framed.specs.Machine.{Result, gives, ends, is_join, frame_literals, join_signs}
use Rattle.tables.specs.declared.ExpressionEntry.{ExpressionEntry}
use Rattle.tables.specs.Entries.{expression_of, expression_at}
use Rattle.tables.specs.Fields.{expressions, expression_kind, expression_a, expression_b}
use Rattle.program_form.specs.WellFormed.{WellFormed}
use Rattle.trees.specs.Trees as trees
use Rattle.trees.specs.Trees.{base_tree, expression_tree}
use Rattle.trees.specs.Held as held
use Rattle.trees.specs.Held.{base_held, expression_held, OneLevel}
use Rattle.trees.proofs.Held.{one_level_held, not_held, operation_held}
use Rattle.heap.specs.Words.{self_held, program_held, position}
use Rattle.heap.specs.Held.{texts_held, heap_held}
use Rattle.operands.specs.Operands.{operand_value}
use Rattle.program_equality.specs.Agreement.{constants_held}
use Rattle.program_equality.proofs.Constants.{same_constants}
use Rattle.operators.specs.Operators.{arithmetic_of, operator_of}
use Rattle.bounded.specs.Operations.{Product, operated}
use Rattle.bounded.specs.Check.{operation_result}
use Rattle.bounded.specs.Bounded.{value_given, Produced, produce, evaluate, heap_in}
use Rattle.word_store.specs.Store.{Memories, word_store}
use Rattle.word_store.specs.State.{store_held}
use Rattle.producing.specs.Producing as producing
use Rattle.producing.specs.Producing.{Writable, made, read_entry, read_value, CanProduce}
use Rattle.producing.proofs.Leaves.{leaves_none}
use Rattle.producing.proofs.Operated.{Modest, an_end, operated_modest}
use Rattle.heap.specs.Closed.{ValueFits}
use Rattle.evaluation.proofs.Fits.{fits_bit, operand_fits, produce_fits}
use Rattle.evaluation.specs.Evaluation.{program_constants, CanEvaluate, Flat, Evaluates}
use Rattle.evaluation.proofs.Stores.{heap_is, frames_are}

-- ---- The operators

-- the operator of a kind, as both read it
operators_agree : (k : ℕ) → 7 ≤ k → trees.operator_of k ≡ operator_of k
unfolding trees.operator_of operator_of arithmetic_of
operators_agree k le = go (dec_le 12 k) (ℕ_discrete k 7) (ℕ_discrete k 8) (ℕ_discrete k 9) (ℕ_discrete k 10)
  where
    go : Dec (12 ≤ k) → Dec (k ≡ 7) → Dec (k ≡ 8) → Dec (k ≡ 9) → Dec (k ≡ 10) → trees.operator_of k ≡ operator_of k
    go (yes m) b c d e =
        rw (ne_eqb k 7 (λ q. omega arith), ne_eqb k 8 (λ q. omega arith), ne_eqb k 9 (λ q. omega arith), ne_eqb k 10 (λ q. omega arith), ne_eqb k 11 (λ q. omega arith), le-ltb k 12 m)
    go (no m) (yes b) c d e = rw b
    go (no m) (no b) (yes c) d e = rw c
    go (no m) (no b) (no c) (yes d) e = rw d
    go (no m) (no b) (no c) (no d) (yes e) = rw e
    go (no m) (no b) (no c) (no d) (no e) = let q : k ≡ 11 = omega arith in rw q

-- ---- Bases and `!`

module _ (p l h t : List ℕ) (x : ℕ) (w : Writable p l h t) (there : x < expressions p) where
  abbrev tree : Expression Path
  tree = expression_held p x

  abbrev evaluated : Expression Path → Produced Memories
  evaluated e = evaluate word_store (program_constants p l) (position h) (self_held h) (program_held h) e (store_held h t)

  -- an expression that makes nothing
  still : (e : Expression Path) (v : Value) → tree ≡ e → evaluated e ≡ made v h t → ValueFits v → Evaluates p l h t x v h t
  still e v is q f = record {
    produced = rw is q;
    leaves = leaves_none (frame_literals tree) (join_signs tree) w.sized w.text_size;
    fits = f;
  }

  base_made : evaluated (Expression.base (base_held p x)) ≡ made (value_given (operand_value p h x)) h t
  unfolding evaluate operand_value
  base_made = rw (frames_are h t)

  not_made : (a : ℕ) → evaluated (Expression.not (base_held p a)) ≡ made (bit (not (truth (value_given (operand_value p h a))))) h t
  unfolding evaluate operand_value
  not_made a = rw (frames_are h t)

  one : OneLevel p l
  one = one_level_held p l w.program

  is_base : (e : ExpressionEntry) → expression_at p x ≡ e → expression_tree (held.held p) p x e ≡ Expression.base (base_tree (held.held p) p e) → tree ≡ Expression.base (base_held p x)
  is_base e is q = one.expression x there ∙ rw is (q ∙ ap Expression.base (sym (rw is at (one.base x there))))

  pub read_made : (e : ExpressionEntry) → expression_at p x ≡ e → ((d : ℕ) → e ≡ ExpressionEntry.Frame d → ⊥) → ((k : ℕ) (n : ℕ) (i : ℕ) → e ≡ ExpressionEntry.Operate k n i → ⊥) → Evaluates p l h t x (read_entry p h x e) h t
  unfolding read_entry expression_tree base_tree
  read_made (ExpressionEntry.Integer k) is nf o = still _ _ (is_base (ExpressionEntry.Integer k) is refl) base_made (operand_fits p l h w.program x there)
  read_made (ExpressionEntry.Literal k) is nf o = still _ _ (is_base (ExpressionEntry.Literal k) is refl) base_made (operand_fits p l h w.program x there)
  read_made (ExpressionEntry.FromSelf j n) is nf o = still _ _ (is_base (ExpressionEntry.FromSelf j n) is refl) base_made (operand_fits p l h w.program x there)
  read_made (ExpressionEntry.FromProgram j n) is nf o = still _ _ (is_base (ExpressionEntry.FromProgram j n) is refl) base_made (operand_fits p l h w.program x there)
  read_made (ExpressionEntry.Code k) is nf o = still _ _ (is_base (ExpressionEntry.Code k) is refl) base_made (operand_fits p l h w.program x there)
  read_made (ExpressionEntry.Frame d) is nf o = absurd (nf d refl)
  read_made (ExpressionEntry.Not a) is nf o = still _ _ (not_held p l w.program x there a is) (not_made a) (fits_bit _)
  read_made (ExpressionEntry.Operate k a b) is nf o = absurd (o k a b refl)
  read_made ExpressionEntry.Bad is nf o = still _ _ (is_base ExpressionEntry.Bad is refl) base_made (operand_fits p l h w.program x there)

-- an expression that is a base by its kind
pub base_evaluates : (p l h t : List ℕ) (x : ℕ) → CanEvaluate p l h t x → (k : ℕ) → k ≡ expression_kind p x → k < 5 → (v : Value) → v ≡ value_given (operand_value p h x) → Evaluates p l h t x v h t
base_evaluates p l h t x can k ek lt v ev =
    let w = can.writable in
    let there = can.there in
    rw ev (still p l h t x w there _ _ ((one p l h t x w there).as_base x there (omega arith)) (base_made p l h t x w there) (operand_fits p l h w.program x there))

-- ---- Operators

abbrev kind_in : ExpressionEntry → ℕ
kind_in (ExpressionEntry.Integer k) = 7
kind_in (ExpressionEntry.Literal k) = 7
kind_in (ExpressionEntry.FromSelf j n) = 7
kind_in (ExpressionEntry.FromProgram j n) = 7
kind_in (ExpressionEntry.Code k) = 7
kind_in (ExpressionEntry.Frame d) = 7
kind_in (ExpressionEntry.Not a) = 7
kind_in (ExpressionEntry.Operate k a b) = k
kind_in ExpressionEntry.Bad = 7

kind_least : (k a b : ℕ) → 7 ≤ kind_in (expression_of k a b)
unfolding expression_of
kind_least zero a b = omega arith
kind_least (suc zero) a b = omega arith
kind_least (suc (suc zero)) a b = omega arith
kind_least (suc (suc (suc zero))) a b = omega arith
kind_least (suc (suc (suc (suc zero)))) a b = omega arith
kind_least (suc (suc (suc (suc (suc zero))))) a b = omega arith
kind_least (suc (suc (suc (suc (suc (suc zero)))))) a b = omega arith
kind_least (suc (suc (suc (suc (suc (suc (suc k))))))) a b = high (suc (suc (suc (suc (suc (suc (suc k))))))) (omega arith)
  where
    by_test : (n : ℕ) → 7 ≤ n → (t : Bool) → 7 ≤ kind_in (pick t (ExpressionEntry.Operate n a b) ExpressionEntry.Bad)
    by_test n le true = le
    by_test n le false = omega arith

    high : (n : ℕ) → 7 ≤ n → 7 ≤ kind_in (expression_of n a b)
    high n le =
        rw (ne_eqb n 0 (λ q. omega arith), ne_eqb n 1 (λ q. omega arith), ne_eqb n 2 (λ q. omega arith), ne_eqb n 3 (λ q. omega arith), ne_eqb n 4 (λ q. omega arith), ne_eqb n 5 (λ q. omega arith), ne_eqb n 6 (λ q. omega arith))
        (by_test n le (ltb n 16))

operate_kind : (p : List ℕ) (x k a b : ℕ) → expression_at p x ≡ ExpressionEntry.Operate k a b → 7 ≤ k
unfolding expression_at
operate_kind p x k a b e = rw e at (kind_least (expression_kind p x) (expression_a p x) (expression_b p x))

module _ (p l : List ℕ) (w : WellFormed p l) (x : ℕ) (there : x < expressions p) (k a b : ℕ) (is : expression_at p x ≡ ExpressionEntry.Operate k a b) where
  operation_tree : expression_held p x ≡ Expression.operation (operator_of k) (base_held p a) (base_held p b)
  operation_tree = operation_held p l w x there k a b is ∙ rw (operators_agree k (operate_kind p x k a b is))

  pub operation_frames : frame_literals (expression_held p x) ≡ 0
  unfolding frame_literals
  operation_frames = rw operation_tree

  pub operation_signs : join_signs (expression_held p x) ≡ is_join (operator_of k)
  unfolding join_signs
  operation_signs = rw operation_tree

module _ (p l h t : List ℕ) (x : ℕ) (can : CanEvaluate p l h t x) (k a b : ℕ) (is : expression_at p x ≡ ExpressionEntry.Operate k a b) where
  tree_is : expression_held p x ≡ Expression.operation (operator_of k) (base_held p a) (base_held p b)
  tree_is = operation_tree p l can.writable.program x can.there k a b is

  signs : join_signs (expression_held p x) ≡ is_join (operator_of k)
  signs = operation_signs p l can.writable.program x can.there k a b is

  can_operate : CanProduce p l h t k
  can_operate = record {
    writable = can.writable;
    room = record { frames = let q = can.room.frames in omega arith; texts = let q = can.room.texts in let e = signs in omega arith };
  }

  results_agree : operation_result (program_constants p l) (self_held h) (program_held h) (heap_in word_store (store_held h t)) (operator_of k) (base_held p a) (base_held p b)
      ≡ producing.operation_held p l h t k a b
  unfolding operation_result producing.operation_held operand_value heap_held
  results_agree = rw (same_constants p l, heap_is h t)

  operation_modest : Modest (is_join (operator_of k)) (producing.operation_held p l h t k a b)
  unfolding producing.operation_held M.◌>>=◌
  operation_modest = go (operand_value p h a) (operand_value p h b)
    where
      go : (r q : Result Value) → Modest (is_join (operator_of k)) (M.◌>>=◌ r (λ v. M.◌>>=◌ q (λ w. operated (constants_held p l) (texts_held h t) (operator_of k) v w)))
      go (ends e) q = an_end
      go (gives v) (ends e) = an_end
      go (gives v) (gives w) = operated_modest (constants_held p l) (texts_held h t) (operator_of k) v w

  pub operation_made : (r : Value) (h' t' : List ℕ) → producing.Operates p l h t k a b r h' t' → Evaluates p l h t x r h' t'
  unfolding evaluate
  operation_made r h' t' m =
      let v = m.leaves in
      let e = signs in
      record {
        produced = rw tree_is (ap (λ (q : Result Product). produce word_store q (store_held h t)) results_agree ∙ m.produced);
        leaves = record { header = v.header; stay = v.stay; stay_text = v.stay_text; sized = v.sized; text_size = v.text_size; frames = let q = v.frames in omega arith; texts = let q = v.texts in omega arith };
        fits = subst ValueFits (ap (λ (q : Produced Memories). q.value) m.produced) (produce_fits _ operation_modest (store_held h t));
      }

-- ---- flat

module _ (p l h t : List ℕ) (x : ℕ) (f : Flat p l h t x) (e : ExpressionEntry) (ee : e ≡ expression_at p x) where
  pub flat_read : ((k : ℕ) (n : ℕ) (i : ℕ) → e ≡ ExpressionEntry.Operate k n i → ⊥) → (v : Value) → v ≡ read_value p h x → Evaluates p l h t x v h t
  unfolding read_value
  flat_read o v ev =
      rw (ev, ← ee)
      (read_made p l h t x f.can.writable f.can.there e (sym ee) (λ d q. f.no_frame d (sym ee ∙ q)) o)

  module _ (k a b : ℕ) (is : e ≡ ExpressionEntry.Operate k a b) where
    pub flat_can : CanProduce p l h t k
    flat_can = can_operate p l h t x f.can k a b (sym ee ∙ is)

    pub flat_operation : (r : Value) (h' t' : List ℕ) → producing.Operates p l h t k a b r h' t' → Evaluates p l h t x r h' t'
    flat_operation r h' t' m = operation_made p l h t x f.can k a b (sym ee ∙ is) r h' t' m
