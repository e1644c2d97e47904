-- What each way through the functions gives. Assumes nothing.
use Prim.Native.Nat.{ℕ, ◌+◌, ◌*◌, ◌≤◌}
use mathlib.Core.Path.{◌≡◌, refl, ◌∙◌, ap}
use mathlib.Core.Bool.{Bool, true, false}
use mathlib.Core.List.{List}
use native.Mathlib.Omega.{arith}
use lib.IntN.{ℤ, pos}
use lib.ListN.{length, take}
use borrow.Author.Tests.{le-ltb}
use Rattle.std.specs.Prelude.{Option, Some, None, Ok, Err, unwrap_or, Result as Checked}
use Rattle.framed.specs.declared.Value.{Value}
use Rattle.framed.specs.declared.Text.{Text}
use Rattle.framed.specs.declared.End.{End}
use Rattle.framed.specs.Values.{join_bytes, truth, bit}
use Rattle.framed.specs.Machine as M
use Rattle.framed.specs.Machine.{Result, gives, defined, is_join}
use Rattle.tables.specs.declared.ExpressionEntry.{ExpressionEntry}
use Rattle.tables.specs.Entries.{expression_at}
use Rattle.heap.specs.Words.{text_length, take_text}
use Rattle.heap.specs.Held.{texts_held}
use Rattle.allocation.specs.Allocation.{next_text}
use Rattle.paths.specs.Paths.{fetched}
use Rattle.texts.specs.Literals.{literals_held}
use Rattle.texts.specs.Texts.{Readable}
use Rattle.splice.specs.Splice.{splice}
use Rattle.shown.specs.Shown.{shown_size}
use Rattle.joining.specs.Joining.{join_written}
use Rattle.joining.proofs.Laws.{join_length, front_size, filled_front}
use Rattle.bounded.specs.Operations.{Product, text, operated}
use Rattle.bounded.specs.Bounded.{value_given, produce}
use Rattle.word_store.specs.Store.{word_store}
use Rattle.word_store.specs.State.{store_held}
use Rattle.operands.specs.Operands.{operand_value}
use Rattle.operators.specs.declared.Operated.{Operated}
use Rattle.operators.specs.Operators as operators
use Rattle.operators.specs.Operators.{operator_of, Comparable}
use Rattle.program_equality.specs.Agreement.{constants_held}
use Rattle.producing.specs.Producing.{HasRoom, Writable, made, read_entry, read_value, MakesText, CanJoin, Joins, CanProduce, Produces, operation_held, Operates}
use Rattle.producing.proofs.Operated.{Modest, a_text, operated_modest}
use Rattle.producing.proofs.Leaves.{leaves_none, text_store, text_next, text_leaves}

-- ---- given, read

pub given_or : (p h : List ℕ) (x : ℕ) (r : Option Value) → defined (fetched r) ≡ operand_value p h x → unwrap_or r (Value.Int (pos 0)) ≡ value_given (operand_value p h x)
unfolding value_given defined
given_or p h x None er = rw (← er)
given_or p h x (Some v) er = rw (← er)

pub given_some : (p h : List ℕ) (x : ℕ) (r : Option Value) → defined (fetched r) ≡ operand_value p h x → (v : Value) → r ≡ Some v → v ≡ value_given (operand_value p h x)
unfolding value_given defined
given_some p h x r er v e = rw (← er, e)

module _ (p h : List ℕ) (x : ℕ) (e : ExpressionEntry) (ee : e ≡ expression_at p x) where
  pub read_base : ((k : ℕ) → e ≡ ExpressionEntry.Not k → ⊥) → (v : Value) → v ≡ value_given (operand_value p h x) → v ≡ read_value p h x
  unfolding read_value read_entry
  read_base o v ev = rw (← ee) (go e o)
    where
      go : (e : ExpressionEntry) → ((k : ℕ) → e ≡ ExpressionEntry.Not k → ⊥) → v ≡ read_entry p h x e
      go (ExpressionEntry.Integer w) k = ev
      go (ExpressionEntry.Literal w) k = ev
      go (ExpressionEntry.FromSelf j n) k = ev
      go (ExpressionEntry.FromProgram j n) k = ev
      go (ExpressionEntry.Code w) k = ev
      go (ExpressionEntry.Frame d) k = ev
      go (ExpressionEntry.Not a) k = absurd (k a refl)
      go (ExpressionEntry.Operate o a b) k = ev
      go ExpressionEntry.Bad k = ev

  module _ (a : ℕ) (is : e ≡ ExpressionEntry.Not a) (v : Value) (ev : v ≡ value_given (operand_value p h a)) (b : Bool) (eb : b ≡ truth v) where
    pub read_not_true : b ≡ true → Value.Int (pos 0) ≡ read_value p h x
    unfolding read_value read_entry bit
    read_not_true t = rw (← ee, is, ← ev, ← eb, t)

    pub read_not_false : b ≡ false → Value.Int (pos 1) ≡ read_value p h x
    unfolding read_value read_entry bit
    read_not_false t = rw (← ee, is, ← ev, ← eb, t)

-- ---- Reading texts

pub readable_from : (p l h t : List ℕ) → Writable p l h t → Readable p l h t
unfolding text_length
readable_from p l h t w = record {
  literals = record {
    inside = λ k lt.
        let a = (w.program.entries.texts.literal k lt).most in
        let b = w.program.entries.limits.literals_most in
        let c = w.program.literal_size in
        omega arith;
  };
  made = record { inside = λ k lt. let a = w.sized.texts k lt in let c = w.text_size in omega arith };
}

pub comparable_from : (p l h t : List ℕ) → Writable p l h t → Comparable p l h t
comparable_from p l h t w = record { program = w.program; readable = readable_from p l h t w }

-- ---- join

pub text_made : (h t bs : List ℕ) (k a : ℕ) (h' t' : List ℕ) → k ≡ next_text h → a ≡ k → t' ≡ splice t (64 * a) bs → h' ≡ take_text h k (length bs)
    → MakesText h t bs (Value.Text (Text.Made k)) h' t'
text_made h t bs k a h' t' ek ea et eh = record { answer = rw (← ek); words = eh ∙ rw ek; bytes = et ∙ rw (ea, ek) }

-- of the bytes of two values
module _ (p l h t : List ℕ) (v w : Value) (can : CanJoin p l h t v w) where
  pub joins_made : (bs : List ℕ) → bs ≡ join_bytes (literals_held p l) (texts_held h t) v w → (r : Value) (h' t' : List ℕ) → MakesText h t bs r h' t' → Joins p l h t v w r h' t'
  unfolding join_written
  joins_made bs e r h' t' m = record {
    answer = m.answer;
    words = m.words ∙ ap (take_text h (next_text h)) (ap length e ∙ join_length p l h t v w);
    bytes = m.bytes ∙ rw (le-ltb 64 (shown_size p h v + shown_size p h w) can.short, e);
  }

  -- join
  module _ (n : ℕ) (en : n ≡ shown_size p h v + shown_size p h w) where
    pub few : n ≤ 64
    few = let s = can.short in omega arith

    pub filled_few : (bs : List ℕ) → length bs ≡ 64 → length (take n bs) ≤ 64
    filled_few bs s = let f = few in let t = front_size n bs f s in omega arith

    pub joins_filled : (buf buf' : List ℕ) → length buf ≡ 64 → buf' ≡ splice buf 0 (join_bytes (literals_held p l) (texts_held h t) v w)
        → (r : Value) (h' t' : List ℕ) → MakesText h t (take n buf') r h' t' → Joins p l h t v w r h' t'
    joins_filled buf buf' size e = joins_made (take n buf') (filled_front p l h t v w n en few buf buf' size e)

-- ---- produce

module _ (p l h t : List ℕ) (k : ℕ) (v w : Value) (can : CanProduce p l h t k) (o : Checked Operated End) (eo : operators.Operates p l h t k v w o) where
  abbrev bytes : List ℕ
  bytes = join_bytes (literals_held p l) (texts_held h t) v w

  abbrev result : Result Product
  result = operated (constants_held p l) (texts_held h t) (operator_of k) v w

  nothing : (r : Value) → produce word_store result (store_held h t) ≡ made r h t → Produces p l h t k v w r h t
  nothing r e = record { produced = e; leaves = leaves_none 0 (is_join (operator_of k)) can.writable.sized can.writable.text_size }

  pub produce_integer : (z y : ℤ) → o ≡ Ok (Operated.Integer z) → y ≡ z → Produces p l h t k v w (Value.Int y) h t
  unfolding produce
  produce_integer z y is ey = nothing (Value.Int y) (rw (← eo.is, is, ey))

  pub produce_ended : (e : End) → o ≡ Err e → Produces p l h t k v w (Value.Int (pos 0)) h t
  unfolding produce
  produce_ended e is = nothing (Value.Int (pos 0)) (rw (← eo.is, is))

  module _ (is : o ≡ Ok Operated.Joined) where
    gave : gives (text bytes) ≡ result
    gave = rw is at eo.is

    modest : Modest (is_join (operator_of k)) (gives (text bytes))
    modest = rw gave (operated_modest (constants_held p l) (texts_held h t) (operator_of k) v w)

    short_bytes : Modest (is_join (operator_of k)) (gives (text bytes)) → length bytes ≤ 64
    short_bytes (a_text one le) = le

    one_sign : Modest (is_join (operator_of k)) (gives (text bytes)) → 1 ≤ is_join (operator_of k)
    one_sign (a_text one le) = one

    short : length bytes ≤ 64
    short = short_bytes modest

    pub can_join : CanJoin p l h t v w
    can_join = record { readable = readable_from p l h t can.writable; short = let a = short in let e = join_length p l h t v w in omega arith }

    pub produce_joined : (r : Value) (h' t' : List ℕ) → Joins p l h t v w r h' t' → Produces p l h t k v w r h' t'
    unfolding produce join_written
    produce_joined r h' t' j =
        let e = join_length p l h t v w in
        let a = short in
        let one = one_sign modest in
        let sum : shown_size p h v + shown_size p h w ≤ 64 = omega arith in
        let eh : h' ≡ take_text h (next_text h) (length bytes) = j.words ∙ rw e in
        let et : t' ≡ splice t (64 * next_text h) bytes = j.bytes ∙ rw (le-ltb 64 (shown_size p h v + shown_size p h w) sum) in
        let s = can.writable.sized in
        let size = can.writable.text_size in
        let le : HasRoom h 0 1 = record { frames = let q = can.room.frames in omega arith; texts = let q = can.room.texts in omega arith } in
        let v = text_leaves h t bytes s size a le in
        record {
          produced = rw (← gave, eh, et, j.answer, text_store h t bytes s size a, text_next h t bytes s size a);
          leaves = rw (eh, et) (record { header = v.header; stay = v.stay; stay_text = v.stay_text; sized = v.sized; text_size = v.text_size; frames = v.frames; texts = let q = v.texts in omega arith });
        }

-- ---- operation

module _ (p l h t : List ℕ) (k a b : ℕ) (can : CanProduce p l h t k) (r : Option Value) (er : defined (fetched r) ≡ operand_value p h a) where
  stops : produce word_store (operation_held p l h t k a b) (store_held h t) ≡ made (Value.Int (pos 0)) h t → Operates p l h t k a b (Value.Int (pos 0)) h t
  stops e = record { produced = e; leaves = leaves_none 0 (is_join (operator_of k)) can.writable.sized can.writable.text_size }

  pub operation_first : r ≡ None → Operates p l h t k a b (Value.Int (pos 0)) h t
  unfolding operation_held produce defined M.◌>>=◌
  operation_first e = stops (rw (← er, e))

  module _ (v : Value) (ev : r ≡ Some v) (q : Option Value) (eq : defined (fetched q) ≡ operand_value p h b) where
    pub operation_second : q ≡ None → Operates p l h t k a b (Value.Int (pos 0)) h t
    unfolding operation_held produce defined M.◌>>=◌
    operation_second e = stops (rw (← er, ev, ← eq, e))

    pub operation_both : (w u : Value) (h' t' : List ℕ) → q ≡ Some w → Produces p l h t k v w u h' t' → Operates p l h t k a b u h' t'
    unfolding operation_held defined M.◌>>=◌
    operation_both w u h' t' ew m = record { produced = rw (← er, ev, ← eq, ew) m.produced; leaves = m.leaves }
