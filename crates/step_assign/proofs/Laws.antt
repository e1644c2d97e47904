-- One law for each way through the functions that give a value and put. Assumes nothing.
use Prim.Native.Nat.{ℕ, ◌/◌, ◌%◌, ◌≤◌, ◌<◌}
use mathlib.Core.Path.{◌≡◌, refl, ◌∙◌, ap, sym}
use mathlib.Core.Bool.{Bool, true, false}
use mathlib.Core.List.{List}
use lib.IntN.{ℤ, pos}
use lib.ListN.{get_elem?}
use mir.Syntax.{w32}
use mir.Val.{to_z, of_z}
use borrow.Author.Tests.{eq-eqb, ne_eqb}
use Rattle.std.specs.Prelude.{Option, Some, None, Ok, Err, Result as Checked}
use Rattle.framed.specs.declared.Value.{Value}
use Rattle.framed.specs.declared.Text.{Text}
use Rattle.framed.specs.Values.{truth, bit}
use Rattle.framed.specs.Fetch.{fetch}
use Rattle.framed.specs.Machine as M
use Rattle.framed.specs.Machine.{defined}
use Rattle.ints.specs.Ints.{int_of}
use Rattle.tables.specs.declared.ExpressionEntry.{ExpressionEntry}
use Rattle.tables.specs.Entries.{expression_at}
use Rattle.heap.specs.Words.{value_of, self_held, program_held, frame_used, slot_count_at, set_slot_value, add_slot}
use Rattle.heap.specs.Held.{slots_held, frames_held, texts_held}
use Rattle.puts.specs.declared.PutTarget.{PutTarget}
use Rattle.paths.specs.Paths.{slot_from, fetched, path_held}
use Rattle.puts.specs.Puts.{targeted, target_along, put_slot}
use Rattle.puts.proofs.Laws.{end_past, end_free, end_found, end_room, end_full, put_end_none, put_end_at, put_adds, put_sets}
use Rattle.bounded.specs.Operations.{operated, flag}
use Rattle.bounded.specs.Check.{slot_end}
use Rattle.operands.specs.Operands.{operand_value, unpacked}
use Rattle.operands.proofs.Numbers.{number_none, number_some}
use Rattle.operands.proofs.Laws.{operand_integer, operand_literal, operand_code, operand_self, operand_program}
use Rattle.framed.specs.declared.End.{End}
use Rattle.framed.specs.Answers.{end_number}
use Rattle.arith.specs.Arith.{outcome}
use Rattle.program_equality.specs.Agreement.{constants_held}
use Rattle.operators.specs.Operators.{operator_of, arithmetic_operated, compared}
use Rattle.operators.proofs.Laws.{arithmetic_means, compared_means}
use Rattle.operand_checks.proofs.Laws as ends-laws
use Rattle.producing.specs.Producing.{operation_held}
use Rattle.evaluation.proofs.Stores.{full_frame}
use Rattle.commit.proofs.Laws.{put_somewhere}
use Rattle.step_assign.specs.Assign.{Given, of_base, of_not, of_product, operation_given, entry_given, expression_given, PutsSlot, Puts, PutsFrom}

-- ---- from_fetched, negation

pub fetched_none : (f : Option Value) → f ≡ None → Given.ended 31 ≡ of_base (defined (fetched f))
unfolding of_base defined
fetched_none f e = rw e

pub fetched_some : (f : Option Value) (v : Value) → f ≡ Some v → Given.value v ≡ of_base (defined (fetched f))
unfolding of_base defined
fetched_some f v e = rw e

module _ (p h : List ℕ) (a : ℕ) (r : Option Value) (er : defined (fetched r) ≡ operand_value p h a) where
  pub not_none : r ≡ None → Given.ended 31 ≡ of_not (operand_value p h a)
  unfolding of_not defined
  not_none e = rw (← er, e)

  module _ (v : Value) (ev : r ≡ Some v) (b : Bool) (eb : b ≡ truth v) where
    pub not_true : b ≡ true → Given.value (Value.Int (pos 0)) ≡ of_not (operand_value p h a)
    unfolding of_not defined bit
    not_true q = rw (← er, ev, ← eb, q)

    pub not_false : b ≡ false → Given.value (Value.Int (pos 1)) ≡ of_not (operand_value p h a)
    unfolding of_not defined bit
    not_false q = rw (← er, ev, ← eb, q)

-- ---- operation

module _ (p l h t : List ℕ) (k a b : ℕ) where
  pub operation_makes : k ≡ 12 → Given.makes ≡ operation_given p l h t k a b
  unfolding operation_given
  operation_makes e = rw (eq-eqb k 12 e)

  module _ (ne : k ≡ 12 → ⊥) (r : Option Value) (er : defined (fetched r) ≡ operand_value p h a) where
    operation_first : r ≡ None → Given.ended 31 ≡ operation_given p l h t k a b
    unfolding operation_given operation_held of_product defined M.◌>>=◌
    operation_first e = rw (ne_eqb k 12 ne, ← er, e)

    module _ (v : Value) (ev : r ≡ Some v) (q : Option Value) (eq : defined (fetched q) ≡ operand_value p h b) where
      operation_second : q ≡ None → Given.ended 31 ≡ operation_given p l h t k a b
      unfolding operation_given operation_held of_product defined M.◌>>=◌
      operation_second e = rw (ne_eqb k 12 ne, ← er, ev, ← eq, e)

      module _ (w : Value) (ew : q ≡ Some w) where
        both : operation_given p l h t k a b ≡ of_product (operated (constants_held p l) (texts_held h t) (operator_of k) v w)
        unfolding operation_given operation_held defined M.◌>>=◌
        both = rw (ne_eqb k 12 ne, ← er, ev, ← eq, ew)

        module _ (lt : k < 12) (o : Checked ℤ End) (eo : outcome o ≡ arithmetic_operated k v w) where
          integers : of_product (outcome o) ≡ operation_given p l h t k a b
          integers = ap of_product (eo ∙ arithmetic_means (constants_held p l) (texts_held h t) k v w lt) ∙ sym both

          operation_integer : (z y : ℤ) → o ≡ Ok z → y ≡ z → Given.value (Value.Int y) ≡ operation_given p l h t k a b
          unfolding of_product
          operation_integer z y is ey = rw ey (rw is at integers)

          operation_ended : (e : End) → o ≡ Err e → Given.ended (end_number e) ≡ operation_given p l h t k a b
          unfolding of_product
          operation_ended e is = rw is at integers

        module _ (ge : 12 ≤ k) (c : Bool) (ec : c ≡ compared (constants_held p l) (texts_held h t) k v w) where
          operation_true : c ≡ true → Given.value (Value.Int (pos 1)) ≡ operation_given p l h t k a b
          unfolding of_product flag
          operation_true is = rw (both, ← (compared_means (constants_held p l) (texts_held h t) k v w ge ne), ← ec, is)

          operation_false : c ≡ false → Given.value (Value.Int (pos 0)) ≡ operation_given p l h t k a b
          unfolding of_product flag
          operation_false is = rw (both, ← (compared_means (constants_held p l) (texts_held h t) k v w ge ne), ← ec, is)

  -- the operands as numbers
  module _ (ne : k ≡ 12 → ⊥) (m : ℕ) (em : defined (fetched (unpacked m)) ≡ operand_value p h a) where
    pub number_first : m ≡ 5 → Given.ended 31 ≡ operation_given p l h t k a b
    number_first e = operation_first ne None (number_none p h a m em e) refl

    module _ (some : m ≡ 5 → ⊥) (n : ℕ) (en : defined (fetched (unpacked n)) ≡ operand_value p h b) where
      pub number_second : n ≡ 5 → Given.ended 31 ≡ operation_given p l h t k a b
      number_second e =
          let v = value_of (m % 8) (m / 8 % 4294967296) in
          operation_second ne (Some v) (number_some p h a m em some v refl) v refl None (number_none p h b n en e) refl

      module _ (both : n ≡ 5 → ⊥) (v w : Value) (ev : v ≡ value_of (m % 8) (m / 8 % 4294967296)) (ew : w ≡ value_of (n % 8) (n / 8 % 4294967296)) where
        module _ (lt : k < 12) (o : Checked ℤ End) (eo : outcome o ≡ arithmetic_operated k v w) where
          pub number_integer : (z y : ℤ) → o ≡ Ok z → y ≡ z → Given.value (Value.Int y) ≡ operation_given p l h t k a b
          number_integer = operation_integer ne (Some v) (number_some p h a m em some v ev) v refl (Some w) (number_some p h b n en both w ew) w refl lt o eo

          pub number_ended : (e : End) → o ≡ Err e → Given.ended (end_number e) ≡ operation_given p l h t k a b
          number_ended = operation_ended ne (Some v) (number_some p h a m em some v ev) v refl (Some w) (number_some p h b n en both w ew) w refl lt o eo

        module _ (ge : 12 ≤ k) (c : Bool) (ec : c ≡ compared (constants_held p l) (texts_held h t) k v w) where
          pub number_true : c ≡ true → Given.value (Value.Int (pos 1)) ≡ operation_given p l h t k a b
          number_true = operation_true ne (Some v) (number_some p h a m em some v ev) v refl (Some w) (number_some p h b n en both w ew) w refl ge c ec

          pub number_false : c ≡ false → Given.value (Value.Int (pos 0)) ≡ operation_given p l h t k a b
          number_false = operation_false ne (Some v) (number_some p h a m em some v ev) v refl (Some w) (number_some p h b n en both w ew) w refl ge c ec

-- ---- expression

module _ (p l h t : List ℕ) (x : ℕ) (e : ExpressionEntry) (at : e ≡ expression_at p x) where
  pub given_integer : (w : ℕ) (z : ℤ) → e ≡ ExpressionEntry.Integer w → z ≡ int_of w → Given.value (Value.Int (to_z w32 (of_z w32 z))) ≡ expression_given p l h t x
  unfolding expression_given entry_given of_base defined
  given_integer w z is ez = rw (← at, is, ← (operand_integer p h x e at w z is ez))

  pub given_literal : (k : ℕ) → e ≡ ExpressionEntry.Literal k → Given.value (Value.Text (Text.Literal k)) ≡ expression_given p l h t x
  unfolding expression_given entry_given of_base defined
  given_literal k is = rw (← at, is, ← (operand_literal p h x e at k is))

  pub given_code : (k : ℕ) → e ≡ ExpressionEntry.Code k → Given.value (Value.Code k) ≡ expression_given p l h t x
  unfolding expression_given entry_given of_base defined
  given_code k is = rw (← at, is, ← (operand_code p h x e at k is))

  pub given_self : (j n : ℕ) (v : Value) (f : Option Value) (r : Given) → e ≡ ExpressionEntry.FromSelf j n → v ≡ self_held h
      → fetched f ≡ fetch (frames_held h) v (path_held p j n) → r ≡ of_base (defined (fetched f)) → r ≡ expression_given p l h t x
  unfolding expression_given entry_given
  given_self j n v f r is ev ef er = rw (← at, is, ← (operand_self p h x e at j n f is (rw ev at ef))) er

  pub given_program : (j n : ℕ) (v : Value) (f : Option Value) (r : Given) → e ≡ ExpressionEntry.FromProgram j n → v ≡ program_held h
      → fetched f ≡ fetch (frames_held h) v (path_held p j n) → r ≡ of_base (defined (fetched f)) → r ≡ expression_given p l h t x
  unfolding expression_given entry_given
  given_program j n v f r is ev ef er = rw (← at, is, ← (operand_program p h x e at j n f is (rw ev at ef))) er

  pub given_frame : (d : ℕ) → e ≡ ExpressionEntry.Frame d → Given.makes ≡ expression_given p l h t x
  unfolding expression_given entry_given
  given_frame d is = rw (← at, is)

  pub given_not : (a : ℕ) (r : Given) → e ≡ ExpressionEntry.Not a → r ≡ of_not (operand_value p h a) → r ≡ expression_given p l h t x
  unfolding expression_given entry_given
  given_not a r is er = rw (← at, is) er

  pub given_operation : (k a b : ℕ) (r : Given) → e ≡ ExpressionEntry.Operate k a b → r ≡ operation_given p l h t k a b → r ≡ expression_given p l h t x
  unfolding expression_given entry_given
  given_operation k a b r is er = rw (← at, is) er

  pub given_bad : e ≡ ExpressionEntry.Bad → Given.makes ≡ expression_given p l h t x
  unfolding expression_given entry_given
  given_bad is = rw (← at, is)

-- ---- put_slot

module _ (h : List ℕ) (f x : ℕ) (v : Value) (lt : f < 256) (r : Option ℕ) (er : r ≡ slot_from (slots_held h f) x 0) where
  pub slot_set : (i : ℕ) (h' : List ℕ) → r ≡ Some i → h' ≡ set_slot_value h f i v → PutsSlot h f x v 0 h'
  slot_set i h' is eh = record { end = go (frame_used h f) refl; words = put_sets h f x v r er h' i is eh }
    where
      go : (b : Bool) → b ≡ frame_used h f → 0 ≡ slot_end (get_elem? (frames_held h) f) x
      go true e = end_found h f x lt true e refl r er true (rw is) refl
      go false e = end_free h f x lt false e refl

  module _ (is : r ≡ None) (n : ℕ) (en : n ≡ slot_count_at h f) where
    pub slot_added : n < 16 → (h' : List ℕ) → h' ≡ add_slot h f x v → PutsSlot h f x v 0 h'
    slot_added few h' eh = record { end = go (frame_used h f) refl; words = put_adds h f x v r er h' is eh }
      where
        go : (b : Bool) → b ≡ frame_used h f → 0 ≡ slot_end (get_elem? (frames_held h) f) x
        go true e = end_room h f x lt true e refl r er false (rw is) refl n en few
        go false e = end_free h f x lt false e refl

    module _ (full : 16 ≤ n) (b : Bool) (eb : b ≡ frame_used h f) where
      pub slot_full : b ≡ true → PutsSlot h f x v 35 h
      slot_full u = record { end = end_full h f x lt b eb (rw u) r er false (rw is) refl n en full; words = refl }

      pub slot_free : b ≡ false → PutsSlot h f x v 0 h
      slot_free u = record {
        end = end_free h f x lt b eb (rw u);
        words = sym (full_frame h f x v (rw en at full)) ∙ put_adds h f x v r er (add_slot h f x v) is refl;
      }

-- ---- put

module _ (p h : List ℕ) (root : Value) (j n : ℕ) (v : Value) (r : Option PutTarget) (er : targeted r ≡ target_along (frames_held h) root (path_held p j n)) where
  pub put_nowhere : r ≡ None → Puts p h root j n v 31 h
  put_nowhere is = record { end = put_end_none (frames_held h) _ r er is; words = refl }

  module _ (at : PutTarget) (is : r ≡ Some at) where
    pub put_past : 256 ≤ at.frame → Puts p h root j n v 31 h
    put_past le = record { end = put_end_at (frames_held h) _ r er at 31 is (end_past h at.frame at.name le); words = refl }

    pub put_there : (e : ℕ) (h' : List ℕ) → PutsSlot h at.frame at.name v e h' → Puts p h root j n v e h'
    put_there e h' k = record {
      end = put_end_at (frames_held h) _ r er at e is k.end;
      words = rw (← (put_somewhere p h root j n v r er at (put_slot h at.frame at.name v) is refl)) k.words;
    }

-- ---- put_from

module _ (p h h₀ : List ℕ) (root : Value) (j n : ℕ) (v : Value) where
  pub from_empty : n ≡ 0 → (h' : List ℕ) → h' ≡ h₀ → PutsFrom p h h₀ root j n v 0 h'
  from_empty e h' eh = record { end = ends-laws.put_empty p h root j n e; words = rw (eq-eqb n 0 e) eh }

  pub from_root : (n ≡ 0 → ⊥) → (u : Value) (r : ℕ) (h' : List ℕ) → u ≡ root → Puts p h u j n v r h' → PutsFrom p h h₀ root j n v r h'
  from_root ne u r h' eu k = record {
    end = ends-laws.put_along p h root j n r ne (rw eu at k.end);
    words = rw (ne_eqb n 0 ne, ← eu) k.words;
  }
