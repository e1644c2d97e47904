-- The ends of a jump and of `ifeq`: they are those that `bounded`'s check names. Assumes nothing.
use Prim.Native.Nat.{ℕ, ◌<◌}
use mathlib.Core.Path.{◌≡◌, refl, sym}
use mathlib.Core.Bool.{Bool, true, false}
use mathlib.Core.List.{List}
use Rattle.std.specs.Prelude.{Option, Some, None}
use Rattle.framed.specs.declared.Value.{Value}
use Rattle.framed.specs.Values.{truth}
use Rattle.framed.specs.Machine.{Result, gives, ends, ◌>>=◌, defined, code_number}
use Rattle.tables.specs.declared.InstructionEntry.{InstructionEntry}
use Rattle.tables.specs.Entries.{instruction_at}
use Rattle.tables.specs.Fields.{instructions}
use Rattle.trees.proofs.Held.{jump_held, ifeq_held}
use Rattle.heap.specs.Held.{heap_held}
use Rattle.paths.specs.Paths.{fetched}
use Rattle.bounded.specs.Check.{end_of, Jump, jump_result, ifeq_end, check}
use Rattle.operands.specs.Operands.{operand_value}
use Rattle.checking.specs.Checking.{Checks}
use Rattle.commit.specs.Direct.{end_met}
use Rattle.step_jump.specs.Jump.{jump_end}

-- ---- Operands

module _ (p h : List ℕ) (x : ℕ) (r : Option Value) (er : defined (fetched r) ≡ operand_value p h x) where
  pub operand_undefined : r ≡ None → 31 ≡ end_of (operand_value p h x)
  unfolding defined end_of
  operand_undefined e = rw (← er, e)

  pub operand_found : (v : Value) → r ≡ Some v → 0 ≡ end_of (operand_value p h x)
  unfolding defined end_of
  operand_found v e = rw (← er, e)

-- ---- jump

-- by the values of its operands
jumped : ℕ → Value → Result Jump
jumped k s = gives (record { code = k; self = s })

value_end : Result Value → Result Value → ℕ
value_end v w = end_of (◌>>=◌ v (λ u. ◌>>=◌ (code_number u) (λ k. ◌>>=◌ w (jumped k))))

module _ (w : Result Value) where
  value_undefined : value_end (ends 31) w ≡ 31
  unfolding end_of ◌>>=◌ value_end
  value_undefined = refl

  value_other : (v : Value) → ((k : ℕ) → v ≡ Value.Code k → ⊥) → value_end (gives v) w ≡ 31
  unfolding end_of ◌>>=◌ code_number value_end jumped
  value_other (Value.Int z) e = refl
  value_other (Value.Text t) e = refl
  value_other (Value.Code k) e = absurd (e k refl)
  value_other (Value.Frame n) e = refl

value_code : (k : ℕ) (w : Result Value) → value_end (gives (Value.Code k)) w ≡ end_of w
unfolding end_of ◌>>=◌ code_number value_end jumped
value_code k (gives s) = refl
value_code k (ends e) = refl

module _ (p h : List ℕ) (a c : ℕ) where
  jump_open : jump_end p h a c ≡ value_end (operand_value p h a) (operand_value p h c)
  unfolding jump_end operand_value jump_result value_end jumped
  jump_open = refl

  module _ (r : Option Value) (er : defined (fetched r) ≡ operand_value p h a) where
    pub jump_undefined : r ≡ None → 31 ≡ jump_end p h a c
    unfolding defined
    jump_undefined e = rw (jump_open, ← er, e) (sym (value_undefined (operand_value p h c)))

    module _ (v : Value) (ev : r ≡ Some v) where
      pub jump_other : ((k : ℕ) → v ≡ Value.Code k → ⊥) → 31 ≡ jump_end p h a c
      unfolding defined
      jump_other k = rw (jump_open, ← er, ev) (sym (value_other (operand_value p h c) v k))

      pub jump_code : (k s : ℕ) → v ≡ Value.Code k → s ≡ end_of (operand_value p h c) → s ≡ jump_end p h a c
      unfolding defined
      jump_code k s q es = rw (es, jump_open, ← er, ev, q) (sym (value_code k (operand_value p h c)))

-- ---- The instruction

module _ (p l h t : List ℕ) (i : ℕ) (m : Checks p l h t) (there : i < instructions p) where
  pub check_jump : (a c r : ℕ) → InstructionEntry.Jump a c ≡ instruction_at p i → r ≡ jump_end p h a c → r ≡ end_met p l h t i
  unfolding check heap_held jump_end
  check_jump a c r at er = rw (er, jump_held p l m.program i there a c (sym at))

  module _ (a c d : ℕ) (at : InstructionEntry.Ifeq a c d ≡ instruction_at p i) (r : Option Value) (er : defined (fetched r) ≡ operand_value p h a) where
    check_ifeq : (s : ℕ) → s ≡ ifeq_end (operand_value p h a) (jump_end p h c d) → s ≡ end_met p l h t i
    unfolding check heap_held operand_value jump_end
    check_ifeq s es = rw (es, ifeq_held p l m.program i there a c d (sym at))

    pub ifeq_undefined : r ≡ None → 31 ≡ end_met p l h t i
    unfolding defined ifeq_end
    ifeq_undefined e = check_ifeq 31 (rw (← er, e))

    module _ (v : Value) (ev : r ≡ Some v) (b : Bool) (eb : b ≡ truth v) where
      pub ifeq_on : b ≡ true → 0 ≡ end_met p l h t i
      unfolding defined ifeq_end
      ifeq_on q = check_ifeq 0 (rw (← er, ev, ← eb, q))

      pub ifeq_jump : b ≡ false → (s : ℕ) → s ≡ jump_end p h c d → s ≡ end_met p l h t i
      unfolding defined ifeq_end
      ifeq_jump q s es = check_ifeq s (rw (← er, ev, ← eb, q, es))
