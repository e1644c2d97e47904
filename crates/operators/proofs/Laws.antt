-- One law for each way through the functions of this crate. Assumes nothing.
use Prim.Native.Nat.{ℕ, zero, suc, ◌≤◌, ◌<◌}
use mathlib.Core.Path.{◌≡◌, refl, ◌∙◌, sym}
use mathlib.Core.Bool.{Bool, true, false, ◌&&◌, ◌||◌}
use mathlib.Core.List.{List, []}
use native.Mathlib.Omega.{arith}
use lib.Dec.{eqb}
use lib.IntN.{ℤ, ◌+ℤ◌, ◌-ℤ◌, ◌*ℤ◌}
use lib.Signed.{lt_z}
use mir.Syntax.{w32}
use mir.Val.{to_z, bool_byte}
use borrow.Author.Tests.{eq-eqb, ne_eqb, lt-ltb, le-ltb}
use Rattle.std.specs.Prelude.{Result, Ok, Err, IsErrAnd}
use Rattle.words.specs.Words.{pick}
use Rattle.framed.specs.declared.End.{End}
use Rattle.framed.specs.declared.Value.{Value}
use Rattle.framed.specs.Tokens.{Operator}
use Rattle.framed.specs.Machine.{◌>>=◌, gives, ends, integer_in}
use Rattle.bounded.specs.Operations.{flag, number, ranged, operated}
use Rattle.framed.specs.Values.{join_bytes, truth}
use Rattle.framed.specs.Answers.{end_number, end_met}
use Rattle.framed.specs.Equality.{Constants, equal_values}
use Rattle.bounded.specs.Check.{end_of}
use Rattle.heap.specs.Held.{texts_held}
use Rattle.texts.specs.Literals.{literals_held}
use Rattle.program_equality.specs.Agreement.{constants_held}
use Rattle.joining.specs.Joining.{join_end, join_result}
use Rattle.joining.proofs.Meaning.{join_means}
use Rattle.arith.specs.Arith.{outcome, divided}
use Rattle.operators.specs.declared.Operated.{Operated}
use Rattle.operators.specs.Operators.{operator_of, arithmetic_of, no_constants, arithmetic_operated, integer_operated, compared, Operates}

-- ---- integers

-- a flag as the code's integer
abbrev bit : Bool → ℤ
bit t = to_z w32 (bool_byte t)

bit_is : (t : Bool) → gives (number (bit t)) ≡ gives (flag t)
unfolding flag
bit_is true = refl
bit_is false = refl

module _ (k : ℕ) (y z a b : ℤ) (ea : a ≡ y) (eb : b ≡ z) where
  pub is_plus : (r : Result ℤ End) → k ≡ 7 → outcome r ≡ ranged (a +ℤ b) → outcome r ≡ integer_operated k y z
  unfolding integer_operated arithmetic_operated arithmetic_of operated integer_in ◌>>=◌
  is_plus r e q = q ∙ rw (e, ea, eb)

  pub is_minus : (r : Result ℤ End) → k ≡ 8 → outcome r ≡ ranged (a -ℤ b) → outcome r ≡ integer_operated k y z
  unfolding integer_operated arithmetic_operated arithmetic_of operated integer_in ◌>>=◌
  is_minus r e q = q ∙ rw (e, ea, eb)

  pub is_times : (r : Result ℤ End) → k ≡ 9 → outcome r ≡ ranged (a *ℤ b) → outcome r ≡ integer_operated k y z
  unfolding integer_operated arithmetic_operated arithmetic_of operated integer_in ◌>>=◌
  is_times r e q = q ∙ rw (e, ea, eb)

  pub is_over : (r : Result ℤ End) → k ≡ 10 → outcome r ≡ divided a b → outcome r ≡ integer_operated k y z
  unfolding integer_operated arithmetic_operated arithmetic_of operated integer_in ◌>>=◌ divided
  is_over r e q = q ∙ rw (e, ea, eb)

  pub is_less : (t : Bool) → (k ≡ 7 → ⊥) → (k ≡ 8 → ⊥) → (k ≡ 9 → ⊥) → (k ≡ 10 → ⊥) → t ≡ lt_z a b → outcome (Ok (bit t)) ≡ integer_operated k y z
  unfolding integer_operated arithmetic_operated arithmetic_of operated integer_in ◌>>=◌
  is_less t n7 n8 n9 n10 q = rw (ne_eqb k 7 n7, ne_eqb k 8 n8, ne_eqb k 9 n9, ne_eqb k 10 n10, ← ea, ← eb, ← q) (bit_is t)

-- ---- arithmetic

-- the five operators that want integers
arithmetic_case : (P : Operator → Type 0) → P Operator.plus → P Operator.minus → P Operator.times → P Operator.over → P Operator.less → (k : ℕ) → P (arithmetic_of k)
unfolding arithmetic_of
arithmetic_case P a b c d e k = go (eqb k 7) (eqb k 8) (eqb k 9) (eqb k 10)
  where
    go : (w x y z : Bool) → P (pick w Operator.plus (pick x Operator.minus (pick y Operator.times (pick z Operator.over Operator.less))))
    go true x y z = a
    go false true y z = b
    go false false true z = c
    go false false false true = d
    go false false false false = e

module _ (k : ℕ) (v w : Value) where
  pub left_else : ((k : ℤ) → v ≡ Value.Int k → ⊥) → outcome (Err End.NoRule) ≡ arithmetic_operated k v w
  unfolding arithmetic_operated operated integer_in ◌>>=◌
  left_else o = go v o
    where
      go : (u : Value) → ((k : ℤ) → u ≡ Value.Int k → ⊥) → outcome (Err End.NoRule) ≡ operated no_constants [] (arithmetic_of k) u w
      go (Value.Int y) q = absurd (q y refl)
      go (Value.Text x) q = arithmetic_case (λ o. ends 31 ≡ operated no_constants [] o (Value.Text x) w) refl refl refl refl refl k
      go (Value.Code n) q = arithmetic_case (λ o. ends 31 ≡ operated no_constants [] o (Value.Code n) w) refl refl refl refl refl k
      go (Value.Frame n) q = arithmetic_case (λ o. ends 31 ≡ operated no_constants [] o (Value.Frame n) w) refl refl refl refl refl k

  module _ (y : ℤ) (ev : v ≡ Value.Int y) where
    pub right_else : ((k : ℤ) → w ≡ Value.Int k → ⊥) → outcome (Err End.NoRule) ≡ arithmetic_operated k v w
    unfolding arithmetic_operated operated integer_in ◌>>=◌
    right_else o = rw ev (go w o)
      where
        go : (u : Value) → ((k : ℤ) → u ≡ Value.Int k → ⊥) → outcome (Err End.NoRule) ≡ operated no_constants [] (arithmetic_of k) (Value.Int y) u
        go (Value.Int z) q = absurd (q z refl)
        go (Value.Text x) q = arithmetic_case (λ o. ends 31 ≡ operated no_constants [] o (Value.Int y) (Value.Text x)) refl refl refl refl refl k
        go (Value.Code n) q = arithmetic_case (λ o. ends 31 ≡ operated no_constants [] o (Value.Int y) (Value.Code n)) refl refl refl refl refl k
        go (Value.Frame n) q = arithmetic_case (λ o. ends 31 ≡ operated no_constants [] o (Value.Int y) (Value.Frame n)) refl refl refl refl refl k

    pub both_integers : (z a b : ℤ) (r : Result ℤ End) → w ≡ Value.Int z → outcome r ≡ integer_operated k a b → a ≡ y → b ≡ z → outcome r ≡ arithmetic_operated k v w
    unfolding integer_operated
    both_integers z a b r ew q ea eb = q ∙ rw (ev, ew, ea, eb)

-- ---- compare

module _ (c : Constants) (made : List (List ℕ)) (k : ℕ) (v w : Value) where
  pub is_equal : (r : Bool) → k ≡ 13 → r ≡ equal_values c made v w → r ≡ compared c made k v w
  unfolding compared
  is_equal r e q = rw (eq-eqb k 13 e, q)

  module _ (n : k ≡ 13 → ⊥) (a b : Bool) (ea : a ≡ truth v) (eb : b ≡ truth w) where
    pub is_and : k ≡ 14 → (a && b) ≡ compared c made k v w
    unfolding compared
    is_and e = rw (ne_eqb k 13 n, eq-eqb k 14 e, ea, eb)

    pub is_or : (k ≡ 14 → ⊥) → (a || b) ≡ compared c made k v w
    unfolding compared
    is_or e = rw (ne_eqb k 13 n, ne_eqb k 14 e, ea, eb)

-- ---- operate

-- an end that `?` passes on
passed : {A : Type 0} (r : Result A End) (e : End) → IsErrAnd r (λ x. x ≡ e) → r ≡ Err e
passed (Ok a) e q = absurd q
passed (Err x) e q = rw q

-- an end of a join has a number other than 0
join_ended : (e : End) (bs : List ℕ) → join_result (end_number e) bs ≡ ends (end_number e)
unfolding join_result
join_ended End.NoRule bs = refl
join_ended End.DivisorZero bs = refl
join_ended End.IntegerRange bs = refl
join_ended End.TextLength bs = refl
join_ended End.SlotLimit bs = refl
join_ended End.FramesFull bs = refl
join_ended End.TextsFull bs = refl

-- what `arithmetic` and `compare` say is what the operator gives
module _ (c : Constants) (made : List (List ℕ)) (k : ℕ) (v w : Value) where
  pub arithmetic_means : k < 12 → arithmetic_operated k v w ≡ operated c made (operator_of k) v w
  unfolding operator_of arithmetic_operated operated
  arithmetic_means lt = rw (lt-ltb k 12 lt) (arithmetic_case (λ o. operated no_constants [] o v w ≡ operated c made o v w) refl refl refl refl refl k)

  pub compared_means : 12 ≤ k → (k ≡ 12 → ⊥) → gives (flag (compared c made k v w)) ≡ operated c made (operator_of k) v w
  unfolding operator_of operated compared
  compared_means ge n = rw (le-ltb k 12 ge, ne_eqb k 12 n) (go (eqb k 13) (eqb k 14))
    where
      go : (x y : Bool) → gives (flag (pick x (equal_values c made v w) (pick y (truth v && truth w) (truth v || truth w))))
          ≡ operated c made (pick x Operator.equal (pick y Operator.and Operator.or)) v w
      go true y = refl
      go false true = refl
      go false false = refl

module _ (p l h t : List ℕ) (k : ℕ) (v w : Value) where
  abbrev held : Constants
  held = constants_held p l

  abbrev made : List (List ℕ)
  made = texts_held h t

  abbrev bytes : List ℕ
  bytes = join_bytes (literals_held p l) made v w

  join_held : 12 ≤ k → k ≡ 12 → operated held made (operator_of k) v w ≡ join_result (join_end p h v w) bytes
  unfolding operator_of constants_held
  join_held ge ek = rw (le-ltb k 12 ge, eq-eqb k 12 ek) (join_means p l h t v w held refl)

  module _ (lt : k < 12) where
    pub operates_integer : (y z : ℤ) → outcome (Ok z) ≡ arithmetic_operated k v w → y ≡ z → Operates p l h t k v w (Ok (Operated.Integer y))
    operates_integer y z ea q = record { is = rw (q, ea) (arithmetic_means held made k v w lt) }

    pub operates_end : (e : End) → outcome (Err e) ≡ arithmetic_operated k v w → (r : Result Operated End) → IsErrAnd r (λ x. x ≡ e) → Operates p l h t k v w r
    operates_end e ea r q = record { is = rw (passed r e q, ea) (arithmetic_means held made k v w lt) }

  module _ (ge : 12 ≤ k) (ek : k ≡ 12) where
    pub operates_join : 0 ≡ join_end p h v w → Operates p l h t k v w (Ok Operated.Joined)
    unfolding join_result
    operates_join e = record { is = rw (join_held ge ek, ← e) }

    pub operates_too_long : (e : End) → end_number e ≡ join_end p h v w → (r : Result Operated End) → IsErrAnd r (λ x. x ≡ e) → Operates p l h t k v w r
    operates_too_long e q r er = record { is = rw (passed r e er, join_held ge ek, ← q, join_ended e bytes) }

  pub operates_flag : 12 ≤ k → (k ≡ 12 → ⊥) → (b : Bool) → b ≡ compared held made k v w → Operates p l h t k v w (Ok (Operated.Integer (bit b)))
  operates_flag ge n b eb = record { is = rw (eb, bit_is (compared held made k v w)) (compared_means held made k v w ge n) }

  -- operate_end
  pub end_compared : 12 < k → 0 ≡ end_of (operated held made (operator_of k) v w)
  unfolding end_of
  end_compared lt = rw (← compared_means held made k v w (omega arith) (λ e. omega arith))

  pub end_join : k ≤ 12 → 12 ≤ k → (e : ℕ) → e ≡ join_end p h v w → e ≡ end_of (operated held made (operator_of k) v w)
  unfolding end_of join_result
  end_join le ge e ee = rw (join_held ge (omega arith), ← ee) (go e)
    where
      go : (n : ℕ) → n ≡ end_of (join_result n bytes)
      go zero = refl
      go (suc n) = refl

  module _ (a : Result ℤ End) (lt : k < 12) (ea : outcome a ≡ arithmetic_operated k v w) where
    arithmetic_held : operated held made (operator_of k) v w ≡ outcome a
    arithmetic_held = sym (ea ∙ arithmetic_means held made k v w lt)

  module _ (lt : k < 12) where
    pub end_is : (e : End) → outcome (Err e) ≡ arithmetic_operated k v w → {A : Type 0} (r : Result A End) → IsErrAnd r (λ x. x ≡ e) → end_met r ≡ end_of (operated held made (operator_of k) v w)
    unfolding end_of
    end_is e ea r er = rw (arithmetic_held (Err e) lt ea, passed r e er)

    pub end_none : (z : ℤ) → outcome (Ok z) ≡ arithmetic_operated k v w → 0 ≡ end_of (operated held made (operator_of k) v w)
    unfolding end_of
    end_none z ea = rw (arithmetic_held (Ok z) lt ea)
