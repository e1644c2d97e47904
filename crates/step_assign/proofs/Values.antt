-- What the value that an expression gives, or its end, says of the bounded machine. Assumes nothing.
use Prim.Native.Nat.{ℕ, ◌<◌}
use mathlib.Core.Path.{◌≡◌, refl, ◌∙◌, sym}
use mathlib.Core.Bool.{Bool, true, false, not}
use mathlib.Core.List.{List}
use native.Mathlib.Omega.{arith}
use native.Mathlib.Decide.{ℕ_discrete}
use lib.IntN.{ℤ, ◌+ℤ◌, ◌-ℤ◌, ◌*ℤ◌}
use lib.Signed.{lt_z}
use lib.Dec.{eqb, ltb}
use borrow.Author.Tests.{eq-eqb, ne_eqb}
use Rattle.words.specs.Words.{pick}
use Rattle.framed.specs.declared.Value.{Value}
use Rattle.framed.specs.Values.{truth, bit}
use Rattle.framed.specs.Equality.{Constants}
use Rattle.framed.specs.Common.{when◌then◌else◌}
use Rattle.framed.specs.Tokens.{Operator, in_range}
use Rattle.framed.specs.Machine as M
use Rattle.framed.specs.Machine.{Result, gives, ends, integer_in, quotient, is_join, frame_literals, join_signs}
use Rattle.tables.specs.declared.ExpressionEntry.{ExpressionEntry}
use Rattle.tables.specs.Entries.{expression_at}
use Rattle.tables.specs.Fields.{expressions}
use Rattle.trees.specs.Trees.{expression_tree}
use Rattle.trees.specs.Held.{expression_held, held}
use Rattle.trees.proofs.Held.{one_level_held}
use Rattle.heap.specs.Held.{texts_held, heap_held}
use Rattle.bounded.specs.Operations.{Product, number, text, ranged, flag, operated}
use Rattle.bounded.specs.Check.{end_of, operation_result}
use Rattle.bounded.specs.Bounded.{value_given, produce}
use Rattle.operands.specs.Operands.{operand_value}
use Rattle.program_equality.specs.Agreement.{constants_held}
use Rattle.operators.specs.Operators.{arithmetic_of, operator_of}
use Rattle.checking.specs.Checking.{ChecksExpression, operation_end, expression_end, single_end}
use Rattle.checking.proofs.Laws.{single_is}
use Rattle.producing.specs.Producing.{HasRoom, Writable, made, read_entry, operation_held}
use Rattle.producing.proofs.Leaves.{leaves_none}
use Rattle.producing.proofs.Laws.{readable_from}
use Rattle.evaluation.specs.Evaluation.{CanEvaluate, Evaluates}
use Rattle.evaluation.proofs.Simple.{read_made, operation_frames, operation_signs, operation_made}
use Rattle.step_assign.specs.Assign.{Given, of_base, of_not, of_product, operation_given, entry_given, expression_given}

-- ---- Only kind 12 makes a text

no_join : (k : ℕ) → (k ≡ 12 → ⊥) → is_join (operator_of k) ≡ 0
unfolding operator_of arithmetic_of is_join
no_join k ne = rw (ne_eqb k 12 ne) (go (ltb k 12) (eqb k 7) (eqb k 8) (eqb k 9) (eqb k 10) (eqb k 13) (eqb k 14))
  where
    go : (a b c d e f g : Bool) →
        is_join (pick a (pick b Operator.plus (pick c Operator.minus (pick d Operator.times (pick e Operator.over Operator.less)))) (pick f Operator.equal (pick g Operator.and Operator.or))) ≡ 0
    go true true c d e f g = refl
    go true false true d e f g = refl
    go true false false true e f g = refl
    go true false false false true f g = refl
    go true false false false false f g = refl
    go false b c d e true g = refl
    go false b c d e false true = refl
    go false b c d e false false = refl

join_sign : is_join (operator_of 12) ≡ 1
unfolding operator_of is_join
join_sign = refl

-- and gives one
abbrev NoText : Result Product → Type 0
NoText (gives (number z)) = Unit
NoText (gives (text bs)) = ⊥
NoText (ends e) = Unit

no_text_bind : {A : Type 0} (m : Result A) (f : A → Result Product) → ((a : A) → NoText (f a)) → NoText (M.◌>>=◌ m f)
unfolding M.◌>>=◌
no_text_bind (gives a) f k = k a
no_text_bind (ends e) f k = tt

no_text_two : (v w : Value) (f : ℤ → ℤ → Result Product) → ((y z : ℤ) → NoText (f y z)) → NoText (M.◌>>=◌ (integer_in v) (λ y. M.◌>>=◌ (integer_in w) (λ z. f y z)))
no_text_two v w f k = no_text_bind (integer_in v) _ (λ y. no_text_bind (integer_in w) _ (λ z. k y z))

ranged_no_text : (z : ℤ) → NoText (ranged z)
unfolding ranged
ranged_no_text z = go (in_range z)
  where
    go : (b : Bool) → NoText (when b then gives (number z) else ends 33)
    go true = tt
    go false = tt

flag_no_text : (b : Bool) → NoText (gives (flag b))
unfolding flag
flag_no_text true = tt
flag_no_text false = tt

operated_no_text : (cs : Constants) (made : List (List ℕ)) (o : Operator) (v w : Value) → is_join o ≡ 0 → NoText (operated cs made o v w)
unfolding operated is_join
operated_no_text cs made Operator.plus v w e = no_text_two v w _ (λ y z. ranged_no_text (y +ℤ z))
operated_no_text cs made Operator.minus v w e = no_text_two v w _ (λ y z. ranged_no_text (y -ℤ z))
operated_no_text cs made Operator.times v w e = no_text_two v w _ (λ y z. ranged_no_text (y *ℤ z))
operated_no_text cs made Operator.over v w e = no_text_two v w _ (λ y z. no_text_bind (quotient y z) _ (λ q. ranged_no_text q))
operated_no_text cs made Operator.less v w e = no_text_two v w _ (λ y z. flag_no_text (lt_z y z))
operated_no_text cs made Operator.join v w e = absurd (omega arith)
operated_no_text cs made Operator.equal v w e = flag_no_text _
operated_no_text cs made Operator.and v w e = flag_no_text _
operated_no_text cs made Operator.or v w e = flag_no_text _

operation_no_text : (p l h t : List ℕ) (k a b : ℕ) → (k ≡ 12 → ⊥) → NoText (operation_held p l h t k a b)
unfolding operation_held
operation_no_text p l h t k a b ne =
    no_text_bind (operand_value p h a) _ (λ v. no_text_bind (operand_value p h b) _ (λ w. operated_no_text (constants_held p l) (texts_held h t) (operator_of k) v w (no_join k ne)))

-- ---- By the entry

-- expression x makes nothing
pub record Still (p : List ℕ) (x : ℕ) : Type 0 where
  pub frames : frame_literals (expression_held p x) ≡ 0
  pub texts : join_signs (expression_held p x) ≡ 0

-- it makes a frame or a text
pub data MakesSome (p : List ℕ) (x : ℕ) : Type 0 where
  a_frame : 0 < frame_literals (expression_held p x) → MakesSome p x
  a_text : 0 < join_signs (expression_held p x) → MakesSome p x

module _ (p l h t : List ℕ) (x : ℕ) where
  pub record GivesValue (v : Value) : Type 0 where
    pub still : Still p x
    pub end : 0 ≡ expression_end p l h t x
    pub evaluates : Evaluates p l h t x v h t

  pub record GivesEnd (e : ℕ) : Type 0 where
    pub still : Still p x
    pub end : e ≡ expression_end p l h t x

  abbrev pub Gives : Given → Type 0
  Gives (Given.value v) = GivesValue v
  Gives (Given.ended e) = GivesEnd e
  Gives Given.makes = MakesSome p x

  module _ (w : Writable p l h t) (there : x < expressions p) where
    checks : ChecksExpression p l h t x
    checks = record { memories = record { program = w.program; readable = readable_from p l h t w }; there = there }

    tree : (e : ExpressionEntry) → e ≡ expression_at p x → expression_held p x ≡ expression_tree (held p) p x e
    tree e at = rw at ((one_level_held p l w.program).expression x there)

    still : (e : ExpressionEntry) → e ≡ expression_at p x → frame_literals (expression_tree (held p) p x e) ≡ 0 → join_signs (expression_tree (held p) p x e) ≡ 0 → Still p x
    still e at f n = record { frames = rw (tree e at) f; texts = rw (tree e at) n }

    -- a base
    plain : Still p x → end_of (operand_value p h x) ≡ expression_end p l h t x → Evaluates p l h t x (value_given (operand_value p h x)) h t → Gives (of_base (operand_value p h x))
    unfolding of_base end_of value_given
    plain s q m = go (operand_value p h x) q m
      where
        go : (o : Result Value) → end_of o ≡ expression_end p l h t x → Evaluates p l h t x (value_given o) h t → Gives (of_base o)
        go (gives v) q m = record { still = s; end = q; evaluates = m }
        go (ends e) q m = record { still = s; end = q }

    -- `!` of one
    negated : (a : ℕ) → Still p x → end_of (operand_value p h a) ≡ expression_end p l h t x → Evaluates p l h t x (bit (not (truth (value_given (operand_value p h a))))) h t → Gives (of_not (operand_value p h a))
    unfolding of_not end_of value_given
    negated a s q m = go (operand_value p h a) q m
      where
        go : (o : Result Value) → end_of o ≡ expression_end p l h t x → Evaluates p l h t x (bit (not (truth (value_given o)))) h t → Gives (of_not o)
        go (gives v) q m = record { still = s; end = q; evaluates = m }
        go (ends e) q m = record { still = s; end = q }

    -- an operator
    module _ (few : HasRoom h 0 0) (k a b : ℕ) (at : ExpressionEntry.Operate k a b ≡ expression_at p x) (ne : k ≡ 12 → ⊥) where
      still_operation : Still p x
      still_operation = record {
        frames = operation_frames p l w.program x there k a b (sym at);
        texts = operation_signs p l w.program x there k a b (sym at) ∙ no_join k ne;
      }

      can : CanEvaluate p l h t x
      can = record { writable = w; there = there; room = rw (still_operation.frames, still_operation.texts) few }

      end_is : end_of (operation_held p l h t k a b) ≡ expression_end p l h t x
      unfolding single_end operation_end operation_result operand_value heap_held operation_held
      end_is = single_is p l h t x checks (ExpressionEntry.Operate k a b) at (λ n q. cc)

      operated_gives : Gives (of_product (operation_held p l h t k a b))
      unfolding of_product end_of produce
      operated_gives = go (operation_held p l h t k a b) refl (operation_no_text p l h t k a b ne) end_is
        where
          go : (o : Result Product) → operation_held p l h t k a b ≡ o → NoText o → end_of o ≡ expression_end p l h t x → Gives (of_product o)
          go (gives (number z)) eo nt q = record {
            still = still_operation;
            end = q;
            evaluates =
                operation_made p l h t x can k a b (sym at) (Value.Int z) h t
                (record { produced = rw eo; leaves = leaves_none 0 (is_join (operator_of k)) w.sized w.text_size });
          }
          go (gives (text bs)) eo nt q = absurd nt
          go (ends e) eo nt q = record { still = still_operation; end = q }

    module _ (few : HasRoom h 0 0) where
      operation_gives : (k a b : ℕ) → ExpressionEntry.Operate k a b ≡ expression_at p x → Gives (operation_given p l h t k a b)
      unfolding operation_given
      operation_gives k a b at = go (ℕ_discrete k 12)
        where
          go : Dec (k ≡ 12) → Gives (pick (eqb k 12) Given.makes (of_product (operation_held p l h t k a b)))
          go (yes e) = rw (eq-eqb k 12 e) (a_text (rw (operation_signs p l w.program x there k a b (sym at), e, join_sign) (omega arith)))
          go (no ne) = rw (ne_eqb k 12 ne) (operated_gives few k a b at ne)

      -- neither frame literal nor operation
      base_gives : (e : ExpressionEntry) → e ≡ expression_at p x → ((d : ℕ) → e ≡ ExpressionEntry.Frame d → ⊥)
          → ((k : ℕ) (a : ℕ) (b : ℕ) → e ≡ ExpressionEntry.Operate k a b → ⊥)
          → Still p x → single_end p l h t x e ≡ end_of (operand_value p h x) → read_entry p h x e ≡ value_given (operand_value p h x) → Gives (of_base (operand_value p h x))
      base_gives e at f o s q r = plain s (sym q ∙ single_is p l h t x checks e at f) (rw r at (read_made p l h t x w there e (sym at) f o))

      entry_gives : (e : ExpressionEntry) → e ≡ expression_at p x → Gives (entry_given p l h t x e)
      unfolding entry_given expression_tree frame_literals join_signs single_end read_entry
      entry_gives (ExpressionEntry.Integer k) at =
          base_gives (ExpressionEntry.Integer k) at (λ d q. cc) (λ m b c q. cc) (still (ExpressionEntry.Integer k) at refl refl) refl refl
      entry_gives (ExpressionEntry.Literal k) at =
          base_gives (ExpressionEntry.Literal k) at (λ d q. cc) (λ m b c q. cc) (still (ExpressionEntry.Literal k) at refl refl) refl refl
      entry_gives (ExpressionEntry.FromSelf j n) at =
          base_gives (ExpressionEntry.FromSelf j n) at (λ d q. cc) (λ m b c q. cc) (still (ExpressionEntry.FromSelf j n) at refl refl) refl refl
      entry_gives (ExpressionEntry.FromProgram j n) at =
          base_gives (ExpressionEntry.FromProgram j n) at (λ d q. cc) (λ m b c q. cc) (still (ExpressionEntry.FromProgram j n) at refl refl) refl refl
      entry_gives (ExpressionEntry.Code k) at =
          base_gives (ExpressionEntry.Code k) at (λ d q. cc) (λ m b c q. cc) (still (ExpressionEntry.Code k) at refl refl) refl refl
      entry_gives (ExpressionEntry.Frame d) at = a_frame (rw (tree (ExpressionEntry.Frame d) at) (omega arith))
      entry_gives (ExpressionEntry.Not a) at =
          negated a (still (ExpressionEntry.Not a) at refl refl)
          (single_is p l h t x checks (ExpressionEntry.Not a) at (λ d q. cc))
          (read_made p l h t x w there (ExpressionEntry.Not a) (sym at) (λ d q. cc) (λ k b c q. cc))
      entry_gives (ExpressionEntry.Operate k a b) at = operation_gives k a b at
      entry_gives ExpressionEntry.Bad at = absurd ((w.program.entries.expression x there).formed (sym at))

      pub expression_gives : (r : Given) → r ≡ expression_given p l h t x → Gives r
      unfolding expression_given
      expression_gives r er = rw er (entry_gives (expression_at p x) refl)
