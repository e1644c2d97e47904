-- Document 01, "The endless machine", one step on `:=` of an expression that makes no frame and no text, over program words p, literal bytes l,
-- heap words h and text bytes t: the value, and Put along the path. Assumes nothing.
use Rattle.std.specs.Prelude.{ℕ, ◌≡◌, not, List, eqb, Option, Some, None, Ok, Err, Result as Checked}
use Rattle.framed.specs.declared.End.{End}
use Rattle.framed.specs.Answers.{end_number}
use Rattle.std.proofs.Math.ListN.{get_elem?}
use Rattle.words.specs.Words.{pick}
use Rattle.framed.specs.declared.Value.{Value}
use Rattle.framed.specs.Values.{truth, bit}
use Rattle.framed.specs.Machine.{Result, gives, ends}
use Rattle.tables.specs.declared.ExpressionEntry.{ExpressionEntry}
use Rattle.tables.specs.Entries.{expression_at}
use Rattle.heap.specs.Held.{frames_held}
use Rattle.paths.specs.Paths.{path_held}
use Rattle.puts.specs.Puts.{target_along, put_slot}
use Rattle.operands.specs.Operands.{operand_value}
use Rattle.operand_checks.specs.OperandChecks.{put_end}
use Rattle.bounded.specs.Operations.{Product, number, text}
use Rattle.bounded.specs.Check.{slot_end, target_end}
use Rattle.producing.specs.Producing.{operation_held}
use Rattle.commit.specs.Commit.{put_along}

-- ---- Values

-- what an expression gives: a value, the end that it meets, or that it makes something
pub data Given : Type 0 where
  value : Value → Given
  ended : ℕ → Given
  makes : Given

abbrev pub given : Checked (Option Value) End → Given
given (Ok (Some v)) = Given.value v
given (Ok None) = Given.makes
given (Err e) = Given.ended (end_number e)

-- of a base, of `!` of a base, and of an operator that gives no text
unfoldable pub of_base : Result Value → Given
of_base (gives v) = Given.value v
of_base (ends e) = Given.ended e

unfoldable pub of_not : Result Value → Given
of_not (gives v) = Given.value (bit (not (truth v)))
of_not (ends e) = Given.ended e

unfoldable pub of_product : Result Product → Given
of_product (gives (number z)) = Given.value (Value.Int z)
of_product (gives (text bs)) = Given.makes
of_product (ends e) = Given.ended e

module _ (p l h t : List ℕ) where
  -- of the operator of kind k between the expressions a and b; kind 12 is `#`
  unfoldable pub operation_given : (k a b : ℕ) → Given
  operation_given k a b = pick (eqb k 12) Given.makes (of_product (operation_held p l h t k a b))

  -- of expression x, by its entry
  unfoldable pub entry_given : (x : ℕ) → ExpressionEntry → Given
  entry_given x (ExpressionEntry.Integer w) = of_base (operand_value p h x)
  entry_given x (ExpressionEntry.Literal k) = of_base (operand_value p h x)
  entry_given x (ExpressionEntry.FromSelf j n) = of_base (operand_value p h x)
  entry_given x (ExpressionEntry.FromProgram j n) = of_base (operand_value p h x)
  entry_given x (ExpressionEntry.Code k) = of_base (operand_value p h x)
  entry_given x (ExpressionEntry.Frame d) = Given.makes
  entry_given x (ExpressionEntry.Not a) = of_not (operand_value p h a)
  entry_given x (ExpressionEntry.Operate k a b) = operation_given k a b
  entry_given x ExpressionEntry.Bad = Given.makes

  unfoldable pub expression_given : (x : ℕ) → Given
  expression_given x = entry_given x (expression_at p x)

-- ---- Put

-- words that are written where there is no end
abbrev pub unless_ended : ℕ → List ℕ → List ℕ → List ℕ
unless_ended e h' h = pick (eqb e 0) h' h

-- at a frame
pub record PutsSlot (h : List ℕ) (f x : ℕ) (v : Value) (r : ℕ) (h' : List ℕ) : Type 0 where
  pub end : r ≡ slot_end (get_elem? (frames_held h) f) x
  pub words : h' ≡ unless_ended r (put_slot h f x v) h

-- along the n path names from j on
pub record Puts (p h : List ℕ) (root : Value) (j n : ℕ) (v : Value) (r : ℕ) (h' : List ℕ) : Type 0 where
  pub end : r ≡ target_end (frames_held h) (target_along (frames_held h) root (path_held p j n))
  pub words : h' ≡ unless_ended r (put_along p h root j n v) h

-- the same, where an empty path has the words h₀
pub record PutsFrom (p h h₀ : List ℕ) (root : Value) (j n : ℕ) (v : Value) (r : ℕ) (h' : List ℕ) : Type 0 where
  pub end : r ≡ put_end p h root j n
  pub words : h' ≡ unless_ended r (pick (eqb n 0) h₀ (put_along p h root j n v)) h
