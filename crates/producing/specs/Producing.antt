-- Document 01, "The endless machine", expressions that make no frame, over the words; what is made is that of the bounded machine's `produce` on the store that
-- the words are. The words of self, program, position and end mark stay as they are. Assumes nothing.
use Rattle.std.specs.Prelude.{ℕ, ◌+◌, ◌*◌, ◌≤◌, ◌<◌, ◌≡◌, not, List, length}
use Rattle.words.specs.Words.{word}
use Rattle.framed.specs.declared.Value.{Value}
use Rattle.framed.specs.declared.Text.{Text}
use Rattle.framed.specs.Values.{truth, bit}
use Rattle.framed.specs.Machine.{Result, ◌>>=◌, is_join}
use Rattle.tables.specs.declared.ExpressionEntry.{ExpressionEntry}
use Rattle.tables.specs.Entries.{expression_at}
use Rattle.program_form.specs.WellFormed.{WellFormed}
use Rattle.heap.specs.Words.{take_text}
use Rattle.heap.specs.Held.{texts_held, frames_in_use, texts_in_use}
use Rattle.heap.specs.Closed.{Sized, FrameInUse, TextInUse}
use Rattle.allocation.specs.Allocation.{next_text}
use Rattle.texts.specs.Texts.{Readable}
use Rattle.splice.specs.Splice.{splice}
use Rattle.shown.specs.Shown.{shown_size}
use Rattle.joining.specs.Joining.{join_written}
use Rattle.bounded.specs.Operations.{Product, operated}
use Rattle.bounded.specs.Bounded.{value_given, Produced, produce}
use Rattle.word_store.specs.Store.{Memories, word_store}
use Rattle.word_store.specs.State.{store_held}
use Rattle.operands.specs.Operands.{operand_value}
use Rattle.program_equality.specs.Agreement.{constants_held}
use Rattle.operators.specs.Operators.{operator_of}

-- ---- What is written, and what it leaves

-- the words of the header are those of before
pub record HeaderKept (h h' : List ℕ) : Type 0 where
  pub agree : (k : ℕ) → k < 6 → word h' k ≡ word h k

-- there are numbers for f more frames and n more made texts
pub record HasRoom (h : List ℕ) (f n : ℕ) : Type 0 where
  pub frames : length (frames_in_use h) + f ≤ 256
  pub texts : length (texts_in_use h) + n ≤ 256

-- what well-formed memories (document 01: whole) have of this
pub record Writable (p l h t : List ℕ) : Type 0 where
  pub program : WellFormed p l
  pub sized : Sized h
  pub text_size : length t ≡ 16384

-- at most f more frames and n more made texts in use, none fewer; no word of the header differs
pub record Leaves (h t : List ℕ) (f n : ℕ) (h' t' : List ℕ) : Type 0 where
  pub header : HeaderKept h h'
  pub stay : (g : ℕ) → FrameInUse h g → FrameInUse h' g
  pub stay_text : (k : ℕ) → TextInUse h k → TextInUse h' k
  pub sized : Sized h'
  pub text_size : length t' ≡ 16384
  pub frames : length (frames_in_use h') ≤ length (frames_in_use h) + f
  pub texts : length (texts_in_use h') ≤ length (texts_in_use h) + n

abbrev pub made : Value → List ℕ → List ℕ → Produced Memories
made r h t = record { value = r; store = store_held h t }

-- ---- Expressions that make nothing

-- by the entry of expression x
unfoldable pub read_entry : List ℕ → List ℕ → ℕ → ExpressionEntry → Value
read_entry p h x (ExpressionEntry.Integer w) = value_given (operand_value p h x)
read_entry p h x (ExpressionEntry.Literal k) = value_given (operand_value p h x)
read_entry p h x (ExpressionEntry.FromSelf j n) = value_given (operand_value p h x)
read_entry p h x (ExpressionEntry.FromProgram j n) = value_given (operand_value p h x)
read_entry p h x (ExpressionEntry.Code k) = value_given (operand_value p h x)
read_entry p h x (ExpressionEntry.Frame d) = value_given (operand_value p h x)
read_entry p h x (ExpressionEntry.Not a) = bit (not (truth (value_given (operand_value p h a))))
read_entry p h x (ExpressionEntry.Operate o a b) = value_given (operand_value p h x)
read_entry p h x ExpressionEntry.Bad = value_given (operand_value p h x)

unfoldable pub read_value : List ℕ → List ℕ → ℕ → Value
read_value p h x = read_entry p h x (expression_at p x)

-- ---- Operators

-- a new made text of bytes bs: the answer and the memories
pub record MakesText (h t bs : List ℕ) (r : Value) (h' t' : List ℕ) : Type 0 where
  pub answer : r ≡ Value.Text (Text.Made (next_text h))
  pub words : h' ≡ take_text h (next_text h) (length bs)
  pub bytes : t' ≡ splice t (64 * next_text h) bs

pub record CanJoin (p l h t : List ℕ) (v w : Value) : Type 0 where
  pub readable : Readable p l h t
  pub short : shown_size p h v + shown_size p h w ≤ 64

-- the answer and the memories after `#`
pub record Joins (p l h t : List ℕ) (v w r : Value) (h' t' : List ℕ) : Type 0 where
  pub answer : r ≡ Value.Text (Text.Made (next_text h))
  pub words : h' ≡ take_text h (next_text h) (shown_size p h v + shown_size p h w)
  pub bytes : t' ≡ join_written p l h t (next_text h) v w

pub record CanProduce (p l h t : List ℕ) (k : ℕ) : Type 0 where
  pub writable : Writable p l h t
  pub room : HasRoom h 0 (is_join (operator_of k))

-- the operator of kind k between two values
pub record Produces (p l h t : List ℕ) (k : ℕ) (v w r : Value) (h' t' : List ℕ) : Type 0 where
  pub produced : produce word_store (operated (constants_held p l) (texts_held h t) (operator_of k) v w) (store_held h t) ≡ made r h' t'
  pub leaves : Leaves h t 0 (is_join (operator_of k)) h' t'

-- the same between the values of expressions a and b
unfoldable pub operation_held : List ℕ → List ℕ → List ℕ → List ℕ → ℕ → ℕ → ℕ → Result Product
operation_held p l h t k a b = do
  v ← operand_value p h a
  w ← operand_value p h b
  operated (constants_held p l) (texts_held h t) (operator_of k) v w

pub record Operates (p l h t : List ℕ) (k a b : ℕ) (r : Value) (h' t' : List ℕ) : Type 0 where
  pub produced : produce word_store (operation_held p l h t k a b) (store_held h t) ≡ made r h' t'
  pub leaves : Leaves h t 0 (is_join (operator_of k)) h' t'
