-- Document 02, A1, the call write: what it answers and what it leaves in the buffer, for every four memories (program words p, heap words h, literal bytes l, text bytes t)
-- and every buffer; and what that means. Assumes nothing.
use Rattle.std.specs.Prelude.{◌≡◌, List, ◌++◌, ℕ, ◌^◌, ◌<◌, leb, length, drop}
use Rattle.framed.specs.declared.WriteAnswer.{WriteAnswer}
use Rattle.framed.specs.Answers.{write_word}
use Rattle.framed.specs.Calls.{write, buffer_after}
use Rattle.framed.specs.Writer.{text}
use Rattle.framed.specs.Demands.{Writing}
use Rattle.words.specs.Words.{pick}
use Rattle.program_form.specs.WellFormed as program
use Rattle.trees.specs.Held.{program_held}
use Rattle.wellformed.specs.WellFormed.{WellFormed, well_formed}

abbrev pub writing : WriteAnswer → List ℕ → Writing
writing r buffer = record { answer = r; buffer = buffer }

-- 23 where the buffer is shorter than the text
unfoldable pub text_written : List ℕ → List ℕ → Writing
text_written bs buffer =
    pick (leb (length bs) (length buffer))
    (writing (WriteAnswer.Written (length bs)) (bs ++ drop (length bs) buffer))
    (writing WriteAnswer.ShortBuffer buffer)

-- what writing it asks: well-formed program words, and a buffer, which is no longer than a slice can be
pub record CanWriteThrough (p l buffer : List ℕ) : Type 0 where
  pub program : program.WellFormed p l
  pub small : length buffer < 2 ^ 63

-- 20 first
unfoldable pub write_call : List ℕ → List ℕ → List ℕ → List ℕ → List ℕ → Writing
write_call p h l t buffer =
    pick (well_formed p h l t) (text_written (text (program_held p l)) buffer) (writing WriteAnswer.NotWellFormed buffer)

-- 20, with nothing changed, exactly where they are not well-formed; else the text of the program that they hold, or 23
pub record WriteMeans (p h l t buffer : List ℕ) (r : WriteAnswer) (buffer' : List ℕ) : Type 0 where
  pub refused : ¬ WellFormed p h l t → (r ≡ WriteAnswer.NotWellFormed) × (buffer' ≡ buffer)
  pub written : WellFormed p h l t →
      (write_word r ≡ write (program_held p l) (length buffer)) × (buffer' ≡ buffer_after (program_held p l) buffer)

-- what write-call gives has that meaning
abbrev pub WriteIsText : Type 0
WriteIsText = (p h l t buffer : List ℕ) → WriteMeans p h l t buffer (write_call p h l t buffer).answer (write_call p h l t buffer).buffer
