-- Document 01, "The calls", look and its companion, as C sees them: the kind as a number, a cell that takes an integer and one that takes a maker
-- (document 02, A5), a buffer that takes the bytes of a text. Assumes nothing.
use Rattle.std.specs.Prelude.{◌≡◌, List, ℕ, ℤ, length}
use Rattle.framed.specs.declared.LookAnswer.{LookAnswer}
use Rattle.splice.specs.Splice.{splice}
use Rattle.answers.specs.Numbers.{look_number}
use Rattle.look.specs.Look.{look_call, LookMeans, look_bytes, LookTextMeans}

-- what the cell holds afterwards: only an integer is written
unfoldable pub integer_cell : LookAnswer → ℤ → ℤ
integer_cell (LookAnswer.Integer z) before = z
integer_cell LookAnswer.Text before = before
integer_cell LookAnswer.Code before = before
integer_cell (LookAnswer.Frame n) before = before
integer_cell LookAnswer.NotWellFormed before = before
integer_cell LookAnswer.NotPath before = before
integer_cell LookAnswer.Undefined before = before

-- and of the maker: only that of a frame is
unfoldable pub maker_cell : LookAnswer → ℕ → ℕ
maker_cell (LookAnswer.Integer z) before = before
maker_cell LookAnswer.Text before = before
maker_cell LookAnswer.Code before = before
maker_cell (LookAnswer.Frame n) before = n
maker_cell LookAnswer.NotWellFormed before = before
maker_cell LookAnswer.NotPath before = before
maker_cell LookAnswer.Undefined before = before

-- the call of the crate `look`, its answer as a number and two cells
pub record LooksInC (p h l t path : List ℕ) (integer : ℤ) (maker : ℕ) (r : ℕ) (integer' : ℤ) (maker' : ℕ) : Type 0 where
  pub answer : LookAnswer
  pub exact : answer ≡ look_call p h l t path
  pub meaning : LookMeans p h l t path answer
  pub number : r ≡ look_number answer
  pub integer_after : integer' ≡ integer_cell answer integer
  pub maker_after : maker' ≡ maker_cell answer maker

-- its companion: how many bytes the text has, and the buffer with them at its front, as far as they fit
pub record LooksTextInC (p h l t path : List ℕ) (out : List ℕ) (r : ℕ) (out' : List ℕ) : Type 0 where
  pub bytes : List ℕ
  pub exact : bytes ≡ look_bytes p h l t path
  pub meaning : LookTextMeans p h l t path bytes
  pub count : r ≡ length bytes
  pub written : out' ≡ splice out 0 bytes
