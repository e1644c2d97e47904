-- Document 02, A1, write, as C sees it: a number, and a cell that takes the length. Assumes nothing.
use Rattle.std.specs.Prelude.{◌≡◌, List, ℕ}
use Rattle.framed.specs.declared.WriteAnswer.{WriteAnswer}
use Rattle.answers.specs.Numbers.{write_number}
use Rattle.write.specs.Write.{writing, write_call, WriteMeans}

-- what the cell holds afterwards: a refused call leaves it as it was
unfoldable pub length_cell : WriteAnswer → ℕ → ℕ
length_cell (WriteAnswer.Written n) before = n
length_cell WriteAnswer.NotWellFormed before = before
length_cell WriteAnswer.ShortBuffer before = before

-- the call of the crate `write`, its answer as a number and a cell
pub record WritesInC (p h l t out : List ℕ) (length : ℕ) (r : ℕ) (out' : List ℕ) (length' : ℕ) : Type 0 where
  pub answer : WriteAnswer
  pub exact : write_call p h l t out ≡ writing answer out'
  pub meaning : WriteMeans p h l t out answer out'
  pub number : r ≡ write_number answer
  pub length_after : length' ≡ length_cell answer length
