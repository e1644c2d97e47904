-- Document 01, "The calls", collect, as C sees it: a number, and two cells that take the totals. Assumes nothing.
use Rattle.std.specs.Prelude.{◌≡◌, List, ℕ}
use Rattle.framed.specs.declared.CollectAnswer.{CollectAnswer}
use Rattle.answers.specs.Numbers.{collect_number}
use Rattle.collect.specs.Collect.{collecting, collect_call, CollectMeans}

-- what the two cells hold afterwards: a refused call leaves them as they were
unfoldable pub frames_cell : CollectAnswer → ℕ → ℕ
frames_cell (CollectAnswer.Collected t) before = t.frames
frames_cell CollectAnswer.NotWellFormed before = before

unfoldable pub texts_cell : CollectAnswer → ℕ → ℕ
texts_cell (CollectAnswer.Collected t) before = t.texts
texts_cell CollectAnswer.NotWellFormed before = before

-- the call of the crate `collect`, its answer as a number and two cells
pub record CollectsInC (p h l t : List ℕ) (frames texts : ℕ) (r : ℕ) (h' : List ℕ) (frames' texts' : ℕ) : Type 0 where
  pub answer : CollectAnswer
  pub exact : collect_call p h l t ≡ collecting answer h'
  pub meaning : CollectMeans p h l t answer h'
  pub number : r ≡ collect_number answer
  pub frames_after : frames' ≡ frames_cell answer frames
  pub texts_after : texts' ≡ texts_cell answer texts
