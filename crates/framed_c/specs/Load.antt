-- Document 01, "The calls", load, as C sees it: the answer's number. Assumes nothing.
use Rattle.std.specs.Prelude.{◌≡◌, List, ℕ}
use Rattle.framed.specs.declared.LoadAnswer.{LoadAnswer}
use Rattle.framed.specs.Answers.{load_number}
use Rattle.framed.specs.Demands.{Memories}
use Rattle.load.specs.Load.{loading, load_call, LoadMeans}

-- the call of the crate `load`, its answer as document 01's number, 0 for loaded
pub record LoadsInC (m : Memories) (source : List ℕ) (F T : ℕ) (r : ℕ) (m' : Memories) : Type 0 where
  pub answer : LoadAnswer
  pub exact : load_call m source F T ≡ loading answer m'
  pub meaning : LoadMeans m source F T answer m'
  pub number : r ≡ load_number answer
