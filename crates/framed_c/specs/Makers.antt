-- Document 02, A5, makers, as C sees it: a number, and 513 counts. Assumes nothing.
use Rattle.std.specs.Prelude.{◌≡◌, List, ℕ}
use Rattle.framed.specs.declared.MakersAnswer.{MakersAnswer}
use Rattle.framed.specs.Answers.{makers_number}
use Rattle.makers.specs.Makers.{counting, makers_call, MakersMeans}

-- the call of the crate `makers`, its answer as a number
pub record CountsInC (p h l t counts : List ℕ) (r : ℕ) (counts' : List ℕ) : Type 0 where
  pub answer : MakersAnswer
  pub exact : makers_call p h l t counts ≡ counting answer counts'
  pub meaning : MakersMeans p h l t counts answer counts'
  pub number : r ≡ makers_number answer
