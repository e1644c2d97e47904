use Rattle.places.proofs.Codes.{place_none, place_there}
use Rattle.places.proofs.first_place.Goals as goal

pub returns-then-codes-k : goal.returns-then-codes-k
returns-then-codes-k c = search place_none

pub returns : goal.returns
returns c = search place_there
