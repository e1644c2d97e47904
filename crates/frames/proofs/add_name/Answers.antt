use Rattle.frames.proofs.Laws.{add_deep, add_large, add_many, add_room, add_again, add_new}
use Rattle.frames.proofs.add_name.Goals as goal

pub returns-then-depth-gt17 : goal.returns-then-depth-gt17
returns-then-depth-gt17 c = search add_deep

pub returns-then-j-gt128 : goal.returns-then-j-gt128
returns-then-j-gt128 c = search add_large

pub returns-then-n-gt15 : goal.returns-then-n-gt15
returns-then-n-gt15 c = search add_many

pub has_name-requires : goal.has_name-requires
has_name-requires c = search add_room

pub returns-then-has_name : goal.returns-then-has_name
returns-then-has_name c = search add_again

pub returns : goal.returns
returns c = search add_new
