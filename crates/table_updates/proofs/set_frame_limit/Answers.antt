use Rattle.table_updates.specs.Updates.{set_frame_limit}
use Rattle.table_updates.proofs.set_frame_limit.Goals as goal

pub returns : goal.returns
unfolding set_frame_limit
returns c = c.set_word.ensures
