use Rattle.write_words.proofs.Paths.{self_appended}
use Rattle.write_words.proofs.Laws.{can_append}
use Rattle.write_words.proofs.append_self_path.Goals as goal

pub append_names-requires : goal.append_names-requires
append_names-requires c = search can_append

pub returns : goal.returns
returns c = search self_appended
