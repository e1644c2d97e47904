use Rattle.write_words.proofs.Words.{string_appended}
use Rattle.write_words.proofs.Laws.{can_append}
use Rattle.write_words.proofs.append_string.Goals as goal

pub append-b-requires : goal.append-b-requires
append-b-requires c = search can_append

pub append-requires : goal.append-requires
append-requires c =
    can_append (can_append c.requires.1 c.append-a.ensures) c.append-b.ensures

pub returns : goal.returns
returns c = search string_appended
