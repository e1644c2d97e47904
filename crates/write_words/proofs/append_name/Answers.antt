use Rattle.write_words.proofs.Words.{name_appended}
use Rattle.write_words.proofs.append_name.Goals as goal

pub returns : goal.returns
returns c = search name_appended
