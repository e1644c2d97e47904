use borrow.Author.Rules.{rules}
use Rattle.reader.specs.Position.{position_after}
use Rattle.reader.proofs.position_after.Goals as goal

pub returns-in-End : goal.returns-in-End
unfolding position_after
returns-in-End c = search rules

pub returns-in-NoToken : goal.returns-in-NoToken
unfolding position_after
returns-in-NoToken c = search rules

pub returns-in-Token : goal.returns-in-Token
unfolding position_after
returns-in-Token c = search rules
