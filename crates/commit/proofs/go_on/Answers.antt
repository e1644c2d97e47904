use Rattle.commit.proofs.go_on.Goals as goal

pub returns : goal.returns
returns c = cc
