use Rattle.names.proofs.same_parts.Goals as goal

pub returns : goal.returns
returns c = cc
