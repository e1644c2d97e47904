use Rattle.source.specs.Positions.{part}
use Rattle.source.proofs.Positions.{part_backward, part_outside, part_past}
use borrow.Author.Rules.{rules}
use Rattle.token.proofs.token_bytes.Goals as goal

pub returns-then-end-begin : goal.returns-then-end-begin
returns-then-end-begin c = search part_backward

pub returns-then-s-begin : goal.returns-then-s-begin
returns-then-s-begin c = search part_outside

pub returns-then-s-end : goal.returns-then-s-end
returns-then-s-end c = search part_past

pub returns : goal.returns
unfolding part
returns c = search rules
