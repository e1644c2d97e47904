use Rattle.tables.specs.Entries.{expression_at}
use Rattle.tables.proofs.Laws.{expression_read}
use Rattle.tables.proofs.expression_at.Goals as goal

pub returns-then-i-p : goal.returns-then-i-p
returns-then-i-p c = search expression_read

pub returns : goal.returns
unfolding expression_at
returns c =
    rw (
      c.expression_of-2.ensures,
      c.expression_b.ensures,
      c.expression_a.ensures,
      c.expression_kind.ensures,
    )
