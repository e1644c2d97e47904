use Rattle.tables.specs.Entries.{instruction_at}
use Rattle.tables.proofs.Laws.{instruction_read}
use Rattle.tables.proofs.instruction_at.Goals as goal

pub returns-then-k-p : goal.returns-then-k-p
returns-then-k-p c = search instruction_read

pub returns : goal.returns
unfolding instruction_at
returns c =
    rw (
      c.instruction_of-2.ensures,
      c.instruction_c.ensures,
      c.instruction_b.ensures,
      c.instruction_a.ensures,
      c.instruction_kind.ensures,
    )
