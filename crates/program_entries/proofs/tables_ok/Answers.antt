use Rattle.program_entries.specs.Tests.{tables_ok}
use Rattle.program_entries.proofs.tables_ok.Goals as goal

pub returns : goal.returns
unfolding tables_ok
returns c =
    rw (
      c.slots_ok.ensures,
      c.program_slots.ensures,
      c.codes_ok.ensures,
      c.instructions_ok.ensures,
      c.expressions_ok.ensures,
      c.texts_ok.ensures,
    )
