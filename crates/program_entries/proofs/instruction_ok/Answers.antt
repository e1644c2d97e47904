use Rattle.program_entries.specs.Tests.{instruction_ok}
use Rattle.program_entries.proofs.instruction_ok.Goals as goal

pub returns : goal.returns
unfolding instruction_ok
returns c =
    rw (
      c.link_ok.ensures,
      c.instruction_link.ensures,
      c.instructions.ensures,
      c.instruction_entry_ok.ensures,
      c.instruction_at.ensures,
    )
