use Rattle.program_entries.specs.Tests.{slot_ok}
use Rattle.program_entries.proofs.slot_ok.Goals as goal

pub returns : goal.returns
unfolding slot_ok
returns c =
    rw (
      c.other_names.ensures,
      c.follow_slot.ensures,
      c.slot_name-2.ensures,
      c.number-4.ensures,
      c.link_ok.ensures,
      c.slot_link.ensures,
      c.number-3.ensures,
      c.number-2.ensures,
      c.expressions-2.ensures,
      c.names.ensures,
      c.slot_name.ensures,
      c.number.ensures,
      c.expressions.ensures,
    )
