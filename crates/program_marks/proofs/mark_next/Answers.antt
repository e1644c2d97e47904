use Rattle.program_marks.specs.Marks.{mark_next}
use Rattle.program_marks.proofs.mark_next.Goals as goal

pub returns : goal.returns
unfolding mark_next
returns c =
    rw (
      c.set_word.ensures,
      c.wide-2.ensures,
      c.instruction_after.ensures,
      c.word-v.ensures,
      c.wide.ensures,
    )
