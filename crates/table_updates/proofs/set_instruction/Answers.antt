use Rattle.table_updates.specs.Updates.{set_instruction}
use Rattle.table_updates.proofs.set_instruction.Goals as goal

pub returns : goal.returns
unfolding set_instruction
returns c =
    rw (
      c.set_word-4.ensures,
      c.wide-4.ensures,
      c.set_word-3.ensures,
      c.wide-3.ensures,
      c.set_word-2.ensures,
      c.wide-2.ensures,
      c.set_word.ensures,
      c.wide.ensures,
      c.instruction_words.ensures,
    )
