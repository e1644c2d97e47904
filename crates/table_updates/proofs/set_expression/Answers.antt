use Rattle.table_updates.specs.Updates.{set_expression}
use Rattle.table_updates.proofs.set_expression.Goals as goal

pub returns : goal.returns
unfolding set_expression
returns c =
    rw (
      c.set_word-3.ensures,
      c.wide-3.ensures,
      c.set_word-2.ensures,
      c.wide-2.ensures,
      c.set_word.ensures,
      c.wide.ensures,
      c.expression_words.ensures,
    )
