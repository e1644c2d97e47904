use Rattle.program_names.specs.Tests.{limits_ok}
use Rattle.program_names.proofs.limits_ok.Goals as goal

pub returns : goal.returns
unfolding limits_ok
returns c =
    rw (
      c.codes-2.ensures,
      c.start.ensures,
      c.path_names.ensures,
      c.codes.ensures,
      c.instructions.ensures,
      c.expressions.ensures,
      c.literals.ensures,
      c.names.ensures,
      c.text_limit.ensures,
      c.frame_limit-2.ensures,
      c.frame_limit.ensures,
    )
