use Rattle.program_marks.specs.Marks.{mark_home}
use Rattle.program_marks.proofs.mark_home.Goals as goal

pub returns : goal.returns
unfolding mark_home
returns c =
    rw (c.set_word.ensures, c.wide.ensures, c.home_of-v.ensures)
