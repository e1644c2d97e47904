use Rattle.program_marks.specs.Marks.{expression_wholes, instruction_wholes, instruction_codes, code_names, homes}
use Rattle.program_tests.proofs.Laws.{marks_tell}
use Rattle.program_tests.proofs.parts_ok.Goals as goal

pub returns : goal.returns
unfolding expression_wholes instruction_wholes instruction_codes code_names homes
returns c =
    let m = c.fill.ensures in
    let h = rw (m.expression_wholes, m.instruction_wholes, m.instruction_codes) at m.homes in
    marks_tell _ _ _ _ _ _ _ m.expression_wholes m.instruction_wholes m.instruction_codes m.code_names h c.marks_ok.ensures
