use Rattle.look_part.proofs.Laws.{literal_inside, made_inside, literal_is, made_is}
use Rattle.look_part.proofs.part_bytes.Goals as goal

pub cut-requires : goal.cut-requires
cut-requires c = search literal_inside

pub cut-requires-in-Made : goal.cut-requires-in-Made
cut-requires-in-Made c = search made_inside

pub returns-in-Literal : goal.returns-in-Literal
returns-in-Literal c = search literal_is

pub returns-in-Made : goal.returns-in-Made
returns-in-Made c = search made_is
