use Rattle.frame_form.proofs.Laws.{value_integer, value_frame, value_code, value_literal, value_text}
use Rattle.frame_form.proofs.value_formed.Goals as goal

pub returns-then-tag-eq0 : goal.returns-then-tag-eq0
returns-then-tag-eq0 c = search value_integer

pub returns-then-tag-eq4 : goal.returns-then-tag-eq4
returns-then-tag-eq4 c = search value_frame

pub returns-then-tag-eq3 : goal.returns-then-tag-eq3
returns-then-tag-eq3 c = search value_code

pub returns-then-tag-eq1 : goal.returns-then-tag-eq1
returns-then-tag-eq1 c = search value_literal

pub returns : goal.returns
returns c = search value_text
