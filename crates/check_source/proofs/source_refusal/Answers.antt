use borrow.Author.Tests.{not-true, not-false}
use Rattle.check_source.proofs.Laws.{refused_early, refused_six, means_all}
use Rattle.check_source.proofs.source_refusal.Goals as goal

pub returns-in_err-v-clause-number : goal.returns-in_err-v-clause-number
returns-in_err-v-clause-number c = refused_early _ _ _ _ _ _ _ c.survey-v.ensures _ c.in_err-v.was _ c.from_residual.ensures.1

pub returns-then-not-one_frame-clause-number : goal.returns-then-not-one_frame-clause-number
returns-then-not-one_frame-clause-number c = refused_six _ _ _ _ _ _ _ c.survey-v.ensures _ c.in_ok-v.was _ c.one_frame.ensures (search not-true)

pub returns-clause-number : goal.returns-clause-number
returns-clause-number c = means_all _ _ _ _ _ _ _ c.survey-v.ensures _ c.in_ok-v.was _ c.one_frame.ensures (search not-false) _ c.meaning_refusal.ensures
