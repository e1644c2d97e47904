-- The test of all four memories decides the paragraph, and well-formed memories are consistent. Assumes nothing.
use Rattle.program_form.specs.WellFormed.{program_well_formed}
use Rattle.program_form.proofs.Decides as program
use Rattle.state_form.specs.Tests.{state_well_formed}
use Rattle.state_form.proofs.Decide.{decides_and}
use Rattle.state_form.proofs.Facts.{state_decides, well_formed_closed}
use Rattle.wellformed.specs.WellFormed.{limits, well_formed, WellFormedDecides, WellFormedConsistent}

pub well_formed_decides : WellFormedDecides
unfolding well_formed
well_formed_decides p h l t =
    let d = program.decides p l in
    let b = decides_and (program_well_formed p l) (state_well_formed h t (limits p)) (record { if_true = d.means; only_if = d.never_refused }) (state_decides h t (limits p)) in
    (λ e. record { program = (b.if_true e).first; state = (b.if_true e).second }, λ w. b.only_if (record { first = w.program; second = w.state }))

pub well_formed_consistent : WellFormedConsistent
well_formed_consistent p h l t w = record { program = program.sound p l w.program; state = well_formed_closed w.state }
