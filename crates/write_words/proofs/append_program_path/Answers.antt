use Rattle.write_words.proofs.Paths.{path_fits, path_part, shared_within, shared_held, program_appended}
use Rattle.write_words.proofs.Laws.{can_append}
use native.Mathlib.Omega.{arith}
use Rattle.write_words.proofs.append_program_path.Goals as goal

pub overflow_sub-further : goal.overflow_sub-further
overflow_sub-further c = search shared_held

pub overflow_add-from : goal.overflow_add-from
overflow_add-from c = search (path_fits, shared_within)

pub overflow_sub-rest : goal.overflow_sub-rest
overflow_sub-rest c = search shared_within

pub append_climbs-b-requires : goal.append_climbs-b-requires
append_climbs-b-requires c = search can_append

pub append_names-requires : goal.append_names-requires
append_names-requires c =
    let within = shared_within _ _ _ _ _ c.common_prefix-c.ensures in
    (path_part c.requires.0 (omega (arith, within)), can_append (can_append c.requires.1 c.append-a.ensures) c.append_climbs-b.ensures)

pub returns : goal.returns
returns c = search program_appended
