-- Demand 3: collection is invisible, for every list of runs and collects after an accepted load. Assumes nothing.
use mathlib.Core.Path.{◌≡◌, ap, sym, subst}
use mathlib.Core.List.{List}
use mathlib.Core.Option.{some}
use Prim.Native.Nat.{ℕ}
use Rattle.framed.specs.Meaning.{refusal}
use Rattle.framed.specs.Program.{Program, program}
use Rattle.framed.specs.Demands.{Memories, lengths, Loading, Demand3}
use Rattle.load.specs.Load.{load_call}
use Rattle.load.proofs.Laws.{call_loads, holds_start}
use Rattle.lent_machine.specs.Machine.{Started}
use Rattle.lent_machine.proofs.Calls.{started_calls}
use Rattle.demands.specs.Machine.{other_calls, machine}

-- the memories as an accepted load leaves them
started : (m : Memories) (source : List ℕ) (F T : ℕ) (p : Program) → refusal (lengths m) source F T ≡ 0 → program source ≡ some p → Started p F T (load_call m source F T).memories
started m source F T p z e =
    let h = holds_start m source F T p z e in
    subst (Started p F T) (sym (ap (λ (r : Loading). r.memories) (call_loads m source F T p z e)))
    (record { well_formed = h.well_formed; program_is = h.program_is; F_is = h.F_is; T_is = h.T_is; unmarked = h.unmarked; alike = h.at_start })

pub demand_3 : Demand3 machine
demand_3 = record { alike = λ m source F T p cs z e. started_calls other_calls p F T (load_call m source F T).memories (started m source F T p z e) cs }
