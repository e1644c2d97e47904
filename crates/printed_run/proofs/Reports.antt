-- The memories that the print begins with, and what a run and a collect report from the start of a program. Assumes nothing.
use Prim.Native.Nat.{ℕ}
use mathlib.Core.Path.{◌≡◌, ◌∙◌, ap, sym, subst}
use mathlib.Core.List.{List}
use lib.ListN.{length, replicate, length-replicate}
use Rattle.framed.specs.declared.RunAnswer.{RunAnswer}
use Rattle.framed.specs.declared.CollectAnswer.{CollectAnswer}
use Rattle.framed.specs.Program.{Program}
use Rattle.framed.specs.Answers.{Report, run_report, collect_report}
use Rattle.framed.specs.Calls.{at_start, Ran, run, frame_total, text_total}
use Rattle.framed.specs.Alike.{Alike}
use Rattle.framed.specs.Framerun.{right_memories}
use Rattle.framed.specs.Demands.{Memories, lengths}
use Rattle.tables.specs.Fields.{frame_limit, text_limit}
use Rattle.trees.specs.Held.{program_held}
use Rattle.wellformed.specs.Held.{state_held}
use Rattle.wellformed.specs.WellFormed.{WellFormed}
use Rattle.load.specs.Load.{memories, HoldsStart}
use Rattle.run.specs.Run.{RunMeans}
use Rattle.collect.specs.Collect.{Collecting, collecting, collect_call}
use Rattle.lent_machine.specs.Machine.{collect_lent}
use Rattle.lent_machine.proofs.Collects.{collect_alongside}

-- new memories, of the right lengths
abbrev pub zeros : Memories
zeros = memories (replicate 16384 0) (replicate 16384 0) (replicate 8192 0) (replicate 16384 0)

pub right : lengths zeros ≡ right_memories
unfolding lengths
right = λ i. record {
  program = length-replicate {A = ℕ} 16384 0 i;
  heap = length-replicate {A = ℕ} 16384 0 i;
  literal = length-replicate {A = ℕ} 8192 0 i;
  text = length-replicate {A = ℕ} 16384 0 i;
}

-- what the unbounded machine does
abbrev pub run_of : Program → Ran
run_of q = run q 256 256 100000 4096 (at_start q)

abbrev pub ran_report : Program → Report
ran_report q = Report.ran (run_of q).stop (run_of q).steps (length (run_of q).bytes) (run_of q).bytes

abbrev pub totals_report : Program → Report
totals_report q = Report.collected (frame_total (run_of q).machine.state) (text_total (run_of q).machine.state)

-- a run from the start: what it reports, and that machine alongside what it leaves
pub record RanFromStart (q : Program) (p l : List ℕ) (a : RunAnswer) (h t shown : List ℕ) : Type 0 where
  pub reported : run_report a shown ≡ ran_report q
  pub formed : WellFormed p h l t
  pub alike : Alike (run_of q).machine.state (state_held p h t)

pub ran_from_start :
    (q : Program) (p h l t : List ℕ) → HoldsStart q 256 256 (memories p h l t) → (a : RunAnswer) (h' t' shown : List ℕ) →
    RunMeans p h l t 100000 (replicate 4096 0) a h' t' shown → RanFromStart q p l a h' t' shown
unfolding at_start
ran_from_start q p h l t start a h' t' shown means =
    let size = length-replicate {A = ℕ} 4096 0 in
    let same : run (program_held p l) (frame_limit p) (text_limit p) 100000 (length {A = ℕ} (replicate 4096 0)) (at_start q) ≡ run_of q =
    λ i. run (start.program_is i) (start.F_is i) (start.T_is i) 100000 (size i) (at_start q) in
    let ran = means.ran start.well_formed in
    record {
      reported = ran.reported (at_start q) start.at_start ∙ ap (λ (z : Ran). Report.ran z.stop z.steps (length z.bytes) z.bytes) same;
      formed = ran.well_formed;
      alike = subst (λ (z : Ran). Alike z.machine.state (state_held p h' t')) same (ran.alike (at_start q) start.at_start);
    }

-- a collect after it
pub collected_after :
    {q : Program} {p l : List ℕ} {a : RunAnswer} {h t shown : List ℕ} → RanFromStart q p l a h t shown → (c : CollectAnswer) (h' : List ℕ) →
    collect_call p h l t ≡ collecting c h' → collect_report c ≡ totals_report q
unfolding collect_lent
collected_after {q} {p} {l} {a} {h} {t} r c h' is =
    ap (λ (z : Collecting). collect_report z.answer) (sym is)
    ∙ collect_alongside (memories p h l t) r.formed (run_of q).machine r.alike
