-- Demand 2: the published rules decide. Assumes nothing.
use mathlib.Core.Path.{sym, subst}
use mathlib.Core.Logic.{◌↔◌}
use Rattle.framed.specs.Machine.{after_step}
use Rattle.framed.specs.Alike.{Alike}
use Rattle.framed.specs.Demands.{Demand2}
use Rattle.framed.proofs.StepJudged.{step_judged}
use Rattle.tables.specs.Fields.{frame_limit, text_limit}
use Rattle.wellformed.specs.Held.{state_held}
use Rattle.load.proofs.Theorems.{load_exact, load_decodes, load_starts}
use Rattle.look.proofs.Means.{look_is_fetch, look_text_is_fetch}
use Rattle.write.proofs.Laws.{write_is_text}
use Rattle.makers.proofs.Laws.{makers_is_count, makers_there}
use Rattle.run.proofs.Means.{run_call_means}
use Rattle.lent_machine.specs.Machine.{run_lent, collect_lent}
use Rattle.lent_machine.proofs.Runs.{bounded_of}
use Rattle.lent_machine.proofs.Collects.{collect_alike}
use Rattle.lent_machine.proofs.Calls.{q, left_is}
use Rattle.lent_machine.proofs.Second as second
use Rattle.demands.specs.Machine.{look_lent, look_text_lent, write_lent, makers_lent, other_calls, machine}

-- one equivalence after another
both : {A B C : Type 0} → (A ↔ B) → (B ↔ C) → (A ↔ C)
both x y = (λ a. y.0 (x.0 a), λ c. x.1 (y.1 c))

pub demand_2 : Demand2 machine
unfolding run_lent collect_lent look_lent look_text_lent write_lent makers_lent
demand_2 = record {
  load_answers = λ m source F T. (load_exact m source F T).number;
  loads = λ m source F T. (load_exact m source F T).done;
  loaded = λ m source F T z.
      let d = load_decodes m source F T z in
      (d.program_is, d.F_is, d.T_is, (load_starts m source F T z).alike);
  goes_on = λ m buffer i rest x w ready rule fits.
      let s = state_held m.program m.heap m.text in
      let made = (step_judged.goes_on (q m w) (frame_limit m.program) (text_limit m.program) s i rest ready x).1 rule in
      let y = second.makes_step m w i rest ready buffer x made fits in
      (((bounded_of m 1 buffer w).stop, y.0), subst (Alike (after_step s x)) (sym (left_is other_calls m 1 buffer w)) y.1);
  no_rule = λ m fuel buffer i rest w ready.
      both (second.ends_at_once m w i rest ready fuel 31 buffer)
      (step_judged.no_rule (q m w) (frame_limit m.program) (text_limit m.program) (state_held m.program m.heap m.text) i rest ready);
  first_met = λ m fuel buffer i rest e w ready lt.
      both (second.ends_at_once m w i rest ready fuel e buffer)
      (step_judged.first_met (q m w) (frame_limit m.program) (text_limit m.program) (state_held m.program m.heap m.text) i rest ready e lt);
  runs = λ m fuel buffer u w a.
      let r = (run_call_means m.program m.heap m.literal m.text fuel buffer).ran w in
      (r.reported u a, r.alike u a);
  collects = λ m w. second.collects m w;
  collects_frames = λ m n w. second.collects_frames m w n;
  collects_texts = λ m k w. second.collects_texts m w k;
  collects_alike = λ m w. collect_alike m w;
  looks = λ m path w. (look_is_fetch m.program m.heap m.literal m.text path).looked w;
  looks_text = λ m path w. (look_text_is_fetch m.program m.heap m.literal m.text path).looked w;
  looks_fetch = λ m path x l w e. (look_is_fetch m.program m.heap m.literal m.text path).fetched w x l e;
  looks_text_fetch = λ m path x bs w e. (look_text_is_fetch m.program m.heap m.literal m.text path).fetched w x bs e;
  counts_makers = λ m counts w size. (makers_is_count m.program m.heap m.literal m.text counts).counted w;
  makers_there = λ m n w above. makers_there m.program m.heap m.literal m.text w n above;
  writes = λ m buffer w. (write_is_text m.program m.heap m.literal m.text buffer).written w;
}
