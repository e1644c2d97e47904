-- Demand 1: any input gets an answer, within its fuel; a refused call changes nothing lent. Assumes nothing.
use mathlib.Core.Path.{refl, ◌∙◌, ap, sym}
use Rattle.framed.specs.Answers.{load_number}
use Rattle.framed.specs.Demands.{Demand1}
use Rattle.load.proofs.Theorems.{load_exact, load_whole}
use Rattle.look.proofs.Means.{look_is_fetch, look_text_is_fetch}
use Rattle.write.proofs.Laws.{call_refuses}
use Rattle.write.proofs.Answers.{short_kept, written_within}
use Rattle.makers.proofs.Laws as makers
use Rattle.lent_machine.specs.Machine.{run_lent, collect_lent}
use Rattle.lent_machine.proofs.Runs.{run_formed}
use Rattle.lent_machine.proofs.Collects.{collect_formed}
use Rattle.lent_machine.proofs.First as first
use Rattle.demands.specs.Machine.{look_lent, look_text_lent, write_lent, makers_lent, machine}

pub demand_1 : Demand1 machine
unfolding run_lent collect_lent look_lent look_text_lent write_lent makers_lent
demand_1 = record {
  load_refused = λ m source F T refused.
      (load_exact m source F T).unchanged (λ e. refused (sym (load_exact m source F T).number ∙ ap load_number e));
  run_refused = λ m fuel buffer n. first.run_refused m fuel buffer n;
  collect_refused = λ m n. first.collect_refused m n;
  look_refused = λ m path n.
      ((look_is_fetch m.program m.heap m.literal m.text path).refused n, (look_text_is_fetch m.program m.heap m.literal m.text path).refused n);
  write_refused = λ m buffer n. call_refuses m.program m.heap m.literal m.text buffer n;
  makers_refused = λ m counts n. makers.call_refuses m.program m.heap m.literal m.text counts n;
  write_short = λ m buffer e. short_kept m.program m.heap m.literal m.text buffer e;
  run_answers = λ m fuel buffer w. first.run_answers m fuel buffer w;
  collect_answers = λ m w. first.collect_answers m w;
  run_within = λ m fuel buffer r e. first.run_within m fuel buffer r e;
  run_writes = λ m fuel buffer r e. first.run_writes m fuel buffer r e;
  write_within = λ m buffer n e. written_within m.program m.heap m.literal m.text buffer e;
  run_keeps_shows = λ m fuel buffer e steps count bytes is. first.run_keeps_shows m fuel buffer e steps count bytes is;
  load_leaves = load_whole;
  run_leaves = λ m fuel buffer w. run_formed m fuel buffer w;
  collect_leaves = λ m w. collect_formed m w;
  run_keeps = λ m fuel buffer. (refl, refl);
  collect_keeps = λ m. (refl, refl);
}
