-- The machine over lent memories of crate `framed`'s demands, with this layout and the very definitions that the contracts of run and collect cite. The other calls
-- are given to it, so that what concerns run and collect is proved without them. Assumes nothing.
use Rattle.std.specs.Prelude.{ℕ, ◌≡◌, List}
use Rattle.framed.specs.declared.LookAnswer.{LookAnswer}
use Rattle.framed.specs.Machine.{start}
use Rattle.framed.specs.Program.{Program}
use Rattle.framed.specs.Alike.{Alike}
use Rattle.framed.specs.Demands.{Memories, Loading, Running, Collecting, Writing, Counting, LentMachine}
use Rattle.tables.specs.Fields.{frame_limit, text_limit}
use Rattle.trees.specs.Held.{program_held}
use Rattle.heap.specs.Words.{end_mark}
use Rattle.heap.specs.Held.{frames_in_use, texts_in_use}
use Rattle.wellformed.specs.WellFormed.{WellFormed}
use Rattle.wellformed.specs.Held.{state_held}
use Rattle.collect.specs.Collect as collect
use Rattle.run.specs.Run as run

-- the memories with other heap words and text bytes: what run and collect may write
abbrev pub with_state : Memories → List ℕ → List ℕ → Memories
with_state m h t = record { program = m.program; heap = h; literal = m.literal; text = t }

abbrev pub Formed : Memories → Type 0
Formed m = WellFormed m.program m.heap m.literal m.text

unfoldable pub run_lent : Memories → ℕ → List ℕ → Running
run_lent m fuel out =
    let r = run.run_call m.program m.heap m.literal m.text fuel out in
    record { answer = r.answer; buffer = r.output; memories = with_state m r.heap r.text }

unfoldable pub collect_lent : Memories → Collecting
collect_lent m =
    let r = collect.collect_call m.program m.heap m.literal m.text in
    record { answer = r.answer; memories = with_state m r.heap m.text }

-- the calls that are given to it
pub record OtherCalls : Type 0 where
  pub load : Memories → List ℕ → ℕ → ℕ → Loading
  pub look : Memories → List ℕ → LookAnswer
  pub look_text : Memories → List ℕ → List ℕ
  pub write : Memories → List ℕ → Writing
  pub makers : Memories → List ℕ → Counting

abbrev pub machine_with : OtherCalls → LentMachine
machine_with others =
    record {
      WellFormed = Formed;
      load = others.load;
      run = run_lent;
      collect = collect_lent;
      look = others.look;
      look_text = others.look_text;
      write = others.write;
      makers = others.makers;
      program_in = λ m. program_held m.program m.literal;
      F_in = λ m. frame_limit m.program;
      T_in = λ m. text_limit m.program;
      state_in = λ m. state_held m.program m.heap m.text;
      frames_in_use = λ m. frames_in_use m.heap;
      texts_in_use = λ m. texts_in_use m.heap;
    }

-- memories as a load of the program q with the limits F and T leaves them
pub record Started (q : Program) (F T : ℕ) (m : Memories) : Type 0 where
  pub well_formed : Formed m
  pub program_is : program_held m.program m.literal ≡ q
  pub F_is : frame_limit m.program ≡ F
  pub T_is : text_limit m.program ≡ T
  pub unmarked : end_mark m.heap ≡ 0
  pub alike : Alike (start q) (state_held m.program m.heap m.text)
