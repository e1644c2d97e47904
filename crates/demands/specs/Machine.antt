-- The machine that the demands are proved of: the public calls, each as the very definition that its contract cites, over this layout. The demands are
-- `framed`'s: crate framed, specs/Demands. Assumes nothing.
use Rattle.std.specs.Prelude.{ℕ, List}
use Rattle.framed.specs.declared.LookAnswer.{LookAnswer}
use Rattle.framed.specs.Demands.{Memories, Writing, Counting, LentMachine}
use Rattle.load.specs.Load.{load_call}
use Rattle.look.specs.Look.{look_call, look_bytes}
use Rattle.write.specs.Write.{write_call}
use Rattle.makers.specs.Makers.{makers_call}
use Rattle.lent_machine.specs.Machine.{OtherCalls, machine_with}

unfoldable pub look_lent : Memories → List ℕ → LookAnswer
look_lent m path = look_call m.program m.heap m.literal m.text path

-- the bytes of the part that the companion returns
unfoldable pub look_text_lent : Memories → List ℕ → List ℕ
look_text_lent m path = look_bytes m.program m.heap m.literal m.text path

unfoldable pub write_lent : Memories → List ℕ → Writing
write_lent m buffer = write_call m.program m.heap m.literal m.text buffer

unfoldable pub makers_lent : Memories → List ℕ → Counting
makers_lent m counts = makers_call m.program m.heap m.literal m.text counts

-- besides run and collect
abbrev pub other_calls : OtherCalls
other_calls = record { load = load_call; look = look_lent; look_text = look_text_lent; write = write_lent; makers = makers_lent }

abbrev pub machine : LentMachine
machine = machine_with other_calls
