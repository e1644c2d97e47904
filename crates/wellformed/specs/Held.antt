-- What well-formed memories hold, as the state of document 01's machine (crate `framed`): program words p, heap words h, text bytes t. The program is `program-held`
-- of crate `trees`. Assumes nothing.
use Rattle.std.specs.Prelude.{List, ℕ}
use Rattle.framed.specs.Machine.{State}
use Rattle.heap.specs.Words.{self_held, program_held, position, end_mark}
use Rattle.heap.specs.Held.{heap_held}
use Rattle.trees.specs.Held.{remaining}

unfoldable pub state_held : List ℕ → List ℕ → List ℕ → State
state_held p h t =
    record {
      remaining = remaining p (position h);
      next = position h;
      self = self_held h;
      program = program_held h;
      heap = heap_held h t;
      end_mark = end_mark h;
    }
