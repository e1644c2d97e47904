-- Document 01, "The calls", run: the stop with an end, and the stop where the fuel is spent. Assumes nothing.
use Rattle.std.specs.Prelude.{ℕ, List, eqb}
use Rattle.words.specs.Words.{pick}
use Rattle.framed.specs.declared.Stop.{Stop}
use Rattle.heap.specs.Words.{position, end_mark}

-- with an end: 0 done, 31 to 37
unfoldable pub stop_of : ℕ → Stop
stop_of e =
    pick (eqb e 0) Stop.Done
    (pick (eqb e 31) Stop.NoRule
    (pick (eqb e 32) Stop.DivisorZero
    (pick (eqb e 33) Stop.IntegerRange
    (pick (eqb e 34) Stop.TextLength
    (pick (eqb e 35) Stop.SlotLimit
    (pick (eqb e 36) Stop.FramesFull Stop.TextsFull))))))

-- where the fuel is spent, over heap words: marked or done comes first
unfoldable pub stop_here : List ℕ → Stop
stop_here h = pick (eqb (end_mark h) 0) (pick (eqb (position h) 0) Stop.Done Stop.Fuel) (stop_of (end_mark h))
