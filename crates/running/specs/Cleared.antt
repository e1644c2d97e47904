-- docs/LAYOUT.md, "Heap words" as a store of the bounded machine: the words of the header stay cleared in it through a step. Assumes nothing.
use Rattle.std.specs.Prelude.{◌≡◌, List, ℕ, length}
use Rattle.framed.specs.Tree.{Instruction, Code}
use Rattle.framed.specs.Paths.{Path}
use Rattle.framed.specs.Program.{Program}
use Rattle.bounded.specs.Bounded.{Bounded, ready, commit}
use Rattle.word_store.specs.Store.{Memories, clear_header, word_store}
use Rattle.word_store.specs.State.{store_held}

unfoldable pub Cleared : Memories → Type 0
Cleared s = clear_header s.heap ≡ s.heap

pub record ClearedThrough : Type 0 where
  pub held : (h t : List ℕ) → length h ≡ 16384 → Cleared (store_held h t)
  pub readied : (F T : ℕ) (b : Bounded Memories) (i : Instruction Path) → length (ready word_store F T b i).store.heap ≡ 16384 → Cleared b.store →
      Cleared (ready word_store F T b i).store
  pub committed : (q : Program) (b : Bounded Memories) (rest : Code Path) (i : Instruction Path) → Cleared b.store → Cleared (commit word_store q b rest i).store
