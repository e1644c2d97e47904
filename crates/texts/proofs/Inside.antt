-- Well-formed memories (document 01: whole) are readable: texts of at most 64 bytes, 64 apart. Assumes nothing.
use Prim.Native.Nat.{ℕ, ◌≤◌, ◌<◌}
use mathlib.Core.Path.{◌≡◌}
use mathlib.Core.List.{List}
use native.Mathlib.Omega.{arith}
use lib.ListN.{length}
use Rattle.tables.specs.Fields.{literals, literal_length}
use Rattle.heap.specs.Words.{text_length}
use Rattle.heap.specs.Closed.{Sized}
use Rattle.texts.specs.Texts.{LiteralsInside, TextsInside}

pub literals_inside : (p l : List ℕ) → length l ≡ 8192 → literals p ≤ 128 → ((k : ℕ) → k < literals p → literal_length p k ≤ 64) → LiteralsInside p l
literals_inside p l size few short = record { inside = λ k lt. let s = short k lt in omega arith }

pub texts_inside : (h t : List ℕ) → Sized h → length t ≡ 16384 → TextsInside h t
unfolding text_length
texts_inside h t s size = record { inside = λ k lt. let w = s.texts k lt in omega arith }
