-- What join_end means: the end of `bounded`'s `operated`. Assumes nothing.
use Prim.Native.Nat.{ℕ, ◌+◌, ◌≤◌, ◌<◌}
use mathlib.Core.Path.{◌≡◌}
use mathlib.Core.List.{List}
use native.Mathlib.Omega.{arith}
use native.Mathlib.Decide.{dec_lt, dec_le}
use lib.ListN.{length}
use borrow.Author.Tests.{lt-ltb, le-ltb, le-leb, lt-leb}
use Rattle.framed.specs.declared.Value.{Value}
use Rattle.framed.specs.Tokens.{Operator}
use Rattle.framed.specs.Values.{join_bytes}
use Rattle.framed.specs.Equality.{Constants}
use Rattle.bounded.specs.Operations.{measured, operated}
use Rattle.heap.specs.Held.{texts_held}
use Rattle.texts.specs.Literals.{literals_held}
use Rattle.shown.specs.Shown.{shown_size}
use Rattle.joining.specs.Joining.{join_end, join_result}
use Rattle.joining.proofs.Laws.{join_length}

module _ (p l h t : List ℕ) (v w : Value) where
  abbrev bytes : List ℕ
  bytes = join_bytes (literals_held p l) (texts_held h t) v w

  abbrev size : ℕ
  size = shown_size p h v + shown_size p h w

  -- `#` by the words, whatever the codes are
  pub join_means : (c : Constants) → c.literals ≡ literals_held p l → operated c (texts_held h t) Operator.join v w ≡ join_result (join_end p h v w) bytes
  unfolding operated measured join_end join_result
  join_means c e = rw e (go (dec_lt 64 size))
    where
      go : Dec (64 < size) → measured bytes ≡ join_result (join_end p h v w) bytes
      go (yes lt) = let e = join_length p l h t v w in rw (lt-ltb 64 size lt, lt-leb (length bytes) 64 (omega arith))
      go (no n) = let e = join_length p l h t v w in rw (le-ltb 64 size (omega arith), le-leb (length bytes) 64 (omega arith))

  -- where `#` has no end, the joined bytes are at most 64
  pub join_fits : join_end p h v w ≡ 0 → size ≤ 64
  unfolding join_end
  join_fits none = go (dec_le size 64)
    where
      go : Dec (size ≤ 64) → size ≤ 64
      go (yes le) = le
      go (no n) = absurd (let z : ◌≡◌ {A = ℕ} 34 0 = rw (lt-ltb 64 size (omega arith)) at none in omega arith)
