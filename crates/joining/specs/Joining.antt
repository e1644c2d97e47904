-- Document 01, "The endless machine", `#`, with document 02's A3: what the code computes of it from the words; proofs/Meaning ties it to `bounded`'s `operated`. Assumes nothing.
use Rattle.std.specs.Prelude.{ℕ, zero, suc, ◌+◌, ◌*◌, List, ltb}
use Rattle.words.specs.Words.{pick}
use Rattle.framed.specs.declared.Value.{Value}
use Rattle.framed.specs.Values.{join_bytes}
use Rattle.framed.specs.Machine.{Result, gives, ends}
use Rattle.bounded.specs.Operations.{Product, text}
use Rattle.heap.specs.Held.{texts_held}
use Rattle.splice.specs.Splice.{splice}
use Rattle.texts.specs.Literals.{literals_held}
use Rattle.shown.specs.Shown.{shown_size}

-- 34 above 64 bytes
unfoldable pub join_end : List ℕ → List ℕ → Value → Value → ℕ
join_end p h v w = pick (ltb 64 (shown_size p h v + shown_size p h w)) 34 0

-- the answer of join_end with the bytes that are joined: 0 says that they are
unfoldable pub join_result : ℕ → List ℕ → Result Product
join_result zero bs = gives (text bs)
join_result (suc e) bs = ends (suc e)

-- the text bytes with the joined bytes at made text k; above 64 bytes they stay as they are
unfoldable pub join_written : List ℕ → List ℕ → List ℕ → List ℕ → ℕ → Value → Value → List ℕ
join_written p l h t k v w =
    pick (ltb 64 (shown_size p h v + shown_size p h w)) t (splice t (64 * k) (join_bytes (literals_held p l) (texts_held h t) v w))
