use mathlib.Core.Path.{◌≡◌, refl}
use mathlib.Core.Bool.{Bool}
use mathlib.Core.List.{List}
use Prim.Native.Nat.{ℕ}
use lib.Dec.{T, eqb, eqb→eq}
use lib.ListN.{length, get_or}
use Rattle.framed.specs.Common.{Common}
use Rattle.framed.specs.Bytes.{Bytes, class}
use Rattle.source.specs.Classified.{Classified}
use Rattle.source.proofs.Table.{every, at}
use Rattle.source.proofs.classes.Goals as goal

-- the entry x of the byte b is right
right : ℕ → ℕ → Bool
right b x = eqb x (class b)

-- 256 entries that are all right
by_rule : (t : List ℕ) → length t ≡ 256 → T (every right 0 t) → Classified t
unfolding right
by_rule t e r = record { entries = e; rule = λ b lt. eqb→eq (get_or t b 0) (class b) (at right t r b (rw e lt)) }

pub returns : goal.returns
unfolding right Common Bytes
returns c = by_rule _ refl tt
