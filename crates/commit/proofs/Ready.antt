-- Where reserve has met no end, what commit asks for is there. Assumes nothing.
use Prim.Native.Nat.{ℕ, suc, ◌+◌, ◌≤◌, ◌<◌}
use mathlib.Core.Path.{◌≡◌}
use mathlib.Core.List.{List}
use native.Mathlib.Omega.{arith}
use native.Mathlib.Decide.{dec_le}
use lib.ListN.{length}
use borrow.Author.Tests.{lt-ltb, le-ltb}
use Rattle.framed.specs.Machine.{frame_literals, join_signs, right_side}
use Rattle.tables.specs.Fields.{frame_limit, text_limit, instructions}
use Rattle.program_form.specs.WellFormed.{WellFormed}
use Rattle.trees.specs.Held as trees
use Rattle.heap.specs.Words.{position}
use Rattle.heap.specs.Held.{frames_in_use, texts_in_use}
use Rattle.heap.specs.Closed.{Sized}
use Rattle.checking.specs.Checking.{AssignsOrShows}
use Rattle.reserving.specs.Reserving.{room_end_held, Reserves}
use Rattle.producing.specs.Producing.{HasRoom}
use Rattle.commit.specs.Commit.{CanCommit}

module _ (p l h : List ℕ) (f n : ℕ) (h' : List ℕ) (w : WellFormed p l) (k : Reserves p h f n 0 h') where
  pub reserved_room : HasRoom h' f n
  unfolding room_end_held
  reserved_room = go (dec_le (length (frames_in_use h') + f) (frame_limit p)) (dec_le (length (texts_in_use h') + n) (text_limit p))
    where
      go : Dec (length (frames_in_use h') + f ≤ frame_limit p) → Dec (length (texts_in_use h') + n ≤ text_limit p) → HasRoom h' f n
      go (yes a) (yes b) = record { frames = let q = w.entries.limits.F_most in omega arith; texts = let q = w.entries.limits.T_most in omega arith }
      go (no a) b = absurd (let z : ◌≡◌ {A = ℕ} 0 36 = rw (lt-ltb (frame_limit p) (length (frames_in_use h') + f) (omega arith)) at k.end in omega arith)
      go (yes a) (no b) = absurd (let z : ◌≡◌ {A = ℕ} 0 37 = rw (le-ltb (frame_limit p) (length (frames_in_use h') + f) a, lt-ltb (text_limit p) (length (texts_in_use h') + n) (omega arith)) at k.end in omega arith)

pub can_commit : (p l h h' t : List ℕ) (i : ℕ) → WellFormed p l → Sized h' → length t ≡ 16384 → i < instructions p → position h' ≡ suc i → AssignsOrShows p i →
    Reserves p h (frame_literals (right_side (trees.instruction_held p i))) (join_signs (right_side (trees.instruction_held p i))) 0 h' → CanCommit p l h' t i
can_commit p l h h' t i w s size lt next f k = record {
  writable = record { program = w; sized = s; text_size = size };
  there = lt;
  next = next;
  form = f;
  room = reserved_room p l h _ _ h' w k;
}
