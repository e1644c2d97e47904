-- An instruction that is done in one go: reserve changes nothing, and it has no line. Assumes nothing.
use Prim.Native.Nat.{ℕ}
use mathlib.Core.Path.{◌≡◌, refl}
use mathlib.Core.List.{List}
use Rattle.std.specs.Prelude.{Result, Ok, Err}
use Rattle.framed.specs.declared.End.{End}
use Rattle.framed.specs.Answers.{end_number}
use Rattle.heap.specs.Words.{set_end_mark}
use Rattle.allocation.specs.declared.Known.{Known}
use Rattle.allocation.specs.Known.{Knows}
use Rattle.wellformed.specs.WellFormed.{Formed}
use Rattle.commit.specs.declared.Done.{Done}
use Rattle.commit.specs.Direct.{CanDo, MakesNothing, MakesOrShows, IsMade, IsEnded, Does}
use Rattle.commit.specs.Words.{WordsFit}
use Rattle.step_parts.specs.declared.Outcome.{Outcome}
use Rattle.step_parts.specs.Step.{RoomFor, CanStep, CanAttempt, Attempts}
use Rattle.step_parts.proofs.Reserve.{nothing_reserved}
use Rattle.step_parts.proofs.Ends.{can_reserve}
use Rattle.step_parts.proofs.Room.{ended_quietly, ended_then_knows, made_quietly, made_then_knows}

module _ (p l h t : List ℕ) (i : ℕ) (can : CanStep p l h t i) where
  pub can_do : CanDo p l h t i
  unfolding Formed
  can_do = record { memories = can.memories; there = can.there; next = can.next }

  -- nothing is counted in
  room_for_nothing : MakesNothing p i → (k : Known) → Knows h 0 0 k → RoomFor p h i k
  room_for_nothing n k a = record {
    room = rw (n.frames, n.texts) (nothing_reserved p h (can_reserve p l h t i can).frames_few (can_reserve p l h t i can).texts_few).end;
    knows = rw (n.frames, n.texts) a;
  }

module _ (p l h t : List ℕ) (i : ℕ) (out : List ℕ) (used : ℕ) (can : CanAttempt p l h t i out used) (known : Known) (a : Knows h 0 0 known) (r : Result Done End) (h₁ : List ℕ)
    (k : Does p l h t i r h₁) where
  module _ (is : r ≡ Ok Done.Made) where
    made : IsMade p l h t i h₁
    made = k.made is

    made_room : RoomFor p h i known
    made_room = room_for_nothing p l h t i can.step made.nothing known a

    pub direct_made : WordsFit h₁ → Attempts p l h t i out used (Outcome.Made 0) h₁ t out
    direct_made fit = (made_quietly p l h t i can.step known made_room 0 made.end refl h₁ t made.commits made.no_show fit).with_output out used can.inside

    pub made_knows_still : Knows h₁ 0 0 known
    made_knows_still = made_then_knows p l h t i can.step known made_room 0 made.end refl h₁ t made.commits

  module _ (e : End) (is : r ≡ Err e) (n : ℕ) (en : n ≡ end_number e) (h' : List ℕ) (eh : h' ≡ set_end_mark h₁ n) where
    ended : IsEnded p l h t i n h₁
    ended = rw en (k.ended e is)

    ended_room : RoomFor p h i known
    ended_room = room_for_nothing p l h t i can.step ended.nothing known a

    marked : h' ≡ set_end_mark h n
    marked = rw ended.words at eh

    pub direct_ended : WordsFit h' → Attempts p l h t i out used (Outcome.Ended n) h' t out
    direct_ended fit = (ended_quietly p l h t i can.step known ended_room n ended.end ended.some h' marked fit).with_output out used can.inside

    pub ended_knows_still : Knows h' 0 0 known
    ended_knows_still = ended_then_knows p l h t i can.step known ended_room n ended.end ended.some h' marked

  -- else it makes something or shows, and all is as it was
  module _ (is : r ≡ Ok Done.Left) where
    as_it_was : h₁ ≡ h
    as_it_was = (k.left is).words

    pub left_can : CanAttempt p l h₁ t i out used
    left_can = rw as_it_was can

    pub left_why : MakesOrShows p i
    left_why = (k.left is).why

    pub left_knows : Knows h₁ 0 0 known
    left_knows = rw as_it_was a

    pub left_attempts : (o : Outcome) (h' t' out' : List ℕ) → Attempts p l h₁ t i out used o h' t' out' → Attempts p l h t i out used o h' t' out'
    left_attempts o h' t' out' q = rw as_it_was at q
