-- An instruction that assigns a join, from words with room: in one go; it has no line. Assumes nothing.
use Prim.Native.Nat.{ℕ}
use mathlib.Core.Path.{◌≡◌}
use mathlib.Core.Bool.{true}
use mathlib.Core.List.{List}
use Rattle.std.specs.Prelude.{Result, Ok, Err}
use Rattle.framed.specs.declared.End.{End}
use Rattle.framed.specs.Answers.{end_number, end_met as met}
use Rattle.paths.proofs.Exits.{some_met, none_met}
use Rattle.step_parts.proofs.Numbers.{number_met, number_positive}
use Rattle.heap.specs.Words.{set_end_mark}
use Rattle.allocation.specs.declared.Known.{Known}
use Rattle.allocation.specs.Known.{Knows}
use Rattle.commit.specs.Words.{WordsFit}
use Rattle.step_join.specs.Join.{joins_entry, CanAssignJoin, JoinsOnce}
use Rattle.step_join.proofs.Laws.{join_form, join_no_show}
use Rattle.step_parts.specs.declared.Outcome.{Outcome}
use Rattle.step_parts.specs.Step.{RoomFor, CanStep, AttemptsQuietly}
use Rattle.step_parts.proofs.Room.{room_checks, room_commits, ended_quietly, ended_then_knows, made_quietly, made_then_knows}

module _ (p l h t : List ℕ) (i : ℕ) (can : CanStep p l h t i) (k : Known) (w : RoomFor p h i k) (is : joins_entry p i ≡ true) where
  pub can_assign : CanAssignJoin p l h t i
  can_assign = record { checks = room_checks p l h t i can k w (join_form p i is); commits = room_commits p l h t i can k w (join_form p i is); joins = is }

  module _ {A : Type 0} (r : Result A End) (h₂ t₂ : List ℕ) (j : JoinsOnce p l h t i (met r) h₂ t₂) where
    module _ (e : End) (ended : r ≡ Err e) (n : ℕ) (en : n ≡ end_number e) (h' : List ℕ) (eh : h' ≡ set_end_mark h₂ n) where
      kept : (h₂ ≡ h) × (t₂ ≡ t)
      kept = j.kept (some_met r e ended)

      marked : h' ≡ set_end_mark h n
      marked = rw kept.0 at eh

      pub join_ended : WordsFit h' → AttemptsQuietly p l h t i (Outcome.Ended n) h' t₂
      join_ended fit = rw kept.1 (ended_quietly p l h t i can k w n (number_met r e n _ ended en j.end) (number_positive n e en) h' marked fit)

      pub join_ended_knows : Knows h' 0 0 k
      join_ended_knows = ended_then_knows p l h t i can k w n (number_met r e n _ ended en j.end) (number_positive n e en) h' marked

    module _ (u : A) (done : r ≡ Ok u) where
      pub join_made : WordsFit h₂ → AttemptsQuietly p l h t i (Outcome.Made 0) h₂ t₂
      join_made = made_quietly p l h t i can k w (met r) j.end (none_met r u done) h₂ t₂ (j.made (none_met r u done)) (join_no_show p l h t i can_assign)

      pub join_made_knows : Knows h₂ 0 0 k
      join_made_knows = made_then_knows p l h t i can k w (met r) j.end (none_met r u done) h₂ t₂ (j.made (none_met r u done))
