-- Document 01, "The endless machine", one step on a jump, over program words p, literal bytes l and heap words h: its end is that of `bounded`'s check, and
-- what it does is the bounded machine's commit. Assumes nothing.
use Rattle.std.specs.Prelude.{ℕ, ◌≡◌, List}
use Rattle.trees.specs.Held as trees
use Rattle.heap.specs.Words.{self_held, program_held}
use Rattle.heap.specs.Held.{frames_held}
use Rattle.bounded.specs.Check.{end_of, jump_result}
use Rattle.commit.specs.Commit.{Jumps}

-- the end of a jump by the expressions a and c
unfoldable pub jump_end : List ℕ → List ℕ → ℕ → ℕ → ℕ
jump_end p h a c = end_of (jump_result (self_held h) (program_held h) (frames_held h) (trees.base_held p a) (trees.base_held p c))

pub record JumpsOnce (p l h : List ℕ) (a c r : ℕ) (h' : List ℕ) : Type 0 where
  pub end : r ≡ jump_end p h a c
  pub jumps : Jumps p l h a c h'
  pub kept : (r ≡ 0 → ⊥) → h' ≡ h
