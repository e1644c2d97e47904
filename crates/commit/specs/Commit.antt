-- Document 01, "The endless machine", what an instruction does, over the words: it is the bounded machine's `commit` on the state that the words hold. For an
-- assignment or a show it is what this crate does, for a jump and an `ifeq` what the crate `step_jump` does. Assumes nothing.
use Rattle.std.specs.Prelude.{ℕ, suc, ◌<◌, ◌≡◌, Bool, true, false, List, length}
use Rattle.framed.specs.declared.Value.{Value}
use Rattle.framed.specs.Equality.{constants}
use Rattle.framed.specs.Tree.{Code}
use Rattle.framed.specs.Paths.{Path, from_self, from_program}
use Rattle.framed.specs.Machine.{Result, gives, ends, frame_literals, join_signs, right_side}
use Rattle.tables.specs.declared.InstructionEntry.{InstructionEntry}
use Rattle.tables.specs.Fields.{expressions, instructions, instruction_after}
use Rattle.program_form.specs.WellFormed.{WellFormed}
use Rattle.trees.specs.Held as trees
use Rattle.trees.specs.Held.{remaining}
use Rattle.heap.specs.Words.{self_held, program_held, position, set_self, set_program}
use Rattle.heap.specs.Held.{frames_held}
use Rattle.paths.specs.Paths.{path_held}
use Rattle.puts.specs.Puts.{target_along, put_slot}
use Rattle.frame_form.specs.declared.Limits.{Limits}
use Rattle.bounded.specs.Check.{Target, jump_result}
use Rattle.bounded.specs.Bounded.{Bounded, evaluate, commit_assign, commit_jump, commit, heap_in}
use Rattle.checking.specs.Checking.{AssignsOrShows}
use Rattle.word_store.specs.Store.{Memories, word_store}
use Rattle.word_store.specs.State.{store_held, state_held, with_remaining, HeaderFormed}
use Rattle.producing.specs.Producing.{HasRoom, Writable}

-- ---- Put

-- where a rule applies
unfoldable pub put_at : List ℕ → Result Target → Value → List ℕ
put_at h (gives t) v = put_slot h t.frame t.name v
put_at h (ends e) v = h

unfoldable pub put_along : List ℕ → List ℕ → Value → ℕ → ℕ → Value → List ℕ
put_along p h root j n v = put_at h (target_along (frames_held h) root (path_held p j n)) v

-- self or the program, the words with it, and a path from it
unfoldable pub root_of : Bool → List ℕ → Value
root_of true h = self_held h
root_of false h = program_held h

unfoldable pub set_root : Bool → List ℕ → Value → List ℕ
set_root true h v = set_self h v
set_root false h v = set_program h v

unfoldable pub path_of : Bool → List ℕ → Path
path_of true ns = from_self ns
path_of false ns = from_program ns

-- ---- The state

-- the state that heap words h and text bytes t hold under the program words p
abbrev pub state_of : List ℕ → List ℕ → List ℕ → Bounded Memories
state_of p h t = state_held (remaining p) h t

-- tags of values, and a position that is there, are so afterwards
pub record HeaderStays (p h h' : List ℕ) : Type 0 where
  pub formed : (m : Limits) → m.instructions ≡ instructions p → HeaderFormed h m → HeaderFormed h' m

-- after an assignment, but for the position
pub record Assigns (p l h t : List ℕ) (path : Path) (x : ℕ) (h' t' : List ℕ) : Type 0 where
  pub state : (rest : Code Path) (m : ℕ) →
      with_remaining rest m (state_of p h' t')
      ≡ commit_assign word_store (state_of p h t) rest m path
      (evaluate word_store (constants (trees.program_held p l)) (position h) (self_held h) (program_held h) (trees.expression_held p x) (store_held h t))
  pub header : HeaderStays p h h'
  pub size : length h' ≡ 16384
  pub text_size : length t' ≡ 16384

-- ---- Jumps, which the crate `step_jump` makes

pub record CanJump (p l h : List ℕ) (a c : ℕ) : Type 0 where
  pub program : WellFormed p l
  pub size : length h ≡ 16384
  pub first : a < expressions p
  pub second : c < expressions p

pub record Jumps (p l h : List ℕ) (a c : ℕ) (h' : List ℕ) : Type 0 where
  pub state : (t : List ℕ) →
      state_of p h' t
      ≡ commit_jump word_store (trees.program_held p l) (state_of p h t)
      (jump_result (self_held h) (program_held h) (heap_in word_store (store_held h t)).frames (trees.base_held p a) (trees.base_held p c))
  pub header : HeaderStays p h h'
  pub size : length h' ≡ 16384

-- ---- Instructions

-- `:=` from self or from the program, along the n path names from j on, of expression x
unfoldable pub assignment : Bool → ℕ → ℕ → ℕ → InstructionEntry
assignment true j n x = InstructionEntry.AssignSelf j n x
assignment false j n x = InstructionEntry.AssignProgram j n x

-- instruction i is there, is the next, and assigns or shows, and there is room for what it makes
pub record CanCommit (p l h t : List ℕ) (i : ℕ) : Type 0 where
  pub writable : Writable p l h t
  pub there : i < instructions p
  pub next : position h ≡ suc i
  pub form : AssignsOrShows p i
  pub room : HasRoom h (frame_literals (right_side (trees.instruction_held p i))) (join_signs (right_side (trees.instruction_held p i)))

pub record Commits (p l h t : List ℕ) (i : ℕ) (h' t' : List ℕ) : Type 0 where
  pub state : state_of p h' t' ≡ commit word_store (trees.program_held p l) (state_of p h t) (remaining p (instruction_after p i)) (trees.instruction_held p i)
  pub header : HeaderStays p h h'
  pub size : length h' ≡ 16384
  pub text_size : length t' ≡ 16384
