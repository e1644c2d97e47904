-- Document 01, "The calls", run: memories that follow the bounded machine's run, and what that means for them. Assumes nothing.
use Rattle.std.specs.Prelude.{◌≡◌, List, ℕ, length}
use Rattle.framed.specs.Answers.{Stopped}
use Rattle.framed.specs.Calls.{Unbounded, run}
use Rattle.framed.specs.Alike.{Alike}
use Rattle.tables.specs.Fields.{frame_limit, text_limit}
use Rattle.trees.specs.Held.{program_held, remaining}
use Rattle.wellformed.specs.WellFormed.{WellFormed, limits}
use Rattle.wellformed.specs.Held as memories
use Rattle.bounded.specs.Store.{Laws}
use Rattle.bounded.specs.Bounded.{Bounded, Ran}
use Rattle.bounded.specs.Bounded as bounded
use Rattle.bounded.specs.Relation as relation
use Rattle.bounded.specs.Theorems.{Admitted}
use Rattle.word_store.specs.Store.{Memories, word_store}
use Rattle.word_store.specs.State.{state_held, HeaderFormed}

-- the bounded machine's state that heap words h and text bytes t hold under the program words p, and its run
abbrev pub bounded_held : List ℕ → List ℕ → List ℕ → Bounded Memories
bounded_held p h t = state_held (remaining p) h t

unfoldable pub bounded_run : List ℕ → List ℕ → (fuel space : ℕ) → Bounded Memories → Ran word_store
bounded_run p l fuel space b = bounded.run word_store (program_held p l) (frame_limit p) (text_limit p) fuel space b

-- ---- Well-formed memories, and the state that they hold

-- the store of the words meets the bounded machine's laws, and a state is well-formed exactly where its memories are
pub record BoundedForm (p l : List ℕ) : Type 1 where
  pub laws : Laws word_store (program_held p l)
  pub sized : (s : Memories) → laws.WellFormed s → length s.heap ≡ 16384
  pub admitted : Admitted word_store (program_held p l) laws (frame_limit p) (text_limit p)
  pub forth : (h t : List ℕ) → WellFormed p h l t → relation.WellFormed word_store (program_held p l) laws (frame_limit p) (text_limit p) (bounded_held p h t)
  pub header : (h t : List ℕ) → WellFormed p h l t → HeaderFormed h (limits p)
  pub back : (h t : List ℕ) → relation.WellFormed word_store (program_held p l) laws (frame_limit p) (text_limit p) (bounded_held p h t) → HeaderFormed h (limits p) →
      WellFormed p h l t

-- both names of the state held
abbrev pub SameState : Type 0
SameState = (p h t : List ℕ) → bounded.state_of word_store (bounded_held p h t) ≡ memories.state_held p h t

-- ---- Memories that follow a run

pub record Follows (p h l t : List ℕ) (fuel space : ℕ) (why : Stopped) (steps : ℕ) (bytes h' t' : List ℕ) : Type 0 where
  pub stop : why ≡ (bounded_run p l fuel space (bounded_held p h t)).stop
  pub steps_made : steps ≡ (bounded_run p l fuel space (bounded_held p h t)).steps
  pub shown : bytes ≡ (bounded_run p l fuel space (bounded_held p h t)).bytes
  pub state : bounded_held p h' t' ≡ (bounded_run p l fuel space (bounded_held p h t)).state
  pub header : HeaderFormed h' (limits p)

-- from every unbounded machine that is alike to what the memories hold: the same stop, steps and bytes, and alike states
pub record Alongside (p l : List ℕ) (fuel space : ℕ) (u : Unbounded) (why : Stopped) (steps : ℕ) (bytes h' t' : List ℕ) : Type 0 where
  pub stop : why ≡ (run (program_held p l) (frame_limit p) (text_limit p) fuel space u).stop
  pub steps_made : steps ≡ (run (program_held p l) (frame_limit p) (text_limit p) fuel space u).steps
  pub shown : bytes ≡ (run (program_held p l) (frame_limit p) (text_limit p) fuel space u).bytes
  pub states : Alike (run (program_held p l) (frame_limit p) (text_limit p) fuel space u).machine.state (memories.state_held p h' t')

abbrev pub FollowsLeaves : Type 0
FollowsLeaves = (p h l t : List ℕ) (fuel space : ℕ) (why : Stopped) (steps : ℕ) (bytes h' t' : List ℕ) →
    WellFormed p h l t → Follows p h l t fuel space why steps bytes h' t' → WellFormed p h' l t'

abbrev pub FollowsAlongside : Type 0
FollowsAlongside = (p h l t : List ℕ) (fuel space : ℕ) (why : Stopped) (steps : ℕ) (bytes h' t' : List ℕ) →
    WellFormed p h l t → Follows p h l t fuel space why steps bytes h' t' →
    (u : Unbounded) → Alike u.state (memories.state_held p h t) → Alongside p l fuel space u why steps bytes h' t'
