-- What is proved about load. Each type is a theorem's statement; its proof has the same name in proofs/. Assumes nothing.
use Rattle.std.specs.Prelude.{◌≡◌, ◌↔◌, ◌≢◌, List, ℕ, ◌≤◌}
use Rattle.std.proofs.Math.Option.{some}
use Rattle.framed.specs.declared.LoadAnswer.{LoadAnswer}
use Rattle.framed.specs.Answers.{load_number}
use Rattle.framed.specs.Meaning.{refusal}
use Rattle.framed.specs.Refusals.{Holds}
use Rattle.framed.specs.Program.{program}
use Rattle.framed.specs.Machine.{start}
use Rattle.framed.specs.Alike.{Alike}
use Rattle.framed.specs.Demands.{Memories, lengths}
use Rattle.tables.specs.Fields.{frame_limit, text_limit}
use Rattle.trees.specs.Held.{program_held}
use Rattle.wellformed.specs.Held.{state_held}
use Rattle.start_held.specs.Starts.{same_numbers}
use Rattle.load.specs.Load.{WellFormed, load_call}

-- load is done exactly when none of the numbers 1 to 12 holds, and else answers the lowest that does; then nothing lent changes
pub record LoadExact (m : Memories) (source : List ℕ) (F T : ℕ) : Type 0 where
  pub number : load_number (load_call m source F T).answer ≡ refusal (lengths m) source F T
  pub done : ((load_call m source F T).answer ≡ LoadAnswer.Loaded) ↔ ((k : ℕ) → ¬ Holds (lengths m) source F T k)
  pub that_holds : (load_call m source F T).answer ≢ LoadAnswer.Loaded → Holds (lengths m) source F T (load_number (load_call m source F T).answer)
  pub lowest : (load_call m source F T).answer ≢ LoadAnswer.Loaded → (k : ℕ) → Holds (lengths m) source F T k → load_number (load_call m source F T).answer ≤ k
  pub unchanged : (load_call m source F T).answer ≢ LoadAnswer.Loaded → (load_call m source F T).memories ≡ m

-- where it is done: the memories are well-formed
abbrev pub LoadWhole : Type 0
LoadWhole = (m : Memories) (source : List ℕ) (F T : ℕ) → refusal (lengths m) source F T ≡ 0 → WellFormed (load_call m source F T).memories

-- they hold the program of the source, F and T
pub record Decodes (source : List ℕ) (F T : ℕ) (m : Memories) : Type 0 where
  pub program_is : program source ≡ some (program_held m.program m.literal)
  pub F_is : frame_limit m.program ≡ F
  pub T_is : text_limit m.program ≡ T

abbrev pub LoadDecodes : Type 0
LoadDecodes = (m : Memories) (source : List ℕ) (F T : ℕ) → refusal (lengths m) source F T ≡ 0 → Decodes source F T (load_call m source F T).memories

-- and the unbounded machine's start, with every frame under the number in which it is made
pub record Starts (m : Memories) : Type 0 where
  pub alike : Alike (start (program_held m.program m.literal)) (state_held m.program m.heap m.text)
  pub no_renaming : alike.renaming ≡ same_numbers

abbrev pub LoadStarts : Type 0
LoadStarts = (m : Memories) (source : List ℕ) (F T : ℕ) → refusal (lengths m) source F T ≡ 0 → Starts (load_call m source F T).memories
