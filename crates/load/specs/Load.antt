-- Document 01, the call load: what it answers and leaves, for every four memories, source, F and T, and what that means. Assumes nothing.
use Rattle.std.specs.Prelude.{◌≡◌, ◌≢◌, List, ℕ, zero, suc}
use Rattle.std.proofs.Math.Option.{Option, none, some}
use Rattle.framed.specs.declared.LoadAnswer.{LoadAnswer}
use Rattle.framed.specs.Answers.{load_number}
use Rattle.framed.specs.Meaning.{refusal}
use Rattle.framed.specs.Program.{Program, program}
use Rattle.framed.specs.Machine.{start}
use Rattle.framed.specs.Alike.{Alike}
use Rattle.framed.specs.Demands.{Memories, lengths, Loading}
use Rattle.heap.specs.Words.{end_mark}
use Rattle.tables.specs.Fields.{frame_limit, text_limit}
use Rattle.trees.specs.Held.{program_held}
use Rattle.wellformed.specs.WellFormed as wellformed
use Rattle.wellformed.specs.Held.{state_held}
use Rattle.emission.specs.Emit.{cleared, program_words, literal_bytes}
use Rattle.start_state.specs.Start.{start_heap}
use Rattle.start_held.specs.Starts.{same_numbers}

-- program words, heap words, literal bytes, text bytes
abbrev pub memories : List ℕ → List ℕ → List ℕ → List ℕ → Memories
memories p h l t = record { program = p; heap = h; literal = l; text = t }

abbrev pub loading : LoadAnswer → Memories → Loading
loading r m = record { answer = r; memories = m }

-- the answer with a number
unfoldable pub answer_of : ℕ → LoadAnswer
answer_of zero = LoadAnswer.Loaded
answer_of (suc zero) = LoadAnswer.MemoryLength
answer_of (suc (suc zero)) = LoadAnswer.LimitRange
answer_of (suc (suc (suc zero))) = LoadAnswer.SourceLength
answer_of (suc (suc (suc (suc zero)))) = LoadAnswer.NoToken
answer_of (suc (suc (suc (suc (suc zero))))) = LoadAnswer.Nesting
answer_of (suc (suc (suc (suc (suc (suc zero)))))) = LoadAnswer.NotOneFrame
answer_of (suc (suc (suc (suc (suc (suc (suc zero))))))) = LoadAnswer.OutsideCode
answer_of (suc (suc (suc (suc (suc (suc (suc (suc zero)))))))) = LoadAnswer.BadFrame
answer_of (suc (suc (suc (suc (suc (suc (suc (suc (suc zero))))))))) = LoadAnswer.CountLimit
answer_of (suc (suc (suc (suc (suc (suc (suc (suc (suc (suc zero)))))))))) = LoadAnswer.AboveProgram
answer_of (suc (suc (suc (suc (suc (suc (suc (suc (suc (suc (suc zero))))))))))) = LoadAnswer.NoStart
answer_of (suc (suc (suc (suc (suc (suc (suc (suc (suc (suc (suc (suc n)))))))))))) = LoadAnswer.WrittenFrames

-- ---- Exactly

-- the memories of a program with its limits: its words and literals, its start, no made text
unfoldable pub loaded : Program → (F T : ℕ) → Memories
loaded q F T = memories (program_words q F T) (start_heap (program_words q F T) (literal_bytes q)) (literal_bytes q) (cleared 16384)

-- where nothing refuses, by the program of the source. It has one: `framed` proves that a source without a program is refused
unfoldable pub loading_of : Memories → Option Program → (F T : ℕ) → Loading
loading_of m none F T = loading LoadAnswer.Loaded m
loading_of m (some q) F T = loading LoadAnswer.Loaded (loaded q F T)

-- by the number that refuses: nothing lent changes
unfoldable pub loading_by : ℕ → Memories → List ℕ → (F T : ℕ) → Loading
loading_by zero m source F T = loading_of m (program source) F T
loading_by (suc n) m source F T = loading (answer_of (suc n)) m

unfoldable pub load_call : Memories → (source : List ℕ) → (F T : ℕ) → Loading
load_call m source F T = loading_by (refusal (lengths m) source F T) m source F T

-- ---- What it means

abbrev pub WellFormed : Memories → Type 0
WellFormed m = wellformed.WellFormed m.program m.heap m.literal m.text

-- the memories are well-formed (document 01: whole) and hold the program q with its limits, at its start, with every frame under the number that it has there
pub record HoldsStart (q : Program) (F T : ℕ) (m : Memories) : Type 0 where
  pub well_formed : WellFormed m
  pub program_is : program_held m.program m.literal ≡ q
  pub F_is : frame_limit m.program ≡ F
  pub T_is : text_limit m.program ≡ T
  pub unmarked : end_mark m.heap ≡ 0
  pub at_start : Alike (start q) (state_held m.program m.heap m.text)
  pub no_renaming : at_start.renaming ≡ same_numbers

-- the source has a program, which the memories hold
pub record Loads (source : List ℕ) (F T : ℕ) (m : Memories) : Type 0 where
  pub its_program : Program
  pub program_is : program source ≡ some its_program
  pub held : HoldsStart its_program F T m

-- the answer's number is that of the refusal, which changes nothing; else the memories hold the program of the source at its start
pub record LoadMeans (m : Memories) (source : List ℕ) (F T : ℕ) (r : LoadAnswer) (m' : Memories) : Type 0 where
  pub number : load_number r ≡ refusal (lengths m) source F T
  pub refused : refusal (lengths m) source F T ≢ 0 → m' ≡ m
  pub loads : refusal (lengths m) source F T ≡ 0 → Loads source F T m'

-- ---- Inside

-- nothing refuses
pub record CanInstall (m : Memories) (source : List ℕ) (F T : ℕ) : Type 0 where
  pub accepted : refusal (lengths m) source F T ≡ 0

-- the memories are those of the program of the source
pub record Installed (source : List ℕ) (F T : ℕ) (m : Memories) : Type 0 where
  pub is : (q : Program) → program source ≡ some q → m ≡ loaded q F T
