-- Document 01, "The endless machine", one step, and the last two stops of "The calls", run, over program words p, literal bytes l, heap words h, text bytes t and the
-- output buffer, of which the first `used` bytes are written. Every part is the bounded machine's, on the state that the words hold. Assumes nothing.
use Rattle.std.specs.Prelude.{ℕ, suc, ◌-◌, ◌≤◌, ◌<◌, ◌≡◌, List, eqb, leb, length}
use Rattle.words.specs.Words.{pick}
use Rattle.framed.specs.Machine.{frame_literals, join_signs, right_side}
use Rattle.tables.specs.Fields.{frame_limit, text_limit, instructions, instruction_after}
use Rattle.trees.specs.Held.{program_held, instruction_held, remaining}
use Rattle.heap.specs.Words.{position, end_mark, set_end_mark}
use Rattle.heap.specs.Held.{frames_in_use, texts_in_use}
use Rattle.heap.specs.Closed.{Closed}
use Rattle.places.specs.Places.{AtInstruction}
use Rattle.texts.specs.Texts.{Readable}
use Rattle.splice.specs.Splice.{splice}
use Rattle.program_form.specs.WellFormed as program
use Rattle.wellformed.specs.WellFormed.{limits, WellFormed, Formed}
use Rattle.bounded.specs.Bounded.{Bounded, ready, step_end, line, commit, Ran, run}
use Rattle.word_store.specs.Store.{Memories, word_store}
use Rattle.word_store.specs.State.{HeaderFormed}
use Rattle.allocation.specs.declared.Known.{Known}
use Rattle.allocation.specs.Known.{Knows}
use Rattle.reserving.specs.Reserving.{room_end_held, reserved_words}
use Rattle.commit.specs.Commit.{state_of}
use Rattle.commit.specs.Words.{heap_of, WordsFit}
use Rattle.step_parts.specs.declared.Shown.{Shown}
use Rattle.step_parts.specs.declared.Outcome.{Outcome}

-- ---- Reserve

-- f and t of instruction i
abbrev pub frames_for : List ℕ → ℕ → ℕ
frames_for p i = frame_literals (right_side (instruction_held p i))

abbrev pub texts_for : List ℕ → ℕ → ℕ
texts_for p i = join_signs (right_side (instruction_held p i))

pub record CanReserve (p h : List ℕ) (i : ℕ) : Type 0 where
  pub at : AtInstruction p i
  pub closed : Closed h
  pub frames_few : length (frames_in_use h) ≤ frame_limit p
  pub texts_few : length (texts_in_use h) ≤ text_limit p

-- heap words after it
unfoldable pub ready_words : List ℕ → List ℕ → ℕ → List ℕ
ready_words p h i = reserved_words p h (frames_for p i) (texts_for p i)

-- there is room for what instruction i makes, which is counted in
pub record RoomFor (p h : List ℕ) (i : ℕ) (k : Known) : Type 0 where
  pub room : 0 ≡ room_end_held p h (frames_for p i) (texts_for p i)
  pub knows : Knows h (frames_for p i) (texts_for p i) k

-- ---- The end

-- the memories are well-formed and instruction i is the next, with no end mark
pub record CanStep (p l h t : List ℕ) (i : ℕ) : Type 0 where
  pub memories : Formed p l h t
  pub there : i < instructions p
  pub next : position h ≡ suc i
  pub unmarked : end_mark h ≡ 0

module _ (p l h t : List ℕ) (i : ℕ) where
  -- reserve, then check
  unfoldable pub step_end_held : ℕ
  step_end_held = step_end word_store (program_held p l) (frame_limit p) (text_limit p) (state_of p h t) (instruction_held p i)

  -- ---- The line, from the words after reserve

  -- with byte 10; no other instruction than a show has one
  unfoldable pub line_held : List ℕ
  line_held = line word_store (program_held p l) (state_of p h t) (instruction_held p i)

  pub record CanShow (out : List ℕ) (used : ℕ) : Type 0 where
    pub program : program.WellFormed p l
    pub there : i < instructions p
    pub readable : Readable p l h t
    pub inside : used ≤ length out

-- an answer, and the buffer
pub record Showing : Type 0 where
  pub answer : Shown
  pub output : List ℕ

abbrev pub showing : Shown → List ℕ → Showing
showing r out = record { answer = r; output = out }

-- where the line bs is not longer than the space left
unfoldable pub show_line : List ℕ → List ℕ → ℕ → Showing
show_line bs out used = pick (leb (length bs) (length out - used)) (showing (Shown.Written (length bs)) (splice out used bs)) (showing Shown.TooLong out)

pub record Shows (p l h t : List ℕ) (i : ℕ) (out : List ℕ) (used : ℕ) (r : Shown) (out' : List ℕ) : Type 0 where
  pub exact : show_line (line_held p l h t i) out used ≡ showing r out'

-- ---- Commit, from the words after reserve

module _ (p l h t : List ℕ) (i : ℕ) where
  abbrev pub committed : Bounded Memories
  committed = commit word_store (program_held p l) (state_of p h t) (remaining p (instruction_after p i)) (instruction_held p i)

  unfoldable pub committed_heap : List ℕ
  committed_heap = heap_of committed

  unfoldable pub committed_text : List ℕ
  committed_text = committed.store.text

-- ---- The step

-- the answer, and the memories and the buffer at exit
pub record Attempted : Type 0 where
  pub answer : Outcome
  pub heap : List ℕ
  pub text : List ℕ
  pub output : List ℕ

abbrev pub attempted : Outcome → List ℕ → List ℕ → List ℕ → Attempted
attempted r h t out = record { answer = r; heap = h; text = t; output = out }

-- with the end that the step gives, which is marked; with 'output', when the line is longer than the space left; else it is made
unfoldable pub attempt_step : (p l h t : List ℕ) (i : ℕ) → (out : List ℕ) (used : ℕ) → Attempted
attempt_step p l h t i out used =
    let h₁ = ready_words p h i in
    let e = step_end_held p l h t i in
    let bs = line_held p l h₁ t i in
    pick (eqb e 0)
    (pick (leb (length bs) (length out - used))
    (attempted (Outcome.Made (length bs)) (committed_heap p l h₁ t i) (committed_text p l h₁ t i) (splice out used bs))
    (attempted Outcome.NoSpace h₁ t out))
    (attempted (Outcome.Ended e) (set_end_mark h₁ e) t out)

pub record CanAttempt (p l h t : List ℕ) (i : ℕ) (out : List ℕ) (used : ℕ) : Type 0 where
  pub step : CanStep p l h t i
  pub inside : used ≤ length out

module _ (p l h t : List ℕ) (i : ℕ) (out : List ℕ) (used : ℕ) (r : Outcome) (h' t' out' : List ℕ) where
  pub record Attempts : Type 0 where
    pub exact : attempt_step p l h t i out used ≡ attempted r h' t' out'
    -- the state is that after a run of the bounded machine with fuel 1
    pub state : state_of p h' t' ≡ (run word_store (program_held p l) (frame_limit p) (text_limit p) 1 (length out - used) (state_of p h t)).state
    pub header : HeaderFormed h' (limits p)
    pub fit : WordsFit h'

-- an instruction without a line: so with every buffer, which stays as it is
pub record AttemptsQuietly (p l h t : List ℕ) (i : ℕ) (r : Outcome) (h' t' : List ℕ) : Type 0 where
  pub with_output : (out : List ℕ) (used : ℕ) → used ≤ length out → Attempts p l h t i out used r h' t' out

-- ---- The bounded machine's state after reserve, and its run

module _ (p l h t : List ℕ) (i : ℕ) where
  abbrev now : Bounded Memories
  now = state_of p h t

  -- the state after reserve
  abbrev pub ready_state : Bounded Memories
  ready_state = ready word_store (frame_limit p) (text_limit p) now (instruction_held p i)

  abbrev pub machine_run : (fuel space : ℕ) → Bounded Memories → Ran word_store
  machine_run fuel space b = run word_store (program_held p l) (frame_limit p) (text_limit p) fuel space b
