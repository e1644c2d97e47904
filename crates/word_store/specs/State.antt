-- docs/LAYOUT.md, "Heap words": the state of the bounded machine that heap words and text bytes hold, what it is after each updater of the words, and that it is
-- well-formed (document 01: whole) where they are, and back. Assumes nothing.
use Rattle.std.specs.Prelude.{ℕ, ◌≤◌, ◌≡◌, List, length}
use Rattle.words.specs.Words.{word}
use Rattle.framed.specs.declared.Value.{Value}
use Rattle.framed.specs.Tree.{Code}
use Rattle.framed.specs.Paths.{Path}
use Rattle.framed.specs.Program.{Program}
use Rattle.heap.specs.Words.{self_held, program_held, position, end_mark, set_self, set_program, set_position, set_end_mark, add_slot, take_text}
use Rattle.heap.specs.Closed.{ValueFits}
use Rattle.heap.specs.Held.{frames_in_use, texts_in_use}
use Rattle.allocation.specs.Allocation.{next_frame, next_text, view_held}
use Rattle.puts.specs.Puts.{put_slot}
use Rattle.collector.specs.Collect.{collect_heap}
use Rattle.frame_form.specs.declared.Limits.{Limits}
use Rattle.state_form.specs.Form.{StateWellFormed}
use Rattle.bounded.specs.Store.{Laws}
use Rattle.bounded.specs.Bounded.{Bounded, over_store, with_mark, run, collected}
use Rattle.bounded.specs.Relation.{WellFormed}
use Rattle.word_store.specs.Store.{Memories, memories, clear_header, claim_frame, write_text, word_store}

-- the store that they are
unfoldable pub store_held : List ℕ → List ℕ → Memories
store_held h t = memories (clear_header h) t

-- the state that they hold, where `remaining-from` gives the instructions that remain at a position word
unfoldable pub state_held : (ℕ → Code Path) → List ℕ → List ℕ → Bounded Memories
state_held remaining_from h t =
    record {
      store = store_held h t;
      self = self_held h;
      program = program_held h;
      remaining = remaining_from (position h);
      next = position h;
      end_mark = end_mark h;
    }

-- ---- The state held after each updater

abbrev pub with_self : Value → Bounded Memories → Bounded Memories
with_self v b = record { store = b.store; self = v; program = b.program; remaining = b.remaining; next = b.next; end_mark = b.end_mark }

abbrev pub with_program : Value → Bounded Memories → Bounded Memories
with_program v b = record { store = b.store; self = b.self; program = v; remaining = b.remaining; next = b.next; end_mark = b.end_mark }

-- at the instruction n, with these remaining
abbrev pub with_remaining : Code Path → ℕ → Bounded Memories → Bounded Memories
with_remaining is n b = record { store = b.store; self = b.self; program = b.program; remaining = is; next = n; end_mark = b.end_mark }

module _ (remaining_from : ℕ → Code Path) (h t : List ℕ) where
  abbrev now : Bounded Memories
  now = state_held remaining_from h t

  -- what the store shows is what the words hold
  pub record HeldRead : Type 0 where
    pub view : word_store.view now.store ≡ view_held h t
    pub next_frame : word_store.next_frame now.store ≡ next_frame h
    pub next_text : word_store.next_text now.store ≡ next_text h
    pub frame_count : word_store.frame_count now.store ≡ length (frames_in_use h)
    pub text_count : word_store.text_count now.store ≡ length (texts_in_use h)

  -- each updater is an operation of the store, or changes one other part of the state
  pub record HeldAfter : Type 0 where
    pub self : (v : Value) → ValueFits v → state_held remaining_from (set_self h v) t ≡ with_self v now
    pub program : (v : Value) → ValueFits v → state_held remaining_from (set_program h v) t ≡ with_program v now
    pub position : (i : ℕ) → state_held remaining_from (set_position h i) t ≡ with_remaining (remaining_from i) i now
    pub end_mark : (e : ℕ) → state_held remaining_from (set_end_mark h e) t ≡ with_mark e now
    pub frame : (m : ℕ) → state_held remaining_from (claim_frame h m) t ≡ over_store now (word_store.claim_frame now.store m)
    pub push : (n x : ℕ) (v : Value) → state_held remaining_from (add_slot h n x v) t ≡ over_store now (word_store.push now.store n x v)
    pub assign : (n x : ℕ) (v : Value) → state_held remaining_from (put_slot h n x v) t ≡ over_store now (word_store.assign now.store n x v)
    pub text : (bs : List ℕ) →
        state_held remaining_from (take_text h (next_text h) (length bs)) (write_text t (next_text h) 0 bs) ≡ over_store now (word_store.claim_text now.store bs)
    pub collect : state_held remaining_from (collect_heap h).words t ≡ collected word_store now

-- ---- Well-formed, both ways

-- what the state held does not tell of the header: a tag above 4 is read as a frame's, and several positions may have the same instructions
pub record HeaderFormed (h : List ℕ) (l : Limits) : Type 0 where
  pub self_tag : word h 0 ≤ 4
  pub program_tag : word h 2 ≤ 4
  pub position_there : position h ≤ l.instructions

-- every updater keeps it
pub record HeaderAfter (h : List ℕ) (l : Limits) : Type 0 where
  pub self : (v : Value) → HeaderFormed (set_self h v) l
  pub program : (v : Value) → HeaderFormed (set_program h v) l
  pub position : (i : ℕ) → i ≤ l.instructions → HeaderFormed (set_position h i) l
  pub end_mark : (e : ℕ) → HeaderFormed (set_end_mark h e) l
  pub frame : (m : ℕ) → HeaderFormed (claim_frame h m) l
  pub push : (n x : ℕ) (v : Value) → HeaderFormed (add_slot h n x v) l
  pub assign : (n x : ℕ) (v : Value) → HeaderFormed (put_slot h n x v) l
  pub text : (k n : ℕ) → HeaderFormed (take_text h k n) l
  pub collect : HeaderFormed (collect_heap h).words l

module _ (q : Program) (l : Limits) (𝓛 : Laws word_store q) (remaining_from : ℕ → Code Path) where
  -- the state that the memories hold is well-formed (document 01: whole)
  abbrev pub StateFormed : List ℕ → List ℕ → Type 0
  StateFormed h t = WellFormed word_store q 𝓛 l.frames l.texts (state_held remaining_from h t)

  pub record StateAgrees : Type 0 where
    -- well-formed memories hold a well-formed state
    pub forth : (h t : List ℕ) → StateWellFormed h t l → StateFormed h t
    pub header : (h t : List ℕ) → StateWellFormed h t l → HeaderFormed h l
    pub back : (h t : List ℕ) → StateFormed h t → HeaderFormed h l → StateWellFormed h t l

  -- memories that hold the state after a run, after a collection, are well-formed
  pub record CallsLeave : Type 0 where
    pub run_leaves : (h t h' t' : List ℕ) (fuel space : ℕ) → StateWellFormed h t l →
        state_held remaining_from h' t' ≡ (run word_store q l.frames l.texts fuel space (state_held remaining_from h t)).state →
        HeaderFormed h' l → StateWellFormed h' t' l
    pub collect_leaves : (h t h' t' : List ℕ) → StateWellFormed h t l →
        state_held remaining_from h' t' ≡ collected word_store (state_held remaining_from h t) →
        HeaderFormed h' l → StateWellFormed h' t' l
