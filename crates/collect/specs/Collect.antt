-- Document 01, the call collect: what it answers and leaves, for every four memories (program words p, heap words h, literal bytes l, text bytes t), and what that
-- means. Assumes nothing.
use Rattle.std.specs.Prelude.{◌≡◌, ◌↔◌, List, ℕ}
use Rattle.framed.specs.declared.CollectAnswer.{CollectAnswer}
use Rattle.framed.specs.declared.Text.{Text}
use Rattle.framed.specs.declared.Value.{Value}
use Rattle.framed.specs.Answers.{Report, collect_report}
use Rattle.framed.specs.Alike.{InReach}
use Rattle.framed.specs.Calls.{frame_total, text_total}
use Rattle.words.specs.Words.{pick}
use Rattle.heap.specs.Closed.{FrameInUse, TextInUse}
use Rattle.heap.specs.Held.{frame_held, text_held}
use Rattle.heap.specs.Words.{self_held, program_held, position, end_mark}
use Rattle.wellformed.specs.WellFormed.{WellFormed, well_formed}
use Rattle.wellformed.specs.Held.{state_held}
use Rattle.collector.specs.Collect.{collect_heap}

-- the answer, and the heap words at exit
pub record Collecting : Type 0 where
  pub answer : CollectAnswer
  pub heap : List ℕ

abbrev pub collecting : CollectAnswer → List ℕ → Collecting
collecting r h = record { answer = r; heap = h }

unfoldable pub collect_call : List ℕ → List ℕ → List ℕ → List ℕ → Collecting
collect_call p h l t =
    pick (well_formed p h l t) (collecting (CollectAnswer.Collected (collect_heap h).totals) (collect_heap h).words) (collecting CollectAnswer.NotWellFormed h)

-- where the memories are well-formed: the totals are those of what self and program reach, and afterwards exactly that is in use, as it was
pub record Reached (p h l t : List ℕ) (r : CollectAnswer) (h' : List ℕ) : Type 0 where
  pub reported : collect_report r ≡ Report.collected (frame_total (state_held p h t)) (text_total (state_held p h t))
  pub frames : (f : ℕ) → FrameInUse h' f ↔ InReach (state_held p h t) (Value.Frame f)
  pub texts : (k : ℕ) → TextInUse h' k ↔ InReach (state_held p h t) (Value.Text (Text.Made k))
  pub frame_same : (f : ℕ) → InReach (state_held p h t) (Value.Frame f) → frame_held h' f ≡ frame_held h f
  pub text_same : (k : ℕ) → InReach (state_held p h t) (Value.Text (Text.Made k)) → text_held h' t k ≡ text_held h t k
  pub self_same : self_held h' ≡ self_held h
  pub program_same : program_held h' ≡ program_held h
  pub position_same : position h' ≡ position h
  pub end_mark_same : end_mark h' ≡ end_mark h
  pub well_formed : WellFormed p h' l t

-- 20, with nothing changed, exactly where they are not well-formed
pub record CollectMeans (p h l t : List ℕ) (r : CollectAnswer) (h' : List ℕ) : Type 0 where
  pub refused : ¬ WellFormed p h l t → (r ≡ CollectAnswer.NotWellFormed) × (h' ≡ h)
  pub collected : WellFormed p h l t → Reached p h l t r h'

-- collecting twice changes nothing the second time
abbrev pub CollectTwice : Type 0
CollectTwice = (p h l t : List ℕ) → WellFormed p h l t → collect_call p (collect_call p h l t).heap l t ≡ collect_call p h l t
