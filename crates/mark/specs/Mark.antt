-- Document 01, Collect: marking what Σ and Π reach, by a queue. A mark for each frame and made text, the frames in the order in which they were marked, and how many they are.
-- What the marks mean is in Reached. Assumes nothing.
use Rattle.std.specs.Prelude.{ℕ, zero, suc, ◌+◌, List, get_or, set, replicate, eqb, ltb}
use Rattle.words.specs.Words.{pick}
use Rattle.framed.specs.declared.Text.{Text}
use Rattle.framed.specs.declared.Value.{Value}
use Rattle.mark.specs.declared.Work.{Work}
use Rattle.heap.specs.Words.{slot_count_at, slot_value_at, self_held, program_held}

abbrev pub work : List ℕ → List ℕ → ℕ → Work
work m o t = record { marks = m; order = o; tail = t }

-- the mark of made text k is number 256 + k, that of frame f number f
unfoldable pub mark_text : Text → Work → Work
mark_text (Text.Literal k) w = w
mark_text (Text.Made k) w = work (set w.marks (256 + k) 1) w.order w.tail

unfoldable pub visit_frame : ℕ → Work → Work
visit_frame f w =
    pick (eqb (get_or w.marks f 0) 0) (work (set w.marks f 1) (set w.order w.tail f) (w.tail + 1)) w

unfoldable pub visit_value : Value → Work → Work
visit_value (Value.Int n) w = w
visit_value (Value.Text t) w = mark_text t w
visit_value (Value.Code n) w = w
visit_value (Value.Frame f) w = visit_frame f w

-- the n slots of frame g from i on, then all
unfoldable pub visit_from : List ℕ → ℕ → ℕ → ℕ → Work → Work
visit_from h g zero i w = w
visit_from h g (suc n) i w = visit_from h g n (i + 1) (visit_value (slot_value_at h g i) w)

unfoldable pub visit_all : List ℕ → ℕ → Work → Work
visit_all h g w = visit_from h g (slot_count_at h g) 0 w

-- the queue from k on, at most n of it
unfoldable pub mark_queue : List ℕ → ℕ → ℕ → Work → Work
mark_queue h zero k w = w
mark_queue h (suc n) k w =
    let r = mark_queue h n (k + 1) (visit_all h (get_or w.order k 0) w) in pick (ltb k w.tail) r w

unfoldable pub mark_roots : List ℕ → Work → Work
mark_roots h w = visit_value (program_held h) (visit_value (self_held h) w)

unfoldable pub blank : Work
blank = work (replicate 512 0) (replicate 256 0) 0

unfoldable pub mark_all : List ℕ → List ℕ
mark_all h = (mark_queue h 256 0 (mark_roots h blank)).marks
