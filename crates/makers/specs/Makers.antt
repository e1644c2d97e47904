-- Document 02, A5, the call makers: for every four memories (program words p, heap words h, literal bytes l, text bytes t) and 513 lent counts what it answers and
-- leaves in the counts, and what that means. Assumes nothing.
use Rattle.std.specs.Prelude.{◌≡◌, Bool, not, ◌&&◌, List, ℕ, ◌+◌, ◌≤◌, ◌<◌, length, get_or, set, eqb}
use Rattle.framed.specs.declared.MakersAnswer.{MakersAnswer}
use Rattle.framed.specs.Calls.{made_by}
use Rattle.framed.specs.Demands.{Counting}
use Rattle.words.specs.Words.{pick}
use Rattle.heap.specs.Words.{maker_at}
use Rattle.heap.specs.Lists.{listed, passing}
use Rattle.mark.specs.Mark.{mark_all}
use Rattle.mark.specs.Reached.{Marked}
use Rattle.trees.specs.Held.{program_held}
use Rattle.wellformed.specs.WellFormed.{WellFormed, well_formed}
use Rattle.wellformed.specs.Held.{state_held}

-- frame f is marked, and instruction n made it
unfoldable pub marked_made : (h marks : List ℕ) → ℕ → ℕ → Bool
marked_made h marks n f = not (eqb (get_or marks f 0) 0) && eqb (maker_at h f) n

-- for n from 0 to 512 how many of the first k frames are so
unfoldable pub counts_below : (h marks : List ℕ) → ℕ → List ℕ
counts_below h marks k = listed (λ n. length (passing (marked_made h marks n) k)) 513

-- one more for n
unfoldable pub count_for : ℕ → List ℕ → List ℕ
count_for n counts = set counts n (get_or counts n 0 + 1)

-- there is a count for the maker of frame f, and it is no more than all frames
pub record CanCount (h : List ℕ) (f : ℕ) (counts : List ℕ) : Type 0 where
  pub there : maker_at h f < 513
  pub few : get_or counts (maker_at h f) 0 ≤ 256

-- marked frames have makers up to 512
pub record MakersFit (h marks : List ℕ) : Type 0 where
  pub fits : (f : ℕ) → f < 256 → Marked marks f → maker_at h f < 513

-- the answer, and the counts at exit
abbrev pub counting : MakersAnswer → List ℕ → Counting
counting r counts = record { answer = r; counts = counts }

unfoldable pub makers_call : (p h l t counts : List ℕ) → Counting
makers_call p h l t counts =
    pick (well_formed p h l t) (counting MakersAnswer.Counted (counts_below h (mark_all h) 256)) (counting MakersAnswer.NotWellFormed counts)

-- 20, with nothing changed, exactly where the memories are not well-formed; else count n is the number of the reachable frames that instruction n made
pub record MakersMeans (p h l t counts : List ℕ) (r : MakersAnswer) (counts' : List ℕ) : Type 0 where
  pub refused : ¬ WellFormed p h l t → (r ≡ MakersAnswer.NotWellFormed) × (counts' ≡ counts)
  pub counted : WellFormed p h l t →
      (r ≡ MakersAnswer.Counted) × (length counts' ≡ 513) × ((n : ℕ) → n < 513 → get_or counts' n 0 ≡ made_by (state_held p h t) n)

abbrev pub MakersIsCount : Type 0
MakersIsCount = (p h l t counts : List ℕ) → MakersMeans p h l t counts (makers_call p h l t counts).answer (makers_call p h l t counts).counts

-- and these are all: no reachable frame has another maker
abbrev pub MakersThere : Type 0
MakersThere = (p h l t : List ℕ) → WellFormed p h l t → (n : ℕ) → length (program_held p l).instructions < n → made_by (state_held p h t) n ≡ 0
