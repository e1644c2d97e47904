-- Document 01, "The endless machine", one step over the memories (crate `step`): what its words hold is what the bounded machine's run makes of the state. From
-- the definitions alone, for lists of any numbers. Assumes nothing.
use Rattle.std.specs.Prelude.{ℕ, suc, ◌-◌, ◌≤◌, ◌≡◌, List, length}
use Rattle.framed.specs.Answers.{Stopped}
use Rattle.wellformed.specs.WellFormed.{limits, WellFormed}
use Rattle.splice.specs.Splice.{splice}
use Rattle.bounded.specs.Bounded.{stopped, one_more}
use Rattle.word_store.specs.Store.{word_store}
use Rattle.word_store.specs.State.{HeaderFormed}
use Rattle.running.specs.Running.{bounded_held, bounded_run}
use Rattle.step_parts.specs.declared.Outcome.{Outcome}
use Rattle.step_parts.specs.Step.{CanStep, attempted, attempt_step}

module _ (p l h t : List ℕ) (i : ℕ) (out : List ℕ) (used : ℕ) where
  -- the end that the step gives; no space for its line; the step made
  pub record EndHeld (e : ℕ) (h' : List ℕ) : Type 0 where
    pub is : attempt_step p l h t i out used ≡ attempted (Outcome.Ended e) h' t out
    pub runs : (fuel space : ℕ) → bounded_run p l (suc fuel) space (bounded_held p h t) ≡ stopped word_store (Stopped.end e) (bounded_held p h' t)
    pub number : (31 ≤ e) × (e ≤ 37)
    pub header : HeaderFormed h' (limits p)

  pub record SpaceHeld (h' : List ℕ) : Type 0 where
    pub is : attempt_step p l h t i out used ≡ attempted Outcome.NoSpace h' t out
    pub runs : (fuel : ℕ) → bounded_run p l (suc fuel) (length out - used) (bounded_held p h t) ≡ stopped word_store Stopped.output (bounded_held p h' t)
    pub header : HeaderFormed h' (limits p)

  pub record MadeHeld (bs h' t' : List ℕ) : Type 0 where
    pub is : attempt_step p l h t i out used ≡ attempted (Outcome.Made (length bs)) h' t' (splice out used bs)
    pub fits : length bs ≤ length out - used
    pub runs : (fuel : ℕ) →
        bounded_run p l (suc fuel) (length out - used) (bounded_held p h t)
        ≡ one_more word_store bs (bounded_run p l fuel (length out - used - length bs) (bounded_held p h' t'))
    pub well_formed : WellFormed p h' l t'

  pub data AttemptHeld : Type 0 where
    ends : (e : ℕ) (h' : List ℕ) → EndHeld e h' → AttemptHeld
    lacks_space : (h' : List ℕ) → SpaceHeld h' → AttemptHeld
    makes : (bs h' t' : List ℕ) → MadeHeld bs h' t' → AttemptHeld

abbrev pub StepHeld : Type 0
StepHeld = (p l h t : List ℕ) (i : ℕ) (out : List ℕ) (used : ℕ) → CanStep p l h t i → AttemptHeld p l h t i out used
