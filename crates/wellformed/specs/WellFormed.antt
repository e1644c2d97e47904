-- Document 01, the paragraph on whole memories (here: well-formed), over all four memories: program words p, heap words h, literal bytes l, text bytes t.
-- What each half asks is in `program_form` (and below it) and in `state_form`. Assumes nothing.
use Rattle.std.specs.Prelude.{◌≡◌, ◌↔◌, Bool, true, ◌&&◌, List, ℕ}
use Rattle.tables.specs.Fields.{frame_limit, text_limit, names, literals, codes, instructions}
use Rattle.program_form.specs.WellFormed as program
use Rattle.program_form.specs.WellFormed.{program_well_formed}
use Rattle.program_form.specs.Sound.{Sound}
use Rattle.heap.specs.Closed.{Closed}
use Rattle.frame_form.specs.declared.Limits.{Limits}
use Rattle.state_form.specs.Form.{StateWellFormed}
use Rattle.state_form.specs.Tests.{state_well_formed}

-- what a state keeps within: F, T and the program's counts
unfoldable pub limits : List ℕ → Limits
limits p =
    record {
      frames = frame_limit p;
      texts = text_limit p;
      names = names p;
      literals = literals p;
      codes = codes p;
      instructions = instructions p;
    }

pub record WellFormed (p h l t : List ℕ) : Type 0 where
  pub program : program.WellFormed p l
  pub state : StateWellFormed h t (limits p)

-- as one fact, in the order in which a step takes the memories
unfoldable pub Formed : (p l h t : List ℕ) → Type 0
Formed p l h t = WellFormed p h l t

-- the test that the code makes
unfoldable pub well_formed : List ℕ → List ℕ → List ℕ → List ℕ → Bool
well_formed p h l t = program_well_formed p l && state_well_formed h t (limits p)

-- it decides the paragraph: memories that meet it are never refused, and no others are taken
abbrev pub WellFormedDecides : Type 0
WellFormedDecides = (p h l t : List ℕ) → (well_formed p h l t ≡ true) ↔ WellFormed p h l t

-- Every number kept in the program words names an existing entry, parts come after wholes and walks end (`Sound`); what is in use refers only to what is
-- in use (`Closed`)
pub record Consistent (p h : List ℕ) : Type 0 where
  pub program : Sound p
  pub state : Closed h

abbrev pub WellFormedConsistent : Type 0
WellFormedConsistent = (p h l t : List ℕ) → WellFormed p h l t → Consistent p h
