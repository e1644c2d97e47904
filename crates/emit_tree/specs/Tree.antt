-- docs/LAYOUT.md, program words: what the functions that emit the tree of a source leave. Assumes nothing.
use Rattle.std.specs.Prelude.{◌≡◌, false, List, ℕ, ◌≤◌}
use Rattle.std.proofs.Math.Option.{some}
use Rattle.framed.specs.Common.{any}
use Rattle.framed.specs.Bytes.{class}
use Rattle.framed.specs.Tokens.{Token, tokens, highest_nesting}
use Rattle.framed.specs.Symbols.{name_table, symbols}
use Rattle.framed.specs.Tree.{Written, Slots}
use Rattle.framed.specs.Parse.{parse}
use Rattle.framed.specs.Paths.{resolve_slots, program_place}
use Rattle.framed.specs.Meaning.{pieces, misplaced}
use Rattle.sweep.specs.Decides.{Short}
use Rattle.names.specs.Kept.{table_of}
use Rattle.shapes.specs.Numbers.{zeros, slots_size}
use Rattle.shapes.specs.Shape.{SizeShaped}
use Rattle.emission.specs.Emit.{emitting, emit_slots, first_slot_place}
use Rattle.emit_steps.specs.Steps.{numbers}
use Rattle.emit_steps.specs.declared.Next.{Next}

-- where the source is tokens and one frame, the names kept are its names, its nesting and counts are within the limits, and number 7 does not hold, the
-- words and the numbers are those that the slots of the program frame take from the words at entry
pub record TreeEmitted (s begins ends : List ℕ) (count : ℕ) (p p' : List ℕ) (r : Next) : Type 0 where
  pub says : (ts : List Token) (ss : Slots Written) → tokens class s ≡ some ts → parse (symbols ts) ≡ some ss → Short s → table_of s begins ends count ≡ name_table ts →
      highest_nesting 0 ts ≤ 16 → any misplaced (pieces ss) ≡ false → SizeShaped (slots_size (resolve_slots program_place ss)) →
      emitting p' (numbers r) ≡ emit_slots (resolve_slots program_place ss) (emitting p zeros)

-- where the source is tokens and one frame, the answer is the place of the first slot of the program frame
pub record FirstSlot (s : List ℕ) (r : ℕ) : Type 0 where
  pub is : (ts : List Token) (ss : Slots Written) → tokens class s ≡ some ts → parse (symbols ts) ≡ some ss → r ≡ first_slot_place (resolve_slots program_place ss) 0
