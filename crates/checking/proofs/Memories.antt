-- Well-formed memories have what the functions of this crate ask. Assumes nothing.
use Prim.Native.Nat.{ℕ, ◌+◌, ◌*◌, ◌≤◌, ◌<◌}
use mathlib.Core.List.{List}
use native.Mathlib.Omega.{arith}
use lib.ListN.{length}
use Rattle.tables.specs.Fields.{literals, literal_length, instructions}
use Rattle.heap.specs.Words.{text_length}
use Rattle.state_form.proofs.Facts.{well_formed_sized}
use Rattle.program_form.specs.WellFormed as program
use Rattle.wellformed.specs.WellFormed.{WellFormed}
use Rattle.checking.specs.Checking.{Checks, AssignsOrShows, ChecksInstruction}

literal_inside : (p l : List ℕ) → program.WellFormed p l → (k : ℕ) → k < literals p → 64 * k + literal_length p k ≤ length l
literal_inside p l w k lt =
    let a = w.entries.limits.literals_most in
    let b = (w.entries.texts.literal k lt).most in
    let c = w.literal_size in
    omega arith

module _ (p h l t : List ℕ) (w : WellFormed p h l t) where
  text_inside : (k : ℕ) → k < 256 → 64 * k + text_length h k ≤ length t
  unfolding text_length
  text_inside k lt =
      let a = (well_formed_sized w.state).texts k lt in
      let b = w.state.text_size in
      omega arith

  pub well_formed_checks : Checks p l h t
  well_formed_checks =
      record {
        program = w.program;
        readable = record { literals = record { inside = literal_inside p l w.program }; made = record { inside = text_inside } };
      }

  pub instruction_checks : (i : ℕ) → i < instructions p → AssignsOrShows p i → ChecksInstruction p l h t i
  instruction_checks i lt f = record { memories = well_formed_checks; there = lt; form = f }
