-- After an instruction, what remains is what stands at the number of the next. Assumes nothing.
use Prim.Native.Nat.{ℕ, suc, ◌<◌}
use mathlib.Core.Path.{◌≡◌}
use mathlib.Core.Bool.{Bool, true, false}
use mathlib.Core.List.{List, [], ◌∷◌}
use lib.ListN.{get_or}
use Rattle.framed.specs.Common.{when◌then◌else◌}
use Rattle.framed.specs.Tree.{Instruction, Code}
use Rattle.framed.specs.Paths.{Path, from_self, from_program}
use Rattle.framed.specs.Program.{Program}
use Rattle.framed.specs.Values.{truth}
use Rattle.framed.specs.Machine.{Result, gives, ends, base_value, following, first_of}
use Rattle.tables.specs.Fields.{instructions, instruction_after}
use Rattle.program_form.specs.WellFormed.{WellFormed}
use Rattle.trees.specs.Held.{remaining, program_held}
use Rattle.trees.proofs.Held.{one_level_held}
use Rattle.places.proofs.Codes.{code_at, place_begins}
use Rattle.bounded.specs.Check.{Jump, jump_result}
use Rattle.bounded.specs.Bounded.{Bounded, Produced, value_given, heap_in, goes_on, commit_assign, commit_jump, commit}
use Rattle.word_store.specs.Store.{Memories, word_store}

module _ (p l : List ℕ) (w : WellFormed p l) where
  abbrev q : Program
  q = program_held p l

  code_remains : (k : ℕ) → remaining p (first_of q k) ≡ get_or q.codes k Code.finished
  code_remains k = rw (← (place_begins p l w k)) (code_at p l w k)

  module _ (b : Bounded Memories) (agrees : remaining p b.next ≡ b.remaining) where
    jump_remains : (r : Result Jump) → remaining p (commit_jump word_store q b r).next ≡ (commit_jump word_store q b r).remaining
    unfolding commit_jump
    jump_remains (gives j) = code_remains j.code
    jump_remains (ends e) = agrees

    module _ (i : ℕ) (there : i < instructions p) (here : b.next ≡ suc i) where
      abbrev rest : Code Path
      rest = remaining p (instruction_after p i)

      abbrev number : ℕ
      number = following q b.next

      after : remaining p number ≡ rest
      after = rw (here, (one_level_held p l w).follows i there)

      assign_remains : (path : Path) (r : Produced Memories) → remaining p (commit_assign word_store b rest number path r).next ≡ (commit_assign word_store b rest number path r).remaining
      unfolding commit_assign
      assign_remains (from_self []) r = after
      assign_remains (from_self (n ∷ ns)) r = after
      assign_remains (from_program []) r = after
      assign_remains (from_program (n ∷ ns)) r = after

      branch_remains : (t : Bool) (r : Result Jump) →
          let c = when t then goes_on word_store b rest number b.self b.program b.store else commit_jump word_store q b r in
          remaining p c.next ≡ c.remaining
      branch_remains true r = after
      branch_remains false r = jump_remains r

      pub next_remains : (x : Instruction Path) → remaining p (commit word_store q b rest x).next ≡ (commit word_store q b rest x).remaining
      unfolding commit
      next_remains (Instruction.assign path e) = assign_remains path _
      next_remains (Instruction.show a) = after
      next_remains (Instruction.jump a c) = jump_remains _
      next_remains (Instruction.ifeq a c d) =
          branch_remains (truth (value_given (base_value b.self b.program (heap_in word_store b.store).frames a)))
          (jump_result b.self b.program (heap_in word_store b.store).frames c d)
