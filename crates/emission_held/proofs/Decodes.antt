-- What was emitted for a shaped program is read back as that program. Assumes nothing.
use mathlib.Core.Path.{◌≡◌, ◌∙◌, sym, ap, subst}
use mathlib.Core.List.{List}
use Prim.Native.Nat.{ℕ, ◌+◌}
use native.Mathlib.Omega.{arith}
use Rattle.framed.specs.Program.{Program, slots_parts}
use Rattle.tables.specs.Fields.{names, literals, instructions, codes, program_slots, start, code_first, instruction_after}
use Rattle.program_form.specs.Sound.{SlotPlace}
use Rattle.trees.specs.Held.{OneLevel, program_held, list_from, name_bytes, literal_bytes as bytes-held, slots_held, instruction_held}
use Rattle.shapes.specs.Numbers.{Numbers, zeros, slots_size}
use Rattle.shapes.specs.Shape.{Shaped}
use Rattle.emission_tree.specs.Standing.{Owner, Standing}
use Rattle.emission_tree.specs.Whole.{ProgramAt}
use Rattle.emission_tree.proofs.Whole.{program_standing, program_at}
use Rattle.emission_held.specs.Decodes.{LoadDecodes}
use Rattle.emission_held.proofs.Lists.{code_of, Reads, read_list, read_run, texts_listed}
use Rattle.emission_held.proofs.Decoded.{slots_read, slots_reads}

module _ (p l : List ℕ) (W : OneLevel p l) (γ : Standing) (q : Program) (F T : ℕ) (h : Shaped q) (a : ProgramAt p l γ q F T) where
  names_read : list_from (name_bytes p) (names p) 0 ≡ q.names
  unfolding name_bytes
  names_read = ap (λ (n : ℕ). list_from (name_bytes p) n 0) a.header.names_are ∙ read_list _ 0 q.names (texts_listed _ _ 0 q.names a.names)

  literals_read : list_from (bytes-held p l) (literals p) 0 ≡ q.literals
  unfolding bytes-held
  literals_read = ap (λ (n : ℕ). list_from (bytes-held p l) n 0) a.header.literals_are ∙ read_list _ 0 q.literals (texts_listed _ _ 0 q.literals a.literals)

  -- the numbers after the tree
  abbrev end : Numbers
  end = slots_size q.slots

  tree_reads : Reads p 0 0 (slots_parts q.slots) (0 + end.codes) (0 + end.instructions)
  tree_reads =
      let e = a.header in
      let s = h.size in
      slots_reads p l W γ _ _ end (omega arith) (omega arith) (omega arith) (omega arith) q.slots Owner.program 0 zeros (omega arith) a.slots

  codes_count : codes p ≡ 0 + end.codes
  codes_count = omega (arith, a.header.codes_are)

  instructions_count : instructions p ≡ 0 + end.instructions
  instructions_count = omega (arith, a.header.instructions_are)

  codes_read : list_from (code_of p) (codes p) 0 ≡ q.codes
  codes_read = read_run _ _ _ _ codes_count tree_reads.codes ∙ sym h.codes

  instructions_read : list_from (instruction_held p) (instructions p) 0 ≡ q.instructions
  instructions_read = read_run _ _ _ _ instructions_count tree_reads.instructions ∙ sym h.instructions

  firsts_read : list_from (code_first p) (codes p) 0 ≡ q.firsts
  firsts_read = read_run _ _ _ _ codes_count tree_reads.firsts ∙ sym h.firsts

  nexts_read : list_from (instruction_after p) (instructions p) 0 ≡ q.nexts
  nexts_read = read_run _ _ _ _ instructions_count tree_reads.nexts ∙ sym h.nexts

  tree_read : slots_held p (program_slots p) ≡ q.slots
  tree_read =
      let e = a.header in
      let s = h.size in
      ap (slots_held p) a.header.slots_are
      ∙ slots_read p l W γ _ _ end (omega arith) (omega arith) (omega arith) (omega arith) q.slots Owner.program 0 zeros (omega arith)
      (subst (SlotPlace p) a.header.slots_are SlotPlace.of_program) a.slots

  pub program_read : program_held p l ≡ q
  unfolding program_held
  program_read =
      λ i. record {
        names = names_read i;
        literals = literals_read i;
        codes = codes_read i;
        instructions = instructions_read i;
        firsts = firsts_read i;
        nexts = nexts_read i;
        slots = tree_read i;
        start = a.header.start_is i;
      }

pub load_decodes : LoadDecodes
load_decodes q F T h W =
    let a = program_at q F T h in
    record { program = program_read _ _ W (program_standing q) q F T h a; F_limit = a.header.F_is; T_limit = a.header.T_is }
