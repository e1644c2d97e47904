-- The words and bytes of a shaped program hold it. Assumes nothing.
use mathlib.Core.Path.{◌≡◌, refl, ◌∙◌, ap}
use mathlib.Core.List.{List}
use Prim.Native.Nat.{ℕ, ◌+◌, ◌*◌}
use native.Mathlib.Omega.{arith}
use native.Mathlib.Nat.{zero-add}
use lib.ListN.{length, length-replicate}
use Rattle.framed.specs.Program.{Program}
use Rattle.table_updates.proofs.Laws.{Region}
use Rattle.shapes.specs.Numbers.{Numbers, zeros, ◌⊕◌, slots_size}
use Rattle.shapes.specs.Shape.{Shaped, SizeShaped}
use Rattle.emission.specs.Emit.{emitting, emit_tree, cleared, write_names, write_literal_lengths, write_header, program_words, literal_bytes}
use Rattle.emission.specs.Frame.{Range, Same, Between, Writes}
use Rattle.emission.specs.Writes.{write_slots}
use Rattle.emission.proofs.Counted.{slots_emitted}
use Rattle.emission.proofs.Header.{header_region, header_at}
use Rattle.emission.proofs.Framed.{slots_writes}
use Rattle.emission.proofs.Sets.{same_in, same_before, region_writes}
use Rattle.emission_tree.specs.Standing.{Owner, Standing, slots_marks}
use Rattle.emission_tree.specs.Whole.{ProgramAt}
use Rattle.emission_tree.proofs.Marked.{standing, standing_marked}
use Rattle.emission_tree.proofs.Held.{slots_at}
use Rattle.emission.proofs.Texts.{Short, names_region, names_held, literal_lengths_region, literals_region, literals_held}

cleared_size : (n : ℕ) → length (cleared n) ≡ n
unfolding cleared
cleared_size n = length-replicate {A = ℕ} n 0

from_zeros : (s : Numbers) → zeros ⊕ s ≡ s
from_zeros s = λ i. record { expressions = zero-add s.expressions i; instructions = zero-add s.instructions i; path_names = zero-add s.path_names i; codes = zero-add s.codes i }

-- where the entries of a program stand
unfoldable pub program_standing : Program → Standing
program_standing q = standing (slots_marks q.slots Owner.program 0 zeros)

module _ (q : Program) (F T : ℕ) (h : Shaped q) where
  tree : List ℕ
  tree = write_slots q.slots zeros (cleared 16384)

  named : List ℕ
  named = write_names q.names 0 tree

  measured : List ℕ
  measured = write_literal_lengths q.literals 0 named

  emitted : emit_tree q ≡ emitting tree (slots_size q.slots)
  unfolding emit_tree tree
  emitted = slots_emitted q.slots zeros (cleared 16384) ∙ ap (emitting tree) (from_zeros (slots_size q.slots))

  written : program_words q F T ≡ write_header q F T (slots_size q.slots) measured
  unfolding program_words measured named
  written = rw emitted

  tree_writes : Writes (Range zeros (zeros ⊕ slots_size q.slots)) (cleared 16384) tree
  unfolding tree
  tree_writes = slots_writes _ _ q.slots zeros (cleared 16384) h.slots

  short_names : Short 16 q.names
  short_names = record { most = λ k lt. (h.name k lt).most }

  short_literals : Short 64 q.literals
  short_literals = record { most = λ k lt. (h.literal k lt).most }

  tree_size : length tree ≡ 16384
  tree_size = tree_writes.size ∙ cleared_size 16384

  named_region : Region tree named (64 + 17 * 0) (64 + 17 * (0 + length q.names))
  unfolding named
  named_region = names_region q.names 0 tree short_names

  measured_region : Region named measured (2240 + 0) (2240 + 0 + length q.literals)
  unfolding measured
  measured_region = literal_lengths_region q.literals 0 named

  module _ (p : List ℕ) (e : p ≡ write_header q F T (slots_size q.slots) measured) where
    header_writes : Region measured p 0 10
    header_writes = rw e (header_region q F T (slots_size q.slots) measured)

    measured_same : Same (Between 10 16384) measured p
    measured_same = record { same = λ k b. header_writes.away k (λ x y. omega arith) }

    named_same : Same (Between 64 2240) named p
    named_same = same_before _ _ _ _ p (region_writes _ _ _ _ measured_region) (same_in _ _ _ p measured_same (λ k b. record { from = omega arith; below = omega arith })) (λ k a b. omega arith)

    tree_range : (k : ℕ) → Range zeros (zeros ⊕ slots_size q.slots) k → Between 2368 16384 k
    tree_range k (Range.expression a b) = let f = h.size in record { from = omega arith; below = omega arith }
    tree_range k (Range.instruction a b) = let f = h.size in record { from = omega arith; below = omega arith }
    tree_range k (Range.path_name a b) = let f = h.size in record { from = omega arith; below = omega arith }
    tree_range k (Range.code a b) = let f = h.size in record { from = omega arith; below = omega arith }

    tree_same : Same (Range zeros (zeros ⊕ slots_size q.slots)) tree p
    tree_same =
        let n = h.names_most in
        let m = h.literals_most in
        same_in _ _ _ p
        (same_before (Between 2368 16384) _ _ _ p (region_writes _ _ _ _ named_region)
        (same_before (Between 2368 16384) _ _ _ p (region_writes _ _ _ _ measured_region)
        (same_in _ _ _ p measured_same (λ k b. record { from = omega arith; below = omega arith })) (λ k a b. omega arith)) (λ k a b. omega arith))
        tree_range

    size_shaped : SizeShaped (zeros ⊕ slots_size q.slots)
    size_shaped = let f = h.size in omega arith

    program_at_words : ProgramAt p (literal_bytes q) (program_standing q) q F T
    unfolding literal_bytes program_standing tree named measured
    program_at_words =
        let n = h.names_most in
        let m = h.literals_most in
        let ln = named_region.size ∙ tree_size in
        let lm = measured_region.size ∙ ln in
        record {
          size = header_writes.size ∙ lm;
          literal_size = (literals_region q.literals 0 (cleared 8192) short_literals).size ∙ cleared_size 8192;
          header = rw e (header_at q F T (slots_size q.slots) measured lm refl);
          names = names_held q.names 0 tree p tree_size (omega arith) short_names (same_in _ _ _ p named_same (λ k b. record { from = omega arith; below = omega arith }));
          literals =
              literals_held q.literals 0 named p (cleared 8192) (literal_bytes q) ln (cleared_size 8192) (omega arith) short_literals
              (same_in _ _ _ p measured_same (λ k b. record { from = omega arith; below = omega arith })) (record { same = λ k b. refl });
          slots =
              slots_at p (program_standing q) _ _ q.slots Owner.program 0 zeros (cleared 16384) h.slots (omega arith) size_shaped (cleared_size 16384)
              (standing_marked _) tree_same;
        }

  pub program_at : ProgramAt (program_words q F T) (literal_bytes q) (program_standing q) q F T
  program_at = program_at_words (program_words q F T) written
