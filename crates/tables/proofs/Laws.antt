-- One law for each way through the readers of links and through the decoders. Assumes nothing.
use mathlib.Core.Path.{◌≡◌, refl, ap, ◌∙◌}
use mathlib.Core.List.{List}
use Prim.Native.Nat.{ℕ, zero, suc, ◌+◌, ◌-◌, ◌*◌, ◌≤◌, ◌<◌}
use native.Mathlib.Omega.{arith}
use lib.ListN.{get_or}
use borrow.Author.Tests.{eq-eqb, ne_eqb, le-leb, lt-leb}
use Rattle.tables.specs.declared.ExpressionEntry.{ExpressionEntry}
use Rattle.tables.specs.declared.InstructionEntry.{InstructionEntry}
use Rattle.std.proofs.lemmas.Bool.Decides.{nat_tests}
use Rattle.words.specs.Words.{word}
use Rattle.tables.specs.Fields.{link, slot_after, follow_slot, expression_kind, expression_a, expression_b, instruction_kind, instruction_a, instruction_b, instruction_c}
use Rattle.tables.specs.Entries.{expression_of, expression_at, instruction_of, instruction_at}

-- ---- Links

pub no_link : (n x d : ℕ) → d ≡ 0 → 0 ≡ link n x d
unfolding link
no_link n x d e = rw (eq-eqb d 0 e)

module _ (n x d : ℕ) (ne : d ≡ 0 → ⊥) where
  module _ (m y e : ℕ) (em : m ≡ n) (ey : y ≡ x) (ee : e ≡ d) where
    pub link_past : m ≤ y + e → 0 ≡ link n x d
    unfolding link
    link_past le = rw (ne_eqb d 0 ne, le-leb n (x + d) (omega arith))

    pub link_inside : y + e < m → 1 + x + d ≡ link n x d
    unfolding link
    link_inside lt = rw (ne_eqb d 0 ne, lt-leb n (x + d) (omega arith))

pub follow_end : (p : List ℕ) (z : ℕ) → z ≡ 0 → 0 ≡ follow_slot p z
unfolding follow_slot
follow_end p z e = rw e

pub follow_on : (p : List ℕ) (z r : ℕ) → (z ≡ 0 → ⊥) → r ≡ slot_after p (z - 1) → r ≡ follow_slot p z
unfolding follow_slot
follow_on p zero r ne e = absurd (ne refl)
follow_on p (suc y) r ne e = e ∙ ap (slot_after p) (omega arith)

-- ---- The words of an entry, one after the other

module _ (p : List ℕ) (x y : ℕ) (e : y ≡ x) where
  next : (n m k : ℕ) → n + 5 * y + k ≡ m + 5 * x → get_or p (n + 5 * y + k) 0 ≡ word p (m + 5 * x)
  unfolding word
  next n m k e = ap (λ (i : ℕ). get_or p i 0) e

  first : (n : ℕ) → get_or p (n + 5 * y) 0 ≡ word p (n + 5 * x)
  unfolding word
  first n = rw e

  pub expression_read : (r : ExpressionEntry) →
      r ≡ expression_of (get_or p (7104 + 5 * y) 0) (get_or p (7104 + 5 * y + 1) 0) (get_or p (7104 + 5 * y + 2) 0) → r ≡ expression_at p x
  unfolding expression_at expression_kind expression_a expression_b
  expression_read r er = rw (er, first 7104, next 7104 7105 1 (omega arith), next 7104 7106 2 (omega arith))

  pub instruction_read : (r : InstructionEntry) →
      r ≡ instruction_of (get_or p (4544 + 5 * y) 0) (get_or p (4544 + 5 * y + 1) 0) (get_or p (4544 + 5 * y + 2) 0) (get_or p (4544 + 5 * y + 3) 0) → r ≡ instruction_at p x
  unfolding instruction_at instruction_kind instruction_a instruction_b instruction_c
  instruction_read r er =
      rw (er, first 4544, next 4544 4545 1 (omega arith), next 4544 4546 2 (omega arith), next 4544 4547 3 (omega arith))

-- ---- Decoding an entry: the kinds that stand for no one number

module _ (k a b : ℕ) where
  pub is_operate : 7 ≤ k → k < 16 → ExpressionEntry.Operate k a b ≡ expression_of k a b
  unfolding expression_of
  is_operate le lt = grind (arith, nat_tests)

  pub is_bad : 16 ≤ k → ExpressionEntry.Bad ≡ expression_of k a b
  unfolding expression_of
  is_bad le = grind (arith, nat_tests)

  pub is_bad_instruction : (c : ℕ) → 5 ≤ k → InstructionEntry.Bad ≡ instruction_of k a b c
  unfolding instruction_of
  is_bad_instruction c le = grind (arith, nat_tests)
