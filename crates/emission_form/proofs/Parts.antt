-- What is part of what in emitted words. Assumes nothing.
use mathlib.Core.Path.{◌≡◌, refl, ◌∙◌, sym, ap, subst}
use mathlib.Core.List.{List}
use Prim.Native.Nat.{ℕ, zero, suc, ◌+◌, ◌≤◌, ◌<◌}
use native.Mathlib.Omega.{arith}
use Rattle.framed.specs.Tree.{Code, ◌then◌}
use Rattle.framed.specs.Paths.{Path}
use Rattle.tables.specs.declared.ExpressionEntry.{ExpressionEntry}
use Rattle.tables.specs.declared.InstructionEntry.{InstructionEntry}
use Rattle.tables.specs.Entries.{expression_at, instruction_at}
use Rattle.tables.specs.Fields.{expressions, instructions, codes, instruction_after, follow_instruction, instruction_walk}
use Rattle.tables.proofs.Walks.{slots_larger}
use Rattle.program_parts.specs.Parts.{PartOf, PartOfInstruction, Within, Names, Holds, StandsIn, Parts}
use Rattle.shapes.specs.Numbers.{Numbers, ◌⊕◌, one_instruction, code_size}
use Rattle.emission.specs.Emit.{first_place}
use Rattle.emission.specs.Frame.{AtMost}
use Rattle.emission.specs.Writes.{past_instruction}
use Rattle.emission_tree.specs.Standing.{Owner, Tag, tag, Standing}
use Rattle.emission_tree.specs.Entry.{CodeAt}
use Rattle.emission.proofs.Links.{code_reached, after_instruction}
use Rattle.emission_form.proofs.Cover.{SomeExpression, SomeInstruction, SomeCode}
use Rattle.emission_form.proofs.Slots.{Counts}
use Rattle.emission_form.proofs.Facts.{Facts, InstructionFacts, expression_facts, instruction_facts, code_named, code_larger, frame_tags, negated, negated_larger, left, left_larger, right, right_larger, self_tag, program_tag, shown, jump_to, jump_with, ifeq_test, ifeq_to, ifeq_with}

-- ---- Owners

same_expression : (x y c d : ℕ) → tag (Owner.expression x) c ≡ tag (Owner.expression y) d → x ≡ y
same_expression x y c d e = let o : Owner.expression x ≡ Owner.expression y = ap (λ (t : Tag). t.owner) e in cc

same_instruction : (i j c d : ℕ) → tag (Owner.instruction i) c ≡ tag (Owner.instruction j) d → i ≡ j
same_instruction i j c d e = let o : Owner.instruction i ≡ Owner.instruction j = ap (λ (t : Tag). t.owner) e in cc

different : (x i c d : ℕ) → tag (Owner.expression x) c ≡ tag (Owner.instruction i) d → ⊥
different x i c d e =
    let o : Owner.expression x ≡ Owner.instruction i = ap (λ (t : Tag). t.owner) e in
    let z : ◌≡◌ {A = ℕ} 0 1 = cc in
    omega arith

module _ (p : List ℕ) (γ : Standing) (N S : ℕ) (T : Numbers) (C : Counts p N S T)
    (E : (x : ℕ) → x < expressions p → SomeExpression p γ N S T x)
    (I : (i : ℕ) → i < instructions p → SomeInstruction p γ N S T i)
    (K : (k : ℕ) → k < codes p → SomeCode p γ N S T k) where
  facts : (x : ℕ) (e : ExpressionEntry) → x < expressions p → expression_at p x ≡ e → Facts p γ x (γ.tags x).inside e
  facts x e lt q = subst (Facts p γ x (γ.tags x).inside) q (expression_facts p γ N S T C x (E x lt))

  instruction_is : (i : ℕ) (e : InstructionEntry) → i < instructions p → instruction_at p i ≡ e → InstructionFacts p γ i (γ.homes i) e
  instruction_is i e lt q = subst (InstructionFacts p γ i (γ.homes i)) q (instruction_facts p γ N S T C i (I i lt))

  part_tag : (x a : ℕ) → PartOf p x a → γ.tags a ≡ tag (Owner.expression x) (γ.tags x).inside
  part_tag x a (PartOf.negated lt e) = (negated p γ x _ a (facts x _ lt e)).tagged
  part_tag x a (PartOf.left o g lt e) = (left p γ x _ o a g (facts x _ lt e)).tagged
  part_tag x a (PartOf.right o g lt e) = (right p γ x _ o g a (facts x _ lt e)).tagged
  part_tag x a (PartOf.slot d j lt e w) = frame_tags p γ x _ d (facts x _ lt e) j a w

  part_larger : (x a : ℕ) → PartOf p x a → x < a
  part_larger x a (PartOf.negated lt e) = negated_larger p γ x _ a (facts x _ lt e)
  part_larger x a (PartOf.left o g lt e) = left_larger p γ x _ o a g (facts x _ lt e)
  part_larger x a (PartOf.right o g lt e) = right_larger p γ x _ o g a (facts x _ lt e)
  part_larger x a (PartOf.slot d j lt e w) = slots_larger p x d j a w

  operand_tag : (i a : ℕ) → PartOfInstruction p i a → γ.tags a ≡ tag (Owner.instruction i) (1 + γ.homes i)
  operand_tag i a (PartOfInstruction.assigned_self j n lt e) = self_tag p γ i _ j n a (instruction_is i _ lt e)
  operand_tag i a (PartOfInstruction.assigned_program j n lt e) = program_tag p γ i _ j n a (instruction_is i _ lt e)
  operand_tag i a (PartOfInstruction.shown lt e) = (shown p γ i _ a (instruction_is i _ lt e)).tagged
  operand_tag i a (PartOfInstruction.jump_to g lt e) = (jump_to p γ i _ a g (instruction_is i _ lt e)).tagged
  operand_tag i a (PartOfInstruction.jump_with g lt e) = (jump_with p γ i _ g a (instruction_is i _ lt e)).tagged
  operand_tag i a (PartOfInstruction.ifeq_test g u lt e) = (ifeq_test p γ i _ a g u (instruction_is i _ lt e)).tagged
  operand_tag i a (PartOfInstruction.ifeq_to g u lt e) = (ifeq_to p γ i _ g a u (instruction_is i _ lt e)).tagged
  operand_tag i a (PartOfInstruction.ifeq_with g u lt e) = (ifeq_with p γ i _ g u a (instruction_is i _ lt e)).tagged

  -- ---- Codes

  walk_nowhere : (j : ℕ) → instruction_walk p 0 j ≡ 0
  unfolding instruction_walk follow_instruction
  walk_nowhere zero = refl
  walk_nowhere (suc j) = rw (walk_nowhere j)

  walk_from : (i j : ℕ) → instruction_walk p (instruction_after p i) j ≡ instruction_walk p (suc i) (suc j)
  unfolding instruction_walk follow_instruction
  walk_from i zero = refl
  walk_from i (suc j) = ap (follow_instruction p) (walk_from i j)

  walk_zero : (z : ℕ) → instruction_walk p z 0 ≡ z
  unfolding instruction_walk
  walk_zero z = refl

  -- what is met along a code has that code
  code_homes : (is : Code Path) (k : ℕ) (s : Numbers) → AtMost (s ⊕ code_size is) T → CodeAt p γ N S is k s → (j i : ℕ) →
      instruction_walk p (first_place is s.instructions) j ≡ suc i → γ.homes i ≡ k
  unfolding first_place code_size
  code_homes Code.finished k s m h j i e = let d = walk_nowhere j in absurd (omega arith)
  code_homes (o then is) k s m (CodeAt.next t h d r) zero i e =
      let z : s.instructions ≡ i = omega (arith, walk_zero (1 + s.instructions)) in
      ap γ.homes (sym z) ∙ t
  code_homes (o then is) k s m (CodeAt.next t h d r) (suc j) i e =
      let u : instruction_after p s.instructions ≡ first_place is (past_instruction o s).instructions =
      after_instruction p s.instructions _ d
      ∙ code_reached is s.instructions (past_instruction o s).instructions (omega arith) (omega (arith, C.instructions_most))
      in
      let n : suc s.instructions ≡ 1 + s.instructions = omega arith in
      code_homes is k (past_instruction o s) (omega arith) r j i
      (ap (λ (z : ℕ). instruction_walk p z j) (sym u) ∙ walk_from s.instructions j ∙ ap (λ (z : ℕ). instruction_walk p z (suc j)) n ∙ e)

  stands_home : (k i : ℕ) → StandsIn p k i → γ.homes i ≡ k
  stands_home k i h =
      let c = K k h.code_there in
      code_homes c.tree k c.start c.within c.at h.turns i (ap (λ (z : ℕ). instruction_walk p z h.turns) (sym c.first) ∙ h.here)

  name_home : (k x : ℕ) → Names p k x → γ.names k ≡ x
  name_home k x h = code_named p γ x _ k (facts x _ h.there h.is_code)

  within_inside : (a x : ℕ) → Within p a x → (γ.tags x).inside ≡ (γ.tags a).inside
  within_inside a _ Within.itself = refl
  within_inside a _ (Within.deeper x y w h) = ap (λ (t : Tag). t.inside) (part_tag x y h) ∙ within_inside a x w

  holds_larger : (k i m : ℕ) → StandsIn p k i → Holds p i m → k < m
  holds_larger k i m s h =
      let w = h.written in
      let x = h.expression in
      let a : (γ.tags x).inside ≡ (γ.tags w.part).inside = within_inside w.part x w.within in
      let b : (γ.tags w.part).inside ≡ 1 + γ.homes i = ap (λ (t : Tag). t.inside) (operand_tag i w.part w.of_instruction) in
      let c : (γ.tags x).inside ≤ m = code_larger p γ x _ m (facts x _ h.names.there h.names.is_code) in
      let d : γ.homes i ≡ k = stands_home k i s in
      omega arith

  pub parts_hold : Parts p
  parts_hold =
      record {
        larger = part_larger;
        one_expression = λ x y a f g. same_expression x y _ _ (sym (part_tag x a f) ∙ part_tag y a g);
        one_instruction = λ i j a f g. same_instruction i j _ _ (sym (operand_tag i a f) ∙ operand_tag j a g);
        never_both = λ x i a f g. different x i _ _ (sym (part_tag x a f) ∙ operand_tag i a g);
        stands = λ i lt. record { code = γ.homes i; stands = (I i lt).stands };
        one_code = λ k m i f g. sym (stands_home k i f) ∙ stands_home m i g;
        named = λ k lt. let c = K k lt in record { expression = γ.names k; names = record { there = omega (arith, C.expressions_are, c.there); is_code = c.named } };
        one_name = λ k x y f g. sym (name_home k x f) ∙ name_home k y g;
        larger_codes = holds_larger;
      }
