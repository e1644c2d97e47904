-- One law for each way through `same_instruction`, for what each call asks and for each fall of the weight. Assumes nothing.
use mathlib.Core.Path.{◌≡◌, ◌∙◌, ap, sym}
use mathlib.Core.Logic.{◌⊎◌, inl, inr}
use mathlib.Core.Bool.{Bool, true, false, ◌&&◌, and_assoc}
use mathlib.Core.List.{List}
use Prim.Native.Nat.{ℕ, ◌+◌, ◌<◌}
use native.Mathlib.Omega.{arith}
use native.Mathlib.Decide.{ℕ_discrete}
use Rattle.framed.specs.Tree.{Instruction}
use Rattle.framed.specs.Paths.{Path}
use Rattle.framed.specs.Equality.{same_path, same_base, same_instruction}
use Rattle.tables.specs.declared.InstructionEntry.{InstructionEntry}
use Rattle.tables.specs.Entries.{instruction_at}
use Rattle.tables.specs.Fields.{instruction_kind, instruction_a, instruction_b, instruction_c}
use Rattle.program_form.specs.WellFormed.{WellFormed}
use Rattle.texts.specs.Literals.{literals_held}
use Rattle.texts.specs.Texts.{Inside}
use Rattle.trees.specs.Held.{base_held, expression_held, instruction_held}
use Rattle.trees.proofs.Held as tree
use Rattle.program_weights.specs.Weight.{base_weight, expression_weight, instruction_weight}
use Rattle.program_equality.specs.Agreement.{names_agree, bases_agree, expressions_agree, instructions_agree, two_agree, three_agree, TwoBases, TwoExpressions, TwoInstructions}
use Rattle.program_equality.proofs.Bases.{path_inside}
use Rattle.program_equality.proofs.EntryKinds.{at_assign_self, at_assign_program, at_show, at_jump, at_ifeq, instruction_kinds, instructions_of_kinds}

module _ {p l : List ℕ} {i j : ℕ} (s : TwoInstructions p l i j) (k m : ℕ) (ek : k ≡ instruction_kind p i) (em : m ≡ instruction_kind p j) where
  w : WellFormed p l
  w = s.program

  pub instruction_apart : (m ≡ k → ⊥) → false ≡ instructions_agree p l i j
  unfolding instructions_agree
  instruction_apart n = instructions_of_kinds p l w (literals_held p l) i j s.left s.right (rw (← ek, ← em) n)

  instructions_as : (e f : Instruction Path) → instruction_held p i ≡ e → instruction_held p j ≡ f → instructions_agree p l i j ≡ same_instruction (literals_held p l) e f
  unfolding instructions_agree
  instructions_as e f ee ef = rw (ee, ef)

  module _ (same : m ≡ k) (a d : ℕ) (ea : a ≡ instruction_a p i) (ed : d ≡ instruction_a p j) where
    left_is : (n : ℕ) → k ≡ n → instruction_kind p i ≡ n
    left_is n e = sym ek ∙ e

    right_is : (n : ℕ) → k ≡ n → instruction_kind p j ≡ n
    right_is n e = sym em ∙ same ∙ e

    -- `show`
    module _ (e : k ≡ 2) where
      left_show : instruction_at p i ≡ InstructionEntry.Show a
      left_show = at_show p i (left_is 2 e) ∙ rw ea

      right_show : instruction_at p j ≡ InstructionEntry.Show d
      right_show = at_show p j (right_is 2 e) ∙ rw ed

      show_bases : TwoBases p l a d
      show_bases = record {
        program = w;
        left = (w.entries.instruction i s.left).shown a left_show;
        right = (w.entries.instruction j s.right).shown d right_show;
      }

      pub show_asked : (t : ℕ) → instruction_weight (instruction_held p i) ≡ t → (base_weight (base_held p a) < t) × TwoBases p l a d
      unfolding base_weight
      show_asked t h = let q = ap instruction_weight (tree.show_held p l w i s.left a left_show) in (omega arith, show_bases)

      pub instruction_shows : (r : Bool) → r ≡ bases_agree p l a d → r ≡ instructions_agree p l i j
      unfolding same_base bases_agree
      instruction_shows r er = er ∙ sym (instructions_as _ _ (tree.show_held p l w i s.left a left_show) (tree.show_held p l w j s.right d right_show))

    module _ (b f : ℕ) (eb : b ≡ instruction_b p i) (ef : f ≡ instruction_b p j) where
      -- `jump`
      module _ (e : k ≡ 3) where
        left_jump : instruction_at p i ≡ InstructionEntry.Jump a b
        left_jump = at_jump p i (left_is 3 e) ∙ rw (ea, eb)

        right_jump : instruction_at p j ≡ InstructionEntry.Jump d f
        right_jump = at_jump p j (right_is 3 e) ∙ rw (ed, ef)

        jump_first : TwoBases p l a d
        jump_first = record {
          program = w;
          left = (w.entries.instruction i s.left).jump_to a b left_jump;
          right = (w.entries.instruction j s.right).jump_to d f right_jump;
        }

        jump_second : TwoBases p l b f
        jump_second = record {
          program = w;
          left = (w.entries.instruction i s.left).jump_with a b left_jump;
          right = (w.entries.instruction j s.right).jump_with d f right_jump;
        }

        pub jump_asked : (t : ℕ) → instruction_weight (instruction_held p i) ≡ t
            → (base_weight (base_held p a) + base_weight (base_held p b) < t) × (TwoBases p l a d × TwoBases p l b f)
        unfolding base_weight
        jump_asked t h = let q = ap instruction_weight (tree.jump_held p l w i s.left a b left_jump) in (omega arith, (jump_first, jump_second))

        pub instruction_jumps : (r : Bool) → r ≡ two_agree p l a b d f → r ≡ instructions_agree p l i j
        unfolding same_base two_agree bases_agree
        instruction_jumps r er = er ∙ sym (instructions_as _ _ (tree.jump_held p l w i s.left a b left_jump) (tree.jump_held p l w j s.right d f right_jump))

      module _ (c g : ℕ) (ec : c ≡ instruction_c p i) (eg : g ≡ instruction_c p j) where
        -- `ifeq`
        module _ (e : k ≡ 4) where
          left_ifeq : instruction_at p i ≡ InstructionEntry.Ifeq a b c
          left_ifeq = at_ifeq p i (left_is 4 e) ∙ rw (ea, eb, ec)

          right_ifeq : instruction_at p j ≡ InstructionEntry.Ifeq d f g
          right_ifeq = at_ifeq p j (right_is 4 e) ∙ rw (ed, ef, eg)

          ifeq_first : TwoBases p l a d
          ifeq_first = record {
            program = w;
            left = (w.entries.instruction i s.left).ifeq_test a b c left_ifeq;
            right = (w.entries.instruction j s.right).ifeq_test d f g right_ifeq;
          }

          ifeq_second : TwoBases p l b f
          ifeq_second = record {
            program = w;
            left = (w.entries.instruction i s.left).ifeq_to a b c left_ifeq;
            right = (w.entries.instruction j s.right).ifeq_to d f g right_ifeq;
          }

          ifeq_third : TwoBases p l c g
          ifeq_third = record {
            program = w;
            left = (w.entries.instruction i s.left).ifeq_with a b c left_ifeq;
            right = (w.entries.instruction j s.right).ifeq_with d f g right_ifeq;
          }

          pub ifeq_asked : (t : ℕ) → instruction_weight (instruction_held p i) ≡ t
              → (base_weight (base_held p a) + base_weight (base_held p b) + base_weight (base_held p c) < t) × (TwoBases p l a d × TwoBases p l b f × TwoBases p l c g)
          unfolding base_weight
          ifeq_asked t h = let q = ap instruction_weight (tree.ifeq_held p l w i s.left a b c left_ifeq) in (omega arith, (ifeq_first, ifeq_second, ifeq_third))

          pub instruction_ifeqs : (r : Bool) → r ≡ three_agree p l a b c d f g → r ≡ instructions_agree p l i j
          unfolding same_base three_agree two_agree bases_agree
          instruction_ifeqs r er =
              er
              ∙ and_assoc (bases_agree p l a d) (bases_agree p l b f) (bases_agree p l c g)
              ∙ sym (instructions_as _ _ (tree.ifeq_held p l w i s.left a b c left_ifeq) (tree.ifeq_held p l w j s.right d f g right_ifeq))

        -- an assignment
        module _ (n2 : k ≡ 2 → ⊥) (n3 : k ≡ 3 → ⊥) (n4 : k ≡ 4 → ⊥) where
          assign_kind : (k ≡ 0) ⊎ (k ≡ 1)
          assign_kind = let lt = instruction_kinds p l w i s.left in go (ℕ_discrete k 0) (omega arith)
            where
              go : Dec (k ≡ 0) → k < 5 → (k ≡ 0) ⊎ (k ≡ 1)
              go (yes e) lt = inl e
              go (no n) lt = inr (omega arith)

          left_self : k ≡ 0 → instruction_at p i ≡ InstructionEntry.AssignSelf a b c
          left_self e = at_assign_self p i (left_is 0 e) ∙ rw (ea, eb, ec)

          right_self : k ≡ 0 → instruction_at p j ≡ InstructionEntry.AssignSelf d f g
          right_self e = at_assign_self p j (right_is 0 e) ∙ rw (ed, ef, eg)

          left_program : k ≡ 1 → instruction_at p i ≡ InstructionEntry.AssignProgram a b c
          left_program e = at_assign_program p i (left_is 1 e) ∙ rw (ea, eb, ec)

          right_program : k ≡ 1 → instruction_at p j ≡ InstructionEntry.AssignProgram d f g
          right_program e = at_assign_program p j (right_is 1 e) ∙ rw (ed, ef, eg)

          pub assign_paths : Inside p (2496 + a) b × Inside p (2496 + d) f
          assign_paths = go assign_kind
            where
              go : (k ≡ 0) ⊎ (k ≡ 1) → Inside p (2496 + a) b × Inside p (2496 + d) f
              go (inl e) = (
                path_inside p l w a b ((w.entries.instruction i s.left).self_path a b c (left_self e)),
                path_inside p l w d f ((w.entries.instruction j s.right).self_path d f g (right_self e)),
              )
              go (inr e) = (
                path_inside p l w a b ((w.entries.instruction i s.left).program_path a b c (left_program e)),
                path_inside p l w d f ((w.entries.instruction j s.right).program_path d f g (right_program e)),
              )

          assign_expressions : TwoExpressions p l c g
          assign_expressions = go assign_kind
            where
              go : (k ≡ 0) ⊎ (k ≡ 1) → TwoExpressions p l c g
              go (inl e) = record {
                program = w;
                left = (w.entries.instruction i s.left).self_there a b c (left_self e);
                right = (w.entries.instruction j s.right).self_there d f g (right_self e);
              }
              go (inr e) = record {
                program = w;
                left = (w.entries.instruction i s.left).program_there a b c (left_program e);
                right = (w.entries.instruction j s.right).program_there d f g (right_program e);
              }

          pub assign_asked : (t : ℕ) → instruction_weight (instruction_held p i) ≡ t → (expression_weight (expression_held p c) < t) × TwoExpressions p l c g
          unfolding base_weight
          assign_asked t h = (go assign_kind, assign_expressions)
            where
              go : (k ≡ 0) ⊎ (k ≡ 1) → expression_weight (expression_held p c) < t
              go (inl e) = let q = ap instruction_weight (tree.assign_self_held p l w i s.left a b c (left_self e)) in omega arith
              go (inr e) = let q = ap instruction_weight (tree.assign_program_held p l w i s.left a b c (left_program e)) in omega arith

          assigns_agree : (k ≡ 0) ⊎ (k ≡ 1) → names_agree p a b d f && expressions_agree p l c g ≡ instructions_agree p l i j
          unfolding same_base same_path names_agree expressions_agree
          assigns_agree (inl e) =
              sym (instructions_as _ _ (tree.assign_self_held p l w i s.left a b c (left_self e)) (tree.assign_self_held p l w j s.right d f g (right_self e)))
          assigns_agree (inr e) =
              sym (instructions_as _ _ (tree.assign_program_held p l w i s.left a b c (left_program e)) (tree.assign_program_held p l w j s.right d f g (right_program e)))

          module _ (q : Bool) (eq : q ≡ names_agree p a b d f) where
            pub assign_apart : q ≡ false → false ≡ instructions_agree p l i j
            assign_apart n = rw (← eq, n) at (assigns_agree assign_kind)

            pub instruction_assigns : q ≡ true → (r : Bool) → r ≡ expressions_agree p l c g → r ≡ instructions_agree p l i j
            instruction_assigns y r er = er ∙ (rw (← eq, y) at (assigns_agree assign_kind))
