-- One law for each way through the functions that count, for what each call asks and for each fall of the measure. Assumes nothing.
use Prim.Native.Nat.{ℕ, ◌+◌, ◌-◌, ◌*◌, ◌≤◌, ◌<◌}
use mathlib.Core.Path.{◌≡◌, refl, ◌∙◌, ap, sym}
use mathlib.Core.List.{List}
use mathlib.Core.Bool.{Bool, true, false}
use native.Mathlib.Omega.{arith}
use lib.Dec.{eqb}
use borrow.Author.Tests.{ne_eqb}
use Rattle.words.specs.Words.{pick}
use Rattle.framed.specs.Tokens.{Operator}
use Rattle.framed.specs.Tree.{Expression, Slots}
use Rattle.framed.specs.Paths.{Path}
use Rattle.framed.specs.Machine.{frame_literals, frame_literals_in, is_join, join_signs, join_signs_in, right_side}
use Rattle.tables.specs.declared.ExpressionEntry.{ExpressionEntry}
use Rattle.tables.specs.declared.InstructionEntry.{InstructionEntry}
use Rattle.tables.specs.Entries.{expression_at, instruction_at}
use Rattle.tables.specs.Fields.{expressions, expression_kind, link, slot_after}
use Rattle.program_entries.specs.Form as form
use Rattle.trees.specs.Trees.{Readers, expression_tree, operator_of}
use Rattle.trees.specs.Held.{base_held, expression_held, slots_held, instruction_held, held}
use Rattle.trees.proofs.Held.{one_level_held, assign_self_held, assign_program_held, show_held, jump_held, ifeq_held}
use Rattle.places.specs.Places.{AtExpression, AtSlots, AtInstruction, expression_measure, slots_measure}
use Rattle.places.proofs.Laws as places
use Rattle.needs.specs.Needs.{cap, both, summed, join_sign, RightSide}
use Rattle.needs.proofs.Cap.{cap_small, most, both_sum}

ap_both : {f g n m : ℕ} → f ≡ g → n ≡ m → both f n ≡ both g m
ap_both e q = rw (e, q)

one : 1 ≡ both 1 0
unfolding both cap
one = refl

-- ---- A frame literal: its slots

module _ (p : List ℕ) (x : ℕ) (a : AtExpression p x) (e : ExpressionEntry) (at : e ≡ expression_at p x) (d : ℕ) (is : e ≡ ExpressionEntry.Frame d)
    (z : ℕ) (here : z ≡ link 1024 x d) where
  pub frame_slots : AtSlots p z
  frame_slots =
      record {
        literal_bytes = a.literal_bytes;
        program = a.program;
        place = places.frame_place p a.literal_bytes a.program x d z a.there (sym at ∙ is) here;
      }

  pub frame_falls : (t : ℕ) → expression_measure x ≡ t → slots_measure z < t
  frame_falls t q = rw (← q) (places.frame_falls p a.literal_bytes a.program x d z a.there (sym at ∙ is) here)

  frame_open : expression_held p x ≡ Expression.frame (slots_held p z)
  frame_open = places.frame_open p a.literal_bytes a.program x d z a.there (sym at ∙ is) here

  pub made_frame : (n r : ℕ) → n ≡ both (frame_literals_in (slots_held p z)) (join_signs_in (slots_held p z)) → r ≡ summed 1 n
      → r ≡ both (frame_literals (expression_held p x)) (join_signs (expression_held p x))
  unfolding frame_literals join_signs
  made_frame n r en er =
      rw (er, en, frame_open)
      (ap (λ k. summed k (both (frame_literals_in (slots_held p z)) (join_signs_in (slots_held p z)))) one ∙ both_sum 1 0 (frame_literals_in (slots_held p z)) (join_signs_in (slots_held p z)) ∙ ap_both (omega arith) (omega arith))

-- ---- Any other expression

abbrev Other : ExpressionEntry → Type 0
Other e = ((k : ℕ) → e ≡ ExpressionEntry.Frame k → ⊥)

no_frames : (r : Readers) (p : List ℕ) (x : ℕ) (e : ExpressionEntry) → Other e → frame_literals (expression_tree r p x e) ≡ 0
unfolding expression_tree frame_literals
no_frames r p x (ExpressionEntry.Integer w) k = refl
no_frames r p x (ExpressionEntry.Literal n) k = refl
no_frames r p x (ExpressionEntry.FromSelf j n) k = refl
no_frames r p x (ExpressionEntry.FromProgram j n) k = refl
no_frames r p x (ExpressionEntry.Code n) k = refl
no_frames r p x (ExpressionEntry.Frame d) k = absurd (k d refl)
no_frames r p x (ExpressionEntry.Not a) k = refl
no_frames r p x (ExpressionEntry.Operate o a b) k = refl
no_frames r p x ExpressionEntry.Bad k = refl

own_joins : (r : Readers) (p : List ℕ) (x : ℕ) (e : ExpressionEntry) → Other e → join_signs (expression_tree r p x e) ≡ join_sign e
unfolding expression_tree join_signs join_sign
own_joins r p x (ExpressionEntry.Integer w) k = refl
own_joins r p x (ExpressionEntry.Literal n) k = refl
own_joins r p x (ExpressionEntry.FromSelf j n) k = refl
own_joins r p x (ExpressionEntry.FromProgram j n) k = refl
own_joins r p x (ExpressionEntry.Code n) k = refl
own_joins r p x (ExpressionEntry.Frame d) k = absurd (k d refl)
own_joins r p x (ExpressionEntry.Not a) k = refl
own_joins r p x (ExpressionEntry.Operate o a b) k = refl
own_joins r p x ExpressionEntry.Bad k = refl

cap_join : (o : Operator) → cap (is_join o) ≡ is_join o
unfolding is_join cap
cap_join Operator.plus = refl
cap_join Operator.minus = refl
cap_join Operator.times = refl
cap_join Operator.over = refl
cap_join Operator.less = refl
cap_join Operator.join = refl
cap_join Operator.equal = refl
cap_join Operator.and = refl
cap_join Operator.or = refl

cap_sign : (e : ExpressionEntry) → cap (join_sign e) ≡ join_sign e
unfolding join_sign
cap_sign (ExpressionEntry.Integer w) = cap_small 0 (omega arith)
cap_sign (ExpressionEntry.Literal n) = cap_small 0 (omega arith)
cap_sign (ExpressionEntry.FromSelf j n) = cap_small 0 (omega arith)
cap_sign (ExpressionEntry.FromProgram j n) = cap_small 0 (omega arith)
cap_sign (ExpressionEntry.Code n) = cap_small 0 (omega arith)
cap_sign (ExpressionEntry.Frame d) = cap_small 0 (omega arith)
cap_sign (ExpressionEntry.Not a) = cap_small 0 (omega arith)
cap_sign (ExpressionEntry.Operate o a b) = cap_join (operator_of o)
cap_sign ExpressionEntry.Bad = cap_small 0 (omega arith)

module _ (p : List ℕ) (x : ℕ) (a : AtExpression p x) (e : ExpressionEntry) (at : e ≡ expression_at p x) (k : Other e) where
  other_open : expression_held p x ≡ expression_tree (held p) p x e
  other_open = (one_level_held p a.literal_bytes a.program).expression x a.there ∙ ap (expression_tree (held p) p x) (sym at)

  pub made_other : (r : ℕ) → r ≡ join_sign e → 512 * r ≡ both (frame_literals (expression_held p x)) (join_signs (expression_held p x))
  unfolding both
  made_other r er =
      rw (er, other_open, no_frames (held p) p x e k, own_joins (held p) p x e k, cap_sign e, cap_small 0 (omega arith)) (omega arith)

pub sign_few : (e : ExpressionEntry) (r : ℕ) → r ≡ join_sign e → r ≤ 257
sign_few e r er = most (join_sign e) r (er ∙ sym (cap_sign e))

pub sign_other : (e : ExpressionEntry) → ((k : ℕ) (n : ℕ) (i : ℕ) → e ≡ ExpressionEntry.Operate k n i → ⊥) → 0 ≡ join_sign e
unfolding join_sign
sign_other (ExpressionEntry.Integer w) k = refl
sign_other (ExpressionEntry.Literal n) k = refl
sign_other (ExpressionEntry.FromSelf j n) k = refl
sign_other (ExpressionEntry.FromProgram j n) k = refl
sign_other (ExpressionEntry.Code n) k = refl
sign_other (ExpressionEntry.Frame d) k = refl
sign_other (ExpressionEntry.Not a) k = refl
sign_other (ExpressionEntry.Operate o a b) k = absurd (k o a b refl)
sign_other ExpressionEntry.Bad k = refl

module _ (e : ExpressionEntry) (o a b : ℕ) (is : e ≡ ExpressionEntry.Operate o a b) where
  pub sign_join : o ≡ 12 → 1 ≡ join_sign e
  unfolding join_sign is_join operator_of
  sign_join q = rw (is, q)

  pub sign_none : (o ≡ 12 → ⊥) → 0 ≡ join_sign e
  unfolding join_sign operator_of is_join
  sign_none q = rw (is, ne_eqb o 12 q) (go (eqb o 7) (eqb o 8) (eqb o 9) (eqb o 10) (eqb o 11) (eqb o 13) (eqb o 14))
    where
      go : (b₇ b₈ b₉ b₁₀ b₁₁ b₁₃ b₁₄ : Bool)
          → 0 ≡ is_join (pick b₇ Operator.plus (pick b₈ Operator.minus (pick b₉ Operator.times (pick b₁₀ Operator.over (pick b₁₁ Operator.less (pick b₁₃ Operator.equal (pick b₁₄ Operator.and Operator.or)))))))
      go true b₈ b₉ b₁₀ b₁₁ b₁₃ b₁₄ = refl
      go false true b₉ b₁₀ b₁₁ b₁₃ b₁₄ = refl
      go false false true b₁₀ b₁₁ b₁₃ b₁₄ = refl
      go false false false true b₁₁ b₁₃ b₁₄ = refl
      go false false false false true b₁₃ b₁₄ = refl
      go false false false false false true b₁₄ = refl
      go false false false false false false true = refl
      go false false false false false false false = refl

-- ---- The slots from a place on

module _ (p : List ℕ) (from : ℕ) where
  -- n is f and t of the slots before the place z
  pub record Counted (n z : ℕ) : Type 0 where
    at : AtSlots p z
    fewer : slots_measure z ≤ slots_measure from
    frames_so_far : ℕ
    joins_so_far : ℕ
    is : n ≡ both frames_so_far joins_so_far
    frames : frames_so_far + frame_literals_in (slots_held p z) ≡ frame_literals_in (slots_held p from)
    joins : joins_so_far + join_signs_in (slots_held p z) ≡ join_signs_in (slots_held p from)

  pub counted_none : AtSlots p from → Counted 0 from
  unfolding both cap
  counted_none a = record { at = a; fewer = omega arith; frames_so_far = 0; joins_so_far = 0; is = refl; frames = omega arith; joins = omega arith }

  module _ (n z : ℕ) (k : Counted n z) where
    pub counted_all : z ≡ 0 → n ≡ both (frame_literals_in (slots_held p from)) (join_signs_in (slots_held p from))
    unfolding frame_literals join_signs
    counted_all e = rw (k.is, ← k.frames, ← k.joins, ended) (ap_both (omega arith) (omega arith))
      where
        ended : slots_held p z ≡ Slots.no_slots
        ended = ap (slots_held p) e ∙ (one_level_held p k.at.literal_bytes k.at.program).no_slots

    module _ (ne : z ≡ 0 → ⊥) where
      pub slot_expression : AtExpression p (z - 1)
      slot_expression =
          record {
            literal_bytes = k.at.literal_bytes;
            program = k.at.program;
            there = places.slot_there p k.at.literal_bytes k.at.program z k.at.place ne;
          }

      pub slot_falls : (t : ℕ) → slots_measure from ≡ t → expression_measure (z - 1) < t
      slot_falls t q =
          let a = places.slot_falls p k.at.literal_bytes k.at.program z k.at.place ne in
          let b = k.fewer in
          omega arith

      module _ (m : ℕ) (next : m ≡ slot_after p (z - 1)) where
        pub next_falls : slots_measure m < slots_measure z
        next_falls = places.next_falls p k.at.literal_bytes k.at.program z k.at.place ne m next

        pub counted_more : (o r : ℕ) → o ≡ both (frame_literals (expression_held p (z - 1))) (join_signs (expression_held p (z - 1))) → r ≡ summed n o → Counted r m
        unfolding frame_literals join_signs
        counted_more o r eo er = record {
          at = record {
            literal_bytes = k.at.literal_bytes;
            program = k.at.program;
            place = places.next_place p k.at.literal_bytes k.at.program z k.at.place ne m next;
          };
          fewer = let a = next_falls in let b = k.fewer in omega arith;
          frames_so_far = k.frames_so_far + frame_literals (expression_held p (z - 1));
          joins_so_far = k.joins_so_far + join_signs (expression_held p (z - 1));
          is = rw (er, k.is, eo) (both_sum k.frames_so_far k.joins_so_far (frame_literals (expression_held p (z - 1))) (join_signs (expression_held p (z - 1))));
          frames = let a = rw (places.slots_open p k.at.literal_bytes k.at.program z k.at.place ne m next) at k.frames in omega arith;
          joins = let a = rw (places.slots_open p k.at.literal_bytes k.at.program z k.at.place ne m next) at k.joins in omega arith;
        }

        -- a base has neither
        bare : (q : ℕ) → q ≡ expression_kind p (z - 1) → q ≤ 4 → 0 ≡ both (frame_literals (expression_held p (z - 1))) (join_signs (expression_held p (z - 1)))
        unfolding frame_literals join_signs both cap
        bare q e le = rw ((one_level_held p k.at.literal_bytes k.at.program).as_base (z - 1) slot_expression.there (omega arith)) refl

        none_more : n ≡ summed n 0
        unfolding both cap
        none_more =
            let f = k.frames_so_far in
            let j = k.joins_so_far in
            rw k.is (ap_both {f = f} {g = f + 0} {n = j} {m = j + 0} (omega arith) (omega arith) ∙ sym (both_sum f j 0 0))

        pub counted_skip : (q r : ℕ) → q ≡ expression_kind p (z - 1) → q ≤ 4 → r ≡ n → Counted r m
        counted_skip q r e le same = counted_more 0 r (bare q e le) (same ∙ none_more)

-- ---- The expression of an instruction

module _ (p : List ℕ) (i : ℕ) (a : AtInstruction p i) (e : InstructionEntry) (at : e ≡ instruction_at p i) where
  forms : form.InstructionForm p i
  forms = a.program.entries.instruction i a.there

  side : (x : ℕ) → x < expressions p → (g : Expression Path) → expression_held p x ≡ g → right_side (instruction_held p i) ≡ g → RightSide p i x
  side x lt g ex ei = record { at = record { literal_bytes = a.literal_bytes; program = a.program; there = lt }; is = ex ∙ sym ei }

  -- an operand is a base
  side_base : (x : ℕ) → form.Base p x → right_side (instruction_held p i) ≡ Expression.base (base_held p x) → RightSide p i x
  side_base x b ei = side x b.there (Expression.base (base_held p x)) ((one_level_held p a.literal_bytes a.program).as_base x b.there b.base) ei

  module _ (x j n : ℕ) where
    pub side_self : e ≡ InstructionEntry.AssignSelf j n x → RightSide p i x
    unfolding right_side
    side_self q =
        side x (forms.self_there j n x (sym at ∙ q)) (expression_held p x) refl
        (ap right_side (assign_self_held p a.literal_bytes a.program i a.there j n x (sym at ∙ q)))

    pub side_program : e ≡ InstructionEntry.AssignProgram j n x → RightSide p i x
    unfolding right_side
    side_program q =
        side x (forms.program_there j n x (sym at ∙ q)) (expression_held p x) refl
        (ap right_side (assign_program_held p a.literal_bytes a.program i a.there j n x (sym at ∙ q)))

  pub side_show : (x : ℕ) → e ≡ InstructionEntry.Show x → RightSide p i x
  unfolding right_side
  side_show x q = side_base x (forms.shown x (sym at ∙ q)) (ap right_side (show_held p a.literal_bytes a.program i a.there x (sym at ∙ q)))

  pub side_jump : (x b : ℕ) → e ≡ InstructionEntry.Jump x b → RightSide p i x
  unfolding right_side
  side_jump x b q = side_base x (forms.jump_to x b (sym at ∙ q)) (ap right_side (jump_held p a.literal_bytes a.program i a.there x b (sym at ∙ q)))

  pub side_ifeq : (x b c : ℕ) → e ≡ InstructionEntry.Ifeq x b c → RightSide p i x
  unfolding right_side
  side_ifeq x b c q = side_base x (forms.ifeq_test x b c (sym at ∙ q)) (ap right_side (ifeq_held p a.literal_bytes a.program i a.there x b c (sym at ∙ q)))

  pub side_bad : e ≡ InstructionEntry.Bad → RightSide p i 0
  side_bad q = absurd (forms.formed (sym at ∙ q))

-- ---- f and t

pub made_side : (p : List ℕ) (i x r : ℕ) → RightSide p i x → r ≡ both (frame_literals (expression_held p x)) (join_signs (expression_held p x))
    → r ≡ both (frame_literals (right_side (instruction_held p i))) (join_signs (right_side (instruction_held p i)))
made_side p i x r s e = rw (← s.is) e
