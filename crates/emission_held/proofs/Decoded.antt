-- Words that hold a tree are read as that tree. Assumes nothing.
use mathlib.Core.Path.{◌≡◌, refl, ◌∙◌, sym, ap, subst}
use mathlib.Core.List.{List, [], ◌∷◌}
use Prim.Native.Nat.{ℕ, suc, ◌+◌, ◌≤◌, ◌<◌}
use native.Mathlib.Omega.{arith}
use lib.IntN.{ℤ}
use lib.ListN.{length}
use borrow.Author.Tests.{ltb-true}
use mir.Syntax.{w32}
use mir.Val.{to_z}
use mir.ValLaws.{to_z-of_z}
use mathlib.Core.Bool.{true}
use Rattle.framed.specs.Tokens.{Operator, in_range}
use Rattle.framed.specs.Tree.{Base, Expression, Slots, Instruction, Code, ◌then◌}
use Rattle.framed.specs.Paths.{Path, from_self, from_program, names_of}
use Rattle.framed.specs.Program.{base_parts, expression_parts, slots_parts, instruction_parts, code_parts, first_number}
use Rattle.ints.specs.Ints.{word_of}
use Rattle.tables.specs.Fields.{expressions, instructions, codes, code_first, path_name, slot_after, instruction_link, instruction_after}
use Rattle.program_form.specs.Sound.{SlotPlace}
use Rattle.trees.specs.Trees.{path_list, operator_of, base_tree, expression_tree, instruction_tree}
use Rattle.trees.specs.Held.{OneLevel, held, base_held, expression_held, slots_held, instruction_held, remaining}
use Rattle.shapes.specs.Numbers.{Numbers, ◌⊕◌, one_expression, one_instruction, one_code, more_names, base_size, expression_size, slots_size, instruction_size, code_size}
use Rattle.emission.specs.Emit.{operator_kind, link_to_code, first_place, first_slot_place, path_entry, assign_entry}
use Rattle.emission.specs.Frame.{AtMost}
use Rattle.emission.specs.Writes.{past_base, past_expression, past_instruction}
use Rattle.emission.specs.Texts.{Listed}
use Rattle.emission_tree.specs.Standing.{Owner, Standing}
use Rattle.emission_tree.specs.Entry.{BaseAt, ExpressionAt, SlotsAt, InstructionAt, CodeAt}
use Rattle.emission.proofs.Links.{slots_reached, code_reached, after_slot, after_instruction}
use Rattle.emission_tree.proofs.BaseKind.{base_kind}
use Rattle.emission_held.proofs.Lists.{Reads, reads_none, reads_block, reads_line, reads_append, reads_to}

-- ---- Leaves

path_read : (p : List ℕ) (j : ℕ) (ns : List ℕ) → Listed (path_name p) j ns → path_list p (length ns) j ≡ ns
unfolding path_list
path_read p j [] h = refl
path_read p j (n ∷ ns) (Listed.more e h) = rw (e, path_read p (j + 1) ns h)

operator_read : (o : Operator) → operator_of (operator_kind o) ≡ o
unfolding operator_of operator_kind
operator_read Operator.plus = refl
operator_read Operator.minus = refl
operator_read Operator.times = refl
operator_read Operator.over = refl
operator_read Operator.less = refl
operator_read Operator.join = refl
operator_read Operator.equal = refl
operator_read Operator.and = refl
operator_read Operator.or = refl

integer_read : (z : ℤ) → in_range z ≡ true → to_z w32 (word_of z) ≡ z
unfolding word_of
integer_read z r = to_z-of_z w32 z (record { sfits = ltb-true _ _ r })

-- numbers of instructions are 1 + the place
numbered : (is : Code Path) (i n : ℕ) → n ≡ suc i → first_place is i ≡ first_number n is
unfolding first_place first_number
numbered Code.finished i n e = refl
numbered (o then is) i n e = omega arith

-- ---- Trees

module _ (p l : List ℕ) (W : OneLevel p l) (γ : Standing) (N S : ℕ) (T : Numbers)
    (X : T.expressions ≤ expressions p) (I : T.instructions ≤ instructions p) (XL : T.expressions ≤ 1024) (IL : T.instructions ≤ 512) where
  path_base : (q : Path) (j : ℕ) → Listed (path_name p) j (names_of q) → base_tree (held p) p (path_entry q j) ≡ Base.path q
  unfolding base_tree path_entry names_of
  path_base (from_self ns) j h = rw (path_read p j ns h)
  path_base (from_program ns) j h = rw (path_read p j ns h)

  path_assign : (q : Path) (j e : ℕ) → Listed (path_name p) j (names_of q) → instruction_tree (held p) p (assign_entry q j e) ≡ Instruction.assign q (expression_held p e)
  unfolding instruction_tree assign_entry names_of
  path_assign (from_self ns) j e h = rw (path_read p j ns h)
  path_assign (from_program ns) j e h = rw (path_read p j ns h)

  -- the place after an instruction
  after_read : (o : Instruction Path) (is : Code Path) (s : Numbers) → AtMost (s ⊕ code_size (o then is)) T →
      instruction_link p s.instructions ≡ link_to_code is s.instructions (past_instruction o s).instructions →
      instruction_after p s.instructions ≡ first_place is (past_instruction o s).instructions
  unfolding code_size
  after_read o is s m d =
      after_instruction p s.instructions _ d ∙ code_reached is s.instructions (past_instruction o s).instructions (omega arith) (omega arith)

  mutual
    unfolding base_size base_tree expression_tree instruction_tree first_place first_slot_place

    pub base_read : (b : Base Path) (x c : ℕ) (s : Numbers) → x < s.expressions → AtMost (s ⊕ base_size b) T → BaseAt p γ N S b x c s → base_held p x ≡ b
    base_read (Base.integer z) x c s lt m (BaseAt.integer r e) = W.base x (omega arith) ∙ rw e.entry (ap Base.integer (integer_read z r))
    base_read (Base.string k) x c s lt m (BaseAt.string r e) = W.base x (omega arith) ∙ rw e.entry refl
    base_read (Base.path q) x c s lt m (BaseAt.path r e h) = W.base x (omega arith) ∙ rw e.entry (path_base q _ h)
    base_read (Base.code k is) x c s lt m (BaseAt.code d q e n f h) =
        W.base x (omega arith) ∙ rw (e.entry, f) (ap (Base.code k) (code_read is k (one_code s) (omega arith) h))

    pub expression_read : (b : Expression Path) (x c : ℕ) (s : Numbers) → x < s.expressions → AtMost (s ⊕ expression_size b) T → ExpressionAt p γ N S b x c s →
        expression_held p x ≡ b
    expression_read (Expression.base b) x c s lt m (ExpressionAt.base h) =
        W.as_base x (omega arith) (base_kind p γ N S b x c s h) ∙ ap Expression.base (base_read b x c s lt m h)
    expression_read (Expression.not b) x c s lt m (ExpressionAt.not e t h) =
        W.expression x (omega arith) ∙ rw e.entry (ap Expression.not (base_read b _ c (one_expression s) (omega arith) (omega arith) h))
    expression_read (Expression.operation o a b) x c s lt m (ExpressionAt.operation e t h u k) =
        W.expression x (omega arith)
        ∙ rw
        (e.entry, operator_read o, base_read a _ c (one_expression s) (omega arith) (omega arith) h, base_read b _ c (one_expression (past_base a s)) (omega arith) (omega arith) k)
        refl
    expression_read (Expression.frame ss) x c s lt m (ExpressionAt.frame f e h) =
        let d = slots_reached ss x s.expressions lt (omega arith) in
        W.expression x (omega arith)
        ∙ rw (e.entry, d)
        (ap Expression.frame (slots_read ss _ c s m (subst (SlotPlace p) d (SlotPlace.of_frame x _ (omega arith) e.entry)) h))

    pub slots_read : (ss : Slots Path) (o : Owner) (c : ℕ) (s : Numbers) → AtMost (s ⊕ slots_size ss) T → SlotPlace p (first_slot_place ss s.expressions) →
        SlotsAt p γ N S ss o c s → slots_held p (first_slot_place ss s.expressions) ≡ ss
    slots_read Slots.no_slots o c s m z h = W.no_slots
    slots_read (Slots.slot n b ss) o c s m z (SlotsAt.slot r e d t h k) =
        let i : 1 + s.expressions ≡ suc s.expressions = omega arith in
        let y : SlotPlace p (suc s.expressions) = subst (SlotPlace p) i z in
        let u : slot_after p s.expressions ≡ first_slot_place ss (past_expression b s).expressions =
        after_slot p s.expressions _ d ∙ slots_reached ss s.expressions (past_expression b s).expressions (omega arith) (omega arith)
        in
        ap (slots_held p) i
        ∙ W.slot s.expressions y
        ∙ rw (
          e,
          u,
          expression_read b _ c (one_expression s) (omega arith) (omega arith) h,
          slots_read ss o c (past_expression b s) (omega arith) (subst (SlotPlace p) u (SlotPlace.after s.expressions y)) k,
        )
        refl

    pub instruction_read : (b : Instruction Path) (i c : ℕ) (s : Numbers) → i < s.instructions → AtMost (s ⊕ instruction_size b) T →
        InstructionAt p γ N S b i c s → instruction_held p i ≡ b
    instruction_read (Instruction.assign q b) i c s lt m (InstructionAt.assign r e j t h) =
        W.instruction i (omega arith)
        ∙ rw e
        (path_assign q _ _ j ∙ ap (Instruction.assign q) (expression_read b _ _ (one_expression (more_names (length (names_of q)) s)) (omega arith) (omega arith) h))
    instruction_read (Instruction.show a) i c s lt m (InstructionAt.show e t h) =
        W.instruction i (omega arith) ∙ rw e (ap Instruction.show (base_read a _ _ (one_expression s) (omega arith) (omega arith) h))
    instruction_read (Instruction.jump a b) i c s lt m (InstructionAt.jump e t h u k) =
        W.instruction i (omega arith)
        ∙ rw (e, base_read a _ _ (one_expression s) (omega arith) (omega arith) h, base_read b _ _ (one_expression (past_base a s)) (omega arith) (omega arith) k) refl
    instruction_read (Instruction.ifeq a b d) i c s lt m (InstructionAt.ifeq e t h u k v j) =
        W.instruction i (omega arith)
        ∙ rw (
          e,
          base_read a _ _ (one_expression s) (omega arith) (omega arith) h,
          base_read b _ _ (one_expression (past_base a s)) (omega arith) (omega arith) k,
          base_read d _ _ (one_expression (past_base b (past_base a s))) (omega arith) (omega arith) j,
        )
        refl

    pub code_read : (is : Code Path) (c : ℕ) (s : Numbers) → AtMost (s ⊕ code_size is) T → CodeAt p γ N S is c s → remaining p (first_place is s.instructions) ≡ is
    code_read Code.finished c s m h = W.finished
    code_read (o then is) c s m (CodeAt.next t h d k) =
        let i : 1 + s.instructions ≡ suc s.instructions = omega arith in
        ap (remaining p) i
        ∙ W.next s.instructions (omega arith)
        ∙ rw (after_read o is s m d, instruction_read o _ c (one_instruction s) (omega arith) (omega arith) h, code_read is c (past_instruction o s) (omega arith) k) refl

  -- ---- The codes and instructions, by where each begins

  mutual
    unfolding base_size base_parts

    pub base_reads : (b : Base Path) (x c : ℕ) (s : Numbers) → AtMost (s ⊕ base_size b) T → BaseAt p γ N S b x c s →
        Reads p s.codes s.instructions (base_parts b) (s ⊕ base_size b).codes (s ⊕ base_size b).instructions
    base_reads (Base.integer z) x c s m h = reads_none (omega arith) (omega arith)
    base_reads (Base.string k) x c s m h = reads_none (omega arith) (omega arith)
    base_reads (Base.path q) x c s m h = reads_none (omega arith) (omega arith)
    base_reads (Base.code k is) x c s m (BaseAt.code d q e n f h) =
        let u = ap (code_first p) (sym d) ∙ f in
        reads_block (ap (remaining p) u ∙ code_read is k (one_code s) (omega arith) h) (u ∙ numbered is _ _ (omega arith))
        (reads_to (omega arith) (omega arith) (code_reads is k (one_code s) (omega arith) h))

    pub expression_reads : (b : Expression Path) (x c : ℕ) (s : Numbers) → AtMost (s ⊕ expression_size b) T → ExpressionAt p γ N S b x c s →
        Reads p s.codes s.instructions (expression_parts b) (s ⊕ expression_size b).codes (s ⊕ expression_size b).instructions
    expression_reads (Expression.base b) x c s m (ExpressionAt.base h) = base_reads b x c s m h
    expression_reads (Expression.not b) x c s m (ExpressionAt.not e t h) = base_reads b _ c (one_expression s) (omega arith) h
    expression_reads (Expression.operation o a b) x c s m (ExpressionAt.operation e t h u k) =
        reads_to (omega arith) (omega arith)
        (reads_append (base_reads a _ c (one_expression s) (omega arith) h) (base_reads b _ c (one_expression (past_base a s)) (omega arith) k))
    expression_reads (Expression.frame ss) x c s m (ExpressionAt.frame f e h) = slots_reads ss _ c s m h

    pub slots_reads : (ss : Slots Path) (o : Owner) (c : ℕ) (s : Numbers) → AtMost (s ⊕ slots_size ss) T → SlotsAt p γ N S ss o c s →
        Reads p s.codes s.instructions (slots_parts ss) (s ⊕ slots_size ss).codes (s ⊕ slots_size ss).instructions
    slots_reads Slots.no_slots o c s m h = reads_none (omega arith) (omega arith)
    slots_reads (Slots.slot n b ss) o c s m (SlotsAt.slot r e d t h k) =
        reads_to (omega arith) (omega arith)
        (reads_append (expression_reads b _ c (one_expression s) (omega arith) h) (slots_reads ss o c (past_expression b s) (omega arith) k))

    pub instruction_reads : (b : Instruction Path) (i c : ℕ) (s : Numbers) → AtMost (s ⊕ instruction_size b) T → InstructionAt p γ N S b i c s →
        Reads p s.codes s.instructions (instruction_parts b) (s ⊕ instruction_size b).codes (s ⊕ instruction_size b).instructions
    instruction_reads (Instruction.assign q b) i c s m (InstructionAt.assign r e j t h) = expression_reads b _ _ (one_expression (more_names (length (names_of q)) s)) (omega arith) h
    instruction_reads (Instruction.show a) i c s m (InstructionAt.show e t h) = base_reads a _ _ (one_expression s) (omega arith) h
    instruction_reads (Instruction.jump a b) i c s m (InstructionAt.jump e t h u k) =
        reads_to (omega arith) (omega arith)
        (reads_append (base_reads a _ _ (one_expression s) (omega arith) h) (base_reads b _ _ (one_expression (past_base a s)) (omega arith) k))
    instruction_reads (Instruction.ifeq a b d) i c s m (InstructionAt.ifeq e t h u k v j) =
        reads_to (omega arith) (omega arith)
        (reads_append
        (reads_append (base_reads a _ _ (one_expression s) (omega arith) h) (base_reads b _ _ (one_expression (past_base a s)) (omega arith) k))
        (base_reads d _ _ (one_expression (past_base b (past_base a s))) (omega arith) j))

    pub code_reads : (is : Code Path) (c : ℕ) (s : Numbers) → AtMost (s ⊕ code_size is) T → CodeAt p γ N S is c s →
        Reads p s.codes s.instructions (code_parts is) (s ⊕ code_size is).codes (s ⊕ code_size is).instructions
    code_reads Code.finished c s m h = reads_none (omega arith) (omega arith)
    code_reads (o then is) c s m (CodeAt.next t h d k) =
        let r = instruction_reads o _ c (one_instruction s) (omega arith) h in
        reads_line (instruction_read o _ c (one_instruction s) (omega arith) (omega arith) h)
        (after_read o is s m d ∙ numbered is _ _ (omega (arith, r.instructions.count)))
        (reads_to (omega arith) (omega arith) (reads_append r (code_reads is c (past_instruction o s) (omega arith) k)))
