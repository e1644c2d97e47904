-- What is known of a single entry of emitted words, by its form. Assumes nothing.
use mathlib.Core.Path.{◌≡◌, refl, ◌∙◌, sym, ap, subst}
use mathlib.Core.Logic.{◌≢◌}
use mathlib.Core.List.{List}
use Prim.Native.Nat.{ℕ, suc, ◌+◌, ◌≤◌, ◌<◌}
use native.Mathlib.Omega.{arith}
use lib.ListN.{length}
use Rattle.framed.specs.Tree.{Base, Expression, Instruction, Code, ◌then◌}
use Rattle.framed.specs.Paths.{Path, from_self, from_program, names_of}
use Rattle.tables.specs.declared.ExpressionEntry.{ExpressionEntry}
use Rattle.tables.specs.declared.InstructionEntry.{InstructionEntry}
use Rattle.tables.specs.Entries.{expression_at, instruction_at}
use Rattle.tables.specs.Fields.{literals, expressions, instructions, codes, path_names, link, slot_walk, instruction_link}
use Rattle.program_entries.specs.Form.{ExpressionForm, InstructionForm, SlotList}
use Rattle.program_entries.specs.Form as Form
use Rattle.shapes.specs.Numbers.{Numbers, ◌⊕◌, base_size, expression_size, instruction_size, code_size}
use Rattle.emission.specs.Emit.{link_to_code, path_entry, assign_entry}
use Rattle.emission.specs.Frame.{AtMost}
use Rattle.emission.specs.Writes.{past_base}
use Rattle.emission_tree.specs.Standing.{Owner, tag, Standing}
use Rattle.emission_tree.specs.Entry.{BaseAt, ExpressionAt, InstructionAt}
use Rattle.emission.proofs.Links.{slots_reached}
use Rattle.emission_tree.proofs.BaseKind.{base_kind}
use Rattle.emission_form.proofs.Cover.{SomeExpression, SomeInstruction}
use Rattle.emission_form.proofs.Slots.{Counts, link_inside_table, met, slots_walked, frame_list}

-- an expression with a place in the tree: it is a base, and part of o
pub record Operand (p : List ℕ) (γ : Standing) (o : Owner) (c a : ℕ) : Type 0 where
  pub base : Form.Base p a
  pub tagged : γ.tags a ≡ tag o c

-- expression x, written in the code c
pub data Facts (p : List ℕ) (γ : Standing) (x c : ℕ) : ExpressionEntry → Type 0 where
  integer : {w : ℕ} → Facts p γ x c (ExpressionEntry.Integer w)
  literal : {k : ℕ} → k < literals p → Facts p γ x c (ExpressionEntry.Literal k)
  self_path : {j n : ℕ} → j + n ≤ path_names p → Facts p γ x c (ExpressionEntry.FromSelf j n)
  program_path : {j n : ℕ} → j + n ≤ path_names p → Facts p γ x c (ExpressionEntry.FromProgram j n)
  code : {k : ℕ} → k < codes p → c ≤ k → γ.names k ≡ x → Facts p γ x c (ExpressionEntry.Code k)
  frame : {d : ℕ} → (d ≢ 0 → x + d < expressions p) → SlotList p (link 1024 x d) →
      ((j a : ℕ) → slot_walk p (link 1024 x d) j ≡ suc a → γ.tags a ≡ tag (Owner.expression x) c) → Facts p γ x c (ExpressionEntry.Frame d)
  not : {a : ℕ} → x < a → Operand p γ (Owner.expression x) c a → Facts p γ x c (ExpressionEntry.Not a)
  operate : {o a b : ℕ} → x < a → Operand p γ (Owner.expression x) c a → x < b → Operand p γ (Owner.expression x) c b → Facts p γ x c (ExpressionEntry.Operate o a b)

-- instruction i of code k
pub data InstructionFacts (p : List ℕ) (γ : Standing) (i k : ℕ) : InstructionEntry → Type 0 where
  self_assign : {j n a : ℕ} → j + n ≤ path_names p → a < expressions p → γ.tags a ≡ tag (Owner.instruction i) (1 + k) →
      InstructionFacts p γ i k (InstructionEntry.AssignSelf j n a)
  program_assign : {j n a : ℕ} → j + n ≤ path_names p → a < expressions p → γ.tags a ≡ tag (Owner.instruction i) (1 + k) →
      InstructionFacts p γ i k (InstructionEntry.AssignProgram j n a)
  show : {a : ℕ} → Operand p γ (Owner.instruction i) (1 + k) a → InstructionFacts p γ i k (InstructionEntry.Show a)
  jump : {a b : ℕ} → Operand p γ (Owner.instruction i) (1 + k) a → Operand p γ (Owner.instruction i) (1 + k) b → InstructionFacts p γ i k (InstructionEntry.Jump a b)
  ifeq : {a b u : ℕ} → Operand p γ (Owner.instruction i) (1 + k) a → Operand p γ (Owner.instruction i) (1 + k) b → Operand p γ (Owner.instruction i) (1 + k) u →
      InstructionFacts p γ i k (InstructionEntry.Ifeq a b u)

-- ---- Forms

module _ (p : List ℕ) (γ : Standing) (x c : ℕ) where
  literal_there : (k : ℕ) → Facts p γ x c (ExpressionEntry.Literal k) → k < literals p
  literal_there k (Facts.literal h) = h

  self_there : (j n : ℕ) → Facts p γ x c (ExpressionEntry.FromSelf j n) → j + n ≤ path_names p
  self_there j n (Facts.self_path h) = h

  program_there : (j n : ℕ) → Facts p γ x c (ExpressionEntry.FromProgram j n) → j + n ≤ path_names p
  program_there j n (Facts.program_path h) = h

  code_there : (k : ℕ) → Facts p γ x c (ExpressionEntry.Code k) → k < codes p
  code_there k (Facts.code h l e) = h

  pub code_named : (k : ℕ) → Facts p γ x c (ExpressionEntry.Code k) → γ.names k ≡ x
  code_named k (Facts.code h l e) = e

  pub code_larger : (k : ℕ) → Facts p γ x c (ExpressionEntry.Code k) → c ≤ k
  code_larger k (Facts.code h l e) = l

  frame_link : (d : ℕ) → Facts p γ x c (ExpressionEntry.Frame d) → d ≢ 0 → x + d < expressions p
  frame_link d (Facts.frame h s t) = h

  frame_slots : (d : ℕ) → Facts p γ x c (ExpressionEntry.Frame d) → SlotList p (link 1024 x d)
  frame_slots d (Facts.frame h s t) = s

  pub frame_tags : (d : ℕ) → Facts p γ x c (ExpressionEntry.Frame d) → (j a : ℕ) → slot_walk p (link 1024 x d) j ≡ suc a → γ.tags a ≡ tag (Owner.expression x) c
  frame_tags d (Facts.frame h s t) = t

  pub negated : (a : ℕ) → Facts p γ x c (ExpressionEntry.Not a) → Operand p γ (Owner.expression x) c a
  negated a (Facts.not l h) = h

  pub negated_larger : (a : ℕ) → Facts p γ x c (ExpressionEntry.Not a) → x < a
  negated_larger a (Facts.not l h) = l

  pub left : (o a b : ℕ) → Facts p γ x c (ExpressionEntry.Operate o a b) → Operand p γ (Owner.expression x) c a
  left o a b (Facts.operate l h m g) = h

  pub left_larger : (o a b : ℕ) → Facts p γ x c (ExpressionEntry.Operate o a b) → x < a
  left_larger o a b (Facts.operate l h m g) = l

  pub right : (o a b : ℕ) → Facts p γ x c (ExpressionEntry.Operate o a b) → Operand p γ (Owner.expression x) c b
  right o a b (Facts.operate l h m g) = g

  pub right_larger : (o a b : ℕ) → Facts p γ x c (ExpressionEntry.Operate o a b) → x < b
  right_larger o a b (Facts.operate l h m g) = m

  never_bad : Facts p γ x c ExpressionEntry.Bad → ⊥
  never_bad h = elim h [ ]

  pub expression_form : Facts p γ x c (expression_at p x) → ExpressionForm p x
  expression_form f =
      record {
        literal = λ k e. literal_there k (subst (Facts p γ x c) e f);
        from_self = λ j n e. self_there j n (subst (Facts p γ x c) e f);
        from_program = λ j n e. program_there j n (subst (Facts p γ x c) e f);
        code = λ k e. code_there k (subst (Facts p γ x c) e f);
        frame_link = λ d e. frame_link d (subst (Facts p γ x c) e f);
        frame = λ d e. frame_slots d (subst (Facts p γ x c) e f);
        negated = λ a e. (negated a (subst (Facts p γ x c) e f)).base;
        left = λ o a b e. (left o a b (subst (Facts p γ x c) e f)).base;
        right = λ o a b e. (right o a b (subst (Facts p γ x c) e f)).base;
        formed = λ e. never_bad (subst (Facts p γ x c) e f);
      }

module _ (p : List ℕ) (γ : Standing) (i k : ℕ) where
  self_path_there : (j n a : ℕ) → InstructionFacts p γ i k (InstructionEntry.AssignSelf j n a) → j + n ≤ path_names p
  self_path_there j n a (InstructionFacts.self_assign h l t) = h

  self_value : (j n a : ℕ) → InstructionFacts p γ i k (InstructionEntry.AssignSelf j n a) → a < expressions p
  self_value j n a (InstructionFacts.self_assign h l t) = l

  pub self_tag : (j n a : ℕ) → InstructionFacts p γ i k (InstructionEntry.AssignSelf j n a) → γ.tags a ≡ tag (Owner.instruction i) (1 + k)
  self_tag j n a (InstructionFacts.self_assign h l t) = t

  program_path_there : (j n a : ℕ) → InstructionFacts p γ i k (InstructionEntry.AssignProgram j n a) → j + n ≤ path_names p
  program_path_there j n a (InstructionFacts.program_assign h l t) = h

  program_value : (j n a : ℕ) → InstructionFacts p γ i k (InstructionEntry.AssignProgram j n a) → a < expressions p
  program_value j n a (InstructionFacts.program_assign h l t) = l

  pub program_tag : (j n a : ℕ) → InstructionFacts p γ i k (InstructionEntry.AssignProgram j n a) → γ.tags a ≡ tag (Owner.instruction i) (1 + k)
  program_tag j n a (InstructionFacts.program_assign h l t) = t

  pub shown : (a : ℕ) → InstructionFacts p γ i k (InstructionEntry.Show a) → Operand p γ (Owner.instruction i) (1 + k) a
  shown a (InstructionFacts.show h) = h

  pub jump_to : (a b : ℕ) → InstructionFacts p γ i k (InstructionEntry.Jump a b) → Operand p γ (Owner.instruction i) (1 + k) a
  jump_to a b (InstructionFacts.jump h g) = h

  pub jump_with : (a b : ℕ) → InstructionFacts p γ i k (InstructionEntry.Jump a b) → Operand p γ (Owner.instruction i) (1 + k) b
  jump_with a b (InstructionFacts.jump h g) = g

  pub ifeq_test : (a b u : ℕ) → InstructionFacts p γ i k (InstructionEntry.Ifeq a b u) → Operand p γ (Owner.instruction i) (1 + k) a
  ifeq_test a b u (InstructionFacts.ifeq h g f) = h

  pub ifeq_to : (a b u : ℕ) → InstructionFacts p γ i k (InstructionEntry.Ifeq a b u) → Operand p γ (Owner.instruction i) (1 + k) b
  ifeq_to a b u (InstructionFacts.ifeq h g f) = g

  pub ifeq_with : (a b u : ℕ) → InstructionFacts p γ i k (InstructionEntry.Ifeq a b u) → Operand p γ (Owner.instruction i) (1 + k) u
  ifeq_with a b u (InstructionFacts.ifeq h g f) = f

  never_bad_instruction : InstructionFacts p γ i k InstructionEntry.Bad → ⊥
  never_bad_instruction h = elim h [ ]

  pub instruction_form : InstructionFacts p γ i k (instruction_at p i) → (instruction_link p i ≢ 0 → i + instruction_link p i < instructions p) → InstructionForm p i
  instruction_form f l =
      record {
        self_path = λ j n a e. self_path_there j n a (subst (InstructionFacts p γ i k) e f);
        self_there = λ j n a e. self_value j n a (subst (InstructionFacts p γ i k) e f);
        program_path = λ j n a e. program_path_there j n a (subst (InstructionFacts p γ i k) e f);
        program_there = λ j n a e. program_value j n a (subst (InstructionFacts p γ i k) e f);
        shown = λ a e. (shown a (subst (InstructionFacts p γ i k) e f)).base;
        jump_to = λ a b e. (jump_to a b (subst (InstructionFacts p γ i k) e f)).base;
        jump_with = λ a b e. (jump_with a b (subst (InstructionFacts p γ i k) e f)).base;
        ifeq_test = λ a b u e. (ifeq_test a b u (subst (InstructionFacts p γ i k) e f)).base;
        ifeq_to = λ a b u e. (ifeq_to a b u (subst (InstructionFacts p γ i k) e f)).base;
        ifeq_with = λ a b u e. (ifeq_with a b u (subst (InstructionFacts p γ i k) e f)).base;
        formed = λ e. never_bad_instruction (subst (InstructionFacts p γ i k) e f);
        link_there = l;
      }

-- ---- Facts of emitted words

code_inside : (is : Code Path) (i j t d : ℕ) → d ≡ link_to_code is i j → i < j → j + (code_size is).instructions ≤ t → d ≢ 0 → i + d < t
unfolding link_to_code code_size
code_inside Code.finished i j t d e lt m n = absurd (n e)
code_inside (o then is) i j t d e lt m n = omega arith

module _ (p : List ℕ) (γ : Standing) (N S : ℕ) (T : Numbers) (C : Counts p N S T) where
  path_facts : (q : Path) (x c j : ℕ) → j + length (names_of q) ≤ path_names p → Facts p γ x c (path_entry q j)
  unfolding path_entry names_of
  path_facts (from_self ns) x c j m = Facts.self_path m
  path_facts (from_program ns) x c j m = Facts.program_path m

  assign_facts : (q : Path) (i k j a : ℕ) → j + length (names_of q) ≤ path_names p → a < expressions p → γ.tags a ≡ tag (Owner.instruction i) (1 + k) →
      InstructionFacts p γ i k (assign_entry q j a)
  unfolding assign_entry names_of
  assign_facts (from_self ns) i k j a m l t = InstructionFacts.self_assign m l t
  assign_facts (from_program ns) i k j a m l t = InstructionFacts.program_assign m l t

  operand : (o : Owner) (b : Base Path) (a c : ℕ) (s : Numbers) → a < T.expressions → γ.tags a ≡ tag o c → BaseAt p γ N S b a c s → Operand p γ o c a
  operand o b a c s lt t h = record { base = record { there = omega (arith, C.expressions_are); base = base_kind p γ N S b a c s h }; tagged = t }

  base_facts : (b : Base Path) (x c : ℕ) (s : Numbers) → AtMost (s ⊕ base_size b) T → BaseAt p γ N S b x c s → Facts p γ x c (expression_at p x)
  unfolding base_size
  base_facts (Base.integer z) x c s m (BaseAt.integer r e) = rw e.entry Facts.integer
  base_facts (Base.string k) x c s m (BaseAt.string r e) = rw e.entry (Facts.literal {k = k} (omega (arith, C.literals_are)))
  base_facts (Base.path q) x c s m (BaseAt.path r e h) = rw e.entry (path_facts q x c s.path_names (omega (arith, C.path_names_are)))
  base_facts (Base.code k is) x c s m (BaseAt.code d l e n f h) = rw e.entry (Facts.code {k = k} (omega (arith, C.codes_are)) l n)

  facts_at : (b : Expression Path) (x c : ℕ) (s : Numbers) → x < s.expressions → AtMost (s ⊕ expression_size b) T → ExpressionAt p γ N S b x c s →
      Facts p γ x c (expression_at p x)
  unfolding expression_size
  facts_at (Expression.base b) x c s lt m (ExpressionAt.base h) = base_facts b x c s m h
  facts_at (Expression.not b) x c s lt m (ExpressionAt.not e t h) = rw e.entry (Facts.not lt (operand _ b _ c _ (omega arith) t h))
  facts_at (Expression.operation o a b) x c s lt m (ExpressionAt.operation e t h u k) =
      rw e.entry (Facts.operate {b = (past_base a s).expressions} lt (operand _ a _ c _ (omega arith) t h) (omega arith) (operand _ b _ c _ (omega arith) u k))
  facts_at (Expression.frame ss) x c s lt m (ExpressionAt.frame f e h) =
      let d = slots_reached ss x s.expressions lt (omega (arith, C.expressions_most)) in
      let w = slots_walked p γ N S T C ss (Owner.expression x) c s m h in
      rw e.entry
      (Facts.frame (link_inside_table ss x s.expressions (expressions p) _ refl lt (omega (arith, C.expressions_are)))
      (subst (SlotList p) (sym d) (frame_list p γ N S T C ss (Owner.expression x) c s m f h))
      (λ j a q. (met p γ _ c _ _ w j a (ap (λ (z : ℕ). slot_walk p z j) (sym d) ∙ q)).tagged))

  pub expression_facts : (x : ℕ) → SomeExpression p γ N S T x → Facts p γ x (γ.tags x).inside (expression_at p x)
  expression_facts x h = facts_at h.tree x _ h.start h.after h.within h.at

  instruction_facts_at : (b : Instruction Path) (i k : ℕ) (s : Numbers) → AtMost (s ⊕ instruction_size b) T → InstructionAt p γ N S b i k s →
      InstructionFacts p γ i k (instruction_at p i)
  unfolding instruction_size
  instruction_facts_at (Instruction.assign q b) i k s m (InstructionAt.assign r e j t h) =
      rw e (assign_facts q i k s.path_names s.expressions (omega (arith, C.path_names_are)) (omega (arith, C.expressions_are)) t)
  instruction_facts_at (Instruction.show a) i k s m (InstructionAt.show e t h) = rw e (InstructionFacts.show (operand _ a _ _ _ (omega arith) t h))
  instruction_facts_at (Instruction.jump a b) i k s m (InstructionAt.jump e t h u g) =
      rw e (InstructionFacts.jump (operand _ a _ _ _ (omega arith) t h) (operand _ b _ _ _ (omega arith) u g))
  instruction_facts_at (Instruction.ifeq a b d) i k s m (InstructionAt.ifeq e t h u g v j) =
      rw e (InstructionFacts.ifeq (operand _ a _ _ _ (omega arith) t h) (operand _ b _ _ _ (omega arith) u g) (operand _ d _ _ _ (omega arith) v j))

  pub instruction_facts : (i : ℕ) → SomeInstruction p γ N S T i → InstructionFacts p γ i (γ.homes i) (instruction_at p i)
  instruction_facts i h = instruction_facts_at h.tree i _ h.start h.within h.at

  pub instruction_linked : (i : ℕ) → SomeInstruction p γ N S T i → instruction_link p i ≢ 0 → i + instruction_link p i < instructions p
  instruction_linked i h =
      let a = h.after in
      let m = h.rest_within in
      code_inside h.rest i _ (instructions p) _ h.link_is (omega arith) (omega (arith, C.instructions_are))
