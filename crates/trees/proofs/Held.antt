-- The trees of well-formed words, one level at a time. Assumes nothing.
use mathlib.Core.Path.{◌≡◌, refl, ◌∙◌, ap, sym}
use mathlib.Core.List.{List, []}
use Prim.Native.Nat.{ℕ, zero, suc, ◌+◌, ◌<◌}
use native.Mathlib.Omega.{arith}
use lib.ListN.{length, get_or}
use mir.Syntax.{w32}
use mir.Val.{to_z}
use Rattle.framed.specs.Tree.{Base, Expression, Slots, Instruction, Code, ◌then◌}
use Rattle.framed.specs.Paths.{Path, from_self, from_program}
use Rattle.framed.specs.Machine.{following, first_of}
use Rattle.tables.specs.declared.ExpressionEntry.{ExpressionEntry}
use Rattle.tables.specs.declared.InstructionEntry.{InstructionEntry}
use Rattle.tables.specs.Entries.{expression_of, expression_at, instruction_at}
use Rattle.tables.specs.Fields.{names, literals, expressions, instructions, codes, code_first, link, expression_kind, expression_a, expression_b, slot_name, slot_after, instruction_after}
use Rattle.program_entries.specs.Form.{Entries}
use Rattle.program_parts.specs.Parts.{StandsIn}
use Rattle.program_parts.proofs.Sound.{stands_first, stands_next}
use Rattle.program_form.specs.WellFormed.{WellFormed}
use Rattle.program_form.specs.Sound.{SlotPlace, Sound}
use Rattle.program_form.proofs.Decides.{sound}
use Rattle.trees.specs.Trees.{Readers, base_tree, expression_tree, slots_tree, instruction_tree, code_tree, one_level, levels, trees, operator_of, path_list}
use Rattle.trees.specs.Held.{base_held, expression_held, slots_held, instruction_held, remaining, held, list_from, name_bytes, literal_bytes, program_held, OneLevel}
use Rattle.trees.proofs.Levels.{same_base, same_expression, same_slots, same_instruction, same_code}

-- ---- Lists

pub list_get : {A : Type 0} (f : ℕ → A) (d : A) (n i k : ℕ) → k < n → get_or (list_from f n i) k d ≡ f (i + k)
unfolding list_from
list_get f d zero i k lt = absurd (omega arith)
list_get f d (suc n) i zero lt = let e : i ≡ i + 0 = omega arith in ap f e
list_get f d (suc n) i (suc k) lt = let e : (i + 1) + k ≡ i + suc k = omega arith in list_get f d n (i + 1) k (omega arith) ∙ ap f e

from_zero : {A : Type 0} (f : ℕ → A) (d : A) (n k : ℕ) → k < n → get_or (list_from f n 0) k d ≡ f k
from_zero f d n k lt = let e : 0 + k ≡ k = omega arith in list_get f d n 0 k lt ∙ ap f e

pub list_length : {A : Type 0} (f : ℕ → A) (n i : ℕ) → length (list_from f n i) ≡ n
unfolding list_from
list_length f zero i = refl
list_length f (suc n) i = ap suc (list_length f n (i + 1))

pub instructions_are : (p l : List ℕ) → length (program_held p l).instructions ≡ instructions p
unfolding program_held
instructions_are p l = list_length (instruction_held p) (instructions p) 0

-- ---- One level

levels_one : (n : ℕ) (p : List ℕ) → levels (suc n) p ≡ one_level p (levels n p)
unfolding levels
levels_one n p = refl

pub trees_one : (p : List ℕ) → trees p ≡ one_level p (levels 599999 p)
unfolding trees
trees_one p = levels_one 599999 p

module _ (p l : List ℕ) (w : WellFormed p l) where
  G : Sound p
  G = sound p l w

  E : Entries p l
  E = w.entries

  -- the levels below read the same
  base_same : (x : ℕ) → x < expressions p → (levels 599999 p).base x ≡ base_held p x
  unfolding base_held trees
  base_same x lt = same_base p l w 599999 600000 (omega arith) (omega arith) x lt

  expression_same : (x : ℕ) → x < expressions p → (levels 599999 p).expression x ≡ expression_held p x
  unfolding expression_held trees
  expression_same x lt = same_expression p l w 599999 600000 (omega arith) (omega arith) x lt

  slots_same : (z : ℕ) → SlotPlace p z → (levels 599999 p).slots z ≡ slots_held p z
  unfolding slots_held trees
  slots_same z s = same_slots p l w 599999 600000 (omega arith) (omega arith) z s

  instruction_same : (i : ℕ) → i < instructions p → (levels 599999 p).instruction i ≡ instruction_held p i
  unfolding instruction_held trees
  instruction_same i lt = same_instruction p l w 599999 600000 (omega arith) (omega arith) i lt

  code_same : (k z : ℕ) → ((i : ℕ) → z ≡ suc i → StandsIn p k i) → (levels 599999 p).code z ≡ remaining p z
  unfolding remaining trees
  code_same k z c = same_code p l w 599999 600000 (omega arith) (omega arith) k z c

  first_same : (k : ℕ) → k < codes p → (levels 599999 p).code (code_first p k) ≡ remaining p (code_first p k)
  first_same k lt = code_same k (code_first p k) (λ i e. stands_first p k i lt e)

  open_base : (x : ℕ) → base_held p x ≡ base_tree (levels 599999 p) p (expression_at p x)
  unfolding base_held one_level
  open_base x = ap (λ (r : Readers). r.base x) (trees_one p)

  base_by : (x : ℕ) → x < expressions p → (v : ExpressionEntry) → expression_at p x ≡ v → base_tree (levels 599999 p) p v ≡ base_tree (held p) p v
  unfolding base_tree
  base_by x lt (ExpressionEntry.Integer k) e = refl
  base_by x lt (ExpressionEntry.Literal k) e = refl
  base_by x lt (ExpressionEntry.FromSelf j n) e = refl
  base_by x lt (ExpressionEntry.FromProgram j n) e = refl
  base_by x lt (ExpressionEntry.Code k) e = ap (Base.code k) (first_same k ((E.expression x lt).code k e))
  base_by x lt (ExpressionEntry.Frame d) e = refl
  base_by x lt (ExpressionEntry.Not a) e = refl
  base_by x lt (ExpressionEntry.Operate o a c) e = refl
  base_by x lt ExpressionEntry.Bad e = refl

  open_expression : (x : ℕ) → expression_held p x ≡ expression_tree (levels 599999 p) p x (expression_at p x)
  unfolding expression_held one_level
  open_expression x = ap (λ (r : Readers). r.expression x) (trees_one p)

  expression_by : (x : ℕ) → x < expressions p → (v : ExpressionEntry) → expression_at p x ≡ v → expression_tree (levels 599999 p) p x v ≡ expression_tree (held p) p x v
  unfolding expression_tree
  expression_by x lt (ExpressionEntry.Integer k) e = refl
  expression_by x lt (ExpressionEntry.Literal k) e = refl
  expression_by x lt (ExpressionEntry.FromSelf j n) e = refl
  expression_by x lt (ExpressionEntry.FromProgram j n) e = refl
  expression_by x lt (ExpressionEntry.Code k) e = ap (λ (c : Code Path). Expression.base (Base.code k c)) (first_same k ((E.expression x lt).code k e))
  expression_by x lt (ExpressionEntry.Frame d) e = ap Expression.frame (slots_same (link 1024 x d) (SlotPlace.of_frame x d lt e))
  expression_by x lt (ExpressionEntry.Not a) e = ap Expression.not (base_same a ((E.expression x lt).negated a e).there)
  expression_by x lt (ExpressionEntry.Operate o a c) e = rw (base_same a ((E.expression x lt).left o a c e).there, base_same c ((E.expression x lt).right o a c e).there)
  expression_by x lt ExpressionEntry.Bad e = refl

  open_instruction : (i : ℕ) → instruction_held p i ≡ instruction_tree (levels 599999 p) p (instruction_at p i)
  unfolding instruction_held one_level
  open_instruction i = ap (λ (r : Readers). r.instruction i) (trees_one p)

  instruction_by : (i : ℕ) → i < instructions p → (v : InstructionEntry) → instruction_at p i ≡ v → instruction_tree (levels 599999 p) p v ≡ instruction_tree (held p) p v
  unfolding instruction_tree
  instruction_by i lt (InstructionEntry.AssignSelf j n a) e = rw (expression_same a ((E.instruction i lt).self_there j n a e))
  instruction_by i lt (InstructionEntry.AssignProgram j n a) e = rw (expression_same a ((E.instruction i lt).program_there j n a e))
  instruction_by i lt (InstructionEntry.Show a) e = rw (base_same a ((E.instruction i lt).shown a e).there)
  instruction_by i lt (InstructionEntry.Jump a c) e = rw (base_same a ((E.instruction i lt).jump_to a c e).there, base_same c ((E.instruction i lt).jump_with a c e).there)
  instruction_by i lt (InstructionEntry.Ifeq a c d) e =
      rw (base_same a ((E.instruction i lt).ifeq_test a c d e).there, base_same c ((E.instruction i lt).ifeq_to a c d e).there, base_same d ((E.instruction i lt).ifeq_with a c d e).there)
  instruction_by i lt InstructionEntry.Bad e = refl

  open_slots : (y : ℕ) → slots_held p (suc y) ≡ Slots.slot (slot_name p y) ((levels 599999 p).expression y) ((levels 599999 p).slots (slot_after p y))
  unfolding slots_held one_level slots_tree
  open_slots y = ap (λ (r : Readers). r.slots (suc y)) (trees_one p)

  no_slots_held : slots_held p 0 ≡ Slots.no_slots
  unfolding slots_held one_level slots_tree
  no_slots_held = ap (λ (r : Readers). r.slots 0) (trees_one p)

  open_code : (i : ℕ) → remaining p (suc i) ≡ ((levels 599999 p).instruction i then (levels 599999 p).code (instruction_after p i))
  unfolding remaining one_level code_tree
  open_code i = ap (λ (r : Readers). r.code (suc i)) (trees_one p)

  finished_held : remaining p 0 ≡ Code.finished
  unfolding remaining one_level code_tree
  finished_held = ap (λ (r : Readers). r.code 0) (trees_one p)

  expression_one : (x : ℕ) → x < expressions p → expression_held p x ≡ expression_tree (held p) p x (expression_at p x)
  expression_one x lt = open_expression x ∙ expression_by x lt (expression_at p x) refl

  base_one : (x : ℕ) → x < expressions p → base_held p x ≡ base_tree (held p) p (expression_at p x)
  base_one x lt = open_base x ∙ base_by x lt (expression_at p x) refl

  -- an expression of a kind below 5 is a base
  kind_base : (x k a c : ℕ) → k < 5 → expression_tree (held p) p x (expression_of k a c) ≡ Expression.base (base_tree (held p) p (expression_of k a c))
  unfolding expression_of expression_tree base_tree
  kind_base x zero a c lt = refl
  kind_base x (suc zero) a c lt = refl
  kind_base x (suc (suc zero)) a c lt = refl
  kind_base x (suc (suc (suc zero))) a c lt = refl
  kind_base x (suc (suc (suc (suc zero)))) a c lt = refl
  kind_base x (suc (suc (suc (suc (suc k))))) a c lt = absurd (omega arith)

  base_form : (x : ℕ) → expression_kind p x < 5 → expression_tree (held p) p x (expression_at p x) ≡ Expression.base (base_tree (held p) p (expression_at p x))
  unfolding expression_at
  base_form x lt = kind_base x (expression_kind p x) (expression_a p x) (expression_b p x) lt

  slot_one : (y : ℕ) → SlotPlace p (suc y) → slots_held p (suc y) ≡ Slots.slot (slot_name p y) (expression_held p y) (slots_held p (slot_after p y))
  slot_one y s = open_slots y ∙ rw (expression_same y (G.slot_there y s), slots_same (slot_after p y) (SlotPlace.after y s))

  next_one : (i : ℕ) → i < instructions p → remaining p (suc i) ≡ (instruction_held p i then remaining p (instruction_after p i))
  next_one i lt =
      let t = w.parts.stands i lt in
      open_code i ∙ rw (instruction_same i lt, code_same t.code (instruction_after p i) (λ j e. stands_next p t.code i j t.stands e))

  pub one_level_held : OneLevel p l
  unfolding program_held following first_of
  one_level_held =
      record {
        base = base_one;
        expression = expression_one;
        as_base = λ x lt k. expression_one x lt ∙ base_form x k ∙ ap Expression.base (sym (base_one x lt));
        no_slots = no_slots_held;
        slot = slot_one;
        instruction = λ i lt. open_instruction i ∙ instruction_by i lt (instruction_at p i) refl;
        finished = finished_held;
        next = next_one;
        code = λ k lt. from_zero (λ k. remaining p (code_first p k)) Code.finished (codes p) k lt;
        code_begins = λ k lt. from_zero (code_first p) 0 (codes p) k lt;
        follows = λ i lt. from_zero (instruction_after p) 0 (instructions p) i lt;
        literal = λ k lt. from_zero (literal_bytes p l) [] (literals p) k lt;
        name = λ k lt. from_zero (name_bytes p) [] (names p) k lt;
      }

  -- ---- The same by the form of an entry

  module _ (x : ℕ) (lt : x < expressions p) where
    pub frame_held : (d : ℕ) → expression_at p x ≡ ExpressionEntry.Frame d → expression_held p x ≡ Expression.frame (slots_held p (link 1024 x d))
    unfolding expression_tree
    frame_held d e = expression_one x lt ∙ rw e

    pub not_held : (a : ℕ) → expression_at p x ≡ ExpressionEntry.Not a → expression_held p x ≡ Expression.not (base_held p a)
    unfolding expression_tree
    not_held a e = expression_one x lt ∙ rw e

    pub operation_held : (o a c : ℕ) → expression_at p x ≡ ExpressionEntry.Operate o a c → expression_held p x ≡ Expression.operation (operator_of o) (base_held p a) (base_held p c)
    unfolding expression_tree
    operation_held o a c e = expression_one x lt ∙ rw e

    pub integer_held : (v : ℕ) → expression_at p x ≡ ExpressionEntry.Integer v → base_held p x ≡ Base.integer (to_z w32 v)
    unfolding base_tree
    integer_held v e = base_one x lt ∙ rw e

    pub string_held : (k : ℕ) → expression_at p x ≡ ExpressionEntry.Literal k → base_held p x ≡ Base.string k
    unfolding base_tree
    string_held k e = base_one x lt ∙ rw e

    pub self_path_held : (j n : ℕ) → expression_at p x ≡ ExpressionEntry.FromSelf j n → base_held p x ≡ Base.path (from_self (path_list p n j))
    unfolding base_tree
    self_path_held j n e = base_one x lt ∙ rw e

    pub program_path_held : (j n : ℕ) → expression_at p x ≡ ExpressionEntry.FromProgram j n → base_held p x ≡ Base.path (from_program (path_list p n j))
    unfolding base_tree
    program_path_held j n e = base_one x lt ∙ rw e

    pub code_held : (k : ℕ) → expression_at p x ≡ ExpressionEntry.Code k → base_held p x ≡ Base.code k (remaining p (code_first p k))
    unfolding base_tree
    code_held k e = base_one x lt ∙ rw e

  module _ (i : ℕ) (lt : i < instructions p) where
    pub assign_self_held : (j n a : ℕ) → instruction_at p i ≡ InstructionEntry.AssignSelf j n a → instruction_held p i ≡ Instruction.assign (from_self (path_list p n j)) (expression_held p a)
    unfolding instruction_tree
    assign_self_held j n a e = one_level_held.instruction i lt ∙ rw e

    pub assign_program_held : (j n a : ℕ) → instruction_at p i ≡ InstructionEntry.AssignProgram j n a → instruction_held p i ≡ Instruction.assign (from_program (path_list p n j)) (expression_held p a)
    unfolding instruction_tree
    assign_program_held j n a e = one_level_held.instruction i lt ∙ rw e

    pub show_held : (a : ℕ) → instruction_at p i ≡ InstructionEntry.Show a → instruction_held p i ≡ Instruction.show (base_held p a)
    unfolding instruction_tree
    show_held a e = one_level_held.instruction i lt ∙ rw e

    pub jump_held : (a c : ℕ) → instruction_at p i ≡ InstructionEntry.Jump a c → instruction_held p i ≡ Instruction.jump (base_held p a) (base_held p c)
    unfolding instruction_tree
    jump_held a c e = one_level_held.instruction i lt ∙ rw e

    pub ifeq_held : (a c d : ℕ) → instruction_at p i ≡ InstructionEntry.Ifeq a c d → instruction_held p i ≡ Instruction.ifeq (base_held p a) (base_held p c) (base_held p d)
    unfolding instruction_tree
    ifeq_held a c d e = one_level_held.instruction i lt ∙ rw e
