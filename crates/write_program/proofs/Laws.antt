-- One law for each way through the functions that write an expression or an instruction, for what each call asks and for each fall of the weight. Assumes nothing.
use mathlib.Core.Path.{◌≡◌, ◌∙◌, ap, sym, subst}
use mathlib.Core.List.{List, [], ◌∷◌, ◌++◌}
use Prim.Native.Nat.{ℕ, suc, ◌+◌, ◌<◌}
use native.Mathlib.Omega.{arith}
use lib.IntN.{ℤ}
use mir.Syntax.{w32}
use mir.Val.{to_z, of_z}
use mir.ValLaws.{to_z-of_z}
use Rattle.framed.specs.Tokens.{Token}
use Rattle.framed.specs.Tree.{Base, Expression, Instruction}
use Rattle.framed.specs.Paths.{Place, in_code, within_code, Path, from_self, from_program}
use Rattle.framed.specs.Writer.{led, one, base_words, written_path}
use Rattle.ints.specs.Ints.{int_of}
use Rattle.ints.proofs.Laws.{int_fits}
use Rattle.tables.specs.declared.ExpressionEntry.{ExpressionEntry}
use Rattle.tables.specs.declared.InstructionEntry.{InstructionEntry}
use Rattle.tables.specs.Entries.{expression_at, instruction_at}
use Rattle.tables.specs.Fields.{expressions, instructions, code_first, link}
use Rattle.program_entries.specs.Form.{ExpressionForm, InstructionForm}
use Rattle.program_form.specs.Sound.{SlotPlace}
use Rattle.trees.specs.Trees.{base_tree, expression_tree, no_base, operator_of, path_list}
use Rattle.trees.specs.Held.{base_held, expression_held, slots_held, instruction_held, remaining, held}
use Rattle.trees.proofs.Held as tree
use Rattle.places.specs.Places.{CodePlace}
use Rattle.places.proofs.Laws as places
use Rattle.program_weights.specs.Weight.{base_weight, expression_weight, slots_weight, instruction_weight, code_weight}
use Rattle.write_words.specs.Appending.{CanAppend, Appended}
use Rattle.write_words.specs.Words.{integer_text, string_text, operator_text, self_path_text, program_path_text, AtLiteral, AtPath}
use Rattle.write_words.proofs.Laws.{can_append, appended_then, appended_past}
use Rattle.write_program.specs.Text.{base_led, expression_led, instruction_led, base_text, expression_text, slots_text, instruction_text, code_text, CanWrite}
use Rattle.write_program.proofs.Forms.{code_open, curly_close, frame_open, square_close, assign, show, jump, ifeq, other_base, other_expression}
use Rattle.write_program.proofs.Forms.{code_form, zero_form, frame_form, not_form, operation_form, assign_form, show_form, jump_form, ifeq_form}

-- ---- Parts, one after the other

pub appended_as : {m m₁ bs ts : List ℕ} {limit at a : ℕ} → ts ≡ bs → Appended m limit at bs m₁ a → Appended m limit at ts m₁ a
appended_as {m} {m₁} {bs} {ts} {limit} {at} {a} e x = subst (λ (us : List ℕ). Appended m limit at us m₁ a) (sym e) x

pub appended_two : {m m₁ m₂ bs cs ts : List ℕ} {limit at a b : ℕ} → CanAppend m limit at → ts ≡ bs ++ cs
    → Appended m limit at bs m₁ a → Appended m₁ limit a cs m₂ b → Appended m limit at ts m₂ b
appended_two can e x y = appended_as e (appended_then can x y)

pub appended_three : {m m₁ m₂ m₃ bs cs ds ts : List ℕ} {limit at a b r : ℕ} → CanAppend m limit at → ts ≡ (bs ++ cs) ++ ds
    → Appended m limit at bs m₁ a → Appended m₁ limit a cs m₂ b → Appended m₂ limit b ds m₃ r → Appended m limit at ts m₃ r
appended_three can e x y z = appended_two can e (appended_then can x y) z

-- each call is asked for the program and for what the last one left
module _ {p l m : List ℕ} {limit at : ℕ} (w : CanWrite p l m limit at) {m₁ bs : List ℕ} {a : ℕ} (x : Appended m limit at bs m₁ a) where
  pub can_next : CanAppend m₁ limit a
  can_next = can_append w.can x

  pub write_next : CanWrite p l m₁ limit a
  write_next = record { program = w.program; can = can_next }

  module _ {m₂ cs : List ℕ} {b : ℕ} (y : Appended m₁ limit a cs m₂ b) where
    pub can_second : CanAppend m₂ limit b
    can_second = can_append can_next y

    pub write_second : CanWrite p l m₂ limit b
    write_second = record { program = w.program; can = can_second }

    pub write_third : {m₃ ds : List ℕ} {r : ℕ} → Appended m₂ limit b ds m₃ r → CanWrite p l m₃ limit r
    write_third z = record { program = w.program; can = can_append can_second z }

-- past the limit
pub text_past : {p l m : List ℕ} {limit at : ℕ} (bs : List ℕ) → CanWrite p l m limit at → limit < at → Appended m limit at bs m at
text_past bs w lt = appended_past _ _ _ bs w.can lt

-- ---- Expressions

module _ {p l m : List ℕ} {limit at x : ℕ} (w : CanWrite p l m limit at) (lt : x < expressions p) (e : ExpressionEntry) (is : e ≡ expression_at p x) where
  form : ExpressionForm p x
  form = w.program.entries.expression x lt

  base_as : (place : Place) (b : Base Path) → base_held p x ≡ b → base_text p l place x ≡ base_led p l place b
  unfolding base_text
  base_as place b q = rw q

  expression_as : (place inner : Place) (g : Expression Path) → expression_held p x ≡ g
      → expression_text p l place inner x ≡ expression_led p l place inner g
  unfolding expression_text
  expression_as place inner g q = rw q

  -- as a base
  pub string_there : (k : ℕ) → e ≡ ExpressionEntry.Literal k → AtLiteral p l k
  string_there k q = record { program = w.program; there = form.literal k (sym is ∙ q) }

  module _ (j n : ℕ) where
    pub self_path_there : e ≡ ExpressionEntry.FromSelf j n → AtPath p j n
    self_path_there q = record { literal_bytes = l; program = w.program; there = form.from_self j n (sym is ∙ q) }

    pub program_path_there : e ≡ ExpressionEntry.FromProgram j n → AtPath p j n
    program_path_there q = record { literal_bytes = l; program = w.program; there = form.from_program j n (sym is ∙ q) }

  module _ (ns : List ℕ) {m₁ : List ℕ} {a : ℕ} where
    pub base_integer : (k : ℕ) (n : ℤ) → e ≡ ExpressionEntry.Integer k → n ≡ int_of k → Appended m limit at (integer_text (to_z w32 (of_z w32 n))) m₁ a → Appended m limit at (base_text p l (in_code ns) x) m₁ a
    unfolding integer_text int_of base_words
    base_integer k n q h =
        appended_as
        (base_as (in_code ns) _ (tree.integer_held p l w.program x lt k (sym is ∙ q)) ∙ ap (λ (u : ℤ). led (one (Token.integer u) ∷ [])) (sym (rw h (to_z-of_z w32 (int_of k) (int_fits k)))))

    pub base_string : (k : ℕ) → e ≡ ExpressionEntry.Literal k → Appended m limit at (string_text p l k) m₁ a → Appended m limit at (base_text p l (in_code ns) x) m₁ a
    unfolding string_text base_words
    base_string k q = appended_as (base_as (in_code ns) _ (tree.string_held p l w.program x lt k (sym is ∙ q)))

    pub base_self : (j n : ℕ) → e ≡ ExpressionEntry.FromSelf j n → Appended m limit at (self_path_text p j n) m₁ a → Appended m limit at (base_text p l (in_code ns) x) m₁ a
    unfolding self_path_text base_words written_path
    base_self j n q = appended_as (base_as (in_code ns) _ (tree.self_path_held p l w.program x lt j n (sym is ∙ q)))

    pub base_program : (j n : ℕ) → e ≡ ExpressionEntry.FromProgram j n → Appended m limit at (program_path_text p ns j n) m₁ a → Appended m limit at (base_text p l (in_code ns) x) m₁ a
    unfolding program_path_text base_words
    base_program j n q = appended_as (base_as (in_code ns) _ (tree.program_path_held p l w.program x lt j n (sym is ∙ q)))

    pub base_other : ((k : ℕ) → e ≡ ExpressionEntry.Integer k → ⊥) → ((k : ℕ) → e ≡ ExpressionEntry.Literal k → ⊥)
        → ((j n : ℕ) → e ≡ ExpressionEntry.FromSelf j n → ⊥) → ((j n : ℕ) → e ≡ ExpressionEntry.FromProgram j n → ⊥) → ((k : ℕ) → e ≡ ExpressionEntry.Code k → ⊥)
        → Appended m limit at (32 ∷ 48 ∷ []) m₁ a → Appended m limit at (base_text p l (in_code ns) x) m₁ a
    base_other b c d f k =
        appended_as
        (base_as (in_code ns) no_base ((tree.one_level_held p l w.program).base x lt ∙ ap (base_tree (held p) p) (sym is) ∙ other_base (held p) p e b c d f k)
        ∙ zero_form p l (in_code ns))

  module _ (k z : ℕ) (q : e ≡ ExpressionEntry.Code k) (here : z ≡ code_first p k) where
    pub code_place : CodePlace p z
    code_place = record { there = λ i s. w.program.entries.code_first_there k i (form.code k (sym is ∙ q)) (sym here ∙ s) }

    code_here : base_held p x ≡ Base.code k (remaining p z)
    code_here = tree.code_held p l w.program x lt k (sym is ∙ q) ∙ ap (λ (y : ℕ). Base.code k (remaining p y)) (sym here)

    pub code_falls : (t : ℕ) → base_weight (base_held p x) ≡ t → code_weight (remaining p z) < t
    unfolding base_weight
    code_falls t h = let s = ap base_weight code_here in omega arith

    pub base_code : (ns : List ℕ) {m₁ m₂ m₃ : List ℕ} {a b r : ℕ} → Appended m limit at code_open m₁ a → Appended m₁ limit a (code_text p l (in_code ns) z) m₂ b
        → Appended m₂ limit b curly_close m₃ r → Appended m limit at (base_text p l (in_code ns) x) m₃ r
    unfolding code_text within_code
    base_code ns = appended_three w.can (base_as (in_code ns) _ code_here ∙ code_form p l (in_code ns) k (remaining p z))

  -- as an expression
  module _ (d z : ℕ) (q : e ≡ ExpressionEntry.Frame d) (here : z ≡ link 1024 x d) where
    pub frame_place : SlotPlace p z
    frame_place = places.frame_place p l w.program x d z lt (sym is ∙ q) here

    frame_here : expression_held p x ≡ Expression.frame (slots_held p z)
    frame_here = places.frame_open p l w.program x d z lt (sym is ∙ q) here

    pub frame_falls : (t : ℕ) → expression_weight (expression_held p x) ≡ t → slots_weight (slots_held p z) < t
    unfolding base_weight
    frame_falls t h = let s = ap expression_weight frame_here in omega arith

    pub expression_frame : (place inner : Place) {m₁ m₂ m₃ : List ℕ} {a b r : ℕ} → Appended m limit at frame_open m₁ a → Appended m₁ limit a (slots_text p l inner z) m₂ b
        → Appended m₂ limit b square_close m₃ r → Appended m limit at (expression_text p l place inner x) m₃ r
    unfolding slots_text
    expression_frame place inner = appended_three w.can (expression_as place inner _ frame_here ∙ frame_form p l place inner (slots_held p z))

  module _ (y : ℕ) (q : e ≡ ExpressionEntry.Not y) where
    pub not_there : y < expressions p
    not_there = (form.negated y (sym is ∙ q)).there

    not_here : expression_held p x ≡ Expression.not (base_held p y)
    not_here = tree.not_held p l w.program x lt y (sym is ∙ q)

    pub not_falls : (t : ℕ) → expression_weight (expression_held p x) ≡ t → base_weight (base_held p y) < t
    unfolding base_weight
    not_falls t h = let s = ap expression_weight not_here in omega arith

    pub expression_not : (place inner : Place) {m₁ m₂ : List ℕ} {a b : ℕ} → Appended m limit at (32 ∷ 33 ∷ []) m₁ a → Appended m₁ limit a (base_text p l place y) m₂ b
        → Appended m limit at (expression_text p l place inner x) m₂ b
    unfolding base_text
    expression_not place inner = appended_two w.can (expression_as place inner _ not_here ∙ not_form p l place inner (base_held p y))

  module _ (o y z : ℕ) (q : e ≡ ExpressionEntry.Operate o y z) where
    pub left_there : y < expressions p
    left_there = (form.left o y z (sym is ∙ q)).there

    pub right_there : z < expressions p
    right_there = (form.right o y z (sym is ∙ q)).there

    operation_here : expression_held p x ≡ Expression.operation (operator_of o) (base_held p y) (base_held p z)
    operation_here = tree.operation_held p l w.program x lt o y z (sym is ∙ q)

    module _ (t : ℕ) (h : expression_weight (expression_held p x) ≡ t) where
      pub left_falls : base_weight (base_held p y) < t
      unfolding base_weight
      left_falls = let s = ap expression_weight operation_here in omega arith

      pub right_falls : base_weight (base_held p z) < t
      unfolding base_weight
      right_falls = let s = ap expression_weight operation_here in omega arith

    pub expression_operation : (place inner : Place) {m₁ m₂ m₃ : List ℕ} {a b r : ℕ} → Appended m limit at (base_text p l place y) m₁ a → Appended m₁ limit a (operator_text o) m₂ b
        → Appended m₂ limit b (base_text p l place z) m₃ r → Appended m limit at (expression_text p l place inner x) m₃ r
    unfolding base_text operator_text
    expression_operation place inner =
        appended_three w.can
        (expression_as place inner _ operation_here ∙ operation_form p l place inner (operator_of o) (base_held p y) (base_held p z))

  -- any other is a base
  module _
      (b : (d : ℕ) → e ≡ ExpressionEntry.Frame d → ⊥)
      (c : (y : ℕ) → e ≡ ExpressionEntry.Not y → ⊥)
      (k : (o y z : ℕ) → e ≡ ExpressionEntry.Operate o y z → ⊥)
    where
      plain_here : expression_held p x ≡ Expression.base (base_held p x)
      plain_here =
          (tree.one_level_held p l w.program).expression x lt
          ∙ ap (expression_tree (held p) p x) (sym is)
          ∙ other_expression (held p) p x e b c k
          ∙ ap (λ (u : ExpressionEntry). Expression.base (base_tree (held p) p u)) is
          ∙ ap Expression.base (sym ((tree.one_level_held p l w.program).base x lt))

      pub plain_falls : (t : ℕ) → expression_weight (expression_held p x) ≡ t → base_weight (base_held p x) < t
      unfolding base_weight
      plain_falls t h = let s = ap expression_weight plain_here in omega arith

      pub expression_plain : (place inner : Place) {m₁ : List ℕ} {a : ℕ} → Appended m limit at (base_text p l place x) m₁ a → Appended m limit at (expression_text p l place inner x) m₁ a
      unfolding base_text base_words
      expression_plain place inner = appended_as (expression_as place inner _ plain_here)

-- ---- Instructions

-- both operands of a jump are there and weigh less than it
pub record JumpOperands (p : List ℕ) (i x y : ℕ) : Type 0 where
  pub first : x < expressions p
  pub second : y < expressions p
  pub weight : instruction_weight (instruction_held p i) ≡ suc (base_weight (base_held p x) + base_weight (base_held p y))

module _ {p l m : List ℕ} {limit at i : ℕ} (w : CanWrite p l m limit at) (lt : i < instructions p) (e : InstructionEntry) (is : e ≡ instruction_at p i) where
  forms : InstructionForm p i
  forms = w.program.entries.instruction i lt

  instruction_as : (place : Place) (g : Instruction Path) → instruction_held p i ≡ g
      → instruction_text p l place i ≡ instruction_led p l place g
  unfolding instruction_text
  instruction_as place g q = rw q

  module _ (j n x : ℕ) (q : e ≡ InstructionEntry.AssignSelf j n x) where
    pub assign_self_path : AtPath p j n
    assign_self_path = record { literal_bytes = l; program = w.program; there = forms.self_path j n x (sym is ∙ q) }

    pub assign_self_there : x < expressions p
    assign_self_there = forms.self_there j n x (sym is ∙ q)

    self_here : instruction_held p i ≡ Instruction.assign (from_self (path_list p n j)) (expression_held p x)
    self_here = tree.assign_self_held p l w.program i lt j n x (sym is ∙ q)

    pub assign_self_falls : (t : ℕ) → instruction_weight (instruction_held p i) ≡ t → expression_weight (expression_held p x) < t
    unfolding base_weight
    assign_self_falls t h = let s = ap instruction_weight self_here in omega arith

    pub instruction_self : (ns : List ℕ) {m₁ m₂ m₃ : List ℕ} {a b r : ℕ} → Appended m limit at (self_path_text p j n) m₁ a → Appended m₁ limit a assign m₂ b
        → Appended m₂ limit b (expression_text p l (in_code ns) (in_code ns) x) m₃ r → Appended m limit at (instruction_text p l (in_code ns) i) m₃ r
    unfolding self_path_text expression_text written_path
    instruction_self ns =
        appended_three w.can
        (instruction_as (in_code ns) _ self_here ∙ assign_form p l (in_code ns) (from_self (path_list p n j)) (expression_held p x))

  module _ (j n x : ℕ) (q : e ≡ InstructionEntry.AssignProgram j n x) where
    pub assign_program_path : AtPath p j n
    assign_program_path = record { literal_bytes = l; program = w.program; there = forms.program_path j n x (sym is ∙ q) }

    pub assign_program_there : x < expressions p
    assign_program_there = forms.program_there j n x (sym is ∙ q)

    program_here : instruction_held p i ≡ Instruction.assign (from_program (path_list p n j)) (expression_held p x)
    program_here = tree.assign_program_held p l w.program i lt j n x (sym is ∙ q)

    pub assign_program_falls : (t : ℕ) → instruction_weight (instruction_held p i) ≡ t → expression_weight (expression_held p x) < t
    unfolding base_weight
    assign_program_falls t h = let s = ap instruction_weight program_here in omega arith

    pub instruction_program : (ns : List ℕ) {m₁ m₂ m₃ : List ℕ} {a b r : ℕ} → Appended m limit at (program_path_text p ns j n) m₁ a → Appended m₁ limit a assign m₂ b
        → Appended m₂ limit b (expression_text p l (in_code ns) (in_code ns) x) m₃ r → Appended m limit at (instruction_text p l (in_code ns) i) m₃ r
    unfolding program_path_text expression_text
    instruction_program ns =
        appended_three w.can
        (instruction_as (in_code ns) _ program_here ∙ assign_form p l (in_code ns) (from_program (path_list p n j)) (expression_held p x))

  module _ (x : ℕ) (q : e ≡ InstructionEntry.Show x) where
    pub show_there : x < expressions p
    show_there = (forms.shown x (sym is ∙ q)).there

    show_here : instruction_held p i ≡ Instruction.show (base_held p x)
    show_here = tree.show_held p l w.program i lt x (sym is ∙ q)

    pub show_falls : (t : ℕ) → instruction_weight (instruction_held p i) ≡ t → base_weight (base_held p x) < t
    unfolding base_weight
    show_falls t h = let s = ap instruction_weight show_here in omega arith

    pub instruction_show : (place : Place) {m₁ m₂ : List ℕ} {a b : ℕ} → Appended m limit at show m₁ a → Appended m₁ limit a (base_text p l place x) m₂ b
        → Appended m limit at (instruction_text p l place i) m₂ b
    unfolding base_text
    instruction_show place = appended_two w.can (instruction_as place _ show_here ∙ show_form p l place (base_held p x))

  module _ (x y : ℕ) (q : e ≡ InstructionEntry.Jump x y) where
    jump_here : instruction_held p i ≡ Instruction.jump (base_held p x) (base_held p y)
    jump_here = tree.jump_held p l w.program i lt x y (sym is ∙ q)

    pub jump_operands : JumpOperands p i x y
    unfolding base_weight
    jump_operands = record {
      first = (forms.jump_to x y (sym is ∙ q)).there;
      second = (forms.jump_with x y (sym is ∙ q)).there;
      weight = ap instruction_weight jump_here;
    }

    pub instruction_jump : (place : Place) {m₁ m₂ m₃ : List ℕ} {a b r : ℕ} → Appended m limit at jump m₁ a
        → Appended m₁ limit a (base_text p l place x) m₂ b → Appended m₂ limit b (base_text p l place y) m₃ r → Appended m limit at (instruction_text p l place i) m₃ r
    unfolding base_text
    instruction_jump place = appended_three w.can (instruction_as place _ jump_here ∙ jump_form p l place (base_held p x) (base_held p y))

  module _ (x y z : ℕ) (q : e ≡ InstructionEntry.Ifeq x y z) where
    pub ifeq_first : x < expressions p
    ifeq_first = (forms.ifeq_test x y z (sym is ∙ q)).there

    pub ifeq_second : y < expressions p
    ifeq_second = (forms.ifeq_to x y z (sym is ∙ q)).there

    pub ifeq_third : z < expressions p
    ifeq_third = (forms.ifeq_with x y z (sym is ∙ q)).there

    ifeq_here : instruction_held p i ≡ Instruction.ifeq (base_held p x) (base_held p y) (base_held p z)
    ifeq_here = tree.ifeq_held p l w.program i lt x y z (sym is ∙ q)

    module _ (t : ℕ) (h : instruction_weight (instruction_held p i) ≡ t) where
      pub ifeq_first_falls : base_weight (base_held p x) < t
      unfolding base_weight
      ifeq_first_falls = let s = ap instruction_weight ifeq_here in omega arith

      pub ifeq_second_falls : base_weight (base_held p y) < t
      unfolding base_weight
      ifeq_second_falls = let s = ap instruction_weight ifeq_here in omega arith

      pub ifeq_third_falls : base_weight (base_held p z) < t
      unfolding base_weight
      ifeq_third_falls = let s = ap instruction_weight ifeq_here in omega arith

    pub instruction_ifeq : (place : Place) {m₁ m₂ m₃ m₄ : List ℕ} {a b c r : ℕ} → Appended m limit at ifeq m₁ a
        → Appended m₁ limit a (base_text p l place x) m₂ b → Appended m₂ limit b (base_text p l place y) m₃ c → Appended m₃ limit c (base_text p l place z) m₄ r
        → Appended m limit at (instruction_text p l place i) m₄ r
    unfolding base_text
    instruction_ifeq place u v =
        appended_three w.can
        (instruction_as place _ ifeq_here ∙ ifeq_form p l place (base_held p x) (base_held p y) (base_held p z))
        (appended_then w.can u v)

  pub instruction_formed : e ≡ InstructionEntry.Bad → ⊥
  instruction_formed q = forms.formed (sym is ∙ q)
