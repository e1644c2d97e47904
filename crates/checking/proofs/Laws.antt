-- One law for each way through the functions of this crate, for what each call asks and for each fall of the measure. Assumes nothing.
use Prim.Native.Nat.{ℕ, zero, suc, ◌+◌, ◌-◌, ◌≤◌, ◌<◌}
use mathlib.Core.Path.{◌≡◌, refl, ◌∙◌, sym}
use mathlib.Core.List.{List}
use mathlib.Core.Bool.{Bool, true, false}
use native.Mathlib.Omega.{arith}
use native.Mathlib.Decide.{dec_lt, ℕ_discrete}
use lib.Dec.{ltb}
use borrow.Author.Tests.{ne_eqb, le-ltb}
use Rattle.std.specs.Prelude.{Option, Some, None}
use Rattle.words.specs.Words.{pick}
use Rattle.framed.specs.declared.Value.{Value}
use Rattle.framed.specs.Tree.{Base, Expression}
use Rattle.framed.specs.Paths.{Path}
use Rattle.framed.specs.Machine.{Result, ◌>>=◌, defined}
use Rattle.bounded.specs.Operations.{operated}
use Rattle.bounded.specs.Check.{end_of, first_end, operation_result, check_expression, check}
use Rattle.tables.specs.declared.ExpressionEntry.{ExpressionEntry}
use Rattle.tables.specs.declared.InstructionEntry.{InstructionEntry}
use Rattle.tables.specs.Entries.{expression_of, expression_at, instruction_of, instruction_at}
use Rattle.tables.specs.Fields.{link, expressions, instructions, instruction_kind, instruction_a, instruction_b, instruction_c, slot_after, expression_kind, expression_a, expression_b}
use Rattle.program_entries.specs.Form as form
use Rattle.heap.specs.Words.{self_held, program_held}
use Rattle.heap.specs.Held.{heap_held, frames_held, texts_held}
use Rattle.paths.specs.Paths.{fetched}
use Rattle.trees.specs.Trees.{expression_tree, base_tree, path_list}
use Rattle.trees.specs.Trees as trees
use Rattle.trees.specs.Held.{base_held, expression_held, instruction_held, held}
use Rattle.trees.specs.Held as trees-held
use Rattle.trees.proofs.Held.{one_level_held, assign_self_held, assign_program_held, show_held}
use Rattle.operators.specs.Operators.{operator_of, arithmetic_of}
use Rattle.operands.specs.Operands.{operand_value}
use Rattle.program_equality.specs.Agreement.{constants_held}
use Rattle.program_equality.proofs.Constants.{same_constants}
use Rattle.operand_checks.specs.OperandChecks.{put_end}
use Rattle.operand_checks.proofs.Laws.{put_self, put_program}
use Rattle.places.specs.Places.{expression_measure, slots_measure}
use Rattle.places.proofs.Laws as places
use Rattle.checking.specs.Checking.{Checks, ChecksExpression, ChecksSlots, ChecksInstruction, operation_end, expression_end, slots_end, assign_end, base_in, single_end}

-- ---- The operator of a kind

-- kinds from 7 on
from_join : (o : ℕ) → 12 ≤ o → operator_of o ≡ trees.operator_of o
unfolding operator_of trees.operator_of
from_join o le = rw (le-ltb o 12 le, ne_eqb o 7 (λ e. omega arith), ne_eqb o 8 (λ e. omega arith), ne_eqb o 9 (λ e. omega arith), ne_eqb o 10 (λ e. omega arith), ne_eqb o 11 (λ e. omega arith))

below_join : (o : ℕ) → 7 ≤ o → o < 12 → operator_of o ≡ trees.operator_of o
unfolding operator_of arithmetic_of trees.operator_of
below_join o le lt = go (o - 7) (omega arith)
  where
    go : (k : ℕ) → o ≡ 7 + k → operator_of o ≡ trees.operator_of o
    go zero e = rw e
    go (suc zero) e = rw e
    go (suc (suc zero)) e = rw e
    go (suc (suc (suc zero))) e = rw e
    go (suc (suc (suc (suc zero)))) e = rw e
    go (suc (suc (suc (suc (suc k))))) e = absurd (omega arith)

same_operator : (o : ℕ) → 7 ≤ o → operator_of o ≡ trees.operator_of o
same_operator o le = go (dec_lt o 12)
  where
    go : Dec (o < 12) → operator_of o ≡ trees.operator_of o
    go (yes lt) = below_join o le lt
    go (no ge) = from_join o (omega arith)

-- an operation's kind is one of them
operate_from_7 : (k a b o c d : ℕ) → 7 ≤ k → expression_of k a b ≡ ExpressionEntry.Operate o c d → 7 ≤ o
unfolding expression_of
operate_from_7 k a b o c d le e =
    go (ltb k 16)
    (rw (ne_eqb k 0 (λ q. omega arith), ne_eqb k 1 (λ q. omega arith), ne_eqb k 2 (λ q. omega arith), ne_eqb k 3 (λ q. omega arith), ne_eqb k 4 (λ q. omega arith), ne_eqb k 5 (λ q. omega arith), ne_eqb k 6 (λ q. omega arith)) at e)
  where
    go : (t : Bool) → pick t (ExpressionEntry.Operate k a b) ExpressionEntry.Bad ≡ ExpressionEntry.Operate o c d → 7 ≤ o
    go true q = let z : k ≡ o = cc in omega arith
    go false q = absurd (let z : ◌≡◌ {A = ℕ} 0 1 = cc in omega arith)

operate_kind : (k a b o c d : ℕ) → expression_of k a b ≡ ExpressionEntry.Operate o c d → 7 ≤ o
unfolding expression_of
operate_kind zero a b o c d e = absurd (let z : ◌≡◌ {A = ℕ} 0 1 = cc in omega arith)
operate_kind (suc zero) a b o c d e = absurd (let z : ◌≡◌ {A = ℕ} 0 1 = cc in omega arith)
operate_kind (suc (suc zero)) a b o c d e = absurd (let z : ◌≡◌ {A = ℕ} 0 1 = cc in omega arith)
operate_kind (suc (suc (suc zero))) a b o c d e = absurd (let z : ◌≡◌ {A = ℕ} 0 1 = cc in omega arith)
operate_kind (suc (suc (suc (suc zero)))) a b o c d e = absurd (let z : ◌≡◌ {A = ℕ} 0 1 = cc in omega arith)
operate_kind (suc (suc (suc (suc (suc zero))))) a b o c d e = absurd (let z : ◌≡◌ {A = ℕ} 0 1 = cc in omega arith)
operate_kind (suc (suc (suc (suc (suc (suc zero)))))) a b o c d e = absurd (let z : ◌≡◌ {A = ℕ} 0 1 = cc in omega arith)
operate_kind (suc (suc (suc (suc (suc (suc (suc k))))))) a b o c d e = operate_from_7 (suc (suc (suc (suc (suc (suc (suc k))))))) a b o c d (omega arith) e

operate_from : (p : List ℕ) (x o a b : ℕ) → expression_at p x ≡ ExpressionEntry.Operate o a b → 7 ≤ o
unfolding expression_at
operate_from p x o a b e = operate_kind (expression_kind p x) (expression_a p x) (expression_b p x) o a b e

-- ---- check_operation

-- the end by the values of the two operands
operated_end : (p l h t : List ℕ) → ℕ → Result Value → Result Value → ℕ
operated_end p l h t o v w = end_of (◌>>=◌ v (λ u. ◌>>=◌ w (λ s. operated (constants_held p l) (texts_held h t) (operator_of o) u s)))

operation_open : (p l h t : List ℕ) (o a b : ℕ) → operation_end p l h t o a b ≡ operated_end p l h t o (operand_value p h a) (operand_value p h b)
unfolding operation_end operation_result operand_value heap_held operated_end
operation_open p l h t o a b = refl

module _ (p l h t : List ℕ) (o a b : ℕ) (r : Option Value) (er : defined (fetched r) ≡ operand_value p h a) where
  pub operation_left : r ≡ None → 31 ≡ operation_end p l h t o a b
  unfolding defined ◌>>=◌ end_of operated_end
  operation_left e = rw (operation_open p l h t o a b, ← er, e)

  module _ (v : Value) (ev : r ≡ Some v) (s : Option Value) (es : defined (fetched s) ≡ operand_value p h b) where
    pub operation_right : s ≡ None → 31 ≡ operation_end p l h t o a b
    unfolding defined ◌>>=◌ end_of operated_end
    operation_right e = rw (operation_open p l h t o a b, ← er, ev, ← es, e)

    pub operation_both : (w : Value) (n : ℕ) → s ≡ Some w → n ≡ end_of (operated (constants_held p l) (texts_held h t) (operator_of o) v w) → n ≡ operation_end p l h t o a b
    unfolding defined ◌>>=◌ operated_end
    operation_both w n e en = rw (operation_open p l h t o a b, ← er, ev, ← es, e, en)

-- ---- base_in, check_single

abbrev NotNot : ExpressionEntry → Type 0
NotNot e = ((k : ℕ) → e ≡ ExpressionEntry.Not k → ⊥)

abbrev NotOperate : ExpressionEntry → Type 0
NotOperate e = ((k : ℕ) (n : ℕ) (i : ℕ) → e ≡ ExpressionEntry.Operate k n i → ⊥)

abbrev NotFrame : ExpressionEntry → Type 0
NotFrame e = ((k : ℕ) → e ≡ ExpressionEntry.Frame k → ⊥)

pub base_itself : (x : ℕ) (e : ExpressionEntry) → NotNot e → x ≡ base_in x e
unfolding base_in
base_itself x (ExpressionEntry.Integer w) k = refl
base_itself x (ExpressionEntry.Literal n) k = refl
base_itself x (ExpressionEntry.FromSelf j n) k = refl
base_itself x (ExpressionEntry.FromProgram j n) k = refl
base_itself x (ExpressionEntry.Code n) k = refl
base_itself x (ExpressionEntry.Frame d) k = refl
base_itself x (ExpressionEntry.Not a) k = absurd (k a refl)
base_itself x (ExpressionEntry.Operate o a b) k = refl
base_itself x ExpressionEntry.Bad k = refl

pub base_negated : (x a : ℕ) (e : ExpressionEntry) → e ≡ ExpressionEntry.Not a → a ≡ base_in x e
unfolding base_in
base_negated x a e is = rw is

module _ (p l h t : List ℕ) (x : ℕ) where
  single_base : (e : ExpressionEntry) → NotOperate e → end_of (operand_value p h (base_in x e)) ≡ single_end p l h t x e
  unfolding base_in single_end
  single_base (ExpressionEntry.Integer w) k = refl
  single_base (ExpressionEntry.Literal n) k = refl
  single_base (ExpressionEntry.FromSelf j n) k = refl
  single_base (ExpressionEntry.FromProgram j n) k = refl
  single_base (ExpressionEntry.Code n) k = refl
  single_base (ExpressionEntry.Frame d) k = refl
  single_base (ExpressionEntry.Not a) k = refl
  single_base (ExpressionEntry.Operate o a b) k = absurd (k o a b refl)
  single_base ExpressionEntry.Bad k = refl

  pub single_operand : (e : ExpressionEntry) (b r : ℕ) → NotOperate e → b ≡ base_in x e → r ≡ end_of (operand_value p h b) → r ≡ single_end p l h t x e
  single_operand e b r k eb er = rw (er, eb) (single_base e k)

  pub single_operation : (e : ExpressionEntry) (o a b r : ℕ) → e ≡ ExpressionEntry.Operate o a b → r ≡ operation_end p l h t o a b → r ≡ single_end p l h t x e
  unfolding single_end
  single_operation e o a b r is er = rw (er, is)

-- ---- check_expression

module _ (p l h t : List ℕ) (x : ℕ) (a : ChecksExpression p l h t x) where
  -- an entry that is a base
  end_base : (b : Base Path) → base_held p x ≡ b → expression_held p x ≡ Expression.base b → end_of (operand_value p h x) ≡ expression_end p l h t x
  unfolding expression_end check_expression operand_value heap_held
  end_base b eb ee = rw (eb, ee)

  held_base : (e : ExpressionEntry) → e ≡ expression_at p x → base_held p x ≡ base_tree (held p) p e
  held_base e at = rw at ((one_level_held p l a.memories.program).base x a.there)

  held_expression : (e : ExpressionEntry) → e ≡ expression_at p x → expression_held p x ≡ expression_tree (held p) p x e
  held_expression e at = rw at ((one_level_held p l a.memories.program).expression x a.there)

  end_not : (c : ℕ) → expression_held p x ≡ Expression.not (base_held p c) → end_of (operand_value p h c) ≡ expression_end p l h t x
  unfolding expression_end check_expression operand_value heap_held
  end_not c ee = rw ee

  end_operation : (o b c : ℕ) → 7 ≤ o → expression_held p x ≡ Expression.operation (trees.operator_of o) (base_held p b) (base_held p c) → operation_end p l h t o b c ≡ expression_end p l h t x
  unfolding expression_end check_expression operation_end
  end_operation o b c le ee = rw (ee, same_operator o le)

  pub single_is : (e : ExpressionEntry) → e ≡ expression_at p x → NotFrame e → single_end p l h t x e ≡ expression_end p l h t x
  unfolding single_end base_tree expression_tree
  single_is (ExpressionEntry.Integer w) at k = end_base _ (held_base (ExpressionEntry.Integer w) at) (held_expression (ExpressionEntry.Integer w) at)
  single_is (ExpressionEntry.Literal n) at k = end_base _ (held_base (ExpressionEntry.Literal n) at) (held_expression (ExpressionEntry.Literal n) at)
  single_is (ExpressionEntry.FromSelf j n) at k = end_base _ (held_base (ExpressionEntry.FromSelf j n) at) (held_expression (ExpressionEntry.FromSelf j n) at)
  single_is (ExpressionEntry.FromProgram j n) at k = end_base _ (held_base (ExpressionEntry.FromProgram j n) at) (held_expression (ExpressionEntry.FromProgram j n) at)
  single_is (ExpressionEntry.Code n) at k = end_base _ (held_base (ExpressionEntry.Code n) at) (held_expression (ExpressionEntry.Code n) at)
  single_is (ExpressionEntry.Frame d) at k = absurd (k d refl)
  single_is (ExpressionEntry.Not c) at k = end_not c (held_expression (ExpressionEntry.Not c) at)
  single_is (ExpressionEntry.Operate o b c) at k = end_operation o b c (operate_from p x o b c (sym at)) (held_expression (ExpressionEntry.Operate o b c) at)
  single_is ExpressionEntry.Bad at k = end_base _ (held_base ExpressionEntry.Bad at) (held_expression ExpressionEntry.Bad at)

  module _ (e : ExpressionEntry) (at : e ≡ expression_at p x) where
    pub expression_single : (r : ℕ) → NotFrame e → r ≡ single_end p l h t x e → r ≡ expression_end p l h t x
    expression_single r k er = er ∙ single_is e at k

    module _ (d z : ℕ) (is : e ≡ ExpressionEntry.Frame d) (here : z ≡ link 1024 x d) where
      pub frame_slots : ChecksSlots p l h t z
      frame_slots = record { memories = a.memories; place = places.frame_place p l a.memories.program x d z a.there (sym at ∙ is) here }

      pub frame_falls : (n : ℕ) → expression_measure x ≡ n → slots_measure z < n
      frame_falls n q = rw (← q) (places.frame_falls p l a.memories.program x d z a.there (sym at ∙ is) here)

      pub expression_frame : (r : ℕ) → r ≡ slots_end p l h t z → r ≡ expression_end p l h t x
      unfolding expression_end slots_end check_expression
      expression_frame r er = rw (er, places.frame_open p l a.memories.program x d z a.there (sym at ∙ is) here)

-- ---- check_slots

first_found : (a b : ℕ) → (a ≡ 0 → ⊥) → a ≡ first_end a b
unfolding first_end
first_found zero b ne = absurd (ne refl)
first_found (suc a) b ne = refl

first_none : (a b : ℕ) → a ≡ 0 → b ≡ first_end a b
unfolding first_end
first_none a b e = rw e

module _ (p l h t : List ℕ) (z : ℕ) (a : ChecksSlots p l h t z) where
  none_left : z ≡ 0 → 0 ≡ slots_end p l h t z
  unfolding slots_end check_expression
  none_left e = rw (e, (one_level_held p l a.memories.program).no_slots)

  module _ (ne : z ≡ 0 → ⊥) where
    at_slot : ChecksExpression p l h t (z - 1)
    at_slot = record { memories = a.memories; there = places.slot_there p l a.memories.program z a.place ne }

    slot_below : (n : ℕ) → slots_measure z ≡ n → expression_measure (z - 1) < n
    slot_below n q = rw (← q) (places.slot_falls p l a.memories.program z a.place ne)

    module _ (n : ℕ) (next : n ≡ slot_after p (z - 1)) where
      at_next : ChecksSlots p l h t n
      at_next = record { memories = a.memories; place = places.next_place p l a.memories.program z a.place ne n next }

      next_below : (m : ℕ) → slots_measure z ≡ m → slots_measure n < m
      next_below m q = rw (← q) (places.next_falls p l a.memories.program z a.place ne n next)

      slots_first : slots_end p l h t z ≡ first_end (expression_end p l h t (z - 1)) (slots_end p l h t n)
      unfolding slots_end expression_end check_expression
      slots_first = rw (places.slots_open p l a.memories.program z a.place ne n next)

      rest_is : (b r : ℕ) → b ≡ expression_end p l h t (z - 1) → b ≡ 0 → r ≡ slots_end p l h t n → r ≡ slots_end p l h t z
      rest_is b r eb e er = rw (er, slots_first) (first_none (expression_end p l h t (z - 1)) (slots_end p l h t n) (sym eb ∙ e))

    met_here : (b : ℕ) → b ≡ expression_end p l h t (z - 1) → (b ≡ 0 → ⊥) → b ≡ slots_end p l h t z
    met_here b eb met =
        rw (eb, slots_first (slot_after p (z - 1)) refl)
        (first_found (expression_end p l h t (z - 1)) (slots_end p l h t (slot_after p (z - 1))) (λ q. met (eb ∙ q)))

-- the loop: what the slots from z on end with is the answer
module _ (p l h t : List ℕ) (from : ℕ) where
  pub record Checking (z : ℕ) : Type 0 where
    at : ChecksSlots p l h t z
    fewer : slots_measure z ≤ slots_measure from
    rest : slots_end p l h t z ≡ slots_end p l h t from

  pub slots_start : ChecksSlots p l h t from → Checking from
  slots_start a = record { at = a; fewer = omega arith; rest = refl }

  module _ (z : ℕ) (k : Checking z) where
    pub slots_none : z ≡ 0 → 0 ≡ slots_end p l h t from
    slots_none e = none_left p l h t z k.at e ∙ k.rest

    module _ (ne : z ≡ 0 → ⊥) where
      pub slot_expression : ChecksExpression p l h t (z - 1)
      slot_expression = at_slot p l h t z k.at ne

      pub slot_falls : (n : ℕ) → slots_measure from ≡ n → expression_measure (z - 1) < n
      slot_falls n e = let a = slot_below p l h t z k.at ne (slots_measure z) refl in let b = k.fewer in omega arith

      pub slots_met : (b : ℕ) → b ≡ expression_end p l h t (z - 1) → (b ≡ 0 → ⊥) → b ≡ slots_end p l h t from
      slots_met b eb met = met_here p l h t z k.at ne b eb met ∙ k.rest

      module _ (q b : ℕ) (eq : q ≡ expression_kind p (z - 1)) (lt : q < 5) (eb : b ≡ end_of (operand_value p h (z - 1))) where
        slot_base : b ≡ expression_end p l h t (z - 1)
        slot_base =
            let there = slot_expression.there in
            eb
            ∙ end_base p l h t (z - 1) slot_expression (base_held p (z - 1)) refl ((one_level_held p l k.at.memories.program).as_base (z - 1) there (omega arith))

        pub base_met : (b ≡ 0 → ⊥) → b ≡ slots_end p l h t from
        base_met met = slots_met b slot_base met

      module _ (n : ℕ) (next : n ≡ slot_after p (z - 1)) where
        pub next_falls : slots_measure n < slots_measure z
        next_falls = next_below p l h t z k.at ne n next (slots_measure z) refl

        pub slots_again : (b : ℕ) → b ≡ expression_end p l h t (z - 1) → b ≡ 0 → Checking n
        slots_again b eb e = record {
          at = at_next p l h t z k.at ne n next;
          fewer = let a = next_falls in let c = k.fewer in omega arith;
          rest = rest_is p l h t z k.at ne n next b (slots_end p l h t n) eb e refl ∙ k.rest;
        }

        pub base_again : (q b : ℕ) → q ≡ expression_kind p (z - 1) → q < 5 → b ≡ end_of (operand_value p h (z - 1)) → b ≡ 0 → Checking n
        base_again q b eq lt eb e = slots_again b (slot_base q b eq lt eb) e

-- ---- check_assign

module _ (p l h t : List ℕ) (v : Value) (j n x b : ℕ) (eb : b ≡ expression_end p l h t x) where
  pub assign_met : (b ≡ 0 → ⊥) → b ≡ assign_end p l h t v j n x
  unfolding assign_end
  assign_met met = rw (← eb) (first_found b (put_end p h v j n) met)

  pub assign_put : (r : ℕ) → b ≡ 0 → r ≡ put_end p h v j n → r ≡ assign_end p l h t v j n x
  unfolding assign_end
  assign_put r e er = rw (← eb, er) (first_none b (put_end p h v j n) e)

-- ---- check

module _ (p l h t : List ℕ) (i : ℕ) (m : Checks p l h t) (there : i < instructions p) where
  -- the end that `bounded` names
  abbrev checked : ℕ
  checked = check (trees-held.program_held p l) (self_held h) (program_held h) (heap_held h t) (instruction_held p i)

  -- by its entry
  module _ (j n x r : ℕ) where
    pub check_self : InstructionEntry.AssignSelf j n x ≡ instruction_at p i → r ≡ assign_end p l h t (self_held h) j n x → r ≡ checked
    unfolding check assign_end put_end expression_end heap_held
    check_self at er =
        rw (er, assign_self_held p l m.program i there j n x (sym at), same_constants p l, put_self (frames_held h) (self_held h) (program_held h) (path_list p n j))

    pub check_program : InstructionEntry.AssignProgram j n x ≡ instruction_at p i → r ≡ assign_end p l h t (program_held h) j n x → r ≡ checked
    unfolding check assign_end put_end expression_end heap_held
    check_program at er =
        rw (er, assign_program_held p l m.program i there j n x (sym at), same_constants p l, put_program (frames_held h) (self_held h) (program_held h) (path_list p n j))

  check_show : (x r : ℕ) → InstructionEntry.Show x ≡ instruction_at p i → r ≡ end_of (operand_value p h x) → r ≡ checked
  unfolding check operand_value heap_held
  check_show x r at er = rw (er, show_held p l m.program i there x (sym at))

-- by its kind
module _ (p l h t : List ℕ) (i : ℕ) (c : ChecksInstruction p l h t i) (k : ℕ) (ek : k ≡ instruction_kind p i) (a : ℕ) (ea : a ≡ instruction_a p i) where
  entry_show : k ≡ 2 → InstructionEntry.Show a ≡ instruction_at p i
  unfolding instruction_at instruction_of
  entry_show z = rw (ea, ← ek, z)

  pub kind_shows : 2 ≤ k → (r : ℕ) → r ≡ end_of (operand_value p h a) → r ≡ checked p l h t i c.memories c.there
  kind_shows ge r er = check_show p l h t i c.memories c.there a r (entry_show (let q = c.form.kind in omega arith)) er

  module _ (lt : k < 2) (n : ℕ) (en : n ≡ instruction_b p i) (x : ℕ) (ex : x ≡ instruction_c p i) where
    entry_self : k ≡ 0 → InstructionEntry.AssignSelf a n x ≡ instruction_at p i
    unfolding instruction_at instruction_of
    entry_self z = rw (ea, en, ex, ← ek, z)

    entry_program : k ≡ 1 → InstructionEntry.AssignProgram a n x ≡ instruction_at p i
    unfolding instruction_at instruction_of
    entry_program z = rw (ea, en, ex, ← ek, z)

    forms : form.InstructionForm p i
    forms = c.memories.program.entries.instruction i c.there

    pub kind_expression : ChecksExpression p l h t x
    kind_expression = record { memories = c.memories; there = go (ℕ_discrete k 0) }
      where
        go : Dec (k ≡ 0) → x < expressions p
        go (yes z) = forms.self_there a n x (sym (entry_self z))
        go (no nz) = forms.program_there a n x (sym (entry_program (omega arith)))

    module _ (v : Value) (r : ℕ) (er : r ≡ assign_end p l h t v a n x) where
      pub kind_self : k ≡ 0 → v ≡ self_held h → r ≡ checked p l h t i c.memories c.there
      kind_self z ev = check_self p l h t i c.memories c.there a n x r (entry_self z) (rw ev at er)

      pub kind_program : (k ≡ 0 → ⊥) → v ≡ program_held h → r ≡ checked p l h t i c.memories c.there
      kind_program nz ev = check_program p l h t i c.memories c.there a n x r (entry_program (omega arith)) (rw ev at er)
