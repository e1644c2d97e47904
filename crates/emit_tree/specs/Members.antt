-- docs/LAYOUT.md, program words, and document 01, "Tokens and grammar", "Limits and paths": the parts of a source, each with what follows it and the place where it is written,
-- and what each becomes in program words. Assumes nothing.
use Rattle.std.specs.Prelude.{◌≡◌, true, false, List, ◌∷◌, ℕ, suc, max, ◌+◌, ◌<◌, ◌≤◌}
use Rattle.framed.specs.Tokens.{Fixed, Operator}
use Rattle.framed.specs.Symbols.{Symbol}
use Rattle.framed.specs.Tree.{Written, Base, Expression, Slots, Instruction, Code, ◌then◌}
use Rattle.framed.specs.Grammar.{Path⊢, Base⊢, Expression⊢, Slots⊢, Instruction⊢, Code⊢}
use Rattle.framed.specs.Paths.{resolve_base, resolve_expression, resolve_slots, resolve_instruction, resolve_code, within_slot}
use Rattle.sweep.specs.Kinds.{front_kind}
use Rattle.shapes.specs.Numbers.{one_expression, one_instruction}
use Rattle.table_updates.specs.Updates.{set_slot_name, set_slot_link, set_instruction_link}
use Rattle.emission.specs.Emit.{Emitting, emitting, emit_base, emit_expression, emit_slots, emit_instruction, emit_code, link_to_slots, link_to_code}
use Rattle.emit_steps.specs.Steps.{numbers, place_of, PassTwo}
use Rattle.emit_steps.specs.declared.Next.{Next}
use Rattle.emit_steps.specs.declared.Place.{Place}
use Rattle.emit_paths.specs.Emits.{Ahead, Small, PlaceOk}

-- ---- What a part becomes at its place

unfoldable pub base_emitted : Place → ℕ → Base Written → Emitting → Emitting
base_emitted place x b t = emit_base (resolve_base (place_of place) b) x t

unfoldable pub expression_emitted : Place → Place → ℕ → Expression Written → Emitting → Emitting
expression_emitted place inner x e t = emit_expression (resolve_expression (place_of place) (place_of inner) e) x t

-- a base or an expression as the next expression
unfoldable pub operand_emitted : Place → Base Written → Emitting → Emitting
operand_emitted place b t = emit_base (resolve_base (place_of place) b) t.next.expressions (emitting t.words (one_expression t.next))

unfoldable pub right_emitted : Place → Place → Expression Written → Emitting → Emitting
right_emitted place inner e t = emit_expression (resolve_expression (place_of place) (place_of inner) e) t.next.expressions (emitting t.words (one_expression t.next))

unfoldable pub slots_emitted : Place → Slots Written → Emitting → Emitting
slots_emitted place ss t = emit_slots (resolve_slots (place_of place) ss) t

unfoldable pub instruction_emitted : Place → ℕ → Instruction Written → Emitting → Emitting
instruction_emitted place i o t = emit_instruction (resolve_instruction (place_of place) o) i t

unfoldable pub code_emitted : Place → Code Written → Emitting → Emitting
code_emitted place is t = emit_code (resolve_code (place_of place) is) t

-- one slot with its link to those after it
unfoldable pub slot_emitted : Place → ℕ → Expression Written → Slots Written → Emitting → Emitting
slot_emitted place m e ss t =
    let y = t.next.expressions in
    let u = emit_expression (resolve_expression (place_of place) (within_slot m (place_of place)) e) y (emitting (set_slot_name t.words y m) (one_expression t.next)) in
    emitting (set_slot_link u.words y (link_to_slots (resolve_slots (place_of place) ss) y u.next.expressions)) u.next

-- one instruction with its link to those after it
unfoldable pub line_emitted : Place → Instruction Written → Code Written → Emitting → Emitting
line_emitted place o is t =
    let i = t.next.instructions in
    let u = emit_instruction (resolve_instruction (place_of place) o) i (emitting t.words (one_instruction t.next)) in
    emitting (set_instruction_link u.words i (link_to_code (resolve_code (place_of place) is) i u.next.instructions)) u.next

-- ---- How deep frames are nested outside code

unfoldable mutual
  pub expression_deep : {P : Type 0} → Expression P → ℕ
  expression_deep (Expression.base b) = 0
  expression_deep (Expression.not b) = 0
  expression_deep (Expression.operation o a b) = 0
  expression_deep (Expression.frame ss) = suc (slots_deep ss)

  pub slots_deep : {P : Type 0} → Slots P → ℕ
  slots_deep Slots.no_slots = 0
  slots_deep (Slots.slot n e ss) = max (expression_deep e) (slots_deep ss)

-- a place that has room for the names of k more levels; in code no level is added
pub record Room (place : Place) (k : ℕ) : Type 0 where
  pub ok : PlaceOk place
  pub deep : place.in_code ≡ false → place.depth + k ≤ 16

-- ---- Number 7: no operation outside code

-- neither the expression nor what is written in a frame that it is; what is written in a code does not count
unfoldable mutual
  pub NoOperation : {P : Type 0} → Expression P → Type 0
  NoOperation (Expression.base b) = Unit
  NoOperation (Expression.not b) = Unit
  NoOperation (Expression.operation o a b) = ⊥
  NoOperation (Expression.frame ss) = NoOperationIn ss

  pub NoOperationIn : {P : Type 0} → Slots P → Type 0
  NoOperationIn Slots.no_slots = Unit
  NoOperationIn (Slots.slot n e ss) = NoOperation e × NoOperationIn ss

-- an expression or slots that have room at a place; outside code without operations
pub record ExpressionFits (place : Place) (e : Expression Written) : Type 0 where
  pub room : Room place (expression_deep e)
  pub plain : place.in_code ≡ false → NoOperation e

pub record SlotsFit (place : Place) (ss : Slots Written) : Type 0 where
  pub room : Room place (slots_deep ss)
  pub plain : place.in_code ≡ false → NoOperationIn ss

-- a place in code
pub record Inside (place : Place) : Type 0 where
  pub ok : PlaceOk place
  pub in_code : place.in_code ≡ true

-- ---- Bases

pub record BaseHere (place : Place) (us : List Symbol) (b : Base Written) (vs : List Symbol) : Type 0 where
  pub base : Base⊢ us b vs
  pub no_dot : front_kind vs ≡ 7 → ⊥
  pub ok : PlaceOk place

-- `code` `{` instructions `}`
pub data BlockHere (place : Place) : List Symbol → Base Written → List Symbol → Type 0 where
  block : {k : ℕ} {is : Code Written} {ts vs : List Symbol} → PlaceOk place → Code⊢ ts is (Symbol.fixed Fixed.close_curly ∷ vs) →
      BlockHere place (Symbol.code k ∷ Symbol.fixed Fixed.open_curly ∷ ts) (Base.code k is) vs

-- ---- Expressions

-- what follows an expression: no dot and no operator
pub record Ends (vs : List Symbol) : Type 0 where
  pub no_dot : front_kind vs ≡ 7 → ⊥
  pub no_operator : 16 ≤ front_kind vs → front_kind vs ≤ 24 → ⊥

-- frames in it are written at the place `inner`
pub record FrameFits (inner : Place) (e : Expression Written) : Type 0 where
  pub slots : (ss : Slots Written) → e ≡ Expression.frame ss → SlotsFit inner ss

pub record ExpressionHere (place inner : Place) (us : List Symbol) (e : Expression Written) (vs : List Symbol) : Type 0 where
  pub expression : Expression⊢ us e vs
  pub ends : Ends vs
  pub ok : PlaceOk place
  pub plain : place.in_code ≡ false → NoOperation e
  pub within : FrameFits inner e

-- `!` base
pub data NegationHere (place : Place) : List Symbol → Expression Written → List Symbol → Type 0 where
  negation : {b : Base Written} {ts vs : List Symbol} → BaseHere place ts b vs → NegationHere place (Symbol.fixed Fixed.bang ∷ ts) (Expression.not b) vs

-- base operator base
pub data BinaryHere (place : Place) : List Symbol → Expression Written → List Symbol → Type 0 where
  binary : {o : Operator} {a b : Base Written} {ts us vs : List Symbol} → BaseHere place ts a (Symbol.fixed (Fixed.operator o) ∷ us) → BaseHere place us b vs →
      BinaryHere place ts (Expression.operation o a b) vs

-- `frame` `:` `[` slots `]`
pub data FrameHere (inner : Place) : List Symbol → Expression Written → List Symbol → Type 0 where
  frame : {ss : Slots Written} {ts vs : List Symbol} → SlotsFit inner ss → Slots⊢ ts ss (Symbol.fixed Fixed.close_square ∷ vs) →
      FrameHere inner (Symbol.fixed Fixed.frame ∷ Symbol.fixed Fixed.colon ∷ Symbol.fixed Fixed.open_square ∷ ts) (Expression.frame ss) vs

-- ---- Slots

-- up to `]`
pub record SlotsHere (place : Place) (us : List Symbol) (ss : Slots Written) (vs : List Symbol) : Type 0 where
  pub slots : Slots⊢ us ss vs
  pub ends : front_kind vs ≡ 13
  pub fits : SlotsFit place ss

-- after one slot those after it are ahead
pub record SlotDone (place : Place) (s : List ℕ) (table : List (List ℕ)) (m : ℕ) (e : Expression Written) (ss : Slots Written) (n : Next) (p : List ℕ) (vs : List Symbol)
    (p' : List ℕ) (r : Next) : Type 0 where
  pub emitted : emitting p' (numbers r) ≡ slot_emitted place m e ss (emitting p (numbers n))
  pub rest : List Symbol
  pub ahead : Ahead s table r rest
  pub more : Slots⊢ rest ss vs

-- one slot, whose expression begins at q
pub record SlotEmits (place : Place) (s : List ℕ) (table : List (List ℕ)) (n : Next) (q : ℕ) (p p' : List ℕ) (r : Next) : Type 0 where
  pub says : PassTwo s n.at 25 6 q → (us vs : List Symbol) (m : ℕ) (e : Expression Written) (ss : Slots Written) → Ahead s table n us →
      SlotsHere place us (Slots.slot m e ss) vs → Small (slot_emitted place m e ss (emitting p (numbers n))).next → SlotDone place s table m e ss n p vs p' r
  pub on : q ≤ r.at

-- ---- Instructions

pub record InstructionHere (place : Place) (us : List Symbol) (o : Instruction Written) (vs : List Symbol) : Type 0 where
  pub instruction : Instruction⊢ us o vs
  pub ends : front_kind vs ≡ 10
  pub inside : Inside place

pub data ShowHere (place : Place) : List Symbol → Instruction Written → List Symbol → Type 0 where
  show : {a : Base Written} {ts vs : List Symbol} → BaseHere place ts a vs → ShowHere place (Symbol.fixed Fixed.show ∷ ts) (Instruction.show a) vs

pub data JumpHere (place : Place) : List Symbol → Instruction Written → List Symbol → Type 0 where
  jump : {a b : Base Written} {ts us vs : List Symbol} → BaseHere place ts a us → BaseHere place us b vs → JumpHere place (Symbol.fixed Fixed.jump ∷ ts) (Instruction.jump a b) vs

pub data IfeqHere (place : Place) : List Symbol → Instruction Written → List Symbol → Type 0 where
  ifeq : {a b c : Base Written} {ts us ws vs : List Symbol} → BaseHere place ts a us → BaseHere place us b ws → BaseHere place ws c vs →
      IfeqHere place (Symbol.fixed Fixed.ifeq ∷ ts) (Instruction.ifeq a b c) vs

pub data AssignHere (place : Place) : List Symbol → Instruction Written → List Symbol → Type 0 where
  assign : {w : Written} {e : Expression Written} {ts us vs : List Symbol} → Path⊢ ts w (Symbol.fixed Fixed.assign ∷ us) → ExpressionHere place place us e vs →
      AssignHere place ts (Instruction.assign w e) vs

-- up to `}`
pub record CodeHere (place : Place) (us : List Symbol) (is : Code Written) (vs : List Symbol) : Type 0 where
  pub code : Code⊢ us is vs
  pub ends : front_kind vs ≡ 15
  pub inside : Inside place

-- after one instruction those after it are ahead
pub record LineDone (place : Place) (s : List ℕ) (table : List (List ℕ)) (o : Instruction Written) (is : Code Written) (n : Next) (p : List ℕ) (vs : List Symbol)
    (p' : List ℕ) (r : Next) : Type 0 where
  pub further : n.at < r.at
  pub emitted : emitting p' (numbers r) ≡ line_emitted place o is (emitting p (numbers n))
  pub rest : List Symbol
  pub ahead : Ahead s table r rest
  pub more : Code⊢ rest is vs

pub record LineEmits (place : Place) (s : List ℕ) (table : List (List ℕ)) (n : Next) (p p' : List ℕ) (r : Next) : Type 0 where
  pub says : (us vs : List Symbol) (o : Instruction Written) (is : Code Written) → Ahead s table n us → CodeHere place us (o then is) vs →
      Small (line_emitted place o is (emitting p (numbers n))).next → LineDone place s table o is n p vs p' r
  pub on : n.at ≤ r.at
