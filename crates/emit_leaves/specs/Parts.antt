-- docs/LAYOUT.md, program words, and document 01, "Tokens and grammar": the parts of a source whose emission begins or ends a part of the tree. Assumes nothing.
use Rattle.std.specs.Prelude.{◌≡◌, Bool, ◌&&◌, List, ◌∷◌, ℕ, ◌-◌, ◌<◌, ◌≤◌, ℤ, eqb, leb, length}
use Rattle.framed.specs.Common.{when◌then◌else◌}
use Rattle.framed.specs.Bytes.{class}
use Rattle.framed.specs.Tokens.{Token, Fixed, Operator, Tokens⊢}
use Rattle.framed.specs.Symbols.{Symbol, numbered}
use Rattle.framed.specs.Tree.{Written, Base, Expression, Slots, Code}
use Rattle.framed.specs.Grammar.{Path⊢, Base⊢, Slots⊢, Code⊢}
use Rattle.framed.specs.Paths.{names_of, resolve_path, resolve_slots, resolve_code}
use Rattle.framed.specs.Paths as Paths
use Rattle.source.specs.Positions.{rest}
use Rattle.sweep.specs.Kinds.{front_kind}
use Rattle.grammar.specs.Runs.{Sees}
use Rattle.tables.specs.declared.ExpressionEntry.{ExpressionEntry}
use Rattle.tables.specs.declared.InstructionEntry.{InstructionEntry}
use Rattle.table_updates.specs.Updates.{set_expression, set_instruction, set_slot_name, set_slot_link, set_instruction_link}
use Rattle.emission.specs.Emit.{Emitting, emitting, emit_path, emit_base, emit_expression, emit_slots, emit_code, assign_entry, operator_kind, link_to_slots, link_to_code}
use Rattle.emit_names.specs.Table.{NumberAt}
use Rattle.emit_steps.specs.Steps.{numbers, go_to, one_more, place_of, Pass}
use Rattle.emit_steps.specs.declared.Next.{Next}
use Rattle.emit_steps.specs.declared.Place.{Place}
use Rattle.emit_paths.specs.Emits.{Ahead, Small, Emits, PlaceOk}
use Rattle.emit_leaves.specs.declared.Stand.{Stand}

-- ---- By the kind of the token that follows

-- the place of the first instruction of a code, where the next one is i: none where `}` follows
unfoldable pub place_by : ℕ → ℕ → ℕ
place_by k i = when eqb k 15 then 0 else one_more i

-- the link from instruction i to the next one, z: none where `}` follows
unfoldable pub line_link_by : ℕ → ℕ → ℕ → ℕ
line_link_by k i z = when eqb k 15 then 0 else z - i

-- the link from y to the next slot, z: one where a name follows
unfoldable pub slot_link_by : ℕ → ℕ → ℕ → ℕ
slot_link_by k y z = when eqb k 25 then z - y else 0

-- the entry of an assignment to a path whose first token has kind k: `self` or `^`
unfoldable pub assign_by : ℕ → ℕ → ℕ → ℕ → InstructionEntry
assign_by k j n e = when eqb k 1 then InstructionEntry.AssignSelf j n e else InstructionEntry.AssignProgram j n e

-- ---- One symbol

-- a part with no names is emitted so, whatever the table of names
pub record EmitsAny {A : Type 0} (G : List Symbol → A → List Symbol → Type 0) (E : A → Emitting → Emitting) (s : List ℕ) (n : Next) (p p' : List ℕ) (r : Next) : Type 0 where
  pub by : (table : List (List ℕ)) → Emits G E s table n p p' r
  pub on : n.at ≤ r.at

pub data IntegerHere : List Symbol → ℤ → List Symbol → Type 0 where
  here : {z : ℤ} {vs : List Symbol} → IntegerHere (Symbol.integer z ∷ vs) z vs

pub data StringHere : List Symbol → ℕ → List Symbol → Type 0 where
  here : {k : ℕ} {vs : List Symbol} → StringHere (Symbol.string k ∷ vs) k vs

pub data OperatorHere : List Symbol → Operator → List Symbol → Type 0 where
  here : {o : Operator} {vs : List Symbol} → OperatorHere (Symbol.fixed (Fixed.operator o) ∷ vs) o vs

unfoldable pub integer_emitted : ℕ → ℤ → Emitting → Emitting
integer_emitted x z t = emit_base (Base.integer z) x t

unfoldable pub string_emitted : ℕ → ℕ → Emitting → Emitting
string_emitted x k t = emit_base (Base.string k) x t

-- an operator as expression x, whose operands are a and the next expression
unfoldable pub operator_emitted : ℕ → ℕ → Operator → Emitting → Emitting
operator_emitted x a o t = emitting (set_expression t.words x (ExpressionEntry.Operate (operator_kind o) a t.next.expressions)) t.next

-- an operator follows the base that begins there
unfoldable pub is_operator : ℕ → Bool
is_operator k = leb 16 k && leb k 24

pub record OperatorAfter (s : List ℕ) (at : ℕ) (r : Bool) : Type 0 where
  pub is : (table : List (List ℕ)) (k c : ℕ) (ts : List Token) (b : Base Written) (vs : List Symbol) → Tokens⊢ class (rest s at) ts → Base⊢ (numbered table k c ts) b vs →
      (front_kind vs ≡ 7 → ⊥) → r ≡ is_operator (front_kind vs)

-- one symbol of kind k is passed
pub record Skipped (s : List ℕ) (n : Next) (k : ℕ) (r : Next) : Type 0 where
  pub pass : Pass s n.at k r.at
  pub same : r ≡ go_to n r.at

-- ---- The path of an assignment

-- path and `:=`
pub record TargetHere (place : Place) (us : List Symbol) (w : Written) (vs : List Symbol) : Type 0 where
  pub path : Path⊢ us w (Symbol.fixed Fixed.assign ∷ vs)
  pub ok : PlaceOk place

-- instruction i assigns to the path; its right side is the next expression
unfoldable pub target_emitted : Place → ℕ → Written → Emitting → Emitting
target_emitted place i w t =
    let q = resolve_path (place_of place) w in
    let u = emit_path (names_of q) t in
    emitting (set_instruction u.words i (assign_entry q t.next.path_names u.next.expressions)) u.next

-- ---- Where a code or a frame begins

-- emission stands where P says, and the token there was seen
pub record Stands (s : List ℕ) (P : Next → Type 0) (r : Stand) : Type 0 where
  pub done : P r.next
  pub seen : Sees s r.next.at r.seen

pub record BlockBegun (s : List ℕ) (table : List (List ℕ)) (k x : ℕ) (is : Code Paths.Path) (n : Next) (p : List ℕ) (us : List Symbol) (p' : List ℕ) (r : Next) : Type 0 where
  pub further : n.at < r.at
  pub ahead : Ahead s table r us
  pub whole : emit_base (Base.code k is) x (emitting p (numbers n)) ≡ emit_code is (emitting p' (numbers r))

-- after `code` `{` what is left to emit is the instructions; the position moves only inside the source
pub record BlockOpened (s : List ℕ) (x : ℕ) (n : Next) (p p' : List ℕ) (r : Next) : Type 0 where
  pub says : (table : List (List ℕ)) (us vs : List Symbol) (k : ℕ) (is : Code Written) (place : Paths.Place) →
      Ahead s table n (Symbol.code k ∷ Symbol.fixed Fixed.open_curly ∷ us) → Code⊢ us is vs → front_kind vs ≡ 15 →
      Small (emit_base (Base.code k (resolve_code place is)) x (emitting p (numbers n))).next → BlockBegun s table k x (resolve_code place is) n p us p' r
  pub on : n.at ≤ r.at
  pub inside : n.at < r.at → n.at < length s

pub record FrameBegun (s : List ℕ) (table : List (List ℕ)) (x : ℕ) (ss : Slots Paths.Path) (n : Next) (p : List ℕ) (us : List Symbol) (p' : List ℕ) (r : Next) : Type 0 where
  pub further : n.at < r.at
  pub ahead : Ahead s table r us
  pub whole : emit_expression (Expression.frame ss) x (emitting p (numbers n)) ≡ emit_slots ss (emitting p' (numbers r))

-- after `frame` `:` `[` what is left to emit is the slots
pub record FrameOpened (s : List ℕ) (x : ℕ) (n : Next) (p p' : List ℕ) (r : Next) : Type 0 where
  pub says : (table : List (List ℕ)) (us vs : List Symbol) (ss : Slots Written) (place : Paths.Place) →
      Ahead s table n (Symbol.fixed Fixed.frame ∷ Symbol.fixed Fixed.colon ∷ Symbol.fixed Fixed.open_square ∷ us) → Slots⊢ us ss vs → front_kind vs ≡ 13 →
      FrameBegun s table x (resolve_slots place ss) n p us p' r
  pub on : n.at ≤ r.at
  pub inside : n.at < r.at → n.at < length s

-- ---- Slots and instructions

-- the next expression has the name that stands there, number k, as slot name
pub record SlotNamed (s begins ends : List ℕ) (count : ℕ) (n : Next) (p p' : List ℕ) (k : ℕ) : Type 0 where
  pub number : NumberAt s begins ends count n.at k
  pub words : p' ≡ set_slot_name p n.expressions k

pub record SlotEnd (s : List ℕ) (table : List (List ℕ)) (y : ℕ) (ss : Slots Paths.Path) (u : Next) (p : List ℕ) (us : List Symbol) (p' : List ℕ) (r : Next) : Type 0 where
  pub ahead : Ahead s table r us
  pub linked : emitting p' (numbers r) ≡ emitting (set_slot_link p y (link_to_slots ss y u.expressions)) (numbers u)

-- the slot y is linked to the slots after it; ss are those after a comma
pub record SlotClosed (s : List ℕ) (y : ℕ) (u : Next) (p p' : List ℕ) (r : Next) : Type 0 where
  pub last : (table : List (List ℕ)) (vs : List Symbol) → Ahead s table u vs → front_kind vs ≡ 13 → SlotEnd s table y Slots.no_slots u p vs p' r
  pub more : (table : List (List ℕ)) (us vs : List Symbol) (ss : Slots Written) (place : Paths.Place) → Ahead s table u (Symbol.fixed Fixed.comma ∷ us) → Slots⊢ us ss vs →
      front_kind vs ≡ 13 → SlotEnd s table y (resolve_slots place ss) u p us p' r
  pub on : u.at ≤ r.at

pub record LineEnd (s : List ℕ) (table : List (List ℕ)) (i : ℕ) (is : Code Paths.Path) (u : Next) (p : List ℕ) (us : List Symbol) (p' : List ℕ) (r : Next) : Type 0 where
  pub further : u.at < r.at
  pub ahead : Ahead s table r us
  pub linked : emitting p' (numbers r) ≡ emitting (set_instruction_link p i (link_to_code is i u.instructions)) (numbers u)

-- the instruction i is linked to those after it, is
pub record LineClosed (s : List ℕ) (i : ℕ) (u : Next) (p p' : List ℕ) (r : Next) : Type 0 where
  pub says : (table : List (List ℕ)) (us vs : List Symbol) (is : Code Written) (place : Paths.Place) → Ahead s table u (Symbol.fixed Fixed.semicolon ∷ us) → Code⊢ us is vs →
      front_kind vs ≡ 15 → LineEnd s table i (resolve_code place is) u p us p' r
  pub on : u.at ≤ r.at
