-- docs/LAYOUT.md, program words: what the words p hold of a resolved tree, entry by entry, where γ says where each entry stands.
-- A part is held by its own entry and by entries with the numbers from s on. Assumes nothing.
use Rattle.std.specs.Prelude.{◌≡◌, true, List, ℕ, ◌+◌, ◌≤◌, ◌<◌, ℤ, length}
use Rattle.framed.specs.Tokens.{Operator, in_range}
use Rattle.framed.specs.Tree.{Base, Expression, Slots, Instruction, Code, ◌then◌}
use Rattle.framed.specs.Paths.{Path, names_of}
use Rattle.ints.specs.Ints.{word_of}
use Rattle.tables.specs.declared.ExpressionEntry.{ExpressionEntry}
use Rattle.tables.specs.declared.InstructionEntry.{InstructionEntry}
use Rattle.tables.specs.Entries.{expression_at, instruction_at}
use Rattle.tables.specs.Fields.{code_first, path_name, instruction_link, expression_kind, slot_name, slot_link}
use Rattle.table_updates.specs.Encode.{expression_kind_of}
use Rattle.shapes.specs.Numbers.{Numbers, one_expression, one_instruction, one_code, more_names}
use Rattle.shapes.specs.Shape.{AllBelow, FrameShaped}
use Rattle.emission.specs.Emit.{operator_kind, link_to_slots, link_to_code, first_place, path_entry, assign_entry}
use Rattle.emission.specs.Writes.{past_base, past_expression, past_instruction}
use Rattle.emission.specs.Texts.{Listed}
use Rattle.emission_tree.specs.Standing.{Owner, tag, Standing}

pub record EntryAt (p : List ℕ) (x : ℕ) (e : ExpressionEntry) : Type 0 where
  pub kind : expression_kind p x ≡ expression_kind_of e
  pub entry : expression_at p x ≡ e

-- x is the entry of the part, c the code that it is written in (0, or 1 + k), i the instruction, k the code of an instruction, o what slots are part of.
-- N names and S string literals there are
mutual
  pub data BaseAt (p : List ℕ) (γ : Standing) (N S : ℕ) : Base Path → (x c : ℕ) → Numbers → Type 0 where
    integer : {z : ℤ} {x c : ℕ} {s : Numbers} → in_range z ≡ true → EntryAt p x (ExpressionEntry.Integer (word_of z)) → BaseAt p γ N S (Base.integer z) x c s
    string : {k x c : ℕ} {s : Numbers} → k < S → EntryAt p x (ExpressionEntry.Literal k) → BaseAt p γ N S (Base.string k) x c s
    path : {q : Path} {x c : ℕ} {s : Numbers} →
        AllBelow N (names_of q) → EntryAt p x (path_entry q s.path_names) → Listed (path_name p) s.path_names (names_of q) → BaseAt p γ N S (Base.path q) x c s
    code : {is : Code Path} {k x c : ℕ} {s : Numbers} →
        k ≡ s.codes → c ≤ k → EntryAt p x (ExpressionEntry.Code k) → γ.names k ≡ x → code_first p k ≡ first_place is s.instructions →
        CodeAt p γ N S is k (one_code s) → BaseAt p γ N S (Base.code k is) x c s

  pub data ExpressionAt (p : List ℕ) (γ : Standing) (N S : ℕ) : Expression Path → (x c : ℕ) → Numbers → Type 0 where
    base : {b : Base Path} {x c : ℕ} {s : Numbers} → BaseAt p γ N S b x c s → ExpressionAt p γ N S (Expression.base b) x c s
    not : {b : Base Path} {x c : ℕ} {s : Numbers} →
        EntryAt p x (ExpressionEntry.Not s.expressions) → γ.tags s.expressions ≡ tag (Owner.expression x) c →
        BaseAt p γ N S b s.expressions c (one_expression s) → ExpressionAt p γ N S (Expression.not b) x c s
    operation : {o : Operator} {a b : Base Path} {x c : ℕ} {s : Numbers} →
        EntryAt p x (ExpressionEntry.Operate (operator_kind o) s.expressions (past_base a s).expressions) →
        γ.tags s.expressions ≡ tag (Owner.expression x) c → BaseAt p γ N S a s.expressions c (one_expression s) →
        γ.tags (past_base a s).expressions ≡ tag (Owner.expression x) c → BaseAt p γ N S b (past_base a s).expressions c (one_expression (past_base a s)) →
        ExpressionAt p γ N S (Expression.operation o a b) x c s
    frame : {ss : Slots Path} {x c : ℕ} {s : Numbers} →
        FrameShaped ss → EntryAt p x (ExpressionEntry.Frame (link_to_slots ss x s.expressions)) → SlotsAt p γ N S ss (Owner.expression x) c s →
        ExpressionAt p γ N S (Expression.frame ss) x c s

  pub data SlotsAt (p : List ℕ) (γ : Standing) (N S : ℕ) : Slots Path → Owner → ℕ → Numbers → Type 0 where
    no_slots : {o : Owner} {c : ℕ} {s : Numbers} → SlotsAt p γ N S Slots.no_slots o c s
    slot : {n : ℕ} {e : Expression Path} {ss : Slots Path} {o : Owner} {c : ℕ} {s : Numbers} →
        n < N → slot_name p s.expressions ≡ n → slot_link p s.expressions ≡ link_to_slots ss s.expressions (past_expression e s).expressions →
        γ.tags s.expressions ≡ tag o c → ExpressionAt p γ N S e s.expressions c (one_expression s) →
        SlotsAt p γ N S ss o c (past_expression e s) → SlotsAt p γ N S (Slots.slot n e ss) o c s

  pub data InstructionAt (p : List ℕ) (γ : Standing) (N S : ℕ) : Instruction Path → (i k : ℕ) → Numbers → Type 0 where
    assign : {q : Path} {e : Expression Path} {i k : ℕ} {s : Numbers} →
        AllBelow N (names_of q) → instruction_at p i ≡ assign_entry q s.path_names s.expressions → Listed (path_name p) s.path_names (names_of q) →
        γ.tags s.expressions ≡ tag (Owner.instruction i) (1 + k) →
        ExpressionAt p γ N S e s.expressions (1 + k) (one_expression (more_names (length (names_of q)) s)) →
        InstructionAt p γ N S (Instruction.assign q e) i k s
    show : {a : Base Path} {i k : ℕ} {s : Numbers} →
        instruction_at p i ≡ InstructionEntry.Show s.expressions → γ.tags s.expressions ≡ tag (Owner.instruction i) (1 + k) →
        BaseAt p γ N S a s.expressions (1 + k) (one_expression s) → InstructionAt p γ N S (Instruction.show a) i k s
    jump : {a b : Base Path} {i k : ℕ} {s : Numbers} →
        instruction_at p i ≡ InstructionEntry.Jump s.expressions (past_base a s).expressions →
        γ.tags s.expressions ≡ tag (Owner.instruction i) (1 + k) → BaseAt p γ N S a s.expressions (1 + k) (one_expression s) →
        γ.tags (past_base a s).expressions ≡ tag (Owner.instruction i) (1 + k) →
        BaseAt p γ N S b (past_base a s).expressions (1 + k) (one_expression (past_base a s)) → InstructionAt p γ N S (Instruction.jump a b) i k s
    ifeq : {a b u : Base Path} {i k : ℕ} {s : Numbers} →
        instruction_at p i ≡ InstructionEntry.Ifeq s.expressions (past_base a s).expressions (past_base b (past_base a s)).expressions →
        γ.tags s.expressions ≡ tag (Owner.instruction i) (1 + k) → BaseAt p γ N S a s.expressions (1 + k) (one_expression s) →
        γ.tags (past_base a s).expressions ≡ tag (Owner.instruction i) (1 + k) →
        BaseAt p γ N S b (past_base a s).expressions (1 + k) (one_expression (past_base a s)) →
        γ.tags (past_base b (past_base a s)).expressions ≡ tag (Owner.instruction i) (1 + k) →
        BaseAt p γ N S u (past_base b (past_base a s)).expressions (1 + k) (one_expression (past_base b (past_base a s))) →
        InstructionAt p γ N S (Instruction.ifeq a b u) i k s

  pub data CodeAt (p : List ℕ) (γ : Standing) (N S : ℕ) : Code Path → ℕ → Numbers → Type 0 where
    finished : {k : ℕ} {s : Numbers} → CodeAt p γ N S Code.finished k s
    next : {o : Instruction Path} {is : Code Path} {k : ℕ} {s : Numbers} →
        γ.homes s.instructions ≡ k → InstructionAt p γ N S o s.instructions k (one_instruction s) →
        instruction_link p s.instructions ≡ link_to_code is s.instructions (past_instruction o s).instructions →
        CodeAt p γ N S is k (past_instruction o s) → CodeAt p γ N S (o then is) k s
