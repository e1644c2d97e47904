-- Document 01, "Limits and paths": what the program of an accepted source has, so that it can be written as program words. Assumes nothing.
use Rattle.std.specs.Prelude.{◌≡◌, ◌≢◌, true, false, List, [], ◌∷◌, ℕ, ◌+◌, ◌≤◌, ◌<◌, ℤ, length, get_or}
use Rattle.framed.specs.Common.{has_twice}
use Rattle.framed.specs.Bytes.{string_byte}
use Rattle.framed.specs.Tokens.{Operator, in_range}
use Rattle.framed.specs.Tree.{Base, Expression, Slots, Instruction, Code, ◌then◌}
use Rattle.framed.specs.Paths.{Path, names_of}
use Rattle.framed.specs.Meaning.{slot_names}
use Rattle.framed.specs.Program.{Program, slots_parts, codes_in, instructions_in, firsts_in, nexts_in}
use Rattle.shapes.specs.Numbers.{Numbers, base_size, expression_size, slots_size, instruction_size}

-- every number of the list is below N
pub data AllBelow (N : ℕ) : List ℕ → Type 0 where
  none : AllBelow N []
  more : {n : ℕ} {ns : List ℕ} → n < N → AllBelow N ns → AllBelow N (n ∷ ns)

-- the slots of one frame: at most 16, with distinct names
pub record FrameShaped (ss : Slots Path) : Type 0 where
  pub few : length (slot_names ss) ≤ 16
  pub distinct : has_twice (slot_names ss) ≡ false

-- A part with N names and S string literals, whose codes have the numbers from K on, by where each begins
mutual
  pub data BaseShaped (N S : ℕ) : ℕ → Base Path → Type 0 where
    integer : {K : ℕ} {z : ℤ} → in_range z ≡ true → BaseShaped N S K (Base.integer z)
    string : {K k : ℕ} → k < S → BaseShaped N S K (Base.string k)
    path : {K : ℕ} {q : Path} → AllBelow N (names_of q) → BaseShaped N S K (Base.path q)
    code : {K : ℕ} {is : Code Path} → CodeShaped N S (K + 1) is → BaseShaped N S K (Base.code K is)

  pub data ExpressionShaped (N S : ℕ) : ℕ → Expression Path → Type 0 where
    base : {K : ℕ} {b : Base Path} → BaseShaped N S K b → ExpressionShaped N S K (Expression.base b)
    not : {K : ℕ} {b : Base Path} → BaseShaped N S K b → ExpressionShaped N S K (Expression.not b)
    operation : {K : ℕ} {o : Operator} {a b : Base Path} →
        BaseShaped N S K a → BaseShaped N S (K + (base_size a).codes) b → ExpressionShaped N S K (Expression.operation o a b)
    frame : {K : ℕ} {ss : Slots Path} → FrameShaped ss → SlotsShaped N S K ss → ExpressionShaped N S K (Expression.frame ss)

  pub data SlotsShaped (N S : ℕ) : ℕ → Slots Path → Type 0 where
    no_slots : {K : ℕ} → SlotsShaped N S K Slots.no_slots
    slot : {K n : ℕ} {e : Expression Path} {ss : Slots Path} →
        n < N → ExpressionShaped N S K e → SlotsShaped N S (K + (expression_size e).codes) ss → SlotsShaped N S K (Slots.slot n e ss)

  pub data InstructionShaped (N S : ℕ) : ℕ → Instruction Path → Type 0 where
    assign : {K : ℕ} {q : Path} {e : Expression Path} →
        AllBelow N (names_of q) → ExpressionShaped N S K e → InstructionShaped N S K (Instruction.assign q e)
    show : {K : ℕ} {a : Base Path} → BaseShaped N S K a → InstructionShaped N S K (Instruction.show a)
    jump : {K : ℕ} {a b : Base Path} →
        BaseShaped N S K a → BaseShaped N S (K + (base_size a).codes) b → InstructionShaped N S K (Instruction.jump a b)
    ifeq : {K : ℕ} {a b c : Base Path} →
        BaseShaped N S K a → BaseShaped N S (K + (base_size a).codes) b → BaseShaped N S (K + (base_size a).codes + (base_size b).codes) c →
        InstructionShaped N S K (Instruction.ifeq a b c)

  pub data CodeShaped (N S : ℕ) : ℕ → Code Path → Type 0 where
    finished : {K : ℕ} → CodeShaped N S K Code.finished
    next : {K : ℕ} {o : Instruction Path} {is : Code Path} →
        InstructionShaped N S K o → CodeShaped N S (K + (instruction_size o).codes) is → CodeShaped N S K (o then is)

-- a name: 1 to 16 bytes
pub record NameShaped (w : List ℕ) : Type 0 where
  pub least : 1 ≤ length w
  pub most : length w ≤ 16
  pub bytes : (i : ℕ) → i < length w → get_or w i 0 < 256

-- a string literal: at most 64 bytes that may stand in a string
pub record LiteralShaped (w : List ℕ) : Type 0 where
  pub most : length w ≤ 64
  pub bytes : (i : ℕ) → i < length w → string_byte (get_or w i 0) ≡ true

-- counts within the limits
pub record SizeShaped (s : Numbers) : Type 0 where
  pub expressions_most : s.expressions ≤ 1024
  pub instructions_most : s.instructions ≤ 512
  pub path_names_most : s.path_names ≤ 2048
  pub codes_most : s.codes ≤ 128

pub record Shaped (q : Program) : Type 0 where
  pub names_most : length q.names ≤ 128
  pub name : (k : ℕ) → k < length q.names → NameShaped (get_or q.names k [])
  pub distinct : (j k : ℕ) → j < k → k < length q.names → get_or q.names j [] ≢ get_or q.names k []
  pub literals_most : length q.literals ≤ 128
  pub literal : (k : ℕ) → k < length q.literals → LiteralShaped (get_or q.literals k [])
  pub slots : SlotsShaped (length q.names) (length q.literals) 0 q.slots
  pub frame : FrameShaped q.slots
  pub size : SizeShaped (slots_size q.slots)
  -- the codes and instructions of the tree, by where each begins
  pub codes : q.codes ≡ codes_in (slots_parts q.slots)
  pub instructions : q.instructions ≡ instructions_in (slots_parts q.slots)
  pub firsts : q.firsts ≡ firsts_in 1 (slots_parts q.slots)
  pub nexts : q.nexts ≡ nexts_in 1 (slots_parts q.slots)
  pub start_there : q.start < (slots_size q.slots).codes
