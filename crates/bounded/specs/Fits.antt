-- Document 01, "Whole memories" (here: well-formed): what a value of a store names is there; what the code of a well-formed program keeps.
-- Assumes nothing.
use Rattle.std.specs.Prelude.{◌≡◌, true, false, ℕ, ◌≤◌, ◌<◌, ℤ, length, get_or}
use mathlib.Core.List.{List, [], Memᴰ}
use Rattle.std.proofs.Math.Option.{some}
use Rattle.framed.specs.declared.Value.{Value}
use Rattle.framed.specs.declared.Text.{Text}
use Rattle.framed.specs.Common.{member}
use Rattle.framed.specs.Bytes.{string_byte}
use Rattle.framed.specs.Tokens.{in_range}
use Rattle.framed.specs.Tree.{Base, Expression, Slots, Instruction, Code, ◌then◌}
use Rattle.framed.specs.Paths.{Path, names_of}
use Rattle.framed.specs.Meaning.{slot_names}
use Rattle.framed.specs.Program.{Program}
use Rattle.framed.specs.Machine.{following, first_of}
use Rattle.framed.specs.Values.{Frame}
use Rattle.bounded.specs.Views.{View, frame_at, text_at}

-- An integer of 32 bits, a literal or a code that the program has, a made text or a frame that is in use
pub data Valid (p : Program) (H : View) : Value → Type 0 where
  valid_integer : {z : ℤ} → in_range z ≡ true → Valid p H (Value.Int z)
  valid_literal : {k : ℕ} → k < length p.literals → Valid p H (Value.Text (Text.Literal k))
  valid_made : {k : ℕ} {bs : List ℕ} → text_at H k ≡ some bs → Valid p H (Value.Text (Text.Made k))
  valid_code : {k : ℕ} → k < length p.codes → Valid p H (Value.Code k)
  valid_frame : {n : ℕ} {f : Frame} → frame_at H n ≡ some f → Valid p H (Value.Frame n)

-- the string rule: bytes from 32 to 126, without `"`
unfoldable pub StringBytes : List ℕ → Type 0
StringBytes bs = (b : ℕ) → Memᴰ b bs → string_byte b ≡ true

-- ---- The code of a program

-- the program has these names
unfoldable pub NamesFit : Program → List ℕ → Type 0
NamesFit p ns = (n : ℕ) → Memᴰ n ns → n < length p.names

-- an integer of 32 bits, a literal or a code that the program has
abbrev pub BaseFits : Program → Base Path → Type 0
BaseFits p (Base.integer z) = in_range z ≡ true
BaseFits p (Base.string k) = k < length p.literals
BaseFits p (Base.path q) = Unit
BaseFits p (Base.code k is) = k < length p.codes

-- a frame literal has at most 16 slots, with distinct names
abbrev mutual
  pub ExpressionFits : Program → Expression Path → Type 0
  ExpressionFits p (Expression.base b) = BaseFits p b
  ExpressionFits p (Expression.not b) = BaseFits p b
  ExpressionFits p (Expression.operation o a b) = BaseFits p a × BaseFits p b
  ExpressionFits p (Expression.frame ss) = (length (slot_names ss) ≤ 16) × SlotsFit p ss

  pub SlotsFit : Program → Slots Path → Type 0
  SlotsFit p Slots.no_slots = Unit
  SlotsFit p (Slots.slot n e ss) = (n < length p.names) × (member n (slot_names ss) ≡ false) × ExpressionFits p e × SlotsFit p ss

abbrev pub InstructionFits : Program → Instruction Path → Type 0
InstructionFits p (Instruction.assign q e) = NamesFit p (names_of q) × ExpressionFits p e
InstructionFits p (Instruction.show a) = BaseFits p a
InstructionFits p (Instruction.jump a b) = BaseFits p a × BaseFits p b
InstructionFits p (Instruction.ifeq a b c) = BaseFits p a × BaseFits p b × BaseFits p c

abbrev pub CodeFits : Program → Code Path → Type 0
CodeFits p Code.finished = Unit
CodeFits p (i then is) = InstructionFits p i × CodeFits p is

pub record ProgramFits (p : Program) : Type 0 where
  pub literals : (k : ℕ) → StringBytes (get_or p.literals k [])
  pub codes : (k : ℕ) → CodeFits p (get_or p.codes k Code.finished)
  -- the instructions that codes begin with, and those that follow others, are there
  pub firsts : (k : ℕ) → first_of p k ≤ length p.instructions
  pub nexts : (n : ℕ) → following p n ≤ length p.instructions
