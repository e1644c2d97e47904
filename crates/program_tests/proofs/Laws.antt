-- One law for each way through the tests. Assumes nothing.
use mathlib.Core.Path.{◌≡◌, refl}
use mathlib.Core.Logic.{◌⊎◌, inl, inr}
use mathlib.Core.Bool.{Bool, true, ◌&&◌}
use mathlib.Core.List.{List}
use Prim.Native.Nat.{ℕ, ◌+◌, ◌≤◌, ◌<◌}
use Rattle.words.proofs.Laws.{Upto, upto_again}
use Rattle.tables.proofs.Walks.{Along, along_more, along_all}
use Rattle.program_entries.proofs.Laws.{along_ended}
use Rattle.tables.specs.declared.ExpressionEntry.{ExpressionEntry}
use Rattle.tables.specs.declared.InstructionEntry.{InstructionEntry}
use Rattle.tables.specs.Fields.{link, follow_slot}
use Rattle.program_marks.specs.Marks.{expression_wholes, instruction_wholes, instruction_codes, code_names, homes}
use Rattle.program_parts.specs.Tests.{part_ok, slot_marked, slot_marked_at, slots_marked, code_ok, both_parts_ok, parts_marked, expression_marked_as, expression_marked}
use Rattle.program_parts.specs.Tests.{operand_ok, operands_marked, instruction_marked_as, instruction_marked, code_marked_as, code_marked, marks_ok, parts_ok}

-- ---- The loop along slots

module _ (p o q : List ℕ) (w z j y : ℕ) (ok : Bool) (u : Along p z (slot_marked_at p o q w z) j y ok) where
  pub along_again : (b : Bool) (y' : ℕ) → j < 16 → b ≡ slot_marked o q w y → y' ≡ follow_slot p y → Along p z (slot_marked_at p o q w z) (j + 1) y' (ok && b)
  unfolding slot_marked_at
  along_again b y' lt e f = along_more p z (slot_marked_at p o q w z) j y ok u b y' lt (rw (← u.here) e) f

  pub along_done : 16 ≤ j → ok ≡ slots_marked p o q w z
  unfolding slots_marked
  along_done le = along_all p z (slot_marked_at p o q w z) j y ok u le

-- where the slots have ended, the test of what is not there holds
pub along_none : (p o q : List ℕ) (w z j y : ℕ) (ok : Bool) → Along p z (slot_marked_at p o q w z) j y ok → y ≡ 0 → ok ≡ slots_marked p o q w z
unfolding slots_marked slot_marked_at slot_marked
along_none p o q w z j y ok u e = along_ended p z (slot_marked_at p o q w z) j y ok u e (λ k s. rw s)

-- ---- An expression by its form

module _ (p o q n h : List ℕ) (x w : ℕ) (e : ExpressionEntry) where
  pub marked_code : (r : Bool) (k : ℕ) → e ≡ ExpressionEntry.Code k → r ≡ code_ok n h w k → r ≡ parts_marked p o q n h x w e
  unfolding parts_marked
  marked_code r k s u = rw s u

  pub marked_frame : (r : Bool) (d z : ℕ) → e ≡ ExpressionEntry.Frame d → z ≡ link 1024 x d → r ≡ slots_marked p o q w z → r ≡ parts_marked p o q n h x w e
  unfolding parts_marked
  marked_frame r d z s t u = rw (s, ← t) u

  pub marked_not : (r : Bool) (a : ℕ) → e ≡ ExpressionEntry.Not a → r ≡ part_ok o q x w a → r ≡ parts_marked p o q n h x w e
  unfolding parts_marked
  marked_not r a s u = rw s u

  pub marked_operate : (r : Bool) (k a b : ℕ) → e ≡ ExpressionEntry.Operate k a b → r ≡ both_parts_ok o q x w a b → r ≡ parts_marked p o q n h x w e
  unfolding parts_marked
  marked_operate r k a b s u = rw s u

pub marked_else : (p o q n h : List ℕ) (x w : ℕ) (e : ExpressionEntry) → ((k : ℕ) → e ≡ ExpressionEntry.Code k → ⊥) → ((d : ℕ) → e ≡ ExpressionEntry.Frame d → ⊥)
    → ((a : ℕ) → e ≡ ExpressionEntry.Not a → ⊥) → ((k a b : ℕ) → e ≡ ExpressionEntry.Operate k a b → ⊥) → true ≡ parts_marked p o q n h x w e
unfolding parts_marked
marked_else p o q n h x w (ExpressionEntry.Integer v) u v' s t = refl
marked_else p o q n h x w (ExpressionEntry.Literal k) u v s t = refl
marked_else p o q n h x w (ExpressionEntry.FromSelf j m) u v s t = refl
marked_else p o q n h x w (ExpressionEntry.FromProgram j m) u v s t = refl
marked_else p o q n h x w (ExpressionEntry.Code k) u v s t = absurd (u k refl)
marked_else p o q n h x w (ExpressionEntry.Frame d) u v s t = absurd (v d refl)
marked_else p o q n h x w (ExpressionEntry.Not a) u v s t = absurd (s a refl)
marked_else p o q n h x w (ExpressionEntry.Operate k a b) u v s t = absurd (t k a b refl)
marked_else p o q n h x w ExpressionEntry.Bad u v s t = refl

-- ---- An instruction by its form

module _ (o q : List ℕ) (w : ℕ) (e : InstructionEntry) where
  pub marked_one : (r : Bool) (a : ℕ) → ((j : ℕ) × (n : ℕ) × e ≡ InstructionEntry.AssignSelf j n a)
      ⊎ (((j : ℕ) × (n : ℕ) × e ≡ InstructionEntry.AssignProgram j n a) ⊎ (e ≡ InstructionEntry.Show a)) → r ≡ operand_ok o q w a → r ≡ operands_marked o q w e
  unfolding operands_marked
  marked_one r a (inl (j, n, s)) u = rw s u
  marked_one r a (inr (inl (j, n, s))) u = rw s u
  marked_one r a (inr (inr s)) u = rw s u

  pub marked_jump : (r t : Bool) (a b : ℕ) → e ≡ InstructionEntry.Jump a b → r ≡ operand_ok o q w a → t ≡ operand_ok o q w b → r && t ≡ operands_marked o q w e
  unfolding operands_marked
  marked_jump r t a b s u v = rw (s, u, v)

  pub marked_ifeq : (r t l : Bool) (a b d : ℕ) → e ≡ InstructionEntry.Ifeq a b d → r ≡ operand_ok o q w a → t ≡ operand_ok o q w b → l ≡ operand_ok o q w d
      → r && t && l ≡ operands_marked o q w e
  unfolding operands_marked
  marked_ifeq r t l a b d s u v y = rw (s, u, v, y)

-- ---- The loops

pub expression_again : (p o q n h : List ℕ) (t x : ℕ) (ok b : Bool) → Upto (expression_marked p o q n h) t x ok → x < t
    → b ≡ expression_marked_as p o q n h x (1 + x) → Upto (expression_marked p o q n h) t (x + 1) (ok && b)
unfolding expression_marked
expression_again p o q n h t x ok b u lt g = upto_again (expression_marked p o q n h) t x ok b u lt g

pub instruction_again : (p o q c : List ℕ) (t i : ℕ) (ok b : Bool) → Upto (instruction_marked p o q c) t i ok → i < t
    → b ≡ instruction_marked_as p o q c i (1 + i) → Upto (instruction_marked p o q c) t (i + 1) (ok && b)
unfolding instruction_marked
instruction_again p o q c t i ok b u lt g = upto_again (instruction_marked p o q c) t i ok b u lt g

pub code_again : (p c n : List ℕ) (t k : ℕ) (ok b : Bool) → Upto (code_marked p c n) t k ok → k < t
    → b ≡ code_marked_as p c n k (1 + k) → Upto (code_marked p c n) t (k + 1) (ok && b)
unfolding code_marked
code_again p c n t k ok b u lt g = upto_again (code_marked p c n) t k ok b u lt g

-- ---- All of it

pub marks_tell : (p o q c n h : List ℕ) (r : Bool) → o ≡ expression_wholes p → q ≡ instruction_wholes p → c ≡ instruction_codes p → n ≡ code_names p → h ≡ homes p
    → r ≡ marks_ok p o q c n h → r ≡ parts_ok p
unfolding parts_ok
marks_tell p o q c n h r eo eq ec en eh er = rw (← eo, ← eq, ← ec, ← en, ← eh) er
