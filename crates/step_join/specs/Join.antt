-- Document 01, "The endless machine", one step on `:=` of a join after reserve, over program words p, literal bytes l, heap words h and text bytes t: its end is that of `bounded`'s check, and
-- what it does is the bounded machine's commit. Assumes nothing.
use Rattle.std.specs.Prelude.{ℕ, ◌≡◌, Bool, true, false, List, eqb, leb}
use Rattle.words.specs.Words.{pick}
use Rattle.framed.specs.declared.Value.{Value}
use Rattle.framed.specs.Values.{join_bytes}
use Rattle.framed.specs.Machine.{gives}
use Rattle.tables.specs.Fields.{instruction_kind, instruction_c, expression_kind, expression_a, expression_b}
use Rattle.heap.specs.Held.{texts_held}
use Rattle.texts.specs.Literals.{literals_held}
use Rattle.joining.specs.Joining.{join_end}
use Rattle.operands.specs.Operands.{operand_value}
use Rattle.checking.specs.Checking.{ChecksInstruction}
use Rattle.commit.specs.Commit.{CanCommit, Commits}
use Rattle.commit.specs.Direct.{end_met}

-- instruction i is one: kind 12 is `#`
unfoldable pub joins_entry : List ℕ → ℕ → Bool
joins_entry p i = pick (leb 2 (instruction_kind p i)) false (eqb (expression_kind p (instruction_c p i)) 12)

module _ (p l h t : List ℕ) (i : ℕ) where
  -- what check and commit ask
  pub record CanAssignJoin : Type 0 where
    pub checks : ChecksInstruction p l h t i
    pub commits : CanCommit p l h t i
    pub joins : joins_entry p i ≡ true

  -- and v and w are the values that it joins
  pub record JoinsValues (v w : Value) : Type 0 where
    pub can : CanAssignJoin
    pub first : gives v ≡ operand_value p h (expression_a p (instruction_c p i))
    pub second : gives w ≡ operand_value p h (expression_b p (instruction_c p i))

  -- and they meet no end, and bs are their bytes
  pub record CanPutJoin (bs : List ℕ) : Type 0 where
    pub left : Value
    pub right : Value
    pub values : JoinsValues left right
    pub end : 0 ≡ join_end p h left right
    pub bytes : bs ≡ join_bytes (literals_held p l) (texts_held h t) left right

  -- 0 made, else the end that it meets, and nothing is written
  pub record JoinsOnce (r : ℕ) (h' t' : List ℕ) : Type 0 where
    pub end : r ≡ end_met p l h t i
    pub made : r ≡ 0 → Commits p l h t i h' t'
    pub kept : (r ≡ 0 → ⊥) → (h' ≡ h) × (t' ≡ t)
