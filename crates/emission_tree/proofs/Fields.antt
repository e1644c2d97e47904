-- A field of words p that are the same as words in which it was just written. Assumes nothing.
use mathlib.Core.Path.{◌≡◌, ◌∙◌}
use mathlib.Core.List.{List, [], ◌∷◌}
use Prim.Native.Nat.{ℕ, ◌+◌, ◌*◌, ◌≤◌, ◌<◌}
use native.Mathlib.Omega.{arith}
use lib.ListN.{length}
use Rattle.words.specs.Words.{word}
use Rattle.words.proofs.Laws.{word_other, word_same}
use Rattle.tables.specs.declared.ExpressionEntry.{ExpressionEntry}
use Rattle.tables.specs.declared.InstructionEntry.{InstructionEntry}
use Rattle.tables.specs.Entries.{expression_at, instruction_at}
use Rattle.tables.specs.Fields.{code_first, path_name, instruction_kind, instruction_a, instruction_b, instruction_c, instruction_link, expression_kind, expression_a, expression_b, slot_name, slot_link}
use Rattle.table_updates.specs.Encode.{Encodable, expression_kind_of}
use Rattle.table_updates.specs.Updates.{set_code_first, set_path_name, set_instruction_link, set_slot_name, set_slot_link, set_expression, set_instruction}
use Rattle.table_updates.proofs.Laws.{set_path_name_region, set_slot_link_region, set_expression_region, code_first_kept, slot_name_kept, code_first_set, path_name_set, instruction_link_set, slot_name_set, slot_link_set, expression_set, instruction_set}
use Rattle.shapes.specs.Numbers.{Numbers, one_expression, one_code}
use Rattle.emission.specs.Emit.{write_path}
use Rattle.emission.specs.Frame.{Range, Part, InstructionPart, Writes, Same, Between}
use Rattle.emission.specs.Texts.{Listed}
use Rattle.emission.proofs.Sets.{same_in}
use Rattle.emission.proofs.Framed.{path_region}
use Rattle.emission_tree.specs.Entry.{EntryAt}

-- ---- Entries

module _ (x : ℕ) (s t : Numbers) (v p : List ℕ) (h : Same (Part x s t) v p) where
  kind_same : expression_kind p x ≡ expression_kind v x
  unfolding expression_kind
  kind_same = h.same _ (Part.entry (omega arith) (omega arith))

  a_same : expression_a p x ≡ expression_a v x
  unfolding expression_a
  a_same = h.same _ (Part.entry (omega arith) (omega arith))

  b_same : expression_b p x ≡ expression_b v x
  unfolding expression_b
  b_same = h.same _ (Part.entry (omega arith) (omega arith))

  entry_same : expression_at p x ≡ expression_at v x
  unfolding expression_at
  entry_same = rw (kind_same, a_same, b_same)

kind_set : (w : List ℕ) (x : ℕ) (e : ExpressionEntry) → length w ≡ 16384 → x < 1024 → expression_kind (set_expression w x e) x ≡ expression_kind_of e
unfolding expression_kind set_expression
kind_set w x e l lt = word_other _ _ _ _ _ (omega arith) (word_other _ _ _ _ _ (omega arith) (word_same _ _ _ (omega arith)))

pub entry_held : (x : ℕ) (s t : Numbers) (e : ExpressionEntry) (w p : List ℕ) → length w ≡ 16384 → x < 1024 → Encodable e →
    Same (Part x s t) (set_expression w x e) p → EntryAt p x e
entry_held x s t e w p l lt f h =
    record { kind = kind_same x s t _ p h ∙ kind_set w x e l lt; entry = entry_same x s t _ p h ∙ expression_set w x e l lt f }

module _ (i : ℕ) (s t : Numbers) (v p : List ℕ) (h : Same (InstructionPart i s t) v p) where
  instruction_kind_same : instruction_kind p i ≡ instruction_kind v i
  unfolding instruction_kind
  instruction_kind_same = h.same _ (InstructionPart.entry (omega arith) (omega arith))

  instruction_a_same : instruction_a p i ≡ instruction_a v i
  unfolding instruction_a
  instruction_a_same = h.same _ (InstructionPart.entry (omega arith) (omega arith))

  instruction_b_same : instruction_b p i ≡ instruction_b v i
  unfolding instruction_b
  instruction_b_same = h.same _ (InstructionPart.entry (omega arith) (omega arith))

  instruction_c_same : instruction_c p i ≡ instruction_c v i
  unfolding instruction_c
  instruction_c_same = h.same _ (InstructionPart.entry (omega arith) (omega arith))

  instruction_same : instruction_at p i ≡ instruction_at v i
  unfolding instruction_at
  instruction_same = rw (instruction_kind_same, instruction_a_same, instruction_b_same, instruction_c_same)

pub instruction_held : (i : ℕ) (s t : Numbers) (e : InstructionEntry) (w p : List ℕ) → length w ≡ 16384 → i < 512 →
    Same (InstructionPart i s t) (set_instruction w i e) p → instruction_at p i ≡ e
instruction_held i s t e w p l lt h = instruction_same i s t _ p h ∙ instruction_set w i e l lt

-- ---- Single words

code_first_same : (k : ℕ) (v p : List ℕ) → word p (2368 + k) ≡ word v (2368 + k) → code_first p k ≡ code_first v k
unfolding code_first
code_first_same k v p e = e

slot_name_same : (x : ℕ) (v p : List ℕ) → word p (7107 + 5 * x) ≡ word v (7107 + 5 * x) → slot_name p x ≡ slot_name v x
unfolding slot_name
slot_name_same x v p e = e

slot_link_same : (x : ℕ) (v p : List ℕ) → word p (7108 + 5 * x) ≡ word v (7108 + 5 * x) → slot_link p x ≡ slot_link v x
unfolding slot_link
slot_link_same x v p e = e

instruction_link_same : (i : ℕ) (v p : List ℕ) → word p (4548 + 5 * i) ≡ word v (4548 + 5 * i) → instruction_link p i ≡ instruction_link v i
unfolding instruction_link
instruction_link_same i v p e = e

path_name_same : (j : ℕ) (v p : List ℕ) → word p (2496 + j) ≡ word v (2496 + j) → path_name p j ≡ path_name v j
unfolding path_name
path_name_same j v p e = e

-- the first instruction of the code that begins at s, written just before the entry x that names it
pub code_first_held : (x v : ℕ) (s : Numbers) (e : ExpressionEntry) (w p : List ℕ) → length w ≡ 16384 → s.codes < 128 →
    Same (Part x s (one_code s)) (set_expression (set_code_first w s.codes v) x e) p → code_first p s.codes ≡ v
code_first_held x v s e w p l lt h =
    code_first_same s.codes _ p (h.same _ (Part.inner (Range.code (omega arith) (omega arith))))
    ∙ code_first_kept _ _ _ _ (set_expression_region _ x e) s.codes (λ a b. omega arith)
    ∙ code_first_set w s.codes v l lt

-- the link and the name of the slot that begins at s; c are the words after its expression
module _ (s t : Numbers) (p : List ℕ) (lt : s.expressions < 1024) (m : s.expressions < t.expressions) where
  pub slot_link_held : (d : ℕ) (c : List ℕ) → length c ≡ 16384 → Same (Range s t) (set_slot_link c s.expressions d) p → slot_link p s.expressions ≡ d
  slot_link_held d c l h =
      slot_link_same s.expressions _ p (h.same _ (Range.expression (omega arith) (omega arith))) ∙ slot_link_set c s.expressions d l lt

  pub slot_name_held : (n d : ℕ) (w c : List ℕ) → length w ≡ 16384 →
      Writes (Part s.expressions (one_expression s) t) (set_slot_name w s.expressions n) c →
      (Part s.expressions (one_expression s) t (7107 + 5 * s.expressions) → ⊥) →
      Same (Range s t) (set_slot_link c s.expressions d) p → slot_name p s.expressions ≡ n
  slot_name_held n d w c l a out h =
      slot_name_same s.expressions _ p (h.same _ (Range.expression (omega arith) (omega arith)))
      ∙ slot_name_kept _ _ _ _ (set_slot_link_region c s.expressions d) s.expressions (λ x y. omega arith)
      ∙ slot_name_same s.expressions _ c (a.away _ out)
      ∙ slot_name_set w s.expressions n l lt

pub instruction_link_held : (s t : Numbers) (d : ℕ) (c p : List ℕ) → length c ≡ 16384 → s.instructions < 512 → s.instructions < t.instructions →
    Same (Range s t) (set_instruction_link c s.instructions d) p → instruction_link p s.instructions ≡ d
instruction_link_held s t d c p l lt m h =
    instruction_link_same s.instructions _ p (h.same _ (Range.instruction (omega arith) (omega arith))) ∙ instruction_link_set c s.instructions d l lt

-- the names of a path
pub path_held : (ns : List ℕ) (j : ℕ) (w p : List ℕ) → length w ≡ 16384 → j + length ns ≤ 2048 →
    Same (Between (2496 + j) (2496 + j + length ns)) (write_path ns j w) p → Listed (path_name p) j ns
unfolding write_path
path_held [] j w p l m h = Listed.none
path_held (n ∷ ns) j w p l m h =
    Listed.more
    (path_name_same j _ p (h.same _ (record { from = omega arith; below = omega arith }))
    ∙ path_name_same j _ _ ((path_region ns (j + 1) (set_path_name w j n)).away _ (λ a b. omega arith))
    ∙ path_name_set w j n l (omega arith))
    (path_held ns (j + 1) (set_path_name w j n) p ((set_path_name_region w j n).size ∙ l) (omega arith)
    (same_in _ _ _ p h (λ k b. record { from = omega arith; below = omega arith })))
