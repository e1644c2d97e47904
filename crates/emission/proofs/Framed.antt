-- Each part of emission touches only the entry that it was given and what takes its numbers inside it. Assumes nothing.
use mathlib.Core.Path.{refl}
use mathlib.Core.List.{List, [], ◌∷◌}
use Prim.Native.Nat.{ℕ, ◌+◌, ◌≤◌, ◌<◌}
use native.Mathlib.Omega.{arith}
use lib.ListN.{length}
use Rattle.framed.specs.Tree.{Base, Expression, Slots, Instruction, Code, ◌then◌}
use Rattle.framed.specs.Paths.{Path, names_of}
use Rattle.tables.specs.declared.ExpressionEntry.{ExpressionEntry}
use Rattle.tables.specs.declared.InstructionEntry.{InstructionEntry}
use Rattle.table_updates.specs.Updates.{set_code_first, set_path_name, set_instruction_link, set_slot_name, set_slot_link, set_expression, set_instruction}
use Rattle.table_updates.proofs.Laws.{set_code_first_region, set_path_name_region, set_instruction_link_region, set_slot_name_region, set_slot_link_region, set_expression_region, set_instruction_region, Region, region_then, region_wider}
use Rattle.shapes.specs.Numbers.{Numbers, ◌⊕◌, one_expression, one_code, base_size, expression_size, slots_size, instruction_size, code_size}
use Rattle.shapes.specs.Shape.{BaseShaped, ExpressionShaped, SlotsShaped, InstructionShaped, CodeShaped}
use Rattle.emission.specs.Emit.{write_path}
use Rattle.emission.specs.Frame.{Range, Part, InstructionPart, Writes}
use Rattle.emission.specs.Writes.{past_base, past_expression, past_instruction, write_base, write_expression, write_slots, write_instruction, write_code}
use Rattle.emission.proofs.Sets.{range_wider, part_in_range, instruction_in_range, writes_nothing, writes_then, writes_wider, writes_region}

-- ---- Single updates

module _ (s t : Numbers) (w : List ℕ) where
  pub entry_writes : (x : ℕ) (e : ExpressionEntry) → Writes (Part x s t) w (set_expression w x e)
  entry_writes x e = writes_region _ _ _ _ _ (set_expression_region w x e) (λ k a b. Part.entry a b)

  pub instruction_entry_writes : (i : ℕ) (e : InstructionEntry) → Writes (InstructionPart i s t) w (set_instruction w i e)
  instruction_entry_writes i e = writes_region _ _ _ _ _ (set_instruction_region w i e) (λ k a b. InstructionPart.entry a b)

  pub slot_name_writes : (x n : ℕ) → s.expressions ≤ x → x < t.expressions → Writes (Range s t) w (set_slot_name w x n)
  slot_name_writes x n l m = writes_region _ _ _ _ _ (set_slot_name_region w x n) (λ k a b. Range.expression (omega arith) (omega arith))

  pub slot_link_writes : (x d : ℕ) → s.expressions ≤ x → x < t.expressions → Writes (Range s t) w (set_slot_link w x d)
  slot_link_writes x d l m = writes_region _ _ _ _ _ (set_slot_link_region w x d) (λ k a b. Range.expression (omega arith) (omega arith))

  pub instruction_link_writes : (i d : ℕ) → s.instructions ≤ i → i < t.instructions → Writes (Range s t) w (set_instruction_link w i d)
  instruction_link_writes i d l m = writes_region _ _ _ _ _ (set_instruction_link_region w i d) (λ k a b. Range.instruction (omega arith) (omega arith))

  pub code_first_writes : (c z : ℕ) → s.codes ≤ c → c < t.codes → Writes (Range s t) w (set_code_first w c z)
  code_first_writes c z l m = writes_region _ _ _ _ _ (set_code_first_region w c z) (λ k a b. Range.code (omega arith) (omega arith))

-- the names of a path
pub path_region : (ns : List ℕ) (j : ℕ) (w : List ℕ) → Region w (write_path ns j w) (2496 + j) (2496 + j + length ns)
unfolding write_path
path_region [] j w = record { size = refl; away = λ k out. refl }
path_region (n ∷ ns) j w =
    region_then w (set_path_name w j n) (write_path ns (j + 1) (set_path_name w j n)) _ _
    (region_wider _ _ _ _ _ _ (set_path_name_region w j n) (omega arith) (omega arith))
    (region_wider _ _ _ _ _ _ (path_region ns (j + 1) (set_path_name w j n)) (omega arith) (omega arith))

pub path_writes : (s t : Numbers) (ns : List ℕ) (j : ℕ) (w : List ℕ) → s.path_names ≤ j → j + length ns ≤ t.path_names → Writes (Range s t) w (write_path ns j w)
path_writes s t ns j w l m = writes_region _ _ _ _ _ (path_region ns j w) (λ k a b. Range.path_name (omega arith) (omega arith))

-- ---- Parts

inner_writes : (x : ℕ) (s t : Numbers) (w v : List ℕ) → Writes (Range s t) w v → Writes (Part x s t) w v
inner_writes x s t w v a = writes_wider _ _ w v a (λ k r. Part.inner r)

inner_instruction : (i : ℕ) (s t : Numbers) (w v : List ℕ) → Writes (Range s t) w v → Writes (InstructionPart i s t) w v
inner_instruction i s t w v a = writes_wider _ _ w v a (λ k r. InstructionPart.inner r)

-- a base or an expression whose entry x is inside the numbers from s on and below t
module _ (N S : ℕ) where
  mutual
    unfolding write_base base_size

    pub base_writes : (b : Base Path) (x : ℕ) (s : Numbers) (w : List ℕ) → BaseShaped N S s.codes b → Writes (Part x s (s ⊕ base_size b)) w (write_base b x s w)
    base_writes (Base.integer z) x s w h = entry_writes _ _ w x _
    base_writes (Base.string k) x s w h = entry_writes _ _ w x _
    base_writes (Base.path q) x s w h =
        writes_then _ _ _ _ (inner_writes x _ _ _ _ (path_writes s (s ⊕ base_size (Base.path q)) (names_of q) s.path_names w (omega arith) (omega arith))) (entry_writes _ _ _ x _)
    base_writes (Base.code k is) x s w (BaseShaped.code h) =
        writes_then _ _ _ _ (inner_writes x _ _ _ _ (code_first_writes s (s ⊕ base_size (Base.code k is)) w k _ (omega arith) (omega arith)))
        (writes_then _ _ _ _ (entry_writes _ _ _ x _)
        (inner_writes x _ _ _ _ (writes_wider _ _ _ _ (code_writes is (one_code s) _ h) (range_wider _ _ _ _ (omega arith) (omega arith)))))

    pub expression_writes : (e : Expression Path) (x : ℕ) (s : Numbers) (w : List ℕ) → ExpressionShaped N S s.codes e →
        Writes (Part x s (s ⊕ expression_size e)) w (write_expression e x s w)
    expression_writes (Expression.base b) x s w (ExpressionShaped.base h) = base_writes b x s w h
    expression_writes (Expression.not b) x s w (ExpressionShaped.not h) =
        writes_then _ _ _ _ (entry_writes _ _ w x _)
        (inner_writes x _ _ _ _ (writes_wider _ _ _ _ (base_writes b _ _ _ h) (part_in_range _ _ _ _ (omega arith) (omega arith) _ (omega arith) (omega arith))))
    expression_writes (Expression.operation o a b) x s w (ExpressionShaped.operation h g) =
        writes_then _ _ _ _
        (inner_writes x _ _ _ _ (writes_wider _ _ _ _ (base_writes a _ _ _ h) (part_in_range _ _ _ _ (omega arith) (omega arith) _ (omega arith) (omega arith))))
        (writes_then _ _ _ _ (entry_writes _ _ _ x _)
        (inner_writes x _ _ _ _ (writes_wider _ _ _ _ (base_writes b _ (one_expression (past_base a s)) _ g) (part_in_range _ _ _ _ (omega arith) (omega arith) _ (omega arith) (omega arith)))))
    expression_writes (Expression.frame ss) x s w (ExpressionShaped.frame f h) =
        writes_then _ _ _ _ (entry_writes _ _ w x _) (inner_writes x _ _ _ _ (slots_writes ss s _ h))

    pub slots_writes : (ss : Slots Path) (s : Numbers) (w : List ℕ) → SlotsShaped N S s.codes ss → Writes (Range s (s ⊕ slots_size ss)) w (write_slots ss s w)
    slots_writes Slots.no_slots s w h = writes_nothing _ w
    slots_writes (Slots.slot n e ss) s w (SlotsShaped.slot l h g) =
        writes_then _ _ _ _ (slot_name_writes _ _ w _ n (omega arith) (omega arith))
        (writes_then _ _ _ _
        (writes_wider _ _ _ _ (expression_writes e _ _ _ h) (part_in_range _ _ _ _ (omega arith) (omega arith) _ (omega arith) (omega arith)))
        (writes_then _ _ _ _ (slot_link_writes _ _ _ _ _ (omega arith) (omega arith))
        (writes_wider _ _ _ _ (slots_writes ss (past_expression e s) _ g) (range_wider _ _ _ _ (omega arith) (omega arith)))))

    pub instruction_writes : (o : Instruction Path) (i : ℕ) (s : Numbers) (w : List ℕ) → InstructionShaped N S s.codes o →
        Writes (InstructionPart i s (s ⊕ instruction_size o)) w (write_instruction o i s w)
    instruction_writes (Instruction.assign q e) i s w (InstructionShaped.assign l h) =
        writes_then _ _ _ _
        (inner_instruction i _ _ _ _ (path_writes s (s ⊕ instruction_size (Instruction.assign q e)) (names_of q) s.path_names w (omega arith) (omega arith)))
        (writes_then _ _ _ _ (instruction_entry_writes _ _ _ i _)
        (inner_instruction i _ _ _ _
        (writes_wider _ _ _ _ (expression_writes e _ _ _ h) (part_in_range _ _ _ _ (omega arith) (omega arith) _ (omega arith) (omega arith)))))
    instruction_writes (Instruction.show a) i s w (InstructionShaped.show h) =
        writes_then _ _ _ _ (instruction_entry_writes _ _ w i _)
        (inner_instruction i _ _ _ _ (writes_wider _ _ _ _ (base_writes a _ _ _ h) (part_in_range _ _ _ _ (omega arith) (omega arith) _ (omega arith) (omega arith))))
    instruction_writes (Instruction.jump a b) i s w (InstructionShaped.jump h g) =
        writes_then _ _ _ _
        (inner_instruction i _ _ _ _ (writes_wider _ _ _ _ (base_writes a _ _ _ h) (part_in_range _ _ _ _ (omega arith) (omega arith) _ (omega arith) (omega arith))))
        (writes_then _ _ _ _ (instruction_entry_writes _ _ _ i _)
        (inner_instruction i _ _ _ _ (writes_wider _ _ _ _ (base_writes b _ (one_expression (past_base a s)) _ g) (part_in_range _ _ _ _ (omega arith) (omega arith) _ (omega arith) (omega arith)))))
    instruction_writes (Instruction.ifeq a b c) i s w (InstructionShaped.ifeq h g f) =
        writes_then _ _ _ _
        (inner_instruction i _ _ _ _ (writes_wider _ _ _ _ (base_writes a _ _ _ h) (part_in_range _ _ _ _ (omega arith) (omega arith) _ (omega arith) (omega arith))))
        (writes_then _ _ _ _
        (inner_instruction i _ _ _ _ (writes_wider _ _ _ _ (base_writes b _ (one_expression (past_base a s)) _ g) (part_in_range _ _ _ _ (omega arith) (omega arith) _ (omega arith) (omega arith))))
        (writes_then _ _ _ _ (instruction_entry_writes _ _ _ i _)
        (inner_instruction i _ _ _ _
        (writes_wider _ _ _ _ (base_writes c _ (one_expression (past_base b (past_base a s))) _ f) (part_in_range _ _ _ _ (omega arith) (omega arith) _ (omega arith) (omega arith))))))

    pub code_writes : (is : Code Path) (s : Numbers) (w : List ℕ) → CodeShaped N S s.codes is → Writes (Range s (s ⊕ code_size is)) w (write_code is s w)
    code_writes Code.finished s w h = writes_nothing _ w
    code_writes (o then is) s w (CodeShaped.next h g) =
        writes_then _ _ _ _
        (writes_wider _ _ _ _ (instruction_writes o _ _ _ h) (instruction_in_range _ _ _ _ (omega arith) (omega arith) _ (omega arith) (omega arith)))
        (writes_then _ _ _ _ (instruction_link_writes _ _ _ _ _ (omega arith) (omega arith))
        (writes_wider _ _ _ _ (code_writes is (past_instruction o s) _ g) (range_wider _ _ _ _ (omega arith) (omega arith))))
