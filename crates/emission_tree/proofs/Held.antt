-- Words that are the same as those that a part of emission has just written hold that part. Assumes nothing.
use mathlib.Core.Path.{◌≡◌, refl, ◌∙◌}
use mathlib.Core.List.{List}
use Prim.Native.Nat.{ℕ, ◌+◌, ◌*◌, ◌≤◌, ◌<◌}
use native.Mathlib.Omega.{arith}
use lib.ListN.{length}
use Rattle.framed.specs.Tokens.{Operator}
use Rattle.framed.specs.Tree.{Base, Expression, Slots, Instruction, Code, ◌then◌}
use Rattle.framed.specs.Paths.{Path, from_self, from_program, names_of}
use Rattle.tables.specs.declared.ExpressionEntry.{ExpressionEntry}
use Rattle.table_updates.specs.Encode.{Encodable}
use Rattle.table_updates.specs.Updates.{set_slot_name}
use Rattle.table_updates.proofs.Laws.{set_code_first_region, set_instruction_link_region, set_slot_name_region, set_slot_link_region, set_expression_region, set_instruction_region}
use Rattle.shapes.specs.Numbers.{Numbers, ◌⊕◌, one_expression, one_instruction, one_code, more_names, base_size, expression_size, slots_size, instruction_size, code_size}
use Rattle.shapes.specs.Shape.{BaseShaped, ExpressionShaped, SlotsShaped, InstructionShaped, CodeShaped, SizeShaped}
use Rattle.emission.specs.Emit.{operator_kind, path_entry}
use Rattle.emission.specs.Frame.{Range, Part, InstructionPart, Same}
use Rattle.emission.specs.Writes.{past_base, past_expression, past_instruction, write_base, write_expression, write_slots, write_instruction, write_code}
use Rattle.emission.proofs.Sets.{range_wider, part_wider, part_in_range, instruction_in_range, instruction_wider, range_apart, range_apart_instruction, part_apart, part_apart_range, instruction_apart, part_apart_entry, part_apart_whole, part_apart_instruction, instruction_apart_link, region_writes, same_in, same_before}
use Rattle.emission.proofs.Framed.{path_region, base_writes, expression_writes, slots_writes, instruction_writes, code_writes}
use Rattle.emission_tree.specs.Standing.{Owner, Standing, Marked, base_marks, expression_marks, slots_marks, instruction_marks, code_marks, tagged, housed, ◌⊞◌}
use Rattle.emission_tree.specs.Entry.{BaseAt, ExpressionAt, SlotsAt, InstructionAt, CodeAt}
use Rattle.emission_tree.proofs.Fields.{entry_held, instruction_held, code_first_held, slot_link_held, slot_name_held, instruction_link_held, path_held}
use Rattle.emission_tree.proofs.Marked.{base_sized, expression_sized, instruction_sized, sized_more, sized_tagged, sized_housed, marked_first, marked_rest, marked_names, tag_is, past_tag, home_is, past_home, name_is, past_name}

path_encodable : (q : Path) (j : ℕ) → Encodable (path_entry q j)
unfolding path_entry
path_encodable (from_self ns) j = Encodable.from_self j _
path_encodable (from_program ns) j = Encodable.from_program j _

operator_encodable : (o : Operator) (a b : ℕ) → Encodable (ExpressionEntry.Operate (operator_kind o) a b)
unfolding operator_kind
operator_encodable Operator.plus a b = Encodable.operate 7 a b (omega arith) (omega arith)
operator_encodable Operator.minus a b = Encodable.operate 8 a b (omega arith) (omega arith)
operator_encodable Operator.times a b = Encodable.operate 9 a b (omega arith) (omega arith)
operator_encodable Operator.over a b = Encodable.operate 10 a b (omega arith) (omega arith)
operator_encodable Operator.less a b = Encodable.operate 11 a b (omega arith) (omega arith)
operator_encodable Operator.join a b = Encodable.operate 12 a b (omega arith) (omega arith)
operator_encodable Operator.equal a b = Encodable.operate 13 a b (omega arith) (omega arith)
operator_encodable Operator.and a b = Encodable.operate 14 a b (omega arith) (omega arith)
operator_encodable Operator.or a b = Encodable.operate 15 a b (omega arith) (omega arith)

module _ (p : List ℕ) (γ : Standing) (N S : ℕ) where
  mutual
    unfolding write_base base_size base_marks

    pub base_at : (b : Base Path) (x c : ℕ) (s : Numbers) (w : List ℕ) → BaseShaped N S s.codes b → c ≤ s.codes → x < s.expressions →
        SizeShaped (s ⊕ base_size b) → length w ≡ 16384 → Marked γ s (base_marks b x c s) → Same (Part x s (s ⊕ base_size b)) (write_base b x s w) p →
        BaseAt p γ N S b x c s
    base_at (Base.integer z) x c s w (BaseShaped.integer r) cl xl f l m h = BaseAt.integer r (entry_held x s _ _ w p l (omega arith) (Encodable.integer _) h)
    base_at (Base.string k) x c s w (BaseShaped.string r) cl xl f l m h = BaseAt.string r (entry_held x s _ _ w p l (omega arith) (Encodable.literal _) h)
    base_at (Base.path q) x c s w (BaseShaped.path r) cl xl f l m h =
        let d = path_region (names_of q) s.path_names w in
        BaseAt.path r (entry_held x s _ _ _ p (d.size ∙ l) (omega arith) (path_encodable q _) h)
        (path_held (names_of q) s.path_names w p l (omega arith)
        (same_before _ _ _ _ p (region_writes _ _ _ _ (set_expression_region _ x _))
        (same_in _ _ _ p h (λ k e. Part.inner (Range.path_name (omega arith) (omega arith)))) (λ k a b. omega arith)))
    base_at (Base.code k is) x c s w (BaseShaped.code g) cl xl f l m h =
        let e : SizeShaped (one_code s ⊕ code_size is) = omega arith in
        let hx =
        same_before (Part x s (one_code s)) _ _ _ p (code_writes N S is (one_code s) _ g)
        (same_in _ _ _ p h (part_wider s (one_code s) s (s ⊕ base_size (Base.code k is)) (omega arith) (omega arith) x))
        (part_apart_range s (one_code s) (one_code s) (one_code s ⊕ code_size is) (omega arith) (omega arith) e x xl)
        in
        BaseAt.code refl cl (entry_held x s _ _ _ p ((set_code_first_region w k _).size ∙ l) (omega arith) (Encodable.code k) hx) (name_is γ s _ x m)
        (code_first_held x _ s _ w p l (omega arith) hx)
        (code_at is k (one_code s) _ g (omega arith) e ((set_expression_region _ x _).size ∙ (set_code_first_region w k _).size ∙ l) (past_name γ s _ x m)
        (same_in _ _ _ p h (λ j r. Part.inner (range_wider (one_code s) (one_code s ⊕ code_size is) s _ (omega arith) (omega arith) j r))))

    pub expression_at_place : (b : Expression Path) (x c : ℕ) (s : Numbers) (w : List ℕ) → ExpressionShaped N S s.codes b → c ≤ s.codes → x < s.expressions →
        SizeShaped (s ⊕ expression_size b) → length w ≡ 16384 → Marked γ s (expression_marks b x c s) →
        Same (Part x s (s ⊕ expression_size b)) (write_expression b x s w) p → ExpressionAt p γ N S b x c s
    expression_at_place (Expression.base b) x c s w (ExpressionShaped.base g) cl xl f l m h = ExpressionAt.base (base_at b x c s w g cl xl f l m h)
    expression_at_place (Expression.not b) x c s w (ExpressionShaped.not g) cl xl f l m h =
        let e : SizeShaped (one_expression s ⊕ base_size b) = omega arith in
        let hx =
        same_before (Part x s s) _ _ _ p (base_writes N S b s.expressions (one_expression s) _ g)
        (same_in _ _ _ p h (part_wider s s s _ (omega arith) (omega arith) x))
        (part_apart s s (one_expression s) (one_expression s ⊕ base_size b) (omega arith) (omega arith) e x s.expressions xl (omega arith) (omega arith))
        in
        ExpressionAt.not (entry_held x s s _ w p l (omega arith) (Encodable.not _) hx) (tag_is γ s _ _ c m)
        (base_at b s.expressions c (one_expression s) _ g cl (omega arith) e ((set_expression_region w x _).size ∙ l) (past_tag γ s _ _ c m)
        (same_in _ _ _ p h (λ j r. Part.inner (part_in_range (one_expression s) (one_expression s ⊕ base_size b) s _ (omega arith) (omega arith) _ (omega arith) (omega arith) j r))))
    expression_at_place (Expression.operation o a b) x c s w (ExpressionShaped.operation g k) cl xl f l m h =
        let t = past_base a s in
        let ma = base_marks a s.expressions c (one_expression s) in
        let mb = tagged (Owner.expression x) c (base_marks b t.expressions c (one_expression t)) in
        let m1 = marked_first γ s (tagged (Owner.expression x) c ma) mb m in
        let m2 = marked_rest γ s (one_expression (base_size a)) t (tagged (Owner.expression x) c ma) mb (sized_tagged _ _ _ _ (base_sized a _ c _)) (omega arith) m in
        let e : SizeShaped (one_expression s ⊕ base_size a) = omega arith in
        let e2 : SizeShaped (one_expression t ⊕ base_size b) = omega arith in
        let la = (base_writes N S a s.expressions (one_expression s) w g).size ∙ l in
        let hx =
        same_before (Part x s t) _ _ _ p (base_writes N S b t.expressions (one_expression t) _ k)
        (same_in _ _ _ p h (part_wider s t s _ (omega arith) (omega arith) x))
        (part_apart s t (one_expression t) (one_expression t ⊕ base_size b) (omega arith) e e2 x t.expressions (omega arith) (omega arith) (omega arith))
        in
        ExpressionAt.operation (entry_held x s t _ _ p la (omega arith) (operator_encodable o _ _) hx)
        (tag_is γ s ma _ c m1)
        (base_at a s.expressions c (one_expression s) w g cl (omega arith) e l (past_tag γ s ma _ c m1)
        (same_before _ _ _ _ p (region_writes _ _ _ _ (set_expression_region _ x _))
        (same_in _ _ _ p hx (λ j r. Part.inner (part_in_range (one_expression s) t s t (omega arith) (omega arith) _ (omega arith) (omega arith) j r)))
        (part_apart_whole (one_expression s) t e s.expressions x xl (omega arith))))
        (tag_is γ t _ _ c m2)
        (base_at b t.expressions c (one_expression t) _ k (omega arith) (omega arith) e2 ((set_expression_region _ x _).size ∙ la) (past_tag γ t _ _ c m2)
        (same_in _ _ _ p h (λ j r. Part.inner (part_in_range (one_expression t) (one_expression t ⊕ base_size b) s _ (omega arith) (omega arith) _ (omega arith) (omega arith) j r))))
    expression_at_place (Expression.frame ss) x c s w (ExpressionShaped.frame d g) cl xl f l m h =
        let hx =
        same_before (Part x s s) _ _ _ p (slots_writes N S ss s _ g)
        (same_in _ _ _ p h (part_wider s s s (s ⊕ slots_size ss) (omega arith) (omega arith) x))
        (part_apart_range s s s (s ⊕ slots_size ss) (omega arith) (omega arith) f x xl)
        in
        ExpressionAt.frame d (entry_held x s s _ w p l (omega arith) (Encodable.frame _) hx)
        (slots_at ss (Owner.expression x) c s _ g cl f ((set_expression_region w x _).size ∙ l) m (same_in _ _ _ p h (λ j r. Part.inner r)))

    pub slots_at : (ss : Slots Path) (o : Owner) (c : ℕ) (s : Numbers) (w : List ℕ) → SlotsShaped N S s.codes ss → c ≤ s.codes →
        SizeShaped (s ⊕ slots_size ss) → length w ≡ 16384 → Marked γ s (slots_marks ss o c s) → Same (Range s (s ⊕ slots_size ss)) (write_slots ss s w) p →
        SlotsAt p γ N S ss o c s
    slots_at Slots.no_slots o c s w g cl f l m h = SlotsAt.no_slots
    slots_at (Slots.slot n b ss) o c s w (SlotsShaped.slot r g k) cl f l m h =
        let t = past_expression b s in
        let end = t ⊕ slots_size ss in
        let ma = expression_marks b s.expressions c (one_expression s) in
        let mb = slots_marks ss o c t in
        let m1 = marked_first γ s (tagged o c ma) mb m in
        let m2 = marked_rest γ s (one_expression (expression_size b)) t (tagged o c ma) mb (sized_tagged _ _ _ _ (expression_sized b _ c _)) (omega arith) m in
        let e : SizeShaped t = omega arith in
        let e2 : SizeShaped end = omega arith in
        let l0 = (set_slot_name_region w s.expressions n).size ∙ l in
        let wb = expression_writes N S b s.expressions (one_expression s) (set_slot_name w s.expressions n) g in
        let l1 = wb.size ∙ l0 in
        let h1 =
        same_before (Range s t) _ _ _ p (slots_writes N S ss t _ k)
        (same_in _ _ _ p h (range_wider s t s _ (omega arith) (omega arith))) (range_apart s t t end (omega arith) e e2)
        in
        SlotsAt.slot r
        (slot_name_held s t p (omega arith) (omega arith) n _ w _ l wb
        (λ q. part_apart_entry (one_expression s) t e s.expressions (7107 + 5 * s.expressions) (omega arith) (omega arith) (omega arith) _ q (record { from = omega arith; below = omega arith })) h1)
        (slot_link_held s t p (omega arith) (omega arith) _ _ l1 h1)
        (tag_is γ s ma o c m1)
        (expression_at_place b s.expressions c (one_expression s) _ g cl (omega arith) e l0 (past_tag γ s ma o c m1)
        (same_before _ _ _ _ p (region_writes _ _ _ _ (set_slot_link_region _ s.expressions _))
        (same_in _ _ _ p h1 (part_in_range (one_expression s) t s t (omega arith) (omega arith) _ (omega arith) (omega arith)))
        (part_apart_entry (one_expression s) t e s.expressions (7108 + 5 * s.expressions) (omega arith) (omega arith) (omega arith))))
        (slots_at ss o c t _ k (omega arith) e2 ((set_slot_link_region _ s.expressions _).size ∙ l1) m2
        (same_in _ _ _ p h (range_wider t end s _ (omega arith) (omega arith))))

    pub instruction_at_place : (b : Instruction Path) (i c : ℕ) (s : Numbers) (w : List ℕ) → InstructionShaped N S s.codes b → 1 + c ≤ s.codes → i < s.instructions →
        SizeShaped (s ⊕ instruction_size b) → length w ≡ 16384 → Marked γ s (instruction_marks b i c s) →
        Same (InstructionPart i s (s ⊕ instruction_size b)) (write_instruction b i s w) p → InstructionAt p γ N S b i c s
    instruction_at_place (Instruction.assign q b) i c s w (InstructionShaped.assign r g) cl il f l m h =
        let t = more_names (length (names_of q)) s in
        let e : SizeShaped (one_expression t ⊕ expression_size b) = omega arith in
        let d = path_region (names_of q) s.path_names w in
        let hx =
        same_before (InstructionPart i s t) _ _ _ p (expression_writes N S b s.expressions (one_expression t) _ g)
        (same_in _ _ _ p h (instruction_wider s t s _ (omega arith) (omega arith) i))
        (instruction_apart s t (one_expression t) (one_expression t ⊕ expression_size b) (omega arith) (omega arith) e i s.expressions (omega arith) il (omega arith))
        in
        InstructionAt.assign r (instruction_held i s t _ _ p (d.size ∙ l) (omega arith) hx)
        (path_held (names_of q) s.path_names w p l (omega arith)
        (same_before _ _ _ _ p (region_writes _ _ _ _ (set_instruction_region _ i _))
        (same_in _ _ _ p hx (λ k u. InstructionPart.inner (Range.path_name (omega arith) (omega arith)))) (λ k a b. omega arith)))
        (tag_is γ s _ _ (1 + c) m)
        (expression_at_place b s.expressions (1 + c) (one_expression t) _ g cl (omega arith) e ((set_instruction_region _ i _).size ∙ d.size ∙ l) (past_tag γ t _ _ (1 + c) (marked_names γ s _ _ m))
        (same_in _ _ _ p h (λ j u. InstructionPart.inner (part_in_range (one_expression t) (one_expression t ⊕ expression_size b) s _ (omega arith) (omega arith) _ (omega arith) (omega arith) j u))))
    instruction_at_place (Instruction.show a) i c s w (InstructionShaped.show g) cl il f l m h =
        let e : SizeShaped (one_expression s ⊕ base_size a) = omega arith in
        let hx =
        same_before (InstructionPart i s s) _ _ _ p (base_writes N S a s.expressions (one_expression s) _ g)
        (same_in _ _ _ p h (instruction_wider s s s _ (omega arith) (omega arith) i))
        (instruction_apart s s (one_expression s) (one_expression s ⊕ base_size a) (omega arith) (omega arith) e i s.expressions (omega arith) il (omega arith))
        in
        InstructionAt.show (instruction_held i s s _ w p l (omega arith) hx) (tag_is γ s _ _ (1 + c) m)
        (base_at a s.expressions (1 + c) (one_expression s) _ g cl (omega arith) e ((set_instruction_region w i _).size ∙ l) (past_tag γ s _ _ (1 + c) m)
        (same_in _ _ _ p h (λ j u. InstructionPart.inner (part_in_range (one_expression s) (one_expression s ⊕ base_size a) s _ (omega arith) (omega arith) _ (omega arith) (omega arith) j u))))
    instruction_at_place (Instruction.jump a b) i c s w (InstructionShaped.jump g k) cl il f l m h =
        let t = past_base a s in
        let own = Owner.instruction i in
        let ma = base_marks a s.expressions (1 + c) (one_expression s) in
        let mb = tagged own (1 + c) (base_marks b t.expressions (1 + c) (one_expression t)) in
        let m1 = marked_first γ s (tagged own (1 + c) ma) mb m in
        let m2 = marked_rest γ s (one_expression (base_size a)) t (tagged own (1 + c) ma) mb (sized_tagged _ _ _ _ (base_sized a _ _ _)) (omega arith) m in
        let e : SizeShaped t = omega arith in
        let e2 : SizeShaped (one_expression t ⊕ base_size b) = omega arith in
        let la = (base_writes N S a s.expressions (one_expression s) w g).size ∙ l in
        let hx =
        same_before (InstructionPart i s t) _ _ _ p (base_writes N S b t.expressions (one_expression t) _ k)
        (same_in _ _ _ p h (instruction_wider s t s _ (omega arith) (omega arith) i))
        (instruction_apart s t (one_expression t) (one_expression t ⊕ base_size b) (omega arith) e e2 i t.expressions (omega arith) (omega arith) (omega arith))
        in
        InstructionAt.jump (instruction_held i s t _ _ p la (omega arith) hx) (tag_is γ s ma own (1 + c) m1)
        (base_at a s.expressions (1 + c) (one_expression s) w g cl (omega arith) e l (past_tag γ s ma own (1 + c) m1)
        (same_before _ _ _ _ p (region_writes _ _ _ _ (set_instruction_region _ i _))
        (same_in _ _ _ p hx (λ j r. InstructionPart.inner (part_in_range (one_expression s) t s t (omega arith) (omega arith) _ (omega arith) (omega arith) j r)))
        (part_apart_instruction (one_expression s) t e s.expressions i (omega arith) il)))
        (tag_is γ t _ own (1 + c) m2)
        (base_at b t.expressions (1 + c) (one_expression t) _ k (omega arith) (omega arith) e2 ((set_instruction_region _ i _).size ∙ la) (past_tag γ t _ own (1 + c) m2)
        (same_in _ _ _ p h (λ j r. InstructionPart.inner (part_in_range (one_expression t) (one_expression t ⊕ base_size b) s _ (omega arith) (omega arith) _ (omega arith) (omega arith) j r))))
    instruction_at_place (Instruction.ifeq a b d) i c s w (InstructionShaped.ifeq g k n) cl il f l m h =
        let t = past_base a s in
        let u = past_base b t in
        let own = Owner.instruction i in
        let ma = base_marks a s.expressions (1 + c) (one_expression s) in
        let mb = base_marks b t.expressions (1 + c) (one_expression t) in
        let md = base_marks d u.expressions (1 + c) (one_expression u) in
        let m0 = marked_first γ s (tagged own (1 + c) ma ⊞ tagged own (1 + c) mb) (tagged own (1 + c) md) m in
        let m1 = marked_first γ s (tagged own (1 + c) ma) (tagged own (1 + c) mb) m0 in
        let za = sized_tagged own (1 + c) ma _ (base_sized a _ _ _) in
        let m2 = marked_rest γ s (one_expression (base_size a)) t (tagged own (1 + c) ma) (tagged own (1 + c) mb) za (omega arith) m0 in
        let m3 =
        marked_rest γ s (one_expression (base_size a) ⊕ one_expression (base_size b)) u (tagged own (1 + c) ma ⊞ tagged own (1 + c) mb) (tagged own (1 + c) md)
        (sized_more (tagged own (1 + c) ma) (tagged own (1 + c) mb) _ _ za (sized_tagged own (1 + c) mb _ (base_sized b _ _ _))) (omega arith) m
        in
        let e : SizeShaped t = omega arith in
        let e2 : SizeShaped u = omega arith in
        let e3 : SizeShaped (one_expression u ⊕ base_size d) = omega arith in
        let la = (base_writes N S a s.expressions (one_expression s) w g).size ∙ l in
        let wb = base_writes N S b t.expressions (one_expression t) (write_base a s.expressions (one_expression s) w) k in
        let lb = wb.size ∙ la in
        let hx =
        same_before (InstructionPart i s u) _ _ _ p (base_writes N S d u.expressions (one_expression u) _ n)
        (same_in _ _ _ p h (instruction_wider s u s _ (omega arith) (omega arith) i))
        (instruction_apart s u (one_expression u) (one_expression u ⊕ base_size d) (omega arith) e2 e3 i u.expressions (omega arith) (omega arith) (omega arith))
        in
        let hb =
        same_before (Range s u) _ _ _ p (region_writes _ _ _ _ (set_instruction_region _ i _)) (same_in _ _ _ p hx (λ j r. InstructionPart.inner r))
        (range_apart_instruction s u e2 i (omega arith) il)
        in
        InstructionAt.ifeq (instruction_held i s u _ _ p lb (omega arith) hx) (tag_is γ s ma own (1 + c) m1)
        (base_at a s.expressions (1 + c) (one_expression s) w g cl (omega arith) e l (past_tag γ s ma own (1 + c) m1)
        (same_before _ _ _ _ p wb
        (same_in _ _ _ p hb (part_in_range (one_expression s) t s u (omega arith) (omega arith) _ (omega arith) (omega arith)))
        (part_apart (one_expression s) t (one_expression t) u (omega arith) e e2 s.expressions t.expressions (omega arith) (omega arith) (omega arith))))
        (tag_is γ t mb own (1 + c) m2)
        (base_at b t.expressions (1 + c) (one_expression t) _ k (omega arith) (omega arith) e2 la (past_tag γ t mb own (1 + c) m2)
        (same_in _ _ _ p hb (part_in_range (one_expression t) u s u (omega arith) (omega arith) _ (omega arith) (omega arith))))
        (tag_is γ u md own (1 + c) m3)
        (base_at d u.expressions (1 + c) (one_expression u) _ n (omega arith) (omega arith) e3 ((set_instruction_region _ i _).size ∙ lb) (past_tag γ u md own (1 + c) m3)
        (same_in _ _ _ p h (λ j r. InstructionPart.inner (part_in_range (one_expression u) (one_expression u ⊕ base_size d) s _ (omega arith) (omega arith) _ (omega arith) (omega arith) j r))))

    pub code_at : (is : Code Path) (c : ℕ) (s : Numbers) (w : List ℕ) → CodeShaped N S s.codes is → 1 + c ≤ s.codes →
        SizeShaped (s ⊕ code_size is) → length w ≡ 16384 → Marked γ s (code_marks is c s) → Same (Range s (s ⊕ code_size is)) (write_code is s w) p →
        CodeAt p γ N S is c s
    code_at Code.finished c s w g cl f l m h = CodeAt.finished
    code_at (o then is) c s w (CodeShaped.next g k) cl f l m h =
        let t = past_instruction o s in
        let end = t ⊕ code_size is in
        let ma = instruction_marks o s.instructions c (one_instruction s) in
        let mb = code_marks is c t in
        let m1 = marked_first γ s (housed c ma) mb m in
        let m2 = marked_rest γ s (one_instruction (instruction_size o)) t (housed c ma) mb (sized_housed _ _ _ (instruction_sized o _ c _)) (omega arith) m in
        let e : SizeShaped t = omega arith in
        let e2 : SizeShaped end = omega arith in
        let wo = instruction_writes N S o s.instructions (one_instruction s) w g in
        let h1 =
        same_before (Range s t) _ _ _ p (code_writes N S is t _ k)
        (same_in _ _ _ p h (range_wider s t s _ (omega arith) (omega arith))) (range_apart s t t end (omega arith) e e2)
        in
        CodeAt.next (home_is γ s ma c m1)
        (instruction_at_place o s.instructions c (one_instruction s) w g cl (omega arith) e l (past_home γ s ma c m1)
        (same_before _ _ _ _ p (region_writes _ _ _ _ (set_instruction_link_region _ s.instructions _))
        (same_in _ _ _ p h1 (instruction_in_range (one_instruction s) t s t (omega arith) (omega arith) _ (omega arith) (omega arith)))
        (instruction_apart_link (one_instruction s) t e s.instructions (omega arith) (omega arith))))
        (instruction_link_held s t _ _ p (wo.size ∙ l) (omega arith) (omega arith) h1)
        (code_at is c t _ k (omega arith) e2 ((set_instruction_link_region _ s.instructions _).size ∙ wo.size ∙ l) m2
        (same_in _ _ _ p h (range_wider t end s _ (omega arith) (omega arith))))
