-- In well-formed words enough levels are enough: the trees do not depend on the bound. Assumes nothing.
use mathlib.Core.Path.{◌≡◌, refl, ◌∙◌, ap, sym}
use mathlib.Core.List.{List}
use Prim.Native.Nat.{ℕ, zero, suc, ◌+◌, ◌-◌, ◌*◌, ◌≤◌, ◌<◌}
use native.Mathlib.Omega.{arith}
use Rattle.framed.specs.Tree.{Base, Expression, Code}
use Rattle.framed.specs.Paths.{Path}
use Rattle.tables.specs.declared.ExpressionEntry.{ExpressionEntry}
use Rattle.tables.specs.declared.InstructionEntry.{InstructionEntry}
use Rattle.tables.specs.Entries.{expression_at, instruction_at}
use Rattle.tables.specs.Fields.{expressions, instructions, codes, code_first, program_slots, link, slot_after, follow_slot, slot_walk, instruction_after}
use Rattle.tables.proofs.Walks.{link_reaches, slot_reaches, instruction_reaches, walk_from}
use Rattle.program_entries.specs.Form.{Entries}
use Rattle.program_parts.specs.Parts.{PartOf, PartOfInstruction, Names, StandsIn, Parts}
use Rattle.program_parts.proofs.Sound.{home, code_of, Homes, homes_hold, stands_first, stands_next}
use Rattle.program_parts.proofs.Complete.{parts_back}
use Rattle.program_form.specs.WellFormed.{WellFormed}
use Rattle.program_form.specs.Sound.{SlotPlace, Sound}
use Rattle.program_form.proofs.Decides.{sound}
use Rattle.trees.specs.Trees.{Readers, base_tree, expression_tree, slots_tree, instruction_tree, code_tree, one_level, levels}

-- ---- How many levels are enough

-- codes inside have larger numbers: what is written in code h - 1 (h is 0 outside code) has this many codes around or inside it
unfoldable level : ℕ → ℕ
level h = 129 - h

level_inside : (h k : ℕ) → h ≤ k → k < 128 → level (1 + k) + 1 ≤ level h
unfolding level
level_inside h k le lt = omega arith

level_most : (h : ℕ) → level h ≤ 129
unfolding level
level_most h = omega arith

level_below : (h g : ℕ) → h ≤ g → level g ≤ level h
unfolding level
level_below h g le = omega arith

-- for expression x, the slots from the place z on, an instruction, the instructions from the place z on, all written in h
abbrev for_expression : ℕ → ℕ → ℕ
for_expression h x = 4000 * level h + 2 * (1024 - x) + 1

unfoldable for_slots : ℕ → ℕ → ℕ
for_slots h zero = 1
for_slots h (suc y) = 4000 * level h + 2 * (1024 - y) + 2

abbrev for_instruction : ℕ → ℕ
for_instruction h = 4000 * level h + 2052

unfoldable for_code : ℕ → ℕ → ℕ
for_code h zero = 1
for_code h (suc i) = 4000 * level h + 2060 + (512 - i)

-- ---- Where a reader may be

-- the slots from z on exist, and are written in h or inside what is
record InFrame (p : List ℕ) (h z : ℕ) : Type 0 where
  there : (j y : ℕ) → slot_walk p z j ≡ suc y → y < expressions p
  inside : (j y : ℕ) → slot_walk p z j ≡ suc y → h ≤ home p y

-- the place z is in code k, or at its end
record InCode (p : List ℕ) (k z : ℕ) : Type 0 where
  stands : (i : ℕ) → z ≡ suc i → StandsIn p k i

-- n and m levels agree on all that needs no more
record Agree (p : List ℕ) (n m : ℕ) (r s : Readers) : Type 0 where
  bases : (x : ℕ) → x < expressions p → for_expression (home p x) x ≤ n → for_expression (home p x) x ≤ m → r.base x ≡ s.base x
  expressions : (x : ℕ) → x < expressions p → for_expression (home p x) x ≤ n → for_expression (home p x) x ≤ m → r.expression x ≡ s.expression x
  slotss : (h z : ℕ) → InFrame p h z → for_slots h z ≤ n → for_slots h z ≤ m → r.slots z ≡ s.slots z
  instructions : (i : ℕ) → i < instructions p → for_instruction (code_of p i) ≤ n → for_instruction (code_of p i) ≤ m → r.instruction i ≡ s.instruction i
  codes : (k z : ℕ) → InCode p k z → for_code (1 + k) z ≤ n → for_code (1 + k) z ≤ m → r.code z ≡ s.code z

module _ (p l : List ℕ) (w : WellFormed p l) where
  E : Entries p l
  E = w.entries

  P : Parts p
  P = w.parts

  G : Sound p
  G = sound p l w

  H : Homes p
  H = homes_hold p l E (parts_back p l E P)

  small : (x : ℕ) → x < expressions p → x < 1024
  small x lt = omega (arith, E.limits.expressions_most)

  -- ---- Frames and codes

  walk_next : (y j : ℕ) → slot_walk p (slot_after p y) j ≡ slot_walk p (suc y) (suc j)
  unfolding follow_slot
  walk_next y j = walk_from p (suc y) j

  frame_next : (h y : ℕ) → InFrame p h (suc y) → InFrame p h (slot_after p y)
  frame_next h y f = record { there = λ j v e. f.there (suc j) v (sym (walk_next y j) ∙ e); inside = λ j v e. f.inside (suc j) v (sym (walk_next y j) ∙ e) }

  frame_first : (x d : ℕ) → x < expressions p → expression_at p x ≡ ExpressionEntry.Frame d → InFrame p (home p x) (link 1024 x d)
  frame_first x d lt e =
      record {
        there = λ j y q. G.part_there x y (PartOf.slot d j lt e q);
        inside = λ j y q. let z = H.part x y (PartOf.slot d j lt e q) in omega arith;
      }

  program_first : InFrame p 0 (program_slots p)
  program_first = record { there = λ j y q. (E.program_frame.each j y q).there; inside = λ j y q. omega arith }

  -- a place among slots, in some frame
  record Somewhere (z : ℕ) : Type 0 where
    written_in : ℕ
    frame : InFrame p written_in z

  somewhere : (z : ℕ) → SlotPlace p z → Somewhere z
  somewhere _ SlotPlace.of_program = record { written_in = 0; frame = program_first }
  somewhere _ (SlotPlace.of_frame x d lt e) = record { written_in = home p x; frame = frame_first x d lt e }
  somewhere _ (SlotPlace.after y s) = let o = somewhere (suc y) s in record { written_in = o.written_in; frame = frame_next o.written_in y o.frame }

  code_start : (k : ℕ) → k < codes p → InCode p k (code_first p k)
  code_start k lt = record { stands = λ i e. stands_first p k i lt e }

  code_next : (k i : ℕ) → StandsIn p k i → InCode p k (instruction_after p i)
  code_next k i s = record { stands = λ j e. stands_next p k i j s e }

  -- ---- One level

  module _ (n m : ℕ) (r s : Readers) (a : Agree p n m r s) where
    -- what is needed inside
    code_few : (x k t : ℕ) → Names p k x → for_expression (home p x) x ≤ suc t → for_code (1 + k) (code_first p k) ≤ t
    unfolding for_code
    code_few x k t c le = go (code_first p k)
      where
        go : (z : ℕ) → for_code (1 + k) z ≤ t
        go zero = let sm = small x c.there in omega arith
        go (suc i) =
            let i₁ = level_inside (home p x) k (H.larger k x c) (omega (arith, G.code_there k x c, E.limits.codes_most)) in
            omega arith

    code_agrees : (x k : ℕ) → Names p k x → for_expression (home p x) x ≤ suc n → for_expression (home p x) x ≤ suc m → r.code (code_first p k) ≡ s.code (code_first p k)
    code_agrees x k c ln lm = a.codes k (code_first p k) (code_start k (G.code_there k x c)) (code_few x k n c ln) (code_few x k m c lm)

    part_agrees : (x b : ℕ) → PartOf p x b → for_expression (home p x) x ≤ suc n → for_expression (home p x) x ≤ suc m → r.base b ≡ s.base b
    part_agrees x b f ln lm =
        let t = G.part_there x b f in
        let g = G.part_larger x b f in
        let sm = small b t in
        let e : level (home p b) ≡ level (home p x) = ap level (H.part x b f) in
        a.bases b t (omega arith) (omega arith)

    base_level : (x : ℕ) → x < expressions p → for_expression (home p x) x ≤ suc n → for_expression (home p x) x ≤ suc m → (v : ExpressionEntry) → expression_at p x ≡ v
        → base_tree r p v ≡ base_tree s p v
    unfolding base_tree
    base_level x lt ln lm (ExpressionEntry.Integer v) e = refl
    base_level x lt ln lm (ExpressionEntry.Literal k) e = refl
    base_level x lt ln lm (ExpressionEntry.FromSelf k j) e = refl
    base_level x lt ln lm (ExpressionEntry.FromProgram k j) e = refl
    base_level x lt ln lm (ExpressionEntry.Code k) e = ap (Base.code k) (code_agrees x k (record { there = lt; is_code = e }) ln lm)
    base_level x lt ln lm (ExpressionEntry.Frame d) e = refl
    base_level x lt ln lm (ExpressionEntry.Not b) e = refl
    base_level x lt ln lm (ExpressionEntry.Operate o b c) e = refl
    base_level x lt ln lm ExpressionEntry.Bad e = refl

    slots_few : (x d t : ℕ) → x < expressions p → for_expression (home p x) x ≤ suc t → for_slots (home p x) (link 1024 x d) ≤ t
    unfolding for_slots
    slots_few x d t lt le = go (link 1024 x d) refl
      where
        go : (z : ℕ) → link 1024 x d ≡ z → for_slots (home p x) z ≤ t
        go zero e = let sm = small x lt in omega arith
        go (suc y) e = let q = link_reaches 1024 x d y e in omega (arith, q.some, q.inside, q.there)

    expression_level : (x : ℕ) → x < expressions p → for_expression (home p x) x ≤ suc n → for_expression (home p x) x ≤ suc m → (v : ExpressionEntry) → expression_at p x ≡ v
        → expression_tree r p x v ≡ expression_tree s p x v
    unfolding expression_tree
    expression_level x lt ln lm (ExpressionEntry.Integer v) e = refl
    expression_level x lt ln lm (ExpressionEntry.Literal k) e = refl
    expression_level x lt ln lm (ExpressionEntry.FromSelf k j) e = refl
    expression_level x lt ln lm (ExpressionEntry.FromProgram k j) e = refl
    expression_level x lt ln lm (ExpressionEntry.Code k) e = ap (λ (c : Code Path). Expression.base (Base.code k c)) (code_agrees x k (record { there = lt; is_code = e }) ln lm)
    expression_level x lt ln lm (ExpressionEntry.Frame d) e =
        ap Expression.frame (a.slotss (home p x) (link 1024 x d) (frame_first x d lt e) (slots_few x d n lt ln) (slots_few x d m lt lm))
    expression_level x lt ln lm (ExpressionEntry.Not b) e = ap Expression.not (part_agrees x b (PartOf.negated lt e) ln lm)
    expression_level x lt ln lm (ExpressionEntry.Operate o b c) e = rw (part_agrees x b (PartOf.left o c lt e) ln lm, part_agrees x c (PartOf.right o b lt e) ln lm)
    expression_level x lt ln lm ExpressionEntry.Bad e = refl

    after_few : (h y t : ℕ) → y < expressions p → for_slots h (suc y) ≤ suc t → for_slots h (slot_after p y) ≤ t
    unfolding for_slots
    after_few h y t lt le = go (slot_after p y) refl
      where
        go : (z : ℕ) → slot_after p y ≡ z → for_slots h z ≤ t
        go zero e = let sm = small y lt in omega arith
        go (suc v) e = let q = slot_reaches p y v e in omega (arith, q.some, q.inside, q.there)

    slots_level : (h z : ℕ) → InFrame p h z → for_slots h z ≤ suc n → for_slots h z ≤ suc m → slots_tree r p z ≡ slots_tree s p z
    unfolding slots_tree slot_walk for_slots
    slots_level h zero f ln lm = refl
    slots_level h (suc y) f ln lm = rw (here (f.inside 0 y start) ln lm, after)
      where
        start : slot_walk p (suc y) 0 ≡ suc y
        start = refl

        lt : y < expressions p
        lt = f.there 0 y start

        here : h ≤ home p y → for_slots h (suc y) ≤ suc n → for_slots h (suc y) ≤ suc m → r.expression y ≡ s.expression y
        here le ln lm = let b = level_below h (home p y) le in a.expressions y lt (omega arith) (omega arith)

        after : r.slots (slot_after p y) ≡ s.slots (slot_after p y)
        after = a.slotss h (slot_after p y) (frame_next h y f) (after_few h y n lt ln) (after_few h y m lt lm)

    operand_agrees : (i x : ℕ) → PartOfInstruction p i x → for_instruction (code_of p i) ≤ suc n → for_instruction (code_of p i) ≤ suc m → r.expression x ≡ s.expression x
    operand_agrees i x f ln lm =
        let e : level (home p x) ≡ level (code_of p i) = ap level (H.operand i x f) in
        a.expressions x (G.operand_there i x f) (omega arith) (omega arith)

    base_agrees : (i x : ℕ) → PartOfInstruction p i x → for_instruction (code_of p i) ≤ suc n → for_instruction (code_of p i) ≤ suc m → r.base x ≡ s.base x
    base_agrees i x f ln lm =
        let e : level (home p x) ≡ level (code_of p i) = ap level (H.operand i x f) in
        a.bases x (G.operand_there i x f) (omega arith) (omega arith)

    instruction_level : (i : ℕ) → i < instructions p → for_instruction (code_of p i) ≤ suc n → for_instruction (code_of p i) ≤ suc m → (v : InstructionEntry) → instruction_at p i ≡ v
        → instruction_tree r p v ≡ instruction_tree s p v
    unfolding instruction_tree
    instruction_level i lt ln lm (InstructionEntry.AssignSelf k j x) e = rw (operand_agrees i x (PartOfInstruction.assigned_self k j lt e) ln lm)
    instruction_level i lt ln lm (InstructionEntry.AssignProgram k j x) e = rw (operand_agrees i x (PartOfInstruction.assigned_program k j lt e) ln lm)
    instruction_level i lt ln lm (InstructionEntry.Show b) e = rw (base_agrees i b (PartOfInstruction.shown lt e) ln lm)
    instruction_level i lt ln lm (InstructionEntry.Jump b c) e =
        rw (base_agrees i b (PartOfInstruction.jump_to c lt e) ln lm, base_agrees i c (PartOfInstruction.jump_with b lt e) ln lm)
    instruction_level i lt ln lm (InstructionEntry.Ifeq b c d) e =
        rw (base_agrees i b (PartOfInstruction.ifeq_test c d lt e) ln lm, base_agrees i c (PartOfInstruction.ifeq_to b d lt e) ln lm, base_agrees i d (PartOfInstruction.ifeq_with b c lt e) ln lm)
    instruction_level i lt ln lm InstructionEntry.Bad e = refl

    next_few : (h i t : ℕ) → i < instructions p → for_code h (suc i) ≤ suc t → for_code h (instruction_after p i) ≤ t
    unfolding for_code
    next_few h i t lt le = go (instruction_after p i) refl
      where
        go : (z : ℕ) → instruction_after p i ≡ z → for_code h z ≤ t
        go zero e = omega arith
        go (suc j) e = let q = instruction_reaches p i j e in omega (arith, q.some, q.inside, q.there)

    code_level : (k z : ℕ) → InCode p k z → for_code (1 + k) z ≤ suc n → for_code (1 + k) z ≤ suc m → code_tree r p z ≡ code_tree s p z
    unfolding code_tree for_code
    code_level k zero c ln lm = refl
    code_level k (suc i) c ln lm =
        let t = c.stands i refl in
        let lt = G.stands_there k i t in
        let e : level (code_of p i) ≡ level (1 + k) = ap level (H.stands k i t) in
        let here : r.instruction i ≡ s.instruction i = a.instructions i lt (omega arith) (omega arith) in
        let after : r.code (instruction_after p i) ≡ s.code (instruction_after p i) = a.codes k (instruction_after p i) (code_next k i t) (next_few (1 + k) i n lt ln) (next_few (1 + k) i m lt lm) in
        rw (here, after)

    one_more : Agree p (suc n) (suc m) (one_level p r) (one_level p s)
    unfolding one_level
    one_more =
        record {
          bases = λ x lt ln lm. base_level x lt ln lm (expression_at p x) refl;
          expressions = λ x lt ln lm. expression_level x lt ln lm (expression_at p x) refl;
          slotss = λ h z f ln lm. slots_level h z f ln lm;
          instructions = λ i lt ln lm. instruction_level i lt ln lm (instruction_at p i) refl;
          codes = λ k z c ln lm. code_level k z c ln lm;
        }

  slots_some : (h z : ℕ) → for_slots h z ≤ 0 → ⊥
  unfolding for_slots
  slots_some h zero le = omega arith
  slots_some h (suc y) le = omega arith

  code_some : (h z : ℕ) → for_code h z ≤ 0 → ⊥
  unfolding for_code
  code_some h zero le = omega arith
  code_some h (suc y) le = omega arith

  agree : (n m : ℕ) → Agree p n m (levels n p) (levels m p)
  unfolding levels
  agree zero m =
      record {
        bases = λ x lt ln lm. absurd (omega arith);
        expressions = λ x lt ln lm. absurd (omega arith);
        slotss = λ h z f ln lm. absurd (slots_some h z ln);
        instructions = λ i lt ln lm. absurd (omega arith);
        codes = λ k z c ln lm. absurd (code_some (1 + k) z ln);
      }
  agree (suc n) zero =
      record {
        bases = λ x lt ln lm. absurd (omega arith);
        expressions = λ x lt ln lm. absurd (omega arith);
        slotss = λ h z f ln lm. absurd (slots_some h z lm);
        instructions = λ i lt ln lm. absurd (omega arith);
        codes = λ k z c ln lm. absurd (code_some (1 + k) z lm);
      }
  agree (suc n) (suc m) = one_more n m (levels n p) (levels m p) (agree n m)

  -- ---- Two bounds that are enough

  module _ (n m : ℕ) (ln : 520000 ≤ n) (lm : 520000 ≤ m) where
    pub same_base : (x : ℕ) → x < expressions p → (levels n p).base x ≡ (levels m p).base x
    same_base x lt = let b = level_most (home p x) in (agree n m).bases x lt (omega arith) (omega arith)

    pub same_expression : (x : ℕ) → x < expressions p → (levels n p).expression x ≡ (levels m p).expression x
    same_expression x lt = let b = level_most (home p x) in (agree n m).expressions x lt (omega arith) (omega arith)

    pub same_instruction : (i : ℕ) → i < instructions p → (levels n p).instruction i ≡ (levels m p).instruction i
    same_instruction i lt = let b = level_most (code_of p i) in (agree n m).instructions i lt (omega arith) (omega arith)

    slots_most : (h z t : ℕ) → 520000 ≤ t → for_slots h z ≤ t
    unfolding for_slots
    slots_most h zero t le = omega arith
    slots_most h (suc y) t le = let b = level_most h in omega arith

    pub same_slots : (z : ℕ) → SlotPlace p z → (levels n p).slots z ≡ (levels m p).slots z
    same_slots z s = let o = somewhere z s in (agree n m).slotss o.written_in z o.frame (slots_most o.written_in z n ln) (slots_most o.written_in z m lm)

    code_most : (h z t : ℕ) → 520000 ≤ t → for_code h z ≤ t
    unfolding for_code
    code_most h zero t le = omega arith
    code_most h (suc y) t le = let b = level_most h in omega arith

    pub same_code : (k z : ℕ) → ((i : ℕ) → z ≡ suc i → StandsIn p k i) → (levels n p).code z ≡ (levels m p).code z
    same_code k z c = (agree n m).codes k z (record { stands = c }) (code_most (1 + k) z n ln) (code_most (1 + k) z m lm)
