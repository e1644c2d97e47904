-- Where the tests hold, so does `Parts`. Assumes nothing.
use mathlib.Core.Path.{◌≡◌, refl, ◌∙◌, ap, sym}
use mathlib.Core.Logic.{◌≢◌}
use mathlib.Core.Bool.{true, not, ◌&&◌, ◌||◌}
use mathlib.Core.List.{List}
use Prim.Native.Nat.{ℕ, zero, suc, ◌+◌, ◌-◌, ◌≤◌, ◌<◌}
use native.Mathlib.Omega.{arith}
use native.Mathlib.Decide.{ℕ_discrete}
use lib.Dec.{eqb, leb, ltb}
use lib.ListN.{length, replicate, length-replicate}
use borrow.Author.Tests.{eq-eqb, ne_eqb, eqb-true, ltb-true, leb-true}
use Rattle.words.specs.Words.{word, set_word}
use Rattle.words.proofs.Laws.{all_means, word_same, word_other, set_size}
use Rattle.tables.proofs.Bools.{split2, split3, or_rest, not_eq}
use Rattle.tables.proofs.Walks.{slots_larger, walk_few, instruction_walk_suc, instruction_before, instruction_reaches, follow_at}
use Rattle.tables.specs.declared.ExpressionEntry.{ExpressionEntry}
use Rattle.tables.specs.declared.InstructionEntry.{InstructionEntry}
use Rattle.tables.specs.Entries.{expression_at, instruction_at}
use Rattle.tables.specs.Fields.{expressions, instructions, codes, code_first, link, slot_walk, instruction_link, instruction_after, instruction_walk}
use Rattle.program_entries.specs.Form.{Entries}
use Rattle.program_marks.specs.Marks.{each_below, mark_slot, mark_slots, mark_parts, mark_expression, mark_expressions, mark_operands, mark_instruction, mark_instructions}
use Rattle.program_marks.specs.Marks.{mark_named, mark_name, mark_names, mark_first, mark_firsts, mark_next, mark_nexts, home_of, mark_home, mark_homes}
use Rattle.program_marks.specs.Marks.{expression_wholes, instruction_wholes, instruction_codes, code_names, homes}
use Rattle.program_parts.specs.Parts.{PartOf, PartOfInstruction, Within, Names, Holds, StandsIn, Parts}
use Rattle.program_parts.specs.Tests.{part_ok, slot_marked, slot_marked_at, slots_marked, code_ok, both_parts_ok, parts_marked, expression_marked_as, expression_marked, expressions_marked}
use Rattle.program_parts.specs.Tests.{operand_ok, operands_marked, stands_ok, instruction_marked_as, instruction_marked, instructions_marked, code_marked_as, code_marked, codes_marked, marks_ok, parts_ok}
use Rattle.program_parts.proofs.Truth.{clash, True, Marked, mark, true_set, each_true, none_true}

-- ---- The marks are true

module _ (p : List ℕ) where
  same_mark : (x w : ℕ) → 1 + x ≡ 1 + w → x ≡ w
  same_mark x w e = omega arith

  suc_of : (z a : ℕ) → z ≡ 1 + a → z ≡ suc a
  suc_of z a e = omega arith

  -- the expression of which an expression is part
  abbrev pub Part : ℕ → ℕ → Type 0
  Part a x = PartOf p x a

  one_part : (m : List ℕ) (x b : ℕ) → PartOf p x b → True Part m → True Part (set_word m (1 + b) (1 + x))
  one_part m x b f u = true_set m (1 + b) (1 + x) Part u (λ a w e v. rw (← same_mark x w v, ← same_mark b a e) f)

  slots_true : (m : List ℕ) (x d n : ℕ) → x < expressions p → expression_at p x ≡ ExpressionEntry.Frame d → True Part m
      → True Part (each_below (mark_slot p (link 1024 x d) (1 + x)) n m)
  unfolding mark_slot
  slots_true m x d n lt e u =
      each_true Part (mark_slot p (link 1024 x d) (1 + x)) n m
      (λ j l jl t. true_set l (slot_walk p (link 1024 x d) j) (1 + x) Part t (λ a w q v. rw (← same_mark x w v) (PartOf.slot d j lt e (suc_of _ a q)))) u

  parts_true : (m : List ℕ) (x : ℕ) (e : ExpressionEntry) → x < expressions p → expression_at p x ≡ e → True Part m → True Part (mark_parts p x (1 + x) e m)
  unfolding mark_parts mark_slots
  parts_true m x (ExpressionEntry.Integer v) lt e u = u
  parts_true m x (ExpressionEntry.Literal k) lt e u = u
  parts_true m x (ExpressionEntry.FromSelf j n) lt e u = u
  parts_true m x (ExpressionEntry.FromProgram j n) lt e u = u
  parts_true m x (ExpressionEntry.Code k) lt e u = u
  parts_true m x (ExpressionEntry.Frame d) lt e u = slots_true m x d 16 lt e u
  parts_true m x (ExpressionEntry.Not a) lt e u = one_part m x a (PartOf.negated lt e) u
  parts_true m x (ExpressionEntry.Operate o a b) lt e u = one_part _ x b (PartOf.right o a lt e) (one_part m x a (PartOf.left o b lt e) u)
  parts_true m x ExpressionEntry.Bad lt e u = u

  pub expression_wholes_true : True Part (expression_wholes p)
  unfolding expression_wholes mark_expressions mark_expression
  expression_wholes_true = each_true Part (mark_expression p) (expressions p) (replicate 1025 0) (λ x l lt u. parts_true l x (expression_at p x) lt refl u) (none_true Part 1025)

  -- the instruction of which an expression is part
  abbrev pub Operand : ℕ → ℕ → Type 0
  Operand a i = PartOfInstruction p i a

  one_operand : (m : List ℕ) (i b : ℕ) → PartOfInstruction p i b → True Operand m → True Operand (set_word m (1 + b) (1 + i))
  one_operand m i b f u = true_set m (1 + b) (1 + i) Operand u (λ a w e v. rw (← same_mark i w v, ← same_mark b a e) f)

  operands_true : (m : List ℕ) (i : ℕ) (e : InstructionEntry) → i < instructions p → instruction_at p i ≡ e → True Operand m → True Operand (mark_operands (1 + i) e m)
  unfolding mark_operands
  operands_true m i (InstructionEntry.AssignSelf j n a) lt e u = one_operand m i a (PartOfInstruction.assigned_self j n lt e) u
  operands_true m i (InstructionEntry.AssignProgram j n a) lt e u = one_operand m i a (PartOfInstruction.assigned_program j n lt e) u
  operands_true m i (InstructionEntry.Show a) lt e u = one_operand m i a (PartOfInstruction.shown lt e) u
  operands_true m i (InstructionEntry.Jump a b) lt e u =
      one_operand _ i b (PartOfInstruction.jump_with a lt e) (one_operand m i a (PartOfInstruction.jump_to b lt e) u)
  operands_true m i (InstructionEntry.Ifeq a b c) lt e u =
      one_operand _ i c (PartOfInstruction.ifeq_with a b lt e)
      (one_operand _ i b (PartOfInstruction.ifeq_to a c lt e) (one_operand m i a (PartOfInstruction.ifeq_test b c lt e) u))
  operands_true m i InstructionEntry.Bad lt e u = u

  pub instruction_wholes_true : True Operand (instruction_wholes p)
  unfolding instruction_wholes mark_instructions mark_instruction
  instruction_wholes_true = each_true Operand (mark_instruction p) (instructions p) (replicate 1025 0) (λ i l lt u. operands_true l i (instruction_at p i) lt refl u) (none_true Operand 1025)

  -- the expression that names a code
  names_true : (m : List ℕ) (x : ℕ) (e : ExpressionEntry) → x < expressions p → expression_at p x ≡ e → True (Names p) m → True (Names p) (mark_named (1 + x) e m)
  unfolding mark_named
  names_true m x (ExpressionEntry.Integer v) lt e u = u
  names_true m x (ExpressionEntry.Literal k) lt e u = u
  names_true m x (ExpressionEntry.FromSelf j n) lt e u = u
  names_true m x (ExpressionEntry.FromProgram j n) lt e u = u
  names_true m x (ExpressionEntry.Code k) lt e u =
      true_set m (1 + k) (1 + x) (Names p) u (λ a w q v. rw (← same_mark x w v, ← same_mark k a q) (record { there = lt; is_code = e }))
  names_true m x (ExpressionEntry.Frame d) lt e u = u
  names_true m x (ExpressionEntry.Not a) lt e u = u
  names_true m x (ExpressionEntry.Operate o a b) lt e u = u
  names_true m x ExpressionEntry.Bad lt e u = u

  pub code_names_true : True (Names p) (code_names p)
  unfolding code_names mark_names mark_name
  code_names_true = each_true (Names p) (mark_name p) (expressions p) (replicate 129 0) (λ x l lt u. names_true l x (expression_at p x) lt refl u) (none_true (Names p) 129)

  -- the code in which an instruction stands
  abbrev pub Stands : ℕ → ℕ → Type 0
  Stands i k = StandsIn p k i

  pub stands_first : (k i : ℕ) → k < codes p → code_first p k ≡ suc i → StandsIn p k i
  unfolding instruction_walk
  stands_first k i lt e = record { code_there = lt; turns = 0; here = e }

  pub stands_next : (k i j : ℕ) → StandsIn p k i → instruction_after p i ≡ suc j → StandsIn p k j
  stands_next k i j s e =
      record {
        code_there = s.code_there;
        turns = suc s.turns;
        here = instruction_walk_suc p (code_first p k) s.turns ∙ follow_at p _ i s.here ∙ e;
      }

  firsts_true : (m : List ℕ) (k : ℕ) → k < codes p → True Stands m → True Stands (mark_first p k m)
  unfolding mark_first
  firsts_true m k lt u = true_set m (code_first p k) (1 + k) Stands u (λ i w q v. rw (← same_mark k w v) (stands_first k i lt (suc_of _ i q)))

  nexts_true : (m : List ℕ) (i : ℕ) → True Stands m → True Stands (mark_next p i m)
  unfolding mark_next
  nexts_true m i u = true_set m (instruction_after p i) (word m (1 + i)) Stands u (λ j k q v. stands_next k i j (u.tells i k v) (suc_of _ j q))

  pub instruction_codes_true : True Stands (instruction_codes p)
  unfolding instruction_codes mark_nexts mark_firsts
  instruction_codes_true =
      each_true Stands (mark_next p) (instructions p) _ (λ i l lt u. nexts_true l i u)
      (each_true Stands (mark_first p) (codes p) (replicate 513 0) (λ k l lt u. firsts_true l k lt u) (none_true Stands 513))

-- ---- What the tests say, for any arrays

module _ (p o q n h : List ℕ) (ok : expressions_marked p o q n h ≡ true) where
  marked_at : (x : ℕ) → x < expressions p → (e : ExpressionEntry) → expression_at p x ≡ e → parts_marked p o q n h x (1 + x) e ≡ true
  unfolding expressions_marked expression_marked expression_marked_as
  marked_at x lt e s = ap (parts_marked p o q n h x (1 + x)) (sym s) ∙ all_means (expression_marked p o q n h) (expressions p) ok x lt

  -- a is part of x: its number is larger and its marks say so
  pub record PartMarked (x a : ℕ) : Type 0 where
    pub larger : x < a
    pub whole : word o (1 + a) ≡ 1 + x
    pub no_instruction : word q (1 + a) ≡ 0

  part_means : (x a : ℕ) → part_ok o q x (1 + x) a ≡ true → PartMarked x a
  unfolding part_ok
  part_means x a e =
      let s = split3 (ltb x a) (eqb (word o (1 + a)) (1 + x)) (eqb (word q (1 + a)) 0) e in
      record { larger = ltb-true _ _ s.0; whole = eqb-true _ _ s.1; no_instruction = eqb-true _ _ s.2 }

  both_mean : (x a b : ℕ) → both_parts_ok o q x (1 + x) a b ≡ true → (part_ok o q x (1 + x) a ≡ true) × (part_ok o q x (1 + x) b ≡ true)
  unfolding both_parts_ok
  both_mean x a b e = split2 (part_ok o q x (1 + x) a) (part_ok o q x (1 + x) b) e

  slot_means : (x d j a : ℕ) → j < 16 → slots_marked p o q (1 + x) (link 1024 x d) ≡ true → slot_walk p (link 1024 x d) j ≡ suc a → PartMarked x a
  unfolding slots_marked slot_marked_at slot_marked
  slot_means x d j a lt e w =
      let z = slot_walk p (link 1024 x d) j in
      let t : (eqb z 0 || (eqb (word o z) (1 + x) && eqb (word q z) 0)) ≡ true = all_means (slot_marked_at p o q (1 + x) (link 1024 x d)) 16 e j lt in
      let u = or_rest (eqb z 0) (eqb (word o z) (1 + x) && eqb (word q z) 0) t (λ g. let v : z ≡ 0 = eqb-true _ _ g in omega arith) in
      let s = split2 (eqb (word o z) (1 + x)) (eqb (word q z) 0) u in
      let v : z ≡ 1 + a = omega arith in
      record {
        larger = slots_larger p x d j a w;
        whole = ap (word o) (sym v) ∙ eqb-true _ _ s.0;
        no_instruction = ap (word q) (sym v) ∙ eqb-true _ _ s.1;
      }

  -- the lists of slots end after 16 (from the tests of single entries)
  module _ (few : (x d : ℕ) → x < expressions p → expression_at p x ≡ ExpressionEntry.Frame d → slot_walk p (link 1024 x d) 16 ≡ 0) where
    pub part_marked : (x a : ℕ) → PartOf p x a → PartMarked x a
    unfolding parts_marked
    part_marked x a (PartOf.negated lt e) = part_means x a (marked_at x lt (ExpressionEntry.Not a) e)
    part_marked x a (PartOf.left k g lt e) = part_means x a (both_mean x a g (marked_at x lt (ExpressionEntry.Operate k a g) e)).0
    part_marked x a (PartOf.right k g lt e) = part_means x a (both_mean x g a (marked_at x lt (ExpressionEntry.Operate k g a) e)).1
    part_marked x a (PartOf.slot d j lt e w) = slot_means x d j a (walk_few p (link 1024 x d) j a (few x d lt e) w) (marked_at x lt (ExpressionEntry.Frame d) e) w

  pub record NameMarked (k x : ℕ) : Type 0 where
    pub named : word n (1 + k) ≡ 1 + x
    pub larger : word h (1 + x) ≤ k

  pub name_marked : (k x : ℕ) → Names p k x → NameMarked k x
  unfolding parts_marked code_ok
  name_marked k x m =
      let s = split2 (eqb (word n (1 + k)) (1 + x)) (leb (word h (1 + x)) k) (marked_at x m.there (ExpressionEntry.Code k) m.is_code) in
      record { named = eqb-true _ _ s.0; larger = leb-true _ _ s.1 }

module _ (p o q c : List ℕ) (ok : instructions_marked p o q c ≡ true) where
  marks_at : (i : ℕ) → i < instructions p → (operands_marked o q (1 + i) (instruction_at p i) ≡ true) × (stands_ok p c i ≡ true)
  unfolding instructions_marked instruction_marked instruction_marked_as
  marks_at i lt = split2 (operands_marked o q (1 + i) (instruction_at p i)) (stands_ok p c i) (all_means (instruction_marked p o q c) (instructions p) ok i lt)

  operands_at : (i : ℕ) → i < instructions p → (e : InstructionEntry) → instruction_at p i ≡ e → operands_marked o q (1 + i) e ≡ true
  operands_at i lt e s = ap (operands_marked o q (1 + i)) (sym s) ∙ (marks_at i lt).0

  pub record OperandMarked (i a : ℕ) : Type 0 where
    pub whole : word q (1 + a) ≡ 1 + i
    pub no_expression : word o (1 + a) ≡ 0

  operand_means : (i a : ℕ) → operand_ok o q (1 + i) a ≡ true → OperandMarked i a
  unfolding operand_ok
  operand_means i a e =
      let s = split2 (eqb (word q (1 + a)) (1 + i)) (eqb (word o (1 + a)) 0) e in
      record { whole = eqb-true _ _ s.0; no_expression = eqb-true _ _ s.1 }

  pub operand_marked : (i a : ℕ) → PartOfInstruction p i a → OperandMarked i a
  unfolding operands_marked
  operand_marked i a (PartOfInstruction.assigned_self j m lt e) = operand_means i a (operands_at i lt (InstructionEntry.AssignSelf j m a) e)
  operand_marked i a (PartOfInstruction.assigned_program j m lt e) = operand_means i a (operands_at i lt (InstructionEntry.AssignProgram j m a) e)
  operand_marked i a (PartOfInstruction.shown lt e) = operand_means i a (operands_at i lt (InstructionEntry.Show a) e)
  operand_marked i a (PartOfInstruction.jump_to g lt e) = operand_means i a (split2 (operand_ok o q (1 + i) a) (operand_ok o q (1 + i) g) (operands_at i lt (InstructionEntry.Jump a g) e)).0
  operand_marked i a (PartOfInstruction.jump_with g lt e) = operand_means i a (split2 (operand_ok o q (1 + i) g) (operand_ok o q (1 + i) a) (operands_at i lt (InstructionEntry.Jump g a) e)).1
  operand_marked i a (PartOfInstruction.ifeq_test g u lt e) =
      operand_means i a (split3 (operand_ok o q (1 + i) a) (operand_ok o q (1 + i) g) (operand_ok o q (1 + i) u) (operands_at i lt (InstructionEntry.Ifeq a g u) e)).0
  operand_marked i a (PartOfInstruction.ifeq_to g u lt e) =
      operand_means i a (split3 (operand_ok o q (1 + i) g) (operand_ok o q (1 + i) a) (operand_ok o q (1 + i) u) (operands_at i lt (InstructionEntry.Ifeq g a u) e)).1
  operand_marked i a (PartOfInstruction.ifeq_with g u lt e) =
      operand_means i a (split3 (operand_ok o q (1 + i) g) (operand_ok o q (1 + i) u) (operand_ok o q (1 + i) a) (operands_at i lt (InstructionEntry.Ifeq g u a) e)).2

  pub stands_marked : (i : ℕ) → i < instructions p → Marked c i
  unfolding stands_ok
  stands_marked i lt =
      let s = split2 (not (eqb (word c (1 + i)) 0)) (eqb (instruction_after p i) 0 || eqb (word c (instruction_after p i)) (word c (1 + i))) (marks_at i lt).1 in
      let ne = not_eq (word c (1 + i)) 0 s.0 in
      record { some = omega arith }

  pub next_marked : (i j : ℕ) → i < instructions p → instruction_after p i ≡ suc j → word c (1 + j) ≡ word c (1 + i)
  unfolding stands_ok
  next_marked i j lt e =
      let s = split2 (not (eqb (word c (1 + i)) 0)) (eqb (instruction_after p i) 0 || eqb (word c (instruction_after p i)) (word c (1 + i))) (marks_at i lt).1 in
      let u = or_rest (eqb (instruction_after p i) 0) (eqb (word c (instruction_after p i)) (word c (1 + i))) s.1 (λ g. let v : instruction_after p i ≡ 0 = eqb-true _ _ g in omega arith) in
      let v : 1 + j ≡ instruction_after p i = omega arith in
      ap (word c) v ∙ eqb-true _ _ u

module _ (p c n : List ℕ) (ok : codes_marked p c n ≡ true) where
  code_at : (k : ℕ) → k < codes p → ((eqb (code_first p k) 0 || eqb (word c (code_first p k)) (1 + k)) ≡ true) × (not (eqb (word n (1 + k)) 0) ≡ true)
  unfolding codes_marked code_marked code_marked_as
  code_at k lt = split2 (eqb (code_first p k) 0 || eqb (word c (code_first p k)) (1 + k)) (not (eqb (word n (1 + k)) 0)) (all_means (code_marked p c n) (codes p) ok k lt)

  pub first_marked : (k i : ℕ) → k < codes p → code_first p k ≡ suc i → word c (1 + i) ≡ 1 + k
  first_marked k i lt e =
      let u = or_rest (eqb (code_first p k) 0) (eqb (word c (code_first p k)) (1 + k)) (code_at k lt).0 (λ g. let v : code_first p k ≡ 0 = eqb-true _ _ g in omega arith) in
      let v : 1 + i ≡ code_first p k = omega arith in
      ap (word c) v ∙ eqb-true _ _ u

  pub code_named : (k : ℕ) → k < codes p → Marked n k
  code_named k lt = let ne = not_eq (word n (1 + k)) 0 (code_at k lt).1 in record { some = omega arith }

-- ---- Homes: a whole comes before its parts, so one pass is enough

module _ (o q c : List ℕ) where
  home_same : (x : ℕ) (h g : List ℕ) → word h (word o (1 + x)) ≡ word g (word o (1 + x)) → home_of o q c x h ≡ home_of o q c x g
  unfolding home_of
  home_same x h g e = rw e

  pub homes_size : (n : ℕ) (h : List ℕ) → length (each_below (mark_home o q c) n h) ≡ length h
  unfolding each_below mark_home
  homes_size zero h = refl
  homes_size (suc n) h = set_size _ _ _ ∙ homes_size n h

  homes_final : (n : ℕ) (h : List ℕ) → n < length h → ((x : ℕ) → x < n → word o (1 + x) ≤ x) → (x : ℕ) → x < n
      → word (each_below (mark_home o q c) n h) (1 + x) ≡ home_of o q c x (each_below (mark_home o q c) n h)
  unfolding each_below mark_home
  homes_final zero h nl f x lt = absurd (omega arith)
  homes_final (suc n) h nl f x lt = go (ℕ_discrete x n) (λ l. homes_final n h (omega arith) (λ y yl. f y (omega arith)) x l)
    where
      b : List ℕ
      b = each_below (mark_home o q c) n h

      a : List ℕ
      a = set_word b (1 + n) (home_of o q c n b)

      kept : (k : ℕ) → k ≤ n → word a k ≡ word b k
      kept k le = word_other b (1 + n) k (home_of o q c n b) (word b k) (omega arith) refl

      go : Dec (x ≡ n) → (x < n → word b (1 + x) ≡ home_of o q c x b) → word a (1 + x) ≡ home_of o q c x a
      go (yes e) r =
          rw e (word_same b (1 + n) (home_of o q c n b) (omega (arith, homes_size n h)) ∙ home_same n b a (sym (kept (word o (1 + n)) (f n (omega arith)))))
      go (no e) r =
          let le = f x lt in
          kept (1 + x) (omega arith) ∙ r (omega arith) ∙ home_same x b a (sym (kept (word o (1 + x)) (omega arith)))

-- the code in which an expression is written, and in which an instruction stands: 0, or 1 + the code
unfoldable pub home : List ℕ → ℕ → ℕ
home p x = word (homes p) (1 + x)

unfoldable pub code_of : List ℕ → ℕ → ℕ
code_of p i = word (instruction_codes p) (1 + i)

pub record Homes (p : List ℕ) : Type 0 where
  pub part : (x a : ℕ) → PartOf p x a → home p a ≡ home p x
  pub operand : (i a : ℕ) → PartOfInstruction p i a → home p a ≡ code_of p i
  pub stands : (k i : ℕ) → StandsIn p k i → code_of p i ≡ 1 + k
  pub larger : (k x : ℕ) → Names p k x → home p x ≤ k

-- ---- Parts exist

module _ (p l : List ℕ) (E : Entries p l) where
  pub part_there : (x a : ℕ) → PartOf p x a → a < expressions p
  part_there x a (PartOf.negated lt e) = ((E.expression x lt).negated a e).there
  part_there x a (PartOf.left k g lt e) = ((E.expression x lt).left k a g e).there
  part_there x a (PartOf.right k g lt e) = ((E.expression x lt).right k g a e).there
  part_there x a (PartOf.slot d j lt e w) = (((E.expression x lt).frame d e).each j a w).there

  pub operand_there : (i a : ℕ) → PartOfInstruction p i a → a < expressions p
  operand_there i a (PartOfInstruction.assigned_self j m lt e) = (E.instruction i lt).self_there j m a e
  operand_there i a (PartOfInstruction.assigned_program j m lt e) = (E.instruction i lt).program_there j m a e
  operand_there i a (PartOfInstruction.shown lt e) = ((E.instruction i lt).shown a e).there
  operand_there i a (PartOfInstruction.jump_to g lt e) = ((E.instruction i lt).jump_to a g e).there
  operand_there i a (PartOfInstruction.jump_with g lt e) = ((E.instruction i lt).jump_with g a e).there
  operand_there i a (PartOfInstruction.ifeq_test g u lt e) = ((E.instruction i lt).ifeq_test a g u e).there
  operand_there i a (PartOfInstruction.ifeq_to g u lt e) = ((E.instruction i lt).ifeq_to g a u e).there
  operand_there i a (PartOfInstruction.ifeq_with g u lt e) = ((E.instruction i lt).ifeq_with g u a e).there

-- ---- All of it

module _ (p l : List ℕ) (E : Entries p l) (ok : parts_ok p ≡ true) where
  tests : (expressions_marked p (expression_wholes p) (instruction_wholes p) (code_names p) (homes p) ≡ true)
      × (instructions_marked p (expression_wholes p) (instruction_wholes p) (instruction_codes p) ≡ true)
      × (codes_marked p (instruction_codes p) (code_names p) ≡ true)
  unfolding parts_ok marks_ok
  tests =
      split3 (expressions_marked p (expression_wholes p) (instruction_wholes p) (code_names p) (homes p))
      (instructions_marked p (expression_wholes p) (instruction_wholes p) (instruction_codes p)) (codes_marked p (instruction_codes p) (code_names p)) ok

  part_is : (x a : ℕ) → PartOf p x a → PartMarked p (expression_wholes p) (instruction_wholes p) (code_names p) (homes p) tests.0 x a
  part_is = part_marked p (expression_wholes p) (instruction_wholes p) (code_names p) (homes p) tests.0 (λ x d lt e. ((E.expression x lt).frame d e).most)

  operand_is : (i a : ℕ) → PartOfInstruction p i a → OperandMarked p (expression_wholes p) (instruction_wholes p) (instruction_codes p) tests.1 i a
  operand_is = operand_marked p (expression_wholes p) (instruction_wholes p) (instruction_codes p) tests.1

  -- what a walk along a code meets exists and has the code's mark
  on_code : (k t i : ℕ) → k < codes p → instruction_walk p (code_first p k) t ≡ suc i → (i < instructions p) × (word (instruction_codes p) (1 + i) ≡ 1 + k)
  unfolding instruction_walk
  on_code k zero i lt e = (E.code_first_there k i lt e, first_marked p (instruction_codes p) (code_names p) tests.2 k i lt e)
  on_code k (suc t) i lt e =
      let b = instruction_before p (instruction_walk p (code_first p k) t) i e in
      let r = on_code k t b.number lt b.here in
      let s = instruction_reaches p b.number i b.next in
      let d = s.some in
      let th = s.there in
      let ne : instruction_link p b.number ≢ 0 = λ z. none d z in
      let in_table = (E.instruction b.number r.0).link_there ne in
      (omega arith, next_marked p (expression_wholes p) (instruction_wholes p) (instruction_codes p) tests.1 b.number i r.0 b.next ∙ r.1)
    where
      none : {d : ℕ} → 0 < d → d ≡ 0 → ⊥
      none a z = omega arith

  whole_before : (x : ℕ) → word (expression_wholes p) (1 + x) ≤ x
  whole_before x = go (word (expression_wholes p) (1 + x)) refl
    where
      go : (w : ℕ) → word (expression_wholes p) (1 + x) ≡ w → w ≤ x
      go zero e = omega arith
      go (suc w) e = let f = (part_is w x ((expression_wholes_true p).tells x w (e ∙ suc_plus w))).larger in omega arith
        where
          suc_plus : (w : ℕ) → suc w ≡ 1 + w
          suc_plus w = omega arith

  home_is : (x : ℕ) → x < expressions p → word (homes p) (1 + x) ≡ home_of (expression_wholes p) (instruction_wholes p) (instruction_codes p) x (homes p)
  unfolding homes mark_homes
  home_is x lt =
      homes_final (expression_wholes p) (instruction_wholes p) (instruction_codes p) (expressions p) (replicate 1025 0)
      (omega (arith, E.limits.expressions_most, length-replicate {A = ℕ} 1025 0)) (λ y yl. whole_before y) x lt

  home_part : (x a : ℕ) → PartOf p x a → home p a ≡ home p x
  unfolding home home_of
  home_part x a f =
      let m = (part_is x a f).whole in
      let ne : word (expression_wholes p) (1 + a) ≢ 0 = λ z. clash _ _ m z in
      home_is a (part_there p l E x a f) ∙ rw (ne_eqb _ 0 ne, m)

  home_operand : (i a : ℕ) → PartOfInstruction p i a → home p a ≡ code_of p i
  unfolding home code_of home_of
  home_operand i a f =
      let m = (operand_is i a f).whole in
      let z = (operand_is i a f).no_expression in
      let ne : word (instruction_wholes p) (1 + a) ≢ 0 = λ z. clash _ _ m z in
      home_is a (operand_there p l E i a f) ∙ rw (eq-eqb _ 0 z, ne_eqb _ 0 ne, m)

  pub homes_hold : Homes p
  unfolding home code_of
  homes_hold =
      record {
        part = home_part;
        operand = home_operand;
        stands = λ k i s. (on_code k s.turns i s.code_there s.here).1;
        larger = λ k x m. (name_marked p (expression_wholes p) (instruction_wholes p) (code_names p) (homes p) tests.0 k x m).larger;
      }

  home_within : (k i a x : ℕ) → home p a ≡ 1 + k → Within p a x → home p x ≡ 1 + k
  home_within k i a _ e Within.itself = e
  home_within k i a _ e (Within.deeper x y w f) = home_part x y f ∙ home_within k i a x e w

  pub parts_mean : Parts p
  parts_mean =
      record {
        larger = λ x a f. (part_is x a f).larger;
        one_expression = λ x y a f g. same_mark p x y (sym (part_is x a f).whole ∙ (part_is y a g).whole);
        one_instruction = λ i j a f g. same_mark p i j (sym (operand_is i a f).whole ∙ (operand_is j a g).whole);
        never_both = λ x i a f g. clash _ _ (operand_is i a g).whole (part_is x a f).no_instruction;
        stands = λ i lt. let m = mark (instruction_codes p) i (stands_marked p (expression_wholes p) (instruction_wholes p) (instruction_codes p) tests.1 i lt) in
            record { code = word (instruction_codes p) (1 + i) - 1; stands = (instruction_codes_true p).tells i _ m };
        one_code = λ k m i s t. same_mark p k m (sym (on_code k s.turns i s.code_there s.here).1 ∙ (on_code m t.turns i t.code_there t.here).1);
        named = λ k lt. let m = mark (code_names p) k (code_named p (instruction_codes p) (code_names p) tests.2 k lt) in
            record { expression = word (code_names p) (1 + k) - 1; names = (code_names_true p).tells k _ m };
        one_name = λ k x y a b. same_mark p x y (sym (names_are k x a) ∙ names_are k y b);
        larger_codes = λ k i m s g. bigger k i m s g;
      }
    where
      names_are : (k x : ℕ) → Names p k x → word (code_names p) (1 + k) ≡ 1 + x
      names_are k x a = (name_marked p (expression_wholes p) (instruction_wholes p) (code_names p) (homes p) tests.0 k x a).named

      bigger : (k i m : ℕ) → StandsIn p k i → Holds p i m → k < m
      bigger k i m s g =
          let a = g.written.part in
          let e : home p a ≡ 1 + k = homes_hold.operand i a g.written.of_instruction ∙ homes_hold.stands k i s in
          let w : home p g.expression ≡ 1 + k = home_within k i a g.expression e g.written.within in
          let le : home p g.expression ≤ m = homes_hold.larger m g.expression g.names in
          omega arith
