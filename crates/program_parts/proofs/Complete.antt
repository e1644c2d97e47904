-- Where `Parts` holds, so do the tests: well-formed words are never refused. Assumes nothing.
use mathlib.Core.Path.{◌≡◌, refl, ◌∙◌, ap, sym}
use mathlib.Core.Logic.{◌≢◌}
use mathlib.Core.Bool.{true, ◌&&◌, ◌||◌}
use mathlib.Core.List.{List}
use Prim.Native.Nat.{ℕ, zero, suc, ◌+◌, ◌≤◌, ◌<◌}
use native.Mathlib.Omega.{arith}
use native.Mathlib.Decide.{ℕ_discrete, dec_lt}
use lib.Dec.{eqb}
use lib.ListN.{length, replicate, length-replicate}
use borrow.Author.Tests.{eq-eqb, ne_eqb, lt-ltb, le-leb}
use Rattle.words.specs.Words.{pick, word, set_word}
use Rattle.words.proofs.Laws.{all_if, set_size}
use Rattle.tables.proofs.Bools.{or_where, eq_not}
use Rattle.tables.proofs.Walks.{walk_few, instruction_before, instruction_reaches}
use Rattle.tables.specs.declared.ExpressionEntry.{ExpressionEntry}
use Rattle.tables.specs.declared.InstructionEntry.{InstructionEntry}
use Rattle.tables.specs.Entries.{expression_at, instruction_at}
use Rattle.tables.specs.Fields.{expressions, instructions, codes, code_first, link, slot_walk, instruction_link, instruction_after, instruction_walk}
use Rattle.program_entries.specs.Form.{Entries}
use Rattle.program_marks.specs.Marks.{each_below, mark_slot, mark_slots, mark_parts, mark_expression, mark_expressions, mark_operands, mark_instruction, mark_instructions}
use Rattle.program_marks.specs.Marks.{mark_named, mark_name, mark_names, mark_first, mark_firsts, mark_next, mark_nexts, home_of, mark_home, mark_homes}
use Rattle.program_marks.specs.Marks.{expression_wholes, instruction_wholes, instruction_codes, code_names, homes}
use Rattle.program_parts.specs.Parts.{PartOf, PartOfInstruction, Within, WrittenIn, Names, StandsIn, StandsSomewhere, Parts}
use Rattle.program_parts.specs.Tests.{part_ok, slot_marked, slot_marked_at, slots_marked, code_ok, both_parts_ok, parts_marked, expression_marked_as, expression_marked, expressions_marked}
use Rattle.program_parts.specs.Tests.{operand_ok, operands_marked, stands_ok, instruction_marked_as, instruction_marked, instructions_marked, code_marked_as, code_marked, codes_marked, marks_ok, parts_ok}
use Rattle.program_parts.proofs.Truth.{clash, True, Marked, mark, true_set, marked_set, marked_here, each_true, each_size, Keeps, each_keeps, each_marks, none_true}
use Rattle.program_parts.proofs.Sound.{part_there, operand_there, expression_wholes_true, instruction_wholes_true, code_names_true, instruction_codes_true, stands_first, stands_next}

-- ---- Passes keep lengths and marks

positive : (x : ℕ) → 0 < 1 + x
positive x = omega arith

module _ (p : List ℕ) where
  slots_keep : (z w a : ℕ) → 0 < w → Keeps (mark_slot p z w) a
  unfolding mark_slot
  slots_keep z w a pw = record { size = λ j l. set_size l (slot_walk p z j) w; keeps = λ j l h. marked_set l (slot_walk p z j) w a pw h }

  parts_size : (x w : ℕ) (e : ExpressionEntry) (m : List ℕ) → length (mark_parts p x w e m) ≡ length m
  unfolding mark_parts mark_slots mark_slot
  parts_size x w (ExpressionEntry.Integer v) m = refl
  parts_size x w (ExpressionEntry.Literal k) m = refl
  parts_size x w (ExpressionEntry.FromSelf j n) m = refl
  parts_size x w (ExpressionEntry.FromProgram j n) m = refl
  parts_size x w (ExpressionEntry.Code k) m = refl
  parts_size x w (ExpressionEntry.Frame d) m = each_size (mark_slot p (link 1024 x d) w) 16 m (λ j l. set_size l (slot_walk p (link 1024 x d) j) w)
  parts_size x w (ExpressionEntry.Not a) m = set_size m (1 + a) w
  parts_size x w (ExpressionEntry.Operate o a b) m = set_size _ (1 + b) w ∙ set_size m (1 + a) w
  parts_size x w ExpressionEntry.Bad m = refl

  parts_keep : (x w a : ℕ) (e : ExpressionEntry) (m : List ℕ) → 0 < w → Marked m a → Marked (mark_parts p x w e m) a
  unfolding mark_parts mark_slots
  parts_keep x w a (ExpressionEntry.Integer v) m pw h = h
  parts_keep x w a (ExpressionEntry.Literal k) m pw h = h
  parts_keep x w a (ExpressionEntry.FromSelf j n) m pw h = h
  parts_keep x w a (ExpressionEntry.FromProgram j n) m pw h = h
  parts_keep x w a (ExpressionEntry.Code k) m pw h = h
  parts_keep x w a (ExpressionEntry.Frame d) m pw h = each_keeps (mark_slot p (link 1024 x d) w) 16 m a (slots_keep (link 1024 x d) w a pw) h
  parts_keep x w a (ExpressionEntry.Not b) m pw h = marked_set m (1 + b) w a pw h
  parts_keep x w a (ExpressionEntry.Operate o b c) m pw h = marked_set _ (1 + c) w a pw (marked_set m (1 + b) w a pw h)
  parts_keep x w a ExpressionEntry.Bad m pw h = h

  expression_keeps : (a : ℕ) → Keeps (mark_expression p) a
  unfolding mark_expression
  expression_keeps a =
      record { size = λ x l. parts_size x (1 + x) (expression_at p x) l; keeps = λ x l h. parts_keep x (1 + x) a (expression_at p x) l (positive x) h }

  operands_size : (w : ℕ) (e : InstructionEntry) (m : List ℕ) → length (mark_operands w e m) ≡ length m
  unfolding mark_operands
  operands_size w (InstructionEntry.AssignSelf j n a) m = set_size m (1 + a) w
  operands_size w (InstructionEntry.AssignProgram j n a) m = set_size m (1 + a) w
  operands_size w (InstructionEntry.Show a) m = set_size m (1 + a) w
  operands_size w (InstructionEntry.Jump a b) m = set_size _ (1 + b) w ∙ set_size m (1 + a) w
  operands_size w (InstructionEntry.Ifeq a b u) m = set_size _ (1 + u) w ∙ set_size _ (1 + b) w ∙ set_size m (1 + a) w
  operands_size w InstructionEntry.Bad m = refl

  operands_keep : (w a : ℕ) (e : InstructionEntry) (m : List ℕ) → 0 < w → Marked m a → Marked (mark_operands w e m) a
  unfolding mark_operands
  operands_keep w a (InstructionEntry.AssignSelf j n b) m pw h = marked_set m (1 + b) w a pw h
  operands_keep w a (InstructionEntry.AssignProgram j n b) m pw h = marked_set m (1 + b) w a pw h
  operands_keep w a (InstructionEntry.Show b) m pw h = marked_set m (1 + b) w a pw h
  operands_keep w a (InstructionEntry.Jump b c) m pw h = marked_set _ (1 + c) w a pw (marked_set m (1 + b) w a pw h)
  operands_keep w a (InstructionEntry.Ifeq b c u) m pw h = marked_set _ (1 + u) w a pw (marked_set _ (1 + c) w a pw (marked_set m (1 + b) w a pw h))
  operands_keep w a InstructionEntry.Bad m pw h = h

  instruction_keeps : (a : ℕ) → Keeps (mark_instruction p) a
  unfolding mark_instruction
  instruction_keeps a =
      record { size = λ i l. operands_size (1 + i) (instruction_at p i) l; keeps = λ i l h. operands_keep (1 + i) a (instruction_at p i) l (positive i) h }

  named_size : (w : ℕ) (e : ExpressionEntry) (m : List ℕ) → length (mark_named w e m) ≡ length m
  unfolding mark_named
  named_size w (ExpressionEntry.Integer v) m = refl
  named_size w (ExpressionEntry.Literal k) m = refl
  named_size w (ExpressionEntry.FromSelf j n) m = refl
  named_size w (ExpressionEntry.FromProgram j n) m = refl
  named_size w (ExpressionEntry.Code k) m = set_size m (1 + k) w
  named_size w (ExpressionEntry.Frame d) m = refl
  named_size w (ExpressionEntry.Not a) m = refl
  named_size w (ExpressionEntry.Operate o a b) m = refl
  named_size w ExpressionEntry.Bad m = refl

  named_keep : (w a : ℕ) (e : ExpressionEntry) (m : List ℕ) → 0 < w → Marked m a → Marked (mark_named w e m) a
  unfolding mark_named
  named_keep w a (ExpressionEntry.Integer v) m pw h = h
  named_keep w a (ExpressionEntry.Literal k) m pw h = h
  named_keep w a (ExpressionEntry.FromSelf j n) m pw h = h
  named_keep w a (ExpressionEntry.FromProgram j n) m pw h = h
  named_keep w a (ExpressionEntry.Code k) m pw h = marked_set m (1 + k) w a pw h
  named_keep w a (ExpressionEntry.Frame d) m pw h = h
  named_keep w a (ExpressionEntry.Not b) m pw h = h
  named_keep w a (ExpressionEntry.Operate o b c) m pw h = h
  named_keep w a ExpressionEntry.Bad m pw h = h

  name_keeps : (a : ℕ) → Keeps (mark_name p) a
  unfolding mark_name
  name_keeps a =
      record { size = λ x l. named_size (1 + x) (expression_at p x) l; keeps = λ x l h. named_keep (1 + x) a (expression_at p x) l (positive x) h }

  first_keeps : (a : ℕ) → Keeps (mark_first p) a
  unfolding mark_first
  first_keeps a = record { size = λ k l. set_size l (code_first p k) (1 + k); keeps = λ k l h. marked_set l (code_first p k) (1 + k) a (positive k) h }

-- ---- What is part of something is marked

module _ (p l : List ℕ) (E : Entries p l) where
  below : (a : ℕ) → a < expressions p → 1 + a < 1025
  below a lt = omega (arith, E.limits.expressions_most)

  -- turn x marks the parts of x, in an array that is long enough
  part_turn : (x a : ℕ) (m : List ℕ) → PartOf p x a → 1 + a < length m → Marked (mark_expression p x m) a
  unfolding mark_expression mark_parts mark_slots mark_slot
  part_turn x a m (PartOf.negated lt e) s = rw e (marked_here m (1 + a) (1 + x) a refl s (positive x))
  part_turn x a m (PartOf.left o g lt e) s = rw e (marked_set _ (1 + g) (1 + x) a (positive x) (marked_here m (1 + a) (1 + x) a refl s (positive x)))
  part_turn x a m (PartOf.right o g lt e) s = rw e (marked_here _ (1 + a) (1 + x) a refl (omega (arith, set_size m (1 + g) (1 + x))) (positive x))
  part_turn x a m (PartOf.slot d j lt e w) s =
      rw e (each_marks (mark_slot p (link 1024 x d) (1 + x)) 16 m a j (slots_keep p (link 1024 x d) (1 + x) a (positive x))
      (walk_few p (link 1024 x d) j a ((E.expression x lt).frame d e).most w)
      (λ k q. marked_here k (slot_walk p (link 1024 x d) j) (1 + x) a (omega arith) (omega arith) (positive x)))

  holder_there : (x a : ℕ) → PartOf p x a → x < expressions p
  holder_there x a (PartOf.negated lt e) = lt
  holder_there x a (PartOf.left o g lt e) = lt
  holder_there x a (PartOf.right o g lt e) = lt
  holder_there x a (PartOf.slot d j lt e w) = lt

  part_found : (x a : ℕ) → PartOf p x a → Marked (expression_wholes p) a
  unfolding expression_wholes mark_expressions
  part_found x a f =
      each_marks (mark_expression p) (expressions p) (replicate 1025 0) a x (expression_keeps p a) (holder_there x a f)
      (λ k q. part_turn x a k f (omega (arith, length-replicate {A = ℕ} 1025 0, below a (part_there p l E x a f))))

  operand_turn : (i a : ℕ) (m : List ℕ) → PartOfInstruction p i a → 1 + a < length m → Marked (mark_instruction p i m) a
  unfolding mark_instruction mark_operands
  operand_turn i a m (PartOfInstruction.assigned_self j n lt e) s = rw e (marked_here m (1 + a) (1 + i) a refl s (positive i))
  operand_turn i a m (PartOfInstruction.assigned_program j n lt e) s = rw e (marked_here m (1 + a) (1 + i) a refl s (positive i))
  operand_turn i a m (PartOfInstruction.shown lt e) s = rw e (marked_here m (1 + a) (1 + i) a refl s (positive i))
  operand_turn i a m (PartOfInstruction.jump_to g lt e) s = rw e (marked_set _ (1 + g) (1 + i) a (positive i) (marked_here m (1 + a) (1 + i) a refl s (positive i)))
  operand_turn i a m (PartOfInstruction.jump_with g lt e) s = rw e (marked_here _ (1 + a) (1 + i) a refl (omega (arith, set_size m (1 + g) (1 + i))) (positive i))
  operand_turn i a m (PartOfInstruction.ifeq_test g u lt e) s =
      rw e (marked_set _ (1 + u) (1 + i) a (positive i) (marked_set _ (1 + g) (1 + i) a (positive i) (marked_here m (1 + a) (1 + i) a refl s (positive i))))
  operand_turn i a m (PartOfInstruction.ifeq_to g u lt e) s =
      rw e (marked_set _ (1 + u) (1 + i) a (positive i) (marked_here _ (1 + a) (1 + i) a refl (omega (arith, set_size m (1 + g) (1 + i))) (positive i)))
  operand_turn i a m (PartOfInstruction.ifeq_with g u lt e) s =
      rw e (marked_here _ (1 + a) (1 + i) a refl (omega (arith, set_size m (1 + g) (1 + i), set_size (set_word m (1 + g) (1 + i)) (1 + u) (1 + i))) (positive i))

  user_there : (i a : ℕ) → PartOfInstruction p i a → i < instructions p
  user_there i a (PartOfInstruction.assigned_self j n lt e) = lt
  user_there i a (PartOfInstruction.assigned_program j n lt e) = lt
  user_there i a (PartOfInstruction.shown lt e) = lt
  user_there i a (PartOfInstruction.jump_to g lt e) = lt
  user_there i a (PartOfInstruction.jump_with g lt e) = lt
  user_there i a (PartOfInstruction.ifeq_test g u lt e) = lt
  user_there i a (PartOfInstruction.ifeq_to g u lt e) = lt
  user_there i a (PartOfInstruction.ifeq_with g u lt e) = lt

  operand_found : (i a : ℕ) → PartOfInstruction p i a → Marked (instruction_wholes p) a
  unfolding instruction_wholes mark_instructions
  operand_found i a f =
      each_marks (mark_instruction p) (instructions p) (replicate 1025 0) a i (instruction_keeps p a) (user_there i a f)
      (λ k q. operand_turn i a k f (omega (arith, length-replicate {A = ℕ} 1025 0, below a (operand_there p l E i a f))))

  name_turn : (k x : ℕ) (m : List ℕ) → Names p k x → 1 + k < length m → Marked (mark_name p x m) k
  unfolding mark_name mark_named
  name_turn k x m a s = rw a.is_code (marked_here m (1 + k) (1 + x) k refl s (positive x))

  name_found : (k x : ℕ) → Names p k x → Marked (code_names p) k
  unfolding code_names mark_names
  name_found k x a =
      each_marks (mark_name p) (expressions p) (replicate 129 0) k x (name_keeps p k) a.there
      (λ m q. name_turn k x m a (omega (arith, length-replicate {A = ℕ} 129 0, E.limits.codes_most, (E.expression x a.there).code k a.is_code)))

  -- ---- Every instruction is marked

  pub after_there : (i j : ℕ) → i < instructions p → instruction_after p i ≡ suc j → (j < instructions p) × (i < j)
  after_there i j lt e =
      let r = instruction_reaches p i j e in
      let s = r.some in
      let t = r.there in
      let ne : instruction_link p i ≢ 0 = λ z. nothing (instruction_link p i) s z in
      let q = (E.instruction i lt).link_there ne in
      (omega arith, omega arith)
    where
      nothing : (d : ℕ) → 0 < d → d ≡ 0 → ⊥
      nothing d a z = omega arith

  -- instruction i is the first of a code, or comes after one below n
  data Reached (n i : ℕ) : Type 0 where
    first : (k : ℕ) → k < codes p → code_first p k ≡ suc i → Reached n i
    next : (j : ℕ) → j < n → instruction_after p j ≡ suc i → Reached n i

  -- what stands in a code is reached, from one of a smaller number
  reached : (k i : ℕ) → StandsIn p k i → Reached i i
  unfolding instruction_walk
  reached k i s = go s.turns s.here
    where
      go : (t : ℕ) → instruction_walk p (code_first p k) t ≡ suc i → Reached i i
      go zero e = Reached.first k s.code_there e
      go (suc t) e =
          let b = instruction_before p (instruction_walk p (code_first p k) t) i e in
          let r = instruction_reaches p b.number i b.next in
          Reached.next b.number (omega (arith, r.some, r.there)) b.next

  below_code : (i : ℕ) → i < instructions p → 1 + i < 513
  below_code i lt = omega (arith, E.limits.instructions_most)

  nexts_size : (n : ℕ) (m : List ℕ) → length (each_below (mark_next p) n m) ≡ length m
  unfolding mark_next
  nexts_size n m = each_size (mark_next p) n m (λ i k. set_size k (instruction_after p i) (word k (1 + i)))

  -- one turn more
  next_turn : (b : List ℕ) (n : ℕ) → length b ≡ 513 → n < instructions p → ((i : ℕ) → i < instructions p → StandsSomewhere p i)
      → ((i : ℕ) → i < instructions p → Reached n i → Marked b i) → (i : ℕ) → i < instructions p → Reached (suc n) i
      → Marked (set_word b (instruction_after p n) (word b (1 + n))) i
  next_turn b n s nl st ih i lt r = go r
    where
      -- instruction n itself is marked by now
      here : 0 < word b (1 + n)
      here = let w = st n nl in (ih n nl (reached w.code n w.stands)).some

      keep : Marked b i → Marked (set_word b (instruction_after p n) (word b (1 + n))) i
      keep h = marked_set b (instruction_after p n) (word b (1 + n)) i here h

      at : (j : ℕ) → j < suc n → instruction_after p j ≡ suc i → Dec (j ≡ n) → Marked (set_word b (instruction_after p n) (word b (1 + n))) i
      at j jl e (yes q) =
          let v : instruction_after p n ≡ suc i = ap (instruction_after p) (sym q) ∙ e in
          marked_here b (instruction_after p n) (word b (1 + n)) i (omega arith) (omega (arith, below_code i lt)) here
      at j jl e (no q) = keep (ih i lt (Reached.next j (omega arith) e))

      go : Reached (suc n) i → Marked (set_word b (instruction_after p n) (word b (1 + n))) i
      go (Reached.first k kl e) = keep (ih i lt (Reached.first k kl e))
      go (Reached.next j jl e) = at j jl e (ℕ_discrete j n)

  -- all that is reached from below n is marked after n turns
  nexts_marked : (m : List ℕ) → length m ≡ 513 → ((k i : ℕ) → k < codes p → i < instructions p → code_first p k ≡ suc i → Marked m i)
      → ((i : ℕ) → i < instructions p → StandsSomewhere p i) → (n : ℕ) → n ≤ instructions p → (i : ℕ) → i < instructions p → Reached n i → Marked (each_below (mark_next p) n m) i
  unfolding each_below mark_next
  nexts_marked m s f st zero nl i lt (Reached.first k kl e) = f k i kl lt e
  nexts_marked m s f st zero nl i lt (Reached.next j jl e) = absurd (omega arith)
  nexts_marked m s f st (suc n) nl i lt r =
      next_turn (each_below (mark_next p) n m) n (nexts_size n m ∙ s) (omega arith) st (λ j jl u. nexts_marked m s f st n (omega arith) j jl u) i lt r

  firsts_size : (m : List ℕ) → length (mark_firsts p m) ≡ length m
  unfolding mark_firsts
  firsts_size m = each_size (mark_first p) (codes p) m (first_keeps p 0).size

  first_found : (k i : ℕ) → k < codes p → i < instructions p → code_first p k ≡ suc i → Marked (mark_firsts p (replicate 513 0)) i
  unfolding mark_firsts mark_first
  first_found k i kl il e =
      each_marks (mark_first p) (codes p) (replicate 513 0) i k (first_keeps p i) kl
      (λ m q. marked_here m (code_first p k) (1 + k) i (omega arith) (omega (arith, length-replicate {A = ℕ} 513 0, below_code i il)) (positive k))

  code_found : ((i : ℕ) → i < instructions p → StandsSomewhere p i) → (i : ℕ) → i < instructions p → Marked (instruction_codes p) i
  unfolding instruction_codes mark_nexts
  code_found st i lt =
      let w = st i lt in
      nexts_marked (mark_firsts p (replicate 513 0)) (firsts_size (replicate 513 0) ∙ length-replicate {A = ℕ} 513 0) first_found st (instructions p) (omega arith) i lt
      (later (reached w.code i w.stands))
    where
      later : Reached i i → Reached (instructions p) i
      later (Reached.first k kl e) = Reached.first k kl e
      later (Reached.next j jl e) = Reached.next j (omega arith) e

-- ---- Homes are true

-- expression x is written in an instruction that stands in code k
pub record HomeIn (p : List ℕ) (x k : ℕ) : Type 0 where
  pub instruction : ℕ
  pub stands : StandsIn p k instruction
  pub written : WrittenIn p instruction x

module _ (p : List ℕ) where
  home_true : (h : List ℕ) (x : ℕ) → True (HomeIn p) h → True (HomeIn p) (mark_home (expression_wholes p) (instruction_wholes p) (instruction_codes p) x h)
  unfolding mark_home home_of
  home_true h x u = true_set h (1 + x) _ (HomeIn p) u (λ a k q v. found a k (omega arith) (word (expression_wholes p) (1 + x)) refl (word (instruction_wholes p) (1 + x)) refl v)
    where
      plus : (w : ℕ) → suc w ≡ 1 + w
      plus w = omega arith

      found : (a k : ℕ) → a ≡ x → (w : ℕ) → word (expression_wholes p) (1 + x) ≡ w → (v : ℕ) → word (instruction_wholes p) (1 + x) ≡ v
          → pick (eqb w 0) (pick (eqb v 0) 0 (word (instruction_codes p) v)) (word h w) ≡ 1 + k → HomeIn p a k
      found a k e zero ew zero ev t = absurd (omega arith)
      found a k e zero ew (suc i) ev t =
          let c : word (instruction_codes p) (1 + i) ≡ 1 + k = ap (word (instruction_codes p)) (sym (plus i)) ∙ rw (ne_eqb (suc i) 0 (omega arith)) at t in
          let f : PartOfInstruction p i x = (instruction_wholes_true p).tells x i (ev ∙ plus i) in
          rw e (record { instruction = i; stands = (instruction_codes_true p).tells i k c; written = record { part = x; of_instruction = f; within = Within.itself } })
      found a k e (suc y) ew v ev t =
          let c : word h (1 + y) ≡ 1 + k = ap (word h) (sym (plus y)) ∙ rw (ne_eqb (suc y) 0 (omega arith)) at t in
          let f : PartOf p y x = (expression_wholes_true p).tells x y (ew ∙ plus y) in
          let g = u.tells y k c in
          rw e (record { instruction = g.instruction; stands = g.stands; written = record { part = g.written.part; of_instruction = g.written.of_instruction; within = Within.deeper y x g.written.within f } })

  homes_true : True (HomeIn p) (homes p)
  unfolding homes mark_homes
  homes_true = each_true (HomeIn p) _ (expressions p) (replicate 1025 0) (λ x l lt u. home_true l x u) (none_true (HomeIn p) 1025)

-- ---- The tests hold

module _ (p l : List ℕ) (E : Entries p l) (P : Parts p) where
  -- a marked cell whose mark can only be one number
  only : (T : ℕ → ℕ → Type 0) (m : List ℕ) (a x : ℕ) → True T m → Marked m a → ((w : ℕ) → T a w → w ≡ x) → word m (1 + a) ≡ 1 + x
  only T m a x u h f = let e = mark m a h in e ∙ ap (λ (w : ℕ). 1 + w) (f _ (u.tells a _ e))

  -- a cell that cannot be marked
  never : (T : ℕ → ℕ → Type 0) (m : List ℕ) (a : ℕ) → True T m → ((w : ℕ) → T a w → ⊥) → word m (1 + a) ≡ 0
  never T m a u f = go (dec_lt 0 (word m (1 + a)))
    where
      go : Dec (0 < word m (1 + a)) → word m (1 + a) ≡ 0
      go (yes lt) = absurd (f _ (u.tells a _ (mark m a (record { some = lt }))))
      go (no ge) = omega arith

  whole_is : (x a : ℕ) → PartOf p x a → word (expression_wholes p) (1 + a) ≡ 1 + x
  whole_is x a f = only (λ b w. PartOf p w b) (expression_wholes p) a x (expression_wholes_true p) (part_found p l E x a f) (λ w g. P.one_expression w x a g f)

  no_user : (x a : ℕ) → PartOf p x a → word (instruction_wholes p) (1 + a) ≡ 0
  no_user x a f = never (λ b w. PartOfInstruction p w b) (instruction_wholes p) a (instruction_wholes_true p) (λ i g. P.never_both x i a f g)

  user_is : (i a : ℕ) → PartOfInstruction p i a → word (instruction_wholes p) (1 + a) ≡ 1 + i
  user_is i a f = only (λ b w. PartOfInstruction p w b) (instruction_wholes p) a i (instruction_wholes_true p) (operand_found p l E i a f) (λ w g. P.one_instruction w i a g f)

  no_whole : (i a : ℕ) → PartOfInstruction p i a → word (expression_wholes p) (1 + a) ≡ 0
  no_whole i a f = never (λ b w. PartOf p w b) (expression_wholes p) a (expression_wholes_true p) (λ x g. P.never_both x i a g f)

  code_is : (k i : ℕ) → i < instructions p → StandsIn p k i → word (instruction_codes p) (1 + i) ≡ 1 + k
  code_is k i lt s = only (λ j w. StandsIn p w j) (instruction_codes p) i k (instruction_codes_true p) (code_found p l E P.stands i lt) (λ w g. P.one_code w k i g s)

  name_is : (k x : ℕ) → Names p k x → word (code_names p) (1 + k) ≡ 1 + x
  name_is k x a = only (Names p) (code_names p) k x (code_names_true p) (name_found p l E k x a) (λ w g. P.one_name k w x g a)

  home_below : (k x : ℕ) → Names p k x → word (homes p) (1 + x) ≤ k
  home_below k x a = go (word (homes p) (1 + x)) refl
    where
      go : (w : ℕ) → word (homes p) (1 + x) ≡ w → word (homes p) (1 + x) ≤ k
      go zero e = omega arith
      go (suc w) e =
          let g = (homes_true p).tells x w (omega arith) in
          let lt = P.larger_codes w g.instruction k g.stands (record { expression = x; written = g.written; names = a }) in
          omega arith

  part_back : (x a : ℕ) → PartOf p x a → part_ok (expression_wholes p) (instruction_wholes p) x (1 + x) a ≡ true
  unfolding part_ok
  part_back x a f = rw (lt-ltb x a (P.larger x a f), eq-eqb _ _ (whole_is x a f), eq-eqb _ _ (no_user x a f))

  slots_back : (x d : ℕ) → x < expressions p → expression_at p x ≡ ExpressionEntry.Frame d → slots_marked p (expression_wholes p) (instruction_wholes p) (1 + x) (link 1024 x d) ≡ true
  unfolding slots_marked slot_marked_at slot_marked
  slots_back x d lt e = all_if (slot_marked_at p (expression_wholes p) (instruction_wholes p) (1 + x) (link 1024 x d)) 16 (λ j jl. at j (slot_walk p (link 1024 x d) j) refl)
    where
      plus : (w : ℕ) → suc w ≡ 1 + w
      plus w = omega arith

      at : (j z : ℕ) → slot_walk p (link 1024 x d) j ≡ z → slot_marked (expression_wholes p) (instruction_wholes p) (1 + x) z ≡ true
      at j zero q = refl
      at j (suc a) q =
          let f : PartOf p x a = PartOf.slot d j lt e q in
          or_where (eqb (suc a) 0) (eqb (word (expression_wholes p) (suc a)) (1 + x) && eqb (word (instruction_wholes p) (suc a)) 0)
          (λ ne. rw (plus a, eq-eqb _ _ (whole_is x a f), eq-eqb _ _ (no_user x a f)))

  expression_back : (x : ℕ) → x < expressions p → (e : ExpressionEntry) → expression_at p x ≡ e
      → parts_marked p (expression_wholes p) (instruction_wholes p) (code_names p) (homes p) x (1 + x) e ≡ true
  unfolding parts_marked code_ok both_parts_ok
  expression_back x lt (ExpressionEntry.Integer v) e = refl
  expression_back x lt (ExpressionEntry.Literal k) e = refl
  expression_back x lt (ExpressionEntry.FromSelf j n) e = refl
  expression_back x lt (ExpressionEntry.FromProgram j n) e = refl
  expression_back x lt (ExpressionEntry.Code k) e =
      let a : Names p k x = record { there = lt; is_code = e } in
      rw (eq-eqb _ _ (name_is k x a), le-leb _ _ (home_below k x a))
  expression_back x lt (ExpressionEntry.Frame d) e = slots_back x d lt e
  expression_back x lt (ExpressionEntry.Not a) e = part_back x a (PartOf.negated lt e)
  expression_back x lt (ExpressionEntry.Operate o a b) e = rw (part_back x a (PartOf.left o b lt e), part_back x b (PartOf.right o a lt e))
  expression_back x lt ExpressionEntry.Bad e = refl

  operand_back : (i a : ℕ) → PartOfInstruction p i a → operand_ok (expression_wholes p) (instruction_wholes p) (1 + i) a ≡ true
  unfolding operand_ok
  operand_back i a f = rw (eq-eqb _ _ (user_is i a f), eq-eqb _ _ (no_whole i a f))

  operands_back : (i : ℕ) → i < instructions p → (e : InstructionEntry) → instruction_at p i ≡ e
      → operands_marked (expression_wholes p) (instruction_wholes p) (1 + i) e ≡ true
  unfolding operands_marked
  operands_back i lt (InstructionEntry.AssignSelf j n a) e = operand_back i a (PartOfInstruction.assigned_self j n lt e)
  operands_back i lt (InstructionEntry.AssignProgram j n a) e = operand_back i a (PartOfInstruction.assigned_program j n lt e)
  operands_back i lt (InstructionEntry.Show a) e = operand_back i a (PartOfInstruction.shown lt e)
  operands_back i lt (InstructionEntry.Jump a b) e = rw (operand_back i a (PartOfInstruction.jump_to b lt e), operand_back i b (PartOfInstruction.jump_with a lt e))
  operands_back i lt (InstructionEntry.Ifeq a b u) e =
      rw (operand_back i a (PartOfInstruction.ifeq_test b u lt e), operand_back i b (PartOfInstruction.ifeq_to a u lt e), operand_back i u (PartOfInstruction.ifeq_with a b lt e))
  operands_back i lt InstructionEntry.Bad e = refl

  stands_back : (i : ℕ) → i < instructions p → stands_ok p (instruction_codes p) i ≡ true
  unfolding stands_ok
  stands_back i lt =
      rw (eq_not (word (instruction_codes p) (1 + i)) 0 (λ z. clash _ (P.stands i lt).code (code_is (P.stands i lt).code i lt (P.stands i lt).stands) z))
      (or_where (eqb (instruction_after p i) 0) (eqb (word (instruction_codes p) (instruction_after p i)) (word (instruction_codes p) (1 + i))) (λ ne. at (instruction_after p i) refl ne))
    where
      at : (z : ℕ) → instruction_after p i ≡ z → (eqb (instruction_after p i) 0 ≡ true → ⊥) → eqb (word (instruction_codes p) (instruction_after p i)) (word (instruction_codes p) (1 + i)) ≡ true
      at zero e ne = absurd (ne (eq-eqb _ _ e))
      at (suc j) e ne =
          let s = (P.stands i lt).stands in
          let v : instruction_after p i ≡ 1 + j = omega arith in
          let jl = (after_there p l E i j lt e).0 in
          eq-eqb _ _ (ap (word (instruction_codes p)) v ∙ code_is _ j jl (stands_next p _ i j s e) ∙ sym (code_is _ i lt s))

  code_back : (k : ℕ) → k < codes p → code_marked p (instruction_codes p) (code_names p) k ≡ true
  unfolding code_marked code_marked_as
  code_back k lt =
      let m = P.named k lt in
      rw (eq_not (word (code_names p) (1 + k)) 0 (λ z. clash _ m.expression (name_is k m.expression m.names) z), first)
    where
      at : (z : ℕ) → code_first p k ≡ z → (eqb (code_first p k) 0 ≡ true → ⊥) → eqb (word (instruction_codes p) (code_first p k)) (1 + k) ≡ true
      at zero e ne = absurd (ne (eq-eqb _ _ e))
      at (suc i) e ne =
          let v : code_first p k ≡ 1 + i = omega arith in
          eq-eqb _ _ (ap (word (instruction_codes p)) v ∙ code_is k i (E.code_first_there k i lt e) (stands_first p k i lt e))

      first : (eqb (code_first p k) 0 || eqb (word (instruction_codes p) (code_first p k)) (1 + k)) ≡ true
      first = or_where (eqb (code_first p k) 0) (eqb (word (instruction_codes p) (code_first p k)) (1 + k)) (λ ne. at (code_first p k) refl ne)

  pub parts_back : parts_ok p ≡ true
  unfolding parts_ok marks_ok expressions_marked expression_marked expression_marked_as instructions_marked instruction_marked instruction_marked_as codes_marked
  parts_back =
      let x : expressions_marked p (expression_wholes p) (instruction_wholes p) (code_names p) (homes p) ≡ true = all_if (expression_marked p (expression_wholes p) (instruction_wholes p) (code_names p) (homes p)) (expressions p) (λ x lt. expression_back x lt (expression_at p x) refl) in
      let i : instructions_marked p (expression_wholes p) (instruction_wholes p) (instruction_codes p) ≡ true = all_if (instruction_marked p (expression_wholes p) (instruction_wholes p) (instruction_codes p)) (instructions p) (λ i lt. rw (operands_back i lt (instruction_at p i) refl, stands_back i lt)) in
      let k : codes_marked p (instruction_codes p) (code_names p) ≡ true = all_if (code_marked p (instruction_codes p) (code_names p)) (codes p) (λ k lt. code_back k lt) in
      rw (x, i, k)
