-- The program of well-formed words fits: by levels, from larger expression numbers to smaller ones, and from later instructions to earlier ones. Assumes nothing.
use mathlib.Core.Path.{◌≡◌, refl, ◌∙◌, ap, sym, subst}
use mathlib.Core.Bool.{true, false}
use mathlib.Core.Logic.{⊎_elim}
use mathlib.Core.List.{List, [], Memᴰ}
use Prim.Native.Nat.{ℕ, zero, suc, pred, ◌+◌, ◌^◌, ◌≤◌, ◌<◌}
use native.Mathlib.Omega.{arith}
use native.Mathlib.Decide.{dec_lt}
use lib.Signed.{mag}
use lib.ListN.{length, get_or, get_or-eq_default}
use borrow.Author.Tests.{lt-ltb, ne_eqb}
use mir.Syntax.{w32}
use mir.Val.{SFits, to_z}
use Rattle.ints.specs.Ints.{int_of}
use Rattle.ints.proofs.Laws.{int_fits}
use Rattle.framed.specs.Common.{any, member}
use Rattle.framed.specs.Bytes.{string_byte}
use Rattle.framed.specs.Tokens.{in_range}
use Rattle.framed.specs.Tree.{Slots, Code}
use Rattle.framed.specs.Paths.{Path, names_of}
use Rattle.framed.specs.Meaning.{slot_names}
use Rattle.framed.specs.Program.{Program}
use Rattle.framed.specs.Machine.{following, first_of}
use Rattle.tables.specs.declared.ExpressionEntry.{ExpressionEntry}
use Rattle.tables.specs.declared.InstructionEntry.{InstructionEntry}
use Rattle.tables.specs.Entries.{expression_at, instruction_at}
use Rattle.tables.specs.Fields.{names, literals, codes, expressions, instructions, path_names, literal_byte, literal_length, link, slot_name, slot_after, slot_walk, follow_slot, instruction_after}
use Rattle.tables.proofs.Walks.{walk_suc, slots_larger}
use Rattle.program_entries.specs.Form.{Entries, SlotList}
use Rattle.program_form.specs.WellFormed.{WellFormed}
use Rattle.program_form.specs.Sound.{SlotPlace, Sound}
use Rattle.program_form.proofs.Decides.{sound}
use Rattle.trees.specs.Trees.{base_tree, expression_tree, instruction_tree, path_list}
use Rattle.trees.specs.Held.{base_held, expression_held, slots_held, instruction_held, remaining, held, list_from, literal_bytes, program_held, OneLevel}
use Rattle.trees.proofs.Held.{list_get, list_length, instructions_are, one_level_held}
use Rattle.places.specs.Places.{first_place}
use Rattle.places.proofs.Codes.{code_at, place_begins, place_small, after_small}
use Rattle.wellformed.specs.WellFormed.{limits}
use Rattle.bounded.specs.Fits.{NamesFit, BaseFits, ExpressionFits, SlotsFit, InstructionFits, CodeFits, StringBytes}
use Rattle.word_store.specs.Form.{LimitsOf}
use Rattle.program_fits.specs.ProgramFits.{WellFormedFits}

module _ (p l : List ℕ) (w : WellFormed p l) where
  E : Entries p l
  E = w.entries

  G : Sound p
  G = sound p l w

  O : OneLevel p l
  O = one_level_held p l w

  abbrev q : Program
  q = program_held p l

  -- the limits have the numbers of the program
  limits_of : LimitsOf (limits p) q
  unfolding limits program_held list_from
  limits_of = record {
    names = sym (list_length _ (names p) 0);
    literals = sym (list_length _ (literals p) 0);
    codes = sym (list_length _ (codes p) 0);
    instructions = sym (instructions_are p l);
  }

  names_are : length q.names ≡ names p
  unfolding program_held list_from
  names_are = list_length _ (names p) 0

  literals_are : length q.literals ≡ literals p
  unfolding program_held list_from
  literals_are = list_length _ (literals p) 0

  codes_are : length q.codes ≡ codes p
  unfolding program_held list_from
  codes_are = list_length _ (codes p) 0

  -- ---- Bases

  integer_fits : (k : ℕ) → in_range (to_z w32 k) ≡ true
  unfolding int_of
  integer_fits k = let f : SFits w32 (to_z w32 k) = int_fits k in lt-ltb (mag (to_z w32 k)) (2 ^ 31) f.sfits

  base_by : (x : ℕ) → x < expressions p → (v : ExpressionEntry) → expression_at p x ≡ v → BaseFits q (base_tree (held p) p v)
  unfolding base_tree
  base_by x lt (ExpressionEntry.Integer k) e = integer_fits k
  base_by x lt (ExpressionEntry.Literal k) e = rw literals_are ((E.expression x lt).literal k e)
  base_by x lt (ExpressionEntry.FromSelf j n) e = tt
  base_by x lt (ExpressionEntry.FromProgram j n) e = tt
  base_by x lt (ExpressionEntry.Code k) e = rw codes_are ((E.expression x lt).code k e)
  base_by x lt (ExpressionEntry.Frame d) e = refl
  base_by x lt (ExpressionEntry.Not a) e = refl
  base_by x lt (ExpressionEntry.Operate o a c) e = refl
  base_by x lt ExpressionEntry.Bad e = refl

  base_fits : (x : ℕ) → x < expressions p → BaseFits q (base_held p x)
  base_fits x lt = subst (BaseFits q) (sym (O.base x lt)) (base_by x lt (expression_at p x) refl)

  -- ---- Slots, along the walk from a place on; m more slots at most

  module _ (z : ℕ) (S : SlotList p z) where
    abbrev at : ℕ → Slots Path
    at j = slots_held p (slot_walk p z j)

    -- the place at turn j is a slot: it is the first, and the rest are those at the next turn
    module _ (j y : ℕ) (s : SlotPlace p (slot_walk p z j)) (e : slot_walk p z j ≡ suc y) where
      here : SlotPlace p (suc y)
      here = subst (SlotPlace p) e s

      next : slot_after p y ≡ slot_walk p z (suc j)
      unfolding follow_slot
      next = sym (walk_suc p z j ∙ ap (follow_slot p) e)

      opened : at j ≡ Slots.slot (slot_name p y) (expression_held p y) (at (suc j))
      opened = ap (slots_held p) e ∙ O.slot y here ∙ ap (λ (k : ℕ). Slots.slot (slot_name p y) (expression_held p y) (slots_held p k)) next

      next_place : SlotPlace p (slot_walk p z (suc j))
      next_place = subst (SlotPlace p) next (SlotPlace.after y here)

    closed : (j : ℕ) → slot_walk p z j ≡ 0 → at j ≡ Slots.no_slots
    closed j e = ap (slots_held p) e ∙ O.no_slots

    -- after 16 turns there is no slot
    over : (j y : ℕ) → 0 + j ≡ 16 → slot_walk p z j ≡ suc y → ⊥
    over j y a is = let n : 0 ≡ suc y = sym S.most ∙ ap (slot_walk p z) {x = 16} {y = j} (omega arith) ∙ is in omega arith

    few : (m j y : ℕ) → slot_walk p z j ≡ y → m + j ≡ 16 → SlotPlace p (slot_walk p z j) → length (slot_names (at j)) ≤ m
    unfolding slot_names
    few zero j zero is a s = rw (closed j is) (omega arith)
    few zero j (suc y) is a s = absurd (over j y a is)
    few (suc m) j zero is a s = rw (closed j is) (omega arith)
    few (suc m) j (suc y) is a s =
        let r = few m (suc j) (slot_walk p z (suc j)) refl (omega arith) (next_place j y s is) in
        rw (opened j y s is) (omega arith)

    -- a name of a slot before them is none of theirs
    not_member : (m j y i x : ℕ) → slot_walk p z j ≡ y → m + j ≡ 16 → SlotPlace p (slot_walk p z j) → i < j → slot_walk p z i ≡ suc x →
        member (slot_name p x) (slot_names (at j)) ≡ false
    unfolding slot_names member any
    not_member zero j zero i x is a s lt e = rw (closed j is)
    not_member zero j (suc y) i x is a s lt e = absurd (over j y a is)
    not_member (suc m) j zero i x is a s lt e = rw (closed j is)
    not_member (suc m) j (suc y) i x is a s lt e =
        let r = not_member m (suc j) (slot_walk p z (suc j)) i x refl (omega arith) (next_place j y s is) (omega arith) e in
        rw (opened j y s is, ne_eqb (slot_name p x) (slot_name p y) (S.distinct i j x y lt e is), r)

    -- where their expressions fit
    module _ (each : (j y : ℕ) → slot_walk p z j ≡ suc y → ExpressionFits q (expression_held p y)) where
      slots_fit : (m j y : ℕ) → slot_walk p z j ≡ y → m + j ≡ 16 → SlotPlace p (slot_walk p z j) → SlotsFit q (at j)
      slots_fit zero j zero is a s = rw (closed j is) tt
      slots_fit zero j (suc y) is a s = absurd (over j y a is)
      slots_fit (suc m) j zero is a s = rw (closed j is) tt
      slots_fit (suc m) j (suc y) is a s =
          let r = slots_fit m (suc j) (slot_walk p z (suc j)) refl (omega arith) (next_place j y s is) in
          let n = not_member m (suc j) (slot_walk p z (suc j)) j y refl (omega arith) (next_place j y s is) (omega arith) is in
          subst (SlotsFit q) (sym (opened j y s is)) (rw names_are (S.each j y is).named, n, each j y is, r)

  -- ---- Expressions

  expression_by : (x : ℕ) → x < expressions p → ((y : ℕ) → x < y → y < expressions p → ExpressionFits q (expression_held p y)) →
      (v : ExpressionEntry) → expression_at p x ≡ v → ExpressionFits q (expression_tree (held p) p x v)
  unfolding expression_tree slot_walk
  expression_by x lt r (ExpressionEntry.Integer k) e = integer_fits k
  expression_by x lt r (ExpressionEntry.Literal k) e = rw literals_are ((E.expression x lt).literal k e)
  expression_by x lt r (ExpressionEntry.FromSelf j n) e = tt
  expression_by x lt r (ExpressionEntry.FromProgram j n) e = tt
  expression_by x lt r (ExpressionEntry.Code k) e = rw codes_are ((E.expression x lt).code k e)
  expression_by x lt r (ExpressionEntry.Frame d) e =
      let z = link 1024 x d in
      let S = (E.expression x lt).frame d e in
      let s = SlotPlace.of_frame x d lt e in
      (few z S 16 0 z refl refl s, slots_fit z S (λ j y is. r y (slots_larger p x d j y is) (S.each j y is).there) 16 0 z refl refl s)
  expression_by x lt r (ExpressionEntry.Not a) e = base_fits a ((E.expression x lt).negated a e).there
  expression_by x lt r (ExpressionEntry.Operate o a c) e = (base_fits a ((E.expression x lt).left o a c e).there, base_fits c ((E.expression x lt).right o a c e).there)
  expression_by x lt r ExpressionEntry.Bad e = refl

  expression_fits : (n x : ℕ) → x < expressions p → expressions p ≤ x + n → ExpressionFits q (expression_held p x)
  expression_fits zero x lt le = absurd (omega arith)
  expression_fits (suc n) x lt le =
      subst (ExpressionFits q) (sym (O.expression x lt))
      (expression_by x lt (λ y gt there. expression_fits n y there (omega arith)) (expression_at p x) refl)

  fits_all : (x : ℕ) → x < expressions p → ExpressionFits q (expression_held p x)
  fits_all x lt = expression_fits (expressions p) x lt (omega arith)

  -- ---- Instructions and codes

  names_fit : (n j : ℕ) → j + n ≤ path_names p → NamesFit q (path_list p n j)
  unfolding path_list NamesFit
  names_fit zero j le k m = absurd (mathlib.Core.List.Memᴰ.not-nil m)
  names_fit (suc n) j le k m =
      let there = E.texts.path_name_there j (omega arith) in
      ⊎_elim (λ e. let n = names_are in omega arith) (λ t. names_fit n (j + 1) (omega arith) k t) (mathlib.Core.List.Memᴰ.cases_cons m)

  instruction_by : (i : ℕ) → i < instructions p → (v : InstructionEntry) → instruction_at p i ≡ v → InstructionFits q (instruction_tree (held p) p v)
  unfolding instruction_tree names_of
  instruction_by i lt (InstructionEntry.AssignSelf j n a) e = (names_fit n j ((E.instruction i lt).self_path j n a e), fits_all a ((E.instruction i lt).self_there j n a e))
  instruction_by i lt (InstructionEntry.AssignProgram j n a) e = (names_fit n j ((E.instruction i lt).program_path j n a e), fits_all a ((E.instruction i lt).program_there j n a e))
  instruction_by i lt (InstructionEntry.Show a) e = base_fits a ((E.instruction i lt).shown a e).there
  instruction_by i lt (InstructionEntry.Jump a c) e = (base_fits a ((E.instruction i lt).jump_to a c e).there, base_fits c ((E.instruction i lt).jump_with a c e).there)
  instruction_by i lt (InstructionEntry.Ifeq a c d) e =
      (base_fits a ((E.instruction i lt).ifeq_test a c d e).there, base_fits c ((E.instruction i lt).ifeq_to a c d e).there, base_fits d ((E.instruction i lt).ifeq_with a c d e).there)
  instruction_by i lt InstructionEntry.Bad e = refl

  instruction_fits : (i : ℕ) → i < instructions p → InstructionFits q (instruction_held p i)
  instruction_fits i lt = subst (InstructionFits q) (sym (O.instruction i lt)) (instruction_by i lt (instruction_at p i) refl)

  -- what remains from a place on, n instructions at most
  code_fits : (n z : ℕ) → z ≤ instructions p → instructions p < z + n → CodeFits q (remaining p z)
  code_fits zero zero le lt = subst (CodeFits q) (sym O.finished) tt
  code_fits zero (suc i) le lt = absurd (omega arith)
  code_fits (suc n) zero le lt = subst (CodeFits q) (sym O.finished) tt
  code_fits (suc n) (suc i) le lt =
      subst (CodeFits q) (sym (O.next i (omega arith)))
      (instruction_fits i (omega arith), rest (λ z a b. code_fits n z a b) (instruction_after p i) refl)
    where
      rest : ((z : ℕ) → z ≤ instructions p → instructions p < z + n → CodeFits q (remaining p z)) → (z : ℕ) → instruction_after p i ≡ z → CodeFits q (remaining p z)
      rest r zero e = subst (CodeFits q) (sym O.finished) tt
      rest r (suc j) e =
          let a = G.next_there i j (omega arith) e in
          let b = G.next_larger i j e in
          r (suc j) (omega arith) (omega arith)

  remaining_fits : (i : ℕ) → i ≤ instructions p → CodeFits q (remaining p i)
  remaining_fits i le = code_fits (suc (instructions p)) i le (omega arith)

  -- ---- The numbers of instructions: 0, or that of one that is there

  firsts_fit : (k : ℕ) → first_of q k ≤ length q.instructions
  firsts_fit k = rw (instructions_are p l, ← place_begins p l w k) (place_small p l w k)

  nexts_fit : (n : ℕ) → following q n ≤ length q.instructions
  unfolding following program_held
  nexts_fit n = rw (instructions_are p l) (go (dec_lt (pred n) (instructions p)))
    where
      go : Dec (pred n < instructions p) → get_or (list_from (instruction_after p) (instructions p) 0) (pred n) 0 ≤ instructions p
      go (yes lt) = rw (list_get (instruction_after p) 0 (instructions p) 0 (pred n) lt) (after_small p l w (0 + pred n) (omega arith))
      go (no ge) = rw (get_or-eq_default (list_from (instruction_after p) (instructions p) 0) 0 {n = pred n} (let e = list_length (instruction_after p) (instructions p) 0 in omega arith)) (omega arith)

  -- ---- Literals

  -- what every value of a function has, every member of its list has
  all_from : (P : ℕ → Type 0) (f : ℕ → ℕ) (n i b : ℕ) → ((k : ℕ) → k < i + n → P (f k)) → Memᴰ b (list_from f n i) → P b
  unfolding list_from
  all_from P f zero i b each m = absurd (mathlib.Core.List.Memᴰ.not-nil m)
  all_from P f (suc n) i b each m =
      ⊎_elim (λ e. subst P (sym e) (each i (omega arith))) (λ t. all_from P f n (i + 1) b (λ k lt. each k (omega arith)) t) (mathlib.Core.List.Memᴰ.cases_cons m)

  literal_fits : (k : ℕ) → StringBytes (get_or q.literals k [])
  unfolding StringBytes literal_bytes
  literal_fits k = go (dec_lt k (literals p))
    where
      go : Dec (k < literals p) → (b : ℕ) → Memᴰ b (get_or q.literals k []) → string_byte b ≡ true
      go (yes lt) b m = there (subst (Memᴰ b) (O.literal k lt) m)
        where
          there : Memᴰ b (literal_bytes p l k) → string_byte b ≡ true
          there i = all_from (λ c. string_byte c ≡ true) (literal_byte l k) (literal_length p k) 0 b (λ j small. (E.texts.literal k lt).bytes j (omega arith)) i
      go (no ge) b m = none (subst (Memᴰ b) (get_or-eq_default q.literals [] (let e = literals_are in omega arith)) m)
        where
          none : Memᴰ b [] → string_byte b ≡ true
          none i = absurd (mathlib.Core.List.Memᴰ.not-nil i)

  code_fits_at : (k : ℕ) → CodeFits q (get_or q.codes k Code.finished)
  code_fits_at k = subst (CodeFits q) (code_at p l w k) (remaining_fits (first_place p k) (place_small p l w k))

pub well_formed_fits : WellFormedFits
well_formed_fits p l w = record {
  program = record { literals = literal_fits p l w; codes = code_fits_at p l w; firsts = firsts_fit p l w; nexts = nexts_fit p l w };
  remaining = remaining_fits p l w;
  limits = limits_of p l w;
}
