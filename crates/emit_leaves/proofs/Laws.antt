-- Laws of the leaves, one for each way through each function. Assumes nothing.
use mathlib.Core.Path.{◌≡◌, refl, sym, ap, ◌∙◌}
use mathlib.Core.Bool.{Bool, true, false}
use mathlib.Core.List.{List, [], ◌∷◌}
use Prim.Native.Nat.{ℕ, suc, ◌+◌, ◌*◌, ◌-◌, ◌<◌, ◌≤◌}
use native.Mathlib.Omega.{arith}
use native.Mathlib.Numerals.{add-one}
use lib.IntN.{ℤ, pos, negsuc}
use lib.Dec.{ltb, leb}
use lib.ListN.{length}
use borrow.Author.Tests.{eq-eqb, ne_eqb, ltb-true, ltb-false, le-leb, lt-leb}
use mir.Syntax.{w32}
use mir.Val.{of_z}
use Rattle.framed.specs.Common.{when◌then◌else◌}
use Rattle.framed.specs.Bytes.{class}
use Rattle.framed.specs.Tokens.{Token, Fixed, Operator, Tokens⊢, next, read, skip}
use Rattle.framed.specs.Symbols.{Symbol, numbered}
use Rattle.framed.specs.Tree.{Written, Base, Slots, Code, ◌then◌}
use Rattle.framed.specs.Grammar.{Path⊢, Base⊢, Slots⊢, Code⊢}
use Rattle.framed.specs.Parse.{fails, parsed, fixed_number, this, a_base}
use Rattle.framed.specs.Paths.{names_of, resolve_path, resolve_slots, resolve_code}
use Rattle.framed.specs.Paths as Paths
use Rattle.framed.proofs.ParseExact.{fails≢parsed, base_out}
use Rattle.framed.proofs.ParseExact as Exact
use Rattle.source.specs.Positions.{rest}
use Rattle.source.proofs.Positions.{rest_end}
use Rattle.token.specs.Reading.{signed, fixed_kind, token_kind}
use Rattle.token.specs.Reading as Reading
use Rattle.sweep.specs.Kinds.{kind_of, front_kind}
use Rattle.grammar.specs.Runs.{KindAt, Sees, Meets, Outcome, Any}
use Rattle.std.specs.Prelude.{Option, None, Some}
use Rattle.grammar.specs.declared.Seen.{Seen}
use Rattle.grammar.proofs.Combine.{by_this}
use Rattle.names.specs.Kept.{table_of}
use Rattle.emit_names.specs.Table.{NumberAt}
use Rattle.ints.specs.Ints.{word_of}
use Rattle.tables.specs.declared.ExpressionEntry.{ExpressionEntry}
use Rattle.tables.specs.declared.InstructionEntry.{InstructionEntry}
use Rattle.table_updates.specs.Updates.{set_expression, set_instruction, set_code_first, set_slot_link, set_instruction_link}
use Rattle.shapes.specs.Numbers.{Numbers, base_size, code_size}
use Rattle.emission.specs.Emit.{Emitting, emitting, emit_path, emit_base, emit_expression, assign_entry, operator_kind, link_to_slots, link_to_code, first_place}
use Rattle.emit_steps.specs.Steps.{numbers, go_to, one_more, take_string, take_code, place_of, first_kind, Pass, PassTwo}
use Rattle.emit_steps.specs.declared.Next.{Next}
use Rattle.emit_steps.specs.declared.Place.{Place}
use Rattle.emit_paths.specs.Emits.{Ahead, Small, Emitted, Emits, PathHere, path_emitted}
use Rattle.emit_paths.proofs.Symbols.{fixed_first, seen_fixed, seen_kind, pass_left, nothing_ahead}
use Rattle.emit_leaves.specs.Parts.{place_by, line_link_by, slot_link_by, assign_by, EmitsAny, IntegerHere, StringHere, OperatorHere, integer_emitted, string_emitted, operator_emitted}
use Rattle.emit_leaves.specs.Parts.{is_operator, OperatorAfter, Skipped, TargetHere, target_emitted, Stands, BlockBegun, BlockOpened, FrameBegun, FrameOpened, SlotEnd, SlotClosed, LineEnd, LineClosed}
use Rattle.emit_leaves.proofs.Numbers.{base_sizes, more_is}
use Rattle.emit_leaves.proofs.Ahead.{integer_first, string_first, code_first, ahead_same, skip_fixed, skipped_ahead, instruction_kind}

-- ---- By the kind of the token that follows

pub place_none : (k i : ℕ) → k ≡ 15 → 0 ≡ place_by k i
unfolding place_by
place_none k i e = rw (eq-eqb k 15 e)

pub place_next : (k i : ℕ) → (k ≡ 15 → ⊥) → (r : ℕ) → r ≡ one_more i → r ≡ place_by k i
unfolding place_by
place_next k i n r e = rw (ne_eqb k 15 n) e

pub line_none : (k i z : ℕ) → k ≡ 15 → 0 ≡ line_link_by k i z
unfolding line_link_by
line_none k i z e = rw (eq-eqb k 15 e)

pub line_next : (k i z : ℕ) → (k ≡ 15 → ⊥) → (r : ℕ) → r ≡ z - i → r ≡ line_link_by k i z
unfolding line_link_by
line_next k i z n r e = rw (ne_eqb k 15 n) e

pub slot_next : (k y z : ℕ) → k ≡ 25 → (r : ℕ) → r ≡ z - y → r ≡ slot_link_by k y z
unfolding slot_link_by
slot_next k y z e r h = rw (eq-eqb k 25 e) h

pub slot_none : (k y z : ℕ) → (k ≡ 25 → ⊥) → 0 ≡ slot_link_by k y z
unfolding slot_link_by
slot_none k y z n = rw (ne_eqb k 25 n)

pub assign_self : (k j n e : ℕ) → k ≡ 1 → InstructionEntry.AssignSelf j n e ≡ assign_by k j n e
unfolding assign_by
assign_self k j n e h = rw (eq-eqb k 1 h)

pub assign_program : (k j n e : ℕ) → (k ≡ 1 → ⊥) → InstructionEntry.AssignProgram j n e ≡ assign_by k j n e
unfolding assign_by
assign_program k j n e h = rw (ne_eqb k 1 h)

-- the kinds tell whether more slots or instructions follow
slots_by : (us vs : List Symbol) (ss : Slots Written) (place : Paths.Place) (y z : ℕ) → Slots⊢ us ss vs → front_kind vs ≡ 13 → slot_link_by (front_kind us) y z ≡ link_to_slots (resolve_slots place ss) y z
unfolding slot_link_by front_kind kind_of link_to_slots resolve_slots
slots_by us vs _ place y z Slots⊢.no_slots e = rw e
slots_by _ vs _ place y z (Slots⊢.last_slot d) e = refl
slots_by _ vs _ place y z (Slots⊢.more_slots d g) e = refl

not_fifteen : (k : ℕ) → k ≤ 8 → k ≡ 15 → ⊥
not_fifteen k l e = omega arith

lines_by : (us vs : List Symbol) (is : Code Written) (place : Paths.Place) (i z : ℕ) → Code⊢ us is vs → front_kind vs ≡ 15 → line_link_by (front_kind us) i z ≡ link_to_code (resolve_code place is) i z
unfolding line_link_by link_to_code resolve_code
lines_by us vs _ place i z Code⊢.no_instructions e = rw e
lines_by us vs _ place i z (Code⊢.more_instructions d g) e = rw (ne_eqb (front_kind us) 15 (not_fifteen (front_kind us) (instruction_kind us _ _ d)))

-- the first instruction's place, where the numbers of the instructions are words
place_is : (us vs : List Symbol) (is : Code Written) (place : Paths.Place) (i : ℕ) → Code⊢ us is vs → front_kind vs ≡ 15 → i + (code_size (resolve_code place is)).instructions < 4294967296 →
    place_by (front_kind us) i ≡ first_place (resolve_code place is) i
unfolding place_by first_place resolve_code code_size
place_is us vs _ place i Code⊢.no_instructions e l = rw e
place_is us vs _ place i (Code⊢.more_instructions d g) e l =
    rw (ne_eqb (front_kind us) 15 (not_fifteen (front_kind us) (instruction_kind us _ _ d))) (more_is i (omega arith) ∙ flip i)
  where
    flip : (i : ℕ) → i + 1 ≡ 1 + i
    flip i = omega arith

-- ---- An integer

signed_word : (w : ℕ) → w < 4294967296 → word_of (signed w) ≡ w
unfolding word_of signed
signed_word w l = go (ltb w 2147483648) refl
  where
    up : (w : ℕ) → w < 4294967296 → 2147483648 ≤ w → 4294967296 - suc (4294967295 - w) ≡ w
    up w l h = omega arith

    go : (t : Bool) → ltb w 2147483648 ≡ t → of_z w32 (when t then pos w else negsuc (4294967295 - w)) ≡ w
    go true e = refl
    go false e = up w l (ltb-false w 2147483648 e)

module _ (s : List ℕ) (x : ℕ) (n : Next) (p : List ℕ) (t : Seen) (found : Sees s n.at t) (p' : List ℕ) (ep : p' ≡ set_expression p x (ExpressionEntry.Integer t.word))
    (r : Next) (er : r ≡ go_to n t.end) where
  integer_says : (table : List (List ℕ)) (us vs : List Symbol) (z : ℤ) → Ahead s table n us → IntegerHere us z vs → Emitted s table (integer_emitted x z (emitting p (numbers n))) p' r vs
  unfolding integer_emitted emit_base
  integer_says table _ vs z h IntegerHere.here =
      let y = integer_first table n.strings n.codes h.tokens z vs h.are in
      let d = rw y.1 at h.reads in
      let word : word_of z ≡ t.word = ap word_of (sym (found.word_is z y.0 d)) ∙ signed_word t.word found.word_small in
      record {
        is = rw (ep, er, word);
        ahead = rw er (record { tokens = y.0; reads = found.reads _ _ d; are = y.2; few = fewer y.0 (rw y.1 at h.few) });
      }
    where
      fewer : (ts : List Token) → n.strings + suc (length ts) < 4294967295 → n.strings + length ts < 4294967295
      fewer ts l = omega arith

  pub integer_one : EmitsAny IntegerHere (integer_emitted x) s n p p' r
  integer_one = record { by = λ table. record { says = λ us vs z h g l. integer_says table us vs z h g; on = rw er found.on }; on = rw er found.on }

-- ---- A string

module _ (s : List ℕ) (x : ℕ) (n : Next) (p : List ℕ) (t : Seen) (y : Sees s n.at t) (p' : List ℕ) (ep : p' ≡ set_expression p x (ExpressionEntry.Literal n.strings)) (r : Next) (er : r ≡ take_string n t.end) where
  string_says : (table : List (List ℕ)) (us vs : List Symbol) (k : ℕ) → Ahead s table n us → StringHere us k vs → Emitted s table (string_emitted x k (emitting p (numbers n))) p' r vs
  unfolding string_emitted emit_base
  string_says table _ vs k h StringHere.here =
      let z = string_first table n.strings n.codes h.tokens k vs h.are in
      let d : Tokens⊢ class (rest s t.end) z.1 = y.reads (Token.string z.0) z.1 (rw z.2 at h.reads) in
      let l : n.strings + suc (length z.1) < 4294967295 = rw z.2 at h.few in
      let e : one_more n.strings ≡ suc n.strings = more_is n.strings (omega arith) ∙ add-one n.strings in
      record {
        is = rw (ep, er, z.3);
        ahead = rw er (record { tokens = z.1; reads = d; are = rw e z.4; few = rw e (omega arith) });
      }

  pub string_one : EmitsAny StringHere (string_emitted x) s n p p' r
  string_one = record { by = λ table. record { says = λ us vs k h g l. string_says table us vs k h g; on = rw er y.on }; on = rw er y.on }

-- ---- An operator

operator_numbers : (o : Operator) → Reading.operator_kind o - 9 ≡ operator_kind o
unfolding Reading.operator_kind operator_kind
operator_numbers Operator.plus = refl
operator_numbers Operator.minus = refl
operator_numbers Operator.times = refl
operator_numbers Operator.over = refl
operator_numbers Operator.less = refl
operator_numbers Operator.join = refl
operator_numbers Operator.equal = refl
operator_numbers Operator.and = refl
operator_numbers Operator.or = refl

module _ (s : List ℕ) (x a : ℕ) (n : Next) (p : List ℕ) (t : Seen) (h : Sees s n.at t) (j : ℕ) (ej : j ≡ t.kind - 9) (p' : List ℕ)
    (ep : p' ≡ set_expression p x (ExpressionEntry.Operate j a n.expressions)) (r : Next) (er : r ≡ go_to n t.end) where
  operator_says : (table : List (List ℕ)) (us vs : List Symbol) (o : Operator) → Ahead s table n us → OperatorHere us o vs → Emitted s table (operator_emitted x a o (emitting p (numbers n))) p' r vs
  unfolding operator_emitted front_kind kind_of fixed_kind
  operator_says table _ vs o b OperatorHere.here =
      let e : Reading.operator_kind o ≡ t.kind = seen_kind s table n t h (Symbol.fixed (Fixed.operator o) ∷ vs) b in
      let z = seen_fixed s table n t h (Fixed.operator o) vs b in
      record { is = rw (ep, er, ej, ← e, operator_numbers o); ahead = rw er z.ahead }

  pub operator_one : EmitsAny OperatorHere (operator_emitted x a) s n p p' r
  operator_one = record { by = λ table. record { says = λ us vs o b g l. operator_says table us vs o b g; on = rw er h.on }; on = rw er h.on }

-- ---- An operator after a base

module _ (s : List ℕ) (at : ℕ) (x : Option ℕ) (m : Meets a_base 1 s at x) where
  outcome : (table : List (List ℕ)) (k c : ℕ) (ts : List Token) (b : Base Written) (vs : List Symbol) → Tokens⊢ class (rest s at) ts → Base⊢ (numbered table k c ts) b vs →
      (front_kind vs ≡ 7 → ⊥) → Outcome Any s table (parsed b vs) x
  unfolding fixed_number
  outcome table k c ts b vs d g nd =
      rw (base_out enough g no_dot (omega arith)) at ((m.says enough (omega arith)).runs table k c ts d)
    where
      enough : ℕ
      enough = 8 * (length s - at) + 2 + length (numbered table k c ts)

      equal : (j : ℕ) → 7 ≤ j → j ≤ 7 → j ≡ 7
      equal j a b = omega arith

      no_dot : this Fixed.dot vs ≡ fails
      no_dot = (by_this Fixed.dot (omega arith)).leaves vs (λ a b. nd (equal (front_kind vs) a b))

  pub after_none : ((k : ℕ) → x ≡ Some k → ⊥) → OperatorAfter s at false
  after_none o = record { is = λ table k c ts b vs d g nd. absurd (go x (outcome table k c ts b vs d g nd) o) }
    where
      go : {table : List (List ℕ)} {b : Base Written} {vs : List Symbol} (y : Option ℕ) → Outcome Any s table (parsed b vs) y → ((k : ℕ) → y ≡ Some k → ⊥) → ⊥
      go None (Outcome.refused e) o = fails≢parsed (sym e)
      go (Some p) z o = (o p refl)

  module _ (p : ℕ) (e : x ≡ Some p) (k : ℕ) (h : KindAt s p k) where
    kind_after : (table : List (List ℕ)) (b : Base Written) (vs : List Symbol) → Outcome Any s table (parsed b vs) (Some p) → front_kind vs ≡ k
    kind_after table b vs (Outcome.done i c {ts} q d f) = ap front_kind (Exact.rest_inj f) ∙ h.is table i c ts d

    after_is : (t : Bool) → t ≡ is_operator k → OperatorAfter s at t
    after_is t f = record { is = λ table i c ts b vs d g nd. f ∙ ap is_operator (sym (kind_after table b vs (rw e at (outcome table i c ts b vs d g nd)))) }

    pub after_low : k < 16 → OperatorAfter s at (leb 16 k)
    unfolding is_operator
    after_low l = after_is (leb 16 k) (rw (lt-leb 16 k l))

    pub after_high : 16 ≤ k → OperatorAfter s at (leb k 24)
    unfolding is_operator
    after_high l = after_is (leb k 24) (rw (le-leb 16 k l))

-- ---- One token

pub skip_one : (s : List ℕ) (n : Next) (k q : ℕ) → Pass s n.at k q → (r : Next) → r ≡ go_to n q → Skipped s n k r
skip_one s n k q x r e = rw e (record { pass = x; same = refl })

-- ---- The path of an assignment

-- the kind tells which path it is
entry_is : (place : Place) (us vs : List Symbol) (w : Written) → Path⊢ us w vs → (j e : ℕ) →
    assign_by (front_kind us) j (length (names_of (resolve_path (place_of place) w))) e ≡ assign_entry (resolve_path (place_of place) w) j e
unfolding assign_by front_kind kind_of fixed_kind assign_entry resolve_path names_of
entry_is place _ vs _ (Path⊢.self d) j e = refl
entry_is place _ vs _ (Path⊢.up d g) j e = refl

module _ (s b e : List ℕ) (count : ℕ) (place : Place) (i : ℕ) (n : Next) (p : List ℕ) (t : Seen) (h : Sees s n.at t) (p₁ : List ℕ) (u : Next)
    (f : Emits (PathHere place) (path_emitted place) s (table_of s b e count) n p p₁ u) (d : ℕ) (ed : d ≡ u.paths - n.paths)
    (y : InstructionEntry) (ey : y ≡ assign_by t.kind n.paths d u.expressions) (p' : List ℕ) (ep : p' ≡ set_instruction p₁ i y) (r : Next) (z : Skipped s u 6 r) where
  target_says : (us vs : List Symbol) (w : Written) → Ahead s (table_of s b e count) n us → TargetHere place us w vs →
      Small (target_emitted place i w (emitting p (numbers n))).next → Emitted s (table_of s b e count) (target_emitted place i w (emitting p (numbers n))) p' r vs
  unfolding target_emitted path_emitted emit_path front_kind kind_of fixed_kind
  target_says us vs w a g l =
      let v = f.says us (Symbol.fixed Fixed.assign ∷ vs) w a (record { path = g.path; no_dot = other; ok = g.ok }) l in
      let ns = names_of (resolve_path (place_of place) w) in
      let kind : front_kind us ≡ t.kind = seen_kind s (table_of s b e count) n t h us a in
      let words_is : p₁ ≡ (emit_path ns (emitting p (numbers n))).words = ap (λ (t : Emitting). t.words) v.is in
      let next_is : numbers u ≡ (emit_path ns (emitting p (numbers n))).next = ap (λ (t : Emitting). t.next) v.is in
      let size : d ≡ length ns = ed ∙ counted u.paths n.paths (length ns) (ap (λ (t : Numbers). t.path_names) next_is) in
      let entry : y ≡ assign_entry (resolve_path (place_of place) w) n.paths n.expressions =
      ey ∙ rw (size, ← kind, ap (λ (t : Numbers). t.expressions) next_is) (entry_is place us _ w g.path n.paths n.expressions) in
      let same : numbers r ≡ numbers u = ap (λ (m : Next). numbers m) z.same in
      record {
        is = ap (λ (q : List ℕ). emitting q (numbers r)) (ep ∙ rw (entry, words_is)) ∙ ap (emitting _) (same ∙ next_is);
        ahead = skipped_ahead s (table_of s b e count) u r 6 vs z (skip_fixed s (table_of s b e count) u r Fixed.assign vs z v.ahead).ahead;
      }
    where
      counted : (m n k : ℕ) → m ≡ n + k → m - n ≡ k
      counted m n k e = omega arith

      other : ◌≡◌ {A = ℕ} 6 7 → ⊥
      other e = omega arith

  pub target_one : Emits (TargetHere place) (target_emitted place i) s (table_of s b e count) n p p' r
  target_one = record { says = λ us vs w a g l. target_says us vs w a g l; on = omega (arith, f.on, z.pass.on) }

-- ---- Where a code begins

-- past the end there is no token to pass
end_tokens : (s : List ℕ) (at : ℕ) → length s ≤ at → Tokens⊢ class (rest s at) []
unfolding next read skip
end_tokens s at l = rw (rest_end s at l) (Tokens⊢.at_end refl)

inside_pass : (s : List ℕ) (at k q : ℕ) → Pass s at k q → (29 ≡ k → ⊥) → at < q → at < length s
unfolding first_kind
inside_pass s at k q x n l = go (ltb at (length s)) refl
  where
    stays : q ≡ at → ⊥
    stays e = omega arith

    go : (t : Bool) → ltb at (length s) ≡ t → at < length s
    go true e = ltb-true at (length s) e
    go false e = absurd (stays (x.left [] (end_tokens s at (ltb-false at (length s) e)) n))

module _ (s : List ℕ) (x : ℕ) (n : Next) (p : List ℕ) (t : Seen) (seen : Sees s n.at t) (q : ℕ) (y : Pass s t.end 14 q) (c : Seen) (h : Sees s q c)
    (f : ℕ) (ef : f ≡ place_by c.kind n.instructions) (p₁ : List ℕ) (e₁ : p₁ ≡ set_code_first p n.codes f) (p' : List ℕ) (ep : p' ≡ set_expression p₁ x (ExpressionEntry.Code n.codes)) (r : Next) (er : r ≡ take_code n q) where
  block_says : (table : List (List ℕ)) (us vs : List Symbol) (j : ℕ) (is : Code Written) (place : Paths.Place) →
      Ahead s table n (Symbol.code j ∷ Symbol.fixed Fixed.open_curly ∷ us) → Code⊢ us is vs → front_kind vs ≡ 15 →
      Small (emit_base (Base.code j (resolve_code place is)) x (emitting p (numbers n))).next → BlockBegun s table j x (resolve_code place is) n p us p' r
  unfolding emit_base base_size token_kind fixed_kind
  block_says table us vs j is place a g e l =
      let ss = resolve_code place is in
      let z = code_first table n.strings n.codes a.tokens j (Symbol.fixed Fixed.open_curly ∷ us) a.are in
      let w = fixed_first table n.strings (suc n.codes) z.0 Fixed.open_curly us z.3 in
      let v = y.taken (Token.fixed Fixed.open_curly) w.0 (seen.reads Token.code (Token.fixed Fixed.open_curly ∷ w.0) (rw (z.1, w.1) at a.reads)) refl in
      let sizes = rw (base_sizes (Base.code j ss) x (emitting p (numbers n))) at l in
      let more : one_more n.codes ≡ n.codes + 1 = more_is n.codes (omega (arith, sizes.codes_small)) in
      let b : Ahead s table r us = rw er (record {
        tokens = w.0;
        reads = v.reads;
        are = rw (more, add-one n.codes) w.2;
        few = fewer w.0 (rw (z.1, w.1) at a.few);
      }) in
      let kind : front_kind us ≡ c.kind = seen_kind s table r c (rw er h) us b in
      let first : f ≡ first_place ss n.instructions = ef ∙ rw (← kind) (place_is us vs is place n.instructions g e (omega (arith, sizes.instructions_small))) in
      record { further = rw er (omega (arith, seen.on, v.further)); ahead = b; whole = rw (ep, e₁, er, first, z.2, more) }
    where
      fewer : (ts : List Token) → n.strings + suc (suc (length ts)) < 4294967295 → n.strings + length ts < 4294967295
      fewer ts l = omega arith

  in_source : n.at < q → n.at < length s
  in_source l = go (ltb t.end q) refl
    where
      go : (u : Bool) → ltb t.end q ≡ u → n.at < length s
      go true e = omega (arith, seen.on, inside_pass s t.end 14 q y (λ i. absurd (omega arith)) (ltb-true t.end q e))
      go false e = seen.inside (omega (arith, ltb-false t.end q e))

  pub block_one : Stands s (BlockOpened s x n p p') (record { next = r; seen = c })
  block_one = record {
    done = record { says = block_says; on = rw er (omega (arith, seen.on, y.on)); inside = λ l. in_source (rw er at l) };
    seen = rw er h;
  }

-- ---- Where a frame begins

module _ (s : List ℕ) (x : ℕ) (n : Next) (p : List ℕ) (t : Seen) (seen : Sees s n.at t) where
  pub frame_past : length s ≤ n.at → Stands s (FrameOpened s x n p p) (record { next = n; seen = t })
  frame_past l = record {
    done = record { says = λ table us vs ss place a g e. absurd (nothing_ahead s table n Fixed.frame _ l a); on = omega arith; inside = λ h. absurd (omega arith) };
    seen = seen;
  }

  module _ (l : n.at < length s) (q : ℕ) (y : PassTwo s t.end 5 12 q) (c : Seen) (h : Sees s q c) (d : ℕ) (ed : d ≡ slot_link_by c.kind x n.expressions)
      (p' : List ℕ) (ep : p' ≡ set_expression p x (ExpressionEntry.Frame d)) (r : Next) (er : r ≡ go_to n q) where
    frame_says : (table : List (List ℕ)) (us vs : List Symbol) (ss : Slots Written) (place : Paths.Place) →
        Ahead s table n (Symbol.fixed Fixed.frame ∷ Symbol.fixed Fixed.colon ∷ Symbol.fixed Fixed.open_square ∷ us) → Slots⊢ us ss vs → front_kind vs ≡ 13 →
        FrameBegun s table x (resolve_slots place ss) n p us p' r
    unfolding emit_expression token_kind fixed_kind
    frame_says table us vs ss place a g e =
        let z = fixed_first table n.strings n.codes a.tokens Fixed.frame _ a.are in
        let w = fixed_first table n.strings n.codes z.0 Fixed.colon _ z.2 in
        let v = fixed_first table n.strings n.codes w.0 Fixed.open_square us w.2 in
        let after = seen.reads (Token.fixed Fixed.frame) (Token.fixed Fixed.colon ∷ Token.fixed Fixed.open_square ∷ v.0) (rw (z.1, w.1, v.1) at a.reads) in
        let m = y.taken (Token.fixed Fixed.colon) (Token.fixed Fixed.open_square) v.0 after refl refl in
        let b : Ahead s table r us = rw er (record { tokens = v.0; reads = m.reads; are = v.2; few = fewer v.0 (rw (z.1, w.1, v.1) at a.few) }) in
        let kind : front_kind us ≡ c.kind = seen_kind s table r c (rw er h) us b in
        let link : d ≡ link_to_slots (resolve_slots place ss) x n.expressions = ed ∙ rw (← kind) (slots_by us vs ss place x n.expressions g e) in
        record { further = rw er (omega (arith, seen.on, m.further)); ahead = b; whole = rw (ep, er, link) }
      where
        fewer : (ts : List Token) → n.strings + suc (suc (suc (length ts))) < 4294967295 → n.strings + length ts < 4294967295
        fewer ts l = omega arith

    pub frame_one : Stands s (FrameOpened s x n p p') (record { next = r; seen = c })
    frame_one = record { done = record { says = frame_says; on = rw er (omega (arith, seen.on, y.on)); inside = λ h. l }; seen = rw er h }

-- ---- The name of a slot

-- where t is no name, no name stands there
pub no_number : (s b e : List ℕ) (count at : ℕ) (t : Seen) → Sees s at t → (t.kind ≡ 25 → ⊥) → (r : ℕ) → NumberAt s b e count at r
unfolding front_kind kind_of numbered
no_number s b e count at t x n r = record { is = λ w ts d. absurd (n (sym (x.kind_is.is [] 0 0 (Token.name w ∷ ts) d))) }

-- ---- Where a slot ends

module _ (s : List ℕ) (y : ℕ) (u : Next) (p : List ℕ) (m : Next) (x : Skipped s u 11 m) (c : Seen) (h : Sees s m.at c) (d : ℕ) (ed : d ≡ slot_link_by c.kind y u.expressions)
    (p' : List ℕ) (ep : p' ≡ set_slot_link p y d) where
  ended : (table : List (List ℕ)) (us vs : List Symbol) (ss : Slots Written) (place : Paths.Place) → Ahead s table m us → Slots⊢ us ss vs → front_kind vs ≡ 13 →
      SlotEnd s table y (resolve_slots place ss) u p us p' m
  ended table us vs ss place a g e =
      let kind : front_kind us ≡ c.kind = seen_kind s table m c h us a in
      let link : d ≡ link_to_slots (resolve_slots place ss) y u.expressions = ed ∙ rw (← kind) (slots_by us vs ss place y u.expressions g e) in
      record { ahead = a; linked = ap (λ (t : Next). emitting p' (numbers t)) x.same ∙ rw (ep, link) }

  stays : (table : List (List ℕ)) (vs : List Symbol) → Ahead s table u vs → front_kind vs ≡ 13 → Ahead s table m vs
  stays table vs a e = skipped_ahead s table u m 11 vs x (rw (pass_left s table u vs 11 m.at x.pass a (λ f. other (sym e ∙ f))) (same_ahead a))
    where
      other : ◌≡◌ {A = ℕ} 13 11 → ⊥
      other e = omega arith

      same_ahead : Ahead s table u vs → Ahead s table (go_to u u.at) vs
      same_ahead a = ahead_same s table u (go_to u u.at) vs refl refl refl a

  closed : SlotClosed s y u p p' m
  unfolding resolve_slots fixed_kind
  closed = record {
    last = λ table vs a e. ended table vs vs Slots.no_slots Paths.program_place (stays table vs a e) Slots⊢.no_slots e;
    more = λ table us vs ss place a g e. ended table us vs ss place (skipped_ahead s table u m 11 us x (skip_fixed s table u m Fixed.comma us x a).ahead) g e;
    on = x.pass.on;
  }

  pub slot_end : Stands s (SlotClosed s y u p p') (record { next = m; seen = c })
  slot_end = record { done = closed; seen = h }

-- ---- Where an instruction ends

module _ (s : List ℕ) (i : ℕ) (u : Next) (p : List ℕ) (m : Next) (x : Skipped s u 10 m) (c : Seen) (h : Sees s m.at c) (d : ℕ) (ed : d ≡ line_link_by c.kind i u.instructions)
    (p' : List ℕ) (ep : p' ≡ set_instruction_link p i d) where
  line_says : (table : List (List ℕ)) (us vs : List Symbol) (is : Code Written) (place : Paths.Place) → Ahead s table u (Symbol.fixed Fixed.semicolon ∷ us) → Code⊢ us is vs →
      front_kind vs ≡ 15 → LineEnd s table i (resolve_code place is) u p us p' m
  unfolding fixed_kind
  line_says table us vs is place a g e =
      let z = skip_fixed s table u m Fixed.semicolon us x a in
      let b = skipped_ahead s table u m 10 us x z.ahead in
      let kind : front_kind us ≡ c.kind = seen_kind s table m c h us b in
      let link : d ≡ link_to_code (resolve_code place is) i u.instructions = ed ∙ rw (← kind) (lines_by us vs is place i u.instructions g e) in
      record { further = z.further; ahead = b; linked = ap (λ (t : Next). emitting p' (numbers t)) x.same ∙ rw (ep, link) }

  pub line_end : Stands s (LineClosed s i u p p') (record { next = m; seen = c })
  line_end = record { done = record { says = line_says; on = x.pass.on }; seen = h }
