-- Laws of bases and expressions, one for each way through each function. Assumes nothing.
use mathlib.Core.Path.{◌≡◌, refl, sym, ap, ◌∙◌, subst}
use mathlib.Core.Bool.{Bool, true, false, ◌&&◌, true≢false, false≢true}
use mathlib.Core.List.{List, ◌∷◌}
use Prim.Native.Nat.{ℕ, ◌+◌, ◌*◌, ◌-◌, ◌<◌, ◌≤◌}
use native.Mathlib.Omega.{arith}
use lib.Dec.{leb}
use lib.ListN.{length}
use borrow.Author.Tests.{leb-true}
use Rattle.framed.specs.Tokens.{Fixed, Operator}
use Rattle.framed.specs.Symbols.{Symbol}
use Rattle.framed.specs.Tree.{Written, Base, Expression}
use Rattle.framed.specs.Grammar.{Base⊢, Expression⊢, Frame⊢}
use Rattle.framed.specs.Paths.{within_code, resolve_base, resolve_expression, resolve_code}
use Rattle.framed.specs.Paths as Paths
use Rattle.token.specs.Reading.{fixed_kind}
use Rattle.token.specs.Reading as Reading
use Rattle.sweep.specs.Kinds.{kind_of, front_kind}
use Rattle.grammar.specs.Runs.{KindAt, Sees}
use Rattle.grammar.specs.declared.Seen.{Seen}
use Rattle.tables.specs.declared.ExpressionEntry.{ExpressionEntry}
use Rattle.table_updates.specs.Updates.{set_expression}
use Rattle.shapes.specs.Numbers.{one_expression}
use Rattle.emission.specs.Emit.{Emitting, emitting, emit_base, emit_expression, emit_code}
use Rattle.emit_steps.specs.Steps.{numbers, go_to, take_expression, take_instruction, place_of, inner_code}
use Rattle.emit_steps.specs.declared.Next.{Next}
use Rattle.emit_steps.specs.declared.Place.{Place}
use Rattle.emit_paths.specs.Emits.{Ahead, Small, Emitted, Emits, PlaceOk, PathHere}
use Rattle.emit_paths.proofs.Symbols.{seen_fixed}
use Rattle.emit_bases.specs.Bases.{path_base}
use Rattle.emit_leaves.specs.Parts.{EmitsAny, IntegerHere, StringHere, OperatorHere, integer_emitted, string_emitted, operator_emitted, is_operator, OperatorAfter, Skipped, BlockOpened, FrameOpened}
use Rattle.emit_leaves.proofs.Numbers.{base_before, expression_before, expression_next, one_expression_small}
use Rattle.emit_leaves.proofs.Ahead.{kind_here, ahead_same, skip_fixed, skipped_ahead, path_kind}
use Rattle.emit_tree.specs.Members.{base_emitted, operand_emitted, expression_emitted, right_emitted, slots_emitted, code_emitted, BaseHere, BlockHere, NoOperation, Ends, FrameFits, ExpressionHere, NegationHere, BinaryHere, FrameHere, SlotsHere, CodeHere}
use Rattle.emit_tree.proofs.Places.{code_place, code_inside, not_base}

-- ---- The measure falls: by the position, or by the rank of the member

pub block_falls : (s : List ℕ) (x : ℕ) (n : Next) (p p₁ : List ℕ) (m : Next) → BlockOpened s x n p p₁ m → n.at < m.at → (t : ℕ) → 16 * (length s - n.at) + 0 ≡ t → 16 * (length s - m.at) + 9 < t
block_falls s x n p p₁ m o l t e = omega (arith, o.inside l)

pub frame_falls : (s : List ℕ) (x : ℕ) (n : Next) (p p₁ : List ℕ) (m : Next) → FrameOpened s x n p p₁ m → n.at < m.at → (t : ℕ) → 16 * (length s - n.at) + 0 ≡ t → 16 * (length s - m.at) + 7 < t
frame_falls s x n p p₁ m o l t e = omega (arith, o.inside l)

pub operand_falls : (s : List ℕ) (n m : Next) → m ≡ take_expression n n.at → (t : ℕ) → 16 * (length s - n.at) + 2 ≡ t → 16 * (length s - m.at) + 1 < t
operand_falls s n m em t e = omega (arith, ap (λ (a : Next). a.at) em)

pub right_falls : (s : List ℕ) (n m : Next) → m ≡ take_expression n n.at → (t : ℕ) → 16 * (length s - n.at) + 5 ≡ t → 16 * (length s - m.at) + 4 < t
right_falls s n m em t e = omega (arith, ap (λ (a : Next). a.at) em)

pub binary_falls : (s : List ℕ) (n m : Next) → m ≡ take_expression n n.at → (t : ℕ) → 16 * (length s - n.at) + 3 ≡ t → 16 * (length s - m.at) + 1 < t
binary_falls s n m em t e = omega (arith, ap (λ (a : Next). a.at) em)

pub binary_falls_2 : (s : List ℕ) (n m : Next) → m ≡ take_expression n n.at → (a b : ℕ) → m.at ≤ a → a ≤ b → (t : ℕ) → 16 * (length s - n.at) + 3 ≡ t → 16 * (length s - b) + 2 < t
binary_falls_2 s n m em a b h i t e = omega (arith, ap (λ (u : Next). u.at) em)

module _ (s : List ℕ) (n : Next) (q : Seen) (x : Sees s n.at q) (m : Next) (em : m ≡ go_to n q.end) where
  pub first_falls : (t : ℕ) → 16 * (length s - n.at) + 3 ≡ t → 16 * (length s - m.at) + 2 < t
  first_falls t e = omega (arith, x.on, ap (λ (a : Next). a.at) em)

  pub second_falls : (a : ℕ) → m.at ≤ a → (t : ℕ) → 16 * (length s - n.at) + 3 ≡ t → 16 * (length s - a) + 2 < t
  second_falls a h t e = omega (arith, first_falls t e)

  pub third_falls : (a b : ℕ) → m.at ≤ a → a ≤ b → (t : ℕ) → 16 * (length s - n.at) + 3 ≡ t → 16 * (length s - b) + 2 < t
  third_falls a b h i t e = omega (arith, first_falls t e)

-- ---- What was seen stands there still when a number is taken

pub seen_expression : (s : List ℕ) (n : Next) (t : Seen) → Sees s n.at t → (m : Next) → m ≡ take_expression n n.at → Sees s m.at t
seen_expression s n t x m em = rw em x

pub seen_instruction : (s : List ℕ) (n : Next) (t : Seen) → Sees s n.at t → (m : Next) → m ≡ take_instruction n → Sees s m.at t
seen_instruction s n t x m em = rw em x

-- ---- Brackets

-- what follows a bracket that is passed is ahead, and the numbers stay
module _ (s : List ℕ) (table : List (List ℕ)) (u r : Next) (f : Fixed) (z : Skipped s u (fixed_kind f) r) (t : Emitting) (p : List ℕ) (vs : List Symbol) where
  pub closed : Emitted s table t p u (Symbol.fixed f ∷ vs) → Emitted s table t p r vs
  closed h = record {
    is = ap (λ (m : Next). emitting p (numbers m)) z.same ∙ h.is;
    ahead = skipped_ahead s table u r (fixed_kind f) vs z (skip_fixed s table u r f vs z h.ahead).ahead;
  }

-- ---- `code` `{` instructions `}`

module _ (s : List ℕ) (table : List (List ℕ)) (place : Place) (x : ℕ) (n : Next) (p p₁ : List ℕ) (m : Next) (o : BlockOpened s x n p p₁ m) where
  pub block_none : m.at ≤ n.at → Emits (BlockHere place) (base_emitted place x) s table n p p₁ m
  unfolding base_emitted resolve_base front_kind kind_of fixed_kind
  block_none l = record { says = λ us vs b h g a. absurd (go us vs b h g a); on = o.on }
    where
      back : n.at < m.at → ⊥
      back a = omega arith

      go : (us vs : List Symbol) (b : Base Written) → Ahead s table n us → BlockHere place us b vs → Small (base_emitted place x b (emitting p (numbers n))).next → ⊥
      go _ vs _ h (BlockHere.block {k = k} {is = is} {ts = ts} ok d) a = back (o.says table ts _ k is (within_code (place_of place)) h d refl a).further

  module _ (inner : Place) (ei : inner ≡ inner_code place) (p' : List ℕ) (u : Next) (f : Emits (CodeHere inner) (code_emitted inner) s table m p₁ p' u) (r : Next) (z : Skipped s u 15 r) where
    block_says : (us vs : List Symbol) (b : Base Written) → Ahead s table n us → BlockHere place us b vs → Small (base_emitted place x b (emitting p (numbers n))).next →
        Emitted s table (base_emitted place x b (emitting p (numbers n))) p' r vs
    unfolding base_emitted code_emitted resolve_base front_kind kind_of fixed_kind
    block_says _ vs _ h (BlockHere.block {k = k} {is = is} {ts = ts} ok d) a =
        let b = o.says table ts _ k is (within_code (place_of place)) h d refl a in
        let same : place_of inner ≡ within_code (place_of place) = ap place_of ei ∙ code_place place in
        let whole : emit_base (Base.code k (resolve_code (within_code (place_of place)) is)) x (emitting p (numbers n)) ≡ code_emitted inner is (emitting p₁ (numbers m)) =
        b.whole ∙ ap (λ (q : Paths.Place). emit_code (resolve_code q is) (emitting p₁ (numbers m))) (sym same) in
        rw whole
        (closed s table u r Fixed.close_curly z _ p' vs
        (f.says ts _ is b.ahead (record { code = d; ends = refl; inside = rw ei (code_inside place ok) }) (rw whole at a)))

    pub block_done : Emits (BlockHere place) (base_emitted place x) s table n p p' r
    block_done = record { says = block_says; on = omega (arith, o.on, f.on, z.pass.on) }

-- ---- Integer, string, path or code

module _ (s : List ℕ) (table : List (List ℕ)) (place : Place) (x : ℕ) (n : Next) (p : List ℕ) (k : ℕ) (h : KindAt s n.at k) (p' : List ℕ) (r : Next) where
  abbrev Says : List Symbol → List Symbol → Base Written → Type 0
  Says us vs b = Ahead s table n us → (front_kind vs ≡ 7 → ⊥) → PlaceOk place → front_kind us ≡ k → Small (base_emitted place x b (emitting p (numbers n))).next →
      Emitted s table (base_emitted place x b (emitting p (numbers n))) p' r vs

  by_kind : ((us vs : List Symbol) (b : Base Written) → Base⊢ us b vs → Says us vs b) → n.at ≤ r.at → Emits (BaseHere place) (base_emitted place x) s table n p p' r
  by_kind f l = record { says = λ us vs b a g c. f us vs b g.base a g.no_dot g.ok (kind_here s table n us k h a) c; on = l }

  pub base_block : k ≡ 28 → Emits (BlockHere place) (base_emitted place x) s table n p p' r → Emits (BaseHere place) (base_emitted place x) s table n p p' r
  unfolding front_kind kind_of fixed_kind
  base_block e f = by_kind go f.on
    where
      no_path : (j : ℕ) → j ≤ 8 → j ≡ k → ⊥
      no_path j l g = omega arith

      other : (j : ℕ) → j < 28 → j ≡ k → ⊥
      other j l g = omega arith

      go : (us vs : List Symbol) (b : Base Written) → Base⊢ us b vs → Says us vs b
      go _ vs _ Base⊢.integer a nd ok g c = absurd (other 26 (omega arith) g)
      go _ vs _ Base⊢.string a nd ok g c = absurd (other 27 (omega arith) g)
      go us vs _ (Base⊢.path d) a nd ok g c = absurd (no_path (front_kind us) (path_kind us vs _ d) g)
      go us vs b (Base⊢.code d) a nd ok g c = f.says us vs b a (BlockHere.block ok d) c

  pub base_path : k < 26 → Emits (PathHere place) (path_base place x) s table n p p' r → Emits (BaseHere place) (base_emitted place x) s table n p p' r
  unfolding front_kind kind_of fixed_kind base_emitted path_base resolve_base
  base_path l f = by_kind go f.on
    where
      other : (j : ℕ) → 26 ≤ j → j ≡ k → ⊥
      other j m g = omega arith

      go : (us vs : List Symbol) (b : Base Written) → Base⊢ us b vs → Says us vs b
      go _ vs _ Base⊢.integer a nd ok g c = absurd (other 26 (omega arith) g)
      go _ vs _ Base⊢.string a nd ok g c = absurd (other 27 (omega arith) g)
      go us vs _ (Base⊢.path {p = w} d) a nd ok g c = f.says us vs w a (record { path = d; no_dot = nd; ok = ok }) c
      go _ vs _ (Base⊢.code d) a nd ok g c = absurd (other 28 (omega arith) g)

  pub base_integer : k ≡ 26 → EmitsAny IntegerHere (integer_emitted x) s n p p' r → Emits (BaseHere place) (base_emitted place x) s table n p p' r
  unfolding front_kind kind_of fixed_kind base_emitted integer_emitted resolve_base
  base_integer e f = by_kind go f.on
    where
      other : (j : ℕ) → (j ≡ 26 → ⊥) → j ≡ k → ⊥
      other j m g = m (g ∙ e)

      small : (j : ℕ) → j ≤ 8 → j ≡ 26 → ⊥
      small j l g = omega arith

      go : (us vs : List Symbol) (b : Base Written) → Base⊢ us b vs → Says us vs b
      go us vs _ (Base⊢.integer {z = z}) a nd ok g c = (f.by table).says us vs z a IntegerHere.here c
      go _ vs _ Base⊢.string a nd ok g c = absurd (other 27 (λ q. absurd (omega arith)) g)
      go us vs _ (Base⊢.path d) a nd ok g c = absurd (other (front_kind us) (small (front_kind us) (path_kind us vs _ d)) g)
      go _ vs _ (Base⊢.code d) a nd ok g c = absurd (other 28 (λ q. absurd (omega arith)) g)

  pub base_string : (k ≡ 28 → ⊥) → 26 ≤ k → (k ≡ 26 → ⊥) → EmitsAny StringHere (string_emitted x) s n p p' r → Emits (BaseHere place) (base_emitted place x) s table n p p' r
  unfolding front_kind kind_of fixed_kind base_emitted string_emitted resolve_base
  base_string no_code l no_integer f = by_kind go f.on
    where
      small : (j : ℕ) → j ≤ 8 → j ≡ k → ⊥
      small j m g = omega arith

      go : (us vs : List Symbol) (b : Base Written) → Base⊢ us b vs → Says us vs b
      go _ vs _ Base⊢.integer a nd ok g c = absurd (no_integer (sym g))
      go us vs _ (Base⊢.string {k = j}) a nd ok g c = (f.by table).says us vs j a StringHere.here c
      go us vs _ (Base⊢.path d) a nd ok g c = absurd (small (front_kind us) (path_kind us vs _ d) g)
      go _ vs _ (Base⊢.code d) a nd ok g c = absurd (no_code (sym g))

-- ---- An operand

pub operand_before : (place : Place) (b : Base Written) (t : Emitting) → Small (operand_emitted place b t).next → Small t.next
unfolding operand_emitted
operand_before place b t l =
    one_expression_small t.next (base_before (resolve_base (place_of place) b) t.next.expressions (emitting t.words (one_expression t.next)) l)

module _ (s : List ℕ) (table : List (List ℕ)) (place : Place) (n : Next) (p : List ℕ) (m : Next) (em : m ≡ take_expression n n.at) (p' : List ℕ) (r : Next)
    (f : Emits (BaseHere place) (base_emitted place n.expressions) s table m p p' r) where
  operand_says : (us vs : List Symbol) (b : Base Written) → Ahead s table n us → BaseHere place us b vs → Small (operand_emitted place b (emitting p (numbers n))).next →
      Emitted s table (operand_emitted place b (emitting p (numbers n))) p' r vs
  unfolding base_emitted operand_emitted
  operand_says us vs b h g l =
      let e : numbers m ≡ one_expression (numbers n) = ap (λ (t : Next). numbers t) em ∙ expression_next n n.at (base_before _ n.expressions _ l) in
      rw (← e) (f.says us vs b (rw em (ahead_same s table n (take_expression n n.at) us refl refl refl h)) g (rw e l))

  pub operand_done : Emits (BaseHere place) (operand_emitted place) s table n p p' r
  operand_done = record { says = operand_says; on = omega (arith, f.on, ap (λ (t : Next). t.at) em) }

-- ---- From where emission stands in other words

pub carry : (s : List ℕ) (table : List (List ℕ)) (E : Emitting → Emitting) (t u : Emitting) → t ≡ u → (p' : List ℕ) (r : Next) (vs : List Symbol) →
    (Small (E u).next → Emitted s table (E u) p' r vs) → Small (E t).next → Emitted s table (E t) p' r vs
carry s table E t u e p' r vs f l = subst (λ (a : Emitting). Emitted s table (E a) p' r vs) (sym e) (f (subst (λ (a : Emitting). Small (E a).next) e l))

-- after one symbol, whose token was seen
module _ (s : List ℕ) (table : List (List ℕ)) (n : Next) (t : Seen) (x : Sees s n.at t) (m : Next) (em : m ≡ go_to n t.end) where
  pub after_seen : (f : Fixed) (us : List Symbol) → Ahead s table n (Symbol.fixed f ∷ us) → Ahead s table m us
  after_seen f us h = rw em (seen_fixed s table n t x f us h).ahead

  pub same_start : (p : List ℕ) → emitting p (numbers n) ≡ emitting p (numbers m)
  same_start p = ap (λ (a : Next). emitting p (numbers a)) (sym em)

  pub seen_on : n.at ≤ m.at
  seen_on = omega (arith, x.on, ap (λ (a : Next). a.at) em)

-- ---- `!` base

module _ (s : List ℕ) (table : List (List ℕ)) (place : Place) (x : ℕ) (n : Next) (p : List ℕ) (t : Seen) (z : Sees s n.at t) (m : Next) (em : m ≡ go_to n t.end) (p₁ : List ℕ)
    (e₁ : p₁ ≡ set_expression p x (ExpressionEntry.Not m.expressions)) (p' : List ℕ) (r : Next) (f : Emits (BaseHere place) (operand_emitted place) s table m p₁ p' r) where
  not_entry : Emitting → Emitting
  not_entry t = emitting (set_expression t.words x (ExpressionEntry.Not t.next.expressions)) t.next

  negation_says : (us vs : List Symbol) (e : Expression Written) → Ahead s table n us → NegationHere place us e vs → Small (expression_emitted place place x e (emitting p (numbers n))).next →
      Emitted s table (expression_emitted place place x e (emitting p (numbers n))) p' r vs
  unfolding expression_emitted operand_emitted resolve_expression emit_expression fixed_kind not_entry
  negation_says _ vs _ h (NegationHere.negation {b = b} {ts = ts} g) l =
      carry s table (operand_emitted place b) (not_entry (emitting p (numbers n))) (emitting p₁ (numbers m))
      (ap not_entry (same_start s table n t z m em p) ∙ ap (λ (w : List ℕ). emitting w (numbers m)) (sym e₁)) p' r vs
      (f.says ts vs b (after_seen s table n t z m em Fixed.bang ts h) g) l

  pub negation_done : Emits (NegationHere place) (expression_emitted place place x) s table n p p' r
  negation_done = record { says = negation_says; on = omega (arith, seen_on s table n t z m em, f.on) }

-- ---- base operator base

not_dot : (o : Operator) → Reading.operator_kind o ≡ 7 → ⊥
unfolding Reading.operator_kind
not_dot Operator.plus e = absurd (omega arith)
not_dot Operator.minus e = absurd (omega arith)
not_dot Operator.times e = absurd (omega arith)
not_dot Operator.over e = absurd (omega arith)
not_dot Operator.less e = absurd (omega arith)
not_dot Operator.join e = absurd (omega arith)
not_dot Operator.equal e = absurd (omega arith)
not_dot Operator.and e = absurd (omega arith)
not_dot Operator.or e = absurd (omega arith)

module _ (s : List ℕ) (table : List (List ℕ)) (place : Place) (x : ℕ) (n : Next) (p : List ℕ) (m : Next) (em : m ≡ take_expression n n.at) (p₁ : List ℕ) (u : Next)
    (f : Emits (BaseHere place) (base_emitted place n.expressions) s table m p p₁ u)
    (p₂ : List ℕ) (v : Next) (o : EmitsAny OperatorHere (operator_emitted x n.expressions) s u p₁ p₂ v) (p' : List ℕ) (r : Next)
    (g : Emits (BaseHere place) (operand_emitted place) s table v p₂ p' r) where
  binary_says : (us vs : List Symbol) (e : Expression Written) → Ahead s table n us → BinaryHere place us e vs → Small (expression_emitted place place x e (emitting p (numbers n))).next →
      Emitted s table (expression_emitted place place x e (emitting p (numbers n))) p' r vs
  unfolding expression_emitted operand_emitted resolve_expression emit_expression operator_emitted
  binary_says us vs _ h (BinaryHere.binary {o = j} {a = a} {b = b} {us = ws} ha hb) l =
      let t = operand_emitted place a (emitting p (numbers n)) in
      let l₁ = operand_before place b (operator_emitted x n.expressions j t) l in
      let first = (operand_done s table place n p m em p₁ u f).says us _ a h ha l₁ in
      let second = (o.by table).says _ ws j first.ahead OperatorHere.here (subst (λ (a : Emitting). Small a.next) (sym first.is) l₁) in
      carry s table (operand_emitted place b) (operator_emitted x n.expressions j t) (emitting p₂ (numbers v)) (ap (operator_emitted x n.expressions j) (sym first.is) ∙ sym second.is) p' r vs
      (g.says ws vs b second.ahead hb) l

  pub binary_done : Emits (BinaryHere place) (expression_emitted place place x) s table n p p' r
  binary_done = record { says = binary_says; on = omega (arith, f.on, o.on, g.on, ap (λ (t : Next). t.at) em) }

-- ---- `frame` `:` `[` slots `]`

module _ (s : List ℕ) (table : List (List ℕ)) (inner : Place) (x : ℕ) (n : Next) (p p₁ : List ℕ) (m : Next) (o : FrameOpened s x n p p₁ m) where
  pub frame_none : m.at ≤ n.at → Emits (FrameHere inner) (expression_emitted inner inner x) s table n p p₁ m
  unfolding front_kind kind_of fixed_kind
  frame_none l = record { says = λ us vs e h g a. absurd (go us vs e h g); on = o.on }
    where
      back : n.at < m.at → ⊥
      back a = omega arith

      go : (us vs : List Symbol) (e : Expression Written) → Ahead s table n us → FrameHere inner us e vs → ⊥
      go _ vs _ h (FrameHere.frame {ss = ss} {ts = ts} fits d) = back (o.says table ts _ ss (place_of inner) h d refl).further

  module _ (p' : List ℕ) (u : Next) (f : Emits (SlotsHere inner) (slots_emitted inner) s table m p₁ p' u) (r : Next) (z : Skipped s u 13 r) where
    frame_says : (us vs : List Symbol) (e : Expression Written) → Ahead s table n us → FrameHere inner us e vs → Small (expression_emitted inner inner x e (emitting p (numbers n))).next →
        Emitted s table (expression_emitted inner inner x e (emitting p (numbers n))) p' r vs
    unfolding expression_emitted slots_emitted resolve_expression front_kind kind_of fixed_kind
    frame_says _ vs _ h (FrameHere.frame {ss = ss} {ts = ts} fits d) a =
        let b = o.says table ts _ ss (place_of inner) h d refl in
        rw b.whole
        (closed s table u r Fixed.close_square z _ p' vs
        (f.says ts _ ss b.ahead (record { slots = d; ends = refl; fits = fits }) (rw b.whole at a)))

    pub frame_done : Emits (FrameHere inner) (expression_emitted inner inner x) s table n p p' r
    frame_done = record { says = frame_says; on = omega (arith, o.on, f.on, z.pass.on) }

-- ---- An expression

operator_is : (o : Operator) → is_operator (Reading.operator_kind o) ≡ true
unfolding is_operator Reading.operator_kind
operator_is Operator.plus = refl
operator_is Operator.minus = refl
operator_is Operator.times = refl
operator_is Operator.over = refl
operator_is Operator.less = refl
operator_is Operator.join = refl
operator_is Operator.equal = refl
operator_is Operator.and = refl
operator_is Operator.or = refl

ends_none : (vs : List Symbol) → Ends vs → true ≡ is_operator (front_kind vs) → ⊥
unfolding is_operator
ends_none vs h e = go (leb 16 (front_kind vs)) (leb (front_kind vs) 24) refl refl e
  where
    go : (a b : Bool) → leb 16 (front_kind vs) ≡ a → leb (front_kind vs) 24 ≡ b → true ≡ (a && b) → ⊥
    go true true f g e = h.no_operator (leb-true 16 (front_kind vs) f) (leb-true (front_kind vs) 24 g)
    go true false f g e = true≢false e
    go false b f g e = true≢false e

module _ (s : List ℕ) (table : List (List ℕ)) (place inner : Place) (x : ℕ) (n : Next) (p : List ℕ) (k : ℕ) (h : KindAt s n.at k) (p' : List ℕ) (r : Next) where
  abbrev Told : List Symbol → List Symbol → Expression Written → Type 0
  Told us vs e = Ahead s table n us → Ends vs → PlaceOk place → (place.in_code ≡ false → NoOperation e) → FrameFits inner e → front_kind us ≡ k →
      Small (expression_emitted place inner x e (emitting p (numbers n))).next →
      Emitted s table (expression_emitted place inner x e (emitting p (numbers n))) p' r vs

  by_first : ((us vs : List Symbol) (e : Expression Written) → Expression⊢ us e vs → Told us vs e) → n.at ≤ r.at → Emits (ExpressionHere place inner) (expression_emitted place inner x) s table n p p' r
  by_first f l = record { says = λ us vs e a g c. f us vs e g.expression a g.ends g.ok g.plain g.within (kind_here s table n us k h a) c; on = l }

  pub expression_frame : k ≡ 0 → Emits (FrameHere inner) (expression_emitted inner inner x) s table n p p' r → Emits (ExpressionHere place inner) (expression_emitted place inner x) s table n p p' r
  unfolding front_kind kind_of fixed_kind expression_emitted resolve_expression
  expression_frame e f = by_first go f.on
    where
      nine : ◌≡◌ {A = ℕ} 9 0 → ⊥
      nine q = omega arith

      go : (us vs : List Symbol) (e : Expression Written) → Expression⊢ us e vs → Told us vs e
      go us vs _ (Expression⊢.base d) a b ok z w g c = absurd (not_base 0 refl us _ _ d (g ∙ e))
      go us vs _ (Expression⊢.not d) a b ok z w g c = absurd (nine (g ∙ e))
      go us vs _ (Expression⊢.operation d i) a b ok z w g c = absurd (not_base 0 refl us _ _ d (g ∙ e))
      go us vs e (Expression⊢.frame (Frame⊢.brackets {ss = ss} d)) a b ok z w g c = f.says us vs e a (FrameHere.frame (w.slots ss refl) d) c

  pub expression_not : k ≡ 9 → Emits (NegationHere place) (expression_emitted place place x) s table n p p' r → Emits (ExpressionHere place inner) (expression_emitted place inner x) s table n p p' r
  unfolding front_kind kind_of fixed_kind expression_emitted resolve_expression
  expression_not e f = by_first go f.on
    where
      zero : ◌≡◌ {A = ℕ} 0 9 → ⊥
      zero q = omega arith

      go : (us vs : List Symbol) (e : Expression Written) → Expression⊢ us e vs → Told us vs e
      go us vs _ (Expression⊢.base d) a b ok z w g c = absurd (not_base 9 refl us _ _ d (g ∙ e))
      go us vs e (Expression⊢.not d) a b ok z w g c = f.says us vs e a (NegationHere.negation (record { base = d; no_dot = b.no_dot; ok = ok })) c
      go us vs _ (Expression⊢.operation d i) a b ok z w g c = absurd (not_base 9 refl us _ _ d (g ∙ e))
      go us vs _ (Expression⊢.frame (Frame⊢.brackets d)) a b ok z w g c = absurd (zero (g ∙ e))

  module _ (nz : k ≡ 0 → ⊥) (nn : k ≡ 9 → ⊥) where
    -- a base, where no operation is here
    base_only : ((us vs : List Symbol) (o : Operator) (u v : Base Written) → Ahead s table n us → Base⊢ us u (Symbol.fixed (Fixed.operator o) ∷ vs) →
        (place.in_code ≡ false → NoOperation (Expression.operation o u v)) → ⊥) →
        Emits (BaseHere place) (base_emitted place x) s table n p p' r → Emits (ExpressionHere place inner) (expression_emitted place inner x) s table n p p' r
    unfolding front_kind kind_of fixed_kind expression_emitted base_emitted resolve_expression emit_expression
    base_only none f = by_first go f.on
      where
        go : (us vs : List Symbol) (e : Expression Written) → Expression⊢ us e vs → Told us vs e
        go us vs _ (Expression⊢.base {b = j} d) a b ok z w g c = f.says us vs j a (record { base = d; no_dot = b.no_dot; ok = ok }) c
        go us vs _ (Expression⊢.not d) a b ok z w g c = absurd (nn (sym g))
        go us vs _ (Expression⊢.operation d i) a b ok z w g c = absurd (none us _ _ _ _ a d z)
        go us vs _ (Expression⊢.frame (Frame⊢.brackets d)) a b ok z w g c = absurd (nz (sym g))

    pub expression_outside : place.in_code ≡ false → Emits (BaseHere place) (base_emitted place x) s table n p p' r → Emits (ExpressionHere place inner) (expression_emitted place inner x) s table n p p' r
    unfolding NoOperation
    expression_outside out f = base_only (λ us vs o u v a d z. z out) f

    module _ (t : Bool) (o : OperatorAfter s n.at t) where
      after : (us vs : List Symbol) (b : Base Written) → Ahead s table n us → Base⊢ us b vs → (front_kind vs ≡ 7 → ⊥) → t ≡ is_operator (front_kind vs)
      after us vs b a d nd = o.is table n.strings n.codes a.tokens b vs a.reads (rw a.are at d) nd

      pub expression_binary : t ≡ true → Emits (BinaryHere place) (expression_emitted place place x) s table n p p' r → Emits (ExpressionHere place inner) (expression_emitted place inner x) s table n p p' r
      unfolding front_kind kind_of fixed_kind expression_emitted resolve_expression
      expression_binary e f = by_first go f.on
        where
          go : (us vs : List Symbol) (e : Expression Written) → Expression⊢ us e vs → Told us vs e
          go us vs _ (Expression⊢.base d) a b ok z w g c = absurd (ends_none vs b (sym e ∙ after us vs _ a d b.no_dot))
          go us vs _ (Expression⊢.not d) a b ok z w g c = absurd (nn (sym g))
          go us vs e (Expression⊢.operation {o = j} d i) a b ok z w g c =
              f.says us vs e a (BinaryHere.binary (record { base = d; no_dot = not_dot j; ok = ok }) (record { base = i; no_dot = b.no_dot; ok = ok })) c
          go us vs _ (Expression⊢.frame (Frame⊢.brackets d)) a b ok z w g c = absurd (nz (sym g))

      pub expression_base : t ≡ false → Emits (BaseHere place) (base_emitted place x) s table n p p' r → Emits (ExpressionHere place inner) (expression_emitted place inner x) s table n p p' r
      unfolding front_kind kind_of fixed_kind
      expression_base e f = base_only (λ us vs j u v a d z. false≢true (sym e ∙ after us _ u a d (not_dot j) ∙ operator_is j)) f

-- ---- An expression as the next expression

module _ (s : List ℕ) (table : List (List ℕ)) (place inner : Place) (n : Next) (p : List ℕ) (m : Next) (em : m ≡ take_expression n n.at) (p' : List ℕ) (r : Next)
    (f : Emits (ExpressionHere place inner) (expression_emitted place inner n.expressions) s table m p p' r) where
  right_says : (us vs : List Symbol) (e : Expression Written) → Ahead s table n us → ExpressionHere place inner us e vs → Small (right_emitted place inner e (emitting p (numbers n))).next →
      Emitted s table (right_emitted place inner e (emitting p (numbers n))) p' r vs
  unfolding right_emitted expression_emitted
  right_says us vs e h g l =
      let next : numbers m ≡ one_expression (numbers n) = ap (λ (t : Next). numbers t) em ∙ expression_next n n.at (expression_before _ n.expressions _ l) in
      rw (← next) (f.says us vs e (rw em (ahead_same s table n (take_expression n n.at) us refl refl refl h)) g (rw next l))

  pub right_done : Emits (ExpressionHere place inner) (right_emitted place inner) s table n p p' r
  right_done = record { says = right_says; on = omega (arith, f.on, ap (λ (t : Next). t.at) em) }
