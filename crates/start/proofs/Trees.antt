-- What is found among the tokens of a source is what its tree has. Assumes nothing.
use mathlib.Core.Path.{◌≡◌, refl, sym, ap, ◌∙◌}
use mathlib.Core.Bool.{Bool, true, false, ◌||◌, not, true≢false, false≢true}
use mathlib.Core.List.{List, [], ◌∷◌}
use mathlib.Core.Option.{Option, none, some}
use Prim.Native.Nat.{ℕ}
use native.Mathlib.Omega.{arith}
use lib.Dec.{eqb}
use borrow.Author.Tests.{eq-eqb, ne_eqb}
use Rattle.framed.specs.Common.{when◌then◌else◌, bytes, any, same}
use Rattle.framed.specs.Tokens.{Token, Fixed, Operator}
use Rattle.framed.specs.Symbols.{Symbol, number_in, numbered, symbols, name_table}
use Rattle.framed.specs.Tree.{Written, Base, Expression, Slots}
use Rattle.framed.specs.Grammar.{Path⊢, Base⊢, Expression⊢, Frame⊢, Slots⊢, Source}
use Rattle.framed.specs.Paths.{Place, outside_code, in_code, within_slot, program_place}
use Rattle.framed.specs.Meaning.{outside, misplaced, base_pieces, expression_pieces, slots_pieces, pieces, slot_of, frame_in, code_in, main_start, is_none}
use Rattle.framed.proofs.General.{some_inj}
use Rattle.framed.proofs.ParseExact.{parse_sound}
use Rattle.source.specs.Positions.{rest}
use Rattle.token.specs.Reading.{token_kind, fixed_kind}
use Rattle.sweep.proofs.Lists.{any_both}
use Rattle.sweep.specs.Kinds.{kind_of, front_kind}
use Rattle.std.specs.Prelude.{Option as Perhaps, None, Some}
use Rattle.std.specs.Option.{is_some}
use Rattle.slots.specs.Own.{Own, own, bytes_of}
use Rattle.slots.proofs.Numbers.{equal_numbers, Known, table_knows}
use Rattle.slots.proofs.Pairs.{Pairs, pairs}
use Rattle.slots.proofs.Trees.{slots_at, Agrees, slots_agree}
use Rattle.start.proofs.Laws.{stop, go_on}
use Rattle.start.specs.Find.{and_then, after_kind, first_slot, find, value, opening, start_value, Begins, nowhere, here, Leads, HasStart}

-- ---- Tokens by their symbols

symbol_inj : {x y : Symbol} {us vs : List Symbol} → x ∷ us ≡ y ∷ vs → x ≡ y
symbol_inj e = cc

rest_same : {x y : Symbol} {us vs : List Symbol} → x ∷ us ≡ y ∷ vs → us ≡ vs
rest_same e = cc

slot_none : (n : ℕ) → slot_of {P = Written} n Slots.no_slots ≡ none
unfolding slot_of
slot_none n = refl

slot_here : (n m : ℕ) (a : Expression Written) (ss : Slots Written) → eqb n m ≡ true → slot_of n (Slots.slot m a ss) ≡ some a
unfolding slot_of
slot_here n m a ss e = rw (e, slot_of)

slot_later : (n m : ℕ) (a : Expression Written) (ss : Slots Written) → eqb n m ≡ false → slot_of n (Slots.slot m a ss) ≡ slot_of n ss
unfolding slot_of
slot_later n m a ss e = rw (e, slot_of)

module _ (table : List (List ℕ)) where
  -- tokens whose first symbol is fixed
  record Fixed_first (f : Fixed) (k c : ℕ) (ts : List Token) (us : List Symbol) : Type 0 where
    left : List Token
    first : ts ≡ Token.fixed f ∷ left
    numbers : numbered table k c left ≡ us
    known : Known table left

  fixed_first : (f : Fixed) (k c : ℕ) {ts : List Token} {us : List Symbol} → Known table ts → numbered table k c ts ≡ Symbol.fixed f ∷ us → Fixed_first f k c ts us
  unfolding numbered
  fixed_first f k c Known.nothing e = absurd (let z : ◌≡◌ {A = ℕ} 0 1 = cc in omega arith)
  fixed_first f k c (Known.name d n) e = absurd (let z : ◌≡◌ {A = ℕ} 0 1 = cc in omega arith)
  fixed_first f k c (Known.integer n) e = absurd (let z : ◌≡◌ {A = ℕ} 0 1 = cc in omega arith)
  fixed_first f k c (Known.string n) e = absurd (let z : ◌≡◌ {A = ℕ} 0 1 = cc in omega arith)
  fixed_first f k c (Known.code n) e = absurd (let z : ◌≡◌ {A = ℕ} 0 1 = cc in omega arith)
  fixed_first f k c (Known.fixed {f = g} {ts = ts} n) e =
      record { left = ts; first = ap (λ (h : Fixed). Token.fixed h ∷ ts) (fixed_inj (symbol_inj e)); numbers = rest_same e; known = n }
    where
      fixed_inj : {g f : Fixed} → Symbol.fixed g ≡ Symbol.fixed f → g ≡ f
      fixed_inj e = cc

  -- it is taken by its kind
  take_fixed : (f : Fixed) (k c : ℕ) {ts : List Token} {us : List Symbol} (x : Fixed_first f k c ts us) → after_kind (fixed_kind f) ts ≡ some x.left
  unfolding after_kind token_kind
  take_fixed f k c x = rw (x.first, eq-eqb (fixed_kind f) (fixed_kind f) refl)

  -- tokens that begin otherwise
  not_taken : (j k c : ℕ) (ts : List Token) → (front_kind (numbered table k c ts) ≡ j → ⊥) → after_kind j ts ≡ none
  unfolding after_kind numbered front_kind kind_of token_kind
  not_taken j k c [] n = refl
  not_taken j k c (Token.name w ∷ ts) n = rw (ne_eqb 25 j n)
  not_taken j k c (Token.integer z ∷ ts) n = rw (ne_eqb 26 j n)
  not_taken j k c (Token.string w ∷ ts) n = rw (ne_eqb 27 j n)
  not_taken j k c (Token.code ∷ ts) n = rw (ne_eqb 28 j n)
  not_taken j k c (Token.fixed f ∷ ts) n = rw (ne_eqb (fixed_kind f) j n)

  -- ---- A slot's value

  data Valued : Option (List Token) → Option (Expression Written) → Type 0 where
    neither : Valued none none
    both : (k c : ℕ) {ts : List Token} {us vs : List Symbol} {a : Expression Written} → Known table ts → Expression⊢ us a vs → numbered table k c ts ≡ Symbol.fixed Fixed.assign ∷ us
        → Valued (some ts) (some a)

  slot_valued : (w : List ℕ) {os : List (Own Token)} {ps qs : List (Own Symbol)} {ss : Slots Written} → Pairs table os ps → ps ≡ qs → Agrees qs ss → Valued (first_slot w os) (slot_of (number_in table w) ss)
  unfolding first_slot bytes_of
  slot_valued w Pairs.none e Agrees.none = rw (slot_none (number_in table w)) neither
  slot_valued w Pairs.none e (Agrees.more d a) = absurd (let z : ◌≡◌ {A = ℕ} 0 1 = cc in omega arith)
  slot_valued w (Pairs.more k c d n q) e Agrees.none = absurd (let z : ◌≡◌ {A = ℕ} 0 1 = cc in omega arith)
  slot_valued w (Pairs.more {w = v} {ts = ts} {os = os} k c d n q) e (Agrees.more {n = m} {us = us} {a = b} {ss = ss} h a) =
      go (same w v) refl (slot_valued w q (tail_same e) a)
    where
      name_number : {x y : ℕ} {us vs : List Symbol} {ps qs : List (Own Symbol)} → own (Symbol.name x) us ∷ ps ≡ own (Symbol.name y) vs ∷ qs → x ≡ y
      name_number e = cc

      follows : {x y : ℕ} {us vs : List Symbol} {ps qs : List (Own Symbol)} → own (Symbol.name x) us ∷ ps ≡ own (Symbol.name y) vs ∷ qs → us ≡ vs
      follows e = cc

      tail_same : {x y : Own Symbol} {ps qs : List (Own Symbol)} → x ∷ ps ≡ y ∷ qs → ps ≡ qs
      tail_same e = cc

      number_test : eqb (number_in table w) m ≡ same w v
      number_test = ap (eqb (number_in table w)) (sym (name_number e)) ∙ equal_numbers table w v d

      go : (t : Bool) → same w v ≡ t → Valued (first_slot w os) (slot_of (number_in table w) ss)
          → Valued (when same w v then some ts else first_slot w os) (slot_of (number_in table w) (Slots.slot m b ss))
      go true x i = rw (x, slot_here (number_in table w) m b ss (number_test ∙ x)) (both k c n h (follows e))
      go false x i = rw (x, slot_later (number_in table w) m b ss (number_test ∙ x)) i

  -- the tokens from a value on
  data Value : Option (List Token) → Option (Expression Written) → Type 0 where
    neither : Value none none
    both : (k c : ℕ) {ts : List Token} {vs : List Symbol} {a : Expression Written} → Known table ts → Expression⊢ (numbered table k c ts) a vs → Value (some ts) (some a)

  after_assign : {o : Option (List Token)} {x : Option (Expression Written)} → Valued o x → Value (and_then o (after_kind 6)) x
  unfolding and_then fixed_kind
  after_assign Valued.neither = Value.neither
  after_assign (Valued.both k c {vs = vs} {a = a} n d e) =
      let x = fixed_first Fixed.assign k c n e in
      rw (take_fixed Fixed.assign k c x) (Value.both k c {ts = x.left} {vs = vs} {a = a} x.known (rw x.numbers d))

  value_is : (w : List ℕ) (k c : ℕ) {ts : List Token} {us : List Symbol} {ss : Slots Written} → Known table ts → Slots⊢ (numbered table k c ts) ss (Symbol.fixed Fixed.close_square ∷ us)
      → Value (value w ts) (slot_of (number_in table w) ss)
  unfolding value find slots_at
  value_is w k c n d = after_assign (slot_valued w (pairs table 0 0 k c n) refl (slots_agree 0 refl d refl))

  -- ---- A frame's slots

  data Inner : Option (List Token) → Slots Written → Type 0 where
    no_frame : Inner none Slots.no_slots
    slots : (k c : ℕ) {ts : List Token} {us : List Symbol} {ss : Slots Written} → Known table ts → Slots⊢ (numbered table k c ts) ss (Symbol.fixed Fixed.close_square ∷ us) → Inner (some ts) ss

  opened : (k c : ℕ) {ts : List Token} {us vs : List Symbol} {ss : Slots Written} → Known table ts → numbered table k c ts ≡ us → Frame⊢ us ss vs → Inner (opening ts) ss
  unfolding opening and_then fixed_kind
  opened k c n e (Frame⊢.brackets {ss = ss} {rest = us} d) =
      let x = fixed_first Fixed.frame k c n e in
      let y = fixed_first Fixed.colon k c x.known x.numbers in
      let z = fixed_first Fixed.open_square k c y.known y.numbers in
      rw (take_fixed Fixed.frame k c x, take_fixed Fixed.colon k c y, take_fixed Fixed.open_square k c z) (Inner.slots k c {ts = z.left} {us = us} {ss = ss} z.known (rw z.numbers d))

  -- what begins a base
  path_front : {us vs : List Symbol} {w : Written} → Path⊢ us w vs → (front_kind us ≡ 0 → ⊥) × (front_kind us ≡ 28 → ⊥)
  unfolding front_kind kind_of fixed_kind
  path_front (Path⊢.self d) = (λ e. absurd (omega arith), λ e. absurd (omega arith))
  path_front (Path⊢.up c d) = (λ e. absurd (omega arith), λ e. absurd (omega arith))

  base_front : {us vs : List Symbol} {b : Base Written} → Base⊢ us b vs → front_kind us ≡ 0 → ⊥
  unfolding front_kind kind_of
  base_front Base⊢.integer e = absurd (omega arith)
  base_front Base⊢.string e = absurd (omega arith)
  base_front (Base⊢.path d) e = (path_front d).0 e
  base_front (Base⊢.code d) e = absurd (omega arith)

  closed : (k c : ℕ) (ts : List Token) → (front_kind (numbered table k c ts) ≡ 0 → ⊥) → opening ts ≡ none
  unfolding opening and_then
  closed k c ts n = rw (not_taken 0 k c ts n)

  bang_front : (us : List Symbol) → front_kind (Symbol.fixed Fixed.bang ∷ us) ≡ 0 → ⊥
  unfolding front_kind kind_of fixed_kind
  bang_front us e = omega arith

  expression_inner : (k c : ℕ) {ts : List Token} {us vs : List Symbol} {a : Expression Written} → Known table ts → numbered table k c ts ≡ us → Expression⊢ us a vs → Inner (opening ts) (frame_in (some a))
  unfolding frame_in
  expression_inner k c {ts} n e (Expression⊢.base d) = rw (closed k c ts (rw e (base_front d))) Inner.no_frame
  expression_inner k c {ts} n e (Expression⊢.not {ts = us} d) = rw (closed k c ts (rw e (bang_front us))) Inner.no_frame
  expression_inner k c {ts} n e (Expression⊢.operation b d) = rw (closed k c ts (rw e (base_front b))) Inner.no_frame
  expression_inner k c n e (Expression⊢.frame d) = opened k c n e d

  value_inner : {o : Option (List Token)} {x : Option (Expression Written)} → Value o x → Inner (and_then o opening) (frame_in x)
  unfolding and_then frame_in
  value_inner Value.neither = Inner.no_frame
  value_inner (Value.both k c n d) = expression_inner k c n refl d

  inner_value : (w : List ℕ) {o : Option (List Token)} {ss : Slots Written} → Inner o ss → Value (and_then o (value w)) (slot_of (number_in table w) ss)
  unfolding and_then slot_of
  inner_value w Inner.no_frame = Value.neither
  inner_value w (Inner.slots k c n d) = value_is w k c n d

  start_is : (k c : ℕ) {ts : List Token} {ss : Slots Written} {vs : List Symbol} → Known table ts → Frame⊢ (numbered table k c ts) ss vs
      → Value (start_value ts) (slot_of (number_in table (bytes "start")) (frame_in (slot_of (number_in table (bytes "Main")) ss)))
  unfolding start_value
  start_is k c n d = inner_value (bytes "start") (value_inner (inner_value (bytes "Main") (opened k c n refl d)))

-- ---- No operator outside code

or_left : (a b : Bool) → (a || b) ≡ false → a ≡ false
or_left true b e = absurd (true≢false e)
or_left false b e = refl

or_right : (a b : Bool) → (a || b) ≡ false → b ≡ false
or_right true b e = absurd (true≢false e)
or_right false b e = e

-- the value of a slot, and the place inside it
record Clean (p : Place) (x : Option (Expression Written)) : Type 0 where
  inside : Place
  is_outside : outside inside ≡ true
  pieces_clean : (a : Expression Written) → x ≡ some a → any misplaced (expression_pieces p inside a) ≡ false

slot_outside : (n : ℕ) (p : Place) → outside p ≡ true → outside (within_slot n p) ≡ true
unfolding outside within_slot
slot_outside n (outside_code ns) e = refl
slot_outside n (in_code ns) e = absurd (false≢true e)

slot_clean : (n : ℕ) (p : Place) (ss : Slots Written) → outside p ≡ true → any misplaced (slots_pieces p ss) ≡ false → Clean p (slot_of n ss)
unfolding slot_of base_pieces any misplaced
slot_clean n p Slots.no_slots o e = record { inside = p; is_outside = o; pieces_clean = λ a h. absurd (let z : ◌≡◌ {A = ℕ} 0 1 = cc in omega arith) }
slot_clean n p (Slots.slot m a ss) o e =
    go (eqb n m) (or_left (any misplaced (expression_pieces p (within_slot m p) a)) (any misplaced (slots_pieces p ss)) both)
    (slot_clean n p ss o (or_right (any misplaced (expression_pieces p (within_slot m p) a)) (any misplaced (slots_pieces p ss)) both))
  where
    both : (any misplaced (expression_pieces p (within_slot m p) a) || any misplaced (slots_pieces p ss)) ≡ false
    both = sym (any_both misplaced (expression_pieces p (within_slot m p) a) (slots_pieces p ss)) ∙ e

    go : (t : Bool) → any misplaced (expression_pieces p (within_slot m p) a) ≡ false → Clean p (slot_of n ss) → Clean p (elim t [ true ↦ some a | false ↦ slot_of n ss ])
    go true h i = record { inside = within_slot m p; is_outside = slot_outside m p o; pieces_clean = λ b g. rw (← some_inj g) h }
    go false h i = i

-- the frame in it
record CleanSlots (ss : Slots Written) : Type 0 where
  at : Place
  is_outside : outside at ≡ true
  pieces_clean : any misplaced (slots_pieces at ss) ≡ false

frame_clean : (p : Place) (x : Option (Expression Written)) → outside p ≡ true → Clean p x → CleanSlots (frame_in x)
unfolding frame_in base_pieces any misplaced
frame_clean p none o c = record { at = p; is_outside = o; pieces_clean = refl }
frame_clean p (some (Expression.base b)) o c = record { at = p; is_outside = o; pieces_clean = refl }
frame_clean p (some (Expression.not b)) o c = record { at = p; is_outside = o; pieces_clean = refl }
frame_clean p (some (Expression.operation q a b)) o c = record { at = p; is_outside = o; pieces_clean = refl }
frame_clean p (some (Expression.frame ss)) o c = record { at = c.inside; is_outside = c.is_outside; pieces_clean = c.pieces_clean (Expression.frame ss) refl }

-- ---- The code

bang_code : (us : List Symbol) → front_kind (Symbol.fixed Fixed.bang ∷ us) ≡ 28 → ⊥
unfolding front_kind kind_of fixed_kind
bang_code us e = omega arith

frame_code : (us : List Symbol) → front_kind (Symbol.fixed Fixed.frame ∷ us) ≡ 28 → ⊥
unfolding front_kind kind_of fixed_kind
frame_code us e = omega arith

none_not : (b : Base Written) → true ≡ is_none (code_in (some (Expression.not b)))
unfolding is_none code_in
none_not b = refl

none_frame : (ss : Slots Written) → true ≡ is_none (code_in (some (Expression.frame ss)))
unfolding is_none code_in
none_frame ss = refl

program_outside : outside program_place ≡ true
unfolding outside
program_outside = refl

module _ (table : List (List ℕ)) where
  code_taken : (k c j : ℕ) (ts : List Token) {us : List Symbol} → numbered table k c ts ≡ Symbol.code j ∷ us → is_none (after_kind 28 ts) ≡ false
  unfolding numbered after_kind token_kind is_none
  code_taken k c j [] e = absurd (let z : ◌≡◌ {A = ℕ} 0 1 = cc in omega arith)
  code_taken k c j (Token.name w ∷ ts) e = absurd (let z : ◌≡◌ {A = ℕ} 0 1 = cc in omega arith)
  code_taken k c j (Token.integer z ∷ ts) e = absurd (let z : ◌≡◌ {A = ℕ} 0 1 = cc in omega arith)
  code_taken k c j (Token.string w ∷ ts) e = absurd (let z : ◌≡◌ {A = ℕ} 0 1 = cc in omega arith)
  code_taken k c j (Token.code ∷ ts) e = refl
  code_taken k c j (Token.fixed f ∷ ts) e = absurd (let z : ◌≡◌ {A = ℕ} 0 1 = cc in omega arith)

  -- a value that begins with `code` and is no operation is a code
  code_front : (k c : ℕ) (ts : List Token) {us vs : List Symbol} {b : Base Written} → numbered table k c ts ≡ us → Base⊢ us b vs → is_none (after_kind 28 ts) ≡ is_none (code_in (some (Expression.base b)))
  unfolding code_in is_none front_kind kind_of
  code_front k c ts e Base⊢.integer = rw (not_taken table 28 k c ts (rw e (λ h. absurd (omega arith))))
  code_front k c ts e Base⊢.string = rw (not_taken table 28 k c ts (rw e (λ h. absurd (omega arith))))
  code_front k c ts e (Base⊢.path d) = rw (not_taken table 28 k c ts (rw e (path_front table d).1))
  code_front k c ts e (Base⊢.code {k = j} d) = code_taken k c j ts e

  value_code : (k c : ℕ) (ts : List Token) {us vs : List Symbol} {a : Expression Written} → numbered table k c ts ≡ us → Expression⊢ us a vs
      → ((q : Operator) (b e : Base Written) → some a ≡ some (Expression.operation q b e) → ⊥) → is_none (after_kind 28 ts) ≡ is_none (code_in (some a))
  unfolding is_none
  value_code k c ts e (Expression⊢.base d) n = code_front k c ts e d
  value_code k c ts e (Expression⊢.not {b = b} {ts = us} d) n = rw (not_taken table 28 k c ts (λ h. bang_code us (sym (ap front_kind e) ∙ h))) (none_not b)
  value_code k c ts e (Expression⊢.operation {o} {a} {b} f d) n = absurd (n o a b refl)
  value_code k c ts e (Expression⊢.frame {ss = ss} (Frame⊢.brackets {ts = us} d)) n =
      rw (not_taken table 28 k c ts (λ h. frame_code (Symbol.fixed Fixed.colon ∷ Symbol.fixed Fixed.open_square ∷ us) (sym (ap front_kind e) ∙ h))) (none_frame ss)

  code_is : {o : Option (List Token)} {x : Option (Expression Written)} → Value table o x → ((q : Operator) (a b : Base Written) → x ≡ some (Expression.operation q a b) → ⊥)
      → is_none (and_then o (after_kind 28)) ≡ is_none (code_in x)
  unfolding and_then code_in is_none
  code_is Value.neither n = refl
  code_is (Value.both k c {ts = ts} m d) n = value_code k c ts refl d n

-- the value is no operation
no_operation : (p : Place) (x : Option (Expression Written)) → outside p ≡ true → Clean p x → (q : Operator) (a b : Base Written) → x ≡ some (Expression.operation q a b) → ⊥
unfolding base_pieces any misplaced
no_operation p x o c q a b e = true≢false (sym o ∙ or_left (outside p) _ (c.pieces_clean (Expression.operation q a b) e))

pub start_found : (ts : List Token) (ss : Slots Written) → Source (symbols ts) ss → any misplaced (pieces ss) ≡ false
    → is_none (and_then (start_value ts) (after_kind 28)) ≡ is_none (main_start (name_table ts) ss)
unfolding symbols main_start pieces any misplaced
start_found ts ss d e =
    let main = slot_clean (number_in (name_table ts) (bytes "Main")) program_place ss program_outside e in
    let inner = frame_clean program_place (slot_of (number_in (name_table ts) (bytes "Main")) ss) program_outside main in
    let last = slot_clean (number_in (name_table ts) (bytes "start")) inner.at _ inner.is_outside inner.pieces_clean in
    code_is (name_table ts) (start_is (name_table ts) 0 0 (table_knows ts) d) (no_operation inner.at _ inner.is_outside last)

-- ---- The answer

begun : {s : List ℕ} {p : ℕ} (o : Option (List Token)) → Begins s o (Some p) → is_none o ≡ false
unfolding is_none
begun o (here e) = refl

not_begun : {s : List ℕ} (o : Option (List Token)) → Begins s o None → is_none o ≡ true
unfolding is_none
not_begun o nowhere = refl

module _ (s : List ℕ) (x : Perhaps ℕ) (mx : Leads start_value s 0 x) where
  pub has_none : x ≡ None → HasStart s false
  unfolding rest
  has_none e = record { is = λ ts ss f g h. sym (ap not (sym (start_found ts ss (parse_sound (symbols ts) g) h) ∙ not_begun _ ((stop start_value (after_kind 28) s 0 (rw e at mx)).is ts f))) }

  module _ (p : ℕ) (e : x ≡ Some p) (y : Perhaps ℕ) (my : Leads (after_kind 28) s p y) where
    chain : Leads (λ ts. and_then (start_value ts) (after_kind 28)) s 0 y
    chain = go_on start_value (after_kind 28) s 0 p y (rw e at mx) my

    has_other : y ≡ None → HasStart s false
    unfolding rest
    has_other i = record { is = λ ts ss f g h. sym (ap not (sym (start_found ts ss (parse_sound (symbols ts) g) h) ∙ not_begun _ ((rw i at chain).is ts f))) }

    has_code : (q : ℕ) → y ≡ Some q → HasStart s true
    unfolding rest
    has_code q i = record { is = λ ts ss f g h. sym (ap not (sym (start_found ts ss (parse_sound (symbols ts) g) h) ∙ begun _ ((rw i at chain).is ts f))) }

    pub has_last : (r : Bool) → r ≡ is_some y → HasStart s r
    has_last r q = go y refl
      where
        go : (z : Perhaps ℕ) → y ≡ z → HasStart s r
        go None e = rw (q ∙ ap is_some e) (has_other e)
        go (Some n) e = rw (q ∙ ap is_some e) (has_code n e)
