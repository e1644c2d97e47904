-- The bad frames found among the tokens of a source are those of its tree. Assumes nothing.
use mathlib.Core.Path.{◌≡◌, refl, sym, ap, ◌∙◌}
use mathlib.Core.Bool.{Bool, true, false, ◌&&◌, ◌||◌}
use mathlib.Core.List.{List, [], ◌∷◌, ◌++◌, map}
use Prim.Native.Nat.{ℕ, suc, ◌+◌, ◌<◌, ◌≤◌}
use native.Mathlib.Omega.{arith}
use lib.Dec.{eqb, ltb}
use lib.IntN.{ℤ}
use lib.ListN.{length, length-append, length-map}
use borrow.Author.Tests.{eq-eqb, ne_eqb, lt-ltb, le-ltb, eqb-true, eqb-false, ltb-true, ltb-false}
use Rattle.framed.specs.Common.{any, same, member, has_twice}
use Rattle.framed.specs.Tokens.{Token, Fixed, Operator}
use Rattle.framed.specs.Symbols.{Symbol, number_in, numbered, symbols, name_table}
use Rattle.framed.specs.Tree.{Written, Base, Expression, Slots, Instruction, Code}
use Rattle.framed.specs.Grammar.{Names⊢, Ups⊢, Path⊢, Base⊢, Expression⊢, Frame⊢, Slots⊢, Instruction⊢, Code⊢, Source}
use Rattle.framed.specs.Paths.{Place, within_slot, within_code, program_place}
use Rattle.framed.specs.Meaning.{Piece, expression, one, bad_frame, slot_names, base_pieces, expression_pieces, slots_pieces, instruction_pieces, code_pieces, pieces}
use Rattle.token.specs.Reading.{operator_kind, fixed_kind, token_kind}
use Rattle.sweep.proofs.Lists.{or_assoc, or_false, any_both}
use Rattle.sweep.specs.Kinds.{kind_of}
use Rattle.slots.specs.Own.{Own, own_slots, own_names, repeats, bytes_of, number_of, bad_slots, bad_frames}
use Rattle.slots.proofs.Numbers.{equal_numbers, Known, table_knows}
use Rattle.slots.proofs.Pairs.{Pairs, pairs}
use Rattle.slots.proofs.Trees.{slots_at, slots_agree, agree_names}

-- ---- Names again or too many

eqb_swap : (m n : ℕ) → eqb m n ≡ eqb n m
eqb_swap m n = go (eqb n m) refl
  where
    turn : (m n : ℕ) → (n ≡ m → ⊥) → (m ≡ n → ⊥)
    turn m n d e = d (omega arith)

    go : (t : Bool) → eqb n m ≡ t → eqb m n ≡ t
    go true e = eq-eqb m n (sym (eqb-true n m e))
    go false e = ne_eqb m n (turn m n (eqb-false n m e))

-- one of them is a name of `before`
meets : List ℕ → List ℕ → Bool
meets before ns = any (λ n. any (eqb n) before) ns

meets_more : (before : List ℕ) (n : ℕ) (ns : List ℕ) → meets (before ++ (n ∷ [])) ns ≡ (meets before ns || any (eqb n) ns)
unfolding any meets
meets_more before n [] = refl
meets_more before n (m ∷ ns) =
    rw (any_both (eqb m) before (n ∷ []), meets_more before n ns, eqb_swap m n) (shuffle (any (eqb m) before) (eqb n m) (any (λ k. any (eqb k) before) ns) (any (eqb n) ns))
  where
    shuffle : (a b c d : Bool) → ((a || (b || false)) || (c || d)) ≡ ((a || c) || (b || d))
    shuffle true b c d = refl
    shuffle false true true d = refl
    shuffle false true false d = refl
    shuffle false false c d = refl

repeats_is : (before ns : List ℕ) → length before ≤ 16 → repeats eqb before ns ≡ ((meets before ns || has_twice ns) || ltb 16 (length before + length ns))
unfolding repeats has_twice any meets member
repeats_is before [] l = sym (le-ltb 16 (length before + 0) (omega arith))
repeats_is before (n ∷ ns) l = go (ltb 15 (length before)) refl (λ h. repeats_is (before ++ (n ∷ [])) ns h)
  where
    long : 15 < length before → ltb 16 (length before + suc (length ns)) ≡ true
    long h = lt-ltb 16 (length before + suc (length ns)) (omega arith)

    same_length : length (before ++ (n ∷ [])) + length ns ≡ length before + suc (length ns)
    same_length = rw (length-append before (n ∷ [])) (omega arith)

    short : length before ≤ 15 → length (before ++ (n ∷ [])) ≤ 16
    short h = rw (length-append before (n ∷ [])) (omega arith)

    all : (p q r s h : Bool) → (p || true) ≡ (((p || r) || (s || h)) || true)
    all true q r s h = refl
    all false q true s h = refl
    all false q false true h = refl
    all false q false false true = refl
    all false q false false false = refl

    order : (p r s h z : Bool) → (p || (((r || s) || h) || z)) ≡ (((p || r) || (s || h)) || z)
    order true r s h z = refl
    order false true s h z = refl
    order false false s h z = refl

    go : (t : Bool) → ltb 15 (length before) ≡ t
        → (length (before ++ (n ∷ [])) ≤ 16 → repeats eqb (before ++ (n ∷ [])) ns ≡ ((meets (before ++ (n ∷ [])) ns || has_twice ns) || ltb 16 (length (before ++ (n ∷ [])) + length ns)))
        → (any (eqb n) before || (t || repeats eqb (before ++ (n ∷ [])) ns))
        ≡ (((any (eqb n) before || meets before ns) || (any (eqb n) ns || has_twice ns)) || ltb 16 (length before + suc (length ns)))
    go true e i = rw (long (ltb-true 15 (length before) e)) (all (any (eqb n) before) true (meets before ns) (any (eqb n) ns) (has_twice ns))
    go false e i =
        rw (i (short (ltb-false 15 (length before) e)), meets_more before n ns, same_length)
        (order (any (eqb n) before) (meets before ns) (any (eqb n) ns) (has_twice ns) (ltb 16 (length before + suc (length ns))))

meets_none : (ns : List ℕ) → meets [] ns ≡ false
unfolding meets any
meets_none [] = refl
meets_none (n ∷ ns) = meets_none ns

repeats_bad : (ns : List ℕ) → repeats eqb [] ns ≡ (has_twice ns || ltb 16 (length ns))
repeats_bad ns = repeats_is [] ns (omega arith) ∙ rw (meets_none ns, zero_add (length ns)) refl
  where
    zero_add : (n : ℕ) → 0 + n ≡ n
    zero_add n = omega arith

-- ---- The parts of a source

unfoldable bad_symbols : List Symbol → Bool
bad_symbols [] = false
bad_symbols (x ∷ us) = (eqb (kind_of x) 12 && repeats eqb [] (own_names number_of (slots_at 0 0 us))) || bad_symbols us

module _ (us : List Symbol) where
  b_name : (n : ℕ) → bad_symbols (Symbol.name n ∷ us) ≡ bad_symbols us
  unfolding bad_symbols kind_of
  b_name n = refl

  b_integer : (z : ℤ) → bad_symbols (Symbol.integer z ∷ us) ≡ bad_symbols us
  unfolding bad_symbols kind_of
  b_integer z = refl

  b_string : (n : ℕ) → bad_symbols (Symbol.string n ∷ us) ≡ bad_symbols us
  unfolding bad_symbols kind_of
  b_string n = refl

  b_code : (n : ℕ) → bad_symbols (Symbol.code n ∷ us) ≡ bad_symbols us
  unfolding bad_symbols kind_of
  b_code n = refl

  -- a fixed symbol other than `[`
  b_fixed : (f : Fixed) → eqb (fixed_kind f) 12 ≡ false → bad_symbols (Symbol.fixed f ∷ us) ≡ bad_symbols us
  unfolding bad_symbols kind_of
  b_fixed f e = rw e

  b_operator : (o : Operator) → bad_symbols (Symbol.fixed (Fixed.operator o) ∷ us) ≡ bad_symbols us
  unfolding fixed_kind operator_kind
  b_operator Operator.plus = b_fixed (Fixed.operator Operator.plus) refl
  b_operator Operator.minus = b_fixed (Fixed.operator Operator.minus) refl
  b_operator Operator.times = b_fixed (Fixed.operator Operator.times) refl
  b_operator Operator.over = b_fixed (Fixed.operator Operator.over) refl
  b_operator Operator.less = b_fixed (Fixed.operator Operator.less) refl
  b_operator Operator.join = b_fixed (Fixed.operator Operator.join) refl
  b_operator Operator.equal = b_fixed (Fixed.operator Operator.equal) refl
  b_operator Operator.and = b_fixed (Fixed.operator Operator.and) refl
  b_operator Operator.or = b_fixed (Fixed.operator Operator.or) refl

  b_open : bad_symbols (Symbol.fixed Fixed.open_square ∷ us) ≡ (repeats eqb [] (own_names number_of (slots_at 0 0 us)) || bad_symbols us)
  unfolding bad_symbols kind_of fixed_kind
  b_open = refl

-- one part after another
both : {x y : Bool} (a b z : Bool) → x ≡ (a || y) → y ≡ (b || z) → x ≡ ((a || b) || z)
both a b z e f = e ∙ ap (λ (t : Bool). a || t) f ∙ or_assoc a b z

names_bad : {ts rest : List Symbol} {ns : List ℕ} → Names⊢ ts ns rest → bad_symbols ts ≡ bad_symbols rest
unfolding fixed_kind
names_bad Names⊢.none = refl
names_bad (Names⊢.more {n = n} {ts = ts} d) = b_fixed (Symbol.name n ∷ ts) Fixed.dot refl ∙ b_name ts n ∙ names_bad d

ups_bad : {ts rest : List Symbol} {k : ℕ} → Ups⊢ ts k rest → bad_symbols ts ≡ bad_symbols rest
unfolding fixed_kind
ups_bad Ups⊢.none = refl
ups_bad (Ups⊢.more {ts = ts} d) = b_fixed (Symbol.fixed Fixed.up ∷ ts) Fixed.dot refl ∙ b_fixed ts Fixed.up refl ∙ ups_bad d

path_bad : {ts rest : List Symbol} {w : Written} → Path⊢ ts w rest → bad_symbols ts ≡ bad_symbols rest
unfolding fixed_kind
path_bad (Path⊢.self {ts = ts} d) = b_fixed ts Fixed.self refl ∙ names_bad d
path_bad (Path⊢.up {ts = ts} c d) = b_fixed ts Fixed.up refl ∙ ups_bad c ∙ names_bad d

held : List Piece → Bool
held ps = any bad_frame ps

mutual
  unfolding base_pieces any bad_frame fixed_kind held

  base_bad : (p : Place) {ts rest : List Symbol} {b : Base Written} → Base⊢ ts b rest → bad_symbols ts ≡ (any bad_frame (base_pieces p b) || bad_symbols rest)
  base_bad p (Base⊢.integer {z} {rest}) = b_integer rest z
  base_bad p (Base⊢.string {k} {rest}) = b_string rest k
  base_bad p (Base⊢.path d) = path_bad d
  base_bad p (Base⊢.code {k} {is} {ts} {rest} d) =
      b_code (Symbol.fixed Fixed.open_curly ∷ ts) k ∙ b_fixed ts Fixed.open_curly refl ∙ code_bad (within_code p) d
      ∙ ap (λ (t : Bool). any bad_frame (code_pieces (within_code p) is) || t) (b_fixed rest Fixed.close_curly refl)

  expression_bad : (p i : Place) {ts rest : List Symbol} {a : Expression Written} → Expression⊢ ts a rest → bad_symbols ts ≡ (any bad_frame (expression_pieces p i a) || bad_symbols rest)
  expression_bad p i (Expression⊢.base d) = base_bad p d
  expression_bad p i (Expression⊢.not {ts = ts} d) = b_fixed ts Fixed.bang refl ∙ base_bad p d
  expression_bad p i (Expression⊢.operation {o} {a} {b} {ts} {us} {rest} c d) =
      rw (any_both bad_frame (base_pieces p a) (one expression ∷ base_pieces p b)) (both (held (base_pieces p a)) (held (base_pieces p b)) (bad_symbols rest) (base_bad p c) (b_operator us o ∙ base_bad p d))
  expression_bad p i (Expression⊢.frame d) = frame_bad i d

  frame_bad : (i : Place) {ts rest : List Symbol} {ss : Slots Written} → Frame⊢ ts ss rest → bad_symbols ts ≡ (((has_twice (slot_names ss) || ltb 16 (length (slot_names ss))) || any bad_frame (slots_pieces i ss)) || bad_symbols rest)
  frame_bad i (Frame⊢.brackets {ss} {ts} {rest} d) =
      b_fixed (Symbol.fixed Fixed.colon ∷ Symbol.fixed Fixed.open_square ∷ ts) Fixed.frame refl ∙ b_fixed (Symbol.fixed Fixed.open_square ∷ ts) Fixed.colon refl ∙
      both (has_twice (slot_names ss) || ltb 16 (length (slot_names ss))) (held (slots_pieces i ss)) (bad_symbols rest) (b_open ts ∙ ap (λ (t : Bool). t || bad_symbols ts) (ap (repeats eqb []) (agree_names (slots_agree 0 refl d refl)) ∙ repeats_bad (slot_names ss)))
      (slots_bad i d ∙ ap (λ (t : Bool). any bad_frame (slots_pieces i ss) || t) (b_fixed rest Fixed.close_square refl))

  slots_bad : (p : Place) {ts rest : List Symbol} {ss : Slots Written} → Slots⊢ ts ss rest → bad_symbols ts ≡ (any bad_frame (slots_pieces p ss) || bad_symbols rest)
  slots_bad p Slots⊢.no_slots = refl
  slots_bad p (Slots⊢.last_slot {n} {e = a} {ts} {rest} d) =
      rw (any_both bad_frame (expression_pieces p (within_slot n p) a) []) (both (held (expression_pieces p (within_slot n p) a)) false (bad_symbols rest) (b_name (Symbol.fixed Fixed.assign ∷ ts) n ∙ b_fixed ts Fixed.assign refl ∙ expression_bad p (within_slot n p) d) refl)
  slots_bad p (Slots⊢.more_slots {n} {e = a} {ss} {ts} {us} {rest} c d) =
      rw (any_both bad_frame (expression_pieces p (within_slot n p) a) (slots_pieces p ss))
      (both (held (expression_pieces p (within_slot n p) a)) (held (slots_pieces p ss)) (bad_symbols rest) (b_name (Symbol.fixed Fixed.assign ∷ ts) n ∙ b_fixed ts Fixed.assign refl ∙ expression_bad p (within_slot n p) c) (b_fixed us Fixed.comma refl ∙ slots_bad p d))

  instruction_bad : (p : Place) {ts rest : List Symbol} {j : Instruction Written} → Instruction⊢ ts j rest → bad_symbols ts ≡ (any bad_frame (instruction_pieces p j) || bad_symbols rest)
  instruction_bad p (Instruction⊢.assign {us = us} c d) = path_bad c ∙ b_fixed us Fixed.assign refl ∙ expression_bad p p d
  instruction_bad p (Instruction⊢.show {ts = ts} d) = b_fixed ts Fixed.show refl ∙ base_bad p d
  instruction_bad p (Instruction⊢.jump {a} {b} {ts} {us} {rest} c d) =
      rw (any_both bad_frame (base_pieces p a) (one expression ∷ base_pieces p b)) (both (held (base_pieces p a)) (held (base_pieces p b)) (bad_symbols rest) (b_fixed ts Fixed.jump refl ∙ base_bad p c) (base_bad p d))
  instruction_bad p (Instruction⊢.ifeq {a} {b} {c = e} {ts} {us} {vs} {rest} f c d) =
      rw (any_both bad_frame (base_pieces p a ++ (one expression ∷ base_pieces p b)) (one expression ∷ base_pieces p e), any_both bad_frame (base_pieces p a) (one expression ∷ base_pieces p b))
      (both (held (base_pieces p a) || held (base_pieces p b)) (held (base_pieces p e)) (bad_symbols rest) (both (held (base_pieces p a)) (held (base_pieces p b)) (bad_symbols vs) (b_fixed ts Fixed.ifeq refl ∙ base_bad p f) (base_bad p c)) (base_bad p d))

  code_bad : (p : Place) {ts rest : List Symbol} {is : Code Written} → Code⊢ ts is rest → bad_symbols ts ≡ (any bad_frame (code_pieces p is) || bad_symbols rest)
  code_bad p Code⊢.no_instructions = refl
  code_bad p (Code⊢.more_instructions {i} {is} {ts} {us} {rest} c d) =
      rw (any_both bad_frame (instruction_pieces p i) (code_pieces p is)) (both (held (instruction_pieces p i)) (held (code_pieces p is)) (bad_symbols rest) (instruction_bad p c) (b_fixed us Fixed.semicolon refl ∙ code_bad p d))

source_bad : {us : List Symbol} {ss : Slots Written} → Source us ss → bad_symbols us ≡ any bad_frame (pieces ss)
unfolding pieces any bad_frame bad_symbols
source_bad {ss = ss} d = frame_bad program_place d ∙ or_false ((has_twice (slot_names ss) || ltb 16 (length (slot_names ss))) || any bad_frame (slots_pieces program_place ss))

-- ---- From bytes to numbers

data Listed (table : List (List ℕ)) : List (List ℕ) → Type 0 where
  empty : Listed table []
  each : {w : List ℕ} {ws : List (List ℕ)} → any (same w) table ≡ true → Listed table ws → Listed table (w ∷ ws)

listed_more : {table : List (List ℕ)} {vs : List (List ℕ)} (w : List ℕ) → Listed table vs → any (same w) table ≡ true → Listed table (vs ++ (w ∷ []))
listed_more w empty e = each e empty
listed_more w (each d l) e = each d (listed_more w l e)

module _ (table : List (List ℕ)) where
  abbrev numbers : List (List ℕ) → List ℕ
  numbers ws = map (number_in table) ws

  any_number : (w : List ℕ) (vs : List (List ℕ)) → Listed table vs → any (same w) vs ≡ any (eqb (number_in table w)) (numbers vs)
  unfolding any
  any_number w [] empty = refl
  any_number w (v ∷ vs) (each e l) = rw (equal_numbers table w v e, any_number w vs l)

  numbers_more : (vs : List (List ℕ)) (w : List ℕ) → numbers (vs ++ (w ∷ [])) ≡ numbers vs ++ (number_in table w ∷ [])
  numbers_more [] w = refl
  numbers_more (v ∷ vs) w = ap (λ (ns : List ℕ). number_in table v ∷ ns) (numbers_more vs w)

  repeats_number : (before ws : List (List ℕ)) → Listed table before → Listed table ws → repeats same before ws ≡ repeats eqb (numbers before) (numbers ws)
  unfolding repeats
  repeats_number before [] l empty = refl
  repeats_number before (w ∷ ws) l (each e m) =
      rw (any_number w before l, length-map before (number_in table), repeats_number (before ++ (w ∷ [])) ws (listed_more w l e) m, numbers_more before w)

  pair_numbers : {os : List (Own Token)} {ps : List (Own Symbol)} → Pairs table os ps → own_names number_of ps ≡ numbers (own_names bytes_of os)
  unfolding own_names number_of bytes_of
  pair_numbers Pairs.none = refl
  pair_numbers (Pairs.more {w = w} k c e n q) = ap (λ (ns : List ℕ). number_in table w ∷ ns) (pair_numbers q)

  pair_listed : {os : List (Own Token)} {ps : List (Own Symbol)} → Pairs table os ps → Listed table (own_names bytes_of os)
  unfolding own_names bytes_of
  pair_listed Pairs.none = empty
  pair_listed (Pairs.more k c e n q) = each e (pair_listed q)

  frame_numbers : (k c : ℕ) {ts : List Token} → Known table ts → bad_slots [] 0 0 ts ≡ repeats eqb [] (own_names number_of (slots_at 0 0 (numbered table k c ts)))
  unfolding bad_slots slots_at
  frame_numbers k c {ts} n =
      let q = pairs table 0 0 k c n in
      repeats_number [] (own_names bytes_of (own_slots token_kind 0 0 ts)) empty (pair_listed q) ∙ ap (repeats eqb []) (sym (pair_numbers q))

  bad_numbers : (k c : ℕ) {ts : List Token} → Known table ts → bad_frames ts ≡ bad_symbols (numbered table k c ts)
  unfolding bad_frames bad_symbols numbered token_kind kind_of
  bad_numbers k c Known.nothing = refl
  bad_numbers k c (Known.name e n) = bad_numbers k c n
  bad_numbers k c (Known.integer n) = bad_numbers k c n
  bad_numbers k c (Known.string n) = bad_numbers (suc k) c n
  bad_numbers k c (Known.code n) = bad_numbers k (suc c) n
  bad_numbers k c (Known.fixed {f} {ts} n) = rw (frame_numbers k c n, bad_numbers k c n)

pub tree_bad : (ts : List Token) (ss : Slots Written) → Source (symbols ts) ss → bad_frames ts ≡ any bad_frame (pieces ss)
unfolding symbols
tree_bad ts ss d = bad_numbers (name_table ts) 0 0 (table_knows ts) ∙ source_bad d
