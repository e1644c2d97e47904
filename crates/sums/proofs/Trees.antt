-- Over a source that is one frame the sums over its tokens are sums over the pieces of its tree. Assumes nothing.
use mathlib.Core.Path.{◌≡◌, refl, sym, ap, ◌∙◌}
use mathlib.Core.Bool.{Bool, true, false}
use mathlib.Core.List.{List, [], ◌∷◌, ◌++◌}
use Prim.Native.Nat.{ℕ, zero, suc, ◌+◌, ◌-◌}
use native.Mathlib.Omega.{arith}
use lib.Dec.{eqb}
use lib.IntN.{ℤ}
use lib.ListN.{length, length-append}
use borrow.Author.Tests.{ne_eqb}
use Rattle.framed.specs.Common.{when◌then◌else◌, total}
use Rattle.framed.specs.Tokens.{Token, Fixed, Operator}
use Rattle.framed.specs.Symbols.{Symbol, symbols, name_table}
use Rattle.framed.specs.Tree.{Written, Base, Expression, Slots, Instruction, Code, ◌then◌}
use Rattle.framed.specs.Grammar.{Names⊢, Ups⊢, Path⊢, Base⊢, Expression⊢, Frame⊢, Slots⊢, Instruction⊢, Code⊢, Source}
use Rattle.framed.specs.Paths.{Place, outside_code, in_code, holder, within_slot, within_code, program_place}
use Rattle.framed.specs.Meaning.{Kind, expression, instruction, string, code, Piece, frame, path, operator, one, outside, slot_names, base_pieces, expression_pieces, slots_pieces, instruction_pieces, code_pieces, pieces}
use Rattle.token.specs.Reading.{operator_kind, fixed_kind}
use Rattle.sweep.specs.Kinds.{kind_of, symbol_kinds}
use Rattle.sweep.proofs.Numbered.{numbered_kinds, no_dot_operator}
use Rattle.sums.specs.Weights.{one_if, opened, closed, curly_after, square_after, further_after, expression_weight, plain_weight, mark_weight, placed_weight, up_weight, path_weight, weight, sum_of, whole_sum}

-- what counts outside code only
unfoldable pub out : Bool → ℕ → ℕ
out true n = n
out false n = 0

pub out_none : (t : Bool) → out t 0 ≡ 0
unfolding out
out_none true = refl
out_none false = refl

module _ (what : ℕ) where
  -- ---- What a piece adds

  -- a first `^`, and a further one with f before it, where q - 1 levels lie above the frame that holds the code
  unfoldable pub first_up : ℕ → ℕ
  first_up q = up_weight what q 0 0

  unfoldable pub further_up : ℕ → ℕ → ℕ
  further_up q f = up_weight what q f 7

  unfoldable pub ups_weight : Bool → ℕ → ℕ → ℕ → ℕ
  ups_weight o q f zero = 0
  ups_weight o q f (suc n) = out o (one_if what 5) + further_up q f + ups_weight o q (f + 1) n

  unfoldable pub names_weight : List ℕ → ℕ
  names_weight [] = 0
  names_weight (n ∷ ns) = one_if what 6 + names_weight ns

  unfoldable pub written_weight : Bool → ℕ → Written → ℕ
  written_weight o q (Written.self ns) = out o (one_if what 5) + names_weight ns
  written_weight o q (Written.up k ns) = out o (one_if what 5) + first_up q + ups_weight o q 0 k + names_weight ns

  unfoldable pub kind_weight : Kind → ℕ
  kind_weight expression = one_if what 0
  kind_weight instruction = one_if what 1
  kind_weight string = one_if what 2
  kind_weight code = one_if what 3

  unfoldable pub piece_weight : Piece → ℕ
  piece_weight (frame p ns) = out (outside p) (one_if what 4)
  piece_weight (path p w) = written_weight (outside p) (length (holder p) + 1) w
  piece_weight (operator p) = out (outside p) (one_if what 5)
  piece_weight (one k) = kind_weight k

  abbrev held : List Piece → ℕ
  held ps = total piece_weight ps

  held_one : (k : Kind) (ps : List Piece) → held (one k ∷ ps) ≡ kind_weight k + held ps
  unfolding total piece_weight
  held_one k ps = refl

  held_expression : (ps : List Piece) → held (one expression ∷ ps) ≡ one_if what 0 + held ps
  unfolding kind_weight
  held_expression ps = held_one expression ps

  held_instruction : (ps : List Piece) → held (one instruction ∷ ps) ≡ one_if what 1 + held ps
  unfolding kind_weight
  held_instruction ps = held_one instruction ps

  held_string : (ps : List Piece) → held (one string ∷ ps) ≡ one_if what 2 + held ps
  unfolding kind_weight
  held_string ps = held_one string ps

  held_code : (ps : List Piece) → held (one code ∷ ps) ≡ one_if what 3 + held ps
  unfolding kind_weight
  held_code ps = held_one code ps

  held_none : held [] ≡ 0
  unfolding total
  held_none = refl

  held_both : (ps qs : List Piece) → held (ps ++ qs) ≡ held ps + held qs
  unfolding total
  held_both [] qs = omega arith
  held_both (p ∷ ps) qs = omega (arith, held_both ps qs)

  three : (xs ys zs : List Piece) → held (one expression ∷ xs ++ (one expression ∷ ys) ++ (one expression ∷ zs)) ≡ one_if what 0 + held xs + (one_if what 0 + held ys) + (one_if what 0 + held zs)
  three xs ys zs =
      omega (
        arith,
        held_expression (xs ++ (one expression ∷ ys) ++ (one expression ∷ zs)),
        held_both (xs ++ (one expression ∷ ys)) (one expression ∷ zs),
        held_both xs (one expression ∷ ys),
        held_expression ys,
        held_expression zs,
      )

  -- ---- What a symbol adds

  unfoldable sum : ℕ → ℕ → ℕ → ℕ → List Symbol → ℕ
  sum c q f l us = sum_of what c q f l (symbol_kinds us)

  placed : (c k n : ℕ) → mark_weight what k ≡ n → placed_weight what c k ≡ out (eqb c 0) n
  unfolding placed_weight out
  placed c k n e = go (eqb c 0)
    where
      go : (t : Bool) → (when t then mark_weight what k else 0) ≡ out t n
      go true = e
      go false = refl

  module _ (c q f l : ℕ) (x : Symbol) (us : List Symbol) where
    step : (n m j c' q' f' k : ℕ) → kind_of x ≡ k → plain_weight what k ≡ n → mark_weight what k ≡ m → path_weight what q f l k ≡ j →
        curly_after c k ≡ c' → square_after c q k ≡ q' → further_after l f k ≡ f' → sum c q f l (x ∷ us) ≡ n + out (eqb c 0) m + j + sum c' q' f' k us
    unfolding sum sum_of symbol_kinds weight
    step n m j c' q' f' k e en em ej ec eq ef = rw (e, en, placed c k m em, ej, ec, eq, ef)

    -- a symbol that leaves all as it is
    quiet : (n k : ℕ) → kind_of x ≡ k → plain_weight what k ≡ n → mark_weight what k ≡ 0 → path_weight what q f l k ≡ 0 →
        curly_after c k ≡ c → square_after c q k ≡ q → further_after l f k ≡ f → sum c q f l (x ∷ us) ≡ n + sum c q f k us
    quiet n k e en em ej ec eq ef = omega (arith, step n 0 0 c q f k e en em ej ec eq ef, out_none (eqb c 0))

  module _ (c q f l : ℕ) (us : List Symbol) where
    s_integer : (z : ℤ) → sum c q f l (Symbol.integer z ∷ us) ≡ 0 + sum c q f 26 us
    unfolding kind_of fixed_kind operator_kind plain_weight expression_weight mark_weight path_weight curly_after square_after further_after
    s_integer z = quiet c q f l (Symbol.integer z) us 0 26 refl refl refl refl refl refl refl

    s_string : (k : ℕ) → sum c q f l (Symbol.string k ∷ us) ≡ one_if what 2 + sum c q f 27 us
    unfolding kind_of fixed_kind operator_kind plain_weight expression_weight mark_weight path_weight curly_after square_after further_after
    s_string k = quiet c q f l (Symbol.string k) us (one_if what 2) 27 refl refl refl refl refl refl refl

    s_code : (k : ℕ) → sum c q f l (Symbol.code k ∷ us) ≡ one_if what 3 + sum c q f 28 us
    unfolding kind_of fixed_kind operator_kind plain_weight expression_weight mark_weight path_weight curly_after square_after further_after
    s_code k = quiet c q f l (Symbol.code k) us (one_if what 3) 28 refl refl refl refl refl refl refl

    s_name : (n : ℕ) → eqb l 7 ≡ false → sum c q f l (Symbol.name n ∷ us) ≡ 0 + sum c q f 25 us
    unfolding kind_of fixed_kind operator_kind plain_weight expression_weight mark_weight path_weight curly_after square_after further_after
    s_name n e = quiet c q f l (Symbol.name n) us 0 25 refl refl refl (rw e) refl refl refl

    s_up : eqb l 7 ≡ false → sum c q f l (Symbol.fixed Fixed.up ∷ us) ≡ 0 + out (eqb c 0) (one_if what 5) + first_up q + sum c q 0 8 us
    unfolding kind_of fixed_kind operator_kind plain_weight expression_weight mark_weight path_weight curly_after square_after further_after first_up up_weight
    s_up e = step c q f l (Symbol.fixed Fixed.up) us 0 (one_if what 5) (up_weight what q 0 0) c q 0 8 refl refl refl (rw e) refl refl (rw e)

    s_frame : sum c q f l (Symbol.fixed Fixed.frame ∷ us) ≡ 0 + sum c q f 0 us
    unfolding kind_of fixed_kind operator_kind plain_weight expression_weight mark_weight path_weight curly_after square_after further_after
    s_frame = quiet c q f l (Symbol.fixed Fixed.frame) us 0 0 refl refl refl refl refl refl refl

    s_colon : sum c q f l (Symbol.fixed Fixed.colon ∷ us) ≡ 0 + sum c q f 5 us
    unfolding kind_of fixed_kind operator_kind plain_weight expression_weight mark_weight path_weight curly_after square_after further_after
    s_colon = quiet c q f l (Symbol.fixed Fixed.colon) us 0 5 refl refl refl refl refl refl refl

    s_comma : sum c q f l (Symbol.fixed Fixed.comma ∷ us) ≡ 0 + sum c q f 11 us
    unfolding kind_of fixed_kind operator_kind plain_weight expression_weight mark_weight path_weight curly_after square_after further_after
    s_comma = quiet c q f l (Symbol.fixed Fixed.comma) us 0 11 refl refl refl refl refl refl refl

    s_dot : sum c q f l (Symbol.fixed Fixed.dot ∷ us) ≡ 0 + sum c q f 7 us
    unfolding kind_of fixed_kind operator_kind plain_weight expression_weight mark_weight path_weight curly_after square_after further_after
    s_dot = quiet c q f l (Symbol.fixed Fixed.dot) us 0 7 refl refl refl refl refl refl refl

    s_semicolon : sum c q f l (Symbol.fixed Fixed.semicolon ∷ us) ≡ one_if what 1 + sum c q f 10 us
    unfolding kind_of fixed_kind operator_kind plain_weight expression_weight mark_weight path_weight curly_after square_after further_after
    s_semicolon = quiet c q f l (Symbol.fixed Fixed.semicolon) us (one_if what 1) 10 refl refl refl refl refl refl refl

    s_assign : sum c q f l (Symbol.fixed Fixed.assign ∷ us) ≡ one_if what 0 + sum c q f 6 us
    unfolding kind_of fixed_kind operator_kind plain_weight expression_weight mark_weight path_weight curly_after square_after further_after
    s_assign = quiet c q f l (Symbol.fixed Fixed.assign) us (one_if what 0) 6 refl refl refl refl refl refl refl

    s_show : sum c q f l (Symbol.fixed Fixed.show ∷ us) ≡ one_if what 0 + sum c q f 2 us
    unfolding kind_of fixed_kind operator_kind plain_weight expression_weight mark_weight path_weight curly_after square_after further_after
    s_show = quiet c q f l (Symbol.fixed Fixed.show) us (one_if what 0) 2 refl refl refl refl refl refl refl

    s_jump : sum c q f l (Symbol.fixed Fixed.jump ∷ us) ≡ (one_if what 0 + one_if what 0) + sum c q f 3 us
    unfolding kind_of fixed_kind operator_kind plain_weight expression_weight mark_weight path_weight curly_after square_after further_after
    s_jump = quiet c q f l (Symbol.fixed Fixed.jump) us (one_if what 0 + one_if what 0) 3 refl refl refl refl refl refl refl

    s_ifeq : sum c q f l (Symbol.fixed Fixed.ifeq ∷ us) ≡ (one_if what 0 + one_if what 0 + one_if what 0) + sum c q f 4 us
    unfolding kind_of fixed_kind operator_kind plain_weight expression_weight mark_weight path_weight curly_after square_after further_after
    s_ifeq = quiet c q f l (Symbol.fixed Fixed.ifeq) us (one_if what 0 + one_if what 0 + one_if what 0) 4 refl refl refl refl refl refl refl

    s_bang : sum c q f l (Symbol.fixed Fixed.bang ∷ us) ≡ one_if what 0 + out (eqb c 0) (one_if what 5) + 0 + sum c q f 9 us
    unfolding kind_of fixed_kind operator_kind plain_weight expression_weight mark_weight path_weight curly_after square_after further_after
    s_bang = step c q f l (Symbol.fixed Fixed.bang) us (one_if what 0) (one_if what 5) 0 c q f 9 refl refl refl refl refl refl refl

    s_self : sum c q f l (Symbol.fixed Fixed.self ∷ us) ≡ 0 + out (eqb c 0) (one_if what 5) + 0 + sum c q f 1 us
    unfolding kind_of fixed_kind operator_kind plain_weight expression_weight mark_weight path_weight curly_after square_after further_after
    s_self = step c q f l (Symbol.fixed Fixed.self) us 0 (one_if what 5) 0 c q f 1 refl refl refl refl refl refl refl

    s_open_square : sum c q f l (Symbol.fixed Fixed.open_square ∷ us) ≡ 0 + out (eqb c 0) (one_if what 4) + 0 + sum c (opened c q) f 12 us
    unfolding kind_of fixed_kind operator_kind plain_weight expression_weight mark_weight path_weight curly_after square_after further_after
    s_open_square = step c q f l (Symbol.fixed Fixed.open_square) us 0 (one_if what 4) 0 c (opened c q) f 12 refl refl refl refl refl refl refl

    s_close_square : sum c q f l (Symbol.fixed Fixed.close_square ∷ us) ≡ 0 + out (eqb c 0) 0 + 0 + sum c (closed c q) f 13 us
    unfolding kind_of fixed_kind operator_kind plain_weight expression_weight mark_weight path_weight curly_after square_after further_after
    s_close_square = step c q f l (Symbol.fixed Fixed.close_square) us 0 0 0 c (closed c q) f 13 refl refl refl refl refl refl refl

    s_open_curly : sum c q f l (Symbol.fixed Fixed.open_curly ∷ us) ≡ 0 + out (eqb c 0) 0 + 0 + sum (c + 1) q f 14 us
    unfolding kind_of fixed_kind operator_kind plain_weight expression_weight mark_weight path_weight curly_after square_after further_after
    s_open_curly = step c q f l (Symbol.fixed Fixed.open_curly) us 0 0 0 (c + 1) q f 14 refl refl refl refl refl refl refl

    s_close_curly : sum c q f l (Symbol.fixed Fixed.close_curly ∷ us) ≡ 0 + out (eqb c 0) 0 + 0 + sum (c - 1) q f 15 us
    unfolding kind_of fixed_kind operator_kind plain_weight expression_weight mark_weight path_weight curly_after square_after further_after
    s_close_curly = step c q f l (Symbol.fixed Fixed.close_curly) us 0 0 0 (c - 1) q f 15 refl refl refl refl refl refl refl

    s_operator : (o : Operator) → sum c q f l (Symbol.fixed (Fixed.operator o) ∷ us) ≡ (one_if what 0 + one_if what 0) + out (eqb c 0) (one_if what 5) + 0 + sum c q f (operator_kind o) us
    unfolding kind_of fixed_kind operator_kind plain_weight expression_weight mark_weight path_weight curly_after square_after further_after
    s_operator Operator.plus = step c q f l (Symbol.fixed (Fixed.operator Operator.plus)) us (one_if what 0 + one_if what 0) (one_if what 5) 0 c q f 16 refl refl refl refl refl refl refl
    s_operator Operator.minus = step c q f l (Symbol.fixed (Fixed.operator Operator.minus)) us (one_if what 0 + one_if what 0) (one_if what 5) 0 c q f 17 refl refl refl refl refl refl refl
    s_operator Operator.times = step c q f l (Symbol.fixed (Fixed.operator Operator.times)) us (one_if what 0 + one_if what 0) (one_if what 5) 0 c q f 18 refl refl refl refl refl refl refl
    s_operator Operator.over = step c q f l (Symbol.fixed (Fixed.operator Operator.over)) us (one_if what 0 + one_if what 0) (one_if what 5) 0 c q f 19 refl refl refl refl refl refl refl
    s_operator Operator.less = step c q f l (Symbol.fixed (Fixed.operator Operator.less)) us (one_if what 0 + one_if what 0) (one_if what 5) 0 c q f 20 refl refl refl refl refl refl refl
    s_operator Operator.join = step c q f l (Symbol.fixed (Fixed.operator Operator.join)) us (one_if what 0 + one_if what 0) (one_if what 5) 0 c q f 21 refl refl refl refl refl refl refl
    s_operator Operator.equal = step c q f l (Symbol.fixed (Fixed.operator Operator.equal)) us (one_if what 0 + one_if what 0) (one_if what 5) 0 c q f 22 refl refl refl refl refl refl refl
    s_operator Operator.and = step c q f l (Symbol.fixed (Fixed.operator Operator.and)) us (one_if what 0 + one_if what 0) (one_if what 5) 0 c q f 23 refl refl refl refl refl refl refl
    s_operator Operator.or = step c q f l (Symbol.fixed (Fixed.operator Operator.or)) us (one_if what 0 + one_if what 0) (one_if what 5) 0 c q f 24 refl refl refl refl refl refl refl

  -- after a dot
  module _ (c q f : ℕ) (us : List Symbol) where
    s_path_name : (n : ℕ) → sum c q f 7 (Symbol.name n ∷ us) ≡ 0 + out (eqb c 0) 0 + one_if what 6 + sum c q f 25 us
    unfolding kind_of fixed_kind operator_kind plain_weight expression_weight mark_weight path_weight curly_after square_after further_after
    s_path_name n = step c q f 7 (Symbol.name n) us 0 0 (one_if what 6) c q f 25 refl refl refl refl refl refl refl

    s_further : sum c q f 7 (Symbol.fixed Fixed.up ∷ us) ≡ 0 + out (eqb c 0) (one_if what 5) + further_up q f + sum c q (f + 1) 8 us
    unfolding kind_of fixed_kind operator_kind plain_weight expression_weight mark_weight path_weight curly_after square_after further_after further_up
    s_further = step c q f 7 (Symbol.fixed Fixed.up) us 0 (one_if what 5) (up_weight what q f 7) c q (f + 1) 8 refl refl refl refl refl refl refl

  close_one : (c q f : ℕ) (us : List Symbol) → sum (c + 1 - 1) q f 15 us ≡ sum c q f 15 us
  close_one c q f us = ap (λ (j : ℕ). sum j q f 15 us) (back c)
    where
      back : (c : ℕ) → c + 1 - 1 ≡ c
      back c = omega arith

  -- ---- The parts of a source

  -- from ts to rest, n is added; c and q are as before
  record Passed (c q n f l : ℕ) (ts rest : List Symbol) : Type 0 where
    f' : ℕ
    l' : ℕ
    no_dot : eqb l' 7 ≡ false
    sums : sum c q f l ts ≡ n + sum c q f' l' rest

  names_pass : (c q f l : ℕ) {ts rest : List Symbol} {ns : List ℕ} → eqb l 7 ≡ false → Names⊢ ts ns rest → Passed c q (names_weight ns) f l ts rest
  unfolding names_weight
  names_pass c q f l e Names⊢.none = record { f' = f; l' = l; no_dot = e; sums = omega arith }
  names_pass c q f l e (Names⊢.more {n = n} {ts = ts} d) =
      let p = names_pass c q f 25 refl d in
      record { f' = p.f'; l' = p.l'; no_dot = p.no_dot; sums = omega (arith, s_dot c q f l (Symbol.name n ∷ ts), s_path_name c q f ts n, out_none (eqb c 0), p.sums) }

  ups_pass : (c q f l : ℕ) {ts rest : List Symbol} {k : ℕ} → eqb l 7 ≡ false → Ups⊢ ts k rest → Passed c q (ups_weight (eqb c 0) q f k) f l ts rest
  unfolding ups_weight
  ups_pass c q f l e Ups⊢.none = record { f' = f; l' = l; no_dot = e; sums = omega arith }
  ups_pass c q f l e (Ups⊢.more {ts = ts} d) =
      let p = ups_pass c q (f + 1) 8 refl d in
      record { f' = p.f'; l' = p.l'; no_dot = p.no_dot; sums = omega (arith, s_dot c q f l (Symbol.fixed Fixed.up ∷ ts), s_further c q f ts, p.sums) }

  path_pass : (c q f l : ℕ) {ts rest : List Symbol} {w : Written} → eqb l 7 ≡ false → Path⊢ ts w rest → Passed c q (written_weight (eqb c 0) q w) f l ts rest
  unfolding written_weight
  path_pass c q f l e (Path⊢.self {ts = ts} d) =
      let p = names_pass c q f 1 refl d in
      record { f' = p.f'; l' = p.l'; no_dot = p.no_dot; sums = omega (arith, s_self c q f l ts, p.sums) }
  path_pass c q f l e (Path⊢.up {ts = ts} b d) =
      let o = ups_pass c q 0 8 refl b in
      let p = names_pass c q o.f' o.l' o.no_dot d in
      record { f' = p.f'; l' = p.l'; no_dot = p.no_dot; sums = omega (arith, s_up c q f l ts e, o.sums, p.sums) }

  -- the place of what is written there: outside code exactly when no `{` is open, and as deep as `[` are open outside code
  record Fits (p : Place) (c q : ℕ) : Type 0 where
    is_out : outside p ≡ eqb c 0
    deep : length (holder p) + 1 ≡ q

  path_adds : (p : Place) (c q : ℕ) (w : Written) (ps : List Piece) → Fits p c q → held (path p w ∷ ps) ≡ written_weight (eqb c 0) q w + held ps
  unfolding total piece_weight
  path_adds p c q w ps x = rw (x.is_out, x.deep)

  operator_adds : (p : Place) (c q : ℕ) (ps : List Piece) → Fits p c q → held (operator p ∷ ps) ≡ out (eqb c 0) (one_if what 5) + held ps
  unfolding total piece_weight
  operator_adds p c q ps x = rw x.is_out

  frame_adds : (p : Place) (c q : ℕ) (ns : List ℕ) (ps : List Piece) → Fits p c q → held (frame p ns ∷ ps) ≡ out (eqb c 0) (one_if what 4) + held ps
  unfolding total piece_weight
  frame_adds p c q ns ps x = rw x.is_out

  code_fits : (p : Place) (c q : ℕ) → Fits p c q → Fits (within_code p) (c + 1) q
  unfolding within_code outside holder
  code_fits (outside_code ns) c q x = record { is_out = sym (ne_eqb (c + 1) 0 (λ e. absurd (omega arith))); deep = x.deep }
  code_fits (in_code ns) c q x = record { is_out = sym (ne_eqb (c + 1) 0 (λ e. absurd (omega arith))); deep = x.deep }

  slot_fits : (p : Place) (n c q : ℕ) → Fits p c q → Fits (within_slot n p) c (opened c q)
  unfolding within_slot outside holder opened
  slot_fits (outside_code ns) n c q x = record { is_out = x.is_out; deep = rw (← x.is_out) (rw (length-append ns (n ∷ [])) (omega (arith, x.deep))) }
  slot_fits (in_code ns) n c q x = record { is_out = x.is_out; deep = rw (← x.is_out) x.deep }

  -- in code a frame adds no level
  in_code_same : (c q : ℕ) → eqb c 0 ≡ false → opened c q ≡ q
  unfolding opened
  in_code_same c q e = rw e

  closed_opened : (c q : ℕ) → closed c (opened c q) ≡ q
  unfolding opened closed
  closed_opened c q = go (eqb c 0)
    where
      back : (q : ℕ) → q + 1 - 1 ≡ q
      back q = omega arith

      go : (t : Bool) → ◌≡◌ {A = ℕ} (when t then (when t then q + 1 else q) - 1 else (when t then q + 1 else q)) q
      go true = back q
      go false = refl

  mutual
    unfolding base_pieces

    base_pass : (p : Place) (c q f l : ℕ) {ts rest : List Symbol} {b : Base Written} → Fits p c q → eqb l 7 ≡ false → Base⊢ ts b rest → Passed c q (held (base_pieces p b)) f l ts rest
    base_pass p c q f l x e (Base⊢.integer {z} {rest}) = record { f' = f; l' = 26; no_dot = refl; sums = omega (arith, s_integer c q f l rest z, held_none) }
    base_pass p c q f l x e (Base⊢.string {k} {rest}) = record { f' = f; l' = 27; no_dot = refl; sums = omega (arith, s_string c q f l rest k, held_string [], held_none) }
    base_pass p c q f l x e (Base⊢.path {p = w} d) =
        let a = path_pass c q f l e d in
        record { f' = a.f'; l' = a.l'; no_dot = a.no_dot; sums = omega (arith, a.sums, path_adds p c q w [] x, held_none) }
    base_pass p c q f l x e (Base⊢.code {k} {is} {ts} {rest} d) =
        let a = code_pass (within_code p) (c + 1) q f 14 (code_fits p c q x) (ne_eqb (c + 1) 0 (λ e. absurd (omega arith))) refl d in
        record {
          f' = a.f';
          l' = 15;
          no_dot = refl;
          sums = omega (
            arith,
            s_code c q f l (Symbol.fixed Fixed.open_curly ∷ ts) k,
            s_open_curly c q f 28 ts,
            out_none (eqb c 0),
            a.sums,
            s_close_curly (c + 1) q a.f' a.l' rest,
            out_none (eqb (c + 1) 0),
            close_one c q a.f' rest,
            held_code (code_pieces (within_code p) is),
          );
        }

    expression_pass : (p i : Place) (c q f l : ℕ) {ts rest : List Symbol} {a : Expression Written} → Fits p c q → Fits i c (opened c q) → eqb l 7 ≡ false → Expression⊢ ts a rest →
        Passed c q (held (expression_pieces p i a)) f l ts rest
    expression_pass p i c q f l x y e (Expression⊢.base d) = base_pass p c q f l x e d
    expression_pass p i c q f l x y e (Expression⊢.not {b} {ts} d) =
        let a = base_pass p c q f 9 x refl d in
        record { f' = a.f'; l' = a.l'; no_dot = a.no_dot; sums = omega (arith, s_bang c q f l ts, a.sums, operator_adds p c q (one expression ∷ base_pieces p b) x, held_expression (base_pieces p b)) }
    expression_pass p i c q f l x y e (Expression⊢.operation {o} {a} {b} {ts} {us} u v) =
        let m = base_pass p c q f l x e u in
        let n = base_pass p c q m.f' (operator_kind o) x (no_dot_operator o) v in
        record {
          f' = n.f';
          l' = n.l';
          no_dot = n.no_dot;
          sums = omega (
            arith,
            m.sums,
            s_operator c q m.f' m.l' us o,
            n.sums,
            operator_adds p c q (one expression ∷ base_pieces p a ++ (one expression ∷ base_pieces p b)) x,
            held_expression (base_pieces p a ++ (one expression ∷ base_pieces p b)),
            held_both (base_pieces p a) (one expression ∷ base_pieces p b),
            held_expression (base_pieces p b),
          );
        }
    expression_pass p i c q f l x y e (Expression⊢.frame {ss} d) = frame_pass i c q f l y d

    frame_pass : (i : Place) (c q f l : ℕ) {ts rest : List Symbol} {ss : Slots Written} → Fits i c (opened c q) → Frame⊢ ts ss rest →
        Passed c q (held (frame i (slot_names ss) ∷ slots_pieces i ss)) f l ts rest
    frame_pass i c q f l y (Frame⊢.brackets {ss} {ts} {rest} d) =
        let a = slots_pass i c (opened c q) f 12 y refl d in
        record {
          f' = a.f';
          l' = 13;
          no_dot = refl;
          sums = omega (
            arith,
            s_frame c q f l (Symbol.fixed Fixed.colon ∷ Symbol.fixed Fixed.open_square ∷ ts),
            s_colon c q f 0 (Symbol.fixed Fixed.open_square ∷ ts),
            s_open_square c q f 5 ts,
            a.sums,
            s_close_square c (opened c q) a.f' a.l' rest,
            out_none (eqb c 0),
            ap (λ (j : ℕ). sum c j a.f' 13 rest) (closed_opened c q),
            frame_adds i c (opened c q) (slot_names ss) (slots_pieces i ss) y,
          );
        }

    slots_pass : (p : Place) (c q f l : ℕ) {ts rest : List Symbol} {ss : Slots Written} → Fits p c q → eqb l 7 ≡ false → Slots⊢ ts ss rest → Passed c q (held (slots_pieces p ss)) f l ts rest
    slots_pass p c q f l x e Slots⊢.no_slots = record { f' = f; l' = l; no_dot = e; sums = omega (arith, held_none) }
    slots_pass p c q f l x e (Slots⊢.last_slot {n} {e = a} {ts} d) =
        let b = expression_pass p (within_slot n p) c q f 6 x (slot_fits p n c q x) refl d in
        record {
          f' = b.f';
          l' = b.l';
          no_dot = b.no_dot;
          sums = omega (
            arith,
            s_name c q f l (Symbol.fixed Fixed.assign ∷ ts) n e,
            s_assign c q f 25 ts,
            b.sums,
            held_expression (expression_pieces p (within_slot n p) a ++ []),
            held_both (expression_pieces p (within_slot n p) a) [],
            held_none,
          );
        }
    slots_pass p c q f l x e (Slots⊢.more_slots {n} {e = a} {ss} {ts} {us} d g) =
        let b = expression_pass p (within_slot n p) c q f 6 x (slot_fits p n c q x) refl d in
        let m = slots_pass p c q b.f' 11 x refl g in
        record {
          f' = m.f';
          l' = m.l';
          no_dot = m.no_dot;
          sums = omega (
            arith,
            s_name c q f l (Symbol.fixed Fixed.assign ∷ ts) n e,
            s_assign c q f 25 ts,
            b.sums,
            s_comma c q b.f' b.l' us,
            m.sums,
            held_expression (expression_pieces p (within_slot n p) a ++ slots_pieces p ss),
            held_both (expression_pieces p (within_slot n p) a) (slots_pieces p ss),
          );
        }

    instruction_pass : (p : Place) (c q f l : ℕ) {ts rest : List Symbol} {j : Instruction Written} → Fits p c q → eqb c 0 ≡ false → eqb l 7 ≡ false → Instruction⊢ ts j rest →
        Passed c q (held (instruction_pieces p j)) f l ts rest
    instruction_pass p c q f l x z e (Instruction⊢.assign {p = w} {e = a} {ts} {us} d g) =
        let m = path_pass c q f l e d in
        let n = expression_pass p p c q m.f' 6 x (rw (in_code_same c q z) x) refl g in
        record {
          f' = n.f';
          l' = n.l';
          no_dot = n.no_dot;
          sums = omega (arith, m.sums, s_assign c q m.f' m.l' us, n.sums, path_adds p c q w (one expression ∷ expression_pieces p p a) x, held_expression (expression_pieces p p a));
        }
    instruction_pass p c q f l x z e (Instruction⊢.show {b} {ts} d) =
        let m = base_pass p c q f 2 x refl d in
        record { f' = m.f'; l' = m.l'; no_dot = m.no_dot; sums = omega (arith, s_show c q f l ts, m.sums, held_expression (base_pieces p b)) }
    instruction_pass p c q f l x z e (Instruction⊢.jump {a} {b} {ts} d g) =
        let m = base_pass p c q f 3 x refl d in
        let n = base_pass p c q m.f' m.l' x m.no_dot g in
        record {
          f' = n.f';
          l' = n.l';
          no_dot = n.no_dot;
          sums = omega (arith, s_jump c q f l ts, m.sums, n.sums, held_expression (base_pieces p a ++ (one expression ∷ base_pieces p b)), held_both (base_pieces p a) (one expression ∷ base_pieces p b), held_expression (base_pieces p b));
        }
    instruction_pass p c q f l x z e (Instruction⊢.ifeq {a} {b} {c = d} {ts} u v w) =
        let m = base_pass p c q f 4 x refl u in
        let n = base_pass p c q m.f' m.l' x m.no_dot v in
        let o = base_pass p c q n.f' n.l' x n.no_dot w in
        record { f' = o.f'; l' = o.l'; no_dot = o.no_dot; sums = omega (arith, s_ifeq c q f l ts, m.sums, n.sums, o.sums, three (base_pieces p a) (base_pieces p b) (base_pieces p d)) }

    code_pass : (p : Place) (c q f l : ℕ) {ts rest : List Symbol} {is : Code Written} → Fits p c q → eqb c 0 ≡ false → eqb l 7 ≡ false → Code⊢ ts is rest → Passed c q (held (code_pieces p is)) f l ts rest
    code_pass p c q f l x z e Code⊢.no_instructions = record { f' = f; l' = l; no_dot = e; sums = omega (arith, held_none) }
    code_pass p c q f l x z e (Code⊢.more_instructions {i} {is} {ts} {us} d g) =
        let m = instruction_pass p c q f l x z e d in
        let n = code_pass p c q m.f' 10 x z refl g in
        record {
          f' = n.f';
          l' = n.l';
          no_dot = n.no_dot;
          sums = omega (arith, m.sums, s_semicolon c q m.f' m.l' us, n.sums, held_instruction (instruction_pieces p i ++ code_pieces p is), held_both (instruction_pieces p i) (code_pieces p is));
        }

  start_fits : Fits program_place 0 (opened 0 0)
  unfolding outside holder opened
  start_fits = record { is_out = refl; deep = refl }

  sum_none : (c q f l : ℕ) → sum c q f l [] ≡ 0
  unfolding sum sum_of symbol_kinds
  sum_none c q f l = refl

  source_sum : {us : List Symbol} {ss : Slots Written} → Source us ss → sum 0 0 0 0 us ≡ held (pieces ss)
  unfolding pieces
  source_sum d = let a = frame_pass program_place 0 0 0 0 start_fits d in omega (arith, a.sums, sum_none 0 0 a.f' a.l')

  pub tree_sum : (ts : List Token) (ss : Slots Written) → Source (symbols ts) ss → whole_sum what ts ≡ total piece_weight (pieces ss)
  unfolding symbols whole_sum sum
  tree_sum ts ss d = ap (sum_of what 0 0 0 0) (sym (numbered_kinds (name_table ts) 0 0 ts)) ∙ source_sum d
