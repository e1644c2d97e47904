-- Laws of the weights, one for each way through each function, and of the loop that sums them. Assumes nothing.
use mathlib.Core.Path.{◌≡◌, refl}
use mathlib.Core.Bool.{Bool, true, false}
use mathlib.Core.List.{List, [], ◌∷◌}
use Prim.Native.Nat.{ℕ, ◌+◌, ◌*◌, ◌-◌, ◌<◌, ◌≤◌}
use native.Mathlib.Omega.{arith}
use lib.Dec.{eqb, ltb}
use lib.ListN.{length}
use borrow.Author.Rules.{rules}
use borrow.Author.Tests.{eq-eqb, ne_eqb, lt-ltb, le-ltb}
use Rattle.framed.specs.Common.{when◌then◌else◌}
use Rattle.framed.specs.Bytes.{class}
use Rattle.framed.specs.Tokens.{Token}
use Rattle.source.specs.Positions.{rest}
use Rattle.token.specs.Reading.{token_of, TokenAt, Spot}
use Rattle.token.specs.declared.TokenRead.{TokenRead}
use Rattle.token.proofs.KindNumbers.{kind_is}
use Rattle.token.proofs.Answers.{spot_of}
use Rattle.sweep.specs.Kinds.{kinds}
use Rattle.sweep.specs.Decides.{Short}
use Rattle.sweep.proofs.Loop.{Going, Gives, go_start, go_end, go_none, go_done, go_again}
use Rattle.sums.specs.Weights.{one_if, opened, closed, curly_after, square_after, further_after, expression_weight, plain_weight, mark_weight, placed_weight, up_weight, path_weight, weight, sum_of, whole_sum, Sums}
use Rattle.sums.specs.Totals.{Totalled, nothing, Climbs, Counts, Room}
use Rattle.sums.specs.declared.Totals.{Totals}
use Rattle.sums.specs.declared.Tally.{Tally}

module _ (a b : ℕ) where
  pub one_yes : a ≡ b → 1 ≡ one_if a b
  unfolding one_if
  one_yes e = rw (eq-eqb a b e)

  pub one_not : (a ≡ b → ⊥) → 0 ≡ one_if a b
  unfolding one_if
  one_not n = rw (ne_eqb a b n)

  one_small : one_if a b ≤ 1
  unfolding one_if
  one_small = go (eqb a b)
    where
      go : (t : Bool) → (when t then 1 else 0) ≤ 1
      go true = omega arith
      go false = omega arith

-- ---- Brackets

module _ (c q : ℕ) where
  pub closed_inside : (c ≡ 0 → ⊥) → q ≡ closed c q
  unfolding closed
  closed_inside n = rw (ne_eqb c 0 n)

  pub closed_outside : c ≡ 0 → (r : ℕ) → r ≡ q - 1 → r ≡ closed c q
  unfolding closed
  closed_outside e r h = rw e h

-- ---- A token

-- a tally with another number in one place
abbrev pub with_totals : Tally → Totals → Tally
with_totals t s = record { totals = s; curly = t.curly; square = t.square; further = t.further }

abbrev pub with_expressions : Tally → ℕ → Tally
with_expressions t n = with_totals t (record { expressions = n; instructions = t.totals.instructions; strings = t.totals.strings; codes = t.totals.codes; frames = t.totals.frames; misplaced = t.totals.misplaced; names = t.totals.names; named = t.totals.named; far = t.totals.far })

abbrev pub with_instructions : Tally → ℕ → Tally
with_instructions t n = with_totals t (record { expressions = t.totals.expressions; instructions = n; strings = t.totals.strings; codes = t.totals.codes; frames = t.totals.frames; misplaced = t.totals.misplaced; names = t.totals.names; named = t.totals.named; far = t.totals.far })

abbrev pub with_strings : Tally → ℕ → Tally
with_strings t n = with_totals t (record { expressions = t.totals.expressions; instructions = t.totals.instructions; strings = n; codes = t.totals.codes; frames = t.totals.frames; misplaced = t.totals.misplaced; names = t.totals.names; named = t.totals.named; far = t.totals.far })

abbrev pub with_codes : Tally → ℕ → Tally
with_codes t n = with_totals t (record { expressions = t.totals.expressions; instructions = t.totals.instructions; strings = t.totals.strings; codes = n; frames = t.totals.frames; misplaced = t.totals.misplaced; names = t.totals.names; named = t.totals.named; far = t.totals.far })

abbrev pub with_frames : Tally → ℕ → Tally
with_frames t n = with_totals t (record { expressions = t.totals.expressions; instructions = t.totals.instructions; strings = t.totals.strings; codes = t.totals.codes; frames = n; misplaced = t.totals.misplaced; names = t.totals.names; named = t.totals.named; far = t.totals.far })

abbrev pub with_misplaced : Tally → ℕ → Tally
with_misplaced t n = with_totals t (record { expressions = t.totals.expressions; instructions = t.totals.instructions; strings = t.totals.strings; codes = t.totals.codes; frames = t.totals.frames; misplaced = n; names = t.totals.names; named = t.totals.named; far = t.totals.far })

abbrev pub with_names : Tally → ℕ → Tally
with_names t n = with_totals t (record { expressions = t.totals.expressions; instructions = t.totals.instructions; strings = t.totals.strings; codes = t.totals.codes; frames = t.totals.frames; misplaced = t.totals.misplaced; names = n; named = t.totals.named; far = t.totals.far })

abbrev pub with_named : Tally → ℕ → Tally
with_named t n = with_totals t (record { expressions = t.totals.expressions; instructions = t.totals.instructions; strings = t.totals.strings; codes = t.totals.codes; frames = t.totals.frames; misplaced = t.totals.misplaced; names = t.totals.names; named = n; far = t.totals.far })

abbrev pub with_far : Tally → ℕ → Tally
with_far t n = with_totals t (record { expressions = t.totals.expressions; instructions = t.totals.instructions; strings = t.totals.strings; codes = t.totals.codes; frames = t.totals.frames; misplaced = t.totals.misplaced; names = t.totals.names; named = t.totals.named; far = n })

abbrev pub with_curly : Tally → ℕ → Tally
with_curly t n = record { totals = t.totals; curly = n; square = t.square; further = t.further }

abbrev pub with_square : Tally → ℕ → Tally
with_square t n = record { totals = t.totals; curly = t.curly; square = n; further = t.further }

abbrev pub with_further : Tally → ℕ → Tally
with_further t n = record { totals = t.totals; curly = t.curly; square = t.square; further = n }

-- a mark counts outside code
placed : (what c k o : ℕ) → o ≡ one_if c 0 → placed_weight what c k ≡ o * mark_weight what k
unfolding placed_weight one_if
placed what c k o e = rw e (go (eqb c 0) (mark_weight what k))
  where
    go : (t : Bool) (n : ℕ) → (when t then n else 0) ≡ (when t then 1 else 0) * n
    go true n = omega arith
    go false n = omega arith

opened_is : (c q o : ℕ) → o ≡ one_if c 0 → q + o ≡ opened c q
unfolding opened one_if
opened_is c q o e = rw e (go (eqb c 0))
  where
    go : (t : Bool) → q + (when t then 1 else 0) ≡ (when t then q + 1 else q)
    go true = omega arith
    go false = omega arith

pub outside_fits : (n c o : ℕ) → n < 4294967296 → o ≡ one_if c 0 → n + o < 18446744073709551616
outside_fits n c o h e = omega (arith, one_small c 0)

-- two weights agree, whatever of the nine is summed
record Nine (x y : ℕ → ℕ) : Type 0 where
  n0 : x 0 ≡ y 0
  n1 : x 1 ≡ y 1
  n2 : x 2 ≡ y 2
  n3 : x 3 ≡ y 3
  n4 : x 4 ≡ y 4
  n5 : x 5 ≡ y 5
  n6 : x 6 ≡ y 6
  n7 : x 7 ≡ y 7
  n8 : x 8 ≡ y 8

nine : (x y : ℕ → ℕ) → ((what : ℕ) → x what ≡ y what) → Nine x y
nine x y h = record { n0 = h 0; n1 = h 1; n2 = h 2; n3 = h 3; n4 = h 4; n5 = h 5; n6 = h 6; n7 = h 7; n8 = h 8 }

marks : (c k o : ℕ) → o ≡ one_if c 0 → Nine (λ what. placed_weight what c k) (λ what. o * mark_weight what k)
marks c k o e = nine _ _ (λ what. placed what c k o e)

module _ (what q f l : ℕ) where
  up_first : (l ≡ 7 → ⊥) → up_weight what q f l ≡ (when eqb what 6 then q - 1 else 0)
  unfolding up_weight
  up_first n = rw (ne_eqb l 7 n)

  up_near : l ≡ 7 → f < q - 1 → up_weight what q f l ≡ one_if what 7
  unfolding up_weight
  up_near e h = rw (e, lt-ltb f (q - 1) h)

  up_far : l ≡ 7 → q - 1 ≤ f → up_weight what q f l ≡ one_if what 8
  unfolding up_weight
  up_far e h = rw (e, le-ltb f (q - 1) h)

  up_none : one_if what 7 ≡ 0 → one_if what 8 ≡ 0 → eqb what 6 ≡ false → up_weight what q f l ≡ 0
  unfolding up_weight
  up_none a b c = rw (a, b, c) (go (eqb l 7) (ltb f (q - 1)))
    where
      go : (t u : Bool) → ◌≡◌ {A = ℕ} (when t then (when u then 0 else 0) else 0) 0
      go true true = refl
      go true false = refl
      go false u = refl

  slot_path : (l ≡ 7 → ⊥) → path_weight what q f l 25 ≡ 0
  unfolding path_weight
  slot_path n = rw (ne_eqb l 7 n)

module _ (l f : ℕ) where
  further_first : (l ≡ 7 → ⊥) → further_after l f 8 ≡ 0
  unfolding further_after
  further_first n = rw (ne_eqb l 7 n)

  further_more : l ≡ 7 → further_after l f 8 ≡ f + 1
  unfolding further_after
  further_more e = rw e

-- a `^`, after a token of kind l
module _ (t : Tally) (l levels : ℕ) (is : levels ≡ t.square - 1) where
  abbrev weights : (ℕ → ℕ) → Type 0
  weights = Nine (λ what. up_weight what t.square t.further l)

  pub climb_first : (l ≡ 7 → ⊥) → Climbs t l (with_further (with_names t (t.totals.names + levels)) 0)
  climb_first n =
      let u : weights (λ what. when eqb what 6 then t.square - 1 else 0) = nine _ _ (λ what. up_first what t.square t.further l n) in
      let f = further_first l t.further n in
      search rules

  pub climb_near : l ≡ 7 → t.further < levels → Climbs t l (with_named (with_further t (t.further + 1)) (t.totals.named + 1))
  unfolding one_if
  climb_near e h =
      let u : weights (λ what. one_if what 7) = nine _ _ (λ what. up_near what t.square t.further l e (omega arith)) in
      let f = further_more l t.further e in
      search rules

  pub climb_far : l ≡ 7 → levels ≤ t.further → Climbs t l (with_far (with_further t (t.further + 1)) (t.totals.far + 1))
  unfolding one_if
  climb_far e h =
      let u : weights (λ what. one_if what 8) = nine _ _ (λ what. up_far what t.square t.further l e (omega arith)) in
      let f = further_more l t.further e in
      search rules

-- above the kinds of brackets
past_brackets : (k : ℕ) → (k ≡ 12 → ⊥) → (k ≡ 13 → ⊥) → (k ≡ 14 → ⊥) → (k ≡ 15 → ⊥) → 12 ≤ k → 16 ≤ k
past_brackets k a b c d h = omega arith

-- a token of kind k, after one of kind l
module _ (t : Tally) (l k : ℕ) where
  pub count_self : k ≡ 1 → (o : ℕ) → o ≡ one_if t.curly 0 → Counts t l k (with_misplaced t (t.totals.misplaced + o))
  unfolding weight plain_weight expression_weight mark_weight path_weight curly_after square_after further_after one_if
  count_self e o eo = rw e (let m = marks t.curly 1 o eo in search rules)

  pub count_show : k ≡ 2 → Counts t l k (with_expressions t (t.totals.expressions + 1))
  unfolding weight plain_weight expression_weight mark_weight path_weight curly_after square_after further_after one_if
  count_show e = rw e (let m = marks t.curly 2 _ refl in search rules)

  pub count_jump : k ≡ 3 → Counts t l k (with_expressions t (t.totals.expressions + 2))
  unfolding weight plain_weight expression_weight mark_weight path_weight curly_after square_after further_after one_if
  count_jump e = rw e (let m = marks t.curly 3 _ refl in search rules)

  pub count_ifeq : k ≡ 4 → Counts t l k (with_expressions t (t.totals.expressions + 3))
  unfolding weight plain_weight expression_weight mark_weight path_weight curly_after square_after further_after one_if
  count_ifeq e = rw e (let m = marks t.curly 4 _ refl in search rules)

  pub count_assign : k ≡ 6 → Counts t l k (with_expressions t (t.totals.expressions + 1))
  unfolding weight plain_weight expression_weight mark_weight path_weight curly_after square_after further_after one_if
  count_assign e = rw e (let m = marks t.curly 6 _ refl in search rules)

  pub count_bang : k ≡ 9 → (o : ℕ) → o ≡ one_if t.curly 0 → Counts t l k (with_misplaced (with_expressions t (t.totals.expressions + 1)) (t.totals.misplaced + o))
  unfolding weight plain_weight expression_weight mark_weight path_weight curly_after square_after further_after one_if
  count_bang e o eo = rw e (let m = marks t.curly 9 o eo in search rules)

  pub count_semicolon : k ≡ 10 → Counts t l k (with_instructions t (t.totals.instructions + 1))
  unfolding weight plain_weight expression_weight mark_weight path_weight curly_after square_after further_after one_if
  count_semicolon e = rw e (let m = marks t.curly 10 _ refl in search rules)

  pub count_open : k ≡ 12 → (o : ℕ) → o ≡ one_if t.curly 0 → Counts t l k (with_square (with_frames t (t.totals.frames + o)) (t.square + o))
  unfolding weight plain_weight expression_weight mark_weight path_weight curly_after square_after further_after one_if
  count_open e o eo = rw e (let m = marks t.curly 12 o eo in let g = opened_is t.curly t.square o eo in search rules)

  pub count_close : k ≡ 13 → (q : ℕ) → q ≡ closed t.curly t.square → Counts t l k (with_square t q)
  unfolding weight plain_weight expression_weight mark_weight path_weight curly_after square_after further_after one_if
  count_close e q eq = rw e (let m = marks t.curly 13 _ refl in search rules)

  pub count_open_curly : k ≡ 14 → Counts t l k (with_curly t (t.curly + 1))
  unfolding weight plain_weight expression_weight mark_weight path_weight curly_after square_after further_after one_if
  count_open_curly e = rw e (let m = marks t.curly 14 _ refl in search rules)

  pub count_close_curly : k ≡ 15 → (c : ℕ) → c ≡ t.curly - 1 → Counts t l k (with_curly t c)
  unfolding weight plain_weight expression_weight mark_weight path_weight curly_after square_after further_after one_if
  count_close_curly e c ec = rw e (let m = marks t.curly 15 _ refl in search rules)

  pub count_string : k ≡ 27 → Counts t l k (with_strings t (t.totals.strings + 1))
  unfolding weight plain_weight expression_weight mark_weight path_weight curly_after square_after further_after one_if
  count_string e = rw e (let m = marks t.curly 27 _ refl in search rules)

  pub count_code : k ≡ 28 → Counts t l k (with_codes t (t.totals.codes + 1))
  unfolding weight plain_weight expression_weight mark_weight path_weight curly_after square_after further_after one_if
  count_code e = rw e (let m = marks t.curly 28 _ refl in search rules)

  pub count_name : k ≡ 25 → l ≡ 7 → Counts t l k (with_names t (t.totals.names + 1))
  unfolding weight plain_weight expression_weight mark_weight path_weight curly_after square_after further_after one_if
  count_name e d = rw (e, d) (let m = marks t.curly 25 _ refl in search rules)

  pub count_slot : k ≡ 25 → (l ≡ 7 → ⊥) → Counts t l k t
  unfolding weight plain_weight expression_weight mark_weight curly_after square_after further_after
  count_slot e n = rw e (let m = marks t.curly 25 _ refl in let j = nine _ _ (λ what. slot_path what t.square t.further l n) in search rules)

  pub count_up : k ≡ 8 → (o : ℕ) → o ≡ one_if t.curly 0 → (r : Tally) → Climbs (with_misplaced t (t.totals.misplaced + o)) l r → Counts t l k r
  unfolding weight plain_weight expression_weight mark_weight path_weight curly_after square_after one_if
  count_up e o eo r d =
      rw e
      (let m = marks t.curly 8 o eo in
      let u0 = none 0 refl refl refl in
      let u1 = none 1 refl refl refl in
      let u2 = none 2 refl refl refl in
      let u3 = none 3 refl refl refl in
      let u4 = none 4 refl refl refl in
      let u5 = none 5 refl refl refl in
      search rules)
    where
      none : (what : ℕ) → one_if what 7 ≡ 0 → one_if what 8 ≡ 0 → eqb what 6 ≡ false → up_weight what t.square t.further l ≡ 0
      none what = up_none what t.square t.further l

  -- a kind that is none of those: an operator counts, any other adds nothing
  module _ (n1 : k ≡ 1 → ⊥) (n2 : k ≡ 2 → ⊥) (n3 : k ≡ 3 → ⊥) (n4 : k ≡ 4 → ⊥) (n6 : k ≡ 6 → ⊥) (n8 : k ≡ 8 → ⊥) (n9 : k ≡ 9 → ⊥) (n10 : k ≡ 10 → ⊥) (n12 : k ≡ 12 → ⊥) (n13 : k ≡ 13 → ⊥) (n14 : k ≡ 14 → ⊥) (n15 : k ≡ 15 → ⊥) (n25 : k ≡ 25 → ⊥) (n27 : k ≡ 27 → ⊥) (n28 : k ≡ 28 → ⊥) where
    plain_bare : (what : ℕ) → plain_weight what k ≡ (when ltb k 16 then 0 else when ltb 24 k then 0 else one_if what 0 + one_if what 0)
    unfolding plain_weight expression_weight
    plain_bare what =
        rw (ne_eqb k 10 n10, ne_eqb k 27 n27, ne_eqb k 28 n28, ne_eqb k 3 n3, ne_eqb k 4 n4, ne_eqb k 2 n2, ne_eqb k 6 n6, ne_eqb k 9 n9)

    mark_bare : (what : ℕ) → mark_weight what k ≡ (when ltb k 16 then 0 else when ltb 24 k then 0 else one_if what 5)
    unfolding mark_weight
    mark_bare what = rw (ne_eqb k 12 n12, ne_eqb k 1 n1, ne_eqb k 8 n8, ne_eqb k 9 n9)

    path_bare : (what : ℕ) → path_weight what t.square t.further l k ≡ 0
    unfolding path_weight
    path_bare what = rw (ne_eqb k 8 n8, ne_eqb k 25 n25)

    curly_bare : curly_after t.curly k ≡ t.curly
    unfolding curly_after
    curly_bare = rw (ne_eqb k 14 n14, ne_eqb k 15 n15)

    square_bare : square_after t.curly t.square k ≡ t.square
    unfolding square_after
    square_bare = rw (ne_eqb k 12 n12, ne_eqb k 13 n13)

    further_bare : further_after l t.further k ≡ t.further
    unfolding further_after
    further_bare = rw (ne_eqb k 8 n8)

    bare : (u v : Bool) (o : ℕ) → o ≡ one_if t.curly 0 → ltb k 16 ≡ u → ltb 24 k ≡ v →
        Nine (λ what. weight what t.curly t.square t.further l k)
        (λ what. when u then 0 else when v then 0 else one_if what 0 + one_if what 0 + o * one_if what 5)
    unfolding weight
    bare u v o eo eu ev = nine _ _ (λ what. rw (placed what t.curly k o eo, plain_bare what, mark_bare what, path_bare what, eu, ev) (go u v _ _))
      where
        go : (u v : Bool) (x y : ℕ) → (when u then 0 else when v then 0 else x) + o * (when u then 0 else when v then 0 else y) + 0 ≡ (when u then 0 else when v then 0 else x + o * y)
        go true v x y = omega arith
        go false true x y = omega arith
        go false false x y = omega arith

    pub count_low : k < 12 → Counts t l k t
    count_low h = let w = bare true _ _ refl (lt-ltb k 16 (omega arith)) refl in let c = curly_bare in let q = square_bare in let f = further_bare in search rules

    pub count_high : 25 ≤ k → Counts t l k t
    count_high h = let w = bare false true _ refl (le-ltb k 16 (omega arith)) (lt-ltb 24 k (omega arith)) in let c = curly_bare in let q = square_bare in let f = further_bare in search rules

    count_operator : 12 ≤ k → k < 25 → (o : ℕ) → o ≡ one_if t.curly 0 → Counts t l k (with_misplaced (with_expressions t (t.totals.expressions + 2)) (t.totals.misplaced + o))
    unfolding one_if
    count_operator g h o eo =
        let w = bare false false o eo (le-ltb k 16 (past_brackets k n12 n13 n14 n15 g)) (le-ltb 24 k (omega arith)) in let c = curly_bare in let q = square_bare in let f = further_bare in search rules

  pub count_operators : 16 ≤ k → k < 25 → (o : ℕ) → o ≡ one_if t.curly 0 → Counts t l k (with_misplaced (with_expressions t (t.totals.expressions + 2)) (t.totals.misplaced + o))
  count_operators g h = count_operator (λ e. omega arith) (λ e. omega arith) (λ e. omega arith) (λ e. omega arith) (λ e. omega arith) (λ e. omega arith) (λ e. omega arith) (λ e. omega arith) (λ e. omega arith) (λ e. omega arith) (λ e. omega arith) (λ e. omega arith) (λ e. omega arith) (λ e. omega arith) (λ e. omega arith) (omega arith) h

-- ---- How large it is

either : (m : ℕ) (t : Bool) (x y : ℕ) → x ≤ m → y ≤ m → (when t then x else y) ≤ m
either m true x y a b = a
either m false x y a b = b

plain_small : (what k : ℕ) → plain_weight what k ≤ 3
unfolding plain_weight expression_weight
plain_small what k =
    e (eqb k 10) _ _ (omega (arith, one_small what 1)) (e (eqb k 27) _ _ (omega (arith, one_small what 2)) (e (eqb k 28) _ _ (omega (arith, one_small what 3))
    (e (eqb k 3) _ _ (omega (arith, one_small what 0)) (e (eqb k 4) _ _ (omega (arith, one_small what 0)) (e (eqb k 2) _ _ (omega (arith, one_small what 0))
    (e (eqb k 6) _ _ (omega (arith, one_small what 0)) (e (eqb k 9) _ _ (omega (arith, one_small what 0)) (e (ltb k 16) _ _ (omega arith)
    (e (ltb 24 k) _ _ (omega arith) (omega (arith, one_small what 0)))))))))))
  where
    e : (t : Bool) (x y : ℕ) → x ≤ 3 → y ≤ 3 → (when t then x else y) ≤ 3
    e = either 3

placed_small : (what c k : ℕ) → placed_weight what c k ≤ 1
unfolding placed_weight mark_weight
placed_small what c k =
    e (eqb c 0) _ _ (e (eqb k 12) _ _ (one_small what 4) (e (eqb k 1) _ _ (one_small what 5) (e (eqb k 8) _ _ (one_small what 5) (e (eqb k 9) _ _ (one_small what 5)
    (e (ltb k 16) _ _ (omega arith) (e (ltb 24 k) _ _ (omega arith) (one_small what 5))))))) (omega arith)
  where
    e : (t : Bool) (x y : ℕ) → x ≤ 1 → y ≤ 1 → (when t then x else y) ≤ 1
    e = either 1

path_small : (what q f l k : ℕ) → path_weight what q f l k ≤ q + 1
unfolding path_weight up_weight
path_small what q f l k =
    e (eqb k 8) _ _ (e (eqb l 7) _ _ (e (ltb f (q - 1)) _ _ (omega (arith, one_small what 7)) (omega (arith, one_small what 8))) (e (eqb what 6) _ _ (omega arith) (omega arith)))
    (e (eqb k 25) _ _ (e (eqb l 7) _ _ (omega (arith, one_small what 6)) (omega arith)) (omega arith))
  where
    e : (t : Bool) (x y : ℕ) → x ≤ q + 1 → y ≤ q + 1 → (when t then x else y) ≤ q + 1
    e = either (q + 1)

weight_small : (what c q f l k : ℕ) → weight what c q f l k ≤ q + 5
unfolding weight
weight_small what c q f l k = omega (arith, plain_small what k, placed_small what c k, path_small what q f l k)

curly_small : (c k : ℕ) → curly_after c k ≤ c + 1
unfolding curly_after
curly_small c k = either (c + 1) (eqb k 14) _ _ (omega arith) (either (c + 1) (eqb k 15) _ _ (omega arith) (omega arith))

square_small : (c q k : ℕ) → square_after c q k ≤ q + 1
unfolding square_after opened closed
square_small c q k =
    either (q + 1) (eqb k 12) _ _ (either (q + 1) (eqb c 0) _ _ (omega arith) (omega arith))
    (either (q + 1) (eqb k 13) _ _ (either (q + 1) (eqb c 0) _ _ (omega arith) (omega arith)) (omega arith))

further_small : (l f k : ℕ) → further_after l f k ≤ f + 1
unfolding further_after
further_small l f k = either (f + 1) (eqb k 8) _ _ (either (f + 1) (eqb l 7) _ _ (omega arith) (omega arith)) (omega arith)

-- ---- The loop

-- the sum of the tokens that are left, on top of n
unfoldable pub left_sum : ℕ → ℕ → ℕ → ℕ → ℕ → ℕ → List Token → ℕ
left_sum what n c q f l ts = n + sum_of what c q f l (kinds ts)

pub record Summing (s : List ℕ) (what at n c q f l : ℕ) : Type 0 where
  pub few_curly : c ≤ at
  pub few_square : q ≤ at
  pub few_further : f ≤ at
  pub few : n ≤ 32768 * at
  pub going : Going (left_sum what 0 0 0 0 0) s 0 (left_sum what n c q f l) at

pub sum_start : (s : List ℕ) (what : ℕ) → Summing s what 0 0 0 0 0 0
sum_start s what = record { few_curly = omega arith; few_square = omega arith; few_further = omega arith; few = omega arith; going = go_start _ s 0 }

ended : (s : List ℕ) (what n c q f l : ℕ) → Gives (left_sum what 0 0 0 0 0) s 0 (left_sum what n c q f l []) → Sums s what n
unfolding left_sum sum_of whole_sum kinds rest
ended s what n c q f l g = record { is = λ ts e. let h = g.gives ts e in omega arith }

module _ (s : List ℕ) (what at n c q f l : ℕ) (i : Summing s what at n c q f l) where
  pub sum_done : length s ≤ at → Sums s what n
  sum_done h = ended s what n c q f l (go_done _ s 0 _ at i.going h)

  module _ (r : TokenRead) (found : TokenAt class s at r) where
    pub sum_end : r ≡ TokenRead.End → Sums s what n
    sum_end e = ended s what n c q f l (go_end _ s 0 _ at i.going r found e)

    pub sum_none : r ≡ TokenRead.NoToken → Sums s what n
    sum_none e = ended s what n c q f l (go_none _ s 0 _ at i.going r found e _)

    module _ (k a p w : ℕ) (e : r ≡ TokenRead.Token k a p w) where
      spot : Spot at (length s) k a p
      spot = spot_of r found.on e

      step : (us : List Token) → left_sum what n c q f l (token_of s k a p w ∷ us) ≡ left_sum what (n + weight what c q f l k) (curly_after c k) (square_after c q k) (further_after l f k) k us
      unfolding left_sum sum_of kinds
      step us = rw (kind_is s a p w k spot.known) (omega arith)

      pub sum_again : (m f' q' c' : ℕ) → Short s → at < length s → m ≡ n + weight what c q f l k → f' ≡ further_after l f k → q' ≡ square_after c q k → c' ≡ curly_after c k →
          Summing s what p m c' q' f' k
      sum_again m f' q' c' h v em ef eq ec = record {
        few_curly = omega (arith, curly_small c k, i.few_curly, spot.begins, spot.more);
        few_square = omega (arith, square_small c q k, i.few_square, spot.begins, spot.more);
        few_further = omega (arith, further_small l f k, i.few_further, spot.begins, spot.more);
        few = omega (arith, weight_small what c q f l k, i.few, i.few_square, h.short, spot.begins, spot.more);
        going = rw (em, ef, eq, ec) (go_again _ s 0 _ at i.going r found k a p w e _ (λ us f. step us));
      }

-- ---- The nine sums

-- the nine sums of t, and last token of kind l, at a position
pub record Tallying (s : List ℕ) (at : ℕ) (t : Tally) (l : ℕ) : Type 0 where
  pub expressions : Summing s 0 at t.totals.expressions t.curly t.square t.further l
  pub instructions : Summing s 1 at t.totals.instructions t.curly t.square t.further l
  pub strings : Summing s 2 at t.totals.strings t.curly t.square t.further l
  pub codes : Summing s 3 at t.totals.codes t.curly t.square t.further l
  pub frames : Summing s 4 at t.totals.frames t.curly t.square t.further l
  pub misplaced : Summing s 5 at t.totals.misplaced t.curly t.square t.further l
  pub names : Summing s 6 at t.totals.names t.curly t.square t.further l
  pub named : Summing s 7 at t.totals.named t.curly t.square t.further l
  pub far : Summing s 8 at t.totals.far t.curly t.square t.further l

pub tally_start : (s : List ℕ) (t : Tally) → t ≡ nothing → Tallying s 0 t 0
unfolding nothing
tally_start s t e = rw e (record { expressions = sum_start s 0; instructions = sum_start s 1; strings = sum_start s 2; codes = sum_start s 3; frames = sum_start s 4; misplaced = sum_start s 5; names = sum_start s 6; named = sum_start s 7; far = sum_start s 8 })

module _ (s : List ℕ) (at : ℕ) (t : Tally) (l : ℕ) (i : Tallying s at t l) where
  ends : ((what n : ℕ) → Summing s what at n t.curly t.square t.further l → Sums s what n) → Totalled s t.totals
  ends h = record {
    expressions = h 0 _ i.expressions;
    instructions = h 1 _ i.instructions;
    strings = h 2 _ i.strings;
    codes = h 3 _ i.codes;
    frames = h 4 _ i.frames;
    misplaced = h 5 _ i.misplaced;
    names = h 6 _ i.names;
    named = h 7 _ i.named;
    far = h 8 _ i.far;
  }

  pub tally_done : length s ≤ at → Totalled s t.totals
  tally_done h = ends (λ what n j. sum_done s what at n _ _ _ l j h)

  pub tally_room : Short s → at < length s → Room t
  tally_room h m = record {
    expressions = omega (arith, h.short, i.expressions.few);
    instructions = omega (arith, h.short, i.instructions.few);
    strings = omega (arith, h.short, i.strings.few);
    codes = omega (arith, h.short, i.codes.few);
    frames = omega (arith, h.short, i.frames.few);
    misplaced = omega (arith, h.short, i.misplaced.few);
    names = omega (arith, h.short, i.names.few);
    named = omega (arith, h.short, i.named.few);
    far = omega (arith, h.short, i.far.few);
    curly = omega (arith, h.short, i.expressions.few_curly);
    square = omega (arith, h.short, i.expressions.few_square);
    further = omega (arith, h.short, i.expressions.few_further);
  }

  module _ (r : TokenRead) (found : TokenAt class s at r) where
    pub tally_end : r ≡ TokenRead.End → Totalled s t.totals
    tally_end e = ends (λ what n j. sum_end s what at n _ _ _ l j r found e)

    pub tally_none : r ≡ TokenRead.NoToken → Totalled s t.totals
    tally_none e = ends (λ what n j. sum_none s what at n _ _ _ l j r found e)

    pub tally_again : (k a p w : ℕ) → r ≡ TokenRead.Token k a p w → (u : Tally) → Counts t l k u → Short s → at < length s → Tallying s p u k
    tally_again k a p w e u d h v = record {
      expressions = again 0 _ _ i.expressions d.expressions;
      instructions = again 1 _ _ i.instructions d.instructions;
      strings = again 2 _ _ i.strings d.strings;
      codes = again 3 _ _ i.codes d.codes;
      frames = again 4 _ _ i.frames d.frames;
      misplaced = again 5 _ _ i.misplaced d.misplaced;
      names = again 6 _ _ i.names d.names;
      named = again 7 _ _ i.named d.named;
      far = again 8 _ _ i.far d.far;
    }
      where
        again : (what n m : ℕ) → Summing s what at n t.curly t.square t.further l → m ≡ n + weight what t.curly t.square t.further l k →
            Summing s what p m u.curly u.square u.further k
        again what n m j em = sum_again s what at n _ _ _ l j r found k a p w e m _ _ _ h v em d.further d.square d.curly
