-- The laws of `Runs`: how a reader that is put together runs. Assumes nothing.
use mathlib.Core.Path.{◌≡◌, refl, sym, ap, ◌∙◌}
use mathlib.Core.List.{List, [], ◌∷◌}
use Prim.Native.Nat.{ℕ, suc, ◌<◌, ◌≤◌}
use native.Mathlib.Omega.{arith}
use lib.IntN.{ℤ}
use lib.ListN.{length}
use borrow.Author.Tests.{eq-eqb, ne_eqb}
use Rattle.framed.specs.Bytes.{class}
use Rattle.framed.specs.Tokens.{Token, Fixed, Operator, token, next, Tokens⊢}
use Rattle.framed.specs.Symbols.{Symbol, numbered}
use Rattle.framed.specs.Tree.{Written, Base}
use Rattle.framed.specs.Parse.{Parsed, fails, parsed, Reader, give, ◌or◌, this, a_name, a_code, a_constant, an_operator, operator_in, fixed_number}
use Rattle.framed.specs.Parse as P
use Rattle.framed.proofs.TokensExact.{end≢token, no_token≢token, rest_inj}
use Rattle.framed.proofs.ParseExact.{bind_out, then_out, bind_fails, then_fails, or_first, or_second}
use Rattle.source.specs.Positions.{rest, part}
use Rattle.token.specs.Reading.{signed, meant, token_of, fixed_kind, token_kind, TokenAt, Spot}
use Rattle.token.proofs.KindNumbers.{kind_is}
use Rattle.token.proofs.Unique.{token_inj}
use Rattle.token.proofs.Answers.{spot_of}
use Rattle.token.specs.declared.TokenRead.{TokenRead}
use Rattle.sweep.proofs.Numbered.{operator_range, fixed_below}
use Rattle.sweep.specs.Kinds.{kind_of, front_kind}
use Rattle.grammar.specs.Runs.{Outcome, Runs, Any, Moved, KindAt, Front, Expects, KindsOk, Sees}
use Rattle.std.specs.Prelude.{Option, None, Some}

-- ---- Readers one after the other, one or the other

module _ {A B : Type 0} (Q : A → Type 0) (Q₂ : B → Type 0) (s : List ℕ) (R : Reader A) (at p : ℕ) (r : Option ℕ) where
  bind_outcome : (f : A → Reader B) (table : List (List ℕ)) (us : List Symbol) → Outcome Q s table (R us) (Some p) →
      ((a : A) → Q a → Runs Q₂ s (f a) p r) → Outcome Q₂ s table (P.◌>>=◌ R f us) r
  bind_outcome f table us (Outcome.done k c {ts} {a} q d e) h = rw (bind_out R f us e refl) ((h a q).runs table k c ts d)

  pub bind_runs : (f : A → Reader B) → Runs Q s R at (Some p) → ((a : A) → Q a → Runs Q₂ s (f a) p r) → Runs Q₂ s (P.◌>>=◌ R f) at r
  bind_runs f m h = record { runs = λ table k c ts d. bind_outcome f table (numbered table k c ts) (m.runs table k c ts d) h }

  then_outcome : (T : Reader B) (table : List (List ℕ)) (us : List Symbol) → Outcome Q s table (R us) (Some p) →
      Runs Q₂ s T p r → Outcome Q₂ s table (P.◌>>◌ R T us) r
  then_outcome T table us (Outcome.done k c {ts} {a} q d e) h = rw (then_out R T us e refl) (h.runs table k c ts d)

  pub then_runs : (T : Reader B) → Runs Q s R at (Some p) → Runs Q₂ s T p r → Runs Q₂ s (P.◌>>◌ R T) at r
  then_runs T m h = record { runs = λ table k c ts d. then_outcome T table (numbered table k c ts) (m.runs table k c ts d) h }

module _ {A B : Type 0} (Q : A → Type 0) (Q₂ : B → Type 0) (s : List ℕ) (R : Reader A) (at : ℕ) where
  failed : {x : Parsed A} {table : List (List ℕ)} → Outcome Q s table x None → x ≡ fails
  failed (Outcome.refused e) = e

  pub bind_stops : (f : A → Reader B) → Runs Q s R at None → Runs Q₂ s (P.◌>>=◌ R f) at None
  bind_stops f m = record { runs = λ table k c ts d. Outcome.refused (bind_fails R f _ (failed (m.runs table k c ts d))) }

  pub then_stops : (T : Reader B) → Runs Q s R at None → Runs Q₂ s (P.◌>>◌ R T) at None
  then_stops T m = record { runs = λ table k c ts d. Outcome.refused (then_fails R T _ (failed (m.runs table k c ts d))) }

module _ {A : Type 0} (Q : A → Type 0) (s : List ℕ) (at : ℕ) where
  pub give_runs : (a : A) → Q a → Runs Q s (give a) at (Some at)
  unfolding give
  give_runs a q = record { runs = λ table k c ts d. Outcome.done k c q d refl }

  or_outcome : (R T : Reader A) (p : ℕ) (table : List (List ℕ)) (us : List Symbol) → Outcome Q s table (R us) (Some p) → Outcome Q s table ((R or T) us) (Some p)
  or_outcome R T p table us (Outcome.done k c q d e) = Outcome.done k c q d (or_first R T us e)

  pub or_runs : (R T : Reader A) (p : ℕ) → Runs Q s R at (Some p) → Runs Q s (R or T) at (Some p)
  or_runs R T p m = record { runs = λ table k c ts d. or_outcome R T p table (numbered table k c ts) (m.runs table k c ts d) }

  pub or_else : (R T : Reader A) (r : Option ℕ) → Runs Q s R at None → Runs Q s T at r → Runs Q s (R or T) at r
  or_else R T r m h = record {
    runs = λ table k c ts d. rw (or_second R T (numbered table k c ts) (failed {B = A} Q Q s R at (m.runs table k c ts d)) refl) (h.runs table k c ts d);
  }

  -- where the first stands alone: whatever it finds, as long as the second finds nothing where the first does not
  pub or_only : (R T : Reader A) (r : Option ℕ) → Runs Q s R at r → Runs Q s T at None → Runs Q s (R or T) at r
  or_only R T (Some p) m h = or_runs R T p m
  or_only R T None m h = or_else R T None m h

-- a value made of what is read
pub map_runs : {A B : Type 0} (s : List ℕ) (R : Reader A) (f : A → B) (at : ℕ) (r : Option ℕ) → Runs Any s R at r → Runs Any s (P.◌>>=◌ R (λ a. give (f a))) at r
map_runs s R f at (Some p) m = bind_runs Any Any s R at p (Some p) _ m (λ a q. give_runs Any s p (f a) Any.any)
map_runs s R f at None m = bind_stops Any Any s R at _ m

-- ---- The first symbol

data Head (s : List ℕ) (table : List (List ℕ)) (p kind : ℕ) (us : List Symbol) : Type 0 where
  head : {x : Symbol} (k c : ℕ) {ts : List Token} → kind_of x ≡ kind → Tokens⊢ class (rest s p) ts → us ≡ x ∷ numbered table k c ts → Head s table p kind us

numbered_head : (s : List ℕ) (table : List (List ℕ)) (k c p : ℕ) (t : Token) (ts : List Token) → Tokens⊢ class (rest s p) ts → Head s table p (token_kind t) (numbered table k c (t ∷ ts))
unfolding numbered token_kind kind_of
numbered_head s table k c p (Token.name w) ts d = head k c refl d refl
numbered_head s table k c p (Token.integer z) ts d = head k c refl d refl
numbered_head s table k c p (Token.string w) ts d = head (suc k) c refl d refl
numbered_head s table k c p Token.code ts d = head k (suc c) refl d refl
numbered_head s table k c p (Token.fixed f) ts d = head k c refl d refl

integer_inj : {z w : ℤ} → Token.integer z ≡ Token.integer w → z ≡ w
integer_inj e = cc

name_inj : {v w : List ℕ} → Token.name v ≡ Token.name w → v ≡ w
name_inj e = cc

module _ (s : List ℕ) (at kk a p w : ℕ) (known : kk < 29) (e : next class (rest s at) ≡ token (token_of s kk a p w) (rest s p)) where
  head_of : (table : List (List ℕ)) (k c : ℕ) (ts : List Token) → Tokens⊢ class (rest s at) ts → Head s table p kk (numbered table k c ts)
  head_of table k c _ (Tokens⊢.at_end f) = absurd (end≢token (sym f ∙ e))
  head_of table k c _ (Tokens⊢.more {ts = ts} f d) =
      rw (token_inj (sym f ∙ e)) (rw (kind_is s a p w kk known) at (numbered_head s table k c p (token_of s kk a p w) ts (rw (rest_inj (sym f ∙ e)) at d)))

-- where nothing is left, or no token, there are no symbols
nothing : (s : List ℕ) (at : ℕ) (t : TokenRead) → TokenAt class s at t → ((k : ℕ) (n : ℕ) (i : ℕ) (j : ℕ) → t ≡ TokenRead.Token k n i j → ⊥) →
    (table : List (List ℕ)) (k c : ℕ) (ts : List Token) → Tokens⊢ class (rest s at) ts → front_kind (numbered table k c ts) ≡ 29
unfolding front_kind numbered meant
nothing s at TokenRead.End m o table k c _ (Tokens⊢.at_end f) = refl
nothing s at TokenRead.End m o table k c _ (Tokens⊢.more f d) = absurd (end≢token (sym m.says ∙ f))
nothing s at TokenRead.NoToken m o table k c _ (Tokens⊢.at_end f) = refl
nothing s at TokenRead.NoToken m o table k c _ (Tokens⊢.more f d) = absurd (no_token≢token (sym m.says ∙ f))
nothing s at (TokenRead.Token kk a p w) m o table k c ts d = absurd (o kk a p w refl)

module _ (s : List ℕ) (at : ℕ) (t : TokenRead) (says : TokenAt class s at t) where
  pub kind_none : ((k : ℕ) (n : ℕ) (i : ℕ) (j : ℕ) → t ≡ TokenRead.Token k n i j → ⊥) → KindAt s at 29
  kind_none o = record { is = nothing s at t says o }

  no_first : ((k : ℕ) (n : ℕ) (i : ℕ) (j : ℕ) → t ≡ TokenRead.Token k n i j → ⊥) → (u : Token) (ts : List Token) → Tokens⊢ class (rest s at) (u ∷ ts) → ⊥
  unfolding front_kind numbered kind_of
  no_first o u ts d = known u ((kind_none o).is [] 0 0 (u ∷ ts) d)
    where
      fixed : (f : Fixed) → fixed_kind f ≡ 29 → ⊥
      fixed f e = omega (arith, fixed_below f)

      known : (u : Token) → front_kind (numbered [] 0 0 (u ∷ ts)) ≡ 29 → ⊥
      known (Token.name w) e = omega arith
      known (Token.integer z) e = omega arith
      known (Token.string w) e = omega arith
      known Token.code e = omega arith
      known (Token.fixed f) e = fixed f e

  pub see_none : ((k : ℕ) (n : ℕ) (i : ℕ) (j : ℕ) → t ≡ TokenRead.Token k n i j → ⊥) → Sees s at (record { kind = 29; word = 0; begin = at; end = at })
  see_none o = record {
    kind_is = kind_none o;
    word_is = λ z ts d. absurd (no_first o (Token.integer z) ts d);
    word_small = omega arith;
    name_is = λ w ts d. absurd (no_first o (Token.name w) ts d);
    on = omega arith;
    inside = λ l. absurd (omega arith);
    further = λ u ts d. absurd (no_first o u ts d);
    reads = λ u ts d. absurd (no_first o u ts d);
    end_is = λ lo hi l h m. absurd (omega arith);
    stands = λ l. absurd (omega arith);
  }

  pub expect_none : (lo hi : ℕ) → KindsOk lo hi → ((k : ℕ) (n : ℕ) (i : ℕ) (j : ℕ) → t ≡ TokenRead.Token k n i j → ⊥) → Expects s lo hi at None
  expect_none lo hi ok o = record {
    front = λ table k c ts d. Front.too_high (rw (nothing s at t says o table k c ts d) ok.known);
    on = Moved.stops;
  }

  module _ (kk a p w : ℕ) (f : t ≡ TokenRead.Token kk a p w) where
    spot : Spot at (length s) kk a p
    spot = spot_of t says.on f

    front_of : (table : List (List ℕ)) (k c : ℕ) (ts : List Token) → Tokens⊢ class (rest s at) ts → Head s table p kk (numbered table k c ts)
    unfolding meant
    front_of = head_of s at kk a p w spot.known (says.says ∙ ap (meant s) f)

    head_kind : {table : List (List ℕ)} {us : List Symbol} → Head s table p kk us → front_kind us ≡ kk
    unfolding front_kind
    head_kind (head k c e d h) = rw h e

    pub kind_some : KindAt s at kk
    kind_some = record { is = λ table k c ts d. head_kind (front_of table k c ts d) }

    pub expect_below : (lo hi : ℕ) → kk < lo → Expects s lo hi at None
    expect_below lo hi l = record { front = λ table k c ts d. Front.too_low (lower (head_kind (front_of table k c ts d)) l); on = Moved.stops }
      where
        lower : {m n lo : ℕ} → m ≡ n → n < lo → m < lo
        lower e l = omega arith

    pub expect_above : (lo hi : ℕ) → hi < kk → Expects s lo hi at None
    expect_above lo hi l = record { front = λ table k c ts d. Front.too_high (rw (head_kind (front_of table k c ts d)) l); on = Moved.stops }

    expected : (lo hi : ℕ) → lo ≤ kk → kk ≤ hi → (table : List (List ℕ)) (us : List Symbol) → Head s table p kk us → Front s table lo hi us (Some p)
    expected lo hi l h table us (head {x = x} k c e d q) = Front.one {x = x} k c (rw e l) (rw e h) d q

    pub expect_one : (lo hi : ℕ) → lo ≤ kk → kk ≤ hi → Expects s lo hi at (Some p)
    expect_one lo hi l h = record {
      front = λ table k c ts d. expected lo hi l h table (numbered table k c ts) (front_of table k c ts d);
      on = Moved.moves {p = p} (omega (arith, spot.begins, spot.more)) spot.inside;
    }

    -- the first token is the one that is meant
    is_first : (u : Token) (ts : List Token) → Tokens⊢ class (rest s at) (u ∷ ts) → (u ≡ token_of s kk a p w) × Tokens⊢ class (rest s p) ts
    unfolding meant
    is_first u ts (Tokens⊢.more e d) = let h = sym e ∙ says.says ∙ ap (meant s) f in (token_inj h, rw (rest_inj h) at d)

    word_meant : (z : ℤ) → Token.integer z ≡ token_of s kk a p w → signed w ≡ z
    unfolding token_of token_kind
    word_meant z e = sym (integer_inj (e ∙ rw kind))
      where
        kind : kk ≡ 26
        kind = sym (kind_is s a p w kk spot.known) ∙ ap token_kind (sym e)

    name_meant : (v : List ℕ) → Token.name v ≡ token_of s kk a p w → part s a p ≡ v
    unfolding token_of token_kind
    name_meant v e = sym (name_inj (e ∙ rw kind))
      where
        kind : kk ≡ 25
        kind = sym (kind_is s a p w kk spot.known) ∙ ap token_kind (sym e)

    pub see_some : w < 4294967296 → Sees s at (record { kind = kk; word = w; begin = a; end = p })
    see_some l = record {
      kind_is = kind_some;
      word_is = λ z ts d. word_meant z (is_first (Token.integer z) ts d).0;
      word_small = l;
      name_is = λ v ts d. name_meant v (is_first (Token.name v) ts d).0;
      on = omega (arith, spot.begins, spot.more);
      inside = λ l. omega (arith, spot.begins, spot.more, spot.inside);
      further = λ u ts d. omega (arith, spot.begins, spot.more);
      reads = λ u ts d. (is_first u ts d).1;
      end_is = λ lo hi l h m. expect_one lo hi l h;
      stands = λ l. rw f at says;
    }

-- ---- Readers of one symbol

-- a reader of one symbol, by its kind
pub record ByKind {A : Type 0} (R : Reader A) (lo hi : ℕ) : Type 0 where
  pub takes : (x : Symbol) → lo ≤ kind_of x → kind_of x ≤ hi → (us : List Symbol) → (a : A) × (R (x ∷ us) ≡ parsed a us)
  pub leaves : (us : List Symbol) → (lo ≤ front_kind us → front_kind us ≤ hi → ⊥) → R us ≡ fails

module _ {A : Type 0} (R : Reader A) (lo hi : ℕ) (by : ByKind R lo hi) (s : List ℕ) (at : ℕ) where
  by_outcome : (table : List (List ℕ)) (us : List Symbol) (r : Option ℕ) → Front s table lo hi us r → Outcome Any s table (R us) r
  by_outcome table us _ (Front.one {x = x} {p = p} k c {ts} l h d e) =
      taken (by.takes x l h (numbered table k c ts))
    where
      taken : (a : A) × (R (x ∷ numbered table k c ts) ≡ parsed a (numbered table k c ts)) → Outcome Any s table (R us) (Some p)
      taken (a, q) = Outcome.done k c Any.any d (ap R e ∙ q)
  by_outcome table us _ (Front.too_low l) = Outcome.refused (by.leaves us (λ h i. none l h))
    where
      none : {m n : ℕ} → m < n → n ≤ m → ⊥
      none l h = omega arith
  by_outcome table us _ (Front.too_high l) = Outcome.refused (by.leaves us (λ h i. none l i))
    where
      none : {m n : ℕ} → m < n → n ≤ m → ⊥
      none l h = omega arith

  pub by_runs : (r : Option ℕ) → Expects s lo hi at r → Runs Any s R at r
  by_runs r x = record { runs = λ table k c ts d. by_outcome table (numbered table k c ts) r (x.front table k c ts d) }

  pub by_stops : (kind : ℕ) → KindAt s at kind → (lo ≤ kind → kind ≤ hi → ⊥) → Runs Any s R at None
  by_stops kind x n = record { runs = λ table k c ts d. Outcome.refused (by.leaves _ (rw (x.is table k c ts d) n)) }

-- fixed symbols other than operators: kind and number are the same
fixed_same : (g : Fixed) → fixed_kind g < 16 → fixed_number g ≡ fixed_kind g
unfolding fixed_kind fixed_number
fixed_same Fixed.frame l = refl
fixed_same Fixed.self l = refl
fixed_same Fixed.show l = refl
fixed_same Fixed.jump l = refl
fixed_same Fixed.ifeq l = refl
fixed_same Fixed.colon l = refl
fixed_same Fixed.assign l = refl
fixed_same Fixed.dot l = refl
fixed_same Fixed.up l = refl
fixed_same Fixed.bang l = refl
fixed_same Fixed.semicolon l = refl
fixed_same Fixed.comma l = refl
fixed_same Fixed.open_square l = refl
fixed_same Fixed.close_square l = refl
fixed_same Fixed.open_curly l = refl
fixed_same Fixed.close_curly l = refl
fixed_same (Fixed.operator o) l = absurd (omega (arith, (operator_range o).0))

fixed_other : (g : Fixed) (n : ℕ) → n < 16 → fixed_number g ≡ n → fixed_kind g ≡ n
unfolding fixed_kind fixed_number
fixed_other Fixed.frame n l e = e
fixed_other Fixed.self n l e = e
fixed_other Fixed.show n l e = e
fixed_other Fixed.jump n l e = e
fixed_other Fixed.ifeq n l e = e
fixed_other Fixed.colon n l e = e
fixed_other Fixed.assign n l e = e
fixed_other Fixed.dot n l e = e
fixed_other Fixed.up n l e = e
fixed_other Fixed.bang n l e = e
fixed_other Fixed.semicolon n l e = e
fixed_other Fixed.comma n l e = e
fixed_other Fixed.open_square n l e = e
fixed_other Fixed.close_square n l e = e
fixed_other Fixed.open_curly n l e = e
fixed_other Fixed.close_curly n l e = e
fixed_other (Fixed.operator o) n l e = absurd (omega arith)

pub by_this : (f : Fixed) → fixed_number f < 16 → ByKind (this f) (fixed_number f) (fixed_number f)
unfolding this kind_of front_kind
by_this f l = record { takes = takes; leaves = leaves }
  where
    le : {m n : ℕ} → m ≡ n → n ≤ m
    le e = omega arith

    ge : {m n : ℕ} → m ≡ n → m ≤ n
    ge e = omega arith

    takes : (x : Symbol) → fixed_number f ≤ kind_of x → kind_of x ≤ fixed_number f → (us : List Symbol) → (a : Fixed) × (this f (x ∷ us) ≡ parsed a us)
    takes (Symbol.name n) h i us = absurd (omega arith)
    takes (Symbol.integer z) h i us = absurd (omega arith)
    takes (Symbol.string k) h i us = absurd (omega arith)
    takes (Symbol.code k) h i us = absurd (omega arith)
    takes (Symbol.fixed g) h i us =
        let e : fixed_number g ≡ fixed_kind g = fixed_same g (omega arith) in
        (f, rw (eq-eqb (fixed_number f) (fixed_number g) (omega arith)))

    leaves : (us : List Symbol) → (fixed_number f ≤ front_kind us → front_kind us ≤ fixed_number f → ⊥) → this f us ≡ fails
    leaves [] h = refl
    leaves (Symbol.name n ∷ us) h = refl
    leaves (Symbol.integer z ∷ us) h = refl
    leaves (Symbol.string k ∷ us) h = refl
    leaves (Symbol.code k ∷ us) h = refl
    leaves (Symbol.fixed g ∷ us) h =
        rw (ne_eqb (fixed_number f) (fixed_number g) (λ e. h (le (fixed_other g (fixed_number f) l (sym e))) (ge (fixed_other g (fixed_number f) l (sym e)))))

pub by_name : ByKind a_name 25 25
unfolding a_name kind_of front_kind
by_name = record { takes = takes; leaves = leaves }
  where
    takes : (x : Symbol) → 25 ≤ kind_of x → kind_of x ≤ 25 → (us : List Symbol) → (a : ℕ) × (a_name (x ∷ us) ≡ parsed a us)
    takes (Symbol.name n) h i us = (n, refl)
    takes (Symbol.integer z) h i us = absurd (omega arith)
    takes (Symbol.string k) h i us = absurd (omega arith)
    takes (Symbol.code k) h i us = absurd (omega arith)
    takes (Symbol.fixed g) h i us = absurd (omega (arith, fixed_below g))

    leaves : (us : List Symbol) → (25 ≤ front_kind us → front_kind us ≤ 25 → ⊥) → a_name us ≡ fails
    leaves [] h = refl
    leaves (Symbol.name n ∷ us) h = absurd (h (omega arith) (omega arith))
    leaves (Symbol.integer z ∷ us) h = refl
    leaves (Symbol.string k ∷ us) h = refl
    leaves (Symbol.code k ∷ us) h = refl
    leaves (Symbol.fixed g ∷ us) h = refl

pub by_code : ByKind a_code 28 28
unfolding a_code kind_of front_kind
by_code = record { takes = takes; leaves = leaves }
  where
    takes : (x : Symbol) → 28 ≤ kind_of x → kind_of x ≤ 28 → (us : List Symbol) → (a : ℕ) × (a_code (x ∷ us) ≡ parsed a us)
    takes (Symbol.name n) h i us = absurd (omega arith)
    takes (Symbol.integer z) h i us = absurd (omega arith)
    takes (Symbol.string k) h i us = absurd (omega arith)
    takes (Symbol.code k) h i us = (k, refl)
    takes (Symbol.fixed g) h i us = absurd (omega (arith, fixed_below g))

    leaves : (us : List Symbol) → (28 ≤ front_kind us → front_kind us ≤ 28 → ⊥) → a_code us ≡ fails
    leaves [] h = refl
    leaves (Symbol.name n ∷ us) h = refl
    leaves (Symbol.integer z ∷ us) h = refl
    leaves (Symbol.string k ∷ us) h = refl
    leaves (Symbol.code k ∷ us) h = absurd (h (omega arith) (omega arith))
    leaves (Symbol.fixed g ∷ us) h = refl

pub by_constant : ByKind a_constant 26 27
unfolding a_constant kind_of front_kind
by_constant = record { takes = takes; leaves = leaves }
  where
    takes : (x : Symbol) → 26 ≤ kind_of x → kind_of x ≤ 27 → (us : List Symbol) → (a : Base Written) × (a_constant (x ∷ us) ≡ parsed a us)
    takes (Symbol.name n) h i us = absurd (omega arith)
    takes (Symbol.integer z) h i us = (Base.integer z, refl)
    takes (Symbol.string k) h i us = (Base.string k, refl)
    takes (Symbol.code k) h i us = absurd (omega arith)
    takes (Symbol.fixed g) h i us = absurd (omega (arith, fixed_below g))

    leaves : (us : List Symbol) → (26 ≤ front_kind us → front_kind us ≤ 27 → ⊥) → a_constant us ≡ fails
    leaves [] h = refl
    leaves (Symbol.name n ∷ us) h = refl
    leaves (Symbol.integer z ∷ us) h = absurd (h (omega arith) (omega arith))
    leaves (Symbol.string k ∷ us) h = absurd (h (omega arith) (omega arith))
    leaves (Symbol.code k ∷ us) h = refl
    leaves (Symbol.fixed g ∷ us) h = refl

in_operator : (g : Fixed) (us : List Symbol) → 16 ≤ fixed_kind g → (a : Operator) × (operator_in g us ≡ parsed a us)
unfolding operator_in fixed_kind
in_operator Fixed.frame us l = absurd (omega arith)
in_operator Fixed.self us l = absurd (omega arith)
in_operator Fixed.show us l = absurd (omega arith)
in_operator Fixed.jump us l = absurd (omega arith)
in_operator Fixed.ifeq us l = absurd (omega arith)
in_operator Fixed.colon us l = absurd (omega arith)
in_operator Fixed.assign us l = absurd (omega arith)
in_operator Fixed.dot us l = absurd (omega arith)
in_operator Fixed.up us l = absurd (omega arith)
in_operator Fixed.bang us l = absurd (omega arith)
in_operator Fixed.semicolon us l = absurd (omega arith)
in_operator Fixed.comma us l = absurd (omega arith)
in_operator Fixed.open_square us l = absurd (omega arith)
in_operator Fixed.close_square us l = absurd (omega arith)
in_operator Fixed.open_curly us l = absurd (omega arith)
in_operator Fixed.close_curly us l = absurd (omega arith)
in_operator (Fixed.operator o) us l = (o, refl)

no_operator : (g : Fixed) (us : List Symbol) → (16 ≤ fixed_kind g → fixed_kind g ≤ 24 → ⊥) → operator_in g us ≡ fails
unfolding operator_in fixed_kind
no_operator Fixed.frame us h = refl
no_operator Fixed.self us h = refl
no_operator Fixed.show us h = refl
no_operator Fixed.jump us h = refl
no_operator Fixed.ifeq us h = refl
no_operator Fixed.colon us h = refl
no_operator Fixed.assign us h = refl
no_operator Fixed.dot us h = refl
no_operator Fixed.up us h = refl
no_operator Fixed.bang us h = refl
no_operator Fixed.semicolon us h = refl
no_operator Fixed.comma us h = refl
no_operator Fixed.open_square us h = refl
no_operator Fixed.close_square us h = refl
no_operator Fixed.open_curly us h = refl
no_operator Fixed.close_curly us h = refl
no_operator (Fixed.operator o) us h = absurd (h (operator_range o).0 (operator_range o).1)

pub by_operator : ByKind an_operator 16 24
unfolding an_operator kind_of front_kind
by_operator = record { takes = takes; leaves = leaves }
  where
    takes : (x : Symbol) → 16 ≤ kind_of x → kind_of x ≤ 24 → (us : List Symbol) → (a : Operator) × (an_operator (x ∷ us) ≡ parsed a us)
    takes (Symbol.name n) h i us = absurd (omega arith)
    takes (Symbol.integer z) h i us = absurd (omega arith)
    takes (Symbol.string k) h i us = absurd (omega arith)
    takes (Symbol.code k) h i us = absurd (omega arith)
    takes (Symbol.fixed g) h i us = in_operator g us h

    leaves : (us : List Symbol) → (16 ≤ front_kind us → front_kind us ≤ 24 → ⊥) → an_operator us ≡ fails
    leaves [] h = refl
    leaves (Symbol.name n ∷ us) h = refl
    leaves (Symbol.integer z ∷ us) h = refl
    leaves (Symbol.string k ∷ us) h = refl
    leaves (Symbol.code k ∷ us) h = refl
    leaves (Symbol.fixed g ∷ us) h = no_operator g us h
