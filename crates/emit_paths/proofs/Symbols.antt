-- The first symbol ahead, its token, and a step over it. Assumes nothing.
use mathlib.Core.Path.{◌≡◌, refl, sym, ap, ◌∙◌}
use mathlib.Core.Bool.{Bool, true, false}
use mathlib.Core.List.{List, [], ◌∷◌}
use lib.Dec.{eqb}
use borrow.Author.Tests.{eqb-true, eqb-false}
use Prim.Native.Nat.{ℕ, suc, ◌+◌, ◌<◌, ◌≤◌}
use native.Mathlib.Omega.{arith}
use lib.ListN.{length}
use Rattle.framed.specs.Bytes.{class}
use Rattle.framed.specs.Tokens.{Token, Fixed, Tokens⊢, next, read, skip, end}
use Rattle.framed.proofs.TokensExact.{end≢token}
use Rattle.source.proofs.Positions.{rest_end}
use Rattle.emit_steps.proofs.Laws.{first_token}
use Rattle.framed.specs.Symbols.{Symbol, numbered, number_in}
use Rattle.source.specs.Positions.{rest, part}
use Rattle.token.specs.Reading.{fixed_kind, token_kind}
use Rattle.sweep.specs.Kinds.{kind_of, front_kind}
use Rattle.grammar.specs.Runs.{Sees}
use Rattle.std.specs.Prelude.{Some}
use Rattle.grammar.specs.declared.Seen.{Seen}
use Rattle.grammar.proofs.Paths.{moved}
use Rattle.names.specs.Kept.{table_of}
use Rattle.emit_names.specs.Table.{NumberAt}
use Rattle.emit_steps.specs.Steps.{first_kind, Pass, PassTwo, go_to}
use Rattle.emit_steps.specs.declared.Next.{Next}
use Rattle.emit_paths.specs.Emits.{Ahead, NoUp}

nil≢cons : {x : Symbol} {us : List Symbol} → ◌≡◌ {A = List Symbol} (x ∷ us) [] → ⊥
nil≢cons e = let z : ◌≡◌ {A = ℕ} 0 1 = cc in omega arith

cons_first : {x y : Symbol} {us vs : List Symbol} → x ∷ us ≡ y ∷ vs → x ≡ y
cons_first e = cc

pub cons_rest : {x y : Symbol} {us vs : List Symbol} → x ∷ us ≡ y ∷ vs → us ≡ vs
cons_rest e = cc

fixed_inj : {f g : Fixed} → Symbol.fixed f ≡ Symbol.fixed g → f ≡ g
fixed_inj e = cc

name_inj : {m n : ℕ} → Symbol.name m ≡ Symbol.name n → m ≡ n
name_inj e = cc

-- the token of a first symbol that is fixed, or a name
pub fixed_first : (table : List (List ℕ)) (k c : ℕ) (ts : List Token) (f : Fixed) (us : List Symbol) → Symbol.fixed f ∷ us ≡ numbered table k c ts →
    (ts' : List Token) × (ts ≡ Token.fixed f ∷ ts') × (us ≡ numbered table k c ts')
unfolding numbered
fixed_first table k c [] f us e = absurd (nil≢cons e)
fixed_first table k c (Token.name w ∷ ts) f us e = absurd (let z : ◌≡◌ {A = ℕ} 0 1 = cc in omega arith)
fixed_first table k c (Token.integer z ∷ ts) f us e = absurd (let z : ◌≡◌ {A = ℕ} 0 1 = cc in omega arith)
fixed_first table k c (Token.string w ∷ ts) f us e = absurd (let z : ◌≡◌ {A = ℕ} 0 1 = cc in omega arith)
fixed_first table k c (Token.code ∷ ts) f us e = absurd (let z : ◌≡◌ {A = ℕ} 0 1 = cc in omega arith)
fixed_first table k c (Token.fixed g ∷ ts) f us e = (ts, rw (fixed_inj (cons_first e)), cons_rest e)

pub name_first : (table : List (List ℕ)) (k c : ℕ) (ts : List Token) (n : ℕ) (us : List Symbol) → Symbol.name n ∷ us ≡ numbered table k c ts →
    (w : List ℕ) × (ts' : List Token) × (ts ≡ Token.name w ∷ ts') × (n ≡ number_in table w) × (us ≡ numbered table k c ts')
unfolding numbered
name_first table k c [] n us e = absurd (nil≢cons e)
name_first table k c (Token.name w ∷ ts) n us e = (w, ts, refl, name_inj (cons_first e), cons_rest e)
name_first table k c (Token.integer z ∷ ts) n us e = absurd (let z : ◌≡◌ {A = ℕ} 0 1 = cc in omega arith)
name_first table k c (Token.string w ∷ ts) n us e = absurd (let z : ◌≡◌ {A = ℕ} 0 1 = cc in omega arith)
name_first table k c (Token.code ∷ ts) n us e = absurd (let z : ◌≡◌ {A = ℕ} 0 1 = cc in omega arith)
name_first table k c (Token.fixed g ∷ ts) n us e = absurd (let z : ◌≡◌ {A = ℕ} 0 1 = cc in omega arith)

kinds_same : (table : List (List ℕ)) (k c : ℕ) (ts : List Token) → front_kind (numbered table k c ts) ≡ first_kind ts
unfolding numbered front_kind first_kind kind_of token_kind
kinds_same table k c [] = refl
kinds_same table k c (Token.name w ∷ ts) = refl
kinds_same table k c (Token.integer z ∷ ts) = refl
kinds_same table k c (Token.string w ∷ ts) = refl
kinds_same table k c (Token.code ∷ ts) = refl
kinds_same table k c (Token.fixed g ∷ ts) = refl

-- the kind of what is ahead is that of the first token
pub kind_ahead : (s : List ℕ) (table : List (List ℕ)) (n : Next) (us : List Symbol) (h : Ahead s table n us) → front_kind us ≡ first_kind h.tokens
kind_ahead s table n us h = ap front_kind h.are ∙ kinds_same table n.strings n.codes h.tokens

-- no step over another kind
pub pass_left : (s : List ℕ) (table : List (List ℕ)) (n : Next) (us : List Symbol) (k q : ℕ) → Pass s n.at k q → Ahead s table n us → (front_kind us ≡ k → ⊥) → q ≡ n.at
pass_left s table n us k q x h f = x.left h.tokens h.reads (λ e. f (kind_ahead s table n us h ∙ e))

-- a step over one symbol
pub record Stepped (s : List ℕ) (table : List (List ℕ)) (n : Next) (q : ℕ) (us : List Symbol) : Type 0 where
  pub further : n.at < q
  pub ahead : Ahead s table (go_to n q) us

module _ (s : List ℕ) (table : List (List ℕ)) (n : Next) (q : ℕ) where
  step_on : (k : ℕ) → Pass s n.at k q → (us : List Symbol) (t : Token) (ts ts' : List Token) → ts ≡ t ∷ ts' → Tokens⊢ class (rest s n.at) ts → n.strings + length ts < 4294967295 →
      token_kind t ≡ k → us ≡ numbered table n.strings n.codes ts' → Stepped s table n q us
  step_on k x us t ts ts' et d l e f =
      let z = x.taken t ts' (rw et at d) e in
      record { further = z.further; ahead = record { tokens = ts'; reads = z.reads; are = f; few = less (rw et at l) } }
    where
      less : n.strings + suc (length ts') < 4294967295 → n.strings + length ts' < 4294967295
      less l = omega arith

  pub pass_fixed : (f : Fixed) (us : List Symbol) → Pass s n.at (fixed_kind f) q → Ahead s table n (Symbol.fixed f ∷ us) → Stepped s table n q us
  unfolding token_kind
  pass_fixed f us x h =
      let y = fixed_first table n.strings n.codes h.tokens f us h.are in
      step_on (fixed_kind f) x us (Token.fixed f) h.tokens y.0 y.1 h.reads h.few refl y.2

-- a step over the token that was seen
module _ (s : List ℕ) (table : List (List ℕ)) (n : Next) (t : Seen) (x : Sees s n.at t) where
  over : (us : List Symbol) (u : Token) (ts ts' : List Token) → ts ≡ u ∷ ts' → Tokens⊢ class (rest s n.at) ts → n.strings + length ts < 4294967295 →
      us ≡ numbered table n.strings n.codes ts' → Stepped s table n t.end us
  over us u ts ts' et d l f =
      let d' = rw et at d in
      record { further = x.further u ts' d'; ahead = record { tokens = ts'; reads = x.reads u ts' d'; are = f; few = less (rw et at l) } }
    where
      less : n.strings + suc (length ts') < 4294967295 → n.strings + length ts' < 4294967295
      less l = omega arith

  pub seen_fixed : (f : Fixed) (us : List Symbol) → Ahead s table n (Symbol.fixed f ∷ us) → Stepped s table n t.end us
  seen_fixed f us h =
      let y = fixed_first table n.strings n.codes h.tokens f us h.are in
      over us (Token.fixed f) h.tokens y.0 y.1 h.reads h.few y.2

  pub seen_name : (m : ℕ) (us : List Symbol) → Ahead s table n (Symbol.name m ∷ us) → Stepped s table n t.end us
  seen_name m us h =
      let y = name_first table n.strings n.codes h.tokens m us h.are in
      over us (Token.name y.0) h.tokens y.1 y.2 h.reads h.few y.4

  -- the kind of what is ahead
  pub seen_kind : (us : List Symbol) → Ahead s table n us → front_kind us ≡ t.kind
  seen_kind us h = ap front_kind h.are ∙ x.kind_is.is table n.strings n.codes h.tokens h.reads

-- the number of the name that was seen
pub seen_number : (s b e : List ℕ) (count at : ℕ) (t : Seen) → Sees s at t → (r : ℕ) → r ≡ number_in (table_of s b e count) (part s t.begin t.end) → NumberAt s b e count at r
seen_number s b e count at t x r er = record { is = λ w ts d. er ∙ ap (number_in (table_of s b e count)) (x.name_is w ts d) }

-- it and the token after it
pub seen_two : (s : List ℕ) (at : ℕ) (t : Seen) → Sees s at t → (j : ℕ) → t.kind ≡ j → (k q : ℕ) → Pass s t.end k q → t.end < q → PassTwo s at j k q
seen_two s at t x j e k q y l = record {
  taken = λ u v ts d a b. let z = y.taken v ts (x.reads u (v ∷ ts) d) b in record { further = omega (arith, x.on, l); reads = z.reads };
  left = λ ts d f. absurd (f (sym (kinds_same [] 0 0 ts) ∙ x.kind_is.is [] 0 0 ts d ∙ e));
  half = λ u ts d a f. absurd (stays (y.left ts (x.reads u ts d) f));
  on = omega (arith, x.on, l);
}
  where
    stays : q ≡ t.end → ⊥
    stays a = omega arith

-- a token of some kind moves the position on
pub seen_moves : (s : List ℕ) (at : ℕ) (t : Seen) → Sees s at t → t.kind < 29 → at < t.end
seen_moves s at t x l = (moved (Some t.end) (x.end_is t.kind t.kind (omega arith) (omega arith) l).on refl).0

-- the number of the name ahead
pub number_ahead : (s b e : List ℕ) (count : ℕ) (n : Next) (m r : ℕ) (us : List Symbol) → NumberAt s b e count n.at r → Ahead s (table_of s b e count) n (Symbol.name m ∷ us) → r ≡ m
number_ahead s b e count n m r us x h =
    let y = name_first (table_of s b e count) n.strings n.codes h.tokens m us h.are in
    x.is y.0 y.1 (rw y.2 at h.reads) ∙ sym y.3

-- past the end nothing is ahead
pub past_end : (s : List ℕ) (at : ℕ) → length s ≤ at → (t : Token) (ts : List Token) → Tokens⊢ class (rest s at) (t ∷ ts) → ⊥
unfolding next read skip
past_end s at l t ts d = end≢token (sym (ends (rest s at) (rest_end s at l)) ∙ (first_token d).1)
  where
    ends : (bs : List ℕ) → bs ≡ [] → next class bs ≡ end
    ends bs e = rw e

pub nothing_ahead : (s : List ℕ) (table : List (List ℕ)) (n : Next) (f : Fixed) (us : List Symbol) → length s ≤ n.at → Ahead s table n (Symbol.fixed f ∷ us) → ⊥
nothing_ahead s table n f us l h =
    let y = fixed_first table n.strings n.codes h.tokens f us h.are in
    past_end s n.at l (Token.fixed f) y.0 (rw y.1 at h.reads)

-- ---- Two symbols

pub pass_both : (s : List ℕ) (table : List (List ℕ)) (n : Next) (q : ℕ) (f g : Fixed) (us : List Symbol) → PassTwo s n.at (fixed_kind f) (fixed_kind g) q →
    Ahead s table n (Symbol.fixed f ∷ Symbol.fixed g ∷ us) → Stepped s table n q us
unfolding token_kind
pass_both s table n q f g us x h =
    let y = fixed_first table n.strings n.codes h.tokens f (Symbol.fixed g ∷ us) h.are in
    let z = fixed_first table n.strings n.codes y.0 g us y.2 in
    let w = x.taken (Token.fixed f) (Token.fixed g) z.0 (rw (y.1, z.1) at h.reads) refl refl in
    record { further = w.further; ahead = record { tokens = z.0; reads = w.reads; are = z.2; few = less z.0 (rw (y.1, z.1) at h.few) } }
  where
    less : (ts : List Token) → n.strings + suc (suc (length ts)) < 4294967295 → n.strings + length ts < 4294967295
    less ts l = omega arith

numbered_cons : (table : List (List ℕ)) (k c : ℕ) (t : Token) (ts : List Token) →
    (y : Symbol) × (k' : ℕ) × (c' : ℕ) × (numbered table k c (t ∷ ts) ≡ y ∷ numbered table k' c' ts) × (kind_of y ≡ token_kind t)
unfolding numbered kind_of token_kind
numbered_cons table k c (Token.name w) ts = (_, k, c, refl, refl)
numbered_cons table k c (Token.integer z) ts = (_, k, c, refl, refl)
numbered_cons table k c (Token.string w) ts = (_, suc k, c, refl, refl)
numbered_cons table k c Token.code ts = (_, k, suc c, refl, refl)
numbered_cons table k c (Token.fixed g) ts = (_, k, c, refl, refl)

pub pass_no_up : (s : List ℕ) (table : List (List ℕ)) (n : Next) (q : ℕ) (vs : List Symbol) → PassTwo s n.at 7 8 q → Ahead s table n vs → NoUp vs → q ≡ n.at
unfolding first_kind
pass_no_up s table n q vs x h u = go h.tokens h.reads h.are
  where
    none : ◌≡◌ {A = ℕ} 29 7 → ⊥
    none e = omega arith

    one : (t : Token) (ts : List Token) → Tokens⊢ class (rest s n.at) (t ∷ ts) → vs ≡ numbered table n.strings n.codes (t ∷ ts) → (b : Bool) → eqb (token_kind t) 7 ≡ b → q ≡ n.at
    one t ts d e true f =
        let y = numbered_cons table n.strings n.codes t ts in
        x.half t ts d (eqb-true (token_kind t) 7 f)
        (λ g. u.no_up y.0 (numbered table y.1 y.2 ts) (e ∙ y.3) (y.4 ∙ eqb-true (token_kind t) 7 f) (kinds_same table y.1 y.2 ts ∙ g))
    one t ts d e false f = x.left (t ∷ ts) d (eqb-false (token_kind t) 7 f)

    go : (ts : List Token) → Tokens⊢ class (rest s n.at) ts → vs ≡ numbered table n.strings n.codes ts → q ≡ n.at
    go [] d e = x.left [] d none
    go (t ∷ ts) d e = one t ts d e (eqb (token_kind t) 7) refl
