-- The first symbol ahead, and its token: integers, strings and codes; kinds of what begins a part. Assumes nothing.
use mathlib.Core.Path.{◌≡◌, refl, ap, ◌∙◌}
use mathlib.Core.List.{List, [], ◌∷◌}
use Prim.Native.Nat.{ℕ, suc, ◌≤◌}
use native.Mathlib.Omega.{arith}
use lib.IntN.{ℤ}
use Rattle.framed.specs.Tokens.{Token, Fixed}
use Rattle.framed.specs.Symbols.{Symbol, numbered}
use Rattle.framed.specs.Tree.{Written, Instruction}
use Rattle.framed.specs.Grammar.{Path⊢, Instruction⊢}
use Rattle.token.specs.Reading.{fixed_kind}
use Rattle.sweep.specs.Kinds.{kind_of, front_kind}
use Rattle.grammar.specs.Runs.{KindAt}
use Rattle.emit_steps.specs.Steps.{go_to}
use Rattle.emit_steps.specs.declared.Next.{Next}
use Rattle.emit_paths.specs.Emits.{Ahead}
use Rattle.emit_paths.proofs.Symbols.{Stepped, cons_rest, pass_fixed}
use Rattle.emit_leaves.specs.Parts.{Skipped}

nil≢cons : {x : Symbol} {us : List Symbol} → ◌≡◌ {A = List Symbol} (x ∷ us) [] → ⊥
nil≢cons e = let z : ◌≡◌ {A = ℕ} 0 1 = cc in omega arith

integer_inj : {z w : ℤ} {us vs : List Symbol} → Symbol.integer z ∷ us ≡ Symbol.integer w ∷ vs → z ≡ w
integer_inj e = cc

string_inj : {j k : ℕ} {us vs : List Symbol} → Symbol.string j ∷ us ≡ Symbol.string k ∷ vs → j ≡ k
string_inj e = cc

code_inj : {j k : ℕ} {us vs : List Symbol} → Symbol.code j ∷ us ≡ Symbol.code k ∷ vs → j ≡ k
code_inj e = cc

pub integer_first : (table : List (List ℕ)) (k c : ℕ) (ts : List Token) (z : ℤ) (us : List Symbol) → Symbol.integer z ∷ us ≡ numbered table k c ts →
    (ts' : List Token) × (ts ≡ Token.integer z ∷ ts') × (us ≡ numbered table k c ts')
unfolding numbered
integer_first table k c [] z us e = absurd (nil≢cons e)
integer_first table k c (Token.name w ∷ ts) z us e = absurd (let z : ◌≡◌ {A = ℕ} 0 1 = cc in omega arith)
integer_first table k c (Token.integer w ∷ ts) z us e = (ts, rw (integer_inj e), cons_rest e)
integer_first table k c (Token.string w ∷ ts) z us e = absurd (let z : ◌≡◌ {A = ℕ} 0 1 = cc in omega arith)
integer_first table k c (Token.code ∷ ts) z us e = absurd (let z : ◌≡◌ {A = ℕ} 0 1 = cc in omega arith)
integer_first table k c (Token.fixed g ∷ ts) z us e = absurd (let z : ◌≡◌ {A = ℕ} 0 1 = cc in omega arith)

pub string_first : (table : List (List ℕ)) (k c : ℕ) (ts : List Token) (j : ℕ) (us : List Symbol) → Symbol.string j ∷ us ≡ numbered table k c ts →
    (w : List ℕ) × (ts' : List Token) × (ts ≡ Token.string w ∷ ts') × (j ≡ k) × (us ≡ numbered table (suc k) c ts')
unfolding numbered
string_first table k c [] j us e = absurd (nil≢cons e)
string_first table k c (Token.name w ∷ ts) j us e = absurd (let z : ◌≡◌ {A = ℕ} 0 1 = cc in omega arith)
string_first table k c (Token.integer w ∷ ts) j us e = absurd (let z : ◌≡◌ {A = ℕ} 0 1 = cc in omega arith)
string_first table k c (Token.string w ∷ ts) j us e = (w, ts, refl, string_inj e, cons_rest e)
string_first table k c (Token.code ∷ ts) j us e = absurd (let z : ◌≡◌ {A = ℕ} 0 1 = cc in omega arith)
string_first table k c (Token.fixed g ∷ ts) j us e = absurd (let z : ◌≡◌ {A = ℕ} 0 1 = cc in omega arith)

pub code_first : (table : List (List ℕ)) (k c : ℕ) (ts : List Token) (j : ℕ) (us : List Symbol) → Symbol.code j ∷ us ≡ numbered table k c ts →
    (ts' : List Token) × (ts ≡ Token.code ∷ ts') × (j ≡ c) × (us ≡ numbered table k (suc c) ts')
unfolding numbered
code_first table k c [] j us e = absurd (nil≢cons e)
code_first table k c (Token.name w ∷ ts) j us e = absurd (let z : ◌≡◌ {A = ℕ} 0 1 = cc in omega arith)
code_first table k c (Token.integer w ∷ ts) j us e = absurd (let z : ◌≡◌ {A = ℕ} 0 1 = cc in omega arith)
code_first table k c (Token.string w ∷ ts) j us e = absurd (let z : ◌≡◌ {A = ℕ} 0 1 = cc in omega arith)
code_first table k c (Token.code ∷ ts) j us e = (ts, refl, code_inj e, cons_rest e)
code_first table k c (Token.fixed g ∷ ts) j us e = absurd (let z : ◌≡◌ {A = ℕ} 0 1 = cc in omega arith)

-- the kind of what is ahead
pub kind_here : (s : List ℕ) (table : List (List ℕ)) (n : Next) (us : List Symbol) (k : ℕ) → KindAt s n.at k → Ahead s table n us → front_kind us ≡ k
kind_here s table n us k h a = ap front_kind a.are ∙ h.is table n.strings n.codes a.tokens a.reads

-- what is ahead of a position with the same strings and codes
pub ahead_same : (s : List ℕ) (table : List (List ℕ)) (n m : Next) (us : List Symbol) → m.at ≡ n.at → m.strings ≡ n.strings → m.codes ≡ n.codes → Ahead s table n us → Ahead s table m us
ahead_same s table n m us ea es ec h = record { tokens = h.tokens; reads = rw ea h.reads; are = rw (es, ec) h.are; few = rw es h.few }

-- one fixed symbol is passed
pub skip_fixed : (s : List ℕ) (table : List (List ℕ)) (n r : Next) (f : Fixed) (us : List Symbol) → Skipped s n (fixed_kind f) r → Ahead s table n (Symbol.fixed f ∷ us) → Stepped s table n r.at us
skip_fixed s table n r f us x h = pass_fixed s table n r.at f us x.pass h

pub skipped_ahead : (s : List ℕ) (table : List (List ℕ)) (n r : Next) (k : ℕ) (us : List Symbol) → Skipped s n k r → Ahead s table (go_to n r.at) us → Ahead s table r us
skipped_ahead s table n r k us x h = rw x.same h

-- ---- Kinds of what begins a part

pub path_kind : (us vs : List Symbol) (w : Written) → Path⊢ us w vs → front_kind us ≤ 8
unfolding front_kind kind_of fixed_kind
path_kind _ vs _ (Path⊢.self d) = omega arith
path_kind _ vs _ (Path⊢.up d g) = omega arith

pub instruction_kind : (us vs : List Symbol) (o : Instruction Written) → Instruction⊢ us o vs → front_kind us ≤ 8
unfolding front_kind kind_of fixed_kind
instruction_kind us vs _ (Instruction⊢.assign d g) = path_kind us _ _ d
instruction_kind _ vs _ (Instruction⊢.show d) = omega arith
instruction_kind _ vs _ (Instruction⊢.jump d g) = omega arith
instruction_kind _ vs _ (Instruction⊢.ifeq d g h) = omega arith
