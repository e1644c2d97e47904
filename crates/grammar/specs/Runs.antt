-- Document 01, "Tokens and grammar" and number 6: a function over a source and a position runs a reader of `framed` over symbols: it refuses where the reader fails, and where the
-- reader finds something, it gives the position where the symbols after it begin. Assumes nothing.
use Rattle.std.specs.Prelude.{◌≡◌, Option, None, Some, List, ◌∷◌, Bool, not, ℕ, ◌+◌, ◌*◌, ◌-◌, ◌<◌, ◌≤◌, ℤ, length}
use Rattle.std.proofs.Math.Option.{some}
use Rattle.framed.specs.Bytes.{class}
use Rattle.framed.specs.Tokens.{Token, Tokens⊢, tokens}
use Rattle.framed.specs.Symbols.{Symbol, numbered, symbols}
use Rattle.framed.specs.Parse.{Parsed, fails, parsed, Reader, parse}
use Rattle.framed.specs.Meaning.{is_none}
use Rattle.source.specs.Positions.{rest, part}
use Rattle.token.specs.Reading.{signed, TokenAt}
use Rattle.token.specs.declared.TokenRead.{TokenRead}
use Rattle.sweep.specs.Kinds.{kind_of, front_kind}
use Rattle.grammar.specs.declared.Seen.{Seen}

-- what a reader finds: `fails`, or a value that is as Q says with the symbols of the source from p on. Names are numbered by the table;
-- the numbers of strings and codes go on from any k and c
pub data Outcome {A : Type 0} (Q : A → Type 0) (s : List ℕ) (table : List (List ℕ)) (x : Parsed A) : Option ℕ → Type 0 where
  refused : x ≡ fails → Outcome Q s table x None
  done : {p : ℕ} (k c : ℕ) {ts : List Token} {a : A} → Q a → Tokens⊢ class (rest s p) ts → x ≡ parsed a (numbered table k c ts) → Outcome Q s table x (Some p)

pub record Runs {A : Type 0} (Q : A → Type 0) (s : List ℕ) (R : Reader A) (at : ℕ) (r : Option ℕ) : Type 0 where
  pub runs : (table : List (List ℕ)) (k c : ℕ) (ts : List Token) → Tokens⊢ class (rest s at) ts → Outcome Q s table (R (numbered table k c ts)) r

-- any value
pub data Any {A : Type 0} (a : A) : Type 0 where
  any : Any a

-- where it is done, the position did not go back
pub data Onward (at : ℕ) : Option ℕ → Type 0 where
  stops : Onward at None
  goes : {p : ℕ} → at ≤ p → Onward at (Some p)

-- where it is done, at least one byte was read
pub data Moved (at len : ℕ) : Option ℕ → Type 0 where
  stops : Moved at len None
  moves : {p : ℕ} → at < p → p ≤ len → Moved at len (Some p)

-- a member of the cycle: with any bound above the measure the reader runs so
pub record Meets {A : Type 0} (P : ℕ → Reader A) (rank : ℕ) (s : List ℕ) (at : ℕ) (r : Option ℕ) : Type 0 where
  pub says : (n : ℕ) → 8 * (length s - at) + rank < n → Runs Any s (P n) at r
  pub on : Onward at r

-- the same for readers that take a value that was read before
pub record MeetsAll {A B : Type 0} (P : B → ℕ → Reader A) (rank : ℕ) (s : List ℕ) (at : ℕ) (r : Option ℕ) : Type 0 where
  pub says : (b : B) (n : ℕ) → 8 * (length s - at) + rank < n → Runs Any s (P b n) at r
  pub on : Onward at r

-- a function outside the cycle
pub record Reads {A : Type 0} (R : Reader A) (s : List ℕ) (at : ℕ) (r : Option ℕ) : Type 0 where
  pub says : Runs Any s R at r
  pub on : Onward at r

pub record KindAt (s : List ℕ) (at kind : ℕ) : Type 0 where
  pub is : (table : List (List ℕ)) (k c : ℕ) (ts : List Token) → Tokens⊢ class (rest s at) ts → front_kind (numbered table k c ts) ≡ kind

-- one symbol whose kind is lo to hi
pub data Front (s : List ℕ) (table : List (List ℕ)) (lo hi : ℕ) (us : List Symbol) : Option ℕ → Type 0 where
  one : {x : Symbol} {p : ℕ} (k c : ℕ) {ts : List Token} → lo ≤ kind_of x → kind_of x ≤ hi → Tokens⊢ class (rest s p) ts → us ≡ x ∷ numbered table k c ts →
      Front s table lo hi us (Some p)
  too_low : front_kind us < lo → Front s table lo hi us None
  too_high : hi < front_kind us → Front s table lo hi us None

pub record Expects (s : List ℕ) (lo hi at : ℕ) (r : Option ℕ) : Type 0 where
  pub front : (table : List (List ℕ)) (k c : ℕ) (ts : List Token) → Tokens⊢ class (rest s at) ts → Front s table lo hi (numbered table k c ts) r
  pub on : Moved at (length s) r

pub record KindsOk (lo hi : ℕ) : Type 0 where
  pub known : hi < 29

-- the token that stands at `at`: its kind, the word of an integer, where a name begins, and where it ends
pub record Sees (s : List ℕ) (at : ℕ) (t : Seen) : Type 0 where
  pub kind_is : KindAt s at t.kind
  pub word_is : (z : ℤ) (ts : List Token) → Tokens⊢ class (rest s at) (Token.integer z ∷ ts) → signed t.word ≡ z
  pub word_small : t.word < 4294967296
  pub name_is : (w : List ℕ) (ts : List Token) → Tokens⊢ class (rest s at) (Token.name w ∷ ts) → part s t.begin t.end ≡ w
  pub on : at ≤ t.end
  pub inside : at < t.end → at < length s
  pub further : (u : Token) (ts : List Token) → Tokens⊢ class (rest s at) (u ∷ ts) → at < t.end
  pub reads : (u : Token) (ts : List Token) → Tokens⊢ class (rest s at) (u ∷ ts) → Tokens⊢ class (rest s t.end) ts
  pub end_is : (lo hi : ℕ) → lo ≤ t.kind → t.kind ≤ hi → hi < 29 → Expects s lo hi at (Some t.end)
  pub stands : t.kind < 29 → TokenAt class s at (TokenRead.Token t.kind t.begin t.end t.word)

-- a function outside the cycle that reads at least one token
pub record ReadsOn {A : Type 0} (R : Reader A) (s : List ℕ) (at : ℕ) (r : Option ℕ) : Type 0 where
  pub says : Runs Any s R at r
  pub on : Moved at (length s) r

-- one that always finds something
pub record Passes {A : Type 0} (R : Reader A) (s : List ℕ) (at p : ℕ) : Type 0 where
  pub says : Runs Any s R at (Some p)
  pub on : at ≤ p

-- where the source is tokens, the answer says whether they are one frame (number 6 where it is false)
pub record OneFrame (s : List ℕ) (r : Bool) : Type 0 where
  pub is : (ts : List Token) → tokens class s ≡ some ts → r ≡ not (is_none (parse (symbols ts)))
