-- Document 01, the table, number 8: the slots of a frame, found among the tokens from its `[` on. A name directly in the frame, not after a
-- dot, is a slot's; brackets inside it are counted. For tokens and for symbols alike, by their kinds. Assumes nothing.
use Rattle.std.specs.Prelude.{◌≡◌, Bool, true, false, not, ◌&&◌, ◌||◌, List, [], ◌∷◌, ◌++◌, ℕ, ◌+◌, eqb, ltb, length}
use Rattle.std.proofs.Math.Option.{some}
use Rattle.framed.specs.Common.{when◌then◌else◌, any, same}
use Rattle.framed.specs.Bytes.{class}
use Rattle.framed.specs.Tokens.{Token, tokens}
use Rattle.framed.specs.Symbols.{Symbol}
use Rattle.framed.specs.Tree.{Written, Slots}
use Rattle.framed.specs.Meaning.{bad_frame, pieces}
use Rattle.source.specs.Positions.{rest}
use Rattle.words.specs.Words.{set_word}
use Rattle.token.specs.Reading.{token_kind}
use Rattle.scan.specs.Scan.{depth_after}

-- where d brackets are open in the frame, a token of kind k closes it
unfoldable pub closes : ℕ → ℕ → Bool
closes d k = when eqb k 13 then eqb d 0 else when eqb k 15 then eqb d 0 else false

-- there a token of kind k, after one of kind l, is the name of a slot
unfoldable pub names_slot : ℕ → ℕ → ℕ → Bool
names_slot d l k = when eqb k 25 then (when eqb l 7 then false else eqb d 0) else false

-- a token of kind k is neither a bracket nor a name
unfoldable pub plain : ℕ → Bool
plain k = when ltb k 12 then true else when ltb k 16 then false else not (eqb k 25)

-- a slot: its name, and what follows it
pub data Own (T : Type 0) : Type 0 where
  own : T → List T → Own T

unfoldable pub own_slots : {T : Type 0} → (T → ℕ) → ℕ → ℕ → List T → List (Own T)
own_slots kind d l [] = []
own_slots kind d l (x ∷ xs) =
    when closes d (kind x) then []
    else when names_slot d l (kind x) then own x xs ∷ own_slots kind (depth_after d (kind x)) (kind x) xs
    else own_slots kind (depth_after d (kind x)) (kind x) xs

unfoldable pub own_names : {T N : Type 0} → (T → N) → List (Own T) → List N
own_names name [] = []
own_names name (own x xs ∷ os) = name x ∷ own_names name os

-- after the names `before`, one of these is a name again or the 17th
unfoldable pub repeats : {N : Type 0} → (N → N → Bool) → List N → List N → Bool
repeats eq before [] = false
repeats eq before (n ∷ ns) = any (eq n) before || (ltb 15 (length before) || repeats eq (before ++ (n ∷ [])) ns)

-- the bytes of a name, the number of a name
unfoldable pub bytes_of : Token → List ℕ
bytes_of (Token.name w) = w
bytes_of (Token.integer z) = []
bytes_of (Token.string w) = []
bytes_of Token.code = []
bytes_of (Token.fixed f) = []

unfoldable pub number_of : Symbol → ℕ
number_of (Symbol.name n) = n
number_of (Symbol.integer z) = 0
number_of (Symbol.string k) = 0
number_of (Symbol.code k) = 0
number_of (Symbol.fixed f) = 0

-- the slots whose tokens begin here, in a frame with d brackets open, after the names `before`
unfoldable pub bad_slots : List (List ℕ) → ℕ → ℕ → List Token → Bool
bad_slots before d l ts = repeats same before (own_names bytes_of (own_slots token_kind d l ts))

-- some `[` opens a bad frame
unfoldable pub bad_frames : List Token → Bool
bad_frames [] = false
bad_frames (t ∷ ts) = (eqb (token_kind t) 12 && bad_slots [] 0 0 ts) || bad_frames ts

-- a slot's name is kept as the next one
pub record Added (begins ends : List ℕ) (n : ℕ) (slot : Bool) (a p : ℕ) (begins' ends' : List ℕ) (r : ℕ) : Type 0 where
  pub begins_is : begins' ≡ (when slot then set_word begins n a else begins)
  pub ends_is : ends' ≡ (when slot then set_word ends n p else ends)
  pub count_is : r ≡ (when slot then n + 1 else n)

-- where there are tokens from there on, the answer is about the frame that begins with them
pub record BadSlots (s : List ℕ) (from : ℕ) (r : Bool) : Type 0 where
  pub is : (ts : List Token) → tokens class (rest s from) ≡ some ts → r ≡ bad_slots [] 0 0 ts

pub record OpensBad (s : List ℕ) (k end : ℕ) (r : Bool) : Type 0 where
  pub is : (ts : List Token) → tokens class (rest s end) ≡ some ts → r ≡ (eqb k 12 && bad_slots [] 0 0 ts)

-- number 8
unfoldable pub bad_tree : List Token → Slots Written → Bool
bad_tree ts ss = any bad_frame (pieces ss)
