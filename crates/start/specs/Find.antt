-- Document 01, the table, number 11: the code in slot start of the frame in slot Main, found among the tokens. Each step gives the tokens after
-- what it looks for, or nothing. Assumes nothing.
use Rattle.std.specs.Prelude.{◌≡◌, Bool, false, not, List, [], ◌∷◌, ℕ, eqb}
use Rattle.std.proofs.Math.Option.{Option, none, some}
use Rattle.framed.specs.Common.{when◌then◌else◌, bytes, any, same}
use Rattle.framed.specs.Bytes.{class}
use Rattle.framed.specs.Tokens.{Token, tokens}
use Rattle.framed.specs.Symbols.{symbols, name_table}
use Rattle.framed.specs.Tree.{Written, Slots}
use Rattle.framed.specs.Parse.{parse}
use Rattle.framed.specs.Meaning.{is_none, main_start, misplaced, pieces}
use Rattle.source.specs.Positions.{rest}
use Rattle.token.specs.Reading.{token_kind}
use Rattle.std.specs.Prelude.{Option as Perhaps, None, Some}
use Rattle.slots.specs.Own.{Own, own, own_slots, bytes_of}

unfoldable pub and_then : Option (List Token) → (List Token → Option (List Token)) → Option (List Token)
and_then none f = none
and_then (some ts) f = f ts

-- after one token of kind k
unfoldable pub after_kind : ℕ → List Token → Option (List Token)
after_kind k [] = none
after_kind k (t ∷ ts) = when eqb (token_kind t) k then some ts else none

-- after the first slot's name that is this one
unfoldable pub first_slot : List ℕ → List (Own Token) → Option (List Token)
first_slot w [] = none
first_slot w (own t ts ∷ os) = when same w (bytes_of t) then some ts else first_slot w os

unfoldable pub find : List ℕ → ℕ → ℕ → List Token → Option (List Token)
find w d l ts = first_slot w (own_slots token_kind d l ts)

-- after its `:=`
unfoldable pub value : List ℕ → List Token → Option (List Token)
value w ts = and_then (find w 0 0 ts) (after_kind 6)

-- after `frame` `:` `[`
unfoldable pub opening : List Token → Option (List Token)
opening ts = and_then (and_then (after_kind 0 ts) (after_kind 5)) (after_kind 12)

unfoldable pub start_value : List Token → Option (List Token)
start_value ts = and_then (and_then (and_then (opening ts) (value (bytes "Main"))) opening) (value (bytes "start"))

-- the position where given tokens begin, where there are any
pub data Begins (s : List ℕ) : Option (List Token) → Perhaps ℕ → Type 0 where
  nowhere : Begins s none None
  here : {p : ℕ} {ts : List Token} → tokens class (rest s p) ≡ some ts → Begins s (some ts) (Some p)

-- where there are tokens from a position on, the answer is where f leads from there
pub record Leads (f : List Token → Option (List Token)) (s : List ℕ) (at : ℕ) (r : Perhaps ℕ) : Type 0 where
  pub is : (ts : List Token) → tokens class (rest s at) ≡ some ts → Begins s (f ts) r

-- where the source is one frame, with no path or operator outside code (number 7), the answer says whether Main.start is there (number 11 where it is false)
pub record HasStart (s : List ℕ) (r : Bool) : Type 0 where
  pub is : (ts : List Token) (ss : Slots Written) → tokens class s ≡ some ts → parse (symbols ts) ≡ some ss → any misplaced (pieces ss) ≡ false
      → r ≡ not (is_none (main_start (name_table ts) ss))
