-- docs/LAYOUT.md, program words: the numbers that emission takes while it reads the source, and document 01, "Limits and paths": the place of a part, as the
-- functions that emit keep them. Assumes nothing.
use Rattle.std.specs.Prelude.{◌≡◌, true, false, List, [], ◌∷◌, ℕ, ◌+◌, ◌<◌, ◌≤◌, ltb, min, take, set}
use Rattle.framed.specs.Common.{when◌then◌else◌}
use Rattle.framed.specs.Bytes.{class}
use Rattle.framed.specs.Tokens.{Token, Tokens⊢}
use Rattle.framed.specs.Paths as Paths
use Rattle.source.specs.Positions.{rest}
use Rattle.token.specs.Reading.{token_kind}
use Rattle.shapes.specs.Numbers.{Numbers}
use Rattle.emit_steps.specs.declared.Next.{Next}
use Rattle.emit_steps.specs.declared.Place.{Place}

-- one more, as far as a word goes
unfoldable pub one_more : ℕ → ℕ
one_more n = min (n + 1) 4294967295

-- the numbers without the position and without strings, which the tree's numbers do not count
abbrev pub numbers : Next → Numbers
numbers n = record { expressions = n.expressions; instructions = n.instructions; path_names = n.paths; codes = n.codes }

abbrev pub go_to : Next → ℕ → Next
go_to n at = record { at = at; expressions = n.expressions; instructions = n.instructions; paths = n.paths; strings = n.strings; codes = n.codes }

abbrev pub take_expression : Next → ℕ → Next
take_expression n at =
    record { at = at; expressions = one_more n.expressions; instructions = n.instructions; paths = n.paths; strings = n.strings; codes = n.codes }

abbrev pub take_instruction : Next → Next
take_instruction n =
    record { at = n.at; expressions = n.expressions; instructions = one_more n.instructions; paths = n.paths; strings = n.strings; codes = n.codes }

abbrev pub take_string : Next → ℕ → Next
take_string n at =
    record { at = at; expressions = n.expressions; instructions = n.instructions; paths = n.paths; strings = one_more n.strings; codes = n.codes }

abbrev pub take_code : Next → ℕ → Next
take_code n at =
    record { at = at; expressions = n.expressions; instructions = n.instructions; paths = n.paths; strings = n.strings; codes = one_more n.codes }

-- the place that is meant
unfoldable pub place_of : Place → Paths.Place
place_of q = when q.in_code then Paths.in_code (take q.depth q.names) else Paths.outside_code (take q.depth q.names)

unfoldable pub inner_slot : Place → ℕ → Place
inner_slot q n =
    when q.in_code then q
    else when ltb q.depth 16 then record { in_code = false; depth = q.depth + 1; names = set q.names q.depth n }
    else q

abbrev pub inner_code : Place → Place
inner_code q = record { in_code = true; depth = q.depth; names = q.names }

-- the kind of the first token, 29 where there is none
unfoldable pub first_kind : List Token → ℕ
first_kind [] = 29
first_kind (t ∷ ts) = token_kind t

-- the tokens ts are those from r on, which is further than `at`
pub record Past (s : List ℕ) (at : ℕ) (ts : List Token) (r : ℕ) : Type 0 where
  pub further : at < r
  pub reads : Tokens⊢ class (rest s r) ts

-- The answer is the position after a token of kind k, or the same position where another token stands: of a source whose tokens can be read, as emission has
-- it, and of any other that the answer is not before `at`.
pub record Pass (s : List ℕ) (at k r : ℕ) : Type 0 where
  pub taken : (t : Token) (ts : List Token) → Tokens⊢ class (rest s at) (t ∷ ts) → token_kind t ≡ k → Past s at ts r
  pub left : (ts : List Token) → Tokens⊢ class (rest s at) ts → (first_kind ts ≡ k → ⊥) → r ≡ at
  pub on : at ≤ r

pub record PassTwo (s : List ℕ) (at j k r : ℕ) : Type 0 where
  pub taken : (t u : Token) (ts : List Token) → Tokens⊢ class (rest s at) (t ∷ u ∷ ts) → token_kind t ≡ j → token_kind u ≡ k → Past s at ts r
  pub left : (ts : List Token) → Tokens⊢ class (rest s at) ts → (first_kind ts ≡ j → ⊥) → r ≡ at
  pub half : (t : Token) (ts : List Token) → Tokens⊢ class (rest s at) (t ∷ ts) → token_kind t ≡ j → (first_kind ts ≡ k → ⊥) → r ≡ at
  pub on : at ≤ r

-- `frame` `:` `[`
pub record PassFrame (s : List ℕ) (at r : ℕ) : Type 0 where
  pub taken : (t u v : Token) (ts : List Token) → Tokens⊢ class (rest s at) (t ∷ u ∷ v ∷ ts) → token_kind t ≡ 0 → token_kind u ≡ 5 → token_kind v ≡ 12 → Past s at ts r
  pub left : (ts : List Token) → Tokens⊢ class (rest s at) ts → (first_kind ts ≡ 0 → ⊥) → r ≡ at
  pub one : (t : Token) (ts : List Token) → Tokens⊢ class (rest s at) (t ∷ ts) → token_kind t ≡ 0 → (first_kind ts ≡ 5 → ⊥) → r ≡ at
  pub two : (t u : Token) (ts : List Token) → Tokens⊢ class (rest s at) (t ∷ u ∷ ts) → token_kind t ≡ 0 → token_kind u ≡ 5 → (first_kind ts ≡ 12 → ⊥) → r ≡ at
  pub on : at ≤ r
