-- Document 01, the table, number 8: the slots of all open brackets, by the numbers of their names. The bracket that was opened as the d-th has level d: the count of its
-- slots at d, and the numbers of their names from 17 d on. Assumes nothing.
use Rattle.std.specs.Prelude.{◌≡◌, Bool, true, false, not, ◌||◌, List, [], ◌∷◌, ◌++◌, ℕ, zero, suc, ◌+◌, ◌*◌, ◌<◌, ◌≤◌, eqb, ltb}
use Rattle.framed.specs.Common.{when◌then◌else◌, member}
use Rattle.source.specs.Positions.{part}
use Rattle.words.specs.Words.{word, set_word}
use Rattle.slots.specs.Own.{names_slot}

-- n numbers from a place on
unfoldable pub level : List ℕ → ℕ → ℕ → List ℕ
level own from zero = []
level own from (suc n) = level own from n ++ (word own (from + n) ∷ [])

pub record Room (from n : ℕ) : Type 0 where
  pub room : from + n ≤ 306

-- counts, numbers, and whether no bracket has a name twice or more than 16 slots
pub record Levels : Type 0 where
  pub counts : List ℕ
  pub own : List ℕ
  pub clean : Bool

abbrev pub levels : List ℕ → List ℕ → Bool → Levels
levels counts own clean = record { counts = counts; own = own; clean = clean }

-- name j can be one more slot of level d
unfoldable pub is_added : List ℕ → List ℕ → ℕ → ℕ → Bool
is_added counts own d j =
    when ltb 17 d then false
    else when ltb 128 j then false
    else when ltb 15 (word counts d) then false
    else not (member j (level own (d * 17) (word counts d)))

unfoldable pub added : List ℕ → List ℕ → ℕ → ℕ → Levels
added counts own d j =
    when is_added counts own d j then levels (set_word counts d (word counts d + 1)) (set_word own (d * 17 + word counts d) j) true
    else levels counts own false

pub record Adds (counts own : List ℕ) (d j : ℕ) (counts' own' : List ℕ) (r : Bool) : Type 0 where
  pub is : levels counts' own' r ≡ added counts own d j

-- where d brackets are open, one more is opened
unfoldable pub opened : List ℕ → List ℕ → ℕ → Levels
opened counts own d =
    when ltb d 17 then levels (set_word counts (d + 1) 0) own true
    else levels counts own false

pub record Opens (counts : List ℕ) (d : ℕ) (counts' : List ℕ) (r : Bool) : Type 0 where
  pub is : (own : List ℕ) → levels counts' own r ≡ opened counts own d

-- a token of kind k, after one of kind l, where d brackets are open; j is the number of the name
unfoldable pub watched : List ℕ → List ℕ → Bool → ℕ → ℕ → ℕ → ℕ → Levels
watched counts own false d l k j = levels counts own false
watched counts own true d l k j =
    when names_slot 0 l k then added counts own d j
    else when eqb k 12 || eqb k 14 then opened counts own d
    else levels counts own true

pub record Watches (counts own : List ℕ) (clean : Bool) (d l k j : ℕ) (counts' own' : List ℕ) (r : Bool) : Type 0 where
  pub is : levels counts' own' r ≡ watched counts own clean d l k j

-- names are only added to those kept, and a number keeps its bytes
pub record Extends (s b e : List ℕ) (n : ℕ) (b' e' : List ℕ) (n' : ℕ) : Type 0 where
  pub more : n ≤ n'
  pub stays : (j : ℕ) → j < n → part s (word b' j) (word e' j) ≡ part s (word b j) (word e j)

-- where a token of kind k from a up to p is a name and j is at most 128, it is name j
pub record Named (s b e : List ℕ) (n k a p j : ℕ) : Type 0 where
  pub inside : k ≡ 25 → j < 129 → j < n
  pub bytes : k ≡ 25 → j < 129 → part s (word b j) (word e j) ≡ part s a p
