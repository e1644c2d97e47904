-- Document 01, "Limits and paths" and numbers 7, 9, 10 and 12: the counts as sums over the kinds of the tokens. What is summed is a number:
--     0 expressions, 1 instructions, 2 string literals, 3 code literals
--     4 frames outside code
--     5 `!`, operators, `self` and `^` outside code
--     6 names in paths, and at each first `^` the levels from the program frame down to the frame that holds the code
--     7 further `^` that name a frame, 8 further `^` above the program frame
-- So 6 without 7 counts the names in resolved paths. Assumes nothing.
use Rattle.std.specs.Prelude.{◌≡◌, List, [], ◌∷◌, ℕ, ◌+◌, ◌-◌, eqb, ltb}
use Rattle.std.proofs.Math.Option.{some}
use Rattle.framed.specs.Common.{when◌then◌else◌}
use Rattle.framed.specs.Bytes.{class}
use Rattle.framed.specs.Tokens.{Token, tokens}
use Rattle.sweep.specs.Kinds.{kinds}

unfoldable pub one_if : ℕ → ℕ → ℕ
one_if a b = when eqb a b then 1 else 0

-- how many `{` are open after a token of kind k
unfoldable pub curly_after : ℕ → ℕ → ℕ
curly_after c k = when eqb k 14 then c + 1 else when eqb k 15 then c - 1 else c

-- how many `[` outside code are open, where c `{` are: after a `[`, after a `]`, after a token of kind k
unfoldable pub opened : ℕ → ℕ → ℕ
opened c q = when eqb c 0 then q + 1 else q

unfoldable pub closed : ℕ → ℕ → ℕ
closed c q = when eqb c 0 then q - 1 else q

unfoldable pub square_after : ℕ → ℕ → ℕ → ℕ
square_after c q k = when eqb k 12 then opened c q else when eqb k 13 then closed c q else q

-- how many further `^` the path has after a token of kind k that follows one of kind l: one after a dot is a further one
unfoldable pub further_after : ℕ → ℕ → ℕ → ℕ
further_after l f k = when eqb k 8 then (when eqb l 7 then f + 1 else 0) else f

-- `:=`, `!` and `show` make one expression, an operator and `jump` two, `ifeq` three
unfoldable pub expression_weight : ℕ → ℕ → ℕ
expression_weight what k =
    when eqb k 3 then one_if what 0 + one_if what 0
    else when eqb k 4 then one_if what 0 + one_if what 0 + one_if what 0
    else when eqb k 2 then one_if what 0
    else when eqb k 6 then one_if what 0
    else when eqb k 9 then one_if what 0
    else when ltb k 16 then 0
    else when ltb 24 k then 0
    else one_if what 0 + one_if what 0

-- what counts wherever it stands; `;` closes an instruction
unfoldable pub plain_weight : ℕ → ℕ → ℕ
plain_weight what k =
    when eqb k 10 then one_if what 1
    else when eqb k 27 then one_if what 2
    else when eqb k 28 then one_if what 3
    else expression_weight what k

-- what counts outside code; `[` opens a frame
unfoldable pub mark_weight : ℕ → ℕ → ℕ
mark_weight what k =
    when eqb k 12 then one_if what 4
    else when eqb k 1 then one_if what 5
    else when eqb k 8 then one_if what 5
    else when eqb k 9 then one_if what 5
    else when ltb k 16 then 0
    else when ltb 24 k then 0
    else one_if what 5

unfoldable pub placed_weight : ℕ → ℕ → ℕ → ℕ
placed_weight what c k = when eqb c 0 then mark_weight what k else 0

-- what a `^` counts: a further one, with f before it, names a frame where there is one left
unfoldable pub up_weight : ℕ → ℕ → ℕ → ℕ → ℕ
up_weight what q f l =
    when eqb l 7 then (when ltb f (q - 1) then one_if what 7 else one_if what 8)
    else when eqb what 6 then q - 1
    else 0

-- what counts in paths; a name after a dot belongs to one
unfoldable pub path_weight : ℕ → ℕ → ℕ → ℕ → ℕ → ℕ
path_weight what q f l k =
    when eqb k 8 then up_weight what q f l
    else when eqb k 25 then (when eqb l 7 then one_if what 6 else 0)
    else 0

-- what a token of kind k adds, where c `{` and q `[` are open, the path has f further `^`, and the token before is of kind l
unfoldable pub weight : ℕ → ℕ → ℕ → ℕ → ℕ → ℕ → ℕ
weight what c q f l k = plain_weight what k + placed_weight what c k + path_weight what q f l k

unfoldable pub sum_of : ℕ → ℕ → ℕ → ℕ → ℕ → List ℕ → ℕ
sum_of what c q f l [] = 0
sum_of what c q f l (k ∷ ks) =
    weight what c q f l k + sum_of what (curly_after c k) (square_after c q k) (further_after l f k) k ks

-- the sum over all tokens; no token has come before
unfoldable pub whole_sum : ℕ → List Token → ℕ
whole_sum what ts = sum_of what 0 0 0 0 (kinds ts)

-- where the source is tokens, the answer is their sum
pub record Sums (s : List ℕ) (what r : ℕ) : Type 0 where
  pub is : (ts : List Token) → tokens class s ≡ some ts → r ≡ whole_sum what ts
