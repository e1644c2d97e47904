-- Document 01, the table, numbers 4 and 5: the whole source in tokens. Assumes nothing.
use Rattle.std.specs.Prelude.{List, ℕ, max, ◌+◌, ◌-◌, ◌<◌, eqb, ltb}
use Rattle.std.proofs.Math.Option.{Option, none, some}
use Rattle.framed.specs.Common.{when◌then◌else◌}
use Rattle.framed.specs.Tokens.{Token, highest_nesting}

-- 4: bytes form no token; 5: nesting above 16; else 0
unfoldable pub tokens_refusal : Option (List Token) → ℕ
tokens_refusal none = 4
tokens_refusal (some ts) = when ltb 16 (highest_nesting 0 ts) then 5 else 0

-- the same on the way: `high` was reached before, and n are open
unfoldable pub nesting_refusal : ℕ → ℕ → Option (List Token) → ℕ
nesting_refusal high n none = 4
nesting_refusal high n (some ts) = when ltb 16 (max high (highest_nesting n ts)) then 5 else 0

-- how many are open after a token of kind k
unfoldable pub depth_after : ℕ → ℕ → ℕ
depth_after n k =
    when eqb k 12 then n + 1
    else when eqb k 14 then n + 1
    else when eqb k 13 then n - 1
    else when eqb k 15 then n - 1
    else n

-- at the end of the tokens
unfoldable pub last_refusal : ℕ → ℕ → ℕ
last_refusal high n = when ltb 16 (max high n) then 5 else 0

pub record NotHuge (n : ℕ) : Type 0 where
  pub small : n < 18446744073709551615
