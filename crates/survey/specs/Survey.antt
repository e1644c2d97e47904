-- Document 01, "Tokens and grammar" and "Limits and paths", numbers 4, 5, 8 and 9: what one pass over a source finds and keeps. Assumes nothing.
use Rattle.std.specs.Prelude.{◌≡◌, true, false, List, ℕ, ◌+◌, ◌<◌, ◌≤◌, eqb, length}
use Rattle.framed.specs.Common.{when◌then◌else◌}
use Rattle.framed.specs.Bytes.{class}
use Rattle.framed.specs.Tokens.{tokens}
use Rattle.framed.specs.Answers.{load_refused}
use Rattle.sweep.specs.Decides.{Decides}
use Rattle.token_cache.specs.Cache.{Cached, CanStore, NotesFrom, with_entry}
use Rattle.scan.specs.Scan.{tokens_refusal}
use Rattle.names.specs.Kept.{Numbered, Marked, Kept, KeptAs, Leads}
use Rattle.strings.specs.Places.{Placed}
use Rattle.sums.specs.Totals.{Totalled}
use Rattle.slots.specs.Own.{bad_tree}
use Rattle.survey.specs.declared.Findings.{Findings}

-- how many names are kept after one whose number is j
unfoldable pub count_after : ℕ → ℕ → ℕ
count_after n j = when eqb j n then n + 1 else n

pub record Few (n : ℕ) : Type 0 where
  pub few : n ≤ 129

-- the token was read there, and a name can be kept
pub record CanTake (c s begins ends hints : List ℕ) (n at k a p w : ℕ) : Type 0 where
  pub stores : CanStore c s at k a p w
  pub begins_size : length begins ≡ 129
  pub ends_size : length ends ≡ 129
  pub numbered : Numbered s begins ends n
  pub marked : n ≤ 128 → Marked s begins ends hints n

-- a name is kept with its number and a note, any other token without; in the cache where its entry has room for it
pub data Taken (c s begins ends hints : List ℕ) (n at k a p w : ℕ) (c' begins' ends' hints' : List ℕ) (j : ℕ) : Type 0 where
  name : k ≡ 25 → n ≤ 128 → KeptAs s begins ends hints n a p begins' ends' hints' j → c' ≡ with_entry c at 25 a p (j + 1) → NotesFrom c c' at (j + 1) → Taken c s begins ends hints n at k a p w c' begins' ends' hints' j
  other : (k ≡ 25 → 128 < n) → begins' ≡ begins → ends' ≡ ends → hints' ≡ hints → j ≡ 255 → c' ≡ with_entry c at k a p w → NotesFrom c c' at 0 → Taken c s begins ends hints n at k a p w c' begins' ends' hints' j

-- What is found and kept of a source. Two parts are hints, which no answer of load depends on: which tokens the cache keeps, since a token that it does not keep is read anew (`token_cache::token_in`); and a `clean`
-- that is false, since then every frame is looked at again (`slots`), which decides.
pub record Surveyed (c s begins ends places : List ℕ) (r : Findings) : Type 0 where
  pub refusal_is : load_refused r.refusal ≡ tokens_refusal (tokens class s)
  pub cached : Cached c s
  pub kept : Kept s begins ends r.names
  pub led : Leads c s begins ends r.names
  pub placed : Placed s places r.strings
  pub totalled : Totalled s r.totals
  pub clean_is : r.clean ≡ true → Decides bad_tree s false
