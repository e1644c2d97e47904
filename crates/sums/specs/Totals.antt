-- Document 01, "Limits and paths" and numbers 7, 9, 10 and 12: the sums of Weights, all in one struct, and what one token does to them. Assumes nothing.
use Rattle.std.specs.Prelude.{◌≡◌, List, ℕ, ◌+◌, ◌<◌}
use Rattle.sums.specs.Weights.{curly_after, square_after, further_after, up_weight, weight, Sums}
use Rattle.sums.specs.declared.Totals.{Totals}
use Rattle.sums.specs.declared.Tally.{Tally}

-- each sum is that of the source's tokens
pub record Totalled (s : List ℕ) (t : Totals) : Type 0 where
  pub expressions : Sums s 0 t.expressions
  pub instructions : Sums s 1 t.instructions
  pub strings : Sums s 2 t.strings
  pub codes : Sums s 3 t.codes
  pub frames : Sums s 4 t.frames
  pub misplaced : Sums s 5 t.misplaced
  pub names : Sums s 6 t.names
  pub named : Sums s 7 t.named
  pub far : Sums s 8 t.far

-- no token has come
unfoldable pub nothing : Tally
nothing = record {
  totals = record { expressions = 0; instructions = 0; strings = 0; codes = 0; frames = 0; misplaced = 0; names = 0; named = 0; far = 0 };
  curly = 0;
  square = 0;
  further = 0;
}

-- r is t with what a `^` adds to the paths, after a token of kind l
pub record Climbs (t : Tally) (l : ℕ) (r : Tally) : Type 0 where
  pub expressions : r.totals.expressions ≡ t.totals.expressions
  pub instructions : r.totals.instructions ≡ t.totals.instructions
  pub strings : r.totals.strings ≡ t.totals.strings
  pub codes : r.totals.codes ≡ t.totals.codes
  pub frames : r.totals.frames ≡ t.totals.frames
  pub misplaced : r.totals.misplaced ≡ t.totals.misplaced
  pub names : r.totals.names ≡ t.totals.names + up_weight 6 t.square t.further l
  pub named : r.totals.named ≡ t.totals.named + up_weight 7 t.square t.further l
  pub far : r.totals.far ≡ t.totals.far + up_weight 8 t.square t.further l
  pub curly : r.curly ≡ t.curly
  pub square : r.square ≡ t.square
  pub further : r.further ≡ further_after l t.further 8

-- r is t after a token of kind k that follows one of kind l
pub record Counts (t : Tally) (l k : ℕ) (r : Tally) : Type 0 where
  pub expressions : r.totals.expressions ≡ t.totals.expressions + weight 0 t.curly t.square t.further l k
  pub instructions : r.totals.instructions ≡ t.totals.instructions + weight 1 t.curly t.square t.further l k
  pub strings : r.totals.strings ≡ t.totals.strings + weight 2 t.curly t.square t.further l k
  pub codes : r.totals.codes ≡ t.totals.codes + weight 3 t.curly t.square t.further l k
  pub frames : r.totals.frames ≡ t.totals.frames + weight 4 t.curly t.square t.further l k
  pub misplaced : r.totals.misplaced ≡ t.totals.misplaced + weight 5 t.curly t.square t.further l k
  pub names : r.totals.names ≡ t.totals.names + weight 6 t.curly t.square t.further l k
  pub named : r.totals.named ≡ t.totals.named + weight 7 t.curly t.square t.further l k
  pub far : r.totals.far ≡ t.totals.far + weight 8 t.curly t.square t.further l k
  pub curly : r.curly ≡ curly_after t.curly k
  pub square : r.square ≡ square_after t.curly t.square k
  pub further : r.further ≡ further_after l t.further k

-- each number has room for what one token adds
pub record Room (t : Tally) : Type 0 where
  pub expressions : t.totals.expressions < 4294967296
  pub instructions : t.totals.instructions < 4294967296
  pub strings : t.totals.strings < 4294967296
  pub codes : t.totals.codes < 4294967296
  pub frames : t.totals.frames < 4294967296
  pub misplaced : t.totals.misplaced < 4294967296
  pub names : t.totals.names < 4294967296
  pub named : t.totals.named < 4294967296
  pub far : t.totals.far < 4294967296
  pub curly : t.curly < 4294967296
  pub square : t.square < 4294967296
  pub further : t.further < 4294967296

-- the same for a `^`
pub record UpRoom (t : Tally) : Type 0 where
  pub names : t.totals.names < 4294967296
  pub named : t.totals.named < 4294967296
  pub far : t.totals.far < 4294967296
  pub square : t.square < 4294967296
  pub further : t.further < 4294967296
