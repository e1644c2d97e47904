-- Document 01, the call look: a path text, and Fetch along it. The path is `framed`'s `read-path`, Fetch its `look-from`. Assumes nothing.
use Rattle.std.specs.Prelude.{◌≡◌, List, [], ◌∷◌, ℕ, ◌≤◌, ◌<◌, length}
use Rattle.std.proofs.Math.Option.{Option, none, some}
use Rattle.framed.specs.declared.Value.{Value}
use Rattle.framed.specs.Bytes.{class}
use Rattle.framed.specs.Tokens.{Token, Fixed, tokens, prepend}
use Rattle.framed.specs.Symbols.{number_in, numbered}
use Rattle.framed.specs.Tree.{Written}
use Rattle.framed.specs.Parse.{Parsed, fails, parsed, names}
use Rattle.framed.specs.Program.{Program}
use Rattle.framed.specs.Values.{Frame}
use Rattle.framed.specs.Fetch.{◌>>=◌, get, fetch}
use Rattle.framed.specs.Machine.{State}
use Rattle.framed.specs.Calls.{read_path, look_from}
use Rattle.source.specs.Positions.{rest, part}
use Rattle.heap.specs.Words.{self_held, program_held}
use Rattle.heap.specs.Held.{frames_held}
use Rattle.look_names.specs.Names.{names_held}
use Rattle.look_path.specs.declared.Resolved.{Resolved}
use Rattle.look_path.specs.declared.Dotted.{Dotted}

-- ---- What the text leads to

unfoldable pub found : Option Value → Resolved
found none = Resolved.Undefined
found (some v) = Resolved.Found v

-- 21 comes before 22: first the whole text is such a path
unfoldable pub reached : State → Option Written → Resolved
reached s none = Resolved.NotPath
reached s (some w) = found (look_from s w)

unfoldable pub resolved : Program → State → List ℕ → Resolved
resolved p s text = reached s (read_path p (tokens class text))

-- the answer over words: of every program with these names, in every state with these frames, self and program
pub record Resolves (p h text : List ℕ) (r : Resolved) : Type 0 where
  pub is : (q : Program) (s : State) → q.names ≡ names_held p → s.heap.frames ≡ frames_held h → s.self ≡ self_held h → s.program ≡ program_held h
      → r ≡ resolved q s text

-- ---- The dots and names after `self` or `^`

-- names, and nothing behind them
unfoldable pub to_end : Parsed (List ℕ) → Option (List ℕ)
to_end fails = none
to_end (parsed ns []) = some ns
to_end (parsed ns (x ∷ us)) = none

-- the numbers of the names, where the tokens are dots and names to the end
unfoldable pub dotted_names : List (List ℕ) → Option (List Token) → Option (List ℕ)
dotted_names table none = none
dotted_names table (some ts) = to_end (names (numbered table 0 0 ts))

-- what they lead to, from a value that may be undefined
unfoldable pub along : List Frame → Option Value → Option (List ℕ) → Resolved
along frames v none = Resolved.NotPath
along frames v (some ns) = found (do u ← v; fetch frames u ns)

-- one name further
unfoldable pub named_from : List (List ℕ) → List Frame → Option Value → List ℕ → Option Value
named_from table frames v w = do u ← v; get frames u (number_in table w)

-- the name at a position: it begins at a and ends at e
pub data NameAt (s : List ℕ) (at : ℕ) : Dotted → Type 0 where
  name : {a e : ℕ} → at < e → e ≤ length s → tokens class (rest s at) ≡ prepend (Token.name (part s a e)) (tokens class (rest s e)) → NameAt s at (Dotted.Name a e)
  other : ((table : List (List ℕ)) → dotted_names table (prepend (Token.fixed Fixed.dot) (tokens class (rest s at))) ≡ none) → NameAt s at Dotted.Other

-- the same with a dot before the name
pub data DottedAt (s : List ℕ) (at : ℕ) : Dotted → Type 0 where
  at_end : tokens class (rest s at) ≡ some [] → DottedAt s at Dotted.End
  name : {a e : ℕ} → at < e → e ≤ length s →
      tokens class (rest s at) ≡ prepend (Token.fixed Fixed.dot) (prepend (Token.name (part s a e)) (tokens class (rest s e))) → DottedAt s at (Dotted.Name a e)
  other : ((table : List (List ℕ)) → dotted_names table (tokens class (rest s at)) ≡ none) → DottedAt s at Dotted.Other
