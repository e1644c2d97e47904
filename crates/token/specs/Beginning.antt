-- Document 01, "Tokens and grammar": the token that begins at a position, for the functions that read one, and the kinds of marks.
-- Assumes nothing.
use Rattle.std.specs.Prelude.{◌≡◌, List, ℕ, ◌+◌, ◌<◌, ◌≤◌, eqb, pos, neg_ℤ, length}
use Rattle.framed.specs.Common.{when◌then◌else◌, while, after}
use Rattle.framed.specs.Bytes.{Classes, class}
use Rattle.framed.specs.Tokens.{Token, Read, no_token, token, number, read_name, read_integer, read_string, read_mark}
use Rattle.source.specs.Positions.{byte, rest, At}
use Rattle.source.specs.Classified.{Classified}
use Rattle.lexeme.specs.Lexemes.{run_test, RunBegins}
use Rattle.token.specs.Reading.{meant, fixed_of}
use Rattle.token.specs.declared.TokenRead.{TokenRead}

-- the table of classes, and a position inside the source
pub record CanRead (t s : List ℕ) (i : ℕ) : Type 0 where
  pub table : Classified t
  pub at : At s i

-- the table of classes, and a place where a run begins
pub record CanRun (t s : List ℕ) (m i : ℕ) : Type 0 where
  pub table : Classified t
  pub run : RunBegins class s m i

-- a token of kind k from `at` up to p, inside the source; only an integer has a word
pub record Taken (at len k p w : ℕ) : Type 0 where
  pub known : k < 29
  pub more : at < p
  pub inside : p ≤ len
  pub plain : (k ≡ 26 → ⊥) → w ≡ 0

pub data Here (at len : ℕ) : TokenRead → Type 0 where
  refused : Here at len TokenRead.NoToken
  here : {k p w : ℕ} → Taken at len k p w → Here at len (TokenRead.Token k at p w)

-- the answer is what `e` reads, and begins at `at`
pub record Begins (e : Read) (s : List ℕ) (at : ℕ) (r : TokenRead) : Type 0 where
  pub says : e ≡ meant s r
  pub on : Here at (length s) r

-- what `framed` reads by the first byte at `at`: a name, an integer without and with a sign, a string, a mark
abbrev pub name_read : Classes → List ℕ → ℕ → Read
name_read c s at = read_name (while (run_test c 2) (rest s at)) (after (run_test c 2) (rest s at))

abbrev pub natural_read : Classes → List ℕ → ℕ → Read
natural_read c s at = read_integer (pos (number 0 (while (run_test c 1) (rest s at)))) (after (run_test c 1) (rest s at))

abbrev pub negative_read : Classes → List ℕ → ℕ → Read
negative_read c s at = read_integer (neg_ℤ (pos (number 0 (while (run_test c 1) (rest s (at + 1)))))) (after (run_test c 1) (rest s (at + 1)))

abbrev pub string_read : Classes → List ℕ → ℕ → Read
string_read c s at = read_string (while (run_test c 0) (rest s (at + 1))) (after (run_test c 0) (rest s (at + 1)))

abbrev pub mark_read : List ℕ → ℕ → Read
mark_read s at = read_mark (byte s at) (rest s (at + 1))

-- the kind of a mark of one byte; 29 where it is none
unfoldable pub mark_kind : ℕ → ℕ
mark_kind b =
    when eqb b 46 then 7
    else when eqb b 94 then 8
    else when eqb b 33 then 9
    else when eqb b 43 then 16
    else when eqb b 45 then 17
    else when eqb b 42 then 18
    else when eqb b 47 then 19
    else when eqb b 60 then 20
    else when eqb b 35 then 21
    else when eqb b 59 then 10
    else when eqb b 44 then 11
    else when eqb b 91 then 12
    else when eqb b 93 then 13
    else when eqb b 123 then 14
    else when eqb b 125 then 15
    else 29

-- a mark of two bytes: its place and its kind
pub record TwoOk (s : List ℕ) (at second k : ℕ) : Type 0 where
  pub inside : at < length s
  pub some_byte : 0 < second
  pub known : k < 25

unfoldable pub two_read : List ℕ → ℕ → ℕ → ℕ → Read
two_read s at second k = when eqb (byte s (at + 1)) second then token (Token.fixed (fixed_of k)) (rest s (at + 2)) else no_token
