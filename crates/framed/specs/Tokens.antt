-- Document 01, "Tokens and grammar", the list of tokens; and number 5, the nesting.
-- `next` reads one token from the front of the bytes; `tokens` reads them all, and gives `none` where bytes form no token (number 4).
-- Both read by the classes `c` that they are given.
-- Assumes nothing.
use Rattle.std.specs.Prelude.{◌≡◌, Bool, true, false, ◌&&◌, List, [], ◌∷◌, ℕ, zero, suc, pred, max, ◌+◌, ◌*◌, ◌-◌, ◌^◌, length, ℤ, pos, neg_ℤ, leb, ltb}
use Rattle.std.proofs.Math.Option.{Option, none, some}
use Rattle.std.specs.Int.Signed.{mag}
use Rattle.framed.specs.Common.{when◌then◌else◌, bytes, is, same, while, after, starts, past_first}
use Rattle.framed.specs.Bytes.{Classes, space, letter, digit, name_byte, string_byte}

-- `+ - * / < # == && ||`
pub data Operator : Type 0 where
  plus minus times over less join equal and or : Operator

-- the tokens that are always the same bytes, but for `code`
pub data Fixed : Type 0 where
  frame self show jump ifeq : Fixed
  colon assign dot up bang semicolon comma : Fixed
  open_square close_square open_curly close_curly : Fixed
  operator : Operator → Fixed

pub data Token : Type 0 where
  name : List ℕ → Token
  integer : ℤ → Token
  string : List ℕ → Token
  code : Token
  fixed : Fixed → Token

-- What stands at the front of the bytes: nothing more, bytes that form no token, or a token with the bytes after it
pub data Read : Type 0 where
  end no_token : Read
  token : Token → List ℕ → Read

-- spaces, and `//` with any bytes up to byte 10 or the end
unfoldable mutual
  pub skip : Classes → List ℕ → List ℕ
  skip c [] = []
  skip c (b ∷ bs) =
      elim (space c b) [
        | true ↦ skip c bs
        | false ↦ elim (is "/" b && starts (is "/") bs) [ true ↦ skip_comment c bs | false ↦ b ∷ bs ]
      ]

  pub skip_comment : Classes → List ℕ → List ℕ
  skip_comment c [] = []
  skip_comment c (b ∷ bs) = elim (is "\n" b) [ true ↦ skip c bs | false ↦ skip_comment c bs ]

-- A name of 1 to 16 bytes, or a reserved word
unfoldable pub word : List ℕ → Token
word w =
    when same w (bytes "frame") then fixed frame
    else when same w (bytes "code") then code
    else when same w (bytes "self") then fixed self
    else when same w (bytes "show") then fixed show
    else when same w (bytes "jump") then fixed jump
    else when same w (bytes "ifeq") then fixed ifeq
    else name w

unfoldable pub read_name : List ℕ → List ℕ → Read
read_name w rest = when leb (length w) 16 then token (word w) rest else no_token

-- an integer that 32 bits hold: −2147483648 to 2147483647
abbrev pub in_range : ℤ → Bool
in_range z = ltb (mag z) (2 ^ 31)

unfoldable pub number : ℕ → List ℕ → ℕ
number n [] = n
number n (d ∷ ds) = number (n * 10 + (d - 48)) ds

unfoldable pub read_integer : ℤ → List ℕ → Read
read_integer z rest = when in_range z then token (integer z) rest else no_token

-- a string of at most 64 bytes; `w` are its bytes, and a `"` has to follow
unfoldable pub read_string : List ℕ → List ℕ → Read
read_string w rest =
    when leb (length w) 64 && starts (is "\"") rest then token (string w) (past_first rest) else no_token

-- one mark of two equal or unequal bytes, as `:=`: `rest` has to begin with the second
unfoldable pub two_bytes : Bool → Fixed → List ℕ → Read → Read
two_bytes second f rest otherwise = when second then token (fixed f) (past_first rest) else otherwise

unfoldable pub read_mark : ℕ → List ℕ → Read
read_mark b rest =
    when is ":" b then two_bytes (starts (is "=") rest) assign rest (token (fixed colon) rest)
    else when is "=" b then two_bytes (starts (is "=") rest) (operator equal) rest no_token
    else when is "&" b then two_bytes (starts (is "&") rest) (operator and) rest no_token
    else when is "|" b then two_bytes (starts (is "|") rest) (operator or) rest no_token
    else when is "." b then token (fixed dot) rest
    else when is "^" b then token (fixed up) rest
    else when is "!" b then token (fixed bang) rest
    else when is "+" b then token (fixed (operator plus)) rest
    else when is "-" b then token (fixed (operator minus)) rest
    else when is "*" b then token (fixed (operator times)) rest
    else when is "/" b then token (fixed (operator over)) rest
    else when is "<" b then token (fixed (operator less)) rest
    else when is "#" b then token (fixed (operator join)) rest
    else when is ";" b then token (fixed semicolon) rest
    else when is "," b then token (fixed comma) rest
    else when is "[" b then token (fixed open_square) rest
    else when is "]" b then token (fixed close_square) rest
    else when is "{" b then token (fixed open_curly) rest
    else when is "}" b then token (fixed close_curly) rest
    else no_token

-- The token at the front, where no space stands there. A `-` directly before a digit belongs to the integer.
-- Names and digits are read as long as they go, then measured
unfoldable pub read : Classes → List ℕ → Read
read c [] = end
read c (b ∷ bs) =
    when letter c b then read_name (while (name_byte c) (b ∷ bs)) (after (name_byte c) bs)
    else when digit c b then read_integer (pos (number 0 (while (digit c) (b ∷ bs)))) (after (digit c) bs)
    else when is "-" b && starts (digit c) bs then read_integer (neg_ℤ (pos (number 0 (while (digit c) bs)))) (after (digit c) bs)
    else when is "\"" b then read_string (while string_byte bs) (after string_byte bs)
    else read_mark b bs

unfoldable pub next : Classes → List ℕ → Read
next c bs = read c (skip c bs)

unfoldable pub prepend : {A : Type 0} → A → Option (List A) → Option (List A)
prepend x none = none
prepend x (some xs) = some (x ∷ xs)

-- All tokens. The number bounds how many are read: each takes at least one byte, so the number of bytes is enough
unfoldable pub tokens_within : Classes → ℕ → List ℕ → Option (List Token)
tokens_within c zero bs = none
tokens_within c (suc n) bs =
    elim (next c bs) [
      | end ↦ some []
      | no_token ↦ none
      | token t rest ↦ prepend t (tokens_within c n rest)
    ]

unfoldable pub tokens : Classes → List ℕ → Option (List Token)
tokens c bs = tokens_within c (suc (length bs)) bs

-- The same as a relation, with no bound (`proofs/TokensExact`: `tokens c bs ≡ some ts` exactly when `Tokens⊢ c bs ts`)
pub data Tokens⊢ (c : Classes) : List ℕ → List Token → Type 0 where
  at_end : {bs : List ℕ} → next c bs ≡ end → Tokens⊢ c bs []
  more : {bs rest : List ℕ} {t : Token} {ts : List Token} → next c bs ≡ token t rest → Tokens⊢ c rest ts → Tokens⊢ c bs (t ∷ ts)

-- Nesting: `[` and `{` not yet closed. Each `]` or `}` takes one off, never below 0
unfoldable pub open_after : ℕ → Token → ℕ
open_after n (name w) = n
open_after n (integer z) = n
open_after n (string w) = n
open_after n code = n
open_after n (fixed f) = elim f [
  | frame ↦ n
  | self ↦ n
  | show ↦ n
  | jump ↦ n
  | ifeq ↦ n
  | colon ↦ n
  | assign ↦ n
  | dot ↦ n
  | up ↦ n
  | bang ↦ n
  | semicolon ↦ n
  | comma ↦ n
  | open_square ↦ suc n
  | close_square ↦ pred n
  | open_curly ↦ suc n
  | close_curly ↦ pred n
  | operator o ↦ n
]

-- the highest nesting from a place where n are open
unfoldable pub highest_nesting : ℕ → List Token → ℕ
highest_nesting n [] = n
highest_nesting n (t ∷ ts) = max n (highest_nesting (open_after n t) ts)

unfoldable pub Tokens : Type 0
unfolding skip word read_name number read_integer read_string two_bytes read_mark read next prepend tokens_within tokens open_after highest_nesting
Tokens = ℕ
