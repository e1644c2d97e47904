-- Document 01, "Tokens and grammar": what the token reader's answer at a position means, as a token of `framed` and the bytes after it.
-- For every class of bytes `c`. Assumes nothing.
use Rattle.std.specs.Prelude.{◌≡◌, List, [], ◌∷◌, ℕ, ◌+◌, ◌-◌, ◌<◌, ◌≤◌, ℤ, pos, negsuc, eqb, ltb, length, get_or}
use Rattle.framed.specs.Common.{when◌then◌else◌}
use Rattle.framed.specs.Bytes.{Classes}
use Rattle.framed.specs.Tokens.{Token, Fixed, Operator, Read, end, no_token, token, skip, next}
use Rattle.source.specs.Positions.{rest, part}
use Rattle.token.specs.declared.TokenRead.{TokenRead}

-- a 32-bit word as a signed integer
unfoldable pub signed : ℕ → ℤ
signed w = when ltb w 2147483648 then pos w else negsuc (4294967295 - w)

-- kinds: 0 to 15 fixed tokens, 16 to 24 operators, 25 name, 26 integer, 27 string, 28 `code`
unfoldable pub fixed_list : List Fixed
fixed_list =
    Fixed.frame ∷ Fixed.self ∷ Fixed.show ∷ Fixed.jump ∷ Fixed.ifeq ∷ Fixed.colon ∷ Fixed.assign ∷ Fixed.dot ∷ Fixed.up ∷ Fixed.bang
    ∷ Fixed.semicolon ∷ Fixed.comma ∷ Fixed.open_square ∷ Fixed.close_square ∷ Fixed.open_curly ∷ Fixed.close_curly
    ∷ Fixed.operator Operator.plus ∷ Fixed.operator Operator.minus ∷ Fixed.operator Operator.times ∷ Fixed.operator Operator.over
    ∷ Fixed.operator Operator.less ∷ Fixed.operator Operator.join ∷ Fixed.operator Operator.equal ∷ Fixed.operator Operator.and
    ∷ Fixed.operator Operator.or ∷ []

unfoldable pub fixed_of : ℕ → Fixed
unfolding fixed_list
fixed_of k = get_or fixed_list k Fixed.frame

-- the kind of a token
unfoldable pub operator_kind : Operator → ℕ
operator_kind Operator.plus = 16
operator_kind Operator.minus = 17
operator_kind Operator.times = 18
operator_kind Operator.over = 19
operator_kind Operator.less = 20
operator_kind Operator.join = 21
operator_kind Operator.equal = 22
operator_kind Operator.and = 23
operator_kind Operator.or = 24

unfoldable pub fixed_kind : Fixed → ℕ
fixed_kind Fixed.frame = 0
fixed_kind Fixed.self = 1
fixed_kind Fixed.show = 2
fixed_kind Fixed.jump = 3
fixed_kind Fixed.ifeq = 4
fixed_kind Fixed.colon = 5
fixed_kind Fixed.assign = 6
fixed_kind Fixed.dot = 7
fixed_kind Fixed.up = 8
fixed_kind Fixed.bang = 9
fixed_kind Fixed.semicolon = 10
fixed_kind Fixed.comma = 11
fixed_kind Fixed.open_square = 12
fixed_kind Fixed.close_square = 13
fixed_kind Fixed.open_curly = 14
fixed_kind Fixed.close_curly = 15
fixed_kind (Fixed.operator o) = operator_kind o

unfoldable pub token_kind : Token → ℕ
token_kind (Token.name w) = 25
token_kind (Token.integer z) = 26
token_kind (Token.string w) = 27
token_kind Token.code = 28
token_kind (Token.fixed f) = fixed_kind f

-- the token of kind k from a up to p, w being an integer's word; a string's bytes stand between its quotes
unfoldable pub token_of : List ℕ → ℕ → ℕ → ℕ → ℕ → Token
token_of s k a p w =
    when ltb k 25 then Token.fixed (fixed_of k)
    else when eqb k 25 then Token.name (part s a p)
    else when eqb k 26 then Token.integer (signed w)
    else when eqb k 27 then Token.string (part s (a + 1) (p - 1))
    else Token.code

-- what an answer means
unfoldable pub meant : List ℕ → TokenRead → Read
meant s TokenRead.End = end
meant s TokenRead.NoToken = no_token
meant s (TokenRead.Token k a p w) = token (token_of s k a p w) (rest s p)

-- where a token stands: from a on, not before `at`, up to p, inside the source
pub record Spot (at len k a p : ℕ) : Type 0 where
  pub known : k < 29
  pub begins : at ≤ a
  pub more : a < p
  pub inside : p ≤ len

pub data Within (at len : ℕ) : TokenRead → Type 0 where
  at_end : Within at len TokenRead.End
  refused : Within at len TokenRead.NoToken
  within : {k a p w : ℕ} → Spot at len k a p → Within at len (TokenRead.Token k a p w)

-- The answer r is the token at the position `at`
pub record TokenAt (c : Classes) (s : List ℕ) (at : ℕ) (r : TokenRead) : Type 0 where
  -- it is what `framed` reads from there on, and what follows it is the rest after it
  pub says : next c (rest s at) ≡ meant s r
  pub on : Within at (length s) r
  -- a token begins where spaces and comments end
  pub first : {k a p w : ℕ} → r ≡ TokenRead.Token k a p w → skip c (rest s at) ≡ rest s a
  -- only an integer has a word
  pub plain : {k a p w : ℕ} → r ≡ TokenRead.Token k a p w → (k ≡ 26 → ⊥) → w ≡ 0

-- the word of an answer, which its type bounds by 32 bits
abbrev pub word_of : TokenRead → ℕ
word_of TokenRead.End = 0
word_of TokenRead.NoToken = 0
word_of (TokenRead.Token k a p w) = w

-- The contract leaves one answer (`proofs/Unique`)
abbrev pub OneAnswer : Type 0
OneAnswer =
    (c : Classes) (s : List ℕ) (at : ℕ) (r q : TokenRead) → word_of r < 4294967296 → word_of q < 4294967296
    → TokenAt c s at r → TokenAt c s at q → r ≡ q
