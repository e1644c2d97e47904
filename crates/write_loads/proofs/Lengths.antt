-- A text with one space between words has fewer bytes than its tokens with one byte more each; and those are at most twice the bytes that the tokens were read from.
-- Assumes nothing.
use mathlib.Core.List.{List, [], ◌∷◌, ◌++◌}
use Prim.Native.Nat.{ℕ, suc, ◌+◌, ◌*◌, ◌≤◌, ◌<◌}
use native.Mathlib.Omega.{arith}
use lib.ListN.{length, length-append}
use Rattle.framed.specs.Common.{total}
use Rattle.framed.specs.Bytes.{Classes}
use Rattle.framed.specs.Tokens.{Token, Fixed, Tokens⊢}
use Rattle.framed.specs.Writer.{Word, token_bytes, word_bytes, led, parted, joined_words}
use Rattle.framed.proofs.TokensExact.{tokens_fewer}
use Rattle.shapes.proofs.Lists.{total_append}
use Rattle.token_spelling.specs.Spelling.{Lawful}
use Rattle.token_spelling.proofs.ReadBack.{read_short}
use Rattle.write_paths.specs.Rewriting.{WordFormed, WordsFormed}

-- the bytes of a token and one more
abbrev pub with_space : Token → ℕ
with_space t = suc (length (token_bytes t))

word_short : {w : Word} → WordFormed w → suc (length (word_bytes w)) ≤ total with_space w
unfolding total word_bytes
word_short (WordFormed.single {t}) = let e = length-append (token_bytes t) [] in omega arith
word_short (WordFormed.dotted {t} {u} {w} f) =
    let i = word_short f in
    let e = length-append (token_bytes t) (token_bytes (Token.fixed Fixed.dot) ++ word_bytes (u ∷ w)) in
    let g = length-append (token_bytes (Token.fixed Fixed.dot)) (word_bytes (u ∷ w)) in
    omega arith

led_short : {ws : List Word} → WordsFormed ws → length (led ws) ≤ total with_space (joined_words ws)
unfolding total led joined_words
led_short WordsFormed.none = omega arith
led_short (WordsFormed.more {w} {ws} f fs) =
    let i = led_short fs in
    let j = word_short f in
    let e = length-append (word_bytes w) (led ws) in
    let g = total_append with_space w (joined_words ws) in
    omega arith

pub parted_short : {w : Word} {ws : List Word} → WordsFormed (w ∷ ws) → length (parted (w ∷ ws)) < total with_space (joined_words (w ∷ ws))
unfolding parted joined_words
parted_short (WordsFormed.more {w} {ws} f fs) =
    let i = led_short fs in
    let j = word_short f in
    let e = length-append (word_bytes w) (led ws) in
    let g = total_append with_space w (joined_words ws) in
    omega arith

-- ---- Tokens that were read

module _ (c : Classes) (lawful : Lawful c) where
  bytes_short : {bs : List ℕ} {ts : List Token} → Tokens⊢ c bs ts → total with_space ts ≤ length bs + length ts
  unfolding total
  bytes_short (Tokens⊢.at_end e) = omega arith
  bytes_short (Tokens⊢.more {bs} {rest} {t} {ts} e d) =
      let i = bytes_short d in
      let s = read_short c lawful bs rest t e in
      omega arith

  pub read_twice : {bs : List ℕ} {ts : List Token} → Tokens⊢ c bs ts → total with_space ts ≤ 2 * length bs
  read_twice d =
      let i = bytes_short d in
      let f = tokens_fewer c d in
      omega arith
