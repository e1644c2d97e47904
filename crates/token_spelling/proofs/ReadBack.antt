-- Document 02, A1: every token that reading gave is read again as it is spelled, and is spelled with no more bytes than it was read from. Assumes nothing.
use mathlib.Core.Path.{◌≡◌, refl, sym, ◌∙◌, ap, subst}
use mathlib.Core.Bool.{Bool, true, false, ◌&&◌, false≢true}
use mathlib.Core.List.{List, [], ◌∷◌, ◌++◌}
use Prim.Native.Nat.{ℕ, suc, ◌+◌, ◌≤◌}
use native.Mathlib.Omega.{arith}
use lib.Dec.{leb}
use lib.IntN.{ℤ, pos, neg_ℤ}
use lib.ListN.{length, length-append}
use lib.Seq.{append_snoc}
use Rattle.framed.specs.Common.{when◌then◌else◌, is, same, while, after, starts, past_first, Common}
use Rattle.framed.specs.Bytes.{Classes, class, letter, digit, name_byte, string_byte}
use Rattle.framed.specs.Tokens.{Token, Fixed, Operator, Read, skip, word, in_range, number, read_name, read_integer, read_string, two_bytes, read_mark, read, next, Tokens}
use Rattle.framed.specs.Values.{decimal}
use Rattle.framed.specs.Writer.{fixed_bytes, token_bytes, Writer}
use Rattle.framed.proofs.Lists.{both, same_equal}
use Rattle.framed.proofs.TokensExact.{skip_shorter}
use Rattle.token_spelling.specs.Spelling.{Lawful, Stops, Back, ReadBack, ReadShort}
use Rattle.token_spelling.proofs.Lawful.{anchored, by_anchor, name_ends, next_first}
use Rattle.token_spelling.proofs.Runs.{All, while_all, while_length, while_more, after_more, while_back, after_back}
use Rattle.token_spelling.proofs.FixedBack.{fixed_back}
use Rattle.token_spelling.proofs.IntegerBack.{integer_back}
use Rattle.token_spelling.proofs.DecimalLength.{decimal_length, negative_length}

-- a word is spelled by its bytes, also where it is reserved
word_spelled : (w : List ℕ) → token_bytes (word w) ≡ w
unfolding word Writer
word_spelled w =
    reserved (Token.fixed Fixed.frame) _
    (reserved Token.code _
    (reserved (Token.fixed Fixed.self) _
    (reserved (Token.fixed Fixed.show) _ (reserved (Token.fixed Fixed.jump) _ (reserved (Token.fixed Fixed.ifeq) (Token.name w) refl)))))
  where
    reserved : (t u : Token) → token_bytes u ≡ w → token_bytes (when same w (token_bytes t) then t else u) ≡ w
    reserved t u e = go (same w (token_bytes t)) refl
      where
        go : (b : Bool) → same w (token_bytes t) ≡ b → token_bytes (when b then t else u) ≡ w
        go true f = sym (same_equal w (token_bytes t) f)
        go false f = e

past_length : (test : ℕ → Bool) (bs : List ℕ) → starts test bs ≡ true → length bs ≡ suc (length (past_first bs))
unfolding starts past_first
past_length test [] e = absurd (false≢true e)
past_length test (b ∷ bs) e = refl

quote_next : (c : Classes) → Lawful c → (bs : List ℕ) → next c (34 ∷ bs) ≡ read_string (while string_byte bs) (after string_byte bs)
unfolding anchored Tokens
quote_next = by_anchor (λ c. (bs : List ℕ) → next c (34 ∷ bs) ≡ read_string (while string_byte bs) (after string_byte bs)) (λ c bs. refl)

module _ (c : Classes) (l : Lawful c) where
  -- a token is read again, and has with the rest at most n bytes
  data Again (n : ℕ) : Read → Type 0 where
    end : Again n Read.end
    no_token : Again n Read.no_token
    token : {t : Token} {rest : List ℕ} → Back c t → length (token_bytes t) + length rest ≤ n → Again n (Read.token t rest)

  choose : (n : ℕ) (t : Bool) (x y : Read) → (t ≡ true → Again n x) → Again n y → Again n (when t then x else y)
  choose n true x y f g = f refl
  choose n false x y f g = g

  -- ---- Names

  name_next : {w : List ℕ} → All (name_byte c) w → starts (letter c) w ≡ true → (more : List ℕ) → Stops more → next c (w ++ more) ≡ read_name w more
  unfolding starts read
  name_next All.none e more s = absurd (false≢true e)
  name_next (All.more {b} {bs} f a) e more s =
      next_first c l b (bs ++ more) f
      ∙ rw (e, while_back (name_byte c) more (name_ends c l more s) (All.more f a), after_back (name_byte c) more (name_ends c l more s) a)

  name_again : (b : ℕ) (bs : List ℕ) → letter c b ≡ true → Again (suc (length bs)) (read_name (while (name_byte c) (b ∷ bs)) (after (name_byte c) bs))
  unfolding read_name starts
  name_again b bs e =
      choose _ (leb (length w) 16) _ _
      (λ h. Again.token (λ more s. rw (word_spelled w) (name_next (while_all (name_byte c) (b ∷ bs)) (rw (while_more (name_byte c) f bs) e) more s ∙ rw h))
      (rw (word_spelled w, while_more (name_byte c) f bs) (let q = while_length (name_byte c) bs in omega arith)))
      Again.no_token
    where
      w : List ℕ
      w = while (name_byte c) (b ∷ bs)

      f : name_byte c b ≡ true
      f = rw e

  -- ---- Integers

  all_constant : {w : List ℕ} → All (digit c) w → All (digit class) w
  all_constant All.none = All.none
  all_constant (All.more {b} e a) = All.more (l.digits b e) (all_constant a)

  integer_again : (n : ℕ) (z : ℤ) (rest : List ℕ) → length (decimal z) + length rest ≤ n → Again n (read_integer z rest)
  unfolding read_integer token_bytes
  integer_again n z rest f = choose n (in_range z) _ _ (λ e. Again.token (integer_back c l z e) f) Again.no_token

  -- digits, at least one
  digits_short : (bs : List ℕ) → starts (digit c) bs ≡ true →
      length (decimal (pos (number 0 (while (digit c) bs)))) + length (after (digit c) bs) ≤ length bs
  unfolding starts
  digits_short [] e = absurd (false≢true e)
  digits_short (b ∷ bs) e =
      let a : All (digit class) (b ∷ while (digit c) bs) = rw (while_more (digit c) e bs) at (all_constant (while_all (digit c) (b ∷ bs))) in
      let m = decimal_length b (while (digit c) bs) a in
      let q = while_length (digit c) bs in
      rw (while_more (digit c) e bs, after_more (digit c) e bs) (omega arith)

  positive_again : (b : ℕ) (bs : List ℕ) → digit c b ≡ true →
      Again (suc (length bs)) (read_integer (pos (number 0 (while (digit c) (b ∷ bs)))) (after (digit c) bs))
  unfolding starts
  positive_again b bs e = integer_again _ _ _ (rw (after_more (digit c) e bs) at (digits_short (b ∷ bs) e))

  negative_again : (bs : List ℕ) → starts (digit c) bs ≡ true →
      Again (suc (length bs)) (read_integer (neg_ℤ (pos (number 0 (while (digit c) bs)))) (after (digit c) bs))
  negative_again bs e =
      integer_again _ _ _
      (let m = negative_length (number 0 (while (digit c) bs)) in
      let q = digits_short bs e in
      omega arith)

  -- ---- Strings

  string_again : (bs : List ℕ) → Again (suc (length bs)) (read_string (while string_byte bs) (after string_byte bs))
  unfolding read_string Writer Common
  string_again bs =
      choose _ (leb (length w) 64 && starts (is "\"") (after string_byte bs)) _ _
      (λ e.
      let h = both (leb (length w) 64) (starts (is "\"") (after string_byte bs)) e in
      Again.token
      (λ more s.
      ap (λ (v : List ℕ). next c (34 ∷ v)) (append_snoc w 34 more)
      ∙ quote_next c l (w ++ 34 ∷ more)
      ∙ rw (while_back string_byte (34 ∷ more) refl (while_all string_byte bs), after_back string_byte (34 ∷ more) refl (while_all string_byte bs), h.0))
      (let a = length-append w (34 ∷ []) in
      let q = while_length string_byte bs in
      let p = past_length (is "\"") (after string_byte bs) h.1 in
      omega arith))
      Again.no_token
    where
      w : List ℕ
      w = while string_byte bs

  -- ---- Marks

  two_again : (test : ℕ → Bool) (bs : List ℕ) (f : Fixed) (r : Read) → length (fixed_bytes f) ≡ 2 → Again (suc (length bs)) r →
      Again (suc (length bs)) (two_bytes (starts test bs) f bs r)
  unfolding two_bytes token_bytes
  two_again test bs f r k a =
      choose _ (starts test bs) _ _ (λ e. Again.token (fixed_back c l f) (let p = past_length test bs e in omega arith)) a

  mark_again : (b : ℕ) (bs : List ℕ) → Again (suc (length bs)) (read_mark b bs)
  unfolding read_mark Writer Common
  mark_again b bs =
      e (is ":" b) _ _ (two_again (is "=") bs Fixed.assign _ refl (s Fixed.colon refl))
      (e (is "=" b) _ _ (two_again (is "=") bs (Fixed.operator Operator.equal) _ refl Again.no_token)
      (e (is "&" b) _ _ (two_again (is "&") bs (Fixed.operator Operator.and) _ refl Again.no_token)
      (e (is "|" b) _ _ (two_again (is "|") bs (Fixed.operator Operator.or) _ refl Again.no_token)
      (e (is "." b) _ _ (s Fixed.dot refl)
      (e (is "^" b) _ _ (s Fixed.up refl)
      (e (is "!" b) _ _ (s Fixed.bang refl)
      (e (is "+" b) _ _ (s (Fixed.operator Operator.plus) refl)
      (e (is "-" b) _ _ (s (Fixed.operator Operator.minus) refl)
      (e (is "*" b) _ _ (s (Fixed.operator Operator.times) refl)
      (e (is "/" b) _ _ (s (Fixed.operator Operator.over) refl)
      (e (is "<" b) _ _ (s (Fixed.operator Operator.less) refl)
      (e (is "#" b) _ _ (s (Fixed.operator Operator.join) refl)
      (e (is ";" b) _ _ (s Fixed.semicolon refl)
      (e (is "," b) _ _ (s Fixed.comma refl)
      (e (is "[" b) _ _ (s Fixed.open_square refl)
      (e (is "]" b) _ _ (s Fixed.close_square refl)
      (e (is "{" b) _ _ (s Fixed.open_curly refl) (e (is "}" b) _ _ (s Fixed.close_curly refl) Again.no_token))))))))))))))))))
    where
      e : (t : Bool) (x y : Read) → Again (suc (length bs)) x → Again (suc (length bs)) y → Again (suc (length bs)) (when t then x else y)
      e t x y a = choose _ t x y (λ q. a)

      s : (f : Fixed) → length (fixed_bytes f) ≡ 1 → Again (suc (length bs)) (Read.token (Token.fixed f) bs)
      s f k = Again.token {rest = bs} (fixed_back c l f) (omega arith)

  -- ---- All tokens

  read_again : (bs : List ℕ) → Again (length bs) (read c bs)
  unfolding read
  read_again [] = Again.end
  read_again (b ∷ bs) =
      choose _ (letter c b) _ _ (name_again b bs)
      (choose _ (digit c b) _ _ (positive_again b bs)
      (choose _ (is "-" b && starts (digit c) bs) _ _ (λ e. negative_again bs (both (is "-" b) (starts (digit c) bs) e).1)
      (choose _ (is "\"" b) _ _ (λ e. string_again bs) (mark_again b bs))))

  next_again : (bs : List ℕ) {t : Token} {rest : List ℕ} → next c bs ≡ Read.token t rest → Again (length (skip c bs)) (Read.token t rest)
  unfolding next
  next_again bs e = subst (Again (length (skip c bs))) e (read_again (skip c bs))

  again_back : {n : ℕ} {t : Token} {rest : List ℕ} → Again n (Read.token t rest) → Back c t
  again_back (Again.token b s) = b

  again_short : {n : ℕ} {t : Token} {rest : List ℕ} → Again n (Read.token t rest) → length (token_bytes t) + length rest ≤ n
  again_short (Again.token b s) = s

pub read_back : ReadBack
read_back c l bs rest t e = again_back c l (next_again c l bs e)

pub read_short : ReadShort
read_short c l bs rest t e = let s = again_short c l (next_again c l bs e) in let k = skip_shorter c bs in omega arith
