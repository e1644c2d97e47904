-- What each token that `next` reads keeps to: the lengths of names and strings, their bytes, the range of integers. Assumes nothing.
use mathlib.Core.Path.{◌≡◌, refl, subst}
use mathlib.Core.Bool.{Bool, true, false, ◌||◌, ◌&&◌, false≢true}
use mathlib.Core.List.{List, [], ◌∷◌}
use Prim.Native.Nat.{ℕ, zero, suc, ◌≤◌, ◌<◌}
use native.Mathlib.Omega.{arith}
use lib.ListN.{length, get_or}
use lib.IntN.{ℤ}
use lib.Dec.{leb, eqb}
use borrow.Author.Tests.{leb-true, eqb-true}
use Rattle.framed.specs.Common.{when◌then◌else◌, bytes, is, same, while, starts, between, member}
use Rattle.framed.specs.Bytes.{class, letter, digit, name_byte, string_byte, in_letters, in_digits, space_bytes, mark_bytes}
use Rattle.framed.specs.Tokens.{Token, Fixed, in_range, Read, skip, word, read_name, read_integer, read_string, two_bytes, read_mark, read, next, Tokens⊢}
use Rattle.tables.proofs.Bools.{split2, or_left}
use Rattle.shapes.specs.Shape.{NameShaped, LiteralShaped}

-- ---- Tests

one_of_three : {X : Type 0} (a b c : Bool) → a || b || c ≡ true → (a ≡ true → X) → (b ≡ true → X) → (c ≡ true → X) → X
one_of_three true b c e f g h = f refl
one_of_three false true c e f g h = g refl
one_of_three false false c e f g h = h e

-- a choice: what holds where the test holds, and where it does not
choose : {A : Type 0} (P : A → Type 0) (t : Bool) (x y : A) → (t ≡ true → P x) → (t ≡ false → P y) → P (when t then x else y)
choose P true x y f g = f refl
choose P false x y f g = g refl

-- ---- Bytes of names are small

between_most : (lo hi b : ℕ) → between lo hi b ≡ true → b ≤ hi
between_most lo hi b e = leb-true b hi (split2 (leb lo b) (leb b hi) e).1

letter_small : (b : ℕ) → in_letters b ≡ true → b < 256
letter_small b e =
    one_of_three (between 65 90 b) (between 97 122 b) (is "_" b) e (λ p. let l = between_most 65 90 b p in omega arith)
    (λ p. let l = between_most 97 122 b p in omega arith) (λ p. let l : b ≡ 95 = eqb-true b 95 p in omega arith)

digit_small : (b : ℕ) → in_digits b ≡ true → b < 256
digit_small b e = let l = between_most 48 57 b e in omega arith

-- n is the class of byte b
record Classed (b n : ℕ) : Type 0 where
  small : eqb n 2 || eqb n 3 ≡ true → b < 256

name_byte_small : (b : ℕ) → name_byte class b ≡ true → b < 256
unfolding class
name_byte_small b e =
    (choose (Classed b) (member b space_bytes) _ _ (λ t. record { small = λ q. absurd (false≢true q) })
    (λ t.
    choose (Classed b) (in_letters b) _ _ (λ u. record { small = λ q. letter_small b u })
    (λ u.
    choose (Classed b) (in_digits b) _ _ (λ v. record { small = λ q. digit_small b v })
    (λ v.
    choose (Classed b) (member b mark_bytes) _ _ (λ w. record { small = λ q. absurd (false≢true q) }) (λ w. record { small = λ q. absurd (false≢true q) }))))
    ).small e

-- ---- Runs of bytes

while_all : (test : ℕ → Bool) (l : List ℕ) (i : ℕ) → i < length (while test l) → test (get_or (while test l) i 0) ≡ true
unfolding while
while_all test [] i lt = absurd (omega arith)
while_all test (b ∷ l) i lt = go (test b) refl i lt (λ j lj. while_all test l j lj)
  where
    go : (t : Bool) → test b ≡ t → (i : ℕ) → i < length {A = ℕ} (elim t [ true ↦ b ∷ while test l | false ↦ [] ]) →
        ((j : ℕ) → j < length (while test l) → test (get_or (while test l) j 0) ≡ true) → test (get_or {A = ℕ} (elim t [ true ↦ b ∷ while test l | false ↦ [] ]) i 0) ≡ true
    go true e zero lt f = e
    go true e (suc i) lt f = f i (omega arith)
    go false e i lt f = absurd (omega arith)

while_some : (test : ℕ → Bool) (b : ℕ) (l : List ℕ) → test b ≡ true → 1 ≤ length (while test (b ∷ l))
unfolding while
while_some test b l e = go (test b) e
  where
    go : (t : Bool) → t ≡ true → 1 ≤ length {A = ℕ} (elim t [ true ↦ b ∷ while test l | false ↦ [] ])
    go true q = omega arith
    go false q = absurd (false≢true q)

-- ---- Tokens

pub data TokenShaped : Token → Type 0 where
  name : {w : List ℕ} → NameShaped w → TokenShaped (Token.name w)
  integer : {z : ℤ} → in_range z ≡ true → TokenShaped (Token.integer z)
  string : {w : List ℕ} → LiteralShaped w → TokenShaped (Token.string w)
  code : TokenShaped Token.code
  fixed : {f : Fixed} → TokenShaped (Token.fixed f)

data ReadShaped : Read → Type 0 where
  end : ReadShaped Read.end
  no_token : ReadShaped Read.no_token
  token : {t : Token} {rest : List ℕ} → TokenShaped t → ReadShaped (Read.token t rest)

either : (t : Bool) (x y : Read) → ReadShaped x → ReadShaped y → ReadShaped (when t then x else y)
either t x y a b = choose ReadShaped t x y (λ e. a) (λ e. b)

mark_shaped : (b : ℕ) (bs : List ℕ) → ReadShaped (read_mark b bs)
unfolding read_mark two_bytes
mark_shaped b bs =
    e (is ":" b) _ _ (e (starts (is "=") bs) _ _ s s)
    (e (is "=" b) _ _ (e (starts (is "=") bs) _ _ s ReadShaped.no_token)
    (e (is "&" b) _ _ (e (starts (is "&") bs) _ _ s ReadShaped.no_token)
    (e (is "|" b) _ _ (e (starts (is "|") bs) _ _ s ReadShaped.no_token)
    (e (is "." b) _ _ s (e (is "^" b) _ _ s (e (is "!" b) _ _ s (e (is "+" b) _ _ s (e (is "-" b) _ _ s (e (is "*" b) _ _ s
    (e (is "/" b) _ _ s (e (is "<" b) _ _ s (e (is "#" b) _ _ s (e (is ";" b) _ _ s (e (is "," b) _ _ s (e (is "[" b) _ _ s
    (e (is "]" b) _ _ s (e (is "{" b) _ _ s (e (is "}" b) _ _ s ReadShaped.no_token))))))))))))))))))
  where
    e : (t : Bool) (x y : Read) → ReadShaped x → ReadShaped y → ReadShaped (when t then x else y)
    e = either

    s : {f : Fixed} {rest : List ℕ} → ReadShaped (Read.token (Token.fixed f) rest)
    s = ReadShaped.token TokenShaped.fixed

word_shaped : (w : List ℕ) → NameShaped w → TokenShaped (word w)
unfolding word
word_shaped w h =
    e (same w (bytes "frame")) _ _ TokenShaped.fixed
    (e (same w (bytes "code")) _ _ TokenShaped.code
    (e (same w (bytes "self")) _ _ TokenShaped.fixed
    (e (same w (bytes "show")) _ _ TokenShaped.fixed
    (e (same w (bytes "jump")) _ _ TokenShaped.fixed (e (same w (bytes "ifeq")) _ _ TokenShaped.fixed (TokenShaped.name h))))))
  where
    e : (t : Bool) (x y : Token) → TokenShaped x → TokenShaped y → TokenShaped (when t then x else y)
    e t x y a b = choose TokenShaped t x y (λ q. a) (λ q. b)

name_shaped : (b : ℕ) (bs rest : List ℕ) → letter class b ≡ true → ReadShaped (read_name (while (name_byte class) (b ∷ bs)) rest)
unfolding read_name
name_shaped b bs rest l =
    choose ReadShaped _ _ _
    (λ e.
    ReadShaped.token
    (word_shaped (while (name_byte class) (b ∷ bs))
    (record {
      least = while_some (name_byte class) b bs (or_left (letter class b) (digit class b) l);
      most = leb-true _ _ e;
      bytes = λ i lt. name_byte_small _ (while_all (name_byte class) (b ∷ bs) i lt);
    })))
    (λ e. ReadShaped.no_token)

integer_shaped : (z : ℤ) (rest : List ℕ) → ReadShaped (read_integer z rest)
unfolding read_integer
integer_shaped z rest = choose ReadShaped (in_range z) _ _ (λ e. ReadShaped.token (TokenShaped.integer e)) (λ e. ReadShaped.no_token)

string_shaped : (bs rest : List ℕ) → ReadShaped (read_string (while string_byte bs) rest)
unfolding read_string
string_shaped bs rest =
    choose ReadShaped (leb (length (while string_byte bs)) 64 && starts (is "\"") rest) _ _
    (λ e.
    ReadShaped.token
    (TokenShaped.string
    (record {
      most = leb-true _ _ (split2 (leb (length (while string_byte bs)) 64) (starts (is "\"") rest) e).0;
      bytes = λ i lt. while_all string_byte bs i lt;
    })))
    (λ e. ReadShaped.no_token)

read_shaped : (bs : List ℕ) → ReadShaped (read class bs)
unfolding read
read_shaped [] = ReadShaped.end
read_shaped (b ∷ bs) =
    choose ReadShaped (letter class b) _ _ (λ e. name_shaped b bs _ e)
    (λ e.
    either (digit class b) _ _ (integer_shaped _ _)
    (either (is "-" b && starts (digit class) bs) _ _ (integer_shaped _ _) (either (is "\"" b) _ _ (string_shaped bs _) (mark_shaped b bs))))

next_shaped : (bs rest : List ℕ) (t : Token) → next class bs ≡ Read.token t rest → TokenShaped t
unfolding next
next_shaped bs rest t e = go (read class (skip class bs)) e (read_shaped (skip class bs))
  where
    go : (r : Read) → r ≡ Read.token t rest → ReadShaped r → TokenShaped t
    go Read.end q h = let z : ◌≡◌ {A = ℕ} 0 1 = cc in absurd (omega arith)
    go Read.no_token q h = let z : ◌≡◌ {A = ℕ} 0 1 = cc in absurd (omega arith)
    go (Read.token u r) q (ReadShaped.token h) = let d : u ≡ t = cc in subst TokenShaped d h

pub data AllShaped : List Token → Type 0 where
  none : AllShaped []
  more : {t : Token} {ts : List Token} → TokenShaped t → AllShaped ts → AllShaped (t ∷ ts)

pub tokens_shaped : {bs : List ℕ} {ts : List Token} → Tokens⊢ class bs ts → AllShaped ts
tokens_shaped (Tokens⊢.at_end e) = AllShaped.none
tokens_shaped (Tokens⊢.more e h) = AllShaped.more (next_shaped _ _ _ e) (tokens_shaped h)
