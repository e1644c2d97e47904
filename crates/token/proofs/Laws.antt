-- Laws of reading one token: each has the form of a place in the code. For every class of bytes `c`. Assumes nothing.
use mathlib.Core.Path.{◌≡◌, refl, sym, ◌∙◌}
use mathlib.Core.Bool.{Bool, true, false, ◌&&◌}
use mathlib.Core.List.{List, [], ◌∷◌}
use Prim.Native.Nat.{ℕ, zero, suc, ◌+◌, ◌-◌, ◌<◌, ◌≤◌}
use native.Mathlib.Omega.{arith}
use lib.Dec.{eqb, leb, ltb}
use lib.IntN.{pos, neg_ℤ}
use lib.ListN.{length}
use lib.Signed.{mag}
use borrow.Author.Tests.{eqb-true, eq-eqb, ne_eqb, lt-ltb, le-ltb, le-leb, lt-leb}
use Rattle.framed.specs.Common.{Common, when◌then◌else◌, bytes, same, while, past_first}
use Rattle.framed.specs.Bytes.{Bytes, Classes, class, digit}
use Rattle.framed.specs.Tokens.{Token, Fixed, Operator, Read, no_token, token, skip, number, word, read_name, read_integer, read_string, read_mark, two_bytes, read, next}
use Rattle.source.specs.Positions.{rest, byte, part, At}
use Rattle.source.proofs.Positions.{rest_at, rest_end, length_part, part_none, starts_at, past_rest, before_end}
use Rattle.spaces.specs.Spaces.{Skips}
use Rattle.lexeme.specs.Lexemes.{run_test, RunBegins, RunEnds, word_kind, capped}
use Rattle.lexeme.proofs.Laws.{after_yes, run_is, run_more, Close, equal, large, capped_close}
use Rattle.token.specs.Reading.{signed, fixed_of, fixed_list, token_of, meant, Within, at_end, within, TokenAt}
use Rattle.token.specs.Beginning.{Here, refused, here, Begins, name_read, natural_read, negative_read, string_read, mark_read, mark_kind, TwoOk, two_read}
use Rattle.token.specs.declared.TokenRead.{TokenRead}
use Rattle.token.proofs.Answers.{end≢token_read, no_token≢token_read}

-- a token that is no integer
taken : (at len k p : ℕ) → k < 29 → at < p → p ≤ len → Here at len (TokenRead.Token k at p 0)
taken at len k p l m h = here {k = k} {p = p} (record { known = l; more = m; inside = h; plain = λ _. refl })

-- an integer
taken_integer : (at len p w : ℕ) → at < p → p ≤ len → Here at len (TokenRead.Token 26 at p w)
taken_integer at len p w m h = here {k = 26} {p = p} (record { known = omega arith; more = m; inside = h; plain = λ n. absurd (n refl) })

-- the same answer to the same question
told : (e f : Read) (s : List ℕ) (at : ℕ) (r : TokenRead) → e ≡ f → Begins f s at r → Begins e s at r
told e f s at r q m = record { says = q ∙ m.says; on = m.on }

-- ---- Words

module _ (s : List ℕ) (a p : ℕ) where
  word_token : token_of s (word_kind (part s a p)) a p 0 ≡ word (part s a p)
  unfolding word_kind word token_of fixed_of fixed_list
  word_token =
      let w = part s a p in
      go (same w (bytes "frame")) (same w (bytes "code")) (same w (bytes "self")) (same w (bytes "show")) (same w (bytes "jump")) (same w (bytes "ifeq"))
    where
      go : (t u v x y z : Bool) → token_of s (when t then 0 else when u then 28 else when v then 1 else when x then 2 else when y then 3 else when z then 4 else 25) a p 0
          ≡ (when t then Token.fixed Fixed.frame else when u then Token.code else when v then Token.fixed Fixed.self else when x then Token.fixed Fixed.show
          else when y then Token.fixed Fixed.jump else when z then Token.fixed Fixed.ifeq else Token.name (part s a p))
      go true u v x y z = refl
      go false true v x y z = refl
      go false false true x y z = refl
      go false false false true y z = refl
      go false false false false true z = refl
      go false false false false false true = refl
      go false false false false false false = refl

word_known : (w : List ℕ) → word_kind w < 29
unfolding word_kind
word_known w = go (same w (bytes "frame")) (same w (bytes "code")) (same w (bytes "self")) (same w (bytes "show")) (same w (bytes "jump")) (same w (bytes "ifeq"))
  where
    go : (t u v x y z : Bool) → (when t then 0 else when u then 28 else when v then 1 else when x then 2 else when y then 3 else when z then 4 else 25) < 29
    go true u v x y z = omega arith
    go false true v x y z = omega arith
    go false false true x y z = omega arith
    go false false false true y z = omega arith
    go false false false false true z = omega arith
    go false false false false false true = omega arith
    go false false false false false false = omega arith

module _ (c : Classes) (s : List ℕ) (i j : ℕ) (b : RunBegins c s 2 i) (r : RunEnds c s 2 i j) where
  length_is : length (part s i j) ≡ j - i
  length_is = length_part s i j r.begins (omega (arith, r.inside, b.inside))

  pub name_long : 16 < j - i → Begins (name_read c s i) s i TokenRead.NoToken
  unfolding read_name meant
  name_long h = record { says = rw (run_is c s 2 i j r, length_is, lt-leb (j - i) 16 h); on = refused }

  pub name_fits : j - i ≤ 16 → (k : ℕ) → k ≡ word_kind (part s i j) → Begins (name_read c s i) s i (TokenRead.Token k i j 0)
  unfolding read_name meant
  name_fits h k e = record {
    says = rw (run_is c s 2 i j r, length_is, le-leb (j - i) 16 h, r.rest_is, e, word_token s i j);
    on = taken i (length s) k j (rw e (word_known (part s i j))) (run_more c s 2 i j b r) (omega (arith, r.inside, b.inside));
  }

-- ---- Integers

close_large : (x n : ℕ) → Close x n → 2147483648 < n → 2147483648 < x
close_large x n (equal e) h = rw e h
close_large x n (large g k) h = g

close_small : (x n : ℕ) → Close x n → n ≤ 2147483648 → x ≡ n
close_small x n (equal e) h = e
close_small x n (large g k) h = absurd (none n k h)
  where
    none : (n : ℕ) → 2147483648 < n → n ≤ 2147483648 → ⊥
    none n k h = omega arith

-- the digits from i up to j write n
module _ (c : Classes) (s : List ℕ) (i j n : ℕ) (r : RunEnds c s 1 i j) (num : n ≡ capped 0 (part s i j)) where
  abbrev value : ℕ
  value = number 0 (while (run_test c 1) (rest s i))

  close : Close value n
  close = rw (run_is c s 1 i j r, num) (capped_close 0 (part s i j))

  above : (x : ℕ) → Close x n → 2147483647 < n → 2147483647 < x
  above x (equal e) h = omega arith
  above x (large g k) h = omega arith

  module _ (b : RunBegins c s 1 i) where
    pub natural_large : 2147483647 < n → Begins (natural_read c s i) s i TokenRead.NoToken
    unfolding read_integer meant
    natural_large h = record { says = rw (le-ltb value 2147483648 (omega (arith, above value close h))); on = refused }

    pub natural_fits : n ≤ 2147483647 → Begins (natural_read c s i) s i (TokenRead.Token 26 i j n)
    unfolding read_integer meant token_of signed
    natural_fits h = record {
      says = rw (close_small value n close (omega arith), lt-ltb n 2147483648 (omega arith), r.rest_is);
      on = taken_integer i (length s) j n (run_more c s 1 i j b r) (omega (arith, r.inside, b.inside));
    }

mag_neg : (x : ℕ) → 2147483648 < x → 2147483648 ≤ mag (neg_ℤ (pos x))
mag_neg zero h = absurd (none h)
  where
    none : 2147483648 < 0 → ⊥
    none h = omega arith
mag_neg (suc x) h = omega arith

negated : (rs : List ℕ) (x : ℕ) → x ≤ 2147483648 → (x ≡ 0 → ⊥) → (when ltb (mag (neg_ℤ (pos x))) 2147483648 then token (Token.integer (neg_ℤ (pos x))) rs else no_token)
    ≡ token (Token.integer (signed (4294967296 - x))) rs
unfolding signed
negated rs zero l h = absurd (h refl)
negated rs (suc x) l h = rw (lt-ltb x 2147483648 (omega arith), le-ltb (4294967296 - suc x) 2147483648 (omega arith), back x (omega arith))
  where
    back : (x : ℕ) → x < 2147483648 → 4294967295 - (4294967296 - suc x) ≡ x
    back x l = omega arith

-- the digits after the sign at `at` write n
module _ (c : Classes) (s : List ℕ) (at j n : ℕ) (b : RunBegins c s 1 (at + 1)) (r : RunEnds c s 1 (at + 1) j) (num : n ≡ capped 0 (part s (at + 1) j)) where
  abbrev digits_value : ℕ
  digits_value = number 0 (while (run_test c 1) (rest s (at + 1)))

  is_close : Close digits_value n
  is_close = close c s (at + 1) j n r num

  stands : (w : ℕ) → Here at (length s) (TokenRead.Token 26 at j w)
  stands w = taken_integer at (length s) j w (omega (arith, run_more c s 1 (at + 1) j b r)) (omega (arith, r.inside, b.inside))

  pub negative_large : 2147483648 < n → Begins (negative_read c s at) s at TokenRead.NoToken
  unfolding read_integer meant
  negative_large h = record {
    says = rw (le-ltb (mag (neg_ℤ (pos digits_value))) 2147483648 (mag_neg _ (close_large _ n is_close h)));
    on = refused;
  }

  pub negative_zero : n ≡ 0 → Begins (negative_read c s at) s at (TokenRead.Token 26 at j 0)
  unfolding read_integer meant token_of signed
  negative_zero h = record {
    says = rw (close_small digits_value n is_close (omega arith), h, r.rest_is);
    on = stands 0;
  }

  pub negative_fits : n ≤ 2147483648 → (n ≡ 0 → ⊥) → (w : ℕ) → w ≡ 4294967296 - n → Begins (negative_read c s at) s at (TokenRead.Token 26 at j w)
  unfolding read_integer meant token_of
  negative_fits h z w e = record {
    says = rw (close_small digits_value n is_close h, r.rest_is, e) (negated (rest s j) n h z);
    on = stands w;
  }

-- ---- Strings

module _ (c : Classes) (s : List ℕ) (at j : ℕ) (a : At s at) (r : RunEnds c s 0 (at + 1) j) where
  run_length : length (part s (at + 1) j) ≡ j - (at + 1)
  run_length = length_part s (at + 1) j r.begins (omega (arith, r.inside, a.inside))

  pub string_long : 64 < j - (at + 1) → Begins (string_read c s at) s at TokenRead.NoToken
  unfolding read_string meant
  string_long h = record { says = rw (run_is c s 0 (at + 1) j r, run_length, lt-leb (j - (at + 1)) 64 h); on = refused }

  module _ (q : ℕ) (e : q ≡ byte s j) where
    pub string_open : (q ≡ 34 → ⊥) → Begins (string_read c s at) s at TokenRead.NoToken
    unfolding read_string meant
    string_open n = record {
      says = rw (r.rest_is, starts_at (λ d. eqb d 34) refl s j, ← e, ne_eqb q 34 n) (neither (leb (length (while (run_test c 0) (rest s (at + 1)))) 64));
      on = refused;
    }
      where
        neither : (t : Bool) → (when t && false then token (Token.string (while (run_test c 0) (rest s (at + 1)))) (past_first (rest s j)) else no_token) ≡ no_token
        neither true = refl
        neither false = refl

    pub string_fits : q ≡ 34 → j - (at + 1) ≤ 64 → Begins (string_read c s at) s at (TokenRead.Token 27 at (j + 1) 0)
    unfolding read_string meant token_of
    string_fits n h =
        let l : j < length s = before_end s j (omega arith) in
        record {
          says = rw (run_is c s 0 (at + 1) j r, run_length, le-leb (j - (at + 1)) 64 h, r.rest_is, starts_at (λ d. eqb d 34) refl s j, ← e, eq-eqb q 34 n, past_rest s j l, minus j);
          on = taken at (length s) 27 (j + 1) (omega arith) (omega (arith, r.begins)) (omega arith);
        }
      where
        minus : (j : ℕ) → j + 1 - 1 ≡ j
        minus j = omega arith

-- ---- Marks

module _ (s : List ℕ) (at second k d : ℕ) (ok : TwoOk s at second k) (is : d ≡ byte s (at + 1)) where
  pub two_no : (d ≡ second → ⊥) → Begins (two_read s at second k) s at TokenRead.NoToken
  unfolding two_read meant
  two_no n = record { says = rw (← is, ne_eqb d second n); on = refused }

  pub two_yes : d ≡ second → Begins (two_read s at second k) s at (TokenRead.Token k at (at + 2) 0)
  unfolding two_read meant token_of
  two_yes e =
      let l : at + 1 < length s = before_end s (at + 1) (omega (arith, ok.some_byte)) in
      record {
        says = rw (← is, eq-eqb d second e, lt-ltb k 25 ok.known);
        on = taken at (length s) k (at + 2) (omega (arith, ok.known)) (omega arith) (omega arith);
      }

-- `framed`'s two bytes are the two bytes at the position
two_is : (s : List ℕ) (at second : ℕ) (f : Fixed) (otherwise : Read) → 0 < second →
    two_bytes (eqb (byte s (at + 1)) second) f (rest s (at + 1)) otherwise ≡ (when eqb (byte s (at + 1)) second then token (Token.fixed f) (rest s (at + 2)) else otherwise)
unfolding two_bytes
two_is s at second f otherwise h = go (eqb (byte s (at + 1)) second) refl
  where
    two : (n : ℕ) → n + 1 + 1 ≡ n + 2
    two n = omega arith

    go : (t : Bool) → eqb (byte s (at + 1)) second ≡ t → (when t then token (Token.fixed f) (past_first (rest s (at + 1))) else otherwise) ≡ (when t then token (Token.fixed f) (rest s (at + 2)) else otherwise)
    go true e =
        let v = eqb-true (byte s (at + 1)) second e in
        let l : at + 1 < length s = before_end s (at + 1) (omega arith) in
        rw (past_rest s (at + 1) l, two at)
    go false e = refl

module _ (s : List ℕ) (at b : ℕ) (is : b ≡ byte s at) (a : At s at) where
  pub assign_mark : b ≡ 58 → (d : ℕ) → d ≡ byte s (at + 1) → d ≡ 61 → Begins (mark_read s at) s at (TokenRead.Token 6 at (at + 2) 0)
  unfolding read_mark meant token_of fixed_of fixed_list
  assign_mark e d f g =
      let l : at + 1 < length s = before_end s (at + 1) (omega arith) in
      record {
        says = rw (← is, e, starts_at (λ c. eqb c 61) refl s (at + 1), two_is s at 61 Fixed.assign (token (Token.fixed Fixed.colon) (rest s (at + 1))) (omega arith), ← f, g);
        on = taken at (length s) 6 (at + 2) (omega arith) (omega arith) (omega arith);
      }

  pub colon_mark : b ≡ 58 → (d : ℕ) → d ≡ byte s (at + 1) → (d ≡ 61 → ⊥) → Begins (mark_read s at) s at (TokenRead.Token 5 at (at + 1) 0)
  unfolding read_mark meant token_of fixed_of fixed_list
  colon_mark e d f g = record {
    says = rw (← is, e, starts_at (λ c. eqb c 61) refl s (at + 1), two_is s at 61 Fixed.assign (token (Token.fixed Fixed.colon) (rest s (at + 1))) (omega arith), ← f, ne_eqb d 61 g);
    on = taken at (length s) 5 (at + 1) (omega arith) (omega arith) (omega (arith, a.inside));
  }

  pub equal_mark : (r : TokenRead) → (b ≡ 58 → ⊥) → b ≡ 61 → Begins (two_read s at 61 22) s at r → Begins (mark_read s at) s at r
  unfolding read_mark two_read fixed_of fixed_list
  equal_mark r n e m = told _ _ s at r (rw (← is, e, starts_at (λ c. eqb c 61) refl s (at + 1), two_is s at 61 (Fixed.operator Operator.equal) no_token (omega arith))) m

  pub and_mark : (r : TokenRead) → (b ≡ 58 → ⊥) → (b ≡ 61 → ⊥) → b ≡ 38 → Begins (two_read s at 38 23) s at r → Begins (mark_read s at) s at r
  unfolding read_mark two_read fixed_of fixed_list
  and_mark r n o e m = told _ _ s at r (rw (← is, e, starts_at (λ c. eqb c 38) refl s (at + 1), two_is s at 38 (Fixed.operator Operator.and) no_token (omega arith))) m

  pub or_mark : (r : TokenRead) → (b ≡ 58 → ⊥) → (b ≡ 61 → ⊥) → (b ≡ 38 → ⊥) → b ≡ 124 → Begins (two_read s at 124 24) s at r → Begins (mark_read s at) s at r
  unfolding read_mark two_read fixed_of fixed_list
  or_mark r n o q e m = told _ _ s at r (rw (← is, e, starts_at (λ c. eqb c 124) refl s (at + 1), two_is s at 124 (Fixed.operator Operator.or) no_token (omega arith))) m

-- a choice of kinds is a choice of readings
abbrev kind_read : List ℕ → ℕ → Read
kind_read rs k = when ltb k 25 then token (Token.fixed (fixed_of k)) rs else no_token

choose : (rs : List ℕ) (t : Bool) (j k : ℕ) (x : Read) → kind_read rs k ≡ x → kind_read rs (when t then j else k) ≡ (when t then kind_read rs j else x)
choose rs true j k x e = refl
choose rs false j k x e = e

mark_reads : (b : ℕ) (rs : List ℕ) → (b ≡ 58 → ⊥) → (b ≡ 61 → ⊥) → (b ≡ 38 → ⊥) → (b ≡ 124 → ⊥) → kind_read rs (mark_kind b) ≡ read_mark b rs
unfolding read_mark mark_kind fixed_of fixed_list
mark_reads b rs n o q u =
    rw (ne_eqb b 58 n, ne_eqb b 61 o, ne_eqb b 38 q, ne_eqb b 124 u)
    (c (eqb b 46) 7 _ _ (c (eqb b 94) 8 _ _ (c (eqb b 33) 9 _ _ (c (eqb b 43) 16 _ _ (c (eqb b 45) 17 _ _ (c (eqb b 42) 18 _ _ (c (eqb b 47) 19 _ _
    (c (eqb b 60) 20 _ _ (c (eqb b 35) 21 _ _ (c (eqb b 59) 10 _ _ (c (eqb b 44) 11 _ _ (c (eqb b 91) 12 _ _ (c (eqb b 93) 13 _ _ (c (eqb b 123) 14 _ _
    (c (eqb b 125) 15 29 _ refl)))))))))))))))
  where
    c : (t : Bool) (j k : ℕ) (x : Read) → kind_read rs k ≡ x → kind_read rs (when t then j else k) ≡ (when t then kind_read rs j else x)
    c = choose rs

-- a kind of a mark is an operator or a fixed token, or 29
mark_known : (b : ℕ) → mark_kind b ≤ 28 → mark_kind b < 25
unfolding mark_kind
mark_known b =
    c (eqb b 46) 7 _ (omega arith) (c (eqb b 94) 8 _ (omega arith) (c (eqb b 33) 9 _ (omega arith) (c (eqb b 43) 16 _ (omega arith) (c (eqb b 45) 17 _ (omega arith)
    (c (eqb b 42) 18 _ (omega arith) (c (eqb b 47) 19 _ (omega arith) (c (eqb b 60) 20 _ (omega arith) (c (eqb b 35) 21 _ (omega arith) (c (eqb b 59) 10 _ (omega arith)
    (c (eqb b 44) 11 _ (omega arith) (c (eqb b 91) 12 _ (omega arith) (c (eqb b 93) 13 _ (omega arith) (c (eqb b 123) 14 _ (omega arith) (c (eqb b 125) 15 29 (omega arith) (λ l. absurd (none l))))))))))))))))
  where
    none : 29 ≤ 28 → ⊥
    none l = omega arith

    c : (t : Bool) (j k : ℕ) → j < 25 → (k ≤ 28 → k < 25) → (when t then j else k) ≤ 28 → (when t then j else k) < 25
    c true j k l f h = l
    c false j k l f h = f h

module _ (s : List ℕ) (at b : ℕ) (is : b ≡ byte s at) (a : At s at) (n : b ≡ 58 → ⊥) (o : b ≡ 61 → ⊥) (q : b ≡ 38 → ⊥) (u : b ≡ 124 → ⊥) (k : ℕ) (e : k ≡ mark_kind b) where
  pub no_mark : 28 < k → Begins (mark_read s at) s at TokenRead.NoToken
  unfolding meant
  no_mark h = record {
    says = rw (← is) (sym (mark_reads b (rest s (at + 1)) n o q u) ∙ rw (← e, le-ltb k 25 (omega arith)));
    on = refused;
  }

  pub one_mark : k ≤ 28 → Begins (mark_read s at) s at (TokenRead.Token k at (at + 1) 0)
  unfolding meant token_of
  one_mark h =
      let l : k < 25 = rw e (mark_known b (rw (← e) h)) in
      record {
        says = rw (← is) (sym (mark_reads b (rest s (at + 1)) n o q u) ∙ rw (← e, lt-ltb k 25 l));
        on = taken at (length s) k (at + 1) (omega arith) (omega arith) (omega (arith, a.inside));
      }

-- ---- One token

-- digits follow a `-`; past the end the byte is 0, which is no digit
pub minus_begins : (c : Classes) (s : List ℕ) (at d j : ℕ) → d ≡ byte s (at + 1) → j ≡ c d → j ≡ 3 → c 0 ≡ 0 → RunBegins c s 1 (at + 1)
unfolding run_test
minus_begins c s at d j f g h z = record { inside = before_end s (at + 1) (rw (← f) (positive d (sym g ∙ h))); begins = rw (← f, ← g, h) }
  where
    positive : (d : ℕ) → c d ≡ 3 → 0 < d
    positive zero h = absurd (none (sym z ∙ h))
      where
        none : ◌≡◌ {A = ℕ} 0 3 → ⊥
        none h = omega arith
    positive (suc d) h = omega arith

module _ (c : Classes) (s : List ℕ) (at b k : ℕ) (is : b ≡ byte s at) (kind : k ≡ c b) (a : At s at) where
  pub name_begins : k ≡ 2 → RunBegins c s 2 at
  unfolding run_test
  name_begins e = record { inside = a.inside; begins = rw (← is, ← kind, e) }

  pub digit_begins : k ≡ 3 → RunBegins c s 1 at
  unfolding run_test
  digit_begins e = record { inside = a.inside; begins = rw (← is, ← kind, e) }

  turn : read c (rest s at) ≡ read c (b ∷ rest s (at + 1))
  turn = rw (rest_at s at a.inside, ← is)

  pub read_a_name : (r : TokenRead) → k ≡ 2 → Begins (name_read c s at) s at r → Begins (read c (rest s at)) s at r
  unfolding read run_test
  read_a_name r e m = told _ _ s at r (turn ∙ rw (← kind, e, ← after_yes (run_test c 2) b (rest s (at + 1)) (rw (← kind, e)), rest_at s at a.inside, ← is)) m

  pub read_a_natural : (r : TokenRead) → (k ≡ 2 → ⊥) → k ≡ 3 → Begins (natural_read c s at) s at r → Begins (read c (rest s at)) s at r
  unfolding read run_test
  read_a_natural r n e m = told _ _ s at r (turn ∙ rw (← kind, e, ← after_yes (run_test c 1) b (rest s (at + 1)) (rw (← kind, e)), rest_at s at a.inside, ← is)) m

  module _ (n : k ≡ 2 → ⊥) (o : k ≡ 3 → ⊥) where
    pub read_a_string : (r : TokenRead) → b ≡ 34 → Begins (string_read c s at) s at r → Begins (read c (rest s at)) s at r
    unfolding read run_test
    read_a_string r e m = told _ _ s at r (turn ∙ rw (← kind, ne_eqb k 2 n, ne_eqb k 3 o, e)) m

    module _ (p : b ≡ 34 → ⊥) where
      pub read_a_mark : (r : TokenRead) → (b ≡ 45 → ⊥) → Begins (mark_read s at) s at r → Begins (read c (rest s at)) s at r
      unfolding read
      read_a_mark r e m = told _ _ s at r (turn ∙ rw (← is, ← kind, ne_eqb k 2 n, ne_eqb k 3 o, ne_eqb b 45 e, ne_eqb b 34 p)) m

      -- the byte after a `-`; past the end it is 0, which is no digit
      module _ (e : b ≡ 45) (d j : ℕ) (f : d ≡ byte s (at + 1)) (g : j ≡ c d) (z : c 0 ≡ 0) where
        no_digit : digit c 0 ≡ false
        no_digit = rw z

        pub read_a_negative : (r : TokenRead) → j ≡ 3 → Begins (negative_read c s at) s at r → Begins (read c (rest s at)) s at r
        unfolding read run_test
        read_a_negative r h m = told _ _ s at r (turn ∙ rw (← kind, ne_eqb k 2 n, ne_eqb k 3 o, e, starts_at (digit c) no_digit s (at + 1), ← f, ← g, h)) m

        pub read_a_minus : (r : TokenRead) → (j ≡ 3 → ⊥) → Begins (mark_read s at) s at r → Begins (read c (rest s at)) s at r
        unfolding read
        read_a_minus r h m = told _ _ s at r (turn ∙ rw (← is, ← kind, ne_eqb k 2 n, ne_eqb k 3 o, starts_at (digit c) no_digit s (at + 1), ← f, ← g, ne_eqb j 3 h, e)) m

-- byte 0 has class 0
pub zero_class : class 0 ≡ 0
unfolding Common Bytes
zero_class = refl

-- ---- After spaces and comments

module _ (c : Classes) (s : List ℕ) (at i : ℕ) (w : Skips c s at i) where
  pub token_end : length s ≤ i → TokenAt c s at TokenRead.End
  unfolding next read meant
  token_end l = record { says = rw (w.gone, rest_end s i l); on = at_end; first = λ e. absurd (end≢token_read e); plain = λ e. absurd (end≢token_read e) }

  pub token_read : (r : TokenRead) → Begins (read c (rest s i)) s i r → TokenAt c s at r
  unfolding next
  token_read r m = record { says = rw w.gone m.says; on = later r m.on; first = λ e. first_is r m.on e; plain = λ e. plain_is r m.on e }
    where
      later : (r : TokenRead) → Here i (length s) r → Within at (length s) r
      later TokenRead.End x = elim x [ ]
      later TokenRead.NoToken refused = Within.refused
      later (TokenRead.Token k _ p x) (here h) = within {k = k} {a = i} {p = p} (record { known = h.known; begins = w.begins; more = h.more; inside = h.inside })

      first_is : (r : TokenRead) {k a p x : ℕ} → Here i (length s) r → r ≡ TokenRead.Token k a p x → skip c (rest s at) ≡ rest s a
      first_is TokenRead.End {k = k} {a = a} {p = p} x e = elim x [ ]
      first_is TokenRead.NoToken refused e = absurd (no_token≢token_read e)
      first_is (TokenRead.Token k' _ p' x') {k} {a} (here h) e = let f : i ≡ a = cc in rw (← f) w.gone

      plain_is : (r : TokenRead) {k a p x : ℕ} → Here i (length s) r → r ≡ TokenRead.Token k a p x → (k ≡ 26 → ⊥) → x ≡ 0
      plain_is TokenRead.End {k = k} {a = a} {p = p} {x = x} y e n = elim y [ ]
      plain_is TokenRead.NoToken refused e n = absurd (no_token≢token_read e)
      plain_is (TokenRead.Token k' _ p' x') {k} {a} {p} {x} (here h) e n =
          let f : k' ≡ k = cc in
          let g : x' ≡ x = cc in
          rw (← g) (h.plain (λ y. n (sym f ∙ y)))

-- ---- Parts

pub no_quotes : (s : List ℕ) (a b : ℕ) → b ≤ a → [] ≡ part s (a + 1) (b - 1)
no_quotes s a b l = part_none s (a + 1) (b - 1) (omega arith)
