-- Names of different keys are different; the loops that make keys and look for them. Assumes nothing.
use mathlib.Core.Path.{◌≡◌, refl, sym, ap, ◌∙◌}
use mathlib.Core.Bool.{Bool, true, false, not, ◌&&◌, ◌||◌, false≢true}
use mathlib.Core.List.{List}
use Prim.Native.Nat.{ℕ, zero, suc, ◌+◌, ◌*◌, ◌%◌, ◌≤◌, ◌<◌}
use native.Mathlib.Omega.{arith}
use native.Mathlib.Numerals.{add-one}
use native.Mathlib.Decide.{ℕ_discrete, dec_lt}
use lib.Dec.{eqb, ltb, leb}
use lib.ListN.{length, replicate}
use borrow.Author.Tests.{eqb-true, le-leb, lt-leb, leb-true, lt-ltb, le-ltb}
use Rattle.words.specs.Words.{word, set_word}
use Rattle.words.proofs.Laws.{Upto, upto_start, upto_again, upto_done, upto_end, all_means, all_if, set_size, word_other, word_same}
use Rattle.tables.proofs.Bools.{split2, both_not, not_eq}
use Rattle.tables.specs.Fields.{names, name_length, name_byte}
use Rattle.program_names.specs.Tests.{name_byte_ok, name_bytes_ok, same_byte, same_bytes, names_differ, new_name, name_ok, names_ok}
use Rattle.program_names.proofs.Laws.{name_bytes_end}
use Rattle.program_names.specs.Keys.{key_upto, key_bytes, name_key, other_key, other_keys, is_new, name_ok_by}

-- ---- The key so far

pub record KeyUpto (p : List ℕ) (k n i key : ℕ) : Type 0 where
  pub few : i ≤ 16
  pub inside : i ≤ n
  pub so_far : key ≡ key_upto p k i

pub key_start : (p : List ℕ) (k n : ℕ) → n ≡ name_length p k → KeyUpto p k n 0 (n % 65536)
unfolding key_upto
key_start p k n e = record { few = omega arith; inside = omega arith; so_far = rw e }

module _ (p : List ℕ) (k n i key : ℕ) (u : KeyUpto p k n i key) (en : n ≡ name_length p k) where
  pub key_again : (b : ℕ) → i < 16 → i < n → b ≡ name_byte p k i → KeyUpto p k n (i + 1) (key % 16777216 * 37 + b % 65536)
  unfolding key_upto
  key_again b lt below e = record { few = omega arith; inside = omega arith; so_far = rw (add-one i, ← u.so_far, ← e) }

  pub key_end : i < 16 → n ≤ i → key ≡ name_key p k
  unfolding name_key key_bytes
  key_end lt le = rw (← en, lt-ltb n 16 (omega arith)) (u.so_far ∙ ap (key_upto p k) (same u.inside))
    where
      same : i ≤ n → i ≡ n
      same l = omega arith

  pub key_done : 16 ≤ i → key ≡ name_key p k
  unfolding name_key key_bytes
  key_done le = rw (← en, le-ltb n 16 (many u.inside)) (u.so_far ∙ ap (key_upto p k) (full u.few))
    where
      many : i ≤ n → 16 ≤ n
      many l = omega arith

      full : i ≤ 16 → i ≡ 16
      full l = omega arith

-- ---- spell

pub record Spelling (p : List ℕ) (k n i : ℕ) (ok : Bool) (key : ℕ) : Type 0 where
  pub keyed : KeyUpto p k n i key
  pub bytes : Upto (name_byte_ok p k) 16 i ok

pub spelling_start : (p : List ℕ) (k n : ℕ) → n ≡ name_length p k → Spelling p k n 0 true (n % 65536)
spelling_start p k n e = record { keyed = key_start p k n e; bytes = upto_start (name_byte_ok p k) 16 }

module _ (p : List ℕ) (k n i : ℕ) (ok : Bool) (key : ℕ) (u : Spelling p k n i ok key) (en : n ≡ name_length p k) where
  pub spelling_again : (b : ℕ) → i < 16 → i < n → b ≡ name_byte p k i → Spelling p k n (i + 1) (ok && ltb b 256) (key % 16777216 * 37 + b % 65536)
  unfolding name_byte_ok
  spelling_again b lt below e = record {
    keyed = key_again p k n i key u.keyed en b lt below e;
    bytes = upto_again (name_byte_ok p k) 16 i ok (ltb b 256) u.bytes lt (rw (← e, ← en, lt-leb n i below) (or_false (ltb b 256)));
  }
    where
      or_false : (t : Bool) → t ≡ t || false
      or_false true = refl
      or_false false = refl

  pub plain_end : n ≤ i → ok ≡ name_bytes_ok p k
  plain_end le = name_bytes_end p k n i ok u.bytes en le

  pub plain_done : 16 ≤ i → ok ≡ name_bytes_ok p k
  unfolding name_bytes_ok
  plain_done le = upto_done (name_byte_ok p k) 16 i ok u.bytes le

  pub spelled_end : i < 16 → n ≤ i → key ≡ name_key p k
  spelled_end lt le = key_end p k n i key u.keyed en lt le

  pub spelled_done : 16 ≤ i → key ≡ name_key p k
  spelled_done le = key_done p k n i key u.keyed en le

-- ---- The same name has the same key

or_first : (a b : Bool) → a || b ≡ true → b ≡ false → a ≡ true
or_first true b e f = refl
or_first false b e f = absurd (false≢true (sym f ∙ e))

module _ (p : List ℕ) (k j : ℕ) (el : name_length p k ≡ name_length p j) (eb : same_bytes p k j ≡ true) where
  same_here : (i : ℕ) → i < 16 → i < name_length p k → name_byte p k i ≡ name_byte p j i
  unfolding same_bytes same_byte
  same_here i lt below =
      eqb-true (name_byte p k i) (name_byte p j i)
      (or_first (eqb (name_byte p k i) (name_byte p j i)) (leb (name_length p k) i) (all_means (same_byte p k j) 16 eb i lt) (lt-leb (name_length p k) i below))

  same_upto : (i : ℕ) → i ≤ 16 → i ≤ name_length p k → key_upto p k i ≡ key_upto p j i
  unfolding key_upto
  same_upto zero a b = ap (λ (n : ℕ). n % 65536) el
  same_upto (suc i) a b = rw (same_upto i (omega arith) (omega arith), same_here i (omega arith) (omega arith))

  bytes_read : (n : ℕ) → n ≡ name_length p k → (t : Bool) → ltb n 16 ≡ t → name_key p k ≡ name_key p j
  unfolding name_key key_bytes
  bytes_read n en true e = rw (← el, ← en, e) (same_upto n (below n e) (omega (arith, en)))
    where
      below : (m : ℕ) → ltb m 16 ≡ true → m ≤ 16
      below m q = go (dec_lt m 16)
        where
          go : Dec (m < 16) → m ≤ 16
          go (yes l) = omega arith
          go (no l) = absurd (false≢true (sym (le-ltb m 16 (omega arith)) ∙ q))
  bytes_read n en false e = rw (← el, ← en, e) (same_upto 16 (omega arith) (above n en e))
    where
      above : (m : ℕ) → m ≡ name_length p k → ltb m 16 ≡ false → 16 ≤ name_length p k
      above m em q = go (dec_lt m 16)
        where
          go : Dec (m < 16) → 16 ≤ name_length p k
          go (yes l) = absurd (false≢true (sym q ∙ lt-ltb m 16 l))
          go (no l) = omega (arith, em)

  same_key : name_key p k ≡ name_key p j
  same_key = bytes_read (name_length p k) refl (ltb (name_length p k) 16) refl

keys_differ : (p : List ℕ) (k j : ℕ) → (name_key p k ≡ name_key p j → ⊥) → names_differ p k j ≡ true
unfolding names_differ
keys_differ p k j ne =
    both_not (eqb (name_length p k) (name_length p j)) (same_bytes p k j) (λ el eb. ne (same_key p k j (eqb-true (name_length p k) (name_length p j) el) eb))

-- ---- The keys of the names before k

pub record Keyed (p : List ℕ) (k : ℕ) (keys : List ℕ) : Type 0 where
  pub size : length keys ≡ 128
  pub here : (j : ℕ) → j < k → j < 128 → word keys j ≡ name_key p j

pub record KeyedNames (p : List ℕ) (n k : ℕ) (keys : List ℕ) (ok : Bool) : Type 0 where
  pub keyed : Keyed p k keys
  pub upto : Upto (name_ok p) n k ok

pub keyed_start : (p : List ℕ) (n : ℕ) → KeyedNames p n 0 (replicate 128 0) true
keyed_start p n = record { keyed = record { size = refl; here = λ j lt few. none j lt }; upto = upto_start (name_ok p) n }
  where
    none : (j : ℕ) → j < 0 → word (replicate 128 0) j ≡ name_key p j
    none j lt = absurd (omega arith)

-- where all keys are other keys, all names are other names
keys_new : (p : List ℕ) (k : ℕ) (keys : List ℕ) → Keyed p k keys → k ≤ 128 → other_keys keys k (name_key p k) ≡ true → new_name p k ≡ true
unfolding new_name other_keys other_key
keys_new p k keys u le e =
    all_if (names_differ p k) k
    (λ j lt. keys_differ p k j (λ same. not_eq (word keys j) (name_key p k) (all_means (other_key keys (name_key p k)) k e j lt) (u.here j lt (omega arith) ∙ sym same)))

new_by_keys : (p : List ℕ) (k x : ℕ) (keys : List ℕ) → Keyed p k keys → x ≡ name_key p k → is_new p keys k x ≡ new_name p k
unfolding is_new
new_by_keys p k x keys u ex = go (leb k 128 && other_keys keys k x) refl
  where
    go : (b : Bool) → leb k 128 && other_keys keys k x ≡ b → b || new_name p k ≡ new_name p k
    go false e = refl
    go true e =
        let s = split2 (leb k 128) (other_keys keys k x) e in
        sym (keys_new p k keys u (leb-true k 128 s.0) (rw ex at s.1))

module _ (p : List ℕ) (n k : ℕ) (keys : List ℕ) (ok : Bool) (u : KeyedNames p n k keys ok) where
  more_keys : (keys' : List ℕ) (a x : ℕ) → a ≡ k → x ≡ name_key p k → keys' ≡ set_word keys a x → Keyed p (k + 1) keys'
  more_keys keys' a x ea ex g = record { size = ap length g ∙ set_size keys a x ∙ u.keyed.size; here = λ j lt few. ap (λ (m : List ℕ). word m j) (g ∙ ap (λ (i : ℕ). set_word keys i x) ea) ∙ read j lt few (ℕ_discrete j k) }
    where
      read : (j : ℕ) → j < k + 1 → j < 128 → Dec (j ≡ k) → word (set_word keys k x) j ≡ name_key p j
      read j lt few (yes e) =
          ap (word (set_word keys k x)) e ∙ word_same keys k x (omega (arith, u.keyed.size)) ∙ ex ∙ ap (name_key p) (sym e)
      read j lt few (no ne) = word_other keys k j x (name_key p j) ne (u.keyed.here j (omega arith) few)

  pub keyed_again : (keys' : List ℕ) (a x : ℕ) (plain b : Bool) → k < n → plain ≡ name_bytes_ok p k → x ≡ name_key p k → b ≡ name_ok_by p keys k plain x → a ≡ k
      → keys' ≡ set_word keys a x → KeyedNames p n (k + 1) keys' (ok && b)
  unfolding name_ok name_ok_by
  keyed_again keys' a x plain b lt ep ex eb ea g = record {
    keyed = more_keys keys' a x ea ex g;
    upto = upto_again (name_ok p) n k ok b u.upto lt (rw (new_by_keys p k x keys u.keyed ex, ep) at eb);
  }

  pub keyed_done : n ≤ k → n ≡ names p → ok ≡ names_ok p
  unfolding names_ok
  keyed_done le e = upto_end (name_ok p) n (names p) k ok u.upto le e

-- ---- other_keys, is_new

pub other_again : (keys : List ℕ) (n x j w : ℕ) (ok : Bool) → Upto (other_key keys x) n j ok → j < n → w ≡ word keys j → Upto (other_key keys x) n (j + 1) (ok && not (eqb w x))
unfolding other_key
other_again keys n x j w ok u lt e = upto_again (other_key keys x) n j ok (not (eqb w x)) u lt (rw e)

module _ (p keys : List ℕ) (k x : ℕ) where
  pub new_far : 128 < k → (r : Bool) → r ≡ new_name p k → r ≡ is_new p keys k x
  unfolding is_new
  new_far lt r e = rw (lt-leb k 128 lt) e

  module _ (le : k ≤ 128) (n : ℕ) (en : n ≡ k) (b : Bool) (eb : b ≡ other_keys keys n x) where
    pub new_key : b ≡ true → true ≡ is_new p keys k x
    unfolding is_new
    new_key e = rw (le-leb k 128 le, ← (eb ∙ ap (λ (m : ℕ). other_keys keys m x) en), e)

    pub new_compared : b ≡ false → (r : Bool) → r ≡ new_name p k → r ≡ is_new p keys k x
    unfolding is_new
    new_compared e r er = rw (le-leb k 128 le, ← (eb ∙ ap (λ (m : ℕ). other_keys keys m x) en), e) er
