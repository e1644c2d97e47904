-- The tests of `Tests` decide `Form`: a test is true exactly when what it tests holds. Assumes nothing.
use mathlib.Core.Path.{◌≡◌, refl}
use mathlib.Core.Bool.{Bool, true, false, ◌&&◌, ◌||◌}
use mathlib.Core.List.{List}
use Prim.Native.Nat.{ℕ, ◌≤◌, ◌<◌}
use native.Mathlib.Omega.{arith}
use native.Mathlib.Decide.{dec_lt}
use lib.Dec.{eqb, ltb, leb}
use borrow.Author.Tests.{eq-eqb, eqb-true, ltb-true, leb-true, le-leb, lt-ltb}
use Rattle.words.proofs.Laws.{all_means, all_if}
use Rattle.framed.specs.Bytes.{string_byte}
use Rattle.tables.proofs.Bools.{split2, split3, split4, or_left, or_right, not_both, both_not}
use Rattle.tables.specs.Fields.{frame_limit, text_limit, names, literals, expressions, instructions, codes, path_names, start}
use Rattle.tables.specs.Fields.{name_length, name_byte, literal_length, literal_byte}
use Rattle.program_names.specs.Form.{Limits, SameName, Name, Literal, Texts}
use Rattle.program_names.specs.Tests.{limits_ok, name_byte_ok, name_bytes_ok, same_byte, same_bytes, names_differ, new_name, name_ok, names_ok}
use Rattle.program_names.specs.Tests.{literal_byte_ok, literal_bytes_ok, literal_ok, literals_ok, path_name_ok, path_names_ok, texts_ok}

-- ---- Limits

pub limits_mean : (p : List ℕ) → limits_ok p ≡ true → Limits p
unfolding limits_ok
limits_mean p e =
    let t = leb 3 (frame_limit p) && leb (frame_limit p) 256 && leb (text_limit p) 256 && leb (names p) 128 in
    let u = split4 (t && leb (literals p) 128 && leb (expressions p) 1024 && leb (instructions p) 512) (leb (codes p) 128) (leb (path_names p) 2048) (ltb (start p) (codes p)) e in
    let v = split4 t (leb (literals p) 128) (leb (expressions p) 1024) (leb (instructions p) 512) u.0 in
    let w = split4 (leb 3 (frame_limit p)) (leb (frame_limit p) 256) (leb (text_limit p) 256) (leb (names p) 128) v.0 in
    record {
      F_least = leb-true _ _ w.0;
      F_most = leb-true _ _ w.1;
      T_most = leb-true _ _ w.2;
      names_most = leb-true _ _ w.3;
      literals_most = leb-true _ _ v.1;
      expressions_most = leb-true _ _ v.2;
      instructions_most = leb-true _ _ v.3;
      codes_most = leb-true _ _ u.1;
      path_names_most = leb-true _ _ u.2;
      start_there = ltb-true _ _ u.3;
    }

pub limits_back : (p : List ℕ) → Limits p → limits_ok p ≡ true
unfolding limits_ok
limits_back p w =
    rw (le-leb _ _ w.F_least, le-leb _ _ w.F_most, le-leb _ _ w.T_most, le-leb _ _ w.names_most, le-leb _ _ w.literals_most, le-leb _ _ w.expressions_most, le-leb _ _ w.instructions_most, le-leb _ _ w.codes_most, le-leb _ _ w.path_names_most, lt-ltb _ _ w.start_there)

-- ---- A test of the bytes below a length

within : (a : Bool) (n i : ℕ) → a || leb n i ≡ true → i < n → a ≡ true
within true n i e lt = refl
within false n i e lt = absurd (omega (arith, leb-true n i e))

from_within : (a : Bool) (n i : ℕ) → (i < n → a ≡ true) → a || leb n i ≡ true
from_within a n i f = go (dec_lt i n)
  where
    go : Dec (i < n) → a || leb n i ≡ true
    go (yes lt) = or_left a (leb n i) (f lt)
    go (no ge) = or_right a (leb n i) (le-leb n i (omega arith))

-- ---- Names

module _ (p : List ℕ) (k j : ℕ) (m : name_length p k ≤ 16) where
  same_means : names_differ p k j ≡ true → SameName p k j → ⊥
  unfolding names_differ same_bytes same_byte
  same_means d s =
      not_both (eqb (name_length p k) (name_length p j)) (same_bytes p k j) d (eq-eqb _ _ s.lengths)
      (all_if (same_byte p k j) 16 (λ i lt. from_within (eqb (name_byte p k i) (name_byte p j i)) (name_length p k) i (λ l. eq-eqb _ _ (s.bytes i l))))

  same_back : (SameName p k j → ⊥) → names_differ p k j ≡ true
  unfolding names_differ same_bytes same_byte
  same_back f =
      both_not (eqb (name_length p k) (name_length p j)) (same_bytes p k j)
      (λ e b. f (record {
        lengths = eqb-true _ _ e;
        bytes = λ i lt. eqb-true _ _ (within (eqb (name_byte p k i) (name_byte p j i)) (name_length p k) i (all_means (same_byte p k j) 16 b i (omega arith)) lt);
      }))

name_means : (p : List ℕ) (k : ℕ) → name_ok p k ≡ true → Name p k
unfolding name_ok name_bytes_ok name_byte_ok new_name
name_means p k e =
    let s = split4 (leb 1 (name_length p k)) (leb (name_length p k) 16) (name_bytes_ok p k) (new_name p k) e in
    let m : name_length p k ≤ 16 = leb-true _ _ s.1 in
    record {
      least = leb-true _ _ s.0;
      most = m;
      bytes = λ i lt. ltb-true _ _ (within (ltb (name_byte p k i) 256) (name_length p k) i (all_means (name_byte_ok p k) 16 s.2 i (omega arith)) lt);
      new = λ j lt. same_means p k j m (all_means (names_differ p k) k s.3 j lt);
    }

name_back : (p : List ℕ) (k : ℕ) → Name p k → name_ok p k ≡ true
unfolding name_ok name_bytes_ok name_byte_ok new_name
name_back p k n =
    let b : name_bytes_ok p k ≡ true = all_if (name_byte_ok p k) 16 (λ i lt. from_within (ltb (name_byte p k i) 256) (name_length p k) i (λ l. lt-ltb _ _ (n.bytes i l))) in
    let w : new_name p k ≡ true = all_if (names_differ p k) k (λ j lt. same_back p k j n.most (n.new j lt)) in
    rw (le-leb _ _ n.least, le-leb _ _ n.most, b, w)

-- ---- Literals

literal_means : (p l : List ℕ) (k : ℕ) → literal_ok p l k ≡ true → Literal p l k
unfolding literal_ok literal_bytes_ok literal_byte_ok
literal_means p l k e =
    let s = split2 (leb (literal_length p k) 64) (literal_bytes_ok p l k) e in
    let m : literal_length p k ≤ 64 = leb-true _ _ s.0 in
    record {
      most = m;
      bytes = λ i lt. within (string_byte (literal_byte l k i)) (literal_length p k) i (all_means (literal_byte_ok p l k) 64 s.1 i (omega arith)) lt;
    }

literal_back : (p l : List ℕ) (k : ℕ) → Literal p l k → literal_ok p l k ≡ true
unfolding literal_ok literal_bytes_ok literal_byte_ok
literal_back p l k n =
    let b : literal_bytes_ok p l k ≡ true = all_if (literal_byte_ok p l k) 64 (λ i lt. from_within (string_byte (literal_byte l k i)) (literal_length p k) i (n.bytes i)) in
    rw (le-leb _ _ n.most, b)

-- ---- All of it

pub texts_mean : (p l : List ℕ) → texts_ok p l ≡ true → Texts p l
unfolding texts_ok names_ok literals_ok path_names_ok path_name_ok
texts_mean p l e =
    let s = split3 (names_ok p) (literals_ok p l) (path_names_ok p) e in
    record {
      name = λ k lt. name_means p k (all_means (name_ok p) (names p) s.0 k lt);
      literal = λ k lt. literal_means p l k (all_means (literal_ok p l) (literals p) s.1 k lt);
      path_name_there = λ j lt. ltb-true _ _ (all_means (path_name_ok p) (path_names p) s.2 j lt);
    }

pub texts_back : (p l : List ℕ) → Texts p l → texts_ok p l ≡ true
unfolding texts_ok names_ok literals_ok path_names_ok path_name_ok
texts_back p l w =
    let n : names_ok p ≡ true = all_if (name_ok p) (names p) (λ k lt. name_back p k (w.name k lt)) in
    let t : literals_ok p l ≡ true = all_if (literal_ok p l) (literals p) (λ k lt. literal_back p l k (w.literal k lt)) in
    let j : path_names_ok p ≡ true = all_if (path_name_ok p) (path_names p) (λ j lt. lt-ltb _ _ (w.path_name_there j lt)) in
    rw (n, t, j)
