-- What a splice keeps and what it writes, and a loop that writes one (copy, and write_words::copy_words). Assumes nothing.
use Prim.Native.Nat.{ℕ, suc, ◌+◌, ◌-◌, ◌≤◌, ◌<◌}
use mathlib.Core.Path.{◌≡◌, refl, ◌∙◌, ap, sym}
use mathlib.Core.List.{List, [], ◌∷◌, ◌++◌}
use native.Mathlib.Omega.{arith}
use native.Mathlib.Numerals.{add-one}
use lib.ListN.{length, get_or, set, take, drop, length-set, drop_of_length-le, take-append-drop}
use lib.Seq.{length-take-le, drop-cons, set_out, length-sets, sets-eq}
use Rattle.splice.specs.Splice.{splice}

-- ---- What callers cite

pub splice_length : (m : List ℕ) (at : ℕ) (bs : List ℕ) → length (splice m at bs) ≡ length m
unfolding splice
splice_length m at bs = length-sets m at bs

-- where it fits: what stands before, the bytes, and what stands behind
pub splice_fits : (m : List ℕ) (at : ℕ) (bs : List ℕ) → at + length bs ≤ length m → splice m at bs ≡ take at m ++ bs ++ drop (at + length bs) m
unfolding splice
splice_fits m at bs le = sets-eq bs m at le

pub splice_past : (m : List ℕ) (at : ℕ) (bs : List ℕ) → length m ≤ at → splice m at bs ≡ m
unfolding splice
splice_past m at [] le = refl
splice_past m at (b ∷ bs) le = rw (set_out m at b le) (splice_past m (suc at) bs (omega arith))

-- one part after the other
pub splice_append : (m : List ℕ) (at : ℕ) (cs bs : List ℕ) → splice m at (cs ++ bs) ≡ splice (splice m at cs) (at + length cs) bs
unfolding splice
splice_append m at [] bs = ap (λ (k : ℕ). splice m k bs) (zero_more at)
  where
    zero_more : (k : ℕ) → k ≡ k + 0
    zero_more k = omega arith
splice_append m at (a ∷ cs) bs = splice_append (set m at a) (suc at) cs bs ∙ ap (λ (k : ℕ). splice (splice (set m at a) (suc at) cs) k bs) (one_more at (length cs))
  where
    one_more : (k n : ℕ) → suc k + n ≡ k + suc n
    one_more k n = omega arith

-- what is past the buffer's end is dropped
pub splice_front : (m : List ℕ) (at : ℕ) (bs : List ℕ) → at ≤ length m → length m - at < length bs → splice m at (take (length m - at) bs) ≡ splice m at bs
splice_front m at bs le lt =
    let k = length m - at in
    let n : length (take k bs) ≡ k = length-take-le k bs (omega arith) in
    let z = splice_length m at (take k bs) in
    sym
    (ap (splice m at) (sym (take-append-drop k bs)) ∙ splice_append m at (take k bs) (drop k bs)
    ∙ splice_past (splice m at (take k bs)) (at + length (take k bs)) (drop k bs) (omega arith))

-- ---- A loop that writes byte by byte: what is left to write from i on gives the whole

pub record Writing (m : List ℕ) (at : ℕ) (s now : List ℕ) (i : ℕ) : Type 0 where
  pub inside : i ≤ length s
  pub size : length now ≡ length m
  pub rest : splice now (at + i) (drop i s) ≡ splice m at s

pub writing_start : (m : List ℕ) (at : ℕ) (s : List ℕ) → Writing m at s m 0
writing_start m at s = record { inside = omega arith; size = refl; rest = ap (λ (k : ℕ). splice m k s) {x = at + 0} {y = at} (omega arith) }

module _ (m : List ℕ) (at : ℕ) (s now : List ℕ) (i : ℕ) (a : Writing m at s now i) where
  pub writing_done : length s ≤ i → now ≡ splice m at s
  unfolding splice
  writing_done le = rw (drop_of_length-le s {i = i} le) at a.rest

  pub writing_again : i < length s → Writing m at s (set now (at + i) (get_or s i 0)) (i + 1)
  unfolding splice
  writing_again lt =
      let q : suc (at + i) ≡ at + (i + 1) = omega arith in
      record {
        inside = omega arith;
        size = length-set now (at + i) (get_or s i 0) ∙ a.size;
        rest = rw (← q, add-one i) (rw (drop-cons s i 0 lt) at a.rest);
      }

-- ---- write

pub write_past : (m : List ℕ) (at : ℕ) (s : List ℕ) → length m < at → m ≡ splice m at s
write_past m at s lt = sym (splice_past m at s (omega arith))

pub front_size : (n : ℕ) (s : List ℕ) → n < length s → n ≡ length (take n s)
front_size n s lt = sym (length-take-le n s (omega arith))

pub front_fits : (m : List ℕ) (at : ℕ) (s : List ℕ) → at ≤ length m → length m - at < length s → at + length (take (length m - at) s) ≤ length m
front_fits m at s le lt = let e = front_size (length m - at) s lt in omega arith

pub write_front : (m m' : List ℕ) (at : ℕ) (s : List ℕ) → at ≤ length m → length m - at < length s → m' ≡ splice m at (take (length m - at) s) → m' ≡ splice m at s
write_front m m' at s le lt e = e ∙ splice_front m at s le lt
