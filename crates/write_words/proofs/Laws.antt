-- Appending one part after the other, in a row and in a loop, and nothing once the text is past its limit. Assumes nothing.
use mathlib.Core.Path.{◌≡◌, refl, ◌∙◌, ap, sym}
use mathlib.Core.List.{List, [], ◌++◌}
use Prim.Native.Nat.{ℕ, min, ◌+◌, ◌-◌, ◌^◌, ◌≤◌, ◌<◌}
use native.Mathlib.Omega.{arith}
use native.Mathlib.Decide.{dec_le}
use lib.ListN.{length, length-append}
use borrow.Author.Tests.{le-leb, lt-leb}
use Rattle.splice.specs.Splice.{splice}
use Rattle.splice.proofs.Laws.{splice_length, splice_past, splice_append}
use Rattle.write_words.specs.Appending.{capped, CanAppend, Appended}

pub capped_fits : (limit n : ℕ) → n ≤ limit → capped limit n ≡ n
unfolding capped
capped_fits limit n le = rw (le-leb n limit le)

pub capped_past : (limit n : ℕ) → limit < n → capped limit n ≡ limit + 1
unfolding capped
capped_past limit n lt = rw (lt-leb n limit lt)

capped_most : (limit n : ℕ) → capped limit n ≤ limit + 1
capped_most limit n = go (dec_le n limit)
  where
    go : Dec (n ≤ limit) → capped limit n ≤ limit + 1
    go (yes le) = let e = capped_fits limit n le in omega arith
    go (no lt) = let e = capped_past limit n (omega arith) in omega arith

module _ {m m₁ : List ℕ} {limit at r₁ : ℕ} {bs : List ℕ} (can : CanAppend m limit at) (x : Appended m limit at bs m₁ r₁) where
  -- the next may be appended
  pub can_append : CanAppend m₁ limit r₁
  can_append =
      let e : length m₁ ≡ length m = ap length x.buffer ∙ splice_length m at bs in
      let i = can.inside in
      let c = capped_most limit (at + length bs) in
      let n = x.next in
      record { inside = omega arith; position = omega arith; small = can.small }

  -- one part after the other
  pub appended_then : {m₂ cs : List ℕ} {r₂ : ℕ} → Appended m₁ limit r₁ cs m₂ r₂ → Appended m limit at (bs ++ cs) m₂ r₂
  appended_then {m₂} {cs} {r₂} y = go (dec_le (at + length bs) limit)
    where
      long : length (bs ++ cs) ≡ length bs + length cs
      long = length-append bs cs

      written : splice m₁ (at + length bs) cs ≡ splice m at (bs ++ cs)
      written = ap (λ (l : List ℕ). splice l (at + length bs) cs) x.buffer ∙ sym (splice_append m at bs cs)

      go : Dec (at + length bs ≤ limit) → Appended m limit at (bs ++ cs) m₂ r₂
      go (yes le) =
          let e : r₁ ≡ at + length bs = x.next ∙ capped_fits limit (at + length bs) le in
          let f : r₁ + length cs ≡ at + length (bs ++ cs) = omega (arith, long) in
          record {
            buffer = y.buffer ∙ ap (λ (k : ℕ). splice m₁ k cs) e ∙ written;
            next = y.next ∙ ap (capped limit) f;
          }
      go (no lt) =
          let e : r₁ ≡ limit + 1 = x.next ∙ capped_past limit (at + length bs) (omega arith) in
          let s : length m₁ ≡ length m = ap length x.buffer ∙ splice_length m at bs in
          let i = can.inside in
          record {
            buffer = y.buffer ∙ splice_past m₁ r₁ cs (omega arith) ∙ sym (splice_past m₁ (at + length bs) cs (omega arith)) ∙ written;
            next = y.next ∙ capped_past limit (r₁ + length cs) (omega arith) ∙ sym (capped_past limit (at + length (bs ++ cs)) (omega (arith, long)));
          }

-- past the limit nothing is walked
pub appended_past : (m : List ℕ) (limit at : ℕ) (bs : List ℕ) → CanAppend m limit at → limit < at → Appended m limit at bs m at
appended_past m limit at bs can lt =
    let i = can.inside in
    let q = can.position in
    let e : at ≡ limit + 1 = omega arith in
    record {
      buffer = sym (splice_past m at bs (omega arith));
      next = e ∙ sym (capped_past limit (at + length bs) (omega arith));
    }

pub moved_is : (limit at n s r : ℕ) → limit < 2 ^ 63 → s ≡ min (at + n) (2 ^ 64 - 1) → r ≡ min s (limit + 1) → r ≡ capped limit (at + n)
moved_is limit at n s r small es er = go (dec_le (at + n) limit)
  where
    go : Dec (at + n ≤ limit) → r ≡ capped limit (at + n)
    go (yes le) = let c = capped_fits limit (at + n) le in omega arith
    go (no lt) = let c = capped_past limit (at + n) (omega arith) in omega arith

-- ---- A loop that appends: what it appended so far

pub record Grown (m₀ : List ℕ) (limit at : ℕ) (bs m : List ℕ) (b : ℕ) : Type 0 where
  pub size : length m ≡ length m₀
  pub first : CanAppend m₀ limit at
  pub can : CanAppend m limit b
  pub done : Appended m₀ limit at bs m b

pub grown_none : (m : List ℕ) (limit at : ℕ) → CanAppend m limit at → Grown m limit at [] m at
unfolding splice
grown_none m limit at can = record { size = refl; first = can; can = can; done = record { buffer = refl; next = go (dec_le at limit) } }
  where
    go : Dec (at ≤ limit) → at ≡ capped limit (at + 0)
    go (yes le) = let e = capped_fits limit (at + 0) (omega arith) in omega arith
    go (no lt) = let q = can.position in let e = capped_past limit (at + 0) (omega arith) in omega arith

pub grown_then : {m₀ m m' bs cs : List ℕ} {limit at b r : ℕ} → Grown m₀ limit at bs m b → Appended m limit b cs m' r → Grown m₀ limit at (bs ++ cs) m' r
grown_then {m = m} {cs = cs} {b = b} g x = record {
  size = ap length x.buffer ∙ splice_length m b cs ∙ g.size;
  first = g.first;
  can = can_append g.can x;
  done = appended_then g.first g.done x;
}
