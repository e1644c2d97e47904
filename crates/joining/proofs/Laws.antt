-- One law for each way through the functions of this crate. Assumes nothing.
use Prim.Native.Nat.{ℕ, ◌+◌, ◌≤◌, ◌<◌}
use mathlib.Core.Path.{◌≡◌, ◌∙◌, ap, sym}
use mathlib.Core.List.{List}
use native.Mathlib.Omega.{arith}
use lib.ListN.{length, take, drop, length-append}
use lib.Seq.{take_at, length-take-le}
use borrow.Author.Tests.{lt-ltb, le-ltb}
use Rattle.framed.specs.declared.Value.{Value}
use Rattle.framed.specs.Values.{shown, join_bytes}
use Rattle.heap.specs.Held.{texts_held}
use Rattle.splice.specs.Splice.{splice}
use Rattle.splice.proofs.Laws.{splice_append, splice_fits}
use Rattle.texts.specs.Literals.{literals_held}
use Rattle.shown.specs.Shown.{shown_size}
use Rattle.shown.proofs.Laws.{shown_size_is}
use Rattle.joining.specs.Joining.{join_end}

-- join_end
module _ (p h : List ℕ) (v w : Value) (m n i j : ℕ) (em : m ≡ shown_size p h v) (en : n ≡ shown_size p h w) (ei : i ≡ m) (ej : j ≡ n) where
  pub end_long : 64 < i + j → 34 ≡ join_end p h v w
  unfolding join_end
  end_long lt = rw (lt-ltb 64 (shown_size p h v + shown_size p h w) (omega arith))

  pub end_none : i + j ≤ 64 → 0 ≡ join_end p h v w
  unfolding join_end
  end_none le = rw (le-ltb 64 (shown_size p h v + shown_size p h w) (omega arith))

pub join_length : (p l h t : List ℕ) (v w : Value) → length (join_bytes (literals_held p l) (texts_held h t) v w) ≡ shown_size p h v + shown_size p h w
unfolding join_bytes
join_length p l h t v w =
    length-append (shown (literals_held p l) (texts_held h t) v) (shown (literals_held p l) (texts_held h t) w)
    ∙ ap (λ (n : ℕ). n + length (shown (literals_held p l) (texts_held h t) w)) (shown_size_is p l h t v)
    ∙ ap (λ (n : ℕ). shown_size p h v + n) (shown_size_is p l h t w)

-- fill_join
module _ (p l h t : List ℕ) (v w : Value) (a : ℕ) (ea : a ≡ shown_size p h v) where
  pub filled : (m m' m'' : List ℕ) → m' ≡ splice m 0 (shown (literals_held p l) (texts_held h t) v)
      → m'' ≡ splice m' a (shown (literals_held p l) (texts_held h t) w) → m'' ≡ splice m 0 (join_bytes (literals_held p l) (texts_held h t) v w)
  unfolding join_bytes
  filled m m' m'' e q =
      let s = shown_size_is p l h t v in
      let z : a ≡ 0 + length (shown (literals_held p l) (texts_held h t) v) = omega arith in
      q ∙ ap (λ (x : List ℕ). splice x a (shown (literals_held p l) (texts_held h t) w)) e
      ∙ ap (λ (j : ℕ). splice (splice m 0 (shown (literals_held p l) (texts_held h t) v)) j (shown (literals_held p l) (texts_held h t) w)) z
      ∙ sym (splice_append m 0 (shown (literals_held p l) (texts_held h t) v) (shown (literals_held p l) (texts_held h t) w))

  pub filled_size : (b : ℕ) → b ≡ shown_size p h w → a + b ≡ shown_size p h v + shown_size p h w
  filled_size b eb = rw (ea, eb)

-- the front of a buffer of 64 bytes: its size, and what it is where the buffer was filled
pub front_size : (n : ℕ) (m : List ℕ) → n ≤ 64 → length m ≡ 64 → n ≡ length (take n m)
front_size n m le size = sym (length-take-le n m (omega arith))

pub filled_front : (p l h t : List ℕ) (v w : Value) (n : ℕ) → n ≡ shown_size p h v + shown_size p h w → n ≤ 64
    → (m m' : List ℕ) → length m ≡ 64 → m' ≡ splice m 0 (join_bytes (literals_held p l) (texts_held h t) v w) → take n m' ≡ join_bytes (literals_held p l) (texts_held h t) v w
filled_front p l h t v w n en le m m' size e =
    let j = join_length p l h t v w in
    rw (e, splice_fits m 0 (join_bytes (literals_held p l) (texts_held h t) v w) (omega arith))
    (take_at (join_bytes (literals_held p l) (texts_held h t) v w) (drop (0 + length (join_bytes (literals_held p l) (texts_held h t) v w)) m) n (omega arith))
