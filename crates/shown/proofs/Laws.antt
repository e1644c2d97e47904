-- One law for each way through the functions of this crate. Assumes nothing.
use Prim.Native.Nat.{ℕ, ◌-◌}
use mathlib.Core.Path.{◌≡◌, refl, ◌∙◌, ap}
use mathlib.Core.List.{List, [], ◌∷◌}
use lib.IntN.{ℤ}
use lib.ListN.{length, take, drop}
use Rattle.framed.specs.declared.Text.{Text}
use Rattle.framed.specs.declared.Value.{Value}
use Rattle.framed.specs.Common.{bytes}
use Rattle.framed.specs.Values.{decimal, text_bytes, shown}
use Rattle.decimal.specs.Decimal.{Holds}
use Rattle.decimal.proofs.Laws.{held_bytes}
use Rattle.splice.specs.Splice.{splice}
use Rattle.texts.specs.Texts.{text_size}
use Rattle.texts.specs.Literals.{literals_held}
use Rattle.texts.proofs.Laws.{text_size_is}
use Rattle.heap.specs.Held.{texts_held}
use Rattle.shown.specs.Shown.{shown_size}

-- write_integer
module _ (y z : ℤ) (bs : List ℕ) (start : ℕ) (a : Holds 0 bs start (decimal y)) (e : y ≡ z) where
  digits_are : take (11 - start) (drop start bs) ≡ decimal z
  digits_are = held_bytes 0 bs start (decimal y) a ∙ ap decimal e

  pub digits_written : (m m' : List ℕ) (at : ℕ) → m' ≡ splice m at (take (11 - start) (drop start bs)) → m' ≡ splice m at (decimal z)
  digits_written m m' at q = rw q (ap (splice m at) digits_are)

  pub digits_size : (r : ℕ) → r ≡ length (take (11 - start) (drop start bs)) → r ≡ length (decimal z)
  digits_size r q = q ∙ ap length digits_are

-- shown_size, and the answer of write_shown
module _ (p h : List ℕ) (v : Value) where
  pub size_int : (y z : ℤ) (r : ℕ) → v ≡ Value.Int z → r ≡ length (decimal y) → y ≡ z → r ≡ shown_size p h v
  unfolding shown_size
  size_int y z r ev e ey = rw (ev, e, ey)

  pub size_text : (x : Text) (r : ℕ) → v ≡ Value.Text x → r ≡ text_size p h x → r ≡ shown_size p h v
  unfolding shown_size
  size_text x r ev e = rw (ev, e)

  pub size_code : (k r : ℕ) → v ≡ Value.Code k → r ≡ 4 → r ≡ shown_size p h v
  unfolding shown_size
  size_code k r ev e = rw (ev, e)

  pub size_frame : (n r : ℕ) → v ≡ Value.Frame n → r ≡ 5 → r ≡ shown_size p h v
  unfolding shown_size
  size_frame n r ev e = rw (ev, e)

  -- by the bytes of the text
  pub size_bytes : (l t : List ℕ) (x : Text) (bs : List ℕ) (r : ℕ) → v ≡ Value.Text x → bs ≡ text_bytes (literals_held p l) (texts_held h t) x → r ≡ length bs → r ≡ shown_size p h v
  size_bytes l t x bs r ev eb er = size_text x r ev (er ∙ ap length eb ∙ text_size_is p l h t x)

-- it is the number of the bytes shown
pub shown_size_is : (p l h t : List ℕ) (v : Value) → length (shown (literals_held p l) (texts_held h t) v) ≡ shown_size p h v
unfolding shown shown_size bytes
shown_size_is p l h t (Value.Int z) = refl
shown_size_is p l h t (Value.Text x) = text_size_is p l h t x
shown_size_is p l h t (Value.Code k) = refl
shown_size_is p l h t (Value.Frame n) = refl

-- write_shown
module _ (lits made : List (List ℕ)) (v : Value) (m m' : List ℕ) (at : ℕ) where
  pub shows_int : (y z : ℤ) → v ≡ Value.Int z → m' ≡ splice m at (decimal y) → y ≡ z → m' ≡ splice m at (shown lits made v)
  unfolding shown
  shows_int y z ev e ey = rw (ev, e, ey)

  pub shows_text : (x : Text) (bs : List ℕ) → v ≡ Value.Text x → bs ≡ text_bytes lits made x → m' ≡ splice m at bs → m' ≡ splice m at (shown lits made v)
  unfolding shown
  shows_text x bs ev eb e = rw (ev, e, eb)

  pub shows_code : (k : ℕ) → v ≡ Value.Code k → m' ≡ splice m at (99 ∷ 111 ∷ 100 ∷ 101 ∷ []) → m' ≡ splice m at (shown lits made v)
  unfolding shown bytes
  shows_code k ev e = rw (ev, e)

  pub shows_frame : (n : ℕ) → v ≡ Value.Frame n → m' ≡ splice m at (102 ∷ 114 ∷ 97 ∷ 109 ∷ 101 ∷ []) → m' ≡ splice m at (shown lits made v)
  unfolding shown bytes
  shows_frame n ev e = rw (ev, e)
