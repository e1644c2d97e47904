-- Look and its companion for C. Assumes nothing.
use mathlib.Core.Path.{◌≡◌, refl, ◌∙◌, sym}
use mathlib.Core.Bool.{Bool, true, false, true≢false}
use mathlib.Core.List.{List}
use Prim.Native.Nat.{ℕ}
use lib.IntN.{ℤ}
use lib.ListN.{length}
use Rattle.framed.specs.declared.LookAnswer.{LookAnswer}
use Rattle.splice.specs.Splice.{splice}
use Rattle.wellformed.specs.WellFormed.{WellFormed, well_formed}
use Rattle.wellformed.proofs.Decides.{well_formed_decides}
use Rattle.look.specs.Look.{look_bytes, LookTextMeans}
use Rattle.look.proofs.Means.{look_text_is_fetch}
use Rattle.framed_c.specs.Look.{integer_cell, maker_cell, LooksTextInC}

-- ---- The cells: what is not an integer, or not a frame, leaves its cell as it was

module _ (a : LookAnswer) where
  pub integer_written : (n m z : ℤ) → a ≡ LookAnswer.Integer n → m ≡ n → m ≡ integer_cell a z
  unfolding integer_cell
  integer_written n m z e i = i ∙ rw e

  pub maker_written : (n m k : ℕ) → a ≡ LookAnswer.Frame n → m ≡ n → m ≡ maker_cell a k
  unfolding maker_cell
  maker_written n m k e i = i ∙ rw e

pub integer_stays : (a : LookAnswer) (z : ℤ) → ((k : ℤ) → a ≡ LookAnswer.Integer k → ⊥) → z ≡ integer_cell a z
unfolding integer_cell
integer_stays (LookAnswer.Integer n) z k = absurd (k n refl)
integer_stays LookAnswer.Text z k = refl
integer_stays LookAnswer.Code z k = refl
integer_stays (LookAnswer.Frame n) z k = refl
integer_stays LookAnswer.NotWellFormed z k = refl
integer_stays LookAnswer.NotPath z k = refl
integer_stays LookAnswer.Undefined z k = refl

pub maker_stays : (a : LookAnswer) (m : ℕ) → ((k : ℕ) → a ≡ LookAnswer.Frame k → ⊥) → m ≡ maker_cell a m
unfolding maker_cell
maker_stays (LookAnswer.Integer n) m k = refl
maker_stays LookAnswer.Text m k = refl
maker_stays LookAnswer.Code m k = refl
maker_stays (LookAnswer.Frame n) m k = absurd (k n refl)
maker_stays LookAnswer.NotWellFormed m k = refl
maker_stays LookAnswer.NotPath m k = refl
maker_stays LookAnswer.Undefined m k = refl

-- what the bytes mean leaves one list
bytes_are : (p h l t path bytes : List ℕ) → LookTextMeans p h l t path bytes → bytes ≡ look_bytes p h l t path
bytes_are p h l t path bytes m = go (well_formed p h l t) refl
  where
    go : (b : Bool) → well_formed p h l t ≡ b → bytes ≡ look_bytes p h l t path
    go true e = let w = (well_formed_decides p h l t).0 e in m.looked w ∙ sym ((look_text_is_fetch p h l t path).looked w)
    go false e =
        let n : ¬ WellFormed p h l t = λ w. true≢false (sym ((well_formed_decides p h l t).1 w) ∙ e) in
        m.refused n ∙ sym ((look_text_is_fetch p h l t path).refused n)

pub text_copied : (p h l t path out out' bytes : List ℕ) → LookTextMeans p h l t path bytes → out' ≡ splice out 0 bytes
    → LooksTextInC p h l t path out (length bytes) out'
text_copied p h l t path out out' bytes m w =
    record { bytes = bytes; exact = bytes_are p h l t path bytes m; meaning = m; count = refl; written = w }
