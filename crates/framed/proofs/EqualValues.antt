-- Document 02, A4: `==` is an equivalence on all values, and of two codes it is what the request says. Assumes nothing.
use mathlib.Core.Path.{◌≡◌, refl, ◌∙◌, ap, sym}
use mathlib.Core.Logic.{◌≢◌}
use mathlib.Core.Bool.{true, false, false≢true}
use mathlib.Core.List.{List}
use Prim.Native.Nat.{ℕ}
use lib.IntN.{ℤ}
use lib.ListN.{get_or}
use borrow.Author.Tests.{eqb-true, eq-eqb}
use Rattle.framed.specs.declared.Value.{Value}
use Rattle.framed.specs.Tree.{Code}
use Rattle.framed.specs.Paths.{Path}
use Rattle.framed.specs.Values.{text_bytes}
use Rattle.framed.specs.Equality.{Constants, constants, PlainCode, plain_code, equal_values}
use Rattle.framed.specs.Program.{Program}
use Rattle.framed.specs.Theorems.{EqualIsEquivalence, EqualCodes}
use Rattle.framed.proofs.Lists.{same_self, same_equal}
use Rattle.framed.proofs.SameCodeExact.{apart, integer_equal, integer_self, same_code_exact}

-- what `==` looks at
data Compared : Type 0 where
  number : ℤ → Compared
  bytes : List ℕ → Compared
  list : PlainCode → Compared
  frame : ℕ → Compared

module _ (c : Constants) (made : List (List ℕ)) where
  abbrev at : ℕ → Code Path
  at k = get_or c.codes k Code.finished

  unfoldable compared : Value → Compared
  compared (Value.Int z) = Compared.number z
  compared (Value.Text t) = Compared.bytes (text_bytes c.literals made t)
  compared (Value.Code k) = Compared.list (plain_code c.literals (at k))
  compared (Value.Frame n) = Compared.frame n

  from : (v w : Value) → compared v ≡ compared w → equal_values c made v w ≡ true
  unfolding equal_values compared
  from (Value.Int y) (Value.Int z) e = let q : y ≡ z = cc in rw q (integer_self z)
  from (Value.Int y) (Value.Text u) e = apart cc
  from (Value.Int y) (Value.Code l) e = apart cc
  from (Value.Int y) (Value.Frame m) e = apart cc
  from (Value.Text t) (Value.Int z) e = apart cc
  from (Value.Text t) (Value.Text u) e =
      let q : text_bytes c.literals made t ≡ text_bytes c.literals made u = cc in
      rw q (same_self (text_bytes c.literals made u))
  from (Value.Text t) (Value.Code l) e = apart cc
  from (Value.Text t) (Value.Frame m) e = apart cc
  from (Value.Code k) (Value.Int z) e = apart cc
  from (Value.Code k) (Value.Text u) e = apart cc
  from (Value.Code k) (Value.Code l) e = (same_code_exact c.literals (at k) (at l)).1 cc
  from (Value.Code k) (Value.Frame m) e = apart cc
  from (Value.Frame n) (Value.Int z) e = apart cc
  from (Value.Frame n) (Value.Text u) e = apart cc
  from (Value.Frame n) (Value.Code l) e = apart cc
  from (Value.Frame n) (Value.Frame m) e = eq-eqb n m cc

  to : (v w : Value) → equal_values c made v w ≡ true → compared v ≡ compared w
  unfolding equal_values compared
  to (Value.Int y) (Value.Int z) e = ap Compared.number (integer_equal y z e)
  to (Value.Int y) (Value.Text u) e = absurd (false≢true e)
  to (Value.Int y) (Value.Code l) e = absurd (false≢true e)
  to (Value.Int y) (Value.Frame m) e = absurd (false≢true e)
  to (Value.Text t) (Value.Int z) e = absurd (false≢true e)
  to (Value.Text t) (Value.Text u) e = ap Compared.bytes (same_equal (text_bytes c.literals made t) (text_bytes c.literals made u) e)
  to (Value.Text t) (Value.Code l) e = absurd (false≢true e)
  to (Value.Text t) (Value.Frame m) e = absurd (false≢true e)
  to (Value.Code k) (Value.Int z) e = absurd (false≢true e)
  to (Value.Code k) (Value.Text u) e = absurd (false≢true e)
  to (Value.Code k) (Value.Code l) e = ap Compared.list ((same_code_exact c.literals (at k) (at l)).0 e)
  to (Value.Code k) (Value.Frame m) e = absurd (false≢true e)
  to (Value.Frame n) (Value.Int z) e = absurd (false≢true e)
  to (Value.Frame n) (Value.Text u) e = absurd (false≢true e)
  to (Value.Frame n) (Value.Code l) e = absurd (false≢true e)
  to (Value.Frame n) (Value.Frame m) e = ap Compared.frame (eqb-true n m e)

pub equal_is_equivalence : EqualIsEquivalence
equal_is_equivalence =
    record {
      reflexive = λ c made v. from c made v v refl;
      symmetric = λ c made v w e. from c made w v (sym (to c made v w e));
      transitive = λ c made u v w e f. from c made u w (to c made u v e ∙ to c made v w f);
    }

pub equal_codes : EqualCodes
unfolding equal_values
equal_codes = record { codes = λ p made k l. same_code_exact p.literals (at (constants p) made k) (at (constants p) made l); other_kinds = other }
  where
    other : (p : Program) (made : List (List ℕ)) (k : ℕ) (w : Value) → ((l : ℕ) → w ≢ Value.Code l) → equal_values (constants p) made (Value.Code k) w ≡ false
    other p made k (Value.Int z) n = refl
    other p made k (Value.Text t) n = refl
    other p made k (Value.Code l) n = absurd (n l refl)
    other p made k (Value.Frame m) n = refl
