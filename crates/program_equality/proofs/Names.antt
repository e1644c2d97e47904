-- A path as a part of the program words, and what `same_names` compares. Assumes nothing.
use mathlib.Core.Path.{◌≡◌, ◌∙◌, ap, sym}
use mathlib.Core.Bool.{Bool}
use mathlib.Core.List.{List}
use Prim.Native.Nat.{ℕ, ◌+◌, ◌-◌}
use native.Mathlib.Omega.{arith}
use lib.ListN.{take, drop}
use Rattle.framed.specs.Common.{same}
use Rattle.words.specs.Words.{word}
use Rattle.tables.specs.Fields.{path_name}
use Rattle.heap.proofs.Lists.{listed_same}
use Rattle.paths.specs.Paths.{path_held}
use Rattle.texts.specs.Texts.{part_of, Inside}
use Rattle.texts.proofs.Laws.{part_is, part_listed}
use Rattle.trees.specs.Trees.{path_list}
use Rattle.operands.proofs.Lists.{same_path}
use Rattle.program_equality.specs.Agreement.{names_agree}

path_part : (p : List ℕ) (j n : ℕ) → Inside p (2496 + j) n → part_of p (2496 + j) n ≡ path_list p n j
unfolding path_held path_name
path_part p j n s =
    part_listed p (2496 + j) n s.inside
    ∙ listed_same (λ i. path_name p (j + i)) (λ i. word p (2496 + j + i)) n (λ k lt. ap (word p) (let e : 2496 + j + k ≡ 2496 + (j + k) = omega arith in e))
    ∙ sym (same_path p j n)

module _ (p : List ℕ) (j n a c : ℕ) (ea : a ≡ j) (ec : c ≡ n) where
  pub path_here : Inside p (2496 + j) n → take (2496 + a + c - (2496 + a)) (drop (2496 + a) p) ≡ path_list p n j
  path_here s = rw (ea, ec) (part_is p (2496 + j) n ∙ path_part p j n s)

pub names_compared : (p : List ℕ) (j n k m : ℕ) (a b : List ℕ) (r : Bool) → r ≡ same a b → a ≡ path_list p n j → b ≡ path_list p m k → r ≡ names_agree p j n k m
unfolding names_agree
names_compared p j n k m a b r e ea eb = rw (e, ea, eb)
