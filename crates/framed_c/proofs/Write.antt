-- Write for C: one law for each answer. Assumes nothing.
use mathlib.Core.Path.{◌≡◌, refl, ◌∙◌}
use mathlib.Core.List.{List}
use Prim.Native.Nat.{ℕ}
use Rattle.framed.specs.declared.WriteAnswer.{WriteAnswer}
use Rattle.answers.specs.Numbers.{write_number}
use Rattle.write.specs.Write.{writing, write_call, WriteMeans}
use Rattle.framed_c.specs.Write.{length_cell, WritesInC}

-- a cell that no length is written to stays
cell_stays : (a : WriteAnswer) (k : ℕ) → ((k : ℕ) → a ≡ WriteAnswer.Written k → ⊥) → k ≡ length_cell a k
unfolding length_cell
cell_stays (WriteAnswer.Written n) k o = absurd (o n refl)
cell_stays WriteAnswer.NotWellFormed k o = refl
cell_stays WriteAnswer.ShortBuffer k o = refl

module _ (p h l t out out' : List ℕ) (a : WriteAnswer) (exact : write_call p h l t out ≡ writing a out') (meaning : WriteMeans p h l t out a out') where
  pub written : (r n m k : ℕ) → a ≡ WriteAnswer.Written n → m ≡ n → r ≡ write_number (WriteAnswer.Written n) → WritesInC p h l t out k r out' m
  unfolding length_cell
  written r n m k e i is = record { answer = a; exact = exact; meaning = meaning; number = rw e is; length_after = i ∙ rw e }

  pub refused : (r k : ℕ) → ((k : ℕ) → a ≡ WriteAnswer.Written k → ⊥) → r ≡ write_number a → WritesInC p h l t out k r out' k
  refused r k o e = record { answer = a; exact = exact; meaning = meaning; number = e; length_after = cell_stays a k o }
