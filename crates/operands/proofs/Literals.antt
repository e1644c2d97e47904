-- The program's literals are the same as the crates `trees` and `texts` list them. Assumes nothing.
use Prim.Native.Nat.{ℕ, ◌+◌}
use mathlib.Core.Path.{◌≡◌, ◌∙◌, ap}
use mathlib.Core.List.{List}
use native.Mathlib.Omega.{arith}
use Rattle.tables.specs.Fields.{literals, literal_length, literal_byte}
use Rattle.texts.specs.Literals.{literal_held, literals_held}
use Rattle.trees.specs.Held.{literal_bytes, program_held}
use Rattle.operands.proofs.Lists.{from_listed}

same_literal : (p l : List ℕ) (k : ℕ) → literal_bytes p l k ≡ literal_held p l k
unfolding literal_bytes literal_held
same_literal p l k = from_listed (literal_byte l k) (literal_byte l k) 0 (λ i. let e : 0 + i ≡ i = omega arith in ap (literal_byte l k) e) (literal_length p k)

pub same_literals : (p l : List ℕ) → (program_held p l).literals ≡ literals_held p l
unfolding program_held literals_held
same_literals p l =
    from_listed (literal_bytes p l) (literal_held p l) 0 (λ k. let e : 0 + k ≡ k = omega arith in ap (literal_bytes p l) e ∙ same_literal p l k) (literals p)
