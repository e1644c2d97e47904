-- The parts of two lists, one behind the other: their codes, their instructions and the numbers of these. Assumes nothing.
use mathlib.Core.Path.{◌≡◌, refl, ◌∙◌, ap}
use mathlib.Core.List.{List, [], ◌∷◌, ◌++◌}
use Prim.Native.Nat.{ℕ, suc, ◌+◌}
use native.Mathlib.Omega.{arith}
use lib.ListN.{length}
use Rattle.framed.specs.Tree.{Instruction, Code}
use Rattle.framed.specs.Paths.{Path}
use Rattle.framed.specs.Program.{Part, block, line, codes_in, instructions_in, instruction_parts, first_number, firsts_in, nexts_in}

-- how many instructions there are among the parts
abbrev pub lines : List Part → ℕ
lines ps = length (instructions_in ps)

pub codes_append : (ps qs : List Part) → codes_in (ps ++ qs) ≡ codes_in ps ++ codes_in qs
unfolding codes_in
codes_append [] qs = refl
codes_append (block is ∷ ps) qs = ap {B = List (Code Path)} (λ l. is ∷ l) (codes_append ps qs)
codes_append (line i is ∷ ps) qs = codes_append ps qs

pub instructions_append : (ps qs : List Part) → instructions_in (ps ++ qs) ≡ instructions_in ps ++ instructions_in qs
unfolding instructions_in
instructions_append [] qs = refl
instructions_append (block is ∷ ps) qs = instructions_append ps qs
instructions_append (line i is ∷ ps) qs = ap {B = List (Instruction Path)} (λ l. i ∷ l) (instructions_append ps qs)

pub firsts_append : (n : ℕ) (ps qs : List Part) → firsts_in n (ps ++ qs) ≡ firsts_in n ps ++ firsts_in (n + lines ps) qs
unfolding firsts_in instructions_in
firsts_append n [] qs = let e : n ≡ n + 0 = omega arith in ap (λ (k : ℕ). firsts_in k qs) e
firsts_append n (block is ∷ ps) qs = ap {B = List ℕ} (λ l. first_number n is ∷ l) (firsts_append n ps qs)
firsts_append n (line i is ∷ ps) qs =
    let e : suc n + lines ps ≡ n + suc (lines ps) = omega arith in
    firsts_append (suc n) ps qs ∙ ap (λ (k : ℕ). firsts_in (suc n) ps ++ firsts_in k qs) e

pub nexts_append : (n : ℕ) (ps qs : List Part) → nexts_in n (ps ++ qs) ≡ nexts_in n ps ++ nexts_in (n + lines ps) qs
unfolding nexts_in instructions_in
nexts_append n [] qs = let e : n ≡ n + 0 = omega arith in ap (λ (k : ℕ). nexts_in k qs) e
nexts_append n (block is ∷ ps) qs = nexts_append n ps qs
nexts_append n (line i is ∷ ps) qs =
    let e : suc n + lines ps ≡ n + suc (lines ps) = omega arith in
    ap {B = List ℕ} (λ l. first_number (suc n + lines (instruction_parts i)) is ∷ l) (nexts_append (suc n) ps qs ∙ ap (λ (k : ℕ). nexts_in (suc n) ps ++ nexts_in k qs) e)

-- each code has a first number, each instruction a next
pub firsts_length : (n : ℕ) (ps : List Part) → length (firsts_in n ps) ≡ length (codes_in ps)
unfolding firsts_in codes_in
firsts_length n [] = refl
firsts_length n (block is ∷ ps) = ap suc (firsts_length n ps)
firsts_length n (line i is ∷ ps) = firsts_length (suc n) ps

pub nexts_length : (n : ℕ) (ps : List Part) → length (nexts_in n ps) ≡ lines ps
unfolding nexts_in instructions_in
nexts_length n [] = refl
nexts_length n (block is ∷ ps) = nexts_length n ps
nexts_length n (line i is ∷ ps) = ap suc (nexts_length (suc n) ps)
