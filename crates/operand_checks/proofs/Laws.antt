-- One law for each way through the functions of this crate. Assumes nothing.
use Prim.Native.Nat.{ℕ, zero, suc}
use mathlib.Core.Path.{◌≡◌, refl, ◌∙◌}
use mathlib.Core.List.{List, [], ◌∷◌}
use borrow.Author.Tests.{ne_eqb}
use Rattle.framed.specs.declared.Value.{Value}
use Rattle.framed.specs.Values.{Frame}
use Rattle.framed.specs.Paths.{from_self, from_program}
use Rattle.framed.specs.Machine.{defined}
use Rattle.bounded.specs.Check.{end_of, target_end, check_put}
use Rattle.heap.specs.Held.{frames_held}
use Rattle.paths.specs.Paths.{fetched, path_held}
use Rattle.puts.specs.Puts.{target_along}
use Rattle.trees.specs.Trees.{path_list}
use Rattle.operands.specs.Operands.{operand_value, unpacked}
use Rattle.operands.proofs.Lists.{same_path}
use Rattle.operand_checks.specs.OperandChecks.{names_end, put_end}

-- ---- check_operand

module _ (p h : List ℕ) (x n : ℕ) (en : defined (fetched (unpacked n)) ≡ operand_value p h x) where
  pub number_undefined : n ≡ 5 → 31 ≡ end_of (operand_value p h x)
  unfolding defined end_of unpacked
  number_undefined e = rw (← en, e)

  pub number_found : (n ≡ 5 → ⊥) → 0 ≡ end_of (operand_value p h x)
  unfolding defined end_of unpacked
  number_found ne = rw (← en, ne_eqb n 5 ne)

-- ---- check_put

along_end : (frames : List Frame) (v : Value) (n : ℕ) (ns : List ℕ) → target_end frames (target_along frames v (n ∷ ns)) ≡ names_end frames v (n ∷ ns)
unfolding target_along names_end
along_end frames v n ns = refl

module _ (p h : List ℕ) (v : Value) (j n : ℕ) where
  pub put_empty : n ≡ 0 → 0 ≡ put_end p h v j n
  unfolding put_end path_list names_end
  put_empty e = rw e

  pub put_along : (r : ℕ) → (n ≡ 0 → ⊥) → r ≡ target_end (frames_held h) (target_along (frames_held h) v (path_held p j n)) → r ≡ put_end p h v j n
  unfolding put_end path_list
  put_along r ne er = er ∙ rw (← same_path p j n) (go n ne)
    where
      go : (k : ℕ) → (k ≡ 0 → ⊥) → target_end (frames_held h) (target_along (frames_held h) v (path_list p k j)) ≡ names_end (frames_held h) v (path_list p k j)
      go zero no_names = absurd (no_names refl)
      go (suc k) some = along_end (frames_held h) v _ _

-- the end that `bounded` names
pub put_self : (frames : List Frame) (v w : Value) (ns : List ℕ) → check_put v w frames (from_self ns) ≡ names_end frames v ns
unfolding check_put names_end
put_self frames v w [] = refl
put_self frames v w (n ∷ ns) = refl

pub put_program : (frames : List Frame) (v w : Value) (ns : List ℕ) → check_put v w frames (from_program ns) ≡ names_end frames w ns
unfolding check_put names_end
put_program frames v w [] = refl
put_program frames v w (n ∷ ns) = refl
