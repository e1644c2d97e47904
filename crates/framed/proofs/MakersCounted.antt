-- `made_by` is the length of a list of exactly the reachable frames of a maker, each once: of those that pass a test among the reachable ones.
-- Assumes nothing.
use mathlib.Core.Path.{◌≡◌, refl, sym, ◌∙◌, ap}
use mathlib.Core.Logic.{◌⊎◌, inl, inr, ⊎_elim}
use mathlib.Core.Bool.{Bool, true, false, true≢false}
use mathlib.Core.List.{List, [], ◌∷◌}
use Prim.Native.Nat.{ℕ, suc}
use lib.ListN.{length}
use lib.Dec.{eqb}
use borrow.Author.Tests.{eqb-true, eq-eqb}
use Rattle.framed.specs.Common.{count, member, has_twice}
use Rattle.framed.specs.Reach.{roots, reached_frames}
use Rattle.framed.specs.Calls.{maker_in, made_by}
use Rattle.framed.specs.Theorems.{MakersCounted}
use Rattle.framed.proofs.General.{or_none}
use Rattle.framed.proofs.ReachCounts.{cons_cases, here, there, nothing_in, reach_agrees, reached_once}

module _ (test : ℕ → Bool) where
  -- those of the list that pass
  chosen : List ℕ → List ℕ
  chosen [] = []
  chosen (n ∷ ns) = elim (test n) [ true ↦ n ∷ chosen ns | false ↦ chosen ns ]

  count_chosen : (ns : List ℕ) → count test ns ≡ length (chosen ns)
  unfolding count chosen
  count_chosen [] = refl
  count_chosen (n ∷ ns) = go (test n) (count_chosen ns)
    where
      go : (b : Bool) → count test ns ≡ length (chosen ns) →
          (elim b [ true ↦ suc (count test ns) | false ↦ count test ns ]) ≡ length {A = ℕ} (elim b [ true ↦ n ∷ chosen ns | false ↦ chosen ns ])
      go true e = ap suc e
      go false e = e

  chosen_in : (k : ℕ) (ns : List ℕ) → member k (chosen ns) ≡ true → (member k ns ≡ true) × (test k ≡ true)
  unfolding chosen
  chosen_in k [] m = absurd (nothing_in k m)
  chosen_in k (n ∷ ns) m = go (test n) refl m (λ i. chosen_in k ns i)
    where
      go : (b : Bool) → test n ≡ b → member k (elim b [ true ↦ n ∷ chosen ns | false ↦ chosen ns ]) ≡ true →
          (member k (chosen ns) ≡ true → (member k ns ≡ true) × (test k ≡ true)) → (member k (n ∷ ns) ≡ true) × (test k ≡ true)
      go true e m r =
          ⊎_elim (λ q. (here k n ns q, ap test q ∙ e)) (λ i. (there k n ns (r i).0, (r i).1)) (cons_cases k n (chosen ns) m)
      go false e m r = (there k n ns (r m).0, (r m).1)

  in_chosen : (k : ℕ) (ns : List ℕ) → member k ns ≡ true → test k ≡ true → member k (chosen ns) ≡ true
  unfolding chosen
  in_chosen k [] m t = absurd (nothing_in k m)
  in_chosen k (n ∷ ns) m t = go (test n) refl (cons_cases k n ns m) (λ i. in_chosen k ns i t)
    where
      go : (b : Bool) → test n ≡ b → (k ≡ n) ⊎ (member k ns ≡ true) → (member k ns ≡ true → member k (chosen ns) ≡ true) →
          member k (elim b [ true ↦ n ∷ chosen ns | false ↦ chosen ns ]) ≡ true
      go true e (inl q) r = here k n (chosen ns) q
      go true e (inr i) r = there k n (chosen ns) (r i)
      go false e (inl q) r = absurd (true≢false (sym t ∙ ap test q ∙ e))
      go false e (inr i) r = r i

  chosen_once : (ns : List ℕ) → has_twice ns ≡ false → has_twice (chosen ns) ≡ false
  unfolding chosen has_twice
  chosen_once [] h = refl
  chosen_once (n ∷ ns) h = let o = or_none (member n ns) (has_twice ns) h in go (test n) o.0 (chosen_once ns o.1)
    where
      not_there : (b : Bool) → member n (chosen ns) ≡ b → member n ns ≡ false → b ≡ false
      not_there true e f = absurd (true≢false (sym (chosen_in n ns e).0 ∙ f))
      not_there false e f = refl

      go : (b : Bool) → member n ns ≡ false → has_twice (chosen ns) ≡ false → has_twice (elim b [ true ↦ n ∷ chosen ns | false ↦ chosen ns ]) ≡ false
      go true f r = rw (not_there (member n (chosen ns)) refl f, r)
      go false f r = r

pub makers_counted : MakersCounted
unfolding made_by
makers_counted s n =
    let frames = s.heap.frames in
    let test : ℕ → Bool = λ f. eqb (maker_in frames f) n in
    let reached = reached_frames frames (roots s.self s.program) in
    record {
      list = chosen test reached;
      each_once = chosen_once test reached (reached_once frames s.self s.program);
      exactly = λ f. (
        λ m. let c = chosen_in test f reached m in ((reach_agrees frames s.self s.program f).0 c.0, eqb-true (maker_in frames f) n c.1),
        λ r. in_chosen test f reached ((reach_agrees frames s.self s.program f).1 r.0) (eq-eqb (maker_in frames f) n r.1),
      );
      counted = count_chosen test reached;
    }
