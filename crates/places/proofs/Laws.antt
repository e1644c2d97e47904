-- From a frame literal to its slots, from a slot to its expression and to the slot after it: each is a place, the measure falls, and the trees are one level over
-- those there. Assumes nothing.
use mathlib.Core.Path.{◌≡◌, refl, ◌∙◌, ap, sym, subst}
use mathlib.Core.List.{List}
use Prim.Native.Nat.{ℕ, zero, suc, ◌-◌, ◌<◌}
use native.Mathlib.Omega.{arith}
use Rattle.framed.specs.Tree.{Expression, Slots}
use Rattle.tables.specs.declared.ExpressionEntry.{ExpressionEntry}
use Rattle.tables.specs.Entries.{expression_at}
use Rattle.tables.specs.Fields.{expressions, link, slot_link, slot_name, slot_after}
use Rattle.tables.proofs.Walks.{link_reaches}
use Rattle.program_form.specs.WellFormed.{WellFormed}
use Rattle.program_form.specs.Sound.{SlotPlace}
use Rattle.program_form.proofs.Decides.{sound}
use Rattle.trees.specs.Held.{expression_held, slots_held}
use Rattle.trees.proofs.Held.{one_level_held, frame_held}
use Rattle.places.specs.Places.{expression_measure, slots_measure}

-- a link leads to a larger number, or to none
link_falls : (x d : ℕ) → x < 1024 → slots_measure (link 1024 x d) < expression_measure x
unfolding slots_measure expression_measure
link_falls x d lt = go (link 1024 x d) refl
  where
    go : (z : ℕ) → link 1024 x d ≡ z → slots_measure z < expression_measure x
    go zero e = omega arith
    go (suc y) e =
        let r = link_reaches 1024 x d y e in
        let s = r.some in
        let t = r.there in
        let i = r.inside in
        omega arith

module _ (p l : List ℕ) (w : WellFormed p l) where
  below : (x : ℕ) → x < expressions p → x < 1024
  below x lt = let m = w.entries.limits.expressions_most in omega arith

  module _ (x d z : ℕ) (lt : x < expressions p) (is : expression_at p x ≡ ExpressionEntry.Frame d) (here : z ≡ link 1024 x d) where
    pub frame_place : SlotPlace p z
    frame_place = subst (SlotPlace p) (sym here) (SlotPlace.of_frame x d lt is)

    pub frame_open : expression_held p x ≡ Expression.frame (slots_held p z)
    frame_open = frame_held p l w x lt d is ∙ ap (λ (k : ℕ). Expression.frame (slots_held p k)) (sym here)

    pub frame_falls : slots_measure z < expression_measure x
    frame_falls = rw here (link_falls x d (below x lt))

  module _ (z : ℕ) (s : SlotPlace p z) (ne : z ≡ 0 → ⊥) where
    slot_place : SlotPlace p (suc (z - 1))
    slot_place = subst (SlotPlace p) {x = z} {y = suc (z - 1)} (omega arith) s

    pub slot_there : z - 1 < expressions p
    slot_there = (sound p l w).slot_there (z - 1) slot_place

    pub slot_falls : expression_measure (z - 1) < slots_measure z
    unfolding expression_measure slots_measure
    slot_falls = go z ne
      where
        go : (k : ℕ) → (k ≡ 0 → ⊥) → expression_measure (k - 1) < slots_measure k
        go zero n = absurd (n refl)
        go (suc y) n = omega arith

    module _ (n : ℕ) (next : n ≡ slot_after p (z - 1)) where
      pub next_place : SlotPlace p n
      next_place = subst (SlotPlace p) (sym next) (SlotPlace.after (z - 1) slot_place)

      pub next_falls : slots_measure n < slots_measure z
      unfolding slot_after
      next_falls =
          let a : slots_measure n < expression_measure (z - 1) = rw next (link_falls (z - 1) (slot_link p (z - 1)) (below (z - 1) slot_there)) in
          let b = slot_falls in
          omega arith

      pub slots_open : slots_held p z ≡ Slots.slot (slot_name p (z - 1)) (expression_held p (z - 1)) (slots_held p n)
      slots_open =
          ap (slots_held p) {x = z} {y = suc (z - 1)} (omega arith)
          ∙ (one_level_held p l w).slot (z - 1) slot_place
          ∙ ap (λ (k : ℕ). Slots.slot (slot_name p (z - 1)) (expression_held p (z - 1)) (slots_held p k)) (sym next)
