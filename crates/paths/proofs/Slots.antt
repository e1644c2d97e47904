-- The place of a name among slots, and what Fetch and Put then do with it. Assumes nothing.
use Prim.Native.Nat.{ℕ, suc, ◌+◌, ◌<◌}
use mathlib.Core.Path.{◌≡◌, refl, ◌∙◌, ap, sym, subst}
use mathlib.Core.List.{List, [], ◌∷◌, ◌++◌}
use mathlib.Core.Bool.{Bool, true, false}
use mathlib.Core.Option.{none, some}
use native.Mathlib.Omega.{arith}
use lib.ListN.{length, get_or, set}
use lib.Dec.{eqb}
use borrow.Author.Tests.{eqb-true}
use Rattle.std.specs.Prelude.{Option, Some, None}
use Rattle.words.specs.Words.{pick}
use Rattle.framed.specs.declared.Value.{Value}
use Rattle.framed.specs.Values.{Slot}
use Rattle.framed.specs.Fetch.{in_slots}
use Rattle.framed.specs.Machine.{set_slot}
use Rattle.paths.specs.Paths.{slot_from}

-- slot i of ss is the first with the name x
pub record Hit (ss : List Slot) (x i : ℕ) : Type 0 where
  pub below : i < length ss
  pub name : (d : Slot) → (get_or ss i d).name ≡ x
  pub value : (d : Slot) → in_slots ss x ≡ some (get_or ss i d).value
  pub put : (w : Value) → set_slot ss x w ≡ set ss i (record { name = x; value = w })

-- no slot of ss has the name x
pub record Miss (ss : List Slot) (x : ℕ) : Type 0 where
  pub value : in_slots ss x ≡ none
  pub put : (w : Value) → set_slot ss x w ≡ ss ++ (record { name = x; value = w } ∷ [])

-- what slot-from says, for slots that are numbered from k on
data Told (ss : List Slot) (x k : ℕ) : Option ℕ → Type 0 where
  hit : (i : ℕ) → Hit ss x i → Told ss x k (Some (k + i))
  missed : Miss ss x → Told ss x k None

tells : (ss : List Slot) (x k : ℕ) → Told ss x k (slot_from ss x k)
unfolding slot_from in_slots set_slot
tells [] x k = missed (record { value = refl; put = λ w. refl })
tells (s ∷ ss) x k = go (eqb s.name x) refl (slot_from ss x (k + 1)) (tells ss x (k + 1))
  where
    zero_more : (k : ℕ) → k + 0 ≡ k
    zero_more k = omega arith

    one_more : (k i : ℕ) → k + suc i ≡ k + 1 + i
    one_more k i = omega arith

    go : (b : Bool) → eqb s.name x ≡ b → (r : Option ℕ) → Told ss x (k + 1) r → Told (s ∷ ss) x k (pick b (Some k) r)
    go true e r t =
        subst (λ (m : ℕ). Told (s ∷ ss) x k (Some m)) (zero_more k)
        (hit 0 (record { below = omega arith; name = λ d. eqb-true s.name x e; value = λ d. rw (in_slots, e); put = λ w. rw (set_slot, e) }))
    go false e _ (hit i a) =
        let l = a.below in
        subst (λ (m : ℕ). Told (s ∷ ss) x k (Some m)) (one_more k i)
        (hit (suc i) (record { below = omega arith; name = a.name; value = λ d. rw (in_slots, e) (a.value d); put = λ w. rw (set_slot, e) (ap (λ (ts : List Slot). s ∷ ts) (a.put w)) }))
    go false e _ (missed m) =
        missed (record { value = rw (in_slots, e) m.value; put = λ w. rw (set_slot, e) (ap (λ (ts : List Slot). s ∷ ts) (m.put w)) })

module _ (ss : List Slot) (x : ℕ) (r : Option ℕ) (er : r ≡ slot_from ss x 0) where
  pub slot_hit : (i : ℕ) → r ≡ Some i → Hit ss x i
  slot_hit i e = go (slot_from ss x 0) (sym er ∙ e) (tells ss x 0)
    where
      go : (q : Option ℕ) → q ≡ Some i → Told ss x 0 q → Hit ss x i
      go _ p (hit j a) = let z : 0 + j ≡ i = cc in let y : j ≡ i = omega arith in rw y at a
      go _ p (missed m) = let z : ◌≡◌ {A = ℕ} 0 1 = cc in absurd (omega arith)

  pub slot_miss : r ≡ None → Miss ss x
  slot_miss e = go (slot_from ss x 0) (sym er ∙ e) (tells ss x 0)
    where
      go : (q : Option ℕ) → q ≡ None → Told ss x 0 q → Miss ss x
      go _ p (hit j a) = let z : ◌≡◌ {A = ℕ} 0 1 = cc in absurd (omega arith)
      go _ p (missed m) = m
