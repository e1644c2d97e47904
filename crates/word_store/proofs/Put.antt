-- A slot that is set or added leaves a state well-formed. Assumes nothing.
use Prim.Native.Nat.{ℕ, zero, suc, ◌<◌}
use mathlib.Core.Path.{◌≡◌, refl, ◌∙◌, ap, sym}
use mathlib.Core.Logic.{◌≢◌}
use mathlib.Core.List.{List, [], ◌∷◌}
use mathlib.Core.Bool.{Bool, true, false}
use mathlib.Core.Option.{Option as Optional, none, some}
use native.Mathlib.Omega.{arith}
use lib.ListN.{length, get_or}
use lib.Dec.{eqb}
use borrow.Author.Tests.{eqb-false, ltb-true}
use Rattle.std.specs.Prelude.{Option, Some, None}
use Rattle.framed.specs.declared.Value.{Value}
use Rattle.framed.specs.Values.{Slot, new_frame}
use Rattle.framed.specs.Fetch.{in_slots}
use Rattle.framed.proofs.General.{some≢none}
use Rattle.heap.specs.Words.{slot_count_at, maker_at, slot_name_at}
use Rattle.heap.specs.Held.{slot_held, slots_held}
use Rattle.heap.specs.Closed.{FrameInUse, NamesInUse}
use Rattle.heap.proofs.Held.{slots_length, slot_at}
use Rattle.bounded.specs.Check.{has_place}
use Rattle.paths.specs.Paths.{slot_from}
use Rattle.puts.specs.Puts.{put_found, put_slot}
use Rattle.paths.proofs.Slots.{slot_hit, slot_miss}
use Rattle.puts.proofs.Laws.{place_none}
use Rattle.frame_form.specs.declared.Limits.{Limits}
use Rattle.state_form.specs.Form.{StateWellFormed}
use Rattle.state_form.proofs.Facts.{NamesThere}
use Rattle.state_form.proofs.Kept.{set_slot_formed, add_slot_formed}

-- a name that is not found is that of no slot
absent : (ss : List Slot) (x : ℕ) → in_slots ss x ≡ none → (j : ℕ) (d : Slot) → j < length ss → (get_or ss j d).name ≢ x
unfolding in_slots
absent [] x e j d lt = absurd (omega arith)
absent (s ∷ ss) x e j d lt = go (eqb s.name x) refl e j lt (λ n i. absent ss x n i d)
  where
    go : (b : Bool) → eqb s.name x ≡ b → ◌≡◌ {A = Optional Value} (elim b [ true ↦ some s.value | false ↦ in_slots ss x ]) none → (j : ℕ) → j < suc (length ss) →
        (in_slots ss x ≡ none → (i : ℕ) → i < length ss → (get_or ss i d).name ≢ x) → (get_or (s ∷ ss) j d).name ≢ x
    go true p n j lt rest = absurd (some≢none n)
    go false p n zero lt rest = eqb-false s.name x p
    go false p n (suc j) lt rest = rest n j (omega arith)

module _ (h : List ℕ) (f x : ℕ) where
  pub absent_name : in_slots (slots_held h f) x ≡ none → (j : ℕ) → j < slot_count_at h f → slot_name_at h f j ≢ x
  unfolding slot_held
  absent_name e j lt p =
      absent (slots_held h f) x e j (slot_held h f j) (let l = slots_length h f in omega arith)
      (ap (λ (s : Slot). s.name) (slot_at h f j (slot_held h f j) lt) ∙ p)

  module _ (t : List ℕ) (l : Limits) (w : StateWellFormed h t l) (u : FrameInUse h f) (v : Value) (named : x < l.names) (n : NamesInUse h v) (o : NamesThere l v) where
    pub put_formed : has_place (new_frame (maker_at h f) (slots_held h f)) x ≡ true → StateWellFormed (put_slot h f x v) t l
    unfolding put_slot
    put_formed ok = go (slot_from (slots_held h f) x 0) refl
      where
        go : (r : Option ℕ) → r ≡ slot_from (slots_held h f) x 0 → StateWellFormed (put_found h f x v r) t l
        go (Some i) e =
            let b = (slot_hit (slots_held h f) x (Some i) e i refl).below in
            let c = slots_length h f in
            set_slot_formed h t l w f u i v (omega arith) n o
        go None e =
            let m = (slot_miss (slots_held h f) x None e refl).value in
            let c = slots_length h f in
            let r : length (slots_held h f) < 16 = ltb-true (length (slots_held h f)) 16 (sym (place_none (maker_at h f) (slots_held h f) x m) ∙ ok) in
            add_slot_formed h t l w f u x v (omega arith) named (absent_name m) n o
