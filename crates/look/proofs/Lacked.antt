-- A path with a name that the program lacks is 22: no slot of a frame in use has such a name. Assumes nothing.
use mathlib.Core.Path.{◌≡◌, refl, sym}
use mathlib.Core.Bool.{Bool, true, false, ◌||◌, false≢true}
use mathlib.Core.List.{List, [], ◌∷◌}
use mathlib.Core.Option.{Option as Optional, none, some}
use Prim.Native.Nat.{ℕ, ◌<◌}
use native.Mathlib.Omega.{arith}
use native.Mathlib.Decide.{dec_lt}
use lib.Dec.{eqb}
use borrow.Author.Tests.{eqb-true}
use Rattle.std.specs.Prelude.{Option, Some, None}
use Rattle.framed.specs.declared.Value.{Value}
use Rattle.framed.specs.Common.{any, member}
use Rattle.framed.specs.Tree.{Written}
use Rattle.framed.specs.Fetch.{◌>>=◌, frame_of, get, fetch}
use Rattle.framed.specs.Calls.{look_from, look_names}
use Rattle.tables.specs.Fields.{names}
use Rattle.heap.specs.Words.{frame_used, slot_count_at}
use Rattle.heap.specs.Held.{slot_held, slots_held, frames_held, heap_held}
use Rattle.heap.specs.Closed.{FrameInUse}
use Rattle.paths.specs.Paths.{slot_from}
use Rattle.paths.proofs.Slots.{slot_hit}
use Rattle.paths.proofs.Laws.{slots_length, slot_at, get_past, get_free, get_missing}
use Rattle.wellformed.specs.WellFormed.{limits, WellFormed}
use Rattle.wellformed.specs.Held.{state_held}
use Rattle.wellformed.proofs.Decides.{well_formed_decides}
use Rattle.look_path.specs.Resolve.{found, reached, resolved}
use Rattle.look.specs.Look.{answer, look_call, LackedIsUndefined}

module _ (p h l t : List ℕ) (w : WellFormed p h l t) where
  -- no slot has the number after the last name
  slot_lacked : (f : ℕ) → FrameInUse h f → slot_from (slots_held h f) (names p) 0 ≡ None
  unfolding slot_held limits
  slot_lacked f u = go (slot_from (slots_held h f) (names p) 0) refl
    where
      go : (r : Option ℕ) → r ≡ slot_from (slots_held h f) (names p) 0 → slot_from (slots_held h f) (names p) 0 ≡ None
      go (Some i) q =
          let a = slot_hit (slots_held h f) (names p) (Some i) q i refl in
          let lt : i < slot_count_at h f = omega (arith, a.below, slots_length h f) in
          let e = rw (slot_at h f i (slot_held h f i) lt) at (a.name (slot_held h f i)) in
          absurd (omega (arith, e, ((w.state.frame f u).slot i lt).named))
      go None q = sym q

  get_lacked : (v : Value) → get (frames_held h) v (names p) ≡ none
  unfolding get frame_of ◌>>=◌
  get_lacked (Value.Int z) = refl
  get_lacked (Value.Text x) = refl
  get_lacked (Value.Code k) = refl
  get_lacked (Value.Frame f) = go (dec_lt f 256)
    where
      inside : f < 256 → (b : Bool) → b ≡ frame_used h f → get (frames_held h) (Value.Frame f) (names p) ≡ none
      inside lt true e =
          sym (get_missing h (names p) (Value.Frame f) f refl lt true e refl None (sym (slot_lacked f (record { small = lt; used = sym e }))) refl)
      inside lt false e = sym (get_free h (names p) (Value.Frame f) f refl lt false e refl)

      go : Dec (f < 256) → get (frames_held h) (Value.Frame f) (names p) ≡ none
      go (yes lt) = inside lt (frame_used h f) refl
      go (no n) = sym (get_past h (names p) (Value.Frame f) f refl (omega arith))

  fetch_lacked : (ns : List ℕ) → member (names p) ns ≡ true → (v : Value) → fetch (frames_held h) v ns ≡ none
  unfolding member any fetch ◌>>=◌
  fetch_lacked [] e v = absurd (false≢true e)
  fetch_lacked (x ∷ ns) e v = go (eqb (names p) x) refl e (fetch_lacked ns)
    where
      further : (o : Optional Value) → ((u : Value) → fetch (frames_held h) u ns ≡ none) → ◌>>=◌ o (λ u. fetch (frames_held h) u ns) ≡ none
      further none ih = refl
      further (some u) ih = ih u

      go : (b : Bool) → eqb (names p) x ≡ b → b || member (names p) ns ≡ true → (member (names p) ns ≡ true → (u : Value) → fetch (frames_held h) u ns ≡ none) →
          ◌>>=◌ (get (frames_held h) v x) (λ u. fetch (frames_held h) u ns) ≡ none
      go true q e ih = rw (← eqb-true (names p) x q, get_lacked v)
      go false q e ih = further (get (frames_held h) v x) (ih e)

  from_lacked : (x : Written) → member (names p) (look_names x) ≡ true → look_from (state_held p h t) x ≡ none
  unfolding look_names look_from state_held heap_held
  from_lacked (Written.self ns) e = fetch_lacked ns e _
  from_lacked (Written.up k ns) e = fetch_lacked ns e _

pub lacked_is_undefined : LackedIsUndefined
unfolding look_call resolved reached found answer
lacked_is_undefined p h l t path x w e m = rw ((well_formed_decides p h l t).1 w, e, from_lacked p h l t w x m)
