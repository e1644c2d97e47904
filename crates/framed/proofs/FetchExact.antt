-- Fetch as a function and as a judgment; what it finds from a reachable value is reachable. Assumes nothing.
use mathlib.Core.Path.{◌≡◌, refl, sym, subst}
use mathlib.Core.Bool.{Bool, true, false}
use mathlib.Core.List.{List, [], ◌∷◌, map, Memᴰ}
use mathlib.Core.Option.{Option, none, some}
use Prim.Native.Nat.{ℕ}
use lib.Dec.{eqb}
use Rattle.framed.specs.declared.Value.{Value}
use Rattle.framed.specs.Values.{Slot, Frame, new_frame}
use Rattle.framed.specs.Fetch.{in_slots, in_frame, frame_of, get, fetch}
use Rattle.framed.specs.Fetch as F
use Rattle.framed.specs.Reach.{slot_value, values_in, Reachable}
use Rattle.framed.specs.Judgments.{Fetch⇒, fetch₁, fetch₂}
use Rattle.framed.specs.Theorems.{FetchExact}
use Rattle.framed.proofs.General.{none≢some, some_inj}
use Rattle.framed.proofs.Lists.{get_default}

-- the parts are handed on as variables, so that nothing is seen through them
pub bind_some : {A B C : Type 0} (m : Option A) (f : A → Option B) {b : B} → F.◌>>=◌ m f ≡ some b → ((a : A) → m ≡ some a → f a ≡ some b → C) → C
unfolding F.◌>>=◌
bind_some none f e k = absurd (none≢some e)
bind_some (some a) f e k = k a refl e

pub some_bind : {A B : Type 0} {m : Option A} (f : A → Option B) {a : A} {b : B} → m ≡ some a → f a ≡ some b → F.◌>>=◌ m f ≡ some b
unfolding F.◌>>=◌
some_bind f p q = rw p q

fetch_sound : (frames : List Frame) (v : Value) (ns : List ℕ) {u : Value} → fetch frames v ns ≡ some u → Fetch⇒ frames v ns u
unfolding fetch get
fetch_sound frames v [] e = subst (λ (w : Value). Fetch⇒ frames v [] w) (some_inj e) fetch₁
fetch_sound frames v (n ∷ ns) e =
    bind_some (get frames v n) _ e λ w g r.
    bind_some (frame_of frames v) _ g λ f p q.
    fetch₂ p q (fetch_sound frames w ns r)

fetch_complete : (frames : List Frame) {v : Value} {ns : List ℕ} {u : Value} → Fetch⇒ frames v ns u → fetch frames v ns ≡ some u
unfolding fetch get
fetch_complete frames fetch₁ = refl
fetch_complete frames (fetch₂ p q r) = some_bind _ (some_bind _ p q) (fetch_complete frames r)

pub fetch_exact : FetchExact
fetch_exact frames v ns w = (fetch_sound frames v ns, fetch_complete frames)

-- ---- What is reachable

-- a value that Fetch finds in a frame stands in a slot of it
pub slot_member : (ss : List Slot) (n : ℕ) {w : Value} → in_slots ss n ≡ some w → Memᴰ w (map slot_value ss)
unfolding in_slots slot_value
slot_member [] n e = absurd (none≢some e)
slot_member (s ∷ ss) n {w} e = go (eqb s.name n) (slot_member ss n) e
  where
    go : (t : Bool) → (in_slots ss n ≡ some w → Memᴰ w (map slot_value ss)) →
        ◌≡◌ {A = Option Value} (elim t [ true ↦ some s.value | false ↦ in_slots ss n ]) (some w) → Memᴰ w (map slot_value (s ∷ ss))
    go true k e = Memᴰ.head (sym (some_inj e))
    go false k e = Memᴰ.tail (k e)

module _ (frames : List Frame) (Σ Π : Value) where
  slot_reached : (v w : Value) (f : Frame) (x : ℕ) → Reachable frames Σ Π v → frame_of frames v ≡ some f → in_frame f x ≡ some w → Reachable frames Σ Π w
  unfolding frame_of in_frame values_in
  slot_reached (Value.Int z) w f x r e q = absurd (none≢some e)
  slot_reached (Value.Text t) w f x r e q = absurd (none≢some e)
  slot_reached (Value.Code k) w f x r e q = absurd (none≢some e)
  slot_reached (Value.Frame n) w f x r e q = Reachable.in_slot {v = w} r (rw (get_default frames n (new_frame 0 []) f e) (slot_member f.slots x q))

  fetch_reached : {v w : Value} {ns : List ℕ} → Reachable frames Σ Π v → Fetch⇒ frames v ns w → Reachable frames Σ Π w
  fetch_reached r fetch₁ = r
  fetch_reached r (fetch₂ {v = v} {w = w} {f = f} {x = x} p q d) = fetch_reached (slot_reached v w f x r p q) d

  pub fetched_reached : (v w : Value) (ns : List ℕ) → Reachable frames Σ Π v → fetch frames v ns ≡ some w → Reachable frames Σ Π w
  fetched_reached v w ns r e = fetch_reached r (fetch_sound frames v ns e)
