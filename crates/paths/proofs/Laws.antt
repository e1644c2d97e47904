-- One law for each way through the functions of this crate. Assumes nothing.
use Prim.Native.Nat.{ℕ, ◌+◌, ◌≤◌, ◌<◌}
use mathlib.Core.Path.{◌≡◌, refl, ◌∙◌, sym}
use mathlib.Core.List.{List, []}
use mathlib.Core.Bool.{Bool, true, false, not}
use mathlib.Core.Option.{none}
use native.Mathlib.Omega.{arith}
use native.Mathlib.Numerals.{add-one}
use lib.ListN.{length, get_or, drop, drop_of_length-le}
use lib.Seq.{drop-cons}
use lib.Dec.{eqb}
use borrow.Author.Tests.{eq-eqb, ne_eqb, not-true, not-false}
use Rattle.std.specs.Prelude.{Option, Some, None}
use Rattle.words.specs.Words.{pick, word}
use Rattle.framed.specs.declared.Value.{Value}
use Rattle.framed.specs.Values.{Slot}
use Rattle.framed.specs.Fetch.{◌>>=◌, in_slots, in_frame, frame_of, get, fetch}
use Rattle.tables.specs.Fields.{path_name}
use Rattle.heap.specs.Words.{frame_used, slot_count_at, slot_name_at, slot_value_at}
use Rattle.heap.specs.Held.{slot_held, slots_held, frame_held, frames_held}
use Rattle.heap.proofs.Lists.{listed_length, listed_at, elem_past}
use Rattle.heap.proofs.Held.{frames_length, frame_found, frame_of_used, frame_of_free}
use Rattle.paths.specs.Paths.{slot_from, fetched, path_held}
use Rattle.paths.proofs.Slots.{slot_hit, slot_miss}

-- ---- find_slot

-- what is left to find from slot i on is what was asked
pub record Find (h : List ℕ) (f x n i : ℕ) : Type 0 where
  pub inside : i ≤ n
  pub count : n ≡ slot_count_at h f
  pub rest : slot_from (drop i (slots_held h f)) x i ≡ slot_from (slots_held h f) x 0

pub find_start : (h : List ℕ) (f x n : ℕ) → n ≡ slot_count_at h f → Find h f x n 0
find_start h f x n e = record { inside = omega arith; count = e; rest = refl }

pub slots_length : (h : List ℕ) (f : ℕ) → length (slots_held h f) ≡ slot_count_at h f
unfolding slots_held
slots_length h f = listed_length (slot_held h f) (slot_count_at h f)

pub slot_at : (h : List ℕ) (f i : ℕ) (d : Slot) → i < slot_count_at h f → get_or (slots_held h f) i d ≡ slot_held h f i
unfolding slots_held
slot_at h f i d lt = listed_at (slot_held h f) (slot_count_at h f) i d lt

module _ (h : List ℕ) (f x n i : ℕ) (a : Find h f x n i) where
  pub find_gone : n ≤ i → None ≡ slot_from (slots_held h f) x 0
  unfolding slot_from
  find_gone le =
      let l = slots_length h f in
      let c = a.count in
      rw (drop_of_length-le (slots_held h f) {i = i} (omega arith)) at a.rest

  module _ (lt : i < n) (s : ℕ) (es : s ≡ slot_name_at h f i) where
    find_turn : pick (eqb s x) (Some i) (slot_from (drop (i + 1) (slots_held h f)) x (i + 1)) ≡ slot_from (slots_held h f) x 0
    unfolding slot_from slot_held
    find_turn =
        let l = slots_length h f in
        let c = a.count in
        rw (es, add-one i)
        (rw (drop-cons (slots_held h f) i (slot_held h f i) (omega arith), slot_at h f i (slot_held h f i) (omega arith), add-one i) at a.rest)

    pub find_here : s ≡ x → Some i ≡ slot_from (slots_held h f) x 0
    find_here e = rw (eq-eqb _ _ e) at find_turn

    pub find_again : (s ≡ x → ⊥) → Find h f x n (i + 1)
    find_again e = record { inside = omega arith; count = a.count; rest = rw (ne_eqb _ _ e) at find_turn }

-- ---- get

pub get_else : (h : List ℕ) (x : ℕ) (v : Value) → ((k : ℕ) → v ≡ Value.Frame k → ⊥) → fetched None ≡ get (frames_held h) v x
unfolding get frame_of ◌>>=◌
get_else h x (Value.Int n) e = refl
get_else h x (Value.Text t) e = refl
get_else h x (Value.Code n) e = refl
get_else h x (Value.Frame f) e = absurd (e f refl)

-- a frame's slots as `framed` reads them
pub get_frame : (h : List ℕ) (f x : ℕ) → f < 256 → get (frames_held h) (Value.Frame f) x ≡ in_slots (frame_held h f).slots x
unfolding get frame_of ◌>>=◌ in_frame
get_frame h f x lt = rw (frame_found h f lt)

get_none : (h : List ℕ) (f x : ℕ) → 256 ≤ f → get (frames_held h) (Value.Frame f) x ≡ none
unfolding get frame_of ◌>>=◌
get_none h f x le = rw (elem_past (frames_held h) f (let l = frames_length h in omega arith))

module _ (h : List ℕ) (x : ℕ) (v : Value) (f : ℕ) (ev : v ≡ Value.Frame f) where
  pub get_past : 256 ≤ f → fetched None ≡ get (frames_held h) v x
  get_past le = rw (ev, get_none h f x le)

  module _ (lt : f < 256) (b : Bool) (eb : b ≡ frame_used h f) where
    pub get_free : not b ≡ true → fetched None ≡ get (frames_held h) v x
    unfolding in_slots
    get_free e = rw (ev, get_frame h f x lt, frame_of_free h f (sym eb ∙ not-true b e))

    module _ (u : not b ≡ false) (r : Option ℕ) (er : r ≡ slot_from (slots_held h f) x 0) where
      get_used : get (frames_held h) v x ≡ in_slots (slots_held h f) x
      get_used = rw (ev, get_frame h f x lt, frame_of_used h f (sym eb ∙ not-false b u))

      pub get_missing : r ≡ None → fetched None ≡ get (frames_held h) v x
      get_missing e = rw (get_used, (slot_miss (slots_held h f) x r er e).value)

      pub get_found : (i : ℕ) (w : Value) → r ≡ Some i → w ≡ slot_value_at h f i → fetched (Some w) ≡ get (frames_held h) v x
      unfolding slot_held
      get_found i w e ew =
          let a = slot_hit (slots_held h f) x r er i e in
          let b = a.below in
          let l = slots_length h f in
          rw (get_used, a.value (slot_held h f i), slot_at h f i (slot_held h f i) (omega arith), ew)

-- ---- path_name_after, fetch

pub path_at : (p : List ℕ) (j i a b r : ℕ) → a ≡ j → b ≡ i → r ≡ word p (2496 + (a + b)) → r ≡ path_name p (j + i)
unfolding path_name
path_at p j i a b r ea eb e = rw (e, ea, eb)

pub path_length : (p : List ℕ) (j n : ℕ) → length (path_held p j n) ≡ n
unfolding path_held
path_length p j n = listed_length _ n

path_get : (p : List ℕ) (j n i : ℕ) → i < n → get_or (path_held p j n) i 0 ≡ path_name p (j + i)
unfolding path_held
path_get p j n i lt = listed_at _ n i 0 lt

-- at name i the value is v, and what is left to fetch from it is the answer
pub record Walk (h p : List ℕ) (root : Value) (j n : ℕ) (v : Value) (i : ℕ) : Type 0 where
  pub inside : i ≤ n
  pub rest : fetch (frames_held h) v (drop i (path_held p j n)) ≡ fetch (frames_held h) root (path_held p j n)

pub walk_start : (h p : List ℕ) (v : Value) (j n : ℕ) → Walk h p v j n v 0
walk_start h p v j n = record { inside = omega arith; rest = refl }

module _ (h p : List ℕ) (root : Value) (j n : ℕ) (v : Value) (i : ℕ) (a : Walk h p root j n v i) where
  pub walk_done : n ≤ i → fetched (Some v) ≡ fetch (frames_held h) root (path_held p j n)
  unfolding fetch
  walk_done le = let l = path_length p j n in rw (drop_of_length-le (path_held p j n) {i = i} (omega arith)) at a.rest

  module _ (lt : i < n) (x : ℕ) (ex : x ≡ path_name p (j + i)) (r : Option Value) (er : fetched r ≡ get (frames_held h) v x) where
    walk_turn : ◌>>=◌ (fetched r) (λ w. fetch (frames_held h) w (drop (i + 1) (path_held p j n))) ≡ fetch (frames_held h) root (path_held p j n)
    unfolding fetch
    walk_turn =
        let l = path_length p j n in
        rw (er, ex, add-one i)
        (rw (drop-cons (path_held p j n) i 0 (omega arith), path_get p j n i lt) at a.rest)

    pub walk_undefined : r ≡ None → fetched None ≡ fetch (frames_held h) root (path_held p j n)
    unfolding ◌>>=◌
    walk_undefined e = rw e at walk_turn

    pub walk_again : (w : Value) → r ≡ Some w → Walk h p root j n w (i + 1)
    unfolding ◌>>=◌
    walk_again w e = record { inside = omega arith; rest = rw e at walk_turn }
