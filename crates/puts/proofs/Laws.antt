-- One law for each way through the functions of this crate. Assumes nothing.
use Prim.Native.Nat.{ℕ, suc, ◌+◌, ◌-◌, ◌≤◌, ◌<◌}
use mathlib.Core.Path.{◌≡◌, refl, ◌∙◌, ap, sym}
use mathlib.Core.List.{List, [], ◌∷◌, ◌++◌}
use mathlib.Core.Bool.{Bool, true, false, not}
use mathlib.Core.Option.{Option as Optional, none, some}
use native.Mathlib.Omega.{arith}
use lib.ListN.{length, get_elem?}
use lib.Dec.{ltb}
use borrow.Author.Tests.{lt-ltb, le-ltb, not-true, not-false}
use Rattle.std.specs.Prelude.{Option, Some, None, is_some}
use Rattle.words.specs.Words.{pick}
use Rattle.framed.specs.Common.{when◌then◌else◌}
use Rattle.framed.specs.declared.Value.{Value}
use Rattle.framed.specs.Values.{Slot, Frame, new_frame}
use Rattle.framed.specs.Fetch.{◌>>=◌, in_slots, in_frame, get, fetch}
use Rattle.framed.specs.Machine.{Result, gives, defined, frame_number, holds}
use Rattle.framed.specs.Machine as machine
use Rattle.bounded.specs.Check.{Target, target, has_place, slot_end, target_end}
use Rattle.tables.specs.Fields.{path_name}
use Rattle.heap.specs.Words.{frame_used, slot_count_at, maker_at, set_slot_value, add_slot}
use Rattle.heap.specs.Lists.{listed}
use Rattle.heap.specs.Held.{slot_held, slots_held, frames_held}
use Rattle.heap.proofs.Lists.{elem_past}
use Rattle.heap.proofs.Held.{frames_length, frame_found, frame_of_used, frame_of_free}
use Rattle.puts.specs.declared.PutTarget.{PutTarget}
use Rattle.paths.specs.Paths.{slot_from, fetched, path_held}
use Rattle.paths.proofs.Slots.{slot_hit, slot_miss}
use Rattle.paths.proofs.Laws.{slots_length}
use Rattle.puts.specs.Puts.{targeted, target_along, put_slot}

-- ---- put_target

-- what a walk that comes to u gives, with the last name z
came : ℕ → Value → Result Target
came z u = machine.◌>>=◌ (frame_number u) (λ k. gives (record { frame = k; name = z }))

target_cons : (frames : List Frame) (v : Value) (y : ℕ) (ys : List ℕ) (z : ℕ) →
    target frames v y (ys ++ (z ∷ [])) ≡ machine.◌>>=◌ (defined (get frames v y)) (λ u. target_along frames u (ys ++ (z ∷ [])))
unfolding target target_along
target_cons frames v y [] z = refl
target_cons frames v y (x ∷ ys) z = refl

target_snoc : (frames : List Frame) (v : Value) (ys : List ℕ) (z : ℕ) →
    target_along frames v (ys ++ (z ∷ [])) ≡ machine.◌>>=◌ (defined (fetch frames v ys)) (came z)
unfolding target_along target fetch defined machine.◌>>=◌ ◌>>=◌ came
target_snoc frames v [] z = refl
target_snoc frames v (y ∷ ys) z = target_cons frames v y ys z ∙ go (get frames v y) (λ u. target_snoc frames u ys z)
  where
    go : (o : Optional Value) → ((u : Value) → target_along frames u (ys ++ (z ∷ [])) ≡ machine.◌>>=◌ (defined (fetch frames u ys)) (came z)) →
        machine.◌>>=◌ (defined o) (λ u. target_along frames u (ys ++ (z ∷ []))) ≡ machine.◌>>=◌ (defined (◌>>=◌ o (λ u. fetch frames u ys))) (came z)
    go none ih = refl
    go (some u) ih = ih u

none_came : (v : Value) (z : ℕ) → ((k : ℕ) → v ≡ Value.Frame k → ⊥) → targeted None ≡ came z v
unfolding came frame_number machine.◌>>=◌
none_came (Value.Int n) z e = refl
none_came (Value.Text t) z e = refl
none_came (Value.Code n) z e = refl
none_came (Value.Frame f) z e = absurd (e f refl)

module _ (h p : List ℕ) (root : Value) (j n : ℕ) where
  pub target_empty : n ≡ 0 → targeted None ≡ target_along (frames_held h) root (path_held p j n)
  unfolding target_along path_held listed
  target_empty e = rw e

  module _ (ne : n ≡ 0 → ⊥) where
    target_last : target_along (frames_held h) root (path_held p j n)
        ≡ machine.◌>>=◌ (defined (fetch (frames_held h) root (path_held p j (n - 1)))) (came (path_name p (j + (n - 1))))
    unfolding path_held listed
    target_last =
        ap (λ (k : ℕ). target_along (frames_held h) root (path_held p j k)) {x = n} {y = suc (n - 1)} (omega arith)
        ∙ target_snoc (frames_held h) root (path_held p j (n - 1)) (path_name p (j + (n - 1)))

    module _ (r : Option Value) (er : fetched r ≡ fetch (frames_held h) root (path_held p j (n - 1))) where
      pub target_undefined : r ≡ None → targeted None ≡ target_along (frames_held h) root (path_held p j n)
      unfolding defined machine.◌>>=◌
      target_undefined e = rw (target_last, ← er, e)

      module _ (v : Value) (ev : r ≡ Some v) where
        target_came : target_along (frames_held h) root (path_held p j n) ≡ came (path_name p (j + (n - 1))) v
        unfolding defined machine.◌>>=◌
        target_came = rw (target_last, ← er, ev)

        pub target_else : ((k : ℕ) → v ≡ Value.Frame k → ⊥) → targeted None ≡ target_along (frames_held h) root (path_held p j n)
        target_else e = rw target_came (none_came v (path_name p (j + (n - 1))) e)

        pub target_found : (f x : ℕ) → v ≡ Value.Frame f → x ≡ path_name p (j + (n - 1)) → targeted (Some (record { frame = f; name = x })) ≡ target_along (frames_held h) root (path_held p j n)
        unfolding came frame_number machine.◌>>=◌
        target_found f x e ex = rw (target_came, e, ex)

  -- a path of one name
  module _ (one : n ≡ 1) where
    stays : fetched (Some root) ≡ fetch (frames_held h) root (path_held p j (n - 1))
    unfolding fetch path_held listed
    stays = rw one

    not_empty : n ≡ 0 → ⊥
    not_empty e = omega arith

    pub one_else : ((k : ℕ) → root ≡ Value.Frame k → ⊥) → targeted None ≡ target_along (frames_held h) root (path_held p j n)
    one_else e = target_else not_empty (Some root) stays root refl e

    pub one_found : (f x : ℕ) → root ≡ Value.Frame f → x ≡ path_name p (j + 0) → targeted (Some (record { frame = f; name = x })) ≡ target_along (frames_held h) root (path_held p j n)
    one_found f x e ex = target_found not_empty (Some root) stays root refl f x e (ex ∙ ap (λ (k : ℕ). path_name p (j + k)) {x = 0} {y = n - 1} (omega arith))

-- ---- slot_end, put_end

-- the place that a name has, by what Fetch finds
module _ (m : ℕ) (ss : List Slot) (x : ℕ) where
  held_some : (v : Value) → in_slots ss x ≡ some v → holds (new_frame m ss) x ≡ true
  unfolding holds in_frame
  held_some v e = ap (λ (o : Optional Value). elim o [ none ↦ false | some w ↦ true ]) e

  held_none : in_slots ss x ≡ none → holds (new_frame m ss) x ≡ false
  unfolding holds in_frame
  held_none e = ap (λ (o : Optional Value). elim o [ none ↦ false | some w ↦ true ]) e

  place_found : (v : Value) → in_slots ss x ≡ some v → has_place (new_frame m ss) x ≡ true
  unfolding has_place
  place_found v e = rw (held_some v e)

  pub place_none : in_slots ss x ≡ none → has_place (new_frame m ss) x ≡ ltb (length ss) 16
  unfolding has_place
  place_none e = rw (held_none e)

module _ (h : List ℕ) (f x : ℕ) where
  pub end_past : 256 ≤ f → 31 ≡ slot_end (get_elem? (frames_held h) f) x
  unfolding slot_end
  end_past le = rw (elem_past (frames_held h) f (let l = frames_length h in omega arith))

  module _ (lt : f < 256) (b : Bool) (eb : b ≡ frame_used h f) where
    pub end_free : not b ≡ true → 0 ≡ slot_end (get_elem? (frames_held h) f) x
    unfolding slot_end has_place holds in_frame in_slots
    end_free e = rw (frame_found h f lt, frame_of_free h f (sym eb ∙ not-true b e))

    module _ (u : not b ≡ false) (r : Option ℕ) (er : r ≡ slot_from (slots_held h f) x 0) where
      end_used : slot_end (get_elem? (frames_held h) f) x ≡ pick {A = ℕ} (has_place (new_frame (maker_at h f) (slots_held h f)) x) 0 35
      unfolding slot_end
      end_used = rw (frame_found h f lt, frame_of_used h f (sym eb ∙ not-false b u)) (go (has_place (new_frame (maker_at h f) (slots_held h f)) x))
        where
          go : (b : Bool) → ◌≡◌ {A = ℕ} (when b then 0 else 35) (pick b 0 35)
          go true = refl
          go false = refl

      pub end_found : (s : Bool) → s ≡ is_some r → s ≡ true → 0 ≡ slot_end (get_elem? (frames_held h) f) x
      end_found s es o = rw end_used (go r er (sym es ∙ o))
        where
          at : (i : ℕ) → Some i ≡ slot_from (slots_held h f) x 0 → ◌≡◌ {A = ℕ} 0 (pick (has_place (new_frame (maker_at h f) (slots_held h f)) x) 0 35)
          at i e = rw (place_found (maker_at h f) (slots_held h f) x _ ((slot_hit (slots_held h f) x (Some i) e i refl).value (slot_held h f i)))

          go : (q : Option ℕ) → q ≡ slot_from (slots_held h f) x 0 → is_some q ≡ true → ◌≡◌ {A = ℕ} 0 (pick (has_place (new_frame (maker_at h f) (slots_held h f)) x) 0 35)
          go (Some i) e k = at i e
          go None e k = cc

      module _ (s : Bool) (es : s ≡ is_some r) (e : s ≡ false) (n : ℕ) (en : n ≡ slot_count_at h f) where
        place_missing : has_place (new_frame (maker_at h f) (slots_held h f)) x ≡ ltb n 16
        place_missing = place_none (maker_at h f) (slots_held h f) x (slot_miss (slots_held h f) x r er (go r (sym es ∙ e))).value ∙ ap (λ (m : ℕ). ltb m 16) (slots_length h f ∙ sym en)
          where
            go : (q : Option ℕ) → is_some q ≡ false → q ≡ None
            go (Some i) k = cc
            go None k = refl

        pub end_room : n < 16 → 0 ≡ slot_end (get_elem? (frames_held h) f) x
        end_room l = rw (end_used, place_missing, lt-ltb n 16 l)

        pub end_full : 16 ≤ n → 35 ≡ slot_end (get_elem? (frames_held h) f) x
        end_full l = rw (end_used, place_missing, le-ltb n 16 l)

module _ (frames : List Frame) (t : Result Target) (r : Option PutTarget) (er : targeted r ≡ t) where
  pub put_end_none : r ≡ None → 31 ≡ target_end frames t
  unfolding target_end
  put_end_none e = rw (← er, e)

  pub put_end_at : (p : PutTarget) (e : ℕ) → r ≡ Some p → e ≡ slot_end (get_elem? frames p.frame) p.name → e ≡ target_end frames t
  unfolding target_end
  put_end_at p e q ee = rw (← er, q, ee)

-- ---- put_slot

module _ (h : List ℕ) (f x : ℕ) (v : Value) (r : Option ℕ) (er : r ≡ slot_from (slots_held h f) x 0) (h' : List ℕ) where
  pub put_adds : r ≡ None → h' ≡ add_slot h f x v → h' ≡ put_slot h f x v
  unfolding put_slot
  put_adds e q = rw (← er, e, q)

  pub put_sets : (i : ℕ) → r ≡ Some i → h' ≡ set_slot_value h f i v → h' ≡ put_slot h f x v
  unfolding put_slot
  put_sets i e q = rw (← er, e, q)
