-- In states that are alike each instruction made as many of the reachable frames: the renaming pairs those of a maker, one to one and onto.
-- Assumes nothing.
use mathlib.Core.Path.{◌≡◌, refl, sym, ◌∙◌, ap}
use mathlib.Core.Logic.{⊎_elim}
use mathlib.Core.Option.{Option, none, some}
use mathlib.Core.List.Memᴰ
use mathlib.Core.List.{List, [], ◌∷◌, map, Memᴰ}
use Prim.Native.Nat.{ℕ, ◌≤◌}
use native.Mathlib.Omega.{arith}
use lib.ListN.{length, get_elem?}
use Rattle.framed.specs.declared.Value.{Value}
use Rattle.framed.specs.Values.{Slot, Frame, new_frame}
use Rattle.framed.specs.Reach.{slot_value, values_in, Reachable}
use Rattle.framed.specs.Machine.{State}
use Rattle.framed.specs.Alike.{InReach, Renaming, renamed, renamed_slot, renamed_frame, Alike}
use Rattle.framed.specs.Calls.{maker_in, made_by}
use Rattle.framed.specs.Theorems.{Counts, MakersAlike}
use Rattle.framed.proofs.Lists.{or_else, get_or_lem}
use Rattle.framed.proofs.MakersCounted.{makers_counted}
use Rattle.bounded.proofs.Lists.{member_in, in_member, once_no_dup, pigeon}

-- what stands at a place of a list of frames
abbrev frame_or : Option Frame → Frame
frame_or = or_else (new_frame 0 [])

maker_there : (frames : List Frame) (n : ℕ) → maker_in frames n ≡ (frame_or (get_elem? frames n)).maker
unfolding maker_in
maker_there frames n = ap (λ (f : Frame). f.maker) (get_or_lem frames n (new_frame 0 []))

renamed_maker : (ρ : Renaming) (o : Option Frame) → (frame_or (renamed_frame ρ o)).maker ≡ (frame_or o).maker
unfolding renamed_frame
renamed_maker ρ none = refl
renamed_maker ρ (some f) = refl

slot_renamed : (ρ : Renaming) (v : Value) (ss : List Slot) → Memᴰ v (map slot_value ss) → Memᴰ (renamed ρ v) (map slot_value (map (renamed_slot ρ) ss))
unfolding slot_value renamed_slot
slot_renamed ρ v [] m = absurd (Memᴰ.not-nil m)
slot_renamed ρ v (x ∷ ss) m =
    ⊎_elim (λ e. Memᴰ.head (ap (renamed ρ) e)) (λ i. Memᴰ.tail (slot_renamed ρ v ss i)) (Memᴰ.cases_cons m)

frame_renamed : (ρ : Renaming) (v : Value) (o : Option Frame) → Memᴰ v (map slot_value (frame_or o).slots) →
    Memᴰ (renamed ρ v) (map slot_value (frame_or (renamed_frame ρ o)).slots)
unfolding renamed_frame
frame_renamed ρ v none m = absurd (Memᴰ.not-nil m)
frame_renamed ρ v (some f) m = slot_renamed ρ v f.slots m

module _ (s t : State) (a : Alike s t) where
  abbrev ρ : Renaming
  ρ = a.renaming

  -- at a reachable frame
  same_maker : (f : ℕ) → InReach s (Value.Frame f) → maker_in t.heap.frames (ρ.frame f) ≡ maker_in s.heap.frames f
  same_maker f r =
      maker_there t.heap.frames (ρ.frame f)
      ∙ ap (λ (o : Option Frame). (frame_or o).maker) (sym (a.frames_alike f r))
      ∙ renamed_maker ρ (get_elem? s.heap.frames f)
      ∙ sym (maker_there s.heap.frames f)

  values_renamed : (f : ℕ) → InReach s (Value.Frame f) → (v : Value) → Memᴰ v (values_in s.heap.frames f) → Memᴰ (renamed ρ v) (values_in t.heap.frames (ρ.frame f))
  unfolding values_in
  values_renamed f r v m =
      rw (get_or_lem t.heap.frames (ρ.frame f) (new_frame 0 []), ← a.frames_alike f r)
      (frame_renamed ρ v (get_elem? s.heap.frames f) (rw (get_or_lem s.heap.frames f (new_frame 0 [])) at m))

  -- what is reached is renamed to what is reached
  reach_renamed : {v : Value} → InReach s v → InReach t (renamed ρ v)
  unfolding renamed
  reach_renamed Reachable.self = rw a.self_alike Reachable.self
  reach_renamed Reachable.program = rw a.program_alike Reachable.program
  reach_renamed (Reachable.in_slot {n} {v} r m) = Reachable.in_slot (reach_renamed r) (values_renamed n r v m)

  module _ (n : ℕ) where
    -- a reachable frame of s, and what it is renamed to
    record Paired (f g : ℕ) : Type 0 where
      reached : InReach s (Value.Frame f)
      becomes : ρ.frame f ≡ g

    abbrev here : Counts (λ f. InReach s (Value.Frame f) × (maker_in s.heap.frames f ≡ n)) (made_by s n)
    here = makers_counted s n

    abbrev there : Counts (λ f. InReach t (Value.Frame f) × (maker_in t.heap.frames f ≡ n)) (made_by t n)
    there = makers_counted t n

    not_more : length here.list ≤ length there.list
    unfolding renamed
    not_more =
        pigeon Paired (λ f f' g p q. a.frames_one_to_one f f' p.reached q.reached (p.becomes ∙ sym q.becomes))
        here.list there.list (once_no_dup here.list here.each_once)
        (λ f i.
        let c = (here.exactly f).0 (in_member f here.list i) in (
          ρ.frame f,
          record { reached = c.0; becomes = refl },
          member_in (ρ.frame f) there.list ((there.exactly (ρ.frame f)).1 (reach_renamed c.0, same_maker f c.0 ∙ c.1)),
        ))

    not_less : length there.list ≤ length here.list
    not_less =
        pigeon (λ (g f : ℕ). Paired f g) (λ g g' f p q. sym p.becomes ∙ q.becomes)
        there.list here.list (once_no_dup there.list there.each_once)
        (λ g i.
        let c = (there.exactly g).0 (in_member g there.list i) in
        let o = a.frames_onto g c.0 in
        let maker = sym (same_maker o.0 o.1) ∙ ap (maker_in t.heap.frames) o.2 ∙ c.1 in
        (o.0, record { reached = o.1; becomes = o.2 }, member_in o.0 here.list ((here.exactly o.0).1 (o.1, maker))))

    as_many : made_by s n ≡ made_by t n
    as_many = here.counted ∙ (let l = not_more in let g = not_less in let e : length here.list ≡ length there.list = omega arith in e) ∙ sym there.counted

pub makers_alike : MakersAlike
makers_alike s t a n = as_many s t a n
