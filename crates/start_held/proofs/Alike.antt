-- Two states with the same frames under the same numbers, as far as they are reached, are alike without a renaming. Assumes nothing.
use mathlib.Core.Path.{◌≡◌, refl, ap, ap₂, ◌∙◌}
use mathlib.Core.List.{List, [], ◌∷◌, map}
use mathlib.Core.Option.{Option, none, some}
use Prim.Native.Nat.{ℕ}
use lib.ListN.{get_elem?}
use Rattle.framed.specs.declared.Value.{Value}
use Rattle.framed.specs.declared.Text.{Text}
use Rattle.framed.specs.Values.{Slot, Frame, with_slots}
use Rattle.framed.specs.Reach.{values_in, Reachable}
use Rattle.framed.specs.Machine.{State}
use Rattle.framed.specs.Alike.{renamed, renamed_slot, renamed_frame, InReach, Alike}
use Rattle.start_held.specs.Starts.{same_numbers}

renamed_same : (v : Value) → renamed same_numbers v ≡ v
unfolding renamed
renamed_same (Value.Int z) = refl
renamed_same (Value.Text (Text.Literal k)) = refl
renamed_same (Value.Text (Text.Made k)) = refl
renamed_same (Value.Code k) = refl
renamed_same (Value.Frame n) = refl

slots_same : (xs : List Slot) → map (renamed_slot same_numbers) xs ≡ xs
unfolding renamed_slot
slots_same [] = refl
slots_same (x ∷ xs) =
    ap₂ (λ (a : Slot) (l : List Slot). a ∷ l) (ap (λ (v : Value). record { name = x.name; value = v }) (renamed_same x.value)) (slots_same xs)

frame_same : (o : Option Frame) → renamed_frame same_numbers o ≡ o
unfolding renamed_frame
frame_same none = refl
frame_same (some f) = ap (λ (ss : List Slot). some (with_slots f ss)) (slots_same f.slots)

pub record SameNumbers (s t : State) : Type 0 where
  pub remaining : s.remaining ≡ t.remaining
  pub next : s.next ≡ t.next
  pub self : s.self ≡ t.self
  pub program : s.program ≡ t.program
  pub end_mark : s.end_mark ≡ t.end_mark
  pub values : (n : ℕ) → values_in s.heap.frames n ≡ values_in t.heap.frames n
  pub frame : (n : ℕ) → InReach t (Value.Frame n) → get_elem? s.heap.frames n ≡ get_elem? t.heap.frames n
  pub text : (k : ℕ) → InReach t (Value.Text (Text.Made k)) → get_elem? s.heap.texts k ≡ get_elem? t.heap.texts k

module _ (s t : State) (c : SameNumbers s t) where
  reach_forth : {v : Value} → InReach s v → InReach t v
  reach_forth Reachable.self = rw c.self Reachable.self
  reach_forth Reachable.program = rw c.program Reachable.program
  reach_forth (Reachable.in_slot {n = n} {v} r m) = Reachable.in_slot {n = n} (reach_forth r) (rw (c.values n) at m)

  reach_back : {v : Value} → InReach t v → InReach s v
  reach_back Reachable.self = rw (← c.self) Reachable.self
  reach_back Reachable.program = rw (← c.program) Reachable.program
  reach_back (Reachable.in_slot {n = n} {v} r m) = Reachable.in_slot {n = n} (reach_back r) (rw (← c.values n) at m)

  pub alike_numbers : Alike s t
  alike_numbers = record {
    renaming = same_numbers;
    frames_one_to_one = λ m n a b e. e;
    texts_one_to_one = λ j k a b e. e;
    same_end = c.end_mark;
    same_remaining = c.remaining;
    same_next = c.next;
    self_alike = renamed_same s.self ∙ c.self;
    program_alike = renamed_same s.program ∙ c.program;
    frames_alike = λ n r. frame_same (get_elem? s.heap.frames n) ∙ c.frame n (reach_forth r);
    frames_onto = λ n r. (n, reach_back r, refl);
    texts_onto = λ k r. (k, reach_back r, refl);
    texts_alike = λ k r. c.text k (reach_forth r);
  }

  pub alike_no_renaming : alike_numbers.renaming ≡ same_numbers
  unfolding alike_numbers
  alike_no_renaming = refl
