-- The place within a slot or a code is the one that is meant, and has room; what a base begins with. Assumes nothing.
use mathlib.Core.Path.{◌≡◌, refl, sym, ap, ◌∙◌}
use mathlib.Core.Bool.{Bool, true, false, ◌||◌, true≢false}
use mathlib.Core.List.{List}
use Prim.Native.Nat.{ℕ, suc, max, ◌+◌, ◌<◌, ◌≤◌}
use native.Mathlib.Omega.{arith}
use native.Mathlib.Numerals.{add-one}
use lib.Dec.{eqb, leb, ltb}
use lib.ListN.{take, set, length-set}
use lib.Seq.{take-suc-set}
use borrow.Author.Tests.{lt-ltb}
use Rattle.framed.specs.Common.{when◌then◌else◌}
use Rattle.framed.specs.Symbols.{Symbol}
use Rattle.framed.specs.Tree.{Written, Base, Expression, Slots}
use Rattle.framed.specs.Grammar.{Path⊢, Base⊢}
use Rattle.framed.specs.Paths.{within_slot, within_code, resolve_expression, resolve_slots}
use Rattle.framed.specs.Paths as Paths
use Rattle.token.specs.Reading.{fixed_kind}
use Rattle.sweep.specs.Kinds.{kind_of, front_kind}
use Rattle.emit_steps.specs.Steps.{place_of, inner_slot, inner_code}
use Rattle.emit_steps.specs.declared.Place.{Place}
use Rattle.emit_paths.specs.Emits.{PlaceOk}
use Rattle.emit_tree.specs.Members.{expression_deep, slots_deep, Room, NoOperation, ExpressionFits, SlotsFit, Inside, FrameFits}

-- ---- In code

pub code_place : (place : Place) → place_of (inner_code place) ≡ within_code (place_of place)
unfolding place_of within_code
code_place place = go place.in_code
  where
    go : (t : Bool) → Paths.in_code (take place.depth place.names) ≡
        within_code (when t then Paths.in_code (take place.depth place.names) else Paths.outside_code (take place.depth place.names))
    go true = refl
    go false = refl

pub code_inside : (place : Place) → PlaceOk place → Inside (inner_code place)
code_inside place ok = record { ok = record { deep = ok.deep; sixteen = ok.sixteen }; in_code = refl }

pub not_outside : (place : Place) → Inside place → place.in_code ≡ false → ⊥
not_outside place h e = true≢false (sym h.in_code ∙ e)

pub inside_fits : (place : Place) (ss : Slots Written) → Inside place → SlotsFit place ss
inside_fits place ss h = record { room = record { ok = h.ok; deep = λ e. absurd (not_outside place h e) }; plain = λ e. absurd (not_outside place h e) }

-- ---- In a slot

pub room_less : (place : Place) (j k : ℕ) → j ≤ k → Room place k → Room place j
room_less place j k l h = record { ok = h.ok; deep = λ e. less place.depth (h.deep e) }
  where
    less : (d : ℕ) → d + k ≤ 16 → d + j ≤ 16
    less d m = omega arith

module _ (place : Place) (m k : ℕ) (h : Room place (suc k)) where
  shallow : (d : ℕ) → d + suc k ≤ 16 → d < 16
  shallow d l = omega arith

  pub slot_place : place_of (inner_slot place m) ≡ within_slot m (place_of place)
  unfolding place_of within_slot inner_slot
  slot_place = go place.in_code refl
    where
      go : (t : Bool) → place.in_code ≡ t → place_of (inner_slot place m) ≡ within_slot m (place_of place)
      go true e = rw e
      go false e =
          let l = shallow place.depth (h.deep e) in
          rw (e, lt-ltb place.depth 16 l, add-one place.depth) (ap Paths.outside_code (take-suc-set place.names place.depth m (rw h.ok.sixteen l)))

  pub slot_room : Room (inner_slot place m) k
  unfolding inner_slot
  slot_room = go place.in_code refl
    where
      deeper : (d : ℕ) → d + suc k ≤ 16 → d + 1 + k ≤ 16
      deeper d l = omega arith

      go : (t : Bool) → place.in_code ≡ t → Room (inner_slot place m) k
      go true e = rw e (record { ok = record { deep = h.ok.deep; sixteen = h.ok.sixteen }; deep = λ f. absurd (true≢false f) })
      go false e =
          let l = shallow place.depth (h.deep e) in
          rw (e, lt-ltb place.depth 16 l)
          (record { ok = record { deep = omega arith; sixteen = length-set place.names place.depth m ∙ h.ok.sixteen }; deep = λ f. deeper place.depth (h.deep e) })

pub inner_same : (place : Place) (m : ℕ) (e : Expression Written) → Room place (expression_deep e) →
    resolve_expression (place_of place) (place_of (inner_slot place m)) e ≡ resolve_expression (place_of place) (within_slot m (place_of place)) e
unfolding resolve_expression expression_deep
inner_same place m (Expression.base b) h = refl
inner_same place m (Expression.not b) h = refl
inner_same place m (Expression.operation o a b) h = refl
inner_same place m (Expression.frame ss) h = ap (λ (q : Paths.Place). Expression.frame (resolve_slots q ss)) (slot_place place m (slots_deep ss) h)

-- a slot is in code where its frame is
slot_code : (place : Place) (m : ℕ) → (inner_slot place m).in_code ≡ place.in_code
unfolding inner_slot
slot_code place m = go place.in_code (ltb place.depth 16) refl
  where
    go : (t u : Bool) → place.in_code ≡ t →
        (when t then place else when u then record { in_code = false; depth = place.depth + 1; names = set place.names place.depth m } else place).in_code ≡ place.in_code
    go true u e = refl
    go false true e = sym e
    go false false e = refl

pub inner_fits : (place : Place) (m : ℕ) (e : Expression Written) → ExpressionFits place e → FrameFits (inner_slot place m) e
unfolding expression_deep NoOperation
inner_fits place m e h = record { slots = go }
  where
    go : (ss : Slots Written) → e ≡ Expression.frame ss → SlotsFit (inner_slot place m) ss
    go ss f = record { room = slot_room place m (slots_deep ss) (rw f at h).room; plain = λ q. (rw f at h).plain (sym (slot_code place m) ∙ q) }

pub slot_fits : (place : Place) (m : ℕ) (e : Expression Written) (ss : Slots Written) → SlotsFit place (Slots.slot m e ss) → ExpressionFits place e × SlotsFit place ss
unfolding slots_deep NoOperation
slot_fits place m e ss h = (
  record { room = room_less place (expression_deep e) _ (left (expression_deep e) (slots_deep ss)) h.room; plain = λ q. (h.plain q).0 },
  record { room = room_less place (slots_deep ss) _ (right (expression_deep e) (slots_deep ss)) h.room; plain = λ q. (h.plain q).1 },
)
  where
    left : (a b : ℕ) → a ≤ max a b
    left a b = omega arith

    right : (a b : ℕ) → b ≤ max a b
    right a b = omega arith

-- ---- What a base begins with

abbrev begins_base : ℕ → Bool
begins_base k = eqb k 1 || eqb k 8 || leb 26 k

base_begins : (us vs : List Symbol) (b : Base Written) → Base⊢ us b vs → begins_base (front_kind us) ≡ true
unfolding front_kind kind_of fixed_kind
base_begins _ vs _ Base⊢.integer = refl
base_begins _ vs _ Base⊢.string = refl
base_begins _ vs _ (Base⊢.path (Path⊢.self d)) = refl
base_begins _ vs _ (Base⊢.path (Path⊢.up d g)) = refl
base_begins _ vs _ (Base⊢.code d) = refl

pub not_base : (k : ℕ) → begins_base k ≡ false → (us vs : List Symbol) (b : Base Written) → Base⊢ us b vs → front_kind us ≡ k → ⊥
not_base k f us vs b d e = true≢false (sym (base_begins us vs b d) ∙ ap begins_base e ∙ f)
