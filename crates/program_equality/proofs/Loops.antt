-- The loops of `same_list` and `same_slots`: what is left from two places on decides; and `same_codes`. Assumes nothing.
use mathlib.Core.Path.{◌≡◌, refl, ◌∙◌, ap, sym}
use mathlib.Core.Bool.{Bool, true, false, ◌&&◌}
use mathlib.Core.List.{List}
use Prim.Native.Nat.{ℕ, suc, ◌-◌, ◌≤◌, ◌<◌}
use native.Mathlib.Omega.{arith}
use native.Mathlib.Decide.{ℕ_discrete}
use lib.Dec.{eqb}
use lib.ListN.{get_or}
use borrow.Author.Tests.{eq-eqb, ne_eqb}
use Rattle.framed.specs.Tree.{Slots, Code, ◌then◌}
use Rattle.framed.specs.Paths.{Path}
use Rattle.framed.specs.Equality.{same_base, same_slots, same_code}
use Rattle.framed.proofs.SameCodeExact.{code_self}
use Rattle.tables.specs.Fields.{slot_name, slot_after, instruction_after}
use Rattle.program_form.specs.WellFormed.{WellFormed}
use Rattle.program_form.specs.Sound.{SlotPlace}
use Rattle.program_form.proofs.Decides.{sound}
use Rattle.texts.specs.Literals.{literals_held}
use Rattle.trees.specs.Held.{expression_held, slots_held, instruction_held, remaining, program_held}
use Rattle.trees.proofs.Held.{one_level_held}
use Rattle.places.specs.Places.{CodePlace, first_place}
use Rattle.places.proofs.Codes.{code_at, place_small}
use Rattle.places.proofs.Laws as places
use Rattle.program_weights.specs.Weight.{base_weight, expression_weight, slots_weight, instruction_weight, code_weight}
use Rattle.program_equality.specs.Agreement.{expressions_agree, slots_agree, instructions_agree, lists_agree, codes_agree, TwoExpressions, TwoSlotPlaces, TwoInstructions, TwoCodePlaces}

-- ---- The instructions from two places on

module _ (p l : List ℕ) (from to : ℕ) where
  pub record ListsLeft (a b : ℕ) : Type 0 where
    pub places : TwoCodePlaces p l a b
    pub fewer : code_weight (remaining p a) ≤ code_weight (remaining p from)
    pub rest : lists_agree p l a b ≡ lists_agree p l from to

  pub lists_start : TwoCodePlaces p l from to → ListsLeft from to
  lists_start s = record { places = s; fewer = omega arith; rest = refl }

  module _ (a b : ℕ) (s : ListsLeft a b) where
    w : WellFormed p l
    w = s.places.program

    lists_as : (is js : Code Path) → remaining p a ≡ is → remaining p b ≡ js → lists_agree p l from to ≡ same_code (literals_held p l) is js
    unfolding lists_agree
    lists_as is js ei ej = sym s.rest ∙ rw (ei, ej)

    next_here : (z n : ℕ) → CodePlace p z → (z ≡ 0 → ⊥) → n ≡ instruction_after p (z - 1) → remaining p z ≡ (instruction_held p (z - 1) then remaining p n)
    next_here z n c ne next =
        ap (remaining p) {x = z} {y = suc (z - 1)} (omega arith)
        ∙ (one_level_held p l w).next (z - 1) (c.there (z - 1) (omega arith))
        ∙ ap (λ (k : ℕ). instruction_held p (z - 1) then remaining p k) (sym next)

    none_here : (z : ℕ) → z ≡ 0 → remaining p z ≡ Code.finished
    none_here z e = ap (remaining p) e ∙ (one_level_held p l w).finished

    -- the first ends: so must the second
    pub lists_end : a ≡ 0 → eqb b 0 ≡ lists_agree p l from to
    unfolding same_base
    lists_end ea = go (ℕ_discrete b 0)
      where
        go : Dec (b ≡ 0) → eqb b 0 ≡ lists_agree p l from to
        go (yes e) = eq-eqb b 0 e ∙ sym (lists_as _ _ (none_here a ea) (none_here b e))
        go (no n) = ne_eqb b 0 n ∙ sym (lists_as _ _ (none_here a ea) (next_here b _ s.places.right n refl))

    module _ (na : a ≡ 0 → ⊥) where
      pub second_shorter : b ≡ 0 → false ≡ lists_agree p l from to
      unfolding same_base
      second_shorter eb = sym (lists_as _ _ (next_here a _ s.places.left na refl) (none_here b eb))

      pub instruction_falls : (t : ℕ) → code_weight (remaining p from) ≡ t → instruction_weight (instruction_held p (a - 1)) < t
      unfolding base_weight
      instruction_falls t h = let q = ap code_weight (next_here a _ s.places.left na refl) in let f = s.fewer in omega arith

      module _ (nb : b ≡ 0 → ⊥) where
        pub two_instructions : TwoInstructions p l (a - 1) (b - 1)
        two_instructions = record {
          program = w;
          left = s.places.left.there (a - 1) (omega arith);
          right = s.places.right.there (b - 1) (omega arith);
        }

        both_next : (n m : ℕ) → n ≡ instruction_after p (a - 1) → m ≡ instruction_after p (b - 1)
            → instructions_agree p l (a - 1) (b - 1) && lists_agree p l n m ≡ lists_agree p l from to
        unfolding same_base instructions_agree lists_agree
        both_next n m en em = sym (lists_as _ _ (next_here a n s.places.left na en) (next_here b m s.places.right nb em))

        module _ (r : Bool) (er : r ≡ instructions_agree p l (a - 1) (b - 1)) where
          pub lists_apart : r ≡ false → false ≡ lists_agree p l from to
          lists_apart e = rw (← er, e) at (both_next _ _ refl refl)

          module _ (n m : ℕ) (en : n ≡ instruction_after p (a - 1)) (em : m ≡ instruction_after p (b - 1)) where
            pub list_less : code_weight (remaining p n) < code_weight (remaining p a)
            unfolding base_weight
            list_less = let q = ap code_weight (next_here a n s.places.left na en) in omega arith

            pub lists_again : r ≡ true → ListsLeft n m
            lists_again e = record {
              places = record {
                program = w;
                left = record { there = λ i q. (sound p l w).next_there (a - 1) i two_instructions.left (sym en ∙ q) };
                right = record { there = λ i q. (sound p l w).next_there (b - 1) i two_instructions.right (sym em ∙ q) };
              };
              fewer = let q = list_less in let f = s.fewer in omega arith;
              rest = rw (← er, e) at (both_next n m en em);
            }

-- ---- The slots from two places on

module _ (p l : List ℕ) (from to : ℕ) where
  pub record SlotsLeft (a b : ℕ) : Type 0 where
    pub places : TwoSlotPlaces p l a b
    pub fewer : slots_weight (slots_held p a) ≤ slots_weight (slots_held p from)
    pub rest : slots_agree p l a b ≡ slots_agree p l from to

  pub slots_start : TwoSlotPlaces p l from to → SlotsLeft from to
  slots_start s = record { places = s; fewer = omega arith; rest = refl }

  module _ (a b : ℕ) (s : SlotsLeft a b) where
    g : WellFormed p l
    g = s.places.program

    slots_as : (ss ts : Slots Path) → slots_held p a ≡ ss → slots_held p b ≡ ts → slots_agree p l from to ≡ same_slots (literals_held p l) ss ts
    unfolding slots_agree
    slots_as ss ts es et = sym s.rest ∙ rw (es, et)

    slot_here : (z n : ℕ) → SlotPlace p z → (z ≡ 0 → ⊥) → n ≡ slot_after p (z - 1) → slots_held p z ≡ Slots.slot (slot_name p (z - 1)) (expression_held p (z - 1)) (slots_held p n)
    slot_here z n c ne next = places.slots_open p l g z c ne n next

    no_slot_here : (z : ℕ) → z ≡ 0 → slots_held p z ≡ Slots.no_slots
    no_slot_here z e = ap (slots_held p) e ∙ (one_level_held p l g).no_slots

    pub slots_end : a ≡ 0 → eqb b 0 ≡ slots_agree p l from to
    unfolding same_base
    slots_end ea = go (ℕ_discrete b 0)
      where
        go : Dec (b ≡ 0) → eqb b 0 ≡ slots_agree p l from to
        go (yes e) = eq-eqb b 0 e ∙ sym (slots_as _ _ (no_slot_here a ea) (no_slot_here b e))
        go (no n) = ne_eqb b 0 n ∙ sym (slots_as _ _ (no_slot_here a ea) (slot_here b _ s.places.right n refl))

    module _ (na : a ≡ 0 → ⊥) where
      pub slots_fewer : b ≡ 0 → false ≡ slots_agree p l from to
      unfolding same_base
      slots_fewer eb = sym (slots_as _ _ (slot_here a _ s.places.left na refl) (no_slot_here b eb))

      pub slot_falls : (t : ℕ) → slots_weight (slots_held p from) ≡ t → expression_weight (expression_held p (a - 1)) < t
      unfolding base_weight
      slot_falls t h = let q = ap slots_weight (slot_here a _ s.places.left na refl) in let f = s.fewer in omega arith

      module _ (nb : b ≡ 0 → ⊥) where
        pub two_slots : TwoExpressions p l (a - 1) (b - 1)
        two_slots = record {
          program = g;
          left = places.slot_there p l g a s.places.left na;
          right = places.slot_there p l g b s.places.right nb;
        }

        both_slots : (n m : ℕ) → n ≡ slot_after p (a - 1) → m ≡ slot_after p (b - 1)
            → eqb (slot_name p (a - 1)) (slot_name p (b - 1)) && (expressions_agree p l (a - 1) (b - 1) && slots_agree p l n m) ≡ slots_agree p l from to
        unfolding same_base expressions_agree slots_agree
        both_slots n m en em = sym (slots_as _ _ (slot_here a n s.places.left na en) (slot_here b m s.places.right nb em))

        module _ (x y : ℕ) (ex : x ≡ slot_name p (a - 1)) (ey : y ≡ slot_name p (b - 1)) where
          pub slots_named_apart : (x ≡ y → ⊥) → false ≡ slots_agree p l from to
          slots_named_apart ne = rw (← ex, ← ey, ne_eqb x y ne) at (both_slots _ _ refl refl)

          module _ (same : x ≡ y) (r : Bool) (er : r ≡ expressions_agree p l (a - 1) (b - 1)) where
            pub slots_apart : r ≡ false → false ≡ slots_agree p l from to
            slots_apart e = rw (← ex, ← ey, eq-eqb x y same, ← er, e) at (both_slots _ _ refl refl)

            module _ (n m : ℕ) (en : n ≡ slot_after p (a - 1)) (em : m ≡ slot_after p (b - 1)) where
              pub slot_less : slots_weight (slots_held p n) < slots_weight (slots_held p a)
              unfolding base_weight
              slot_less = let q = ap slots_weight (slot_here a n s.places.left na en) in omega arith

              pub slots_again : r ≡ true → SlotsLeft n m
              slots_again e = record {
                places = record { program = g; left = places.next_place p l g a s.places.left na n en; right = places.next_place p l g b s.places.right nb m em };
                fewer = let q = slot_less in let f = s.fewer in omega arith;
                rest = rw (← ex, ← ey, eq-eqb x y same, ← er, e) at (both_slots n m en em);
              }

-- ---- Two codes

module _ (p l : List ℕ) (k m : ℕ) where
  pub codes_same : k ≡ m → true ≡ codes_agree p l k m
  unfolding codes_agree
  codes_same e = rw e (sym (code_self (literals_held p l) (get_or (program_held p l).codes m Code.finished)))

  module _ (w : WellFormed p l) (a b : ℕ) (ea : a ≡ first_place p k) (eb : b ≡ first_place p m) where
    pub first_places : TwoCodePlaces p l a b
    first_places = record { program = w; left = place_of k a ea; right = place_of m b eb }
      where
        place_of : (n z : ℕ) → z ≡ first_place p n → CodePlace p z
        place_of n z e = record { there = λ i q. let h = place_small p l w n in omega arith }

    pub codes_compared : (r : Bool) → r ≡ lists_agree p l a b → r ≡ codes_agree p l k m
    unfolding lists_agree codes_agree
    codes_compared r e = e ∙ rw (ea, eb, code_at p l w k, code_at p l w m)
