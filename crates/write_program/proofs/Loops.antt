-- Loops that append: what the laws of one turn are, for the instructions and for the slots from a place on. Assumes nothing.
use mathlib.Core.Path.{◌≡◌, refl, ◌∙◌, ap, sym, subst}
use mathlib.Core.Bool.{Bool, true, false}
use mathlib.Core.List.{List, [], ◌∷◌, ◌++◌, append_assoc, append-nil}
use Prim.Native.Nat.{ℕ, suc, ◌-◌, ◌≤◌, ◌<◌}
use native.Mathlib.Omega.{arith}
use lib.Dec.{eqb}
use lib.ListN.{length, get_or}
use borrow.Author.Tests.{eq-eqb, ne_eqb}
use Rattle.framed.specs.Common.{Common}
use Rattle.framed.specs.Tree.{Slots, ◌then◌}
use Rattle.framed.specs.Paths.{Place, in_code, within_slot}
use Rattle.framed.specs.Writer.{Writer}
use Rattle.tables.specs.Fields.{expressions, instructions, slot_name, slot_after, instruction_after}
use Rattle.program_form.specs.WellFormed.{WellFormed}
use Rattle.program_form.specs.Sound.{SlotPlace}
use Rattle.program_form.proofs.Decides.{sound}
use Rattle.trees.specs.Held.{expression_held, slots_held, instruction_held, remaining}
use Rattle.trees.proofs.Held as tree
use Rattle.places.specs.Places.{CodePlace}
use Rattle.places.proofs.Laws as places
use Rattle.program_weights.specs.Weight.{base_weight, expression_weight, slots_weight, instruction_weight, code_weight}
use Rattle.write_words.specs.Appending.{CanAppend, Appended}
use Rattle.write_words.specs.Words.{name_table, AtName}
use Rattle.write_words.proofs.Laws.{can_append, appended_past, Grown, grown_none, grown_then}
use Rattle.write_program.specs.Text.{code_led, expression_text, slots_text, instruction_text, code_text, lead_text, head_text, CanWrite}
use Rattle.write_program.proofs.Forms.{assign, semicolon, then_form, listed, listed_first, listed_none, listed_form, head_form}
use Rattle.write_program.proofs.Laws.{appended_as, appended_two, appended_three}

-- ---- Any list of parts: `texts z` is to be appended from the place z on, and `weight z` falls

module _ (texts : ℕ → List ℕ) (weight : ℕ → ℕ) (m₀ : List ℕ) (limit at from : ℕ) where
  -- what stands before the place z is appended
  pub record SoFar (m : List ℕ) (b z : ℕ) : Type 0 where
    pub fewer : weight z ≤ weight from
    bytes : List ℕ
    pub grown : Grown m₀ limit at bytes m b
    rest : bytes ++ texts z ≡ texts from

  none_so_far : CanAppend m₀ limit at → SoFar m₀ at from
  none_so_far can = record { fewer = omega arith; bytes = []; grown = grown_none m₀ limit at can; rest = refl }

  module _ {m : List ℕ} {b z : ℕ} (s : SoFar m b z) where
    enough_so_far : limit < b → Appended m₀ limit at (texts from) m b
    enough_so_far lt = appended_two s.grown.first (sym s.rest) s.grown.done (appended_past m limit b (texts z) s.grown.can lt)

    all_so_far : texts z ≡ [] → Appended m₀ limit at (texts from) m b
    all_so_far e = appended_as (sym s.rest ∙ ap (λ (bs : List ℕ). s.bytes ++ bs) e ∙ append-nil s.bytes) s.grown.done

    more_so_far : (bs cs : List ℕ) (n : ℕ) {m₁ m₂ : List ℕ} {a b' : ℕ} → texts z ≡ (bs ++ cs) ++ texts n → weight n < weight z
        → Appended m limit b bs m₁ a → Appended m₁ limit a cs m₂ b' → SoFar m₂ b' n
    more_so_far bs cs n e lt x y = record {
      fewer = let f = s.fewer in omega arith;
      bytes = (s.bytes ++ bs) ++ cs;
      grown = grown_then (grown_then s.grown x) y;
      rest =
          ap (λ (us : List ℕ). us ++ texts n) (append_assoc s.bytes bs cs)
          ∙ append_assoc s.bytes (bs ++ cs) (texts n)
          ∙ ap (λ (us : List ℕ). s.bytes ++ us) (sym e)
          ∙ s.rest;
    }

-- ---- The instructions from a place on

module _ (p l ns m₀ : List ℕ) (limit at from : ℕ) where
  pub record CodeSoFar (m : List ℕ) (b z : ℕ) : Type 0 where
    program : WellFormed p l
    here : CodePlace p z
    so_far : SoFar (code_text p l (in_code ns)) (λ y. code_weight (remaining p y)) m₀ limit at from m b z

  pub code_start : CanWrite p l m₀ limit at → CodePlace p from → CodeSoFar m₀ at from
  code_start w c = record { program = w.program; here = c; so_far = none_so_far _ _ m₀ limit at from w.can }

  module _ {m : List ℕ} {b z : ℕ} (s : CodeSoFar m b z) where
    pub code_size : length m ≡ length m₀
    code_size = s.so_far.grown.size

    pub code_past : limit < b → Appended m₀ limit at (code_text p l (in_code ns) from) m b
    code_past lt = enough_so_far _ _ m₀ limit at from s.so_far lt

    pub code_end : z ≡ 0 → Appended m₀ limit at (code_text p l (in_code ns) from) m b
    unfolding code_text Writer
    code_end e = all_so_far _ _ m₀ limit at from s.so_far (ap (code_led p l (in_code ns)) (ap (remaining p) e ∙ (tree.one_level_held p l s.program).finished))

    pub code_can : CanWrite p l m limit b
    code_can = record { program = s.program; can = s.so_far.grown.can }

    pub code_semicolon : {m₁ bs : List ℕ} {a : ℕ} → Appended m limit b bs m₁ a → CanAppend m₁ limit a
    code_semicolon x = can_append s.so_far.grown.can x

    module _ (ne : z ≡ 0 → ⊥) where
      pub instruction_there : z - 1 < instructions p
      instruction_there = s.here.there (z - 1) (omega arith)

      module _ (n : ℕ) (next : n ≡ instruction_after p (z - 1)) where
        then_here : remaining p z ≡ (instruction_held p (z - 1) then remaining p n)
        then_here =
            ap (remaining p) {x = z} {y = suc (z - 1)} (omega arith)
            ∙ (tree.one_level_held p l s.program).next (z - 1) instruction_there
            ∙ ap (λ (k : ℕ). instruction_held p (z - 1) then remaining p k) (sym next)

        pub code_less : code_weight (remaining p n) < code_weight (remaining p z)
        unfolding base_weight
        code_less = let h = ap code_weight then_here in omega arith

        pub code_again : {m₁ m₂ : List ℕ} {a b' : ℕ} → Appended m limit b (instruction_text p l (in_code ns) (z - 1)) m₁ a → Appended m₁ limit a semicolon m₂ b' → CodeSoFar m₂ b' n
        unfolding code_text instruction_text
        code_again x y = record {
          program = s.program;
          here = record { there = λ i e. (sound p l s.program).next_there (z - 1) i instruction_there (sym next ∙ e) };
          so_far =
              more_so_far _ _ m₀ limit at from s.so_far (instruction_text p l (in_code ns) (z - 1)) semicolon n
              (ap (code_led p l (in_code ns)) then_here ∙ then_form p l (in_code ns) (instruction_held p (z - 1)) (remaining p n)) code_less x y;
        }

      pub instruction_falls : (t : ℕ) → code_weight (remaining p from) ≡ t → instruction_weight (instruction_held p (z - 1)) < t
      unfolding base_weight
      instruction_falls t q = let h = ap code_weight (then_here (instruction_after p (z - 1)) refl) in let f = s.so_far.fewer in omega arith

-- ---- What stands before a slot's expression

module _ {m m₁ : List ℕ} {limit at a : ℕ} {first : Bool} where
  pub lead_first : first ≡ true → Appended m limit at (32 ∷ []) m₁ a → Appended m limit at (lead_text first) m₁ a
  unfolding lead_text Common
  lead_first e = appended_as (rw e)

  pub lead_further : first ≡ false → Appended m limit at (32 ∷ 44 ∷ 32 ∷ []) m₁ a → Appended m limit at (lead_text first) m₁ a
  unfolding lead_text Common
  lead_further e = appended_as (rw e)

module _ (p : List ℕ) (y k : ℕ) (e : k ≡ slot_name p y) where
  pub head_name : AtName p (slot_name p y) → AtName p k
  head_name a = subst (AtName p) (sym e) a

  pub head_appended : (first : Bool) {m m₁ m₂ m₃ : List ℕ} {limit at a b r : ℕ} → CanAppend m limit at → Appended m limit at (lead_text first) m₁ a
      → Appended m₁ limit a (get_or (name_table p) k []) m₂ b → Appended m₂ limit b assign m₃ r → Appended m limit at (head_text p first y) m₃ r
  head_appended first can x n = appended_three can (head_form p first y) x (appended_as (ap (λ (j : ℕ). get_or (name_table p) j []) (sym e)) n)

-- ---- The slots from a place on

module _ (p l : List ℕ) (place : Place) (m₀ : List ℕ) (limit at from : ℕ) where
  abbrev left : ℕ → List ℕ
  left z = listed p l place (eqb z from) (slots_held p z)

  pub record SlotsSoFar (m : List ℕ) (b z : ℕ) : Type 0 where
    program : WellFormed p l
    here : SlotPlace p z
    so_far : SoFar left (λ y. slots_weight (slots_held p y)) m₀ limit at from m b z

  all_left : slots_text p l place from ≡ left from
  unfolding slots_text
  all_left = sym (rw (eq-eqb from from refl) (listed_first p l place (slots_held p from)))

  pub slots_start : CanWrite p l m₀ limit at → SlotPlace p from → SlotsSoFar m₀ at from
  slots_start w c = record { program = w.program; here = c; so_far = none_so_far _ _ m₀ limit at from w.can }

  module _ {m : List ℕ} {b z : ℕ} (s : SlotsSoFar m b z) where
    pub slots_size : length m ≡ length m₀
    slots_size = s.so_far.grown.size

    pub slots_past : limit < b → Appended m₀ limit at (slots_text p l place from) m b
    slots_past lt = appended_as all_left (enough_so_far _ _ m₀ limit at from s.so_far lt)

    pub slots_end : z ≡ 0 → Appended m₀ limit at (slots_text p l place from) m b
    slots_end e =
        appended_as all_left
        (all_so_far _ _ m₀ limit at from s.so_far
        (ap (listed p l place (eqb z from)) (ap (slots_held p) e ∙ (tree.one_level_held p l s.program).no_slots) ∙ listed_none p l place (eqb z from)))

    pub slots_can : CanAppend m limit b
    slots_can = s.so_far.grown.can

    pub slot_can : {m₁ bs : List ℕ} {a : ℕ} → Appended m limit b bs m₁ a → CanWrite p l m₁ limit a
    slot_can x = record { program = s.program; can = can_append slots_can x }

    module _ (ne : z ≡ 0 → ⊥) where
      pub slot_there : z - 1 < expressions p
      slot_there = places.slot_there p l s.program z s.here ne

      pub slot_named : AtName p (slot_name p (z - 1))
      slot_named = record {
        literal_bytes = l;
        program = s.program;
        there = (sound p l s.program).slot_named (z - 1) (subst (SlotPlace p) {x = z} {y = suc (z - 1)} (omega arith) s.here);
      }

      module _ (n : ℕ) (next : n ≡ slot_after p (z - 1)) where
        slot_here : slots_held p z ≡ Slots.slot (slot_name p (z - 1)) (expression_held p (z - 1)) (slots_held p n)
        slot_here = places.slots_open p l s.program z s.here ne n next

        pub slots_less : slots_weight (slots_held p n) < slots_weight (slots_held p z)
        unfolding base_weight
        slots_less = let h = ap slots_weight slot_here in omega arith

        -- a later slot is not the first
        further : eqb n from ≡ false
        further = ne_eqb n from (λ e. let h = slots_less in let f = s.so_far.fewer in let q = ap (λ (k : ℕ). slots_weight (slots_held p k)) e in omega arith)

        slot_left : left z ≡ (head_text p (eqb z from) (z - 1) ++ expression_text p l place (within_slot (slot_name p (z - 1)) place) (z - 1)) ++ left n
        unfolding head_text expression_text
        slot_left =
            rw further
            (ap (listed p l place (eqb z from)) slot_here ∙ listed_form p l place (eqb z from) (slot_name p (z - 1)) (expression_held p (z - 1)) (slots_held p n))

        pub slots_again : (first : Bool) → first ≡ eqb z from → {m₁ m₂ : List ℕ} {a b' : ℕ} → Appended m limit b (head_text p first (z - 1)) m₁ a
            → Appended m₁ limit a (expression_text p l place (within_slot (slot_name p (z - 1)) place) (z - 1)) m₂ b' → SlotsSoFar m₂ b' n
        slots_again first e x y = record {
          program = s.program;
          here = places.next_place p l s.program z s.here ne n next;
          so_far = more_so_far _ _ m₀ limit at from s.so_far _ _ n slot_left slots_less (appended_as (ap (λ (u : Bool). head_text p u (z - 1)) (sym e)) x) y;
        }

      pub slot_falls : (t : ℕ) → slots_weight (slots_held p from) ≡ t → expression_weight (expression_held p (z - 1)) < t
      unfolding base_weight
      slot_falls t q = let h = ap slots_weight (slot_here (slot_after p (z - 1)) refl) in let f = s.so_far.fewer in omega arith

-- in code a frame adds no level
pub slots_in_code : (p l ns m₀ : List ℕ) (limit at from : ℕ) {m : List ℕ} {b z : ℕ} → SlotsSoFar p l (in_code ns) m₀ limit at from m b z → (z ≡ 0 → ⊥)
    → (n : ℕ) → n ≡ slot_after p (z - 1) → (first : Bool) → first ≡ eqb z from → {m₁ m₂ : List ℕ} {a b' : ℕ} → Appended m limit b (head_text p first (z - 1)) m₁ a
    → Appended m₁ limit a (expression_text p l (in_code ns) (in_code ns) (z - 1)) m₂ b' → SlotsSoFar p l (in_code ns) m₀ limit at from m₂ b' n
unfolding within_slot
slots_in_code p l ns m₀ limit at from s ne n next first e x y = slots_again p l (in_code ns) m₀ limit at from s ne n next first e x y
