-- What is written outside code, where the names of the holding frame are kept in a list, and the whole: one law for each way through the functions, and for what
-- each call asks. Assumes nothing.
use mathlib.Core.Path.{◌≡◌, refl, ◌∙◌, ap, sym, subst}
use mathlib.Core.Bool.{Bool}
use mathlib.Core.List.{List, [], ◌∷◌, ◌++◌}
use Prim.Native.Nat.{ℕ, suc, ◌+◌, ◌-◌, ◌≤◌, ◌<◌}
use native.Mathlib.Omega.{arith}
use native.Mathlib.Numerals.{add-one}
use lib.Dec.{eqb}
use lib.ListN.{length, set, take, length-set}
use lib.Seq.{take-suc-set, take-set-le, take-take, length-take-le}
use Rattle.framed.specs.Paths.{Place, outside_code, in_code, within_slot, program_place}
use Rattle.framed.specs.Writer.{text}
use Rattle.tables.specs.declared.ExpressionEntry.{ExpressionEntry}
use Rattle.tables.specs.Entries.{expression_at}
use Rattle.tables.specs.Fields.{program_slots, link, slot_name, slot_after}
use Rattle.tables.proofs.Walks.{link_reaches, slot_reaches}
use Rattle.program_form.specs.Sound.{SlotPlace}
use Rattle.trees.specs.Trees.{expression_tree}
use Rattle.trees.specs.Held.{held, program_held}
use Rattle.trees.proofs.Held as tree
use Rattle.write_words.specs.Appending.{Appended}
use Rattle.write_program.specs.Text.{expression_text, slots_text, outside_text, head_text, CanWrite, OutsideSlot, OutsideSlots, OutsideAppended}
use Rattle.write_program.proofs.Forms.{program_open, frame_open, square_close, same_expression, program_form}
use Rattle.write_program.proofs.Laws.{appended_as, appended_three, frame_place, expression_frame}
use Rattle.write_program.proofs.Loops.{SlotsSoFar, slots_start, slots_past, slots_end, slot_there, slots_again}

-- ---- The expression of a slot

module _ {p l g m : List ℕ} {limit at d y : ℕ} (w : CanWrite p l m limit at) (o : OutsideSlot p g d y) (e : ExpressionEntry) (is : e ≡ expression_at p y) where
  pub outside_inside : d < length g
  outside_inside = let t = o.there in let h = o.deep in let n = o.size in let u = w.program.entries.limits.expressions_most in omega arith

  pub outside_within : d ≤ length g
  outside_within = let h = outside_inside in omega arith

  pub outside_count : d ≡ length (take d g)
  outside_count = sym (length-take-le d g outside_within)

  pub outside_plain : ((k : ℕ) → e ≡ ExpressionEntry.Frame k → ⊥) → {m₁ : List ℕ} {a : ℕ}
      → Appended m limit at (expression_text p l (in_code (take d g)) (in_code (take d g)) y) m₁ a → OutsideAppended g d m limit at (outside_text p l (take d g) y) g m₁ a
  unfolding outside_text expression_text
  outside_plain k x =
      let h = (tree.one_level_held p l w.program).expression y o.there ∙ ap (expression_tree (held p) p y) (sym is) in
      record {
        appended = appended_as (rw h (same_expression p l (take d g) (held p) y (within_slot (slot_name p y) (outside_code (take d g))) e k)) x;
        names_kept = refl;
      }

  module _ (f z : ℕ) (q : e ≡ ExpressionEntry.Frame f) (here : z ≡ link 1024 y f) (k : ℕ) where
    pub outside_inner : (n : ℕ) → n ≤ d + 1 → OutsideSlots p (set g d k) n z
    outside_inner n le = record {
      place = frame_place w o.there e is f z q here;
      size = length-set g d k ∙ o.size;
      deep = λ ne. let r = link_reaches 1024 y f (z - 1) (sym here ∙ over ne) in let u = r.some in let v = r.there in let h = o.deep in omega arith;
    }
      where
        over : (z ≡ 0 → ⊥) → z ≡ suc (z - 1)
        over ne = omega arith

    module _ (is_name : k ≡ slot_name p y) where
      inner_names : outside_code (take (d + 1) (set g d k)) ≡ within_slot (slot_name p y) (outside_code (take d g))
      unfolding within_slot
      inner_names =
          ap outside_code (rw (add-one d) (take-suc-set g d k outside_inside ∙ ap (λ (n : ℕ). take d g ++ (n ∷ [])) is_name))

      pub outside_frame : {m₁ m₂ m₃ g₁ : List ℕ} {a b r : ℕ} → Appended m limit at frame_open m₁ a
          → OutsideAppended (set g d k) (d + 1) m₁ limit a (slots_text p l (outside_code (take (d + 1) (set g d k))) z) g₁ m₂ b → Appended m₂ limit b square_close m₃ r
          → OutsideAppended g d m limit at (outside_text p l (take d g) y) g₁ m₃ r
      unfolding outside_text
      outside_frame {g₁ = g₁} x v u = record {
        appended =
            expression_frame w o.there e is f z q here (outside_code (take d g)) (within_slot (slot_name p y) (outside_code (take d g)))
            x (appended_as (ap (λ (place : Place). slots_text p l place z) (sym inner_names)) v.appended) u;
        names_kept =
            sym (take-take d (d + 1) g₁ (omega arith))
            ∙ ap (take d) v.names_kept
            ∙ take-take d (d + 1) (set g d k) (omega arith)
            ∙ take-set-le d g d k (omega arith);
      }

-- ---- The slots from a place on

module _ (p l g₀ : List ℕ) (d : ℕ) (m₀ : List ℕ) (limit at from : ℕ) where
  -- the slots before the place z are appended, and the names of the holding frame are as they were
  pub record FrameSoFar (g m : List ℕ) (b z : ℕ) : Type 0 where
    pub slots : SlotsSoFar p l (outside_code (take d g₀)) m₀ limit at from m b z
    size : length g ≡ 1024
    deep : (z ≡ 0 → ⊥) → d < z
    names_kept : take d g ≡ take d g₀

  pub frame_start : CanWrite p l m₀ limit at → OutsideSlots p g₀ d from → FrameSoFar g₀ m₀ at from
  frame_start w o = record { slots = slots_start p l (outside_code (take d g₀)) m₀ limit at from w o.place; size = o.size; deep = o.deep; names_kept = refl }

  module _ {g m : List ℕ} {b z : ℕ} (s : FrameSoFar g m b z) where
    pub frame_past : limit < b → OutsideAppended g₀ d m₀ limit at (slots_text p l (outside_code (take d g₀)) from) g m b
    frame_past lt = record { appended = slots_past p l (outside_code (take d g₀)) m₀ limit at from s.slots lt; names_kept = s.names_kept }

    pub frame_end : z ≡ 0 → OutsideAppended g₀ d m₀ limit at (slots_text p l (outside_code (take d g₀)) from) g m b
    frame_end e = record { appended = slots_end p l (outside_code (take d g₀)) m₀ limit at from s.slots e; names_kept = s.names_kept }

    pub frame_size : OutsideSlots p g₀ d from → length g ≡ length g₀
    frame_size o = s.size ∙ sym o.size

    module _ (ne : z ≡ 0 → ⊥) where
      pub frame_slot : OutsideSlot p g d (z - 1)
      frame_slot = record { there = slot_there p l (outside_code (take d g₀)) m₀ limit at from s.slots ne; size = s.size; deep = let h = s.deep ne in omega arith }

      pub frame_again : (n : ℕ) → n ≡ slot_after p (z - 1) → (first : Bool) → first ≡ eqb z from → {g₁ m₁ m₂ : List ℕ} {a b' : ℕ} → length g₁ ≡ length g
          → Appended m limit b (head_text p first (z - 1)) m₁ a → OutsideAppended g d m₁ limit a (outside_text p l (take d g) (z - 1)) g₁ m₂ b' → FrameSoFar g₁ m₂ b' n
      unfolding outside_text
      frame_again n next first e h x y = record {
        slots =
            slots_again p l (outside_code (take d g₀)) m₀ limit at from s.slots ne n next first e x
            (appended_as (ap (λ (ns : List ℕ). outside_text p l ns (z - 1)) (sym s.names_kept)) y.appended);
        size = h ∙ s.size;
        deep = λ more. let r = slot_reaches p (z - 1) (n - 1) (sym next ∙ over more) in let u = r.some in let v = r.there in let t = s.deep ne in omega arith;
        names_kept = y.names_kept ∙ s.names_kept;
      }
        where
          over : (n ≡ 0 → ⊥) → n ≡ suc (n - 1)
          over more = omega arith

-- ---- The whole

module _ {p l m : List ℕ} {limit : ℕ} (w : CanWrite p l m limit 0) (z : ℕ) (here : z ≡ program_slots p) where
  pub program_slots_outside : (g : List ℕ) → length g ≡ 1024 → OutsideSlots p g 0 z
  program_slots_outside g s = record { place = subst (SlotPlace p) (sym here) SlotPlace.of_program; size = s; deep = λ ne. omega arith }

  pub program_appended : {g g₁ m₁ m₂ m₃ : List ℕ} {a b r : ℕ} → Appended m limit 0 program_open m₁ a
      → OutsideAppended g 0 m₁ limit a (slots_text p l (outside_code []) z) g₁ m₂ b → Appended m₂ limit b square_close m₃ r
      → Appended m limit 0 (text (program_held p l)) m₃ r
  program_appended x y =
      appended_three w.can (program_form p l ∙ ap (λ (k : ℕ). (program_open ++ slots_text p l program_place k) ++ square_close) (sym here)) x y.appended
