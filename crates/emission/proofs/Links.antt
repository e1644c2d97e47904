-- Links reach the next member of a list. Assumes nothing.
use mathlib.Core.Path.{◌≡◌, refl, ◌∙◌, sym}
use mathlib.Core.List.{List}
use Prim.Native.Nat.{ℕ, ◌+◌, ◌-◌, ◌≤◌, ◌<◌}
use native.Mathlib.Omega.{arith}
use Rattle.framed.specs.Tree.{Slots, Code, ◌then◌}
use Rattle.framed.specs.Paths.{Path}
use Rattle.tables.specs.Fields.{link, slot_link, slot_after, instruction_link, instruction_after}
use Rattle.tables.proofs.Laws.{no_link, link_inside}
use Rattle.shapes.specs.Numbers.{slots_size, code_size}
use Rattle.emission.specs.Emit.{link_to_slots, link_to_code, first_place, first_slot_place}

pub slots_reached : (ss : Slots Path) (x y : ℕ) → x < y → y + (slots_size ss).expressions ≤ 1024 → link 1024 x (link_to_slots ss x y) ≡ first_slot_place ss y
unfolding link_to_slots first_slot_place slots_size
slots_reached Slots.no_slots x y lt m = sym (no_link 1024 x 0 refl)
slots_reached (Slots.slot n e ss) x y lt m =
    let z : 1 + x + (y - x) ≡ 1 + y = omega arith in
    sym (link_inside 1024 x (y - x) (λ d. omega arith) 1024 x (y - x) refl refl refl (omega arith)) ∙ z

pub code_reached : (is : Code Path) (i j : ℕ) → i < j → j + (code_size is).instructions ≤ 512 → link 512 i (link_to_code is i j) ≡ first_place is j
unfolding link_to_code first_place code_size
code_reached Code.finished i j lt m = sym (no_link 512 i 0 refl)
code_reached (o then is) i j lt m =
    let z : 1 + i + (j - i) ≡ 1 + j = omega arith in
    sym (link_inside 512 i (j - i) (λ d. omega arith) 512 i (j - i) refl refl refl (omega arith)) ∙ z

pub after_slot : (p : List ℕ) (y d : ℕ) → slot_link p y ≡ d → slot_after p y ≡ link 1024 y d
unfolding slot_after
after_slot p y d e = rw e

pub after_instruction : (p : List ℕ) (i d : ℕ) → instruction_link p i ≡ d → instruction_after p i ≡ link 512 i d
unfolding instruction_after
after_instruction p i d e = rw e
