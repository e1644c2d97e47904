-- Links rise, and so do walks along slots and instructions, in any words. Assumes nothing.
use mathlib.Core.Path.{◌≡◌, refl, ◌∙◌, ap, sym}
use mathlib.Core.Bool.{Bool, true, ◌&&◌}
use mathlib.Core.List.{List}
use Prim.Native.Nat.{ℕ, zero, suc, ◌+◌, ◌-◌, ◌≤◌, ◌<◌}
use native.Mathlib.Omega.{arith}
use native.Mathlib.Numerals.{add-one}
use native.Mathlib.Decide.{ℕ_discrete, dec_lt, dec_le}
use Rattle.words.specs.Words.{all_below}
use Rattle.words.proofs.Laws.{all_more}
use Rattle.tables.proofs.Laws.{no_link, link_past, link_inside}
use Rattle.tables.specs.Fields.{link, slot_link, slot_after, follow_slot, slot_walk, instruction_link, instruction_after, follow_instruction, instruction_walk}

-- ---- Links

-- a link that reaches an entry: there is one, it stays in the table, and the entry is that many further on
pub record Reaches (n x d y : ℕ) : Type 0 where
  pub some : 0 < d
  pub inside : x + d < n
  pub there : y ≡ x + d

pub link_reaches : (n x d y : ℕ) → link n x d ≡ suc y → Reaches n x d y
link_reaches n x d y e = go (ℕ_discrete d 0) (dec_le n (x + d))
  where
    go : Dec (d ≡ 0) → Dec (n ≤ x + d) → Reaches n x d y
    go (yes z) w = let q : 0 ≡ link n x d = no_link n x d z in absurd (omega arith)
    go (no ne) (yes le) = let q : 0 ≡ link n x d = link_past n x d ne n x d refl refl refl le in absurd (omega arith)
    go (no ne) (no gt) =
        let q : 1 + x + d ≡ link n x d = link_inside n x d ne n x d refl refl refl (omega arith) in
        record { some = omega arith; inside = omega arith; there = omega arith }

pub slot_reaches : (p : List ℕ) (y w : ℕ) → slot_after p y ≡ suc w → Reaches 1024 y (slot_link p y) w
unfolding slot_after
slot_reaches p y w e = link_reaches 1024 y (slot_link p y) w e

pub instruction_reaches : (p : List ℕ) (i j : ℕ) → instruction_after p i ≡ suc j → Reaches 512 i (instruction_link p i) j
unfolding instruction_after
instruction_reaches p i j e = link_reaches 512 i (instruction_link p i) j e

-- ---- Walks along slots

pub walk_suc : (p : List ℕ) (z j : ℕ) → slot_walk p z (suc j) ≡ follow_slot p (slot_walk p z j)
unfolding slot_walk
walk_suc p z j = refl

pub follow_none : (p : List ℕ) (z : ℕ) → z ≡ 0 → follow_slot p z ≡ 0
unfolding follow_slot
follow_none p z e = rw e

-- the walk from the next place is the walk one further on
pub walk_from : (p : List ℕ) (z j : ℕ) → slot_walk p (follow_slot p z) j ≡ slot_walk p z (suc j)
unfolding slot_walk
walk_from p z zero = refl
walk_from p z (suc j) = ap (follow_slot p) (walk_from p z j)

pub walk_add : (p : List ℕ) (z i j : ℕ) → slot_walk p (slot_walk p z i) j ≡ slot_walk p z (i + j)
unfolding slot_walk
walk_add p z i zero = let e : i ≡ i + 0 = omega arith in ap (slot_walk p z) e
walk_add p z i (suc j) =
    let e : suc (i + j) ≡ i + suc j = omega arith in
    ap (follow_slot p) (walk_add p z i j) ∙ sym (walk_suc p z (i + j)) ∙ ap (slot_walk p z) e

-- past the end a walk stays there
pub walk_past : (p : List ℕ) (z i j : ℕ) → slot_walk p z i ≡ 0 → slot_walk p z (i + j) ≡ 0
walk_past p z i zero e = ap (slot_walk p z) (omega arith) ∙ e
walk_past p z i (suc j) e =
    ap (slot_walk p z) (omega arith) ∙ walk_suc p z (i + j) ∙ follow_none p (slot_walk p z (i + j)) (walk_past p z i j e)

-- what is met on a walk that ends after 16 is met before
pub walk_few : (p : List ℕ) (z j y : ℕ) → slot_walk p z 16 ≡ 0 → slot_walk p z j ≡ suc y → j < 16
walk_few p z j y most e = go (dec_lt j 16)
  where
    go : Dec (j < 16) → j < 16
    go (yes lt) = lt
    go (no ge) =
        let q : slot_walk p z j ≡ 0 = ap (slot_walk p z) (omega arith) ∙ walk_past p z 16 (j - 16) most in
        absurd (omega arith)

-- one step of a walk: what stands before
pub record Before (f : ℕ → ℕ) (z w : ℕ) : Type 0 where
  pub number : ℕ
  pub here : z ≡ suc number
  pub next : f number ≡ suc w

pub slot_before : (p : List ℕ) (z w : ℕ) → follow_slot p z ≡ suc w → Before (slot_after p) z w
unfolding follow_slot
slot_before p zero w e = absurd (omega arith)
slot_before p (suc y) w e = record { number = y; here = refl; next = e }

pub instruction_before : (p : List ℕ) (z w : ℕ) → follow_instruction p z ≡ suc w → Before (instruction_after p) z w
unfolding follow_instruction
instruction_before p zero w e = absurd (omega arith)
instruction_before p (suc y) w e = record { number = y; here = refl; next = e }

-- slots have larger numbers than the frame literal
pub slots_larger : (p : List ℕ) (x d j a : ℕ) → slot_walk p (link 1024 x d) j ≡ suc a → x < a
unfolding slot_walk
slots_larger p x d zero a e = let r = link_reaches 1024 x d a e in omega (arith, r.some, r.there)
slots_larger p x d (suc j) a e =
    let b = slot_before p (slot_walk p (link 1024 x d) j) a e in
    let r = slot_reaches p b.number a b.next in
    let ih : x < b.number = slots_larger p x d j b.number b.here in
    omega (arith, r.some, r.there)

-- ---- Walks along instructions

pub instruction_walk_suc : (p : List ℕ) (z j : ℕ) → instruction_walk p z (suc j) ≡ follow_instruction p (instruction_walk p z j)
unfolding instruction_walk
instruction_walk_suc p z j = refl

pub follow_at : (p : List ℕ) (z i : ℕ) → z ≡ suc i → follow_instruction p z ≡ instruction_after p i
unfolding follow_instruction
follow_at p z i e = rw e

-- ---- A loop along the slots from the place z on: y is the i-th place, the test t holds of those before

pub walk_next : (p : List ℕ) (z i y w : ℕ) → y ≡ slot_walk p z i → w ≡ follow_slot p y → w ≡ slot_walk p z (i + 1)
unfolding slot_walk
walk_next p z i y w e f = rw (add-one i, ← e, f)

pub record Along (p : List ℕ) (z : ℕ) (t : ℕ → Bool) (i y : ℕ) (ok : Bool) : Type 0 where
  pub inside : i ≤ 16
  pub here : y ≡ slot_walk p z i
  pub so_far : ok ≡ all_below t i

pub along_start : (p : List ℕ) (z : ℕ) (t : ℕ → Bool) → Along p z t 0 z true
unfolding all_below slot_walk
along_start p z t = record { inside = omega arith; here = refl; so_far = refl }

module _ (p : List ℕ) (z : ℕ) (t : ℕ → Bool) (i y : ℕ) (ok : Bool) (u : Along p z t i y ok) where
  pub along_more : (b : Bool) (w : ℕ) → i < 16 → b ≡ t i → w ≡ follow_slot p y → Along p z t (i + 1) w (ok && b)
  along_more b w lt e f = record { inside = omega arith; here = walk_next p z i y w u.here f; so_far = all_more t i ok b u.so_far e }

  full : 16 ≤ i → i ≡ 16
  full le = let l = u.inside in omega arith

  pub along_all : 16 ≤ i → ok ≡ all_below t 16
  along_all le = u.so_far ∙ ap (all_below t) (full le)

  pub along_place : 16 ≤ i → y ≡ slot_walk p z 16
  along_place le = u.here ∙ ap (slot_walk p z) (full le)
