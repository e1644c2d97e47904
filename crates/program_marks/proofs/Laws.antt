-- One law for each way through the functions that mark. Assumes nothing.
use mathlib.Core.Path.{◌≡◌, refl, sym, ap, ◌∙◌}
use mathlib.Core.Logic.{◌⊎◌, inl, inr}
use mathlib.Core.List.{List}
use Prim.Native.Nat.{ℕ, zero, suc, ◌+◌, ◌-◌, ◌≤◌, ◌<◌}
use native.Mathlib.Omega.{arith}
use native.Mathlib.Numerals.{add-one}
use lib.ListN.{length}
use lib.Seq.{set-set}
use borrow.Author.Tests.{eq-eqb, ne_eqb}
use Rattle.words.specs.Words.{word, set_word}
use Rattle.tables.proofs.Walks.{walk_next, walk_past}
use Rattle.words.proofs.Laws.{set_size}
use Rattle.tables.specs.declared.ExpressionEntry.{ExpressionEntry}
use Rattle.tables.specs.declared.InstructionEntry.{InstructionEntry}
use Rattle.tables.specs.Entries.{expression_at, instruction_at}
use Rattle.tables.specs.Fields.{expressions, instructions, codes, code_first, link, follow_slot, slot_walk}
use Rattle.program_marks.specs.Marks.{each_below, mark_slot, mark_slots, mark_parts, mark_expression, mark_expressions, mark_operands, mark_instruction, mark_instructions}
use Rattle.program_marks.specs.Marks.{mark_named, mark_name, mark_names, mark_first, mark_firsts, mark_next, mark_nexts, home_of, mark_home, mark_homes}

-- ---- A loop that applies f 0, f 1, ..: what has been done so far

pub record Done (f : ℕ → List ℕ → List ℕ) (n i : ℕ) (m₀ m : List ℕ) : Type 0 where
  pub inside : i ≤ n
  pub size : length m ≡ length m₀
  pub so_far : m ≡ each_below f i m₀

pub done_start : (f : ℕ → List ℕ → List ℕ) (n : ℕ) (m : List ℕ) → Done f n 0 m m
unfolding each_below
done_start f n m = record { inside = omega arith; size = refl; so_far = refl }

one_more : (f : ℕ → List ℕ → List ℕ) (i : ℕ) (m₀ m m' : List ℕ) → m ≡ each_below f i m₀ → m' ≡ f i m → m' ≡ each_below f (i + 1) m₀
unfolding each_below
one_more f i m₀ m m' e g = rw (add-one i, ← e) g

module _ (f : ℕ → List ℕ → List ℕ) (n i : ℕ) (m₀ m : List ℕ) (u : Done f n i m₀ m) where
  done_again : (m' : List ℕ) → i < n → length m' ≡ length m → m' ≡ f i m → Done f n (i + 1) m₀ m'
  done_again m' lt s e = record { inside = omega arith; size = s ∙ u.size; so_far = one_more f i m₀ m m' u.so_far e }

  done_end : (k : ℕ) → n ≤ i → n ≡ k → m ≡ each_below f k m₀
  done_end k le e = u.so_far ∙ ap (λ (j : ℕ). each_below f j m₀) (same u.inside)
    where
      same : i ≤ n → i ≡ k
      same l = omega arith

-- ---- mark_slots

pub record MarkAlong (p : List ℕ) (z w : ℕ) (m₀ : List ℕ) (j y : ℕ) (m : List ℕ) : Type 0 where
  pub here : y ≡ slot_walk p z j
  pub done : Done (mark_slot p z w) 16 j m₀ m

pub marking_start : (p : List ℕ) (z w : ℕ) (m : List ℕ) → MarkAlong p z w m 0 z m
unfolding slot_walk
marking_start p z w m = record { here = refl; done = done_start (mark_slot p z w) 16 m }

marked_here : (p : List ℕ) (z w j y a : ℕ) (m m' : List ℕ) → y ≡ slot_walk p z j → a ≡ y → m' ≡ set_word m a w → m' ≡ mark_slot p z w j m
unfolding mark_slot
marked_here p z w j y a m m' h e g = rw (← h, ← e) g

set_kept : (m m' : List ℕ) (a w : ℕ) → m' ≡ set_word m a w → length m' ≡ length m
set_kept m m' a w e = ap length e ∙ set_size m a w

-- where the slots have ended, cell 0 is marked over and over
set_twice : (m : List ℕ) (k w : ℕ) → set_word (set_word m k w) k w ≡ set_word m k w
unfolding set_word
set_twice m k w = set-set m k w w

marked_on : (p : List ℕ) (z w j : ℕ) (m₀ m : List ℕ) (d : ℕ) → m ≡ each_below (mark_slot p z w) j m₀ → slot_walk p z j ≡ 0 → (m' : List ℕ) → m' ≡ set_word m 0 w
    → m' ≡ each_below (mark_slot p z w) (suc (j + d)) m₀
unfolding each_below mark_slot
marked_on p z w j m₀ m zero e none m' g = let q : j + 0 ≡ j = omega arith in rw (q, none, ← e) g
marked_on p z w j m₀ m (suc d) e none m' g =
    let q : j + suc d ≡ suc (j + d) = omega arith in
    rw (q, ← marked_on p z w j m₀ m d e none m' g, on) (g ∙ sym (set_twice m 0 w) ∙ ap (λ (n : List ℕ). set_word n 0 w) (sym g))
  where
    on : slot_walk p z (suc (j + d)) ≡ 0
    on = ap (slot_walk p z) (omega arith) ∙ walk_past p z j (suc d) none

module _ (p : List ℕ) (z w : ℕ) (m₀ : List ℕ) (j y : ℕ) (m : List ℕ) (u : MarkAlong p z w m₀ j y m) where
  pub marking_again : (a y' : ℕ) (m' : List ℕ) → j < 16 → a ≡ y → m' ≡ set_word m a w → y' ≡ follow_slot p y → MarkAlong p z w m₀ (j + 1) y' m'
  marking_again a y' m' lt e g f =
      record {
        here = walk_next p z j y y' u.here f;
        done = done_again (mark_slot p z w) 16 j m₀ m u.done m' lt (set_kept m m' a w g) (marked_here p z w j y a m m' u.here e g);
      }

  pub marking_done : 16 ≤ j → m ≡ mark_slots p z w m₀
  unfolding mark_slots
  marking_done le = done_end (mark_slot p z w) 16 j m₀ m u.done 16 le refl

  pub marking_ended : (a : ℕ) (m' : List ℕ) → j < 16 → a ≡ y → m' ≡ set_word m a w → y ≡ 0 → m' ≡ mark_slots p z w m₀
  unfolding mark_slots
  marking_ended a m' lt e g none =
      marked_on p z w j m₀ m (15 - j) u.done.so_far (sym u.here ∙ none) m' (g ∙ ap (λ (k : ℕ). set_word m k w) (e ∙ none))
      ∙ ap (λ (k : ℕ). each_below (mark_slot p z w) k m₀) (whole lt)
    where
      whole : j < 16 → suc (j + (15 - j)) ≡ 16
      whole l = omega arith

  pub marking_ended_size : (a : ℕ) (m' : List ℕ) → m' ≡ set_word m a w → length m' ≡ length m₀
  marking_ended_size a m' g = set_kept m m' a w g ∙ u.done.size

  pub marking_size : length m ≡ length m₀
  marking_size = u.done.size

-- ---- mark_parts, mark_operands, mark_named

module _ (p : List ℕ) (x w : ℕ) (e : ExpressionEntry) (m m' : List ℕ) where
  pub parts_frame : (d z : ℕ) → e ≡ ExpressionEntry.Frame d → z ≡ link 1024 x d → m' ≡ mark_slots p z w m → m' ≡ mark_parts p x w e m
  unfolding mark_parts
  parts_frame d z q s g = rw (q, ← s) g

  pub parts_not : (a b : ℕ) → e ≡ ExpressionEntry.Not a → b ≡ a → m' ≡ set_word m (1 + b) w → m' ≡ mark_parts p x w e m
  unfolding mark_parts
  parts_not a b q s g = rw (q, ← s) g

  pub parts_operate : (k a b c d : ℕ) (m₁ : List ℕ) → e ≡ ExpressionEntry.Operate k a b → c ≡ a → m₁ ≡ set_word m (1 + c) w → d ≡ b → m' ≡ set_word m₁ (1 + d) w
      → m' ≡ mark_parts p x w e m
  unfolding mark_parts
  parts_operate k a b c d m₁ q s g t f = rw (q, ← s, ← t, ← g) f

pub parts_else : (p : List ℕ) (x w : ℕ) (e : ExpressionEntry) (m : List ℕ) → ((d : ℕ) → e ≡ ExpressionEntry.Frame d → ⊥)
    → ((a : ℕ) → e ≡ ExpressionEntry.Not a → ⊥) → ((k a b : ℕ) → e ≡ ExpressionEntry.Operate k a b → ⊥) → m ≡ mark_parts p x w e m
unfolding mark_parts
parts_else p x w (ExpressionEntry.Integer v) m f n o = refl
parts_else p x w (ExpressionEntry.Literal k) m f n o = refl
parts_else p x w (ExpressionEntry.FromSelf j i) m f n o = refl
parts_else p x w (ExpressionEntry.FromProgram j i) m f n o = refl
parts_else p x w (ExpressionEntry.Code k) m f n o = refl
parts_else p x w (ExpressionEntry.Frame d) m f n o = absurd (f d refl)
parts_else p x w (ExpressionEntry.Not a) m f n o = absurd (n a refl)
parts_else p x w (ExpressionEntry.Operate k a b) m f n o = absurd (o k a b refl)
parts_else p x w ExpressionEntry.Bad m f n o = refl

module _ (w : ℕ) (e : InstructionEntry) (m m' : List ℕ) where
  pub operands_one : (a b : ℕ) → ((j : ℕ) × (n : ℕ) × e ≡ InstructionEntry.AssignSelf j n a)
      ⊎ (((j : ℕ) × (n : ℕ) × e ≡ InstructionEntry.AssignProgram j n a) ⊎ (e ≡ InstructionEntry.Show a)) → b ≡ a → m' ≡ set_word m (1 + b) w → m' ≡ mark_operands w e m
  unfolding mark_operands
  operands_one a b (inl (j, n, q)) s g = rw (q, ← s) g
  operands_one a b (inr (inl (j, n, q))) s g = rw (q, ← s) g
  operands_one a b (inr (inr q)) s g = rw (q, ← s) g

  pub operands_jump : (a b c d : ℕ) (m₁ : List ℕ) → e ≡ InstructionEntry.Jump a b → c ≡ a → m₁ ≡ set_word m (1 + c) w → d ≡ b → m' ≡ set_word m₁ (1 + d) w
      → m' ≡ mark_operands w e m
  unfolding mark_operands
  operands_jump a b c d m₁ q s g t f = rw (q, ← s, ← t, ← g) f

  pub operands_ifeq : (a b u c d v : ℕ) (m₁ m₂ : List ℕ) → e ≡ InstructionEntry.Ifeq a b u → c ≡ a → m₁ ≡ set_word m (1 + c) w → d ≡ b → m₂ ≡ set_word m₁ (1 + d) w
      → v ≡ u → m' ≡ set_word m₂ (1 + v) w → m' ≡ mark_operands w e m
  unfolding mark_operands
  operands_ifeq a b u c d v m₁ m₂ q s g t f r h = rw (q, ← s, ← t, ← r, ← g, ← f) h

pub named_code : (w : ℕ) (e : ExpressionEntry) (m m' : List ℕ) (k b : ℕ) → e ≡ ExpressionEntry.Code k → b ≡ k → m' ≡ set_word m (1 + b) w → m' ≡ mark_named w e m
unfolding mark_named
named_code w e m m' k b q s g = rw (q, ← s) g

pub named_else : (w : ℕ) (e : ExpressionEntry) (m : List ℕ) → ((k : ℕ) → e ≡ ExpressionEntry.Code k → ⊥) → m ≡ mark_named w e m
unfolding mark_named
named_else w (ExpressionEntry.Integer v) m o = refl
named_else w (ExpressionEntry.Literal k) m o = refl
named_else w (ExpressionEntry.FromSelf j n) m o = refl
named_else w (ExpressionEntry.FromProgram j n) m o = refl
named_else w (ExpressionEntry.Code k) m o = absurd (o k refl)
named_else w (ExpressionEntry.Frame d) m o = refl
named_else w (ExpressionEntry.Not a) m o = refl
named_else w (ExpressionEntry.Operate k a b) m o = refl
named_else w ExpressionEntry.Bad m o = refl

-- ---- The loops

module _ (p : List ℕ) (n i : ℕ) (m₀ m : List ℕ) where
  module _ (u : Done (mark_expression p) n i m₀ m) where
    pub expressions_again : (e : ExpressionEntry) (m' : List ℕ) → i < n → e ≡ expression_at p i → length m' ≡ length m → m' ≡ mark_parts p i (1 + i) e m
        → Done (mark_expression p) n (i + 1) m₀ m'
    unfolding mark_expression
    expressions_again e m' lt q s g = done_again (mark_expression p) n i m₀ m u m' lt s (rw q at g)

    pub expressions_done : n ≤ i → n ≡ expressions p → m ≡ mark_expressions p m₀
    unfolding mark_expressions
    expressions_done le e = done_end (mark_expression p) n i m₀ m u (expressions p) le e

  module _ (u : Done (mark_instruction p) n i m₀ m) where
    pub instructions_again : (e : InstructionEntry) (m' : List ℕ) → i < n → e ≡ instruction_at p i → length m' ≡ length m → m' ≡ mark_operands (1 + i) e m
        → Done (mark_instruction p) n (i + 1) m₀ m'
    unfolding mark_instruction
    instructions_again e m' lt q s g = done_again (mark_instruction p) n i m₀ m u m' lt s (rw q at g)

    pub instructions_done : n ≤ i → n ≡ instructions p → m ≡ mark_instructions p m₀
    unfolding mark_instructions
    instructions_done le e = done_end (mark_instruction p) n i m₀ m u (instructions p) le e

  module _ (u : Done (mark_name p) n i m₀ m) where
    pub names_again : (e : ExpressionEntry) (m' : List ℕ) → i < n → e ≡ expression_at p i → length m' ≡ length m → m' ≡ mark_named (1 + i) e m
        → Done (mark_name p) n (i + 1) m₀ m'
    unfolding mark_name
    names_again e m' lt q s g = done_again (mark_name p) n i m₀ m u m' lt s (rw q at g)

    pub names_done : n ≤ i → n ≡ expressions p → m ≡ mark_names p m₀
    unfolding mark_names
    names_done le e = done_end (mark_name p) n i m₀ m u (expressions p) le e

  module _ (u : Done (mark_first p) n i m₀ m) where
    pub firsts_again : (z a : ℕ) (m' : List ℕ) → i < n → z ≡ code_first p i → a ≡ z → m' ≡ set_word m a (1 + i) → Done (mark_first p) n (i + 1) m₀ m'
    unfolding mark_first
    firsts_again z a m' lt q s g = done_again (mark_first p) n i m₀ m u m' lt (set_kept m m' a (1 + i) g) (rw (← q, ← s) g)

    pub firsts_done : n ≤ i → n ≡ codes p → m ≡ mark_firsts p m₀
    unfolding mark_firsts
    firsts_done le e = done_end (mark_first p) n i m₀ m u (codes p) le e

  module _ (u : Done (mark_next p) n i m₀ m) where
    pub nexts_again : (m' : List ℕ) → i < n → length m' ≡ length m → m' ≡ mark_next p i m → Done (mark_next p) n (i + 1) m₀ m'
    nexts_again m' lt s g = done_again (mark_next p) n i m₀ m u m' lt s g

    pub nexts_done : n ≤ i → n ≡ instructions p → m ≡ mark_nexts p m₀
    unfolding mark_nexts
    nexts_done le e = done_end (mark_next p) n i m₀ m u (instructions p) le e

-- ---- Homes

module _ (o q c : List ℕ) (x : ℕ) (h : List ℕ) (y v : ℕ) (ey : y ≡ x) (ev : v ≡ word o (1 + y)) where
  pub home_expression : (b r : ℕ) → (v ≡ 0 → ⊥) → b ≡ v → r ≡ word h b → r ≡ home_of o q c x h
  unfolding home_of
  home_expression b r ne eb er = rw (← ey, ← ev, ne_eqb v 0 ne, ← eb) er

  module _ (is : v ≡ 0) (y' w : ℕ) (ey' : y' ≡ x) (ew : w ≡ word q (1 + y')) where
    pub home_none : w ≡ 0 → 0 ≡ home_of o q c x h
    unfolding home_of
    home_none e = rw (eq-eqb (word o (1 + x)) 0 zero_o, eq-eqb (word q (1 + x)) 0 zero_q)
      where
        zero_o : word o (1 + x) ≡ 0
        zero_o = rw ey at (rw ev at is)

        zero_q : word q (1 + x) ≡ 0
        zero_q = rw ey' at (rw ew at e)

    pub home_instruction : (b r : ℕ) → (w ≡ 0 → ⊥) → b ≡ w → r ≡ word c b → r ≡ home_of o q c x h
    unfolding home_of
    home_instruction b r ne eb er = rw (eq-eqb (word o (1 + x)) 0 zero_o, ne_eqb (word q (1 + x)) 0 some_q, ← same) er
      where
        zero_o : word o (1 + x) ≡ 0
        zero_o = rw ey at (rw ev at is)

        same : b ≡ word q (1 + x)
        same = eb ∙ ew ∙ ap (λ (k : ℕ). word q (1 + k)) ey'

        some_q : word q (1 + x) ≡ 0 → ⊥
        some_q z = ne (ew ∙ ap (λ (k : ℕ). word q (1 + k)) ey' ∙ z)

module _ (p o q c : List ℕ) (n x : ℕ) (h₀ h : List ℕ) (u : Done (mark_home o q c) n x h₀ h) where
  pub homes_again : (h' : List ℕ) → x < n → length h' ≡ length h → h' ≡ mark_home o q c x h → Done (mark_home o q c) n (x + 1) h₀ h'
  homes_again h' lt s g = done_again (mark_home o q c) n x h₀ h u h' lt s g

  pub homes_done : n ≤ x → n ≡ expressions p → h ≡ mark_homes p o q c h₀
  unfolding mark_homes
  homes_done le e = done_end (mark_home o q c) n x h₀ h u (expressions p) le e
