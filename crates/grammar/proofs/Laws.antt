-- The members of the cycle, one law for each way through each function. Assumes nothing.
use mathlib.Core.Path.{◌≡◌, refl}
use mathlib.Core.List.{List}
use Prim.Native.Nat.{ℕ, zero, suc, ◌+◌, ◌*◌, ◌-◌, ◌<◌, ◌≤◌}
use native.Mathlib.Omega.{arith}
use lib.ListN.{length}
use Rattle.framed.specs.Tokens.{Fixed}
use Rattle.framed.specs.Tree.{Base, Expression, Slots, Instruction, ◌then◌}
use Rattle.framed.specs.Parse.{Reader, give, ◌or◌, this, a_name, a_code, a_constant, an_operator, fixed_number, a_path, a_frame, a_base, an_expression, slots, an_instruction, instructions}
use Rattle.grammar.specs.Runs.{Outcome, Runs, Any, Onward, Meets, MeetsAll, Reads, KindAt, Expects, Sees}
use Rattle.grammar.specs.Readers.{block, negation, operation, binary, frame, more_slots, showing, jumping, branching, assigning}
use Rattle.std.specs.Prelude.{Option, None, Some}
use Rattle.grammar.specs.declared.Seen.{Seen}
use Rattle.grammar.proofs.Combine.{give_runs, or_runs, or_only, or_else, map_runs, by_runs, by_stops, by_name, by_code, by_constant, by_operator}
use Rattle.grammar.proofs.Paths.{go_on, go_then, stop_on, stop_then, this_at, not_this, last_then, moved, went, moved_on, later_on}

-- from each bound k + 1 to each bound
from_suc : {A : Type 0} (P : ℕ → Reader A) (s : List ℕ) (at m : ℕ) (r : Option ℕ) → ((k : ℕ) → m ≤ k → Runs Any s (P (suc k)) at r) → (n : ℕ) → m < n → Runs Any s (P n) at r
from_suc P s at m r go zero l = absurd (none m l)
  where
    none : (m : ℕ) → m < 0 → ⊥
    none m l = omega arith
from_suc P s at m r go (suc k) l = go k (omega arith)

here : (at : ℕ) → Onward at (Some at)
here at = Onward.goes {p = at} (omega arith)

-- nothing is taken where the first alternative stops
or_nothing : {A : Type 0} (s : List ℕ) (R : Reader A) (a : A) (at : ℕ) → Runs Any s R at None → Runs Any s (R or give a) at (Some at)
or_nothing s R a at m = or_else Any s at R (give a) (Some at) m (give_runs Any s at a Any.any)

-- ---- `code` `{` instructions `}`

module _ (s : List ℕ) (at : ℕ) (x : Option ℕ) (ex : Expects s 28 28 at x) where
  code_runs : Runs Any s a_code at x
  code_runs = by_runs a_code 28 28 by_code s at x ex

  pub block_1 : x ≡ None → Meets block 0 s at None
  unfolding block
  block_1 e = record { says = λ n l. stop_on s a_code at x e code_runs _; on = Onward.stops }

  module _ (p : ℕ) (e : x ≡ Some p) (y : Option ℕ) (ey : Expects s 14 14 p y) where
    open_runs : Runs Any s (this Fixed.open_curly) p y
    unfolding fixed_number
    open_runs = this_at Fixed.open_curly (omega arith) s p y ey

    pub block_2 : y ≡ None → Meets block 0 s at None
    unfolding block
    block_2 f = record { says = λ n l. go_on s a_code at p x None e code_runs _ (λ k. stop_then s (this Fixed.open_curly) p y f open_runs _); on = Onward.stops }

    module _ (q : ℕ) (f : y ≡ Some q) where
      pub block_falls : (t : ℕ) → 8 * (length s - at) + 0 ≡ t → 8 * (length s - q) + 2 < t
      block_falls t h = omega (arith, moved x ex.on e, moved y ey.on f)

      pub block_3 : (u : ℕ) → Meets instructions 2 s q (Some u) → (w : Option ℕ) → Expects s 15 15 u w → Meets block 0 s at w
      unfolding block fixed_number
      block_3 u mz w ew = record {
        says = λ n l. go_on s a_code at p x w e code_runs _ (λ k. go_then s (this Fixed.open_curly) p q y w f open_runs _
            (go_on s (instructions n) q u (Some u) w refl (mz.says n (omega (arith, moved x ex.on e, moved y ey.on f))) _
            (λ is. last_then s (this Fixed.close_curly) _ u w (this_at Fixed.close_curly (omega arith) s u w ew))));
        on = moved_on at w (omega (arith, moved x ex.on e, moved y ey.on f, went (Some u) mz.on refl)) ew.on;
      }

-- ---- Bases

module _ (s : List ℕ) (at k : ℕ) (h : KindAt s at k) where
  no_constant : (26 ≤ k → k ≤ 27 → ⊥) → Runs Any s a_constant at None
  no_constant n = by_stops a_constant 26 27 by_constant s at k h n

  no_path : (k ≡ 1 → ⊥) → (k ≡ 8 → ⊥) → Runs Any s a_path at None
  unfolding a_path fixed_number
  no_path n o = or_else Any s at _ _ None (stop_then s (this Fixed.self) at None refl (not_this Fixed.self (omega arith) s at k h n) _)
      (stop_then s (this Fixed.up) at None refl (not_this Fixed.up (omega arith) s at k h o) _)

  no_block : (n : ℕ) → (k ≡ 28 → ⊥) → Runs Any s (block n) at None
  unfolding block
  no_block n o = stop_on s a_code at None refl (by_stops a_code 28 28 by_code s at k h (λ a b. o (same k 28 a b))) _
    where
      same : (k m : ℕ) → m ≤ k → k ≤ m → k ≡ m
      same k m a b = omega arith

  pub base_block : (r : Option ℕ) → k ≡ 28 → Meets block 0 s at r → Meets a_base 1 s at r
  unfolding a_base block
  base_block r e m = record {
    says = from_suc a_base s at _ r (λ n l. or_else Any s at _ _ r (no_constant (λ a b. absurd (omega arith)))
        (or_else Any s at _ _ r (stop_on s a_path at None refl (no_path (λ f. absurd (omega arith)) (λ f. absurd (omega arith))) _) (m.says n (omega arith))));
    on = m.on;
  }

  pub base_path : (r : Option ℕ) → (k ≡ 28 → ⊥) → k < 26 → Reads a_path s at r → Meets a_base 1 s at r
  unfolding a_base block
  base_path r o e m = record {
    says = from_suc a_base s at _ r (λ n l. or_else Any s at _ _ r (no_constant (λ a b. absurd (omega arith)))
        (or_only Any s at _ _ r (map_runs s a_path Base.path at r m.says) (no_block n o)));
    on = m.on;
  }

  base_constant : (r : Option ℕ) → (k ≡ 28 → ⊥) → 26 ≤ k → Expects s 26 27 at r → Meets a_base 1 s at r
  unfolding a_base block
  base_constant r o e m = record {
    says = from_suc a_base s at _ r (λ n l. or_only Any s at _ _ r (by_runs a_constant 26 27 by_constant s at r m)
        (or_else Any s at _ _ None (stop_on s a_path at None refl (no_path (λ f. absurd (omega arith)) (λ f. absurd (omega arith))) _) (no_block n o)));
    on = moved_on at r (omega arith) m.on;
  }

  pub base_none : (k ≡ 28 → ⊥) → 28 ≤ k → Meets a_base 1 s at None
  unfolding a_base block
  base_none o e = record {
    says = from_suc a_base s at _ None (λ n l. or_else Any s at _ _ None (no_constant (λ a b. absurd (omega arith)))
        (or_else Any s at _ _ None (stop_on s a_path at None refl (no_path (λ f. absurd (omega arith)) (λ f. absurd (omega arith))) _) (no_block n o)));
    on = Onward.stops;
  }

  -- what begins otherwise is no base
  no_base : (n : ℕ) → (k ≡ 1 → ⊥) → (k ≡ 8 → ⊥) → k < 26 → Runs Any s (a_base n) at None
  unfolding a_base block
  no_base zero a b c = record { runs = λ table k c ts d. Outcome.refused refl }
  no_base (suc n) a b c = or_else Any s at _ _ None (no_constant (λ a b. absurd (omega arith)))
      (or_else Any s at _ _ None (stop_on s a_path at None refl (no_path a b) _) (no_block n (λ f. absurd (omega arith))))

  no_frame : (n : ℕ) → (k ≡ 0 → ⊥) → Runs Any s (frame n) at None
  unfolding frame a_frame fixed_number
  no_frame n o = stop_then s (this Fixed.frame) at None refl (not_this Fixed.frame (omega arith) s at k h o) _

  no_negation : (n : ℕ) → (k ≡ 9 → ⊥) → Runs Any s (negation n) at None
  unfolding negation fixed_number
  no_negation n o = stop_then s (this Fixed.bang) at None refl (not_this Fixed.bang (omega arith) s at k h o) _

  no_binary : (n : ℕ) → (k ≡ 1 → ⊥) → (k ≡ 8 → ⊥) → k < 26 → Runs Any s (binary n) at None
  unfolding binary
  no_binary n a b c = stop_on s (a_base n) at None refl (no_base n a b c) _

pub base_token : (s : List ℕ) (at : ℕ) (t : Seen) → Sees s at t → (t.kind ≡ 28 → ⊥) → 26 ≤ t.kind → t.kind < 28 → Meets a_base 1 s at (Some t.end)
base_token s at t h o l m = base_constant s at t.kind h.kind_is _ o l (h.end_is 26 27 l (omega arith) (omega arith))

-- ---- `!` base, base operator base

module _ (s : List ℕ) (at : ℕ) (x : Option ℕ) (ex : Expects s 9 9 at x) where
  pub negation_1 : x ≡ None → Meets negation 0 s at None
  unfolding negation fixed_number
  negation_1 e = record { says = λ n l. stop_then s (this Fixed.bang) at x e (this_at Fixed.bang (omega arith) s at x ex) _; on = Onward.stops }

  pub negation_falls : (p : ℕ) → x ≡ Some p → (t : ℕ) → 8 * (length s - at) + 0 ≡ t → 8 * (length s - p) + 2 < t
  negation_falls p e t h = omega (arith, moved x ex.on e)

  pub negation_2 : (p : ℕ) → x ≡ Some p → (y : Option ℕ) → Meets a_base 1 s p y → Meets negation 0 s at y
  unfolding negation fixed_number
  negation_2 p e y m = record {
    says = λ n l. go_then s (this Fixed.bang) at p x y e (this_at Fixed.bang (omega arith) s at x ex) _ (map_runs s (a_base n) Expression.not p y (m.says n (omega (arith, moved x ex.on e))));
    on = later_on at y (omega (arith, moved x ex.on e)) m.on;
  }

module _ (s : List ℕ) (at : ℕ) (x : Option ℕ) (ex : Expects s 16 24 at x) where
  operator_runs : Runs Any s an_operator at x
  operator_runs = by_runs an_operator 16 24 by_operator s at x ex

  pub operation_1 : x ≡ None → MeetsAll operation 0 s at (Some at)
  unfolding operation
  operation_1 e = record { says = λ a n l. or_nothing s _ _ at (stop_on s an_operator at x e operator_runs _); on = here at }

  module _ (p : ℕ) (e : x ≡ Some p) where
    pub operation_falls : (t : ℕ) → 8 * (length s - at) + 0 ≡ t → 8 * (length s - p) + 2 < t
    operation_falls t h = omega (arith, moved x ex.on e)

    module _ (y : Option ℕ) (m : Meets a_base 1 s p y) where
      pub operation_2 : y ≡ None → MeetsAll operation 0 s at (Some at)
      unfolding operation
      operation_2 f = record {
        says = λ a n l. or_nothing s _ _ at (go_on s an_operator at p x None e operator_runs _ (λ o. stop_on s (a_base n) p y f (m.says n (omega (arith, moved x ex.on e))) _));
        on = here at;
      }

      pub operation_3 : (q : ℕ) → y ≡ Some q → MeetsAll operation 0 s at (Some q)
      unfolding operation
      operation_3 q f = record {
        says = λ a n l. or_runs Any s at _ _ q (go_on s an_operator at p x (Some q) e operator_runs _
            (λ o. map_runs s (a_base n) (Expression.operation o a) p (Some q) (rw f at (m.says n (omega (arith, moved x ex.on e))))));
        on = Onward.goes {p = q} (omega (arith, moved x ex.on e, went y m.on f));
      }

module _ (s : List ℕ) (at : ℕ) (x : Option ℕ) (mx : Meets a_base 1 s at x) where
  pub binary_1 : x ≡ None → Meets binary 2 s at None
  unfolding binary
  binary_1 e = record { says = λ n l. stop_on s (a_base n) at x e (mx.says n (omega arith)) _; on = Onward.stops }

  pub binary_falls : (p : ℕ) → x ≡ Some p → (t : ℕ) → 8 * (length s - at) + 3 ≡ t → 8 * (length s - p) + 0 < t
  binary_falls p e t h = omega (arith, went x mx.on e)

  pub binary_2 : (p : ℕ) → x ≡ Some p → (y : Option ℕ) → MeetsAll operation 0 s p y → Meets binary 2 s at y
  unfolding binary
  binary_2 p e y m = record {
    says = λ n l. go_on s (a_base n) at p x y e (mx.says n (omega arith)) _ (λ a. m.says a n (omega (arith, went x mx.on e)));
    on = later_on at y (went x mx.on e) m.on;
  }

-- ---- `frame` `:` `[` slots `]`

module _ (s : List ℕ) (at : ℕ) (x : Option ℕ) (ex : Expects s 0 0 at x) where
  frame_runs : Runs Any s (this Fixed.frame) at x
  unfolding fixed_number
  frame_runs = this_at Fixed.frame (omega arith) s at x ex

  pub frame_1 : x ≡ None → Meets frame 0 s at None
  unfolding frame a_frame
  frame_1 e = record { says = λ n l. stop_then s (this Fixed.frame) at x e frame_runs _; on = Onward.stops }

  module _ (p : ℕ) (e : x ≡ Some p) (y : Option ℕ) (ey : Expects s 5 5 p y) where
    colon_runs : Runs Any s (this Fixed.colon) p y
    unfolding fixed_number
    colon_runs = this_at Fixed.colon (omega arith) s p y ey

    pub frame_2 : y ≡ None → Meets frame 0 s at None
    unfolding frame a_frame
    frame_2 f = record { says = λ n l. go_then s (this Fixed.frame) at p x None e frame_runs _ (stop_then s (this Fixed.colon) p y f colon_runs _); on = Onward.stops }

    module _ (q : ℕ) (f : y ≡ Some q) (z : Option ℕ) (ez : Expects s 12 12 q z) where
      square_runs : Runs Any s (this Fixed.open_square) q z
      unfolding fixed_number
      square_runs = this_at Fixed.open_square (omega arith) s q z ez

      pub frame_3 : z ≡ None → Meets frame 0 s at None
      unfolding frame a_frame
      frame_3 g = record {
        says = λ n l. go_then s (this Fixed.frame) at p x None e frame_runs _ (go_then s (this Fixed.colon) p q y None f colon_runs _ (stop_then s (this Fixed.open_square) q z g square_runs _));
        on = Onward.stops;
      }

      module _ (u : ℕ) (g : z ≡ Some u) where
        ahead : (at < u) × (u ≤ length s)
        ahead = (omega (arith, moved x ex.on e, moved y ey.on f, moved z ez.on g), (moved z ez.on g).1)

        pub frame_falls : (t : ℕ) → 8 * (length s - at) + 0 ≡ t → 8 * (length s - u) + 0 < t
        frame_falls t h = omega (arith, ahead)

        pub frame_4 : (v : ℕ) → Meets slots 0 s u (Some v) → (r : Option ℕ) → Expects s 13 13 v r → Meets frame 0 s at r
        unfolding frame a_frame fixed_number
        frame_4 v mw r er = record {
          says = λ n l. go_then s (this Fixed.frame) at p x r e frame_runs _ (go_then s (this Fixed.colon) p q y r f colon_runs _
              (go_then s (this Fixed.open_square) q u z r g square_runs _ (go_on s (slots n) u v (Some v) r refl (mw.says n (omega (arith, ahead))) _
              (λ ss. last_then s (this Fixed.close_square) ss v r (this_at Fixed.close_square (omega arith) s v r er)))));
          on = moved_on at r (omega (arith, ahead, went (Some v) mw.on refl)) er.on;
        }

-- ---- Expressions

module _ (s : List ℕ) (at k : ℕ) (h : KindAt s at k) where
  pub expression_frame : (r : Option ℕ) → k ≡ 0 → Meets frame 0 s at r → Meets an_expression 3 s at r
  unfolding an_expression frame negation binary operation
  expression_frame r e m = record {
    says = from_suc an_expression s at _ r (λ n l. or_only Any s at _ _ r (map_runs s (frame n) Expression.frame at r (m.says n (omega arith)))
        (or_else Any s at _ _ None (no_negation s at k h n (λ f. absurd (omega arith))) (no_binary s at k h n (λ f. absurd (omega arith)) (λ f. absurd (omega arith)) (omega arith))));
    on = m.on;
  }

  pub expression_not : (r : Option ℕ) → (k ≡ 0 → ⊥) → k ≡ 9 → Meets negation 0 s at r → Meets an_expression 3 s at r
  unfolding an_expression frame negation binary operation
  expression_not r o e m = record {
    says = from_suc an_expression s at _ r (λ n l. or_else Any s at _ _ r (stop_on s (frame n) at None refl (no_frame s at k h n o) _)
        (or_only Any s at _ _ r (m.says n (omega arith)) (no_binary s at k h n (λ f. absurd (omega arith)) (λ f. absurd (omega arith)) (omega arith))));
    on = m.on;
  }

  pub expression_binary : (r : Option ℕ) → (k ≡ 0 → ⊥) → (k ≡ 9 → ⊥) → Meets binary 2 s at r → Meets an_expression 3 s at r
  unfolding an_expression frame negation binary operation
  expression_binary r o e m = record {
    says = from_suc an_expression s at _ r (λ n l. or_else Any s at _ _ r (stop_on s (frame n) at None refl (no_frame s at k h n o) _)
        (or_else Any s at _ _ r (no_negation s at k h n e) (m.says n (omega arith))));
    on = m.on;
  }

-- ---- Slots

-- a loop of a member: what is read from i on is what is read from `at` on
pub record Continues {A : Type 0} (P : ℕ → Reader A) (rank : ℕ) (s : List ℕ) (at i : ℕ) : Type 0 where
  pub on : at ≤ i
  pub back : (u : ℕ) → Meets P rank s i (Some u) → Meets P rank s at (Some u)

continues_start : {A : Type 0} (P : ℕ → Reader A) (rank : ℕ) (s : List ℕ) (at : ℕ) → Continues P rank s at at
continues_start P rank s at = record { on = omega arith; back = λ u m. m }

pub slots_start : (s : List ℕ) (at : ℕ) → Continues slots 0 s at at
slots_start s at = continues_start slots 0 s at

module _ (s : List ℕ) (at i : ℕ) (c : Continues slots 0 s at i) where
  -- nothing is there
  none_here : Runs Any s a_name i None → Meets slots 0 s at (Some i)
  unfolding slots
  none_here m = c.back i (record { says = from_suc slots s i _ (Some i) (λ n l. or_nothing s _ _ i (stop_on s a_name i None refl m _)); on = here i })

  module _ (x : Option ℕ) (ex : Expects s 25 25 i x) where
    name_runs : Runs Any s a_name i x
    name_runs = by_runs a_name 25 25 by_name s i x ex

    pub slots_1 : x ≡ None → Meets slots 0 s at (Some i)
    slots_1 e = none_here (rw e at name_runs)

    module _ (p : ℕ) (e : x ≡ Some p) (y : Option ℕ) (ey : Expects s 6 6 p y) where
      assign_runs : Runs Any s (this Fixed.assign) p y
      unfolding fixed_number
      assign_runs = this_at Fixed.assign (omega arith) s p y ey

      pub slots_2 : y ≡ None → Meets slots 0 s at (Some i)
      unfolding slots
      slots_2 f = c.back i (record {
        says = from_suc slots s i _ (Some i) (λ n l. or_nothing s _ _ i (go_on s a_name i p x None e name_runs _ (λ a. stop_then s (this Fixed.assign) p y f assign_runs _)));
        on = here i;
      })

      module _ (q : ℕ) (f : y ≡ Some q) where
        behind : (i < q) × (q ≤ length s)
        behind = (omega (arith, moved x ex.on e, moved y ey.on f), (moved y ey.on f).1)

        pub slots_falls : (t : ℕ) → 8 * (length s - at) + 0 ≡ t → 8 * (length s - q) + 4 < t
        slots_falls t h = omega (arith, behind, c.on)

        module _ (z : Option ℕ) (mz : Meets an_expression 3 s q z) where
          pub slots_3 : z ≡ None → Meets slots 0 s at (Some i)
          unfolding slots
          slots_3 g = c.back i (record {
            says = from_suc slots s i _ (Some i) (λ n l. or_nothing s _ _ i (go_on s a_name i p x None e name_runs _ (λ a. go_then s (this Fixed.assign) p q y None f assign_runs _
                (stop_on s (an_expression n) q z g (mz.says n (omega (arith, behind))) _))));
            on = here i;
          })

          module _ (u : ℕ) (g : z ≡ Some u) (w : Option ℕ) (ew : Expects s 11 11 u w) where
            comma_runs : Runs Any s (this Fixed.comma) u w
            unfolding fixed_number
            comma_runs = this_at Fixed.comma (omega arith) s u w ew

            -- the slot with what follows it
            with_slot : (v : ℕ) → u ≤ v → ((n : ℕ) → 8 * (length s - i) ≤ n → Runs Any s (more_slots n) u (Some v)) → Meets slots 0 s i (Some v)
            unfolding slots more_slots
            with_slot v l more = record {
              says = from_suc slots s i _ (Some v) (λ n l. or_runs Any s i _ _ v (go_on s a_name i p x (Some v) e name_runs _ (λ a. go_then s (this Fixed.assign) p q y (Some v) f assign_runs _
                  (go_on s (an_expression n) q u z (Some v) g (mz.says n (omega (arith, behind))) _
                  (λ b. map_runs s (more_slots n) (Slots.slot a b) u (Some v) (more n (omega arith)))))));
              on = Onward.goes {p = v} (omega (arith, behind, went z mz.on g));
            }

            pub slots_4 : w ≡ None → Meets slots 0 s at (Some u)
            unfolding more_slots
            slots_4 h = c.back u (with_slot u (omega arith) (λ n l. or_nothing s _ _ u (stop_then s (this Fixed.comma) u w h comma_runs _)))

            module _ (v : ℕ) (h : w ≡ Some v) where
              pub slots_less : length s - v < length s - i
              slots_less = omega (arith, behind, went z mz.on g, moved w ew.on h)

              pub slots_again : Continues slots 0 s at v
              unfolding more_slots
              slots_again = record {
                on = omega (arith, c.on, behind, went z mz.on g, moved w ew.on h);
                back = λ r m. c.back r (with_slot r (omega (arith, moved w ew.on h, went (Some r) m.on refl))
                    (λ n l. or_runs Any s u _ _ r (go_then s (this Fixed.comma) u v w (Some r) h comma_runs _
                    (m.says n (omega (arith, behind, went z mz.on g, moved w ew.on h))))));
              }

-- ---- Instructions

module _ (s : List ℕ) (at : ℕ) (x : Option ℕ) (ex : Expects s 2 2 at x) where
  pub show_1 : x ≡ None → Meets showing 0 s at None
  unfolding showing fixed_number
  show_1 e = record { says = λ n l. stop_then s (this Fixed.show) at x e (this_at Fixed.show (omega arith) s at x ex) _; on = Onward.stops }

  pub show_falls : (p : ℕ) → x ≡ Some p → (t : ℕ) → 8 * (length s - at) + 0 ≡ t → 8 * (length s - p) + 2 < t
  show_falls p e t h = omega (arith, moved x ex.on e)

  pub show_2 : (p : ℕ) → x ≡ Some p → (y : Option ℕ) → Meets a_base 1 s p y → Meets showing 0 s at y
  unfolding showing fixed_number
  show_2 p e y m = record {
    says = λ n l. go_then s (this Fixed.show) at p x y e (this_at Fixed.show (omega arith) s at x ex) _ (map_runs s (a_base n) Instruction.show p y (m.says n (omega (arith, moved x ex.on e))));
    on = later_on at y (omega (arith, moved x ex.on e)) m.on;
  }

module _ (s : List ℕ) (at : ℕ) (x : Option ℕ) (ex : Expects s 3 3 at x) where
  jump_runs : Runs Any s (this Fixed.jump) at x
  unfolding fixed_number
  jump_runs = this_at Fixed.jump (omega arith) s at x ex

  pub jump_1 : x ≡ None → Meets jumping 0 s at None
  unfolding jumping
  jump_1 e = record { says = λ n l. stop_then s (this Fixed.jump) at x e jump_runs _; on = Onward.stops }

  module _ (p : ℕ) (e : x ≡ Some p) where
    pub jump_falls : (t : ℕ) → 8 * (length s - at) + 0 ≡ t → 8 * (length s - p) + 2 < t
    jump_falls t h = omega (arith, moved x ex.on e)

    module _ (y : Option ℕ) (my : Meets a_base 1 s p y) where
      pub jump_2 : y ≡ None → Meets jumping 0 s at None
      unfolding jumping
      jump_2 f = record { says = λ n l. go_then s (this Fixed.jump) at p x None e jump_runs _ (stop_on s (a_base n) p y f (my.says n (omega (arith, moved x ex.on e))) _); on = Onward.stops }

      module _ (q : ℕ) (f : y ≡ Some q) where
        pub jump_falls_2 : (t : ℕ) → 8 * (length s - at) + 0 ≡ t → 8 * (length s - q) + 2 < t
        jump_falls_2 t h = omega (arith, moved x ex.on e, went y my.on f)

        pub jump_3 : (z : Option ℕ) → Meets a_base 1 s q z → Meets jumping 0 s at z
        unfolding jumping
        jump_3 z mz = record {
          says = λ n l. go_then s (this Fixed.jump) at p x z e jump_runs _ (go_on s (a_base n) p q y z f (my.says n (omega (arith, moved x ex.on e))) _
              (λ a. map_runs s (a_base n) (Instruction.jump a) q z (mz.says n (omega (arith, moved x ex.on e, went y my.on f)))));
          on = later_on at z (omega (arith, moved x ex.on e, went y my.on f)) mz.on;
        }

module _ (s : List ℕ) (at : ℕ) (x : Option ℕ) (ex : Expects s 4 4 at x) where
  ifeq_runs : Runs Any s (this Fixed.ifeq) at x
  unfolding fixed_number
  ifeq_runs = this_at Fixed.ifeq (omega arith) s at x ex

  pub ifeq_1 : x ≡ None → Meets branching 0 s at None
  unfolding branching
  ifeq_1 e = record { says = λ n l. stop_then s (this Fixed.ifeq) at x e ifeq_runs _; on = Onward.stops }

  module _ (p : ℕ) (e : x ≡ Some p) where
    pub ifeq_falls : (t : ℕ) → 8 * (length s - at) + 0 ≡ t → 8 * (length s - p) + 2 < t
    ifeq_falls t h = omega (arith, moved x ex.on e)

    module _ (y : Option ℕ) (my : Meets a_base 1 s p y) where
      pub ifeq_2 : y ≡ None → Meets branching 0 s at None
      unfolding branching
      ifeq_2 f = record { says = λ n l. go_then s (this Fixed.ifeq) at p x None e ifeq_runs _ (stop_on s (a_base n) p y f (my.says n (omega (arith, moved x ex.on e))) _); on = Onward.stops }

      module _ (q : ℕ) (f : y ≡ Some q) where
        pub ifeq_falls_2 : (t : ℕ) → 8 * (length s - at) + 0 ≡ t → 8 * (length s - q) + 2 < t
        ifeq_falls_2 t h = omega (arith, moved x ex.on e, went y my.on f)

        module _ (z : Option ℕ) (mz : Meets a_base 1 s q z) where
          pub ifeq_3 : z ≡ None → Meets branching 0 s at None
          unfolding branching
          ifeq_3 g = record {
            says = λ n l. go_then s (this Fixed.ifeq) at p x None e ifeq_runs _ (go_on s (a_base n) p q y None f (my.says n (omega (arith, moved x ex.on e))) _
                (λ a. stop_on s (a_base n) q z g (mz.says n (omega (arith, moved x ex.on e, went y my.on f))) _));
            on = Onward.stops;
          }

          module _ (u : ℕ) (g : z ≡ Some u) where
            pub ifeq_falls_3 : (t : ℕ) → 8 * (length s - at) + 0 ≡ t → 8 * (length s - u) + 2 < t
            ifeq_falls_3 t h = omega (arith, moved x ex.on e, went y my.on f, went z mz.on g)

            pub ifeq_4 : (w : Option ℕ) → Meets a_base 1 s u w → Meets branching 0 s at w
            unfolding branching
            ifeq_4 w mw = record {
              says = λ n l. go_then s (this Fixed.ifeq) at p x w e ifeq_runs _ (go_on s (a_base n) p q y w f (my.says n (omega (arith, moved x ex.on e))) _
                  (λ a. go_on s (a_base n) q u z w g (mz.says n (omega (arith, moved x ex.on e, went y my.on f))) _
                  (λ b. map_runs s (a_base n) (Instruction.ifeq a b) u w (mw.says n (omega (arith, moved x ex.on e, went y my.on f, went z mz.on g))))));
              on = later_on at w (omega (arith, moved x ex.on e, went y my.on f, went z mz.on g)) mw.on;
            }

module _ (s : List ℕ) (at : ℕ) (x : Option ℕ) (mx : Reads a_path s at x) where
  pub assign_1 : x ≡ None → Meets assigning 0 s at None
  unfolding assigning
  assign_1 e = record { says = λ n l. stop_on s a_path at x e mx.says _; on = Onward.stops }

  module _ (p : ℕ) (e : x ≡ Some p) (y : Option ℕ) (ey : Expects s 6 6 p y) where
    pub assign_2 : y ≡ None → Meets assigning 0 s at None
    unfolding assigning fixed_number
    assign_2 f = record { says = λ n l. go_on s a_path at p x None e mx.says _ (λ a. stop_then s (this Fixed.assign) p y f (this_at Fixed.assign (omega arith) s p y ey) _); on = Onward.stops }

    module _ (q : ℕ) (f : y ≡ Some q) where
      pub assign_falls : (t : ℕ) → 8 * (length s - at) + 0 ≡ t → 8 * (length s - q) + 4 < t
      assign_falls t h = omega (arith, went x mx.on e, moved y ey.on f)

      pub assign_3 : (z : Option ℕ) → Meets an_expression 3 s q z → Meets assigning 0 s at z
      unfolding assigning fixed_number
      assign_3 z mz = record {
        says = λ n l. go_on s a_path at p x z e mx.says _ (λ a. go_then s (this Fixed.assign) p q y z f (this_at Fixed.assign (omega arith) s p y ey) _
            (map_runs s (an_expression n) (Instruction.assign a) q z (mz.says n (omega (arith, went x mx.on e, moved y ey.on f)))));
        on = later_on at z (omega (arith, went x mx.on e, moved y ey.on f)) mz.on;
      }

module _ (s : List ℕ) (at k : ℕ) (h : KindAt s at k) where
  no_show : (n : ℕ) → (k ≡ 2 → ⊥) → Runs Any s (showing n) at None
  unfolding showing fixed_number
  no_show n o = stop_then s (this Fixed.show) at None refl (not_this Fixed.show (omega arith) s at k h o) _

  no_jump : (n : ℕ) → (k ≡ 3 → ⊥) → Runs Any s (jumping n) at None
  unfolding jumping fixed_number
  no_jump n o = stop_then s (this Fixed.jump) at None refl (not_this Fixed.jump (omega arith) s at k h o) _

  no_ifeq : (n : ℕ) → (k ≡ 4 → ⊥) → Runs Any s (branching n) at None
  unfolding branching fixed_number
  no_ifeq n o = stop_then s (this Fixed.ifeq) at None refl (not_this Fixed.ifeq (omega arith) s at k h o) _

  no_assign : (n : ℕ) → (k ≡ 1 → ⊥) → (k ≡ 8 → ⊥) → Runs Any s (assigning n) at None
  unfolding assigning
  no_assign n a b = stop_on s a_path at None refl (no_path s at k h a b) _

  pub instruction_show : (r : Option ℕ) → k ≡ 2 → Meets showing 0 s at r → Meets an_instruction 1 s at r
  unfolding an_instruction showing jumping branching assigning
  instruction_show r e m = record {
    says = from_suc an_instruction s at _ r (λ n l. or_only Any s at _ _ r (m.says n (omega arith))
        (or_else Any s at _ _ None (no_jump n (λ f. absurd (omega arith))) (or_else Any s at _ _ None (no_ifeq n (λ f. absurd (omega arith))) (no_assign n (λ f. absurd (omega arith)) (λ f. absurd (omega arith))))));
    on = m.on;
  }

  pub instruction_jump : (r : Option ℕ) → (k ≡ 2 → ⊥) → k ≡ 3 → Meets jumping 0 s at r → Meets an_instruction 1 s at r
  unfolding an_instruction showing jumping branching assigning
  instruction_jump r a e m = record {
    says = from_suc an_instruction s at _ r (λ n l. or_else Any s at _ _ r (no_show n a) (or_only Any s at _ _ r (m.says n (omega arith))
        (or_else Any s at _ _ None (no_ifeq n (λ f. absurd (omega arith))) (no_assign n (λ f. absurd (omega arith)) (λ f. absurd (omega arith))))));
    on = m.on;
  }

  pub instruction_ifeq : (r : Option ℕ) → (k ≡ 2 → ⊥) → (k ≡ 3 → ⊥) → k ≡ 4 → Meets branching 0 s at r → Meets an_instruction 1 s at r
  unfolding an_instruction showing jumping branching assigning
  instruction_ifeq r a b e m = record {
    says = from_suc an_instruction s at _ r (λ n l. or_else Any s at _ _ r (no_show n a) (or_else Any s at _ _ r (no_jump n b) (or_only Any s at _ _ r (m.says n (omega arith))
        (no_assign n (λ f. absurd (omega arith)) (λ f. absurd (omega arith))))));
    on = m.on;
  }

  pub instruction_assign : (r : Option ℕ) → (k ≡ 2 → ⊥) → (k ≡ 3 → ⊥) → (k ≡ 4 → ⊥) → Meets assigning 0 s at r → Meets an_instruction 1 s at r
  unfolding an_instruction showing jumping branching assigning
  instruction_assign r a b e m = record {
    says = from_suc an_instruction s at _ r (λ n l. or_else Any s at _ _ r (no_show n a) (or_else Any s at _ _ r (no_jump n b) (or_else Any s at _ _ r (no_ifeq n e) (m.says n (omega arith)))));
    on = m.on;
  }

pub list_start : (s : List ℕ) (at : ℕ) → Continues instructions 2 s at at
list_start s at = continues_start instructions 2 s at

module _ (s : List ℕ) (at i : ℕ) (c : Continues instructions 2 s at i) where
  pub list_falls : (t : ℕ) → 8 * (length s - at) + 2 ≡ t → 8 * (length s - i) + 1 < t
  list_falls t h = omega (arith, c.on)

  module _ (x : Option ℕ) (mx : Meets an_instruction 1 s i x) where
    pub list_1 : x ≡ None → Meets instructions 2 s at (Some i)
    unfolding instructions
    list_1 e = c.back i (record { says = from_suc instructions s i _ (Some i) (λ n l. or_nothing s _ _ i (stop_on s (an_instruction n) i x e (mx.says n (omega arith)) _)); on = here i })

    module _ (p : ℕ) (e : x ≡ Some p) (y : Option ℕ) (ey : Expects s 10 10 p y) where
      semi_runs : Runs Any s (this Fixed.semicolon) p y
      unfolding fixed_number
      semi_runs = this_at Fixed.semicolon (omega arith) s p y ey

      pub list_2 : y ≡ None → Meets instructions 2 s at (Some i)
      unfolding instructions
      list_2 f = c.back i (record {
        says = from_suc instructions s i _ (Some i) (λ n l. or_nothing s _ _ i (go_on s (an_instruction n) i p x None e (mx.says n (omega arith)) _ (λ j. stop_then s (this Fixed.semicolon) p y f semi_runs _)));
        on = here i;
      })

      module _ (q : ℕ) (f : y ≡ Some q) where
        pub list_less : length s - q < length s - i
        list_less = omega (arith, went x mx.on e, moved y ey.on f)

        with_instruction : (u : ℕ) → Meets instructions 2 s q (Some u) → Meets instructions 2 s i (Some u)
        unfolding instructions
        with_instruction u m = record {
          says = from_suc instructions s i _ (Some u) (λ n l. or_runs Any s i _ _ u (go_on s (an_instruction n) i p x (Some u) e (mx.says n (omega arith)) _ (λ j. go_then s (this Fixed.semicolon) p q y (Some u) f semi_runs _
              (map_runs s (instructions n) (λ js. j then js) q (Some u) (m.says n (omega (arith, went x mx.on e, moved y ey.on f)))))));
          on = Onward.goes {p = u} (omega (arith, went x mx.on e, moved y ey.on f, went (Some u) m.on refl));
        }

        pub list_again : Continues instructions 2 s at q
        list_again = record {
          on = omega (arith, c.on, went x mx.on e, moved y ey.on f);
          back = λ u m. c.back u (with_instruction u m);
        }
