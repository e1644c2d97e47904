-- One law for each way through `same_base`, `same_two`, `same_three` and `same_expression`, for what each call asks and for each fall of the weight. Assumes nothing.
use mathlib.Core.Path.{◌≡◌, refl, ◌∙◌, ap, sym}
use mathlib.Core.Logic.{◌⊎◌, inl, inr}
use mathlib.Core.Bool.{Bool, true, false, ◌&&◌, ◌||◌}
use mathlib.Core.List.{List}
use Prim.Native.Nat.{ℕ, ◌+◌, ◌≤◌, ◌<◌}
use native.Mathlib.Omega.{arith}
use native.Mathlib.Decide.{ℕ_discrete}
use lib.Dec.{eqb}
use mir.Syntax.{w32}
use mir.Val.{Fits, to_z, of_z}
use mir.ValLaws.{of_z-to_z}
use borrow.Author.Tests.{eq-eqb, ne_eqb, eqb-true}
use Rattle.framed.specs.Tree.{Base, Expression}
use Rattle.framed.specs.Paths.{Path}
use Rattle.framed.specs.Values.{same_integer}
use Rattle.framed.specs.Equality.{same_path, operator_number, same_base, same_expression}
use Rattle.framed.proofs.SameCodeExact.{integer_equal, integer_self}
use Rattle.framed.proofs.Lists.{both, or_either}
use Rattle.tables.specs.declared.ExpressionEntry.{ExpressionEntry}
use Rattle.tables.specs.Entries.{expression_at}
use Rattle.tables.specs.Fields.{expressions, path_names, code_first, link, expression_kind, expression_a, expression_b}
use Rattle.program_form.specs.WellFormed.{WellFormed}
use Rattle.texts.specs.Literals.{literals_held}
use Rattle.texts.specs.Texts.{Inside, LiteralsInside, same_literal_bytes}
use Rattle.texts.proofs.Inside.{literals_inside}
use Rattle.trees.specs.Trees.{operator_of}
use Rattle.trees.specs.Held.{base_held, expression_held, slots_held, remaining}
use Rattle.trees.proofs.Held as tree
use Rattle.places.specs.Places.{CodePlace}
use Rattle.places.proofs.Laws as places
use Rattle.program_weights.specs.Weight.{base_weight, expression_weight, slots_weight, code_weight}
use Rattle.program_equality.specs.Agreement.{names_agree, bases_agree, expressions_agree, slots_agree, lists_agree, two_agree, three_agree, TwoBases, TwoExpressions, TwoSlotPlaces, TwoCodePlaces}
use Rattle.program_equality.proofs.EntryKinds.{at_integer, at_literal, at_self, at_program, at_code, at_frame, at_not, operation_at, bases_of_kinds, expressions_of_kinds}

-- ---- Words

-- equal words are equal integers
same_word : (a b : ℕ) → Fits w32 a → Fits w32 b → eqb a b ≡ same_integer (to_z w32 a) (to_z w32 b)
same_word a b fa fb = go (ℕ_discrete a b)
  where
    apart : (t : Bool) → same_integer (to_z w32 a) (to_z w32 b) ≡ t → (a ≡ b → ⊥) → false ≡ t
    apart true e n = absurd (n (sym (of_z-to_z w32 a fa) ∙ ap (of_z w32) (integer_equal (to_z w32 a) (to_z w32 b) e) ∙ of_z-to_z w32 b fb))
    apart false e n = refl

    go : Dec (a ≡ b) → eqb a b ≡ same_integer (to_z w32 a) (to_z w32 b)
    go (yes e) = eq-eqb a b e ∙ rw e (sym (integer_self (to_z w32 b)))
    go (no n) = ne_eqb a b n ∙ apart (same_integer (to_z w32 a) (to_z w32 b)) refl n

-- the path names of a program lie inside its words
pub path_inside : (p l : List ℕ) → WellFormed p l → (j n : ℕ) → j + n ≤ path_names p → Inside p (2496 + j) n
path_inside p l w j n le = record { inside = let m = w.entries.limits.path_names_most in let s = w.size in omega arith }

-- ---- same_base

module _ {p l : List ℕ} {x y : ℕ} (s : TwoBases p l x y) where
  w : WellFormed p l
  w = s.program

  agree_as : (a b : Base Path) → base_held p x ≡ a → base_held p y ≡ b → bases_agree p l x y ≡ same_base (literals_held p l) a b
  unfolding bases_agree
  agree_as a b ea eb = rw (ea, eb)

  pub literals_there : LiteralsInside p l
  literals_there = literals_inside p l w.literal_size w.entries.limits.literals_most (λ k lt. (w.entries.texts.literal k lt).most)

  module _ (k j : ℕ) (ek : k ≡ expression_kind p x) (ej : j ≡ expression_kind p y) where
    pub base_apart : (j ≡ k → ⊥) → false ≡ bases_agree p l x y
    unfolding bases_agree
    base_apart n = bases_of_kinds p l w (literals_held p l) x y s.left s.right (rw (← ek, ← ej) n)

    module _ (same : j ≡ k) (a b : ℕ) (ea : a ≡ expression_a p x) (eb : b ≡ expression_a p y) where
      left_is : (n : ℕ) → k ≡ n → expression_kind p x ≡ n
      left_is n e = sym ek ∙ e

      right_is : (n : ℕ) → k ≡ n → expression_kind p y ≡ n
      right_is n e = sym ej ∙ same ∙ e

      pub base_integers : k ≡ 0 → Fits w32 a → Fits w32 b → eqb a b ≡ bases_agree p l x y
      unfolding same_base
      base_integers e fa fb =
          same_word a b fa fb
          ∙ rw (ea, eb)
          (sym (agree_as _ _ (tree.integer_held p l w x s.left.there _ (at_integer p x (left_is 0 e))) (tree.integer_held p l w y s.right.there _ (at_integer p y (right_is 0 e)))))

      pub base_literals : (r : Bool) → k ≡ 1 → r ≡ same_literal_bytes (literals_held p l) a b → r ≡ bases_agree p l x y
      unfolding same_base same_literal_bytes
      base_literals r e er =
          er ∙ rw (ea, eb)
          (sym (agree_as _ _ (tree.string_held p l w x s.left.there _ (at_literal p x (left_is 1 e))) (tree.string_held p l w y s.right.there _ (at_literal p y (right_is 1 e)))))

      -- codes
      module _ (e : k ≡ 4) (c d : ℕ) (ec : c ≡ code_first p a) (ed : d ≡ code_first p b) where
        left_code : base_held p x ≡ Base.code (expression_a p x) (remaining p c)
        left_code = tree.code_held p l w x s.left.there _ (at_code p x (left_is 4 e)) ∙ rw (ec, ea)

        right_code : base_held p y ≡ Base.code (expression_a p y) (remaining p d)
        right_code = tree.code_held p l w y s.right.there _ (at_code p y (right_is 4 e)) ∙ rw (ed, eb)

        first_place : (z n f : ℕ) → z < expressions p → expression_kind p z ≡ 4 → n ≡ expression_a p z → f ≡ code_first p n → CodePlace p f
        first_place z n f there q en ef = record {
          there = λ i t. w.entries.code_first_there n i (rw en ((w.entries.expression z there).code _ (at_code p z q))) (sym ef ∙ t);
        }

        code_places : TwoCodePlaces p l c d
        code_places = record {
          program = w;
          left = first_place x a c s.left.there (left_is 4 e) ea ec;
          right = first_place y b d s.right.there (right_is 4 e) eb ed;
        }

        pub code_asked : (t : ℕ) → base_weight (base_held p x) ≡ t → (code_weight (remaining p c) < t) × TwoCodePlaces p l c d
        unfolding base_weight
        code_asked t h = let q = ap base_weight left_code in (omega arith, code_places)

        pub base_codes : (r : Bool) → r ≡ lists_agree p l c d → r ≡ bases_agree p l x y
        unfolding same_base lists_agree
        base_codes r er = er ∙ sym (agree_as _ _ left_code right_code)

      -- paths
      module _ (n0 : k ≡ 0 → ⊥) (n1 : k ≡ 1 → ⊥) (n4 : k ≡ 4 → ⊥) (n m : ℕ) (en : n ≡ expression_b p x) (em : m ≡ expression_b p y) where
        path_kind : (k ≡ 2) ⊎ (k ≡ 3)
        path_kind = go (ℕ_discrete k 2)
          where
            go : Dec (k ≡ 2) → (k ≡ 2) ⊎ (k ≡ 3)
            go (yes e) = inl e
            go (no ne) = let z = s.left.base in inr (omega arith)

        path_there : (z i c : ℕ) → z < expressions p → (expression_kind p z ≡ 2) ⊎ (expression_kind p z ≡ 3) → i ≡ expression_a p z → c ≡ expression_b p z → Inside p (2496 + i) c
        path_there z i c there (inl q) ei ec = path_inside p l w i c (rw (ei, ec) ((w.entries.expression z there).from_self _ _ (at_self p z q)))
        path_there z i c there (inr q) ei ec = path_inside p l w i c (rw (ei, ec) ((w.entries.expression z there).from_program _ _ (at_program p z q)))

        pub paths_there : Inside p (2496 + a) n × Inside p (2496 + b) m
        paths_there = go path_kind
          where
            go : (k ≡ 2) ⊎ (k ≡ 3) → Inside p (2496 + a) n × Inside p (2496 + b) m
            go (inl e) = (path_there x a n s.left.there (inl (left_is 2 e)) ea en, path_there y b m s.right.there (inl (right_is 2 e)) eb em)
            go (inr e) = (path_there x a n s.left.there (inr (left_is 3 e)) ea en, path_there y b m s.right.there (inr (right_is 3 e)) eb em)

        paths_agree : (k ≡ 2) ⊎ (k ≡ 3) → names_agree p (expression_a p x) (expression_b p x) (expression_a p y) (expression_b p y) ≡ bases_agree p l x y
        unfolding same_base same_path names_agree
        paths_agree (inl e) =
            sym (agree_as _ _ (tree.self_path_held p l w x s.left.there _ _ (at_self p x (left_is 2 e))) (tree.self_path_held p l w y s.right.there _ _ (at_self p y (right_is 2 e))))
        paths_agree (inr e) =
            sym (agree_as _ _ (tree.program_path_held p l w x s.left.there _ _ (at_program p x (left_is 3 e))) (tree.program_path_held p l w y s.right.there _ _ (at_program p y (right_is 3 e))))

        pub base_paths : (r : Bool) → r ≡ names_agree p a n b m → r ≡ bases_agree p l x y
        base_paths r er = er ∙ rw (ea, eb, en, em) (paths_agree path_kind)

-- ---- same_two, same_three

base_positive : (b : Base Path) → 0 < base_weight b
unfolding base_weight
base_positive (Base.integer z) = omega arith
base_positive (Base.string k) = omega arith
base_positive (Base.path q) = omega arith
base_positive (Base.code k is) = omega arith

module _ (p : List ℕ) (a b t : ℕ) (h : base_weight (base_held p a) + base_weight (base_held p b) ≡ t) where
  pub first_falls : base_weight (base_held p a) < t
  first_falls = let q = base_positive (base_held p b) in omega arith

  pub second_falls : base_weight (base_held p b) < t
  second_falls = let q = base_positive (base_held p a) in omega arith

module _ (p : List ℕ) (a b c t : ℕ) (h : base_weight (base_held p a) + base_weight (base_held p b) + base_weight (base_held p c) ≡ t) where
  pub two_fall : base_weight (base_held p a) + base_weight (base_held p b) < t
  two_fall = let q = base_positive (base_held p c) in omega arith

  pub third_falls : base_weight (base_held p c) < t
  third_falls = let q = base_positive (base_held p a) in omega arith

-- one pair is the other
module _ (p l : List ℕ) where
  same_pair : (a b c d : ℕ) → a ≡ b → c ≡ d → bases_agree p l a c ≡ bases_agree p l b d
  same_pair a b c d e f = rw (e, f)

  module _ (a b c d : ℕ) (r : Bool) (er : r ≡ bases_agree p l a c) where
    pub two_apart : r ≡ false → false ≡ two_agree p l a b c d
    unfolding two_agree
    two_apart e = rw (← er, e)

    module _ (first : r ≡ true) where
      pub two_once : (eqb a b && eqb c d) ≡ true → true ≡ two_agree p l a b c d
      unfolding two_agree
      two_once e =
          let q = both (eqb a b) (eqb c d) e in
          rw (← er, first) (sym (sym (same_pair a b c d (eqb-true a b q.0) (eqb-true c d q.1)) ∙ sym er ∙ first))

      pub two_both : (q : Bool) → q ≡ bases_agree p l b d → q ≡ two_agree p l a b c d
      unfolding two_agree
      two_both q eq = rw (← er, first) eq

  module _ (a b c d e f : ℕ) (r : Bool) (er : r ≡ two_agree p l a b d e) where
    pub three_apart : r ≡ false → false ≡ three_agree p l a b c d e f
    unfolding three_agree
    three_apart n = rw (← er, n)

    module _ (first : r ≡ true) where
      both_agree : (bases_agree p l a d ≡ true) × (bases_agree p l b e ≡ true)
      unfolding two_agree
      both_agree = both (bases_agree p l a d) (bases_agree p l b e) (sym er ∙ first)

      pub three_once : (eqb a c && eqb d f) || (eqb b c && eqb e f) ≡ true → true ≡ three_agree p l a b c d e f
      unfolding three_agree
      three_once h = rw (← er, first) (sym (or_either (eqb a c && eqb d f) (eqb b c && eqb e f) h left middle))
        where
          left : eqb a c && eqb d f ≡ true → bases_agree p l c f ≡ true
          left g = let q = both (eqb a c) (eqb d f) g in sym (same_pair a c d f (eqb-true a c q.0) (eqb-true d f q.1)) ∙ both_agree.0

          middle : eqb b c && eqb e f ≡ true → bases_agree p l c f ≡ true
          middle g = let q = both (eqb b c) (eqb e f) g in sym (same_pair b c e f (eqb-true b c q.0) (eqb-true e f q.1)) ∙ both_agree.1

      pub three_all : (q : Bool) → q ≡ bases_agree p l c f → q ≡ three_agree p l a b c d e f
      unfolding three_agree
      three_all q eq = rw (← er, first) eq

-- ---- same_expression

module _ {p l : List ℕ} {x y : ℕ} (s : TwoExpressions p l x y) (k j : ℕ) (ek : k ≡ expression_kind p x) (ej : j ≡ expression_kind p y) where
  g : WellFormed p l
  g = s.program

  pub expression_apart : (k ≡ j → ⊥) → false ≡ expressions_agree p l x y
  unfolding expressions_agree
  expression_apart n = expressions_of_kinds p l g (literals_held p l) x y s.left s.right (λ e. n (ek ∙ sym e ∙ sym ej))

  expressions_as : (e f : Expression Path) → expression_held p x ≡ e → expression_held p y ≡ f → expressions_agree p l x y ≡ same_expression (literals_held p l) e f
  unfolding expressions_agree
  expressions_as e f ee ef = rw (ee, ef)

  module _ (same : k ≡ j) where
    -- a base
    module _ (lt : k < 5) where
      left_base : expression_held p x ≡ Expression.base (base_held p x)
      left_base = (tree.one_level_held p l g).as_base x s.left (omega arith)

      right_base : expression_held p y ≡ Expression.base (base_held p y)
      right_base = (tree.one_level_held p l g).as_base y s.right (omega arith)

      as_bases : TwoBases p l x y
      as_bases = record {
        program = g;
        left = record { there = s.left; base = omega arith };
        right = record { there = s.right; base = omega arith };
      }

      pub base_asked : (t : ℕ) → expression_weight (expression_held p x) ≡ t → (base_weight (base_held p x) < t) × TwoBases p l x y
      unfolding base_weight
      base_asked t h = let q = ap expression_weight left_base in (omega arith, as_bases)

      pub expression_bases : (r : Bool) → r ≡ bases_agree p l x y → r ≡ expressions_agree p l x y
      unfolding same_base bases_agree
      expression_bases r er = er ∙ sym (expressions_as _ _ left_base right_base)

    module _ (a b : ℕ) (ea : a ≡ expression_a p x) (eb : b ≡ expression_a p y) where
      -- a frame
      module _ (e : k ≡ 5) (c d : ℕ) (ec : c ≡ link 1024 x a) (ed : d ≡ link 1024 y b) where
        left_frame : expression_held p x ≡ Expression.frame (slots_held p c)
        left_frame = places.frame_open p l g x _ c s.left (at_frame p x (sym ek ∙ e)) (ec ∙ rw ea)

        right_frame : expression_held p y ≡ Expression.frame (slots_held p d)
        right_frame = places.frame_open p l g y _ d s.right (at_frame p y (sym ej ∙ sym same ∙ e)) (ed ∙ rw eb)

        slot_places : TwoSlotPlaces p l c d
        slot_places = record {
          program = g;
          left = places.frame_place p l g x _ c s.left (at_frame p x (sym ek ∙ e)) (ec ∙ rw ea);
          right = places.frame_place p l g y _ d s.right (at_frame p y (sym ej ∙ sym same ∙ e)) (ed ∙ rw eb);
        }

        pub frame_asked : (t : ℕ) → expression_weight (expression_held p x) ≡ t → (slots_weight (slots_held p c) < t) × TwoSlotPlaces p l c d
        unfolding base_weight
        frame_asked t h = let q = ap expression_weight left_frame in (omega arith, slot_places)

        pub expression_frames : (r : Bool) → r ≡ slots_agree p l c d → r ≡ expressions_agree p l x y
        unfolding same_base slots_agree
        expression_frames r er = er ∙ sym (expressions_as _ _ left_frame right_frame)

      -- `!`
      module _ (e : k ≡ 6) where
        left_not : expression_held p x ≡ Expression.not (base_held p a)
        left_not = tree.not_held p l g x s.left a (at_not p x (sym ek ∙ e) ∙ rw ea)

        right_not : expression_held p y ≡ Expression.not (base_held p b)
        right_not = tree.not_held p l g y s.right b (at_not p y (sym ej ∙ sym same ∙ e) ∙ rw eb)

        not_bases : TwoBases p l a b
        not_bases = record {
          program = g;
          left = (g.entries.expression x s.left).negated a (at_not p x (sym ek ∙ e) ∙ rw ea);
          right = (g.entries.expression y s.right).negated b (at_not p y (sym ej ∙ sym same ∙ e) ∙ rw eb);
        }

        pub not_asked : (t : ℕ) → expression_weight (expression_held p x) ≡ t → (base_weight (base_held p a) < t) × TwoBases p l a b
        unfolding base_weight
        not_asked t h = let q = ap expression_weight left_not in (omega arith, not_bases)

        pub expression_nots : (r : Bool) → r ≡ bases_agree p l a b → r ≡ expressions_agree p l x y
        unfolding same_base bases_agree
        expression_nots r er = er ∙ sym (expressions_as _ _ left_not right_not)

      -- an operation
      module _ (ge : 5 ≤ k) (n5 : k ≡ 5 → ⊥) (n6 : k ≡ 6 → ⊥) (c d : ℕ) (ec : c ≡ expression_b p x) (ed : d ≡ expression_b p y) where
        left_at : expression_at p x ≡ ExpressionEntry.Operate k a c
        left_at = (operation_at p l g x s.left (omega arith)).1 ∙ rw (ek, ea, ec)

        right_at : expression_at p y ≡ ExpressionEntry.Operate k b d
        right_at = (operation_at p l g y s.right (omega arith)).1 ∙ rw (same, ej, eb, ed)

        left_operation : expression_held p x ≡ Expression.operation (operator_of k) (base_held p a) (base_held p c)
        left_operation = tree.operation_held p l g x s.left k a c left_at

        right_operation : expression_held p y ≡ Expression.operation (operator_of k) (base_held p b) (base_held p d)
        right_operation = tree.operation_held p l g y s.right k b d right_at

        left_bases : TwoBases p l a b
        left_bases = record {
          program = g;
          left = (g.entries.expression x s.left).left k a c left_at;
          right = (g.entries.expression y s.right).left k b d right_at;
        }

        right_bases : TwoBases p l c d
        right_bases = record {
          program = g;
          left = (g.entries.expression x s.left).right k a c left_at;
          right = (g.entries.expression y s.right).right k b d right_at;
        }

        pub operation_asked : (t : ℕ) → expression_weight (expression_held p x) ≡ t
            → (base_weight (base_held p a) + base_weight (base_held p c) < t) × (TwoBases p l a b × TwoBases p l c d)
        unfolding base_weight
        operation_asked t h = let q = ap expression_weight left_operation in (omega arith, (left_bases, right_bases))

        pub expression_operations : (r : Bool) → r ≡ two_agree p l a c b d → r ≡ expressions_agree p l x y
        unfolding same_base two_agree bases_agree
        expression_operations r er =
            er
            ∙ sym (ap (λ (t : Bool). t && two_agree p l a c b d) (eq-eqb (operator_number (operator_of k)) (operator_number (operator_of k)) refl))
            ∙ sym (expressions_as _ _ left_operation right_operation)
