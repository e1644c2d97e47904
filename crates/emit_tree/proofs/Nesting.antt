-- Number 5 bounds how deep frames are nested outside code. Assumes nothing.
use mathlib.Core.Path.{◌≡◌, refl, ap}
use mathlib.Core.List.{List, [], ◌∷◌}
use Prim.Native.Nat.{ℕ, suc, max, ◌+◌, ◌≤◌}
use native.Mathlib.Omega.{arith}
use Rattle.framed.specs.Tokens.{Token, open_after, highest_nesting}
use Rattle.framed.specs.Symbols.{Symbol, numbered}
use Rattle.framed.specs.Tree.{Written, Base, Expression, Slots, Instruction, Code}
use Rattle.framed.specs.Grammar.{Names⊢, Ups⊢, Path⊢, Base⊢, Expression⊢, Frame⊢, Slots⊢, Instruction⊢, Code⊢}
use Rattle.emit_tree.specs.Members.{expression_deep, slots_deep}

-- the nesting after a symbol, and the highest
opened : ℕ → Symbol → ℕ
opened d (Symbol.name n) = d
opened d (Symbol.integer z) = d
opened d (Symbol.string k) = d
opened d (Symbol.code k) = d
opened d (Symbol.fixed f) = open_after d (Token.fixed f)

pub highest : ℕ → List Symbol → ℕ
highest d [] = d
highest d (x ∷ us) = max d (highest (opened d x) us)

pub highest_same : (table : List (List ℕ)) (k c d : ℕ) (ts : List Token) → highest d (numbered table k c ts) ≡ highest_nesting d ts
unfolding numbered highest opened highest_nesting open_after
highest_same table k c d [] = refl
highest_same table k c d (Token.name w ∷ ts) = ap (max d) (highest_same table k c d ts)
highest_same table k c d (Token.integer z ∷ ts) = ap (max d) (highest_same table k c d ts)
highest_same table k c d (Token.string w ∷ ts) = ap (max d) (highest_same table (suc k) c d ts)
highest_same table k c d (Token.code ∷ ts) = ap (max d) (highest_same table k (suc c) d ts)
highest_same table k c d (Token.fixed f ∷ ts) = ap (max d) (highest_same table k c _ ts)

module _ (L : ℕ) where
  abbrev Within : ℕ → List Symbol → Type 0
  Within d us = highest d us ≤ L

  step : (d : ℕ) (x : Symbol) (us : List Symbol) → Within d (x ∷ us) → Within (opened d x) us
  unfolding highest
  step d x us l = omega arith

  here : (d : ℕ) (us : List Symbol) → Within d us → d ≤ L
  unfolding highest
  here d [] l = l
  here d (x ∷ us) l = omega arith

  names_within : {us vs : List Symbol} {ns : List ℕ} (d : ℕ) → Names⊢ us ns vs → Within d us → Within d vs
  unfolding opened open_after
  names_within d Names⊢.none l = l
  names_within d (Names⊢.more g) l = names_within d g (step d _ _ (step d _ _ l))

  ups_within : {us vs : List Symbol} {k : ℕ} (d : ℕ) → Ups⊢ us k vs → Within d us → Within d vs
  unfolding opened open_after
  ups_within d Ups⊢.none l = l
  ups_within d (Ups⊢.more g) l = ups_within d g (step d _ _ (step d _ _ l))

  path_within : {us vs : List Symbol} {w : Written} (d : ℕ) → Path⊢ us w vs → Within d us → Within d vs
  unfolding opened open_after
  path_within d (Path⊢.self g) l = names_within d g (step d _ _ l)
  path_within d (Path⊢.up g h) l = names_within d h (ups_within d g (step d _ _ l))

  mutual
    unfolding opened open_after

    base_within : {us vs : List Symbol} {b : Base Written} (d : ℕ) → Base⊢ us b vs → Within d us → Within d vs
    base_within d Base⊢.integer l = step d _ _ l
    base_within d Base⊢.string l = step d _ _ l
    base_within d (Base⊢.path g) l = path_within d g l
    base_within d (Base⊢.code g) l = step (suc d) _ _ (code_within (suc d) g (step d _ _ (step d _ _ l)))

    expression_within : {us vs : List Symbol} {e : Expression Written} (d : ℕ) → Expression⊢ us e vs → Within d us → Within d vs
    expression_within d (Expression⊢.base g) l = base_within d g l
    expression_within d (Expression⊢.not g) l = base_within d g (step d _ _ l)
    expression_within d (Expression⊢.operation g h) l = base_within d h (step d _ _ (base_within d g l))
    expression_within d (Expression⊢.frame g) l = frame_within d g l

    frame_within : {us vs : List Symbol} {ss : Slots Written} (d : ℕ) → Frame⊢ us ss vs → Within d us → Within d vs
    frame_within d (Frame⊢.brackets g) l = step (suc d) _ _ (slots_within (suc d) g (step d _ _ (step d _ _ (step d _ _ l))))

    slots_within : {us vs : List Symbol} {ss : Slots Written} (d : ℕ) → Slots⊢ us ss vs → Within d us → Within d vs
    slots_within d Slots⊢.no_slots l = l
    slots_within d (Slots⊢.last_slot g) l = expression_within d g (step d _ _ (step d _ _ l))
    slots_within d (Slots⊢.more_slots g h) l = slots_within d h (step d _ _ (expression_within d g (step d _ _ (step d _ _ l))))

    instruction_within : {us vs : List Symbol} {o : Instruction Written} (d : ℕ) → Instruction⊢ us o vs → Within d us → Within d vs
    instruction_within d (Instruction⊢.assign g h) l = expression_within d h (step d _ _ (path_within d g l))
    instruction_within d (Instruction⊢.show g) l = base_within d g (step d _ _ l)
    instruction_within d (Instruction⊢.jump g h) l = base_within d h (base_within d g (step d _ _ l))
    instruction_within d (Instruction⊢.ifeq g h i) l = base_within d i (base_within d h (base_within d g (step d _ _ l)))

    code_within : {us vs : List Symbol} {is : Code Written} (d : ℕ) → Code⊢ us is vs → Within d us → Within d vs
    code_within d Code⊢.no_instructions l = l
    code_within d (Code⊢.more_instructions g h) l = code_within d h (step d _ _ (instruction_within d g l))

  mutual
    unfolding opened open_after expression_deep

    expression_fits : {us vs : List Symbol} {e : Expression Written} (d : ℕ) → Expression⊢ us e vs → Within d us → d + expression_deep e ≤ L
    expression_fits d (Expression⊢.base g) l = omega (arith, here d _ l)
    expression_fits d (Expression⊢.not g) l = omega (arith, here d _ l)
    expression_fits d (Expression⊢.operation g h) l = omega (arith, here d _ l)
    expression_fits d (Expression⊢.frame g) l = omega (arith, frame_fits d g l)

    -- the slots of a frame
    pub frame_fits : {us vs : List Symbol} {ss : Slots Written} (d : ℕ) → Frame⊢ us ss vs → highest d us ≤ L → suc d + slots_deep ss ≤ L
    frame_fits d (Frame⊢.brackets g) l = slots_fit (suc d) g (step d _ _ (step d _ _ (step d _ _ l)))

    slots_fit : {us vs : List Symbol} {ss : Slots Written} (d : ℕ) → Slots⊢ us ss vs → Within d us → d + slots_deep ss ≤ L
    slots_fit d Slots⊢.no_slots l = omega (arith, here d _ l)
    slots_fit d (Slots⊢.last_slot g) l = omega (arith, expression_fits d g (step d _ _ (step d _ _ l)))
    slots_fit d (Slots⊢.more_slots g h) l =
        let l₁ = step d _ _ (step d _ _ l) in
        omega (arith, expression_fits d g l₁, slots_fit d h (step d _ _ (expression_within d g l₁)))
