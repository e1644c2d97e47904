-- `Parse.parse` agrees with the grammar: it gives the slots `ss` exactly when the symbols are one frame with these slots.
-- Assumes nothing.
use mathlib.Core.Path.{◌≡◌, refl, sym, ◌∙◌, ap}
use mathlib.Core.Logic.{◌↔◌}
use mathlib.Core.Bool.{Bool, true, false}
use mathlib.Core.List.{List, [], ◌∷◌}
use mathlib.Core.Option.{some}
use Prim.Native.Nat.{ℕ, zero, suc, ◌+◌, ◌≤◌, ◌<◌}
use native.Mathlib.Omega.{arith}
use lib.ListN.{length, get_or, replicate, length-replicate}
use lib.Dec.{eqb, eqb→eq}
use Rattle.framed.specs.Common.{when◌then◌else◌}
use Rattle.framed.specs.Tokens.{Fixed, Operator}
use Rattle.framed.specs.Symbols.{Symbol, fixed}
use Rattle.framed.specs.Tree.{Written, Base, Expression, Slots, Instruction, Code, ◌then◌}
use Rattle.framed.specs.Parse.{Parsed, fails, parsed, Reader, give, ◌or◌, fixed_number, this, a_name, a_code, a_constant, operator_in, an_operator, many_within, many, names, further_ups, a_path, a_frame, a_base, an_expression, slots, an_instruction, instructions, whole, parse}
use Rattle.framed.specs.Parse as P
use Rattle.framed.specs.Theorems.{ParseExact}
use Rattle.framed.proofs.General.{none≢some, some_inj}
use Rattle.framed.specs.Grammar.{Names⊢, Ups⊢, Path⊢, Base⊢, Expression⊢, Frame⊢, Slots⊢, Instruction⊢, Code⊢, Source}

-- ---- What a reader that finds something says of its parts; they are handed on as variables

pub value_inj : {A : Type 0} {a b : A} {us vs : List Symbol} → parsed a us ≡ parsed b vs → a ≡ b
value_inj e = cc

pub rest_inj : {A : Type 0} {a b : A} {us vs : List Symbol} → parsed a us ≡ parsed b vs → us ≡ vs
rest_inj e = cc

pub fails≢parsed : {A : Type 0} {a : A} {us : List Symbol} → ◌≡◌ {A = Parsed A} fails (parsed a us) → ⊥
fails≢parsed e = let z : ◌≡◌ {A = ℕ} 0 1 = cc in omega arith

module _ {A B C : Type 0} {b : B} {us : List Symbol} where
  pub bind_case : (x : Parsed A) (f : A → Reader B) → (elim x [ fails ↦ fails | parsed a vs ↦ f a vs ]) ≡ parsed b us →
      ((a : A) (vs : List Symbol) → x ≡ parsed a vs → f a vs ≡ parsed b us → C) → C
  bind_case fails f e k = absurd (fails≢parsed e)
  bind_case (parsed a vs) f e k = k a vs refl e

  pub bind_in : (r : Reader A) (f : A → Reader B) (ts : List Symbol) → P.◌>>=◌ r f ts ≡ parsed b us →
      ((a : A) (vs : List Symbol) → r ts ≡ parsed a vs → f a vs ≡ parsed b us → C) → C
  unfolding P.◌>>=◌
  bind_in r f ts e k = bind_case (r ts) f e k

  pub then_in : (r : Reader A) (q : Reader B) (ts : List Symbol) → P.◌>>◌ r q ts ≡ parsed b us →
      ((a : A) (vs : List Symbol) → r ts ≡ parsed a vs → q vs ≡ parsed b us → C) → C
  unfolding P.◌>>◌
  then_in r q ts e k = bind_case (r ts) (λ a. q) e k

module _ {B C : Type 0} {b : B} {us : List Symbol} where
  pub or_case : (x : Parsed B) (q : Parsed B) → (elim x [ fails ↦ q | parsed a vs ↦ parsed a vs ]) ≡ parsed b us →
      (x ≡ parsed b us → C) → (q ≡ parsed b us → C) → C
  or_case fails q e k l = l e
  or_case (parsed a vs) q e k l = k e

  pub or_in : (r q : Reader B) (ts : List Symbol) → (r or q) ts ≡ parsed b us → (r ts ≡ parsed b us → C) → (q ts ≡ parsed b us → C) → C
  unfolding ◌or◌
  or_in r q ts e k l = or_case (r ts) (q ts) e k l

-- ---- One symbol

-- the fixed symbols other than operators, by number
pub plain : List Fixed
plain =
    Fixed.frame ∷ Fixed.self ∷ Fixed.show ∷ Fixed.jump ∷ Fixed.ifeq ∷ Fixed.colon ∷ Fixed.assign ∷ Fixed.dot ∷ Fixed.up ∷ Fixed.bang
    ∷ Fixed.semicolon ∷ Fixed.comma ∷ Fixed.open_square ∷ Fixed.close_square ∷ Fixed.open_curly ∷ Fixed.close_curly ∷ []

pub by_number : (f : Fixed) → fixed_number f < 16 → get_or plain (fixed_number f) Fixed.frame ≡ f
unfolding plain fixed_number
by_number Fixed.frame l = refl
by_number Fixed.self l = refl
by_number Fixed.show l = refl
by_number Fixed.jump l = refl
by_number Fixed.ifeq l = refl
by_number Fixed.colon l = refl
by_number Fixed.assign l = refl
by_number Fixed.dot l = refl
by_number Fixed.up l = refl
by_number Fixed.bang l = refl
by_number Fixed.semicolon l = refl
by_number Fixed.comma l = refl
by_number Fixed.open_square l = refl
by_number Fixed.close_square l = refl
by_number Fixed.open_curly l = refl
by_number Fixed.close_curly l = refl
by_number (Fixed.operator o) l = absurd (omega arith)

pub same_number : (f g : Fixed) → fixed_number f < 16 → fixed_number f ≡ fixed_number g → f ≡ g
same_number f g l e =
    let m : fixed_number g < 16 = omega arith in
    sym (by_number f l) ∙ ap (λ (n : ℕ). get_or plain n Fixed.frame) e ∙ by_number g m

pub this_case : (f g h : Fixed) (ts us : List Symbol) (t : Bool) → fixed_number f < 16 → eqb (fixed_number f) (fixed_number g) ≡ t →
    (when t then parsed f ts else fails) ≡ parsed h us → ◌≡◌ {A = List Symbol} (fixed g ∷ ts) (fixed f ∷ us)
this_case f g h ts us true l q e =
    let d : f ≡ g = same_number f g l (eqb→eq _ _ (rw q tt)) in
    let r : ts ≡ us = rest_inj e in
    cc
this_case f g h ts us false l q e = absurd (fails≢parsed e)

pub this_in : (f h : Fixed) (ts us : List Symbol) → fixed_number f < 16 → this f ts ≡ parsed h us → ts ≡ fixed f ∷ us
unfolding this
this_in f h [] us l e = absurd (fails≢parsed e)
this_in f h (Symbol.name n ∷ ts) us l e = absurd (fails≢parsed e)
this_in f h (Symbol.integer z ∷ ts) us l e = absurd (fails≢parsed e)
this_in f h (Symbol.string k ∷ ts) us l e = absurd (fails≢parsed e)
this_in f h (Symbol.code k ∷ ts) us l e = absurd (fails≢parsed e)
this_in f h (Symbol.fixed g ∷ ts) us l e = this_case f g h ts us (eqb (fixed_number f) (fixed_number g)) l refl e

pub a_name_in : (ts : List Symbol) {n : ℕ} {us : List Symbol} → a_name ts ≡ parsed n us → ts ≡ Symbol.name n ∷ us
unfolding a_name
a_name_in [] e = absurd (fails≢parsed e)
a_name_in (Symbol.name n ∷ ts) e = cc (value_inj e, rest_inj e)
a_name_in (Symbol.integer z ∷ ts) e = absurd (fails≢parsed e)
a_name_in (Symbol.string k ∷ ts) e = absurd (fails≢parsed e)
a_name_in (Symbol.code k ∷ ts) e = absurd (fails≢parsed e)
a_name_in (Symbol.fixed g ∷ ts) e = absurd (fails≢parsed e)

pub a_code_in : (ts : List Symbol) {n : ℕ} {us : List Symbol} → a_code ts ≡ parsed n us → ts ≡ Symbol.code n ∷ us
unfolding a_code
a_code_in [] e = absurd (fails≢parsed e)
a_code_in (Symbol.name n ∷ ts) e = absurd (fails≢parsed e)
a_code_in (Symbol.integer z ∷ ts) e = absurd (fails≢parsed e)
a_code_in (Symbol.string k ∷ ts) e = absurd (fails≢parsed e)
a_code_in (Symbol.code k ∷ ts) e = cc (value_inj e, rest_inj e)
a_code_in (Symbol.fixed g ∷ ts) e = absurd (fails≢parsed e)

pub a_constant_in : (ts : List Symbol) {b : Base Written} {us : List Symbol} → a_constant ts ≡ parsed b us → Base⊢ ts b us
unfolding a_constant
a_constant_in [] e = absurd (fails≢parsed e)
a_constant_in (Symbol.name n ∷ ts) e = absurd (fails≢parsed e)
a_constant_in (Symbol.integer z ∷ ts) e = rw (← value_inj e, ← rest_inj e) Base⊢.integer
a_constant_in (Symbol.string k ∷ ts) e = rw (← value_inj e, ← rest_inj e) Base⊢.string
a_constant_in (Symbol.code k ∷ ts) e = absurd (fails≢parsed e)
a_constant_in (Symbol.fixed g ∷ ts) e = absurd (fails≢parsed e)

pub operator_is : (g : Fixed) (ts : List Symbol) {o : Operator} {us : List Symbol} → operator_in g ts ≡ parsed o us →
    ◌≡◌ {A = List Symbol} (fixed g ∷ ts) (fixed (Fixed.operator o) ∷ us)
unfolding operator_in
operator_is Fixed.frame ts e = absurd (fails≢parsed e)
operator_is Fixed.self ts e = absurd (fails≢parsed e)
operator_is Fixed.show ts e = absurd (fails≢parsed e)
operator_is Fixed.jump ts e = absurd (fails≢parsed e)
operator_is Fixed.ifeq ts e = absurd (fails≢parsed e)
operator_is Fixed.colon ts e = absurd (fails≢parsed e)
operator_is Fixed.assign ts e = absurd (fails≢parsed e)
operator_is Fixed.dot ts e = absurd (fails≢parsed e)
operator_is Fixed.up ts e = absurd (fails≢parsed e)
operator_is Fixed.bang ts e = absurd (fails≢parsed e)
operator_is Fixed.semicolon ts e = absurd (fails≢parsed e)
operator_is Fixed.comma ts e = absurd (fails≢parsed e)
operator_is Fixed.open_square ts e = absurd (fails≢parsed e)
operator_is Fixed.close_square ts e = absurd (fails≢parsed e)
operator_is Fixed.open_curly ts e = absurd (fails≢parsed e)
operator_is Fixed.close_curly ts e = absurd (fails≢parsed e)
operator_is (Fixed.operator o) ts e = cc (value_inj e, rest_inj e)

pub an_operator_in : (ts : List Symbol) {o : Operator} {us : List Symbol} → an_operator ts ≡ parsed o us → ts ≡ fixed (Fixed.operator o) ∷ us
unfolding an_operator
an_operator_in [] e = absurd (fails≢parsed e)
an_operator_in (Symbol.name n ∷ ts) e = absurd (fails≢parsed e)
an_operator_in (Symbol.integer z ∷ ts) e = absurd (fails≢parsed e)
an_operator_in (Symbol.string k ∷ ts) e = absurd (fails≢parsed e)
an_operator_in (Symbol.code k ∷ ts) e = absurd (fails≢parsed e)
an_operator_in (Symbol.fixed g ∷ ts) e = operator_is g ts e

-- one of the fixed symbols, then more
pub then_this : {B C : Type 0} {b : B} {us : List Symbol} (f : Fixed) (q : Reader B) (ts : List Symbol) → fixed_number f < 16 →
    P.◌>>◌ (this f) q ts ≡ parsed b us → ((vs : List Symbol) → ts ≡ fixed f ∷ vs → q vs ≡ parsed b us → C) → C
then_this f q ts l e k = then_in (this f) q ts e λ g vs p r. k vs (this_in f g ts vs l p) r

-- ---- The grammar holds of what `parse` gives

pub names_within_in : (n : ℕ) (ts : List Symbol) {ns : List ℕ} {us : List Symbol} →
    many_within n (P.◌>>◌ (this Fixed.dot) a_name) ts ≡ parsed ns us → Names⊢ ts ns us
unfolding many_within give fixed_number
names_within_in zero ts e = rw (← value_inj e, ← rest_inj e) Names⊢.none
names_within_in (suc n) ts e =
    or_in _ _ ts e
    (λ e. bind_in _ _ ts e λ m vs p e.
    bind_in _ _ vs e λ ms ws q e.
    then_this Fixed.dot a_name ts (omega arith) p λ xs t u.
    rw (t, a_name_in xs u, ← value_inj e, ← rest_inj e) (Names⊢.more (names_within_in n vs q)))
    (λ e. rw (← value_inj e, ← rest_inj e) Names⊢.none)

pub names_in : (ts : List Symbol) {ns : List ℕ} {us : List Symbol} → names ts ≡ parsed ns us → Names⊢ ts ns us
unfolding names many
names_in ts e = names_within_in (length ts) ts e

pub ups_within_in : (n : ℕ) (ts : List Symbol) {fs : List Fixed} {us : List Symbol} →
    many_within n (P.◌>>◌ (this Fixed.dot) (this Fixed.up)) ts ≡ parsed fs us → Ups⊢ ts (length fs) us
unfolding many_within give fixed_number
ups_within_in zero ts e = rw (← value_inj e, ← rest_inj e) Ups⊢.none
ups_within_in (suc n) ts e =
    or_in _ _ ts e
    (λ e. bind_in _ _ ts e λ g vs p e.
    bind_in _ _ vs e λ gs ws q e.
    then_this Fixed.dot (this Fixed.up) ts (omega arith) p λ xs t u.
    rw (t, this_in Fixed.up g xs vs (omega arith) u, ← value_inj e, ← rest_inj e) (Ups⊢.more (ups_within_in n vs q)))
    (λ e. rw (← value_inj e, ← rest_inj e) Ups⊢.none)

pub further_ups_in : (ts : List Symbol) {k : ℕ} {us : List Symbol} → further_ups ts ≡ parsed k us → Ups⊢ ts k us
unfolding further_ups many give
further_ups_in ts e =
    bind_in _ _ ts e λ fs vs p e.
    rw (← value_inj e, ← rest_inj e) (ups_within_in (length ts) ts p)

pub a_path_in : (ts : List Symbol) {p : Written} {us : List Symbol} → a_path ts ≡ parsed p us → Path⊢ ts p us
unfolding a_path give fixed_number
a_path_in ts e =
    or_in _ _ ts e
    (λ e. then_this Fixed.self _ ts (omega arith) e λ vs t e.
    bind_in _ _ vs e λ ns ws q e.
    rw (t, ← value_inj e, ← rest_inj e) (Path⊢.self (names_in vs q)))
    (λ e. then_this Fixed.up _ ts (omega arith) e λ vs t e.
    bind_in _ _ vs e λ k ws q e.
    bind_in _ _ ws e λ ns xs r e.
    rw (t, ← value_inj e, ← rest_inj e) (Path⊢.up (further_ups_in vs q) (names_in ws r)))

pub a_frame_in : (r : Reader (Slots Written)) → ((ts : List Symbol) (ss : Slots Written) (us : List Symbol) → r ts ≡ parsed ss us → Slots⊢ ts ss us) →
    (ts : List Symbol) {ss : Slots Written} {us : List Symbol} → a_frame r ts ≡ parsed ss us → Frame⊢ ts ss us
unfolding a_frame give fixed_number
a_frame_in r sound ts e =
    then_this Fixed.frame _ ts (omega arith) e λ vs t e.
    then_this Fixed.colon _ vs (omega arith) e λ ws u e.
    then_this Fixed.open_square _ ws (omega arith) e λ xs v e.
    bind_in r _ xs e λ ss ys p e.
    then_this Fixed.close_square _ ys (omega arith) e λ zs w e.
    rw (t, u, v, ← value_inj e, ← rest_inj e) (Frame⊢.brackets (rw w at (sound xs ss ys p)))

mutual
  unfolding a_base give fixed_number

  pub base_in : (n : ℕ) (ts : List Symbol) {b : Base Written} {us : List Symbol} → a_base n ts ≡ parsed b us → Base⊢ ts b us
  base_in zero ts e = absurd (fails≢parsed e)
  base_in (suc n) ts e =
      or_in _ _ ts e (λ e. a_constant_in ts e) λ e.
      or_in _ _ ts e
      (λ e. bind_in _ _ ts e λ p vs q e. rw (← value_inj e, ← rest_inj e) (Base⊢.path (a_path_in ts q)))
      (λ e. bind_in _ _ ts e λ k vs q e.
      then_this Fixed.open_curly _ vs (omega arith) e λ ws t e.
      bind_in (instructions n) _ ws e λ is xs r e.
      then_this Fixed.close_curly _ xs (omega arith) e λ ys u e.
      rw (a_code_in ts q, t, ← value_inj e, ← rest_inj e) (Base⊢.code (rw u at (code_in n ws r))))

  pub expression_in : (n : ℕ) (ts : List Symbol) {x : Expression Written} {us : List Symbol} → an_expression n ts ≡ parsed x us → Expression⊢ ts x us
  expression_in zero ts e = absurd (fails≢parsed e)
  expression_in (suc n) ts e =
      or_in _ _ ts e
      (λ e. bind_in _ _ ts e λ ss vs p e. rw (← value_inj e, ← rest_inj e) (Expression⊢.frame (a_frame_in (slots n) (λ ts ss us e. slots_in n ts e) ts p)))
      λ e.
      or_in _ _ ts e
      (λ e. then_this Fixed.bang _ ts (omega arith) e λ vs t e.
      bind_in _ _ vs e λ b ws p e.
      rw (t, ← value_inj e, ← rest_inj e) (Expression⊢.not (base_in n vs p)))
      λ e.
      bind_in _ _ ts e λ a vs p e.
      or_in _ _ vs e
      (λ e. bind_in _ _ vs e λ o ws q e.
      bind_in _ _ ws e λ b xs r e.
      rw (← value_inj e, ← rest_inj e) (Expression⊢.operation (rw (an_operator_in vs q) at (base_in n ts p)) (base_in n ws r)))
      (λ e. rw (← value_inj e, ← rest_inj e) (Expression⊢.base (base_in n ts p)))

  pub slots_in : (n : ℕ) (ts : List Symbol) {ss : Slots Written} {us : List Symbol} → slots n ts ≡ parsed ss us → Slots⊢ ts ss us
  slots_in zero ts e = absurd (fails≢parsed e)
  slots_in (suc n) ts e =
      or_in _ _ ts e
      (λ e. bind_in _ _ ts e λ s vs p e.
      then_this Fixed.assign _ vs (omega arith) e λ ws t e.
      bind_in _ _ ws e λ x xs q e.
      bind_in _ _ xs e λ ss ys r e.
      rw (a_name_in ts p, t, ← value_inj e, ← rest_inj e)
      (or_in _ _ xs r
      (λ r. then_this Fixed.comma _ xs (omega arith) r λ zs u r. Slots⊢.more_slots (rw u at (expression_in n ws q)) (slots_in n zs r))
      (λ r. rw (← value_inj r, ← rest_inj r) (Slots⊢.last_slot (expression_in n ws q)))))
      (λ e. rw (← value_inj e, ← rest_inj e) Slots⊢.no_slots)

  pub instruction_in : (n : ℕ) (ts : List Symbol) {i : Instruction Written} {us : List Symbol} → an_instruction n ts ≡ parsed i us → Instruction⊢ ts i us
  instruction_in zero ts e = absurd (fails≢parsed e)
  instruction_in (suc n) ts e =
      or_in _ _ ts e
      (λ e. then_this Fixed.show _ ts (omega arith) e λ vs t e.
      bind_in _ _ vs e λ a ws p e.
      rw (t, ← value_inj e, ← rest_inj e) (Instruction⊢.show (base_in n vs p)))
      λ e.
      or_in _ _ ts e
      (λ e. then_this Fixed.jump _ ts (omega arith) e λ vs t e.
      bind_in _ _ vs e λ a ws p e.
      bind_in _ _ ws e λ b xs q e.
      rw (t, ← value_inj e, ← rest_inj e) (Instruction⊢.jump (base_in n vs p) (base_in n ws q)))
      λ e.
      or_in _ _ ts e
      (λ e. then_this Fixed.ifeq _ ts (omega arith) e λ vs t e.
      bind_in _ _ vs e λ a ws p e.
      bind_in _ _ ws e λ b xs q e.
      bind_in _ _ xs e λ c ys r e.
      rw (t, ← value_inj e, ← rest_inj e) (Instruction⊢.ifeq (base_in n vs p) (base_in n ws q) (base_in n xs r)))
      λ e.
      bind_in _ _ ts e λ p vs q e.
      then_this Fixed.assign _ vs (omega arith) e λ ws t e.
      bind_in _ _ ws e λ x xs r e.
      rw (← value_inj e, ← rest_inj e) (Instruction⊢.assign (rw t at (a_path_in ts q)) (expression_in n ws r))

  pub code_in : (n : ℕ) (ts : List Symbol) {is : Code Written} {us : List Symbol} → instructions n ts ≡ parsed is us → Code⊢ ts is us
  code_in zero ts e = absurd (fails≢parsed e)
  code_in (suc n) ts e =
      or_in _ _ ts e
      (λ e. bind_in _ _ ts e λ i vs p e.
      then_this Fixed.semicolon _ vs (omega arith) e λ ws t e.
      bind_in _ _ ws e λ is xs q e.
      rw (← value_inj e, ← rest_inj e) (Code⊢.more_instructions (rw t at (instruction_in n ts p)) (code_in n ws q)))
      (λ e. rw (← value_inj e, ← rest_inj e) Code⊢.no_instructions)

pub whole_in : (x : Parsed (Slots Written)) {ss : Slots Written} → whole x ≡ some ss → x ≡ parsed ss []
unfolding whole
whole_in fails e = absurd (none≢some e)
whole_in (parsed ss []) e = cc
whole_in (parsed ss (t ∷ ts)) e = absurd (none≢some e)

pub parse_sound : (ts : List Symbol) {ss : Slots Written} → parse ts ≡ some ss → Source ts ss
unfolding parse
parse_sound ts e = a_frame_in (slots (length ts)) (λ us ss vs e. slots_in (length ts) us e) ts (whole_in _ e)

-- ---- `parse` finds what the grammar admits

module _ {A B : Type 0} where
  pub bind_out : {a : A} {vs : List Symbol} {x : Parsed B} (r : Reader A) (f : A → Reader B) (ts : List Symbol) →
      r ts ≡ parsed a vs → f a vs ≡ x → P.◌>>=◌ r f ts ≡ x
  unfolding P.◌>>=◌
  bind_out r f ts p q = rw (p, P.◌>>=◌) q

  pub then_out : {a : A} {vs : List Symbol} {x : Parsed B} (r : Reader A) (q : Reader B) (ts : List Symbol) →
      r ts ≡ parsed a vs → q vs ≡ x → P.◌>>◌ r q ts ≡ x
  unfolding P.◌>>◌
  then_out r q ts p e = rw (p, P.◌>>◌) e

  pub bind_fails : (r : Reader A) (f : A → Reader B) (ts : List Symbol) → r ts ≡ fails → P.◌>>=◌ r f ts ≡ fails
  unfolding P.◌>>=◌
  bind_fails r f ts p = rw (p, P.◌>>=◌)

  pub then_fails : (r : Reader A) (q : Reader B) (ts : List Symbol) → r ts ≡ fails → P.◌>>◌ r q ts ≡ fails
  unfolding P.◌>>◌
  then_fails r q ts p = rw (p, P.◌>>◌)

module _ {A : Type 0} where
  pub or_first : {a : A} {us : List Symbol} (r q : Reader A) (ts : List Symbol) → r ts ≡ parsed a us → (r or q) ts ≡ parsed a us
  unfolding ◌or◌
  or_first r q ts p = rw (p, ◌or◌)

  pub or_second : {x : Parsed A} (r q : Reader A) (ts : List Symbol) → r ts ≡ fails → q ts ≡ x → (r or q) ts ≡ x
  unfolding ◌or◌
  or_second r q ts p q' = rw (p, ◌or◌) q'

-- each production reads at least one symbol, but for lists
pub names_shorter : {ts rest : List Symbol} {ns : List ℕ} → Names⊢ ts ns rest → length rest ≤ length ts
names_shorter Names⊢.none = omega arith
names_shorter (Names⊢.more d) = omega (arith, names_shorter d)

pub ups_shorter : {ts rest : List Symbol} {k : ℕ} → Ups⊢ ts k rest → length rest ≤ length ts
ups_shorter Ups⊢.none = omega arith
ups_shorter (Ups⊢.more d) = omega (arith, ups_shorter d)

pub path_shorter : {ts rest : List Symbol} {p : Written} → Path⊢ ts p rest → length rest < length ts
path_shorter (Path⊢.self d) = omega (arith, names_shorter d)
path_shorter (Path⊢.up c d) = omega (arith, ups_shorter c, names_shorter d)

mutual
  pub base_shorter : {ts rest : List Symbol} {b : Base Written} → Base⊢ ts b rest → length rest < length ts
  base_shorter Base⊢.integer = omega arith
  base_shorter Base⊢.string = omega arith
  base_shorter (Base⊢.path d) = path_shorter d
  base_shorter (Base⊢.code d) = omega (arith, code_shorter d)

  pub expression_shorter : {ts rest : List Symbol} {x : Expression Written} → Expression⊢ ts x rest → length rest < length ts
  expression_shorter (Expression⊢.base d) = base_shorter d
  expression_shorter (Expression⊢.not d) = omega (arith, base_shorter d)
  expression_shorter (Expression⊢.operation c d) = omega (arith, base_shorter c, base_shorter d)
  expression_shorter (Expression⊢.frame d) = frame_shorter d

  pub frame_shorter : {ts rest : List Symbol} {ss : Slots Written} → Frame⊢ ts ss rest → length rest < length ts
  frame_shorter (Frame⊢.brackets d) = omega (arith, slots_shorter d)

  pub slots_shorter : {ts rest : List Symbol} {ss : Slots Written} → Slots⊢ ts ss rest → length rest ≤ length ts
  slots_shorter Slots⊢.no_slots = omega arith
  slots_shorter (Slots⊢.last_slot d) = omega (arith, expression_shorter d)
  slots_shorter (Slots⊢.more_slots c d) = omega (arith, expression_shorter c, slots_shorter d)

  pub instruction_shorter : {ts rest : List Symbol} {i : Instruction Written} → Instruction⊢ ts i rest → length rest < length ts
  instruction_shorter (Instruction⊢.assign c d) = omega (arith, path_shorter c, expression_shorter d)
  instruction_shorter (Instruction⊢.show d) = omega (arith, base_shorter d)
  instruction_shorter (Instruction⊢.jump c d) = omega (arith, base_shorter c, base_shorter d)
  instruction_shorter (Instruction⊢.ifeq b c d) = omega (arith, base_shorter b, base_shorter c, base_shorter d)

  pub code_shorter : {ts rest : List Symbol} {is : Code Written} → Code⊢ ts is rest → length rest ≤ length ts
  code_shorter Code⊢.no_instructions = omega arith
  code_shorter (Code⊢.more_instructions c d) = omega (arith, instruction_shorter c, code_shorter d)

-- what follows a base is no dot, and what follows an expression no operator either
abbrev pub NoDot : List Symbol → Type 0
NoDot ts = this Fixed.dot ts ≡ fails

pub record Follows (ts : List Symbol) : Type 0 where
  no_dot : NoDot ts
  no_operator : an_operator ts ≡ fails

pub names_out : {ts rest : List Symbol} {ns : List ℕ} → Names⊢ ts ns rest → (n : ℕ) → NoDot rest → length ts ≤ n + length rest →
    many_within n (P.◌>>◌ (this Fixed.dot) a_name) ts ≡ parsed ns rest
unfolding many_within give this a_name fixed_number P.◌>>◌
names_out Names⊢.none zero f l = refl
names_out (Names⊢.none {rest}) (suc n) f l = or_second _ _ _ (bind_fails _ _ _ (then_fails (this Fixed.dot) a_name rest f)) refl
names_out (Names⊢.more d) zero f l = absurd (omega (arith, names_shorter d))
names_out (Names⊢.more d) (suc n) f l = or_first _ _ _ (bind_out _ _ _ refl (bind_out _ _ _ (names_out d n f (omega arith)) refl))

pub ups_out : {ts rest : List Symbol} {k : ℕ} → Ups⊢ ts k rest → (n : ℕ) → P.◌>>◌ (this Fixed.dot) (this Fixed.up) rest ≡ fails →
    length ts ≤ n + length rest → many_within n (P.◌>>◌ (this Fixed.dot) (this Fixed.up)) ts ≡ parsed (replicate k Fixed.up) rest
unfolding many_within give this fixed_number P.◌>>◌
ups_out Ups⊢.none zero f l = refl
ups_out Ups⊢.none (suc n) f l = or_second _ _ _ (bind_fails _ _ _ f) refl
ups_out (Ups⊢.more d) zero f l = absurd (omega (arith, ups_shorter d))
ups_out (Ups⊢.more d) (suc n) f l = or_first _ _ _ (bind_out _ _ _ refl (bind_out _ _ _ (ups_out d n f (omega arith)) refl))

-- names do not begin with a dot and `^`
pub names_no_up : {ts rest : List Symbol} {ns : List ℕ} → Names⊢ ts ns rest → NoDot rest → P.◌>>◌ (this Fixed.dot) (this Fixed.up) ts ≡ fails
unfolding this fixed_number P.◌>>◌
names_no_up (Names⊢.none {rest}) f = then_fails (this Fixed.dot) (this Fixed.up) rest f
names_no_up (Names⊢.more d) f = refl

pub names_all : {ts rest : List Symbol} {ns : List ℕ} → Names⊢ ts ns rest → NoDot rest → names ts ≡ parsed ns rest
unfolding names many
names_all {ts} {rest} d f = names_out d (length ts) f (omega arith)

pub further_ups_out : {ts us rest : List Symbol} {k : ℕ} {ns : List ℕ} → Ups⊢ ts k us → Names⊢ us ns rest → NoDot rest → further_ups ts ≡ parsed k us
unfolding further_ups many give
further_ups_out {ts} {k} c d f =
    bind_out _ _ _ (ups_out c (length ts) (names_no_up d f) (omega arith)) (rw (length-replicate k Fixed.up))

pub path_out : {ts rest : List Symbol} {p : Written} → Path⊢ ts p rest → NoDot rest → a_path ts ≡ parsed p rest
unfolding a_path give this fixed_number P.◌>>◌
path_out (Path⊢.self d) f = or_first _ _ _ (bind_out _ _ _ (names_all d f) refl)
path_out (Path⊢.up c d) f = or_second _ _ _ refl (bind_out _ _ _ (further_ups_out c d f) (bind_out _ _ _ (names_all d f) refl))

-- what a base or a path begins with
pub base_no_dot : {ts rest : List Symbol} {b : Base Written} → Base⊢ ts b rest → NoDot ts
unfolding this fixed_number
base_no_dot Base⊢.integer = refl
base_no_dot Base⊢.string = refl
base_no_dot (Base⊢.path (Path⊢.self d)) = refl
base_no_dot (Base⊢.path (Path⊢.up c d)) = refl
base_no_dot (Base⊢.code d) = refl

pub base_no_frame : {ts rest : List Symbol} {b : Base Written} → Base⊢ ts b rest → this Fixed.frame ts ≡ fails
unfolding this fixed_number
base_no_frame Base⊢.integer = refl
base_no_frame Base⊢.string = refl
base_no_frame (Base⊢.path (Path⊢.self d)) = refl
base_no_frame (Base⊢.path (Path⊢.up c d)) = refl
base_no_frame (Base⊢.code d) = refl

pub base_no_bang : {ts rest : List Symbol} {b : Base Written} → Base⊢ ts b rest → this Fixed.bang ts ≡ fails
unfolding this fixed_number
base_no_bang Base⊢.integer = refl
base_no_bang Base⊢.string = refl
base_no_bang (Base⊢.path (Path⊢.self d)) = refl
base_no_bang (Base⊢.path (Path⊢.up c d)) = refl
base_no_bang (Base⊢.code d) = refl

pub path_no_constant : {ts rest : List Symbol} {p : Written} → Path⊢ ts p rest → a_constant ts ≡ fails
unfolding a_constant
path_no_constant (Path⊢.self d) = refl
path_no_constant (Path⊢.up c d) = refl

pub path_no_word : {ts rest : List Symbol} {p : Written} → Path⊢ ts p rest →
    (this Fixed.show ts ≡ fails) × (this Fixed.jump ts ≡ fails) × (this Fixed.ifeq ts ≡ fails)
unfolding this fixed_number
path_no_word (Path⊢.self d) = (refl, refl, refl)
path_no_word (Path⊢.up c d) = (refl, refl, refl)

-- what a closing curly bracket begins is no instruction
pub no_instruction : (n : ℕ) (ts : List Symbol) → an_instruction n (fixed Fixed.close_curly ∷ ts) ≡ fails
unfolding an_instruction a_path this fixed_number P.◌>>◌ P.◌>>=◌ ◌or◌
no_instruction zero ts = refl
no_instruction (suc n) ts = refl

pub a_frame_fails : (r : Reader (Slots Written)) (ts : List Symbol) → this Fixed.frame ts ≡ fails → a_frame r ts ≡ fails
unfolding a_frame
a_frame_fails r ts f = then_fails _ _ _ f

pub a_frame_out : (r : Reader (Slots Written)) (ts us : List Symbol) {ss : Slots Written} → r ts ≡ parsed ss (fixed Fixed.close_square ∷ us) →
    a_frame r (fixed Fixed.frame ∷ fixed Fixed.colon ∷ fixed Fixed.open_square ∷ ts) ≡ parsed ss us
unfolding a_frame this fixed_number P.◌>>◌ give
a_frame_out r ts us p = bind_out _ _ _ p refl

pub code_no_path : (k : ℕ) (ts : List Symbol) → a_path (Symbol.code k ∷ ts) ≡ fails
unfolding a_path this P.◌>>◌ ◌or◌
code_no_path k ts = refl

mutual
  unfolding a_base give this fixed_number a_name a_code a_constant an_operator operator_in

  pub base_out : {ts rest : List Symbol} {b : Base Written} (n : ℕ) → Base⊢ ts b rest → NoDot rest → length ts ≤ n + length rest →
      a_base n ts ≡ parsed b rest
  base_out zero d f l = absurd (omega (arith, base_shorter d))
  base_out (suc n) Base⊢.integer f l = or_first _ _ _ refl
  base_out (suc n) Base⊢.string f l = or_first _ _ _ refl
  base_out (suc n) (Base⊢.path d) f l = or_second _ _ _ (path_no_constant d) (or_first _ _ _ (bind_out _ _ _ (path_out d f) refl))
  base_out (suc n) (Base⊢.code d) f l =
      or_second _ _ _ refl
      (or_second _ _ _ (bind_fails _ _ _ (code_no_path _ _))
      (bind_out _ _ _ refl (then_out _ _ _ refl (bind_out _ _ _ (code_out n _ d refl (omega arith)) (then_out _ _ _ refl refl)))))

  pub expression_out : {ts rest : List Symbol} {x : Expression Written} (n : ℕ) → Expression⊢ ts x rest → Follows rest → length ts + 1 ≤ n + length rest →
      an_expression n ts ≡ parsed x rest
  expression_out zero d f l = absurd (omega (arith, expression_shorter d))
  expression_out (suc n) (Expression⊢.base d) f l =
      or_second _ _ _ (bind_fails _ _ _ (a_frame_fails _ _ (base_no_frame d)))
      (or_second _ _ _ (then_fails _ _ _ (base_no_bang d))
      (bind_out _ _ _ (base_out n d f.no_dot (omega arith)) (or_second _ _ _ (bind_fails _ _ _ f.no_operator) refl)))
  expression_out (suc n) (Expression⊢.not d) f l =
      or_second _ _ _ (bind_fails _ _ _ (a_frame_fails _ _ refl))
      (or_first _ _ _ (then_out _ _ _ refl (bind_out _ _ _ (base_out n d f.no_dot (omega arith)) refl)))
  expression_out (suc n) (Expression⊢.operation c d) f l =
      or_second _ _ _ (bind_fails _ _ _ (a_frame_fails _ _ (base_no_frame c)))
      (or_second _ _ _ (then_fails _ _ _ (base_no_bang c))
      (bind_out _ _ _ (base_out n c refl (omega (arith, base_shorter d)))
      (or_first _ _ _ (bind_out _ _ _ refl (bind_out _ _ _ (base_out n d f.no_dot (omega (arith, base_shorter c))) refl)))))
  expression_out (suc n) (Expression⊢.frame (Frame⊢.brackets d)) f l =
      or_first _ _ _ (bind_out _ _ _ (a_frame_out (slots n) _ _ (slots_out n _ d refl (omega arith))) refl)

  pub slots_out : {ts rest : List Symbol} {ss : Slots Written} (n : ℕ) (us : List Symbol) → Slots⊢ ts ss rest → rest ≡ fixed Fixed.close_square ∷ us →
      length ts + 1 ≤ n + length rest → slots n ts ≡ parsed ss rest
  slots_out zero us d e l = absurd (omega (arith, slots_shorter d))
  slots_out (suc n) us Slots⊢.no_slots e l = or_second _ _ _ (bind_fails _ _ _ (ap a_name e)) refl
  slots_out (suc n) us (Slots⊢.last_slot d) e l =
      or_first _ _ _ (bind_out _ _ _ refl (then_out _ _ _ refl
      (bind_out _ _ _ (expression_out n d (record { no_dot = ap (this Fixed.dot) e; no_operator = ap an_operator e }) (omega arith))
      (bind_out _ _ _ (or_second _ _ _ (then_fails _ _ _ (ap (this Fixed.comma) e)) refl) refl))))
  slots_out (suc n) us (Slots⊢.more_slots c d) e l =
      or_first _ _ _ (bind_out _ _ _ refl (then_out _ _ _ refl
      (bind_out _ _ _ (expression_out n c (record { no_dot = refl; no_operator = refl }) (omega (arith, slots_shorter d)))
      (bind_out _ _ _ (or_first _ _ _ (then_out _ _ _ refl (slots_out n us d e (omega (arith, expression_shorter c))))) refl))))

  pub instruction_out : {ts rest : List Symbol} {i : Instruction Written} (n : ℕ) → Instruction⊢ ts i rest → Follows rest → length ts ≤ n + length rest →
      an_instruction n ts ≡ parsed i rest
  instruction_out zero d f l = absurd (omega (arith, instruction_shorter d))
  instruction_out (suc n) (Instruction⊢.show d) f l =
      or_first _ _ _ (then_out _ _ _ refl (bind_out _ _ _ (base_out n d f.no_dot (omega arith)) refl))
  instruction_out (suc n) (Instruction⊢.jump c d) f l =
      or_second _ _ _ (then_fails _ _ _ refl)
      (or_first _ _ _ (then_out _ _ _ refl
      (bind_out _ _ _ (base_out n c (base_no_dot d) (omega (arith, base_shorter d)))
      (bind_out _ _ _ (base_out n d f.no_dot (omega (arith, base_shorter c))) refl))))
  instruction_out (suc n) (Instruction⊢.ifeq b c d) f l =
      or_second _ _ _ (then_fails _ _ _ refl)
      (or_second _ _ _ (then_fails _ _ _ refl)
      (or_first _ _ _ (then_out _ _ _ refl
      (bind_out _ _ _ (base_out n b (base_no_dot c) (omega (arith, base_shorter c, base_shorter d)))
      (bind_out _ _ _ (base_out n c (base_no_dot d) (omega (arith, base_shorter b, base_shorter d)))
      (bind_out _ _ _ (base_out n d f.no_dot (omega (arith, base_shorter b, base_shorter c))) refl))))))
  instruction_out (suc n) (Instruction⊢.assign c d) f l =
      or_second _ _ _ (then_fails _ _ _ (path_no_word c).0)
      (or_second _ _ _ (then_fails _ _ _ (path_no_word c).1)
      (or_second _ _ _ (then_fails _ _ _ (path_no_word c).2)
      (bind_out _ _ _ (path_out c refl) (then_out _ _ _ refl (bind_out _ _ _ (expression_out n d f (omega (arith, path_shorter c))) refl)))))

  pub code_out : {ts rest : List Symbol} {is : Code Written} (n : ℕ) (us : List Symbol) → Code⊢ ts is rest → rest ≡ fixed Fixed.close_curly ∷ us →
      length ts + 1 ≤ n + length rest → instructions n ts ≡ parsed is rest
  code_out zero us d e l = absurd (omega (arith, code_shorter d))
  code_out (suc n) us Code⊢.no_instructions e l = or_second _ _ _ (bind_fails _ _ _ (ap (an_instruction n) e ∙ no_instruction n us)) refl
  code_out (suc n) us (Code⊢.more_instructions c d) e l =
      or_first _ _ _
      (bind_out _ _ _ (instruction_out n c (record { no_dot = refl; no_operator = refl }) (omega (arith, code_shorter d)))
      (then_out _ _ _ refl (bind_out _ _ _ (code_out n us d e (omega (arith, instruction_shorter c))) refl)))

pub parse_complete : {ts : List Symbol} {ss : Slots Written} → Source ts ss → parse ts ≡ some ss
unfolding parse whole
parse_complete {ts} (Frame⊢.brackets d) = rw (a_frame_out (slots (length ts)) _ _ (slots_out (length ts) _ d refl (omega arith)))

-- Number 6: the symbols are one frame exactly when `parse` gives its slots
pub parse_agrees : (ts : List Symbol) (ss : Slots Written) → (parse ts ≡ some ss) ↔ Source ts ss
parse_agrees ts ss = (λ e. parse_sound ts e, λ d. parse_complete d)

pub parse_exact : ParseExact
parse_exact = record {
  exact = parse_agrees;
  one_tree = λ ts ss us d e. some_inj (sym (parse_complete d) ∙ parse_complete e);
}
