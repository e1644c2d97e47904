-- Document 02, A4: two codes agree exactly when they are the same tree, with the numbers of codes left out and the bytes of literals in place of their numbers. Assumes nothing.
use mathlib.Core.Path.{◌≡◌, refl, ◌∙◌, ap, sym}
use mathlib.Core.Bool.{true, false, ◌&&◌, false≢true}
use mathlib.Core.List.{List, []}
use Prim.Native.Nat.{ℕ, zero, suc}
use native.Mathlib.Omega.{arith}
use lib.IntN.{ℤ, pos, negsuc}
use lib.ListN.{get_or}
use lib.Dec.{eqb}
use borrow.Author.Tests.{eqb-true, eq-eqb}
use Rattle.framed.specs.Tokens.{Operator}
use Rattle.framed.specs.Tree.{Base, Expression, Slots, Instruction, Code, ◌then◌}
use Rattle.framed.specs.Paths.{Path, from_self, from_program}
use Rattle.framed.specs.Values.{same_integer}
use Rattle.framed.specs.Equality.{same_path, operator_number, same_base, same_expression, same_slots, same_instruction, same_code}
use Rattle.framed.specs.Equality.{PlainBase, PlainExpression, PlainInstruction, plain_base, plain_expression, plain_slots, plain_instruction, plain_code}
use Rattle.framed.specs.Theorems.{SameCodeExact}
use Rattle.framed.proofs.Lists.{both, same_self, same_equal}

-- ---- Parts without a tree

no : {A : Type 0} → false ≡ true → A
no e = absurd (false≢true e)

pub integer_equal : (y z : ℤ) → same_integer y z ≡ true → y ≡ z
unfolding same_integer
integer_equal (pos m) (pos n) e = ap pos (eqb-true m n e)
integer_equal (pos m) (negsuc n) e = no e
integer_equal (negsuc m) (pos n) e = no e
integer_equal (negsuc m) (negsuc n) e = ap negsuc (eqb-true m n e)

pub integer_self : (z : ℤ) → same_integer z z ≡ true
unfolding same_integer
integer_self (pos n) = eq-eqb n n refl
integer_self (negsuc n) = eq-eqb n n refl

pub path_equal : (p q : Path) → same_path p q ≡ true → p ≡ q
unfolding same_path
path_equal (from_self ns) (from_self ms) e = ap from_self (same_equal ns ms e)
path_equal (from_self ns) (from_program ms) e = no e
path_equal (from_program ns) (from_self ms) e = no e
path_equal (from_program ns) (from_program ms) e = ap from_program (same_equal ns ms e)

pub path_self : (p : Path) → same_path p p ≡ true
unfolding same_path
path_self (from_self ns) = same_self ns
path_self (from_program ns) = same_self ns

operator_at : ℕ → Operator
operator_at zero = Operator.plus
operator_at (suc zero) = Operator.minus
operator_at (suc (suc zero)) = Operator.times
operator_at (suc (suc (suc zero))) = Operator.over
operator_at (suc (suc (suc (suc zero)))) = Operator.less
operator_at (suc (suc (suc (suc (suc zero))))) = Operator.join
operator_at (suc (suc (suc (suc (suc (suc zero)))))) = Operator.equal
operator_at (suc (suc (suc (suc (suc (suc (suc zero))))))) = Operator.and
operator_at (suc (suc (suc (suc (suc (suc (suc (suc n)))))))) = Operator.or

operator_back : (o : Operator) → operator_at (operator_number o) ≡ o
unfolding operator_number operator_at
operator_back Operator.plus = refl
operator_back Operator.minus = refl
operator_back Operator.times = refl
operator_back Operator.over = refl
operator_back Operator.less = refl
operator_back Operator.join = refl
operator_back Operator.equal = refl
operator_back Operator.and = refl
operator_back Operator.or = refl

pub operator_equal : (o q : Operator) → eqb (operator_number o) (operator_number q) ≡ true → o ≡ q
operator_equal o q e = sym (operator_back o) ∙ ap operator_at (eqb-true (operator_number o) (operator_number q) e) ∙ operator_back q

-- ---- What agrees is the same tree

module _ (lits : List (List ℕ)) where
  mutual
    unfolding same_base plain_base

    pub base_same : (a b : Base Path) → same_base lits a b ≡ true → plain_base lits a ≡ plain_base lits b
    base_same (Base.integer y) (Base.integer z) e = ap PlainBase.integer (integer_equal y z e)
    base_same (Base.integer y) (Base.string l) e = no e
    base_same (Base.integer y) (Base.path q) e = no e
    base_same (Base.integer y) (Base.code l js) e = no e
    base_same (Base.string k) (Base.integer z) e = no e
    base_same (Base.string k) (Base.string l) e = ap PlainBase.string (same_equal (get_or lits k []) (get_or lits l []) e)
    base_same (Base.string k) (Base.path q) e = no e
    base_same (Base.string k) (Base.code l js) e = no e
    base_same (Base.path p) (Base.integer z) e = no e
    base_same (Base.path p) (Base.string l) e = no e
    base_same (Base.path p) (Base.path q) e = ap PlainBase.path (path_equal p q e)
    base_same (Base.path p) (Base.code l js) e = no e
    base_same (Base.code k is) (Base.integer z) e = no e
    base_same (Base.code k is) (Base.string l) e = no e
    base_same (Base.code k is) (Base.path q) e = no e
    base_same (Base.code k is) (Base.code l js) e = ap PlainBase.code (code_same is js e)

    pub expression_same : (e f : Expression Path) → same_expression lits e f ≡ true → plain_expression lits e ≡ plain_expression lits f
    expression_same (Expression.base a) (Expression.base b) e = ap PlainExpression.base (base_same a b e)
    expression_same (Expression.base a) (Expression.not b) e = no e
    expression_same (Expression.base a) (Expression.operation q b d) e = no e
    expression_same (Expression.base a) (Expression.frame ts) e = no e
    expression_same (Expression.not a) (Expression.base b) e = no e
    expression_same (Expression.not a) (Expression.not b) e = ap PlainExpression.not (base_same a b e)
    expression_same (Expression.not a) (Expression.operation q b d) e = no e
    expression_same (Expression.not a) (Expression.frame ts) e = no e
    expression_same (Expression.operation o a c) (Expression.base b) e = no e
    expression_same (Expression.operation o a c) (Expression.not b) e = no e
    expression_same (Expression.operation o a c) (Expression.operation q b d) e =
        let x = both (eqb (operator_number o) (operator_number q)) (same_base lits a b && same_base lits c d) e in
        let y = both (same_base lits a b) (same_base lits c d) x.1 in
        rw (operator_equal o q x.0, base_same a b y.0, base_same c d y.1)
    expression_same (Expression.operation o a c) (Expression.frame ts) e = no e
    expression_same (Expression.frame ss) (Expression.base b) e = no e
    expression_same (Expression.frame ss) (Expression.not b) e = no e
    expression_same (Expression.frame ss) (Expression.operation q b d) e = no e
    expression_same (Expression.frame ss) (Expression.frame ts) e = ap PlainExpression.frame (slots_same ss ts e)

    pub slots_same : (ss ts : Slots Path) → same_slots lits ss ts ≡ true → plain_slots lits ss ≡ plain_slots lits ts
    slots_same Slots.no_slots Slots.no_slots e = refl
    slots_same Slots.no_slots (Slots.slot m y ts) e = no e
    slots_same (Slots.slot n x ss) Slots.no_slots e = no e
    slots_same (Slots.slot n x ss) (Slots.slot m y ts) e =
        let u = both (eqb n m) (same_expression lits x y && same_slots lits ss ts) e in
        let v = both (same_expression lits x y) (same_slots lits ss ts) u.1 in
        rw (eqb-true n m u.0, expression_same x y v.0, slots_same ss ts v.1)

    pub instruction_same : (i j : Instruction Path) → same_instruction lits i j ≡ true → plain_instruction lits i ≡ plain_instruction lits j
    instruction_same (Instruction.assign p x) (Instruction.assign q y) e =
        let u = both (same_path p q) (same_expression lits x y) e in
        rw (path_equal p q u.0, expression_same x y u.1)
    instruction_same (Instruction.assign p x) (Instruction.show b) e = no e
    instruction_same (Instruction.assign p x) (Instruction.jump b d) e = no e
    instruction_same (Instruction.assign p x) (Instruction.ifeq b d h) e = no e
    instruction_same (Instruction.show a) (Instruction.assign q y) e = no e
    instruction_same (Instruction.show a) (Instruction.show b) e = ap PlainInstruction.show (base_same a b e)
    instruction_same (Instruction.show a) (Instruction.jump b d) e = no e
    instruction_same (Instruction.show a) (Instruction.ifeq b d h) e = no e
    instruction_same (Instruction.jump a c) (Instruction.assign q y) e = no e
    instruction_same (Instruction.jump a c) (Instruction.show b) e = no e
    instruction_same (Instruction.jump a c) (Instruction.jump b d) e =
        let u = both (same_base lits a b) (same_base lits c d) e in
        rw (base_same a b u.0, base_same c d u.1)
    instruction_same (Instruction.jump a c) (Instruction.ifeq b d h) e = no e
    instruction_same (Instruction.ifeq a c g) (Instruction.assign q y) e = no e
    instruction_same (Instruction.ifeq a c g) (Instruction.show b) e = no e
    instruction_same (Instruction.ifeq a c g) (Instruction.jump b d) e = no e
    instruction_same (Instruction.ifeq a c g) (Instruction.ifeq b d h) e =
        let u = both (same_base lits a b) (same_base lits c d && same_base lits g h) e in
        let v = both (same_base lits c d) (same_base lits g h) u.1 in
        rw (base_same a b u.0, base_same c d v.0, base_same g h v.1)

    pub code_same : (is js : Code Path) → same_code lits is js ≡ true → plain_code lits is ≡ plain_code lits js
    code_same Code.finished Code.finished e = refl
    code_same Code.finished (j then js) e = no e
    code_same (i then is) Code.finished e = no e
    code_same (i then is) (j then js) e =
        let u = both (same_instruction lits i j) (same_code lits is js) e in
        rw (instruction_same i j u.0, code_same is js u.1)

-- ---- The same tree agrees

-- different forms are not equal
pub apart : {A : Type 0} → ◌≡◌ {A = ℕ} 0 1 → A
apart e = absurd (omega arith)

module _ (lits : List (List ℕ)) where
  mutual
    unfolding same_base plain_base

    base_back : (a b : Base Path) → plain_base lits a ≡ plain_base lits b → same_base lits a b ≡ true
    base_back (Base.integer y) (Base.integer z) e = let q : y ≡ z = cc in rw q (integer_self z)
    base_back (Base.integer y) (Base.string l) e = apart cc
    base_back (Base.integer y) (Base.path q) e = apart cc
    base_back (Base.integer y) (Base.code l js) e = apart cc
    base_back (Base.string k) (Base.integer z) e = apart cc
    base_back (Base.string k) (Base.string l) e = let q : get_or lits k [] ≡ get_or lits l [] = cc in rw q (same_self (get_or lits l []))
    base_back (Base.string k) (Base.path q) e = apart cc
    base_back (Base.string k) (Base.code l js) e = apart cc
    base_back (Base.path p) (Base.integer z) e = apart cc
    base_back (Base.path p) (Base.string l) e = apart cc
    base_back (Base.path p) (Base.path q) e = let r : p ≡ q = cc in rw r (path_self q)
    base_back (Base.path p) (Base.code l js) e = apart cc
    base_back (Base.code k is) (Base.integer z) e = apart cc
    base_back (Base.code k is) (Base.string l) e = apart cc
    base_back (Base.code k is) (Base.path q) e = apart cc
    base_back (Base.code k is) (Base.code l js) e = code_back is js cc

    expression_back : (x y : Expression Path) → plain_expression lits x ≡ plain_expression lits y → same_expression lits x y ≡ true
    expression_back (Expression.base a) (Expression.base b) e = base_back a b cc
    expression_back (Expression.base a) (Expression.not b) e = apart cc
    expression_back (Expression.base a) (Expression.operation q b d) e = apart cc
    expression_back (Expression.base a) (Expression.frame ts) e = apart cc
    expression_back (Expression.not a) (Expression.base b) e = apart cc
    expression_back (Expression.not a) (Expression.not b) e = base_back a b cc
    expression_back (Expression.not a) (Expression.operation q b d) e = apart cc
    expression_back (Expression.not a) (Expression.frame ts) e = apart cc
    expression_back (Expression.operation o a c) (Expression.base b) e = apart cc
    expression_back (Expression.operation o a c) (Expression.not b) e = apart cc
    expression_back (Expression.operation o a c) (Expression.operation q b d) e =
        let r : o ≡ q = cc in
        rw (r, eq-eqb (operator_number q) (operator_number q) refl, base_back a b cc, base_back c d cc)
    expression_back (Expression.operation o a c) (Expression.frame ts) e = apart cc
    expression_back (Expression.frame ss) (Expression.base b) e = apart cc
    expression_back (Expression.frame ss) (Expression.not b) e = apart cc
    expression_back (Expression.frame ss) (Expression.operation q b d) e = apart cc
    expression_back (Expression.frame ss) (Expression.frame ts) e = slots_back ss ts cc

    slots_back : (ss ts : Slots Path) → plain_slots lits ss ≡ plain_slots lits ts → same_slots lits ss ts ≡ true
    slots_back Slots.no_slots Slots.no_slots e = refl
    slots_back Slots.no_slots (Slots.slot m y ts) e = apart cc
    slots_back (Slots.slot n x ss) Slots.no_slots e = apart cc
    slots_back (Slots.slot n x ss) (Slots.slot m y ts) e = rw (eq-eqb n m cc, expression_back x y cc, slots_back ss ts cc)

    instruction_back : (i j : Instruction Path) → plain_instruction lits i ≡ plain_instruction lits j → same_instruction lits i j ≡ true
    instruction_back (Instruction.assign p x) (Instruction.assign q y) e = let r : p ≡ q = cc in rw (r, path_self q, expression_back x y cc)
    instruction_back (Instruction.assign p x) (Instruction.show b) e = apart cc
    instruction_back (Instruction.assign p x) (Instruction.jump b d) e = apart cc
    instruction_back (Instruction.assign p x) (Instruction.ifeq b d h) e = apart cc
    instruction_back (Instruction.show a) (Instruction.assign q y) e = apart cc
    instruction_back (Instruction.show a) (Instruction.show b) e = base_back a b cc
    instruction_back (Instruction.show a) (Instruction.jump b d) e = apart cc
    instruction_back (Instruction.show a) (Instruction.ifeq b d h) e = apart cc
    instruction_back (Instruction.jump a c) (Instruction.assign q y) e = apart cc
    instruction_back (Instruction.jump a c) (Instruction.show b) e = apart cc
    instruction_back (Instruction.jump a c) (Instruction.jump b d) e = rw (base_back a b cc, base_back c d cc)
    instruction_back (Instruction.jump a c) (Instruction.ifeq b d h) e = apart cc
    instruction_back (Instruction.ifeq a c g) (Instruction.assign q y) e = apart cc
    instruction_back (Instruction.ifeq a c g) (Instruction.show b) e = apart cc
    instruction_back (Instruction.ifeq a c g) (Instruction.jump b d) e = apart cc
    instruction_back (Instruction.ifeq a c g) (Instruction.ifeq b d h) e = rw (base_back a b cc, base_back c d cc, base_back g h cc)

    code_back : (is js : Code Path) → plain_code lits is ≡ plain_code lits js → same_code lits is js ≡ true
    code_back Code.finished Code.finished e = refl
    code_back Code.finished (j then js) e = apart cc
    code_back (i then is) Code.finished e = apart cc
    code_back (i then is) (j then js) e = rw (instruction_back i j cc, code_back is js cc)

  -- every code agrees with itself
  pub code_self : (is : Code Path) → same_code lits is is ≡ true
  code_self is = code_back is is refl

pub same_code_exact : SameCodeExact
same_code_exact lits is js = (code_same lits is js, code_back lits is js)
