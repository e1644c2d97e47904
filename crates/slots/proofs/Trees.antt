-- The slots found among the symbols of a source are those of its tree, and so are the bad frames. Assumes nothing.
use mathlib.Core.Path.{◌≡◌, refl, ap, ◌∙◌}
use mathlib.Core.Bool.{Bool, true, false}
use mathlib.Core.List.{List, [], ◌∷◌}
use Prim.Native.Nat.{ℕ, ◌+◌, ◌-◌}
use native.Mathlib.Omega.{arith}
use lib.Dec.{eqb}
use lib.IntN.{ℤ}
use borrow.Author.Tests.{ne_eqb}
use Rattle.framed.specs.Common.{when◌then◌else◌}
use Rattle.framed.specs.Tokens.{Fixed, Operator}
use Rattle.framed.specs.Symbols.{Symbol}
use Rattle.framed.specs.Tree.{Written, Base, Expression, Slots, Instruction, Code, ◌then◌}
use Rattle.framed.specs.Grammar.{Names⊢, Ups⊢, Path⊢, Base⊢, Expression⊢, Frame⊢, Slots⊢, Instruction⊢, Code⊢}
use Rattle.framed.specs.Meaning.{slot_names}
use Rattle.token.specs.Reading.{operator_kind, fixed_kind}
use Rattle.scan.specs.Scan.{depth_after}
use Rattle.sweep.specs.Kinds.{kind_of}
use Rattle.slots.specs.Own.{closes, names_slot, Own, own, own_slots, own_names, number_of}

-- ---- One symbol

unfoldable pub slots_at : ℕ → ℕ → List Symbol → List (Own Symbol)
slots_at d l us = own_slots kind_of d l us

pass : (d l : ℕ) (x : Symbol) (us : List Symbol) (k d' : ℕ) → kind_of x ≡ k → closes d k ≡ false → names_slot d l k ≡ false → depth_after d k ≡ d' → slots_at d l (x ∷ us) ≡ slots_at d' k us
unfolding slots_at own_slots
pass d l x us k d' e c n h = rw (e, c, n, h)

deeper : (d : ℕ) → eqb (d + 1) 0 ≡ false
deeper d = ne_eqb (d + 1) 0 (above d)
  where
    above : (d : ℕ) → (d + 1 ≡ 0 → ⊥)
    above d e = omega arith

back : (d : ℕ) → d + 1 - 1 ≡ d
back d = omega arith

module _ (d l : ℕ) (us : List Symbol) where
  o_integer : (z : ℤ) → slots_at d l (Symbol.integer z ∷ us) ≡ slots_at d 26 us
  unfolding kind_of fixed_kind operator_kind closes names_slot depth_after
  o_integer z = pass d l (Symbol.integer z) us 26 d refl refl refl refl

  o_string : (k : ℕ) → slots_at d l (Symbol.string k ∷ us) ≡ slots_at d 27 us
  unfolding kind_of fixed_kind operator_kind closes names_slot depth_after
  o_string k = pass d l (Symbol.string k) us 27 d refl refl refl refl

  o_code : (k : ℕ) → slots_at d l (Symbol.code k ∷ us) ≡ slots_at d 28 us
  unfolding kind_of fixed_kind operator_kind closes names_slot depth_after
  o_code k = pass d l (Symbol.code k) us 28 d refl refl refl refl

  -- inside brackets no name is a slot of the frame
  o_name : (n : ℕ) → eqb d 0 ≡ false → slots_at d l (Symbol.name n ∷ us) ≡ slots_at d 25 us
  unfolding kind_of fixed_kind operator_kind closes names_slot depth_after
  o_name n e = pass d l (Symbol.name n) us 25 d refl refl (inner (eqb l 7)) refl
    where
      inner : (t : Bool) → (when t then false else eqb d 0) ≡ false
      inner true = refl
      inner false = e

  o_frame : slots_at d l (Symbol.fixed Fixed.frame ∷ us) ≡ slots_at d 0 us
  unfolding kind_of fixed_kind operator_kind closes names_slot depth_after
  o_frame = pass d l (Symbol.fixed Fixed.frame) us 0 d refl refl refl refl

  o_self : slots_at d l (Symbol.fixed Fixed.self ∷ us) ≡ slots_at d 1 us
  unfolding kind_of fixed_kind operator_kind closes names_slot depth_after
  o_self = pass d l (Symbol.fixed Fixed.self) us 1 d refl refl refl refl

  o_show : slots_at d l (Symbol.fixed Fixed.show ∷ us) ≡ slots_at d 2 us
  unfolding kind_of fixed_kind operator_kind closes names_slot depth_after
  o_show = pass d l (Symbol.fixed Fixed.show) us 2 d refl refl refl refl

  o_jump : slots_at d l (Symbol.fixed Fixed.jump ∷ us) ≡ slots_at d 3 us
  unfolding kind_of fixed_kind operator_kind closes names_slot depth_after
  o_jump = pass d l (Symbol.fixed Fixed.jump) us 3 d refl refl refl refl

  o_ifeq : slots_at d l (Symbol.fixed Fixed.ifeq ∷ us) ≡ slots_at d 4 us
  unfolding kind_of fixed_kind operator_kind closes names_slot depth_after
  o_ifeq = pass d l (Symbol.fixed Fixed.ifeq) us 4 d refl refl refl refl

  o_colon : slots_at d l (Symbol.fixed Fixed.colon ∷ us) ≡ slots_at d 5 us
  unfolding kind_of fixed_kind operator_kind closes names_slot depth_after
  o_colon = pass d l (Symbol.fixed Fixed.colon) us 5 d refl refl refl refl

  o_assign : slots_at d l (Symbol.fixed Fixed.assign ∷ us) ≡ slots_at d 6 us
  unfolding kind_of fixed_kind operator_kind closes names_slot depth_after
  o_assign = pass d l (Symbol.fixed Fixed.assign) us 6 d refl refl refl refl

  o_dot : slots_at d l (Symbol.fixed Fixed.dot ∷ us) ≡ slots_at d 7 us
  unfolding kind_of fixed_kind operator_kind closes names_slot depth_after
  o_dot = pass d l (Symbol.fixed Fixed.dot) us 7 d refl refl refl refl

  o_up : slots_at d l (Symbol.fixed Fixed.up ∷ us) ≡ slots_at d 8 us
  unfolding kind_of fixed_kind operator_kind closes names_slot depth_after
  o_up = pass d l (Symbol.fixed Fixed.up) us 8 d refl refl refl refl

  o_bang : slots_at d l (Symbol.fixed Fixed.bang ∷ us) ≡ slots_at d 9 us
  unfolding kind_of fixed_kind operator_kind closes names_slot depth_after
  o_bang = pass d l (Symbol.fixed Fixed.bang) us 9 d refl refl refl refl

  o_semicolon : slots_at d l (Symbol.fixed Fixed.semicolon ∷ us) ≡ slots_at d 10 us
  unfolding kind_of fixed_kind operator_kind closes names_slot depth_after
  o_semicolon = pass d l (Symbol.fixed Fixed.semicolon) us 10 d refl refl refl refl

  o_comma : slots_at d l (Symbol.fixed Fixed.comma ∷ us) ≡ slots_at d 11 us
  unfolding kind_of fixed_kind operator_kind closes names_slot depth_after
  o_comma = pass d l (Symbol.fixed Fixed.comma) us 11 d refl refl refl refl

  o_open_square : slots_at d l (Symbol.fixed Fixed.open_square ∷ us) ≡ slots_at (d + 1) 12 us
  unfolding kind_of fixed_kind operator_kind closes names_slot depth_after
  o_open_square = pass d l (Symbol.fixed Fixed.open_square) us 12 (d + 1) refl refl refl refl

  o_open_curly : slots_at d l (Symbol.fixed Fixed.open_curly ∷ us) ≡ slots_at (d + 1) 14 us
  unfolding kind_of fixed_kind operator_kind closes names_slot depth_after
  o_open_curly = pass d l (Symbol.fixed Fixed.open_curly) us 14 (d + 1) refl refl refl refl

  o_close_square : slots_at (d + 1) l (Symbol.fixed Fixed.close_square ∷ us) ≡ slots_at d 13 us
  unfolding kind_of fixed_kind operator_kind closes names_slot depth_after
  o_close_square = pass (d + 1) l (Symbol.fixed Fixed.close_square) us 13 d refl (deeper d) refl (back d)

  o_close_curly : slots_at (d + 1) l (Symbol.fixed Fixed.close_curly ∷ us) ≡ slots_at d 15 us
  unfolding kind_of fixed_kind operator_kind closes names_slot depth_after
  o_close_curly = pass (d + 1) l (Symbol.fixed Fixed.close_curly) us 15 d refl (deeper d) refl (back d)

  o_operator : (o : Operator) → slots_at d l (Symbol.fixed (Fixed.operator o) ∷ us) ≡ slots_at d (operator_kind o) us
  unfolding kind_of fixed_kind operator_kind closes names_slot depth_after
  o_operator Operator.plus = pass d l (Symbol.fixed (Fixed.operator Operator.plus)) us 16 d refl refl refl refl
  o_operator Operator.minus = pass d l (Symbol.fixed (Fixed.operator Operator.minus)) us 17 d refl refl refl refl
  o_operator Operator.times = pass d l (Symbol.fixed (Fixed.operator Operator.times)) us 18 d refl refl refl refl
  o_operator Operator.over = pass d l (Symbol.fixed (Fixed.operator Operator.over)) us 19 d refl refl refl refl
  o_operator Operator.less = pass d l (Symbol.fixed (Fixed.operator Operator.less)) us 20 d refl refl refl refl
  o_operator Operator.join = pass d l (Symbol.fixed (Fixed.operator Operator.join)) us 21 d refl refl refl refl
  o_operator Operator.equal = pass d l (Symbol.fixed (Fixed.operator Operator.equal)) us 22 d refl refl refl refl
  o_operator Operator.and = pass d l (Symbol.fixed (Fixed.operator Operator.and)) us 23 d refl refl refl refl
  o_operator Operator.or = pass d l (Symbol.fixed (Fixed.operator Operator.or)) us 24 d refl refl refl refl

o_path_name : (d n : ℕ) (us : List Symbol) → slots_at d 7 (Symbol.name n ∷ us) ≡ slots_at d 25 us
unfolding kind_of closes names_slot depth_after
o_path_name d n us = pass d 7 (Symbol.name n) us 25 d refl refl refl refl

-- ---- Parts that hold no slot of the frame

record Skipped (d l : ℕ) (ts rest : List Symbol) : Type 0 where
  l' : ℕ
  no_dot : eqb l' 7 ≡ false
  same : slots_at d l ts ≡ slots_at d l' rest

names_skip : (d l : ℕ) {ts rest : List Symbol} {ns : List ℕ} → eqb l 7 ≡ false → Names⊢ ts ns rest → Skipped d l ts rest
names_skip d l e Names⊢.none = record { l' = l; no_dot = e; same = refl }
names_skip d l e (Names⊢.more {n = n} {ts = ts} h) =
    let p = names_skip d 25 refl h in
    record { l' = p.l'; no_dot = p.no_dot; same = o_dot d l (Symbol.name n ∷ ts) ∙ o_path_name d n ts ∙ p.same }

ups_skip : (d l : ℕ) {ts rest : List Symbol} {k : ℕ} → eqb l 7 ≡ false → Ups⊢ ts k rest → Skipped d l ts rest
ups_skip d l e Ups⊢.none = record { l' = l; no_dot = e; same = refl }
ups_skip d l e (Ups⊢.more {ts = ts} h) =
    let p = ups_skip d 8 refl h in
    record { l' = p.l'; no_dot = p.no_dot; same = o_dot d l (Symbol.fixed Fixed.up ∷ ts) ∙ o_up d 7 ts ∙ p.same }

path_skip : (d l : ℕ) {ts rest : List Symbol} {w : Written} → Path⊢ ts w rest → Skipped d l ts rest
path_skip d l (Path⊢.self {ts = ts} h) =
    let p = names_skip d 1 refl h in
    record { l' = p.l'; no_dot = p.no_dot; same = o_self d l ts ∙ p.same }
path_skip d l (Path⊢.up {ts = ts} g h) =
    let o = ups_skip d 8 refl g in
    let p = names_skip d o.l' o.no_dot h in
    record { l' = p.l'; no_dot = p.no_dot; same = o_up d l ts ∙ o.same ∙ p.same }

mutual
  base_skip : (d l : ℕ) {ts rest : List Symbol} {b : Base Written} → Base⊢ ts b rest → Skipped d l ts rest
  base_skip d l (Base⊢.integer {z} {rest}) = record { l' = 26; no_dot = refl; same = o_integer d l rest z }
  base_skip d l (Base⊢.string {k} {rest}) = record { l' = 27; no_dot = refl; same = o_string d l rest k }
  base_skip d l (Base⊢.path h) = path_skip d l h
  base_skip d l (Base⊢.code {k} {is} {ts} {rest} h) =
      let p = code_skip (d + 1) 14 refl h in
      record { l' = 15; no_dot = refl; same = o_code d l (Symbol.fixed Fixed.open_curly ∷ ts) k ∙ o_open_curly d 28 ts ∙ p.same ∙ o_close_curly d p.l' rest }

  expression_skip : (d l : ℕ) {ts rest : List Symbol} {a : Expression Written} → Expression⊢ ts a rest → Skipped d l ts rest
  expression_skip d l (Expression⊢.base h) = base_skip d l h
  expression_skip d l (Expression⊢.not {ts = ts} h) =
      let p = base_skip d 9 h in
      record { l' = p.l'; no_dot = p.no_dot; same = o_bang d l ts ∙ p.same }
  expression_skip d l (Expression⊢.operation {o = o} {us = us} g h) =
      let p = base_skip d l g in
      let q = base_skip d (operator_kind o) h in
      record { l' = q.l'; no_dot = q.no_dot; same = p.same ∙ o_operator d p.l' us o ∙ q.same }
  expression_skip d l (Expression⊢.frame h) = frame_skip d l h

  frame_skip : (d l : ℕ) {ts rest : List Symbol} {ss : Slots Written} → Frame⊢ ts ss rest → Skipped d l ts rest
  frame_skip d l (Frame⊢.brackets {ts = ts} {rest = rest} h) =
      let p = slots_skip (d + 1) 12 (deeper d) refl h in
      record {
        l' = 13;
        no_dot = refl;
        same = o_frame d l (Symbol.fixed Fixed.colon ∷ Symbol.fixed Fixed.open_square ∷ ts) ∙ o_colon d 0 (Symbol.fixed Fixed.open_square ∷ ts) ∙ o_open_square d 5 ts ∙ p.same ∙ o_close_square d p.l' rest;
      }

  slots_skip : (d l : ℕ) {ts rest : List Symbol} {ss : Slots Written} → eqb d 0 ≡ false → eqb l 7 ≡ false → Slots⊢ ts ss rest → Skipped d l ts rest
  slots_skip d l z e Slots⊢.no_slots = record { l' = l; no_dot = e; same = refl }
  slots_skip d l z e (Slots⊢.last_slot {n = n} {ts = ts} h) =
      let p = expression_skip d 6 h in
      record { l' = p.l'; no_dot = p.no_dot; same = o_name d l (Symbol.fixed Fixed.assign ∷ ts) n z ∙ o_assign d 25 ts ∙ p.same }
  slots_skip d l z e (Slots⊢.more_slots {n = n} {ts = ts} {us = us} g h) =
      let p = expression_skip d 6 g in
      let q = slots_skip d 11 z refl h in
      record { l' = q.l'; no_dot = q.no_dot; same = o_name d l (Symbol.fixed Fixed.assign ∷ ts) n z ∙ o_assign d 25 ts ∙ p.same ∙ o_comma d p.l' us ∙ q.same }

  instruction_skip : (d l : ℕ) {ts rest : List Symbol} {j : Instruction Written} → Instruction⊢ ts j rest → Skipped d l ts rest
  instruction_skip d l (Instruction⊢.assign {us = us} g h) =
      let p = path_skip d l g in
      let q = expression_skip d 6 h in
      record { l' = q.l'; no_dot = q.no_dot; same = p.same ∙ o_assign d p.l' us ∙ q.same }
  instruction_skip d l (Instruction⊢.show {ts = ts} h) =
      let p = base_skip d 2 h in
      record { l' = p.l'; no_dot = p.no_dot; same = o_show d l ts ∙ p.same }
  instruction_skip d l (Instruction⊢.jump {ts = ts} g h) =
      let p = base_skip d 3 g in
      let q = base_skip d p.l' h in
      record { l' = q.l'; no_dot = q.no_dot; same = o_jump d l ts ∙ p.same ∙ q.same }
  instruction_skip d l (Instruction⊢.ifeq {ts = ts} f g h) =
      let p = base_skip d 4 f in
      let q = base_skip d p.l' g in
      let r = base_skip d q.l' h in
      record { l' = r.l'; no_dot = r.no_dot; same = o_ifeq d l ts ∙ p.same ∙ q.same ∙ r.same }

  code_skip : (d l : ℕ) {ts rest : List Symbol} {is : Code Written} → eqb l 7 ≡ false → Code⊢ ts is rest → Skipped d l ts rest
  code_skip d l e Code⊢.no_instructions = record { l' = l; no_dot = e; same = refl }
  code_skip d l e (Code⊢.more_instructions {us = us} g h) =
      let p = instruction_skip d l g in
      let q = code_skip d 10 refl h in
      record { l' = q.l'; no_dot = q.no_dot; same = p.same ∙ o_semicolon d p.l' us ∙ q.same }

-- ---- The slots of the frame

-- each with its value
pub data Agrees : List (Own Symbol) → Slots Written → Type 0 where
  none : Agrees [] Slots.no_slots
  more : {n : ℕ} {us vs : List Symbol} {a : Expression Written} {os : List (Own Symbol)} {ss : Slots Written} → Expression⊢ us a vs → Agrees os ss
      → Agrees (own (Symbol.name n) (Symbol.fixed Fixed.assign ∷ us) ∷ os) (Slots.slot n a ss)

o_slot : (l n : ℕ) (us : List Symbol) → eqb l 7 ≡ false → slots_at 0 l (Symbol.name n ∷ us) ≡ own (Symbol.name n) us ∷ slots_at 0 25 us
unfolding slots_at own_slots kind_of closes names_slot depth_after
o_slot l n us e = rw e

o_end : (l : ℕ) (us : List Symbol) → slots_at 0 l (Symbol.fixed Fixed.close_square ∷ us) ≡ []
unfolding slots_at own_slots kind_of fixed_kind closes
o_end l us = refl

pub slots_agree : (l : ℕ) {ts rest us : List Symbol} {ss : Slots Written} → eqb l 7 ≡ false → Slots⊢ ts ss rest → rest ≡ Symbol.fixed Fixed.close_square ∷ us → Agrees (slots_at 0 l ts) ss
slots_agree l {us = us} e Slots⊢.no_slots z = rw (z, o_end l us) Agrees.none
slots_agree l {us = vs} e (Slots⊢.last_slot {n} {e = a} {ts} h) z =
    let p = expression_skip 0 6 h in
    let last = o_assign 0 25 ts ∙ p.same ∙ ap (slots_at 0 p.l') z ∙ o_end p.l' vs in
    rw (o_slot l n (Symbol.fixed Fixed.assign ∷ ts) e, last) (Agrees.more h Agrees.none)
slots_agree l e (Slots⊢.more_slots {n} {e = a} {ss} {ts} {us} g h) z =
    let p = expression_skip 0 6 g in
    rw (o_slot l n (Symbol.fixed Fixed.assign ∷ ts) e, o_assign 0 25 ts, p.same, o_comma 0 p.l' us) (Agrees.more g (slots_agree 11 refl h z))

pub agree_names : {os : List (Own Symbol)} {ss : Slots Written} → Agrees os ss → own_names number_of os ≡ slot_names ss
unfolding own_names number_of slot_names
agree_names Agrees.none = refl
agree_names (Agrees.more {n = n} h a) = ap (λ (ns : List ℕ). n ∷ ns) (agree_names a)
