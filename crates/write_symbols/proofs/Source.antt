-- The symbols of a source are those of its tree, but for commas behind a last slot. By induction over the grammar. Assumes nothing.
use mathlib.Core.List.{List, [], ◌∷◌, ◌++◌, append-nil, append_assoc}
use Prim.Native.Nat.{ℕ}
use Rattle.framed.specs.Tokens.{Fixed}
use Rattle.framed.specs.Symbols.{Symbol}
use Rattle.framed.specs.Tree.{Written, Base, Expression, Slots, Instruction, Code}
use Rattle.framed.specs.Grammar.{Names⊢, Ups⊢, Path⊢, Base⊢, Expression⊢, Frame⊢, Slots⊢, Instruction⊢, Code⊢}
use Rattle.write_symbols.specs.Order.{MayGo, seen_after, Without}
use Rattle.write_symbols.specs.Symbols.{mark, dotted_symbols, climb_symbols, path_symbols, base_symbols, expression_symbols, slots_symbols, further_symbols, instruction_symbols, code_symbols, frame_symbols}
use Rattle.write_symbols.specs.Theorems.{SourceWithout}

-- whatever names have appeared before
abbrev Always : List Symbol → List Symbol → Type 0
Always ts us = (seen : List ℕ) → Without seen ts us

and_kept : (t : Symbol) {ts us : List Symbol} → Always ts us → Always (t ∷ ts) (t ∷ us)
and_kept t h seen = Without.kept (h (seen_after seen t))

names_without : {ts rest us : List Symbol} {ns : List ℕ} → Names⊢ ts ns rest → Always rest us → Always ts (dotted_symbols ns ++ us)
unfolding dotted_symbols
names_without Names⊢.none h = h
names_without (Names⊢.more {n = n} d) h = and_kept (mark Fixed.dot) (and_kept (Symbol.name n) (names_without d h))

ups_without : {ts rest us : List Symbol} {k : ℕ} → Ups⊢ ts k rest → Always rest us → Always ts (climb_symbols k ++ us)
unfolding climb_symbols
ups_without Ups⊢.none h = h
ups_without (Ups⊢.more d) h = and_kept (mark Fixed.dot) (and_kept (mark Fixed.up) (ups_without d h))

path_without : {ts rest us : List Symbol} {w : Written} → Path⊢ ts w rest → Always rest us → Always ts (path_symbols w ++ us)
unfolding path_symbols
path_without (Path⊢.self d) h = and_kept (mark Fixed.self) (names_without d h)
path_without {us = us} (Path⊢.up {k = k} {ns = ns} d e) h =
    rw (append_assoc (climb_symbols k) (dotted_symbols ns) us) (and_kept (mark Fixed.up) (ups_without d (names_without e h)))

-- a comma stays between two slots and goes behind the last
comma_without : {ts : List Symbol} (us : List Symbol) (ss : Slots Written) → Always ts (slots_symbols ss ++ us) → Always (mark Fixed.comma ∷ ts) (further_symbols ss ++ us)
unfolding slots_symbols further_symbols
comma_without us Slots.no_slots h = λ seen. Without.gone MayGo.comma (h seen)
comma_without us (Slots.slot n e ss) h = and_kept (mark Fixed.comma) h

mutual
  unfolding base_symbols frame_symbols

  base_without : {ts rest us : List Symbol} {b : Base Written} → Base⊢ ts b rest → Always rest us → Always ts (base_symbols b ++ us)
  base_without (Base⊢.integer {z = z}) h = and_kept (Symbol.integer z) h
  base_without (Base⊢.string {k = k}) h = and_kept (Symbol.string k) h
  base_without (Base⊢.path d) h = path_without d h
  base_without {us = us} (Base⊢.code {k = k} {is = is} d) h =
      rw (append_assoc (code_symbols is) (mark Fixed.close_curly ∷ []) us)
      (and_kept (Symbol.code k) (and_kept (mark Fixed.open_curly) (code_without d (and_kept (mark Fixed.close_curly) h))))

  expression_without : {ts rest us : List Symbol} {e : Expression Written} → Expression⊢ ts e rest → Always rest us → Always ts (expression_symbols e ++ us)
  expression_without (Expression⊢.base d) h = base_without d h
  expression_without (Expression⊢.not d) h = and_kept (mark Fixed.bang) (base_without d h)
  expression_without {us = us} (Expression⊢.operation {o = o} {a = a} {b = b} d e) h =
      rw (append_assoc (base_symbols a) (mark (Fixed.operator o) ∷ base_symbols b) us) (base_without d (and_kept (mark (Fixed.operator o)) (base_without e h)))
  expression_without (Expression⊢.frame d) h = frame_without d h

  frame_without : {ts rest us : List Symbol} {ss : Slots Written} → Frame⊢ ts ss rest → Always rest us → Always ts (frame_symbols ss ++ us)
  frame_without {us = us} (Frame⊢.brackets {ss = ss} d) h =
      rw (append_assoc (slots_symbols ss) (mark Fixed.close_square ∷ []) us)
      (and_kept (mark Fixed.frame) (and_kept (mark Fixed.colon) (and_kept (mark Fixed.open_square) (slots_without d (and_kept (mark Fixed.close_square) h)))))

  slots_without : {ts rest us : List Symbol} {ss : Slots Written} → Slots⊢ ts ss rest → Always rest us → Always ts (slots_symbols ss ++ us)
  slots_without Slots⊢.no_slots h = h
  slots_without {us = us} (Slots⊢.last_slot {n = n} {e = e} d) h =
      rw (append_assoc (expression_symbols e) [] us) (and_kept (Symbol.name n) (and_kept (mark Fixed.assign) (expression_without d h)))
  slots_without {us = us} (Slots⊢.more_slots {n = n} {e = e} {ss = ss} d f) h =
      rw (append_assoc (expression_symbols e) (further_symbols ss) us)
      (and_kept (Symbol.name n) (and_kept (mark Fixed.assign) (expression_without d (comma_without us ss (slots_without f h)))))

  instruction_without : {ts rest us : List Symbol} {i : Instruction Written} → Instruction⊢ ts i rest → Always rest us → Always ts (instruction_symbols i ++ us)
  instruction_without {us = us} (Instruction⊢.assign {p = p} {e = e} d f) h =
      rw (append_assoc (path_symbols p) (mark Fixed.assign ∷ expression_symbols e) us) (path_without d (and_kept (mark Fixed.assign) (expression_without f h)))
  instruction_without (Instruction⊢.show d) h = and_kept (mark Fixed.show) (base_without d h)
  instruction_without {us = us} (Instruction⊢.jump {a = a} {b = b} d e) h =
      rw (append_assoc (base_symbols a) (base_symbols b) us) (and_kept (mark Fixed.jump) (base_without d (base_without e h)))
  instruction_without {us = us} (Instruction⊢.ifeq {a = a} {b = b} {c = c} d e f) h =
      rw (append_assoc (base_symbols a ++ base_symbols b) (base_symbols c) us, append_assoc (base_symbols a) (base_symbols b) (base_symbols c ++ us))
      (and_kept (mark Fixed.ifeq) (base_without d (base_without e (base_without f h))))

  code_without : {ts rest us : List Symbol} {is : Code Written} → Code⊢ ts is rest → Always rest us → Always ts (code_symbols is ++ us)
  code_without Code⊢.no_instructions h = h
  code_without {us = us} (Code⊢.more_instructions {i = i} {is = is} d e) h =
      rw (append_assoc (instruction_symbols i) (mark Fixed.semicolon ∷ code_symbols is) us) (instruction_without d (and_kept (mark Fixed.semicolon) (code_without e h)))

pub source_without : SourceWithout
source_without ts ss d = rw (← append-nil (frame_symbols ss)) (frame_without d (λ seen. Without.end) [])
