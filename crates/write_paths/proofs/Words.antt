-- The words of a program spell the symbols of its tree as it is written again, and are in form. Assumes nothing.
use mathlib.Core.Path.{◌≡◌, refl, ◌∙◌, sym, ap}
use mathlib.Core.List.{List, [], ◌∷◌, ◌++◌, append_assoc, append-nil, map-append}
use Prim.Native.Nat.{ℕ, zero, suc}
use lib.ListN.{get_or}
use Rattle.framed.specs.Tokens.{Token, Fixed}
use Rattle.framed.specs.Symbols.{Symbol}
use Rattle.framed.specs.Tree.{Written, Base, Expression, Slots, Instruction, Code, ◌then◌}
use Rattle.framed.specs.Paths.{Place, within_slot, within_code, Path, resolve_base, resolve_expression, resolve_slots, resolve_instruction, resolve_code, program_place}
use Rattle.framed.specs.Writer.{Word, written_path, dotted, climbs, path_word, base_words, expression_words, slots_words, further_words, instruction_words, code_words, program_words, joined_words}
use Rattle.write_symbols.specs.Symbols.{mark, dotted_symbols, climb_symbols, path_symbols, base_symbols, expression_symbols, slots_symbols, further_symbols, instruction_symbols, code_symbols, frame_symbols, spelled, spelled_all}
use Rattle.write_paths.specs.Rewriting.{rewritten_base, rewritten_expression, rewritten_slots, rewritten_instruction, rewritten_code, WordFormed, WordsFormed}
use Rattle.write_paths.specs.Theorems.{WordsSpelled, ProgramFormed}

-- ---- The words spell the symbols

joined_append : (vs ws : List Word) → joined_words (vs ++ ws) ≡ joined_words vs ++ joined_words ws
unfolding joined_words
joined_append [] ws = refl
joined_append (v ∷ vs) ws = ap (λ (l : List Token). v ++ l) (joined_append vs ws) ∙ sym (append_assoc v (joined_words vs) (joined_words ws))

module _ (names lits : List (List ℕ)) where
  record Spell (ws : List Word) (ts : List Symbol) : Type 0 where
    same : joined_words ws ≡ spelled_all names lits ts

  nothing : Spell [] []
  unfolding joined_words
  nothing = record { same = refl }

  -- a word of one token
  token : (t : Symbol) {ws : List Word} {ts : List Symbol} → Spell ws ts → Spell ((spelled names lits t ∷ []) ∷ ws) (t ∷ ts)
  unfolding joined_words
  token t x = record { same = ap (λ (l : List Token). spelled names lits t ∷ l) x.same }

  both : {vs ws : List Word} {ts us : List Symbol} → Spell vs ts → Spell ws us → Spell (vs ++ ws) (ts ++ us)
  both {vs} {ws} {ts} {us} x y = record { same = rw (joined_append vs ws, map-append (spelled names lits) ts us, x.same, y.same) }

  dotted_spelled : (ns : List ℕ) → dotted names ns ≡ spelled_all names lits (dotted_symbols ns)
  unfolding dotted dotted_symbols spelled
  dotted_spelled [] = refl
  dotted_spelled (n ∷ ns) = rw (dotted_spelled ns)

  climbs_spelled : (k : ℕ) → climbs k ≡ spelled_all names lits (climb_symbols k)
  unfolding climbs climb_symbols spelled
  climbs_spelled zero = refl
  climbs_spelled (suc k) = rw (climbs_spelled k)

  word_spelled : (w : Written) → path_word names w ≡ spelled_all names lits (path_symbols w)
  unfolding path_word path_symbols spelled
  word_spelled (Written.self ns) = rw (dotted_spelled ns)
  word_spelled (Written.up k ns) = rw (map-append (spelled names lits) (climb_symbols k) (dotted_symbols ns), climbs_spelled k, dotted_spelled ns)

  path_spelled : (w : Written) → Spell (path_word names w ∷ []) (path_symbols w)
  unfolding joined_words
  path_spelled w = record { same = append-nil (path_word names w) ∙ word_spelled w }

  mutual
    unfolding base_words resolve_base base_symbols rewritten_base spelled

    base_spelled : (place : Place) (b : Base Written) → Spell (base_words names lits place (resolve_base place b)) (base_symbols (rewritten_base place b))
    base_spelled place (Base.integer z) = token (Symbol.integer z) nothing
    base_spelled place (Base.string k) = token (Symbol.string k) nothing
    base_spelled place (Base.path w) = path_spelled _
    base_spelled place (Base.code k is) =
        token (Symbol.code k) (token (mark Fixed.open_curly) (both (code_spelled (within_code place) is) (token (mark Fixed.close_curly) nothing)))

    expression_spelled : (place inner : Place) (e : Expression Written) →
        Spell (expression_words names lits place inner (resolve_expression place inner e)) (expression_symbols (rewritten_expression place inner e))
    expression_spelled place inner (Expression.base b) = base_spelled place b
    expression_spelled place inner (Expression.not b) = token (mark Fixed.bang) (base_spelled place b)
    expression_spelled place inner (Expression.operation o a b) = both (base_spelled place a) (token (mark (Fixed.operator o)) (base_spelled place b))
    expression_spelled place inner (Expression.frame ss) =
        token (mark Fixed.frame) (token (mark Fixed.colon) (token (mark Fixed.open_square) (both (slots_spelled inner ss) (token (mark Fixed.close_square) nothing))))

    slots_spelled : (place : Place) (ss : Slots Written) → Spell (slots_words names lits place (resolve_slots place ss)) (slots_symbols (rewritten_slots place ss))
    slots_spelled place Slots.no_slots = nothing
    slots_spelled place (Slots.slot n e ss) =
        token (Symbol.name n) (token (mark Fixed.assign) (both (expression_spelled place (within_slot n place) e) (further_spelled place ss)))

    further_spelled : (place : Place) (ss : Slots Written) → Spell (further_words names lits place (resolve_slots place ss)) (further_symbols (rewritten_slots place ss))
    further_spelled place Slots.no_slots = nothing
    further_spelled place (Slots.slot n e ss) =
        token (mark Fixed.comma) (token (Symbol.name n) (token (mark Fixed.assign)
        (both (expression_spelled place (within_slot n place) e) (further_spelled place ss))))

    instruction_spelled : (place : Place) (i : Instruction Written) →
        Spell (instruction_words names lits place (resolve_instruction place i)) (instruction_symbols (rewritten_instruction place i))
    instruction_spelled place (Instruction.assign w e) = both (path_spelled _) (token (mark Fixed.assign) (expression_spelled place place e))
    instruction_spelled place (Instruction.show a) = token (mark Fixed.show) (base_spelled place a)
    instruction_spelled place (Instruction.jump a b) = token (mark Fixed.jump) (both (base_spelled place a) (base_spelled place b))
    instruction_spelled place (Instruction.ifeq a b c) =
        token (mark Fixed.ifeq) (both (both (base_spelled place a) (base_spelled place b)) (base_spelled place c))

    code_spelled : (place : Place) (is : Code Written) → Spell (code_words names lits place (resolve_code place is)) (code_symbols (rewritten_code place is))
    code_spelled place Code.finished = nothing
    code_spelled place (i then is) = both (instruction_spelled place i) (token (mark Fixed.semicolon) (code_spelled place is))

pub words_spelled : WordsSpelled
unfolding program_words base_words resolve_base base_symbols rewritten_base frame_symbols
words_spelled p ss e = rw e (expression_spelled p.names p.literals program_place program_place (Expression.frame ss)).same

-- ---- The words are in form

one_formed : (t : Token) {ws : List Word} → WordsFormed ws → WordsFormed ((t ∷ []) ∷ ws)
one_formed t x = WordsFormed.more WordFormed.single x

both_formed : {vs ws : List Word} → WordsFormed vs → WordsFormed ws → WordsFormed (vs ++ ws)
both_formed WordsFormed.none y = y
both_formed (WordsFormed.more w x) y = WordsFormed.more w (both_formed x y)

module _ (names lits : List (List ℕ)) where
  dotted_formed : (t : Token) (ns : List ℕ) → WordFormed (t ∷ dotted names ns)
  unfolding dotted
  dotted_formed t [] = WordFormed.single
  dotted_formed t (n ∷ ns) = WordFormed.dotted (dotted_formed (Token.name (get_or names n [])) ns)

  climbs_formed : (t : Token) (k : ℕ) (ns : List ℕ) → WordFormed (t ∷ climbs k ++ dotted names ns)
  unfolding climbs
  climbs_formed t zero ns = dotted_formed t ns
  climbs_formed t (suc k) ns = WordFormed.dotted (climbs_formed (Token.fixed Fixed.up) k ns)

  path_formed : (w : Written) → WordFormed (path_word names w)
  unfolding path_word
  path_formed (Written.self ns) = dotted_formed (Token.fixed Fixed.self) ns
  path_formed (Written.up k ns) = climbs_formed (Token.fixed Fixed.up) k ns

  mutual
    unfolding base_words

    base_formed : (place : Place) (b : Base Path) → WordsFormed (base_words names lits place b)
    base_formed place (Base.integer z) = one_formed _ WordsFormed.none
    base_formed place (Base.string k) = one_formed _ WordsFormed.none
    base_formed place (Base.path q) = WordsFormed.more (path_formed (written_path place q)) WordsFormed.none
    base_formed place (Base.code k is) = one_formed _ (one_formed _ (both_formed (code_formed (within_code place) is) (one_formed _ WordsFormed.none)))

    expression_formed : (place inner : Place) (e : Expression Path) → WordsFormed (expression_words names lits place inner e)
    expression_formed place inner (Expression.base b) = base_formed place b
    expression_formed place inner (Expression.not b) = one_formed _ (base_formed place b)
    expression_formed place inner (Expression.operation o a b) = both_formed (base_formed place a) (one_formed _ (base_formed place b))
    expression_formed place inner (Expression.frame ss) =
        one_formed _ (one_formed _ (one_formed _ (both_formed (slots_formed inner ss) (one_formed _ WordsFormed.none))))

    slots_formed : (place : Place) (ss : Slots Path) → WordsFormed (slots_words names lits place ss)
    slots_formed place Slots.no_slots = WordsFormed.none
    slots_formed place (Slots.slot n e ss) =
        one_formed _ (one_formed _ (both_formed (expression_formed place (within_slot n place) e) (further_formed place ss)))

    further_formed : (place : Place) (ss : Slots Path) → WordsFormed (further_words names lits place ss)
    further_formed place Slots.no_slots = WordsFormed.none
    further_formed place (Slots.slot n e ss) =
        one_formed _ (one_formed _ (one_formed _ (both_formed (expression_formed place (within_slot n place) e) (further_formed place ss))))

    instruction_formed : (place : Place) (i : Instruction Path) → WordsFormed (instruction_words names lits place i)
    instruction_formed place (Instruction.assign q e) =
        WordsFormed.more (path_formed (written_path place q)) (one_formed _ (expression_formed place place e))
    instruction_formed place (Instruction.show a) = one_formed _ (base_formed place a)
    instruction_formed place (Instruction.jump a b) = one_formed _ (both_formed (base_formed place a) (base_formed place b))
    instruction_formed place (Instruction.ifeq a b c) = one_formed _ (both_formed (both_formed (base_formed place a) (base_formed place b)) (base_formed place c))

    code_formed : (place : Place) (is : Code Path) → WordsFormed (code_words names lits place is)
    code_formed place Code.finished = WordsFormed.none
    code_formed place (i then is) = both_formed (instruction_formed place i) (one_formed _ (code_formed place is))

pub program_formed : ProgramFormed
unfolding program_words base_words
program_formed p = expression_formed p.names p.literals program_place program_place (Expression.frame p.slots)
