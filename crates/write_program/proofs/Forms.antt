-- The text of each form of the tree, by its parts in the order in which they are appended. Assumes nothing.
use mathlib.Core.Path.{◌≡◌, refl, ◌∙◌, ap, sym}
use mathlib.Core.Bool.{Bool, true, false}
use mathlib.Core.List.{List, [], ◌∷◌, ◌++◌, append_assoc, append-nil}
use Prim.Native.Nat.{ℕ}
use lib.ListN.{get_or, drop}
use Rattle.framed.specs.Common.{Common}
use Rattle.framed.specs.Tokens.{Token, Fixed, Operator}
use Rattle.framed.specs.Tree.{Base, Expression, Slots, Instruction, Code, ◌then◌}
use Rattle.framed.specs.Paths.{Place, outside_code, in_code, within_slot, within_code, holder, Path, from_self, from_program, program_place}
use Rattle.framed.specs.Values.{Values}
use Rattle.framed.specs.Writer.{Writer, Word, one, mark, word_bytes, led, text, path_word, written_path, base_words, expression_words, slots_words, further_words, instruction_words, code_words}
use Rattle.words.specs.Words.{pick}
use Rattle.tables.specs.declared.ExpressionEntry.{ExpressionEntry}
use Rattle.tables.specs.Fields.{program_slots, slot_name}
use Rattle.trees.specs.Trees.{Readers, base_tree, expression_tree, no_base}
use Rattle.trees.specs.Held.{program_held}
use Rattle.write_words.specs.Words.{name_table}
use Rattle.write_program.specs.Text.{base_led, expression_led, slots_led, instruction_led, code_led, slots_text, lead_text, head_text}

-- ---- Words

led_append : (ws vs : List Word) → led (ws ++ vs) ≡ led ws ++ led vs
unfolding led
led_append [] vs = refl
led_append (w ∷ ws) vs = ap (λ (bs : List ℕ). 32 ∷ (word_bytes w ++ bs)) (led_append ws vs) ∙ ap (λ (bs : List ℕ). 32 ∷ bs) (sym (append_assoc (word_bytes w) (led ws) (led vs)))

-- three parts, one after the other
pub led_three : (ws vs us : List Word) → led (ws ++ (vs ++ us)) ≡ (led ws ++ led vs) ++ led us
led_three ws vs us = led_append ws (vs ++ us) ∙ ap (λ (bs : List ℕ). led ws ++ bs) (led_append vs us) ∙ sym (append_assoc (led ws) (led vs) (led us))

led_four : (ws vs us ts : List Word) → led (ws ++ (vs ++ us ++ ts)) ≡ ((led ws ++ led vs) ++ led us) ++ led ts
led_four ws vs us ts =
    led_append ws (vs ++ us ++ ts)
    ∙ ap (λ (bs : List ℕ). led ws ++ bs) (led_append (vs ++ us) ts ∙ ap (λ (bs : List ℕ). bs ++ led ts) (led_append vs us))
    ∙ sym (append_assoc (led ws) (led vs ++ led us) (led ts))
    ∙ ap (λ (bs : List ℕ). bs ++ led ts) (sym (append_assoc (led ws) (led vs) (led us)))

-- the byte strings of the code
abbrev pub code_open : List ℕ
code_open = 32 ∷ 99 ∷ 111 ∷ 100 ∷ 101 ∷ 32 ∷ 123 ∷ []

abbrev pub curly_close : List ℕ
curly_close = 32 ∷ 125 ∷ []

abbrev pub program_open : List ℕ
program_open = 102 ∷ 114 ∷ 97 ∷ 109 ∷ 101 ∷ 32 ∷ 58 ∷ 32 ∷ 91 ∷ []

abbrev pub frame_open : List ℕ
frame_open = 32 ∷ program_open

abbrev pub square_close : List ℕ
square_close = 32 ∷ 93 ∷ []

abbrev pub assign : List ℕ
assign = 32 ∷ 58 ∷ 61 ∷ []

abbrev pub show : List ℕ
show = 32 ∷ 115 ∷ 104 ∷ 111 ∷ 119 ∷ []

abbrev pub jump : List ℕ
jump = 32 ∷ 106 ∷ 117 ∷ 109 ∷ 112 ∷ []

abbrev pub ifeq : List ℕ
ifeq = 32 ∷ 105 ∷ 102 ∷ 101 ∷ 113 ∷ []

abbrev pub semicolon : List ℕ
semicolon = 32 ∷ 59 ∷ []

-- ---- Forms

module _ (p l : List ℕ) (place : Place) where
  pub code_form : (k : ℕ) (is : Code Path) → base_led p l place (Base.code k is) ≡ (code_open ++ code_led p l (within_code place) is) ++ curly_close
  unfolding Writer Common
  code_form k is = led_three (one Token.code ∷ mark Fixed.open_curly ∷ []) (code_words (name_table p) (program_held p l).literals (within_code place) is) (mark Fixed.close_curly ∷ [])

  pub zero_form : base_led p l place no_base ≡ 32 ∷ 48 ∷ []
  unfolding Writer Values
  zero_form = refl

  pub frame_form : (inner : Place) (ss : Slots Path) → expression_led p l place inner (Expression.frame ss) ≡ (frame_open ++ slots_led p l inner ss) ++ square_close
  unfolding Writer Common
  frame_form inner ss = led_three (mark Fixed.frame ∷ mark Fixed.colon ∷ mark Fixed.open_square ∷ []) (slots_words (name_table p) (program_held p l).literals inner ss) (mark Fixed.close_square ∷ [])

  pub not_form : (inner : Place) (b : Base Path) → expression_led p l place inner (Expression.not b) ≡ (32 ∷ 33 ∷ []) ++ base_led p l place b
  unfolding Writer Common
  not_form inner b = refl

  abbrev bases : Base Path → List Word
  bases b = base_words (name_table p) (program_held p l).literals place b

  pub operation_form : (inner : Place) (o : Operator) (a b : Base Path)
      → expression_led p l place inner (Expression.operation o a b) ≡ (base_led p l place a ++ led (mark (Fixed.operator o) ∷ [])) ++ base_led p l place b
  unfolding base_words
  operation_form inner o a b = led_three (bases a) (mark (Fixed.operator o) ∷ []) (bases b)

  pub assign_form : (q : Path) (g : Expression Path)
      → instruction_led p l place (Instruction.assign q g) ≡ (led (path_word (name_table p) (written_path place q) ∷ []) ++ assign) ++ expression_led p l place place g
  unfolding Writer Common
  assign_form q g =
      led_three (path_word (name_table p) (written_path place q) ∷ []) (mark Fixed.assign ∷ []) (expression_words (name_table p) (program_held p l).literals place place g)

  pub show_form : (b : Base Path) → instruction_led p l place (Instruction.show b) ≡ show ++ base_led p l place b
  unfolding Writer Common
  show_form b = refl

  pub jump_form : (a b : Base Path) → instruction_led p l place (Instruction.jump a b) ≡ (jump ++ base_led p l place a) ++ base_led p l place b
  unfolding Writer Common
  jump_form a b = led_three (mark Fixed.jump ∷ []) (bases a) (bases b)

  pub ifeq_form : (a b c : Base Path)
      → instruction_led p l place (Instruction.ifeq a b c) ≡ ((ifeq ++ base_led p l place a) ++ base_led p l place b) ++ base_led p l place c
  unfolding Writer Common
  ifeq_form a b c = led_four (mark Fixed.ifeq ∷ []) (bases a) (bases b) (bases c)

  pub then_form : (i : Instruction Path) (is : Code Path) → code_led p l place (i then is) ≡ (instruction_led p l place i ++ semicolon) ++ code_led p l place is
  unfolding Writer Common
  then_form i is =
      led_three (instruction_words (name_table p) (program_held p l).literals place i) (mark Fixed.semicolon ∷ []) (code_words (name_table p) (program_held p l).literals place is)

  -- slots, of which the first is the first of its frame or not
  unfoldable pub listed : Bool → Slots Path → List ℕ
  listed first ss = led (pick first (slots_words (name_table p) (program_held p l).literals place ss) (further_words (name_table p) (program_held p l).literals place ss))

  pub listed_first : (ss : Slots Path) → listed true ss ≡ slots_led p l place ss
  unfolding listed
  listed_first ss = refl

  pub listed_none : (first : Bool) → listed first Slots.no_slots ≡ []
  unfolding listed Writer
  listed_none true = refl
  listed_none false = refl

  pub listed_form : (first : Bool) (n : ℕ) (g : Expression Path) (ss : Slots Path)
      → listed first (Slots.slot n g ss)
      ≡ (led (pick first [] (mark Fixed.comma ∷ []) ++ (one (Token.name (get_or (name_table p) n [])) ∷ mark Fixed.assign ∷ [])) ++ expression_led p l place (within_slot n place) g)
      ++ listed false ss
  unfolding listed base_words
  listed_form true n g ss =
      led_three (one (Token.name (get_or (name_table p) n [])) ∷ mark Fixed.assign ∷ []) (expression_words (name_table p) (program_held p l).literals place (within_slot n place) g)
      (further_words (name_table p) (program_held p l).literals place ss)
  listed_form false n g ss =
      led_three (mark Fixed.comma ∷ one (Token.name (get_or (name_table p) n [])) ∷ mark Fixed.assign ∷ [])
      (expression_words (name_table p) (program_held p l).literals place (within_slot n place) g)
      (further_words (name_table p) (program_held p l).literals place ss)

-- what stands before a slot's expression
pub head_form : (p : List ℕ) (first : Bool) (y : ℕ) → head_text p first y ≡ (lead_text first ++ get_or (name_table p) (slot_name p y) []) ++ assign
unfolding head_text lead_text Writer Common
head_form p true y = ap (λ (bs : List ℕ). (32 ∷ bs) ++ assign) (append-nil (get_or (name_table p) (slot_name p y) []))
head_form p false y = ap (λ (bs : List ℕ). (32 ∷ 44 ∷ 32 ∷ bs) ++ assign) (append-nil (get_or (name_table p) (slot_name p y) []))

-- the whole: no space before its first word
pub program_form : (p l : List ℕ) → text (program_held p l) ≡ (program_open ++ slots_text p l program_place (program_slots p)) ++ square_close
unfolding Writer Common slots_text name_table program_held
program_form p l =
    ap (drop 1)
    (led_three (mark Fixed.frame ∷ mark Fixed.colon ∷ mark Fixed.open_square ∷ [])
    (slots_words (program_held p l).names (program_held p l).literals program_place (program_held p l).slots)
    (mark Fixed.close_square ∷ []))

-- ---- Entries of other forms

-- what is no base is written as 0
pub other_base : (r : Readers) (p : List ℕ) (e : ExpressionEntry) → ((w : ℕ) → e ≡ ExpressionEntry.Integer w → ⊥) → ((n : ℕ) → e ≡ ExpressionEntry.Literal n → ⊥)
    → ((j n : ℕ) → e ≡ ExpressionEntry.FromSelf j n → ⊥) → ((j n : ℕ) → e ≡ ExpressionEntry.FromProgram j n → ⊥) → ((n : ℕ) → e ≡ ExpressionEntry.Code n → ⊥)
    → base_tree r p e ≡ no_base
unfolding base_tree
other_base r p (ExpressionEntry.Integer w) a b c d k = absurd (a w refl)
other_base r p (ExpressionEntry.Literal n) a b c d k = absurd (b n refl)
other_base r p (ExpressionEntry.FromSelf j n) a b c d k = absurd (c j n refl)
other_base r p (ExpressionEntry.FromProgram j n) a b c d k = absurd (d j n refl)
other_base r p (ExpressionEntry.Code n) a b c d k = absurd (k n refl)
other_base r p (ExpressionEntry.Frame f) a b c d k = refl
other_base r p (ExpressionEntry.Not x) a b c d k = refl
other_base r p (ExpressionEntry.Operate o x y) a b c d k = refl
other_base r p ExpressionEntry.Bad a b c d k = refl

-- what is no frame, `!` or operation is a base
pub other_expression : (r : Readers) (p : List ℕ) (x : ℕ) (e : ExpressionEntry) → ((d : ℕ) → e ≡ ExpressionEntry.Frame d → ⊥) → ((y : ℕ) → e ≡ ExpressionEntry.Not y → ⊥)
    → ((o y z : ℕ) → e ≡ ExpressionEntry.Operate o y z → ⊥) → expression_tree r p x e ≡ Expression.base (base_tree r p e)
unfolding base_tree expression_tree
other_expression r p x (ExpressionEntry.Integer w) a b k = refl
other_expression r p x (ExpressionEntry.Literal n) a b k = refl
other_expression r p x (ExpressionEntry.FromSelf j n) a b k = refl
other_expression r p x (ExpressionEntry.FromProgram j n) a b k = refl
other_expression r p x (ExpressionEntry.Code n) a b k = refl
other_expression r p x (ExpressionEntry.Frame d) a b k = absurd (a d refl)
other_expression r p x (ExpressionEntry.Not y) a b k = absurd (b y refl)
other_expression r p x (ExpressionEntry.Operate o y z) a b k = absurd (k o y z refl)
other_expression r p x ExpressionEntry.Bad a b k = refl

-- ---- What is no frame is written outside code as it is in code

module _ (p l ns : List ℕ) where
  same_base : (b : Base Path) → base_words (name_table p) (program_held p l).literals (in_code ns) b ≡ base_words (name_table p) (program_held p l).literals (outside_code ns) b
  unfolding Writer holder within_code
  same_base (Base.integer z) = refl
  same_base (Base.string k) = refl
  same_base (Base.path (from_self q)) = refl
  same_base (Base.path (from_program q)) = refl
  same_base (Base.code k is) = refl

  pub same_expression : (r : Readers) (y : ℕ) (inner : Place) (e : ExpressionEntry) → ((k : ℕ) → e ≡ ExpressionEntry.Frame k → ⊥)
      → expression_led p l (outside_code ns) inner (expression_tree r p y e) ≡ expression_led p l (in_code ns) (in_code ns) (expression_tree r p y e)
  unfolding expression_tree Writer holder within_code
  same_expression r y inner (ExpressionEntry.Integer w) k = refl
  same_expression r y inner (ExpressionEntry.Literal n) k = refl
  same_expression r y inner (ExpressionEntry.FromSelf j n) k = refl
  same_expression r y inner (ExpressionEntry.FromProgram j n) k = refl
  same_expression r y inner (ExpressionEntry.Code n) k = refl
  same_expression r y inner (ExpressionEntry.Frame d) k = absurd (k d refl)
  same_expression r y inner (ExpressionEntry.Not a) k = rw (same_base (r.base a))
  same_expression r y inner (ExpressionEntry.Operate o a b) k = rw (same_base (r.base a), same_base (r.base b))
  same_expression r y inner ExpressionEntry.Bad k = refl
