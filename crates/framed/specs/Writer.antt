-- Document 02, A1: a loaded program as Framed text. A word is one token, or all tokens of a path; one space stands between neighbouring words, none inside one.
-- The text is that of the resolved program alone, which no run and no collect changes. Defined for every program, also one that no source has. Assumes nothing.
use Rattle.std.specs.Prelude.{List, [], ◌∷◌, ◌++◌, ℕ, zero, suc, ◌-◌, length, get_or, drop, eqb, true, false}
use Rattle.framed.specs.Common.{bytes}
use Rattle.framed.specs.Tokens.{Token, Fixed, Operator}
use Rattle.framed.specs.Tree.{Written, Base, Expression, Slots, Instruction, Code, ◌then◌}
use Rattle.framed.specs.Paths.{Place, holder, within_slot, within_code, Path, from_self, from_program, program_place}
use Rattle.framed.specs.Program.{Program}
use Rattle.framed.specs.Values.{decimal}

-- ---- Paths

-- how many names two lists share, from the front on
unfoldable pub common_prefix : List ℕ → List ℕ → ℕ
common_prefix [] ns = 0
common_prefix (h ∷ hs) [] = 0
common_prefix (h ∷ hs) (n ∷ ns) = elim (eqb h n) [ true ↦ suc (common_prefix hs ns) | false ↦ 0 ]

-- A path as it is written in a place. One into the program climbs from the holding frame, which the first `^` names, to the deepest frame that its list
-- shares with it; the rest of the list follows (`Theorems.PathWritten`)
unfoldable pub written_path : Place → Path → Written
written_path place (from_self ns) = Written.self ns
written_path place (from_program ns) =
    Written.up (length (holder place) - common_prefix (holder place) ns) (drop (common_prefix (holder place) ns) ns)

-- ---- Words

abbrev pub Word : Type 0
Word = List Token

abbrev pub one : Token → Word
one t = t ∷ []

abbrev pub mark : Fixed → Word
mark f = Token.fixed f ∷ []

-- dot and name, for each name
unfoldable pub dotted : List (List ℕ) → List ℕ → List Token
dotted names [] = []
dotted names (n ∷ ns) = Token.fixed Fixed.dot ∷ Token.name (get_or names n []) ∷ dotted names ns

-- dot and `^`, k times
unfoldable pub climbs : ℕ → List Token
climbs zero = []
climbs (suc k) = Token.fixed Fixed.dot ∷ Token.fixed Fixed.up ∷ climbs k

unfoldable pub path_word : List (List ℕ) → Written → Word
path_word names (Written.self ns) = Token.fixed Fixed.self ∷ dotted names ns
path_word names (Written.up k ns) = Token.fixed Fixed.up ∷ climbs k ++ dotted names ns

-- The words of each part, with the program's names and literals. `inner` is the place of what is written in a frame that is this expression
module _ (names literals : List (List ℕ)) where
  unfoldable mutual
    pub base_words : Place → Base Path → List Word
    base_words place (Base.integer z) = one (Token.integer z) ∷ []
    base_words place (Base.string k) = one (Token.string (get_or literals k [])) ∷ []
    base_words place (Base.path q) = path_word names (written_path place q) ∷ []
    base_words place (Base.code k is) =
        one Token.code ∷ mark Fixed.open_curly ∷ code_words (within_code place) is ++ (mark Fixed.close_curly ∷ [])

    pub expression_words : Place → Place → Expression Path → List Word
    expression_words place inner (Expression.base b) = base_words place b
    expression_words place inner (Expression.not b) = mark Fixed.bang ∷ base_words place b
    expression_words place inner (Expression.operation o a b) = base_words place a ++ (mark (Fixed.operator o) ∷ base_words place b)
    expression_words place inner (Expression.frame ss) =
        mark Fixed.frame ∷ mark Fixed.colon ∷ mark Fixed.open_square ∷ slots_words inner ss ++ (mark Fixed.close_square ∷ [])

    -- slots parted by commas, none behind the last
    pub slots_words : Place → Slots Path → List Word
    slots_words place Slots.no_slots = []
    slots_words place (Slots.slot n e ss) =
        one (Token.name (get_or names n [])) ∷ mark Fixed.assign ∷ expression_words place (within_slot n place) e ++ further_words place ss

    pub further_words : Place → Slots Path → List Word
    further_words place Slots.no_slots = []
    further_words place (Slots.slot n e ss) =
        mark Fixed.comma ∷ one (Token.name (get_or names n [])) ∷ mark Fixed.assign ∷ expression_words place (within_slot n place) e ++ further_words place ss

    pub instruction_words : Place → Instruction Path → List Word
    instruction_words place (Instruction.assign q e) =
        path_word names (written_path place q) ∷ mark Fixed.assign ∷ expression_words place place e
    instruction_words place (Instruction.show a) = mark Fixed.show ∷ base_words place a
    instruction_words place (Instruction.jump a b) = mark Fixed.jump ∷ base_words place a ++ base_words place b
    instruction_words place (Instruction.ifeq a b c) = mark Fixed.ifeq ∷ base_words place a ++ base_words place b ++ base_words place c

    -- each instruction is closed by `;`
    pub code_words : Place → Code Path → List Word
    code_words place Code.finished = []
    code_words place (i then is) = instruction_words place i ++ (mark Fixed.semicolon ∷ code_words place is)

-- a source is one frame
unfoldable pub program_words : Program → List Word
program_words p =
    mark Fixed.frame ∷ mark Fixed.colon ∷ mark Fixed.open_square
    ∷ slots_words p.names p.literals program_place p.slots ++ (mark Fixed.close_square ∷ [])

-- ---- Bytes

unfoldable pub operator_bytes : Operator → List ℕ
operator_bytes Operator.plus = bytes "+"
operator_bytes Operator.minus = bytes "-"
operator_bytes Operator.times = bytes "*"
operator_bytes Operator.over = bytes "/"
operator_bytes Operator.less = bytes "<"
operator_bytes Operator.join = bytes "#"
operator_bytes Operator.equal = bytes "=="
operator_bytes Operator.and = bytes "&&"
operator_bytes Operator.or = bytes "||"

unfoldable pub fixed_bytes : Fixed → List ℕ
fixed_bytes Fixed.frame = bytes "frame"
fixed_bytes Fixed.self = bytes "self"
fixed_bytes Fixed.show = bytes "show"
fixed_bytes Fixed.jump = bytes "jump"
fixed_bytes Fixed.ifeq = bytes "ifeq"
fixed_bytes Fixed.colon = bytes ":"
fixed_bytes Fixed.assign = bytes ":="
fixed_bytes Fixed.dot = bytes "."
fixed_bytes Fixed.up = bytes "^"
fixed_bytes Fixed.bang = bytes "!"
fixed_bytes Fixed.semicolon = bytes ";"
fixed_bytes Fixed.comma = bytes ","
fixed_bytes Fixed.open_square = bytes "["
fixed_bytes Fixed.close_square = bytes "]"
fixed_bytes Fixed.open_curly = bytes "{"
fixed_bytes Fixed.close_curly = bytes "}"
fixed_bytes (Fixed.operator o) = operator_bytes o

-- a string stands between two `"`; an integer is its decimal, which has no needless zeros
unfoldable pub token_bytes : Token → List ℕ
token_bytes (Token.name w) = w
token_bytes (Token.integer z) = decimal z
token_bytes (Token.string w) = bytes "\"" ++ (w ++ bytes "\"")
token_bytes Token.code = bytes "code"
token_bytes (Token.fixed f) = fixed_bytes f

-- none inside a word
unfoldable pub word_bytes : Word → List ℕ
word_bytes [] = []
word_bytes (t ∷ ts) = token_bytes t ++ word_bytes ts

-- one space before each word
unfoldable pub led : List Word → List ℕ
led [] = []
led (w ∷ ws) = 32 ∷ word_bytes w ++ led ws

-- one space between neighbouring words
unfoldable pub parted : List Word → List ℕ
parted [] = []
parted (w ∷ ws) = word_bytes w ++ led ws

-- The text of a program
unfoldable pub text : Program → List ℕ
text p = parted (program_words p)

-- its tokens
unfoldable pub joined_words : List Word → List Token
joined_words [] = []
joined_words (w ∷ ws) = w ++ joined_words ws

unfoldable pub text_tokens : Program → List Token
text_tokens p = joined_words (program_words p)

unfoldable pub Writer : Type 0
unfolding common_prefix written_path dotted climbs path_word base_words program_words operator_bytes fixed_bytes token_bytes word_bytes led parted text joined_words text_tokens
Writer = ℕ
