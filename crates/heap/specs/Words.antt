-- docs/LAYOUT.md, "Heap words" and text bytes: what each accessor reads and each updater writes. Addresses stand as they do there.
-- Assumes nothing.
use Rattle.std.specs.Prelude.{ℕ, ◌+◌, ◌-◌, ◌*◌, List, Bool, not, eqb, ltb, leb}
use Rattle.ints.specs.Ints.{int_of, word_of}
use Rattle.words.specs.Words.{pick, word, set_word}
use Rattle.framed.specs.declared.Text.{Text}
use Rattle.framed.specs.declared.Value.{Value}

-- A value is a tag and a number: 0 an integer in two's complement, 1 a string literal, 2 a made text, 3 a code, 4 a frame
unfoldable pub value_of : ℕ → ℕ → Value
value_of t n =
    pick (eqb t 0) (Value.Int (int_of n))
    (pick (eqb t 1) (Value.Text (Text.Literal n))
    (pick (eqb t 2) (Value.Text (Text.Made n))
    (pick (eqb t 3) (Value.Code n) (Value.Frame n))))

abbrev text_tag : Text → ℕ
text_tag (Text.Literal n) = 1
text_tag (Text.Made n) = 2

abbrev text_number : Text → ℕ
text_number (Text.Literal n) = n
text_number (Text.Made n) = n

abbrev pub tag_of : Value → ℕ
tag_of (Value.Int n) = 0
tag_of (Value.Text t) = text_tag t
tag_of (Value.Code n) = 3
tag_of (Value.Frame n) = 4

abbrev pub number_of : Value → ℕ
number_of (Value.Int n) = word_of n
number_of (Value.Text t) = text_number t
number_of (Value.Code n) = n
number_of (Value.Frame n) = n

-- ---- The header: self, program, position (0, or 1 + the next instruction) and end mark (0, or 31 to 37)

unfoldable pub self_held : List ℕ → Value
self_held h = value_of (word h 0) (word h 1)

unfoldable pub program_held : List ℕ → Value
program_held h = value_of (word h 2) (word h 3)

unfoldable pub position : List ℕ → ℕ
position h = word h 4

unfoldable pub end_mark : List ℕ → ℕ
end_mark h = word h 5

unfoldable pub set_self : List ℕ → Value → List ℕ
set_self h v = set_word (set_word h 0 (tag_of v)) 1 (number_of v)

unfoldable pub set_program : List ℕ → Value → List ℕ
set_program h v = set_word (set_word h 2 (tag_of v)) 3 (number_of v)

unfoldable pub set_position : List ℕ → ℕ → List ℕ
set_position h p = set_word h 4 p

unfoldable pub set_end_mark : List ℕ → ℕ → List ℕ
set_end_mark h e = set_word h 5 e

-- ---- Frames: frame f, its slot i

unfoldable pub frame_word : List ℕ → ℕ → ℕ
frame_word h f = word h (128 + 51 * f)

unfoldable pub frame_used : List ℕ → ℕ → Bool
frame_used h f = eqb (frame_word h f) 1

unfoldable pub slot_count_at : List ℕ → ℕ → ℕ
slot_count_at h f = word h (129 + 51 * f)

-- the number of the instruction that made it, 0 where it was made at loading
unfoldable pub maker_at : List ℕ → ℕ → ℕ
maker_at h f = word h (130 + 51 * f)

unfoldable pub slot_name_at : List ℕ → ℕ → ℕ → ℕ
slot_name_at h f i = word h (131 + 51 * f + 3 * i)

unfoldable pub slot_tag_at : List ℕ → ℕ → ℕ → ℕ
slot_tag_at h f i = word h (132 + 51 * f + 3 * i)

unfoldable pub slot_number_at : List ℕ → ℕ → ℕ → ℕ
slot_number_at h f i = word h (133 + 51 * f + 3 * i)

unfoldable pub slot_value_at : List ℕ → ℕ → ℕ → Value
slot_value_at h f i = value_of (slot_tag_at h f i) (slot_number_at h f i)

unfoldable pub set_slot_value : List ℕ → ℕ → ℕ → Value → List ℕ
set_slot_value h f i v =
    set_word (set_word h (132 + 51 * f + 3 * i) (tag_of v)) (133 + 51 * f + 3 * i) (number_of v)

-- one slot more, at n, of a frame that has n
unfoldable pub add_slot_at : List ℕ → ℕ → ℕ → ℕ → Value → List ℕ
add_slot_at h f n x v = set_word (set_slot_value (set_word h (131 + 51 * f + 3 * n) x) f n v) (129 + 51 * f) (n + 1)

-- a frame that has 16 stays as it is
unfoldable pub add_slot : List ℕ → ℕ → ℕ → Value → List ℕ
add_slot h f x v = pick (leb 16 (slot_count_at h f)) h (add_slot_at h f (slot_count_at h f) x v)

-- in use, with no slots, of the maker m
unfoldable pub take_frame : List ℕ → ℕ → ℕ → List ℕ
take_frame h f m = set_word (set_word (set_word h (128 + 51 * f) 1) (129 + 51 * f) 0) (130 + 51 * f) m

unfoldable pub free_frame : List ℕ → ℕ → List ℕ
free_frame h f = set_word h (128 + 51 * f) 0

-- ---- Made texts: text k, its byte i

unfoldable pub text_word : List ℕ → ℕ → ℕ
text_word h k = word h (13184 + k)

unfoldable pub text_used : List ℕ → ℕ → Bool
text_used h k = not (eqb (text_word h k) 0)

-- 0 where the text is not in use
unfoldable pub text_length : List ℕ → ℕ → ℕ
text_length h k = text_word h k - 1

unfoldable pub text_byte : List ℕ → ℕ → ℕ → ℕ
text_byte t k i = word t (64 * k + i)

-- in use, of n bytes; above 64 nothing is written
unfoldable pub take_text : List ℕ → ℕ → ℕ → List ℕ
take_text h k n = pick (ltb 64 n) h (set_word h (13184 + k) (n + 1))

unfoldable pub free_text : List ℕ → ℕ → List ℕ
free_text h k = set_word h (13184 + k) 0

unfoldable pub set_text_byte : List ℕ → ℕ → ℕ → ℕ → List ℕ
set_text_byte t k i b = set_word t (64 * k + i) b
