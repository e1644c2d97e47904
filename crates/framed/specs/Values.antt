-- Document 01, "The endless machine" (here: the unbounded machine): values, frames, texts and the heap; what each value is when it is shown or tested,
-- and with document 02's A3 when it is joined; with its A5 the maker of a frame. `Equality` compares values, which are those of the crate's enums `Value`
-- and `Text`. Assumes nothing.
use Rattle.std.specs.Prelude.{Bool, true, false, List, [], ◌∷◌, ◌++◌, ℕ, zero, suc, ◌+◌, ◌/◌, ◌%◌, ℤ, pos, negsuc, get_or, eqb, ltb}
use Rattle.framed.specs.declared.Value.{Value}
use Rattle.framed.specs.declared.Text.{Text}
use Rattle.framed.specs.Common.{bytes}

-- A slot has the number of its name, and a value; a frame has its slots, in the order in which they were added, and its maker: the number of
-- the instruction that made it, counted from 1 by where each begins in the source, 0 where it was made at the start
pub record Slot : Type 0 where
  pub name : ℕ
  pub value : Value

pub record Frame : Type 0 where
  pub slots : List Slot
  pub maker : ℕ

-- a new frame of a maker with these slots, and a frame whose slots become these
abbrev pub new_frame : ℕ → List Slot → Frame
new_frame n ss = record { slots = ss; maker = n }

abbrev pub with_slots : Frame → List Slot → Frame
with_slots f ss = record { slots = ss; maker = f.maker }

-- The heap: frame n is the n-th frame, made text n the n-th text. It only grows
pub record Heap : Type 0 where
  pub frames : List Frame
  pub texts : List (List ℕ)

unfoldable pub empty_heap : Heap
empty_heap = record { frames = []; texts = [] }

-- the bytes of a text, where these are the program's literals and the made texts
unfoldable pub text_bytes : List (List ℕ) → List (List ℕ) → Text → List ℕ
text_bytes literals made (Text.Literal k) = get_or literals k []
text_bytes literals made (Text.Made k) = get_or made k []

-- the decimal digits of a number; its own size bounds how many there are
unfoldable pub digits_within : ℕ → ℕ → List ℕ
digits_within zero n = []
digits_within (suc bound) n =
    elim (ltb n 10) [ true ↦ (48 + n) ∷ [] | false ↦ digits_within bound (n / 10) ++ ((48 + n % 10) ∷ []) ]

unfoldable pub decimal : ℤ → List ℕ
decimal (pos n) = digits_within (suc n) n
decimal (negsuc n) = 45 ∷ digits_within (suc (suc n)) (suc n)

-- what `show` writes, without byte 10
unfoldable pub shown : List (List ℕ) → List (List ℕ) → Value → List ℕ
shown literals made (Value.Int z) = decimal z
shown literals made (Value.Text t) = text_bytes literals made t
shown literals made (Value.Code k) = bytes "code"
shown literals made (Value.Frame n) = bytes "frame"

-- the bytes that `#` joins: of values of any kind, what `show` writes of each (document 02, A3)
unfoldable pub join_bytes : List (List ℕ) → List (List ℕ) → Value → Value → List ℕ
join_bytes literals made v w = shown literals made v ++ shown literals made w

-- all but integer 0 are true
unfoldable pub truth : Value → Bool
truth (Value.Int (pos zero)) = false
truth (Value.Int (pos (suc n))) = true
truth (Value.Int (negsuc n)) = true
truth (Value.Text t) = true
truth (Value.Code k) = true
truth (Value.Frame n) = true

-- 1 or 0
unfoldable pub bit : Bool → Value
bit true = Value.Int (pos 1)
bit false = Value.Int (pos 0)

unfoldable pub same_integer : ℤ → ℤ → Bool
same_integer (pos m) (pos n) = eqb m n
same_integer (pos m) (negsuc n) = false
same_integer (negsuc m) (pos n) = false
same_integer (negsuc m) (negsuc n) = eqb m n

unfoldable pub Values : Type 0
unfolding empty_heap text_bytes digits_within decimal shown join_bytes truth bit same_integer
Values = ℕ
