-- Document 01, "The endless machine" (here: the unbounded machine): its state, Put, the value of a base and of an expression,
-- room (here: reserve), and one step; `#` is document 02's, A3, `==` its A4, and the maker of a frame its A5. Assumes nothing.
use Rattle.std.specs.Prelude.{◌≡◌, Bool, true, false, not, ◌||◌, ◌&&◌, List, [], ◌∷◌, ◌++◌, ℕ, zero, suc, pred, ◌+◌, ℤ, pos, negsuc, ◌+ℤ◌, ◌-ℤ◌, ◌*ℤ◌, length, get_or, set, eqb, leb, ltb}
use Rattle.std.proofs.Math.Option.{Option, none, some}
use Rattle.std.specs.Int.Signed.{lt_z, quot_z}
use Rattle.std.proofs.Math.ListN.{get_elem?}
use Rattle.framed.specs.declared.Value.{Value}
use Rattle.framed.specs.declared.Text.{Text}
use Rattle.framed.specs.Common.{when◌then◌else◌}
use Rattle.framed.specs.Tokens.{Operator, in_range}
use Rattle.framed.specs.Tree.{Base, Expression, Slots, Instruction, Code, ◌then◌}
use Rattle.framed.specs.Paths.{Path, from_self, from_program}
use Rattle.framed.specs.Program.{Program}
use Rattle.framed.specs.Values.{Slot, Frame, Heap, new_frame, with_slots, empty_heap, shown, join_bytes, truth, bit}
use Rattle.framed.specs.Equality.{Constants, constants, equal_values}
use Rattle.framed.specs.Fetch.{in_frame, get, fetch}
use Rattle.framed.specs.Reach.{roots, reached_frames, texts_from}

-- A part of a step gives something, or ends the step with a number of 31 to 37. Parts follow one another by `do`: the first end met ends it
pub data Result (A : Type 0) : Type 0 where
  gives : A → Result A
  ends : ℕ → Result A

unfoldable pub ◌>>=◌ : {A B : Type 0} → Result A → (A → Result B) → Result B
◌>>=◌ (gives a) f = f a
◌>>=◌ (ends e) f = ends e

-- 31 where something is undefined
unfoldable pub defined : {A : Type 0} → Option A → Result A
defined none = ends 31
defined (some a) = gives a

-- ---- Put

-- setF: the slot n is set, or added behind the others
unfoldable pub set_slot : List Slot → ℕ → Value → List Slot
set_slot [] n w = record { name = n; value = w } ∷ []
set_slot (s ∷ ss) n w =
    elim (eqb s.name n) [ true ↦ record { name = n; value = w } ∷ ss | false ↦ s ∷ set_slot ss n w ]

unfoldable pub holds : Frame → ℕ → Bool
holds f n = elim (in_frame f n) [ none ↦ false | some v ↦ true ]

-- the frame number of a value that is a frame
unfoldable pub frame_number : Value → Result ℕ
frame_number (Value.Int z) = ends 31
frame_number (Value.Text t) = ends 31
frame_number (Value.Code k) = ends 31
frame_number (Value.Frame n) = gives n

-- the frame with the slot n set or added: 35 where it would be a 17th
unfoldable pub put_slot : Frame → ℕ → Value → Result Frame
put_slot f n w = when holds f n || ltb (length f.slots) 16 then gives (with_slots f (set_slot f.slots n w)) else ends 35

-- Put along the names n, ns: walk by Fetch to the last name, then set or add that slot
unfoldable pub put : List Frame → Value → ℕ → List ℕ → Value → Result (List Frame)
put frames v n [] w = do
  k ← frame_number v
  f ← defined (get_elem? frames k)
  g ← put_slot f n w
  gives (set frames k g)
put frames v n (m ∷ ns) w = do
  u ← defined (get frames v n)
  put frames u m ns w

-- ---- Bases, operations, expressions

unfoldable pub base_value : Value → Value → List Frame → Base Path → Result Value
base_value Σ Π frames (Base.integer z) = gives (Value.Int z)
base_value Σ Π frames (Base.string k) = gives (Value.Text (Text.Literal k))
base_value Σ Π frames (Base.code k is) = gives (Value.Code k)
base_value Σ Π frames (Base.path (from_self ns)) = defined (fetch frames Σ ns)
base_value Σ Π frames (Base.path (from_program ns)) = defined (fetch frames Π ns)

-- a value with the heap after it
pub record Evaluated : Type 0 where
  pub value : Value
  pub heap : Heap

abbrev pub evaluated : Value → Heap → Result Evaluated
evaluated v h = gives (record { value = v; heap = h })

unfoldable pub integer_in : Value → Result ℤ
integer_in (Value.Int z) = gives z
integer_in (Value.Text t) = ends 31
integer_in (Value.Code k) = ends 31
integer_in (Value.Frame n) = ends 31

-- 33 where the exact result is out of range
unfoldable pub integer_result : ℤ → Heap → Result Evaluated
integer_result z h = when in_range z then evaluated (Value.Int z) h else ends 33

-- rounded towards zero; 32 where the divisor is 0
unfoldable pub quotient : ℤ → ℤ → Result ℤ
quotient y (pos zero) = ends 32
quotient y (pos (suc n)) = gives (quot_z y (pos (suc n)))
quotient y (negsuc n) = gives (quot_z y (negsuc n))

-- a new made text: 34 above 64 bytes
unfoldable pub new_text : List ℕ → Heap → Result Evaluated
new_text bs h =
    when leb (length bs) 64
    then evaluated (Value.Text (Text.Made (length h.texts))) (record { frames = h.frames; texts = h.texts ++ (bs ∷ []) })
    else ends 34

unfoldable pub operate : Constants → Operator → Value → Value → Heap → Result Evaluated
operate c Operator.plus v w h = do y ← integer_in v; z ← integer_in w; integer_result (y +ℤ z) h
operate c Operator.minus v w h = do y ← integer_in v; z ← integer_in w; integer_result (y -ℤ z) h
operate c Operator.times v w h = do y ← integer_in v; z ← integer_in w; integer_result (y *ℤ z) h
operate c Operator.over v w h = do y ← integer_in v; z ← integer_in w; q ← quotient y z; integer_result q h
operate c Operator.less v w h = do y ← integer_in v; z ← integer_in w; evaluated (bit (lt_z y z)) h
operate c Operator.join v w h = new_text (join_bytes c.literals h.texts v w) h
operate c Operator.equal v w h = evaluated (bit (equal_values c h.texts v w)) h
operate c Operator.and v w h = evaluated (bit (truth v && truth w)) h
operate c Operator.or v w h = evaluated (bit (truth v || truth w)) h

-- the slots of a frame expression, with the heap after them
pub record Filled : Type 0 where
  pub slots : List Slot
  pub heap : Heap

-- initFrame: a new frame of the maker n, with the number after the last
unfoldable pub with_frame : ℕ → Heap → Heap
with_frame n h = record { frames = h.frames ++ (new_frame n [] ∷ []); texts = h.texts }

-- setH: the frame n is set
unfoldable pub with_frames : List Frame → Heap → Heap
with_frames frames h = record { frames = frames; texts = h.texts }

-- The value of an expression of instruction n (0 at the start), operands left to right. A frame: take a new frame number, evaluate the slots in
-- order, then store them
unfoldable mutual
  pub evaluate : Constants → ℕ → Value → Value → Expression Path → Heap → Result Evaluated
  evaluate c n Σ Π (Expression.base b) h = do
    v ← base_value Σ Π h.frames b
    evaluated v h
  evaluate c n Σ Π (Expression.not b) h = do
    v ← base_value Σ Π h.frames b
    evaluated (bit (not (truth v))) h
  evaluate c n Σ Π (Expression.operation o a b) h = do
    v ← base_value Σ Π h.frames a
    w ← base_value Σ Π h.frames b
    operate c o v w h
  evaluate c n Σ Π (Expression.frame ss) h = do
    r ← fill c n Σ Π ss (with_frame n h)
    evaluated (Value.Frame (length h.frames)) (with_frames (set r.heap.frames (length h.frames) (new_frame n r.slots)) r.heap)

  pub fill : Constants → ℕ → Value → Value → Slots Path → Heap → Result Filled
  fill c n Σ Π Slots.no_slots h = gives (record { slots = []; heap = h })
  fill c n Σ Π (Slots.slot x e ss) h = do
    r ← evaluate c n Σ Π e h
    q ← fill c n Σ Π ss r.heap
    gives (record { slots = record { name = x; value = r.value } ∷ q.slots; heap = q.heap })

-- ---- The rule of an instruction

-- what a rule gives: the remaining instructions, the number of the first of them, Σ, Π and the heap after it, and the line that it shows
pub record Effect : Type 0 where
  pub remaining : Code Path
  pub next : ℕ
  pub self : Value
  pub program : Value
  pub heap : Heap
  pub line : List ℕ

abbrev pub becomes : Code Path → ℕ → Value → Value → Heap → List ℕ → Result Effect
becomes rest n Σ Π h line = gives (record { remaining = rest; next = n; self = Σ; program = Π; heap = h; line = line })

-- the number of the instruction that follows instruction n in its code, and of the first one of code k; 0 where there is none
unfoldable pub following : Program → ℕ → ℕ
following p n = get_or p.nexts (pred n) 0

unfoldable pub first_of : Program → ℕ → ℕ
first_of p k = get_or p.firsts k 0

-- Put from the old Σ or Π; with an empty path, Σ or Π becomes the value, of any kind
unfoldable pub assign_to : Value → Value → Code Path → ℕ → Path → Value → Heap → Result Effect
assign_to Σ Π rest m (from_self []) v h = becomes rest m v Π h []
assign_to Σ Π rest m (from_self (n ∷ ns)) v h = do
  frames ← put h.frames Σ n ns v
  becomes rest m Σ Π (with_frames frames h) []
assign_to Σ Π rest m (from_program []) v h = becomes rest m Σ v h []
assign_to Σ Π rest m (from_program (n ∷ ns)) v h = do
  frames ← put h.frames Π n ns v
  becomes rest m Σ Π (with_frames frames h) []

-- the code number of a value that is code
unfoldable pub code_number : Value → Result ℕ
code_number (Value.Int z) = ends 31
code_number (Value.Text t) = ends 31
code_number (Value.Code k) = gives k
code_number (Value.Frame n) = ends 31

-- the first operand must be code, and its list replaces the rest; Σ becomes the second, of any kind
unfoldable pub jump_to : Program → Value → Value → Heap → Base Path → Base Path → Result Effect
jump_to p Σ Π h a b = do
  v ← base_value Σ Π h.frames a
  k ← code_number v
  w ← base_value Σ Π h.frames b
  becomes (get_or p.codes k Code.finished) (first_of p k) w Π h []

-- the rule of instruction n, with `rest` behind it
unfoldable pub perform : Program → ℕ → Value → Value → Heap → Code Path → Instruction Path → Result Effect
perform p n Σ Π h rest (Instruction.assign path e) = do
  r ← evaluate (constants p) n Σ Π e h
  assign_to Σ Π rest (following p n) path r.value r.heap
perform p n Σ Π h rest (Instruction.show a) = do
  v ← base_value Σ Π h.frames a
  becomes rest (following p n) Σ Π h (shown p.literals h.texts v ++ (10 ∷ []))
perform p n Σ Π h rest (Instruction.jump a b) = jump_to p Σ Π h a b
-- integer 0 jumps; any other value goes on, and the two other operands are not evaluated
perform p n Σ Π h rest (Instruction.ifeq a b c) = do
  v ← base_value Σ Π h.frames a
  when truth v then becomes rest (following p n) Σ Π h [] else jump_to p Σ Π h b c

-- ---- Reserve (document 01: room)

-- f and t: the frame literals and the `#` signs, those inside code literals left out
unfoldable mutual
  pub frame_literals : Expression Path → ℕ
  frame_literals (Expression.base b) = 0
  frame_literals (Expression.not b) = 0
  frame_literals (Expression.operation o a b) = 0
  frame_literals (Expression.frame ss) = suc (frame_literals_in ss)

  pub frame_literals_in : Slots Path → ℕ
  frame_literals_in Slots.no_slots = 0
  frame_literals_in (Slots.slot n e ss) = frame_literals e + frame_literals_in ss

unfoldable pub is_join : Operator → ℕ
is_join Operator.plus = 0
is_join Operator.minus = 0
is_join Operator.times = 0
is_join Operator.over = 0
is_join Operator.less = 0
is_join Operator.join = 1
is_join Operator.equal = 0
is_join Operator.and = 0
is_join Operator.or = 0

unfoldable mutual
  pub join_signs : Expression Path → ℕ
  join_signs (Expression.base b) = 0
  join_signs (Expression.not b) = 0
  join_signs (Expression.operation o a b) = is_join o
  join_signs (Expression.frame ss) = join_signs_in ss

  pub join_signs_in : Slots Path → ℕ
  join_signs_in Slots.no_slots = 0
  join_signs_in (Slots.slot n e ss) = join_signs e + join_signs_in ss

-- the expression of an instruction that has one
unfoldable pub right_side : Instruction Path → Expression Path
right_side (Instruction.assign p e) = e
right_side (Instruction.show a) = Expression.base a
right_side (Instruction.jump a b) = Expression.base a
right_side (Instruction.ifeq a b c) = Expression.base a

-- 36 where the reachable frames (ns) plus f exceed F, else 37 where the reachable made texts plus t exceed T, else 0
unfoldable pub reserve_for : (F T f t : ℕ) → List Frame → List Value → List ℕ → ℕ
reserve_for F T f t frames rs ns =
    elim (ltb F (length ns + f)) [ true ↦ 36 | false ↦ elim (ltb T (length (texts_from frames rs ns) + t)) [ true ↦ 37 | false ↦ 0 ] ]

unfoldable pub reserve : (F T : ℕ) → List Frame → Value → Value → Instruction Path → ℕ
reserve F T frames Σ Π i =
    reserve_for F T (frame_literals (right_side i)) (join_signs (right_side i)) frames (roots Σ Π) (reached_frames frames (roots Σ Π))

-- ---- The state and one step

pub record State : Type 0 where
  pub remaining : Code Path
  -- the number of the first of them, counted from 1 by where each begins in the source; 0 where none is left
  pub next : ℕ
  pub self : Value
  pub program : Value
  pub heap : Heap
  -- 0, or 31 to 37
  pub end_mark : ℕ

-- the step on the instruction i, with `rest` behind it: reserve first, then the rule
unfoldable pub step : Program → ℕ → ℕ → State → Instruction Path → Code Path → Result Effect
step p F T s i rest =
    elim (reserve F T s.heap.frames s.self s.program i) [
      | zero ↦ perform p s.next s.self s.program s.heap rest i
      | suc n ↦ ends (suc n)
    ]

-- at the instruction i, with `rest` behind it, with room and no end mark
pub record Ready (F T : ℕ) (s : State) (i : Instruction Path) (rest : Code Path) : Type 0 where
  pub no_mark : s.end_mark ≡ 0
  pub next : s.remaining ≡ (i then rest)
  pub room : reserve F T s.heap.frames s.self s.program i ≡ 0

unfoldable pub after_step : State → Effect → State
after_step s x =
    record {
      remaining = x.remaining;
      next = x.next;
      self = x.self;
      program = x.program;
      heap = x.heap;
      end_mark = s.end_mark;
    }

-- an end changes only the end mark
unfoldable pub marked : ℕ → State → State
marked e s =
    record {
      remaining = s.remaining;
      next = s.next;
      self = s.self;
      program = s.program;
      heap = s.heap;
      end_mark = e;
    }

-- At the start: the written frames outside code are made, of maker 0 (by the rule of a frame expression, which meets no path there),
-- Π is the outer one, Σ a further empty frame, and the list is that of Main.start
unfoldable pub start_from : Program → Result Evaluated → State
start_from p (ends e) =
    record { remaining = Code.finished; next = 0; self = Value.Int (pos 0); program = Value.Int (pos 0); heap = empty_heap; end_mark = e }
start_from p (gives r) =
    record {
      remaining = get_or p.codes p.start Code.finished;
      next = first_of p p.start;
      self = Value.Frame (length r.heap.frames);
      program = r.value;
      heap = with_frame 0 r.heap;
      end_mark = 0;
    }

unfoldable pub start : Program → State
start p = start_from p (evaluate (constants p) 0 (Value.Int (pos 0)) (Value.Int (pos 0)) (Expression.frame p.slots) empty_heap)

unfoldable pub Machine : Type 0
unfolding ◌>>=◌ defined set_slot holds frame_number put_slot put base_value integer_in integer_result quotient new_text operate with_frame with_frames evaluate following first_of assign_to code_number jump_to perform frame_literals is_join join_signs right_side reserve_for reserve step after_step marked start_from start
Machine = ℕ
