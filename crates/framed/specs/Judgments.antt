-- Document 001 (the Framed thesis), section 4: its judgments B, Fetch, E, Put, I, C and that of a program as relations, one constructor for each rule,
-- with document 01's corrections and limits: Put₂ reads getF, I-Assign₃ hands Put the newer heap, integers are in range, a made text has at most
-- 64 bytes and a frame at most 16 slots; and with document 02's: `#` takes values of any kind, each as `show` writes it (A3); two codes are equal where
-- their instruction lists agree (A4). A frame is of the instruction that makes it (A5), so that the judgments have the number of the instruction.
-- I, C and that of a program also say what is shown.
-- `Meets` says which of 32 to 35 is met first in the rule's order. Demand 2: `Machine.perform` gives what `I⇒` says, ends with 32 to 35 where
-- `Meets` says so, and else with 31. Assumes nothing.
use Rattle.std.specs.Prelude.{◌≡◌, ◌≢◌, true, false, ◌||◌, ◌&&◌, List, [], ◌∷◌, ◌++◌, ℕ, ◌≤◌, ◌<◌, ℤ, pos, ◌+ℤ◌, ◌-ℤ◌, ◌*ℤ◌, length, get_or, set}
use Rattle.std.proofs.Math.Option.{none, some}
use Rattle.std.specs.Int.Signed.{lt_z, quot_z}
use Rattle.std.proofs.Math.ListN.{get_elem?}
use Rattle.framed.specs.declared.Value.{Value}
use Rattle.framed.specs.declared.Text.{Text}
use Rattle.framed.specs.Common.{bytes}
use Rattle.framed.specs.Tokens.{Operator, in_range}
use Rattle.framed.specs.Symbols.{number_in}
use Rattle.framed.specs.Tree.{Base, Expression, Slots, Instruction, Code, ◌then◌}
use Rattle.framed.specs.Paths.{Path, from_self, from_program}
use Rattle.framed.specs.Program.{Program}
use Rattle.framed.specs.Values.{Slot, Frame, Heap, new_frame, with_slots, empty_heap, shown, join_bytes, truth, bit}
use Rattle.framed.specs.Equality.{Constants, constants, equal_values}
use Rattle.framed.specs.Fetch.{in_frame, frame_of}
use Rattle.framed.specs.Machine.{set_slot, with_frame, with_frames, following, first_of, State, Effect}

abbrev pub zero_value : Value
zero_value = Value.Int (pos 0)

-- ---- Fetch

pub data Fetch⇒ (frames : List Frame) : Value → List ℕ → Value → Type 0 where
  fetch₁ : {v : Value} → Fetch⇒ frames v [] v
  fetch₂ : {v w u : Value} {f : Frame} {x : ℕ} {xs : List ℕ} →
      frame_of frames v ≡ some f → in_frame f x ≡ some w → Fetch⇒ frames w xs u → Fetch⇒ frames v (x ∷ xs) u

-- ---- B

pub data B⇒ (Σ Π : Value) (frames : List Frame) : Base Path → Value → Type 0 where
  b_int : {z : ℤ} → B⇒ Σ Π frames (Base.integer z) (Value.Int z)
  b_string : {k : ℕ} → B⇒ Σ Π frames (Base.string k) (Value.Text (Text.Literal k))
  b_code : {k : ℕ} {is : Code Path} → B⇒ Σ Π frames (Base.code k is) (Value.Code k)
  b_path₁ : {xs : List ℕ} {v : Value} → Fetch⇒ frames Σ xs v → B⇒ Σ Π frames (Base.path (from_self xs)) v
  b_path₂ : {xs : List ℕ} {v : Value} → Fetch⇒ frames Π xs v → B⇒ Σ Π frames (Base.path (from_program xs)) v

-- ---- v = v₁ ⊕ v₂, with the heap after it

pub data Operates (c : Constants) (h : Heap) : Operator → Value → Value → Value → Heap → Type 0 where
  o_plus : {y z : ℤ} → in_range (y +ℤ z) ≡ true → Operates c h Operator.plus (Value.Int y) (Value.Int z) (Value.Int (y +ℤ z)) h
  o_minus : {y z : ℤ} → in_range (y -ℤ z) ≡ true → Operates c h Operator.minus (Value.Int y) (Value.Int z) (Value.Int (y -ℤ z)) h
  o_times : {y z : ℤ} → in_range (y *ℤ z) ≡ true → Operates c h Operator.times (Value.Int y) (Value.Int z) (Value.Int (y *ℤ z)) h
  o_over : {y z : ℤ} → z ≢ pos 0 → in_range (quot_z y z) ≡ true →
      Operates c h Operator.over (Value.Int y) (Value.Int z) (Value.Int (quot_z y z)) h
  o_less : {y z : ℤ} → Operates c h Operator.less (Value.Int y) (Value.Int z) (bit (lt_z y z)) h
  o_join : {v w : Value} → length (join_bytes c.literals h.texts v w) ≤ 64 →
      Operates c h Operator.join v w (Value.Text (Text.Made (length h.texts)))
      (record { frames = h.frames; texts = h.texts ++ (join_bytes c.literals h.texts v w ∷ []) })
  o_equal : {v w : Value} → Operates c h Operator.equal v w (bit (equal_values c h.texts v w)) h
  o_and : {v w : Value} → Operates c h Operator.and v w (bit (truth v && truth w)) h
  o_or : {v w : Value} → Operates c h Operator.or v w (bit (truth v || truth w)) h

-- ---- E, in instruction n

mutual
  pub data E⇒ (c : Constants) (n : ℕ) (Σ Π : Value) : Expression Path → Heap → Value → Heap → Type 0 where
    e_base : {b : Base Path} {h : Heap} {v : Value} → B⇒ Σ Π h.frames b v → E⇒ c n Σ Π (Expression.base b) h v h
    e_op : {o : Operator} {a b : Base Path} {h h' : Heap} {v w u : Value} →
        B⇒ Σ Π h.frames a v → B⇒ Σ Π h.frames b w → Operates c h o v w u h' →
        E⇒ c n Σ Π (Expression.operation o a b) h u h'
    e_not₁ : {b : Base Path} {h : Heap} → B⇒ Σ Π h.frames b zero_value → E⇒ c n Σ Π (Expression.not b) h (Value.Int (pos 1)) h
    e_not₂ : {b : Base Path} {h : Heap} {v : Value} →
        B⇒ Σ Π h.frames b v → v ≢ zero_value → E⇒ c n Σ Π (Expression.not b) h (Value.Int (pos 0)) h
    e_frame : {ss : Slots Path} {h h₀ h₁ : Heap} {x : ℕ} {f : List Slot} →
        x ≡ length h.frames → Slots⇒ c n Σ Π ss (with_frame n h) f h₀ → h₁ ≡ with_frames (set h₀.frames x (new_frame n f)) h₀ →
        E⇒ c n Σ Π (Expression.frame ss) h (Value.Frame x) h₁

  -- the slots x₁ := e₁, …, xₙ := eₙ, each from the heap that the one before left
  pub data Slots⇒ (c : Constants) (n : ℕ) (Σ Π : Value) : Slots Path → Heap → List Slot → Heap → Type 0 where
    s_none : {h : Heap} → Slots⇒ c n Σ Π Slots.no_slots h [] h
    s_slot : {x : ℕ} {e : Expression Path} {ss : Slots Path} {h h' h'' : Heap} {v : Value} {s : Slot} {f : List Slot} →
        E⇒ c n Σ Π e h v h' → s ≡ record { name = x; value = v } → Slots⇒ c n Σ Π ss h' f h'' →
        Slots⇒ c n Σ Π (Slots.slot x e ss) h (s ∷ f) h''

-- ---- Put: set or add the last slot, of which a frame has at most 16

pub data Put⇒ (frames : List Frame) (w : Value) : Value → List ℕ → List Frame → Type 0 where
  put₁_set : {n x : ℕ} {f : Frame} {u : Value} →
      get_elem? frames n ≡ some f → in_frame f x ≡ some u →
      Put⇒ frames w (Value.Frame n) (x ∷ []) (set frames n (with_slots f (set_slot f.slots x w)))
  put₁_add : {n x : ℕ} {f : Frame} →
      get_elem? frames n ≡ some f → in_frame f x ≡ none → length f.slots < 16 →
      Put⇒ frames w (Value.Frame n) (x ∷ []) (set frames n (with_slots f (set_slot f.slots x w)))
  put₂ : {v u : Value} {f : Frame} {x y : ℕ} {xs : List ℕ} {frames' : List Frame} →
      frame_of frames v ≡ some f → in_frame f x ≡ some u → Put⇒ frames w u (y ∷ xs) frames' →
      Put⇒ frames w v (x ∷ y ∷ xs) frames'

-- ---- I: instruction n, with cs behind it, gives cs', the number of its first, Σ', Π', the heap after it and the line that is shown

pub data I⇒ (p : Program) (n : ℕ) (cs : Code Path) (Σ Π : Value) (h : Heap) : Instruction Path → Code Path → ℕ → Value → Value → Heap → List ℕ → Type 0 where
  i_show : {b : Base Path} {v : Value} →
      B⇒ Σ Π h.frames b v → I⇒ p n cs Σ Π h (Instruction.show b) cs (following p n) Σ Π h (shown p.literals h.texts v ++ (10 ∷ []))
  i_jump : {a b : Base Path} {k : ℕ} {v : Value} →
      B⇒ Σ Π h.frames a (Value.Code k) → B⇒ Σ Π h.frames b v →
      I⇒ p n cs Σ Π h (Instruction.jump a b) (get_or p.codes k Code.finished) (first_of p k) v Π h []
  i_ifeq₁ : {a b c : Base Path} {k : ℕ} {v : Value} →
      B⇒ Σ Π h.frames a zero_value → B⇒ Σ Π h.frames b (Value.Code k) → B⇒ Σ Π h.frames c v →
      I⇒ p n cs Σ Π h (Instruction.ifeq a b c) (get_or p.codes k Code.finished) (first_of p k) v Π h []
  i_ifeq₂ : {a b c : Base Path} {v : Value} →
      B⇒ Σ Π h.frames a v → v ≢ zero_value → I⇒ p n cs Σ Π h (Instruction.ifeq a b c) cs (following p n) Σ Π h []
  i_assign₁ : {e : Expression Path} {x : ℕ} {xs : List ℕ} {v : Value} {h' : Heap} {frames : List Frame} →
      E⇒ (constants p) n Σ Π e h v h' → Put⇒ h'.frames v Σ (x ∷ xs) frames →
      I⇒ p n cs Σ Π h (Instruction.assign (from_self (x ∷ xs)) e) cs (following p n) Σ Π (with_frames frames h') []
  i_assign₂ : {e : Expression Path} {v : Value} {h' : Heap} →
      E⇒ (constants p) n Σ Π e h v h' → I⇒ p n cs Σ Π h (Instruction.assign (from_self []) e) cs (following p n) v Π h' []
  i_assign₃ : {e : Expression Path} {x : ℕ} {xs : List ℕ} {v : Value} {h' : Heap} {frames : List Frame} →
      E⇒ (constants p) n Σ Π e h v h' → Put⇒ h'.frames v Π (x ∷ xs) frames →
      I⇒ p n cs Σ Π h (Instruction.assign (from_program (x ∷ xs)) e) cs (following p n) Σ Π (with_frames frames h') []
  i_assign₄ : {e : Expression Path} {v : Value} {h' : Heap} →
      E⇒ (constants p) n Σ Π e h v h' → I⇒ p n cs Σ Π h (Instruction.assign (from_program []) e) cs (following p n) Σ v h' []

-- ---- C: the list cs, whose first instruction is instruction n, gives Σ', Π', the heap after it and the bytes that are shown

pub data C⇒ (p : Program) : ℕ → Code Path → Value → Value → Heap → Value → Value → Heap → List ℕ → Type 0 where
  c_empty : {n : ℕ} {Σ Π : Value} {h : Heap} → C⇒ p n Code.finished Σ Π h Σ Π h []
  c_not_empty : {c : Instruction Path} {n n' : ℕ} {cs cs' : Code Path} {Σ Π Σ' Π' Σ'' Π'' : Value} {h h' h'' : Heap} {line bs : List ℕ} →
      I⇒ p n cs Σ Π h c cs' n' Σ' Π' h' line → C⇒ p n' cs' Σ' Π' h' Σ'' Π'' h'' bs → C⇒ p n (c then cs) Σ Π h Σ'' Π'' h'' (line ++ bs)

-- ---- The program: its frame is evaluated from the empty heap, with any values for Σ and Π; Σ is a further empty frame, and the list is that of Main.start.
-- Both are made by no instruction

-- the numbers of the names Main and start
unfoldable pub start_path : Program → List ℕ
start_path p = number_in p.names (bytes "Main") ∷ number_in p.names (bytes "start") ∷ []

pub data P⇒ (p : Program) : Value → Value → Heap → List ℕ → Type 0 where
  p_run : {Σ₀ Π₀ Σ Π Σ' Π' : Value} {h h' : Heap} {k : ℕ} {bs : List ℕ} →
      E⇒ (constants p) 0 Σ₀ Π₀ (Expression.frame p.slots) empty_heap Π h → Σ ≡ Value.Frame (length h.frames) →
      Fetch⇒ (with_frame 0 h).frames Π (start_path p) (Value.Code k) →
      C⇒ p (first_of p k) (get_or p.codes k Code.finished) Σ Π (with_frame 0 h) Σ' Π' h' bs → P⇒ p Σ' Π' h' bs

-- ---- 32 to 35, where each is the first that is met

pub data OperationMeets (c : Constants) (h : Heap) : Operator → Value → Value → ℕ → Type 0 where
  divisor_0 : {y : ℤ} → OperationMeets c h Operator.over (Value.Int y) zero_value 32
  plus_out : {y z : ℤ} → in_range (y +ℤ z) ≡ false → OperationMeets c h Operator.plus (Value.Int y) (Value.Int z) 33
  minus_out : {y z : ℤ} → in_range (y -ℤ z) ≡ false → OperationMeets c h Operator.minus (Value.Int y) (Value.Int z) 33
  times_out : {y z : ℤ} → in_range (y *ℤ z) ≡ false → OperationMeets c h Operator.times (Value.Int y) (Value.Int z) 33
  over_out : {y z : ℤ} → z ≢ pos 0 → in_range (quot_z y z) ≡ false → OperationMeets c h Operator.over (Value.Int y) (Value.Int z) 33
  too_long : {v w : Value} → 64 < length (join_bytes c.literals h.texts v w) → OperationMeets c h Operator.join v w 34

mutual
  pub data ExpressionMeets (c : Constants) (n : ℕ) (Σ Π : Value) : Expression Path → Heap → ℕ → Type 0 where
    in_operation : {o : Operator} {a b : Base Path} {h : Heap} {v w : Value} {e : ℕ} →
        B⇒ Σ Π h.frames a v → B⇒ Σ Π h.frames b w → OperationMeets c h o v w e →
        ExpressionMeets c n Σ Π (Expression.operation o a b) h e
    in_a_frame : {ss : Slots Path} {h : Heap} {e : ℕ} →
        SlotsMeet c n Σ Π ss (with_frame n h) e → ExpressionMeets c n Σ Π (Expression.frame ss) h e

  pub data SlotsMeet (c : Constants) (n : ℕ) (Σ Π : Value) : Slots Path → Heap → ℕ → Type 0 where
    in_first : {x : ℕ} {e : Expression Path} {ss : Slots Path} {h : Heap} {k : ℕ} →
        ExpressionMeets c n Σ Π e h k → SlotsMeet c n Σ Π (Slots.slot x e ss) h k
    in_later : {x : ℕ} {e : Expression Path} {ss : Slots Path} {h h' : Heap} {v : Value} {k : ℕ} →
        E⇒ c n Σ Π e h v h' → SlotsMeet c n Σ Π ss h' k → SlotsMeet c n Σ Π (Slots.slot x e ss) h k

-- Put would add a 17th slot
pub data PutMeets (frames : List Frame) (w : Value) : Value → List ℕ → ℕ → Type 0 where
  full : {n x : ℕ} {f : Frame} →
      get_elem? frames n ≡ some f → in_frame f x ≡ none → 16 ≤ length f.slots → PutMeets frames w (Value.Frame n) (x ∷ []) 35
  further : {v u : Value} {f : Frame} {x y : ℕ} {xs : List ℕ} {e : ℕ} →
      frame_of frames v ≡ some f → in_frame f x ≡ some u → PutMeets frames w u (y ∷ xs) e → PutMeets frames w v (x ∷ y ∷ xs) e

-- the value that a path begins at
unfoldable pub root : Value → Value → Path → Value
root Σ Π (from_self ns) = Σ
root Σ Π (from_program ns) = Π

unfoldable pub names : Path → List ℕ
names (from_self ns) = ns
names (from_program ns) = ns

pub data Meets (p : Program) (n : ℕ) (Σ Π : Value) (h : Heap) : Instruction Path → ℕ → Type 0 where
  in_expression : {path : Path} {e : Expression Path} {k : ℕ} →
      ExpressionMeets (constants p) n Σ Π e h k → Meets p n Σ Π h (Instruction.assign path e) k
  in_put : {path : Path} {e : Expression Path} {v : Value} {h' : Heap} {k : ℕ} →
      E⇒ (constants p) n Σ Π e h v h' → PutMeets h'.frames v (root Σ Π path) (names path) k →
      Meets p n Σ Π h (Instruction.assign path e) k

-- ---- In a state

-- the rule of the instruction i, with `rest` behind it, has the effect x in the state s
abbrev pub Rule : Program → State → Code Path → Instruction Path → Effect → Type 0
Rule p s rest i x = I⇒ p s.next rest s.self s.program s.heap i x.remaining x.next x.self x.program x.heap x.line

-- the number e of 32 to 35 is the first met in it
abbrev pub FirstMet : Program → State → Instruction Path → ℕ → Type 0
FirstMet p s i e = Meets p s.next s.self s.program s.heap i e

-- the remaining instructions of the state s give these values, this heap and these bytes
abbrev pub RunsTo : Program → State → Value → Value → Heap → List ℕ → Type 0
RunsTo p s Σ Π h bs = C⇒ p s.next s.remaining s.self s.program s.heap Σ Π h bs
