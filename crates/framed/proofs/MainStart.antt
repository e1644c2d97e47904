-- Number 11: `Meaning.main-start` finds a code where there is a written Main frame with a code in start, and only there. Assumes nothing.
use mathlib.Core.Path.{◌≡◌, refl}
use mathlib.Core.Bool.{Bool, true, false}
use mathlib.Core.List.{List}
use mathlib.Core.Option.{Option, none, some}
use Prim.Native.Nat.{ℕ}
use lib.Dec.{eqb}
use borrow.Author.Tests.{eqb-true, eq-eqb}
use Rattle.framed.specs.Common.{bytes, ◌∈◌, here, later, Twice}
use Rattle.framed.specs.Tokens.{Token}
use Rattle.framed.specs.Symbols.{Symbol, number_in, name_table, symbols}
use Rattle.framed.specs.Tree.{Written, Base, Expression, Slots, Instruction, Code}
use Rattle.framed.specs.Grammar.{Names⊢, Ups⊢, Path⊢, Base⊢, Expression⊢, Frame⊢, Slots⊢, Instruction⊢, Code⊢, Source}
use Rattle.framed.specs.Paths.{Place, within_slot}
use Rattle.framed.specs.Meaning.{Piece, slot_names, slot_of, frame_in, code_in, main_start}
use Rattle.framed.specs.Occurrences.{InSlots, in_slot, later_slot, in_right_side, frame}
use Rattle.framed.specs.Refusals.{HasSlot, MainStart}
use Rattle.framed.proofs.General.{none≢some, some_inj}
use Rattle.framed.proofs.NamesExact.{names_exact, number_at, symbol_place}

-- ---- What follows a part is part of the symbols

names_rest : {ts rest : List Symbol} {ns : List ℕ} {t : Symbol} → Names⊢ ts ns rest → t ∈ rest → t ∈ ts
names_rest Names⊢.none m = m
names_rest (Names⊢.more d) m = later (later (names_rest d m))

ups_rest : {ts rest : List Symbol} {k : ℕ} {t : Symbol} → Ups⊢ ts k rest → t ∈ rest → t ∈ ts
ups_rest Ups⊢.none m = m
ups_rest (Ups⊢.more d) m = later (later (ups_rest d m))

path_rest : {ts rest : List Symbol} {p : Written} {t : Symbol} → Path⊢ ts p rest → t ∈ rest → t ∈ ts
path_rest (Path⊢.self d) m = later (names_rest d m)
path_rest (Path⊢.up d e) m = later (ups_rest d (names_rest e m))

mutual
  base_rest : {ts rest : List Symbol} {b : Base Written} {t : Symbol} → Base⊢ ts b rest → t ∈ rest → t ∈ ts
  base_rest Base⊢.integer m = later m
  base_rest Base⊢.string m = later m
  base_rest (Base⊢.path d) m = path_rest d m
  base_rest (Base⊢.code d) m = later (later (code_rest d (later m)))

  expression_rest : {ts rest : List Symbol} {e : Expression Written} {t : Symbol} → Expression⊢ ts e rest → t ∈ rest → t ∈ ts
  expression_rest (Expression⊢.base d) m = base_rest d m
  expression_rest (Expression⊢.not d) m = later (base_rest d m)
  expression_rest (Expression⊢.operation d e) m = base_rest d (later (base_rest e m))
  expression_rest (Expression⊢.frame d) m = frame_rest d m

  frame_rest : {ts rest : List Symbol} {ss : Slots Written} {t : Symbol} → Frame⊢ ts ss rest → t ∈ rest → t ∈ ts
  frame_rest (Frame⊢.brackets d) m = later (later (later (slots_rest d (later m))))

  slots_rest : {ts rest : List Symbol} {ss : Slots Written} {t : Symbol} → Slots⊢ ts ss rest → t ∈ rest → t ∈ ts
  slots_rest Slots⊢.no_slots m = m
  slots_rest (Slots⊢.last_slot d) m = later (later (expression_rest d m))
  slots_rest (Slots⊢.more_slots d e) m = later (later (expression_rest d (later (slots_rest e m))))

  instruction_rest : {ts rest : List Symbol} {i : Instruction Written} {t : Symbol} → Instruction⊢ ts i rest → t ∈ rest → t ∈ ts
  instruction_rest (Instruction⊢.assign d e) m = path_rest d (later (expression_rest e m))
  instruction_rest (Instruction⊢.show d) m = later (base_rest d m)
  instruction_rest (Instruction⊢.jump d e) m = later (base_rest d (base_rest e m))
  instruction_rest (Instruction⊢.ifeq d e f) m = later (base_rest d (base_rest e (base_rest f m)))

  code_rest : {ts rest : List Symbol} {is : Code Written} {t : Symbol} → Code⊢ ts is rest → t ∈ rest → t ∈ ts
  code_rest Code⊢.no_instructions m = m
  code_rest (Code⊢.more_instructions d e) m = instruction_rest d (later (code_rest e m))

-- ---- The names of slots are symbols

slot_symbol : {ts rest : List Symbol} {ss : Slots Written} {n : ℕ} {e : Expression Written} → Slots⊢ ts ss rest → HasSlot n e ss → Symbol.name n ∈ ts
slot_symbol Slots⊢.no_slots h = elim h [ ]
slot_symbol (Slots⊢.last_slot d) HasSlot.here = here
slot_symbol (Slots⊢.last_slot d) (HasSlot.later h) = elim h [ ]
slot_symbol (Slots⊢.more_slots d ds) HasSlot.here = here
slot_symbol (Slots⊢.more_slots d ds) (HasSlot.later h) = later (later (expression_rest d (later (slot_symbol ds h))))

frame_symbol : {ts rest : List Symbol} {ss : Slots Written} {n : ℕ} {e : Expression Written} → Frame⊢ ts ss rest → HasSlot n e ss → Symbol.name n ∈ ts
frame_symbol (Frame⊢.brackets d) h = later (later (later (slot_symbol d h)))

-- also those in a frame that stands in a slot
expression_symbol : {ts rest : List Symbol} {us : Slots Written} {n : ℕ} {e : Expression Written} →
    Expression⊢ ts (Expression.frame us) rest → HasSlot n e us → Symbol.name n ∈ ts
expression_symbol (Expression⊢.frame d) h = frame_symbol d h

slot_inner : {ts rest : List Symbol} {ss us : Slots Written} {m n : ℕ} {e : Expression Written} →
    Slots⊢ ts ss rest → HasSlot m (Expression.frame us) ss → HasSlot n e us → Symbol.name n ∈ ts
slot_inner Slots⊢.no_slots h k = elim h [ ]
slot_inner (Slots⊢.last_slot d) HasSlot.here k = later (later (expression_symbol d k))
slot_inner (Slots⊢.last_slot d) (HasSlot.later h) k = elim h [ ]
slot_inner (Slots⊢.more_slots d ds) HasSlot.here k = later (later (expression_symbol d k))
slot_inner (Slots⊢.more_slots d ds) (HasSlot.later h) k = later (later (expression_rest d (later (slot_inner ds h k))))

frame_inner : {ts rest : List Symbol} {ss us : Slots Written} {m n : ℕ} {e : Expression Written} →
    Frame⊢ ts ss rest → HasSlot m (Expression.frame us) ss → HasSlot n e us → Symbol.name n ∈ ts
frame_inner (Frame⊢.brackets d) h k = later (later (later (slot_inner d h k)))

-- ---- A slot by its name

slot_found : (n : ℕ) (ss : Slots Written) {e : Expression Written} → slot_of n ss ≡ some e → HasSlot n e ss
unfolding slot_of
slot_found n Slots.no_slots h = absurd (none≢some h)
slot_found n (Slots.slot m f ss) {e} h = go (eqb n m) refl h (λ k. slot_found n ss k)
  where
    go : (t : Bool) → eqb n m ≡ t → (elim t [ true ↦ some f | false ↦ slot_of n ss ]) ≡ some e → (slot_of n ss ≡ some e → HasSlot n e ss) → HasSlot n e (Slots.slot m f ss)
    go true p q k = rw (eqb-true n m p, ← some_inj q) HasSlot.here
    go false p q k = HasSlot.later (k q)

slot_named : {n : ℕ} {e : Expression Written} {ss : Slots Written} → HasSlot n e ss → n ∈ slot_names ss
unfolding slot_names
slot_named HasSlot.here = here
slot_named (HasSlot.later h) = later (slot_named h)

slot_is : {n : ℕ} {e : Expression Written} {ss : Slots Written} → ¬ Twice (slot_names ss) → HasSlot n e ss → slot_of n ss ≡ some e
unfolding slot_of slot_names
slot_is {n} t HasSlot.here = rw (slot_of, eq-eqb n n refl)
slot_is {n} {e} t (HasSlot.later {m = m} {f = f} {ss = ss} h) = go (eqb n m) refl (slot_is (λ d. t (Twice.rest d)) h)
  where
    go : (b : Bool) → eqb n m ≡ b → slot_of n ss ≡ some e → (elim b [ true ↦ some f | false ↦ slot_of n ss ]) ≡ some e
    go true p q = absurd (t (Twice.first (rw (← eqb-true n m p) (slot_named h))))
    go false p q = q

pub slot_frame : {n : ℕ} {us ss : Slots Written} (place : Place) → HasSlot n (Expression.frame us) ss → InSlots place ss (Piece.frame (within_slot n place) (slot_names us))
slot_frame place HasSlot.here = in_slot (in_right_side frame)
slot_frame place (HasSlot.later h) = later_slot (slot_frame place h)

-- ---- The code in start

frame_found : (o : Option (Expression Written)) (n : ℕ) {e : Expression Written} → slot_of n (frame_in o) ≡ some e →
    (us : Slots Written) × (o ≡ some (Expression.frame us)) × (slot_of n us ≡ some e)
unfolding slot_of frame_in
frame_found none n h = absurd (none≢some h)
frame_found (some (Expression.base b)) n h = absurd (none≢some h)
frame_found (some (Expression.not b)) n h = absurd (none≢some h)
frame_found (some (Expression.operation o a b)) n h = absurd (none≢some h)
frame_found (some (Expression.frame us)) n h = (us, refl, h)

code_found : (o : Option (Expression Written)) {k : ℕ} → code_in o ≡ some k → (is : Code Written) × (o ≡ some (Expression.base (Base.code k is)))
unfolding code_in
code_found none h = absurd (none≢some h)
code_found (some (Expression.base (Base.integer z))) h = absurd (none≢some h)
code_found (some (Expression.base (Base.string k))) h = absurd (none≢some h)
code_found (some (Expression.base (Base.path p))) h = absurd (none≢some h)
code_found (some (Expression.base (Base.code k is))) h = (is, cc)
code_found (some (Expression.not b)) h = absurd (none≢some h)
code_found (some (Expression.operation o a b)) h = absurd (none≢some h)
code_found (some (Expression.frame us)) h = absurd (none≢some h)

start_is : (table : List (List ℕ)) (ss us : Slots Written) (m s k : ℕ) (is : Code Written) → number_in table (bytes "Main") ≡ m → number_in table (bytes "start") ≡ s →
    slot_of m ss ≡ some (Expression.frame us) → slot_of s us ≡ some (Expression.base (Base.code k is)) → main_start table ss ≡ some k
unfolding main_start frame_in code_in
start_is table ss us m s k is p q f g = rw (p, q, f, g)

module _ (ts : List Token) (ss : Slots Written) where
  pub start_written : Source (symbols ts) ss → {k : ℕ} → main_start (name_table ts) ss ≡ some k → MainStart (name_table ts) ss
  unfolding main_start
  start_written d {k} h =
      let m = number_in (name_table ts) (bytes "Main") in
      let s = number_in (name_table ts) (bytes "start") in
      let c = code_found _ h in
      let f = frame_found (slot_of m ss) s c.1 in
      let main_slot = slot_found m ss f.1 in
      let start_slot = slot_found s f.0 f.2 in
      record {
        main = m;
        start = s;
        main_name = symbol_place ts (bytes "Main") (frame_symbol d main_slot);
        start_name = symbol_place ts (bytes "start") (frame_inner d main_slot start_slot);
        slots = f.0;
        main_slot = main_slot;
        number = k;
        code = c.0;
        start_slot = start_slot;
      }

  -- where no name stands twice in the frames
  pub start_found : ¬ Twice (slot_names ss) → ((n : ℕ) (us : Slots Written) → HasSlot n (Expression.frame us) ss → ¬ Twice (slot_names us)) →
      (w : MainStart (name_table ts) ss) → main_start (name_table ts) ss ≡ some w.number
  start_found t u w =
      start_is (name_table ts) ss w.slots w.main w.start w.number w.code
      (number_at (name_table ts) (names_exact.once ts) w.main w.main_name) (number_at (name_table ts) (names_exact.once ts) w.start w.start_name)
      (slot_is t w.main_slot) (slot_is (u w.main w.slots w.main_slot) w.start_slot)
