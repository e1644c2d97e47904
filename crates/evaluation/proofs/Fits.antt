-- Every value that an expression gives has an integer of 32 bits. Assumes nothing.
use Prim.Native.Nat.{ℕ, ◌≤◌, ◌<◌}
use mathlib.Core.Path.{◌≡◌, refl}
use mathlib.Core.Bool.{Bool, true, false}
use mathlib.Core.List.{List, [], ◌∷◌}
use mathlib.Core.Option.{Option as Optional, none, some}
use native.Mathlib.Omega.{arith}
use native.Mathlib.Decide.{dec_le}
use lib.IntN.{ℤ, pos}
use lib.Signed.{mag}
use mir.Syntax.{w32}
use mir.Val.{SFits, to_z}
use borrow.Author.Tests.{ltb-true}
use Rattle.std.specs.Prelude.{Option, Some, None}
use Rattle.ints.specs.Ints.{int_of}
use Rattle.ints.proofs.Laws.{int_fits}
use Rattle.framed.specs.declared.Value.{Value}
use Rattle.framed.specs.declared.Text.{Text}
use Rattle.framed.specs.Values.{bit}
use Rattle.framed.specs.Fetch as F
use Rattle.framed.specs.Fetch.{get, frame_of, fetch}
use Rattle.framed.specs.Tokens.{in_range}
use Rattle.framed.specs.Machine.{Result, defined, base_value}
use Rattle.tables.specs.declared.ExpressionEntry.{ExpressionEntry}
use Rattle.tables.specs.Entries.{expression_at}
use Rattle.tables.specs.Fields.{expressions}
use Rattle.program_form.specs.WellFormed.{WellFormed}
use Rattle.trees.specs.Trees.{Readers, base_tree}
use Rattle.trees.proofs.Held.{one_level_held}
use Rattle.heap.specs.Words.{self_held, program_held, frame_used, slot_value_at}
use Rattle.heap.specs.Held.{slots_held, frames_held}
use Rattle.heap.specs.Closed.{ValueFits}
use Rattle.heap.proofs.Laws.{self_fits, program_fits, slot_fits}
use Rattle.paths.specs.Paths.{slot_from}
use Rattle.paths.proofs.Laws.{get_past, get_free, get_missing, get_found}
use Rattle.operands.specs.Operands.{operand_value}
use Rattle.bounded.specs.Operations.{Product}
use Rattle.bounded.specs.Bounded.{value_given, produce}
use Rattle.word_store.specs.Store.{Memories, word_store}
use Rattle.producing.proofs.Operated.{Modest, an_end, a_number, a_text}

-- ---- By the kind of value

pub fits_int : (z : ℤ) → SFits w32 z → ValueFits (Value.Int z)
fits_int z f = record { int = λ y e. let q : z ≡ y = cc in rw (← q) f }

pub fits_text : (t : Text) → ValueFits (Value.Text t)
fits_text t = record { int = λ y e. absurd (let q : ◌≡◌ {A = ℕ} 0 1 = cc in omega arith) }

pub fits_code : (k : ℕ) → ValueFits (Value.Code k)
fits_code k = record { int = λ y e. absurd (let q : ◌≡◌ {A = ℕ} 0 1 = cc in omega arith) }

pub fits_frame : (n : ℕ) → ValueFits (Value.Frame n)
fits_frame n = record { int = λ y e. absurd (let q : ◌≡◌ {A = ℕ} 0 1 = cc in omega arith) }

fits_range : (z : ℤ) → in_range z ≡ true → ValueFits (Value.Int z)
fits_range z e = fits_int z (record { sfits = ltb-true (mag z) 2147483648 e })

pub fits_zero : ValueFits (Value.Int (pos 0))
fits_zero = fits_range (pos 0) refl

pub fits_bit : (b : Bool) → ValueFits (bit b)
unfolding bit
fits_bit true = fits_range (pos 1) refl
fits_bit false = fits_zero

-- ---- Fetched from the words

abbrev Fit : Optional Value → Type 0
Fit none = Unit
Fit (some v) = ValueFits v

get_fit : (h : List ℕ) (x : ℕ) (v : Value) → Fit (get (frames_held h) v x)
unfolding get frame_of F.◌>>=◌
get_fit h x (Value.Int z) = tt
get_fit h x (Value.Text t) = tt
get_fit h x (Value.Code k) = tt
get_fit h x (Value.Frame f) = go (dec_le 256 f) (frame_used h f) refl (slot_from (slots_held h f) x 0) refl
  where
    go : Dec (256 ≤ f) → (b : Bool) → b ≡ frame_used h f → (r : Option ℕ) → r ≡ slot_from (slots_held h f) x 0 → Fit (get (frames_held h) (Value.Frame f) x)
    go (yes le) b eb r er = rw (← (get_past h x (Value.Frame f) f refl le)) tt
    go (no lt) false eb r er = rw (← (get_free h x (Value.Frame f) f refl (omega arith) false eb refl)) tt
    go (no lt) true eb None er = rw (← (get_missing h x (Value.Frame f) f refl (omega arith) true eb refl None er refl)) tt
    go (no lt) true eb (Some i) er =
        rw (← (get_found h x (Value.Frame f) f refl (omega arith) true eb refl (Some i) er i (slot_value_at h f i) refl refl)) (slot_fits h f i)

fetch_fit : (h ns : List ℕ) (v : Value) → ValueFits v → Fit (fetch (frames_held h) v ns)
unfolding fetch F.◌>>=◌
fetch_fit h [] v f = f
fetch_fit h (n ∷ ns) v f = go (get (frames_held h) v n) (get_fit h n v) (λ w g. fetch_fit h ns w g)
  where
    go : (o : Optional Value) → Fit o → ((w : Value) → ValueFits w → Fit (fetch (frames_held h) w ns)) → Fit (F.◌>>=◌ o (λ w. fetch (frames_held h) w ns))
    go none g k = tt
    go (some w) g k = k w g

defined_fit : (o : Optional Value) → Fit o → ValueFits (value_given (defined o))
unfolding value_given defined
defined_fit none f = fits_zero
defined_fit (some v) f = f

module _ (p l h : List ℕ) where
  base_fit : (r : Readers) (e : ExpressionEntry) → ValueFits (value_given (base_value (self_held h) (program_held h) (frames_held h) (base_tree r p e)))
  unfolding value_given base_value base_tree int_of
  base_fit r (ExpressionEntry.Integer w) = fits_int (to_z w32 w) (int_fits w)
  base_fit r (ExpressionEntry.Literal k) = fits_text _
  base_fit r (ExpressionEntry.FromSelf j n) = defined_fit _ (fetch_fit h _ (self_held h) (self_fits h))
  base_fit r (ExpressionEntry.FromProgram j n) = defined_fit _ (fetch_fit h _ (program_held h) (program_fits h))
  base_fit r (ExpressionEntry.Code k) = fits_code k
  base_fit r (ExpressionEntry.Frame d) = fits_zero
  base_fit r (ExpressionEntry.Not a) = fits_zero
  base_fit r (ExpressionEntry.Operate o a b) = fits_zero
  base_fit r ExpressionEntry.Bad = fits_zero

  pub operand_fits : WellFormed p l → (x : ℕ) → x < expressions p → ValueFits (value_given (operand_value p h x))
  unfolding operand_value
  operand_fits w x lt = rw ((one_level_held p l w).base x lt) (base_fit _ (expression_at p x))

-- ---- Made by an operator

pub produce_fits : {c : ℕ} (r : Result Product) → Modest c r → (s : Memories) → ValueFits (produce word_store r s).value
unfolding produce
produce_fits _ an_end s = fits_zero
produce_fits _ (a_number e) s = fits_range _ e
produce_fits _ (a_text one le) s = fits_text _
