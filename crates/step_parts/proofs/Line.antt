-- The line of an instruction, and what there being space for it, or not, says. Assumes nothing.
use Prim.Native.Nat.{ℕ, ◌-◌, ◌<◌}
use mathlib.Core.Path.{◌≡◌, refl, ◌∙◌, ap, sym}
use mathlib.Core.List.{List, []}
use mathlib.Core.Bool.{Bool, true, false}
use native.Mathlib.Omega.{arith}
use lib.Dec.{leb}
use lib.ListN.{length}
use borrow.Author.Tests.{le-leb}
use Rattle.words.specs.Words.{pick}
use Rattle.framed.specs.declared.Value.{Value}
use Rattle.framed.specs.Values.{Heap}
use Rattle.tables.specs.declared.InstructionEntry.{InstructionEntry}
use Rattle.tables.specs.Entries.{instruction_at}
use Rattle.trees.proofs.Held.{assign_self_held, assign_program_held, show_held, jump_held, ifeq_held}
use Rattle.heap.specs.Held.{texts_held, heap_held}
use Rattle.texts.specs.Literals.{literals_held}
use Rattle.splice.specs.Splice.{splice}
use Rattle.line.specs.Line.{line_bytes, line_answer, line_output, WritesLine}
use Rattle.line.proofs.Laws.{line_some}
use Rattle.operands.specs.Operands.{operand_value}
use Rattle.bounded.specs.Bounded.{value_given, heap_in, line}
use Rattle.word_store.specs.Store.{word_store}
use Rattle.word_store.specs.State.{store_held, state_held}
use Rattle.evaluation.proofs.Stores.{heap_is, frames_are}
use Rattle.operands.proofs.Literals.{same_literals}
use Rattle.step_parts.specs.declared.Shown.{Shown}
use Rattle.step_parts.specs.Step.{line_held, CanShow, show_line, Showing, showing, Shows}

-- a line that is written or not: 0 where it is not, since it is not empty
module _ (bs out : List ℕ) (used n : ℕ) (out' : List ℕ) (w : WritesLine bs out used n out') where
  not_fitting : 0 < length bs → n ≡ 0 → show_line bs out used ≡ showing Shown.TooLong out'
  unfolding show_line line_answer line_output
  not_fitting some z = go (leb (length bs) (length out - used)) w.answer w.output
    where
      go : (b : Bool) → n ≡ pick b (length bs) 0 → out' ≡ pick b (splice out used bs) out →
          pick b (showing (Shown.Written (length bs)) (splice out used bs)) (showing Shown.TooLong out) ≡ showing Shown.TooLong out'
      go true a o = absurd (omega arith)
      go false a o = rw o

  fitting : (n ≡ 0 → ⊥) → show_line bs out used ≡ showing (Shown.Written n) out'
  unfolding show_line line_answer line_output
  fitting nz = go (leb (length bs) (length out - used)) w.answer w.output
    where
      go : (b : Bool) → n ≡ pick b (length bs) 0 → out' ≡ pick b (splice out used bs) out →
          pick b (showing (Shown.Written (length bs)) (splice out used bs)) (showing Shown.TooLong out) ≡ showing (Shown.Written n) out'
      go true a o = rw (a, o)
      go false a o = absurd (nz a)

module _ (p l h t : List ℕ) (i : ℕ) (out : List ℕ) (used : ℕ) (can : CanShow p l h t i out used) (e : InstructionEntry) (ee : e ≡ instruction_at p i) where
  -- no line
  none : (e : InstructionEntry) → instruction_at p i ≡ e → ((k : ℕ) → e ≡ InstructionEntry.Show k → ⊥) → line_held p l h t i ≡ []
  unfolding line_held line
  none (InstructionEntry.AssignSelf j n x) q k = rw (assign_self_held p l can.program i can.there j n x q)
  none (InstructionEntry.AssignProgram j n x) q k = rw (assign_program_held p l can.program i can.there j n x q)
  none (InstructionEntry.Show a) q k = absurd (k a refl)
  none (InstructionEntry.Jump a c) q k = rw (jump_held p l can.program i can.there a c q)
  none (InstructionEntry.Ifeq a c d) q k = rw (ifeq_held p l can.program i can.there a c d q)
  none InstructionEntry.Bad q k = absurd ((can.program.entries.instruction i can.there).formed q)

  pub show_none : ((k : ℕ) → e ≡ InstructionEntry.Show k → ⊥) → Shows p l h t i out used (Shown.Written 0) out
  unfolding show_line splice
  show_none o = record { exact = rw (none e (sym ee) o, le-leb 0 (length out - used) (omega arith)) }

  -- that of a show
  module _ (a : ℕ) (is : e ≡ InstructionEntry.Show a) (v : Value) (ev : v ≡ value_given (operand_value p h a)) (n : ℕ) (out' : List ℕ)
      (w : WritesLine (line_bytes (literals_held p l) (texts_held h t) v) out used n out') where
    texts_are : (heap_in word_store (store_held h t)).texts ≡ texts_held h t
    unfolding heap_held
    texts_are = ap (λ (H : Heap). H.texts) (heap_is h t)

    is_line : line_held p l h t i ≡ line_bytes (literals_held p l) (texts_held h t) v
    unfolding line_held line state_held line_bytes operand_value
    is_line = rw (show_held p l can.program i can.there a (sym ee ∙ is), same_literals p l, texts_are, frames_are h t, ev)

    pub show_too_long : n ≡ 0 → Shows p l h t i out used Shown.TooLong out'
    show_too_long z = record { exact = rw is_line (not_fitting (line_bytes (literals_held p l) (texts_held h t) v) out used n out' w (line_some (literals_held p l) (texts_held h t) v) z) }

    pub show_written : (n ≡ 0 → ⊥) → Shows p l h t i out used (Shown.Written n) out'
    show_written nz = record { exact = rw is_line (fitting (line_bytes (literals_held p l) (texts_held h t) v) out used n out' w nz) }

-- ---- Back from the answer

module _ (bs out : List ℕ) (used : ℕ) (out' : List ℕ) where
  pub record Longer : Type 0 where
    pub test : leb (length bs) (length out - used) ≡ false
    pub output : out' ≡ out

  pub record Written (n : ℕ) : Type 0 where
    pub test : leb (length bs) (length out - used) ≡ true
    pub size : n ≡ length bs
    pub output : out' ≡ splice out used bs

  pub too_long : show_line bs out used ≡ showing Shown.TooLong out' → Longer
  unfolding show_line
  too_long = go (leb (length bs) (length out - used)) refl
    where
      go : (b : Bool) → leb (length bs) (length out - used) ≡ b →
          pick b (showing (Shown.Written (length bs)) (splice out used bs)) (showing Shown.TooLong out) ≡ showing Shown.TooLong out' → Longer
      go true q e = absurd (let a : Shown.Written (length bs) ≡ Shown.TooLong = ap (λ (x : Showing). x.answer) e in let z : ◌≡◌ {A = ℕ} 0 1 = cc in omega arith)
      go false q e = record { test = q; output = sym (ap (λ (x : Showing). x.output) e) }

  pub written : (n : ℕ) → show_line bs out used ≡ showing (Shown.Written n) out' → Written n
  unfolding show_line
  written n = go (leb (length bs) (length out - used)) refl
    where
      go : (b : Bool) → leb (length bs) (length out - used) ≡ b →
          pick b (showing (Shown.Written (length bs)) (splice out used bs)) (showing Shown.TooLong out) ≡ showing (Shown.Written n) out' → Written n
      go true q e = record {
        test = q;
        size = let a : Shown.Written (length bs) ≡ Shown.Written n = ap (λ (x : Showing). x.answer) e in cc;
        output = sym (ap (λ (x : Showing). x.output) e);
      }
      go false q e = absurd (let a : Shown.TooLong ≡ Shown.Written n = ap (λ (x : Showing). x.answer) e in let z : ◌≡◌ {A = ℕ} 0 1 = cc in omega arith)
