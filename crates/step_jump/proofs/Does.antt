-- What each way through a jump and an `ifeq` gives. Assumes nothing.
use Prim.Native.Nat.{ℕ, ◌<◌}
use mathlib.Core.Path.{◌≡◌, refl, ◌∙◌, sym}
use mathlib.Core.Bool.{Bool, true, false}
use mathlib.Core.List.{List}
use native.Mathlib.Omega.{arith}
use Rattle.std.specs.Prelude.{Option, Some, None, Result, Ok, Err}
use Rattle.framed.specs.declared.End.{End}
use Rattle.framed.specs.declared.Value.{Value}
use Rattle.framed.specs.Answers.{end_number, end_met as met}
use Rattle.paths.proofs.Exits.{end_positive}
use Rattle.framed.specs.Values.{truth}
use Rattle.framed.specs.Machine.{defined}
use Rattle.tables.specs.declared.InstructionEntry.{InstructionEntry}
use Rattle.tables.specs.Entries.{instruction_at}
use Rattle.tables.specs.Fields.{instructions, instruction_after}
use Rattle.heap.specs.Words.{set_position}
use Rattle.paths.specs.Paths.{fetched}
use Rattle.operands.specs.Operands.{operand_value}
use Rattle.producing.proofs.Laws.{given_some}
use Rattle.commit.specs.Commit.{CanJump, Jumps, Commits}
use Rattle.commit.specs.declared.Done.{Done}
use Rattle.commit.specs.Direct.{CanDo, CanDoEntry, MakesNothing, end_met, Does}
use Rattle.commit.proofs.Laws.{commit_can_jump, commit_jumps, commit_can_ifeq, commit_ifeq_on, commit_ifeq_jumps}
use Rattle.commit.proofs.Direct.{made, ended, formed, writable, checks}
use Rattle.step_jump.specs.Jump.{jump_end, JumpsOnce}
use Rattle.step_jump.proofs.Ends.{check_jump, ifeq_undefined, ifeq_on, ifeq_jump}
use Rattle.step_jump.proofs.Making.{jump_nothing, ifeq_nothing}

module _ (p l h t : List ℕ) (i : ℕ) (nothing : MakesNothing p i) (quiet : (a : ℕ) → instruction_at p i ≡ InstructionEntry.Show a → ⊥) where
  -- an instruction that jumps by the expressions a and c
  module _ (a c : ℕ) (checked : (r : ℕ) → r ≡ jump_end p h a c → r ≡ end_met p l h t i) (h' : List ℕ) where
    does_jump : JumpsOnce p l h a c 0 h' → (Jumps p l h a c h' → Commits p l h t i h' t) → Does p l h t i (Ok Done.Made) h'
    does_jump k commit = made p l h t i h' (record { nothing = nothing; end = checked 0 k.end; no_show = quiet; commits = commit k.jumps })

    ends_jump : (e : End) → JumpsOnce p l h a c (end_number e) h' → Does p l h t i (Err e) h'
    ends_jump e k = ended p l h t i e h' (record { nothing = nothing; end = checked (end_number e) k.end; some = end_positive e; words = k.kept (end_positive e) })

-- the jump instruction
module _ (p l h t : List ℕ) (i : ℕ) (can : CanDo p l h t i) (e : InstructionEntry) (ee : e ≡ instruction_at p i) (a c : ℕ) (is : e ≡ InstructionEntry.Jump a c) where
  jump_entry : InstructionEntry.Jump a c ≡ instruction_at p i
  jump_entry = sym is ∙ ee

  pub can_jump : CanJump p l h a c
  can_jump = commit_can_jump p l h t i (writable p l h t i can) can.there can.next a c jump_entry

  module _ {A : Type 0} (r : Result A End) (h' : List ℕ) (k : JumpsOnce p l h a c (met r) h') where
    pub jump_does : (u : A) → r ≡ Ok u → Does p l h t i (Ok Done.Made) h'
    jump_does u done =
        does_jump p l h t i (jump_nothing p l (formed p l h t i can).program i can.there a c jump_entry) (λ b s. let y : ◌≡◌ {A = ℕ} 0 1 = cc in omega arith) a c
        (λ d ed. check_jump p l h t i (checks p l h t i can) can.there a c d jump_entry ed) h' (rw done at k)
        (λ j. commit_jumps p l h t i (writable p l h t i can) can.there can.next a c jump_entry h' j)

    pub jump_ends : (e : End) → r ≡ Err e → Does p l h t i (Err e) h'
    jump_ends e met_one =
        ends_jump p l h t i (jump_nothing p l (formed p l h t i can).program i can.there a c jump_entry) (λ b s. let y : ◌≡◌ {A = ℕ} 0 1 = cc in omega arith) a c
        (λ d ed. check_jump p l h t i (checks p l h t i can) can.there a c d jump_entry ed) h' e (rw met_one at k)

-- ---- branch

module _ (p l h t : List ℕ) (i a c d : ℕ) (can : CanDoEntry p l h t i (InstructionEntry.Ifeq a c d)) where
  abbrev there : i < instructions p
  there = can.can.there

  nothing_made : MakesNothing p i
  nothing_made = ifeq_nothing p l (formed p l h t i can.can).program i there a c d can.entry

  quiet : (b : ℕ) → instruction_at p i ≡ InstructionEntry.Show b → ⊥
  quiet b s = let q = can.entry in let y : ◌≡◌ {A = ℕ} 0 1 = cc in omega arith

  module _ (r : Option Value) (er : defined (fetched r) ≡ operand_value p h a) where
    pub branch_undefined : r ≡ None → Does p l h t i (Err End.NoRule) h
    branch_undefined e = ended p l h t i End.NoRule h (record {
      nothing = nothing_made;
      end = ifeq_undefined p l h t i (checks p l h t i can.can) there a c d can.entry r er e;
      some = λ z. omega arith;
      words = refl;
    })

    module _ (v : Value) (ev : r ≡ Some v) (b : Bool) (eb : b ≡ truth v) where
      pub branch_on : b ≡ true → (h' : List ℕ) → h' ≡ set_position h (instruction_after p i) → Does p l h t i (Ok Done.Made) h'
      branch_on q h' eh = made p l h t i h' (record {
        nothing = nothing_made;
        end = ifeq_on p l h t i (checks p l h t i can.can) there a c d can.entry r er v ev b eb q;
        no_show = quiet;
        commits = commit_ifeq_on p l h t i (writable p l h t i can.can) there can.can.next a c d can.entry v (given_some p h a r er v ev) b eb q h' eh;
      })

      pub branch_can : CanJump p l h c d
      branch_can = commit_can_ifeq p l h t i (writable p l h t i can.can) there can.can.next a c d can.entry

      module _ (q : b ≡ false) {A : Type 0} (g : Result A End) (h' : List ℕ) (k : JumpsOnce p l h c d (met g) h') where
        pub branch_jumps : (u : A) → g ≡ Ok u → Does p l h t i (Ok Done.Made) h'
        branch_jumps u done =
            does_jump p l h t i nothing_made quiet c d (ifeq_jump p l h t i (checks p l h t i can.can) there a c d can.entry r er v ev b eb q) h' (rw done at k)
            (λ j. commit_ifeq_jumps p l h t i (writable p l h t i can.can) there can.can.next a c d can.entry v (given_some p h a r er v ev) b eb q h' j)

        pub branch_ends : (e : End) → g ≡ Err e → Does p l h t i (Err e) h'
        branch_ends e met_one =
            ends_jump p l h t i nothing_made quiet c d (ifeq_jump p l h t i (checks p l h t i can.can) there a c d can.entry r er v ev b eb q) h' e (rw met_one at k)
