-- One law for each way through a jump. Assumes nothing.
use Prim.Native.Nat.{ℕ}
use mathlib.Core.Path.{◌≡◌, refl}
use mathlib.Core.List.{List}
use Rattle.std.specs.Prelude.{Option, Some, None}
use Rattle.framed.specs.declared.Value.{Value}
use Rattle.framed.specs.Machine.{defined}
use Rattle.heap.specs.Words.{set_self, set_position}
use Rattle.paths.specs.Paths.{fetched}
use Rattle.operands.specs.Operands.{operand_value}
use Rattle.places.specs.Places.{first_place}
use Rattle.commit.specs.Commit.{CanJump, Jumps}
use Rattle.commit.proofs.Laws.{jump_none, jump_no_code, jump_second, jump_both}
use Rattle.step_jump.specs.Jump.{jump_end, JumpsOnce}
use Rattle.step_jump.proofs.Ends as ends

module _ (p l h : List ℕ) (a c : ℕ) (can : CanJump p l h a c) (r : Option Value) (er : defined (fetched r) ≡ operand_value p h a) where
  ended : 31 ≡ jump_end p h a c → Jumps p l h a c h → JumpsOnce p l h a c 31 h
  ended e k = record { end = e; jumps = k; kept = λ q. refl }

  pub jump_nothing : r ≡ None → JumpsOnce p l h a c 31 h
  jump_nothing e = ended (ends.jump_undefined p h a c r er e) (jump_none p l h a c can r er e)

  module _ (v : Value) (ev : r ≡ Some v) where
    pub jump_other : ((k : ℕ) → v ≡ Value.Code k → ⊥) → JumpsOnce p l h a c 31 h
    jump_other o = ended (ends.jump_other p h a c r er v ev o) (jump_no_code p l h a c can r er v ev o)

  module _ (k : ℕ) (is : r ≡ Some (Value.Code k)) (q : Option Value) (eq : defined (fetched q) ≡ operand_value p h c) where
    pub jump_no_self : q ≡ None → JumpsOnce p l h a c 31 h
    jump_no_self e =
        ended (ends.jump_code p h a c r er (Value.Code k) is k 31 refl (ends.operand_undefined p h c q eq e))
        (jump_second p l h a c can r er (Value.Code k) is k refl q eq e)

    pub jump_made : (w : Value) (h₁ h₂ : List ℕ) (z : ℕ) → q ≡ Some w → h₁ ≡ set_self h w → h₂ ≡ set_position h₁ z → z ≡ first_place p k
        → JumpsOnce p l h a c 0 h₂
    jump_made w h₁ h₂ z ew e₁ e₂ ez = record {
      end = ends.jump_code p h a c r er (Value.Code k) is k 0 refl (ends.operand_found p h c q eq w ew);
      jumps = jump_both p l h a c can r er (Value.Code k) is k refl q eq w ew h₁ h₂ z e₁ e₂ ez;
      kept = λ s. absurd (s refl);
    }
