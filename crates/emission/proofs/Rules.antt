-- The rules of emission hold. Assumes nothing.
use mathlib.Core.Path.{◌≡◌, refl, sym, subst}
use mathlib.Core.List.{List}
use Prim.Native.Nat.{ℕ, ◌≤◌}
use native.Mathlib.Omega.{arith}
use Rattle.shapes.specs.Numbers.{Numbers, ◌⊕◌}
use Rattle.emission.specs.Emit.{Emitting, emitting}
use Rattle.emission.specs.Frame.{Range, Part, InstructionPart, Writes}
use Rattle.emission.specs.Rules.{Emitted, Rules}
use Rattle.emission.proofs.Counted.{base_emitted, expression_emitted, slots_emitted, instruction_emitted, code_emitted}
use Rattle.emission.proofs.Framed.{base_writes, expression_writes, slots_writes, instruction_writes, code_writes}

-- a set of words from 2,368 on
record High (P : ℕ → Type 0) : Type 0 where
  high : (k : ℕ) → P k → 2368 ≤ k

range_high : (s t : Numbers) → High (Range s t)
range_high s t = record { high = high }
  where
    high : (k : ℕ) → Range s t k → 2368 ≤ k
    high k (Range.expression a b) = omega arith
    high k (Range.instruction a b) = omega arith
    high k (Range.path_name a b) = omega arith
    high k (Range.code a b) = omega arith

part_high : (x : ℕ) (s t : Numbers) → High (Part x s t)
part_high x s t = record { high = high }
  where
    high : (k : ℕ) → Part x s t k → 2368 ≤ k
    high k (Part.entry a b) = omega arith
    high k (Part.inner r) = (range_high s t).high k r

instruction_high : (i : ℕ) (s t : Numbers) → High (InstructionPart i s t)
instruction_high i s t = record { high = high }
  where
    high : (k : ℕ) → InstructionPart i s t k → 2368 ≤ k
    high k (InstructionPart.entry a b) = omega arith
    high k (InstructionPart.inner r) = (range_high s t).high k r

emitted : (t u : Emitting) (size : Numbers) (P : Numbers → Numbers → ℕ → Type 0) (w : List ℕ) → High (P t.next (t.next ⊕ size)) →
    u ≡ emitting w (t.next ⊕ size) → Writes (P t.next (t.next ⊕ size)) t.words w → Emitted t u size P
emitted t u size P w g e h =
    subst (λ (v : Emitting). Emitted t v size P) (sym e)
    (record {
      numbers = refl;
      grows = omega arith;
      touches = h;
      keeps = λ k lt. h.away k (λ q. let l : 2368 ≤ k = g.high k q in omega arith);
    })

pub rules : Rules
rules =
    record {
      base = λ N S b x t h. emitted t _ _ (Part x) _ (part_high x _ _) (base_emitted b x t.next t.words) (base_writes N S b x t.next t.words h);
      expression = λ N S e x t h. emitted t _ _ (Part x) _ (part_high x _ _) (expression_emitted e x t.next t.words) (expression_writes N S e x t.next t.words h);
      slots = λ N S ss t h. emitted t _ _ Range _ (range_high _ _) (slots_emitted ss t.next t.words) (slots_writes N S ss t.next t.words h);
      instruction = λ N S o i t h.
          emitted t _ _ (InstructionPart i) _ (instruction_high i _ _) (instruction_emitted o i t.next t.words) (instruction_writes N S o i t.next t.words h);
      code = λ N S is t h. emitted t _ _ Range _ (range_high _ _) (code_emitted is t.next t.words) (code_writes N S is t.next t.words h);
    }
