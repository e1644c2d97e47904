-- A tree as it is written again has the same resolved paths and the same Main.start. Assumes nothing.
use mathlib.Core.Path.{◌≡◌, refl, sym, ap, ◌∙◌}
use Rattle.framed.specs.Tree.{Written, Base, Expression, Slots, Instruction, Code, ◌then◌}
use Rattle.framed.specs.Paths.{Place, within_slot, within_code, resolve_path, resolve_base, resolve_expression, resolve_slots, resolve_instruction, resolve_code, program_place}
use Rattle.framed.specs.Meaning.{main_start}
use Rattle.framed.proofs.Accepted.{start_resolved}
use Rattle.framed.proofs.PathWritten.{path_written}
use Rattle.write_paths.specs.Rewriting.{rewritten_path, rewritten_base, rewritten_expression, rewritten_slots, rewritten_instruction, rewritten_code}
use Rattle.write_paths.specs.Theorems.{SameResolved, SameStart}

-- ---- Resolved paths

pub path_resolved : (place : Place) (w : Written) → resolve_path place (rewritten_path place w) ≡ resolve_path place w
path_resolved place w = path_written.same_path place (resolve_path place w)

mutual
  unfolding resolve_base rewritten_base

  base_resolved : (place : Place) (b : Base Written) → resolve_base place (rewritten_base place b) ≡ resolve_base place b
  base_resolved place (Base.integer z) = refl
  base_resolved place (Base.string k) = refl
  base_resolved place (Base.path w) = rw (path_resolved place w)
  base_resolved place (Base.code k is) = rw (code_resolved (within_code place) is)

  expression_resolved : (place inner : Place) (e : Expression Written) →
      resolve_expression place inner (rewritten_expression place inner e) ≡ resolve_expression place inner e
  expression_resolved place inner (Expression.base b) = rw (base_resolved place b)
  expression_resolved place inner (Expression.not b) = rw (base_resolved place b)
  expression_resolved place inner (Expression.operation o a b) = rw (base_resolved place a, base_resolved place b)
  expression_resolved place inner (Expression.frame ss) = rw (slots_resolved inner ss)

  slots_resolved : (place : Place) (ss : Slots Written) → resolve_slots place (rewritten_slots place ss) ≡ resolve_slots place ss
  slots_resolved place Slots.no_slots = refl
  slots_resolved place (Slots.slot n e ss) = rw (expression_resolved place (within_slot n place) e, slots_resolved place ss)

  instruction_resolved : (place : Place) (i : Instruction Written) → resolve_instruction place (rewritten_instruction place i) ≡ resolve_instruction place i
  instruction_resolved place (Instruction.assign w e) = rw (path_resolved place w, expression_resolved place place e)
  instruction_resolved place (Instruction.show a) = rw (base_resolved place a)
  instruction_resolved place (Instruction.jump a b) = rw (base_resolved place a, base_resolved place b)
  instruction_resolved place (Instruction.ifeq a b c) = rw (base_resolved place a, base_resolved place b, base_resolved place c)

  code_resolved : (place : Place) (is : Code Written) → resolve_code place (rewritten_code place is) ≡ resolve_code place is
  code_resolved place Code.finished = refl
  code_resolved place (i then is) = rw (instruction_resolved place i, code_resolved place is)

pub same_resolved : SameResolved
same_resolved ss = slots_resolved program_place ss

pub same_start : SameStart
same_start names ss =
    sym (start_resolved names (rewritten_slots program_place ss) program_place) ∙ ap (main_start names) (same_resolved ss) ∙ start_resolved names ss program_place
