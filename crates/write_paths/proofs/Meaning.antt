-- None of 7 to 12 holds of a tree as it is written again, where none holds of the tree. Assumes nothing.
use mathlib.Core.Path.{◌≡◌, refl, ap}
use mathlib.Core.Bool.{Bool, true, false}
use mathlib.Core.List.{List, [], ◌∷◌, ◌++◌, map, map-append}
use Prim.Native.Nat.{ℕ, suc}
use Rattle.framed.specs.Common.{any, count, total}
use Rattle.framed.specs.Tree.{Written, Base, Expression, Slots, Instruction, Code, ◌then◌}
use Rattle.framed.specs.Paths.{Place, within_slot, within_code, resolve_path, program_place}
use Rattle.framed.specs.Meaning.{Kind, Piece, slot_names, base_pieces, expression_pieces, slots_pieces, instruction_pieces, code_pieces, pieces}
use Rattle.framed.specs.Meaning.{misplaced, bad_frame, is_one, path_names, above_limit, too_far_up, frame_outside, meaning_refusal}
use Rattle.framed.proofs.Accepted.{lowest_first, lowest_rest}
use Rattle.framed.proofs.PathWritten.{path_written}
use Rattle.write_paths.specs.Rewriting.{rewritten_path, rewritten_base, rewritten_expression, rewritten_slots, rewritten_instruction, rewritten_code}
use Rattle.write_paths.specs.Theorems.{SameMeaning}
use Rattle.write_paths.proofs.Resolved.{path_resolved, same_start}

-- ---- Tests and counts over a list whose elements are replaced

module _ {A : Type 0} (f : A → A) where
  any_map : (test : A → Bool) → ((x : A) → test (f x) ≡ test x) → (xs : List A) → any test (map f xs) ≡ any test xs
  unfolding any
  any_map test h [] = refl
  any_map test h (x ∷ xs) = rw (h x, any_map test h xs)

  none_map : (test : A → Bool) → ((x : A) → test (f x) ≡ false) → (xs : List A) → any test (map f xs) ≡ false
  unfolding any
  none_map test h [] = refl
  none_map test h (x ∷ xs) = rw (h x, none_map test h xs)

  count_map : (test : A → Bool) → ((x : A) → test (f x) ≡ test x) → (xs : List A) → count test (map f xs) ≡ count test xs
  unfolding count
  count_map test h [] = refl
  count_map test h (x ∷ xs) = rw (h x, count) (ap {B = ℕ} (λ n. elim (test x) [ true ↦ suc n | false ↦ n ]) (count_map test h xs))

  total_map : (weight : A → ℕ) → ((x : A) → weight (f x) ≡ weight x) → (xs : List A) → total weight (map f xs) ≡ total weight xs
  unfolding total
  total_map weight h [] = refl
  total_map weight h (x ∷ xs) = rw (h x, total_map weight h xs)

-- ---- The pieces of the tree, its paths replaced

unfoldable again : Piece → Piece
again (Piece.frame place ns) = Piece.frame place ns
again (Piece.path place w) = Piece.path place (rewritten_path place w)
again (Piece.operator place) = Piece.operator place
again (Piece.one kind) = Piece.one kind

names_again : (place : Place) (ss : Slots Written) → slot_names (rewritten_slots place ss) ≡ slot_names ss
unfolding slot_names rewritten_base
names_again place Slots.no_slots = refl
names_again place (Slots.slot n e ss) = ap (λ (l : List ℕ). n ∷ l) (names_again place ss)

mutual
  unfolding base_pieces rewritten_base again

  base_again : (place : Place) (b : Base Written) → base_pieces place (rewritten_base place b) ≡ map again (base_pieces place b)
  base_again place (Base.integer z) = refl
  base_again place (Base.string k) = refl
  base_again place (Base.path w) = refl
  base_again place (Base.code k is) = rw (code_again (within_code place) is)

  expression_again : (place inner : Place) (e : Expression Written) →
      expression_pieces place inner (rewritten_expression place inner e) ≡ map again (expression_pieces place inner e)
  expression_again place inner (Expression.base b) = base_again place b
  expression_again place inner (Expression.not b) = rw (base_again place b)
  expression_again place inner (Expression.operation o a b) =
      rw (map-append again (base_pieces place a) (Piece.one Kind.expression ∷ base_pieces place b), base_again place a, base_again place b)
  expression_again place inner (Expression.frame ss) = rw (names_again inner ss, slots_again inner ss)

  slots_again : (place : Place) (ss : Slots Written) → slots_pieces place (rewritten_slots place ss) ≡ map again (slots_pieces place ss)
  slots_again place Slots.no_slots = refl
  slots_again place (Slots.slot n e ss) =
      rw (map-append again (expression_pieces place (within_slot n place) e) (slots_pieces place ss), expression_again place (within_slot n place) e, slots_again place ss)

  instruction_again : (place : Place) (i : Instruction Written) → instruction_pieces place (rewritten_instruction place i) ≡ map again (instruction_pieces place i)
  instruction_again place (Instruction.assign w e) = rw (expression_again place place e)
  instruction_again place (Instruction.show a) = rw (base_again place a)
  instruction_again place (Instruction.jump a b) =
      rw (map-append again (base_pieces place a) (Piece.one Kind.expression ∷ base_pieces place b), base_again place a, base_again place b)
  instruction_again place (Instruction.ifeq a b c) =
      rw (
        map-append again (base_pieces place a ++ (Piece.one Kind.expression ∷ base_pieces place b)) (Piece.one Kind.expression ∷ base_pieces place c),
        map-append again (base_pieces place a) (Piece.one Kind.expression ∷ base_pieces place b),
        base_again place a,
        base_again place b,
        base_again place c,
      )

  code_again : (place : Place) (is : Code Written) → code_pieces place (rewritten_code place is) ≡ map again (code_pieces place is)
  code_again place Code.finished = refl
  code_again place (i then is) =
      rw (map-append again (instruction_pieces place i) (code_pieces place is), instruction_again place i, code_again place is)

pieces_again : (ss : Slots Written) → pieces (rewritten_slots program_place ss) ≡ map again (pieces ss)
unfolding pieces again
pieces_again ss = rw (names_again program_place ss, slots_again program_place ss)

-- ---- What is tested and counted

misplaced_again : (x : Piece) → misplaced (again x) ≡ misplaced x
unfolding misplaced again
misplaced_again (Piece.frame place ns) = refl
misplaced_again (Piece.path place w) = refl
misplaced_again (Piece.operator place) = refl
misplaced_again (Piece.one kind) = refl

bad_again : (x : Piece) → bad_frame (again x) ≡ bad_frame x
unfolding bad_frame again
bad_again (Piece.frame place ns) = refl
bad_again (Piece.path place w) = refl
bad_again (Piece.operator place) = refl
bad_again (Piece.one kind) = refl

one_again : (k : Kind) (x : Piece) → is_one k (again x) ≡ is_one k x
unfolding is_one again
one_again k (Piece.frame place ns) = refl
one_again k (Piece.path place w) = refl
one_again k (Piece.operator place) = refl
one_again k (Piece.one kind) = refl

path_again : (x : Piece) → path_names (again x) ≡ path_names x
unfolding path_names again
path_again (Piece.frame place ns) = refl
path_again (Piece.path place w) = rw (path_resolved place w)
path_again (Piece.operator place) = refl
path_again (Piece.one kind) = refl

not_far_up : (x : Piece) → too_far_up (again x) ≡ false
unfolding too_far_up again
not_far_up (Piece.frame place ns) = refl
not_far_up (Piece.path place w) = path_written.not_above place (resolve_path place w)
not_far_up (Piece.operator place) = refl
not_far_up (Piece.one kind) = refl

outside_again : (x : Piece) → frame_outside (again x) ≡ frame_outside x
unfolding frame_outside again
outside_again (Piece.frame place ns) = refl
outside_again (Piece.path place w) = refl
outside_again (Piece.operator place) = refl
outside_again (Piece.one kind) = refl

limit_again : (names : List (List ℕ)) (ps : List Piece) → above_limit names (map again ps) ≡ above_limit names ps
unfolding above_limit
limit_again names ps =
    rw (
      count_map again _ (one_again Kind.instruction) ps,
      count_map again _ (one_again Kind.string) ps,
      count_map again _ (one_again Kind.code) ps,
      count_map again _ (one_again Kind.expression) ps,
      total_map again path_names path_again ps,
    )

-- ---- 7 to 12

pub same_meaning : SameMeaning
unfolding meaning_refusal
same_meaning names ss F e =
    rw (
      pieces_again ss,
      any_map again misplaced misplaced_again (pieces ss),
      any_map again bad_frame bad_again (pieces ss),
      limit_again names (pieces ss),
      none_map again too_far_up not_far_up (pieces ss),
      same_start names ss,
      count_map again frame_outside outside_again (pieces ss),
      ← lowest_first 9 _ _ (lowest_rest 8 _ _ (lowest_rest 7 _ _ (lowest_rest 6 _ _ e))),
    ) e
