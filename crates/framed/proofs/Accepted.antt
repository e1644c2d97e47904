-- A source that load accepts has a program, so the demands may speak of it; its start is the Main.start of its own slots. Assumes nothing.
use mathlib.Core.Path.{◌≡◌, refl, sym, ap, ◌∙◌}
use mathlib.Core.Bool.{Bool, true, false, true≢false}
use mathlib.Core.List.{List, ◌∷◌}
use mathlib.Core.Option.{Option, none, some}
use Prim.Native.Nat.{ℕ, zero, suc, ◌≤◌, ◌<◌}
use native.Mathlib.Omega.{arith}
use lib.Dec.{eqb, leb, ltb, nleb→lt, nltb→le}
use Rattle.framed.specs.Common.{when◌then◌else◌, bytes, count}
use Rattle.framed.specs.Bytes.{class}
use Rattle.framed.specs.Tokens.{Token, tokens, highest_nesting}
use Rattle.framed.specs.Symbols.{number_in, name_table, symbols}
use Rattle.framed.specs.Tree.{Written, Base, Expression, Slots}
use Rattle.framed.specs.Parse.{parse}
use Rattle.framed.specs.Paths.{Path, Place, within_slot, resolve_base, resolve_expression, resolve_slots, program_place}
use Rattle.framed.specs.Meaning.{Lengths, refusal, arguments_refusal, source_refusal, tree_refusal, meaning_refusal, lowest, slot_of, frame_in, code_in, main_start, is_none, pieces, frame_outside}
use Rattle.framed.specs.Program.{Program, program, program_of, started, program_of_tree, program_of_tokens}
use Rattle.framed.specs.Accepted.{SourceFits, AcceptedFits, AcceptedStart}
use Rattle.framed.proofs.General.{is_false}

-- ---- Its program

pub suc≢zero : {n : ℕ} → suc n ≡ 0 → ⊥
suc≢zero e = omega arith

-- where `lowest` is 0, each test failed
pub lowest_rest : (n : ℕ) (b : Bool) (bs : List Bool) → lowest (suc n) (b ∷ bs) ≡ 0 → lowest (suc (suc n)) bs ≡ 0
unfolding lowest
lowest_rest n true bs e = absurd (suc≢zero e)
lowest_rest n false bs e = e

pub lowest_first : (n : ℕ) (b : Bool) (bs : List Bool) → lowest (suc n) (b ∷ bs) ≡ 0 → b ≡ false
unfolding lowest
lowest_first n true bs e = absurd (suc≢zero e)
lowest_first n false bs e = refl

-- a program that fits the source
abbrev Fits : List ℕ → ℕ → Option Program → Type 0
Fits source F o = (p : Program) × (o ≡ some p) × SourceFits source F p

module _ (source : List ℕ) (F : ℕ) (ts : List Token) (list_is : tokens class source ≡ some ts) (nesting : highest_nesting 0 ts ≤ 16) where
  meaning_fits : (ss : Slots Written) → parse (symbols ts) ≡ some ss → meaning_refusal (name_table ts) ss F ≡ 0 →
      Fits source F (started ts (resolve_slots program_place ss) (main_start (name_table ts) ss))
  unfolding meaning_refusal started is_none program_of
  meaning_fits ss tree_is e =
      let e₁₁ = lowest_rest 9 _ _ (lowest_rest 8 _ _ (lowest_rest 7 _ _ (lowest_rest 6 _ _ e))) in
      go (main_start (name_table ts) ss) refl (lowest_first 10 _ _ e₁₁) (below _ _ (lowest_first 11 _ _ (lowest_rest 10 _ _ e₁₁)))
    where
      below : (m n : ℕ) → leb m n ≡ false → n < m
      below m n z = nleb→lt m n (is_false z)

      go : (o : Option ℕ) → main_start (name_table ts) ss ≡ o → is_none o ≡ false → count frame_outside (pieces ss) < F → Fits source F (started ts (resolve_slots program_place ss) o)
      go none q z f = absurd (true≢false z)
      go (some k) q z f = (
        program_of ts (resolve_slots program_place ss) k,
        refl,
        record {
          list = ts;
          tree = ss;
          list_is = list_is;
          tree_is = tree_is;
          nesting = nesting;
          in_place = lowest_first 6 _ _ e;
          start_is = q;
          few_frames = f;
          program_is = refl;
        },
      )

  tree_fits : (o : Option (Slots Written)) → parse (symbols ts) ≡ o → tree_refusal (name_table ts) o F ≡ 0 → Fits source F (program_of_tree ts o)
  unfolding tree_refusal program_of_tree
  tree_fits none q e = absurd (suc≢zero e)
  tree_fits (some ss) q e = meaning_fits ss q e

pub nesting_accepts : (t : Bool) (n : ℕ) → (when t then 5 else n) ≡ 0 → n ≡ 0
nesting_accepts true n e = absurd (suc≢zero e)
nesting_accepts false n e = e

nests : (t : Bool) (n : ℕ) → (when t then 5 else n) ≡ 0 → t ≡ false
nests true n e = absurd (suc≢zero e)
nests false n e = refl

source_fits : (source : List ℕ) (F : ℕ) (o : Option (List Token)) → tokens class source ≡ o → source_refusal o F ≡ 0 → Fits source F (program_of_tokens o)
unfolding source_refusal program_of_tokens
source_fits source F none q e = absurd (suc≢zero e)
source_fits source F (some ts) q e =
    tree_fits source F ts q (nltb→le _ _ (is_false (nests (ltb 16 (highest_nesting 0 ts)) _ e))) (parse (symbols ts)) refl
    (nesting_accepts (ltb 16 (highest_nesting 0 ts)) _ e)

pub accepted_fits : AcceptedFits
unfolding refusal program
accepted_fits m source F T e = go (arguments_refusal m source F T) e
  where
    go : (n : ℕ) → ◌≡◌ {A = ℕ} (elim n [ zero ↦ source_refusal (tokens class source) F | suc k ↦ suc k ]) 0 → Fits source F (program_of_tokens (tokens class source))
    go zero e = source_fits source F (tokens class source) refl e
    go (suc k) e = absurd (suc≢zero e)

pub accepted : (m : Lengths) (source : List ℕ) (F T : ℕ) → refusal m source F T ≡ 0 → (p : Program) × (program source ≡ some p)
accepted m source F T e = let a = accepted_fits m source F T e in (a.0, a.1)

-- ---- Its start: the Main.start of the written tree is that of the resolved one

-- an expression and the same one resolved somewhere, or none
data Same : Option (Expression Written) → Option (Expression Path) → Type 0 where
  nothing : Same none none
  resolved : {e : Expression Written} (place inner : Place) → Same (some e) (some (resolve_expression place inner e))

slot_same : (x : ℕ) (ss : Slots Written) (place : Place) → Same (slot_of x ss) (slot_of x (resolve_slots place ss))
unfolding slot_of resolve_base
slot_same x Slots.no_slots place = Same.nothing
slot_same x (Slots.slot n e ss) place = go (eqb x n) (slot_same x ss place)
  where
    go : (t : Bool) → Same (slot_of x ss) (slot_of x (resolve_slots place ss)) →
        Same (elim t [ true ↦ some e | false ↦ slot_of x ss ]) (elim t [ true ↦ some (resolve_expression place (within_slot n place) e) | false ↦ slot_of x (resolve_slots place ss) ])
    go true r = Same.resolved place (within_slot n place)
    go false r = r

frame_same : (x : ℕ) (o : Option (Expression Written)) (r : Option (Expression Path)) → Same o r → Same (slot_of x (frame_in o)) (slot_of x (frame_in r))
unfolding slot_of frame_in resolve_base
frame_same x _ _ Same.nothing = Same.nothing
frame_same x _ _ (Same.resolved {e = Expression.base b} place inner) = Same.nothing
frame_same x _ _ (Same.resolved {e = Expression.not b} place inner) = Same.nothing
frame_same x _ _ (Same.resolved {e = Expression.operation o a b} place inner) = Same.nothing
frame_same x _ _ (Same.resolved {e = Expression.frame ss} place inner) = slot_same x ss inner

code_same : (o : Option (Expression Written)) (r : Option (Expression Path)) → Same o r → code_in r ≡ code_in o
unfolding code_in resolve_base
code_same _ _ Same.nothing = refl
code_same _ _ (Same.resolved {e = Expression.base (Base.integer z)} place inner) = refl
code_same _ _ (Same.resolved {e = Expression.base (Base.string k)} place inner) = refl
code_same _ _ (Same.resolved {e = Expression.base (Base.path p)} place inner) = refl
code_same _ _ (Same.resolved {e = Expression.base (Base.code k is)} place inner) = refl
code_same _ _ (Same.resolved {e = Expression.not b} place inner) = refl
code_same _ _ (Same.resolved {e = Expression.operation o a b} place inner) = refl
code_same _ _ (Same.resolved {e = Expression.frame ss} place inner) = refl

pub start_resolved : (names : List (List ℕ)) (ss : Slots Written) (place : Place) → main_start names (resolve_slots place ss) ≡ main_start names ss
unfolding main_start
start_resolved names ss place = code_same _ _ (frame_same (number_in names (bytes "start")) _ _ (slot_same (number_in names (bytes "Main")) ss place))

pub accepted_start : AcceptedStart
unfolding program_of
accepted_start source F q s =
    ap (λ (r : Program). main_start r.names r.slots) (sym s.program_is) ∙ of_tree
  where
    of_tree : main_start (program_of s.list (resolve_slots program_place s.tree) q.start).names (program_of s.list (resolve_slots program_place s.tree) q.start).slots ≡ some q.start
    of_tree = start_resolved (name_table s.list) s.tree program_place ∙ s.start_is
