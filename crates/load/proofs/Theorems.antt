-- The theorems of `specs/Theorems.antt`. Assumes nothing.
use mathlib.Core.Path.{◌≡◌, refl, sym, ap, ◌∙◌, subst}
use mathlib.Core.Logic.{◌≢◌}
use mathlib.Core.List.{List}
use mathlib.Core.Option.{some}
use Prim.Native.Nat.{ℕ, zero, suc, ◌≤◌}
use Rattle.framed.specs.declared.LoadAnswer.{LoadAnswer}
use Rattle.framed.specs.Answers.{load_number}
use Rattle.framed.specs.Meaning.{Lengths, refusal}
use Rattle.framed.specs.Refusals.{Holds, h1, h2, h3, h4, h5, h6, h7, h8, h9, h10, h11, h12}
use Rattle.framed.specs.Program.{Program, program}
use Rattle.framed.specs.Machine.{State, start}
use Rattle.framed.specs.Alike.{Alike}
use Rattle.framed.specs.Demands.{Memories, lengths, Loading}
use Rattle.framed.proofs.RefusalLowest.{refusal_lowest}
use Rattle.framed.proofs.Accepted as framed
use Rattle.wellformed.specs.Held.{state_held}
use Rattle.start_held.specs.Starts.{same_numbers}
use Rattle.load.specs.Load.{answer_of, loaded, loading_by, load_call, HoldsStart}
use Rattle.load.specs.Theorems.{LoadExact, LoadWhole, Decodes, LoadDecodes, Starts, LoadStarts}
use Rattle.load.proofs.Laws.{call_loads, holds_start}

-- ---- The answer

-- a number that holds is that of an answer
held_number : (m : Lengths) (source : List ℕ) (F T k : ℕ) → Holds m source F T k → load_number (answer_of k) ≡ k
unfolding answer_of
held_number m source F T _ (h1 a) = refl
held_number m source F T _ (h2 a) = refl
held_number m source F T _ (h3 a) = refl
held_number m source F T _ (h4 a) = refl
held_number m source F T _ (h5 a b) = refl
held_number m source F T _ (h6 a b) = refl
held_number m source F T _ (h7 a b c) = refl
held_number m source F T _ (h8 a b c) = refl
held_number m source F T _ (h9 a b) = refl
held_number m source F T _ (h10 a b c) = refl
held_number m source F T _ (h11 a b) = refl
held_number m source F T _ (h12 a b c) = refl

module _ (m : Memories) (source : List ℕ) (F T : ℕ) where
  abbrev n : ℕ
  n = refusal (lengths m) source F T

  abbrev result : Loading
  result = load_call m source F T

  loads_at : n ≡ 0 → result.answer ≡ LoadAnswer.Loaded
  loads_at z = let p = framed.accepted (lengths m) source F T z in ap (λ (r : Loading). r.answer) (call_loads m source F T p.0 z p.1)

  number_is : load_number result.answer ≡ n
  unfolding load_call loading_by
  number_is = go n refl
    where
      go : (k : ℕ) → n ≡ k → load_number result.answer ≡ n
      go zero e = ap load_number (loads_at e) ∙ sym e
      go (suc k) e = (rw e (held_number (lengths m) source F T (suc k) (refusal_lowest.holds (lengths m) source F T k e))) ∙ sym e

  loaded_none : result.answer ≡ LoadAnswer.Loaded → n ≡ 0
  loaded_none e = sym number_is ∙ ap load_number e

  -- the number of an answer that refuses holds, and is the lowest
  refused_at : result.answer ≢ LoadAnswer.Loaded → (k : ℕ) × (n ≡ suc k)
  refused_at ne = go n refl
    where
      go : (k : ℕ) → n ≡ k → (j : ℕ) × (n ≡ suc j)
      go zero e = absurd (ne (loads_at e))
      go (suc k) e = (k, e)

  same_memories : (k : ℕ) → n ≡ suc k → result.memories ≡ m
  unfolding load_call loading_by
  same_memories k e = rw e

  pub load_exact : LoadExact m source F T
  load_exact = record {
    number = number_is;
    done = ((λ e. (refusal_lowest.loads (lengths m) source F T).0 (loaded_none e)), (λ e. loads_at ((refusal_lowest.loads (lengths m) source F T).1 e)));
    that_holds = λ ne. let r = refused_at ne in subst (Holds (lengths m) source F T) (sym (number_is ∙ r.1)) (refusal_lowest.holds (lengths m) source F T r.0 r.1);
    lowest = λ ne k h. let r = refused_at ne in subst (λ (j : ℕ). j ≤ k) (sym (number_is ∙ r.1)) (refusal_lowest.lowest (lengths m) source F T r.0 k r.1 h);
    unchanged = λ ne. let r = refused_at ne in same_memories r.0 r.1;
  }

-- ---- The memories

-- a state that is the start of a program under the same numbers
abbrev StartedAs : Program → State → Type 0
StartedAs r s = (a : Alike (start r) s) × (a.renaming ≡ same_numbers)

module _ (m : Memories) (source : List ℕ) (F T : ℕ) (z : refusal (lengths m) source F T ≡ 0) where
  abbrev q : Program
  q = (framed.accepted (lengths m) source F T z).0

  its_program : program source ≡ some q
  its_program = (framed.accepted (lengths m) source F T z).1

  memories_are : (load_call m source F T).memories ≡ loaded q F T
  memories_are = ap (λ (r : Loading). r.memories) (call_loads m source F T q z its_program)

  held : HoldsStart q F T (load_call m source F T).memories
  held = subst (λ (x : Memories). HoldsStart q F T x) (sym memories_are) (holds_start m source F T q z its_program)

  decodes : Decodes source F T (load_call m source F T).memories
  decodes = record { program_is = its_program ∙ ap some (sym held.program_is); F_is = held.F_is; T_is = held.T_is }

  starts : Starts (load_call m source F T).memories
  starts =
      let x = (load_call m source F T).memories in
      let a = subst (λ (r : Program). StartedAs r (state_held x.program x.heap x.text)) (sym held.program_is) (held.at_start, held.no_renaming) in
      record { alike = a.0; no_renaming = a.1 }

pub load_whole : LoadWhole
load_whole m source F T z = (held m source F T z).well_formed

pub load_decodes : LoadDecodes
load_decodes m source F T z = decodes m source F T z

pub load_starts : LoadStarts
load_starts m source F T z = starts m source F T z
