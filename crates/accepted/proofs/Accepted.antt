-- A source that no number refuses, through the definitions of the numbers. Assumes nothing.
use mathlib.Core.Path.{◌≡◌, refl, sym, subst, ◌∙◌}
use mathlib.Core.List.{List}
use Prim.Native.Nat.{ℕ, zero, suc}
use lib.Dec.{eqb, leb}
use lib.ListN.{length}
use borrow.Author.Tests.{eqb-true, leb-true, ltb-false, not-false}
use Rattle.framed.specs.Common.{between}
use Rattle.framed.specs.Bytes.{class}
use Rattle.framed.specs.Tokens.{tokens}
use Rattle.framed.specs.Meaning.{Lengths, refusal, right_lengths, arguments_refusal, source_refusal}
use Rattle.framed.specs.Accepted.{SourceFits}
use Rattle.framed.proofs.General.{some_inj}
use Rattle.framed.proofs.Accepted.{suc≢zero, lowest_first, lowest_rest, accepted_fits}
use Rattle.tables.proofs.Bools.{split2, split4}
use Rattle.accepted.specs.Accepted.{ArgumentsFit, AcceptedSources}

-- ---- 1 to 3

arguments_fit : (m : Lengths) (source : List ℕ) (F T : ℕ) → arguments_refusal m source F T ≡ 0 → ArgumentsFit m source F T
unfolding arguments_refusal right_lengths
arguments_fit m source F T e =
    let s = split4 (eqb m.program 16384) (eqb m.heap 16384) (eqb m.literal 8192) (eqb m.text 16384) (not-false _ (lowest_first 0 _ _ e)) in
    let h = split2 (between 3 256 F) (leb T 256) (not-false _ (lowest_first 1 _ _ (lowest_rest 0 _ _ e))) in
    let f = split2 (leb 3 F) (leb F 256) h.0 in
    record {
      program_size = eqb-true _ _ s.0;
      heap_size = eqb-true _ _ s.1;
      literal_size = eqb-true _ _ s.2;
      text_size = eqb-true _ _ s.3;
      F_least = leb-true 3 F f.0;
      F_most = leb-true F 256 f.1;
      T_most = leb-true T 256 h.1;
      short = ltb-false 16384 (length source) (lowest_first 2 _ _ (lowest_rest 1 _ _ (lowest_rest 0 _ _ e)));
    }

-- ---- With 4 to 12

pub accepted_sources : AcceptedSources
unfolding refusal
accepted_sources m source F T q e s =
    let a = accepted_fits m source F T e in
    record { arguments = go (arguments_refusal m source F T) refl e; source_fits = subst (SourceFits source F) (some_inj (sym a.1 ∙ s)) a.2 }
  where
    go : (n : ℕ) → arguments_refusal m source F T ≡ n → ◌≡◌ {A = ℕ} (elim n [ zero ↦ source_refusal (tokens class source) F | suc k ↦ suc k ]) 0 → ArgumentsFit m source F T
    go zero p z = arguments_fit m source F T p
    go (suc k) p z = absurd (suc≢zero z)
