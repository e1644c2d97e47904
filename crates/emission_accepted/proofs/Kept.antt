-- An accepted source is kept. Assumes nothing.
use mathlib.Core.Path.{◌≡◌, refl}
use mathlib.Core.List.{List}
use Prim.Native.Nat.{ℕ, zero, suc, ◌≤◌}
use lib.Dec.{leb}
use borrow.Author.Tests.{leb-true, not-false}
use Rattle.framed.specs.Common.{between}
use Rattle.framed.specs.Bytes.{class}
use Rattle.framed.specs.Tokens.{tokens}
use Rattle.framed.specs.Meaning.{Lengths, refusal, arguments_refusal, source_refusal}
use Rattle.framed.proofs.Accepted.{suc≢zero, lowest_first, lowest_rest}
use Rattle.tables.proofs.Bools.{split2}
use Rattle.trees.proofs.Held.{one_level_held}
use Rattle.shapes.proofs.Accepted.{accepted_shaped}
use Rattle.emission_held.proofs.Decodes.{load_decodes}
use Rattle.emission_form.proofs.Whole.{load_whole}
use Rattle.emission_accepted.specs.Kept.{AcceptedKept}

-- F and T are in their ranges
record InRange (F T : ℕ) : Type 0 where
  F_least : 3 ≤ F
  F_most : F ≤ 256
  T_most : T ≤ 256

arguments : (m : Lengths) (source : List ℕ) (F T : ℕ) → arguments_refusal m source F T ≡ 0 → InRange F T
unfolding arguments_refusal
arguments m source F T e =
    let h = split2 (between 3 256 F) (leb T 256) (not-false _ (lowest_first 1 _ _ (lowest_rest 0 _ _ e))) in
    let f = split2 (leb 3 F) (leb F 256) h.0 in
    record { F_least = leb-true 3 F f.0; F_most = leb-true F 256 f.1; T_most = leb-true T 256 h.1 }

in_range : (m : Lengths) (source : List ℕ) (F T : ℕ) → refusal m source F T ≡ 0 → InRange F T
unfolding refusal
in_range m source F T e = arguments m source F T (go (arguments_refusal m source F T) e)
  where
    go : (n : ℕ) → ◌≡◌ {A = ℕ} (elim n [ zero ↦ source_refusal (tokens class source) F | suc k ↦ suc k ]) 0 → n ≡ 0
    go zero e = refl
    go (suc k) e = absurd (suc≢zero e)

pub accepted_kept : AcceptedKept
accepted_kept m source F T q e s =
    let h = accepted_shaped m source F T q e s in
    let r = in_range m source F T e in
    let w = load_whole q F T h r.F_least r.F_most r.T_most in
    record { whole = w; decodes = load_decodes q F T h (one_level_held _ _ w) }
