-- `parse` is the grammar's function at any bound that is enough. Assumes nothing.
use mathlib.Core.Path.{◌≡◌, refl, sym, ◌∙◌}
use mathlib.Core.List.{List}
use mathlib.Core.Option.{Option, none, some}
use Prim.Native.Nat.{ℕ, ◌≤◌}
use native.Mathlib.Omega.{arith}
use lib.ListN.{length}
use Rattle.framed.specs.Symbols.{Symbol}
use Rattle.framed.specs.Tree.{Written, Slots}
use Rattle.framed.specs.Parse.{a_frame, slots, whole, parse}
use Rattle.framed.specs.Grammar.{Frame⊢, Source}
use Rattle.framed.proofs.ParseExact.{a_frame_in, slots_in, whole_in, a_frame_out, slots_out, parse_sound, parse_complete}

bound_sound : (n : ℕ) (ts : List Symbol) {ss : Slots Written} → whole (a_frame (slots n) ts) ≡ some ss → Source ts ss
bound_sound n ts e = a_frame_in (slots n) (λ us ss vs e. slots_in n us e) ts (whole_in _ e)

bound_complete : (n : ℕ) {ts : List Symbol} {ss : Slots Written} → length ts ≤ n → Source ts ss → whole (a_frame (slots n) ts) ≡ some ss
unfolding whole
bound_complete n l (Frame⊢.brackets d) = rw (a_frame_out (slots n) _ _ (slots_out n _ d refl (omega arith)))

pub parse_bound : (n : ℕ) (ts : List Symbol) → length ts ≤ n → whole (a_frame (slots n) ts) ≡ parse ts
parse_bound n ts l = go (whole (a_frame (slots n) ts)) refl (parse ts) refl
  where
    go : (x : Option (Slots Written)) → whole (a_frame (slots n) ts) ≡ x → (y : Option (Slots Written)) → parse ts ≡ y → x ≡ y
    go none e none f = refl
    go none e (some ss) f = sym e ∙ bound_complete n l (parse_sound ts f)
    go (some ss) e y f = sym (parse_complete (bound_sound n ts e)) ∙ f
