-- What look finds is reachable, so a frame that it finds is in use, and its maker is the word. Assumes nothing.
use mathlib.Core.Path.{◌≡◌, refl}
use mathlib.Core.List.{List}
use mathlib.Core.Option.{some}
use Prim.Native.Nat.{ℕ}
use Rattle.framed.specs.declared.Value.{Value}
use Rattle.framed.specs.Tree.{Written}
use Rattle.framed.specs.Reach.{Reachable}
use Rattle.framed.specs.Calls.{maker_in, look_from}
use Rattle.framed.proofs.FetchExact.{fetched_reached}
use Rattle.heap.specs.Words.{self_held, program_held, maker_at}
use Rattle.heap.specs.Held.{frames_held, heap_held}
use Rattle.heap.proofs.Held.{maker_of_used}
use Rattle.mark.specs.Reached.{Reached}
use Rattle.mark.proofs.ReachLaws.{reached_in_use}
use Rattle.state_form.proofs.Facts.{well_formed_closed}
use Rattle.wellformed.specs.WellFormed.{WellFormed}
use Rattle.wellformed.specs.Held.{state_held}

module _ (p h l t : List ℕ) (formed : WellFormed p h l t) where
  found_reached : (w : Written) (v : Value) → look_from (state_held p h t) w ≡ some v → Reached h v
  unfolding look_from state_held heap_held
  found_reached (Written.self ns) v e = fetched_reached (frames_held h) (self_held h) (program_held h) (self_held h) v ns Reachable.self e
  found_reached (Written.up k ns) v e = fetched_reached (frames_held h) (self_held h) (program_held h) (program_held h) v ns Reachable.program e

  pub found_maker : (w : Written) (f : ℕ) → look_from (state_held p h t) w ≡ some (Value.Frame f) → maker_in (frames_held h) f ≡ maker_at h f
  found_maker w f e =
      let u = (reached_in_use h (well_formed_closed formed.state) (found_reached w (Value.Frame f) e)).frame f refl in
      maker_of_used h f u.small u.used
