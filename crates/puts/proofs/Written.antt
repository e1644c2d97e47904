-- A slot that is added, and a slot that is put: what the view of the words then shows. Assumes nothing.
use Prim.Native.Nat.{ℕ, ◌<◌}
use mathlib.Core.Path.{◌≡◌}
use mathlib.Core.Bool.{true}
use mathlib.Core.List.{List, [], ◌∷◌, ◌++◌}
use Rattle.framed.specs.declared.Value.{Value}
use Rattle.framed.specs.Values.{new_frame}
use Rattle.bounded.specs.Views.{FrameWritten}
use Rattle.heap.specs.Words.{frame_used, slot_count_at, maker_at, add_slot}
use Rattle.heap.specs.Held.{slots_held}
use Rattle.heap.specs.Closed.{Sized, ValueFits}
use Rattle.heap.proofs.Laws.{add_slot_is, add_slot_local}
use Rattle.heap.proofs.Held.{add_slot_frames, add_slot_texts}
use Rattle.allocation.specs.Allocation.{view_held}
use Rattle.allocation.proofs.Rewritten.{frame_rewritten}

module _ (h t : List ℕ) (s : Sized h) (f : ℕ) (hf : f < 256) (u : frame_used h f ≡ true) (x : ℕ) (v : Value) (vf : ValueFits v) where
  pub push_written : slot_count_at h f < 16
      → FrameWritten (view_held h t) (view_held (add_slot h f x v) t) f (new_frame (maker_at h f) (slots_held h f ++ (record { name = x; value = v } ∷ [])))
  push_written room =
      frame_rewritten h (add_slot h f x v) t f hf (rw (add_slot_is h f x v room) (add_slot_local h f (slot_count_at h f) x v s.size hf room)) u _
      (add_slot_frames h s f hf u x v room vf) ((add_slot_texts h s f hf u x v room).texts t)
