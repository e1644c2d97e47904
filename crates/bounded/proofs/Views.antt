-- Views: reading from what is in use, what a write keeps, the unbounded heap's writes. Assumes nothing.
use mathlib.Core.Path.{◌≡◌, refl, sym, ap, ◌∙◌}
use mathlib.Core.Logic.{◌≢◌}
use mathlib.Core.Bool.{Bool, true, false}
use mathlib.Core.List.{List, [], ◌∷◌, ◌++◌}
use mathlib.Core.Option.{Option, none, some}
use Prim.Native.Nat.{ℕ, suc}
use native.Mathlib.Decide.{ℕ_discrete}
use lib.ListN.{length, get_elem?, set}
use Rattle.framed.specs.declared.Value.{Value}
use Rattle.framed.specs.Program.{Program}
use Rattle.framed.specs.Values.{Frame, Heap, new_frame}
use Rattle.framed.specs.Machine.{with_frame, with_frames}
use Rattle.framed.proofs.General.{none≢some}
use Rattle.bounded.specs.Views.{View, where_used, frame_at, text_at, all_used, entries, frames_used, texts_used, FrameWritten, TextWritten}
use Rattle.bounded.specs.Fits.{Valid, valid_integer, valid_literal, valid_made, valid_code, valid_frame}
use Rattle.bounded.specs.Store.{FrameClaimed, TextClaimed}
use Rattle.bounded.proofs.Lists.{Defined, used_new, used_old, used_same, get_below, set_here, set_there, get_end, new_here, new_there}

-- ---- What is in use is read from the heap

used_read : {A : Type 0} (t : Bool) (o : Option A) (a : A) → where_used t o ≡ some a → o ≡ some a
used_read true o a e = e
used_read false o a e = absurd (none≢some e)

pub frame_read : (H : View) (n : ℕ) (f : Frame) → frame_at H n ≡ some f → get_elem? H.heap.frames n ≡ some f
unfolding frame_at
frame_read H n f e = used_read (H.uses_frame n) (get_elem? H.heap.frames n) f e

pub text_read : (H : View) (k : ℕ) (bs : List ℕ) → text_at H k ≡ some bs → get_elem? H.heap.texts k ≡ some bs
unfolding text_at
text_read H k bs e = used_read (H.uses_text k) (get_elem? H.heap.texts k) bs e

-- ---- What was there is there still, and the same; what was in use is in use still

pub record Extends (H K : View) : Type 0 where
  pub old_frame : (n : ℕ) (f : Frame) → frame_at H n ≡ some f → frame_at K n ≡ some f
  pub old_text : (k : ℕ) (bs : List ℕ) → text_at H k ≡ some bs → text_at K k ≡ some bs

pub same_view : (H : View) → Extends H H
same_view H = record { old_frame = λ n f e. e; old_text = λ k bs e. e }

pub extends_trans : {H K L : View} → Extends H K → Extends K L → Extends H L
extends_trans a b = record { old_frame = λ n f e. b.old_frame n f (a.old_frame n f e); old_text = λ k bs e. b.old_text k bs (a.old_text k bs e) }

pub record Keeps (H K : View) : Type 0 where
  pub keeps_frame : (n : ℕ) → Defined (frame_at H) n → Defined (frame_at K) n
  pub keeps_text : (k : ℕ) → Defined (text_at H) k → Defined (text_at K) k

pub extends_keeps : {H K : View} → Extends H K → Keeps H K
extends_keeps e = record { keeps_frame = λ n d. (d.0, e.old_frame n d.0 d.1); keeps_text = λ k d. (d.0, e.old_text k d.0 d.1) }

pub written_keeps : {H K : View} {n : ℕ} {f : Frame} → FrameWritten H K n f → Keeps H K
written_keeps {H} {K} {n} {f} w = record { keeps_frame = λ m d. at m d (ℕ_discrete m n); keeps_text = λ k d. (d.0, w.texts k ∙ d.1) }
  where
    at : (m : ℕ) → Defined (frame_at H) m → Dec (m ≡ n) → Defined (frame_at K) m
    at m d (yes e) = (f, ap (frame_at K) e ∙ w.here)
    at m d (no e) = (d.0, w.there m e ∙ d.1)

pub keeps_trans : {H K L : View} → Keeps H K → Keeps K L → Keeps H L
keeps_trans a b = record { keeps_frame = λ n d. b.keeps_frame n (a.keeps_frame n d); keeps_text = λ k d. b.keeps_text k (a.keeps_text k d) }

pub valid_kept : {p : Program} {H K : View} {v : Value} → Keeps H K → Valid p H v → Valid p K v
valid_kept k (valid_integer e) = valid_integer e
valid_kept k (valid_literal e) = valid_literal e
valid_kept k (valid_made {k = j} {bs = bs} e) = let d = k.keeps_text j (bs, e) in valid_made d.1
valid_kept k (valid_code e) = valid_code e
valid_kept k (valid_frame {n = n} {f = f} e) = let d = k.keeps_frame n (f, e) in valid_frame d.1

pub not_new_frame : (H : View) (n : ℕ) → frame_at H n ≡ none → (m : ℕ) (g : Frame) → frame_at H m ≡ some g → m ≢ n
not_new_frame H n free m g e i = none≢some (sym free ∙ sym (ap (frame_at H) i) ∙ e)

pub not_new_text : (H : View) (k : ℕ) → text_at H k ≡ none → (j : ℕ) (bs : List ℕ) → text_at H j ≡ some bs → j ≢ k
not_new_text H k free j bs e i = none≢some (sym free ∙ sym (ap (text_at H) i) ∙ e)

pub written_extends : {H K : View} {n : ℕ} {f : Frame} → frame_at H n ≡ none → FrameWritten H K n f → Extends H K
written_extends {H} {n = n} free w =
    record { old_frame = λ m g e. w.there m (not_new_frame H n free m g e) ∙ e; old_text = λ k bs e. w.texts k ∙ e }

pub text_extends : {H K : View} {k : ℕ} {bs : List ℕ} → text_at H k ≡ none → TextWritten H K k bs → Extends H K
text_extends {H} {k = k} free w =
    record { old_frame = λ n f e. w.frames n ∙ e; old_text = λ j cs e. w.there j (not_new_text H k free j cs e) ∙ e }

pub none_before : {A : Type 0} (H K : ℕ → Option A) (n : ℕ) → (Defined H n → Defined K n) → K n ≡ none → H n ≡ none
none_before {A} H K n k e = step (H n) refl
  where
    step : (o : Option A) → H n ≡ o → H n ≡ none
    step none q = q
    step (some f) q = let d = k (f, q) in absurd (none≢some (sym e ∙ d.1))

-- ---- How many are in use after a write

pub claimed_frames : (H K : View) (n m : ℕ) → FrameClaimed H K n m → frames_used K ≡ suc (frames_used H)
unfolding frames_used
claimed_frames H K n m c = used_new (frame_at H) (frame_at K) entries n (new_frame m []) c.below c.free c.written.here c.written.there

pub written_frames : (H K : View) (n : ℕ) (f g : Frame) → frame_at H n ≡ some g → FrameWritten H K n f → frames_used K ≡ frames_used H
unfolding frames_used
written_frames H K n f g e w = used_old (frame_at H) (frame_at K) entries n f g e w.here w.there

pub written_texts : (H K : View) (n : ℕ) (f : Frame) → FrameWritten H K n f → texts_used K ≡ texts_used H
unfolding texts_used
written_texts H K n f w = used_same (text_at H) (text_at K) entries w.texts

pub claimed_texts : (H K : View) (k : ℕ) (bs : List ℕ) → TextClaimed H K k bs → texts_used K ≡ suc (texts_used H)
unfolding texts_used
claimed_texts H K k bs c = used_new (text_at H) (text_at K) entries k bs c.below c.free c.written.here c.written.there

pub text_frames : (H K : View) (k : ℕ) (bs : List ℕ) → TextWritten H K k bs → frames_used K ≡ frames_used H
unfolding frames_used
text_frames H K k bs w = used_same (frame_at H) (frame_at K) entries w.frames

-- ---- The unbounded heap

pub frame_end : (h : Heap) → frame_at (all_used h) (length h.frames) ≡ none
unfolding frame_at
frame_end h = get_end h.frames

pub text_end : (h : Heap) → text_at (all_used h) (length h.texts) ≡ none
unfolding text_at
text_end h = get_end h.texts

pub heap_frame : (h : Heap) (n : ℕ) → get_elem? h.frames n ≡ frame_at (all_used h) n
unfolding frame_at
heap_frame h n = refl

pub heap_text : (h : Heap) (k : ℕ) → get_elem? h.texts k ≡ text_at (all_used h) k
unfolding text_at
heap_text h k = refl

pub set_written : (h : Heap) (n : ℕ) (f g : Frame) → frame_at (all_used h) n ≡ some g →
    FrameWritten (all_used h) (all_used (with_frames (set h.frames n f) h)) n f
unfolding frame_at text_at with_frames
set_written h n f g e =
    record { here = set_here h.frames n f (get_below h.frames n g e); there = λ m d. set_there h.frames n f m d; texts = λ k. refl }

pub new_written : (m : ℕ) (h : Heap) → FrameWritten (all_used h) (all_used (with_frame m h)) (length h.frames) (new_frame m [])
unfolding frame_at text_at with_frame
new_written m h = record { here = new_here h.frames (new_frame m []); there = λ n d. new_there h.frames (new_frame m []) n d; texts = λ k. refl }

-- the heap with one text more
abbrev pub with_text : List ℕ → Heap → Heap
with_text bs h = record { frames = h.frames; texts = h.texts ++ (bs ∷ []) }

pub text_written : (h : Heap) (bs : List ℕ) → TextWritten (all_used h) (all_used (with_text bs h)) (length h.texts) bs
unfolding frame_at text_at
text_written h bs = record { here = new_here h.texts bs; there = λ j d. new_there h.texts bs j d; frames = λ n. refl }
