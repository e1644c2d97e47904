-- Constants make no text and do not touch the header; lists of frames that are held. Assumes nothing.
use mathlib.Core.Path.{◌≡◌, refl, sym, ◌∙◌}
use mathlib.Core.Bool.{Bool, true, false}
use mathlib.Core.List.{List, []}
use mathlib.Core.Option.{none}
use Prim.Native.Nat.{ℕ, ◌<◌}
use native.Mathlib.Decide.{dec_lt}
use native.Mathlib.Omega.{arith}
use lib.ListN.{length, get_or, get_elem?, get_or-eq_default}
use Rattle.framed.specs.declared.Value.{Value}
use Rattle.framed.specs.Tree.{Expression, Slots}
use Rattle.framed.specs.Paths.{Path}
use Rattle.framed.specs.Values.{new_frame}
use Rattle.framed.specs.Equality.{Constants}
use Rattle.framed.specs.Machine.{join_signs, join_signs_in}
use Rattle.framed.proofs.General.{none≢some}
use Rattle.heap.specs.Words.{frame_used}
use Rattle.heap.specs.Held.{frames_held}
use Rattle.heap.proofs.Lists.{elem_at}
use Rattle.heap.proofs.Held as held
use Rattle.allocation.specs.Allocation.{next_frame, view_held}
use Rattle.allocation.proofs.Laws.{lowest_is}
use Rattle.allocation.proofs.Views.{shows_frame}
use Rattle.bounded.specs.Views.{frame_at}
use Rattle.bounded.specs.Bounded.{evaluate, fill}
use Rattle.bounded.proofs.Lists.{Defined}
use Rattle.word_store.specs.Store.{Memories, word_store}
use Rattle.word_store.proofs.Updates.{KeepsHeader, keeps_all, keeps_claim, keeps_add}
use Rattle.accepted.specs.Constant.{ConstantExpression, ConstantSlots}

mutual
  unfolding join_signs

  pub no_joins : (e : Expression Path) → ConstantExpression e → join_signs e ≡ 0
  no_joins _ (ConstantExpression.base c) = refl
  no_joins _ (ConstantExpression.frame c) = no_joins_in _ c

  pub no_joins_in : (ss : Slots Path) → ConstantSlots ss → join_signs_in ss ≡ 0
  no_joins_in _ ConstantSlots.no_slots = refl
  no_joins_in _ (ConstantSlots.slot c cs) = omega (arith, no_joins _ c, no_joins_in _ cs)

header_both : {h h' h'' : List ℕ} → KeepsHeader h h' → KeepsHeader h' h'' → KeepsHeader h h''
header_both a b = record { agree = λ k lo hi. b.agree k lo hi ∙ a.agree k lo hi }

module _ (fixed : Constants) (m : ℕ) (Σ Π : Value) where
  mutual
    unfolding evaluate

    pub evaluate_header : (e : Expression Path) → ConstantExpression e → (s : Memories) → KeepsHeader s.heap (evaluate word_store fixed m Σ Π e s).store.heap
    evaluate_header _ (ConstantExpression.base c) s = keeps_all s.heap
    evaluate_header _ (ConstantExpression.frame c) s = header_both (keeps_claim s.heap m) (fill_header _ c _ _)

    fill_header : (ss : Slots Path) → ConstantSlots ss → (n : ℕ) (s : Memories) → KeepsHeader s.heap (fill word_store fixed m Σ Π n ss s).heap
    fill_header _ ConstantSlots.no_slots n s = keeps_all s.heap
    fill_header _ (ConstantSlots.slot c cs) n s = header_both (evaluate_header _ c s) (header_both (keeps_add _ n _ _) (fill_header _ cs n _))

-- ---- Lists

-- a frame number that is not in use has no slots and maker 0 in the list of frames held
pub free_held : (h t : List ℕ) (n : ℕ) → frame_at (view_held h t) n ≡ none → get_or (frames_held h) n (new_frame 0 []) ≡ new_frame 0 []
free_held h t n e = go (dec_lt n 256) (frame_used h n) refl
  where
    go : Dec (n < 256) → (b : Bool) → frame_used h n ≡ b → get_or (frames_held h) n (new_frame 0 []) ≡ new_frame 0 []
    go (yes lt) true u = absurd (none≢some (sym e ∙ shows_frame h t n lt u))
    go (yes lt) false u = held.frame_at h n (new_frame 0 []) lt ∙ held.frame_of_free h n u
    go (no ge) b u = held.frame_past h n (new_frame 0 []) (omega arith)

pub get_none : {A : Type 0} (l : List A) (n : ℕ) (d : A) → get_elem? l n ≡ none → get_or l n d ≡ d
get_none l n d e = go (dec_lt n (length l))
  where
    go : Dec (n < length l) → get_or l n d ≡ d
    go (yes lt) = absurd (none≢some (sym e ∙ elem_at l n d lt))
    go (no ge) = get_or-eq_default l d {n = n} (omega arith)

-- a lowest number: all below it are in use
pub lowest_used : (s : Memories) (n : ℕ) → n < next_frame s.heap → Defined (frame_at (view_held s.heap s.text)) n
unfolding next_frame
lowest_used s n lt =
    let w = lowest_is (frame_used s.heap) 256 0 in
    (_, shows_frame s.heap s.text n (omega (arith, w.bound)) (w.before n (omega arith) lt))
