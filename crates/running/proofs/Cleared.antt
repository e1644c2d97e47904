-- Every operation of the store leaves the words of the header cleared. Assumes nothing.
use mathlib.Core.Path.{◌≡◌, refl, ◌∙◌, ap, sym}
use mathlib.Core.Bool.{Bool, true, false, ◌&&◌}
use mathlib.Core.List.{List, [], ◌∷◌}
use Prim.Native.Nat.{ℕ, ◌+◌}
use lib.Dec.{leb}
use lib.ListN.{length}
use Rattle.framed.specs.declared.Value.{Value}
use Rattle.framed.specs.Common.{when◌then◌else◌}
use Rattle.framed.specs.Tree.{Expression, Slots, Instruction, Code}
use Rattle.framed.specs.Paths.{Path, from_self, from_program}
use Rattle.framed.specs.Program.{Program}
use Rattle.framed.specs.Values.{truth}
use Rattle.framed.specs.Equality.{Constants, constants}
use Rattle.framed.specs.Machine.{Result, gives, ends, base_value, frame_literals, join_signs, right_side}
use Rattle.allocation.specs.Allocation.{next_text}
use Rattle.puts.specs.Puts.{put_slot}
use Rattle.heap.specs.Words.{add_slot, take_text}
use Rattle.bounded.specs.Check.{Target, Jump, target, jump_result, operation_result}
use Rattle.bounded.specs.Operations.{Product, number, text}
use Rattle.bounded.specs.Bounded.{Bounded, Produced, value_given, heap_in, make_room, reserved, ready, produce, evaluate, fill, assign_at, commit_assign, commit_jump, commit}
use Rattle.word_store.specs.Store.{Memories, claim_frame, claim_text, collect_rooted, word_store}
use Rattle.word_store.specs.State.{store_held}
use Rattle.word_store.proofs.Header.{clear_twice, clear_claim_frame, clear_add_slot, clear_put_slot, clear_take_text, clear_size}
use Rattle.running.specs.Cleared.{Cleared, ClearedThrough}

-- ---- Operations

claimed : (s : Memories) (m : ℕ) → Cleared s → Cleared (word_store.claim_frame s m)
unfolding Cleared
claimed s m c = clear_claim_frame s.heap m ∙ ap (λ (h : List ℕ). claim_frame h m) c

pushed : (s : Memories) (n x : ℕ) (v : Value) → Cleared s → Cleared (word_store.push s n x v)
unfolding Cleared
pushed s n x v c = clear_add_slot s.heap n x v ∙ ap (λ (h : List ℕ). add_slot h n x v) c

assigned : (s : Memories) (n x : ℕ) (v : Value) → Cleared s → Cleared (word_store.assign s n x v)
unfolding Cleared
assigned s n x v c = clear_put_slot s.heap n x v ∙ ap (λ (h : List ℕ). put_slot h n x v) c

texted : (s : Memories) (bs : List ℕ) → Cleared s → Cleared (word_store.claim_text s bs)
unfolding Cleared claim_text
texted s bs c = clear_take_text s.heap (next_text s.heap) (length bs) ∙ ap (λ (h : List ℕ). take_text h (next_text s.heap) (length bs)) c

-- ---- Expressions

produced : (r : Result Product) (s : Memories) → Cleared s → Cleared (produce word_store r s).store
unfolding produce
produced (gives (number z)) s c = c
produced (gives (text bs)) s c = texted s bs c
produced (ends e) s c = c

module _ (fixed : Constants) (m : ℕ) (Σ Π : Value) where
  mutual
    unfolding evaluate

    evaluates : (e : Expression Path) (s : Memories) → Cleared s → Cleared (evaluate word_store fixed m Σ Π e s).store
    evaluates (Expression.base b) s c = c
    evaluates (Expression.not b) s c = c
    evaluates (Expression.operation o a b) s c = produced (operation_result fixed Σ Π (heap_in word_store s) o a b) s c
    evaluates (Expression.frame ss) s c = fills (word_store.next_frame s) ss (word_store.claim_frame s m) (claimed s m c)

    fills : (n : ℕ) (ss : Slots Path) (s : Memories) → Cleared s → Cleared (fill word_store fixed m Σ Π n ss s)
    fills n Slots.no_slots s c = c
    fills n (Slots.slot x e ss) s c = fills n ss _ (pushed _ n x _ (evaluates e s c))

-- ---- Instructions

put_down : (r : Result Target) (v : Value) (s : Memories) → Cleared s → Cleared (assign_at word_store r v s)
unfolding assign_at
put_down (gives t) v s c = assigned s t.frame t.name v c
put_down (ends e) v s c = c

assigns : (b : Bounded Memories) (rest : Code Path) (m : ℕ) (path : Path) (r : Produced Memories) → Cleared r.store → Cleared (commit_assign word_store b rest m path r).store
unfolding commit_assign
assigns b rest m (from_self []) r c = c
assigns b rest m (from_self (n ∷ ns)) r c = put_down (target (heap_in word_store r.store).frames b.self n ns) r.value r.store c
assigns b rest m (from_program []) r c = c
assigns b rest m (from_program (n ∷ ns)) r c = put_down (target (heap_in word_store r.store).frames b.program n ns) r.value r.store c

jumps : (q : Program) (b : Bounded Memories) (r : Result Jump) → Cleared b.store → Cleared (commit_jump word_store q b r).store
unfolding commit_jump
jumps q b (gives j) c = c
jumps q b (ends e) c = c

module _ (q : Program) (b : Bounded Memories) (rest : Code Path) (c : Cleared b.store) where
  committed : (i : Instruction Path) → Cleared (commit word_store q b rest i).store
  unfolding commit
  committed (Instruction.assign path e) = assigns b rest _ path _ (evaluates (constants q) b.next b.self b.program e b.store c)
  committed (Instruction.show a) = c
  committed (Instruction.jump a d) = jumps q b (jump_result b.self b.program (heap_in word_store b.store).frames a d) c
  committed (Instruction.ifeq a d e) = go (truth (value_given (base_value b.self b.program (heap_in word_store b.store).frames a))) refl
    where
      go : (t : Bool) → truth (value_given (base_value b.self b.program (heap_in word_store b.store).frames a)) ≡ t → Cleared (commit word_store q b rest (Instruction.ifeq a d e)).store
      go true is = rw is c
      go false is = rw is (jumps q b (jump_result b.self b.program (heap_in word_store b.store).frames d e) c)

-- ---- Reserve

rooms : (F T f t : ℕ) (Σ Π : Value) (s : Memories) → length (make_room word_store F T f t Σ Π s).heap ≡ 16384 → Cleared s → Cleared (make_room word_store F T f t Σ Π s)
unfolding make_room Cleared collect_rooted
rooms F T f t Σ Π s size c = go (leb (word_store.frame_count s + f) F && leb (word_store.text_count s + t) T) size
  where
    go : (r : Bool) → length (when r then s else word_store.collect Σ Π s).heap ≡ 16384 → Cleared (when r then s else word_store.collect Σ Π s)
    go true z = c
    go false z = clear_twice _ (sym (clear_size _) ∙ z)

pub cleared_through : ClearedThrough
unfolding ready reserved store_held Cleared
cleared_through = record {
  held = λ h t size. clear_twice h size;
  readied = λ F T b i size c. rooms F T (frame_literals (right_side i)) (join_signs (right_side i)) b.self b.program b.store size c;
  committed = λ q b rest i c. committed q b rest c i;
}
