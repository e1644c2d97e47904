-- The header and the rest of the state, one update after another. Assumes nothing.
use Prim.Native.Nat.{ℕ, ◌≤◌}
use mathlib.Core.Path.{◌≡◌, refl, ◌∙◌, ap}
use mathlib.Core.List.{List}
use native.Mathlib.Omega.{arith}
use lib.ListN.{length}
use lib.Dec.{leb}
use mathlib.Core.Bool.{Bool, true, false}
use Rattle.std.specs.Prelude.{Option, Some, None}
use Rattle.words.specs.Words.{pick}
use Rattle.words.proofs.Laws.{set_size}
use Rattle.framed.specs.declared.Value.{Value}
use Rattle.framed.specs.Tree.{Code}
use Rattle.framed.specs.Paths.{Path}
use Rattle.framed.specs.Machine.{Result, gives, ends}
use Rattle.tables.specs.Fields.{instructions}
use Rattle.heap.specs.Words.{set_self, set_program, set_position, slot_count_at, set_slot_value, add_slot_at, add_slot}
use Rattle.heap.specs.Held.{slots_held}
use Rattle.heap.proofs.Laws.{same_part, same_self, same_program, same_position, same_end_mark, set_self_local, set_program_local, set_position_local}
use Rattle.paths.specs.Paths.{slot_from}
use Rattle.puts.specs.Puts.{put_found, put_slot}
use Rattle.bounded.specs.Check.{Target}
use Rattle.bounded.specs.Bounded.{Bounded, over_store, assign_at}
use Rattle.word_store.specs.Store.{Memories, word_store}
use Rattle.word_store.specs.State.{store_held, state_held}
use Rattle.word_store.proofs.Updates.{keeps_all, keeps_put, held_after, header_after}
use Rattle.producing.specs.Producing.{HeaderKept}
use Rattle.producing.proofs.Leaves.{header_kept}
use Rattle.evaluation.proofs.Stores.{as_same}
use Rattle.commit.specs.Commit.{put_at, HeaderStays}

-- ---- Under the same header

module _ (remaining_from : ℕ → Code Path) {h h' : List ℕ} (t t' : List ℕ) (k : HeaderKept h h') where
  pub kept_state : state_held remaining_from h' t' ≡ over_store (state_held remaining_from h t) (store_held h' t')
  unfolding state_held
  kept_state = λ i.
      record {
        store = store_held h' t';
        self = same_self (same_part (as_same k) 0 2 (omega arith) (omega arith)) i;
        program = same_program (same_part (as_same k) 2 4 (omega arith) (omega arith)) i;
        remaining = remaining_from (same_position (same_part (as_same k) 4 5 (omega arith) (omega arith)) i);
        next = same_position (same_part (as_same k) 4 5 (omega arith) (omega arith)) i;
        end_mark = same_end_mark (same_part (as_same k) 5 6 (omega arith) (omega arith)) i;
      }

pub kept_stays : (p : List ℕ) {h h' : List ℕ} → HeaderKept h h' → HeaderStays p h h'
kept_stays p k = record {
  formed = λ m e o. record {
    self_tag = rw (k.agree 0 (omega arith)) o.self_tag;
    program_tag = rw (k.agree 2 (omega arith)) o.program_tag;
    position_there = rw (same_position (same_part (as_same k) 4 5 (omega arith) (omega arith))) o.position_there;
  };
}

pub stays_both : (p : List ℕ) {h h₁ h₂ : List ℕ} → HeaderStays p h h₁ → HeaderStays p h₁ h₂ → HeaderStays p h h₂
stays_both p a b = record { formed = λ m e o. b.formed m e (a.formed m e o) }

module _ (p h : List ℕ) (size : length h ≡ 16384) where
  pub self_stays : (v : Value) → HeaderStays p h (set_self h v)
  self_stays v = record { formed = λ m e o. (header_after h m size o).self v }

  pub program_stays : (v : Value) → HeaderStays p h (set_program h v)
  program_stays v = record { formed = λ m e o. (header_after h m size o).program v }

  pub position_stays : (z : ℕ) → z ≤ instructions p → HeaderStays p h (set_position h z)
  position_stays z le = record { formed = λ m e o. (header_after h m size o).position z (rw e le) }

  pub self_size : (v : Value) → length (set_self h v) ≡ 16384
  self_size v = (set_self_local h size v).size ∙ size

  pub program_size : (v : Value) → length (set_program h v) ≡ 16384
  program_size v = (set_program_local h size v).size ∙ size

  pub position_size : (z : ℕ) → length (set_position h z) ≡ 16384
  position_size z = (set_position_local h size z).size ∙ size

-- ---- Put

put_slot_size : (h : List ℕ) (f x : ℕ) (v : Value) → length (put_slot h f x v) ≡ length h
unfolding put_slot set_slot_value add_slot add_slot_at
put_slot_size h f x v = go (slot_from (slots_held h f) x 0)
  where
    added : (b : Bool) → length (pick b h (add_slot_at h f (slot_count_at h f) x v)) ≡ length h
    added true = refl
    added false = simp set_size refl

    go : (r : Option ℕ) → length (put_found h f x v r) ≡ length h
    go (Some i) = simp set_size refl
    go None = added (leb 16 (slot_count_at h f))

module _ (h t : List ℕ) (size : length h ≡ 16384) where
  pub put_store : (r : Result Target) (v : Value) → store_held (put_at h r v) t ≡ assign_at word_store r v (store_held h t)
  unfolding put_at assign_at state_held
  put_store (gives x) v = ap (λ (b : Bounded Memories). b.store) ((held_after (λ i. Code.finished) h t size).assign x.frame x.name v)
  put_store (ends e) v = refl

  pub put_header : (r : Result Target) (v : Value) → HeaderKept h (put_at h r v)
  unfolding put_at
  put_header (gives x) v = header_kept (keeps_put h x.frame x.name v)
  put_header (ends e) v = header_kept (keeps_all h)

  pub put_size : (r : Result Target) (v : Value) → length (put_at h r v) ≡ 16384
  unfolding put_at
  put_size (gives x) v = put_slot_size h x.frame x.name v ∙ size
  put_size (ends e) v = size
