-- What each way through the functions gives, and what a jump and an `ifeq` give, which the crate `step_jump` makes. Assumes nothing.
use Prim.Native.Nat.{ℕ, zero, suc, ◌≤◌, ◌<◌}
use mathlib.Core.Path.{◌≡◌, refl, ◌∙◌, ap, sym}
use mathlib.Core.List.{List, [], ◌∷◌}
use mathlib.Core.Bool.{Bool, true, false}
use native.Mathlib.Omega.{arith}
use lib.Dec.{eqb}
use lib.ListN.{length}
use Rattle.std.specs.Prelude.{Option, Some, None}
use Rattle.framed.specs.declared.Value.{Value}
use Rattle.framed.specs.Values.{truth}
use Rattle.framed.specs.Tree.{Instruction, Code}
use Rattle.framed.specs.Paths.{Path, from_self, from_program}
use Rattle.framed.specs.Machine as M
use Rattle.framed.specs.Machine.{Result, gives, defined, base_value, code_number, right_side, following}
use Rattle.tables.specs.declared.InstructionEntry.{InstructionEntry}
use Rattle.tables.specs.Entries.{instruction_of, instruction_at}
use Rattle.tables.specs.Fields.{instructions, instruction_kind, instruction_a, instruction_b, instruction_c, instruction_after}
use Rattle.program_entries.specs.Form.{InstructionForm}
use Rattle.trees.specs.Trees.{path_list}
use Rattle.trees.specs.Held as trees
use Rattle.trees.specs.Held.{remaining}
use Rattle.trees.proofs.Held.{one_level_held, show_held, jump_held, ifeq_held}
use Rattle.heap.specs.Words.{self_held, program_held, position, set_self, set_program, set_position}
use Rattle.heap.specs.Held.{frames_held}
use Rattle.heap.specs.Closed.{ValueFits}
use Rattle.puts.specs.declared.PutTarget.{PutTarget}
use Rattle.paths.specs.Paths.{fetched, path_held}
use Rattle.puts.specs.Puts.{targeted, target_along, put_slot}
use Rattle.operands.specs.Operands.{operand_value}
use Rattle.operands.proofs.Lists.{same_path}
use Rattle.bounded.specs.Check.{Target, Jump, jump_result}
use Rattle.bounded.specs.Bounded.{Bounded, Produced, evaluate, value_given, over_store, assign_at, commit_assign, commit_jump, commit, heap_in, goes_on}
use Rattle.word_store.specs.Store.{Memories, word_store}
use Rattle.word_store.specs.State.{store_held, state_held, with_self, with_program, with_remaining}
use Rattle.word_store.proofs.Updates.{held_after}
use Rattle.producing.specs.Producing.{HeaderKept, Writable}
use Rattle.evaluation.specs.Evaluation.{program_constants, CanEvaluate, Evaluates}
use Rattle.evaluation.proofs.Stores.{frames_are}
use Rattle.evaluation.proofs.Fits.{operand_fits}
use Rattle.commit.specs.Commit.{put_at, put_along, root_of, set_root, path_of, state_of, Assigns, CanJump, Jumps, assignment, CanCommit, Commits}
use Rattle.commit.proofs.Assignment.{assignment_entry, assignment_tree, assignment_there}
use Rattle.places.specs.Places.{first_place}
use Rattle.places.proofs.Codes.{code_at, place_begins, place_small, after_small}
use Rattle.commit.proofs.Headers.{kept_state, kept_stays, stays_both, self_stays, program_stays, position_stays, self_size, program_size, position_size, put_store, put_header, put_size}

-- ---- put

module _ (p h : List ℕ) (root : Value) (j n : ℕ) (v : Value) (r : Option PutTarget) (er : targeted r ≡ target_along (frames_held h) root (path_held p j n)) where
  pub put_nowhere : r ≡ None → h ≡ put_along p h root j n v
  unfolding put_along put_at
  put_nowhere e = rw (← er, e)

  pub put_somewhere : (at : PutTarget) (h' : List ℕ) → r ≡ Some at → h' ≡ put_slot h at.frame at.name v → h' ≡ put_along p h root j n v
  unfolding put_along put_at
  put_somewhere at h' e eh = rw (← er, e) eh

-- ---- root, set_root

module _ (own : Bool) (h : List ℕ) where
  pub root_self : own ≡ true → (r : Value) → r ≡ self_held h → r ≡ root_of own h
  unfolding root_of
  root_self e r er = rw e er

  pub root_program : own ≡ false → (r : Value) → r ≡ program_held h → r ≡ root_of own h
  unfolding root_of
  root_program e r er = rw e er

  pub sets_self_root : own ≡ true → (v : Value) (h' : List ℕ) → h' ≡ set_self h v → h' ≡ set_root own h v
  unfolding set_root
  sets_self_root e v h' eh = rw e eh

  pub sets_program_root : own ≡ false → (v : Value) (h' : List ℕ) → h' ≡ set_program h v → h' ≡ set_root own h v
  unfolding set_root
  sets_program_root e v h' eh = rw e eh

-- ---- assign

-- Put along a path with names
along_self : (b : Bounded Memories) (rest : Code Path) (z : ℕ) (ns : List ℕ) (r : Produced Memories) → (ns ≡ [] → ⊥) →
    commit_assign word_store b rest z (from_self ns) r
    ≡ goes_on word_store b rest z b.self b.program (assign_at word_store (target_along (heap_in word_store r.store).frames b.self ns) r.value r.store)
unfolding commit_assign target_along
along_self b rest z [] r ne = absurd (ne refl)
along_self b rest z (n ∷ ns) r ne = refl

along_program : (b : Bounded Memories) (rest : Code Path) (z : ℕ) (ns : List ℕ) (r : Produced Memories) → (ns ≡ [] → ⊥) →
    commit_assign word_store b rest z (from_program ns) r
    ≡ goes_on word_store b rest z b.self b.program (assign_at word_store (target_along (heap_in word_store r.store).frames b.program ns) r.value r.store)
unfolding commit_assign target_along
along_program b rest z [] r ne = absurd (ne refl)
along_program b rest z (n ∷ ns) r ne = refl

no_names : (p : List ℕ) (n j : ℕ) → n ≡ 0 → path_list p n j ≡ []
unfolding path_list
no_names p n j e = rw e

some_names : (p : List ℕ) (n j : ℕ) → (n ≡ 0 → ⊥) → path_list p n j ≡ [] → ⊥
unfolding path_list
some_names p zero j ne e = ne refl
some_names p (suc n) j ne e = let q : ◌≡◌ {A = ℕ} 0 1 = cc in absurd (omega arith)

module _ (p l h t : List ℕ) (x : ℕ) (v : Value) (h₁ t₁ : List ℕ) (m : Evaluates p l h t x v h₁ t₁) (j n : ℕ) where
  abbrev value : Produced Memories
  value = evaluate word_store (program_constants p l) (position h) (self_held h) (program_held h) (trees.expression_held p x) (store_held h t)

  size : length h₁ ≡ 16384
  size = m.leaves.sized.size

  after : state_of p h₁ t₁ ≡ over_store (state_of p h t) (store_held h₁ t₁)
  after = kept_state (remaining p) t t₁ m.leaves.header

  sets_self : n ≡ 0 → (h₂ : List ℕ) → h₂ ≡ set_self h₁ v → Assigns p l h t (from_self (path_list p n j)) x h₂ t₁
  unfolding commit_assign state_held
  sets_self e h₂ eh = rw (eh, no_names p n j e) (record {
    state = λ rest z. ap (with_remaining rest z) ((held_after (remaining p) h₁ t₁ size).self v m.fits ∙ ap (with_self v) after) ∙ rw m.produced;
    header = stays_both p (kept_stays p m.leaves.header) (self_stays p h₁ size v);
    size = self_size p h₁ size v;
    text_size = m.leaves.text_size;
  })

  sets_program : n ≡ 0 → (h₂ : List ℕ) → h₂ ≡ set_program h₁ v → Assigns p l h t (from_program (path_list p n j)) x h₂ t₁
  unfolding commit_assign state_held
  sets_program e h₂ eh = rw (eh, no_names p n j e) (record {
    state = λ rest z. ap (with_remaining rest z) ((held_after (remaining p) h₁ t₁ size).program v m.fits ∙ ap (with_program v) after) ∙ rw m.produced;
    header = stays_both p (kept_stays p m.leaves.header) (program_stays p h₁ size v);
    size = program_size p h₁ size v;
    text_size = m.leaves.text_size;
  })

  pub sets_root : (own : Bool) → n ≡ 0 → (h₂ : List ℕ) → h₂ ≡ set_root own h₁ v → Assigns p l h t (path_of own (path_list p n j)) x h₂ t₁
  unfolding set_root path_of
  sets_root true = sets_self
  sets_root false = sets_program

  module _ (ne : n ≡ 0 → ⊥) (root : Value) (h₂ : List ℕ) (eh : h₂ ≡ put_along p h₁ root j n v) where
    abbrev where_to : Result Target
    where_to = target_along (frames_held h₁) root (path_held p j n)

    eh' : h₂ ≡ put_at h₁ where_to v
    unfolding put_along
    eh' = eh

    kept : HeaderKept h₁ h₂
    kept = rw eh' (put_header h₁ t₁ size where_to v)

    stored : store_held h₂ t₁ ≡ assign_at word_store (target_along (heap_in word_store (store_held h₁ t₁)).frames root (path_list p n j)) v (store_held h₁ t₁)
    stored = rw (eh', frames_are h₁ t₁, same_path p j n) (put_store h₁ t₁ size where_to v)

    moved : state_of p h₂ t₁ ≡ over_store (state_of p h t) (store_held h₂ t₁)
    moved = kept_state (remaining p) t₁ t₁ kept ∙ ap (λ (b : Bounded Memories). over_store b (store_held h₂ t₁)) after

    go_self : root ≡ self_held h → (rest : Code Path) (z : ℕ) →
        with_remaining rest z (over_store (state_of p h t) (store_held h₂ t₁)) ≡ commit_assign word_store (state_of p h t) rest z (from_self (path_list p n j)) value
    unfolding state_held
    go_self er rest z =
        rw (along_self (state_of p h t) rest z (path_list p n j) value (some_names p n j ne), m.produced)
        (ap (λ (s : Memories). goes_on word_store (state_of p h t) rest z (self_held h) (program_held h) s) (rw er at stored))

    go_program : root ≡ program_held h → (rest : Code Path) (z : ℕ) →
        with_remaining rest z (over_store (state_of p h t) (store_held h₂ t₁)) ≡ commit_assign word_store (state_of p h t) rest z (from_program (path_list p n j)) value
    unfolding state_held
    go_program er rest z =
        rw (along_program (state_of p h t) rest z (path_list p n j) value (some_names p n j ne), m.produced)
        (ap (λ (s : Memories). goes_on word_store (state_of p h t) rest z (self_held h) (program_held h) s) (rw er at stored))

    puts_self : root ≡ self_held h → Assigns p l h t (from_self (path_list p n j)) x h₂ t₁
    puts_self er = record {
      state = λ rest z. ap (with_remaining rest z) moved ∙ go_self er rest z;
      header = stays_both p (kept_stays p m.leaves.header) (kept_stays p kept);
      size = ap length eh' ∙ put_size h₁ t₁ size where_to v;
      text_size = m.leaves.text_size;
    }

    puts_program : root ≡ program_held h → Assigns p l h t (from_program (path_list p n j)) x h₂ t₁
    puts_program er = record {
      state = λ rest z. ap (with_remaining rest z) moved ∙ go_program er rest z;
      header = stays_both p (kept_stays p m.leaves.header) (kept_stays p kept);
      size = ap length eh' ∙ put_size h₁ t₁ size where_to v;
      text_size = m.leaves.text_size;
    }

    pub puts_root : (own : Bool) → root ≡ root_of own h → Assigns p l h t (path_of own (path_list p n j)) x h₂ t₁
    unfolding root_of path_of
    puts_root true = puts_self
    puts_root false = puts_program

-- ---- jump

module _ (p l h : List ℕ) (a c : ℕ) (can : CanJump p l h a c) where
  abbrev result : List ℕ → Result Jump
  result t = jump_result (self_held h) (program_held h) (heap_in word_store (store_held h t)).frames (trees.base_held p a) (trees.base_held p c)

  read : (t : List ℕ) → result t ≡
      M.◌>>=◌ (operand_value p h a) (λ v. M.◌>>=◌ (code_number v) (λ k. M.◌>>=◌ (operand_value p h c) (λ w. gives (record { code = k; self = w }))))
  unfolding jump_result operand_value
  read t = rw (frames_are h t)

  nothing : ((t : List ℕ) → state_of p h t ≡ commit_jump word_store (trees.program_held p l) (state_of p h t) (result t)) → Jumps p l h a c h
  nothing e = record { state = e; header = record { formed = λ m q o. o }; size = can.size }

  module _ (r : Option Value) (er : defined (fetched r) ≡ operand_value p h a) where
    pub jump_none : r ≡ None → Jumps p l h a c h
    unfolding commit_jump M.◌>>=◌ defined
    jump_none e = nothing (λ t. rw (read t, ← er, e))

    module _ (v : Value) (ev : r ≡ Some v) where
      pub jump_no_code : ((k : ℕ) → v ≡ Value.Code k → ⊥) → Jumps p l h a c h
      unfolding commit_jump M.◌>>=◌ defined code_number
      jump_no_code o = nothing (λ t. rw (read t, ← er, ev) (go t v o))
        where
          go : (t : List ℕ) (v : Value) → ((k : ℕ) → v ≡ Value.Code k → ⊥) → state_of p h t
              ≡ commit_jump word_store (trees.program_held p l) (state_of p h t) (M.◌>>=◌ (code_number v) (λ k. M.◌>>=◌ (operand_value p h c) (λ w. gives (record { code = k; self = w }))))
          go t (Value.Int z) k = refl
          go t (Value.Text z) k = refl
          go t (Value.Code z) k = absurd (k z refl)
          go t (Value.Frame z) k = refl

      module _ (k : ℕ) (ek : v ≡ Value.Code k) (q : Option Value) (eq : defined (fetched q) ≡ operand_value p h c) where
        pub jump_second : q ≡ None → Jumps p l h a c h
        unfolding commit_jump M.◌>>=◌ defined code_number
        jump_second e = nothing (λ t. rw (read t, ← er, ev, ek, ← eq, e))

        module _ (w : Value) (ew : q ≡ Some w) where
          is_given : gives w ≡ operand_value p h c
          unfolding defined
          is_given = rw ew at eq

          fits : ValueFits w
          unfolding value_given
          fits = rw (← is_given) at (operand_fits p l h can.program c can.second)

          pub jump_both : (h₁ h₂ : List ℕ) (z : ℕ) → h₁ ≡ set_self h w → h₂ ≡ set_position h₁ z → z ≡ first_place p k → Jumps p l h a c h₂
          unfolding commit_jump M.◌>>=◌ defined code_number state_held
          jump_both h₁ h₂ z e₁ e₂ ez = rw (e₂, e₁, ez) (record {
            state = λ t.
                (held_after (remaining p) (set_self h w) t (self_size p h can.size w)).position (first_place p k)
                ∙ ap (with_remaining (remaining p (first_place p k)) (first_place p k)) ((held_after (remaining p) h t can.size).self w fits)
                ∙ rw (read t, ← er, ev, ek, ← is_given, code_at p l can.program k, place_begins p l can.program k);
            header = stays_both p (self_stays p h can.size w) (position_stays p (set_self h w) (self_size p h can.size w) (first_place p k) (place_small p l can.program k));
            size = position_size p (set_self h w) (self_size p h can.size w) (first_place p k);
          })

-- ---- Instructions

module _ (p l h t : List ℕ) (i : ℕ) (w : Writable p l h t) (there : i < instructions p) (next : position h ≡ suc i) where
  size_is : length h ≡ 16384
  size_is = w.sized.size

  next_small : instruction_after p i ≤ instructions p
  next_small = after_small p l w.program i there

  goes_after : following (trees.program_held p l) (position h) ≡ instruction_after p i
  goes_after = rw next ((one_level_held p l w.program).follows i there)

  form : InstructionForm p i
  form = w.program.entries.instruction i there

  -- nothing but the position
  onward : (h₂ : List ℕ) → h₂ ≡ set_position h (instruction_after p i) →
      with_remaining (remaining p (instruction_after p i)) (instruction_after p i) (state_of p h t)
      ≡ commit word_store (trees.program_held p l) (state_of p h t) (remaining p (instruction_after p i)) (trees.instruction_held p i) → Commits p l h t i h₂ t
  onward h₂ eh q = rw eh (record {
    state = (held_after (remaining p) h t size_is).position (instruction_after p i) ∙ q;
    header = position_stays p h size_is (instruction_after p i) next_small;
    size = position_size p h size_is (instruction_after p i);
    text_size = w.text_size;
  })

  -- `:=`
  module _ (own : Bool) (j n x : ℕ) (at : assignment own j n x ≡ instruction_at p i) where
    pub commit_assigns : (h₁ t₁ h₂ : List ℕ) → Assigns p l h t (path_of own (path_list p n j)) x h₁ t₁ → h₂ ≡ set_position h₁ (instruction_after p i) → Commits p l h t i h₂ t₁
    unfolding commit state_held
    commit_assigns h₁ t₁ h₂ a eh = rw eh (record {
      state = (held_after (remaining p) h₁ t₁ a.size).position (instruction_after p i) ∙ a.state (remaining p (instruction_after p i)) (instruction_after p i) ∙ rw (assignment_tree p l w.program i there own j n x at, goes_after);
      header = stays_both p a.header (position_stays p h₁ a.size (instruction_after p i) next_small);
      size = position_size p h₁ a.size (instruction_after p i);
      text_size = a.text_size;
    })

  -- `show`
  commit_show : (a : ℕ) → InstructionEntry.Show a ≡ instruction_at p i → (h₂ : List ℕ) → h₂ ≡ set_position h (instruction_after p i) → Commits p l h t i h₂ t
  unfolding commit state_held
  commit_show a at h₂ eh = onward h₂ eh (rw (show_held p l w.program i there a (sym at), goes_after))

  -- `jump`, `ifeq`
  module _ (a c : ℕ) (at : InstructionEntry.Jump a c ≡ instruction_at p i) where
    pub commit_can_jump : CanJump p l h a c
    commit_can_jump = record { program = w.program; size = size_is; first = (form.jump_to a c (sym at)).there; second = (form.jump_with a c (sym at)).there }

    pub commit_jumps : (h₂ : List ℕ) → Jumps p l h a c h₂ → Commits p l h t i h₂ t
    unfolding commit state_held
    commit_jumps h₂ k = record {
      state = k.state t ∙ rw (jump_held p l w.program i there a c (sym at));
      header = k.header;
      size = k.size;
      text_size = w.text_size;
    }

  module _ (a c d : ℕ) (at : InstructionEntry.Ifeq a c d ≡ instruction_at p i) where
    ifeq_tree : trees.instruction_held p i ≡ Instruction.ifeq (trees.base_held p a) (trees.base_held p c) (trees.base_held p d)
    ifeq_tree = ifeq_held p l w.program i there a c d (sym at)

    pub commit_can_ifeq : CanJump p l h c d
    commit_can_ifeq = record { program = w.program; size = size_is; first = (form.ifeq_to a c d (sym at)).there; second = (form.ifeq_with a c d (sym at)).there }

    module _ (v : Value) (ev : v ≡ value_given (operand_value p h a)) (b : Bool) (eb : b ≡ truth v) where
      tested : b ≡ truth (value_given (base_value (self_held h) (program_held h) (heap_in word_store (store_held h t)).frames (trees.base_held p a)))
      unfolding operand_value
      tested = eb ∙ rw (ev, frames_are h t)

      pub commit_ifeq_on : b ≡ true → (h₂ : List ℕ) → h₂ ≡ set_position h (instruction_after p i) → Commits p l h t i h₂ t
      unfolding commit state_held
      commit_ifeq_on q h₂ eh = onward h₂ eh (rw (ifeq_tree, ← tested, q, goes_after))

      pub commit_ifeq_jumps : b ≡ false → (h₂ : List ℕ) → Jumps p l h c d h₂ → Commits p l h t i h₂ t
      unfolding commit state_held
      commit_ifeq_jumps q h₂ k = record {
        state = k.state t ∙ rw (ifeq_tree, ← tested, q);
        header = k.header;
        size = k.size;
        text_size = w.text_size;
      }

-- ---- commit

module _ (p l h t : List ℕ) (i : ℕ) (can : CanCommit p l h t i) (k : ℕ) (ek : k ≡ instruction_kind p i) where
  entry_show : k ≡ 2 → InstructionEntry.Show (instruction_a p i) ≡ instruction_at p i
  unfolding instruction_at instruction_of
  entry_show z = rw (← ek, z)

  pub commit_shows : 2 ≤ k → (h₂ : List ℕ) → h₂ ≡ set_position h (instruction_after p i) → Commits p l h t i h₂ t
  commit_shows ge = commit_show p l h t i can.writable can.there can.next (instruction_a p i) (entry_show (let q = can.form.kind in omega arith))

  module _ (lt : k < 2) where
    pub commit_can_assign : (x : ℕ) → x ≡ instruction_c p i → CanEvaluate p l h t x
    unfolding right_side
    commit_can_assign x ex = rw ex (record {
      writable = can.writable;
      there = assignment_there p l can.writable.program i can.there (eqb k 0) (instruction_a p i) (instruction_b p i) (instruction_c p i) (assignment_entry p i k ek lt);
      room = rw (assignment_tree p l can.writable.program i can.there (eqb k 0) (instruction_a p i) (instruction_b p i) (instruction_c p i) (assignment_entry p i k ek lt)) at can.room;
    })

    pub commit_assigned : (j n x : ℕ) → j ≡ instruction_a p i → n ≡ instruction_b p i → x ≡ instruction_c p i → (h₁ t₁ h₂ : List ℕ)
        → Assigns p l h t (path_of (eqb k 0) (path_list p n j)) x h₁ t₁ → h₂ ≡ set_position h₁ (instruction_after p i) → Commits p l h t i h₂ t₁
    commit_assigned j n x ej en ex = commit_assigns p l h t i can.writable can.there can.next (eqb k 0) j n x (rw (ej, en, ex) (assignment_entry p i k ek lt))
