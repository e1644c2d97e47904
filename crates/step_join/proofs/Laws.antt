-- `:=` of a join, after reserve: the end that it meets, and that the join put at the path is what commit does. Assumes nothing.
use Prim.Native.Nat.{ℕ, ◌+◌, ◌/◌, ◌%◌, ◌≤◌, ◌<◌}
use mathlib.Core.Path.{◌≡◌, refl, ◌∙◌, ap, sym}
use mathlib.Core.Bool.{Bool, true, false, true≢false}
use mathlib.Core.List.{List}
use native.Mathlib.Omega.{arith}
use native.Mathlib.Decide.{dec_lt}
use lib.Dec.{eqb}
use lib.ListN.{length, take, get_elem?}
use borrow.Author.Tests.{eqb-true, le-leb, lt-leb}
use Rattle.std.specs.Prelude.{Option, Some, None, Ok}
use Rattle.framed.specs.declared.Value.{Value}
use Rattle.framed.specs.Values.{join_bytes}
use Rattle.framed.specs.Machine.{defined, is_join, right_side}
use Rattle.tables.specs.declared.ExpressionEntry.{ExpressionEntry}
use Rattle.tables.specs.declared.InstructionEntry.{InstructionEntry}
use Rattle.tables.specs.Entries.{expression_of, expression_at, instruction_at}
use Rattle.tables.specs.Fields.{instruction_kind, instruction_a, instruction_b, instruction_c, instruction_after, expression_kind, expression_a, expression_b}
use Rattle.trees.specs.Trees.{path_list}
use Rattle.heap.specs.Words.{value_of, set_position}
use Rattle.heap.specs.Held.{frames_held, texts_held, texts_in_use}
use Rattle.heap.proofs.Held.{take_text_frames}
use Rattle.allocation.specs.Allocation.{next_text}
use Rattle.allocation.proofs.Laws.{next_text_below}
use Rattle.puts.specs.declared.PutTarget.{PutTarget}
use Rattle.paths.specs.Paths.{fetched, path_held}
use Rattle.puts.specs.Puts.{targeted, target_along, put_slot}
use Rattle.puts.proofs.Laws.{put_end_none, put_end_at}
use Rattle.texts.specs.Literals.{literals_held}
use Rattle.texts.specs.Texts.{Readable}
use Rattle.splice.specs.Splice.{splice}
use Rattle.shown.specs.Shown.{shown_size}
use Rattle.joining.specs.Joining.{join_end}
use Rattle.joining.proofs.Laws.{end_long, end_none, join_length, filled_front}
use Rattle.joining.proofs.Meaning.{join_fits}
use Rattle.bounded.specs.Check.{slot_end, target_end}
use Rattle.operands.specs.Operands.{operand_value, unpacked}
use Rattle.operands.proofs.Numbers.{number_none, number_some}
use Rattle.operators.specs.declared.Operated.{Operated}
use Rattle.operators.specs.Operators.{operator_of}
use Rattle.operators.proofs.Laws.{operates_join, end_join}
use Rattle.operand_checks.specs.OperandChecks.{put_end}
use Rattle.operand_checks.proofs.Laws as ends-laws
use Rattle.operand_checks.proofs.Laws.{put_empty}
use Rattle.checking.specs.Checking.{AssignsOrShows, ChecksExpression, operation_end, expression_end, single_end}
use Rattle.checking.proofs.Laws as checking
use Rattle.checking.proofs.Laws.{single_is, assign_met, assign_put}
use Rattle.producing.specs.Producing.{MakesText, Joins, CanProduce}
use Rattle.producing.proofs.Laws as producing
use Rattle.producing.proofs.Laws.{joins_made, produce_joined}
use Rattle.evaluation.specs.Evaluation.{CanEvaluate, Evaluates}
use Rattle.evaluation.proofs.Simple.{operation_made, flat_can}
use Rattle.commit.specs.Commit.{put_along, root_of, set_root, path_of, Assigns}
use Rattle.commit.specs.Direct.{end_met}
use Rattle.commit.proofs.Assignment.{assignment_entry}
use Rattle.commit.proofs.Laws.{put_somewhere, sets_root, puts_root}
use Rattle.commit.proofs.Meaning.{Assignment, root_path}
use Rattle.step_join.specs.Join.{joins_entry, CanAssignJoin, JoinsValues, CanPutJoin, JoinsOnce}

-- ---- joins

pub joins_other : (p : List ℕ) (i k : ℕ) → k ≡ instruction_kind p i → 2 ≤ k → false ≡ joins_entry p i
unfolding joins_entry
joins_other p i k ek le = rw (← ek, le-leb 2 k le)

pub joins_by_kind : (p : List ℕ) (i k x m : ℕ) → k ≡ instruction_kind p i → k < 2 → x ≡ instruction_c p i → m ≡ expression_kind p x → eqb m 12 ≡ joins_entry p i
unfolding joins_entry
joins_by_kind p i k x m ek lt ex em = rw (← ek, lt-leb 2 k lt, ← ex, ← em)

module _ (p : List ℕ) (i : ℕ) (is : joins_entry p i ≡ true) where
  assigns_below : instruction_kind p i < 2
  unfolding joins_entry
  assigns_below = go (dec_lt (instruction_kind p i) 2)
    where
      go : Dec (instruction_kind p i < 2) → instruction_kind p i < 2
      go (yes lt) = lt
      go (no ge) = absurd (true≢false (sym (rw (le-leb 2 (instruction_kind p i) (omega arith)) at is)))

  pub join_form : AssignsOrShows p i
  join_form = record { kind = let q = assigns_below in omega arith }

  join_kind : expression_kind p (instruction_c p i) ≡ 12
  unfolding joins_entry
  join_kind = eqb-true _ _ (rw (lt-leb 2 (instruction_kind p i) assigns_below) at is)

  join_entry : ExpressionEntry.Operate 12 (expression_a p (instruction_c p i)) (expression_b p (instruction_c p i)) ≡ expression_at p (instruction_c p i)
  unfolding expression_at expression_of
  join_entry = rw join_kind

-- ---- The end

module _ (p l h t : List ℕ) (i : ℕ) (can : CanAssignJoin p l h t i) where
  abbrev x : ℕ
  x = instruction_c p i

  abbrev own : Bool
  own = eqb (instruction_kind p i) 0

  along : Assignment p l h t i (instruction_a p i) (instruction_b p i) x (root_of own h) (path_of own (path_list p (instruction_b p i) (instruction_a p i)))
  along = root_path p l h t i (instruction_a p i) (instruction_b p i) x can.checks.memories can.checks.there can.commits.next own (assignment_entry p i (instruction_kind p i) refl (assigns_below p i can.joins))

  pub join_no_show : (a : ℕ) → instruction_at p i ≡ InstructionEntry.Show a → ⊥
  join_no_show = along.quiet

  can_check : ChecksExpression p l h t x
  can_check = record { memories = can.checks.memories; there = along.there }

  can_evaluate : CanEvaluate p l h t x
  unfolding right_side
  can_evaluate = record { writable = can.commits.writable; there = along.there; room = rw along.tree at can.commits.room }

  -- that of the expression is that of the operation
  value_end : (e : ℕ) → e ≡ operation_end p l h t 12 (expression_a p x) (expression_b p x) → e ≡ expression_end p l h t x
  unfolding single_end
  value_end e ee = ee ∙ single_is p l h t x can_check (ExpressionEntry.Operate 12 (expression_a p x) (expression_b p x)) (join_entry p i can.joins) (λ k q. cc)

  ended : (e : ℕ) → e ≡ end_met p l h t i → (e ≡ 0 → ⊥) → JoinsOnce p l h t i e h t
  ended e ee ne = record { end = ee; made = λ z. absurd (ne z); kept = λ q. (refl, refl) }

  value_ended : (e : ℕ) → e ≡ operation_end p l h t 12 (expression_a p x) (expression_b p x) → (e ≡ 0 → ⊥) → JoinsOnce p l h t i e h t
  value_ended e ee ne = ended e (along.checked e (assign_met p l h t (root_of own h) (instruction_a p i) (instruction_b p i) x e (value_end e ee) ne)) ne

-- ---- assign_join

module _ (p l h t : List ℕ) (i : ℕ) (can : CanAssignJoin p l h t i) (x : ℕ) (ex : x ≡ instruction_c p i) (a : ℕ) (ea : a ≡ expression_a p x)
    (r : Option Value) (er : defined (fetched r) ≡ operand_value p h a) where
  left : defined (fetched r) ≡ operand_value p h (expression_a p (instruction_c p i))
  left = rw (← ex, ← ea) er

  join_first : r ≡ None → JoinsOnce p l h t i 31 h t
  join_first e = value_ended p l h t i can 31 (checking.operation_left p l h t 12 (expression_a p (instruction_c p i)) (expression_b p (instruction_c p i)) r left e) (λ z. omega arith)

  module _ (v : Value) (ev : r ≡ Some v) (b : ℕ) (eb : b ≡ expression_b p x) (q : Option Value) (eq : defined (fetched q) ≡ operand_value p h b) where
    right : defined (fetched q) ≡ operand_value p h (expression_b p (instruction_c p i))
    right = rw (← ex, ← eb) eq

    join_second : q ≡ None → JoinsOnce p l h t i 31 h t
    join_second e =
        value_ended p l h t i can 31
        (checking.operation_right p l h t 12 (expression_a p (instruction_c p i)) (expression_b p (instruction_c p i)) r left v ev q right e) (λ z. omega arith)

    join_on : (w : Value) → q ≡ Some w → JoinsValues p l h t i v w
    unfolding defined
    join_on w ew = record { can = can; first = rw ev at left; second = rw ew at right }

-- the operands as numbers
module _ (p l h t : List ℕ) (i : ℕ) (can : CanAssignJoin p l h t i) (x : ℕ) (ex : x ≡ instruction_c p i) (a : ℕ) (ea : a ≡ expression_a p x)
    (m : ℕ) (em : defined (fetched (unpacked m)) ≡ operand_value p h a) where
  pub number_first : m ≡ 5 → JoinsOnce p l h t i 31 h t
  number_first e = join_first p l h t i can x ex a ea None (number_none p h a m em e) refl

  module _ (some : m ≡ 5 → ⊥) (b : ℕ) (eb : b ≡ expression_b p x) (n : ℕ) (en : defined (fetched (unpacked n)) ≡ operand_value p h b) where
    pub number_second : n ≡ 5 → JoinsOnce p l h t i 31 h t
    number_second e =
        let v = value_of (m % 8) (m / 8 % 4294967296) in
        join_second p l h t i can x ex a ea (Some v) (number_some p h a m em some v refl) v refl b eb None (number_none p h b n en e) refl

    pub number_on : (n ≡ 5 → ⊥) → (v w : Value) → v ≡ value_of (m % 8) (m / 8 % 4294967296) → w ≡ value_of (n % 8) (n / 8 % 4294967296) → JoinsValues p l h t i v w
    number_on both v w ev ew =
        join_on p l h t i can x ex a ea (Some v) (number_some p h a m em some v ev) v refl b eb (Some w) (number_some p h b n en both w ew) w refl

-- ---- join_values

module _ (p l h t : List ℕ) (i : ℕ) (v w : Value) (on : JoinsValues p l h t i v w) where
  met : (e : ℕ) → e ≡ join_end p h v w → e ≡ operation_end p l h t 12 (expression_a p (instruction_c p i)) (expression_b p (instruction_c p i))
  unfolding defined
  met e ee =
      checking.operation_both p l h t 12 (expression_a p (instruction_c p i)) (expression_b p (instruction_c p i))
      (Some v) on.first v refl (Some w) on.second w e refl (end_join p l h t 12 v w (omega arith) (omega arith) e ee)

  values_ended : (e : ℕ) → e ≡ join_end p h v w → (e ≡ 0 → ⊥) → JoinsOnce p l h t i e h t
  values_ended e ee = value_ended p l h t i on.can e (met e ee)

  readable : Readable p l h t
  readable = on.can.checks.memories.readable

  module _ (n : ℕ) (en : n ≡ shown_size p h v + shown_size p h w) where
    pub long_ended : 64 < n → JoinsOnce p l h t i 34 h t
    long_ended lt = values_ended 34 (end_long p h v w _ _ _ _ refl refl refl refl (omega arith)) (λ q. omega arith)

    pub can_put : n ≤ 64 → (m m' : List ℕ) → length m ≡ 64 → m' ≡ splice m 0 (join_bytes (literals_held p l) (texts_held h t) v w) → CanPutJoin p l h t i (take n m')
    can_put le m m' size e = record {
      left = v;
      right = w;
      values = on;
      end = end_none p h v w _ _ _ _ refl refl refl refl (omega arith);
      bytes = filled_front p l h t v w n en le m m' size e;
    }

-- ---- put_join

module _ (p l h t : List ℕ) (i : ℕ) (bs : List ℕ) (on : CanPutJoin p l h t i bs) where
  abbrev v : Value
  v = on.left

  abbrev w : Value
  w = on.right

  abbrev can : JoinsValues p l h t i v w
  can = on.values

  abbrev a : ℕ
  a = expression_a p (instruction_c p i)

  abbrev b : ℕ
  b = expression_b p (instruction_c p i)

  short : shown_size p h v + shown_size p h w ≤ 64
  short = join_fits p l h t v w (sym on.end)

  pub few : length bs ≤ 64
  few = let e = ap length on.bytes in let j = join_length p l h t v w in let s = short in omega arith

  value : CanEvaluate p l h t (instruction_c p i)
  value = can_evaluate p l h t i can.can

  entry : expression_at p (instruction_c p i) ≡ ExpressionEntry.Operate 12 a b
  entry = sym (join_entry p i can.can.joins)

  produces : CanProduce p l h t 12
  produces =
      flat_can p l h t (instruction_c p i) (record { can = value; no_frame = λ d q. let e = entry in let z : ◌≡◌ {A = ℕ} 0 1 = cc in omega arith })
      (ExpressionEntry.Operate 12 a b) (sym entry) 12 a b refl

  no_end : 0 ≡ expression_end p l h t (instruction_c p i)
  no_end = value_end p l h t i can.can 0 (met p l h t i v w can 0 on.end)

  -- the new made text
  module _ (u : Value) (h₁ t₁ : List ℕ) (made : MakesText h t bs u h₁ t₁) where
    m : Joins p l h t v w u h₁ t₁
    m = joins_made p l h t v w (record { readable = readable p l h t i v w can; short = short }) bs on.bytes u h₁ t₁ made

    evaluates : Evaluates p l h t (instruction_c p i) u h₁ t₁
    unfolding defined
    evaluates =
        operation_made p l h t (instruction_c p i) value 12 a b entry u h₁ t₁
        (producing.operation_both p l h t 12 a b produces (Some v) can.first v refl (Some w) can.second w u h₁ t₁ refl
        (produce_joined p l h t 12 v w produces (Ok Operated.Joined) (operates_join p l h t 12 v w (omega arith) refl on.end) refl u h₁ t₁ m))

    same_frames : frames_held h₁ ≡ frames_held h
    unfolding is_join operator_of
    same_frames =
        let few : length (texts_in_use h) < 256 = let q = produces.room.texts in omega arith in
        rw m.words (take_text_frames h value.writable.sized (next_text h) (next_text_below h few) (shown_size p h v + shown_size p h w) short).frames

  module _ (k j n : ℕ) (ek : k ≡ instruction_kind p i) (ej : j ≡ instruction_a p i) (en : n ≡ instruction_b p i) where
    abbrev own_path : Bool
    own_path = eqb k 0

    way : Assignment p l h t i j n (instruction_c p i) (root_of own_path h) (path_of own_path (path_list p n j))
    way = rw (ek, ej, en) (along p l h t i can.can)

    end_is : (e : ℕ) → e ≡ put_end p h (root_of own_path h) j n → e ≡ end_met p l h t i
    end_is e ee = way.checked e (assign_put p l h t (root_of own_path h) j n (instruction_c p i) 0 no_end e refl ee)

    made : 0 ≡ put_end p h (root_of own_path h) j n → (h₂ t₁ : List ℕ) → Assigns p l h t (path_of own_path (path_list p n j)) (instruction_c p i) h₂ t₁
        → (h₃ : List ℕ) → h₃ ≡ set_position h₂ (instruction_after p i) → JoinsOnce p l h t i 0 h₃ t₁
    made z h₂ t₁ d h₃ eh = record { end = end_is 0 z; made = λ q. way.done can.can.commits.writable h₂ t₁ h₃ d eh; kept = λ q. absurd (q refl) }

    pub join_set : n ≡ 0 → (u : Value) (h₁ t₁ : List ℕ) → MakesText h t bs u h₁ t₁ → (h₂ : List ℕ) → h₂ ≡ set_root (eqb k 0) h₁ u
        → (h₃ : List ℕ) → h₃ ≡ set_position h₂ (instruction_after p i) → JoinsOnce p l h t i 0 h₃ t₁
    join_set e u h₁ t₁ m h₂ e₂ h₃ e₃ =
        made (put_empty p h (root_of own_path h) j n e) h₂ t₁ (sets_root p l h t (instruction_c p i) u h₁ t₁ (evaluates u h₁ t₁ m) j n own_path e h₂ e₂) h₃ e₃

    module _ (ne : n ≡ 0 → ⊥) (root : Value) (eo : root ≡ root_of (eqb k 0) h) (r : Option PutTarget) (er : targeted r ≡ target_along (frames_held h) root (path_held p j n)) where
      target_is : targeted r ≡ target_along (frames_held h) (root_of own_path h) (path_held p j n)
      target_is = rw eo at er

      put_is : (e : ℕ) → e ≡ target_end (frames_held h) (target_along (frames_held h) (root_of own_path h) (path_held p j n)) → e ≡ put_end p h (root_of own_path h) j n
      put_is e ee = ends-laws.put_along p h (root_of own_path h) j n e ne ee

      pub join_nowhere : r ≡ None → JoinsOnce p l h t i 31 h t
      join_nowhere is = ended p l h t i can.can 31 (end_is 31 (put_is 31 (put_end_none (frames_held h) _ r target_is is))) (λ z. omega arith)

      module _ (at : PutTarget) (is : r ≡ Some at) (d : ℕ) (ed : d ≡ slot_end (get_elem? (frames_held h) at.frame) at.name) where
        slot_is : d ≡ put_end p h (root_of own_path h) j n
        slot_is = put_is d (put_end_at (frames_held h) _ r target_is at d is ed)

        pub join_full : (d ≡ 0 → ⊥) → JoinsOnce p l h t i d h t
        join_full some = ended p l h t i can.can d (end_is d slot_is) some

        pub join_put : d ≡ 0 → (u : Value) (h₁ t₁ : List ℕ) → MakesText h t bs u h₁ t₁ → (h₂ : List ℕ) → h₂ ≡ put_slot h₁ at.frame at.name u
            → (h₃ : List ℕ) → h₃ ≡ set_position h₂ (instruction_after p i) → JoinsOnce p l h t i 0 h₃ t₁
        join_put z u h₁ t₁ m h₂ e₂ h₃ e₃ =
            let here : targeted r ≡ target_along (frames_held h₁) (root_of own_path h) (path_held p j n) = rw (same_frames u h₁ t₁ m) target_is in
            let eh : h₂ ≡ put_along p h₁ (root_of own_path h) j n u = put_somewhere p h₁ (root_of own_path h) j n u r here at h₂ is e₂ in
            made (sym z ∙ slot_is) h₂ t₁ (puts_root p l h t (instruction_c p i) u h₁ t₁ (evaluates u h₁ t₁ m) j n ne (root_of own_path h) h₂ eh own_path refl) h₃ e₃
