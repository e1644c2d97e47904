-- What each accessor reads after each updater. `Local a b h h'`: h' differs from h in the words from a up to b alone; `Same a b h h'`: they agree there.
-- Each updater is shown `Local` once, each accessor is shown kept by `Same` once. Assumes nothing.
use Prim.Native.Nat.{ℕ, ◌+◌, ◌-◌, ◌*◌, ◌≤◌, ◌<◌}
use mathlib.Core.Path.{◌≡◌, refl, ◌∙◌, ap, ap₂}
use mathlib.Core.Logic.{◌≢◌}
use mathlib.Core.List.{List}
use mathlib.Core.Bool.{true, false, not}
use native.Mathlib.Omega.{arith}
use native.Mathlib.Decide.{ℕ_discrete}
use mir.Syntax.{w32}
use mir.Val.{SFits}
use lib.ListN.{length}
use lib.IntN.{ℤ}
use lib.Dec.{eqb}
use borrow.Author.Tests.{lt-leb, le-ltb, ne_eqb}
use Rattle.ints.specs.Ints.{int_of}
use Rattle.ints.proofs.Laws.{int_word, int_fits}
use Rattle.words.specs.Words.{word, set_word}
use Rattle.words.proofs.Laws.{set_size, word_other, word_same}
use Rattle.framed.specs.declared.Text.{Text}
use Rattle.framed.specs.declared.Value.{Value}
use Rattle.heap.specs.Closed.{ValueFits}
use Rattle.heap.specs.Words.{value_of, tag_of, number_of, self_held, program_held, position, end_mark}
use Rattle.heap.specs.Words.{frame_word, frame_used, slot_count_at, maker_at, slot_name_at, slot_tag_at, slot_number_at, slot_value_at, text_word, text_used, text_length, text_byte}
use Rattle.heap.specs.Words.{set_self, set_program, set_position, set_end_mark, set_slot_value, add_slot_at, add_slot, take_frame, take_text, set_text_byte}

-- ---- Values

value_of_text : (t : Text) → value_of (tag_of (Value.Text t)) (number_of (Value.Text t)) ≡ Value.Text t
unfolding value_of
value_of_text (Text.Literal n) = refl
value_of_text (Text.Made n) = refl

-- a value written as tag and number is read back
pub value_back : (v : Value) → ValueFits v → value_of (tag_of v) (number_of v) ≡ v
unfolding value_of
value_back (Value.Int n) f = ap Value.Int (int_word n (f.int n refl))
value_back (Value.Text t) f = value_of_text t
value_back (Value.Code n) f = refl
value_back (Value.Frame n) f = refl

value_read : (a b : ℕ) (v : Value) → ValueFits v → a ≡ tag_of v → b ≡ number_of v → value_of a b ≡ v
value_read a b v f p q = ap₂ value_of p q ∙ value_back v f

-- the five values that a tag and a number give
pub value_case : (P : Value → Type 0) (t n : ℕ) → (t ≡ 0 → (z : ℤ) → SFits w32 z → P (Value.Int z)) → (t ≡ 1 → P (Value.Text (Text.Literal n)))
    → (t ≡ 2 → P (Value.Text (Text.Made n))) → (t ≡ 3 → P (Value.Code n)) → (3 < t → P (Value.Frame n)) → P (value_of t n)
unfolding value_of
value_case P t n p0 p1 p2 p3 p4 = go (ℕ_discrete t 0) (ℕ_discrete t 1) (ℕ_discrete t 2) (ℕ_discrete t 3)
  where
    go : Dec (t ≡ 0) → Dec (t ≡ 1) → Dec (t ≡ 2) → Dec (t ≡ 3) → P (value_of t n)
    go (yes a) b c d = rw a (p0 a (int_of n) (int_fits n))
    go (no a) (yes b) c d = rw b (p1 b)
    go (no a) (no b) (yes c) d = rw c (p2 c)
    go (no a) (no b) (no c) (yes d) = rw d (p3 d)
    go (no a) (no b) (no c) (no d) = rw (ne_eqb t 0 a, ne_eqb t 1 b, ne_eqb t 2 c, ne_eqb t 3 d) (p4 (omega arith))

-- whatever the words, the value read has an integer of 32 bits
pub value_fits : (t n : ℕ) → ValueFits (value_of t n)
value_fits t n =
    value_case (λ v. ValueFits v) t n
    (λ e z f. record { int = λ y q. let p : z ≡ y = cc in rw (← p) f }) (λ e. record { int = λ y q. absurd (let p : ◌≡◌ {A = ℕ} 0 1 = cc in omega arith) })
    (λ e. record { int = λ y q. absurd (let p : ◌≡◌ {A = ℕ} 0 1 = cc in omega arith) }) (λ e. record { int = λ y q. absurd (let p : ◌≡◌ {A = ℕ} 0 1 = cc in omega arith) })
    (λ e. record { int = λ y q. absurd (let p : ◌≡◌ {A = ℕ} 0 1 = cc in omega arith) })

module _ (h : List ℕ) where
  pub self_fits : ValueFits (self_held h)
  unfolding self_held
  self_fits = value_fits _ _

  pub program_fits : ValueFits (program_held h)
  unfolding program_held
  program_fits = value_fits _ _

  pub slot_fits : (f i : ℕ) → ValueFits (slot_value_at h f i)
  unfolding slot_value_at
  slot_fits f i = value_fits _ _

-- ---- Regions

pub record Local (a b : ℕ) (h h' : List ℕ) : Type 0 where
  pub size : length h' ≡ length h
  pub away : (k : ℕ) → (a ≤ k → k < b → ⊥) → word h' k ≡ word h k

pub record Same (a b : ℕ) (h h' : List ℕ) : Type 0 where
  pub agree : (k : ℕ) → a ≤ k → k < b → word h' k ≡ word h k

pub local_trans : {a b : ℕ} {h h' h'' : List ℕ} → Local a b h h' → Local a b h' h'' → Local a b h h''
local_trans p q = record { size = q.size ∙ p.size; away = λ k n. q.away k n ∙ p.away k n }

pub local_set : (a b : ℕ) (h : List ℕ) (k x : ℕ) → a ≤ k → k < b → Local a b h (set_word h k x)
local_set a b h k x lo hi = record { size = set_size h k x; away = λ j n. word_other _ _ _ _ _ (λ e. n (omega arith) (omega arith)) refl }

pub local_same : {a b : ℕ} {h h' : List ℕ} → Local a b h h' → (c d : ℕ) → ((k : ℕ) → c ≤ k → k < d → a ≤ k → k < b → ⊥) → Same c d h h'
local_same l c d n = record { agree = λ k lo hi. l.away k (n k lo hi) }

pub same_part : {a b : ℕ} {h h' : List ℕ} → Same a b h h' → (c d : ℕ) → a ≤ c → d ≤ b → Same c d h h'
same_part s c d le le' = record { agree = λ k lo hi. s.agree k (omega arith) (omega arith) }

-- ---- In use or not, by the one word that says it

module _ (h h' : List ℕ) (n : ℕ) where
  pub frame_used_word : frame_word h' n ≡ frame_word h n → frame_used h' n ≡ frame_used h n
  unfolding frame_used
  frame_used_word e = ap (λ (x : ℕ). eqb x 1) e

  pub text_used_word : text_word h' n ≡ text_word h n → text_used h' n ≡ text_used h n
  unfolding text_used
  text_used_word e = ap (λ (x : ℕ). not (eqb x 0)) e

  pub text_length_word : text_word h' n ≡ text_word h n → text_length h' n ≡ text_length h n
  unfolding text_length
  text_length_word e = ap (λ (x : ℕ). x - 1) e

module _ (h : List ℕ) (n : ℕ) where
  pub frame_word_free : frame_word h n ≡ 0 → frame_used h n ≡ false
  unfolding frame_used
  frame_word_free e = rw e

  pub text_word_free : text_word h n ≡ 0 → text_used h n ≡ false
  unfolding text_used
  text_word_free e = rw e

-- ---- What agreement keeps

module _ {h h' : List ℕ} where
  pub same_self : Same 0 2 h h' → self_held h' ≡ self_held h
  unfolding self_held
  same_self s = ap₂ value_of (s.agree 0 (omega arith) (omega arith)) (s.agree 1 (omega arith) (omega arith))

  pub same_program : Same 2 4 h h' → program_held h' ≡ program_held h
  unfolding program_held
  same_program s = ap₂ value_of (s.agree 2 (omega arith) (omega arith)) (s.agree 3 (omega arith) (omega arith))

  pub same_position : Same 4 5 h h' → position h' ≡ position h
  unfolding position
  same_position s = s.agree 4 (omega arith) (omega arith)

  pub same_end_mark : Same 5 6 h h' → end_mark h' ≡ end_mark h
  unfolding end_mark
  same_end_mark s = s.agree 5 (omega arith) (omega arith)

  module _ (g : ℕ) where
    pub same_frame_word : Same (128 + 51 * g) (129 + 51 * g) h h' → frame_word h' g ≡ frame_word h g
    unfolding frame_word
    same_frame_word s = s.agree (128 + 51 * g) (omega arith) (omega arith)

    pub same_frame_used : Same (128 + 51 * g) (129 + 51 * g) h h' → frame_used h' g ≡ frame_used h g
    same_frame_used s = frame_used_word h h' g (same_frame_word s)

    -- the words of a frame but for the first: its slots and its maker
    module _ (s : Same (129 + 51 * g) (179 + 51 * g) h h') where
      pub same_count : slot_count_at h' g ≡ slot_count_at h g
      unfolding slot_count_at
      same_count = s.agree (129 + 51 * g) (omega arith) (omega arith)

      pub same_maker : maker_at h' g ≡ maker_at h g
      unfolding maker_at
      same_maker = s.agree (130 + 51 * g) (omega arith) (omega arith)

      pub same_name : (i : ℕ) → i < 16 → slot_name_at h' g i ≡ slot_name_at h g i
      unfolding slot_name_at
      same_name i lt = s.agree (131 + 51 * g + 3 * i) (omega arith) (omega arith)

      pub same_tag : (i : ℕ) → i < 16 → slot_tag_at h' g i ≡ slot_tag_at h g i
      unfolding slot_tag_at
      same_tag i lt = s.agree (132 + 51 * g + 3 * i) (omega arith) (omega arith)

      pub same_number : (i : ℕ) → i < 16 → slot_number_at h' g i ≡ slot_number_at h g i
      unfolding slot_number_at
      same_number i lt = s.agree (133 + 51 * g + 3 * i) (omega arith) (omega arith)

      pub same_value : (i : ℕ) → i < 16 → slot_value_at h' g i ≡ slot_value_at h g i
      unfolding slot_value_at
      same_value i lt = ap₂ value_of (same_tag i lt) (same_number i lt)

  module _ (k : ℕ) (s : Same (13184 + k) (13185 + k) h h') where
    pub same_text_word : text_word h' k ≡ text_word h k
    unfolding text_word
    same_text_word = s.agree (13184 + k) (omega arith) (omega arith)

    pub same_text_used : text_used h' k ≡ text_used h k
    same_text_used = text_used_word h h' k same_text_word

    pub same_text_length : text_length h' k ≡ text_length h k
    same_text_length = text_length_word h h' k same_text_word

-- ---- The header

module _ (h : List ℕ) (size : length h ≡ 16384) where
  pub set_self_local : (v : Value) → Local 0 2 h (set_self h v)
  unfolding set_self
  set_self_local v = local_trans (local_set 0 2 h _ _ (omega arith) (omega arith)) (local_set 0 2 _ _ _ (omega arith) (omega arith))

  pub set_self_self : (v : Value) → ValueFits v → self_held (set_self h v) ≡ v
  unfolding set_self self_held
  set_self_self v f = value_read _ _ v f (word_other _ _ _ _ _ (omega arith) (word_same _ _ _ (omega arith))) (word_same _ _ _ (simp set_size (omega arith)))

  pub set_program_local : (v : Value) → Local 2 4 h (set_program h v)
  unfolding set_program
  set_program_local v = local_trans (local_set 2 4 h _ _ (omega arith) (omega arith)) (local_set 2 4 _ _ _ (omega arith) (omega arith))

  pub set_program_program : (v : Value) → ValueFits v → program_held (set_program h v) ≡ v
  unfolding set_program program_held
  set_program_program v f = value_read _ _ v f (word_other _ _ _ _ _ (omega arith) (word_same _ _ _ (omega arith))) (word_same _ _ _ (simp set_size (omega arith)))

  pub set_position_local : (p : ℕ) → Local 4 5 h (set_position h p)
  unfolding set_position
  set_position_local p = local_set 4 5 h _ _ (omega arith) (omega arith)

  pub set_position_position : (p : ℕ) → position (set_position h p) ≡ p
  unfolding set_position position
  set_position_position p = word_same _ _ _ (omega arith)

  pub set_end_local : (e : ℕ) → Local 5 6 h (set_end_mark h e)
  unfolding set_end_mark
  set_end_local e = local_set 5 6 h _ _ (omega arith) (omega arith)

  pub set_end_end : (e : ℕ) → end_mark (set_end_mark h e) ≡ e
  unfolding set_end_mark end_mark
  set_end_end e = word_same _ _ _ (omega arith)

-- ---- Frames

-- set_slot_value
module _ (h : List ℕ) (f i : ℕ) (v : Value) (size : length h ≡ 16384) (hf : f < 256) (hi : i < 16) where
  pub set_slot_local : Local (129 + 51 * f) (179 + 51 * f) h (set_slot_value h f i v)
  unfolding set_slot_value
  set_slot_local = local_trans (local_set _ _ h _ _ (omega arith) (omega arith)) (local_set _ _ _ _ _ (omega arith) (omega arith))

  pub set_slot_tag : slot_tag_at (set_slot_value h f i v) f i ≡ tag_of v
  unfolding set_slot_value slot_tag_at
  set_slot_tag = word_other _ _ _ _ _ (omega arith) (word_same _ _ _ (omega arith))

  pub set_slot_number : slot_number_at (set_slot_value h f i v) f i ≡ number_of v
  unfolding set_slot_value slot_number_at
  set_slot_number = word_same _ _ _ (simp set_size (omega arith))

  pub set_slot_is : ValueFits v → slot_value_at (set_slot_value h f i v) f i ≡ v
  unfolding slot_value_at
  set_slot_is vf = value_read _ _ v vf set_slot_tag set_slot_number

  pub set_slot_count : slot_count_at (set_slot_value h f i v) f ≡ slot_count_at h f
  unfolding set_slot_value slot_count_at
  set_slot_count = word_other _ _ _ _ _ (omega arith) (word_other _ _ _ _ _ (omega arith) refl)

  pub set_slot_maker : maker_at (set_slot_value h f i v) f ≡ maker_at h f
  unfolding set_slot_value maker_at
  set_slot_maker = word_other _ _ _ _ _ (omega arith) (word_other _ _ _ _ _ (omega arith) refl)

  pub set_slot_name : (j : ℕ) → j < 16 → slot_name_at (set_slot_value h f i v) f j ≡ slot_name_at h f j
  unfolding set_slot_value slot_name_at
  set_slot_name j hj = word_other _ _ _ _ _ (omega arith) (word_other _ _ _ _ _ (omega arith) refl)

  pub set_slot_other_tag : (j : ℕ) → j < 16 → j ≢ i → slot_tag_at (set_slot_value h f i v) f j ≡ slot_tag_at h f j
  unfolding set_slot_value slot_tag_at
  set_slot_other_tag j hj ne = word_other _ _ _ _ _ (omega arith) (word_other _ _ _ _ _ (omega arith) refl)

  pub set_slot_other_number : (j : ℕ) → j < 16 → j ≢ i → slot_number_at (set_slot_value h f i v) f j ≡ slot_number_at h f j
  unfolding set_slot_value slot_number_at
  set_slot_other_number j hj ne = word_other _ _ _ _ _ (omega arith) (word_other _ _ _ _ _ (omega arith) refl)

  pub set_slot_other : (j : ℕ) → j < 16 → j ≢ i → slot_value_at (set_slot_value h f i v) f j ≡ slot_value_at h f j
  unfolding slot_value_at
  set_slot_other j hj ne = ap₂ value_of (set_slot_other_tag j hj ne) (set_slot_other_number j hj ne)

-- add_slot, with room
module _ (h : List ℕ) (f x : ℕ) (v : Value) (room : slot_count_at h f < 16) where
  pub add_slot_is : add_slot h f x v ≡ add_slot_at h f (slot_count_at h f) x v
  unfolding add_slot
  add_slot_is = rw (lt-leb 16 (slot_count_at h f) room)

module _ (h : List ℕ) (f n x : ℕ) (v : Value) (size : length h ≡ 16384) (hf : f < 256) (hn : n < 16) where
  pub add_slot_local : Local (129 + 51 * f) (179 + 51 * f) h (add_slot_at h f n x v)
  unfolding add_slot_at set_slot_value
  add_slot_local =
      local_trans (local_set _ _ h _ _ (omega arith) (omega arith))
      (local_trans (local_set _ _ _ _ _ (omega arith) (omega arith))
      (local_trans (local_set _ _ _ _ _ (omega arith) (omega arith)) (local_set _ _ _ _ _ (omega arith) (omega arith))))

  pub add_slot_count : slot_count_at (add_slot_at h f n x v) f ≡ n + 1
  unfolding add_slot_at set_slot_value slot_count_at
  add_slot_count = word_same _ _ _ (simp set_size (omega arith))

  pub add_slot_maker : maker_at (add_slot_at h f n x v) f ≡ maker_at h f
  unfolding add_slot_at set_slot_value maker_at
  add_slot_maker = word_other _ _ _ _ _ (omega arith) (word_other _ _ _ _ _ (omega arith) (word_other _ _ _ _ _ (omega arith) (word_other _ _ _ _ _ (omega arith) refl)))

  pub add_slot_name : slot_name_at (add_slot_at h f n x v) f n ≡ x
  unfolding add_slot_at set_slot_value slot_name_at
  add_slot_name = word_other _ _ _ _ _ (omega arith) (word_other _ _ _ _ _ (omega arith) (word_other _ _ _ _ _ (omega arith) (word_same _ _ _ (omega arith))))

  pub add_slot_tag : slot_tag_at (add_slot_at h f n x v) f n ≡ tag_of v
  unfolding add_slot_at set_slot_value slot_tag_at
  add_slot_tag = word_other _ _ _ _ _ (omega arith) (word_other _ _ _ _ _ (omega arith) (word_same _ _ _ (simp set_size (omega arith))))

  pub add_slot_number : slot_number_at (add_slot_at h f n x v) f n ≡ number_of v
  unfolding add_slot_at set_slot_value slot_number_at
  add_slot_number = word_other _ _ _ _ _ (omega arith) (word_same _ _ _ (simp set_size (omega arith)))

  pub add_slot_value : ValueFits v → slot_value_at (add_slot_at h f n x v) f n ≡ v
  unfolding slot_value_at
  add_slot_value vf = value_read _ _ v vf add_slot_tag add_slot_number

  pub add_slot_old_name : (j : ℕ) → j < n → slot_name_at (add_slot_at h f n x v) f j ≡ slot_name_at h f j
  unfolding add_slot_at set_slot_value slot_name_at
  add_slot_old_name j hj = word_other _ _ _ _ _ (omega arith) (word_other _ _ _ _ _ (omega arith) (word_other _ _ _ _ _ (omega arith) (word_other _ _ _ _ _ (omega arith) refl)))

  pub add_slot_old_tag : (j : ℕ) → j < n → slot_tag_at (add_slot_at h f n x v) f j ≡ slot_tag_at h f j
  unfolding add_slot_at set_slot_value slot_tag_at
  add_slot_old_tag j hj = word_other _ _ _ _ _ (omega arith) (word_other _ _ _ _ _ (omega arith) (word_other _ _ _ _ _ (omega arith) (word_other _ _ _ _ _ (omega arith) refl)))

  pub add_slot_old_number : (j : ℕ) → j < n → slot_number_at (add_slot_at h f n x v) f j ≡ slot_number_at h f j
  unfolding add_slot_at set_slot_value slot_number_at
  add_slot_old_number j hj = word_other _ _ _ _ _ (omega arith) (word_other _ _ _ _ _ (omega arith) (word_other _ _ _ _ _ (omega arith) (word_other _ _ _ _ _ (omega arith) refl)))

  pub add_slot_old_value : (j : ℕ) → j < n → slot_value_at (add_slot_at h f n x v) f j ≡ slot_value_at h f j
  unfolding slot_value_at
  add_slot_old_value j hj = ap₂ value_of (add_slot_old_tag j hj) (add_slot_old_number j hj)

-- take_frame
module _ (h : List ℕ) (f m : ℕ) (size : length h ≡ 16384) (hf : f < 256) where
  pub take_frame_local : Local (128 + 51 * f) (179 + 51 * f) h (take_frame h f m)
  unfolding take_frame
  take_frame_local =
      local_trans (local_set _ _ h _ _ (omega arith) (omega arith))
      (local_trans (local_set _ _ _ _ _ (omega arith) (omega arith)) (local_set _ _ _ _ _ (omega arith) (omega arith)))

  pub take_frame_word : frame_word (take_frame h f m) f ≡ 1
  unfolding take_frame frame_word
  take_frame_word = word_other _ _ _ _ _ (omega arith) (word_other _ _ _ _ _ (omega arith) (word_same _ _ _ (omega arith)))

  pub take_frame_used : frame_used (take_frame h f m) f ≡ true
  unfolding frame_used
  take_frame_used = ap (λ (n : ℕ). eqb n 1) take_frame_word

  pub take_frame_count : slot_count_at (take_frame h f m) f ≡ 0
  unfolding take_frame slot_count_at
  take_frame_count = word_other _ _ _ _ _ (omega arith) (word_same _ _ _ (simp set_size (omega arith)))

  pub take_frame_maker : maker_at (take_frame h f m) f ≡ m
  unfolding take_frame maker_at
  take_frame_maker = word_same _ _ _ (simp set_size (omega arith))

-- ---- Made texts

module _ (h : List ℕ) (k : ℕ) (size : length h ≡ 16384) (hk : k < 256) where
  module _ (n : ℕ) (hn : n ≤ 64) where
    pub take_text_local : Local (13184 + k) (13185 + k) h (take_text h k n)
    unfolding take_text
    take_text_local = rw (le-ltb 64 n hn) (local_set _ _ h _ _ (omega arith) (omega arith))

    pub take_text_word : text_word (take_text h k n) k ≡ n + 1
    unfolding take_text text_word
    take_text_word = rw (le-ltb 64 n hn) (word_same _ _ _ (omega arith))

module _ (t : List ℕ) (k i b : ℕ) where
  pub set_byte_local : Local (64 * k + i) (64 * k + i + 1) t (set_text_byte t k i b)
  unfolding set_text_byte
  set_byte_local = local_set _ _ t _ _ (omega arith) (omega arith)

  pub set_byte_is : length t ≡ 16384 → k < 256 → i < 64 → text_byte (set_text_byte t k i b) k i ≡ b
  unfolding set_text_byte text_byte
  set_byte_is size hk hi = word_same _ _ _ (omega arith)

  -- another byte of any text
  pub set_byte_other : (l j : ℕ) → i < 64 → j < 64 → ((l ≡ k) → (j ≡ i) → ⊥) → text_byte (set_text_byte t k i b) l j ≡ text_byte t l j
  unfolding set_text_byte text_byte
  set_byte_other l j hi hj ne = word_other _ _ _ _ _ (λ e. ne (omega arith) (omega arith)) refl
