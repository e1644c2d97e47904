-- Sets of words: one inside another, two apart; what was written inside a set is known outside of it. Assumes nothing.
use mathlib.Core.Path.{refl, ◌∙◌}
use mathlib.Core.List.{List}
use Prim.Native.Nat.{ℕ, ◌+◌, ◌*◌, ◌≤◌, ◌<◌}
use native.Mathlib.Omega.{arith}
use Rattle.table_updates.proofs.Laws.{Region}
use Rattle.shapes.specs.Numbers.{Numbers}
use Rattle.shapes.specs.Shape.{SizeShaped}
use Rattle.emission.specs.Frame.{AtMost, Range, Part, InstructionPart, Writes, Same, Between}

-- ---- One inside another

module _ (s t u v : Numbers) (l : AtMost u s) (m : AtMost t v) where
  pub range_wider : (k : ℕ) → Range s t k → Range u v k
  range_wider k (Range.expression a b) = Range.expression (omega arith) (omega arith)
  range_wider k (Range.instruction a b) = Range.instruction (omega arith) (omega arith)
  range_wider k (Range.path_name a b) = Range.path_name (omega arith) (omega arith)
  range_wider k (Range.code a b) = Range.code (omega arith) (omega arith)

  pub part_wider : (x k : ℕ) → Part x s t k → Part x u v k
  part_wider x k (Part.entry a b) = Part.entry a b
  part_wider x k (Part.inner r) = Part.inner (range_wider k r)

  pub instruction_wider : (i k : ℕ) → InstructionPart i s t k → InstructionPart i u v k
  instruction_wider i k (InstructionPart.entry a b) = InstructionPart.entry a b
  instruction_wider i k (InstructionPart.inner r) = InstructionPart.inner (range_wider k r)

  pub part_in_range : (x : ℕ) → u.expressions ≤ x → x < v.expressions → (k : ℕ) → Part x s t k → Range u v k
  part_in_range x a b k (Part.entry c d) = Range.expression (omega arith) (omega arith)
  part_in_range x a b k (Part.inner r) = range_wider k r

  pub instruction_in_range : (i : ℕ) → u.instructions ≤ i → i < v.instructions → (k : ℕ) → InstructionPart i s t k → Range u v k
  instruction_in_range i a b k (InstructionPart.entry c d) = Range.instruction (omega arith) (omega arith)
  instruction_in_range i a b k (InstructionPart.inner r) = range_wider k r

-- ---- What is written

pub writes_nothing : (P : ℕ → Type 0) (w : List ℕ) → Writes P w w
writes_nothing P w = record { size = refl; away = λ k out. refl }

pub writes_then : (P : ℕ → Type 0) (w v u : List ℕ) → Writes P w v → Writes P v u → Writes P w u
writes_then P w v u a b = record { size = b.size ∙ a.size; away = λ k out. b.away k out ∙ a.away k out }

pub writes_wider : (P Q : ℕ → Type 0) (w v : List ℕ) → Writes P w v → ((k : ℕ) → P k → Q k) → Writes Q w v
writes_wider P Q w v a f = record { size = a.size; away = λ k out. a.away k (λ p. out (f k p)) }

pub writes_region : (P : ℕ → Type 0) (w v : List ℕ) (lo hi : ℕ) → Region w v lo hi → ((k : ℕ) → lo ≤ k → k < hi → P k) → Writes P w v
writes_region P w v lo hi a f = record { size = a.size; away = λ k out. a.away k (λ x y. out (f k x y)) }

pub region_writes : (w v : List ℕ) (lo hi : ℕ) → Region w v lo hi → Writes (Between lo hi) w v
region_writes w v lo hi a = writes_region _ w v lo hi a (λ k x y. record { from = x; below = y })

-- ---- Two apart

module _ (s t u v : Numbers) (m : AtMost t u) (f : SizeShaped t) (g : SizeShaped v) where
  pub range_apart : (k : ℕ) → Range s t k → Range u v k → ⊥
  range_apart k (Range.expression a b) (Range.expression c d) = omega arith
  range_apart k (Range.expression a b) (Range.instruction c d) = omega arith
  range_apart k (Range.expression a b) (Range.path_name c d) = omega arith
  range_apart k (Range.expression a b) (Range.code c d) = omega arith
  range_apart k (Range.instruction a b) (Range.expression c d) = omega arith
  range_apart k (Range.instruction a b) (Range.instruction c d) = omega arith
  range_apart k (Range.instruction a b) (Range.path_name c d) = omega arith
  range_apart k (Range.instruction a b) (Range.code c d) = omega arith
  range_apart k (Range.path_name a b) (Range.expression c d) = omega arith
  range_apart k (Range.path_name a b) (Range.instruction c d) = omega arith
  range_apart k (Range.path_name a b) (Range.path_name c d) = omega arith
  range_apart k (Range.path_name a b) (Range.code c d) = omega arith
  range_apart k (Range.code a b) (Range.expression c d) = omega arith
  range_apart k (Range.code a b) (Range.instruction c d) = omega arith
  range_apart k (Range.code a b) (Range.path_name c d) = omega arith
  range_apart k (Range.code a b) (Range.code c d) = omega arith

  pub range_apart_part : (y : ℕ) → t.expressions ≤ y → (k : ℕ) → Range s t k → Part y u v k → ⊥
  range_apart_part y l k (Range.expression a b) (Part.entry c d) = omega arith
  range_apart_part y l k (Range.instruction a b) (Part.entry c d) = omega arith
  range_apart_part y l k (Range.path_name a b) (Part.entry c d) = omega arith
  range_apart_part y l k (Range.code a b) (Part.entry c d) = omega arith
  range_apart_part y l k r (Part.inner q) = range_apart k r q

  pub part_apart_range : (x : ℕ) → x < u.expressions → (k : ℕ) → Part x s t k → Range u v k → ⊥
  part_apart_range x l k (Part.entry a b) (Range.expression c d) = omega arith
  part_apart_range x l k (Part.entry a b) (Range.instruction c d) = omega arith
  part_apart_range x l k (Part.entry a b) (Range.path_name c d) = omega arith
  part_apart_range x l k (Part.entry a b) (Range.code c d) = omega arith
  part_apart_range x l k (Part.inner r) q = range_apart k r q

  pub part_apart : (x y : ℕ) → x < y → x < u.expressions → t.expressions ≤ y → (k : ℕ) → Part x s t k → Part y u v k → ⊥
  part_apart x y lt l h k (Part.entry a b) (Part.entry c d) = omega arith
  part_apart x y lt l h k (Part.entry a b) (Part.inner q) = part_apart_range x l k (Part.entry a b) q
  part_apart x y lt l h k (Part.inner r) q = range_apart_part y h k r q

  pub instruction_apart_range : (i : ℕ) → i < 512 → i < u.instructions → (k : ℕ) → InstructionPart i s t k → Range u v k → ⊥
  instruction_apart_range i n l k (InstructionPart.entry a b) (Range.expression c d) = omega arith
  instruction_apart_range i n l k (InstructionPart.entry a b) (Range.instruction c d) = omega arith
  instruction_apart_range i n l k (InstructionPart.entry a b) (Range.path_name c d) = omega arith
  instruction_apart_range i n l k (InstructionPart.entry a b) (Range.code c d) = omega arith
  instruction_apart_range i n l k (InstructionPart.inner r) q = range_apart k r q

  pub instruction_apart : (i y : ℕ) → i < 512 → i < u.instructions → t.expressions ≤ y → (k : ℕ) → InstructionPart i s t k → Part y u v k → ⊥
  instruction_apart i y n l h k (InstructionPart.entry a b) (Part.entry c d) = omega arith
  instruction_apart i y n l h k (InstructionPart.entry a b) (Part.inner q) = instruction_apart_range i n l k (InstructionPart.entry a b) q
  instruction_apart i y n l h k (InstructionPart.inner r) q = range_apart_part y h k r q

-- a part is apart from the entries of larger and smaller numbers, and from the words of its entry that it leaves to its caller
module _ (s t : Numbers) (f : SizeShaped t) where
  pub part_apart_entry : (x lo : ℕ) → 7107 + 5 * x ≤ lo → lo ≤ 7109 + 5 * x → x < s.expressions → (k : ℕ) → Part x s t k → Between lo (7109 + 5 * x) k → ⊥
  part_apart_entry x lo n m l k (Part.entry a b) h = omega arith
  part_apart_entry x lo n m l k (Part.inner (Range.expression a b)) h = omega arith
  part_apart_entry x lo n m l k (Part.inner (Range.instruction a b)) h = omega arith
  part_apart_entry x lo n m l k (Part.inner (Range.path_name a b)) h = omega arith
  part_apart_entry x lo n m l k (Part.inner (Range.code a b)) h = omega arith

  pub part_apart_whole : (x y : ℕ) → y < x → y < s.expressions → (k : ℕ) → Part x s t k → Between (7104 + 5 * y) (7107 + 5 * y) k → ⊥
  part_apart_whole x y n l k (Part.entry a b) h = omega arith
  part_apart_whole x y n l k (Part.inner (Range.expression a b)) h = omega arith
  part_apart_whole x y n l k (Part.inner (Range.instruction a b)) h = omega arith
  part_apart_whole x y n l k (Part.inner (Range.path_name a b)) h = omega arith
  part_apart_whole x y n l k (Part.inner (Range.code a b)) h = omega arith

  pub range_apart_instruction : (i : ℕ) → i < 512 → i < s.instructions → (k : ℕ) → Range s t k → Between (4544 + 5 * i) (4548 + 5 * i) k → ⊥
  range_apart_instruction i n l k (Range.expression a b) h = omega arith
  range_apart_instruction i n l k (Range.instruction a b) h = omega arith
  range_apart_instruction i n l k (Range.path_name a b) h = omega arith
  range_apart_instruction i n l k (Range.code a b) h = omega arith

  pub part_apart_instruction : (x i : ℕ) → i < 512 → i < s.instructions → (k : ℕ) → Part x s t k → Between (4544 + 5 * i) (4548 + 5 * i) k → ⊥
  part_apart_instruction x i n l k (Part.entry a b) h = omega arith
  part_apart_instruction x i n l k (Part.inner r) h = range_apart_instruction i n l k r h

  pub instruction_apart_link : (i : ℕ) → i < 512 → i < s.instructions → (k : ℕ) → InstructionPart i s t k → Between (4548 + 5 * i) (4549 + 5 * i) k → ⊥
  instruction_apart_link i n l k (InstructionPart.entry a b) h = omega arith
  instruction_apart_link i n l k (InstructionPart.inner (Range.expression a b)) h = omega arith
  instruction_apart_link i n l k (InstructionPart.inner (Range.instruction a b)) h = omega arith
  instruction_apart_link i n l k (InstructionPart.inner (Range.path_name a b)) h = omega arith
  instruction_apart_link i n l k (InstructionPart.inner (Range.code a b)) h = omega arith

-- ---- Words that are the same

pub same_in : (P Q : ℕ → Type 0) (w p : List ℕ) → Same Q w p → ((k : ℕ) → P k → Q k) → Same P w p
same_in P Q w p a f = record { same = λ k h. a.same k (f k h) }

-- words that a write did not touch were the same before it
pub same_before : (P Q : ℕ → Type 0) (w v p : List ℕ) → Writes Q w v → Same P v p → ((k : ℕ) → P k → Q k → ⊥) → Same P w p
same_before P Q w v p a b f = record { same = λ k h. b.same k h ∙ a.away k (f k h) }
