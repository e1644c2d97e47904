-- docs/LAYOUT.md, program words: which words emission touches. Assumes nothing.
use Rattle.std.specs.Prelude.{◌≡◌, List, ℕ, ◌+◌, ◌*◌, ◌≤◌, ◌<◌, length}
use Rattle.words.specs.Words.{word}
use Rattle.shapes.specs.Numbers.{Numbers}

-- none of the numbers is larger
pub record AtMost (s t : Numbers) : Type 0 where
  pub expressions : s.expressions ≤ t.expressions
  pub instructions : s.instructions ≤ t.instructions
  pub path_names : s.path_names ≤ t.path_names
  pub codes : s.codes ≤ t.codes

-- word k belongs to an expression, an instruction, a path name or a code's first instruction with a number from s on and below t
pub data Range (s t : Numbers) (k : ℕ) : Type 0 where
  expression : 7104 + 5 * s.expressions ≤ k → k < 7104 + 5 * t.expressions → Range s t k
  instruction : 4544 + 5 * s.instructions ≤ k → k < 4544 + 5 * t.instructions → Range s t k
  path_name : 2496 + s.path_names ≤ k → k < 2496 + t.path_names → Range s t k
  code : 2368 + s.codes ≤ k → k < 2368 + t.codes → Range s t k

-- or to the kind, a or b of expression x; or to the kind, a, b or c of instruction i
pub data Part (x : ℕ) (s t : Numbers) (k : ℕ) : Type 0 where
  entry : 7104 + 5 * x ≤ k → k < 7107 + 5 * x → Part x s t k
  inner : Range s t k → Part x s t k

pub data InstructionPart (i : ℕ) (s t : Numbers) (k : ℕ) : Type 0 where
  entry : 4544 + 5 * i ≤ k → k < 4548 + 5 * i → InstructionPart i s t k
  inner : Range s t k → InstructionPart i s t k

-- v has the length of w, and the words of w but for those with P
pub record Writes (P : ℕ → Type 0) (w v : List ℕ) : Type 0 where
  pub size : length v ≡ length w
  pub away : (k : ℕ) → (P k → ⊥) → word v k ≡ word w k

-- p has the words of w with P
pub record Same (P : ℕ → Type 0) (w p : List ℕ) : Type 0 where
  pub same : (k : ℕ) → P k → word p k ≡ word w k

pub record Between (lo hi k : ℕ) : Type 0 where
  pub from : lo ≤ k
  pub below : k < hi
