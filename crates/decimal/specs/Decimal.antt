-- Document 01, "The endless machine": the decimal integer that `show` and `#` write. What it is, is `framed`'s `decimal`; here is where the code keeps it. Assumes nothing.
use Rattle.std.specs.Prelude.{ℕ, ◌≤◌, ◌≡◌, List, length, drop}

-- eleven bytes; those from `start` on are the list, and before it there is room for so many more
pub record Holds (room : ℕ) (bytes : List ℕ) (start : ℕ) (bs : List ℕ) : Type 0 where
  pub size : length bytes ≡ 11
  pub before : room ≤ start
  pub inside : start ≤ 11
  pub are : drop start bytes ≡ bs
