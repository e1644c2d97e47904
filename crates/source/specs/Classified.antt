-- Document 01, "Tokens and grammar": the constant table of 256 entries has the class of each byte. Assumes nothing.
use Rattle.std.specs.Prelude.{◌≡◌, List, ℕ, ◌<◌, length, get_or}
use Rattle.framed.specs.Bytes.{class}

pub record Classified (t : List ℕ) : Type 0 where
  pub entries : length t ≡ 256
  pub rule : (b : ℕ) → b < 256 → get_or t b 0 ≡ class b
