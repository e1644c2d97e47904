-- Document 01, "A printed run": the line of a refusal and the last line of a run, and bytes appended to a buffer. Assumes nothing.
use Rattle.std.specs.Prelude.{◌≡◌, List, [], ◌∷◌, ◌++◌, ℕ, ◌+◌, length, take}
use Rattle.framed.specs.Common.{bytes}
use Rattle.framed.specs.declared.RunReport.{RunReport}
use Rattle.framed.specs.declared.Totals.{Totals}
use Rattle.framed.specs.Answers.{Stopped, stop_word}
use Rattle.framed.specs.Framerun.{number, stop_bytes}
use Rattle.splice.specs.Splice.{splice}

-- `refused N`
unfoldable pub refused_line : ℕ → List ℕ
refused_line n = bytes "refused " ++ (number n ++ (10 ∷ []))

-- ` steps S frames F texts T`
unfoldable pub counts_line : (steps frames texts : ℕ) → List ℕ
counts_line steps frames texts =
    bytes " steps " ++ (number steps ++ (bytes " frames " ++ (number frames ++ (bytes " texts " ++ (number texts ++ (10 ∷ []))))))

-- `end E steps S frames F texts T`
unfoldable pub end_line : Stopped → (steps frames texts : ℕ) → List ℕ
end_line why steps frames texts = bytes "end " ++ (stop_bytes why ++ counts_line steps frames texts)

-- what is printed of a run: its shows, and the last line
unfoldable pub ran_lines : List ℕ → RunReport → Totals → List ℕ
ran_lines shown r t = take r.bytes shown ++ end_line (stop_word r.stop) r.steps t.frames t.texts

-- the bytes are written from the position on, what lies past the end is dropped, and the answer is the position behind them
pub record Appends (m : List ℕ) (at : ℕ) (bs : List ℕ) (m' : List ℕ) (r : ℕ) : Type 0 where
  pub written : m' ≡ splice m at bs
  pub behind : r ≡ at + length bs
