-- Bytes written into a buffer from a position on, those past its end dropped. Nothing here is about Framed. Assumes nothing.
use Rattle.std.specs.Prelude.{ℕ, List}
use Rattle.std.proofs.lemmas.List.Edits.{sets}

unfoldable pub splice : List ℕ → ℕ → List ℕ → List ℕ
splice m at bs = sets m at bs
