-- Document 01, "Whole memories" (here: well-formed), the clause on made texts in heap words h and text bytes t, as the tests that the code makes.
-- What they mean is `Form` of state_form. Assumes nothing.
use Rattle.std.specs.Prelude.{ℕ, List, Bool, ◌&&◌, leb}
use Rattle.words.specs.Words.{all_below}
use Rattle.framed.specs.Bytes.{string_byte}
use Rattle.heap.specs.Words.{text_length, text_byte}

unfoldable pub text_byte_formed : List ℕ → ℕ → ℕ → Bool
text_byte_formed t k i = string_byte (text_byte t k i)

unfoldable pub text_bytes_formed : List ℕ → ℕ → ℕ → Bool
text_bytes_formed t k n = all_below (text_byte_formed t k) n

unfoldable pub text_formed : List ℕ → List ℕ → ℕ → Bool
text_formed h t k = leb (text_length h k) 64 && text_bytes_formed t k (text_length h k)

unfoldable pub texts_formed : List ℕ → List ℕ → Bool
texts_formed h t = all_below (text_formed h t) 256
