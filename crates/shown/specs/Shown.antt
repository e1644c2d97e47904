-- Document 01, "The endless machine", show: how many bytes are shown of a value, from the words alone. Assumes nothing.
use Rattle.std.specs.Prelude.{ℕ, List, length}
use Rattle.framed.specs.declared.Value.{Value}
use Rattle.framed.specs.Values.{decimal}
use Rattle.texts.specs.Texts.{text_size}

unfoldable pub shown_size : List ℕ → List ℕ → Value → ℕ
shown_size p h (Value.Int z) = length (decimal z)
shown_size p h (Value.Text x) = text_size p h x
shown_size p h (Value.Code k) = 4
shown_size p h (Value.Frame n) = 5
