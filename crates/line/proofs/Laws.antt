-- One law for each way through the functions of this crate. Assumes nothing.
use Prim.Native.Nat.{ℕ, ◌+◌, ◌-◌, ◌≤◌, ◌<◌}
use mathlib.Core.Path.{◌≡◌, ◌∙◌, ap, sym}
use mathlib.Core.List.{List, [], ◌∷◌, ◌++◌}
use native.Mathlib.Omega.{arith}
use lib.IntN.{ℤ}
use lib.ListN.{length, take, drop, length-append}
use borrow.Author.Tests.{le-leb, lt-leb}
use Rattle.words.specs.Words.{set_word}
use Rattle.framed.specs.declared.Text.{Text}
use Rattle.framed.specs.declared.Value.{Value}
use Rattle.framed.specs.Common.{bytes}
use Rattle.framed.specs.Values.{decimal, text_bytes, shown}
use Rattle.decimal.specs.Decimal.{Holds}
use Rattle.decimal.proofs.Laws.{held_bytes}
use Rattle.splice.specs.Splice.{splice}
use Rattle.splice.proofs.Laws.{splice_append}
use Rattle.line.specs.Line.{line_bytes, line_answer, line_output, WritesLine}

-- byte 10 is one byte more
one_more : (bs : List ℕ) → length (bs ++ (10 ∷ [])) ≡ length bs + 1
one_more bs = length-append bs (10 ∷ [])

-- so a line is not empty
pub line_some : (literals made : List (List ℕ)) (v : Value) → 0 < length (line_bytes literals made v)
unfolding line_bytes
line_some literals made v = let e = one_more (shown literals made v) in omega arith

-- write_bytes
module _ (bs m : List ℕ) (at : ℕ) where
  pub bytes_too_long : length m - at ≤ length bs → WritesLine (bs ++ (10 ∷ [])) m at 0 m
  unfolding line_answer line_output
  bytes_too_long le =
      let e = one_more bs in
      let q = lt-leb (length (bs ++ (10 ∷ []))) (length m - at) (omega arith) in
      record { answer = rw q; output = rw q }

  pub bytes_written : length bs < length m - at → (m' m'' : List ℕ) → m' ≡ splice m at bs → m'' ≡ set_word m' (at + length bs) 10
      → WritesLine (bs ++ (10 ∷ [])) m at (length bs + 1) m''
  unfolding line_answer line_output splice set_word
  bytes_written lt m' m'' e' e'' =
      let e = one_more bs in
      let q = le-leb (length (bs ++ (10 ∷ []))) (length m - at) (omega arith) in
      record {
        answer = rw q (sym e);
        output = rw q (e'' ∙ ap (λ (x : List ℕ). set_word x (at + length bs) 10) e' ∙ sym (splice_append m at bs (10 ∷ [])));
      }

-- write_integer
pub digits_written : (y z : ℤ) (bs : List ℕ) (start : ℕ) → Holds 0 bs start (decimal y) → y ≡ z → (m m' : List ℕ) (at r : ℕ)
    → WritesLine (take (11 - start) (drop start bs) ++ (10 ∷ [])) m at r m' → WritesLine (decimal z ++ (10 ∷ [])) m at r m'
digits_written y z bs start a e m m' at r w =
    let q : take (11 - start) (drop start bs) ≡ decimal z = held_bytes 0 bs start (decimal y) a ∙ ap decimal e in
    rw q at w

-- write_line
module _ (literals made : List (List ℕ)) (v : Value) (m m' : List ℕ) (at r : ℕ) where
  pub writes_int : (y z : ℤ) → v ≡ Value.Int z → WritesLine (decimal y ++ (10 ∷ [])) m at r m' → y ≡ z → WritesLine (line_bytes literals made v) m at r m'
  unfolding line_bytes shown
  writes_int y z ev w e = rw (ev, ← e) w

  pub writes_text : (x : Text) (bs : List ℕ) → v ≡ Value.Text x → bs ≡ text_bytes literals made x → WritesLine (bs ++ (10 ∷ [])) m at r m'
      → WritesLine (line_bytes literals made v) m at r m'
  unfolding line_bytes shown
  writes_text x bs ev e w = rw (ev, ← e) w

  pub writes_code : (k : ℕ) → v ≡ Value.Code k → WritesLine ((99 ∷ 111 ∷ 100 ∷ 101 ∷ []) ++ (10 ∷ [])) m at r m' → WritesLine (line_bytes literals made v) m at r m'
  unfolding line_bytes shown bytes
  writes_code k ev w = rw ev w

  pub writes_frame : (n : ℕ) → v ≡ Value.Frame n → WritesLine ((102 ∷ 114 ∷ 97 ∷ 109 ∷ 101 ∷ []) ++ (10 ∷ [])) m at r m' → WritesLine (line_bytes literals made v) m at r m'
  unfolding line_bytes shown bytes
  writes_frame n ev w = rw ev w
