-- The names and literals that program words hold, as this crate reads them, and the words without parts: one law for each way through a function. Assumes nothing.
use mathlib.Core.Path.{◌≡◌, ◌∙◌, ap, sym, subst}
use mathlib.Core.List.{List, [], ◌∷◌, ◌++◌, append-nil}
use Prim.Native.Nat.{ℕ, min, ◌+◌, ◌-◌, ◌*◌, ◌≤◌, ◌<◌}
use native.Mathlib.Nat.{min-le_left, min-le_right, min-eq_left, min-eq_right}
use native.Mathlib.Decide.{dec_le}
use native.Mathlib.Omega.{arith}
use lib.IntN.{ℤ}
use lib.ListN.{length, get_or, take, drop, length-drop}
use lib.Seq.{length-take-le, get_or-take, get_or-drop, take_all, ext_get_or}
use Rattle.framed.specs.Common.{bytes}
use Rattle.framed.specs.Tokens.{Token}
use Rattle.framed.specs.Values.{decimal}
use Rattle.framed.specs.Writer.{token_bytes, word_bytes, led, one}
use Rattle.splice.specs.Splice.{splice}
use Rattle.splice.proofs.Laws.{splice_past, splice_front}
use Rattle.words.specs.Words.{word}
use Rattle.tables.specs.Fields.{names, name_length, name_byte, literal_length, literal_byte}
use Rattle.trees.specs.Held.{name_bytes, literal_bytes, program_held}
use Rattle.trees.proofs.Held.{list_get, list_length, one_level_held}
use Rattle.decimal.specs.Decimal.{Holds}
use Rattle.decimal.proofs.Laws.{held_bytes}
use Rattle.texts.proofs.Inside.{literals_inside}
use Rattle.write_words.specs.Appending.{capped, CanAppend, Appended}
use Rattle.write_words.specs.Words.{name_table, integer_text, string_text, AtName, AtLiteral, FitsBytes}
use Rattle.write_words.proofs.Laws.{appended_then}

-- ---- copy_words

pub word_fits : (m : List ℕ) (at : ℕ) (w : List ℕ) → FitsBytes m at w → (i b : ℕ) → i < length w → b ≡ get_or w i 0 → b < 256
word_fits m at w f i b lt e = let q = f.bytes i lt in omega arith

-- ---- write_name

module _ (p : List ℕ) (k : ℕ) (at_name : AtName p k) where
  abbrev its_bytes : List ℕ
  its_bytes = get_or (name_table p) k []

  bytes_are : its_bytes ≡ name_bytes p k
  unfolding name_table
  bytes_are = let e : 0 + k ≡ k = omega arith in list_get (name_bytes p) [] (names p) 0 k at_name.there ∙ ap (name_bytes p) e

  pub name_size : length its_bytes ≡ name_length p k
  unfolding name_bytes
  name_size = ap length bytes_are ∙ list_length (name_byte p k) (name_length p k) 0

  byte_there : (i : ℕ) → i < name_length p k → get_or its_bytes i 0 ≡ name_byte p k i
  unfolding name_bytes
  byte_there i lt =
      let e : 0 + i ≡ i = omega arith in
      ap (λ (w : List ℕ). get_or w i 0) bytes_are ∙ list_get (name_byte p k) 0 (name_length p k) 0 i lt ∙ ap (name_byte p k) e

  -- where it stands in the program words
  inside : 65 + 17 * k + name_length p k ≤ length p
  inside =
      let w = at_name.program in
      let a = w.size in
      let b = w.entries.limits.names_most in
      let c = (w.entries.texts.name k at_name.there).most in
      let d = at_name.there in
      omega arith

  -- its first n bytes
  read : (n : ℕ) → n ≤ name_length p k → take n (drop (65 + 17 * k) p) ≡ take n its_bytes
  unfolding name_bytes name_byte word
  read n le =
      let q = inside in
      let z = name_size in
      let d = length-drop (65 + 17 * k) p in
      let t : length (take n (drop (65 + 17 * k) p)) ≡ n = length-take-le n (drop (65 + 17 * k) p) (omega arith) in
      ext_get_or 0 (take n (drop (65 + 17 * k) p)) (take n its_bytes) (t ∙ sym (length-take-le n its_bytes (omega arith)))
      (λ i lt.
      get_or-take n (drop (65 + 17 * k) p) i 0 (omega arith) ∙ get_or-drop (65 + 17 * k) p i 0
      ∙ sym (get_or-take n its_bytes i 0 (omega arith) ∙ byte_there i (omega arith)))

  -- the part that is copied: as much of it as there is space
  module _ (m : List ℕ) (at w v n : ℕ) (ew : w ≡ k) (ev : v ≡ name_length p k) (en : n ≡ min v (length m - at)) where
    pub name_end : 65 + 17 * w + n ≤ length p
    name_end = let i = inside in omega (arith, min-le_left v (length m - at))

    abbrev part : List ℕ
    part = take (65 + 17 * w + n - (65 + 17 * w)) (drop (65 + 17 * w) p)

    part_is : part ≡ take n its_bytes
    part_is =
        let e : 65 + 17 * w + n - (65 + 17 * w) ≡ n = omega arith in
        ap (λ (i : ℕ). take i (drop (65 + 17 * w) p)) e ∙ ap (λ (i : ℕ). take n (drop (65 + 17 * i) p)) ew ∙ read n (omega (arith, min-le_left v (length m - at)))

    pub name_fits : at < length m → FitsBytes m at part
    name_fits lt =
        let z = name_size in
        let c = min-le_left v (length m - at) in
        let d = min-le_right v (length m - at) in
        let l : length part ≡ n = ap length part_is ∙ length-take-le n its_bytes (omega arith) in
        record {
          fits = omega arith;
          bytes = λ i il.
              let q = (at_name.program.entries.texts.name k at_name.there).bytes i (omega arith) in
              subst (λ (b : ℕ). b < 256)
              (sym (ap (λ (x : List ℕ). get_or x i 0) part_is ∙ get_or-take n its_bytes i 0 (omega arith) ∙ byte_there i (omega arith))) q;
        }

    pub name_written : at < length m → (m' : List ℕ) → m' ≡ splice m at part → m' ≡ splice m at its_bytes
    name_written lt m' e = e ∙ ap (splice m at) part_is ∙ all_or_front (dec_le v (length m - at))
      where
        all_or_front : Dec (v ≤ length m - at) → splice m at (take n its_bytes) ≡ splice m at its_bytes
        all_or_front (yes le) =
            let z = name_size in
            let x : n ≡ v = en ∙ min-eq_left le in
            ap (splice m at) (take_all n its_bytes (omega arith))
        all_or_front (no gt) =
            let z = name_size in
            let x : n ≡ length m - at = en ∙ min-eq_right (omega arith) in
            ap (λ (i : ℕ). splice m at (take i its_bytes)) x ∙ splice_front m at its_bytes (omega arith) (omega arith)

pub name_past : (m : List ℕ) (at : ℕ) (s : List ℕ) → length m ≤ at → m ≡ splice m at s
name_past m at s le = sym (splice_past m at s le)

-- ---- append_name

pub name_appended : {p m m' : List ℕ} {k limit at n v r : ℕ} → AtName p k → m' ≡ splice m at (get_or (name_table p) k []) → n ≡ name_length p k → v ≡ n →
    r ≡ capped limit (at + v) → Appended m limit at (get_or (name_table p) k []) m' r
name_appended {p} {k = k} {limit = limit} {at = at} a w en ev e =
    record { buffer = w; next = e ∙ ap (λ (x : ℕ). capped limit (at + x)) (ev ∙ en ∙ sym (name_size p k a)) }

-- ---- append_integer

module _ {m m₁ m₂ bs : List ℕ} {limit at a r start : ℕ} {y z : ℤ} (can : CanAppend m limit at) (x : Appended m limit at (32 ∷ []) m₁ a) where
  pub integer_appended : Holds 0 bs start (decimal y) → y ≡ z → Appended m₁ limit a (take (11 - start) (drop start bs)) m₂ r → Appended m limit at (integer_text z) m₂ r
  unfolding integer_text led word_bytes token_bytes
  integer_appended h e w =
      let d : take (11 - start) (drop start bs) ≡ decimal z = held_bytes 0 bs start (decimal y) h ∙ ap decimal e in
      let t : 32 ∷ take (11 - start) (drop start bs) ≡ integer_text z =
      ap (λ (k : List ℕ). 32 ∷ k) (d ∙ sym (append-nil (decimal z ++ []) ∙ append-nil (decimal z))) in
      rw t at (appended_then can x w)

-- ---- append_string

module _ (p l : List ℕ) (k : ℕ) (at_literal : AtLiteral p l k) where
  literal_inside : 64 * k + literal_length p k ≤ length l
  literal_inside =
      let w = at_literal.program in
      (literals_inside p l w.literal_size w.entries.limits.literals_most (λ i lt. (w.entries.texts.literal i lt).most)).inside k at_literal.there

  literal_read : take (literal_length p k) (drop (64 * k) l) ≡ get_or (program_held p l).literals k []
  unfolding literal_bytes literal_byte word
  literal_read =
      let n = literal_length p k in
      let i = literal_inside in
      let d = length-drop (64 * k) l in
      let t : length (take n (drop (64 * k) l)) ≡ n = length-take-le n (drop (64 * k) l) (omega arith) in
      ext_get_or 0 (take n (drop (64 * k) l)) (literal_bytes p l k) (t ∙ sym (list_length (literal_byte l k) n 0))
      (λ i lt.
      let e : 0 + i ≡ i = omega arith in
      get_or-take n (drop (64 * k) l) i 0 (omega arith) ∙ get_or-drop (64 * k) l i 0
      ∙ sym (list_get (literal_byte l k) 0 n 0 i (omega arith) ∙ ap (literal_byte l k) e))
      ∙ sym ((one_level_held p l at_literal.program).literal k at_literal.there)

string_led : (s : List ℕ) → led (one (Token.string s) ∷ []) ≡ (32 ∷ 34 ∷ s) ++ (34 ∷ [])
unfolding led word_bytes token_bytes bytes
string_led s = ap (λ (t : List ℕ). 32 ∷ t) (append-nil ((34 ∷ s ++ (34 ∷ [])) ++ []) ∙ append-nil (34 ∷ s ++ (34 ∷ [])))

module _ {p l : List ℕ} {k w n v : ℕ} (at_literal : AtLiteral p l k) (ew : w ≡ k) (en : n ≡ literal_length p k) (ev : v ≡ n) where
  pub string_end : 64 * w + v ≤ length l
  string_end = let i = literal_inside p l k at_literal in omega arith

  string_bytes : take (64 * w + v - 64 * w) (drop (64 * w) l) ≡ get_or (program_held p l).literals k []
  string_bytes =
      let e : 64 * w + v - 64 * w ≡ literal_length p k = omega arith in
      ap (λ (i : ℕ). take i (drop (64 * w) l)) e ∙ ap (λ (i : ℕ). take (literal_length p k) (drop (64 * i) l)) ew ∙ literal_read p l k at_literal

  pub string_appended : {m m₁ m₂ m₃ : List ℕ} {limit at a b r : ℕ} → CanAppend m limit at → Appended m limit at (32 ∷ 34 ∷ []) m₁ a
      → Appended m₁ limit a (take (64 * w + v - 64 * w) (drop (64 * w) l)) m₂ b → Appended m₂ limit b (34 ∷ []) m₃ r → Appended m limit at (string_text p l k) m₃ r
  unfolding string_text
  string_appended can x y z = rw (string_led (get_or (program_held p l).literals k []), ← string_bytes) (appended_then can (appended_then can x y) z)
