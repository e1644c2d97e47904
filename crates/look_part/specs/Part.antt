-- Document 01, the companion of look: a text as a part of the literal bytes or of the text bytes, and no bytes for another kind or a refusal. Where there is no
-- text, the part is the empty one at the start of the literal bytes. Assumes nothing.
use Rattle.std.specs.Prelude.{◌≡◌, List, ℕ, ◌+◌, ◌*◌, ltb}
use Rattle.std.specs.Borrow.{Bor}
use Rattle.framed.specs.declared.Text.{Text}
use Rattle.framed.specs.declared.Value.{Value}
use Rattle.words.specs.Words.{pick}
use Rattle.tables.specs.Fields.{literals, literal_length}
use Rattle.heap.specs.Words.{text_length}
use Rattle.texts.specs.Texts.{part_of, Inside}
use Rattle.look_path.specs.declared.Resolved.{Resolved}
use Rattle.look_part.specs.declared.Part.{Part}

abbrev pub no_part : Part
no_part = Part.Literal 0 0

-- docs/LAYOUT.md: literal k at 64 k, made text k at 64 k. There is no text past the last
unfoldable pub literal_part : List ℕ → ℕ → Part
literal_part p k = pick (ltb k (literals p)) (Part.Literal (64 * k) (literal_length p k)) no_part

unfoldable pub made_part : List ℕ → ℕ → Part
made_part h k = pick (ltb k 256) (Part.Made (64 * k) (text_length h k)) no_part

unfoldable pub text_part : List ℕ → List ℕ → Text → Part
text_part p h (Text.Literal k) = literal_part p k
text_part p h (Text.Made k) = made_part h k

unfoldable pub value_part : List ℕ → List ℕ → Value → Part
value_part p h (Value.Int z) = no_part
value_part p h (Value.Text x) = text_part p h x
value_part p h (Value.Code k) = no_part
value_part p h (Value.Frame f) = no_part

unfoldable pub part_found : List ℕ → List ℕ → Resolved → Part
part_found p h (Resolved.Found v) = value_part p h v
part_found p h Resolved.Undefined = no_part
part_found p h Resolved.NotPath = no_part

-- its bytes, where these are the literal bytes and the text bytes
unfoldable pub bytes_in : List ℕ → List ℕ → Part → List ℕ
bytes_in l t (Part.Literal from n) = part_of l from n
bytes_in l t (Part.Made from n) = part_of t from n

-- ---- The part as a slice. A slice is the place of its first byte, a block and an offset, with its bytes

-- r is the part of m with the n bytes from `from` on: it lies in m's block, that far behind m
pub record PartOf (m : Bor (List ℕ)) (from n : ℕ) (r : Bor (List ℕ)) : Type 0 where
  pub bytes : r.now ≡ part_of m.now from n
  pub block : r.ref_ptr.0 ≡ m.ref_ptr.0
  pub offset : r.ref_ptr.1 ≡ m.ref_ptr.1 + from

-- r is this part of the literal bytes l or of the text bytes t
unfoldable pub PartIs : Bor (List ℕ) → Bor (List ℕ) → Part → Bor (List ℕ) → Type 0
PartIs l t (Part.Literal from n) r = PartOf l from n r
PartIs l t (Part.Made from n) r = PartOf t from n r

unfoldable pub InMemory : List ℕ → List ℕ → Part → Type 0
InMemory l t (Part.Literal from n) = Inside l from n
InMemory l t (Part.Made from n) = Inside t from n
