-- Laws of the literals: the bytes of one, one string, and the loop over the strings. Assumes nothing.
use mathlib.Core.Path.{◌≡◌, refl, sym, ap, ◌∙◌}
use mathlib.Core.List.{List, [], ◌∷◌}
use mathlib.Core.Option.{some}
use Prim.Native.Nat.{ℕ, ◌+◌, ◌-◌, ◌*◌, ◌<◌, ◌≤◌}
use native.Mathlib.Numerals.{add-one}
use native.Mathlib.Omega.{arith}
use native.Mathlib.Nat.{min-le_right}
use lib.ListN.{length, drop, get_or, drop_of_length-le, length-take, length-drop}
use lib.Seq.{drop-cons}
use Rattle.framed.specs.Bytes.{class}
use Rattle.framed.specs.Tokens.{Token, tokens}
use Rattle.framed.specs.Symbols.{literals}
use Rattle.source.specs.Positions.{part}
use Rattle.words.specs.Words.{word, set_word}
use Rattle.words.proofs.Laws.{set_size}
use Rattle.token.specs.Reading.{TokenAt}
use Rattle.token.specs.declared.TokenRead.{TokenRead}
use Rattle.sweep.specs.Decides.{Short}
use Rattle.strings.specs.Places.{StringAt, Placed}
use Rattle.strings.proofs.Laws.{ReadAgain, string_read}
use Rattle.table_updates.specs.Updates.{set_literal_length, set_literal_byte}
use Rattle.emission.specs.Emit.{write_literal_lengths, write_literal_bytes, write_literals}
use Rattle.emit_literals.specs.Literals.{token_length, token_bytes, Written, AllWritten}

-- ---- The bytes of a literal

pub record Writing (l₀ : List ℕ) (k : ℕ) (w : List ℕ) (l : List ℕ) (i : ℕ) : Type 0 where
  pub size : length l ≡ length l₀
  pub is : write_literal_bytes (drop i w) k i l ≡ write_literal_bytes w k 0 l₀

pub writing_start : (l : List ℕ) (k : ℕ) (w : List ℕ) → Writing l k w l 0
writing_start l k w = record { size = refl; is = refl }

module _ (l₀ : List ℕ) (k : ℕ) (w l : List ℕ) (i : ℕ) (c : Writing l₀ k w l i) where
  bytes_on : i < length w → write_literal_bytes (drop i w) k i l ≡ write_literal_bytes (drop (i + 1) w) k (i + 1) (set_literal_byte l k i (get_or w i 0))
  unfolding write_literal_bytes
  bytes_on h =
      ap (λ (v : List ℕ). write_literal_bytes v k i l) (drop-cons w i 0 h)
      ∙ ap (λ (j : ℕ). write_literal_bytes (drop j w) k (i + 1) (set_literal_byte l k i (get_or w i 0))) (sym (add-one i))

  pub writing_again : i < length w → (m : ℕ) → m ≡ k → (l' : List ℕ) → l' ≡ set_word l (64 * m + i) (get_or w i 0) → Writing l₀ k w l' (i + 1)
  unfolding set_literal_byte
  writing_again h m em l' el = record {
    size = ap length el ∙ set_size l _ _ ∙ c.size;
    is = rw (el, em) (sym (bytes_on h) ∙ c.is);
  }

  pub writing_done : length w ≤ i → l ≡ write_literal_bytes w k 0 l₀
  unfolding write_literal_bytes
  writing_done h = ap (λ (v : List ℕ). write_literal_bytes v k i l) (sym (drop_of_length-le w h)) ∙ c.is

-- ---- One literal

module _ (s : List ℕ) (at k : ℕ) (p l : List ℕ) (r : TokenRead) (found : TokenAt class s at r) where
  pub literal_none : ((k : ℕ) (n : ℕ) (i : ℕ) (j : ℕ) → r ≡ TokenRead.Token k n i j → ⊥) → Written s at k p l p l
  unfolding token_length token_bytes
  literal_none o = record { read = r; found = found; words_are = words r o; bytes_are = bytes r o }
    where
      words : (q : TokenRead) → ((k : ℕ) (n : ℕ) (i : ℕ) (j : ℕ) → q ≡ TokenRead.Token k n i j → ⊥) → p ≡ token_length s k q p
      words TokenRead.End o = refl
      words TokenRead.NoToken o = refl
      words (TokenRead.Token j a q v) o = absurd (o j a q v refl)

      bytes : (q : TokenRead) → ((k : ℕ) (n : ℕ) (i : ℕ) (j : ℕ) → q ≡ TokenRead.Token k n i j → ⊥) → l ≡ token_bytes s k q l
      bytes TokenRead.End o = refl
      bytes TokenRead.NoToken o = refl
      bytes (TokenRead.Token j a q v) o = absurd (o j a q v refl)

  pub literal_one : (n a q x : ℕ) → r ≡ TokenRead.Token n a q x → (v : List ℕ) → v ≡ part s (a + 1) (q - 1) → (p' l' : List ℕ) → p' ≡ set_literal_length p k (length v) → l' ≡ write_literal_bytes v k 0 l →
      Written s at k p l p' l'
  unfolding token_length token_bytes
  literal_one n a q x h v ev p' l' ep el = record { read = r; found = found; words_are = rw (h, ep, ev); bytes_are = rw (h, el, ev) }

-- a string is written with its bytes
module _ (s : List ℕ) (at k : ℕ) (p l p' l' : List ℕ) (h : Written s at k p l p' l') (w : List ℕ) (x : StringAt s at w) where
  again : ReadAgain s w h.read
  again = string_read s at w x h.read h.found

  string_words : p' ≡ set_literal_length p k (length w)
  unfolding token_length
  string_words = h.words_are ∙ ap (λ (q : TokenRead). token_length s k q p) again.is ∙ ap (λ (v : List ℕ). set_literal_length p k (length v)) (sym again.bytes)

  string_bytes : l' ≡ write_literal_bytes w k 0 l
  unfolding token_bytes
  string_bytes = h.bytes_are ∙ ap (λ (q : TokenRead). token_bytes s k q l) again.is ∙ ap (λ (v : List ℕ). write_literal_bytes v k 0 l) (sym again.bytes)

module _ (s : List ℕ) (a q : ℕ) (w : List ℕ) (ew : w ≡ part s (a + 1) (q - 1)) (h : Short s) where
  pub literal_short : Short w
  unfolding part
  literal_short = record {
    short = rw (ew, length-take (q - 1 - (a + 1)) (drop (a + 1) s), length-drop (a + 1) s)
        (omega (arith, h.short, min-le_right (q - 1 - (a + 1)) (length s - (a + 1))));
  }

  pub literal_word : length w < 4294967296
  literal_word = omega (arith, literal_short.short)

-- ---- The loop

-- the literals from k on are still to be written
pub record Left (ws : List (List ℕ)) (p₀ l₀ p l : List ℕ) (k : ℕ) : Type 0 where
  pub words_left : write_literal_lengths (drop k ws) k p ≡ write_literal_lengths ws 0 p₀
  pub bytes_left : write_literals (drop k ws) k l ≡ write_literals ws 0 l₀

module _ (ws : List (List ℕ)) (p₀ l₀ p l : List ℕ) (k : ℕ) (i : Left ws p₀ l₀ p l k) where
  left_more : k < length ws → Left ws p₀ l₀ (set_literal_length p k (length (get_or ws k []))) (write_literal_bytes (get_or ws k []) k 0 l) (k + 1)
  unfolding write_literal_lengths write_literals
  left_more h = record {
    words_left = sym (ap (λ (vs : List (List ℕ)). write_literal_lengths vs k p) split) ∙ i.words_left;
    bytes_left = sym (ap (λ (vs : List (List ℕ)). write_literals vs k l) split) ∙ i.bytes_left;
  }
    where
      split : drop k ws ≡ get_or ws k [] ∷ drop (k + 1) ws
      split = drop-cons ws k [] h ∙ rw (add-one k)

  left_words : length ws ≤ k → p ≡ write_literal_lengths ws 0 p₀
  unfolding write_literal_lengths
  left_words h = ap (λ (vs : List (List ℕ)). write_literal_lengths vs k p) (sym (drop_of_length-le ws h)) ∙ i.words_left

  left_bytes : length ws ≤ k → l ≡ write_literals ws 0 l₀
  unfolding write_literals
  left_bytes h = ap (λ (vs : List (List ℕ)). write_literals vs k l) (sym (drop_of_length-le ws h)) ∙ i.bytes_left

pub record Passing (s p₀ l₀ p l : List ℕ) (k : ℕ) : Type 0 where
  pub words_size : length p ≡ length p₀
  pub bytes_size : length l ≡ length l₀
  pub left : (ts : List Token) → tokens class s ≡ some ts → length (literals ts) ≤ 128 → Left (literals ts) p₀ l₀ p l k

pub passing_start : (s p l : List ℕ) → Passing s p l p l 0
passing_start s p l = record { words_size = refl; bytes_size = refl; left = λ ts f few. record { words_left = refl; bytes_left = refl } }

module _ (s places : List ℕ) (m : ℕ) (placed : Placed s places m) (p₀ l₀ p l : List ℕ) (k : ℕ) (i : Passing s p₀ l₀ p l k) where
  pub passing_done : m ≤ k → AllWritten s p₀ l₀ p l
  passing_done h = record {
    words_are = λ ts f few. left_words (literals ts) p₀ l₀ p l k (i.left ts f few) (rw (← placed.count ts f) h);
    bytes_are = λ ts f few. left_bytes (literals ts) p₀ l₀ p l k (i.left ts f few) (rw (← placed.count ts f) h);
  }

  pub passing_again : k < m → (at : ℕ) (p' l' : List ℕ) → Written s at k p l p' l' → (j : ℕ) → at ≡ word places j → j ≡ k → length p' ≡ length p → length l' ≡ length l → Passing s p₀ l₀ p' l' (k + 1)
  passing_again h at p' l' written j ea ej zp zl = record {
    words_size = zp ∙ i.words_size;
    bytes_size = zl ∙ i.bytes_size;
    left = λ ts f few. rw (string_words s at k p l p' l' written _ (here ts f few), string_bytes s at k p l p' l' written _ (here ts f few)) (left_more (literals ts) p₀ l₀ p l k (i.left ts f few) (rw (← placed.count ts f) h));
  }
    where
      here : (ts : List Token) → tokens class s ≡ some ts → length (literals ts) ≤ 128 → StringAt s at (get_or (literals ts) k [])
      here ts f few = rw (ea, ej) (placed.strings ts f k h (omega (arith, placed.count ts f)))
