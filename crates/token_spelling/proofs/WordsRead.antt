-- Document 02, A1: words with a space between neighbours are read in their tokens. Assumes nothing.
use mathlib.Core.Path.{◌≡◌, refl, ◌∙◌, sym, subst}
use mathlib.Core.List.{List, [], ◌∷◌, ◌++◌, append-nil, append_assoc}
use Prim.Native.Nat.{ℕ}
use Rattle.framed.specs.Common.{Common}
use Rattle.framed.specs.Bytes.{Classes}
use Rattle.framed.specs.Tokens.{Token, Fixed, Read, next, Tokens, Tokens⊢}
use Rattle.framed.specs.Writer.{Word, token_bytes, word_bytes, led, parted, joined_words, Writer}
use Rattle.token_spelling.specs.Spelling.{Stops, WordBack, WordsBack, WordsRead}
use Rattle.token_spelling.proofs.Lawful.{anchored, by_anchor}

module _ (c : Classes) where
  -- a dot is read whatever follows, and a space is skipped
  dot_read : (more : List ℕ) → next (anchored c) (46 ∷ more) ≡ Read.token (Token.fixed Fixed.dot) more
  unfolding anchored Tokens
  dot_read more = refl

  space_next : (bs : List ℕ) → next (anchored c) (32 ∷ bs) ≡ next (anchored c) bs
  unfolding anchored Tokens
  space_next bs = refl

  space_read : {bs : List ℕ} {ts : List Token} → Tokens⊢ (anchored c) bs ts → Tokens⊢ (anchored c) (32 ∷ bs) ts
  space_read {bs} (Tokens⊢.at_end e) = Tokens⊢.at_end (space_next bs ∙ e)
  space_read {bs} (Tokens⊢.more e r) = Tokens⊢.more (space_next bs ∙ e) r

  word_read : {w : Word} → WordBack (anchored c) w → (more : List ℕ) (ts : List Token) → Stops more → Tokens⊢ (anchored c) more ts →
      Tokens⊢ (anchored c) (word_bytes w ++ more) (w ++ ts)
  unfolding Writer Common
  word_read (WordBack.last {t} b) more ts s r =
      subst (λ (bs : List ℕ). Tokens⊢ (anchored c) (bs ++ more) (t ∷ ts)) (sym (append-nil (token_bytes t))) (Tokens⊢.more (b more s) r)
  word_read (WordBack.dotted {t} {u} {w} b d k) more ts s r =
      subst (λ (bs : List ℕ). Tokens⊢ (anchored c) bs (t ∷ Token.fixed Fixed.dot ∷ u ∷ w ++ ts))
      (sym (append_assoc (token_bytes t) (46 ∷ word_bytes (u ∷ w)) more))
      (Tokens⊢.more (b (46 ∷ word_bytes (u ∷ w) ++ more) Stops.at_dot)
      (Tokens⊢.more (dot_read (word_bytes (u ∷ w) ++ more)) (word_read k more ts s r)))

  led_stops : (ws : List Word) → Stops (led ws)
  unfolding led
  led_stops [] = Stops.at_end
  led_stops (w ∷ ws) = Stops.at_space

  end_read : Tokens⊢ (anchored c) [] []
  unfolding Tokens
  end_read = Tokens⊢.at_end refl

  led_read : (ws : List Word) → WordsBack (anchored c) ws → Tokens⊢ (anchored c) (led ws) (joined_words ws)
  unfolding led joined_words
  led_read [] WordsBack.none = end_read
  led_read (w ∷ ws) (WordsBack.more b bs) = space_read (word_read b (led ws) (joined_words ws) (led_stops ws) (led_read ws bs))

  parted_read : (ws : List Word) → WordsBack (anchored c) ws → Tokens⊢ (anchored c) (parted ws) (joined_words ws)
  unfolding parted joined_words
  parted_read [] WordsBack.none = end_read
  parted_read (w ∷ ws) (WordsBack.more b bs) = word_read b (led ws) (joined_words ws) (led_stops ws) (led_read ws bs)

pub words_read : WordsRead
words_read = by_anchor (λ c. (ws : List Word) → WordsBack c ws → Tokens⊢ c (parted ws) (joined_words ws)) parted_read
