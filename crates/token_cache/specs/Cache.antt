-- Document 01, "Tokens and grammar": tokens of a source kept by the position at which they were read. Assumes nothing.
use Rattle.std.specs.Prelude.{◌≡◌, ◌&&◌, List, ◌⊎◌, ℕ, suc, ◌+◌, ◌*◌, ◌/◌, ◌%◌, ◌<◌, eqb, ltb, length}
use Rattle.framed.specs.Common.{when◌then◌else◌}
use Rattle.framed.specs.Bytes.{class}
use Rattle.words.specs.Words.{word, set_word}
use Rattle.token.specs.Reading.{TokenAt}
use Rattle.token.specs.declared.TokenRead.{TokenRead}

-- kind, begin and end of a token in one entry, with the word of an integer or the note of a name
unfoldable pub packed : ℕ → ℕ → ℕ → ℕ → ℕ
packed k a p w = k + 32 * (a + 32768 * (p + 32768 * w))

-- the token of an entry
unfoldable pub held : ℕ → TokenRead
held e = TokenRead.Token (e % 32) (e / 32 % 32768) (e / 1048576 % 32768) (when eqb (e % 32) 26 then e / 34359738368 % 536870912 else 0)

-- the note of an entry: only names have one
unfoldable pub note_of : ℕ → ℕ
note_of e = when eqb (e % 32) 25 then e / 34359738368 % 536870912 else 0

unfoldable pub note_at : List ℕ → ℕ → ℕ
note_at c at = note_of (word c at)

-- what an entry stands for: 31 for the end; a token's is above it, since a token ends after position 0
unfoldable pub unpacked : ℕ → TokenRead
unpacked e = when ltb 31 e then held e else TokenRead.End

-- an entry has room for them
pub record Small (k a p w : ℕ) : Type 0 where
  pub kind : k < 32
  pub begin : a < 32768
  pub end : p < 32768
  pub word_small : w < 536870912

-- a kind, and a begin before its end
pub record Packs (k a p : ℕ) : Type 0 where
  pub kind : k < 32
  pub order : a < p

-- the entry of a position is set, where it has room
unfoldable pub with_entry : List ℕ → ℕ → ℕ → ℕ → ℕ → ℕ → List ℕ
with_entry c at k a p x = when ltb at 16384 && (ltb p 32768 && ltb x 536870912) then set_word c at (packed k a p x) else c

-- each entry that is not 0 stands for what is at its position; of a position whose entry is 0 nothing is kept
pub record Cached (c s : List ℕ) : Type 0 where
  pub entries : length c ≡ 16384
  pub rule : (at : ℕ) → (word c at ≡ 0 → ⊥) → TokenAt class s at (unpacked (word c at))

-- the token was read at that position
pub record CanStore (c s : List ℕ) (at k a p w : ℕ) : Type 0 where
  pub cached : Cached c s
  pub read : TokenAt class s at (TokenRead.Token k a p w)

-- the source was read to its end at that position
pub record CanEnd (c s : List ℕ) (at : ℕ) : Type 0 where
  pub cached : Cached c s
  pub read : TokenAt class s at TokenRead.End

-- each note of c' is one of c, or the note g at that position
pub record NotesFrom (c c' : List ℕ) (at g : ℕ) : Type 0 where
  pub from : (j h : ℕ) → note_at c' j ≡ suc h → (note_at c j ≡ suc h) ⊎ ((j ≡ at) × (g ≡ suc h))

-- no entry has a note
pub record Unnoted (c : List ℕ) : Type 0 where
  pub none : (at : ℕ) → note_at c at ≡ 0
