-- Every word of the text of a program is read again: its names and literals are tokens of the source, and its integers are in range. Assumes nothing.
use mathlib.Core.List.{List, [], ◌∷◌, ◌++◌}
use Prim.Native.Nat.{ℕ, zero, suc, ◌+◌, ◌<◌}
use native.Mathlib.Omega.{arith}
use lib.ListN.{length, get_or}
use Rattle.framed.specs.Common.{◌∈◌, here, later}
use Rattle.framed.specs.Bytes.{Classes}
use Rattle.framed.specs.Tokens.{Token, Tokens⊢}
use Rattle.framed.specs.Symbols.{Symbol, name_table, literals}
use Rattle.framed.specs.Writer.{Word, joined_words}
use Rattle.framed.proofs.NamesExact.{names_exact}
use Rattle.shapes.proofs.Names.{Ordered}
use Rattle.token_spelling.specs.Spelling.{Lawful, Back, WordBack, WordsBack}
use Rattle.token_spelling.proofs.FixedBack.{fixed_back, code_back}
use Rattle.token_spelling.proofs.IntegerBack.{integer_back}
use Rattle.token_spelling.proofs.ReadBack.{read_back}
use Rattle.write_symbols.specs.Symbols.{spelled, spelled_all}
use Rattle.write_paths.specs.Rewriting.{WordFormed, WordsFormed}

-- an entry of a list stands in it
entry_in : {A : Type 0} (d : A) (xs : List A) (k : ℕ) → k < length xs → get_or xs k d ∈ xs
entry_in d [] k lt = absurd (omega arith)
entry_in d (x ∷ xs) zero lt = here
entry_in d (x ∷ xs) (suc k) lt = later (entry_in d xs k (omega arith))

-- a literal is a string of the tokens
literal_in : (ts : List Token) {w : List ℕ} → w ∈ literals ts → Token.string w ∈ ts
unfolding literals
literal_in [] {w = w} m = elim m [ ]
literal_in (Token.name v ∷ ts) m = later (literal_in ts m)
literal_in (Token.integer z ∷ ts) m = later (literal_in ts m)
literal_in (Token.string v ∷ ts) here = here
literal_in (Token.string v ∷ ts) (later m) = later (literal_in ts m)
literal_in (Token.code ∷ ts) m = later (literal_in ts m)
literal_in (Token.fixed f ∷ ts) m = later (literal_in ts m)

module _ (c : Classes) where
  -- every token of a list is read again
  pub data AllBack : List Token → Type 0 where
    none : AllBack []
    more : {t : Token} {ts : List Token} → Back c t → AllBack ts → AllBack (t ∷ ts)

  back_in : {ts : List Token} {t : Token} → AllBack ts → t ∈ ts → Back c t
  back_in {t = t} AllBack.none m = elim m [ ]
  back_in (AllBack.more b bs) here = b
  back_in (AllBack.more b bs) (later m) = back_in bs m

  back_rest : (ts : List Token) {us : List Token} → AllBack (ts ++ us) → AllBack us
  back_rest [] a = a
  back_rest (t ∷ ts) (AllBack.more b a) = back_rest ts a

  -- words in form, of such tokens
  word_back : {w : Word} (us : List Token) → WordFormed w → AllBack (w ++ us) → WordBack c w
  word_back us WordFormed.single (AllBack.more b a) = WordBack.last b
  word_back us (WordFormed.dotted f) (AllBack.more b (AllBack.more d (AllBack.more e a))) =
      WordBack.dotted b e (word_back us f (AllBack.more e a))

  pub words_back : {ws : List Word} → WordsFormed ws → AllBack (joined_words ws) → WordsBack c ws
  unfolding joined_words
  words_back WordsFormed.none a = WordsBack.none
  words_back (WordsFormed.more {w} {ws} f fs) a = WordsBack.more (word_back (joined_words ws) f a) (words_back fs (back_rest w a))

  module _ (lawful : Lawful c) where
    pub all_read : {bs : List ℕ} {ts : List Token} → Tokens⊢ c bs ts → AllBack ts
    all_read (Tokens⊢.at_end e) = AllBack.none
    all_read (Tokens⊢.more {bs} {rest} {t} e d) = AllBack.more (read_back c lawful bs rest t e) (all_read d)

    -- symbols in order, spelled with the names and literals of tokens that are read again
    module _ (ts : List Token) (all : AllBack ts) where
      pub spelled_back : (s k : ℕ) (us : List Symbol) → Ordered (length (name_table ts)) (length (literals ts)) s k us → AllBack (spelled_all (name_table ts) (literals ts) us)
      unfolding spelled
      spelled_back s k [] o = AllBack.none
      spelled_back s k (Symbol.name n ∷ us) (Ordered.name lt o) =
          AllBack.more (back_in all ((names_exact.exactly ts (get_or (name_table ts) n [])).0 (entry_in [] (name_table ts) n lt))) (spelled_back s k us o)
      spelled_back s k (Symbol.integer z ∷ us) (Ordered.integer r o) = AllBack.more (integer_back c lawful z r) (spelled_back s k us o)
      spelled_back s k (Symbol.string _ ∷ us) (Ordered.string lt o) =
          AllBack.more (back_in all (literal_in ts (entry_in [] (literals ts) s lt))) (spelled_back (s + 1) k us o)
      spelled_back s k (Symbol.code _ ∷ us) (Ordered.code o) = AllBack.more (code_back c lawful) (spelled_back s (k + 1) us o)
      spelled_back s k (Symbol.fixed f ∷ us) (Ordered.fixed o) = AllBack.more (fixed_back c lawful f) (spelled_back s k us o)
