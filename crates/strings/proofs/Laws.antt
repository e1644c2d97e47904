-- Laws of the places of strings: one token, and a loop over the tokens that keeps them. Assumes nothing.
use mathlib.Core.Path.{◌≡◌, refl, sym, ap, ◌∙◌, subst}
use mathlib.Core.Bool.{Bool, true, false}
use mathlib.Core.List.{List, [], ◌∷◌, ◌++◌, append_assoc, append-nil}
use mathlib.Core.Option.{some}
use Prim.Native.Nat.{ℕ, ◌+◌, ◌-◌, ◌<◌, ◌≤◌}
use native.Mathlib.Omega.{arith}
use native.Mathlib.Decide.{dec_lt}
use lib.Dec.{eqb}
use lib.ListN.{length, length-append, get_or, get_or-append}
use lib.Seq.{get_or-append_seam}
use borrow.Author.Tests.{eq-eqb, ne_eqb, eqb-true, eqb-false}
use Rattle.framed.specs.Common.{when◌then◌else◌}
use Rattle.framed.specs.Bytes.{class}
use Rattle.framed.specs.Tokens.{Token, token, tokens}
use Rattle.framed.specs.Symbols.{literals}
use Rattle.framed.proofs.TokensExact.{end≢token, no_token≢token}
use Rattle.source.specs.Positions.{rest, part}
use Rattle.words.specs.Words.{word, set_word}
use Rattle.words.proofs.Laws.{word_other, word_same, set_size}
use Rattle.token.specs.Reading.{token_of, token_kind, meant, TokenAt, Spot}
use Rattle.token.specs.declared.TokenRead.{TokenRead}
use Rattle.token.proofs.KindNumbers.{kind_is}
use Rattle.token.proofs.Answers.{spot_of}
use Rattle.token.proofs.Unique.{token_inj}
use Rattle.sweep.specs.Decides.{Short}
use Rattle.sweep.proofs.Loop.{Going, Gives, go_start, go_end, go_none, go_done, go_again}
use Rattle.strings.specs.Places.{Counted, Stored, StringAt, Placed}

-- ---- One token

module _ (places : List ℕ) (m at k : ℕ) where
  pub keep_other : (k ≡ 27 → ⊥) → Stored places m at k places m
  keep_other h = record { places_are = rw (ne_eqb k 27 h); count_is = rw (ne_eqb k 27 h) }

  pub keep_string : k ≡ 27 → (i : ℕ) → i ≡ m → (places' : List ℕ) → places' ≡ set_word places i at → Stored places m at k places' (m + 1)
  keep_string h i ei places' e = record { places_are = rw (eq-eqb k 27 h) (e ∙ rw ei); count_is = rw (eq-eqb k 27 h) }

-- ---- The strings among the tokens

literals_other : (t : Token) (ts : List Token) → (token_kind t ≡ 27 → ⊥) → literals (t ∷ ts) ≡ literals ts
unfolding literals token_kind
literals_other (Token.name w) ts n = refl
literals_other (Token.integer z) ts n = refl
literals_other (Token.string w) ts n = absurd (n refl)
literals_other Token.code ts n = refl
literals_other (Token.fixed f) ts n = refl

literals_string : (s : List ℕ) (a p w : ℕ) (ts : List Token) → literals (token_of s 27 a p w ∷ ts) ≡ part s (a + 1) (p - 1) ∷ literals ts
unfolding literals token_of
literals_string s a p w ts = refl

-- the first strings stand at their places; there is room for 129
pub record Each (s places : List ℕ) (met : List (List ℕ)) : Type 0 where
  pub each : (k : ℕ) → k < length met → k < 129 → StringAt s (word places k) (get_or met k [])

each_more : (s places : List ℕ) (met : List (List ℕ)) (at : ℕ) (w : List ℕ) → length places ≡ 129 → Each s places met → StringAt s at w → Each s (set_word places (length met) at) (met ++ (w ∷ []))
each_more s places met at w size h x = record { each = λ k l few. go k l few (dec_lt k (length met)) }
  where
    less : (k n : ℕ) → k < n → (k ≡ n → ⊥)
    less k n l e = omega arith

    last : (k n : ℕ) → k < n + 1 → (k < n → ⊥) → k ≡ n
    last k n l f = omega arith

    go : (k : ℕ) → k < length (met ++ (w ∷ [])) → k < 129 → Dec (k < length met) → StringAt s (word (set_word places (length met) at) k) (get_or (met ++ (w ∷ [])) k [])
    go k l few (yes q) = rw (word_other places (length met) k at (word places k) (less k (length met) q) refl, get_or-append met (w ∷ []) [] k q) (h.each k q few)
    go k l few (no q) =
        let e : k ≡ length met = last k (length met) (subst (λ (n : ℕ). k < n) (length-append met (w ∷ [])) l) q in
        rw (e, word_same places (length met) at (omega (arith, size)), get_or-append_seam met w [] []) x

-- ---- A loop over the tokens

pub record Placing (s places : List ℕ) (m at : ℕ) : Type 0 where
  -- the strings met so far
  pub met : List (List ℕ)
  pub size : length places ≡ 129
  pub fewer : m ≤ at
  pub count : m ≡ length met
  pub each : Each s places met
  pub going : Going literals s 0 (λ (us : List Token). met ++ literals us) at

pub placing_start : (s places : List ℕ) → length places ≡ 129 → Placing s places 0 0
placing_start s places z = record {
  met = [];
  size = z;
  fewer = omega arith;
  count = refl;
  each = record { each = λ k l few. absurd (none k l) };
  going = go_start _ s 0;
}
  where
    none : (k : ℕ) → k < 0 → ⊥
    none k l = omega arith

module _ (s places : List ℕ) (m at : ℕ) (i : Placing s places m at) where
  ended : Gives literals s 0 (i.met ++ literals []) → Placed s places m
  unfolding rest literals
  ended g = record {
    count = λ ts f. i.count ∙ ap length (sym (all ts f));
    strings = λ ts f k l few. rw (all ts f) (i.each.each k (subst (λ (n : ℕ). k < n) i.count l) few);
  }
    where
      all : (ts : List Token) → tokens class s ≡ some ts → literals ts ≡ i.met
      all ts f = g.gives ts f ∙ append-nil i.met

  pub placing_done : length s ≤ at → Placed s places m
  placing_done l = ended (go_done _ s 0 _ at i.going l)

  pub placing_small : Short s → at < length s → Counted m
  placing_small h l = record { few = omega (arith, h.short, i.fewer) }

  module _ (r : TokenRead) (found : TokenAt class s at r) where
    pub placing_end : r ≡ TokenRead.End → Placed s places m
    placing_end h = ended (go_end _ s 0 _ at i.going r found h)

    pub placing_none : r ≡ TokenRead.NoToken → Placed s places m
    placing_none h = ended (go_none _ s 0 _ at i.going r found h _)

    module _ (k a p w : ℕ) (h : r ≡ TokenRead.Token k a p w) (places' : List ℕ) (m' : ℕ) (stored : Stored places m at k places' m') where
      spot : Spot at (length s) k a p
      spot = spot_of r found.on h

      string_here : k ≡ 27 → StringAt s at (part s (a + 1) (p - 1))
      unfolding meant token_of
      string_here e = record { left = rest s p; is = found.says ∙ ap (meant s) h ∙ rw e }

      pub placing_again : Placing s places' m' p
      placing_again = go (eqb k 27) refl stored.places_are stored.count_is
        where
          go : (t : Bool) → eqb k 27 ≡ t → places' ≡ (when t then set_word places m at else places) → m' ≡ (when t then m + 1 else m) → Placing s places' m' p
          go true x ep em = record {
            met = i.met ++ (part s (a + 1) (p - 1) ∷ []);
            size = rw ep (set_size places m at ∙ i.size);
            fewer = omega (arith, i.fewer, spot.begins, spot.more);
            count = em ∙ rw i.count (sym (length-append i.met (part s (a + 1) (p - 1) ∷ [])));
            each = rw (ep, i.count) (each_more s places i.met at (part s (a + 1) (p - 1)) i.size i.each (string_here (eqb-true k 27 x)));
            going = go_again _ s 0 _ at i.going r found k a p w h _ (λ us f. rw (eqb-true k 27 x, literals_string s a p w us) (sym (append_assoc i.met (part s (a + 1) (p - 1) ∷ []) (literals us))));
          }
          go false x ep em = record {
            met = i.met;
            size = rw ep i.size;
            fewer = omega (arith, i.fewer, spot.begins, spot.more);
            count = em ∙ i.count;
            each = rw ep i.each;
            going = go_again _ s 0 _ at i.going r found k a p w h _ (λ us f. rw (literals_other (token_of s k a p w) us (λ e. eqb-false k 27 x (sym (kind_is s a p w k spot.known) ∙ e))));
          }

-- ---- A string read again

string_inj : {v w : List ℕ} → Token.string v ≡ Token.string w → v ≡ w
string_inj e = cc

-- what is read where a string stands is a token with its bytes between the quotes
pub record ReadAgain (s w : List ℕ) (r : TokenRead) : Type 0 where
  pub kind : ℕ
  pub begin : ℕ
  pub end : ℕ
  pub value : ℕ
  pub is : r ≡ TokenRead.Token kind begin end value
  pub bytes : w ≡ part s (begin + 1) (end - 1)

module _ (s : List ℕ) (at : ℕ) (w : List ℕ) (x : StringAt s at w) (r : TokenRead) (found : TokenAt class s at r) where
  string_is : (k a p v : ℕ) → r ≡ TokenRead.Token k a p v → w ≡ part s (a + 1) (p - 1)
  unfolding meant token_of token_kind
  string_is k a p v h = string_inj (same ∙ rw kind)
    where
      same : Token.string w ≡ token_of s k a p v
      same = token_inj (sym x.is ∙ found.says ∙ ap (meant s) h)

      kind : k ≡ 27
      kind = sym (kind_is s a p v k (spot_of r found.on h).known) ∙ ap token_kind (sym same)

  pub string_read : ReadAgain s w r
  unfolding meant
  string_read = go r refl (sym found.says ∙ x.is)
    where
      go : (q : TokenRead) → r ≡ q → meant s q ≡ token (Token.string w) x.left → ReadAgain s w r
      go TokenRead.End h e = absurd (end≢token e)
      go TokenRead.NoToken h e = absurd (no_token≢token e)
      go (TokenRead.Token k a p v) h e = record { kind = k; begin = a; end = p; value = v; is = h; bytes = string_is k a p v h }
