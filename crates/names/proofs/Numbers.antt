-- Laws of the number of a name: it is looked up among the names kept, and a new one is kept as the next. Assumes nothing.
use mathlib.Core.Path.{◌≡◌, refl, sym, ap, ◌∙◌}
use mathlib.Core.Bool.{Bool, true, false, not}
use mathlib.Core.List.{List}
use Prim.Native.Nat.{ℕ, zero, suc, ◌+◌, ◌-◌, ◌<◌, ◌≤◌}
use native.Mathlib.Numerals.{add-one, unary_clauses}
use native.Mathlib.Omega.{arith}
use native.Mathlib.Decide.{ℕ_discrete, dec_lt}
use lib.Dec.{eqb}
use lib.ListN.{length, set}
use borrow.Author.Tests.{eq-eqb, ne_eqb}
use Rattle.framed.specs.Common.{when◌then◌else◌, any, same}
use Rattle.framed.specs.Symbols.{number_in}
use Rattle.source.specs.Positions.{part}
use Rattle.words.specs.Words.{word, set_word}
use Rattle.words.proofs.Laws.{word_other, word_same}
use Rattle.framed.proofs.Lists.{same_equal}
use Rattle.shapes.proofs.Names.{known_any}
use Rattle.names.specs.Kept.{table_of, hash_of, Marked, Numbered, KeptAs}
use Rattle.names.proofs.Laws.{is_new, Noted, table_length, number_last, number_stays, number_none, unknown}

-- ---- The number of a word

-- a number found among the first k is the number among more of them
table_stays : (s b e w : List ℕ) (k j d : ℕ) → number_in (table_of s b e k) w ≡ j → j < k → number_in (table_of s b e (k + d)) w ≡ j
unfolding table_of
table_stays s b e w k j zero h l = simp unary_clauses h
table_stays s b e w k j (suc d) h l =
    let g = table_stays s b e w k j d h l in
    simp unary_clauses (number_stays (table_of s b e (k + d)) _ w (omega (arith, g, table_length s b e (k + d))) ∙ g)

-- none of the first k is the word
pub record Seeking (s b e : List ℕ) (n : ℕ) (w : List ℕ) (k : ℕ) : Type 0 where
  pub within : k ≤ n
  pub not_yet : number_in (table_of s b e k) w ≡ k

pub seek_start : (s b e : List ℕ) (n : ℕ) (w : List ℕ) → Seeking s b e n w 0
unfolding table_of number_in
seek_start s b e n w = record { within = omega arith; not_yet = refl }

pub seek_end : (s b e : List ℕ) (n : ℕ) (w : List ℕ) (k : ℕ) → Seeking s b e n w k → n ≤ k → n ≡ number_in (table_of s b e n) w
seek_end s b e n w k i l = go (same_number k n i.within l)
  where
    same_number : (k n : ℕ) → k ≤ n → n ≤ k → k ≡ n
    same_number k n a b = omega arith

    go : k ≡ n → n ≡ number_in (table_of s b e n) w
    go h = sym (rw h at i.not_yet)

module _ (s b e : List ℕ) (n : ℕ) (w : List ℕ) (k : ℕ) (i : Seeking s b e n w k) (l : k < n) (x y j j' : ℕ) (ej : j ≡ k) (ex : x ≡ word b j) (ej' : j' ≡ k) (ey : y ≡ word e j')
    (v : List ℕ) (ev : v ≡ part s x y) (t : Bool) (h : t ≡ same v w) where
  seek_last : number_in (table_of s b e (suc k)) w ≡ (when t then k else suc k)
  unfolding table_of
  seek_last =
      number_last (table_of s b e k) (part s (word b k) (word e k)) w (i.not_yet ∙ sym (table_length s b e k))
      ∙ rw (table_length s b e k, h, ev, ex, ey, ej, ej')

  pub seek_found : t ≡ true → k ≡ number_in (table_of s b e n) w
  seek_found d = sym (ap (λ (m : ℕ). number_in (table_of s b e m) w) (split k n l) ∙ table_stays s b e w (suc k) k (n - suc k) (rw d at seek_last) (omega arith))
    where
      split : (k n : ℕ) → k < n → n ≡ suc k + (n - suc k)
      split k n l = omega arith

  pub seek_again : t ≡ false → Seeking s b e n w (k + 1)
  seek_again d = rw (add-one k) (record { within = omega arith; not_yet = rw d at seek_last })

-- the number of the bytes of a token
pub number_part : (table : List (List ℕ)) (v w : List ℕ) → v ≡ w → (r : ℕ) → r ≡ number_in table v → r ≡ number_in table w
number_part table v w e r h = h ∙ ap (number_in table) e

-- the number where name k is the name itself: each name kept is found at its own number
pub number_there : (s b e : List ℕ) (n a p : ℕ) → Numbered s b e n → (k : ℕ) → k < n → (j j' x y : ℕ) → j ≡ k → x ≡ word b j → j' ≡ k → y ≡ word e j' →
    (t : Bool) → t ≡ same (part s x y) (part s a p) → t ≡ true → k ≡ number_in (table_of s b e n) (part s a p)
number_there s b e n a p i k l j j' x y ej ex ej' ey t h d =
    let there : part s (word b k) (word e k) ≡ part s a p = rw (← ej, ← ex) (rw (ej, ← ej', ← ey) (same_equal (part s x y) (part s a p) (sym h ∙ d))) in
    sym (ap (number_in (table_of s b e n)) (sym there) ∙ i.own k l)

-- ---- The number of a name that is looked up by its hash

-- a part that has no hint is none of the names kept
pub number_new : (s b e hints : List ℕ) (n a p h : ℕ) → Marked s b e hints n → h ≡ hash_of (part s a p) → (g : ℕ) → g ≡ word hints h → g ≡ 0 →
    n ≡ number_in (table_of s b e n) (part s a p)
number_new s b e hints n a p h m eh g eg z =
    sym (number_none (table_of s b e n) (part s a p) (sym (unknown s b e hints n a p m g (eg ∙ ap (word hints) eh) z)) ∙ table_length s b e n)

number_most : (vs : List (List ℕ)) (w : List ℕ) → number_in vs w ≤ length vs
number_most vs w = go (any (same w) vs) refl
  where
    go : (t : Bool) → any (same w) vs ≡ t → number_in vs w ≤ length vs
    go true f = omega (arith, (known_any vs w f).below)
    go false f = omega (arith, number_none vs w f)

-- a number below n is that of a name kept
table_finds : (s b e w : List ℕ) (n k : ℕ) → k ≡ number_in (table_of s b e n) w → k < n → part s (word b k) (word e k) ≡ w
unfolding table_of
table_finds s b e w zero k ek l = absurd (omega arith)
table_finds s b e w (suc n) k ek l = go (dec_lt (number_in (table_of s b e n) w) n) (λ q m. table_finds s b e w n k q m)
  where
    last : (t : Bool) → same (part s (word b n) (word e n)) w ≡ t → k ≡ (when t then n else suc n) → part s (word b k) (word e k) ≡ w
    last true d q = rw q (same_equal (part s (word b n) (word e n)) w d)
    last false d q = absurd (omega arith)

    go : Dec (number_in (table_of s b e n) w < n) → (k ≡ number_in (table_of s b e n) w → k < n → part s (word b k) (word e k) ≡ w) → part s (word b k) (word e k) ≡ w
    go (yes q) f =
        let same_k : k ≡ number_in (table_of s b e n) w = ek ∙ number_stays (table_of s b e n) _ w (omega (arith, table_length s b e n)) in
        f same_k (omega arith)
    go (no q) f =
        let none : number_in (table_of s b e n) w ≡ length (table_of s b e n) = omega (arith, number_most (table_of s b e n) w, table_length s b e n) in
        last (same (part s (word b n) (word e n)) w) refl (ek ∙ number_last (table_of s b e n) (part s (word b n) (word e n)) w none ∙ rw (table_length s b e n))

-- no two of the names kept are the same
pub apart : (s b e : List ℕ) (n : ℕ) → Numbered s b e n → (j k : ℕ) → j < n → k < n → part s (word b j) (word e j) ≡ part s (word b k) (word e k) → j ≡ k
apart s b e n i j k lj lk q = sym (i.own j lj) ∙ ap (number_in (table_of s b e n)) q ∙ i.own k lk

-- ---- A name is kept

-- whether a name is new is whether its number is the next one
new_is : (s b e : List ℕ) (n a p r : ℕ) → r ≡ number_in (table_of s b e n) (part s a p) → is_new s b e n 25 a p ≡ eqb r n
unfolding is_new
new_is s b e n a p r er = go (any (same (part s a p)) (table_of s b e n)) refl
  where
    go : (t : Bool) → any (same (part s a p)) (table_of s b e n) ≡ t → not t ≡ eqb r n
    go true f = sym (ne_eqb r n (λ z. absurd (omega (arith, (known_any (table_of s b e n) (part s a p) f).below, table_length s b e n, er, z))))
    go false f = sym (eq-eqb r n (er ∙ number_none (table_of s b e n) (part s a p) f ∙ table_length s b e n))

-- a name that is known, and a new one
module _ (s b e hints : List ℕ) (n a p r : ℕ) (er : r ≡ number_in (table_of s b e n) (part s a p)) where
  pub number_known : (r ≡ n → ⊥) → KeptAs s b e hints n a p b e hints r
  number_known ne = record { number_is = er; begins_is = rw (ne_eqb r n ne); ends_is = rw (ne_eqb r n ne); hints_are = rw (ne_eqb r n ne) }

  pub number_next : r ≡ n → (h v : ℕ) → h ≡ hash_of (part s a p) → v ≡ n + 1 → (i j : ℕ) → i ≡ n → j ≡ n → (b' e' : List ℕ) → b' ≡ set_word b i a → e' ≡ set_word e j p →
      KeptAs s b e hints n a p b' e' (set hints h v) n
  unfolding set_word
  number_next is h v eh ev i j ei ej b' e' eb ee = record {
    number_is = sym is ∙ er;
    begins_is = rw (eq-eqb n n refl) (eb ∙ rw ei);
    ends_is = rw (eq-eqb n n refl) (ee ∙ rw ej);
    hints_are = rw (eq-eqb n n refl, eh, ev);
  }

module _ {s b e hints : List ℕ} {n a p : ℕ} {b' e' hints' : List ℕ} {r : ℕ} (k : KeptAs s b e hints n a p b' e' hints' r) where
  -- as the loop that keeps names has it
  pub kept_noted : {n' : ℕ} → n' ≡ (when eqb r n then n + 1 else n) → Noted s b e hints n 25 a p b' e' hints' n'
  kept_noted en =
      let g : is_new s b e n 25 a p ≡ eqb r n = new_is s b e n a p r k.number_is in
      record { begins_is = rw g k.begins_is; ends_is = rw g k.ends_is; hints_are = rw g k.hints_are; count_is = rw g en }

  -- the name kept at that number is the name itself
  pub kept_here : length b ≡ 129 → length e ≡ 129 → n ≤ 128 → (r ≤ n) × (part s (word b' r) (word e' r) ≡ part s a p)
  kept_here lb le ln = (most, go (ℕ_discrete r n))
    where
      most : r ≤ n
      most = omega (arith, k.number_is, number_most (table_of s b e n) (part s a p), table_length s b e n)

      go : Dec (r ≡ n) → part s (word b' r) (word e' r) ≡ part s a p
      go (yes q) = rw (k.begins_is, k.ends_is, eq-eqb r n q, q, word_same b n a (omega arith), word_same e n p (omega arith))
      go (no q) = rw (k.begins_is, k.ends_is, ne_eqb r n q) (table_finds s b e (part s a p) n r k.number_is (omega (arith, most)))

  -- the names before it stay
  pub kept_stays : (j : ℕ) → j < n → (word b' j ≡ word b j) × (word e' j ≡ word e j)
  kept_stays j l = go (eqb r n) k.begins_is k.ends_is
    where
      less : j ≡ n → ⊥
      less q = omega arith

      go : (t : Bool) → b' ≡ (when t then set_word b n a else b) → e' ≡ (when t then set_word e n p else e) → (word b' j ≡ word b j) × (word e' j ≡ word e j)
      go true eb ee = (rw eb (word_other b n j a (word b j) less refl), rw ee (word_other e n j p (word e j) less refl))
      go false eb ee = (rw eb, rw ee)
