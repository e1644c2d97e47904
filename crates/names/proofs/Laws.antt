-- Laws of the names kept: whether a name is known, hints, the number of a name, and the loop that keeps them. Assumes nothing.
use mathlib.Core.Path.{◌≡◌, refl, sym, ap, ◌∙◌}
use mathlib.Core.Bool.{Bool, true, false, ◌&&◌, ◌||◌, not, true≢false, false≢true}
use mathlib.Core.List.{List, [], ◌∷◌, ◌++◌}
use mathlib.Core.Option.{some}
use Prim.Native.Nat.{ℕ, zero, suc, ◌+◌, ◌-◌, ◌*◌, ◌%◌, ◌<◌, ◌≤◌}
use native.Mathlib.Numerals.{add-one}
use native.Mathlib.Omega.{arith}
use native.Mathlib.Nat.{mod-lt}
use native.Mathlib.Decide.{ℕ_discrete, dec_lt}
use lib.Dec.{eqb, ltb}
use lib.ListN.{length, length-append, drop, drop_of_length-le}
use lib.Seq.{drop-cons}
use borrow.Author.Tests.{ne_eqb, lt-ltb, eqb-true, eqb-false}
use Rattle.framed.specs.Common.{when◌then◌else◌, any, same}
use Rattle.framed.specs.Bytes.{class}
use Rattle.framed.specs.Tokens.{Token, tokens}
use Rattle.framed.specs.Symbols.{names_after, name_table, number_in}
use Rattle.source.specs.Positions.{rest, part}
use Rattle.words.specs.Words.{word, set_word}
use Rattle.words.proofs.Laws.{word_other, word_same, set_size, set_past}
use Rattle.token.specs.Reading.{token_of, token_kind, TokenAt, Spot}
use Rattle.token.specs.declared.TokenRead.{TokenRead}
use Rattle.token.proofs.KindNumbers.{kind_is}
use Rattle.token.proofs.Answers.{spot_of}
use Rattle.framed.proofs.Lists.{same_equal, same_self, not_turned}
use Rattle.sweep.proofs.Lists.{or_false, or_true, any_last}
use Rattle.sweep.proofs.Loop as Loop
use Rattle.sweep.proofs.Loop.{Going, Gives, go_start, go_end, go_none, go_done, go_again}
use Rattle.names.specs.Kept.{table_of, hash_from, hash_of, Marked, Sized, Numbered, Kept}

-- ---- The names kept

pub table_length : (s b e : List ℕ) (n : ℕ) → length (table_of s b e n) ≡ n
unfolding table_of
table_length s b e zero = refl
table_length s b e (suc n) = rw (length-append (table_of s b e n) (part s (word b n) (word e n) ∷ []), table_length s b e n) (omega arith)

module _ (s b e : List ℕ) (n a p : ℕ) where
  kept : (m : ℕ) → m ≤ n → table_of s (set_word b n a) (set_word e n p) m ≡ table_of s b e m
  unfolding table_of
  kept zero l = refl
  kept (suc m) l =
      rw (kept m (omega arith), word_other b n m a (word b m) (less m n l) refl, word_other e n m p (word e m) (less m n l) refl)
    where
      less : (m n : ℕ) → suc m ≤ n → (m ≡ n → ⊥)
      less m n l e = omega arith

  pub table_more : n < length b → n < length e → table_of s (set_word b n a) (set_word e n p) (n + 1) ≡ table_of s b e n ++ (part s a p ∷ [])
  unfolding table_of
  table_more h g = rw (add-one n, kept n (omega arith), word_same b n a h, word_same e n p g)

-- ---- Whether a name is known

pub record Searching (s b e : List ℕ) (n a p k : ℕ) : Type 0 where
  pub rest_is : any (same (part s a p)) (table_of s b e n) ≡ any (same (part s a p)) (table_of s b e k)

pub known_start : (s b e : List ℕ) (n a p : ℕ) → Searching s b e n a p n
known_start s b e n a p = record { rest_is = refl }

pub known_none : (s b e : List ℕ) (n a p k : ℕ) → Searching s b e n a p k → k ≤ 0 → false ≡ any (same (part s a p)) (table_of s b e n)
unfolding table_of any
known_none s b e n a p zero i l = sym i.rest_is
known_none s b e n a p (suc k) i l = absurd (omega arith)

module _ (s b e : List ℕ) (n a p k : ℕ) (i : Searching s b e n a p k) (l : 0 < k) (x y : ℕ) (ex : x ≡ word b (k - 1)) (ey : y ≡ word e (k - 1))
    (t : Bool) (h : t ≡ same (part s a p) (part s x y)) where
  last_is : any (same (part s a p)) (table_of s b e k) ≡ (any (same (part s a p)) (table_of s b e (k - 1)) || t)
  unfolding table_of
  last_is = ap (λ (j : ℕ). any (same (part s a p)) (table_of s b e j)) (back k l) ∙ any_last (same (part s a p)) (table_of s b e (k - 1)) _ ∙ ap (λ (u : Bool). any (same (part s a p)) (table_of s b e (k - 1)) || u) (sym (h ∙ rw (ex, ey)))
    where
      back : (k : ℕ) → 0 < k → k ≡ suc (k - 1)
      back k l = omega arith

  pub known_found : t ≡ true → true ≡ any (same (part s a p)) (table_of s b e n)
  known_found d = sym (i.rest_is ∙ last_is ∙ ap (λ (u : Bool). any (same (part s a p)) (table_of s b e (k - 1)) || u) d ∙ or_true (any (same (part s a p)) (table_of s b e (k - 1))))

  pub known_again : t ≡ false → Searching s b e n a p (k - 1)
  known_again d = record { rest_is = i.rest_is ∙ last_is ∙ ap (λ (u : Bool). any (same (part s a p)) (table_of s b e (k - 1)) || u) d ∙ or_false (any (same (part s a p)) (table_of s b e (k - 1))) }

-- ---- Hints

hash_bound_from : (h : ℕ) (w : List ℕ) → hash_from h w < 4096
unfolding hash_from
hash_bound_from h [] = mod-lt h (omega arith)
hash_bound_from h (b ∷ w) = hash_bound_from ((h * 37 + b) % 65536) w

hash_bound : (w : List ℕ) → hash_of w < 4096
unfolding hash_of
hash_bound w = hash_bound_from 0 w

-- the bytes from i on are still to be taken in
pub record Hashing (w : List ℕ) (h i : ℕ) : Type 0 where
  pub small : h < 65536
  pub rest_is : hash_from h (drop i w) ≡ hash_of w

pub hashing_start : (w : List ℕ) → Hashing w 0 0
unfolding hash_of
hashing_start w = record { small = omega arith; rest_is = refl }

module _ (w : List ℕ) (h i : ℕ) (c : Hashing w h i) where
  pub hashing_again : i < length w → (b : ℕ) → b ≡ word w i → Hashing w ((h * 37 + b) % 65536) (i + 1)
  unfolding hash_from word
  hashing_again l b eb = record {
    small = mod-lt (h * 37 + b) (omega arith);
    rest_is = rw (eb, add-one i) (sym (ap (hash_from h) (drop-cons w i 0 l)) ∙ c.rest_is);
  }

  pub hashing_done : length w ≤ i → (r : ℕ) → r ≡ h % 4096 → (v : List ℕ) → w ≡ v → r ≡ hash_of v
  unfolding hash_from
  hashing_done l r e v ev = e ∙ ap (hash_from h) (sym (drop_of_length-le w l)) ∙ c.rest_is ∙ ap hash_of ev

pub hash_small : (h r : ℕ) → r ≡ h % 4096 → r < 4096
hash_small h r e = rw e (mod-lt h (omega arith))

pub hint_is : (hints w : List ℕ) (h g r : ℕ) → h ≡ hash_of w → g ≡ word hints h → r ≡ g → r ≡ word hints (hash_of w)
hint_is hints w h g r eh eg er = er ∙ eg ∙ ap (word hints) eh

-- a name whose hash has no hint is none of those kept
pub unknown : (s b e hints : List ℕ) (n a p : ℕ) → Marked s b e hints n → (g : ℕ) → g ≡ word hints (hash_of (part s a p)) → g ≡ 0 →
    false ≡ any (same (part s a p)) (table_of s b e n)
unfolding table_of any
unknown s b e hints zero a p m g eg z = refl
unknown s b e hints (suc n) a p m g eg z =
    sym (any_last (same (part s a p)) (table_of s b e n) (part s (word b n) (word e n))
    ∙ both (unknown s b e hints n a p (record { size = m.size; set = λ k l. m.set k (omega arith) }) g eg z) (same (part s a p) (part s (word b n) (word e n))) refl)
  where
    both : false ≡ any (same (part s a p)) (table_of s b e n) → (t : Bool) → same (part s a p) (part s (word b n) (word e n)) ≡ t → (any (same (part s a p)) (table_of s b e n) || t) ≡ false
    both f true q = absurd (m.set n (omega arith) (ap (λ (w : List ℕ). word hints (hash_of w)) (sym (same_equal (part s a p) (part s (word b n) (word e n)) q)) ∙ sym eg ∙ z))
    both f false q = rw (← f)

-- a hint that is set stays set
stays_set : (hints : List ℕ) (i v j : ℕ) → (v ≡ 0 → ⊥) → (word hints j ≡ 0 → ⊥) → (word (set_word hints i v) j ≡ 0 → ⊥)
stays_set hints i v j nv h = go (ℕ_discrete j i) (dec_lt i (length hints))
  where
    go : Dec (j ≡ i) → Dec (i < length hints) → (word (set_word hints i v) j ≡ 0 → ⊥)
    go (yes q) (yes l) z = nv (sym (word_same hints i v l) ∙ ap (word (set_word hints i v)) (sym q) ∙ z)
    go (yes q) (no l) z = h (ap (λ (m : List ℕ). word m j) (set_past hints i v (omega arith)) ∙ z)
    go (no q) d z = h (sym (word_other hints i j v (word hints j) q refl) ∙ z)

-- a new name gets its hint
module _ (s b e hints : List ℕ) (n a p : ℕ) (m : Marked s b e hints n) (hb : n < length b) (he : n < length e) where
  marked_more : Marked s (set_word b n a) (set_word e n p) (set_word hints (hash_of (part s a p)) (n + 1)) (n + 1)
  marked_more = record { size = set_size hints _ _ ∙ m.size; set = λ k l. go k l (dec_lt k n) }
    where
      more : (n : ℕ) → (n + 1 ≡ 0 → ⊥)
      more n z = omega arith

      less : (k n : ℕ) → k < n → (k ≡ n → ⊥)
      less k n l q = omega arith

      last : (k n : ℕ) → k < n + 1 → (k < n → ⊥) → k ≡ n
      last k n l f = omega arith

      inside : hash_of (part s a p) < length hints
      inside = rw m.size (hash_bound (part s a p))

      there : word (set_word hints (hash_of (part s a p)) (n + 1)) (hash_of (part s (word (set_word b n a) n) (word (set_word e n p) n))) ≡ n + 1
      there = rw (word_same b n a hb, word_same e n p he) (word_same hints (hash_of (part s a p)) (n + 1) inside)

      go : (k : ℕ) → k < n + 1 → Dec (k < n) → (word (set_word hints (hash_of (part s a p)) (n + 1)) (hash_of (part s (word (set_word b n a) k) (word (set_word e n p) k))) ≡ 0 → ⊥)
      go k l (yes q) =
          rw (word_other b n k a (word b k) (less k n q) refl, word_other e n k p (word e k) (less k n q) refl)
          (stays_set hints (hash_of (part s a p)) (n + 1) (hash_of (part s (word b k) (word e k))) (more n) (m.set k q))
      go k l (no q) = rw (last k n l q) (λ z. more n (sym there ∙ z))

-- ---- The number of a name

pub number_last : (vs : List (List ℕ)) (v w : List ℕ) → number_in vs w ≡ length vs → number_in (vs ++ (v ∷ [])) w ≡ (when same v w then length vs else suc (length vs))
unfolding number_in
number_last [] v w e = go (same v w)
  where
    go : (t : Bool) → ◌≡◌ {A = ℕ} (elim t [ true ↦ 0 | false ↦ 1 ]) (when t then 0 else 1)
    go true = refl
    go false = refl
number_last (u ∷ vs) v w e = go (same u w) e (number_last vs v w)
  where
    more : (t : Bool) (n : ℕ) → suc (when t then n else suc n) ≡ (when t then suc n else suc (suc n))
    more true n = refl
    more false n = refl

    go : (t : Bool) → ◌≡◌ {A = ℕ} (elim t [ true ↦ 0 | false ↦ suc (number_in vs w) ]) (suc (length vs)) →
        (number_in vs w ≡ length vs → number_in (vs ++ (v ∷ [])) w ≡ (when same v w then length vs else suc (length vs))) →
        ◌≡◌ {A = ℕ} (elim t [ true ↦ 0 | false ↦ suc (number_in (vs ++ (v ∷ [])) w) ]) (when same v w then suc (length vs) else suc (suc (length vs)))
    go true e h = absurd (omega arith)
    go false e h = ap suc (h (omega arith)) ∙ more (same v w) (length vs)

pub number_stays : (vs ws : List (List ℕ)) (w : List ℕ) → number_in vs w < length vs → number_in (vs ++ ws) w ≡ number_in vs w
unfolding number_in
number_stays [] ws w l = absurd (omega arith)
number_stays (u ∷ vs) ws w l = go (same u w) l (number_stays vs ws w)
  where
    go : (t : Bool) → ◌<◌ (elim t [ true ↦ 0 | false ↦ suc (number_in vs w) ]) (suc (length vs)) →
        (number_in vs w < length vs → number_in (vs ++ ws) w ≡ number_in vs w) →
        ◌≡◌ {A = ℕ} (elim t [ true ↦ 0 | false ↦ suc (number_in (vs ++ ws) w) ]) (elim t [ true ↦ 0 | false ↦ suc (number_in vs w) ])
    go true l h = refl
    go false l h = ap suc (h (omega arith))

-- a name that is none of them has no number among them
pub number_none : (vs : List (List ℕ)) (w : List ℕ) → any (same w) vs ≡ false → number_in vs w ≡ length vs
unfolding number_in any
number_none [] w f = refl
number_none (v ∷ vs) w f = go (same w v) refl f (λ q. number_none vs w q)
  where
    later : (t : Bool) → t ≡ false → number_in vs w ≡ length vs → ◌≡◌ {A = ℕ} (elim t [ true ↦ 0 | false ↦ suc (number_in vs w) ]) (suc (length vs))
    later true e h = absurd (true≢false e)
    later false e h = ap suc h

    go : (t : Bool) → same w v ≡ t → (t || any (same w) vs) ≡ false → (any (same w) vs ≡ false → number_in vs w ≡ length vs) →
        ◌≡◌ {A = ℕ} (elim (same v w) [ true ↦ 0 | false ↦ suc (number_in vs w) ]) (suc (length vs))
    go true e q h = absurd (true≢false q)
    go false e q h = later (same v w) (not_turned w v e) (h q)

module _ (s b e : List ℕ) (n a p : ℕ) (hb : n < length b) (he : n < length e) (i : Numbered s b e n) (new : any (same (part s a p)) (table_of s b e n) ≡ false) where
  own_before : (k : ℕ) → k < n → number_in (table_of s (set_word b n a) (set_word e n p) (n + 1)) (part s (word (set_word b n a) k) (word (set_word e n p) k)) ≡ k
  own_before k l =
      rw (table_more s b e n a p hb he, word_other b n k a (word b k) (less k n l) refl, word_other e n k p (word e k) (less k n l) refl)
      (number_stays (table_of s b e n) _ (part s (word b k) (word e k)) (omega (arith, i.own k l, table_length s b e n)) ∙ i.own k l)
    where
      less : (k n : ℕ) → k < n → (k ≡ n → ⊥)
      less k n l e = omega arith

  own_last : number_in (table_of s (set_word b n a) (set_word e n p) (n + 1)) (part s (word (set_word b n a) n) (word (set_word e n p) n)) ≡ n
  own_last =
      rw (table_more s b e n a p hb he, word_same b n a hb, word_same e n p he)
      (number_last (table_of s b e n) (part s a p) (part s a p) (number_none (table_of s b e n) (part s a p) new) ∙ rw (same_self (part s a p)) (table_length s b e n))

  -- a new name is found at its own number too
  numbered_more : Numbered s (set_word b n a) (set_word e n p) (n + 1)
  numbered_more = record { own = λ k l. go k l (dec_lt k n) }
    where
      last : (k : ℕ) → k < n + 1 → (k < n → ⊥) → k ≡ n
      last k l f = omega arith

      go : (k : ℕ) → k < n + 1 → Dec (k < n) → number_in (table_of s (set_word b n a) (set_word e n p) (n + 1)) (part s (word (set_word b n a) k) (word (set_word e n p) k)) ≡ k
      go k l (yes q) = own_before k q
      go k l (no q) = rw (last k l q) own_last

pub numbered_none : (s b e : List ℕ) → Numbered s b e 0
numbered_none s b e = record { own = λ k l. absurd (none k l) }
  where
    none : (k : ℕ) → k < 0 → ⊥
    none k l = omega arith

not_known : (t u : Bool) → (t && not u) ≡ true → u ≡ false
not_known true true e = absurd (false≢true e)
not_known true false e = refl
not_known false u e = absurd (false≢true e)

-- ---- A token is kept

-- a token of kind k from a up to p is a name, and not one of them
unfoldable pub is_new : List ℕ → List ℕ → List ℕ → ℕ → ℕ → ℕ → ℕ → Bool
is_new s begins ends n k a p = eqb k 25 && not (any (same (part s a p)) (table_of s begins ends n))

-- such a token is kept as the next name, with a hint
pub record Noted (s begins ends hints : List ℕ) (n k a p : ℕ) (begins' ends' hints' : List ℕ) (r : ℕ) : Type 0 where
  pub begins_is : begins' ≡ (when is_new s begins ends n k a p then set_word begins n a else begins)
  pub ends_is : ends' ≡ (when is_new s begins ends n k a p then set_word ends n p else ends)
  pub hints_are : hints' ≡ (when is_new s begins ends n k a p then set_word hints (hash_of (part s a p)) (n + 1) else hints)
  pub count_is : r ≡ (when is_new s begins ends n k a p then n + 1 else n)

module _ (s b e hints : List ℕ) (n k a p : ℕ) where
  pub keep_other : (k ≡ 25 → ⊥) → Noted s b e hints n k a p b e hints n
  unfolding is_new
  keep_other h = record { begins_is = rw (ne_eqb k 25 h); ends_is = rw (ne_eqb k 25 h); hints_are = rw (ne_eqb k 25 h); count_is = rw (ne_eqb k 25 h) }

-- ---- The loop that keeps them

-- names are only added
pub grows : (table : List (List ℕ)) (ts : List Token) → length table ≤ length (names_after table ts)
unfolding names_after
grows table [] = omega arith
grows table (Token.name w ∷ ts) = go (any (same w) table) (grows table ts) (grows (table ++ (w ∷ [])) ts)
  where
    go : (t : Bool) → length table ≤ length (names_after table ts) → length (table ++ (w ∷ [])) ≤ length (names_after (table ++ (w ∷ [])) ts)
        → length table ≤ length (names_after (when t then table else table ++ (w ∷ [])) ts)
    go true a b = a
    go false a b = omega (arith, length-append table (w ∷ []))
grows table (Token.integer z ∷ ts) = grows table ts
grows table (Token.string w ∷ ts) = grows table ts
grows table (Token.code ∷ ts) = grows table ts
grows table (Token.fixed f ∷ ts) = grows table ts

pub names_other : (table : List (List ℕ)) (t : Token) (ts : List Token) → (token_kind t ≡ 25 → ⊥) → names_after table (t ∷ ts) ≡ names_after table ts
unfolding names_after token_kind
names_other table (Token.name w) ts n = absurd (n refl)
names_other table (Token.integer z) ts n = refl
names_other table (Token.string w) ts n = refl
names_other table Token.code ts n = refl
names_other table (Token.fixed f) ts n = refl

pub names_name : (s : List ℕ) (a p w : ℕ) (table : List (List ℕ)) (ts : List Token) →
    names_after table (token_of s 25 a p w ∷ ts) ≡ names_after (when any (same (part s a p)) table then table else table ++ (part s a p ∷ [])) ts
unfolding names_after token_of
names_name s a p w table ts = refl

names_step : (s : List ℕ) (k a p w : ℕ) (table : List (List ℕ)) (ts : List Token) → k < 29 →
    names_after table (token_of s k a p w ∷ ts) ≡ names_after (when (eqb k 25 && not (any (same (part s a p)) table)) then table ++ (part s a p ∷ []) else table) ts
names_step s k a p w table ts l = go (eqb k 25) refl (any (same (part s a p)) table) refl
  where
    go : (t : Bool) → eqb k 25 ≡ t → (u : Bool) → any (same (part s a p)) table ≡ u →
        names_after table (token_of s k a p w ∷ ts) ≡ names_after (when (t && not u) then table ++ (part s a p ∷ []) else table) ts
    go true x true y = rw (eqb-true k 25 x) (names_name s a p w table ts ∙ rw y)
    go true x false y = rw (eqb-true k 25 x) (names_name s a p w table ts ∙ rw y)
    go false x u y = names_other table (token_of s k a p w) ts (λ f. eqb-false k 25 x (sym (kind_is s a p w k l) ∙ f))

pub record Keeping (s b e hints : List ℕ) (n at : ℕ) : Type 0 where
  pub begins_size : length b ≡ 129
  pub ends_size : length e ≡ 129
  pub few : n ≤ 128
  pub numbered : Numbered s b e n
  pub marked : Marked s b e hints n
  pub going : Going name_table s 0 (names_after (table_of s b e n)) at

pub keeping_start : (s b e hints : List ℕ) → Sized b e hints → Keeping s b e hints 0 0
unfolding table_of name_table
keeping_start s b e hints z = record {
  begins_size = z.begins_size;
  ends_size = z.ends_size;
  few = omega arith;
  numbered = numbered_none s b e;
  marked = record { size = z.hints_size; set = λ k h. absurd (none k h) };
  going = go_start _ s 0;
}
  where
    none : (k : ℕ) → k < 0 → ⊥
    none k h = omega arith

kept_of : (s b e : List ℕ) (n : ℕ) → Numbered s b e n → Gives name_table s 0 (table_of s b e n) → Kept s b e n
unfolding rest
kept_of s b e n z g = record {
  numbered = z;
  is = λ ts f l. sym (g.gives ts f);
  many = λ ts f. ap (ltb 128) (sym (table_length s b e n) ∙ ap length (sym (g.gives ts f)));
}

module _ (s b e hints : List ℕ) (n at : ℕ) (i : Keeping s b e hints n at) where
  ended : Gives name_table s 0 (names_after (table_of s b e n) []) → Kept s b e n
  unfolding names_after
  ended g = kept_of s b e n i.numbered g

  pub keeping_done : length s ≤ at → Kept s b e n
  keeping_done l = ended (go_done _ s 0 _ at i.going l)

  module _ (r : TokenRead) (found : TokenAt class s at r) where
    pub keeping_end : r ≡ TokenRead.End → Kept s b e n
    keeping_end h = ended (go_end _ s 0 _ at i.going r found h)

    pub keeping_none : r ≡ TokenRead.NoToken → Kept s b e n
    keeping_none h = ended (go_none _ s 0 _ at i.going r found h _)

    module _ (k a p w : ℕ) (h : r ≡ TokenRead.Token k a p w) (b' e' hints' : List ℕ) (n' : ℕ) (noted : Noted s b e hints n k a p b' e' hints' n') where
      record After : Type 0 where
        begins_size : length b' ≡ 129
        ends_size : length e' ≡ 129
        more : n' ≤ 129
        numbered : Numbered s b' e' n'
        marked : Marked s b' e' hints' n'
        step : (us : List Token) → names_after (table_of s b e n) (token_of s k a p w ∷ us) ≡ names_after (table_of s b' e' n') us

      after : After
      unfolding is_new
      after = go (eqb k 25 && not (any (same (part s a p)) (table_of s b e n))) refl noted.begins_is noted.ends_is noted.hints_are noted.count_is
        where
          spot : Spot at (length s) k a p
          spot = spot_of r found.on h

          go : (t : Bool) → (eqb k 25 && not (any (same (part s a p)) (table_of s b e n))) ≡ t → b' ≡ (when t then set_word b n a else b) → e' ≡ (when t then set_word e n p else e) → hints' ≡ (when t then set_word hints (hash_of (part s a p)) (n + 1) else hints) → n' ≡ (when t then n + 1 else n) → After
          go true x eb ee eh en = record {
            begins_size = rw eb (set_size b n a ∙ i.begins_size);
            ends_size = rw ee (set_size e n p ∙ i.ends_size);
            more = omega (arith, i.few);
            numbered = rw (eb, ee, en) (numbered_more s b e n a p (omega (arith, i.begins_size, i.few)) (omega (arith, i.ends_size, i.few)) i.numbered (not_known (eqb k 25) (any (same (part s a p)) (table_of s b e n)) x));
            marked = rw (eb, ee, eh, en) (marked_more s b e hints n a p i.marked (omega (arith, i.begins_size, i.few)) (omega (arith, i.ends_size, i.few)));
            step = λ us. names_step s k a p w (table_of s b e n) us spot.known ∙ rw (x, eb, ee, en, table_more s b e n a p (omega (arith, i.begins_size, i.few)) (omega (arith, i.ends_size, i.few)));
          }
          go false x eb ee eh en = record {
            begins_size = rw eb i.begins_size;
            ends_size = rw ee i.ends_size;
            more = omega (arith, i.few);
            numbered = rw (eb, ee, en) i.numbered;
            marked = rw (eb, ee, eh, en) i.marked;
            step = λ us. names_step s k a p w (table_of s b e n) us spot.known ∙ rw (x, eb, ee, en);
          }

      pub keeping_many : 128 < n' → Kept s b' e' n'
      unfolding rest
      keeping_many l = record { numbered = after.numbered; is = λ ts f m. absurd (go ts f m); many = λ ts f. lt-ltb 128 n' l ∙ sym (lt-ltb 128 (length (name_table ts)) (above ts f)) }
        where
          above : (ts : List Token) → tokens class s ≡ some ts → 128 < length (name_table ts)
          above ts f =
              let u = Loop.go_token _ s 0 _ at i.going r found k a p w h ts f in
              omega (arith, ap length (u.2 ∙ after.step u.0), grows (table_of s b' e' n') u.0, table_length s b' e' n')

          go : (ts : List Token) → tokens class s ≡ some ts → length (name_table ts) ≤ 128 → ⊥
          go ts f m = omega (arith, above ts f)

      pub keeping_again : n' ≤ 128 → Keeping s b' e' hints' n' p
      keeping_again l = record {
        begins_size = after.begins_size;
        ends_size = after.ends_size;
        few = l;
        numbered = after.numbered;
        marked = after.marked;
        going = go_again _ s 0 _ at i.going r found k a p w h _ (λ us f. after.step us);
      }
