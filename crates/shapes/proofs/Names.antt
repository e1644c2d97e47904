-- The name table has distinct names, every name of the source is in it, and the symbols of a source are numbered in order. Assumes nothing.
use mathlib.Core.Path.{◌≡◌, refl, sym, ◌∙◌, ap, subst}
use mathlib.Core.Logic.{◌≢◌}
use mathlib.Core.Bool.{Bool, true, false, ◌||◌, true≢false, false≢true}
use mathlib.Core.List.{List, [], ◌∷◌, ◌++◌}
use Prim.Native.Nat.{ℕ, zero, suc, ◌+◌, ◌<◌}
use native.Mathlib.Omega.{arith}
use native.Mathlib.Decide.{dec_lt}
use lib.ListN.{length, get_or, length-append, get_or-append}
use lib.Seq.{get_or-append_seam}
use lib.IntN.{ℤ}
use Rattle.framed.specs.Common.{when◌then◌else◌, any, same}
use Rattle.framed.specs.Tokens.{Token, Fixed, in_range}
use Rattle.framed.specs.Symbols.{Symbol, number_in, names_after, literals, numbered}
use Rattle.framed.proofs.Lists.{same_self, same_equal}
use Rattle.shapes.specs.Shape.{NameShaped, LiteralShaped}
use Rattle.shapes.proofs.Lists.{none_of}
use Rattle.shapes.proofs.Tokens.{TokenShaped, AllShaped}

-- ---- Distinct names

pub record TableShaped (table : List (List ℕ)) : Type 0 where
  pub name : (k : ℕ) → k < length table → NameShaped (get_or table k [])
  pub distinct : (j k : ℕ) → j < k → k < length table → get_or table j [] ≢ get_or table k []

table_none : TableShaped []
table_none = record { name = λ k lt. absurd (omega arith); distinct = λ j k l lt. absurd (omega arith) }

module _ (table : List (List ℕ)) (w : List ℕ) where
  last_is : (k : ℕ) → k < length (table ++ (w ∷ [])) → (k < length table → ⊥) → get_or (table ++ (w ∷ [])) k [] ≡ w
  last_is k lt ge =
      let e : k ≡ length table = omega (arith, length-append table (w ∷ [])) in
      ap (λ (n : ℕ). get_or (table ++ (w ∷ [])) n []) e ∙ get_or-append_seam table w [] []

  table_more : TableShaped table → NameShaped w → any (same w) table ≡ false → TableShaped (table ++ (w ∷ []))
  table_more h n f =
      record {
        name = λ k lt. named k lt (dec_lt k (length table));
        distinct = λ j k l lt e. apart j k l lt (dec_lt k (length table)) e;
      }
    where
      named : (k : ℕ) → k < length (table ++ (w ∷ [])) → Dec (k < length table) → NameShaped (get_or (table ++ (w ∷ [])) k [])
      named k lt (yes a) = subst NameShaped (sym (get_or-append table (w ∷ []) [] k a)) (h.name k a)
      named k lt (no a) = subst NameShaped (sym (last_is k lt a)) n

      apart : (j k : ℕ) → j < k → k < length (table ++ (w ∷ [])) → Dec (k < length table) → get_or (table ++ (w ∷ [])) j [] ≢ get_or (table ++ (w ∷ [])) k []
      apart j k l lt (yes a) e = h.distinct j k l a (sym (get_or-append table (w ∷ []) [] j (omega arith)) ∙ e ∙ get_or-append table (w ∷ []) [] k a)
      apart j k l lt (no a) e =
          let b : j < length table = omega (arith, length-append table (w ∷ [])) in
          let d : w ≡ get_or table j [] = sym (last_is k lt a) ∙ sym e ∙ get_or-append table (w ∷ []) [] j b in
          let t : same w (get_or table j []) ≡ true = ap (same w) (sym d) ∙ same_self w in
          true≢false (sym t ∙ none_of (same w) [] table f j b)

pub names_shaped : (table : List (List ℕ)) (ts : List Token) → AllShaped ts → TableShaped table → TableShaped (names_after table ts)
unfolding names_after
names_shaped table [] a h = h
names_shaped table (Token.name w ∷ ts) (AllShaped.more (TokenShaped.name n) a) h = names_shaped (when any (same w) table then table else table ++ (w ∷ [])) ts a (go (any (same w) table) refl)
  where
    go : (t : Bool) → any (same w) table ≡ t → TableShaped (when t then table else table ++ (w ∷ []))
    go true e = h
    go false e = table_more table w h n e
names_shaped table (Token.integer z ∷ ts) (AllShaped.more t a) h = names_shaped table ts a h
names_shaped table (Token.string w ∷ ts) (AllShaped.more t a) h = names_shaped table ts a h
names_shaped table (Token.code ∷ ts) (AllShaped.more t a) h = names_shaped table ts a h
names_shaped table (Token.fixed f ∷ ts) (AllShaped.more t a) h = names_shaped table ts a h

pub table_shaped : (ts : List Token) → AllShaped ts → TableShaped (names_after [] ts)
table_shaped ts a = names_shaped [] ts a table_none

-- ---- Literals

pub literals_shaped : (ts : List Token) → AllShaped ts → (k : ℕ) → k < length (literals ts) → LiteralShaped (get_or (literals ts) k [])
unfolding literals
literals_shaped [] a k lt = absurd (omega arith)
literals_shaped (Token.name w ∷ ts) (AllShaped.more t a) k lt = literals_shaped ts a k lt
literals_shaped (Token.integer z ∷ ts) (AllShaped.more t a) k lt = literals_shaped ts a k lt
literals_shaped (Token.string w ∷ ts) (AllShaped.more (TokenShaped.string h) a) zero lt = h
literals_shaped (Token.string w ∷ ts) (AllShaped.more t a) (suc k) lt = literals_shaped ts a k (omega arith)
literals_shaped (Token.code ∷ ts) (AllShaped.more t a) k lt = literals_shaped ts a k lt
literals_shaped (Token.fixed f ∷ ts) (AllShaped.more t a) k lt = literals_shaped ts a k lt

-- ---- A name that is in a table has a number below its length

pub record Known (table : List (List ℕ)) (w : List ℕ) : Type 0 where
  pub below : number_in table w < length table

known_first : (v : List ℕ) (vs : List (List ℕ)) (w : List ℕ) → same v w ≡ true → Known (v ∷ vs) w
unfolding number_in
known_first v vs w e = record { below = go (same v w) e }
  where
    go : (t : Bool) → t ≡ true → ◌<◌ (elim t [ true ↦ 0 | false ↦ suc (number_in vs w) ]) (suc (length vs))
    go true q = omega arith
    go false q = absurd (false≢true q)

known_later : (v : List ℕ) (vs : List (List ℕ)) (w : List ℕ) → Known vs w → Known (v ∷ vs) w
unfolding number_in
known_later v vs w h = record { below = go (same v w) }
  where
    go : (t : Bool) → ◌<◌ (elim t [ true ↦ 0 | false ↦ suc (number_in vs w) ]) (suc (length vs))
    go true = omega arith
    go false = omega (arith, h.below)

-- it is in the table where one of the names is the same
pub known_any : (table : List (List ℕ)) (w : List ℕ) → any (same w) table ≡ true → Known table w
unfolding any
known_any [] w e = absurd (false≢true e)
known_any (v ∷ vs) w e = go (same w v) refl e (λ q. known_any vs w q)
  where
    go : (t : Bool) → same w v ≡ t → t || any (same w) vs ≡ true → (any (same w) vs ≡ true → Known vs w) → Known (v ∷ vs) w
    go true p q f = known_first v vs w (ap (λ (u : List ℕ). same u w) (sym (same_equal w v p)) ∙ same_self w)
    go false p q f = known_later v vs w (f q)

known_last : (table : List (List ℕ)) (w : List ℕ) → Known (table ++ (w ∷ [])) w
known_last [] w = known_first w [] w (same_self w)
known_last (v ∷ vs) w = known_later v (vs ++ (w ∷ [])) w (known_last vs w)

known_front : (table more : List (List ℕ)) (w : List ℕ) → Known table w → Known (table ++ more) w
unfolding number_in
known_front [] more w h = absurd (omega (arith, h.below))
known_front (v ∷ vs) more w h = go (same v w) refl h.below (λ q. known_front vs more w q)
  where
    go : (t : Bool) → same v w ≡ t → ◌<◌ (elim t [ true ↦ 0 | false ↦ suc (number_in vs w) ]) (suc (length vs)) → (Known vs w → Known (vs ++ more) w) →
        Known (v ∷ vs ++ more) w
    go true p q f = known_first v (vs ++ more) w p
    go false p q f = known_later v (vs ++ more) w (f (record { below = omega arith }))

-- and stays there where names are added
known_more : (table : List (List ℕ)) (ts : List Token) (w : List ℕ) → Known table w → Known (names_after table ts) w
unfolding names_after
known_more table [] w h = h
known_more table (Token.name v ∷ ts) w h = known_more (when any (same v) table then table else table ++ (v ∷ [])) ts w (go (any (same v) table))
  where
    go : (t : Bool) → Known (when t then table else table ++ (v ∷ [])) w
    go true = h
    go false = known_front table (v ∷ []) w h
known_more table (Token.integer z ∷ ts) w h = known_more table ts w h
known_more table (Token.string v ∷ ts) w h = known_more table ts w h
known_more table (Token.code ∷ ts) w h = known_more table ts w h
known_more table (Token.fixed f ∷ ts) w h = known_more table ts w h

-- ---- Symbols in order

-- N names there are and L strings; the next string has the number s, the next code the number c
pub data Ordered (N L : ℕ) : ℕ → ℕ → List Symbol → Type 0 where
  done : {s c : ℕ} → s ≡ L → Ordered N L s c []
  name : {s c n : ℕ} {ts : List Symbol} → n < N → Ordered N L s c ts → Ordered N L s c (Symbol.name n ∷ ts)
  integer : {s c : ℕ} {z : ℤ} {ts : List Symbol} → in_range z ≡ true → Ordered N L s c ts → Ordered N L s c (Symbol.integer z ∷ ts)
  string : {s c : ℕ} {ts : List Symbol} → s < L → Ordered N L (s + 1) c ts → Ordered N L s c (Symbol.string s ∷ ts)
  code : {s c : ℕ} {ts : List Symbol} → Ordered N L s (c + 1) ts → Ordered N L s c (Symbol.code c ∷ ts)
  fixed : {s c : ℕ} {f : Fixed} {ts : List Symbol} → Ordered N L s c ts → Ordered N L s c (Symbol.fixed f ∷ ts)

pub ordered_at : (N L s c s' c' : ℕ) (ts : List Symbol) → s ≡ s' → c ≡ c' → Ordered N L s c ts → Ordered N L s' c' ts
ordered_at N L s c s' c' ts e f h = subst (λ (k : ℕ). Ordered N L s' k ts) f (subst (λ (k : ℕ). Ordered N L k c ts) e h)

module _ (T : List (List ℕ)) (L : ℕ) where
  pub ordered : (table : List (List ℕ)) (ts : List Token) (s c : ℕ) → AllShaped ts → names_after table ts ≡ T → s + length (literals ts) ≡ L →
      Ordered (length T) L s c (numbered T s c ts)
  unfolding names_after numbered literals
  ordered table [] s c a e l = Ordered.done {s = s} (omega arith)
  ordered table (Token.name w ∷ ts) s c (AllShaped.more t a) e l =
      Ordered.name (subst (λ (u : List (List ℕ)). Known u w) e (known_more (when any (same w) table then table else table ++ (w ∷ [])) ts w (go (any (same w) table) refl))).below
      (ordered (when any (same w) table then table else table ++ (w ∷ [])) ts s c a e l)
    where
      go : (t : Bool) → any (same w) table ≡ t → Known (when t then table else table ++ (w ∷ [])) w
      go true q = known_any table w q
      go false q = known_last table w
  ordered table (Token.integer z ∷ ts) s c (AllShaped.more (TokenShaped.integer r) a) e l = Ordered.integer r (ordered table ts s c a e l)
  ordered table (Token.string w ∷ ts) s c (AllShaped.more t a) e l =
      Ordered.string {s = s} (omega arith) (ordered_at _ L _ _ _ _ _ (omega arith) refl (ordered table ts (suc s) c a e (omega arith)))
  ordered table (Token.code ∷ ts) s c (AllShaped.more t a) e l =
      Ordered.code {c = c} (ordered_at _ L _ _ _ _ _ refl (omega arith) (ordered table ts s (suc c) a e l))
  ordered table (Token.fixed f ∷ ts) s c (AllShaped.more t a) e l = Ordered.fixed (ordered table ts s c a e l)
