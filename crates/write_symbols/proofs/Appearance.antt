-- The names of a source are in order of first appearance in its table; and tokens whose names are so in a table have that table. Assumes nothing.
use mathlib.Core.Path.{◌≡◌, refl, ◌∙◌, ap, sym, subst}
use mathlib.Core.Logic.{◌⊎◌, inl, inr}
use mathlib.Core.Bool.{Bool, true, false, true≢false, false≢true, ◌||◌}
use mathlib.Core.List.{List, [], ◌∷◌, ◌++◌, append-nil, append_assoc}
use Prim.Native.Nat.{ℕ, zero, suc, ◌≤◌, ◌<◌}
use native.Mathlib.Omega.{arith}
use lib.ListN.{length, take, length-append}
use lib.Seq.{take-length}
use Rattle.framed.specs.Common.{when◌then◌else◌, any, same}
use Rattle.framed.specs.Tokens.{Token}
use Rattle.framed.specs.Symbols.{number_in, names_after, name_table, numbered, symbols}
use Rattle.framed.proofs.Lists.{same_self, same_equal, same_turned, not_turned}
use Rattle.write_symbols.specs.Order.{InOrder, names_in}
use Rattle.write_symbols.specs.Theorems.{SourceInOrder}

-- ---- The names of a source

-- the table only grows
record Extends (table full : List (List ℕ)) : Type 0 where
  more : List (List ℕ)
  is : full ≡ table ++ more

extends : (ts : List Token) (table : List (List ℕ)) → Extends table (names_after table ts)
unfolding names_after
extends [] table = record { more = []; is = sym (append-nil table) }
extends (Token.name w ∷ ts) table = go (any (same w) table) (λ l. extends ts l)
  where
    go : (t : Bool) → ((l : List (List ℕ)) → Extends l (names_after l ts)) → Extends table (names_after (when t then table else table ++ (w ∷ [])) ts)
    go true ih = ih table
    go false ih = let x = ih (table ++ (w ∷ [])) in record { more = w ∷ x.more; is = x.is ∙ append_assoc table (w ∷ []) x.more }
extends (Token.integer z ∷ ts) table = extends ts table
extends (Token.string w ∷ ts) table = extends ts table
extends (Token.code ∷ ts) table = extends ts table
extends (Token.fixed f ∷ ts) table = extends ts table

-- a name of the table keeps its number, and one that is added behind it has the number after the last
known_number : (table more : List (List ℕ)) (w : List ℕ) → any (same w) table ≡ true → number_in (table ++ more) w < length table
unfolding any number_in
known_number [] more w e = absurd (false≢true e)
known_number (v ∷ vs) more w e = go (same v w) refl e (λ q. known_number vs more w q)
  where
    go : (t : Bool) → same v w ≡ t → same w v || any (same w) vs ≡ true → (any (same w) vs ≡ true → number_in (vs ++ more) w < length vs) →
        elim t [ true ↦ 0 | false ↦ suc (number_in (vs ++ more) w) ] < suc (length vs)
    go true q h ih = omega arith
    go false q h ih = let i = ih (rw (not_turned v w q) at h) in omega arith

new_number : (table more : List (List ℕ)) (w : List ℕ) → any (same w) table ≡ false → number_in (table ++ (w ∷ more)) w ≡ length table
unfolding any number_in
new_number [] more w e = rw (number_in, same_self w)
new_number (v ∷ vs) more w e = go (same v w) refl e (λ q. new_number vs more w q)
  where
    go : (t : Bool) → same v w ≡ t → same w v || any (same w) vs ≡ false → (any (same w) vs ≡ false → number_in (vs ++ (w ∷ more)) w ≡ length vs) →
        ◌≡◌ {A = ℕ} (elim t [ true ↦ 0 | false ↦ suc (number_in (vs ++ (w ∷ more)) w) ]) (suc (length vs))
    go true q h ih = absurd (true≢false (rw (same_turned v w q) at h))
    go false q h ih = ap suc (ih (rw (not_turned v w q) at h))

module _ (full : List (List ℕ)) where
  in_order : (ts : List Token) (table : List (List ℕ)) (s c : ℕ) → names_after table ts ≡ full → InOrder (length table) (names_in (numbered full s c ts)) (length full)
  unfolding names_after numbered names_in InOrder
  in_order [] table s c e = ap length e
  in_order (Token.name w ∷ ts) table s c e = go (any (same w) table) refl e (λ l f. in_order ts l s c f)
    where
      go : (t : Bool) → any (same w) table ≡ t → names_after (when t then table else table ++ (w ∷ [])) ts ≡ full →
          ((l : List (List ℕ)) → names_after l ts ≡ full → InOrder (length l) (names_in (numbered full s c ts)) (length full)) →
          ((number_in full w < length table) × InOrder (length table) (names_in (numbered full s c ts)) (length full))
          ⊎ ((number_in full w ≡ length table) × InOrder (suc (length table)) (names_in (numbered full s c ts)) (length full))
      go true q f ih =
          let x = extends ts table in
          inl (subst (λ (l : List (List ℕ)). number_in l w < length table) (sym x.is ∙ f) (known_number table x.more w q), ih table f)
      go false q f ih =
          let x = extends ts (table ++ (w ∷ [])) in
          let n : length (table ++ (w ∷ [])) ≡ suc (length table) = omega (arith, length-append table (w ∷ [])) in
          inr (
            subst (λ (l : List (List ℕ)). number_in l w ≡ length table) (sym (append_assoc table (w ∷ []) x.more) ∙ sym x.is ∙ f) (new_number table x.more w q),
            subst (λ (k : ℕ). InOrder k (names_in (numbered full s c ts)) (length full)) n (ih (table ++ (w ∷ [])) f),
          )
  in_order (Token.integer z ∷ ts) table s c e = in_order ts table s c e
  in_order (Token.string w ∷ ts) table s c e = in_order ts table (suc s) c e
  in_order (Token.code ∷ ts) table s c e = in_order ts table s (suc c) e
  in_order (Token.fixed f ∷ ts) table s c e = in_order ts table s c e

pub source_in_order : SourceInOrder
unfolding name_table symbols
source_in_order ts = in_order (names_after [] ts) ts [] 0 0 refl

-- ---- The table back

-- a name with a number below k is among the first k
known_there : (table : List (List ℕ)) (k : ℕ) (w : List ℕ) → number_in table w < k → k ≤ length table → any (same w) (take k table) ≡ true
unfolding number_in any
known_there [] k w lt le = absurd (omega arith)
known_there (v ∷ vs) zero w lt le = absurd (omega arith)
known_there (v ∷ vs) (suc k) w lt le = go (same v w) refl lt (λ q. known_there vs k w q (omega arith))
  where
    go : (t : Bool) → same v w ≡ t → elim t [ true ↦ 0 | false ↦ suc (number_in vs w) ] < suc k → (number_in vs w < k → any (same w) (take k vs) ≡ true) →
        same w v || any (same w) (take k vs) ≡ true
    go true e q ih = rw (same_turned v w e)
    go false e q ih = rw (not_turned v w e) (ih (omega arith))

-- one with the number k is not, and comes next
record Next (table : List (List ℕ)) (k : ℕ) (w : List ℕ) : Type 0 where
  absent : any (same w) (take k table) ≡ false
  added : take k table ++ (w ∷ []) ≡ take (suc k) table

fresh_there : (table : List (List ℕ)) (k : ℕ) (w : List ℕ) → number_in table w ≡ k → k < length table → Next table k w
unfolding number_in any
fresh_there [] k w e lt = absurd (omega arith)
fresh_there (v ∷ vs) zero w e lt = go (same v w) refl e
  where
    go : (t : Bool) → same v w ≡ t → ◌≡◌ {A = ℕ} (elim t [ true ↦ 0 | false ↦ suc (number_in vs w) ]) 0 → Next (v ∷ vs) 0 w
    go true q z = record { absent = refl; added = ap (λ (u : List ℕ). u ∷ []) (sym (same_equal v w q)) }
    go false q z = absurd (omega arith)
fresh_there (v ∷ vs) (suc k) w e lt = go (same v w) refl e (λ q. fresh_there vs k w q (omega arith))
  where
    go : (t : Bool) → same v w ≡ t → ◌≡◌ {A = ℕ} (elim t [ true ↦ 0 | false ↦ suc (number_in vs w) ]) (suc k) → (number_in vs w ≡ k → Next vs k w) →
        Next (v ∷ vs) (suc k) w
    go true q z ih = absurd (omega arith)
    go false q z ih =
        let n = ih (omega arith) in
        record { absent = rw (not_turned v w q) n.absent; added = ap (λ (l : List (List ℕ)). v ∷ l) n.added }

-- the numbers known only grow
grows : (ns : List ℕ) (k k' : ℕ) → InOrder k ns k' → k ≤ k'
unfolding InOrder
grows [] k k' e = omega arith
grows (n ∷ ns) k k' (inl (lt, o)) = grows ns k k' o
grows (n ∷ ns) k k' (inr (e, o)) = let g = grows ns (suc k) k' o in omega arith

module _ (table : List (List ℕ)) where
  table_after : (ts : List Token) (s c k k' : ℕ) → k' ≤ length table → InOrder k (names_in (numbered table s c ts)) k' → names_after (take k table) ts ≡ take k' table
  unfolding names_after numbered names_in InOrder
  table_after [] s c k k' le e = ap (λ (n : ℕ). take n table) e
  table_after (Token.name w ∷ ts) s c k k' le (inl (lt, o)) =
      let g = grows (names_in (numbered table s c ts)) k k' o in
      ap (λ (t : Bool). names_after (when t then take k table else take k table ++ (w ∷ [])) ts) (known_there table k w lt (omega arith)) ∙ table_after ts s c k k' le o
  table_after (Token.name w ∷ ts) s c k k' le (inr (e, o)) =
      let g = grows (names_in (numbered table s c ts)) (suc k) k' o in
      let n = fresh_there table k w e (omega arith) in
      ap (λ (t : Bool). names_after (when t then take k table else take k table ++ (w ∷ [])) ts) n.absent
      ∙ ap (λ (l : List (List ℕ)). names_after l ts) n.added
      ∙ table_after ts s c (suc k) k' le o
  table_after (Token.integer z ∷ ts) s c k k' le o = table_after ts s c k k' le o
  table_after (Token.string w ∷ ts) s c k k' le o = table_after ts (suc s) c k k' le o
  table_after (Token.code ∷ ts) s c k k' le o = table_after ts s (suc c) k k' le o
  table_after (Token.fixed f ∷ ts) s c k k' le o = table_after ts s c k k' le o

  pub table_back : (ts : List Token) → InOrder 0 (names_in (numbered table 0 0 ts)) (length table) → name_table ts ≡ table
  unfolding name_table
  table_back ts o = table_after ts 0 0 0 (length table) (omega arith) o ∙ take-length table
