-- The name table has each name of the tokens exactly once, and the symbols' names are its places. Assumes nothing.
use mathlib.Core.Path.{◌≡◌, refl, sym, ap, ◌∙◌, subst}
use mathlib.Core.Logic.{◌⊎◌, inl, inr, ⊎_elim}
use mathlib.Core.Bool.{Bool, true, false, true≢false}
use mathlib.Core.List.{List, [], ◌∷◌, ◌++◌}
use mathlib.Core.Option.{some}
use Prim.Native.Nat.{ℕ, zero, suc}
use lib.ListN.{get_elem?}
use Rattle.framed.specs.Common.{when◌then◌else◌, any, same, ◌∈◌, here, later, Twice}
use Rattle.framed.specs.Tokens.{Token}
use Rattle.framed.specs.Symbols.{Symbol, number_in, names_after, name_table, numbered, symbols}
use Rattle.framed.specs.Theorems.{NamesExact}
use Rattle.framed.proofs.General.{none≢some, some_inj}
use Rattle.framed.proofs.Lists.{none, in_front, behind, cases, place_in, any_found, any_finds, same_self, same_equal}

-- ---- The number of a name in a table

number_cases : (v w : List ℕ) (vs : List (List ℕ)) →
    ((v ≡ w) × (number_in (v ∷ vs) w ≡ 0)) ⊎ ((v ≡ w → ⊥) × (number_in (v ∷ vs) w ≡ suc (number_in vs w)))
unfolding number_in
number_cases v w vs = go (same v w) refl
  where
    go : (t : Bool) → same v w ≡ t → ((v ≡ w) × (number_in (v ∷ vs) w ≡ 0)) ⊎ ((v ≡ w → ⊥) × (number_in (v ∷ vs) w ≡ suc (number_in vs w)))
    go true p = inl (same_equal v w p, rw (number_in, p))
    go false p = inr (λ e. true≢false (sym (same_self w) ∙ ap (λ (u : List ℕ). same u w) (sym e) ∙ p), rw (number_in, p))

-- it is a place of the name
place_of : {table : List (List ℕ)} {w : List ℕ} → w ∈ table → get_elem? table (number_in table w) ≡ some w
place_of {w = w} (later {y = v} {xs = vs} m) = ⊎_elim (λ h. rw h.1 (ap some h.0)) (λ h. rw h.1 (place_of m)) (number_cases v w vs)
place_of (here {x = w} {xs = vs}) = ⊎_elim (λ h. rw h.1) (λ h. absurd (h.0 refl)) (number_cases w w vs)

-- a place that is a name's number has this name
number_place : (table : List (List ℕ)) (v : List ℕ) {w : List ℕ} → get_elem? table (number_in table v) ≡ some w → w ≡ v
unfolding number_in
number_place [] v e = absurd (none≢some e)
number_place (u ∷ us) v e =
    ⊎_elim (λ h. some_inj (sym e ∙ rw h.1) ∙ h.0) (λ h. number_place us v (rw h.1 at e)) (number_cases u v us)

-- where no name stands twice, a name's place is its number
pub number_at : (table : List (List ℕ)) → ¬ Twice table → (i : ℕ) {w : List ℕ} → get_elem? table i ≡ some w → number_in table w ≡ i
number_at [] t i e = absurd (none≢some e)
number_at (u ∷ us) t zero {w} e = ⊎_elim (λ h. h.1) (λ h. absurd (h.0 (some_inj e))) (number_cases u w us)
number_at (u ∷ us) t (suc i) {w} e =
    ⊎_elim (λ h. absurd (t (Twice.first (subst (λ (v : List ℕ). v ∈ us) (sym h.0) (place_in us i e)))))
    (λ h. h.1 ∙ ap suc (number_at us (λ d. t (Twice.rest d)) i e)) (number_cases u w us)

-- ---- The name table

same_in : (w : List ℕ) (table : List (List ℕ)) → any (same w) table ≡ true → w ∈ table
same_in w table e = let r = any_finds (same w) table e in subst (λ (v : List ℕ). v ∈ table) (sym (same_equal w r.0 r.2)) r.1

-- the table with a name that comes next
abbrev grown : List (List ℕ) → List ℕ → List (List ℕ)
grown table v = when any (same v) table then table else table ++ (v ∷ [])

kept : (table : List (List ℕ)) (ts : List Token) {w : List ℕ} → w ∈ table → w ∈ names_after table ts
unfolding names_after
kept table [] m = m
kept table (Token.name v ∷ ts) {w} m = kept (grown table v) ts (go (any (same v) table))
  where
    go : (t : Bool) → w ∈ (when t then table else table ++ (v ∷ []))
    go true = m
    go false = in_front _ m
kept table (Token.integer z ∷ ts) m = kept table ts m
kept table (Token.string v ∷ ts) m = kept table ts m
kept table (Token.code ∷ ts) m = kept table ts m
kept table (Token.fixed f ∷ ts) m = kept table ts m

named : (table : List (List ℕ)) (ts : List Token) {w : List ℕ} → Token.name w ∈ ts → w ∈ names_after table ts
unfolding names_after
named table [] m = none m
named table (Token.name v ∷ ts) (later m) = named (grown table v) ts m
named table (Token.name v ∷ ts) here = kept (grown table v) ts (go (any (same v) table) refl)
  where
    go : (t : Bool) → any (same v) table ≡ t → v ∈ (when t then table else table ++ (v ∷ []))
    go true p = same_in v table p
    go false p = behind table here
named table (Token.integer z ∷ ts) (later m) = named table ts m
named table (Token.string v ∷ ts) (later m) = named table ts m
named table (Token.code ∷ ts) (later m) = named table ts m
named table (Token.fixed f ∷ ts) (later m) = named table ts m

the_name : {v w : List ℕ} {ts : List Token} → w ∈ (v ∷ []) → Token.name w ∈ (Token.name v ∷ ts)
the_name here = here
the_name (later n) = none n

taken : (table : List (List ℕ)) (ts : List Token) {w : List ℕ} → w ∈ names_after table ts → (w ∈ table) ⊎ (Token.name w ∈ ts)
unfolding names_after
taken table [] m = inl m
taken table (Token.name v ∷ ts) {w} m = ⊎_elim (λ n. go (any (same v) table) n) (λ n. inr (later n)) (taken (grown table v) ts m)
  where
    go : (t : Bool) → w ∈ (when t then table else table ++ (v ∷ [])) → (w ∈ table) ⊎ (Token.name w ∈ (Token.name v ∷ ts))
    go true n = inl n
    go false n = cases table (λ k. inl k) (λ k. inr (the_name k)) n
taken table (Token.integer z ∷ ts) m = ⊎_elim (λ n. inl n) (λ n. inr (later n)) (taken table ts m)
taken table (Token.string v ∷ ts) m = ⊎_elim (λ n. inl n) (λ n. inr (later n)) (taken table ts m)
taken table (Token.code ∷ ts) m = ⊎_elim (λ n. inl n) (λ n. inr (later n)) (taken table ts m)
taken table (Token.fixed f ∷ ts) m = ⊎_elim (λ n. inl n) (λ n. inr (later n)) (taken table ts m)

module _ {A : Type 0} where
  the_last : {x y : A} {xs : List A} → y ∈ (x ∷ []) → x ∈ (y ∷ xs)
  the_last here = here
  the_last (later n) = none n

  twice_last : (xs : List A) {x : A} → Twice (xs ++ (x ∷ [])) → Twice xs ⊎ (x ∈ xs)
  twice_last [] (Twice.first m) = none m
  twice_last [] (Twice.rest d) = elim d [ ]
  twice_last (y ∷ xs) (Twice.first m) = cases xs (λ n. inl (Twice.first n)) (λ n. inr (the_last n)) m
  twice_last (y ∷ xs) (Twice.rest d) = ⊎_elim (λ h. inl (Twice.rest h)) (λ h. inr (later h)) (twice_last xs d)

once : (table : List (List ℕ)) (ts : List Token) → ¬ Twice table → ¬ Twice (names_after table ts)
unfolding names_after
once table [] t = t
once table (Token.name w ∷ ts) t = once (grown table w) ts (go (any (same w) table) refl)
  where
    go : (b : Bool) → any (same w) table ≡ b → ¬ Twice (when b then table else table ++ (w ∷ []))
    go true p = t
    go false p = λ d. ⊎_elim t (λ m. true≢false (sym (any_found (same w) m (same_self w)) ∙ p)) (twice_last table d)
once table (Token.integer z ∷ ts) t = once table ts t
once table (Token.string w ∷ ts) t = once table ts t
once table (Token.code ∷ ts) t = once table ts t
once table (Token.fixed f ∷ ts) t = once table ts t

pub names_exact : NamesExact
unfolding name_table
names_exact = record {
  exactly = λ ts w. (λ m. ⊎_elim none (λ n. n) (taken [] ts m), λ m. named [] ts m);
  once = λ ts. once [] ts (elim [ ]);
}

-- ---- The symbols' names

token_of : (table : List (List ℕ)) (s c : ℕ) (ts : List Token) {n : ℕ} → Symbol.name n ∈ numbered table s c ts → (w : List ℕ) × (Token.name w ∈ ts) × (n ≡ number_in table w)
unfolding numbered
token_of table s c [] m = none m
token_of table s c (Token.name w ∷ ts) here = (w, here, refl)
token_of table s c (Token.name w ∷ ts) (later m) = let r = token_of table s c ts m in (r.0, later r.1, r.2)
token_of table s c (Token.integer z ∷ ts) (later m) = let r = token_of table s c ts m in (r.0, later r.1, r.2)
token_of table s c (Token.string w ∷ ts) (later m) = let r = token_of table (suc s) c ts m in (r.0, later r.1, r.2)
token_of table s c (Token.code ∷ ts) (later m) = let r = token_of table s (suc c) ts m in (r.0, later r.1, r.2)
token_of table s c (Token.fixed f ∷ ts) (later m) = let r = token_of table s c ts m in (r.0, later r.1, r.2)

-- where a name's number is a symbol, the table has the name there
pub symbol_place : (ts : List Token) (v : List ℕ) → Symbol.name (number_in (name_table ts) v) ∈ symbols ts → get_elem? (name_table ts) (number_in (name_table ts) v) ≡ some v
unfolding symbols name_table
symbol_place ts v m =
    let table = names_after [] ts in
    let r = token_of table 0 0 ts m in
    let e : get_elem? table (number_in table v) ≡ some r.0 = ap (λ (n : ℕ). get_elem? table n) r.2 ∙ place_of (named [] ts r.1) in
    e ∙ ap some (number_place table v e)
