-- The words of a path: dots and names, dots and `^`, and how many names two lists share. One law for each way through a function. Assumes nothing.
use mathlib.Core.Path.{◌≡◌, refl, ◌∙◌, ap, sym}
use mathlib.Core.Bool.{Bool, true, false, true≢false}
use mathlib.Core.List.{List, [], ◌∷◌, ◌++◌, append-nil, append_assoc}
use Prim.Native.Nat.{ℕ, zero, suc, ◌+◌, ◌-◌, ◌≤◌, ◌<◌}
use native.Mathlib.Omega.{arith}
use native.Mathlib.Numerals.{add-one}
use lib.Dec.{eqb}
use lib.ListN.{length, get_or, drop, drop_of_length-le}
use lib.Seq.{drop-cons}
use mir.Syntax.{w32}
use mir.Val.{Fits}
use borrow.Author.Tests.{eq-eqb, ne_eqb}
use Rattle.framed.specs.Common.{bytes}
use Rattle.framed.specs.Tokens.{Token}
use Rattle.framed.specs.Paths.{holder}
use Rattle.framed.specs.Writer.{common_prefix, written_path, dotted, climbs, path_word, fixed_bytes, token_bytes, word_bytes, led}
use Rattle.framed.proofs.PathWritten.{common_most}
use Rattle.tables.specs.Fields.{path_name}
use Rattle.trees.specs.Trees.{path_list}
use Rattle.write_words.specs.Appending.{CanAppend, Appended}
use Rattle.write_words.specs.Words.{name_table, self_path_text, program_path_text, names_text, climbs_text, AtName, AtPath}
use Rattle.write_words.proofs.Laws.{appended_then, Grown, grown_none, grown_then}

-- ---- Path names

module _ {p : List ℕ} {j n : ℕ} (at_path : AtPath p j n) where
  -- sums of their numbers are small
  pub path_fits : {i : ℕ} → i ≤ n → Fits w32 (j + i)
  path_fits le = let a = at_path.there in let b = at_path.program.entries.limits.path_names_most in omega arith

  -- each is a name
  pub path_at_name : {i k : ℕ} → i < n → k ≡ path_name p (j + i) → AtName p k
  path_at_name {i} {k} lt e =
      let a = at_path.there in
      record {
        literal_bytes = at_path.literal_bytes;
        program = at_path.program;
        there = let b = at_path.program.entries.texts.path_name_there (j + i) (omega arith) in omega arith;
      }

  -- a part of a path
  pub path_part : {i k : ℕ} → i + k ≤ j + n → AtPath p i k
  path_part le = let a = at_path.there in record { literal_bytes = at_path.literal_bytes; program = at_path.program; there = omega arith }

-- those behind the first c
path_drop : (p : List ℕ) (n j c : ℕ) → c ≤ n → drop c (path_list p n j) ≡ path_list p (n - c) (j + c)
unfolding path_list
path_drop p n j zero le =
    let a : n ≡ n - 0 = omega arith in
    let b : j ≡ j + 0 = omega arith in
    ap (λ (i : ℕ). path_list p i j) a ∙ ap (λ (i : ℕ). path_list p (n - 0) i) b
path_drop p zero j (suc c) le = absurd (omega arith)
path_drop p (suc n) j (suc c) le =
    let a : n - c ≡ suc n - suc c = omega arith in
    let b : j + 1 + c ≡ j + suc c = omega arith in
    path_drop p n (j + 1) c (omega arith) ∙ ap (λ (i : ℕ). path_list p i (j + 1 + c)) a ∙ ap (λ (i : ℕ). path_list p (suc n - suc c) i) b

-- the i-th and those behind it
path_more : (p : List ℕ) (n j i : ℕ) → i < n → path_list p (n - i) (j + i) ≡ path_name p (j + i) ∷ path_list p (n - (i + 1)) (j + (i + 1))
unfolding path_list
path_more p n j i lt =
    let a : n - i ≡ suc (n - (i + 1)) = omega arith in
    let b : j + i + 1 ≡ j + (i + 1) = omega arith in
    ap (λ (k : ℕ). path_list p k (j + i)) a ∙ ap (λ (k : ℕ). path_name p (j + i) ∷ path_list p (n - (i + 1)) k) b

-- ---- append_names

-- dot and path name j
dot_name : List ℕ → ℕ → List ℕ
dot_name p j = 46 ∷ get_or (name_table p) (path_name p j) []

names_last : (p : List ℕ) (i j : ℕ) → names_text p j (suc i) ≡ names_text p j i ++ dot_name p (j + i)
unfolding dot_name names_text dotted path_list word_bytes token_bytes fixed_bytes bytes
names_last p zero j = let e : j ≡ j + 0 = omega arith in append-nil (dot_name p j) ∙ ap (dot_name p) e
names_last p (suc i) j =
    let e : j + 1 + i ≡ j + suc i = omega arith in
    ap (λ (l : List ℕ). dot_name p j ++ l) (names_last p i (j + 1) ∙ ap (λ (k : ℕ). names_text p (j + 1) i ++ dot_name p k) e)
    ∙ sym (append_assoc (dot_name p j) (names_text p (j + 1) i) (dot_name p (j + suc i)))

pub record Naming (p m₀ : List ℕ) (limit at j n : ℕ) (m : List ℕ) (b i : ℕ) : Type 0 where
  pub inside : i ≤ n
  pub grown : Grown m₀ limit at (names_text p j i) m b

pub naming_start : (p m : List ℕ) (limit at j n : ℕ) → CanAppend m limit at → Naming p m limit at j n m at 0
unfolding names_text dotted path_list word_bytes
naming_start p m limit at j n can = record { inside = omega arith; grown = grown_none m limit at can }

module _ {p m₀ m : List ℕ} {limit at j n b i : ℕ} (c : Naming p m₀ limit at j n m b i) where
  pub naming_again : {m₁ m₂ : List ℕ} {a k r : ℕ} → i < n → Appended m limit b (46 ∷ []) m₁ a → Appended m₁ limit a (get_or (name_table p) k []) m₂ r → k ≡ path_name p (j + i)
      → Naming p m₀ limit at j n m₂ r (i + 1)
  unfolding dot_name
  naming_again {k = k} lt x y e = record {
    inside = omega arith;
    grown = rw (add-one i, names_last p i j, ← e) (grown_then c.grown (appended_then c.grown.can x y));
  }

  pub naming_done : n ≤ i → Appended m₀ limit at (names_text p j n) m b
  naming_done le = let a = c.inside in let e : i ≡ n = omega arith in rw e at c.grown.done

-- ---- append_climbs

climbs_last : (k : ℕ) → climbs_text (suc k) ≡ climbs_text k ++ (46 ∷ 94 ∷ [])
unfolding climbs_text climbs word_bytes token_bytes fixed_bytes bytes
climbs_last zero = refl
climbs_last (suc k) = ap (λ (l : List ℕ). 46 ∷ 94 ∷ l) (climbs_last k)

pub record Climbing (m₀ : List ℕ) (limit at k : ℕ) (m : List ℕ) (b i : ℕ) : Type 0 where
  pub inside : i ≤ k
  pub grown : Grown m₀ limit at (climbs_text i) m b

pub climbing_start : (m : List ℕ) (limit at k : ℕ) → CanAppend m limit at → Climbing m limit at k m at 0
unfolding climbs_text climbs word_bytes
climbing_start m limit at k can = record { inside = omega arith; grown = grown_none m limit at can }

module _ {m₀ m : List ℕ} {limit at k b i : ℕ} (c : Climbing m₀ limit at k m b i) where
  pub climbing_again : {m₁ : List ℕ} {r : ℕ} → i < k → Appended m limit b (46 ∷ 94 ∷ []) m₁ r → Climbing m₀ limit at k m₁ r (i + 1)
  climbing_again lt x = record { inside = omega arith; grown = rw (add-one i, climbs_last i) (grown_then c.grown x) }

  pub climbing_done : k ≤ i → Appended m₀ limit at (climbs_text k) m b
  climbing_done le = let a = c.inside in let e : i ≡ k = omega arith in rw e at c.grown.done

-- ---- common_prefix: what is left of the two decides

common_none : (hs : List ℕ) → common_prefix hs [] ≡ 0
unfolding common_prefix
common_none [] = refl
common_none (h ∷ hs) = refl

common_apart : (h n : ℕ) (hs ns : List ℕ) → (h ≡ n → ⊥) → common_prefix (h ∷ hs) (n ∷ ns) ≡ 0
unfolding common_prefix
common_apart h n hs ns ne = go (eqb h n) (ne_eqb h n ne)
  where
    go : (b : Bool) → b ≡ false → ◌≡◌ {A = ℕ} (elim b [ true ↦ suc (common_prefix hs ns) | false ↦ 0 ]) 0
    go true e = absurd (true≢false e)
    go false e = refl

common_same : (h n : ℕ) (hs ns : List ℕ) → h ≡ n → common_prefix (h ∷ hs) (n ∷ ns) ≡ suc (common_prefix hs ns)
unfolding common_prefix
common_same h n hs ns q = go (eqb h n) (eq-eqb h n q)
  where
    go : (b : Bool) → b ≡ true → elim b [ true ↦ suc (common_prefix hs ns) | false ↦ 0 ] ≡ suc (common_prefix hs ns)
    go true e = refl
    go false e = absurd (true≢false (sym e))

pub record Comparing (p hs : List ℕ) (j n i : ℕ) : Type 0 where
  pub inside : i ≤ n
  pub rest : common_prefix hs (path_list p n j) ≡ i + common_prefix (drop i hs) (path_list p (n - i) (j + i))

pub comparing_start : (p hs : List ℕ) (j n : ℕ) → Comparing p hs j n 0
comparing_start p hs j n = record { inside = omega arith; rest = sym (omega (arith, ap (common_prefix hs) (sym (path_drop p n j 0 (omega arith))))) }

module _ {p hs : List ℕ} {j n i : ℕ} (c : Comparing p hs j n i) where
  pub comparing_past : {k : ℕ} → k ≡ i → length hs ≤ k → i ≡ common_prefix hs (path_list p n j)
  unfolding common_prefix
  comparing_past ek le = sym (omega (arith, rw (drop_of_length-le hs {i = i} (omega arith)) at c.rest))

  pub comparing_done : n ≤ i → n ≡ common_prefix hs (path_list p n j)
  unfolding path_list
  comparing_done le =
      let b = c.inside in
      let e : n - i ≡ 0 = omega arith in
      omega (arith, c.rest, ap (λ (k : ℕ). common_prefix (drop i hs) (path_list p k (j + i))) e ∙ common_none (drop i hs))

  module _ {k x : ℕ} (lt : i < n) (ek : k ≡ i) (lk : k < length hs) (ex : x ≡ path_name p (j + i)) where
    rest₁ : List ℕ
    rest₁ = path_list p (n - (i + 1)) (j + (i + 1))

    turn : common_prefix (drop i hs) (path_list p (n - i) (j + i)) ≡ common_prefix (get_or hs k 0 ∷ drop (i + 1) hs) (x ∷ rest₁)
    unfolding rest₁
    turn =
        let e : drop i hs ≡ get_or hs i 0 ∷ drop (i + 1) hs = drop-cons hs i 0 (omega arith) ∙ ap (λ (z : ℕ). get_or hs i 0 ∷ drop z hs) (sym (add-one i)) in
        rw (ek, ex) (ap (λ (l : List ℕ). common_prefix l (path_list p (n - i) (j + i))) e ∙ ap (common_prefix (get_or hs i 0 ∷ drop (i + 1) hs)) (path_more p n j i lt))

    pub comparing_apart : (get_or hs k 0 ≡ x → ⊥) → i ≡ common_prefix hs (path_list p n j)
    comparing_apart ne = omega (arith, c.rest, turn ∙ common_apart (get_or hs k 0) x (drop (i + 1) hs) rest₁ ne)

    pub comparing_again : get_or hs k 0 ≡ x → Comparing p hs j n (i + 1)
    unfolding rest₁
    comparing_again e = record { inside = omega arith; rest = omega (arith, c.rest, turn ∙ common_same (get_or hs k 0) x (drop (i + 1) hs) rest₁ e) }

-- ---- append_self_path, append_program_path

module _ {m m₁ m₂ : List ℕ} {limit at a r : ℕ} (p : List ℕ) (j n : ℕ) (can : CanAppend m limit at) where
  pub self_appended : Appended m limit at (32 ∷ 115 ∷ 101 ∷ 108 ∷ 102 ∷ []) m₁ a → Appended m₁ limit a (names_text p j n) m₂ r → Appended m limit at (self_path_text p j n) m₂ r
  unfolding self_path_text path_word names_text led word_bytes token_bytes fixed_bytes bytes
  self_appended x y =
      let t : 32 ∷ 115 ∷ 101 ∷ 108 ∷ 102 ∷ names_text p j n ≡ self_path_text p j n =
      ap (λ (l : List ℕ). 32 ∷ 115 ∷ 101 ∷ 108 ∷ 102 ∷ l) (sym (append-nil (names_text p j n))) in
      rw t at (appended_then can x y)

word_append : (v w : List Token) → word_bytes (v ++ w) ≡ word_bytes v ++ word_bytes w
unfolding word_bytes
word_append [] w = refl
word_append (t ∷ v) w = ap (λ (l : List ℕ). token_bytes t ++ l) (word_append v w) ∙ sym (append_assoc (token_bytes t) (word_bytes v) (word_bytes w))

common_within : (hs : List ℕ) (p : List ℕ) (n j : ℕ) → common_prefix hs (path_list p n j) ≤ n
unfolding path_list common_prefix
common_within hs p zero j = omega (arith, common_none hs)
common_within [] p (suc n) j = omega arith
common_within (h ∷ hs) p (suc n) j = go (eqb h (path_name p j)) (common_within hs p n (j + 1))
  where
    go : (b : Bool) → common_prefix hs (path_list p n (j + 1)) ≤ n → elim b [ true ↦ suc (common_prefix hs (path_list p n (j + 1))) | false ↦ 0 ] ≤ suc n
    go true le = omega arith
    go false le = omega arith

module _ (p hs : List ℕ) (j n c : ℕ) (ec : c ≡ common_prefix hs (path_list p n j)) where
  pub shared_within : c ≤ n
  shared_within = let a = common_within hs p n j in omega arith

  pub shared_held : (w : ℕ) → w ≡ c → w ≤ length hs
  shared_held w ew = let a = common_most hs (path_list p n j) in omega arith

  pub program_appended : {m m₁ m₂ m₃ : List ℕ} {limit at a b r : ℕ} (w : ℕ) → w ≡ c → CanAppend m limit at → Appended m limit at (32 ∷ 94 ∷ []) m₁ a
      → Appended m₁ limit a (climbs_text (length hs - w)) m₂ b → Appended m₂ limit b (names_text p (j + c) (n - c)) m₃ r → Appended m limit at (program_path_text p hs j n) m₃ r
  unfolding program_path_text path_word written_path holder names_text climbs_text led word_bytes token_bytes fixed_bytes bytes
  program_appended w ew can x y z =
      let d = length hs - common_prefix hs (path_list p n j) in
      let ns = dotted (name_table p) (drop (common_prefix hs (path_list p n j)) (path_list p n j)) in
      let e₁ : climbs_text (length hs - w) ≡ word_bytes (climbs d) = ap (λ (i : ℕ). climbs_text (length hs - i)) (ew ∙ ec) in
      let e₂ : names_text p (j + c) (n - c) ≡ word_bytes ns =
      ap (λ (l : List ℕ). word_bytes (dotted (name_table p) l)) (sym (path_drop p n j c shared_within) ∙ ap (λ (i : ℕ). drop i (path_list p n j)) ec) in
      let t : (32 ∷ 94 ∷ [] ++ climbs_text (length hs - w)) ++ names_text p (j + c) (n - c) ≡ program_path_text p hs j n =
      rw (e₁, e₂) (ap (λ (l : List ℕ). 32 ∷ 94 ∷ l) (sym (append-nil (word_bytes (climbs d ++ ns)) ∙ word_append (climbs d) ns))) in
      rw t at (appended_then can (appended_then can x y) z)
