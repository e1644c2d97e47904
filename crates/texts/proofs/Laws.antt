-- One law for each way through the functions of this crate. Assumes nothing.
use Prim.Native.Nat.{ℕ, suc, ◌+◌, ◌-◌, ◌*◌, ◌≤◌, ◌<◌}
use mathlib.Core.Path.{◌≡◌, refl, ◌∙◌, ap, sym}
use mathlib.Core.List.{List, [], ◌∷◌}
use mathlib.Core.Bool.{Bool, true, false, ◌&&◌, and-true, and-false, and_assoc}
use native.Mathlib.Omega.{arith}
use native.Mathlib.Numerals.{add-one}
use native.Mathlib.Decide.{dec_lt}
use lib.ListN.{length, get_or, take, drop, length-drop}
use lib.Seq.{length-take-le, get_or-take, get_or-drop, ext_get_or, drop-cons, drop-length}
use lib.Dec.{eqb, ltb}
use lib.IntN.{ℤ}
use borrow.Author.Tests.{lt-ltb, le-ltb}
use Rattle.framed.specs.declared.Value.{Value}
use Rattle.arith.specs.Arith.{nonzero}
use Rattle.words.specs.Words.{pick, word}
use Rattle.framed.specs.Common.{same}
use Rattle.framed.specs.declared.Text.{Text}
use Rattle.framed.specs.Values.{text_bytes, truth}
use Rattle.tables.specs.Fields.{literals, literal_length, literal_byte}
use Rattle.heap.specs.Words.{text_length, text_byte}
use Rattle.heap.specs.Lists.{listed}
use Rattle.heap.specs.Held.{text_held, texts_held}
use Rattle.heap.proofs.Lists.{listed_length, listed_at, listed_past}
use Rattle.heap.proofs.Held.{text_at}
use Rattle.texts.specs.Literals.{literal_held, literals_held}
use Rattle.texts.specs.Texts.{part_of, Inside, LiteralsInside, TextsInside, text_size, same_literal_bytes, same_texts}

-- ---- Parts

-- a part of a memory is what is read there, byte by byte
pub part_listed : (m : List ℕ) (a n : ℕ) → a + n ≤ length m → part_of m a n ≡ listed (λ i. word m (a + i)) n
unfolding word part_of
part_listed m a n le =
    let d : length (drop a m) ≡ length m - a = length-drop a m in
    let t : length (take n (drop a m)) ≡ n = length-take-le n (drop a m) (omega arith) in
    ext_get_or 0 (take n (drop a m)) (listed (λ i. word m (a + i)) n) (t ∙ sym (listed_length _ n))
    (λ i lt. get_or-take n (drop a m) i 0 (omega arith) ∙ get_or-drop a m i 0 ∙ sym (listed_at (λ (j : ℕ). word m (a + j)) n i 0 (omega arith)))

module _ (m : List ℕ) (from n : ℕ) where
  pub part_is : take (from + n - from) (drop from m) ≡ part_of m from n
  unfolding part_of
  part_is = ap (λ (k : ℕ). take k (drop from m)) {x = from + n - from} {y = n} (omega arith)

module _ (p l : List ℕ) (k c : ℕ) (ec : c ≡ literals p) where
  pub literal_past : c ≤ k → [] ≡ get_or (literals_held p l) k []
  unfolding literals_held
  literal_past le = sym (listed_past (literal_held p l) (literals p) k [] (omega arith))

  module _ (lt : k < c) (f : LiteralsInside p l) (a b n : ℕ) (ea : a ≡ k) (en : n ≡ literal_length p k) (eb : b ≡ n) where
    pub literal_inside : Inside l (64 * a) b
    literal_inside = let q = f.inside k (omega arith) in record { inside = omega arith }

    pub literal_here : (r : List ℕ) → r ≡ part_of l (64 * a) b → r ≡ get_or (literals_held p l) k []
    unfolding literals_held literal_held literal_byte
    literal_here r e =
        e ∙ part_listed l (64 * a) b literal_inside.inside
        ∙ ap (λ (j : ℕ). listed (λ i. word l (64 * j + i)) b) ea
        ∙ ap (λ (j : ℕ). listed (λ i. word l (64 * k + i)) j) (eb ∙ en)
        ∙ sym (listed_at (literal_held p l) (literals p) k [] (omega arith))

module _ (h t : List ℕ) (k : ℕ) where
  pub made_past : 256 ≤ k → [] ≡ get_or (texts_held h t) k []
  unfolding texts_held
  made_past le = sym (listed_past (text_held h t) 256 k [] le)

  module _ (lt : k < 256) (f : TextsInside h t) (a b n : ℕ) (ea : a ≡ k) (en : n ≡ text_length h k) (eb : b ≡ n) where
    pub made_inside : Inside t (64 * a) b
    made_inside = let q = f.inside k lt in record { inside = omega arith }

    pub made_here : (r : List ℕ) → r ≡ part_of t (64 * a) b → r ≡ get_or (texts_held h t) k []
    unfolding texts_held text_held text_byte
    made_here r e =
        e ∙ part_listed t (64 * a) b made_inside.inside
        ∙ ap (λ (j : ℕ). listed (λ i. word t (64 * j + i)) b) ea
        ∙ ap (λ (j : ℕ). listed (λ i. word t (64 * k + i)) j) (eb ∙ en)
        ∙ sym (listed_at (text_held h t) 256 k [] lt)

module _ (lits made : List (List ℕ)) (x : Text) (k : ℕ) (r : List ℕ) where
  pub text_literal : x ≡ Text.Literal k → r ≡ get_or lits k [] → r ≡ text_bytes lits made x
  unfolding text_bytes
  text_literal e q = rw (e, q)

  pub text_made : x ≡ Text.Made k → r ≡ get_or made k [] → r ≡ text_bytes lits made x
  unfolding text_bytes
  text_made e q = rw (e, q)

-- ---- text_size

module _ (p h : List ℕ) (x : Text) (k : ℕ) where
  module _ (ex : x ≡ Text.Literal k) (c : ℕ) (ec : c ≡ literals p) where
    pub size_literal : (r : ℕ) → k < c → r ≡ literal_length p k → r ≡ text_size p h x
    unfolding text_size
    size_literal r lt e = rw (ex, ← ec, lt-ltb k c lt, e)

    pub size_no_literal : c ≤ k → 0 ≡ text_size p h x
    unfolding text_size
    size_no_literal le = rw (ex, ← ec, le-ltb k c le)

  module _ (ex : x ≡ Text.Made k) where
    pub size_made : (r : ℕ) → k < 256 → r ≡ text_length h k → r ≡ text_size p h x
    unfolding text_size
    size_made r lt e = rw (ex, lt-ltb k 256 lt, e)

    pub size_no_made : 256 ≤ k → 0 ≡ text_size p h x
    unfolding text_size
    size_no_made le = rw (ex, le-ltb k 256 le)

held_length : (h t : List ℕ) (k : ℕ) → length (text_held h t k) ≡ text_length h k
unfolding text_held
held_length h t k = listed_length (text_byte t k) (text_length h k)

-- it is the number of the text's bytes
pub text_size_is : (p l h t : List ℕ) (x : Text) → length (text_bytes (literals_held p l) (texts_held h t) x) ≡ text_size p h x
unfolding text_bytes literals_held literal_held text_size
text_size_is p l h t (Text.Literal k) = go (dec_lt k (literals p))
  where
    go : Dec (k < literals p) → length (get_or (listed (literal_held p l) (literals p)) k []) ≡ pick (ltb k (literals p)) (literal_length p k) 0
    go (yes lt) = rw (lt-ltb k (literals p) lt) (ap length (listed_at (literal_held p l) (literals p) k [] lt) ∙ listed_length (literal_byte l k) (literal_length p k))
    go (no n) = rw (le-ltb k (literals p) (omega arith)) (ap length (listed_past (literal_held p l) (literals p) k [] (omega arith)))
text_size_is p l h t (Text.Made k) = go (dec_lt k 256)
  where
    go : Dec (k < 256) → length (get_or (texts_held h t) k []) ≡ pick (ltb k 256) (text_length h k) 0
    go (yes lt) = rw (lt-ltb k 256 lt) (ap length (text_at h t k [] lt) ∙ held_length h t k)
    go (no n) = rw (le-ltb k 256 (omega arith)) (ap length (sym (made_past h t k (omega arith))))

-- ---- same_bytes: what is left of the two decides, where those before agree

pub record Comparing (a b : List ℕ) (t : Bool) (i : ℕ) : Type 0 where
  pub inside : i ≤ length a
  pub lengths : length a ≡ length b
  pub rest : t && same (drop i a) (drop i b) ≡ same a b

pub lengths_apart : (a b : List ℕ) → (length a ≡ length b → ⊥) → false ≡ same a b
unfolding same
lengths_apart [] [] n = absurd (n refl)
lengths_apart [] (y ∷ b) n = refl
lengths_apart (x ∷ a) [] n = refl
lengths_apart (x ∷ a) (y ∷ b) n = rw (← lengths_apart a b (λ e. n (ap suc e))) (sym (and-false (eqb x y)))

pub comparing_start : (a b : List ℕ) → length a ≡ length b → Comparing a b true 0
comparing_start a b e = record { inside = omega arith; lengths = e; rest = refl }

module _ (a b : List ℕ) (t : Bool) (i : ℕ) (c : Comparing a b t i) where
  pub comparing_done : length a ≤ i → t ≡ same a b
  unfolding same
  comparing_done le =
      let q = c.inside in
      let s = c.lengths in
      let ea : i ≡ length a = omega arith in
      let eb : i ≡ length b = omega arith in
      sym (and-true t) ∙ (rw (ap (λ (k : ℕ). drop k a) ea ∙ drop-length a, ap (λ (k : ℕ). drop k b) eb ∙ drop-length b) at c.rest)

  pub comparing_again : i < length a → Comparing a b (t && eqb (get_or a i 0) (get_or b i 0)) (i + 1)
  unfolding same
  comparing_again lt =
      let s = c.lengths in
      record {
        inside = omega arith;
        lengths = s;
        rest =
            and_assoc t (eqb (get_or a i 0) (get_or b i 0)) (same (drop (i + 1) a) (drop (i + 1) b))
            ∙ rw (add-one i) (rw (drop-cons a i 0 lt, drop-cons b i 0 (omega arith)) at c.rest);
      }

-- ---- same_literal_bytes, same_texts, truth

pub literals_compared : (lits : List (List ℕ)) (k m : ℕ) (a b : List ℕ) (r : Bool) → r ≡ same a b → a ≡ get_or lits k [] → b ≡ get_or lits m [] → r ≡ same_literal_bytes lits k m
unfolding same_literal_bytes
literals_compared lits k m a b r e ea eb = rw (e, ea, eb)

pub texts_compared : (lits made : List (List ℕ)) (x y : Text) (a b : List ℕ) (r : Bool) → r ≡ same a b → a ≡ text_bytes lits made x → b ≡ text_bytes lits made y → r ≡ same_texts lits made x y
unfolding same_texts
texts_compared lits made x y a b r e ea eb = rw (e, ea, eb)

pub truth_else : (v : Value) → ((k : ℤ) → v ≡ Value.Int k → ⊥) → true ≡ truth v
unfolding truth
truth_else (Value.Int n) e = absurd (e n refl)
truth_else (Value.Text t) e = refl
truth_else (Value.Code n) e = refl
truth_else (Value.Frame f) e = refl

pub truth_int : (v : Value) (z a : ℤ) (r : Bool) → v ≡ Value.Int z → r ≡ nonzero a → a ≡ z → r ≡ truth v
unfolding nonzero
truth_int v z a r ev e ea = rw (ev, e, ea)
