-- Laws of runs, words and numbers: each has the form of a place in the code. For every class of bytes `c`. Assumes nothing.
use mathlib.Core.Path.{◌≡◌, refl, sym, ap, ◌∙◌}
use mathlib.Core.Bool.{Bool, true, false, not}
use mathlib.Core.List.{List, [], ◌∷◌}
use Prim.Native.Nat.{ℕ, zero, suc, ◌+◌, ◌*◌, ◌-◌, ◌<◌, ◌≤◌, max}
use native.Mathlib.Omega.{arith}
use lib.Dec.{eqb, leb}
use lib.ListN.{length, take, drop, get_or, length-drop}
use borrow.Author.Tests.{leb-false, eq-eqb, ne_eqb, le-leb, lt-leb}
use Rattle.framed.specs.Common.{when◌then◌else◌, bytes, same, while, after}
use Rattle.framed.specs.Bytes.{Classes, name_byte}
use Rattle.framed.specs.Tokens.{number}
use Rattle.framed.proofs.TokensExact.{after_shorter}
use Rattle.source.specs.Positions.{rest, byte, part}
use Rattle.source.proofs.Positions.{rest_at, rest_end, length_rest}
use Rattle.lexeme.specs.Lexemes.{run_test, RunBegins, RunEnds, word_kind, pushed, capped}

-- ---- Runs

module _ (test : ℕ → Bool) where
  pub after_yes : (b : ℕ) (bs : List ℕ) → test b ≡ true → after test (b ∷ bs) ≡ after test bs
  unfolding after
  after_yes b bs e = rw (e, after)

  after_no : (b : ℕ) (bs : List ℕ) → test b ≡ false → after test (b ∷ bs) ≡ b ∷ bs
  unfolding after
  after_no b bs e = rw (e, after)

  -- the run is what stands before its end
  while_is : (l : List ℕ) → while test l ≡ take (length l - length (after test l)) l
  unfolding while after
  while_is [] = refl
  while_is (b ∷ bs) = go (test b) (while_is bs) (after_shorter test bs)
    where
      go : (t : Bool) → while test bs ≡ take (length bs - length (after test bs)) bs → length (after test bs) ≤ length bs →
          ◌≡◌ {A = List ℕ} (elim t [ true ↦ b ∷ while test bs | false ↦ [] ]) (take (suc (length bs) - length {A = ℕ} (elim t [ true ↦ after test bs | false ↦ b ∷ bs ])) (b ∷ bs))
      go true e l = rw (eq (length bs) (length (after test bs)) l) (ap (λ (r : List ℕ). b ∷ r) e)
        where
          eq : (m n : ℕ) → n ≤ m → suc m - n ≡ suc (m - n)
          eq m n l = omega arith
      go false e l = rw (eq (length bs))
        where
          eq : (m : ℕ) → suc m - suc m ≡ 0
          eq m = omega arith

module _ (c : Classes) (s : List ℕ) (m : ℕ) where
  pub run_is : (i j : ℕ) → RunEnds c s m i j → while (run_test c m) (rest s i) ≡ part s i j
  unfolding part rest
  run_is i j r = while_is (run_test c m) (rest s i) ∙ rw (r.rest_is, length-drop i s, length-drop j s) (ap (λ (n : ℕ). take n (drop i s)) (eq (length s) i j r.begins r.inside))
    where
      eq : (n i j : ℕ) → i ≤ j → j ≤ max i n → (n - i) - (n - j) ≡ j - i
      eq n i j l m = omega arith

  -- a run that begins has a byte
  pub run_more : (i j : ℕ) → RunBegins c s m i → RunEnds c s m i j → i < j
  run_more i j b r =
      let e : after (run_test c m) (rest s (i + 1)) ≡ rest s j = sym (after_yes (run_test c m) (byte s i) _ b.begins) ∙ ap (after (run_test c m)) (sym (rest_at s i b.inside)) ∙ r.rest_is in
      let h : length (rest s j) ≤ length (rest s (i + 1)) = rw (← e) (after_shorter (run_test c m) (rest s (i + 1))) in
      omega (arith, r.inside, r.begins, b.inside, length_rest s j, length_rest s (i + 1))

-- the run goes on from i as from at
pub record Running (c : Classes) (s : List ℕ) (m at i : ℕ) : Type 0 where
  pub begins : at ≤ i
  pub inside : i ≤ max at (length s)
  pub gone : after (run_test c m) (rest s at) ≡ after (run_test c m) (rest s i)

module _ (c : Classes) (s : List ℕ) (m at : ℕ) where
  pub running_start : Running c s m at at
  running_start = record { begins = omega arith; inside = omega arith; gone = refl }

  module _ (i b : ℕ) (t : Bool) (w : Running c s m at i) (l : i < length s) (is : b ≡ byte s i) (test : t ≡ run_test c m b) where
    pub running_stop : t ≡ false → RunEnds c s m at i
    running_stop e = record {
      begins = w.begins;
      inside = w.inside;
      rest_is = w.gone ∙ rw (rest_at s i l) (after_no (run_test c m) (byte s i) _ (rw (← is) (sym test ∙ e)));
    }

    pub running_again : t ≡ true → Running c s m at (i + 1)
    running_again e = record {
      begins = omega (arith, w.begins);
      inside = omega arith;
      gone = w.gone ∙ rw (rest_at s i l) (after_yes (run_test c m) (byte s i) _ (rw (← is) (sym test ∙ e)));
    }

  pub running_done : (i j : ℕ) → Running c s m at i → length s ≤ i → j ≡ max at (length s) → RunEnds c s m at j
  unfolding after
  running_done i j w l e = rw (e, ← same_end i w.begins w.inside l) (record { begins = w.begins; inside = w.inside; rest_is = w.gone ∙ rw (rest_end s i l) })
    where
      same_end : (i : ℕ) → at ≤ i → i ≤ max at (length s) → length s ≤ i → i ≡ max at (length s)
      same_end i a b d = omega arith

-- ---- The tests of runs

module _ (c : Classes) (m b : ℕ) (z : m ≡ 0) where
  pub run_low : b < 32 → false ≡ run_test c m b
  unfolding run_test
  run_low l = rw (z, lt-leb 32 b l)

  pub run_high : 32 ≤ b → 126 < b → false ≡ run_test c m b
  unfolding run_test
  run_high l h = rw (z, le-leb 32 b l, lt-leb b 126 h)

  pub run_string : 32 ≤ b → b ≤ 126 → not (eqb b 34) ≡ run_test c m b
  unfolding run_test
  run_string l h = rw (z, le-leb 32 b l, le-leb b 126 h)

module _ (c : Classes) (m b k : ℕ) (kind : k ≡ c b) where
  pub run_digit : m ≡ 1 → eqb k 3 ≡ run_test c m b
  unfolding run_test
  run_digit e = rw (e, kind)

  more_modes : (m : ℕ) → (m ≡ 0 → ⊥) → (m ≡ 1 → ⊥) → name_byte c b ≡ run_test c m b
  unfolding run_test
  more_modes zero z o = absurd (z refl)
  more_modes (suc zero) z o = absurd (o refl)
  more_modes (suc (suc m)) z o = refl

  pub run_letter : (m ≡ 0 → ⊥) → (m ≡ 1 → ⊥) → k ≡ 2 → true ≡ run_test c m b
  run_letter z o e = rw (eq-eqb (c b) 2 (sym kind ∙ e)) at (more_modes m z o)

  pub run_other : (m ≡ 0 → ⊥) → (m ≡ 1 → ⊥) → (k ≡ 2 → ⊥) → eqb k 3 ≡ run_test c m b
  run_other z o e = rw kind (rw (ne_eqb (c b) 2 (λ f. e (kind ∙ f))) at (more_modes m z o))

-- ---- Words

module _ (w : List ℕ) (t0 : Bool) (e0 : t0 ≡ same w (102 ∷ 114 ∷ 97 ∷ 109 ∷ 101 ∷ [])) where
  pub word_frame : t0 ≡ true → 0 ≡ word_kind w
  unfolding word_kind bytes
  word_frame h = rw (sym e0 ∙ h)

  module _ (f0 : t0 ≡ false) (t1 : Bool) (e1 : t1 ≡ same w (99 ∷ 111 ∷ 100 ∷ 101 ∷ [])) where
    pub word_code : t1 ≡ true → 28 ≡ word_kind w
    unfolding word_kind bytes
    word_code h = rw (sym e0 ∙ f0, sym e1 ∙ h)

    module _ (f1 : t1 ≡ false) (t2 : Bool) (e2 : t2 ≡ same w (115 ∷ 101 ∷ 108 ∷ 102 ∷ [])) where
      pub word_self : t2 ≡ true → 1 ≡ word_kind w
      unfolding word_kind bytes
      word_self h = rw (sym e0 ∙ f0, sym e1 ∙ f1, sym e2 ∙ h)

      module _ (f2 : t2 ≡ false) (t3 : Bool) (e3 : t3 ≡ same w (115 ∷ 104 ∷ 111 ∷ 119 ∷ [])) where
        pub word_show : t3 ≡ true → 2 ≡ word_kind w
        unfolding word_kind bytes
        word_show h = rw (sym e0 ∙ f0, sym e1 ∙ f1, sym e2 ∙ f2, sym e3 ∙ h)

        module _ (f3 : t3 ≡ false) (t4 : Bool) (e4 : t4 ≡ same w (106 ∷ 117 ∷ 109 ∷ 112 ∷ [])) where
          pub word_jump : t4 ≡ true → 3 ≡ word_kind w
          unfolding word_kind bytes
          word_jump h = rw (sym e0 ∙ f0, sym e1 ∙ f1, sym e2 ∙ f2, sym e3 ∙ f3, sym e4 ∙ h)

          module _ (f4 : t4 ≡ false) (t5 : Bool) (e5 : t5 ≡ same w (105 ∷ 102 ∷ 101 ∷ 113 ∷ [])) where
            pub word_ifeq : t5 ≡ true → 4 ≡ word_kind w
            unfolding word_kind bytes
            word_ifeq h = rw (sym e0 ∙ f0, sym e1 ∙ f1, sym e2 ∙ f2, sym e3 ∙ f3, sym e4 ∙ f4, sym e5 ∙ h)

            pub word_name : t5 ≡ false → 25 ≡ word_kind w
            unfolding word_kind bytes
            word_name h = rw (sym e0 ∙ f0, sym e1 ∙ f1, sym e2 ∙ f2, sym e3 ∙ f3, sym e4 ∙ f4, sym e5 ∙ h)

-- ---- Numbers

pub push_low : (n b d : ℕ) → n ≤ 2147483648 → d ≡ b - 48 → n * 10 + d ≡ pushed n b
unfolding pushed
push_low n b d l e = rw (le-leb n 2147483648 l, e)

pub push_high : (n b : ℕ) → 2147483648 < n → n ≡ pushed n b
unfolding pushed
push_high n b l = rw (lt-leb n 2147483648 l)

-- the digits left give the number of all
pub record Numbering (ds : List ℕ) (i n : ℕ) : Type 0 where
  pub inside : i ≤ length ds
  pub same_number : capped n (rest ds i) ≡ capped 0 ds

module _ (ds : List ℕ) where
  pub numbering_start : Numbering ds 0 0
  unfolding rest
  numbering_start = record { inside = omega arith; same_number = refl }

  pub numbering_again : (i n m : ℕ) → Numbering ds i n → i < length ds → m ≡ pushed n (get_or ds i 0) → Numbering ds (i + 1) m
  unfolding capped byte
  numbering_again i n m w l e = record { inside = omega arith; same_number = rw (e) (ap (capped n) (sym (rest_at ds i l)) ∙ w.same_number) }

  pub numbering_done : (i n : ℕ) → Numbering ds i n → length ds ≤ i → n ≡ capped 0 ds
  unfolding capped
  numbering_done i n w l = ap (capped n) (sym (rest_end ds i l)) ∙ w.same_number

-- `capped` is `number`, or both are above every integer
pub data Close (a b : ℕ) : Type 0 where
  equal : a ≡ b → Close a b
  large : 2147483648 < a → 2147483648 < b → Close a b

number_grows : (n : ℕ) (ds : List ℕ) → n ≤ number n ds
unfolding number
number_grows n [] = omega arith
number_grows n (d ∷ ds) = let l = number_grows (n * 10 + (d - 48)) ds in omega arith

capped_high : (n : ℕ) (ds : List ℕ) → 2147483648 < n → capped n ds ≡ n
unfolding capped pushed
capped_high n [] l = refl
capped_high n (d ∷ ds) l = rw (lt-leb n 2147483648 l) (capped_high n ds l)

pub capped_close : (n : ℕ) (ds : List ℕ) → Close (number n ds) (capped n ds)
unfolding number capped pushed
capped_close n [] = equal refl
capped_close n (d ∷ ds) = go (leb n 2147483648) refl (capped_close (n * 10 + (d - 48)) ds)
  where
    go : (t : Bool) → leb n 2147483648 ≡ t → Close (number (n * 10 + (d - 48)) ds) (capped (n * 10 + (d - 48)) ds) →
        Close (number (n * 10 + (d - 48)) ds) (capped (when t then n * 10 + (d - 48) else n) ds)
    go true e h = h
    go false e _ =
        let h : 2147483648 < n = leb-false n 2147483648 e in
        large (omega (arith, number_grows (n * 10 + (d - 48)) ds)) (rw (capped_high n ds h) h)
