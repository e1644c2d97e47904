-- Tests, and bytes that all pass one: what `while` takes and `after` leaves. Nothing here is about Framed. Assumes nothing.
use mathlib.Core.Path.{◌≡◌, refl}
use mathlib.Core.Bool.{Bool, true, false}
use mathlib.Core.List.{List, [], ◌∷◌, ◌++◌}
use Prim.Native.Nat.{ℕ, suc, ◌+◌}
use native.Mathlib.Omega.{arith}
use lib.ListN.{length}
use Rattle.framed.specs.Common.{while, after, starts}

pub data All (test : ℕ → Bool) : List ℕ → Type 0 where
  none : All test []
  more : {b : ℕ} {bs : List ℕ} → test b ≡ true → All test bs → All test (b ∷ bs)

module _ (test : ℕ → Bool) where
  pub all_append : {v : List ℕ} (b : ℕ) → All test v → test b ≡ true → All test (v ++ (b ∷ []))
  all_append b All.none e = All.more e All.none
  all_append b (All.more f h) e = All.more f (all_append b h e)

  pub while_all : (bs : List ℕ) → All test (while test bs)
  unfolding while
  while_all [] = All.none
  while_all (b ∷ bs) = go (test b) refl (while_all bs)
    where
      go : (t : Bool) → test b ≡ t → All test (while test bs) → All test (elim t [ true ↦ b ∷ while test bs | false ↦ [] ])
      go true e h = All.more e h
      go false e h = All.none

  pub while_length : (bs : List ℕ) → length (while test bs) + length (after test bs) ≡ length bs
  unfolding while after
  while_length [] = refl
  while_length (b ∷ bs) = go (test b) (while_length bs)
    where
      go : (t : Bool) → length (while test bs) + length (after test bs) ≡ length bs →
          length {A = ℕ} (elim t [ true ↦ b ∷ while test bs | false ↦ [] ]) + length {A = ℕ} (elim t [ true ↦ after test bs | false ↦ b ∷ bs ]) ≡ suc (length bs)
      go true e = omega arith
      go false e = omega arith

  module _ {b : ℕ} (e : test b ≡ true) (bs : List ℕ) where
    pub while_more : while test (b ∷ bs) ≡ b ∷ while test bs
    unfolding while
    while_more = rw (e, while)

    pub after_more : after test (b ∷ bs) ≡ after test bs
    unfolding after
    after_more = rw (e, after)

  -- where nothing follows, or a byte that does not pass, exactly these bytes are taken
  module _ (more : List ℕ) (s : starts test more ≡ false) where
    pub while_back : {w : List ℕ} → All test w → while test (w ++ more) ≡ w
    unfolding while starts
    while_back All.none = go more s
      where
        go : (bs : List ℕ) → starts test bs ≡ false → while test bs ≡ []
        go [] e = refl
        go (b ∷ bs) e = rw (e, while)
    while_back (All.more {b} {bs} e h) = rw (while_more e (bs ++ more), while_back h)

    pub after_back : {w : List ℕ} → All test w → after test (w ++ more) ≡ more
    unfolding after starts
    after_back All.none = go more s
      where
        go : (bs : List ℕ) → starts test bs ≡ false → after test bs ≡ bs
        go [] e = refl
        go (b ∷ bs) e = rw (e, after)
    after_back (All.more {b} {bs} e h) = rw (after_more e (bs ++ more), after_back h)
