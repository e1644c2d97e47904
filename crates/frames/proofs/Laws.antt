-- Laws of the levels of open brackets, one for each way through each function. Assumes nothing.
use mathlib.Core.Path.{◌≡◌, refl, sym, ap, ◌∙◌}
use mathlib.Core.Bool.{Bool, true, false, not, ◌||◌}
use mathlib.Core.List.{List}
use Prim.Native.Nat.{ℕ, zero, suc, ◌+◌, ◌-◌, ◌*◌, ◌<◌, ◌≤◌}
use native.Mathlib.Omega.{arith}
use lib.Dec.{eqb}
use lib.ListN.{get_or, set}
use borrow.Author.Tests.{eq-eqb, ne_eqb, lt-ltb, le-ltb, not-true, not-false}
use Rattle.framed.specs.Common.{any, member}
use Rattle.words.specs.Words.{word, set_word}
use Rattle.slots.specs.Own.{names_slot}
use Rattle.slots.proofs.Laws.{slot_other, slot_path, slot_here}
use Rattle.sweep.proofs.Lists.{or_false, or_true, any_last}
use Rattle.frames.specs.Levels.{level, Room, is_added, added, Adds, opened, Opens, watched, Watches}

-- ---- Whether a level has a name

-- the numbers from k on are other ones
pub record Searching (own : List ℕ) (from n j k : ℕ) : Type 0 where
  pub inside : k ≤ n
  pub rest_is : member j (level own from n) ≡ member j (level own from k)

pub has_start : (own : List ℕ) (from n j : ℕ) → Searching own from n j n
has_start own from n j = record { inside = omega arith; rest_is = refl }

pub has_none : (own : List ℕ) (from n j k : ℕ) → Searching own from n j k → k ≤ 0 → false ≡ member j (level own from n)
unfolding level member any
has_none own from n j zero i l = sym i.rest_is
has_none own from n j (suc k) i l = absurd (omega arith)

module _ (own : List ℕ) (from n j k : ℕ) (i : Searching own from n j k) (l : 0 < k) where
  pub has_inside : Room from n → from + (k - 1) < 306
  has_inside m = omega (arith, m.room, i.inside)

  last_is : member j (level own from k) ≡ (member j (level own from (k - 1)) || eqb j (word own (from + (k - 1))))
  unfolding level member
  last_is = ap (λ (m : ℕ). member j (level own from m)) (back k l) ∙ any_last (eqb j) (level own from (k - 1)) _
    where
      back : (k : ℕ) → 0 < k → k ≡ suc (k - 1)
      back k l = omega arith

  pub has_found : get_or own (from + (k - 1)) 0 ≡ j → true ≡ member j (level own from n)
  unfolding word
  has_found e = sym (i.rest_is ∙ last_is ∙ rw (eq-eqb j (get_or own (from + (k - 1)) 0) (sym e)) (or_true (member j (level own from (k - 1)))))

  pub has_again : (get_or own (from + (k - 1)) 0 ≡ j → ⊥) → Searching own from n j (k - 1)
  unfolding word
  has_again d = record {
    inside = omega (arith, i.inside);
    rest_is = i.rest_is ∙ last_is ∙ rw (ne_eqb j (get_or own (from + (k - 1)) 0) (λ e. d (sym e))) (or_false (member j (level own from (k - 1))));
  }

-- ---- One more slot

module _ (counts own : List ℕ) (d j : ℕ) where
  pub add_deep : 17 < d → Adds counts own d j counts own false
  unfolding is_added added
  add_deep l = record { is = rw (lt-ltb 17 d l) }

  module _ (shallow : d ≤ 17) where
    pub add_large : 128 < j → Adds counts own d j counts own false
    unfolding is_added added
    add_large l = record { is = rw (le-ltb 17 d shallow, lt-ltb 128 j l) }

    module _ (small : j ≤ 128) where
      pub add_many : 15 < get_or counts d 0 → Adds counts own d j counts own false
      unfolding is_added added word
      add_many l = record { is = rw (le-ltb 17 d shallow, le-ltb 128 j small, lt-ltb 15 (get_or counts d 0) l) }

      module _ (few : get_or counts d 0 ≤ 15) where
        pub add_room : Room (d * 17) (get_or counts d 0)
        add_room = record { room = omega arith }

        module _ (r : Bool) (er : r ≡ member j (level own (d * 17) (get_or counts d 0))) where
          pub add_again : r ≡ true → Adds counts own d j counts own false
          unfolding is_added added word
          add_again t = record { is = rw (le-ltb 17 d shallow, le-ltb 128 j small, le-ltb 15 (get_or counts d 0) few, ← er, t) }

          pub add_new : r ≡ false → Adds counts own d j (set counts d (get_or counts d 0 + 1)) (set own (d * 17 + get_or counts d 0) j) true
          unfolding is_added added word set_word
          add_new t = record { is = rw (le-ltb 17 d shallow, le-ltb 128 j small, le-ltb 15 (get_or counts d 0) few, ← er, t) }

-- ---- One more bracket

module _ (counts : List ℕ) (d : ℕ) where
  pub open_deep : 17 ≤ d → Opens counts d counts false
  unfolding opened
  open_deep l = record { is = λ own. rw (le-ltb d 17 l) }

  pub open_new : d < 17 → Opens counts d (set counts (d + 1) 0) true
  unfolding opened set_word
  open_new l = record { is = λ own. rw (lt-ltb d 17 l) }

-- ---- One token

-- a token that is no name of a slot and opens no bracket
stays : (counts own : List ℕ) (clean : Bool) (d l k j : ℕ) → names_slot 0 l k ≡ false → (k ≡ 12 → ⊥) → (k ≡ 14 → ⊥) → Watches counts own clean d l k j counts own clean
unfolding watched
stays counts own true d l k j e f g = record { is = rw (e, ne_eqb k 12 f, ne_eqb k 14 g) }
stays counts own false d l k j e f g = record { is = refl }

module _ (counts own : List ℕ) (clean : Bool) (d l k j : ℕ) where
  pub watch_low : k < 12 → Watches counts own clean d l k j counts own clean
  watch_low h = stays counts own clean d l k j (sym (slot_other 0 l k (λ e. absurd (omega arith)))) (λ e. absurd (omega arith)) (λ e. absurd (omega arith))

  pub watch_high : 25 < k → Watches counts own clean d l k j counts own clean
  watch_high h = stays counts own clean d l k j (sym (slot_other 0 l k (λ e. absurd (omega arith)))) (λ e. absurd (omega arith)) (λ e. absurd (omega arith))

  pub watch_spoilt : not clean ≡ true → Watches counts own clean d l k j counts own false
  unfolding watched
  watch_spoilt e = record { is = rw (not-true clean e) }

  module _ (c : not clean ≡ false) where
    cleans : clean ≡ true
    cleans = not-false clean c

    pub watch_path : k ≡ 25 → l ≡ 7 → Watches counts own clean d l k j counts own true
    unfolding watched
    watch_path e f = record { is = rw (cleans, ← slot_path 0 l k e f, e) }

    pub watch_slot : k ≡ 25 → (l ≡ 7 → ⊥) → (counts' own' : List ℕ) (r : Bool) → Adds counts own d j counts' own' r → Watches counts own clean d l k j counts' own' r
    unfolding watched
    watch_slot e f counts' own' r m = record { is = rw (cleans, ← slot_here 0 l k e f) m.is }

    pub watch_square : (k ≡ 25 → ⊥) → k ≡ 12 → (counts' : List ℕ) (r : Bool) → Opens counts d counts' r → Watches counts own clean d l k j counts' own r
    unfolding watched
    watch_square f e counts' r m = record { is = rw (cleans, ← slot_other 0 l k f, e) (m.is own) }

    pub watch_curly : (k ≡ 25 → ⊥) → k ≡ 14 → (counts' : List ℕ) (r : Bool) → Opens counts d counts' r → Watches counts own clean d l k j counts' own r
    unfolding watched
    watch_curly f e counts' r m = record { is = rw (cleans, ← slot_other 0 l k f, e) (m.is own) }

    pub watch_other : (k ≡ 25 → ⊥) → (k ≡ 12 → ⊥) → (k ≡ 14 → ⊥) → Watches counts own clean d l k j counts own true
    unfolding watched
    watch_other f g h = record { is = rw (cleans, ← slot_other 0 l k f, ne_eqb k 12 g, ne_eqb k 14 h) }
