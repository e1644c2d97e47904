-- A loop over the tokens of a source that watches its levels: while they are clean, what is left decides whether some frame is bad. Assumes nothing.
use mathlib.Core.Path.{◌≡◌, refl, sym, ap, ◌∙◌}
use mathlib.Core.Bool.{Bool, true, false, not, ◌&&◌, ◌||◌, true≢false, false≢true}
use mathlib.Core.List.{List, [], ◌∷◌, ◌++◌}
use Prim.Native.Nat.{ℕ, zero, suc, ◌+◌, ◌-◌, ◌*◌, ◌<◌, ◌≤◌}
use native.Mathlib.Omega.{arith}
use native.Mathlib.Numerals.{add-one}
use native.Mathlib.Decide.{ℕ_discrete}
use lib.Dec.{eqb, ltb}
use lib.ListN.{length, length-append}
use borrow.Author.Tests.{ne_eqb, le-ltb, eqb-true, eqb-false, ltb-true, ltb-false}
use Rattle.framed.specs.Common.{when◌then◌else◌, any, same, member}
use Rattle.framed.specs.Bytes.{class}
use Rattle.framed.specs.Tokens.{Token}
use Rattle.source.specs.Positions.{part}
use Rattle.words.specs.Words.{word, set_word}
use Rattle.words.proofs.Laws.{word_same, word_other, set_size}
use Rattle.token.specs.Reading.{token_of, token_kind, TokenAt, Spot}
use Rattle.token.specs.declared.TokenRead.{TokenRead}
use Rattle.token.proofs.KindNumbers.{kind_is}
use Rattle.token.proofs.Answers.{spot_of}
use Rattle.scan.specs.Scan.{depth_after}
use Rattle.framed.proofs.Lists.{same_equal}
use Rattle.sweep.specs.Decides.{Decides}
use Rattle.sweep.proofs.Lists.{any_last}
use Rattle.sweep.proofs.Loop.{Going, Gives, go_start, go_end, go_none, go_done, go_again}
use Rattle.names.specs.Kept.{Numbered}
use Rattle.names.proofs.Numbers.{apart}
use Rattle.slots.specs.Own.{closes, names_slot, own_slots, bad_slots, bad_frames, bad_tree}
use Rattle.slots.proofs.Laws.{slot_name, step_closes, step_other, step_slot, none_left, decided}
use Rattle.frames.specs.Levels.{level, Levels, levels, is_added, added, opened, watched, Watches, Extends, Named}

-- ---- All brackets: `{` counts as `[` does

unfoldable bad_brackets : List Token → Bool
bad_brackets [] = false
bad_brackets (t ∷ ts) = ((eqb (token_kind t) 12 || eqb (token_kind t) 14) && bad_slots [] 0 0 ts) || bad_brackets ts

-- where no bracket is bad, no frame is
no_frame : (ts : List Token) → bad_brackets ts ≡ false → bad_frames ts ≡ false
unfolding bad_brackets bad_frames
no_frame [] e = refl
no_frame (t ∷ ts) e = go (eqb (token_kind t) 12) (eqb (token_kind t) 14) (bad_slots [] 0 0 ts) (bad_brackets ts) (bad_frames ts) e (no_frame ts)
  where
    go : (x y z u v : Bool) → (((x || y) && z) || u) ≡ false → (u ≡ false → v ≡ false) → ((x && z) || v) ≡ false
    go true y true u v e h = absurd (true≢false e)
    go true y false u v e h = h e
    go false true true u v e h = absurd (true≢false e)
    go false true false u v e h = h e
    go false false z u v e h = h e

-- some open bracket, innermost first, is bad by the tokens left; i brackets are open in the first of them
unfoldable pending : List (List (List ℕ)) → ℕ → ℕ → List Token → Bool
pending [] i l ts = false
pending (before ∷ st) i l ts = bad_slots before i l ts || pending st (suc i) l ts

-- the same, or a bracket that is opened later
unfoldable left_bad : List (List (List ℕ)) → ℕ → List Token → Bool
left_bad st l ts = pending st 0 l ts || bad_brackets ts

left_none : (st : List (List (List ℕ))) (l : ℕ) → left_bad st l [] ≡ false
unfolding left_bad bad_brackets pending
left_none st l = rw (no_pending st 0)
  where
    no_pending : (st : List (List (List ℕ))) (i : ℕ) → pending st i l [] ≡ false
    no_pending [] i = refl
    no_pending (before ∷ st) i = rw (none_left before i l, no_pending st (suc i))

-- ---- One token

-- a token of kind k, after one of kind l, only changes how many are open in brackets with i or more: where i were open, it is i' after it
record Passes (k l i i' : ℕ) : Type 0 where
  stays_open : (j : ℕ) → i ≤ j → closes j k ≡ false
  no_slot : (j : ℕ) → i ≤ j → names_slot j l k ≡ false
  depth_is : (j : ℕ) → i ≤ j → depth_after j k + i ≡ j + i'

passes_open : (k l : ℕ) → (eqb k 12 || eqb k 14) ≡ true → Passes k l 0 1
unfolding closes names_slot depth_after
passes_open k l t = go (eqb k 12) refl t
  where
    square : Passes 12 l 0 1
    square = record { stays_open = λ j h. refl; no_slot = λ j h. refl; depth_is = λ j h. omega arith }

    curly : Passes 14 l 0 1
    curly = record { stays_open = λ j h. refl; no_slot = λ j h. refl; depth_is = λ j h. omega arith }

    go : (u : Bool) → eqb k 12 ≡ u → (u || eqb k 14) ≡ true → Passes k l 0 1
    go true e t = rw (eqb-true k 12 e) square
    go false e t = rw (eqb-true k 14 t) curly

passes_close : (k l : ℕ) → (eqb k 13 || eqb k 15) ≡ true → Passes k l 1 0
unfolding closes names_slot depth_after
passes_close k l t = go (eqb k 13) refl t
  where
    square : Passes 13 l 1 0
    square = record { stays_open = λ j h. ne_eqb j 0 (λ e. absurd (omega arith)); no_slot = λ j h. refl; depth_is = λ j h. omega arith }

    curly : Passes 15 l 1 0
    curly = record { stays_open = λ j h. ne_eqb j 0 (λ e. absurd (omega arith)); no_slot = λ j h. refl; depth_is = λ j h. omega arith }

    go : (u : Bool) → eqb k 13 ≡ u → (u || eqb k 15) ≡ true → Passes k l 1 0
    go true e t = rw (eqb-true k 13 e) square
    go false e t = rw (eqb-true k 15 t) curly

passes_name : (k l : ℕ) → k ≡ 25 → Passes k l 1 1
unfolding closes names_slot depth_after
passes_name k l e = rw e (record { stays_open = λ j h. refl; no_slot = λ j h. go (eqb l 7) j h; depth_is = λ j h. omega arith })
  where
    go : (u : Bool) (j : ℕ) → 1 ≤ j → (when u then false else eqb j 0) ≡ false
    go true j h = refl
    go false j h = ne_eqb j 0 (λ e. absurd (omega arith))

passes_other : (k l : ℕ) → names_slot 0 l k ≡ false → (eqb k 12 || eqb k 14) ≡ false → (eqb k 13 || eqb k 15) ≡ false → Passes k l 0 0
unfolding closes names_slot depth_after
passes_other k l n o c = go (eqb k 12) (eqb k 14) (eqb k 13) (eqb k 15) refl refl refl refl o c
  where
    slot : (j : ℕ) (u v : Bool) → (when u then (when v then false else true) else false) ≡ false → (when u then (when v then false else eqb j 0) else false) ≡ false
    slot j true true e = refl
    slot j true false e = absurd (true≢false e)
    slot j false v e = refl

    go : (t u v w : Bool) → eqb k 12 ≡ t → eqb k 14 ≡ u → eqb k 13 ≡ v → eqb k 15 ≡ w → (t || u) ≡ false → (v || w) ≡ false → Passes k l 0 0
    go true u v w et eu ev ew o c = absurd (true≢false o)
    go false true v w et eu ev ew o c = absurd (true≢false o)
    go false false true w et eu ev ew o c = absurd (true≢false c)
    go false false false true et eu ev ew o c = absurd (true≢false c)
    go false false false false et eu ev ew o c = record {
      stays_open = λ j h. rw (ev, ew);
      no_slot = λ j h. slot j (eqb k 25) (eqb l 7) n;
      depth_is = λ j h. rw (et, eu, ev, ew);
    }

-- after an opened bracket comes no dot
fresh : (k : ℕ) (us : List Token) → (eqb k 12 || eqb k 14) ≡ true → bad_slots [] 0 0 us ≡ bad_slots [] 0 k us
unfolding bad_slots own_slots names_slot
fresh k [] t = refl
fresh k (x ∷ us) t = go (eqb k 12) refl t
  where
    go : (u : Bool) → eqb k 12 ≡ u → (u || eqb k 14) ≡ true → bad_slots [] 0 0 (x ∷ us) ≡ bad_slots [] 0 k (x ∷ us)
    go true e t = rw (eqb-true k 12 e)
    go false e t = rw (eqb-true k 14 t)

module _ (s : List ℕ) (k a p w : ℕ) (known : k < 29) (l : ℕ) (us : List Token) where
  passed : (st : List (List (List ℕ))) (i i' : ℕ) → Passes k l i i' → pending st i l (token_of s k a p w ∷ us) ≡ pending st i' k us
  unfolding pending
  passed [] i i' c = refl
  passed (before ∷ st) i i' c =
      rw (step_other s k a p w known before i l us (c.stays_open i (omega arith)) (c.no_slot i (omega arith)), here (depth_after i k) (c.depth_is i (omega arith)), passed st (suc i) (suc i') next)
    where
      here : (m : ℕ) → m + i ≡ i + i' → m ≡ i'
      here m e = omega arith

      next : Passes k l (suc i) (suc i')
      next = record {
        stays_open = λ j h. c.stays_open j (omega arith);
        no_slot = λ j h. c.no_slot j (omega arith);
        depth_is = λ j h. omega (arith, c.depth_is j (omega arith));
      }

  module _ (o : (eqb k 12 || eqb k 14) ≡ false) where
    brackets_same : bad_brackets (token_of s k a p w ∷ us) ≡ bad_brackets us
    unfolding bad_brackets
    brackets_same = rw (kind_is s a p w k known, o)

    step_plain : (st : List (List (List ℕ))) → Passes k l 0 0 → left_bad st l (token_of s k a p w ∷ us) ≡ left_bad st k us
    unfolding left_bad
    step_plain st c = rw (brackets_same, passed st 0 0 c)

    step_none : left_bad [] l (token_of s k a p w ∷ us) ≡ left_bad [] k us
    unfolding left_bad pending
    step_none = brackets_same

    step_close : (before : List (List ℕ)) (st : List (List (List ℕ))) → closes 0 k ≡ true → Passes k l 1 0 → left_bad (before ∷ st) l (token_of s k a p w ∷ us) ≡ left_bad st k us
    unfolding left_bad pending
    step_close before st e c = rw (brackets_same, step_closes s k a p w known before 0 l us e, passed st 1 0 c)

    step_add : (before : List (List ℕ)) (st : List (List (List ℕ))) → names_slot 0 l k ≡ true → k ≡ 25 → any (same (part s a p)) before ≡ false → ltb 15 (length before) ≡ false
        → left_bad (before ∷ st) l (token_of s k a p w ∷ us) ≡ left_bad ((before ++ (part s a p ∷ [])) ∷ st) k us
    unfolding left_bad pending closes depth_after
    step_add before st n e new few =
        rw (brackets_same, step_slot s k a p w known before 0 l us (ap (closes 0) e) n, new, few, passed st 1 1 (passes_name k l e), ap (depth_after 0) e)

  step_open : (st : List (List (List ℕ))) → (eqb k 12 || eqb k 14) ≡ true → left_bad st l (token_of s k a p w ∷ us) ≡ left_bad ([] ∷ st) k us
  unfolding left_bad pending bad_brackets
  step_open st o =
      rw (kind_is s a p w k known, o, passed st 0 1 (passes_open k l o), fresh k us o) (turn (pending st 1 k us) (bad_slots [] 0 k us) (bad_brackets us))
    where
      turn : (x y z : Bool) → (x || (y || z)) ≡ ((y || x) || z)
      turn true true z = refl
      turn true false z = refl
      turn false true z = refl
      turn false false z = refl

-- ---- The names of all levels

-- name j
abbrev name_of : List ℕ → List ℕ → List ℕ → ℕ → List ℕ
name_of s b e j = part s (word b j) (word e j)

-- the names of a level, and of the levels of d open brackets, innermost first
unfoldable held : List ℕ → List ℕ → List ℕ → List ℕ → ℕ → ℕ → List (List ℕ)
held s b e own from zero = []
held s b e own from (suc n) = held s b e own from n ++ (name_of s b e (word own (from + n)) ∷ [])

unfoldable stack : List ℕ → List ℕ → List ℕ → List ℕ → List ℕ → ℕ → List (List (List ℕ))
stack s b e counts own zero = []
stack s b e counts own (suc d) = held s b e own (suc d * 17) (word counts (suc d)) ∷ stack s b e counts own d

held_length : (s b e own : List ℕ) (from n : ℕ) → length (held s b e own from n) ≡ n
unfolding held
held_length s b e own from zero = refl
held_length s b e own from (suc n) = rw (length-append (held s b e own from n) (name_of s b e (word own (from + n)) ∷ []), held_length s b e own from n) (omega arith)

module _ (s b e own b' e' own' : List ℕ) where
  held_same : (from n : ℕ) → ((i : ℕ) → i < n → name_of s b' e' (word own' (from + i)) ≡ name_of s b e (word own (from + i))) → held s b' e' own' from n ≡ held s b e own from n
  unfolding held
  held_same from zero f = refl
  held_same from (suc n) f = rw (held_same from n (λ i h. f i (omega arith)), f n (omega arith))

  stack_same : (counts counts' : List ℕ) (d : ℕ) → ((m : ℕ) → 0 < m → m ≤ d → word counts' m ≡ word counts m)
      → ((m i : ℕ) → 0 < m → m ≤ d → i < word counts m → name_of s b' e' (word own' (m * 17 + i)) ≡ name_of s b e (word own (m * 17 + i)))
      → stack s b' e' counts' own' d ≡ stack s b e counts own d
  unfolding stack
  stack_same counts counts' zero f g = refl
  stack_same counts counts' (suc d) f g =
      rw (
        f (suc d) (omega arith) (omega arith),
        held_same (suc d * 17) (word counts (suc d)) (λ i h. g (suc d) i (omega arith) (omega arith) h),
        stack_same counts counts' d (λ m h t. f m h (omega arith)) (λ m i h t u. g m i h (omega arith) u),
      )

-- names that are kept are the same where their numbers are
module _ (s b e : List ℕ) (n : ℕ) (z : Numbered s b e n) where
  other_name : (i j : ℕ) → i < n → j < n → eqb i j ≡ false → same (name_of s b e i) (name_of s b e j) ≡ false
  other_name i j h g x = go (same (name_of s b e i) (name_of s b e j)) refl
    where
      go : (t : Bool) → same (name_of s b e i) (name_of s b e j) ≡ t → t ≡ false
      go true y = absurd (eqb-false i j x (apart s b e n z i j h g (same_equal (name_of s b e i) (name_of s b e j) y)))
      go false y = refl

  -- a name that a level does not have
  not_held : (own : List ℕ) (from j m : ℕ) → j < n → ((i : ℕ) → i < m → word own (from + i) < n) → member j (level own from m) ≡ false → any (same (name_of s b e j)) (held s b e own from m) ≡ false
  unfolding level held member any
  not_held own from j zero h f x = refl
  not_held own from j (suc m) h f x =
      let y = both (any (eqb j) (level own from m)) (eqb j (word own (from + m))) (sym (any_last (eqb j) (level own from m) (word own (from + m))) ∙ x) in
      any_last (same (name_of s b e j)) (held s b e own from m) (name_of s b e (word own (from + m)))
      ∙ rw (not_held own from j m h (λ i g. f i (omega arith)) y.0, other_name j (word own (from + m)) h (f m (omega arith)) y.1)
    where
      both : (t u : Bool) → (t || u) ≡ false → (t ≡ false) × (u ≡ false)
      both true u e = absurd (true≢false e)
      both false u e = (refl, e)

-- ---- The loop

-- no bracket is bad by the tokens so far: those left, after the names of the open ones, decide whether some is
record Clean (s b e : List ℕ) (n : ℕ) (counts own : List ℕ) (depth last at : ℕ) : Type 0 where
  shallow : depth ≤ 17
  few : (d : ℕ) → 0 < d → d ≤ depth → word counts d ≤ 16
  known : (d i : ℕ) → 0 < d → d ≤ depth → i < word counts d → word own (d * 17 + i) < n
  going : Going bad_brackets s 0 (left_bad (stack s b e counts own depth) last) at

pub record Watching (s b e : List ℕ) (n : ℕ) (counts own : List ℕ) (clean : Bool) (depth last at : ℕ) : Type 0 where
  pub counts_size : length counts ≡ 18
  pub own_size : length own ≡ 306
  still : clean ≡ true → Clean s b e n counts own depth last at

pub watch_start : (s b e counts own : List ℕ) → length counts ≡ 18 → length own ≡ 306 → Watching s b e 0 counts own true 0 0 0
unfolding left_bad pending stack
watch_start s b e counts own hc ho = record {
  counts_size = hc;
  own_size = ho;
  still = λ t. record { shallow = omega arith; few = λ d h g. absurd (none d h g); known = λ d i h g u. absurd (none d h g); going = go_start _ s 0 };
}
  where
    none : (d : ℕ) → 0 < d → d ≤ 0 → ⊥
    none d h g = omega arith

-- names are only added
grown : (s b e : List ℕ) (n : ℕ) (counts own : List ℕ) (depth last at : ℕ) (b' e' : List ℕ) (n' : ℕ) → Extends s b e n b' e' n' → Clean s b e n counts own depth last at → Clean s b' e' n' counts own depth last at
grown s b e n counts own depth last at b' e' n' x i = record {
  shallow = i.shallow;
  few = i.few;
  known = λ d m h g u. omega (arith, i.known d m h g u, x.more);
  going = rw (stack_same s b e own b' e' own counts counts depth (λ m h g. refl) (λ m j h g u. x.stays (word own (m * 17 + j)) (i.known m j h g u))) i.going;
}

-- fewer brackets are open
module _ (s b e : List ℕ) (n : ℕ) (counts own : List ℕ) (d l at : ℕ) (i : Clean s b e n counts own d l at) where
  fewer : (d' l' at' : ℕ) → d' ≤ d → Going bad_brackets s 0 (left_bad (stack s b e counts own d') l') at' → Clean s b e n counts own d' l' at'
  fewer d' l' at' h g = record {
    shallow = omega (arith, i.shallow);
    few = λ m u v. i.few m u (omega arith);
    known = λ m j u v. i.known m j u (omega arith);
    going = g;
  }

closes_here : (k : ℕ) → (eqb k 13 || eqb k 15) ≡ true → closes 0 k ≡ true
unfolding closes
closes_here k t = go (eqb k 13) t
  where
    go : (u : Bool) → (u || eqb k 15) ≡ true → (when u then true else when eqb k 15 then true else false) ≡ true
    go true e = refl
    go false e = rw e

closed_depth : (k d : ℕ) → (eqb k 13 || eqb k 15) ≡ true → depth_after d k ≡ d - 1
unfolding depth_after
closed_depth k d t = go (eqb k 13) refl t
  where
    go : (u : Bool) → eqb k 13 ≡ u → (u || eqb k 15) ≡ true → depth_after d k ≡ d - 1
    go true e t = rw (eqb-true k 13 e)
    go false e t = rw (eqb-true k 15 t)

module _ (s b e : List ℕ) (n : ℕ) (counts own : List ℕ) (l at : ℕ) (r : TokenRead) (found : TokenAt class s at r) (k a p w : ℕ) (h : r ≡ TokenRead.Token k a p w) where
  spot : Spot at (length s) k a p
  spot = spot_of r found.on h

  module _ (o : (eqb k 12 || eqb k 14) ≡ false) where
    after_close : (d : ℕ) → Clean s b e n counts own d l at → (eqb k 13 || eqb k 15) ≡ true → Clean s b e n counts own (d - 1) k p
    unfolding stack
    after_close zero i t =
        fewer s b e n counts own 0 l at i 0 k p (omega arith) (go_again _ s 0 _ at i.going r found k a p w h _ (λ us f. step_none s k a p w spot.known l us o))
    after_close (suc d) i t =
        rw (back d)
        (fewer s b e n counts own (suc d) l at i d k p (omega arith)
        (go_again _ s 0 _ at i.going r found k a p w h _ (λ us f. step_close s k a p w spot.known l us o _ (stack s b e counts own d) (closes_here k t) (passes_close k l t))))
      where
        back : (d : ℕ) → suc d - 1 ≡ d
        back d = omega arith

    after_other : (d : ℕ) → Clean s b e n counts own d l at → names_slot 0 l k ≡ false → Clean s b e n counts own (depth_after d k) k p
    after_other d i m = go (eqb k 13 || eqb k 15) refl
      where
        same_depth : (x y : ℕ) → x + 0 ≡ y + 0 → x ≡ y
        same_depth x y q = omega arith

        go : (t : Bool) → (eqb k 13 || eqb k 15) ≡ t → Clean s b e n counts own (depth_after d k) k p
        go true q = rw (closed_depth k d q) (after_close d i q)
        go false q =
            let c = passes_other k l m o q in
            rw (same_depth (depth_after d k) d (c.depth_is d (omega arith)))
            (fewer s b e n counts own d l at i d k p (omega arith) (go_again _ s 0 _ at i.going r found k a p w h _ (λ us f. step_plain s k a p w spot.known l us o (stack s b e counts own d) c)))

  module _ (d : ℕ) (i : Clean s b e n counts own d l at) (size : length counts ≡ 18) where
    after_open : d < 17 → (eqb k 12 || eqb k 14) ≡ true → Clean s b e n (set_word counts (d + 1) 0) own (d + 1) k p
    unfolding stack held
    after_open g o = rw (add-one d) (record {
      shallow = omega arith;
      few = λ m u v. low m u v (ℕ_discrete m (suc d));
      known = λ m j u v x. kept m j u v x (ℕ_discrete m (suc d));
      going = rw (emptied, stack_same s b e own b e own counts (set_word counts (suc d) 0) d (λ m u v. others m (other m d v)) (λ m j u v x. refl))
          (go_again _ s 0 _ at i.going r found k a p w h _ (λ us f. step_open s k a p w spot.known l us (stack s b e counts own d) o));
    })
      where
        emptied : word (set_word counts (suc d) 0) (suc d) ≡ 0
        emptied = word_same counts (suc d) 0 (omega (arith, size))

        other : (m d : ℕ) → m ≤ d → (m ≡ suc d → ⊥)
        other m d v q = omega arith

        below : (m d : ℕ) → m ≤ suc d → (m ≡ suc d → ⊥) → m ≤ d
        below m d v q = omega arith

        others : (m : ℕ) → (m ≡ suc d → ⊥) → word (set_word counts (suc d) 0) m ≡ word counts m
        others m q = word_other counts (suc d) m 0 (word counts m) q refl

        low : (m : ℕ) → 0 < m → m ≤ suc d → Dec (m ≡ suc d) → word (set_word counts (suc d) 0) m ≤ 16
        low m u v (yes q) = rw (q, emptied) (omega arith)
        low m u v (no q) = rw (others m q) (i.few m u (below m d v q))

        none : (j : ℕ) → j < 0 → ⊥
        none j x = omega arith

        kept : (m j : ℕ) → 0 < m → m ≤ suc d → j < word (set_word counts (suc d) 0) m → Dec (m ≡ suc d) → word own (m * 17 + j) < n
        kept m j u v x (yes q) = absurd (none j (rw (q, emptied) at x))
        kept m j u v x (no q) = i.known m j u (below m d v q) (rw (others m q) at x)

    module _ (own_size : length own ≡ 306) (z : Numbered s b e n) (j : ℕ) (inside : j < n) (bytes : name_of s b e j ≡ part s a p) (few : word counts d ≤ 15)
        (new : member j (level own (d * 17) (word counts d)) ≡ false) (slot : names_slot 0 l k ≡ true) where
      abbrev counts⁺ : List ℕ
      counts⁺ = set_word counts d (word counts d + 1)

      abbrev own⁺ : List ℕ
      own⁺ = set_word own (d * 17 + word counts d) j

      one_more : word counts⁺ d ≡ suc (word counts d)
      one_more = word_same counts d (word counts d + 1) (omega (arith, size, i.shallow)) ∙ add-one (word counts d)

      others : (m : ℕ) → (m ≡ d → ⊥) → word counts⁺ m ≡ word counts m
      others m q = word_other counts d m (word counts d + 1) (word counts m) q refl

      new_number : word own⁺ (d * 17 + word counts d) ≡ j
      new_number = word_same own (d * 17 + word counts d) j (omega (arith, own_size, i.shallow, few))

      -- the earlier numbers of the level, and those of the levels around it
      earlier : (x : ℕ) → x < word counts d → word own⁺ (d * 17 + x) ≡ word own (d * 17 + x)
      earlier x y = word_other own (d * 17 + word counts d) (d * 17 + x) j (word own (d * 17 + x)) (apart_there x y) refl
        where
          apart_there : (x : ℕ) → x < word counts d → (d * 17 + x ≡ d * 17 + word counts d → ⊥)
          apart_there x y f = omega arith

      around : (m x : ℕ) → 0 < m → m ≤ d → (m ≡ d → ⊥) → x < word counts m → word own⁺ (m * 17 + x) ≡ word own (m * 17 + x)
      around m x u v q y = word_other own (d * 17 + word counts d) (m * 17 + x) j (word own (m * 17 + x)) (apart_there m x u v q y) refl
        where
          apart_there : (m x : ℕ) → 0 < m → m ≤ d → (m ≡ d → ⊥) → x < word counts m → (m * 17 + x ≡ d * 17 + word counts d → ⊥)
          apart_there m x u v q y f = omega (arith, i.few m u v)

      low : (m : ℕ) → 0 < m → m ≤ d → Dec (m ≡ d) → word counts⁺ m ≤ 16
      low m u v (yes q) = rw (ap (word counts⁺) q, one_more) (omega arith)
      low m u v (no q) = rw (others m q) (i.few m u v)

      listed : (x : ℕ) → 0 < d → x < suc (word counts d) → Dec (x ≡ word counts d) → word own⁺ (d * 17 + x) < n
      listed x u y (yes q) = rw (q, new_number) inside
      listed x u y (no q) = let v : x < word counts d = omega arith in rw (earlier x v) (i.known d x u (omega arith) v)

      kept : (m x : ℕ) → 0 < m → m ≤ d → x < word counts⁺ m → Dec (m ≡ d) → word own⁺ (m * 17 + x) < n
      kept m x u v y (yes q) = rw (ap (λ (c : ℕ). word own⁺ (c * 17 + x)) q) (listed x (omega arith) (rw (ap (word counts⁺) q, one_more) at y) (ℕ_discrete x (word counts d)))
      kept m x u v y (no q) = let y' : x < word counts m = rw (others m q) at y in rw (around m x u v q y') (i.known m x u v y')

      was : (d₀ : ℕ) → d ≡ suc d₀ → stack s b e counts own d ≡ held s b e own (d * 17) (word counts d) ∷ stack s b e counts own d₀
      unfolding stack
      was d₀ q = rw q

      now_is : (d₀ : ℕ) → d ≡ suc d₀ → stack s b e counts⁺ own⁺ d ≡ (held s b e own (d * 17) (word counts d) ++ (part s a p ∷ [])) ∷ stack s b e counts own d₀
      unfolding stack held
      now_is d₀ q =
          ap (stack s b e counts⁺ own⁺) q ∙ ap (λ (m : ℕ). held s b e own⁺ (m * 17) (word counts⁺ m) ∷ stack s b e counts⁺ own⁺ d₀) (sym q)
          ∙ rw (
            one_more,
            new_number,
            bytes,
            held_same s b e own b e own⁺ (d * 17) (word counts d) (λ x y. ap (name_of s b e) (earlier x y)),
            stack_same s b e own b e own⁺ counts counts⁺ d₀ (λ m u v. others m (less m v)) (λ m x u v y. ap (name_of s b e) (around m x u (omega arith) (less m v) y)),
          )
        where
          less : (m : ℕ) → m ≤ d₀ → (m ≡ d → ⊥)
          less m v f = omega arith

      after_add : Clean s b e n counts⁺ own⁺ d k p
      unfolding stack
      after_add = record {
        shallow = i.shallow;
        few = λ m u v. low m u v (ℕ_discrete m d);
        known = λ m x u v y. kept m x u v y (ℕ_discrete m d);
        going = go_again _ s 0 _ at i.going r found k a p w h _ (λ us f. step d refl us);
      }
        where
          is_name : k ≡ 25
          is_name = slot_name 0 l k slot

          no_open : (eqb k 12 || eqb k 14) ≡ false
          no_open = ap (λ (m : ℕ). eqb m 12 || eqb m 14) is_name

          step : (m : ℕ) → d ≡ m → (us : List Token) → left_bad (stack s b e counts own d) l (token_of s k a p w ∷ us) ≡ left_bad (stack s b e counts⁺ own⁺ d) k us
          step zero q us =
              ap (λ (m : ℕ). left_bad (stack s b e counts own m) l (token_of s k a p w ∷ us)) q ∙ step_none s k a p w spot.known l us no_open
              ∙ ap (λ (m : ℕ). left_bad (stack s b e counts⁺ own⁺ m) k us) (sym q)
          step (suc d₀) q us =
              ap (λ (st : List (List (List ℕ))). left_bad st l (token_of s k a p w ∷ us)) (was d₀ q)
              ∙ step_add s k a p w spot.known l us no_open (held s b e own (d * 17) (word counts d)) (stack s b e counts own d₀) slot is_name
              (rw (← bytes) (not_held s b e n z own (d * 17) j (word counts d) inside (λ x y. i.known d x (omega arith) (omega arith) y) new))
              (rw (held_length s b e own (d * 17) (word counts d)) (le-ltb 15 (word counts d) few))
              ∙ ap (λ (st : List (List (List ℕ))). left_bad st k us) (sym (now_is d₀ q))

-- ---- What a token leaves

-- the sizes stay
record Sizes (counts own : List ℕ) (r : Levels) : Type 0 where
  counts_size : length r.counts ≡ length counts
  own_size : length r.own ≡ length own

watched_sizes : (counts own : List ℕ) (clean : Bool) (d l k j : ℕ) → Sizes counts own (watched counts own clean d l k j)
unfolding watched added opened
watched_sizes counts own false d l k j = record { counts_size = refl; own_size = refl }
watched_sizes counts own true d l k j = go (names_slot 0 l k) (is_added counts own d j) (eqb k 12 || eqb k 14) (ltb d 17)
  where
    go : (t u v x : Bool) → Sizes counts own (
        when t then (when u then levels (set_word counts d (word counts d + 1)) (set_word own (d * 17 + word counts d) j) true else levels counts own false)
        else when v then (when x then levels (set_word counts (d + 1) 0) own true else levels counts own false)
        else levels counts own true)
    go true true v x = record { counts_size = set_size counts d (word counts d + 1); own_size = set_size own (d * 17 + word counts d) j }
    go true false v x = record { counts_size = refl; own_size = refl }
    go false u true true = record { counts_size = set_size counts (d + 1) 0; own_size = refl }
    go false u true false = record { counts_size = refl; own_size = refl }
    go false u false x = record { counts_size = refl; own_size = refl }

record CanAdd (counts own : List ℕ) (d j : ℕ) : Type 0 where
  small : j < 129
  few : word counts d ≤ 15
  new : member j (level own (d * 17) (word counts d)) ≡ false

can_add : (counts own : List ℕ) (d j : ℕ) → is_added counts own d j ≡ true → CanAdd counts own d j
unfolding is_added
can_add counts own d j = go (ltb 17 d) (ltb 128 j) (ltb 15 (word counts d)) (member j (level own (d * 17) (word counts d))) refl refl refl
  where
    go : (t u v x : Bool) → ltb 128 j ≡ u → ltb 15 (word counts d) ≡ v → member j (level own (d * 17) (word counts d)) ≡ x
        → (when t then false else when u then false else when v then false else not x) ≡ true → CanAdd counts own d j
    go true u v x eu ev ex q = absurd (false≢true q)
    go false true v x eu ev ex q = absurd (false≢true q)
    go false false true x eu ev ex q = absurd (false≢true q)
    go false false false true eu ev ex q = absurd (false≢true q)
    go false false false false eu ev ex q = record { small = omega (arith, ltb-false 128 j eu); few = ltb-false 15 (word counts d) ev; new = ex }

nothing_bad : (s : List ℕ) → Gives bad_brackets s 0 false → Decides bad_tree s false
nothing_bad s g = decided s false (record { gives = λ ts f. no_frame ts (g.gives ts f) })

module _ (s b e : List ℕ) (n : ℕ) (counts own : List ℕ) (clean : Bool) (depth last at : ℕ) (i : Watching s b e n counts own clean depth last at) where
  no_more : Gives bad_brackets s 0 (left_bad (stack s b e counts own depth) last []) → Decides bad_tree s false
  no_more g = nothing_bad s (rw (left_none (stack s b e counts own depth) last) at g)

  pub watch_done : length s ≤ at → clean ≡ true → Decides bad_tree s false
  watch_done h t = no_more (go_done _ s 0 _ at (i.still t).going h)

  module _ (r : TokenRead) (found : TokenAt class s at r) where
    pub watch_end : r ≡ TokenRead.End → clean ≡ true → Decides bad_tree s false
    watch_end h t = no_more (go_end _ s 0 _ at (i.still t).going r found h)

    pub watch_none : r ≡ TokenRead.NoToken → clean ≡ true → Decides bad_tree s false
    watch_none h t = nothing_bad s (go_none _ s 0 _ at (i.still t).going r found h false)

    module _ (k a p w : ℕ) (h : r ≡ TokenRead.Token k a p w) (b' e' : List ℕ) (n' : ℕ) (more : Extends s b e n b' e' n') (z : Numbered s b' e' n') (j : ℕ) (named : Named s b' e' n' k a p j)
        (counts' own' : List ℕ) (clean' : Bool) (m : Watches counts own clean depth last k j counts' own' clean') where
      abbrev Next : Type 0
      Next = Clean s b' e' n' counts' own' (depth_after depth k) k p

      module _ (c : Clean s b' e' n' counts own depth last at) (t : clean' ≡ true) where
        after_slot : names_slot 0 last k ≡ true → levels counts' own' clean' ≡ added counts own depth j → Next
        unfolding added depth_after
        after_slot q f = go (is_added counts own depth j) refl f
          where
            go : (u : Bool) → is_added counts own depth j ≡ u → levels counts' own' clean' ≡ (when u then levels (set_word counts depth (word counts depth + 1)) (set_word own (depth * 17 + word counts depth) j) true else levels counts own false) → Next
            go true x f =
                let g = can_add counts own depth j x in
                let y : k ≡ 25 = slot_name 0 last k q in
                rw (ap (λ (v : Levels). v.counts) f, ap (λ (v : Levels). v.own) f, ap (depth_after depth) y)
                (after_add s b' e' n' counts own last at r found k a p w h depth c i.counts_size i.own_size z j (named.inside y g.small) (named.bytes y g.small) g.few g.new q)
            go false x f = absurd (true≢false (sym t ∙ ap (λ (v : Levels). v.clean) f))

        after_bracket : (eqb k 12 || eqb k 14) ≡ true → levels counts' own' clean' ≡ opened counts own depth → Next
        unfolding opened
        after_bracket q f = go (ltb depth 17) refl f
          where
            deeper : (x : ℕ) → x + 0 ≡ depth + 1 → x ≡ depth + 1
            deeper x e = omega arith

            go : (u : Bool) → ltb depth 17 ≡ u → levels counts' own' clean' ≡ (when u then levels (set_word counts (depth + 1) 0) own true else levels counts own false) → Next
            go true x f =
                rw (ap (λ (v : Levels). v.counts) f, ap (λ (v : Levels). v.own) f, deeper (depth_after depth k) ((passes_open k last q).depth_is depth (omega arith)))
                (after_open s b' e' n' counts own last at r found k a p w h depth c i.counts_size (ltb-true depth 17 x) q)
            go false x f = absurd (true≢false (sym t ∙ ap (λ (v : Levels). v.clean) f))

      still_clean : clean' ≡ true → Next
      unfolding watched
      still_clean t = go clean refl m.is
        where
          by : Clean s b' e' n' counts own depth last at → (u v : Bool) → names_slot 0 last k ≡ u → (eqb k 12 || eqb k 14) ≡ v
              → levels counts' own' clean' ≡ (when u then added counts own depth j else when v then opened counts own depth else levels counts own true) → Next
          by c true v x y f = after_slot c t x f
          by c false true x y f = after_bracket c t y f
          by c false false x y f =
              rw (ap (λ (v : Levels). v.counts) f, ap (λ (v : Levels). v.own) f) (after_other s b' e' n' counts own last at r found k a p w h y depth c x)

          go : (u : Bool) → clean ≡ u → levels counts' own' clean' ≡ watched counts own u depth last k j → Next
          go true x f = by (grown s b e n counts own depth last at b' e' n' more (i.still x)) (names_slot 0 last k) (eqb k 12 || eqb k 14) refl refl f
          go false x f = absurd (true≢false (sym t ∙ ap (λ (v : Levels). v.clean) f))

      pub watch_again : (depth' : ℕ) → depth' ≡ depth_after depth k → Watching s b' e' n' counts' own' clean' depth' k p
      watch_again depth' q =
          let sizes = watched_sizes counts own clean depth last k j in
          rw q (record {
            counts_size = ap (λ (v : Levels). length v.counts) m.is ∙ sizes.counts_size ∙ i.counts_size;
            own_size = ap (λ (v : Levels). length v.own) m.is ∙ sizes.own_size ∙ i.own_size;
            still = still_clean;
          })
