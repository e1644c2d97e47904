-- Laws of the slots of a frame, one for each way through each function, and of the loops over them. Assumes nothing.
use mathlib.Core.Path.{◌≡◌, refl, sym, ap, ◌∙◌}
use mathlib.Core.Bool.{Bool, true, false, not, ◌&&◌, ◌||◌, true≢false, false≢true}
use mathlib.Core.List.{List, [], ◌∷◌, ◌++◌}
use mathlib.Core.Option.{Option, none, some}
use Prim.Native.Nat.{ℕ, ◌+◌, ◌-◌, ◌<◌, ◌≤◌}
use native.Mathlib.Omega.{arith}
use lib.Dec.{eqb, ltb}
use lib.ListN.{length}
use borrow.Author.Tests.{eq-eqb, ne_eqb, lt-ltb, le-ltb, eqb-true, eqb-false, ltb-true, ltb-false}
use Rattle.framed.specs.Common.{when◌then◌else◌, any, same}
use Rattle.framed.specs.Bytes.{class}
use Rattle.framed.specs.Tokens.{Token, tokens, prepend}
use Rattle.framed.specs.Symbols.{symbols}
use Rattle.framed.proofs.ParseExact.{parse_sound}
use Rattle.source.specs.Positions.{rest, part}
use Rattle.words.specs.Words.{set_word}
use Rattle.words.proofs.Laws.{set_size}
use Rattle.token.specs.Reading.{token_of, TokenAt, Spot}
use Rattle.token.specs.declared.TokenRead.{TokenRead}
use Rattle.token.proofs.KindNumbers.{kind_is}
use Rattle.token.proofs.Answers.{spot_of, tokens_at_token}
use Rattle.scan.specs.Scan.{depth_after, NotHuge}
use Rattle.scan.proofs.Laws.{no_bracket, depth_small}
use Rattle.sweep.specs.Decides.{Decides}
use Rattle.sweep.proofs.Loop.{over, Going, Gives, go_start, go_end, go_none, go_done, go_again, go_early}
use Rattle.names.specs.Kept.{table_of}
use Rattle.names.proofs.Laws.{table_length, table_more}
use Rattle.slots.specs.Own.{closes, names_slot, plain, own_slots, own_names, repeats, bytes_of, bad_slots, bad_frames, Added, BadSlots, bad_tree}
use Rattle.slots.specs.Checks.{frames_bad, Clear, clear_after, Checks, Opens}
use Rattle.slots.specs.declared.Checked.{Checked}
use Rattle.slots.proofs.Bad.{tree_bad}

-- ---- One token

module _ (d k : ℕ) where
  pub closes_square : k ≡ 13 → eqb d 0 ≡ closes d k
  unfolding closes
  closes_square e = rw e

  pub closes_curly : (k ≡ 13 → ⊥) → k ≡ 15 → eqb d 0 ≡ closes d k
  unfolding closes
  closes_curly n e = rw e

  pub closes_not : (k ≡ 13 → ⊥) → (k ≡ 15 → ⊥) → false ≡ closes d k
  unfolding closes
  closes_not n m = rw (ne_eqb k 13 n, ne_eqb k 15 m)

module _ (d l k : ℕ) where
  pub slot_other : (k ≡ 25 → ⊥) → false ≡ names_slot d l k
  unfolding names_slot
  slot_other n = rw (ne_eqb k 25 n)

  pub slot_path : k ≡ 25 → l ≡ 7 → false ≡ names_slot d l k
  unfolding names_slot
  slot_path e f = rw (e, f)

  pub slot_here : k ≡ 25 → (l ≡ 7 → ⊥) → eqb d 0 ≡ names_slot d l k
  unfolding names_slot
  slot_here e n = rw (e, ne_eqb l 7 n)

pub slot_name : (d l k : ℕ) → names_slot d l k ≡ true → k ≡ 25
slot_name d l k h = go (eqb k 25) refl
  where
    go : (t : Bool) → eqb k 25 ≡ t → k ≡ 25
    go true x = eqb-true k 25 x
    go false x = absurd (false≢true (slot_other d l k (eqb-false k 25 x) ∙ h))

module _ (k : ℕ) where
  pub plain_low : k < 12 → true ≡ plain k
  unfolding plain
  plain_low l = rw (lt-ltb k 12 l)

  pub plain_bracket : 12 ≤ k → k < 16 → false ≡ plain k
  unfolding plain
  plain_bracket g l = rw (le-ltb k 12 g, lt-ltb k 16 l)

  pub plain_high : 12 ≤ k → 16 ≤ k → not (eqb k 25) ≡ plain k
  unfolding plain
  plain_high g h = rw (le-ltb k 12 g, le-ltb k 16 h)

  module _ (is : plain k ≡ true) where
    plain_not : (n : ℕ) → plain n ≡ false → (k ≡ n → ⊥)
    plain_not n f e = true≢false (sym is ∙ ap plain e ∙ f)

    plain_closes : (d : ℕ) → false ≡ closes d k
    unfolding plain
    plain_closes d = closes_not d k (plain_not 13 refl) (plain_not 15 refl)

    plain_slot : (d l : ℕ) → false ≡ names_slot d l k
    unfolding plain
    plain_slot d l = slot_other d l k (plain_not 25 refl)

    plain_depth : (d : ℕ) → d ≡ depth_after d k
    unfolding plain
    plain_depth d = no_bracket d k (plain_not 12 refl) (plain_not 14 refl) (plain_not 13 refl) (plain_not 15 refl)

module _ (s b e : List ℕ) (n a p : ℕ) (slot : Bool) where
  pub repeated_slot : slot ≡ true → (r : Bool) → r ≡ any (same (part s a p)) (table_of s b e n) → r ≡ (slot && any (same (part s a p)) (table_of s b e n))
  repeated_slot t r h = rw t h

  pub repeated_not : slot ≡ false → false ≡ (slot && any (same (part s a p)) (table_of s b e n))
  repeated_not t = rw t

  pub added_slot : slot ≡ true → (b' e' : List ℕ) → b' ≡ set_word b n a → e' ≡ set_word e n p → Added b e n slot a p b' e' (n + 1)
  added_slot t b' e' eb ee = record { begins_is = rw t eb; ends_is = rw t ee; count_is = rw t }

  pub added_not : slot ≡ false → Added b e n slot a p b e n
  added_not t = record { begins_is = rw t; ends_is = rw t; count_is = rw t }

pub name_is : (s : List ℕ) (k a p w : ℕ) → k ≡ 25 → bytes_of (token_of s k a p w) ≡ part s a p
unfolding token_of bytes_of
name_is s k a p w e = rw e

-- the slots from a token on

module _ (s : List ℕ) (k a p w : ℕ) (known : k < 29) (before : List (List ℕ)) (d l : ℕ) (us : List Token) where
  pub step_closes : closes d k ≡ true → bad_slots before d l (token_of s k a p w ∷ us) ≡ false
  unfolding bad_slots own_slots own_names repeats
  step_closes e = rw (kind_is s a p w k known, e)

  module _ (c : closes d k ≡ false) where
    pub step_other : names_slot d l k ≡ false → bad_slots before d l (token_of s k a p w ∷ us) ≡ bad_slots before (depth_after d k) k us
    unfolding bad_slots own_slots
    step_other e = rw (kind_is s a p w k known, c, e)

    pub step_slot : names_slot d l k ≡ true → bad_slots before d l (token_of s k a p w ∷ us)
        ≡ (any (same (part s a p)) before || (ltb 15 (length before) || bad_slots (before ++ (part s a p ∷ [])) (depth_after d k) k us))
    unfolding bad_slots own_slots own_names repeats
    step_slot e = rw (kind_is s a p w k known, c, e, name_is s k a p w (slot_name d l k e))

-- ---- The loop over a frame

pub record Collecting (s : List ℕ) (from : ℕ) (b e : List ℕ) (n d l at : ℕ) : Type 0 where
  pub begins_size : length b ≡ 17
  pub ends_size : length e ≡ 17
  pub few : n ≤ 16
  pub shallow : d ≤ at
  pub going : Going (bad_slots [] 0 0) s from (bad_slots (table_of s b e n) d l) at

pub collect_start : (s : List ℕ) (from : ℕ) (b e : List ℕ) → length b ≡ 17 → length e ≡ 17 → Collecting s from b e 0 0 0 from
unfolding table_of
collect_start s from b e hb he = record { begins_size = hb; ends_size = he; few = omega arith; shallow = omega arith; going = go_start _ s from }

ended : (s : List ℕ) (from : ℕ) (r : Bool) → Gives (bad_slots [] 0 0) s from r → BadSlots s from r
ended s from r g = record { is = λ ts e. sym (g.gives ts e) }

pub none_left : (before : List (List ℕ)) (d l : ℕ) → bad_slots before d l [] ≡ false
unfolding bad_slots own_slots own_names repeats
none_left before d l = refl

module _ (s : List ℕ) (from : ℕ) (b e : List ℕ) (n d l at : ℕ) (i : Collecting s from b e n d l at) where
  no_more : Gives (bad_slots [] 0 0) s from (bad_slots (table_of s b e n) d l []) → BadSlots s from false
  no_more g = ended s from false (rw (none_left (table_of s b e n) d l) at g)

  pub collect_done : length s ≤ at → BadSlots s from false
  collect_done h = no_more (go_done _ s from _ at i.going h)

  pub collect_few : NotHuge n
  collect_few = record { small = omega (arith, i.few) }

  pub collect_shallow : at < 18446744073709551615 → NotHuge d
  collect_shallow h = record { small = omega (arith, i.shallow) }

  module _ (r : TokenRead) (found : TokenAt class s at r) where
    pub collect_end : r ≡ TokenRead.End → BadSlots s from false
    collect_end h = no_more (go_end _ s from _ at i.going r found h)

    pub collect_none : r ≡ TokenRead.NoToken → BadSlots s from false
    collect_none h = no_more (go_none _ s from _ at i.going r found h _)

    module _ (k a p w : ℕ) (h : r ≡ TokenRead.Token k a p w) (c : Bool) (ec : c ≡ closes d k) where
      spot : Spot at (length s) k a p
      spot = spot_of r found.on h

      pub collect_closes : c ≡ true → BadSlots s from false
      collect_closes t = ended s from false (go_early _ s from _ at i.going r found k a p w h false
          (λ us f. step_closes s k a p w spot.known (table_of s b e n) d l us (sym ec ∙ t)))

      module _ (open_still : c ≡ false) (slot : Bool) (es : slot ≡ names_slot d l k) (q : Bool) (eq : q ≡ (slot && any (same (part s a p)) (table_of s b e n))) where
        pub collect_repeated : q ≡ true → BadSlots s from true
        collect_repeated t = ended s from true (go_early _ s from _ at i.going r found k a p w h true (λ us f. found_again us))
          where
            parts : (u v : Bool) → true ≡ (u && v) → (u ≡ true) × (v ≡ true)
            parts true v x = (refl, sym x)
            parts false v x = absurd (false≢true (sym x))

            found_again : (us : List Token) → bad_slots (table_of s b e n) d l (token_of s k a p w ∷ us) ≡ true
            found_again us =
                let x = parts slot (any (same (part s a p)) (table_of s b e n)) (sym t ∙ eq) in
                step_slot s k a p w spot.known (table_of s b e n) d l us (sym ec ∙ open_still) (sym es ∙ x.0) ∙ rw x.1

        module _ (t : q ≡ false) (b' e' : List ℕ) (n' : ℕ) (added : Added b e n slot a p b' e' n') where
          -- what is kept after the token
          record After : Type 0 where
            begins_size : length b' ≡ 17
            ends_size : length e' ≡ 17
            step : (us : List Token) → bad_slots (table_of s b e n) d l (token_of s k a p w ∷ us) ≡ (ltb 16 n' || bad_slots (table_of s b' e' n') (depth_after d k) k us)

          after : After
          after = go slot refl added.begins_is added.ends_is added.count_is
            where
              new : slot ≡ true → any (same (part s a p)) (table_of s b e n) ≡ false
              new x = sym (ap (λ (u : Bool). u && any (same (part s a p)) (table_of s b e n)) x) ∙ sym eq ∙ t

              one_more : ltb 15 n ≡ ltb 16 (n + 1)
              one_more = by (ltb 15 n) refl
                where
                  by : (u : Bool) → ltb 15 n ≡ u → u ≡ ltb 16 (n + 1)
                  by true x = sym (lt-ltb 16 (n + 1) (omega (arith, ltb-true 15 n x)))
                  by false x = sym (le-ltb 16 (n + 1) (omega (arith, ltb-false 15 n x)))

              go : (u : Bool) → slot ≡ u → b' ≡ (when u then set_word b n a else b) → e' ≡ (when u then set_word e n p else e) → n' ≡ (when u then n + 1 else n) → After
              go true x eb ee en = record {
                begins_size = rw eb (set_size b n a ∙ i.begins_size);
                ends_size = rw ee (set_size e n p ∙ i.ends_size);
                step = λ us. step_slot s k a p w spot.known (table_of s b e n) d l us (sym ec ∙ open_still) (sym es ∙ x)
                    ∙ rw (new x, table_length s b e n, one_more, eb, ee, en, table_more s b e n a p (omega (arith, i.begins_size, i.few)) (omega (arith, i.ends_size, i.few)));
              }
              go false x eb ee en = record {
                begins_size = rw eb i.begins_size;
                ends_size = rw ee i.ends_size;
                step = λ us. step_other s k a p w spot.known (table_of s b e n) d l us (sym ec ∙ open_still) (sym es ∙ x) ∙ rw (eb, ee, en, le-ltb 16 n i.few);
              }

          pub collect_many : 16 < n' → BadSlots s from true
          collect_many m = ended s from true (go_early _ s from _ at i.going r found k a p w h true (λ us f. after.step us ∙ rw (lt-ltb 16 n' m)))

          pub collect_again : n' ≤ 16 → (d' : ℕ) → d' ≡ depth_after d k → Collecting s from b' e' n' d' k p
          collect_again m d' ed = record {
            begins_size = after.begins_size;
            ends_size = after.ends_size;
            few = m;
            shallow = omega (arith, depth_small d k, i.shallow, spot.begins, spot.more);
            going = rw ed (go_again _ s from _ at i.going r found k a p w h _ (λ us f. after.step us ∙ rw (le-ltb 16 n' m)));
          }

-- a token that is neither a bracket nor a name leaves what is kept
pub collect_plain : (s : List ℕ) (from : ℕ) (b e : List ℕ) (n d l at : ℕ) → Collecting s from b e n d l at → (r : TokenRead) → TokenAt class s at r
    → (k a p w : ℕ) → r ≡ TokenRead.Token k a p w → (q : Bool) → q ≡ plain k → q ≡ true → Collecting s from b e n d k p
collect_plain s from b e n d l at i r found k a p w h q is t =
    let y : plain k ≡ true = sym is ∙ t in
    collect_again s from b e n d l at i r found k a p w h false (plain_closes k y d) refl false (plain_slot k y d l) false refl refl b e n
    (added_not s b e n a p false refl) i.few d (plain_depth k y d)

-- ---- Where no frame begins

module _ (p at k end : ℕ) where
  pub clear_other : (p ≡ at → ⊥) → p ≡ clear_after p at k end
  unfolding clear_after
  clear_other n = rw (ne_eqb p at n)

  pub clear_frame : p ≡ at → k ≡ 12 → p ≡ clear_after p at k end
  unfolding clear_after
  clear_frame e f = rw (eq-eqb p at e, eq-eqb k 12 f)

  pub clear_more : p ≡ at → (k ≡ 12 → ⊥) → end ≡ clear_after p at k end
  unfolding clear_after
  clear_more e f = rw (eq-eqb p at e, ne_eqb k 12 f)

pub clear_start : (s : List ℕ) (from : ℕ) → Clear s from from
clear_start s from = record { begins = omega arith; rest_is = refl }

-- a token that opens no frame
passed : (s : List ℕ) (k a p w : ℕ) → k < 29 → (k ≡ 12 → ⊥) → (o : Option (List Token)) → frames_bad (prepend (token_of s k a p w) o) ≡ frames_bad o
unfolding frames_bad prepend bad_frames
passed s k a p w l n none = refl
passed s k a p w l n (some us) = rw (kind_is s a p w k l, ne_eqb k 12 n)

pub clear_again : (s : List ℕ) (from p at : ℕ) → Clear s from p → (r : TokenRead) → TokenAt class s at r → (k a e w : ℕ) → r ≡ TokenRead.Token k a e w → (q : ℕ) → q ≡ clear_after p at k e → Clear s from q
unfolding clear_after
clear_again s from p at c r found k a e w h q is = go (eqb p at) refl (eqb k 12) refl is
  where
    go : (t : Bool) → eqb p at ≡ t → (u : Bool) → eqb k 12 ≡ u → q ≡ (when t then (when u then p else e) else p) → Clear s from q
    go false et u eu is = rw is c
    go true et true eu is = rw is c
    go true et false eu is =
        let spot : Spot at (length s) k a e = spot_of r found.on h in
        rw is (record {
          begins = omega (arith, c.begins, eqb-true p at et, spot.begins, spot.more);
          rest_is = sym (passed s k a e w spot.known (eqb-false k 12 eu) (tokens class (rest s e)))
              ∙ ap frames_bad (sym (tokens_at_token class s at r found k a e w h))
              ∙ ap (λ (i : ℕ). frames_bad (tokens class (rest s i))) (sym (eqb-true p at et))
              ∙ c.rest_is;
        })

pub checks : (s : List ℕ) (from p : ℕ) (b : Bool) → BadSlots s from b → Clear s from p → Checks s from (record { bad = b; clear = p })
checks s from p b m c = record { bad_is = m; clear_is = c }

-- ---- The loop over all frames

module _ (s : List ℕ) (k end : ℕ) where
  pub opens_frame : k ≡ 12 → (r : Checked) → Checks s end r → Opens s k end r
  opens_frame e r m = record { bad_is = record { is = λ ts f. m.bad_is.is ts f ∙ rw e }; clear_is = m.clear_is }

  pub opens_not : (k ≡ 12 → ⊥) → Opens s k end (record { bad = false; clear = end })
  opens_not n = record { bad_is = record { is = λ ts f. rw (ne_eqb k 12 n) }; clear_is = clear_start s end }

over_is : (o : Option (List Token)) → over bad_frames o ≡ frames_bad o
unfolding over frames_bad
over_is none = refl
over_is (some ts) = refl

pub record Passing (s : List ℕ) (at : ℕ) : Type 0 where
  pub going : Going bad_frames s 0 bad_frames at

pub pass_start : (s : List ℕ) → Passing s 0
pass_start s = record { going = go_start _ s 0 }

pub decided : (s : List ℕ) (r : Bool) → Gives bad_frames s 0 r → Decides bad_tree s r
unfolding bad_tree rest
decided s r g = record { is = λ ts ss e f. sym (g.gives ts e) ∙ tree_bad ts ss (parse_sound (symbols ts) f) }

module _ (s : List ℕ) (at : ℕ) (i : Passing s at) where
  pub pass_done : length s ≤ at → Decides bad_tree s false
  unfolding bad_frames
  pass_done h = decided s false (go_done _ s 0 _ at i.going h)

  module _ (r : TokenRead) (found : TokenAt class s at r) where
    pub pass_end : r ≡ TokenRead.End → Decides bad_tree s false
    unfolding bad_frames
    pass_end h = decided s false (go_end _ s 0 _ at i.going r found h)

    pub pass_none : r ≡ TokenRead.NoToken → Decides bad_tree s false
    pass_none h = decided s false (go_none _ s 0 _ at i.going r found h false)

    module _ (k a p w : ℕ) (h : r ≡ TokenRead.Token k a p w) (v : Checked) (o : Opens s k p v) where
      step : (us : List Token) → tokens class (rest s p) ≡ some us → bad_frames (token_of s k a p w ∷ us) ≡ (v.bad || bad_frames us)
      unfolding bad_frames
      step us f = rw (kind_is s a p w k (spot_of r found.on h).known, o.bad_is.is us f)

      pub pass_bad : v.bad ≡ true → Decides bad_tree s true
      pass_bad x = decided s true (go_early _ s 0 _ at i.going r found k a p w h true (λ us f. step us f ∙ rw x))

      pub pass_again : v.bad ≡ false → Passing s v.clear
      pass_again x = record {
        going = record {
          same = over_is _ ∙ o.clear_is.rest_is ∙ sym (over_is _) ∙ (go_again _ s 0 _ at i.going r found k a p w h _ (λ us f. step us f ∙ rw x)).same;
        };
      }

      pub pass_less : at < length s → length s - v.clear < length s - at
      pass_less l = let spot = spot_of r found.on h in omega (arith, o.clear_is.begins, spot.begins, spot.more)
