-- Laws of finding Main.start, one for each way through each function. Assumes nothing.
use mathlib.Core.Path.{◌≡◌, refl, sym, ◌∙◌}
use mathlib.Core.Bool.{Bool, true, false, ◌&&◌}
use mathlib.Core.List.{List, [], ◌∷◌}
use mathlib.Core.Option.{Option, none, some}
use Prim.Native.Nat.{ℕ, ◌<◌, ◌≤◌}
use native.Mathlib.Omega.{arith}
use lib.Dec.{eqb}
use lib.ListN.{length}
use borrow.Author.Tests.{eq-eqb, ne_eqb}
use Rattle.framed.specs.Common.{when◌then◌else◌, bytes, same}
use Rattle.framed.specs.Bytes.{class}
use Rattle.framed.specs.Tokens.{Token}
use Rattle.source.specs.Positions.{part}
use Rattle.token.specs.Reading.{token_of, TokenAt, Spot}
use Rattle.token.specs.declared.TokenRead.{TokenRead}
use Rattle.token.proofs.KindNumbers.{kind_is}
use Rattle.token.proofs.Answers.{spot_of}
use Rattle.scan.specs.Scan.{depth_after, NotHuge}
use Rattle.sweep.proofs.Loop.{Going, Gives, go_start, go_end, go_none, go_done, go_token, go_again, go_early}
use Rattle.std.specs.Prelude.{Option as Perhaps, None, Some}
use Rattle.slots.specs.Own.{closes, names_slot, own_slots}
use Rattle.scan.proofs.Laws.{depth_small}
use Rattle.slots.proofs.Laws.{slot_name, name_is}
use Rattle.start.specs.Find.{and_then, after_kind, first_slot, find, value, opening, start_value, Begins, nowhere, here, Leads}

-- ---- One after the other

begins_none : {s : List ℕ} (o : Option (List Token)) → Begins s o None → o ≡ none
begins_none o nowhere = refl

begins_then : {s : List ℕ} {p : ℕ} (o : Option (List Token)) (g : List Token → Option (List Token)) (r : Perhaps ℕ) → Begins s o (Some p) → Leads g s p r → Begins s (and_then o g) r
unfolding and_then
begins_then o g r (here {ts = ts} e) m = m.is ts e

module _ (f g : List Token → Option (List Token)) (s : List ℕ) (at : ℕ) where
  pub stop : Leads f s at None → Leads (λ ts. and_then (f ts) g) s at None
  unfolding and_then
  stop m = record { is = λ ts e. rw (begins_none (f ts) (m.is ts e)) nowhere }

  pub go_on : (p : ℕ) (r : Perhaps ℕ) → Leads f s at (Some p) → Leads g s p r → Leads (λ ts. and_then (f ts) g) s at r
  go_on p r m h = record { is = λ ts e. begins_then (f ts) g r (m.is ts e) h }

-- ---- One token

-- nothing to take where there is none
module _ (s : List ℕ) (at k : ℕ) (t : TokenRead) (found : TokenAt class s at t) where
  took_none : (u : TokenRead) → t ≡ u → ((k : ℕ) (n : ℕ) (i : ℕ) (j : ℕ) → u ≡ TokenRead.Token k n i j → ⊥) → Leads (after_kind k) s at None
  unfolding after_kind
  took_none TokenRead.End e o = record { is = λ ts f. rw ((go_end (λ us. us) s at (λ us. us) at (go_start _ s at) t found e).gives ts f) nowhere }
  took_none TokenRead.NoToken e o = record { is = λ ts f. rw ((go_none (λ us. us) s at (λ us. us) at (go_start _ s at) t found e []).gives ts f) nowhere }
  took_none (TokenRead.Token j a p w) e o = absurd (o j a p w refl)

  pub take_none : ((k : ℕ) (n : ℕ) (i : ℕ) (j : ℕ) → t ≡ TokenRead.Token k n i j → ⊥) → Leads (after_kind k) s at None
  take_none o = took_none t refl o

  module _ (j a p w : ℕ) (e : t ≡ TokenRead.Token j a p w) where
    after_is : (us : List Token) → after_kind k (token_of s j a p w ∷ us) ≡ (when eqb j k then some us else none)
    unfolding after_kind
    after_is us = rw (kind_is s a p w j (spot_of t found.on e).known)

    pub take_some : j ≡ k → Leads (after_kind k) s at (Some p)
    take_some h = record {
      is = λ ts f. let u = go_token (λ us. us) s at (λ us. us) at (go_start _ s at) t found j a p w e ts f in
          rw (u.2, after_is u.0, eq-eqb j k h) (here u.1);
    }

    pub take_other : (j ≡ k → ⊥) → Leads (after_kind k) s at None
    take_other h = record {
      is = λ ts f. let u = go_token (λ us. us) s at (λ us. us) at (go_start _ s at) t found j a p w e ts f in
          rw (u.2, after_is u.0, ne_eqb j k h) nowhere;
    }

module _ (s name : List ℕ) (a p : ℕ) (slot : Bool) where
  pub slot_is : slot ≡ true → (w : List ℕ) → w ≡ part s a p → (r : Bool) → r ≡ same name w → r ≡ (slot && same name (part s a p))
  slot_is t w e r h = rw (t, ← e) h

  pub slot_not : slot ≡ false → false ≡ (slot && same name (part s a p))
  slot_not t = rw t

-- ---- The loop

module _ (s : List ℕ) (k a p w : ℕ) (known : k < 29) (name : List ℕ) (d l : ℕ) (us : List Token) where
  step_closes : closes d k ≡ true → find name d l (token_of s k a p w ∷ us) ≡ none
  unfolding find own_slots first_slot
  step_closes e = rw (kind_is s a p w k known, e)

  module _ (c : closes d k ≡ false) where
    step_other : names_slot d l k ≡ false → find name d l (token_of s k a p w ∷ us) ≡ find name (depth_after d k) k us
    unfolding find own_slots
    step_other e = rw (kind_is s a p w k known, c, e)

    step_slot : names_slot d l k ≡ true → find name d l (token_of s k a p w ∷ us) ≡ (when same name (part s a p) then some us else find name (depth_after d k) k us)
    unfolding find own_slots first_slot
    step_slot e = rw (kind_is s a p w k known, c, e, name_is s k a p w (slot_name d l k e))

pub record Finding (s : List ℕ) (from : ℕ) (name : List ℕ) (d l at : ℕ) : Type 0 where
  pub shallow : d ≤ at
  pub going : Going (find name 0 0) s from (find name d l) at

pub find_start : (s : List ℕ) (from : ℕ) (name : List ℕ) → Finding s from name 0 0 from
find_start s from name = record { shallow = omega arith; going = go_start _ s from }

nothing : (s : List ℕ) (from : ℕ) (name : List ℕ) → Gives (find name 0 0) s from none → Leads (find name 0 0) s from None
nothing s from name g = record { is = λ ts e. rw (g.gives ts e) nowhere }

module _ (s : List ℕ) (from : ℕ) (name : List ℕ) (d l at : ℕ) (i : Finding s from name d l at) where
  pub find_done : length s ≤ at → Leads (find name 0 0) s from None
  unfolding find own_slots first_slot
  find_done h = nothing s from name (go_done _ s from _ at i.going h)

  pub find_shallow : at < 18446744073709551615 → NotHuge d
  find_shallow h = record { small = omega (arith, i.shallow) }

  module _ (r : TokenRead) (found : TokenAt class s at r) where
    pub find_end : r ≡ TokenRead.End → Leads (find name 0 0) s from None
    unfolding find own_slots first_slot
    find_end h = nothing s from name (go_end _ s from _ at i.going r found h)

    pub find_none : r ≡ TokenRead.NoToken → Leads (find name 0 0) s from None
    find_none h = nothing s from name (go_none _ s from _ at i.going r found h none)

    module _ (k a p w : ℕ) (h : r ≡ TokenRead.Token k a p w) (c : Bool) (ec : c ≡ closes d k) where
      spot : Spot at (length s) k a p
      spot = spot_of r found.on h

      pub find_closes : c ≡ true → Leads (find name 0 0) s from None
      find_closes t = nothing s from name (go_early _ s from _ at i.going r found k a p w h none
          (λ us f. step_closes s k a p w spot.known name d l us (sym ec ∙ t)))

      module _ (open_still : c ≡ false) (slot : Bool) (es : slot ≡ names_slot d l k) (q : Bool) (eq : q ≡ (slot && same name (part s a p))) where
        -- what the token gives
        step : (us : List Token) → find name d l (token_of s k a p w ∷ us) ≡ (when q then some us else find name (depth_after d k) k us)
        step us = rw eq (go slot refl)
          where
            go : (u : Bool) → slot ≡ u → find name d l (token_of s k a p w ∷ us) ≡ (when u && same name (part s a p) then some us else find name (depth_after d k) k us)
            go true x = step_slot s k a p w spot.known name d l us (sym ec ∙ open_still) (sym es ∙ x)
            go false x = step_other s k a p w spot.known name d l us (sym ec ∙ open_still) (sym es ∙ x)

        pub find_found : q ≡ true → Leads (find name 0 0) s from (Some p)
        find_found t = record {
          is = λ ts f. let u = go_token _ s from _ at i.going r found k a p w h ts f in rw (u.2, step u.0, t) (here u.1);
        }

        pub find_again : q ≡ false → (d' : ℕ) → d' ≡ depth_after d k → Finding s from name d' k p
        find_again t d' ed = record {
          shallow = omega (arith, depth_small d k, i.shallow, spot.begins, spot.more);
          going = rw ed (go_again _ s from _ at i.going r found k a p w h _ (λ us f. step us ∙ rw t));
        }

-- ---- The chains

module _ (s : List ℕ) (at : ℕ) (name : List ℕ) (x : Perhaps ℕ) (mx : Leads (find name 0 0) s at x) where
  pub value_none : x ≡ None → Leads (value name) s at None
  unfolding value
  value_none e = stop (find name 0 0) (after_kind 6) s at (rw e at mx)

  pub value_some : (p : ℕ) → x ≡ Some p → (r : Perhaps ℕ) → Leads (after_kind 6) s p r → Leads (value name) s at r
  unfolding value
  value_some p e r m = go_on (find name 0 0) (after_kind 6) s at p r (rw e at mx) m

module _ (s : List ℕ) (at : ℕ) (x : Perhaps ℕ) (mx : Leads (after_kind 0) s at x) where
  abbrev two : List Token → Option (List Token)
  two ts = and_then (after_kind 0 ts) (after_kind 5)

  pub opening_1 : x ≡ None → Leads opening s at None
  unfolding opening
  opening_1 e = stop two (after_kind 12) s at (stop (after_kind 0) (after_kind 5) s at (rw e at mx))

  module _ (p : ℕ) (e : x ≡ Some p) (y : Perhaps ℕ) (my : Leads (after_kind 5) s p y) where
    second : Leads two s at y
    second = go_on (after_kind 0) (after_kind 5) s at p y (rw e at mx) my

    pub opening_2 : y ≡ None → Leads opening s at None
    unfolding opening
    opening_2 f = stop two (after_kind 12) s at (rw f at second)

    pub opening_3 : (q : ℕ) → y ≡ Some q → (r : Perhaps ℕ) → Leads (after_kind 12) s q r → Leads opening s at r
    unfolding opening
    opening_3 q f r m = go_on two (after_kind 12) s at q r (rw f at second) m

module _ (s : List ℕ) (x : Perhaps ℕ) (mx : Leads opening s 0 x) where
  abbrev main : List Token → Option (List Token)
  main ts = and_then (opening ts) (value (bytes "Main"))

  abbrev inner : List Token → Option (List Token)
  inner ts = and_then (main ts) opening

  pub start_1 : x ≡ None → Leads start_value s 0 None
  unfolding start_value
  start_1 e = stop inner (value (bytes "start")) s 0 (stop main opening s 0 (stop opening (value (bytes "Main")) s 0 (rw e at mx)))

  module _ (p : ℕ) (e : x ≡ Some p) (y : Perhaps ℕ) (my : Leads (value (77 ∷ 97 ∷ 105 ∷ 110 ∷ [])) s p y) where
    main_leads : Leads main s 0 y
    unfolding bytes
    main_leads = go_on opening (value (bytes "Main")) s 0 p y (rw e at mx) my

    pub start_2 : y ≡ None → Leads start_value s 0 None
    unfolding start_value
    start_2 f = stop inner (value (bytes "start")) s 0 (stop main opening s 0 (rw f at main_leads))

    module _ (q : ℕ) (f : y ≡ Some q) (z : Perhaps ℕ) (mz : Leads opening s q z) where
      inner_leads : Leads inner s 0 z
      inner_leads = go_on main opening s 0 q z (rw f at main_leads) mz

      pub start_3 : z ≡ None → Leads start_value s 0 None
      unfolding start_value
      start_3 g = stop inner (value (bytes "start")) s 0 (rw g at inner_leads)

      pub start_4 : (u : ℕ) → z ≡ Some u → (r : Perhaps ℕ) → Leads (value (115 ∷ 116 ∷ 97 ∷ 114 ∷ 116 ∷ [])) s u r → Leads start_value s 0 r
      unfolding start_value bytes
      start_4 u g r m = go_on inner (value (bytes "start")) s 0 u r (rw g at inner_leads) m
