-- Paths. Assumes nothing.
use mathlib.Core.Path.{◌≡◌, refl, sym, ◌∙◌}
use mathlib.Core.List.{List, [], ◌∷◌}
use Prim.Native.Nat.{ℕ, zero, suc, ◌-◌, ◌<◌, ◌≤◌}
use native.Mathlib.Omega.{arith}
use lib.ListN.{length}
use Rattle.framed.specs.Tokens.{Fixed}
use Rattle.framed.specs.Symbols.{Symbol, numbered}
use Rattle.framed.specs.Tree.{Written}
use Rattle.framed.specs.Parse.{Parsed, fails, parsed, Reader, give, ◌or◌, this, a_name, fixed_number, many_within, many, names, further_ups, a_path}
use Rattle.framed.specs.Parse as P
use Rattle.framed.proofs.ParseExact.{bind_out, bind_fails, or_first, or_second, this_in, a_name_in, then_this, fails≢parsed}
use Rattle.grammar.specs.Runs.{Outcome, Runs, Any, Onward, Moved, Reads, ReadsOn, Passes, KindAt, Expects, Sees}
use Rattle.grammar.specs.Readers.{dot_name, dot_up, more_ups, self_path, up_path}
use Rattle.std.specs.Prelude.{Option, None, Some}
use Rattle.grammar.specs.declared.Seen.{Seen}
use Rattle.grammar.proofs.Combine.{bind_runs, then_runs, bind_stops, then_stops, give_runs, or_only, or_else, map_runs, by_runs, by_stops, by_this, by_name}

-- ---- One reader after another, with the code's facts

module _ {A B : Type 0} (s : List ℕ) (R : Reader A) (at p : ℕ) (x r : Option ℕ) (e : x ≡ Some p) (m : Runs Any s R at x) where
  pub go_on : (f : A → Reader B) → ((a : A) → Runs Any s (f a) p r) → Runs Any s (P.◌>>=◌ R f) at r
  go_on f h = bind_runs Any Any s R at p r f (rw e at m) (λ a q. h a)

  pub go_then : (T : Reader B) → Runs Any s T p r → Runs Any s (P.◌>>◌ R T) at r
  go_then T h = then_runs Any Any s R at p r T (rw e at m) h

module _ {A B : Type 0} (s : List ℕ) (R : Reader A) (at : ℕ) (x : Option ℕ) (e : x ≡ None) (m : Runs Any s R at x) where
  pub stop_on : (f : A → Reader B) → Runs Any s (P.◌>>=◌ R f) at None
  stop_on f = bind_stops Any Any s R at f (rw e at m)

  pub stop_then : (T : Reader B) → Runs Any s (P.◌>>◌ R T) at None
  stop_then T = then_stops Any Any s R at T (rw e at m)

pub this_at : (f : Fixed) → fixed_number f < 16 → (s : List ℕ) (at : ℕ) (x : Option ℕ) → Expects s (fixed_number f) (fixed_number f) at x → Runs Any s (this f) at x
this_at f l s at x h = by_runs (this f) (fixed_number f) (fixed_number f) (by_this f l) s at x h

pub not_this : (f : Fixed) → fixed_number f < 16 → (s : List ℕ) (at k : ℕ) → KindAt s at k → (k ≡ fixed_number f → ⊥) → Runs Any s (this f) at None
not_this f l s at k h n = by_stops (this f) (fixed_number f) (fixed_number f) (by_this f l) s at k h (λ a b. n (same k (fixed_number f) a b))
  where
    same : (k m : ℕ) → m ≤ k → k ≤ m → k ≡ m
    same k m a b = omega arith

-- the last reader of a chain, and a value made of what was read
pub last_then : {A B : Type 0} (s : List ℕ) (R : Reader A) (b : B) (at : ℕ) (x : Option ℕ) → Runs Any s R at x → Runs Any s (P.◌>>◌ R (give b)) at x
last_then s R b at (Some p) m = then_runs Any Any s R at p (Some p) _ m (give_runs Any s p b Any.any)
last_then s R b at None m = then_stops Any Any s R at _ m

-- ---- Positions

moves_in : {at len p : ℕ} → Moved at len (Some p) → (at < p) × (p ≤ len)
moves_in (Moved.moves a b) = (a, b)

pub moved : {at len p : ℕ} (x : Option ℕ) → Moved at len x → x ≡ Some p → (at < p) × (p ≤ len)
moved x m e = moves_in (rw e at m)

goes_in : {at p : ℕ} → Onward at (Some p) → at ≤ p
goes_in (Onward.goes a) = a

pub went : {at p : ℕ} (x : Option ℕ) → Onward at x → x ≡ Some p → at ≤ p
went x m e = goes_in (rw e at m)

pub later_moved : {u len : ℕ} (at : ℕ) (w : Option ℕ) → at ≤ u → Moved u len w → Moved at len w
later_moved at (Some p) l (Moved.moves a b) = Moved.moves {p = p} (omega arith) b
later_moved at None l m = Moved.stops

pub moved_on : {u len : ℕ} (at : ℕ) (w : Option ℕ) → at ≤ u → Moved u len w → Onward at w
moved_on at (Some p) l (Moved.moves a b) = Onward.goes {p = p} (omega arith)
moved_on at None l m = Onward.stops

pub later_on : {u : ℕ} (at : ℕ) (w : Option ℕ) → at ≤ u → Onward u w → Onward at w
later_on at (Some p) l (Onward.goes a) = Onward.goes {p = p} (omega arith)
later_on at None l m = Onward.stops

-- ---- Dot and name, dot and `^`

module _ (s : List ℕ) (at : ℕ) (x : Option ℕ) (ex : Expects s 7 7 at x) where
  dot_runs : Runs Any s (this Fixed.dot) at x
  unfolding fixed_number
  dot_runs = this_at Fixed.dot (omega arith) s at x ex

  pub dot_name_none : x ≡ None → ReadsOn dot_name s at None
  unfolding dot_name
  dot_name_none e = record { says = stop_then s (this Fixed.dot) at x e dot_runs a_name; on = Moved.stops }

  pub dot_up_none : x ≡ None → ReadsOn dot_up s at None
  unfolding dot_up
  dot_up_none e = record { says = stop_then s (this Fixed.dot) at x e dot_runs (this Fixed.up); on = Moved.stops }

  module _ (p : ℕ) (e : x ≡ Some p) (y : Option ℕ) where
    pub dot_name_then : Expects s 25 25 p y → ReadsOn dot_name s at y
    unfolding dot_name
    dot_name_then ey = record {
      says = go_then s (this Fixed.dot) at p x y e dot_runs a_name (by_runs a_name 25 25 by_name s p y ey);
      on = later_moved at y (omega (arith, moved x ex.on e)) ey.on;
    }

    pub dot_up_then : Expects s 8 8 p y → ReadsOn dot_up s at y
    unfolding dot_up fixed_number
    dot_up_then ey = record {
      says = go_then s (this Fixed.dot) at p x y e dot_runs (this Fixed.up) (this_at Fixed.up (omega arith) s p y ey);
      on = later_moved at y (omega (arith, moved x ex.on e)) ey.on;
    }

-- ---- As many as there are

pub record Shortens {A : Type 0} (R : Reader A) : Type 0 where
  pub shorter : (ts us : List Symbol) (a : A) → R ts ≡ parsed a us → length us < length ts

module _ {A : Type 0} (R : Reader A) where
  many_fails : (n : ℕ) (us : List Symbol) → R us ≡ fails → many_within n R us ≡ parsed [] us
  unfolding many_within give
  many_fails zero us e = refl
  many_fails (suc n) us e = or_second _ _ us (bind_fails R _ us e) refl

  many_one : (n : ℕ) (us vs ws : List Symbol) (a : A) (xs : List A) → R us ≡ parsed a vs → many_within n R vs ≡ parsed xs ws → many_within (suc n) R us ≡ parsed (a ∷ xs) ws
  unfolding many_within give
  many_one n us vs ws a xs e f = or_first _ _ us (bind_out R _ us e (bind_out (many_within n R) _ vs f refl))

  or_never : (x : Parsed (List A)) (us : List Symbol) → ◌≡◌ {A = Parsed (List A)} (elim x [ fails ↦ parsed [] us | parsed a vs ↦ parsed a vs ]) fails → ⊥
  or_never fails us e = fails≢parsed (sym e)
  or_never (parsed a vs) us e = fails≢parsed (sym e)

  or_give : (X : Reader (List A)) (us : List Symbol) → (X or give []) us ≡ fails → ⊥
  unfolding give ◌or◌
  or_give X us e = or_never (X us) us e

  gives : (us : List Symbol) → give {A = List A} [] us ≡ fails → ⊥
  unfolding give
  gives us e = fails≢parsed (sym e)

  many_never : (n : ℕ) (us : List Symbol) → many_within n R us ≡ fails → ⊥
  unfolding many_within
  many_never zero us e = gives us e
  many_never (suc n) us e = or_give _ us e

  module _ (sh : Shortens R) where
    -- every bound that is enough gives the same
    many_same : (n m : ℕ) (us : List Symbol) → length us ≤ n → length us ≤ m → many_within n R us ≡ many_within m R us
    many_same zero m us l k = go (R us) refl
      where
        go : (x : Parsed A) → R us ≡ x → many_within zero R us ≡ many_within m R us
        go fails e = many_fails zero us e ∙ sym (many_fails m us e)
        go (parsed a vs) e = absurd (let h = sh.shorter us vs a e in omega arith)
    many_same (suc n) zero us l k = go (R us) refl
      where
        go : (x : Parsed A) → R us ≡ x → many_within (suc n) R us ≡ many_within zero R us
        go fails e = many_fails (suc n) us e ∙ sym (many_fails zero us e)
        go (parsed a vs) e = absurd (let h = sh.shorter us vs a e in omega arith)
    many_same (suc n) (suc m) us l k = go (R us) refl (λ vs h i. many_same n m vs h i)
      where
        both : (a : A) (vs : List Symbol) → R us ≡ parsed a vs → many_within n R vs ≡ many_within m R vs → (y : Parsed (List A)) → many_within n R vs ≡ y → many_within (suc n) R us ≡ many_within (suc m) R us
        both a vs e f fails h = absurd (many_never n vs h)
        both a vs e f (parsed xs ws) h = many_one n us vs ws a xs e h ∙ sym (many_one m us vs ws a xs e (sym f ∙ h))

        go : (x : Parsed A) → R us ≡ x → ((vs : List Symbol) → length vs ≤ n → length vs ≤ m → many_within n R vs ≡ many_within m R vs) → many_within (suc n) R us ≡ many_within (suc m) R us
        go fails e f = many_fails (suc n) us e ∙ sym (many_fails (suc m) us e)
        go (parsed a vs) e f =
            let h = sh.shorter us vs a e in
            both a vs e (f vs (omega arith) (omega arith)) (many_within n R vs) refl

    many_cons : (us vs ws : List Symbol) (a : A) (xs : List A) → R us ≡ parsed a vs → many R vs ≡ parsed xs ws → many R us ≡ parsed (a ∷ xs) ws
    unfolding many
    many_cons us vs ws a xs e f = go (length us) refl
      where
        go : (n : ℕ) → length us ≡ n → many_within (length us) R us ≡ parsed (a ∷ xs) ws
        go zero h = absurd (let k = sh.shorter us vs a e in omega arith)
        go (suc n) h =
            let k = sh.shorter us vs a e in
            rw h (many_one n us vs ws a xs e (many_same n (length vs) vs (omega arith) (omega arith) ∙ f))

    -- from `at` on there is one, then as many as there are
    module _ (s : List ℕ) (at p q : ℕ) where
      many_outcome : (table : List (List ℕ)) (us : List Symbol) → Outcome Any s table (R us) (Some p) → Runs Any s (many R) p (Some q) → Outcome Any s table (many R us) (Some q)
      many_outcome table us (Outcome.done k c {ts} {a} _ d e) h = second (h.runs table k c ts d)
        where
          second : Outcome Any s table (many R (numbered table k c ts)) (Some q) → Outcome Any s table (many R us) (Some q)
          second (Outcome.done k₂ c₂ {a = xs} _ d₂ e₂) = Outcome.done k₂ c₂ Any.any d₂ (many_cons us _ _ a xs e e₂)

      pub many_more : Runs Any s R at (Some p) → Runs Any s (many R) p (Some q) → Runs Any s (many R) at (Some q)
      many_more m h = record { runs = λ table k c ts d. many_outcome table (numbered table k c ts) (m.runs table k c ts d) h }

  failed : {s : List ℕ} {table : List (List ℕ)} {x : Parsed A} → Outcome Any s table x None → x ≡ fails
  failed (Outcome.refused e) = e

  pub many_stops : (s : List ℕ) (at : ℕ) → Runs Any s R at None → Runs Any s (many R) at (Some at)
  unfolding many
  many_stops s at m = record { runs = λ table k c ts d. Outcome.done k c Any.any d (many_fails (length (numbered table k c ts)) (numbered table k c ts) (failed (m.runs table k c ts d))) }

-- a loop that takes one after the other: what is read from i on is what is read from `at` on
pub record Leads {A : Type 0} (R : Reader A) (s : List ℕ) (at i : ℕ) : Type 0 where
  pub on : at ≤ i
  pub back : (q : ℕ) → Runs Any s (many R) i (Some q) → Runs Any s (many R) at (Some q)

module _ {A : Type 0} (R : Reader A) (sh : Shortens R) (s : List ℕ) (at : ℕ) where
  leads_start : Leads R s at at
  leads_start = record { on = omega arith; back = λ q h. h }

  module _ (i : ℕ) (w : Leads R s at i) where
    leads_stop : (x : Option ℕ) → ReadsOn R s i x → x ≡ None → Passes (many R) s at i
    leads_stop x m e = record { says = w.back i (many_stops R s i (rw e at m.says)); on = w.on }

    leads_again : (x : Option ℕ) (p : ℕ) → ReadsOn R s i x → x ≡ Some p → Leads R s at p
    leads_again x p m e = record {
      on = omega (arith, w.on, moved x m.on e);
      back = λ q h. w.back q (many_more R sh s i p q (rw e at m.says) h);
    }

pub leads_less : {A : Type 0} (R : Reader A) (s : List ℕ) (i p : ℕ) (x : Option ℕ) → ReadsOn R s i x → x ≡ Some p → length s - p < length s - i
leads_less R s i p x m e = omega (arith, moved x m.on e)

name_shortens : Shortens dot_name
unfolding dot_name fixed_number
name_shortens = record { shorter = go }
  where
    go : (ts us : List Symbol) (a : ℕ) → P.◌>>◌ (this Fixed.dot) a_name ts ≡ parsed a us → length us < length ts
    go ts us a e = then_this Fixed.dot a_name ts (omega arith) e λ vs t q. rw (t, a_name_in vs q) (omega arith)

up_shortens : Shortens dot_up
unfolding dot_up fixed_number
up_shortens = record { shorter = go }
  where
    go : (ts us : List Symbol) (a : Fixed) → P.◌>>◌ (this Fixed.dot) (this Fixed.up) ts ≡ parsed a us → length us < length ts
    go ts us a e = then_this Fixed.dot (this Fixed.up) ts (omega arith) e λ vs t q. rw (t, this_in Fixed.up a vs us (omega arith) q) (omega arith)

module _ (s : List ℕ) (at : ℕ) where
  pub names_start : Leads dot_name s at at
  names_start = leads_start dot_name name_shortens s at

  pub ups_start : Leads dot_up s at at
  ups_start = leads_start dot_up up_shortens s at

  module _ (i : ℕ) where
    pub names_stop : Leads dot_name s at i → (x : Option ℕ) → ReadsOn dot_name s i x → x ≡ None → Passes names s at i
    unfolding names dot_name
    names_stop w x m e = leads_stop dot_name name_shortens s at i w x m e

    pub names_again : Leads dot_name s at i → (x : Option ℕ) (p : ℕ) → ReadsOn dot_name s i x → x ≡ Some p → Leads dot_name s at p
    names_again w x p m e = leads_again dot_name name_shortens s at i w x p m e

    pub ups_stop : Leads dot_up s at i → (x : Option ℕ) → ReadsOn dot_up s i x → x ≡ None → Passes more_ups s at i
    unfolding more_ups
    ups_stop w x m e = leads_stop dot_up up_shortens s at i w x m e

    pub ups_again : Leads dot_up s at i → (x : Option ℕ) (p : ℕ) → ReadsOn dot_up s i x → x ≡ Some p → Leads dot_up s at p
    ups_again w x p m e = leads_again dot_up up_shortens s at i w x p m e

-- ---- Paths

ups_counted : (s : List ℕ) (p q : ℕ) → Passes more_ups s p q → Runs Any s further_ups p (Some q)
unfolding further_ups more_ups dot_up
ups_counted s p q m = map_runs s (many (P.◌>>◌ (this Fixed.dot) (this Fixed.up))) length p (Some q) m.says

module _ (s : List ℕ) (at : ℕ) (x : Option ℕ) where
  pub self_some : Expects s 1 1 at x → (p q : ℕ) → x ≡ Some p → Passes names s p q → Reads self_path s at (Some q)
  unfolding self_path fixed_number
  self_some ex p q e m = record {
    says = go_then s (this Fixed.self) at p x (Some q) e (this_at Fixed.self (omega arith) s at x ex) _ (map_runs s names Written.self p (Some q) m.says);
    on = Onward.goes {p = q} (omega (arith, m.on, moved x ex.on e));
  }

  pub up_some : Expects s 8 8 at x → (p q u : ℕ) → x ≡ Some p → Passes more_ups s p q → Passes names s q u → Reads up_path s at (Some u)
  unfolding up_path fixed_number
  up_some ex p q u e m h = record {
    says = go_then s (this Fixed.up) at p x (Some u) e (this_at Fixed.up (omega arith) s at x ex) _
        (go_on s further_ups p q (Some q) (Some u) refl (ups_counted s p q m) _ (λ k. map_runs s names (Written.up k) q (Some u) h.says));
    on = Onward.goes {p = u} (omega (arith, m.on, h.on, moved x ex.on e));
  }

pub path_self : (s : List ℕ) (at k : ℕ) (r : Option ℕ) → KindAt s at k → k ≡ 1 → Reads self_path s at r → Reads a_path s at r
unfolding a_path self_path fixed_number
path_self s at k r h e m = record {
  says = or_only Any s at _ _ r m.says (stop_then s (this Fixed.up) at None refl (not_this Fixed.up (omega arith) s at k h (λ f. none k e f)) _);
  on = m.on;
}
  where
    none : (k : ℕ) → k ≡ 1 → k ≡ 8 → ⊥
    none k e f = omega arith

pub path_up : (s : List ℕ) (at k : ℕ) (r : Option ℕ) → KindAt s at k → (k ≡ 1 → ⊥) → Reads up_path s at r → Reads a_path s at r
unfolding a_path up_path fixed_number
path_up s at k r h e m = record {
  says = or_else Any s at _ _ r (stop_then s (this Fixed.self) at None refl (not_this Fixed.self (omega arith) s at k h e) _) m.says;
  on = m.on;
}

-- a path by its first token
module _ (s : List ℕ) (at : ℕ) (t : Seen) (h : Sees s at t) where
  pub seen_self : t.kind ≡ 1 → (q : ℕ) → Passes names s t.end q → Reads a_path s at (Some q)
  seen_self e q m =
      path_self s at t.kind _ h.kind_is e
      (self_some s at (Some t.end) (h.end_is 1 1 (omega arith) (omega arith) (omega arith)) t.end q refl m)

  pub seen_up : (t.kind ≡ 1 → ⊥) → t.kind ≡ 8 → (q u : ℕ) → Passes more_ups s t.end q → Passes names s q u → Reads a_path s at (Some u)
  seen_up n e q u m l =
      path_up s at t.kind _ h.kind_is n
      (up_some s at (Some t.end) (h.end_is 8 8 (omega arith) (omega arith) (omega arith)) t.end q u refl m l)

  pub seen_none : (t.kind ≡ 1 → ⊥) → (t.kind ≡ 8 → ⊥) → Reads a_path s at None
  unfolding up_path fixed_number
  seen_none n o =
      path_up s at t.kind _ h.kind_is n
      (record { says = stop_then s (this Fixed.up) at None refl (not_this Fixed.up (omega arith) s at t.kind h.kind_is o) _; on = Onward.stops })
