-- Laws of the steps, one for each way through each function. Assumes nothing.
use mathlib.Core.Path.{◌≡◌, refl, sym, ap, ◌∙◌}
use mathlib.Core.Bool.{true, false}
use mathlib.Core.List.{List, [], ◌∷◌}
use Prim.Native.Nat.{ℕ, ◌+◌, ◌<◌, ◌≤◌}
use native.Mathlib.Omega.{arith}
use lib.ListN.{length, set}
use borrow.Author.Tests.{lt-ltb, le-ltb}
use Rattle.framed.specs.Bytes.{class}
use Rattle.framed.specs.Tokens.{Token, Tokens⊢, end, token, next}
use Rattle.framed.proofs.TokensExact.{end≢token, no_token≢token, rest_inj}
use Rattle.source.specs.Positions.{rest}
use Rattle.token.specs.Reading.{token_of, token_kind, meant, TokenAt, Spot}
use Rattle.token.specs.declared.TokenRead.{TokenRead}
use Rattle.token.proofs.KindNumbers.{kind_is}
use Rattle.token.proofs.Unique.{token_inj}
use Rattle.token.proofs.Answers.{spot_of}
use Rattle.emit_steps.specs.declared.Place.{Place}
use Rattle.emit_steps.specs.Steps.{one_more, inner_slot, first_kind, Past, Pass, PassTwo, PassFrame}

-- ---- Numbers and places

pub more_one : (n : ℕ) → n < 4294967295 → n + 1 ≡ one_more n
unfolding one_more
more_one n l = omega arith

-- ---- One token

pub first_token : {bs : List ℕ} {t : Token} {ts : List Token} → Tokens⊢ class bs (t ∷ ts) → (q : List ℕ) × (next class bs ≡ token t q) × Tokens⊢ class q ts
first_token (Tokens⊢.more {rest = q} e d) = (q, e, d)

at_last : {bs : List ℕ} → Tokens⊢ class bs [] → next class bs ≡ end
at_last (Tokens⊢.at_end e) = e

module _ (s : List ℕ) (at k : ℕ) (r : TokenRead) (found : TokenAt class s at r) where
  no_first : ((k : ℕ) (n : ℕ) (i : ℕ) (j : ℕ) → r ≡ TokenRead.Token k n i j → ⊥) → (t : Token) (ts : List Token) → Tokens⊢ class (rest s at) (t ∷ ts) → ⊥
  unfolding meant
  no_first o t ts d = go r found.says o
    where
      go : (q : TokenRead) → next class (rest s at) ≡ meant s q → ((k : ℕ) (n : ℕ) (i : ℕ) (j : ℕ) → q ≡ TokenRead.Token k n i j → ⊥) → ⊥
      go TokenRead.End h o = end≢token (sym h ∙ (first_token d).1)
      go TokenRead.NoToken h o = no_token≢token (sym h ∙ (first_token d).1)
      go (TokenRead.Token j a p x) h o = (o j a p x refl)

  pub pass_none : ((k : ℕ) (n : ℕ) (i : ℕ) (j : ℕ) → r ≡ TokenRead.Token k n i j → ⊥) → Pass s at k at
  pass_none o = record { taken = λ t ts d e. absurd (no_first o t ts d); left = λ ts d e. refl; on = omega arith }

  module _ (j a p w : ℕ) (h : r ≡ TokenRead.Token j a p w) where
    spot : Spot at (length s) j a p
    spot = spot_of r found.on h

    says : next class (rest s at) ≡ token (token_of s j a p w) (rest s p)
    unfolding meant
    says = found.says ∙ ap (meant s) h

    kind_first : (t : Token) (ts : List Token) → Tokens⊢ class (rest s at) (t ∷ ts) → token_kind t ≡ j
    kind_first t ts d = ap token_kind (token_inj (sym (first_token d).1 ∙ says)) ∙ kind_is s a p w j spot.known

    kind_all : (ts : List Token) → Tokens⊢ class (rest s at) ts → first_kind ts ≡ j
    unfolding first_kind
    kind_all [] d = absurd (end≢token (sym (at_last d) ∙ says))
    kind_all (t ∷ ts) d = kind_first t ts d

    after_first : (t : Token) (ts : List Token) → Tokens⊢ class (rest s at) (t ∷ ts) → Tokens⊢ class (rest s p) ts
    after_first t ts d = rw (rest_inj (sym (first_token d).1 ∙ says)) at (first_token d).2

    pub pass_one : j ≡ k → Pass s at k p
    pass_one e = record {
      taken = λ t ts d f. record { further = omega (arith, spot.begins, spot.more); reads = after_first t ts d };
      left = λ ts d f. absurd (f (kind_all ts d ∙ e));
      on = omega (arith, spot.begins, spot.more);
    }

    pub pass_other : (j ≡ k → ⊥) → Pass s at k at
    pass_other n = record {
      taken = λ t ts d f. absurd (n (sym (kind_first t ts d) ∙ f));
      left = λ ts d f. refl;
      on = omega arith;
    }

-- ---- Two tokens

back : (a b : ℕ) → b ≤ a → a < b → ⊥
back a b l h = omega arith

same : (a b : ℕ) → a < b → b ≡ a → ⊥
same a b l e = omega arith

nowhere : (s : List ℕ) (at k p : ℕ) → Pass s at k p → p ≤ at → (t : Token) (ts : List Token) → Tokens⊢ class (rest s at) (t ∷ ts) → token_kind t ≡ k → ⊥
nowhere s at k p x l t ts d e = back at p l (x.taken t ts d e).further

module _ (s : List ℕ) (at j k p : ℕ) (x : Pass s at j p) where
  pub two_none : p ≤ at → PassTwo s at j k at
  two_none l = record {
    taken = λ t u ts d e f. absurd (nowhere s at j p x l t (u ∷ ts) d e);
    left = λ ts d n. refl;
    half = λ t ts d e n. refl;
    on = omega arith;
  }

  module _ (l : at < p) (q : ℕ) (y : Pass s p k q) where
    pub two_half : q ≤ p → PassTwo s at j k at
    two_half m = record {
      taken = λ t u ts d e f. absurd (nowhere s p k q y m u ts (x.taken t (u ∷ ts) d e).reads f);
      left = λ ts d n. refl;
      half = λ t ts d e n. refl;
      on = omega arith;
    }

    further_on : {ts : List Token} → Past s p ts q → Past s at ts q
    further_on z = record { further = omega (arith, z.further); reads = z.reads }

    pub two_both : p < q → PassTwo s at j k q
    two_both m = record {
      taken = λ t u ts d e f. further_on (y.taken u ts (x.taken t (u ∷ ts) d e).reads f);
      left = λ ts d n. absurd (same at p l (x.left ts d n));
      half = λ t ts d e n. absurd (same p q m (y.left ts (x.taken t ts d e).reads n));
      on = omega arith;
    }

-- ---- `frame` `:` `[`

module _ (s : List ℕ) (at p : ℕ) (x : PassTwo s at 0 5 p) where
  stayed : ((t u v : Token) (ts : List Token) → Tokens⊢ class (rest s at) (t ∷ u ∷ v ∷ ts) → token_kind t ≡ 0 → token_kind u ≡ 5 → token_kind v ≡ 12 → ⊥) → PassFrame s at at
  stayed none = record {
    taken = λ t u v ts d e f g. absurd (none t u v ts d e f g);
    left = λ ts d n. refl;
    one = λ t ts d e n. refl;
    two = λ t u ts d e f n. refl;
    on = omega arith;
  }

  pub frame_none : p ≤ at → PassFrame s at at
  frame_none l = stayed (λ t u v ts d e f g. back at p l (x.taken t u (v ∷ ts) d e f).further)

  module _ (l : at < p) (q : ℕ) (y : Pass s p 12 q) where
    pub frame_half : q ≤ p → PassFrame s at at
    frame_half m = stayed (λ t u v ts d e f g. nowhere s p 12 q y m v ts (x.taken t u (v ∷ ts) d e f).reads g)

    pub frame_all : p < q → PassFrame s at q
    frame_all m = record {
      taken = λ t u v ts d e f g. let z = y.taken v ts (x.taken t u (v ∷ ts) d e f).reads g in record { further = omega (arith, z.further); reads = z.reads };
      left = λ ts d n. absurd (same at p l (x.left ts d n));
      one = λ t ts d e n. absurd (same at p l (x.half t ts d e n));
      two = λ t u ts d e f n. absurd (same p q m (y.left ts (x.taken t u ts d e f).reads n));
      on = omega arith;
    }

-- ---- The place within a slot

module _ (q : Place) (n : ℕ) where
  pub slot_in_code : q.in_code ≡ true → q ≡ inner_slot q n
  unfolding inner_slot
  slot_in_code e = rw e

  module _ (e : q.in_code ≡ false) where
    pub slot_deep : 16 ≤ q.depth → q ≡ inner_slot q n
    unfolding inner_slot
    slot_deep l = rw (e, le-ltb q.depth 16 l)

    pub slot_deeper : q.depth < 16 → (i : ℕ) → i ≡ q.depth →
        ◌≡◌ {A = Place} (record { in_code = false; depth = q.depth + 1; names = set q.names i n }) (inner_slot q n)
    unfolding inner_slot
    slot_deeper l i ei = rw (e, lt-ltb q.depth 16 l, ei)
