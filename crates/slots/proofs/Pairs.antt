-- The slots of a frame among tokens and among the symbols that number them, one by one. Assumes nothing.
use mathlib.Core.Path.{◌≡◌}
use mathlib.Core.Bool.{Bool, true, false}
use mathlib.Core.List.{List, [], ◌∷◌}
use Prim.Native.Nat.{ℕ, suc, ◌≤◌}
use native.Mathlib.Omega.{arith}
use lib.Dec.{eqb}
use borrow.Author.Tests.{ne_eqb}
use Rattle.framed.specs.Common.{when◌then◌else◌, any, same}
use Rattle.framed.specs.Tokens.{Token, Fixed}
use Rattle.framed.specs.Symbols.{Symbol, number_in, numbered}
use Rattle.token.specs.Reading.{fixed_kind, token_kind}
use Rattle.scan.specs.Scan.{depth_after}
use Rattle.sweep.specs.Kinds.{kind_of}
use Rattle.sweep.proofs.Numbered.{fixed_below}
use Rattle.slots.specs.Own.{closes, names_slot, Own, own, own_slots}
use Rattle.slots.proofs.Numbers.{Known}

pub data Pairs (table : List (List ℕ)) : List (Own Token) → List (Own Symbol) → Type 0 where
  none : Pairs table [] []
  more : {w : List ℕ} {ts : List Token} {os : List (Own Token)} {ps : List (Own Symbol)} (k c : ℕ) → any (same w) table ≡ true → Known table ts → Pairs table os ps
      → Pairs table (own (Token.name w) ts ∷ os) (own (Symbol.name (number_in table w)) (numbered table k c ts) ∷ ps)

module _ (table : List (List ℕ)) where
  -- a fixed token names no slot
  other : (d l : ℕ) (f : Fixed) → names_slot d l (fixed_kind f) ≡ false
  unfolding names_slot
  other d l f = rw (ne_eqb (fixed_kind f) 25 (low (fixed_below f)))
    where
      low : {n : ℕ} → n ≤ 24 → (n ≡ 25 → ⊥)
      low l e = omega arith

  fixed_pairs : (d l : ℕ) (f : Fixed) (ts : List Token) (us : List Symbol)
      → Pairs table (own_slots token_kind (depth_after d (fixed_kind f)) (fixed_kind f) ts) (own_slots kind_of (depth_after d (fixed_kind f)) (fixed_kind f) us)
      → Pairs table (own_slots token_kind d l (Token.fixed f ∷ ts)) (own_slots kind_of d l (Symbol.fixed f ∷ us))
  unfolding own_slots kind_of token_kind
  fixed_pairs d l f ts us q = rw (other d l f) (go (closes d (fixed_kind f)) q)
    where
      go : (t : Bool)
          → Pairs table (own_slots token_kind (depth_after d (fixed_kind f)) (fixed_kind f) ts) (own_slots kind_of (depth_after d (fixed_kind f)) (fixed_kind f) us)
          → Pairs table (when t then [] else own_slots token_kind (depth_after d (fixed_kind f)) (fixed_kind f) ts) (when t then [] else own_slots kind_of (depth_after d (fixed_kind f)) (fixed_kind f) us)
      go true q = Pairs.none
      go false q = q

  pub pairs : (d l k c : ℕ) {ts : List Token} → Known table ts → Pairs table (own_slots token_kind d l ts) (own_slots kind_of d l (numbered table k c ts))
  unfolding own_slots numbered kind_of token_kind closes names_slot depth_after
  pairs d l k c Known.nothing = Pairs.none
  pairs d l k c (Known.name {w} {ts} e n) = go (when eqb l 7 then false else eqb d 0) (pairs d 25 k c n)
    where
      go : (t : Bool) → Pairs table (own_slots token_kind d 25 ts) (own_slots kind_of d 25 (numbered table k c ts))
          → Pairs table (when t then own (Token.name w) ts ∷ own_slots token_kind d 25 ts else own_slots token_kind d 25 ts)
          (when t then own (Symbol.name (number_in table w)) (numbered table k c ts) ∷ own_slots kind_of d 25 (numbered table k c ts) else own_slots kind_of d 25 (numbered table k c ts))
      go true q = Pairs.more k c e n q
      go false q = q
  pairs d l k c (Known.integer n) = pairs d 26 k c n
  pairs d l k c (Known.string n) = pairs d 27 (suc k) c n
  pairs d l k c (Known.code n) = pairs d 28 k (suc c) n
  pairs d l k c (Known.fixed {f} {ts} n) = fixed_pairs d l f ts (numbered table k c ts) (pairs (depth_after d (fixed_kind f)) (fixed_kind f) k c n)
