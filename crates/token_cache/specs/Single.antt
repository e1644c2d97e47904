-- That tokens can be read from a cache has one proof at most, so it may be a ghost field. Assumes nothing.
use Rattle.std.specs.Prelude.{◌≡◌, refl, List, ◌⊎◌, ℕ, ℤ}
use Rattle.std.proofs.Math.Logic.{inl, inr}
use Rattle.std.specs.Coded.{Coded, Coded-set, code_by, coded_ℕ, coded_ℤ, coded_list, coded×, coded⊎}
use Rattle.std.proofs.Props.{props}
use Rattle.framed.specs.Bytes.{Classes}
use Rattle.framed.specs.Tokens.{Token, Fixed, Operator, Read, end, no_token, token}
use Rattle.token.specs.Reading.{fixed_kind, fixed_of, fixed_list, operator_kind, Spot, Within, TokenAt}
use Rattle.token.specs.declared.TokenRead.{TokenRead}
use Rattle.token_cache.specs.Cache.{Cached}

fixed_back : (f : Fixed) → fixed_of (fixed_kind f) ≡ f
unfolding fixed_of fixed_list fixed_kind operator_kind
fixed_back Fixed.frame = refl
fixed_back Fixed.self = refl
fixed_back Fixed.show = refl
fixed_back Fixed.jump = refl
fixed_back Fixed.ifeq = refl
fixed_back Fixed.colon = refl
fixed_back Fixed.assign = refl
fixed_back Fixed.dot = refl
fixed_back Fixed.up = refl
fixed_back Fixed.bang = refl
fixed_back Fixed.semicolon = refl
fixed_back Fixed.comma = refl
fixed_back Fixed.open_square = refl
fixed_back Fixed.close_square = refl
fixed_back Fixed.open_curly = refl
fixed_back Fixed.close_curly = refl
fixed_back (Fixed.operator Operator.plus) = refl
fixed_back (Fixed.operator Operator.minus) = refl
fixed_back (Fixed.operator Operator.times) = refl
fixed_back (Fixed.operator Operator.over) = refl
fixed_back (Fixed.operator Operator.less) = refl
fixed_back (Fixed.operator Operator.join) = refl
fixed_back (Fixed.operator Operator.equal) = refl
fixed_back (Fixed.operator Operator.and) = refl
fixed_back (Fixed.operator Operator.or) = refl

abbrev Parts : Type 0
Parts = List ℕ ⊎ (ℤ ⊎ (List ℕ ⊎ (ℕ ⊎ ℕ)))

parts : Token → Parts
parts (Token.name w) = inl w
parts (Token.integer z) = inr (inl z)
parts (Token.string w) = inr (inr (inl w))
parts Token.code = inr (inr (inr (inl 0)))
parts (Token.fixed f) = inr (inr (inr (inr (fixed_kind f))))

whole : Parts → Token
whole (inl w) = Token.name w
whole (inr (inl z)) = Token.integer z
whole (inr (inr (inl w))) = Token.string w
whole (inr (inr (inr (inl _)))) = Token.code
whole (inr (inr (inr (inr k)))) = Token.fixed (fixed_of k)

whole-parts : (t : Token) → whole (parts t) ≡ t
unfolding whole parts
whole-parts (Token.name w) = refl
whole-parts (Token.integer z) = refl
whole-parts (Token.string w) = refl
whole-parts Token.code = refl
whole-parts (Token.fixed f) = Prim.rw (fixed_back f)

coded_token : Coded Token
coded_token = code_by Parts (coded⊎ (coded_list coded_ℕ) (coded⊎ coded_ℤ (coded⊎ (coded_list coded_ℕ) (coded⊎ coded_ℕ coded_ℕ)))) parts whole whole-parts

abbrev Reads : Type 0
Reads = ℕ ⊎ (ℕ ⊎ (Token × List ℕ))

cases : Read → Reads
cases end = inl 0
cases no_token = inr (inl 0)
cases (token t r) = inr (inr (t, r))

read : Reads → Read
read (inl _) = end
read (inr (inl _)) = no_token
read (inr (inr x)) = token x.0 x.1

read-cases : (r : Read) → read (cases r) ≡ r
unfolding read cases
read-cases end = refl
read-cases no_token = refl
read-cases (token t r) = refl

Read-set : IsSet Read
Read-set = Coded-set (code_by Reads (coded⊎ coded_ℕ (coded⊎ coded_ℕ (coded× coded_token (coded_list coded_ℕ)))) cases read read-cases)

Spot-prop : (at len k a p : ℕ) → IsProp (Spot at len k a p)
Spot-prop at len k a p = Prim.hlevel props

Within-prop : (at len : ℕ) (r : TokenRead) → IsProp (Within at len r)
Within-prop at len TokenRead.End Within.at_end Within.at_end = refl
Within-prop at len TokenRead.NoToken Within.refused Within.refused = refl
Within-prop at len (TokenRead.Token k a p w) (Within.within x) (Within.within y) = Prim.rw (Spot-prop at len k a p x y)

TokenAt-prop : (c : Classes) (s : List ℕ) (at : ℕ) (r : TokenRead) → IsProp (TokenAt c s at r)
TokenAt-prop c s at r = Prim.hlevel (props, Read-set, Within-prop)

pub Cached-prop : (c s : List ℕ) → IsProp (Cached c s)
Cached-prop c s = Prim.hlevel (props, TokenAt-prop)
