-- Document 02, A1: a token that is always the same bytes is read again where a space, a dot or nothing follows. By computation. Assumes nothing.
use mathlib.Core.Path.{refl}
use Rattle.framed.specs.Bytes.{Classes}
use Rattle.framed.specs.Tokens.{Token, Fixed, Operator, Tokens}
use Rattle.framed.specs.Writer.{Writer}
use Rattle.token_spelling.specs.Spelling.{Back, FixedBack, CodeBack}
use Rattle.token_spelling.proofs.Lawful.{anchored, by_anchor, by_stop}

code_anchored : (c : Classes) → Back (anchored c) Token.code
unfolding anchored Tokens Writer
code_anchored c = by_stop _ refl (λ bs. refl) (λ bs. refl)

fixed_anchored : (c : Classes) (f : Fixed) → Back (anchored c) (Token.fixed f)
unfolding anchored Tokens Writer
fixed_anchored c Fixed.frame = by_stop _ refl (λ bs. refl) (λ bs. refl)
fixed_anchored c Fixed.self = by_stop _ refl (λ bs. refl) (λ bs. refl)
fixed_anchored c Fixed.show = by_stop _ refl (λ bs. refl) (λ bs. refl)
fixed_anchored c Fixed.jump = by_stop _ refl (λ bs. refl) (λ bs. refl)
fixed_anchored c Fixed.ifeq = by_stop _ refl (λ bs. refl) (λ bs. refl)
fixed_anchored c Fixed.colon = by_stop _ refl (λ bs. refl) (λ bs. refl)
fixed_anchored c Fixed.assign = by_stop _ refl (λ bs. refl) (λ bs. refl)
fixed_anchored c Fixed.dot = by_stop _ refl (λ bs. refl) (λ bs. refl)
fixed_anchored c Fixed.up = by_stop _ refl (λ bs. refl) (λ bs. refl)
fixed_anchored c Fixed.bang = by_stop _ refl (λ bs. refl) (λ bs. refl)
fixed_anchored c Fixed.semicolon = by_stop _ refl (λ bs. refl) (λ bs. refl)
fixed_anchored c Fixed.comma = by_stop _ refl (λ bs. refl) (λ bs. refl)
fixed_anchored c Fixed.open_square = by_stop _ refl (λ bs. refl) (λ bs. refl)
fixed_anchored c Fixed.close_square = by_stop _ refl (λ bs. refl) (λ bs. refl)
fixed_anchored c Fixed.open_curly = by_stop _ refl (λ bs. refl) (λ bs. refl)
fixed_anchored c Fixed.close_curly = by_stop _ refl (λ bs. refl) (λ bs. refl)
fixed_anchored c (Fixed.operator Operator.plus) = by_stop _ refl (λ bs. refl) (λ bs. refl)
fixed_anchored c (Fixed.operator Operator.minus) = by_stop _ refl (λ bs. refl) (λ bs. refl)
fixed_anchored c (Fixed.operator Operator.times) = by_stop _ refl (λ bs. refl) (λ bs. refl)
fixed_anchored c (Fixed.operator Operator.over) = by_stop _ refl (λ bs. refl) (λ bs. refl)
fixed_anchored c (Fixed.operator Operator.less) = by_stop _ refl (λ bs. refl) (λ bs. refl)
fixed_anchored c (Fixed.operator Operator.join) = by_stop _ refl (λ bs. refl) (λ bs. refl)
fixed_anchored c (Fixed.operator Operator.equal) = by_stop _ refl (λ bs. refl) (λ bs. refl)
fixed_anchored c (Fixed.operator Operator.and) = by_stop _ refl (λ bs. refl) (λ bs. refl)
fixed_anchored c (Fixed.operator Operator.or) = by_stop _ refl (λ bs. refl) (λ bs. refl)

pub code_back : CodeBack
code_back = by_anchor (λ c. Back c Token.code) code_anchored

pub fixed_back : FixedBack
fixed_back = by_anchor (λ c. (f : Fixed) → Back c (Token.fixed f)) fixed_anchored
