-- What an operator gives is an integer in range, or by `#` a text of at most 64 bytes. Assumes nothing.
use Prim.Native.Nat.{ℕ, zero, suc, ◌≤◌}
use mathlib.Core.Path.{◌≡◌, refl}
use mathlib.Core.Bool.{Bool, true, false}
use mathlib.Core.List.{List}
use native.Mathlib.Omega.{arith}
use lib.IntN.{ℤ, pos, negsuc, ◌+ℤ◌, ◌-ℤ◌, ◌*ℤ◌}
use lib.Signed.{lt_z}
use lib.Dec.{leb}
use lib.ListN.{length}
use borrow.Author.Tests.{leb-true}
use Rattle.framed.specs.declared.Value.{Value}
use Rattle.framed.specs.Common.{when◌then◌else◌}
use Rattle.framed.specs.Tokens.{Operator, in_range}
use Rattle.framed.specs.Values.{join_bytes}
use Rattle.framed.specs.Equality.{Constants}
use Rattle.framed.specs.Machine as M
use Rattle.framed.specs.Machine.{Result, gives, ends, integer_in, quotient, is_join}
use Rattle.bounded.specs.Operations.{Product, number, text, ranged, measured, flag, operated}

-- at most c texts
pub data Modest (c : ℕ) : Result Product → Type 0 where
  an_end : {e : ℕ} → Modest c (ends e)
  a_number : {z : ℤ} → in_range z ≡ true → Modest c (gives (number z))
  a_text : {bs : List ℕ} → 1 ≤ c → length bs ≤ 64 → Modest c (gives (text bs))

ranged_modest : {c : ℕ} (z : ℤ) → Modest c (ranged z)
unfolding ranged
ranged_modest {c} z = step (in_range z) refl
  where
    step : (t : Bool) → in_range z ≡ t → Modest c (when t then gives (number z) else ends 33)
    step true e = a_number e
    step false e = an_end

measured_modest : (bs : List ℕ) → Modest 1 (measured bs)
unfolding measured
measured_modest bs = step (leb (length bs) 64) refl
  where
    step : (t : Bool) → leb (length bs) 64 ≡ t → Modest 1 (when t then gives (text bs) else ends 34)
    step true e = a_text (omega arith) (leb-true (length bs) 64 e)
    step false e = an_end

flag_modest : {c : ℕ} (b : Bool) → Modest c (gives (flag b))
unfolding flag
flag_modest true = a_number refl
flag_modest false = a_number refl

integers_modest : {c : ℕ} (v w : Value) (f : ℤ → ℤ → Result Product) → ((y z : ℤ) → Modest c (f y z)) →
    Modest c (M.◌>>=◌ (integer_in v) (λ y. M.◌>>=◌ (integer_in w) (λ z. f y z)))
unfolding M.◌>>=◌ integer_in
integers_modest (Value.Int y) (Value.Int z) f k = k y z
integers_modest (Value.Int y) (Value.Text t) f k = an_end
integers_modest (Value.Int y) (Value.Code c) f k = an_end
integers_modest (Value.Int y) (Value.Frame n) f k = an_end
integers_modest (Value.Text t) w f k = an_end
integers_modest (Value.Code c) w f k = an_end
integers_modest (Value.Frame n) w f k = an_end

over_modest : {c : ℕ} (y z : ℤ) → Modest c (M.◌>>=◌ (quotient y z) (λ q. ranged q))
unfolding quotient M.◌>>=◌
over_modest y (pos zero) = an_end
over_modest y (pos (suc n)) = ranged_modest _
over_modest y (negsuc n) = ranged_modest _

pub operated_modest : (cs : Constants) (made : List (List ℕ)) (o : Operator) (v w : Value) → Modest (is_join o) (operated cs made o v w)
unfolding operated is_join
operated_modest cs made Operator.plus v w = integers_modest v w _ (λ y z. ranged_modest (y +ℤ z))
operated_modest cs made Operator.minus v w = integers_modest v w _ (λ y z. ranged_modest (y -ℤ z))
operated_modest cs made Operator.times v w = integers_modest v w _ (λ y z. ranged_modest (y *ℤ z))
operated_modest cs made Operator.over v w = integers_modest v w _ (λ y z. over_modest y z)
operated_modest cs made Operator.less v w = integers_modest v w _ (λ y z. flag_modest (lt_z y z))
operated_modest cs made Operator.join v w = measured_modest (join_bytes cs.literals made v w)
operated_modest cs made Operator.equal v w = flag_modest _
operated_modest cs made Operator.and v w = flag_modest _
operated_modest cs made Operator.or v w = flag_modest _
