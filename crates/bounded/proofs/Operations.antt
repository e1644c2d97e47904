-- The operators: `framed`'s `operate` is `operated`, then a text is kept; what an operator gives is in range, or a short text that keeps the string rule. Assumes nothing.
use mathlib.Core.Path.{◌≡◌, refl, sym, subst}
use mathlib.Core.Logic.{⊎_elim}
use mathlib.Core.Bool.{Bool, true, false}
use mathlib.Core.List.Memᴰ
use mathlib.Core.List.{List, [], ◌∷◌, ◌++◌}
use Prim.Native.Nat.{ℕ, zero, suc, ◌+◌, ◌/◌, ◌%◌, ◌≤◌, ◌<◌}
use native.Mathlib.Nat.{mod-lt}
use native.Mathlib.Omega.{arith}
use lib.IntN.{ℤ, pos, negsuc, ◌+ℤ◌, ◌-ℤ◌, ◌*ℤ◌}
use lib.Signed.{lt_z}
use lib.ListN.{length, get_or}
use lib.Dec.{leb, ltb}
use borrow.Author.Tests.{leb-true, ltb-true, le-leb, ne_eqb}
use Rattle.framed.specs.declared.Value.{Value}
use Rattle.framed.specs.declared.Text.{Text}
use Rattle.framed.specs.Common.{when◌then◌else◌, bytes}
use Rattle.framed.specs.Bytes.{string_byte}
use Rattle.framed.specs.Tokens.{Operator, in_range}
use Rattle.framed.specs.Values.{Heap, text_bytes, digits_within, decimal, shown, join_bytes, bit}
use Rattle.framed.specs.Equality.{Constants}
use Rattle.framed.specs.Machine.{Result, gives, ends, integer_in, integer_result, quotient, new_text, operate, Evaluated, is_join}
use Rattle.framed.specs.Machine as M
use Rattle.bounded.specs.Fits.{StringBytes}
use Rattle.bounded.specs.Operations.{Product, number, text, ranged, measured, flag, operated}
use Rattle.bounded.proofs.Views.{with_text}

-- ---- The unbounded machine keeps what an operator gives

unfoldable pub kept : Product → Heap → Evaluated
kept (number z) h = record { value = Value.Int z; heap = h }
kept (text bs) h = record { value = Value.Text (Text.Made (length h.texts)); heap = with_text bs h }

unfoldable pub keep : Result Product → Heap → Result Evaluated
keep (gives x) h = gives (kept x h)
keep (ends e) h = ends e

ranged_is : (z : ℤ) (h : Heap) → integer_result z h ≡ keep (ranged z) h
unfolding integer_result ranged keep kept
ranged_is z h = step (in_range z)
  where
    step : (t : Bool) → (when t then gives (record { value = Value.Int z; heap = h }) else ends 33) ≡ keep (when t then gives (number z) else ends 33) h
    step true = refl
    step false = refl

measured_is : (bs : List ℕ) (h : Heap) → new_text bs h ≡ keep (measured bs) h
unfolding new_text measured keep kept
measured_is bs h = step (leb (length bs) 64)
  where
    step : (t : Bool) →
        (when t then gives (record { value = Value.Text (Text.Made (length h.texts)); heap = with_text bs h }) else ends 34)
        ≡ keep (when t then gives (text bs) else ends 34) h
    step true = refl
    step false = refl

flag_is : (b : Bool) (h : Heap) → gives (record { value = bit b; heap = h }) ≡ keep (gives (flag b)) h
unfolding flag bit keep kept
flag_is true h = refl
flag_is false h = refl

two_is : (h : Heap) (m n : Result ℤ) (f : ℤ → ℤ → Result Evaluated) (g : ℤ → ℤ → Result Product) → ((y z : ℤ) → f y z ≡ keep (g y z) h) →
    M.◌>>=◌ m (λ y. M.◌>>=◌ n (λ z. f y z)) ≡ keep (M.◌>>=◌ m (λ y. M.◌>>=◌ n (λ z. g y z))) h
unfolding M.◌>>=◌ keep
two_is h (gives y) (gives z) f g k = k y z
two_is h (gives y) (ends e) f g k = refl
two_is h (ends e) n f g k = refl

over_is : (h : Heap) (y z : ℤ) → M.◌>>=◌ (quotient y z) (λ q. integer_result q h) ≡ keep (M.◌>>=◌ (quotient y z) (λ q. ranged q)) h
unfolding M.◌>>=◌ keep
over_is h y z = step (quotient y z)
  where
    step : (m : Result ℤ) → M.◌>>=◌ m (λ q. integer_result q h) ≡ keep (M.◌>>=◌ m (λ q. ranged q)) h
    step (gives q) = ranged_is q h
    step (ends e) = refl

pub operate_is : (cs : Constants) (o : Operator) (v w : Value) (h : Heap) → operate cs o v w h ≡ keep (operated cs h.texts o v w) h
unfolding operate operated
operate_is cs Operator.plus v w h = two_is h (integer_in v) (integer_in w) _ _ (λ y z. ranged_is (y +ℤ z) h)
operate_is cs Operator.minus v w h = two_is h (integer_in v) (integer_in w) _ _ (λ y z. ranged_is (y -ℤ z) h)
operate_is cs Operator.times v w h = two_is h (integer_in v) (integer_in w) _ _ (λ y z. ranged_is (y *ℤ z) h)
operate_is cs Operator.over v w h = two_is h (integer_in v) (integer_in w) _ _ (λ y z. over_is h y z)
operate_is cs Operator.less v w h = two_is h (integer_in v) (integer_in w) _ _ (λ y z. flag_is (lt_z y z) h)
operate_is cs Operator.join v w h = measured_is (join_bytes cs.literals h.texts v w) h
operate_is cs Operator.equal v w h = flag_is _ h
operate_is cs Operator.and v w h = flag_is _ h
operate_is cs Operator.or v w h = flag_is _ h

-- ---- The string rule

string_append : (a b : List ℕ) → StringBytes a → StringBytes b → StringBytes (a ++ b)
unfolding StringBytes
string_append a b f g c i = ⊎_elim (λ j. f c j) (λ j. g c j) (Memᴰ.append_cases a i)

string_none : StringBytes []
unfolding StringBytes
string_none c i = absurd (Memᴰ.not-nil i)

string_cons : (b : ℕ) (bs : List ℕ) → string_byte b ≡ true → StringBytes bs → StringBytes (b ∷ bs)
unfolding StringBytes
string_cons b bs e f c i = ⊎_elim (λ q. subst (λ (n : ℕ). string_byte n ≡ true) (sym q) e) (λ j. f c j) (Memᴰ.cases_cons i)

code_string : StringBytes (bytes "code")
unfolding bytes
code_string = string_cons 99 _ refl (string_cons 111 _ refl (string_cons 100 _ refl (string_cons 101 _ refl string_none)))

frame_string : StringBytes (bytes "frame")
unfolding bytes
frame_string = string_cons 102 _ refl (string_cons 114 _ refl (string_cons 97 _ refl (string_cons 109 _ refl (string_cons 101 _ refl string_none))))

digit_byte : (d : ℕ) → d < 10 → string_byte (48 + d) ≡ true
digit_byte d l = rw (le-leb 32 (48 + d) (omega arith), le-leb (48 + d) 126 (omega arith), ne_eqb (48 + d) 34 (λ e. omega arith))

digits_string : (bound n : ℕ) → StringBytes (digits_within bound n)
unfolding digits_within
digits_string zero n = string_none
digits_string (suc bound) n = step (ltb n 10) refl (digits_string bound (n / 10))
  where
    step : (t : Bool) → ltb n 10 ≡ t → StringBytes (digits_within bound (n / 10)) →
        StringBytes (elim t [ true ↦ (48 + n) ∷ [] | false ↦ digits_within bound (n / 10) ++ ((48 + n % 10) ∷ []) ])
    step true e k = string_cons (48 + n) [] (digit_byte n (ltb-true n 10 e)) string_none
    step false e k = string_append (digits_within bound (n / 10)) ((48 + n % 10) ∷ []) k (string_cons (48 + n % 10) [] (digit_byte (n % 10) (mod-lt n (omega arith))) string_none)

decimal_string : (z : ℤ) → StringBytes (decimal z)
unfolding decimal
decimal_string (pos n) = digits_string (suc n) n
decimal_string (negsuc n) = string_cons 45 (digits_within (suc (suc n)) (suc n)) refl (digits_string (suc (suc n)) (suc n))

-- ---- What an operator gives

-- in range, or a short text; a text takes a `#` sign, of which there are c
pub data Small : ℕ → Product → Type 0 where
  small_number : {c : ℕ} {z : ℤ} → in_range z ≡ true → Small c (number z)
  small_text : {bs : List ℕ} → length bs ≤ 64 → StringBytes bs → Small 1 (text bs)

-- it ends, with a number that is not 0; or it gives a small product
pub data Outcome (c : ℕ) : Result Product → Type 0 where
  fails : {n : ℕ} → Outcome c (ends (suc n))
  succeeds : {x : Product} → Small c x → Outcome c (gives x)

ranged_small : {c : ℕ} (z : ℤ) → Outcome c (ranged z)
unfolding ranged
ranged_small {c} z = step (in_range z) refl
  where
    step : (t : Bool) → in_range z ≡ t → Outcome c (when t then gives (number z) else ends 33)
    step true e = succeeds (small_number e)
    step false e = fails

measured_small : (bs : List ℕ) → StringBytes bs → Outcome 1 (measured bs)
unfolding measured
measured_small bs s = step (leb (length bs) 64) refl
  where
    step : (t : Bool) → leb (length bs) 64 ≡ t → Outcome 1 (when t then gives (text bs) else ends 34)
    step true e = succeeds (small_text (leb-true (length bs) 64 e) s)
    step false e = fails

flag_small : {c : ℕ} (b : Bool) → Small c (flag b)
unfolding flag
flag_small true = small_number refl
flag_small false = small_number refl

integers_small : {c : ℕ} (v w : Value) (f : ℤ → ℤ → Result Product) → ((y z : ℤ) → Outcome c (f y z)) →
    Outcome c (M.◌>>=◌ (integer_in v) (λ y. M.◌>>=◌ (integer_in w) (λ z. f y z)))
unfolding M.◌>>=◌ integer_in
integers_small (Value.Int y) (Value.Int z) f k = k y z
integers_small (Value.Int y) (Value.Text t) f k = fails
integers_small (Value.Int y) (Value.Code c) f k = fails
integers_small (Value.Int y) (Value.Frame n) f k = fails
integers_small (Value.Text t) w f k = fails
integers_small (Value.Code c) w f k = fails
integers_small (Value.Frame n) w f k = fails

over_small : {c : ℕ} (y z : ℤ) → Outcome c (M.◌>>=◌ (quotient y z) (λ q. ranged q))
unfolding quotient M.◌>>=◌
over_small y (pos zero) = fails
over_small y (pos (suc n)) = ranged_small _
over_small y (negsuc n) = ranged_small _

-- what is shown of a value keeps the string rule, where the literals and its own text do
pub shown_string : (ls made : List (List ℕ)) (v : Value) → ((k : ℕ) → StringBytes (get_or ls k [])) →
    ((k : ℕ) → v ≡ Value.Text (Text.Made k) → StringBytes (get_or made k [])) → StringBytes (shown ls made v)
unfolding shown text_bytes
shown_string ls made (Value.Int z) f g = decimal_string z
shown_string ls made (Value.Text (Text.Literal k)) f g = f k
shown_string ls made (Value.Text (Text.Made k)) f g = g k refl
shown_string ls made (Value.Code k) f g = code_string
shown_string ls made (Value.Frame n) f g = frame_string

join_string : (ls made : List (List ℕ)) (v w : Value) → StringBytes (shown ls made v) → StringBytes (shown ls made w) → StringBytes (join_bytes ls made v w)
unfolding join_bytes
join_string ls made v w f g = string_append (shown ls made v) (shown ls made w) f g

pub operated_small : (cs : Constants) (made : List (List ℕ)) (o : Operator) (v w : Value) → StringBytes (shown cs.literals made v) → StringBytes (shown cs.literals made w) →
    Outcome (is_join o) (operated cs made o v w)
unfolding operated is_join
operated_small cs made Operator.plus v w f g = integers_small v w _ (λ y z. ranged_small (y +ℤ z))
operated_small cs made Operator.minus v w f g = integers_small v w _ (λ y z. ranged_small (y -ℤ z))
operated_small cs made Operator.times v w f g = integers_small v w _ (λ y z. ranged_small (y *ℤ z))
operated_small cs made Operator.over v w f g = integers_small v w _ (λ y z. over_small y z)
operated_small cs made Operator.less v w f g = integers_small v w _ (λ y z. succeeds (flag_small (lt_z y z)))
operated_small cs made Operator.join v w f g = measured_small (join_bytes cs.literals made v w) (join_string cs.literals made v w f g)
operated_small cs made Operator.equal v w f g = succeeds (flag_small _)
operated_small cs made Operator.and v w f g = succeeds (flag_small _)
operated_small cs made Operator.or v w f g = succeeds (flag_small _)
