-- One law for each way through the functions of this crate. Assumes nothing.
use mathlib.Core.Path.{◌≡◌, ◌∙◌, ap, sym, subst}
use mathlib.Core.List.{List, [], ◌∷◌, ◌++◌, append_assoc}
use Prim.Native.Nat.{ℕ, suc, ◌+◌, ◌-◌, ◌≤◌, ◌<◌}
use native.Mathlib.Nat.{min-le_right}
use native.Mathlib.Omega.{arith}
use lib.ListN.{length, take, drop, length-take, length-drop, length-append}
use lib.Seq.{take_all, length-take-le}
use Rattle.framed.specs.declared.RunReport.{RunReport}
use Rattle.framed.specs.declared.Stop.{Stop}
use Rattle.framed.specs.declared.Totals.{Totals}
use Rattle.framed.specs.Answers.{Stopped, stop_word}
use Rattle.framed.specs.Common.{bytes}
use Rattle.framed.specs.Values.{digits_within, decimal}
use Rattle.framed.specs.Framerun.{number, stop_bytes}
use Rattle.decimal.specs.Decimal.{Holds}
use Rattle.decimal.proofs.Laws.{held_bytes}
use Rattle.splice.proofs.Laws.{splice_append}
use Rattle.printing.specs.Lines.{refused_line, counts_line, end_line, ran_lines, Appends}

-- the digits of a number
module _ (n start : ℕ) (b : List ℕ) (a : Holds 1 b start (digits_within (suc n) n)) where
  digits_are : take (11 - start) (drop start b) ≡ number n
  unfolding number decimal
  digits_are = held_bytes 1 b start (digits_within (suc n) n) a

  pub number_appended : {m m' : List ℕ} {at r : ℕ} → Appends m at (take (11 - start) (drop start b)) m' r → Appends m at (number n) m' r
  number_appended {m} {m'} {at} {r} x = subst (λ (bs : List ℕ). Appends m at bs m' r) digits_are x

  pub number_near : {m m' : List ℕ} {at r : ℕ} → Appends m at (take (11 - start) (drop start b)) m' r → r ≤ at + 11
  number_near {m} {m'} {at} {r} x =
      let s = a.size in
      let i = a.inside in
      let l = length-drop start b in
      let e = ap length (take_all (11 - start) (drop start b) (omega arith)) in
      let q = x.behind in
      omega arith

-- one after the other
pub joined : {m m₁ m₂ a b : List ℕ} {at r₁ r₂ : ℕ} → Appends m at a m₁ r₁ → Appends m₁ r₁ b m₂ r₂ → Appends m at (a ++ b) m₂ r₂
joined {m} {m₁} {m₂} {a} {b} {at} {r₁} {r₂} x y =
    let l = length-append a b in
    let e = x.behind in
    let f = y.behind in
    record {
      written = y.written ∙ rw (e, x.written) (sym (splice_append m at a b));
      behind = omega arith;
    }

-- the fixed words, as the code has them
abbrev pub word_refused : List ℕ
word_refused = 114 ∷ 101 ∷ 102 ∷ 117 ∷ 115 ∷ 101 ∷ 100 ∷ 32 ∷ []

abbrev pub word_end : List ℕ
word_end = 101 ∷ 110 ∷ 100 ∷ 32 ∷ []

abbrev pub word_steps : List ℕ
word_steps = 32 ∷ 115 ∷ 116 ∷ 101 ∷ 112 ∷ 115 ∷ 32 ∷ []

abbrev pub word_frames : List ℕ
word_frames = 32 ∷ 102 ∷ 114 ∷ 97 ∷ 109 ∷ 101 ∷ 115 ∷ 32 ∷ []

abbrev pub word_texts : List ℕ
word_texts = 32 ∷ 116 ∷ 101 ∷ 120 ∷ 116 ∷ 115 ∷ 32 ∷ []

abbrev pub word_fuel : List ℕ
word_fuel = 102 ∷ 117 ∷ 101 ∷ 108 ∷ []

abbrev pub word_output : List ℕ
word_output = 111 ∷ 117 ∷ 116 ∷ 112 ∷ 117 ∷ 116 ∷ []

abbrev pub line_end : List ℕ
line_end = 10 ∷ []

-- append_stop
module _ {m m' : List ℕ} {at r : ℕ} {stop : Stop} where
  pub end_appended : {x : Stop} {e : ℕ} → stop ≡ x → stop_word x ≡ Stopped.end e → Appends m at (number e) m' r → Appends m at (stop_bytes (stop_word stop)) m' r
  unfolding stop_bytes
  end_appended i w a = rw (i, w) a

  pub fuel_appended : stop ≡ Stop.Fuel → Appends m at word_fuel m' r → Appends m at (stop_bytes (stop_word stop)) m' r
  unfolding stop_bytes bytes
  fuel_appended i a = rw i a

  pub output_appended : stop ≡ Stop.Output → Appends m at word_output m' r → Appends m at (stop_bytes (stop_word stop)) m' r
  unfolding stop_bytes bytes
  output_appended i a = rw i a

-- a word with a number, and what follows
field_joined : (a n : List ℕ) {m m₁ m₂ b : List ℕ} {at r₁ r₂ : ℕ} → Appends m at (a ++ n) m₁ r₁ → Appends m₁ r₁ b m₂ r₂ → Appends m at (a ++ (n ++ b)) m₂ r₂
field_joined a n {m} {m₁} {m₂} {b} {at} {r₁} {r₂} x y = subst (λ (bs : List ℕ). Appends m at bs m₂ r₂) (append_assoc a n b) (joined x y)

-- append_field
pub field_appended : {m m₁ m₂ w : List ℕ} {at r₁ r₂ : ℕ} (n : ℕ) → Appends m at w m₁ r₁ → Appends m₁ r₁ (number n) m₂ r₂ → Appends m at (w ++ number n) m₂ r₂
field_appended n a b = joined a b

-- append_counts
pub counts_appended :
    {m m₁ m₂ m₃ m₄ : List ℕ} {at r₁ r₂ r₃ r₄ : ℕ} (steps frames texts : ℕ) →
    Appends m at (word_steps ++ number steps) m₁ r₁ → Appends m₁ r₁ (word_frames ++ number frames) m₂ r₂ → Appends m₂ r₂ (word_texts ++ number texts) m₃ r₃ →
    Appends m₃ r₃ line_end m₄ r₄ → Appends m at (counts_line steps frames texts) m₄ r₄
unfolding counts_line bytes
counts_appended steps frames texts a b c d =
    field_joined word_steps (number steps) a (field_joined word_frames (number frames) b (field_joined word_texts (number texts) c d))

-- append_end
pub end_line_appended :
    {m m₁ m₂ m₃ : List ℕ} {at r₁ r₂ r₃ : ℕ} (steps frames texts : ℕ) (why : Stopped) →
    Appends m at word_end m₁ r₁ → Appends m₁ r₁ (stop_bytes why) m₂ r₂ → Appends m₂ r₂ (counts_line steps frames texts) m₃ r₃ →
    Appends m at (end_line why steps frames texts) m₃ r₃
unfolding end_line bytes
end_line_appended steps frames texts why a b c = joined a (joined b c)

-- print_refused
pub refused_appended :
    {m m₁ m₂ m₃ : List ℕ} {r₁ r₂ r₃ : ℕ} (n : ℕ) →
    Appends m 0 word_refused m₁ r₁ → Appends m₁ r₁ (number n) m₂ r₂ → Appends m₂ r₂ line_end m₃ r₃ → Appends m 0 (refused_line n) m₃ r₃
unfolding refused_line bytes
refused_appended n a b c = joined a (joined b c)

-- append_shows
module _ (n : ℕ) (shown f : List ℕ) (i : f ≡ take n shown) (e : length shown ≡ 4096) where
  short : length f ≤ 4096
  short = rw (i, length-take n shown, e) (min-le_right n 4096)

  pub shows_fit : 0 + length f ≤ 9000
  shows_fit =
      let s = short in
      omega arith

  pub shows_near : {m m' : List ℕ} {r : ℕ} → Appends m 0 f m' r → r ≤ 4096
  shows_near x =
      let s = short in
      let q = x.behind in
      omega arith

pub shows_appended : {m m' : List ℕ} {r : ℕ} (n : ℕ) (shown f : List ℕ) → f ≡ take n shown → Appends m 0 f m' r → Appends m 0 (take n shown) m' r
shows_appended {m} {m'} {r} n shown f i x = subst (λ (bs : List ℕ). Appends m 0 bs m' r) i x

-- print_ran
pub ran_appended :
    {m m₁ m₂ : List ℕ} {r₁ r₂ : ℕ} (shown : List ℕ) (x : RunReport) (t : Totals) → Appends m 0 (take x.bytes shown) m₁ r₁ →
    Appends m₁ r₁ (end_line (stop_word x.stop) x.steps t.frames t.texts) m₂ r₂ → Appends m 0 (ran_lines shown x t) m₂ r₂
unfolding ran_lines
ran_appended shown x t a b = joined a b

-- front
pub front_all : (n : ℕ) (m : List ℕ) → length m < n → m ≡ take n m
front_all n m h = sym (take_all n m (omega arith))

pub front_size : (n : ℕ) (m : List ℕ) → n ≤ length m → n ≡ length (take n m)
front_size n m h = sym (length-take-le n m h)
