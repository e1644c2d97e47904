-- What stays of symbols when some go that may. Assumes nothing.
use mathlib.Core.Path.{◌≡◌, refl, sym, ◌∙◌, ap}
use mathlib.Core.Logic.{inl, inr}
use mathlib.Core.List.{List, [], ◌∷◌}
use Prim.Native.Nat.{ℕ, max, ◌≤◌, ◌<◌}
use native.Mathlib.Nat.{le_refl, le-max_left, max-eq_right}
use native.Mathlib.Omega.{arith}
use Rattle.framed.specs.Common.{total, ◌∈◌, here, later}
use Rattle.framed.specs.Tokens.{Token, open_after, highest_nesting}
use Rattle.framed.specs.Symbols.{Symbol}
use Rattle.framed.proofs.Lists.{none}
use Rattle.shapes.proofs.Names.{Ordered}
use Rattle.write_symbols.specs.Order.{InOrder, names_in, MayGo, seen_after, Without}
use Rattle.write_symbols.specs.Symbols.{spelled, spelled_all}
use Rattle.write_symbols.specs.Theorems.{WithoutKeeps}

-- ---- Numbers in order

module _ (N L : ℕ) where
  ordered_gone : {seen : List ℕ} {t : Symbol} {ts : List Symbol} {s c : ℕ} → MayGo seen t → Ordered N L s c (t ∷ ts) → Ordered N L s c ts
  ordered_gone MayGo.comma (Ordered.fixed o) = o
  ordered_gone MayGo.dot (Ordered.fixed o) = o
  ordered_gone MayGo.up (Ordered.fixed o) = o
  ordered_gone (MayGo.name m) (Ordered.name lt o) = o

  ordered_kept : {seen : List ℕ} {ts us : List Symbol} {s c : ℕ} → Without seen ts us → Ordered N L s c ts → Ordered N L s c us
  ordered_kept Without.end o = o
  ordered_kept (Without.gone g w) o = ordered_kept w (ordered_gone g o)
  ordered_kept (Without.kept w) (Ordered.name lt o) = Ordered.name lt (ordered_kept w o)
  ordered_kept (Without.kept w) (Ordered.integer r o) = Ordered.integer r (ordered_kept w o)
  ordered_kept (Without.kept w) (Ordered.string lt o) = Ordered.string lt (ordered_kept w o)
  ordered_kept (Without.kept w) (Ordered.code o) = Ordered.code (ordered_kept w o)
  ordered_kept (Without.kept w) (Ordered.fixed o) = Ordered.fixed (ordered_kept w o)

-- ---- Names in order of appearance

abbrev AllKnown : ℕ → List ℕ → Type 0
AllKnown k seen = (n : ℕ) → n ∈ seen → n < k

known_and : {n k j : ℕ} {seen : List ℕ} → n < k → j ≤ k → AllKnown j seen → AllKnown k (n ∷ seen)
known_and lt le a m here = lt
known_and lt le a m (later i) = let l = a m i in omega arith

module _ (K : ℕ) where
  in_order_kept : {seen : List ℕ} {ts us : List Symbol} {k : ℕ} → Without seen ts us → AllKnown k seen → InOrder k (names_in ts) K → InOrder k (names_in us) K
  unfolding InOrder names_in seen_after
  in_order_kept Without.end a o = o
  in_order_kept (Without.gone MayGo.comma w) a o = in_order_kept w a o
  in_order_kept (Without.gone MayGo.dot w) a o = in_order_kept w a o
  in_order_kept (Without.gone MayGo.up w) a o = in_order_kept w a o
  in_order_kept (Without.gone (MayGo.name m) w) a (inl (lt, o)) = in_order_kept w a o
  in_order_kept (Without.gone (MayGo.name m) w) a (inr (e, o)) = let l = a _ m in absurd (omega arith)
  in_order_kept (Without.kept {t = Symbol.name n} w) a (inl (lt, o)) = inl (lt, in_order_kept w (known_and lt (omega arith) a) o)
  in_order_kept (Without.kept {t = Symbol.name n} w) a (inr (e, o)) = inr (e, in_order_kept w (known_and (omega arith) (omega arith) a) o)
  in_order_kept (Without.kept {t = Symbol.integer z} w) a o = in_order_kept w a o
  in_order_kept (Without.kept {t = Symbol.string k} w) a o = in_order_kept w a o
  in_order_kept (Without.kept {t = Symbol.code k} w) a o = in_order_kept w a o
  in_order_kept (Without.kept {t = Symbol.fixed f} w) a o = in_order_kept w a o

-- ---- Nesting

nesting_least : (n : ℕ) (ts : List Token) → n ≤ highest_nesting n ts
unfolding highest_nesting
nesting_least n [] = le_refl n
nesting_least n (t ∷ ts) = le-max_left n (highest_nesting (open_after n t) ts)

module _ (names lits : List (List ℕ)) where
  stays_open : {seen : List ℕ} {t : Symbol} (n : ℕ) → MayGo seen t → open_after n (spelled names lits t) ≡ n
  unfolding open_after spelled
  stays_open n MayGo.comma = refl
  stays_open n MayGo.dot = refl
  stays_open n MayGo.up = refl
  stays_open n (MayGo.name m) = refl

  nesting_kept : {seen : List ℕ} {ts us : List Symbol} (n : ℕ) → Without seen ts us →
      highest_nesting n (spelled_all names lits us) ≡ highest_nesting n (spelled_all names lits ts)
  unfolding highest_nesting
  nesting_kept n Without.end = refl
  nesting_kept n (Without.kept {t = t} w) = ap (max n) (nesting_kept (open_after n (spelled names lits t)) w)
  nesting_kept n (Without.gone {t = t} {ts = ts} g w) =
      nesting_kept n w ∙ sym (max-eq_right (nesting_least n (spelled_all names lits ts)))
      ∙ ap (λ (k : ℕ). max n (highest_nesting k (spelled_all names lits ts))) (sym (stays_open n g))

-- ---- Weight

weight_kept : (weigh : Symbol → ℕ) {seen : List ℕ} {ts us : List Symbol} → Without seen ts us → total weigh us ≤ total weigh ts
unfolding total
weight_kept weigh Without.end = le_refl 0
weight_kept weigh (Without.kept w) = let h = weight_kept weigh w in omega arith
weight_kept weigh (Without.gone g w) = let h = weight_kept weigh w in omega arith

pub without_keeps : WithoutKeeps
without_keeps = record {
  ordered = λ N L ts us w o. ordered_kept N L w o;
  in_order = λ ts us K w o. in_order_kept K w (λ n m. none m) o;
  nesting = λ names lits ts us w. nesting_kept names lits 0 w;
  weight = λ weigh ts us w. weight_kept weigh w;
}
