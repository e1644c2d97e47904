-- An expression without `#` leaves the text bytes as they were. Assumes nothing.
use mathlib.Core.Path.{◌≡◌, refl, ◌∙◌}
use Prim.Native.Nat.{ℕ}
use native.Mathlib.Omega.{arith}
use Rattle.framed.specs.declared.Value.{Value}
use Rattle.framed.specs.Tokens.{Operator}
use Rattle.framed.specs.Tree.{Base, Expression, Slots}
use Rattle.framed.specs.Paths.{Path}
use Rattle.framed.specs.Values.{Heap}
use Rattle.framed.specs.Equality.{Constants}
use Rattle.framed.specs.Machine.{Result, gives, ends, base_value, is_join, join_signs, join_signs_in}
use Rattle.framed.specs.Machine as M
use Rattle.bounded.specs.Operations.{Product, operated}
use Rattle.bounded.specs.Check.{operation_result}
use Rattle.bounded.specs.Bounded.{produce, evaluate, fill, heap_in}
use Rattle.word_store.specs.Store.{Memories, word_store}
use Rattle.producing.proofs.Operated.{Modest, an_end, a_number, a_text, operated_modest}

module _ (cs : Constants) (m : ℕ) (Σ Π : Value) where
  modest : (h : Heap) (o : Operator) (a b : Base Path) → Modest (is_join o) (operation_result cs Σ Π h o a b)
  unfolding operation_result M.◌>>=◌
  modest h o a b = go (base_value Σ Π h.frames a) (base_value Σ Π h.frames b)
    where
      go : (r q : Result Value) → Modest (is_join o) (M.◌>>=◌ r (λ v. M.◌>>=◌ q (λ w. operated cs h.texts o v w)))
      go (ends e) q = an_end
      go (gives v) (ends e) = an_end
      go (gives v) (gives w) = operated_modest cs h.texts o v w

  produce_text : {c : ℕ} (r : Result Product) (s : Memories) → Modest c r → c ≡ 0 → (produce word_store r s).store.text ≡ s.text
  unfolding produce
  produce_text _ s an_end z = refl
  produce_text _ s (a_number e) z = refl
  produce_text _ s (a_text one le) z = absurd (omega arith)

  mutual
    unfolding evaluate join_signs

    pub evaluate_text : (e : Expression Path) (s : Memories) → join_signs e ≡ 0 → (evaluate word_store cs m Σ Π e s).store.text ≡ s.text
    evaluate_text (Expression.base b) s z = refl
    evaluate_text (Expression.not b) s z = refl
    evaluate_text (Expression.operation o a b) s z = produce_text _ s (modest (heap_in word_store s) o a b) z
    evaluate_text (Expression.frame ss) s z = fill_text ss _ _ z

    pub fill_text : (ss : Slots Path) (n : ℕ) (s : Memories) → join_signs_in ss ≡ 0 → (fill word_store cs m Σ Π n ss s).text ≡ s.text
    fill_text Slots.no_slots n s z = refl
    fill_text (Slots.slot x e ss) n s z = fill_text ss n _ (omega arith) ∙ evaluate_text e s (omega arith)
