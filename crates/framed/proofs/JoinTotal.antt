-- Document 02, A3: `#` of two values gives a text, or ends 34 exactly when it is too long; it ends 31 exactly when an operand has no value. Assumes nothing.
use mathlib.Core.Path.{◌≡◌, refl, sym, ◌∙◌, ap}
use mathlib.Core.Logic.{◌⊎◌, inl, inr}
use mathlib.Core.List.{List, [], ◌∷◌, ◌++◌}
use Prim.Native.Nat.{ℕ, ◌≤◌, ◌<◌}
use native.Mathlib.Omega.{arith}
use lib.ListN.{length}
use lib.Dec.{leb, nleb→lt}
use Rattle.framed.specs.declared.Value.{Value}
use Rattle.framed.specs.declared.Text.{Text}
use Rattle.framed.specs.Tokens.{Operator}
use Rattle.framed.specs.Tree.{Base, Expression}
use Rattle.framed.specs.Paths.{Path}
use Rattle.framed.specs.Values.{Heap, join_bytes}
use Rattle.framed.specs.Equality.{Constants}
use Rattle.framed.specs.Machine.{Result, gives, ends, base_value, new_text, operate, evaluate}
use Rattle.framed.specs.Judgments.{B⇒}
use Rattle.framed.specs.Theorems.{JoinTotal}
use Rattle.framed.proofs.General.{is_false}
use Rattle.framed.proofs.StepJudged.{ends≢gives, gives_bind, bind_ends, ends_bind, base_sound, base_complete, base_ends, refused, text_made, text_refused}

module _ (K : Constants) (v w : Value) (h : Heap) where
  abbrev bs : List ℕ
  bs = join_bytes K.literals h.texts v w

  short : length bs ≤ 64 → operate K Operator.join v w h
      ≡ gives (record { value = Value.Text (Text.Made (length h.texts)); heap = record { frames = h.frames; texts = h.texts ++ (bs ∷ []) } })
  unfolding operate
  short le = text_made bs h le

  long : 64 < length bs → operate K Operator.join v w h ≡ ends 34
  unfolding operate
  long lt = text_refused bs h lt

  ended : (e : ℕ) → operate K Operator.join v w h ≡ ends e → (64 < length bs) × (34 ≡ e)
  unfolding operate new_text
  ended e q = let c = refused (leb (length bs) 64) _ _ q in (nleb→lt _ _ (is_false c.0), c.1)

module _ (K : Constants) (Σ Π : Value) (h : Heap) where
  undefined : (b : Base Path) → ((v : Value) → ¬ B⇒ Σ Π h.frames b v) → base_value Σ Π h.frames b ≡ ends 31
  undefined b none = of (base_value Σ Π h.frames b) refl
    where
      of : (r : Result Value) → base_value Σ Π h.frames b ≡ r → base_value Σ Π h.frames b ≡ ends 31
      of (gives v) e = absurd (none v (base_sound Σ Π h.frames b e))
      of (ends k) e = e ∙ ap ends (base_ends Σ Π h.frames b e)

  no_value_of : (b : Base Path) → base_value Σ Π h.frames b ≡ ends 31 → (v : Value) → ¬ B⇒ Σ Π h.frames b v
  no_value_of b e v d = ends≢gives (sym e ∙ base_complete d)

  module _ (n : ℕ) (a b : Base Path) where
    ends_31 : evaluate K n Σ Π (Expression.operation Operator.join a b) h ≡ ends 31
        → ((v : Value) → ¬ B⇒ Σ Π h.frames a v) ⊎ ((w : Value) → ¬ B⇒ Σ Π h.frames b w)
    unfolding evaluate
    ends_31 e =
        bind_ends (base_value Σ Π h.frames a) _ e (λ q. inl (no_value_of a q)) λ v p f.
        bind_ends (base_value Σ Π h.frames b) _ f (λ q. inr (no_value_of b q)) λ w q g.
        absurd (let z = (ended K v w h 31 g).1 in omega arith)

    is_31 : ((v : Value) → ¬ B⇒ Σ Π h.frames a v) ⊎ ((w : Value) → ¬ B⇒ Σ Π h.frames b w)
        → evaluate K n Σ Π (Expression.operation Operator.join a b) h ≡ ends 31
    unfolding evaluate
    is_31 (inl none) = ends_bind _ (undefined a none)
    is_31 (inr none) = of (base_value Σ Π h.frames a) refl
      where
        of : (r : Result Value) → base_value Σ Π h.frames a ≡ r → evaluate K n Σ Π (Expression.operation Operator.join a b) h ≡ ends 31
        of (gives v) e = gives_bind _ e (ends_bind _ (undefined b none))
        of (ends k) e = ends_bind _ (e ∙ ap ends (base_ends Σ Π h.frames a e))

pub join_total : JoinTotal
join_total =
    record {
      gives_text = short;
      too_long = λ K v w h. ((λ q. (ended K v w h 34 q).0), long K v w h);
      no_other_end = λ K v w h e q. sym (ended K v w h e q).1;
      no_value = λ K n Σ Π a b h. (ends_31 K Σ Π h n a b, is_31 K Σ Π h n a b);
    }
