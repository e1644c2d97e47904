-- Look at a path text is the judgment Fetch. Assumes nothing.
use mathlib.Core.Path.{◌≡◌, refl, sym, ◌∙◌, subst}
use mathlib.Core.Logic.{◌↔◌}
use mathlib.Core.List.{List, []}
use mathlib.Core.Option.{Option, none, some}
use Prim.Native.Nat.{ℕ}
use Rattle.framed.specs.declared.Value.{Value}
use Rattle.framed.specs.Bytes.{class}
use Rattle.framed.specs.Tokens.{tokens}
use Rattle.framed.specs.Tree.{Written}
use Rattle.framed.specs.Program.{Program}
use Rattle.framed.specs.Machine.{State}
use Rattle.framed.specs.Answers.{Look}
use Rattle.framed.specs.Calls.{read_path, look_from, kind, look, text_in, look_text, look_root, look_names, LookFinds, LooksAs, found, undefined, LooksTextAs, text_found, text_undefined}
use Rattle.framed.specs.Theorems.{LookJudged}
use Rattle.framed.proofs.General.{none≢some}
use Rattle.framed.proofs.FetchExact.{fetch_exact}

module _ (p : Program) (s : State) where
  -- what is found is what the judgment finds
  finds : (w : Written) (v : Value) → (look_from s w ≡ some v) ↔ LookFinds s w v
  unfolding look_from look_root look_names
  finds (Written.self ns) v = fetch_exact s.heap.frames s.self ns v
  finds (Written.up k ns) v = fetch_exact s.heap.frames s.program ns v

  lost : (w : Written) → ((v : Value) → ¬ LookFinds s w v) → look_from s w ≡ none
  lost w n = go (look_from s w) refl
    where
      go : (o : Option Value) → look_from s w ≡ o → look_from s w ≡ none
      go none e = e
      go (some v) e = absurd (n v ((finds w v).0 e))

  module _ (w : Written) where
    kind_found : (o : Option Value) → look_from s w ≡ o → LooksAs s w (elim o [ none ↦ Look.refused 22 | some v ↦ kind s.heap.frames v ])
    kind_found none e = undefined (λ v d. none≢some (sym e ∙ (finds w v).1 d))
    kind_found (some v) e = found ((finds w v).0 e)

    text_bytes_found : (o : Option Value) → look_from s w ≡ o → LooksTextAs p s w (elim o [ none ↦ [] | some v ↦ text_in p s v ])
    text_bytes_found none e = text_undefined (λ v d. none≢some (sym e ∙ (finds w v).1 d))
    text_bytes_found (some v) e = text_found ((finds w v).0 e)

    module _ (text : List ℕ) (path : read_path p (tokens class text) ≡ some w) where
      look_is : (o : Option Value) → look_from s w ≡ o → look p s text ≡ (elim o [ none ↦ Look.refused 22 | some v ↦ kind s.heap.frames v ])
      unfolding look
      look_is o e = rw (path, look, e)

      look_text_is : (o : Option Value) → look_from s w ≡ o → look_text p s text ≡ (elim o [ none ↦ [] | some v ↦ text_in p s v ])
      unfolding look_text
      look_text_is o e = rw (path, look_text, e)

      looks : {l : Look} → LooksAs s w l → look p s text ≡ l
      looks (found {v} d) = look_is (some v) ((finds w v).1 d)
      looks (undefined n) = look_is none (lost w n)

      looks_text : {bs : List ℕ} → LooksTextAs p s w bs → look_text p s text ≡ bs
      looks_text (text_found {v} d) = look_text_is (some v) ((finds w v).1 d)
      looks_text (text_undefined n) = look_text_is none (lost w n)

pub look_judged : LookJudged
unfolding look look_text
look_judged = record {
  kinds = λ p s text w l path. (
    λ e. subst (LooksAs s w) (sym (look_is p s w text path _ refl) ∙ e) (kind_found p s w _ refl),
    looks p s w text path,
  );
  texts = λ p s text w bs path. (
    λ e. subst (LooksTextAs p s w) (sym (look_text_is p s w text path _ refl) ∙ e) (text_bytes_found p s w _ refl),
    looks_text p s w text path,
  );
  not_path = λ p s text path. (rw (path, look), rw (path, look_text));
}
