-- Collect for C: one law for each answer. Assumes nothing.
use mathlib.Core.Path.{◌≡◌}
use mathlib.Core.List.{List}
use Prim.Native.Nat.{ℕ}
use Rattle.framed.specs.declared.CollectAnswer.{CollectAnswer}
use Rattle.framed.specs.declared.Totals.{Totals}
use Rattle.answers.specs.Numbers.{collect_number}
use Rattle.collect.specs.Collect.{collecting, collect_call, CollectMeans}
use Rattle.framed_c.specs.Collect.{frames_cell, texts_cell, CollectsInC}

module _ (p h l t h' : List ℕ) (r : CollectAnswer) (exact : collect_call p h l t ≡ collecting r h') (meaning : CollectMeans p h l t r h') where
  pub collected : (x : Totals) (frames texts n : ℕ) → r ≡ CollectAnswer.Collected x → n ≡ collect_number (CollectAnswer.Collected x) → CollectsInC p h l t frames texts n h' x.frames x.texts
  unfolding frames_cell texts_cell
  collected x frames texts n e is =
      record {
        answer = r;
        exact = exact;
        meaning = meaning;
        number = rw e is;
        frames_after = rw e;
        texts_after = rw e;
      }

  pub refused : (frames texts n : ℕ) → r ≡ CollectAnswer.NotWellFormed → n ≡ collect_number r → CollectsInC p h l t frames texts n h' frames texts
  unfolding frames_cell texts_cell
  refused frames texts n e is =
      record {
        answer = r;
        exact = exact;
        meaning = meaning;
        number = is;
        frames_after = rw e;
        texts_after = rw e;
      }
