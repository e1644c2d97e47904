-- Document 01, the table, numbers 4 to 12, in the steps in which they are decided; 1 to 3 are in the crate `limits`. Assumes nothing.
use Rattle.std.specs.Prelude.{◌≡◌, Bool, true, false, List, ℕ}
use Rattle.std.proofs.Math.Option.{some}
use Rattle.framed.specs.Bytes.{class}
use Rattle.framed.specs.Tokens.{Token, tokens}
use Rattle.framed.specs.Symbols.{symbols, name_table}
use Rattle.framed.specs.Tree.{Written, Slots}
use Rattle.framed.specs.Parse.{parse}
use Rattle.framed.specs.Meaning.{meaning_refusal}
use Rattle.sweep.specs.Decides.{Decides}
use Rattle.names.specs.Kept.{Kept, Leads}
use Rattle.strings.specs.Places.{Placed}
use Rattle.slots.specs.Own.{bad_tree}
use Rattle.sums.specs.Totals.{Totalled}
use Rattle.limits.specs.Limits.{CountsNames}
use Rattle.survey.specs.declared.Findings.{Findings}

-- 7 to 12, where the source is one frame
pub record Means (s : List ℕ) (F r : ℕ) : Type 0 where
  pub is : (ts : List Token) (ss : Slots Written) → tokens class s ≡ some ts → parse (symbols ts) ≡ some ss → r ≡ meaning_refusal (name_table ts) ss F

-- where no frame was seen to be bad there is none
pub record CleanSeen (s : List ℕ) (clean : Bool) : Type 0 where
  pub none_bad : clean ≡ true → Decides bad_tree s false

-- what 7 to 12 ask of what was found
pub record MeaningOf (s : List ℕ) (v : Findings) : Type 0 where
  pub totalled : Totalled s v.totals
  pub counted : CountsNames s v.names
  pub clean_seen : CleanSeen s v.clean

-- names and strings are kept
pub record KeptAll (c s begins ends places : List ℕ) (n m : ℕ) : Type 0 where
  pub names : Kept s begins ends n
  pub led : Leads c s begins ends n
  pub placed : Placed s places m

-- where no number refuses the source
pub record KeptAt (number : ℕ) (c s begins ends places : List ℕ) (n m : ℕ) : Type 0 where
  pub is : number ≡ 0 → KeptAll c s begins ends places n m
