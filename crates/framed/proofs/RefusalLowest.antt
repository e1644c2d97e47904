-- `Meaning.refusal` is the lowest number that holds, and 0 exactly when none holds (demand 2, for the definitions). Assumes nothing.
use mathlib.Core.Path.{◌≡◌, refl, sym, ◌∙◌, ap, subst}
use mathlib.Core.Logic.{◌↔◌}
use mathlib.Core.Bool.{Bool, true, false, not, true≢false, false≢true}
use mathlib.Core.List.{List, [], ◌∷◌}
use mathlib.Core.Option.{Option, none, some}
use Prim.Native.Nat.{ℕ, zero, suc, ◌+◌, ◌≤◌, ◌<◌}
use native.Mathlib.Omega.{arith}
use lib.ListN.{length}
use lib.Dec.{ltb}
use borrow.Author.Tests.{not-true, ltb-true, leb-true, lt-ltb, le-leb}
use Rattle.framed.specs.Common.{when◌then◌else◌, any, count, Twice}
use Rattle.framed.specs.Bytes.{class}
use Rattle.framed.specs.Tokens.{Token, tokens, Tokens⊢, highest_nesting}
use Rattle.framed.specs.Symbols.{symbols, name_table}
use Rattle.framed.specs.Tree.{Written, Slots}
use Rattle.framed.specs.Parse.{parse}
use Rattle.framed.specs.Paths.{Place, holder, above_program, program_place}
use Rattle.framed.specs.Meaning.{Lengths, refusal, Piece, pieces, misplaced, bad_frame, too_far_up, main_start, is_none, frame_outside, lowest, arguments_refusal, meaning_refusal, tree_refusal, source_refusal}
use Rattle.framed.specs.Occurrences.{Occurs, program_frame, in_program_frame}
use Rattle.framed.specs.Refusals.{HasTree, BadSlots, Holds, h1, h2, h3, h4, h5, h6, h7, h8, h9, h10, h11, h12}
use Rattle.framed.specs.Theorems.{RefusalLowest}
use Rattle.framed.proofs.General.{none≢some}
use Rattle.framed.proofs.Lists.{any_found, any_finds}
use Rattle.framed.proofs.TokensExact.{tokens_agree}
use Rattle.framed.proofs.ParseExact.{parse_agrees}
use Rattle.framed.proofs.PiecesExact.{occurrence_to, occurrence_from}
use Rattle.framed.proofs.MainStart.{slot_frame, start_written, start_found}
use Rattle.framed.proofs.RefusalTests.{is_other, other_false, is_out, out_false, is_misplaced, misplaced_true, is_bad, bad_true, is_above, above_true, frames_counted, frames_in}

-- ---- `lowest`: a test that holds is the lowest or a lower one is

-- between 1 and a bound
abbrev Found : ℕ → ℕ → Type 0
Found r k = (1 ≤ r) × (r ≤ k)

found_here : (n : ℕ) (b : Bool) (bs : List Bool) → b ≡ true → Found (lowest (suc n) (b ∷ bs)) (suc n)
unfolding lowest
found_here n true bs e = (omega arith, omega arith)
found_here n false bs e = absurd (false≢true e)

found_later : (n k : ℕ) (b : Bool) (bs : List Bool) → suc n ≤ k → Found (lowest (suc (suc n)) bs) k → Found (lowest (suc n) (b ∷ bs)) k
unfolding lowest
found_later n k true bs l f = (omega arith, omega arith)
found_later n k false bs l f = f

pub lowest_bound : (n : ℕ) (bs : List Bool) → lowest (suc n) bs ≤ n + length bs
unfolding lowest
lowest_bound n [] = omega arith
lowest_bound n (true ∷ bs) = omega arith
lowest_bound n (false ∷ bs) = omega (arith, lowest_bound (suc n) bs)

-- the lowest is a test's number, that test holds, and none before it does
pick : {C : Type 0} {n : ℕ} (k : ℕ) (b : Bool) (bs : List Bool) → lowest (suc k) (b ∷ bs) ≡ suc n →
    (b ≡ true → suc k ≡ suc n → C) → (b ≡ false → lowest (suc (suc k)) bs ≡ suc n → C) → C
unfolding lowest
pick k true bs e f g = f refl e
pick k false bs e f g = g refl e

none_left : {C : Type 0} {n : ℕ} (k : ℕ) → lowest k [] ≡ suc n → C
unfolding lowest
none_left k e = absurd (omega arith)

-- ---- A number that holds is the refusal or a lower one is

or_source : ℕ → ℕ → ℕ
or_source a s = elim a [ zero ↦ s | suc n ↦ suc n ]

found_arguments : (a s k : ℕ) → Found a k → Found (or_source a s) k
unfolding or_source
found_arguments zero s k f = absurd (omega (arith, f.0))
found_arguments (suc n) s k f = f

found_source : (a s k : ℕ) → a ≤ 3 → 3 < k → Found s k → Found (or_source a s) k
unfolding or_source
found_source zero s k l m f = f
found_source (suc n) s k l m f = (omega arith, omega arith)

none_or_some : {A : Type 0} (o : Option A) → ((a : A) → ¬ (o ≡ some a)) → o ≡ none
none_or_some none f = refl
none_or_some (some a) f = absurd (f a refl)

found_nested : (t : Bool) (n k : ℕ) → 4 < k → Found n k → Found (when t then 5 else n) k
found_nested true n k l f = (omega arith, omega arith)
found_nested false n k l f = f

module _ (m : Lengths) (source : List ℕ) (F T : ℕ) where
  is_or_source : refusal m source F T ≡ or_source (arguments_refusal m source F T) (source_refusal (tokens class source) F)
  unfolding refusal or_source
  is_or_source = refl

  arguments_small : arguments_refusal m source F T ≤ 3
  unfolding arguments_refusal
  arguments_small = lowest_bound 0 _

  by_arguments : (k : ℕ) → Found (arguments_refusal m source F T) k → Found (refusal m source F T) k
  by_arguments k f = rw is_or_source (found_arguments _ _ k f)

  by_source : (k : ℕ) → 3 < k → Found (source_refusal (tokens class source) F) k → Found (refusal m source F T) k
  by_source k l f = rw is_or_source (found_source _ _ k arguments_small l f)

  by_tokens : {ts : List Token} → Tokens⊢ class source ts → (k : ℕ) → 3 < k → Found (source_refusal (some ts) F) k → Found (refusal m source F T) k
  by_tokens {ts} d k l f = by_source k l (subst (λ (o : Option (List Token)). Found (source_refusal o F) k) (sym ((tokens_agree class source ts).1 d)) f)

  by_tree : {ts : List Token} {ss : Slots Written} → HasTree source ts ss → (k : ℕ) → 4 < k → Found (meaning_refusal (name_table ts) ss F) k → Found (refusal m source F T) k
  unfolding source_refusal tree_refusal
  by_tree {ts} {ss} t k l f =
      by_tokens t.tokens k (omega arith)
      (found_nested (ltb 16 (highest_nesting 0 ts)) _ k l
      (subst (λ (o : Option (Slots Written)). Found (tree_refusal (name_table ts) o F) k) (sym ((parse_agrees (symbols ts) ss).1 t.tree)) f))

  found : {k : ℕ} → Holds m source F T k → Found (refusal m source F T) k
  unfolding arguments_refusal source_refusal tree_refusal meaning_refusal is_none too_far_up above_program
  found (h1 w) = by_arguments 1 (found_here 0 _ _ (ap not (other_false m w)))
  found (h2 w) = by_arguments 2 (found_later 0 2 _ _ (omega arith) (found_here 1 _ _ (ap not (out_false F T w))))
  found (h3 l) =
      by_arguments 3 (found_later 0 3 _ _ (omega arith) (found_later 1 3 _ _ (omega arith) (found_here 2 _ _ (lt-ltb 16384 (length source) l))))
  found (h4 f) =
      by_source 4 (omega arith)
      (subst (λ (o : Option (List Token)). Found (source_refusal o F) 4) (sym (none_or_some (tokens class source) (λ ts e. f ts ((tokens_agree class source ts).0 e)))) (omega arith))
  found (h5 {ts} d l) =
      by_tokens d 5 (omega arith)
      (subst (λ (t : Bool). Found (when t then 5 else tree_refusal (name_table ts) (parse (symbols ts)) F) 5) (sym (lt-ltb 16 (highest_nesting 0 ts) l)) (omega arith))
  found (h6 {ts} d f) =
      by_tokens d 6 (omega arith)
      (found_nested (ltb 16 (highest_nesting 0 ts)) _ 6 (omega arith)
      (subst (λ (o : Option (Slots Written)). Found (tree_refusal (name_table ts) o F) 6)
      (sym (none_or_some (parse (symbols ts)) (λ ss e. f ss ((parse_agrees (symbols ts) ss).0 e)))) (omega arith)))
  found (h7 t d w) = by_tree t 7 (omega arith) (found_here 6 _ _ (any_found misplaced (occurrence_to d) (misplaced_true w)))
  found (h8 {place = place} {ns = ns} t d w) =
      by_tree t 8 (omega arith) (found_later 6 8 _ _ (omega arith) (found_here 7 _ _ (any_found bad_frame (occurrence_to d) (bad_true place ns w))))
  found (h9 {ts} {ss} t w) =
      by_tree t 9 (omega arith) (found_later 6 9 _ _ (omega arith) (found_later 7 9 _ _ (omega arith) (found_here 8 _ _ (above_true (name_table ts) (pieces ss) w))))
  found (h10 {place = place} {further = further} t d l) =
      by_tree t 10 (omega arith)
      (found_later 6 10 _ _ (omega arith) (found_later 7 10 _ _ (omega arith) (found_later 8 10 _ _ (omega arith)
      (found_here 9 _ _ (any_found too_far_up (occurrence_to d) (lt-ltb (length (holder place)) further l))))))
  found (h11 {ts} {ss} t f) =
      by_tree t 11 (omega arith)
      (found_later 6 11 _ _ (omega arith) (found_later 7 11 _ _ (omega arith) (found_later 8 11 _ _ (omega arith)
      (found_later 9 11 _ _ (omega arith) (found_here 10 _ _
      (ap is_none (none_or_some (main_start (name_table ts) ss) (λ k e. f (start_written ts ss t.tree e)))))))))
  found (h12 {ss = ss} t d l) =
      by_tree t 12 (omega arith)
      (found_later 6 12 _ _ (omega arith) (found_later 7 12 _ _ (omega arith) (found_later 8 12 _ _ (omega arith)
      (found_later 9 12 _ _ (omega arith) (found_later 10 12 _ _ (omega arith)
      (found_here 11 _ _ (le-leb F (count frame_outside (pieces ss)) (omega (arith, frames_counted d)))))))))

  -- ---- The refusal's number holds

  at : {j k : ℕ} → j ≡ k → Holds m source F T j → Holds m source F T k
  at e h = subst (λ (n : ℕ). Holds m source F T n) e h

  arguments_hold : {n : ℕ} → arguments_refusal m source F T ≡ suc n → Holds m source F T (suc n)
  unfolding arguments_refusal
  arguments_hold e =
      pick 0 _ _ e (λ b q. at q (h1 (is_other m (not-true _ b)))) λ _ e.
      pick 1 _ _ e (λ b q. at q (h2 (is_out F T (not-true _ b)))) λ _ e.
      pick 2 _ _ e (λ b q. at q (h3 (ltb-true 16384 (length source) b))) λ _ e.
      none_left 4 e

  was_none : (o : Option ℕ) → is_none o ≡ true → o ≡ none
  unfolding is_none
  was_none none e = refl
  was_none (some k) e = absurd (false≢true e)

  module _ {ts : List Token} {ss : Slots Written} (t : HasTree source ts ss) where
    frame_holds : (x : Piece) → Occurs ss x → bad_frame x ≡ true → Holds m source F T 8
    unfolding bad_frame
    frame_holds (Piece.frame place ns) d e = h8 t d (is_bad place ns e)
    frame_holds (Piece.path place p) d e = absurd (false≢true e)
    frame_holds (Piece.operator place) d e = absurd (false≢true e)
    frame_holds (Piece.one k) d e = absurd (false≢true e)

    path_holds : (x : Piece) → Occurs ss x → too_far_up x ≡ true → Holds m source F T 10
    unfolding too_far_up above_program
    path_holds (Piece.frame place ns) d e = absurd (false≢true e)
    path_holds (Piece.path place (Written.self ns)) d e = absurd (false≢true e)
    path_holds (Piece.path place (Written.up further ns)) d e = h10 t d (ltb-true (length (holder place)) further e)
    path_holds (Piece.operator place) d e = absurd (false≢true e)
    path_holds (Piece.one k) d e = absurd (false≢true e)

    -- where 8 does not hold
    no_start : any bad_frame (pieces ss) ≡ false → main_start (name_table ts) ss ≡ none → Holds m source F T 11
    no_start b e = h11 t (λ w. none≢some (sym e ∙ start_found ts ss (once program_frame) (λ n us h. once (in_program_frame (slot_frame program_place h))) w))
      where
        once : {place : Place} {ns : List ℕ} → Occurs ss (Piece.frame place ns) → ¬ Twice ns
        once {place} {ns} d w = true≢false (sym (any_found bad_frame (occurrence_to d) (bad_true place ns (BadSlots.twice w))) ∙ b)

    meaning_holds : {n : ℕ} → meaning_refusal (name_table ts) ss F ≡ suc n → Holds m source F T (suc n)
    unfolding meaning_refusal
    meaning_holds e =
        pick 6 _ _ e (λ b q. at q (let r = any_finds misplaced (pieces ss) b in h7 t (occurrence_from r.1) (is_misplaced r.0 r.2))) λ _ e.
        pick 7 _ _ e (λ b q. at q (let r = any_finds bad_frame (pieces ss) b in frame_holds r.0 (occurrence_from r.1) r.2)) λ b8 e.
        pick 8 _ _ e (λ b q. at q (h9 t (is_above (name_table ts) (pieces ss) b))) λ _ e.
        pick 9 _ _ e (λ b q. at q (let r = any_finds too_far_up (pieces ss) b in path_holds r.0 (occurrence_from r.1) r.2)) λ _ e.
        pick 10 _ _ e (λ b q. at q (no_start b8 (was_none _ b))) λ _ e.
        pick 11 _ _ e (λ b q. at q (let r = frames_in ss in h12 t r.1 (omega (arith, leb-true F (count frame_outside (pieces ss)) b, frames_counted r.1)))) λ _ e.
        none_left 13 e

  tree_holds : {n : ℕ} (ts : List Token) → Tokens⊢ class source ts → (o : Option (Slots Written)) → parse (symbols ts) ≡ o →
      tree_refusal (name_table ts) o F ≡ suc n → Holds m source F T (suc n)
  unfolding tree_refusal
  tree_holds ts c none p e = at e (h6 c (λ ss d. none≢some (sym p ∙ (parse_agrees (symbols ts) ss).1 d)))
  tree_holds ts c (some ss) p e = meaning_holds (record { tokens = c; tree = (parse_agrees (symbols ts) ss).0 p }) e

  nesting_holds : {n : ℕ} (ts : List Token) → Tokens⊢ class source ts → (t : Bool) → ltb 16 (highest_nesting 0 ts) ≡ t →
      (when t then 5 else tree_refusal (name_table ts) (parse (symbols ts)) F) ≡ suc n → Holds m source F T (suc n)
  nesting_holds ts c true p e = at e (h5 c (ltb-true 16 (highest_nesting 0 ts) p))
  nesting_holds ts c false p e = tree_holds ts c (parse (symbols ts)) refl e

  source_holds : {n : ℕ} (o : Option (List Token)) → tokens class source ≡ o → source_refusal o F ≡ suc n → Holds m source F T (suc n)
  unfolding source_refusal
  source_holds none p e = at e (h4 (λ ts d. none≢some (sym p ∙ (tokens_agree class source ts).1 d)))
  source_holds (some ts) p e = nesting_holds ts ((tokens_agree class source ts).0 p) (ltb 16 (highest_nesting 0 ts)) refl e

  holds_case : {n : ℕ} (a : ℕ) → arguments_refusal m source F T ≡ a → or_source a (source_refusal (tokens class source) F) ≡ suc n → Holds m source F T (suc n)
  unfolding or_source
  holds_case zero p e = source_holds (tokens class source) refl e
  holds_case (suc k) p e = arguments_hold (p ∙ e)

  pub refusal_holds : {n : ℕ} → refusal m source F T ≡ suc n → Holds m source F T (suc n)
  refusal_holds e = holds_case (arguments_refusal m source F T) refl (sym is_or_source ∙ e)

  -- ---- Demand 2: the lowest number that holds; a source loads exactly when none holds

  pub lowest_holds : {n k : ℕ} → refusal m source F T ≡ suc n → Holds m source F T k → suc n ≤ k
  lowest_holds e h = omega (arith, (found h).1)

  pub loads_exactly : (refusal m source F T ≡ 0) ↔ ((k : ℕ) → ¬ Holds m source F T k)
  loads_exactly = (λ e k h. omega (arith, (found h).0), λ f. go (refusal m source F T) refl f)
    where
      go : (r : ℕ) → refusal m source F T ≡ r → ((k : ℕ) → ¬ Holds m source F T k) → refusal m source F T ≡ 0
      go zero p f = p
      go (suc n) p f = absurd (f (suc n) (refusal_holds p))

pub refusal_lowest : RefusalLowest
refusal_lowest = record {
  loads = loads_exactly;
  holds = λ m source F T n e. refusal_holds m source F T e;
  lowest = λ m source F T n k e h. lowest_holds m source F T e h;
}
