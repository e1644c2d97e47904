-- The lowest number that holds, one law for each way through each function. Assumes nothing.
use Rattle.std.specs.Prelude.{Result, Ok, Err, ⊤}
use Rattle.std.specs.Result.{IsErrAnd}
use mathlib.Core.Path.{◌≡◌, refl, sym, ap, ◌∙◌}
use mathlib.Core.Bool.{Bool, true, false, not, ◌&&◌, true≢false, false≢true}
use mathlib.Core.List.{List, [], ◌∷◌}
use mathlib.Core.Option.{Option, none, some}
use Prim.Native.Nat.{ℕ, zero, suc}
use native.Mathlib.Omega.{arith}
use lib.Dec.{leb, ltb}
use lib.ListN.{length}
use borrow.Author.Tests.{ltb-false}
use Rattle.framed.specs.Common.{when◌then◌else◌, between, any, count}
use Rattle.framed.specs.Bytes.{class}
use Rattle.framed.specs.Tokens.{Token, tokens, highest_nesting}
use Rattle.framed.specs.Symbols.{symbols, name_table}
use Rattle.framed.specs.Tree.{Written, Slots}
use Rattle.framed.specs.Parse.{parse}
use Rattle.framed.specs.Meaning.{Lengths, right_lengths, pieces, misplaced, bad_frame, above_limit, too_far_up, main_start, is_none, frame_outside, lowest, arguments_refusal, meaning_refusal, tree_refusal, source_refusal, refusal}
use Rattle.framed.specs.Answers.{load_refusal_number, load_refused}
use Rattle.framed.specs.declared.LoadRefusal.{LoadRefusal}
use Rattle.scan.specs.Scan.{tokens_refusal}
use Rattle.survey.specs.Survey.{Surveyed}
use Rattle.survey.specs.declared.Findings.{Findings}
use Rattle.sweep.specs.Decides.{Short, Decides}
use Rattle.grammar.specs.Runs.{OneFrame}
use Rattle.slots.specs.Own.{bad_tree}
use Rattle.start.specs.Find.{HasStart}
use Rattle.limits.specs.Limits.{misplaced_tree, limit_tree, far_tree, frames_tree}
use Rattle.limits.specs.Arguments.{lengths_refusal, limits_refusal}
use Rattle.check_source.specs.Numbers.{CleanSeen, MeaningOf, Means, KeptAt}

-- ---- 7 to 12

lowest_here : (n : ℕ) (b : Bool) (bs : List Bool) → b ≡ true → lowest n (b ∷ bs) ≡ n
unfolding lowest
lowest_here n b bs e = rw (e, lowest)

lowest_later : (n : ℕ) (b : Bool) (bs : List Bool) → b ≡ false → lowest n (b ∷ bs) ≡ lowest (suc n) bs
unfolding lowest
lowest_later n b bs e = rw (e, lowest)

lowest_none : (n : ℕ) → lowest n [] ≡ 0
unfolding lowest
lowest_none n = refl

module _ (s : List ℕ) (F : ℕ) (a : Bool) (ma : Decides misplaced_tree s a) where
  abbrev In : List Token → Slots Written → Type 0
  In ts ss = (tokens class s ≡ some ts) × (parse (symbols ts) ≡ some ss)

  a_is : (t : Bool) → a ≡ t → (ts : List Token) (ss : Slots Written) → In ts ss → any misplaced (pieces ss) ≡ t
  unfolding misplaced_tree
  a_is t h ts ss e = sym (ma.is ts ss e.0 e.1) ∙ h

  pub means_7 : a ≡ true → Means s F 7
  unfolding meaning_refusal
  means_7 t = record { is = λ ts ss e f. sym (lowest_here 7 _ _ (a_is true t ts ss (e, f))) }

  module _ (fa : a ≡ false) (b : Bool) (mb : Decides bad_tree s b) where
    b_is : (t : Bool) → b ≡ t → (ts : List Token) (ss : Slots Written) → In ts ss → any bad_frame (pieces ss) ≡ t
    unfolding bad_tree
    b_is t h ts ss e = sym (mb.is ts ss e.0 e.1) ∙ h

    pub means_8 : b ≡ true → Means s F 8
    unfolding meaning_refusal
    means_8 t = record { is = λ ts ss e f. sym (lowest_later 7 _ _ (a_is false fa ts ss (e, f)) ∙ lowest_here 8 _ _ (b_is true t ts ss (e, f))) }

    module _ (fb : b ≡ false) (c : Bool) (mc : Decides limit_tree s c) where
      c_is : (t : Bool) → c ≡ t → (ts : List Token) (ss : Slots Written) → In ts ss → above_limit (name_table ts) (pieces ss) ≡ t
      unfolding limit_tree
      c_is t h ts ss e = sym (mc.is ts ss e.0 e.1) ∙ h

      pub means_9 : c ≡ true → Means s F 9
      unfolding meaning_refusal
      means_9 t = record {
        is = λ ts ss e f. sym (lowest_later 7 _ _ (a_is false fa ts ss (e, f)) ∙ lowest_later 8 _ _ (b_is false fb ts ss (e, f)) ∙ lowest_here 9 _ _ (c_is true t ts ss (e, f)));
      }

      module _ (fc : c ≡ false) (d : Bool) (md : Decides far_tree s d) where
        d_is : (t : Bool) → d ≡ t → (ts : List Token) (ss : Slots Written) → In ts ss → any too_far_up (pieces ss) ≡ t
        unfolding far_tree
        d_is t h ts ss e = sym (md.is ts ss e.0 e.1) ∙ h

        pub means_10 : d ≡ true → Means s F 10
        unfolding meaning_refusal
        means_10 t = record {
          is = λ ts ss e f. sym (lowest_later 7 _ _ (a_is false fa ts ss (e, f)) ∙ lowest_later 8 _ _ (b_is false fb ts ss (e, f)) ∙ lowest_later 9 _ _ (c_is false fc ts ss (e, f))
              ∙ lowest_here 10 _ _ (d_is true t ts ss (e, f)));
        }

        module _ (fd : d ≡ false) (g : Bool) (mg : HasStart s g) where
          g_is : (t : Bool) → g ≡ t → (ts : List Token) (ss : Slots Written) → In ts ss → is_none (main_start (name_table ts) ss) ≡ not t
          g_is t h ts ss e = sym (twice (is_none (main_start (name_table ts) ss))) ∙ ap not (sym (mg.is ts ss e.0 e.1 (a_is false fa ts ss e)) ∙ h)
            where
              twice : (b : Bool) → not (not b) ≡ b
              twice true = refl
              twice false = refl

          pub means_11 : g ≡ false → Means s F 11
          unfolding meaning_refusal
          means_11 t = record {
            is = λ ts ss e f. sym (lowest_later 7 _ _ (a_is false fa ts ss (e, f)) ∙ lowest_later 8 _ _ (b_is false fb ts ss (e, f)) ∙ lowest_later 9 _ _ (c_is false fc ts ss (e, f))
                ∙ lowest_later 10 _ _ (d_is false fd ts ss (e, f)) ∙ lowest_here 11 _ _ (g_is false t ts ss (e, f)));
          }

          module _ (tg : g ≡ true) (k : Bool) (mk : Decides (frames_tree F) s k) where
            k_is : (t : Bool) → k ≡ t → (ts : List Token) (ss : Slots Written) → In ts ss → leb F (count frame_outside (pieces ss)) ≡ t
            unfolding frames_tree
            k_is t h ts ss e = sym (mk.is ts ss e.0 e.1) ∙ h

            pub means_12 : k ≡ true → Means s F 12
            unfolding meaning_refusal
            means_12 t = record {
              is = λ ts ss e f. sym (lowest_later 7 _ _ (a_is false fa ts ss (e, f)) ∙ lowest_later 8 _ _ (b_is false fb ts ss (e, f)) ∙ lowest_later 9 _ _ (c_is false fc ts ss (e, f))
                  ∙ lowest_later 10 _ _ (d_is false fd ts ss (e, f)) ∙ lowest_later 11 _ _ (g_is true tg ts ss (e, f)) ∙ lowest_here 12 _ _ (k_is true t ts ss (e, f)));
            }

            pub means_0 : k ≡ false → Means s F 0
            unfolding meaning_refusal
            means_0 t = record {
              is = λ ts ss e f. sym (lowest_later 7 _ _ (a_is false fa ts ss (e, f)) ∙ lowest_later 8 _ _ (b_is false fb ts ss (e, f)) ∙ lowest_later 9 _ _ (c_is false fc ts ss (e, f))
                  ∙ lowest_later 10 _ _ (d_is false fd ts ss (e, f)) ∙ lowest_later 11 _ _ (g_is true tg ts ss (e, f)) ∙ lowest_later 12 _ _ (k_is false t ts ss (e, f)) ∙ lowest_none 13);
            }

-- ---- 4 to 12

six : (names : List (List ℕ)) (o : Option (Slots Written)) (F : ℕ) → false ≡ not (is_none o) → 6 ≡ tree_refusal names o F
unfolding tree_refusal is_none
six names none F e = refl
six names (some ss) F e = absurd (false≢true e)

seven : (ts : List Token) (F r : ℕ) (o : Option (Slots Written)) → parse (symbols ts) ≡ o → true ≡ not (is_none o)
    → ((ss : Slots Written) → parse (symbols ts) ≡ some ss → r ≡ meaning_refusal (name_table ts) ss F) → r ≡ tree_refusal (name_table ts) o F
unfolding tree_refusal is_none
seven ts F r none e h m = absurd (true≢false h)
seven ts F r (some ss) e h m = m ss e

module _ (s : List ℕ) (F n : ℕ) (e : n ≡ tokens_refusal (tokens class s)) where
  nested : (o : Option (List Token)) → n ≡ tokens_refusal o → (n ≡ 0 → ⊥) → n ≡ source_refusal o F
  unfolding tokens_refusal source_refusal
  nested none e f = e
  nested (some ts) e f = go (ltb 16 (highest_nesting 0 ts)) (tree_refusal (name_table ts) (parse (symbols ts)) F) e
    where
      go : (t : Bool) (m : ℕ) → n ≡ (when t then 5 else 0) → n ≡ (when t then 5 else m)
      go true m e = e
      go false m e = absurd (f e)

  source_early : (n ≡ 0 → ⊥) → n ≡ source_refusal (tokens class s) F
  source_early f = nested (tokens class s) e f

  -- where 4 and 5 do not hold
  module _ (z : n ≡ 0) (t : Bool) (h : OneFrame s t) where
    late : (r : ℕ) (o : Option (List Token)) → tokens class s ≡ o → n ≡ tokens_refusal o → ((ts : List Token) → tokens class s ≡ some ts → r ≡ tree_refusal (name_table ts) (parse (symbols ts)) F) → r ≡ source_refusal o F
    unfolding tokens_refusal source_refusal
    late r none g f k = absurd (omega arith)
    late r (some ts) g f k = go (ltb 16 (highest_nesting 0 ts)) f (k ts g)
      where
        go : (u : Bool) → n ≡ (when u then 5 else 0) → r ≡ tree_refusal (name_table ts) (parse (symbols ts)) F → r ≡ (when u then 5 else tree_refusal (name_table ts) (parse (symbols ts)) F)
        go true f k = absurd (omega arith)
        go false f k = k

    source_six : t ≡ false → 6 ≡ source_refusal (tokens class s) F
    source_six q = late 6 (tokens class s) refl e (λ ts g. six (name_table ts) (parse (symbols ts)) F (sym q ∙ h.is ts g))

    source_means : t ≡ true → (r : ℕ) → Means s F r → r ≡ source_refusal (tokens class s) F
    source_means q r m = late r (tokens class s) refl e (λ ts g. seven ts F r (parse (symbols ts)) refl (sym q ∙ h.is ts g) (λ ss f. m.is ts ss g f))

-- ---- Refusals

-- a refusal has a number from 1 on
refusal_positive : (e : LoadRefusal) → load_refusal_number e ≡ 0 → ⊥
refusal_positive LoadRefusal.MemoryLength z = omega arith
refusal_positive LoadRefusal.LimitRange z = omega arith
refusal_positive LoadRefusal.SourceLength z = omega arith
refusal_positive LoadRefusal.NoToken z = omega arith
refusal_positive LoadRefusal.Nesting z = omega arith
refusal_positive LoadRefusal.NotOneFrame z = omega arith
refusal_positive LoadRefusal.OutsideCode z = omega arith
refusal_positive LoadRefusal.BadFrame z = omega arith
refusal_positive LoadRefusal.CountLimit z = omega arith
refusal_positive LoadRefusal.AboveProgram z = omega arith
refusal_positive LoadRefusal.NoStart z = omega arith
refusal_positive LoadRefusal.WrittenFrames z = omega arith

module _ (x : Result ⊤ LoadRefusal) (e : LoadRefusal) (q : x ≡ Err e) where
  number_is : load_refused x ≡ load_refusal_number e
  number_is = ap load_refused q

  number_not : load_refused x ≡ 0 → ⊥
  number_not z = refusal_positive e (sym number_is ∙ z)

-- what `?` passes on
passed_on : (r : Result ⊤ LoadRefusal) (e : LoadRefusal) → IsErrAnd r (λ f. f ≡ e) → load_refused r ≡ load_refusal_number e
passed_on (Ok u) e h = absurd h
passed_on (Err f) e h = ap load_refusal_number h

number_none : (x : Result ⊤ LoadRefusal) (u : ⊤) → x ≡ Ok u → load_refused x ≡ 0
number_none x u q = ap load_refused q

-- what a survey found, where it refuses and where it does not
module _ (c s b e o : List ℕ) (F : ℕ) (v : Findings) (h : Surveyed c s b e o v) where
  pub refused_early : (x : LoadRefusal) → v.refusal ≡ Err x → (r : Result ⊤ LoadRefusal) → IsErrAnd r (λ f. f ≡ x) → load_refused r ≡ source_refusal (tokens class s) F
  refused_early x q r p = passed_on r x p ∙ sym (number_is v.refusal x q) ∙ source_early s F (load_refused v.refusal) h.refusal_is (number_not v.refusal x q)

  module _ (u : ⊤) (q : v.refusal ≡ Ok u) (t : Bool) (one : OneFrame s t) where
    pub refused_six : t ≡ false → 6 ≡ source_refusal (tokens class s) F
    refused_six f = source_six s F (load_refused v.refusal) h.refusal_is (number_none v.refusal u q) t one f

    pub means_all : t ≡ true → (r : ℕ) → Means s F r → r ≡ source_refusal (tokens class s) F
    means_all f r m = source_means s F (load_refused v.refusal) h.refusal_is (number_none v.refusal u q) t one f r m

-- ---- What is kept

kept_not : (r : ℕ) (c s b e o : List ℕ) (n m : ℕ) → (r ≡ 0 → ⊥) → KeptAt r c s b e o n m
kept_not r c s b e o n m f = record { is = λ z. absurd (f z) }

pub kept_refused : (x : LoadRefusal) (c s b e o : List ℕ) (n m : ℕ) → KeptAt (load_refusal_number x) c s b e o n m
kept_refused x c s b e o n m = kept_not (load_refusal_number x) c s b e o n m (refusal_positive x)

pub kept_six : (c s b e o : List ℕ) (n m : ℕ) → KeptAt 6 c s b e o n m
kept_six c s b e o n m = kept_not 6 c s b e o n m (λ z. omega arith)

-- what a survey found
module _ (c s b e o : List ℕ) (v : Findings) (h : Surveyed c s b e o v) where
  pub kept_here : (r n m : ℕ) → n ≡ v.names → m ≡ v.strings → KeptAt r c s b e o n m
  kept_here r n m en em = record { is = λ z. rw (en, em) (record { names = h.kept; led = h.led; placed = h.placed }) }

  pub found_meaning : MeaningOf s v
  found_meaning = record { totalled = h.totalled; counted = record { is = h.kept.many }; clean_seen = record { none_bad = h.clean_is } }

pub not_bad : (s : List ℕ) (clean : Bool) → CleanSeen s clean → clean ≡ true → Decides bad_tree s false
not_bad s clean h e = h.none_bad e

-- ---- All

module _ (m : Lengths) (s : List ℕ) (F T : ℕ) where
  refused : (n : ℕ) → arguments_refusal m s F T ≡ suc n → refusal m s F T ≡ suc n
  unfolding refusal
  refused n e = rw (e, refusal)

  passed : arguments_refusal m s F T ≡ 0 → refusal m s F T ≡ source_refusal (tokens class s) F
  unfolding refusal
  passed e = rw (e, refusal)

  module _ (a : ℕ) (ea : a ≡ lengths_refusal m) where
    lengths_wrong : (a ≡ 0 → ⊥) → (right_lengths m ≡ false) × (a ≡ 1)
    unfolding lengths_refusal
    lengths_wrong n = go (right_lengths m) refl ea
      where
        go : (t : Bool) → right_lengths m ≡ t → a ≡ (when t then 0 else 1) → (right_lengths m ≡ false) × (a ≡ 1)
        go true x y = absurd (n y)
        go false x y = (x, y)

    lengths_right : a ≡ 0 → right_lengths m ≡ true
    unfolding lengths_refusal
    lengths_right z = go (right_lengths m) refl ea
      where
        go : (t : Bool) → right_lengths m ≡ t → a ≡ (when t then 0 else 1) → right_lengths m ≡ true
        go true x y = x
        go false x y = absurd (omega arith)

    check_lengths : (a ≡ 0 → ⊥) → a ≡ refusal m s F T
    unfolding arguments_refusal
    check_lengths n =
        let x = lengths_wrong n in
        x.1 ∙ sym (refused 0 (lowest_here 1 _ _ (ap not x.0)))

    module _ (z : a ≡ 0) (b : ℕ) (eb : b ≡ limits_refusal (length s) F T) where
      limits_are : (t u : Bool) → (between 3 256 F && leb T 256) ≡ t → ltb 16384 (length s) ≡ u → arguments_refusal m s F T ≡ (when t then (when u then 3 else 0) else 2)
      unfolding arguments_refusal
      limits_are true true x y = lowest_later 1 _ _ (ap not (lengths_right z)) ∙ lowest_later 2 _ _ (ap not x) ∙ lowest_here 3 _ _ y
      limits_are true false x y = lowest_later 1 _ _ (ap not (lengths_right z)) ∙ lowest_later 2 _ _ (ap not x) ∙ lowest_later 3 _ _ y ∙ lowest_none 4
      limits_are false u x y = lowest_later 1 _ _ (ap not (lengths_right z)) ∙ lowest_here 2 _ _ (ap not x)

      arguments_are : arguments_refusal m s F T ≡ b
      unfolding limits_refusal
      arguments_are = limits_are (between 3 256 F && leb T 256) (ltb 16384 (length s)) refl refl ∙ sym eb

      check_limits : (b ≡ 0 → ⊥) → b ≡ refusal m s F T
      check_limits n = go b arguments_are n
        where
          go : (k : ℕ) → arguments_refusal m s F T ≡ k → (k ≡ 0 → ⊥) → k ≡ refusal m s F T
          go zero x n = absurd (n refl)
          go (suc k) x n = sym (refused k x)

      check_short : b ≡ 0 → Short s
      unfolding limits_refusal
      check_short y = go (between 3 256 F && leb T 256) (ltb 16384 (length s)) refl eb
        where
          go : (t u : Bool) → ltb 16384 (length s) ≡ u → b ≡ (when t then (when u then 3 else 0) else 2) → Short s
          go true true x e = absurd (omega arith)
          go true false x e = record { short = ltb-false 16384 (length s) x }
          go false u x e = absurd (omega arith)

      check_all : b ≡ 0 → (n : ℕ) → n ≡ source_refusal (tokens class s) F → n ≡ refusal m s F T
      check_all y n e = e ∙ sym (passed (arguments_are ∙ y))

  -- the same of the answers
  module _ (x : Result ⊤ LoadRefusal) (ex : load_refused x ≡ lengths_refusal m) where
    pub lengths_refuse : (e : LoadRefusal) → x ≡ Err e → (r : Result ⊤ LoadRefusal) → IsErrAnd r (λ f. f ≡ e) → load_refused r ≡ refusal m s F T
    lengths_refuse e q r p = passed_on r e p ∙ sym (number_is x e q) ∙ check_lengths (load_refused x) ex (number_not x e q)

    module _ (u : ⊤) (z : x ≡ Ok u) (y : Result ⊤ LoadRefusal) (ey : load_refused y ≡ limits_refusal (length s) F T) where
      pub limits_refuse : (e : LoadRefusal) → y ≡ Err e → (r : Result ⊤ LoadRefusal) → IsErrAnd r (λ f. f ≡ e) → load_refused r ≡ refusal m s F T
      limits_refuse e q r p = passed_on r e p ∙ sym (number_is y e q) ∙ check_limits (load_refused x) ex (number_none x u z) (load_refused y) ey (number_not y e q)

      module _ (w : ⊤) (q : y ≡ Ok w) where
        pub limits_short : Short s
        limits_short = check_short (load_refused x) ex (number_none x u z) (load_refused y) ey (number_none y w q)

        pub source_refuses : (n : ℕ) → n ≡ source_refusal (tokens class s) F → n ≡ refusal m s F T
        source_refuses n e = check_all (load_refused x) ex (number_none x u z) (load_refused y) ey (number_none y w q) n e
