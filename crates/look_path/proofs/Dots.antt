-- How `framed`'s grammar reads a look's path: dots and names to the end, behind `self` or one `^`. Assumes nothing.
use mathlib.Core.Path.{◌≡◌, refl, sym, ap}
use mathlib.Core.List.{List, [], ◌∷◌}
use mathlib.Core.Option.{Option, none, some}
use Prim.Native.Nat.{ℕ, zero, suc}
use Rattle.framed.specs.Tokens.{Fixed, prepend}
use Rattle.framed.specs.Symbols.{Symbol, fixed}
use Rattle.framed.specs.Tree.{Written}
use Rattle.framed.specs.Parse.{Parsed, fails, parsed, this, names, a_path}
use Rattle.framed.specs.Grammar.{Names⊢, Ups⊢, Path⊢}
use Rattle.framed.specs.Calls.{look_path}
use Rattle.framed.proofs.General.{none≢some, some_inj}
use Rattle.framed.proofs.ParseExact.{NoDot, names_in, names_all, a_path_in, path_out}
use Rattle.token.specs.Reading.{fixed_kind}
use Rattle.sweep.specs.Kinds.{kind_of}
use Rattle.look_path.specs.Resolve.{to_end}

-- two options that are the same elements are the same
same_option : {A : Type 0} (a b : Option A) → ((x : A) → a ≡ some x → b ≡ some x) → ((x : A) → b ≡ some x → a ≡ some x) → a ≡ b
same_option none none f g = refl
same_option none (some y) f g = g y refl
same_option (some x) b f g = sym (f x refl)

no_option : {A : Type 0} (a : Option A) → ((x : A) → a ≡ some x → ⊥) → a ≡ none
no_option none f = refl
no_option (some x) f = absurd (f x refl)

nothing_follows : NoDot []
unfolding this
nothing_follows = refl

-- ---- Dots and names to the end

dots_in : (us : List Symbol) (ns : List ℕ) → to_end (names us) ≡ some ns → Names⊢ us ns []
unfolding to_end
dots_in us ns e = names_in us (go (names us) e)
  where
    go : (x : Parsed (List ℕ)) → to_end x ≡ some ns → x ≡ parsed ns []
    go fails e = absurd (none≢some e)
    go (parsed ms []) e = ap (λ (ks : List ℕ). parsed ks []) (some_inj e)
    go (parsed ms (x ∷ vs)) e = absurd (none≢some e)

dots_out : {us : List Symbol} {ns : List ℕ} → Names⊢ us ns [] → to_end (names us) ≡ some ns
unfolding to_end
dots_out d = rw (names_all d nothing_follows)

pub dots_none : to_end (names []) ≡ some []
dots_none = dots_out Names⊢.none

pub dots_more : (n : ℕ) (us : List Symbol) → to_end (names (fixed Fixed.dot ∷ Symbol.name n ∷ us)) ≡ prepend n (to_end (names us))
unfolding prepend
dots_more n us = same_option _ _ (λ ms e. further ms (dots_in _ ms e)) (λ ms e. back (to_end (names us)) refl ms e)
  where
    further : (ms : List ℕ) → Names⊢ (fixed Fixed.dot ∷ Symbol.name n ∷ us) ms [] → prepend n (to_end (names us)) ≡ some ms
    further _ (Names⊢.more d) = rw (dots_out d)

    back : (o : Option (List ℕ)) → to_end (names us) ≡ o → (ms : List ℕ) → prepend n o ≡ some ms → to_end (names (fixed Fixed.dot ∷ Symbol.name n ∷ us)) ≡ some ms
    back none e ms q = absurd (none≢some q)
    back (some ns) e ms q = rw (← some_inj q) (dots_out (Names⊢.more (dots_in us ns e)))

pub dots_no_dot : (x : Symbol) (us : List Symbol) → (kind_of x ≡ 7 → ⊥) → to_end (names (x ∷ us)) ≡ none
unfolding kind_of fixed_kind
dots_no_dot x us f = no_option _ (λ ns e. go x us ns f (dots_in (x ∷ us) ns e))
  where
    go : (x : Symbol) (us : List Symbol) (ns : List ℕ) → (kind_of x ≡ 7 → ⊥) → Names⊢ (x ∷ us) ns [] → ⊥
    go _ _ _ f (Names⊢.more d) = f refl

pub dots_dot_alone : to_end (names (fixed Fixed.dot ∷ [])) ≡ none
dots_dot_alone = no_option _ (λ ns e. go ns (dots_in (fixed Fixed.dot ∷ []) ns e))
  where
    go : (ns : List ℕ) → Names⊢ (fixed Fixed.dot ∷ []) ns [] → ⊥
    go ns d = elim d [ ]

pub dots_no_name : (y : Symbol) (us : List Symbol) → (kind_of y ≡ 25 → ⊥) → to_end (names (fixed Fixed.dot ∷ y ∷ us)) ≡ none
unfolding kind_of
dots_no_name y us f = no_option _ (λ ns e. go y us ns f (dots_in (fixed Fixed.dot ∷ y ∷ us) ns e))
  where
    go : (y : Symbol) (us : List Symbol) (ns : List ℕ) → (kind_of y ≡ 25 → ⊥) → Names⊢ (fixed Fixed.dot ∷ y ∷ us) ns [] → ⊥
    go _ _ _ f (Names⊢.more d) = f refl

-- ---- `self` or one `^` before them

unfoldable pub with_root : (List ℕ → Written) → Option (List ℕ) → Option Written
with_root root none = none
with_root root (some ns) = some (root ns)

-- what look takes as a path
data OnePath : Written → Type 0 where
  self : {ns : List ℕ} → OnePath (Written.self ns)
  up : {ns : List ℕ} → OnePath (Written.up 0 ns)

record Looked (us : List Symbol) (w : Written) : Type 0 where
  pub one : OnePath w
  pub path : Path⊢ us w []

looked : (us : List Symbol) (w : Written) → look_path (a_path us) ≡ some w → Looked us w
unfolding look_path
looked us w e = go (a_path us) refl w e
  where
    go : (x : Parsed Written) → a_path us ≡ x → (w : Written) → look_path x ≡ some w → Looked us w
    go fails q w e = absurd (none≢some e)
    go (parsed (Written.self ns) []) q w e = rw (← some_inj e) (record { one = OnePath.self; path = a_path_in us q })
    go (parsed (Written.self ns) (t ∷ ts)) q w e = absurd (none≢some e)
    go (parsed (Written.up zero ns) []) q w e = rw (← some_inj e) (record { one = OnePath.up; path = a_path_in us q })
    go (parsed (Written.up zero ns) (t ∷ ts)) q w e = absurd (none≢some e)
    go (parsed (Written.up (suc k) ns) ts) q w e = absurd (none≢some e)

pub path_none : look_path (a_path []) ≡ none
path_none = no_option _ (λ w e. go w (looked [] w e).path)
  where
    go : (w : Written) → Path⊢ [] w [] → ⊥
    go w = elim [ ]

pub path_other : (x : Symbol) (us : List Symbol) → (kind_of x ≡ 1 → ⊥) → (kind_of x ≡ 8 → ⊥) → look_path (a_path (x ∷ us)) ≡ none
unfolding kind_of fixed_kind
path_other x us f g = no_option _ (λ w e. go x us w f g (looked (x ∷ us) w e).path)
  where
    go : (x : Symbol) (us : List Symbol) (w : Written) → (kind_of x ≡ 1 → ⊥) → (kind_of x ≡ 8 → ⊥) → Path⊢ (x ∷ us) w [] → ⊥
    go _ _ _ f g (Path⊢.self d) = f refl
    go _ _ _ f g (Path⊢.up c d) = g refl

pub path_self : (us : List Symbol) → look_path (a_path (fixed Fixed.self ∷ us)) ≡ with_root Written.self (to_end (names us))
unfolding with_root look_path
path_self us = same_option _ _ (λ w e. further w (looked _ w e).path) (λ w e. back (to_end (names us)) refl w e)
  where
    further : (w : Written) → Path⊢ (fixed Fixed.self ∷ us) w [] → with_root Written.self (to_end (names us)) ≡ some w
    further _ (Path⊢.self d) = rw (dots_out d)

    back : (o : Option (List ℕ)) → to_end (names us) ≡ o → (w : Written) → with_root Written.self o ≡ some w → look_path (a_path (fixed Fixed.self ∷ us)) ≡ some w
    back none e w q = absurd (none≢some q)
    back (some ns) e w q = rw (path_out (Path⊢.self (dots_in us ns e)) nothing_follows) q

pub path_up : (us : List Symbol) → look_path (a_path (fixed Fixed.up ∷ us)) ≡ with_root (Written.up 0) (to_end (names us))
unfolding with_root look_path
path_up us = same_option _ _ (λ w e. further us w (looked _ w e).one (looked _ w e).path) (λ w e. back (to_end (names us)) refl w e)
  where
    further : (vs : List Symbol) (w : Written) → OnePath w → Path⊢ (fixed Fixed.up ∷ vs) w [] → with_root (Written.up 0) (to_end (names vs)) ≡ some w
    further _ _ OnePath.self d = elim d [ ]
    further _ _ OnePath.up (Path⊢.up Ups⊢.none d) = rw (dots_out d)

    back : (o : Option (List ℕ)) → to_end (names us) ≡ o → (w : Written) → with_root (Written.up 0) o ≡ some w → look_path (a_path (fixed Fixed.up ∷ us)) ≡ some w
    back none e w q = absurd (none≢some q)
    back (some ns) e w q = rw (path_out (Path⊢.up Ups⊢.none (dots_in us ns e)) nothing_follows) q
