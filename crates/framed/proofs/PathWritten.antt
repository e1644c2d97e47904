-- Document 02, A1: a path is written so that it means the same list, and climbs no further than it must. Assumes nothing.
use mathlib.Core.Path.{◌≡◌, refl, ◌∙◌, ap, sym}
use mathlib.Core.Bool.{Bool, true, false, true≢false}
use mathlib.Core.List.{List, [], ◌∷◌, ◌++◌}
use Prim.Native.Nat.{ℕ, zero, suc, ◌-◌, ◌≤◌}
use native.Mathlib.Omega.{arith}
use lib.ListN.{length, take, drop, take-append-drop}
use lib.Dec.{eqb}
use borrow.Author.Tests.{eqb-true, eq-eqb, le-ltb}
use Rattle.framed.specs.Paths.{Place, holder, names_up, above_program, Path, from_self, from_program, resolve_path}
use Rattle.framed.specs.Writer.{common_prefix, written_path}
use Rattle.framed.specs.Theorems.{PathWritten}

pub common_most : (hs ns : List ℕ) → common_prefix hs ns ≤ length hs
unfolding common_prefix
common_most [] ns = omega arith
common_most (h ∷ hs) [] = omega arith
common_most (h ∷ hs) (n ∷ ns) = go (eqb h n) (common_most hs ns)
  where
    go : (b : Bool) → common_prefix hs ns ≤ length hs → elim b [ true ↦ suc (common_prefix hs ns) | false ↦ 0 ] ≤ suc (length hs)
    go true le = omega arith
    go false le = omega arith

pub is_shared : (hs ns : List ℕ) → take (common_prefix hs ns) hs ≡ take (common_prefix hs ns) ns
unfolding common_prefix
is_shared [] ns = nothing ns
  where
    nothing : (ms : List ℕ) → take 0 [] ≡ take 0 ms
    nothing ms = refl
is_shared (h ∷ hs) [] = refl
is_shared (h ∷ hs) (n ∷ ns) = go (eqb h n) refl (is_shared hs ns)
  where
    go : (b : Bool) → eqb h n ≡ b → take (common_prefix hs ns) hs ≡ take (common_prefix hs ns) ns →
        take (elim b [ true ↦ suc (common_prefix hs ns) | false ↦ 0 ]) (h ∷ hs) ≡ take (elim b [ true ↦ suc (common_prefix hs ns) | false ↦ 0 ]) (n ∷ ns)
    go true e ih = rw (eqb-true h n e, ih)
    go false e ih = refl

-- a list that begins with the first k of hs shares at least these
common_least : (k : ℕ) (hs ns : List ℕ) → k ≤ length hs → k ≤ common_prefix hs (take k hs ++ ns)
unfolding common_prefix
common_least zero hs ns le = omega arith
common_least (suc k) [] ns le = absurd (omega arith)
common_least (suc k) (h ∷ hs) ns le = go (eqb h h) (eq-eqb h h refl) (common_least k hs ns (omega arith))
  where
    go : (b : Bool) → b ≡ true → k ≤ common_prefix hs (take k hs ++ ns) → suc k ≤ elim b [ true ↦ suc (common_prefix hs (take k hs ++ ns)) | false ↦ 0 ]
    go true e ih = omega arith
    go false e ih = absurd (true≢false (sym e))

up_same : (hs ns : List ℕ) → names_up hs (length hs - common_prefix hs ns) (drop (common_prefix hs ns) ns) ≡ ns
unfolding names_up
up_same hs ns =
    let m = common_most hs ns in
    ap (λ (k : ℕ). take k hs ++ drop (common_prefix hs ns) ns) {x = length hs - (length hs - common_prefix hs ns)} {y = common_prefix hs ns} (omega arith)
    ∙ ap (λ (l : List ℕ). l ++ drop (common_prefix hs ns) ns) (is_shared hs ns)
    ∙ take-append-drop (common_prefix hs ns) ns

same_path : (place : Place) (q : Path) → resolve_path place (written_path place q) ≡ q
unfolding resolve_path written_path
same_path place (from_self ns) = refl
same_path place (from_program ns) = ap (λ (l : List ℕ). from_program l) (up_same (holder place) ns)

not_above : (place : Place) (q : Path) → above_program place (written_path place q) ≡ false
unfolding above_program written_path
not_above place (from_self ns) = refl
not_above place (from_program ns) = le-ltb (length (holder place)) (length (holder place) - common_prefix (holder place) ns) (omega arith)

deepest : (place : Place) (further : ℕ) (ns : List ℕ) → further ≤ length (holder place) →
    length (holder place) - common_prefix (holder place) (names_up (holder place) further ns) ≤ further
unfolding names_up
deepest place further ns le =
    let s = common_least (length (holder place) - further) (holder place) ns (omega arith) in
    omega arith

pub path_written : PathWritten
path_written = record { same_path = same_path; not_above = not_above; deepest = deepest; is_shared = is_shared }
