-- The sums over the pieces of a tree are `framed`'s counts and tests, number by number. Assumes nothing.
use mathlib.Core.Path.{◌≡◌, refl, ap, ◌∙◌}
use mathlib.Core.Bool.{Bool, true, false, ◌||◌}
use mathlib.Core.List.{List, [], ◌∷◌}
use Prim.Native.Nat.{ℕ, zero, suc, ◌+◌, ◌-◌, ◌<◌, ◌≤◌}
use native.Mathlib.Omega.{arith}
use lib.Dec.{eqb, ltb}
use lib.ListN.{length, take, length-append}
use lib.Seq.{length-take-le}
use borrow.Author.Tests.{lt-ltb, le-ltb, ltb-true, ltb-false}
use Rattle.framed.specs.Common.{when◌then◌else◌, any, count, total}
use Rattle.framed.specs.Tree.{Written}
use Rattle.framed.specs.Paths.{outside_code, in_code, holder, names_up, above_program, names_of, resolve_path}
use Rattle.framed.specs.Meaning.{Kind, expression, instruction, string, code, kind_number, Piece, frame, path, operator, one, outside, is_one, misplaced, path_names, too_far_up, frame_outside}
use Rattle.sums.specs.Weights.{one_if, up_weight}
use Rattle.sums.proofs.Trees.{out, out_none, first_up, further_up, ups_weight, names_weight, written_weight, kind_weight, piece_weight}

-- ---- Totals, counts and tests

counted : (test : Piece → Bool) (weight : Piece → ℕ) → ((p : Piece) → weight p ≡ (when test p then 1 else 0)) → (ps : List Piece) → total weight ps ≡ count test ps
unfolding total count
counted test weight h [] = refl
counted test weight h (p ∷ ps) = rw (h p) (go (test p) (counted test weight h ps))
  where
    go : (t : Bool) → total weight ps ≡ count test ps → ◌≡◌ {A = ℕ} ((when t then 1 else 0) + total weight ps) (elim t [ true ↦ suc (count test ps) | false ↦ count test ps ])
    go true e = omega arith
    go false e = omega arith

positive : (test : Piece → Bool) (weight : Piece → ℕ) → ((p : Piece) → ltb 0 (weight p) ≡ test p) → (ps : List Piece) → ltb 0 (total weight ps) ≡ any test ps
unfolding total any
positive test weight h [] = refl
positive test weight h (p ∷ ps) = go (test p) (h p) (positive test weight h ps)
  where
    more : (a b : ℕ) → 0 < a → 0 < a + b
    more a b l = omega arith

    zero_add : (a b : ℕ) → a ≤ 0 → a + b ≡ b
    zero_add a b l = omega arith

    go : (t : Bool) → ltb 0 (weight p) ≡ t → ltb 0 (total weight ps) ≡ any test ps → ltb 0 (weight p + total weight ps) ≡ (t || any test ps)
    go true e i = lt-ltb 0 (weight p + total weight ps) (more (weight p) (total weight ps) (ltb-true 0 (weight p) e))
    go false e i = ap (ltb 0) (zero_add (weight p) (total weight ps) (ltb-false 0 (weight p) e)) ∙ i

less_of : (a b c : Piece → ℕ) → ((p : Piece) → a p ≡ b p + c p) → (ps : List Piece) → total a ps ≡ total b ps + total c ps
unfolding total
less_of a b c h [] = refl
less_of a b c h (p ∷ ps) = omega (arith, h p, less_of a b c h ps)

-- ---- Paths that add nothing

module _ (what : ℕ) (no_mark : one_if what 5 ≡ 0) where
  names_none : one_if what 6 ≡ 0 → (ns : List ℕ) → names_weight what ns ≡ 0
  unfolding names_weight
  names_none e [] = refl
  names_none e (n ∷ ns) = omega (arith, names_none e ns)

  ups_none : one_if what 7 ≡ 0 → one_if what 8 ≡ 0 → (o : Bool) (q f k : ℕ) → ups_weight what o q f k ≡ 0
  unfolding ups_weight further_up up_weight
  ups_none e g o q f zero = refl
  ups_none e g o q f (suc k) = rw (no_mark, e, g) (omega (arith, ups_none e g o q (f + 1) k, out_none o, either (ltb f (q - 1))))
    where
      either : (t : Bool) → ◌≡◌ {A = ℕ} (when t then 0 else 0) 0
      either true = refl
      either false = refl

  path_none : one_if what 6 ≡ 0 → one_if what 7 ≡ 0 → one_if what 8 ≡ 0 → eqb what 6 ≡ false → (o : Bool) (q : ℕ) (w : Written) → written_weight what o q w ≡ 0
  unfolding written_weight first_up up_weight
  path_none a b c d o q (Written.self ns) = rw no_mark (omega (arith, out_none o, names_none a ns))
  path_none a b c d o q (Written.up k ns) = rw (no_mark, d) (omega (arith, out_none o, names_none a ns, ups_none b c o q 0 k))

five_names : (ns : List ℕ) → names_weight 5 ns ≡ 0
unfolding names_weight one_if
five_names [] = refl
five_names (n ∷ ns) = omega (arith, five_names ns)

five_ups : (q f k : ℕ) → ups_weight 5 false q f k ≡ 0
unfolding ups_weight further_up up_weight one_if out
five_ups q f zero = refl
five_ups q f (suc k) = omega (arith, five_ups q (f + 1) k, either (ltb f (q - 1)))
  where
    either : (t : Bool) → ◌≡◌ {A = ℕ} (when t then 0 else 0) 0
    either true = refl
    either false = refl

-- in code no mark counts
in_code_none : (q : ℕ) (w : Written) → written_weight 5 false q w ≡ 0
unfolding written_weight one_if out first_up up_weight
in_code_none q (Written.self ns) = omega (arith, five_names ns)
in_code_none q (Written.up k ns) = omega (arith, five_names ns, five_ups q 0 k)

-- ---- 0 to 3: expressions, instructions, strings, codes

module _ (what : ℕ) (k : Kind) (same : (j : Kind) → kind_weight what j ≡ (when eqb (kind_number k) (kind_number j) then 1 else 0))
    (a : one_if what 4 ≡ 0) (b : one_if what 5 ≡ 0) (c : one_if what 6 ≡ 0) (d : one_if what 7 ≡ 0) (e : one_if what 8 ≡ 0) (f : eqb what 6 ≡ false) where
  one_piece : (p : Piece) → piece_weight what p ≡ (when is_one k p then 1 else 0)
  unfolding piece_weight is_one
  one_piece (frame p ns) = rw a (out_none (outside p))
  one_piece (path p w) = path_none what b c d e f (outside p) _ w
  one_piece (operator p) = rw b (out_none (outside p))
  one_piece (one j) = same j

  kind_count : (ps : List Piece) → total (piece_weight what) ps ≡ count (is_one k) ps
  kind_count = counted (is_one k) (piece_weight what) one_piece

pub expressions : (ps : List Piece) → total (piece_weight 0) ps ≡ count (is_one expression) ps
unfolding one_if kind_weight kind_number
expressions = kind_count 0 expression same refl refl refl refl refl refl
  where
    same : (j : Kind) → kind_weight 0 j ≡ (when eqb 0 (kind_number j) then 1 else 0)
    same expression = refl
    same instruction = refl
    same string = refl
    same code = refl

pub instructions : (ps : List Piece) → total (piece_weight 1) ps ≡ count (is_one instruction) ps
unfolding one_if kind_weight kind_number
instructions = kind_count 1 instruction same refl refl refl refl refl refl
  where
    same : (j : Kind) → kind_weight 1 j ≡ (when eqb 1 (kind_number j) then 1 else 0)
    same expression = refl
    same instruction = refl
    same string = refl
    same code = refl

pub strings : (ps : List Piece) → total (piece_weight 2) ps ≡ count (is_one string) ps
unfolding one_if kind_weight kind_number
strings = kind_count 2 string same refl refl refl refl refl refl
  where
    same : (j : Kind) → kind_weight 2 j ≡ (when eqb 2 (kind_number j) then 1 else 0)
    same expression = refl
    same instruction = refl
    same string = refl
    same code = refl

pub codes : (ps : List Piece) → total (piece_weight 3) ps ≡ count (is_one code) ps
unfolding one_if kind_weight kind_number
codes = kind_count 3 code same refl refl refl refl refl refl
  where
    same : (j : Kind) → kind_weight 3 j ≡ (when eqb 3 (kind_number j) then 1 else 0)
    same expression = refl
    same instruction = refl
    same string = refl
    same code = refl

-- ---- 4: frames outside code

pub frames : (ps : List Piece) → total (piece_weight 4) ps ≡ count frame_outside ps
unfolding piece_weight frame_outside one_if kind_weight outside out
frames = counted frame_outside (piece_weight 4) each
  where
    each : (p : Piece) → piece_weight 4 p ≡ (when frame_outside p then 1 else 0)
    each (frame (outside_code ns) ms) = refl
    each (frame (in_code ns) ms) = refl
    each (path p w) = path_none 4 refl refl refl refl refl (outside p) _ w
    each (operator p) = out_none (outside p)
    each (one expression) = refl
    each (one instruction) = refl
    each (one string) = refl
    each (one code) = refl

-- ---- 5: paths and operators outside code

pub marks : (ps : List Piece) → ltb 0 (total (piece_weight 5) ps) ≡ any misplaced ps
unfolding piece_weight misplaced one_if kind_weight outside out written_weight
marks = positive misplaced (piece_weight 5) each
  where
    more : (n : ℕ) → 0 < 1 + n
    more n = omega arith

    most : (n m k : ℕ) → 0 < 1 + n + m + k
    most n m k = omega arith

    each : (p : Piece) → ltb 0 (piece_weight 5 p) ≡ misplaced p
    each (frame (outside_code ns) ms) = refl
    each (frame (in_code ns) ms) = refl
    each (path (outside_code ns) (Written.self ms)) = lt-ltb 0 _ (more (names_weight 5 ms))
    each (path (outside_code ns) (Written.up k ms)) = lt-ltb 0 _ (most (first_up 5 (length (holder (outside_code ns)) + 1)) (ups_weight 5 true (length (holder (outside_code ns)) + 1) 0 k) (names_weight 5 ms))
    each (path (in_code ns) w) = ap (ltb 0) (in_code_none (length (holder (in_code ns)) + 1) w)
    each (operator (outside_code ns)) = refl
    each (operator (in_code ns)) = refl
    each (one expression) = refl
    each (one instruction) = refl
    each (one string) = refl
    each (one code) = refl

-- ---- 6 and 7: the names in resolved paths; 8: `^` above the program frame

length_names : (ns : List ℕ) → names_weight 6 ns ≡ length ns
unfolding names_weight one_if
length_names [] = refl
length_names (n ∷ ns) = omega (arith, length_names ns)

-- a further `^` past all levels, and one before
back : (d : ℕ) → d + 1 - 1 ≡ d
back d = omega arith

module _ (d f : ℕ) where
  past : (what : ℕ) → d ≤ f → further_up what (d + 1) f ≡ one_if what 8
  unfolding further_up up_weight
  past what l = rw (back d, le-ltb f d l)

  before : (what : ℕ) → f < d → further_up what (d + 1) f ≡ one_if what 7
  unfolding further_up up_weight
  before what l = rw (back d, lt-ltb f d l)

near_none : (o : Bool) (d f k : ℕ) → d ≤ f → ups_weight 7 o (d + 1) f k ≡ 0
unfolding ups_weight one_if
near_none o d f zero l = refl
near_none o d f (suc k) l = rw (past d f 7 l) (omega (arith, out_none o, near_none o d (f + 1) k (omega arith)))

near_some : (o : Bool) (d f k : ℕ) → f ≤ d → ups_weight 7 o (d + 1) f k + (d - (f + k)) ≡ d - f
unfolding ups_weight one_if
near_some o d f zero l = omega arith
near_some o d f (suc k) l = go (ltb f d) refl (λ h. near_some o d (f + 1) k h)
  where
    go : (t : Bool) → ltb f d ≡ t → (f + 1 ≤ d → ups_weight 7 o (d + 1) (f + 1) k + (d - (f + 1 + k)) ≡ d - (f + 1)) →
        out o 0 + further_up 7 (d + 1) f + ups_weight 7 o (d + 1) (f + 1) k + (d - (f + suc k)) ≡ d - f
    go true e i = let h = ltb-true f d e in rw (before d f 7 h) (omega (arith, out_none o, i (omega arith)))
    go false e i = let h = ltb-false f d e in rw (past d f 7 h) (omega (arith, out_none o, near_none o d (f + 1) k (omega arith)))

far_all : (o : Bool) (d f k : ℕ) → d ≤ f → ups_weight 8 o (d + 1) f k ≡ k
unfolding ups_weight one_if
far_all o d f zero l = refl
far_all o d f (suc k) l = rw (past d f 8 l) (omega (arith, out_none o, far_all o d (f + 1) k (omega arith)))

far_some : (o : Bool) (d f k : ℕ) → f ≤ d → ups_weight 8 o (d + 1) f k ≡ f + k - d
unfolding ups_weight one_if
far_some o d f zero l = omega arith
far_some o d f (suc k) l = go (ltb f d) refl (λ h. far_some o d (f + 1) k h)
  where
    go : (t : Bool) → ltb f d ≡ t → (f + 1 ≤ d → ups_weight 8 o (d + 1) (f + 1) k ≡ f + 1 + k - d) →
        out o 0 + further_up 8 (d + 1) f + ups_weight 8 o (d + 1) (f + 1) k ≡ f + suc k - d
    go true e i = let h = ltb-true f d e in rw (before d f 8 h) (omega (arith, out_none o, i (omega arith)))
    go false e i = let h = ltb-false f d e in rw (past d f 8 h) (omega (arith, out_none o, far_all o d (f + 1) k (omega arith)))

up_length : (hs ns : List ℕ) (k : ℕ) → length (names_up hs k ns) ≡ (length hs - k) + length ns
unfolding names_up
up_length hs ns k = length-append (take (length hs - k) hs) ns ∙ ap (λ (n : ℕ). n + length ns) (length-take-le (length hs - k) hs (omega arith))

pub path_name_total : (ps : List Piece) → total (piece_weight 6) ps ≡ total path_names ps + total (piece_weight 7) ps
unfolding piece_weight path_names one_if kind_weight written_weight resolve_path names_of first_up up_weight
path_name_total = less_of (piece_weight 6) path_names (piece_weight 7) each
  where
    each : (p : Piece) → piece_weight 6 p ≡ path_names p + piece_weight 7 p
    each (frame p ns) = omega (arith, out_none (outside p))
    each (path p (Written.self ns)) = omega (arith, out_none (outside p), length_names ns, names_none 7 refl refl ns)
    each (path p (Written.up k ns)) =
        omega (
          arith,
          out_none (outside p),
          length_names ns,
          names_none 7 refl refl ns,
          ups_none 6 refl refl refl (outside p) (length (holder p) + 1) 0 k,
          near_some (outside p) (length (holder p)) 0 k (omega arith),
          up_length (holder p) ns k,
        )
    each (operator p) = omega (arith, out_none (outside p))
    each (one expression) = refl
    each (one instruction) = refl
    each (one string) = refl
    each (one code) = refl

pub far_ups : (ps : List Piece) → ltb 0 (total (piece_weight 8) ps) ≡ any too_far_up ps
unfolding piece_weight too_far_up above_program one_if kind_weight written_weight first_up up_weight
far_ups = positive too_far_up (piece_weight 8) each
  where
    sub_ltb : (k d : ℕ) → ltb 0 (k - d) ≡ ltb d k
    sub_ltb k d = go (ltb d k) refl
      where
        go : (t : Bool) → ltb d k ≡ t → ltb 0 (k - d) ≡ t
        go true e = let h = ltb-true d k e in lt-ltb 0 (k - d) (omega arith)
        go false e = let h = ltb-false d k e in le-ltb 0 (k - d) (omega arith)

    both : {a b : ℕ} → a ≡ 0 → b ≡ 0 → a + b ≡ 0
    both e f = omega arith

    four : {a b c : ℕ} (k d : ℕ) → a ≡ 0 → b ≡ 0 → c ≡ 0 + k - d → a + 0 + c + b ≡ k - d
    four k d e f g = omega arith

    each : (p : Piece) → ltb 0 (piece_weight 8 p) ≡ too_far_up p
    each (frame p ns) = ap (ltb 0) (out_none (outside p))
    each (path p (Written.self ns)) = ap (ltb 0) (both (out_none (outside p)) (names_none 8 refl refl ns))
    each (path p (Written.up k ns)) =
        ap (ltb 0) (four k (length (holder p)) (out_none (outside p)) (names_none 8 refl refl ns) (far_some (outside p) (length (holder p)) 0 k (omega arith))) ∙ sub_ltb k (length (holder p))
    each (operator p) = ap (ltb 0) (out_none (outside p))
    each (one expression) = refl
    each (one instruction) = refl
    each (one string) = refl
    each (one code) = refl
