-- Laws of the limits, one for each way through each function. Assumes nothing.
use mathlib.Core.Path.{◌≡◌, sym, ap, ◌∙◌}
use mathlib.Core.Bool.{Bool, true, false}
use mathlib.Core.List.{List}
use mathlib.Core.Option.{some}
use Prim.Native.Nat.{ℕ, ◌+◌, ◌-◌, ◌<◌, ◌≤◌}
use native.Mathlib.Omega.{arith}
use lib.Dec.{leb, ltb}
use lib.ListN.{length}
use borrow.Author.Tests.{lt-ltb, le-ltb}
use Rattle.framed.specs.Common.{count, total}
use Rattle.framed.specs.Bytes.{class}
use Rattle.framed.specs.Tokens.{Token, tokens}
use Rattle.framed.specs.Symbols.{symbols, name_table}
use Rattle.framed.specs.Tree.{Written, Slots}
use Rattle.framed.specs.Parse.{parse}
use Rattle.framed.specs.Meaning.{pieces, expression, instruction, string, code, is_one, path_names, above_limit, frame_outside}
use Rattle.framed.proofs.ParseExact.{parse_sound}
use Rattle.sweep.specs.Decides.{Decides}
use Rattle.sums.specs.Weights.{whole_sum, Sums}
use Rattle.sums.proofs.Trees.{tree_sum}
use Rattle.sums.proofs.Counted.{expressions, instructions, strings, codes, frames, marks, path_name_total, far_ups}
use Rattle.limits.specs.Limits.{CountsNames, misplaced_tree, path_names_tree, limit_tree, far_tree, frames_tree}

-- ---- The tree of a source

module _ (ts : List Token) (ss : Slots Written) (f : parse (symbols ts) ≡ some ss) where
  instructions_are : whole_sum 1 ts ≡ count (is_one instruction) (pieces ss)
  instructions_are = tree_sum 1 ts ss (parse_sound (symbols ts) f) ∙ instructions (pieces ss)

  strings_are : whole_sum 2 ts ≡ count (is_one string) (pieces ss)
  strings_are = tree_sum 2 ts ss (parse_sound (symbols ts) f) ∙ strings (pieces ss)

  codes_are : whole_sum 3 ts ≡ count (is_one code) (pieces ss)
  codes_are = tree_sum 3 ts ss (parse_sound (symbols ts) f) ∙ codes (pieces ss)

  expressions_are : whole_sum 0 ts ≡ count (is_one expression) (pieces ss)
  expressions_are = tree_sum 0 ts ss (parse_sound (symbols ts) f) ∙ expressions (pieces ss)

  frames_are : whole_sum 4 ts ≡ count frame_outside (pieces ss)
  frames_are = tree_sum 4 ts ss (parse_sound (symbols ts) f) ∙ frames (pieces ss)

  path_names_are : whole_sum 6 ts ≡ total path_names (pieces ss) + whole_sum 7 ts
  path_names_are = tree_sum 6 ts ss (parse_sound (symbols ts) f) ∙ path_name_total (pieces ss) ∙ ap (λ (n : ℕ). total path_names (pieces ss) + n) (sym (tree_sum 7 ts ss (parse_sound (symbols ts) f)))

module _ (s : List ℕ) (n : ℕ) where
  pub misplaced_is : Sums s 5 n → Decides misplaced_tree s (ltb 0 n)
  unfolding misplaced_tree
  misplaced_is m = record { is = λ ts ss e f. ap (ltb 0) (m.is ts e ∙ tree_sum 5 ts ss (parse_sound (symbols ts) f)) ∙ marks (pieces ss) }

  pub far_is : Sums s 8 n → Decides far_tree s (ltb 0 n)
  unfolding far_tree
  far_is m = record { is = λ ts ss e f. ap (ltb 0) (m.is ts e ∙ tree_sum 8 ts ss (parse_sound (symbols ts) f)) ∙ far_ups (pieces ss) }

pub frames_is : (s : List ℕ) (F n : ℕ) → Sums s 4 n → Decides (frames_tree F) s (leb F n)
unfolding frames_tree
frames_is s F n m = record { is = λ ts ss e f. ap (leb F) (m.is ts e ∙ frames_are ts ss f) }

pub names_are : (s : List ℕ) (n less : ℕ) → Sums s 6 n → Sums s 7 less → (r : ℕ) → r ≡ n - less → Decides path_names_tree s (ltb 2048 r)
unfolding path_names_tree
names_are s n less m l r q = record { is = λ ts ss e f. ap (ltb 2048) (rest_is (total path_names (pieces ss)) (m.is ts e) (l.is ts e) (path_names_are ts ss f)) }
  where
    rest_is : {a b : ℕ} (c : ℕ) → n ≡ a → less ≡ b → a ≡ c + b → r ≡ c
    rest_is c x y z = omega arith

-- ---- Number 9

module _ (s : List ℕ) (a : ℕ) (ma : CountsNames s a) where
  pub limit_1 : 128 < a → Decides limit_tree s true
  unfolding limit_tree above_limit
  limit_1 ta = record { is = λ ts ss e f. rw (sym (ma.is ts e) ∙ lt-ltb 128 a ta) }

  module _ (fa : a ≤ 128) (b : ℕ) (mb : Sums s 1 b) where
    no_names : (ts : List Token) → tokens class s ≡ some ts → ltb 128 (length (name_table ts)) ≡ false
    no_names ts e = sym (ma.is ts e) ∙ le-ltb 128 a fa

    b_is : (t : Bool) → ltb 512 b ≡ t → (ts : List Token) (ss : Slots Written) → tokens class s ≡ some ts → parse (symbols ts) ≡ some ss → ltb 512 (count (is_one instruction) (pieces ss)) ≡ t
    b_is t h ts ss e f = ap (ltb 512) (sym (mb.is ts e ∙ instructions_are ts ss f)) ∙ h

    pub limit_2 : 512 < b → Decides limit_tree s true
    unfolding limit_tree above_limit
    limit_2 tb = record { is = λ ts ss e f. rw (no_names ts e, b_is true (lt-ltb 512 b tb) ts ss e f) }

    module _ (fb : b ≤ 512) (c : ℕ) (mc : Sums s 2 c) where
      c_is : (t : Bool) → ltb 128 c ≡ t → (ts : List Token) (ss : Slots Written) → tokens class s ≡ some ts → parse (symbols ts) ≡ some ss → ltb 128 (count (is_one string) (pieces ss)) ≡ t
      c_is t h ts ss e f = ap (ltb 128) (sym (mc.is ts e ∙ strings_are ts ss f)) ∙ h

      pub limit_3 : 128 < c → Decides limit_tree s true
      unfolding limit_tree above_limit
      limit_3 tc = record { is = λ ts ss e f. rw (no_names ts e, b_is false (le-ltb 512 b fb) ts ss e f, c_is true (lt-ltb 128 c tc) ts ss e f) }

      module _ (fc : c ≤ 128) (d : ℕ) (md : Sums s 3 d) where
        d_is : (t : Bool) → ltb 128 d ≡ t → (ts : List Token) (ss : Slots Written) → tokens class s ≡ some ts → parse (symbols ts) ≡ some ss → ltb 128 (count (is_one code) (pieces ss)) ≡ t
        d_is t h ts ss e f = ap (ltb 128) (sym (md.is ts e ∙ codes_are ts ss f)) ∙ h

        pub limit_4 : 128 < d → Decides limit_tree s true
        unfolding limit_tree above_limit
        limit_4 td = record { is = λ ts ss e f. rw (no_names ts e, b_is false (le-ltb 512 b fb) ts ss e f, c_is false (le-ltb 128 c fc) ts ss e f, d_is true (lt-ltb 128 d td) ts ss e f) }

        module _ (fd : d ≤ 128) (g : ℕ) (mg : Sums s 0 g) where
          g_is : (t : Bool) → ltb 1024 g ≡ t → (ts : List Token) (ss : Slots Written) → tokens class s ≡ some ts → parse (symbols ts) ≡ some ss → ltb 1024 (count (is_one expression) (pieces ss)) ≡ t
          g_is t h ts ss e f = ap (ltb 1024) (sym (mg.is ts e ∙ expressions_are ts ss f)) ∙ h

          pub limit_5 : 1024 < g → Decides limit_tree s true
          unfolding limit_tree above_limit
          limit_5 tg = record { is = λ ts ss e f. rw (no_names ts e, b_is false (le-ltb 512 b fb) ts ss e f, c_is false (le-ltb 128 c fc) ts ss e f, d_is false (le-ltb 128 d fd) ts ss e f, g_is true (lt-ltb 1024 g tg) ts ss e f) }

          pub limit_6 : g ≤ 1024 → (r : Bool) → Decides path_names_tree s r → Decides limit_tree s r
          unfolding limit_tree above_limit path_names_tree
          limit_6 fg r m = record { is = λ ts ss e f. rw (no_names ts e, b_is false (le-ltb 512 b fb) ts ss e f, c_is false (le-ltb 128 c fc) ts ss e f, d_is false (le-ltb 128 d fd) ts ss e f, g_is false (le-ltb 1024 g fg) ts ss e f) (m.is ts ss e f) }
