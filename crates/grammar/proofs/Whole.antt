-- The whole source is one frame: the cycle's answer is `parse`'s. Assumes nothing.
use mathlib.Core.Path.{◌≡◌, refl, sym, ap, ◌∙◌}
use mathlib.Core.Bool.{false, not}
use mathlib.Core.List.{List, [], ◌∷◌}
use mathlib.Core.Option.{Option as Maybe, some}
use Prim.Native.Nat.{ℕ, suc, ◌+◌, ◌*◌, ◌<◌}
use native.Mathlib.Omega.{arith}
use lib.Dec.{eqb}
use lib.ListN.{length}
use borrow.Author.Tests.{ne_eqb}
use Rattle.framed.specs.Bytes.{class}
use Rattle.framed.specs.Tokens.{Token, Tokens⊢, tokens}
use Rattle.framed.specs.Symbols.{Symbol, numbered, symbols, name_table}
use Rattle.framed.specs.Tree.{Written, Slots}
use Rattle.framed.specs.Parse.{parsed, whole, parse}
use Rattle.framed.specs.Meaning.{is_none}
use Rattle.framed.proofs.TokensExact.{tokens_agree}
use Rattle.framed.proofs.TokensExact.{tokens_fewer}
use Rattle.framed.proofs.ParseFuel.{parse_bound}
use Rattle.source.specs.Positions.{rest}
use Rattle.sweep.specs.Kinds.{kind_of, front_kind}
use Rattle.grammar.specs.Runs.{Outcome, Any, Meets, KindAt, OneFrame}
use Rattle.grammar.specs.Readers.{frame}
use Rattle.std.specs.Prelude.{Option, None, Some}
use Rattle.sweep.proofs.Numbered.{fixed_below}

pub numbered_length : (table : List (List ℕ)) (k c : ℕ) (ts : List Token) → length (numbered table k c ts) ≡ length ts
unfolding numbered
numbered_length table k c [] = refl
numbered_length table k c (Token.name w ∷ ts) = ap suc (numbered_length table k c ts)
numbered_length table k c (Token.integer z ∷ ts) = ap suc (numbered_length table k c ts)
numbered_length table k c (Token.string w ∷ ts) = ap suc (numbered_length table (suc k) c ts)
numbered_length table k c (Token.code ∷ ts) = ap suc (numbered_length table k (suc c) ts)
numbered_length table k c (Token.fixed f ∷ ts) = ap suc (numbered_length table k c ts)

kind_small : (x : Symbol) → kind_of x < 29
unfolding kind_of
kind_small (Symbol.name n) = omega arith
kind_small (Symbol.integer z) = omega arith
kind_small (Symbol.string k) = omega arith
kind_small (Symbol.code k) = omega arith
kind_small (Symbol.fixed f) = omega (arith, fixed_below f)

whole_kind : (ss : Slots Written) (us : List Symbol) → eqb (front_kind us) 29 ≡ not (is_none (whole (parsed ss us)))
unfolding whole front_kind is_none
whole_kind ss [] = refl
whole_kind ss (x ∷ us) = ne_eqb (kind_of x) 29 (λ e. none e (kind_small x))
  where
    none : {m n : ℕ} → m ≡ n → m < n → ⊥
    none e l = omega arith

module _ (s : List ℕ) (x : Option ℕ) (m : Meets frame 0 s 0 x) (ts : List Token) (is : tokens class s ≡ some ts) where
  read : Tokens⊢ class (rest s 0) ts
  unfolding rest
  read = (tokens_agree class s ts).0 is

  enough : ℕ
  enough = 8 * length s + 1

  bounded : whole (frame enough (symbols ts)) ≡ parse (symbols ts)
  unfolding frame enough symbols
  bounded = parse_bound enough (symbols ts) (omega (arith, numbered_length (name_table ts) 0 0 ts, tokens_fewer class ((tokens_agree class s ts).0 is)))

  found : Outcome Any s (name_table ts) (frame enough (symbols ts)) x
  unfolding symbols enough
  found = (m.says (8 * length s + 1) (omega arith)).runs (name_table ts) 0 0 ts read

  fails_none : Outcome Any s (name_table ts) (frame enough (symbols ts)) None → false ≡ not (is_none (parse (symbols ts)))
  unfolding whole is_none
  fails_none (Outcome.refused e) = ap (λ (o : Maybe (Slots Written)). not (is_none o)) (ap whole (sym e) ∙ bounded)

  ends : (p k : ℕ) → KindAt s p k → Outcome Any s (name_table ts) (frame enough (symbols ts)) (Some p) → eqb k 29 ≡ not (is_none (parse (symbols ts)))
  ends p k h (Outcome.done k₂ c₂ {ts = us} {a = ss} q d e) =
      ap (λ (n : ℕ). eqb n 29) (sym (h.is (name_table ts) k₂ c₂ us d)) ∙ whole_kind ss (numbered (name_table ts) k₂ c₂ us)
      ∙ ap (λ (o : Maybe (Slots Written)). not (is_none o)) (ap whole (sym e) ∙ bounded)

pub frame_none : (s : List ℕ) (x : Option ℕ) → Meets frame 0 s 0 x → x ≡ None → OneFrame s false
frame_none s x m e = record { is = λ ts is. fails_none s None (rw e at m) ts is (found s None (rw e at m) ts is) }

pub frame_ends : (s : List ℕ) (x : Option ℕ) (p k : ℕ) → Meets frame 0 s 0 x → x ≡ Some p → KindAt s p k → OneFrame s (eqb k 29)
frame_ends s x p k m e h = record { is = λ ts is. ends s (Some p) (rw e at m) ts is p k h (found s (Some p) (rw e at m) ts is) }
