-- Laws of a path as an expression. Assumes nothing.
use mathlib.Core.Path.{◌≡◌, refl, ap, ◌∙◌}
use mathlib.Core.List.{List}
use Prim.Native.Nat.{ℕ, ◌+◌, ◌-◌}
use native.Mathlib.Omega.{arith}
use lib.ListN.{length}
use borrow.Author.Tests.{eq-eqb, ne_eqb}
use Rattle.framed.specs.Symbols.{Symbol}
use Rattle.framed.specs.Tree.{Written}
use Rattle.framed.specs.Grammar.{Path⊢}
use Rattle.framed.specs.Paths.{names_of, resolve_path}
use Rattle.sweep.specs.Kinds.{kind_of, front_kind}
use Rattle.token.specs.Reading.{fixed_kind}
use Rattle.grammar.specs.Runs.{Sees}
use Rattle.grammar.specs.declared.Seen.{Seen}
use Rattle.names.specs.Kept.{table_of}
use Rattle.tables.specs.declared.ExpressionEntry.{ExpressionEntry}
use Rattle.table_updates.specs.Updates.{set_expression}
use Rattle.shapes.specs.Numbers.{Numbers}
use Rattle.emission.specs.Emit.{Emitting, emitting, emit_path, emit_base, path_entry}
use Rattle.emit_steps.specs.Steps.{numbers, place_of}
use Rattle.emit_steps.specs.declared.Next.{Next}
use Rattle.emit_steps.specs.declared.Place.{Place}
use Rattle.emit_paths.specs.Emits.{Ahead, Small, Emitted, Emits, PathHere, path_emitted}
use Rattle.emit_paths.proofs.Symbols.{seen_kind}
use Rattle.emit_bases.specs.Bases.{kind_entry, path_base}

pub entry_self : (k j n : ℕ) → k ≡ 1 → ExpressionEntry.FromSelf j n ≡ kind_entry k j n
unfolding kind_entry
entry_self k j n e = rw (eq-eqb k 1 e)

pub entry_program : (k j n : ℕ) → (k ≡ 1 → ⊥) → ExpressionEntry.FromProgram j n ≡ kind_entry k j n
unfolding kind_entry
entry_program k j n e = rw (ne_eqb k 1 e)

-- the kind tells which path it is
entry_is : (place : Place) (us vs : List Symbol) (w : Written) → Path⊢ us w vs → (j : ℕ) →
    kind_entry (front_kind us) j (length (names_of (resolve_path (place_of place) w))) ≡ path_entry (resolve_path (place_of place) w) j
unfolding kind_entry front_kind kind_of fixed_kind path_entry resolve_path names_of
entry_is place _ vs _ (Path⊢.self d) j = refl
entry_is place _ vs _ (Path⊢.up d g) j = refl

module _ (s b e : List ℕ) (count : ℕ) (place : Place) (x : ℕ) (n : Next) (p : List ℕ) (t : Seen) (h : Sees s n.at t) (p₁ : List ℕ) (m : Next)
    (f : Emits (PathHere place) (path_emitted place) s (table_of s b e count) n p p₁ m) (d : ℕ) (ed : d ≡ m.paths - n.paths)
    (y : ExpressionEntry) (ey : y ≡ kind_entry t.kind n.paths d) (p' : List ℕ) (ep : p' ≡ set_expression p₁ x y) where
  base_says : (us vs : List Symbol) (w : Written) → Ahead s (table_of s b e count) n us → PathHere place us w vs →
      Small (path_base place x w (emitting p (numbers n))).next → Emitted s (table_of s b e count) (path_base place x w (emitting p (numbers n))) p' m vs
  unfolding path_base path_emitted emit_base emit_path
  base_says us vs w a g l =
      let z = f.says us vs w a g l in
      let ns = names_of (resolve_path (place_of place) w) in
      let kind : front_kind us ≡ t.kind = seen_kind s (table_of s b e count) n t h us a in
      let words_is : p₁ ≡ (emit_path ns (emitting p (numbers n))).words = ap (λ (t : Emitting). t.words) z.is in
      let next_is : numbers m ≡ (emit_path ns (emitting p (numbers n))).next = ap (λ (t : Emitting). t.next) z.is in
      let size : d ≡ length ns = ed ∙ counted m.paths n.paths (length ns) (ap (λ (t : Numbers). t.path_names) next_is) in
      let entry : y ≡ path_entry (resolve_path (place_of place) w) n.paths = ey ∙ rw (size, ← kind) (entry_is place us vs w g.path n.paths) in
      record { is = ap (λ (q : List ℕ). emitting q (numbers m)) (ep ∙ rw (entry, words_is)) ∙ ap (emitting _) next_is; ahead = z.ahead }
    where
      counted : (m n k : ℕ) → m ≡ n + k → m - n ≡ k
      counted m n k e = omega arith

  pub base_path : Emits (PathHere place) (path_base place x) s (table_of s b e count) n p p' m
  base_path = record { says = λ us vs w a g l. base_says us vs w a g l; on = f.on }
