-- A base has one of the first five kinds. Assumes nothing.
use mathlib.Core.List.{List}
use Prim.Native.Nat.{ℕ, ◌<◌}
use native.Mathlib.Omega.{arith}
use Rattle.framed.specs.Tree.{Base}
use Rattle.framed.specs.Paths.{Path, from_self, from_program}
use Rattle.tables.specs.Fields.{expression_kind}
use Rattle.table_updates.specs.Encode.{expression_kind_of}
use Rattle.shapes.specs.Numbers.{Numbers}
use Rattle.emission.specs.Emit.{path_entry}
use Rattle.emission_tree.specs.Standing.{Standing}
use Rattle.emission_tree.specs.Entry.{BaseAt}

path_kind : (q : Path) (j : ℕ) → expression_kind_of (path_entry q j) < 5
unfolding expression_kind_of path_entry
path_kind (from_self ns) j = omega arith
path_kind (from_program ns) j = omega arith

-- a base has one of the first five kinds
pub base_kind : (p : List ℕ) (γ : Standing) (N S : ℕ) (b : Base Path) (x c : ℕ) (s : Numbers) → BaseAt p γ N S b x c s → expression_kind p x < 5
unfolding expression_kind_of
base_kind p γ N S (Base.integer z) x c s (BaseAt.integer r e) = let k = e.kind in omega arith
base_kind p γ N S (Base.string k) x c s (BaseAt.string r e) = let k = e.kind in omega arith
base_kind p γ N S (Base.path q) x c s (BaseAt.path r e h) = let k = e.kind in let d = path_kind q s.path_names in omega arith
base_kind p γ N S (Base.code k is) x c s (BaseAt.code d l e n f h) = let k = e.kind in omega arith
