-- docs/LAYOUT.md, expressions: a path of the source as an expression entry. Assumes nothing.
use Rattle.std.specs.Prelude.{ℕ, eqb}
use Rattle.framed.specs.Common.{when◌then◌else◌}
use Rattle.framed.specs.Tree.{Written, Base}
use Rattle.framed.specs.Paths.{resolve_path}
use Rattle.tables.specs.declared.ExpressionEntry.{ExpressionEntry}
use Rattle.emission.specs.Emit.{Emitting, emit_base}
use Rattle.emit_steps.specs.Steps.{place_of}
use Rattle.emit_steps.specs.declared.Place.{Place}

-- the entry of a path whose first token has kind k: `self` or `^`
unfoldable pub kind_entry : ℕ → ℕ → ℕ → ExpressionEntry
kind_entry k j n = when eqb k 1 then ExpressionEntry.FromSelf j n else ExpressionEntry.FromProgram j n

-- a path as expression x
unfoldable pub path_base : Place → ℕ → Written → Emitting → Emitting
path_base place x w t = emit_base (Base.path (resolve_path (place_of place) w)) x t
