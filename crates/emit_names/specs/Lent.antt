-- What is lent to emission. Assumes nothing.
use Rattle.std.specs.Prelude.{List, ℕ}
use Rattle.names.specs.Kept.{table_of}
use Rattle.emit_names.specs.declared.Emission.{Emission}

-- the names kept of the source
abbrev pub table_in : Emission → List (List ℕ)
table_in e = table_of e.tokens.source.now e.names.begins.now e.names.ends.now e.names.count
