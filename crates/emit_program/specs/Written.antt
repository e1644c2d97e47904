-- docs/LAYOUT.md, program words and literal bytes: what the functions that write them for a source leave. A source that load accepts has the words and bytes of its
-- program. Assumes nothing.
use Rattle.std.specs.Prelude.{◌≡◌, List, ℕ, length}
use Rattle.std.proofs.Math.Option.{some}
use Rattle.framed.specs.Common.{bytes}
use Rattle.framed.specs.Symbols.{number_in}
use Rattle.framed.specs.Meaning.{Lengths, refusal}
use Rattle.framed.specs.Program.{Program, program}
use Rattle.sweep.specs.Decides.{Short}
use Rattle.names.specs.Kept.{table_of}
use Rattle.table_updates.specs.Updates.{set_frame_limit, set_text_limit, set_names, set_literals, set_expressions, set_instructions, set_codes, set_path_names, set_program_slots, set_start}
use Rattle.shapes.specs.Numbers.{Numbers}
use Rattle.emission.specs.Emit.{cleared, write_names, program_words, literal_bytes}
use Rattle.emit_steps.specs.Steps.{numbers}
use Rattle.emit_steps.specs.declared.Next.{Next}
use Rattle.emit_tree.specs.Tree.{TreeEmitted, FirstSlot}
use Rattle.start_code.specs.StartCode.{start_code}

-- ---- The header, in parts

unfoldable pub write_limits : List ℕ → (F T names literals : ℕ) → List ℕ
write_limits p F T names literals = set_literals (set_names (set_text_limit (set_frame_limit p F) T) names) literals

unfoldable pub write_counts : List ℕ → Numbers → (slots : ℕ) → List ℕ
write_counts p s slots =
    set_program_slots
    (set_path_names (set_codes (set_instructions (set_expressions p s.expressions) s.instructions) s.codes) s.path_names)
    slots

-- Main and start have their numbers in this table
unfoldable pub write_start : List (List ℕ) → List ℕ → List ℕ
write_start table p = set_start p (start_code p (number_in table (bytes "Main")) (number_in table (bytes "start")))

-- with the place of the first slot of the program frame
pub record HeaderWritten (s begins ends : List ℕ) (count literals : ℕ) (n : Next) (F T : ℕ) (p p' : List ℕ) : Type 0 where
  pub slots : ℕ
  pub slots_are : FirstSlot s slots
  pub is : p' ≡ write_start (table_of s begins ends count) (write_counts (write_limits p F T count literals) (numbers n) slots)

-- ---- Tree and names

pub record TreeWritten (s begins ends : List ℕ) (count : ℕ) (p p' : List ℕ) (r : Next) : Type 0 where
  pub words : List ℕ
  pub tree : TreeEmitted s begins ends count p words r
  pub is : p' ≡ write_names (table_of s begins ends count) 0 words

-- ---- Both memories

-- from cleared memories, where load accepts the source and the names kept are those of its program
pub record TablesWritten (s begins ends : List ℕ) (count F T : ℕ) (p l p' l' : List ℕ) : Type 0 where
  pub words : (m : Lengths) (q : Program) → refusal m s F T ≡ 0 → program s ≡ some q → table_of s begins ends count ≡ q.names → p ≡ cleared 16384 → p' ≡ program_words q F T
  pub bytes : (m : Lengths) (q : Program) → refusal m s F T ≡ 0 → program s ≡ some q → l ≡ cleared 8192 → l' ≡ literal_bytes q

pub record CanEmit (s p l : List ℕ) : Type 0 where
  pub short : Short s
  pub program_size : length p ≡ 16384
  pub literal_size : length l ≡ 8192

-- where load accepts the source
pub record Emitted (s : List ℕ) (F T : ℕ) (p l : List ℕ) : Type 0 where
  pub words : (m : Lengths) (q : Program) → refusal m s F T ≡ 0 → program s ≡ some q → p ≡ program_words q F T
  pub bytes : (m : Lengths) (q : Program) → refusal m s F T ≡ 0 → program s ≡ some q → l ≡ literal_bytes q
