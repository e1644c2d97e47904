-- Document 01, "The calls", whole memories (here: well-formed): limits, names and literals of the program words p and literal bytes l. Assumes nothing.
use Rattle.std.specs.Prelude.{◌≡◌, true, List, ℕ, ◌≤◌, ◌<◌}
use Rattle.framed.specs.Bytes.{string_byte}
use Rattle.tables.specs.Fields.{frame_limit, text_limit, names, literals, expressions, instructions, codes, path_names, start}
use Rattle.tables.specs.Fields.{name_length, name_byte, literal_length, literal_byte, path_name}

-- F, T and every count within the limits; the code of Main.start exists
pub record Limits (p : List ℕ) : Type 0 where
  pub F_least : 3 ≤ frame_limit p
  pub F_most : frame_limit p ≤ 256
  pub T_most : text_limit p ≤ 256
  pub names_most : names p ≤ 128
  pub literals_most : literals p ≤ 128
  pub expressions_most : expressions p ≤ 1024
  pub instructions_most : instructions p ≤ 512
  pub codes_most : codes p ≤ 128
  pub path_names_most : path_names p ≤ 2048
  pub start_there : start p < codes p

-- ---- Names distinct, of 1 to 16 bytes

-- names k and j have the same bytes
pub record SameName (p : List ℕ) (k j : ℕ) : Type 0 where
  pub lengths : name_length p k ≡ name_length p j
  pub bytes : (i : ℕ) → i < name_length p k → name_byte p k i ≡ name_byte p j i

pub record Name (p : List ℕ) (k : ℕ) : Type 0 where
  pub least : 1 ≤ name_length p k
  pub most : name_length p k ≤ 16
  pub bytes : (i : ℕ) → i < name_length p k → name_byte p k i < 256
  -- no name before it has the same bytes
  pub new : (j : ℕ) → j < k → SameName p k j → ⊥

-- ---- Literals keep the string rule

pub record Literal (p l : List ℕ) (k : ℕ) : Type 0 where
  pub most : literal_length p k ≤ 64
  pub bytes : (i : ℕ) → i < literal_length p k → string_byte (literal_byte l k i) ≡ true

-- ---- All of it; the path names, too, exist

pub record Texts (p l : List ℕ) : Type 0 where
  pub name : (k : ℕ) → k < names p → Name p k
  pub literal : (k : ℕ) → k < literals p → Literal p l k
  pub path_name_there : (j : ℕ) → j < path_names p → path_name p j < names p
