-- docs/LAYOUT.md, program words: what a function that reads a part of the source and emits it leaves, for every such part as the grammar has it. Assumes nothing.
use Rattle.std.specs.Prelude.{◌≡◌, List, ◌∷◌, ℕ, ◌+◌, ◌-◌, ◌<◌, ◌≤◌, length, take}
use Rattle.framed.specs.Bytes.{class}
use Rattle.framed.specs.Tokens.{Token, Tokens⊢}
use Rattle.framed.specs.Symbols.{Symbol, numbered}
use Rattle.framed.specs.Grammar.{Names⊢, Ups⊢, Path⊢}
use Rattle.source.specs.Positions.{rest}
use Rattle.sweep.specs.Kinds.{kind_of, front_kind}
use Rattle.shapes.specs.Numbers.{Numbers}
use Rattle.emission.specs.Emit.{Emitting, emitting, emit_path, write_path}
use Rattle.emit_steps.specs.Steps.{numbers, go_to, place_of}
use Rattle.framed.specs.Tree.{Written}
use Rattle.framed.specs.Paths.{names_of, resolve_path}
use Rattle.emit_steps.specs.declared.Next.{Next}
use Rattle.emit_steps.specs.declared.Place.{Place}
use Rattle.emit_paths.specs.declared.PathEnd.{PathEnd}
use Rattle.emit_paths.specs.declared.Levels.{Levels}

-- us are the symbols of the source from where n stands; strings and codes go on from its numbers
pub record Ahead (s : List ℕ) (table : List (List ℕ)) (n : Next) (us : List Symbol) : Type 0 where
  pub tokens : List Token
  pub reads : Tokens⊢ class (rest s n.at) tokens
  pub are : us ≡ numbered table n.strings n.codes tokens
  pub few : n.strings + length tokens < 4294967295

-- each number is a word
pub record Small (s : Numbers) : Type 0 where
  pub expressions_small : s.expressions < 4294967296
  pub instructions_small : s.instructions < 4294967296
  pub path_names_small : s.path_names < 4294967296
  pub codes_small : s.codes < 4294967296

-- the words and the numbers are those of t, and vs are the symbols ahead
pub record Emitted (s : List ℕ) (table : List (List ℕ)) (t : Emitting) (p : List ℕ) (n : Next) (vs : List Symbol) : Type 0 where
  pub is : emitting p (numbers n) ≡ t
  pub ahead : Ahead s table n vs

-- a part a of the grammar G that begins where n stands is emitted by E
pub record Emits {A : Type 0} (G : List Symbol → A → List Symbol → Type 0) (E : A → Emitting → Emitting) (s : List ℕ) (table : List (List ℕ)) (n : Next) (p p' : List ℕ) (r : Next) : Type 0 where
  pub says : (us vs : List Symbol) (a : A) → Ahead s table n us → G us a vs → Small (E a (emitting p (numbers n))).next → Emitted s table (E a (emitting p (numbers n))) p' r vs
  pub on : n.at ≤ r.at

-- names after dots, and no dot follows
pub record NamesHere (us : List Symbol) (ns : List ℕ) (vs : List Symbol) : Type 0 where
  pub names : Names⊢ us ns vs
  pub no_dot : front_kind vs ≡ 7 → ⊥

-- n at another position, with another number of the next path name
abbrev pub arrived : Next → ℕ → ℕ → Next
arrived n at paths =
    record { at = at; expressions = n.expressions; instructions = n.instructions; paths = paths; strings = n.strings; codes = n.codes }

-- the names after dots from there on are path names from `paths` on, whatever the other numbers are
pub record DottedEmits (s : List ℕ) (table : List (List ℕ)) (from paths : ℕ) (p p' : List ℕ) (r : PathEnd) : Type 0 where
  pub says : (n : Next) → Emits NamesHere emit_path s table (arrived n from paths) p p' (arrived n r.at r.paths)

-- no dot and `^`
pub record NoUp (vs : List Symbol) : Type 0 where
  pub no_up : (x : Symbol) (ws : List Symbol) → vs ≡ x ∷ ws → kind_of x ≡ 7 → front_kind ws ≡ 8 → ⊥

-- further `^` were read, which leave so many levels of `depth`
pub record UpsDone (s : List ℕ) (table : List (List ℕ)) (n : Next) (depth k : ℕ) (vs : List Symbol) (r : Levels) : Type 0 where
  pub ahead : Ahead s table (go_to n r.at) vs
  pub levels_are : r.levels ≡ depth - k

pub record UpsRead (s : List ℕ) (at depth : ℕ) (r : Levels) : Type 0 where
  pub says : (table : List (List ℕ)) (n : Next) (us vs : List Symbol) (k : ℕ) → n.at ≡ at → Ahead s table n us → Ups⊢ us k vs → NoUp vs → UpsDone s table n depth k vs r
  pub on : at ≤ r.at

-- the first names, of those of a place, are path names from `paths` on, and r is the next number
pub record HolderDone (names : List ℕ) (levels paths : ℕ) (p p' : List ℕ) (r : ℕ) : Type 0 where
  pub words : levels ≤ 16 → length names ≡ 16 → paths + levels < 4294967296 → p' ≡ write_path (take levels names) paths p
  pub next : levels ≤ 16 → paths + levels < 4294967296 → r ≡ paths + levels

-- a place that has room for its names
pub record PlaceOk (place : Place) : Type 0 where
  pub deep : place.depth ≤ 16
  pub sixteen : length place.names ≡ 16

-- a path, and no dot follows
pub record PathHere (place : Place) (us : List Symbol) (w : Written) (vs : List Symbol) : Type 0 where
  pub path : Path⊢ us w vs
  pub no_dot : front_kind vs ≡ 7 → ⊥
  pub ok : PlaceOk place

-- one that does not begin with `self`
pub record UpHere (place : Place) (us : List Symbol) (w : Written) (vs : List Symbol) : Type 0 where
  pub here : PathHere place us w vs
  pub not_self : front_kind us ≡ 1 → ⊥

-- the names of a path, resolved at its place
unfoldable pub path_emitted : Place → Written → Emitting → Emitting
path_emitted place w t = emit_path (names_of (resolve_path (place_of place) w)) t
