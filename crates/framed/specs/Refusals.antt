-- Document 01, the table, numbers 1 to 12, as a relation: when each number holds. The relations `Tokens⊢` and `Source` give the tokens and the tree, `Occurs` what the tree contains.
-- Load gives the lowest number that holds: `proofs/RefusalLowest` shows that `Meaning.refusal` is that number, and 0 where none holds. Assumes nothing.
use Rattle.std.specs.Prelude.{◌≡◌, ◌≢◌, List, ℕ, suc, ◌+◌, ◌≤◌, ◌<◌, length}
use Rattle.std.proofs.Math.Option.{some}
use Rattle.std.proofs.Math.ListN.{get_elem?}
use Rattle.framed.specs.Common.{bytes, count, total, Twice}
use Rattle.framed.specs.Bytes.{class}
use Rattle.framed.specs.Tokens.{Operator, Token, Tokens⊢, highest_nesting}
use Rattle.framed.specs.Symbols.{symbols, name_table}
use Rattle.framed.specs.Tree.{Written, Base, Expression, Slots, Code}
use Rattle.framed.specs.Grammar.{Source}
use Rattle.framed.specs.Paths.{Place, outside_code, holder}
use Rattle.framed.specs.Meaning.{Kind, Piece, pieces, is_one, path_names, Lengths}
use Rattle.framed.specs.Occurrences.{Occurs}

-- 1: a memory has another length
pub data OtherLength (m : Lengths) : Type 0 where
  program : m.program ≢ 16384 → OtherLength m
  heap : m.heap ≢ 16384 → OtherLength m
  literal : m.literal ≢ 8192 → OtherLength m
  text : m.text ≢ 16384 → OtherLength m

-- 2: F or T outside its range
pub data OutOfRange (F T : ℕ) : Type 0 where
  few_frames : F < 3 → OutOfRange F T
  many_frames : 256 < F → OutOfRange F T
  many_texts : 256 < T → OutOfRange F T

-- 7 to 12 speak of the source's tokens and of the slots of its frame
pub record HasTree (source : List ℕ) (ts : List Token) (ss : Slots Written) : Type 0 where
  pub tokens : Tokens⊢ class source ts
  pub tree : Source (symbols ts) ss

-- 7: a path, an operator or `!` outside code
pub data Misplaced : Piece → Type 0 where
  path : {ns : List ℕ} {p : Written} → Misplaced (Piece.path (outside_code ns) p)
  operator : {ns : List ℕ} → Misplaced (Piece.operator (outside_code ns))

-- 8: slots with these names have one twice, or are more than 16
pub data BadSlots (ns : List ℕ) : Type 0 where
  twice : Twice ns → BadSlots ns
  too_many : 16 < length ns → BadSlots ns

-- 9: a count above its limit. The name table has each name, and the list of pieces each occurrence, exactly once (`proofs/NamesExact`, `proofs/PiecesExact`)
pub data AboveLimit (table : List (List ℕ)) (ps : List Piece) : Type 0 where
  names : 128 < length table → AboveLimit table ps
  instructions : 512 < count (is_one Kind.instruction) ps → AboveLimit table ps
  strings : 128 < count (is_one Kind.string) ps → AboveLimit table ps
  codes : 128 < count (is_one Kind.code) ps → AboveLimit table ps
  expressions : 1024 < count (is_one Kind.expression) ps → AboveLimit table ps
  names_in_paths : 2048 < total path_names ps → AboveLimit table ps

-- 11: the slot n := e stands among the slots
pub data HasSlot (n : ℕ) (e : Expression Written) : Slots Written → Type 0 where
  here : {ss : Slots Written} → HasSlot n e (Slots.slot n e ss)
  later : {m : ℕ} {f : Expression Written} {ss : Slots Written} → HasSlot n e ss → HasSlot n e (Slots.slot m f ss)

-- a written Main frame with a code in start. `main` and `start` are the numbers of these names
pub record MainStart (table : List (List ℕ)) (ss : Slots Written) : Type 0 where
  pub main : ℕ
  pub start : ℕ
  pub main_name : get_elem? table main ≡ some (bytes "Main")
  pub start_name : get_elem? table start ≡ some (bytes "start")
  pub slots : Slots Written
  pub main_slot : HasSlot main (Expression.frame slots) ss
  pub number : ℕ
  pub code : Code Written
  pub start_slot : HasSlot start (Expression.base (Base.code number code)) slots

-- 12: the number of frames that are written outside code, in an expression and in slots. A base has none: its code is code
mutual
  pub data FramesInExpression : Expression Written → ℕ → Type 0 where
    base : {b : Base Written} → FramesInExpression (Expression.base b) 0
    not : {b : Base Written} → FramesInExpression (Expression.not b) 0
    operation : {o : Operator} {a b : Base Written} → FramesInExpression (Expression.operation o a b) 0
    frame : {ss : Slots Written} {k : ℕ} → FramesInSlots ss k → FramesInExpression (Expression.frame ss) (suc k)

  pub data FramesInSlots : Slots Written → ℕ → Type 0 where
    no_slots : FramesInSlots Slots.no_slots 0
    slot : {n j k : ℕ} {e : Expression Written} {ss : Slots Written} →
        FramesInExpression e j → FramesInSlots ss k → FramesInSlots (Slots.slot n e ss) (j + k)

pub data Holds (m : Lengths) (source : List ℕ) (F T : ℕ) : ℕ → Type 0 where
  -- a memory has another length; F or T outside its range; source longer than 16,384
  h1 : OtherLength m → Holds m source F T 1
  h2 : OutOfRange F T → Holds m source F T 2
  h3 : 16384 < length source → Holds m source F T 3
  -- bytes that form no token; nesting above 16; tokens are not one frame
  h4 : ((ts : List Token) → ¬ Tokens⊢ class source ts) → Holds m source F T 4
  h5 : {ts : List Token} → Tokens⊢ class source ts → 16 < highest_nesting 0 ts → Holds m source F T 5
  h6 : {ts : List Token} → Tokens⊢ class source ts → ((ss : Slots Written) → ¬ Source (symbols ts) ss) → Holds m source F T 6
  -- path, operator or `!` outside code
  h7 : {ts : List Token} {ss : Slots Written} {x : Piece} → HasTree source ts ss → Occurs ss x → Misplaced x → Holds m source F T 7
  -- a frame, in code or outside, has a name twice or more than 16 slots
  h8 : {ts : List Token} {ss : Slots Written} {place : Place} {ns : List ℕ} →
      HasTree source ts ss → Occurs ss (Piece.frame place ns) → BadSlots ns → Holds m source F T 8
  -- a count above its limit
  h9 : {ts : List Token} {ss : Slots Written} → HasTree source ts ss → AboveLimit (name_table ts) (pieces ss) → Holds m source F T 9
  -- `^` above the program frame: more of them after the first than the holding frame has parents
  h10 : {ts : List Token} {ss : Slots Written} {place : Place} {further : ℕ} {ns : List ℕ} →
      HasTree source ts ss → Occurs ss (Piece.path place (Written.up further ns)) → length (holder place) < further → Holds m source F T 10
  -- no written Main frame with a code in start
  h11 : {ts : List Token} {ss : Slots Written} → HasTree source ts ss → ¬ MainStart (name_table ts) ss → Holds m source F T 11
  -- F or more frames are written outside code: the program frame and those in its slots
  h12 : {ts : List Token} {ss : Slots Written} {k : ℕ} → HasTree source ts ss → FramesInSlots ss k → F ≤ suc k → Holds m source F T 12
