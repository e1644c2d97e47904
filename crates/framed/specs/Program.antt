-- Document 01, "Limits and paths": what load makes of an accepted source, the resolved program that runs; document 02, A5:
-- the numbers of its instructions. Assumes nothing.
use Rattle.std.specs.Prelude.{List, [], ◌∷◌, ◌++◌, ℕ, suc, ◌+◌, length}
use Rattle.std.proofs.Math.Option.{Option, none, some}
use Rattle.framed.specs.Bytes.{class}
use Rattle.framed.specs.Tokens.{Token, tokens}
use Rattle.framed.specs.Symbols.{name_table, literals, symbols}
use Rattle.framed.specs.Tree.{Written, Base, Expression, Slots, Instruction, Code, ◌then◌}
use Rattle.framed.specs.Parse.{parse}
use Rattle.framed.specs.Paths.{Path, resolve_slots, program_place}
use Rattle.framed.specs.Meaning.{main_start}

-- A code literal, or an instruction with what follows it in its code. `parts` lists them in the order in which they begin, a whole before what
-- is inside it: code k is the k-th code of that list, counted from 0; instruction k its k-th instruction, in `Program.instructions` counted from 0,
-- as the maker of a frame from 1
pub data Part : Type 0 where
  block : Code Path → Part
  line : Instruction Path → Code Path → Part

unfoldable mutual
  pub base_parts : Base Path → List Part
  base_parts (Base.integer z) = []
  base_parts (Base.string k) = []
  base_parts (Base.path p) = []
  base_parts (Base.code k is) = block is ∷ code_parts is

  pub expression_parts : Expression Path → List Part
  expression_parts (Expression.base b) = base_parts b
  expression_parts (Expression.not b) = base_parts b
  expression_parts (Expression.operation o a b) = base_parts a ++ base_parts b
  expression_parts (Expression.frame ss) = slots_parts ss

  pub slots_parts : Slots Path → List Part
  slots_parts Slots.no_slots = []
  slots_parts (Slots.slot n e ss) = expression_parts e ++ slots_parts ss

  pub instruction_parts : Instruction Path → List Part
  instruction_parts (Instruction.assign p e) = expression_parts e
  instruction_parts (Instruction.show a) = base_parts a
  instruction_parts (Instruction.jump a b) = base_parts a ++ base_parts b
  instruction_parts (Instruction.ifeq a b c) = base_parts a ++ base_parts b ++ base_parts c

  pub code_parts : Code Path → List Part
  code_parts Code.finished = []
  code_parts (i then is) = line i is ∷ instruction_parts i ++ code_parts is

unfoldable pub codes_in : List Part → List (Code Path)
codes_in [] = []
codes_in (block is ∷ ps) = is ∷ codes_in ps
codes_in (line i is ∷ ps) = codes_in ps

unfoldable pub instructions_in : List Part → List (Instruction Path)
instructions_in [] = []
instructions_in (block is ∷ ps) = instructions_in ps
instructions_in (line i is ∷ ps) = i ∷ instructions_in ps

-- the number of the first instruction of a code, where the instruction that begins next has the number n; 0 where the code has none
unfoldable pub first_number : ℕ → Code Path → ℕ
first_number n Code.finished = 0
first_number n (i then is) = n

-- the number of the first instruction of each code, where the first instruction among the parts has the number n
unfoldable pub firsts_in : ℕ → List Part → List ℕ
firsts_in n [] = []
firsts_in n (block is ∷ ps) = first_number n is ∷ firsts_in n ps
firsts_in n (line i is ∷ ps) = firsts_in (suc n) ps

-- of each instruction, the number of the one that follows it in its code, 0 where it is the last: those inside it begin before that one
unfoldable pub nexts_in : ℕ → List Part → List ℕ
nexts_in n [] = []
nexts_in n (block is ∷ ps) = nexts_in n ps
nexts_in n (line i is ∷ ps) = first_number (suc n + length (instructions_in (instruction_parts i))) is ∷ nexts_in (suc n) ps

pub record Program : Type 0 where
  -- the name table, by first appearance
  pub names : List (List ℕ)
  -- the bytes of the string literals, by where each begins
  pub literals : List (List ℕ)
  -- the instructions of each code literal, by where the literal begins
  pub codes : List (Code Path)
  -- all instructions, by where each begins
  pub instructions : List (Instruction Path)
  -- of each code the number of its first instruction, of each instruction the number of the one that follows it in its code; counted from 1,
  -- 0 where there is none
  pub firsts : List ℕ
  pub nexts : List ℕ
  -- the slots of the program frame, as written outside code
  pub slots : Slots Path
  -- the number of the code in Main.start
  pub start : ℕ

-- the program of a tree, where Main.start is the code k
unfoldable pub program_of : List Token → Slots Path → ℕ → Program
program_of ts ss k =
    record {
      names = name_table ts;
      literals = literals ts;
      codes = codes_in (slots_parts ss);
      instructions = instructions_in (slots_parts ss);
      firsts = firsts_in 1 (slots_parts ss);
      nexts = nexts_in 1 (slots_parts ss);
      slots = ss;
      start = k;
    }

unfoldable pub started : List Token → Slots Path → Option ℕ → Option Program
started ts ss none = none
started ts ss (some k) = some (program_of ts ss k)

unfoldable pub program_of_tree : List Token → Option (Slots Written) → Option Program
program_of_tree ts none = none
program_of_tree ts (some ss) = started ts (resolve_slots program_place ss) (main_start (name_table ts) ss)

unfoldable pub program_of_tokens : Option (List Token) → Option Program
program_of_tokens none = none
program_of_tokens (some ts) = program_of_tree ts (parse (symbols ts))

-- the program of a source, where it has a tree with a Main.start (numbers 4, 6 and 11 do not hold)
unfoldable pub program : List ℕ → Option Program
program source = program_of_tokens (tokens class source)

unfoldable pub Programs : Type 0
unfolding base_parts codes_in instructions_in first_number firsts_in nexts_in program_of started program_of_tree program_of_tokens program
Programs = ℕ
