-- The number that a run has at an instruction is that instruction's place in the program's list. In the parts of a tree, those of a code stand behind
-- it; so where a code begins among the parts, its instructions are numbered from there on. Assumes nothing.
use mathlib.Core.Path.{◌≡◌, refl, sym, ◌∙◌, ap, subst}
use mathlib.Core.List.{List, [], ◌∷◌, ◌++◌, append_assoc, append-nil}
use mathlib.Core.Option.{Option, none, some}
use Prim.Native.Nat.{ℕ, zero, suc, ◌+◌}
use native.Mathlib.Omega.{arith}
use lib.IntN.{pos}
use lib.ListN.{length, get_or, get_elem?, length-append}
use lib.Seq.{get_or-append_seam}
use Rattle.framed.specs.declared.Value.{Value}
use Rattle.framed.specs.Tokens.{Token, tokens}
use Rattle.framed.specs.Bytes.{class}
use Rattle.framed.specs.Symbols.{name_table, symbols}
use Rattle.framed.specs.Tree.{Written, Base, Expression, Slots, Instruction, Code, ◌then◌}
use Rattle.framed.specs.Parse.{parse}
use Rattle.framed.specs.Paths.{Path, resolve_slots, program_place}
use Rattle.framed.specs.Meaning.{main_start}
use Rattle.framed.specs.Program.{Part, block, line, base_parts, expression_parts, slots_parts, instruction_parts, code_parts, codes_in, instructions_in, first_number, firsts_in, nexts_in, Program, program_of, started, program_of_tree, program_of_tokens, program}
use Rattle.framed.specs.Values.{Heap, empty_heap}
use Rattle.framed.specs.Equality.{constants}
use Rattle.framed.specs.Machine.{Result, Evaluated, gives, ends, evaluate, State, Effect, perform, reserve, step, after_step, marked, following, first_of, start_from, start}
use Rattle.framed.specs.Judgments.{I⇒, i_show, i_jump, i_ifeq₁, i_ifeq₂, i_assign₁, i_assign₂, i_assign₃, i_assign₄}
use Rattle.framed.specs.Calls.{Unbounded, at_start, advanced, ended, attempted, one_more, run, Call, run_call, collect_call, first_report, calls}
use Rattle.framed.specs.Theorems.{Numbered, none_left, first, CodesNumbered, NumbersByPlace, InstructionsPlaced, InstructionsNumbered}
use Rattle.framed.proofs.General.{none≢some, some_inj}
use Rattle.framed.proofs.Lists.{get_seam}
use Rattle.framed.proofs.Parts.{lines, codes_append, instructions_append, firsts_append, firsts_length, nexts_append, nexts_length}
use Rattle.framed.proofs.StepJudged.{perform_sound, ends≢gives}
use Rattle.framed.proofs.Runs.{by_reserve, step_is, before_is, run_induction}

-- ---- In the parts of a tree, those of a code stand behind it

data Nested : List Part → Type 0 where
  nothing : Nested []
  a_code : (is : Code Path) (ps : List Part) → Nested (code_parts is ++ ps) → Nested (block is ∷ (code_parts is ++ ps))
  a_line : {i : Instruction Path} {is : Code Path} {ps : List Part} → Nested ps → Nested (line i is ∷ ps)

nested_append : {ps : List Part} (qs : List Part) → Nested ps → Nested qs → Nested (ps ++ qs)
nested_append qs nothing d = d
nested_append qs (a_code is ps c) d =
    let e = append_assoc (code_parts is) ps qs in
    subst (λ (l : List Part). Nested (block is ∷ l)) (sym e) (a_code is (ps ++ qs) (subst Nested e (nested_append qs c d)))
nested_append qs (a_line c) d = a_line (nested_append qs c d)

mutual
  unfolding base_parts

  base_nested : (b : Base Path) → Nested (base_parts b)
  base_nested (Base.integer z) = nothing
  base_nested (Base.string k) = nothing
  base_nested (Base.path p) = nothing
  base_nested (Base.code k is) =
      let e = append-nil (code_parts is) in
      subst (λ (l : List Part). Nested (block is ∷ l)) e (a_code is [] (subst Nested (sym e) (code_nested is)))

  expression_nested : (e : Expression Path) → Nested (expression_parts e)
  expression_nested (Expression.base b) = base_nested b
  expression_nested (Expression.not b) = base_nested b
  expression_nested (Expression.operation o a b) = nested_append (base_parts b) (base_nested a) (base_nested b)
  expression_nested (Expression.frame ss) = slots_nested ss

  slots_nested : (ss : Slots Path) → Nested (slots_parts ss)
  slots_nested Slots.no_slots = nothing
  slots_nested (Slots.slot n e ss) = nested_append (slots_parts ss) (expression_nested e) (slots_nested ss)

  instruction_nested : (i : Instruction Path) → Nested (instruction_parts i)
  instruction_nested (Instruction.assign p e) = expression_nested e
  instruction_nested (Instruction.show a) = base_nested a
  instruction_nested (Instruction.jump a b) = nested_append (base_parts b) (base_nested a) (base_nested b)
  instruction_nested (Instruction.ifeq a b c) =
      nested_append (base_parts c) (nested_append (base_parts b) (base_nested a) (base_nested b)) (base_nested c)

  code_nested : (is : Code Path) → Nested (code_parts is)
  code_nested Code.finished = nothing
  code_nested (i then is) = a_line (nested_append (code_parts is) (instruction_nested i) (code_nested is))

-- ---- A program with these parts

module _ (p : Program) (whole : List Part) (instructions_are : p.instructions ≡ instructions_in whole) (nexts_are : p.nexts ≡ nexts_in 1 whole) where
  -- at a line among them
  line_there : (before behind : List Part) (i : Instruction Path) (is : Code Path) → whole ≡ before ++ line i is ∷ behind → get_elem? p.instructions (lines before) ≡ some i
  unfolding instructions_in
  line_there before behind i is e =
      rw (instructions_are, e, instructions_append before (line i is ∷ behind)) (get_seam (instructions_in before) i (instructions_in behind))

  -- behind it and what is inside it begins the next
  count_inside : (before : List Part) (i : Instruction Path) (is : Code Path) →
      suc (lines (before ++ line i is ∷ instruction_parts i)) ≡ suc (1 + lines before) + lines (instruction_parts i)
  unfolding instructions_in
  count_inside before i is =
      ap (λ (l : List (Instruction Path)). suc (length l)) (instructions_append before (line i is ∷ instruction_parts i))
      ∙ ap suc (length-append (instructions_in before) (i ∷ instructions_in (instruction_parts i))) ∙ omega arith

  line_follows : (before behind : List Part) (i : Instruction Path) (is : Code Path) → whole ≡ before ++ line i is ∷ behind →
      following p (suc (lines before)) ≡ first_number (suc (lines (before ++ line i is ∷ instruction_parts i))) is
  unfolding following nexts_in
  line_follows before behind i is e =
      rw (nexts_are, e, nexts_append 1 before (line i is ∷ behind), ← nexts_length 1 before)
      (get_or-append_seam (nexts_in 1 before) _ (nexts_in _ behind) 0)
      ∙ ap (λ (n : ℕ). first_number (suc (1 + n) + lines (instruction_parts i)) is) (nexts_length 1 before)
      ∙ ap (λ (n : ℕ). first_number n is) (sym (count_inside before i is))

  -- a code whose parts stand behind these
  code_numbered : (is : Code Path) (before behind : List Part) → whole ≡ before ++ (code_parts is ++ behind) → Numbered p (first_number (suc (lines before)) is) is
  unfolding first_number base_parts instructions_in
  code_numbered Code.finished before behind e = none_left
  code_numbered (i then is) before behind e =
      let inside = line i is ∷ instruction_parts i in
      let here : whole ≡ before ++ (line i is ∷ ((instruction_parts i ++ code_parts is) ++ behind)) = e in
      let next : whole ≡ (before ++ inside) ++ (code_parts is ++ behind) =
      here ∙ ap (λ (l : List Part). before ++ (line i is ∷ l)) (append_assoc (instruction_parts i) (code_parts is) behind)
      ∙ sym (append_assoc before inside (code_parts is ++ behind)) in
      first (line_there before _ i is here) (subst (λ (n : ℕ). Numbered p n is) (sym (line_follows before _ i is here)) (code_numbered is (before ++ inside) behind next))

  same_lines : (before : List Part) (is : Code Path) → lines (before ++ block is ∷ []) ≡ lines before
  unfolding instructions_in
  same_lines before is = ap {B = ℕ} length (instructions_append before (block is ∷ []) ∙ append-nil (instructions_in before))

  -- and each code among the parts
  codes_numbered : {ps : List Part} → Nested ps → (before : List Part) → whole ≡ before ++ ps → (k : ℕ) →
      Numbered p (get_or (firsts_in (suc (lines before)) ps) k 0) (get_or (codes_in ps) k Code.finished)
  unfolding firsts_in codes_in instructions_in
  codes_numbered nothing before e k = none_left
  codes_numbered (a_code is ps d) before e zero =
      subst (λ (n : ℕ). Numbered p (first_number (suc n) is) is) (same_lines before is)
      (code_numbered is (before ++ block is ∷ []) ps (e ∙ sym (append_assoc before (block is ∷ []) (code_parts is ++ ps))))
  codes_numbered (a_code is ps d) before e (suc k) =
      subst (λ (n : ℕ). Numbered p (get_or (firsts_in (suc n) (code_parts is ++ ps)) k 0) (get_or (codes_in (code_parts is ++ ps)) k Code.finished))
      (same_lines before is)
      (codes_numbered d (before ++ block is ∷ []) (e ∙ sym (append_assoc before (block is ∷ []) (code_parts is ++ ps))) k)
  codes_numbered (a_line {i} {is} {ps} d) before e k =
      subst (λ (n : ℕ). Numbered p (get_or (firsts_in n ps) k 0) (get_or (codes_in ps) k Code.finished))
      (ap (λ (l : List (Instruction Path)). suc (length l)) (instructions_append before (line i is ∷ []))
      ∙ ap suc (length-append (instructions_in before) (i ∷ [])) ∙ omega arith)
      (codes_numbered d (before ++ line i is ∷ []) (e ∙ sym (append_assoc before (line i is ∷ []) ps)) k)

  -- ---- By places

  block_there : (before behind : List Part) (is : Code Path) → p.codes ≡ codes_in whole → whole ≡ before ++ block is ∷ behind → get_elem? p.codes (length (codes_in before)) ≡ some is
  unfolding codes_in
  block_there before behind is codes_are e =
      rw (codes_are, e, codes_append before (block is ∷ behind)) (get_seam (codes_in before) is (codes_in behind))

  block_first : (before behind : List Part) (is : Code Path) → p.firsts ≡ firsts_in 1 whole → whole ≡ before ++ block is ∷ behind →
      first_of p (length (codes_in before)) ≡ first_number (suc (lines before)) is
  unfolding first_of firsts_in
  block_first before behind is firsts-are e =
      rw (firsts-are, e, firsts_append 1 before (block is ∷ behind), ← firsts_length 1 before)
      (get_or-append_seam (firsts_in 1 before) _ (firsts_in _ behind) 0)
      ∙ (let one_more : 1 + lines before ≡ suc (lines before) = omega arith in ap (λ (n : ℕ). first_number n is) one_more)

-- ---- The program of a source

tree_numbered : (ts : List Token) (ss : Slots Path) (k : ℕ) → CodesNumbered (program_of ts ss k)
unfolding program_of first_of instructions_in
tree_numbered ts ss k = codes_numbered (program_of ts ss k) (slots_parts ss) refl refl (slots_nested ss) [] refl

tree_places : (ts : List Token) (ss : Slots Path) (k : ℕ) → NumbersByPlace (program_of ts ss k) (slots_parts ss)
unfolding program_of
tree_places ts ss k =
    let q = program_of ts ss k in
    let whole = slots_parts ss in
    record {
      instruction = λ before behind i is e. (line_there q whole refl refl before behind i is e, line_follows q whole refl refl before behind i is e);
      code = λ before behind is e. (block_there q whole refl refl before behind is refl e, block_first q whole refl refl before behind is refl e);
    }

-- the program of a source is that of a tree
module _ (P : Program → Type 0) (of_program : (ts : List Token) (ss : Slots Path) (k : ℕ) → P (program_of ts ss k)) where
  of_source : (source : List ℕ) (p : Program) → program source ≡ some p → P p
  unfolding program program_of_tokens program_of_tree started
  of_source source p e = of_tokens (tokens class source) e
    where
      of_start : (ts : List Token) (ss : Slots Path) (o : Option ℕ) → started ts ss o ≡ some p → P p
      of_start ts ss none e = absurd (none≢some e)
      of_start ts ss (some k) e = subst P (some_inj e) (of_program ts ss k)

      of_tree : (ts : List Token) (o : Option (Slots Written)) → program_of_tree ts o ≡ some p → P p
      of_tree ts none e = absurd (none≢some e)
      of_tree ts (some ss) e = of_start ts (resolve_slots program_place ss) (main_start (name_table ts) ss) e

      of_tokens : (o : Option (List Token)) → program_of_tokens o ≡ some p → P p
      of_tokens none e = absurd (none≢some e)
      of_tokens (some ts) e = of_tree ts (parse (symbols ts)) e

source_numbered : (source : List ℕ) (p : Program) → program source ≡ some p → CodesNumbered p
source_numbered = of_source CodesNumbered tree_numbered

pub source_places : InstructionsPlaced
unfolding program_of
source_places = of_source (λ p. NumbersByPlace p (slots_parts p.slots)) tree_places

start_numbered : (p : Program) → CodesNumbered p → Numbered p (start p).next (start p).remaining
unfolding start start_from
start_numbered p d = go (evaluate (constants p) 0 (Value.Int (pos 0)) (Value.Int (pos 0)) (Expression.frame p.slots) empty_heap)
  where
    go : (r : Result Evaluated) → Numbered p (start_from p r).next (start_from p r).remaining
    go (gives r) = d p.start
    go (ends e) = none_left

-- ---- A step

rest_numbered : {p : Program} {n : ℕ} {i : Instruction Path} {rest : Code Path} → Numbered p n (i then rest) → Numbered p (following p n) rest
rest_numbered (first e d) = d

rule_numbered : {p : Program} {n n' : ℕ} {rest rest' : Code Path} {Σ Π Σ' Π' : Value} {h h' : Heap} {i : Instruction Path} {line : List ℕ} →
    I⇒ p n rest Σ Π h i rest' n' Σ' Π' h' line → CodesNumbered p → Numbered p (following p n) rest → Numbered p n' rest'
rule_numbered (i_show d) c r = r
rule_numbered (i_jump {k = k} d e) c r = c k
rule_numbered (i_ifeq₁ {k = k} d e f) c r = c k
rule_numbered (i_ifeq₂ d e) c r = r
rule_numbered (i_assign₁ d q) c r = r
rule_numbered (i_assign₂ d) c r = r
rule_numbered (i_assign₃ d q) c r = r
rule_numbered (i_assign₄ d) c r = r

step_numbered : (p : Program) (F T : ℕ) (s : State) (i : Instruction Path) (rest : Code Path) (x : Effect) → CodesNumbered p →
    Numbered p s.next s.remaining → s.remaining ≡ (i then rest) → step p F T s i rest ≡ gives x → Numbered p x.next x.remaining
unfolding by_reserve
step_numbered p F T s i rest x c d e q = go (reserve F T s.heap.frames s.self s.program i) (sym (step_is p F T s i rest) ∙ q)
  where
    go : (r : ℕ) → by_reserve r (perform p s.next s.self s.program s.heap rest i) ≡ gives x → Numbered p x.next x.remaining
    go zero q = rule_numbered (perform_sound p s.next rest s.self s.program s.heap i x q) c (rest_numbered (subst (Numbered p s.next) e d))
    go (suc n) q = absurd (ends≢gives q)

-- ---- Runs

module _ (p : Program) (F T : ℕ) (c : CodesNumbered p) where
  abbrev AtNumber : Unbounded → Type 0
  AtNumber u = Numbered p u.state.next u.state.remaining

  run_numbered : (fuel space : ℕ) (u : Unbounded) → AtNumber u → AtNumber (run p F T fuel space u).machine
  unfolding ended marked attempted advanced after_step one_more
  run_numbered =
      run_induction p F T (λ fuel space u r. AtNumber u → AtNumber r.machine)
      (λ fuel space u e q d. d)
      (λ space u i rest q d. d)
      (λ fuel space u i rest e q r d. d)
      (λ fuel space u i rest x q r l d. d)
      (λ fuel space u i rest x q r l y h d. h (step_numbered p F T u.state i rest x c d (before_is u.state i rest q).1 r))

  calls_numbered : (cs : List Call) (u : Unbounded) → AtNumber u → AtNumber (calls p F T cs u).machine
  unfolding calls first_report
  calls_numbered [] u d = d
  calls_numbered (run_call fuel space ∷ cs) u d = calls_numbered cs (run p F T fuel space u).machine (run_numbered fuel space u d)
  calls_numbered (collect_call ∷ cs) u d = calls_numbered cs u d

pub instructions_numbered : InstructionsNumbered
unfolding at_start
instructions_numbered = record {
  codes = source_numbered;
  start = λ source p e. start_numbered p (source_numbered source p e);
  steps = step_numbered;
  runs = λ source p F T cs e. let c = source_numbered source p e in calls_numbered p F T c cs (at_start p) (start_numbered p c);
}
