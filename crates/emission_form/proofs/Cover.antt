-- Every number that a part takes is the number of an entry of that part. Assumes nothing.
use mathlib.Core.Path.{◌≡◌, ◌∙◌, ap, subst}
use mathlib.Core.List.{List, [], ◌∷◌}
use Prim.Native.Nat.{ℕ, suc, ◌+◌, ◌≤◌, ◌<◌}
use native.Mathlib.Omega.{arith}
use native.Mathlib.Decide.{ℕ_discrete, dec_lt}
use lib.ListN.{length}
use Rattle.framed.specs.Tree.{Base, Expression, Slots, Instruction, Code, ◌then◌}
use Rattle.framed.specs.Paths.{Path, names_of}
use Rattle.tables.specs.declared.ExpressionEntry.{ExpressionEntry}
use Rattle.tables.specs.Entries.{expression_at}
use Rattle.tables.specs.Fields.{codes, code_first, path_name, instruction_link, instruction_after, instruction_walk}
use Rattle.tables.proofs.Walks.{instruction_walk_suc, follow_at}
use Rattle.program_parts.specs.Parts.{StandsIn}
use Rattle.shapes.specs.Numbers.{Numbers, ◌⊕◌, one_expression, one_instruction, one_code, more_names, base_size, expression_size, slots_size, instruction_size, code_size}
use Rattle.shapes.specs.Shape.{AllBelow}
use Rattle.emission.specs.Emit.{link_to_code, first_place}
use Rattle.emission.specs.Frame.{AtMost}
use Rattle.emission.specs.Writes.{past_base, past_expression, past_instruction}
use Rattle.emission.specs.Texts.{Listed}
use Rattle.emission_tree.specs.Standing.{Owner, Tag, tag, Standing}
use Rattle.emission_tree.specs.Entry.{BaseAt, ExpressionAt, SlotsAt, InstructionAt, CodeAt}
use Rattle.emission.proofs.Links.{code_reached, after_instruction}

-- ---- Properties of all numbers from s on and below t

module _ (E I J K : ℕ → Type 0) where
  pub record Covered (s t : Numbers) : Type 0 where
    pub expressions : (y : ℕ) → s.expressions ≤ y → y < t.expressions → E y
    pub instructions : (y : ℕ) → s.instructions ≤ y → y < t.instructions → I y
    pub path_names : (y : ℕ) → s.path_names ≤ y → y < t.path_names → J y
    pub codes : (y : ℕ) → s.codes ≤ y → y < t.codes → K y

  pub covered_none : (s t : Numbers) → AtMost t s → Covered s t
  covered_none s t m =
      record {
        expressions = λ y a b. absurd (omega arith);
        instructions = λ y a b. absurd (omega arith);
        path_names = λ y a b. absurd (omega arith);
        codes = λ y a b. absurd (omega arith);
      }

  -- of fewer numbers
  pub covered_in : (s t u v : Numbers) → AtMost s u → AtMost v t → Covered s t → Covered u v
  covered_in s t u v l m h =
      record {
        expressions = λ y a b. h.expressions y (omega arith) (omega arith);
        instructions = λ y a b. h.instructions y (omega arith) (omega arith);
        path_names = λ y a b. h.path_names y (omega arith) (omega arith);
        codes = λ y a b. h.codes y (omega arith) (omega arith);
      }

  either : (P : ℕ → Type 0) (a b c : ℕ) → ((y : ℕ) → a ≤ y → y < b → P y) → ((y : ℕ) → b ≤ y → y < c → P y) → (y : ℕ) → a ≤ y → y < c → P y
  either P a b c f g y l m = go (dec_lt y b)
    where
      go : Dec (y < b) → P y
      go (yes lt) = f y l lt
      go (no ge) = g y (omega arith) m

  pub covered_then : (s t u : Numbers) → Covered s t → Covered t u → Covered s u
  covered_then s t u f g =
      record {
        expressions = either E _ _ _ f.expressions g.expressions;
        instructions = either I _ _ _ f.instructions g.instructions;
        path_names = either J _ _ _ f.path_names g.path_names;
        codes = either K _ _ _ f.codes g.codes;
      }

  only : (P : ℕ → Type 0) (a : ℕ) → P a → (y : ℕ) → a ≤ y → y < a + 1 → P y
  only P a h y l m = let e : a ≡ y = omega arith in subst P e h

  pub covered_expression : (s : Numbers) → E s.expressions → Covered s (one_expression s)
  covered_expression s h =
      record {
        expressions = only E s.expressions h;
        instructions = λ y a b. absurd (omega arith);
        path_names = λ y a b. absurd (omega arith);
        codes = λ y a b. absurd (omega arith);
      }

  pub covered_instruction : (s : Numbers) → I s.instructions → Covered s (one_instruction s)
  covered_instruction s h =
      record {
        expressions = λ y a b. absurd (omega arith);
        instructions = only I s.instructions h;
        path_names = λ y a b. absurd (omega arith);
        codes = λ y a b. absurd (omega arith);
      }

  pub covered_code : (s : Numbers) → K s.codes → Covered s (one_code s)
  covered_code s h =
      record {
        expressions = λ y a b. absurd (omega arith);
        instructions = λ y a b. absurd (omega arith);
        path_names = λ y a b. absurd (omega arith);
        codes = only K s.codes h;
      }

  pub covered_names : (s : Numbers) (n : ℕ) → ((y : ℕ) → s.path_names ≤ y → y < s.path_names + n → J y) → Covered s (more_names n s)
  covered_names s n h =
      record {
        expressions = λ y a b. absurd (omega arith);
        instructions = λ y a b. absurd (omega arith);
        path_names = h;
        codes = λ y a b. absurd (omega arith);
      }

-- ---- What is known of each number

module _ (p : List ℕ) (γ : Standing) (N S : ℕ) (T : Numbers) where
  pub record SomeExpression (x : ℕ) : Type 0 where
    pub tree : Expression Path
    pub start : Numbers
    pub at : ExpressionAt p γ N S tree x (γ.tags x).inside start
    pub after : x < start.expressions
    pub within : AtMost (start ⊕ expression_size tree) T

  pub record SomeInstruction (i : ℕ) : Type 0 where
    pub tree : Instruction Path
    pub start : Numbers
    pub at : InstructionAt p γ N S tree i (γ.homes i) start
    pub after : i < start.instructions
    pub within : AtMost (start ⊕ instruction_size tree) T
    -- what follows it in its code
    pub rest : Code Path
    pub link_is : instruction_link p i ≡ link_to_code rest i (start ⊕ instruction_size tree).instructions
    pub rest_within : (start ⊕ instruction_size tree).instructions + (code_size rest).instructions ≤ T.instructions
    pub stands : StandsIn p (γ.homes i) i

  pub record SomeCode (k : ℕ) : Type 0 where
    pub tree : Code Path
    pub start : Numbers
    pub first : code_first p k ≡ first_place tree start.instructions
    pub at : CodeAt p γ N S tree k start
    pub within : AtMost (start ⊕ code_size tree) T
    pub there : γ.names k < T.expressions
    pub named : expression_at p (γ.names k) ≡ ExpressionEntry.Code k

  pub record SomeName (j : ℕ) : Type 0 where
    pub below : path_name p j < N

  abbrev All : Numbers → Numbers → Type 0
  All s t = Covered SomeExpression SomeInstruction SomeName SomeCode s t

  names_below : (ns : List ℕ) (j : ℕ) → AllBelow N ns → Listed (path_name p) j ns → (y : ℕ) → j ≤ y → y < j + length ns → SomeName y
  names_below [] j a h y l m = absurd (omega arith)
  names_below (n ∷ ns) j (AllBelow.more lt a) (Listed.more e h) y l m = go (ℕ_discrete j y) (λ q. names_below ns (j + 1) a h y q (omega arith))
    where
      go : Dec (j ≡ y) → (j + 1 ≤ y → SomeName y) → SomeName y
      go (yes q) f = subst SomeName q (record { below = omega arith })
      go (no q) f = f (omega arith)

  some_expression : (b : Expression Path) (x c : ℕ) (s : Numbers) → (γ.tags x).inside ≡ c → x < s.expressions → AtMost (s ⊕ expression_size b) T →
      ExpressionAt p γ N S b x c s → SomeExpression x
  some_expression b x c s e lt m h = record { tree = b; start = s; at = rw e h; after = lt; within = m }

  some_base : (b : Base Path) (x c : ℕ) (s : Numbers) (o : Owner) → γ.tags x ≡ tag o c → x < s.expressions → AtMost (s ⊕ base_size b) T →
      BaseAt p γ N S b x c s → SomeExpression x
  unfolding expression_size
  some_base b x c s o e lt m h = some_expression (Expression.base b) x c s (ap (λ (t : Tag). t.inside) e) lt m (ExpressionAt.base h)

  walk_none : (k z : ℕ) → code_first p k ≡ z → instruction_walk p (code_first p k) 0 ≡ z
  unfolding instruction_walk
  walk_none k z e = e

  -- an operand: its entry, and what is inside it
  operand : (b : Base Path) (c : ℕ) (s : Numbers) (o : Owner) → γ.tags s.expressions ≡ tag o c → AtMost (past_base b s) T →
      BaseAt p γ N S b s.expressions c (one_expression s) → All (one_expression s) (past_base b s) → All s (past_base b s)
  operand b c s o t m h g = covered_then _ _ _ _ _ _ _ (covered_expression _ _ _ _ s (some_base b _ c (one_expression s) o t (omega arith) m h)) g

  module _ (C : codes p ≡ T.codes) (IL : T.instructions ≤ 512) where
    mutual
      unfolding base_size first_place

      pub base_cover : (b : Base Path) (x c : ℕ) (s : Numbers) → x < T.expressions → AtMost (s ⊕ base_size b) T → BaseAt p γ N S b x c s → All s (s ⊕ base_size b)
      base_cover (Base.integer z) x c s lt m h = covered_none _ _ _ _ _ _ (omega arith)
      base_cover (Base.string k) x c s lt m h = covered_none _ _ _ _ _ _ (omega arith)
      base_cover (Base.path q) x c s lt m (BaseAt.path r e h) =
          covered_in _ _ _ _ _ _ _ _ (omega arith) (omega arith) (covered_names _ _ _ _ s _ (names_below (names_of q) s.path_names r h))
      base_cover (Base.code k is) x c s lt m (BaseAt.code d q e n f h) =
          covered_in _ _ _ _ _ _ _ _ (omega arith) (omega arith)
          (covered_then _ _ _ _ _ _ _
          (covered_code _ _ _ _ s
          (subst SomeCode d
          (record { tree = is; start = one_code s; first = f; at = h; within = omega arith; there = omega arith; named = rw n e.entry })))
          (code_cover is k (one_code s) (omega arith) h 0 (walk_none k _ f) (omega arith)))

      pub expression_cover : (b : Expression Path) (x c : ℕ) (s : Numbers) → x < T.expressions → AtMost (s ⊕ expression_size b) T → ExpressionAt p γ N S b x c s →
          All s (s ⊕ expression_size b)
      expression_cover (Expression.base b) x c s lt m (ExpressionAt.base h) = base_cover b x c s lt m h
      expression_cover (Expression.not b) x c s lt m (ExpressionAt.not e t h) =
          covered_in _ _ _ _ _ _ _ _ (omega arith) (omega arith) (operand b c s _ t (omega arith) h (base_cover b _ c (one_expression s) (omega arith) (omega arith) h))
      expression_cover (Expression.operation o a b) x c s lt m (ExpressionAt.operation e t h u k) =
          covered_in _ _ _ _ _ _ _ _ (omega arith) (omega arith)
          (covered_then _ _ _ _ _ _ _ (operand a c s _ t (omega arith) h (base_cover a _ c (one_expression s) (omega arith) (omega arith) h)) (operand b c (past_base a s) _ u (omega arith) k (base_cover b _ c (one_expression (past_base a s)) (omega arith) (omega arith) k)))
      expression_cover (Expression.frame ss) x c s lt m (ExpressionAt.frame f e h) = slots_cover ss _ c s m h

      pub slots_cover : (ss : Slots Path) (o : Owner) (c : ℕ) (s : Numbers) → AtMost (s ⊕ slots_size ss) T → SlotsAt p γ N S ss o c s → All s (s ⊕ slots_size ss)
      slots_cover Slots.no_slots o c s m h = covered_none _ _ _ _ _ _ (omega arith)
      slots_cover (Slots.slot n b ss) o c s m (SlotsAt.slot r e d t h k) =
          covered_in _ _ _ _ _ _ _ _ (omega arith) (omega arith)
          (covered_then _ _ _ _ _ _ _
          (covered_expression _ _ _ _ s (some_expression b _ c (one_expression s) (ap (λ (t : Tag). t.inside) t) (omega arith) (omega arith) h))
          (covered_then _ _ _ _ _ _ _ (expression_cover b _ c (one_expression s) (omega arith) (omega arith) h) (slots_cover ss o c (past_expression b s) (omega arith) k)))

      pub instruction_cover : (b : Instruction Path) (i c : ℕ) (s : Numbers) → AtMost (s ⊕ instruction_size b) T → InstructionAt p γ N S b i c s →
          All s (s ⊕ instruction_size b)
      instruction_cover (Instruction.assign q b) i c s m (InstructionAt.assign r e j t h) =
          let u = more_names (length (names_of q)) s in
          covered_in _ _ _ _ _ _ _ _ (omega arith) (omega arith)
          (covered_then _ _ _ _ _ _ _ (covered_names _ _ _ _ s _ (names_below (names_of q) s.path_names r j))
          (covered_then _ _ _ _ _ _ _
          (covered_expression _ _ _ _ u (some_expression b _ _ (one_expression u) (ap (λ (t : Tag). t.inside) t) (omega arith) (omega arith) h))
          (expression_cover b _ _ (one_expression u) (omega arith) (omega arith) h)))
      instruction_cover (Instruction.show a) i c s m (InstructionAt.show e t h) =
          covered_in _ _ _ _ _ _ _ _ (omega arith) (omega arith) (operand a _ s _ t (omega arith) h (base_cover a _ _ (one_expression s) (omega arith) (omega arith) h))
      instruction_cover (Instruction.jump a b) i c s m (InstructionAt.jump e t h u k) =
          covered_in _ _ _ _ _ _ _ _ (omega arith) (omega arith)
          (covered_then _ _ _ _ _ _ _ (operand a _ s _ t (omega arith) h (base_cover a _ _ (one_expression s) (omega arith) (omega arith) h)) (operand b _ (past_base a s) _ u (omega arith) k (base_cover b _ _ (one_expression (past_base a s)) (omega arith) (omega arith) k)))
      instruction_cover (Instruction.ifeq a b d) i c s m (InstructionAt.ifeq e t h u k v j) =
          covered_in _ _ _ _ _ _ _ _ (omega arith) (omega arith)
          (covered_then _ _ _ _ _ _ _ (operand a _ s _ t (omega arith) h (base_cover a _ _ (one_expression s) (omega arith) (omega arith) h))
          (covered_then _ _ _ _ _ _ _ (operand b _ (past_base a s) _ u (omega arith) k (base_cover b _ _ (one_expression (past_base a s)) (omega arith) (omega arith) k)) (operand d _ (past_base b (past_base a s)) _ v (omega arith) j (base_cover d _ _ (one_expression (past_base b (past_base a s))) (omega arith) (omega arith) j))))

      -- `turns` instructions of code k stand before
      pub code_cover : (is : Code Path) (k : ℕ) (s : Numbers) → AtMost (s ⊕ code_size is) T → CodeAt p γ N S is k s → (turns : ℕ) →
          instruction_walk p (code_first p k) turns ≡ first_place is s.instructions → k < T.codes → All s (s ⊕ code_size is)
      code_cover Code.finished k s m h turns w lt = covered_none _ _ _ _ _ _ (omega arith)
      code_cover (o then is) k s m (CodeAt.next t h d r) turns w lt =
          let i : 1 + s.instructions ≡ suc s.instructions = omega arith in
          let u : instruction_after p s.instructions ≡ first_place is (past_instruction o s).instructions =
          after_instruction p s.instructions _ d ∙ code_reached is s.instructions (past_instruction o s).instructions (omega arith) (omega arith)
          in
          covered_in _ _ _ _ _ _ _ _ (omega arith) (omega arith)
          (covered_then _ _ _ _ _ _ _
          (covered_instruction _ _ _ _ s
          (record {
            tree = o;
            start = one_instruction s;
            at = rw t h;
            after = omega arith;
            within = omega arith;
            rest = is;
            link_is = d;
            rest_within = omega arith;
            stands = rw t (record { code_there = omega arith; turns = turns; here = w ∙ i });
          }))
          (covered_then _ _ _ _ _ _ _ (instruction_cover o _ k (one_instruction s) (omega arith) h)
          (code_cover is k (past_instruction o s) (omega arith) r (suc turns)
          (instruction_walk_suc p (code_first p k) turns ∙ follow_at p _ s.instructions (w ∙ i) ∙ u) lt)))
