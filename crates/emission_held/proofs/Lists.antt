-- Lists that are read by number: one after the other, and as a whole. Assumes nothing.
use mathlib.Core.Path.{◌≡◌, refl, ◌∙◌, ap, subst}
use mathlib.Core.List.{List, [], ◌∷◌, ◌++◌}
use Prim.Native.Nat.{ℕ, suc, ◌+◌}
use native.Mathlib.Omega.{arith}
use native.Mathlib.Numerals.{add-one}
use lib.ListN.{length, length-append}
use Rattle.framed.specs.Tree.{Instruction, Code}
use Rattle.framed.specs.Paths.{Path}
use Rattle.framed.specs.Program.{Part, block, line, instruction_parts, codes_in, instructions_in, first_number, firsts_in, nexts_in}
use Rattle.framed.proofs.Parts.{lines, codes_append, instructions_append, firsts_append, nexts_append}
use Rattle.tables.specs.Fields.{code_first, instruction_after}
use Rattle.trees.specs.Held.{instruction_held, remaining, list_from}
use Rattle.emission.specs.Texts.{Listed, TextsAt}

-- g has the elements of l from number i on and below j
pub record Run {A : Type 0} (g : ℕ → A) (i : ℕ) (l : List A) (j : ℕ) : Type 0 where
  pub listed : Listed g i l
  pub count : i + length l ≡ j

listed_append : {A : Type 0} (g : ℕ → A) (i j : ℕ) (l m : List A) → i + length l ≡ j → Listed g i l → Listed g j m → Listed g i (l ++ m)
listed_append g i j [] m e a b = subst (λ (k : ℕ). Listed g k m) (omega arith) b
listed_append g i j (x ∷ l) m e (Listed.more f a) b = Listed.more f (listed_append g (i + 1) j l m (omega arith) a b)

pub run_append : {A : Type 0} (g : ℕ → A) (i j k : ℕ) (l m : List A) → Run g i l j → Run g j m k → Run g i (l ++ m) k
run_append g i j k l m a b =
    record { listed = listed_append g i j l m a.count a.listed b.listed; count = omega (arith, length-append l m, a.count, b.count) }

pub read_list : {A : Type 0} (g : ℕ → A) (i : ℕ) (l : List A) → Listed g i l → list_from g (length l) i ≡ l
unfolding list_from
read_list g i [] h = refl
read_list g i (a ∷ l) (Listed.more e h) = rw (e, read_list g (i + 1) l h)

pub read_run : {A : Type 0} (g : ℕ → A) (n j : ℕ) (l : List A) → n ≡ j → Run g 0 l j → list_from g n 0 ≡ l
read_run g n j l e h = ap (λ (k : ℕ). list_from g k 0) (omega (arith, h.count)) ∙ read_list g 0 l h.listed

-- texts, each read as a list
pub texts_listed : (size : ℕ → ℕ) (byte : ℕ → ℕ → ℕ) (k : ℕ) (ws : List (List ℕ)) → TextsAt size byte k ws → Listed (λ (j : ℕ). list_from (byte j) (size j) 0) k ws
texts_listed size byte k [] h = Listed.none
texts_listed size byte k (w ∷ ws) (TextsAt.more e b h) = Listed.more (ap (λ (n : ℕ). list_from (byte k) n 0) e ∙ read_list (byte k) 0 w b) (texts_listed size byte (k + 1) ws h)

-- ---- The codes and instructions among parts

abbrev pub code_of : List ℕ → ℕ → Code Path
code_of p k = remaining p (code_first p k)

-- the words p have the codes and instructions of the parts, from k and i on and below k' and i', and their numbers, which are 1 + the place
pub record Reads (p : List ℕ) (k i : ℕ) (ps : List Part) (k' i' : ℕ) : Type 0 where
  pub codes : Run (code_of p) k (codes_in ps) k'
  pub instructions : Run (instruction_held p) i (instructions_in ps) i'
  pub firsts : Run (code_first p) k (firsts_in (suc i) ps) k'
  pub nexts : Run (instruction_after p) i (nexts_in (suc i) ps) i'

module _ {p : List ℕ} where
  pub reads_none : {k i k' i' : ℕ} → k ≡ k' → i ≡ i' → Reads p k i [] k' i'
  unfolding codes_in instructions_in firsts_in nexts_in
  reads_none d e =
      record {
        codes = record { listed = Listed.none; count = omega arith };
        instructions = record { listed = Listed.none; count = omega arith };
        firsts = record { listed = Listed.none; count = omega arith };
        nexts = record { listed = Listed.none; count = omega arith };
      }

  pub reads_block : {k i k' i' : ℕ} {is : Code Path} {ps : List Part} → code_of p k ≡ is → code_first p k ≡ first_number (suc i) is →
      Reads p (k + 1) i ps k' i' → Reads p k i (block is ∷ ps) k' i'
  unfolding codes_in instructions_in firsts_in nexts_in
  reads_block e f h =
      record {
        codes = record { listed = Listed.more e h.codes.listed; count = omega (arith, h.codes.count) };
        instructions = h.instructions;
        firsts = record { listed = Listed.more f h.firsts.listed; count = omega (arith, h.firsts.count) };
        nexts = h.nexts;
      }

  pub reads_line : {k i k' i' : ℕ} {o : Instruction Path} {is : Code Path} {ps : List Part} → instruction_held p i ≡ o →
      instruction_after p i ≡ first_number (suc (suc i) + lines (instruction_parts o)) is →
      Reads p k (i + 1) ps k' i' → Reads p k i (line o is ∷ ps) k' i'
  unfolding codes_in instructions_in firsts_in nexts_in
  reads_line {k} {i} {k'} {ps = ps} e u h =
      record {
        codes = h.codes;
        instructions = record { listed = Listed.more e h.instructions.listed; count = omega (arith, h.instructions.count) };
        firsts = subst (λ (j : ℕ). Run (code_first p) k (firsts_in (suc j) ps) k') (add-one i) h.firsts;
        nexts =
            record {
              listed = Listed.more u (subst (λ (j : ℕ). Listed (instruction_after p) (i + 1) (nexts_in (suc j) ps)) (add-one i) h.nexts.listed);
              count = omega (arith, h.nexts.count, ap (λ (j : ℕ). length (nexts_in (suc j) ps)) (add-one i));
            };
      }

  pub reads_append : {k i k' i' k'' i'' : ℕ} {ps qs : List Part} → Reads p k i ps k' i' → Reads p k' i' qs k'' i'' → Reads p k i (ps ++ qs) k'' i''
  reads_append {i = i} {i' = i'} {ps = ps} {qs = qs} a b =
      let e : suc i + lines ps ≡ suc i' = omega (arith, a.instructions.count) in
      record {
        codes = rw (codes_append ps qs) (run_append _ _ _ _ _ _ a.codes b.codes);
        instructions = rw (instructions_append ps qs) (run_append _ _ _ _ _ _ a.instructions b.instructions);
        firsts = rw (firsts_append (suc i) ps qs, e) (run_append _ _ _ _ _ _ a.firsts b.firsts);
        nexts = rw (nexts_append (suc i) ps qs, e) (run_append _ _ _ _ _ _ a.nexts b.nexts);
      }

  pub reads_to : {k i k' i' k'' i'' : ℕ} {ps : List Part} → k' ≡ k'' → i' ≡ i'' → Reads p k i ps k' i' → Reads p k i ps k'' i''
  reads_to {k} {i} {k'} {i'' = i''} {ps = ps} d e a = subst (λ (m : ℕ). Reads p k i ps m i'') d (subst (λ (j : ℕ). Reads p k i ps k' j) e a)
