-- What was emitted for a shaped program is well-formed. Assumes nothing.
use mathlib.Core.Path.{◌≡◌, ◌∙◌, sym, ap, subst}
use mathlib.Core.List.{List, [], ◌∷◌}
use Prim.Native.Nat.{ℕ, zero, suc, ◌+◌, ◌≤◌, ◌<◌}
use native.Mathlib.Omega.{arith}
use lib.ListN.{length, get_or}
use lib.Seq.{ext_get_or}
use Rattle.framed.specs.Bytes.{string_byte}
use Rattle.framed.specs.Program.{Program}
use Rattle.framed.specs.Tree.{Code, ◌then◌}
use Rattle.framed.specs.Paths.{Path}
use Rattle.tables.specs.Fields.{names, literals, expressions, instructions, codes, path_names, name_length, name_byte, literal_length, literal_byte, code_first}
use Rattle.program_names.specs.Form.{Limits, SameName, Name, Literal}
use Rattle.program_entries.specs.Form.{Entries}
use Rattle.program_form.specs.WellFormed.{WellFormed}
use Rattle.shapes.specs.Numbers.{Numbers, zeros, ◌⊕◌, slots_size, code_size}
use Rattle.shapes.specs.Shape.{Shaped}
use Rattle.emission.specs.Emit.{first_place}
use Rattle.emission.specs.Texts.{Listed, TextsAt}
use Rattle.emission_tree.specs.Standing.{Owner, Standing}
use Rattle.emission_tree.specs.Whole.{ProgramAt}
use Rattle.emission_tree.proofs.Whole.{program_standing, program_at}
use Rattle.emission_form.specs.Whole.{LoadWhole}
use Rattle.emission_form.proofs.Cover.{Covered, SomeExpression, SomeInstruction, SomeName, SomeCode, slots_cover}
use Rattle.emission_form.proofs.Slots.{Counts, frame_list}
use Rattle.emission_form.proofs.Facts.{expression_form, instruction_form, expression_facts, instruction_facts, instruction_linked}
use Rattle.emission_form.proofs.Parts.{parts_hold}

-- ---- Texts by number

listed_by : {A : Type 0} (g : ℕ → A) (d : A) (i j k : ℕ) (l : List A) → k ≡ i + j → j < length l → Listed g i l → g k ≡ get_or l j d
listed_by g d i j k [] e lt h = absurd (omega arith)
listed_by g d i zero k (a ∷ l) e lt (Listed.more f h) = ap g (omega arith) ∙ f
listed_by g d i (suc j) k (a ∷ l) e lt (Listed.more f h) = listed_by g d (i + 1) j k l (omega arith) (omega arith) h

-- text k of a list: its length and its bytes
record Text (size : ℕ → ℕ) (byte : ℕ → ℕ → ℕ) (k : ℕ) (w : List ℕ) : Type 0 where
  sized : size k ≡ length w
  bytes : (i : ℕ) → i < length w → byte k i ≡ get_or w i 0

text : (size : ℕ → ℕ) (byte : ℕ → ℕ → ℕ) (i j k : ℕ) (ws : List (List ℕ)) → k ≡ i + j → j < length ws → TextsAt size byte i ws → Text size byte k (get_or ws j [])
text size byte i j k [] e lt h = absurd (omega arith)
text size byte i zero k (w ∷ ws) e lt (TextsAt.more f b h) =
    let z : i ≡ k = omega arith in
    subst (λ (n : ℕ). Text size byte n w) z (record { sized = f; bytes = λ n l. listed_by (byte i) 0 0 n n w (omega arith) l b })
text size byte i (suc j) k (w ∷ ws) e lt (TextsAt.more f b h) = text size byte (i + 1) j k ws (omega arith) (omega arith) h

first_there : (is : Code Path) (z i t : ℕ) → first_place is z ≡ suc i → z + (code_size is).instructions ≤ t → i < t
unfolding first_place code_size
first_there Code.finished z i t e m = absurd (omega arith)
first_there (o then is) z i t e m = omega arith

module _ (p l : List ℕ) (γ : Standing) (q : Program) (F T : ℕ) (h : Shaped q) (a : ProgramAt p l γ q F T) (f3 : 3 ≤ F) (f256 : F ≤ 256) (t256 : T ≤ 256) where
  abbrev N : ℕ
  N = length q.names

  abbrev S : ℕ
  S = length q.literals

  abbrev end : Numbers
  end = slots_size q.slots

  counts : Counts p N S end
  counts =
      let e = a.header in
      let s = h.size in
      record {
        names_are = e.names_are;
        literals_are = e.literals_are;
        expressions_are = e.expressions_are;
        instructions_are = e.instructions_are;
        path_names_are = e.path_names_are;
        codes_are = e.codes_are;
        expressions_most = s.expressions_most;
        instructions_most = s.instructions_most;
      }

  covered : Covered (SomeExpression p γ N S end) (SomeInstruction p γ N S end) (SomeName p γ N S end) (SomeCode p γ N S end) zeros (zeros ⊕ end)
  covered = slots_cover p γ N S end a.header.codes_are h.size.instructions_most q.slots Owner.program 0 zeros (omega arith) a.slots

  some_expression : (x : ℕ) → x < expressions p → SomeExpression p γ N S end x
  some_expression x lt = covered.expressions x (omega arith) (omega (arith, a.header.expressions_are))

  some_instruction : (i : ℕ) → i < instructions p → SomeInstruction p γ N S end i
  some_instruction i lt = covered.instructions i (omega arith) (omega (arith, a.header.instructions_are))

  some_code : (k : ℕ) → k < codes p → SomeCode p γ N S end k
  some_code k lt = covered.codes k (omega arith) (omega (arith, a.header.codes_are))

  limits : Limits p
  limits =
      let e = a.header in
      let s = h.size in
      record {
        F_least = omega (arith, e.F_is);
        F_most = omega (arith, e.F_is);
        T_most = omega (arith, e.T_is);
        names_most = omega (arith, e.names_are, h.names_most);
        literals_most = omega (arith, e.literals_are, h.literals_most);
        expressions_most = omega (arith, e.expressions_are, s.expressions_most);
        instructions_most = omega (arith, e.instructions_are, s.instructions_most);
        codes_most = omega (arith, e.codes_are, s.codes_most);
        path_names_most = omega (arith, e.path_names_are, s.path_names_most);
        start_there = omega (arith, e.start_is, e.codes_are, h.start_there);
      }

  name_text : (k : ℕ) → k < N → Text (name_length p) (name_byte p) k (get_or q.names k [])
  name_text k lt = text _ _ 0 k k q.names (omega arith) lt a.names

  name_new : (k j : ℕ) → k < N → j < k → SameName p k j → ⊥
  name_new k j lt l e =
      let u = name_text k lt in
      let v = name_text j (omega arith) in
      let s : length (get_or q.names j []) ≡ length (get_or q.names k []) = sym v.sized ∙ sym e.lengths ∙ u.sized in
      h.distinct j k l lt
      (ext_get_or 0 (get_or q.names j []) (get_or q.names k []) s
      (λ i li. sym (v.bytes i li) ∙ sym (e.bytes i (omega (arith, u.sized))) ∙ u.bytes i (omega arith)))

  name_is : (k : ℕ) → k < names p → Name p k
  name_is k lt =
      let lk : k < N = omega (arith, a.header.names_are) in
      let u = name_text k lk in
      let n = h.name k lk in
      record {
        least = omega (arith, u.sized, n.least);
        most = omega (arith, u.sized, n.most);
        bytes = λ i li. let lw : i < length (get_or q.names k []) = omega (arith, u.sized) in omega (arith, u.bytes i lw, n.bytes i lw);
        new = λ j l e. name_new k j lk l e;
      }

  literal_is : (k : ℕ) → k < literals p → Literal p l k
  literal_is k lt =
      let lk : k < S = omega (arith, a.header.literals_are) in
      let u = text (literal_length p) (literal_byte l) 0 k k q.literals (omega arith) lk a.literals in
      let n = h.literal k lk in
      record {
        most = omega (arith, u.sized, n.most);
        bytes = λ i li. let lw : i < length (get_or q.literals k []) = omega (arith, u.sized) in ap string_byte (u.bytes i lw) ∙ n.bytes i lw;
      }

  code_first_is : (k i : ℕ) → k < codes p → code_first p k ≡ suc i → i < instructions p
  code_first_is k i lt e =
      let c = some_code k lt in
      let m = c.within in
      first_there c.tree c.start.instructions i (instructions p) (sym c.first ∙ e) (omega (arith, a.header.instructions_are))

  entries : Entries p l
  entries =
      record {
        limits = limits;
        texts =
            record {
              name = name_is;
              literal = literal_is;
              path_name_there = λ j lt.
                  let n = covered.path_names j (omega arith) (omega (arith, a.header.path_names_are)) in omega (arith, n.below, a.header.names_are);
            };
        expression = λ x lt. expression_form p γ x _ (expression_facts p γ N S end counts x (some_expression x lt));
        instruction = λ i lt.
            let s = some_instruction i lt in
            instruction_form p γ i _ (instruction_facts p γ N S end counts i s) (instruction_linked p γ N S end counts i s);
        code_first_there = code_first_is;
        program_frame = rw a.header.slots_are (frame_list p γ N S end counts q.slots Owner.program 0 zeros (omega arith) h.frame a.slots);
      }

  pub well_formed : WellFormed p l
  well_formed =
      record {
        size = a.size;
        literal_size = a.literal_size;
        entries = entries;
        parts = parts_hold p γ N S end counts some_expression some_instruction some_code;
      }

pub load_whole : LoadWhole
load_whole q F T h f3 f256 t256 = well_formed _ _ (program_standing q) q F T h (program_at q F T h) f3 f256 t256
