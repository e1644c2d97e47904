-- The header as it is written. Assumes nothing.
use mathlib.Core.Path.{◌≡◌, ◌∙◌, sym, ap}
use mathlib.Core.List.{List}
use Prim.Native.Nat.{ℕ}
use native.Mathlib.Omega.{arith}
use lib.ListN.{length}
use Rattle.framed.specs.Program.{Program}
use Rattle.tables.specs.Fields.{frame_limit, text_limit, names, literals, expressions, instructions, codes, path_names, program_slots, start}
use Rattle.table_updates.specs.Updates.{set_frame_limit, set_text_limit, set_names, set_literals, set_expressions, set_instructions, set_codes, set_path_names, set_program_slots}
use Rattle.table_updates.proofs.Laws.{Region, region_then, region_wider, set_frame_limit_region, set_text_limit_region, set_names_region, set_literals_region, set_expressions_region, set_instructions_region, set_codes_region, set_path_names_region, set_program_slots_region, set_start_region}
use Rattle.table_updates.proofs.Laws.{frame_limit_kept, text_limit_kept, names_kept, literals_kept, expressions_kept, instructions_kept, codes_kept, path_names_kept, program_slots_kept}
use Rattle.table_updates.proofs.Laws.{frame_limit_set, text_limit_set, names_set, literals_set, expressions_set, instructions_set, codes_set, path_names_set, program_slots_set, start_set}
use Rattle.shapes.specs.Numbers.{Numbers, slots_size}
use Rattle.emission.specs.Emit.{first_slot_place, write_header}
use Rattle.emission.specs.Texts.{HeaderAt}

module _ (q : Program) (F T : ℕ) (s : Numbers) (p : List ℕ) where
  h1 : List ℕ
  h1 = set_frame_limit p F

  h2 : List ℕ
  h2 = set_text_limit h1 T

  h3 : List ℕ
  h3 = set_names h2 (length q.names)

  h4 : List ℕ
  h4 = set_literals h3 (length q.literals)

  h5 : List ℕ
  h5 = set_expressions h4 s.expressions

  h6 : List ℕ
  h6 = set_instructions h5 s.instructions

  h7 : List ℕ
  h7 = set_codes h6 s.codes

  h8 : List ℕ
  h8 = set_path_names h7 s.path_names

  h9 : List ℕ
  h9 = set_program_slots h8 (first_slot_place q.slots 0)

  abbrev all : List ℕ
  all = write_header q F T s p

  from_9 : Region h9 all 9 10
  unfolding write_header h1 h2 h3 h4 h5 h6 h7 h8 h9
  from_9 = set_start_region h9 q.start

  from_8 : Region h8 all 8 10
  unfolding h9
  from_8 = region_then h8 h9 all 8 10 (region_wider _ _ _ _ _ _ (set_program_slots_region h8 _) (omega arith) (omega arith)) (region_wider _ _ _ _ _ _ from_9 (omega arith) (omega arith))

  from_7 : Region h7 all 7 10
  unfolding h8
  from_7 = region_then h7 h8 all 7 10 (region_wider _ _ _ _ _ _ (set_path_names_region h7 _) (omega arith) (omega arith)) (region_wider _ _ _ _ _ _ from_8 (omega arith) (omega arith))

  from_6 : Region h6 all 6 10
  unfolding h7
  from_6 = region_then h6 h7 all 6 10 (region_wider _ _ _ _ _ _ (set_codes_region h6 _) (omega arith) (omega arith)) (region_wider _ _ _ _ _ _ from_7 (omega arith) (omega arith))

  from_5 : Region h5 all 5 10
  unfolding h6
  from_5 = region_then h5 h6 all 5 10 (region_wider _ _ _ _ _ _ (set_instructions_region h5 _) (omega arith) (omega arith)) (region_wider _ _ _ _ _ _ from_6 (omega arith) (omega arith))

  from_4 : Region h4 all 4 10
  unfolding h5
  from_4 = region_then h4 h5 all 4 10 (region_wider _ _ _ _ _ _ (set_expressions_region h4 _) (omega arith) (omega arith)) (region_wider _ _ _ _ _ _ from_5 (omega arith) (omega arith))

  from_3 : Region h3 all 3 10
  unfolding h4
  from_3 = region_then h3 h4 all 3 10 (region_wider _ _ _ _ _ _ (set_literals_region h3 _) (omega arith) (omega arith)) (region_wider _ _ _ _ _ _ from_4 (omega arith) (omega arith))

  from_2 : Region h2 all 2 10
  unfolding h3
  from_2 = region_then h2 h3 all 2 10 (region_wider _ _ _ _ _ _ (set_names_region h2 _) (omega arith) (omega arith)) (region_wider _ _ _ _ _ _ from_3 (omega arith) (omega arith))

  from_1 : Region h1 all 1 10
  unfolding h2
  from_1 = region_then h1 h2 all 1 10 (region_wider _ _ _ _ _ _ (set_text_limit_region h1 _) (omega arith) (omega arith)) (region_wider _ _ _ _ _ _ from_2 (omega arith) (omega arith))

  pub header_region : Region p (write_header q F T s p) 0 10
  unfolding h1
  header_region = region_then p h1 all 0 10 (region_wider _ _ _ _ _ _ (set_frame_limit_region p _) (omega arith) (omega arith)) (region_wider _ _ _ _ _ _ from_1 (omega arith) (omega arith))

  module _ (l : length p ≡ 16384) where
    long : length all ≡ 16384
    long = header_region.size ∙ l

    frame_limit_is : frame_limit all ≡ F
    unfolding h1
    frame_limit_is = frame_limit_kept h1 all 1 10 from_1 (λ a b. omega arith) ∙ frame_limit_set p F l

    text_limit_is : text_limit all ≡ T
    unfolding h2
    text_limit_is = text_limit_kept h2 all 2 10 from_2 (λ a b. omega arith) ∙ text_limit_set h1 T (sym from_1.size ∙ long)

    names_is : names all ≡ length q.names
    unfolding h3
    names_is = names_kept h3 all 3 10 from_3 (λ a b. omega arith) ∙ names_set h2 _ (sym from_2.size ∙ long)

    literals_is : literals all ≡ length q.literals
    unfolding h4
    literals_is = literals_kept h4 all 4 10 from_4 (λ a b. omega arith) ∙ literals_set h3 _ (sym from_3.size ∙ long)

    expressions_is : expressions all ≡ s.expressions
    unfolding h5
    expressions_is = expressions_kept h5 all 5 10 from_5 (λ a b. omega arith) ∙ expressions_set h4 _ (sym from_4.size ∙ long)

    instructions_is : instructions all ≡ s.instructions
    unfolding h6
    instructions_is = instructions_kept h6 all 6 10 from_6 (λ a b. omega arith) ∙ instructions_set h5 _ (sym from_5.size ∙ long)

    codes_is : codes all ≡ s.codes
    unfolding h7
    codes_is = codes_kept h7 all 7 10 from_7 (λ a b. omega arith) ∙ codes_set h6 _ (sym from_6.size ∙ long)

    path_names_is : path_names all ≡ s.path_names
    unfolding h8
    path_names_is = path_names_kept h8 all 8 10 from_8 (λ a b. omega arith) ∙ path_names_set h7 _ (sym from_7.size ∙ long)

    program_slots_is : program_slots all ≡ first_slot_place q.slots 0
    unfolding h9
    program_slots_is = program_slots_kept h9 all 9 10 from_9 (λ a b. omega arith) ∙ program_slots_set h8 _ (sym from_8.size ∙ long)

    start_is : start all ≡ q.start
    unfolding write_header h1 h2 h3 h4 h5 h6 h7 h8 h9
    start_is = start_set h9 _ (sym from_9.size ∙ long)

pub header_at : (q : Program) (F T : ℕ) (s : Numbers) (p : List ℕ) → length p ≡ 16384 → s ≡ slots_size q.slots → HeaderAt (write_header q F T s p) q F T
header_at q F T s p l e =
    record {
      F_is = frame_limit_is q F T s p l;
      T_is = text_limit_is q F T s p l;
      names_are = names_is q F T s p l;
      literals_are = literals_is q F T s p l;
      expressions_are = expressions_is q F T s p l ∙ ap (λ (t : Numbers). t.expressions) e;
      instructions_are = instructions_is q F T s p l ∙ ap (λ (t : Numbers). t.instructions) e;
      codes_are = codes_is q F T s p l ∙ ap (λ (t : Numbers). t.codes) e;
      path_names_are = path_names_is q F T s p l ∙ ap (λ (t : Numbers). t.path_names) e;
      slots_are = program_slots_is q F T s p l;
      start_is = start_is q F T s p l;
    }
