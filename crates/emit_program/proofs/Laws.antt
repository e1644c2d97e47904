-- What each function leaves; the words and bytes of an accepted source are those of its program. Assumes nothing.
use mathlib.Core.Path.{◌≡◌, refl, sym, ap, ◌∙◌, subst}
use mathlib.Core.List.{List, [], ◌∷◌}
use mathlib.Core.Option.{some}
use Prim.Native.Nat.{ℕ, ◌≤◌}
use lib.ListN.{length}
use Rattle.framed.specs.Common.{bytes}
use Rattle.framed.specs.Tokens.{Token}
use Rattle.framed.specs.Symbols.{number_in, name_table, literals}
use Rattle.framed.specs.Tree.{Written, Slots}
use Rattle.framed.specs.Paths.{Path, resolve_slots, program_place}
use Rattle.framed.specs.Meaning.{Lengths, refusal, main_start}
use Rattle.framed.specs.Program.{Program, program, program_of}
use Rattle.framed.specs.Accepted.{SourceFits}
use Rattle.framed.proofs.Accepted.{accepted_start}
use Rattle.sweep.specs.Decides.{Short}
use Rattle.names.specs.Kept.{table_of, Kept}
use Rattle.names.proofs.Laws.{table_length}
use Rattle.strings.specs.Places.{Placed}
use Rattle.table_updates.specs.Updates.{set_frame_limit, set_text_limit, set_names, set_literals, set_expressions, set_instructions, set_codes, set_path_names, set_program_slots, set_start}
use Rattle.trees.specs.Held.{program_held}
use Rattle.shapes.specs.Numbers.{zeros, slots_size}
use Rattle.shapes.specs.Shape.{SizeShaped}
use Rattle.shapes.proofs.Accepted.{accepted_shaped}
use Rattle.emission.specs.Emit.{emitting, cleared, emit_slots, emit_tree, first_slot_place, write_names, write_literal_lengths, write_literals, write_header, program_words, literal_bytes}
use Rattle.emission_accepted.proofs.Kept.{accepted_kept}
use Rattle.accepted.proofs.Accepted.{accepted_sources}
use Rattle.emit_literals.specs.Literals.{AllWritten}
use Rattle.emit_steps.specs.Steps.{numbers}
use Rattle.emit_steps.specs.declared.Next.{Next}
use Rattle.emit_tree.specs.Tree.{TreeEmitted, FirstSlot}
use Rattle.start_code.specs.StartCode.{start_code}
use Rattle.start_code.proofs.Found.{start_found, start_code_kept}
use Rattle.emit_program.specs.Written.{write_limits, write_counts, write_start, HeaderWritten, TreeWritten, TablesWritten, CanEmit, Emitted}

-- ---- The header

pub limits_done : (p : List ℕ) (F T n k : ℕ) (p₁ p₂ p₃ p₄ : List ℕ) → p₁ ≡ set_frame_limit p F → p₂ ≡ set_text_limit p₁ T → p₃ ≡ set_names p₂ n → p₄ ≡ set_literals p₃ k → p₄ ≡ write_limits p F T n k
unfolding write_limits
limits_done p F T n k p₁ p₂ p₃ p₄ a b c d = rw (d, c, b, a)

pub counts_done : (p : List ℕ) (n : Next) (z : ℕ) (p₁ p₂ p₃ p₄ p₅ : List ℕ) → p₁ ≡ set_expressions p n.expressions → p₂ ≡ set_instructions p₁ n.instructions → p₃ ≡ set_codes p₂ n.codes
    → p₄ ≡ set_path_names p₃ n.paths → p₅ ≡ set_program_slots p₄ z → p₅ ≡ write_counts p (numbers n) z
unfolding write_counts
counts_done p n z p₁ p₂ p₃ p₄ p₅ a b c d e = rw (e, d, c, b, a)

pub start_done : (table : List (List ℕ)) (p : List ℕ) (m s k : ℕ) (p' : List ℕ) → m ≡ number_in table (77 ∷ 97 ∷ 105 ∷ 110 ∷ []) → s ≡ number_in table (115 ∷ 116 ∷ 97 ∷ 114 ∷ 116 ∷ []) → k ≡ start_code p m s
    → p' ≡ set_start p k → p' ≡ write_start table p
unfolding write_start bytes
start_done table p m s k p' em es ek ep = rw (ep, ek, em, es)

pub header_done : (s b e : List ℕ) (c k : ℕ) (n : Next) (F T : ℕ) (p p₁ : List ℕ) (z : ℕ) (p₂ p' : List ℕ) → p₁ ≡ write_limits p F T c k → FirstSlot s z → p₂ ≡ write_counts p₁ (numbers n) z
    → p' ≡ write_start (table_of s b e c) p₂ → HeaderWritten s b e c k n F T p p'
header_done s b e c k n F T p p₁ z p₂ p' e₁ first e₂ e₃ = record { slots = z; slots_are = first; is = rw (e₃, e₂, e₁) }

-- ---- Both memories

module _ (m : Lengths) (s : List ℕ) (F T : ℕ) (q : Program) (re : refusal m s F T ≡ 0) (pr : program s ≡ some q) where
  fits : SourceFits s F q
  fits = (accepted_sources m s F T q re pr).source_fits

  abbrev ts : List Token
  ts = fits.list

  abbrev ss : Slots Written
  ss = fits.tree

  names_are : name_table ts ≡ q.names
  unfolding program_of
  names_are = ap (λ (r : Program). r.names) fits.program_is

  literals_are : literals ts ≡ q.literals
  unfolding program_of
  literals_are = ap (λ (r : Program). r.literals) fits.program_is

  slots_are : resolve_slots program_place ss ≡ q.slots
  unfolding program_of
  slots_are = ap (λ (r : Program). r.slots) fits.program_is

  -- the words of the program but for the start
  abbrev body : List ℕ
  body = write_counts (write_limits (write_literal_lengths q.literals 0 (write_names q.names 0 (emit_tree q).words)) F T (length q.names) (length q.literals)) (emit_tree q).next (first_slot_place q.slots 0)

  words_are : set_start body q.start ≡ program_words q F T
  unfolding program_words write_header write_limits write_counts
  words_are = refl

  start_is : start_code body (number_in q.names (bytes "Main")) (number_in q.names (bytes "start")) ≡ q.start
  unfolding program_held
  start_is =
      let k = accepted_kept m s F T q re pr in
      sym (start_code_kept body q.start _ _)
      ∙ ap (λ (p : List ℕ). start_code p (number_in q.names (bytes "Main")) (number_in q.names (bytes "start"))) words_are
      ∙ start_found (program_words q F T) (literal_bytes q) q.names q.start k.whole
      (ap (λ (r : Program). main_start q.names r.slots) k.decodes.program ∙ accepted_start s F q fits)

  start_written : write_start q.names body ≡ program_words q F T
  unfolding write_start
  start_written = ap (set_start body) start_is ∙ words_are

  size : SizeShaped (slots_size (resolve_slots program_place ss))
  size = rw slots_are (accepted_shaped m s F T q re pr).size

  few_names : length (name_table ts) ≤ 128
  few_names = rw names_are (accepted_shaped m s F T q re pr).names_most

  few_literals : length (literals ts) ≤ 128
  few_literals = rw literals_are (accepted_shaped m s F T q re pr).literals_most

  module _ (b e : List ℕ) (c : ℕ) (names : table_of s b e c ≡ q.names) where
    -- the tree from cleared words
    tree_is : (p' : List ℕ) (n : Next) → Short s → TreeEmitted s b e c (cleared 16384) p' n → emitting p' (numbers n) ≡ emit_tree q
    unfolding emit_tree
    tree_is p' n short t =
        t.says ts ss fits.list_is fits.tree_is short (names ∙ sym names_are) fits.nesting fits.in_place size
        ∙ ap (λ (x : Slots Path). emit_slots x (emitting (cleared 16384) zeros)) slots_are

    count_is : c ≡ length q.names
    count_is = sym (table_length s b e c) ∙ ap length names

module _ (s b e : List ℕ) (c F T : ℕ) (p l : List ℕ) (short : Short s) (p₁ : List ℕ) (n : Next) (t : TreeWritten s b e c p p₁ n) (p₂ l' : List ℕ) (a : AllWritten s p₁ l p₂ l') (places : List ℕ) (k : ℕ) (placed : Placed s places k)
    (p' : List ℕ) (h : HeaderWritten s b e c k n F T p₂ p') where
  module _ (m : Lengths) (q : Program) (re : refusal m s F T ≡ 0) (pr : program s ≡ some q) where
    abbrev f : SourceFits s F q
    f = fits m s F T q re pr

    lengths_written : p₂ ≡ write_literal_lengths q.literals 0 p₁
    lengths_written =
        a.words_are f.list f.list_is (few_literals m s F T q re pr)
        ∙ ap (λ (ws : List (List ℕ)). write_literal_lengths ws 0 p₁) (literals_are m s F T q re pr)

    literals_count : k ≡ length q.literals
    literals_count = placed.count f.list f.list_is ∙ ap length (literals_are m s F T q re pr)

    bytes_written : l ≡ cleared 8192 → l' ≡ literal_bytes q
    unfolding literal_bytes
    bytes_written blank =
        a.bytes_are f.list f.list_is (few_literals m s F T q re pr)
        ∙ (λ i. write_literals (literals_are m s F T q re pr i) 0 (blank i))

    words_written : table_of s b e c ≡ q.names → p ≡ cleared 16384 → p' ≡ program_words q F T
    words_written names blank = h.is ∙ ap (write_start (table_of s b e c)) body_is ∙ ap (λ (x : List (List ℕ)). write_start x (body m s F T q re pr)) names ∙ start_written m s F T q re pr
      where
        tree : emitting t.words (numbers n) ≡ emit_tree q
        tree = tree_is m s F T q re pr b e c names t.words n short (subst (λ (x : List ℕ). TreeEmitted s b e c x t.words n) blank t.tree)

        words_are : p₂ ≡ write_literal_lengths q.literals 0 (write_names q.names 0 (emit_tree q).words)
        words_are =
            lengths_written
            ∙ ap (write_literal_lengths q.literals 0) (t.is ∙ (λ i. write_names (names i) 0 (tree i).words))

        slots_place : h.slots ≡ first_slot_place q.slots 0
        slots_place =
            h.slots_are.is f.list f.tree f.list_is f.tree_is ∙ ap (λ (x : Slots Path). first_slot_place x 0) (slots_are m s F T q re pr)

        body_is : write_counts (write_limits p₂ F T c k) (numbers n) h.slots ≡ body m s F T q re pr
        body_is =
            λ i. write_counts (write_limits (words_are i) F T (count_is m s F T q re pr b e c names i) (literals_count i)) (tree i).next (slots_place i)

  pub tables_done : TablesWritten s b e c F T p l p' l'
  tables_done = record { words = words_written; bytes = bytes_written }

-- ---- From lent memories

pub emit_done : (s : List ℕ) (F T : ℕ) (p l b e : List ℕ) (c : ℕ) (p₁ l₁ p' l' : List ℕ) → CanEmit s p l → p₁ ≡ cleared (length p) → l₁ ≡ cleared (length l) → Kept s b e c → TablesWritten s b e c F T p₁ l₁ p' l'
    → Emitted s F T p' l'
emit_done s F T p l b e c p₁ l₁ p' l' can ep el kept w = record {
  words = λ m q re pr. w.words m q re pr
      (kept.is (ts m s F T q re pr) (fits m s F T q re pr).list_is (few_names m s F T q re pr) ∙ names_are m s F T q re pr)
      (ep ∙ ap cleared can.program_size);
  bytes = λ m q re pr. w.bytes m q re pr (el ∙ ap cleared can.literal_size);
}
