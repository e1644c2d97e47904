-- The text of an accepted source's program is read in its tokens, has the same program, is accepted where it is short enough, and has fewer than twice the bytes
-- of the source. Assumes nothing.
use mathlib.Core.Path.{◌≡◌, refl, sym, ap, ◌∙◌, subst}
use mathlib.Core.Bool.{true}
use mathlib.Core.List.{List, [], ◌∷◌}
use mathlib.Core.Option.{Option, none, some}
use Prim.Native.Nat.{ℕ, zero, suc, ◌*◌, ◌≤◌, ◌<◌}
use native.Mathlib.Omega.{arith}
use lib.Dec.{ltb}
use lib.ListN.{length}
use borrow.Author.Tests.{le-leb, le-ltb}
use Rattle.framed.specs.Common.{total}
use Rattle.framed.specs.Bytes.{class}
use Rattle.framed.specs.Tokens.{Token, tokens, highest_nesting, Tokens⊢}
use Rattle.framed.specs.Symbols.{Symbol, name_table, literals, symbols}
use Rattle.framed.specs.Tree.{Written, Slots}
use Rattle.framed.specs.Parse.{parse}
use Rattle.framed.specs.Grammar.{Source}
use Rattle.framed.specs.Paths.{resolve_slots, program_place}
use Rattle.framed.specs.Meaning.{Lengths, right_lengths, main_start, refusal, lowest, arguments_refusal, source_refusal, tree_refusal, meaning_refusal}
use Rattle.framed.specs.Program.{Program, program, program_of, started, program_of_tree, program_of_tokens}
use Rattle.framed.specs.Writer.{text, text_tokens, program_words}
use Rattle.framed.proofs.Accepted.{suc≢zero, nesting_accepts}
use Rattle.framed.proofs.General.{some_inj}
use Rattle.framed.proofs.TokensExact.{tokens_agree}
use Rattle.framed.proofs.ParseExact.{parse_agrees}
use Rattle.shapes.proofs.Tokens.{tokens_shaped}
use Rattle.shapes.proofs.Names.{Ordered, ordered, table_shaped}
use Rattle.accepted.specs.Accepted.{ArgumentsFit}
use Rattle.accepted.proofs.Accepted.{accepted_sources}
use Rattle.token_spelling.proofs.Lawful.{constant_lawful}
use Rattle.token_spelling.proofs.WordsRead.{words_read}
use Rattle.write_symbols.specs.Order.{InOrder, names_in, Without}
use Rattle.write_symbols.specs.Symbols.{frame_symbols, spelled, spelled_all}
use Rattle.write_symbols.specs.Theorems.{SpelledBack}
use Rattle.write_symbols.proofs.Derive.{symbols_derive}
use Rattle.write_symbols.proofs.Source.{source_without}
use Rattle.write_symbols.proofs.Keeps.{without_keeps}
use Rattle.write_symbols.proofs.Appearance.{source_in_order}
use Rattle.write_symbols.proofs.Spelled.{source_spelled}
use Rattle.write_symbols.proofs.Back.{symbols_back}
use Rattle.write_paths.specs.Rewriting.{rewritten_slots}
use Rattle.write_paths.proofs.Resolved.{same_resolved, same_start}
use Rattle.write_paths.proofs.Meaning.{same_meaning}
use Rattle.write_paths.proofs.Fewer.{fewer_symbols}
use Rattle.write_paths.proofs.Words.{words_spelled, program_formed}
use Rattle.write_loads.specs.Theorems.{TextLoads, AcceptedTextLoads, TextShort}
use Rattle.write_loads.proofs.Lengths.{with_space, parted_short, read_twice}
use Rattle.write_loads.proofs.Back.{AllBack, words_back, all_read, spelled_back}

-- the numbers 4 to 6 past, of tokens with a tree
meaning_of : (o : Option (List Token)) (F : ℕ) (ts : List Token) (ss : Slots Written) → o ≡ some ts → parse (symbols ts) ≡ some ss →
    source_refusal o F ≡ 0 → meaning_refusal (name_table ts) ss F ≡ 0
unfolding source_refusal tree_refusal
meaning_of none F ts ss e q z = absurd (suc≢zero z)
meaning_of (some us) F ts ss e q z =
    let d = some_inj e in
    rw q at (nesting_accepts (ltb 16 (highest_nesting 0 ts)) _ (subst (λ (l : List Token). source_refusal (some l) F ≡ 0) d z))

source_of : (m : Lengths) (source : List ℕ) (F T : ℕ) → refusal m source F T ≡ 0 → source_refusal (tokens class source) F ≡ 0
unfolding refusal
source_of m source F T z = go (arguments_refusal m source F T) z
  where
    go : (n : ℕ) → ◌≡◌ {A = ℕ} (elim n [ zero ↦ source_refusal (tokens class source) F | suc k ↦ suc k ]) 0 → source_refusal (tokens class source) F ≡ 0
    go zero e = e
    go (suc k) e = absurd (suc≢zero e)

-- of tokens ts with the tree ss and the code k in Main.start
module _ (source : List ℕ) (F : ℕ) (ts : List Token) (ss : Slots Written) (k : ℕ) (read : Tokens⊢ class source ts) (tree : Source (symbols ts) ss)
    (start_is : main_start (name_table ts) ss ≡ some k) where
  abbrev names : List (List ℕ)
  names = name_table ts

  abbrev q : Program
  q = program_of ts (resolve_slots program_place ss) k

  abbrev again : Slots Written
  again = rewritten_slots program_place ss

  abbrev us : List Symbol
  us = frame_symbols again

  abbrev written : List Token
  written = spelled_all names (literals ts) us

  written_is : text_tokens q ≡ written
  unfolding text_tokens program_of
  written_is = words_spelled q ss refl

  ordered_source : Ordered (length names) (length (literals ts)) 0 0 (symbols ts)
  unfolding symbols name_table
  ordered_source = ordered (name_table ts) (length (literals ts)) [] ts 0 0 (tokens_shaped read) refl (omega arith)

  fewer : {A : List Symbol → Type 0} → ((vs ws : List Symbol) → Without [] vs ws → A vs → A ws) → A (symbols ts) → A us
  fewer f a = f (frame_symbols ss) us (fewer_symbols ss) (f (symbols ts) (frame_symbols ss) (source_without (symbols ts) ss tree) a)

  ordered_written : Ordered (length names) (length (literals ts)) 0 0 us
  ordered_written = fewer {A = Ordered (length names) (length (literals ts)) 0 0} (without_keeps.ordered (length names) (length (literals ts))) ordered_source

  back : SpelledBack names (literals ts) us
  unfolding name_table
  back =
      symbols_back names (literals ts) us (table_shaped ts (tokens_shaped read)).distinct ordered_written
      (fewer {A = λ vs. InOrder 0 (names_in vs) (length names)} (λ vs ws w. without_keeps.in_order vs ws (length names) w) (source_in_order ts))

  in_tokens : tokens class (text q) ≡ some (text_tokens q)
  unfolding text text_tokens program_of
  in_tokens =
      (tokens_agree class (text q) (text_tokens q)).1
      (words_read class constant_lawful (program_words q)
      (words_back class (program_formed q)
      (subst (AllBack class) (sym written_is)
      (spelled_back class constant_lawful ts (all_read class constant_lawful read) 0 0 us ordered_written))))

  parsed_again : parse (symbols written) ≡ some again
  parsed_again = rw back.same_symbols ((parse_agrees us again).1 (symbols_derive again))

  same_program : program (text q) ≡ some q
  unfolding program program_of_tokens program_of_tree started program_of
  same_program =
      rw (in_tokens, written_is, parsed_again, back.same_names, same_start names ss, start_is, same_resolved ss, back.same_literals, back.same_names)

  nesting_same : highest_nesting 0 written ≡ highest_nesting 0 ts
  nesting_same =
      without_keeps.nesting names (literals ts) (frame_symbols ss) us (fewer_symbols ss)
      ∙ without_keeps.nesting names (literals ts) (symbols ts) (frame_symbols ss) (source_without (symbols ts) ss tree)
      ∙ ap (highest_nesting 0) (source_spelled ts)

  source_accepted : highest_nesting 0 ts ≤ 16 → meaning_refusal names ss F ≡ 0 → source_refusal (tokens class (text q)) F ≡ 0
  unfolding source_refusal tree_refusal
  source_accepted h z =
      rw (in_tokens, written_is, parsed_again, back.same_names, nesting_same, le-ltb 16 (highest_nesting 0 ts) h) (same_meaning names ss F z)

  -- ---- Lengths

  total_spelled : (vs : List Symbol) → total (λ s. with_space (spelled names (literals ts) s)) vs ≡ total with_space (spelled_all names (literals ts) vs)
  unfolding total
  total_spelled [] = refl
  total_spelled (v ∷ vs) = let i = total_spelled vs in omega arith

  short : length (text q) < 2 * length source
  unfolding text text_tokens program_words
  short =
      let a = parted_short (program_formed q) in
      let b = ap (total with_space) written_is in
      let weigh : Symbol → ℕ = λ s. with_space (spelled names (literals ts) s) in
      let c = without_keeps.weight weigh (frame_symbols ss) us (fewer_symbols ss) in
      let d = without_keeps.weight weigh (symbols ts) (frame_symbols ss) (source_without (symbols ts) ss tree) in
      let e = total_spelled us in
      let f = total_spelled (symbols ts) ∙ ap (total with_space) (source_spelled ts) in
      let g = read_twice class constant_lawful read in
      omega arith

arguments_accepted : (m k : Lengths) (source w : List ℕ) (F T : ℕ) → ArgumentsFit m source F T → right_lengths k ≡ true → length w ≤ 16384 → arguments_refusal k w F T ≡ 0
unfolding arguments_refusal lowest
arguments_accepted m k source w F T a r n =
    rw (r, le-leb 3 F a.F_least, le-leb F 256 a.F_most, le-leb T 256 a.T_most, le-ltb 16384 (length w) n)

accepted_with : (k : Lengths) (w : List ℕ) (F T : ℕ) → arguments_refusal k w F T ≡ 0 → source_refusal (tokens class w) F ≡ 0 → refusal k w F T ≡ 0
unfolding refusal
accepted_with k w F T x y = ap (λ (n : ℕ). elim n [ zero ↦ source_refusal (tokens class w) F | suc j ↦ suc j ]) x ∙ y

pub accepted_text_loads : AcceptedTextLoads
accepted_text_loads m source F T p z e =
    let a = accepted_sources m source F T p z e in
    let s = a.source_fits in
    let read = (tokens_agree class source s.list).0 s.list_is in
    let tree = (parse_agrees (symbols s.list) s.tree).0 s.tree_is in
    let meaning = meaning_of (tokens class source) F s.list s.tree s.list_is s.tree_is (source_of m source F T z) in
    subst (TextLoads F T) s.program_is
    (record {
      in_tokens = in_tokens source F s.list s.tree p.start read tree s.start_is;
      same_program = same_program source F s.list s.tree p.start read tree s.start_is;
      accepted = λ k r n. accepted_with k _ F T (arguments_accepted m k source _ F T a.arguments r n) (source_accepted source F s.list s.tree p.start read tree s.start_is s.nesting meaning);
    })

pub text_short : TextShort
text_short m source F T p z e =
    let a = accepted_sources m source F T p z e in
    let s = a.source_fits in
    let read = (tokens_agree class source s.list).0 s.list_is in
    let tree = (parse_agrees (symbols s.list) s.tree).0 s.tree_is in
    let few : length (text p) < 2 * length source =
    subst (λ (q : Program). length (text q) < 2 * length source) s.program_is (short source F s.list s.tree p.start read tree s.start_is) in
    let most = a.arguments.short in
    (few, omega arith)
