-- The program of an accepted source is shaped. Assumes nothing.
use mathlib.Core.Path.{◌≡◌, refl, subst}
use mathlib.Core.Bool.{false}
use mathlib.Core.List.{List, []}
use mathlib.Core.Option.{Option, none, some}
use Prim.Native.Nat.{ℕ, zero, suc, ◌≤◌}
use native.Mathlib.Omega.{arith}
use lib.ListN.{length}
use lib.Dec.{ltb}
use borrow.Author.Tests.{ltb-false}
use Rattle.framed.specs.Common.{any, count, total}
use Rattle.framed.specs.Bytes.{class}
use Rattle.framed.specs.Tokens.{Token, tokens, highest_nesting}
use Rattle.framed.specs.Symbols.{name_table, literals, symbols}
use Rattle.framed.specs.Tree.{Written, Slots}
use Rattle.framed.specs.Grammar.{Source}
use Rattle.framed.specs.Parse.{parse}
use Rattle.framed.specs.Paths.{holder, resolve_slots, program_place}
use Rattle.framed.specs.Meaning.{Kind, refusal, arguments_refusal, source_refusal, tree_refusal, meaning_refusal, main_start, pieces, bad_frame, above_limit, is_one, path_names}
use Rattle.framed.specs.Program.{Program, program, program_of, started, program_of_tree, program_of_tokens}
use Rattle.framed.proofs.General.{none≢some, some_inj, or_none}
use Rattle.framed.proofs.Accepted.{suc≢zero, lowest_first, lowest_rest, nesting_accepts}
use Rattle.framed.proofs.TokensExact.{tokens_agree}
use Rattle.framed.proofs.ParseExact.{parse_agrees}
use Rattle.shapes.specs.Numbers.{slots_size}
use Rattle.shapes.specs.Shape.{AllBelow, Shaped, SizeShaped, FrameShaped, SlotsShaped}
use Rattle.shapes.specs.Accepted.{AcceptedShaped}
use Rattle.shapes.proofs.Tokens.{AllShaped, tokens_shaped}
use Rattle.shapes.proofs.Names.{Ordered, ordered, table_shaped, literals_shaped}
use Rattle.shapes.proofs.Tree.{Step, strings, frame_step}
use Rattle.shapes.proofs.Counted.{sizes_counted}
use Rattle.shapes.proofs.Start.{start_below}

-- ---- Counts within the limits

record Limits (ts : List Token) (ss : Slots Written) : Type 0 where
  names_most : length (name_table ts) ≤ 128
  strings_most : strings (pieces ss) ≤ 128
  size : SizeShaped (slots_size (resolve_slots program_place ss))

limits : (ts : List Token) (ss : Slots Written) → above_limit (name_table ts) (pieces ss) ≡ false → Limits ts ss
unfolding above_limit
limits ts ss e =
    let ps = pieces ss in
    let e5 = or_none _ (ltb 2048 (total path_names ps)) e in
    let e4 = or_none _ (ltb 1024 (count (is_one Kind.expression) ps)) e5.0 in
    let e3 = or_none _ (ltb 128 (count (is_one Kind.code) ps)) e4.0 in
    let e2 = or_none _ (ltb 128 (count (is_one Kind.string) ps)) e3.0 in
    let e1 = or_none (ltb 128 (length (name_table ts))) (ltb 512 (count (is_one Kind.instruction) ps)) e2.0 in
    let c = sizes_counted ss in
    record {
      names_most = ltb-false _ _ e1.0;
      strings_most = ltb-false _ _ e2.1;
      size =
          record {
            expressions_most = omega (arith, c.expressions_are, ltb-false 1024 (count (is_one Kind.expression) ps) e4.1);
            instructions_most = omega (arith, c.instructions_are, ltb-false 512 (count (is_one Kind.instruction) ps) e1.1);
            path_names_most = omega (arith, c.path_names_are, ltb-false 2048 (total path_names ps) e5.1);
            codes_most = omega (arith, c.codes_are, ltb-false 128 (count (is_one Kind.code) ps) e3.1);
          };
    }

-- ---- The tree

no_holder : (N : ℕ) → AllBelow N (holder program_place)
unfolding holder
no_holder N = AllBelow.none

last_string : (N L s c : ℕ) → Ordered N L s c [] → s ≡ L
last_string N L s c (Ordered.done e) = e

module _ (ts : List Token) (ss : Slots Written) (k : ℕ) (a : AllShaped ts) (d : Source (symbols ts) ss) (bad : any bad_frame (pieces ss) ≡ false)
    (lim : Limits ts ss) (st : main_start (name_table ts) ss ≡ some k) where
  abbrev N : ℕ
  N = length (name_table ts)

  abbrev L : ℕ
  L = length (literals ts)

  step : Step N L 0 0 (FrameShaped (resolve_slots program_place ss) × SlotsShaped N L 0 (resolve_slots program_place ss)) (pieces ss) (slots_size (resolve_slots program_place ss)).codes []
  unfolding symbols name_table pieces
  step = frame_step N L d program_place (no_holder N) 0 0 bad (ordered (name_table ts) L [] ts 0 0 a refl (omega arith))

  program_shaped : Shaped (program_of ts (resolve_slots program_place ss) k)
  unfolding program_of name_table
  program_shaped =
      let t = table_shaped ts a in
      let m = last_string N L _ _ step.rest_ordered in
      record {
        names_most = lim.names_most;
        name = t.name;
        distinct = t.distinct;
        literals_most = omega (arith, lim.strings_most);
        literal = literals_shaped ts a;
        slots = step.shaped.1;
        frame = step.shaped.0;
        size = lim.size;
        codes = refl;
        instructions = refl;
        firsts = refl;
        nexts = refl;
        start_there = start_below N L (slots_size (resolve_slots program_place ss)).codes (name_table ts) ss program_place k step.shaped.1 (omega arith) st;
      }

-- ---- Through the definitions

meaning_shaped : (ts : List Token) (ss : Slots Written) (F : ℕ) (q : Program) → AllShaped ts → Source (symbols ts) ss → meaning_refusal (name_table ts) ss F ≡ 0 →
    started ts (resolve_slots program_place ss) (main_start (name_table ts) ss) ≡ some q → Shaped q
unfolding meaning_refusal started
meaning_shaped ts ss F q a d e s = go (main_start (name_table ts) ss) refl s
  where
    e8 : any bad_frame (pieces ss) ≡ false
    e8 = lowest_first 7 _ _ (lowest_rest 6 _ _ e)

    e9 : above_limit (name_table ts) (pieces ss) ≡ false
    e9 = lowest_first 8 _ _ (lowest_rest 7 _ _ (lowest_rest 6 _ _ e))

    go : (o : Option ℕ) → main_start (name_table ts) ss ≡ o → started ts (resolve_slots program_place ss) o ≡ some q → Shaped q
    go none p s = absurd (none≢some s)
    go (some k) p s = subst Shaped (some_inj s) (program_shaped ts ss k a d e8 (limits ts ss e9) p)

tree_shaped : (ts : List Token) (o : Option (Slots Written)) (F : ℕ) (q : Program) → AllShaped ts → ((ss : Slots Written) → o ≡ some ss → Source (symbols ts) ss) →
    tree_refusal (name_table ts) o F ≡ 0 → program_of_tree ts o ≡ some q → Shaped q
unfolding tree_refusal program_of_tree
tree_shaped ts none F q a d e s = absurd (suc≢zero e)
tree_shaped ts (some ss) F q a d e s = meaning_shaped ts ss F q a (d ss refl) e s

source_shaped : (o : Option (List Token)) (F : ℕ) (q : Program) → ((ts : List Token) → o ≡ some ts → AllShaped ts) → source_refusal o F ≡ 0 →
    program_of_tokens o ≡ some q → Shaped q
unfolding source_refusal program_of_tokens
source_shaped none F q a e s = absurd (suc≢zero e)
source_shaped (some ts) F q a e s =
    tree_shaped ts (parse (symbols ts)) F q (a ts refl) (λ ss p. (parse_agrees (symbols ts) ss).0 p)
    (nesting_accepts (ltb 16 (highest_nesting 0 ts)) _ e) s

pub accepted_shaped : AcceptedShaped
unfolding refusal program
accepted_shaped m source F T q e s = go (arguments_refusal m source F T) e
  where
    go : (n : ℕ) → ◌≡◌ {A = ℕ} (elim n [ zero ↦ source_refusal (tokens class source) F | suc k ↦ suc k ]) 0 → Shaped q
    go zero e = source_shaped (tokens class source) F q (λ ts p. tokens_shaped ((tokens_agree class source ts).0 p)) e s
    go (suc k) e = absurd (suc≢zero e)
