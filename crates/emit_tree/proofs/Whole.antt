-- The whole source: the slots of the program frame. Assumes nothing.
use mathlib.Core.Path.{◌≡◌, refl, sym, ap, ◌∙◌}
use mathlib.Core.Bool.{false}
use mathlib.Core.List.{List, [], ◌∷◌}
use mathlib.Core.Option.{some}
use Prim.Native.Nat.{ℕ, suc, ◌+◌, ◌<◌, ◌≤◌}
use native.Mathlib.Omega.{arith}
use lib.ListN.{length, replicate, length-replicate}
use Rattle.framed.specs.Common.{any}
use Rattle.framed.specs.Bytes.{class}
use Rattle.framed.specs.Tokens.{Token, Fixed, Tokens⊢, tokens, highest_nesting}
use Rattle.framed.specs.Symbols.{Symbol, numbered, name_table, symbols}
use Rattle.framed.specs.Tree.{Written, Slots}
use Rattle.framed.specs.Grammar.{Frame⊢, Slots⊢}
use Rattle.framed.specs.Parse.{parse}
use Rattle.framed.specs.Paths.{resolve_slots, program_place}
use Rattle.framed.specs.Meaning.{pieces, misplaced}
use Rattle.framed.proofs.TokensExact.{tokens_agree, tokens_fewer}
use Rattle.framed.proofs.ParseExact.{parse_sound}
use Rattle.source.specs.Positions.{rest}
use Rattle.token.specs.Reading.{fixed_kind, token_kind}
use Rattle.sweep.specs.Decides.{Short}
use Rattle.sweep.specs.Kinds.{kind_of, front_kind}
use Rattle.grammar.specs.Runs.{KindAt}
use Rattle.names.specs.Kept.{table_of}
use Rattle.shapes.specs.Numbers.{Numbers, zeros, ◌⊕◌, slots_size}
use Rattle.shapes.specs.Shape.{SizeShaped}
use Rattle.emission.specs.Emit.{Emitting, emitting, emit_slots, first_slot_place}
use Rattle.emission.proofs.Counted as Counted
use Rattle.emit_steps.specs.Steps.{numbers, place_of, PassFrame}
use Rattle.emit_steps.specs.declared.Next.{Next}
use Rattle.emit_steps.specs.declared.Place.{Place}
use Rattle.emit_paths.specs.Emits.{Small, Emits}
use Rattle.emit_paths.proofs.Symbols.{fixed_first}
use Rattle.emit_tree.specs.Members.{slots_emitted, slots_deep, SlotsHere}
use Rattle.emit_tree.specs.Tree.{TreeEmitted, FirstSlot}
use Rattle.emit_tree.proofs.Nesting.{highest_same, frame_fits}
use Rattle.emit_tree.proofs.Operations.{no_operation}

-- after `frame` `:` `[` the slots are ahead
record Begun (s : List ℕ) (q : ℕ) (ts : List Token) (ss : Slots Written) : Type 0 where
  us : List Symbol
  left : List Token
  reads : Tokens⊢ class (rest s q) left
  are : us ≡ numbered (name_table ts) 0 0 left
  fewer : length left ≤ length s
  slots : Slots⊢ us ss (Symbol.fixed Fixed.close_square ∷ [])

begun : (s : List ℕ) (q : ℕ) → PassFrame s 0 q → (ts : List Token) (ss : Slots Written) → tokens class s ≡ some ts → parse (symbols ts) ≡ some ss → Begun s q ts ss
unfolding rest symbols token_kind fixed_kind
begun s q x ts ss et ep = go (symbols ts) refl (parse_sound (symbols ts) ep)
  where
    read : Tokens⊢ class s ts
    read = (tokens_agree class s ts).0 et

    less : (us : List Token) → suc (suc (suc (length us))) ≤ length s → length us ≤ length s
    less us l = omega arith

    go : (us : List Symbol) → us ≡ numbered (name_table ts) 0 0 ts → Frame⊢ us ss [] → Begun s q ts ss
    go _ e (Frame⊢.brackets {ts = ws} d) =
        let a = fixed_first (name_table ts) 0 0 ts Fixed.frame _ e in
        let b = fixed_first (name_table ts) 0 0 a.0 Fixed.colon _ a.2 in
        let c = fixed_first (name_table ts) 0 0 b.0 Fixed.open_square ws b.2 in
        let all = a.1 ∙ ap (λ (us : List Token). Token.fixed Fixed.frame ∷ us) (b.1 ∙ ap (λ (us : List Token). Token.fixed Fixed.colon ∷ us) c.1) in
        let z = x.taken (Token.fixed Fixed.frame) (Token.fixed Fixed.colon) (Token.fixed Fixed.open_square) c.0 (rw all at read) refl refl refl in
        record { us = ws; left = c.0; reads = z.reads; are = c.2; fewer = less c.0 (rw all at (tokens_fewer class read)); slots = d }

-- ---- The place of the first slot

module _ (s : List ℕ) (q : ℕ) (x : PassFrame s 0 q) (k : ℕ) (h : KindAt s q k) where
  first_is : (r : ℕ) → ((us vs : List Symbol) (ss : Slots Written) → front_kind us ≡ k → front_kind vs ≡ 13 → Slots⊢ us ss vs → r ≡ first_slot_place (resolve_slots program_place ss) 0) → FirstSlot s r
  unfolding front_kind kind_of fixed_kind
  first_is r f = record { is = λ ts ss et ep. let b = begun s q x ts ss et ep in f b.us _ ss (ap front_kind b.are ∙ h.is (name_table ts) 0 0 b.left b.reads) refl b.slots }

  pub first_one : k ≡ 25 → FirstSlot s 1
  unfolding first_slot_place resolve_slots
  first_one e = first_is 1 go
    where
      other : (j : ℕ) → j ≡ k → j ≡ 13 → ⊥
      other j a b = omega arith

      go : (us vs : List Symbol) (ss : Slots Written) → front_kind us ≡ k → front_kind vs ≡ 13 → Slots⊢ us ss vs → 1 ≡ first_slot_place (resolve_slots program_place ss) 0
      go us vs _ a b Slots⊢.no_slots = absurd (other (front_kind us) a b)
      go us vs _ a b (Slots⊢.last_slot d) = refl
      go us vs _ a b (Slots⊢.more_slots d g) = refl

  pub first_none : (k ≡ 25 → ⊥) → FirstSlot s 0
  unfolding first_slot_place resolve_slots front_kind kind_of
  first_none n = first_is 0 go
    where
      go : (us vs : List Symbol) (ss : Slots Written) → front_kind us ≡ k → front_kind vs ≡ 13 → Slots⊢ us ss vs → 0 ≡ first_slot_place (resolve_slots program_place ss) 0
      go us vs _ a b Slots⊢.no_slots = refl
      go us vs _ a b (Slots⊢.last_slot d) = absurd (n (sym a))
      go us vs _ a b (Slots⊢.more_slots d g) = absurd (n (sym a))

-- ---- The tree

abbrev start_place : Place
start_place = record { in_code = false; depth = 0; names = replicate 16 0 }

abbrev start_at : ℕ → Next
start_at q = record { at = q; expressions = 0; instructions = 0; paths = 0; strings = 0; codes = 0 }

counts_small : (s : Numbers) → SizeShaped s → Small (zeros ⊕ s)
counts_small s h = record {
  expressions_small = less s.expressions 1024 (omega arith) h.expressions_most;
  instructions_small = less s.instructions 512 (omega arith) h.instructions_most;
  path_names_small = less s.path_names 2048 (omega arith) h.path_names_most;
  codes_small = less s.codes 128 (omega arith) h.codes_most;
}
  where
    less : (n m : ℕ) → m < 4294967296 → n ≤ m → 0 + n < 4294967296
    less n m a b = omega arith

module _ (s b e : List ℕ) (count : ℕ) (p : List ℕ) (q : ℕ) (x : PassFrame s 0 q) (p' : List ℕ) (r : Next)
    (f : Emits (SlotsHere start_place) (slots_emitted start_place) s (table_of s b e count) (start_at q) p p' r) where
  pub tree_done : TreeEmitted s b e count p p' r
  unfolding slots_emitted place_of front_kind kind_of fixed_kind symbols
  tree_done = record { says = go }
    where
      few : (n : ℕ) → n ≤ length s → length s ≤ 16384 → 0 + n < 4294967295
      few n a b = omega arith

      shallow : (n : ℕ) → 1 + n ≤ 16 → 0 + n ≤ 16
      shallow n l = omega arith

      go : (ts : List Token) (ss : Slots Written) → tokens class s ≡ some ts → parse (symbols ts) ≡ some ss → Short s → table_of s b e count ≡ name_table ts → highest_nesting 0 ts ≤ 16 →
          any misplaced (pieces ss) ≡ false → SizeShaped (slots_size (resolve_slots program_place ss)) → emitting p' (numbers r) ≡ emit_slots (resolve_slots program_place ss) (emitting p zeros)
      go ts ss et ep short same nest clean size =
          let a = begun s q x ts ss et ep in
          let fits : 1 + slots_deep ss ≤ 16 = frame_fits 16 0 (parse_sound (symbols ts) ep) (rw (highest_same (name_table ts) 0 0 0 ts) nest) in
          let small : Small (emit_slots (resolve_slots program_place ss) (emitting p zeros)).next =
          rw (ap (λ (t : Emitting). t.next) (Counted.slots_emitted (resolve_slots program_place ss) zeros p)) (counts_small (slots_size (resolve_slots program_place ss)) size) in
          (f.says a.us _ ss
          (record { tokens = a.left; reads = a.reads; are = rw same a.are; few = few (length a.left) a.fewer short.short })
          (record { slots = a.slots; ends = refl; fits = record { room = record { ok = record { deep = omega arith; sixteen = length-replicate {A = ℕ} 16 0 }; deep = λ h. shallow (slots_deep ss) fits }; plain = λ h. no_operation ss clean } })
          small).is
