-- Laws of slots and instructions: one of them, and the loops over all. Assumes nothing.
use mathlib.Core.Path.{◌≡◌, refl, sym, ap, ◌∙◌}
use mathlib.Core.List.{List, [], ◌∷◌}
use Prim.Native.Nat.{ℕ, suc, ◌+◌, ◌*◌, ◌-◌, ◌<◌, ◌≤◌}
use native.Mathlib.Omega.{arith}
use lib.ListN.{length}
use Rattle.framed.specs.Bytes.{class}
use Rattle.framed.specs.Tokens.{Token, Fixed, Tokens⊢, next, end}
use Rattle.framed.specs.Symbols.{Symbol}
use Rattle.framed.specs.Tree.{Written, Base, Expression, Slots, Instruction, Code, ◌then◌}
use Rattle.framed.specs.Grammar.{Path⊢, Base⊢, Expression⊢, Slots⊢, Instruction⊢, Code⊢}
use Rattle.framed.specs.Paths.{Path, within_slot, resolve_expression, resolve_slots, resolve_instruction, resolve_code}
use Rattle.source.specs.Positions.{rest}
use Rattle.token.specs.Reading.{fixed_kind, token_kind}
use Rattle.sweep.specs.Kinds.{kind_of, front_kind}
use Rattle.grammar.specs.Runs.{KindAt, Sees}
use Rattle.grammar.specs.declared.Seen.{Seen}
use Rattle.names.specs.Kept.{table_of}
use Rattle.tables.specs.declared.InstructionEntry.{InstructionEntry}
use Rattle.table_updates.specs.Updates.{set_slot_name, set_slot_link, set_instruction, set_instruction_link}
use Rattle.shapes.specs.Numbers.{one_expression, one_instruction}
use Rattle.emission.specs.Emit.{Emitting, emitting, emit_expression, emit_slots, emit_instruction, emit_code, link_to_slots, link_to_code}
use Rattle.emit_steps.specs.Steps.{numbers, go_to, take_instruction, place_of, inner_slot, first_kind, Pass, PassTwo}
use Rattle.emit_steps.specs.declared.Next.{Next}
use Rattle.emit_steps.specs.declared.Place.{Place}
use Rattle.emit_paths.specs.Emits.{Ahead, Small, Emitted, Emits}
use Rattle.emit_paths.proofs.Symbols.{past_end, fixed_first, name_first, pass_fixed, seen_name, seen_kind, seen_two, number_ahead, kind_ahead}
use Rattle.emit_leaves.specs.declared.Stand.{Stand}
use Rattle.emit_leaves.specs.Parts.{TargetHere, target_emitted, Stands, SlotNamed, SlotClosed, LineClosed}
use Rattle.emit_leaves.proofs.Numbers.{expression_before, slots_before, instruction_before, code_before, instruction_next, one_expression_small}
use Rattle.emit_leaves.proofs.Ahead.{kind_here, ahead_same, instruction_kind}
use Rattle.emit_tree.specs.Members.{operand_emitted, right_emitted, slots_emitted, instruction_emitted, code_emitted, slot_emitted, line_emitted, ExpressionFits, SlotsFit, Inside}
use Rattle.emit_tree.specs.Members.{BaseHere, Ends, FrameFits, ExpressionHere, SlotsHere, SlotDone, SlotEmits, InstructionHere, ShowHere, JumpHere, IfeqHere, AssignHere, CodeHere, LineDone, LineEmits}
use Rattle.emit_tree.proofs.Places.{not_outside, inside_fits, inner_same, inner_fits, slot_fits, not_base}
use Rattle.emit_tree.proofs.Bases.{operand_before, carry, after_seen, same_start, seen_on}

-- ---- What stands at a position

-- past the end nothing is ahead
past_kind : (s : List ℕ) (table : List (List ℕ)) (n : Next) (us : List Symbol) → length s ≤ n.at → Ahead s table n us → front_kind us ≡ 29
unfolding first_kind
past_kind s table n us l h = kind_ahead s table n us h ∙ go h.tokens h.reads
  where
    go : (ts : List Token) → Tokens⊢ class (rest s n.at) ts → first_kind ts ≡ 29
    go [] d = refl
    go (t ∷ ts) d = absurd (past_end s n.at l t ts d)

-- after an expression
ends_at : (vs : List Symbol) (k : ℕ) → front_kind vs ≡ k → (k ≡ 7 → ⊥) → k < 16 → Ends vs
ends_at vs k e n l = record { no_dot = λ f. n (sym e ∙ f); no_operator = λ a b. absurd (over (front_kind vs) e a) }
  where
    over : (j : ℕ) → j ≡ k → 16 ≤ j → ⊥
    over j e a = omega arith

-- ---- Loops

-- what is emitted from here on is what is emitted from the start on; the token here was seen
pub record Going {A : Type 0} (G : List Symbol → A → List Symbol → Type 0) (E : A → Emitting → Emitting) (s : List ℕ) (table : List (List ℕ)) (n₀ : Next) (p₀ : List ℕ) (n : Next) (p : List ℕ) (t : Seen) : Type 0 where
  pub seen : Sees s n.at t
  pub on : n₀.at ≤ n.at
  pub size : length p ≡ length p₀
  pub back : (p' : List ℕ) (r : Next) → Emits G E s table n p p' r → Emits G E s table n₀ p₀ p' r

-- ---- One slot

module _ (s b e : List ℕ) (count : ℕ) (place : Place) (n : Next) (q : ℕ) (p : List ℕ) (k : ℕ) (p₁ : List ℕ) (z : SlotNamed s b e count n p p₁ k)
    (inner : Place) (ei : inner ≡ inner_slot place k) (m : Next) (em : m ≡ go_to n q) (p₂ : List ℕ) (u : Next)
    (f : Emits (ExpressionHere place inner) (right_emitted place inner) s (table_of s b e count) m p₁ p₂ u) (p' : List ℕ) (stop : Stand) (c : Stands s (SlotClosed s n.expressions u p₂ p') stop) where
  -- the expression of the slot, up to what follows it
  value : ℕ → Expression Written → Emitting
  value j x = emit_expression (resolve_expression (place_of place) (within_slot j (place_of place)) x) n.expressions (emitting (set_slot_name p n.expressions j) (one_expression (numbers n)))

  valued : PassTwo s n.at 25 6 q → (ts vs : List Symbol) (j : ℕ) (x : Expression Written) → Ahead s (table_of s b e count) n (Symbol.name j ∷ Symbol.fixed Fixed.assign ∷ ts) →
      Expression⊢ ts x vs → Ends vs → ExpressionFits place x → Small (value j x).next → Emitted s (table_of s b e count) (value j x) p₂ u vs
  unfolding right_emitted token_kind fixed_kind value
  valued y ts vs j x h d en fits l =
      let table = table_of s b e count in
      let a = name_first table n.strings n.codes h.tokens j _ h.are in
      let g = fixed_first table n.strings n.codes a.1 Fixed.assign ts a.4 in
      let w = y.taken (Token.name a.0) (Token.fixed Fixed.assign) g.0 (rw (a.2, g.1) at h.reads) refl refl in
      let ek : k ≡ j = number_ahead s b e count n j k _ z.number h in
      let start : emitting (set_slot_name p n.expressions j) (numbers n) ≡ emitting p₁ (numbers m) =
      ap (λ (i : ℕ). emitting (set_slot_name p n.expressions i) (numbers n)) (sym ek) ∙ ap (λ (w : List ℕ). emitting w (numbers n)) (sym z.words) ∙ ap (λ (t : Next). emitting p₁ (numbers t)) (sym em) in
      let same : resolve_expression (place_of place) (place_of inner) x ≡ resolve_expression (place_of place) (within_slot j (place_of place)) x = rw (ei, ek) (inner_same place j x fits.room) in
      let inside : FrameFits inner x = rw (ei, ek) (inner_fits place j x fits) in
      let b : Ahead s table m ts = rw em (record { tokens = g.0; reads = w.reads; are = g.2; few = fewer g.0 (rw (a.2, g.1) at h.few) }) in
      rw (← same)
      (carry s table (right_emitted place inner x) (emitting (set_slot_name p n.expressions j) (numbers n)) (emitting p₁ (numbers m)) start p₂ u vs
      (f.says ts vs x b (record { expression = d; ends = en; ok = fits.room.ok; plain = fits.plain; within = inside })) (rw same l))
    where
      fewer : (ts : List Token) → n.strings + suc (suc (length ts)) < 4294967295 → n.strings + length ts < 4294967295
      fewer ts l = omega arith

  -- the slot is linked to ss
  linked_to : Slots Path → Emitting → Emitting
  linked_to ss t = emitting (set_slot_link t.words n.expressions (link_to_slots ss n.expressions t.next.expressions)) t.next

  slot_says : PassTwo s n.at 25 6 q → (us vs : List Symbol) (j : ℕ) (x : Expression Written) (ss : Slots Written) → Ahead s (table_of s b e count) n us → SlotsHere place us (Slots.slot j x ss) vs →
      Small (slot_emitted place j x ss (emitting p (numbers n))).next → SlotDone place s (table_of s b e count) j x ss n p vs p' stop.next
  unfolding slot_emitted value front_kind kind_of fixed_kind resolve_slots linked_to
  slot_says y us vs j x ss h g l = go us j x ss h g.slots (slot_fits place j x ss g.fits) l
    where
      go : (us : List Symbol) (j : ℕ) (x : Expression Written) (ss : Slots Written) → Ahead s (table_of s b e count) n us → Slots⊢ us (Slots.slot j x ss) vs →
          ExpressionFits place x × SlotsFit place ss → Small (slot_emitted place j x ss (emitting p (numbers n))).next → SlotDone place s (table_of s b e count) j x ss n p vs p' stop.next
      go _ j x _ h (Slots⊢.last_slot {ts = ts} d) fits l =
          let v = valued y ts vs j x h d (ends_at vs 13 g.ends (λ a. absurd (omega arith)) (omega arith)) fits.0 l in
          let w = c.done.last (table_of s b e count) vs v.ahead g.ends in
          record { emitted = w.linked ∙ ap (linked_to Slots.no_slots) v.is; rest = vs; ahead = w.ahead; more = Slots⊢.no_slots }
      go _ j x ss h (Slots⊢.more_slots {ts = ts} {us = us} d i) fits l =
          let v = valued y ts _ j x h d (ends_at _ 11 refl (λ a. absurd (omega arith)) (omega arith)) fits.0 l in
          let w = c.done.more (table_of s b e count) us vs ss (place_of place) v.ahead i g.ends in
          record { emitted = w.linked ∙ ap (linked_to (resolve_slots (place_of place) ss)) v.is; rest = us; ahead = w.ahead; more = i }

  pub slot_done : Stands s (SlotEmits place s (table_of s b e count) n q p p') stop
  slot_done = record { done = record { says = slot_says; on = omega (arith, f.on, c.done.on, ap (λ (a : Next). a.at) em) }; seen = c.seen }

pub slot_falls : (s : List ℕ) (n : Next) (q : ℕ) (m : Next) → m ≡ go_to n q → (t : ℕ) → 16 * (length s - q) + 6 ≡ t → 16 * (length s - m.at) + 5 < t
slot_falls s n q m em t h = omega (arith, ap (λ (a : Next). a.at) em)

-- ---- All slots

module _ (s : List ℕ) (table : List (List ℕ)) (place : Place) (n₀ : Next) (p₀ : List ℕ) where
  pub slots_start : (t : Seen) → Sees s n₀.at t → Going (SlotsHere place) (slots_emitted place) s table n₀ p₀ n₀ p₀ t
  slots_start t x = record { seen = x; on = omega arith; size = refl; back = λ p' r x. x }

  -- no slots where no name with `:=` is ahead
  no_slots_here : (n : Next) (p : List ℕ) → ((j : ℕ) (ts : List Symbol) → Ahead s table n (Symbol.name j ∷ Symbol.fixed Fixed.assign ∷ ts) → ⊥) →
      Emits (SlotsHere place) (slots_emitted place) s table n p p n
  unfolding slots_emitted resolve_slots emit_slots
  no_slots_here n p f = record { says = λ us vs ss h g l. go us vs ss h g.slots; on = omega arith }
    where
      go : (us vs : List Symbol) (ss : Slots Written) → Ahead s table n us → Slots⊢ us ss vs → Emitted s table (slots_emitted place ss (emitting p (numbers n))) p n vs
      go us vs _ h Slots⊢.no_slots = record { is = refl; ahead = h }
      go _ vs _ h (Slots⊢.last_slot {ts = ts} d) = absurd (f _ ts h)
      go _ vs _ h (Slots⊢.more_slots {ts = ts} d g) = absurd (f _ ts h)

  module _ (n : Next) (p : List ℕ) (t : Seen) (i : Going (SlotsHere place) (slots_emitted place) s table n₀ p₀ n p t) where
    pub slots_end : length s ≤ n.at → Emits (SlotsHere place) (slots_emitted place) s table n₀ p₀ p n
    unfolding front_kind kind_of
    slots_end l = i.back p n (no_slots_here n p (λ j ts h. none (past_kind s table n _ l h)))
      where
        none : ◌≡◌ {A = ℕ} 25 29 → ⊥
        none e = omega arith

    pub slots_other : (t.kind ≡ 25 → ⊥) → Emits (SlotsHere place) (slots_emitted place) s table n₀ p₀ p n
    unfolding front_kind kind_of
    slots_other other = i.back p n (no_slots_here n p (λ j ts h. other (sym (seen_kind s table n t i.seen _ h))))

    module _ (name : t.kind ≡ 25) (q : ℕ) (y : Pass s t.end 6 q) where
      pub slots_none : q ≤ t.end → Emits (SlotsHere place) (slots_emitted place) s table n₀ p₀ p n
      unfolding fixed_kind
      slots_none l = i.back p n (no_slots_here n p (λ j ts h. back (pass_fixed s table (go_to n t.end) q Fixed.assign ts y (seen_name s table n t i.seen j _ h).ahead).further))
        where
          back : t.end < q → ⊥
          back a = omega arith

      module _ (l : t.end < q) (p₁ : List ℕ) (m : Next) (f : SlotEmits place s table n q p p₁ m) where
        on_slots : (p' : List ℕ) (r : Next) → Emits (SlotsHere place) (slots_emitted place) s table m p₁ p' r → Emits (SlotsHere place) (slots_emitted place) s table n p p' r
        unfolding slots_emitted resolve_slots emit_slots slot_emitted
        on_slots p' r g = record { says = λ us vs ss h w a. go us vs ss h w a; on = omega (arith, i.seen.on, f.on, g.on) }
          where
            thirteen : ◌≡◌ {A = ℕ} 13 25 → ⊥
            thirteen e = omega arith

            ended : (us vs : List Symbol) → Slots⊢ us Slots.no_slots vs → us ≡ vs
            ended us vs Slots⊢.no_slots = refl

            go : (us vs : List Symbol) (ss : Slots Written) → Ahead s table n us → SlotsHere place us ss vs → Small (slots_emitted place ss (emitting p (numbers n))).next →
                Emitted s table (slots_emitted place ss (emitting p (numbers n))) p' r vs
            go us vs Slots.no_slots h w a =
                absurd (thirteen (sym w.ends ∙ ap front_kind (sym (ended us vs w.slots)) ∙ seen_kind s table n t i.seen us h ∙ name))
            go us vs (Slots.slot j e ss) h w a =
                let d = f.says (seen_two s n.at t i.seen 25 name 6 q y l) us vs j e ss h w (slots_before (resolve_slots (place_of place) ss) (slot_emitted place j e ss (emitting p (numbers n))) a) in
                carry s table (slots_emitted place ss) (slot_emitted place j e ss (emitting p (numbers n))) (emitting p₁ (numbers m)) (sym d.emitted) p' r vs
                (g.says d.rest vs ss d.ahead (record { slots = d.more; ends = w.ends; fits = (slot_fits place j e ss w.fits).1 })) a

        pub slots_again : length p₁ ≡ length p → (t' : Seen) → Sees s m.at t' → Going (SlotsHere place) (slots_emitted place) s table n₀ p₀ m p₁ t'
        slots_again e t' x = record { seen = x; on = omega (arith, i.on, i.seen.on, f.on); size = e ∙ i.size; back = λ p' r g. i.back p' r (on_slots p' r g) }

-- ---- Instructions

-- `show` base
module _ (s : List ℕ) (table : List (List ℕ)) (place : Place) (i : ℕ) (n : Next) (p : List ℕ) (q : Seen) (z : Sees s n.at q) (m : Next) (em : m ≡ go_to n q.end) (p₁ : List ℕ)
    (e₁ : p₁ ≡ set_instruction p i (InstructionEntry.Show m.expressions)) (p' : List ℕ) (r : Next) (f : Emits (BaseHere place) (operand_emitted place) s table m p₁ p' r) where
  show_entry : Emitting → Emitting
  show_entry t = emitting (set_instruction t.words i (InstructionEntry.Show t.next.expressions)) t.next

  show_says : (us vs : List Symbol) (o : Instruction Written) → Ahead s table n us → ShowHere place us o vs → Small (instruction_emitted place i o (emitting p (numbers n))).next →
      Emitted s table (instruction_emitted place i o (emitting p (numbers n))) p' r vs
  unfolding instruction_emitted operand_emitted resolve_instruction emit_instruction fixed_kind show_entry
  show_says _ vs _ h (ShowHere.show {a = b} {ts = ts} g) l =
      carry s table (operand_emitted place b) (show_entry (emitting p (numbers n))) (emitting p₁ (numbers m))
      (ap show_entry (same_start s table n q z m em p) ∙ ap (λ (w : List ℕ). emitting w (numbers m)) (sym e₁)) p' r vs
      (f.says ts vs b (after_seen s table n q z m em Fixed.show ts h) g) l

  pub show_done : Emits (ShowHere place) (instruction_emitted place i) s table n p p' r
  show_done = record { says = show_says; on = omega (arith, seen_on s table n q z m em, f.on) }

-- `jump` base base
module _ (s : List ℕ) (table : List (List ℕ)) (place : Place) (i : ℕ) (n : Next) (p : List ℕ) (q : Seen) (z : Sees s n.at q) (m : Next) (em : m ≡ go_to n q.end) (p₁ : List ℕ) (u : Next)
    (f : Emits (BaseHere place) (operand_emitted place) s table m p p₁ u) (p₂ : List ℕ) (e₂ : p₂ ≡ set_instruction p₁ i (InstructionEntry.Jump m.expressions u.expressions))
    (p' : List ℕ) (r : Next) (g : Emits (BaseHere place) (operand_emitted place) s table u p₂ p' r) where
  jump_entry : ℕ → Emitting → Emitting
  jump_entry a t = emitting (set_instruction t.words i (InstructionEntry.Jump a t.next.expressions)) t.next

  -- both bases
  jump_both : Base Written → Base Written → Emitting → Emitting
  jump_both a b t = operand_emitted place b (jump_entry t.next.expressions (operand_emitted place a t))

  both_says : (ts ws vs : List Symbol) (a b : Base Written) → Ahead s table m ts → BaseHere place ts a ws → BaseHere place ws b vs → Small (jump_both a b (emitting p (numbers m))).next →
      Emitted s table (jump_both a b (emitting p (numbers m))) p' r vs
  unfolding jump_both jump_entry
  both_says ts ws vs a b h ha hb l =
      let t = operand_emitted place a (emitting p (numbers m)) in
      let first = f.says ts ws a h ha (operand_before place b (jump_entry m.expressions t) l) in
      carry s table (operand_emitted place b) (jump_entry m.expressions t) (emitting p₂ (numbers u))
      (ap (jump_entry m.expressions) (sym first.is) ∙ ap (λ (w : List ℕ). emitting w (numbers u)) (sym e₂)) p' r vs
      (g.says ws vs b first.ahead hb) l

  jump_says : (us vs : List Symbol) (o : Instruction Written) → Ahead s table n us → JumpHere place us o vs → Small (instruction_emitted place i o (emitting p (numbers n))).next →
      Emitted s table (instruction_emitted place i o (emitting p (numbers n))) p' r vs
  unfolding instruction_emitted operand_emitted resolve_instruction emit_instruction fixed_kind jump_both jump_entry
  jump_says _ vs _ h (JumpHere.jump {a = a} {b = b} {ts = ts} {us = ws} ha hb) l =
      carry s table (jump_both a b) (emitting p (numbers n)) (emitting p (numbers m)) (same_start s table n q z m em p) p' r vs
      (both_says ts ws vs a b (after_seen s table n q z m em Fixed.jump ts h) ha hb) l

  pub jump_done : Emits (JumpHere place) (instruction_emitted place i) s table n p p' r
  jump_done = record { says = jump_says; on = omega (arith, seen_on s table n q z m em, f.on, g.on) }

-- `ifeq` base base base
module _ (s : List ℕ) (table : List (List ℕ)) (place : Place) (i : ℕ) (n : Next) (p : List ℕ) (q : Seen) (z : Sees s n.at q) (m : Next) (em : m ≡ go_to n q.end) (p₁ : List ℕ) (u : Next)
    (f : Emits (BaseHere place) (operand_emitted place) s table m p p₁ u) (p₂ : List ℕ) (v : Next) (g : Emits (BaseHere place) (operand_emitted place) s table u p₁ p₂ v) (p₃ : List ℕ)
    (e₃ : p₃ ≡ set_instruction p₂ i (InstructionEntry.Ifeq m.expressions u.expressions v.expressions)) (p' : List ℕ) (r : Next)
    (o : Emits (BaseHere place) (operand_emitted place) s table v p₃ p' r) where
  ifeq_entry : ℕ → ℕ → Emitting → Emitting
  ifeq_entry a b t = emitting (set_instruction t.words i (InstructionEntry.Ifeq a b t.next.expressions)) t.next

  -- what is left after the first base, a, and all three
  ifeq_rest : ℕ → Base Written → Base Written → Emitting → Emitting
  ifeq_rest a b c t = operand_emitted place c (ifeq_entry a t.next.expressions (operand_emitted place b t))

  ifeq_all : Base Written → Base Written → Base Written → Emitting → Emitting
  ifeq_all a b c t = ifeq_rest t.next.expressions b c (operand_emitted place a t)

  rest_before : (a : ℕ) (b c : Base Written) (t : Emitting) → Small (ifeq_rest a b c t).next → Small t.next
  unfolding ifeq_rest ifeq_entry
  rest_before a b c t l = operand_before place b t (operand_before place c (ifeq_entry a t.next.expressions (operand_emitted place b t)) l)

  rest_says : (ws xs vs : List Symbol) (b c : Base Written) → Ahead s table u ws → BaseHere place ws b xs → BaseHere place xs c vs →
      Small (ifeq_rest m.expressions b c (emitting p₁ (numbers u))).next → Emitted s table (ifeq_rest m.expressions b c (emitting p₁ (numbers u))) p' r vs
  unfolding ifeq_rest ifeq_entry
  rest_says ws xs vs b c h hb hc l =
      let t = operand_emitted place b (emitting p₁ (numbers u)) in
      let entry = ifeq_entry m.expressions u.expressions in
      let second = g.says ws xs b h hb (operand_before place c (entry t) l) in
      carry s table (operand_emitted place c) (entry t) (emitting p₃ (numbers v)) (ap entry (sym second.is) ∙ ap (λ (w : List ℕ). emitting w (numbers v)) (sym e₃)) p' r vs
      (o.says xs vs c second.ahead hc) l

  all_says : (ts ws xs vs : List Symbol) (a b c : Base Written) → Ahead s table m ts → BaseHere place ts a ws → BaseHere place ws b xs → BaseHere place xs c vs →
      Small (ifeq_all a b c (emitting p (numbers m))).next → Emitted s table (ifeq_all a b c (emitting p (numbers m))) p' r vs
  unfolding ifeq_all
  all_says ts ws xs vs a b c h ha hb hc l =
      let t = operand_emitted place a (emitting p (numbers m)) in
      let first = f.says ts ws a h ha (rest_before m.expressions b c t l) in
      carry s table (ifeq_rest m.expressions b c) t (emitting p₁ (numbers u)) (sym first.is) p' r vs (rest_says ws xs vs b c first.ahead hb hc) l

  ifeq_says : (us vs : List Symbol) (j : Instruction Written) → Ahead s table n us → IfeqHere place us j vs → Small (instruction_emitted place i j (emitting p (numbers n))).next →
      Emitted s table (instruction_emitted place i j (emitting p (numbers n))) p' r vs
  unfolding instruction_emitted operand_emitted resolve_instruction emit_instruction fixed_kind ifeq_all ifeq_rest ifeq_entry
  ifeq_says _ vs _ h (IfeqHere.ifeq {a = a} {b = b} {c = c} {ts = ts} {us = ws} {ws = xs} ha hb hc) l =
      carry s table (ifeq_all a b c) (emitting p (numbers n)) (emitting p (numbers m)) (same_start s table n q z m em p) p' r vs
      (all_says ts ws xs vs a b c (after_seen s table n q z m em Fixed.ifeq ts h) ha hb hc) l

  pub ifeq_done : Emits (IfeqHere place) (instruction_emitted place i) s table n p p' r
  ifeq_done = record { says = ifeq_says; on = omega (arith, seen_on s table n q z m em, f.on, g.on, o.on) }

-- path `:=` expression
module _ (s : List ℕ) (table : List (List ℕ)) (place : Place) (i : ℕ) (n : Next) (p p₁ : List ℕ) (u : Next) (f : Emits (TargetHere place) (target_emitted place i) s table n p p₁ u)
    (p' : List ℕ) (r : Next) (g : Emits (ExpressionHere place place) (right_emitted place place) s table u p₁ p' r) where
  right_before : (e : Expression Written) (t : Emitting) → Small (right_emitted place place e t).next → Small t.next
  unfolding right_emitted
  right_before e t l =
      one_expression_small t.next (expression_before (resolve_expression (place_of place) (place_of place) e) t.next.expressions (emitting t.words (one_expression t.next)) l)

  assign_says : (us vs : List Symbol) (o : Instruction Written) → Ahead s table n us → AssignHere place us o vs → Small (instruction_emitted place i o (emitting p (numbers n))).next →
      Emitted s table (instruction_emitted place i o (emitting p (numbers n))) p' r vs
  unfolding instruction_emitted resolve_instruction emit_instruction target_emitted right_emitted
  assign_says us vs _ h (AssignHere.assign {w = w} {e = e} {us = ws} d x) l =
      let t = target_emitted place i w (emitting p (numbers n)) in
      let first = f.says us ws w h (record { path = d; ok = x.ok }) (right_before e t l) in
      carry s table (right_emitted place place e) t (emitting p₁ (numbers u)) (sym first.is) p' r vs (g.says ws vs e first.ahead x) l

  pub assign_done : Emits (AssignHere place) (instruction_emitted place i) s table n p p' r
  assign_done = record { says = assign_says; on = omega (arith, f.on, g.on) }

-- an instruction, by its first kind
module _ (s : List ℕ) (table : List (List ℕ)) (place : Place) (i : ℕ) (n : Next) (p : List ℕ) (k : ℕ) (h : KindAt s n.at k) (p' : List ℕ) (r : Next) where
  abbrev Told : List Symbol → List Symbol → Instruction Written → Type 0
  Told us vs o = Ahead s table n us → front_kind vs ≡ 10 → Inside place → front_kind us ≡ k → Small (instruction_emitted place i o (emitting p (numbers n))).next →
      Emitted s table (instruction_emitted place i o (emitting p (numbers n))) p' r vs

  by_first : ((us vs : List Symbol) (o : Instruction Written) → Instruction⊢ us o vs → Told us vs o) → n.at ≤ r.at → Emits (InstructionHere place) (instruction_emitted place i) s table n p p' r
  by_first f l = record { says = λ us vs o a g c. f us vs o g.instruction a g.ends g.inside (kind_here s table n us k h a) c; on = l }

  -- bases inside, and the last one, which `;` follows
  base_at : (us vs xs : List Symbol) (b c : Base Written) → Base⊢ us b vs → Base⊢ vs c xs → Inside place → BaseHere place us b vs
  base_at us vs xs b c d g w = record { base = d; no_dot = not_base 7 refl vs xs c g; ok = w.ok }

  last_at : (us vs : List Symbol) (b : Base Written) → Base⊢ us b vs → front_kind vs ≡ 10 → Inside place → BaseHere place us b vs
  last_at us vs b d e w = record { base = d; no_dot = λ f. ten (sym e ∙ f); ok = w.ok }
    where
      ten : ◌≡◌ {A = ℕ} 10 7 → ⊥
      ten f = omega arith

  pub instruction_show : k ≡ 2 → Emits (ShowHere place) (instruction_emitted place i) s table n p p' r → Emits (InstructionHere place) (instruction_emitted place i) s table n p p' r
  unfolding front_kind kind_of fixed_kind
  instruction_show e f = by_first go f.on
    where
      other : (j : ℕ) → (j ≡ 2 → ⊥) → j ≡ k → ⊥
      other j l g = l (g ∙ e)

      go : (us vs : List Symbol) (o : Instruction Written) → Instruction⊢ us o vs → Told us vs o
      go _ vs _ (Instruction⊢.assign (Path⊢.self d) x) a b w g c = absurd (other 1 (λ q. absurd (omega arith)) g)
      go _ vs _ (Instruction⊢.assign (Path⊢.up d q) x) a b w g c = absurd (other 8 (λ q. absurd (omega arith)) g)
      go us vs o (Instruction⊢.show {ts = ts} d) a b w g c = f.says us vs o a (ShowHere.show (last_at ts vs _ d b w)) c
      go _ vs _ (Instruction⊢.jump d x) a b w g c = absurd (other 3 (λ q. absurd (omega arith)) g)
      go _ vs _ (Instruction⊢.ifeq d x y) a b w g c = absurd (other 4 (λ q. absurd (omega arith)) g)

  pub instruction_jump : k ≡ 3 → Emits (JumpHere place) (instruction_emitted place i) s table n p p' r → Emits (InstructionHere place) (instruction_emitted place i) s table n p p' r
  unfolding front_kind kind_of fixed_kind
  instruction_jump e f = by_first go f.on
    where
      other : (j : ℕ) → (j ≡ 3 → ⊥) → j ≡ k → ⊥
      other j l g = l (g ∙ e)

      go : (us vs : List Symbol) (o : Instruction Written) → Instruction⊢ us o vs → Told us vs o
      go _ vs _ (Instruction⊢.assign (Path⊢.self d) x) a b w g c = absurd (other 1 (λ q. absurd (omega arith)) g)
      go _ vs _ (Instruction⊢.assign (Path⊢.up d q) x) a b w g c = absurd (other 8 (λ q. absurd (omega arith)) g)
      go _ vs _ (Instruction⊢.show d) a b w g c = absurd (other 2 (λ q. absurd (omega arith)) g)
      go us vs o (Instruction⊢.jump {ts = ts} {us = ws} d x) a b w g c = f.says us vs o a (JumpHere.jump (base_at ts ws vs _ _ d x w) (last_at ws vs _ x b w)) c
      go _ vs _ (Instruction⊢.ifeq d x y) a b w g c = absurd (other 4 (λ q. absurd (omega arith)) g)

  pub instruction_ifeq : k ≡ 4 → Emits (IfeqHere place) (instruction_emitted place i) s table n p p' r → Emits (InstructionHere place) (instruction_emitted place i) s table n p p' r
  unfolding front_kind kind_of fixed_kind
  instruction_ifeq e f = by_first go f.on
    where
      other : (j : ℕ) → (j ≡ 4 → ⊥) → j ≡ k → ⊥
      other j l g = l (g ∙ e)

      go : (us vs : List Symbol) (o : Instruction Written) → Instruction⊢ us o vs → Told us vs o
      go _ vs _ (Instruction⊢.assign (Path⊢.self d) x) a b w g c = absurd (other 1 (λ q. absurd (omega arith)) g)
      go _ vs _ (Instruction⊢.assign (Path⊢.up d q) x) a b w g c = absurd (other 8 (λ q. absurd (omega arith)) g)
      go _ vs _ (Instruction⊢.show d) a b w g c = absurd (other 2 (λ q. absurd (omega arith)) g)
      go _ vs _ (Instruction⊢.jump d x) a b w g c = absurd (other 3 (λ q. absurd (omega arith)) g)
      go us vs o (Instruction⊢.ifeq {ts = ts} {us = ws} {vs = xs} d x y) a b w g c =
          f.says us vs o a (IfeqHere.ifeq (base_at ts ws xs _ _ d x w) (base_at ws xs vs _ _ x y w) (last_at xs vs _ y b w)) c

  pub instruction_assign : (k ≡ 2 → ⊥) → (k ≡ 3 → ⊥) → (k ≡ 4 → ⊥) → Emits (AssignHere place) (instruction_emitted place i) s table n p p' r →
      Emits (InstructionHere place) (instruction_emitted place i) s table n p p' r
  unfolding front_kind kind_of fixed_kind
  instruction_assign n₂ n₃ n₄ f = by_first go f.on
    where
      go : (us vs : List Symbol) (o : Instruction Written) → Instruction⊢ us o vs → Told us vs o
      go us vs o (Instruction⊢.assign d x) a b w g c =
          f.says us vs o a
          (AssignHere.assign d
          (record { expression = x; ends = ends_at vs 10 b (λ q. absurd (omega arith)) (omega arith); ok = w.ok; plain = λ q. absurd (not_outside place w q); within = record { slots = λ ss q. inside_fits place ss w } })) c
      go _ vs _ (Instruction⊢.show d) a b w g c = absurd (n₂ (sym g))
      go _ vs _ (Instruction⊢.jump d x) a b w g c = absurd (n₃ (sym g))
      go _ vs _ (Instruction⊢.ifeq d x y) a b w g c = absurd (n₄ (sym g))

-- ---- One instruction with its `;`

pub line_falls : (s : List ℕ) (n m : Next) → m ≡ take_instruction n → (t : ℕ) → 16 * (length s - n.at) + 8 ≡ t → 16 * (length s - m.at) + 7 < t
line_falls s n m em t e = omega (arith, ap (λ (a : Next). a.at) em)

module _ (s : List ℕ) (table : List (List ℕ)) (place : Place) (n : Next) (p : List ℕ) (m : Next) (em : m ≡ take_instruction n) (p₁ : List ℕ) (u : Next)
    (f : Emits (InstructionHere place) (instruction_emitted place n.instructions) s table m p p₁ u) (p' : List ℕ) (stop : Stand) (c : Stands s (LineClosed s n.instructions u p₁ p') stop) where
  line_says : (us vs : List Symbol) (o : Instruction Written) (is : Code Written) → Ahead s table n us → CodeHere place us (o then is) vs →
      Small (line_emitted place o is (emitting p (numbers n))).next → LineDone place s table o is n p vs p' stop.next
  unfolding line_emitted instruction_emitted front_kind kind_of fixed_kind
  line_says us vs o is h g l = go o is g.code l
    where
      linked_to : Code Path → Emitting → Emitting
      linked_to ls t = emitting (set_instruction_link t.words n.instructions (link_to_code ls n.instructions t.next.instructions)) t.next

      start : Small (one_instruction (numbers n)) → emitting p (numbers m) ≡ emitting p (one_instruction (numbers n))
      start l = ap (emitting p) (ap (λ (t : Next). numbers t) em ∙ instruction_next n l)

      on_from : n.at ≤ u.at
      on_from = omega (arith, f.on, ap (λ (a : Next). a.at) em)

      go : (o : Instruction Written) (is : Code Written) → Code⊢ us (o then is) vs → Small (line_emitted place o is (emitting p (numbers n))).next → LineDone place s table o is n p vs p' stop.next
      go o is (Code⊢.more_instructions {us = ws} d i) l =
          let e = start (instruction_before (resolve_instruction (place_of place) o) n.instructions (emitting p (one_instruction (numbers n))) l) in
          let v = f.says us _ o (rw em (ahead_same s table n (take_instruction n) us refl refl refl h)) (record { instruction = d; ends = refl; inside = g.inside }) (rw e l) in
          let w = c.done.says table ws vs is (place_of place) v.ahead i g.ends in
          record {
            further = omega (arith, on_from, w.further);
            emitted = w.linked ∙ ap (linked_to (resolve_code (place_of place) is)) (v.is ∙ ap (emit_instruction (resolve_instruction (place_of place) o) n.instructions) e);
            rest = ws;
            ahead = w.ahead;
            more = i;
          }

  pub line_done : Stands s (LineEmits place s table n p p') stop
  line_done = record { done = record { says = line_says; on = omega (arith, f.on, c.done.on, ap (λ (a : Next). a.at) em) }; seen = c.seen }

-- ---- All instructions

module _ (s : List ℕ) (table : List (List ℕ)) (place : Place) (n₀ : Next) (p₀ : List ℕ) where
  pub lines_start : (t : Seen) → Sees s n₀.at t → Going (CodeHere place) (code_emitted place) s table n₀ p₀ n₀ p₀ t
  lines_start t x = record { seen = x; on = omega arith; size = refl; back = λ p' r x. x }

  -- no instructions where none can begin
  no_lines_here : (n : Next) (p : List ℕ) → ((us : List Symbol) → Ahead s table n us → front_kind us ≤ 8 → ⊥) → Emits (CodeHere place) (code_emitted place) s table n p p n
  unfolding code_emitted resolve_code emit_code
  no_lines_here n p f = record { says = λ us vs is h g l. go us vs is h g.code; on = omega arith }
    where
      go : (us vs : List Symbol) (is : Code Written) → Ahead s table n us → Code⊢ us is vs → Emitted s table (code_emitted place is (emitting p (numbers n))) p n vs
      go us vs _ h Code⊢.no_instructions = record { is = refl; ahead = h }
      go us vs _ h (Code⊢.more_instructions d g) = absurd (f us h (instruction_kind us _ _ d))

  module _ (n : Next) (p : List ℕ) (t : Seen) (i : Going (CodeHere place) (code_emitted place) s table n₀ p₀ n p t) where
    over : (k : ℕ) → 8 < k → (us : List Symbol) → front_kind us ≡ k → front_kind us ≤ 8 → ⊥
    over k l us e g = omega arith

    pub lines_end : length s ≤ n.at → Emits (CodeHere place) (code_emitted place) s table n₀ p₀ p n
    lines_end l = i.back p n (no_lines_here n p (λ us h. over 29 (omega arith) us (past_kind s table n us l h)))

    pub lines_none : t.kind ≡ 15 → Emits (CodeHere place) (code_emitted place) s table n₀ p₀ p n
    lines_none e = i.back p n (no_lines_here n p (λ us h. over 15 (omega arith) us (seen_kind s table n t i.seen us h ∙ e)))

    module _ (ne : t.kind ≡ 15 → ⊥) (p₁ : List ℕ) (m : Next) (f : LineEmits place s table n p p₁ m) where
      -- instructions begin here
      then_is : (us vs : List Symbol) → Ahead s table n us → CodeHere place us Code.finished vs → ⊥
      then_is us vs h g = ne (sym (seen_kind s table n t i.seen us h) ∙ ap front_kind (ended us vs g.code) ∙ g.ends)
        where
          ended : (us vs : List Symbol) → Code⊢ us Code.finished vs → us ≡ vs
          ended us vs Code⊢.no_instructions = refl

      one_line : (us vs : List Symbol) (o : Instruction Written) (is : Code Written) → Ahead s table n us → CodeHere place us (o then is) vs →
          Small (code_emitted place (o then is) (emitting p (numbers n))).next → LineDone place s table o is n p vs p₁ m
      unfolding code_emitted resolve_code emit_code line_emitted
      one_line us vs o is h g l = f.says us vs o is h g (code_before (resolve_code (place_of place) is) (line_emitted place o is (emitting p (numbers n))) l)

      pub lines_stuck : m.at ≤ n.at → Emits (CodeHere place) (code_emitted place) s table n₀ p₀ p₁ m
      lines_stuck l = i.back p₁ m (record { says = λ us vs is h g a. absurd (go us vs is h g a); on = f.on })
        where
          back : n.at < m.at → ⊥
          back a = omega arith

          go : (us vs : List Symbol) (is : Code Written) → Ahead s table n us → CodeHere place us is vs → Small (code_emitted place is (emitting p (numbers n))).next → ⊥
          go us vs Code.finished h g a = then_is us vs h g
          go us vs (o then is) h g a = back (one_line us vs o is h g a).further

      on_lines : (p' : List ℕ) (r : Next) → Emits (CodeHere place) (code_emitted place) s table m p₁ p' r → Emits (CodeHere place) (code_emitted place) s table n p p' r
      unfolding code_emitted resolve_code emit_code line_emitted
      on_lines p' r g = record { says = λ us vs is h w a. go us vs is h w a; on = omega (arith, f.on, g.on) }
        where
          go : (us vs : List Symbol) (is : Code Written) → Ahead s table n us → CodeHere place us is vs → Small (code_emitted place is (emitting p (numbers n))).next →
              Emitted s table (code_emitted place is (emitting p (numbers n))) p' r vs
          go us vs Code.finished h w a = absurd (then_is us vs h w)
          go us vs (o then is) h w a =
              let d = one_line us vs o is h w a in
              carry s table (code_emitted place is) (line_emitted place o is (emitting p (numbers n))) (emitting p₁ (numbers m)) (sym d.emitted) p' r vs
              (g.says d.rest vs is d.ahead (record { code = d.more; ends = w.ends; inside = w.inside })) a

      module _ (l : n.at < m.at) where
        pub lines_again : length p₁ ≡ length p → (t' : Seen) → Sees s m.at t' → Going (CodeHere place) (code_emitted place) s table n₀ p₀ m p₁ t'
        lines_again e t' x = record { seen = x; on = omega (arith, i.on); size = e ∙ i.size; back = λ p' r g. i.back p' r (on_lines p' r g) }
