-- The memories that the start code leaves hold the start of the program. Assumes nothing.
use mathlib.Core.Path.{◌≡◌, refl, sym, ap, ◌∙◌, subst}
use mathlib.Core.Logic.{inl}
use mathlib.Core.Bool.{Bool, false}
use mathlib.Core.List.{List, [], map}
use mathlib.Core.Option.{Option, none, some}
use Prim.Native.Nat.{ℕ, zero, suc, ◌+◌, ◌≤◌, ◌<◌}
use native.Mathlib.Omega.{arith}
use lib.IntN.{pos}
use lib.ListN.{length, get_or, get_elem?}
use Rattle.words.specs.Words.{word}
use Rattle.framed.specs.declared.Value.{Value}
use Rattle.framed.specs.Tree.{Expression, Slots, Code}
use Rattle.framed.specs.Paths.{Path}
use Rattle.framed.specs.Program.{Program}
use Rattle.framed.specs.Values.{Frame, new_frame, empty_heap}
use Rattle.framed.specs.Equality.{constants}
use Rattle.framed.specs.Reach.{slot_value, values_in}
use Rattle.framed.specs.Machine.{State, first_of, with_frame, start_from, start, frame_literals, frame_literals_in}
use Rattle.framed.specs.Machine as M
use Rattle.framed.proofs.General.{none≢some}
use Rattle.tables.specs.Fields.{names, literals, codes, instructions, code_first}
use Rattle.tables.specs.Fields as fields
use Rattle.program_form.proofs.Decides.{sound}
use Rattle.trees.specs.Held as trees
use Rattle.trees.specs.Held.{remaining}
use Rattle.trees.proofs.Held.{one_level_held}
use Rattle.heap.specs.Words.{self_held, program_held, position, end_mark, maker_at, set_self, set_program, set_position}
use Rattle.heap.specs.Held.{frames_held, heap_held, slots_held, frames_in_use, texts_in_use}
use Rattle.heap.specs.Closed.{ValueFits}
use Rattle.heap.proofs.Laws.{Local, local_trans, local_same, same_self, same_program, set_self_local, set_self_self, set_program_local, set_program_program, set_position_local, set_position_position}
use Rattle.mark.proofs.ReachLaws.{reached_in_use}
use Rattle.state_form.specs.Form.{ValueFormed, StateWellFormed}
use Rattle.state_form.proofs.Facts.{well_formed_closed}
use Rattle.state_form.proofs.Kept.{set_self_formed, set_program_formed, set_position_formed}
use Rattle.wellformed.specs.WellFormed.{limits}
use Rattle.wellformed.specs.Held.{state_held}
use Rattle.allocation.specs.Allocation.{next_frame, view_held}
use Rattle.allocation.proofs.Views.{shows_frame, shows_no_frame, shows_text, shows_no_text, frames_counted, texts_counted}
use Rattle.bounded.specs.Views.{View, frame_at, text_at, all_used, entries, frames_used, texts_used}
use Rattle.bounded.specs.Fits.{Valid, valid_frame, ExpressionFits}
use Rattle.bounded.specs.Store.{Laws}
use Rattle.bounded.specs.Bounded.{Produced, evaluate}
use Rattle.framed.proofs.Lists.{get_default}
use Rattle.bounded.proofs.Lists.{used_same}
use Rattle.bounded.proofs.Views.{frame_read, heap_frame, written_extends, extends_keeps, valid_kept}
use Rattle.word_store.specs.Store.{Memories, memories, word_store, claim_frame}
use Rattle.word_store.specs.Form.{StoreFormed, LimitsOf}
use Rattle.word_store.proofs.Header.{low_view}
use Rattle.word_store.proofs.Form.{state_store, state_whole}
use Rattle.word_store.proofs.Values.{valid_named}
use Rattle.word_store.proofs.Laws.{word_laws}
use Rattle.word_store.proofs.Updates.{keeps_claim}
use Rattle.evaluation.proofs.Fits.{fits_frame}
use Rattle.emission.specs.Emit.{cleared}
use Rattle.shapes.specs.Numbers.{slots_size}
use Rattle.accepted.specs.Constant.{ConstantExpression}
use Rattle.start_state.specs.Start.{written_slots, written, new_self, rooted, start_heap}
use Rattle.start_state.proofs.Blank.{blank_word, blank_state, blank_frame, blank_text, blank_frames, blank_texts, position_zero}
use Rattle.start_state.proofs.Texts.{evaluate_text}
use Rattle.start_held.specs.Starts.{Holds, StartHeld, StartsHeld}
use Rattle.start_held.proofs.Fits.{slots_fit}
use Rattle.trees.proofs.Held.{list_length}
use Rattle.start_held.proofs.Constants.{no_joins, no_joins_in, evaluate_header, free_held, get_none, lowest_used}
use Rattle.start_held.proofs.Same.{Same, Here, Evaluated, evaluate_same, claimed, number_is, frames_claim, claimed_same}
use Rattle.start_held.proofs.Alike.{SameNumbers, alike_numbers, alike_no_renaming}

module _ (p l : List ℕ) (q : Program) (a : Holds p l q) where
  abbrev zero_value : Value
  zero_value = Value.Int (pos 0)

  -- ---- What is held

  limits_of : LimitsOf (limits p) q
  unfolding limits trees.program_held
  limits_of = record {
    names = sym (list_length _ (names p) 0) ∙ ap (λ (r : Program). length r.names) a.decodes;
    literals = sym (list_length _ (literals p) 0) ∙ ap (λ (r : Program). length r.literals) a.decodes;
    codes = sym (list_length _ (codes p) 0) ∙ ap (λ (r : Program). length r.codes) a.decodes;
    instructions = sym (list_length _ (instructions p) 0) ∙ ap (λ (r : Program). length r.instructions) a.decodes;
  }

  slots_are : written_slots p ≡ q.slots
  unfolding trees.program_held
  slots_are = ap (λ (r : Program). r.slots) a.decodes

  abbrev laws : Laws word_store q
  laws = word_laws (limits p) q limits_of

  abbrev blank : Memories
  blank = memories (cleared 16384) (cleared 16384)

  abbrev tree : Expression Path
  tree = Expression.frame q.slots

  abbrev made : Produced Memories
  made = evaluate word_store (constants q) 0 zero_value zero_value tree blank

  written_is : written p l ≡ made
  unfolding written
  written_is =
      ap (λ (r : Program). evaluate word_store (constants r) 0 zero_value zero_value (Expression.frame (written_slots p)) blank) a.decodes
      ∙ ap (λ (ss : Slots Path). evaluate word_store (constants q) 0 zero_value zero_value (Expression.frame ss) blank) slots_are

  few : frame_literals_in q.slots + 2 ≤ fields.frame_limit p
  few = let w = a.written.few in omega arith

  few_entries : frame_literals_in q.slots + 2 ≤ 256
  few_entries = omega (arith, few, a.program.entries.limits.F_most)

  tree_fits : ExpressionFits q tree
  unfolding limits
  tree_fits = (
    a.shaped.frame.few,
    slots_fit q (slots_size q.slots).codes (omega (arith, limits_of.codes, a.codes_are)) q.slots 0 a.written.constant a.shaped.slots a.shaped.frame.distinct (omega arith),
  )

  -- ---- The written frames are made

  nothing_open : ℕ → Bool
  nothing_open n = false

  no_frame : (n : ℕ) → frame_at (view_held (cleared 16384) (cleared 16384)) n ≡ none
  no_frame n = shows_no_frame (cleared 16384) (cleared 16384) n (blank_frame n)

  no_frame_start : (n : ℕ) → frame_at (all_used empty_heap) n ≡ none
  unfolding frame_at empty_heap
  no_frame_start n = refl

  start_same : Same nothing_open (view_held (cleared 16384) (cleared 16384)) empty_heap
  start_same = record {
    both = λ n. ((λ d. absurd (none≢some (sym (no_frame n) ∙ d.1))), (λ d. absurd (none≢some (sym (no_frame_start n) ∙ d.1))));
    equal = λ n e. no_frame n ∙ sym (no_frame_start n);
  }

  start_here : Here word_store q laws lowest_used zero_value zero_value nothing_open blank empty_heap (frame_literals tree)
  unfolding frame_literals entries
  start_here = record {
    well_formed = state_store (blank_state (limits p));
    same = start_same;
    room = omega (arith, frames_counted (cleared 16384) (cleared 16384), blank_frames, few_entries);
  }

  D : Evaluated word_store q laws lowest_used zero_value zero_value nothing_open blank empty_heap (frame_literals tree) made (M.evaluate (constants q) 0 zero_value zero_value tree empty_heap)
  D = evaluate_same word_store q laws lowest_used zero_value zero_value nothing_open tree (ConstantExpression.frame a.written.constant) tree_fits blank empty_heap start_here

  -- ---- A further frame for self

  used_most : frames_used (view_held made.store.heap made.store.text) ≤ suc (frame_literals_in q.slots)
  unfolding frame_literals
  used_most = omega (arith, D.taken, frames_counted (cleared 16384) (cleared 16384), blank_frames)

  self_here : Here word_store q laws lowest_used zero_value zero_value nothing_open made.store D.heap 1
  unfolding entries
  self_here = record { well_formed = D.well_formed; same = D.same; room = omega (arith, used_most, few_entries) }

  -- heap words with it
  abbrev h₁ : List ℕ
  h₁ = claim_frame made.store.heap 0

  abbrev g : ℕ
  g = next_frame made.store.heap

  text_is : made.store.text ≡ cleared 16384
  text_is = evaluate_text (constants q) 0 zero_value zero_value tree blank (no_joins tree (ConstantExpression.frame a.written.constant))

  view_same : Same nothing_open (view_held h₁ made.store.text) (with_frame 0 D.heap)
  view_same = claimed_same word_store q laws lowest_used zero_value zero_value nothing_open 0 made.store D.heap self_here

  store_formed : StoreFormed h₁ made.store.text (limits p)
  store_formed = (claimed word_store q laws lowest_used zero_value zero_value nothing_open 0 made.store D.heap self_here).0

  made_zero : (k : ℕ) → k < 6 → word made.store.heap k ≡ 0
  made_zero k lt =
      (evaluate_header (constants q) 0 zero_value zero_value tree (ConstantExpression.frame a.written.constant) blank).agree k (omega arith) lt ∙ blank_word 16384 k

  header_zero : (k : ℕ) → k < 6 → word h₁ k ≡ 0
  header_zero k lt = (keeps_claim made.store.heap 0).agree k (omega arith) lt ∙ made_zero k lt

  no_text : (k : ℕ) → text_at (view_held h₁ made.store.text) k ≡ none
  no_text k =
      (claimed word_store q laws lowest_used zero_value zero_value nothing_open 0 made.store D.heap self_here).1.written.texts k
      ∙ D.texts k ∙ shows_no_text (cleared 16384) (cleared 16384) k (blank_text k)

  frames_few : length (frames_in_use h₁) ≤ fields.frame_limit p
  frames_few =
      omega (
        arith,
        frames_counted h₁ made.store.text,
        frames_claim word_store q laws lowest_used zero_value zero_value nothing_open 0 made.store D.heap self_here,
        used_most,
        few,
      )

  texts_none : length (texts_in_use h₁) ≡ 0
  unfolding texts_used
  texts_none =
      texts_counted h₁ made.store.text
      ∙ used_same (text_at (view_held (cleared 16384) (cleared 16384))) (text_at (view_held h₁ made.store.text)) entries
      (λ k. no_text k ∙ sym (shows_no_text (cleared 16384) (cleared 16384) k (blank_text k)))
      ∙ sym (texts_counted (cleared 16384) (cleared 16384)) ∙ blank_texts

  zero_formed : (tag n : ℕ) → tag ≡ 0 → ValueFormed h₁ (limits p) tag n
  zero_formed tag n z = record {
    formed = omega arith;
    literal = λ e. absurd (omega arith);
    made = λ e. absurd (omega arith);
    code = λ e. absurd (omega arith);
    frame = λ e. absurd (omega arith);
  }

  claimed_formed : StateWellFormed h₁ (cleared 16384) (limits p)
  unfolding limits position end_mark
  claimed_formed = rw text_is at (state_whole store_formed (record {
    self = zero_formed (word h₁ 0) (word h₁ 1) (header_zero 0 (omega arith));
    program = zero_formed (word h₁ 2) (word h₁ 3) (header_zero 2 (omega arith));
    frames_few = frames_few;
    texts_few = omega (arith, texts_none);
    position_there = omega (arith, header_zero 4 (omega arith));
    end = inl (header_zero 5 (omega arith));
  }))

  -- ---- Self, program and position

  abbrev h₂ : List ℕ
  h₂ = set_self h₁ (Value.Frame g)

  abbrev h₃ : List ℕ
  h₃ = set_program h₂ made.value

  abbrev h₄ : List ℕ
  h₄ = set_position h₃ (code_first p (fields.start p))

  heap_is : start_heap p l ≡ h₄
  unfolding start_heap rooted new_self
  heap_is = rw (written_is, position_zero made.store.heap made_zero)

  size₁ : length h₁ ≡ 16384
  size₁ = claimed_formed.heap_size

  -- the view of the words with another header
  view_is : {b c : ℕ} {h : List ℕ} → Local b c h₁ h → c ≤ 6 → view_held h (cleared 16384) ≡ view_held h₁ made.store.text
  view_is {h = h} d le = low_view d (omega arith) (cleared 16384) ∙ ap (view_held h₁) (sym text_is)

  self_valid : Valid q (view_held h₁ made.store.text) (Value.Frame g)
  self_valid = valid_frame (claimed word_store q laws lowest_used zero_value zero_value nothing_open 0 made.store D.heap self_here).1.written.here

  program_valid : Valid q (view_held h₁ made.store.text) made.value
  program_valid =
      let c = (claimed word_store q laws lowest_used zero_value zero_value nothing_open 0 made.store D.heap self_here).1 in
      valid_kept (extends_keeps (written_extends c.free c.written)) D.valid

  here₁ : Local 0 6 h₁ h₁
  here₁ = record { size = refl; away = λ k n. refl }

  widen : {b c : ℕ} {h h' : List ℕ} → Local b c h h' → c ≤ 6 → Local 0 6 h h'
  widen d le = record { size = d.size; away = λ k n. d.away k (λ lo hi. n (omega arith) (omega arith)) }

  at₂ : Local 0 6 h₁ h₂
  at₂ = widen (set_self_local h₁ size₁ (Value.Frame g)) (omega arith)

  formed₂ : StateWellFormed h₂ (cleared 16384) (limits p)
  formed₂ =
      let n = valid_named h₁ (cleared 16384) (limits p) q limits_of (subst (λ (H : View). Valid q H (Value.Frame g)) (sym (view_is here₁ (omega arith))) self_valid) in
      set_self_formed h₁ (cleared 16384) (limits p) claimed_formed (Value.Frame g) n.in_use n.there

  program_named_fits : ValueFits made.value
  program_named_fits = (valid_named h₁ made.store.text (limits p) q limits_of program_valid).fits

  at₃ : Local 0 6 h₁ h₃
  at₃ = local_trans at₂ (widen (set_program_local h₂ formed₂.heap_size made.value) (omega arith))

  formed₃ : StateWellFormed h₃ (cleared 16384) (limits p)
  formed₃ =
      let n = valid_named h₂ (cleared 16384) (limits p) q limits_of (subst (λ (H : View). Valid q H made.value) (sym (view_is at₂ (omega arith))) program_valid) in
      set_program_formed h₂ (cleared 16384) (limits p) formed₂ made.value n.in_use n.there

  start_there : code_first p (fields.start p) ≤ instructions p
  start_there = go (code_first p (fields.start p)) refl
    where
      go : (z : ℕ) → code_first p (fields.start p) ≡ z → z ≤ instructions p
      go zero e = omega arith
      go (suc i) e = (sound p l a.program).first_there (fields.start p) i a.program.entries.limits.start_there e

  at₄ : Local 0 6 h₁ h₄
  at₄ = local_trans at₃ (widen (set_position_local h₃ formed₃.heap_size (code_first p (fields.start p))) (omega arith))

  formed₄ : StateWellFormed h₄ (cleared 16384) (limits p)
  unfolding limits
  formed₄ = set_position_formed h₃ (cleared 16384) (limits p) formed₃ (code_first p (fields.start p)) start_there

  -- ---- What the header holds

  position_local : Local 4 5 h₃ h₄
  position_local = set_position_local h₃ formed₃.heap_size (code_first p (fields.start p))

  program_local : Local 2 4 h₂ h₃
  program_local = set_program_local h₂ formed₂.heap_size made.value

  self_is : self_held h₄ ≡ Value.Frame g
  self_is =
      same_self (local_same position_local 0 2 (λ k lo hi lo' hi'. omega arith))
      ∙ same_self (local_same program_local 0 2 (λ k lo hi lo' hi'. omega arith))
      ∙ set_self_self h₁ size₁ (Value.Frame g) (fits_frame g)

  program_is : program_held h₄ ≡ made.value
  program_is =
      same_program (local_same position_local 2 4 (λ k lo hi lo' hi'. omega arith))
      ∙ set_program_program h₂ formed₂.heap_size made.value program_named_fits

  position_is : position h₄ ≡ code_first p (fields.start p)
  position_is = set_position_position h₃ formed₃.heap_size (code_first p (fields.start p))

  mark_is : end_mark h₄ ≡ 0
  unfolding end_mark
  mark_is =
      position_local.away 5 (λ lo hi. omega arith)
      ∙ program_local.away 5 (λ lo hi. omega arith)
      ∙ (set_self_local h₁ size₁ (Value.Frame g)).away 5 (λ lo hi. omega arith)
      ∙ header_zero 5 (omega arith)

  -- ---- The start of the program

  abbrev begun : State
  begun = record {
    remaining = get_or q.codes q.start Code.finished;
    next = first_of q q.start;
    self = Value.Frame (length D.heap.frames);
    program = made.value;
    heap = with_frame 0 D.heap;
    end_mark = 0;
  }

  begun_is : start q ≡ begun
  unfolding start start_from
  begun_is = rw D.result_is

  frame_equal : (n : ℕ) → frame_at (view_held h₄ (cleared 16384)) n ≡ frame_at (all_used (with_frame 0 D.heap)) n
  unfolding nothing_open
  frame_equal n = ap (λ (H : View). frame_at H n) (view_is at₄ (omega arith)) ∙ view_same.equal n refl

  frame_there : (n : ℕ) (f : Frame) → frame_at (view_held h₄ (cleared 16384)) n ≡ some f →
      (get_elem? (with_frame 0 D.heap).frames n ≡ some f) × (get_elem? (frames_held h₄) n ≡ some f)
  unfolding view_held heap_held
  frame_there n f e = (heap_frame (with_frame 0 D.heap) n ∙ sym (frame_equal n) ∙ e, frame_read (view_held h₄ (cleared 16384)) n f e)

  values_same : (n : ℕ) → values_in (with_frame 0 D.heap).frames n ≡ values_in (frames_held h₄) n
  unfolding values_in
  values_same n = go (frame_at (view_held h₄ (cleared 16384)) n) refl
    where
      go : (o : Option Frame) → frame_at (view_held h₄ (cleared 16384)) n ≡ o → values_in (with_frame 0 D.heap).frames n ≡ values_in (frames_held h₄) n
      go (some f) e =
          let b = frame_there n f e in
          ap (λ (x : Frame). map slot_value x.slots) (get_default (with_frame 0 D.heap).frames n (new_frame 0 []) f b.0 ∙ sym (get_default (frames_held h₄) n (new_frame 0 []) f b.1))
      go none e =
          ap (λ (x : Frame). map slot_value x.slots)
          (get_none (with_frame 0 D.heap).frames n (new_frame 0 []) (heap_frame (with_frame 0 D.heap) n ∙ sym (frame_equal n) ∙ e) ∙ sym (free_held h₄ (cleared 16384) n e))

  start_is : (trees.program_held p l).start ≡ fields.start p
  unfolding trees.program_held
  start_is = refl

  remaining_is : get_or q.codes q.start Code.finished ≡ remaining p (code_first p (fields.start p))
  remaining_is =
      ap (λ (r : Program). get_or r.codes r.start Code.finished) (sym a.decodes)
      ∙ ap (λ (k : ℕ). get_or (trees.program_held p l).codes k Code.finished) start_is
      ∙ (one_level_held p l a.program).code (fields.start p) a.program.entries.limits.start_there

  next_is : first_of q q.start ≡ code_first p (fields.start p)
  next_is =
      ap (λ (r : Program). first_of r r.start) (sym a.decodes)
      ∙ ap (first_of (trees.program_held p l)) start_is
      ∙ (one_level_held p l a.program).code_begins (fields.start p) a.program.entries.limits.start_there

  same_start : SameNumbers begun (state_held p h₄ (cleared 16384))
  unfolding state_held heap_held
  same_start = record {
    remaining = remaining_is ∙ ap (remaining p) (sym position_is);
    next = next_is ∙ sym position_is;
    self = ap Value.Frame (sym (number_is word_store q laws lowest_used zero_value zero_value nothing_open 0 made.store D.heap self_here)) ∙ sym self_is;
    program = sym program_is;
    end_mark = sym mark_is;
    values = values_same;
    frame = λ n r.
        let u = (reached_in_use h₄ (well_formed_closed formed₄) r).frame n refl in
        let b = frame_there n (new_frame (maker_at h₄ n) (slots_held h₄ n)) (shows_frame h₄ (cleared 16384) n u.small u.used) in
        b.0 ∙ sym b.1;
    text = λ k r.
        let u = (reached_in_use h₄ (well_formed_closed formed₄) r).made k refl in
        absurd (none≢some (sym (ap (λ (H : View). text_at H k) (view_is at₄ (omega arith)) ∙ no_text k) ∙ shows_text h₄ (cleared 16384) k u.small u.used));
  }

  start_held : StartHeld p l q
  unfolding frame_literals
  start_held =
      let c = rw (← begun_is, ← heap_is) at same_start in
      record {
        can_start = record {
          program = a.program;
          heap_cleared = refl;
          text_cleared = refl;
          room = rw slots_are few_entries;
          no_joins = rw slots_are (no_joins_in q.slots a.written.constant);
        };
        formed = rw heap_is formed₄;
        unmarked = rw heap_is mark_is;
        alike = alike_numbers (start q) (state_held p (start_heap p l) (cleared 16384)) c;
        no_renaming = alike_no_renaming (start q) (state_held p (start_heap p l) (cleared 16384)) c;
      }

pub starts_held : StartsHeld
starts_held p l q a = start_held p l q a
