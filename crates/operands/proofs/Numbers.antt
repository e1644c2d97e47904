-- One law for each way through the functions on numbers: `slot_place`, `walk`, `quick`, `pack`, `operand_number` and `operand`. Assumes nothing.
use Prim.Native.Nat.{ℕ, zero, suc, ◌+◌, ◌-◌, ◌*◌, ◌/◌, ◌%◌, ◌^◌, ◌≤◌, ◌<◌}
use mathlib.Core.Path.{◌≡◌, refl, ◌∙◌, ap, sym, subst}
use mathlib.Core.Bool.{Bool, true, false, not}
use mathlib.Core.List.{List, [], ◌∷◌}
use mathlib.Core.Option.{Option as Optional, some}
use native.Mathlib.Omega.{arith}
use native.Mathlib.Decide.{ℕ_discrete, dec_le, dec_lt}
use native.Mathlib.Numerals.{add-one}
use lib.Dec.{eqb, ltb, leb}
use lib.ListN.{length, drop, drop_of_length-le}
use lib.Seq.{drop-cons}
use mir.Syntax.{w32}
use mir.Val.{Val, Fits, SFits}
use denote.Laws.{Is}
use denote.Enum.Declared.{row}
use denote.Enum.Laws.{owed}
use borrow.Author.Tests.{lt-ltb, le-ltb, le-leb, lt-leb, eq-eqb, ne_eqb}
use Rattle.std.specs.Prelude.{Option, Some, None}
use Rattle.framed.specs.declared.Text.{Text}
use Rattle.framed.specs.declared.Value.{Value}
use Rattle.framed.specs.Fetch.{frame_of, get, fetch, ◌>>=◌}
use Rattle.framed.specs.Machine.{defined}
use Rattle.framed.specs.contracts.Value.{the_type}
use Rattle.framed.proofs.Value.TheLaws.{the_laws}
use Rattle.words.specs.Words.{pick, word}
use Rattle.ints.specs.Ints.{int_of}
use Rattle.tables.specs.declared.ExpressionEntry.{ExpressionEntry}
use Rattle.tables.specs.Fields.{path_name, expression_kind, expression_a, expression_b}
use Rattle.tables.specs.Entries.{expression_of, expression_at}
use Rattle.heap.specs.Words.{value_of, tag_of, number_of, self_held, program_held}
use Rattle.heap.specs.Words.{frame_word, frame_used, slot_count_at, slot_name_at, slot_tag_at, slot_number_at, slot_value_at}
use Rattle.heap.specs.Held.{slots_held, frames_held}
use Rattle.heap.specs.Closed.{ValueFits}
use Rattle.heap.proofs.Lists.{listed_at}
use Rattle.heap.proofs.Laws.{value_back}
use Rattle.paths.specs.Paths.{slot_from, fetched, path_held}
use Rattle.paths.proofs.Laws.{Find, find_start, find_gone, find_here, find_again, get_past, get_free, get_missing, get_found}
use Rattle.paths.proofs.Laws.{path_length}
use Rattle.operands.specs.Operands.{operand_value, unpacked, place_of, Placed, place_in, walk_number, path_number, entry_number, quick_number}
use Rattle.operands.proofs.Laws.{is_integer, operand_literal, operand_self, operand_program, operand_code, operand_frame, operand_not, operand_operate, operand_bad}

-- ---- Values as numbers

pub number_value : (t f : ℕ) → t ≤ 4 → Fits w32 f → unpacked (f * 8 + t) ≡ Some (value_of t f)
unfolding unpacked
number_value t f le lt =
    let m : (f * 8 + t) % 8 ≡ t = omega arith in
    let d : (f * 8 + t) / 8 ≡ f = omega arith in
    let b : f < 2 ^ 32 = lt.fits in
    let o : f % 4294967296 ≡ f = omega arith in
    rw (ne_eqb (f * 8 + t) 5 (λ z. omega arith), m, d, o)

-- ---- pack

-- what the type says of a value: an integer is one of 32 bits
typed_fits : (v : Value) (vs : List Val) → Is (row the_type) v vs → ValueFits v
typed_fits (Value.Int z) vs is =
    record { int = λ y e. let q : z ≡ y = cc in subst (SFits w32) q (record { sfits = (owed the_type the_laws (Value.Int z) vs is).0.1 }) }
typed_fits (Value.Text t) vs is = record { int = λ y e. let z : ◌≡◌ {A = ℕ} 0 1 = cc in absurd (omega arith) }
typed_fits (Value.Code k) vs is = record { int = λ y e. let z : ◌≡◌ {A = ℕ} 0 1 = cc in absurd (omega arith) }
typed_fits (Value.Frame n) vs is = record { int = λ y e. let z : ◌≡◌ {A = ℕ} 0 1 = cc in absurd (omega arith) }

text_tag_small : (t : Text) → tag_of (Value.Text t) ≤ 4
text_tag_small (Text.Literal k) = omega arith
text_tag_small (Text.Made k) = omega arith

tag_small : (v : Value) → tag_of v ≤ 4
tag_small (Value.Int z) = omega arith
tag_small (Value.Text t) = text_tag_small t
tag_small (Value.Code k) = omega arith
tag_small (Value.Frame n) = omega arith

pub packed_value : (v : Value) (vs : List Val) → Is (row the_type) v vs → (r : Option Value) → r ≡ Some v → (m t : ℕ) → m ≡ number_of v → t ≡ tag_of v → Fits w32 m → unpacked (m * 8 + t) ≡ r
packed_value v vs is r er m t em et fits =
    rw (er, number_value t m (rw et (tag_small v)) fits) (ap Some (rw (em, et) (value_back v (typed_fits v vs is))))

-- ---- slot_place

-- k is the place of slot i, and what is left to find from there on is what was asked
pub record Seek (h : List ℕ) (a n x end k : ℕ) : Type 0 where
  pub slot : ℕ
  pub before_end : slot ≤ n
  pub last : end ≡ a + 3 * n
  pub here : k ≡ a + 3 * slot
  pub find : (f : ℕ) → a ≡ 131 + 51 * f → n ≡ slot_count_at h f → Find h f x n slot

pub seek_start : (h : List ℕ) (a n x : ℕ) → Seek h a n x (a + 3 * n) a
seek_start h a n x =
    record { slot = 0; before_end = omega arith; last = refl; here = omega arith; find = λ f ea en. find_start h f x n en }

module _ (h : List ℕ) (a n x end k : ℕ) (s : Seek h a n x end k) where
  pub seek_gone : end ≤ k → Placed h a n x 0
  unfolding place_of
  seek_gone le =
      let e = s.last in
      let q = s.here in
      record { inside = omega arith; place = λ f ea en. ap (place_of a) (find_gone h f x n s.slot (s.find f ea en) (omega arith)) }

  module _ (lt : k < end) where
    slot_below : s.slot < n
    slot_below = omega (arith, s.last, s.here)

    slot_name : (f : ℕ) → a ≡ 131 + 51 * f → word h k ≡ slot_name_at h f s.slot
    unfolding slot_name_at
    slot_name f ea = ap (word h) (let q : k ≡ 131 + 51 * f + 3 * s.slot = omega (arith, s.here) in q)

    pub seek_here : word h k ≡ x → Placed h a n x k
    unfolding place_of
    seek_here e =
        let q = s.here in
        let l = slot_below in
        record {
          inside = omega arith;
          place = λ f ea en. q ∙ ap (place_of a) (find_here h f x n s.slot (s.find f ea en) l (word h k) (slot_name f ea) e);
        }

    pub seek_again : (word h k ≡ x → ⊥) → Seek h a n x end (k + 3)
    seek_again ne =
        let q = s.here in
        let l = slot_below in
        record {
          slot = s.slot + 1;
          before_end = omega arith;
          last = s.last;
          here = omega arith;
          find = λ f ea en. find_again h f x n s.slot (s.find f ea en) l (word h k) (slot_name f ea) ne;
        }

-- ---- walk

-- not a frame
low_none : (h : List ℕ) (tag f x : ℕ) → tag < 4 → fetched None ≡ get (frames_held h) (value_of tag f) x
unfolding value_of get frame_of ◌>>=◌
low_none h zero f x lt = refl
low_none h (suc zero) f x lt = refl
low_none h (suc (suc zero)) f x lt = refl
low_none h (suc (suc (suc zero))) f x lt = refl
low_none h (suc (suc (suc (suc t)))) f x lt = absurd (omega arith)

high_frame : (tag f : ℕ) → 4 ≤ tag → value_of tag f ≡ Value.Frame f
unfolding value_of
high_frame tag f le = rw (ne_eqb tag 0 (λ z. omega arith), ne_eqb tag 1 (λ z. omega arith), ne_eqb tag 2 (λ z. omega arith), ne_eqb tag 3 (λ z. omega arith))

-- at name i, what is left to find from the value with this tag and number is the answer
pub record Along (p h : List ℕ) (root j n tag f i : ℕ) : Type 0 where
  pub inside : i ≤ n
  pub number : Fits w32 f
  pub rest : walk_number h tag f (drop i (path_held p (j - 2496) n)) ≡ path_number p h root (j - 2496) n

pub along_start : (p h : List ℕ) (root j n : ℕ) → Fits w32 (word h (root + 1)) → Along p h root j n (word h root) (word h (root + 1)) 0
unfolding path_number
along_start p h root j n lt = record { inside = omega arith; number = lt; rest = refl }

module _ (p h : List ℕ) (root j n tag f i : ℕ) (s : Along p h root j n tag f i) where
  walked_all : n ≤ i → pick (leb tag 4) (f * 8 + tag) 6 ≡ path_number p h root (j - 2496) n
  unfolding walk_number
  walked_all le = let l = path_length p (j - 2496) n in rw (drop_of_length-le (path_held p (j - 2496) n) {i = i} (omega arith)) at s.rest

  module _ (le : n ≤ i) where
    pub walked_value : tag ≤ 4 → f * 8 + tag ≡ path_number p h root (j - 2496) n
    walked_value small = rw (le-leb tag 4 small) at (walked_all le)

    pub walked_high : 4 < tag → 6 ≡ path_number p h root (j - 2496) n
    walked_high high = rw (lt-leb tag 4 high) at (walked_all le)

  module _ (lt : i < n) where
    abbrev name : ℕ
    name = path_name p (j - 2496 + i)

    abbrev place : ℕ
    place = place_in h f name

    walk_turn :
        pick (ltb tag 4) 5
        (pick (leb 256 f) 5
        (pick (frame_used h f)
        (pick (leb (slot_count_at h f) 16) (pick (eqb place 0) 5 (walk_number h (word h (place + 1)) (word h (place + 2)) (drop (i + 1) (path_held p (j - 2496) n)))) 6)
        5)) ≡ path_number p h root (j - 2496) n
    unfolding walk_number path_held
    walk_turn =
        let l = path_length p (j - 2496) n in
        rw (add-one i) (rw (drop-cons (path_held p (j - 2496) n) i 0 (omega arith), listed_at {A = ℕ} _ n i 0 lt) at s.rest)

    pub walked_low : tag < 4 → 5 ≡ path_number p h root (j - 2496) n
    walked_low low = rw (lt-ltb tag 4 low) at walk_turn

    module _ (le : 4 ≤ tag) where
      pub walked_past : 256 ≤ f → 5 ≡ path_number p h root (j - 2496) n
      walked_past far = rw (le-ltb tag 4 le, le-leb 256 f far) at walk_turn

      module _ (lf : f < 256) (w : ℕ) (ew : w ≡ f) where
        pub walked_free : (word h (128 + 51 * w) ≡ 1 → ⊥) → 5 ≡ path_number p h root (j - 2496) n
        unfolding frame_used frame_word
        walked_free ne =
            let u : frame_used h f ≡ false = rw (← ew, ne_eqb (word h (128 + 51 * w)) 1 ne) in
            rw (le-ltb tag 4 le, lt-leb 256 f lf, u) at walk_turn

        module _ (u : word h (128 + 51 * w) ≡ 1) where
          count_is : word h (128 + 51 * w + 1) ≡ slot_count_at h f
          unfolding slot_count_at
          count_is = ap (word h) (let q : 128 + 51 * w + 1 ≡ 129 + 51 * f = omega arith in q)

          used_turn :
              pick (leb (word h (128 + 51 * w + 1)) 16) (pick (eqb place 0) 5 (walk_number h (word h (place + 1)) (word h (place + 2)) (drop (i + 1) (path_held p (j - 2496) n)))) 6
              ≡ path_number p h root (j - 2496) n
          unfolding frame_used frame_word
          used_turn =
              let t : frame_used h f ≡ true = rw (← ew, eq-eqb (word h (128 + 51 * w)) 1 u) in
              rw (le-ltb tag 4 le, lt-leb 256 f lf, t, ← count_is) at walk_turn

          pub walked_many : 16 < word h (128 + 51 * w + 1) → 6 ≡ path_number p h root (j - 2496) n
          walked_many many = rw (lt-leb (word h (128 + 51 * w + 1)) 16 many) at used_turn

          module _ (few : word h (128 + 51 * w + 1) ≤ 16) (start : 2496 ≤ j) (c k : ℕ) (ec : c ≡ word h (128 + 51 * w + 1)) (at : Placed h (128 + 51 * w + 3) c (word p (j + i)) k) where
            place_is : k ≡ place
            unfolding place_in path_name
            place_is =
                let a : 128 + 51 * w + 3 ≡ 131 + 51 * f = omega arith in
                let q : j + i ≡ 2496 + (j - 2496 + i) = omega arith in
                rw (a, q) at (at.place f a (ec ∙ count_is))

            slot_turn : pick (eqb k 0) 5 (walk_number h (word h (k + 1)) (word h (k + 2)) (drop (i + 1) (path_held p (j - 2496) n))) ≡ path_number p h root (j - 2496) n
            slot_turn = rw (le-leb (word h (128 + 51 * w + 1)) 16 few, ← place_is) at used_turn

            pub walked_missing : k ≡ 0 → 5 ≡ path_number p h root (j - 2496) n
            walked_missing e = rw (eq-eqb k 0 e) at slot_turn

            pub along_again : (k ≡ 0 → ⊥) → Fits w32 (word h (k + 2)) → Along p h root j n (word h (k + 1)) (word h (k + 2)) (i + 1)
            along_again ne small = record { inside = omega arith; number = small; rest = rw (ne_eqb k 0 ne) at slot_turn }

-- ---- quick

module _ (p h : List ℕ) (x : ℕ) where
  pub quick_program : (length p ≡ 16384 → ⊥) → 6 ≡ quick_number p h x
  unfolding quick_number
  quick_program ne = rw (ne_eqb (length p) 16384 ne)

  module _ (ep : length p ≡ 16384) where
    pub quick_heap : (length h ≡ 16384 → ⊥) → 6 ≡ quick_number p h x
    unfolding quick_number
    quick_heap ne = rw (eq-eqb (length p) 16384 ep, ne_eqb (length h) 16384 ne)

    module _ (eh : length h ≡ 16384) where
      pub quick_past : 1024 ≤ x → 6 ≡ quick_number p h x
      unfolding quick_number
      quick_past le = rw (eq-eqb (length p) 16384 ep, eq-eqb (length h) 16384 eh, le-ltb x 1024 le)

      -- by the words of the entry; w is x
      module _ (lt : x < 1024) (w : ℕ) (ew : w ≡ x) where
        kind : ℕ
        kind = word p (7104 + 5 * w)

        a : ℕ
        a = word p (7104 + 5 * w + 1)

        b : ℕ
        b = word p (7104 + 5 * w + 2)

        entry : entry_number p h kind a b ≡ quick_number p h x
        unfolding kind a b quick_number expression_kind expression_a expression_b
        entry =
            let ea : 7104 + 5 * w + 1 ≡ 7105 + 5 * x = omega arith in
            let eb : 7104 + 5 * w + 2 ≡ 7106 + 5 * x = omega arith in
            rw (ea, eb, ew, eq-eqb (length p) 16384 ep, eq-eqb (length h) 16384 eh, lt-ltb x 1024 lt)

        pub quick_literal : word p (7104 + 5 * w) < 2 → word p (7104 + 5 * w + 1) * 8 + word p (7104 + 5 * w) ≡ quick_number p h x
        unfolding kind a b entry_number
        quick_literal small = rw (lt-ltb kind 2 small) at entry

        module _ (ge : 2 ≤ word p (7104 + 5 * w)) where
          module _ (low : word p (7104 + 5 * w) < 4) (j n : ℕ) (ej : j ≡ word p (7104 + 5 * w + 1)) (en : n ≡ word p (7104 + 5 * w + 2)) where
            pub quick_outside : 2048 < j + n → 6 ≡ quick_number p h x
            unfolding kind a b entry_number
            quick_outside far = rw (le-ltb kind 2 ge, lt-ltb kind 4 low, ← ej, ← en, lt-leb (j + n) 2048 far) at entry

            pub quick_path : j + n ≤ 2048 → (m r : ℕ) → m ≡ word p (7104 + 5 * w) → r ≡ path_number p h (2 * m - 4) (2496 + j - 2496) n → r ≡ quick_number p h x
            unfolding kind a b entry_number
            quick_path near m r em er =
                let q : 2496 + j - 2496 ≡ j = omega arith in
                rw (em, q) at er ∙ (rw (le-ltb kind 2 ge, lt-ltb kind 4 low, ← ej, ← en, le-leb (j + n) 2048 near) at entry)

          module _ (high : 4 ≤ word p (7104 + 5 * w)) where
            pub quick_code : word p (7104 + 5 * w) ≡ 4 → word p (7104 + 5 * w + 1) * 8 + 3 ≡ quick_number p h x
            unfolding kind a b entry_number
            quick_code e = rw (le-ltb kind 2 ge, le-ltb kind 4 high, eq-eqb kind 4 e) at entry

            pub quick_other : (word p (7104 + 5 * w) ≡ 4 → ⊥) → 0 ≡ quick_number p h x
            unfolding kind a b entry_number
            quick_other ne = rw (le-ltb kind 2 ge, le-ltb kind 4 high, ne_eqb kind 4 ne) at entry

-- ---- What the numbers stand for, where they are not 6

not_six : (P : ℕ → Type 0) (b : Bool) (v : ℕ) → ((v ≡ 6 → ⊥) → P v) → (pick b v 6 ≡ 6 → ⊥) → P (pick b v 6)
not_six P true v q ne = q ne
not_six P false v q ne = absurd (ne refl)

-- one name: from the slot's value on it is r, which stands for what is left to fetch
module _ (h : List ℕ) (x tag f r : ℕ) (left : Value → Optional Value) where
  abbrev slot : ℕ
  slot = place_in h f x

  abbrev Means : ℕ → Type 0
  Means v = fetched (unpacked v) ≡ ◌>>=◌ (get (frames_held h) (value_of tag f) x) left

  means_none : fetched None ≡ get (frames_held h) (value_of tag f) x → Means 5
  unfolding unpacked ◌>>=◌
  means_none e = rw (← e)

  means_some : (v : Value) → fetched (Some v) ≡ get (frames_held h) (value_of tag f) x → fetched (unpacked r) ≡ left v → Means r
  unfolding ◌>>=◌
  means_some v e q = rw (← e) q

  means_slot : 4 ≤ tag → f < 256 → frame_used h f ≡ true → ((r ≡ 6 → ⊥) → fetched (unpacked r) ≡ left (value_of (word h (slot + 1)) (word h (slot + 2))))
      → (pick (eqb slot 0) 5 r ≡ 6 → ⊥) → Means (pick (eqb slot 0) 5 r)
  unfolding place_in place_of slot_value_at slot_tag_at slot_number_at
  means_slot le lf u q = go (slot_from (slots_held h f) x 0) refl
    where
      go : (s : Option ℕ) → s ≡ slot_from (slots_held h f) x 0 → (pick (eqb slot 0) 5 r ≡ 6 → ⊥) → Means (pick (eqb slot 0) 5 r)
      go None e ne =
          let z : slot ≡ 0 = ap (place_of (131 + 51 * f)) (sym e) in
          rw (eq-eqb slot 0 z) (means_none (get_missing h x (value_of tag f) f (high_frame tag f le) lf (frame_used h f) refl (ap not u) None e refl))
      go (Some m) e ne =
          let z : slot ≡ 131 + 51 * f + 3 * m = ap (place_of (131 + 51 * f)) (sym e) in
          let t : slot + 1 ≡ 132 + 51 * f + 3 * m = omega arith in
          let o : slot + 2 ≡ 133 + 51 * f + 3 * m = omega arith in
          let v : value_of (word h (slot + 1)) (word h (slot + 2)) ≡ slot_value_at h f m = rw (t, o) in
          let b = ne_eqb slot 0 (λ y. omega arith) in
          rw b
          (means_some _ (get_found h x (value_of tag f) f (high_frame tag f le) lf (frame_used h f) refl (ap not u) (Some m) e m _ refl v)
          (q (rw b at ne)))

  means_name : ((r ≡ 6 → ⊥) → fetched (unpacked r) ≡ left (value_of (word h (slot + 1)) (word h (slot + 2))))
      → (pick (ltb tag 4) 5 (pick (leb 256 f) 5 (pick (frame_used h f) (pick (leb (slot_count_at h f) 16) (pick (eqb slot 0) 5 r) 6) 5)) ≡ 6 → ⊥)
      → Means (pick (ltb tag 4) 5 (pick (leb 256 f) 5 (pick (frame_used h f) (pick (leb (slot_count_at h f) 16) (pick (eqb slot 0) 5 r) 6) 5)))
  means_name q = go (dec_lt tag 4) (dec_le 256 f) (frame_used h f) refl
    where
      go : Dec (tag < 4) → Dec (256 ≤ f) → (b : Bool) → frame_used h f ≡ b
          → (pick (ltb tag 4) 5 (pick (leb 256 f) 5 (pick b (pick (leb (slot_count_at h f) 16) (pick (eqb slot 0) 5 r) 6) 5)) ≡ 6 → ⊥)
          → Means (pick (ltb tag 4) 5 (pick (leb 256 f) 5 (pick b (pick (leb (slot_count_at h f) 16) (pick (eqb slot 0) 5 r) 6) 5)))
      go (yes low) d b u ne = rw (lt-ltb tag 4 low) (means_none (low_none h tag f x low))
      go (no high) (yes far) b u ne =
          rw (le-ltb tag 4 (omega arith), le-leb 256 f far) (means_none (get_past h x (value_of tag f) f (high_frame tag f (omega arith)) far))
      go (no high) (no near) false u ne =
          rw (le-ltb tag 4 (omega arith), lt-leb 256 f (omega arith))
          (means_none (get_free h x (value_of tag f) f (high_frame tag f (omega arith)) (omega arith) (frame_used h f) refl (ap not u)))
      go (no high) (no near) true u ne =
          let l = le-ltb tag 4 (omega arith) in
          let m = lt-leb 256 f (omega arith) in
          rw (l, m)
          (not_six Means (leb (slot_count_at h f) 16) (pick (eqb slot 0) 5 r) (means_slot (omega arith) (omega arith) u q) (rw (l, m) at ne))

walk_means : (h : List ℕ) → ((k : ℕ) → Fits w32 (word h k)) → (xs : List ℕ) (tag f : ℕ) → Fits w32 f → (walk_number h tag f xs ≡ 6 → ⊥)
    → fetched (unpacked (walk_number h tag f xs)) ≡ fetch (frames_held h) (value_of tag f) xs
unfolding walk_number fetch
walk_means h fits [] tag f lt ne = go (dec_le tag 4) ne
  where
    go : Dec (tag ≤ 4) → (pick (leb tag 4) (f * 8 + tag) 6 ≡ 6 → ⊥) → fetched (unpacked (pick (leb tag 4) (f * 8 + tag) 6)) ≡ some (value_of tag f)
    go (yes le) ne = rw (le-leb tag 4 le, number_value tag f le lt)
    go (no gt) ne = absurd (ne (rw (lt-leb tag 4 (omega arith))))
walk_means h fits (x ∷ xs) tag f lt ne =
    means_name h x tag f _ (λ v. fetch (frames_held h) v xs) (walk_means h fits xs _ _ (fits _)) ne

-- by the kind, a and b of the entry
module _ (p h : List ℕ) (x : ℕ) (fits : (k : ℕ) → Fits w32 (word h k)) where
  abbrev Says : ℕ → Type 0
  Says v = defined (fetched (unpacked v)) ≡ operand_value p h x

  module _ (a b : ℕ) (small : Fits w32 a) where
    value_is : (k : ℕ) → k ≤ 4 → defined (fetched (Some (value_of k a))) ≡ operand_value p h x → Says (a * 8 + k)
    value_is k le e = rw (number_value k a le small) e

    path_means : (root : ℕ) → (path_number p h root a b ≡ 6 → ⊥)
        → fetched (unpacked (path_number p h root a b)) ≡ fetch (frames_held h) (value_of (word h root) (word h (root + 1))) (path_held p a b)
    unfolding path_number
    path_means root = walk_means h fits (path_held p a b) (word h root) (word h (root + 1)) (fits (root + 1))

    -- an entry that is no base
    none_means : (k : ℕ) → 5 ≤ k → expression_of k a b ≡ expression_at p x → Says 0
    unfolding expression_of value_of unpacked int_of
    none_means k le e = go (ℕ_discrete k 5) (ℕ_discrete k 6) (dec_lt k 16)
      where
        past_not : 7 ≤ k → pick (ltb k 16) (ExpressionEntry.Operate k a b) ExpressionEntry.Bad ≡ expression_at p x
        past_not l =
            rw (
              ne_eqb k 0 (λ z. omega arith),
              ne_eqb k 1 (λ z. omega arith),
              ne_eqb k 2 (λ z. omega arith),
              ne_eqb k 3 (λ z. omega arith),
              ne_eqb k 4 (λ z. omega arith),
              ne_eqb k 5 (λ z. omega arith),
              ne_eqb k 6 (λ z. omega arith),
            ) at e

        go : Dec (k ≡ 5) → Dec (k ≡ 6) → Dec (k < 16) → Says 0
        go (yes i) f l = operand_frame p h x (ExpressionEntry.Frame a) (rw i at e) a refl
        go (no d) (yes i) l = operand_not p h x (ExpressionEntry.Not a) (rw i at e) a refl
        go (no d) (no f) (yes l) =
            operand_operate p h x (ExpressionEntry.Operate k a b) (rw (lt-ltb k 16 l) at (past_not (omega arith))) k a b refl
        go (no d) (no f) (no l) = operand_bad p h x ExpressionEntry.Bad (rw (le-ltb k 16 (omega arith)) at (past_not (omega arith))) refl

    entry_means : (k : ℕ) → expression_of k a b ≡ expression_at p x → (entry_number p h k a b ≡ 6 → ⊥) → Says (entry_number p h k a b)
    unfolding entry_number expression_of value_of defined self_held program_held
    entry_means zero e ne = value_is 0 (omega arith) (sym (is_integer p h x (ExpressionEntry.Integer a) e a refl))
    entry_means (suc zero) e ne = value_is 1 (omega arith) (operand_literal p h x (ExpressionEntry.Literal a) e a refl)
    entry_means (suc (suc zero)) e ne =
        not_six Says (leb (a + b) 2048) (path_number p h 0 a b)
        (λ z. operand_self p h x (ExpressionEntry.FromSelf a b) e a b (unpacked (path_number p h 0 a b)) refl (path_means 0 z)) ne
    entry_means (suc (suc (suc zero))) e ne =
        not_six Says (leb (a + b) 2048) (path_number p h 2 a b)
        (λ z. operand_program p h x (ExpressionEntry.FromProgram a b) e a b (unpacked (path_number p h 2 a b)) refl (path_means 2 z)) ne
    entry_means (suc (suc (suc (suc zero)))) e ne = value_is 3 (omega arith) (operand_code p h x (ExpressionEntry.Code a) e a refl)
    entry_means (suc (suc (suc (suc (suc k))))) e ne =
        let m = suc (suc (suc (suc (suc k)))) in
        rw (le-ltb m 2 (omega arith), le-ltb m 4 (omega arith), ne_eqb m 4 (λ z. omega arith)) (none_means m (omega arith) e)

  module _ (program_fits : (k : ℕ) → Fits w32 (word p k)) where
    quick_means : (quick_number p h x ≡ 6 → ⊥) → Says (quick_number p h x)
    unfolding quick_number expression_at expression_a
    quick_means =
        let t = entry_means (expression_a p x) (expression_b p x) (program_fits _) (expression_kind p x) refl in
        let u = not_six Says (ltb x 1024) _ t in
        let v = not_six Says (eqb (length h) 16384) _ u in
        not_six Says (eqb (length p) 16384) _ v

    pub quick_says : (r : ℕ) → r ≡ quick_number p h x → (r ≡ 6 → ⊥) → Says r
    quick_says r e ne = rw e (quick_means (rw e at ne))

-- ---- operand_number, operand

module _ (p h : List ℕ) (x : ℕ) where
  pub number_tested : (s : ℕ) (r : Option Value) → unpacked s ≡ r → defined (fetched r) ≡ operand_value p h x → defined (fetched (unpacked s)) ≡ operand_value p h x
  number_tested s r e er = rw e er

  module _ (s : ℕ) (es : defined (fetched (unpacked s)) ≡ operand_value p h x) where
    pub number_none : s ≡ 5 → defined (fetched None) ≡ operand_value p h x
    unfolding unpacked
    number_none e = rw (eq-eqb s 5 e) at es

    pub number_some : (s ≡ 5 → ⊥) → (v : Value) → v ≡ value_of (s % 8) (s / 8 % 4294967296) → defined (fetched (Some v)) ≡ operand_value p h x
    unfolding unpacked
    number_some ne v ev = rw ev (rw (ne_eqb s 5 ne) at es)
