-- What each way through add, seek and reserve gives. Assumes nothing.
use Prim.Native.Nat.{ℕ, zero, suc, ◌+◌, ◌-◌, ◌≤◌, ◌<◌}
use mathlib.Core.Path.{◌≡◌, refl, ◌∙◌, ap, sym}
use mathlib.Core.List.{List}
use mathlib.Core.Bool.{Bool, true, false}
use native.Mathlib.Omega.{arith}
use native.Mathlib.Decide.{dec_lt}
use lib.Dec.{eqb, ltb}
use lib.ListN.{length}
use borrow.Author.Tests.{lt-ltb, le-ltb, eq-eqb, ne_eqb}
use Rattle.std.specs.Prelude.{Result, Ok, Err, is_ok}
use Rattle.framed.specs.declared.End.{End}
use Rattle.framed.specs.Answers.{end_number, end_met}
use Rattle.words.specs.Words.{pick}
use Rattle.framed.specs.declared.Totals.{Totals}
use Rattle.tables.specs.Fields.{frame_limit, text_limit}
use Rattle.heap.specs.Words.{frame_used}
use Rattle.heap.specs.Lists.{passing}
use Rattle.heap.specs.Held.{frames_in_use, texts_in_use}
use Rattle.heap.proofs.Lists.{passing_yes, passing_no}
use Rattle.reserving.proofs.Tally.{Tally, frames_counted}
use Rattle.allocation.specs.declared.Known.{Known}
use Rattle.allocation.specs.Allocation.{next_frame, next_text}
use Rattle.allocation.specs.Known.{FullBelow, TextsFull, Full, Knows}
use Rattle.allocation.proofs.Laws.{none_full, next_full, next_text_full}
use Rattle.collector.specs.Collect.{Collection, collection, in_use_totals, collect_heap}
use Rattle.reserving.specs.declared.Reserved.{Reserved}
use Rattle.reserving.specs.Reserving.{room_end_held, reserved_words, Reserves, added, lowest_frame_for, lowest_text_for, sought, CountedTo, TextsCounted, Reckons}

-- ---- An end, and none

no_end : {A : Type 0} (r : Result A End) → is_ok r ≡ true → end_met r ≡ 0
no_end (Ok a) e = refl
no_end (Err x) e = absurd (let z : ◌≡◌ {A = ℕ} 0 1 = cc in omega arith)

pub end_some : (e : End) → end_number e ≡ 0 → ⊥
end_some End.NoRule z = omega arith
end_some End.DivisorZero z = omega arith
end_some End.IntegerRange z = omega arith
end_some End.TextLength z = omega arith
end_some End.SlotLimit z = omega arith
end_some End.FramesFull z = omega arith
end_some End.TextsFull z = omega arith

an_end : {A : Type 0} (r : Result A End) → is_ok r ≡ false → end_met r ≡ 0 → ⊥
an_end (Ok a) e = λ z. absurd (let z : ◌≡◌ {A = ℕ} 0 1 = cc in omega arith)
an_end (Err x) e = end_some x

-- ---- add

module _ (p : List ℕ) (f n : ℕ) (k : Known) (F₀ F a b : ℕ) (e₀ : F₀ ≡ frame_limit p) (eF : F ≡ F₀) (ea : a ≡ k.frames) (eb : b ≡ f) where
  pub add_no_frames : F < a + b → ◌≡◌ {A = Reserved} (record { end = Err End.FramesFull; known = k }) (added p f n k)
  unfolding added
  add_no_frames lt = rw (← e₀, ← eF, ← ea, ← eb, lt-ltb F (a + b) lt)

  module _ (le : a + b ≤ F) (T₀ T c d : ℕ) (u₀ : T₀ ≡ text_limit p) (eT : T ≡ T₀) (ec : c ≡ k.texts) (ed : d ≡ n) where
    pub add_no_texts : T < c + d → ◌≡◌ {A = Reserved} (record { end = Err End.TextsFull; known = k }) (added p f n k)
    unfolding added
    add_no_texts lt = rw (← e₀, ← eF, ← ea, ← eb, le-ltb F (a + b) le, ← u₀, ← eT, ← ec, ← ed, lt-ltb T (c + d) lt)

    pub add_both : c + d ≤ T → ◌≡◌ {A = Reserved} (record { end = Ok tt; known = record { frames = k.frames + f; texts = k.texts + n; low = k.low; least = k.least } }) (added p f n k)
    unfolding added
    add_both lt = rw (← e₀, ← eF, ← ea, ← eb, le-ltb F (a + b) le, ← u₀, ← eT, ← ec, ← ed, le-ltb T (c + d) lt)

-- ---- seek

module _ (h : List ℕ) (f low : ℕ) where
  pub frame_given : f ≡ 0 → low ≡ lowest_frame_for h f low
  unfolding lowest_frame_for
  frame_given e = rw (eq-eqb f 0 e)

  pub frame_lowest : (f ≡ 0 → ⊥) → (x : ℕ) → x ≡ next_frame h → x ≡ lowest_frame_for h f low
  unfolding lowest_frame_for
  frame_lowest ne x e = rw (ne_eqb f 0 ne) e

  pub text_given : f ≡ 0 → low ≡ lowest_text_for h f low
  unfolding lowest_text_for
  text_given e = rw (eq-eqb f 0 e)

  pub text_lowest : (f ≡ 0 → ⊥) → (x : ℕ) → x ≡ next_text h → x ≡ lowest_text_for h f low
  unfolding lowest_text_for
  text_lowest ne x e = rw (ne_eqb f 0 ne) e

pub seek_both : (h : List ℕ) (f n : ℕ) (r : Reserved) (low least : ℕ) → low ≡ lowest_frame_for h f r.known.low → least ≡ lowest_text_for h n r.known.least
    → ◌≡◌ {A = Reserved} (record { end = r.end; known = record { frames = r.known.frames; texts = r.known.texts; low = low; least = least } }) (sought h f n r)
unfolding sought
seek_both h f n r low least e d = rw (e, d)

-- all below what was sought are in use, and nothing else that is known differs
module _ (h : List ℕ) (f n : ℕ) where
  frames_full : (low : ℕ) → FullBelow h low → FullBelow h (lowest_frame_for h f low)
  unfolding lowest_frame_for
  frames_full low a = go (eqb f 0)
    where
      go : (b : Bool) → FullBelow h (pick b low (next_frame h))
      go true = a
      go false = next_full h

  texts_full : (low : ℕ) → TextsFull h low → TextsFull h (lowest_text_for h n low)
  unfolding lowest_text_for
  texts_full low a = go (eqb n 0)
    where
      go : (b : Bool) → TextsFull h (pick b low (next_text h))
      go true = a
      go false = next_text_full h

  sought_knows : (r : Reserved) (i k : ℕ) → Knows h i k r.known → Knows h i k (sought h f n r).known
  unfolding sought
  sought_knows r i k a = record {
    frames = a.frames;
    texts = a.texts;
    full = record { frames = frames_full r.known.low a.full.frames; texts = texts_full r.known.least a.full.texts };
  }

-- ---- count_frames

-- what passes below i passes below more
counts_grow : (t : ℕ → Bool) (i d : ℕ) → length (passing t i) ≤ length (passing t (d + i))
counts_grow t i zero = let e : 0 + i ≡ i = omega arith in rw e (omega arith)
counts_grow t i (suc d) = let e : suc d + i ≡ suc (d + i) = omega arith in rw e (go (t (d + i)) refl (counts_grow t i d))
  where
    go : (b : Bool) → t (d + i) ≡ b → length (passing t i) ≤ length (passing t (d + i)) → length (passing t i) ≤ length (passing t (suc (d + i)))
    go true e le = let q = passing_yes t (d + i) e in omega arith
    go false e le = let q = passing_no t (d + i) e in omega arith

module _ (h : List ℕ) (limit f i n : ℕ) (a : Tally (frame_used h) i n) where
  pub count_all : 256 ≤ i → CountedTo h limit f n
  count_all le = let e = frames_counted h i n a le in record { some = omega arith; all = λ q. e }

  pub count_stop : f ≤ limit → (most : ℕ) → most ≡ limit - f → most < n → CountedTo h limit f n
  unfolding frames_in_use
  count_stop le most e lt =
      let s = a.inside in
      let q : (256 - i) + i ≡ 256 = omega arith in
      let g = rw q at (counts_grow (frame_used h) i (256 - i)) in
      record { some = omega (arith, a.so_far); all = λ z. absurd (omega arith) }

pub count_none : (h : List ℕ) (limit f : ℕ) → limit < f → CountedTo h limit f 0
count_none h limit f lt = record { some = omega arith; all = λ z. absurd (omega arith) }

-- ---- reserve

module _ (p h : List ℕ) (f n : ℕ) (k : Known) (known : Knows h 0 0 k) where
  by_room : (P : Reserved → Type 0) → P (record { end = Err End.FramesFull; known = k }) → P (record { end = Err End.TextsFull; known = k }) →
      (k.frames + f ≤ frame_limit p → k.texts + n ≤ text_limit p → P (record { end = Ok tt; known = record { frames = k.frames + f; texts = k.texts + n; low = k.low; least = k.least } })) → P (added p f n k)
  unfolding added
  by_room P x y z = go (dec_lt (frame_limit p) (k.frames + f)) (dec_lt (text_limit p) (k.texts + n))
    where
      go : Dec (frame_limit p < k.frames + f) → Dec (text_limit p < k.texts + n) → P (added p f n k)
      go (yes a) b = rw (lt-ltb (frame_limit p) (k.frames + f) a) x
      go (no a) (yes b) = rw (le-ltb (frame_limit p) (k.frames + f) (omega arith), lt-ltb (text_limit p) (k.texts + n) b) y
      go (no a) (no b) = rw (le-ltb (frame_limit p) (k.frames + f) (omega arith), le-ltb (text_limit p) (k.texts + n) (omega arith)) (z (omega arith) (omega arith))

  -- what is known once f and n are counted in
  reckoned : Reckons h f n (added p f n k)
  reckoned =
      by_room (Reckons h f n) (record { now = known; then = λ e. absurd (omega arith) }) (record { now = known; then = λ e. absurd (omega arith) })
      (λ a b. record {
        now = record { frames = omega (arith, known.frames); texts = omega (arith, known.texts); full = known.full };
        then = λ e. record { frames = omega (arith, known.frames); texts = omega (arith, known.texts); full = known.full };
      })

  -- room by what is known is room
  roomy : end_met (added p f n k).end ≡ 0 → room_end_held p h f n ≡ 0
  unfolding room_end_held
  roomy =
      by_room (λ r. end_met r.end ≡ 0 → room_end_held p h f n ≡ 0) (λ e. absurd (omega arith)) (λ e. absurd (omega arith))
      (λ a b e. rw (
        le-ltb (frame_limit p) (length (frames_in_use h) + f) (omega (arith, known.frames)),
        le-ltb (text_limit p) (length (texts_in_use h) + n) (omega (arith, known.texts)),
      ))

  module _ (a : Reserved) (ea : a ≡ added p f n k) where
    pub reserve_full : Full h a.known.low a.known.least
    reserve_full = rw ea reckoned.now.full

    module _ (r : Reserved) (s : r ≡ sought h f n a) where
      pub reserve_reckons : Reckons h f n r
      unfolding sought
      reserve_reckons =
          let q : Reckons h f n a = rw ea reckoned in
          rw s (record { now = sought_knows h f n a 0 0 q.now; then = λ e. sought_knows h f n a f n (q.then e) })

      pub reserve_room : is_ok a.end ≡ true → Reserves p h f n (end_met r.end) h
      unfolding reserved_words sought
      reserve_room ok =
          let z = no_end a.end ok in
          let q = roomy (rw ea at z) in
          record { words = rw (eq-eqb (room_end_held p h f n) 0 q); end = rw s (z ∙ sym q) }

-- where all are counted
module _ (p h : List ℕ) (f n low least : ℕ) (full : Full h low least) (x y : ℕ) (ex : x ≡ length (frames_in_use h)) (ey : y ≡ length (texts_in_use h)) where
  abbrev counted : Known
  counted = record { frames = x; texts = y; low = low; least = least }

  count_knows : Knows h 0 0 counted
  count_knows = record { frames = omega arith; texts = omega arith; full = full }

  count_end : end_met (added p f n counted).end ≡ room_end_held p h f n
  unfolding added room_end_held
  count_end = rw (← ex, ← ey) (go (ltb (frame_limit p) (x + f)) (ltb (text_limit p) (y + n)))
    where
      go : (s t : Bool) →
          end_met (pick {A = Reserved} s (record { end = Err End.FramesFull; known = counted })
          (pick t (record { end = Err End.TextsFull; known = counted }) (record { end = Ok tt; known = record { frames = x + f; texts = y + n; low = low; least = least } }))).end
          ≡ pick s 36 (pick t 37 0)
      go true t = refl
      go false true = refl
      go false false = refl

module _ (p h : List ℕ) (f n : ℕ) (k : Known) (known : Knows h 0 0 k) (F : ℕ) (eF : F ≡ frame_limit p) (x y : ℕ) (cx : CountedTo h F f x) (cy : TextsCounted h F f x y)
    (b : Reserved) (eb : b ≡ added p f n (record { frames = x; texts = y; low = k.low; least = k.least })) where
  -- where there seems to be room, all were counted; where frames lack, they do
  fits : is_ok b.end ≡ true → x + f ≤ F
  unfolding added
  fits z = go (dec_lt (frame_limit p) (x + f))
    where
      go : Dec (frame_limit p < x + f) → x + f ≤ F
      go (yes lt) = absurd (let q : ◌≡◌ {A = ℕ} 36 0 = rw (eb, lt-ltb (frame_limit p) (x + f) lt) at (no_end b.end z) in omega arith)
      go (no ge) = omega arith

  full_then : is_ok b.end ≡ false → room_end_held p h f n ≡ 0 → ⊥
  unfolding room_end_held
  full_then nz e = go (dec_lt (frame_limit p) (x + f))
    where
      go : Dec (frame_limit p < x + f) → ⊥
      go (yes lt) = let q : ◌≡◌ {A = ℕ} 36 0 = rw (lt-ltb (frame_limit p) (length (frames_in_use h) + f) (omega (arith, cx.some))) at e in omega arith
      go (no ge) = an_end b.end nz (rw eb (count_end p h f n k.low k.least known.full x y (cx.all (omega arith)) (cy.all (omega arith))) ∙ e)

  module _ (z : is_ok b.end ≡ true) where
    abbrev knows_now : Knows h 0 0 (counted p h f n k.low k.least known.full x y (cx.all (fits z)) (cy.all (fits z)))
    knows_now = count_knows p h f n k.low k.least known.full x y (cx.all (fits z)) (cy.all (fits z))

    pub count_full : Full h b.known.low b.known.least
    count_full = reserve_full p h f n _ knows_now b eb

    module _ (r : Reserved) (s : r ≡ sought h f n b) where
      pub count_room : Reserves p h f n (end_met r.end) h
      count_room = reserve_room p h f n _ knows_now b eb r s z

      pub count_reckons : Reckons h f n r
      count_reckons = reserve_reckons p h f n _ knows_now b eb r s

  -- and after a collection
  module _ (nz : is_ok b.end ≡ false) (m : Totals) (h' : List ℕ) (ec : collect_heap h ≡ collection m h')
      (d : Reserved) (ed : d ≡ added p f n (record { frames = m.frames; texts = m.texts; low = 0; least = 0 })) where
    words_are : (collect_heap h).words ≡ h'
    words_are = ap (λ (z : Collection). z.words) ec

    totals_are : m ≡ in_use_totals h'
    unfolding collect_heap
    totals_are = sym (ap (λ (z : Collection). z.totals) ec) ∙ ap in_use_totals words_are

    frames_are : m.frames ≡ length (frames_in_use h')
    unfolding in_use_totals
    frames_are = ap (λ (z : Totals). z.frames) totals_are

    texts_are : m.texts ≡ length (texts_in_use h')
    unfolding in_use_totals
    texts_are = ap (λ (z : Totals). z.texts) totals_are

    abbrev knows_then : Knows h' 0 0 (counted p h' f n 0 0 (none_full h') m.frames m.texts frames_are texts_are)
    knows_then = count_knows p h' f n 0 0 (none_full h') m.frames m.texts frames_are texts_are

    pub collect_full : Full h' d.known.low d.known.least
    collect_full = reserve_full p h' f n _ knows_then d ed

    module _ (r : Reserved) (s : r ≡ sought h' f n d) where
      pub collect_reserves : Reserves p h f n (end_met r.end) h'
      unfolding reserved_words sought
      collect_reserves = record {
        words = rw (ne_eqb (room_end_held p h f n) 0 (full_then nz)) (sym words_are);
        end = rw (s, ed) (count_end p h' f n 0 0 (none_full h') m.frames m.texts frames_are texts_are);
      }

      pub collect_reckons : Reckons h' f n r
      collect_reckons = reserve_reckons p h' f n _ knows_then d ed r s
