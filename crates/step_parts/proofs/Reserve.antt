-- Reserve for an instruction: f and t counted up to 257 say the same, and what makes nothing has room. Assumes nothing.
use Prim.Native.Nat.{ℕ, ◌+◌, ◌/◌, ◌%◌, ◌≤◌, ◌<◌}
use mathlib.Core.Path.{◌≡◌, ◌∙◌, sym}
use mathlib.Core.List.{List}
use native.Mathlib.Omega.{arith}
use native.Mathlib.Decide.{dec_lt}
use lib.ListN.{length}
use borrow.Author.Tests.{le-ltb}
use Rattle.std.specs.Prelude.{Ok}
use Rattle.framed.specs.Answers.{end_met}
use Rattle.tables.specs.Fields.{frame_limit, text_limit}
use Rattle.heap.specs.Held.{frames_in_use, texts_in_use}
use Rattle.needs.specs.Needs.{cap, both}
use Rattle.needs.proofs.Cap.{cap_small, cap_large, cap_compares, both_frames, both_texts, both_none}
use Rattle.allocation.specs.declared.Known.{Known}
use Rattle.allocation.specs.Known.{Knows}
use Rattle.reserving.specs.declared.Reserved.{Reserved}
use Rattle.reserving.specs.Reserving.{room_end_held, reserved_words, Reserves, Reckons}
use Rattle.commit.proofs.Ready.{reserved_room}
use Rattle.step_parts.specs.Step.{frames_for, texts_for, CanReserve}

-- where there is room nothing was cut off
cap_exact : (n m : ℕ) → m ≡ cap n → m ≤ 256 → m ≡ n
cap_exact n m e le = go (dec_lt n 257)
  where
    go : Dec (n < 257) → m ≡ n
    go (yes lt) = e ∙ cap_small n lt
    go (no ge) = absurd (omega (arith, e, cap_large n (omega arith)))

module _ (p : List ℕ) (f n : ℕ) (F_most : frame_limit p ≤ 256) (T_most : text_limit p ≤ 256) where
  capped_end : (h : List ℕ) → room_end_held p h (cap f) (cap n) ≡ room_end_held p h f n
  unfolding room_end_held
  capped_end h = rw (cap_compares (frame_limit p) (length (frames_in_use h)) f F_most, cap_compares (text_limit p) (length (texts_in_use h)) n T_most)

  capped_words : (h : List ℕ) → reserved_words p h (cap f) (cap n) ≡ reserved_words p h f n
  unfolding reserved_words
  capped_words h = rw (capped_end h)

module _ (p h : List ℕ) (few : length (frames_in_use h) ≤ frame_limit p) (few_texts : length (texts_in_use h) ≤ text_limit p) where
  no_need : room_end_held p h 0 0 ≡ 0
  unfolding room_end_held
  no_need = rw (le-ltb (frame_limit p) (length (frames_in_use h) + 0) (omega arith), le-ltb (text_limit p) (length (texts_in_use h) + 0) (omega arith))

  pub nothing_reserved : Reserves p h 0 0 0 h
  unfolding reserved_words
  nothing_reserved = record { words = rw no_need; end = sym no_need }

module _ (p h : List ℕ) (i : ℕ) (can : CanReserve p h i) (f n : ℕ) (ef : f ≡ cap (frames_for p i)) (en : n ≡ cap (texts_for p i)) where
  counted : (r : ℕ) (h' : List ℕ) → Reserves p h f n r h' → Reserves p h (frames_for p i) (texts_for p i) r h'
  counted r h' k =
      let F = can.at.program.entries.limits.F_most in
      let T = can.at.program.entries.limits.T_most in
      record {
        words = rw (ef, en) at k.words ∙ capped_words p (frames_for p i) (texts_for p i) F T h;
        end = rw (ef, en) at k.end ∙ capped_end p (frames_for p i) (texts_for p i) F T h';
      }

  counts : (r : Reserved) (h' : List ℕ) → Reserves p h f n (end_met r.end) h' → Reckons h' f n r → Reckons h' (frames_for p i) (texts_for p i) r
  counts r h' k q = record { now = q.now; then = λ z. rest z (q.then z) }
    where
      rest : end_met r.end ≡ 0 → Knows h' f n r.known → Knows h' (frames_for p i) (texts_for p i) r.known
      rest z a =
          let room = reserved_room p can.at.literal_bytes h f n h' can.at.program (rw z at k) in
          rw (← cap_exact (frames_for p i) f ef (omega (arith, room.frames)), ← cap_exact (texts_for p i) n en (omega (arith, room.texts))) a

-- f and t as the one number m that was counted
module _ (p h : List ℕ) (i : ℕ) (can : CanReserve p h i) (m : ℕ) (em : m ≡ both (frames_for p i) (texts_for p i)) where
  module _ (f n : ℕ) (ef : f ≡ m % 512) (en : n ≡ m / 512) where
    pub reserve_counted : (r : ℕ) (h' : List ℕ) → Reserves p h f n r h' → Reserves p h (frames_for p i) (texts_for p i) r h'
    reserve_counted = counted p h i can f n (both_frames (frames_for p i) (texts_for p i) m em f ef) (both_texts (frames_for p i) (texts_for p i) m em n en)

    pub reckons_counted : (r : Reserved) (h' : List ℕ) → Reserves p h f n (end_met r.end) h' → Reckons h' f n r → Reckons h' (frames_for p i) (texts_for p i) r
    reckons_counted = counts p h i can f n (both_frames (frames_for p i) (texts_for p i) m em f ef) (both_texts (frames_for p i) (texts_for p i) m em n en)

  module _ (z : m ≡ 0) where
    nothing : (frames_for p i ≡ 0) × (texts_for p i ≡ 0)
    nothing = both_none (frames_for p i) (texts_for p i) (sym z ∙ em)

    pub reserve_nothing : Reserves p h (frames_for p i) (texts_for p i) 0 h
    reserve_nothing = rw (nothing.0, nothing.1) (nothing_reserved p h can.frames_few can.texts_few)

    pub reckons_nothing : (k : Known) → Knows h 0 0 k → Reckons h (frames_for p i) (texts_for p i) (record { end = Ok tt; known = k })
    reckons_nothing k a = rw (nothing.0, nothing.1) (record { now = a; then = λ e. a })
