-- The tests decide what Form states, both ways; and what callers take from a well-formed state. Assumes nothing.
use Prim.Native.Nat.{ℕ, ◌-◌, ◌≤◌, ◌<◌}
use mathlib.Core.Path.{◌≡◌, refl, sym, ◌∙◌}
use mathlib.Core.Logic.{◌≢◌, ◌⊎◌, inl, inr, ⊎_elim}
use mathlib.Core.List.{List}
use mathlib.Core.Bool.{Bool, true, false, ◌&&◌, ◌||◌, true≢false}
use native.Mathlib.Omega.{arith}
use native.Mathlib.Decide.{ℕ_discrete}
use lib.ListN.{length}
use lib.Dec.{eqb, ltb, leb}
use borrow.Author.Tests.{ne_eqb}
use Rattle.words.specs.Words.{word}
use Rattle.framed.specs.declared.Text.{Text}
use Rattle.framed.specs.declared.Value.{Value}
use Rattle.framed.specs.Bytes.{string_byte}
use Rattle.heap.specs.Words.{value_of, tag_of, number_of, self_held, program_held, position, end_mark, frame_word, frame_used, slot_count_at, maker_at, slot_name_at, slot_tag_at, slot_number_at, slot_value_at, text_word, text_used, text_length, text_byte}
use Rattle.heap.specs.Held.{frames_in_use, texts_in_use}
use Rattle.heap.proofs.Laws.{value_case}
use Rattle.heap.specs.Closed.{Sized, FrameInUse, TextInUse, NamesInUse, Closed}
use Rattle.frame_form.specs.declared.Limits.{Limits}
use Rattle.state_form.specs.Form.{ValueFormed, SlotFormed, FrameFormed, TextFormed, StateWellFormed}
use Rattle.frame_form.specs.Tests.{frame_in_use, text_in_use, value_formed, name_apart, name_new, slot_formed, slots_formed, frame_formed, frames_formed}
use Rattle.text_form.specs.Tests.{text_byte_formed, text_bytes_formed, text_formed, texts_formed}
use Rattle.state_form.specs.Tests.{counts_formed, position_formed, end_formed, roots_formed, parts_formed, state_well_formed, Decides, StateDecides}
use Rattle.state_form.proofs.Decide.{Both, Every, decides_lt, decides_le, decides_eq, decides_ne, decides_itself, decides_and, decides_or, decides_as, decides_all}

-- ---- Values

pub frame_in_use_decides : (h : List ℕ) (f : ℕ) → Decides (frame_in_use h f) (FrameInUse h f)
unfolding frame_in_use
frame_in_use_decides h f =
    decides_as (decides_and (ltb f 256) (frame_used h f) (decides_lt f 256) (decides_itself (frame_used h f)))
    (λ d. record { small = d.first; used = d.second }) (λ u. record { first = u.small; second = u.used })

pub text_in_use_decides : (h : List ℕ) (k : ℕ) → Decides (text_in_use h k) (TextInUse h k)
unfolding text_in_use
text_in_use_decides h k =
    decides_as (decides_and (ltb k 256) (text_used h k) (decides_lt k 256) (decides_itself (text_used h k)))
    (λ d. record { small = d.first; used = d.second }) (λ u. record { first = u.small; second = u.used })

module _ (h : List ℕ) (l : Limits) (tag n : ℕ) where
  -- the five tags
  abbrev Cases : Type 0
  Cases = ((((tag ≡ 0) ⊎ Both (tag ≡ 1) (n < l.literals)) ⊎ Both (tag ≡ 2) (TextInUse h n)) ⊎ Both (tag ≡ 3) (n < l.codes)) ⊎ Both (tag ≡ 4) (FrameInUse h n)

  from_cases : Cases → ValueFormed h l tag n
  from_cases (inl (inl (inl (inl e)))) = record {
    formed = omega arith;
    literal = λ q. absurd (omega arith);
    made = λ q. absurd (omega arith);
    code = λ q. absurd (omega arith);
    frame = λ q. absurd (omega arith);
  }
  from_cases (inl (inl (inl (inr b)))) = let e = b.first in record {
    formed = omega arith;
    literal = λ q. b.second;
    made = λ q. absurd (omega arith);
    code = λ q. absurd (omega arith);
    frame = λ q. absurd (omega arith);
  }
  from_cases (inl (inl (inr b))) = let e = b.first in record {
    formed = omega arith;
    literal = λ q. absurd (omega arith);
    made = λ q. b.second;
    code = λ q. absurd (omega arith);
    frame = λ q. absurd (omega arith);
  }
  from_cases (inl (inr b)) = let e = b.first in record {
    formed = omega arith;
    literal = λ q. absurd (omega arith);
    made = λ q. absurd (omega arith);
    code = λ q. b.second;
    frame = λ q. absurd (omega arith);
  }
  from_cases (inr b) = let e = b.first in record {
    formed = omega arith;
    literal = λ q. absurd (omega arith);
    made = λ q. absurd (omega arith);
    code = λ q. absurd (omega arith);
    frame = λ q. b.second;
  }

  to_cases : ValueFormed h l tag n → Cases
  to_cases v = at0 (ℕ_discrete tag 0)
    where
      at4 : Dec (tag ≡ 4) → tag ≢ 0 → tag ≢ 1 → tag ≢ 2 → tag ≢ 3 → Cases
      at4 (yes q) a b c d = inr (record { first = q; second = v.frame q })
      at4 (no q) a b c d = absurd (let f = v.formed in omega arith)

      at3 : Dec (tag ≡ 3) → tag ≢ 0 → tag ≢ 1 → tag ≢ 2 → Cases
      at3 (yes q) a b c = inl (inr (record { first = q; second = v.code q }))
      at3 (no q) a b c = at4 (ℕ_discrete tag 4) a b c q

      at2 : Dec (tag ≡ 2) → tag ≢ 0 → tag ≢ 1 → Cases
      at2 (yes q) a b = inl (inl (inr (record { first = q; second = v.made q })))
      at2 (no q) a b = at3 (ℕ_discrete tag 3) a b q

      at1 : Dec (tag ≡ 1) → tag ≢ 0 → Cases
      at1 (yes q) a = inl (inl (inl (inr (record { first = q; second = v.literal q }))))
      at1 (no q) a = at2 (ℕ_discrete tag 2) a q

      at0 : Dec (tag ≡ 0) → Cases
      at0 (yes q) = inl (inl (inl (inl q)))
      at0 (no q) = at1 (ℕ_discrete tag 1) q

  pub value_decides : Decides (value_formed h l tag n) (ValueFormed h l tag n)
  unfolding value_formed
  value_decides =
      decides_as
      (decides_or (eqb tag 0 || (eqb tag 1 && ltb n l.literals) || (eqb tag 2 && text_in_use h n) || (eqb tag 3 && ltb n l.codes)) (eqb tag 4 && frame_in_use h n)
      (decides_or (eqb tag 0 || (eqb tag 1 && ltb n l.literals) || (eqb tag 2 && text_in_use h n)) (eqb tag 3 && ltb n l.codes)
      (decides_or (eqb tag 0 || (eqb tag 1 && ltb n l.literals)) (eqb tag 2 && text_in_use h n)
      (decides_or (eqb tag 0) (eqb tag 1 && ltb n l.literals) (decides_eq tag 0)
      (decides_and (eqb tag 1) (ltb n l.literals) (decides_eq tag 1) (decides_lt n l.literals)))
      (decides_and (eqb tag 2) (text_in_use h n) (decides_eq tag 2) (text_in_use_decides h n)))
      (decides_and (eqb tag 3) (ltb n l.codes) (decides_eq tag 3) (decides_lt n l.codes)))
      (decides_and (eqb tag 4) (frame_in_use h n) (decides_eq tag 4) (frame_in_use_decides h n)))
      from_cases to_cases

-- ---- Frames

module _ (h : List ℕ) (l : Limits) (f : ℕ) where
  slot_decides : (i : ℕ) → Decides (slot_formed h l f i) (SlotFormed h l f i)
  unfolding slot_formed name_new name_apart
  slot_decides i =
      decides_as
      (decides_and (ltb (slot_name_at h f i) l.names && value_formed h l (slot_tag_at h f i) (slot_number_at h f i)) (name_new h f i)
      (decides_and (ltb (slot_name_at h f i) l.names) (value_formed h l (slot_tag_at h f i) (slot_number_at h f i))
      (decides_lt (slot_name_at h f i) l.names) (value_decides h l (slot_tag_at h f i) (slot_number_at h f i)))
      (decides_all (name_apart h f i) (λ j. slot_name_at h f j ≢ slot_name_at h f i) i (λ j lt. decides_ne (slot_name_at h f j) (slot_name_at h f i))))
      (λ d. record { named = d.first.first; value = d.first.second; new = d.second.each })
      (λ s. record { first = record { first = s.named; second = s.value }; second = record { each = s.new } })

  -- a frame of the heap: not in use, or in use and well-formed
  record AnyFrame : Type 0 where
    flag : (frame_word h f ≡ 0) ⊎ (frame_word h f ≡ 1)
    form : frame_word h f ≡ 1 → FrameFormed h l f

  -- the same as the test has it
  abbrev Tested : Type 0
  Tested = (frame_word h f ≡ 0) ⊎ Both (slot_count_at h f ≤ 16) (Both (Both (frame_word h f ≡ 1) (maker_at h f ≤ l.instructions)) (Every (λ i. SlotFormed h l f i) (slot_count_at h f)))

  frame_decides : Decides (frame_formed h l f) AnyFrame
  unfolding frame_formed slots_formed
  frame_decides =
      decides_as
      (decides_or (eqb (frame_word h f) 0) (leb (slot_count_at h f) 16 && (eqb (frame_word h f) 1 && leb (maker_at h f) l.instructions && slots_formed h l f (slot_count_at h f)))
      (decides_eq (frame_word h f) 0)
      (decides_and (leb (slot_count_at h f) 16) (eqb (frame_word h f) 1 && leb (maker_at h f) l.instructions && slots_formed h l f (slot_count_at h f)) (decides_le (slot_count_at h f) 16)
      (decides_and (eqb (frame_word h f) 1 && leb (maker_at h f) l.instructions) (slots_formed h l f (slot_count_at h f))
      (decides_and (eqb (frame_word h f) 1) (leb (maker_at h f) l.instructions) (decides_eq (frame_word h f) 1) (decides_le (maker_at h f) l.instructions))
      (decides_all (slot_formed h l f) (λ i. SlotFormed h l f i) (slot_count_at h f) (λ i lt. slot_decides i)))))
      to from
    where
      to : Tested → AnyFrame
      to (inl e) = record { flag = inl e; form = λ q. absurd (omega arith) }
      to (inr d) = record { flag = inr d.second.first.first; form = λ q. record { few = d.first; maker = d.second.first.second; slot = d.second.second.each } }

      from : AnyFrame → Tested
      from a =
          ⊎_elim (λ e. inl e)
          (λ e. inr (record { first = (a.form e).few; second = record { first = record { first = e; second = (a.form e).maker }; second = record { each = (a.form e).slot } } })) a.flag

used_word : (h : List ℕ) (f : ℕ) → Decides (frame_used h f) (frame_word h f ≡ 1)
unfolding frame_used
used_word h f = decides_eq (frame_word h f) 1

-- ---- Made texts

text_decides : (h t : List ℕ) (k : ℕ) → Decides (text_formed h t k) (TextFormed h t k)
unfolding text_formed text_bytes_formed text_byte_formed
text_decides h t k =
    decides_as
    (decides_and (leb (text_length h k) 64) (text_bytes_formed t k (text_length h k)) (decides_le (text_length h k) 64)
    (decides_all (text_byte_formed t k) (λ i. string_byte (text_byte t k i) ≡ true) (text_length h k) (λ i lt. decides_itself (string_byte (text_byte t k i)))))
    (λ d. record { short = d.first; bytes = d.second.each })
    (λ f. record { first = f.short; second = record { each = f.bytes } })

-- a text that is not in use has no bytes
free_length : (h : List ℕ) (k : ℕ) → (text_used h k ≡ true → ⊥) → text_length h k ≡ 0
unfolding text_used text_length
free_length h k n = go (ℕ_discrete (text_word h k) 0)
  where
    go : Dec (text_word h k ≡ 0) → text_word h k - 1 ≡ 0
    go (yes e) = omega arith
    go (no e) = absurd (n (rw (ne_eqb _ _ e)))

any_text : (h t : List ℕ) (k : ℕ) → k < 256 → (TextInUse h k → TextFormed h t k) → TextFormed h t k
any_text h t k lt p = go (text_used h k) refl
  where
    go : (b : Bool) → text_used h k ≡ b → TextFormed h t k
    go true e = p (record { small = lt; used = e })
    go false e =
        let z : text_length h k ≡ 0 = free_length h k (λ q. true≢false (sym q ∙ e)) in
        record { short = omega arith; bytes = λ i il. absurd (omega arith) }

-- ---- The state

pub state_decides : StateDecides
unfolding state_well_formed parts_formed roots_formed frames_formed texts_formed counts_formed position_formed end_formed
state_decides h t l =
    decides_as
    (decides_and (eqb (length h) 16384) (eqb (length t) 16384 && parts_formed h t l) (decides_eq (length h) 16384)
    (decides_and (eqb (length t) 16384) (parts_formed h t l) (decides_eq (length t) 16384)
    (decides_and (roots_formed h l && frames_formed h l && texts_formed h t && counts_formed h l && position_formed h l) (end_formed h)
    (decides_and (roots_formed h l && frames_formed h l && texts_formed h t && counts_formed h l) (position_formed h l)
    (decides_and (roots_formed h l && frames_formed h l && texts_formed h t) (counts_formed h l)
    (decides_and (roots_formed h l && frames_formed h l) (texts_formed h t)
    (decides_and (roots_formed h l) (frames_formed h l)
    (decides_and (value_formed h l (word h 0) (word h 1)) (value_formed h l (word h 2) (word h 3)) (value_decides h l (word h 0) (word h 1)) (value_decides h l (word h 2) (word h 3)))
    (decides_all (frame_formed h l) (λ f. AnyFrame h l f) 256 (λ f lt. frame_decides h l f)))
    (decides_all (text_formed h t) (λ k. TextFormed h t k) 256 (λ k lt. text_decides h t k)))
    (decides_and (leb (length (frames_in_use h)) l.frames) (leb (length (texts_in_use h)) l.texts) (decides_le (length (frames_in_use h)) l.frames) (decides_le (length (texts_in_use h)) l.texts)))
    (decides_le (position h) l.instructions))
    (decides_or (eqb (end_mark h) 0) (leb 31 (end_mark h) && leb (end_mark h) 37) (decides_eq (end_mark h) 0)
    (decides_and (leb 31 (end_mark h)) (leb (end_mark h) 37) (decides_le 31 (end_mark h)) (decides_le (end_mark h) 37))))))
    (λ d.
    let p = d.second.second.first.first in
    let q = d.second.second in
    record {
      heap_size = d.first;
      text_size = d.second.first;
      self = p.first.first.first.first;
      program = p.first.first.first.second;
      flag = λ f lt. (p.first.first.second.each f lt).flag;
      frame = λ f u. (p.first.first.second.each f u.small).form ((used_word h f).if_true u.used);
      text = λ k u. p.first.second.each k u.small;
      frames_few = p.second.first;
      texts_few = p.second.second;
      position_there = q.first.second;
      end = ⊎_elim (λ e. inl e) (λ b. inr (b.first, b.second)) q.second;
    })
    (λ w. record {
      first = w.heap_size;
      second = record {
        first = w.text_size;
        second = record {
          first = record {
            first = record {
              first = record {
                first = record {
                  first = record { first = w.self; second = w.program };
                  second = record { each = λ f lt. record { flag = w.flag f lt; form = λ e. w.frame f (record { small = lt; used = (used_word h f).only_if e }) } };
                };
                second = record { each = λ k lt. any_text h t k lt (w.text k) };
              };
              second = record { first = w.frames_few; second = w.texts_few };
            };
            second = w.position_there;
          };
          second = ⊎_elim (λ e. inl e) (λ b. inr (record { first = b.0; second = b.1 })) w.end;
        };
      };
    })

-- ---- What callers take from it

-- the literal or code that a value names exists
pub record NamesThere (l : Limits) (v : Value) : Type 0 where
  pub literal : (k : ℕ) → v ≡ Value.Text (Text.Literal k) → k < l.literals
  pub code : (k : ℕ) → v ≡ Value.Code k → k < l.codes

apart : {A : Type 0} → ◌≡◌ {A = ℕ} 0 1 → A
apart e = absurd (omega arith)

module _ (h : List ℕ) (l : Limits) where
  -- a value read from a well-formed tag and number
  read_formed : (tag n : ℕ) → ValueFormed h l tag n → Both (NamesInUse h (value_of tag n)) (NamesThere l (value_of tag n))
  read_formed tag n v =
      value_case (λ x. Both (NamesInUse h x) (NamesThere l x)) tag n
      (λ e z f. record {
        first = record { frame = λ f q. apart (cc); made = λ k q. apart (cc) };
        second = record { literal = λ k q. apart (cc); code = λ k q. apart (cc) };
      })
      (λ e. record {
        first = record { frame = λ f q. apart (cc); made = λ k q. apart (cc) };
        second = record { literal = λ k q. let p : n ≡ k = cc in rw (← p) (v.literal e); code = λ k q. apart (cc) };
      })
      (λ e. record {
        first = record { frame = λ f q. apart (cc); made = λ k q. let p : n ≡ k = cc in rw (← p) (v.made e) };
        second = record { literal = λ k q. apart (cc); code = λ k q. apart (cc) };
      })
      (λ e. record {
        first = record { frame = λ f q. apart (cc); made = λ k q. apart (cc) };
        second = record { literal = λ k q. apart (cc); code = λ k q. let p : n ≡ k = cc in rw (← p) (v.code e) };
      })
      (λ e. record {
        first = record { frame = λ f q. let p : n ≡ f = cc in rw (← p) (v.frame (let m = v.formed in omega arith)); made = λ k q. apart (cc) };
        second = record { literal = λ k q. apart (cc); code = λ k q. apart (cc) };
      })

  -- and back: a value to be written
  pub write_formed : (v : Value) → NamesInUse h v → NamesThere l v → ValueFormed h l (tag_of v) (number_of v)
  write_formed (Value.Int z) u o =
      record { formed = omega arith; literal = λ q. absurd (omega arith); made = λ q. absurd (omega arith); code = λ q. absurd (omega arith); frame = λ q. absurd (omega arith) }
  write_formed (Value.Text (Text.Literal k)) u o =
      record { formed = omega arith; literal = λ q. o.literal k refl; made = λ q. absurd (omega arith); code = λ q. absurd (omega arith); frame = λ q. absurd (omega arith) }
  write_formed (Value.Text (Text.Made k)) u o =
      record { formed = omega arith; literal = λ q. absurd (omega arith); made = λ q. u.made k refl; code = λ q. absurd (omega arith); frame = λ q. absurd (omega arith) }
  write_formed (Value.Code k) u o =
      record { formed = omega arith; literal = λ q. absurd (omega arith); made = λ q. absurd (omega arith); code = λ q. o.code k refl; frame = λ q. absurd (omega arith) }
  write_formed (Value.Frame f) u o =
      record { formed = omega arith; literal = λ q. absurd (omega arith); made = λ q. absurd (omega arith); code = λ q. absurd (omega arith); frame = λ q. u.frame f refl }

module _ {h t : List ℕ} {l : Limits} (w : StateWellFormed h t l) where
  text_word_most : (k : ℕ) → k < 256 → text_word h k ≤ 65
  unfolding text_length
  text_word_most k lt = let m = (any_text h t k lt (w.text k)).short in omega arith

  pub well_formed_sized : Sized h
  well_formed_sized = record {
    size = w.heap_size;
    slots = λ f lt u. (w.frame f (record { small = lt; used = u })).few;
    texts = text_word_most;
  }

  pub well_formed_closed : Closed h
  unfolding self_held program_held slot_value_at
  well_formed_closed = record {
    sized = well_formed_sized;
    self = (read_formed h l (word h 0) (word h 1) w.self).first;
    program = (read_formed h l (word h 2) (word h 3) w.program).first;
    slot = λ f i u lt. (read_formed h l (slot_tag_at h f i) (slot_number_at h f i) ((w.frame f u).slot i lt).value).first;
  }

  pub self_there : NamesThere l (self_held h)
  unfolding self_held
  self_there = (read_formed h l (word h 0) (word h 1) w.self).second

  pub program_there : NamesThere l (program_held h)
  unfolding program_held
  program_there = (read_formed h l (word h 2) (word h 3) w.program).second

  pub slot_there : (f i : ℕ) → FrameInUse h f → i < slot_count_at h f → NamesThere l (slot_value_at h f i)
  unfolding slot_value_at
  slot_there f i u lt = (read_formed h l (slot_tag_at h f i) (slot_number_at h f i) ((w.frame f u).slot i lt).value).second
