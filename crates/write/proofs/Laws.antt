-- What a call of write gives and means, and one law for each way through the code. Assumes nothing.
use mathlib.Core.Path.{◌≡◌, refl, sym, ap, ◌∙◌, subst}
use mathlib.Core.Bool.{Bool, true, false}
use mathlib.Core.List.{List, ◌++◌}
use Prim.Native.Nat.{ℕ, min, ◌*◌, ◌^◌, ◌≤◌, ◌<◌}
use native.Mathlib.Nat.{zero-add, min-le_left, min-le_right}
use native.Mathlib.Omega.{arith}
use native.Mathlib.Decide.{dec_le}
use lib.Dec.{leb}
use lib.ListN.{length, take, drop, length-append}
use lib.Seq.{length-take-le, take-append-le, take-append_seam}
use borrow.Author.Tests.{le-leb, lt-leb}
use Rattle.framed.specs.declared.WriteAnswer.{WriteAnswer}
use Rattle.framed.specs.Answers.{Wrote, write_word}
use Rattle.framed.specs.Calls.{write, buffer_after}
use Rattle.framed.specs.Writer.{text}
use Rattle.framed.specs.Program.{Program}
use Rattle.framed.specs.Demands.{Writing}
use Rattle.words.specs.Words.{pick}
use Rattle.splice.specs.Splice.{splice}
use Rattle.splice.proofs.Laws.{splice_length, splice_fits}
use Rattle.trees.specs.Held.{program_held}
use Rattle.wellformed.specs.WellFormed.{WellFormed, well_formed}
use Rattle.wellformed.proofs.Decides.{well_formed_decides}
use Rattle.write_words.specs.Appending.{capped, Appended}
use Rattle.write_words.proofs.Laws.{capped_fits, capped_past}
use Rattle.write_program.specs.Text.{CanWrite}
use Rattle.write.specs.Write.{writing, text_written, write_call, CanWriteThrough, WriteMeans, WriteIsText}

-- ---- A text and a buffer

module _ (bs buffer : List ℕ) where
  pub fits : length bs ≤ length buffer → text_written bs buffer ≡ writing (WriteAnswer.Written (length bs)) (bs ++ drop (length bs) buffer)
  unfolding text_written
  fits le = rw (le-leb (length bs) (length buffer) le)

  pub too_long : length buffer < length bs → text_written bs buffer ≡ writing WriteAnswer.ShortBuffer buffer
  unfolding text_written
  too_long lt = rw (lt-leb (length bs) (length buffer) lt)

-- in the documents' terms
text_means : (q : Program) (buffer : List ℕ) →
    (write_word (text_written (text q) buffer).answer ≡ write q (length buffer)) × ((text_written (text q) buffer).buffer ≡ buffer_after q buffer)
unfolding text_written write buffer_after
text_means q buffer = go (leb (length (text q)) (length buffer))
  where
    go : (b : Bool) →
        (write_word (pick b (writing (WriteAnswer.Written (length (text q))) (text q ++ drop (length (text q)) buffer)) (writing WriteAnswer.ShortBuffer buffer)).answer
        ≡ elim b [ true ↦ Wrote.wrote (length (text q)) | false ↦ Wrote.refused 23 ])
        × ((pick b (writing (WriteAnswer.Written (length (text q))) (text q ++ drop (length (text q)) buffer)) (writing WriteAnswer.ShortBuffer buffer)).buffer
        ≡ elim b [ true ↦ text q ++ drop (length (text q)) buffer | false ↦ buffer ])
    go true = (refl, refl)
    go false = (refl, refl)

-- ---- Every call

module _ (p h l t buffer : List ℕ) where
  pub call_writes : WellFormed p h l t → write_call p h l t buffer ≡ text_written (text (program_held p l)) buffer
  unfolding write_call
  call_writes w = rw ((well_formed_decides p h l t).1 w)

  pub call_refuses : ¬ WellFormed p h l t → write_call p h l t buffer ≡ writing WriteAnswer.NotWellFormed buffer
  unfolding write_call
  call_refuses n = go (well_formed p h l t) refl
    where
      go : (b : Bool) → well_formed p h l t ≡ b → pick b (text_written (text (program_held p l)) buffer) (writing WriteAnswer.NotWellFormed buffer) ≡ writing WriteAnswer.NotWellFormed buffer
      go true e = absurd (n ((well_formed_decides p h l t).0 e))
      go false e = refl

  pub call_fits : WellFormed p h l t → length (text (program_held p l)) ≤ length buffer →
      write_call p h l t buffer ≡ writing (WriteAnswer.Written (length (text (program_held p l)))) (text (program_held p l) ++ drop (length (text (program_held p l))) buffer)
  call_fits w le = call_writes w ∙ fits (text (program_held p l)) buffer le

pub write_is_text : WriteIsText
write_is_text p h l t buffer =
    record {
      refused = λ n. let e = call_refuses p h l t buffer n in (ap (λ (x : Writing). x.answer) e, ap (λ (x : Writing). x.buffer) e);
      written = λ w.
          let e = call_writes p h l t buffer w in
          let m = text_means (program_held p l) buffer in
          (ap (λ (x : Writing). write_word x.answer) e ∙ m.0, ap (λ (x : Writing). x.buffer) e ∙ m.1);
    }

-- ---- The ways through `write_through`

pub own_size : (limit size : ℕ) (own : List ℕ) → size ≡ min limit (length own) → size ≡ length (take size own)
own_size limit size own es = sym (length-take-le size own (let a = min-le_right limit (length own) in omega arith))

pub can_write : (p l m : List ℕ) (limit : ℕ) (out : List ℕ) → CanWriteThrough p l out → limit ≡ length out → length m ≤ limit → CanWrite p l m limit 0
can_write p l m limit out c is le = let s = c.small in record { program = c.program; can = record { inside = le; position = omega arith; small = omega arith } }

pub can_measure : (p l own : List ℕ) (limit size : ℕ) (out : List ℕ) → CanWriteThrough p l out → limit ≡ length out → size ≡ min limit (length own) →
    CanWrite p l (take size own) limit 0
can_measure p l own limit size out c is es =
    let a = min-le_left limit (length own) in
    let b = own_size limit size own es in
    can_write p l (take size own) limit out c is (omega arith)

-- n bytes were counted, up to one more than the buffer has; the first of them, up to `size`, stand in the other array
module _ (bs out own m : List ℕ) (limit size n : ℕ) (is : limit ≡ length out) (es : size ≡ min limit (length own)) (first : Appended (take size own) limit 0 bs m n) where
  counted : n ≡ capped limit (length bs)
  counted = first.next ∙ ap (capped limit) (zero-add (length bs))

  within : n ≤ limit → n ≡ length bs
  within le = go (dec_le (length bs) limit)
    where
      go : Dec (length bs ≤ limit) → n ≡ length bs
      go (yes a) = counted ∙ capped_fits limit (length bs) a
      go (no a) = let c = capped_past limit (length bs) (omega arith) in let k = counted in absurd (omega arith)

  pub through_short : limit < n → text_written bs out ≡ writing WriteAnswer.ShortBuffer out
  through_short lt = too_long bs out (go (dec_le (length bs) limit))
    where
      go : Dec (length bs ≤ limit) → length out < length bs
      go (yes a) = let c = capped_fits limit (length bs) a in let k = counted in absurd (omega arith)
      go (no a) = omega arith

  written : {out' : List ℕ} → n ≤ limit → out' ≡ splice out 0 bs → text_written bs out ≡ writing (WriteAnswer.Written n) out'
  written {out'} le e =
      let k = within le in
      let w : out' ≡ bs ++ drop (length bs) out = e ∙ splice_fits out 0 bs (omega arith) ∙ ap (λ (j : ℕ). bs ++ drop j out) (zero-add (length bs)) in
      fits bs out (omega arith) ∙ (λ i. writing (WriteAnswer.Written (sym k i)) (sym w i))

  pub through_again : n ≤ limit → {out' : List ℕ} {r : ℕ} → Appended out limit 0 bs out' r → text_written bs out ≡ writing (WriteAnswer.Written n) out'
  through_again le a = written le a.buffer

  -- the array after it
  size_inside : length (take size own) ≡ size
  size_inside = sym (own_size limit size own es)

  front_is : n ≤ limit → n ≤ size → take n (m ++ drop size own) ≡ bs
  front_is le inside =
      let k = within le in
      let z = size_inside in
      let s : m ≡ bs ++ drop (length bs) (take size own) =
      first.buffer ∙ splice_fits (take size own) 0 bs (omega arith) ∙ ap (λ (j : ℕ). bs ++ drop j (take size own)) (zero-add (length bs)) in
      let y : length m ≡ size = ap length first.buffer ∙ splice_length (take size own) 0 bs ∙ z in
      take-append-le n m (drop size own) (omega arith) ∙ ap (take n) s ∙ ap (λ (j : ℕ). take j (bs ++ drop (length bs) (take size own))) k
      ∙ take-append_seam bs (drop (length bs) (take size own))

  pub front_size : n ≤ size → n ≡ length (take n (m ++ drop size own))
  front_size inside =
      let z = size_inside in
      let y : length m ≡ size = ap length first.buffer ∙ splice_length (take size own) 0 bs ∙ z in
      let a = length-append m (drop size own) in
      sym (length-take-le n (m ++ drop size own) (omega arith))

  pub through_copied : n ≤ limit → n ≤ size → {out' : List ℕ} → out' ≡ splice out 0 (take n (m ++ drop size own)) → text_written bs out ≡ writing (WriteAnswer.Written n) out'
  through_copied le inside e = written le (e ∙ ap (splice out 0) (front_is le inside))

-- ---- The ways through `write`

module _ (p h l t buffer : List ℕ) where
  -- what is answered exactly has its meaning
  answer_means : {r : WriteAnswer} {buffer' : List ℕ} → write_call p h l t buffer ≡ writing r buffer' → WriteMeans p h l t buffer r buffer'
  answer_means e = subst (λ (x : Writing). WriteMeans p h l t buffer x.answer x.buffer) e (write_is_text p h l t buffer)

  module _ (b : Bool) (eb : b ≡ well_formed p h l t) where
    is_formed : b ≡ true → WellFormed p h l t
    is_formed e = (well_formed_decides p h l t).0 (sym eb ∙ e)

    pub can_write_through : b ≡ true → length buffer * 1 < 2 ^ 63 → CanWriteThrough p l buffer
    can_write_through e lt = record { program = (is_formed e).program; small = omega arith }

    pub refused : b ≡ false → (write_call p h l t buffer ≡ writing WriteAnswer.NotWellFormed buffer) × WriteMeans p h l t buffer WriteAnswer.NotWellFormed buffer
    unfolding write_call
    refused e = let x : write_call p h l t buffer ≡ writing WriteAnswer.NotWellFormed buffer = rw (← eb, e) in (x, answer_means x)

    pub answered : {r : WriteAnswer} {buffer' : List ℕ} → b ≡ true → text_written (text (program_held p l)) buffer ≡ writing r buffer' →
        (write_call p h l t buffer ≡ writing r buffer') × WriteMeans p h l t buffer r buffer'
    answered e w = let x = call_writes p h l t buffer (is_formed e) ∙ w in (x, answer_means x)
