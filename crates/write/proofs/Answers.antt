-- The three answers of write, and what each says of the buffer. Assumes nothing.
use mathlib.Core.Path.{◌≡◌, refl, sym, ap, ◌∙◌, subst}
use mathlib.Core.Bool.{Bool, true, false, true≢false}
use mathlib.Core.List.{List, ◌++◌}
use Prim.Native.Nat.{ℕ, ◌≤◌}
use native.Mathlib.Omega.{arith}
use native.Mathlib.Decide.{dec_le}
use lib.ListN.{length, drop}
use lib.Seq.{length_front, length-take-le, drop-append_seam}
use Rattle.framed.specs.declared.WriteAnswer.{WriteAnswer}
use Rattle.framed.specs.Writer.{text}
use Rattle.framed.specs.Demands.{Writing}
use Rattle.trees.specs.Held.{program_held}
use Rattle.wellformed.specs.WellFormed.{well_formed}
use Rattle.wellformed.proofs.Decides.{well_formed_decides}
use Rattle.write.specs.Write.{writing, write_call}
use Rattle.write.proofs.Laws.{too_long, call_writes, call_refuses, call_fits}

-- bytes at the front of a buffer, and the rest of it behind them
abbrev pub in_front : List ℕ → List ℕ → List ℕ
in_front bs buffer = bs ++ drop (length bs) buffer

-- what each answer is told by
abbrev is_written : WriteAnswer → Bool
is_written (WriteAnswer.Written n) = true
is_written WriteAnswer.NotWellFormed = false
is_written WriteAnswer.ShortBuffer = false

abbrev written_length : WriteAnswer → ℕ
written_length (WriteAnswer.Written n) = n
written_length WriteAnswer.NotWellFormed = 0
written_length WriteAnswer.ShortBuffer = 0

module _ (p h l t buffer : List ℕ) where
  abbrev bytes : List ℕ
  bytes = text (program_held p l)

  data Answered : Writing → Type 0 where
    not_well_formed : Answered (writing WriteAnswer.NotWellFormed buffer)
    short_buffer : Answered (writing WriteAnswer.ShortBuffer buffer)
    written : length bytes ≤ length buffer → Answered (writing (WriteAnswer.Written (length bytes)) (in_front bytes buffer))

  answered : Answered (write_call p h l t buffer)
  answered = go (well_formed p h l t) refl (dec_le (length bytes) (length buffer))
    where
      go : (b : Bool) → well_formed p h l t ≡ b → Dec (length bytes ≤ length buffer) → Answered (write_call p h l t buffer)
      go true e (yes le) = let w = (well_formed_decides p h l t).0 e in subst Answered (sym (call_fits p h l t buffer w le)) (Answered.written le)
      go true e (no lt) =
          let w = (well_formed_decides p h l t).0 e in
          subst Answered (sym (call_writes p h l t buffer w ∙ too_long bytes buffer (omega arith))) Answered.short_buffer
      go false e d =
          subst Answered (sym (call_refuses p h l t buffer (λ w. true≢false (sym ((well_formed_decides p h l t).1 w) ∙ e)))) Answered.not_well_formed

  -- what a written text is
  pub record Text (n : ℕ) (buffer' : List ℕ) : Type 0 where
    pub length_is : n ≡ length bytes
    pub room : length bytes ≤ length buffer
    pub buffer_is : buffer' ≡ in_front bytes buffer

  told : {x : Writing} {n : ℕ} → Answered x → x.answer ≡ WriteAnswer.Written n → Text n x.buffer
  told Answered.not_well_formed e = absurd (true≢false (sym (ap is_written e)))
  told Answered.short_buffer e = absurd (true≢false (sym (ap is_written e)))
  told (Answered.written le) e = record { length_is = sym (ap written_length e); room = le; buffer_is = refl }

  pub call_told : {n : ℕ} → (write_call p h l t buffer).answer ≡ WriteAnswer.Written n → Text n (write_call p h l t buffer).buffer
  call_told e = told answered e

  unwritten : {x : Writing} → Answered x → is_written x.answer ≡ false → x.buffer ≡ buffer
  unwritten Answered.not_well_formed e = refl
  unwritten Answered.short_buffer e = refl
  unwritten (Answered.written le) e = absurd (true≢false e)

  -- a buffer that is too short stays as it was
  pub short_kept : (write_call p h l t buffer).answer ≡ WriteAnswer.ShortBuffer → (write_call p h l t buffer).buffer ≡ buffer
  short_kept e = unwritten answered (ap is_written e)

  -- only the reported length is written
  pub written_within : {n : ℕ} → (write_call p h l t buffer).answer ≡ WriteAnswer.Written n →
      (n ≤ length buffer) × (length (write_call p h l t buffer).buffer ≡ length buffer) × (drop n (write_call p h l t buffer).buffer ≡ drop n buffer)
  written_within {n} e =
      let x = call_told e in
      let le = x.room in
      let k = x.length_is in (
        omega arith,
        ap length x.buffer_is ∙ length_front buffer bytes (length bytes) (sym (length-take-le (length bytes) buffer le)),
        ap (λ (j : ℕ). drop j (write_call p h l t buffer).buffer) k ∙ ap (drop (length bytes)) x.buffer_is ∙ drop-append_seam bytes (drop (length bytes) buffer)
            ∙ ap (λ (j : ℕ). drop j buffer) (sym k),
      )
