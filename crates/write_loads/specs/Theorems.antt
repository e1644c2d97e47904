-- Document 02, A1: the text of the program p of a source that load accepts. Assumes nothing.
use Rattle.std.specs.Prelude.{◌≡◌, true, List, ℕ, ◌*◌, ◌≤◌, ◌<◌, length}
use Rattle.std.proofs.Math.Option.{some}
use Rattle.framed.specs.Bytes.{class}
use Rattle.framed.specs.Tokens.{tokens}
use Rattle.framed.specs.Meaning.{Lengths, right_lengths, refusal}
use Rattle.framed.specs.Program.{Program, program}
use Rattle.framed.specs.Writer.{text, text_tokens}

-- It is read in its tokens and has the same program: names, literals, codes and instructions with their numbers, slots and start. Where it has at most
-- 16,384 bytes it is accepted too, with memories of the right lengths
pub record TextLoads (F T : ℕ) (p : Program) : Type 0 where
  pub in_tokens : tokens class (text p) ≡ some (text_tokens p)
  pub same_program : program (text p) ≡ some p
  pub accepted : (k : Lengths) → right_lengths k ≡ true → length (text p) ≤ 16384 → refusal k (text p) F T ≡ 0

abbrev pub AcceptedTextLoads : Type 0
AcceptedTextLoads = (m : Lengths) (source : List ℕ) (F T : ℕ) (p : Program) → refusal m source F T ≡ 0 → program source ≡ some p → TextLoads F T p

-- it has fewer than twice the bytes of the source, so at most 32,767: a buffer of so many always does
abbrev pub TextShort : Type 0
TextShort = (m : Lengths) (source : List ℕ) (F T : ℕ) (p : Program) → refusal m source F T ≡ 0 → program source ≡ some p →
    (length (text p) < 2 * length source) × (length (text p) ≤ 32767)
