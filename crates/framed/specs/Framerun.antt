-- Document 01, "A printed run": the bytes that the program `framerun` prints for the bytes of a source.
-- It takes F = T = 256 and fuel 100000 in one run over a 4,096-byte buffer, collects, and prints the shows, then end, steps, reached frames and texts.
-- A load refusal prints one line only. Assumes nothing.
use Rattle.std.specs.Prelude.{List, [], ◌∷◌, ◌++◌, ℕ, zero, suc, pos}
use Rattle.std.proofs.Math.Option.{Option, none, some}
use Rattle.framed.specs.Common.{bytes, Common}
use Rattle.framed.specs.Bytes.{Bytes}
use Rattle.framed.specs.Tokens.{Tokens}
use Rattle.framed.specs.Symbols.{Symbols}
use Rattle.framed.specs.Parse.{Parse}
use Rattle.framed.specs.Paths.{Paths}
use Rattle.framed.specs.Meaning.{Meaning, Lengths, refusal}
use Rattle.framed.specs.Program.{Program, program, Programs}
use Rattle.framed.specs.Values.{decimal, Values}
use Rattle.framed.specs.Equality.{Equality}
use Rattle.framed.specs.Fetch.{Fetch}
use Rattle.framed.specs.Reach.{Reach}
use Rattle.framed.specs.Writer.{Writer}
use Rattle.framed.specs.Machine.{Machine}
use Rattle.framed.specs.Answers.{Stopped}
use Rattle.framed.specs.Calls.{Ran, run, at_start, frame_total, text_total, Calls}

-- memories of the right lengths
abbrev pub right_memories : Lengths
right_memories = record { program = 16384; heap = 16384; literal = 8192; text = 16384 }

unfoldable pub number : ℕ → List ℕ
number n = decimal (pos n)

unfoldable pub stop_bytes : Stopped → List ℕ
stop_bytes (Stopped.end e) = number e
stop_bytes Stopped.fuel = bytes "fuel"
stop_bytes Stopped.output = bytes "output"

unfoldable pub last_line : Ran → List ℕ
last_line r =
    bytes "end " ++ (stop_bytes r.stop ++ (bytes " steps " ++ (number r.steps
    ++ (bytes " frames " ++ (number (frame_total r.machine.state) ++ (bytes " texts " ++ (number (text_total r.machine.state) ++ (10 ∷ []))))))))

unfoldable pub printed : Option Program → List ℕ
printed none = []
printed (some p) = let r = run p 256 256 100000 4096 (at_start p) in r.bytes ++ last_line r

unfoldable pub framerun : List ℕ → List ℕ
framerun source =
    elim (refusal right_memories source 256 256) [
      | zero ↦ printed (program source)
      | suc n ↦ bytes "refused " ++ (number (suc n) ++ (10 ∷ []))
    ]

-- to compute with `framerun`, a proof unfolds `Framerun`
unfoldable pub Framerun : Type 0
unfolding number stop_bytes last_line printed framerun Common Bytes Tokens Symbols Parse Paths Meaning Programs Values Equality Fetch Reach Machine Writer Calls
Framerun = ℕ
