-- The script of `replay` (README, "Replay a list of calls"): what it has come to after each token. Assumes nothing.
use Rattle.std.specs.Prelude.{Bool, true, false, List, ℕ, eqb, leb}
use Rattle.framed.specs.Common.{when◌then◌else◌, bytes, same}
use Rattle.source.specs.Positions.{part}
use Rattle.script.specs.declared.Argument.{Argument}
use Rattle.script.specs.declared.Call.{Call}
use Rattle.script.specs.declared.Script.{Script}

-- a call has begun whose arguments are not all there
abbrev pub is_open : Script → Bool
is_open Script.Name = false
is_open (Script.Open x) = true
is_open (Script.Complete c) = false
is_open (Script.Unfit b e) = false

-- the call that a name, from a up to p, begins; another name does not fit
unfoldable pub called : List ℕ → ℕ → ℕ → Script
called name a p =
    when same name (bytes "load") then Script.Open Argument.LoadFile
    else when same name (bytes "run") then Script.Open Argument.RunFuel
    else when same name (bytes "collect") then Script.Complete Call.Collect
    else when same name (bytes "look") then Script.Open Argument.LookPath
    else when same name (bytes "write") then Script.Open Argument.WriteSpace
    else Script.Unfit a p

-- a name fits where a call begins
unfoldable pub after_name : List ℕ → Script → ℕ → ℕ → Script
after_name s x a p = when is_open x then Script.Unfit a p else called (part s a p) a p

-- a string is the file of a load or the path of a look
abbrev pub string_for : Argument → ℕ → ℕ → Script
string_for Argument.LoadFile a p = Script.Open (Argument.LoadFrames a p)
string_for (Argument.LoadFrames b e) a p = Script.Unfit a p
string_for (Argument.LoadTexts b e f) a p = Script.Unfit a p
string_for Argument.RunFuel a p = Script.Unfit a p
string_for (Argument.RunSpace fuel) a p = Script.Unfit a p
string_for Argument.LookPath a p = Script.Complete (Call.Look a p)
string_for Argument.WriteSpace a p = Script.Unfit a p

abbrev pub after_string : Script → ℕ → ℕ → Script
after_string Script.Name a p = Script.Unfit a p
after_string (Script.Open x) a p = string_for x a p
after_string (Script.Complete c) a p = Script.Unfit a p
after_string (Script.Unfit b e) a p = Script.Unfit a p

-- an integer, by its word of 32 bits, is F or T of a load, the fuel or the space of a run, which is at most 4,096, or the space of a write, at most 32,768
abbrev pub space_for : ℕ → ℕ → ℕ → ℕ → Script
space_for fuel a p n = when leb n 4096 then Script.Complete (Call.Run fuel n) else Script.Unfit a p

abbrev pub write_space_for : ℕ → ℕ → ℕ → Script
write_space_for a p n = when leb n 32768 then Script.Complete (Call.Write n) else Script.Unfit a p

abbrev pub integer_for : Argument → ℕ → ℕ → ℕ → Script
integer_for Argument.LoadFile a p n = Script.Unfit a p
integer_for (Argument.LoadFrames b e) a p n = Script.Open (Argument.LoadTexts b e n)
integer_for (Argument.LoadTexts b e f) a p n = Script.Complete (Call.Load b e f n)
integer_for Argument.RunFuel a p n = Script.Open (Argument.RunSpace n)
integer_for (Argument.RunSpace fuel) a p n = space_for fuel a p n
integer_for Argument.LookPath a p n = Script.Unfit a p
integer_for Argument.WriteSpace a p n = write_space_for a p n

abbrev pub after_integer : Script → ℕ → ℕ → ℕ → Script
after_integer Script.Name a p n = Script.Unfit a p
after_integer (Script.Open x) a p n = integer_for x a p n
after_integer (Script.Complete c) a p n = Script.Unfit a p
after_integer (Script.Unfit b e) a p n = Script.Unfit a p

-- the token of kind k from a up to p, an integer's word being w
unfoldable pub after_token : List ℕ → Script → (k a p w : ℕ) → Script
after_token s x k a p w =
    when eqb k 25 then after_name s x a p
    else when eqb k 26 then after_integer x a p w
    else when eqb k 27 then after_string x a p
    else Script.Unfit a p
