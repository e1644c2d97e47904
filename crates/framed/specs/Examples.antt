-- Document 01, "A printed run and the proved examples": what each example says, from the bytes of a source to the reports.
-- `ProvedExamples` is the conjunction that the document asks for; `PrintedRun` is the example of `framerun`; `WrittenExamples` are texts of document 02, A1,
-- `JoinedExamples` runs of its A3, `EqualExamples` of its A4 and `MakersExamples` of its A5. Assumes nothing.
use Rattle.std.specs.Prelude.{◌≡◌, List, [], ◌∷◌, ◌++◌, map, ℕ, zero, suc, length}
use Rattle.std.proofs.Math.Option.{Option, none, some}
use Prim.Native.String.{String}
use Rattle.std.proofs.Math.ListN.{get_elem?}
use Rattle.framed.specs.Common.{bytes}
use Rattle.framed.specs.Tree.{Base, Instruction, Code, ◌then◌}
use Rattle.framed.specs.Paths.{Path, from_program}
use Rattle.framed.specs.Meaning.{refusal}
use Rattle.framed.specs.Program.{Program, program}
use Rattle.framed.specs.Machine.{State}
use Rattle.framed.specs.Writer.{text}
use Rattle.framed.specs.Answers.{Stopped, Report, Look}
use Rattle.framed.specs.Calls.{Call, run_call, calls, at_start, look, made_by}
use Rattle.framed.specs.Framerun.{right_memories, framerun, Framerun}

-- ---- What the examples ask

-- what load gives for a source, with F = T = 256
unfoldable pub load_gives : List ℕ → ℕ
load_gives source = refusal right_memories source 256 256

-- the reports of a list of calls after the load of a source
unfoldable pub reports_of : Option Program → ℕ → ℕ → List Call → List Report
reports_of none F T cs = []
reports_of (some p) F T cs = (calls p F T cs (at_start p)).reports

-- none where the source is refused
unfoldable pub reports : List ℕ → ℕ → ℕ → List Call → List Report
reports source F T cs =
    elim (refusal right_memories source F T) [ zero ↦ reports_of (program source) F T cs | suc n ↦ [] ]

-- a source whose Main.start is this code
unfoldable pub main : String → List ℕ
main code = bytes "frame: [ Main := frame: [ start := code { " ++ bytes code ++ bytes " } ] ]"

-- one run of it
unfoldable pub runs : String → List Report
runs code = reports (main code) 256 256 (run_call 100 256 ∷ [])

-- what a run reports that ends well after two steps, the second a show; and one that ends with a number before its first step
abbrev pub shows : String → List Report
shows line = Report.ran (Stopped.end 0) 2 (length (bytes line)) (bytes line) ∷ []

abbrev pub ended : ℕ → List Report
ended e = Report.ran (Stopped.end e) 0 0 [] ∷ []

-- the codes of a source's program, and the bytes of a name in it
unfoldable pub codes_of : Option Program → List (Code Path)
codes_of none = []
codes_of (some p) = p.codes

unfoldable pub name_of : Option Program → ℕ → Option (List ℕ)
name_of none n = none
name_of (some p) n = get_elem? p.names n

abbrev pub a_source_with_b : List ℕ
a_source_with_b = bytes "frame: [ b := 5, Main := frame: [ start := code { show ^.^.b; } ] ]"

-- the number of the name b in it
abbrev pub b : ℕ
b = 0

-- ---- The conjunction

unfoldable pub ProvedExamples : Type 0
ProvedExamples =
    (runs "self.x := 7 / -2; show self.x;" ≡ shows "-3\n")
    × (runs "self.x := -7 / 2; show self.x;" ≡ shows "-3\n")
    × (runs "self.x := -2147483648 / -1; show self.x;" ≡ ended 33)
    × (runs "self.x := 2147483647 + 1; show self.x;" ≡ ended 33)
    × (runs "self.x := !\"0\"; show self.x;" ≡ shows "0\n")
    × (runs "self.x := !0; show self.x;" ≡ shows "1\n")
    × (runs "self.x := 0 == \"0\"; show self.x;" ≡ shows "0\n")
    × (runs "self.x := \"n=\" # -5; show self.x;" ≡ shows "n=-5\n")
    -- in Main.start `^.^.b` is the list b, and there `^.^.^` is 10
    × (name_of (program a_source_with_b) b ≡ some (bytes "b"))
    × (codes_of (program a_source_with_b) ≡ (Instruction.show (Base.path (from_program (b ∷ []))) then Code.finished) ∷ [])
    × (load_gives (main "show ^.^.^;") ≡ 10)
    × (load_gives (main "show self.a -1;") ≡ 6)
    -- joining to 64 bytes works, to 65 ends 34
    × (runs "self.x := \"0123456789abcdef0123456789abcdef\" # \"0123456789abcdef0123456789abcdef\"; show self.x;"
    ≡ shows "0123456789abcdef0123456789abcdef0123456789abcdef0123456789abcdef\n")
    × (runs "self.x := \"0123456789abcdef0123456789abcdef\" # \"0123456789abcdef0123456789abcdef!\"; show self.x;" ≡ ended 34)
    -- three frames are reached at first: with F = 4 the first frame literal steps on, and the second ends 36
    × (reports (main "self.x := frame: []; self.y := frame: [];") 4 0 (run_call 100 0 ∷ [])
    ≡ Report.ran (Stopped.end 36) 1 0 [] ∷ [])

-- ---- The printed run

abbrev pub printed_source : List ℕ
printed_source =
    bytes "frame: [ Main := frame: [\n start := code { self.n := 7; jump ^.next self; },\n next := code { self.t := \"n=\" # self.n; show self.t; } ] ]\n"

unfoldable pub PrintedRun : Type 0
PrintedRun = framerun printed_source ≡ bytes "n=7\nend 0 steps 4 frames 3 texts 1\n"

-- ---- Document 02, A1: the text of a source's program

unfoldable pub text_of : Option Program → List ℕ
text_of none = []
text_of (some p) = text p

abbrev pub Rewrites : String → String → Type 0
Rewrites source written = text_of (program (bytes source)) ≡ bytes written

unfoldable pub WrittenExamples : Type 0
WrittenExamples =
    -- spaces and last commas
    Rewrites "frame:[Main:=frame:[start:=code{},],]" "frame : [ Main := frame : [ start := code { } ] ]"
    -- integers; a path into the holding frame, into its parent, to the holding frame itself, to the program frame, and down into a frame beside it
    × Rewrites "frame: [ b := -007, c := frame: [ d := -0 ], Main := frame: [ start := code { show ^.^.Main.n; show ^.^.b; ^ := !^.^.c.d; jump ^.^ \"x;\"; } ] ]"
    "frame : [ b := -7 , c := frame : [ d := 0 ] , Main := frame : [ start := code { show ^.n ; show ^.^.b ; ^ := ! ^.^.c.d ; jump ^.^ \"x;\" ; } ] ]"
    -- code in code adds no level, and a frame in code none
    × Rewrites "frame: [ Main := frame: [ start := code { self.f := frame: [ h := code { ifeq ^.^.Main self.a.b code {}; } ]; } ] ]"
    "frame : [ Main := frame : [ start := code { self.f := frame : [ h := code { ifeq ^ self.a.b code { } ; } ] ; } ] ]"

-- ---- Document 02, A3: `#` of frames and codes

unfoldable pub JoinedExamples : Type 0
JoinedExamples =
    (runs "self.x := \"left in: \" # self; show self.x;" ≡ shows "left in: frame\n")
    × (runs "self.x := code { show 1; } # -5; show self.x;" ≡ shows "code-5\n")
    × (runs "self.x := self # ^.start; show self.x;" ≡ shows "framecode\n")
    -- a frame beside 59 bytes gives 64, a code beside 61 bytes ends 34
    × (runs "self.x := self # \"0123456789abcdef0123456789abcdef0123456789abcdef0123456789a\"; show self.x;"
    ≡ shows "frame0123456789abcdef0123456789abcdef0123456789abcdef0123456789a\n")
    × (runs "self.x := \"0123456789abcdef0123456789abcdef0123456789abcdef0123456789abc\" # ^.start; show self.x;" ≡ ended 34)
    -- an operand that has no value ends 31, also beside 64 bytes
    × (runs "self.x := \"0123456789abcdef0123456789abcdef0123456789abcdef0123456789abcdef\" # self.none; show self.x;" ≡ ended 31)
    -- a joined text is no frame
    × (runs "self.x := \"fra\" # \"me\"; self.y := self.x == self; show self.y;" ≡ Report.ran (Stopped.end 0) 3 2 (bytes "0\n") ∷ [])

-- ---- Document 02, A4: `==` of codes

-- `==` of the two operands is shown as this line
abbrev pub Compares : String → String → String → Type 0
Compares left right line =
    reports (bytes "frame: [ Main := frame: [ start := code { self.x := " ++ bytes left ++ bytes " == " ++ bytes right ++ bytes "; show self.x; } ] ]")
    256 256 (run_call 100 256 ∷ [])
    ≡ shows line

unfoldable pub EqualExamples : Type 0
EqualExamples =
    -- integers by value, strings by bytes
    Compares "code { show 7; }" "code { show 007; }" "1\n"
    × Compares "code { show \"a\"; }" "code { show \"a\"; }" "1\n"
    × Compares "code { show \"a\"; }" "code { show \"b\"; }" "0\n"
    -- nested codes; how far a path climbs does not matter, where it begins does
    × Compares "code { jump code { show ^.a; } 1; }" "code { jump code { show ^.^.Main.a; } 1; }" "1\n"
    × Compares "code { show self; }" "code { show ^.^; }" "0\n"
    -- every instruction, and its kind, its operator, the order of its operands and of its slots
    × Compares "code { show 1; }" "code { show 1; show 2; }" "0\n"
    × Compares "code { jump self.a 0; }" "code { ifeq 0 self.a 0; }" "0\n"
    × Compares "code { self := 1 + 2; }" "code { self := 1 - 2; }" "0\n"
    × Compares "code { self := 1 + 2; }" "code { self := 2 + 1; }" "0\n"
    × Compares "code { self := frame: [ a := 1, b := 2 ]; }" "code { self := frame: [ b := 2, a := 1 ]; }" "0\n"
    -- a value of another kind is no code
    × Compares "code {}" "0" "0\n"

-- ---- Document 02, A5: the maker of a frame

-- the state after a run of the program
unfoldable pub ran_of : Program → State
ran_of p = (calls p 256 256 (run_call 100 256 ∷ []) (at_start p)).machine.state

-- what the paths lead to then, and how many frames each of these makers made
unfoldable pub looks_of : Option Program → List String → List Look
looks_of none paths = []
looks_of (some p) paths = map (λ path. look p (ran_of p) (bytes path)) paths

unfoldable pub makers_of : Option Program → List ℕ → List ℕ
makers_of none ns = []
makers_of (some p) ns = map (made_by (ran_of p)) ns

-- the second instruction stands in a code of the first: it is counted before the third
abbrev pub nested_source : List ℕ
nested_source = main "self.c := code { self.z := frame: [ in := frame: [] ]; }; self.x := frame: []; jump self.c self;"

-- Put into the frame that the first instruction made, and that it becomes self and program, leaves its maker
abbrev pub moved_source : List ℕ
moved_source = main "self.x := frame: []; self.x.y := 1; self.x.z := self; self := self.x; ^.^ := self;"

unfoldable pub MakersExamples : Type 0
MakersExamples =
    (looks_of (program nested_source) ("self.x" ∷ "self.z" ∷ "self.z.in" ∷ "self" ∷ "^" ∷ "^.Main" ∷ [])
    ≡ Look.frame 3 ∷ Look.frame 2 ∷ Look.frame 2 ∷ Look.frame 0 ∷ Look.frame 0 ∷ Look.frame 0 ∷ [])
    × (makers_of (program nested_source) (0 ∷ 1 ∷ 2 ∷ 3 ∷ 4 ∷ []) ≡ 3 ∷ 0 ∷ 2 ∷ 1 ∷ 0 ∷ [])
    × (looks_of (program moved_source) ("self" ∷ "^" ∷ "self.z" ∷ []) ≡ Look.frame 1 ∷ Look.frame 1 ∷ Look.frame 0 ∷ [])

-- to compute with these, a proof unfolds `Examples`
unfoldable pub Examples : Type 0
unfolding load_gives reports_of reports main runs codes_of name_of text_of ran_of looks_of makers_of Framerun
Examples = ℕ
