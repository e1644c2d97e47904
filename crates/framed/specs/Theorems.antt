-- What is proved about these definitions. Each type is a theorem's statement; its proof has the same name in proofs/. Assumes nothing.
use Rattle.std.specs.Prelude.{◌≡◌, ◌↔◌, ◌⊎◌, ◌≢◌, true, false, List, [], ◌∷◌, ◌++◌, ℕ, suc, ◌+◌, ◌-◌, ◌≤◌, ◌<◌, length, take, get_or}
use Rattle.std.proofs.Math.Option.{none, some}
use Rattle.std.proofs.Math.ListN.{get_elem?}
use Rattle.framed.specs.declared.Value.{Value}
use Rattle.framed.specs.declared.Text.{Text}
use Rattle.framed.specs.Common.{member, has_twice, ◌∈◌, Twice}
use Rattle.framed.specs.Bytes.{Classes, class}
use Rattle.framed.specs.Tokens.{Operator, Token, tokens, Tokens⊢}
use Rattle.framed.specs.Symbols.{Symbol, name_table}
use Rattle.framed.specs.Tree.{Written, Base, Expression, Slots, Instruction, Code, ◌then◌}
use Rattle.framed.specs.Grammar.{Source}
use Rattle.framed.specs.Parse.{parse}
use Rattle.framed.specs.Paths.{Place, holder, names_up, above_program, Path, resolve_path}
use Rattle.framed.specs.Meaning.{Piece, pieces, Lengths, refusal}
use Rattle.framed.specs.Occurrences.{Occurs}
use Rattle.framed.specs.Refusals.{Holds}
use Rattle.framed.specs.Program.{Part, block, line, slots_parts, instruction_parts, codes_in, instructions_in, first_number, Program, program}
use Rattle.framed.specs.Values.{Frame, Heap, join_bytes}
use Rattle.framed.specs.Equality.{Constants, constants, same_code, plain_code, equal_values}
use Rattle.framed.specs.Fetch.{fetch}
use Rattle.framed.specs.Writer.{common_prefix, written_path}
use Rattle.framed.specs.Machine.{State, Effect, gives, ends, operate, evaluate, Ready, right_side, frame_literals, join_signs, step, first_of, following, start}
use Rattle.framed.specs.Judgments.{Fetch⇒, B⇒, start_path, P⇒, Rule, FirstMet, RunsTo}
use Rattle.framed.specs.Answers.{Stopped, Look}
use Rattle.framed.specs.Calls.{Unbounded, at_start, Ran, run, Call, calls, frame_total, text_total, maker_in, made_by, read_path, look, look_text, LooksAs, LooksTextAs}
use Rattle.framed.specs.Alike.{Alike, InReach}

-- `tokens` gives the tokens that stand in the bytes one after the other, and nothing exactly when some bytes form none
unfoldable pub TokensExact : Type 0
TokensExact = (c : Classes) (bs : List ℕ) (ts : List Token) → (tokens c bs ≡ some ts) ↔ Tokens⊢ c bs ts

-- the name table has each name of the tokens exactly once
pub record NamesExact : Type 0 where
  pub exactly : (ts : List Token) (w : List ℕ) → (w ∈ name_table ts) ↔ (Token.name w ∈ ts)
  pub once : (ts : List Token) → ¬ Twice (name_table ts)

-- the parser gives a tree exactly when the grammar derives it, and the grammar derives at most one
pub record ParseExact : Type 0 where
  pub exact : (ts : List Symbol) (ss : Slots Written) → (parse ts ≡ some ss) ↔ Source ts ss
  pub one_tree : (ts : List Symbol) (ss us : Slots Written) → Source ts ss → Source ts us → ss ≡ us

-- A and B correspond one to one
pub record OneToOne (A B : Type 0) : Type 0 where
  pub to : A → B
  pub from : B → A
  pub from_to : (a : A) → from (to a) ≡ a
  pub to_from : (b : B) → to (from b) ≡ b

-- the list of pieces has each occurrence exactly once
unfoldable pub PiecesExact : Type 0
PiecesExact = (ss : Slots Written) (x : Piece) → OneToOne (Occurs ss x) (x ∈ pieces ss)

-- the answer is 0 exactly when none of the conditions 1 to 12 holds, else the lowest that does
pub record RefusalLowest : Type 0 where
  pub loads : (m : Lengths) (source : List ℕ) (F T : ℕ) → (refusal m source F T ≡ 0) ↔ ((k : ℕ) → ¬ Holds m source F T k)
  pub holds : (m : Lengths) (source : List ℕ) (F T n : ℕ) → refusal m source F T ≡ suc n → Holds m source F T (suc n)
  pub lowest : (m : Lengths) (source : List ℕ) (F T n k : ℕ) → refusal m source F T ≡ suc n → Holds m source F T k → suc n ≤ k

-- `fetch` gives a value exactly when Fetch does
abbrev pub FetchExact : Type 0
FetchExact = (frames : List Frame) (v : Value) (ns : List ℕ) (w : Value) → (fetch frames v ns ≡ some w) ↔ Fetch⇒ frames v ns w

-- look at a path text is Fetch from self or from the program frame; at any other text it is 21
pub record LookJudged : Type 0 where
  pub kinds : (p : Program) (s : State) (text : List ℕ) (w : Written) (l : Look) → read_path p (tokens class text) ≡ some w → (look p s text ≡ l) ↔ LooksAs s w l
  pub texts : (p : Program) (s : State) (text : List ℕ) (w : Written) (bs : List ℕ) → read_path p (tokens class text) ≡ some w →
      (look_text p s text ≡ bs) ↔ LooksTextAs p s w bs
  pub not_path : (p : Program) (s : State) (text : List ℕ) → read_path p (tokens class text) ≡ none →
      (look p s text ≡ Look.refused 21) × (look_text p s text ≡ [])

-- with room and no end mark
pub record StepJudged : Type 0 where
  -- the step goes on exactly as the judgments say
  pub goes_on : (p : Program) (F T : ℕ) (s : State) (i : Instruction Path) (rest : Code Path) → Ready F T s i rest → (x : Effect) →
      (step p F T s i rest ≡ gives x) ↔ Rule p s rest i x
  -- 32 to 35 exactly when it is the first met
  pub first_met : (p : Program) (F T : ℕ) (s : State) (i : Instruction Path) (rest : Code Path) → Ready F T s i rest → (e : ℕ) → 31 < e →
      (step p F T s i rest ≡ ends e) ↔ FirstMet p s i e
  -- 31 exactly when no rule applies and none of 32 to 35 is met first
  pub no_rule : (p : Program) (F T : ℕ) (s : State) (i : Instruction Path) (rest : Code Path) → Ready F T s i rest →
      (step p F T s i rest ≡ ends 31) ↔ (((x : Effect) → ¬ Rule p s rest i x) × ((e : ℕ) → ¬ FirstMet p s i e))
  -- the judgments are deterministic
  pub one_effect : (p : Program) (s : State) (i : Instruction Path) (rest : Code Path) (x y : Effect) → Rule p s rest i x → Rule p s rest i y → x ≡ y
  pub one_number : (p : Program) (s : State) (i : Instruction Path) (e f : ℕ) → FirstMet p s i e → FirstMet p s i f → e ≡ f
  pub not_both : (p : Program) (s : State) (i : Instruction Path) (rest : Code Path) (x : Effect) (e : ℕ) → Rule p s rest i x → ¬ FirstMet p s i e

-- the run is done, after so many steps, with these values, this heap and these bytes
pub record Done (r : Ran) (steps : ℕ) (Σ Π : Value) (h : Heap) (bs : List ℕ) : Type 0 where
  pub stop : r.stop ≡ Stopped.end 0
  pub made : r.steps ≡ steps
  pub shown : r.bytes ≡ bs
  -- nothing remains, and so no number of a next instruction matters
  pub state : r.machine.state ≡ record { remaining = Code.finished; next = r.machine.state.next; self = Σ; program = Π; heap = h; end_mark = 0 }

-- the run ended for lack of room at the instruction i: the reachable frames plus f exceed F, or the reachable made texts plus t exceed T
pub data EndsFull (F T : ℕ) (r : Ran) : Type 0 where
  frames_full : (i : Instruction Path) (rest : Code Path) → r.stop ≡ Stopped.end 36 → r.machine.state.remaining ≡ (i then rest) →
      F < frame_total r.machine.state + frame_literals (right_side i) → EndsFull F T r
  texts_full : (i : Instruction Path) (rest : Code Path) → r.stop ≡ Stopped.end 37 → r.machine.state.remaining ≡ (i then rest) →
      T < text_total r.machine.state + join_signs (right_side i) → EndsFull F T r

-- runs of the machine u lead there
pub record Leads (p : Program) (u : Unbounded) (Σ Π : Value) (h : Heap) (bs : List ℕ) : Type 0 where
  -- with fuel for the steps and space for the bytes a run is done, unless it ends for lack of room
  pub steps : ℕ
  pub done_or_full : (F T fuel space : ℕ) → steps ≤ fuel → length bs ≤ space →
      Done (run p F T fuel space u) steps Σ Π h bs ⊎ EndsFull F T (run p F T fuel space u)
  -- with room for so many frames and made texts it is done
  pub frames : ℕ
  pub texts : ℕ
  pub done : (F T fuel space : ℕ) → frames ≤ F → texts ≤ T → steps ≤ fuel → length bs ≤ space → Done (run p F T fuel space u) steps Σ Π h bs

-- the unbounded machine's runs are C
pub record RunJudged : Type 0 where
  -- a run that stops with 0 has done what C says
  pub done : (p : Program) (F T fuel space : ℕ) (u : Unbounded) →
      let r = run p F T fuel space u in
      let t = r.machine.state in
      r.stop ≡ Stopped.end 0 →
      RunsTo p u.state t.self t.program t.heap r.bytes × Done r r.steps t.self t.program t.heap r.bytes
  -- where C holds, runs of a machine without end mark lead there
  pub leads : (p : Program) (u : Unbounded) (Σ Π : Value) (h : Heap) (bs : List ℕ) → u.state.end_mark ≡ 0 →
      RunsTo p u.state Σ Π h bs → Leads p u Σ Π h bs
  -- C is deterministic
  pub one_result : (p : Program) (s : State) (Σ Π Σ' Π' : Value) (h h' : Heap) (bs bs' : List ℕ) → RunsTo p s Σ Π h bs → RunsTo p s Σ' Π' h' bs' →
      (Σ ≡ Σ') × (Π ≡ Π') × (h ≡ h') × (bs ≡ bs')

-- the unbounded machine's runs of the program of an accepted source are P-Run
pub record ProgramJudged (p : Program) : Type 0 where
  -- Fetch along Main, start from the program frame gives the code at which it starts
  pub start_fetched : Fetch⇒ (start p).heap.frames (start p).program (start_path p) (Value.Code p.start)
  -- P-Run is C from the start
  pub from_start : (Σ Π : Value) (h : Heap) (bs : List ℕ) → P⇒ p Σ Π h bs ↔ RunsTo p (start p) Σ Π h bs
  -- so a run from the start that stops with 0 has done what P-Run says, and where P-Run holds, runs from the start lead there
  pub done : (F T fuel space : ℕ) →
      let r = run p F T fuel space (at_start p) in
      let t = r.machine.state in
      r.stop ≡ Stopped.end 0 → P⇒ p t.self t.program t.heap r.bytes
  pub leads : (Σ Π : Value) (h : Heap) (bs : List ℕ) → P⇒ p Σ Π h bs → Leads p (at_start p) Σ Π h bs

abbrev pub AcceptedJudged : Type 0
AcceptedJudged = (m : Lengths) (source : List ℕ) (F T : ℕ) (p : Program) → refusal m source F T ≡ 0 → program source ≡ some p → ProgramJudged p

-- a total is the length of a duplicate-free list of exactly the numbers in question
pub record Counts (In : ℕ → Type 0) (total : ℕ) : Type 0 where
  pub list : List ℕ
  pub each_once : has_twice list ≡ false
  pub exactly : (n : ℕ) → (member n list ≡ true) ↔ In n
  pub counted : total ≡ length list

-- collect's totals count what is reachable
pub record ReachCounts : Type 0 where
  pub frames : (s : State) → Counts (λ n. InReach s (Value.Frame n)) (frame_total s)
  pub texts : (s : State) → Counts (λ k. InReach s (Value.Text (Text.Made k))) (text_total s)

-- ---- Document 02, A1

-- A path is written so that it means the same list and is never above the program frame. It climbs no further than any other way to write the list, and the
-- frame that it climbs to is one that the list and the holding frame share
pub record PathWritten : Type 0 where
  pub same_path : (place : Place) (q : Path) → resolve_path place (written_path place q) ≡ q
  pub not_above : (place : Place) (q : Path) → above_program place (written_path place q) ≡ false
  pub deepest : (place : Place) (further : ℕ) (ns : List ℕ) → further ≤ length (holder place) →
      length (holder place) - common_prefix (holder place) (names_up (holder place) further ns) ≤ further
  pub is_shared : (hs ns : List ℕ) → take (common_prefix hs ns) hs ≡ take (common_prefix hs ns) ns

-- ---- Document 02, A3

pub record JoinTotal : Type 0 where
  -- `#` of two values gives a new made text of the joined bytes, where they are at most 64
  pub gives_text : (c : Constants) (v w : Value) (h : Heap) →
      let bs = join_bytes c.literals h.texts v w in
      length bs ≤ 64 →
      operate c Operator.join v w h
      ≡ gives (record { value = Value.Text (Text.Made (length h.texts)); heap = record { frames = h.frames; texts = h.texts ++ (bs ∷ []) } })
  -- it ends 34 exactly when they are more, and has no other end
  pub too_long : (c : Constants) (v w : Value) (h : Heap) →
      (operate c Operator.join v w h ≡ ends 34) ↔ (64 < length (join_bytes c.literals h.texts v w))
  pub no_other_end : (c : Constants) (v w : Value) (h : Heap) (e : ℕ) → operate c Operator.join v w h ≡ ends e → e ≡ 34
  -- the expression ends 31 exactly when an operand has no value, however long the other is
  pub no_value : (c : Constants) (n : ℕ) (Σ Π : Value) (a b : Base Path) (h : Heap) →
      (evaluate c n Σ Π (Expression.operation Operator.join a b) h ≡ ends 31)
      ↔ (((v : Value) → ¬ B⇒ Σ Π h.frames a v) ⊎ ((w : Value) → ¬ B⇒ Σ Π h.frames b w))

-- ---- Document 02, A4

-- two codes agree exactly when they are the same tree, with the numbers of codes left out and the bytes of literals in place of their numbers
abbrev pub SameCodeExact : Type 0
SameCodeExact = (literals : List (List ℕ)) (is js : Code Path) → (same_code literals is js ≡ true) ↔ (plain_code literals is ≡ plain_code literals js)

-- `==` is an equivalence on all values
pub record EqualIsEquivalence : Type 0 where
  pub reflexive : (c : Constants) (made : List (List ℕ)) (v : Value) → equal_values c made v v ≡ true
  pub symmetric : (c : Constants) (made : List (List ℕ)) (v w : Value) → equal_values c made v w ≡ true → equal_values c made w v ≡ true
  pub transitive : (c : Constants) (made : List (List ℕ)) (u v w : Value) →
      equal_values c made u v ≡ true → equal_values c made v w ≡ true → equal_values c made u w ≡ true

pub record EqualCodes : Type 0 where
  -- `==` of two codes is 1 exactly when their instruction lists agree, whatever texts are made
  pub codes : (p : Program) (made : List (List ℕ)) (k l : ℕ) →
      (equal_values (constants p) made (Value.Code k) (Value.Code l) ≡ true)
      ↔ (plain_code p.literals (get_or p.codes k Code.finished) ≡ plain_code p.literals (get_or p.codes l Code.finished))
  -- of a code and a value of any other kind it is 0
  pub other_kinds : (p : Program) (made : List (List ℕ)) (k : ℕ) (w : Value) → ((l : ℕ) → w ≢ Value.Code l) →
      equal_values (constants p) made (Value.Code k) w ≡ false

-- ---- Document 02, A5

-- the code `is` begins with instruction n: n is its place in `Program.instructions`, counted from 1, and what follows it in the code is numbered so too
pub data Numbered (p : Program) : ℕ → Code Path → Type 0 where
  none_left : Numbered p 0 Code.finished
  first : {n : ℕ} {i : Instruction Path} {is : Code Path} →
      get_elem? p.instructions n ≡ some i → Numbered p (following p (suc n)) is → Numbered p (suc n) (i then is)

-- every code of the program is numbered so from its first instruction on
abbrev pub CodesNumbered : Program → Type 0
CodesNumbered p = (k : ℕ) → Numbered p (first_of p k) (get_or p.codes k Code.finished)

-- A number is one more than how many instructions begin before, so that equal instructions at two places have two numbers. In a program whose parts are these:
pub record NumbersByPlace (p : Program) (parts : List Part) : Type 0 where
  -- behind `before` stands the instruction i, with `is` behind it in its code; that begins behind i and what is inside it
  pub instruction : (before behind : List Part) (i : Instruction Path) (is : Code Path) → parts ≡ before ++ (line i is ∷ behind) →
      (get_elem? p.instructions (length (instructions_in before)) ≡ some i)
      × (following p (suc (length (instructions_in before))) ≡ first_number (suc (length (instructions_in (before ++ line i is ∷ instruction_parts i)))) is)
  -- behind `before` stands a code literal
  pub code : (before behind : List Part) (is : Code Path) → parts ≡ before ++ (block is ∷ behind) →
      (get_elem? p.codes (length (codes_in before)) ≡ some is)
      × (first_of p (length (codes_in before)) ≡ first_number (suc (length (instructions_in before))) is)

abbrev pub InstructionsPlaced : Type 0
InstructionsPlaced = (source : List ℕ) (p : Program) → program source ≡ some p → NumbersByPlace p (slots_parts p.slots)

-- `State.next` is the number of the first of the remaining instructions: so at the start of a source's program, after every step, and after every list of runs
-- and collects
pub record InstructionsNumbered : Type 0 where
  pub codes : (source : List ℕ) (p : Program) → program source ≡ some p → CodesNumbered p
  pub start : (source : List ℕ) (p : Program) → program source ≡ some p → Numbered p (start p).next (start p).remaining
  pub steps : (p : Program) (F T : ℕ) (s : State) (i : Instruction Path) (rest : Code Path) (x : Effect) → CodesNumbered p →
      Numbered p s.next s.remaining → s.remaining ≡ (i then rest) → step p F T s i rest ≡ gives x → Numbered p x.next x.remaining
  pub runs : (source : List ℕ) (p : Program) (F T : ℕ) (cs : List Call) → program source ≡ some p →
      let s = (calls p F T cs (at_start p)).machine.state in
      Numbered p s.next s.remaining

-- `made_by` counts the reachable frames of a maker
abbrev pub MakersCounted : Type 0
MakersCounted = (s : State) (n : ℕ) → Counts (λ f. InReach s (Value.Frame f) × (maker_in s.heap.frames f ≡ n)) (made_by s n)

-- in states that are alike each instruction made as many
abbrev pub MakersAlike : Type 0
MakersAlike = (s t : State) → Alike s t → (n : ℕ) → made_by s n ≡ made_by t n
