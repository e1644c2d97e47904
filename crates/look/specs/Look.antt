-- Document 01, the call look and its companion: what they answer, for every four memories (program words p, heap words h, literal bytes l, text bytes t) and every
-- path text, and what that means: `framed`'s look over what the memories hold, so Fetch decides. Assumes nothing.
use Rattle.std.specs.Prelude.{◌≡◌, ◌↔◌, true, List, [], ℕ}
use Rattle.std.proofs.Math.Option.{some}
use Rattle.framed.specs.declared.LookAnswer.{LookAnswer}
use Rattle.framed.specs.declared.Value.{Value}
use Rattle.framed.specs.Answers.{Look, look_word}
use Rattle.framed.specs.Common.{member}
use Rattle.framed.specs.Bytes.{class}
use Rattle.framed.specs.Tokens.{tokens}
use Rattle.framed.specs.Tree.{Written}
use Rattle.framed.specs.Calls.{read_path, look, look_text, look_names, LooksAs, LooksTextAs}
use Rattle.words.specs.Words.{pick}
use Rattle.heap.specs.Words.{maker_at}
use Rattle.tables.specs.Fields.{names}
use Rattle.trees.specs.Held.{program_held}
use Rattle.wellformed.specs.WellFormed.{WellFormed, well_formed}
use Rattle.wellformed.specs.Held.{state_held}
use Rattle.look_path.specs.declared.Resolved.{Resolved}
use Rattle.look_path.specs.Resolve.{resolved}
use Rattle.look_part.specs.declared.Part.{Part}
use Rattle.look_part.specs.Part.{no_part, part_found, bytes_in}

-- ---- Look

-- for a frame with its maker
unfoldable pub kind_answer : List ℕ → Value → LookAnswer
kind_answer h (Value.Int z) = LookAnswer.Integer z
kind_answer h (Value.Text x) = LookAnswer.Text
kind_answer h (Value.Code k) = LookAnswer.Code
kind_answer h (Value.Frame f) = LookAnswer.Frame (maker_at h f)

-- 21 where the text is not such a path, 22 where Fetch is undefined
unfoldable pub answer : List ℕ → Resolved → LookAnswer
answer h (Resolved.Found v) = kind_answer h v
answer h Resolved.Undefined = LookAnswer.Undefined
answer h Resolved.NotPath = LookAnswer.NotPath

-- 20 first
unfoldable pub look_call : (p h l t path : List ℕ) → LookAnswer
look_call p h l t path = pick (well_formed p h l t) (answer h (resolved (program_held p l) (state_held p h t) path)) LookAnswer.NotWellFormed

pub record LookMeans (p h l t path : List ℕ) (r : LookAnswer) : Type 0 where
  pub refused : ¬ WellFormed p h l t → r ≡ LookAnswer.NotWellFormed
  pub looked : WellFormed p h l t → look_word r ≡ look (program_held p l) (state_held p h t) path
  -- for a path text: the kind of the value that the judgment Fetch gives, and 22 exactly where it gives none
  pub fetched : WellFormed p h l t → (w : Written) (k : Look) → read_path (program_held p l) (tokens class path) ≡ some w → (look_word r ≡ k) ↔ LooksAs (state_held p h t) w k

-- ---- The companion

-- the part of the literal bytes or of the text bytes that it returns
unfoldable pub look_part : (p h l t path : List ℕ) → Part
look_part p h l t path = pick (well_formed p h l t) (part_found p h (resolved (program_held p l) (state_held p h t) path)) no_part

-- its bytes
unfoldable pub look_bytes : (p h l t path : List ℕ) → List ℕ
look_bytes p h l t path = bytes_in l t (look_part p h l t path)

pub record LookTextMeans (p h l t path bytes : List ℕ) : Type 0 where
  pub refused : ¬ WellFormed p h l t → bytes ≡ []
  pub looked : WellFormed p h l t → bytes ≡ look_text (program_held p l) (state_held p h t) path
  pub fetched : WellFormed p h l t → (w : Written) (bs : List ℕ) → read_path (program_held p l) (tokens class path) ≡ some w →
      (bytes ≡ bs) ↔ LooksTextAs (program_held p l) (state_held p h t) w bs

-- ---- What the definitions mean

abbrev pub LookIsFetch : Type 0
LookIsFetch = (p h l t path : List ℕ) → LookMeans p h l t path (look_call p h l t path)

abbrev pub LookTextIsFetch : Type 0
LookTextIsFetch = (p h l t path : List ℕ) → LookTextMeans p h l t path (look_bytes p h l t path)

-- a name that the program lacks has the number after the last. A path with such a name is 22
abbrev pub LackedIsUndefined : Type 0
LackedIsUndefined =
    (p h l t path : List ℕ) (w : Written) → WellFormed p h l t → read_path (program_held p l) (tokens class path) ≡ some w → member (names p) (look_names w) ≡ true
    → look_call p h l t path ≡ LookAnswer.Undefined
