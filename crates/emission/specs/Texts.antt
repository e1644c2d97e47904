-- docs/LAYOUT.md, program words and literal bytes: lists that are read by number, names, literals and the header of a resolved program. Assumes nothing.
use Rattle.std.specs.Prelude.{◌≡◌, List, [], ◌∷◌, ℕ, ◌+◌, length}
use Rattle.framed.specs.Program.{Program}
use Rattle.tables.specs.Fields.{frame_limit, text_limit, names, literals, expressions, instructions, codes, path_names, program_slots, start}
use Rattle.shapes.specs.Numbers.{slots_size}
use Rattle.emission.specs.Emit.{first_slot_place}

-- g has the elements of a list from number i on
pub data Listed {A : Type 0} (g : ℕ → A) : ℕ → List A → Type 0 where
  none : {i : ℕ} → Listed g i []
  more : {i : ℕ} {a : A} {l : List A} → g i ≡ a → Listed g (i + 1) l → Listed g i (a ∷ l)

-- texts from number k on: the length of each, and its bytes
pub data TextsAt (size : ℕ → ℕ) (byte : ℕ → ℕ → ℕ) : ℕ → List (List ℕ) → Type 0 where
  none : {k : ℕ} → TextsAt size byte k []
  more : {k : ℕ} {w : List ℕ} {ws : List (List ℕ)} → size k ≡ length w → Listed (byte k) 0 w → TextsAt size byte (k + 1) ws → TextsAt size byte k (w ∷ ws)

pub record HeaderAt (p : List ℕ) (q : Program) (F T : ℕ) : Type 0 where
  pub F_is : frame_limit p ≡ F
  pub T_is : text_limit p ≡ T
  pub names_are : names p ≡ length q.names
  pub literals_are : literals p ≡ length q.literals
  pub expressions_are : expressions p ≡ (slots_size q.slots).expressions
  pub instructions_are : instructions p ≡ (slots_size q.slots).instructions
  pub codes_are : codes p ≡ (slots_size q.slots).codes
  pub path_names_are : path_names p ≡ (slots_size q.slots).path_names
  pub slots_are : program_slots p ≡ first_slot_place q.slots 0
  pub start_is : start p ≡ q.start
