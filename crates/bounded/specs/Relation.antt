-- Document 01, "The endless machine", last paragraph: the bounded machine's state against the unbounded machine's, under a relation of frame numbers and of made
-- texts' numbers that is one-to-one both ways and need not cover what is not reached. Assumes nothing.
use Rattle.std.specs.Prelude.{◌≡◌, ◌⊎◌, List, [], ◌∷◌, ℕ, ◌≤◌, ℤ, length}
use Rattle.std.proofs.Math.Option.{some}
use Rattle.framed.specs.declared.Value.{Value}
use Rattle.framed.specs.declared.Text.{Text}
use Rattle.framed.specs.Program.{Program}
use Rattle.framed.specs.Values.{Slot, Frame}
use Rattle.framed.specs.Machine.{State}
use Rattle.bounded.specs.Views.{View, frame_at, text_at, all_used, frames_used, texts_used}
use Rattle.bounded.specs.Fits.{Valid, CodeFits}
use Rattle.bounded.specs.Store.{Store, Laws}
use Rattle.bounded.specs.Bounded.{Bounded}

-- one relation for the frames, one for the made texts
pub record Rel : Type 1 where
  pub frame : ℕ → ℕ → Type 0
  pub text : ℕ → ℕ → Type 0

-- integers, literals and codes are related where they are equal
pub data ValueRel (R : Rel) : Value → Value → Type 0 where
  integers : {z : ℤ} → ValueRel R (Value.Int z) (Value.Int z)
  literals : {k : ℕ} → ValueRel R (Value.Text (Text.Literal k)) (Value.Text (Text.Literal k))
  texts : {j k : ℕ} → R.text j k → ValueRel R (Value.Text (Text.Made j)) (Value.Text (Text.Made k))
  codes : {k : ℕ} → ValueRel R (Value.Code k) (Value.Code k)
  frames : {m n : ℕ} → R.frame m n → ValueRel R (Value.Frame m) (Value.Frame n)

-- the same names in the same order, values related
pub data SlotsRel (R : Rel) : List Slot → List Slot → Type 0 where
  none_left : SlotsRel R [] []
  next_slot : {x y : Slot} {xs ys : List Slot} → x.name ≡ y.name → ValueRel R x.value y.value → SlotsRel R xs ys → SlotsRel R (x ∷ xs) (y ∷ ys)

pub record FramesLinked (R : Rel) (H K : View) (m n : ℕ) : Type 0 where
  pub left : Frame
  pub right : Frame
  pub at_left : frame_at H m ≡ some left
  pub at_right : frame_at K n ≡ some right
  pub alike : SlotsRel R left.slots right.slots
  pub same_maker : left.maker ≡ right.maker

pub record TextsLinked (H K : View) (j k : ℕ) : Type 0 where
  pub bytes : List ℕ
  pub at_left : text_at H j ≡ some bytes
  pub at_right : text_at K k ≡ some bytes

-- what is related is there on both sides, and alike; and the relation is one-to-one both ways
pub record Simulates (R : Rel) (H K : View) : Type 0 where
  pub frame_link : (m n : ℕ) → R.frame m n → FramesLinked R H K m n
  pub frame_right : (m n o : ℕ) → R.frame m n → R.frame m o → n ≡ o
  pub frame_left : (m n o : ℕ) → R.frame m o → R.frame n o → m ≡ n
  pub text_link : (j k : ℕ) → R.text j k → TextsLinked H K j k
  pub text_right : (j k l : ℕ) → R.text j k → R.text j l → k ≡ l
  pub text_left : (j k l : ℕ) → R.text j l → R.text k l → j ≡ k

-- 0, or 31 to 37
abbrev pub EndMark : ℕ → Type 0
EndMark e = (e ≡ 0) ⊎ ((31 ≤ e) × (e ≤ 37))

module _ {S : Type 0} (𝓞 : Store S) (p : Program) (𝓛 : Laws 𝓞 p) (F T : ℕ) where
  -- the state of the bounded machine is well-formed (document 01: whole)
  pub record WellFormed (b : Bounded S) : Type 0 where
    pub store : 𝓛.WellFormed b.store
    pub self : Valid p (𝓞.view b.store) b.self
    pub program : Valid p (𝓞.view b.store) b.program
    pub remaining : CodeFits p b.remaining
    pub next : b.next ≤ length p.instructions
    pub mark : EndMark b.end_mark
    pub frames_few : frames_used (𝓞.view b.store) ≤ F
    pub texts_few : texts_used (𝓞.view b.store) ≤ T

  -- b is the bounded machine's state, s the unbounded one's
  pub record Related (b : Bounded S) (s : State) : Type 1 where
    pub relation : Rel
    pub well_formed : WellFormed b
    pub heaps : Simulates relation (𝓞.view b.store) (all_used s.heap)
    pub self : ValueRel relation b.self s.self
    pub program : ValueRel relation b.program s.program
    pub remaining : b.remaining ≡ s.remaining
    pub next : b.next ≡ s.next
    pub end_mark : b.end_mark ≡ s.end_mark
