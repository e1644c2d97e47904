-- One law for each way through the functions of this crate. Assumes nothing.
use mathlib.Core.Path.{◌≡◌, refl, sym, ◌∙◌}
use mathlib.Core.Bool.{Bool, true, false, not}
use mathlib.Core.List.{List}
use Prim.Native.Nat.{ℕ}
use lib.IntN.{ℤ}
use borrow.Author.Tests.{not-true, not-false}
use denote.Ref.{Bor}
use Rattle.framed.specs.declared.LookAnswer.{LookAnswer}
use Rattle.framed.specs.declared.Text.{Text}
use Rattle.framed.specs.declared.Value.{Value}
use Rattle.heap.specs.Words.{maker_at}
use Rattle.heap.specs.Held.{heap_held}
use Rattle.trees.specs.Held.{program_held}
use Rattle.wellformed.specs.WellFormed.{WellFormed, well_formed}
use Rattle.wellformed.specs.Held.{state_held}
use Rattle.wellformed.proofs.Decides.{well_formed_decides}
use Rattle.look_names.proofs.Laws.{names_of_program}
use Rattle.look_path.specs.declared.Resolved.{Resolved}
use Rattle.look_path.specs.Resolve.{resolved, Resolves}
use Rattle.look_part.specs.declared.Part.{Part}
use Rattle.look_part.specs.Part.{part_found, bytes_in, PartOf, PartIs, InMemory}
use Rattle.look.specs.Look.{kind_answer, answer, look_call, LookMeans, look_part, look_bytes, LookTextMeans}
use Rattle.look.proofs.Means.{look_is_fetch, part_in, look_text_is_fetch}

-- ---- kind_answer, answer

module _ (h : List ℕ) (v : Value) where
  pub kind_integer : (z a : ℤ) → v ≡ Value.Int z → a ≡ z → LookAnswer.Integer a ≡ kind_answer h v
  unfolding kind_answer
  kind_integer z a e ea = rw (e, ea)

  pub kind_text : (x : Text) → v ≡ Value.Text x → LookAnswer.Text ≡ kind_answer h v
  unfolding kind_answer
  kind_text x e = rw e

  pub kind_code : (k : ℕ) → v ≡ Value.Code k → LookAnswer.Code ≡ kind_answer h v
  unfolding kind_answer
  kind_code k e = rw e

  pub kind_frame : (f m : ℕ) → v ≡ Value.Frame f → m ≡ maker_at h f → LookAnswer.Frame m ≡ kind_answer h v
  unfolding kind_answer
  kind_frame f m e em = rw (e, em)

module _ (h : List ℕ) (x : Resolved) where
  pub answer_found : (v : Value) (r : LookAnswer) → x ≡ Resolved.Found v → r ≡ kind_answer h v → r ≡ answer h x
  unfolding answer
  answer_found v r e er = rw (e, er)

  pub answer_undefined : x ≡ Resolved.Undefined → LookAnswer.Undefined ≡ answer h x
  unfolding answer
  answer_undefined e = rw e

  pub answer_not_path : x ≡ Resolved.NotPath → LookAnswer.NotPath ≡ answer h x
  unfolding answer
  answer_not_path e = rw e

-- ---- look, look_text

-- what the path leads to over the words is what it leads to in what they hold
held : (p h l t path : List ℕ) (x : Resolved) → Resolves p h path x → x ≡ resolved (program_held p l) (state_held p h t) path
unfolding state_held heap_held
held p h l t path x f = f.is (program_held p l) (state_held p h t) (names_of_program p l) refl refl refl

module _ (p h l t path : List ℕ) (b : Bool) (eb : b ≡ well_formed p h l t) where
  pub look_refused : not b ≡ true → LookAnswer.NotWellFormed ≡ look_call p h l t path
  unfolding look_call
  look_refused e = rw (← eb, not-true b e)

  pub look_answered : (x : Resolved) (r : LookAnswer) → not b ≡ false → Resolves p h path x → r ≡ answer h x → r ≡ look_call p h l t path
  unfolding look_call
  look_answered x r e f er = rw (← eb, not-false b e, er, held p h l t path x f)

  is_formed : not b ≡ false → WellFormed p h l t
  is_formed e = (well_formed_decides p h l t).0 (sym eb ∙ not-false b e)

  -- what part_bytes requires
  pub found_inside : (x : Resolved) (y : Part) → not b ≡ false → y ≡ part_found p h x → InMemory l t y
  found_inside x y e ey = rw ey (part_in p h l t (is_formed e) x)

pub look_means : (p h l t path : List ℕ) (r : LookAnswer) → r ≡ look_call p h l t path → LookMeans p h l t path r
look_means p h l t path r e = rw e (look_is_fetch p h l t path)

module _ (p h path : List ℕ) (l t r : Bor (List ℕ)) (b : Bool) (eb : b ≡ well_formed p h l.now t.now) where
  pub text_refused : not b ≡ true → PartOf l 0 0 r → PartIs l t (look_part p h l.now t.now path) r
  unfolding look_part PartIs
  text_refused e q = rw (← eb, not-true b e) q

  pub text_answered : (x : Resolved) (y : Part) → not b ≡ false → Resolves p h path x → y ≡ part_found p h x → PartIs l t y r → PartIs l t (look_part p h l.now t.now path) r
  unfolding look_part
  text_answered x y e f ey q = rw (← eb, not-false b e, ← held p h l.now t.now path x f, ← ey) q

bytes_are : (l t : Bor (List ℕ)) (x : Part) (r : Bor (List ℕ)) → PartIs l t x r → r.now ≡ bytes_in l.now t.now x
unfolding PartIs bytes_in
bytes_are l t (Part.Literal from n) r q = q.bytes
bytes_are l t (Part.Made from n) r q = q.bytes

pub text_means : (p h path : List ℕ) (l t r : Bor (List ℕ)) → PartIs l t (look_part p h l.now t.now path) r → LookTextMeans p h l.now t.now path r.now
unfolding look_bytes
text_means p h path l t r q = rw (bytes_are l t _ r q) (look_text_is_fetch p h l.now t.now path)
